-- A `]` in an arena, with the opener that is tried for it.
use Rattle.std.specs.Prelude.{◌≡◌, ℕ, ◌<◌, ◌≤◌, ◌&&◌, ◌||◌, ◌++◌, ◌==◌, not, Bool, List, Option, Some, None}
use Rattle.std.specs.Prelude.{is_some, if◌then◌else◌}
use Rattle.std.specs.Option.{option_and_then, option_map}
use Rattle.markdown_base.specs.Arena.{sibling_of}
use Rattle.markdown_base.specs.ArenaForest.{links_of, forest_at}
use Rattle.markdown_base.specs.BlockTree.{item_at}
use Rattle.markdown_base.specs.Questions.{Question, Answer, Answers}
use Rattle.markdown_base.specs.declared.item.Item.{Item}
use Rattle.markdown_base.specs.declared.item.ItemBody.{ItemBody}
use Rattle.markdown_base.specs.declared.tag.LinkType.TheVariants as kind
use Rattle.markdown_base.specs.declared.node.Node.{Node}
use Rattle.markdown_document.specs.ChainRest.{start_of, end_of}
use Rattle.markdown_document.specs.Tables.{Tables}
use Rattle.markdown_document.specs.ChainRest.{joined_chains}
use Rattle.markdown_document.specs.Document.{TreeNode}
use Rattle.markdown_base.specs.Forest.{Forest, nil, node, first_root}
use Rattle.markdown_brackets.specs.BracketDecision.{BracketContext, Becomes, Closing, Written, LinkReference, Progress}
use Rattle.markdown_brackets.specs.BracketDecision.{Wikilink}
use Rattle.markdown_brackets.specs.BracketDecision.{a_wikilink, bracket_found, carried_out, decided, past_second, to_be}
use Rattle.markdown_brackets.specs.BracketDecision.{wikilink_in}
use Rattle.markdown_base.specs.CowText.{text_of}
use Rattle.markdown_brackets.specs.Reference.{could_be_reference}
use Rattle.markdown_brackets.specs.Wikilink.{WikilinkBody, has_pothole, Shows, shows_name, shows_nothing, shows_from}
use Rattle.markdown_brackets.specs.Wikilink.{wikilink_body}
use Rattle.markdown_brackets.specs.declared.wikilink_nodes.ShownNodes.{ShownNodes}
use Rattle.markdown_brackets.specs.declared.closing_bracket.ClosedBracket.TheVariants.{Wikilinked}
use Rattle.markdown_brackets.specs.ChainHeld.{Holds, numbers_of, times_of, link_to}
use Rattle.markdown_brackets.specs.DecisionView.{IsBecome, IsShownAfterPipe, bracket_context_at, first_shown, knowing}
use Rattle.markdown_brackets.specs.DecisionView.{opener_of}
use Rattle.markdown_brackets.specs.DecisionView.{shown_of}
use Rattle.markdown_brackets.specs.LeftList.{Split, inside, is_live, Entry, trees_onto, bracket_taken, wikilink_taken}
use Rattle.markdown_brackets.specs.LeftList.{nearest, opens_bracket}
use Rattle.markdown_brackets.specs.ReadChain.{among}
use Rattle.markdown_brackets.specs.SpentEnds.{is_spent}
use Rattle.markdown_brackets.specs.declared.bracket_reader.BracketReader.{BracketReader}
use Rattle.markdown_brackets.specs.declared.closing_bracket.ClosedBracket.{ClosedBracket}
use Rattle.markdown_brackets.specs.declared.look_up.LabelLookup.{LabelLookup}
use Rattle.markdown_brackets.specs.declared.openers.Opener.{Opener}
use Rattle.markdown_brackets.specs.declared.spent_ends.SpentEnds.{SpentEnds}
use Rattle.markdown_document.specs.declared.chain_place.ChainPlace.{ChainPlace}
use Rattle.markdown_document.specs.Setting.{uses_of}
use Rattle.markdown_defs.specs.Callback.{Asks}
use Rattle.markdown_brackets.specs.declared.wikilink_nodes.ShownNodes.TheVariants.{Over, From}
use Rattle.markdown_brackets.specs.Openers.{Waiting}
use Rattle.markdown_brackets.specs.ChainAhead.{numbers_past}
use Rattle.markdown_brackets.specs.Finish.{IsSplit}
use Rattle.markdown_brackets.specs.HeldOpeners.{brackets_of, wikilinks_of}
use Rattle.markdown_defs.specs.declared.callback.BrokenLink.{BrokenLink}
use Rattle.markdown_brackets.specs.WikilinkNodes.{body_start}
use Rattle.markdown_brackets.specs.Decides.{CanTry}

-- the `]` of a node could be a reference, and does not end the label of an earlier one
abbrev pub could_be_at : List (Node Item) → (closer : ℕ) → SpentEnds → Bool
could_be_at nodes closer spent =
    could_be_reference (item_at nodes closer).body && not (is_spent spent (item_at nodes closer).end)

-- an opener can be tried, and the `]` is in the block
pub record CanTryInside (nodes : List (Node Item)) (place : ChainPlace) (closer opener : ℕ) : Type 0 where
  pub can : CanTry nodes place closer opener
  pub inside : (item_at nodes closer).end ≤ place.block_end

-- a full reference from the opener on
pub record IsFull (nodes : List (Node Item)) (opener : Opener) (about : BrokenLink) : Type 0 where
  pub some : 0 < about.span.end
  pub kind_is : about.link_type ≡ kind.Reference
  pub starts : about.span.start ≡ (item_at nodes opener.node).start

-- the `]` that end at these byte offsets are used up
abbrev pub Spends : List ℕ → (spent spent' : SpentEnds) → Type 0
Spends ends spent spent' = (end : ℕ) → is_spent spent' end ≡ (among end ends || is_spent spent end)

-- the reference whose label is asked about
abbrev pub reference_to : BrokenLink → (next : ℕ) → (spends : List ℕ) → LinkReference
reference_to about next spends = record {
  link_type = about.link_type;
  label = text_of about.reference;
  end = about.span.end;
  next = next;
  spends = spends;
}

-- what the brackets of a chain at this place depend on, by what labels are looked up in
abbrev pub bracket_context_by : {C : Type 0} → ChainPlace → (List ℕ → ℕ) → List ItemBody → LabelLookup C
    → BracketContext
bracket_context_by place skipped bodies lookup =
    bracket_context_at place skipped bodies lookup.tables.refdefs lookup.tables.footdefs (is_some lookup.callback)

-- the result of carrying out what was found: the callback answered these questions, at most one, and the result is what
-- the rules say whatever answers follow, which are left
pub record ComesTo {C : Type 0} (step : C → Question → Option Answer → C → Type 0) (w : BracketContext)
    (find : Option (Written ℕ)) (old new : LabelLookup C) (spent spent' : SpentEnds) (found : ClosedBracket) : Type 0
  where
    pub answers : Answers
    pub questions : List Question
    pub asked : Asks step old.callback questions answers new.callback
    pub becomes : Becomes ℕ
    pub more : List ℕ
    pub comes : (p : Progress ℕ) (later : Answers)
        → carried_out w find (knowing old.limit (answers ++ later) (uses_of old.tables.footdefs) p)
        ≡ to_be becomes (record (knowing new.limit later (uses_of new.tables.footdefs) p)
        { spent = more ++ p.spent; asked = p.asked ++ questions })
    pub spends : Spends more spent spent'
    pub is : IsBecome w becomes found

-- what is found from an opener at a `]` is carried out as the rules say, where that opener is the one of a split
abbrev pub Tries : {C R : Type 0} → (C → Question → Option Answer → C → Type 0) → BracketReader R → Opener
    → (old new : LabelLookup C) → (spent spent' : SpentEnds) → (BracketContext → Split ℕ → Option (Written ℕ))
    → ClosedBracket → Type 0
Tries step at opener old new spent spent' find found = (skipped : List ℕ → ℕ) (bodies : List ItemBody) (o : Split ℕ)
    → opener ≡ opener_of o → (item_at at.tree.now.nodes opener.node).start ≡ start_of o.opener
    → ComesTo step (bracket_context_by at.place.now skipped bodies old) (find
    (bracket_context_by at.place.now skipped bodies old) o) old
    new spent spent' found

-- the opener that was taken off a stack is this one of the left list, and has its range
pub record IsTaken (nodes : List (Node Item)) (t : Opener × Bool) (o : Split ℕ) : Type 0 where
  pub opener : t.0 ≡ opener_of o
  pub live : t.1 ≡ is_live o.state.bracket
  pub starts : (item_at nodes t.0.node).start ≡ start_of o.opener
  pub ends : (item_at nodes t.0.node).end ≡ end_of o.opener

-- the opener that was taken off a stack, if any, is that of the split
abbrev pub AreTaken : List (Node Item) → Option (Opener × Bool) → Option (Split ℕ) → Type 0
AreTaken nodes None None = Unit {0}
AreTaken nodes None (Some o) = ⊥
AreTaken nodes (Some t) None = ⊥
AreTaken nodes (Some t) (Some o) = IsTaken nodes t o

-- the `]` is a node, and the links after it lead through the rest of the chain
pub record TriesOpener (nodes : List (Node Item)) (closer : ℕ) (could_be : Bool) (taken : Option (Opener × Bool))
    (c : Closing ℕ) (o : Option (Split ℕ)) : Type 0 where
  pub source : List ℕ
  pub tables : Tables
  pub rest : Holds source tables nodes (sibling_of nodes closer) c.rest
  pub rest_found : forest_at (links_of nodes) (sibling_of nodes closer) ≡ numbers_of c.rest
  pub ends : (item_at nodes closer).end ≡ end_of c.node
  pub could : c.could_be_reference ≡ could_be
  pub openers : AreTaken nodes taken o

-- what a wikilink shows begins at this node, unless that is the `]`
abbrev pub shown_from_node : (closer at : ℕ) → Option ℕ → Option ShownNodes
shown_from_node closer at None = None
shown_from_node closer at (Some ix) = if ix == closer then None else Some (From ix at)

-- what a wikilink shows of its body, in nodes
abbrev pub shown_in : List (Node Item) → (first closer : ℕ) → Shows → (start end : ℕ) → Option ShownNodes
shown_in nodes first closer shows_name start end = Some (Over first start end)
shown_in nodes first closer (shows_nothing at) start end = Some (Over first at at)
shown_in nodes first closer (shows_from at) start end =
    shown_from_node closer at (first_root (numbers_past nodes at (forest_at (links_of nodes) (Some first))))

-- the wikilink with this body, whose first node is given, if it shows anything
abbrev pub wikilink_of : List (Node Item) → (first closer : ℕ) → WikilinkBody → Option (WikilinkBody × ShownNodes)
wikilink_of nodes first closer b =
    option_map (λ shown. (b, shown))
    (shown_in nodes first closer b.shows (item_at nodes first).start (item_at nodes closer).start)

-- the body of a wikilink, and what is shown, from the first node of its body
abbrev pub wikilink_from : List (Node Item) → List ℕ → (block_end closer first : ℕ)
    → Option (WikilinkBody × ShownNodes)
wikilink_from nodes text block_end closer first =
    option_and_then (wikilink_of nodes first closer)
    (wikilink_body text block_end (item_at nodes first).start (item_at nodes closer).start)

-- the body of a wikilink, and what is shown, from the nodes of its brackets
abbrev pub wikilink_nodes : List (Node Item) → List ℕ → (block_end opener closer : ℕ)
    → Option (WikilinkBody × ShownNodes)
wikilink_nodes nodes text block_end opener closer =
    option_and_then (wikilink_from nodes text block_end closer) (body_start nodes opener closer)

-- a returned value is the wikilink with this body and these shown nodes, or `None` if there is none
abbrev pub IsWikilinkAt : Opener → (end : ℕ) → Option (WikilinkBody × ShownNodes) → Option ClosedBracket → Type 0
IsWikilinkAt opener end None None = Unit {0}
IsWikilinkAt opener end None (Some found) = ⊥
IsWikilinkAt opener end (Some v) (Some (Wikilinked found_opener name pothole shown found_end)) =
    (found_opener ≡ opener) × (name.now ≡ v.0.name) × (pothole ≡ has_pothole v.0.shows) × (shown ≡ v.1)
    × (found_end ≡ end)
IsWikilinkAt opener end (Some v) found = ⊥

-- a returned value is this wikilink, which shows trees, or `None` if there is none
abbrev pub IsWikilink : BracketContext → Opener → (end : ℕ) → Forest (TreeNode ℕ) → Option (Wikilink ℕ)
    → Option ClosedBracket
    → Type 0
IsWikilink w opener end trees None None = Unit {0}
IsWikilink w opener end trees None (Some found) = ⊥
IsWikilink w opener end trees (Some v) (Some (Wikilinked found_opener name pothole shown found_end)) =
    (found_opener ≡ opener) × (name.now ≡ v.name) × (pothole ≡ v.has_pothole) × (shown_of w trees shown ≡ v.children)
    × (link_to v.children ≡ Some (first_shown shown)) × (found_end ≡ end) × IsShownAfterPipe w.setting.text shown
IsWikilink w opener end trees (Some v) found = ⊥

-- an arena contains the trees between an opener and the `]` of a node, and the chain after that
pub record HoldsInside (nodes : List (Node Item)) (closer : ℕ) (opener : Opener) (c : Closing ℕ) (o : Split ℕ) : Type
    0 where
  pub source : List ℕ
  pub tables : Tables
  pub holds : Holds source tables nodes (sibling_of nodes opener.node)
      (joined_chains (inside o) (node c.node nil c.rest))
  pub found : forest_at (links_of nodes) (sibling_of nodes opener.node)
      ≡ numbers_of (joined_chains (inside o) (node c.node nil c.rest))
  pub apart : times_of c.node.note (inside o) ≡ 0
  pub number : c.node.note ≡ closer
  pub starts : (item_at nodes closer).start ≡ start_of c.node
  pub order : start_of c.node ≤ end_of c.node

-- the opener that was taken off a stack is this one of the left list, and precedes the `]`
pub record IsTakenBefore (nodes : List (Node Item)) (closer : ℕ) (t : Opener × Bool) (c : Closing ℕ) (o : Split ℕ)
    : Type 0 where
  pub opener : t.0 ≡ opener_of o
  pub live : t.1 ≡ is_live o.state.wikilink
  pub stands : HoldsInside nodes closer t.0 c o

-- the opener with which a wikilink is tried, if any, is that of the split
abbrev pub TriesWikilink : List (Node Item) → (closer : ℕ) → Option (Opener × Bool) → Closing ℕ → Option (Split ℕ)
    → Type 0
TriesWikilink nodes closer None c None = Unit {0}
TriesWikilink nodes closer None c (Some o) = ⊥
TriesWikilink nodes closer (Some t) c None = ⊥
TriesWikilink nodes closer (Some t) c (Some o) = IsTakenBefore nodes closer t c o

-- a returned value is the wikilink of the opener, if the opener is live and there is one
abbrev pub FindsWikilink : BracketContext → (end : ℕ) → Closing ℕ → Option (Split ℕ) → Option ClosedBracket → Type 0
FindsWikilink w end c None found = found ≡ None
FindsWikilink w end c (Some o) found =
    IsWikilink w (opener_of o) end (past_second (inside o))
    (if is_live o.state.wikilink then wikilink_in w (past_second (inside o)) (start_of c.node) else None) found

-- no wikilink is found: what is found from the nearest bracket opener is carried out, with a left list without the
-- opener that was tried
pub record TakesNone (w : BracketContext) (c : Closing ℕ) (left : List (Entry ℕ)) (held : List Waiting) : Type 0 where
  pub left_then : List (Entry ℕ)
  pub held_is : held ≡ wikilinks_of left_then
  pub brackets : brackets_of left_then ≡ brackets_of left
  pub trees : (later : Forest (TreeNode ℕ)) → trees_onto left_then later ≡ trees_onto left later
  pub decides : (p : Progress ℕ) → decided w c (record p { left = left })
      ≡ carried_out w (option_and_then (bracket_found w c) (nearest opens_bracket left_then))
      (record p { left = bracket_taken left_then })

-- a wikilink is found
pub record TakesOne (w : BracketContext) (c : Closing ℕ) (left : List (Entry ℕ)) (held : List Waiting)
    (found : ClosedBracket)
    : Type 0 where
  pub opener : Split ℕ
  pub wikilink : Wikilink ℕ
  pub end : ℕ
  pub held_is : held ≡ wikilinks_of (bracket_taken (wikilink_taken left))
  pub splits : IsSplit (bracket_taken (wikilink_taken left)) opener
  pub decides : (p : Progress ℕ) → decided w c (record p { left = left })
      ≡ to_be (a_wikilink opener wikilink end) (record p { left = bracket_taken (wikilink_taken left) })
  pub is : IsBecome w (a_wikilink opener wikilink end) found

-- a wikilink is found, or none
abbrev pub TakesWikilink : BracketContext → Closing ℕ → List (Entry ℕ) → List Waiting → Option ClosedBracket → Type 0
TakesWikilink w c left held None = TakesNone w c left held
TakesWikilink w c left held (Some found) = TakesOne w c left held found
