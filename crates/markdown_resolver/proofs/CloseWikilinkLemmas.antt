-- A wikilink, put in the place of its opener: over a Text, or over what is inside from a byte offset on.
use Rattle.std.proofs.Common.{◌≡◌, ℕ, zero, suc, ◌<◌, ◌≤◌, Bool, true, false, List, [], ◌∷◌, ◌++◌, length, max, Some}
use Rattle.std.proofs.Common.{Bor, refl, sym, ap, ◌∙◌, subst, arith, if◌then◌else◌, nat_le}
use Rattle.std.proofs.lemmas.Bool.Decides.{nat_tests}
use Rattle.std.specs.Prelude.{IsCharBoundary}
use Rattle.markdown_base.specs.Arena.{sibling_of}
use Rattle.markdown_base.specs.ArenaForest.{forest_at, links_of}
use Rattle.markdown_base.specs.BlockTree.{item_at}
use Rattle.markdown_base.specs.Event.{link_view}
use Rattle.markdown_base.specs.Forest.{Forest, nil, node, relabelled, roots}
use Rattle.markdown_base.specs.declared.index.LinkIndex.{LinkIndex}
use Rattle.markdown_base.specs.declared.item.Item.{Item}
use Rattle.markdown_base.specs.declared.item.ItemBody.{ItemBody}
use Rattle.markdown_base.specs.declared.item.ItemBody.TheVariants as body
use Rattle.markdown_base.specs.declared.node.Node.{Node}
use Rattle.markdown_base.specs.declared.tag.LinkType.TheVariants as kind
use Rattle.markdown_brackets.specs.BracketDecision.{BracketContext, Becomes, Closing, Wikilink, a_wikilink, past_second}
use Rattle.markdown_brackets.specs.BracketDecision.{text_from}
use Rattle.markdown_brackets.specs.ChainHeld.{link_to, numbers_of}
use Rattle.markdown_brackets.specs.ClosingBracket.{linked, wikilink_target}
use Rattle.markdown_brackets.specs.DecisionView.{IsBecome, first_shown, opener_of, shown_of, IsShownAfterPipe}
use Rattle.markdown_brackets.specs.LeftList.{Entry, Split, inside}
use Rattle.markdown_brackets.specs.declared.closing_bracket.ClosedBracket.TheVariants.{Wikilinked}
use Rattle.markdown_brackets.specs.declared.openers.Opener.{Opener}
use Rattle.markdown_brackets.specs.declared.wikilink_nodes.ShownNodes.{ShownNodes}
use Rattle.markdown_brackets.specs.declared.wikilink_nodes.ShownNodes.TheVariants.{From, Over}
use Rattle.markdown_document.specs.ChainRest.{begun_at, end_of, past_byte, start_of}
use Rattle.markdown_document.specs.Document.{TreeNode, Plain, tree_node_of}
use Rattle.markdown_document.specs.LinkOrigins.{IsLinkFrom, LinkOrigins}
use Rattle.markdown_document.specs.Origins.{IsSliceWithin, origin_of, sliced}
use Rattle.markdown_document.specs.Tables.{Tables, link_origins, tables_of}
use Rattle.markdown_defs.specs.Allocations.{Allocated, LinkParts}
use Rattle.markdown_defs.specs.AllocationCalls.{with_link}
use Rattle.markdown_resolver.specs.declared.continuation.Continuation.{Continuation}
use Rattle.markdown_resolver.specs.ClosedOver.{CanClose, CanPutOver, CanShow, PutsOver, first_trees, over_shown}
use Rattle.markdown_resolver.specs.ClosedOver.{over_text, trees_past}
use Rattle.markdown_resolver.specs.Closes.{ClosesAt, FirstLies, NoneOpenAround, PutsClosed, IsNamedIn}
use Rattle.markdown_resolver.specs.Kept.{IsQuiet}
use Rattle.markdown_resolver.specs.PutsTrees.{numbered_from, numbered_node, without_numbers}
use Rattle.markdown_resolver.specs.Rewritten.{CanPut, first_past}
use Rattle.markdown_resolver.proofs.CodeSpanLemmas.{can_put_text, text_item_over}
use Rattle.markdown_resolver.proofs.PassOneQuietLemmas.{later_quiet}
use Rattle.markdown_resolver.proofs.CloseFootnoteLemmas.{text_node}
use Rattle.markdown_resolver.proofs.CloseLemmas.{OpenerAt, can_close, none_open, opener_at, puts_closed, quiet_inside}
use Rattle.markdown_resolver.proofs.CloseLinkLemmas.{item_over, link_from, link_over_opener, linked_node}
use Rattle.markdown_resolver.proofs.MarkupItemLemmas.{PutsLink, link_put}
use Rattle.markdown_resolver.proofs.PutsTreesLemmas.{first_joined, relabelled_first}
use Rattle.markdown_resolver.proofs.SplitLemmas.{inside_numbers}
use Rattle.markdown_resolver.proofs.StandsToLemmas.{numbers_are, wikilink_stands}
use Rattle.markdown_document.proofs.OriginLemmas.{slice_wider}
use Rattle.markdown_document.specs.Places.{follows_pipe}
use Rattle.markdown_resolver.proofs.FollowersLemmas.{InOrder, opens_chain}

-- what becomes a wikilink
pub record IsWikilink (w : BracketContext) (becomes : Becomes ℕ) (opener : Opener) (name : List ℕ) (has_pothole : Bool)
    (shown : ShownNodes) (end : ℕ) : Type 0 where
  pub split : Split ℕ
  pub found : Wikilink ℕ
  pub is : becomes ≡ a_wikilink split found end
  pub opener_is : opener ≡ opener_of split
  pub name_is : name ≡ found.name
  pub pothole_is : has_pothole ≡ found.has_pothole
  pub shown_is : shown_of w (past_second (inside split)) shown ≡ found.children
  pub first_is : link_to found.children ≡ Some (first_shown shown)
  pub piped : IsShownAfterPipe w.setting.text shown

pub wikilink_is : (w : BracketContext) (becomes : Becomes ℕ) (opener : Opener) (name : Bor (List ℕ))
    (has_pothole : Bool)
    (shown : ShownNodes) (end : ℕ) → IsBecome w becomes (Wikilinked opener name has_pothole shown end)
    → IsWikilink w becomes opener name.now has_pothole shown end
wikilink_is w (a_wikilink o v e) opener name has_pothole shown end h = record {
  split = o;
  found = v;
  is = ap (a_wikilink o v) (sym h.5);
  opener_is = h.0;
  name_is = h.1;
  pothole_is = h.2;
  shown_is = h.3;
  first_is = h.4;
  piped = h.6;
}
wikilink_is w other opener name has_pothole shown end h = absurd h

-- what is left past a byte: without the numbers, and quiet
without_past : (i : ℕ) (f : Forest (TreeNode ℕ)) → past_byte i (without_numbers f) ≡ without_numbers (past_byte i f)
without_past i nil = refl
without_past i (node a below after) = by (nat_le (end_of a) i) (without_past i after)
  where
    by : (b : Bool) → past_byte i (without_numbers after) ≡ without_numbers (past_byte i after)
        → (if b then past_byte i (without_numbers after) else node (begun_at i (record { note = tt; part = a.part }))
        (without_numbers below) (without_numbers after))
        ≡ without_numbers (if b then past_byte i after else node (begun_at i a) below after)
    by true e = e
    by false e = refl

quiet_left : (i : ℕ) (f : Forest (TreeNode ℕ)) → IsQuiet f → IsQuiet (past_byte i f)
quiet_left i nil h = h
quiet_left i (node a below after) h = by (nat_le (end_of a) i) (quiet_left i after h.3)
  where
    by : (b : Bool) → IsQuiet (past_byte i after)
        → IsQuiet (if b then past_byte i after else node (begun_at i a) below after)
    by true later = later
    by false later = (later_quiet _ a.part.shape h.0, h.1, h.2, h.3)

quiet_second : (f : Forest (TreeNode ℕ)) → IsQuiet f → IsQuiet (past_second f)
quiet_second nil h = tt
quiet_second (node a below after) h = h.3

-- what is inside, by numbers
pub record InsideNumbers (source : List ℕ) (tables : Tables) (nodes : List (Node Item)) (o : Split ℕ) : Type 0 where
  pub numbers : Forest ℕ
  pub is : inside o ≡ relabelled (numbered_node source tables nodes) numbers
  pub listed : inside_numbers o ≡ roots numbers

pub inside_is : (source : List ℕ) (tables : Tables) (nodes : List (Node Item)) (first closer : ℕ) (o : Split ℕ)
    → OpenerAt source tables nodes first closer o → InsideNumbers source tables nodes o
inside_is source tables nodes first closer o at =
    let k = length (roots (inside o)) in
    let label = numbered_node source tables nodes in
    let all = forest_at (links_of nodes) (sibling_of nodes o.opener.note) in
    let is : inside o ≡ relabelled label (first_trees k all) =
    sym (first_joined (inside o) (numbered_from source tables nodes (Some closer)))
    ∙ ap (first_trees k) (sym at.around.numbered) ∙ sym (relabelled_first label k all) in
    record {
      numbers = first_trees k all;
      is = is;
      listed = ap (λ (f : Forest (TreeNode ℕ)). roots (numbers_of f)) is
          ∙ ap roots (numbers_are source tables nodes (first_trees k all));
    }

-- a chain from a byte offset on, and the node that it begins in
pub record ShownAt (source : List ℕ) (tables : Tables) (nodes : List (Node Item)) (at first : ℕ) (g : Forest ℕ) : Type 0
  where
    pub skipped : List ℕ
    pub shown : List ℕ
    pub parts : roots g ≡ skipped ++ first ∷ shown
    pub reads : past_byte at (trees_past (length skipped) (relabelled (numbered_node source tables nodes) g))
        ≡ past_byte at (relabelled (numbered_node source tables nodes) g)
    pub below : Forest (TreeNode ℕ)
    pub after : Forest (TreeNode ℕ)
    pub begins : past_byte at (relabelled (numbered_node source tables nodes) g)
        ≡ node (begun_at at (numbered_node source tables nodes first)) below after
    pub ends_past : at < (item_at nodes first).end
    pub first_is : first_past nodes at (roots g) ≡ Some first

pub shown_at : (source : List ℕ) (tables : Tables) (nodes : List (Node Item)) (at first : ℕ) (g : Forest ℕ)
    → link_to (past_byte at (relabelled (numbered_node source tables nodes) g)) ≡ Some first
    → ShownAt source tables nodes at first g
shown_at source tables nodes at first nil e = cc e
shown_at source tables nodes at first (node n under g) e = by (nat_le (item_at nodes n).end at) refl
    (shown_at source tables nodes at first g)
  where
    by : (b : Bool) → nat_le (item_at nodes n).end at ≡ b
        → (link_to (past_byte at (relabelled (numbered_node source tables nodes) g)) ≡ Some first
        → ShownAt source tables nodes at first g) → ShownAt source tables nodes at first (node n under g)
    by true ends after =
        let left : link_to (past_byte at (relabelled (numbered_node source tables nodes) g))
        ≡ Some first = rw ends at e in
        let later = after left in
        record {
          skipped = n ∷ later.skipped;
          shown = later.shown;
          parts = ap (λ (l : List ℕ). n ∷ l) later.parts;
          reads = rw ends later.reads;
          below = later.below;
          after = later.after;
          begins = rw ends later.begins;
          ends_past = later.ends_past;
          first_is = rw ends later.first_is;
        }
    by false ends after =
        let same : n ≡ first = (let here : Some n ≡ Some first = rw ends at e in cc here) in
        subst (λ (m : ℕ). ShownAt source tables nodes at m (node n under g)) same (record {
          skipped = [];
          shown = roots g;
          parts = refl;
          reads = refl;
          below = relabelled (numbered_node source tables nodes) under;
          after = relabelled (numbered_node source tables nodes) g;
          begins = rw ends refl;
          ends_past = grind (arith, nat_tests, ends);
          first_is = rw ends refl;
        })

target_is : (has_pothole : Bool) (name : List ℕ) (v : Wikilink ℕ) → has_pothole ≡ v.has_pothole → name ≡ v.name
    → record { kind = kind.WikiLink has_pothole; destination = name; title = []; label = [] } ≡ wikilink_target v
target_is has_pothole name v e e' = rw (e, e') refl

-- the entry of a wikilink leads to its name in the source
name_from : (source : List ℕ) (start end : ℕ) (origins : LinkOrigins) (v : Wikilink ℕ) → origins.destination ≡ sliced
    → IsSliceWithin source start end v.name → IsLinkFrom source start end origins (wikilink_target v)
name_from source start end origins v is slice = record {
  leads = λ e. record { destination = rw is slice; no_title = refl; no_label = refl };
  title = tt;
}

-- which is after its opener
name_after : (source : List ℕ) (tables : Tables) (nodes : List (Node Item)) (start low end : ℕ)
    (f : Forest (TreeNode ℕ))
    (g : Forest ℕ) (after : List ℕ) (name : List ℕ) → f ≡ relabelled (numbered_node source tables nodes) g
    → InOrder nodes low (roots g ++ after)
    → start ≤ low → IsNamedIn source (past_second f) end name → IsSliceWithin source start end name
name_after source tables nodes start low end f nil after name is order le h =
    absurd (subst (λ (f : Forest (TreeNode ℕ)). IsNamedIn source (past_second f) end name) is h)
name_after source tables nodes start low end f (node b under nil) after name is order le h =
    absurd (subst (λ (f : Forest (TreeNode ℕ)). IsNamedIn source (past_second f) end name) is h)
name_after source tables nodes start low end f (node b under (node n below later)) after name is order le h =
    slice_wider source (item_at nodes n).start end start end name (omega (arith, le, order.0, order.1, order.2.0))
    (omega arith) (subst (λ (f : Forest (TreeNode ℕ)). IsNamedIn source (past_second f) end name) is h)

name_in_range : (source : List ℕ) (tables : Tables) (nodes : List (Node Item)) (first closer : ℕ) (o : Split ℕ)
    (end : ℕ) (name : List ℕ)
    → OpenerAt source tables nodes first closer o → IsNamedIn source (past_second (inside o)) end name
    → IsSliceWithin source (item_at nodes o.opener.note).start end name
name_in_range source tables nodes first closer o end name at h =
    let chain = opens_chain at.ready in
    let i = inside_is source tables nodes first closer o at in
    let after = closer ∷ roots (forest_at (links_of nodes) (sibling_of nodes closer)) in
    let order : InOrder nodes (item_at nodes o.opener.note).end (roots i.numbers ++ after) =
    subst (λ (l : List ℕ). InOrder nodes (item_at nodes o.opener.note).end (l ++ after)) i.listed
    (subst (InOrder nodes (item_at nodes o.opener.note).end) at.around.follows chain.ordered) in
    name_after source tables nodes (item_at nodes o.opener.note).start (item_at nodes o.opener.note).end end (inside o)
    i.numbers after name i.is order chain.placed.lies.ordered h

-- its opener is a node
pub opener_there : {source : List ℕ} {tables : Tables} {nodes : List (Node Item)} {first closer : ℕ}
    {left : List (Entry ℕ)} {w : BracketContext} {c : Closing ℕ} {becomes : Becomes ℕ} (opener : Opener)
    (name : Bor (List ℕ))
    (has_pothole : Bool) (shown : ShownNodes) (end : ℕ) → ClosesAt source tables nodes first closer left w c becomes
    → IsBecome w becomes (Wikilinked opener name has_pothole shown end) → opener.node < length nodes
opener_there {source} {tables} {nodes} {first} {closer} {left} {w} {c} {becomes} opener name has_pothole shown end
    closes h =
    let i = wikilink_is w becomes opener name has_pothole shown end h in
    let so = subst (ClosesAt source tables nodes first closer left w c) i.is closes in
    rw i.opener_is (opener_at so.stands so.splits).opener.within

-- what becomes a wikilink can be put in place, as an item, once its entry is in its table
pub record MayShow (source : List ℕ) (tables tables' : Tables) (nodes : List (Node Item)) (first closer : ℕ)
    (left : List (Entry ℕ)) (w : BracketContext) (c : Closing ℕ) (becomes : Becomes ℕ) (opener : Opener)
    (shown : ShownNodes) (number : LinkIndex) (end : ℕ) (item : Item) : Type 0 where
  pub split : Split ℕ
  pub found : Wikilink ℕ
  pub is : becomes ≡ a_wikilink split found end
  pub opener_is : opener ≡ opener_of split
  pub closes : ClosesAt source tables nodes first closer left w c (a_wikilink split found end)
  pub put : PutsLink source (item_at nodes split.opener.note).start end tables tables' number (wikilink_target found)
  pub item_is : item ≡ link_from nodes opener number end
  pub close : CanClose source tables nodes opener.node closer (inside_numbers split) end
  pub over : CanPutOver source tables tables' nodes opener.node item end
  pub shown_is : shown_of w (past_second (inside split)) shown ≡ found.children
  pub first_is : link_to found.children ≡ Some (first_shown shown)
  pub piped : IsShownAfterPipe source shown

pub may_show : {source : List ℕ} {nodes : List (Node Item)} {first closer : ℕ} {left : List
    (Entry ℕ)} {w : BracketContext}
    {c : Closing ℕ} {becomes : Becomes ℕ} (held held' : Allocated) (opener : Opener) (name : Bor (List ℕ))
    (has_pothole : Bool) (shown : ShownNodes) (end : ℕ) (link : LinkParts) (number : LinkIndex) (begin : Item)
    (b : ItemBody) → ClosesAt source (tables_of held) nodes first closer left w c becomes
    → IsBecome w becomes (Wikilinked opener name has_pothole shown end) → held' ≡ with_link held link → number.0
    ≡ length held.links → origin_of link.1 ≡ sliced → link_view link ≡ record {
      kind = kind.WikiLink has_pothole;
      destination = name.now;
      title = [];
      label = [];
    } → begin ≡ item_at nodes opener.node → b ≡ (if opener.is_image then body.Image number else body.Link number)
    → MayShow source (tables_of held) (tables_of held') nodes first closer left w c becomes opener shown number end
    (item_over begin.start end b)
may_show {source} {nodes} {first} {closer} {left} {w} {c} {becomes} held held' opener name has_pothole shown end link
    number begin b closes h put last origin view begins body_is =
    let tables = tables_of held in
    let tables' = tables_of held' in
    let i = wikilink_is w becomes opener name has_pothole shown end h in
    let so = subst (ClosesAt source tables nodes first closer left w c) i.is closes in
    let start = (item_at nodes i.split.opener.note).start in
    let at = opener_at so.stands so.splits in
    let there = link_put source start end held held' link number (wikilink_target i.found) put last
    (name_from source start end (link_origins link) i.found origin
    (name_in_range source tables nodes first closer i.split end i.found.name at so.ends.2))
    (view ∙ target_is has_pothole name.now i.found i.pothole_is i.name_is) in
    let goes = so.ends.0 in
    let after : (item_at nodes closer).end ≤ end = subst (λ (a : TreeNode ℕ). end_of a ≤ end) so.node_is goes.after in
    rw (begins, body_is, i.opener_is) (record {
      split = i.split;
      found = i.found;
      is = i.is;
      opener_is = refl;
      closes = so;
      put = there;
      item_is = refl;
      close = can_close so at goes;
      over = link_over_opener source tables tables' nodes first closer i.split number (wikilink_target i.found) end end
          at there goes.between after (omega arith);
      shown_is = i.shown_is;
      first_is = i.first_is;
      piped = subst (λ (text : List ℕ). IsShownAfterPipe text shown) closes.text_is i.piped;
    })

-- its name, as a Text in the second node inside
pub record CanName (source : List ℕ) (tables tables' : Tables) (w : BracketContext) (o : Split ℕ) (v : Wikilink ℕ)
    (first start end : ℕ) : Type 0
  where
    pub skipped : List ℕ
    pub shown : List ℕ
    pub parts : inside_numbers o ≡ skipped ++ first ∷ shown
    pub puts : CanPut source tables tables' (text_item_over start end)
    pub label : TreeNode ℕ
    pub children_are : v.children ≡ node (text_from w label start end) nil nil

first_text : (w : BracketContext) (body children : Forest (TreeNode ℕ)) (first start end : ℕ)
    → shown_of w body (Over first start end) ≡ children → link_to children ≡ Some first
    → (a : TreeNode ℕ) × (below : Forest (TreeNode ℕ)) × (after : Forest (TreeNode ℕ)) × (body ≡ node a below after)
    × (a.note ≡ first) × (children ≡ node (text_from w a start end) nil nil)
first_text w nil children first start end so e = cc (so, e)
first_text w (node a below after) children first start end so e =
    let tag : Some a.note ≡ Some first = ap link_to so ∙ e in
    (a, below, after, refl, (cc tag), sym so)

second_numbers : (f : Forest (TreeNode ℕ)) (a : TreeNode ℕ) (below after : Forest (TreeNode ℕ)) (first : ℕ)
    → past_second f
    ≡ node a below after → a.note ≡ first
    → (skipped : List ℕ) × (shown : List ℕ) × (roots (numbers_of f) ≡ skipped ++ first ∷ shown)
second_numbers nil a below after first e note = cc e
second_numbers (node b under rest) a below after first e note = (
  b.note ∷ [],
  roots (numbers_of after),
  ap (λ (f : Forest (TreeNode ℕ)). b.note ∷ roots (numbers_of f)) e
      ∙ ap (λ (n : ℕ). b.note ∷ n ∷ roots (numbers_of after)) note,
)

-- what is inside from a byte offset on
pub record ShowsFrom (source : List ℕ) (nodes : List (Node Item)) (o : Split ℕ) (v : Wikilink ℕ) (n from : ℕ) : Type 0
  where
    pub skipped : List ℕ
    pub can : CanShow source nodes (inside_numbers o) skipped n from
    pub reads : past_byte from (trees_past (length skipped) (without_numbers (inside o))) ≡ without_numbers v.children
    pub quiet : IsQuiet v.children

is_past : (w : BracketContext) (body : Forest (TreeNode ℕ)) (n at : ℕ) → shown_of w body (From n at) ≡ past_byte at body
is_past w nil n at = refl
is_past w (node a below after) n at = refl

-- where an item is cut at a byte offset and begins there, the offset is between characters
begins_there : (source : List ℕ) (at : ℕ) (a : TreeNode ℕ) (below after : Forest (TreeNode ℕ))
    → FirstLies source (node (begun_at at a) below after) → start_of a < at → IsCharBoundary source at
begins_there source at a below after lies before =
    let same : max (start_of a) at ≡ at = omega arith in
    subst (IsCharBoundary source) same lies.1

second_shows : (source : List ℕ) (tables : Tables) (nodes : List (Node Item)) (n from : ℕ)
    (f children : Forest (TreeNode ℕ)) (g : Forest ℕ) → f ≡ relabelled (numbered_node source tables nodes) g
    → past_byte from (past_second f) ≡ children → link_to children ≡ Some n → FirstLies source children
    → NoneOpenAround from (past_second f) → follows_pipe source from ≡ true
    → (skipped : List ℕ) × CanShow source nodes (roots g) skipped n from
    × (past_byte from (trees_past (length skipped) f) ≡ children)
second_shows source tables nodes n from f children nil is so e lies none_open_there piped =
    let none : link_to (past_byte from (past_second (relabelled (numbered_node source tables nodes) nil)))
    ≡ Some n = ap (λ (x : Forest (TreeNode ℕ)). link_to (past_byte from (past_second x))) (sym is) ∙ ap link_to so
    ∙ e in
    cc none
second_shows source tables nodes n from f children (node b under g) is so e lies none_open_there piped =
    let label = numbered_node source tables nodes in
    let rest : past_second f ≡ relabelled label g = ap past_second is in
    let left : past_byte from (relabelled label g) ≡ children = ap (past_byte from) (sym rest) ∙ so in
    let shown = shown_at source tables nodes from n g (ap link_to left ∙ e) in
    let here : FirstLies source (node (begun_at from (label n)) shown.below shown.after) = subst (FirstLies source)
    (sym left ∙ shown.begins) lies in (
      b ∷ shown.skipped,
      record {
        shown = shown.shown;
        inside_is = ap (λ (l : List ℕ). b ∷ l) shown.parts;
        boundary = begins_there source from (label n) shown.below shown.after here;
        ends_past = shown.ends_past;
        piped = piped;
        not_cut = none_open source tables nodes from n g (subst (NoneOpenAround from) rest none_open_there)
            shown.first_is;
      },
      ap (λ (x : Forest (TreeNode ℕ)). past_byte from (trees_past (suc (length shown.skipped)) x)) is ∙ shown.reads
          ∙ left,
    )

-- trees past the first, without the numbers
without_trees : (k : ℕ) (f : Forest (TreeNode ℕ)) → trees_past k (without_numbers f) ≡ without_numbers (trees_past k f)
without_trees zero f = refl
without_trees (suc k) nil = refl
without_trees (suc k) (node a below after) = without_trees k after

module _ {source : List ℕ} {tables tables' : Tables} {old : List (Node Item)} {first closer : ℕ} {left : List (Entry ℕ)}
    {w : BracketContext} {c : Closing ℕ} {becomes : Becomes ℕ} {opener : Opener} {shown : ShownNodes} {number :
    LinkIndex}
    {end : ℕ} {item : Item}
    (r : MayShow source tables tables' old first closer left w c becomes opener shown number end item) where
  at_opener : OpenerAt source tables old first closer r.split
  at_opener = opener_at r.closes.stands r.closes.splits

  -- what it shows, by the form in which that was decided
  shown_as : {s : ShownNodes} → shown ≡ s → (shown_of w (past_second (inside r.split)) s ≡ r.found.children)
      × (link_to r.found.children ≡ Some (first_shown s))
  shown_as {s} is = (
    subst (λ (s : ShownNodes). shown_of w (past_second (inside r.split)) s ≡ r.found.children) is r.shown_is,
    r.first_is ∙ ap (λ (s : ShownNodes). Some (first_shown s)) is,
  )

  pub named_over : {n from to : ℕ} → shown ≡ Over n from to → CanName source tables tables' w r.split r.found n from to
  named_over {n} {from} {to} is =
      let so = shown_as is in
      let t = first_text w (past_second (inside r.split)) r.found.children n from to so.0 so.1 in
      let parts = second_numbers (inside r.split) t.0 t.1 t.2 n t.3 t.4 in
      let lies : FirstLies source (node (text_from w t.0 from to) nil nil) = subst (FirstLies source) t.5
      r.closes.ends.1.lies in
      record {
        skipped = parts.0;
        shown = parts.1;
        parts = parts.2;
        puts = can_put_text source tables tables' from to lies.0 lies.1 lies.2;
        label = t.0;
        children_are = t.5;
      }

  pub shows_over : {n from : ℕ} → shown ≡ From n from → ShowsFrom source old r.split r.found n from
  shows_over {n} {from} s_is =
      let so = shown_as s_is in
      let i = inside_is source tables old first closer r.split at_opener in
      let is : past_byte from (past_second (inside r.split)) ≡ r.found.children =
      sym (is_past w (past_second (inside r.split)) n from) ∙ so.0 in
      let well = r.closes.ends.1 in
      let s = second_shows source tables old n from (inside r.split) r.found.children i.numbers i.is is so.1 well.lies
      (well.not_cut from is) (subst (IsShownAfterPipe source) s_is r.piped) in
      let k = length s.0 in
      record {
        skipped = s.0;
        can = subst (λ (l : List ℕ). CanShow source old l s.0 n from) (sym i.listed) s.1;
        reads = ap (past_byte from) (without_trees k (inside r.split)) ∙ without_past from (trees_past k
            (inside r.split)) ∙ ap without_numbers s.2;
        quiet = subst IsQuiet is (quiet_left from (past_second (inside r.split)) (quiet_second (inside r.split)
            (quiet_inside left r.split r.closes.splits r.closes.stands.quiet)));
      }

  -- so the wikilink is in the left list
  wikilink_closed : {new : List (Node Item)} {rest : Continuation} (shows : Forest Plain → Forest Plain)
      → shows (without_numbers (inside r.split)) ≡ without_numbers r.found.children → IsQuiet r.found.children
      → PutsOver source opener.node closer (inside_numbers r.split)
      (λ a inside. node (tree_node_of source tables' item) (shows inside) nil) end (opener.node
      ∷ []) rest old new tables
      tables' → PutsClosed source first closer rest left w c becomes old new tables tables'
  wikilink_closed {new} {rest} shows reads quiet over =
      let o = r.split in
      let v = r.found in
      let target = wikilink_target v in
      rw r.is (puts_closed (node (linked o target [] end) v.children nil) r.closes at_opener
      (rw (r.item_is, r.opener_is) at over)
      (wikilink_stands source tables old first (Some o.opener.note) o.before at_opener.stands)
      (record { left_is = λ p e. refl; goes = λ p. refl })
      (ap (λ (a : Plain). node a (shows (without_numbers (inside o))) nil)
      (linked_node source tables tables' old o number target [] end at_opener.around.node_is r.put
      (rw r.put.found refl))
      ∙ ap (λ (f : Forest Plain). node (record { note = tt; part = (linked o target [] end).part }) f nil) reads)
      (refl, refl, quiet, tt) (λ a i. refl))

  pub name_closed : {inner : Item} {n from to : ℕ} {new : List (Node Item)} {rest : Continuation}
      → CanName source tables tables' w r.split r.found n from to → inner ≡ text_item_over from to
      → PutsOver source opener.node closer (inside_numbers r.split) (over_text source tables' item inner) end
      (opener.node ∷ []) rest old new tables tables'
      → PutsClosed source first closer rest left w c becomes old new tables tables'
  name_closed {inner} {n} {from} {to} can text over =
      wikilink_closed (λ f. node (tree_node_of source tables' (text_item_over from to)) nil nil)
      (ap (λ (a : Plain). node a nil nil)
      (text_node source tables' w can.label from from to to refl refl r.closes.text_is)
      ∙ ap without_numbers (sym can.children_are)) (subst IsQuiet (sym can.children_are) (refl, refl, tt, tt))
      (rw text at over)

  pub shown_closed : {n from : ℕ} {new : List (Node Item)} {rest : Continuation}
      (s : ShowsFrom source old r.split r.found n from) → PutsOver source opener.node closer (inside_numbers r.split)
      (over_shown source tables' item (length s.skipped) from) end (opener.node ∷ []) rest old new tables tables'
      → PutsClosed source first closer rest left w c becomes old new tables tables'
  shown_closed {n} {from} s over =
      wikilink_closed (λ f. past_byte from (trees_past (length s.skipped) f)) s.reads s.quiet over
