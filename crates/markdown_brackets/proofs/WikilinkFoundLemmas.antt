-- What a wikilink is in an arena is what the definition makes of the trees between its opener and the `]`.
use Rattle.std.proofs.Common.{◌≡◌, ℕ, ◌-◌, ◌<◌, ◌≤◌, Bool, true, false, List, [], ◌∷◌, Option, Some, None, length, refl}
use Rattle.std.proofs.Common.{sym, ◌∙◌, ap, subst, suc, ◌+◌, ◌==◌, arith, drop, get_or, nat_lt, take}
use Rattle.std.specs.Prelude.{IfSome, if◌then◌else◌, slice_index, slice_range}
use Rattle.std.specs.List.{position_or_len}
use Rattle.std.specs.Option.{option_and_then, option_map}
use Rattle.std.proofs.lemmas.List.{get_or-drop, get_or-take, length-take}
use Rattle.std.proofs.lemmas.List.Sums.{passes_at_first}
use Rattle.std.proofs.lemmas.Bool.{ltb-true}
use Rattle.markdown_base.specs.Arena.{sibling_of}
use Rattle.markdown_base.specs.Bytes.{pipe}
use Rattle.markdown_base.specs.ArenaForest.{links_of, forest_at}
use Rattle.markdown_base.specs.BlockTree.{item_at}
use Rattle.markdown_base.specs.Forest.{Forest, nil, node, first_root}
use Rattle.markdown_base.specs.declared.item.Item.{Item}
use Rattle.markdown_base.specs.declared.node.Node.{Node}
use Rattle.markdown_document.specs.ChainRest.{start_of, end_of, joined_chains, past_byte}
use Rattle.markdown_document.specs.Document.{TreeNode}
use Rattle.markdown_document.specs.Places.{follows_pipe}
use Rattle.markdown_document.specs.Tables.{Tables}
use Rattle.markdown_scan.specs.WikilinkPipe.{wikilink_pipe}
use Rattle.markdown_brackets.specs.BracketDecision.{BracketContext, Closing, Wikilink, past_second, if_some, text_from}
use Rattle.markdown_brackets.specs.BracketDecision.{wikilink_by, wikilink_in}
use Rattle.markdown_brackets.specs.ChainAhead.{numbers_past}
use Rattle.markdown_brackets.specs.ChainHeld.{numbers_of, times_of, link_to}
use Rattle.markdown_brackets.specs.DecisionView.{IsShownAfterPipe, first_shown, shown_of}
use Rattle.markdown_brackets.specs.Wikilink.{WikilinkBody, Shows, shows_name, shows_nothing, shows_from, cut_at}
use Rattle.markdown_brackets.specs.Wikilink.{has_pothole, named, shown_from, wikilink_body}
use Rattle.markdown_base.proofs.ArenaForestLemmas.{forest_at-height, height}
use Rattle.markdown_brackets.specs.LeftList.{Split, inside, is_live}
use Rattle.markdown_brackets.specs.StandsAt.{FindsWikilink, IsWikilink, IsWikilinkAt, TriesWikilink, wikilink_nodes}
use Rattle.markdown_brackets.specs.StandsAt.{shown_from_node, shown_in, wikilink_from}
use Rattle.markdown_brackets.specs.declared.closing_bracket.ClosedBracket.{ClosedBracket}
use Rattle.markdown_brackets.specs.declared.closing_bracket.ClosedBracket.TheVariants.{Wikilinked}
use Rattle.markdown_brackets.specs.declared.openers.Opener.{Opener}
use Rattle.markdown_brackets.specs.declared.wikilink_nodes.ShownNodes.{ShownNodes}
use Rattle.markdown_brackets.specs.declared.wikilink_nodes.ShownNodes.TheVariants.{Over, From}
use Rattle.markdown_brackets.proofs.AheadOfBracketLemmas.{same_start}
use Rattle.markdown_brackets.proofs.BracketStandsLemmas.{Found, found_after, found_at}
use Rattle.markdown_brackets.proofs.WikilinkNodesLemmas.{from_is, second_is}
use Rattle.markdown_brackets.proofs.WikilinkPipeLemmas.{some_in_block}

-- the first pipe of a body
pipe_found : (text : List ℕ) (start size : ℕ)
    → IfSome (wikilink_pipe text start size) (λ p. follows_pipe text p.0 ≡ true)
pipe_found text start size = by (nat_lt n (length part)) refl
  where
    part : List ℕ
    part = take size (drop start text)

    n : ℕ
    n = position_or_len (λ b. b == pipe) part

    by : (found : Bool) → nat_lt n (length part) ≡ found
        → IfSome {T = ℕ × List ℕ} (option_map (λ n. (start + n + 1, take n part)) (if found then Some n else None))
        (λ p. follows_pipe text p.0 ≡ true)
    by true e =
        let inside_part : n < length part = ltb-true n (length part) e in
        let is : (get_or part n 0 == pipe) ≡ true = passes_at_first (λ b. b == pipe) part 0 inside_part in
        let cut : n < size = omega (arith, inside_part, length-take size (drop start text)) in
        let byte : get_or part n 0 ≡ slice_index text (start + n) = get_or-take size (drop start text) n 0 cut
        ∙ get_or-drop start text n 0 in
        let after : start + n + 1 ≡ suc (start + n) = omega arith in
        rw after (rw byte at is)
    by false e = tt

-- what a wikilink shows from a byte offset on starts after a pipe, before the end of its body
abbrev StartsWithin : List ℕ → ℕ → Shows → Type 0
StartsWithin text end (shows_from at) = (at < end) × (follows_pipe text at ≡ true)
StartsWithin text end other = Unit {0}

shown_within : (text : List ℕ) (at end : ℕ) → follows_pipe text at ≡ true → StartsWithin text end (shown_from at end)
shown_within text at end piped = by (nat_lt at end) refl
  where
    by : (b : Bool) → nat_lt at end ≡ b → StartsWithin text end (if b then shows_from at else shows_nothing at)
    by true e = (ltb-true at end e, piped)
    by false e = tt

named_within : (text : List ℕ) (end : ℕ) (name : List ℕ) (shows : Shows) → StartsWithin text end shows
    → IfSome (named name shows) (λ b. StartsWithin text end b.shows)
named_within text end [] shows h = tt
named_within text end (x ∷ name) shows h = h

cut_within : (text : List ℕ) (start end : ℕ) (found : Option (ℕ × List ℕ))
    → IfSome found (λ p. follows_pipe text p.0 ≡ true)
    → IfSome (cut_at text start end found) (λ b. StartsWithin text end b.shows)
cut_within text start end None piped = named_within text end (slice_range text start end) shows_name tt
cut_within text start end (Some p) piped = named_within text end p.1 (shown_from p.0 end)
    (shown_within text p.0 end piped)

body_within : (text : List ℕ) (block_end start end : ℕ)
    → IfSome (wikilink_body text block_end start end) (λ b. StartsWithin text end b.shows)
body_within text block_end start end = by (nat_lt start end)
  where
    by : (b : Bool) → IfSome (if b then cut_at text start end (wikilink_pipe (take block_end text) start (end - start))
        else None)
        (λ b. StartsWithin text end b.shows)
    by true = cut_within text start end (wikilink_pipe (take block_end text) start (end - start))
        (some_in_block text block_end start (end - start) (λ p. follows_pipe text p.0 ≡ true)
        (pipe_found text start (end - start)))
    by false = tt

module _ (source : List ℕ) (tables : Tables) (nodes : List (Node Item)) (w : BracketContext) (closer : TreeNode ℕ)
    (rest : Forest (TreeNode ℕ))
    (reads : (item_at nodes closer.note).start ≡ start_of closer) (order : start_of closer ≤ end_of closer)
    (opener : Opener) (end : ℕ) where
  none_at_all : (trees : Forest (TreeNode ℕ)) (r : Option ClosedBracket) → IsWikilinkAt opener end None r
      → IsWikilink w opener end trees None r
  none_at_all trees None h = tt
  none_at_all trees (Some x) h = absurd h

  module _ (b : WikilinkBody) (trees : Forest (TreeNode ℕ)) where
    abbrev as_wikilink : Forest (TreeNode ℕ) → Wikilink ℕ
    as_wikilink children = record { name = b.name; has_pothole = has_pothole b.shows; children = children }

    is_found : (shown : ShownNodes) (children : Forest (TreeNode ℕ)) → shown_of w trees shown ≡ children
        → link_to children ≡ Some (first_shown shown) → IsShownAfterPipe w.setting.text shown
        → (r : Option ClosedBracket) → IsWikilinkAt opener end (Some (b, shown)) r
        → IsWikilink w opener end trees (Some (as_wikilink children)) r
    is_found shown children so first piped (Some (Wikilinked a d e f g)) h = (
      h.0,
      h.1,
      h.2,
      ap (shown_of w trees) h.3 ∙ so,
      first ∙ ap (λ s. Some (first_shown s)) (sym h.3),
      h.4,
      subst (IsShownAfterPipe w.setting.text) (sym h.3) piped,
    )
    is_found shown children so first piped r h = absurd h

    from_found : (at : ℕ) (children : Forest (TreeNode ℕ)) → ((n : ℕ) → shown_of w trees (From n at) ≡ children)
        → follows_pipe w.setting.text at ≡ true → (r : Option ClosedBracket)
        → IsWikilinkAt opener end (option_map (λ shown. (b, shown)) (option_map (λ n. From n at) (link_to children))) r
        → IsWikilink w opener end trees (option_map as_wikilink (if_some children)) r
    from_found at nil so piped r h = none_at_all trees r h
    from_found at (node q below after) so piped r h = is_found (From q.note at) (node q below after) (so q.note) refl
        piped r h

  -- what it shows
  shows_so : (f : TreeNode ℕ) (below after : Forest (TreeNode ℕ)) (l : Option ℕ)
      → Found source tables nodes l (joined_chains (node f below after) (node closer nil rest))
      → times_of closer.note (node f below after) ≡ 0 → l ≡ Some f.note → (name : List ℕ) (shows : Shows)
      → StartsWithin w.setting.text (start_of closer) shows
      → (r : Option ClosedBracket)
      → IsWikilinkAt opener end (option_map (λ shown. (record { name = name; shows = shows }, shown))
      (shown_in nodes f.note closer.note shows (start_of f) (start_of closer))) r
      → IsWikilink w opener end (node f below after) (wikilink_by w f (node f below after) (start_of closer)
      (record { name = name; shows = shows })) r
  shows_so f below after l s apart e name shows_name later r h =
      is_found (record { name = name; shows = shows_name }) (node f below after)
      (Over f.note (start_of f) (start_of closer))
      (node (text_from w f (start_of f) (start_of closer)) nil nil) refl refl tt r h
  shows_so f below after l s apart e name (shows_nothing at) later r h =
      is_found (record { name = name; shows = shows_nothing at }) (node f below after) (Over f.note at at)
      (node (text_from w f at at) nil nil) refl refl tt r h
  shows_so f below after l s apart e name (shows_from at) later r h =
      let trees = node f below after in
      let b : WikilinkBody = record { name = name; shows = shows_from at } in
      let is : shown_from_node closer.note at
      (first_root (numbers_past nodes at (forest_at (links_of nodes) (Some f.note))))
      ≡ option_map (λ n. From n at) (link_to (past_byte at trees)) =
      rw (← e, found_at source tables nodes l _ s)
      (from_is source tables nodes closer nil rest at (omega (arith, later.0, order)) l trees s.holds apart) in
      from_found b trees at (past_byte at trees) (λ n. refl) later.1 r (rw is at h)

  -- the wikilink of these trees
  pub wikilink_is : (trees : Forest (TreeNode ℕ)) (l : Option ℕ)
      → Found source tables nodes l (joined_chains trees (node closer nil rest))
      → times_of closer.note trees ≡ 0
      → (r : Option ClosedBracket)
      → IsWikilinkAt opener end
      (option_and_then (wikilink_from nodes w.setting.text w.above.block_end closer.note) (link_to trees)) r
      → IsWikilink w opener end trees (wikilink_in w trees (start_of closer)) r
  wikilink_is nil l s apart r h = none_at_all nil r h
  wikilink_is (node f below after) l s apart r h =
      by (wikilink_body w.setting.text w.above.block_end (start_of f) (start_of closer))
      (body_within w.setting.text w.above.block_end (start_of f) (start_of closer))
      (rw (← reads, ← same_start source tables nodes f s.holds.2) h)
    where
      by : (o : Option WikilinkBody) → IfSome o (λ b. StartsWithin w.setting.text (start_of closer) b.shows)
          → IsWikilinkAt opener end (option_and_then
          (λ b. option_map (λ shown. (b, shown))
          (shown_in nodes f.note closer.note b.shows (start_of f) (start_of closer))) o) r
          → IsWikilink w opener end (node f below after)
          (option_and_then (wikilink_by w f (node f below after) (start_of closer)) o) r
      by None later h = none_at_all (node f below after) r h
      by (Some b) later h = shows_so f below after l s apart s.holds.0 b.name b.shows later r h

-- by the opener that was taken off
low_of : (nodes : List (Node Item)) (l : Option ℕ) (f : Forest (TreeNode ℕ)) → forest_at
    (links_of nodes) l ≡ numbers_of f
    → height (numbers_of f) ≤ length nodes
low_of nodes l f e = subst (λ g. height g ≤ length nodes) e (forest_at-height (links_of nodes) l)

-- the trees past the second of some, in an arena
module _ (source : List ℕ) (tables : Tables) (nodes : List (Node Item)) (closer : TreeNode ℕ)
    (rest : Forest (TreeNode ℕ))
  where
    pub record PastSecond (trees : Forest (TreeNode ℕ)) : Type 0 where
      pub link : Option ℕ
      pub found : Found source tables nodes link (joined_chains (past_second trees) (node closer nil rest))
      pub apart : times_of closer.note (past_second trees) ≡ 0

    pub past_second_found : (l : Option ℕ) (trees : Forest (TreeNode ℕ))
        → Found source tables nodes l (joined_chains trees (node closer nil rest))
        → times_of closer.note trees ≡ 0
        → PastSecond trees
    past_second_found l nil s apart = record { link = l; found = s; apart = apart }
    past_second_found l (node a below after) s apart =
        record {
          link = sibling_of nodes a.note;
          found = found_after source tables nodes l a below _ s;
          apart = omega
              (arith, apart);
        }

pub finds_none : (nodes : List (Node Item)) (w : BracketContext) (end closer : ℕ) (c : Closing ℕ) (o : Option (Split ℕ))
    → TriesWikilink nodes closer None c o → FindsWikilink w end c o None
finds_none nodes w end closer c None t = refl
finds_none nodes w end closer c (Some o) t = absurd t

pub finds_dead : (nodes : List (Node Item)) (w : BracketContext) (end closer : ℕ) (opener : Opener) (live : Bool)
    (c : Closing ℕ) (o : Option (Split ℕ)) → live ≡ false
    → TriesWikilink nodes closer (Some (opener, live)) c o → FindsWikilink w end c o None
finds_dead nodes w end closer opener live c None e t = absurd t
finds_dead nodes w end closer opener live c (Some o) e t =
    let dead : is_live o.state.wikilink ≡ false = sym t.live ∙ e in
    rw dead tt

pub finds_live : (nodes : List (Node Item)) (w : BracketContext) (end closer : ℕ) (opener : Opener) (live : Bool)
    (c : Closing ℕ) (o : Option (Split ℕ)) (r : Option ClosedBracket) → live ≡ true
    → IsWikilinkAt opener end (wikilink_nodes nodes w.setting.text w.above.block_end opener.node closer) r
    → TriesWikilink nodes closer (Some (opener, live)) c o → FindsWikilink w end c o r
finds_live nodes w end closer opener live c None r e h t = absurd t
finds_live nodes w end closer opener live c (Some o) r e h t =
    let s = t.stands in
    let alive : is_live o.state.wikilink ≡ true = sym t.live ∙ e in
    let all : Found s.source s.tables nodes (sibling_of nodes opener.node)
    (joined_chains (inside o) (node c.node nil c.rest)) =
    record { holds = s.holds; low = low_of nodes _ _ s.found } in
    let past = past_second_found s.source s.tables nodes c.node c.rest (sibling_of nodes opener.node) (inside o) all
    s.apart in
    let begins = second_is s.source s.tables nodes c.node nil c.rest opener.node (inside o) s.holds s.apart in
    let reads : (item_at nodes c.node.note).start ≡ start_of c.node = rw s.number s.starts in
    let at : IsWikilinkAt opener end (option_and_then (wikilink_from nodes w.setting.text w.above.block_end c.node.note)
    (link_to (past_second (inside o)))) r = rw (← begins, s.number) h in
    rw alive (rw t.opener at (wikilink_is s.source s.tables nodes w c.node c.rest reads s.order opener end
    (past_second (inside o)) past.link past.found past.apart r at))
