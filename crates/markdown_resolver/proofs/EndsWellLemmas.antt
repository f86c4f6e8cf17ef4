-- What a `]` becomes ends well, case by case: after the `)` of a tail, where the `]` of a label that follows ends,
-- after the `]` itself, or, for a wikilink, where the next `]` ends; and what a wikilink shows starts and ends between
-- characters.
use Rattle.std.proofs.Common.{◌≡◌, ◌⊎◌, ⊎_elim, ℕ, ◌+◌, ◌-◌, ◌<◌, ◌≤◌, Bool, true, false, ◌&&◌, List, [], ◌∷◌, Option}
use Rattle.std.proofs.Common.{Some, None, IsUtf8, ◌==◌, length, drop, get_or, refl, sym, ap, ◌∙◌, subst, arith}
use Rattle.std.specs.Prelude.{IfSome, if◌then◌else◌, unwrap_or}
use Rattle.std.specs.Option.{option_map}
use Rattle.std.specs.Str.{IsCharBoundary}
use Rattle.std.proofs.lemmas.List.{get_or-take, length-take}
use Rattle.markdown_base.specs.Arena.{sibling_of}
use Rattle.markdown_base.specs.ArenaForest.{links_of, forest_at}
use Rattle.markdown_base.specs.BlockTree.{item_at}
use Rattle.markdown_base.specs.Event.{LinkView}
use Rattle.markdown_base.specs.Forest.{Forest, first_root, nil, node, relabelled, roots}
use Rattle.markdown_base.specs.declared.item.Item.{Item}
use Rattle.markdown_base.specs.declared.node.Node.{Node}
use Rattle.markdown_base.specs.Questions.{Question, Answer, Answers}
use Rattle.markdown_base.specs.BlockParts.{DefinitionView}
use Rattle.markdown_base.specs.declared.tag.LinkType.{LinkType}
use Rattle.markdown_base.specs.declared.tag.LinkType.TheVariants as kind
use Rattle.markdown_brackets.specs.BracketDecision.{BracketContext, Becomes, Closing, Decision, Written, LinkReference}
use Rattle.markdown_brackets.specs.BracketDecision.{Progress, Wikilink, a_link, a_text, block_text, carried_out}
use Rattle.markdown_brackets.specs.BracketDecision.{closer_ends_at, decided, form_of, found, left_for_one, lines}
use Rattle.markdown_brackets.specs.BracketDecision.{past_second, question_at, second_end, start_of_first_past}
use Rattle.markdown_brackets.specs.BracketDecision.{wikilink_in}
use Rattle.markdown_brackets.proofs.ClosingBracketLemmas.{IsFull, IsOwn, either, found_cases}
use Rattle.markdown_brackets.specs.FootnoteUse.{footnote_style}
use Rattle.markdown_brackets.specs.LeftList.{Entry, Split, bracket_taken, inside, opens_bracket, opens_wikilink}
use Rattle.markdown_brackets.specs.LeftList.{trees_onto, without_bracket, without_wikilink}
use Rattle.markdown_brackets.specs.LinkTail.{LinkTail, link_tail}
use Rattle.markdown_brackets.specs.Lookup.{answered, asked, defined_or_asked, finds_nothing, look_up, unknown}
use Rattle.markdown_brackets.specs.Reference.{FoundLabel, collapsed, form_at, form_by_label, is_closing_bracket}
use Rattle.markdown_brackets.specs.Reference.{is_opener, bracket_label, reference, shortcut, stands_at}
use Rattle.markdown_brackets.specs.declared.footnote.FootnoteStyle.{FootnoteStyle}
use Rattle.markdown_brackets.proofs.OpenerHeldLemmas.{trees_stay}
use Rattle.markdown_document.specs.ChainRest.{as_item, end_of, open_body, start_of}
use Rattle.markdown_document.specs.Document.{TreeNode}
use Rattle.markdown_document.specs.LinkOrigins.{destination_origin}
use Rattle.markdown_document.specs.Origins.{made}
use Rattle.markdown_document.specs.Tables.{Tables}
use Rattle.markdown_document.specs.Setting.{DefinitionsByLabel}
use Rattle.markdown_document.proofs.OriginLemmas.{slice_wider}
use Rattle.markdown_resolver.specs.Closes.{CanGoOn, EndsWell, IsNamedIn, ShowsWell}
use Rattle.markdown_resolver.specs.PutsTrees.{numbered_from, numbered_node}
use Rattle.markdown_resolver.specs.ReadOn.{StandsTo}
use Rattle.markdown_resolver.proofs.FollowersLemmas.{InOrder, opens_chain}
use Rattle.markdown_resolver.proofs.GoesOnLemmas.{EndsThere, StandsAfter, ends_there, goes_on_closed, goes_on_here}
use Rattle.markdown_resolver.proofs.GoesOnLemmas.{goes_on_there, second_ends}
use Rattle.markdown_resolver.proofs.StandsToLemmas.{stands_rest}
use Rattle.markdown_resolver.proofs.TailEndLemmas.{tail_closes}
use Rattle.markdown_resolver.proofs.WikilinkShowsLemmas.{AllLie, inside_lies, left_lies, names_slice, shows_well}

-- a reference is written in collapsed form only where a `]` starts after the next byte
collapsed_stands : (style : FootnoteStyle) (skipped : List ℕ → Option ℕ) (in_table : Bool) (text : List ℕ) (p : ℕ)
    (next after : Option Item)
    → form_at style skipped in_table text p next after ≡ collapsed → stands_at (p + 1) is_closing_bracket after ≡ true
collapsed_stands style skipped in_table text p next after = by (stands_at p is_opener next)
    (stands_at (p + 1) is_closing_bracket after) (stands_at p (λ b. true) next)
  where
    labelled : (found : Option FoundLabel) → form_by_label p found ≡ collapsed → ⊥
    labelled None e = cc e
    labelled (Some l) e = in_style l.is_footnote e
      where
        in_style : (is_footnote : Bool) → (if is_footnote then shortcut else reference l.name (p + l.length))
            ≡ collapsed → ⊥
        in_style true e = cc e
        in_style false e = cc e

    by : (opens closes follows : Bool) → (if opens && closes then collapsed else if follows then form_by_label p
        (bracket_label style skipped in_table (drop p text)) else shortcut) ≡ collapsed → closes ≡ true
    by true true follows e = refl
    by true false true e = absurd (labelled (bracket_label style skipped in_table (drop p text)) e)
    by true false false e = absurd (cc e)
    by false closes true e = absurd (labelled (bracket_label style skipped in_table (drop p text)) e)
    by false closes false e = absurd (cc e)

-- the byte offsets at which the chain after a `]` can continue
pub record MayGoOn (source : List ℕ) (w : BracketContext) (c : Closing ℕ) : Type 0 where
  pub here : CanGoOn source c (end_of c.node)
  pub closed : (t : LinkTail) → link_tail (lines w) (start_of_first_past c.rest) (block_text w) (end_of c.node)
      ≡ Some t → CanGoOn source c t.ends
  pub labelled : (i : ℕ) → closer_ends_at i c.rest ≡ true → CanGoOn source c i
  pub emptied : form_of w c ≡ collapsed → CanGoOn source c (end_of c.node + 2)
  pub doubled : (a : TreeNode ℕ) (below after : Forest (TreeNode ℕ)) → c.rest ≡ node a below after
      → CanGoOn source c (end_of a)
  -- a wikilink of a body before it shows what can be shown, and its name is a slice of the source there
  pub shows : (f : Forest (TreeNode ℕ)) (v : Wikilink ℕ) → AllLie source f → wikilink_in w f (start_of c.node) ≡ Some v
      → ShowsWell source f v.children
  pub names : (f : Forest (TreeNode ℕ)) (v : Wikilink ℕ) → wikilink_in w f (start_of c.node) ≡ Some v
      → IsNamedIn source f (end_of c.node) v.name

-- a name that ends before a byte offset ends before a later one
named_later : (source : List ℕ) (f : Forest (TreeNode ℕ)) (end end' : ℕ) (name : List ℕ) → end ≤ end'
    → IsNamedIn source f end name → IsNamedIn source f end' name
named_later source nil end end' name le h = h
named_later source (node a below after) end end' name le h = slice_wider source (start_of a) end (start_of a) end' name
    (omega arith) le h

-- what is written ends like this
abbrev EndsSo : List ℕ → Closing ℕ → (end next : ℕ) → Type 0
EndsSo source c end next = CanGoOn source c next × IsCharBoundary source end × (end_of c.node ≤ end) × (end ≤ next)

-- the link that a look-up finds is of the label's type, or of the one whose label a callback knew
unknown_made : (link_type : LinkType) → destination_origin link_type ≡ made → destination_origin (unknown link_type)
    ≡ made
unknown_made kind.Reference e = refl
unknown_made kind.Collapsed e = refl
unknown_made kind.Shortcut e = refl
unknown_made other e = e

-- so it is neither an autolink nor a wikilink
unfoldable pub IsNoSlice : Option LinkView → Type 0
IsNoSlice target = IfSome target (λ t. destination_origin t.kind ≡ made)

pub looked_up_made : (defined : DefinitionsByLabel) (asks : Bool) (limit : ℕ) (answers : Answers) (q : Question)
    → destination_origin q.link_type ≡ made → IsNoSlice (look_up defined asks limit answers q).target
unfolding IsNoSlice
looked_up_made defined asks limit answers q e = by_limit (limit == 0)
  where
    by_answer : (later : Answers) (a : Option Answer) → IsNoSlice (answered limit later q a).target
    by_answer later None = tt
    by_answer later (Some a) = unknown_made q.link_type e

    by_answers : (all : Answers) → IsNoSlice (asked limit all q).target
    by_answers [] = by_answer [] None
    by_answers (a ∷ later) = by_answer later a

    by_asking : (asking : Bool)
        → IsNoSlice (if asking then asked limit answers q else finds_nothing limit answers []).target
    by_asking true = by_answers answers
    by_asking false = tt

    by_definition : (d : Option DefinitionView) → IsNoSlice (defined_or_asked asks limit answers q d).target
    by_definition None = by_asking asks
    by_definition (Some d) = e

    by_limit : (none : Bool)
        → IsNoSlice (if none then finds_nothing limit answers [] else defined_or_asked asks limit answers q
        (defined q.reference)).target
    by_limit true = tt
    by_limit false = by_definition (defined q.reference)

module _ (source : List ℕ) (w : BracketContext) (c : Closing ℕ) (may : MayGoOn source w c) where
  ends_so : (i : ℕ) → CanGoOn source c i → EndsSo source c i i
  ends_so i on = (on, on.between, on.after, omega arith)

  -- a reference ends so, and its type is neither that of an autolink nor that of a wikilink
  reference_so : (r : LinkReference) → IsFull w c r ⊎ IsOwn w c r
      → EndsSo source c r.end r.next × (destination_origin r.link_type ≡ made)
  reference_so r way = ⊎_elim (λ (h : IsFull w c r). (
    subst (EndsSo source c r.end) (sym (ap (λ (r : LinkReference). r.next) h.is))
        (ends_so r.end (may.labelled r.end h.closes)),
    ap (λ (r : LinkReference). destination_origin r.link_type) h.is,
  )) (λ (h : IsOwn w c r). subst (λ end. EndsSo source c end r.next × (destination_origin r.link_type ≡ made))
      (sym h.end) (⊎_elim
      (λ (f : (r.link_type ≡ kind.Collapsed) × (r.next ≡ end_of c.node + 2) × (form_of w c ≡ collapsed)). (
        subst (EndsSo source c (end_of c.node)) (sym f.1)
            (may.emptied f.2, may.here.between, omega arith, omega arith),
        ap destination_origin f.0,
      )) (λ (f : (r.link_type ≡ kind.Shortcut) × (r.next ≡ end_of c.node)). (
        subst (EndsSo source c (end_of c.node)) (sym f.1) (ends_so (end_of c.node) may.here),
        ap destination_origin f.0,
      )) h.form)) way

  target_well : (o : Split ℕ) (r : LinkReference) (target : Option LinkView) → EndsSo source c r.end r.next
      → IsNoSlice target → EndsWell source c (unwrap_or (option_map (λ t. a_link o t [] r.end r.next) target) a_text)
  unfolding IsNoSlice
  target_well o r None h k = tt
  target_well o r (Some target) h k = (h.0, h.1, h.2, h.3, k)

  -- the second `]` is the first item after the first one
  second_on : (rest : Forest (TreeNode ℕ)) (end : ℕ) → c.rest ≡ rest → second_end w rest ≡ Some end
      → CanGoOn source c end
  second_on nil end e s = absurd (cc s)
  second_on (node a below after) end e s = by
      (w.setting.rules.syntax.wikilinks && is_closing_bracket (open_body a.part.shape)) s
    where
      by : (b : Bool) → (if b then Some (end_of a) else None) ≡ Some end → CanGoOn source c end
      by true s = let same : end_of a ≡ end = cc in subst (CanGoOn source c) same (may.doubled a below after e)
      by false s = absurd (cc s)

  decided_well : (p : Progress ℕ) → AllLie source (trees_onto p.left nil) → EndsWell source c (decided w c p).becomes
  unfolding decided
  decided_well p lies =
      let second = second_end w c.rest in
      let now : Progress ℕ = record p { left = bracket_taken (left_for_one second p.left) } in
      let Well : Option (Written ℕ) → Type 0 = λ x. EndsWell source c (carried_out w x now).becomes in
      let rules = w.setting.rules in
      either Well (found w c second p.left) tt (found_cases w c (λ left. AllLie source (trees_onto left nil)) (record {
        bracket = λ left h. subst (AllLie source) (sym (trees_stay opens_bracket without_bracket left nil)) h;
        wikilink = λ left h. subst (AllLie source) (sym (trees_stay opens_wikilink without_wikilink left nil)) h;
      }) (λ x. Well (Some x)) second (λ left o h e live. record {
        inline = λ t is. let so = ends_so t.ends (may.closed t is) in (so.0, so.1, so.2, so.3, refl);
        refers = λ r way.
            let so = reference_so r way in
            target_well o r (look_up rules.definitions rules.asks p.state.limit p.state.answers
            (question_at o r)).target so.0
            (looked_up_made rules.definitions rules.asks p.state.limit p.state.answers (question_at o r) so.1);
        footnote = λ name. may.here;
      }) (λ left o v end h e live is s.
      let on = second_on c.rest end refl s in (
        on,
        may.shows (past_second (inside o)) v (inside_lies source opens_wikilink left o h e) is,
        named_later source (past_second (inside o)) (end_of c.node) end v.name on.after
            (may.names (past_second (inside o)) v is),
      )) p.left lies)

-- the chain after a `]` can continue at each of these byte offsets
may_go_on : (source : List ℕ) (tables : Tables) (nodes : List (Node Item)) (w : BracketContext) (c : Closing ℕ)
    (f : Forest ℕ) → StandsAfter source tables nodes c f
    → IsCharBoundary source (start_of c.node) → start_of c.node ≤ end_of c.node → w.setting.text ≡ source
    → IsUtf8 source → MayGoOn source w c
may_go_on source tables nodes w c f k starts ordered text utf8 = record {
  here = goes_on_here source tables nodes c f k;
  closed = λ t e.
      let closes = tail_closes (lines w) (start_of_first_past c.rest) (block_text w) (end_of c.node) t e in
      let size = length-take w.above.block_end w.setting.text in
      let whole = ap length text in
      let inside_text : t.ends ≤ length source = omega (arith, closes.within, size, whole) in
      let below : t.ends - 1 < w.above.block_end = omega (arith, closes.within, closes.after, size) in
      let byte : get_or source (t.ends - 1) 0 ≡ 41 =
      ap (λ (bytes : List ℕ). get_or bytes (t.ends - 1) 0) (sym text)
      ∙ (sym (get_or-take w.above.block_end w.setting.text (t.ends - 1) 0 below) ∙ closes.closed) in
      goes_on_closed source tables nodes c f k t.ends utf8 closes.after inside_text byte;
  labelled = λ i h. goes_on_there source tables nodes c f k i (ends_there source tables nodes i f
      (subst (λ (rest : Forest (TreeNode ℕ)). closer_ends_at i rest ≡ true) k.rest_is h));
  emptied = λ e.
      let stands = collapsed_stands (footnote_style w.setting.rules.syntax) (lines w) w.above.in_table (block_text w)
      (end_of c.node)
      (option_map as_item (first_root c.rest)) (option_map as_item (first_root (past_second c.rest))) e in
      let closes = subst (λ (rest : Forest (TreeNode ℕ)). stands_at (end_of c.node + 1) is_closing_bracket
      (option_map as_item (first_root (past_second rest))) ≡ true) k.rest_is stands in
      let there = second_ends source tables nodes (end_of c.node + 1) f closes k.placed in
      let place : end_of c.node + 1 + 1 ≡ end_of c.node + 2 = omega arith in
      subst (CanGoOn source c) place (goes_on_there source tables nodes c f k (end_of c.node + 1 + 1) there);
  doubled = λ a below after e. first_ends f a below after k (sym k.rest_is ∙ e);
  shows = λ g v lies e.
      subst (λ (bytes : List ℕ). IsUtf8 bytes → AllLie bytes g → IsCharBoundary bytes (start_of c.node)
      → ShowsWell bytes g v.children) text (λ u l b. shows_well w g (start_of c.node) v u l b e) utf8 lies starts;
  names = λ g v e.
      named_later source g (start_of c.node) (end_of c.node) v.name ordered
      (subst (λ (bytes : List ℕ). IsNamedIn bytes g (start_of c.node) v.name) text
      (names_slice w g (start_of c.node) v e));
}
  where
    first_ends : (g : Forest ℕ) (a : TreeNode ℕ) (below after : Forest (TreeNode ℕ))
        → StandsAfter source tables nodes c g
        → relabelled (numbered_node source tables nodes) g ≡ node a below after → CanGoOn source c (end_of a)
    first_ends nil a below after k e = absurd (cc e)
    first_ends (node ix inner later) a below after k e =
        let same : numbered_node source tables nodes ix ≡ a = cc e in
        let there : EndsThere nodes (item_at nodes ix).end (node ix inner later) = record {
          before = [];
          item = ix;
          after = roots later;
          follows = refl;
          ends = refl;
        } in
        subst (λ (b : TreeNode ℕ). CanGoOn source c (end_of b)) same
        (goes_on_there source tables nodes c (node ix inner later) k (item_at nodes ix).end there)

-- what a `]` becomes after a left list ends well
pub ends_well : (source : List ℕ) (tables : Tables) (nodes : List (Node Item)) (first closer : ℕ)
    (left : List (Entry ℕ)) (w : BracketContext) (c : Closing ℕ)
    (p : Progress ℕ) (becomes : Becomes ℕ) (q : Progress ℕ) → StandsTo source tables nodes first (Some closer) left
    → c.node ≡ numbered_node source tables nodes closer → c.rest
    ≡ numbered_from source tables nodes (sibling_of nodes closer)
    → w.setting.text ≡ source → IsUtf8 source → p.left ≡ left → decided w c p
    ≡ record { becomes = becomes; progress = q } → EndsWell source c becomes
ends_well source tables nodes first closer left w c p becomes q h label rest text utf8 stands e =
    let o = opens_chain (stands_rest h) in
    let f = forest_at (links_of nodes) (sibling_of nodes closer) in
    let end : (item_at nodes closer).end ≡ end_of c.node = ap (λ (a : TreeNode ℕ). end_of a) (sym label) in
    let start : (item_at nodes closer).start ≡ start_of c.node = ap (λ (a : TreeNode ℕ). start_of a) (sym label) in
    let k : StandsAfter source tables nodes c f = record {
      rest_is = rest;
      placed = o.all_placed;
      ordered = subst (λ (i : ℕ). InOrder nodes i (roots f)) end o.ordered;
      between = subst (IsCharBoundary source) end o.placed.lies.end;
    } in
    let may = may_go_on source tables nodes w c f k (subst (IsCharBoundary source) start o.placed.lies.start)
    (rw label o.placed.lies.ordered) text utf8 in
    let lies : AllLie source (trees_onto p.left nil) = subst (λ (l : List (Entry ℕ)). AllLie source (trees_onto l nil))
    (sym stands) (left_lies source tables nodes first (Some closer) left h) in
    subst (λ (d : Decision ℕ). EndsWell source c d.becomes) e (decided_well source w c may p lies)
