-- The numbers of the shapes of a resolved chain, in the order in which its trees end, where those of the chain itself
-- have none: then only what look-ups made has some, and a property of them and of the limit that each look-up keeps is
-- kept.
use Rattle.std.proofs.Common.{◌≡◌, ℕ, ◌+◌, ◌-◌, ◌≤◌, Bool, true, false, List, [], ◌∷◌, Option, Some, None, refl, sym}
use Rattle.std.proofs.Common.{subst, ap, ◌∙◌, append-nil, append_assoc, ◌++◌, arith, nat_le}
use Rattle.std.proofs.lemmas.Bool.{cond_both}
use Rattle.std.proofs.lemmas.Bool.Decides.{nat_tests}
use Rattle.std.specs.Prelude.{◌==◌, IfSome, MatchOption, if◌then◌else◌, slice_range, unwrap_or}
use Rattle.std.specs.Option.{option_map}
use Rattle.markdown_base.specs.Event.{LinkView, link, image, text, code, inline_html, footnote_reference}
use Rattle.markdown_base.specs.Forest.{Forest, nil, node, Each}
use Rattle.markdown_base.specs.Questions.{Answers, Question, Answer}
use Rattle.markdown_base.specs.BlockParts.{DefinitionView}
use Rattle.markdown_base.specs.declared.item.ItemBody.{ItemBody}
use Rattle.markdown_base.specs.declared.item.ItemBody.TheVariants as body
use Rattle.markdown_document.specs.EnclosingBlocks.{EnclosingBlocks}
use Rattle.markdown_document.specs.ChainRest.{begun_at, cut_shape, end_of, open_body, past_byte, start_of}
use Rattle.markdown_document.specs.Document.{Origin, made, sliced, Notes, Shape, leaf, enclosed, TreeNode, math}
use Rattle.markdown_document.specs.Setting.{DefinitionsByLabel, Setting, ReferenceState}
use Rattle.markdown_document.specs.Waiting.{is_quiet}
use Rattle.markdown_spans.specs.AfterLess.{Markup, autolink, html_markup}
use Rattle.markdown_spans.specs.Finds.{Find, SpanText, address, code_span, code_trees, find, is_escaped, markup}
use Rattle.markdown_spans.specs.Finds.{link_type, markup_trees, math_span, nothing, read_tree, read_unless, trees_for}
use Rattle.markdown_spans.specs.declared.after_less.AutolinkKind.{AutolinkKind}
use Rattle.markdown_spans.specs.declared.after_less.AutolinkKind.TheVariants.{Uri, Email}
use Rattle.markdown_delims.specs.Pairing.{paired}
use Rattle.markdown_brackets.specs.BracketDecision.{BracketContext, Closing, Written, LinkReference, Progress, Wikilink}
use Rattle.markdown_brackets.specs.BracketDecision.{a_footnote, a_link, a_text, a_wikilink, carried_out, decided, found}
use Rattle.markdown_brackets.specs.BracketDecision.{inline_target, inline_title, left_for_one, looked_up, past_second}
use Rattle.markdown_brackets.specs.BracketDecision.{question_at, second_end, wikilink_in}
use Rattle.markdown_brackets.specs.ClosingBracket.{closed, footnote_onto, put, put_decided, wikilink_target}
use Rattle.markdown_brackets.specs.LeftList.{Entry, OpenerState, Split, before_footnote, before_link, before_wikilink}
use Rattle.markdown_brackets.specs.LeftList.{with_entry, bracket_taken, change_nearest, disabled_state, done, inside}
use Rattle.markdown_brackets.specs.LeftList.{nearest, on_states, opens_bracket, opens_wikilink, second_folded}
use Rattle.markdown_brackets.specs.LeftList.{trees_onto, waits, without_bracket, without_wikilink, all_done}
use Rattle.markdown_brackets.specs.Lookup.{LookedUp, answered, defined_or_asked, finds_nothing, look_up, size_of}
use Rattle.markdown_brackets.specs.ReadChain.{begun, closing_of, read, read_as, read_chain, read_past}
use Rattle.markdown_brackets.proofs.ClosingBracketLemmas.{Stays, all_stays, either, found_cases, some_of}
use Rattle.markdown_brackets.proofs.NoLinkLemmas.{wikilink_keeps}
use Rattle.markdown_inline.specs.LookUps.{is_looked_up}
use Rattle.markdown_inline.specs.ResolvedShapes.{IsMadeEvent}
use Rattle.markdown_resolver.specs.PassOne.{bracket_context, pass_one, read_on, read_other}
use Rattle.markdown_resolver.specs.Resolved.{all_paired, resolved}
use Rattle.markdown_inline.proofs.EndOrderLemmas.{IsWithin, drop_list, ends_append, ends_drop, ends_mono, ends_onto}
use Rattle.markdown_inline.proofs.EndOrderLemmas.{keep_list, within_nothing, within_same, within_trans}
use Rattle.markdown_inline.proofs.PairedEndsLemmas.{NumbersNoMarks, all_within, paired_within, text_none}

-- the shapes of which only what look-ups made has numbers; and a property of a list and a limit, which stays true where
-- some numbers are dropped, and after a look-up
pub record Keeps (own : Shape → List ℕ) (holds : List ℕ → (limit : ℕ) → Type 0) : Type 0 where
  pub numbers : NumbersNoMarks own
  pub cut : (n : ℕ) (shape : Shape) → own (cut_shape n shape) ≡ own shape
  pub other_link : (v : LinkView) (titles : List Origin) → is_looked_up v.kind ≡ false
      → own (enclosed (link v) titles) ≡ []
  pub other_image : (v : LinkView) (titles : List Origin) → is_looked_up v.kind ≡ false
      → own (enclosed (image v) titles) ≡ []
  pub less : (ns ms : List ℕ) (limit : ℕ) → IsWithin ms ns → holds ns limit → holds ms limit
  pub link_found : (ns : List ℕ) (limit : ℕ) (v : LinkView) → 1 ≤ limit → holds ns limit
      → holds (ns ++ own (enclosed (link v) [])) (limit - size_of v)
  pub image_found : (ns : List ℕ) (limit : ℕ) (v : LinkView) → 1 ≤ limit → holds ns limit
      → holds (ns ++ own (enclosed (image v) [])) (limit - size_of v)

-- what has no numbers comes before a list
none_before : (xs ns ms : List ℕ) → xs ≡ [] → IsWithin ns ms → IsWithin (xs ++ ns) ms
none_before xs ns ms e w = subst (λ (l : List ℕ). IsWithin (l ++ ns) ms) (sym e) w

-- what a look-up finds takes its bytes off the limit, which was not 0
abbrev pub TakesFrom : ℕ → LookedUp → Type 0
TakesFrom limit l = MatchOption l.target (l.limit ≡ limit) (λ v. (1 ≤ limit) × (l.limit ≡ limit - size_of v))

takes_if_answered : (limit : ℕ) (answers : Answers) (q : Question) (a : Option Answer) → 1 ≤ limit
    → TakesFrom limit (answered limit answers q a)
takes_if_answered limit answers q None h = refl
takes_if_answered limit answers q (Some a) h = (h, refl)

takes_if_found : (asks : Bool) (limit : ℕ) (answers : Answers) (q : Question) (o : Option DefinitionView) → 1 ≤ limit
    → TakesFrom limit (defined_or_asked asks limit answers q o)
takes_if_found asks limit answers q (Some d) h = (h, refl)
takes_if_found false limit answers q None h = refl
takes_if_found true limit [] q None h = refl
takes_if_found true limit (a ∷ answers) q None h = takes_if_answered limit answers q a h

some_left : (n : ℕ) → (n == 0) ≡ false → 1 ≤ n
some_left n e = grind (arith, nat_tests)

pub takes_from : (defined : DefinitionsByLabel) (asks : Bool) (limit : ℕ) (answers : Answers) (q : Question)
    → TakesFrom limit (look_up defined asks limit answers q)
takes_from defined asks limit answers q =
    cond_both (limit == 0) (finds_nothing limit answers [])
    (defined_or_asked asks limit answers q (defined q.reference)) (TakesFrom limit)
    (λ e. refl)
    (λ e. takes_if_found asks limit answers q (defined q.reference) (some_left limit e))

-- math stands for itself, displayed or not
lone_math : (display : Bool) (bytes : List ℕ) → IsMadeEvent (math display bytes)
lone_math true bytes = tt
lone_math false bytes = tt

-- an autolink is not looked up
no_look_up : (kind : AutolinkKind) → is_looked_up (link_type kind) ≡ false
no_look_up Uri = refl
no_look_up Email = refl

module _ {A : Type 0} (own : Shape → List ℕ) (holds : List ℕ → (limit : ℕ) → Type 0) (keeps : Keeps own holds) where
  abbrev ends : Forest (TreeNode A) → List ℕ → List ℕ
  ends f rest = ends_onto own f rest

  abbrev of : TreeNode A → List ℕ
  of a = own a.part.shape

  -- no node of a forest has a number
  abbrev pub HasNone : Forest (TreeNode A) → Type 0
  HasNone f = Each (λ (a : TreeNode A). own a.part.shape ≡ []) f

  abbrev ends_left : List (Entry A) → List ℕ → List ℕ
  ends_left [] rest = rest
  ends_left (done a below ∷ left) rest = ends_left left (ends below (of a ++ rest))
  ends_left (waits m a ∷ left) rest = ends_left left (of a ++ rest)

  abbrev Holds : Progress A → Type 0
  Holds p = holds (ends_left p.left []) p.state.limit

  -- a forest without numbers adds none
  none_onto : (f : Forest (TreeNode A)) (t : List ℕ) → HasNone f → IsWithin (ends f t) t
  none_onto nil t h = within_same t
  none_onto (node a below after) t h =
      within_trans (ends below (of a ++ ends after t)) (of a ++ ends after t) t
      (none_onto below (of a ++ ends after t) h.1)
      (none_before (of a) (ends after t) t h.0 (none_onto after t h.2))

  -- the trees of a left list, and trees that are put onto one
  onto : (left : List (Entry A)) (later : Forest (TreeNode A)) (t : List ℕ) → ends (trees_onto left later) t
      ≡ ends_left left (ends later t)
  onto [] later t = refl
  onto (done a below ∷ left) later t = onto left (node a below later) t
  onto (waits m a ∷ left) later t = onto left (node a nil later) t

  put_on : (trees : Forest (TreeNode A)) (left : List (Entry A)) (t : List ℕ) → ends_left (all_done trees left) t
      ≡ ends_left left (ends trees t)
  put_on nil left t = refl
  put_on (node a below after) left t = put_on after (done a below ∷ left) t

  -- where a list is within another, so it is with the numbers of a left list before both; all of a left list's may be
  -- dropped; what follows stays in order
  mono_left : (left : List (Entry A)) (ns ms : List ℕ) → IsWithin ns ms
      → IsWithin (ends_left left ns) (ends_left left ms)
  mono_left [] ns ms w = w
  mono_left (done a below ∷ left) ns ms w = mono_left left (ends below (of a ++ ns)) (ends below (of a ++ ms))
      (ends_mono own below (of a ++ ns) (of a ++ ms) (keep_list (of a) ns ms w))
  mono_left (waits m a ∷ left) ns ms w = mono_left left (of a ++ ns) (of a ++ ms) (keep_list (of a) ns ms w)

  drop_left : (left : List (Entry A)) (ns ms : List ℕ) → IsWithin ns ms → IsWithin ns (ends_left left ms)
  drop_left [] ns ms w = w
  drop_left (done a below ∷ left) ns ms w = drop_left left ns (ends below (of a ++ ms))
      (ends_drop own below ns (of a ++ ms) (drop_list (of a) ns ms w))
  drop_left (waits m a ∷ left) ns ms w = drop_left left ns (of a ++ ms) (drop_list (of a) ns ms w)

  append_left : (left : List (Entry A)) (ns ms : List ℕ) → ends_left left (ns ++ ms) ≡ ends_left left ns ++ ms
  append_left [] ns ms = refl
  append_left (done a below ∷ left) ns ms =
      ap (λ (l : List ℕ). ends_left left (ends below l)) (sym (append_assoc (of a) ns ms))
      ∙ ap (λ (l : List ℕ). ends_left left l) (ends_append own below (of a ++ ns) ms)
      ∙ append_left left (ends below (of a ++ ns)) ms
  append_left (waits m a ∷ left) ns ms = ap (λ (l : List ℕ). ends_left left l) (sym (append_assoc (of a) ns ms))
      ∙ append_left left (of a ++ ns) ms

  -- flags have no numbers
  marks : (f : OpenerState → OpenerState) (left : List (Entry A)) (t : List ℕ) → ends_left
      (on_states f left) t ≡ ends_left left t
  marks f [] t = refl
  marks f (done a below ∷ left) t = marks f left (ends below (of a ++ t))
  marks f (waits m a ∷ left) t = marks f left (of a ++ t)

  second : (left : List (Entry A)) (t : List ℕ) → ends_left (second_folded left) t ≡ ends_left left t
  second [] t = refl
  second (done a below ∷ left) t = refl
  second (waits m a ∷ left) t = refl

  change : (test : OpenerState → Bool) (f : OpenerState → OpenerState) (left : List (Entry A)) (t : List ℕ)
      → ends_left (change_nearest test f left) t
      ≡ ends_left left t
  change test f [] t = refl
  change test f (done a below ∷ left) t = change test f left (ends below (of a ++ t))
  change test f (waits m a ∷ left) t = by (test m) (change test f left (of a ++ t))
    where
      by : (b : Bool) → ends_left (change_nearest test f left) (of a ++ t) ≡ ends_left left (of a ++ t)
          → ends_left (if b then waits (f m) a ∷ left else waits m a ∷ change_nearest test f left) t
          ≡ ends_left left (of a ++ t)
      by true e = refl
      by false e = e

  of_link : (is_image : Bool) (left : List (Entry A)) (t : List ℕ) → ends_left (before_link is_image left) t
      ≡ ends_left left t
  of_link true left t = second left t
  of_link false left t = marks disabled_state (second_folded left) t ∙ second left t

  of_wikilink : (left : List (Entry A)) (t : List ℕ) → ends_left (before_wikilink left) t ≡ ends_left left t
  of_wikilink left t = marks without_wikilink (on_states disabled_state left) t ∙ marks disabled_state left t

  of_footnote : (left : List (Entry A)) (t : List ℕ) → ends_left (before_footnote left) t ≡ ends_left left t
  of_footnote left t = marks without_bracket (second_folded left) t ∙ second left t

  -- an opener of a left list
  abbrev IsPart : List (Entry A) → Split A → Type 0
  IsPart left o = (t : List ℕ) → IsWithin (ends_left o.before (ends_left o.after t)) (ends_left left t)

  part_done : (a : TreeNode A) (below : Forest (TreeNode A)) (left : List (Entry A)) (o : Option (Split A))
      → IfSome o (IsPart left)
      → IfSome (option_map (with_entry (done a below)) o) (IsPart (done a below ∷ left))
  part_done a below left None h = tt
  part_done a below left (Some o) h = λ t. h (ends below (of a ++ t))

  part_waits : (m : OpenerState) (a : TreeNode A) (left : List (Entry A)) (o : Option (Split A)) → IfSome o
      (IsPart left)
      → IfSome (option_map (with_entry (waits m a)) o) (IsPart (waits m a ∷ left))
  part_waits m a left None h = tt
  part_waits m a left (Some o) h = λ t. h (of a ++ t)

  part_nearest : (test : OpenerState → Bool) (left : List (Entry A)) → IfSome (nearest test left) (IsPart left)
  part_nearest test [] = tt
  part_nearest test (done a below ∷ left) = part_done a below left (nearest test left) (part_nearest test left)
  part_nearest test (waits m a ∷ left) = by (test m) (part_nearest test left)
    where
      by : (b : Bool) → IfSome (nearest test left) (IsPart left)
          → IfSome (if b then Some (record { state = m; opener = a; after = []; before = left })
          else option_map (with_entry (waits m a)) (nearest test left)) (IsPart (waits m a ∷ left))
      by true h = λ t. mono_left left t (of a ++ t) (drop_list (of a) t t (within_same t))
      by false h = part_waits m a left (nearest test left) h

  -- the same where its flags were changed
  part_of : (left other : List (Entry A)) (o : Split A) → ((t : List ℕ) → ends_left other t ≡ ends_left left t)
      → IsPart left o
      → IsPart other o
  part_of left other o e h = λ t. subst (λ (l : List ℕ). IsWithin (ends_left o.before (ends_left o.after t)) l)
      (sym (e t)) (h t)

  -- trees from a byte on, and those of a wikilink
  from_byte : (i : ℕ) (f : Forest (TreeNode A)) (t : List ℕ) → IsWithin (ends (past_byte i f) t) (ends f t)
  from_byte i nil t = within_same t
  from_byte i (node a below after) t = by (nat_le (end_of a) i) (from_byte i after t)
    where
      by : (b : Bool) → IsWithin (ends (past_byte i after) t) (ends after t)
          → IsWithin (ends (if b then past_byte i after else node (begun_at i a) below after) t)
          (ends below (of a ++ ends after t))
      by true h = ends_drop own below (ends (past_byte i after) t) (of a ++ ends after t)
          (drop_list (of a) (ends (past_byte i after) t)
          (ends after t) h)
      by false h = subst (λ (l : List ℕ). IsWithin (ends below (l ++ ends after t)) (ends below (of a ++ ends after t)))
          (sym (keeps.cut (i - start_of a) a.part.shape)) (within_same (ends below (of a ++ ends after t)))

  -- those from the second tree on
  of_second : (f : Forest (TreeNode A)) (t : List ℕ) → IsWithin (ends (past_second f) t) (ends f t)
  of_second nil t = within_same t
  of_second (node a below after) t = ends_drop own below (ends after t) (of a ++ ends after t)
      (drop_list (of a) (ends after t) (ends after t) (within_same (ends after t)))

  module _ (w : BracketContext) (c : Closing A) where
    -- a Text
    as_text_holds : (p : Progress A) → Holds p → Holds (put w c a_text p)
    as_text_holds p h =
        let bytes : List ℕ = slice_range w.setting.text (start_of c.node) (end_of c.node) in
        let shown : List ℕ = own (leaf (text bytes) (sliced ∷ [])) in
        keeps.less (ends_left p.left []) (ends_left p.left (shown ++ [])) p.state.limit
        (mono_left p.left (shown ++ []) []
        (none_before shown [] [] (text_none own keeps.numbers bytes) (within_same []))) h

    -- a link or an image that was not looked up, and one that was
    abbrev of_note : (is_image : Bool) → LinkView → List Origin → List ℕ
    of_note is_image v titles = own (enclosed (if is_image then image v else link v) titles)

    tag_none : (is_image : Bool) (v : LinkView) (titles : List Origin) → is_looked_up v.kind ≡ false
        → of_note is_image v titles ≡ []
    tag_none true v titles e = keeps.other_image v titles e
    tag_none false v titles e = keeps.other_link v titles e

    tag_holds : (is_image : Bool) (v : LinkView) (titles : List Origin) (ns : List ℕ) (limit : ℕ)
        → is_looked_up v.kind ≡ false → holds ns limit
        → holds (ns ++ of_note is_image v titles) limit
    tag_holds is_image v titles ns limit e h = subst (λ (l : List ℕ). holds l limit)
        (sym (ap (λ (l : List ℕ). ns ++ l) (tag_none is_image v titles e)
        ∙ append-nil ns)) h

    tag_found : (is_image : Bool) (v : LinkView) (ns : List ℕ) (limit : ℕ) → 1 ≤ limit → holds ns limit
        → holds (ns ++ of_note is_image v []) (limit - size_of v)
    tag_found true v ns limit e h = keeps.image_found ns limit v e h
    tag_found false v ns limit e h = keeps.link_found ns limit v e h

    -- with what is inside it and before it
    enclosing : (left : List (Entry A)) (o : Split A) (children : Forest (TreeNode A)) (before : List (Entry A))
        (x : List ℕ) (limit later : ℕ) → IsWithin (ends children []) (ends_left o.after [])
        → ((t : List ℕ) → ends_left before t ≡ ends_left o.before t) → IsPart left o
        → ((ns : List ℕ) → holds ns limit → holds (ns ++ x) later) → holds (ends_left left []) limit
        → holds (ends_left before (ends children (x ++ []))) later
    enclosing left o children before x limit later i same part step h =
        let ns : List ℕ = ends_left before (ends children []) in
        let within : IsWithin ns (ends_left left []) =
        subst (λ (l : List ℕ). IsWithin l (ends_left left [])) (sym (same (ends children [])))
        (within_trans (ends_left o.before (ends children [])) (ends_left o.before (ends_left o.after []))
        (ends_left left [])
        (mono_left o.before (ends children []) (ends_left o.after []) i) (part [])) in
        let listed : ends_left before (ends children (x ++ [])) ≡ ns ++ x =
        ap (λ (l : List ℕ). ends_left before (ends children l)) (append-nil x) ∙ ap (λ (l : List ℕ). ends_left before l)
        (ends_append own children [] x) ∙ append_left before (ends children []) x in
        subst (λ (l : List ℕ). holds l later) (sym listed) (step ns (keeps.less (ends_left left []) ns limit within h))

    inside_within : (o : Split A) (t : List ℕ) → IsWithin (ends (inside o) t) (ends_left o.after t)
    inside_within o t = subst (λ (l : List ℕ). IsWithin l (ends_left o.after t)) (sym (onto o.after nil t))
        (within_same (ends_left o.after t))

    -- a link or an image: not looked up, or looked up at a limit that was not 0; and a wikilink
    link_holds : (o : Split A) (v : LinkView) (titles : List Origin) (end next : ℕ) (p : Progress A)
        → is_looked_up v.kind ≡ false → IsPart p.left o → Holds p
        → Holds (put w c (a_link o v titles end next) p)
    link_holds o v titles end next p e part h =
        enclosing p.left o (inside o) (before_link o.state.is_image o.before) (of_note o.state.is_image v titles)
        p.state.limit p.state.limit
        (inside_within o []) (of_link o.state.is_image o.before) part
        (λ ns k. tag_holds o.state.is_image v titles ns p.state.limit e k) h

    link_found : (o : Split A) (v : LinkView) (end next limit : ℕ) (p : Progress A) → 1 ≤ limit → p.state.limit
        ≡ limit - size_of v
        → IsPart p.left o → holds (ends_left p.left []) limit
        → Holds (put w c (a_link o v [] end next) p)
    link_found o v end next limit p some e part h =
        subst (λ l. holds (ends_left (put w c (a_link o v [] end next) p).left []) l) (sym e)
        (enclosing p.left o (inside o) (before_link o.state.is_image o.before) (of_note o.state.is_image v []) limit
        (limit - size_of v)
        (inside_within o []) (of_link o.state.is_image o.before) part
        (λ ns k. tag_found o.state.is_image v ns limit some k) h)

    wikilink_holds : (o : Split A) (v : Wikilink A) (end : ℕ) (p : Progress A)
        → IsWithin (ends v.children []) (ends_left o.after [])
        → IsPart p.left o → Holds p → Holds (put w c (a_wikilink o v end) p)
    wikilink_holds o v end p i part h =
        enclosing p.left o v.children (before_wikilink o.before) (of_note o.state.is_image (wikilink_target v) [])
        p.state.limit p.state.limit i
        (of_wikilink o.before) part
        (λ ns k. tag_holds o.state.is_image (wikilink_target v) [] ns p.state.limit refl k) h

    -- a footnote reference
    footnote_within : (is_image : Bool) (a : TreeNode A) (name : List ℕ) (before : List (Entry A))
        → IsWithin (ends_left (footnote_onto w c is_image a name before) []) (ends_left before [])
    footnote_within true a name before =
        let bytes : List ℕ = slice_range w.setting.text (start_of a) (start_of a + 1) in
        let shown : List ℕ = own (leaf (footnote_reference name) (made ∷ [])) in
        let mark : List ℕ = own (leaf (text bytes) (sliced ∷ [])) in
        mono_left before (mark ++ (shown ++ [])) []
        (none_before mark (shown ++ []) [] (text_none own keeps.numbers bytes)
        (none_before shown [] [] (keeps.numbers.lone (footnote_reference name) (made ∷ []) tt) (within_same [])))
    footnote_within false a name before =
        let shown : List ℕ = own (leaf (footnote_reference name) (made ∷ [])) in
        mono_left before (shown ++ []) []
        (none_before shown [] [] (keeps.numbers.lone (footnote_reference name) (made ∷ []) tt)
        (within_same []))

    footnote_holds : (o : Split A) (name : List ℕ) (p : Progress A) → IsPart p.left o → Holds p
        → Holds (put w c (a_footnote o name) p)
    footnote_holds o name p part h =
        let left : List (Entry A) = before_footnote o.before in
        let before : IsWithin (ends_left left []) (ends_left p.left []) =
        subst (λ (l : List ℕ). IsWithin l (ends_left p.left [])) (sym (of_footnote o.before []))
        (within_trans (ends_left o.before []) (ends_left o.before (ends_left o.after [])) (ends_left p.left [])
        (mono_left o.before [] (ends_left o.after []) (within_nothing (ends_left o.after []))) (part [])) in
        keeps.less (ends_left p.left []) (ends_left (footnote_onto w c o.state.is_image o.opener name left) [])
        p.state.limit
        (within_trans (ends_left (footnote_onto w c o.state.is_image o.opener name left) []) (ends_left left [])
        (ends_left p.left [])
        (footnote_within o.state.is_image o.opener name left) before) h

    -- a left list without some flags
    unmarked : (p : Progress A) (left : List (Entry A)) → ((t : List ℕ) → ends_left left t ≡ ends_left p.left t)
        → Holds p
        → Holds (record p { left = left })
    unmarked p left e h = subst (λ (l : List ℕ). holds l p.state.limit) (sym (e [])) h

    -- a left list with the same numbers
    abbrev Same : List (Entry A) → List (Entry A) → Type 0
    Same left other = (t : List ℕ) → ends_left other t ≡ ends_left left t

    stays : (left : List (Entry A)) → Stays (Same left)
    stays left = record {
      bracket = λ other e t. change opens_bracket without_bracket other t ∙ e t;
      wikilink = λ other e t. change opens_wikilink without_wikilink other t ∙ e t;
    }

    -- its nearest opener is one of the left list
    part_same : (test : OpenerState → Bool) (left other : List (Entry A)) (o : Split A) → Same left other
        → nearest test other
        ≡ Some o
        → IsPart left o
    part_same test left other o same e =
        part_of other left o (λ t. sym (same t))
        (some_of (nearest test other) o (IsPart other) e (part_nearest test other))

    -- what a wikilink shows is a part of what is inside its brackets
    wikilink_within : (o : Split A) (v : Wikilink A) → wikilink_in w (past_second (inside o)) (start_of c.node)
        ≡ Some v
        → IsWithin (ends v.children []) (ends_left o.after [])
    wikilink_within o v is =
        some_of (wikilink_in w (past_second (inside o)) (start_of c.node)) v (λ v. IsPartOf v.children) is
        (wikilink_keeps w IsPartOf
        (λ a x y t. none_before _ t (ends_left o.after t) (text_none own keeps.numbers (slice_range w.setting.text x y))
        (drop_left o.after t t (within_same t)))
        (λ i f k t. within_trans (ends (past_byte i f) t) (ends f t) (ends_left o.after t) (from_byte i f t) (k t))
        (past_second (inside o)) (start_of c.node)
        (λ t. within_trans (ends (past_second (inside o)) t) (ends (inside o) t) (ends_left o.after t)
        (of_second (inside o) t)
        (inside_within o t))) []
      where
        IsPartOf : Forest (TreeNode A) → Type 0
        IsPartOf f = (t : List ℕ) → IsWithin (ends f t) (ends_left o.after t)

    -- what is looked up
    target_try : (o : Split A) (r : LinkReference) (limit : ℕ) (target : Option LinkView) (p : Progress A)
        → MatchOption target (p.state.limit ≡ limit) (λ v. (1 ≤ limit) × (p.state.limit ≡ limit - size_of v))
        → IsPart p.left o → holds (ends_left p.left []) limit
        → Holds (put w c (unwrap_or (option_map (λ t. a_link o t [] r.end r.next) target) a_text) p)
    target_try o r limit None p e part h = as_text_holds p (subst (λ l. holds (ends_left p.left []) l) (sym e) h)
    target_try o r limit (Some v) p e part h = link_found o v r.end r.next limit p e.0 e.1 part h

    closed_holds : (p : Progress A) → Holds p → Holds (closed w c p)
    unfolding closed decided
    closed_holds p h =
        let second = second_end w c.rest in
        let left : List (Entry A) = bracket_taken (left_for_one second p.left) in
        let now : Progress A = record p { left = left } in
        let same : Same p.left left = all_stays w c (Same p.left) (stays p.left) second p.left (λ t. refl) in
        let h' : Holds now = unmarked p left same h in
        let Kept : Option (Written A) → Type 0 = λ x. Holds (put_decided w c (carried_out w x now)) in
        let there = λ (o : Split A) (part : IsPart p.left o). part_of p.left left o same part in
        let rules = w.setting.rules in
        either Kept (found w c second p.left) (as_text_holds now h')
        (found_cases w c (Same p.left) (stays p.left) (λ x. Kept (Some x)) second
        (λ other o s e live.
        let part = there o (part_same opens_bracket p.left other o s e) in record {
          inline = λ t is. link_holds o (inline_target w t) (inline_title w t ∷ []) t.ends t.ends now refl part h';
          refers = λ r visit.
              let result = look_up rules.definitions rules.asks p.state.limit p.state.answers (question_at o r) in
              target_try o r p.state.limit result.target (looked_up o r result now).progress
              (takes_from rules.definitions rules.asks p.state.limit p.state.answers (question_at o r)) part h';
          footnote = λ name. footnote_holds o name now part h';
        })
        (λ other o v end s e live is k.
        wikilink_holds o v end now (wikilink_within o v is) (there o (part_same opens_wikilink p.left other o s e)) h')
        p.left (λ t. refl))

  -- the trees that replace a find have no numbers
  code_none : (s : Setting) (escaped : Bool) (a : TreeNode A) (t : SpanText) (closer : TreeNode A)
      → HasNone (code_trees s escaped a t closer)
  code_none s false a t closer = (keeps.numbers.lone (code t.bytes) (t.origin ∷ []) tt, tt, tt)
  code_none s true a t closer = (
    text_none own keeps.numbers (slice_range s.text (start_of a) (start_of a + 1)),
    tt,
    (keeps.numbers.lone (code t.bytes) (t.origin ∷ []) tt, tt, tt),
  )

  markup_none : (s : Setting) (new : A) (a : TreeNode A) (m : Markup) → HasNone (markup_trees s new a m)
  markup_none s new a (autolink kind end bytes) = (
    keeps.other_link (address kind bytes) [] (no_look_up kind),
    (text_none own keeps.numbers (slice_range s.text (end_of a) (end - 1)), tt, tt),
    tt,
  )
  markup_none s new a (html_markup end None)
      = (keeps.numbers.lone (inline_html (slice_range s.text (start_of a) end)) (sliced ∷ []) tt, tt, tt)
  markup_none s new a (html_markup end (Some bytes)) = (keeps.numbers.lone (inline_html bytes) (made ∷ []) tt, tt, tt)

  find_none : (s : Setting) (new : A) (a : TreeNode A) (found : Find A) → HasNone (trees_for s new a found)
  find_none s new a (code_span t closer) = code_none s (is_escaped (open_body a.part.shape)) a t closer
  find_none s new a (math_span display t end) = (
    keeps.numbers.lone (math display t.bytes) (t.origin ∷ []) (lone_math display t.bytes),
    tt,
    tt,
  )
  find_none s new a (markup m) = markup_none s new a m
  find_none s new a nothing = (text_none own keeps.numbers (slice_range s.text (start_of a) (end_of a)), tt, tt)

  module _ (s : Setting) (notes : Notes A) (above : EnclosingBlocks) where
    -- what is read of an item that is no bracket
    unless_none : (quiet : Bool) (n : ℕ) (a : TreeNode A) (below rest : Forest (TreeNode A)) → own a.part.shape ≡ []
        → HasNone below
        → HasNone (read_unless quiet s notes above n a below rest).trees
    unless_none true n a below rest e i = (e, i, tt)
    unless_none false n a below rest e i = find_none s (notes.of_made n) a (find s above a rest)

    other_holds : (a : TreeNode A) (below rest : Forest (TreeNode A)) (p : Progress A) → own a.part.shape ≡ []
        → HasNone below
        → Holds p
        → Holds (read_other s notes above a below rest p)
    unfolding read_tree
    other_holds a below rest p e i h =
        let trees : Forest (TreeNode A) = (read_tree s notes above p.made a below rest).trees in
        let none : HasNone trees = unless_none (is_quiet a.part.shape) p.made a below rest e i in
        keeps.less (ends_left p.left []) (ends_left (all_done trees p.left) []) p.state.limit
        (subst (λ (l : List ℕ). IsWithin l (ends_left p.left [])) (sym (put_on trees p.left []))
        (mono_left p.left (ends trees []) [] (none_onto trees [] none))) h

    opener_holds : (a : TreeNode A) (left : List (Entry A)) (limit : ℕ) → holds (ends_left left []) limit
        → holds (ends_left left (own (leaf (text (slice_range s.text (start_of a) (end_of a))) (sliced ∷ [])) ++ []))
        limit
    opener_holds a left limit h =
        let bytes : List ℕ = slice_range s.text (start_of a) (end_of a) in
        let shown : List ℕ = own (leaf (text bytes) (sliced ∷ [])) in
        keeps.less (ends_left left []) (ends_left left (shown ++ [])) limit
        (mono_left left (shown ++ []) [] (none_before shown [] [] (text_none own keeps.numbers bytes) (within_same [])))
        h

    -- an item, a chain, and pass one
    as_holds : (b : ItemBody) (a : TreeNode A) (below rest : Forest (TreeNode A)) (p : Progress A)
        → own a.part.shape ≡ []
        → HasNone below
        → Holds p
        → Holds (read_as (bracket_context s above) (read_other s notes above) b a below rest p)
    as_holds body.MaybeLinkOpen a below rest p e i h = opener_holds a p.left p.state.limit h
    as_holds body.MaybeImage a below rest p e i h = opener_holds a p.left p.state.limit h
    as_holds (body.MaybeLinkClose could) a below rest p e i h = closed_holds (bracket_context s above)
        (closing_of could a rest p) p h
    as_holds other a below rest p e i h = other_holds a below rest p e i h

    past_holds : (goes_on : Option ℕ) (a : TreeNode A) (below rest : Forest (TreeNode A)) (p : Progress A)
        → own a.part.shape
        ≡ [] → HasNone below
        → Holds p
        → Holds (read_past (bracket_context s above) (read_other s notes above) goes_on a below rest p)
    past_holds None a below rest p e i h = as_holds (open_body a.part.shape) a below rest p e i h
    past_holds (Some n) a below rest p e i h = by (nat_le (end_of a) n)
      where
        by : (b : Bool) → Holds (if b then p else read (bracket_context s above) (read_other s notes above)
            (begun_at n a) below
            rest
            (record p { goes_on = None }))
        by true = h
        by false = as_holds (open_body (begun_at n a).part.shape) (begun_at n a) below rest
            (record p { goes_on = None })
            (keeps.cut (n - start_of a) a.part.shape ∙ e) i h

    chain_holds : (chain : Forest (TreeNode A)) (p : Progress A) → HasNone chain → Holds p
        → Holds (read_on s notes above chain p)
    unfolding read_chain
    chain_holds nil p e h = h
    chain_holds (node a below rest) p e h =
        chain_holds rest (read_past (bracket_context s above) (read_other s notes above) p.goes_on a below rest p) e.2
        (past_holds p.goes_on a below rest p e.0 e.1 h)

    pass_one_holds : (chain : Forest (TreeNode A)) (state : ReferenceState) → HasNone chain → holds [] state.limit
        → holds (ends (pass_one s notes above chain state).forest []) (pass_one s notes above chain state).state.limit
    unfolding pass_one
    pass_one_holds chain state e h =
        let p : Progress A = read_on s notes above chain (begun state) in
        subst (λ (l : List ℕ). holds l p.state.limit) (sym (onto p.left nil [])) (chain_holds chain (begun state) e h)

  -- a resolved chain, with its chains of children paired
  pub resolved_holds : (s : Setting) (notes : Notes A) (above : EnclosingBlocks) (chain : Forest (TreeNode A))
      (state : ReferenceState) → HasNone chain
      → holds [] state.limit
      → holds (ends (all_paired s (resolved s notes above chain state).forest) [])
      (resolved s notes above chain state).state.limit
  unfolding resolved
  resolved_holds s notes above chain state e h =
      let f : Forest (TreeNode A) = (pass_one s notes above chain state).forest in
      keeps.less (ends f []) (ends (all_paired s (paired s f)) []) (pass_one s notes above chain state).state.limit
      (within_trans (ends (all_paired s (paired s f)) []) (ends (paired s f) []) (ends f [])
      (all_within own keeps.numbers s (paired s f)
      []) (paired_within own keeps.numbers s f []))
      (pass_one_holds s notes above chain state e h)
