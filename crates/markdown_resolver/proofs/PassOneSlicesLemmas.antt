-- In pass one each tree keeps its slices in its own range, but for the first that a wikilink shows after its pipe.
use Rattle.std.proofs.Common.{◌≡◌, ℕ, ◌+◌, ◌-◌, ◌<◌, ◌≤◌, Bool, true, false, ◌&&◌, ◌==◌, not, List, [], ◌∷◌, Option}
use Rattle.std.proofs.Common.{Some, None, refl, sym, ap, subst, ◌∙◌, arith, nat_le, ⊎_elim, drop}
use Rattle.std.specs.Prelude.{IfSome, if◌then◌else◌, unwrap_or, ⊤, ◌⊎◌, take, slice_range}
use Rattle.std.specs.List.{AllByRecursion}
use Rattle.std.specs.Option.{option_and_then, option_map, option_map_or}
use Rattle.std.proofs.lemmas.Bool.{cases_lt}
use Rattle.markdown_base.specs.Event.{EventView, LinkView, code, display_math, image, inline_math, link}
use Rattle.markdown_base.specs.Forest.{Forest, nil, node, roots}
use Rattle.markdown_base.specs.declared.item.Item.{Item}
use Rattle.markdown_base.specs.declared.item.ItemBody.{ItemBody}
use Rattle.markdown_base.specs.declared.item.ItemBody.TheVariants as body
use Rattle.markdown_base.specs.declared.tag.LinkType.{LinkType}
use Rattle.markdown_base.specs.declared.tag.LinkType.TheVariants as kind
use Rattle.markdown_brackets.specs.BracketDecision.{BracketContext, Closing, LinkReference, Progress, Wikilink, Written}
use Rattle.markdown_brackets.specs.BracketDecision.{a_link, a_text, carried_out, decided, found, if_some, inline_target}
use Rattle.markdown_brackets.specs.BracketDecision.{form_of, inline_title, left_for_one, looked_up, past_second}
use Rattle.markdown_brackets.specs.BracketDecision.{question_at, second_end, shown_children, text_from, wikilink_by}
use Rattle.markdown_brackets.specs.BracketDecision.{wikilink_in}
use Rattle.markdown_brackets.specs.ClosingBracket.{closed, footnote_from, footnote_onto, linked, put, put_decided}
use Rattle.markdown_brackets.specs.ClosingBracket.{wikilink_target}
use Rattle.markdown_brackets.specs.LeftList.{Entry, OpenerState, Split, before_footnote, before_link, before_wikilink}
use Rattle.markdown_brackets.specs.LeftList.{bracket_taken, disabled_state, done, inside, nearest, on_states}
use Rattle.markdown_brackets.specs.LeftList.{opens_bracket, opens_wikilink, second_folded, trees_onto, waits}
use Rattle.markdown_brackets.specs.LeftList.{change_nearest, without_bracket, without_wikilink}
use Rattle.markdown_brackets.specs.Lookup.{look_up}
use Rattle.markdown_brackets.specs.ReadChain.{begun, closing_of, read, read_as, read_chain, read_past}
use Rattle.markdown_brackets.specs.Reference.{collapsed}
use Rattle.markdown_brackets.specs.Wikilink.{Shows, WikilinkBody, has_pothole, shows_from, shows_name, shows_nothing}
use Rattle.markdown_brackets.specs.Wikilink.{wikilink_body}
use Rattle.markdown_brackets.proofs.ClosingBracketLemmas.{IsFull, IsOwn, Stays, all_stays, either, found_cases, some_of}
use Rattle.markdown_brackets.proofs.LeftListLemmas.{onto_append, split_at}
use Rattle.markdown_document.specs.ChainRest.{as_item, begun_at, cut_shape, end_of, joined_chains, open_body, past}
use Rattle.markdown_document.specs.ChainRest.{cut_event, next_starts_at, past_byte, start_of, without_first}
use Rattle.markdown_document.specs.Document.{Notes, Origin, Shape, TreeNode, as_text, enclosed, leaf, math}
use Rattle.markdown_document.specs.EnclosingBlocks.{EnclosingBlocks}
use Rattle.markdown_document.specs.LinkOrigins.{destination_origin}
use Rattle.markdown_document.specs.Origins.{IsSliceWithin, IsSlicedOf, made, sliced}
use Rattle.markdown_document.specs.Setting.{ReferenceState, Setting}
use Rattle.markdown_document.specs.Waiting.{is_quiet}
use Rattle.markdown_document.proofs.OriginLemmas.{slice_wider}
use Rattle.markdown_spans.specs.AfterLess.{Markup, autolink, html_markup, markup_at}
use Rattle.markdown_spans.specs.Closers.{Dollar, MathClose, can_close, can_open, context_of, display_close, dollar_next}
use Rattle.markdown_spans.specs.Closers.{first_dollar, inline_close, is_dollar_of, math_close, math_close_from}
use Rattle.markdown_spans.specs.Closers.{math_closed_by}
use Rattle.markdown_spans.specs.Finds.{Find, SpanText, code_found, code_span, code_trees, find, find_by, is_escaped}
use Rattle.markdown_spans.specs.Finds.{markup, markup_found, math_found, math_span, math_text_start, nothing}
use Rattle.markdown_spans.specs.Finds.{prefix_below, read_tree, read_unless, span_between, trees_for}
use Rattle.markdown_spans.specs.CodeText.{replaced_past, span_text}
use Rattle.markdown_spans.specs.declared.span_text.SpanKind.{SpanKind}
use Rattle.markdown_spans.specs.declared.span_text.SpanKind.TheVariants.{Code, Math}
use Rattle.markdown_spans.proofs.SliceLemmas.{sliced_wider}
use Rattle.markdown_resolver.specs.PassOne.{bracket_context, pass_one, put_passed, read_on, read_other}
use Rattle.markdown_resolver.specs.SlicesInPlace.{IsInPlace, LinkIsIn, SlicesInPlace, SpanIsIn, has_pipe}
use Rattle.markdown_resolver.specs.SlicesInPlace.{shows_after_pipe}
use Rattle.markdown_resolver.proofs.ApartLemmas.{Closing_among, LieApart, around, code_among, ends_later, math_among}
use Rattle.markdown_resolver.proofs.ApartLemmas.{next_among, onto}
use Rattle.markdown_resolver.proofs.EndsWellLemmas.{IsNoSlice, looked_up_made}
use Rattle.markdown_resolver.proofs.PassOneApartLemmas.{SoFar, closer_open, past_step, quiet_open, second_later}
use Rattle.markdown_resolver.proofs.SlicedSpanLemmas.{AddressIn, markup_slice, name_slice_of, span_slice}
use Rattle.markdown_resolver.proofs.WholeLemmas.{onto_done, same_change, same_link, same_marks, same_second}

-- ---- shapes

-- the event of code or math
abbrev is_span : EventView → Bool
is_span (code bytes) = true
is_span (inline_math bytes) = true
is_span (display_math bytes) = true
is_span other = false

-- a shape that may refer to a slice
abbrev pub refers : Shape → Bool
refers (leaf e origins) = is_span e
refers (enclosed (link v) titles) = true
refers (enclosed (image v) titles) = true
refers other = false

no_span : (source : List ℕ) (start end : ℕ) (origins : List Origin) (e : EventView) → is_span e ≡ false
    → SpanIsIn source start end origins e
no_span source start end origins (code bytes) h = cc h
no_span source start end origins (inline_math bytes) h = cc h
no_span source start end origins (display_math bytes) h = cc h
no_span source start end origins other h = tt

pub in_place-none : (source : List ℕ) (start end : ℕ) (shape : Shape) → refers shape ≡ false
    → IsInPlace source start end shape
in_place-none source start end (leaf e origins) h = no_span source start end origins e h
in_place-none source start end (enclosed (link v) titles) h = cc h
in_place-none source start end (enclosed (image v) titles) h = cc h
in_place-none source start end other h = tt

pub no_pipe : (shape : Shape) → refers shape ≡ false → shows_after_pipe shape ≡ false
no_pipe (enclosed (link v) titles) h = cc h
no_pipe (enclosed (image v) titles) h = cc h
no_pipe other h = refl

cut_refers : (n : ℕ) (shape : Shape) → refers (cut_shape n shape) ≡ refers shape
cut_refers n (leaf e origins) = by origins e
  where
    of_event : (e : EventView) → is_span (without_first n e) ≡ is_span e
    of_event (code bytes) = refl
    of_event other = refl

    by : (origins : List Origin) (e : EventView) → is_span (cut_event n e origins) ≡ is_span e
    by (sliced ∷ origins) e = of_event e
    by other e = refl
cut_refers n other = refl

cut_pipe : (n : ℕ) (shape : Shape) → shows_after_pipe (cut_shape n shape) ≡ shows_after_pipe shape
cut_pipe n (leaf e origins) = refl
cut_pipe n other = refl

-- a link whose destination may have been made leads to no slice, and shows nothing after a pipe
made_pipe : (k : LinkType) → destination_origin k ≡ made → has_pipe k ≡ false
made_pipe (kind.WikiLink pothole) e = cc e
made_pipe other e = refl

module _ {A : Type 0} (source : List ℕ) where
  abbrev Placed : Bool → Forest (TreeNode A) → Type 0
  Placed cut f = SlicesInPlace source cut f

  -- a tree may be the first of what is cut
  looser : (cut : Bool) (f : Forest (TreeNode A)) → Placed false f → Placed cut f
  looser cut nil h = tt
  looser cut (node a below after) h = ((λ e. h.0 refl), h.1, h.2)

  -- ---- left lists

  after_left : (left : List (Entry A)) (f : Forest (TreeNode A)) → Placed false (trees_onto left f) → Placed false f
  after_left [] f h = h
  after_left (done a below ∷ left) f h = (after_left left (node a below f) h).2
  after_left (waits m a ∷ left) f h = (after_left left (node a nil f) h).2

  other_after : (left : List (Entry A)) (f g : Forest (TreeNode A)) → Placed false (trees_onto left f) → Placed false g
      → Placed false (trees_onto left g)
  other_after [] f g h k = k
  other_after (done a below ∷ left) f g h k =
      let here = after_left left (node a below f) h in
      other_after left (node a below f) (node a below g) h (here.0, here.1, k)
  other_after (waits m a ∷ left) f g h k =
      let here = after_left left (node a nil f) h in
      other_after left (node a nil f) (node a nil g) h (here.0, here.1, k)

  -- what comes after a pipe
  past_placed : (i : ℕ) (f : Forest (TreeNode A)) → Placed false f → Placed true (past_byte i f)
  past_placed i nil h = tt
  past_placed i (node a below after) h = by (nat_le (end_of a) i) (past_placed i after h.2)
    where
      by : (ends : Bool) → Placed true (past_byte i after)
          → Placed true (if ends then past_byte i after else node (begun_at i a) below after)
      by true later = later
      by false later = (
        (λ e. absurd (cc e)),
        subst (λ (b : Bool). Placed b below) (sym (cut_pipe (i - start_of a) a.part.shape)) h.1,
        h.2,
      )

  -- ---- wikilinks

  module _ (w : BracketContext) where
    shown_placed : (first : TreeNode A) (trees : Forest (TreeNode A)) (end : ℕ) (name : List ℕ) (shows : Shows)
        → Placed false trees → IfSome (option_map (λ children. let v : Wikilink A = record {
          name = name;
          has_pothole = has_pothole shows;
          children = children;
        } in v) (shown_children w first trees end shows)) (λ v. Placed v.has_pothole v.children)
    shown_placed first trees end name shows_name h = ((λ e. tt), tt, tt)
    shown_placed first trees end name (shows_nothing at) h = ((λ e. tt), tt, tt)
    shown_placed first trees end name (shows_from at) h = by (past_byte at trees) (past_placed at trees h)
      where
        by : (f : Forest (TreeNode A)) → Placed true f → IfSome (option_map (λ children. let v : Wikilink A = record {
          name = name;
          has_pothole = true;
          children = children;
        } in v) (if_some f)) (λ v. Placed v.has_pothole v.children)
        by nil k = tt
        by (node a below after) k = k

    wikilink_placed : (trees : Forest (TreeNode A)) (end : ℕ) → Placed false trees
        → IfSome (wikilink_in w trees end) (λ v. Placed v.has_pothole v.children)
    wikilink_placed nil end h = tt
    wikilink_placed (node first below after) end h =
        by (wikilink_body w.setting.text w.above.block_end (start_of first) end)
      where
        by : (o : Option WikilinkBody)
            → IfSome (option_and_then (wikilink_by w first (node first below after) end) o)
            (λ v. Placed v.has_pothole v.children)
        by None = tt
        by (Some b) = shown_placed first (node first below after) end b.name b.shows h

    name_placed : (trees : Forest (TreeNode A)) (i end last : ℕ) (v : Wikilink A) → LieApart i trees → end ≤ last
        → wikilink_in w trees end ≡ Some v → IsSliceWithin w.setting.text i last v.name
    name_placed nil i end last v h l e = cc e
    name_placed (node first below after) i end last v h l e =
        slice_wider w.setting.text (start_of first) end i last v.name h.0 l
        (some_of (wikilink_in w (node first below after) end) v
        (λ (v : Wikilink A). IsSliceWithin w.setting.text (start_of first) end v.name) e
        (name_slice_of w first below after end))

  second_placed : (f : Forest (TreeNode A)) → Placed false f → Placed false (past_second f)
  second_placed nil h = tt
  second_placed (node a below after) h = h.2

  second_apart : (i : ℕ) (f : Forest (TreeNode A)) → LieApart i f → LieApart i (past_second f)
  second_apart i nil h = tt
  second_apart i (node a below nil) h = tt
  second_apart i (node a below (node b inner after)) h =
      (omega (arith, h.0, h.1, h.4.0), h.4.1, h.4.2, h.4.3, h.4.4)

-- the tag of a link or an image
tag_placed : (source : List ℕ) (start end : ℕ) (image_link : Bool) (v : LinkView) (titles : List Origin)
    → LinkIsIn source start end v
    → IsInPlace source start end (enclosed (if image_link then image v else link v) titles)
tag_placed source start end true v titles h = h
tag_placed source start end false v titles h = h

tag_pipe : (image_link : Bool) (v : LinkView) (titles : List Origin)
    → shows_after_pipe (enclosed (if image_link then image v else link v) titles) ≡ has_pipe v.kind
tag_pipe true v titles = refl
tag_pipe false v titles = refl

module _ {A : Type 0} (w : BracketContext) (c : Closing A) (some : start_of c.node < end_of c.node)
    (rest : LieApart (end_of c.node) c.rest) where
  abbrev source : List ℕ
  source = w.setting.text

  record Before (left : List (Entry A)) : Type 0 where
    apart : LieApart 0 (trees_onto left (node c.node nil c.rest))
    placed : SlicesInPlace source false (trees_onto left nil)

  After : List (Entry A) → Type 0
  After left = SlicesInPlace source false (trees_onto left nil)

  changed : (opens : OpenerState → Bool) (f : OpenerState → OpenerState) (left : List (Entry A)) → Before left
      → Before (change_nearest opens f left)
  changed opens f left h = record {
    apart = subst (LieApart 0) (sym (same_change opens f left (node c.node nil c.rest))) h.apart;
    placed = subst (SlicesInPlace source false) (sym (same_change opens f left nil)) h.placed;
  }

  stays : Stays Before
  stays = record {
    bracket = λ left h. changed opens_bracket without_bracket left h;
    wikilink = λ left h. changed opens_wikilink without_wikilink left h;
  }

  -- an opener, with what is inside, is replaced
  replaced : (opens : OpenerState → Bool) (left : List (Entry A)) (o : Split A) → nearest opens left ≡ Some o
      → Before left
      → SlicesInPlace source false (inside o)
      × ((g : Forest (TreeNode A)) → SlicesInPlace source false g → SlicesInPlace source false (trees_onto o.before g))
  replaced opens left o is h =
      let split : trees_onto left nil ≡ trees_onto o.before (node o.opener nil (trees_onto o.after nil)) =
      ap (λ (l : List (Entry A)). trees_onto l nil) (split_at opens left o is)
      ∙ onto_append o.after (waits o.state o.opener ∷ o.before) nil in
      let all = subst (SlicesInPlace source false) split h.placed in
      let here = after_left source o.before (node o.opener nil (trees_onto o.after nil)) all in
      (here.2, λ g k. other_after source o.before (node o.opener nil (trees_onto o.after nil)) g all k)

  link_placed : (left : List (Entry A)) (o : Split A) (target : LinkView) (titles : List Origin) (end : ℕ)
      → Before left → nearest opens_bracket left ≡ Some o → destination_origin target.kind ≡ made
      → After (done (linked o target titles end) (inside o) ∷ before_link o.state.is_image o.before)
  unfolding After
  link_placed left o target titles end h is no_slice =
      let r = replaced opens_bracket left o is h in
      let d = linked o target titles end in
      let pipe : shows_after_pipe d.part.shape ≡ false = tag_pipe o.state.is_image target titles
      ∙ made_pipe target.kind no_slice in
      subst (SlicesInPlace source false) (sym (same_link o.state.is_image o.before (node d (inside o) nil)))
      (r.1 (node d (inside o) nil) (
        (λ e. tag_placed source (start_of o.opener) end o.state.is_image target titles
            (λ s. absurd (cc (s, no_slice)))),
        subst (λ (b : Bool). SlicesInPlace source b (inside o)) (sym pipe) r.0,
        tt,
      ))

  footnote_placed : (i : Bool) (left : List (Entry A)) (o : Split A) (name : List ℕ) → Before left
      → nearest opens_bracket left ≡ Some o → After (footnote_onto w c i o.opener name (before_footnote o.before))
  unfolding After
  footnote_placed i left o name h is = by i
    where
      same : (f : Forest (TreeNode A)) → trees_onto (before_footnote o.before) f ≡ trees_onto o.before f
      same f = same_marks without_bracket (second_folded o.before) f ∙ same_second o.before f

      by : (i : Bool) → After (footnote_onto w c i o.opener name (before_footnote o.before))
      by false =
          let d = footnote_from o.opener name (start_of o.opener) (end_of c.node) in
          subst (SlicesInPlace source false) (sym (same (node d nil nil)))
          ((replaced opens_bracket left o is h).1 (node d nil nil) ((λ e. tt), tt, tt))
      by true =
          let d = footnote_from c.node name (start_of o.opener + 1) (end_of c.node) in
          let mark = text_from w o.opener (start_of o.opener) (start_of o.opener + 1) in
          subst (SlicesInPlace source false) (sym (same (node mark nil (node d nil nil))))
          ((replaced opens_bracket left o is h).1 (node mark nil (node d nil nil))
          ((λ e. tt), tt, ((λ e. tt), tt, tt)))

  wikilink_put : (left : List (Entry A)) (o : Split A) (v : Wikilink A) (end : ℕ) → Before left
      → nearest opens_wikilink left ≡ Some o → end_of c.node ≤ end
      → wikilink_in w (past_second (inside o)) (start_of c.node) ≡ Some v
      → After (done (linked o (wikilink_target v) [] end) v.children ∷ before_wikilink o.before)
  unfolding After
  wikilink_put left o v end h is later shows =
      let around_it = around opens_wikilink left o (node c.node nil c.rest) is h.apart in
      let r = replaced opens_wikilink left o is h in
      let d = linked o (wikilink_target v) [] end in
      let body = past_second (inside o) in
      let name = name_placed source w body (end_of o.opener) (start_of c.node) end v
      (second_apart source (end_of o.opener) (inside o) around_it.inner) (omega (arith, some, later)) shows in
      let children = some_of (wikilink_in w body (start_of c.node)) v
      (λ (v : Wikilink A). SlicesInPlace source v.has_pothole v.children) shows
      (wikilink_placed source w body (start_of c.node) (second_placed source (inside o) r.0)) in
      let same = same_marks without_wikilink (on_states disabled_state o.before) (node d v.children nil)
      ∙ same_marks disabled_state o.before (node d v.children nil) in
      subst (SlicesInPlace source false) (sym same) (r.1 (node d v.children nil) (
        (λ e. tag_placed source (start_of o.opener) end o.state.is_image (wikilink_target v) []
            (λ s. slice_wider source (end_of o.opener) end (start_of o.opener) end v.name around_it.ordered
            (omega arith) name)),
        subst (λ (b : Bool). SlicesInPlace source b v.children) (sym (tag_pipe o.state.is_image (wikilink_target v) []))
            children,
        tt,
      ))

  reference_made : (r : LinkReference) → IsFull w c r ⊎ IsOwn w c r → destination_origin r.link_type ≡ made
  reference_made r way = ⊎_elim (λ (f : IsFull w c r). ap (λ (x : LinkReference). destination_origin x.link_type) f.is)
      (λ (f : IsOwn w c r). ⊎_elim
      (λ (k : (r.link_type ≡ kind.Collapsed) × (r.next ≡ end_of c.node + 2) × (form_of w c ≡ collapsed)).
      ap destination_origin k.0)
      (λ (k : (r.link_type ≡ kind.Shortcut) × (r.next ≡ end_of c.node)). ap destination_origin k.0) f.form) way

  closed_placed : (p : Progress A) → LieApart 0 (trees_onto p.left (node c.node nil c.rest))
      → SlicesInPlace source false (trees_onto p.left nil)
      → SlicesInPlace source false (trees_onto (closed w c p).left nil)
  unfolding closed decided After IsNoSlice
  closed_placed p apart placed = either (λ x. After (put_decided w c (carried_out w x now)).left)
      (found w c second p.left) (text_put now.left goes)
      (found_cases w c Before stays Holds second
      (λ left o h e live. record {
        inline = λ t is. link_placed left o (inline_target w t) (inline_title w t ∷ []) t.ends h e refl;
        refers = λ r way.
            let rules = w.setting.rules in
            let result = look_up rules.definitions rules.asks p.state.limit p.state.answers (question_at o r) in
            refers_put left o r h e result.target
            (looked_up_made rules.definitions rules.asks p.state.limit p.state.answers (question_at o r)
            (reference_made r way)) (looked_up o r result now).progress goes;
        footnote = λ name. footnote_placed o.state.is_image left o name h e;
      })
      (λ left o v end h e live is s. wikilink_put left o v end h e (second_later w c some rest c.rest end rest s)
      is) p.left
      (record { apart = apart; placed = placed }))
    where
      second : Option ℕ
      second = second_end w c.rest

      now : Progress A
      now = record p { left = bracket_taken (left_for_one second p.left) }

      goes : Before now.left
      goes = all_stays w c Before stays second p.left (record { apart = apart; placed = placed })

      Holds : Written A → Type 0
      Holds x = After (put_decided w c (carried_out w (Some x) now)).left

      text_put : (left : List (Entry A)) → Before left → After (done (as_text w.setting.text c.node) nil ∷ left)
      text_put left h = other_after source left nil (node (as_text w.setting.text c.node) nil nil) h.placed
          ((λ e. tt), tt, tt)

      refers_put : (left : List (Entry A)) (o : Split A) (r : LinkReference) → Before left → nearest opens_bracket left
          ≡ Some o → (target : Option LinkView) → IsNoSlice target → (q : Progress A) → Before q.left
          → After (put w c (unwrap_or (option_map (λ t. a_link o t [] r.end r.next) target) a_text) q).left
      refers_put left o r h e None no_slice q g = text_put q.left g
      refers_put left o r h e (Some t) no_slice q g = link_placed left o t [] r.end h e no_slice

-- ---- what is found at an item

module _ {A : Type 0} where
  -- items lie one after the other, from a byte offset on
  abbrev InRow : ℕ → List (TreeNode A) → Type 0
  InRow i [] = ⊤
  InRow i (c ∷ cs) = (i ≤ start_of c) × (start_of c ≤ end_of c) × InRow (end_of c) cs

  in_row : (i : ℕ) (f : Forest (TreeNode A)) → LieApart i f → InRow i (roots f)
  in_row i nil h = tt
  in_row i (node a below after) h = (h.0, h.1, in_row (end_of a) after h.4)

  -- each of them lies after the offset
  abbrev LiesFrom : ℕ → TreeNode A → Type 0
  LiesFrom i c = (i ≤ start_of c) × (start_of c ≤ end_of c)

  all_from : (i j : ℕ) (cs : List (TreeNode A)) → i ≤ j → InRow j cs → AllByRecursion (LiesFrom i) cs
  all_from i j [] l h = tt
  all_from i j (c ∷ cs) l h = ((omega (arith, l, h.0), h.1), all_from i (end_of c) cs (omega (arith, l, h.0, h.1)) h.2)

  -- a `$`, and those after it
  DollarInRow : Option (Dollar (TreeNode A)) → Type 0
  DollarInRow o = IfSome o (λ d. (start_of d.dollar ≤ end_of d.dollar) × InRow (end_of d.dollar) d.after)

  dollar_in_row : (context i : ℕ) (cs : List (TreeNode A)) → InRow i cs → DollarInRow (first_dollar as_item context cs)
  unfolding DollarInRow
  dollar_in_row context i [] h = tt
  dollar_in_row context i (c ∷ cs) h = by (is_dollar_of context (open_body c.part.shape))
      (dollar_in_row context (end_of c) cs h.2)
    where
      by : (b : Bool) → DollarInRow (first_dollar as_item context cs)
          → DollarInRow (if b then Some (record { dollar = c; after = cs }) else first_dollar as_item context cs)
      by true k = (h.1, h.2)
      by false k = k

  -- the text of a math span ends before the span does
  ClosesInRow : Option (MathClose (TreeNode A)) → Type 0
  ClosesInRow o = IfSome o (λ m. start_of m.closer ≤ end_of m.last)

  inline_in_row : (end : ℕ) (o : Option (Dollar (TreeNode A))) → DollarInRow o
      → ClosesInRow (inline_close as_item end o)
  unfolding DollarInRow ClosesInRow
  inline_in_row end None h = tt
  inline_in_row end (Some d) h = by (can_close (open_body d.dollar.part.shape) && not (end == start_of d.dollar))
    where
      by : (b : Bool) → ClosesInRow (if b then Some
          (record { display = false; closer = d.dollar; last = d.dollar }) else None)
      by true = h.0
      by false = tt

  display_in_row : (o : Option (Dollar (TreeNode A))) → DollarInRow o → ClosesInRow (display_close as_item o)
  unfolding DollarInRow ClosesInRow
  display_in_row None h = tt
  display_in_row (Some d) h = by (dollar_next as_item d.after)
      (next_among (LiesFrom (end_of d.dollar)) d.after (all_from (end_of d.dollar) (end_of d.dollar) d.after
      (omega arith)
      h.1))
    where
      by : (o : Option (TreeNode A)) → IfSome o (LiesFrom (end_of d.dollar))
          → ClosesInRow (math_closed_by d.dollar o)
      by None k = tt
      by (Some last) k = omega (arith, h.0, k.0, k.1)

  rest_in_row : (i : ℕ) (cs : List (TreeNode A)) → InRow i cs → (j : ℕ) × InRow j (drop 1 cs)
  rest_in_row i [] h = (i, tt)
  rest_in_row i (c ∷ cs) h = (end_of c, h.2)

  math_in_row : (opener : Item) (i : ℕ) (cs : List (TreeNode A)) → InRow i cs
      → ClosesInRow (math_close_from as_item opener cs)
  unfolding ClosesInRow
  math_in_row opener i cs h = by (can_open opener.body)
    where
      rest : (j : ℕ) × InRow j (drop 1 cs)
      rest = rest_in_row i cs h

      of_next : (o : Option (TreeNode A)) → ClosesInRow (elim o [
        | Some second ↦ display_close as_item (first_dollar as_item (context_of opener.body) (drop 1 cs))
        | None ↦ inline_close as_item opener.end (first_dollar as_item (context_of opener.body) cs)
      ])
      of_next (Some second) = display_in_row _ (dollar_in_row (context_of opener.body) rest.0 (drop 1 cs) rest.1)
      of_next None = inline_in_row opener.end _ (dollar_in_row (context_of opener.body) i cs h)

      by : (opens : Bool) → ClosesInRow (if opens then math_close as_item opener.end (context_of opener.body) cs
          else None)
      by true = of_next (dollar_next as_item cs)
      by false = tt

module _ (s : Setting) (above : EnclosingBlocks) where
  -- the text of a span is a slice within a wider range, in whatever order its own bounds are
  span_within : (kind : SpanKind) (start end start' end' : ℕ) → start' ≤ start → end ≤ end' → start' ≤ end'
      → IsSlicedOf s.text start' end' (span_between s above kind start end).origin
      (span_between s above kind start end).bytes
  unfolding replaced_past
  span_within kind start end start' end' low high order = ⊎_elim
      (λ (l : end < start). λ is. empty l is) (λ (l : start ≤ end).
      sliced_wider s.text start end start' end' _ _ low high (span_slice s above kind start end l)) (cases_lt end start)
    where
      none : end < start → slice_range s.text start end ≡ []
      none l = let size : end - start ≡ 0 = omega (arith, l) in ap (λ n. take n (drop start s.text)) size

      empty : end < start → (span_between s above kind start end).origin ≡ sliced
          → IsSliceWithin s.text start' end' (span_between s above kind start end).bytes
      empty l is =
          let bytes : (span_between s above kind start end).bytes ≡ [] =
          ap (λ (b : List ℕ). span_text kind above.in_table (prefix_below s above) b) (none l) ∙ of_none kind in
          let size : start' - start' ≡ 0 = omega arith in
          ∣ (
            record { start = start'; end = start' },
            omega arith,
            order,
            bytes ∙ sym (ap (λ n. take n (drop start' s.text)) size),
          ) ∣₁
        where
          of_none : (kind : SpanKind) → span_text kind above.in_table (prefix_below s above) [] ≡ []
          of_none Code = refl
          of_none Math = refl

module _ {A : Type 0} (s : Setting) (above : EnclosingBlocks) where
  -- what is found refers to a slice from the item to its end
  abbrev FindsSlice : TreeNode A → Find A → Type 0
  FindsSlice a (code_span t closer) = IsSlicedOf s.text (end_of a) (end_of closer) t.origin t.bytes
  FindsSlice a (math_span display t end) = IsSlicedOf s.text (start_of a) end t.origin t.bytes
  FindsSlice a (markup (autolink kind end bytes)) = IsSliceWithin s.text (end_of a) end bytes
  FindsSlice a (markup (html_markup end bytes)) = ⊤
  FindsSlice a nothing = ⊤

  code_slice : (a : TreeNode A) (o : Option (TreeNode A)) → IfSome o (LiesFrom (end_of a))
      → FindsSlice a (code_found s above a o)
  code_slice a None h = tt
  code_slice a (Some closer) h =
      span_within s above Code (end_of a) (start_of closer) (end_of a) (end_of closer) (omega arith) h.1
      (omega (arith, h.0, h.1))

  math_start : (a : TreeNode A) (cs : List (TreeNode A)) → start_of a ≤ end_of a → InRow (end_of a) cs
      → start_of a ≤ math_text_start a cs
  math_start a cs l h = by (dollar_next as_item cs) (next_among (LiesFrom (end_of a)) cs
      (all_from (end_of a) (end_of a) cs (omega arith) h))
    where
      by : (o : Option (TreeNode A)) → IfSome o (LiesFrom (end_of a)) → start_of a ≤ option_map_or end_of o (end_of a)
      by None k = l
      by (Some b) k = omega (arith, l, k.0, k.1)

  math_slice : (a : TreeNode A) (cs : List (TreeNode A)) → start_of a ≤ end_of a → InRow (end_of a) cs
      → (o : Option (MathClose (TreeNode A))) → ClosesInRow o → IfSome o (λ m. end_of a ≤ end_of m.last)
      → FindsSlice a (math_found s above a cs o)
  unfolding ClosesInRow
  math_slice a cs l h None k e = tt
  math_slice a cs l h (Some m) k e =
      span_within s above Math (math_text_start a cs) (start_of m.closer) (start_of a) (end_of m.last)
      (math_start a cs l h) k
      (omega (arith, l, e))

  less_slice : (a : TreeNode A) (followed : Bool) → FindsSlice a (markup_found s above a followed)
  less_slice a false = tt
  less_slice a true = by (markup_at skipped addresses (take above.block_end s.text) (start_of a) (end_of a))
      (markup_slice skipped addresses s.text above.block_end (start_of a) (end_of a))
    where
      skipped : List ℕ → Option ℕ
      skipped = λ bytes. Some (prefix_below s above bytes)

      addresses : Bool
      addresses = s.rules.syntax.addresses

      of_markup : (m : Markup) → AddressIn s.text (end_of a) m → FindsSlice a (markup m)
      of_markup (autolink kind end bytes) h = h
      of_markup (html_markup end bytes) h = tt

      by : (o : Option Markup) → IfSome o (AddressIn s.text (end_of a)) → FindsSlice a (option_map_or markup o nothing)
      by None h = tt
      by (Some m) h = of_markup m h

  by_slice : (b : ItemBody) (a : TreeNode A) (rest : Forest (TreeNode A)) → start_of a ≤ end_of a
      → LieApart (end_of a) rest → FindsSlice a (find_by s above b a rest)
  unfolding Closing_among
  by_slice (body.MaybeCode count escaped) a rest l h =
      code_slice a _ (code_among (LiesFrom (end_of a)) (body.MaybeCode count escaped) (roots rest)
      (all_from (end_of a) (end_of a) (roots rest) (omega arith) (in_row (end_of a) rest h)))
  by_slice (body.MaybeMath opens closes context) a rest l h =
      math_slice a (roots rest) l (in_row (end_of a) rest h) _ (math_in_row (as_item a) (end_of a) (roots rest)
      (in_row (end_of a) rest h)) (math_among (λ c. end_of a ≤ end_of c) (as_item a) (roots rest)
      (ends_later (end_of a) (end_of a) rest (omega arith) h))
  by_slice body.MaybeHtml a rest l h = less_slice a (next_starts_at (end_of a) rest)
  by_slice other a rest l h = tt

  -- so what replaces it is in place
  code_in_place : (escaped : Bool) (a closer : TreeNode A) (t : SpanText) → start_of a < end_of a
      → IsSlicedOf s.text (end_of a) (end_of closer) t.origin t.bytes
      → SlicesInPlace s.text false (joined_chains (code_trees s escaped a t closer) nil)
  code_in_place false a closer t l h = (
    (λ e. sliced_wider s.text (end_of a) (end_of closer) (start_of a) (end_of closer) t.origin t.bytes
        (omega (arith, l)) (omega arith) h),
    tt,
    tt,
  )
  code_in_place true a closer t l h = (
    (λ e. tt),
    tt,
    (
      (λ e. sliced_wider s.text (end_of a) (end_of closer) (start_of a + 1) (end_of closer) t.origin t.bytes
          (omega (arith, l)) (omega arith) h),
      tt,
      tt,
    ),
  )

  math_in_place : (display : Bool) (a : TreeNode A) (t : SpanText) (end : ℕ)
      → IsSlicedOf s.text (start_of a) end t.origin t.bytes
      → SpanIsIn s.text (start_of a) end (t.origin ∷ []) (math display t.bytes)
  math_in_place true a t end h = h
  math_in_place false a t end h = h

  found_in_place : (fresh : A) (a : TreeNode A) (f : Find A) → start_of a < end_of a → FindsSlice a f
      → SlicesInPlace s.text false (joined_chains (trees_for s fresh a f) nil)
  found_in_place fresh a (code_span t closer) l h = code_in_place (is_escaped (open_body a.part.shape)) a closer t l h
  found_in_place fresh a (math_span display t end) l h = ((λ e. math_in_place display a t end h), tt, tt)
  found_in_place fresh a (markup (autolink kind end bytes)) l h = (
    (λ e is. slice_wider s.text (end_of a) end (start_of a) end bytes (omega (arith, l)) (omega arith) h),
    ((λ e. tt), tt, tt),
    tt,
  )
  found_in_place fresh a (markup (html_markup end None)) l h = ((λ e. tt), tt, tt)
  found_in_place fresh a (markup (html_markup end (Some bytes))) l h = ((λ e. tt), tt, tt)
  found_in_place fresh a nothing l h = ((λ e. tt), tt, tt)

-- ---- a chain

module _ {A : Type 0} where
  -- fresh items refer to no slices, and have nothing below them
  abbrev pub IsFresh : Forest (TreeNode A) → Type 0
  IsFresh nil = ⊤
  IsFresh (node a below after) = (refers a.part.shape ≡ false) × (below ≡ nil) × IsFresh after

module _ {A : Type 0} (s : Setting) (notes : Notes A) (above : EnclosingBlocks) where
  abbrev In : Progress A → Type 0
  In p = SlicesInPlace s.text false (trees_onto p.left nil)

  kept_step : (a : TreeNode A) (p : Progress A) → refers a.part.shape ≡ false → In p
      → SlicesInPlace s.text false (trees_onto p.left (node a nil nil))
  kept_step a p none h =
      other_after s.text p.left nil (node a nil nil) h (
        (λ e. in_place-none s.text (start_of a) (end_of a) a.part.shape none),
        tt,
        tt,
      )

  other_in : (a : TreeNode A) (below rest : Forest (TreeNode A)) (p : Progress A) → refers a.part.shape ≡ false
      → below ≡ nil → LieApart 0 (trees_onto p.left (node a below rest)) → In p
      → In (read_other s notes above a below rest p)
  unfolding read_tree
  other_in a below rest p none empty apart h = by (is_quiet a.part.shape) refl
    where
      by : (quiet : Bool) → is_quiet a.part.shape ≡ quiet
          → In (put_passed (read_unless quiet s notes above p.made a below rest) p)
      by true q = subst (λ (f : Forest (TreeNode A)). SlicesInPlace s.text false (trees_onto p.left (node a f nil)))
          (sym empty) (kept_step a p none h)
      by false q =
          let found = find s above a rest in
          let fresh = notes.of_made p.made in
          let k = (onto 0 p.left (node a below rest) apart).here in
          let long = (k.2 (quiet_open a.part.shape q)).0 in
          subst (SlicesInPlace s.text false) (sym (onto_done (trees_for s fresh a found) p.left nil))
          (other_after s.text p.left nil (joined_chains (trees_for s fresh a found) nil) h
          (found_in_place s above fresh a found long
          (by_slice s above (open_body a.part.shape) a rest k.1 k.4)))

  step_in : (b : ItemBody) (a : TreeNode A) (below rest : Forest (TreeNode A)) (p : Progress A)
      → open_body a.part.shape ≡ b → refers a.part.shape ≡ false → below ≡ nil
      → LieApart 0 (trees_onto p.left (node a below rest)) → In p
      → In (read_as (bracket_context s above) (read_other s notes above) b a below rest p)
  step_in body.MaybeLinkOpen a below rest p is none empty apart h =
      other_after s.text p.left nil (node (as_text s.text a) nil nil) h ((λ e. tt), tt, tt)
  step_in body.MaybeImage a below rest p is none empty apart h =
      other_after s.text p.left nil (node (as_text s.text a) nil nil) h ((λ e. tt), tt, tt)
  step_in (body.MaybeLinkClose could) a below rest p is none empty apart h =
      let o = onto 0 p.left (node a below rest) apart in
      let k = o.here in
      let alone = k.2 (closer_open a.part.shape could is) in
      closed_placed (bracket_context s above) (closing_of could a rest p) alone.0 k.4 p
      (o.goes (node a nil rest) (k.0, k.1, (λ opens. (alone.0, refl)), tt, k.4)) h
  step_in other a below rest p is none empty apart h = other_in a below rest p none empty apart h

  past_in : (goes_on : Option ℕ) (a : TreeNode A) (below rest : Forest (TreeNode A)) (p : Progress A)
      → p.goes_on ≡ goes_on → SoFar p (node a below rest) → refers a.part.shape ≡ false → below ≡ nil → In p
      → In (read_past (bracket_context s above) (read_other s notes above) goes_on a below rest p)
  unfolding SoFar
  past_in None a below rest p is apart none empty h =
      step_in (open_body a.part.shape) a below rest p refl none empty
      (subst (λ (o : Option ℕ). LieApart 0 (trees_onto p.left (past o (node a below rest)))) is apart) h
  past_in (Some i) a below rest p is apart none empty h =
      by (nat_le (end_of a) i)
      (subst (λ (o : Option ℕ). LieApart 0 (trees_onto p.left (past o (node a below rest)))) is apart)
    where
      by : (ends : Bool) → LieApart 0
          (trees_onto p.left (if ends then past_byte i rest else node (begun_at i a) below rest))
          → In (if ends then p else read (bracket_context s above) (read_other s notes above) (begun_at i a) below rest
          (record p { goes_on = None }))
      by true k = h
      by false k = step_in (open_body (begun_at i a).part.shape) (begun_at i a) below rest (record p { goes_on = None })
          refl (cut_refers (i - start_of a) a.part.shape ∙ none) empty k h

  chain_in : (chain : Forest (TreeNode A)) (p : Progress A) → SoFar p chain → IsFresh chain → In p
      → In (read_on s notes above chain p)
  unfolding read_chain
  chain_in nil p apart fresh h = h
  chain_in (node a below rest) p apart fresh h =
      chain_in rest (read_past (bracket_context s above) (read_other s notes above) p.goes_on a below rest p)
      (past_step s notes above p.goes_on a below rest p refl apart) fresh.2
      (past_in p.goes_on a below rest p refl apart fresh.0 fresh.1 h)

  pub pass_one_in_place : (chain : Forest (TreeNode A)) (state : ReferenceState) → LieApart 0 chain → IsFresh chain
      → SlicesInPlace s.text false (pass_one s notes above chain state).forest
  unfolding pass_one SoFar
  pass_one_in_place chain state apart fresh = chain_in chain (begun state) apart fresh tt
