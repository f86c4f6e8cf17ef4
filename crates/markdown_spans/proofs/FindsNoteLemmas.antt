-- Notes have no effect: at an item of a chain with other notes the same is found, and the same trees, with those notes,
-- replace it.
use Rattle.std.proofs.Common.{◌≡◌, ℕ, Bool, true, false, not, ◌&&◌, ◌==◌, List, [], ◌∷◌, map, Option, Some, None, refl}
use Rattle.std.proofs.Common.{ap, ◌∙◌, nat_le}
use Rattle.std.specs.Prelude.{if◌then◌else◌, drop, take}
use Rattle.std.specs.Option.{option_map, option_map_or}
use Rattle.markdown_base.specs.Forest.{Forest, nil, node, roots}
use Rattle.markdown_base.specs.declared.item.ItemBody.{ItemBody}
use Rattle.markdown_base.specs.declared.item.ItemBody.TheVariants as body
use Rattle.markdown_document.specs.EnclosingBlocks.{EnclosingBlocks}
use Rattle.markdown_document.specs.Document.{Notes, TreeNode}
use Rattle.markdown_document.specs.TreeNodes.{annotate, annotated}
use Rattle.markdown_document.specs.Setting.{Setting}
use Rattle.markdown_document.specs.Waiting.{is_quiet}
use Rattle.markdown_spans.specs.AfterLess.{Markup, autolink, html_markup, markup_at}
use Rattle.markdown_document.specs.ChainRest.{as_item, begun_at, start_of, end_of, next_starts_at, open_body, past}
use Rattle.markdown_document.specs.ChainRest.{past_byte}
use Rattle.markdown_spans.specs.Closers.{Dollar, MathClose, can_close, can_open, math_closed_by, closing_count}
use Rattle.markdown_spans.specs.Closers.{code_close, code_closer, context_of, display_close, dollar_next, first_dollar}
use Rattle.markdown_spans.specs.Closers.{inline_close, is_code_of, is_dollar, is_dollar_of, math_close, math_close_from}
use Rattle.markdown_spans.specs.Finds.{Find, Passed, SpanText, code_found, code_span, code_trees, end_of_find, find}
use Rattle.markdown_spans.specs.Finds.{find_by, is_escaped, made_by, prefix_below, span_between, markup, markup_found}
use Rattle.markdown_spans.specs.Finds.{markup_trees, math_found, math_span, math_text_start, nothing, passed, read_tree}
use Rattle.markdown_spans.specs.Finds.{read_unless, trees_for}
use Rattle.markdown_spans.specs.declared.span_text.SpanKind.TheVariants.{Math}

module _ {A B : Type 0} (f : A → B) where
  -- the same with other notes
  abbrev annotate_dollar : Dollar (TreeNode A) → Dollar (TreeNode B)
  annotate_dollar d = record { dollar = annotate f d.dollar; after = map (annotate f) d.after }

  abbrev annotate_close : MathClose (TreeNode A) → MathClose (TreeNode B)
  annotate_close m = record { display = m.display; closer = annotate f m.closer; last = annotate f m.last }

  abbrev pub annotate_find : Find A → Find B
  annotate_find (code_span t closer) = code_span t (annotate f closer)
  annotate_find (math_span display t end) = math_span display t end
  annotate_find (markup m) = markup m
  annotate_find nothing = nothing

  abbrev pub annotate_passed : Passed A → Passed B
  annotate_passed p = record { trees = annotated f p.trees; goes_on = p.goes_on; made = p.made }

  roots_annotate : (chain : Forest (TreeNode A)) → roots (annotated f chain) ≡ map (annotate f) (roots chain)
  roots_annotate nil = refl
  roots_annotate (node a below after) = ap (λ l. annotate f a ∷ l) (roots_annotate after)

  drop_annotate : (l : List (TreeNode A)) → drop 1 (map (annotate f) l) ≡ map (annotate f) (drop 1 l)
  drop_annotate [] = refl
  drop_annotate (a ∷ l) = refl

  -- code
  code_closer_annotate : (n : ℕ) (l : List (TreeNode A)) → code_closer as_item n (map (annotate f) l)
      ≡ option_map (annotate f) (code_closer as_item n l)
  code_closer_annotate n [] = refl
  code_closer_annotate n (a ∷ after) = by (is_code_of n (as_item a).body) (code_closer_annotate n after)
    where
      by : (b : Bool) → code_closer as_item n (map (annotate f) after) ≡ option_map (annotate f)
          (code_closer as_item n after)
          → (if b then Some (annotate f a) else code_closer as_item n (map (annotate f) after))
          ≡ option_map (annotate f) (if b then Some a
          else code_closer as_item n after)
      by true e = refl
      by false e = e

  code_close_annotate : (count : ℕ) (escaped : Bool) (l : List (TreeNode A))
      → code_close as_item (body.MaybeCode count escaped) (map (annotate f) l)
      ≡ option_map (annotate f) (code_close as_item (body.MaybeCode count escaped) l)
  code_close_annotate count escaped l = by (closing_count count escaped == 0)
    where
      by : (b : Bool) → (if b then None else code_closer as_item (closing_count count escaped) (map (annotate f) l))
          ≡ option_map (annotate f) (if b then None else code_closer as_item (closing_count count escaped) l)
      by true = refl
      by false = code_closer_annotate (closing_count count escaped) l

  code_found_annotate : (s : Setting) (above : EnclosingBlocks) (a : TreeNode A) (closer : Option (TreeNode A))
      → code_found s above (annotate f a) (option_map (annotate f) closer) ≡ annotate_find (code_found s above a closer)
  code_found_annotate s above a None = refl
  code_found_annotate s above a (Some closer) = refl

  -- math
  dollar_next_annotate : (l : List (TreeNode A)) → dollar_next as_item (map (annotate f) l)
      ≡ option_map (annotate f) (dollar_next as_item l)
  dollar_next_annotate [] = refl
  dollar_next_annotate (a ∷ after) = by (is_dollar (as_item a).body)
    where
      by : (b : Bool) → (if b then Some (annotate f a) else None) ≡ option_map (annotate f) (if b then Some a else None)
      by true = refl
      by false = refl

  first_dollar_annotate : (context : ℕ) (l : List (TreeNode A)) → first_dollar as_item context (map (annotate f) l)
      ≡ option_map annotate_dollar (first_dollar as_item context l)
  first_dollar_annotate context [] = refl
  first_dollar_annotate context (a ∷ after) = by (is_dollar_of context (as_item a).body)
      (first_dollar_annotate context after)
    where
      by : (b : Bool) → first_dollar as_item context (map (annotate f) after)
          ≡ option_map annotate_dollar (first_dollar as_item context after)
          → (if b then Some (record { dollar = annotate f a; after = map (annotate f) after })
          else first_dollar as_item context (map (annotate f) after))
          ≡ option_map annotate_dollar
          (if b then Some (record { dollar = a; after = after }) else first_dollar as_item context after)
      by true e = refl
      by false e = e

  inline_annotate : (opener_end : ℕ) (d : Option (Dollar (TreeNode A)))
      → inline_close as_item opener_end (option_map annotate_dollar d)
      ≡ option_map annotate_close (inline_close as_item opener_end d)
  inline_annotate opener_end None = refl
  inline_annotate opener_end (Some d) = by
      (can_close (as_item d.dollar).body && not (opener_end == (as_item d.dollar).start))
    where
      by : (b : Bool) → (if b then Some
          (record { display = false; closer = annotate f d.dollar; last = annotate f d.dollar })
          else None)
          ≡ option_map annotate_close (if b then Some
          (record { display = false; closer = d.dollar; last = d.dollar }) else
          None)
      by true = refl
      by false = refl

  closed_by_annotate : (closer : TreeNode A) (last : Option (TreeNode A))
      → math_closed_by (annotate f closer) (option_map (annotate f) last)
      ≡ option_map annotate_close (math_closed_by closer last)
  closed_by_annotate closer None = refl
  closed_by_annotate closer (Some last) = refl

  display_annotate : (d : Option (Dollar (TreeNode A))) → display_close as_item (option_map annotate_dollar d)
      ≡ option_map annotate_close (display_close as_item d)
  display_annotate None = refl
  display_annotate (Some d) = rw (dollar_next_annotate d.after) (closed_by_annotate d.dollar
      (dollar_next as_item d.after))

  math_by_annotate : (opener_end context : ℕ) (l : List (TreeNode A)) (next : Option (TreeNode A))
      → (elim (option_map (annotate f) next) [
        | Some second ↦ display_close as_item (first_dollar as_item context (drop 1 (map (annotate f) l)))
        | None ↦ inline_close as_item opener_end (first_dollar as_item context (map (annotate f) l))
      ]) ≡ option_map annotate_close (elim next [
        | Some second ↦ display_close as_item (first_dollar as_item context (drop 1 l))
        | None ↦ inline_close as_item opener_end (first_dollar as_item context l)
      ])
  math_by_annotate opener_end context l None = ap (inline_close as_item opener_end) (first_dollar_annotate context l)
      ∙ inline_annotate opener_end (first_dollar as_item context l)
  math_by_annotate opener_end context l (Some second) =
      ap (λ after. display_close as_item (first_dollar as_item context after)) (drop_annotate l)
      ∙ ap (display_close as_item) (first_dollar_annotate context (drop 1 l))
      ∙ display_annotate (first_dollar as_item context (drop 1 l))

  math_annotate : (opener_end context : ℕ) (l : List (TreeNode A)) → math_close as_item opener_end context (map
      (annotate f) l)
      ≡ option_map annotate_close (math_close as_item opener_end context l)
  math_annotate opener_end context l = rw (dollar_next_annotate l, math_close)
      (math_by_annotate opener_end context l (dollar_next as_item l))

  math_from_annotate : (a : TreeNode A) (l : List (TreeNode A)) → math_close_from as_item (as_item (annotate f a))
      (map (annotate f) l)
      ≡ option_map annotate_close (math_close_from as_item (as_item a) l)
  math_from_annotate a l = by (can_open (as_item a).body)
    where
      by : (b : Bool) → (if b then math_close as_item (as_item a).end (context_of (as_item a).body) (map (annotate f) l)
          else None)
          ≡ option_map annotate_close
          (if b then math_close as_item (as_item a).end (context_of (as_item a).body) l else None)
      by true = math_annotate (as_item a).end (context_of (as_item a).body) l
      by false = refl

  text_start_annotate : (a : TreeNode A) (next : Option (TreeNode A)) → option_map_or end_of (option_map
      (annotate f) next)
      (end_of (annotate f a))
      ≡ option_map_or end_of next (end_of a)
  text_start_annotate a None = refl
  text_start_annotate a (Some second) = refl

  math_text_start_annotate : (a : TreeNode A) (l : List (TreeNode A)) → math_text_start (annotate f a) (map
      (annotate f) l)
      ≡ math_text_start a l
  math_text_start_annotate a l = ap (λ next. option_map_or end_of next (end_of a)) (dollar_next_annotate l)
      ∙ text_start_annotate a (dollar_next as_item l)

  math_found_annotate : (s : Setting) (above : EnclosingBlocks) (a : TreeNode A) (l : List (TreeNode A)) (m : Option
      (MathClose (TreeNode A)))
      → math_found s above (annotate f a) (map (annotate f) l) (option_map annotate_close m)
      ≡ annotate_find (math_found s above a l m)
  math_found_annotate s above a l None = refl
  math_found_annotate s above a l (Some m) =
      ap (λ n. math_span m.display (span_between s above Math n (start_of m.closer)) (end_of m.last))
      (math_text_start_annotate a l)

  -- what begins at a `<`
  next_annotate : (i : ℕ) (chain : Forest (TreeNode A)) → next_starts_at i (annotated f chain) ≡ next_starts_at i chain
  next_annotate i nil = refl
  next_annotate i (node a below after) = refl

  markup_or_annotate : (m : Option Markup) → let none : Find B = nothing in
      option_map_or markup m none ≡ annotate_find (option_map_or markup m nothing)
  markup_or_annotate None = refl
  markup_or_annotate (Some m) = refl

  markup_found_annotate : (s : Setting) (above : EnclosingBlocks) (a : TreeNode A) (is_followed : Bool)
      → markup_found s above (annotate f a) is_followed
      ≡ annotate_find (markup_found s above a is_followed)
  markup_found_annotate s above a false = refl
  markup_found_annotate s above a true =
      markup_or_annotate (markup_at (λ bytes. Some (prefix_below s above bytes)) s.rules.syntax.addresses
      (take above.block_end s.text) (start_of a) (end_of a))

  find_by_annotate : (s : Setting) (above : EnclosingBlocks) (b : ItemBody) (a : TreeNode A)
      (rest : Forest (TreeNode A))
      → find_by s above b (annotate f a) (annotated f rest) ≡ annotate_find (find_by s above b a rest)
  find_by_annotate s above (body.MaybeCode count escaped) a rest =
      ap (λ l. code_found s above (annotate f a) (code_close as_item (body.MaybeCode count escaped) l))
      (roots_annotate rest)
      ∙ ap (code_found s above (annotate f a)) (code_close_annotate count escaped (roots rest))
      ∙ code_found_annotate s above a (code_close as_item (body.MaybeCode count escaped) (roots rest))
  find_by_annotate s above (body.MaybeMath opens closes context) a rest =
      ap (λ l. math_found s above (annotate f a) l (math_close_from as_item (as_item a) l)) (roots_annotate rest)
      ∙ ap (math_found s above (annotate f a) (map (annotate f) (roots rest))) (math_from_annotate a (roots rest))
      ∙ math_found_annotate s above a (roots rest) (math_close_from as_item (as_item a) (roots rest))
  find_by_annotate s above body.MaybeHtml a rest =
      ap (markup_found s above (annotate f a)) (next_annotate (end_of a) rest)
      ∙ markup_found_annotate s above a (next_starts_at (end_of a) rest)
  find_by_annotate s above other a rest = refl

  pub find_annotate : (s : Setting) (above : EnclosingBlocks) (a : TreeNode A) (rest : Forest (TreeNode A))
      → find s above (annotate f a) (annotated f rest)
      ≡ annotate_find (find s above a rest)
  find_annotate s above a rest = find_by_annotate s above (open_body a.part.shape) a rest

  -- the trees that replace a find
  code_trees_annotate : (s : Setting) (e : Bool) (a : TreeNode A) (t : SpanText) (closer : TreeNode A)
      → code_trees s e (annotate f a) t (annotate f closer) ≡ annotated f (code_trees s e a t closer)
  code_trees_annotate s false a t closer = refl
  code_trees_annotate s true a t closer = refl

  markup_trees_annotate : (s : Setting) (new : A) (a : TreeNode A) (m : Markup) → markup_trees s (f new)
      (annotate f a) m
      ≡ annotated f (markup_trees s new a m)
  markup_trees_annotate s new a (autolink kind end bytes) = refl
  markup_trees_annotate s new a (html_markup end None) = refl
  markup_trees_annotate s new a (html_markup end (Some bytes)) = refl

  trees_annotate : (s : Setting) (new : A) (a : TreeNode A) (found : Find A)
      → trees_for s (f new) (annotate f a) (annotate_find found)
      ≡ annotated f (trees_for s new a found)
  trees_annotate s new a (code_span t closer) = code_trees_annotate s (is_escaped (open_body a.part.shape)) a t closer
  trees_annotate s new a (math_span display t end) = refl
  trees_annotate s new a (markup m) = markup_trees_annotate s new a m
  trees_annotate s new a nothing = refl

  end_annotate : (found : Find A) → end_of_find (annotate_find found) ≡ end_of_find found
  end_annotate (code_span t closer) = refl
  end_annotate (math_span display t end) = refl
  end_annotate (markup m) = refl
  end_annotate nothing = refl

  made_annotate : (found : Find A) → made_by (annotate_find found) ≡ made_by found
  made_annotate (code_span t closer) = refl
  made_annotate (math_span display t end) = refl
  made_annotate (markup (autolink kind end bytes)) = refl
  made_annotate (markup (html_markup end bytes)) = refl
  made_annotate nothing = refl

  passed_annotate : (s : Setting) (notes : Notes A) (notes' : Notes B) (n : ℕ) → notes'.of_made n ≡ f (notes.of_made n)
      → (a : TreeNode A) (found : Find A)
      → passed s notes' n (annotate f a) (annotate_find found) ≡ annotate_passed (passed s notes n a found)
  passed_annotate s notes notes' n follows a found =
      rw (follows, trees_annotate s (notes.of_made n) a found, end_annotate found, made_annotate found) refl

  unless_annotate : (s : Setting) (notes : Notes A) (notes' : Notes B) (above : EnclosingBlocks) (n : ℕ)
      → notes'.of_made n
      ≡ f (notes.of_made n)
      → (a : TreeNode A) (below rest : Forest (TreeNode A)) (quiet : Bool)
      → read_unless quiet s notes' above n (annotate f a) (annotated f below) (annotated f rest)
      ≡ annotate_passed (read_unless quiet s notes above n a below rest)
  unless_annotate s notes notes' above n follows a below rest true = refl
  unless_annotate s notes notes' above n follows a below rest false =
      ap (passed s notes' n (annotate f a)) (find_annotate s above a rest)
      ∙ passed_annotate s notes notes' n follows a (find s above a rest)

  pub read_annotate : (s : Setting) (notes : Notes A) (notes' : Notes B) (above : EnclosingBlocks) (n : ℕ)
      → notes'.of_made n
      ≡ f (notes.of_made n)
      → (a : TreeNode A) (below rest : Forest (TreeNode A))
      → read_tree s notes' above n (annotate f a) (annotated f below) (annotated f rest)
      ≡ annotate_passed (read_tree s notes above n a below rest)
  unfolding read_tree
  read_annotate s notes notes' above n follows a below rest =
      unless_annotate s notes notes' above n follows a below rest
      (is_quiet a.part.shape)

  -- what is left of a chain
  past_byte_annotate : (i : ℕ) (chain : Forest (TreeNode A)) → past_byte i (annotated f chain) ≡ annotated f
      (past_byte i chain)
  past_byte_annotate i nil = refl
  past_byte_annotate i (node a below after) = by (nat_le (end_of a) i) (past_byte_annotate i after)
    where
      by : (b : Bool) → past_byte i (annotated f after) ≡ annotated f (past_byte i after)
          → (if b then past_byte i (annotated f after) else node (begun_at i (annotate f a)) (annotated f below)
          (annotated f after))
          ≡ annotated f (if b then past_byte i after else node (begun_at i a) below after)
      by true e = e
      by false e = refl

  pub past_annotate : (goes_on : Option ℕ) (chain : Forest (TreeNode A)) → past goes_on (annotated f chain)
      ≡ annotated f (past goes_on chain)
  past_annotate None chain = refl
  past_annotate (Some i) chain = past_byte_annotate i chain
