-- What closes a code span or a math span among the nodes of a chain is what closes it among the nodes that the chain
-- reads as, and where that is.
use Rattle.std.proofs.Common.{◌≡◌, ℕ, Bool, true, false, not, ◌&&◌, ◌==◌, List, [], ◌∷◌, ◌++◌, map, Option, Some, None}
use Rattle.std.proofs.Common.{refl, sym, ap, ◌∙◌}
use Rattle.std.specs.Prelude.{if◌then◌else◌, drop, is_some, slice_range}
use Rattle.std.specs.Option.{option_map}
use Rattle.markdown_base.specs.BlockTree.{numbered, item_at}
use Rattle.markdown_base.specs.Item.{is_open}
use Rattle.markdown_base.specs.declared.item.Item.{Item}
use Rattle.markdown_base.specs.declared.item.ItemBody.{ItemBody}
use Rattle.markdown_base.specs.declared.item.ItemBody.TheVariants as body
use Rattle.markdown_base.specs.declared.node.Node.{Node}
use Rattle.markdown_document.specs.ChainRest.{as_item, open_body}
use Rattle.markdown_document.specs.Document.{Shape, unresolved, is_unresolved, shape_of}
use Rattle.markdown_document.specs.Places.{tree_node_at}
use Rattle.markdown_document.specs.Tables.{Tables}
use Rattle.markdown_document.proofs.PlaceLemmas.{shape-open}
use Rattle.markdown_spans.specs.Closers.{Dollar, MathClose, can_close, can_open, math_closed_by, closing_count}
use Rattle.markdown_spans.specs.Closers.{code_close, code_closer, context_of, display_close, dollar_next, first_dollar}
use Rattle.markdown_spans.specs.Closers.{inline_close, is_code_of, is_dollar, is_dollar_of, math_close, math_close_from}
use Rattle.markdown_spans.specs.CloserSearches.{searched_for_math}
use Rattle.markdown_spans.specs.SpanClosers.{item_in}
use Rattle.markdown_delims.proofs.PairingLemmas.{closed_shape}

-- searches do not distinguish two items
pub record LooksAlike (shown item : Item) : Type 0 where
  pub start : shown.start ≡ item.start
  pub end : shown.end ≡ item.end
  pub code : (n : ℕ) → is_code_of n shown.body ≡ is_code_of n item.body
  pub dollar : is_dollar shown.body ≡ is_dollar item.body
  pub context : (n : ℕ) → is_dollar_of n shown.body ≡ is_dollar_of n item.body
  pub closes : can_close shown.body ≡ can_close item.body

-- so it is with a node, which counts as a Text where its item is not open
pub body_open : (tables : Tables) (source : List ℕ) (b : ItemBody) → is_open b ≡ true → open_body
    (shape_of tables source b) ≡ b
body_open tables source b h = ap open_body (shape-open tables source b h)

open_closed : (shape : Shape) → is_unresolved shape ≡ false → open_body shape ≡ body.Text false
open_closed (unresolved b) h = cc h
open_closed other h = refl

code_closed : (n : ℕ) (b : ItemBody) → is_open b ≡ false → is_code_of n b ≡ false
code_closed n (body.MaybeCode count escaped) h = cc h
code_closed n other h = refl

dollar_closed : (b : ItemBody) → is_open b ≡ false → is_dollar b ≡ false
dollar_closed (body.MaybeMath opens closes context) h = cc h
dollar_closed other h = refl

context_closed : (n : ℕ) (b : ItemBody) → is_open b ≡ false → is_dollar_of n b ≡ false
context_closed n (body.MaybeMath opens closes context) h = cc h
context_closed n other h = refl

closes_closed : (b : ItemBody) → is_open b ≡ false → can_close b ≡ false
closes_closed (body.MaybeMath opens closes context) h = cc h
closes_closed other h = refl

pub node_alike : (source : List ℕ) (tables : Tables) (nodes : List (Node Item)) (n : ℕ)
    → LooksAlike (as_item (tree_node_at source tables nodes n)) (item_at nodes n)
node_alike source tables nodes n = by_open (is_open (item_at nodes n).body) refl
  where
    by_open : (x : Bool) → is_open (item_at nodes n).body ≡ x → LooksAlike (as_item
        (tree_node_at source tables nodes n))
        (item_at nodes n)
    by_open true h =
        let e = body_open tables (slice_range source (item_at nodes n).start (item_at nodes n).end)
        (item_at nodes n).body h in
        record {
          start = refl;
          end = refl;
          code = λ k. ap (is_code_of k) e;
          dollar = ap is_dollar e;
          context = λ k. ap (is_dollar_of k) e;
          closes = ap can_close e;
        }
    by_open false h =
        let b = (item_at nodes n).body in
        let shape = shape_of tables (slice_range source (item_at nodes n).start (item_at nodes n).end) b in
        let e = open_closed shape
        (closed_shape tables (slice_range source (item_at nodes n).start (item_at nodes n).end) b h) in
        record {
          start = refl;
          end = refl;
          code = λ k. ap (is_code_of k) e ∙ sym (code_closed k b h);
          dollar = ap is_dollar e ∙ sym (dollar_closed b h);
          context = λ k. ap (is_dollar_of k) e ∙ sym (context_closed k b h);
          closes = ap can_close e ∙ sym (closes_closed b h);
        }

-- and of a numbered item
pub number_alike : (nodes : List (Node Item)) (n : ℕ) → LooksAlike (item_in (numbered nodes n)) (item_at nodes n)
number_alike nodes n = record {
  start = refl;
  end = refl;
  code = λ k. refl;
  dollar = refl;
  context = λ k. refl;
  closes = refl;
}

-- what closes math, of numbers shown as something else
abbrev pub shown_close : {A : Type 0} → (ℕ → A) → MathClose ℕ → MathClose A
shown_close g m = record { display = m.display; closer = g m.closer; last = g m.last }

abbrev pub shown_dollar : {A : Type 0} → (ℕ → A) → Dollar ℕ → Dollar A
shown_dollar g d = record { dollar = g d.dollar; after = map g d.after }

module _ {A : Type 0} (item_of : A → Item) (g : ℕ → A) (nodes : List (Node Item)) (alike : (n : ℕ)
    → LooksAlike (item_of (g n)) (item_at nodes n)) where
  -- code
  code_closer_shown : (n : ℕ) (xs : List ℕ) → code_closer item_of n (map g xs)
      ≡ option_map g (code_closer (item_at nodes) n xs)
  code_closer_shown n [] = refl
  code_closer_shown n (x ∷ after) = by (is_code_of n (item_of (g x)).body) (is_code_of n (item_at nodes x).body)
      ((alike x).code n) (code_closer_shown n after)
    where
      by : (b b' : Bool) → b ≡ b' → code_closer item_of n (map g after)
          ≡ option_map g (code_closer (item_at nodes) n after)
          → (if b then Some (g x) else code_closer item_of n (map g after))
          ≡ option_map g (if b' then Some x else code_closer (item_at nodes) n after)
      by true true e h = refl
      by true false e h = cc e
      by false true e h = cc e
      by false false e h = h

  pub code_close_shown : (count : ℕ) (escaped : Bool) (xs : List ℕ)
      → code_close item_of (body.MaybeCode count escaped) (map g xs)
      ≡ option_map g (code_close (item_at nodes) (body.MaybeCode count escaped) xs)
  code_close_shown count escaped xs = by (closing_count count escaped == 0)
    where
      by : (b : Bool) → (if b then None else code_closer item_of (closing_count count escaped) (map g xs))
          ≡ option_map g (if b then None else code_closer (item_at nodes) (closing_count count escaped) xs)
      by true = refl
      by false = code_closer_shown (closing_count count escaped) xs

  -- math
  pub dollar_next_shown : (xs : List ℕ) → dollar_next item_of (map g xs) ≡ option_map g (dollar_next (item_at nodes) xs)
  dollar_next_shown [] = refl
  dollar_next_shown (x ∷ after) = by (is_dollar (item_of (g x)).body) (is_dollar (item_at nodes x).body)
      (alike x).dollar
    where
      by : (b b' : Bool) → b ≡ b' → (if b then Some (g x) else None) ≡ option_map g (if b' then Some x else None)
      by true true e = refl
      by true false e = cc e
      by false true e = cc e
      by false false e = refl

  pub first_dollar_shown : (context : ℕ) (xs : List ℕ) → first_dollar item_of context (map g xs)
      ≡ option_map (shown_dollar g) (first_dollar (item_at nodes) context xs)
  first_dollar_shown context [] = refl
  first_dollar_shown context (x ∷ after) = by (is_dollar_of context (item_of (g x)).body)
      (is_dollar_of context (item_at nodes x).body) ((alike x).context context) (first_dollar_shown context after)
    where
      by : (b b' : Bool) → b ≡ b' → first_dollar item_of context (map g after)
          ≡ option_map (shown_dollar g) (first_dollar (item_at nodes) context after)
          → (if b then Some (record { dollar = g x; after = map g after }) else first_dollar item_of context
          (map g after)) ≡ option_map (shown_dollar g)
          (if b' then Some (record { dollar = x; after = after }) else first_dollar (item_at nodes) context after)
      by true true e h = refl
      by true false e h = cc e
      by false true e h = cc e
      by false false e h = h

  inline_shown : (opener_end : ℕ) (d : Option (Dollar ℕ))
      → inline_close item_of opener_end (option_map (shown_dollar g) d)
      ≡ option_map (shown_close g) (inline_close (item_at nodes) opener_end d)
  inline_shown opener_end None = refl
  inline_shown opener_end (Some d) =
      rw ((alike d.dollar).closes, (alike d.dollar).start) (by (can_close (item_at nodes d.dollar).body
      && not (opener_end == (item_at nodes d.dollar).start)))
    where
      by : (b : Bool) → (if b then Some (record { display = false; closer = g d.dollar; last = g d.dollar }) else None)
          ≡ option_map (shown_close g)
          (if b then Some (record { display = false; closer = d.dollar; last = d.dollar }) else None)
      by true = refl
      by false = refl

  closed_by_shown : (closer : ℕ) (last : Option ℕ) → math_closed_by (g closer) (option_map g last)
      ≡ option_map (shown_close g) (math_closed_by closer last)
  closed_by_shown closer None = refl
  closed_by_shown closer (Some last) = refl

  display_shown : (d : Option (Dollar ℕ)) → display_close item_of (option_map (shown_dollar g) d)
      ≡ option_map (shown_close g) (display_close (item_at nodes) d)
  display_shown None = refl
  display_shown (Some d) = rw (dollar_next_shown d.after)
      (closed_by_shown d.dollar (dollar_next (item_at nodes) d.after))

  drop_shown : (xs : List ℕ) → drop 1 (map g xs) ≡ map g (drop 1 xs)
  drop_shown [] = refl
  drop_shown (x ∷ xs) = refl

  pub searched_shown : (xs : List ℕ) → searched_for_math item_of (map g xs)
      ≡ map g (searched_for_math (item_at nodes) xs)
  searched_shown xs = rw (dollar_next_shown xs) (by (dollar_next (item_at nodes) xs))
    where
      by : (o : Option ℕ) → (if is_some (option_map g o) then drop 1 (map g xs) else map g xs)
          ≡ map g (if is_some o then drop 1 xs else xs)
      by None = refl
      by (Some second) = drop_shown xs

  math_by_shown : (opener_end context : ℕ) (xs : List ℕ) (next : Option ℕ) → (elim (option_map g next) [
    | Some second ↦ display_close item_of (first_dollar item_of context (drop 1 (map g xs)))
    | None ↦ inline_close item_of opener_end (first_dollar item_of context (map g xs))
  ]) ≡ option_map (shown_close g) (elim next [
    | Some second ↦ display_close (item_at nodes) (first_dollar (item_at nodes) context (drop 1 xs))
    | None ↦ inline_close (item_at nodes) opener_end (first_dollar (item_at nodes) context xs)
  ])
  math_by_shown opener_end context xs None = ap (inline_close item_of opener_end) (first_dollar_shown context xs)
      ∙ inline_shown opener_end (first_dollar (item_at nodes) context xs)
  math_by_shown opener_end context xs (Some second) =
      ap (λ after. display_close item_of (first_dollar item_of context after)) (drop_shown xs)
      ∙ ap (display_close item_of) (first_dollar_shown context (drop 1 xs))
      ∙ display_shown (first_dollar (item_at nodes) context (drop 1 xs))

  math_shown : (opener_end context : ℕ) (xs : List ℕ) → math_close item_of opener_end context (map g xs)
      ≡ option_map (shown_close g) (math_close (item_at nodes) opener_end context xs)
  math_shown opener_end context xs = rw (dollar_next_shown xs, math_close)
      (math_by_shown opener_end context xs (dollar_next (item_at nodes) xs))

  pub math_from_shown : (opener : Item) (xs : List ℕ) → math_close_from item_of opener (map g xs)
      ≡ option_map (shown_close g) (math_close_from (item_at nodes) opener xs)
  math_from_shown opener xs = by (can_open opener.body)
    where
      by : (b : Bool) → (if b then math_close item_of opener.end (context_of opener.body) (map g xs) else None)
          ≡ option_map (shown_close g)
          (if b then math_close (item_at nodes) opener.end (context_of opener.body) xs else None)
      by true = math_shown opener.end (context_of opener.body) xs
      by false = refl

-- some numbers, one of them with what is before it and after it
pub record StandsAmong (xs : List ℕ) (x : ℕ) : Type 0 where
  pub before : List ℕ
  pub after : List ℕ
  pub parts : xs ≡ before ++ x ∷ after

pub stands_later : (y : ℕ) (xs : List ℕ) (x : ℕ) → StandsAmong xs x → StandsAmong (y ∷ xs) x
stands_later y xs x s = record { before = y ∷ s.before; after = s.after; parts = ap (λ later. y ∷ later) s.parts }

-- what closes code is among the items after its opener, and has the count that is wanted
pub record CodeCloses (nodes : List (Node Item)) (xs : List ℕ) (n x : ℕ) : Type 0 where
  pub among : StandsAmong xs x
  pub is_code : is_code_of n (item_at nodes x).body ≡ true

code_closer_among : (nodes : List (Node Item)) (n : ℕ) (xs : List ℕ) (x : ℕ) → code_closer (item_at nodes) n xs ≡ Some x
    → CodeCloses nodes xs n x
code_closer_among nodes n [] x e = cc e
code_closer_among nodes n (y ∷ xs) x e = by (is_code_of n (item_at nodes y).body) refl (code_closer_among nodes n xs x)
  where
    by : (b : Bool) → is_code_of n (item_at nodes y).body ≡ b
        → (code_closer (item_at nodes) n xs ≡ Some x → CodeCloses nodes xs n x) → CodeCloses nodes (y ∷ xs) n x
    by true is later =
        let same : y ≡ x = let found = rw is at e in cc in
        record {
          among = record { before = []; after = xs; parts = ap (λ z. z ∷ xs) same };
          is_code = ap (λ z. is_code_of n (item_at nodes z).body) (sym same) ∙ is;
        }
    by false is later =
        let there = later (rw is at e) in
        record { among = stands_later y xs x there.among; is_code = there.is_code }

pub code_close_among : (nodes : List (Node Item)) (count : ℕ) (escaped : Bool) (xs : List ℕ) (x : ℕ)
    → code_close (item_at nodes) (body.MaybeCode count escaped) xs ≡ Some x
    → ((closing_count count escaped == 0) ≡ false) × CodeCloses nodes xs (closing_count count escaped) x
code_close_among nodes count escaped xs x e = by (closing_count count escaped == 0) refl
  where
    by : (b : Bool) → (closing_count count escaped == 0) ≡ b → ((closing_count count escaped == 0) ≡ false)
        × CodeCloses nodes xs (closing_count count escaped) x
    by true is = let none = rw is at e in cc
    by false is = (is, code_closer_among nodes (closing_count count escaped) xs x (rw is at e))
