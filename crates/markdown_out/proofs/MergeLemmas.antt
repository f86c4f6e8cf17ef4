-- Laws of the merge: what an item or a run at the front gives.
use Rattle.std.proofs.Common.{◌≡◌, ℕ, List, [], ◌∷◌, ◌++◌, map, Ok, Err, Option, Some, None, refl, sym, ap, ◌∙◌}
use Rattle.std.proofs.Common.{append_assoc, append-nil}
use Rattle.std.specs.List.{flat_map}
use Rattle.std.proofs.lemmas.List.{map-append}
use Rattle.markdown_base.specs.Event.{text, start, end, code, inline_math, display_math, html, inline_html}
use Rattle.markdown_base.specs.Event.{footnote_reference, soft_break, hard_break, rule, task_list_marker}
use Rattle.markdown_out.specs.Merge.{Item, PlacedText, text_item, text_of_item, Run, alone, texts, before_runs, runs}
use Rattle.markdown_out.specs.Merge.{last_text, unless_empty, run_items, merged, merge_answers}
use Rattle.markdown_out.specs.TextForms.{Formed, boxed_form, boxed_through}

-- the runs of a list that begins with no Text
pub runs-alone : {P : Type 0} (x : Item P) (xs : List (Item P)) → text_of_item x ≡ None → runs (x ∷ xs)
    ≡ alone x ∷ runs xs
runs-alone x xs h = ap (λ t. before_runs x t (runs xs)) h

module _ {P : Type 0} (through : P → P → P) where
  -- an item that is no Text stays, and what follows is merged by itself
  pub merged-alone : (x : Item P) (xs : List (Item P)) → text_of_item x ≡ None → merged through (x ∷ xs)
      ≡ x ∷ merged through xs
  merged-alone x xs h = ap (flat_map (run_items through)) (runs-alone x xs h)

  -- one item stays as it is
  pub merged-one : (x : Item P) → merged through (x ∷ []) ≡ x ∷ []
  merged-one (Ok (text t, p)) = refl
  merged-one (Ok (start o, p)) = refl
  merged-one (Ok (end c, p)) = refl
  merged-one (Ok (code t, p)) = refl
  merged-one (Ok (inline_math t, p)) = refl
  merged-one (Ok (display_math t, p)) = refl
  merged-one (Ok (html t, p)) = refl
  merged-one (Ok (inline_html t, p)) = refl
  merged-one (Ok (footnote_reference n, p)) = refl
  merged-one (Ok (soft_break, p)) = refl
  merged-one (Ok (hard_break, p)) = refl
  merged-one (Ok (rule, p)) = refl
  merged-one (Ok (task_list_marker b, p)) = refl
  merged-one (Err fault) = refl

  -- a lone Text stays where no Text follows it
  pub merged-lone_text : (t : PlacedText P) (y : Item P) (ys : List (Item P)) → text_of_item y ≡ None
      → merged through (text_item t ∷ y ∷ ys) ≡ text_item t ∷ merged through (y ∷ ys)
  merged-lone_text t y ys h =
      ap (λ rs. flat_map (run_items through) (before_runs (text_item t) (Some t) rs)) (runs-alone y ys h)
      ∙ ap (λ rs. text_item t ∷ flat_map (run_items through) rs) (sym (runs-alone y ys h))

  -- two Texts, the last of them empty, where no Text follows
  pub merged-run_end : (t l : PlacedText P) (y : Item P) (ys : List (Item P)) → l.bytes ≡ [] → text_of_item y ≡ None
      → merged through (text_item t ∷ text_item l ∷ y ∷ ys) ≡ unless_empty t.bytes (through t.range l.range) ++ merged
      through (y ∷ ys)
  merged-run_end t l y ys e h =
      ap (λ rs. flat_map (run_items through)
      (before_runs (text_item t) (Some t) (before_runs (text_item l) (Some l) rs)))
      (runs-alone y ys h)
      ∙ (ap (λ bytes. unless_empty bytes (through t.range l.range) ++ flat_map (run_items through) (alone y ∷ runs ys))
      (ap (λ bytes. t.bytes ++ (bytes ++ [])) e ∙ append-nil t.bytes)
      ∙ ap (λ rs. unless_empty t.bytes (through t.range l.range) ++ flat_map (run_items through) rs)
      (sym (runs-alone y ys h)))

  -- the same where nothing follows
  pub merged-run_last : (t l : PlacedText P) → l.bytes ≡ [] → merged through (text_item t ∷ text_item l ∷ [])
      ≡ unless_empty t.bytes (through t.range l.range)
  merged-run_last t l e =
      ap (λ bytes. unless_empty bytes (through t.range l.range) ++ []) (ap (λ bytes. t.bytes ++ (bytes ++ [])) e
      ∙ append-nil t.bytes)
      ∙ append-nil (unless_empty t.bytes (through t.range l.range))

  -- items at the front whose merge does not depend on what comes after the next item
  pub answers-prefix : (x : Item P) (xs prefix : List (Item P)) (y : Item P) (ys : List (Item P))
      (later : List (Option (Item P)))
      → ((rest : List (Item P)) → merged through (x ∷ xs ++ y ∷ rest) ≡ prefix ++ merged through (y ∷ rest))
      → merge_answers through (x ∷ xs ++ y ∷ ys) later ≡ map (λ i. Some i) prefix ++ merge_answers through (y ∷ ys)
      later
  answers-prefix x xs prefix y ys [] h =
      ap (map (λ i. Some i)) (h ys) ∙ map-append (λ i. Some i) prefix (merged through (y ∷ ys))
  answers-prefix x xs prefix y ys (Some z ∷ later) h =
      ap (λ items. merge_answers through (x ∷ items) later) (append_assoc xs (y ∷ ys) (z ∷ []))
      ∙ answers-prefix x xs prefix y (ys ++ z ∷ []) later h
  answers-prefix x xs prefix y ys (None ∷ later) h =
      ap (λ items. map (λ i. Some i) items ++ merge_answers through [] later) (h ys)
      ∙ (ap (λ items. items ++ merge_answers through [] later)
      (map-append (λ i. Some i) prefix (merged through (y ∷ ys)))
      ∙ append_assoc (map (λ i. Some i) prefix) (map (λ i. Some i) (merged through (y ∷ ys)))
      (merge_answers through [] later))

  -- items at the front that are merged alike, whatever comes after them
  pub answers-alike : (x : Item P) (xs : List (Item P)) (y : Item P) (ys rest : List (Item P))
      (later : List (Option (Item P)))
      → ((more : List (Item P)) → merged through (x ∷ xs ++ more) ≡ merged through (y ∷ ys ++ more))
      → merge_answers through (x ∷ xs ++ rest) later ≡ merge_answers through (y ∷ ys ++ rest) later
  answers-alike x xs y ys rest [] h = ap (map (λ i. Some i)) (h rest)
  answers-alike x xs y ys rest (Some z ∷ later) h =
      ap (λ items. merge_answers through (x ∷ items) later) (append_assoc xs rest (z ∷ []))
      ∙ (answers-alike x xs y ys (rest ++ z ∷ []) later h
      ∙ ap (λ items. merge_answers through (y ∷ items) later) (sym (append_assoc ys rest (z ∷ []))))
  answers-alike x xs y ys rest (None ∷ later) h =
      ap (λ items. map (λ i. Some i) items ++ merge_answers through [] later) (h rest)

module _ {P : Type 0} (through : P → P → P) where
  -- a Text with this form, over the range of another
  abbrev boxed : List ℕ → PlacedText (Formed P) → PlacedText (Formed P)
  boxed bytes t = record { bytes = bytes; range = (t.range.0, boxed_form ∷ []) }

  abbrev all : Formed P → Formed P → Formed P
  all = boxed_through through

  -- two Texts at the front count as a boxed one of both at the first range and an empty one at the last
  pub merged-two_texts : (t u : PlacedText (Formed P)) (rest : List (Item (Formed P)))
      → merged all (text_item t ∷ text_item u ∷ rest)
      ≡ merged all (text_item (boxed (t.bytes ++ u.bytes) t) ∷ text_item (boxed [] u) ∷ rest)
  merged-two_texts t u rest = by_runs (runs rest)
    where
      both : PlacedText (Formed P)
      both = boxed (t.bytes ++ u.bytes) t

      none : PlacedText (Formed P)
      none = boxed [] u

      with_two : List (Run (Formed P)) → PlacedText (Formed P) → PlacedText (Formed P) → List (Item (Formed P))
      with_two rs a b = flat_map (run_items all)
          (before_runs (text_item a) (Some a) (before_runs (text_item b) (Some b) rs))

      by_runs : (rs : List (Run (Formed P))) → with_two rs t u ≡ with_two rs both none
      by_runs [] = ap (λ bytes. unless_empty bytes (all t.range u.range) ++ [])
          (sym (append_assoc t.bytes u.bytes []))
      by_runs (alone x ∷ rs) = ap (λ bytes. unless_empty bytes (all t.range u.range) ++ flat_map (run_items all)
          (alone x ∷ rs))
          (sym (append_assoc t.bytes u.bytes []))
      by_runs (texts v vs ∷ rs) =
          ap (λ bytes. unless_empty bytes (all t.range (last_text v vs).range) ++ flat_map (run_items all) rs)
          (sym (append_assoc t.bytes u.bytes (flat_map (λ x. x.bytes) (v ∷ vs))))

  -- a third Text after two whose last is empty
  pub merged-three_texts : (t l u : PlacedText (Formed P)) (rest : List (Item (Formed P))) → l.bytes ≡ []
      → merged all (text_item t ∷ text_item l ∷ text_item u ∷ rest)
      ≡ merged all (text_item (boxed (t.bytes ++ u.bytes) t) ∷ text_item (boxed [] u) ∷ rest)
  merged-three_texts t l u rest e = by_runs (runs rest)
    where
      both : PlacedText (Formed P)
      both = boxed (t.bytes ++ u.bytes) t

      none : PlacedText (Formed P)
      none = boxed [] u

      joined : (more : List ℕ) → t.bytes ++ (l.bytes ++ (u.bytes ++ more)) ≡ (t.bytes ++ u.bytes) ++ more
      joined more = ap (λ bytes. t.bytes ++ (bytes ++ (u.bytes ++ more))) e ∙ sym (append_assoc t.bytes u.bytes more)

      by_runs : (rs : List (Run (Formed P)))
          → flat_map (run_items all) (before_runs (text_item t) (Some t)
          (before_runs (text_item l) (Some l) (before_runs (text_item u) (Some u) rs)))
          ≡ flat_map (run_items all)
          (before_runs (text_item both) (Some both) (before_runs (text_item none) (Some none) rs))
      by_runs [] = ap (λ bytes. unless_empty bytes (all t.range u.range) ++ []) (joined [])
      by_runs (alone x ∷ rs) = ap (λ bytes. unless_empty bytes (all t.range u.range) ++ flat_map (run_items all)
          (alone x ∷ rs))
          (joined [])
      by_runs (texts v vs ∷ rs) =
          ap (λ bytes. unless_empty bytes (all t.range (last_text v vs).range) ++ flat_map (run_items all) rs)
          (joined (flat_map (λ x. x.bytes) (v ∷ vs)))
