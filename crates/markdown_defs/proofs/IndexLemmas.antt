-- An index from foldings in UTF-8 to the positions of definitions: what it contains for a key, and how it grows.
use Rattle.std.proofs.Common.{◌≡◌, ℕ, ◌+◌, ◌-◌, ◌<◌, List, [], ◌∷◌, ◌++◌, true, false, cond, Option, Some, None, length}
use Rattle.std.proofs.Common.{get_or, encode_utf8_all, refl, sym, ◌∙◌, ap, arith, find, is_some, inl, inr}
use Rattle.std.specs.Option.{option_map}
use Rattle.std.specs.Str.{bytes_eq}
use Rattle.std.proofs.lemmas.Bool.{cases_Bool, false_from_ne_true}
use Rattle.std.proofs.lemmas.Slice.Eq.{bytes_eq-Decides}
use Rattle.markdown_base.specs.CowText.{text_of}
use Rattle.markdown_defs.specs.Definitions.{Labelled, has_folding, first_at, find_definition, add_first}
use Rattle.markdown_defs.specs.Folding.{case_folding}
use Rattle.markdown_defs.specs.DefinitionsIndex.{place_of}
use Rattle.markdown_defs.proofs.FoldingLemmas.{encoded_eq}
use Rattle.markdown_defs.proofs.PlaceLemmas.{find_at_no_place, find_at_place, same_presence, place_pushed}

-- a key whose folding has no place finds nothing
pub not_found : (key : List ℕ) (ds : List Labelled) → place_of (case_folding key) ds ≡ None → None
    ≡ find_definition key ds
not_found key ds e = sym (ap (option_map (λ d. d.1)) (find_at_no_place (has_folding (case_folding key)) 0 ds e))

-- a place is one of the list
pub in_range : (folded : List ℕ) (ds : List Labelled) (place : ℕ) → place_of folded ds ≡ Some place → place < length ds
in_range folded ds place e = omega (arith, (find_at_place (has_folding folded) 0 ds place e).in_range)

-- a key whose folding has a place finds the definition at that place
pub found_at : (key : List ℕ) (ds : List Labelled) (place : ℕ) (x : Labelled) → place_of (case_folding key) ds
    ≡ Some place
    → x ≡ get_or ds place x → Some (x.1) ≡ find_definition key ds
found_at key ds place x e here =
    let whole : place - 0 ≡ place = omega arith in
    let found = rw whole at ((find_at_place (has_folding (case_folding key)) 0 ds place e).element x) in
    let direct : find (has_folding (case_folding key)) ds ≡ Some x = found ∙ ap Some (sym here) in
    sym (ap (option_map (λ d. d.1)) direct)

present : (folded : List ℕ) (ds : List Labelled) → is_some (place_of folded ds) ≡ is_some (first_at folded ds)
present folded ds = same_presence (has_folding folded) 0 ds

same_or_none : {X : Type 0} (o : Option X) → o ≡ cond (is_some o) o None
same_or_none None = refl
same_or_none (Some x) = refl

-- an index that had a place for each folding, and was given one more
pub indexed_push : (before after : List ℕ → Option ℕ) (folded : List ℕ) (kept : List Labelled) (d : Labelled)
    → ((q : List ℕ) → before (encode_utf8_all q) ≡ place_of q kept)
    → ((bytes : List ℕ) → after bytes ≡ cond (bytes_eq (encode_utf8_all folded) bytes) (Some (length kept))
    (before bytes))
    → folded ≡ case_folding (text_of d.0) → is_some (place_of folded kept) ≡ false
    → (q : List ℕ) → after (encode_utf8_all q) ≡ place_of q (kept ++ d ∷ [])
indexed_push before after folded kept d was is same absent q =
    let pushed : place_of q (kept ++ d ∷ []) ≡ cond (is_some (place_of q kept)) (place_of q kept)
    (cond (has_folding q d) (Some (0 + length kept)) None) = place_pushed (has_folding q) 0 kept d in
    let whole : 0 + length kept ≡ length kept = omega arith in
    let now : after (encode_utf8_all q) ≡ cond (bytes_eq folded q) (Some (length kept)) (before (encode_utf8_all q)) =
    is (encode_utf8_all q) ∙ ap (λ b. cond b (Some (length kept)) (before (encode_utf8_all q))) (encoded_eq folded q) in
    now ∙ (
    elim (cases_Bool (bytes_eq folded q)) as
    (λ _. cond (bytes_eq folded q) (Some (length kept)) (before (encode_utf8_all q))
    ≡ place_of q (kept ++ d ∷ [])) [
      | inl hit ↦
          let at_q : folded ≡ q = (bytes_eq-Decides folded q).0 hit in
          let gone : is_some (place_of q kept) ≡ false = rw at_q at absent in
          let here : has_folding q d ≡ true = (bytes_eq-Decides q (case_folding (text_of d.0))).1 (sym at_q ∙ same) in
          rw (hit, pushed, gone, here, whole)
      | inr miss ↦
          let elsewhere : has_folding q d ≡ false = false_from_ne_true _ (λ t. let clash : true
          ≡ false = sym ((bytes_eq-Decides folded q).1
          (same ∙ sym ((bytes_eq-Decides q (case_folding (text_of d.0))).0 t))) ∙ miss
          in cc) in
          rw (miss, pushed, elsewhere) (was q ∙ same_or_none (place_of q kept))
    ])

-- a definition whose folding has a place is left out
pub left_out : (kept : List Labelled) (d : Labelled) → is_some (place_of (case_folding (text_of d.0)) kept) ≡ true
    → kept ≡ add_first kept d
left_out kept d there =
    let found : is_some (first_at (case_folding (text_of d.0)) kept)
    ≡ true = sym (present (case_folding (text_of d.0)) kept) ∙ there in
    rw found

-- one whose folding has none is put at the end
pub put_last : (kept : List Labelled) (d : Labelled) → is_some (place_of (case_folding (text_of d.0)) kept) ≡ false
    → kept ++ d ∷ [] ≡ add_first kept d
put_last kept d absent =
    let gone : is_some (first_at (case_folding (text_of d.0)) kept)
    ≡ false = sym (present (case_folding (text_of d.0)) kept) ∙ absent in
    rw gone
