-- An image's HTML, event by event.
use Rattle.std.proofs.Common.{◌≡◌, ℕ, zero, suc, List, [], ◌∷◌, ◌++◌, Option, Some, reverse}
use Rattle.std.proofs.Common.{refl, sym, ap, ◌∙◌, append_assoc, append-nil}
use mathlib.Core.List.{reverse_aux}
use Rattle.markdown_base.specs.Event.{EventView, start, end, image}
use Rattle.markdown_out.specs.AltText.{alt_parts}
use Rattle.markdown_out.specs.ByteLists.{joined}
use Rattle.markdown_out.specs.EventHtml.{bytes_before, bytes_by_image, inside_bytes, past_of}
use Rattle.markdown_out.specs.ImageHtml.{AreMatched, alt_text, image_events, ImagesHaveParts}
use Rattle.markdown_out.specs.LookBacks.{OpenImageView, image_before, image_after}
use Rattle.markdown_out.specs.TagHtml.{image_parts, image_end}

abbrev opened : ℕ → List ℕ → Option OpenImageView
opened n title = Some (record { starts = n; title = title })

-- the events inside were written, and the image is open with no Start inside it
record WroteInside (title : List ℕ) (before inside : List EventView) : Type 0 where
  pub bytes : bytes_before (reverse_aux inside before) ≡ bytes_before before ++ alt_text before inside
  pub is_open : image_before (reverse_aux inside before) ≡ opened 0 title

-- one more event at the front
more : (n : ℕ) (title : List ℕ) (before : List EventView) (e : EventView) (inside : List EventView)
    → image_before before ≡ opened n title
    → inside_bytes (past_of before) n title e ≡ joined (alt_parts (past_of before) e)
    → WroteInside title (e ∷ before) inside → WroteInside title before (e ∷ inside)
more n title before e inside h s w = record {
  bytes = w.bytes
      ∙ (ap (λ x. (bytes_before before ++ x) ++ alt_text (e ∷ before) inside)
      (ap (λ o. bytes_by_image o (past_of before) e) h ∙ s)
      ∙ append_assoc (bytes_before before) (joined (alt_parts (past_of before) e))
      (alt_text (e ∷ before) inside));
  is_open = w.is_open;
}

wrote_inside : (n : ℕ) (title : List ℕ) (before inside : List EventView)
    → image_before before ≡ opened n title → AreMatched n inside → WroteInside title before inside
wrote_inside zero title before [] h m = record { bytes = sym (append-nil (bytes_before before)); is_open = h }
wrote_inside (suc n) title before [] h m = absurd m
wrote_inside n title before (start tag ∷ es) h m =
    more n title before (start tag) es h refl
    (wrote_inside (suc n) title (start tag ∷ before) es (ap (λ o. image_after o (start tag)) h) m)
wrote_inside zero title before (end tag ∷ es) h m = absurd m
wrote_inside (suc n) title before (end tag ∷ es) h m =
    more (suc n) title before (end tag) es h refl
    (wrote_inside n title (end tag ∷ before) es (ap (λ o. image_after o (end tag)) h) m)
wrote_inside n title before (e ∷ es) h m =
    more n title before e es h refl
    (wrote_inside n title (e ∷ before) es (ap (λ o. image_after o e) h) m)

aux-append : (xs ys done : List EventView)
    → reverse_aux (xs ++ ys) done ≡ reverse_aux ys (reverse_aux xs done)
aux-append [] ys done = refl
aux-append (x ∷ xs) ys done = aux-append xs ys (x ∷ done)

pub images_have_parts : ImagesHaveParts
images_have_parts before inside i tag none matched =
    let past = reverse before in
    let first = start (image i) ∷ past in
    let begun : image_before first ≡ opened 0 i.title = ap (λ o. image_after o (start (image i))) none in
    let w = wrote_inside 0 i.title first inside begun matched in
    let last = reverse_aux inside first in
    let order : reverse (before ++ image_events i inside tag) ≡ end tag ∷ last =
    aux-append before (image_events i inside tag) [] ∙ aux-append inside (end tag ∷ []) first in
    let start_bytes : bytes_before first ≡ bytes_before past ++ joined (image_parts i.destination) =
    ap (λ o. bytes_before past ++ bytes_by_image o (past_of past) (start (image i))) none in
    let alt = alt_text first inside in
    ap bytes_before order
    ∙ (ap (λ o. bytes_before last ++ bytes_by_image o (past_of last) (end tag)) w.is_open
    ∙ (ap (λ x. x ++ image_end i.title) (w.bytes ∙ ap (λ x. x ++ alt) start_bytes)
    ∙ (append_assoc (bytes_before past ++ joined (image_parts i.destination)) alt (image_end i.title)
    ∙ append_assoc (bytes_before past) (joined (image_parts i.destination)) (alt ++ image_end i.title))))
