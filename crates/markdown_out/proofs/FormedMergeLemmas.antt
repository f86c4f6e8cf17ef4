-- A merge whose items have the forms of their texts, without these forms.
use Rattle.std.proofs.Common.{◌≡◌, List, [], ◌∷◌, ◌++◌, map, Ok, Err, Result, Option, refl, sym, ap, ◌∙◌}
use Rattle.std.proofs.lemmas.List.{map-append}
use Rattle.markdown_base.specs.declared.event.Event.{Event}
use Rattle.markdown_base.specs.declared.fault.Fault.{Fault}
use Rattle.markdown_out.specs.Merge.{Item, merged}
use Rattle.markdown_out.specs.MergeNext.{formed_view, item_view}
use Rattle.markdown_out.specs.OutLaws.{IsMergeOfAll, IsMergeSoFar}
use Rattle.markdown_out.specs.TextForms.{Formed, boxed_through}
use Rattle.markdown_out.proofs.MergedRangesLemmas.{merged-moved, moved}

module _ {S T P : Type 0} (through : P → P → P) (parts : T → Event × P)
    (steps : S → Option (Result T Fault) → S → Type 0) (it : S) (given : List (Result T Fault)) where
  -- an item without the forms of its texts
  abbrev unformed : Item (Formed P) → Item P
  unformed x = moved (λ (p : Formed P). p.0) x

  abbrev formed : Result T Fault → Item (Formed P)
  formed = formed_view parts

  without_forms : (xs : List (Result T Fault)) → map unformed (map formed xs) ≡ map (item_view parts) xs
  without_forms [] = refl
  without_forms (Ok x ∷ xs) = ap (λ ys. item_view parts (Ok x) ∷ ys) (without_forms xs)
  without_forms (Err fault ∷ xs) = ap (λ ys. Err fault ∷ ys) (without_forms xs)

  merged_without : (xs : List (Result T Fault)) → merged through (map (item_view parts) xs)
      ≡ map unformed (merged (boxed_through through) (map formed xs))
  merged_without xs = ap (merged through) (sym (without_forms xs))
      ∙ merged-moved (boxed_through through) through (λ (p : Formed P). p.0) (λ p q. refl) (map formed xs)

  pub all_without : IsMergeOfAll (boxed_through through) formed steps it given
      → IsMergeOfAll through (item_view parts) steps it given
  all_without m = record {
    all = m.all;
    read = m.read;
    merges = merged_without m.all ∙ (ap (map unformed) m.merges ∙ without_forms given);
  }

  pub so_far_without : IsMergeSoFar (boxed_through through) formed steps it given
      → IsMergeSoFar through (item_view parts) steps it given
  so_far_without m = record {
    so_far = m.so_far;
    left = m.left;
    read = m.read;
    missing = map unformed m.missing;
    merges = merged_without m.so_far ∙ (ap (map unformed) m.merges
        ∙ (map-append unformed (map formed given) m.missing
        ∙ ap (λ xs. xs ++ map unformed m.missing) (without_forms given)));
  }
