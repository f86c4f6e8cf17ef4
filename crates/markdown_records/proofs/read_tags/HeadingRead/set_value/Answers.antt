-- The last attribute gets the value, unless it has one.
use Rattle.std.proofs.Common.{ap, inl, refl, ℕ, List, Option}
use Rattle.std.specs.Option.{option_map}
use Rattle.markdown_records.specs.Decoded.{with_attributes}
use Rattle.markdown_records.specs.ReadOf.{heading_read}
use Rattle.markdown_records.proofs.TagLemmas.{value_held, value_set}
use Rattle.markdown_records.proofs.read_tags.HeadingRead.set_value.Goals as goal

pub returns-in-Some-held : goal.returns-in-Some-held
returns-in-Some-held c = λ source pool.
    inl (
      refl,
      ap (λ (found : Option (List (List ℕ × Option (List ℕ)))). option_map
          (λ attributes. with_attributes source pool (heading_read c.args.self.now) attributes) found)
          (value_held source pool c.args.value.now _ _ _ _ (rw c.in-Some-held.is at c.in-Some.ensures.items)),
    )

pub returns-in_ok-push-in-None-held : goal.returns-in_ok-push-in-None-held
returns-in_ok-push-in-None-held c = λ source pool.
    ap (λ (found : Option (List (List ℕ × Option (List ℕ)))). option_map
    (λ attributes. with_attributes source pool (heading_read c.args.self.now) attributes) found)
    (value_set source pool c.args.value.now _ _ _ _ _ (rw c.in-None-held.is at c.in-Some.ensures.items)
    c.in_ok-push-in-None-held.ensures.items refl)
