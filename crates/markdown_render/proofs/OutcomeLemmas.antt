-- What a writer holds in the midst of writing.
use Rattle.std.proofs.Common.{◌≡◌, ℕ, ◌-◌, List, [], ◌++◌, Option, Result, Ok, Err, length, take, drop}
use Rattle.std.proofs.Common.{append_assoc, append-nil, take-append-drop, sym, ap, ◌∙◌}
use Rattle.std.proofs.KnownBytes.{Appends-kept}
use Rattle.std.proofs.lemmas.List.{take_rest}
use Rattle.std.specs.Prelude.{OnErr}
use Rattle.std.specs.Io.KnownBytes.{Appends, Keeps}
use Rattle.markdown_render.specs.Outcome.{AppendsKnownPrefix}

-- a prefix stays where what the writer holds stays
pub kept_prefix : {old new now : Option (List ℕ)} (bytes : List ℕ) → AppendsKnownPrefix old new bytes → Keeps new now
    → AppendsKnownPrefix old now bytes
kept_prefix bytes p keeps = record {
  prefix = p.prefix;
  missing = p.missing;
  stands = Appends-kept _ _ _ p.prefix p.stands keeps;
  whole = p.whole;
}

-- all of it is a prefix
pub whole_prefix : {old new : Option (List ℕ)} (bytes : List ℕ) → Appends old new bytes
    → AppendsKnownPrefix old new bytes
whole_prefix bytes appended = record { prefix = bytes; missing = []; stands = appended; whole = append-nil bytes }

-- what a write takes from the front of the rest
pub front_moves : (all done rest : List ℕ) (n : ℕ) → all ≡ done ++ rest
    → all ≡ (done ++ take n rest) ++ take (length rest - n) (drop n rest)
front_moves all done rest n e =
    e ∙ ap (λ l. done ++ l) (sym (take-append-drop n rest)) ∙ sym (append_assoc done (take n rest) (drop n rest))
    ∙ ap (λ l. (done ++ take n rest) ++ l) (sym (take_rest rest n))

-- what holds anyway holds at an error
pub at_any_error : {A E P : Type 0} (r : Result A E) → P → OnErr r P
at_any_error (Ok x) p = tt
at_any_error (Err x) p = p
