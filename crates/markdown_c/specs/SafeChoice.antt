-- The struct of what a call chooses, and why it means nothing. Only private clauses cite this.
use Rattle.std.specs.Prelude.{◌≡◌, false}
use Rattle.std.specs.Str.{IsUtf8}
use Rattle.markdown_c.specs.CallsFromC.{SafeChoiceView, are_choices}
use Rattle.markdown_c.specs.declared.choice.SafeChoice.{SafeChoice}
use Rattle.markdown_c.specs.declared.readings.Refusal.{Refusal}
use Rattle.markdown_c.specs.declared.readings.Refusal.TheVariants.{NotUtf8, Memory, Depth, UnknownOption}
use Rattle.markdown_c.specs.declared.readings.Refusal.TheVariants.{NotRecords, OverLimit, TooLong}

abbrev pub choice_view : SafeChoice → SafeChoiceView
choice_view c = record { prefix = c.prefix.now; bits = c.bits; nesting = c.nesting; limit = c.limit }

-- this is why a choice means nothing
abbrev pub IsNoChoice : SafeChoiceView → Refusal → Type 0
IsNoChoice c UnknownOption = are_choices c.bits ≡ false
IsNoChoice c NotUtf8 = IsUtf8 c.prefix → ⊥
IsNoChoice c Memory = ⊥
IsNoChoice c Depth = ⊥
IsNoChoice c NotRecords = ⊥
IsNoChoice c TooLong = ⊥
IsNoChoice c OverLimit = ⊥
