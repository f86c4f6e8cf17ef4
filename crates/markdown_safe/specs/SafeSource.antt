-- What the iterators that make events safe read, and their calls.
use Rattle.std.specs.Prelude.{Option, Result}
use Rattle.markdown_base.specs.declared.event.Event.{Event}
use Rattle.markdown_base.specs.declared.fault.Fault.{Fault}
use Rattle.markdown_safe.specs.SafeEvents.{SafePast, no_past}
use Rattle.markdown_safe.specs.SafeItems.{GivesSafe, SafeReading}
use Rattle.markdown_safe.specs.SafeRules.{SafeRulesView, rules_view}
use Rattle.markdown_safe.specs.declared.adapter.Kept.{Kept}
use Rattle.markdown_safe.specs.declared.adapter.Safe.{Safe}
use Rattle.markdown_safe.specs.declared.adapter.SafeWithOffset.{SafeWithOffset}

-- what an iterator keeps of the events so far
abbrev pub kept_view : Kept → SafePast
kept_view k = record { comment = k.comment; depth = k.depth; links = k.links }

abbrev pub safe_reading : {I : Type 0} → Safe I → SafeReading I
safe_reading s = record { source = s.iter; rules = rules_view s.rules; past = kept_view s.kept }

abbrev pub placed_reading : {I : Type 0} → SafeWithOffset I → SafeReading I
placed_reading s = record { source = s.iter; rules = rules_view s.rules; past = kept_view s.kept }

abbrev pub safe_source : {I : Type 0} → Safe I → I
safe_source s = s.iter

abbrev pub placed_source : {I : Type 0} → SafeWithOffset I → I
placed_source s = s.iter

-- a call of a `Safe`, by a call of its source
abbrev pub safe_steps : {I : Type 0} → (I → Option (Result Event Fault) → I → Type 0) → Safe I
    → Option (Result Event Fault) → Safe I → Type 0
safe_steps steps s r t = GivesSafe steps (safe_reading s) r (safe_reading t)

-- nothing was read yet
abbrev pub new_reading : {I : Type 0} → I → SafeRulesView → SafeReading I
new_reading iter rules = record { source = iter; rules = rules; past = no_past }
