-- The state of a merge, in the terms of its contracts.
use Rattle.std.specs.Prelude.{ℕ}
use Rattle.std.specs.declared.ops.Range.{Range}
use Rattle.markdown_out.specs.MergeNext.{MergeState}
use Rattle.markdown_out.specs.HeldItems.{held_items}
use Rattle.markdown_out.specs.TextForms.{Formed}
use Rattle.markdown_out.specs.declared.merge.merging.Merging.{Merging}
use Rattle.markdown_out.specs.declared.merge.TextMergeStream.{TextMergeStream}
use Rattle.markdown_out.specs.declared.merge.TextMergeWithOffset.{TextMergeWithOffset}

-- the state of a merge over any items
abbrev pub merging_state : {I P : Type 0} → Merging I P → MergeState I (Formed P)
merging_state m = record { iter = m.iter; held = held_items m.held; over = m.over }

-- the state of a merge of events
abbrev pub stream_state : {I : Type 0} → TextMergeStream I → MergeState I (Formed (Unit {0}))
stream_state m = merging_state m.merging

-- the state of a merge of events with ranges
abbrev pub offset_state : {I : Type 0} → TextMergeWithOffset I → MergeState I (Formed (Range ℕ))
offset_state m = merging_state m.merging
