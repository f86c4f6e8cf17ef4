-- Definitions for clauses on text merges, re-exported so that a caller names this crate alone.

-- the merge of a list of events and errors
pub use Rattle.markdown_out.specs.Merge.{Item, PlacedText, text_item, text_of_item, Run, runs, merged, merge_answers}
pub use Rattle.markdown_out.specs.EventRanges.{bare, nowhere, with_range, through_ranges}
-- with the forms of their texts
pub use Rattle.markdown_out.specs.TextForms.{TextForm, boxed_form, slice_form, inline_form, text_form, event_forms}
pub use Rattle.markdown_out.specs.TextForms.{Formed, with_forms, boxed_through}
-- a merge between calls, and a call of it
pub use Rattle.markdown_out.specs.MergeNext.{MergeState, CanMerge, CallsMerge, MergesNext, PassesOn, Gave}
pub use Rattle.markdown_out.specs.MergeNext.{item_view, formed_view, some_count, left_count}
pub use Rattle.markdown_out.specs.MergeState.{stream_state, offset_state}
pub use Rattle.markdown_out.specs.declared.merge.TextMergeStream.{TextMergeStream}
pub use Rattle.markdown_out.specs.declared.merge.TextMergeWithOffset.{TextMergeWithOffset}
-- laws of merges
pub use Rattle.markdown_out.specs.OutLaws.{RangedEvent, merged_ranged, ranged_item, item_ranged}
pub use Rattle.markdown_out.specs.OutLaws.{merged_events, MergingKeepsHtml, IsNoEmptyText, HasNoNeighbours, AreApart}
pub use Rattle.markdown_out.specs.OutLaws.{StaysEnded, IsNewMerge, GivesTheMerge, IsMergeOfAll, IsMergeSoFar}
pub use Rattle.markdown_out.specs.OutLaws.{merge_steps, IsRenderedMerged, StopsAtErrorMerged, IsRefusedMerged}
pub use Rattle.markdown_out.specs.OutLaws.{GoesTooDeepMerged}
