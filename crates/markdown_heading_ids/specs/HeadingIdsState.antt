-- The state of a `HeadingIds`, in the terms of its contracts.
use Rattle.std.specs.Prelude.{map}
use Rattle.markdown_heading_ids.specs.HeadingIdsNext.{IdsState, item_seen}
use Rattle.markdown_heading_ids.specs.declared.adapter.HeadingIds.{HeadingIds}

abbrev pub ids_state : {I : Type 0} → HeadingIds I → IdsState I
ids_state h = record {
  iter = h.iter;
  kept = map item_seen h.kept.items;
  inside = h.inside;
  taken = h.taken;
  over = h.over;
}
