-- The state of an `Autolinks`, in the terms of its contracts.
use Rattle.std.specs.Prelude.{map}
use Rattle.markdown_autolinks.specs.AutolinksNext.{LinkedState, item_read}
use Rattle.markdown_autolinks.specs.declared.adapter.Autolinks.{Autolinks}

abbrev pub linked_state : {I : Type 0} → Autolinks I → LinkedState I
linked_state a = record {
  source = a.text.now;
  iter = a.iter;
  kept = map item_read a.kept.items;
  inside = a.inside;
  over = a.over;
}
