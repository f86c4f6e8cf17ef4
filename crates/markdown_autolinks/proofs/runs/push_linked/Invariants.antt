-- The links so far are made, and the rest is left.
use Rattle.std.proofs.Common.{◌≡◌, ◌-◌, length, map}
use Rattle.markdown_autolinks.specs.Addresses.{first_address}
use Rattle.markdown_autolinks.specs.AutolinksNext.{item_read}
use Rattle.markdown_autolinks.specs.RunRead.{run_text_view}
use Rattle.markdown_autolinks.proofs.RunLemmas.{IsLinking}
use Rattle.markdown_autolinks.proofs.runs.push_linked.Given as goal

abbrev pub invariant-addresses : goal.invariant-addresses
invariant-addresses l = record {
  linking : IsLinking l.searched (map run_text_view l.fn.texts.items) (map item_read l.fn.made.items)
      (map run_text_view l.rest.items) l.used (map item_read l.made.items);
  found : l.found ≡ first_address l.searched l.used;
}

abbrev pub decreases-addresses : goal.decreases-addresses
decreases-addresses l = length l.searched - l.used
