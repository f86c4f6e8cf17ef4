-- The first record with its parts is the first group.
use Rattle.markdown_records.proofs.GroupLemmas.{first_group}
use Rattle.markdown_records.proofs.groups.take_group.Goals as goal

pub returns : goal.returns
returns c =
    first_group (record { head = c.in_ok-head.head; parts = c.split_parts.result.0 }) c.requires c.in_ok-head.ensures
    c.split_parts.ensures
