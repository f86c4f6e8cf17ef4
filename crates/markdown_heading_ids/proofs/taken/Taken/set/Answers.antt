use Rattle.std.proofs.Common.{string_bytes}
use Rattle.std.proofs.lemmas.Map.Text.{btree_map_updates_text}
use Rattle.markdown_heading_ids.proofs.taken.Taken.set.Goals as goal

pub returns-clause-sets : goal.returns-clause-sets
returns-clause-sets c =
    let sets = btree_map_updates_text (string_bytes c.in_ok-from_str.field-0) c.args.self.now.numbers
    c.insert.new.self _
    c.in_ok-insert.ensures.updates in
    record { set = rw c.in_ok-from_str.ensures.ok at sets }
