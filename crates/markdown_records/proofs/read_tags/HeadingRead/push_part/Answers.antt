-- A value is that of the last attribute.
use Rattle.std.proofs.Common.{rules}
use Rattle.markdown_records.proofs.read_tags.HeadingRead.push_part.Goals as goal

pub returns-in_err-set_value-in-133 : goal.returns-in_err-set_value-in-133
returns-in_err-set_value-in-133 c = λ source pool. rw c.in-133.is
    (search (rules, c.in_err-set_value-in-133.ensures source pool))

pub returns-in_ok-set_value-in-133 : goal.returns-in_ok-set_value-in-133
returns-in_ok-set_value-in-133 c = λ source pool. rw c.in-133.is (c.in_ok-set_value-in-133.ensures source pool)
