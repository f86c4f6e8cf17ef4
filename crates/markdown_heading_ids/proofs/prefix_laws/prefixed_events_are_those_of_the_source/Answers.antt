use Rattle.markdown_heading_ids.proofs.PrefixedLemmas.{all_prefixed, first_prefixed}
use Rattle.markdown_heading_ids.proofs.prefix_laws.prefixed_events_are_those_of_the_source.Goals as goal

pub returns-clause-all : goal.returns-clause-all
returns-clause-all g c events read = all_prefixed g.I.Iterator.next_gives c.args.iter.now events read

pub returns-clause-first : goal.returns-clause-first
returns-clause-first g c events left read = first_prefixed g.I.Iterator.next_gives c.args.iter.now left events read
