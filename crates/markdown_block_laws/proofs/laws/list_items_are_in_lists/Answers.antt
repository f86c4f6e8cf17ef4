use Rattle.markdown_block_laws.proofs.TableLawsLemmas.{items_in_place}
use Rattle.markdown_block_laws.proofs.laws.list_items_are_in_lists.Goals as goal

pub returns : goal.returns
returns c = items_in_place
