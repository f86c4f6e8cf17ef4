use Rattle.markdown_safe.proofs.PagePartsLemmas.{is_part_by_tests, page_part_passes}
use Rattle.markdown_safe.proofs.laws.page_parts_pass_each_test.Goals as goal

pub returns : goal.returns
returns c = λ events. (page_part_passes events, is_part_by_tests events)
