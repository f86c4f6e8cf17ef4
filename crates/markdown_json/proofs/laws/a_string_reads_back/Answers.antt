-- By what each byte is written as.
use Rattle.markdown_json.proofs.JsonLawsLemmas.{reads_back}
use Rattle.markdown_json.proofs.laws.a_string_reads_back.Goals as goal

pub returns : goal.returns
returns c = reads_back
