-- By what the bytes of a sheet are read as.
use Rattle.markdown_records.proofs.ReadsBackLemmas.{contents_read_back}
use Rattle.markdown_records.proofs.laws.records_read_back.Goals as goal

pub returns : goal.returns
returns c = contents_read_back
