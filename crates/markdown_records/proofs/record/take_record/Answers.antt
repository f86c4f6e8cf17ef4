-- There are too few bytes, or the first record is taken.
use Rattle.markdown_records.proofs.RecordsLemmas.{first_and_others, too_few}
use Rattle.markdown_records.proofs.record.take_record.Goals as goal

pub returns-then-bytes-lt-SIZE : goal.returns-then-bytes-lt-SIZE
returns-then-bytes-lt-SIZE c = too_few c.args.bytes.now c.if-bytes-lt-SIZE.true

pub returns : goal.returns
returns c = record {
  records =
      rw (c.record_in.ensures, c.split_at.ensures.front, c.split_at.ensures.back)
      (first_and_others c.args.bytes.now c.if-bytes-lt-SIZE.false);
  rest = c.split_at.ensures.back;
  size = c.if-bytes-lt-SIZE.false;
}
