use Rattle.std.proofs.Common.{ℕ, Bool, ◌==◌, drop, length, nat_lt, take}
use Rattle.std.specs.List.{position_or_len}
use Rattle.markdown_scan.specs.ScanLaws.{is_no_pipe}
use Rattle.markdown_scan.proofs.ScanLawsLemmas.{before_first, if_found}
use Rattle.markdown_scan.proofs.laws.wikilink_name_holds_no_pipe.Goals as goal

pub returns : goal.returns
returns c =
    let body = take c.args.size (drop c.args.start c.args.text.now) in
    let n = position_or_len is_pipe body in
    if_found (nat_lt n (length body)) c.args.start n body is_no_pipe (before_first is_pipe body)
  where
    is_pipe : ℕ → Bool
    is_pipe b = b == 124
