use Rattle.std.proofs.Common.{◌≡◌}
use Rattle.std.proofs.Math.ListN.{drop}
use Rattle.markdown_safe.specs.Comments.{is_all_white_space}
use Rattle.markdown_safe.proofs.raw.is_all_white_space.Given as goal

-- the bytes are white space alone if those that are left are
abbrev pub invariant-loop-byte : goal.invariant-loop-byte
invariant-loop-byte l = is_all_white_space l.bytes ≡ is_all_white_space (drop l.byte-index l.bytes)
