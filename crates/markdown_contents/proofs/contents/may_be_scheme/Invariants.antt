-- What the bytes that are left decide is what all do.
use Rattle.std.proofs.Common.{◌≡◌, drop}
use Rattle.markdown_contents.specs.Contents.{may_be_scheme}
use Rattle.markdown_contents.proofs.contents.may_be_scheme.Given as goal

abbrev pub invariant-bytes : goal.invariant-bytes
invariant-bytes l = may_be_scheme (drop l.byte-index l.bytes) ≡ may_be_scheme l.name
