-- A reference begins with a backslash or an ampersand.
use Rattle.std.proofs.Common.{refl}
use Rattle.markdown_base.proofs.ByteListLemmas.{list_any-either}
use Rattle.markdown_scan.specs.Together.{may_begin_reference}
use Rattle.markdown_scan.proofs.unescape.may_hold_reference.Goals as goal

pub returns : goal.returns
returns c = rw (c.holds.ensures, c.holds-2.ensures)
    (list_any-either _ _ may_begin_reference (λ byte. refl) c.args.bytes.now)
