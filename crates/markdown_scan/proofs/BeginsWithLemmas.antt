-- Bytes that begin with a text, as the scanners test them.
use Rattle.std.proofs.Common.{◌≡◌, ℕ, ◌<◌, ◌≤◌, true, List, ◌++◌, length, get_or, drop, refl}
use Rattle.std.proofs.lemmas.Bool.Decides.{Decides-eqb}
use Rattle.std.proofs.lemmas.Slice.Eq.{starts_is}
use Rattle.std.proofs.lemmas.List.Prefix.{front_fits, front_reads}
use Rattle.markdown_scan.specs.Beginnings.{begins_with}

-- they are the text and what comes after it
pub begins_with-split : (text bytes : List ℕ) → begins_with text bytes ≡ true
    → bytes ≡ text ++ drop (length text) bytes
begins_with-split text bytes e =
    (starts_is Decides-eqb bytes text (begins_with text bytes) refl).0 e

-- there are enough of them
pub begins_with-fits : (text bytes : List ℕ) → begins_with text bytes ≡ true
    → length text ≤ length bytes
begins_with-fits text bytes e =
    front_fits bytes text (drop (length text) bytes) (begins_with-split text bytes e)

-- each is that of the text
pub begins_with-reads : (text bytes : List ℕ) (i : ℕ) → begins_with text bytes ≡ true
    → i < length text → get_or bytes i 0 ≡ get_or text i 0
begins_with-reads text bytes i e h =
    front_reads 0 bytes text (drop (length text) bytes) (begins_with-split text bytes e) i h
