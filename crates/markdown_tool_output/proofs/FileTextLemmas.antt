-- A text with a byte order mark at its beginning, and one without; and the number of a line.
use Rattle.std.proofs.Common.{◌≡◌, ◌∙◌, ℕ, ◌+◌, ◌^◌, ◌<◌, ◌≤◌, ◌==◌, List, ◌++◌, Fits, ap, arith, refl, sym, true, w64}
use Rattle.std.proofs.Common.{bytes_eq, count_by, drop, length, take}
use Rattle.std.proofs.lemmas.Bool.{false_from_ne_true}
use Rattle.std.specs.Str.Lossy.{utf8_valid_len}
use Rattle.std.proofs.lemmas.Str.{utf8_valid_len_le}
use Rattle.std.proofs.lemmas.List.{length-take-le, take-append-drop}
use Rattle.std.proofs.lemmas.List.Sums.{count_by-le-length}
use Rattle.std.proofs.lemmas.Slice.Eq.{bytes_eq-Decides}
use Rattle.markdown_base.specs.Bytes.{line_feed}
use Rattle.markdown_tool_output.specs.FileText.{mark, without_mark}

-- what follows the mark
pub marked : (text rest : List ℕ) (n : ℕ) → n ≡ length mark → text ≡ mark ++ drop n text → rest ≡ drop n text
    → rest ≡ without_mark text
marked text rest n is begins left =
    let e : bytes_eq (take (length mark) text) mark ≡ true =
    (bytes_eq-Decides (take (length mark) text) mark).1 (ap (take (length mark)) begins) in
    rw e (left ∙ ap (λ k. drop k text) is)

-- a text that does not begin with it
pub unmarked : (text : List ℕ) → ((rest : List ℕ) → text ≡ mark ++ rest → ⊥) → text ≡ without_mark text
unmarked text lacks =
    let front : List ℕ = take (length mark) text in
    let e = false_from_ne_true (bytes_eq front mark) (λ (same : bytes_eq front mark ≡ true).
    lacks (drop (length mark) text) (sym (take-append-drop (length mark) text)
    ∙ ap (λ f. f ++ drop (length mark) text) ((bytes_eq-Decides front mark).0 same))) in
    rw e refl

-- the number of a line fits, since there are no more line feeds than bytes
pub line_fits : (bytes : List ℕ) (at line : ℕ) → line ≡ count_by (λ b. b == line_feed) (take at bytes) + 1
    → at ≤ length bytes → length bytes < 2 ^ 63 → Fits w64 (line + 1)
line_fits bytes at line is within short =
    omega (arith, count_by-le-length (λ b. b == line_feed) (take at bytes), length-take-le at bytes within)

-- the whole characters at the beginning of bytes are no more than the bytes
pub valid_within : (bytes given : List ℕ) (offset : ℕ) → offset ≡ utf8_valid_len bytes → given ≡ bytes
    → offset ≤ length given
valid_within bytes given offset is same = rw (is, same) (utf8_valid_len_le bytes)
