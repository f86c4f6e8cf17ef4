-- Bytes that are examined together: a scan goes past those that pass no test.
use Rattle.std.proofs.Common.{◌≡◌, ℕ, ◌+◌, ◌-◌, ◌≤◌, ◌<◌, List, Bool, true, false, length, slice_range, arith}
use Rattle.std.proofs.Common.{refl, sym, nat_le}
use Rattle.std.proofs.lemmas.Bool.Decides.{nat_tests}
use Rattle.std.specs.Prelude.{◌==◌, ◌||◌}
use Rattle.std.specs.List.{list_any}
use Rattle.markdown_base.proofs.ByteListLemmas.{list_any-either, none_further}
use Rattle.markdown_scan.specs.AsciiKinds.{is_control_or_space}
use Rattle.markdown_scan.specs.Together.{may_matter, IsPast}

-- nothing is passed yet
pub past_none : (test : ℕ → Bool) (bytes : List ℕ) → IsPast test bytes 0
past_none test bytes = record { within = omega arith; none = λ at h. absurd (omega (arith, h)) }

-- past some bytes more
pub past_further : (test : ℕ → Bool) (bytes : List ℕ) (start stop : ℕ) → start ≤ stop → stop ≤ length bytes
    → IsPast test bytes start → false ≡ list_any test (slice_range bytes start stop) → IsPast test bytes stop
past_further test bytes start stop order within before none = record {
  within = within;
  none = λ at h.
      none_further test bytes 0 start stop order within (λ p low high. before.none p high) (sym none) at (omega arith)
      h;
}

-- past the last bytes, which include all that are left
pub past_all : (test : ℕ → Bool) (bytes : List ℕ) (start few : ℕ) → few ≤ length bytes → length bytes < start + few
    → IsPast test bytes start
    → false ≡ list_any test (slice_range bytes (length bytes - few) (length bytes))
    → IsPast test bytes (length bytes)
past_all test bytes start few room near before none =
    past_further test bytes (length bytes - few) (length bytes) (omega arith) (omega arith)
    (record { within = omega arith; none = λ at h. before.none at (omega (arith, h, near)) }) none

is_control_or_space-by : (byte : ℕ) → is_control_or_space byte ≡ (nat_le byte 32 || (byte == 127))
is_control_or_space-by byte = grind (arith, nat_tests)

-- one of four is one of the first or of the others
by_two : (a b c d : Bool) → (a || (b || (c || d))) ≡ (a || ((b || c) || d))
by_two true b c d = refl
by_two false true c d = refl
by_two false false c d = refl

-- bytes that hold one which may matter hold a control character or a space, a parenthesis, or a backslash
pub matters_by_kind : (bytes : List ℕ)
    → ((list_any (λ byte. nat_le byte 32) bytes || list_any (λ byte. byte == 127) bytes)
    || (list_any (λ byte. (byte == 40) || (byte == 41)) bytes || list_any (λ byte. byte == 92) bytes))
    ≡ list_any may_matter bytes
matters_by_kind bytes =
    rw (list_any-either (λ byte. nat_le byte 32) (λ byte. byte == 127) is_control_or_space is_control_or_space-by bytes)
    rw (list_any-either (λ byte. (byte == 40) || (byte == 41)) (λ byte. byte == 92)
    (λ byte. ((byte == 40) || (byte == 41)) || (byte == 92)) (λ byte. refl) bytes)
    (list_any-either _ _ may_matter
    (λ byte. by_two (is_control_or_space byte) (byte == 40) (byte == 41) (byte == 92)) bytes)
