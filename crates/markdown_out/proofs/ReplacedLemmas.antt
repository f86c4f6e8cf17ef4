-- Bytes that are looked at together, none of which an escape replaces, wait to be copied.
use Rattle.std.proofs.Common.{◌≡◌, ℕ, zero, suc, ◌+◌, ◌-◌, ◌<◌, ◌≤◌, List, [], ◌∷◌, Bool, true, false, length, get_or}
use Rattle.std.proofs.Common.{refl, sym, arith, rules, slice_range, slice_index, ⊎_elim}
use Rattle.std.proofs.lemmas.Bool.{cases_lt}
use Rattle.std.specs.Prelude.{◌==◌, ◌||◌}
use Rattle.std.specs.List.{list_any}
use Rattle.markdown_base.proofs.ByteListLemmas.{list_any-either, none_further}
use Rattle.markdown_out.specs.Escaped.{escaped_byte, may_be_replaced, IsBeforeReplaced}
use Rattle.markdown_out.specs.declared.escape.Escape.{Escape}
use Rattle.markdown_out.specs.declared.escape.Escape.TheVariants as escape
use Rattle.markdown_out.proofs.EscapesLemmas.{Copied, Copied-keep}

-- one of four is one of the middle two, or of the outer two
by_two : (a b c d : Bool) → (a || (b || (c || d))) ≡ ((b || c) || (a || d))
by_two true true c d = refl
by_two true false true d = refl
by_two true false false d = refl
by_two false true c d = refl
by_two false false c d = refl

-- a byte that may be replaced is an angle bracket, or an ampersand or quotation mark
pub replaced_of_two : (bytes : List ℕ)
    → (list_any (λ byte. (byte == 60) || (byte == 62)) bytes || list_any (λ byte. (byte == 38) || (byte == 34)) bytes)
    ≡ list_any may_be_replaced bytes
replaced_of_two bytes = list_any-either _ _ may_be_replaced
    (λ byte. by_two (byte == 38) (byte == 60) (byte == 62) (byte == 34)) bytes

-- some bytes more are not replaced
pub kept_further : (bytes : List ℕ) (from start stop : ℕ) → start ≤ stop → stop ≤ length bytes
    → ((p : ℕ) → from ≤ p → p < start → may_be_replaced (slice_index bytes p) ≡ false)
    → false ≡ list_any may_be_replaced (slice_range bytes start stop)
    → (p : ℕ) → from ≤ p → p < stop → may_be_replaced (slice_index bytes p) ≡ false
kept_further bytes from start stop order le before none =
    none_further may_be_replaced bytes from start stop order le before (sym none)

-- up to a place, and from there on
pub before_both : (bytes : List ℕ) (from mid to : ℕ) → IsBeforeReplaced bytes from mid → IsBeforeReplaced bytes mid to
    → IsBeforeReplaced bytes from to
before_both bytes from mid to first second =
    let low = first.low in
    let high = second.low in
    record {
      low = omega (arith, low, high);
      high = second.high;
      kept = λ p l h. ⊎_elim (λ (b : p < mid). first.kept p l b) (λ (b : mid ≤ p). second.kept p b h) (cases_lt p mid);
    }

-- the bytes left are some of the last ones, none of which is replaced
pub kept_to_end : (bytes : List ℕ) (from start few : ℕ) → IsBeforeReplaced bytes from start → from + few ≤ length bytes
    → length bytes < start + few
    → false ≡ list_any may_be_replaced (slice_range bytes (length bytes - few) (length bytes))
    → IsBeforeReplaced bytes from (length bytes)
kept_to_end bytes from start few before room near none = record {
  low = omega (arith, room);
  high = omega arith;
  kept = kept_further bytes from (length bytes - few) (length bytes) (omega arith) (omega arith)
      (λ p l h. before.kept p l (omega (arith, h, near))) none;
}

-- a byte that no escape replaces is written as it is
pub kept_byte : (escape : Escape) (byte : ℕ) → may_be_replaced byte ≡ false → escaped_byte escape byte ≡ byte ∷ []
kept_byte escape.Text byte h = search rules
kept_byte escape.Attribute byte h = search rules

-- bytes that are written as they are wait
pub copied_further : (f : ℕ → List ℕ) (out old bytes : List ℕ) (from at more : ℕ) → from ≤ at → at + more ≤ length bytes
    → ((p : ℕ) → at ≤ p → p < at + more → f (get_or bytes p 0) ≡ get_or bytes p 0 ∷ [])
    → Copied f out old bytes from at → Copied f out old bytes from (at + more)
copied_further f out old bytes from at zero order within kept copied =
    let n : at + 0 ≡ at = omega arith in rw n copied
copied_further f out old bytes from at (suc more) order within kept copied =
    let before = copied_further f out old bytes from at more order (omega (arith, within))
    (λ p low high. kept p low (omega (arith, high))) copied in
    let one = Copied-keep f out old bytes from (at + more) (omega (arith, order)) (omega (arith, within))
    (kept (at + more) (omega arith) (omega arith)) before in
    let n : (at + more) + 1 ≡ at + suc more = omega arith in
    rw n at one

-- bytes that no escape replaces wait
pub copied_up_to : (escape : Escape) (out old bytes : List ℕ) (from at to : ℕ) → from ≤ at
    → IsBeforeReplaced bytes at to
    → Copied (escaped_byte escape) out old bytes from at → Copied (escaped_byte escape) out old bytes from to
copied_up_to escape out old bytes from at to order before copied =
    let low = before.low in
    let high = before.high in
    let n : at + (to - at) ≡ to = omega (arith, low) in
    let far = copied_further (escaped_byte escape) out old bytes from at (to - at) order (omega (arith, low, high))
    (λ p l h. kept_byte escape (get_or bytes p 0) (before.kept p l (omega (arith, h, low)))) copied in
    rw n at far
