-- The places of addresses: one step of each search, and where it stops.
use Rattle.std.proofs.Common.{◌≡◌, ◌≢◌, ◌<◌, ◌≤◌, ◌+◌, ◌-◌, ◌∙◌, ℕ, zero, suc, Bool, true, false, List, refl}
use Rattle.std.proofs.Common.{arith, Option, Some, None}
use Rattle.std.specs.Prelude.{is_some, ◌==◌, if◌then◌else◌}
use Rattle.std.proofs.lemmas.Bool.Decides.{nat_tests}
use Rattle.markdown_base.specs.Bytes.{full_stop, underscore}
use Rattle.markdown_autolinks.specs.AddressBytes.{byte_at, count_of, first_failing, has_late_underscore, passing_from}
use Rattle.markdown_autolinks.specs.AddressBytes.{with_fewer}
use Rattle.markdown_autolinks.specs.Addresses.{address_found_at, first_address_from, or_later}
use Rattle.markdown_autolinks.specs.declared.address.Address.{Address}

-- a place that passes is gone over
pub goes_further : (passes : ℕ → Bool) (at most : ℕ) → at < most → passes at ≡ true
    → first_failing passes at (most - at) ≡ first_failing passes (at + 1) (most - (at + 1))
goes_further passes at most inside passed =
    let more : most - at ≡ suc (most - (at + 1)) = omega (arith, inside) in rw (more, passed) refl

-- a place that does not pass is the first
pub stops_here : (passes : ℕ → Bool) (at most : ℕ) → at < most → passes at ≡ false
    → first_failing passes at (most - at) ≡ at
stops_here passes at most inside failed =
    let more : most - at ≡ suc (most - (at + 1)) = omega (arith, inside) in rw (more, failed) refl

-- no place is left
pub stops_at_end : (passes : ℕ → Bool) (at most : ℕ) → most ≤ at → first_failing passes at (most - at) ≡ at
stops_at_end passes at most over = let none : most - at ≡ 0 = omega (arith, over) in rw none refl

-- a place before that passes is gone over
pub goes_back : (passes : ℕ → Bool) (least at : ℕ) → least < at → passes (at - 1) ≡ true
    → passing_from passes at (at - least) ≡ passing_from passes (at - 1) (at - 1 - least)
goes_back passes least at inside passed =
    let more : at - least ≡ suc (at - 1 - least) = omega (arith, inside) in rw (more, passed) refl

-- a place before that does not pass ends the search
pub back_stops_here : (passes : ℕ → Bool) (least at : ℕ) → least < at → passes (at - 1) ≡ false
    → passing_from passes at (at - least) ≡ at
back_stops_here passes least at inside failed =
    let more : at - least ≡ suc (at - 1 - least) = omega (arith, inside) in rw (more, failed) refl

-- no place before is left
pub back_stops_at_end : (passes : ℕ → Bool) (least at : ℕ) → at ≤ least → passing_from passes at (at - least) ≡ at
back_stops_at_end passes least at over = let none : at - least ≡ 0 = omega (arith, over) in rw none refl

-- one more byte is counted
pub counts_next : (text : List ℕ) (byte start at : ℕ) → start ≤ at
    → count_of text byte start (at + 1 - start)
    ≡ (if byte_at text at == byte then 1 else 0) + count_of text byte start (at - start)
counts_next text byte start at after =
    let more : at + 1 - start ≡ suc (at - start) = omega (arith, after) in
    let here : start + (at - start) ≡ at = omega (arith, after) in rw (more, here) refl

-- no more bytes are counted than there are
pub count_is_few : (text : List ℕ) (byte start n : ℕ) → count_of text byte start n ≤ n
count_is_few text byte start zero = omega arith
count_is_few text byte start (suc n) =
    cases (byte_at text (start + n) == byte) (count_is_few text byte start n)
  where
    cases : (b : Bool) → count_of text byte start n ≤ n → (if b then 1 else 0) + count_of text byte start n ≤ suc n
    cases true few = omega (arith, few)
    cases false few = omega (arith, few)

-- the byte before a place decides, or those before it do
pub late_next : (text : List ℕ) (at more left : ℕ) → at < left
    → has_late_underscore text at more (left - at)
    ≡ (if byte_at text (left - 1) == underscore then true
    else if byte_at text (left - 1) == full_stop
    then with_fewer more (λ fewer. has_late_underscore text at fewer (left - 1 - at))
    else has_late_underscore text at more (left - 1 - at))
late_next text at more left inside =
    let one : left - at ≡ suc (left - 1 - at) = omega (arith, inside) in
    let here : at + (left - 1 - at) ≡ left - 1 = omega (arith, inside) in rw (one, here) refl

-- no byte is left
pub late_ends : (text : List ℕ) (at more left : ℕ) → left ≤ at → has_late_underscore text at more (left - at) ≡ false
late_ends text at more left over = let none : left - at ≡ 0 = omega (arith, over) in rw none refl

-- an address that is found at a place is the first
pub found_here : (text : List ℕ) (used at most : ℕ) → at < most → is_some (address_found_at text used at) ≡ true
    → first_address_from text used at (most - at) ≡ address_found_at text used at
found_here text used at most inside some =
    let more : most - at ≡ suc (most - (at + 1)) = omega (arith, inside) in
    rw more (first (address_found_at text used at) some)
  where
    first : (o : Option Address) → is_some o ≡ true
        → or_later o (first_address_from text used (at + 1) (most - (at + 1))) ≡ o
    first (Some a) some = refl
    first None some = cc

-- where none is found at a place, the first is found later
pub found_later : (text : List ℕ) (used at most : ℕ) → at < most → is_some (address_found_at text used at) ≡ false
    → first_address_from text used at (most - at) ≡ first_address_from text used (at + 1) (most - (at + 1))
found_later text used at most inside none =
    let more : most - at ≡ suc (most - (at + 1)) = omega (arith, inside) in
    rw more (later (address_found_at text used at) none)
  where
    later : (o : Option Address) → is_some o ≡ false
        → or_later o (first_address_from text used (at + 1) (most - (at + 1)))
        ≡ first_address_from text used (at + 1) (most - (at + 1))
    later None none = refl
    later (Some a) none = cc

-- where no place is left, none is found
pub found_nowhere : (text : List ℕ) (used at most : ℕ) → most ≤ at → first_address_from text used at (most - at) ≡ None
found_nowhere text used at most over = let none : most - at ≡ 0 = omega (arith, over) in rw none refl

-- a byte that is neither leaves it to those before it
pub late_on : (text : List ℕ) (at more left byte : ℕ) → at < left
    → byte ≡ byte_at text (left - 1) → byte ≢ 95 → byte ≢ 46
    → has_late_underscore text at more (left - at) ≡ has_late_underscore text at more (left - 1 - at)
late_on text at more left byte inside is first second =
    let one : (byte_at text (left - 1) == underscore) ≡ false = grind (arith, nat_tests) in
    let two : (byte_at text (left - 1) == full_stop) ≡ false = grind (arith, nat_tests) in
    late_next text at more left inside ∙ rw (one, two) refl

-- a place before the first that fails passes
pub before_failing : (passes : ℕ → Bool) (at n i : ℕ) → at ≤ i → i < first_failing passes at n → passes i ≡ true
before_failing passes at zero i low high = absurd (omega (arith, low, high))
before_failing passes at (suc n) i low high = cases (passes at) refl (before_failing passes (at + 1) n i)
  where
    cases : (t : Bool) → passes at ≡ t → (at + 1 ≤ i → i < first_failing passes (at + 1) n → passes i ≡ true)
        → passes i ≡ true
    cases false e later = let there = rw e at high in absurd (omega (arith, low, there))
    cases true e later = here (i == at) refl
      where
        here : (t : Bool) → (i == at) ≡ t → passes i ≡ true
        here true f = let same : i ≡ at = grind (arith, nat_tests) in rw same e
        here false f = let there = rw e at high in later (grind (arith, nat_tests)) there

-- a place from which on all before another pass does so itself
pub from_passing : (passes : ℕ → Bool) (at n i : ℕ) → passing_from passes at n ≤ i → i < at → passes i ≡ true
from_passing passes at zero i low high = absurd (omega (arith, low, high))
from_passing passes at (suc n) i low high = cases (passes (at - 1)) refl (from_passing passes (at - 1) n i)
  where
    cases : (t : Bool) → passes (at - 1) ≡ t
        → (passing_from passes (at - 1) n ≤ i → i < at - 1 → passes i ≡ true) → passes i ≡ true
    cases false e earlier = let there = rw e at low in absurd (omega (arith, there, high))
    cases true e earlier = here (i == at - 1) refl
      where
        here : (t : Bool) → (i == at - 1) ≡ t → passes i ≡ true
        here true f = let same : i ≡ at - 1 = grind (arith, nat_tests) in rw same e
        here false f = let there = rw e at low in earlier there (grind (arith, nat_tests))
