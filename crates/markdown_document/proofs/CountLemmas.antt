-- Counts that rise, one time after another.
use Rattle.std.proofs.Common.{◌≡◌, ℕ, zero, suc, ◌+◌, ◌-◌, ◌^◌, ◌≤◌, min, refl, sym, ap, ◌∙◌, arith}
use Rattle.markdown_document.specs.Counts.{RisesAtLeast, RisesAtMost, risen}

-- a count that is at most the maximum rises by nothing, or by something up to the maximum
pub risen_is : (n count : ℕ) → count ≤ 2 ^ 128 - 1 → min (count + n) (2 ^ 128 - 1) ≡ risen n count
risen_is zero count l = stays (2 ^ 128 - 1) l
  where
    stays : (most : ℕ) → count ≤ most → min (count + 0) most ≡ count
    stays most l = omega arith
risen_is (suc n) count l = refl

-- a count that has risen by so much has risen by at least that, and by at least less
pub risen_at_least : (n least count : ℕ) → least ≤ n → RisesAtLeast least count (risen n count)
risen_at_least zero least count l = let none : least ≡ 0 = omega (arith, l) in rw none (omega arith)
risen_at_least (suc n) least count l = omega (arith, l)

pub rises_at_none : (most old new : ℕ) → RisesAtMost most old new → RisesAtLeast 0 old new
rises_at_none most old new r = rw r.counted (risen_at_least r.more 0 old (omega arith))

-- a count that has risen twice has risen by the sum
pub risen_twice : (m n v : ℕ) → risen n (risen m v) ≡ risen (m + n) v
risen_twice zero n v = let same : n ≡ 0 + n = omega arith in ap (λ k. risen k v) same
risen_twice (suc m) zero v = let same : suc m ≡ suc m + 0 = omega arith in ap (λ k. risen k v) same
risen_twice (suc m) (suc n) v =
    let same : suc (suc m + n) ≡ suc m + suc n = omega arith in
    twice v (suc m) (suc n) (suc (suc m + n)) (2 ^ 128 - 1) (sym same) ∙ ap (λ k. risen k v) same
  where
    twice : (v m n k most : ℕ) → m + n ≡ k → min (min (v + m) most + n) most ≡ min (v + k) most
    twice v m n k most e = omega arith

-- a count that has risen by so much has risen by at most that, and by at most more
pub rises_by_most : (n most v v' : ℕ) → v' ≡ risen n v → n ≤ most → RisesAtMost most v v'
rises_by_most n most v v' e le = record { more = n; within = le; counted = e }

pub rises_at_more : (most most' v v' : ℕ) → RisesAtMost most v v' → most ≤ most' → RisesAtMost most' v v'
rises_at_more most most' v v' r le = record { more = r.more; within = omega (arith, r.within, le); counted = r.counted }

-- one that has risen twice by at most so much has risen by at most the sum
pub rises_at_most_twice : (m n v v1 v' : ℕ) → RisesAtMost m v v1 → RisesAtMost n v1 v' → RisesAtMost (m + n) v v'
rises_at_most_twice m n v v1 v' p q = record {
  more = p.more + q.more;
  within = omega (arith, p.within, q.within);
  counted = rw (q.counted, p.counted) (risen_twice p.more q.more v);
}
