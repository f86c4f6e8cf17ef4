-- How the counts of work rise along a walk.
use Rattle.std.proofs.Common.{◌≡◌, ℕ, zero, suc, ◌*◌, ◌≤◌, refl, arith, inl, inr, ⊎_elim}
use Rattle.markdown_document.specs.declared.work.Work.{Work}
use Rattle.markdown_document.specs.Counts.{ChainCounts, no_counts, risen, RisesAtMost, WorkRises}
use Rattle.markdown_document.specs.Counts.{comparisons_per_delimiter}
use Rattle.markdown_resolver.specs.ChainCounts.{IsAllOrNothing, RisesInPart}

-- a count stayed as it was
stays : (count : ℕ) → RisesAtMost 0 count count
stays count = record { more = 0; within = omega arith; counted = refl }

-- nothing was done
pub rises-none : (n : ChainCounts) (old new : Work) → n ≡ no_counts → new ≡ old → WorkRises n old new
rises-none n old new z e =
    rw (z, e) (record {
      items = refl;
      delimiters = refl;
      examined = stays old.examined;
      found = omega arith;
      code_visits = stays old.code_visits;
      math_visits = stays old.math_visits;
    })

-- nothing was done of a chain
pub part-none : (all : ChainCounts) (old new : Work) → new ≡ old → RisesInPart all old new
part-none all old new e = record {
  part = no_counts;
  items = inl refl;
  delimiters = inl refl;
  rises = rises-none no_counts old new refl e;
}

-- a count that rises by nothing stays as it was
risen_none : (n old new : ℕ) → n ≤ 0 → new ≡ risen n old → new ≡ old
risen_none zero old new z e = e
risen_none (suc n) old new z e = absurd (omega (arith, z))

at_most_none : (most old new : ℕ) → most ≤ 0 → RisesAtMost most old new → new ≡ old
at_most_none most old new z r = risen_none r.more old new (omega (arith, z, r.within)) r.counted

-- a part is no more than all
pub part_most : (all part : ℕ) → IsAllOrNothing all part → part ≤ all
part_most all part h = ⊎_elim (λ (e : part ≡ 0). omega (arith, e)) (λ (e : part ≡ all). omega (arith, e)) h

-- a part of no chain is nothing
part_stays : (old new : Work) → RisesInPart no_counts old new → new ≡ old
part_stays old new r =
    let part = r.part in
    let rises = r.rises in
    let no_items : part.items ≤ 0 = part_most 0 part.items r.items in
    let no_delimiters : part.delimiters ≤ 0 = part_most 0 part.delimiters r.delimiters in
    let items = risen_none part.items old.items new.items no_items rises.items in
    let delimiters = risen_none part.delimiters old.delimiters new.delimiters no_delimiters rises.delimiters in
    let none : comparisons_per_delimiter * part.delimiters ≤ 0 = omega (arith, no_delimiters) in
    let examined = at_most_none (comparisons_per_delimiter * part.delimiters) old.examined new.examined none
    rises.examined in
    let code = at_most_none part.items old.code_visits new.code_visits no_items rises.code_visits in
    let math = at_most_none part.items old.math_visits new.math_visits no_items rises.math_visits in
    let work : ℕ → ℕ → ℕ → ℕ → ℕ → Work = λ i d e c m.
    record { delimiters = d; examined = e; items = i; code_visits = c; math_visits = m } in
    let same : work new.items new.delimiters new.examined new.code_visits new.math_visits
    ≡ work old.items old.delimiters old.examined old.code_visits old.math_visits = rw
    (items, delimiters, examined, code, math) refl in
    same

-- a chain was resolved, and nothing after it
pub part-chain : (n : ChainCounts) (old mid new : Work) → WorkRises n old mid → RisesInPart no_counts mid new
    → RisesInPart n old new
part-chain n old mid new a b = record {
  part = n;
  items = inr refl;
  delimiters = inr refl;
  rises = rw (part_stays mid new b) a;
}

pub rises-chain : (n : ChainCounts) (old mid new : Work) → WorkRises n old mid → WorkRises no_counts mid new
    → WorkRises n old new
rises-chain n old mid new a b =
    rw (part_stays mid new (record { part = no_counts; items = inl refl; delimiters = inl refl; rises = b })) a
