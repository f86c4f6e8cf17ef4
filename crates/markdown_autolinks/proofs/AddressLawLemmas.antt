-- Addresses have no white space and no `<`.
use Rattle.std.proofs.Common.{◌≡◌, ◌≤◌, ℕ, zero, suc, List, length, arith, refl, Option, Some, None}
use Rattle.std.specs.List.{AllByRecursion}
use Rattle.markdown_autolinks.specs.Addresses.{addresses_after, and_later, first_address}
use Rattle.markdown_autolinks.specs.LinkRangeLaws.{AddressesAreUnbroken, FirstAddressIsUnbroken, IsUnbroken}
use Rattle.markdown_autolinks.specs.declared.address.Address.{Address}
use Rattle.markdown_autolinks.proofs.FoundLemmas.{LiesIn, first_lies}

lies_unbroken : {text : List ℕ} {used : ℕ} {a : Address} → LiesIn text used a → IsUnbroken text a
lies_unbroken {text} {used} {a} l =
    record { some = omega (arith, l.name_after, l.some); inside = l.inside; goes_on = l.goes_on }

pub first_unbroken : FirstAddressIsUnbroken
first_unbroken text used a inside found = lies_unbroken (first_lies text used a inside found)

after_unbroken : (text : List ℕ) (used n : ℕ) → used ≤ length text
    → AllByRecursion (IsUnbroken text) (addresses_after text used n)
after_unbroken text used zero inside = tt
after_unbroken text used (suc n) inside = by (first_address text used) refl (λ end. after_unbroken text end n)
  where
    by : (o : Option Address) → first_address text used ≡ o
        → ((end : ℕ) → end ≤ length text → AllByRecursion (IsUnbroken text) (addresses_after text end n))
        → AllByRecursion (IsUnbroken text) (and_later o (λ end. addresses_after text end n))
    by None e later = tt
    by (Some a) e later =
        let l = first_lies text used a inside e in (lies_unbroken l, later a.end l.inside)

pub all_unbroken : AddressesAreUnbroken
all_unbroken text = after_unbroken text 0 (length text) (omega arith)
