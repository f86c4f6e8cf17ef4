-- What is read of records, and why nothing is.
use Rattle.std.specs.Prelude.{◌≡◌, ◌⊎◌, ℕ, List, Option, None, Some, is_some, true, Result, MatchResult}
use Rattle.std.specs.Option.{option_map}
use Rattle.std.specs.Borrow.{Bor}
use Rattle.markdown_base.specs.declared.fault.Fault.TheVariants.{Memory}
use Rattle.markdown_records.specs.declared.fault.RecordFault.{RecordFault}
use Rattle.markdown_records.specs.declared.fault.RecordFault.TheVariants.{NotRecords, Of}

-- the bytes of a text
abbrev pub words : Bor (List ℕ) → List ℕ
words text = text.now

-- a value is what is defined, by its view, if there is one
abbrev pub Finds : {A B : Type 0} → (A → B) → (defined : Option B) → Option A → Type 0
Finds view defined found = option_map view found ≡ defined

-- nothing is read for this reason: an allocation failed, or there is none
abbrev pub IsNotRead : {B : Type 0} → (defined : Option B) → RecordFault → Type 0
IsNotRead defined fault = ((fault ≡ NotRecords) × (defined ≡ None)) ⊎ (fault ≡ Of Memory)

-- a value is what is defined, by its view, or nothing is read
abbrev pub Reads : {A B : Type 0} → (A → B) → (defined : Option B) → Result A RecordFault → Type 0
Reads view defined result = MatchResult result (λ a. defined ≡ Some (view a)) (λ fault. IsNotRead defined fault)

-- a value has become what is defined, by its view, or nothing more is read
abbrev pub Makes : {A B C : Type 0} → (A → B) → (defined : Option B) → Result C RecordFault → (new : A) → Type 0
Makes view defined result new = MatchResult result (λ _. defined ≡ Some (view new)) (λ fault. IsNotRead defined fault)

-- there is what is defined, or nothing is read
abbrev pub CanBeRead : {B C : Type 0} → (defined : Option B) → Result C RecordFault → Type 0
CanBeRead defined result = MatchResult result (λ _. is_some defined ≡ true) (λ fault. IsNotRead defined fault)
