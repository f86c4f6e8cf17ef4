-- Values that are found or read, and the kinds of events.
use Rattle.std.proofs.Common.{◌≡◌, ◌<◌, ◌≤◌, ◌-◌, ℕ, true, false, nat_lt, List, refl, sym, inl, arith, Option, None}
use Rattle.std.proofs.Common.{Some, Result, ok_or}
use Rattle.std.specs.Option.{option_map}
use Rattle.std.proofs.lemmas.Bool.{le-ltb, lt-ltb, ne_eqb}
use Rattle.markdown_base.specs.Event as event
use Rattle.markdown_records.specs.Decoded.{Group, bare_start_of, event_in, if_bare, leaf_in, list_in, tag_in}
use Rattle.markdown_records.specs.Decoded.{then_option}
use Rattle.markdown_records.specs.NumbersRead.{end_numbered}
use Rattle.markdown_records.specs.ReadOf.{bare_leaf_in}
use Rattle.markdown_records.specs.ReadResult.{Finds, Reads}
use Rattle.markdown_records.specs.declared.fault.RecordFault.{RecordFault}
use Rattle.markdown_records.specs.declared.fault.RecordFault.TheVariants.{NotRecords}

-- what is found is read, and what is not found is none
pub found_reads : {A B : Type 0} (view : A → B) {defined : Option B} (found : Option A) {result : Result A RecordFault}
    → Finds view defined found → result ≡ ok_or found NotRecords → Reads view defined result
found_reads view None finds is = rw is (inl (refl, sym finds))
found_reads view (Some a) finds is = rw is (sym finds)

-- kinds from that of a Text on, below those of Ends, are those of events that are neither a Start nor an End
pub leaf_event : (source pool : List ℕ) (g : Group) → 32 ≤ g.head.kind → g.head.kind < 64
    → event_in source pool g ≡ leaf_in source pool g
leaf_event source pool g low high =
    let start : nat_lt g.head.kind 32 ≡ false =
    le-ltb g.head.kind 32 (omega arith) in
    let end : nat_lt g.head.kind 64 ≡ true = lt-ltb g.head.kind 64 high in
    rw (start, end) refl

-- the kinds after them are those of Ends
pub end_event : (source pool : List ℕ) (g : Group) → 64 ≤ g.head.kind
    → event_in source pool g ≡ if_bare source pool g (option_map (λ e. event.end e)
    (end_numbered (g.head.kind - 64) g.head.detail))
end_event source pool g high =
    let start : nat_lt g.head.kind 32 ≡ false =
    le-ltb g.head.kind 32 (omega arith) in
    let leaf : nat_lt g.head.kind 64 ≡ false =
    le-ltb g.head.kind 64 (omega arith) in
    rw (start, leaf) refl

-- an event without a text
pub bare_leaf : (source pool : List ℕ) (g : Group) → (g.head.kind ≡ 32 → ⊥) → (g.head.kind ≡ 33 → ⊥)
    → (g.head.kind ≡ 34 → ⊥) → (g.head.kind ≡ 35 → ⊥) → (g.head.kind ≡ 36 → ⊥)
    → (g.head.kind ≡ 37 → ⊥) → (g.head.kind ≡ 38 → ⊥)
    → leaf_in source pool g ≡ bare_leaf_in source pool g
bare_leaf source pool g a b c d e f h =
    rw (
      ne_eqb g.head.kind 32 a,
      ne_eqb g.head.kind 33 b,
      ne_eqb g.head.kind 34 c,
      ne_eqb g.head.kind 35 d,
      ne_eqb g.head.kind 36 e,
      ne_eqb g.head.kind 37 f,
      ne_eqb g.head.kind 38 h,
    ) refl

-- the tag of a list, and of a Start that holds no more than its End tells
pub list_tag : (source pool : List ℕ) (g : Group) → g.head.kind ≡ 6 → tag_in source pool g ≡ list_in source pool g
list_tag source pool g is = rw is refl

pub bare_tag : (source pool : List ℕ) (g : Group) → (g.head.kind ≡ 2 → ⊥) → (g.head.kind ≡ 4 → ⊥)
    → (g.head.kind ≡ 6 → ⊥) → (g.head.kind ≡ 8 → ⊥) → (g.head.kind ≡ 12 → ⊥)
    → (g.head.kind ≡ 21 → ⊥) → (g.head.kind ≡ 22 → ⊥)
    → tag_in source pool g
    ≡ if_bare source pool g (then_option (end_numbered g.head.kind g.head.detail) (bare_start_of source pool))
bare_tag source pool g a b c d e f h =
    rw (
      ne_eqb g.head.kind 2 a,
      ne_eqb g.head.kind 4 b,
      ne_eqb g.head.kind 6 c,
      ne_eqb g.head.kind 8 d,
      ne_eqb g.head.kind 12 e,
      ne_eqb g.head.kind 21 f,
      ne_eqb g.head.kind 22 h,
    ) refl
