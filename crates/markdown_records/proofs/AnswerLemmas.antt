-- Entries that are answers, and others.
use Rattle.std.proofs.Common.{◌≡◌, ℕ, Bool, true, false, ◌==◌, if◌then◌else◌, List, ◌∷◌, refl, sym, ◌∙◌, Option, None}
use Rattle.std.proofs.Common.{Some, is_some}
use Rattle.std.specs.Option.{option_map}
use Rattle.std.proofs.lemmas.Bool.{ne_eqb}
use Rattle.markdown_base.specs.Event.{EventView}
use Rattle.markdown_base.specs.Questions.{Answer, Question}
use Rattle.markdown_records.specs.AnswersLeft.{begins_with_answer, is_answer}
use Rattle.markdown_records.specs.Decoded.{Group, answer_in, entry_in, event_in, is_sound, question_in, range_of}
use Rattle.markdown_records.specs.RecordEntry as entry
use Rattle.markdown_records.specs.RecordEntry.{RecordEntry}
use Rattle.markdown_records.specs.SaidBy.{list_or_none}

-- there is no entry where there is none
none_some : {A : Type 0} (v : A) → None ≡ Some v → ⊥
none_some v e = cc

if_sound : (sound : Bool) (o : Option RecordEntry) (v : RecordEntry) → (if sound then o else None) ≡ Some v → o ≡ Some v
if_sound true o v e = e
if_sound false o v e = absurd (none_some v e)

same_value : {A : Type 0} (a b : A) → Some a ≡ Some b → a ≡ b
same_value a b e = cc

-- what is read of an answer is an answer
pub answer_first : (source pool : List ℕ) (g : Group) (v : RecordEntry) (a : Option Answer)
    → entry_in source pool g ≡ Some v → g.head.kind ≡ 97 → answer_in source pool g ≡ Some a
    → v ≡ entry.answer_entry (range_of source pool g.head) a
answer_first source pool g v a e kind given = sym (same_value _ _ (sym found ∙ there))
  where
    there : (if g.head.kind == 96 then option_map (λ q. entry.question_entry q) (question_in source pool g)
        else if g.head.kind == 97
        then option_map (λ (o : Option Answer). entry.answer_entry (range_of source pool g.head) o)
        (answer_in source pool g)
        else option_map (λ (x : EventView). entry.event_entry x (range_of source pool g.head)) (event_in source pool g))
        ≡ Some v
    there = if_sound (is_sound g) _ v e

    found : (if g.head.kind == 96 then option_map (λ q. entry.question_entry q) (question_in source pool g)
        else if g.head.kind == 97
        then option_map (λ (o : Option Answer). entry.answer_entry (range_of source pool g.head) o)
        (answer_in source pool g)
        else option_map (λ (x : EventView). entry.event_entry x (range_of source pool g.head)) (event_in source pool g))
        ≡ Some (entry.answer_entry (range_of source pool g.head) a)
    found = rw (kind, given) refl

-- what is read of another record is none
pub no_answer : (source pool : List ℕ) (g : Group) (v : RecordEntry) → entry_in source pool g ≡ Some v
    → (g.head.kind ≡ 97 → ⊥) → is_answer v ≡ false
no_answer source pool g v e kind = by_kind (g.head.kind == 96)
    (rw (ne_eqb g.head.kind 97 kind) at (if_sound (is_sound g) _ v e))
  where
    from_question : (o : Option Question) → option_map (λ q. entry.question_entry q) o ≡ Some v → is_answer v ≡ false
    from_question None is = absurd (none_some v is)
    from_question (Some q) is = rw (← same_value (entry.question_entry q) v is) refl

    from_event : (o : Option EventView)
        → option_map (λ (x : EventView). entry.event_entry x (range_of source pool g.head)) o ≡ Some v
        → is_answer v ≡ false
    from_event None is = absurd (none_some v is)
    from_event (Some x) is = rw (← same_value (entry.event_entry x (range_of source pool g.head)) v is) refl

    by_kind : (question : Bool) → (if question then option_map (λ q. entry.question_entry q) (question_in source pool g)
        else option_map (λ (x : EventView). entry.event_entry x (range_of source pool g.head)) (event_in source pool g))
        ≡ Some v
        → is_answer v ≡ false
    by_kind true is = from_question (question_in source pool g) is
    by_kind false is = from_event (event_in source pool g) is

-- the first entry is this one
pub begins_as : (all others : Option (List RecordEntry)) (v : RecordEntry) → all ≡ option_map (λ vs. v ∷ vs) others
    → is_some others ≡ true → begins_with_answer (list_or_none all) ≡ is_answer v
begins_as all None v is there = absurd (apart there)
  where
    apart : false ≡ true → ⊥
    apart e = cc
begins_as all (Some vs) v is there = rw is refl

pub goes_on : (all others : Option (List RecordEntry)) (v : RecordEntry) → all ≡ option_map (λ vs. v ∷ vs) others
    → is_some others ≡ true → list_or_none all ≡ v ∷ list_or_none others
goes_on all None v is there = absurd (apart there)
  where
    apart : false ≡ true → ⊥
    apart e = cc
goes_on all (Some vs) v is there = rw is refl
