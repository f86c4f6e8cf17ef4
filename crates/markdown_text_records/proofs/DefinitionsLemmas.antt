-- Definitions are written one after another, as an iterator returns them.
use Rattle.std.proofs.Common.{◌≡◌, ◌∙◌, ◌++◌, ◌∷◌, ℕ, List, [], map, refl, sym, ap, subst, Ok, Err, Result}
use Rattle.std.specs.Prelude.{⊤}
use Rattle.std.specs.List.{flat_map}
use Rattle.markdown_base.specs.declared.block_parts.LinkDef.{LinkDef}
use Rattle.markdown_defs.specs.Definitions.{Labelled}
use Rattle.markdown_defs.specs.DefinitionsLeft.{definitions_left, with_text}
use Rattle.markdown_defs.specs.declared.definitions.RefDefsIter.{RefDefsIter}
use Rattle.markdown_records.specs.Drafts.{DraftView, definition_drafts}
use Rattle.markdown_records.specs.RecordsOf.{Writes}
use Rattle.markdown_records.specs.declared.encode.Records.{Records}
use Rattle.markdown_records.specs.declared.fault.RecordFault.{RecordFault}
use Rattle.markdown_records.proofs.WritesLemmas.{refused_first, writes_then}
use Rattle.std.proofs.lemmas.List.{map-append}
use Rattle.std.proofs.lemmas.Simd.{map-map}
use Rattle.std.proofs.lemmas.List.Concat.{flat_map-append}
use Rattle.std.proofs.Common.{append-nil, append_assoc}
use Rattle.std.specs.Result.{IsErrAnd}
use Rattle.markdown_text_records.specs.DefinitionsView.{labelled_view, worded_view}

-- the first definitions are written, and these are left
pub record IsWritten (old : Records) (definitions : List Labelled) (it : RefDefsIter) (new : Records) : Type 0 where
  pub first : List (List ℕ × LinkDef)
  pub left : first ++ definitions_left it ≡ map with_text definitions
  pub writes : Writes {A = ⊤} old (flat_map definition_drafts (map worded_view first)) (Ok tt) new

abbrev drafts : List (List ℕ × LinkDef) → List DraftView
drafts ds = flat_map definition_drafts (map worded_view ds)

drafts_of_both : (ds es : List (List ℕ × LinkDef)) → drafts (ds ++ es) ≡ drafts ds ++ drafts es
drafts_of_both ds es =
    ap (flat_map definition_drafts) (map-append worded_view ds es)
    ∙ flat_map-append definition_drafts (map worded_view ds) (map worded_view es)

drafts_of_one : (d : List ℕ × LinkDef) → drafts (d ∷ []) ≡ definition_drafts (worded_view d)
drafts_of_one d = append-nil (definition_drafts (worded_view d))

labelled_drafts : (ds : List Labelled)
    → drafts (map with_text ds) ≡ flat_map definition_drafts (map labelled_view ds)
labelled_drafts ds = ap (flat_map definition_drafts) (map-map worded_view with_text ds)

-- all are written
pub written_all : {old new : Records} {definitions : List Labelled} {it : RefDefsIter} → definitions_left it ≡ []
    → IsWritten old definitions it new
    → Writes {A = ⊤} old (flat_map definition_drafts (map labelled_view definitions)) (Ok tt) new
written_all {old} {new} {definitions} none p =
    subst (λ ds. Writes {A = ⊤} old ds (Ok tt) new)
    (ap drafts (sym (append-nil p.first) ∙ ap (λ ds. p.first ++ ds) (sym none) ∙ p.left) ∙ labelled_drafts definitions)
    p.writes

-- the next one is written
pub written_more : {old middle new : Records} {definitions : List Labelled} {it next : RefDefsIter}
    (d : List ℕ × LinkDef) → definitions_left it ≡ d ∷ definitions_left next
    → IsWritten old definitions it middle → Writes {A = ⊤} middle (definition_drafts (worded_view d)) (Ok tt) new
    → IsWritten old definitions next new
written_more {old} {new} {next} d left p w = record {
  first = p.first ++ d ∷ [];
  left = append_assoc p.first (d ∷ []) (definitions_left next) ∙ ap (λ ds. p.first ++ ds) (sym left) ∙ p.left;
  writes = subst (λ ds. Writes {A = ⊤} old ds (Ok tt) new)
      (ap (λ es. drafts p.first ++ es) (sym (drafts_of_one d)) ∙ sym (drafts_of_both p.first (d ∷ [])))
      (writes_then (Ok tt) p.writes w);
}

-- the next one is refused
pub written_refused : {old middle new : Records} {definitions : List Labelled} {it : RefDefsIter}
    {fault : RecordFault} {result : Result ⊤ RecordFault} (next : RefDefsIter) (d : List ℕ × LinkDef)
    → definitions_left it ≡ d ∷ definitions_left next → IsWritten old definitions it middle
    → IsErrAnd result (λ y. y ≡ fault) → Writes {A = ⊤} middle (definition_drafts (worded_view d)) (Err fault) new
    → Writes old (flat_map definition_drafts (map labelled_view definitions)) result new
written_refused {old} {new} {definitions} {fault} {result} next d left p is w =
    let more = drafts (definitions_left next) in
    subst (λ ds. Writes old ds result new)
    (append_assoc (drafts p.first) (definition_drafts (worded_view d)) more
    ∙ sym (drafts_of_both p.first (d ∷ definitions_left next)) ∙ ap (λ ds. drafts (p.first ++ ds)) (sym left)
    ∙ ap drafts p.left ∙ labelled_drafts definitions)
    (refused_first more is (writes_then {B = ⊤} (Err fault) p.writes w))
