-- Steps taken one after another.
use Rattle.std.proofs.Common.{◌≡◌, ◌∙◌, ℕ, Bool, ◌+◌, ◌<◌, ◌≤◌, List, [], ◌∷◌, ◌++◌, Option, Some, None, option_map}
use Rattle.std.proofs.Common.{true, String, Global, refl, sym, ap, subst, append-nil, append_assoc, drop, get_or}
use Rattle.std.proofs.Common.{length, map, string_bytes}
use Rattle.std.proofs.lemmas.Bool.{false≢true}
use Rattle.std.proofs.lemmas.List.{drop_all, drop_more, map-append}
use Rattle.std.specs.List.{list_all}
use Rattle.markdown_tool_output.specs.FileText.{file_text}
use Rattle.markdown_tool_output.specs.Steps.{FileStep, ReadsAlone, ReadsFile, ReadsFiles, Takes, all_read, is_read_step}
use Rattle.markdown_tool_output.specs.Steps.{reads, writes}

-- no step is taken where nothing changes
pub takes_none : (old : Option (List FileStep)) → Takes old old []
takes_none None = refl
takes_none (Some before) = ap Some (sym (append-nil before))

-- steps, and then more
pub takes_more : (old between new : Option (List FileStep)) (steps more : List FileStep) → Takes old between steps
    → Takes between new more → Takes old new (steps ++ more)
takes_more None between new steps more first second = second ∙ ap (option_map (λ b. b ++ more)) first
takes_more (Some before) between new steps more first second =
    second ∙ ap (option_map (λ b. b ++ more)) first ∙ ap Some (append_assoc before steps more)

-- reads, and then more reads
reads_on : (steps more : List FileStep) → list_all is_read_step steps ≡ true → list_all is_read_step more ≡ true
    → list_all is_read_step (steps ++ more) ≡ true
reads_on [] more first second = second
reads_on (reads name bytes ∷ steps) more first second = reads_on steps more first second
reads_on (writes name bytes ∷ steps) more first second = absurd (false≢true first)

pub reads_more : (old between new : Option (List FileStep)) → ReadsAlone old between → ReadsAlone between new
    → ReadsAlone old new
reads_more old between new first second = record {
  steps = first.steps ++ second.steps;
  are_reads = reads_on first.steps second.steps first.are_reads second.are_reads;
  taken = takes_more old between new first.steps second.steps first.taken second.taken;
}

-- nothing is read
pub reads_none : (old new : Option (List FileStep)) → new ≡ old → ReadsAlone old new
reads_none old new same = record { steps = []; are_reads = refl; taken = same ∙ takes_none old }

-- one file is read
pub reads_one : (old new : Option (List FileStep)) (name bytes : List ℕ) → Takes old new (reads name bytes ∷ [])
    → ReadsAlone old new
reads_one old new name bytes taken = record { steps = reads name bytes ∷ []; are_reads = refl; taken = taken }

-- files are read
are_reads_all : (names texts : List (List ℕ)) → list_all is_read_step (all_read names texts) ≡ true
are_reads_all [] texts = refl
are_reads_all (name ∷ names) [] = refl
are_reads_all (name ∷ names) (text ∷ texts) = are_reads_all names texts

reads_all : (names texts : List (List ℕ)) (old new : Option (List FileStep)) → Takes old new (all_read names texts)
    → ReadsAlone old new
reads_all names texts old new taken =
    record { steps = all_read names texts; are_reads = are_reads_all names texts; taken = taken }

-- the files before this one are read, with these texts: with those of the files that are left, all are
pub record ReadSoFar (lossy : Bool) (names : List (String Global)) (at : ℕ) (texts : List (List ℕ))
    (old new : Option (List FileStep)) : Type 0 where
  pub contents : List (List ℕ)
  pub are : texts ≡ map (file_text lossy) contents
  pub reading : ReadsAlone old new
  pub all : (rest : List (List ℕ)) → all_read (map string_bytes names) (contents ++ rest)
      ≡ reading.steps ++ all_read (map string_bytes (drop at names)) rest

-- none is read
pub read_none : (lossy : Bool) (names : List (String Global)) (old : Option (List FileStep))
    → ReadSoFar lossy names 0 [] old old
unfolding reads_none
read_none lossy names old =
    record { contents = []; are = refl; reading = reads_none old old refl; all = λ rest. refl }

module _ (lossy : Bool) (names : List (String Global)) (at : ℕ) (texts : List (List ℕ))
    (old new : Option (List FileStep)) where
  -- one more is read
  pub read_more : (name : String Global) (text : List ℕ) (new' : Option (List FileStep)) → at < length names
      → name ≡ get_or names at name → ReadsFile lossy new new' (string_bytes name) text
      → ReadSoFar lossy names at texts old new → ReadSoFar lossy names (at + 1) (texts ++ text ∷ []) old new'
  unfolding reads_more reads_one
  read_more name text new' l is one before = record {
    contents = before.contents ++ one.bytes ∷ [];
    are = ap (λ ts. ts ++ text ∷ []) before.are
        ∙ ap (λ t. map (file_text lossy) before.contents ++ t ∷ []) one.is
        ∙ sym (map-append (file_text lossy) before.contents (one.bytes ∷ []));
    reading = reads_more old new new' before.reading (reads_one new new' (string_bytes name) one.bytes one.taken);
    all = λ rest.
        ap (all_read (map string_bytes names)) (append_assoc before.contents (one.bytes ∷ []) rest)
        ∙ before.all (one.bytes ∷ rest)
        ∙ ap (λ (ns : List (String Global)). before.reading.steps ++ all_read (map string_bytes ns) (one.bytes ∷ rest))
        (drop_more names at name l ∙ ap (λ (n : String Global). n ∷ drop (at + 1) names) (sym is))
        ∙ sym (append_assoc before.reading.steps (reads (string_bytes name) one.bytes ∷ [])
        (all_read (map string_bytes (drop (at + 1) names)) rest));
  }

  -- all are read
  pub read_all : length names ≤ at → ReadSoFar lossy names at texts old new
      → ReadsFiles lossy old new (map string_bytes names) texts
  read_all l before = record {
    contents = before.contents;
    taken = subst (Takes old new)
        (sym (ap (all_read (map string_bytes names)) (sym (append-nil before.contents))
        ∙ before.all []
        ∙ ap (λ (ns : List (String Global)). before.reading.steps ++ all_read (map string_bytes ns) [])
        (drop_all at names l)
        ∙ append-nil before.reading.steps)) before.reading.taken;
    are = before.are;
  }

-- a text that was read is read alone
pub file_alone : (lossy : Bool) (old new : Option (List FileStep)) (name text : List ℕ)
    → ReadsFile lossy old new name text → ReadsAlone old new
file_alone lossy old new name text one = reads_one old new name one.bytes one.taken

pub files_alone : (lossy : Bool) (old new : Option (List FileStep)) (names texts : List (List ℕ))
    → ReadsFiles lossy old new names texts → ReadsAlone old new
files_alone lossy old new names texts read = reads_all names read.contents old new read.taken
