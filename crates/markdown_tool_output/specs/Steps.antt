-- What a run does to files: which are read, with their bytes, and what it tries to write.
use Rattle.std.specs.Prelude.{◌≡◌, ℕ, Bool, true, false, List, [], ◌∷◌, ◌++◌, Option, map, option_map}
use Rattle.std.specs.List.{list_all}
use Rattle.markdown_tool_output.specs.FileText.{file_text}

-- a file is read, with its bytes, or is to be written, with these
pub data FileStep : Type 0 where
  reads : (name bytes : List ℕ) → FileStep
  writes : (name bytes : List ℕ) → FileStep

abbrev pub is_read_step : FileStep → Bool
is_read_step (reads name bytes) = true
is_read_step (writes name bytes) = false

-- these steps were taken more, where it is known which were
abbrev pub Takes : (old new : Option (List FileStep)) → List FileStep → Type 0
Takes old new steps = new ≡ option_map (λ before. before ++ steps) old

-- files are read, with their bytes
abbrev pub all_read : (names texts : List (List ℕ)) → List FileStep
all_read [] texts = []
all_read (name ∷ names) [] = []
all_read (name ∷ names) (text ∷ texts) = reads name text ∷ all_read names texts

-- a file is read, and this is its text
pub record ReadsFile (lossy : Bool) (old new : Option (List FileStep)) (name text : List ℕ) : Type 0 where
  pub bytes : List ℕ
  pub taken : Takes old new (reads name bytes ∷ [])
  pub is : text ≡ file_text lossy bytes

-- files are read, and these are their texts
pub record ReadsFiles (lossy : Bool) (old new : Option (List FileStep)) (names texts : List (List ℕ)) : Type 0 where
  pub contents : List (List ℕ)
  pub taken : Takes old new (all_read names contents)
  pub are : texts ≡ map (file_text lossy) contents

-- files are read, and nothing is written
pub record ReadsAlone (old new : Option (List FileStep)) : Type 0 where
  pub steps : List FileStep
  pub are_reads : list_all is_read_step steps ≡ true
  pub taken : Takes old new steps
