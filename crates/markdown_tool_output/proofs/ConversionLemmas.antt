-- All files of a request are read, and then its output is to be written; and the exit status.
use Rattle.std.proofs.Common.{◌≡◌, ◌⊎◌, ℕ, List, [], ◌∷◌, Option, Result, Ok, Err, OnOk, OnErr, String, Global, map}
use Rattle.std.proofs.Common.{inl, inr, length, string_bytes, subst}
use Rattle.markdown_tool_command.specs.declared.request.Request.{Request}
use Rattle.markdown_tool_output.specs.Conversion.{Converts, EndsConversion, IsWithin, exit_status, file_texts}
use Rattle.markdown_tool_output.specs.Outputs.{output_of}
use Rattle.markdown_tool_output.specs.Steps.{FileStep, ReadsAlone, ReadsFiles, Takes, all_read, writes}
use Rattle.markdown_tool_output.proofs.StepsLemmas.{takes_more}

module _ (request : Request) (old between new : Option (List FileStep)) where
  converts : (texts : List (List ℕ))
      → ReadsFiles request.lossy old between (map string_bytes request.inputs.items) texts
      → IsWithin request.limit (length (output_of request texts))
      → Takes between new (writes (string_bytes request.output) (output_of request texts) ∷ [])
      → Converts request old new
  converts texts read within written = record {
    contents = read.contents;
    within = subst (λ (ts : List (List ℕ)). IsWithin request.limit (length (output_of request ts))) read.are within;
    steps = takes_more old between new (all_read (map string_bytes request.inputs.items) read.contents)
        (writes (string_bytes request.output) (output_of request (file_texts request read.contents)) ∷ []) read.taken
        (subst (λ (ts : List (List ℕ)). Takes between new (writes (string_bytes request.output) (output_of request ts)
        ∷ [])) read.are written);
  }

  -- of names, texts and an output that are passed by reference
  pub converts_by : (names texts given : List (String Global)) (output name text : List ℕ)
      → names ≡ request.inputs.items → given ≡ texts → name ≡ string_bytes request.output → text ≡ output
      → output ≡ output_of request (map string_bytes given)
      → ReadsFiles request.lossy old between (map string_bytes names) (map string_bytes texts)
      → IsWithin request.limit (length output) → Takes between new (writes name text ∷ []) → Converts request old new
  converts_by names texts given output name text are same named is of_texts read within written =
      converts (map string_bytes texts) (rw are at read) (rw (rw same at of_texts) at within)
      (rw (named, is, rw same at of_texts) at written)

-- the exit status of an outcome
pub ends : {A E : Type 0} (request : Request) (outcome : Result A E) (status : ℕ) (old new : Option (List FileStep))
    → status ≡ exit_status outcome → OnOk outcome (Converts request old new)
    → OnErr outcome (Converts request old new ⊎ ReadsAlone old new) → EndsConversion request status old new
ends request (Ok done) status old new is ok err = inl (is, ok)
ends request (Err failure) status old new is ok err = inr (is, err)
