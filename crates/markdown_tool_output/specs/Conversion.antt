-- A run of the program: all files of a request are read, and then the output of their texts is written.
use Rattle.std.specs.Prelude.{◌≡◌, ◌⊎◌, ◌≤◌, ℕ, List, [], ◌∷◌, ◌++◌, length, Option, Some, None, Result, Ok, Err, map}
use Rattle.std.specs.Prelude.{string_bytes}
use Rattle.clap.specs.Words.{kind_of}
use Rattle.clap.specs.declared.error.Error.{Error}
use Rattle.clap.specs.declared.error.kind.ErrorKind.{ErrorKind}
use Rattle.clap.specs.declared.error.kind.ErrorKind.TheVariants as kind
use Rattle.markdown_tool_command.specs.CommandLine.{IsRefusedFor, IsRequestFor}
use Rattle.markdown_tool_command.specs.Requests.{standard}
use Rattle.markdown_tool_command.specs.declared.request.Request.{Request}
use Rattle.markdown_tool_output.specs.FileText.{file_text}
use Rattle.markdown_tool_output.specs.Outputs.{output_of}
use Rattle.markdown_tool_output.specs.Steps.{ReadsAlone, FileStep, Takes, all_read, writes}

-- the texts of files with these bytes
abbrev pub file_texts : Request → (contents : List (List ℕ)) → List (List ℕ)
file_texts request contents = map (file_text request.lossy) contents

-- so many bytes may be written
abbrev pub IsWithin : (limit : Option ℕ) → (bytes : ℕ) → Type 0
IsWithin None bytes = Unit {0}
IsWithin (Some most) bytes = bytes ≤ most

-- all files of a request are read, with these contents, and then the output of their texts is to be written, which is
-- within the limit
pub record Converts (request : Request) (old new : Option (List FileStep)) : Type 0 where
  pub contents : List (List ℕ)
  pub within : IsWithin request.limit (length (output_of request (file_texts request contents)))
  pub steps : Takes old new
      (all_read (map string_bytes request.inputs.items) contents
      ++ writes (string_bytes request.output) (output_of request (file_texts request contents)) ∷ [])

-- the exit status of an outcome: 0 where nothing failed
abbrev pub exit_status : {A E : Type 0} → Result A E → ℕ
exit_status (Ok done) = 0
exit_status (Err failure) = 1

-- this is the exit status for a request: 0 where its output was written, and 1 where something failed; before the
-- output is to be written, nothing else is
abbrev pub EndsConversion : Request → (status : ℕ) → (old new : Option (List FileStep)) → Type 0
EndsConversion request status old new =
    ((status ≡ 0) × Converts request old new)
    ⊎ ((status ≡ 1) × (Converts request old new ⊎ ReadsAlone old new))

-- this is the exit status where something is shown, on standard output
abbrev pub EndsShowing : (status : ℕ) → (old new : Option (List FileStep)) → Type 0
EndsShowing status old new =
    ((status ≡ 0) × (text : List ℕ) × Takes old new (writes standard text ∷ []))
    ⊎ ((status ≡ 1) × ((new ≡ old) ⊎ ((text : List ℕ) × Takes old new (writes standard text ∷ []))))

-- this is the exit status where the words make no request: 2 where they are wrong, and then no file is used; 1 where an
-- allocation was refused; and where they ask for help or the version, 0 if it was shown, otherwise 1
abbrev pub EndsWithout : ErrorKind → (status : ℕ) → (old new : Option (List FileStep)) → Type 0
EndsWithout kind.DisplayHelp status old new = EndsShowing status old new
EndsWithout kind.DisplayVersion status old new = EndsShowing status old new
EndsWithout kind.OutOfMemory status old new = (status ≡ 1) × (new ≡ old)
EndsWithout other status old new = (status ≡ 2) × (new ≡ old)

-- this is how a run of the program on these words ends
abbrev pub RunEnds : (words : List (List ℕ)) → (status : ℕ) → (old new : Option (List FileStep)) → Type 0
RunEnds words status old new =
    ((request : Request) × IsRequestFor words request × EndsConversion request status old new)
    ⊎ ((error : Error) × IsRefusedFor words error × EndsWithout (kind_of error) status old new)
