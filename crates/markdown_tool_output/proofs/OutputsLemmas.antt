-- A refused allocation is one of the faults of what is written; and what is written so far.
use Rattle.std.proofs.Common.{◌≡◌, ℕ, List, [], ◌∷◌, ◌++◌, drop, inr, map, IfErr, Result}
use Rattle.std.proofs.lemmas.Result.{IfErr-weaker}
use Rattle.markdown_base.specs.declared.fault.Fault.{Fault}
use Rattle.markdown_base.specs.declared.fault.Fault.TheVariants.{Memory}
use Rattle.markdown_tool_command.specs.declared.request.Request.{Request}
use Rattle.markdown_tool_output.specs.Files.{file_view}
use Rattle.markdown_tool_output.specs.Outputs.{AskedView, FileView, IsFaultOfFiles, IsFaultOfOutput, asked_of}
use Rattle.markdown_tool_output.specs.Outputs.{files_of, outputs_of}
use Rattle.markdown_tool_output.specs.declared.file.File.{File}

-- a refused allocation is a fault of any files
pub memory_of_files : (a : AskedView) (files : List FileView) (fault : Fault) → fault ≡ Memory
    → IsFaultOfFiles a files fault
memory_of_files a [] fault is = is
memory_of_files a (f ∷ files) fault is = inr (memory_of_files a files fault is)

-- and of any output
pub memory_of_output : {T : Type 0} (r : Request) (texts : List (List ℕ)) (result : Result T Fault)
    → IfErr result (λ fault. fault ≡ Memory) → IfErr result (IsFaultOfOutput r texts)
memory_of_output r texts result refused =
    IfErr-weaker result (λ fault. fault ≡ Memory) (IsFaultOfOutput r texts)
    (λ fault is. memory_of_files (asked_of r) (files_of r texts) fault is) refused

-- what is written so far, with what is written for the files from this one on, is what is written for all; and a fault
-- of those is one of all
pub record WritesSoFar (a : AskedView) (files : List File) (at : ℕ) (so_far : List ℕ) : Type 0 where
  pub written : so_far ++ outputs_of a (map file_view (drop at files)) ≡ outputs_of a (map file_view files)
  pub faults : (fault : Fault) → IsFaultOfFiles a (map file_view (drop at files)) fault
      → IsFaultOfFiles a (map file_view files) fault
