-- The texts of errors.
use Rattle.std.specs.Prelude.{ℕ, List, codes}
use Rattle.markdown_base.specs.declared.fault.Fault.{Fault}
use Rattle.markdown_base.specs.declared.fault.Fault.TheVariants.{Memory, Blocks, Depth}

-- the text that `{}` writes for an error
abbrev pub fault_text : Fault → List ℕ
fault_text Memory = codes "out of memory"
fault_text Blocks = codes "bad block result"
fault_text Depth = codes "image nested too deeply"
