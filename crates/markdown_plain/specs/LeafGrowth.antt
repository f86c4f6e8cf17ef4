-- Leaves that begin with a line, and leaves that grow by one: what the pass has placed then.
use Rattle.std.specs.Prelude.{◌≡◌, ℕ, Bool, false, List, Some}
use Rattle.markdown_base.specs.Forest.{Forest}
use Rattle.markdown_base.specs.Source.{Source}
use Rattle.markdown_block_rules.specs.BlockGrowth.{Block, Kind, leaf_with}
use Rattle.markdown_lines.specs.SourceLines.{SourceLine, cut, is_blank_rest}
use Rattle.markdown_lines.specs.declared.line.Line.{Line}
use Rattle.markdown_lines.specs.declared.position.Position.{Position}
use Rattle.markdown_plain.specs.Frames.{Frame}
use Rattle.markdown_plain.specs.OpenLeaves.{IsLeafIn, IsLineRest, has_ended}
use Rattle.markdown_plain.specs.Settled.{IsBuilt}
use Rattle.markdown_plain.specs.Standing.{HoldsBlanks, IsLeafKind}
use Rattle.markdown_plain.specs.declared.pass.LeafKind.{LeafKind}
use Rattle.markdown_plain.specs.declared.pass.Pass.{Pass}

-- after any blocks that were built, a leaf of a kind is now the last, from a byte offset up to the end of a line
abbrev pub BeginsLeaf : (old new : Pass) → Kind → (start next : ℕ) → (ended : Bool) → Type 0
BeginsLeaf old new kind start next ended =
    (s : Source) (frames : List Frame) (inside : Forest Block) (b : Block)
    → IsBuilt s old.placing.builder frames inside → s.syntax ≡ old.syntax
    → b.kind ≡ kind → b.start ≡ start → b.last ≡ next → IsLeafIn s new.placing.builder frames inside b ended

-- the open leaf has grown by any line of the definition that this one may be
abbrev pub GrowsLeaf : (old new : Pass) → LeafKind → (SourceLine → Type 0) → Type 0
GrowsLeaf old new how may_be =
    (s : Source) (frames : List Frame) (inside : Forest Block) (b : Block) (source : SourceLine) (now : Kind)
    → IsLeafIn s old.placing.builder frames inside b false → IsLeafKind how b.kind
    → HoldsBlanks old.blanks.items b.kind → may_be source → leaf_with s source b.kind ≡ Some now
    → IsLeafIn s new.placing.builder frames inside (record b { last = source.next; kind = now }) (has_ended now)

-- the rest of a line from a place on is the code of a line of the definition that is not blank
pub record IsCode (text : List ℕ) (position : Position) (line : Line) (source : SourceLine) : Type 0 where
  pub rest : IsLineRest text position line (cut 4 source)
  pub filled : is_blank_rest source ≡ false
