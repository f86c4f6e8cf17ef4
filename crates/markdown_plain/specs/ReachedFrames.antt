-- Which of the open containers go on in a line, as the definition of blocks says.
use Rattle.std.specs.Prelude.{◌≡◌, ℕ, ◌+◌, Bool, true, false, ◌&&◌, nat_le}
use Rattle.std.specs.Prelude.{List, [], ◌∷◌, ◌++◌, length, if◌then◌else◌}
use Rattle.std.specs.List.{list_all}
use Rattle.markdown_base.specs.Forest.{Forest}
use Rattle.markdown_builder.specs.declared.open_block.OpenBlock.{OpenBlock}
use Rattle.markdown_lines.specs.declared.line.Line.{Line}
use Rattle.markdown_base.specs.Source.{Source}
use Rattle.markdown_lines.specs.SourceLines.{SourceLine, is_blank_rest, stop_of}
use Rattle.markdown_block_rules.specs.BlockGrowth.{Block, content_of}
use Rattle.markdown_plain.specs.declared.containers.Reached.{Reached}
use Rattle.markdown_plain.specs.declared.pass.Pass.{Pass}
use Rattle.markdown_plain.specs.Containers.{is_container, is_innermost, whole_line}
use Rattle.markdown_plain.specs.Frames as kept
use Rattle.markdown_plain.specs.Frames.{Frame, is_list, is_quote}
use Rattle.markdown_plain.specs.HeldSources.{IsRest}
use Rattle.markdown_plain.specs.Settled.{AreOpen, EmptyKnown}

-- no block, or one that is no container
abbrev pub IsAtMostLeaf : List OpenBlock → Type 0
IsAtMostLeaf [] = Unit
IsAtMostLeaf (block ∷ []) = is_container block.body ≡ false
IsAtMostLeaf (block ∷ inner ∷ blocks) = ⊥

-- Open containers, with these blocks in the innermost, before a line. Where a leaf or a table is
-- open, the innermost container is no empty item.
pub record IsBefore (pass : Pass) (line : Line) (s : Source) (frames : List Frame)
    (inside : Forest Block) (source : SourceLine) : Type 0 where
  pub containers : List OpenBlock
  -- the leaf or the table that is open in them, or nothing
  pub leaf : List OpenBlock
  pub blocks : pass.placing.builder.blocks ≡ containers ++ leaf
  pub alone : IsAtMostLeaf leaf
  pub are : AreOpen pass.placing.builder.texts containers frames
  pub empty : EmptyKnown (is_innermost leaf && pass.looseness.item_is_empty) frames inside
  pub syntax : pass.syntax ≡ s.syntax
  pub left : whole_line pass.placing.builder.text line ≡ source.left
  pub stop : line.stop ≡ stop_of source
  pub next : line.next ≡ source.next

-- there are no more open containers
abbrev pub are_none : List Frame → Bool
are_none [] = true
are_none (f ∷ frames) = false

-- the number of open containers down to the innermost block quote, with that included; 0 where
-- there is none
abbrev pub quote_depth : List Frame → ℕ
quote_depth [] = 0
quote_depth (f ∷ outer) = if is_quote f.block.kind then length outer + 1 else quote_depth outer

-- what was reached in a line, by the open containers that go on in it
pub record IsReached (text : List ℕ) (line : Line) (source : SourceLine) (result : Reached)
    (r : kept.Reached) : Type 0 where
  pub depth : result.depth ≡ length r.outer
  pub all : result.all ≡ are_none r.inner
  pub rest : IsRest text result.position line r.rest
  pub stop : line.stop ≡ stop_of r.rest
  -- what is left is directly under the root where the line is, and only lists are around it
  pub outermost : r.rest.outermost
      ≡ (source.outermost && list_all (λ f. is_list f.block.kind) r.outer)
  pub indent : r.rest.indent ≡ source.indent
  pub content : result.content ≡ content_of r.rest
  pub blank : nat_le line.stop result.content ≡ is_blank_rest r.rest
  pub quoted : result.quoted ≡ quote_depth r.outer
