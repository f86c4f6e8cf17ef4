-- What the pass stands for while the rest of a line is read: first what the open containers left of it, and then, as
-- long as it opens containers, what is left inside them, where more may begin, or a leaf, or nothing.
use Rattle.std.specs.Prelude.{◌≡◌, ◌==◌, ◌&&◌, ℕ, ◌+◌, ◌<◌, ◌≤◌, Bool, true, false, List, [], Option, Some, None}
use Rattle.std.specs.Prelude.{length, take, if◌then◌else◌}
use Rattle.std.specs.Str.{IsCharBoundary, IsUtf8}
use Rattle.markdown_base.specs.Syntax.{any_metadata}
use Rattle.markdown_base.specs.Forest.{Forest, nil}
use Rattle.markdown_lines.specs.BlockBeginnings as line
use Rattle.markdown_base.specs.Source.{Source}
use Rattle.markdown_lines.specs.BlockBeginnings.{Beginning, begins, is_paragraph}
use Rattle.markdown_lines.specs.BlockStarts.{begins_unless_blank, beginning_found, source_read}
use Rattle.markdown_lines.specs.SourceLines.{SourceLine, is_blank_rest}
use Rattle.markdown_lines.specs.declared.block_start.Before.TheVariants as paragraph
use Rattle.markdown_lines.specs.HeldLines.{IsHeldLine}
use Rattle.markdown_lines.specs.Lines.{IsLineFrom}
use Rattle.markdown_lines.specs.declared.block_start.BlockStart.{BlockStart}
use Rattle.markdown_lines.specs.declared.block_start.BlockStart.TheVariants as start
use Rattle.markdown_plain.specs.Fitting.{BracesStand}
use Rattle.markdown_plain.specs.Standing.{AreOpenedBefore, IsSource, PlacesFor, with_last}
use Rattle.markdown_lines.specs.declared.line.Line.{Line}
use Rattle.markdown_block_rules.specs.BlockGrowth.{Block, begun_by, content_of, goes_on, with_line}
use Rattle.markdown_plain.specs.declared.beginnings.LineRest.{LineRest}
use Rattle.markdown_plain.specs.declared.containers.Reached.{Reached}
use Rattle.markdown_plain.specs.OpenBlocks as by_body
use Rattle.std.specs.List.{list_all}
use Rattle.markdown_plain.specs.declared.pass.Pass.{Pass}
use Rattle.markdown_plain.specs.TableHeads.{IfParagraphLast, IsUntabled}
use Rattle.markdown_lines.specs.declared.atx_heading.AtxHeading.{AtxHeading}
use Rattle.markdown_plain.specs.Closable.{IsReady}
use Rattle.markdown_plain.specs.Closing.{AreItemsInLists, MayClose, MayEnd}
use Rattle.markdown_plain.specs.Fits.{MayStep}
use Rattle.markdown_plain.specs.Frames.{Frame, innermost_is, is_list, rebuilt}
use Rattle.markdown_builder.specs.TreeLevels.{followed_by}
use Rattle.markdown_plain.specs.OpenLeaves.{AreItemsOpenedIn, InfoStands, IsLineRest}
use Rattle.markdown_plain.specs.OpenedFrames.{MayOpen}
use Rattle.markdown_plain.specs.Paragraphs.{UnderlinesNothing, has_paragraph, lines_end, source_of}
use Rattle.markdown_plain.specs.ReachedFrames.{are_none}
use Rattle.markdown_plain.specs.ReachedLines.{Before, blocks_before, blocks_in, reached_of}
use Rattle.markdown_plain.specs.Settled.{BlanksKnown, IsBuilt, IsLooseAs, IsLooseBefore, QuotesEnd, placed_end}
use Rattle.markdown_plain.specs.TextLines.{paragraph_before}

-- ---- what is left of a line

-- the rest of a line is this one of the definition, and is read as such; whether it is directly under the root matters
-- for metadata alone
pub record IsLeft (s : Source) (rest : LineRest) (source : SourceLine) : Type 0 where
  pub is : IsLineRest s.text rest.position rest.line source
  pub text : source_read rest.reader ≡ s
  pub stop : rest.reader.stop ≡ rest.line.stop
  pub start : rest.reader.start ≡ rest.line.start
  pub next : rest.reader.next ≡ source.next
  pub indent : source.indent ≡ None
  pub outermost : any_metadata s.syntax ≡ true
      → (rest.reader.outermost && (rest.position.at == rest.reader.start)) ≡ source.outermost
  pub after : rest.line.start ≤ rest.position.at
  pub boundary : IsCharBoundary s.text rest.position.at
  pub from : IsLineFrom s.text rest.line.start rest.line
  pub utf8 : IsUtf8 s.text

-- what the rest of a line begins was found, at this byte offset
pub record IsFound (s : Source) (rest : LineRest) (source : SourceLine) (at : ℕ) (start : BlockStart) : Type 0 where
  pub is : beginning_found rest.reader start ≡ begins_unless_blank s rest.before source
  pub begins : at ≡ content_of source

-- the rest of a line from a byte offset on, which is a line of text or HTML
abbrev pub StandsAsText : List ℕ → Line → ℕ → Type 0
StandsAsText text line at =
    IsHeldLine text (record { start = at; stop = line.stop; next = line.next; owed = 0 })

-- what was found lies between characters of the text
abbrev pub FoundStands : List ℕ → Line → ℕ → BlockStart → Type 0
FoundStands text line at start.Text = StandsAsText text line at
FoundStands text line at (start.Html kind) = StandsAsText text line at
FoundStands text line at (start.Heading heading) = BracesStand text heading.braces
FoundStands text line at (start.Fence opening) = InfoStands text opening
FoundStands text line at (start.Quote inside) = IsCharBoundary text inside.at
FoundStands text line at (start.Footnote label inside) = IsCharBoundary text inside.at
FoundStands text line at (start.Item item) = IsCharBoundary text item.inside.at
FoundStands text line at other = Unit

-- the content of an ATX heading that begins at a byte offset is in its line, between characters
pub record IsHeadingIn (text : List ℕ) (line : Line) (at : ℕ) (heading : AtxHeading) : Type 0 where
  pub after : at ≤ heading.from
  pub from : IsCharBoundary text heading.from
  pub ordered : heading.from ≤ heading.to
  pub to : IsCharBoundary text heading.to
  pub within : heading.to ≤ line.stop

-- what was found fits into the line
abbrev pub FoundFits : List ℕ → Line → ℕ → BlockStart → Type 0
FoundFits text line at (start.Heading heading) = IsHeadingIn text line at heading
FoundFits text line at (start.IndentedCode code) = IsCharBoundary text code.at × (code.at ≤ line.stop)
FoundFits text line at other = Unit

-- the blocks that begin with the rest of a line: none where it is blank
abbrev pub begun_in_rest : Source → SourceLine → Forest Block
begun_in_rest s l = if is_blank_rest l then nil else begun_by s l

-- ---- what was opened in it

-- the innermost of these open containers was opened in this line, and nothing is in it yet
pub record IsOpened (s : Source) (pass : Pass) (line : Line) (frames : List Frame) : Type 0 where
  pub source : source_of pass ≡ s
  pub free : MayOpen s pass frames
  pub quotes : QuotesEnd line.next frames
  pub items : AreItemsOpenedIn line frames
  pub first : placed_end frames nil ≡ line.next
  pub earlier : AreOpenedBefore line.next frames

-- The rest of a line is still to be read inside these containers, and makes the blocks so far these ones.
pub record IsInside (s : Source) (pass : Pass) (rest : LineRest) (frames : List Frame) (source : SourceLine)
    (blocks : Forest Block) : Type 0 where
  pub opened : IsOpened s pass rest.line frames
  pub left : IsLeft s rest source
  pub inner : source.outermost ≡ false
  pub depth : rest.depth ≡ length frames
  pub before : rest.before ≡ paragraph.NoParagraph
  pub whole : blocks ≡ rebuilt frames (begun_in_rest s source)
  pub items : AreItemsInLists false blocks
  pub ahead : pass.placing.builder.at ≤ rest.position.at

-- ---- before anything was opened in it

-- no lines are held back but those of a paragraph
abbrev pub HoldsNone : Pass → Option (List SourceLine) → Type 0
HoldsNone pass None = pass.lines.items ≡ []
HoldsNone pass (Some sources) = Unit

-- which block has not ended, whether or not the last one goes on in some line
abbrev pub HoldsLast : Source → Pass → List Frame → Forest Block → Option Block → Type 0
HoldsLast s pass frames inside None = MayClose s pass frames inside × (pass.lines.items ≡ [])
HoldsLast s pass frames inside (Some b) =
    (held : Option (List SourceLine)) × MayEnd s pass frames inside b held × HoldsNone pass held

-- what the pass stands for before a line that begins at a byte offset, whether or not the last block goes on in it
pub record Holds (s : Source) (pass : Pass) (frames : List Frame) (inside : Forest Block) (last : Option Block)
    (from : ℕ) : Type 0 where
  pub source : source_of pass ≡ s
  pub unended : HoldsLast s pass frames inside last
  pub loose : IsLooseAs pass.looseness frames (with_last inside last)
  pub blanks : BlanksKnown pass.looseness.blank_from frames (with_last inside last)
  pub before : lines_end pass.lines.items ≤ from
  pub unheld : pass.placing.builder.leaf ≡ false → pass.blanks.items ≡ []
  pub earlier : AreOpenedBefore from frames
  pub ready : IsReady pass from

-- the rest of a line was made of what the line reaches
pub record IsMadeOf (s : Source) (pass : Pass) (found : Reached) (rest : LineRest) : Type 0 where
  pub text : rest.reader.text.now ≡ s.text
  pub syntax : rest.reader.syntax ≡ pass.syntax
  pub start : rest.reader.start ≡ rest.line.start
  pub stop : rest.reader.stop ≡ rest.line.stop
  pub next : rest.reader.next ≡ rest.line.next
  pub outermost : rest.reader.outermost ≡ (any_metadata pass.syntax
      && list_all (λ block. by_body.is_list block.body) (take found.depth pass.placing.builder.blocks))
  pub position : rest.position ≡ found.position
  pub depth : rest.depth ≡ found.depth
  pub before : rest.before ≡ paragraph_before pass found.all

-- What the open containers left of a line is still to be read, and makes the blocks so far these ones. No block but a
-- paragraph goes on in it, and it makes no table of that.
pub record IsFirst (s : Source) (pass : Pass) (rest : LineRest) (before : Before) (line source : SourceLine)
    (blocks : Forest Block) : Type 0 where
  pub untabled : IfParagraphLast s (IsUntabled s pass rest.line.start (reached_of s before line)) before.last
  pub holds : Holds s pass before.frames before.inside before.last rest.line.start
  pub is : IsSource pass rest.line line
  pub reached : source ≡ (reached_of s before line).rest
  pub left : IsLeft s rest source
  pub depth : rest.depth ≡ length (reached_of s before line).outer
  pub paragraph : rest.before ≡ paragraph_before pass (are_none (reached_of s before line).inner)
  pub filled : is_blank_rest source ≡ false
  pub over : has_paragraph pass ≡ false
      → goes_on s (rebuilt (reached_of s before line).inner (blocks_in before)) source ≡ None
  pub whole : blocks ≡ with_line s (blocks_before before) line

-- ---- in either case

-- where the rest of a line is read: after the containers that go on in the line, or inside containers that it opened
pub data Turn : Type 0 where
  first : Before → SourceLine → Turn
  later : List Frame → Turn

-- this is still to be read of a line, and makes the blocks so far these ones
abbrev pub IsHere : Source → Pass → LineRest → Turn → SourceLine → Forest Block → Type 0
IsHere s pass rest (first before line) source blocks = IsFirst s pass rest before line source blocks
IsHere s pass rest (later frames) source blocks = IsInside s pass rest frames source blocks

-- the pass stands for the blocks so far, and the rest of a line may be read
pub record MayRead (pass : Pass) (rest : LineRest) : Type 0 where
  pub s : Source
  pub turn : Turn
  pub source : SourceLine
  pub blocks : Forest Block
  pub here : IsHere s pass rest turn source blocks

-- the same, and this block was found to begin with it, at a byte offset
pub record MayBeginBlock (pass : Pass) (rest : LineRest) (at : ℕ) (start : BlockStart) : Type 0 where
  pub s : Source
  pub turn : Turn
  pub source : SourceLine
  pub blocks : Forest Block
  pub here : IsHere s pass rest turn source blocks
  pub found : IsFound s rest source at start
  pub stands : FoundStands pass.placing.builder.text rest.line at start
  pub fits : FoundFits pass.placing.builder.text rest.line at start

-- A number that grows from turn to turn: the place, and one more where no paragraph is left that the line may go on
-- with.
abbrev pub turn_place : LineRest → ℕ
turn_place rest = rest.position.at + (if is_paragraph rest.before then 0 else 1)

-- more is to be read of the same line
pub record ReadsOn (s : Source) (pass : Pass) (old new : LineRest) (blocks : Forest Block) : Type 0 where
  pub turn : Turn
  pub source : SourceLine
  pub here : IsHere s pass new turn source blocks
  pub later : turn_place old < turn_place new
  pub line : new.line ≡ old.line

-- a block was begun with the rest of a line, of which more is to be read, or not
abbrev pub HasBegun : Source → Pass → (old new : LineRest) → Forest Block → (more : Bool) → Type 0
HasBegun s pass old new blocks true = ReadsOn s pass old new blocks
HasBegun s pass old new blocks false = PlacesFor s pass old.line.next blocks

-- the rest of a line was read, whatever may have been read of it, and no cell was added to a table
pub record Reads (old : Pass) (rest : LineRest) (new : Pass) (now : LineRest) (more : Bool) : Type 0 where
  pub begun : (may : MayRead old rest) → HasBegun may.s new rest now may.blocks more
  pub tables : new.tables ≡ old.tables

-- the same of a rest with which this block was found to begin, at a byte offset
pub record Begins (old : Pass) (rest : LineRest) (at : ℕ) (start : BlockStart) (new : Pass) (now : LineRest)
    (more : Bool) : Type 0 where
  pub begun : (may : MayBeginBlock old rest at start) → HasBegun may.s new rest now may.blocks more
  pub tables : new.tables ≡ old.tables

-- what was found is read as text: it is that, or underlines a paragraph of definitions alone
abbrev pub IsReadAsText : Pass → Line → ℕ → BlockStart → Type 0
IsReadAsText pass line at start.Text = Unit
IsReadAsText pass line at (start.Underline level) = UnderlinesNothing pass line at true
IsReadAsText pass line at other = ⊥

-- ---- room for a block

-- a block other than text, an underline or an item begins
abbrev pub NeedsRoom : Beginning → Type 0
NeedsRoom line.begins_text = ⊥
NeedsRoom (line.begins_underline level) = ⊥
NeedsRoom (line.begins_item marker indent rest) = ⊥
NeedsRoom other = Unit

-- Beside what is built: a block may begin in the innermost of these containers, with these blocks before it, of which
-- none has not ended.
pub record MayBegin (s : Source) (pass : Pass) (line : Line) (frames : List Frame) (inside : Forest Block)
    : Type 0 where
  pub source : source_of pass ≡ s
  pub lines : pass.lines.items ≡ []
  pub blanks : pass.blanks.items ≡ []
  pub loose : IsLooseBefore pass.looseness frames inside
  pub quotes : QuotesEnd line.next frames
  pub items : AreItemsOpenedIn line frames
  pub earlier : AreOpenedBefore line.next frames

-- There is room for the block that the rest of a line begins: all containers are closed that it is not in.
pub record HasRoom (s : Source) (pass : Pass) (rest : LineRest) (source : SourceLine) (b : Beginning)
    (blocks : Forest Block) : Type 0 where
  pub frames : List Frame
  pub inside : Forest Block
  pub may : MayBegin s pass rest.line frames inside
  pub built : IsBuilt s pass.placing.builder frames inside
  pub ready : MayStep pass.placing.builder (content_of source)
  pub low : pass.placing.builder.at ≤ rest.position.at
  pub free : innermost_is is_list frames ≡ false
  -- what is directly under the root is in no container any more
  pub outermost : source.outermost ≡ true → frames ≡ []
  pub left : IsLeft s rest source
  pub filled : is_blank_rest source ≡ false
  pub is : begins s paragraph.NoParagraph source ≡ b
  pub whole : blocks ≡ rebuilt frames (followed_by inside (begun_by s source))
  pub items : AreItemsInLists false blocks
