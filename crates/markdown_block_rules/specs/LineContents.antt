-- What the content of lines consists of: the items of each line, and the breaks between lines.
use Rattle.std.specs.Prelude.{ℕ, zero, suc, ◌+◌, ◌-◌, ◌==◌, nat_lt, List, [], ◌∷◌}
use Rattle.std.specs.Prelude.{◌++◌, length, slice_range, replicate, if◌then◌else◌}
use Rattle.markdown_base.specs.Bytes.{backslash, space}
use Rattle.markdown_base.specs.declared.item.ItemBody.{ItemBody}
use Rattle.markdown_builder.specs.Shown.{Shown, plain_item, synthesized_item}
use Rattle.markdown_items.specs.declared.extensions.ItemSyntax.{ItemSyntax}
use Rattle.markdown_items.specs.ContentItems.{content_items}
use Rattle.markdown_lines.specs.declared.line_break.LineBreak.{LineBreak}
use Rattle.markdown_lines.specs.LineBreaks.{break_after}
use Rattle.markdown_lines.specs.LineBytes.{without_end}
use Rattle.markdown_lines.specs.Lines.{is_space_or_tab}
use Rattle.markdown_lines.specs.SourceLines.{SourceLine}
use Rattle.markdown_lines.specs.TableRows.{piece_length}

-- The items of a cell's content, read in at most `n` pieces. Between two pieces there are two backslashes that are in
-- no item, since a `|` is directly after them.
unfoldable pub pieces_items : ℕ → List ℕ → ItemSyntax → (start end : ℕ) → List Shown
pieces_items zero text extensions start end = []
pieces_items (suc n) text extensions start end =
    let stop = start + piece_length (slice_range text start end) in
    content_items text extensions start stop
    ++ (if nat_lt stop end then pieces_items n text extensions (stop + 2) end else [])

-- the items of a cell's content
abbrev pub cell_items : List ℕ → ItemSyntax → (start end : ℕ) → List Shown
cell_items text extensions start end = pieces_items (suc (end - start)) text extensions start end

-- the break after a line whose content begins at a byte offset and has these bytes
abbrev pub break_between : ℕ → List ℕ → LineBreak
break_between start bytes =
    let unspaced = without_end (λ b. b == space) bytes in
    break_after (start + length bytes) (start + length (without_end (λ b. b == backslash) bytes))
    (start + length unspaced) (start + length (without_end is_space_or_tab unspaced))

-- a line that another line follows, with its break
abbrev pub broken_line : List ℕ → ItemSyntax → SourceLine → List Shown
broken_line text extensions l =
    let between = break_between l.left.scanned l.left.bytes in
    content_items text extensions l.left.scanned between.text_end
    ++ plain_item between.start l.next between.body ∷ []

-- the lines of a paragraph or of a heading, without white space at the end
abbrev pub lines_items : List ℕ → ItemSyntax → List SourceLine → List Shown
lines_items text extensions [] = []
lines_items text extensions (l ∷ []) =
    content_items text extensions l.left.scanned
    (l.left.scanned + length (without_end is_space_or_tab l.left.bytes))
lines_items text extensions (l ∷ m ∷ lines) =
    broken_line text extensions l ++ lines_items text extensions (m ∷ lines)

-- a line of code or of HTML, with its line ending, after the columns that a partly read tab owes
abbrev pub source_line : ItemBody → SourceLine → List Shown
source_line b l =
    let start = l.left.scanned in
    (if l.left.owed == 0 then [] else synthesized_item start start (replicate l.left.owed space) ∷ [])
    ++ (if nat_lt start l.next then plain_item start l.next b ∷ [] else [])

-- the lines of code or of HTML
abbrev pub source_lines : ItemBody → List SourceLine → List Shown
source_lines b [] = []
source_lines b (l ∷ lines) = source_line b l ++ source_lines b lines
