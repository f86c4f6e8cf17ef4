-- The items that lines consist of are inline, and none is a task marker or refers to what only resolving makes.
use Rattle.std.proofs.Common.{◌≡◌, ℕ, zero, suc, ◌+◌, ◌-◌, ◌%◌, Bool, true, false, not, ◌==◌, ◌&&◌, ◌||◌, List, [], ◌∷◌}
use Rattle.std.proofs.Common.{◌++◌, Option, Some, None, refl, length, nat_le, nat_lt, slice_index, slice_range, codes}
use Rattle.std.proofs.Common.{encode_utf8, replicate}
use Rattle.std.specs.Char.{is_ascii_punctuation}
use Rattle.std.proofs.lemmas.Bool.{true≢false}
use Rattle.std.specs.Prelude.{⊤, IsTrue, if◌then◌else◌}
use Rattle.std.specs.List.{AllByRecursion}
use Rattle.markdown_base.proofs.ForestLemmas.{All-append}
use Rattle.markdown_base.specs.Bytes.{ampersand, apostrophe, backslash, backtick, close_bracket, dollar_sign}
use Rattle.markdown_base.specs.Bytes.{double_quote, exclamation_mark, full_stop, hyphen, less_than, open_bracket, space}
use Rattle.markdown_base.specs.Item.{is_inline}
use Rattle.markdown_base.specs.WellFormed.{is_delimiter}
use Rattle.markdown_base.specs.declared.item.ItemBody.{ItemBody}
use Rattle.markdown_base.specs.declared.item.ItemBody.TheVariants as body
use Rattle.markdown_items.specs.Dashes.{dashes_for, dashes_in_utf8, ellipsis}
use Rattle.markdown_items.specs.Flanking.{character_after, character_before}
use Rattle.markdown_items.specs.Found.{dots_at, entity_at, entity_found, escape_at, found_at, hyphens_at, image_at}
use Rattle.markdown_items.specs.Found.{mark_at, run_at, run_found}
use Rattle.markdown_items.specs.FoundView as found
use Rattle.markdown_items.specs.FoundView.{FoundView}
use Rattle.markdown_items.specs.LineItems.{is_after_backslash, is_special, math_mark, quote_mark, run_end, run_flags}
use Rattle.markdown_items.specs.declared.extensions.ItemSyntax.{ItemSyntax}
use Rattle.markdown_items.specs.declared.flanking.Flags.{Flags}
use Rattle.markdown_items.specs.declared.found.LineRange.{LineRange}
use Rattle.markdown_lines.specs.LineBreaks.{break_after}
use Rattle.markdown_lines.specs.LineBytes.{without_end}
use Rattle.markdown_lines.specs.Lines.{is_space_or_tab}
use Rattle.markdown_lines.specs.SourceLines.{SourceLine}
use Rattle.markdown_lines.specs.TableRows.{piece_length}
use Rattle.markdown_lines.specs.declared.line_break.LineBreak.{LineBreak}
use Rattle.markdown_scan.specs.Beginnings.{begins_with}
use Rattle.markdown_scan.specs.Entity.{entity}
use Rattle.markdown_block_rules.specs.LineContents.{break_between, broken_line, cell_items, lines_items, pieces_items}
use Rattle.markdown_block_rules.specs.LineContents.{source_line, source_lines}
use Rattle.markdown_block_rules.proofs.BlockBeginningsLemmas.{either}
use Rattle.markdown_builder.specs.Shown.{Shown, plain_item, run_items, synthesized_item}
use Rattle.markdown_items.specs.ContentItems.{content_items, items_read_from, put_found, text_between}

-- no inline item, or a task marker, or what refers to what only resolving makes
abbrev pub is_marked : ItemBody → Bool
is_marked (body.TaskListMarker done) = true
is_marked (body.OwnedInlineHtml ix) = true
is_marked other = not (is_inline other)

pub unmarked_inline : (b : ItemBody) → is_marked b ≡ false → IsTrue (is_inline b)
unmarked_inline (body.TaskListMarker done) is = refl
unmarked_inline (body.OwnedInlineHtml ix) is = refl
unmarked_inline other is = by_kind (is_inline other) is
  where
    by_kind : (inline : Bool) → not inline ≡ false → IsTrue inline
    by_kind true is = refl
    by_kind false is = absurd (true≢false is)

-- none of some items is one of these
abbrev pub AreUnmarked : List Shown → Type 0
AreUnmarked items = AllByRecursion (λ (a : Shown). is_marked a.item.body ≡ false) items

joined : (xs ys : List Shown) → AreUnmarked xs → AreUnmarked ys → AreUnmarked (xs ++ ys)
joined xs ys first second = All-append (λ (a : Shown). is_marked a.item.body ≡ false) xs ys first second

between_unmarked : (text : List ℕ) (line : LineRange) (from to : ℕ) → AreUnmarked (text_between text line from to)
between_unmarked text line from to =
    either AreUnmarked (nat_lt from to)
    (plain_item from to (body.Text (is_after_backslash text line.start from)) ∷ []) [] (refl, tt) tt

run_unmarked : (stop : ℕ) (opens closes : Bool) (count : ℕ) → AreUnmarked (run_items stop opens closes count)
run_unmarked stop opens closes zero = tt
run_unmarked stop opens closes (suc count) = (refl, run_unmarked stop opens closes count)

-- what is found is no such mark
abbrev IsUnmarked : FoundView → Type 0
IsUnmarked (found.Mark mark) = is_marked mark ≡ false
IsUnmarked other = ⊤

put_unmarked : (text : List ℕ) (line : LineRange) (more : ℕ → ℕ → List Shown) (from at : ℕ)
    → ((from at : ℕ) → AreUnmarked (more from at)) → (here : FoundView) → IsUnmarked here
    → AreUnmarked (put_found text line more from at here)
put_unmarked text line more from at rest (found.Text next) is = rest from next
put_unmarked text line more from at rest found.Escape is =
    joined (text_between text line from at) (more (at + 1) (at + 2)) (between_unmarked text line from at)
    (rest (at + 1) (at + 2))
put_unmarked text line more from at rest (found.Mark mark) is =
    joined (text_between text line from at) (plain_item at (at + 1) mark ∷ more (at + 1) (at + 1))
    (between_unmarked text line from at) (is, rest (at + 1) (at + 1))
put_unmarked text line more from at rest found.Image is =
    joined (text_between text line from at) (plain_item at (at + 2) body.MaybeImage ∷ more (at + 2) (at + 2))
    (between_unmarked text line from at) (refl, rest (at + 2) (at + 2))
put_unmarked text line more from at rest (found.Backticks stop) is =
    joined (text_between text line from at) (plain_item at stop (body.MaybeCode (stop - at) false) ∷ more stop stop)
    (between_unmarked text line from at) (refl, rest stop stop)
put_unmarked text line more from at rest (found.EscapedBackticks stop) is =
    joined (text_between text line from at)
    (plain_item (at + 1) stop (body.MaybeCode (stop - (at + 1)) true) ∷ more stop stop)
    (between_unmarked text line from at) (refl, rest stop stop)
put_unmarked text line more from at rest (found.DelimiterRun stop flags) is =
    let between = text_between text line from at in
    let run = run_items stop flags.opens flags.closes (stop - at) in
    joined (between ++ run) (more stop stop)
    (joined between run (between_unmarked text line from at)
    (run_unmarked stop flags.opens flags.closes (stop - at))) (rest stop stop)
put_unmarked text line more from at rest (found.Entity stop characters) is =
    joined (text_between text line from at) (synthesized_item at stop characters ∷ more stop stop)
    (between_unmarked text line from at) (refl, rest stop stop)
put_unmarked text line more from at rest (found.Dashes stop) is =
    joined (text_between text line from at)
    (synthesized_item at stop (dashes_in_utf8 (dashes_for (stop - at))) ∷ more stop stop)
    (between_unmarked text line from at) (refl, rest stop stop)
put_unmarked text line more from at rest found.Ellipsis is =
    joined (text_between text line from at)
    (synthesized_item at (at + 3) (encode_utf8 ellipsis) ∷ more (at + 3) (at + 3))
    (between_unmarked text line from at) (refl, rest (at + 3) (at + 3))

-- what begins at a special byte
escape_unmarked : (text : List ℕ) (end at : ℕ) → IsUnmarked (escape_at text end at)
unfolding escape_at
escape_unmarked text end at =
    either IsUnmarked ((at + 1 == end) || not (is_ascii_punctuation (slice_index text (at + 1)))) (found.Text (at + 1))
    (if slice_index text (at + 1) == backtick then found.EscapedBackticks (run_end text (at + 1) end) else found.Escape)
    tt (either IsUnmarked (slice_index text (at + 1) == backtick) (found.EscapedBackticks (run_end text (at + 1) end))
    found.Escape tt tt)

entity_unmarked : (at : ℕ) (read : Option (ℕ × List ℕ)) → IsUnmarked (entity_found at read)
entity_unmarked at None = tt
entity_unmarked at (Some read) = tt

run_found_unmarked : (stop : ℕ) (flags : Option Flags) → IsUnmarked (run_found stop flags)
run_found_unmarked stop None = tt
run_found_unmarked stop (Some flags) = tt

mark_unmarked : (line : LineRange) (text : List ℕ) (at : ℕ) → IsUnmarked (mark_at line text at)
unfolding mark_at
mark_unmarked line text at =
    let byte = slice_index text at in
    let before = character_before text line.start at in
    let after = character_after text (at + 1) in
    let quotes = ((byte == apostrophe) || (byte == double_quote)) && line.extensions.quotes in
    either IsUnmarked ((byte == dollar_sign) && line.extensions.math) (found.Mark (math_mark before after))
    (if quotes then found.Mark (quote_mark byte before after) else found.Text (at + 1)) refl
    (either IsUnmarked quotes (found.Mark (quote_mark byte before after)) (found.Text (at + 1)) refl tt)

found_unmarked : (line : LineRange) (text : List ℕ) (at : ℕ) → IsUnmarked (found_at line text at)
unfolding found_at entity_at image_at run_at hyphens_at dots_at
found_unmarked line text at =
    let byte = slice_index text at in
    let stop = run_end text at line.end in
    let one = either IsUnmarked in
    one (byte == backslash) _ _ (escape_unmarked text line.end at)
    (one (byte == backtick) _ _ tt
    (one (byte == ampersand) _ _ (entity_unmarked at (entity line.extensions.names (slice_range text at line.end)))
    (one (byte == exclamation_mark) _ _
    (one ((at + 1 == line.end) || not (slice_index text (at + 1) == open_bracket)) (found.Text (at + 1)) found.Image tt
    tt)
    (one (byte == less_than) _ _ refl
    (one (byte == open_bracket) _ _ refl
    (one (byte == close_bracket) _ _ refl
    (one (is_delimiter byte) _ _
    (run_found_unmarked stop (run_flags line.extensions byte (stop - at) (character_before text line.start at)
    (character_after text stop)))
    (one (byte == hyphen) _ _ (one (nat_lt (stop - at) 2) (found.Text stop) (found.Dashes stop) tt tt)
    (one (byte == full_stop) _ _
    (one (begins_with (codes "...") (slice_range text at line.end)) found.Ellipsis (found.Text (at + 1)) tt tt)
    (mark_unmarked line text at))))))))))

-- the items of a line's content
items_unmarked : (n : ℕ) (text : List ℕ) (line : LineRange) (from at : ℕ)
    → AreUnmarked (items_read_from n text line from at)
unfolding items_read_from
items_unmarked zero text line from at = tt
items_unmarked (suc n) text line from at =
    let plain = not (is_special line.extensions.dashes (slice_index text at)) in
    let found_there = put_found text line (items_read_from n text line) from at (found_at line text at) in
    either AreUnmarked (nat_le line.end at) (text_between text line from line.end)
    (if plain then items_read_from n text line from (at + 1) else found_there)
    (between_unmarked text line from line.end)
    (either AreUnmarked plain (items_read_from n text line from (at + 1)) found_there
    (items_unmarked n text line from (at + 1))
    (put_unmarked text line (items_read_from n text line) from at (λ from at. items_unmarked n text line from at)
    (found_at line text at) (found_unmarked line text at)))

pub content_unmarked : (text : List ℕ) (extensions : ItemSyntax) (start end : ℕ)
    → AreUnmarked (content_items text extensions start end)
content_unmarked text extensions start end =
    items_unmarked (suc (end - start)) text (record { start = start; end = end; extensions = extensions }) start start

pieces_unmarked : (n : ℕ) (text : List ℕ) (extensions : ItemSyntax) (start end : ℕ)
    → AreUnmarked (pieces_items n text extensions start end)
unfolding pieces_items
pieces_unmarked zero text extensions start end = tt
pieces_unmarked (suc n) text extensions start end =
    let stop = start + piece_length (slice_range text start end) in
    let rest = if nat_lt stop end then pieces_items n text extensions (stop + 2) end else [] in
    joined (content_items text extensions start stop) rest (content_unmarked text extensions start stop)
    (either AreUnmarked (nat_lt stop end) (pieces_items n text extensions (stop + 2) end) []
    (pieces_unmarked n text extensions (stop + 2) end) tt)

pub cell_unmarked : (text : List ℕ) (extensions : ItemSyntax) (start end : ℕ)
    → AreUnmarked (cell_items text extensions start end)
cell_unmarked text extensions start end = pieces_unmarked (suc (end - start)) text extensions start end

-- a break
break_unmarked : (stop backslashes spaces content : ℕ)
    → is_marked (break_after stop backslashes spaces content).body ≡ false
break_unmarked stop backslashes spaces content =
    let hard : LineBreak = record { text_end = stop - 1; start = stop - 1; body = body.HardBreak true } in
    let soft : LineBreak = record { text_end = content; start = stop; body = body.SoftBreak } in
    let spaced : LineBreak = record { text_end = content; start = spaces; body = body.HardBreak false } in
    let unmarked = λ (between : LineBreak). is_marked between.body ≡ false in
    either unmarked ((stop - backslashes) % 2 == 1) hard (if nat_lt (stop - spaces) 2 then soft else spaced) refl
    (either unmarked (nat_lt (stop - spaces) 2) soft spaced refl refl)

broken_unmarked : (text : List ℕ) (extensions : ItemSyntax) (l : SourceLine)
    → AreUnmarked (broken_line text extensions l)
broken_unmarked text extensions l =
    let start = l.left.scanned in
    let bytes = l.left.bytes in
    let between = break_between start bytes in
    let unspaced = without_end (λ b. b == space) bytes in
    joined (content_items text extensions start between.text_end)
    (plain_item between.start l.next between.body ∷ []) (content_unmarked text extensions start between.text_end) (
      break_unmarked (start + length bytes) (start + length (without_end (λ b. b == backslash) bytes))
          (start + length unspaced) (start + length (without_end is_space_or_tab unspaced)),
      tt,
    )

pub lines_unmarked : (text : List ℕ) (extensions : ItemSyntax) (lines : List SourceLine)
    → AreUnmarked (lines_items text extensions lines)
lines_unmarked text extensions [] = tt
lines_unmarked text extensions (l ∷ []) =
    content_unmarked text extensions l.left.scanned
    (l.left.scanned + length (without_end is_space_or_tab l.left.bytes))
lines_unmarked text extensions (l ∷ m ∷ lines) =
    joined (broken_line text extensions l) (lines_items text extensions (m ∷ lines))
    (broken_unmarked text extensions l) (lines_unmarked text extensions (m ∷ lines))

-- the lines of code or of HTML
line_unmarked : (b : ItemBody) (l : SourceLine) → is_marked b ≡ false → AreUnmarked (source_line b l)
line_unmarked b l is =
    let start = l.left.scanned in
    let owed = synthesized_item start start (replicate l.left.owed space) ∷ [] in
    let rest = plain_item start l.next b ∷ [] in
    joined (if l.left.owed == 0 then [] else owed) (if nat_lt start l.next then rest else [])
    (either AreUnmarked (l.left.owed == 0) [] owed tt (refl, tt))
    (either AreUnmarked (nat_lt start l.next) rest [] (is, tt) tt)

pub source_unmarked : (b : ItemBody) (lines : List SourceLine) → is_marked b ≡ false
    → AreUnmarked (source_lines b lines)
source_unmarked b [] is = tt
source_unmarked b (l ∷ lines) is =
    joined (source_line b l) (source_lines b lines) (line_unmarked b l is) (source_unmarked b lines is)
