-- The title of a definition in the lines of a paragraph, for private clauses: titles are defined in `DefinitionRules`.
use Rattle.std.specs.Prelude.{◌≡◌, ℕ, ◌+◌, ◌-◌, ◌<◌, ◌≤◌, false, true, List, ◌++◌, Option, Some, None, IfSome, drop}
use Rattle.std.specs.Prelude.{take, length, slice_index}
use Rattle.std.specs.Prelude.{option_and_then}
use Rattle.std.specs.Option.{option_map}
use Rattle.std.specs.Borrow.{Bor}
use Rattle.std.specs.Str.{IsCharBoundary}
use Rattle.markdown_scan.specs.Unescape.{unescaped}
use Rattle.markdown_scan.specs.declared.entity.EntityNames.{EntityNames}
use Rattle.markdown_scan.specs.LineStart.{is_line_over}
use Rattle.markdown_lines.specs.DefinitionRules.{closing_mark, title_length}
use Rattle.markdown_lines.specs.DefinitionRules as rules
use Rattle.markdown_lines.specs.HeldPlaces.{IsEnd, IsPlace, count_to, rest_at}
use Rattle.markdown_lines.specs.Lines.{is_line_ending}
use Rattle.markdown_lines.specs.declared.definition.Spot.{Spot}
use Rattle.markdown_lines.specs.declared.definition.Tail.{Tail}
use Rattle.markdown_lines.specs.declared.definition.TitleLine.{TitleLine}
use Rattle.markdown_lines.specs.declared.definition.TitleLine.TheVariants as line
use Rattle.markdown_lines.specs.declared.held_line.HeldLine.{HeldLine}

-- the number of bytes between the marks of the title that bytes begin with
abbrev pub title_size : List ℕ → Option ℕ
title_size bytes = option_and_then (λ close. title_length close false (drop 1 bytes)) (closing_mark bytes)

-- what the content of a line says about the end of a title, whatever follows it: where nothing, or a line ending
abbrev pub TitleGoesOn : ℕ → List ℕ → List ℕ → TitleLine → Type 0
TitleGoesOn close content more (line.Closes before) =
    (before < length content)
    × ((slice_index content before ≡ close) × (title_length close false (content ++ more) ≡ Some before))
TitleGoesOn close content more line.Breaks = title_length close false (content ++ more) ≡ None
TitleGoesOn close content more line.None = is_line_ending close ≡ false → is_line_over more ≡ true
    → title_length close false (content ++ more)
    ≡ option_map (λ n. length content + n) (title_length close false more)

-- a title, from the spot of its opening mark up to that after its closing mark
pub record IsTitle (text : List ℕ) (lines : List HeldLine) (opening end : Spot) : Type 0 where
  pub begins : IsPlace text lines opening
  pub inside : opening.at < begins.line.stop
  pub opened : IsCharBoundary text (opening.at + 1)
  pub ends : IsEnd text lines end
  pub order : opening.line ≤ end.line
  pub closed : IsCharBoundary text (end.at - 1)
  pub size : ℕ
  pub title : title_size (rest_at text lines opening) ≡ Some size
  pub count : count_to lines end ≡ count_to lines opening + size + 2

-- the bytes of a title between its marks
abbrev pub title_between : List ℕ → List HeldLine → Spot → Spot → List ℕ
title_between text lines opening end =
    take (count_to lines end - count_to lines opening - 2) (drop 1 (rest_at text lines opening))

-- what follows a destination that ends before a spot, by the spots of its title and its end
abbrev pub tail_found : List ℕ → List HeldLine → Spot → Tail → rules.Tail
tail_found text lines after found = record {
  length = count_to lines found.end - count_to lines after;
  title = option_map (λ opening. title_between text lines opening found.end) found.title;
}

-- these spots are in the lines, one after the other
pub record IsTail (text : List ℕ) (lines : List HeldLine) (after : Spot) (found : Tail) : Type 0 where
  pub ends : IsEnd text lines found.end
  pub order : count_to lines after ≤ count_to lines found.end
  pub title : IfSome found.title (λ opening. IsTitle text lines opening found.end)

-- a definition, by its label, its destination as it is written, and the spots of its title and its end
abbrev pub defined_by : List ℕ → List HeldLine → EntityNames → List ℕ → Bor (List ℕ) × Tail → rules.Defined
defined_by text lines names label found = record {
  label = label;
  destination = unescaped names false found.0.now;
  title =
      option_map (λ opening. unescaped names false (title_between text lines opening found.1.end)) found.1.title;
  length = count_to lines found.1.end;
}

-- these spots are in the lines
pub record IsDefinedTail (text : List ℕ) (lines : List HeldLine) (found : Tail) : Type 0 where
  pub ends : IsEnd text lines found.end
  pub title : IfSome found.title (λ opening. IsTitle text lines opening found.end)
