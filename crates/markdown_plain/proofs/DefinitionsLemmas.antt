-- What a paragraph is divided into where its first definition is taken, and where there is none; and where a
-- definition ends in the lines of a paragraph.
use Rattle.std.proofs.Common.{◌≡◌, ℕ, zero, suc, ◌+◌, ◌-◌, ◌<◌, ◌≤◌, Bool, true, false, ◌==◌, List, [], ◌∷◌, ◌++◌}
use Rattle.std.proofs.Common.{Option, Some, None, length, drop, refl, sym, ap, ◌∙◌, arith, subst, codes, get_or}
use Rattle.std.proofs.Common.{append_assoc, if◌then◌else◌, nat_eq, nat_le, not, slice_range, take, length-append}
use Rattle.std.proofs.Common.{⊎_elim, true≢false, append-nil, drop-drop, length-drop, length-take, get_or-drop}
use Rattle.std.proofs.Common.{slice_get, option_map, slice_index, option_and_then, nat_lt, IsCharBoundary}
use Rattle.markdown_plain.proofs.Names.{cases_lt, nat_tests, prefix_len_passes, get_or_from_slice_get, slice_get-get_or}
use Rattle.markdown_plain.proofs.Names.{same_Some, prefix_len, option_or, IsCharBoundary-before_ascii, BuilderView}
use Rattle.markdown_plain.proofs.Names.{begins_with, divided, divided_in, AreHeldFrom, IsHeldLine, SourceLine, HeldLine}
use Rattle.markdown_plain.proofs.Names.{part_next, AreTextLines, IsParagraph, IsTextLine, is_line_over, AllPass}
use Rattle.markdown_plain.proofs.Names.{is_in_blank_line, is_space_or_tab}
use Rattle.std.proofs.lemmas.List.{get_or_append_left}
use Rattle.std.proofs.lemmas.Option.{slice_get_past}
use Rattle.std.specs.Option.{option_eq}
use Rattle.std.proofs.Math.Seq.{drop-append-add}
use Rattle.markdown_base.specs.CowText.{text_of}
use Rattle.markdown_builder.specs.BuilderView.{Definition, nothing_made}
use Rattle.markdown_scan.specs.declared.entity.EntityNames.{EntityNames}
use Rattle.markdown_lines.specs.DefinitionRules.{Defined, Divided, definition_at, definition_in, lines_behind}
use Rattle.markdown_lines.specs.DefinitionRules.{more_definitions, text_of_lines, Tail, closing_mark, ends_its_line}
use Rattle.markdown_lines.specs.DefinitionRules.{no_prefix, place_of, separation, tail_of, title_length, title_tail}
use Rattle.markdown_lines.specs.DefinitionRules.{titled, with_label, with_tail}
use Rattle.markdown_lines.specs.HeldDefinitions.{IsDefinitionOf, IsFirstDefinition}
use Rattle.markdown_lines.specs.HeldLines.{AreLinesOfSource, IsBracketPlace}
use Rattle.markdown_lines.specs.declared.definition.Definition.{Definition as Found}
use Rattle.markdown_lines.proofs.HeldLinesLemmas.{bounds_of}
use Rattle.markdown_plain.specs.Paragraphs.{IsDivided}
use Rattle.markdown_plain.specs.TakenDefinitions.{TakesDefinitions, after_definitions}
use Rattle.markdown_scan.specs.Backslash.{is_bare}
use Rattle.markdown_scan.specs.Destination.{angle_destination, angle_length, bare_destination, bare_length, destination}
use Rattle.markdown_scan.specs.Destination.{end_of_bare, is_past_bare, is_too_deep, open_after}
use Rattle.markdown_scan.specs.Label.{link_label}
use Rattle.markdown_lines.proofs.HeldBetweenLemmas.{ending_byte}
use Rattle.markdown_lines.specs.Lines.{is_line_ending}
use Rattle.markdown_plain.proofs.LeafTreesLemmas.{by_test, on_option, on_test}
use Rattle.markdown_plain.proofs.ParagraphTreesLemmas.{if_some, range_byte, range_length}

-- ---- what a paragraph is divided into

pub differs : (n m : ℕ) → (n ≡ m → ⊥) → (n == m) ≡ false
differs n m other = grind (arith, nat_tests)

-- a definition takes a line or more
pub fewer_behind : (lines : List SourceLine) (count : ℕ) → length (lines_behind lines count) ≤ length lines - 1
fewer_behind [] count = omega arith
fewer_behind (l ∷ lines) count =
    by_test (nat_le count (l.next - l.left.scanned)) (λ within. rw within (omega arith))
    (λ past. rw past (omega (arith, fewer_behind lines (count - (l.next - l.left.scanned)))))

-- there are no more definitions than lines
enough : (names : EntityNames) (n m : ℕ) (text : List ℕ) (lines : List SourceLine) → length lines ≤ n
    → length lines ≤ m → divided_in names n text lines ≡ divided_in names m text lines
unfolding divided_in
enough names zero zero text lines few also = refl
enough names zero (suc m) text [] few also = refl
enough names (suc n) zero text [] few also = refl
enough names (suc n) (suc m) text lines few also =
    on_option (λ found. more_definitions (divided_in names n text) lines found
    ≡ more_definitions (divided_in names m text) lines found) (definition_in names (text_of_lines text lines)) refl
    (λ d _. ap (after_definitions (definition_at lines d ∷ [])) (enough names n m text (lines_behind lines d.length)
    (omega (arith, fewer_behind lines d.length, few)) (omega (arith, fewer_behind lines d.length, also))))
enough names n m text lines few also = absurd (omega (arith, few, also))

-- where there is none
none_in : (names : EntityNames) (n : ℕ) (text : List ℕ) (lines : List SourceLine)
    → definition_in names (text_of_lines text lines) ≡ None
    → divided_in names n text lines ≡ record { definitions = []; lines = lines }
unfolding divided_in
none_in names zero text lines none = refl
none_in names (suc n) text lines none = ap (more_definitions (divided_in names n text) lines) none

-- lines of a paragraph after its first, or all where something is left of that
pub record AreFilled (text : List ℕ) (lines : List HeldLine) (sources : List SourceLine) : Type 0 where
  pub held : AreHeldFrom text 0 lines
  pub are : AreTextLines text lines sources

from_first : (text : List ℕ) (from : ℕ) (lines : List HeldLine) → AreHeldFrom text from lines → AreHeldFrom text 0 lines
from_first text from [] held = held
from_first text from (line ∷ lines) held = (omega arith, held.1)

pub paragraph_of : {text : List ℕ} {lines : List HeldLine} {sources : List SourceLine} → AreFilled text lines sources
    → IsParagraph text lines sources
paragraph_of {text} {lines = []} filled = record { inside = tt; are = filled.are }
paragraph_of {text} {lines = line ∷ lines} filled =
    let other = differs line.start line.stop (λ e. omega (arith, filled.held.1.0.some, e)) in
    record { inside = rw other filled.held; are = filled.are }

-- the lines behind the first
pub held_behind : {text : List ℕ} {line : HeldLine} {lines : List HeldLine} {sources : List SourceLine}
    → IsParagraph text (line ∷ lines) sources → AreHeldFrom text line.next lines
held_behind {text} {line} is =
    by_test (line.start == line.stop) (λ empty. rw empty at is.inside) (λ other. (rw other at is.inside).1.1)

pub filled_behind : {text : List ℕ} {line : HeldLine} {lines : List HeldLine} {source : SourceLine}
    {sources : List SourceLine} → IsParagraph text (line ∷ lines) (source ∷ sources) → AreFilled text lines sources
filled_behind {text} {line} {lines} is =
    record { held = from_first text line.next lines (held_behind is); are = is.are.1 }

-- what is left of them
pub filled_left : {text : List ℕ} {lines : List HeldLine} {sources : List SourceLine} (count : ℕ)
    → AreFilled text lines sources → AreFilled text (drop count lines) (drop count sources)
filled_left zero filled = filled
filled_left {lines = []} {sources = []} (suc count) filled = filled
filled_left {text} {lines = line ∷ lines} {sources = source ∷ sources} (suc count) filled =
    filled_left count (record { held = from_first text line.next lines filled.held.1.1; are = filled.are.1 })
filled_left (suc count) filled = absurd filled.are

-- there is something in each line
pub line_some : (text : List ℕ) (line : HeldLine) (source : SourceLine) → IsHeldLine text line
    → IsTextLine text line source → 0 < length source.left.bytes
line_some text line source is there =
    omega (arith, is.some, range_length text line.start line.stop is.content.high, ap length there.bytes)

divided_filled : {text : List ℕ} {lines : List HeldLine} {sources : List SourceLine} (names : EntityNames)
    → AreFilled text lines sources → divided names text sources ≡ divided_in names (length sources) text sources
divided_filled {lines = []} {sources = []} names filled = refl
divided_filled {text} {lines = line ∷ lines} {sources = source ∷ sources} names filled =
    let some = line_some text line source filled.held.1.0 filled.are.0 in
    rw (differs (length source.left.bytes) 0 (λ e. omega (arith, some, e))) refl
divided_filled names filled = absurd filled.are

-- a paragraph whose first line is not empty
pub filled_of : {text : List ℕ} {lines : List HeldLine} {sources : List SourceLine} {line : HeldLine}
    → slice_get lines 0 ≡ Some line → (line.start ≡ line.stop → ⊥) → IsParagraph text lines sources
    → AreFilled text lines sources
filled_of {lines = []} there some is = cc
filled_of {lines = first ∷ lines} {line} there some is =
    let other : (first.start == first.stop) ≡ false =
    rw (same_Some first line there) (differs line.start line.stop some) in
    record { held = rw other at is.inside; are = is.are }

-- where no line is taken, all are left
pub takes_nothing : (names : EntityNames) (builder : BuilderView) (lines : List HeldLine) (sources : List SourceLine)
    → IsParagraph builder.text lines sources → TakesDefinitions names builder builder lines sources 0
takes_nothing names builder lines sources is =
    record { first = []; definitions = sym (append-nil builder.definitions); others = refl; left = is }

-- the first line of a paragraph is taken, where it is empty
pub takes_empty : (names : EntityNames) (old new : BuilderView) {lines : List HeldLine} {sources : List SourceLine}
    {line : HeldLine} → slice_get lines 0 ≡ Some line → line.start ≡ line.stop → IsParagraph old.text lines sources
    → new.definitions ≡ old.definitions → TakesDefinitions names old new lines sources 1
takes_empty names old new {lines = first ∷ lines} {sources = source ∷ sources} {line} there none is kept =
    let empty : first.start ≡ first.stop = rw (same_Some first line there) none in let filled = filled_behind is in
    let size = length-take (first.stop - first.start) (drop first.start old.text) in
    let bytes : (length source.left.bytes == 0) ≡ true =
    grind (arith, nat_tests, ap length is.are.0.bytes, size, empty) in
    record {
      first = [];
      definitions = kept ∙ sym (append-nil old.definitions);
      others = rw bytes (enough names (suc (length sources)) (length sources) old.text sources (omega arith)
          (omega arith) ∙ sym (divided_filled names filled));
      left = paragraph_of filled;
    }
takes_empty names old new {lines = []} there none is kept = cc
takes_empty names old new there none is kept = absurd is.are

-- in no lines there is no definition
pub no_line : (names : EntityNames) (text : List ℕ) (lines : List HeldLine) (sources : List SourceLine)
    → slice_get lines 0 ≡ None → AreTextLines text lines sources
    → divided names text sources ≡ record { definitions = []; lines = sources }
no_line names text [] [] none are = none_in names 0 text [] refl
no_line names text [] (source ∷ sources) none are = absurd are
no_line names text (line ∷ lines) sources none are = cc

pub none_left : {names : EntityNames} {old new : BuilderView} {lines : List HeldLine} {sources : List SourceLine}
    {taken : ℕ} → TakesDefinitions names old new lines sources taken → length lines ≤ taken
    → divided names old.text (drop taken sources) ≡ record { definitions = []; lines = drop taken sources }
none_left {names} {old} {lines} {sources} {taken} takes all =
    no_line names old.text (drop taken lines) (drop taken sources)
    (slice_get_past (drop taken lines) 0 (omega (arith, length-drop taken lines, all))) takes.left.are

-- nor where none is at the beginning of a paragraph
pub none_there : {text : List ℕ} {lines : List HeldLine} {sources : List SourceLine} (names : EntityNames)
    → AreFilled text lines sources → definition_in names (text_of_lines text sources) ≡ None
    → divided names text sources ≡ record { definitions = []; lines = sources }
none_there {text} {lines} {sources} names filled none =
    divided_filled names filled ∙ none_in names (length sources) text sources none

-- nor where it begins with another byte than a `[`
pub no_bracket : {text : List ℕ} {lines : List HeldLine} {sources : List SourceLine} {line : HeldLine}
    (names : EntityNames) → slice_get lines 0 ≡ Some line → AreFilled text lines sources
    → (slice_get text line.start ≡ Some 91 → ⊥)
    → divided names text sources ≡ record { definitions = []; lines = sources }
no_bracket {text} {lines = first ∷ lines} {sources = source ∷ sources} {line} names there filled other =
    let bounds = bounds_of text first filled.held.1.0 in
    let within : first.start < length text = omega (arith, bounds.stop, bounds.next, bounds.within) in
    let not = differs 91 (get_or text first.start 0) (λ e. other (rw (← same_Some first line there)
    (slice_get-get_or text first.start 0 within ∙ ap Some (sym e)))) in
    let part = part_next text first.start first.next (omega (arith, bounds.stop, bounds.next)) within in
    none_there names filled (rw (← filled.are.0.start, ← filled.are.0.next, part, not) refl)
no_bracket {text} {lines = []} names there filled other = cc
no_bracket {text} {lines = first ∷ lines} {sources = []} names there filled other = absurd filled.are

-- lines of a paragraph are lines of the source
lines_of_source : (text : List ℕ) (lines : List HeldLine) (sources : List SourceLine)
    → AreTextLines text lines sources → AreLinesOfSource lines sources
lines_of_source text [] [] are = are
lines_of_source text (line ∷ lines) (source ∷ sources) are =
    (are.0.start, (are.0.next, lines_of_source text lines sources are.1))
lines_of_source text lines sources are = absurd are

pub as_many : (text : List ℕ) (lines : List HeldLine) (sources : List SourceLine) → AreTextLines text lines sources
    → length lines ≡ length sources
as_many text [] [] are = refl
as_many text (line ∷ lines) (source ∷ sources) are = ap suc (as_many text lines sources are.1)
as_many text lines sources are = absurd are

-- whether the first byte is a `[`
pub bracket_byte : (found : Option ℕ) → not (option_eq nat_eq found (Some 91)) ≡ false → found ≡ Some 91
bracket_byte found e = grind (arith, nat_tests, e)

pub no_bracket_byte : (found : Option ℕ) → not (option_eq nat_eq found (Some 91)) ≡ true → found ≡ Some 91 → ⊥
no_bracket_byte found e same = true≢false (sym (rw same at e))

-- what is read at the beginning of a paragraph that begins with a `[`
pub first_read : {text : List ℕ} {lines : List HeldLine} {sources : List SourceLine} {line : HeldLine}
    (names : EntityNames) (found : Option Found) → slice_get lines 0 ≡ Some line → AreFilled text lines sources
    → slice_get text line.start ≡ Some 91 → ((sources : List SourceLine) → AreLinesOfSource lines sources
    → IsBracketPlace text lines line.start → IsFirstDefinition names text sources line.start found)
    → IsFirstDefinition names text sources line.start found
first_read {text} {lines} {sources} {line} names found there filled is reads =
    reads sources (lines_of_source text lines sources filled.are) (record {
      held = filled.held;
      line = line;
      there = there;
      begins = refl;
      bracket = get_or_from_slice_get text line.start 91 0 is;
    })

-- the first definition is taken, and then there are those after it
pub takes_first : {names : EntityNames} {old new : BuilderView} {lines : List HeldLine} {sources : List SourceLine}
    {at : ℕ} {found : Found} → AreFilled old.text lines sources → IsDefinitionOf names old.text sources at found
    → new.definitions ≡ old.definitions ++ record {
      label = text_of found.label;
      destination = text_of found.destination;
      title = option_map text_of found.title;
      start = at;
      end = found.end;
    } ∷ [] → TakesDefinitions names old new lines sources found.lines
unfolding divided_in
takes_first {names} {old} {new} {lines} {sources = []} filled is adds = absurd (omega (arith, is.lines))
takes_first {names} {old} {new} {lines} {sources = source ∷ sources} {at} {found} filled is adds =
    let left = filled_left found.lines filled in let rest = drop found.lines (source ∷ sources) in
    let begins = λ (others : Divided). after_definitions (definition_at (source ∷ sources) is.defined ∷ []) others in
    record {
      first = definition_at (source ∷ sources) is.defined ∷ [];
      definitions = adds ∙ rw (is.label, is.destination, is.title, is.start, is.end) refl;
      others = divided_filled names filled
          ∙ (ap (more_definitions (divided_in names (length sources) old.text) (source ∷ sources)) is.is
          ∙ (ap (λ (ls : List SourceLine). begins (divided_in names (length sources) old.text ls)) is.behind
          ∙ ap begins (enough names (length sources) (length rest) old.text rest
          (omega (arith, is.lines, length-drop found.lines (source ∷ sources))) (omega arith)
          ∙ sym (divided_filled names left))));
      left = paragraph_of left;
    }

-- more are taken
pub takes_more : {names : EntityNames} {old mid new : BuilderView} {lines : List HeldLine} {sources : List SourceLine}
    {taken more : ℕ} → mid.text ≡ old.text → TakesDefinitions names old mid lines sources taken
    → TakesDefinitions names mid new (drop taken lines) (drop taken sources) more
    → TakesDefinitions names old new lines sources (more + taken)
takes_more {names} {old} {mid} {new} {lines} {sources} {taken} {more} text before after =
    let count : taken + more ≡ more + taken = omega arith in
    let here : drop more (drop taken lines) ≡ drop (more + taken) lines = rw (drop-drop, count) refl in
    let there : drop more (drop taken sources) ≡ drop (more + taken) sources = rw (drop-drop, count) refl in
    let rest = divided names old.text (drop more (drop taken sources)) in
    record {
      first = before.first ++ after.first;
      definitions = rw (after.definitions, before.definitions) (append_assoc old.definitions before.first after.first);
      others = rw (← there, before.others, rw text at after.others)
          (ap (λ (ds : List Definition). record { definitions = ds; lines = rest.lines })
          (sym (append_assoc before.first after.first rest.definitions)));
      left = rw (← here, ← there, ← text) after.left;
    }

-- all are taken
pub is_divided : {names : EntityNames} {old new : BuilderView} {lines : List HeldLine} {sources : List SourceLine}
    {taken : ℕ} → TakesDefinitions names old new lines sources taken
    → divided names old.text (drop taken sources) ≡ record { definitions = []; lines = drop taken sources }
    → IsDivided names old new sources taken
is_divided {names} {old} {new} {lines} {sources} {taken} takes over =
    let others = rw over at takes.others in
    record {
      definitions = rw (takes.definitions, others, append-nil takes.first) refl;
      lines = sym (ap (λ (d : Divided). d.lines) others);
    }

-- ---- lines that are definitions alone

-- definitions are in the first of some lines of a paragraph, and those that follow in the others
abbrev pub AreTaken : EntityNames → List ℕ → List HeldLine → List SourceLine → ℕ → Type 0
AreTaken names text lines sources taken =
    let old = nothing_made text in
    (ds : List Definition) × TakesDefinitions names old (record old { definitions = ds }) lines sources taken

-- where what is left begins with none, as many lines are left
pub lines_left : {names : EntityNames} {text : List ℕ} {lines : List HeldLine} {sources : List SourceLine} {taken : ℕ}
    → (are : AreTaken names text lines sources taken)
    → divided names text (drop taken sources) ≡ record { definitions = []; lines = drop taken sources }
    → length (divided names text sources).lines ≡ length lines - taken
lines_left {names} {text} {lines} {sources} {taken} are over =
    let same = ap (λ (d : Divided). length d.lines) (rw over at are.1.others) in
    let many = as_many text (drop taken lines) (drop taken sources) are.1.left.are in
    omega (arith, same, many, length-drop taken lines)

-- the line that comes next
pub next_line : (lines : List HeldLine) (taken : ℕ) (line : HeldLine) → slice_get lines taken ≡ Some line
    → slice_get (drop taken lines) 0 ≡ Some line
next_line lines zero line there = there
next_line [] (suc taken) line there = cc
next_line (first ∷ lines) (suc taken) line there = next_line lines taken line there

-- the first line is empty where it does not end after it begins
pub first_empty : {text : List ℕ} {lines : List HeldLine} {sources : List SourceLine} {line : HeldLine}
    → slice_get lines 0 ≡ Some line → line.stop ≤ line.start → IsParagraph text lines sources → line.start ≡ line.stop
first_empty {lines = []} there none is = cc
first_empty {lines = first ∷ lines} {line} there none is =
    let more : first.stop ≤ first.start = rw (same_Some first line there) none in
    rw (← same_Some first line there) (by_test (first.start == first.stop) (λ same. grind (arith, nat_tests, same))
    (λ other. absurd (omega (arith, more, (rw other at is.inside).1.0.some))))

-- ---- values that are there

some_unless : {A : Type 0} (test : Bool) (value : Option A) (a : A) → (if test then None else value) ≡ Some a
    → (test ≡ false) × (value ≡ Some a)
some_unless true value a e = absurd (grind (arith, e))
some_unless false value a e = (refl, e)

some_then : {A B : Type 0} (f : A → Option B) (value : Option A) (b : B) → option_and_then f value ≡ Some b
    → (a : A) × (value ≡ Some a) × (f a ≡ Some b)
some_then f None b e = absurd (grind (arith, e))
some_then f (Some a) b e = (a, refl, e)

some_mapped : {A B : Type 0} (f : A → B) (value : Option A) (b : B) → option_map f value ≡ Some b
    → (a : A) × (value ≡ Some a) × (f a ≡ b)
some_mapped f None b e = absurd (grind (arith, e))
some_mapped f (Some a) b e = (a, refl, same_Some (f a) b e)

-- ---- lengths of the parts

-- the length of a part of a definition that is read byte by byte, up to where it ends, if it goes on there
counted : (over breaks : Bool) (here rest : Option ℕ) (n most : ℕ) → (here ≡ Some n → n ≤ most)
    → ((m : ℕ) → rest ≡ Some m → m < most)
    → (if over then here else if breaks then None else option_map (λ n. 1 + n) rest) ≡ Some n → n ≤ most
counted true breaks here rest n most ends goes_on e = ends e
counted false false here (Some m) n most ends goes_on e = omega (arith, goes_on m refl, same_Some (1 + m) n e)
counted over breaks here rest n most ends goes_on e = absurd (grind (arith, e))

title_within : (close : ℕ) (escaped : Bool) (bytes : List ℕ) (n : ℕ) → title_length close escaped bytes ≡ Some n
    → n < length bytes
title_within close escaped [] n e = absurd (grind (arith, e))
title_within close escaped (b ∷ bytes) n e =
    let most = counted _ _ (Some 0) (title_length close (is_bare escaped b 92) bytes) n (length bytes)
    (λ is. omega (arith, same_Some 0 n is)) (title_within close (is_bare escaped b 92) bytes) e in
    omega (arith, most)

angle_within : (escaped : Bool) (bytes : List ℕ) (n : ℕ) → angle_length escaped bytes ≡ Some n → n < length bytes
angle_within escaped [] n e = absurd (grind (arith, e))
angle_within escaped (b ∷ bytes) n e =
    let most = counted _ _ (Some 0) (angle_length (is_bare escaped b 92) bytes) n (length bytes)
    (λ is. omega (arith, same_Some 0 n is)) (angle_within (is_bare escaped b 92) bytes) e in
    omega (arith, most)

-- nothing is left of a destination where it ends
none_bare : (opened n most : ℕ) → end_of_bare opened ≡ Some n → n ≤ most
none_bare opened n most e = omega (arith, same_Some 0 n (if_some (opened == 0) (Some 0) n e).1)

bare_within : (most : ℕ) (escaped : Bool) (opened : ℕ) (bytes : List ℕ) (n : ℕ)
    → bare_length most escaped opened bytes ≡ Some n → n ≤ length bytes
bare_within most escaped opened [] n e = none_bare opened n 0 e
bare_within most escaped opened (b ∷ bytes) n e =
    counted (is_past_bare escaped opened b) (is_too_deep most escaped opened b) (end_of_bare opened)
    (bare_length most (is_bare escaped b 92) (open_after escaped b opened) bytes) n (suc (length bytes))
    (none_bare opened n (suc (length bytes)))
    (λ m is. omega (arith, bare_within most (is_bare escaped b 92) (open_after escaped b opened) bytes m is)) e

destination_within : (bytes : List ℕ) (found : ℕ × List ℕ) → destination 32 bytes ≡ Some found → found.0 ≤ length bytes
destination_within bytes found =
    on_test (λ (value : Option (ℕ × List ℕ)). value ≡ Some found → found.0 ≤ length bytes)
    (slice_index bytes 0 == 60) (angle_destination (drop 1 bytes)) (bare_destination 32 bytes) (λ angle is.
    let n = some_mapped (λ (n : ℕ). (n + 2, take n (drop 1 bytes))) (angle_length false (drop 1 bytes)) found is in
    omega (arith, angle_within false (drop 1 bytes) n.0 n.1, length-drop 1 bytes, ap (λ (f : ℕ × List ℕ). f.0) n.2))
    (λ bare is.
    let n = some_mapped (λ (n : ℕ). (n, take n bytes)) (bare_length 32 false 0 bytes) found is in
    omega (arith, bare_within 32 false 0 bytes n.0 n.1, ap (λ (f : ℕ × List ℕ). f.0) n.2))

-- ---- the end of a definition

-- so many bytes end in their line, after which it is over
record EndsLine (bytes : List ℕ) (n : ℕ) : Type 0 where
  within : n ≤ length bytes
  over : ends_its_line (drop n bytes) ≡ true

title_ends : (bytes : List ℕ) (tail : Tail) → title_tail bytes ≡ Some tail → EndsLine bytes tail.length
title_ends bytes tail e =
    let before = separation bytes in let rest = drop before bytes in let some = some_unless (before == 0) _ tail e in
    let title = some_then (titled before rest)
    (option_and_then (λ close. title_length close false (drop 1 rest)) (closing_mark rest)) tail some.1 in
    let n = title.0 in
    let closed = some_then (λ close. title_length close false (drop 1 rest)) (closing_mark rest) n title.1 in
    let ends = if_some (ends_its_line (drop (n + 2) rest)) _ tail title.2 in
    let sum : before + (n + 2) ≡ tail.length = omega (arith, ap (λ (t : Tail). t.length) (same_Some _ tail ends.1)) in
    let less = title_within closed.0 false (drop 1 rest) n closed.2 in
    record {
      within = omega (arith, less, length-drop 1 rest, length-drop before bytes, sum);
      over = rw (drop-drop (n + 2) before bytes, sum) at ends.0;
    }

tail_ends : (bytes : List ℕ) (tail : Tail) → tail_of bytes ≡ Some tail → EndsLine bytes tail.length
tail_ends bytes tail =
    on_option (λ title. option_or title
    (if ends_its_line bytes then Some (record { length = 0; title = None }) else None) ≡ Some tail
    → EndsLine bytes tail.length) (title_tail bytes) (λ is.
    let ends = if_some (ends_its_line bytes) _ tail is in
    rw (← ap (λ (t : Tail). t.length) (same_Some _ tail ends.1)) (record { within = omega arith; over = ends.0 }))
    (λ found was is. rw (← same_Some found tail is) (title_ends bytes found was))

-- a definition ends in its line, and is not empty
definition_ends : (names : EntityNames) (bytes : List ℕ) (d : Defined) → definition_in names bytes ≡ Some d
    → (0 < d.length) × EndsLine bytes d.length
definition_ends names bytes d e =
    let begins = if_some (begins_with (codes "[") bytes) _ d e in
    let label = some_then (with_label names bytes) (link_label no_prefix false (drop 1 bytes)) d begins.1 in
    let start = label.0.0 + 1 in let rest = drop start bytes in let before = 1 + separation (drop 1 rest) in
    let bare = drop before rest in let colon = if_some (begins_with (codes ":") rest) _ d label.2 in
    let found = some_then (λ (found : ℕ × List ℕ). if found.0 == 0 then None
    else with_tail names label.0.1 (start + before + found.0) found.1 (drop found.0 bare)) (destination 32 bare) d
    colon.1 in
    let target = found.0.0 in let more = some_unless (target == 0) _ d found.2 in
    let some : 0 < target = grind (arith, nat_tests, more.0) in
    let tail = some_mapped _ (tail_of (drop target bare)) d more.1 in
    let ends = tail_ends (drop target bare) tail.0 tail.1 in
    let size : start + before + target + tail.0.length ≡ d.length = ap (λ (d : Defined). d.length) tail.2 in
    let sum : start + (before + (target + tail.0.length)) ≡ d.length = omega (arith, size) in
    let within = destination_within bare found.0 found.1 in let left = length-drop target bare in
    let behind = length-drop before rest in
    let most : d.length ≤ length bytes =
    omega (arith, some, sum, ends.within, within, left, behind, length-drop start bytes) in
    let more = rw (drop-drop tail.0.length target bare, drop-drop (target + tail.0.length) before rest) at ends.over in
    let over = rw (drop-drop (before + (target + tail.0.length)) start bytes, sum) at more in
    (omega (arith, some, sum), record { within = most; over = over })

-- ---- the bytes that follow it in its line

-- where a line is over after spaces and tabs, a byte before its ending is one of these
space_before : (bytes : List ℕ) (k : ℕ) → ends_its_line bytes ≡ true → k < length bytes
    → ((j : ℕ) → j ≤ k → is_line_ending (get_or bytes j 0) ≡ false) → is_space_or_tab (get_or bytes k 0) ≡ true
space_before bytes k e less none =
    let n = prefix_len is_space_or_tab bytes in
    ⊎_elim (λ (inside : k < n). prefix_len_passes is_space_or_tab bytes k 0 inside) (λ (past : n ≤ k).
    absurd (true≢false (sym (over_at bytes n (omega (arith, past, less)) e) ∙ none n past))) (cases_lt k n)
  where
    over_at : (bytes : List ℕ) (n : ℕ) → n < length bytes → is_line_over (drop n bytes) ≡ true
        → is_line_ending (get_or bytes n 0) ≡ true
    over_at [] n less e = absurd (omega (arith, less))
    over_at (b ∷ bytes) zero less e = e
    over_at (b ∷ bytes) (suc n) less e = over_at bytes n (omega (arith, less)) e

-- a byte offset in a line, after which there is only white space
pub record IsEndIn (text : List ℕ) (line : HeldLine) (end : ℕ) : Type 0 where
  pub low : line.start ≤ end
  pub high : end ≤ line.next
  pub boundary : IsCharBoundary text end
  pub white : AllPass is_in_blank_line text end line.next

-- what follows so many bytes of a line, where they end it
end_in_line : (text : List ℕ) (line : HeldLine) (more : List ℕ) (n end : ℕ) → IsHeldLine text line
    → IsCharBoundary text line.next → n ≤ line.next - line.start → end ≡ line.start + n
    → ends_its_line (drop n (slice_range text line.start line.next ++ more)) ≡ true → IsEndIn text line end
end_in_line text line more n end is boundary most place over =
    let bounds = bounds_of text line is in let line_bytes = slice_range text line.start line.next in
    let bytes = line_bytes ++ more in let size = range_length text line.start line.next bounds.within in
    let byte : (k : ℕ) → end + k < line.next → get_or (drop n bytes) k 0 ≡ get_or text (end + k) 0 = λ k less.
    let there : line.start + (n + k) ≡ end + k = omega (arith, place) in
    let left = get_or_append_left line_bytes more 0 (n + k) (omega (arith, less, size, place)) in
    let inside = range_byte text line.start line.next (n + k) (omega (arith, less, place)) in
    rw (get_or-drop n bytes k 0, left, inside, there) refl in
    let white : AllPass is_in_blank_line text end line.next = λ at low high.
    ⊎_elim (λ (before : at < line.stop).
    let k = at - end in let there : end + k ≡ at = omega (arith, low) in
    let space = space_before (drop n bytes) k over
    (omega (arith, length-drop n bytes, length-append line_bytes more, size, high, place, there))
    (λ j few. rw (byte j (omega (arith, few, high, there))) (is.content.content (end + j) (omega (arith, place))
    (omega (arith, few, before, there)))) in
    grind (arith, nat_tests, rw (byte k (omega (arith, high, there)), there) at space))
    (λ (after : line.stop ≤ at). grind (arith, nat_tests, ending_byte text line is at after high))
    (cases_lt at line.stop) in
    record {
      low = omega (arith, place);
      high = omega (arith, most, bounds.stop, bounds.next, place);
      boundary = ⊎_elim (λ (less : end < line.next). IsCharBoundary-before_ascii text end
          (omega (arith, less, bounds.within)) (grind (arith, nat_tests, white end (omega arith) less)))
          (λ (last : line.next ≤ end).
          let same : line.next ≡ end = omega (arith, last, most, bounds.stop, bounds.next, place) in
          rw same at boundary) (cases_lt end line.next);
      white = white;
    }

-- ---- the line in which it ends

-- a text may be cut after each of some lines
abbrev pub MayCut : List ℕ → List HeldLine → Type 0
MayCut text [] = Unit
MayCut text (line ∷ lines) = IsCharBoundary text line.next × MayCut text lines

-- the lines of the definition of blocks that held lines are
abbrev pub sources_of : List ℕ → List HeldLine → List SourceLine
sources_of text [] = []
sources_of text (line ∷ lines) = record {
  left = record { scanned = line.start; owed = 0; column = 0; bytes = slice_range text line.start line.stop };
  next = line.next;
  outermost = true;
  indent = None;
} ∷ sources_of text lines

pub are_sources : (text : List ℕ) (lines : List HeldLine) → AreTextLines text lines (sources_of text lines)
are_sources text [] = tt
are_sources text (line ∷ lines) = (record { start = refl; bytes = refl; next = refl }, are_sources text lines)

-- a definition ends in the last of so many lines
pub record IsSpanIn (text : List ℕ) (lines : List HeldLine) (end count : ℕ) : Type 0 where
  pub number : ℕ
  pub line : HeldLine
  pub there : slice_get lines number ≡ Some line
  pub count_is : count ≡ suc number
  pub ends : IsEndIn text line end

-- so many bytes of joined lines end in one of them
span_at : (text : List ℕ) (from : ℕ) (lines : List HeldLine) (n count : ℕ) → AreHeldFrom text from lines
    → MayCut text lines → 0 < n → EndsLine (text_of_lines text (sources_of text lines)) n
    → length (lines_behind (sources_of text lines) n) + count ≡ length (sources_of text lines)
    → IsSpanIn text lines (place_of (sources_of text lines) (n - 1) + 1) count
span_at text from [] n count held cuts some is behind = absurd (omega (arith, some, is.within))
span_at text from (line ∷ lines) n count held cuts some is behind =
    by_test (nat_le n size) (λ before.
    let inside : nat_lt (n - 1) size ≡ true = grind (arith, nat_tests, before, some) in
    record {
      number = 0;
      line = line;
      there = refl;
      count_is = omega (arith, rw before at behind);
      ends = rw inside (end_in_line text line rest n _ held.1.0 cuts.0 (grind (arith, nat_tests, before))
          (omega (arith, some)) is.over);
    }) (λ past.
    let less : size < n = grind (arith, nat_tests, past) in
    let outside : nat_lt (n - 1) size ≡ false = grind (arith, nat_tests, less) in
    let split : length first + (n - size) ≡ n = omega (arith, first_size, less) in
    let order : (n - size) - 1 ≡ n - 1 - size = omega arith in
    let few = fewer_behind (sources_of text lines) (n - size) in
    let found = span_at text line.next lines (n - size) (count - 1) held.1.1 cuts.1 (omega (arith, less)) (record {
      within = omega (arith, length-append first rest, is.within, first_size);
      over = rw (← split, drop-append-add first rest (n - size)) at is.over;
    }) (omega (arith, rw past at behind, few)) in
    record {
      number = suc found.number;
      line = found.line;
      there = found.there;
      count_is = omega (arith, rw past at behind, few, found.count_is);
      ends = rw outside
          (subst (λ k. IsEndIn text found.line (place_of (sources_of text lines) k + 1)) order found.ends);
    })
  where
    size : ℕ
    size = line.next - line.start

    rest : List ℕ
    rest = text_of_lines text (sources_of text lines)

    first : List ℕ
    first = slice_range text line.start line.next

    first_size : length first ≡ size
    first_size = range_length text line.start line.next (bounds_of text line held.1.0).within

-- the definition that was read ends in the last of its lines
pub definition_span : {names : EntityNames} {text : List ℕ} {lines : List HeldLine} {at : ℕ} {found : Found}
    → AreFilled text lines (sources_of text lines) → MayCut text lines
    → IsDefinitionOf names text (sources_of text lines) at found → IsSpanIn text lines found.end found.lines
definition_span {names} {text} {lines} {at} {found} filled cuts is =
    let sources = sources_of text lines in
    let ends = definition_ends names (text_of_lines text sources) is.defined is.is in
    rw is.end (span_at text 0 lines is.defined.length found.lines filled.held cuts ends.0 ends.1
    (omega (arith, ap length is.behind, length-drop found.lines sources, is.lines)))
