-- What a reader of the rest of a line finds lies between characters of the text.
use Rattle.std.proofs.Common.{◌≡◌, ℕ, zero, suc, ◌+◌, ◌-◌, ◌<◌, ◌≤◌, Bool, true, false, ◌||◌, ◌==◌, inl, inr, List, []}
use Rattle.std.proofs.Common.{◌∷◌, Option, Some, None, arith, drop, length, nat_lt, refl, sym, ap, ◌∙◌, subst, take}
use Rattle.markdown_plain.proofs.Names.{list_all, prefix_len, suffix_len, eqb_tells, nat_tests, prefix_len-le-length}
use Rattle.markdown_plain.proofs.Names.{prefix_len_passes, IsCharBoundary-after_ascii, IsCharBoundary-before_ascii}
use Rattle.markdown_plain.proofs.Names.{HeadingLevel, LineLeft, leading_space, Source, Beginning, begins, begins_after}
use Rattle.markdown_plain.proofs.Names.{past_bytes, beginning_found, left_at, line_at, source_read}
use Rattle.markdown_plain.proofs.Names.{without_end, is_space_or_tab, SourceLine, is_blank_rest, AtxHeading, BlockStart}
use Rattle.markdown_plain.proofs.Names.{Braces, LineReader, Line, slice_same, trimmed_is, in_part, rest_of_part}
use Rattle.markdown_plain.proofs.Names.{content_of, either, LineRest, Pass, IsFound, IsLeft, IsContentAt}
use Rattle.std.specs.Prelude.{if◌then◌else◌, slice_index, slice_range}
use Rattle.std.specs.Option.{option_map}
use Rattle.std.specs.Str.{IsCharBoundary, IsUtf8}
use Rattle.std.proofs.lemmas.List.{get_or-drop, get_or-reverse, get_or-take, length-drop, length-take}
use Rattle.std.proofs.lemmas.List.Sums.{suffix_len-le-length}
use Rattle.markdown_base.specs.HeadingLevels.{level_of}
use Rattle.markdown_lines.specs.AtxHeadings.{atx_heading_at, heading_content, heading_from, is_hash}
use Rattle.markdown_lines.specs.BlockBeginnings.{break_in_line, fence_in_line, first_found, footnote_in_line}
use Rattle.markdown_lines.specs.BlockBeginnings.{footnote_marker, heading_in_line, html_in_line, label_before_colon}
use Rattle.markdown_lines.specs.BlockBeginnings.{quote_in_line, quote_of, quote_or_alert, underline_in_line}
use Rattle.markdown_lines.specs.BlockBeginnings.{whole_heading}
use Rattle.markdown_lines.specs.BlockStarts.{IsSameLine, begins_unless_blank}
use Rattle.markdown_lines.specs.CodeFences.{opening_fence_at, opens_fence, run_length}
use Rattle.markdown_lines.specs.HeadingAttributes.{attributed, attributed_by, braces_in, braces_to, is_enclosed}
use Rattle.markdown_lines.specs.LineBytes.{is_parted}
use Rattle.markdown_lines.specs.declared.block_start.Before.{Before}
use Rattle.markdown_plain.specs.Beginning.{Begins, FoundFits, FoundStands, IsHeadingIn, MayBeginBlock, MayRead, Reads}
use Rattle.markdown_plain.specs.Beginning.{StandsAsText}
use Rattle.markdown_plain.specs.Fitting.{BracesStand}
use Rattle.markdown_plain.specs.OpenLeaves.{InfoStands}
use Rattle.markdown_lines.specs.BlockBeginnings as line
use Rattle.markdown_lines.specs.declared.block_start.BlockStart.TheVariants as start
use Rattle.markdown_plain.proofs.FoundBlocksLemmas.{found_begins, found_same, here_left, here_same, here_text}
use Rattle.markdown_plain.proofs.FoundBlocksLemmas.{is_held_line, line_same}
use Rattle.markdown_plain.proofs.LeafTreesLemmas.{on_test}
use Rattle.markdown_plain.proofs.BegunLemmas.{IfFound, after_holds, begins_holds, underline_holds}
use Rattle.markdown_plain.proofs.ReachedFramesLemmas.{space_alike}
use Rattle.markdown_plain.proofs.ReadyLinesLemmas.{stop_between}
use Rattle.markdown_plain.proofs.TextReachedLemmas.{IsWithin, content_at, marker_within, next_within, space_within}

-- ---- where the content begins

-- what is left of a line begins between characters
left_within : (s : Source) (rest : LineRest) (source : SourceLine) → IsLeft s rest source
    → IsWithin s.text rest.line.start source.left
left_within s rest source left =
    subst (IsWithin s.text rest.line.start) left.is.rest.left (record {
      own = slice_same s.text rest.position.at rest.line.stop;
      boundary = left.boundary;
      low = left.after;
    })

-- and so does its content
pub left_content : (s : Source) (rest : LineRest) (source : SourceLine) (at : ℕ) → IsLeft s rest source
    → is_blank_rest source ≡ false → at ≡ content_of source → IsContentAt s.text rest.line source at
left_content s rest source at left filled here =
    content_at at left.utf8 (left_within s rest source left) left.is.rest left.is.stop filled here

-- it is a line of text
pub left_stands : (s : Source) (rest : LineRest) (source : SourceLine) (at : ℕ) → IsLeft s rest source
    → is_blank_rest source ≡ false → at ≡ content_of source → StandsAsText s.text rest.line at
left_stands s rest source at left filled here =
    is_held_line s.text rest.line source at (left_content s rest source at left filled here) left.from

-- ---- bytes

-- a byte that is not 0 is there
byte_there : (bytes : List ℕ) (i : ℕ) → 0 < slice_index bytes i → i < length bytes
byte_there [] i some = absurd (omega (arith, some))
byte_there (b ∷ bytes) zero some = omega arith
byte_there (b ∷ bytes) (suc i) some = omega (arith, byte_there bytes i some)

-- and what was taken of the bytes has it where they do
taken_byte : (n : ℕ) (bytes : List ℕ) (i : ℕ) → 0 < slice_index (take n bytes) i
    → slice_index (take n bytes) i ≡ slice_index bytes i
taken_byte n bytes i some =
    get_or-take n bytes i 0 (omega (arith, byte_there (take n bytes) i some, length-take n bytes))

-- the first byte of those that are at the end, and pass a test
first_at_end : (test : ℕ → Bool) (bytes : List ℕ) → length (without_end test bytes) < length bytes
    → test (slice_index bytes (length (without_end test bytes))) ≡ true
first_at_end test bytes less =
    let count = suffix_len test bytes in let n = length (without_end test bytes) in
    let trimmed : length bytes - count ≡ n = trimmed_is test bytes in
    let some : 0 < count = omega (arith, trimmed, less) in let most = suffix_len-le-length test bytes in
    let place : length bytes - 1 - (count - 1) ≡ n = omega (arith, trimmed, some, most) in
    rw (← place, ← get_or-reverse bytes (count - 1) 0 (omega (arith, some, most)))
    (prefix_len_passes test _ (count - 1) 0 (omega (arith, some)))

-- ---- the braces of a heading

-- these bytes are braces
abbrev AreBraces : List ℕ → Option Braces → Type 0
AreBraces bytes None = Unit
AreBraces bytes (Some braces) = (slice_index bytes braces.opening ≡ 123) × (slice_index bytes braces.closing ≡ 125)

braces_there : (bytes : List ℕ) → AreBraces bytes (braces_in bytes)
braces_there bytes =
    let trimmed = without_end is_space_or_tab bytes in let last = length trimmed - 1 in
    let opened = without_end is_enclosed (take last bytes) in let first = length opened - 1 in
    on_test (AreBraces bytes) (slice_index trimmed last == 125) (braces_to last bytes) None (λ closes.
    let close : slice_index trimmed last ≡ 125 = grind (arith, nat_tests, closes) in
    on_test (AreBraces bytes) (slice_index opened first == 123)
    (Some (record { opening = first; closing = last })) None (λ opens.
    let open_one : slice_index opened first ≡ 123 = grind (arith, nat_tests, opens) in
    let taken : slice_index opened first ≡ slice_index (take last bytes) first =
    taken_byte (length (take last bytes) - suffix_len is_enclosed (take last bytes)) (take last bytes) first
    (omega (arith, open_one)) in (
      sym (taken_byte last bytes first (omega (arith, taken, open_one))) ∙ (sym taken ∙ open_one),
      sym (taken_byte (length bytes - suffix_len is_space_or_tab bytes) bytes last (omega (arith, close))) ∙ close,
    )) (λ none. tt)) (λ none. tt)

-- ---- the content of a heading

-- bytes were cut off at an ASCII byte, if at all
record IsCut (bytes kept : List ℕ) : Type 0 where
  same : (i : ℕ) → i < length kept → slice_index kept i ≡ slice_index bytes i
  high : length kept ≤ length bytes
  ascii : length kept < length bytes → slice_index bytes (length kept) < 128

cut_more : (bytes kept fewer : List ℕ) → IsCut bytes kept → IsCut kept fewer → IsCut bytes fewer
cut_more bytes kept fewer is more =
    let other = more.high in
    record {
      same = λ i less. more.same i less ∙ is.same i (omega (arith, less, other));
      high = omega (arith, is.high, other);
      ascii = λ less. elim (eqb_tells (length fewer) (length kept)) [
        | inl all ↦ rw all.1 (is.ascii (omega (arith, all.1, less)))
        | inr some ↦ let fits : length fewer < length kept = omega (arith, some.1, other) in
            rw (← is.same (length fewer) fits) (more.ascii fits)
      ];
    }

cut_taken : (n : ℕ) (bytes : List ℕ) → n < length bytes → slice_index bytes n < 128 → IsCut bytes (take n bytes)
cut_taken n bytes less ascii =
    let size : length (take n bytes) ≡ n = omega (arith, length-take n bytes, less) in
    record {
      same = λ i few. get_or-take n bytes i 0 (omega (arith, few, size));
      high = omega (arith, size, less);
      ascii = λ some. rw size ascii;
    }

cut_end : (test : ℕ → Bool) → ((b : ℕ) → test b ≡ true → b < 128) → (bytes : List ℕ)
    → IsCut bytes (without_end test bytes)
cut_end test small bytes =
    let n = length bytes - suffix_len test bytes in
    record {
      same = λ i few. get_or-take n bytes i 0 (omega (arith, few, length-take n bytes));
      high = omega (arith, length-take n bytes);
      ascii = λ less. small (slice_index bytes (length (without_end test bytes))) (first_at_end test bytes less);
    }

small_white : (b : ℕ) → is_space_or_tab b ≡ true → b < 128
small_white b white = grind (arith, nat_tests, white)

small_hash : (b : ℕ) → is_hash b ≡ true → b < 128
small_hash b hash = grind (arith, nat_tests, hash)

cut_heading : (bytes : List ℕ) → IsCut bytes (heading_content bytes)
cut_heading bytes =
    let trimmed = without_end is_space_or_tab bytes in let unclosed = without_end is_hash trimmed in
    let before = without_end is_space_or_tab unclosed in let once = cut_end is_space_or_tab small_white bytes in
    either (IsCut bytes) (nat_lt (length before) (length unclosed) || (length unclosed == 0)) before trimmed
    (cut_more bytes unclosed before (cut_more bytes trimmed unclosed once (cut_end is_hash small_hash trimmed))
    (cut_end is_space_or_tab small_white unclosed)) once

-- white space before the content of a line is before that of its heading
white_first : (bytes : List ℕ) → prefix_len is_space_or_tab bytes
    ≤ prefix_len is_hash bytes + prefix_len is_space_or_tab (drop (prefix_len is_hash bytes) bytes)
white_first [] = omega arith
white_first (b ∷ bytes) =
    on_test (λ n. prefix_len is_space_or_tab (b ∷ bytes) ≤ n + prefix_len is_space_or_tab (drop n (b ∷ bytes)))
    (is_hash b) (1 + prefix_len is_hash bytes) 0 (λ hash.
    let solid : is_space_or_tab b ≡ false = grind (arith, nat_tests, hash) in
    let none : prefix_len is_space_or_tab (b ∷ bytes) ≡ 0 =
    ap (λ space. if space then 1 + prefix_len is_space_or_tab bytes else 0) solid in
    omega (arith, none)) (λ other. omega arith)

-- ---- what a line begins

-- what a line begins, whose content begins at a byte offset, lies between characters, and a heading and indented code
-- in the line
abbrev BeginsWithin : List ℕ → Line → ℕ → Beginning → Type 0
BeginsWithin text whole at (line.begins_quote rest) = IsCharBoundary text rest.scanned
BeginsWithin text whole at (line.begins_footnote label rest) = IsCharBoundary text rest.scanned
BeginsWithin text whole at (line.begins_item marker indent rest) = IsCharBoundary text rest.scanned
BeginsWithin text whole at (line.begins_heading heading) =
    BracesStand text heading.braces × IsHeadingIn text whole at heading
BeginsWithin text whole at (line.begins_indented rest) = IsCharBoundary text rest.scanned × (rest.scanned ≤ whole.stop)
BeginsWithin text whole at (line.begins_fence opening) = InfoStands text opening
BeginsWithin text whole at other = Unit

module _ (s : Source) (from : ℕ) (utf8 : IsUtf8 s.text) (whole : Line) (at : ℕ) where
  -- the place before an ASCII byte of a line, and that after one
  before_byte : (left : LineLeft) (i : ℕ) → IsWithin s.text from left → i < length left.bytes
      → slice_index left.bytes i < 128 → IsCharBoundary s.text (left.scanned + i)
  before_byte left i is less ascii =
      let there = in_part s.text left.bytes left.scanned (left.scanned + length left.bytes) i (sym is.own) less in
      IsCharBoundary-before_ascii s.text (left.scanned + i) (omega (arith, there.within))
      (omega (arith, there.byte, ascii))

  after_byte : (left : LineLeft) (i : ℕ) → IsWithin s.text from left → i < length left.bytes
      → slice_index left.bytes i < 128 → IsCharBoundary s.text (left.scanned + (i + 1))
  after_byte left i is less ascii =
      let there = in_part s.text left.bytes left.scanned (left.scanned + length left.bytes) i (sym is.own) less in
      subst (IsCharBoundary s.text) (omega arith)
      (IsCharBoundary-after_ascii s.text (left.scanned + i) utf8 (omega (arith, there.within))
      (omega (arith, there.byte, ascii)))

  -- some bytes that are there are passed
  past_within : (left : LineLeft) (count : ℕ) → IsWithin s.text from left → count ≤ length left.bytes
      → IsCharBoundary s.text (left.scanned + count) → IsWithin s.text from (past_bytes count left)
  past_within left count is within boundary =
      let stop : (left.scanned + count) + length (drop count left.bytes) ≡ left.scanned + length left.bytes =
      omega (arith, within, length-drop count left.bytes) in
      record {
        own = ap (slice_range s.text (left.scanned + count)) stop
            ∙ (sym (rest_of_part s.text left.scanned (left.scanned + length left.bytes) count)
            ∙ ap (drop count) is.own);
        boundary = boundary;
        low = omega (arith, is.low);
      }

  -- a run of ASCII bytes
  run_within : (test : ℕ → Bool) → ((b : ℕ) → test b ≡ true → b < 128) → (scanned owed column : ℕ) (bytes : List ℕ)
      → IsWithin s.text from (record { scanned = scanned; owed = owed; column = column; bytes = bytes })
      → IsCharBoundary s.text (scanned + prefix_len test bytes)
  run_within test ascii scanned owed column [] is = subst (IsCharBoundary s.text) (omega arith) is.boundary
  run_within test ascii scanned owed column (b ∷ bytes) is =
      on_test (λ n. IsCharBoundary s.text (scanned + n)) (test b) _ _
      (λ passes. subst (IsCharBoundary s.text) (omega arith) (run_within test ascii (scanned + 1) 0 column bytes
      (next_within s.text from utf8 scanned owed 0 column column b bytes (ascii b passes) is)))
      (λ other. subst (IsCharBoundary s.text) (omega arith) is.boundary)

  -- what is kept of some bytes ends between characters
  cut_within : (left : LineLeft) (kept : List ℕ) → IsWithin s.text from left
      → IsCharBoundary s.text (left.scanned + length left.bytes) → IsCut left.bytes kept
      → IsCharBoundary s.text (left.scanned + length kept)
  cut_within left kept is end cut =
      elim (eqb_tells (length kept) (length left.bytes)) [
        | inl all ↦ subst (IsCharBoundary s.text) (omega (arith, all.1)) end
        | inr some ↦ let less : length kept < length left.bytes = omega (arith, some.1, cut.high) in
            before_byte left (length kept) is less (cut.ascii less)
      ]

  -- the rest of a line behind a run of ASCII bytes and white space
  module _ (test : ℕ → Bool) (ascii : (b : ℕ) → test b ≡ true → b < 128) (here : LineLeft)
      (is : IsWithin s.text from here) where
    abbrev behind : LineLeft
    behind =
        let past = past_bytes (prefix_len test here.bytes) here in
        past_bytes (prefix_len is_space_or_tab past.bytes) past

    behind_within : IsWithin s.text from behind
    behind_within =
        let past = past_bytes (prefix_len test here.bytes) here in
        let marks = past_within here (prefix_len test here.bytes) is (prefix_len-le-length test here.bytes)
        (run_within test ascii here.scanned here.owed here.column here.bytes assumption) in
        past_within past (prefix_len is_space_or_tab past.bytes) marks (prefix_len-le-length is_space_or_tab past.bytes)
        (run_within is_space_or_tab small_white past.scanned 0 past.column past.bytes
        (record { own = marks.own; boundary = marks.boundary; low = marks.low }))

    -- ends where the line does
    behind_end : here.scanned + length here.bytes ≡ behind.scanned + length behind.bytes
    behind_end =
        let past = past_bytes (prefix_len test here.bytes) here in
        omega (
          arith,
          prefix_len-le-length test here.bytes,
          prefix_len-le-length is_space_or_tab past.bytes,
          length-drop (prefix_len test here.bytes) here.bytes,
          length-drop (prefix_len is_space_or_tab past.bytes) past.bytes,
        )

  -- the heading that begins with the rest of the line is in it, and has no braces so far
  abbrev HeadsIn : LineLeft → Option AtxHeading → Type 0
  HeadsIn here None = Unit
  HeadsIn here (Some heading) =
      (here.scanned ≤ heading.from) × (heading.braces ≡ None) × IsHeadingIn s.text whole at heading

  -- what the rest of a line begins, with the line
  module _ (here : LineLeft) (is : IsWithin s.text from here) (stop : whole.stop ≡ here.scanned + length here.bytes)
      (end : IsCharBoundary s.text (here.scanned + length here.bytes)) where
    heads_in : at ≡ here.scanned + prefix_len is_space_or_tab here.bytes
        → HeadsIn here (atx_heading_at s.text here.scanned (here.scanned + length here.bytes))
    heads_in content =
        rw is.own (either (HeadsIn here) (is_parted (drop (prefix_len is_hash here.bytes) here.bytes)) _ None
        (by_level (level_of (prefix_len is_hash here.bytes))) tt)
      where
        rest : LineLeft
        rest = behind is_hash small_hash here is

        by_level : (level : Option HeadingLevel)
            → HeadsIn here (heading_from level rest.scanned (heading_content rest.bytes))
        by_level None = tt
        by_level (Some level) =
            let there = behind_within is_hash small_hash here is in let ends = behind_end is_hash small_hash here is in
            let cut = cut_heading rest.bytes in (
              omega arith,
              refl,
              record {
                after = omega (arith, content, white_first here.bytes);
                from = there.boundary;
                ordered = omega arith;
                to = cut_within rest (heading_content rest.bytes) there (rw (← ends) end) cut;
                within = omega (arith, cut.high, stop, ends);
              },
            )

    -- with attributes it is too
    module _ (heading : AtxHeading) (low : here.scanned ≤ heading.from) where
      abbrev behind_marks : List ℕ
      behind_marks = drop (heading.from - here.scanned) here.bytes

      braces_within : (braces : Option Braces) → heading.braces ≡ None → AreBraces behind_marks braces
          → BracesStand s.text (attributed_by behind_marks heading braces).braces
      braces_within None none are = rw none tt
      braces_within (Some braces) none are =
          let m = heading.from - here.scanned in
          let open_one : slice_index here.bytes (m + braces.opening) ≡ 123 =
          sym (get_or-drop m here.bytes braces.opening 0) ∙ are.0 in
          let close : slice_index here.bytes (m + braces.closing) ≡ 125 =
          sym (get_or-drop m here.bytes braces.closing 0) ∙ are.1 in (
            subst (IsCharBoundary s.text) (omega (arith, low)) (after_byte here (m + braces.opening) is
                (byte_there here.bytes _ (omega (arith, open_one))) (omega (arith, open_one))),
            subst (IsCharBoundary s.text) (omega (arith, low)) (before_byte here (m + braces.closing) is
                (byte_there here.bytes _ (omega (arith, close))) (omega (arith, close))),
          )

      attributed_in : (braces : Option Braces) → IsHeadingIn s.text whole at heading → AreBraces behind_marks braces
          → IsHeadingIn s.text whole at (attributed_by behind_marks heading braces)
      attributed_in None in_line are = in_line
      attributed_in (Some braces) in_line are =
          let m = heading.from - here.scanned in let kept = take braces.opening behind_marks in
          let few : m ≤ length here.bytes = omega (arith, in_line.ordered, in_line.within, stop, low) in
          let size = length-drop m here.bytes in
          let there = past_within here m is few (subst (IsCharBoundary s.text) (omega (arith, low)) in_line.from) in
          let byte = are.0 in
          let cut = cut_more behind_marks kept (heading_content kept)
          (cut_taken braces.opening behind_marks (byte_there behind_marks braces.opening (omega (arith, byte)))
          (omega (arith, byte))) (cut_heading kept) in
          record {
            after = in_line.after;
            from = in_line.from;
            ordered = omega arith;
            to = subst (IsCharBoundary s.text) (omega (arith, low))
                (cut_within (past_bytes m here) (heading_content kept) there
                (subst (IsCharBoundary s.text) (omega (arith, few, size)) end) cut);
            within = omega (arith, cut.high, size, few, stop, low);
          }

    whole_within : (found : Option AtxHeading) → HeadsIn here found → IfFound (BeginsWithin s.text whole at)
        (option_map (λ heading. line.begins_heading (whole_heading s.syntax here heading)) found)
    whole_within None heads = tt
    whole_within (Some heading) heads =
        let content = drop (heading.from - here.scanned) here.bytes in
        let there = braces_there content in (
          either (λ (h : AtxHeading). BracesStand s.text h.braces) s.syntax.attributes (attributed content heading)
              heading (braces_within heading heads.0 (braces_in content) heads.1 there) (rw heads.1 tt),
          either (IsHeadingIn s.text whole at) s.syntax.attributes (attributed content heading) heading
              (attributed_in heading heads.0 (braces_in content) heads.2 there) heads.2,
        )

    -- a fence
    info_within : (byte columns : ℕ) → byte < 128 → IfFound (BeginsWithin s.text whole at) (option_map line.begins_fence
        (opening_fence_at s.text here.scanned (here.scanned + length here.bytes) byte columns))
    info_within byte columns ascii =
        let marks = λ (b : ℕ). b == byte in
        let small : (b : ℕ) → marks b ≡ true → b < 128 = λ b same. grind (arith, nat_tests, same, ascii) in
        let rest = behind marks small here is in let there = behind_within marks small here is in
        rw is.own (either (λ o. IfFound (BeginsWithin s.text whole at) (option_map line.begins_fence o))
        (opens_fence byte (run_length byte here.bytes) (drop (run_length byte here.bytes) here.bytes)) _ None (record {
          ordered = omega arith;
          from = there.boundary;
          to = cut_within rest _ there (rw (← behind_end marks small here is) end)
              (cut_end is_space_or_tab small_white rest.bytes);
        }) tt)

    fence_within : (columns : ℕ) → IfFound (BeginsWithin s.text whole at) (fence_in_line s columns here)
    fence_within columns =
        let byte = slice_index here.bytes 0 in
        on_test (IfFound (BeginsWithin s.text whole at)) ((byte == 96) || (byte == 126)) (option_map line.begins_fence
        (opening_fence_at s.text here.scanned (here.scanned + length here.bytes) byte columns)) None
        (λ fence. info_within byte columns (grind (arith, nat_tests, fence))) (λ none. tt)

  after_within : (before : Before) (columns : ℕ) (here : LineLeft) → IsWithin s.text from here
      → at ≡ here.scanned + prefix_len is_space_or_tab here.bytes → whole.stop ≡ here.scanned + length here.bytes
      → IsCharBoundary s.text (here.scanned + length here.bytes)
      → BeginsWithin s.text whole at (begins_after s before columns here)
  after_within before columns here is content stop end =
      after_holds (BeginsWithin s.text whole at) (λ rest. IsCharBoundary s.text rest.scanned) s before columns here
      is.own (record {
        text = tt;
        heading = whole_within here is stop end (atx_heading_at s.text here.scanned (here.scanned + length here.bytes))
            (heads_in here is stop end content);
        fence = fence_within here is stop end columns;
        html = λ kind. tt;
        underline = underline_holds (BeginsWithin s.text whole at) before here (λ level. tt);
        break = tt;
      }) (record {
        quote = λ rest boundary. boundary;
        alert = λ kind. tt;
        footnote = λ label rest boundary. boundary;
        item = λ marker indent rest boundary. boundary;
      }) (record {
        quote = λ marker.
            (marker_within s.text from utf8 here.scanned here.owed here.column here.bytes marker assumption).boundary;
        footnote = λ n opened colon.
            let byte : slice_index here.bytes n ≡ 58 = grind (arith, nat_tests, colon) in
            after_byte here n is (byte_there here.bytes n (omega (arith, byte))) (omega (arith, byte));
        item = λ marker n marks.
            (space_within s.text from utf8 n (past_bytes marker.width here)
            (past_within here marker.width is (omega (arith, marks.width, marks.less))
            (rw marks.width (after_byte here marks.last is marks.less marks.ascii)))).boundary;
      })

  begins_within : (before : Before) (l : SourceLine) → IsWithin s.text from l.left → at ≡ content_of l
      → whole.stop ≡ l.left.scanned + length l.left.bytes
      → IsCharBoundary s.text (l.left.scanned + length l.left.bytes) → BeginsWithin s.text whole at (begins s before l)
  begins_within before l is here stop end =
      let space = leading_space 4 l.left in let alike = space_alike 4 l.left in
      let there = space_within s.text from utf8 4 l.left is in
      let over : whole.stop ≡ space.after.scanned + length space.after.bytes = stop ∙ sym alike.end in
      begins_holds (BeginsWithin s.text whole at) s before l tt (there.boundary, omega (arith, over)) (λ kind. tt)
      (after_within before space.columns space.after there (here ∙ sym alike.content) over (rw alike.end end))

-- ---- what was found

module _ {s : Source} {rest : LineRest} {source : SourceLine} {at : ℕ} where
  begun_within : (start : BlockStart) (b : Beginning) → IsLeft s rest source → IsFound s rest source at start
      → beginning_found rest.reader start ≡ Some b → BeginsWithin s.text rest.line at b
  begun_within start b left found is =
      rw (← (found_begins s rest source at start b found is).1)
      (begins_within s rest.line.start left.utf8 rest.line at rest.before source
      (left_within s rest source left) found.begins left.is.stop
      (rw (← left.is.stop) (stop_between s.text rest.line.start rest.line.stop left.from.content)))

  begun_stands : (start : BlockStart) (b : Beginning) → IsLeft s rest source → IsFound s rest source at start
      → beginning_found rest.reader start ≡ Some b → StandsAsText s.text rest.line at
  begun_stands start b left found is =
      left_stands s rest source at left (found_begins s rest source at start b found is).0 found.begins

  pub found_stands : (start : BlockStart) → IsLeft s rest source → IsFound s rest source at start
      → FoundStands s.text rest.line at start
  found_stands start.Text left found = begun_stands start.Text _ left found refl
  found_stands (start.Html kind) left found = begun_stands (start.Html kind) _ left found refl
  found_stands (start.Heading heading) left found = (begun_within (start.Heading heading) _ left found refl).0
  found_stands (start.Fence opening) left found = begun_within (start.Fence opening) _ left found refl
  found_stands (start.Quote inside) left found = begun_within (start.Quote inside) _ left found refl
  found_stands (start.Footnote label inside) left found = begun_within (start.Footnote label inside) _ left found refl
  found_stands (start.Item item) left found = begun_within (start.Item item) _ left found refl
  found_stands other left found = tt

  -- and fits into the line
  pub found_fits : (start : BlockStart) → IsLeft s rest source → IsFound s rest source at start
      → FoundFits s.text rest.line at start
  found_fits (start.Heading heading) left found = (begun_within (start.Heading heading) _ left found refl).1
  found_fits (start.IndentedCode code) left found = begun_within (start.IndentedCode code) _ left found refl
  found_fits other left found = tt

-- ---- where nothing else has changed

-- what a reader says of the rest of a line
pub record Finds (rest : LineRest) (new : LineReader) (at : ℕ) (start : BlockStart) : Type 0 where
  pub begins : beginning_found rest.reader start
      ≡ begins_unless_blank (source_read rest.reader) rest.before (line_at rest.reader rest.position)
  pub place : at ≡ rest.position.at + prefix_len is_space_or_tab (left_at rest.reader rest.position).bytes
  pub same : IsSameLine rest.reader new

-- what was found is what the line begins
pub is_found : (s : Source) (rest : LineRest) (new : LineReader) (source : SourceLine) (at : ℕ) (start : BlockStart)
    → IsLeft s rest source → Finds rest new at start → IsFound s (record rest { reader = new }) source at start
is_found s rest new source at start left finds =
    let there = line_same s rest source rest.before left in
    record {
      is = found_same rest.reader new start finds.same ∙ (finds.begins
          ∙ (ap (λ r. begins_unless_blank r rest.before (line_at rest.reader rest.position)) left.text
          ∙ (ap (λ (l : LineLeft). if list_all is_space_or_tab l.bytes then None
          else Some (begins s rest.before (line_at rest.reader rest.position))) there.0
          ∙ ap (λ (b : Beginning). if is_blank_rest source then None else Some b) there.1)));
      begins = finds.place ∙ ap (λ (l : LineLeft). l.scanned + prefix_len is_space_or_tab l.bytes) there.0;
    }

-- and may be read
abbrev pub may_begin : {pass : Pass} {rest : LineRest} {new : LineReader} {at : ℕ} {begun : BlockStart}
    (start : BlockStart) → Finds rest new at begun → begun ≡ start → MayRead pass rest
    → MayBeginBlock pass (record rest { reader = new }) at start
may_begin {pass} {rest} {new} {at} {begun} start finds is may =
    let now : LineRest = record rest { reader = new } in
    let here = here_same may.s pass rest new may.turn may.source may.blocks finds.same may.here in
    let found = is_found may.s rest new may.source at start
    (here_left may.s pass rest may.turn may.source may.blocks may.here) (subst (Finds rest new at) is finds) in
    let left = here_left may.s pass now may.turn may.source may.blocks here in
    let text = here_text may.s pass now may.turn may.source may.blocks here in
    record {
      s = may.s;
      turn = may.turn;
      source = may.source;
      blocks = may.blocks;
      here = here;
      found = found;
      stands = rw text (found_stands start left found);
      fits = rw text (found_fits start left found);
    }

-- and what was begun does not depend on what the reader has kept of the line
pub reads_block : {old new : Pass} {rest now : LineRest} {reader : LineReader} {at : ℕ} {begun : BlockStart}
    (start : BlockStart) (more : Bool) → Finds rest reader at begun → begun ≡ start
    → Begins old (record rest { reader = reader }) at start new now more → Reads old rest new now more
reads_block start true finds is told = record {
  begun = λ may.
      let reads = told.begun (may_begin start finds is may) in
      record { turn = reads.turn; source = reads.source; here = reads.here; later = reads.later; line = reads.line };
  tables = told.tables;
}
reads_block start false finds is told =
    record { begun = λ may. told.begun (may_begin start finds is may); tables = told.tables }
