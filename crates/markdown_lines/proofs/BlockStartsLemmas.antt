-- What a line begins, by its first byte: all beginnings that the byte cannot begin are not there.
use Rattle.std.proofs.Common.{◌≡◌, ◌≢◌, ⊎_elim, ℕ, zero, suc, ◌+◌, ◌-◌, ◌<◌, List, [], ◌∷◌, Bool, true, false, Option}
use Rattle.std.proofs.Common.{Some, None, length, take, drop, get_or, refl, sym, ◌∙◌, ap, subst, arith, ◌||◌, ◌==◌}
use Rattle.std.proofs.Common.{codes}
use Rattle.std.proofs.lemmas.Bool.{cases_Bool}
use Rattle.std.proofs.lemmas.Bool.Decides.{nat_tests}
use Rattle.std.specs.Prelude.{◌++◌, slice_index, slice_range, unwrap_or, if◌then◌else◌}
use Rattle.std.specs.Char.{is_ascii_digit}
use Rattle.std.specs.List.{prefix_len, list_all}
use Rattle.std.specs.Option.{option_map}
use Rattle.std.specs.Str.{IsCharBoundary}
use Rattle.std.proofs.lemmas.Str.{IsCharBoundary-before_ascii}
use Rattle.markdown_base.specs.declared.syntax.Syntax.{Syntax}
use Rattle.markdown_lines.specs.declared.block_start.Before.{Before}
use Rattle.markdown_lines.specs.declared.fence.OpeningFence.{OpeningFence}
use Rattle.markdown_lines.specs.declared.list_marker.ListMarker.{ListMarker}
use Rattle.markdown_lines.specs.declared.position.Position.{Position}
use Rattle.markdown_lines.specs.declared.space.Space.{Space}
use Rattle.markdown_lines.specs.declared.atx_heading.AtxHeading.{AtxHeading}
use Rattle.markdown_lines.specs.AtxHeadings.{atx_heading_at, is_hash}
use Rattle.markdown_lines.specs.BlockBeginnings as line
use Rattle.markdown_base.specs.Source.{Source}
use Rattle.markdown_lines.specs.BlockBeginnings.{Beginning, begins, begins_after, first_found, is_paragraph, is_reached}
use Rattle.markdown_lines.specs.BlockBeginnings.{quote_in_line, heading_in_line, fence_in_line, html_in_line}
use Rattle.markdown_lines.specs.BlockBeginnings.{footnote_in_line, underline_in_line, break_in_line, item_in_line}
use Rattle.markdown_lines.specs.BlockBeginnings.{footnote_marker, item_space, metadata_in_line, past_bytes}
use Rattle.markdown_lines.specs.BlockBeginnings.{whole_heading}
use Rattle.markdown_lines.specs.BlockStarts.{begins_unless_blank}
use Rattle.markdown_lines.specs.CodeFences.{opening_fence_at}
use Rattle.markdown_lines.specs.LineBytes.{is_parted}
use Rattle.markdown_lines.specs.Lines.{is_space_or_tab}
use Rattle.markdown_lines.specs.ListMarkers.{is_bullet, list_marker_at, marker_of}
use Rattle.markdown_lines.specs.Positions.{left_from}
use Rattle.markdown_lines.specs.SourceLines.{SourceLine, is_blank_rest}
use Rattle.markdown_lines.specs.ThematicBreaks.{is_break_mark, is_thematic_break, setext_level, underline_level}
use Rattle.markdown_lines.proofs.PositionsLemmas.{in_part}
use Rattle.markdown_scan.specs.Beginnings.{begins_with}
use Rattle.markdown_scan.specs.LineStart.{LineLeft, leading_space, past_marker}

-- a part of a text up to its own end
take_own : (n : ℕ) (bytes : List ℕ) → take (length (take n bytes)) bytes ≡ take n bytes
take_own zero bytes = refl
take_own (suc n) [] = refl
take_own (suc n) (b ∷ bytes) = ap (λ (xs : List ℕ). b ∷ xs) (take_own n bytes)

pub slice_same : (text : List ℕ) (at stop : ℕ)
    → slice_range text at (at + length (slice_range text at stop)) ≡ slice_range text at stop
slice_same text at stop =
    let size : at + length (slice_range text at stop) - at ≡ length (slice_range text at stop) = omega arith in
    ap (λ n. take n (drop at text)) size ∙ take_own (stop - at) (drop at text)

both_none : {A : Type 0} (one other : Option A) (test : Bool) → one ≡ None → other ≡ None
    → (if test then one else other) ≡ None
both_none one other true is otherwise = is
both_none one other false is otherwise = otherwise

-- bytes begin with another byte
not_begins : (byte : ℕ) (more bytes : List ℕ) → (slice_index bytes 0 == byte) ≡ false
    → begins_with (byte ∷ more) bytes ≡ false
not_begins byte more [] other = refl
not_begins byte more (b ∷ bytes) other = rw (other_byte b byte other) refl
  where
    other_byte : (x y : ℕ) → (x == y) ≡ false → (y == x) ≡ false
    other_byte x y differs = grind (arith, nat_tests)

does_begin : (bytes : List ℕ) → slice_index bytes 0 ≡ 62 → begins_with (codes ">") bytes ≡ true
does_begin [] is = absurd (omega (arith, is))
does_begin (b ∷ bytes) is = rw is refl

no_run : (test : ℕ → Bool) (bytes : List ℕ) → test (slice_index bytes 0) ≡ false → prefix_len test bytes ≡ 0
no_run test [] other = refl
no_run test (b ∷ bytes) other = rw other refl

no_quote : (s : Source) (here : LineLeft) → (slice_index here.bytes 0 == 62) ≡ false → quote_in_line s here ≡ None
no_quote s here other = rw (not_begins 62 [] here.bytes other) refl

no_heading_at : (text : List ℕ) (at stop : ℕ) → (slice_index (slice_range text at stop) 0 == 35) ≡ false
    → atx_heading_at text at stop ≡ None
no_heading_at text at stop other =
    rw (no_run is_hash (slice_range text at stop) other) (both_none None None (is_parted (slice_range text at stop))
    refl
    refl)

no_fence : (s : Source) (columns : ℕ) (here : LineLeft) → (slice_index here.bytes 0 == 96) ≡ false
    → (slice_index here.bytes 0 == 126) ≡ false → fence_in_line s columns here ≡ None
no_fence s columns here other another = rw (other, another) refl

no_html : (before : Before) (here : LineLeft) → (slice_index here.bytes 0 == 60) ≡ false
    → html_in_line before here ≡ None
no_html before here other = rw (not_begins 60 [] here.bytes other) refl

no_footnote : (syntax : Syntax) (here : LineLeft) → (slice_index here.bytes 0 == 91) ≡ false
    → footnote_in_line syntax here ≡ None
no_footnote syntax here other =
    rw (not_begins 91 (94 ∷ []) here.bytes other) (both_none None None syntax.footnotes refl refl)

no_setext : (bytes : List ℕ) → (slice_index bytes 0 == 61) ≡ false → (slice_index bytes 0 == 45) ≡ false
    → setext_level bytes ≡ None
no_setext [] other another = refl
no_setext (b ∷ bytes) other another =
    both_none (underline_level b) None (list_all is_space_or_tab (drop (prefix_len (λ c. c == b) (b ∷ bytes)) (b ∷
    bytes))) (rw (other, another) refl) refl

no_underline : (before : Before) (here : LineLeft) → (slice_index here.bytes 0 == 61) ≡ false
    → (slice_index here.bytes 0 == 45) ≡ false → underline_in_line before here ≡ None
no_underline before here other another =
    rw (no_setext here.bytes other another) (both_none None None (is_reached before) refl refl)

no_thematic_break : (bytes : List ℕ) → is_break_mark (slice_index bytes 0) ≡ false → is_thematic_break bytes ≡ false
no_thematic_break [] other = refl
no_thematic_break (b ∷ bytes) other = rw other refl

no_break : (here : LineLeft) → is_break_mark (slice_index here.bytes 0) ≡ false → break_in_line here ≡ None
no_break here other = rw (no_thematic_break here.bytes other) refl

no_marker : (bytes : List ℕ) → is_bullet (slice_index bytes 0) ≡ false → is_ascii_digit (slice_index bytes 0) ≡ false
    → marker_of bytes ≡ None
no_marker [] other another = refl
no_marker (b ∷ bytes) other another = rw (other, another) refl

-- none of these is there
AllNone : List (Option Beginning) → Type 0
AllNone [] = Unit {0}
AllNone (found ∷ others) = (found ≡ None) × AllNone others

none_found : (others : List (Option Beginning)) → AllNone others → first_found others ≡ line.begins_text
unfolding AllNone
none_found [] none = refl
none_found (found ∷ others) none = rw none.0 (none_found others none.1)

found_before : (some others : List (Option Beginning)) → AllNone others → first_found (some ++ others) ≡ first_found
    some
found_before [] others none = none_found others none
found_before (None ∷ some) others none = found_before some others none
found_before (Some found ∷ some) others none = refl

found_among : (others some more : List (Option Beginning)) → AllNone others → AllNone more
    → first_found (others ++ (some ++ more)) ≡ first_found some
unfolding AllNone
found_among [] some more none no_more = found_before some more no_more
found_among (found ∷ others) some more none no_more = rw none.0 (found_among others some more none.1 no_more)

-- a byte that is none of those that begin a quote, a heading, a fence, an HTML block or a footnote definition
pub record BeginsNoFirst (b : ℕ) : Type 0 where
  pub quote : (b == 62) ≡ false
  pub heading : (b == 35) ≡ false
  pub backtick : (b == 96) ≡ false
  pub tilde : (b == 126) ≡ false
  pub html : (b == 60) ≡ false
  pub footnote : (b == 91) ≡ false

-- a byte that is none of those that make an underline, a break or an item
pub record BeginsNoLast (b : ℕ) : Type 0 where
  pub equals : (b == 61) ≡ false
  pub hyphen : (b == 45) ≡ false
  pub mark : is_break_mark b ≡ false
  pub bullet : is_bullet b ≡ false
  pub digit : is_ascii_digit b ≡ false

none_by : (b c : ℕ) → b ≡ c → (test : ℕ → Bool) → test c ≡ false → test b ≡ false
none_by b c same test fails = ap test same ∙ fails

hash_is_no_last : BeginsNoLast 35
hash_is_no_last = record { equals = refl; hyphen = refl; mark = refl; bullet = refl; digit = refl }

less_is_no_last : BeginsNoLast 60
less_is_no_last = record { equals = refl; hyphen = refl; mark = refl; bullet = refl; digit = refl }

bracket_is_no_last : BeginsNoLast 91
bracket_is_no_last = record { equals = refl; hyphen = refl; mark = refl; bullet = refl; digit = refl }

-- a backtick or a tilde
abbrev pub is_fence_byte : ℕ → Bool
is_fence_byte b = (b == 96) || (b == 126)

fence_is_no_last : (b : ℕ) → is_fence_byte b ≡ true → BeginsNoLast b
fence_is_no_last b is = record {
  equals = grind (arith, nat_tests);
  hyphen = grind (arith, nat_tests);
  mark = grind (arith, nat_tests);
  bullet = grind (arith, nat_tests);
  digit = grind (arith, nat_tests);
}

-- which is none of the others either
record IsOther (b : ℕ) : Type 0 where
  quote : (b == 62) ≡ false
  heading : (b == 35) ≡ false
  html : (b == 60) ≡ false
  footnote : (b == 91) ≡ false

fence_is_other : (b : ℕ) → is_fence_byte b ≡ true → IsOther b
fence_is_other b is = record {
  quote = grind (arith, nat_tests);
  heading = grind (arith, nat_tests);
  html = grind (arith, nat_tests);
  footnote = grind (arith, nat_tests);
}

-- a byte of underlines, breaks or bullets
abbrev pub is_mark : ℕ → Bool
is_mark b = (b == 61) || is_break_mark b || is_bullet b

mark_is_no_first : (b : ℕ) → is_mark b ≡ true → BeginsNoFirst b
mark_is_no_first b is = record {
  quote = grind (arith, nat_tests);
  heading = grind (arith, nat_tests);
  backtick = grind (arith, nat_tests);
  tilde = grind (arith, nat_tests);
  html = grind (arith, nat_tests);
  footnote = grind (arith, nat_tests);
}

digit_is_no_first : (b : ℕ) → is_ascii_digit b ≡ true → BeginsNoFirst b
digit_is_no_first b digit = record {
  quote = grind (arith, nat_tests);
  heading = grind (arith, nat_tests);
  backtick = grind (arith, nat_tests);
  tilde = grind (arith, nat_tests);
  html = grind (arith, nat_tests);
  footnote = grind (arith, nat_tests);
}

digit_is_no_mark : (b : ℕ) → is_ascii_digit b ≡ true → ((b == 61) ≡ false) × ((b == 45) ≡ false) × (is_break_mark b ≡
    false)
digit_is_no_mark b digit = (grind (arith, nat_tests), grind (arith, nat_tests), grind (arith, nat_tests))

-- What a line begins, by its first byte. The text has the bytes of the line.
module _ (s : Source) (before : Before) (columns : ℕ) (here : LineLeft)
    (own : slice_range s.text here.scanned (here.scanned + length here.bytes) ≡ here.bytes) where
  no_heading : (slice_index here.bytes 0 == 35) ≡ false → heading_in_line s here ≡ None
  no_heading other =
      ap (λ (found : Option AtxHeading). option_map (λ h. line.begins_heading (whole_heading s.syntax here h)) found)
      (no_heading_at s.text here.scanned (here.scanned + length here.bytes)
      (ap (λ (bytes : List ℕ). slice_index bytes 0 == 35) own ∙ other))

  no_item : is_bullet (slice_index here.bytes 0) ≡ false → is_ascii_digit (slice_index here.bytes 0) ≡ false
      → item_in_line s before columns here ≡ None
  no_item other another =
      rw (no_marker (slice_range s.text here.scanned (here.scanned + length here.bytes))
      (ap (λ (bytes : List ℕ). is_bullet (slice_index bytes 0)) own ∙ other)
      (ap (λ (bytes : List ℕ). is_ascii_digit (slice_index bytes 0)) own ∙ another)) refl

  no_last : BeginsNoLast (slice_index here.bytes 0)
      → AllNone (underline_in_line before here ∷ break_in_line here ∷ item_in_line s before columns here ∷ [])
  unfolding AllNone
  no_last none = (
    no_underline before here none.equals none.hyphen,
    (
      no_break here none.mark,
      (
        no_item none.bullet none.digit,
        tt,
      ),
    ),
  )

  no_first : BeginsNoFirst (slice_index here.bytes 0)
      → AllNone (quote_in_line s here ∷ heading_in_line s here ∷ fence_in_line s columns here ∷
      html_in_line before here ∷ footnote_in_line s.syntax here ∷ [])
  unfolding AllNone
  no_first none = (
    no_quote s here none.quote,
    (
      no_heading none.heading,
      (
        no_fence s columns here none.backtick none.tilde,
        (
          no_html
              before here none.html,
          (no_footnote s.syntax here none.footnote, tt),
        ),
      ),
    ),
  )

  pub after_greater_than : slice_index here.bytes 0 ≡ 62
      → begins_after s before columns here ≡ line.quote_of s.syntax (past_marker here)
  after_greater_than is = rw (does_begin here.bytes is) refl

  pub after_hash : slice_index here.bytes 0 ≡ 35
      → begins_after s before columns here ≡ first_found (heading_in_line s here ∷ [])
  unfolding AllNone
  after_hash is =
      let by : (test : ℕ → Bool) → test 35 ≡ false → test (slice_index here.bytes 0) ≡ false =
      none_by (slice_index here.bytes 0) 35 is in
      let last = no_last (subst BeginsNoLast (sym is) hash_is_no_last) in
      found_among (quote_in_line s here ∷ []) (heading_in_line s here ∷ []) _
      (no_quote s here (by (λ b. b == 62) refl), tt) (
        no_fence s columns here (by (λ b. b == 96) refl) (by (λ b. b == 126) refl),
        (
          no_html before here
              (by (λ b. b == 60) refl),
          (no_footnote s.syntax here (by (λ b. b == 91) refl), last),
        ),
      )

  pub after_fence_byte : is_fence_byte (slice_index here.bytes 0) ≡ true
      → begins_after s before columns here ≡ first_found (fence_in_line s columns here ∷ [])
  unfolding AllNone
  after_fence_byte is =
      let b = slice_index here.bytes 0 in
      let other = fence_is_other b is in
      found_among (quote_in_line s here ∷ heading_in_line s here ∷ []) (fence_in_line s columns here ∷ []) _
      (no_quote s here other.quote, (no_heading other.heading, tt))
      (no_html before here other.html, (no_footnote s.syntax here other.footnote, no_last (fence_is_no_last b is)))

  pub after_less_than : slice_index here.bytes 0 ≡ 60
      → begins_after s before columns here ≡ first_found (html_in_line before here ∷ [])
  unfolding AllNone
  after_less_than is =
      let by : (test : ℕ → Bool) → test 60 ≡ false → test (slice_index here.bytes 0) ≡ false =
      none_by (slice_index here.bytes 0) 60 is in
      found_among (quote_in_line s here ∷ heading_in_line s here ∷ fence_in_line s columns here ∷ [])
      (html_in_line before here ∷ []) _ (
        no_quote s here (by (λ b. b == 62) refl),
        (
          no_heading (by (λ b. b == 35) refl),
          (
            no_fence s columns here
                (by (λ b. b == 96) refl) (by (λ b. b == 126) refl),
            tt,
          ),
        ),
      )
      (no_footnote s.syntax here (by (λ b. b == 91) refl), no_last (subst BeginsNoLast (sym is) less_is_no_last))

  pub after_bracket : slice_index here.bytes 0 ≡ 91
      → begins_after s before columns here ≡ first_found (footnote_in_line s.syntax here ∷ [])
  unfolding AllNone
  after_bracket is =
      let by : (test : ℕ → Bool) → test 91 ≡ false → test (slice_index here.bytes 0) ≡ false =
      none_by (slice_index here.bytes 0) 91 is in
      found_among
      (quote_in_line s here ∷ heading_in_line s here ∷ fence_in_line s columns here ∷ html_in_line before here ∷ [])
      (footnote_in_line s.syntax here ∷ []) _ (
        no_quote s here (by (λ b. b == 62) refl),
        (
          no_heading (by (λ b. b == 35) refl),
          (
            no_fence s columns here
                (by (λ b. b == 96) refl) (by (λ b. b == 126) refl),
            (no_html before here (by (λ b. b == 60) refl), tt),
          ),
        ),
      )
      (no_last (subst BeginsNoLast (sym is) bracket_is_no_last))

  pub after_mark : is_mark (slice_index here.bytes 0) ≡ true
      → begins_after s before columns here
      ≡ first_found (underline_in_line before here ∷ break_in_line here ∷ item_in_line s before columns here ∷ [])
  unfolding AllNone
  after_mark is =
      found_among
      (quote_in_line s here ∷ heading_in_line s here ∷ fence_in_line s columns here ∷ html_in_line before here ∷
      footnote_in_line s.syntax here ∷ [])
      (underline_in_line before here ∷ break_in_line here ∷ item_in_line s before columns here ∷ []) []
      (no_first (mark_is_no_first (slice_index here.bytes 0) is)) tt

  pub after_digit : is_ascii_digit (slice_index here.bytes 0) ≡ true
      → begins_after s before columns here ≡ first_found (item_in_line s before columns here ∷ [])
  unfolding AllNone
  after_digit digit =
      let b = slice_index here.bytes 0 in
      let other = digit_is_no_mark b digit in
      found_among
      (quote_in_line s here ∷ heading_in_line s here ∷ fence_in_line s columns here ∷ html_in_line before here ∷
      footnote_in_line s.syntax here ∷ underline_in_line before here ∷ break_in_line here ∷ [])
      (item_in_line s before columns here ∷ []) []
      (all_seven (no_first (digit_is_no_first b digit)) (no_underline before here other.0 other.1)
      (no_break here other.2)) tt
    where
      all_seven : {q h f t n u k : Option Beginning} → AllNone (q ∷ h ∷ f ∷ t ∷ n ∷ []) → u ≡ None → k ≡ None
          → AllNone (q ∷ h ∷ f ∷ t ∷ n ∷ u ∷ k ∷ [])
      all_seven first no_u no_k =
          (first.0, (first.1.0, (first.1.1.0, (first.1.1.1.0, (first.1.1.1.1.0, (no_u, (no_k, tt)))))))

  pub after_other : (byte : ℕ) → byte ≡ slice_index here.bytes 0 → BeginsNoFirst byte → is_mark byte ≡ false
      → is_ascii_digit byte ≡ false → begins_after s before columns here ≡ line.begins_text
  unfolding AllNone
  after_other byte is first mark digit =
      let last : BeginsNoLast byte = record {
        equals = grind (arith, nat_tests);
        hyphen = grind (arith, nat_tests);
        mark = grind (arith, nat_tests);
        bullet = grind (arith, nat_tests);
        digit = digit;
      } in
      found_among
      (quote_in_line s here ∷ heading_in_line s here ∷ fence_in_line s columns here ∷ html_in_line before here ∷
      footnote_in_line s.syntax here ∷ []) []
      (underline_in_line before here ∷ break_in_line here ∷ item_in_line s before columns here ∷ [])
      (no_first (subst BeginsNoFirst is first)) (no_last (subst BeginsNoLast is last))

-- what was found at a byte offset was found in the line
pub heading_read : (s : Source) (position : Position) (stop : ℕ) (found : Option AtxHeading)
    → found ≡ atx_heading_at s.text position.at stop
    → option_map (λ h. line.begins_heading (whole_heading s.syntax (left_from s.text position stop) h)) found
    ≡ heading_in_line s (left_from s.text position stop)
heading_read s position stop found is =
    ap (λ (found : Option AtxHeading).
    option_map (λ h. line.begins_heading (whole_heading s.syntax (left_from s.text position stop) h)) found)
    (is ∙ sym (again s.text position.at stop))
  where
    again : (text : List ℕ) (at stop : ℕ)
        → atx_heading_at text at (at + length (slice_range text at stop)) ≡ atx_heading_at text at stop
    again text at stop = rw (slice_same text at stop) refl

pub fence_read : (s : Source) (columns : ℕ) (position : Position) (stop : ℕ) (found : Option OpeningFence)
    → is_fence_byte (slice_index (slice_range s.text position.at stop) 0) ≡ true
    → found ≡ opening_fence_at s.text position.at stop (slice_index (slice_range s.text position.at stop) 0) columns
    → option_map line.begins_fence found ≡ fence_in_line s columns (left_from s.text position stop)
fence_read s columns position stop found byte is =
    rw (byte, slice_same s.text position.at stop, is) refl

pub item_read : (s : Source) (before : Before) (columns : ℕ) (position : Position) (stop : ℕ)
    (found : Option ListMarker) → found ≡ list_marker_at s.text position.at stop (is_reached before)
    → option_map (line.item_of columns (left_from s.text position stop)) found
    ≡ item_in_line s before columns (left_from s.text position stop)
item_read s before columns position stop found is = rw (slice_same s.text position.at stop, is) refl

pub item_found : (s : Source) (before : Before) (columns : ℕ) (position after : Position) (stop : ℕ)
    (marker : ListMarker) (content : Space) → Some marker ≡ list_marker_at s.text position.at stop (is_reached before)
    → left_from s.text after stop ≡ past_bytes marker.width (left_from s.text position stop)
    → content.columns ≡ (item_space (left_from s.text after stop)).columns
    → left_from s.text content.after stop ≡ (item_space (left_from s.text after stop)).after
    → Some (line.begins_item marker (columns + marker.width + content.columns) (left_from s.text content.after stop))
    ≡ item_in_line s before columns (left_from s.text position stop)
item_found s before columns position after stop marker content is past same_columns same_after =
    ap (λ n. Some (line.begins_item marker (columns + marker.width + n) (left_from s.text content.after stop)))
    same_columns
    ∙ (ap (λ (left : LineLeft). Some (line.begins_item marker (columns + marker.width
    + (item_space (left_from s.text after stop)).columns) left)) same_after
    ∙ (ap (λ (left : LineLeft). Some (line.begins_item marker (columns + marker.width + (item_space left).columns)
    (item_space left).after)) past
    ∙ item_read s before columns position stop (Some marker) is))

pub footnote_found : (syntax : Syntax) (text : List ℕ) (position inside : Position) (stop width : ℕ) (label : List ℕ)
    → syntax.footnotes ≡ true → footnote_marker (slice_range text position.at stop) ≡ Some (label, width)
    → left_from text inside stop ≡ past_bytes width (left_from text position stop)
    → Some (line.begins_footnote label (left_from text inside stop))
    ≡ footnote_in_line syntax (left_from text position stop)
footnote_found syntax text position inside stop width label on marker past = rw (on, marker, past) refl

-- a text may be cut before an ASCII byte with which a line goes on
pub cut_before : (text : List ℕ) (at stop byte : ℕ) → slice_index (slice_range text at stop) 0 ≡ suc byte
    → suc byte < 128 → (at < stop) × IsCharBoundary text at
cut_before text at stop byte is ascii =
    let some : 0 < length (slice_range text at stop) = not_empty (slice_range text at stop) is in
    let there = in_part text (slice_range text at stop) at stop 0 refl some in
    let place : at + 0 ≡ at = omega arith in
    let same : get_or text at 0 ≡ suc byte = ap (λ n. get_or text n 0) (sym place) ∙ (sym there.byte ∙ is) in (
      omega (arith, there.low),
      IsCharBoundary-before_ascii text at (omega (arith, there.within)) (omega (
        arith,
        same,
        ascii,
      )),
    )
  where
    not_empty : (bytes : List ℕ) → slice_index bytes 0 ≡ suc byte → 0 < length bytes
    not_empty [] none = absurd (omega (arith, none))
    not_empty (b ∷ bytes) some = omega arith

-- what begins after fewer than four columns of space: metadata, or what the first byte begins
pub begins_few : (s : Source) (before : Before) (l : SourceLine) (columns : ℕ) (after : LineLeft)
    → columns ≡ (leading_space 4 l.left).columns → after ≡ (leading_space 4 l.left).after → columns < 4
    → unwrap_or (metadata_in_line s before l) (begins_after s before columns after) ≡ begins s before l
begins_few s before l columns after same_columns same_after few =
    let space = leading_space 4 l.left in
    let test : (space.columns == 4) ≡ false = grind (arith, nat_tests) in
    let found = metadata_in_line s before l in
    ap (λ n. unwrap_or found (begins_after s before n after)) same_columns
    ∙ (ap (λ (left : LineLeft). unwrap_or found (begins_after s before space.columns left)) same_after
    ∙ otherwise (space.columns == 4) (if is_paragraph before then line.begins_text else line.begins_indented
    space.after)
    (unwrap_or found (begins_after s before space.columns space.after)) test)
  where
    otherwise : (test : Bool) (x y : Beginning) → test ≡ false → y ≡ (if test then x else y)
    otherwise test x y fails = rw fails refl

-- a line is blank where all of its bytes are white space
pub is_blank : (bytes : List ℕ) → prefix_len is_space_or_tab bytes ≡ length bytes
    → list_all is_space_or_tab bytes ≡ true
is_blank [] all = refl
is_blank (b ∷ bytes) all =
    ⊎_elim (λ (white : is_space_or_tab b ≡ true). rw white (is_blank bytes (omega (arith, rw white at all))))
    (λ (other : is_space_or_tab b ≡ false). absurd (omega (arith, rw other at all))) (cases_Bool (is_space_or_tab b))

pub is_not_blank : (bytes : List ℕ) → prefix_len is_space_or_tab bytes ≢ length bytes
    → list_all is_space_or_tab bytes ≡ false
is_not_blank [] differs = absurd (differs refl)
is_not_blank (b ∷ bytes) differs =
    ⊎_elim (λ (white : is_space_or_tab b ≡ true).
    rw white (is_not_blank bytes (λ same. differs (rw white (omega (arith, same))))))
    (λ (other : is_space_or_tab b ≡ false). rw other refl) (cases_Bool (is_space_or_tab b))

-- so nothing begins in it, and otherwise something does
pub nothing_read : (s : Source) (before : Before) (l : SourceLine)
    → prefix_len is_space_or_tab l.left.bytes ≡ length l.left.bytes → None ≡ begins_unless_blank s before l
nothing_read s before l all =
    first_of_two (is_blank_rest l) None (Some (begins s before l)) (is_blank l.left.bytes all)
  where
    first_of_two : (test : Bool) (x y : Option Beginning) → test ≡ true → x ≡ (if test then x else y)
    first_of_two test x y passes = rw passes refl

pub something_read : (s : Source) (before : Before) (l : SourceLine)
    → prefix_len is_space_or_tab l.left.bytes ≢ length l.left.bytes
    → Some (begins s before l) ≡ begins_unless_blank s before l
something_read s before l differs =
    second_of_two (is_blank_rest l) None (Some (begins s before l)) (is_not_blank l.left.bytes differs)
  where
    second_of_two : (test : Bool) (x y : Option Beginning) → test ≡ false → y ≡ (if test then x else y)
    second_of_two test x y fails = rw fails refl
