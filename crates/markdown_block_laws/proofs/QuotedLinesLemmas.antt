-- Lines with a block quote marker.
use Rattle.std.proofs.Common.{◌≡◌, ℕ, suc, ◌+◌, ◌-◌, ◌<◌, Bool, true, false, List, [], ◌∷◌, ◌++◌, Some, None, subst}
use Rattle.std.proofs.Common.{refl, sym, ap, ◌∙◌, arith, length, drop, ◌&&◌, ◌||◌, ◌==◌, codes, nat_lt, nat_le, ⊎_elim}
use Rattle.std.proofs.lemmas.Bool.{cases_Bool, true≢false}
use Rattle.std.specs.Prelude.{Option, if◌then◌else◌}
use Rattle.std.specs.List.{list_all}
use Rattle.std.specs.Option.{is_some}
use Rattle.std.proofs.lemmas.Option.{same_Some}
use Rattle.std.proofs.lemmas.Bool.Decides.{Decides-eqb, nat_tests}
use Rattle.std.proofs.lemmas.Slice.Eq.{starts_is}
use Rattle.std.proofs.Math.Bool.{or-true}
use Rattle.markdown_scan.specs.ContainerParts.{past_quote}
use Rattle.markdown_scan.specs.Beginnings.{begins_with}
use Rattle.markdown_base.specs.Forest.{Forest}
use Rattle.markdown_lines.specs.declared.block_start.Before.{Before}
use Rattle.markdown_lines.specs.declared.block_start.Before.TheVariants as paragraph
use Rattle.markdown_lines.specs.Alerts.{alert_read}
use Rattle.markdown_lines.specs.BlockBeginnings as line
use Rattle.markdown_base.specs.Source.{Source}
use Rattle.markdown_base.proofs.BoolLemmas.{and_first, and_second}
use Rattle.markdown_lines.specs.BlockBeginnings.{Beginning, begins, metadata_in_line}
use Rattle.markdown_lines.specs.MetadataBlocks.{line_opens}
use Rattle.markdown_block_rules.specs.BlockGrowth.{Block, begun_in, goes_on, line_block}
use Rattle.markdown_block_laws.specs.BlockLaws.{QuotedLinesMakeQuote, lone, quote_from, rest_of, with_lines}
use Rattle.markdown_scan.specs.LineStart.{LineLeft, Space, column_after, leading_space, no_space, past_marker}
use Rattle.markdown_scan.specs.LineStart.{space_from, space_width, wider}
use Rattle.markdown_lines.specs.Lines.{is_space_or_tab}
use Rattle.markdown_lines.specs.SourceLines.{SourceLine, is_blank_rest}
use Rattle.markdown_block_rules.proofs.BlockBeginningsLemmas.{HoldsLess, begins_less, begun_same, either}
use Rattle.markdown_block_laws.proofs.BlockLawsLemmas.{marked_lines}

-- where there is a value, the test holds, and the value is the one chosen
chosen : {A : Type 0} (test : Bool) (x y : A) → (if test then Some x else None) ≡ Some y → (test ≡ true) × (x ≡ y)
chosen true x y is = (refl, same_Some x y is)
chosen false x y is = absurd (true≢false (sym (ap is_some is)))

not_four : (n : ℕ) → nat_lt n 4 ≡ true → (n == 4) ≡ false
not_four n few = grind (arith, nat_tests)

-- what begins with white space or with a marker opens no metadata
opens_nothing : (b : ℕ) (bytes : List ℕ) → (b == 45) ≡ false → (b == 43) ≡ false → line_opens (b ∷ bytes) ≡ None
opens_nothing b bytes hyphen plus = rw (hyphen, plus) refl

white_opens : (b : ℕ) (bytes : List ℕ) → is_space_or_tab b ≡ true → line_opens (b ∷ bytes) ≡ None
white_opens b bytes white =
    opens_nothing b bytes (grind (arith, nat_tests, white)) (grind (arith, nat_tests, white))

marker_opens : (bytes : List ℕ) → begins_with (codes ">") bytes ≡ true → line_opens bytes ≡ None
marker_opens bytes there =
    let is : bytes ≡ codes ">" ++ drop 1 bytes =
    (starts_is Decides-eqb bytes (codes ">") (begins_with (codes ">") bytes) refl).0 there in
    rw is refl

no_byte_read : (n scanned column b : ℕ) (bytes : List ℕ) → is_space_or_tab b ≡ false
    → (space_from n scanned column (b ∷ bytes)).after.bytes ≡ b ∷ bytes
no_byte_read n scanned column b bytes other =
    let blank : (b == 32) ≡ false = grind (arith, nat_tests, other) in
    let tab : (b == 9) ≡ false = grind (arith, nat_tests, other) in
    let width : space_width column b ≡ 0 = rw (blank, tab) refl in
    rw (width, or-true (n == 0)) refl

nothing_read : (n : ℕ) (left : LineLeft) (b : ℕ) (bytes : List ℕ) → b ∷ bytes ≡ left.bytes
    → is_space_or_tab b ≡ false → b ∷ bytes ≡ (leading_space n left).after.bytes
nothing_read n left b bytes is other =
    either (λ (space : Space). b ∷ bytes ≡ space.after.bytes) (nat_le n left.owed)
    (record { columns = n; after = record left { owed = left.owed - n } })
    (wider left.owed (space_from (n - left.owed) left.scanned left.column left.bytes)) is
    (subst (λ (xs : List ℕ). b ∷ bytes ≡ (space_from (n - left.owed) left.scanned left.column xs).after.bytes) is
    (sym (no_byte_read (n - left.owed) left.scanned left.column b bytes other)))

-- so a line with a marker opens none
quote_opens : (left : LineLeft) (bytes : List ℕ) → bytes ≡ left.bytes
    → begins_with (codes ">") (leading_space 4 left).after.bytes ≡ true → line_opens bytes ≡ None
quote_opens left [] is marked = refl
quote_opens left (b ∷ bytes) is marked =
    ⊎_elim (λ (white : is_space_or_tab b ≡ true). white_opens b bytes white)
    (λ (other : is_space_or_tab b ≡ false).
    marker_opens (b ∷ bytes) (subst (λ (xs : List ℕ). begins_with (codes ">") xs ≡ true)
    (sym (nothing_read 4 left b bytes is other)) marked))
    (cases_Bool (is_space_or_tab b))

either_same : (test : Bool) (found : Option Beginning) → (if test then found else found) ≡ found
either_same true found = refl
either_same false found = refl

no_metadata : (s : Source) (before : Before) (l : SourceLine) → line_opens l.left.bytes ≡ None
    → metadata_in_line s before l ≡ None
no_metadata s before l none = rw none (either_same l.outermost None)

-- a line with a marker that names no alert begins a quote, whatever precedes it
quote_begins : (s : Source) (before : Before) (l : SourceLine) (rest : LineLeft) → past_quote l.left ≡ Some rest
    → alert_read s.syntax rest ≡ None → begins s before l ≡ line.begins_quote rest
quote_begins s before l rest marker plain =
    let space = leading_space 4 l.left in
    let near = nat_lt space.columns 4 in
    let marked = begins_with (codes ">") space.after.bytes in
    let found = chosen (near && marked) (past_marker space.after) rest marker in
    let there = and_second near marked found.0 in
    rw (
      not_four space.columns (and_first near marked found.0),
      no_metadata s before l (quote_opens l.left l.left.bytes refl there),
      there,
    ) (ap (line.quote_of s.syntax) found.1 ∙ ap (line.quote_or_alert rest) plain)

-- only white space follows some space
abbrev LeavesWhite : Space → Type 0
LeavesWhite space = list_all is_space_or_tab space.after.bytes ≡ true

white_left : (n scanned column : ℕ) (bytes : List ℕ) → list_all is_space_or_tab bytes ≡ true
    → list_all is_space_or_tab (space_from n scanned column bytes).after.bytes ≡ true
white_left n scanned column [] white = refl
white_left n scanned column (b ∷ bytes) white =
    let others = and_second (is_space_or_tab b) (list_all is_space_or_tab bytes) white in
    let more = white_left (n - space_width column b) (scanned + 1) (column_after column b) bytes others in
    let here = no_space (record { scanned = scanned; owed = 0; column = column; bytes = b ∷ bytes }) in
    let cut : Space = record {
      columns = n;
      after = record {
        scanned = scanned + 1;
        owed = space_width column b - n;
        column = column_after column b;
        bytes = bytes;
      };
    } in
    let past = wider (space_width column b)
    (space_from (n - space_width column b) (scanned + 1) (column_after column b) bytes) in
    either LeavesWhite ((n == 0) || (space_width column b == 0)) here
    (if nat_lt n (space_width column b) then cut else past) white
    (either LeavesWhite (nat_lt n (space_width column b)) cut past others more)

white_after : (n : ℕ) (left : LineLeft) → list_all is_space_or_tab left.bytes ≡ true
    → list_all is_space_or_tab (leading_space n left).after.bytes ≡ true
white_after n left white =
    either LeavesWhite (nat_le n left.owed)
    (record { columns = n; after = record left { owed = left.owed - n } })
    (wider left.owed (space_from (n - left.owed) left.scanned left.column left.bytes))
    white (white_left (n - left.owed) left.scanned left.column left.bytes white)

marker_not_white : (bytes : List ℕ) → begins_with (codes ">") bytes ≡ true → list_all is_space_or_tab bytes ≡ false
marker_not_white bytes there =
    let is : bytes ≡ codes ">" ++ drop 1 bytes =
    (starts_is Decides-eqb bytes (codes ">") (begins_with (codes ">") bytes) refl).0 there in
    rw is refl

-- a line with a marker is not blank
quote_not_blank : (l : SourceLine) (rest : LineLeft) → past_quote l.left ≡ Some rest → is_blank_rest l ≡ false
quote_not_blank l rest marker = decided (is_blank_rest l) refl
  where
    there : begins_with (codes ">") (leading_space 4 l.left).after.bytes ≡ true
    there =
        let space = leading_space 4 l.left in
        let near = nat_lt space.columns 4 in
        let marked = begins_with (codes ">") space.after.bytes in
        and_second near marked (chosen (near && marked) (past_marker space.after) rest marker).0

    decided : (test : Bool) → is_blank_rest l ≡ test → test ≡ false
    decided false is = refl
    decided true is = sym (white_after 4 l.left is) ∙ marker_not_white (leading_space 4 l.left).after.bytes there

-- the first line of a quote
first_line_quoted : (s : Source) (l : SourceLine) (rest : LineLeft) → past_quote l.left ≡ Some rest
    → alert_read s.syntax rest ≡ None → is_blank_rest (rest_of l rest) ≡ false
    → line_block s l ≡ lone (quote_from l) (line_block s (rest_of l rest))
unfolding begun_in
first_line_quoted s l rest marker plain full =
    let less : length rest.bytes < length l.left.bytes = holds_less (begins_less s paragraph.NoParagraph l) in
    let same = begun_same (length l.left.bytes) (suc (length rest.bytes)) s (rest_of l rest) less (omega arith) in
    rw (quote_not_blank l rest marker, quote_begins s paragraph.NoParagraph l rest marker plain, full, same) refl
  where
    holds_less : HoldsLess (length l.left.bytes) (begins s paragraph.NoParagraph l)
        → length rest.bytes < length l.left.bytes
    holds_less holds =
        subst (HoldsLess (length l.left.bytes)) (quote_begins s paragraph.NoParagraph l rest marker plain) holds

pub quoted_lines : QuotedLinesMakeQuote
unfolding goes_on
quoted_lines s l rest lines rests marker plain full more =
    ap (λ (f : Forest Block). with_lines s f lines) (first_line_quoted s l rest marker plain full)
    ∙ marked_lines s (quote_from l) (line_block s (rest_of l rest)) lines rests refl more
