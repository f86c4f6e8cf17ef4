-- What is taken of a line is spaces, tabs and `>` of its beginning.
use Rattle.std.proofs.Common.{◌≡◌, ℕ, suc, ◌+◌, ◌-◌, ◌≤◌, ◌<◌, List, [], ◌∷◌, ◌++◌, Option, Some, None, Bool, true}
use Rattle.std.proofs.Common.{false, ◌==◌, ◌||◌, ◌&&◌, length, take, drop, get_or, refl, sym, ◌∙◌, ap, arith}
use Rattle.std.proofs.Common.{append_assoc, length-append, drop-cons}
use Rattle.std.specs.Prelude.{nat_lt, nat_le, IfSome, nat_eq, codes}
use Rattle.std.specs.List.{list_all, list_any}
use Rattle.std.specs.Char.{is_ascii}
use Rattle.std.proofs.Math.Seq.{take-append_seam}
use Rattle.std.proofs.lemmas.List.{drop_all}
use Rattle.std.proofs.lemmas.List.Folds.{list_all-append}
use Rattle.std.proofs.lemmas.Bool.{and_parts, true≢false}
use Rattle.std.proofs.lemmas.Bool.Decides.{nat_tests}
use Rattle.std.proofs.Math.Bool.{and-false, or-true}
use Rattle.markdown_base.specs.declared.item.ItemBody.{ItemBody}
use Rattle.markdown_base.specs.declared.item.ItemBody.TheVariants as body
use Rattle.markdown_scan.specs.LineStart.{LineLeft, space_width, column_after, space_from, leading_space, is_line_over}
use Rattle.markdown_scan.specs.LineStart.{past_one_byte}
use Rattle.markdown_scan.specs.Beginnings.{begins_with}
use Rattle.markdown_scan.specs.ContainerParts.{past_indent, past_part, past_quote}
use Rattle.markdown_spans.specs.ContainerPrefix.{past_blocks, prefix_length, has_prefix}
use Rattle.markdown_base.specs.declared.item.Item.{Item}
use Rattle.markdown_base.proofs.BoolLemmas.{and_second}
use Rattle.markdown_spans.specs.PrefixView.{bodies_of, length_by}
use Rattle.markdown_spans.specs.declared.prefixes.ContainerPrefix.{ContainerPrefix}

-- a byte of a prefix: a space, a tab or a block quote's `>`
abbrev pub is_taken : ℕ → Bool
is_taken b = (b == 32) || ((b == 9) || (b == 62))

-- n bytes of a line were read, and these are left
pub record IsTakenPast (line : List ℕ) (n : ℕ) (rest : List ℕ) : Type 0 where
  pub before : List ℕ
  pub whole : line ≡ before ++ rest
  pub count : length before ≡ n
  pub taken : list_all is_taken before ≡ true

-- the same of what is left
abbrev pub IsPast : List ℕ → LineLeft → Type 0
IsPast line left = IsTakenPast line left.scanned left.bytes

-- nothing was taken
pub nothing_past : (line : List ℕ) → IsTakenPast line 0 line
nothing_past line = record { before = []; whole = refl; count = refl; taken = refl }

-- one byte more
one_past : (line : List ℕ) (n b : ℕ) (rest : List ℕ) → is_taken b ≡ true → IsTakenPast line n (b ∷ rest)
    → IsTakenPast line (n + 1) rest
one_past line n b rest taken past = record {
  before = past.before ++ b ∷ [];
  whole = past.whole ∙ sym (append_assoc past.before (b ∷ []) rest);
  count = length-append past.before (b ∷ []) ∙ omega (arith, past.count);
  taken = list_all-append is_taken past.before (b ∷ []) ∙ rw (past.taken, taken) refl;
}

-- what has a width of space is a space or a tab
white_is_taken : (column b : ℕ) → (space_width column b == 0) ≡ false → is_taken b ≡ true
white_is_taken column b e = cases (b == 32) (b == 9) refl refl e
  where
    cases : (is_space is_tab : Bool) → (b == 32) ≡ is_space → (b == 9) ≡ is_tab → (space_width column b == 0) ≡ false
        → is_taken b ≡ true
    cases true t p q e = rw p refl
    cases false true p q e = rw (p, q) refl
    cases false false p q e = let none : (space_width column b == 0) ≡ true = rw (p, q) refl in cc

-- space is taken
past_space_from : (line : List ℕ) (n scanned column : ℕ) (bytes : List ℕ) → IsTakenPast line scanned bytes
    → IsPast line (space_from n scanned column bytes).after
past_space_from line n scanned column [] past = past
past_space_from line n scanned column (b ∷ bytes) past =
    cases (n == 0) (space_width column b == 0) (nat_lt n (space_width column b)) refl refl refl
    (λ taken. past_space_from line (n - space_width column b) (scanned + 1) (column_after column b) bytes taken)
  where
    cases : (none plain part : Bool) → (n == 0) ≡ none → (space_width column b == 0) ≡ plain
        → nat_lt n (space_width column b) ≡ part
        → (IsTakenPast line (scanned + 1) bytes
        → IsPast line (space_from (n - space_width column b) (scanned + 1) (column_after column b) bytes).after)
        → IsPast line (space_from n scanned column (b ∷ bytes)).after
    cases true plain part e f g later = rw e past
    cases false true part e f g later = rw (e, f) past
    cases false false true e f g later = rw (e, f, g) (one_past line scanned b bytes (white_is_taken column b f) past)
    cases false false false e f g later = rw (e, f, g)
        (later (one_past line scanned b bytes (white_is_taken column b f) past))

space_past : (line : List ℕ) (n : ℕ) (left : LineLeft) → IsPast line left → IsPast line (leading_space n left).after
space_past line n left past = cases (nat_le n left.owed) refl
  where
    cases : (owed : Bool) → nat_le n left.owed ≡ owed → IsPast line (leading_space n left).after
    cases true e = rw e past
    cases false e = rw e (past_space_from line (n - left.owed) left.scanned left.column left.bytes past)

-- a block is read
abbrev IfPast : List ℕ → Option LineLeft → Type 0
IfPast line after = IfSome after (λ left. IsPast line left)

marker_is_taken : (b : ℕ) (bytes : List ℕ) → begins_with (codes ">") (b ∷ bytes) ≡ true → is_taken b ≡ true
marker_is_taken b bytes e = grind (arith, nat_tests, e)

byte_past : (line : List ℕ) (n : ℕ) (bytes : List ℕ) → begins_with (codes ">") bytes ≡ true → IsTakenPast line n bytes
    → IsTakenPast line (n + 1) (drop 1 bytes)
byte_past line n [] e past = absurd (true≢false (sym e))
byte_past line n (b ∷ bytes) e past = one_past line n b bytes (marker_is_taken b bytes e) past

quote_past : (line : List ℕ) (left : LineLeft) → IsPast line left → IfPast line (past_quote left)
quote_past line left past = cases (near && marked) refl
  where
    after : LineLeft
    after = (leading_space 4 left).after

    near : Bool
    near = nat_lt (leading_space 4 left).columns 4

    marked : Bool
    marked = begins_with (codes ">") after.bytes

    cases : (there : Bool) → (near && marked) ≡ there → IfPast line (past_quote left)
    cases false e = rw e tt
    cases true e =
        rw e (space_past line 1 (past_one_byte after)
        (byte_past line after.scanned after.bytes (and_second near marked e) (space_past line 4 left past)))

indent_past : (line : List ℕ) (n : ℕ) (left : LineLeft) → IsPast line left → IfPast line (past_indent n left)
indent_past line n left past = cases
    (((leading_space n left).columns == n) || is_line_over (leading_space n left).after.bytes) refl
  where
    cases : (found : Bool) → (((leading_space n left).columns == n) || is_line_over (leading_space n left).after.bytes)
        ≡ found
        → IfPast line (past_indent n left)
    cases true e = rw e (space_past line n left past)
    cases false e = rw e tt

block_past : (gfm : Bool) (line : List ℕ) (block : ItemBody) (left : LineLeft) → IsPast line left
    → IfPast line (past_part gfm block left)
block_past gfm line (body.BlockQuote kind) left past = quote_past line left past
block_past gfm line (body.ListItem indent) left past = indent_past line indent left past
block_past gfm line (body.DefinitionListDefinition indent) left past = indent_past line indent left past
block_past true line (body.FootnoteDefinition name) left past = indent_past line 4 left past
block_past gfm line other left past = past

pub blocks_past : (gfm : Bool) (line : List ℕ) (blocks : List ItemBody) (left : LineLeft) → IsPast line left
    → IsPast line (past_blocks gfm blocks left)
blocks_past gfm line [] left past = past
blocks_past gfm line (block ∷ inner) left past =
    cases (past_part gfm block left) (block_past gfm line block left past)
    (λ after h. blocks_past gfm line inner after h)
  where
    cases : (found : Option LineLeft) → IfPast line found → ((after : LineLeft) → IsPast line after
        → IsPast line (past_blocks gfm inner after))
        → IsPast line (elim found [ Some after ↦ past_blocks gfm inner after | None ↦ left ])
    cases None h later = past
    cases (Some after) h later = later after h

-- a byte of a prefix is ASCII, and no `[`
taken_is_ascii : (b : ℕ) → is_taken b ≡ true → is_ascii b ≡ true
taken_is_ascii b e = grind (arith, nat_tests)

taken_opens_none : (b : ℕ) → is_taken b ≡ true → nat_eq 91 b ≡ false
taken_opens_none b e = grind (arith, nat_tests)

all_ascii : (bytes : List ℕ) → list_all is_taken bytes ≡ true → list_all is_ascii bytes ≡ true
all_ascii [] e = refl
all_ascii (b ∷ bytes) e =
    let h = and_parts (is_taken b) (list_all is_taken bytes) e in
    rw (taken_is_ascii b h.0, all_ascii bytes h.1) refl

none_opens : (bytes : List ℕ) → list_all is_taken bytes ≡ true → list_any (nat_eq 91) bytes ≡ false
none_opens [] e = refl
none_opens (b ∷ bytes) e =
    let h = and_parts (is_taken b) (list_all is_taken bytes) e in
    rw (taken_opens_none b h.0, none_opens bytes h.1) refl

-- the prefix of a line is ASCII bytes of its beginning
pub record IsAsciiPrefix (line : List ℕ) (n : ℕ) : Type 0 where
  pub within : n ≤ length line
  pub ascii : list_all is_ascii (take n line) ≡ true

pub prefix_of_past : (line : List ℕ) (n : ℕ) (rest : List ℕ) → IsTakenPast line n rest → IsAsciiPrefix line n
prefix_of_past line n rest past = record {
  within = omega (arith, ap length past.whole, length-append past.before rest, past.count);
  ascii = rw (past.whole, ← past.count, take-append_seam past.before rest) (all_ascii past.before past.taken);
}

pub prefix_past : (gfm : Bool) (blocks : List ItemBody) (line : List ℕ)
    → IsPast line (past_blocks gfm blocks (record { scanned = 0; owed = 0; column = 0; bytes = line }))
prefix_past gfm blocks line = blocks_past gfm line blocks (record { scanned = 0; owed = 0; column = 0; bytes = line })
    (nothing_past line)

pub prefix_is_ascii : (gfm : Bool) (blocks : List ItemBody) (line : List ℕ)
    → IsAsciiPrefix line (prefix_length gfm blocks line)
prefix_is_ascii gfm blocks line =
    let left : LineLeft = past_blocks gfm blocks (record { scanned = 0; owed = 0; column = 0; bytes = line }) in
    prefix_of_past line left.scanned left.bytes (prefix_past gfm blocks line)

-- a prefix contains no `[`
pub prefix_opens_none : (gfm : Bool) (blocks : List ItemBody) (line : List ℕ)
    → list_any (nat_eq 91) (take (prefix_length gfm blocks line) line) ≡ false
prefix_opens_none gfm blocks line =
    let past = prefix_past gfm blocks line in
    let front : take (prefix_length gfm blocks line) line ≡ past.before =
    ap (λ (n : ℕ). take n line) (sym past.count) ∙ ap (take (length past.before)) past.whole
    ∙ take-append_seam past.before _ in
    rw front (none_opens past.before past.taken)

pub length_by_is_ascii : (prefix : ContainerPrefix) (line : List ℕ) → IsAsciiPrefix line (length_by prefix line)
unfolding length_by
length_by_is_ascii prefix line = prefix_is_ascii prefix.gfm_footnotes (bodies_of prefix.containers.now) line

-- a block that does not find its part ends the reading
pub reading_stops : (gfm : Bool) (containers : List Item) (i : ℕ) (line : LineLeft) (d : Item) → i < length containers
    → None ≡ past_part gfm (get_or containers i d).body line
    → past_blocks gfm (bodies_of (drop i containers)) line ≡ line
reading_stops gfm containers i line d within none =
    rw (drop-cons containers i d within) (ap (λ (found : Option LineLeft). elim found
    [ Some after ↦ past_blocks gfm (bodies_of (drop (suc i) containers)) after | None ↦ line ]) (sym none))

-- after the innermost block nothing more is read
pub reading_ends : (gfm : Bool) (containers : List Item) (i : ℕ) (line : LineLeft) → length containers ≤ i
    → past_blocks gfm (bodies_of (drop i containers)) line ≡ line
reading_ends gfm containers i line past = rw (drop_all i containers past) refl

-- no byte of a line was taken
record TakesNoByte (line after : LineLeft) : Type 0 where
  pub scanned : after.scanned ≡ line.scanned
  pub bytes : after.bytes ≡ line.bytes

-- a line ending is no space, and no marker
ending_is_no_space : (b : ℕ) → ((b == 10) || (b == 13)) ≡ true → ((b == 32) ≡ false) × ((b == 9) ≡ false)
ending_is_no_space b e = (grind (arith, nat_tests), grind (arith, nat_tests))

ending_begins_no_marker : (bytes : List ℕ) → is_line_over bytes ≡ true → begins_with (codes ">") bytes ≡ false
ending_begins_no_marker [] e = refl
ending_begins_no_marker (b ∷ bytes) e = grind (arith, nat_tests, e)

-- at the end of a line nothing is space
no_space_from : (n scanned column : ℕ) (bytes : List ℕ) → is_line_over bytes ≡ true
    → (space_from n scanned column bytes).after
    ≡ record { scanned = scanned; owed = 0; column = column; bytes = bytes }
no_space_from n scanned column [] e = refl
no_space_from n scanned column (b ∷ bytes) e =
    let other = ending_is_no_space b e in
    rw (other.0, other.1, or-true (n == 0)) refl

no_byte_is_space : (n : ℕ) (line : LineLeft) → is_line_over line.bytes ≡ true
    → TakesNoByte line (leading_space n line).after
no_byte_is_space n line e = cases (nat_le n line.owed) refl
  where
    cases : (owed : Bool) → nat_le n line.owed ≡ owed → TakesNoByte line (leading_space n line).after
    cases true t = rw t (record { scanned = refl; bytes = refl })
    cases false t =
        let none = no_space_from (n - line.owed) line.scanned line.column line.bytes e in
        rw (t, none) (record { scanned = refl; bytes = refl })

no_byte_of_indent : (n : ℕ) (line : LineLeft) → is_line_over line.bytes ≡ true
    → IfSome (past_indent n line) (TakesNoByte line)
no_byte_of_indent n line e =
    cases (((leading_space n line).columns == n) || is_line_over (leading_space n line).after.bytes) refl
  where
    cases : (found : Bool) → (((leading_space n line).columns == n) || is_line_over (leading_space n line).after.bytes)
        ≡ found
        → IfSome (past_indent n line) (TakesNoByte line)
    cases true t = rw t (no_byte_is_space n line e)
    cases false t = rw t tt

-- no block takes a byte of it
no_byte_of_block : (gfm : Bool) (block : ItemBody) (line : LineLeft) → is_line_over line.bytes ≡ true
    → IfSome (past_part gfm block line) (TakesNoByte line)
no_byte_of_block gfm (body.BlockQuote kind) line e =
    let spaces = no_byte_is_space 4 line e in
    let none = ending_begins_no_marker (leading_space 4 line).after.bytes (rw spaces.bytes e) in
    rw (none, and-false (nat_lt (leading_space 4 line).columns 4)) tt
no_byte_of_block gfm (body.ListItem indent) line e = no_byte_of_indent indent line e
no_byte_of_block gfm (body.DefinitionListDefinition indent) line e = no_byte_of_indent indent line e
no_byte_of_block true (body.FootnoteDefinition name) line e = no_byte_of_indent 4 line e
no_byte_of_block gfm other line e = record { scanned = refl; bytes = refl }

-- so what was read when a line has ended is all that is read
pub reading_ends_with_line : (gfm : Bool) (blocks : List ItemBody) (line : LineLeft) → is_line_over line.bytes ≡ true
    → (past_blocks gfm blocks line).scanned ≡ line.scanned
reading_ends_with_line gfm [] line e = refl
reading_ends_with_line gfm (block ∷ inner) line e =
    cases (past_part gfm block line) (no_byte_of_block gfm block line e)
    (λ after same. reading_ends_with_line gfm inner after same)
  where
    cases : (found : Option LineLeft) → IfSome found (TakesNoByte line)
        → ((after : LineLeft) → is_line_over after.bytes ≡ true
        → (past_blocks gfm inner after).scanned ≡ after.scanned)
        → (elim found as (λ x. LineLeft) [ Some after ↦ past_blocks gfm inner after | None ↦ line ]).scanned
        ≡ line.scanned
    cases None h later = refl
    cases (Some after) h later = later after (rw h.bytes e) ∙ h.scanned

-- a block without a part takes nothing of a line
pub takes_nothing : (gfm : Bool) (block : ItemBody) (line : LineLeft) → has_prefix gfm block ≡ false
    → past_part gfm block line ≡ Some line
takes_nothing gfm (body.BlockQuote kind) line none = cc none
takes_nothing gfm (body.ListItem indent) line none = cc none
takes_nothing gfm (body.DefinitionListDefinition indent) line none = cc none
takes_nothing true (body.FootnoteDefinition name) line none = cc none
takes_nothing gfm other line none = refl
