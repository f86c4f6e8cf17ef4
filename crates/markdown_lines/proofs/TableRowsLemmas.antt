-- Rows: their parts, their cells, and the alignments of a delimiter row, one after the other.
use Rattle.std.proofs.Common.{◌≡◌, ℕ, ◌+◌, ◌<◌, ◌≤◌, List, [], ◌∷◌, ◌++◌, Bool, true, false, not, ◌&&◌, ◌==◌, Option}
use Rattle.std.proofs.Common.{Some, None, length, take, drop, get_or, refl, sym, ap, ◌∙◌, arith, append_assoc}
use Rattle.std.proofs.Common.{append-nil, length-take, length-take-le, take_all, nat_eq, nat_lt, codes, slice_index}
use Rattle.std.proofs.Common.{slice_range, ◌-◌, zero, suc, min}
use Rattle.std.proofs.lemmas.List.{drop_all, drop_more, take_more}
use Rattle.std.proofs.lemmas.Bool.{and_parts, true≢false}
use Rattle.std.proofs.lemmas.Bool.Decides.{nat_tests}
use Rattle.std.specs.List.{list_all, prefix_len}
use Rattle.std.proofs.lemmas.List.Sums.{prefix_len-le-length}
use Rattle.markdown_base.specs.Bytes.{backslash, pipe}
use Rattle.markdown_base.specs.declared.tag.Alignment.{Alignment}
use Rattle.markdown_base.proofs.BoolLemmas.{less_is_other, is_itself}
use Rattle.markdown_lines.specs.declared.table_row.Cell.{Cell}
use Rattle.markdown_lines.specs.TableRows.{IsPart, before_alignments, cell_over, cells_from, cells_over, has_cut}
use Rattle.markdown_lines.specs.TableRows.{is_cut, cells_left, content_of_part, is_row_white, onto_first, parts_after}
use Rattle.markdown_lines.specs.TableRows.{piece_length, row_cells_at}
use Rattle.markdown_lines.proofs.PositionsLemmas.{rest_of_part}
use Rattle.markdown_scan.specs.Beginnings.{begins_with}

-- bytes before the first of some parts
abbrev pub onto : List ℕ → List (List ℕ) → List (List ℕ)
onto front [] = []
onto front (part ∷ parts) = (front ++ part) ∷ parts

onto_more : (front : List ℕ) (byte : ℕ) (parts : List (List ℕ))
    → onto front (onto_first byte parts) ≡ onto (front ++ byte ∷ []) parts
onto_more front byte [] = refl
onto_more front byte (part ∷ parts) = ap (λ p. p ∷ parts) (sym (append_assoc front (byte ∷ []) part))

no_cut : (before byte : ℕ) (bytes : List ℕ) → is_cut before byte ≡ false
    → parts_after before (byte ∷ bytes) ≡ onto_first byte (parts_after byte bytes)
unfolding parts_after
no_cut before byte bytes none = rw none refl

one_cut : (before byte : ℕ) (bytes : List ℕ) → is_cut before byte ≡ true
    → parts_after before (byte ∷ bytes) ≡ [] ∷ parts_after byte bytes
unfolding parts_after
one_cut before byte bytes one = rw one refl

-- a byte more of the first part
pub part_goes_on : (bytes : List ℕ) (at before : ℕ) → at < length bytes
    → parts_after pipe bytes ≡ onto (take at bytes) (parts_after before (drop at bytes))
    → is_cut before (get_or bytes at 0) ≡ false
    → parts_after pipe bytes ≡ onto (take (at + 1) bytes) (parts_after (get_or bytes at 0) (drop (at + 1) bytes))
part_goes_on bytes at before less is none =
    let byte = get_or bytes at 0 in
    let rest = drop (at + 1) bytes in
    is ∙ (ap (λ xs. onto (take at bytes) (parts_after before xs)) (drop_more bytes at 0 less)
    ∙ (ap (onto (take at bytes)) (no_cut before byte rest none)
    ∙ (onto_more (take at bytes) byte (parts_after byte rest)
    ∙ ap (λ xs. onto xs (parts_after byte rest)) (sym (take_more bytes at 0 less)))))

-- the byte before the next one
next_before : (bytes : List ℕ) (at : ℕ) → get_or (pipe ∷ bytes) (at + 1) 0 ≡ get_or bytes at 0
next_before bytes at = let on : at + 1 ≡ suc at = omega arith in ap (λ n. get_or (pipe ∷ bytes) n 0) on

-- a byte more of the first part, where a `|` is before the bytes
pub part_goes_on_at : (bytes : List ℕ) (at : ℕ) → at < length bytes
    → parts_after pipe bytes ≡ onto (take at bytes) (parts_after (get_or (pipe ∷ bytes) at 0) (drop at bytes))
    → is_cut (get_or (pipe ∷ bytes) at 0) (get_or bytes at 0) ≡ false
    → parts_after pipe bytes
    ≡ onto (take (at + 1) bytes) (parts_after (get_or (pipe ∷ bytes) (at + 1) 0) (drop (at + 1) bytes))
part_goes_on_at bytes at less is none =
    part_goes_on bytes at (get_or (pipe ∷ bytes) at 0) less is none
    ∙ ap (λ before. onto (take (at + 1) bytes) (parts_after before (drop (at + 1) bytes))) (sym (next_before bytes at))

onto_none : (parts : List (List ℕ)) → onto [] parts ≡ parts
onto_none [] = refl
onto_none (part ∷ parts) = refl

onto_front : (byte : ℕ) (front : List ℕ) (parts : List (List ℕ))
    → onto_first byte (onto front parts) ≡ onto (byte ∷ front) parts
onto_front byte front [] = refl
onto_front byte front (part ∷ parts) = refl

-- bytes of which none is a `|` are the beginning of the first part
unpiped_from : (before : ℕ) (bytes : List ℕ) (count : ℕ)
    → ((at : ℕ) → at < count → (get_or bytes at 0 == pipe) ≡ false)
    → parts_after before bytes
    ≡ onto (take count bytes) (parts_after (get_or (before ∷ bytes) count 0) (drop count bytes))
unfolding parts_after
unpiped_from before bytes zero none = sym (onto_none (parts_after before bytes))
unpiped_from before [] (suc count) none = refl
unpiped_from before (byte ∷ bytes) (suc count) none =
    let other : is_cut before byte ≡ false = ap (λ test. test && not (before == backslash)) (none zero (omega arith)) in
    no_cut before byte bytes other
    ∙ (ap (onto_first byte) (unpiped_from byte bytes count (λ at less. none (suc at) (omega (arith, less))))
    ∙ onto_front byte (take count bytes) (parts_after (get_or (byte ∷ bytes) count 0) (drop count bytes)))

pub unpiped_part : (bytes : List ℕ) (count : ℕ)
    → ((at : ℕ) → at < count → (slice_index bytes at == pipe) ≡ false)
    → parts_after pipe bytes
    ≡ onto (take count bytes) (parts_after (get_or (pipe ∷ bytes) count 0) (drop count bytes))
unpiped_part bytes count none = unpiped_from pipe bytes count none

cut_is_pipe : (before byte : ℕ) → is_cut before byte ≡ true → byte ≡ pipe
cut_is_pipe before byte is = grind (arith, nat_tests)

-- the first part ends at a cut
pub part_ends : (bytes : List ℕ) (at before : ℕ) → at < length bytes
    → parts_after pipe bytes ≡ onto (take at bytes) (parts_after before (drop at bytes))
    → is_cut before (get_or bytes at 0) ≡ true → IsPart bytes at
part_ends bytes at before less is one =
    let byte = get_or bytes at 0 in
    let rest = drop (at + 1) bytes in
    record {
      within = omega (arith, less);
      parts = is ∙ (ap (λ xs. onto (take at bytes) (parts_after before xs)) (drop_more bytes at 0 less)
          ∙ (ap (onto (take at bytes)) (one_cut before byte rest one)
          ∙ (ap (λ part. part ∷ parts_after byte rest) (append-nil (take at bytes))
          ∙ (ap (λ b. take at bytes ∷ parts_after b rest) (cut_is_pipe before byte one)
          ∙ rw (less_is_other at (length bytes) less) refl))));
    }

-- or with the bytes
pub part_is_all : (bytes : List ℕ) (at before : ℕ) → length bytes ≤ at
    → parts_after pipe bytes ≡ onto (take at bytes) (parts_after before (drop at bytes))
    → IsPart bytes (length bytes)
unfolding parts_after
part_is_all bytes at before all is = record {
  within = omega arith;
  parts = is ∙ (ap (λ xs. onto (take at bytes) (parts_after before xs)) (drop_all at bytes all)
      ∙ (ap (λ part. part ∷ []) (append-nil (take at bytes)
      ∙ (take_all at bytes all ∙ sym (take_all (length bytes) bytes (omega arith))))
      ∙ rw (is_itself (length bytes)) refl));
}

-- there is a first part
pub record HasFirst (parts : List (List ℕ)) : Type 0 where
  pub first : List ℕ
  pub others : List (List ℕ)
  pub is : parts ≡ first ∷ others

pub first_part : (before : ℕ) (bytes : List ℕ) → HasFirst (parts_after before bytes)
unfolding parts_after
first_part before [] = record { first = []; others = []; is = refl }
first_part before (byte ∷ bytes) = decided (first_part byte bytes) (is_cut before byte) refl
  where
    decided : HasFirst (parts_after byte bytes) → (test : Bool) → is_cut before byte ≡ test
        → HasFirst (parts_after before (byte ∷ bytes))
    decided there true is = record { first = []; others = parts_after byte bytes; is = one_cut before byte bytes is }
    decided there false is = record {
      first = byte ∷ there.first;
      others = there.others;
      is = no_cut before byte bytes is ∙ ap (onto_first byte) there.is;
    }

-- a row has a cut where its first part is not all of it
pub cut_is : (bytes : List ℕ) (count : ℕ) → IsPart bytes count → nat_lt count (length bytes) ≡ has_cut bytes
cut_is bytes count part = decided (count == length bytes) refl
  where
    decided : (test : Bool) → (count == length bytes) ≡ test → nat_lt count (length bytes) ≡ has_cut bytes
    decided true is =
        let same : count ≡ length bytes = grind (arith, nat_tests) in
        let none : nat_lt count (length bytes) ≡ false = grind (arith, nat_tests) in
        let parts : parts_after pipe bytes ≡ take count bytes ∷ [] = part.parts ∙ rw is refl in
        none ∙ sym (ap (λ parts. nat_lt 1 (length parts)) parts)
    decided false is =
        let within = part.within in
        let there = first_part pipe (drop (count + 1) bytes) in
        let less : nat_lt count (length bytes) ≡ true = grind (arith, nat_tests) in
        let more : nat_lt 1 (length (take count bytes ∷ there.first ∷ there.others)) ≡ true =
        grind (arith, nat_tests) in
        let parts : parts_after pipe bytes ≡ take count bytes ∷ there.first ∷ there.others =
        part.parts ∙ rw is (ap (λ others. take count bytes ∷ others) there.is) in
        less ∙ sym (ap (λ parts. nat_lt 1 (length parts)) parts ∙ more)

white_cuts_none : (before byte : ℕ) → is_row_white byte ≡ true → is_cut before byte ≡ false
white_cuts_none before byte is = grind (arith, nat_tests)

-- white space alone is one part
white_part : (before : ℕ) (bytes : List ℕ) → list_all is_row_white bytes ≡ true
    → parts_after before bytes ≡ bytes ∷ []
unfolding parts_after
white_part before [] all = refl
white_part before (byte ∷ bytes) all =
    let both = and_parts (is_row_white byte) (list_all is_row_white bytes) all in
    no_cut before byte bytes (white_cuts_none before byte both.0) ∙ ap (onto_first byte) (white_part byte bytes both.1)

-- and no cell
pub no_cell : (start : ℕ) (bytes : List ℕ) → list_all is_row_white bytes ≡ true → cells_from start bytes ≡ []
no_cell start bytes all = ap (cells_over start) (white_part pipe bytes all) ∙ rw all refl

lone_part : (before : ℕ) (bytes part : List ℕ) → parts_after before bytes ≡ part ∷ [] → part ≡ bytes
unfolding parts_after
lone_part before [] part is = cc (is)
lone_part before (byte ∷ bytes) part is =
    decided (lone_part byte bytes) (first_part byte bytes) (is_cut before byte) refl
  where
    decided : ((part : List ℕ) → parts_after byte bytes ≡ part ∷ [] → part ≡ bytes)
        → HasFirst (parts_after byte bytes) → (test : Bool) → is_cut before byte ≡ test → part ≡ byte ∷ bytes
    decided on there true one =
        let parts : [] ∷ there.first ∷ there.others ≡ part ∷ [] =
        sym (one_cut before byte bytes one ∙ ap (λ parts. [] ∷ parts) there.is) ∙ is in
        cc (parts)
    decided on there false none =
        let parts : (byte ∷ there.first) ∷ there.others ≡ part ∷ [] =
        sym (no_cut before byte bytes none ∙ ap (onto_first byte) there.is) ∙ is in
        let alone : there.others ≡ [] = cc (parts) in
        let first : byte ∷ there.first ≡ part = cc (parts) in
        let rest = on there.first (there.is ∙ ap (λ others. there.first ∷ others) alone) in
        sym first ∙ ap (λ bytes. byte ∷ bytes) rest

-- bytes that are not white space alone have a cell
pub some_cell : (start : ℕ) (bytes : List ℕ) → list_all is_row_white bytes ≡ false
    → nat_lt 0 (length (cells_from start bytes)) ≡ true
some_cell start bytes filled = decided (parts_after pipe bytes) refl
  where
    decided : (parts : List (List ℕ)) → parts_after pipe bytes ≡ parts
        → nat_lt 0 (length (cells_over start parts)) ≡ true
    decided [] is =
        let there = first_part pipe bytes in
        let none : there.first ∷ there.others ≡ [] = sym there.is ∙ is in
        cc (none)
    decided (part ∷ []) is =
        let part_filled : list_all is_row_white part ≡ false =
        ap (list_all is_row_white) (lone_part pipe bytes part is) ∙ filled in
        rw part_filled refl
    decided (part ∷ next ∷ parts) is = grind (arith, nat_tests)

-- the first cell is the first part, and the others are what follows the cut after it
pub cell_found : (start count : ℕ) (bytes : List ℕ) → list_all is_row_white bytes ≡ false → IsPart bytes count
    → cells_from start bytes
    ≡ cell_over start (take count bytes) ∷ cells_from (start + count + 1) (drop (count + 1) bytes)
cell_found start count bytes filled part = decided (count == length bytes) refl
  where
    decided : (test : Bool) → (count == length bytes) ≡ test
        → cells_from start bytes
        ≡ cell_over start (take count bytes) ∷ cells_from (start + count + 1) (drop (count + 1) bytes)
    decided true is =
        let same : count ≡ length bytes = grind (arith, nat_tests) in
        let whole : take count bytes ≡ bytes = take_all count bytes (omega (arith, same)) in
        let none : drop (count + 1) bytes ≡ [] = drop_all (count + 1) bytes (omega (arith, same)) in
        let one : parts_after pipe bytes ≡ bytes ∷ [] = part.parts ∙ rw (is, whole) refl in
        let alone : cells_from start bytes ≡ cell_over start bytes ∷ [] = ap (cells_over start) one ∙ rw filled refl in
        rw (none, whole) (alone
        ∙ ap (λ cells. cell_over start bytes ∷ cells) (sym (no_cell (start + count + 1) [] refl)))
    decided false is =
        let there = first_part pipe (drop (count + 1) bytes) in
        let size : length (take count bytes) ≡ count = length-take-le count bytes part.within in
        let parts : parts_after pipe bytes ≡ take count bytes ∷ there.first ∷ there.others =
        part.parts ∙ rw is (ap (λ others. take count bytes ∷ others) there.is) in
        ap (cells_over start) parts
        ∙ (ap (λ n. cell_over start (take count bytes) ∷ cells_over (start + n + 1) (there.first ∷ there.others)) size
        ∙ ap (λ others. cell_over start (take count bytes) ∷ cells_over (start + count + 1) others) (sym there.is))

-- white space at the beginning of the first bytes
pub white_of_first : (test : ℕ → Bool) (bytes : List ℕ) (count : ℕ)
    → prefix_len test (take count bytes) ≡ min (prefix_len test bytes) count
white_of_first test bytes zero = omega arith
white_of_first test [] (suc count) = omega arith
white_of_first test (byte ∷ bytes) (suc count) = decided (white_of_first test bytes count) (test byte) refl
  where
    decided : prefix_len test (take count bytes) ≡ min (prefix_len test bytes) count
        → (is : Bool) → test byte ≡ is
        → prefix_len test (byte ∷ take count bytes) ≡ min (prefix_len test (byte ∷ bytes)) (suc count)
    decided on true is = rw is (omega (arith, on))
    decided on false is = rw is (omega arith)

-- bytes are white space alone where as many are at the beginning
white_is_all : (bytes : List ℕ) → list_all is_row_white bytes ≡ true
    → prefix_len is_row_white bytes ≡ length bytes
white_is_all [] all = refl
white_is_all (byte ∷ bytes) all =
    let both = and_parts (is_row_white byte) (list_all is_row_white bytes) all in
    let more : prefix_len is_row_white (byte ∷ bytes) ≡ 1 + prefix_len is_row_white bytes = rw both.0 refl in
    let on = white_is_all bytes both.1 in
    omega (arith, more, on)

pub not_all_white : (bytes : List ℕ) → (prefix_len is_row_white bytes ≡ length bytes → ⊥)
    → list_all is_row_white bytes ≡ false
not_all_white bytes fewer = decided (list_all is_row_white bytes) refl
  where
    decided : (all : Bool) → list_all is_row_white bytes ≡ all → list_all is_row_white bytes ≡ false
    decided true all = absurd (fewer (white_is_all bytes all))
    decided false all = all

pub all_white : (bytes : List ℕ) → prefix_len is_row_white bytes ≡ length bytes → list_all is_row_white bytes ≡ true
all_white [] is = refl
all_white (byte ∷ bytes) is = decided (all_white bytes) (is_row_white byte) refl
  where
    decided : (prefix_len is_row_white bytes ≡ length bytes → list_all is_row_white bytes ≡ true)
        → (white : Bool) → is_row_white byte ≡ white → list_all is_row_white (byte ∷ bytes) ≡ true
    decided on true white =
        let more : prefix_len is_row_white (byte ∷ bytes) ≡ 1 + prefix_len is_row_white bytes = rw white refl in
        let rest = on (omega (arith, is, more)) in
        rw (white, rest) refl
    decided on false white =
        let none : prefix_len is_row_white (byte ∷ bytes) ≡ 0 = rw white refl in
        absurd (omega (arith, is, none))

pub has_some : (start : ℕ) (bytes : List ℕ)
    → nat_lt (prefix_len is_row_white bytes) (length bytes) ≡ nat_lt 0 (length (cells_from start bytes))
has_some start bytes = decided (nat_lt (prefix_len is_row_white bytes) (length bytes)) refl
  where
    decided : (less : Bool) → nat_lt (prefix_len is_row_white bytes) (length bytes) ≡ less
        → nat_lt (prefix_len is_row_white bytes) (length bytes) ≡ nat_lt 0 (length (cells_from start bytes))
    decided true less =
        let fewer : prefix_len is_row_white bytes ≡ length bytes → ⊥ = λ all. grind (arith, nat_tests) in
        less ∙ sym (some_cell start bytes (not_all_white bytes fewer))
    decided false less =
        let few = prefix_len-le-length is_row_white bytes in
        let all : prefix_len is_row_white bytes ≡ length bytes = grind (arith, nat_tests) in
        less ∙ sym (ap (λ (cells : List Cell). nat_lt 0 (length cells)) (no_cell start bytes (all_white bytes all)))

-- what is read as the next cell
pub next_found : (text rest : List ℕ) (at stop count end from to : ℕ) → rest ≡ slice_range text at stop
    → list_all is_row_white rest ≡ false → IsPart rest count → end ≡ at + count
    → from ≡ at + prefix_len is_row_white (take count rest)
    → to ≡ from + length (content_of_part (take count rest))
    → cells_left text at stop
    ≡ record { start = at; end = end; from = from; to = to } ∷ cells_left text (end + 1) stop
next_found text rest at stop count end from to is filled part ends begins goes =
    let size : length (take count rest) ≡ count = length-take-le count rest part.within in
    let here : at + count + 1 ≡ end + 1 = omega (arith, ends) in
    let past : at + (count + 1) ≡ end + 1 = omega (arith, ends) in
    let bytes : drop (count + 1) rest ≡ slice_range text (end + 1) stop =
    ap (drop (count + 1)) is ∙ (rest_of_part text at stop (count + 1) ∙ ap (λ n. slice_range text n stop) past) in
    let others : cells_from (at + count + 1) (drop (count + 1) rest) ≡ cells_left text (end + 1) stop =
    ap (λ n. cells_from n (drop (count + 1) rest)) here ∙ ap (cells_from (end + 1)) bytes in
    let cell : cell_over at (take count rest) ≡ record { start = at; end = end; from = from; to = to } =
    rw (size, goes, begins, ends) refl in
    ap (cells_from at) (sym is)
    ∙ (cell_found at count rest filled part
    ∙ (ap (λ cells. cell_over at (take count rest) ∷ cells) others
    ∙ ap (λ (found : Cell). found ∷ cells_left text (end + 1) stop) cell))

led_by : (bytes : List ℕ) → slice_index bytes 0 ≡ pipe → begins_with (codes "|") bytes ≡ true
led_by [] is = absurd (omega (arith, is))
led_by (byte ∷ bytes) is = rw is refl

some_byte : (bytes : List ℕ) → slice_index bytes 0 ≡ pipe → 0 < length bytes
some_byte [] is = absurd (omega (arith, is))
some_byte (byte ∷ bytes) is = omega arith

-- a row that begins with a `|` is in its line
pub pipe_within : (text : List ℕ) (at stop : ℕ) → slice_index (slice_range text at stop) 0 ≡ pipe → at < stop
pipe_within text at stop is =
    let size = length-take (stop - at) (drop at text) in
    let some : 0 < length (slice_range text at stop) = some_byte (slice_range text at stop) is in
    omega (arith, some, size)

-- and its cells are after that
pub past_pipe : (text : List ℕ) (at stop next : ℕ) → slice_index (slice_range text at stop) 0 ≡ pipe → next ≡ at + 1
    → cells_left text next stop ≡ row_cells_at text at stop
past_pipe text at stop next is on =
    let led : begins_with (codes "|") (slice_range text at stop) ≡ true = led_by (slice_range text at stop) is in
    rw (led, on) (ap (cells_from (at + 1)) (sym (rest_of_part text at stop 1)))

-- alignments before others, where these are there
abbrev pub with_more : List Alignment → Option (List Alignment) → Option (List Alignment)
with_more front None = None
with_more front (Some others) = Some (front ++ others)

-- none of them is there where one is not
pub none_there : (front : List Alignment) (others : Option (List Alignment))
    → with_more front (before_alignments None others) ≡ None
none_there front others = refl

pub none_more : (others : Option (List Alignment)) → with_more [] others ≡ others
none_more None = refl
none_more (Some others) = refl

pub one_more : (front : List Alignment) (alignment : Alignment) (others : Option (List Alignment))
    → with_more front (before_alignments (Some alignment) others) ≡ with_more (front ++ alignment ∷ []) others
one_more front alignment None = refl
one_more front alignment (Some others) = ap Some (sym (append_assoc front (alignment ∷ []) others))

-- one byte more, two bytes more, and the end of the first piece of a cell's content
plain_more : (byte : ℕ) (bytes : List ℕ) → (byte == backslash) ≡ false
    → piece_length (byte ∷ bytes) ≡ 1 + piece_length bytes
unfolding piece_length
plain_more byte [] is = refl
plain_more byte (next ∷ bytes) is = rw is refl

last_more : (byte : ℕ) (bytes : List ℕ) → bytes ≡ [] → piece_length (byte ∷ bytes) ≡ 1 + piece_length bytes
unfolding piece_length
last_more byte bytes is = rw is refl

eq_swap : (a b : ℕ) → nat_eq a b ≡ nat_eq b a
eq_swap a b = decided (nat_eq a b) refl
  where
    decided : (test : Bool) → nat_eq a b ≡ test → nat_eq a b ≡ nat_eq b a
    decided true is = let swapped : nat_eq b a ≡ true = grind (arith, nat_tests) in is ∙ sym swapped
    decided false is = let swapped : nat_eq b a ≡ false = grind (arith, nat_tests) in is ∙ sym swapped

-- two backslashes and a `|`, of which the first is known
pair_test : (next : ℕ) (bytes : List ℕ)
    → begins_with (codes "\\\\|") (backslash ∷ next ∷ bytes) ≡ ((next == backslash) && begins_with (codes "|") bytes)
pair_test next bytes = ap (λ test. test && begins_with (codes "|") bytes) (eq_swap backslash next)

two_more : (byte next : ℕ) (bytes : List ℕ) → byte ≡ backslash
    → begins_with (codes "\\\\|") (byte ∷ next ∷ bytes) ≡ false
    → piece_length (byte ∷ next ∷ bytes) ≡ 2 + piece_length bytes
unfolding piece_length
two_more byte next bytes is other =
    let none : ((next == backslash) && begins_with (codes "|") bytes) ≡ false =
    sym (pair_test next bytes)
    ∙ (ap (λ b. begins_with (codes "\\\\|") (b ∷ next ∷ bytes)) (sym is) ∙ other) in
    rw (is, none) refl

pair_ends : (byte next : ℕ) (bytes : List ℕ) → byte ≡ backslash
    → begins_with (codes "\\\\|") (byte ∷ next ∷ bytes) ≡ true
    → piece_length (byte ∷ next ∷ bytes) ≡ 0
unfolding piece_length
pair_ends byte next bytes is pair =
    let one : ((next == backslash) && begins_with (codes "|") bytes) ≡ true =
    sym (pair_test next bytes)
    ∙ (ap (λ b. begins_with (codes "\\\\|") (b ∷ next ∷ bytes)) (sym is) ∙ pair) in
    rw (is, one) refl

-- the same, of what is left from a place on
pub one_plain : (bytes : List ℕ) (at : ℕ) → at < length bytes → (get_or bytes at 0 == backslash) ≡ false
    → piece_length (drop at bytes) ≡ 1 + piece_length (drop (at + 1) bytes)
one_plain bytes at less other =
    ap piece_length (drop_more bytes at 0 less) ∙ plain_more (get_or bytes at 0) (drop (at + 1) bytes) other

pub one_last : (bytes : List ℕ) (at : ℕ) → at < length bytes → at + 1 ≡ length bytes
    → piece_length (drop at bytes) ≡ 1 + piece_length (drop (at + 1) bytes)
one_last bytes at less last =
    ap piece_length (drop_more bytes at 0 less)
    ∙ last_more (get_or bytes at 0) (drop (at + 1) bytes) (drop_all (at + 1) bytes (omega (arith, last)))

two_ahead : (bytes : List ℕ) (at : ℕ) → at + 1 < length bytes
    → drop at bytes ≡ get_or bytes at 0 ∷ get_or bytes (at + 1) 0 ∷ drop (at + 2) bytes
two_ahead bytes at less =
    let on : at + 1 + 1 ≡ at + 2 = omega arith in
    drop_more bytes at 0 (omega (arith, less))
    ∙ ap (λ xs. get_or bytes at 0 ∷ xs) (drop_more bytes (at + 1) 0 less
    ∙ ap (λ n. get_or bytes (at + 1) 0 ∷ drop n bytes) on)

pub two_escaped : (bytes : List ℕ) (at : ℕ) → at + 1 < length bytes → get_or bytes at 0 ≡ backslash
    → begins_with (codes "\\\\|") (drop at bytes) ≡ false
    → piece_length (drop at bytes) ≡ 2 + piece_length (drop (at + 2) bytes)
two_escaped bytes at less is other =
    let ahead = two_ahead bytes at less in
    ap piece_length ahead
    ∙ two_more (get_or bytes at 0) (get_or bytes (at + 1) 0) (drop (at + 2) bytes) is
    (ap (begins_with (codes "\\\\|")) (sym ahead) ∙ other)

pub piece_ends : (bytes : List ℕ) (at : ℕ) → at + 1 < length bytes → get_or bytes at 0 ≡ backslash
    → begins_with (codes "\\\\|") (drop at bytes) ≡ true → piece_length (drop at bytes) ≡ 0
piece_ends bytes at less is pair =
    let ahead = two_ahead bytes at less in
    ap piece_length ahead
    ∙ pair_ends (get_or bytes at 0) (get_or bytes (at + 1) 0) (drop (at + 2) bytes) is
    (ap (begins_with (codes "\\\\|")) (sym ahead) ∙ pair)

pub is_backslash : (byte : ℕ) → not (byte == backslash) ≡ false → byte ≡ backslash
is_backslash byte is = decided (byte == backslash) refl
  where
    decided : (test : Bool) → (byte == backslash) ≡ test → byte ≡ backslash
    decided true same = grind (arith, nat_tests)
    decided false other = absurd (true≢false (sym (ap not other) ∙ is))

pub piece_on : (bytes : List ℕ) (at more : ℕ) → piece_length bytes ≡ at + piece_length (drop at bytes)
    → piece_length (drop at bytes) ≡ more + piece_length (drop (at + more) bytes)
    → piece_length bytes ≡ at + more + piece_length (drop (at + more) bytes)
piece_on bytes at more is on = omega (arith, is, on)
