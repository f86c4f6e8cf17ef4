-- Lines that are ahead: one after another, and from where on none of them closes metadata.
use Rattle.std.proofs.Common.{◌≡◌, ◌≢◌, ◌⊎◌, inl, inr, ⊎_elim, ℕ, zero, suc, ◌+◌, ◌-◌, ◌<◌, ◌≤◌, List, [], ◌∷◌, Bool}
use Rattle.std.proofs.Common.{true, false, length, drop, get_or, refl, sym, ap, ◌∙◌, subst, arith, drop-drop}
use Rattle.std.proofs.Common.{get_or-drop, length-drop, slice_range, ◌&&◌, ◌==◌, not}
use Rattle.std.proofs.lemmas.Bool.{not-false, not-true, cases_eq, cases_lt}
use Rattle.std.proofs.lemmas.Bool.Decides.{nat_tests}
use Rattle.std.proofs.lemmas.List.{drop_all}
use Rattle.std.proofs.lemmas.List.Sums.{prefix_len-drop_no, prefix_len-le-length, prefix_len_is, prefix_len_passes}
use Rattle.std.proofs.lemmas.List.Sums.{prefix_len_stops}
use Rattle.std.specs.List.{list_all, prefix_len}
use Rattle.markdown_base.specs.declared.tag.MetadataBlockKind.{MetadataBlockKind}
use Rattle.markdown_base.specs.declared.tag.MetadataBlockKind.TheVariants as kind
use Rattle.markdown_base.proofs.BoolLemmas.{or_first, or_second}
use Rattle.markdown_scan.specs.LineEnd.{begins_line_feed}
use Rattle.markdown_lines.specs.declared.line.Line.{Line}
use Rattle.markdown_lines.specs.Lines.{IsLineFrom, ending_length, is_line_ending, is_space_or_tab}
use Rattle.markdown_lines.specs.MetadataBlocks.{are_of_metadata, closes_metadata, lines_at, one_closes}
use Rattle.markdown_lines.specs.SourceLines.{SourceLine, first_line, lines_from}
use Rattle.markdown_lines.specs.UnclosedMetadata.{IsUnclosed}

-- neither a line feed nor a carriage return
abbrev goes_on : ℕ → Bool
goes_on b = not (is_line_ending b)

-- all bytes of a line ending are bytes of line endings, and there is one where such a byte stands
pub in_ending : (bytes : List ℕ) (i : ℕ) → i < ending_length bytes → is_line_ending (get_or bytes i 0) ≡ true
in_ending [] i less = absurd (omega (arith, less))
in_ending (b ∷ bytes) i less = feed (b == 10) refl
  where
    second : (rest : List ℕ) (k : ℕ) → begins_line_feed rest ≡ true → k ≡ 0 → is_line_ending (get_or rest k 0) ≡ true
    second [] k begins is = cc
    second (c ∷ rest) k begins is = rw (is, begins) refl

    after : (test : Bool) → (b == 10) ≡ false → (b == 13) ≡ true → begins_line_feed bytes ≡ test
        → (k : ℕ) → k < ending_length (b ∷ bytes) → is_line_ending (get_or (b ∷ bytes) k 0) ≡ true
    after test other returns feeds zero low = rw (other, returns) refl
    after true other returns feeds (suc k) low =
        second bytes k feeds (omega (arith, rw (other, returns, feeds) at low))
    after false other returns feeds (suc k) low = absurd (omega (arith, rw (other, returns, feeds) at low))

    returns : (test : Bool) → (b == 10) ≡ false → (b == 13) ≡ test → is_line_ending (get_or (b ∷ bytes) i 0) ≡ true
    returns true other it = after (begins_line_feed bytes) other it refl i less
    returns false other none = absurd (omega (arith, rw (other, none) at less))

    one : (k : ℕ) → (b == 10) ≡ true → k < 1 → is_line_ending (get_or (b ∷ bytes) k 0) ≡ true
    one zero it low = rw it refl
    one (suc k) it low = absurd (omega (arith, low))

    feed : (test : Bool) → (b == 10) ≡ test → is_line_ending (get_or (b ∷ bytes) i 0) ≡ true
    feed true it = one i it (rw it at less)
    feed false other = returns (b == 13) other refl

pub some_ending : (bytes : List ℕ) → is_line_ending (get_or bytes 0 0) ≡ true → 0 < ending_length bytes
some_ending [] ends = cc
some_ending (b ∷ bytes) ends = feed (b == 10) refl
  where
    after : (test : Bool) → (b == 10) ≡ false → (b == 13) ≡ true → begins_line_feed bytes ≡ test
        → 0 < ending_length (b ∷ bytes)
    after true other returns feeds = rw (other, returns, feeds) (omega arith)
    after false other returns feeds = rw (other, returns, feeds) (omega arith)

    returns : (test : Bool) → (b == 10) ≡ false → (b == 13) ≡ test → 0 < ending_length (b ∷ bytes)
    returns true other it = after (begins_line_feed bytes) other it refl
    returns false other none = absurd (grind (arith, nat_tests, ends, other, none))

    feed : (test : Bool) → (b == 10) ≡ test → 0 < ending_length (b ∷ bytes)
    feed true it = rw it (omega arith)
    feed false other = returns (b == 13) other refl

-- a line of a text: where its content ends, and where the next line begins
pub record IsLineIn (text : List ℕ) (at stop next : ℕ) : Type 0 where
  pub low : at ≤ stop
  pub moves : at < next
  pub content : (p : ℕ) → at ≤ p → p < stop → is_line_ending (get_or text p 0) ≡ false
  pub ending : (p : ℕ) → stop ≤ p → p < next → is_line_ending (get_or text p 0) ≡ true
  pub ends : (length text ≤ next) ⊎ (is_line_ending (get_or text (next - 1) 0) ≡ true)

-- a byte of what is left of a text
byte_of_rest : (text bytes : List ℕ) (at i p : ℕ) → bytes ≡ drop at text → at + i ≡ p
    → get_or bytes i 0 ≡ get_or text p 0
byte_of_rest text bytes at i p is place =
    ap (λ (xs : List ℕ). get_or xs i 0) is ∙ (get_or-drop at text i 0 ∙ ap (λ k. get_or text k 0) place)

pub line_in : (text : List ℕ) (at b : ℕ) (bytes : List ℕ) (size : ℕ) → (b ∷ bytes) ≡ drop at text
    → size ≡ prefix_len goes_on (b ∷ bytes)
    → IsLineIn text at (at + size) (at + size + ending_length (drop size (b ∷ bytes)))
line_in text at b bytes size is counted =
    let all = b ∷ bytes in
    let rest = drop size all in
    let few : size ≤ length all = omega (arith, counted, prefix_len-le-length goes_on all) in
    let whole : length all ≡ length text - at = ap length is ∙ length-drop at text in
    let rest_is : rest ≡ drop (at + size) text = ap (drop size) is ∙ drop-drop size at text in
    let stops : size < length all → is_line_ending (get_or rest 0 0) ≡ true =
    λ (less : size < length all).
    not-false (is_line_ending (get_or rest 0 0))
    (ap (λ x. not (is_line_ending x)) (byte_of_rest text rest (at + size) 0 (at + size) rest_is (omega arith)
    ∙ sym (byte_of_rest text all at size (at + size) is refl))
    ∙ (ap (λ k. not (is_line_ending (get_or all k 0))) counted
    ∙ prefix_len_stops goes_on all 0 (omega (arith, counted, less)))) in
    let some : size < length all → 0 < ending_length rest =
    λ (less : size < length all). some_ending rest (stops less) in
    record {
      low = omega arith;
      moves = ⊎_elim (λ (less : size < length all). omega (arith, some less))
          (λ (most : length all ≤ size). omega (arith, most)) (cases_lt size (length all));
      content = λ p low high.
          ap is_line_ending (sym (byte_of_rest text all at (p - at) p is (omega (arith, low))))
          ∙ not-true (is_line_ending (get_or all (p - at) 0))
          (prefix_len_passes goes_on all (p - at) 0 (omega (arith, low, high, counted)));
      ending = λ p low high.
          ap is_line_ending (sym (byte_of_rest text rest (at + size) (p - (at + size)) p rest_is (omega (arith, low))))
          ∙ in_ending rest (p - (at + size)) (omega (arith, low, high));
      ends = ⊎_elim (λ (less : size < length all).
          inr (ap is_line_ending (sym (byte_of_rest text rest (at + size) (ending_length rest - 1)
          (at + size + ending_length rest - 1) rest_is (omega (arith, some less))))
          ∙ in_ending rest (ending_length rest - 1) (omega (arith, some less))))
          (λ (most : length all ≤ size). inl (omega (arith, most, whole, few)))
          (cases_lt size (length all));
    }

-- enough steps give all lines
lines_enough : (n m at : ℕ) (bytes : List ℕ) → length bytes ≤ n → length bytes ≤ m
    → lines_from n at bytes ≡ lines_from m at bytes
unfolding lines_from
lines_enough zero zero at bytes few fewer = refl
lines_enough zero (suc m) at [] few fewer = refl
lines_enough zero (suc m) at (b ∷ bytes) few fewer = absurd (omega (arith, few))
lines_enough (suc n) zero at [] few fewer = refl
lines_enough (suc n) zero at (b ∷ bytes) few fewer = absurd (omega (arith, fewer))
lines_enough (suc n) (suc m) at [] few fewer = refl
lines_enough (suc n) (suc m) at (b ∷ bytes) few fewer =
    let line = first_line at (b ∷ bytes) in
    let rest = drop (line.next - at) (b ∷ bytes) in
    let shorter = fewer_left at b bytes in
    ap (λ (more : List SourceLine). line ∷ more)
    (lines_enough n m line.next rest (omega (arith, shorter, few)) (omega (arith, shorter, fewer)))
  where
    fewer_left : (at b : ℕ) (bytes : List ℕ)
        → length (drop ((first_line at (b ∷ bytes)).next - at) (b ∷ bytes)) ≤ length bytes
    fewer_left at b bytes =
        let moves = (line_in (b ∷ bytes) 0 b bytes (prefix_len goes_on (b ∷ bytes)) refl refl).moves in
        omega (arith, moves, length-drop ((first_line at (b ∷ bytes)).next - at) (b ∷ bytes))

-- what is left of a text after its first line
rest_after : (text bytes : List ℕ) (at next : ℕ) → bytes ≡ drop at text → at ≤ next
    → drop (next - at) bytes ≡ drop next text
rest_after text bytes at next is low =
    ap (drop (next - at)) is
    ∙ (drop-drop (next - at) at text ∙ ap (λ k. drop k text) (omega (arith, low)))

-- no line closes metadata with nothing in it
pub empty_closes_none : (k : MetadataBlockKind) → closes_metadata k [] ≡ false
empty_closes_none kind.YamlStyle = refl
empty_closes_none kind.PlusesStyle = refl

-- the line that begins at a line ending, or at the end, closes nothing
ended_closes_none : (k : MetadataBlockKind) (text : List ℕ) (p : ℕ)
    → (length text ≤ p) ⊎ (is_line_ending (get_or text p 0) ≡ true)
    → closes_metadata k (first_line p (drop p text)).left.bytes ≡ false
ended_closes_none k text p over = rw (none over) (empty_closes_none k)
  where
    none : (length text ≤ p) ⊎ (is_line_ending (get_or text p 0) ≡ true) → prefix_len goes_on (drop p text) ≡ 0
    none over =
        ⊎_elim (λ (most : length text ≤ p). ap (prefix_len goes_on) (drop_all p text most))
        (λ (ends : is_line_ending (get_or text p 0) ≡ true).
        ⊎_elim (λ (less : p < length text). prefix_len-drop_no goes_on text p 0 less (rw ends refl))
        (λ (most : length text ≤ p). ap (prefix_len goes_on) (drop_all p text most)) (cases_lt p (length text)))
        over

-- where no line closes metadata, it is known from there on
pub nothing_closes : (k : MetadataBlockKind) (text : List ℕ) (n at : ℕ) (bytes : List ℕ) → bytes ≡ drop at text
    → length bytes ≤ n → one_closes k (lines_from n at bytes) ≡ false → IsUnclosed k text at
unfolding lines_from
nothing_closes k text n at [] is few none p low ends =
    let size = ap length is ∙ length-drop at text in
    ended_closes_none k text p (inl (omega (arith, size, low)))
nothing_closes k text zero at (b ∷ bytes) is few none p low ends = absurd (omega (arith, few))
nothing_closes k text (suc n) at (b ∷ bytes) is few none p low ends =
    let all = b ∷ bytes in
    let size = prefix_len goes_on all in
    let line = first_line at all in
    let l = line_in text at b bytes size is refl in
    let rest = drop (line.next - at) all in
    let rest_is = rest_after text all at line.next is (omega (arith, l.moves)) in
    let here = or_first (closes_metadata k line.left.bytes) (one_closes k (lines_from n line.next rest)) none in
    let others = or_second (closes_metadata k line.left.bytes) (one_closes k (lines_from n line.next rest)) none in
    ⊎_elim
    (λ (before : p < line.next).
    ⊎_elim
    (λ (first : p ≡ at).
    subst (λ q. closes_metadata k (first_line q (drop q text)).left.bytes ≡ false) (sym first)
    (subst (λ (xs : List ℕ). closes_metadata k (first_line at xs).left.bytes ≡ false) is here))
    (λ (later : p ≢ at).
    ⊎_elim
    (λ (inside : p < at + size + 1).
    absurd (unlike (is_line_ending (get_or text (p - 1) 0)) ends
    (l.content (p - 1) (omega (arith, low, later)) (omega (arith, low, later, inside)))))
    (λ (over : at + size + 1 ≤ p).
    ended_closes_none k text p (inr (l.ending p (omega (arith, over)) before)))
    (cases_lt p (at + size + 1)))
    (cases_eq p at))
    (λ (after : line.next ≤ p).
    nothing_closes k text n line.next rest rest_is
    (omega (arith, few, l.moves, length-drop (line.next - at) all)) others p after ends)
    (cases_lt p line.next)
  where
    unlike : (test : Bool) → test ≡ true → test ≡ false → ⊥
    unlike true h g = cc
    unlike false h g = cc

-- where it is known, no line from there on closes metadata
pub none_closes : (k : MetadataBlockKind) (text : List ℕ) (from : ℕ) → IsUnclosed k text from → (n at : ℕ)
    (bytes : List ℕ) → bytes ≡ drop at text → from ≤ at
    → (length text ≤ at) ⊎ (is_line_ending (get_or text (at - 1) 0) ≡ true)
    → one_closes k (lines_from n at bytes) ≡ false
unfolding lines_from
none_closes k text from known zero at bytes is low over = refl
none_closes k text from known (suc n) at [] is low over = refl
none_closes k text from known (suc n) at (b ∷ bytes) is low over =
    let all = b ∷ bytes in
    let size = prefix_len goes_on all in
    let line = first_line at all in
    let l = line_in text at b bytes size is refl in
    let rest = drop (line.next - at) all in
    let rest_is = rest_after text all at line.next is (omega (arith, l.moves)) in
    let whole = ap length is ∙ length-drop at text in
    let ends : is_line_ending (get_or text (at - 1) 0) ≡ true =
    ⊎_elim (λ (most : length text ≤ at). absurd (omega (arith, whole, most)))
    (λ (ends : is_line_ending (get_or text (at - 1) 0) ≡ true). ends) over in
    let here : closes_metadata k line.left.bytes ≡ false =
    subst (λ (xs : List ℕ). closes_metadata k (first_line at xs).left.bytes ≡ false) (sym is) (known at low ends) in
    rw (here, none_closes k text from known n line.next rest rest_is (omega (arith, low, l.moves)) l.ends) refl

-- the line at a byte offset, as it was read there
pub line_read : (text : List ℕ) (at : ℕ) (line : Line) → IsLineFrom text at line
    → (first_line at (drop at text)).left.bytes ≡ slice_range text line.start line.stop
    × (first_line at (drop at text)).next ≡ line.next
line_read text at line found =
    let all = drop at text in
    let size = line.stop - at in
    let low = found.content.low in
    let high = found.content.high in
    let place : at + size ≡ line.stop = omega (arith, low) in
    let whole = length-drop at text in
    let counted : prefix_len goes_on all ≡ size =
    prefix_len_is goes_on all size 0 (omega (arith, low, high, whole))
    (λ i less.
    rw (get_or-drop at text i 0, found.content.content (at + i) (omega arith) (omega (arith, less, low))) refl)
    (λ less.
    rw (get_or-drop at text size 0, place, found.content.stops (omega (arith, less, low, whole))) refl) in (
      rw (counted, found.begins) refl,
      rw (counted, drop-drop size at text, place) (sym found.ends),
    )

-- the lines from a byte offset on are the line there and those after it
step_of : (text : List ℕ) (at : ℕ) (bytes : List ℕ) → bytes ≡ drop at text → 0 < length bytes
    → lines_from (length bytes) at bytes ≡ first_line at bytes ∷ lines_at text (first_line at bytes).next
unfolding lines_from
step_of text at [] is some = absurd (omega (arith, some))
step_of text at (b ∷ bytes) is some =
    let line = first_line at (b ∷ bytes) in
    let l = line_in text at b bytes (prefix_len goes_on (b ∷ bytes)) is refl in
    let rest = drop (line.next - at) (b ∷ bytes) in
    let rest_is = rest_after text (b ∷ bytes) at line.next is (omega (arith, l.moves)) in
    ap (λ (more : List SourceLine). line ∷ more)
    (lines_enough (length bytes) (length rest) line.next rest
    (omega (arith, l.moves, length-drop (line.next - at) (b ∷ bytes))) (omega arith)
    ∙ ap (λ (xs : List ℕ). lines_from (length xs) line.next xs) rest_is)

pub lines_step : (text : List ℕ) (at : ℕ) → at < length text
    → lines_at text at
    ≡ first_line at (drop at text) ∷ lines_at text (first_line at (drop at text)).next
lines_step text at less = step_of text at (drop at text) refl (omega (arith, less, length-drop at text))

-- there are none from the end on
nothing_left : (at : ℕ) → lines_from 0 at [] ≡ []
unfolding lines_from
nothing_left at = refl

pub no_lines : (text : List ℕ) (at : ℕ) → length text ≤ at → lines_at text at ≡ []
no_lines text at most =
    subst (λ (xs : List ℕ). lines_from (length xs) at xs ≡ []) (sym (drop_all at text most)) (nothing_left at)

any_more : (k : MetadataBlockKind) (l : SourceLine) (lines : List SourceLine)
    → closes_metadata k l.left.bytes ≡ false → one_closes k lines ≡ one_closes k (l ∷ lines)
any_more k l lines none = rw none refl

any_here : (k : MetadataBlockKind) (l : SourceLine) (lines : List SourceLine)
    → closes_metadata k l.left.bytes ≡ true → true ≡ one_closes k (l ∷ lines)
any_here k l lines closes = rw closes refl

-- a line that closes nothing is passed over
pub passed_over : (k : MetadataBlockKind) (text : List ℕ) (at : ℕ) (line : Line) → at < length text
    → IsLineFrom text at line → closes_metadata k (slice_range text line.start line.stop) ≡ false
    → one_closes k (lines_at text line.next) ≡ one_closes k (lines_at text at)
passed_over k text at line less found none =
    let read = line_read text at line found in
    let l = first_line at (drop at text) in
    ap (λ n. one_closes k (lines_at text n)) (sym read.1)
    ∙ (any_more k l (lines_at text l.next) (ap (closes_metadata k) read.0 ∙ none)
    ∙ ap (one_closes k) (sym (lines_step text at less)))

-- a line that closes metadata is one of those that do
pub closed_here : (k : MetadataBlockKind) (text : List ℕ) (at : ℕ) (line : Line) → at < length text
    → IsLineFrom text at line → closes_metadata k (slice_range text line.start line.stop) ≡ true
    → true ≡ one_closes k (lines_at text at)
closed_here k text at line less found closes =
    let read = line_read text at line found in
    let l = first_line at (drop at text) in
    any_here k l (lines_at text l.next) (ap (closes_metadata k) read.0 ∙ closes)
    ∙ ap (one_closes k) (sym (lines_step text at less))

-- none does from the end on
pub none_at_end : (k : MetadataBlockKind) (text : List ℕ) (at : ℕ) → length text ≤ at
    → false ≡ one_closes k (lines_at text at)
none_at_end k text at most = ap (one_closes k) (sym (no_lines text at most))

-- after a line the next one begins after a line ending, or none does
pub line_ends : (text : List ℕ) (at : ℕ) (line : Line) → at < length text → IsLineFrom text at line
    → (length text ≤ line.next) ⊎ (is_line_ending (get_or text (line.next - 1) 0) ≡ true)
line_ends text at line less found =
    subst (λ n. (length text ≤ n) ⊎ (is_line_ending (get_or text (n - 1) 0) ≡ true)) (line_read text at line found).1
    (ends_of text at (drop at text) refl (omega (arith, less, length-drop at text)))
  where
    ends_of : (text : List ℕ) (at : ℕ) (bytes : List ℕ) → bytes ≡ drop at text → 0 < length bytes
        → (length text ≤ (first_line at bytes).next)
        ⊎ (is_line_ending (get_or text ((first_line at bytes).next - 1) 0) ≡ true)
    ends_of text at [] is some = absurd (omega (arith, some))
    ends_of text at (b ∷ bytes) is some = (line_in text at b bytes (prefix_len goes_on (b ∷ bytes)) is refl).ends

-- the lines that follow a line that opens metadata, by the first of them
pub of_metadata : (k : MetadataBlockKind) (text : List ℕ) (at : ℕ) (line : Line) (white closes : Bool) (more : Bool)
    → at < length text → IsLineFrom text at line
    → white ≡ list_all is_space_or_tab (slice_range text line.start line.stop)
    → closes ≡ closes_metadata k (slice_range text line.start line.stop)
    → more ≡ one_closes k (lines_at text line.next)
    → (not white && not closes && more) ≡ are_of_metadata k (lines_at text at)
of_metadata k text at line white closes more less found w c m =
    let read = line_read text at line found in
    let l = first_line at (drop at text) in
    let whites : white ≡ list_all is_space_or_tab l.left.bytes = w ∙ ap (list_all is_space_or_tab) (sym read.0) in
    let close : closes ≡ closes_metadata k l.left.bytes = c ∙ ap (closes_metadata k) (sym read.0) in
    let others : more ≡ one_closes k (lines_at text l.next) =
    m ∙ ap (λ n. one_closes k (lines_at text n)) (sym read.1) in
    rw (whites, close, others) (ap (are_of_metadata k) (sym (lines_step text at less)))

pub of_none : (k : MetadataBlockKind) (text : List ℕ) (at : ℕ) → length text ≤ at
    → false ≡ are_of_metadata k (lines_at text at)
of_none k text at most = ap (are_of_metadata k) (sym (no_lines text at most))
