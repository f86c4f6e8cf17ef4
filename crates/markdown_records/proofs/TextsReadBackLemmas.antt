-- Texts read back from the places that their records name.
use Rattle.std.proofs.Common.{◌≡◌, ◌<◌, ◌≤◌, ◌++◌, ◌∷◌, ◌+◌, ◌-◌, ◌&&◌, ◌==◌, ℕ, suc, zero, Bool, true, false, not}
use Rattle.std.proofs.Common.{List, [], ap, sym, refl, length, arith, append_assoc, length-append, subst, Option}
use Rattle.std.proofs.Common.{Some, None, slice_get, slice_index, nat_le, if◌then◌else◌, IsUtf8, IsCharBoundary}
use Rattle.std.proofs.Common.{bytes_eq, le-leb, true≢false}
use Rattle.std.specs.Option.{option_map_or}
use Rattle.std.proofs.lemmas.Str.{IsCharBoundary-at_seam, IsUtf8-append, IsUtf8-nil}
use Rattle.std.proofs.lemmas.Bool.Decides.{nat_tests}
use Rattle.std.proofs.lemmas.Slice.Eq.{bytes_eq-Decides}
use Rattle.std.proofs.Math.Seq.{drop-append_seam, take-append_seam}
use Rattle.markdown_records.specs.Drafts.{DraftView, Wording, no_text, number_instead, pooled, sought}
use Rattle.markdown_records.specs.Encoded.{Sheet, Spot, pooled_bytes, spot_of, is_found_at, then_draft, then_drafts}
use Rattle.markdown_records.specs.ReadsBack.{AreSound, IsWording}
use Rattle.markdown_records.specs.RecordView.{is_boundary, slice_of, in_pool, in_source}
use Rattle.markdown_records.proofs.SheetsReadBackLemmas.{pooled_by}

-- no byte that continues a character stands at this offset
begins_there : (text : List ℕ) (at : ℕ) → (at < length text → 128 ≤ slice_index text at → 192 ≤ slice_index text at)
    → option_map_or (λ byte. not (nat_le 128 byte && nat_le byte 191)) (slice_get text at) true ≡ true
begins_there [] at begins = refl
begins_there (b ∷ text) zero begins = grind (arith, begins, nat_tests)
begins_there (b ∷ text) (suc at) begins = begins_there text at (λ low high. begins (omega arith) high)

boundary : (text : List ℕ) (at : ℕ) → IsCharBoundary text at → is_boundary text at ≡ true
boundary text at is = rw (le-leb at (length text) is.0) (begins_there text at is.1)

-- a text between two others is a slice
slice_between : (before text after : List ℕ) → IsUtf8 text → IsUtf8 after
    → slice_of (before ++ (text ++ after)) (length before) (length text) ≡ Some text
slice_between before text after utf8 rest =
    let all = before ++ (text ++ after) in
    let begin = boundary all (length before)
    (IsCharBoundary-at_seam all before (text ++ after) refl (IsUtf8-append text after utf8 rest)) in
    let seam = IsCharBoundary-at_seam all (before ++ text) after (sym (append_assoc before text after)) rest in
    let end = boundary all (length before + length text) (rw (← length-append before text) seam) in
    let count : length before + length text - length before ≡ length text = omega arith in
    rw (begin, end, count, drop-append_seam before (text ++ after), take-append_seam text after) refl

-- what stands at an offset of the source is its slice there
stands_there : (source : List ℕ) (at : ℕ) (text : List ℕ) → is_found_at source at text ≡ true
    → slice_of source at (length text) ≡ Some text
stands_there source at text stands = by_slice (slice_of source at (length text)) stands
  where
    by_slice : (slice : Option (List ℕ)) → option_map_or (λ slice. bytes_eq slice text) slice false ≡ true
        → slice ≡ Some text
    by_slice None is = absurd (true≢false (sym is))
    by_slice (Some slice) is = ap (λ t. Some t) ((bytes_eq-Decides slice text).0 is)

-- the text at a place, if one is there
abbrev pub text_at : (source pool : List ℕ) → Spot → Option (List ℕ)
text_at source pool spot =
    if spot.place == in_source then slice_of source spot.at spot.length
    else if spot.place == in_pool then slice_of pool spot.at spot.length
    else None

-- the text of a draft, if it has one, is at its place, with so many bytes in the pool before it
abbrev pub Said : (source pool : List ℕ) → (at : ℕ) → Wording → Type 0
Said source pool at no_text = Unit {0}
Said source pool at (number_instead n) = Unit {0}
Said source pool at (pooled text) = text_at source pool (spot_of source at (pooled text)) ≡ Some text
Said source pool at (sought first second text) =
    text_at source pool (spot_of source at (sought first second text)) ≡ Some text

said : (source before after : List ℕ) (w : Wording) → IsWording w → IsUtf8 after
    → Said source (before ++ (pooled_bytes source w ++ after)) (length before) w
said source before after no_text is rest = tt
said source before after (number_instead n) is rest = tt
said source before after (pooled text) is rest = slice_between before text after is rest
said source before after (sought first second text) is rest =
    by_test (is_found_at source first text) (is_found_at source second text) refl refl
  where
    by_test : (here there : Bool) → is_found_at source first text ≡ here → is_found_at source second text ≡ there
        → Said source (before ++ (pooled_bytes source (sought first second text) ++ after)) (length before)
        (sought first second text)
    by_test true there e f = rw (e, stands_there source first text e) refl
    by_test false true e f = rw (e, f, stands_there source second text f) refl
    by_test false false e f = rw (e, f, slice_between before text after is rest) refl

-- a draft whose range is none that ends before it begins, and whose text is at its place
pub record Reads (source pool : List ℕ) (at : ℕ) (d : DraftView) : Type 0 where
  pub order : d.range.start ≤ d.range.end
  pub said : Said source pool at d.wording

abbrev pub AllRead : (source pool : List ℕ) → Sheet → List DraftView → Type 0
AllRead source pool sheet [] = Unit {0}
AllRead source pool sheet (d ∷ ds) =
    Reads source pool (length sheet.pool) d × AllRead source pool (then_draft source sheet d) ds

-- all that drafts add to the pool is a text
pub pooled_utf8 : (source : List ℕ) (ds : List DraftView) → AreSound ds → IsUtf8 (pooled_by source ds)
pooled_utf8 source [] sound = IsUtf8-nil
pooled_utf8 source (d ∷ ds) sound =
    IsUtf8-append (pooled_bytes source d.wording) (pooled_by source ds) (by_wording d.wording sound.1)
    (pooled_utf8 source ds sound.2)
  where
    by_wording : (w : Wording) → IsWording w → IsUtf8 (pooled_bytes source w)
    by_wording no_text is = IsUtf8-nil
    by_wording (number_instead n) is = IsUtf8-nil
    by_wording (pooled text) is = is
    by_wording (sought first second text) is = by_test (is_found_at source first text) (is_found_at source second text)
      where
        by_test : (here there : Bool) → IsUtf8 (if here then [] else if there then [] else text)
        by_test true there = IsUtf8-nil
        by_test false true = IsUtf8-nil
        by_test false false = is

-- so drafts are read from a pool to which no more is added than they add
pub all_read : (source : List ℕ) (sheet : Sheet) (ds : List DraftView) → AreSound ds
    → AllRead source (sheet.pool ++ pooled_by source ds) sheet ds
all_read source sheet [] sound = tt
all_read source sheet (d ∷ ds) sound = (
  record {
    order = sound.0;
    said = said source sheet.pool (pooled_by source ds) d.wording sound.1 (pooled_utf8 source ds sound.2);
  },
  subst (λ pool. AllRead source pool (then_draft source sheet d) ds)
      (append_assoc sheet.pool (pooled_bytes source d.wording) (pooled_by source ds))
      (all_read source (then_draft source sheet d) ds sound.2),
)

-- the same of the first of drafts, and of those after them
pub read_first : (source pool : List ℕ) (sheet : Sheet) (first second : List DraftView)
    → AllRead source pool sheet (first ++ second) → AllRead source pool sheet first
read_first source pool sheet [] second reads = tt
read_first source pool sheet (d ∷ first) second reads =
    (reads.0, read_first source pool (then_draft source sheet d) first second reads.1)

pub read_second : (source pool : List ℕ) (sheet : Sheet) (first second : List DraftView)
    → AllRead source pool sheet (first ++ second) → AllRead source pool (then_drafts source sheet first) second
read_second source pool sheet [] second reads = reads
read_second source pool sheet (d ∷ first) second reads =
    read_second source pool (then_draft source sheet d) first second reads.1
