-- The title of a tail is a slice of the source where its origin says so.
use Rattle.std.proofs.Common.{◌≡◌, ℕ, zero, suc, ◌+◌, ◌-◌, ◌≤◌, ◌==◌, Bool, true, false, List, [], ◌∷◌, Option, Some}
use Rattle.std.proofs.Common.{None, take, drop, slice_range, refl, sym, ◌∙◌, ap, subst, arith, ◌<◌, is_some, nat_lt}
use Rattle.std.proofs.Common.{unwrap_or, min}
use Rattle.std.specs.Cmp.Lexicographic.{pointwise, same_text}
use Rattle.std.specs.Option.{option_and_then, option_map}
use Rattle.std.specs.Prelude.{slice_index, if◌then◌else◌, ⊤, IfSome, nat_eq}
use Rattle.std.proofs.lemmas.Bool.{ltb-true}
use Rattle.markdown_base.specs.CowText.{text_of}
use Rattle.markdown_base.specs.Bytes.{backslash, line_feed}
use Rattle.markdown_base.specs.declared.tag.LinkType.TheVariants as kind
use Rattle.markdown_base.proofs.ListLemmas.{take_of_take, drop_of_take}
use Rattle.markdown_scan.specs.Backslash.{is_bare}
use Rattle.markdown_scan.specs.Unescape.{unescaped}
use Rattle.markdown_scan.specs.declared.entity.EntityNames.{EntityNames}
use Rattle.markdown_document.specs.LinkTitle.{Title, closer_of, joined_lines, next_line, title_at, title_in}
use Rattle.markdown_document.specs.LinkTitle.{title_origin}
use Rattle.markdown_document.specs.Origins.{IsSlicedOf, IsSliceWithin, made, origin_of, sliced}
use Rattle.markdown_document.proofs.OriginLemmas.{title_wider}
use Rattle.markdown_brackets.specs.LinkTail as tail
use Rattle.markdown_brackets.specs.LinkTail.{after_destination, after_title, closed_at, destination_at, link_tail}
use Rattle.markdown_brackets.specs.LinkTail.{past_separator}
use Rattle.markdown_brackets.specs.LinkTailView.{ReadsTail}
use Rattle.markdown_brackets.specs.WrittenView.{IsTailFrom}
use Rattle.markdown_brackets.specs.declared.link_tail.LinkTail.{LinkTail}
use Rattle.markdown_brackets.proofs.TitleLemmas.{slice_empty, after, joined_after}

-- a title from the byte i on ends after it, and where no bytes are skipped and no line is joined is the
-- bytes up to its closing mark
abbrev IsFrom : (from i : ℕ) → List ℕ → Option Title → Type 0
IsFrom from i bytes None = ⊤
IsFrom from i bytes (Some t) = (i < t.ends) × (from ≤ i → t.is_joined ≡ false → t.text ≡ take (t.ends - 1 - i) bytes)

is_from : (starts : ℕ → Option ℕ) (closer from i : ℕ) (escaped : Bool) (bytes : List ℕ)
    → IsFrom from i bytes (title_in closer escaped (joined_lines starts from i bytes))
is_from starts closer from i escaped [] = tt
is_from starts closer from i escaped (b ∷ bytes) =
    let line = next_line starts i b in
    by line (nat_lt i from) refl (is_from starts closer from (i + 1) escaped bytes)
    (is_from starts closer (unwrap_or line (i + 1)) (i + 1)
    (is_bare escaped (if is_some line then line_feed else b) backslash) bytes)
  where
    skipped : (o : Option Title) → i < from → IsFrom from (i + 1) bytes o → IsFrom from i (b ∷ bytes) o
    skipped None past h = tt
    skipped (Some t) past h = (omega (arith, h.0), λ low. absurd (omega (arith, low, past)))

    shown : (line : Option ℕ) (bare refused : Bool) (o : Option Title) → IsFrom (unwrap_or line (i + 1)) (i + 1) bytes o
        → IsFrom from i (b ∷ bytes)
        (if bare then Some (record { ends = i + 1; text = []; is_joined = false }) else if refused then None
        else option_map (after ((if is_some line then line_feed else b) ∷ []) (is_some line)) o)
    shown line true refused o h
        = (omega arith, λ low j. let none : 0 ≡ i + 1 - 1 - i = omega arith in ap (λ (n : ℕ). take n (b ∷ bytes)) none)
    shown line false true o h = tt
    shown line false false None h = tt
    shown None false false (Some t) h =
        let past = h.0 in
        let one : suc (t.ends - 1 - (i + 1)) ≡ t.ends - 1 - i = omega (arith, past) in (
          omega (arith, past),
          λ low j. ap (λ (text : List ℕ). b ∷ text) (h.1 (omega arith) j) ∙ ap (λ (n : ℕ). take n (b ∷ bytes)) one,
        )
    shown (Some start) false false (Some t) h = (omega (arith, h.0), λ low j. cc j)

    by : (line : Option ℕ) (skips : Bool) → nat_lt i from ≡ skips
        → IsFrom from (i + 1) bytes (title_in closer escaped (joined_lines starts from (i + 1) bytes))
        → IsFrom (unwrap_or line (i + 1)) (i + 1) bytes
        (title_in closer (is_bare escaped (if is_some line then line_feed else b) backslash)
        (joined_lines starts (unwrap_or line (i + 1)) (i + 1) bytes))
        → IsFrom from i (b ∷ bytes) (title_in closer escaped (if skips then joined_lines starts from (i + 1) bytes
        else (i, if is_some line then line_feed else b, is_some line) ∷ joined_lines starts (unwrap_or line (i + 1))
        (i + 1) bytes))
    by line true e skips here = skipped (title_in closer escaped (joined_lines starts from (i + 1) bytes))
        (ltb-true i from e) skips
    by line false e skips here = shown line _ _ _ here

-- a title ends after its first byte, and where no line is joined is the bytes between its marks
abbrev pub IsTitleAt : List ℕ → ℕ → Option Title → Type 0
IsTitleAt text i None = ⊤
IsTitleAt text i (Some t) = (i < t.ends) × (t.is_joined ≡ false → t.text ≡ slice_range text (i + 1) (t.ends - 1))

pub title_is_at : (starts : ℕ → Option ℕ) (text : List ℕ) (i : ℕ) → IsTitleAt text i (title_at starts text i)
title_is_at starts text i = by (closer_of (slice_index text i))
  where
    at : (o : Option Title) → IsFrom (i + 1) (i + 1) (drop (i + 1) text) o → IsTitleAt text i o
    at None h = tt
    at (Some t) h = (omega (arith, h.0), h.1 (omega arith))

    by : (closer : Option ℕ)
        → IsTitleAt text i (option_and_then (λ closer. title_in closer false (joined_lines starts (i + 1) 0 text))
        closer)
    by None = tt
    by (Some closer) =
        let bytes = joined_lines starts (i + 1) (i + 1) (drop (i + 1) text) in
        rw (joined_after starts (i + 1) 0 (i + 1) (i + 1) text (omega arith) (omega arith))
        (at (title_in closer false bytes) (is_from starts closer (i + 1) (i + 1) false (drop (i + 1) text)))

-- a title is a slice only where no lines are joined in it and nothing is replaced
sliced_unchanged : (names : EntityNames) (in_table : Bool) (written : List ℕ) (joined : Bool)
    → title_origin names in_table written joined ≡ sliced
    → (joined ≡ false) × (unescaped names in_table written ≡ written)
sliced_unchanged names in_table written true is = cc is
sliced_unchanged names in_table written false is =
    (refl, by (pointwise nat_eq (unescaped names in_table written) written) refl is)
  where
    by : (b : Bool) → pointwise nat_eq (unescaped names in_table written) written ≡ b
        → (if b then sliced else made) ≡ sliced
        → unescaped names in_table written ≡ written
    by true e is = same_text (unescaped names in_table written) written (sym e)
    by false e is = cc is

-- a slice of a text's beginning is a slice of the text
take_nothing : (n : ℕ) → ◌≡◌ {A = List ℕ} (take n []) []
take_nothing zero = refl
take_nothing (suc n) = refl

slice_of_take : (source : List ℕ) (end from to : ℕ) → slice_range (take end source) from to
    ≡ slice_range source from (min to end)
slice_of_take source end from to =
    let both : min (to - from) (end - from) ≡ min to end - from = omega arith in
    ap (λ (l : List ℕ). take (to - from) l) (drop_of_take from end source)
    ∙ take_of_take (to - from) (end - from) (drop from source) ∙ ap (λ (n : ℕ). take n (drop from source)) both

module _ (names : EntityNames) (in_table : Bool) (skipped : List ℕ → Option ℕ) (starts : ℕ → Option ℕ)
    (source : List ℕ) (block_end at : ℕ) (found : LinkTail) where
  abbrev text : List ℕ
  text = take block_end source

  -- the title of what was found is a slice of the text, from the byte `at` on and before the end, if its origin says so
  abbrev IsWritten : Type 0
  IsWritten = IsSlicedOf source at found.end (origin_of found.title) (text_of found.title)

  -- it is, where that is this tail
  abbrev Titled : Option tail.LinkTail → Type 0
  Titled t = ReadsTail names in_table t (Some found) → IsWritten

  closed : (i : ℕ) (written title : List ℕ) (joined : Bool)
      → (found.end ≡ i + 1 → joined ≡ false → text_of found.title ≡ title
      → IsSliceWithin source at found.end (text_of found.title)) → Titled (closed_at text i written title joined)
  closed i written title joined h = by (slice_index text i == 41)
    where
      by : (b : Bool)
          → Titled (if b then Some (record { ends = i + 1; destination = written; title = title; is_joined = joined })
          else None)
      by true reads is =
          let as_written = sliced_unchanged names in_table title joined (sym reads.title_origin ∙ is) in
          h reads.ends as_written.0 (reads.title ∙ as_written.1)
      by false reads is = absurd reads

  past : (i : ℕ) → i ≤ past_separator skipped text i
  past i = omega arith

  titled : (next : ℕ) (written : List ℕ) (o : Option Title) → at ≤ next → title_at starts text next ≡ o
      → Titled (after_title skipped text next written o)
  titled next written None later e = closed next written [] false (λ ends unjoined same.
      ∣ (record { start = next; end = next }, later, omega (arith, ends), same ∙ sym (slice_empty source next)) ∣₁)
  titled next written (Some t) later e = closed (past_separator skipped text t.ends) written t.text t.is_joined
      (λ ends unjoined same. ∣ (
        record { start = next + 1; end = min (t.ends - 1) block_end },
        omega (arith, later),
        omega (arith, ends, past t.ends),
        same ∙ (subst (IsTitleAt text next) e (title_is_at starts text next)).1 unjoined
            ∙ slice_of_take source block_end (next + 1) (t.ends - 1),
      ) ∣₁)

  tail_titled : Titled (link_tail skipped starts text at)
  tail_titled = by (slice_index text at == 40)
    where
      start : ℕ
      start = past_separator skipped text (at + 1)

      led : (d : Option (ℕ × List ℕ)) → Titled (after_destination skipped starts text start d)
      led None = λ reads. absurd reads
      led (Some d) =
          let next = past_separator skipped text (start + d.0) in
          titled next d.1 (title_at starts text next) (omega (arith, past (at + 1), past (start + d.0))) refl

      by : (b : Bool)
          → Titled (if b then after_destination skipped starts text start (destination_at text start) else None)
      by true = led (destination_at text start)
      by false = λ reads. absurd reads

-- the title of a tail that was read up to a block's end
pub has_title : (names : EntityNames) (in_table : Bool) (skipped : List ℕ → Option ℕ) (starts : ℕ → Option ℕ)
    (source bytes : List ℕ) (block_end at : ℕ) (read : Option LinkTail) → bytes ≡ take block_end source
    → ReadsTail names in_table (link_tail skipped starts bytes at) read → IfSome read (IsTailFrom source at)
has_title names in_table skipped starts source bytes block_end at None e reads = tt
has_title names in_table skipped starts source bytes block_end at (Some found) e reads =
    tail_titled names in_table skipped starts source block_end at found (rw e at reads)

-- what comes from a range comes from a wider one
pub tail_wider : (source : List ℕ) (start start' : ℕ) (found : LinkTail) → start' ≤ start
    → IsTailFrom source start found
    → IsTailFrom source start' found
tail_wider source start start' found low h =
    title_wider source start found.end start' found.end kind.Inline (origin_of found.title) (text_of found.title) low
    (omega arith) h
