-- The label of a definition: none where no colon can follow it, one in a line, or one in several.
use Rattle.std.proofs.Common.{◌≡◌, ℕ, ◌+◌, ◌<◌, ◌≤◌, List, [], ◌∷◌, ◌++◌, Bool, true, false, Option, Some, None, IfSome}
use Rattle.std.proofs.Common.{length, drop, refl, sym, ap, ◌∙◌, arith, subst, slice_range, codes}
use Rattle.std.specs.List.{slice_get}
use Rattle.std.specs.Option.{option_map}
use Rattle.std.specs.Prelude.{if◌then◌else◌}
use Rattle.std.specs.Str.{IsUtf8}
use Rattle.markdown_scan.specs.Backslash.{is_bare}
use Rattle.markdown_scan.specs.Beginnings.{begins_with}
use Rattle.markdown_scan.specs.Label.{body, collapse_whitespace, fits_label, label_bytes, link_label, put_before, shown}
use Rattle.markdown_scan.specs.LinePrefix.{ends_line}
use Rattle.markdown_scan.specs.LineStart.{is_line_over}
use Rattle.markdown_lines.specs.HeldLabels.{HasNoColon, IsLabelRead, label_in, label_of, label_read}
use Rattle.markdown_lines.specs.HeldLines.{IsBracketPlace, held_text}
use Rattle.markdown_lines.specs.LineBytes.{IsPartOf}
use Rattle.markdown_lines.specs.declared.definition.Label.{Label}
use Rattle.markdown_lines.specs.declared.definition.Spot.{Spot}
use Rattle.markdown_lines.specs.declared.held_line.HeldLine.{HeldLine}
use Rattle.markdown_lines.proofs.HeldLabelsLemmas.{label_closes, label_more}
use Rattle.markdown_lines.proofs.HeldLinesLemmas.{after_line, line_of, place_rest, same_line}
use Rattle.markdown_lines.proofs.JoinedLabelLemmas.{joins_first, stop_boundary}

-- the first line after the `[`, and what follows it
pub record IsFirstLine (text : List ℕ) (lines : List HeldLine) (content more : List ℕ) : Type 0 where
  pub whole : drop 1 (held_text text lines) ≡ content ++ more
  pub over : is_line_over more ≡ true

pub first_line : (text : List ℕ) (lines : List HeldLine) (at from : ℕ) (line : HeldLine) (content : List ℕ)
    → IsUtf8 text → (at < length text → from ≡ at + 1) → slice_get lines 0 ≡ Some line
    → IsPartOf text from line.stop content → IsBracketPlace text lines at
    → IsFirstLine text lines content
    (slice_range text line.stop line.next ++ held_text text (drop 1 lines))
first_line text lines at from line content utf8 on there is bracket =
    let joins = joins_first text lines at from utf8 on bracket in
    let spot : Spot = record { line = 0; at = from } in
    let place = joins.place in
    let same = same_line text lines spot place line there in
    let found = line_of text 0 lines 0 line bracket.held there in
    let high : from ≤ line.stop = omega (arith, place.high, ap (λ (l : HeldLine). l.stop) same) in
    let bytes = is.cut high place.boundary (stop_boundary text line found.is) in
    let after = after_line text line (drop 1 lines) found.is found.others in
    let rest = place_rest text lines spot place
    ∙ ap (λ (l : HeldLine). slice_range text from l.stop
    ++ (slice_range text l.stop l.next ++ held_text text (drop 1 lines))) (sym same) in
    record {
      whole = joins.whole
          ∙ (rest ∙ ap (λ (xs : List ℕ). xs ++ (slice_range text line.stop line.next ++ held_text text (drop 1 lines)))
          (sym bytes));
      over = after.over;
    }

-- where no colon follows a label, none is read
no_colon_read : (bytes : List ℕ) → HasNoColon false bytes → IsLabelRead bytes None
no_colon_read bytes none = by (label_in false bytes) refl none
  where
    fitting : (at : ℕ) (inner : List ℕ) (fits : Bool) → begins_with (codes ":") (drop (at + 1) bytes) ≡ false
        → IfSome {T = ℕ × List ℕ} (option_map {T = ℕ × List ℕ} {U = ℕ × List ℕ}
        (λ g. (g.0 + 1, collapse_whitespace false false g.1)) (if fits then Some (at, inner) else None))
        (λ label. begins_with (codes ":") (drop label.0 bytes) ≡ false)
    fitting at inner true h = h
    fitting at inner false h = tt

    by : (found : Option (ℕ × List ℕ)) → label_in false bytes ≡ found
        → IfSome found (λ f. begins_with (codes ":") (drop (f.0 + 1) bytes) ≡ false)
        → IfSome (label_of bytes) (λ label. begins_with (codes ":") (drop label.0 bytes) ≡ false)
    by None e h = rw e tt
    by (Some f) e h = rw e (fitting f.0 (shown false f.1) (fits_label (shown false f.1)) h)

pub defines_none : (text : List ℕ) (lines : List HeldLine) (content more : List ℕ)
    → ((more : List ℕ) → is_line_over more ≡ true → HasNoColon false (content ++ more))
    → IsFirstLine text lines content more → IsLabelRead (drop 1 (held_text text lines)) None
defines_none text lines content more none is =
    subst (λ (xs : List ℕ). IsLabelRead xs None) (sym is.whole) (no_colon_read (content ++ more) (none more is.over))

-- a label that ends in its line is the label of all lines
abbrev one_line : List ℕ → Option ℕ
one_line rest = None

in_one_line : (escaped : Bool) (content more : List ℕ) (found : ℕ × List ℕ)
    → body escaped (label_bytes one_line 0 content) ≡ Some found → label_in escaped (content ++ more) ≡ Some found
in_one_line escaped [] more found is = cc
in_one_line escaped (b ∷ content) more found is =
    by (λ (f : ℕ × List ℕ). in_one_line (is_bare escaped b 92) content more f) (is_bare escaped b 93)
    (is_bare escaped b 91) (ends_line b content) refl refl refl
  where
    inner : ((f : ℕ × List ℕ) → body (is_bare escaped b 92) (label_bytes one_line 0 content) ≡ Some f
        → label_in (is_bare escaped b 92) (content ++ more) ≡ Some f)
        → (result : Option (ℕ × List ℕ)) → body (is_bare escaped b 92) (label_bytes one_line 0 content) ≡ result
        → put_before 1 (b ∷ []) result ≡ Some found
        → put_before 1 (b ∷ []) (label_in (is_bare escaped b 92) (content ++ more)) ≡ Some found
    inner inside None e h = cc
    inner inside (Some f) e h = ap (put_before 1 (b ∷ [])) (inside f e) ∙ h

    by : ((f : ℕ × List ℕ) → body (is_bare escaped b 92) (label_bytes one_line 0 content) ≡ Some f
        → label_in (is_bare escaped b 92) (content ++ more) ≡ Some f)
        → (closes breaks ends : Bool) → is_bare escaped b 93 ≡ closes → is_bare escaped b 91 ≡ breaks
        → ends_line b content ≡ ends → label_in escaped (b ∷ content ++ more) ≡ Some found
    by inside true breaks ends p q r =
        let here : Some (0, []) ≡ Some found = sym (rw p refl) ∙ is in
        label_closes escaped b (content ++ more) p ∙ here
    by inside false true ends p q r =
        let none : None ≡ Some found = sym (rw (p, q) refl) ∙ is in cc
    by inside false false true p q r =
        let none : None ≡ Some found = sym (rw (p, q, r) refl) ∙ is in cc
    by inside false false false p q r =
        let goes : put_before 1 (b ∷ []) (body (is_bare escaped b 92) (label_bytes one_line 0 content)) ≡ Some found =
        sym (rw (p, q, r) refl) ∙ is in
        label_more escaped b (content ++ more) p q
        ∙ inner inside (body (is_bare escaped b 92) (label_bytes one_line 0 content)) refl goes

pub read_in_line : (content more : List ℕ) (found : ℕ × List ℕ) → link_label one_line false content ≡ Some found
    → label_of (content ++ more) ≡ Some found
read_in_line content more found is = by (body false (label_bytes one_line 0 content)) refl
  where
    by : (result : Option (ℕ × List ℕ)) → body false (label_bytes one_line 0 content) ≡ result
        → label_of (content ++ more) ≡ Some found
    by None e =
        let none : None ≡ Some found = sym (rw e refl) ∙ is in cc
    by (Some f) e =
        let whole = in_one_line false content more f e in
        let same : label_of (content ++ more) ≡ link_label one_line false content = rw (whole, e) refl in
        same ∙ is

pub label_in_line : (text : List ℕ) (lines : List HeldLine) (content more : List ℕ) (label : Label)
    → Some (label_read label) ≡ link_label one_line false content
    → IsFirstLine text lines content more → IsLabelRead (drop 1 (held_text text lines)) (Some label)
label_in_line text lines content more label found is =
    sym (ap label_of is.whole ∙ read_in_line content more (label_read label) (sym found))

-- as it is read from several lines
pub read_over_lines : (bytes : List ℕ) (found : Option Label) → option_map label_read found ≡ label_of bytes
    → IsLabelRead bytes found
read_over_lines bytes None is = subst (λ (f : Option (ℕ × List ℕ)). IfSome f
    (λ label. begins_with (codes ":") (drop label.0 bytes) ≡ false)) is tt
read_over_lines bytes (Some label) is = is

-- there is a first line
pub no_first : (text : List ℕ) (lines : List HeldLine) (at : ℕ) → slice_get lines 0 ≡ None
    → IsBracketPlace text lines at → ⊥
no_first text lines at none is = let known = is.there in cc
