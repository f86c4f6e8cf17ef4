-- The text of a span is a slice of the bytes between its delimiters where its origin says so; so are the address of an
-- autolink and the name of a wikilink.
use Rattle.std.proofs.Common.{◌≡◌, ℕ, ◌+◌, ◌-◌, ◌≤◌, Bool, true, false, ◌&&◌, ◌||◌, not, List, [], ◌∷◌, Option, Some}
use Rattle.std.proofs.Common.{None, length, take, drop, refl, sym, ap, subst, arith}
use Rattle.std.specs.Prelude.{IfSome, if◌then◌else◌, is_some, slice_range}
use Rattle.std.specs.Option.{option_and_then, option_map, option_or}
use Rattle.markdown_base.specs.Forest.{Forest, node}
use Rattle.markdown_brackets.specs.BracketDecision.{BracketContext, Wikilink, shown_children, wikilink_by, wikilink_in}
use Rattle.markdown_brackets.specs.Wikilink.{WikilinkBody, has_pothole, wikilink_body}
use Rattle.markdown_brackets.proofs.WrittenLemmas.{whole_range}
use Rattle.markdown_document.specs.ChainRest.{start_of}
use Rattle.markdown_document.specs.Document.{TreeNode}
use Rattle.markdown_document.specs.EnclosingBlocks.{EnclosingBlocks}
use Rattle.markdown_document.specs.Origins.{IsSliceWithin, IsSlicedOf, made, sliced}
use Rattle.markdown_document.specs.Setting.{Setting}
use Rattle.markdown_spans.specs.LineEnd.{line_ending}
use Rattle.markdown_spans.specs.AfterLess.{Markup, address_at, autolink, html_at, html_markup, markup_at}
use Rattle.markdown_spans.specs.Autolink.{uri_autolink}
use Rattle.markdown_spans.specs.CodeText.{Piece, begins_escaped_pipe, has_outer_spaces, is_sliced, lines_joined}
use Rattle.markdown_spans.specs.CodeText.{piece_at, replaced_past, shown_ending, span_text, without_outer_spaces}
use Rattle.markdown_spans.specs.Finds.{prefix_below, span_between}
use Rattle.markdown_spans.specs.declared.after_less.AutolinkKind.TheVariants.{Uri, Email}
use Rattle.markdown_spans.specs.declared.span_text.SpanKind.{SpanKind}
use Rattle.markdown_spans.specs.declared.span_text.SpanKind.TheVariants.{Code, Math}
use Rattle.markdown_spans.proofs.SliceLemmas.{slice_inside, slice_of_slice, slice_whole}
use Rattle.markdown_resolver.proofs.MarkupEndLemmas.{address_slice, uri_slice}
use Rattle.markdown_resolver.proofs.WikilinkShowsLemmas.{body_slice}

-- ---- spans

-- bytes in which nothing is replaced stay as they are
not_both : (ending pipe others : Bool) → (not (ending || pipe) && others) ≡ true
    → (ending ≡ false) × (pipe ≡ false) × (others ≡ true)
not_both false false true e = (refl, refl, refl)
not_both false false false e = cc e
not_both true pipe others e = cc e
not_both false true others e = cc e

no_piece : (kind : SpanKind) (in_table : Bool) (prefix : List ℕ → ℕ) (bytes : List ℕ)
    → is_some (line_ending bytes) ≡ false → begins_escaped_pipe in_table bytes ≡ false
    → piece_at kind in_table prefix bytes ≡ None
no_piece kind in_table prefix bytes e f = by (line_ending bytes) (begins_escaped_pipe in_table bytes) e f
  where
    by : (ending : Option ℕ) (escaped : Bool) → is_some ending ≡ false → escaped ≡ false
        → option_or (option_map (λ n. let p : Piece = record {
          taken = n + prefix (drop n bytes);
          shown = shown_ending kind (take n bytes);
        } in p) ending) (if escaped then Some (record { taken = 2; shown = 124 ∷ [] }) else None) ≡ None
    by (Some n) escaped e f = cc e
    by None true e f = cc f
    by None false e f = refl

joined_same : (kind : SpanKind) (in_table : Bool) (prefix : List ℕ → ℕ) (bytes : List ℕ)
    → is_sliced in_table bytes ≡ true → lines_joined kind in_table prefix bytes ≡ bytes
unfolding is_sliced replaced_past
joined_same kind in_table prefix [] e = refl
joined_same kind in_table prefix (b ∷ bytes) e =
    let parts = not_both (is_some (line_ending (b ∷ bytes))) (begins_escaped_pipe in_table (b ∷ bytes))
    (is_sliced in_table bytes) e in
    let none = no_piece kind in_table prefix (b ∷ bytes) parts.0 parts.1 in
    rw none (ap (λ (rest : List ℕ). b ∷ rest) (joined_same kind in_table prefix bytes parts.2))

outer_slice : (bytes : List ℕ) → IsSliceWithin bytes 0 (length bytes) (without_outer_spaces bytes)
outer_slice bytes = by (has_outer_spaces bytes)
  where
    by : (outer : Bool) → IsSliceWithin bytes 0 (length bytes) (if outer then take (length bytes - 2) (drop 1 bytes)
        else bytes)
    by true = slice_in bytes
      where
        slice_in : (bytes : List ℕ) → IsSliceWithin bytes 0 (length bytes) (take (length bytes - 2) (drop 1 bytes))
        slice_in bytes =
            let size : length bytes - 2 ≡ length bytes - 1 - 1 = omega arith in
            ∣ (
              record { start = 1; end = length bytes - 1 },
              omega arith,
              omega arith,
              ap (λ n. take n (drop 1 bytes)) size,
            ) ∣₁
    by false = slice_whole bytes

text_slice : (kind : SpanKind) (in_table : Bool) (prefix : List ℕ → ℕ) (bytes : List ℕ)
    → is_sliced in_table bytes ≡ true → IsSliceWithin bytes 0 (length bytes) (span_text kind in_table prefix bytes)
text_slice Code in_table prefix bytes e =
    subst (λ (text : List ℕ). IsSliceWithin bytes 0 (length bytes) (without_outer_spaces text))
    (sym (joined_same Code in_table prefix bytes e)) (outer_slice bytes)
text_slice Math in_table prefix bytes e =
    subst (λ (text : List ℕ). IsSliceWithin bytes 0 (length bytes) text)
    (sym (joined_same Math in_table prefix bytes e)) (slice_whole bytes)

origin_sliced : (b : Bool) → (if b then sliced else made) ≡ sliced → b ≡ true
origin_sliced true e = refl
origin_sliced false e = cc e

pub span_slice : (s : Setting) (above : EnclosingBlocks) (kind : SpanKind) (start end : ℕ) → start ≤ end
    → IsSlicedOf s.text start end (span_between s above kind start end).origin
    (span_between s above kind start end).bytes
span_slice s above kind start end order = λ is.
    let bytes = slice_range s.text start end in
    slice_inside s.text start end (length bytes) _ order
    (text_slice kind above.in_table (prefix_below s above) bytes (origin_sliced (is_sliced above.in_table bytes) is))

-- ---- autolinks

-- an address is a slice of the source, from the `<` on
abbrev pub AddressIn : List ℕ → ℕ → Markup → Type 0
AddressIn source at (autolink kind end bytes) = IsSliceWithin source at end bytes
AddressIn source at (html_markup end bytes) = Unit {0}

pub markup_slice : (skipped : List ℕ → Option ℕ) (addresses : Bool) (source : List ℕ) (size start at : ℕ)
    → IfSome (markup_at skipped addresses (take size source) start at) (AddressIn source at)
unfolding markup_at
markup_slice skipped addresses source size start at =
    by (uri_autolink text at) (address_at addresses text at) (html_at skipped text start at) (uri_slice text at)
    (address_slice addresses text at)
  where
    text : List ℕ
    text = take size source

    of_whole : (found : ℕ × List ℕ) → IsSliceWithin text at found.0 found.1 → IsSliceWithin source at found.0 found.1
    of_whole found h =
        let a : 0 + at ≡ at = omega arith in
        let b : 0 + found.0 ≡ found.0 = omega arith in
        rw (a, b) at (slice_of_slice source 0 size at found.0 found.1
        (subst (λ (t : List ℕ). IsSliceWithin t at found.0 found.1) (sym (whole_range source size)) h))

    by : (uri address : Option (ℕ × List ℕ)) (tag : Option (ℕ × Option (List ℕ)))
        → IfSome uri (λ found. IsSliceWithin text at found.0 found.1)
        → IfSome address (λ found. IsSliceWithin text at found.0 found.1)
        → IfSome (option_or (option_map (λ found. autolink Uri found.0 found.1) uri)
        (option_or (option_map (λ found. autolink Email found.0 found.1) address)
        (option_map (λ found. html_markup found.0 found.1) tag))) (AddressIn source at)
    by (Some found) address tag h i = of_whole found h
    by None (Some found) tag h i = of_whole found i
    by None None (Some found) h i = tt
    by None None None h i = tt

-- ---- wikilinks

-- the name of a wikilink is a slice of the source, from its body on
pub name_slice_of : {A : Type 0} (w : BracketContext) (first : TreeNode A) (below after : Forest (TreeNode A)) (end : ℕ)
    → IfSome (wikilink_in w (node first below after) end)
    (λ v. IsSliceWithin w.setting.text (start_of first) end v.name)
name_slice_of {A} w first below after end = by
    (wikilink_body w.setting.text w.above.block_end (start_of first) end)
    (body_slice w.setting.text w.above.block_end (start_of first) end)
  where
    made : (b : WikilinkBody) (children : Option (Forest (TreeNode A))) → IsSliceWithin w.setting.text
        (start_of first) end
        b.name → IfSome {T = Wikilink A}
        (option_map (λ children. record { name = b.name; has_pothole = has_pothole b.shows; children = children })
        children) (λ v. IsSliceWithin w.setting.text (start_of first) end v.name)
    made b None h = tt
    made b (Some children) h = h

    by : (found : Option WikilinkBody) → IfSome found (λ b. IsSliceWithin w.setting.text (start_of first) end b.name)
        → IfSome (option_and_then (wikilink_by w first (node first below after) end) found)
        (λ v. IsSliceWithin w.setting.text (start_of first) end v.name)
    by None h = tt
    by (Some b) h = made b (shown_children w first (node first below after) end b.shows) h
