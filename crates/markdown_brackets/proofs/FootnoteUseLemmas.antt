-- One more use of a footnote, as the uses by names see it.
use Rattle.std.proofs.Common.{◌≡◌, ℕ, ◌+◌, ◌-◌, ◌^◌, min, Bool, true, false, List, Option, Some, None, is_some, refl}
use Rattle.std.proofs.Common.{sym, ◌∙◌, ap}
use Rattle.std.proofs.Math.Path.{fun_ext}
use Rattle.std.specs.Cmp.Lexicographic.{same_text}
use Rattle.std.specs.Option.{option_map}
use Rattle.std.specs.Prelude.{encode_utf8_all, if◌then◌else◌}
use Rattle.std.specs.BTreeMap.{get_by_text}
use Rattle.markdown_document.specs.Setting.{use_count, uses_of}
use Rattle.markdown_defs.specs.Folding.{case_folding, is_match}
use Rattle.markdown_defs.specs.Footnotes.{footnote_at}
use Rattle.markdown_defs.specs.FootnoteCounts as footnotes
use Rattle.markdown_defs.specs.declared.footnotes.FootnoteDef.{FootnoteDef}
use Rattle.markdown_defs.specs.declared.footnotes.FootnoteDefs.{FootnoteDefs}
use Rattle.markdown_brackets.specs.BracketDecision.{uses_once_more}

-- names that match find the same footnote
found_by_match : (held : FootnoteDefs) (name other : List ℕ) → is_match name other ≡ true → footnote_at held other
    ≡ footnote_at held name
found_by_match held name other e =
    ap (λ folded. get_by_text held.by_folding (encode_utf8_all folded))
    (sym (same_text (case_folding name) (case_folding other) (sym e)))

module _ (old new : FootnoteDefs) (name : List ℕ)
    (counted : (other : List ℕ) → footnote_at new other
    ≡ (if is_match name other then option_map footnotes.used_once_more (footnote_at old name) else footnote_at old
    other)) where
  abbrev most : ℕ
  most = 2 ^ 64 - 1

  counted_in : (found : Option FootnoteDef) → is_some found ≡ true
      → use_count (option_map footnotes.used_once_more found) ≡ min (use_count found + 1) most
  counted_in None e = cc
  counted_in (Some d) e = refl

  not_counted_in : (found : Option FootnoteDef) → is_some found ≡ false
      → use_count (option_map footnotes.used_once_more found)
      ≡ use_count found
  not_counted_in None e = refl
  not_counted_in (Some d) e = cc

  pub uses_grow : is_some (footnote_at old name) ≡ true → uses_of new ≡ uses_once_more name (uses_of old)
  uses_grow defined = fun_ext (λ other. ap use_count (counted other) ∙ by other (is_match name other) refl)
    where
      by : (other : List ℕ) (b : Bool) → is_match name other ≡ b
          → use_count (if b then option_map footnotes.used_once_more (footnote_at old name) else footnote_at old other)
          ≡ (if b then min (uses_of old other + 1) most else uses_of old other)
      by other true e =
          counted_in (footnote_at old name) defined
          ∙ ap (λ found. min (use_count found + 1) most) (sym (found_by_match old name other e))
      by other false e = refl

  pub uses_stay : is_some (footnote_at old name) ≡ false → uses_of new ≡ uses_of old
  uses_stay undefined = fun_ext (λ other. ap use_count (counted other) ∙ by other (is_match name other) refl)
    where
      by : (other : List ℕ) (b : Bool) → is_match name other ≡ b
          → use_count (if b then option_map footnotes.used_once_more (footnote_at old name) else footnote_at old other)
          ≡ uses_of old other
      by other true e =
          not_counted_in (footnote_at old name) undefined ∙ ap use_count (sym (found_by_match old name other e))
      by other false e = refl
