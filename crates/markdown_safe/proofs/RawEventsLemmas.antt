-- What raw HTML becomes in safe events, case by case.
use Rattle.std.proofs.Common.{ℕ, Bool, true, false, List, [], ◌∷◌, codes, if◌then◌else◌}
use Rattle.markdown_base.specs.Event.{EventView, hard_break, html, inline_html, rule, text}
use Rattle.markdown_safe.specs.SafeEvents.{safe_block_html, safe_inline_html}
use Rattle.markdown_safe.specs.VoidTags.{is_tag_of}

module _ (P : EventView → Type 0) where
  -- what holds of nothing, of a rule, of a line break and of text, holds of what HTML of an HTML block becomes
  pub block_html_cases : (t : List ℕ) → P (html []) → P rule → P hard_break → ((t : List ℕ) → P (text t))
      → P (safe_block_html t)
  block_html_cases [] none r h shown = none
  block_html_cases (b ∷ t) none r h shown = by_tests (is_tag_of (codes "hr") (b ∷ t)) (is_tag_of (codes "br") (b ∷ t))
    where
      by_tests : (is_rule is_break : Bool)
          → P (if is_rule then rule else if is_break then hard_break else text (b ∷ t))
      by_tests true is_break = r
      by_tests false true = h
      by_tests false false = shown (b ∷ t)

  -- and of nothing, of a line break, of a place for one and of text, of what inline HTML becomes
  pub inline_html_cases : (t : List ℕ) → P (inline_html []) → P hard_break → P (inline_html (codes "<wbr />"))
      → ((t : List ℕ) → P (text t)) → P (safe_inline_html t)
  inline_html_cases [] none h place shown = none
  inline_html_cases (b ∷ t) none h place shown =
      by_tests (is_tag_of (codes "br") (b ∷ t)) (is_tag_of (codes "wbr") (b ∷ t))
    where
      by_tests : (is_break is_place : Bool)
          → P (if is_break then hard_break else if is_place then inline_html (codes "<wbr />") else text (b ∷ t))
      by_tests true is_place = h
      by_tests false true = place
      by_tests false false = shown (b ∷ t)
