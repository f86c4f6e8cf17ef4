-- The tail of a link, from its parts.
use Rattle.std.proofs.Common.{◌≡◌, ℕ, ◌+◌, ◌==◌, Bool, true, false, List, [], Option, Some, None, ◌≤◌, length, refl}
use Rattle.std.specs.Prelude.{slice_index}
use Rattle.std.proofs.lemmas.List.{get_or_past}
use Rattle.markdown_base.specs.CowText.{text_of}
use Rattle.markdown_base.specs.StoredTexts.{IsBorrowed}
use Rattle.markdown_base.specs.declared.cow_str.CowStr.{CowStr}
use Rattle.markdown_scan.specs.Unescape.{unescaped}
use Rattle.markdown_scan.specs.declared.entity.EntityNames.{EntityNames}
use Rattle.markdown_brackets.specs.LinkTail as tail
use Rattle.markdown_brackets.specs.LinkTail.{link_tail, destination_at, past_separator, after_destination, after_title}
use Rattle.markdown_brackets.specs.LinkTail.{closed_at}
use Rattle.markdown_brackets.specs.LinkTailView.{ReadsTail, BorrowsTail}
use Rattle.markdown_document.specs.LinkTitle.{Title, title_at}
use Rattle.markdown_brackets.specs.TitlePart.{IsTitleText, IsTitlePart}
use Rattle.markdown_brackets.specs.declared.link_tail.LinkTail.{LinkTail}

module _ (names : EntityNames) (in_table : Bool) (skipped : List ℕ → Option ℕ) (starts : ℕ → Option ℕ)
    (text : List ℕ) (at close : ℕ) (written : List ℕ) (title : CowStr) where
  -- a tail with this title, if the byte at `close` closes it
  pub record ClosesAt (t : Option tail.LinkTail) : Type 0 where
    pub i : ℕ
    pub title_text : List ℕ
    pub joined : Bool
    pub titled : IsTitleText names in_table i close title_text joined title
    pub is : t ≡ closed_at text i written title_text joined

  closes_after : (next : ℕ) (t : Option Title) → IsTitlePart skipped names in_table text next t close title
      → ClosesAt (after_title skipped text next written t)
  closes_after next None h = record { i = next; title_text = []; joined = false; titled = h; is = refl }
  closes_after next (Some t) h = record
      { i = past_separator skipped text t.ends; title_text = t.text; joined = t.is_joined; titled = h; is = refl }

  pub tail_closes : (length : ℕ) → (slice_index text at == 40) ≡ true
      → destination_at text (past_separator skipped text (at + 1)) ≡ Some (length, written)
      → IsTitlePart skipped names in_table text
      (past_separator skipped text (past_separator skipped text (at + 1) + length))
      (title_at starts text (past_separator skipped text (past_separator skipped text (at + 1) + length))) close title
      → ClosesAt (link_tail skipped starts text at)
  tail_closes length opens e part =
      let start : ℕ = past_separator skipped text (at + 1) in
      let next : ℕ = past_separator skipped text (start + length) in
      rw (opens, e) (closes_after next (title_at starts text next) part)

  -- there is no tail if no `)` closes it
  pub tail_open : (t : Option tail.LinkTail) → ClosesAt t → (slice_index text close == 41) ≡ false → t ≡ None
  tail_open t c none = rw (c.is, ← c.titled.ends, none) refl

  module _ (found : CowStr) (closes : (slice_index text close == 41) ≡ true)
      (is : text_of found ≡ unescaped names in_table written)
      (sliced : text_of found ≡ written → IsBorrowed found) where
    abbrev pub made : LinkTail
    made = record { end = close + 1; destination = found; title = title }

    -- what was made is such a tail, and its texts are slices where they can be
    pub record Reads (t : Option tail.LinkTail) : Type 0 where
      pub reads : ReadsTail names in_table t (Some made)
      pub borrows : BorrowsTail t (Some made)

    pub tail_reads : (t : Option tail.LinkTail) → ClosesAt t → Reads t
    tail_reads t c = rw (c.is, ← c.titled.ends, closes) (record {
      reads = record { ends = refl; destination = is; title = c.titled.text_is; title_origin = c.titled.origin };
      borrows = sliced;
    })

-- there is no tail if nothing begins one
pub tail_closed : (skipped : List ℕ → Option ℕ) (starts : ℕ → Option ℕ) (text : List ℕ) (at : ℕ)
    → (slice_index text at == 40) ≡ false
    → link_tail skipped starts text at ≡ None
tail_closed skipped starts text at e = rw e refl

-- there is no tail after the text's end
pub tail_past_end : (skipped : List ℕ → Option ℕ) (starts : ℕ → Option ℕ) (text : List ℕ) (at : ℕ) → length text ≤ at
    → link_tail skipped starts text at ≡ None
tail_past_end skipped starts text at past = rw (get_or_past text at 0 past) refl
