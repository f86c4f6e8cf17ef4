-- How the entries of events, and the events up to an End, begin with the first event.
use Rattle.std.proofs.Common.{◌≡◌, ◌-◌, ◌==◌, ℕ, suc, true, false, List, [], ◌∷◌, ◌++◌, Some, None, refl, arith}
use Rattle.std.proofs.Math.Dec.{eqb-suc-zero}
use Rattle.markdown_base.specs.Event.{EventView, start, end, text, code, inline_math, display_math, soft_break}
use Rattle.markdown_base.specs.Event.{hard_break, html, inline_html, footnote_reference, rule, task_list_marker}
use Rattle.markdown_links.specs.LinkEntries.{LinkBegun, ends_link, link_entries_of, opened_link, up_to_own_end}
use Rattle.markdown_outline.specs.Outline.{Ranged, joined_text, text_added}

-- a Start has no text
pub no_text_of_start : (e : EventView) (begun : LinkBegun) → opened_link e ≡ Some begun → text_added e ≡ []
no_text_of_start (start tag) begun h = refl
no_text_of_start (end tag) begun h = refl
no_text_of_start (text t) begun h = cc h
no_text_of_start (code t) begun h = cc h
no_text_of_start (inline_math t) begun h = cc h
no_text_of_start (display_math t) begun h = cc h
no_text_of_start soft_break begun h = cc h
no_text_of_start hard_break begun h = cc h
no_text_of_start (html t) begun h = refl
no_text_of_start (inline_html t) begun h = refl
no_text_of_start (footnote_reference name) begun h = refl
no_text_of_start rule begun h = refl
no_text_of_start (task_list_marker done) begun h = refl

-- an End has none, and begins no link
pub no_text_of_end : (e : EventView) → ends_link e ≡ true → text_added e ≡ []
no_text_of_end (start tag) h = refl
no_text_of_end (end tag) h = refl
no_text_of_end (text t) h = cc h
no_text_of_end (code t) h = cc h
no_text_of_end (inline_math t) h = cc h
no_text_of_end (display_math t) h = cc h
no_text_of_end soft_break h = cc h
no_text_of_end hard_break h = cc h
no_text_of_end (html t) h = refl
no_text_of_end (inline_html t) h = refl
no_text_of_end (footnote_reference name) h = refl
no_text_of_end rule h = refl
no_text_of_end (task_list_marker done) h = refl

pub end_begins_none : (e : EventView) → ends_link e ≡ true → opened_link e ≡ None
end_begins_none (start tag) h = cc h
end_begins_none (end tag) h = refl
end_begins_none (text t) h = refl
end_begins_none (code t) h = refl
end_begins_none (inline_math t) h = refl
end_begins_none (display_math t) h = refl
end_begins_none soft_break h = refl
end_begins_none hard_break h = refl
end_begins_none (html t) h = refl
end_begins_none (inline_html t) h = refl
end_begins_none (footnote_reference name) h = refl
end_begins_none rule h = refl
end_begins_none (task_list_marker done) h = refl

module _ (e : Ranged) (later : List Ranged) where
  -- the text inside, after a Start: one more is open
  pub inside_at_start : (within : ℕ) (begun : LinkBegun) → opened_link e.0 ≡ Some begun
      → joined_text (up_to_own_end within (e ∷ later)) ≡ joined_text (up_to_own_end (suc within) later)
  inside_at_start within begun h =
      rw (h, no_text_of_start e.0 begun h) refl

  -- after an End one fewer is open
  pub inside_at_end : (within : ℕ) → ends_link e.0 ≡ true
      → joined_text (up_to_own_end (suc within) (e ∷ later)) ≡ joined_text (up_to_own_end within later)
  inside_at_end within h =
      let more : (suc within == 0) ≡ false = eqb-suc-zero within in
      let fewer : suc within - 1 ≡ within = omega arith in
      rw (end_begins_none e.0 h, h, more, fewer, no_text_of_end e.0 h) refl

  -- or it was its own
  pub inside_at_own_end : ends_link e.0 ≡ true → joined_text (up_to_own_end 0 (e ∷ later)) ≡ []
  inside_at_own_end h = rw (end_begins_none e.0 h, h) refl

  -- another event adds its text
  pub inside_at_other : (within : ℕ) → opened_link e.0 ≡ None → ends_link e.0 ≡ false
      → joined_text (up_to_own_end within (e ∷ later)) ≡ text_added e.0 ++ joined_text (up_to_own_end within later)
  inside_at_other within n h = rw (n, h) refl

  -- where none begins, the entries are those of the events that follow
  pub entries_at_other : opened_link e.0 ≡ None → link_entries_of (e ∷ later) ≡ link_entries_of later
  entries_at_other n = rw n refl
