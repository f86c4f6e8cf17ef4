-- The break between two lines of a paragraph (CommonMark 6.7, 6.8), by the bytes at the end of the first.
use Rattle.std.specs.Prelude.{◌≡◌, ℕ, ◌-◌, ◌%◌, true, false, ◌==◌, if◌then◌else◌, List, nat_lt}
use Rattle.markdown_base.specs.Bytes.{backslash, space}
use Rattle.markdown_base.specs.declared.item.ItemBody.TheVariants as body
use Rattle.markdown_lines.specs.declared.line_break.LineBreak.{LineBreak}
use Rattle.markdown_lines.specs.Lines.{is_space_or_tab, IsRunBefore}

-- The break, from where the backslashes and the spaces before a line ending begin: a hard break, which begins at the
-- last of an odd number of backslashes, or at two or more spaces, and otherwise a soft break. Before spaces the text
-- ends at `content`.
abbrev pub break_after : ℕ → ℕ → ℕ → ℕ → LineBreak
break_after stop backslashes spaces content =
    if (stop - backslashes) % 2 == 1
    then record { text_end = stop - 1; start = stop - 1; body = body.HardBreak true }
    else if nat_lt (stop - spaces) 2
    then record { text_end = content; start = stop; body = body.SoftBreak }
    else record { text_end = content; start = spaces; body = body.HardBreak false }

-- the break after a line whose content is from byte offset `from` up to `stop`
pub record IsLineBreak (text : List ℕ) (from stop : ℕ) (between : LineBreak) : Type 0 where
  pub backslashes : ℕ
  pub backslash_run : IsRunBefore (λ byte. byte == backslash) text from stop backslashes
  pub spaces : ℕ
  pub space_run : IsRunBefore (λ byte. byte == space) text from stop spaces
  pub content : ℕ
  pub content_run : IsRunBefore is_space_or_tab text from spaces content
  pub value : between ≡ break_after stop backslashes spaces content
