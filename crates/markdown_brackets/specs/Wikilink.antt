-- Wikilinks, `[[name]]` and `[[name|shown text]]`, by the bytes of their bodies.
use Rattle.std.specs.Prelude.{ℕ, ◌-◌, Bool, true, false, List, [], ◌∷◌, Option, Some, None, if◌then◌else◌, nat_lt}
use Rattle.std.specs.Prelude.{slice_range, take}
use Rattle.markdown_scan.specs.WikilinkPipe.{wikilink_pipe}

-- what a wikilink shows: its name; nothing, if its body ends at this byte offset after the pipe; or the text from this
-- byte offset after the pipe on
pub data Shows : Type 0 where
  shows_name : Shows
  shows_nothing : ℕ → Shows
  shows_from : ℕ → Shows

-- the name as it is written, and what is shown
pub record WikilinkBody : Type 0 where
  pub name : List ℕ
  pub shows : Shows

-- the body contains a pipe
abbrev pub has_pothole : Shows → Bool
has_pothole shows_name = false
has_pothole (shows_nothing at) = true
has_pothole (shows_from at) = true

-- the body with this name, if the name is not empty
abbrev pub named : List ℕ → Shows → Option WikilinkBody
named [] shows = None
named (b ∷ name) shows = Some (record { name = b ∷ name; shows = shows })

-- what is shown from this byte offset to the end of the body
abbrev pub shown_from : ℕ → ℕ → Shows
shown_from at end = if nat_lt at end then shows_from at else shows_nothing at

-- the body, from the byte offset after its first pipe and the name before it, if there is a pipe
abbrev pub cut_at : List ℕ → ℕ → ℕ → Option (ℕ × List ℕ) → Option WikilinkBody
cut_at text start end None = named (slice_range text start end) shows_name
cut_at text start end (Some pipe) = named pipe.1 (shown_from pipe.0 end)

-- the body between two byte offsets of the text, if it and its name are not empty; pipes after the block's end do not
-- count
abbrev pub wikilink_body : List ℕ → (block_end start end : ℕ) → Option WikilinkBody
wikilink_body text block_end start end =
    if nat_lt start end then cut_at text start end (wikilink_pipe (take block_end text) start (end - start)) else None
