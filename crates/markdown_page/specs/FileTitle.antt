-- The title that the name of a file gives.
use Rattle.std.specs.Prelude.{ℕ, List, ◌==◌, if◌then◌else◌, length, codes}
use Rattle.std.specs.List.{after_last, before_last}
use Rattle.std.specs.Str.{bytes_eq}
use Rattle.markdown_base.specs.Bytes.{full_stop, slash}

-- a name without its last `.` and what follows it, unless nothing stands before that
abbrev pub without_ending : List ℕ → List ℕ
without_ending name =
    if length (before_last (λ b. b == full_stop) name) == 0 then name else before_last (λ b. b == full_stop) name

-- the title that the name of a file gives: what follows the last `/` of it, without its ending; `-` is standard input
abbrev pub file_title : List ℕ → List ℕ
file_title name =
    if bytes_eq name (codes "-") then codes "Untitled" else without_ending (after_last (λ b. b == slash) name)
