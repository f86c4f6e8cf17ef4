-- The pipe of a wikilink, `[[name|shown text]]`: the first one separates the name from the shown text.
use Rattle.std.specs.Prelude.{ℕ, ◌+◌, ◌==◌, List, take, drop, Option, position}
use Rattle.std.specs.Option.{option_map}
use Rattle.markdown_base.specs.Bytes.{pipe}

-- the byte offset after the first pipe of the body that starts at `start`, and the body's bytes before that pipe
abbrev pub name_before_pipe : ℕ → List ℕ → Option (ℕ × List ℕ)
name_before_pipe start body = option_map (λ n. (start + n + 1, take n body)) (position (λ b. b == pipe) body)

-- the same for the body of `size` bytes from the byte `start` of the text on
abbrev pub wikilink_pipe : List ℕ → ℕ → ℕ → Option (ℕ × List ℕ)
wikilink_pipe text start size = name_before_pipe start (take size (drop start text))
