-- The statement of the law that the string of a text reads back as that text.
use Rattle.std.specs.Prelude.{◌≡◌, List, ℕ, Some, ◌++◌, drop}
use Rattle.json.specs.Text.{content, plain}
use Rattle.markdown_json.specs.Json.{string}

-- after its first quote, up to the next one that is not escaped, the string of a text reads as that text,
-- whatever follows
abbrev pub ReadsBack : Type 0
ReadsBack = (text rest : List ℕ) → content plain (drop 1 (string text) ++ rest) ≡ Some text
