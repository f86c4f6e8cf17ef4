-- What is appended to a string: bytes, or a prefix of them.
use Rattle.std.specs.Prelude.{◌≡◌, ℕ, List, ◌++◌, String, string_bytes}
use Rattle.markdown_out.specs.ByteLists.{AppendsPrefix}

-- these bytes were appended
abbrev pub Appends : {A : Type 0} → String A → String A → List ℕ → Type 0
Appends old new bytes = string_bytes new ≡ string_bytes old ++ bytes

-- a prefix of these bytes was appended, and nothing else
abbrev pub AppendsPart : {A : Type 0} → String A → String A → List ℕ → Type 0
AppendsPart old new bytes = AppendsPrefix (string_bytes old) (string_bytes new) bytes
