-- The lists of extensions in a command line: their parts, and what a part says of an extension.
use Rattle.std.specs.Prelude.{ℕ, ◌==◌, Bool, ◌&&◌, List, codes, drop, length, take, if◌then◌else◌}
use Rattle.std.specs.List.{flat_map, slice_split}
use Rattle.std.specs.Str.{bytes_eq}

abbrev pub comma : ℕ
comma = 44

-- the parts of lists, each cut at its commas
abbrev pub list_parts : (lists : List (List ℕ)) → List (List ℕ)
list_parts lists = flat_map (slice_split (λ b. b == comma)) lists

-- the name by which an extension is offered: `gfm` is another name of `alerts`
abbrev pub offered_name : List ℕ → List ℕ
offered_name name = if bytes_eq name (codes "gfm") then codes "alerts" else name

-- a part enables the extension that is offered by a name: it is a name of it
abbrev pub enables : (name part : List ℕ) → Bool
enables name part = bytes_eq (offered_name part) name

-- what stands before the name of an extension that is disabled
abbrev pub negation : List ℕ
negation = codes "no-"

-- a part disables it: it is `no-` and a name of it
abbrev pub disables : (name part : List ℕ) → Bool
disables name part = bytes_eq (take (length negation) part) negation && enables name (drop (length negation) part)
