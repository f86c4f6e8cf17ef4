-- Where an escaped text stays: in the element or the attribute in quotes in which it stands.
use Rattle.std.specs.Prelude.{ℕ, List, [], ◌∷◌, Bool, true, not, ◌&&◌, ◌||◌, ◌==◌, if◌then◌else◌, codes, nat_eq}
use Rattle.std.specs.List.{starts_with}
use Rattle.markdown_base.specs.Bytes.{ampersand, double_quote, greater_than, less_than}

-- whether a byte is none of `<`, `>`, `"` and `&`
abbrev pub is_inert_byte : ℕ → Bool
is_inert_byte b = not ((b == less_than) || (b == greater_than) || (b == double_quote) || (b == ampersand))

-- whether these bytes make one of four references of the `&` before them
abbrev pub ends_reference : List ℕ → Bool
ends_reference bs =
    starts_with nat_eq bs (codes "lt;") || starts_with nat_eq bs (codes "gt;") || starts_with nat_eq bs (codes "amp;")
    || starts_with nat_eq bs (codes "quot;")

-- whether no byte is `<`, `>` or `"`, and each `&` begins one of the four references
abbrev pub stays_inside : List ℕ → Bool
stays_inside [] = true
stays_inside (b ∷ bs) = (if b == ampersand then ends_reference bs else is_inert_byte b) && stays_inside bs
