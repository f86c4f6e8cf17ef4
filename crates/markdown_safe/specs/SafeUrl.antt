-- Safe URLs: those without a scheme, and those with a scheme that runs no script.
use Rattle.std.specs.Prelude.{ℕ, Bool, true, false, not, List, [], ◌∷◌, ◌==◌, ◌||◌, codes, if◌then◌else◌, nat_lt}
use Rattle.std.specs.Prelude.{Option, Some, None}
use Rattle.std.specs.Char.{is_ascii_alphabetic}
use Rattle.std.specs.List.{list_any}
use Rattle.std.specs.Option.{option_map, option_map_or}
use Rattle.std.specs.Str.{bytes_eq, str_to_ascii_lowercase}
use Rattle.markdown_base.specs.Bytes.{colon}
use Rattle.markdown_out.specs.TagHtml.{may_be_in_scheme}

-- the schemes that a link may have
abbrev pub link_schemes : List (List ℕ)
link_schemes = codes "http" ∷ codes "https" ∷ codes "mailto" ∷ codes "tel" ∷ []

-- the schemes that an image may have
abbrev pub image_schemes : List (List ℕ)
image_schemes = codes "http" ∷ codes "https" ∷ []

-- a browser drops this byte before it looks for the scheme: a space at either end, a control byte there, a tab or the
-- end of a line anywhere. Here each space and control byte is dropped, wherever it stands: this finds each scheme that
-- a browser finds, and more.
abbrev pub is_dropped_byte : ℕ → Bool
is_dropped_byte b = nat_lt b 33

-- the bytes of a URL before its first colon, if all of them may be in a scheme
abbrev pub before_colon : List ℕ → Option (List ℕ)
before_colon [] = None
before_colon (b ∷ rest) =
    if is_dropped_byte b then before_colon rest
    else if b == colon then Some []
    else if may_be_in_scheme b then option_map (λ found. b ∷ found) (before_colon rest)
    else None

-- these bytes before a colon are a scheme: they begin with a letter
abbrev pub is_scheme : List ℕ → Bool
is_scheme [] = false
is_scheme (b ∷ rest) = is_ascii_alphabetic b

-- a scheme is one of these, in upper or lower case
abbrev pub is_scheme_of : (schemes : List (List ℕ)) → List ℕ → Bool
is_scheme_of schemes scheme = list_any (bytes_eq (str_to_ascii_lowercase scheme)) schemes

-- a URL has no scheme, or one of these
abbrev pub is_safe_url : (schemes : List (List ℕ)) → List ℕ → Bool
is_safe_url schemes url =
    option_map_or (λ found. not (is_scheme found) || is_scheme_of schemes found) (before_colon url) true
