-- How HTML blocks of each kind end (CommonMark 4.6), by the bytes of a line.
use Rattle.std.specs.Prelude.{ℕ, Bool, true, false, ◌&&◌, ◌||◌, nat_le, List, [], ◌∷◌, length, take, map, codes}
use Rattle.std.specs.Char.{to_ascii_lowercase}
use Rattle.std.specs.Str.{bytes_eq}
use Rattle.markdown_lines.specs.declared.html_kind.HtmlKind.{HtmlKind}
use Rattle.markdown_lines.specs.declared.html_kind.HtmlKind.TheVariants as kind

-- bytes begin with others, ignoring the case of letters
abbrev pub begins_ignoring_case : List ℕ → List ℕ → Bool
begins_ignoring_case bytes beginning =
    nat_le (length beginning) (length bytes)
    && bytes_eq (map to_ascii_lowercase (take (length beginning) bytes)) (map to_ascii_lowercase beginning)

-- bytes contain others, ignoring the case of letters
abbrev pub holds : List ℕ → List ℕ → Bool
holds [] others = false
holds (byte ∷ bytes) others = begins_ignoring_case (byte ∷ bytes) others || holds bytes others

-- a block of this kind ends before a blank line
abbrev pub ends_at_blank : HtmlKind → Bool
ends_at_blank kind.BlockTag = true
ends_at_blank kind.LoneTag = true
ends_at_blank other = false

-- a block of this kind ends with a line that has these bytes
abbrev pub ends_in : HtmlKind → List ℕ → Bool
ends_in kind.Verbatim line =
    holds line (codes "</pre>") || holds line (codes "</script>") || holds line (codes "</style>")
    || holds line (codes "</textarea>")
ends_in kind.Comment line = holds line (codes "-->")
ends_in kind.Instruction line = holds line (codes "?>")
ends_in kind.Declaration line = holds line (codes ">")
ends_in kind.CharacterData line = holds line (codes "]]>")
ends_in other line = false
