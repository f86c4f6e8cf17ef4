-- How HTML blocks begin: the start conditions of CommonMark 4.6, by the bytes of a line from its `<` on.
use Rattle.std.specs.Prelude.{ℕ, Bool, not, true, false, ◌==◌, ◌&&◌, ◌||◌, List, [], ◌∷◌, Option, Some, None}
use Rattle.std.specs.Prelude.{length, take, drop, map, codes, if◌then◌else◌}
use Rattle.std.specs.Char.{is_ascii_alphanumeric, to_ascii_lowercase}
use Rattle.std.specs.List.{list_all, list_any, prefix_len}
use Rattle.std.specs.Option.{option_map_or, option_or}
use Rattle.std.specs.Str.{bytes_eq}
use Rattle.markdown_base.specs.Bytes.{exclamation_mark, greater_than, hyphen, question_mark, slash}
use Rattle.markdown_raw_html.specs.TagSource.{tag_at}
use Rattle.markdown_scan.specs.Beginnings.{begins_with, begins_with_letter}
use Rattle.markdown_lines.specs.declared.html_kind.HtmlKind.{HtmlKind}
use Rattle.markdown_lines.specs.declared.html_kind.HtmlKind.TheVariants as kind
use Rattle.markdown_lines.specs.Lines.{is_space_or_tab}

-- the names of the tags of the first start condition
unfoldable pub verbatim_tags : List (List ℕ)
verbatim_tags = codes "pre" ∷ codes "script" ∷ codes "style" ∷ codes "textarea" ∷ []

-- the names of the tags of the sixth start condition
unfoldable pub block_tags : List (List ℕ)
block_tags =
    codes "address" ∷ codes "article" ∷ codes "aside" ∷ codes "base" ∷ codes "basefont" ∷
    codes "blockquote" ∷ codes "body" ∷ codes "caption" ∷ codes "center" ∷ codes "col" ∷ codes "colgroup" ∷
    codes "dd" ∷ codes "details" ∷ codes "dialog" ∷ codes "dir" ∷ codes "div" ∷ codes "dl" ∷ codes "dt" ∷
    codes "fieldset" ∷ codes "figcaption" ∷ codes "figure" ∷ codes "footer" ∷ codes "form" ∷
    codes "frame" ∷ codes "frameset" ∷ codes "h1" ∷ codes "h2" ∷ codes "h3" ∷ codes "h4" ∷ codes "h5" ∷
    codes "h6" ∷ codes "head" ∷ codes "header" ∷ codes "hr" ∷ codes "html" ∷ codes "iframe" ∷
    codes "legend" ∷ codes "li" ∷ codes "link" ∷ codes "main" ∷ codes "menu" ∷ codes "menuitem" ∷
    codes "nav" ∷ codes "noframes" ∷ codes "ol" ∷ codes "optgroup" ∷ codes "option" ∷ codes "p" ∷
    codes "param" ∷ codes "search" ∷ codes "section" ∷ codes "summary" ∷ codes "table" ∷ codes "tbody" ∷
    codes "td" ∷ codes "tfoot" ∷ codes "th" ∷ codes "thead" ∷ codes "title" ∷ codes "tr" ∷ codes "track" ∷
    codes "ul" ∷ []

-- two names are equal, ignoring the case of letters
unfoldable pub is_same_name : List ℕ → List ℕ → Bool
is_same_name name known = bytes_eq (map to_ascii_lowercase name) (map to_ascii_lowercase known)

-- a name is in a list, ignoring the case of letters
abbrev pub is_one_of : List ℕ → List (List ℕ) → Bool
is_one_of name names = list_any (is_same_name name) names

-- a byte of a tag's name: an ASCII letter, a digit or a hyphen
abbrev pub is_name_byte : ℕ → Bool
is_name_byte byte = is_ascii_alphanumeric byte || (byte == hyphen)

-- the tag's name that bytes begin with
abbrev pub name_at_start : List ℕ → List ℕ
name_at_start bytes = take (prefix_len is_name_byte bytes) bytes

-- a space, a tab, a `>` or nothing comes next
abbrev pub is_after_name : List ℕ → Bool
is_after_name [] = true
is_after_name (byte ∷ bytes) = is_space_or_tab byte || (byte == greater_than)

-- the bytes after a slash at their beginning, or all bytes where there is none
abbrev pub after_slash : List ℕ → List ℕ
after_slash [] = []
after_slash (byte ∷ bytes) = if byte == slash then bytes else byte ∷ bytes

-- what follows the name that bytes begin with
abbrev pub after_name : List ℕ → List ℕ
after_name bytes = drop (length (name_at_start bytes)) bytes

-- the first start condition, from what follows the `<`: an opening tag with such a name
abbrev pub begins_verbatim : List ℕ → Bool
begins_verbatim rest = is_one_of (name_at_start rest) verbatim_tags && is_after_name (after_name rest)

-- what may follow the name of a tag of the sixth start condition: also `/>`
abbrev pub is_after_block_name : List ℕ → Bool
is_after_block_name bytes = is_after_name bytes || begins_with (codes "/>") bytes

-- the sixth start condition, from what follows the `<`: an opening or closing tag with such a name
abbrev pub begins_block_tag : List ℕ → Bool
begins_block_tag rest =
    is_one_of (name_at_start (after_slash rest)) block_tags && is_after_block_name (after_name (after_slash rest))

-- the first and the sixth start condition, which depend on the name of the tag
abbrev pub named_kind : List ℕ → Option HtmlKind
named_kind rest =
    if begins_verbatim rest then Some kind.Verbatim else if begins_block_tag rest then Some kind.BlockTag else None

-- the second, the fifth and the fourth start condition, from what follows a `<!`: two hyphens, `[CDATA[`, or a letter
abbrev pub declared_kind : List ℕ → Option HtmlKind
declared_kind rest =
    if begins_with (codes "--") rest then Some kind.Comment
    else if begins_with (codes "[CDATA[") rest then Some kind.CharacterData
    else if begins_with_letter rest then Some kind.Declaration
    else None

-- all start conditions but the seventh, from what follows the `<`; the third is a `?`
abbrev pub known_kind : List ℕ → Option HtmlKind
known_kind [] = named_kind []
known_kind (byte ∷ bytes) =
    if byte == question_mark then Some kind.Instruction
    else if byte == exclamation_mark then declared_kind bytes
    else named_kind (byte ∷ bytes)

-- a tag does not continue in another line
abbrev pub in_one_line : List ℕ → Option ℕ
in_one_line rest = None

-- the seventh start condition: a tag whose name is not one of the first, and only white space after it
abbrev pub is_lone_tag : List ℕ → Bool
is_lone_tag line =
    option_map_or (λ tag. not (is_one_of (name_at_start (after_slash (drop 1 line))) verbatim_tags)
    && list_all is_space_or_tab (drop tag.0 line)) (tag_at in_one_line line 0) false

-- the kind of the HTML block that begins with a line's content; one of the seventh cannot interrupt a paragraph
abbrev pub html_kind_of : List ℕ → Bool → Option HtmlKind
html_kind_of line in_paragraph =
    option_or (known_kind (drop 1 line))
    (if not in_paragraph && is_lone_tag line then Some kind.LoneTag else None)
