-- Elements that stand where a browser leaves them. Of a tree of tags a browser moves an element that stands in one of
-- its own kind, as a link in a link, and one that stands in no list or table, as an item outside lists, or in a list or
-- table that does not hold such, as a paragraph between two rows. Here none stands so. Of text, of elements without an
-- end tag, and of what ends a `p`, a `dt` or a `dd`, nothing is said.
use Rattle.std.specs.Prelude.{◌≡◌, ℕ, Bool, true, false, not, List, [], ◌∷◌, ◌&&◌, codes, if◌then◌else◌}
use Rattle.std.specs.List.{list_all, list_any}
use Rattle.markdown_safe.specs.HtmlTree.{HtmlTree, tree_end, tree_text, element, void_element, IsSafeTree}
use Rattle.markdown_safe.specs.SafeHtml.{is_listed}

-- the elements of links
abbrev pub link_elements : List (List ℕ)
link_elements = codes "a" ∷ []

-- the elements of headings
abbrev pub heading_elements : List (List ℕ)
heading_elements = codes "h1" ∷ codes "h2" ∷ codes "h3" ∷ codes "h4" ∷ codes "h5" ∷ codes "h6" ∷ []

-- the kinds of elements that stand in none of their own kind, however deep
abbrev pub kinds_apart : List (List (List ℕ))
kinds_apart = link_elements ∷ heading_elements ∷ []

-- the parts of lists and tables, each with the elements that hold it
abbrev pub parts_and_holders : List (List (List ℕ) × List (List ℕ))
parts_and_holders = (codes "li" ∷ [], codes "ul" ∷ codes "ol" ∷ [])
    ∷ (codes "thead" ∷ codes "tbody" ∷ [], codes "table" ∷ [])
    ∷ (codes "tr" ∷ [], codes "thead" ∷ codes "tbody" ∷ [])
    ∷ (codes "th" ∷ codes "td" ∷ [], codes "tr" ∷ []) ∷ []

-- where these elements are open, the innermost first, the innermost is one of these
abbrev pub is_directly_in : (names : List (List ℕ)) → (around : List (List ℕ)) → Bool
is_directly_in names [] = false
is_directly_in names (innermost ∷ outer) = is_listed names innermost

-- an element of this name is in none of its own kind
abbrev pub is_apart : (name : List ℕ) → (around : List (List ℕ)) → Bool
is_apart name around = list_all (λ kind. not (is_listed kind name && list_any (is_listed kind) around)) kinds_apart

-- it is a part of a list or table exactly where it stands directly in one that holds such parts
abbrev pub is_held : (name : List ℕ) → (around : List (List ℕ)) → Bool
is_held name around = list_all (λ row. if is_listed row.0 name then is_directly_in row.1 around
    else not (is_directly_in row.1 around)) parts_and_holders

-- an element of this name may stand where these are open, the innermost first
abbrev pub may_stand : (name : List ℕ) → (around : List (List ℕ)) → Bool
may_stand name around = is_apart name around && is_held name around

-- each element of a tree may stand where it does
abbrev pub is_placed : (around : List (List ℕ)) → HtmlTree → Bool
is_placed around tree_end = true
is_placed around (tree_text c after) = is_placed around after
is_placed around (element name attributes inside after) =
    may_stand name around && (is_placed (name ∷ around) inside && is_placed around after)
is_placed around (void_element name attributes ends after) = is_placed around after

-- these bytes are a safe tree, whose elements stand where a browser leaves them, in an element of the page as `div`
pub record IsPlacedTree (html : List ℕ) : Type 0 where
  pub whole : IsSafeTree html
  pub placed : is_placed [] whole.tree ≡ true
