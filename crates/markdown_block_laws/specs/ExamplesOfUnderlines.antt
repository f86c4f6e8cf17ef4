-- Examples of lines that look like underlines, and underline nothing: before them there are definitions alone. They are
-- read as other lines that reach a paragraph. CommonMark has no such examples with hyphens.
use Rattle.std.specs.Prelude.{List, [], ◌∷◌, codes, true, false, None}
use Rattle.markdown_base.specs.declared.item.ItemBody.TheVariants as body
use Rattle.markdown_base.specs.declared.tag.HeadingLevel.TheVariants as level
use Rattle.markdown_block_laws.specs.ExampleTrees.{Example, at, defined, example}

unfoldable pub examples_of_underlines : List Example
examples_of_underlines =
    -- an empty item interrupts no paragraph
    example (codes "[a]:u\n-\n") (at 0 6 8 body.Paragraph ∷ at 1 6 7 (body.Text false) ∷ [])
    (defined 0 5 (codes "a") (codes "u") None ∷ []) ∷
    -- nor in an item
    example (codes "- [a]:u\n  -\n") (at 0 0 12 (body.List true 45 0) ∷ at 1 0 12 (body.ListItem 2) ∷
    at 2 10 12 body.TightParagraph ∷ at 3 10 11 (body.Text false) ∷ [])
    (defined 2 7 (codes "a") (codes "u") None ∷ []) ∷
    -- more text goes on with it
    example (codes "[a]:u\n=\nb\n") (at 0 6 10 body.Paragraph ∷ at 1 6 7 (body.Text false) ∷
    at 1 7 8 body.SoftBreak ∷ at 1 8 9 (body.Text false) ∷ []) (defined 0 5 (codes "a") (codes "u") None ∷ []) ∷
    -- and a line may underline it
    example (codes "[a]:u\n-\n-\n") (at 0 6 10 (body.Heading level.H2 None) ∷ at 1 6 7 (body.Text false) ∷ [])
    (defined 0 5 (codes "a") (codes "u") None ∷ []) ∷
    -- a thematic break interrupts a paragraph
    example (codes "[a]:u\n---\n") (at 0 6 10 body.Rule ∷ []) (defined 0 5 (codes "a") (codes "u") None ∷ []) ∷
    []
