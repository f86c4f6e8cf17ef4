-- Examples in CommonMark with their blocks: Thematic breaks, ATX headings and Setext headings. Written by
-- .ci/examples.
use Rattle.std.specs.Prelude.{List, [], ◌∷◌, codes, true, false, None}
use Rattle.markdown_base.specs.declared.item.ItemBody.TheVariants as body
use Rattle.markdown_base.specs.declared.tag.HeadingLevel.TheVariants as level
use Rattle.markdown_block_laws.specs.ExampleTrees.{Example, at, example}

unfoldable pub examples_of_headings : List Example
examples_of_headings =
    -- Thematic breaks
    -- 43
    example (codes "***\n---\n___\n") (at 0 0 4 body.Rule ∷ at 0 4 8 body.Rule ∷ at 0 8 12 body.Rule ∷ []) [] ∷
    -- 44
    example (codes "+++\n") (at 0 0 4 body.Paragraph ∷ at 1 0 3 (body.Text false) ∷ []) [] ∷
    -- 45
    example (codes "===\n") (at 0 0 4 body.Paragraph ∷ at 1 0 3 (body.Text false) ∷ []) [] ∷
    -- 46
    example (codes "--\n**\n__\n") (at 0 0 9 body.Paragraph ∷ at 1 0 2 (body.Text false) ∷ at 1 2 3 body.SoftBreak ∷
    at 1 3 5 (body.Text false) ∷ at 1 5 6 body.SoftBreak ∷ at 1 6 8 (body.Text false) ∷ []) [] ∷
    -- 47
    example (codes " ***\n  ***\n   ***\n") (at 0 1 5 body.Rule ∷ at 0 7 11 body.Rule ∷ at 0 14 18 body.Rule ∷ []) [] ∷
    -- 48
    example (codes "    ***\n") (at 0 4 8 body.IndentCodeBlock ∷ at 1 4 8 (body.Text false) ∷ []) [] ∷
    -- 49
    example (codes "Foo\n    ***\n") (at 0 0 12 body.Paragraph ∷ at 1 0 3 (body.Text false) ∷
    at 1 3 4 body.SoftBreak ∷ at 1 8 11 (body.Text false) ∷ []) [] ∷
    -- 50
    example (codes "_____________________________________\n") (at 0 0 38 body.Rule ∷ []) [] ∷
    -- 51
    example (codes " - - -\n") (at 0 1 7 body.Rule ∷ []) [] ∷
    -- 52
    example (codes " **  * ** * ** * **\n") (at 0 1 20 body.Rule ∷ []) [] ∷
    -- 53
    example (codes "-     -      -      -\n") (at 0 0 22 body.Rule ∷ []) [] ∷
    -- 54
    example (codes "- - - -    \n") (at 0 0 12 body.Rule ∷ []) [] ∷
    -- 55
    example (codes "_ _ _ _ a\n\na------\n\n---a---\n") (at 0 0 10 body.Paragraph ∷ at 1 0 9 (body.Text false) ∷
    at 0 11 19 body.Paragraph ∷ at 1 11 18 (body.Text false) ∷ at 0 20 28 body.Paragraph ∷
    at 1 20 27 (body.Text false) ∷ []) [] ∷
    -- 56
    example (codes " *-*\n") (at 0 1 5 body.Paragraph ∷ at 1 1 2 (body.MaybeEmphasis 1 true false) ∷
    at 1 2 3 (body.Text false) ∷ at 1 3 4 (body.MaybeEmphasis 1 false true) ∷ []) [] ∷
    -- 57
    example (codes "- foo\n***\n- bar\n") (at 0 0 6 (body.List true 45 0) ∷ at 1 0 6 (body.ListItem 2) ∷
    at 2 2 6 body.TightParagraph ∷ at 3 2 5 (body.Text false) ∷ at 0 6 10 body.Rule ∷
    at 0 10 16 (body.List true 45 0) ∷ at 1 10 16 (body.ListItem 2) ∷ at 2 12 16 body.TightParagraph ∷
    at 3 12 15 (body.Text false) ∷ []) [] ∷
    -- 58
    example (codes "Foo\n***\nbar\n") (at 0 0 4 body.Paragraph ∷ at 1 0 3 (body.Text false) ∷ at 0 4 8 body.Rule ∷
    at 0 8 12 body.Paragraph ∷ at 1 8 11 (body.Text false) ∷ []) [] ∷
    -- 59
    example (codes "Foo\n---\nbar\n") (at 0 0 8 (body.Heading level.H2 None) ∷ at 1 0 3 (body.Text false) ∷
    at 0 8 12 body.Paragraph ∷ at 1 8 11 (body.Text false) ∷ []) [] ∷
    -- 60
    example (codes "* Foo\n* * *\n* Bar\n") (at 0 0 6 (body.List true 42 0) ∷ at 1 0 6 (body.ListItem 2) ∷
    at 2 2 6 body.TightParagraph ∷ at 3 2 5 (body.Text false) ∷ at 0 6 12 body.Rule ∷
    at 0 12 18 (body.List true 42 0) ∷ at 1 12 18 (body.ListItem 2) ∷ at 2 14 18 body.TightParagraph ∷
    at 3 14 17 (body.Text false) ∷ []) [] ∷
    -- 61
    example (codes "- Foo\n- * * *\n") (at 0 0 14 (body.List true 45 0) ∷ at 1 0 6 (body.ListItem 2) ∷
    at 2 2 6 body.TightParagraph ∷ at 3 2 5 (body.Text false) ∷ at 1 6 14 (body.ListItem 2) ∷ at 2 8 14 body.Rule ∷
    []) [] ∷
    -- ATX headings
    -- 62
    example (codes "# foo\n## foo\n### foo\n#### foo\n##### foo\n###### foo\n")
    (at 0 0 6 (body.Heading level.H1 None) ∷ at 1 2 5 (body.Text false) ∷ at 0 6 13 (body.Heading level.H2 None) ∷
    at 1 9 12 (body.Text false) ∷ at 0 13 21 (body.Heading level.H3 None) ∷ at 1 17 20 (body.Text false) ∷
    at 0 21 30 (body.Heading level.H4 None) ∷ at 1 26 29 (body.Text false) ∷ at 0 30 40 (body.Heading level.H5 None) ∷
    at 1 36 39 (body.Text false) ∷ at 0 40 51 (body.Heading level.H6 None) ∷ at 1 47 50 (body.Text false) ∷ []) [] ∷
    -- 63
    example (codes "####### foo\n") (at 0 0 12 body.Paragraph ∷ at 1 0 11 (body.Text false) ∷ []) [] ∷
    -- 64
    example (codes "#5 bolt\n\n#hashtag\n") (at 0 0 8 body.Paragraph ∷ at 1 0 7 (body.Text false) ∷
    at 0 9 18 body.Paragraph ∷ at 1 9 17 (body.Text false) ∷ []) [] ∷
    -- 65
    example (codes "\\## foo\n") (at 0 0 8 body.Paragraph ∷ at 1 1 7 (body.Text true) ∷ []) [] ∷
    -- 66
    example (codes "# foo *bar* \\*baz\\*\n") (at 0 0 20 (body.Heading level.H1 None) ∷ at 1 2 6 (body.Text false) ∷
    at 1 6 7 (body.MaybeEmphasis 1 true false) ∷ at 1 7 10 (body.Text false) ∷
    at 1 10 11 (body.MaybeEmphasis 1 false true) ∷ at 1 11 12 (body.Text false) ∷ at 1 13 17 (body.Text true) ∷
    at 1 18 19 (body.Text true) ∷ []) [] ∷
    -- 67
    example (codes "#                  foo                     \n") (at 0 0 44 (body.Heading level.H1 None) ∷
    at 1 19 22 (body.Text false) ∷ []) [] ∷
    -- 68
    example (codes " ### foo\n  ## foo\n   # foo\n") (at 0 1 9 (body.Heading level.H3 None) ∷
    at 1 5 8 (body.Text false) ∷ at 0 11 18 (body.Heading level.H2 None) ∷ at 1 14 17 (body.Text false) ∷
    at 0 21 27 (body.Heading level.H1 None) ∷ at 1 23 26 (body.Text false) ∷ []) [] ∷
    -- 69
    example (codes "    # foo\n") (at 0 4 10 body.IndentCodeBlock ∷ at 1 4 10 (body.Text false) ∷ []) [] ∷
    -- 70
    example (codes "foo\n    # bar\n") (at 0 0 14 body.Paragraph ∷ at 1 0 3 (body.Text false) ∷
    at 1 3 4 body.SoftBreak ∷ at 1 8 13 (body.Text false) ∷ []) [] ∷
    -- 71
    example (codes "## foo ##\n  ###   bar    ###\n") (at 0 0 10 (body.Heading level.H2 None) ∷
    at 1 3 6 (body.Text false) ∷ at 0 12 29 (body.Heading level.H3 None) ∷ at 1 18 21 (body.Text false) ∷ []) [] ∷
    -- 72
    example (codes "# foo ##################################\n##### foo ##\n")
    (at 0 0 41 (body.Heading level.H1 None) ∷ at 1 2 5 (body.Text false) ∷ at 0 41 54 (body.Heading level.H5 None) ∷
    at 1 47 50 (body.Text false) ∷ []) [] ∷
    -- 73
    example (codes "### foo ###     \n") (at 0 0 17 (body.Heading level.H3 None) ∷ at 1 4 7 (body.Text false) ∷ []) [] ∷
    -- 74
    example (codes "### foo ### b\n") (at 0 0 14 (body.Heading level.H3 None) ∷ at 1 4 13 (body.Text false) ∷ []) [] ∷
    -- 75
    example (codes "# foo#\n") (at 0 0 7 (body.Heading level.H1 None) ∷ at 1 2 6 (body.Text false) ∷ []) [] ∷
    -- 76
    example (codes "### foo \\###\n## foo #\\##\n# foo \\#\n") (at 0 0 13 (body.Heading level.H3 None) ∷
    at 1 4 8 (body.Text false) ∷ at 1 9 12 (body.Text true) ∷ at 0 13 25 (body.Heading level.H2 None) ∷
    at 1 16 21 (body.Text false) ∷ at 1 22 24 (body.Text true) ∷ at 0 25 34 (body.Heading level.H1 None) ∷
    at 1 27 31 (body.Text false) ∷ at 1 32 33 (body.Text true) ∷ []) [] ∷
    -- 77
    example (codes "****\n## foo\n****\n") (at 0 0 5 body.Rule ∷ at 0 5 12 (body.Heading level.H2 None) ∷
    at 1 8 11 (body.Text false) ∷ at 0 12 17 body.Rule ∷ []) [] ∷
    -- 78
    example (codes "Foo bar\n# baz\nBar foo\n") (at 0 0 8 body.Paragraph ∷ at 1 0 7 (body.Text false) ∷
    at 0 8 14 (body.Heading level.H1 None) ∷ at 1 10 13 (body.Text false) ∷ at 0 14 22 body.Paragraph ∷
    at 1 14 21 (body.Text false) ∷ []) [] ∷
    -- 79
    example (codes "## \n#\n### ###\n") (at 0 0 4 (body.Heading level.H2 None) ∷
    at 0 4 6 (body.Heading level.H1 None) ∷ at 0 6 14 (body.Heading level.H3 None) ∷ []) [] ∷
    -- Setext headings
    -- 80
    example (codes "Foo *bar*\n=========\n\nFoo *bar*\n---------\n") (at 0 0 20 (body.Heading level.H1 None) ∷
    at 1 0 4 (body.Text false) ∷ at 1 4 5 (body.MaybeEmphasis 1 true false) ∷ at 1 5 8 (body.Text false) ∷
    at 1 8 9 (body.MaybeEmphasis 1 false true) ∷ at 0 21 41 (body.Heading level.H2 None) ∷
    at 1 21 25 (body.Text false) ∷ at 1 25 26 (body.MaybeEmphasis 1 true false) ∷ at 1 26 29 (body.Text false) ∷
    at 1 29 30 (body.MaybeEmphasis 1 false true) ∷ []) [] ∷
    -- 81
    example (codes "Foo *bar\nbaz*\n====\n") (at 0 0 19 (body.Heading level.H1 None) ∷ at 1 0 4 (body.Text false) ∷
    at 1 4 5 (body.MaybeEmphasis 1 true false) ∷ at 1 5 8 (body.Text false) ∷ at 1 8 9 body.SoftBreak ∷
    at 1 9 12 (body.Text false) ∷ at 1 12 13 (body.MaybeEmphasis 1 false true) ∷ []) [] ∷
    -- 82
    example (codes "  Foo *bar\nbaz*\t\n====\n") (at 0 2 22 (body.Heading level.H1 None) ∷
    at 1 2 6 (body.Text false) ∷ at 1 6 7 (body.MaybeEmphasis 1 true false) ∷ at 1 7 10 (body.Text false) ∷
    at 1 10 11 body.SoftBreak ∷ at 1 11 14 (body.Text false) ∷ at 1 14 15 (body.MaybeEmphasis 1 false true) ∷ []) [] ∷
    -- 83
    example (codes "Foo\n-------------------------\n\nFoo\n=\n") (at 0 0 30 (body.Heading level.H2 None) ∷
    at 1 0 3 (body.Text false) ∷ at 0 31 37 (body.Heading level.H1 None) ∷ at 1 31 34 (body.Text false) ∷ []) [] ∷
    -- 84
    example (codes "   Foo\n---\n\n  Foo\n-----\n\n  Foo\n  ===\n") (at 0 3 11 (body.Heading level.H2 None) ∷
    at 1 3 6 (body.Text false) ∷ at 0 14 24 (body.Heading level.H2 None) ∷ at 1 14 17 (body.Text false) ∷
    at 0 27 37 (body.Heading level.H1 None) ∷ at 1 27 30 (body.Text false) ∷ []) [] ∷
    -- 85
    example (codes "    Foo\n    ---\n\n    Foo\n---\n") (at 0 4 25 body.IndentCodeBlock ∷
    at 1 4 8 (body.Text false) ∷ at 1 12 16 (body.Text false) ∷ at 1 16 17 (body.Text false) ∷
    at 1 21 25 (body.Text false) ∷ at 0 25 29 body.Rule ∷ []) [] ∷
    -- 86
    example (codes "Foo\n   ----      \n") (at 0 0 18 (body.Heading level.H2 None) ∷ at 1 0 3 (body.Text false) ∷ [])
    [] ∷
    -- 87
    example (codes "Foo\n    ---\n") (at 0 0 12 body.Paragraph ∷ at 1 0 3 (body.Text false) ∷
    at 1 3 4 body.SoftBreak ∷ at 1 8 11 (body.Text false) ∷ []) [] ∷
    -- 88
    example (codes "Foo\n= =\n\nFoo\n--- -\n") (at 0 0 8 body.Paragraph ∷ at 1 0 3 (body.Text false) ∷
    at 1 3 4 body.SoftBreak ∷ at 1 4 7 (body.Text false) ∷ at 0 9 13 body.Paragraph ∷ at 1 9 12 (body.Text false) ∷
    at 0 13 19 body.Rule ∷ []) [] ∷
    -- 89
    example (codes "Foo  \n-----\n") (at 0 0 12 (body.Heading level.H2 None) ∷ at 1 0 3 (body.Text false) ∷ []) [] ∷
    -- 90
    example (codes "Foo\\\n----\n") (at 0 0 10 (body.Heading level.H2 None) ∷ at 1 0 4 (body.Text false) ∷ []) [] ∷
    -- 91
    example (codes "`Foo\n----\n`\n\n<a title=\"a lot\n---\nof dashes\"/>\n")
    (at 0 0 10 (body.Heading level.H2 None) ∷ at 1 0 1 (body.MaybeCode 1 false) ∷ at 1 1 4 (body.Text false) ∷
    at 0 10 12 body.Paragraph ∷ at 1 10 11 (body.MaybeCode 1 false) ∷ at 0 13 33 (body.Heading level.H2 None) ∷
    at 1 13 14 body.MaybeHtml ∷ at 1 14 28 (body.Text false) ∷ at 0 33 46 body.Paragraph ∷
    at 1 33 45 (body.Text false) ∷ []) [] ∷
    -- 92
    example (codes "> Foo\n---\n") (at 0 0 6 (body.BlockQuote None) ∷ at 1 2 6 body.Paragraph ∷
    at 2 2 5 (body.Text false) ∷ at 0 6 10 body.Rule ∷ []) [] ∷
    -- 93
    example (codes "> foo\nbar\n===\n") (at 0 0 14 (body.BlockQuote None) ∷ at 1 2 14 body.Paragraph ∷
    at 2 2 5 (body.Text false) ∷ at 2 5 6 body.SoftBreak ∷ at 2 6 9 (body.Text false) ∷ at 2 9 10 body.SoftBreak ∷
    at 2 10 13 (body.Text false) ∷ []) [] ∷
    -- 94
    example (codes "- Foo\n---\n") (at 0 0 6 (body.List true 45 0) ∷ at 1 0 6 (body.ListItem 2) ∷
    at 2 2 6 body.TightParagraph ∷ at 3 2 5 (body.Text false) ∷ at 0 6 10 body.Rule ∷ []) [] ∷
    -- 95
    example (codes "Foo\nBar\n---\n") (at 0 0 12 (body.Heading level.H2 None) ∷ at 1 0 3 (body.Text false) ∷
    at 1 3 4 body.SoftBreak ∷ at 1 4 7 (body.Text false) ∷ []) [] ∷
    -- 96
    example (codes "---\nFoo\n---\nBar\n---\nBaz\n") (at 0 0 4 body.Rule ∷ at 0 4 12 (body.Heading level.H2 None) ∷
    at 1 4 7 (body.Text false) ∷ at 0 12 20 (body.Heading level.H2 None) ∷ at 1 12 15 (body.Text false) ∷
    at 0 20 24 body.Paragraph ∷ at 1 20 23 (body.Text false) ∷ []) [] ∷
    -- 97
    example (codes "\n====\n") (at 0 1 6 body.Paragraph ∷ at 1 1 5 (body.Text false) ∷ []) [] ∷
    -- 98
    example (codes "---\n---\n") (at 0 0 4 body.Rule ∷ at 0 4 8 body.Rule ∷ []) [] ∷
    -- 99
    example (codes "- foo\n-----\n") (at 0 0 6 (body.List true 45 0) ∷ at 1 0 6 (body.ListItem 2) ∷
    at 2 2 6 body.TightParagraph ∷ at 3 2 5 (body.Text false) ∷ at 0 6 12 body.Rule ∷ []) [] ∷
    -- 100
    example (codes "    foo\n---\n") (at 0 4 8 body.IndentCodeBlock ∷ at 1 4 8 (body.Text false) ∷
    at 0 8 12 body.Rule ∷ []) [] ∷
    -- 101
    example (codes "> foo\n-----\n") (at 0 0 6 (body.BlockQuote None) ∷ at 1 2 6 body.Paragraph ∷
    at 2 2 5 (body.Text false) ∷ at 0 6 12 body.Rule ∷ []) [] ∷
    -- 102
    example (codes "\\> foo\n------\n") (at 0 0 14 (body.Heading level.H2 None) ∷ at 1 1 6 (body.Text true) ∷ []) [] ∷
    -- 103
    example (codes "Foo\n\nbar\n---\nbaz\n") (at 0 0 4 body.Paragraph ∷ at 1 0 3 (body.Text false) ∷
    at 0 5 13 (body.Heading level.H2 None) ∷ at 1 5 8 (body.Text false) ∷ at 0 13 17 body.Paragraph ∷
    at 1 13 16 (body.Text false) ∷ []) [] ∷
    -- 104
    example (codes "Foo\nbar\n\n---\n\nbaz\n") (at 0 0 8 body.Paragraph ∷ at 1 0 3 (body.Text false) ∷
    at 1 3 4 body.SoftBreak ∷ at 1 4 7 (body.Text false) ∷ at 0 9 13 body.Rule ∷ at 0 14 18 body.Paragraph ∷
    at 1 14 17 (body.Text false) ∷ []) [] ∷
    -- 105
    example (codes "Foo\nbar\n* * *\nbaz\n") (at 0 0 8 body.Paragraph ∷ at 1 0 3 (body.Text false) ∷
    at 1 3 4 body.SoftBreak ∷ at 1 4 7 (body.Text false) ∷ at 0 8 14 body.Rule ∷ at 0 14 18 body.Paragraph ∷
    at 1 14 17 (body.Text false) ∷ []) [] ∷
    -- 106
    example (codes "Foo\nbar\n\\---\nbaz\n") (at 0 0 17 body.Paragraph ∷ at 1 0 3 (body.Text false) ∷
    at 1 3 4 body.SoftBreak ∷ at 1 4 7 (body.Text false) ∷ at 1 7 8 body.SoftBreak ∷ at 1 9 12 (body.Text true) ∷
    at 1 12 13 body.SoftBreak ∷ at 1 13 16 (body.Text false) ∷ []) [] ∷
    []
