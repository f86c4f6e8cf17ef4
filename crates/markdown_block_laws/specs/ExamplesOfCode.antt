-- Examples in CommonMark with their blocks: Indented code and Fenced code. Written by .ci/examples.
use Rattle.std.specs.Prelude.{List, [], ◌∷◌, codes, true, false, None}
use Rattle.markdown_base.specs.declared.item.ItemBody.TheVariants as body
use Rattle.markdown_base.specs.declared.tag.HeadingLevel.TheVariants as level
use Rattle.markdown_block_laws.specs.ExampleTrees.{Example, at, example, naming_at}

unfoldable pub examples_of_code : List Example
examples_of_code =
    -- Indented code
    -- 107
    example (codes "    a simple\n      indented code block\n") (at 0 4 39 body.IndentCodeBlock ∷
    at 1 4 13 (body.Text false) ∷ at 1 17 39 (body.Text false) ∷ []) [] ∷
    -- 108
    example (codes "  - foo\n\n    bar\n") (at 0 2 17 (body.List false 45 0) ∷ at 1 2 17 (body.ListItem 4) ∷
    at 2 4 8 body.Paragraph ∷ at 3 4 7 (body.Text false) ∷ at 2 13 17 body.Paragraph ∷ at 3 13 16 (body.Text false) ∷
    []) [] ∷
    -- 109
    example (codes "1.  foo\n\n    - bar\n") (at 0 0 19 (body.List false 46 1) ∷ at 1 0 19 (body.ListItem 4) ∷
    at 2 4 8 body.Paragraph ∷ at 3 4 7 (body.Text false) ∷ at 2 13 19 (body.List true 45 0) ∷
    at 3 13 19 (body.ListItem 2) ∷ at 4 15 19 body.TightParagraph ∷ at 5 15 18 (body.Text false) ∷ []) [] ∷
    -- 110
    example (codes "    <a/>\n    *hi*\n\n    - one\n") (at 0 4 29 body.IndentCodeBlock ∷ at 1 4 9 (body.Text false) ∷
    at 1 13 18 (body.Text false) ∷ at 1 18 19 (body.Text false) ∷ at 1 23 29 (body.Text false) ∷ []) [] ∷
    -- 111
    example (codes "    chunk1\n\n    chunk2\n  \n \n \n    chunk3\n") (at 0 4 41 body.IndentCodeBlock ∷
    at 1 4 11 (body.Text false) ∷ at 1 11 12 (body.Text false) ∷ at 1 16 23 (body.Text false) ∷
    at 1 25 26 (body.Text false) ∷ at 1 27 28 (body.Text false) ∷ at 1 29 30 (body.Text false) ∷
    at 1 34 41 (body.Text false) ∷ []) [] ∷
    -- 112
    example (codes "    chunk1\n      \n      chunk2\n") (at 0 4 31 body.IndentCodeBlock ∷
    at 1 4 11 (body.Text false) ∷ at 1 15 18 (body.Text false) ∷ at 1 22 31 (body.Text false) ∷ []) [] ∷
    -- 113
    example (codes "Foo\n    bar\n\n") (at 0 0 12 body.Paragraph ∷ at 1 0 3 (body.Text false) ∷
    at 1 3 4 body.SoftBreak ∷ at 1 8 11 (body.Text false) ∷ []) [] ∷
    -- 114
    example (codes "    foo\nbar\n") (at 0 4 8 body.IndentCodeBlock ∷ at 1 4 8 (body.Text false) ∷
    at 0 8 12 body.Paragraph ∷ at 1 8 11 (body.Text false) ∷ []) [] ∷
    -- 115
    example (codes "# Heading\n    foo\nHeading\n------\n    foo\n----\n") (at 0 0 10 (body.Heading level.H1 None) ∷
    at 1 2 9 (body.Text false) ∷ at 0 14 18 body.IndentCodeBlock ∷ at 1 14 18 (body.Text false) ∷
    at 0 18 33 (body.Heading level.H2 None) ∷ at 1 18 25 (body.Text false) ∷ at 0 37 41 body.IndentCodeBlock ∷
    at 1 37 41 (body.Text false) ∷ at 0 41 46 body.Rule ∷ []) [] ∷
    -- 116
    example (codes "        foo\n    bar\n") (at 0 4 20 body.IndentCodeBlock ∷ at 1 4 12 (body.Text false) ∷
    at 1 16 20 (body.Text false) ∷ []) [] ∷
    -- 117
    example (codes "\n    \n    foo\n    \n\n") (at 0 10 14 body.IndentCodeBlock ∷ at 1 10 14 (body.Text false) ∷ [])
    [] ∷
    -- 118
    example (codes "    foo  \n") (at 0 4 10 body.IndentCodeBlock ∷ at 1 4 10 (body.Text false) ∷ []) [] ∷
    -- Fenced code
    -- 119
    example (codes "```\n<\n >\n```\n") (naming_at 0 0 13 body.FencedCodeBlock (codes "") ∷
    at 1 4 6 (body.Text false) ∷ at 1 6 9 (body.Text false) ∷ []) [] ∷
    -- 120
    example (codes "~~~\n<\n >\n~~~\n") (naming_at 0 0 13 body.FencedCodeBlock (codes "") ∷
    at 1 4 6 (body.Text false) ∷ at 1 6 9 (body.Text false) ∷ []) [] ∷
    -- 121
    example (codes "``\nfoo\n``\n") (at 0 0 10 body.Paragraph ∷ at 1 0 2 (body.MaybeCode 2 false) ∷
    at 1 2 3 body.SoftBreak ∷ at 1 3 6 (body.Text false) ∷ at 1 6 7 body.SoftBreak ∷
    at 1 7 9 (body.MaybeCode 2 false) ∷ []) [] ∷
    -- 122
    example (codes "```\naaa\n~~~\n```\n") (naming_at 0 0 16 body.FencedCodeBlock (codes "") ∷
    at 1 4 8 (body.Text false) ∷ at 1 8 12 (body.Text false) ∷ []) [] ∷
    -- 123
    example (codes "~~~\naaa\n```\n~~~\n") (naming_at 0 0 16 body.FencedCodeBlock (codes "") ∷
    at 1 4 8 (body.Text false) ∷ at 1 8 12 (body.Text false) ∷ []) [] ∷
    -- 124
    example (codes "````\naaa\n```\n``````\n") (naming_at 0 0 20 body.FencedCodeBlock (codes "") ∷
    at 1 5 9 (body.Text false) ∷ at 1 9 13 (body.Text false) ∷ []) [] ∷
    -- 125
    example (codes "~~~~\naaa\n~~~\n~~~~\n") (naming_at 0 0 18 body.FencedCodeBlock (codes "") ∷
    at 1 5 9 (body.Text false) ∷ at 1 9 13 (body.Text false) ∷ []) [] ∷
    -- 126
    example (codes "```\n") (naming_at 0 0 4 body.FencedCodeBlock (codes "") ∷ []) [] ∷
    -- 127
    example (codes "`````\n\n```\naaa\n") (naming_at 0 0 15 body.FencedCodeBlock (codes "") ∷
    at 1 6 7 (body.Text false) ∷ at 1 7 11 (body.Text false) ∷ at 1 11 15 (body.Text false) ∷ []) [] ∷
    -- 128
    example (codes "> ```\n> aaa\n\nbbb\n") (at 0 0 12 (body.BlockQuote None) ∷
    naming_at 1 2 12 body.FencedCodeBlock (codes "") ∷ at 2 8 12 (body.Text false) ∷ at 0 13 17 body.Paragraph ∷
    at 1 13 16 (body.Text false) ∷ []) [] ∷
    -- 129
    example (codes "```\n\n  \n```\n") (naming_at 0 0 12 body.FencedCodeBlock (codes "") ∷
    at 1 4 5 (body.Text false) ∷ at 1 5 8 (body.Text false) ∷ []) [] ∷
    -- 130
    example (codes "```\n```\n") (naming_at 0 0 8 body.FencedCodeBlock (codes "") ∷ []) [] ∷
    -- 131
    example (codes " ```\n aaa\naaa\n```\n") (naming_at 0 1 18 body.FencedCodeBlock (codes "") ∷
    at 1 6 10 (body.Text false) ∷ at 1 10 14 (body.Text false) ∷ []) [] ∷
    -- 132
    example (codes "  ```\naaa\n  aaa\naaa\n  ```\n") (naming_at 0 2 26 body.FencedCodeBlock (codes "") ∷
    at 1 6 10 (body.Text false) ∷ at 1 12 16 (body.Text false) ∷ at 1 16 20 (body.Text false) ∷ []) [] ∷
    -- 133
    example (codes "   ```\n   aaa\n    aaa\n  aaa\n   ```\n") (naming_at 0 3 35 body.FencedCodeBlock (codes "") ∷
    at 1 10 14 (body.Text false) ∷ at 1 17 22 (body.Text false) ∷ at 1 24 28 (body.Text false) ∷ []) [] ∷
    -- 134
    example (codes "    ```\n    aaa\n    ```\n") (at 0 4 24 body.IndentCodeBlock ∷ at 1 4 8 (body.Text false) ∷
    at 1 12 16 (body.Text false) ∷ at 1 20 24 (body.Text false) ∷ []) [] ∷
    -- 135
    example (codes "```\naaa\n  ```\n") (naming_at 0 0 14 body.FencedCodeBlock (codes "") ∷
    at 1 4 8 (body.Text false) ∷ []) [] ∷
    -- 136
    example (codes "   ```\naaa\n  ```\n") (naming_at 0 3 17 body.FencedCodeBlock (codes "") ∷
    at 1 7 11 (body.Text false) ∷ []) [] ∷
    -- 137
    example (codes "```\naaa\n    ```\n") (naming_at 0 0 16 body.FencedCodeBlock (codes "") ∷
    at 1 4 8 (body.Text false) ∷ at 1 8 16 (body.Text false) ∷ []) [] ∷
    -- 138
    example (codes "``` ```\naaa\n") (at 0 0 12 body.Paragraph ∷ at 1 0 3 (body.MaybeCode 3 false) ∷
    at 1 3 4 (body.Text false) ∷ at 1 4 7 (body.MaybeCode 3 false) ∷ at 1 7 8 body.SoftBreak ∷
    at 1 8 11 (body.Text false) ∷ []) [] ∷
    -- 139
    example (codes "~~~~~~\naaa\n~~~ ~~\n") (naming_at 0 0 18 body.FencedCodeBlock (codes "") ∷
    at 1 7 11 (body.Text false) ∷ at 1 11 18 (body.Text false) ∷ []) [] ∷
    -- 140
    example (codes "foo\n```\nbar\n```\nbaz\n") (at 0 0 4 body.Paragraph ∷ at 1 0 3 (body.Text false) ∷
    naming_at 0 4 16 body.FencedCodeBlock (codes "") ∷ at 1 8 12 (body.Text false) ∷ at 0 16 20 body.Paragraph ∷
    at 1 16 19 (body.Text false) ∷ []) [] ∷
    -- 141
    example (codes "foo\n---\n~~~\nbar\n~~~\n# baz\n") (at 0 0 8 (body.Heading level.H2 None) ∷
    at 1 0 3 (body.Text false) ∷ naming_at 0 8 20 body.FencedCodeBlock (codes "") ∷ at 1 12 16 (body.Text false) ∷
    at 0 20 26 (body.Heading level.H1 None) ∷ at 1 22 25 (body.Text false) ∷ []) [] ∷
    -- 142
    example (codes "```ruby\ndef foo(x)\n  return 3\nend\n```\n")
    (naming_at 0 0 38 body.FencedCodeBlock (codes "ruby") ∷ at 1 8 19 (body.Text false) ∷
    at 1 19 30 (body.Text false) ∷ at 1 30 34 (body.Text false) ∷ []) [] ∷
    -- 143
    example (codes "~~~~    ruby startline=3 $%@#$\ndef foo(x)\n  return 3\nend\n~~~~~~~\n")
    (naming_at 0 0 65 body.FencedCodeBlock (codes "ruby startline=3 $%@#$") ∷ at 1 31 42 (body.Text false) ∷
    at 1 42 53 (body.Text false) ∷ at 1 53 57 (body.Text false) ∷ []) [] ∷
    -- 144
    example (codes "````;\n````\n") (naming_at 0 0 11 body.FencedCodeBlock (codes ";") ∷ []) [] ∷
    -- 145
    example (codes "``` aa ```\nfoo\n") (at 0 0 15 body.Paragraph ∷ at 1 0 3 (body.MaybeCode 3 false) ∷
    at 1 3 7 (body.Text false) ∷ at 1 7 10 (body.MaybeCode 3 false) ∷ at 1 10 11 body.SoftBreak ∷
    at 1 11 14 (body.Text false) ∷ []) [] ∷
    -- 146
    example (codes "~~~ aa ``` ~~~\nfoo\n~~~\n") (naming_at 0 0 23 body.FencedCodeBlock (codes "aa ``` ~~~") ∷
    at 1 15 19 (body.Text false) ∷ []) [] ∷
    -- 147
    example (codes "```\n``` aaa\n```\n") (naming_at 0 0 16 body.FencedCodeBlock (codes "") ∷
    at 1 4 12 (body.Text false) ∷ []) [] ∷
    []
