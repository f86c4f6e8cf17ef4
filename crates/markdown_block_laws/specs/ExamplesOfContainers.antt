-- Examples in CommonMark with their blocks: Block quotes, List items and Lists. Written by .ci/examples.
use Rattle.std.specs.Prelude.{List, [], ◌∷◌, ◌++◌, codes, true, false, None}
use Rattle.markdown_base.specs.declared.item.ItemBody.TheVariants as body
use Rattle.markdown_base.specs.declared.tag.HeadingLevel.TheVariants as level
use Rattle.markdown_block_laws.specs.ExampleTrees.{Example, at, defined, example, naming_at}

unfoldable pub examples_of_containers : List Example
examples_of_containers =
    -- Block quotes
    -- 228
    example (codes "> # Foo\n> bar\n> baz\n") (at 0 0 20 (body.BlockQuote None) ∷
    at 1 2 8 (body.Heading level.H1 None) ∷ at 2 4 7 (body.Text false) ∷ at 1 10 20 body.Paragraph ∷
    at 2 10 13 (body.Text false) ∷ at 2 13 14 body.SoftBreak ∷ at 2 16 19 (body.Text false) ∷ []) [] ∷
    -- 229
    example (codes "># Foo\n>bar\n> baz\n") (at 0 0 18 (body.BlockQuote None) ∷
    at 1 1 7 (body.Heading level.H1 None) ∷ at 2 3 6 (body.Text false) ∷ at 1 8 18 body.Paragraph ∷
    at 2 8 11 (body.Text false) ∷ at 2 11 12 body.SoftBreak ∷ at 2 14 17 (body.Text false) ∷ []) [] ∷
    -- 230
    example (codes "   > # Foo\n   > bar\n > baz\n") (at 0 3 27 (body.BlockQuote None) ∷
    at 1 5 11 (body.Heading level.H1 None) ∷ at 2 7 10 (body.Text false) ∷ at 1 16 27 body.Paragraph ∷
    at 2 16 19 (body.Text false) ∷ at 2 19 20 body.SoftBreak ∷ at 2 23 26 (body.Text false) ∷ []) [] ∷
    -- 231
    example (codes "    > # Foo\n    > bar\n    > baz\n") (at 0 4 32 body.IndentCodeBlock ∷
    at 1 4 12 (body.Text false) ∷ at 1 16 22 (body.Text false) ∷ at 1 26 32 (body.Text false) ∷ []) [] ∷
    -- 232
    example (codes "> # Foo\n> bar\nbaz\n") (at 0 0 18 (body.BlockQuote None) ∷
    at 1 2 8 (body.Heading level.H1 None) ∷ at 2 4 7 (body.Text false) ∷ at 1 10 18 body.Paragraph ∷
    at 2 10 13 (body.Text false) ∷ at 2 13 14 body.SoftBreak ∷ at 2 14 17 (body.Text false) ∷ []) [] ∷
    -- 233
    example (codes "> bar\nbaz\n> foo\n") (at 0 0 16 (body.BlockQuote None) ∷ at 1 2 16 body.Paragraph ∷
    at 2 2 5 (body.Text false) ∷ at 2 5 6 body.SoftBreak ∷ at 2 6 9 (body.Text false) ∷ at 2 9 10 body.SoftBreak ∷
    at 2 12 15 (body.Text false) ∷ []) [] ∷
    -- 234
    example (codes "> foo\n---\n") (at 0 0 6 (body.BlockQuote None) ∷ at 1 2 6 body.Paragraph ∷
    at 2 2 5 (body.Text false) ∷ at 0 6 10 body.Rule ∷ []) [] ∷
    -- 235
    example (codes "> - foo\n- bar\n") (at 0 0 8 (body.BlockQuote None) ∷ at 1 2 8 (body.List true 45 0) ∷
    at 2 2 8 (body.ListItem 2) ∷ at 3 4 8 body.TightParagraph ∷ at 4 4 7 (body.Text false) ∷
    at 0 8 14 (body.List true 45 0) ∷ at 1 8 14 (body.ListItem 2) ∷ at 2 10 14 body.TightParagraph ∷
    at 3 10 13 (body.Text false) ∷ []) [] ∷
    -- 236
    example (codes ">     foo\n    bar\n") (at 0 0 10 (body.BlockQuote None) ∷ at 1 6 10 body.IndentCodeBlock ∷
    at 2 6 10 (body.Text false) ∷ at 0 14 18 body.IndentCodeBlock ∷ at 1 14 18 (body.Text false) ∷ []) [] ∷
    -- 237
    example (codes "> ```\nfoo\n```\n") (at 0 0 6 (body.BlockQuote None) ∷
    naming_at 1 2 6 body.FencedCodeBlock (codes "") ∷ at 0 6 10 body.Paragraph ∷ at 1 6 9 (body.Text false) ∷
    naming_at 0 10 14 body.FencedCodeBlock (codes "") ∷ []) [] ∷
    -- 238
    example (codes "> foo\n    - bar\n") (at 0 0 16 (body.BlockQuote None) ∷ at 1 2 16 body.Paragraph ∷
    at 2 2 5 (body.Text false) ∷ at 2 5 6 body.SoftBreak ∷ at 2 10 15 (body.Text false) ∷ []) [] ∷
    -- 239
    example (codes ">\n") (at 0 0 2 (body.BlockQuote None) ∷ []) [] ∷
    -- 240
    example (codes ">\n>  \n> \n") (at 0 0 9 (body.BlockQuote None) ∷ []) [] ∷
    -- 241
    example (codes ">\n> foo\n>  \n") (at 0 0 12 (body.BlockQuote None) ∷ at 1 4 8 body.Paragraph ∷
    at 2 4 7 (body.Text false) ∷ []) [] ∷
    -- 242
    example (codes "> foo\n\n> bar\n") (at 0 0 6 (body.BlockQuote None) ∷ at 1 2 6 body.Paragraph ∷
    at 2 2 5 (body.Text false) ∷ at 0 7 13 (body.BlockQuote None) ∷ at 1 9 13 body.Paragraph ∷
    at 2 9 12 (body.Text false) ∷ []) [] ∷
    -- 243
    example (codes "> foo\n> bar\n") (at 0 0 12 (body.BlockQuote None) ∷ at 1 2 12 body.Paragraph ∷
    at 2 2 5 (body.Text false) ∷ at 2 5 6 body.SoftBreak ∷ at 2 8 11 (body.Text false) ∷ []) [] ∷
    -- 244
    example (codes "> foo\n>\n> bar\n") (at 0 0 14 (body.BlockQuote None) ∷ at 1 2 6 body.Paragraph ∷
    at 2 2 5 (body.Text false) ∷ at 1 10 14 body.Paragraph ∷ at 2 10 13 (body.Text false) ∷ []) [] ∷
    -- 245
    example (codes "foo\n> bar\n") (at 0 0 4 body.Paragraph ∷ at 1 0 3 (body.Text false) ∷
    at 0 4 10 (body.BlockQuote None) ∷ at 1 6 10 body.Paragraph ∷ at 2 6 9 (body.Text false) ∷ []) [] ∷
    -- 246
    example (codes "> aaa\n***\n> bbb\n") (at 0 0 6 (body.BlockQuote None) ∷ at 1 2 6 body.Paragraph ∷
    at 2 2 5 (body.Text false) ∷ at 0 6 10 body.Rule ∷ at 0 10 16 (body.BlockQuote None) ∷ at 1 12 16 body.Paragraph ∷
    at 2 12 15 (body.Text false) ∷ []) [] ∷
    -- 247
    example (codes "> bar\nbaz\n") (at 0 0 10 (body.BlockQuote None) ∷ at 1 2 10 body.Paragraph ∷
    at 2 2 5 (body.Text false) ∷ at 2 5 6 body.SoftBreak ∷ at 2 6 9 (body.Text false) ∷ []) [] ∷
    -- 248
    example (codes "> bar\n\nbaz\n") (at 0 0 6 (body.BlockQuote None) ∷ at 1 2 6 body.Paragraph ∷
    at 2 2 5 (body.Text false) ∷ at 0 7 11 body.Paragraph ∷ at 1 7 10 (body.Text false) ∷ []) [] ∷
    -- 249
    example (codes "> bar\n>\nbaz\n") (at 0 0 8 (body.BlockQuote None) ∷ at 1 2 6 body.Paragraph ∷
    at 2 2 5 (body.Text false) ∷ at 0 8 12 body.Paragraph ∷ at 1 8 11 (body.Text false) ∷ []) [] ∷
    -- 250
    example (codes "> > > foo\nbar\n") (at 0 0 14 (body.BlockQuote None) ∷ at 1 2 14 (body.BlockQuote None) ∷
    at 2 4 14 (body.BlockQuote None) ∷ at 3 6 14 body.Paragraph ∷ at 4 6 9 (body.Text false) ∷
    at 4 9 10 body.SoftBreak ∷ at 4 10 13 (body.Text false) ∷ []) [] ∷
    -- 251
    example (codes ">>> foo\n> bar\n>>baz\n") (at 0 0 20 (body.BlockQuote None) ∷ at 1 1 20 (body.BlockQuote None) ∷
    at 2 2 20 (body.BlockQuote None) ∷ at 3 4 20 body.Paragraph ∷ at 4 4 7 (body.Text false) ∷
    at 4 7 8 body.SoftBreak ∷ at 4 10 13 (body.Text false) ∷ at 4 13 14 body.SoftBreak ∷
    at 4 16 19 (body.Text false) ∷ []) [] ∷
    -- 252
    example (codes ">     code\n\n>    not code\n") (at 0 0 11 (body.BlockQuote None) ∷
    at 1 6 11 body.IndentCodeBlock ∷ at 2 6 11 (body.Text false) ∷ at 0 12 26 (body.BlockQuote None) ∷
    at 1 17 26 body.Paragraph ∷ at 2 17 25 (body.Text false) ∷ []) [] ∷
    -- List items
    -- 253
    example (codes "A paragraph\nwith two lines.\n\n    indented code\n\n> A block quote.\n")
    (at 0 0 28 body.Paragraph ∷ at 1 0 11 (body.Text false) ∷ at 1 11 12 body.SoftBreak ∷
    at 1 12 27 (body.Text false) ∷ at 0 33 47 body.IndentCodeBlock ∷ at 1 33 47 (body.Text false) ∷
    at 0 48 65 (body.BlockQuote None) ∷ at 1 50 65 body.Paragraph ∷ at 2 50 64 (body.Text false) ∷ []) [] ∷
    -- 254
    example (codes "1.  A paragraph\n    with two lines.\n\n        indented code\n\n" ++
    codes "    > A block quote.\n") (at 0 0 81 (body.List false 46 1) ∷ at 1 0 81 (body.ListItem 4) ∷
    at 2 4 36 body.Paragraph ∷ at 3 4 15 (body.Text false) ∷ at 3 15 16 body.SoftBreak ∷
    at 3 20 35 (body.Text false) ∷ at 2 45 59 body.IndentCodeBlock ∷ at 3 45 59 (body.Text false) ∷
    at 2 64 81 (body.BlockQuote None) ∷ at 3 66 81 body.Paragraph ∷ at 4 66 80 (body.Text false) ∷ []) [] ∷
    -- 255
    example (codes "- one\n\n two\n") (at 0 0 6 (body.List true 45 0) ∷ at 1 0 6 (body.ListItem 2) ∷
    at 2 2 6 body.TightParagraph ∷ at 3 2 5 (body.Text false) ∷ at 0 8 12 body.Paragraph ∷
    at 1 8 11 (body.Text false) ∷ []) [] ∷
    -- 256
    example (codes "- one\n\n  two\n") (at 0 0 13 (body.List false 45 0) ∷ at 1 0 13 (body.ListItem 2) ∷
    at 2 2 6 body.Paragraph ∷ at 3 2 5 (body.Text false) ∷ at 2 9 13 body.Paragraph ∷ at 3 9 12 (body.Text false) ∷
    []) [] ∷
    -- 257
    example (codes " -    one\n\n     two\n") (at 0 1 10 (body.List true 45 0) ∷ at 1 1 10 (body.ListItem 6) ∷
    at 2 6 10 body.TightParagraph ∷ at 3 6 9 (body.Text false) ∷ at 0 15 20 body.IndentCodeBlock ∷
    at 1 15 20 (body.Text false) ∷ []) [] ∷
    -- 258
    example (codes " -    one\n\n      two\n") (at 0 1 21 (body.List false 45 0) ∷ at 1 1 21 (body.ListItem 6) ∷
    at 2 6 10 body.Paragraph ∷ at 3 6 9 (body.Text false) ∷ at 2 17 21 body.Paragraph ∷ at 3 17 20 (body.Text false) ∷
    []) [] ∷
    -- 259
    example (codes "   > > 1.  one\n>>\n>>     two\n") (at 0 3 29 (body.BlockQuote None) ∷
    at 1 5 29 (body.BlockQuote None) ∷ at 2 7 29 (body.List false 46 1) ∷ at 3 7 29 (body.ListItem 4) ∷
    at 4 11 15 body.Paragraph ∷ at 5 11 14 (body.Text false) ∷ at 4 25 29 body.Paragraph ∷
    at 5 25 28 (body.Text false) ∷ []) [] ∷
    -- 260
    example (codes ">>- one\n>>\n  >  > two\n") (at 0 0 22 (body.BlockQuote None) ∷ at 1 1 22 (body.BlockQuote None) ∷
    at 2 2 8 (body.List true 45 0) ∷ at 3 2 8 (body.ListItem 2) ∷ at 4 4 8 body.TightParagraph ∷
    at 5 4 7 (body.Text false) ∷ at 2 18 22 body.Paragraph ∷ at 3 18 21 (body.Text false) ∷ []) [] ∷
    -- 261
    example (codes "-one\n\n2.two\n") (at 0 0 5 body.Paragraph ∷ at 1 0 4 (body.Text false) ∷
    at 0 6 12 body.Paragraph ∷ at 1 6 11 (body.Text false) ∷ []) [] ∷
    -- 262
    example (codes "- foo\n\n\n  bar\n") (at 0 0 14 (body.List false 45 0) ∷ at 1 0 14 (body.ListItem 2) ∷
    at 2 2 6 body.Paragraph ∷ at 3 2 5 (body.Text false) ∷ at 2 10 14 body.Paragraph ∷ at 3 10 13 (body.Text false) ∷
    []) [] ∷
    -- 263
    example (codes "1.  foo\n\n    ```\n    bar\n    ```\n\n    baz\n\n    > bam\n")
    (at 0 0 53 (body.List false 46 1) ∷ at 1 0 53 (body.ListItem 4) ∷ at 2 4 8 body.Paragraph ∷
    at 3 4 7 (body.Text false) ∷ naming_at 2 13 33 body.FencedCodeBlock (codes "") ∷ at 3 21 25 (body.Text false) ∷
    at 2 38 42 body.Paragraph ∷ at 3 38 41 (body.Text false) ∷ at 2 47 53 (body.BlockQuote None) ∷
    at 3 49 53 body.Paragraph ∷ at 4 49 52 (body.Text false) ∷ []) [] ∷
    -- 264
    example (codes "- Foo\n\n      bar\n\n\n      baz\n") (at 0 0 29 (body.List false 45 0) ∷
    at 1 0 29 (body.ListItem 2) ∷ at 2 2 6 body.Paragraph ∷ at 3 2 5 (body.Text false) ∷
    at 2 13 29 body.IndentCodeBlock ∷ at 3 13 17 (body.Text false) ∷ at 3 17 18 (body.Text false) ∷
    at 3 18 19 (body.Text false) ∷ at 3 25 29 (body.Text false) ∷ []) [] ∷
    -- 265
    example (codes "123456789. ok\n") (at 0 0 14 (body.List true 46 123456789) ∷ at 1 0 14 (body.ListItem 11) ∷
    at 2 11 14 body.TightParagraph ∷ at 3 11 13 (body.Text false) ∷ []) [] ∷
    -- 266
    example (codes "1234567890. not ok\n") (at 0 0 19 body.Paragraph ∷ at 1 0 18 (body.Text false) ∷ []) [] ∷
    -- 267
    example (codes "0. ok\n") (at 0 0 6 (body.List true 46 0) ∷ at 1 0 6 (body.ListItem 3) ∷
    at 2 3 6 body.TightParagraph ∷ at 3 3 5 (body.Text false) ∷ []) [] ∷
    -- 268
    example (codes "003. ok\n") (at 0 0 8 (body.List true 46 3) ∷ at 1 0 8 (body.ListItem 5) ∷
    at 2 5 8 body.TightParagraph ∷ at 3 5 7 (body.Text false) ∷ []) [] ∷
    -- 269
    example (codes "-1. not ok\n") (at 0 0 11 body.Paragraph ∷ at 1 0 10 (body.Text false) ∷ []) [] ∷
    -- 270
    example (codes "- foo\n\n      bar\n") (at 0 0 17 (body.List false 45 0) ∷ at 1 0 17 (body.ListItem 2) ∷
    at 2 2 6 body.Paragraph ∷ at 3 2 5 (body.Text false) ∷ at 2 13 17 body.IndentCodeBlock ∷
    at 3 13 17 (body.Text false) ∷ []) [] ∷
    -- 271
    example (codes "  10.  foo\n\n           bar\n") (at 0 2 27 (body.List false 46 10) ∷
    at 1 2 27 (body.ListItem 7) ∷ at 2 7 11 body.Paragraph ∷ at 3 7 10 (body.Text false) ∷
    at 2 23 27 body.IndentCodeBlock ∷ at 3 23 27 (body.Text false) ∷ []) [] ∷
    -- 272
    example (codes "    indented code\n\nparagraph\n\n    more code\n") (at 0 4 18 body.IndentCodeBlock ∷
    at 1 4 18 (body.Text false) ∷ at 0 19 29 body.Paragraph ∷ at 1 19 28 (body.Text false) ∷
    at 0 34 44 body.IndentCodeBlock ∷ at 1 34 44 (body.Text false) ∷ []) [] ∷
    -- 273
    example (codes "1.     indented code\n\n   paragraph\n\n       more code\n") (at 0 0 53 (body.List false 46 1) ∷
    at 1 0 53 (body.ListItem 3) ∷ at 2 7 21 body.IndentCodeBlock ∷ at 3 7 21 (body.Text false) ∷
    at 2 25 35 body.Paragraph ∷ at 3 25 34 (body.Text false) ∷ at 2 43 53 body.IndentCodeBlock ∷
    at 3 43 53 (body.Text false) ∷ []) [] ∷
    -- 274
    example (codes "1.      indented code\n\n   paragraph\n\n       more code\n") (at 0 0 54 (body.List false 46 1) ∷
    at 1 0 54 (body.ListItem 3) ∷ at 2 7 22 body.IndentCodeBlock ∷ at 3 7 22 (body.Text false) ∷
    at 2 26 36 body.Paragraph ∷ at 3 26 35 (body.Text false) ∷ at 2 44 54 body.IndentCodeBlock ∷
    at 3 44 54 (body.Text false) ∷ []) [] ∷
    -- 275
    example (codes "   foo\n\nbar\n") (at 0 3 7 body.Paragraph ∷ at 1 3 6 (body.Text false) ∷
    at 0 8 12 body.Paragraph ∷ at 1 8 11 (body.Text false) ∷ []) [] ∷
    -- 276
    example (codes "-    foo\n\n  bar\n") (at 0 0 9 (body.List true 45 0) ∷ at 1 0 9 (body.ListItem 5) ∷
    at 2 5 9 body.TightParagraph ∷ at 3 5 8 (body.Text false) ∷ at 0 12 16 body.Paragraph ∷
    at 1 12 15 (body.Text false) ∷ []) [] ∷
    -- 277
    example (codes "-  foo\n\n   bar\n") (at 0 0 15 (body.List false 45 0) ∷ at 1 0 15 (body.ListItem 3) ∷
    at 2 3 7 body.Paragraph ∷ at 3 3 6 (body.Text false) ∷ at 2 11 15 body.Paragraph ∷ at 3 11 14 (body.Text false) ∷
    []) [] ∷
    -- 278
    example (codes "-\n  foo\n-\n  ```\n  bar\n  ```\n-\n      baz\n") (at 0 0 40 (body.List true 45 0) ∷
    at 1 0 8 (body.ListItem 2) ∷ at 2 4 8 body.TightParagraph ∷ at 3 4 7 (body.Text false) ∷
    at 1 8 28 (body.ListItem 2) ∷ naming_at 2 12 28 body.FencedCodeBlock (codes "") ∷ at 3 18 22 (body.Text false) ∷
    at 1 28 40 (body.ListItem 2) ∷ at 2 36 40 body.IndentCodeBlock ∷ at 3 36 40 (body.Text false) ∷ []) [] ∷
    -- 279
    example (codes "-   \n  foo\n") (at 0 0 11 (body.List true 45 0) ∷ at 1 0 11 (body.ListItem 2) ∷
    at 2 7 11 body.TightParagraph ∷ at 3 7 10 (body.Text false) ∷ []) [] ∷
    -- 280
    example (codes "-\n\n  foo\n") (at 0 0 2 (body.List true 45 0) ∷ at 1 0 2 (body.ListItem 2) ∷
    at 0 5 9 body.Paragraph ∷ at 1 5 8 (body.Text false) ∷ []) [] ∷
    -- 281
    example (codes "- foo\n-\n- bar\n") (at 0 0 14 (body.List true 45 0) ∷ at 1 0 6 (body.ListItem 2) ∷
    at 2 2 6 body.TightParagraph ∷ at 3 2 5 (body.Text false) ∷ at 1 6 8 (body.ListItem 2) ∷
    at 1 8 14 (body.ListItem 2) ∷ at 2 10 14 body.TightParagraph ∷ at 3 10 13 (body.Text false) ∷ []) [] ∷
    -- 282
    example (codes "- foo\n-   \n- bar\n") (at 0 0 17 (body.List true 45 0) ∷ at 1 0 6 (body.ListItem 2) ∷
    at 2 2 6 body.TightParagraph ∷ at 3 2 5 (body.Text false) ∷ at 1 6 11 (body.ListItem 2) ∷
    at 1 11 17 (body.ListItem 2) ∷ at 2 13 17 body.TightParagraph ∷ at 3 13 16 (body.Text false) ∷ []) [] ∷
    -- 283
    example (codes "1. foo\n2.\n3. bar\n") (at 0 0 17 (body.List true 46 1) ∷ at 1 0 7 (body.ListItem 3) ∷
    at 2 3 7 body.TightParagraph ∷ at 3 3 6 (body.Text false) ∷ at 1 7 10 (body.ListItem 3) ∷
    at 1 10 17 (body.ListItem 3) ∷ at 2 13 17 body.TightParagraph ∷ at 3 13 16 (body.Text false) ∷ []) [] ∷
    -- 284
    example (codes "*\n") (at 0 0 2 (body.List true 42 0) ∷ at 1 0 2 (body.ListItem 2) ∷ []) [] ∷
    -- 285
    example (codes "foo\n*\n\nfoo\n1.\n") (at 0 0 6 body.Paragraph ∷ at 1 0 3 (body.Text false) ∷
    at 1 3 4 body.SoftBreak ∷ at 1 4 5 (body.Text false) ∷ at 0 7 14 body.Paragraph ∷ at 1 7 10 (body.Text false) ∷
    at 1 10 11 body.SoftBreak ∷ at 1 11 13 (body.Text false) ∷ []) [] ∷
    -- 286
    example (codes " 1.  A paragraph\n     with two lines.\n\n         indented code\n\n" ++
    codes "     > A block quote.\n") (at 0 1 85 (body.List false 46 1) ∷ at 1 1 85 (body.ListItem 5) ∷
    at 2 5 38 body.Paragraph ∷ at 3 5 16 (body.Text false) ∷ at 3 16 17 body.SoftBreak ∷
    at 3 22 37 (body.Text false) ∷ at 2 48 62 body.IndentCodeBlock ∷ at 3 48 62 (body.Text false) ∷
    at 2 68 85 (body.BlockQuote None) ∷ at 3 70 85 body.Paragraph ∷ at 4 70 84 (body.Text false) ∷ []) [] ∷
    -- 287
    example (codes "  1.  A paragraph\n      with two lines.\n\n          indented code\n\n" ++
    codes "      > A block quote.\n") (at 0 2 89 (body.List false 46 1) ∷ at 1 2 89 (body.ListItem 6) ∷
    at 2 6 40 body.Paragraph ∷ at 3 6 17 (body.Text false) ∷ at 3 17 18 body.SoftBreak ∷
    at 3 24 39 (body.Text false) ∷ at 2 51 65 body.IndentCodeBlock ∷ at 3 51 65 (body.Text false) ∷
    at 2 72 89 (body.BlockQuote None) ∷ at 3 74 89 body.Paragraph ∷ at 4 74 88 (body.Text false) ∷ []) [] ∷
    -- 288
    example (codes "   1.  A paragraph\n       with two lines.\n\n           indented code\n\n" ++
    codes "       > A block quote.\n") (at 0 3 93 (body.List false 46 1) ∷ at 1 3 93 (body.ListItem 7) ∷
    at 2 7 42 body.Paragraph ∷ at 3 7 18 (body.Text false) ∷ at 3 18 19 body.SoftBreak ∷
    at 3 26 41 (body.Text false) ∷ at 2 54 68 body.IndentCodeBlock ∷ at 3 54 68 (body.Text false) ∷
    at 2 76 93 (body.BlockQuote None) ∷ at 3 78 93 body.Paragraph ∷ at 4 78 92 (body.Text false) ∷ []) [] ∷
    -- 289
    example (codes "    1.  A paragraph\n        with two lines.\n\n            indented code\n\n" ++
    codes "        > A block quote.\n") (at 0 4 97 body.IndentCodeBlock ∷ at 1 4 20 (body.Text false) ∷
    at 1 24 44 (body.Text false) ∷ at 1 44 45 (body.Text false) ∷ at 1 49 71 (body.Text false) ∷
    at 1 71 72 (body.Text false) ∷ at 1 76 97 (body.Text false) ∷ []) [] ∷
    -- 290
    example (codes "  1.  A paragraph\nwith two lines.\n\n          indented code\n\n" ++
    codes "      > A block quote.\n") (at 0 2 83 (body.List false 46 1) ∷ at 1 2 83 (body.ListItem 6) ∷
    at 2 6 34 body.Paragraph ∷ at 3 6 17 (body.Text false) ∷ at 3 17 18 body.SoftBreak ∷
    at 3 18 33 (body.Text false) ∷ at 2 45 59 body.IndentCodeBlock ∷ at 3 45 59 (body.Text false) ∷
    at 2 66 83 (body.BlockQuote None) ∷ at 3 68 83 body.Paragraph ∷ at 4 68 82 (body.Text false) ∷ []) [] ∷
    -- 291
    example (codes "  1.  A paragraph\n    with two lines.\n") (at 0 2 38 (body.List true 46 1) ∷
    at 1 2 38 (body.ListItem 6) ∷ at 2 6 38 body.TightParagraph ∷ at 3 6 17 (body.Text false) ∷
    at 3 17 18 body.SoftBreak ∷ at 3 22 37 (body.Text false) ∷ []) [] ∷
    -- 292
    example (codes "> 1. > Blockquote\ncontinued here.\n") (at 0 0 34 (body.BlockQuote None) ∷
    at 1 2 34 (body.List true 46 1) ∷ at 2 2 34 (body.ListItem 3) ∷ at 3 5 34 (body.BlockQuote None) ∷
    at 4 7 34 body.Paragraph ∷ at 5 7 17 (body.Text false) ∷ at 5 17 18 body.SoftBreak ∷
    at 5 18 33 (body.Text false) ∷ []) [] ∷
    -- 293
    example (codes "> 1. > Blockquote\n> continued here.\n") (at 0 0 36 (body.BlockQuote None) ∷
    at 1 2 36 (body.List true 46 1) ∷ at 2 2 36 (body.ListItem 3) ∷ at 3 5 36 (body.BlockQuote None) ∷
    at 4 7 36 body.Paragraph ∷ at 5 7 17 (body.Text false) ∷ at 5 17 18 body.SoftBreak ∷
    at 5 20 35 (body.Text false) ∷ []) [] ∷
    -- 294
    example (codes "- foo\n  - bar\n    - baz\n      - boo\n") (at 0 0 36 (body.List true 45 0) ∷
    at 1 0 36 (body.ListItem 2) ∷ at 2 2 6 body.TightParagraph ∷ at 3 2 5 (body.Text false) ∷
    at 2 8 36 (body.List true 45 0) ∷ at 3 8 36 (body.ListItem 2) ∷ at 4 10 14 body.TightParagraph ∷
    at 5 10 13 (body.Text false) ∷ at 4 18 36 (body.List true 45 0) ∷ at 5 18 36 (body.ListItem 2) ∷
    at 6 20 24 body.TightParagraph ∷ at 7 20 23 (body.Text false) ∷ at 6 30 36 (body.List true 45 0) ∷
    at 7 30 36 (body.ListItem 2) ∷ at 8 32 36 body.TightParagraph ∷ at 9 32 35 (body.Text false) ∷ []) [] ∷
    -- 295
    example (codes "- foo\n - bar\n  - baz\n   - boo\n") (at 0 0 30 (body.List true 45 0) ∷
    at 1 0 6 (body.ListItem 2) ∷ at 2 2 6 body.TightParagraph ∷ at 3 2 5 (body.Text false) ∷
    at 1 7 13 (body.ListItem 3) ∷ at 2 9 13 body.TightParagraph ∷ at 3 9 12 (body.Text false) ∷
    at 1 15 21 (body.ListItem 4) ∷ at 2 17 21 body.TightParagraph ∷ at 3 17 20 (body.Text false) ∷
    at 1 24 30 (body.ListItem 5) ∷ at 2 26 30 body.TightParagraph ∷ at 3 26 29 (body.Text false) ∷ []) [] ∷
    -- 296
    example (codes "10) foo\n    - bar\n") (at 0 0 18 (body.List true 41 10) ∷ at 1 0 18 (body.ListItem 4) ∷
    at 2 4 8 body.TightParagraph ∷ at 3 4 7 (body.Text false) ∷ at 2 12 18 (body.List true 45 0) ∷
    at 3 12 18 (body.ListItem 2) ∷ at 4 14 18 body.TightParagraph ∷ at 5 14 17 (body.Text false) ∷ []) [] ∷
    -- 297
    example (codes "10) foo\n   - bar\n") (at 0 0 8 (body.List true 41 10) ∷ at 1 0 8 (body.ListItem 4) ∷
    at 2 4 8 body.TightParagraph ∷ at 3 4 7 (body.Text false) ∷ at 0 11 17 (body.List true 45 0) ∷
    at 1 11 17 (body.ListItem 5) ∷ at 2 13 17 body.TightParagraph ∷ at 3 13 16 (body.Text false) ∷ []) [] ∷
    -- 298
    example (codes "- - foo\n") (at 0 0 8 (body.List true 45 0) ∷ at 1 0 8 (body.ListItem 2) ∷
    at 2 2 8 (body.List true 45 0) ∷ at 3 2 8 (body.ListItem 2) ∷ at 4 4 8 body.TightParagraph ∷
    at 5 4 7 (body.Text false) ∷ []) [] ∷
    -- 299
    example (codes "1. - 2. foo\n") (at 0 0 12 (body.List true 46 1) ∷ at 1 0 12 (body.ListItem 3) ∷
    at 2 3 12 (body.List true 45 0) ∷ at 3 3 12 (body.ListItem 2) ∷ at 4 5 12 (body.List true 46 2) ∷
    at 5 5 12 (body.ListItem 3) ∷ at 6 8 12 body.TightParagraph ∷ at 7 8 11 (body.Text false) ∷ []) [] ∷
    -- 300
    example (codes "- # Foo\n- Bar\n  ---\n  baz\n") (at 0 0 26 (body.List true 45 0) ∷ at 1 0 8 (body.ListItem 2) ∷
    at 2 2 8 (body.Heading level.H1 None) ∷ at 3 4 7 (body.Text false) ∷ at 1 8 26 (body.ListItem 2) ∷
    at 2 10 20 (body.Heading level.H2 None) ∷ at 3 10 13 (body.Text false) ∷ at 2 22 26 body.TightParagraph ∷
    at 3 22 25 (body.Text false) ∷ []) [] ∷
    -- Lists
    -- 301
    example (codes "- foo\n- bar\n+ baz\n") (at 0 0 12 (body.List true 45 0) ∷ at 1 0 6 (body.ListItem 2) ∷
    at 2 2 6 body.TightParagraph ∷ at 3 2 5 (body.Text false) ∷ at 1 6 12 (body.ListItem 2) ∷
    at 2 8 12 body.TightParagraph ∷ at 3 8 11 (body.Text false) ∷ at 0 12 18 (body.List true 43 0) ∷
    at 1 12 18 (body.ListItem 2) ∷ at 2 14 18 body.TightParagraph ∷ at 3 14 17 (body.Text false) ∷ []) [] ∷
    -- 302
    example (codes "1. foo\n2. bar\n3) baz\n") (at 0 0 14 (body.List true 46 1) ∷ at 1 0 7 (body.ListItem 3) ∷
    at 2 3 7 body.TightParagraph ∷ at 3 3 6 (body.Text false) ∷ at 1 7 14 (body.ListItem 3) ∷
    at 2 10 14 body.TightParagraph ∷ at 3 10 13 (body.Text false) ∷ at 0 14 21 (body.List true 41 3) ∷
    at 1 14 21 (body.ListItem 3) ∷ at 2 17 21 body.TightParagraph ∷ at 3 17 20 (body.Text false) ∷ []) [] ∷
    -- 303
    example (codes "Foo\n- bar\n- baz\n") (at 0 0 4 body.Paragraph ∷ at 1 0 3 (body.Text false) ∷
    at 0 4 16 (body.List true 45 0) ∷ at 1 4 10 (body.ListItem 2) ∷ at 2 6 10 body.TightParagraph ∷
    at 3 6 9 (body.Text false) ∷ at 1 10 16 (body.ListItem 2) ∷ at 2 12 16 body.TightParagraph ∷
    at 3 12 15 (body.Text false) ∷ []) [] ∷
    -- 304
    example (codes "The number of windows in my house is\n14.  The number of doors is 6.\n")
    (at 0 0 68 body.Paragraph ∷ at 1 0 36 (body.Text false) ∷ at 1 36 37 body.SoftBreak ∷
    at 1 37 67 (body.Text false) ∷ []) [] ∷
    -- 305
    example (codes "The number of windows in my house is\n1.  The number of doors is 6.\n")
    (at 0 0 37 body.Paragraph ∷ at 1 0 36 (body.Text false) ∷ at 0 37 67 (body.List true 46 1) ∷
    at 1 37 67 (body.ListItem 4) ∷ at 2 41 67 body.TightParagraph ∷ at 3 41 66 (body.Text false) ∷ []) [] ∷
    -- 306
    example (codes "- foo\n\n- bar\n\n\n- baz\n") (at 0 0 21 (body.List false 45 0) ∷ at 1 0 6 (body.ListItem 2) ∷
    at 2 2 6 body.Paragraph ∷ at 3 2 5 (body.Text false) ∷ at 1 7 13 (body.ListItem 2) ∷ at 2 9 13 body.Paragraph ∷
    at 3 9 12 (body.Text false) ∷ at 1 15 21 (body.ListItem 2) ∷ at 2 17 21 body.Paragraph ∷
    at 3 17 20 (body.Text false) ∷ []) [] ∷
    -- 307
    example (codes "- foo\n  - bar\n    - baz\n\n\n      bim\n") (at 0 0 36 (body.List true 45 0) ∷
    at 1 0 36 (body.ListItem 2) ∷ at 2 2 6 body.TightParagraph ∷ at 3 2 5 (body.Text false) ∷
    at 2 8 36 (body.List true 45 0) ∷ at 3 8 36 (body.ListItem 2) ∷ at 4 10 14 body.TightParagraph ∷
    at 5 10 13 (body.Text false) ∷ at 4 18 36 (body.List false 45 0) ∷ at 5 18 36 (body.ListItem 2) ∷
    at 6 20 24 body.Paragraph ∷ at 7 20 23 (body.Text false) ∷ at 6 32 36 body.Paragraph ∷
    at 7 32 35 (body.Text false) ∷ []) [] ∷
    -- 308
    example (codes "- foo\n- bar\n\n<!-- -->\n\n- baz\n- bim\n") (at 0 0 12 (body.List true 45 0) ∷
    at 1 0 6 (body.ListItem 2) ∷ at 2 2 6 body.TightParagraph ∷ at 3 2 5 (body.Text false) ∷
    at 1 6 12 (body.ListItem 2) ∷ at 2 8 12 body.TightParagraph ∷ at 3 8 11 (body.Text false) ∷
    at 0 13 22 body.HtmlBlock ∷ at 1 13 22 body.Html ∷ at 0 23 35 (body.List true 45 0) ∷
    at 1 23 29 (body.ListItem 2) ∷ at 2 25 29 body.TightParagraph ∷ at 3 25 28 (body.Text false) ∷
    at 1 29 35 (body.ListItem 2) ∷ at 2 31 35 body.TightParagraph ∷ at 3 31 34 (body.Text false) ∷ []) [] ∷
    -- 309
    example (codes "-   foo\n\n    notcode\n\n-   foo\n\n<!-- -->\n\n    code\n") (at 0 0 30 (body.List false 45 0) ∷
    at 1 0 21 (body.ListItem 4) ∷ at 2 4 8 body.Paragraph ∷ at 3 4 7 (body.Text false) ∷ at 2 13 21 body.Paragraph ∷
    at 3 13 20 (body.Text false) ∷ at 1 22 30 (body.ListItem 4) ∷ at 2 26 30 body.Paragraph ∷
    at 3 26 29 (body.Text false) ∷ at 0 31 40 body.HtmlBlock ∷ at 1 31 40 body.Html ∷
    at 0 45 50 body.IndentCodeBlock ∷ at 1 45 50 (body.Text false) ∷ []) [] ∷
    -- 310
    example (codes "- a\n - b\n  - c\n   - d\n  - e\n - f\n- g\n") (at 0 0 37 (body.List true 45 0) ∷
    at 1 0 4 (body.ListItem 2) ∷ at 2 2 4 body.TightParagraph ∷ at 3 2 3 (body.Text false) ∷
    at 1 5 9 (body.ListItem 3) ∷ at 2 7 9 body.TightParagraph ∷ at 3 7 8 (body.Text false) ∷
    at 1 11 15 (body.ListItem 4) ∷ at 2 13 15 body.TightParagraph ∷ at 3 13 14 (body.Text false) ∷
    at 1 18 22 (body.ListItem 5) ∷ at 2 20 22 body.TightParagraph ∷ at 3 20 21 (body.Text false) ∷
    at 1 24 28 (body.ListItem 4) ∷ at 2 26 28 body.TightParagraph ∷ at 3 26 27 (body.Text false) ∷
    at 1 29 33 (body.ListItem 3) ∷ at 2 31 33 body.TightParagraph ∷ at 3 31 32 (body.Text false) ∷
    at 1 33 37 (body.ListItem 2) ∷ at 2 35 37 body.TightParagraph ∷ at 3 35 36 (body.Text false) ∷ []) [] ∷
    -- 311
    example (codes "1. a\n\n  2. b\n\n   3. c\n") (at 0 0 22 (body.List false 46 1) ∷ at 1 0 5 (body.ListItem 3) ∷
    at 2 3 5 body.Paragraph ∷ at 3 3 4 (body.Text false) ∷ at 1 8 13 (body.ListItem 5) ∷ at 2 11 13 body.Paragraph ∷
    at 3 11 12 (body.Text false) ∷ at 1 17 22 (body.ListItem 6) ∷ at 2 20 22 body.Paragraph ∷
    at 3 20 21 (body.Text false) ∷ []) [] ∷
    -- 312
    example (codes "- a\n - b\n  - c\n   - d\n    - e\n") (at 0 0 30 (body.List true 45 0) ∷
    at 1 0 4 (body.ListItem 2) ∷ at 2 2 4 body.TightParagraph ∷ at 3 2 3 (body.Text false) ∷
    at 1 5 9 (body.ListItem 3) ∷ at 2 7 9 body.TightParagraph ∷ at 3 7 8 (body.Text false) ∷
    at 1 11 15 (body.ListItem 4) ∷ at 2 13 15 body.TightParagraph ∷ at 3 13 14 (body.Text false) ∷
    at 1 18 30 (body.ListItem 5) ∷ at 2 20 30 body.TightParagraph ∷ at 3 20 21 (body.Text false) ∷
    at 3 21 22 body.SoftBreak ∷ at 3 26 29 (body.Text false) ∷ []) [] ∷
    -- 313
    example (codes "1. a\n\n  2. b\n\n    3. c\n") (at 0 0 13 (body.List false 46 1) ∷ at 1 0 5 (body.ListItem 3) ∷
    at 2 3 5 body.Paragraph ∷ at 3 3 4 (body.Text false) ∷ at 1 8 13 (body.ListItem 5) ∷ at 2 11 13 body.Paragraph ∷
    at 3 11 12 (body.Text false) ∷ at 0 18 23 body.IndentCodeBlock ∷ at 1 18 23 (body.Text false) ∷ []) [] ∷
    -- 314
    example (codes "- a\n- b\n\n- c\n") (at 0 0 13 (body.List false 45 0) ∷ at 1 0 4 (body.ListItem 2) ∷
    at 2 2 4 body.Paragraph ∷ at 3 2 3 (body.Text false) ∷ at 1 4 8 (body.ListItem 2) ∷ at 2 6 8 body.Paragraph ∷
    at 3 6 7 (body.Text false) ∷ at 1 9 13 (body.ListItem 2) ∷ at 2 11 13 body.Paragraph ∷
    at 3 11 12 (body.Text false) ∷ []) [] ∷
    -- 315
    example (codes "* a\n*\n\n* c\n") (at 0 0 11 (body.List false 42 0) ∷ at 1 0 4 (body.ListItem 2) ∷
    at 2 2 4 body.Paragraph ∷ at 3 2 3 (body.Text false) ∷ at 1 4 6 (body.ListItem 2) ∷ at 1 7 11 (body.ListItem 2) ∷
    at 2 9 11 body.Paragraph ∷ at 3 9 10 (body.Text false) ∷ []) [] ∷
    -- 316
    example (codes "- a\n- b\n\n  c\n- d\n") (at 0 0 17 (body.List false 45 0) ∷ at 1 0 4 (body.ListItem 2) ∷
    at 2 2 4 body.Paragraph ∷ at 3 2 3 (body.Text false) ∷ at 1 4 13 (body.ListItem 2) ∷ at 2 6 8 body.Paragraph ∷
    at 3 6 7 (body.Text false) ∷ at 2 11 13 body.Paragraph ∷ at 3 11 12 (body.Text false) ∷
    at 1 13 17 (body.ListItem 2) ∷ at 2 15 17 body.Paragraph ∷ at 3 15 16 (body.Text false) ∷ []) [] ∷
    -- 317
    example (codes "- a\n- b\n\n  [ref]: /url\n- d\n") (at 0 0 27 (body.List false 45 0) ∷
    at 1 0 4 (body.ListItem 2) ∷ at 2 2 4 body.Paragraph ∷ at 3 2 3 (body.Text false) ∷ at 1 4 23 (body.ListItem 2) ∷
    at 2 6 8 body.Paragraph ∷ at 3 6 7 (body.Text false) ∷ at 1 23 27 (body.ListItem 2) ∷ at 2 25 27 body.Paragraph ∷
    at 3 25 26 (body.Text false) ∷ []) (defined 11 22 (codes "ref") (codes "/url") None ∷ []) ∷
    -- 318
    example (codes "- a\n- ```\n  b\n\n\n  ```\n- c\n") (at 0 0 26 (body.List true 45 0) ∷
    at 1 0 4 (body.ListItem 2) ∷ at 2 2 4 body.TightParagraph ∷ at 3 2 3 (body.Text false) ∷
    at 1 4 22 (body.ListItem 2) ∷ naming_at 2 6 22 body.FencedCodeBlock (codes "") ∷ at 3 12 14 (body.Text false) ∷
    at 3 14 15 (body.Text false) ∷ at 3 15 16 (body.Text false) ∷ at 1 22 26 (body.ListItem 2) ∷
    at 2 24 26 body.TightParagraph ∷ at 3 24 25 (body.Text false) ∷ []) [] ∷
    -- 319
    example (codes "- a\n  - b\n\n    c\n- d\n") (at 0 0 21 (body.List true 45 0) ∷ at 1 0 17 (body.ListItem 2) ∷
    at 2 2 4 body.TightParagraph ∷ at 3 2 3 (body.Text false) ∷ at 2 6 17 (body.List false 45 0) ∷
    at 3 6 17 (body.ListItem 2) ∷ at 4 8 10 body.Paragraph ∷ at 5 8 9 (body.Text false) ∷ at 4 15 17 body.Paragraph ∷
    at 5 15 16 (body.Text false) ∷ at 1 17 21 (body.ListItem 2) ∷ at 2 19 21 body.TightParagraph ∷
    at 3 19 20 (body.Text false) ∷ []) [] ∷
    -- 320
    example (codes "* a\n  > b\n  >\n* c\n") (at 0 0 18 (body.List true 42 0) ∷ at 1 0 14 (body.ListItem 2) ∷
    at 2 2 4 body.TightParagraph ∷ at 3 2 3 (body.Text false) ∷ at 2 6 14 (body.BlockQuote None) ∷
    at 3 8 10 body.Paragraph ∷ at 4 8 9 (body.Text false) ∷ at 1 14 18 (body.ListItem 2) ∷
    at 2 16 18 body.TightParagraph ∷ at 3 16 17 (body.Text false) ∷ []) [] ∷
    -- 321
    example (codes "- a\n  > b\n  ```\n  c\n  ```\n- d\n") (at 0 0 30 (body.List true 45 0) ∷
    at 1 0 26 (body.ListItem 2) ∷ at 2 2 4 body.TightParagraph ∷ at 3 2 3 (body.Text false) ∷
    at 2 6 10 (body.BlockQuote None) ∷ at 3 8 10 body.Paragraph ∷ at 4 8 9 (body.Text false) ∷
    naming_at 2 12 26 body.FencedCodeBlock (codes "") ∷ at 3 18 20 (body.Text false) ∷ at 1 26 30 (body.ListItem 2) ∷
    at 2 28 30 body.TightParagraph ∷ at 3 28 29 (body.Text false) ∷ []) [] ∷
    -- 322
    example (codes "- a\n") (at 0 0 4 (body.List true 45 0) ∷ at 1 0 4 (body.ListItem 2) ∷
    at 2 2 4 body.TightParagraph ∷ at 3 2 3 (body.Text false) ∷ []) [] ∷
    -- 323
    example (codes "- a\n  - b\n") (at 0 0 10 (body.List true 45 0) ∷ at 1 0 10 (body.ListItem 2) ∷
    at 2 2 4 body.TightParagraph ∷ at 3 2 3 (body.Text false) ∷ at 2 6 10 (body.List true 45 0) ∷
    at 3 6 10 (body.ListItem 2) ∷ at 4 8 10 body.TightParagraph ∷ at 5 8 9 (body.Text false) ∷ []) [] ∷
    -- 324
    example (codes "1. ```\n   foo\n   ```\n\n   bar\n") (at 0 0 29 (body.List false 46 1) ∷
    at 1 0 29 (body.ListItem 3) ∷ naming_at 2 3 21 body.FencedCodeBlock (codes "") ∷ at 3 10 14 (body.Text false) ∷
    at 2 25 29 body.Paragraph ∷ at 3 25 28 (body.Text false) ∷ []) [] ∷
    -- 325
    example (codes "* foo\n  * bar\n\n  baz\n") (at 0 0 21 (body.List false 42 0) ∷ at 1 0 21 (body.ListItem 2) ∷
    at 2 2 6 body.Paragraph ∷ at 3 2 5 (body.Text false) ∷ at 2 8 14 (body.List true 42 0) ∷
    at 3 8 14 (body.ListItem 2) ∷ at 4 10 14 body.TightParagraph ∷ at 5 10 13 (body.Text false) ∷
    at 2 17 21 body.Paragraph ∷ at 3 17 20 (body.Text false) ∷ []) [] ∷
    -- 326
    example (codes "- a\n  - b\n  - c\n\n- d\n  - e\n  - f\n") (at 0 0 33 (body.List false 45 0) ∷
    at 1 0 16 (body.ListItem 2) ∷ at 2 2 4 body.Paragraph ∷ at 3 2 3 (body.Text false) ∷
    at 2 6 16 (body.List true 45 0) ∷ at 3 6 10 (body.ListItem 2) ∷ at 4 8 10 body.TightParagraph ∷
    at 5 8 9 (body.Text false) ∷ at 3 12 16 (body.ListItem 2) ∷ at 4 14 16 body.TightParagraph ∷
    at 5 14 15 (body.Text false) ∷ at 1 17 33 (body.ListItem 2) ∷ at 2 19 21 body.Paragraph ∷
    at 3 19 20 (body.Text false) ∷ at 2 23 33 (body.List true 45 0) ∷ at 3 23 27 (body.ListItem 2) ∷
    at 4 25 27 body.TightParagraph ∷ at 5 25 26 (body.Text false) ∷ at 3 29 33 (body.ListItem 2) ∷
    at 4 31 33 body.TightParagraph ∷ at 5 31 32 (body.Text false) ∷ []) [] ∷
    []
