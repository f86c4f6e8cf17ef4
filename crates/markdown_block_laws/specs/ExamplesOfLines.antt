-- Examples in CommonMark with their blocks: Tabs, Backslash escapes, Entities, Precedence, Paragraphs and Blank
-- lines. Written by .ci/examples.
use Rattle.std.specs.Prelude.{List, [], ◌∷◌, ◌++◌, codes, true, false, Some, None}
use Rattle.markdown_base.specs.declared.item.ItemBody.TheVariants as body
use Rattle.markdown_base.specs.declared.tag.HeadingLevel.TheVariants as level
use Rattle.markdown_block_laws.specs.ExampleTrees.{Example, at, defined, example, naming_at}

unfoldable pub examples_of_lines : List Example
examples_of_lines =
    -- Tabs
    -- 1
    example (codes "\tfoo\tbaz\t\tbim\n") (at 0 1 14 body.IndentCodeBlock ∷ at 1 1 14 (body.Text false) ∷ []) [] ∷
    -- 2
    example (codes "  \tfoo\tbaz\t\tbim\n") (at 0 3 16 body.IndentCodeBlock ∷ at 1 3 16 (body.Text false) ∷ []) [] ∷
    -- 3
    example (codes "    a\ta\n    " ++ (225 ∷ 189 ∷ 144 ∷ []) ++ codes "\ta\n") (at 0 4 18 body.IndentCodeBlock ∷
    at 1 4 8 (body.Text false) ∷ at 1 12 18 (body.Text false) ∷ []) [] ∷
    -- 4
    example (codes "  - foo\n\n\tbar\n") (at 0 2 14 (body.List false 45 0) ∷ at 1 2 14 (body.ListItem 4) ∷
    at 2 4 8 body.Paragraph ∷ at 3 4 7 (body.Text false) ∷ at 2 10 14 body.Paragraph ∷ at 3 10 13 (body.Text false) ∷
    []) [] ∷
    -- 5
    example (codes "- foo\n\n\t\tbar\n") (at 0 0 13 (body.List false 45 0) ∷ at 1 0 13 (body.ListItem 2) ∷
    at 2 2 6 body.Paragraph ∷ at 3 2 5 (body.Text false) ∷ at 2 9 13 body.IndentCodeBlock ∷
    naming_at 3 9 9 body.SynthesizeText (codes "  ") ∷ at 3 9 13 (body.Text false) ∷ []) [] ∷
    -- 6
    example (codes ">\t\tfoo\n") (at 0 0 7 (body.BlockQuote None) ∷ at 1 3 7 body.IndentCodeBlock ∷
    naming_at 2 3 3 body.SynthesizeText (codes "  ") ∷ at 2 3 7 (body.Text false) ∷ []) [] ∷
    -- 7
    example (codes "-\t\tfoo\n") (at 0 0 7 (body.List true 45 0) ∷ at 1 0 7 (body.ListItem 2) ∷
    at 2 3 7 body.IndentCodeBlock ∷ naming_at 3 3 3 body.SynthesizeText (codes "  ") ∷ at 3 3 7 (body.Text false) ∷
    []) [] ∷
    -- 8
    example (codes "    foo\n\tbar\n") (at 0 4 13 body.IndentCodeBlock ∷ at 1 4 8 (body.Text false) ∷
    at 1 9 13 (body.Text false) ∷ []) [] ∷
    -- 9
    example (codes " - foo\n   - bar\n\t - baz\n") (at 0 1 24 (body.List true 45 0) ∷ at 1 1 24 (body.ListItem 3) ∷
    at 2 3 7 body.TightParagraph ∷ at 3 3 6 (body.Text false) ∷ at 2 10 24 (body.List true 45 0) ∷
    at 3 10 24 (body.ListItem 2) ∷ at 4 12 16 body.TightParagraph ∷ at 5 12 15 (body.Text false) ∷
    at 4 18 24 (body.List true 45 0) ∷ at 5 18 24 (body.ListItem 2) ∷ at 6 20 24 body.TightParagraph ∷
    at 7 20 23 (body.Text false) ∷ []) [] ∷
    -- 10
    example (codes "#\tFoo\n") (at 0 0 6 (body.Heading level.H1 None) ∷ at 1 2 5 (body.Text false) ∷ []) [] ∷
    -- 11
    example (codes "*\t*\t*\t\n") (at 0 0 7 body.Rule ∷ []) [] ∷
    -- Backslash escapes
    -- 12
    example
    (codes "\\!\\\"\\#\\$\\%\\&\\'\\(\\)\\*\\+\\,\\-\\.\\/\\:\\;\\<\\=\\>\\?\\@\\[\\\\\\]\\^\\_\\`\\{\\|\\}\\~\n")
    (at 0 0 65 body.Paragraph ∷ at 1 1 2 (body.Text true) ∷ at 1 3 4 (body.Text true) ∷ at 1 5 6 (body.Text true) ∷
    at 1 7 8 (body.Text true) ∷ at 1 9 10 (body.Text true) ∷ at 1 11 12 (body.Text true) ∷
    at 1 13 14 (body.Text true) ∷ at 1 15 16 (body.Text true) ∷ at 1 17 18 (body.Text true) ∷
    at 1 19 20 (body.Text true) ∷ at 1 21 22 (body.Text true) ∷ at 1 23 24 (body.Text true) ∷
    at 1 25 26 (body.Text true) ∷ at 1 27 28 (body.Text true) ∷ at 1 29 30 (body.Text true) ∷
    at 1 31 32 (body.Text true) ∷ at 1 33 34 (body.Text true) ∷ at 1 35 36 (body.Text true) ∷
    at 1 37 38 (body.Text true) ∷ at 1 39 40 (body.Text true) ∷ at 1 41 42 (body.Text true) ∷
    at 1 43 44 (body.Text true) ∷ at 1 45 46 (body.Text true) ∷ at 1 47 48 (body.Text true) ∷
    at 1 49 50 (body.Text true) ∷ at 1 51 52 (body.Text true) ∷ at 1 53 54 (body.Text true) ∷
    at 1 55 56 (body.MaybeCode 1 true) ∷ at 1 57 58 (body.Text true) ∷ at 1 59 60 (body.Text true) ∷
    at 1 61 62 (body.Text true) ∷ at 1 63 64 (body.Text true) ∷ []) [] ∷
    -- 13
    example (codes "\\\t\\A\\a\\ \\3\\" ++ (207 ∷ 134 ∷ []) ++ codes "\\" ++ (194 ∷ 171 ∷ []) ++ codes "\n")
    (at 0 0 17 body.Paragraph ∷ at 1 0 16 (body.Text false) ∷ []) [] ∷
    -- 14
    example (codes "\\*not emphasized*\n\\<br/> not a tag\n\\[not a link](/foo)\n\\`not code`\n" ++
    codes "1\\. not a list\n\\* not a list\n\\# not a heading\n" ++
    codes "\\[foo]: /url \"not a reference\"\n\\&ouml; not a character entity\n") (at 0 0 175 body.Paragraph ∷
    at 1 1 16 (body.Text true) ∷ at 1 16 17 (body.MaybeEmphasis 1 false true) ∷ at 1 17 18 body.SoftBreak ∷
    at 1 19 34 (body.Text true) ∷ at 1 34 35 body.SoftBreak ∷ at 1 36 47 (body.Text true) ∷
    at 1 47 48 (body.MaybeLinkClose true) ∷ at 1 48 54 (body.Text false) ∷ at 1 54 55 body.SoftBreak ∷
    at 1 56 57 (body.MaybeCode 1 true) ∷ at 1 57 65 (body.Text false) ∷ at 1 65 66 (body.MaybeCode 1 false) ∷
    at 1 66 67 body.SoftBreak ∷ at 1 67 68 (body.Text false) ∷ at 1 69 81 (body.Text true) ∷
    at 1 81 82 body.SoftBreak ∷ at 1 83 95 (body.Text true) ∷ at 1 95 96 body.SoftBreak ∷
    at 1 97 112 (body.Text true) ∷ at 1 112 113 body.SoftBreak ∷ at 1 114 118 (body.Text true) ∷
    at 1 118 119 (body.MaybeLinkClose true) ∷ at 1 119 143 (body.Text false) ∷ at 1 143 144 body.SoftBreak ∷
    at 1 145 174 (body.Text true) ∷ []) [] ∷
    -- 15
    example (codes "\\\\*emphasis*\n") (at 0 0 13 body.Paragraph ∷ at 1 1 2 (body.Text true) ∷
    at 1 2 3 (body.MaybeEmphasis 1 true false) ∷ at 1 3 11 (body.Text false) ∷
    at 1 11 12 (body.MaybeEmphasis 1 false true) ∷ []) [] ∷
    -- 16
    example (codes "foo\\\nbar\n") (at 0 0 9 body.Paragraph ∷ at 1 0 3 (body.Text false) ∷
    at 1 3 5 (body.HardBreak true) ∷ at 1 5 8 (body.Text false) ∷ []) [] ∷
    -- 17
    example (codes "`` \\[\\` ``\n") (at 0 0 11 body.Paragraph ∷ at 1 0 2 (body.MaybeCode 2 false) ∷
    at 1 2 3 (body.Text false) ∷ at 1 4 5 (body.Text true) ∷ at 1 6 7 (body.MaybeCode 1 true) ∷
    at 1 7 8 (body.Text false) ∷ at 1 8 10 (body.MaybeCode 2 false) ∷ []) [] ∷
    -- 18
    example (codes "    \\[\\]\n") (at 0 4 9 body.IndentCodeBlock ∷ at 1 4 9 (body.Text false) ∷ []) [] ∷
    -- 19
    example (codes "~~~\n\\[\\]\n~~~\n") (naming_at 0 0 13 body.FencedCodeBlock (codes "") ∷
    at 1 4 9 (body.Text false) ∷ []) [] ∷
    -- 20
    example (codes "<http://example.com?find=\\*>\n") (at 0 0 29 body.Paragraph ∷ at 1 0 1 body.MaybeHtml ∷
    at 1 1 25 (body.Text false) ∷ at 1 26 28 (body.Text true) ∷ []) [] ∷
    -- 21
    example (codes "<a href=\"/bar\\/)\">\n") (at 0 0 19 body.HtmlBlock ∷ at 1 0 19 body.Html ∷ []) [] ∷
    -- 22
    example (codes "[foo](/bar\\* \"ti\\*tle\")\n") (at 0 0 24 body.Paragraph ∷ at 1 0 1 body.MaybeLinkOpen ∷
    at 1 1 4 (body.Text false) ∷ at 1 4 5 (body.MaybeLinkClose true) ∷ at 1 5 10 (body.Text false) ∷
    at 1 11 16 (body.Text true) ∷ at 1 17 23 (body.Text true) ∷ []) [] ∷
    -- 23
    example (codes "[foo]\n\n[foo]: /bar\\* \"ti\\*tle\"\n") (at 0 0 6 body.Paragraph ∷ at 1 0 1 body.MaybeLinkOpen ∷
    at 1 1 4 (body.Text false) ∷ at 1 4 5 (body.MaybeLinkClose true) ∷ [])
    (defined 7 30 (codes "foo") (codes "/bar*") (Some (codes "ti*tle")) ∷ []) ∷
    -- 24
    example (codes "``` foo\\+bar\nfoo\n```\n") (naming_at 0 0 21 body.FencedCodeBlock (codes "foo+bar") ∷
    at 1 13 17 (body.Text false) ∷ []) [] ∷
    -- Entities
    -- 25
    example (codes "&nbsp; &amp; &copy; &AElig; &Dcaron;\n&frac34; &HilbertSpace; &DifferentialD;\n" ++
    codes "&ClockwiseContourIntegral; &ngE;\n") (at 0 0 110 body.Paragraph ∷ at 1 0 7 (body.Text false) ∷
    naming_at 1 7 12 body.SynthesizeText (codes "&") ∷ at 1 12 36 (body.Text false) ∷ at 1 36 37 body.SoftBreak ∷
    at 1 37 76 (body.Text false) ∷ at 1 76 77 body.SoftBreak ∷ at 1 77 109 (body.Text false) ∷ []) [] ∷
    -- 26
    example (codes "&#35; &#1234; &#992; &#0;\n") (at 0 0 26 body.Paragraph ∷
    naming_at 1 0 5 body.SynthesizeText (codes "#") ∷ at 1 5 6 (body.Text false) ∷
    naming_at 1 6 13 body.SynthesizeText ((211 ∷ 146 ∷ [])) ∷ at 1 13 14 (body.Text false) ∷
    naming_at 1 14 20 body.SynthesizeText ((207 ∷ 160 ∷ [])) ∷ at 1 20 21 (body.Text false) ∷
    naming_at 1 21 25 body.SynthesizeText ((239 ∷ 191 ∷ 189 ∷ [])) ∷ []) [] ∷
    -- 27
    example (codes "&#X22; &#XD06; &#xcab;\n") (at 0 0 23 body.Paragraph ∷
    naming_at 1 0 6 body.SynthesizeText (codes "\"") ∷ at 1 6 7 (body.Text false) ∷
    naming_at 1 7 14 body.SynthesizeText ((224 ∷ 180 ∷ 134 ∷ [])) ∷ at 1 14 15 (body.Text false) ∷
    naming_at 1 15 22 body.SynthesizeText ((224 ∷ 178 ∷ 171 ∷ [])) ∷ []) [] ∷
    -- 28
    example (codes "&nbsp &x; &#; &#x;\n&#87654321;\n&#abcdef0;\n&ThisIsNotDefined; &hi?;\n")
    (at 0 0 67 body.Paragraph ∷ at 1 0 18 (body.Text false) ∷ at 1 18 19 body.SoftBreak ∷
    at 1 19 30 (body.Text false) ∷ at 1 30 31 body.SoftBreak ∷ at 1 31 41 (body.Text false) ∷
    at 1 41 42 body.SoftBreak ∷ at 1 42 66 (body.Text false) ∷ []) [] ∷
    -- 29
    example (codes "&copy\n") (at 0 0 6 body.Paragraph ∷ at 1 0 5 (body.Text false) ∷ []) [] ∷
    -- 30
    example (codes "&MadeUpEntity;\n") (at 0 0 15 body.Paragraph ∷ at 1 0 14 (body.Text false) ∷ []) [] ∷
    -- 31
    example (codes "<a href=\"&ouml;&ouml;.html\">\n") (at 0 0 29 body.HtmlBlock ∷ at 1 0 29 body.Html ∷ []) [] ∷
    -- 32
    example (codes "[foo](/f&ouml;&ouml; \"f&ouml;&ouml;\")\n") (at 0 0 38 body.Paragraph ∷
    at 1 0 1 body.MaybeLinkOpen ∷ at 1 1 4 (body.Text false) ∷ at 1 4 5 (body.MaybeLinkClose true) ∷
    at 1 5 37 (body.Text false) ∷ []) [] ∷
    -- 33
    example (codes "[foo]\n\n[foo]: /f&ouml;&ouml; \"f&ouml;&ouml;\"\n") (at 0 0 6 body.Paragraph ∷
    at 1 0 1 body.MaybeLinkOpen ∷ at 1 1 4 (body.Text false) ∷ at 1 4 5 (body.MaybeLinkClose true) ∷ [])
    (defined 7 44 (codes "foo") (codes "/f&ouml;&ouml;") (Some (codes "f&ouml;&ouml;")) ∷ []) ∷
    -- 34
    example (codes "``` f&ouml;&ouml;\nfoo\n```\n") (naming_at 0 0 26 body.FencedCodeBlock (codes "f&ouml;&ouml;") ∷
    at 1 18 22 (body.Text false) ∷ []) [] ∷
    -- 35
    example (codes "`f&ouml;&ouml;`\n") (at 0 0 16 body.Paragraph ∷ at 1 0 1 (body.MaybeCode 1 false) ∷
    at 1 1 14 (body.Text false) ∷ at 1 14 15 (body.MaybeCode 1 false) ∷ []) [] ∷
    -- 36
    example (codes "    f&ouml;f&ouml;\n") (at 0 4 19 body.IndentCodeBlock ∷ at 1 4 19 (body.Text false) ∷ []) [] ∷
    -- 37
    example (codes "&#42;foo&#42;\n*foo*\n") (at 0 0 20 body.Paragraph ∷
    naming_at 1 0 5 body.SynthesizeText (codes "*") ∷ at 1 5 8 (body.Text false) ∷
    naming_at 1 8 13 body.SynthesizeText (codes "*") ∷ at 1 13 14 body.SoftBreak ∷
    at 1 14 15 (body.MaybeEmphasis 1 true false) ∷ at 1 15 18 (body.Text false) ∷
    at 1 18 19 (body.MaybeEmphasis 1 false true) ∷ []) [] ∷
    -- 38
    example (codes "&#42; foo\n\n* foo\n") (at 0 0 10 body.Paragraph ∷
    naming_at 1 0 5 body.SynthesizeText (codes "*") ∷ at 1 5 9 (body.Text false) ∷ at 0 11 17 (body.List true 42 0) ∷
    at 1 11 17 (body.ListItem 2) ∷ at 2 13 17 body.TightParagraph ∷ at 3 13 16 (body.Text false) ∷ []) [] ∷
    -- 39
    example (codes "foo&#10;&#10;bar\n") (at 0 0 17 body.Paragraph ∷ at 1 0 3 (body.Text false) ∷
    naming_at 1 3 8 body.SynthesizeText (codes "\n") ∷ naming_at 1 8 13 body.SynthesizeText (codes "\n") ∷
    at 1 13 16 (body.Text false) ∷ []) [] ∷
    -- 40
    example (codes "&#9;foo\n") (at 0 0 8 body.Paragraph ∷ naming_at 1 0 4 body.SynthesizeText (codes "\t") ∷
    at 1 4 7 (body.Text false) ∷ []) [] ∷
    -- 41
    example (codes "[a](url &quot;tit&quot;)\n") (at 0 0 25 body.Paragraph ∷ at 1 0 1 body.MaybeLinkOpen ∷
    at 1 1 2 (body.Text false) ∷ at 1 2 3 (body.MaybeLinkClose true) ∷ at 1 3 8 (body.Text false) ∷
    naming_at 1 8 14 body.SynthesizeText (codes "\"") ∷ at 1 14 17 (body.Text false) ∷
    naming_at 1 17 23 body.SynthesizeText (codes "\"") ∷ at 1 23 24 (body.Text false) ∷ []) [] ∷
    -- Precedence
    -- 42
    example (codes "- `one\n- two`\n") (at 0 0 14 (body.List true 45 0) ∷ at 1 0 7 (body.ListItem 2) ∷
    at 2 2 7 body.TightParagraph ∷ at 3 2 3 (body.MaybeCode 1 false) ∷ at 3 3 6 (body.Text false) ∷
    at 1 7 14 (body.ListItem 2) ∷ at 2 9 14 body.TightParagraph ∷ at 3 9 12 (body.Text false) ∷
    at 3 12 13 (body.MaybeCode 1 false) ∷ []) [] ∷
    -- Paragraphs
    -- 219
    example (codes "aaa\n\nbbb\n") (at 0 0 4 body.Paragraph ∷ at 1 0 3 (body.Text false) ∷ at 0 5 9 body.Paragraph ∷
    at 1 5 8 (body.Text false) ∷ []) [] ∷
    -- 220
    example (codes "aaa\nbbb\n\nccc\nddd\n") (at 0 0 8 body.Paragraph ∷ at 1 0 3 (body.Text false) ∷
    at 1 3 4 body.SoftBreak ∷ at 1 4 7 (body.Text false) ∷ at 0 9 17 body.Paragraph ∷ at 1 9 12 (body.Text false) ∷
    at 1 12 13 body.SoftBreak ∷ at 1 13 16 (body.Text false) ∷ []) [] ∷
    -- 221
    example (codes "aaa\n\n\nbbb\n") (at 0 0 4 body.Paragraph ∷ at 1 0 3 (body.Text false) ∷
    at 0 6 10 body.Paragraph ∷ at 1 6 9 (body.Text false) ∷ []) [] ∷
    -- 222
    example (codes "  aaa\n bbb\n") (at 0 2 11 body.Paragraph ∷ at 1 2 5 (body.Text false) ∷ at 1 5 6 body.SoftBreak ∷
    at 1 7 10 (body.Text false) ∷ []) [] ∷
    -- 223
    example (codes "aaa\n             bbb\n                                       ccc\n") (at 0 0 64 body.Paragraph ∷
    at 1 0 3 (body.Text false) ∷ at 1 3 4 body.SoftBreak ∷ at 1 17 20 (body.Text false) ∷ at 1 20 21 body.SoftBreak ∷
    at 1 60 63 (body.Text false) ∷ []) [] ∷
    -- 224
    example (codes "   aaa\nbbb\n") (at 0 3 11 body.Paragraph ∷ at 1 3 6 (body.Text false) ∷ at 1 6 7 body.SoftBreak ∷
    at 1 7 10 (body.Text false) ∷ []) [] ∷
    -- 225
    example (codes "    aaa\nbbb\n") (at 0 4 8 body.IndentCodeBlock ∷ at 1 4 8 (body.Text false) ∷
    at 0 8 12 body.Paragraph ∷ at 1 8 11 (body.Text false) ∷ []) [] ∷
    -- 226
    example (codes "aaa     \nbbb     \n") (at 0 0 18 body.Paragraph ∷ at 1 0 3 (body.Text false) ∷
    at 1 3 9 (body.HardBreak false) ∷ at 1 9 12 (body.Text false) ∷ []) [] ∷
    -- Blank lines
    -- 227
    example (codes "  \n\naaa\n  \n\n# aaa\n\n  \n") (at 0 4 8 body.Paragraph ∷ at 1 4 7 (body.Text false) ∷
    at 0 12 18 (body.Heading level.H1 None) ∷ at 1 14 17 (body.Text false) ∷ []) [] ∷
    []
