-- Examples in CommonMark with their blocks: HTML blocks. Written by .ci/examples.
use Rattle.std.specs.Prelude.{List, [], ◌∷◌, ◌++◌, codes, true, false, None}
use Rattle.markdown_base.specs.declared.item.ItemBody.TheVariants as body
use Rattle.markdown_block_laws.specs.ExampleTrees.{Example, at, example}

unfoldable pub examples_of_html : List Example
examples_of_html =
    -- HTML blocks
    -- 148
    example (codes "<table><tr><td>\n<pre>\n**Hello**,\n\n_world_.\n</pre>\n</td></tr></table>\n")
    (at 0 0 33 body.HtmlBlock ∷ at 1 0 16 body.Html ∷ at 1 16 22 body.Html ∷ at 1 22 33 body.Html ∷
    at 0 34 50 body.Paragraph ∷ at 1 34 35 (body.MaybeEmphasis 1 true false) ∷ at 1 35 40 (body.Text false) ∷
    at 1 40 41 (body.MaybeEmphasis 1 false true) ∷ at 1 41 42 (body.Text false) ∷ at 1 42 43 body.SoftBreak ∷
    at 1 43 44 body.MaybeHtml ∷ at 1 44 49 (body.Text false) ∷ at 0 50 69 body.HtmlBlock ∷ at 1 50 69 body.Html ∷ [])
    [] ∷
    -- 149
    example (codes "<table>\n  <tr>\n    <td>\n           hi\n    </td>\n  </tr>\n</table>\n\n" ++ codes "okay.\n")
    (at 0 0 65 body.HtmlBlock ∷ at 1 0 8 body.Html ∷ at 1 8 15 body.Html ∷ at 1 15 24 body.Html ∷
    at 1 24 38 body.Html ∷ at 1 38 48 body.Html ∷ at 1 48 56 body.Html ∷ at 1 56 65 body.Html ∷
    at 0 66 72 body.Paragraph ∷ at 1 66 71 (body.Text false) ∷ []) [] ∷
    -- 150
    example (codes " <div>\n  *hello*\n         <foo><a>\n") (at 0 1 35 body.HtmlBlock ∷ at 1 0 7 body.Html ∷
    at 1 7 17 body.Html ∷ at 1 17 35 body.Html ∷ []) [] ∷
    -- 151
    example (codes "</div>\n*foo*\n") (at 0 0 13 body.HtmlBlock ∷ at 1 0 7 body.Html ∷ at 1 7 13 body.Html ∷ []) [] ∷
    -- 152
    example (codes "<DIV CLASS=\"foo\">\n\n*Markdown*\n\n</DIV>\n") (at 0 0 18 body.HtmlBlock ∷ at 1 0 18 body.Html ∷
    at 0 19 30 body.Paragraph ∷ at 1 19 20 (body.MaybeEmphasis 1 true false) ∷ at 1 20 28 (body.Text false) ∷
    at 1 28 29 (body.MaybeEmphasis 1 false true) ∷ at 0 31 38 body.HtmlBlock ∷ at 1 31 38 body.Html ∷ []) [] ∷
    -- 153
    example (codes "<div id=\"foo\"\n  class=\"bar\">\n</div>\n") (at 0 0 36 body.HtmlBlock ∷ at 1 0 14 body.Html ∷
    at 1 14 29 body.Html ∷ at 1 29 36 body.Html ∷ []) [] ∷
    -- 154
    example (codes "<div id=\"foo\" class=\"bar\n  baz\">\n</div>\n") (at 0 0 40 body.HtmlBlock ∷
    at 1 0 25 body.Html ∷ at 1 25 33 body.Html ∷ at 1 33 40 body.Html ∷ []) [] ∷
    -- 155
    example (codes "<div>\n*foo*\n\n*bar*\n") (at 0 0 12 body.HtmlBlock ∷ at 1 0 6 body.Html ∷ at 1 6 12 body.Html ∷
    at 0 13 19 body.Paragraph ∷ at 1 13 14 (body.MaybeEmphasis 1 true false) ∷ at 1 14 17 (body.Text false) ∷
    at 1 17 18 (body.MaybeEmphasis 1 false true) ∷ []) [] ∷
    -- 156
    example (codes "<div id=\"foo\"\n*hi*\n") (at 0 0 19 body.HtmlBlock ∷ at 1 0 14 body.Html ∷ at 1 14 19 body.Html ∷
    []) [] ∷
    -- 157
    example (codes "<div class\nfoo\n") (at 0 0 15 body.HtmlBlock ∷ at 1 0 11 body.Html ∷ at 1 11 15 body.Html ∷ [])
    [] ∷
    -- 158
    example (codes "<div *???-&&&-<---\n*foo*\n") (at 0 0 25 body.HtmlBlock ∷ at 1 0 19 body.Html ∷
    at 1 19 25 body.Html ∷ []) [] ∷
    -- 159
    example (codes "<div><a href=\"bar\">*foo*</a></div>\n") (at 0 0 35 body.HtmlBlock ∷ at 1 0 35 body.Html ∷ []) [] ∷
    -- 160
    example (codes "<table><tr><td>\nfoo\n</td></tr></table>\n") (at 0 0 39 body.HtmlBlock ∷ at 1 0 16 body.Html ∷
    at 1 16 20 body.Html ∷ at 1 20 39 body.Html ∷ []) [] ∷
    -- 161
    example (codes "<div></div>\n``` c\nint x = 33;\n```\n") (at 0 0 34 body.HtmlBlock ∷ at 1 0 12 body.Html ∷
    at 1 12 18 body.Html ∷ at 1 18 30 body.Html ∷ at 1 30 34 body.Html ∷ []) [] ∷
    -- 162
    example (codes "<a href=\"foo\">\n*bar*\n</a>\n") (at 0 0 26 body.HtmlBlock ∷ at 1 0 15 body.Html ∷
    at 1 15 21 body.Html ∷ at 1 21 26 body.Html ∷ []) [] ∷
    -- 163
    example (codes "<Warning>\n*bar*\n</Warning>\n") (at 0 0 27 body.HtmlBlock ∷ at 1 0 10 body.Html ∷
    at 1 10 16 body.Html ∷ at 1 16 27 body.Html ∷ []) [] ∷
    -- 164
    example (codes "<i class=\"foo\">\n*bar*\n</i>\n") (at 0 0 27 body.HtmlBlock ∷ at 1 0 16 body.Html ∷
    at 1 16 22 body.Html ∷ at 1 22 27 body.Html ∷ []) [] ∷
    -- 165
    example (codes "</ins>\n*bar*\n") (at 0 0 13 body.HtmlBlock ∷ at 1 0 7 body.Html ∷ at 1 7 13 body.Html ∷ []) [] ∷
    -- 166
    example (codes "<del>\n*foo*\n</del>\n") (at 0 0 19 body.HtmlBlock ∷ at 1 0 6 body.Html ∷ at 1 6 12 body.Html ∷
    at 1 12 19 body.Html ∷ []) [] ∷
    -- 167
    example (codes "<del>\n\n*foo*\n\n</del>\n") (at 0 0 6 body.HtmlBlock ∷ at 1 0 6 body.Html ∷
    at 0 7 13 body.Paragraph ∷ at 1 7 8 (body.MaybeEmphasis 1 true false) ∷ at 1 8 11 (body.Text false) ∷
    at 1 11 12 (body.MaybeEmphasis 1 false true) ∷ at 0 14 21 body.HtmlBlock ∷ at 1 14 21 body.Html ∷ []) [] ∷
    -- 168
    example (codes "<del>*foo*</del>\n") (at 0 0 17 body.Paragraph ∷ at 1 0 1 body.MaybeHtml ∷
    at 1 1 5 (body.Text false) ∷ at 1 5 6 (body.MaybeEmphasis 1 true false) ∷ at 1 6 9 (body.Text false) ∷
    at 1 9 10 (body.MaybeEmphasis 1 false true) ∷ at 1 10 11 body.MaybeHtml ∷ at 1 11 16 (body.Text false) ∷ []) [] ∷
    -- 169
    example (codes "<pre language=\"haskell\"><code>\nimport Text.HTML.TagSoup\n\nmain :: IO ()\n" ++
    codes "main = print $ parseTags tags\n</code></pre>\nokay\n") (at 0 0 115 body.HtmlBlock ∷ at 1 0 31 body.Html ∷
    at 1 31 56 body.Html ∷ at 1 56 57 body.Html ∷ at 1 57 71 body.Html ∷ at 1 71 101 body.Html ∷
    at 1 101 115 body.Html ∷ at 0 115 120 body.Paragraph ∷ at 1 115 119 (body.Text false) ∷ []) [] ∷
    -- 170
    example (codes "<script type=\"text/javascript\">\n// JavaScript example\n\n" ++
    codes "document.getElementById(\"demo\").innerHTML = \"Hello JavaScript!\";\n" ++ codes "</script>\nokay\n")
    (at 0 0 130 body.HtmlBlock ∷ at 1 0 32 body.Html ∷ at 1 32 54 body.Html ∷ at 1 54 55 body.Html ∷
    at 1 55 120 body.Html ∷ at 1 120 130 body.Html ∷ at 0 130 135 body.Paragraph ∷ at 1 130 134 (body.Text false) ∷
    []) [] ∷
    -- 171
    example (codes "<textarea>\n\n*foo*\n\n_bar_\n\n</textarea>\n") (at 0 0 38 body.HtmlBlock ∷ at 1 0 11 body.Html ∷
    at 1 11 12 body.Html ∷ at 1 12 18 body.Html ∷ at 1 18 19 body.Html ∷ at 1 19 25 body.Html ∷ at 1 25 26 body.Html ∷
    at 1 26 38 body.Html ∷ []) [] ∷
    -- 172
    example (codes "<style\n  type=\"text/css\">\nh1 {color:red;}\n\np {color:blue;}\n</style>\n" ++ codes "okay\n")
    (at 0 0 68 body.HtmlBlock ∷ at 1 0 7 body.Html ∷ at 1 7 26 body.Html ∷ at 1 26 42 body.Html ∷
    at 1 42 43 body.Html ∷ at 1 43 59 body.Html ∷ at 1 59 68 body.Html ∷ at 0 68 73 body.Paragraph ∷
    at 1 68 72 (body.Text false) ∷ []) [] ∷
    -- 173
    example (codes "<style\n  type=\"text/css\">\n\nfoo\n") (at 0 0 31 body.HtmlBlock ∷ at 1 0 7 body.Html ∷
    at 1 7 26 body.Html ∷ at 1 26 27 body.Html ∷ at 1 27 31 body.Html ∷ []) [] ∷
    -- 174
    example (codes "> <div>\n> foo\n\nbar\n") (at 0 0 14 (body.BlockQuote None) ∷ at 1 2 14 body.HtmlBlock ∷
    at 2 2 8 body.Html ∷ at 2 10 14 body.Html ∷ at 0 15 19 body.Paragraph ∷ at 1 15 18 (body.Text false) ∷ []) [] ∷
    -- 175
    example (codes "- <div>\n- foo\n") (at 0 0 14 (body.List true 45 0) ∷ at 1 0 8 (body.ListItem 2) ∷
    at 2 2 8 body.HtmlBlock ∷ at 3 2 8 body.Html ∷ at 1 8 14 (body.ListItem 2) ∷ at 2 10 14 body.TightParagraph ∷
    at 3 10 13 (body.Text false) ∷ []) [] ∷
    -- 176
    example (codes "<style>p{color:red;}</style>\n*foo*\n") (at 0 0 29 body.HtmlBlock ∷ at 1 0 29 body.Html ∷
    at 0 29 35 body.Paragraph ∷ at 1 29 30 (body.MaybeEmphasis 1 true false) ∷ at 1 30 33 (body.Text false) ∷
    at 1 33 34 (body.MaybeEmphasis 1 false true) ∷ []) [] ∷
    -- 177
    example (codes "<!-- foo -->*bar*\n*baz*\n") (at 0 0 18 body.HtmlBlock ∷ at 1 0 18 body.Html ∷
    at 0 18 24 body.Paragraph ∷ at 1 18 19 (body.MaybeEmphasis 1 true false) ∷ at 1 19 22 (body.Text false) ∷
    at 1 22 23 (body.MaybeEmphasis 1 false true) ∷ []) [] ∷
    -- 178
    example (codes "<script>\nfoo\n</script>1. *bar*\n") (at 0 0 31 body.HtmlBlock ∷ at 1 0 9 body.Html ∷
    at 1 9 13 body.Html ∷ at 1 13 31 body.Html ∷ []) [] ∷
    -- 179
    example (codes "<!-- Foo\n\nbar\n   baz -->\nokay\n") (at 0 0 25 body.HtmlBlock ∷ at 1 0 9 body.Html ∷
    at 1 9 10 body.Html ∷ at 1 10 14 body.Html ∷ at 1 14 25 body.Html ∷ at 0 25 30 body.Paragraph ∷
    at 1 25 29 (body.Text false) ∷ []) [] ∷
    -- 180
    example (codes "<?php\n\n  echo '>';\n\n?>\nokay\n") (at 0 0 23 body.HtmlBlock ∷ at 1 0 6 body.Html ∷
    at 1 6 7 body.Html ∷ at 1 7 19 body.Html ∷ at 1 19 20 body.Html ∷ at 1 20 23 body.Html ∷
    at 0 23 28 body.Paragraph ∷ at 1 23 27 (body.Text false) ∷ []) [] ∷
    -- 181
    example (codes "<!DOCTYPE html>\n") (at 0 0 16 body.HtmlBlock ∷ at 1 0 16 body.Html ∷ []) [] ∷
    -- 182
    example (codes "<![CDATA[\nfunction matchwo(a,b)\n{\n  if (a < b && a < 0) then {\n" ++
    codes "    return 1;\n\n  } else {\n\n    return 0;\n  }\n}\n]]>\nokay\n") (at 0 0 114 body.HtmlBlock ∷
    at 1 0 10 body.Html ∷ at 1 10 32 body.Html ∷ at 1 32 34 body.Html ∷ at 1 34 63 body.Html ∷ at 1 63 77 body.Html ∷
    at 1 77 78 body.Html ∷ at 1 78 89 body.Html ∷ at 1 89 90 body.Html ∷ at 1 90 104 body.Html ∷
    at 1 104 108 body.Html ∷ at 1 108 110 body.Html ∷ at 1 110 114 body.Html ∷ at 0 114 119 body.Paragraph ∷
    at 1 114 118 (body.Text false) ∷ []) [] ∷
    -- 183
    example (codes "  <!-- foo -->\n\n    <!-- foo -->\n") (at 0 2 15 body.HtmlBlock ∷ at 1 0 15 body.Html ∷
    at 0 20 33 body.IndentCodeBlock ∷ at 1 20 33 (body.Text false) ∷ []) [] ∷
    -- 184
    example (codes "  <div>\n\n    <div>\n") (at 0 2 8 body.HtmlBlock ∷ at 1 0 8 body.Html ∷
    at 0 13 19 body.IndentCodeBlock ∷ at 1 13 19 (body.Text false) ∷ []) [] ∷
    -- 185
    example (codes "Foo\n<div>\nbar\n</div>\n") (at 0 0 4 body.Paragraph ∷ at 1 0 3 (body.Text false) ∷
    at 0 4 21 body.HtmlBlock ∷ at 1 4 10 body.Html ∷ at 1 10 14 body.Html ∷ at 1 14 21 body.Html ∷ []) [] ∷
    -- 186
    example (codes "<div>\nbar\n</div>\n*foo*\n") (at 0 0 23 body.HtmlBlock ∷ at 1 0 6 body.Html ∷
    at 1 6 10 body.Html ∷ at 1 10 17 body.Html ∷ at 1 17 23 body.Html ∷ []) [] ∷
    -- 187
    example (codes "Foo\n<a href=\"bar\">\nbaz\n") (at 0 0 23 body.Paragraph ∷ at 1 0 3 (body.Text false) ∷
    at 1 3 4 body.SoftBreak ∷ at 1 4 5 body.MaybeHtml ∷ at 1 5 18 (body.Text false) ∷ at 1 18 19 body.SoftBreak ∷
    at 1 19 22 (body.Text false) ∷ []) [] ∷
    -- 188
    example (codes "<div>\n\n*Emphasized* text.\n\n</div>\n") (at 0 0 6 body.HtmlBlock ∷ at 1 0 6 body.Html ∷
    at 0 7 26 body.Paragraph ∷ at 1 7 8 (body.MaybeEmphasis 1 true false) ∷ at 1 8 18 (body.Text false) ∷
    at 1 18 19 (body.MaybeEmphasis 1 false true) ∷ at 1 19 25 (body.Text false) ∷ at 0 27 34 body.HtmlBlock ∷
    at 1 27 34 body.Html ∷ []) [] ∷
    -- 189
    example (codes "<div>\n*Emphasized* text.\n</div>\n") (at 0 0 32 body.HtmlBlock ∷ at 1 0 6 body.Html ∷
    at 1 6 25 body.Html ∷ at 1 25 32 body.Html ∷ []) [] ∷
    -- 190
    example (codes "<table>\n\n<tr>\n\n<td>\nHi\n</td>\n\n</tr>\n\n</table>\n") (at 0 0 8 body.HtmlBlock ∷
    at 1 0 8 body.Html ∷ at 0 9 14 body.HtmlBlock ∷ at 1 9 14 body.Html ∷ at 0 15 29 body.HtmlBlock ∷
    at 1 15 20 body.Html ∷ at 1 20 23 body.Html ∷ at 1 23 29 body.Html ∷ at 0 30 36 body.HtmlBlock ∷
    at 1 30 36 body.Html ∷ at 0 37 46 body.HtmlBlock ∷ at 1 37 46 body.Html ∷ []) [] ∷
    -- 191
    example (codes "<table>\n\n  <tr>\n\n    <td>\n      Hi\n    </td>\n\n  </tr>\n\n</table>\n")
    (at 0 0 8 body.HtmlBlock ∷ at 1 0 8 body.Html ∷ at 0 11 16 body.HtmlBlock ∷ at 1 9 16 body.Html ∷
    at 0 21 45 body.IndentCodeBlock ∷ at 1 21 26 (body.Text false) ∷ at 1 30 35 (body.Text false) ∷
    at 1 39 45 (body.Text false) ∷ at 0 48 54 body.HtmlBlock ∷ at 1 46 54 body.Html ∷ at 0 55 64 body.HtmlBlock ∷
    at 1 55 64 body.Html ∷ []) [] ∷
    []
