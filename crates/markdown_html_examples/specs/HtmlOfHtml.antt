-- Examples in CommonMark with their HTML: HTML blocks. Written by .ci/examples.
use Rattle.std.specs.Prelude.{List, [], ◌∷◌, ◌++◌, codes}
use Rattle.markdown_html_examples.specs.ExampleHtml.{HtmlExample, with_html}

unfoldable pub html_of_html : List HtmlExample
html_of_html =
    -- HTML blocks
    -- 148
    with_html (codes "<table><tr><td>\n<pre>\n**Hello**,\n\n_world_.\n</pre>\n</td></tr></table>\n")
    (codes "<table><tr><td>\n<pre>\n**Hello**,\n<p><em>world</em>.\n</pre></p>\n" ++ codes "</td></tr></table>\n") ∷
    -- 149
    with_html (codes "<table>\n  <tr>\n    <td>\n           hi\n    </td>\n  </tr>\n</table>\n\n" ++ codes "okay.\n")
    (codes "<table>\n  <tr>\n    <td>\n           hi\n    </td>\n  </tr>\n</table>\n" ++ codes "<p>okay.</p>\n") ∷
    -- 150
    with_html (codes " <div>\n  *hello*\n         <foo><a>\n") (codes " <div>\n  *hello*\n         <foo><a>\n") ∷
    -- 151
    with_html (codes "</div>\n*foo*\n") (codes "</div>\n*foo*\n") ∷
    -- 152
    with_html (codes "<DIV CLASS=\"foo\">\n\n*Markdown*\n\n</DIV>\n")
    (codes "<DIV CLASS=\"foo\">\n<p><em>Markdown</em></p>\n</DIV>\n") ∷
    -- 153
    with_html (codes "<div id=\"foo\"\n  class=\"bar\">\n</div>\n")
    (codes "<div id=\"foo\"\n  class=\"bar\">\n</div>\n") ∷
    -- 154
    with_html (codes "<div id=\"foo\" class=\"bar\n  baz\">\n</div>\n")
    (codes "<div id=\"foo\" class=\"bar\n  baz\">\n</div>\n") ∷
    -- 155
    with_html (codes "<div>\n*foo*\n\n*bar*\n") (codes "<div>\n*foo*\n<p><em>bar</em></p>\n") ∷
    -- 156
    with_html (codes "<div id=\"foo\"\n*hi*\n") (codes "<div id=\"foo\"\n*hi*\n") ∷
    -- 157
    with_html (codes "<div class\nfoo\n") (codes "<div class\nfoo\n") ∷
    -- 158
    with_html (codes "<div *???-&&&-<---\n*foo*\n") (codes "<div *???-&&&-<---\n*foo*\n") ∷
    -- 159
    with_html (codes "<div><a href=\"bar\">*foo*</a></div>\n") (codes "<div><a href=\"bar\">*foo*</a></div>\n") ∷
    -- 160
    with_html (codes "<table><tr><td>\nfoo\n</td></tr></table>\n")
    (codes "<table><tr><td>\nfoo\n</td></tr></table>\n") ∷
    -- 161
    with_html (codes "<div></div>\n``` c\nint x = 33;\n```\n") (codes "<div></div>\n``` c\nint x = 33;\n```\n") ∷
    -- 162
    with_html (codes "<a href=\"foo\">\n*bar*\n</a>\n") (codes "<a href=\"foo\">\n*bar*\n</a>\n") ∷
    -- 163
    with_html (codes "<Warning>\n*bar*\n</Warning>\n") (codes "<Warning>\n*bar*\n</Warning>\n") ∷
    -- 164
    with_html (codes "<i class=\"foo\">\n*bar*\n</i>\n") (codes "<i class=\"foo\">\n*bar*\n</i>\n") ∷
    -- 165
    with_html (codes "</ins>\n*bar*\n") (codes "</ins>\n*bar*\n") ∷
    -- 166
    with_html (codes "<del>\n*foo*\n</del>\n") (codes "<del>\n*foo*\n</del>\n") ∷
    -- 167
    with_html (codes "<del>\n\n*foo*\n\n</del>\n") (codes "<del>\n<p><em>foo</em></p>\n</del>\n") ∷
    -- 168
    with_html (codes "<del>*foo*</del>\n") (codes "<p><del><em>foo</em></del></p>\n") ∷
    -- 169
    with_html (codes "<pre language=\"haskell\"><code>\nimport Text.HTML.TagSoup\n\nmain :: IO ()\n" ++
    codes "main = print $ parseTags tags\n</code></pre>\nokay\n")
    (codes "<pre language=\"haskell\"><code>\nimport Text.HTML.TagSoup\n\nmain :: IO ()\n" ++
    codes "main = print $ parseTags tags\n</code></pre>\n<p>okay</p>\n") ∷
    -- 170
    with_html (codes "<script type=\"text/javascript\">\n// JavaScript example\n\n" ++
    codes "document.getElementById(\"demo\").innerHTML = \"Hello JavaScript!\";\n" ++ codes "</script>\nokay\n")
    (codes "<script type=\"text/javascript\">\n// JavaScript example\n\n" ++
    codes "document.getElementById(\"demo\").innerHTML = \"Hello JavaScript!\";\n" ++
    codes "</script>\n<p>okay</p>\n") ∷
    -- 171
    with_html (codes "<textarea>\n\n*foo*\n\n_bar_\n\n</textarea>\n")
    (codes "<textarea>\n\n*foo*\n\n_bar_\n\n</textarea>\n") ∷
    -- 172
    with_html (codes "<style\n  type=\"text/css\">\nh1 {color:red;}\n\np {color:blue;}\n</style>\n" ++ codes "okay\n")
    (codes "<style\n  type=\"text/css\">\nh1 {color:red;}\n\np {color:blue;}\n</style>\n" ++ codes "<p>okay</p>\n") ∷
    -- 173
    with_html (codes "<style\n  type=\"text/css\">\n\nfoo\n") (codes "<style\n  type=\"text/css\">\n\nfoo\n") ∷
    -- 174
    with_html (codes "> <div>\n> foo\n\nbar\n") (codes "<blockquote>\n<div>\nfoo\n</blockquote>\n<p>bar</p>\n") ∷
    -- 175
    with_html (codes "- <div>\n- foo\n") (codes "<ul>\n<li><div>\n</li>\n<li>foo</li>\n</ul>\n") ∷
    -- 176
    with_html (codes "<style>p{color:red;}</style>\n*foo*\n")
    (codes "<style>p{color:red;}</style>\n<p><em>foo</em></p>\n") ∷
    -- 177
    with_html (codes "<!-- foo -->*bar*\n*baz*\n") (codes "<!-- foo -->*bar*\n<p><em>baz</em></p>\n") ∷
    -- 178
    with_html (codes "<script>\nfoo\n</script>1. *bar*\n") (codes "<script>\nfoo\n</script>1. *bar*\n") ∷
    -- 179
    with_html (codes "<!-- Foo\n\nbar\n   baz -->\nokay\n") (codes "<!-- Foo\n\nbar\n   baz -->\n<p>okay</p>\n") ∷
    -- 180
    with_html (codes "<?php\n\n  echo '>';\n\n?>\nokay\n") (codes "<?php\n\n  echo '>';\n\n?>\n<p>okay</p>\n") ∷
    -- 181
    with_html (codes "<!DOCTYPE html>\n") (codes "<!DOCTYPE html>\n") ∷
    -- 182
    with_html (codes "<![CDATA[\nfunction matchwo(a,b)\n{\n  if (a < b && a < 0) then {\n" ++
    codes "    return 1;\n\n  } else {\n\n    return 0;\n  }\n}\n]]>\nokay\n")
    (codes "<![CDATA[\nfunction matchwo(a,b)\n{\n  if (a < b && a < 0) then {\n" ++
    codes "    return 1;\n\n  } else {\n\n    return 0;\n  }\n}\n]]>\n<p>okay</p>\n") ∷
    -- 183
    with_html (codes "  <!-- foo -->\n\n    <!-- foo -->\n")
    (codes "  <!-- foo -->\n<pre><code>&lt;!-- foo --&gt;\n</code></pre>\n") ∷
    -- 184
    with_html (codes "  <div>\n\n    <div>\n") (codes "  <div>\n<pre><code>&lt;div&gt;\n</code></pre>\n") ∷
    -- 185
    with_html (codes "Foo\n<div>\nbar\n</div>\n") (codes "<p>Foo</p>\n<div>\nbar\n</div>\n") ∷
    -- 186
    with_html (codes "<div>\nbar\n</div>\n*foo*\n") (codes "<div>\nbar\n</div>\n*foo*\n") ∷
    -- 187
    with_html (codes "Foo\n<a href=\"bar\">\nbaz\n") (codes "<p>Foo\n<a href=\"bar\">\nbaz</p>\n") ∷
    -- 188
    with_html (codes "<div>\n\n*Emphasized* text.\n\n</div>\n")
    (codes "<div>\n<p><em>Emphasized</em> text.</p>\n</div>\n") ∷
    -- 189
    with_html (codes "<div>\n*Emphasized* text.\n</div>\n") (codes "<div>\n*Emphasized* text.\n</div>\n") ∷
    -- 190
    with_html (codes "<table>\n\n<tr>\n\n<td>\nHi\n</td>\n\n</tr>\n\n</table>\n")
    (codes "<table>\n<tr>\n<td>\nHi\n</td>\n</tr>\n</table>\n") ∷
    -- 191
    with_html (codes "<table>\n\n  <tr>\n\n    <td>\n      Hi\n    </td>\n\n  </tr>\n\n</table>\n")
    (codes "<table>\n  <tr>\n<pre><code>&lt;td&gt;\n  Hi\n&lt;/td&gt;\n</code></pre>\n" ++
    codes "  </tr>\n</table>\n") ∷
    []
