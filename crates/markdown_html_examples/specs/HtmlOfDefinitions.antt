-- Examples in CommonMark with their HTML: Link reference definitions. Written by .ci/examples.
use Rattle.std.specs.Prelude.{List, [], ◌∷◌, ◌++◌, codes}
use Rattle.markdown_html_examples.specs.ExampleHtml.{HtmlExample, with_html}

unfoldable pub html_of_definitions : List HtmlExample
html_of_definitions =
    -- Link reference definitions
    -- 192
    with_html (codes "[foo]: /url \"title\"\n\n[foo]\n") (codes "<p><a href=\"/url\" title=\"title\">foo</a></p>\n") ∷
    -- 193
    with_html (codes "   [foo]: \n      /url  \n           'the title'  \n\n[foo]\n")
    (codes "<p><a href=\"/url\" title=\"the title\">foo</a></p>\n") ∷
    -- 194
    with_html (codes "[Foo*bar\\]]:my_(url) 'title (with parens)'\n\n[Foo*bar\\]]\n")
    (codes "<p><a href=\"my_(url)\" title=\"title (with parens)\">Foo*bar]</a></p>\n") ∷
    -- 195
    with_html (codes "[Foo bar]:\n<my url>\n'title'\n\n[Foo bar]\n")
    (codes "<p><a href=\"my%20url\" title=\"title\">Foo bar</a></p>\n") ∷
    -- 196
    with_html (codes "[foo]: /url '\ntitle\nline1\nline2\n'\n\n[foo]\n")
    (codes "<p><a href=\"/url\" title=\"\ntitle\nline1\nline2\n\">foo</a></p>\n") ∷
    -- 197
    with_html (codes "[foo]: /url 'title\n\nwith blank line'\n\n[foo]\n")
    (codes "<p>[foo]: /url 'title</p>\n<p>with blank line'</p>\n<p>[foo]</p>\n") ∷
    -- 198
    with_html (codes "[foo]:\n/url\n\n[foo]\n") (codes "<p><a href=\"/url\">foo</a></p>\n") ∷
    -- 199
    with_html (codes "[foo]:\n\n[foo]\n") (codes "<p>[foo]:</p>\n<p>[foo]</p>\n") ∷
    -- 200
    with_html (codes "[foo]: <>\n\n[foo]\n") (codes "<p><a href=\"\">foo</a></p>\n") ∷
    -- 201
    with_html (codes "[foo]: <bar>(baz)\n\n[foo]\n") (codes "<p>[foo]: <bar>(baz)</p>\n<p>[foo]</p>\n") ∷
    -- 202
    with_html (codes "[foo]: /url\\bar\\*baz \"foo\\\"bar\\baz\"\n\n[foo]\n")
    (codes "<p><a href=\"/url%5Cbar*baz\" title=\"foo&quot;bar\\baz\">foo</a></p>\n") ∷
    -- 203
    with_html (codes "[foo]\n\n[foo]: url\n") (codes "<p><a href=\"url\">foo</a></p>\n") ∷
    -- 204
    with_html (codes "[foo]\n\n[foo]: first\n[foo]: second\n") (codes "<p><a href=\"first\">foo</a></p>\n") ∷
    -- 205
    with_html (codes "[FOO]: /url\n\n[Foo]\n") (codes "<p><a href=\"/url\">Foo</a></p>\n") ∷
    -- 206
    with_html (codes "[" ++ (206 ∷ 145 ∷ 206 ∷ 147 ∷ 206 ∷ 169 ∷ []) ++ codes "]: /" ++ (207 ∷ 134 ∷ 206 ∷ 191 ∷ 207 ∷
    133 ∷ []) ++ codes "\n\n[" ++ (206 ∷ 177 ∷ 206 ∷ 179 ∷ 207 ∷ 137 ∷ []) ++ codes "]\n")
    (codes "<p><a href=\"/%CF%86%CE%BF%CF%85\">" ++ (206 ∷ 177 ∷ 206 ∷ 179 ∷ 207 ∷ 137 ∷ []) ++ codes "</a></p>\n") ∷
    -- 207
    with_html (codes "[foo]: /url\n") (codes "") ∷
    -- 208
    with_html (codes "[\nfoo\n]: /url\nbar\n") (codes "<p>bar</p>\n") ∷
    -- 209
    with_html (codes "[foo]: /url \"title\" ok\n") (codes "<p>[foo]: /url \"title\" ok</p>\n") ∷
    -- 210
    with_html (codes "[foo]: /url\n\"title\" ok\n") (codes "<p>\"title\" ok</p>\n") ∷
    -- 211
    with_html (codes "    [foo]: /url \"title\"\n\n[foo]\n")
    (codes "<pre><code>[foo]: /url \"title\"\n</code></pre>\n<p>[foo]</p>\n") ∷
    -- 212
    with_html (codes "```\n[foo]: /url\n```\n\n[foo]\n")
    (codes "<pre><code>[foo]: /url\n</code></pre>\n<p>[foo]</p>\n") ∷
    -- 213
    with_html (codes "Foo\n[bar]: /baz\n\n[bar]\n") (codes "<p>Foo\n[bar]: /baz</p>\n<p>[bar]</p>\n") ∷
    -- 214
    with_html (codes "# [Foo]\n[foo]: /url\n> bar\n")
    (codes "<h1><a href=\"/url\">Foo</a></h1>\n<blockquote>\n<p>bar</p>\n</blockquote>\n") ∷
    -- 215
    with_html (codes "[foo]: /url\nbar\n===\n[foo]\n") (codes "<h1>bar</h1>\n<p><a href=\"/url\">foo</a></p>\n") ∷
    -- 216
    with_html (codes "[foo]: /url\n===\n[foo]\n") (codes "<p>===\n<a href=\"/url\">foo</a></p>\n") ∷
    -- 217
    with_html (codes "[foo]: /foo-url \"foo\"\n[bar]: /bar-url\n  \"bar\"\n[baz]: /baz-url\n\n[foo],\n" ++
    codes "[bar],\n[baz]\n") (codes "<p><a href=\"/foo-url\" title=\"foo\">foo</a>,\n" ++
    codes "<a href=\"/bar-url\" title=\"bar\">bar</a>,\n<a href=\"/baz-url\">baz</a></p>\n") ∷
    -- 218
    with_html (codes "[foo]\n\n> [foo]: /url\n")
    (codes "<p><a href=\"/url\">foo</a></p>\n<blockquote>\n</blockquote>\n") ∷
    []
