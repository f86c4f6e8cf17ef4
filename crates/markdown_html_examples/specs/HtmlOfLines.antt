-- Examples in CommonMark with their HTML: Tabs, Backslash escapes, Entities, Precedence, Paragraphs and Blank lines.
-- Written by .ci/examples.
use Rattle.std.specs.Prelude.{List, [], ◌∷◌, ◌++◌, codes}
use Rattle.markdown_html_examples.specs.ExampleHtml.{HtmlExample, with_html}

unfoldable pub html_of_lines : List HtmlExample
html_of_lines =
    -- Tabs
    -- 1
    with_html (codes "\tfoo\tbaz\t\tbim\n") (codes "<pre><code>foo\tbaz\t\tbim\n</code></pre>\n") ∷
    -- 2
    with_html (codes "  \tfoo\tbaz\t\tbim\n") (codes "<pre><code>foo\tbaz\t\tbim\n</code></pre>\n") ∷
    -- 3
    with_html (codes "    a\ta\n    " ++ (225 ∷ 189 ∷ 144 ∷ []) ++ codes "\ta\n") (codes "<pre><code>a\ta\n" ++ (225 ∷
    189 ∷ 144 ∷ []) ++ codes "\ta\n</code></pre>\n") ∷
    -- 4
    with_html (codes "  - foo\n\n\tbar\n") (codes "<ul>\n<li>\n<p>foo</p>\n<p>bar</p>\n</li>\n</ul>\n") ∷
    -- 5
    with_html (codes "- foo\n\n\t\tbar\n")
    (codes "<ul>\n<li>\n<p>foo</p>\n<pre><code>  bar\n</code></pre>\n</li>\n</ul>\n") ∷
    -- 6
    with_html (codes ">\t\tfoo\n") (codes "<blockquote>\n<pre><code>  foo\n</code></pre>\n</blockquote>\n") ∷
    -- 7
    with_html (codes "-\t\tfoo\n") (codes "<ul>\n<li>\n<pre><code>  foo\n</code></pre>\n</li>\n</ul>\n") ∷
    -- 8
    with_html (codes "    foo\n\tbar\n") (codes "<pre><code>foo\nbar\n</code></pre>\n") ∷
    -- 9
    with_html (codes " - foo\n   - bar\n\t - baz\n")
    (codes "<ul>\n<li>foo\n<ul>\n<li>bar\n<ul>\n<li>baz</li>\n</ul>\n</li>\n</ul>\n</li>\n" ++ codes "</ul>\n") ∷
    -- 10
    with_html (codes "#\tFoo\n") (codes "<h1>Foo</h1>\n") ∷
    -- 11
    with_html (codes "*\t*\t*\t\n") (codes "<hr />\n") ∷
    -- Backslash escapes
    -- 12
    with_html
    (codes "\\!\\\"\\#\\$\\%\\&\\'\\(\\)\\*\\+\\,\\-\\.\\/\\:\\;\\<\\=\\>\\?\\@\\[\\\\\\]\\^\\_\\`\\{\\|\\}\\~\n")
    (codes "<p>!\"#$%&amp;'()*+,-./:;&lt;=&gt;?@[\\]^_`{|}~</p>\n") ∷
    -- 13
    with_html (codes "\\\t\\A\\a\\ \\3\\" ++ (207 ∷ 134 ∷ []) ++ codes "\\" ++ (194 ∷ 171 ∷ []) ++ codes "\n")
    (codes "<p>\\\t\\A\\a\\ \\3\\" ++ (207 ∷ 134 ∷ []) ++ codes "\\" ++ (194 ∷ 171 ∷ []) ++ codes "</p>\n") ∷
    -- 14
    with_html (codes "\\*not emphasized*\n\\<br/> not a tag\n\\[not a link](/foo)\n\\`not code`\n" ++
    codes "1\\. not a list\n\\* not a list\n\\# not a heading\n" ++
    codes "\\[foo]: /url \"not a reference\"\n\\&ouml; not a character entity\n")
    (codes "<p>*not emphasized*\n&lt;br/&gt; not a tag\n[not a link](/foo)\n`not code`\n" ++
    codes "1. not a list\n* not a list\n# not a heading\n[foo]: /url \"not a reference\"\n" ++
    codes "&amp;ouml; not a character entity</p>\n") ∷
    -- 15
    with_html (codes "\\\\*emphasis*\n") (codes "<p>\\<em>emphasis</em></p>\n") ∷
    -- 16
    with_html (codes "foo\\\nbar\n") (codes "<p>foo<br />\nbar</p>\n") ∷
    -- 17
    with_html (codes "`` \\[\\` ``\n") (codes "<p><code>\\[\\`</code></p>\n") ∷
    -- 18
    with_html (codes "    \\[\\]\n") (codes "<pre><code>\\[\\]\n</code></pre>\n") ∷
    -- 19
    with_html (codes "~~~\n\\[\\]\n~~~\n") (codes "<pre><code>\\[\\]\n</code></pre>\n") ∷
    -- 20
    with_html (codes "<http://example.com?find=\\*>\n")
    (codes "<p><a href=\"http://example.com?find=%5C*\">http://example.com?find=\\*</a></p>\n") ∷
    -- 21
    with_html (codes "<a href=\"/bar\\/)\">\n") (codes "<a href=\"/bar\\/)\">\n") ∷
    -- 23
    with_html (codes "[foo]\n\n[foo]: /bar\\* \"ti\\*tle\"\n")
    (codes "<p><a href=\"/bar*\" title=\"ti*tle\">foo</a></p>\n") ∷
    -- 24
    with_html (codes "``` foo\\+bar\nfoo\n```\n") (codes "<pre><code class=\"language-foo+bar\">foo\n</code></pre>\n")
    ∷
    -- Entities
    -- 25
    with_html (codes "&nbsp; &amp; &copy; &AElig; &Dcaron;\n&frac34; &HilbertSpace; &DifferentialD;\n" ++
    codes "&ClockwiseContourIntegral; &ngE;\n") (codes "<p>&amp;nbsp; &amp; &amp;copy; &amp;AElig; &amp;Dcaron;\n" ++
    codes "&amp;frac34; &amp;HilbertSpace; &amp;DifferentialD;\n" ++
    codes "&amp;ClockwiseContourIntegral; &amp;ngE;</p>\n") ∷
    -- 26
    with_html (codes "&#35; &#1234; &#992; &#0;\n") (codes "<p># " ++ (211 ∷ 146 ∷ []) ++ codes " " ++ (207 ∷ 160 ∷
    []) ++ codes " " ++ (239 ∷ 191 ∷ 189 ∷ []) ++ codes "</p>\n") ∷
    -- 27
    with_html (codes "&#X22; &#XD06; &#xcab;\n") (codes "<p>\" " ++ (224 ∷ 180 ∷ 134 ∷ []) ++ codes " " ++ (224 ∷
    178 ∷ 171 ∷ []) ++ codes "</p>\n") ∷
    -- 28
    with_html (codes "&nbsp &x; &#; &#x;\n&#87654321;\n&#abcdef0;\n&ThisIsNotDefined; &hi?;\n")
    (codes "<p>&amp;nbsp &amp;x; &amp;#; &amp;#x;\n&amp;#87654321;\n&amp;#abcdef0;\n" ++
    codes "&amp;ThisIsNotDefined; &amp;hi?;</p>\n") ∷
    -- 29
    with_html (codes "&copy\n") (codes "<p>&amp;copy</p>\n") ∷
    -- 30
    with_html (codes "&MadeUpEntity;\n") (codes "<p>&amp;MadeUpEntity;</p>\n") ∷
    -- 31
    with_html (codes "<a href=\"&ouml;&ouml;.html\">\n") (codes "<a href=\"&ouml;&ouml;.html\">\n") ∷
    -- 33
    with_html (codes "[foo]\n\n[foo]: /f&ouml;&ouml; \"f&ouml;&ouml;\"\n")
    (codes "<p><a href=\"/f&amp;ouml;&amp;ouml;\" title=\"f&amp;ouml;&amp;ouml;\">foo</a></p>\n") ∷
    -- 34
    with_html (codes "``` f&ouml;&ouml;\nfoo\n```\n")
    (codes "<pre><code class=\"language-f&amp;ouml;&amp;ouml;\">foo\n</code></pre>\n") ∷
    -- 35
    with_html (codes "`f&ouml;&ouml;`\n") (codes "<p><code>f&amp;ouml;&amp;ouml;</code></p>\n") ∷
    -- 36
    with_html (codes "    f&ouml;f&ouml;\n") (codes "<pre><code>f&amp;ouml;f&amp;ouml;\n</code></pre>\n") ∷
    -- 37
    with_html (codes "&#42;foo&#42;\n*foo*\n") (codes "<p>*foo*\n<em>foo</em></p>\n") ∷
    -- 38
    with_html (codes "&#42; foo\n\n* foo\n") (codes "<p>* foo</p>\n<ul>\n<li>foo</li>\n</ul>\n") ∷
    -- 39
    with_html (codes "foo&#10;&#10;bar\n") (codes "<p>foo\n\nbar</p>\n") ∷
    -- 40
    with_html (codes "&#9;foo\n") (codes "<p>\tfoo</p>\n") ∷
    -- 41
    with_html (codes "[a](url &quot;tit&quot;)\n") (codes "<p>[a](url \"tit\")</p>\n") ∷
    -- Precedence
    -- 42
    with_html (codes "- `one\n- two`\n") (codes "<ul>\n<li>`one</li>\n<li>two`</li>\n</ul>\n") ∷
    -- Paragraphs
    -- 219
    with_html (codes "aaa\n\nbbb\n") (codes "<p>aaa</p>\n<p>bbb</p>\n") ∷
    -- 220
    with_html (codes "aaa\nbbb\n\nccc\nddd\n") (codes "<p>aaa\nbbb</p>\n<p>ccc\nddd</p>\n") ∷
    -- 221
    with_html (codes "aaa\n\n\nbbb\n") (codes "<p>aaa</p>\n<p>bbb</p>\n") ∷
    -- 222
    with_html (codes "  aaa\n bbb\n") (codes "<p>aaa\nbbb</p>\n") ∷
    -- 223
    with_html (codes "aaa\n             bbb\n                                       ccc\n")
    (codes "<p>aaa\nbbb\nccc</p>\n") ∷
    -- 224
    with_html (codes "   aaa\nbbb\n") (codes "<p>aaa\nbbb</p>\n") ∷
    -- 225
    with_html (codes "    aaa\nbbb\n") (codes "<pre><code>aaa\n</code></pre>\n<p>bbb</p>\n") ∷
    -- 226
    with_html (codes "aaa     \nbbb     \n") (codes "<p>aaa<br />\nbbb</p>\n") ∷
    -- Blank lines
    -- 227
    with_html (codes "  \n\naaa\n  \n\n# aaa\n\n  \n") (codes "<p>aaa</p>\n<h1>aaa</h1>\n") ∷
    []
