-- Examples in CommonMark with their HTML: Thematic breaks, ATX headings and Setext headings. Written by .ci/examples.
use Rattle.std.specs.Prelude.{List, [], ◌∷◌, ◌++◌, codes}
use Rattle.markdown_html_examples.specs.ExampleHtml.{HtmlExample, with_html}

unfoldable pub html_of_headings : List HtmlExample
html_of_headings =
    -- Thematic breaks
    -- 43
    with_html (codes "***\n---\n___\n") (codes "<hr />\n<hr />\n<hr />\n") ∷
    -- 44
    with_html (codes "+++\n") (codes "<p>+++</p>\n") ∷
    -- 45
    with_html (codes "===\n") (codes "<p>===</p>\n") ∷
    -- 46
    with_html (codes "--\n**\n__\n") (codes "<p>--\n**\n__</p>\n") ∷
    -- 47
    with_html (codes " ***\n  ***\n   ***\n") (codes "<hr />\n<hr />\n<hr />\n") ∷
    -- 48
    with_html (codes "    ***\n") (codes "<pre><code>***\n</code></pre>\n") ∷
    -- 49
    with_html (codes "Foo\n    ***\n") (codes "<p>Foo\n***</p>\n") ∷
    -- 50
    with_html (codes "_____________________________________\n") (codes "<hr />\n") ∷
    -- 51
    with_html (codes " - - -\n") (codes "<hr />\n") ∷
    -- 52
    with_html (codes " **  * ** * ** * **\n") (codes "<hr />\n") ∷
    -- 53
    with_html (codes "-     -      -      -\n") (codes "<hr />\n") ∷
    -- 54
    with_html (codes "- - - -    \n") (codes "<hr />\n") ∷
    -- 55
    with_html (codes "_ _ _ _ a\n\na------\n\n---a---\n") (codes "<p>_ _ _ _ a</p>\n<p>a------</p>\n<p>---a---</p>\n")
    ∷
    -- 56
    with_html (codes " *-*\n") (codes "<p><em>-</em></p>\n") ∷
    -- 57
    with_html (codes "- foo\n***\n- bar\n") (codes "<ul>\n<li>foo</li>\n</ul>\n<hr />\n<ul>\n<li>bar</li>\n</ul>\n") ∷
    -- 58
    with_html (codes "Foo\n***\nbar\n") (codes "<p>Foo</p>\n<hr />\n<p>bar</p>\n") ∷
    -- 59
    with_html (codes "Foo\n---\nbar\n") (codes "<h2>Foo</h2>\n<p>bar</p>\n") ∷
    -- 60
    with_html (codes "* Foo\n* * *\n* Bar\n") (codes "<ul>\n<li>Foo</li>\n</ul>\n<hr />\n<ul>\n<li>Bar</li>\n</ul>\n")
    ∷
    -- 61
    with_html (codes "- Foo\n- * * *\n") (codes "<ul>\n<li>Foo</li>\n<li>\n<hr />\n</li>\n</ul>\n") ∷
    -- ATX headings
    -- 62
    with_html (codes "# foo\n## foo\n### foo\n#### foo\n##### foo\n###### foo\n")
    (codes "<h1>foo</h1>\n<h2>foo</h2>\n<h3>foo</h3>\n<h4>foo</h4>\n<h5>foo</h5>\n" ++ codes "<h6>foo</h6>\n") ∷
    -- 63
    with_html (codes "####### foo\n") (codes "<p>####### foo</p>\n") ∷
    -- 64
    with_html (codes "#5 bolt\n\n#hashtag\n") (codes "<p>#5 bolt</p>\n<p>#hashtag</p>\n") ∷
    -- 65
    with_html (codes "\\## foo\n") (codes "<p>## foo</p>\n") ∷
    -- 66
    with_html (codes "# foo *bar* \\*baz\\*\n") (codes "<h1>foo <em>bar</em> *baz*</h1>\n") ∷
    -- 67
    with_html (codes "#                  foo                     \n") (codes "<h1>foo</h1>\n") ∷
    -- 68
    with_html (codes " ### foo\n  ## foo\n   # foo\n") (codes "<h3>foo</h3>\n<h2>foo</h2>\n<h1>foo</h1>\n") ∷
    -- 69
    with_html (codes "    # foo\n") (codes "<pre><code># foo\n</code></pre>\n") ∷
    -- 70
    with_html (codes "foo\n    # bar\n") (codes "<p>foo\n# bar</p>\n") ∷
    -- 71
    with_html (codes "## foo ##\n  ###   bar    ###\n") (codes "<h2>foo</h2>\n<h3>bar</h3>\n") ∷
    -- 72
    with_html (codes "# foo ##################################\n##### foo ##\n")
    (codes "<h1>foo</h1>\n<h5>foo</h5>\n") ∷
    -- 73
    with_html (codes "### foo ###     \n") (codes "<h3>foo</h3>\n") ∷
    -- 74
    with_html (codes "### foo ### b\n") (codes "<h3>foo ### b</h3>\n") ∷
    -- 75
    with_html (codes "# foo#\n") (codes "<h1>foo#</h1>\n") ∷
    -- 76
    with_html (codes "### foo \\###\n## foo #\\##\n# foo \\#\n")
    (codes "<h3>foo ###</h3>\n<h2>foo ###</h2>\n<h1>foo #</h1>\n") ∷
    -- 77
    with_html (codes "****\n## foo\n****\n") (codes "<hr />\n<h2>foo</h2>\n<hr />\n") ∷
    -- 78
    with_html (codes "Foo bar\n# baz\nBar foo\n") (codes "<p>Foo bar</p>\n<h1>baz</h1>\n<p>Bar foo</p>\n") ∷
    -- 79
    with_html (codes "## \n#\n### ###\n") (codes "<h2></h2>\n<h1></h1>\n<h3></h3>\n") ∷
    -- Setext headings
    -- 80
    with_html (codes "Foo *bar*\n=========\n\nFoo *bar*\n---------\n")
    (codes "<h1>Foo <em>bar</em></h1>\n<h2>Foo <em>bar</em></h2>\n") ∷
    -- 81
    with_html (codes "Foo *bar\nbaz*\n====\n") (codes "<h1>Foo <em>bar\nbaz</em></h1>\n") ∷
    -- 82
    with_html (codes "  Foo *bar\nbaz*\t\n====\n") (codes "<h1>Foo <em>bar\nbaz</em></h1>\n") ∷
    -- 83
    with_html (codes "Foo\n-------------------------\n\nFoo\n=\n") (codes "<h2>Foo</h2>\n<h1>Foo</h1>\n") ∷
    -- 84
    with_html (codes "   Foo\n---\n\n  Foo\n-----\n\n  Foo\n  ===\n")
    (codes "<h2>Foo</h2>\n<h2>Foo</h2>\n<h1>Foo</h1>\n") ∷
    -- 85
    with_html (codes "    Foo\n    ---\n\n    Foo\n---\n")
    (codes "<pre><code>Foo\n---\n\nFoo\n</code></pre>\n<hr />\n") ∷
    -- 86
    with_html (codes "Foo\n   ----      \n") (codes "<h2>Foo</h2>\n") ∷
    -- 87
    with_html (codes "Foo\n    ---\n") (codes "<p>Foo\n---</p>\n") ∷
    -- 88
    with_html (codes "Foo\n= =\n\nFoo\n--- -\n") (codes "<p>Foo\n= =</p>\n<p>Foo</p>\n<hr />\n") ∷
    -- 89
    with_html (codes "Foo  \n-----\n") (codes "<h2>Foo</h2>\n") ∷
    -- 90
    with_html (codes "Foo\\\n----\n") (codes "<h2>Foo\\</h2>\n") ∷
    -- 91
    with_html (codes "`Foo\n----\n`\n\n<a title=\"a lot\n---\nof dashes\"/>\n")
    (codes "<h2>`Foo</h2>\n<p>`</p>\n<h2>&lt;a title=\"a lot</h2>\n<p>of dashes\"/&gt;</p>\n") ∷
    -- 92
    with_html (codes "> Foo\n---\n") (codes "<blockquote>\n<p>Foo</p>\n</blockquote>\n<hr />\n") ∷
    -- 93
    with_html (codes "> foo\nbar\n===\n") (codes "<blockquote>\n<p>foo\nbar\n===</p>\n</blockquote>\n") ∷
    -- 94
    with_html (codes "- Foo\n---\n") (codes "<ul>\n<li>Foo</li>\n</ul>\n<hr />\n") ∷
    -- 95
    with_html (codes "Foo\nBar\n---\n") (codes "<h2>Foo\nBar</h2>\n") ∷
    -- 96
    with_html (codes "---\nFoo\n---\nBar\n---\nBaz\n") (codes "<hr />\n<h2>Foo</h2>\n<h2>Bar</h2>\n<p>Baz</p>\n") ∷
    -- 97
    with_html (codes "\n====\n") (codes "<p>====</p>\n") ∷
    -- 98
    with_html (codes "---\n---\n") (codes "<hr />\n<hr />\n") ∷
    -- 99
    with_html (codes "- foo\n-----\n") (codes "<ul>\n<li>foo</li>\n</ul>\n<hr />\n") ∷
    -- 100
    with_html (codes "    foo\n---\n") (codes "<pre><code>foo\n</code></pre>\n<hr />\n") ∷
    -- 101
    with_html (codes "> foo\n-----\n") (codes "<blockquote>\n<p>foo</p>\n</blockquote>\n<hr />\n") ∷
    -- 102
    with_html (codes "\\> foo\n------\n") (codes "<h2>&gt; foo</h2>\n") ∷
    -- 103
    with_html (codes "Foo\n\nbar\n---\nbaz\n") (codes "<p>Foo</p>\n<h2>bar</h2>\n<p>baz</p>\n") ∷
    -- 104
    with_html (codes "Foo\nbar\n\n---\n\nbaz\n") (codes "<p>Foo\nbar</p>\n<hr />\n<p>baz</p>\n") ∷
    -- 105
    with_html (codes "Foo\nbar\n* * *\nbaz\n") (codes "<p>Foo\nbar</p>\n<hr />\n<p>baz</p>\n") ∷
    -- 106
    with_html (codes "Foo\nbar\n\\---\nbaz\n") (codes "<p>Foo\nbar\n---\nbaz</p>\n") ∷
    []
