-- Examples in CommonMark with their HTML: Indented code and Fenced code. Written by .ci/examples.
use Rattle.std.specs.Prelude.{List, [], ◌∷◌, ◌++◌, codes}
use Rattle.markdown_html_examples.specs.ExampleHtml.{HtmlExample, with_html}

unfoldable pub html_of_code : List HtmlExample
html_of_code =
    -- Indented code
    -- 107
    with_html (codes "    a simple\n      indented code block\n")
    (codes "<pre><code>a simple\n  indented code block\n</code></pre>\n") ∷
    -- 108
    with_html (codes "  - foo\n\n    bar\n") (codes "<ul>\n<li>\n<p>foo</p>\n<p>bar</p>\n</li>\n</ul>\n") ∷
    -- 109
    with_html (codes "1.  foo\n\n    - bar\n")
    (codes "<ol>\n<li>\n<p>foo</p>\n<ul>\n<li>bar</li>\n</ul>\n</li>\n</ol>\n") ∷
    -- 110
    with_html (codes "    <a/>\n    *hi*\n\n    - one\n")
    (codes "<pre><code>&lt;a/&gt;\n*hi*\n\n- one\n</code></pre>\n") ∷
    -- 111
    with_html (codes "    chunk1\n\n    chunk2\n  \n \n \n    chunk3\n")
    (codes "<pre><code>chunk1\n\nchunk2\n\n\n\nchunk3\n</code></pre>\n") ∷
    -- 112
    with_html (codes "    chunk1\n      \n      chunk2\n") (codes "<pre><code>chunk1\n  \n  chunk2\n</code></pre>\n")
    ∷
    -- 113
    with_html (codes "Foo\n    bar\n\n") (codes "<p>Foo\nbar</p>\n") ∷
    -- 114
    with_html (codes "    foo\nbar\n") (codes "<pre><code>foo\n</code></pre>\n<p>bar</p>\n") ∷
    -- 115
    with_html (codes "# Heading\n    foo\nHeading\n------\n    foo\n----\n")
    (codes "<h1>Heading</h1>\n<pre><code>foo\n</code></pre>\n<h2>Heading</h2>\n" ++
    codes "<pre><code>foo\n</code></pre>\n<hr />\n") ∷
    -- 116
    with_html (codes "        foo\n    bar\n") (codes "<pre><code>    foo\nbar\n</code></pre>\n") ∷
    -- 117
    with_html (codes "\n    \n    foo\n    \n\n") (codes "<pre><code>foo\n</code></pre>\n") ∷
    -- 118
    with_html (codes "    foo  \n") (codes "<pre><code>foo  \n</code></pre>\n") ∷
    -- Fenced code
    -- 119
    with_html (codes "```\n<\n >\n```\n") (codes "<pre><code>&lt;\n &gt;\n</code></pre>\n") ∷
    -- 120
    with_html (codes "~~~\n<\n >\n~~~\n") (codes "<pre><code>&lt;\n &gt;\n</code></pre>\n") ∷
    -- 121
    with_html (codes "``\nfoo\n``\n") (codes "<p><code>foo</code></p>\n") ∷
    -- 122
    with_html (codes "```\naaa\n~~~\n```\n") (codes "<pre><code>aaa\n~~~\n</code></pre>\n") ∷
    -- 123
    with_html (codes "~~~\naaa\n```\n~~~\n") (codes "<pre><code>aaa\n```\n</code></pre>\n") ∷
    -- 124
    with_html (codes "````\naaa\n```\n``````\n") (codes "<pre><code>aaa\n```\n</code></pre>\n") ∷
    -- 125
    with_html (codes "~~~~\naaa\n~~~\n~~~~\n") (codes "<pre><code>aaa\n~~~\n</code></pre>\n") ∷
    -- 126
    with_html (codes "```\n") (codes "<pre><code></code></pre>\n") ∷
    -- 127
    with_html (codes "`````\n\n```\naaa\n") (codes "<pre><code>\n```\naaa\n</code></pre>\n") ∷
    -- 128
    with_html (codes "> ```\n> aaa\n\nbbb\n")
    (codes "<blockquote>\n<pre><code>aaa\n</code></pre>\n</blockquote>\n<p>bbb</p>\n") ∷
    -- 129
    with_html (codes "```\n\n  \n```\n") (codes "<pre><code>\n  \n</code></pre>\n") ∷
    -- 130
    with_html (codes "```\n```\n") (codes "<pre><code></code></pre>\n") ∷
    -- 131
    with_html (codes " ```\n aaa\naaa\n```\n") (codes "<pre><code>aaa\naaa\n</code></pre>\n") ∷
    -- 132
    with_html (codes "  ```\naaa\n  aaa\naaa\n  ```\n") (codes "<pre><code>aaa\naaa\naaa\n</code></pre>\n") ∷
    -- 133
    with_html (codes "   ```\n   aaa\n    aaa\n  aaa\n   ```\n") (codes "<pre><code>aaa\n aaa\naaa\n</code></pre>\n")
    ∷
    -- 134
    with_html (codes "    ```\n    aaa\n    ```\n") (codes "<pre><code>```\naaa\n```\n</code></pre>\n") ∷
    -- 135
    with_html (codes "```\naaa\n  ```\n") (codes "<pre><code>aaa\n</code></pre>\n") ∷
    -- 136
    with_html (codes "   ```\naaa\n  ```\n") (codes "<pre><code>aaa\n</code></pre>\n") ∷
    -- 137
    with_html (codes "```\naaa\n    ```\n") (codes "<pre><code>aaa\n    ```\n</code></pre>\n") ∷
    -- 138
    with_html (codes "``` ```\naaa\n") (codes "<p><code> </code>\naaa</p>\n") ∷
    -- 139
    with_html (codes "~~~~~~\naaa\n~~~ ~~\n") (codes "<pre><code>aaa\n~~~ ~~\n</code></pre>\n") ∷
    -- 140
    with_html (codes "foo\n```\nbar\n```\nbaz\n") (codes "<p>foo</p>\n<pre><code>bar\n</code></pre>\n<p>baz</p>\n") ∷
    -- 141
    with_html (codes "foo\n---\n~~~\nbar\n~~~\n# baz\n")
    (codes "<h2>foo</h2>\n<pre><code>bar\n</code></pre>\n<h1>baz</h1>\n") ∷
    -- 142
    with_html (codes "```ruby\ndef foo(x)\n  return 3\nend\n```\n")
    (codes "<pre><code class=\"language-ruby\">def foo(x)\n  return 3\nend\n</code></pre>\n") ∷
    -- 143
    with_html (codes "~~~~    ruby startline=3 $%@#$\ndef foo(x)\n  return 3\nend\n~~~~~~~\n")
    (codes "<pre><code class=\"language-ruby\">def foo(x)\n  return 3\nend\n</code></pre>\n") ∷
    -- 144
    with_html (codes "````;\n````\n") (codes "<pre><code class=\"language-;\"></code></pre>\n") ∷
    -- 145
    with_html (codes "``` aa ```\nfoo\n") (codes "<p><code>aa</code>\nfoo</p>\n") ∷
    -- 146
    with_html (codes "~~~ aa ``` ~~~\nfoo\n~~~\n") (codes "<pre><code class=\"language-aa\">foo\n</code></pre>\n") ∷
    -- 147
    with_html (codes "```\n``` aaa\n```\n") (codes "<pre><code>``` aaa\n</code></pre>\n") ∷
    []
