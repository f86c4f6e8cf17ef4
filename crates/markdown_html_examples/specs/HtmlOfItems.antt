-- Examples in CommonMark with their HTML: List items. Written by .ci/examples.
use Rattle.std.specs.Prelude.{List, [], ◌∷◌, ◌++◌, codes}
use Rattle.markdown_html_examples.specs.ExampleHtml.{HtmlExample, with_html}

unfoldable pub html_of_items : List HtmlExample
html_of_items =
    -- List items
    -- 253
    with_html (codes "A paragraph\nwith two lines.\n\n    indented code\n\n> A block quote.\n")
    (codes "<p>A paragraph\nwith two lines.</p>\n<pre><code>indented code\n</code></pre>\n" ++
    codes "<blockquote>\n<p>A block quote.</p>\n</blockquote>\n") ∷
    -- 254
    with_html (codes "1.  A paragraph\n    with two lines.\n\n        indented code\n\n" ++
    codes "    > A block quote.\n")
    (codes "<ol>\n<li>\n<p>A paragraph\nwith two lines.</p>\n<pre><code>indented code\n" ++
    codes "</code></pre>\n<blockquote>\n<p>A block quote.</p>\n</blockquote>\n</li>\n" ++ codes "</ol>\n") ∷
    -- 255
    with_html (codes "- one\n\n two\n") (codes "<ul>\n<li>one</li>\n</ul>\n<p>two</p>\n") ∷
    -- 256
    with_html (codes "- one\n\n  two\n") (codes "<ul>\n<li>\n<p>one</p>\n<p>two</p>\n</li>\n</ul>\n") ∷
    -- 257
    with_html (codes " -    one\n\n     two\n") (codes "<ul>\n<li>one</li>\n</ul>\n<pre><code> two\n</code></pre>\n")
    ∷
    -- 258
    with_html (codes " -    one\n\n      two\n") (codes "<ul>\n<li>\n<p>one</p>\n<p>two</p>\n</li>\n</ul>\n") ∷
    -- 259
    with_html (codes "   > > 1.  one\n>>\n>>     two\n")
    (codes "<blockquote>\n<blockquote>\n<ol>\n<li>\n<p>one</p>\n<p>two</p>\n</li>\n</ol>\n" ++
    codes "</blockquote>\n</blockquote>\n") ∷
    -- 260
    with_html (codes ">>- one\n>>\n  >  > two\n")
    (codes "<blockquote>\n<blockquote>\n<ul>\n<li>one</li>\n</ul>\n<p>two</p>\n" ++
    codes "</blockquote>\n</blockquote>\n") ∷
    -- 261
    with_html (codes "-one\n\n2.two\n") (codes "<p>-one</p>\n<p>2.two</p>\n") ∷
    -- 262
    with_html (codes "- foo\n\n\n  bar\n") (codes "<ul>\n<li>\n<p>foo</p>\n<p>bar</p>\n</li>\n</ul>\n") ∷
    -- 263
    with_html (codes "1.  foo\n\n    ```\n    bar\n    ```\n\n    baz\n\n    > bam\n")
    (codes "<ol>\n<li>\n<p>foo</p>\n<pre><code>bar\n</code></pre>\n<p>baz</p>\n" ++
    codes "<blockquote>\n<p>bam</p>\n</blockquote>\n</li>\n</ol>\n") ∷
    -- 264
    with_html (codes "- Foo\n\n      bar\n\n\n      baz\n")
    (codes "<ul>\n<li>\n<p>Foo</p>\n<pre><code>bar\n\n\nbaz\n</code></pre>\n</li>\n</ul>\n") ∷
    -- 266
    with_html (codes "1234567890. not ok\n") (codes "<p>1234567890. not ok</p>\n") ∷
    -- 269
    with_html (codes "-1. not ok\n") (codes "<p>-1. not ok</p>\n") ∷
    -- 270
    with_html (codes "- foo\n\n      bar\n")
    (codes "<ul>\n<li>\n<p>foo</p>\n<pre><code>bar\n</code></pre>\n</li>\n</ul>\n") ∷
    -- 272
    with_html (codes "    indented code\n\nparagraph\n\n    more code\n")
    (codes "<pre><code>indented code\n</code></pre>\n<p>paragraph</p>\n" ++
    codes "<pre><code>more code\n</code></pre>\n") ∷
    -- 273
    with_html (codes "1.     indented code\n\n   paragraph\n\n       more code\n")
    (codes "<ol>\n<li>\n<pre><code>indented code\n</code></pre>\n<p>paragraph</p>\n" ++
    codes "<pre><code>more code\n</code></pre>\n</li>\n</ol>\n") ∷
    -- 274
    with_html (codes "1.      indented code\n\n   paragraph\n\n       more code\n")
    (codes "<ol>\n<li>\n<pre><code> indented code\n</code></pre>\n<p>paragraph</p>\n" ++
    codes "<pre><code>more code\n</code></pre>\n</li>\n</ol>\n") ∷
    -- 275
    with_html (codes "   foo\n\nbar\n") (codes "<p>foo</p>\n<p>bar</p>\n") ∷
    -- 276
    with_html (codes "-    foo\n\n  bar\n") (codes "<ul>\n<li>foo</li>\n</ul>\n<p>bar</p>\n") ∷
    -- 277
    with_html (codes "-  foo\n\n   bar\n") (codes "<ul>\n<li>\n<p>foo</p>\n<p>bar</p>\n</li>\n</ul>\n") ∷
    -- 278
    with_html (codes "-\n  foo\n-\n  ```\n  bar\n  ```\n-\n      baz\n")
    (codes "<ul>\n<li>foo</li>\n<li>\n<pre><code>bar\n</code></pre>\n</li>\n<li>\n" ++
    codes "<pre><code>baz\n</code></pre>\n</li>\n</ul>\n") ∷
    -- 279
    with_html (codes "-   \n  foo\n") (codes "<ul>\n<li>foo</li>\n</ul>\n") ∷
    -- 280
    with_html (codes "-\n\n  foo\n") (codes "<ul>\n<li></li>\n</ul>\n<p>foo</p>\n") ∷
    -- 281
    with_html (codes "- foo\n-\n- bar\n") (codes "<ul>\n<li>foo</li>\n<li></li>\n<li>bar</li>\n</ul>\n") ∷
    -- 282
    with_html (codes "- foo\n-   \n- bar\n") (codes "<ul>\n<li>foo</li>\n<li></li>\n<li>bar</li>\n</ul>\n") ∷
    -- 283
    with_html (codes "1. foo\n2.\n3. bar\n") (codes "<ol>\n<li>foo</li>\n<li></li>\n<li>bar</li>\n</ol>\n") ∷
    -- 284
    with_html (codes "*\n") (codes "<ul>\n<li></li>\n</ul>\n") ∷
    -- 285
    with_html (codes "foo\n*\n\nfoo\n1.\n") (codes "<p>foo\n*</p>\n<p>foo\n1.</p>\n") ∷
    -- 286
    with_html (codes " 1.  A paragraph\n     with two lines.\n\n         indented code\n\n" ++
    codes "     > A block quote.\n")
    (codes "<ol>\n<li>\n<p>A paragraph\nwith two lines.</p>\n<pre><code>indented code\n" ++
    codes "</code></pre>\n<blockquote>\n<p>A block quote.</p>\n</blockquote>\n</li>\n" ++ codes "</ol>\n") ∷
    -- 287
    with_html (codes "  1.  A paragraph\n      with two lines.\n\n          indented code\n\n" ++
    codes "      > A block quote.\n")
    (codes "<ol>\n<li>\n<p>A paragraph\nwith two lines.</p>\n<pre><code>indented code\n" ++
    codes "</code></pre>\n<blockquote>\n<p>A block quote.</p>\n</blockquote>\n</li>\n" ++ codes "</ol>\n") ∷
    -- 288
    with_html (codes "   1.  A paragraph\n       with two lines.\n\n           indented code\n\n" ++
    codes "       > A block quote.\n")
    (codes "<ol>\n<li>\n<p>A paragraph\nwith two lines.</p>\n<pre><code>indented code\n" ++
    codes "</code></pre>\n<blockquote>\n<p>A block quote.</p>\n</blockquote>\n</li>\n" ++ codes "</ol>\n") ∷
    -- 289
    with_html (codes "    1.  A paragraph\n        with two lines.\n\n            indented code\n\n" ++
    codes "        > A block quote.\n")
    (codes "<pre><code>1.  A paragraph\n    with two lines.\n\n        indented code\n\n" ++
    codes "    &gt; A block quote.\n</code></pre>\n") ∷
    -- 290
    with_html (codes "  1.  A paragraph\nwith two lines.\n\n          indented code\n\n" ++
    codes "      > A block quote.\n")
    (codes "<ol>\n<li>\n<p>A paragraph\nwith two lines.</p>\n<pre><code>indented code\n" ++
    codes "</code></pre>\n<blockquote>\n<p>A block quote.</p>\n</blockquote>\n</li>\n" ++ codes "</ol>\n") ∷
    -- 291
    with_html (codes "  1.  A paragraph\n    with two lines.\n")
    (codes "<ol>\n<li>A paragraph\nwith two lines.</li>\n</ol>\n") ∷
    -- 292
    with_html (codes "> 1. > Blockquote\ncontinued here.\n")
    (codes "<blockquote>\n<ol>\n<li>\n<blockquote>\n<p>Blockquote\ncontinued here.</p>\n" ++
    codes "</blockquote>\n</li>\n</ol>\n</blockquote>\n") ∷
    -- 293
    with_html (codes "> 1. > Blockquote\n> continued here.\n")
    (codes "<blockquote>\n<ol>\n<li>\n<blockquote>\n<p>Blockquote\ncontinued here.</p>\n" ++
    codes "</blockquote>\n</li>\n</ol>\n</blockquote>\n") ∷
    -- 294
    with_html (codes "- foo\n  - bar\n    - baz\n      - boo\n")
    (codes "<ul>\n<li>foo\n<ul>\n<li>bar\n<ul>\n<li>baz\n<ul>\n<li>boo</li>\n</ul>\n</li>\n" ++
    codes "</ul>\n</li>\n</ul>\n</li>\n</ul>\n") ∷
    -- 295
    with_html (codes "- foo\n - bar\n  - baz\n   - boo\n")
    (codes "<ul>\n<li>foo</li>\n<li>bar</li>\n<li>baz</li>\n<li>boo</li>\n</ul>\n") ∷
    -- 298
    with_html (codes "- - foo\n") (codes "<ul>\n<li>\n<ul>\n<li>foo</li>\n</ul>\n</li>\n</ul>\n") ∷
    -- 300
    with_html (codes "- # Foo\n- Bar\n  ---\n  baz\n")
    (codes "<ul>\n<li>\n<h1>Foo</h1>\n</li>\n<li>\n<h2>Bar</h2>\nbaz</li>\n</ul>\n") ∷
    []
