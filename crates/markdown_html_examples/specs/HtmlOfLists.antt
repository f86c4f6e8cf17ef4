-- Examples in CommonMark with their HTML: Lists. Written by .ci/examples.
use Rattle.std.specs.Prelude.{List, [], ◌∷◌, ◌++◌, codes}
use Rattle.markdown_html_examples.specs.ExampleHtml.{HtmlExample, with_html}

unfoldable pub html_of_lists : List HtmlExample
html_of_lists =
    -- Lists
    -- 301
    with_html (codes "- foo\n- bar\n+ baz\n")
    (codes "<ul>\n<li>foo</li>\n<li>bar</li>\n</ul>\n<ul>\n<li>baz</li>\n</ul>\n") ∷
    -- 303
    with_html (codes "Foo\n- bar\n- baz\n") (codes "<p>Foo</p>\n<ul>\n<li>bar</li>\n<li>baz</li>\n</ul>\n") ∷
    -- 304
    with_html (codes "The number of windows in my house is\n14.  The number of doors is 6.\n")
    (codes "<p>The number of windows in my house is\n14.  The number of doors is 6.</p>\n") ∷
    -- 305
    with_html (codes "The number of windows in my house is\n1.  The number of doors is 6.\n")
    (codes "<p>The number of windows in my house is</p>\n<ol>\n" ++
    codes "<li>The number of doors is 6.</li>\n</ol>\n") ∷
    -- 306
    with_html (codes "- foo\n\n- bar\n\n\n- baz\n")
    (codes "<ul>\n<li>\n<p>foo</p>\n</li>\n<li>\n<p>bar</p>\n</li>\n<li>\n<p>baz</p>\n" ++ codes "</li>\n</ul>\n") ∷
    -- 307
    with_html (codes "- foo\n  - bar\n    - baz\n\n\n      bim\n")
    (codes "<ul>\n<li>foo\n<ul>\n<li>bar\n<ul>\n<li>\n<p>baz</p>\n<p>bim</p>\n</li>\n</ul>\n" ++
    codes "</li>\n</ul>\n</li>\n</ul>\n") ∷
    -- 308
    with_html (codes "- foo\n- bar\n\n<!-- -->\n\n- baz\n- bim\n")
    (codes "<ul>\n<li>foo</li>\n<li>bar</li>\n</ul>\n<!-- -->\n<ul>\n<li>baz</li>\n" ++ codes "<li>bim</li>\n</ul>\n")
    ∷
    -- 309
    with_html (codes "-   foo\n\n    notcode\n\n-   foo\n\n<!-- -->\n\n    code\n")
    (codes "<ul>\n<li>\n<p>foo</p>\n<p>notcode</p>\n</li>\n<li>\n<p>foo</p>\n</li>\n</ul>\n" ++
    codes "<!-- -->\n<pre><code>code\n</code></pre>\n") ∷
    -- 310
    with_html (codes "- a\n - b\n  - c\n   - d\n  - e\n - f\n- g\n")
    (codes "<ul>\n<li>a</li>\n<li>b</li>\n<li>c</li>\n<li>d</li>\n<li>e</li>\n<li>f</li>\n" ++
    codes "<li>g</li>\n</ul>\n") ∷
    -- 311
    with_html (codes "1. a\n\n  2. b\n\n   3. c\n")
    (codes "<ol>\n<li>\n<p>a</p>\n</li>\n<li>\n<p>b</p>\n</li>\n<li>\n<p>c</p>\n</li>\n" ++ codes "</ol>\n") ∷
    -- 312
    with_html (codes "- a\n - b\n  - c\n   - d\n    - e\n")
    (codes "<ul>\n<li>a</li>\n<li>b</li>\n<li>c</li>\n<li>d\n- e</li>\n</ul>\n") ∷
    -- 313
    with_html (codes "1. a\n\n  2. b\n\n    3. c\n")
    (codes "<ol>\n<li>\n<p>a</p>\n</li>\n<li>\n<p>b</p>\n</li>\n</ol>\n<pre><code>3. c\n" ++ codes "</code></pre>\n")
    ∷
    -- 314
    with_html (codes "- a\n- b\n\n- c\n")
    (codes "<ul>\n<li>\n<p>a</p>\n</li>\n<li>\n<p>b</p>\n</li>\n<li>\n<p>c</p>\n</li>\n" ++ codes "</ul>\n") ∷
    -- 315
    with_html (codes "* a\n*\n\n* c\n")
    (codes "<ul>\n<li>\n<p>a</p>\n</li>\n<li></li>\n<li>\n<p>c</p>\n</li>\n</ul>\n") ∷
    -- 316
    with_html (codes "- a\n- b\n\n  c\n- d\n")
    (codes "<ul>\n<li>\n<p>a</p>\n</li>\n<li>\n<p>b</p>\n<p>c</p>\n</li>\n<li>\n<p>d</p>\n" ++ codes "</li>\n</ul>\n")
    ∷
    -- 317
    with_html (codes "- a\n- b\n\n  [ref]: /url\n- d\n")
    (codes "<ul>\n<li>\n<p>a</p>\n</li>\n<li>\n<p>b</p>\n</li>\n<li>\n<p>d</p>\n</li>\n" ++ codes "</ul>\n") ∷
    -- 318
    with_html (codes "- a\n- ```\n  b\n\n\n  ```\n- c\n")
    (codes "<ul>\n<li>a</li>\n<li>\n<pre><code>b\n\n\n</code></pre>\n</li>\n<li>c</li>\n" ++ codes "</ul>\n") ∷
    -- 319
    with_html (codes "- a\n  - b\n\n    c\n- d\n")
    (codes "<ul>\n<li>a\n<ul>\n<li>\n<p>b</p>\n<p>c</p>\n</li>\n</ul>\n</li>\n<li>d</li>\n" ++ codes "</ul>\n") ∷
    -- 320
    with_html (codes "* a\n  > b\n  >\n* c\n")
    (codes "<ul>\n<li>a\n<blockquote>\n<p>b</p>\n</blockquote>\n</li>\n<li>c</li>\n</ul>\n") ∷
    -- 321
    with_html (codes "- a\n  > b\n  ```\n  c\n  ```\n- d\n")
    (codes "<ul>\n<li>a\n<blockquote>\n<p>b</p>\n</blockquote>\n<pre><code>c\n" ++
    codes "</code></pre>\n</li>\n<li>d</li>\n</ul>\n") ∷
    -- 322
    with_html (codes "- a\n") (codes "<ul>\n<li>a</li>\n</ul>\n") ∷
    -- 323
    with_html (codes "- a\n  - b\n") (codes "<ul>\n<li>a\n<ul>\n<li>b</li>\n</ul>\n</li>\n</ul>\n") ∷
    -- 324
    with_html (codes "1. ```\n   foo\n   ```\n\n   bar\n")
    (codes "<ol>\n<li>\n<pre><code>foo\n</code></pre>\n<p>bar</p>\n</li>\n</ol>\n") ∷
    -- 325
    with_html (codes "* foo\n  * bar\n\n  baz\n")
    (codes "<ul>\n<li>\n<p>foo</p>\n<ul>\n<li>bar</li>\n</ul>\n<p>baz</p>\n</li>\n</ul>\n") ∷
    -- 326
    with_html (codes "- a\n  - b\n  - c\n\n- d\n  - e\n  - f\n")
    (codes "<ul>\n<li>\n<p>a</p>\n<ul>\n<li>b</li>\n<li>c</li>\n</ul>\n</li>\n<li>\n" ++
    codes "<p>d</p>\n<ul>\n<li>e</li>\n<li>f</li>\n</ul>\n</li>\n</ul>\n") ∷
    []
