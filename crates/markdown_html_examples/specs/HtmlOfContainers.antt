-- Examples in CommonMark with their HTML: Block quotes. Written by .ci/examples.
use Rattle.std.specs.Prelude.{List, [], ◌∷◌, ◌++◌, codes}
use Rattle.markdown_html_examples.specs.ExampleHtml.{HtmlExample, with_html}

unfoldable pub html_of_containers : List HtmlExample
html_of_containers =
    -- Block quotes
    -- 228
    with_html (codes "> # Foo\n> bar\n> baz\n") (codes "<blockquote>\n<h1>Foo</h1>\n<p>bar\nbaz</p>\n</blockquote>\n")
    ∷
    -- 229
    with_html (codes "># Foo\n>bar\n> baz\n") (codes "<blockquote>\n<h1>Foo</h1>\n<p>bar\nbaz</p>\n</blockquote>\n") ∷
    -- 230
    with_html (codes "   > # Foo\n   > bar\n > baz\n")
    (codes "<blockquote>\n<h1>Foo</h1>\n<p>bar\nbaz</p>\n</blockquote>\n") ∷
    -- 231
    with_html (codes "    > # Foo\n    > bar\n    > baz\n")
    (codes "<pre><code>&gt; # Foo\n&gt; bar\n&gt; baz\n</code></pre>\n") ∷
    -- 232
    with_html (codes "> # Foo\n> bar\nbaz\n") (codes "<blockquote>\n<h1>Foo</h1>\n<p>bar\nbaz</p>\n</blockquote>\n") ∷
    -- 233
    with_html (codes "> bar\nbaz\n> foo\n") (codes "<blockquote>\n<p>bar\nbaz\nfoo</p>\n</blockquote>\n") ∷
    -- 234
    with_html (codes "> foo\n---\n") (codes "<blockquote>\n<p>foo</p>\n</blockquote>\n<hr />\n") ∷
    -- 235
    with_html (codes "> - foo\n- bar\n")
    (codes "<blockquote>\n<ul>\n<li>foo</li>\n</ul>\n</blockquote>\n<ul>\n<li>bar</li>\n" ++ codes "</ul>\n") ∷
    -- 236
    with_html (codes ">     foo\n    bar\n")
    (codes "<blockquote>\n<pre><code>foo\n</code></pre>\n</blockquote>\n<pre><code>bar\n" ++ codes "</code></pre>\n")
    ∷
    -- 237
    with_html (codes "> ```\nfoo\n```\n")
    (codes "<blockquote>\n<pre><code></code></pre>\n</blockquote>\n<p>foo</p>\n" ++
    codes "<pre><code></code></pre>\n") ∷
    -- 238
    with_html (codes "> foo\n    - bar\n") (codes "<blockquote>\n<p>foo\n- bar</p>\n</blockquote>\n") ∷
    -- 239
    with_html (codes ">\n") (codes "<blockquote>\n</blockquote>\n") ∷
    -- 240
    with_html (codes ">\n>  \n> \n") (codes "<blockquote>\n</blockquote>\n") ∷
    -- 241
    with_html (codes ">\n> foo\n>  \n") (codes "<blockquote>\n<p>foo</p>\n</blockquote>\n") ∷
    -- 242
    with_html (codes "> foo\n\n> bar\n")
    (codes "<blockquote>\n<p>foo</p>\n</blockquote>\n<blockquote>\n<p>bar</p>\n" ++ codes "</blockquote>\n") ∷
    -- 243
    with_html (codes "> foo\n> bar\n") (codes "<blockquote>\n<p>foo\nbar</p>\n</blockquote>\n") ∷
    -- 244
    with_html (codes "> foo\n>\n> bar\n") (codes "<blockquote>\n<p>foo</p>\n<p>bar</p>\n</blockquote>\n") ∷
    -- 245
    with_html (codes "foo\n> bar\n") (codes "<p>foo</p>\n<blockquote>\n<p>bar</p>\n</blockquote>\n") ∷
    -- 246
    with_html (codes "> aaa\n***\n> bbb\n")
    (codes "<blockquote>\n<p>aaa</p>\n</blockquote>\n<hr />\n<blockquote>\n<p>bbb</p>\n" ++ codes "</blockquote>\n") ∷
    -- 247
    with_html (codes "> bar\nbaz\n") (codes "<blockquote>\n<p>bar\nbaz</p>\n</blockquote>\n") ∷
    -- 248
    with_html (codes "> bar\n\nbaz\n") (codes "<blockquote>\n<p>bar</p>\n</blockquote>\n<p>baz</p>\n") ∷
    -- 249
    with_html (codes "> bar\n>\nbaz\n") (codes "<blockquote>\n<p>bar</p>\n</blockquote>\n<p>baz</p>\n") ∷
    -- 250
    with_html (codes "> > > foo\nbar\n")
    (codes "<blockquote>\n<blockquote>\n<blockquote>\n<p>foo\nbar</p>\n</blockquote>\n" ++
    codes "</blockquote>\n</blockquote>\n") ∷
    -- 251
    with_html (codes ">>> foo\n> bar\n>>baz\n")
    (codes "<blockquote>\n<blockquote>\n<blockquote>\n<p>foo\nbar\nbaz</p>\n</blockquote>\n" ++
    codes "</blockquote>\n</blockquote>\n") ∷
    -- 252
    with_html (codes ">     code\n\n>    not code\n")
    (codes "<blockquote>\n<pre><code>code\n</code></pre>\n</blockquote>\n<blockquote>\n" ++
    codes "<p>not code</p>\n</blockquote>\n") ∷
    []
