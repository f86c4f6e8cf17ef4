-- Examples in CommonMark with their HTML: Links and Images. Written by .ci/examples.
use Rattle.std.specs.Prelude.{List, [], ◌∷◌, ◌++◌, codes}
use Rattle.markdown_html_examples.specs.ExampleHtml.{HtmlExample, with_html}

unfoldable pub html_of_links : List HtmlExample
html_of_links =
    -- Links
    -- 483
    with_html (codes "[link](/uri)\n") (codes "<p><a href=\"/uri\">link</a></p>\n") ∷
    -- 484
    with_html (codes "[](./target.md)\n") (codes "<p><a href=\"./target.md\"></a></p>\n") ∷
    -- 485
    with_html (codes "[link]()\n") (codes "<p><a href=\"\">link</a></p>\n") ∷
    -- 486
    with_html (codes "[link](<>)\n") (codes "<p><a href=\"\">link</a></p>\n") ∷
    -- 487
    with_html (codes "[]()\n") (codes "<p><a href=\"\"></a></p>\n") ∷
    -- 488
    with_html (codes "[link](/my uri)\n") (codes "<p>[link](/my uri)</p>\n") ∷
    -- 489
    with_html (codes "[link](</my uri>)\n") (codes "<p><a href=\"/my%20uri\">link</a></p>\n") ∷
    -- 490
    with_html (codes "[link](foo\nbar)\n") (codes "<p>[link](foo\nbar)</p>\n") ∷
    -- 491
    with_html (codes "[link](<foo\nbar>)\n") (codes "<p>[link](<foo\nbar>)</p>\n") ∷
    -- 492
    with_html (codes "[a](<b)c>)\n") (codes "<p><a href=\"b)c\">a</a></p>\n") ∷
    -- 493
    with_html (codes "[link](<foo\\>)\n") (codes "<p>[link](&lt;foo&gt;)</p>\n") ∷
    -- 494
    with_html (codes "[a](<b)c\n[a](<b)c>\n[a](<b>c)\n") (codes "<p>[a](&lt;b)c\n[a](&lt;b)c&gt;\n[a](<b>c)</p>\n") ∷
    -- 495
    with_html (codes "[link](\\(foo\\))\n") (codes "<p><a href=\"(foo)\">link</a></p>\n") ∷
    -- 496
    with_html (codes "[link](foo(and(bar)))\n") (codes "<p><a href=\"foo(and(bar))\">link</a></p>\n") ∷
    -- 497
    with_html (codes "[link](foo(and(bar))\n") (codes "<p>[link](foo(and(bar))</p>\n") ∷
    -- 498
    with_html (codes "[link](foo\\(and\\(bar\\))\n") (codes "<p><a href=\"foo(and(bar)\">link</a></p>\n") ∷
    -- 499
    with_html (codes "[link](<foo(and(bar)>)\n") (codes "<p><a href=\"foo(and(bar)\">link</a></p>\n") ∷
    -- 500
    with_html (codes "[link](foo\\)\\:)\n") (codes "<p><a href=\"foo):\">link</a></p>\n") ∷
    -- 501
    with_html (codes "[link](#fragment)\n\n[link](http://example.com#fragment)\n\n" ++
    codes "[link](http://example.com?foo=3#frag)\n") (codes "<p><a href=\"#fragment\">link</a></p>\n" ++
    codes "<p><a href=\"http://example.com#fragment\">link</a></p>\n" ++
    codes "<p><a href=\"http://example.com?foo=3#frag\">link</a></p>\n") ∷
    -- 502
    with_html (codes "[link](foo\\bar)\n") (codes "<p><a href=\"foo%5Cbar\">link</a></p>\n") ∷
    -- 503
    with_html (codes "[link](foo%20b&auml;)\n") (codes "<p><a href=\"foo%20b&amp;auml;\">link</a></p>\n") ∷
    -- 511
    with_html (codes "[link] (/uri)\n") (codes "<p>[link] (/uri)</p>\n") ∷
    -- 512
    with_html (codes "[link [foo [bar]]](/uri)\n") (codes "<p><a href=\"/uri\">link [foo [bar]]</a></p>\n") ∷
    -- 513
    with_html (codes "[link] bar](/uri)\n") (codes "<p>[link] bar](/uri)</p>\n") ∷
    -- 514
    with_html (codes "[link [bar](/uri)\n") (codes "<p>[link <a href=\"/uri\">bar</a></p>\n") ∷
    -- 515
    with_html (codes "[link \\[bar](/uri)\n") (codes "<p><a href=\"/uri\">link [bar</a></p>\n") ∷
    -- 516
    with_html (codes "[link *foo **bar** `#`*](/uri)\n")
    (codes "<p><a href=\"/uri\">link <em>foo <strong>bar</strong> <code>#</code></em></a></p>\n") ∷
    -- 517
    with_html (codes "[![moon](moon.jpg)](/uri)\n")
    (codes "<p><a href=\"/uri\"><img src=\"moon.jpg\" alt=\"moon\" /></a></p>\n") ∷
    -- 518
    with_html (codes "[foo [bar](/uri)](/uri)\n") (codes "<p>[foo <a href=\"/uri\">bar</a>](/uri)</p>\n") ∷
    -- 519
    with_html (codes "[foo *[bar [baz](/uri)](/uri)*](/uri)\n")
    (codes "<p>[foo <em>[bar <a href=\"/uri\">baz</a>](/uri)</em>](/uri)</p>\n") ∷
    -- 520
    with_html (codes "![[[foo](uri1)](uri2)](uri3)\n") (codes "<p><img src=\"uri3\" alt=\"[foo](uri2)\" /></p>\n") ∷
    -- 521
    with_html (codes "*[foo*](/uri)\n") (codes "<p>*<a href=\"/uri\">foo*</a></p>\n") ∷
    -- 522
    with_html (codes "[foo *bar](baz*)\n") (codes "<p><a href=\"baz*\">foo *bar</a></p>\n") ∷
    -- 523
    with_html (codes "*foo [bar* baz]\n") (codes "<p><em>foo [bar</em> baz]</p>\n") ∷
    -- 524
    with_html (codes "[foo <bar attr=\"](baz)\">\n") (codes "<p>[foo <bar attr=\"](baz)\"></p>\n") ∷
    -- 525
    with_html (codes "[foo`](/uri)`\n") (codes "<p>[foo<code>](/uri)</code></p>\n") ∷
    -- 526
    with_html (codes "[foo<http://example.com/?search=](uri)>\n")
    (codes "<p>[foo<a href=\"http://example.com/?search=%5D(uri)\">http://example.com/?search=" ++
    codes "](uri)</a></p>\n") ∷
    -- 527
    with_html (codes "[foo][bar]\n\n[bar]: /url \"title\"\n")
    (codes "<p><a href=\"/url\" title=\"title\">foo</a></p>\n") ∷
    -- 528
    with_html (codes "[link [foo [bar]]][ref]\n\n[ref]: /uri\n")
    (codes "<p><a href=\"/uri\">link [foo [bar]]</a></p>\n") ∷
    -- 529
    with_html (codes "[link \\[bar][ref]\n\n[ref]: /uri\n") (codes "<p><a href=\"/uri\">link [bar</a></p>\n") ∷
    -- 530
    with_html (codes "[link *foo **bar** `#`*][ref]\n\n[ref]: /uri\n")
    (codes "<p><a href=\"/uri\">link <em>foo <strong>bar</strong> <code>#</code></em></a></p>\n") ∷
    -- 531
    with_html (codes "[![moon](moon.jpg)][ref]\n\n[ref]: /uri\n")
    (codes "<p><a href=\"/uri\"><img src=\"moon.jpg\" alt=\"moon\" /></a></p>\n") ∷
    -- 532
    with_html (codes "[foo [bar](/uri)][ref]\n\n[ref]: /uri\n")
    (codes "<p>[foo <a href=\"/uri\">bar</a>]<a href=\"/uri\">ref</a></p>\n") ∷
    -- 533
    with_html (codes "[foo *bar [baz][ref]*][ref]\n\n[ref]: /uri\n")
    (codes "<p>[foo <em>bar <a href=\"/uri\">baz</a></em>]<a href=\"/uri\">ref</a></p>\n") ∷
    -- 534
    with_html (codes "*[foo*][ref]\n\n[ref]: /uri\n") (codes "<p>*<a href=\"/uri\">foo*</a></p>\n") ∷
    -- 535
    with_html (codes "[foo *bar][ref]*\n\n[ref]: /uri\n") (codes "<p><a href=\"/uri\">foo *bar</a>*</p>\n") ∷
    -- 536
    with_html (codes "[foo <bar attr=\"][ref]\">\n\n[ref]: /uri\n") (codes "<p>[foo <bar attr=\"][ref]\"></p>\n") ∷
    -- 537
    with_html (codes "[foo`][ref]`\n\n[ref]: /uri\n") (codes "<p>[foo<code>][ref]</code></p>\n") ∷
    -- 538
    with_html (codes "[foo<http://example.com/?search=][ref]>\n\n[ref]: /uri\n")
    (codes "<p>[foo<a href=\"http://example.com/?search=%5D%5Bref%5D\">http://example.com/?sea" ++
    codes "rch=][ref]</a></p>\n") ∷
    -- 539
    with_html (codes "[foo][BaR]\n\n[bar]: /url \"title\"\n")
    (codes "<p><a href=\"/url\" title=\"title\">foo</a></p>\n") ∷
    -- 540
    with_html (codes "[" ++ (225 ∷ 186 ∷ 158 ∷ []) ++ codes "]\n\n[SS]: /url\n") (codes "<p><a href=\"/url\">" ++
    (225 ∷ 186 ∷ 158 ∷ []) ++ codes "</a></p>\n") ∷
    -- 541
    with_html (codes "[Foo\n  bar]: /url\n\n[Baz][Foo bar]\n") (codes "<p><a href=\"/url\">Baz</a></p>\n") ∷
    -- 542
    with_html (codes "[foo] [bar]\n\n[bar]: /url \"title\"\n")
    (codes "<p>[foo] <a href=\"/url\" title=\"title\">bar</a></p>\n") ∷
    -- 543
    with_html (codes "[foo]\n[bar]\n\n[bar]: /url \"title\"\n")
    (codes "<p>[foo]\n<a href=\"/url\" title=\"title\">bar</a></p>\n") ∷
    -- 544
    with_html (codes "[foo]: /url1\n\n[foo]: /url2\n\n[bar][foo]\n") (codes "<p><a href=\"/url1\">bar</a></p>\n") ∷
    -- 545
    with_html (codes "[bar][foo\\!]\n\n[foo!]: /url\n") (codes "<p>[bar][foo!]</p>\n") ∷
    -- 546
    with_html (codes "[foo][ref[]\n\n[ref[]: /uri\n") (codes "<p>[foo][ref[]</p>\n<p>[ref[]: /uri</p>\n") ∷
    -- 547
    with_html (codes "[foo][ref[bar]]\n\n[ref[bar]]: /uri\n")
    (codes "<p>[foo][ref[bar]]</p>\n<p>[ref[bar]]: /uri</p>\n") ∷
    -- 548
    with_html (codes "[[[foo]]]\n\n[[[foo]]]: /url\n") (codes "<p>[[[foo]]]</p>\n<p>[[[foo]]]: /url</p>\n") ∷
    -- 549
    with_html (codes "[foo][ref\\[]\n\n[ref\\[]: /uri\n") (codes "<p><a href=\"/uri\">foo</a></p>\n") ∷
    -- 550
    with_html (codes "[bar\\\\]: /uri\n\n[bar\\\\]\n") (codes "<p><a href=\"/uri\">bar\\</a></p>\n") ∷
    -- 551
    with_html (codes "[]\n\n[]: /uri\n") (codes "<p>[]</p>\n<p>[]: /uri</p>\n") ∷
    -- 552
    with_html (codes "[\n ]\n\n[\n ]: /uri\n") (codes "<p>[\n]</p>\n<p>[\n]: /uri</p>\n") ∷
    -- 553
    with_html (codes "[foo][]\n\n[foo]: /url \"title\"\n") (codes "<p><a href=\"/url\" title=\"title\">foo</a></p>\n")
    ∷
    -- 554
    with_html (codes "[*foo* bar][]\n\n[*foo* bar]: /url \"title\"\n")
    (codes "<p><a href=\"/url\" title=\"title\"><em>foo</em> bar</a></p>\n") ∷
    -- 555
    with_html (codes "[Foo][]\n\n[foo]: /url \"title\"\n") (codes "<p><a href=\"/url\" title=\"title\">Foo</a></p>\n")
    ∷
    -- 556
    with_html (codes "[foo] \n[]\n\n[foo]: /url \"title\"\n")
    (codes "<p><a href=\"/url\" title=\"title\">foo</a>\n[]</p>\n") ∷
    -- 557
    with_html (codes "[foo]\n\n[foo]: /url \"title\"\n") (codes "<p><a href=\"/url\" title=\"title\">foo</a></p>\n") ∷
    -- 558
    with_html (codes "[*foo* bar]\n\n[*foo* bar]: /url \"title\"\n")
    (codes "<p><a href=\"/url\" title=\"title\"><em>foo</em> bar</a></p>\n") ∷
    -- 559
    with_html (codes "[[*foo* bar]]\n\n[*foo* bar]: /url \"title\"\n")
    (codes "<p>[<a href=\"/url\" title=\"title\"><em>foo</em> bar</a>]</p>\n") ∷
    -- 560
    with_html (codes "[[bar [foo]\n\n[foo]: /url\n") (codes "<p>[[bar <a href=\"/url\">foo</a></p>\n") ∷
    -- 561
    with_html (codes "[Foo]\n\n[foo]: /url \"title\"\n") (codes "<p><a href=\"/url\" title=\"title\">Foo</a></p>\n") ∷
    -- 562
    with_html (codes "[foo] bar\n\n[foo]: /url\n") (codes "<p><a href=\"/url\">foo</a> bar</p>\n") ∷
    -- 563
    with_html (codes "\\[foo]\n\n[foo]: /url \"title\"\n") (codes "<p>[foo]</p>\n") ∷
    -- 564
    with_html (codes "[foo*]: /url\n\n*[foo*]\n") (codes "<p>*<a href=\"/url\">foo*</a></p>\n") ∷
    -- 565
    with_html (codes "[foo][bar]\n\n[foo]: /url1\n[bar]: /url2\n") (codes "<p><a href=\"/url2\">foo</a></p>\n") ∷
    -- 566
    with_html (codes "[foo][]\n\n[foo]: /url1\n") (codes "<p><a href=\"/url1\">foo</a></p>\n") ∷
    -- 567
    with_html (codes "[foo]()\n\n[foo]: /url1\n") (codes "<p><a href=\"\">foo</a></p>\n") ∷
    -- 568
    with_html (codes "[foo](not a link)\n\n[foo]: /url1\n") (codes "<p><a href=\"/url1\">foo</a>(not a link)</p>\n") ∷
    -- 569
    with_html (codes "[foo][bar][baz]\n\n[baz]: /url\n") (codes "<p>[foo]<a href=\"/url\">bar</a></p>\n") ∷
    -- 570
    with_html (codes "[foo][bar][baz]\n\n[baz]: /url1\n[bar]: /url2\n")
    (codes "<p><a href=\"/url2\">foo</a><a href=\"/url1\">baz</a></p>\n") ∷
    -- 571
    with_html (codes "[foo][bar][baz]\n\n[baz]: /url1\n[foo]: /url2\n")
    (codes "<p>[foo]<a href=\"/url1\">bar</a></p>\n") ∷
    -- Images
    -- 573
    with_html (codes "![foo *bar*]\n\n[foo *bar*]: train.jpg \"train & tracks\"\n")
    (codes "<p><img src=\"train.jpg\" alt=\"foo bar\" title=\"train &amp; tracks\" /></p>\n") ∷
    -- 574
    with_html (codes "![foo ![bar](/url)](/url2)\n") (codes "<p><img src=\"/url2\" alt=\"foo bar\" /></p>\n") ∷
    -- 575
    with_html (codes "![foo [bar](/url)](/url2)\n") (codes "<p><img src=\"/url2\" alt=\"foo bar\" /></p>\n") ∷
    -- 576
    with_html (codes "![foo *bar*][]\n\n[foo *bar*]: train.jpg \"train & tracks\"\n")
    (codes "<p><img src=\"train.jpg\" alt=\"foo bar\" title=\"train &amp; tracks\" /></p>\n") ∷
    -- 577
    with_html (codes "![foo *bar*][foobar]\n\n[FOOBAR]: train.jpg \"train & tracks\"\n")
    (codes "<p><img src=\"train.jpg\" alt=\"foo bar\" title=\"train &amp; tracks\" /></p>\n") ∷
    -- 578
    with_html (codes "![foo](train.jpg)\n") (codes "<p><img src=\"train.jpg\" alt=\"foo\" /></p>\n") ∷
    -- 580
    with_html (codes "![foo](<url>)\n") (codes "<p><img src=\"url\" alt=\"foo\" /></p>\n") ∷
    -- 581
    with_html (codes "![](/url)\n") (codes "<p><img src=\"/url\" alt=\"\" /></p>\n") ∷
    -- 582
    with_html (codes "![foo][bar]\n\n[bar]: /url\n") (codes "<p><img src=\"/url\" alt=\"foo\" /></p>\n") ∷
    -- 583
    with_html (codes "![foo][bar]\n\n[BAR]: /url\n") (codes "<p><img src=\"/url\" alt=\"foo\" /></p>\n") ∷
    -- 584
    with_html (codes "![foo][]\n\n[foo]: /url \"title\"\n")
    (codes "<p><img src=\"/url\" alt=\"foo\" title=\"title\" /></p>\n") ∷
    -- 585
    with_html (codes "![*foo* bar][]\n\n[*foo* bar]: /url \"title\"\n")
    (codes "<p><img src=\"/url\" alt=\"foo bar\" title=\"title\" /></p>\n") ∷
    -- 586
    with_html (codes "![Foo][]\n\n[foo]: /url \"title\"\n")
    (codes "<p><img src=\"/url\" alt=\"Foo\" title=\"title\" /></p>\n") ∷
    -- 587
    with_html (codes "![foo] \n[]\n\n[foo]: /url \"title\"\n")
    (codes "<p><img src=\"/url\" alt=\"foo\" title=\"title\" />\n[]</p>\n") ∷
    -- 588
    with_html (codes "![foo]\n\n[foo]: /url \"title\"\n")
    (codes "<p><img src=\"/url\" alt=\"foo\" title=\"title\" /></p>\n") ∷
    -- 589
    with_html (codes "![*foo* bar]\n\n[*foo* bar]: /url \"title\"\n")
    (codes "<p><img src=\"/url\" alt=\"foo bar\" title=\"title\" /></p>\n") ∷
    -- 590
    with_html (codes "![[foo]]\n\n[[foo]]: /url \"title\"\n")
    (codes "<p>![[foo]]</p>\n<p>[[foo]]: /url \"title\"</p>\n") ∷
    -- 591
    with_html (codes "![Foo]\n\n[foo]: /url \"title\"\n")
    (codes "<p><img src=\"/url\" alt=\"Foo\" title=\"title\" /></p>\n") ∷
    -- 592
    with_html (codes "!\\[foo]\n\n[foo]: /url \"title\"\n") (codes "<p>![foo]</p>\n") ∷
    -- 593
    with_html (codes "\\![foo]\n\n[foo]: /url \"title\"\n")
    (codes "<p>!<a href=\"/url\" title=\"title\">foo</a></p>\n") ∷
    []
