-- Examples in CommonMark with their blocks: Links and Images. Written by .ci/examples.
use Rattle.std.specs.Prelude.{List, [], ◌∷◌, ◌++◌, codes, true, false, Some, None}
use Rattle.markdown_base.specs.declared.item.ItemBody.TheVariants as body
use Rattle.markdown_block_laws.specs.ExampleTrees.{Example, at, defined, example, naming_at}

unfoldable pub examples_of_links : List Example
examples_of_links =
    -- Links
    -- 482
    example (codes "[link](/uri \"title\")\n") (at 0 0 21 body.Paragraph ∷ at 1 0 1 body.MaybeLinkOpen ∷
    at 1 1 5 (body.Text false) ∷ at 1 5 6 (body.MaybeLinkClose true) ∷ at 1 6 20 (body.Text false) ∷ []) [] ∷
    -- 483
    example (codes "[link](/uri)\n") (at 0 0 13 body.Paragraph ∷ at 1 0 1 body.MaybeLinkOpen ∷
    at 1 1 5 (body.Text false) ∷ at 1 5 6 (body.MaybeLinkClose true) ∷ at 1 6 12 (body.Text false) ∷ []) [] ∷
    -- 484
    example (codes "[](./target.md)\n") (at 0 0 16 body.Paragraph ∷ at 1 0 1 body.MaybeLinkOpen ∷
    at 1 1 2 (body.MaybeLinkClose true) ∷ at 1 2 15 (body.Text false) ∷ []) [] ∷
    -- 485
    example (codes "[link]()\n") (at 0 0 9 body.Paragraph ∷ at 1 0 1 body.MaybeLinkOpen ∷ at 1 1 5 (body.Text false) ∷
    at 1 5 6 (body.MaybeLinkClose true) ∷ at 1 6 8 (body.Text false) ∷ []) [] ∷
    -- 486
    example (codes "[link](<>)\n") (at 0 0 11 body.Paragraph ∷ at 1 0 1 body.MaybeLinkOpen ∷
    at 1 1 5 (body.Text false) ∷ at 1 5 6 (body.MaybeLinkClose true) ∷ at 1 6 7 (body.Text false) ∷
    at 1 7 8 body.MaybeHtml ∷ at 1 8 10 (body.Text false) ∷ []) [] ∷
    -- 487
    example (codes "[]()\n") (at 0 0 5 body.Paragraph ∷ at 1 0 1 body.MaybeLinkOpen ∷
    at 1 1 2 (body.MaybeLinkClose true) ∷ at 1 2 4 (body.Text false) ∷ []) [] ∷
    -- 488
    example (codes "[link](/my uri)\n") (at 0 0 16 body.Paragraph ∷ at 1 0 1 body.MaybeLinkOpen ∷
    at 1 1 5 (body.Text false) ∷ at 1 5 6 (body.MaybeLinkClose true) ∷ at 1 6 15 (body.Text false) ∷ []) [] ∷
    -- 489
    example (codes "[link](</my uri>)\n") (at 0 0 18 body.Paragraph ∷ at 1 0 1 body.MaybeLinkOpen ∷
    at 1 1 5 (body.Text false) ∷ at 1 5 6 (body.MaybeLinkClose true) ∷ at 1 6 7 (body.Text false) ∷
    at 1 7 8 body.MaybeHtml ∷ at 1 8 17 (body.Text false) ∷ []) [] ∷
    -- 490
    example (codes "[link](foo\nbar)\n") (at 0 0 16 body.Paragraph ∷ at 1 0 1 body.MaybeLinkOpen ∷
    at 1 1 5 (body.Text false) ∷ at 1 5 6 (body.MaybeLinkClose true) ∷ at 1 6 10 (body.Text false) ∷
    at 1 10 11 body.SoftBreak ∷ at 1 11 15 (body.Text false) ∷ []) [] ∷
    -- 491
    example (codes "[link](<foo\nbar>)\n") (at 0 0 18 body.Paragraph ∷ at 1 0 1 body.MaybeLinkOpen ∷
    at 1 1 5 (body.Text false) ∷ at 1 5 6 (body.MaybeLinkClose true) ∷ at 1 6 7 (body.Text false) ∷
    at 1 7 8 body.MaybeHtml ∷ at 1 8 11 (body.Text false) ∷ at 1 11 12 body.SoftBreak ∷ at 1 12 17 (body.Text false) ∷
    []) [] ∷
    -- 492
    example (codes "[a](<b)c>)\n") (at 0 0 11 body.Paragraph ∷ at 1 0 1 body.MaybeLinkOpen ∷
    at 1 1 2 (body.Text false) ∷ at 1 2 3 (body.MaybeLinkClose true) ∷ at 1 3 4 (body.Text false) ∷
    at 1 4 5 body.MaybeHtml ∷ at 1 5 10 (body.Text false) ∷ []) [] ∷
    -- 493
    example (codes "[link](<foo\\>)\n") (at 0 0 15 body.Paragraph ∷ at 1 0 1 body.MaybeLinkOpen ∷
    at 1 1 5 (body.Text false) ∷ at 1 5 6 (body.MaybeLinkClose true) ∷ at 1 6 7 (body.Text false) ∷
    at 1 7 8 body.MaybeHtml ∷ at 1 8 11 (body.Text false) ∷ at 1 12 14 (body.Text true) ∷ []) [] ∷
    -- 494
    example (codes "[a](<b)c\n[a](<b)c>\n[a](<b>c)\n") (at 0 0 29 body.Paragraph ∷ at 1 0 1 body.MaybeLinkOpen ∷
    at 1 1 2 (body.Text false) ∷ at 1 2 3 (body.MaybeLinkClose true) ∷ at 1 3 4 (body.Text false) ∷
    at 1 4 5 body.MaybeHtml ∷ at 1 5 8 (body.Text false) ∷ at 1 8 9 body.SoftBreak ∷ at 1 9 10 body.MaybeLinkOpen ∷
    at 1 10 11 (body.Text false) ∷ at 1 11 12 (body.MaybeLinkClose true) ∷ at 1 12 13 (body.Text false) ∷
    at 1 13 14 body.MaybeHtml ∷ at 1 14 18 (body.Text false) ∷ at 1 18 19 body.SoftBreak ∷
    at 1 19 20 body.MaybeLinkOpen ∷ at 1 20 21 (body.Text false) ∷ at 1 21 22 (body.MaybeLinkClose true) ∷
    at 1 22 23 (body.Text false) ∷ at 1 23 24 body.MaybeHtml ∷ at 1 24 28 (body.Text false) ∷ []) [] ∷
    -- 495
    example (codes "[link](\\(foo\\))\n") (at 0 0 16 body.Paragraph ∷ at 1 0 1 body.MaybeLinkOpen ∷
    at 1 1 5 (body.Text false) ∷ at 1 5 6 (body.MaybeLinkClose true) ∷ at 1 6 7 (body.Text false) ∷
    at 1 8 12 (body.Text true) ∷ at 1 13 15 (body.Text true) ∷ []) [] ∷
    -- 496
    example (codes "[link](foo(and(bar)))\n") (at 0 0 22 body.Paragraph ∷ at 1 0 1 body.MaybeLinkOpen ∷
    at 1 1 5 (body.Text false) ∷ at 1 5 6 (body.MaybeLinkClose true) ∷ at 1 6 21 (body.Text false) ∷ []) [] ∷
    -- 497
    example (codes "[link](foo(and(bar))\n") (at 0 0 21 body.Paragraph ∷ at 1 0 1 body.MaybeLinkOpen ∷
    at 1 1 5 (body.Text false) ∷ at 1 5 6 (body.MaybeLinkClose true) ∷ at 1 6 20 (body.Text false) ∷ []) [] ∷
    -- 498
    example (codes "[link](foo\\(and\\(bar\\))\n") (at 0 0 24 body.Paragraph ∷ at 1 0 1 body.MaybeLinkOpen ∷
    at 1 1 5 (body.Text false) ∷ at 1 5 6 (body.MaybeLinkClose true) ∷ at 1 6 10 (body.Text false) ∷
    at 1 11 15 (body.Text true) ∷ at 1 16 20 (body.Text true) ∷ at 1 21 23 (body.Text true) ∷ []) [] ∷
    -- 499
    example (codes "[link](<foo(and(bar)>)\n") (at 0 0 23 body.Paragraph ∷ at 1 0 1 body.MaybeLinkOpen ∷
    at 1 1 5 (body.Text false) ∷ at 1 5 6 (body.MaybeLinkClose true) ∷ at 1 6 7 (body.Text false) ∷
    at 1 7 8 body.MaybeHtml ∷ at 1 8 22 (body.Text false) ∷ []) [] ∷
    -- 500
    example (codes "[link](foo\\)\\:)\n") (at 0 0 16 body.Paragraph ∷ at 1 0 1 body.MaybeLinkOpen ∷
    at 1 1 5 (body.Text false) ∷ at 1 5 6 (body.MaybeLinkClose true) ∷ at 1 6 10 (body.Text false) ∷
    at 1 11 12 (body.Text true) ∷ at 1 13 15 (body.Text true) ∷ []) [] ∷
    -- 501
    example (codes "[link](#fragment)\n\n[link](http://example.com#fragment)\n\n" ++
    codes "[link](http://example.com?foo=3#frag)\n") (at 0 0 18 body.Paragraph ∷ at 1 0 1 body.MaybeLinkOpen ∷
    at 1 1 5 (body.Text false) ∷ at 1 5 6 (body.MaybeLinkClose true) ∷ at 1 6 17 (body.Text false) ∷
    at 0 19 55 body.Paragraph ∷ at 1 19 20 body.MaybeLinkOpen ∷ at 1 20 24 (body.Text false) ∷
    at 1 24 25 (body.MaybeLinkClose true) ∷ at 1 25 54 (body.Text false) ∷ at 0 56 94 body.Paragraph ∷
    at 1 56 57 body.MaybeLinkOpen ∷ at 1 57 61 (body.Text false) ∷ at 1 61 62 (body.MaybeLinkClose true) ∷
    at 1 62 93 (body.Text false) ∷ []) [] ∷
    -- 502
    example (codes "[link](foo\\bar)\n") (at 0 0 16 body.Paragraph ∷ at 1 0 1 body.MaybeLinkOpen ∷
    at 1 1 5 (body.Text false) ∷ at 1 5 6 (body.MaybeLinkClose true) ∷ at 1 6 15 (body.Text false) ∷ []) [] ∷
    -- 503
    example (codes "[link](foo%20b&auml;)\n") (at 0 0 22 body.Paragraph ∷ at 1 0 1 body.MaybeLinkOpen ∷
    at 1 1 5 (body.Text false) ∷ at 1 5 6 (body.MaybeLinkClose true) ∷ at 1 6 21 (body.Text false) ∷ []) [] ∷
    -- 504
    example (codes "[link](\"title\")\n") (at 0 0 16 body.Paragraph ∷ at 1 0 1 body.MaybeLinkOpen ∷
    at 1 1 5 (body.Text false) ∷ at 1 5 6 (body.MaybeLinkClose true) ∷ at 1 6 15 (body.Text false) ∷ []) [] ∷
    -- 505
    example (codes "[link](/url \"title\")\n[link](/url 'title')\n[link](/url (title))\n") (at 0 0 63 body.Paragraph ∷
    at 1 0 1 body.MaybeLinkOpen ∷ at 1 1 5 (body.Text false) ∷ at 1 5 6 (body.MaybeLinkClose true) ∷
    at 1 6 20 (body.Text false) ∷ at 1 20 21 body.SoftBreak ∷ at 1 21 22 body.MaybeLinkOpen ∷
    at 1 22 26 (body.Text false) ∷ at 1 26 27 (body.MaybeLinkClose true) ∷ at 1 27 41 (body.Text false) ∷
    at 1 41 42 body.SoftBreak ∷ at 1 42 43 body.MaybeLinkOpen ∷ at 1 43 47 (body.Text false) ∷
    at 1 47 48 (body.MaybeLinkClose true) ∷ at 1 48 62 (body.Text false) ∷ []) [] ∷
    -- 506
    example (codes "[link](/url \"title \\\"&quot;\")\n") (at 0 0 30 body.Paragraph ∷ at 1 0 1 body.MaybeLinkOpen ∷
    at 1 1 5 (body.Text false) ∷ at 1 5 6 (body.MaybeLinkClose true) ∷ at 1 6 19 (body.Text false) ∷
    at 1 20 21 (body.Text true) ∷ naming_at 1 21 27 body.SynthesizeText (codes "\"") ∷ at 1 27 29 (body.Text false) ∷
    []) [] ∷
    -- 507
    example (codes "[link](/url" ++ (194 ∷ 160 ∷ []) ++ codes "\"title\")\n") (at 0 0 22 body.Paragraph ∷
    at 1 0 1 body.MaybeLinkOpen ∷ at 1 1 5 (body.Text false) ∷ at 1 5 6 (body.MaybeLinkClose true) ∷
    at 1 6 21 (body.Text false) ∷ []) [] ∷
    -- 508
    example (codes "[link](/url \"title \"and\" title\")\n") (at 0 0 33 body.Paragraph ∷ at 1 0 1 body.MaybeLinkOpen ∷
    at 1 1 5 (body.Text false) ∷ at 1 5 6 (body.MaybeLinkClose true) ∷ at 1 6 32 (body.Text false) ∷ []) [] ∷
    -- 509
    example (codes "[link](/url 'title \"and\" title')\n") (at 0 0 33 body.Paragraph ∷ at 1 0 1 body.MaybeLinkOpen ∷
    at 1 1 5 (body.Text false) ∷ at 1 5 6 (body.MaybeLinkClose true) ∷ at 1 6 32 (body.Text false) ∷ []) [] ∷
    -- 510
    example (codes "[link](   /uri\n  \"title\"  )\n") (at 0 0 28 body.Paragraph ∷ at 1 0 1 body.MaybeLinkOpen ∷
    at 1 1 5 (body.Text false) ∷ at 1 5 6 (body.MaybeLinkClose true) ∷ at 1 6 14 (body.Text false) ∷
    at 1 14 15 body.SoftBreak ∷ at 1 17 27 (body.Text false) ∷ []) [] ∷
    -- 511
    example (codes "[link] (/uri)\n") (at 0 0 14 body.Paragraph ∷ at 1 0 1 body.MaybeLinkOpen ∷
    at 1 1 5 (body.Text false) ∷ at 1 5 6 (body.MaybeLinkClose true) ∷ at 1 6 13 (body.Text false) ∷ []) [] ∷
    -- 512
    example (codes "[link [foo [bar]]](/uri)\n") (at 0 0 25 body.Paragraph ∷ at 1 0 1 body.MaybeLinkOpen ∷
    at 1 1 6 (body.Text false) ∷ at 1 6 7 body.MaybeLinkOpen ∷ at 1 7 11 (body.Text false) ∷
    at 1 11 12 body.MaybeLinkOpen ∷ at 1 12 15 (body.Text false) ∷ at 1 15 16 (body.MaybeLinkClose true) ∷
    at 1 16 17 (body.MaybeLinkClose true) ∷ at 1 17 18 (body.MaybeLinkClose true) ∷ at 1 18 24 (body.Text false) ∷ [])
    [] ∷
    -- 513
    example (codes "[link] bar](/uri)\n") (at 0 0 18 body.Paragraph ∷ at 1 0 1 body.MaybeLinkOpen ∷
    at 1 1 5 (body.Text false) ∷ at 1 5 6 (body.MaybeLinkClose true) ∷ at 1 6 10 (body.Text false) ∷
    at 1 10 11 (body.MaybeLinkClose true) ∷ at 1 11 17 (body.Text false) ∷ []) [] ∷
    -- 514
    example (codes "[link [bar](/uri)\n") (at 0 0 18 body.Paragraph ∷ at 1 0 1 body.MaybeLinkOpen ∷
    at 1 1 6 (body.Text false) ∷ at 1 6 7 body.MaybeLinkOpen ∷ at 1 7 10 (body.Text false) ∷
    at 1 10 11 (body.MaybeLinkClose true) ∷ at 1 11 17 (body.Text false) ∷ []) [] ∷
    -- 515
    example (codes "[link \\[bar](/uri)\n") (at 0 0 19 body.Paragraph ∷ at 1 0 1 body.MaybeLinkOpen ∷
    at 1 1 6 (body.Text false) ∷ at 1 7 11 (body.Text true) ∷ at 1 11 12 (body.MaybeLinkClose true) ∷
    at 1 12 18 (body.Text false) ∷ []) [] ∷
    -- 516
    example (codes "[link *foo **bar** `#`*](/uri)\n") (at 0 0 31 body.Paragraph ∷ at 1 0 1 body.MaybeLinkOpen ∷
    at 1 1 6 (body.Text false) ∷ at 1 6 7 (body.MaybeEmphasis 1 true false) ∷ at 1 7 11 (body.Text false) ∷
    at 1 11 12 (body.MaybeEmphasis 2 true false) ∷ at 1 12 13 (body.MaybeEmphasis 1 true false) ∷
    at 1 13 16 (body.Text false) ∷ at 1 16 17 (body.MaybeEmphasis 2 false true) ∷
    at 1 17 18 (body.MaybeEmphasis 1 false true) ∷ at 1 18 19 (body.Text false) ∷
    at 1 19 20 (body.MaybeCode 1 false) ∷ at 1 20 21 (body.Text false) ∷ at 1 21 22 (body.MaybeCode 1 false) ∷
    at 1 22 23 (body.MaybeEmphasis 1 true true) ∷ at 1 23 24 (body.MaybeLinkClose true) ∷
    at 1 24 30 (body.Text false) ∷ []) [] ∷
    -- 517
    example (codes "[![moon](moon.jpg)](/uri)\n") (at 0 0 26 body.Paragraph ∷ at 1 0 1 body.MaybeLinkOpen ∷
    at 1 1 3 body.MaybeImage ∷ at 1 3 7 (body.Text false) ∷ at 1 7 8 (body.MaybeLinkClose true) ∷
    at 1 8 18 (body.Text false) ∷ at 1 18 19 (body.MaybeLinkClose true) ∷ at 1 19 25 (body.Text false) ∷ []) [] ∷
    -- 518
    example (codes "[foo [bar](/uri)](/uri)\n") (at 0 0 24 body.Paragraph ∷ at 1 0 1 body.MaybeLinkOpen ∷
    at 1 1 5 (body.Text false) ∷ at 1 5 6 body.MaybeLinkOpen ∷ at 1 6 9 (body.Text false) ∷
    at 1 9 10 (body.MaybeLinkClose true) ∷ at 1 10 16 (body.Text false) ∷ at 1 16 17 (body.MaybeLinkClose true) ∷
    at 1 17 23 (body.Text false) ∷ []) [] ∷
    -- 519
    example (codes "[foo *[bar [baz](/uri)](/uri)*](/uri)\n") (at 0 0 38 body.Paragraph ∷
    at 1 0 1 body.MaybeLinkOpen ∷ at 1 1 5 (body.Text false) ∷ at 1 5 6 (body.MaybeEmphasis 1 true false) ∷
    at 1 6 7 body.MaybeLinkOpen ∷ at 1 7 11 (body.Text false) ∷ at 1 11 12 body.MaybeLinkOpen ∷
    at 1 12 15 (body.Text false) ∷ at 1 15 16 (body.MaybeLinkClose true) ∷ at 1 16 22 (body.Text false) ∷
    at 1 22 23 (body.MaybeLinkClose true) ∷ at 1 23 29 (body.Text false) ∷
    at 1 29 30 (body.MaybeEmphasis 1 true true) ∷ at 1 30 31 (body.MaybeLinkClose true) ∷
    at 1 31 37 (body.Text false) ∷ []) [] ∷
    -- 520
    example (codes "![[[foo](uri1)](uri2)](uri3)\n") (at 0 0 29 body.Paragraph ∷ at 1 0 2 body.MaybeImage ∷
    at 1 2 3 body.MaybeLinkOpen ∷ at 1 3 4 body.MaybeLinkOpen ∷ at 1 4 7 (body.Text false) ∷
    at 1 7 8 (body.MaybeLinkClose true) ∷ at 1 8 14 (body.Text false) ∷ at 1 14 15 (body.MaybeLinkClose true) ∷
    at 1 15 21 (body.Text false) ∷ at 1 21 22 (body.MaybeLinkClose true) ∷ at 1 22 28 (body.Text false) ∷ []) [] ∷
    -- 521
    example (codes "*[foo*](/uri)\n") (at 0 0 14 body.Paragraph ∷ at 1 0 1 (body.MaybeEmphasis 1 true false) ∷
    at 1 1 2 body.MaybeLinkOpen ∷ at 1 2 5 (body.Text false) ∷ at 1 5 6 (body.MaybeEmphasis 1 false true) ∷
    at 1 6 7 (body.MaybeLinkClose true) ∷ at 1 7 13 (body.Text false) ∷ []) [] ∷
    -- 522
    example (codes "[foo *bar](baz*)\n") (at 0 0 17 body.Paragraph ∷ at 1 0 1 body.MaybeLinkOpen ∷
    at 1 1 5 (body.Text false) ∷ at 1 5 6 (body.MaybeEmphasis 1 true false) ∷ at 1 6 9 (body.Text false) ∷
    at 1 9 10 (body.MaybeLinkClose true) ∷ at 1 10 14 (body.Text false) ∷
    at 1 14 15 (body.MaybeEmphasis 1 false true) ∷ at 1 15 16 (body.Text false) ∷ []) [] ∷
    -- 523
    example (codes "*foo [bar* baz]\n") (at 0 0 16 body.Paragraph ∷ at 1 0 1 (body.MaybeEmphasis 1 true false) ∷
    at 1 1 5 (body.Text false) ∷ at 1 5 6 body.MaybeLinkOpen ∷ at 1 6 9 (body.Text false) ∷
    at 1 9 10 (body.MaybeEmphasis 1 false true) ∷ at 1 10 14 (body.Text false) ∷
    at 1 14 15 (body.MaybeLinkClose true) ∷ []) [] ∷
    -- 524
    example (codes "[foo <bar attr=\"](baz)\">\n") (at 0 0 25 body.Paragraph ∷ at 1 0 1 body.MaybeLinkOpen ∷
    at 1 1 5 (body.Text false) ∷ at 1 5 6 body.MaybeHtml ∷ at 1 6 16 (body.Text false) ∷
    at 1 16 17 (body.MaybeLinkClose true) ∷ at 1 17 24 (body.Text false) ∷ []) [] ∷
    -- 525
    example (codes "[foo`](/uri)`\n") (at 0 0 14 body.Paragraph ∷ at 1 0 1 body.MaybeLinkOpen ∷
    at 1 1 4 (body.Text false) ∷ at 1 4 5 (body.MaybeCode 1 false) ∷ at 1 5 6 (body.MaybeLinkClose true) ∷
    at 1 6 12 (body.Text false) ∷ at 1 12 13 (body.MaybeCode 1 false) ∷ []) [] ∷
    -- 526
    example (codes "[foo<http://example.com/?search=](uri)>\n") (at 0 0 40 body.Paragraph ∷
    at 1 0 1 body.MaybeLinkOpen ∷ at 1 1 4 (body.Text false) ∷ at 1 4 5 body.MaybeHtml ∷ at 1 5 32 (body.Text false) ∷
    at 1 32 33 (body.MaybeLinkClose true) ∷ at 1 33 39 (body.Text false) ∷ []) [] ∷
    -- 527
    example (codes "[foo][bar]\n\n[bar]: /url \"title\"\n") (at 0 0 11 body.Paragraph ∷ at 1 0 1 body.MaybeLinkOpen ∷
    at 1 1 4 (body.Text false) ∷ at 1 4 5 (body.MaybeLinkClose true) ∷ at 1 5 6 body.MaybeLinkOpen ∷
    at 1 6 9 (body.Text false) ∷ at 1 9 10 (body.MaybeLinkClose true) ∷ [])
    (defined 12 31 (codes "bar") (codes "/url") (Some (codes "title")) ∷ []) ∷
    -- 528
    example (codes "[link [foo [bar]]][ref]\n\n[ref]: /uri\n") (at 0 0 24 body.Paragraph ∷
    at 1 0 1 body.MaybeLinkOpen ∷ at 1 1 6 (body.Text false) ∷ at 1 6 7 body.MaybeLinkOpen ∷
    at 1 7 11 (body.Text false) ∷ at 1 11 12 body.MaybeLinkOpen ∷ at 1 12 15 (body.Text false) ∷
    at 1 15 16 (body.MaybeLinkClose true) ∷ at 1 16 17 (body.MaybeLinkClose true) ∷
    at 1 17 18 (body.MaybeLinkClose true) ∷ at 1 18 19 body.MaybeLinkOpen ∷ at 1 19 22 (body.Text false) ∷
    at 1 22 23 (body.MaybeLinkClose true) ∷ []) (defined 25 36 (codes "ref") (codes "/uri") None ∷ []) ∷
    -- 529
    example (codes "[link \\[bar][ref]\n\n[ref]: /uri\n") (at 0 0 18 body.Paragraph ∷ at 1 0 1 body.MaybeLinkOpen ∷
    at 1 1 6 (body.Text false) ∷ at 1 7 11 (body.Text true) ∷ at 1 11 12 (body.MaybeLinkClose true) ∷
    at 1 12 13 body.MaybeLinkOpen ∷ at 1 13 16 (body.Text false) ∷ at 1 16 17 (body.MaybeLinkClose true) ∷ [])
    (defined 19 30 (codes "ref") (codes "/uri") None ∷ []) ∷
    -- 530
    example (codes "[link *foo **bar** `#`*][ref]\n\n[ref]: /uri\n") (at 0 0 30 body.Paragraph ∷
    at 1 0 1 body.MaybeLinkOpen ∷ at 1 1 6 (body.Text false) ∷ at 1 6 7 (body.MaybeEmphasis 1 true false) ∷
    at 1 7 11 (body.Text false) ∷ at 1 11 12 (body.MaybeEmphasis 2 true false) ∷
    at 1 12 13 (body.MaybeEmphasis 1 true false) ∷ at 1 13 16 (body.Text false) ∷
    at 1 16 17 (body.MaybeEmphasis 2 false true) ∷ at 1 17 18 (body.MaybeEmphasis 1 false true) ∷
    at 1 18 19 (body.Text false) ∷ at 1 19 20 (body.MaybeCode 1 false) ∷ at 1 20 21 (body.Text false) ∷
    at 1 21 22 (body.MaybeCode 1 false) ∷ at 1 22 23 (body.MaybeEmphasis 1 true true) ∷
    at 1 23 24 (body.MaybeLinkClose true) ∷ at 1 24 25 body.MaybeLinkOpen ∷ at 1 25 28 (body.Text false) ∷
    at 1 28 29 (body.MaybeLinkClose true) ∷ []) (defined 31 42 (codes "ref") (codes "/uri") None ∷ []) ∷
    -- 531
    example (codes "[![moon](moon.jpg)][ref]\n\n[ref]: /uri\n") (at 0 0 25 body.Paragraph ∷
    at 1 0 1 body.MaybeLinkOpen ∷ at 1 1 3 body.MaybeImage ∷ at 1 3 7 (body.Text false) ∷
    at 1 7 8 (body.MaybeLinkClose true) ∷ at 1 8 18 (body.Text false) ∷ at 1 18 19 (body.MaybeLinkClose true) ∷
    at 1 19 20 body.MaybeLinkOpen ∷ at 1 20 23 (body.Text false) ∷ at 1 23 24 (body.MaybeLinkClose true) ∷ [])
    (defined 26 37 (codes "ref") (codes "/uri") None ∷ []) ∷
    -- 532
    example (codes "[foo [bar](/uri)][ref]\n\n[ref]: /uri\n") (at 0 0 23 body.Paragraph ∷
    at 1 0 1 body.MaybeLinkOpen ∷ at 1 1 5 (body.Text false) ∷ at 1 5 6 body.MaybeLinkOpen ∷
    at 1 6 9 (body.Text false) ∷ at 1 9 10 (body.MaybeLinkClose true) ∷ at 1 10 16 (body.Text false) ∷
    at 1 16 17 (body.MaybeLinkClose true) ∷ at 1 17 18 body.MaybeLinkOpen ∷ at 1 18 21 (body.Text false) ∷
    at 1 21 22 (body.MaybeLinkClose true) ∷ []) (defined 24 35 (codes "ref") (codes "/uri") None ∷ []) ∷
    -- 533
    example (codes "[foo *bar [baz][ref]*][ref]\n\n[ref]: /uri\n") (at 0 0 28 body.Paragraph ∷
    at 1 0 1 body.MaybeLinkOpen ∷ at 1 1 5 (body.Text false) ∷ at 1 5 6 (body.MaybeEmphasis 1 true false) ∷
    at 1 6 10 (body.Text false) ∷ at 1 10 11 body.MaybeLinkOpen ∷ at 1 11 14 (body.Text false) ∷
    at 1 14 15 (body.MaybeLinkClose true) ∷ at 1 15 16 body.MaybeLinkOpen ∷ at 1 16 19 (body.Text false) ∷
    at 1 19 20 (body.MaybeLinkClose true) ∷ at 1 20 21 (body.MaybeEmphasis 1 true true) ∷
    at 1 21 22 (body.MaybeLinkClose true) ∷ at 1 22 23 body.MaybeLinkOpen ∷ at 1 23 26 (body.Text false) ∷
    at 1 26 27 (body.MaybeLinkClose true) ∷ []) (defined 29 40 (codes "ref") (codes "/uri") None ∷ []) ∷
    -- 534
    example (codes "*[foo*][ref]\n\n[ref]: /uri\n") (at 0 0 13 body.Paragraph ∷
    at 1 0 1 (body.MaybeEmphasis 1 true false) ∷ at 1 1 2 body.MaybeLinkOpen ∷ at 1 2 5 (body.Text false) ∷
    at 1 5 6 (body.MaybeEmphasis 1 false true) ∷ at 1 6 7 (body.MaybeLinkClose true) ∷ at 1 7 8 body.MaybeLinkOpen ∷
    at 1 8 11 (body.Text false) ∷ at 1 11 12 (body.MaybeLinkClose true) ∷ [])
    (defined 14 25 (codes "ref") (codes "/uri") None ∷ []) ∷
    -- 535
    example (codes "[foo *bar][ref]*\n\n[ref]: /uri\n") (at 0 0 17 body.Paragraph ∷ at 1 0 1 body.MaybeLinkOpen ∷
    at 1 1 5 (body.Text false) ∷ at 1 5 6 (body.MaybeEmphasis 1 true false) ∷ at 1 6 9 (body.Text false) ∷
    at 1 9 10 (body.MaybeLinkClose true) ∷ at 1 10 11 body.MaybeLinkOpen ∷ at 1 11 14 (body.Text false) ∷
    at 1 14 15 (body.MaybeLinkClose true) ∷ at 1 15 16 (body.MaybeEmphasis 1 false true) ∷ [])
    (defined 18 29 (codes "ref") (codes "/uri") None ∷ []) ∷
    -- 536
    example (codes "[foo <bar attr=\"][ref]\">\n\n[ref]: /uri\n") (at 0 0 25 body.Paragraph ∷
    at 1 0 1 body.MaybeLinkOpen ∷ at 1 1 5 (body.Text false) ∷ at 1 5 6 body.MaybeHtml ∷ at 1 6 16 (body.Text false) ∷
    at 1 16 17 (body.MaybeLinkClose true) ∷ at 1 17 18 body.MaybeLinkOpen ∷ at 1 18 21 (body.Text false) ∷
    at 1 21 22 (body.MaybeLinkClose true) ∷ at 1 22 24 (body.Text false) ∷ [])
    (defined 26 37 (codes "ref") (codes "/uri") None ∷ []) ∷
    -- 537
    example (codes "[foo`][ref]`\n\n[ref]: /uri\n") (at 0 0 13 body.Paragraph ∷ at 1 0 1 body.MaybeLinkOpen ∷
    at 1 1 4 (body.Text false) ∷ at 1 4 5 (body.MaybeCode 1 false) ∷ at 1 5 6 (body.MaybeLinkClose true) ∷
    at 1 6 7 body.MaybeLinkOpen ∷ at 1 7 10 (body.Text false) ∷ at 1 10 11 (body.MaybeLinkClose true) ∷
    at 1 11 12 (body.MaybeCode 1 false) ∷ []) (defined 14 25 (codes "ref") (codes "/uri") None ∷ []) ∷
    -- 538
    example (codes "[foo<http://example.com/?search=][ref]>\n\n[ref]: /uri\n") (at 0 0 40 body.Paragraph ∷
    at 1 0 1 body.MaybeLinkOpen ∷ at 1 1 4 (body.Text false) ∷ at 1 4 5 body.MaybeHtml ∷ at 1 5 32 (body.Text false) ∷
    at 1 32 33 (body.MaybeLinkClose true) ∷ at 1 33 34 body.MaybeLinkOpen ∷ at 1 34 37 (body.Text false) ∷
    at 1 37 38 (body.MaybeLinkClose true) ∷ at 1 38 39 (body.Text false) ∷ [])
    (defined 41 52 (codes "ref") (codes "/uri") None ∷ []) ∷
    -- 539
    example (codes "[foo][BaR]\n\n[bar]: /url \"title\"\n") (at 0 0 11 body.Paragraph ∷ at 1 0 1 body.MaybeLinkOpen ∷
    at 1 1 4 (body.Text false) ∷ at 1 4 5 (body.MaybeLinkClose true) ∷ at 1 5 6 body.MaybeLinkOpen ∷
    at 1 6 9 (body.Text false) ∷ at 1 9 10 (body.MaybeLinkClose true) ∷ [])
    (defined 12 31 (codes "bar") (codes "/url") (Some (codes "title")) ∷ []) ∷
    -- 540
    example (codes "[" ++ (225 ∷ 186 ∷ 158 ∷ []) ++ codes "]\n\n[SS]: /url\n") (at 0 0 6 body.Paragraph ∷
    at 1 0 1 body.MaybeLinkOpen ∷ at 1 1 4 (body.Text false) ∷ at 1 4 5 (body.MaybeLinkClose true) ∷ [])
    (defined 7 17 (codes "SS") (codes "/url") None ∷ []) ∷
    -- 541
    example (codes "[Foo\n  bar]: /url\n\n[Baz][Foo bar]\n") (at 0 19 34 body.Paragraph ∷
    at 1 19 20 body.MaybeLinkOpen ∷ at 1 20 23 (body.Text false) ∷ at 1 23 24 (body.MaybeLinkClose true) ∷
    at 1 24 25 body.MaybeLinkOpen ∷ at 1 25 32 (body.Text false) ∷ at 1 32 33 (body.MaybeLinkClose true) ∷ [])
    (defined 0 17 (codes "Foo bar") (codes "/url") None ∷ []) ∷
    -- 542
    example (codes "[foo] [bar]\n\n[bar]: /url \"title\"\n") (at 0 0 12 body.Paragraph ∷ at 1 0 1 body.MaybeLinkOpen ∷
    at 1 1 4 (body.Text false) ∷ at 1 4 5 (body.MaybeLinkClose true) ∷ at 1 5 6 (body.Text false) ∷
    at 1 6 7 body.MaybeLinkOpen ∷ at 1 7 10 (body.Text false) ∷ at 1 10 11 (body.MaybeLinkClose true) ∷ [])
    (defined 13 32 (codes "bar") (codes "/url") (Some (codes "title")) ∷ []) ∷
    -- 543
    example (codes "[foo]\n[bar]\n\n[bar]: /url \"title\"\n") (at 0 0 12 body.Paragraph ∷
    at 1 0 1 body.MaybeLinkOpen ∷ at 1 1 4 (body.Text false) ∷ at 1 4 5 (body.MaybeLinkClose true) ∷
    at 1 5 6 body.SoftBreak ∷ at 1 6 7 body.MaybeLinkOpen ∷ at 1 7 10 (body.Text false) ∷
    at 1 10 11 (body.MaybeLinkClose true) ∷ []) (defined 13 32 (codes "bar") (codes "/url") (Some (codes "title")) ∷
    []) ∷
    -- 544
    example (codes "[foo]: /url1\n\n[foo]: /url2\n\n[bar][foo]\n") (at 0 28 39 body.Paragraph ∷
    at 1 28 29 body.MaybeLinkOpen ∷ at 1 29 32 (body.Text false) ∷ at 1 32 33 (body.MaybeLinkClose true) ∷
    at 1 33 34 body.MaybeLinkOpen ∷ at 1 34 37 (body.Text false) ∷ at 1 37 38 (body.MaybeLinkClose true) ∷ [])
    (defined 0 12 (codes "foo") (codes "/url1") None ∷ defined 14 26 (codes "foo") (codes "/url2") None ∷ []) ∷
    -- 545
    example (codes "[bar][foo\\!]\n\n[foo!]: /url\n") (at 0 0 13 body.Paragraph ∷ at 1 0 1 body.MaybeLinkOpen ∷
    at 1 1 4 (body.Text false) ∷ at 1 4 5 (body.MaybeLinkClose true) ∷ at 1 5 6 body.MaybeLinkOpen ∷
    at 1 6 9 (body.Text false) ∷ at 1 10 11 (body.Text true) ∷ at 1 11 12 (body.MaybeLinkClose true) ∷ [])
    (defined 14 26 (codes "foo!") (codes "/url") None ∷ []) ∷
    -- 546
    example (codes "[foo][ref[]\n\n[ref[]: /uri\n") (at 0 0 12 body.Paragraph ∷ at 1 0 1 body.MaybeLinkOpen ∷
    at 1 1 4 (body.Text false) ∷ at 1 4 5 (body.MaybeLinkClose true) ∷ at 1 5 6 body.MaybeLinkOpen ∷
    at 1 6 9 (body.Text false) ∷ at 1 9 10 body.MaybeLinkOpen ∷ at 1 10 11 (body.MaybeLinkClose true) ∷
    at 0 13 26 body.Paragraph ∷ at 1 13 14 body.MaybeLinkOpen ∷ at 1 14 17 (body.Text false) ∷
    at 1 17 18 body.MaybeLinkOpen ∷ at 1 18 19 (body.MaybeLinkClose true) ∷ at 1 19 25 (body.Text false) ∷ []) [] ∷
    -- 547
    example (codes "[foo][ref[bar]]\n\n[ref[bar]]: /uri\n") (at 0 0 16 body.Paragraph ∷ at 1 0 1 body.MaybeLinkOpen ∷
    at 1 1 4 (body.Text false) ∷ at 1 4 5 (body.MaybeLinkClose true) ∷ at 1 5 6 body.MaybeLinkOpen ∷
    at 1 6 9 (body.Text false) ∷ at 1 9 10 body.MaybeLinkOpen ∷ at 1 10 13 (body.Text false) ∷
    at 1 13 14 (body.MaybeLinkClose true) ∷ at 1 14 15 (body.MaybeLinkClose true) ∷ at 0 17 34 body.Paragraph ∷
    at 1 17 18 body.MaybeLinkOpen ∷ at 1 18 21 (body.Text false) ∷ at 1 21 22 body.MaybeLinkOpen ∷
    at 1 22 25 (body.Text false) ∷ at 1 25 26 (body.MaybeLinkClose true) ∷ at 1 26 27 (body.MaybeLinkClose true) ∷
    at 1 27 33 (body.Text false) ∷ []) [] ∷
    -- 548
    example (codes "[[[foo]]]\n\n[[[foo]]]: /url\n") (at 0 0 10 body.Paragraph ∷ at 1 0 1 body.MaybeLinkOpen ∷
    at 1 1 2 body.MaybeLinkOpen ∷ at 1 2 3 body.MaybeLinkOpen ∷ at 1 3 6 (body.Text false) ∷
    at 1 6 7 (body.MaybeLinkClose true) ∷ at 1 7 8 (body.MaybeLinkClose true) ∷ at 1 8 9 (body.MaybeLinkClose true) ∷
    at 0 11 27 body.Paragraph ∷ at 1 11 12 body.MaybeLinkOpen ∷ at 1 12 13 body.MaybeLinkOpen ∷
    at 1 13 14 body.MaybeLinkOpen ∷ at 1 14 17 (body.Text false) ∷ at 1 17 18 (body.MaybeLinkClose true) ∷
    at 1 18 19 (body.MaybeLinkClose true) ∷ at 1 19 20 (body.MaybeLinkClose true) ∷ at 1 20 26 (body.Text false) ∷ [])
    [] ∷
    -- 549
    example (codes "[foo][ref\\[]\n\n[ref\\[]: /uri\n") (at 0 0 13 body.Paragraph ∷ at 1 0 1 body.MaybeLinkOpen ∷
    at 1 1 4 (body.Text false) ∷ at 1 4 5 (body.MaybeLinkClose true) ∷ at 1 5 6 body.MaybeLinkOpen ∷
    at 1 6 9 (body.Text false) ∷ at 1 10 11 (body.Text true) ∷ at 1 11 12 (body.MaybeLinkClose true) ∷ [])
    (defined 14 27 (codes "ref\\[") (codes "/uri") None ∷ []) ∷
    -- 550
    example (codes "[bar\\\\]: /uri\n\n[bar\\\\]\n") (at 0 15 23 body.Paragraph ∷ at 1 15 16 body.MaybeLinkOpen ∷
    at 1 16 19 (body.Text false) ∷ at 1 20 21 (body.Text true) ∷ at 1 21 22 (body.MaybeLinkClose true) ∷ [])
    (defined 0 13 (codes "bar\\\\") (codes "/uri") None ∷ []) ∷
    -- 551
    example (codes "[]\n\n[]: /uri\n") (at 0 0 3 body.Paragraph ∷ at 1 0 1 body.MaybeLinkOpen ∷
    at 1 1 2 (body.MaybeLinkClose true) ∷ at 0 4 13 body.Paragraph ∷ at 1 4 5 body.MaybeLinkOpen ∷
    at 1 5 6 (body.MaybeLinkClose true) ∷ at 1 6 12 (body.Text false) ∷ []) [] ∷
    -- 552
    example (codes "[\n ]\n\n[\n ]: /uri\n") (at 0 0 5 body.Paragraph ∷ at 1 0 1 body.MaybeLinkOpen ∷
    at 1 1 2 body.SoftBreak ∷ at 1 3 4 (body.MaybeLinkClose true) ∷ at 0 6 17 body.Paragraph ∷
    at 1 6 7 body.MaybeLinkOpen ∷ at 1 7 8 body.SoftBreak ∷ at 1 9 10 (body.MaybeLinkClose true) ∷
    at 1 10 16 (body.Text false) ∷ []) [] ∷
    -- 553
    example (codes "[foo][]\n\n[foo]: /url \"title\"\n") (at 0 0 8 body.Paragraph ∷ at 1 0 1 body.MaybeLinkOpen ∷
    at 1 1 4 (body.Text false) ∷ at 1 4 5 (body.MaybeLinkClose true) ∷ at 1 5 6 body.MaybeLinkOpen ∷
    at 1 6 7 (body.MaybeLinkClose true) ∷ []) (defined 9 28 (codes "foo") (codes "/url") (Some (codes "title")) ∷ []) ∷
    -- 554
    example (codes "[*foo* bar][]\n\n[*foo* bar]: /url \"title\"\n") (at 0 0 14 body.Paragraph ∷
    at 1 0 1 body.MaybeLinkOpen ∷ at 1 1 2 (body.MaybeEmphasis 1 true false) ∷ at 1 2 5 (body.Text false) ∷
    at 1 5 6 (body.MaybeEmphasis 1 false true) ∷ at 1 6 10 (body.Text false) ∷ at 1 10 11 (body.MaybeLinkClose true) ∷
    at 1 11 12 body.MaybeLinkOpen ∷ at 1 12 13 (body.MaybeLinkClose true) ∷ [])
    (defined 15 40 (codes "*foo* bar") (codes "/url") (Some (codes "title")) ∷ []) ∷
    -- 555
    example (codes "[Foo][]\n\n[foo]: /url \"title\"\n") (at 0 0 8 body.Paragraph ∷ at 1 0 1 body.MaybeLinkOpen ∷
    at 1 1 4 (body.Text false) ∷ at 1 4 5 (body.MaybeLinkClose true) ∷ at 1 5 6 body.MaybeLinkOpen ∷
    at 1 6 7 (body.MaybeLinkClose true) ∷ []) (defined 9 28 (codes "foo") (codes "/url") (Some (codes "title")) ∷ []) ∷
    -- 556
    example (codes "[foo] \n[]\n\n[foo]: /url \"title\"\n") (at 0 0 10 body.Paragraph ∷ at 1 0 1 body.MaybeLinkOpen ∷
    at 1 1 4 (body.Text false) ∷ at 1 4 5 (body.MaybeLinkClose true) ∷ at 1 6 7 body.SoftBreak ∷
    at 1 7 8 body.MaybeLinkOpen ∷ at 1 8 9 (body.MaybeLinkClose true) ∷ [])
    (defined 11 30 (codes "foo") (codes "/url") (Some (codes "title")) ∷ []) ∷
    -- 557
    example (codes "[foo]\n\n[foo]: /url \"title\"\n") (at 0 0 6 body.Paragraph ∷ at 1 0 1 body.MaybeLinkOpen ∷
    at 1 1 4 (body.Text false) ∷ at 1 4 5 (body.MaybeLinkClose true) ∷ [])
    (defined 7 26 (codes "foo") (codes "/url") (Some (codes "title")) ∷ []) ∷
    -- 558
    example (codes "[*foo* bar]\n\n[*foo* bar]: /url \"title\"\n") (at 0 0 12 body.Paragraph ∷
    at 1 0 1 body.MaybeLinkOpen ∷ at 1 1 2 (body.MaybeEmphasis 1 true false) ∷ at 1 2 5 (body.Text false) ∷
    at 1 5 6 (body.MaybeEmphasis 1 false true) ∷ at 1 6 10 (body.Text false) ∷ at 1 10 11 (body.MaybeLinkClose true) ∷
    []) (defined 13 38 (codes "*foo* bar") (codes "/url") (Some (codes "title")) ∷ []) ∷
    -- 559
    example (codes "[[*foo* bar]]\n\n[*foo* bar]: /url \"title\"\n") (at 0 0 14 body.Paragraph ∷
    at 1 0 1 body.MaybeLinkOpen ∷ at 1 1 2 body.MaybeLinkOpen ∷ at 1 2 3 (body.MaybeEmphasis 1 true false) ∷
    at 1 3 6 (body.Text false) ∷ at 1 6 7 (body.MaybeEmphasis 1 false true) ∷ at 1 7 11 (body.Text false) ∷
    at 1 11 12 (body.MaybeLinkClose true) ∷ at 1 12 13 (body.MaybeLinkClose true) ∷ [])
    (defined 15 40 (codes "*foo* bar") (codes "/url") (Some (codes "title")) ∷ []) ∷
    -- 560
    example (codes "[[bar [foo]\n\n[foo]: /url\n") (at 0 0 12 body.Paragraph ∷ at 1 0 1 body.MaybeLinkOpen ∷
    at 1 1 2 body.MaybeLinkOpen ∷ at 1 2 6 (body.Text false) ∷ at 1 6 7 body.MaybeLinkOpen ∷
    at 1 7 10 (body.Text false) ∷ at 1 10 11 (body.MaybeLinkClose true) ∷ [])
    (defined 13 24 (codes "foo") (codes "/url") None ∷ []) ∷
    -- 561
    example (codes "[Foo]\n\n[foo]: /url \"title\"\n") (at 0 0 6 body.Paragraph ∷ at 1 0 1 body.MaybeLinkOpen ∷
    at 1 1 4 (body.Text false) ∷ at 1 4 5 (body.MaybeLinkClose true) ∷ [])
    (defined 7 26 (codes "foo") (codes "/url") (Some (codes "title")) ∷ []) ∷
    -- 562
    example (codes "[foo] bar\n\n[foo]: /url\n") (at 0 0 10 body.Paragraph ∷ at 1 0 1 body.MaybeLinkOpen ∷
    at 1 1 4 (body.Text false) ∷ at 1 4 5 (body.MaybeLinkClose true) ∷ at 1 5 9 (body.Text false) ∷ [])
    (defined 11 22 (codes "foo") (codes "/url") None ∷ []) ∷
    -- 563
    example (codes "\\[foo]\n\n[foo]: /url \"title\"\n") (at 0 0 7 body.Paragraph ∷ at 1 1 5 (body.Text true) ∷
    at 1 5 6 (body.MaybeLinkClose true) ∷ []) (defined 8 27 (codes "foo") (codes "/url") (Some (codes "title")) ∷ []) ∷
    -- 564
    example (codes "[foo*]: /url\n\n*[foo*]\n") (at 0 14 22 body.Paragraph ∷
    at 1 14 15 (body.MaybeEmphasis 1 true false) ∷ at 1 15 16 body.MaybeLinkOpen ∷ at 1 16 19 (body.Text false) ∷
    at 1 19 20 (body.MaybeEmphasis 1 false true) ∷ at 1 20 21 (body.MaybeLinkClose true) ∷ [])
    (defined 0 12 (codes "foo*") (codes "/url") None ∷ []) ∷
    -- 565
    example (codes "[foo][bar]\n\n[foo]: /url1\n[bar]: /url2\n") (at 0 0 11 body.Paragraph ∷
    at 1 0 1 body.MaybeLinkOpen ∷ at 1 1 4 (body.Text false) ∷ at 1 4 5 (body.MaybeLinkClose true) ∷
    at 1 5 6 body.MaybeLinkOpen ∷ at 1 6 9 (body.Text false) ∷ at 1 9 10 (body.MaybeLinkClose true) ∷ [])
    (defined 12 24 (codes "foo") (codes "/url1") None ∷ defined 25 37 (codes "bar") (codes "/url2") None ∷ []) ∷
    -- 566
    example (codes "[foo][]\n\n[foo]: /url1\n") (at 0 0 8 body.Paragraph ∷ at 1 0 1 body.MaybeLinkOpen ∷
    at 1 1 4 (body.Text false) ∷ at 1 4 5 (body.MaybeLinkClose true) ∷ at 1 5 6 body.MaybeLinkOpen ∷
    at 1 6 7 (body.MaybeLinkClose true) ∷ []) (defined 9 21 (codes "foo") (codes "/url1") None ∷ []) ∷
    -- 567
    example (codes "[foo]()\n\n[foo]: /url1\n") (at 0 0 8 body.Paragraph ∷ at 1 0 1 body.MaybeLinkOpen ∷
    at 1 1 4 (body.Text false) ∷ at 1 4 5 (body.MaybeLinkClose true) ∷ at 1 5 7 (body.Text false) ∷ [])
    (defined 9 21 (codes "foo") (codes "/url1") None ∷ []) ∷
    -- 568
    example (codes "[foo](not a link)\n\n[foo]: /url1\n") (at 0 0 18 body.Paragraph ∷ at 1 0 1 body.MaybeLinkOpen ∷
    at 1 1 4 (body.Text false) ∷ at 1 4 5 (body.MaybeLinkClose true) ∷ at 1 5 17 (body.Text false) ∷ [])
    (defined 19 31 (codes "foo") (codes "/url1") None ∷ []) ∷
    -- 569
    example (codes "[foo][bar][baz]\n\n[baz]: /url\n") (at 0 0 16 body.Paragraph ∷ at 1 0 1 body.MaybeLinkOpen ∷
    at 1 1 4 (body.Text false) ∷ at 1 4 5 (body.MaybeLinkClose true) ∷ at 1 5 6 body.MaybeLinkOpen ∷
    at 1 6 9 (body.Text false) ∷ at 1 9 10 (body.MaybeLinkClose true) ∷ at 1 10 11 body.MaybeLinkOpen ∷
    at 1 11 14 (body.Text false) ∷ at 1 14 15 (body.MaybeLinkClose true) ∷ [])
    (defined 17 28 (codes "baz") (codes "/url") None ∷ []) ∷
    -- 570
    example (codes "[foo][bar][baz]\n\n[baz]: /url1\n[bar]: /url2\n") (at 0 0 16 body.Paragraph ∷
    at 1 0 1 body.MaybeLinkOpen ∷ at 1 1 4 (body.Text false) ∷ at 1 4 5 (body.MaybeLinkClose true) ∷
    at 1 5 6 body.MaybeLinkOpen ∷ at 1 6 9 (body.Text false) ∷ at 1 9 10 (body.MaybeLinkClose true) ∷
    at 1 10 11 body.MaybeLinkOpen ∷ at 1 11 14 (body.Text false) ∷ at 1 14 15 (body.MaybeLinkClose true) ∷ [])
    (defined 17 29 (codes "baz") (codes "/url1") None ∷ defined 30 42 (codes "bar") (codes "/url2") None ∷ []) ∷
    -- 571
    example (codes "[foo][bar][baz]\n\n[baz]: /url1\n[foo]: /url2\n") (at 0 0 16 body.Paragraph ∷
    at 1 0 1 body.MaybeLinkOpen ∷ at 1 1 4 (body.Text false) ∷ at 1 4 5 (body.MaybeLinkClose true) ∷
    at 1 5 6 body.MaybeLinkOpen ∷ at 1 6 9 (body.Text false) ∷ at 1 9 10 (body.MaybeLinkClose true) ∷
    at 1 10 11 body.MaybeLinkOpen ∷ at 1 11 14 (body.Text false) ∷ at 1 14 15 (body.MaybeLinkClose true) ∷ [])
    (defined 17 29 (codes "baz") (codes "/url1") None ∷ defined 30 42 (codes "foo") (codes "/url2") None ∷ []) ∷
    -- Images
    -- 572
    example (codes "![foo](/url \"title\")\n") (at 0 0 21 body.Paragraph ∷ at 1 0 2 body.MaybeImage ∷
    at 1 2 5 (body.Text false) ∷ at 1 5 6 (body.MaybeLinkClose true) ∷ at 1 6 20 (body.Text false) ∷ []) [] ∷
    -- 573
    example (codes "![foo *bar*]\n\n[foo *bar*]: train.jpg \"train & tracks\"\n") (at 0 0 13 body.Paragraph ∷
    at 1 0 2 body.MaybeImage ∷ at 1 2 6 (body.Text false) ∷ at 1 6 7 (body.MaybeEmphasis 1 true false) ∷
    at 1 7 10 (body.Text false) ∷ at 1 10 11 (body.MaybeEmphasis 1 false true) ∷
    at 1 11 12 (body.MaybeLinkClose true) ∷ [])
    (defined 14 53 (codes "foo *bar*") (codes "train.jpg") (Some (codes "train & tracks")) ∷ []) ∷
    -- 574
    example (codes "![foo ![bar](/url)](/url2)\n") (at 0 0 27 body.Paragraph ∷ at 1 0 2 body.MaybeImage ∷
    at 1 2 6 (body.Text false) ∷ at 1 6 8 body.MaybeImage ∷ at 1 8 11 (body.Text false) ∷
    at 1 11 12 (body.MaybeLinkClose true) ∷ at 1 12 18 (body.Text false) ∷ at 1 18 19 (body.MaybeLinkClose true) ∷
    at 1 19 26 (body.Text false) ∷ []) [] ∷
    -- 575
    example (codes "![foo [bar](/url)](/url2)\n") (at 0 0 26 body.Paragraph ∷ at 1 0 2 body.MaybeImage ∷
    at 1 2 6 (body.Text false) ∷ at 1 6 7 body.MaybeLinkOpen ∷ at 1 7 10 (body.Text false) ∷
    at 1 10 11 (body.MaybeLinkClose true) ∷ at 1 11 17 (body.Text false) ∷ at 1 17 18 (body.MaybeLinkClose true) ∷
    at 1 18 25 (body.Text false) ∷ []) [] ∷
    -- 576
    example (codes "![foo *bar*][]\n\n[foo *bar*]: train.jpg \"train & tracks\"\n") (at 0 0 15 body.Paragraph ∷
    at 1 0 2 body.MaybeImage ∷ at 1 2 6 (body.Text false) ∷ at 1 6 7 (body.MaybeEmphasis 1 true false) ∷
    at 1 7 10 (body.Text false) ∷ at 1 10 11 (body.MaybeEmphasis 1 false true) ∷
    at 1 11 12 (body.MaybeLinkClose true) ∷ at 1 12 13 body.MaybeLinkOpen ∷ at 1 13 14 (body.MaybeLinkClose true) ∷
    []) (defined 16 55 (codes "foo *bar*") (codes "train.jpg") (Some (codes "train & tracks")) ∷ []) ∷
    -- 577
    example (codes "![foo *bar*][foobar]\n\n[FOOBAR]: train.jpg \"train & tracks\"\n") (at 0 0 21 body.Paragraph ∷
    at 1 0 2 body.MaybeImage ∷ at 1 2 6 (body.Text false) ∷ at 1 6 7 (body.MaybeEmphasis 1 true false) ∷
    at 1 7 10 (body.Text false) ∷ at 1 10 11 (body.MaybeEmphasis 1 false true) ∷
    at 1 11 12 (body.MaybeLinkClose true) ∷ at 1 12 13 body.MaybeLinkOpen ∷ at 1 13 19 (body.Text false) ∷
    at 1 19 20 (body.MaybeLinkClose true) ∷ [])
    (defined 22 58 (codes "FOOBAR") (codes "train.jpg") (Some (codes "train & tracks")) ∷ []) ∷
    -- 578
    example (codes "![foo](train.jpg)\n") (at 0 0 18 body.Paragraph ∷ at 1 0 2 body.MaybeImage ∷
    at 1 2 5 (body.Text false) ∷ at 1 5 6 (body.MaybeLinkClose true) ∷ at 1 6 17 (body.Text false) ∷ []) [] ∷
    -- 579
    example (codes "My ![foo bar](/path/to/train.jpg  \"title\"   )\n") (at 0 0 46 body.Paragraph ∷
    at 1 0 3 (body.Text false) ∷ at 1 3 5 body.MaybeImage ∷ at 1 5 12 (body.Text false) ∷
    at 1 12 13 (body.MaybeLinkClose true) ∷ at 1 13 45 (body.Text false) ∷ []) [] ∷
    -- 580
    example (codes "![foo](<url>)\n") (at 0 0 14 body.Paragraph ∷ at 1 0 2 body.MaybeImage ∷
    at 1 2 5 (body.Text false) ∷ at 1 5 6 (body.MaybeLinkClose true) ∷ at 1 6 7 (body.Text false) ∷
    at 1 7 8 body.MaybeHtml ∷ at 1 8 13 (body.Text false) ∷ []) [] ∷
    -- 581
    example (codes "![](/url)\n") (at 0 0 10 body.Paragraph ∷ at 1 0 2 body.MaybeImage ∷
    at 1 2 3 (body.MaybeLinkClose true) ∷ at 1 3 9 (body.Text false) ∷ []) [] ∷
    -- 582
    example (codes "![foo][bar]\n\n[bar]: /url\n") (at 0 0 12 body.Paragraph ∷ at 1 0 2 body.MaybeImage ∷
    at 1 2 5 (body.Text false) ∷ at 1 5 6 (body.MaybeLinkClose true) ∷ at 1 6 7 body.MaybeLinkOpen ∷
    at 1 7 10 (body.Text false) ∷ at 1 10 11 (body.MaybeLinkClose true) ∷ [])
    (defined 13 24 (codes "bar") (codes "/url") None ∷ []) ∷
    -- 583
    example (codes "![foo][bar]\n\n[BAR]: /url\n") (at 0 0 12 body.Paragraph ∷ at 1 0 2 body.MaybeImage ∷
    at 1 2 5 (body.Text false) ∷ at 1 5 6 (body.MaybeLinkClose true) ∷ at 1 6 7 body.MaybeLinkOpen ∷
    at 1 7 10 (body.Text false) ∷ at 1 10 11 (body.MaybeLinkClose true) ∷ [])
    (defined 13 24 (codes "BAR") (codes "/url") None ∷ []) ∷
    -- 584
    example (codes "![foo][]\n\n[foo]: /url \"title\"\n") (at 0 0 9 body.Paragraph ∷ at 1 0 2 body.MaybeImage ∷
    at 1 2 5 (body.Text false) ∷ at 1 5 6 (body.MaybeLinkClose true) ∷ at 1 6 7 body.MaybeLinkOpen ∷
    at 1 7 8 (body.MaybeLinkClose true) ∷ []) (defined 10 29 (codes "foo") (codes "/url") (Some (codes "title")) ∷ []) ∷
    -- 585
    example (codes "![*foo* bar][]\n\n[*foo* bar]: /url \"title\"\n") (at 0 0 15 body.Paragraph ∷
    at 1 0 2 body.MaybeImage ∷ at 1 2 3 (body.MaybeEmphasis 1 true false) ∷ at 1 3 6 (body.Text false) ∷
    at 1 6 7 (body.MaybeEmphasis 1 false true) ∷ at 1 7 11 (body.Text false) ∷ at 1 11 12 (body.MaybeLinkClose true) ∷
    at 1 12 13 body.MaybeLinkOpen ∷ at 1 13 14 (body.MaybeLinkClose true) ∷ [])
    (defined 16 41 (codes "*foo* bar") (codes "/url") (Some (codes "title")) ∷ []) ∷
    -- 586
    example (codes "![Foo][]\n\n[foo]: /url \"title\"\n") (at 0 0 9 body.Paragraph ∷ at 1 0 2 body.MaybeImage ∷
    at 1 2 5 (body.Text false) ∷ at 1 5 6 (body.MaybeLinkClose true) ∷ at 1 6 7 body.MaybeLinkOpen ∷
    at 1 7 8 (body.MaybeLinkClose true) ∷ []) (defined 10 29 (codes "foo") (codes "/url") (Some (codes "title")) ∷ []) ∷
    -- 587
    example (codes "![foo] \n[]\n\n[foo]: /url \"title\"\n") (at 0 0 11 body.Paragraph ∷ at 1 0 2 body.MaybeImage ∷
    at 1 2 5 (body.Text false) ∷ at 1 5 6 (body.MaybeLinkClose true) ∷ at 1 7 8 body.SoftBreak ∷
    at 1 8 9 body.MaybeLinkOpen ∷ at 1 9 10 (body.MaybeLinkClose true) ∷ [])
    (defined 12 31 (codes "foo") (codes "/url") (Some (codes "title")) ∷ []) ∷
    -- 588
    example (codes "![foo]\n\n[foo]: /url \"title\"\n") (at 0 0 7 body.Paragraph ∷ at 1 0 2 body.MaybeImage ∷
    at 1 2 5 (body.Text false) ∷ at 1 5 6 (body.MaybeLinkClose true) ∷ [])
    (defined 8 27 (codes "foo") (codes "/url") (Some (codes "title")) ∷ []) ∷
    -- 589
    example (codes "![*foo* bar]\n\n[*foo* bar]: /url \"title\"\n") (at 0 0 13 body.Paragraph ∷
    at 1 0 2 body.MaybeImage ∷ at 1 2 3 (body.MaybeEmphasis 1 true false) ∷ at 1 3 6 (body.Text false) ∷
    at 1 6 7 (body.MaybeEmphasis 1 false true) ∷ at 1 7 11 (body.Text false) ∷ at 1 11 12 (body.MaybeLinkClose true) ∷
    []) (defined 14 39 (codes "*foo* bar") (codes "/url") (Some (codes "title")) ∷ []) ∷
    -- 590
    example (codes "![[foo]]\n\n[[foo]]: /url \"title\"\n") (at 0 0 9 body.Paragraph ∷ at 1 0 2 body.MaybeImage ∷
    at 1 2 3 body.MaybeLinkOpen ∷ at 1 3 6 (body.Text false) ∷ at 1 6 7 (body.MaybeLinkClose true) ∷
    at 1 7 8 (body.MaybeLinkClose true) ∷ at 0 10 32 body.Paragraph ∷ at 1 10 11 body.MaybeLinkOpen ∷
    at 1 11 12 body.MaybeLinkOpen ∷ at 1 12 15 (body.Text false) ∷ at 1 15 16 (body.MaybeLinkClose true) ∷
    at 1 16 17 (body.MaybeLinkClose true) ∷ at 1 17 31 (body.Text false) ∷ []) [] ∷
    -- 591
    example (codes "![Foo]\n\n[foo]: /url \"title\"\n") (at 0 0 7 body.Paragraph ∷ at 1 0 2 body.MaybeImage ∷
    at 1 2 5 (body.Text false) ∷ at 1 5 6 (body.MaybeLinkClose true) ∷ [])
    (defined 8 27 (codes "foo") (codes "/url") (Some (codes "title")) ∷ []) ∷
    -- 592
    example (codes "!\\[foo]\n\n[foo]: /url \"title\"\n") (at 0 0 8 body.Paragraph ∷ at 1 0 1 (body.Text false) ∷
    at 1 2 6 (body.Text true) ∷ at 1 6 7 (body.MaybeLinkClose true) ∷ [])
    (defined 9 28 (codes "foo") (codes "/url") (Some (codes "title")) ∷ []) ∷
    -- 593
    example (codes "\\![foo]\n\n[foo]: /url \"title\"\n") (at 0 0 8 body.Paragraph ∷ at 1 1 2 (body.Text true) ∷
    at 1 2 3 body.MaybeLinkOpen ∷ at 1 3 6 (body.Text false) ∷ at 1 6 7 (body.MaybeLinkClose true) ∷ [])
    (defined 9 28 (codes "foo") (codes "/url") (Some (codes "title")) ∷ []) ∷
    []
