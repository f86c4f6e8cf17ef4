-- Examples in CommonMark with their blocks: Link reference definitions. Written by .ci/examples.
use Rattle.std.specs.Prelude.{List, [], ◌∷◌, ◌++◌, codes, true, false, Some, None}
use Rattle.markdown_base.specs.declared.item.ItemBody.TheVariants as body
use Rattle.markdown_base.specs.declared.tag.HeadingLevel.TheVariants as level
use Rattle.markdown_block_laws.specs.ExampleTrees.{Example, at, defined, example, naming_at}

unfoldable pub examples_of_definitions : List Example
examples_of_definitions =
    -- Link reference definitions
    -- 192
    example (codes "[foo]: /url \"title\"\n\n[foo]\n") (at 0 21 27 body.Paragraph ∷ at 1 21 22 body.MaybeLinkOpen ∷
    at 1 22 25 (body.Text false) ∷ at 1 25 26 (body.MaybeLinkClose true) ∷ [])
    (defined 0 19 (codes "foo") (codes "/url") (Some (codes "title")) ∷ []) ∷
    -- 193
    example (codes "   [foo]: \n      /url  \n           'the title'  \n\n[foo]\n") (at 0 50 56 body.Paragraph ∷
    at 1 50 51 body.MaybeLinkOpen ∷ at 1 51 54 (body.Text false) ∷ at 1 54 55 (body.MaybeLinkClose true) ∷ [])
    (defined 3 46 (codes "foo") (codes "/url") (Some (codes "the title")) ∷ []) ∷
    -- 194
    example (codes "[Foo*bar\\]]:my_(url) 'title (with parens)'\n\n[Foo*bar\\]]\n") (at 0 44 56 body.Paragraph ∷
    at 1 44 45 body.MaybeLinkOpen ∷ at 1 45 48 (body.Text false) ∷ at 1 48 49 (body.MaybeEmphasis 1 true true) ∷
    at 1 49 52 (body.Text false) ∷ at 1 53 54 (body.Text true) ∷ at 1 54 55 (body.MaybeLinkClose true) ∷ [])
    (defined 0 42 (codes "Foo*bar\\]") (codes "my_(url)") (Some (codes "title (with parens)")) ∷ []) ∷
    -- 195
    example (codes "[Foo bar]:\n<my url>\n'title'\n\n[Foo bar]\n") (at 0 29 39 body.Paragraph ∷
    at 1 29 30 body.MaybeLinkOpen ∷ at 1 30 37 (body.Text false) ∷ at 1 37 38 (body.MaybeLinkClose true) ∷ [])
    (defined 0 27 (codes "Foo bar") (codes "my url") (Some (codes "title")) ∷ []) ∷
    -- 196
    example (codes "[foo]: /url '\ntitle\nline1\nline2\n'\n\n[foo]\n") (at 0 35 41 body.Paragraph ∷
    at 1 35 36 body.MaybeLinkOpen ∷ at 1 36 39 (body.Text false) ∷ at 1 39 40 (body.MaybeLinkClose true) ∷ [])
    (defined 0 33 (codes "foo") (codes "/url") (Some (codes "\ntitle\nline1\nline2\n")) ∷ []) ∷
    -- 197
    example (codes "[foo]: /url 'title\n\nwith blank line'\n\n[foo]\n") (at 0 0 19 body.Paragraph ∷
    at 1 0 1 body.MaybeLinkOpen ∷ at 1 1 4 (body.Text false) ∷ at 1 4 5 (body.MaybeLinkClose true) ∷
    at 1 5 18 (body.Text false) ∷ at 0 20 37 body.Paragraph ∷ at 1 20 36 (body.Text false) ∷
    at 0 38 44 body.Paragraph ∷ at 1 38 39 body.MaybeLinkOpen ∷ at 1 39 42 (body.Text false) ∷
    at 1 42 43 (body.MaybeLinkClose true) ∷ []) [] ∷
    -- 198
    example (codes "[foo]:\n/url\n\n[foo]\n") (at 0 13 19 body.Paragraph ∷ at 1 13 14 body.MaybeLinkOpen ∷
    at 1 14 17 (body.Text false) ∷ at 1 17 18 (body.MaybeLinkClose true) ∷ [])
    (defined 0 11 (codes "foo") (codes "/url") None ∷ []) ∷
    -- 199
    example (codes "[foo]:\n\n[foo]\n") (at 0 0 7 body.Paragraph ∷ at 1 0 1 body.MaybeLinkOpen ∷
    at 1 1 4 (body.Text false) ∷ at 1 4 5 (body.MaybeLinkClose true) ∷ at 1 5 6 (body.Text false) ∷
    at 0 8 14 body.Paragraph ∷ at 1 8 9 body.MaybeLinkOpen ∷ at 1 9 12 (body.Text false) ∷
    at 1 12 13 (body.MaybeLinkClose true) ∷ []) [] ∷
    -- 200
    example (codes "[foo]: <>\n\n[foo]\n") (at 0 11 17 body.Paragraph ∷ at 1 11 12 body.MaybeLinkOpen ∷
    at 1 12 15 (body.Text false) ∷ at 1 15 16 (body.MaybeLinkClose true) ∷ [])
    (defined 0 9 (codes "foo") (codes "") None ∷ []) ∷
    -- 201
    example (codes "[foo]: <bar>(baz)\n\n[foo]\n") (at 0 0 18 body.Paragraph ∷ at 1 0 1 body.MaybeLinkOpen ∷
    at 1 1 4 (body.Text false) ∷ at 1 4 5 (body.MaybeLinkClose true) ∷ at 1 5 7 (body.Text false) ∷
    at 1 7 8 body.MaybeHtml ∷ at 1 8 17 (body.Text false) ∷ at 0 19 25 body.Paragraph ∷
    at 1 19 20 body.MaybeLinkOpen ∷ at 1 20 23 (body.Text false) ∷ at 1 23 24 (body.MaybeLinkClose true) ∷ []) [] ∷
    -- 202
    example (codes "[foo]: /url\\bar\\*baz \"foo\\\"bar\\baz\"\n\n[foo]\n") (at 0 37 43 body.Paragraph ∷
    at 1 37 38 body.MaybeLinkOpen ∷ at 1 38 41 (body.Text false) ∷ at 1 41 42 (body.MaybeLinkClose true) ∷ [])
    (defined 0 35 (codes "foo") (codes "/url\\bar*baz") (Some (codes "foo\"bar\\baz")) ∷ []) ∷
    -- 203
    example (codes "[foo]\n\n[foo]: url\n") (at 0 0 6 body.Paragraph ∷ at 1 0 1 body.MaybeLinkOpen ∷
    at 1 1 4 (body.Text false) ∷ at 1 4 5 (body.MaybeLinkClose true) ∷ [])
    (defined 7 17 (codes "foo") (codes "url") None ∷ []) ∷
    -- 204
    example (codes "[foo]\n\n[foo]: first\n[foo]: second\n") (at 0 0 6 body.Paragraph ∷ at 1 0 1 body.MaybeLinkOpen ∷
    at 1 1 4 (body.Text false) ∷ at 1 4 5 (body.MaybeLinkClose true) ∷ [])
    (defined 7 19 (codes "foo") (codes "first") None ∷ defined 20 33 (codes "foo") (codes "second") None ∷ []) ∷
    -- 205
    example (codes "[FOO]: /url\n\n[Foo]\n") (at 0 13 19 body.Paragraph ∷ at 1 13 14 body.MaybeLinkOpen ∷
    at 1 14 17 (body.Text false) ∷ at 1 17 18 (body.MaybeLinkClose true) ∷ [])
    (defined 0 11 (codes "FOO") (codes "/url") None ∷ []) ∷
    -- 206
    example (codes "[" ++ (206 ∷ 145 ∷ 206 ∷ 147 ∷ 206 ∷ 169 ∷ []) ++ codes "]: /" ++ (207 ∷ 134 ∷ 206 ∷ 191 ∷ 207 ∷
    133 ∷ []) ++ codes "\n\n[" ++ (206 ∷ 177 ∷ 206 ∷ 179 ∷ 207 ∷ 137 ∷ []) ++ codes "]\n")
    (at 0 19 28 body.Paragraph ∷ at 1 19 20 body.MaybeLinkOpen ∷ at 1 20 26 (body.Text false) ∷
    at 1 26 27 (body.MaybeLinkClose true) ∷ []) (defined 0 17 ((206 ∷ 145 ∷ 206 ∷ 147 ∷ 206 ∷ 169 ∷ [])) (codes "/" ++
    (207 ∷ 134 ∷ 206 ∷ 191 ∷ 207 ∷ 133 ∷ [])) None ∷ []) ∷
    -- 207
    example (codes "[foo]: /url\n") [] (defined 0 11 (codes "foo") (codes "/url") None ∷ []) ∷
    -- 208
    example (codes "[\nfoo\n]: /url\nbar\n") (at 0 14 18 body.Paragraph ∷ at 1 14 17 (body.Text false) ∷ [])
    (defined 0 13 (codes "foo") (codes "/url") None ∷ []) ∷
    -- 209
    example (codes "[foo]: /url \"title\" ok\n") (at 0 0 23 body.Paragraph ∷ at 1 0 1 body.MaybeLinkOpen ∷
    at 1 1 4 (body.Text false) ∷ at 1 4 5 (body.MaybeLinkClose true) ∷ at 1 5 22 (body.Text false) ∷ []) [] ∷
    -- 210
    example (codes "[foo]: /url\n\"title\" ok\n") (at 0 12 23 body.Paragraph ∷ at 1 12 22 (body.Text false) ∷ [])
    (defined 0 11 (codes "foo") (codes "/url") None ∷ []) ∷
    -- 211
    example (codes "    [foo]: /url \"title\"\n\n[foo]\n") (at 0 4 24 body.IndentCodeBlock ∷
    at 1 4 24 (body.Text false) ∷ at 0 25 31 body.Paragraph ∷ at 1 25 26 body.MaybeLinkOpen ∷
    at 1 26 29 (body.Text false) ∷ at 1 29 30 (body.MaybeLinkClose true) ∷ []) [] ∷
    -- 212
    example (codes "```\n[foo]: /url\n```\n\n[foo]\n") (naming_at 0 0 20 body.FencedCodeBlock (codes "") ∷
    at 1 4 16 (body.Text false) ∷ at 0 21 27 body.Paragraph ∷ at 1 21 22 body.MaybeLinkOpen ∷
    at 1 22 25 (body.Text false) ∷ at 1 25 26 (body.MaybeLinkClose true) ∷ []) [] ∷
    -- 213
    example (codes "Foo\n[bar]: /baz\n\n[bar]\n") (at 0 0 16 body.Paragraph ∷ at 1 0 3 (body.Text false) ∷
    at 1 3 4 body.SoftBreak ∷ at 1 4 5 body.MaybeLinkOpen ∷ at 1 5 8 (body.Text false) ∷
    at 1 8 9 (body.MaybeLinkClose true) ∷ at 1 9 15 (body.Text false) ∷ at 0 17 23 body.Paragraph ∷
    at 1 17 18 body.MaybeLinkOpen ∷ at 1 18 21 (body.Text false) ∷ at 1 21 22 (body.MaybeLinkClose true) ∷ []) [] ∷
    -- 214
    example (codes "# [Foo]\n[foo]: /url\n> bar\n") (at 0 0 8 (body.Heading level.H1 None) ∷
    at 1 2 3 body.MaybeLinkOpen ∷ at 1 3 6 (body.Text false) ∷ at 1 6 7 (body.MaybeLinkClose true) ∷
    at 0 20 26 (body.BlockQuote None) ∷ at 1 22 26 body.Paragraph ∷ at 2 22 25 (body.Text false) ∷ [])
    (defined 8 19 (codes "foo") (codes "/url") None ∷ []) ∷
    -- 215
    example (codes "[foo]: /url\nbar\n===\n[foo]\n") (at 0 12 20 (body.Heading level.H1 None) ∷
    at 1 12 15 (body.Text false) ∷ at 0 20 26 body.Paragraph ∷ at 1 20 21 body.MaybeLinkOpen ∷
    at 1 21 24 (body.Text false) ∷ at 1 24 25 (body.MaybeLinkClose true) ∷ [])
    (defined 0 11 (codes "foo") (codes "/url") None ∷ []) ∷
    -- 216
    example (codes "[foo]: /url\n===\n[foo]\n") (at 0 12 22 body.Paragraph ∷ at 1 12 15 (body.Text false) ∷
    at 1 15 16 body.SoftBreak ∷ at 1 16 17 body.MaybeLinkOpen ∷ at 1 17 20 (body.Text false) ∷
    at 1 20 21 (body.MaybeLinkClose true) ∷ []) (defined 0 11 (codes "foo") (codes "/url") None ∷ []) ∷
    -- 217
    example (codes "[foo]: /foo-url \"foo\"\n[bar]: /bar-url\n  \"bar\"\n[baz]: /baz-url\n\n[foo],\n" ++
    codes "[bar],\n[baz]\n") (at 0 63 83 body.Paragraph ∷ at 1 63 64 body.MaybeLinkOpen ∷
    at 1 64 67 (body.Text false) ∷ at 1 67 68 (body.MaybeLinkClose true) ∷ at 1 68 69 (body.Text false) ∷
    at 1 69 70 body.SoftBreak ∷ at 1 70 71 body.MaybeLinkOpen ∷ at 1 71 74 (body.Text false) ∷
    at 1 74 75 (body.MaybeLinkClose true) ∷ at 1 75 76 (body.Text false) ∷ at 1 76 77 body.SoftBreak ∷
    at 1 77 78 body.MaybeLinkOpen ∷ at 1 78 81 (body.Text false) ∷ at 1 81 82 (body.MaybeLinkClose true) ∷ [])
    (defined 0 21 (codes "foo") (codes "/foo-url") (Some (codes "foo")) ∷
    defined 22 45 (codes "bar") (codes "/bar-url") (Some (codes "bar")) ∷
    defined 46 61 (codes "baz") (codes "/baz-url") None ∷ []) ∷
    -- 218
    example (codes "[foo]\n\n> [foo]: /url\n") (at 0 0 6 body.Paragraph ∷ at 1 0 1 body.MaybeLinkOpen ∷
    at 1 1 4 (body.Text false) ∷ at 1 4 5 (body.MaybeLinkClose true) ∷ at 0 7 21 (body.BlockQuote None) ∷ [])
    (defined 9 20 (codes "foo") (codes "/url") None ∷ []) ∷
    []
