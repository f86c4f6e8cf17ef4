-- What begins at a `<`: small examples.
use Rattle.std.proofs.Common.{◌≡◌, ℕ, List, [], ◌∷◌, ◌++◌, Option, Some, None, true, false, refl}
use Rattle.std.specs.Prelude.{codes}
use Rattle.markdown_base.specs.declared.item.ItemBody.TheVariants as body
use Rattle.markdown_raw_html.specs.HtmlTag.{all, both, either, nonempty, often, often_past, one, optional}
use Rattle.markdown_scan.specs.EmailAutolink.{cut_at_periods}
use Rattle.markdown_spans.specs.AfterLess.{markup_at, autolink, html_markup}
use Rattle.markdown_spans.specs.ContainerPrefix.{prefix_length}
use Rattle.markdown_spans.specs.declared.after_less.AutolinkKind.TheVariants.{Uri, Email}

quoted : List ℕ → Option ℕ
quoted bytes = Some (prefix_length true (body.BlockQuote None ∷ body.Paragraph ∷ []) bytes)

row_autolink : markup_at quoted false (codes "<http://a.b>") 0 1 ≡ Some (autolink Uri 12 (codes "http://a.b"))
unfolding markup_at
row_autolink = refl

row_comment : markup_at quoted false (codes "a <!-- x --> c") 2 3 ≡ Some (html_markup 12 None)
unfolding markup_at quoted all both either nonempty often often_past one optional
row_comment = refl

row_processing_instruction : markup_at quoted false (codes "x <? b ?>") 2 3 ≡ Some (html_markup 9 None)
unfolding markup_at quoted all both either nonempty often often_past one optional
row_processing_instruction = refl

row_tag : markup_at quoted false (codes "a <b> c") 2 3 ≡ Some (html_markup 5 None)
unfolding markup_at quoted all both either nonempty often often_past one optional
row_tag = refl

-- the prefix of the second line is removed
row_tag_over_lines : markup_at quoted false (codes "> <foo" ++ 10 ∷ codes "> bar>") 2 3
    ≡ Some (html_markup 13 (Some (codes "<foo" ++ 10 ∷ codes "bar>")))
unfolding markup_at quoted all both either nonempty often often_past one optional
row_tag_over_lines = refl

-- an address is one only where addresses are on
row_address_off : markup_at quoted false (codes "<a@b.c>") 0 1 ≡ None
unfolding markup_at quoted all both either nonempty often often_past one optional
row_address_off = refl

row_address : markup_at quoted true (codes "<a@b.c>") 0 1 ≡ Some (autolink Email 7 (codes "a@b.c"))
unfolding markup_at quoted cut_at_periods
row_address = refl

-- a URI comes before an address, and an address before a declaration
row_uri_first : markup_at quoted true (codes "<mailto:a@b>") 0 1 ≡ Some (autolink Uri 12 (codes "mailto:a@b"))
unfolding markup_at quoted
row_uri_first = refl

row_address_first : markup_at quoted true (codes "<!a@b.c>") 0 1 ≡ Some (autolink Email 8 (codes "!a@b.c"))
unfolding markup_at quoted cut_at_periods
row_address_first = refl

row_declaration : markup_at quoted false (codes "<!a@b.c>") 0 1 ≡ Some (html_markup 8 None)
unfolding markup_at quoted all both either nonempty often often_past one optional
row_declaration = refl

row_nothing : markup_at quoted false (codes "< a") 0 1 ≡ None
unfolding markup_at quoted all both either nonempty often often_past one optional
row_nothing = refl
