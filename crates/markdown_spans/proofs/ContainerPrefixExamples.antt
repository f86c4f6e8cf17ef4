-- Container prefixes of lines: small examples.
use Rattle.std.proofs.Common.{◌≡◌, [], ◌∷◌, ◌++◌, true, false, None, refl}
use Rattle.std.specs.Prelude.{codes}
use Rattle.markdown_base.specs.declared.item.ItemBody.{ItemBody}
use Rattle.markdown_base.specs.declared.item.ItemBody.TheVariants as body
use Rattle.markdown_spans.specs.ContainerPrefix.{prefix_length}

quote : ItemBody
quote = body.BlockQuote None

footnote : ItemBody
footnote = body.FootnoteDefinition (record { 0 = 0 })

row_quote : prefix_length true (quote ∷ body.Paragraph ∷ []) (codes "> b") ≡ 2
unfolding quote
row_quote = refl

row_quote_without_space : prefix_length true (quote ∷ body.Paragraph ∷ []) (codes ">b") ≡ 1
unfolding quote
row_quote_without_space = refl

row_quote_three_columns_in : prefix_length true (quote ∷ []) (codes "   > b") ≡ 5
unfolding quote
row_quote_three_columns_in = refl

row_quote_four_columns_in : prefix_length true (quote ∷ []) (codes "    > b") ≡ 0
unfolding quote
row_quote_four_columns_in = refl

-- of the tab one column belongs to the marker, and the tab is taken
row_quote_and_tab : prefix_length true (quote ∷ []) (62 ∷ 9 ∷ codes "b") ≡ 2
unfolding quote
row_quote_and_tab = refl

row_two_quotes : prefix_length true (quote ∷ quote ∷ []) (codes "> > b") ≡ 4
unfolding quote
row_two_quotes = refl

row_inner_quote_fails : prefix_length true (quote ∷ quote ∷ []) (codes "> b") ≡ 2
unfolding quote
row_inner_quote_fails = refl

-- a list item that does not find its columns takes none of them, and the quote in it is not looked for
row_outer_item_fails : prefix_length true (body.ListItem 4 ∷ quote ∷ []) (codes "  > b") ≡ 0
unfolding quote
row_outer_item_fails = refl

row_inner_item_fails : prefix_length true (quote ∷ body.ListItem 2 ∷ []) (codes ">  b") ≡ 2
unfolding quote
row_inner_item_fails = refl

row_item : prefix_length true (body.ListItem 2 ∷ body.Paragraph ∷ []) (codes "   b") ≡ 2
row_item = refl

-- the line is over before its columns are
row_item_line_over : prefix_length true (body.ListItem 4 ∷ []) (codes "  " ++ 10 ∷ codes "b") ≡ 2
row_item_line_over = refl

-- the tab has 4 columns, of which the item takes 2, and the quote finds the other 2
row_item_and_quote_share_a_tab : prefix_length true (body.ListItem 2 ∷ quote ∷ []) (9 ∷ codes "> b") ≡ 3
unfolding quote
row_item_and_quote_share_a_tab = refl

row_definition : prefix_length true (body.DefinitionListDefinition 2 ∷ []) (codes "  b") ≡ 2
row_definition = refl

row_footnote : prefix_length true (footnote ∷ []) (codes "     b") ≡ 4
unfolding footnote
row_footnote = refl

row_footnote_in_old_style : prefix_length false (footnote ∷ []) (codes "     b") ≡ 0
unfolding footnote
row_footnote_in_old_style = refl
