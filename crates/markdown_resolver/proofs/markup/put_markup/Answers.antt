-- What is put replaces what was found, in each of its three forms.
use Rattle.std.proofs.Common.{ℕ, List, Some, None, sym, subst}
use Rattle.std.specs.Prelude.{string_bytes}
use Rattle.markdown_base.specs.declared.item.Item.{Item}
use Rattle.markdown_base.specs.declared.item.ItemBody.TheVariants as body
use Rattle.markdown_base.specs.declared.node.Node.{Node}
use Rattle.markdown_document.specs.Setting.{Rules}
use Rattle.markdown_document.specs.Tables.{Tables, tables_of}
use Rattle.markdown_document.proofs.TablesLemmas.{grown-nothing}
use Rattle.markdown_spans.specs.AfterLess.{html_markup}
use Rattle.markdown_spans.specs.Finds.{end_of_markup}
use Rattle.markdown_spans.specs.MarkupView.{markup_of}
use Rattle.markdown_spans.specs.declared.after_less.MarkupFound.{MarkupFound}
use Rattle.markdown_resolver.specs.MarkupItems.{IsMarkupAt, item_to, standing_for}
use Rattle.markdown_resolver.specs.Rewritten.{Puts, one_item}
use Rattle.markdown_resolver.specs.declared.continuation.Continuation.{Continuation}
use Rattle.markdown_resolver.proofs.CodeSpanLemmas.{PutsText, text_put}
use Rattle.markdown_resolver.proofs.MarkupItemLemmas.{can_put_html, can_put_owned, html_trees, owned_trees}
use Rattle.markdown_resolver.proofs.MarkupItemLemmas.{puts_standing}
use Rattle.markdown_resolver.proofs.MarkupLemmas.{if_ok}
use Rattle.markdown_resolver.proofs.markup.put_markup.Goals as goal

-- what is put there if it was found there
abbrev StandsFor : List ℕ → Rules → (tables tables' : Tables) → (old new : List (Node Item)) → (ix : ℕ) → Continuation
    → MarkupFound → Type 0
StandsFor source rules tables tables' old new ix rest found =
    IsMarkupAt source tables old ix (markup_of found)
    → Puts source ix (standing_for source rules (markup_of found)) (Some (end_of_markup (markup_of found))) rest old new
    tables tables'

pub put_html-requires : goal.put_html-requires
put_html-requires c =
    let source = c.requires.0 in
    let tables = tables_of c.args.tables.now in
    let nodes = c.args.tree.now.nodes in
    let end = c.in-Html.end in
    let at : IsMarkupAt source tables nodes c.args.ix (html_markup end None) = subst
    (λ (found : MarkupFound). IsMarkupAt source tables nodes c.args.ix (markup_of found)) c.in-Html.is c.requires.1 in
    (source, tables, tables, grown-nothing tables, at.found, can_put_html source tables nodes c.args.ix end at.lies)

pub put_html-requires-in-OwnedHtml : goal.put_html-requires-in-OwnedHtml
put_html-requires-in-OwnedHtml c =
    let source = c.requires.0 in
    let held = c.args.tables.now in
    let held' = c.allocate_cow.new.self in
    let nodes = c.args.tree.now.nodes in
    let end = c.in-OwnedHtml.end in
    let bytes = string_bytes c.in-OwnedHtml.tag in
    let entry = c.in_ok-number-in-OwnedHtml in
    let at : IsMarkupAt source (tables_of held) nodes c.args.ix (html_markup end (Some bytes)) =
    subst (λ (found : MarkupFound). IsMarkupAt source (tables_of held) nodes c.args.ix (markup_of found))
    c.in-OwnedHtml.is c.requires.1 in
    let put = text_put held held' c.from.result entry.number bytes entry.ensures.put entry.ensures.number
    c.from.ensures.1 in (
      source,
      tables_of held,
      tables_of held',
      put.grown,
      at.found,
      can_put_owned source (tables_of held) (tables_of held') entry.number bytes nodes c.args.ix end put at.lies,
    )

pub returns-in-Autolink-clause-puts : goal.returns-in-Autolink-clause-puts
returns-in-Autolink-clause-puts c =
    if_ok c.put_autolink.result _ _ (λ rest puts. λ source rules.
    subst (StandsFor source rules (tables_of c.args.tables.now) (tables_of c.put_autolink.new.tables)
    c.args.tree.now.nodes c.put_autolink.new.tree.nodes c.args.ix rest) (sym c.in-Autolink.is)
    (puts source rules)) c.put_autolink.ensures.puts

pub returns-in-Html-clause-puts : goal.returns-in-Html-clause-puts
returns-in-Html-clause-puts c = λ source rules.
    let tables = tables_of c.args.tables.now in
    let old = c.args.tree.now.nodes in
    let new = c.put_html.new.tree.nodes in
    let ix = c.args.ix in
    let end = c.in-Html.end in
    let rest = c.put_html.result in
    subst (StandsFor source rules tables tables old new ix rest) (sym c.in-Html.is) (λ at.
    puts_standing source rules (html_markup end None) ix (one_item source tables (item_to old ix end body.InlineHtml))
    (Some end) rest old new tables tables at.found.ready (html_trees source rules tables tables old ix end)
    (c.put_html.ensures.puts source tables tables (grown-nothing tables) at.found
    (can_put_html source tables old ix end at.lies)))

pub returns-in_ok-number-in-OwnedHtml-clause-puts : goal.returns-in_ok-number-in-OwnedHtml-clause-puts
returns-in_ok-number-in-OwnedHtml-clause-puts c = λ source rules.
    let held = c.args.tables.now in
    let held' = c.allocate_cow.new.self in
    let tables = tables_of held in
    let tables' = tables_of held' in
    let old = c.args.tree.now.nodes in
    let new = c.put_html-in-OwnedHtml.new.tree.nodes in
    let ix = c.args.ix in
    let end = c.in-OwnedHtml.end in
    let bytes = string_bytes c.in-OwnedHtml.tag in
    let entry = c.in_ok-number-in-OwnedHtml in
    let rest = c.put_html-in-OwnedHtml.result in
    let put : PutsText tables tables' entry.number bytes = text_put held held' c.from.result entry.number bytes
    entry.ensures.put entry.ensures.number c.from.ensures.1 in
    subst (StandsFor source rules tables tables' old new ix rest) (sym c.in-OwnedHtml.is) (λ at.
    puts_standing source rules (html_markup end (Some bytes)) ix
    (one_item source tables' (item_to old ix end (body.OwnedInlineHtml entry.number)))
    (Some end) rest old new tables tables' at.found.ready
    (owned_trees source rules tables tables' entry.number bytes old ix end put)
    (c.put_html-in-OwnedHtml.ensures.puts source tables tables' put.grown at.found
    (can_put_owned source tables tables' entry.number bytes old ix end put at.lies)))
