-- The items that are put in place where markup was found can be put there, and read as the trees that replace the `<`.
use Rattle.markdown_base.specs.declared.item.ItemBody.TheVariants as body
use Rattle.std.proofs.Common.{Bool, true, if◌then◌else◌, ◌≡◌, ℕ, zero, suc, ◌+◌, ◌-◌, ◌<◌, ◌≤◌, ◌⊎◌, inl, inr, false}
use Rattle.std.proofs.Common.{List, [], ◌∷◌, ◌++◌, Option, Some, None, length, take, drop, get_or, refl, sym, ap, ◌∙◌}
use Rattle.std.proofs.Common.{subst, arith, append-nil, length-append}
use Rattle.std.specs.Prelude.{IfSome, codes, slice_index, slice_range}
use Rattle.std.specs.Option.{option_map}
use Rattle.std.specs.Str.{IsCharBoundary}
use Rattle.std.proofs.lemmas.Bool.{cases_lt}
use Rattle.std.proofs.lemmas.List.{drop_all, get_or-take, get_or_past, length-drop, length-take}
use Rattle.std.proofs.lemmas.Str.{IsCharBoundary-before_ascii}
use Rattle.markdown_base.specs.Arena.{child_of, sibling_of}
use Rattle.markdown_base.specs.ArenaForest.{links_of}
use Rattle.markdown_base.specs.BlockTree.{item_at}
use Rattle.markdown_base.specs.Event.{LinkView, link_view}
use Rattle.markdown_base.specs.Forest.{Forest, roots}
use Rattle.markdown_base.specs.Item.{LiesIn}
use Rattle.markdown_base.specs.declared.index.CowIndex.{CowIndex}
use Rattle.markdown_base.specs.declared.index.LinkIndex.{LinkIndex}
use Rattle.markdown_base.specs.declared.item.Item.{Item}
use Rattle.markdown_base.specs.declared.node.Node.{Node}
use Rattle.markdown_base.specs.declared.tag.LinkType.{LinkType}
use Rattle.markdown_base.proofs.ArenaForestLemmas.{opens}
use Rattle.markdown_document.specs.ChainRest.{joined_chains, past}
use Rattle.markdown_document.specs.Document.{Plain}
use Rattle.markdown_document.specs.LinkOrigins.{IsLinkFrom, IsTitleFrom, titles_for}
use Rattle.markdown_document.specs.Origins.{IsSliceWithin, Origin, origin_of, sliced}
use Rattle.markdown_document.specs.Places.{tree_node_at, trees_from}
use Rattle.markdown_document.specs.PlacedNodes.{HasSliceLink, IsPlaced}
use Rattle.markdown_document.specs.Setting.{Rules, setting_of}
use Rattle.markdown_document.specs.Tables.{Tables, link_at, link_origins, tables_of, titles_at}
use Rattle.markdown_document.specs.NamedEntries.{HasGrown, Named, link_origins_at, number_of, size_for, some_link}
use Rattle.markdown_document.specs.NamedEntries.{some_text, times_named}
use Rattle.markdown_spans.specs.AfterLess.{Markup, address_at, autolink, html_markup, markup_at}
use Rattle.markdown_spans.specs.Finds.{address, link_type, markup_trees}
use Rattle.markdown_spans.specs.declared.after_less.AutolinkKind.{AutolinkKind}
use Rattle.markdown_spans.specs.declared.after_less.AutolinkKind.TheVariants.{Uri, Email}
use Rattle.markdown_raw_html.specs.HtmlTag.{html_tag}
use Rattle.markdown_raw_html.specs.TagSource.{tag_at, tag_lengths, tag_of}
use Rattle.markdown_raw_html.proofs.RawHtmlLemmas.{EndsWith}
use Rattle.markdown_raw_html.proofs.TagSourceLemmas.{Closes-html_tag}
use Rattle.markdown_defs.specs.Allocations.{Allocated, LinkParts}
use Rattle.markdown_defs.specs.AllocationCalls.{with_link}
use Rattle.markdown_resolver.specs.declared.continuation.Continuation.{Continuation}
use Rattle.markdown_resolver.specs.Chains.{CanResolve}
use Rattle.markdown_resolver.specs.MarkupItems.{IsAddress, address_to, item_to, standing_for}
use Rattle.markdown_resolver.specs.Rewritten.{CanPut, CanPutParent, Puts, Standing, one_item, parent, replaced}
use Rattle.markdown_resolver.proofs.CodeSpanLemmas.{can_put_text, PutsText}
use Rattle.markdown_resolver.proofs.LiteralTextLemmas.{names_nothing}
use Rattle.markdown_resolver.proofs.PutFoundLemmas.{same_before}
use Rattle.markdown_resolver.proofs.FollowersLemmas.{opens_chain}
use Rattle.markdown_resolver.proofs.MarkupEndLemmas.{EndsClosed}

-- a boundary of a text's beginning up to another boundary is one of the text
pub boundary_after : (text : List ℕ) (end i : ℕ) → IsCharBoundary text end → IsCharBoundary (take end text) i
    → IsCharBoundary text i
boundary_after text end i last at = cases (cases_lt i end)
  where
    cases : (i < end) ⊎ (end ≤ i) → IsCharBoundary text i
    cases (inl below) = (
      omega (arith, length-take end text, at.0),
      λ within high.
          let byte = get_or-take end text i 0 below in
          let inside : i < length (take end text) = omega (arith, length-take end text, within, below) in
          omega (arith, byte, at.1 inside (omega (arith, byte, high))),
    )
    cases (inr past) =
        let same : i ≡ end = omega (arith, length-take end text, at.0, past) in
        rw same last

-- a `<` is one byte
pub one_byte_long : (source : List ℕ) (tables : Tables) (nodes : List (Node Item)) (ix : ℕ)
    → CanResolve source tables nodes (Some ix) → (item_at nodes ix).body ≡ body.MaybeHtml
    → (item_at nodes ix).end ≡ (item_at nodes ix).start + 1
one_byte_long source tables nodes ix ready is =
    let placed = (opens (links_of nodes) (IsPlaced source tables nodes) ix ready.reaches).holds in
    let item = item_at nodes ix in
    let bytes : slice_range source item.start item.end ≡ codes "<" = rw is at placed.keeps.markup_is_there in
    let size : length (slice_range source item.start item.end) ≡ 1 = ap length bytes in
    omega (
      arith,
      size,
      length-take (item.end - item.start) (drop item.start source),
      length-drop item.start source,
      placed.lies.end.0,
      placed.lies.ordered,
    )

-- the item of a node that may be read lies in the text
pub lies_at : {source : List ℕ} {tables : Tables} {nodes : List (Node Item)} {ix : ℕ}
    → CanResolve source tables nodes (Some ix) → LiesIn source (item_at nodes ix)
lies_at {source} {tables} {nodes} {ix} ready
    = (opens (links_of nodes) (IsPlaced source tables nodes) ix ready.reaches).holds.lies

-- past the end of a text nothing is found
no_tag : (skipped : List ℕ → Option ℕ) (text : List ℕ) (start : ℕ) → length text ≤ start → tag_at skipped text start
    ≡ None
no_tag skipped text start past = rw (drop_all start text past) (cases (html_tag []) (Closes-html_tag.is []))
  where
    cases : (found : Option ℕ) → IfSome found (EndsWith 62 [])
        → option_map (λ n. tag_of skipped start [] (tag_lengths skipped [] n)) found ≡ None
    cases None h = refl
    cases (Some n) h = absurd (omega (arith, h.some, h.within))

no_address : (addresses : Bool) (text : List ℕ) (at : ℕ) → length text ≤ at → address_at addresses text at ≡ None
no_address true text at past = rw (drop_all at text past) refl
no_address false text at past = refl

pub none_past_end : (skipped : List ℕ → Option ℕ) (addresses : Bool) (text : List ℕ) (start at : ℕ)
    → length text ≤ start → start < at → markup_at skipped addresses text start at ≡ None
unfolding markup_at
none_past_end skipped addresses text start at past later =
    let beyond : length text ≤ at = omega (arith, past, later) in
    let byte : slice_index text at ≡ 0 = get_or_past text at 0 beyond in
    let tag = no_tag skipped text start past in
    rw (no_address addresses text at beyond, drop_all at text beyond, byte, tag) refl

-- a link that was put into its table is found there
link_pushed : (links : List LinkParts) (link : LinkParts) (n : ℕ) → n ≡ length links → link_at (links ++ link ∷ []) n
    ≡ link_view link
link_pushed [] link n e = rw e refl
link_pushed (c ∷ links) link zero e = cc e
link_pushed (c ∷ links) link (suc n) e = link_pushed links link n (omega (arith, e))

-- and its title has the origin that it had
pub titles_pushed : (links : List LinkParts) (link : LinkParts) (n : ℕ) → n ≡ length links
    → titles_at (links ++ link ∷ []) n ≡ titles_for link.0 (origin_of link.2)
titles_pushed [] link n e = rw e refl
titles_pushed (c ∷ links) link zero e = cc e
titles_pushed (c ∷ links) link (suc n) e = titles_pushed links link n (omega (arith, e))

-- and comes from where it came from
from_pushed : (source : List ℕ) (start end : ℕ) (links : List LinkParts) (link : LinkParts) (n : ℕ) (view : LinkView)
    → n ≡ length links → link_view link ≡ view → IsLinkFrom source start end (link_origins link) view
    → IsLinkFrom source start end (link_origins_at (links ++ link ∷ []) n) (link_at (links ++ link ∷ []) n)
from_pushed source start end [] link n view e same h =
    rw e (subst (λ (v : LinkView). IsLinkFrom source start end (link_origins link) v) (sym same) h)
from_pushed source start end (c ∷ links) link zero view e same h = cc e
from_pushed source start end (c ∷ links) link (suc n) view e same h =
    from_pushed source start end links link n view (omega (arith, e)) same h

pub record PutsLink (source : List ℕ) (start end : ℕ) (tables tables' : Tables) (ix : LinkIndex) (link : LinkView)
    : Type 0 where
  pub grown : HasGrown tables tables'
  pub found : link_at tables'.links ix.0 ≡ link
  pub within : ix.0 < length tables'.links
  pub number : ix.0 ≡ length tables.links
  pub slices : HasSliceLink source tables' start end ix.0

pub link_put : (source : List ℕ) (start end : ℕ) (held held' : Allocated) (link : LinkParts) (number : LinkIndex)
    (view : LinkView) → held' ≡ with_link held link → number.0 ≡ length held.links
    → IsLinkFrom source start end (link_origins link) view → link_view link ≡ view
    → PutsLink source start end (tables_of held) (tables_of held') number view
link_put source start end held held' link number view put last from same = rw put (record {
  grown = record { more_cows = []; more_links = link ∷ []; grown = rw (append-nil held.cows) refl };
  found = link_pushed held.links link number.0 last ∙ same;
  within = omega (arith, last, length-append held.links (link ∷ []));
  number = last;
  slices = from_pushed source start end held.links link number.0 view last same from;
})

-- the entry of an autolink leads to its URI or its address in the source
pub address_from : (source : List ℕ) (start end : ℕ) (title : Origin) (kind : AutolinkKind) (bytes : List ℕ)
    → IsSliceWithin source start end bytes
    → IsLinkFrom source start end (record { destination = sliced; title = title }) (address kind bytes)
address_from source start end title kind bytes slice = record {
  leads = λ e. record { destination = slice; no_title = refl; no_label = refl };
  title = no_title kind;
}
  where
    no_title : (kind : AutolinkKind) → IsTitleFrom source start end (link_type kind) title []
    no_title Uri = tt
    no_title Email = tt

pub address_is : (written : LinkType) (kind : AutolinkKind) (bytes : List ℕ) → written ≡ link_type kind
    → record { kind = written; destination = bytes; title = []; label = [] } ≡ address kind bytes
address_is written kind bytes e = rw e refl

-- a link or an image with an entry and a range
abbrev pub link_over : (is_image : Bool) → LinkIndex → (start end : ℕ) → Item
link_over is_image number start end = record
    { start = start; end = end; body = if is_image then body.Image number else body.Link number }

-- it can be put in place, where it lies in the text
pub can_put_link : (source : List ℕ) (tables tables' : Tables) (is_image : Bool) (number : LinkIndex) (view : LinkView)
    (start end : ℕ) → PutsLink source start end tables tables' number view
    → start ≤ end → IsCharBoundary source start → IsCharBoundary source end
    → CanPut source tables tables' (link_over is_image number start end)
can_put_link source tables tables' true number view start end put ordered from to = record {
  closed = refl;
  no_block = refl;
  lies = record { ordered = ordered; start = from; end = to };
  named = record { text = tt; link = put.within; alignments = tt; attributes = tt };
  slices = put.slices;
  new_names = by_image;
}
  where
    by_image : (n : Named) → number_of n < size_for tables n → times_named n (body.Image number) ≡ 0
    by_image (some_link n) h = same_before n number.0 (omega (arith, h, put.number))
    by_image other h = refl
can_put_link source tables tables' false number view start end put ordered from to = record {
  closed = refl;
  no_block = refl;
  lies = record { ordered = ordered; start = from; end = to };
  named = record { text = tt; link = put.within; alignments = tt; attributes = tt };
  slices = put.slices;
  new_names = by_link;
}
  where
    by_link : (n : Named) → number_of n < size_for tables n → times_named n (body.Link number) ≡ 0
    by_link (some_link n) h = same_before n number.0 (omega (arith, h, put.number))
    by_link other h = refl

-- raw HTML as it is in the source
pub can_put_html : (source : List ℕ) (tables : Tables) (nodes : List (Node Item)) (ix end : ℕ)
    → LiesIn source (item_to nodes ix end (body.Text false))
    → CanPut source tables tables (item_to nodes ix end body.InlineHtml)
can_put_html source tables nodes ix end lies = record {
  closed = refl;
  no_block = refl;
  lies = record { ordered = lies.ordered; start = lies.start; end = lies.end };
  named = record { text = tt; link = tt; alignments = tt; attributes = tt };
  slices = tt;
  new_names = none;
}
  where
    none : (n : Named) → number_of n < size_for tables n → times_named n body.InlineHtml ≡ 0
    none (some_text n) h = refl
    none other h = refl

-- raw HTML without the prefixes of lines
pub can_put_owned : (source : List ℕ) (tables tables' : Tables) (number : CowIndex) (bytes : List ℕ)
    (nodes : List (Node Item)) (ix end : ℕ) → PutsText tables tables' number bytes
    → LiesIn source (item_to nodes ix end (body.Text false))
    → CanPut source tables tables' (item_to nodes ix end (body.OwnedInlineHtml number))
can_put_owned source tables tables' number bytes nodes ix end put lies = record {
  closed = refl;
  no_block = refl;
  lies = record { ordered = lies.ordered; start = lies.start; end = lies.end };
  named = record { text = put.within; link = tt; alignments = tt; attributes = tt };
  slices = tt;
  new_names = none;
}
  where
    none : (n : Named) → number_of n < size_for tables n → times_named n (body.OwnedInlineHtml number) ≡ 0
    none (some_text n) h = same_before n number.0 (omega (arith, h, put.number))
    none other h = refl

-- an autolink, with its text below it
pub can_put_autolink : (source : List ℕ) (tables tables' : Tables) (number : LinkIndex) (kind : AutolinkKind)
    (bytes : List ℕ) (nodes : List (Node Item))
    (ix end : ℕ) → PutsLink source (item_at nodes ix).start end tables tables' number (address kind bytes)
    → LiesIn source (item_to nodes ix end (body.Text false)) → IsAddress source nodes ix end bytes
    → CanPutParent source tables tables' nodes ix (item_to nodes ix end (body.Link number)) (address_to nodes ix end)
can_put_autolink source tables tables' number kind bytes nodes ix end put lies there = record {
  puts = can_put_link source tables tables' false number (address kind bytes) (item_at nodes ix).start end put
      lies.ordered lies.start lies.end;
  puts_inside = can_put_text source tables tables' _ _ there.lies.ordered there.lies.start there.lies.end;
  names_nothing = names_nothing;
  starts = refl;
}

-- they read as the trees that replace what was found
abbrev pub ReadsFor : List ℕ → Rules → Tables → List (Node Item) → ℕ → Standing → Markup → Type 0
ReadsFor source rules tables nodes ix trees m =
    trees (tree_node_at source tables nodes ix) (trees_from source tables nodes (child_of nodes ix))
    ≡ standing_for source rules m (tree_node_at source tables nodes ix) (trees_from source tables nodes
    (child_of nodes ix))

pub html_trees : (source : List ℕ) (rules : Rules) (tables tables' : Tables) (nodes : List (Node Item)) (ix end : ℕ)
    → ReadsFor source rules tables nodes ix (one_item source tables' (item_to nodes ix end body.InlineHtml))
    (html_markup end None)
html_trees source rules tables tables' nodes ix end = refl

pub owned_trees : (source : List ℕ) (rules : Rules) (tables tables' : Tables) (number : CowIndex) (bytes : List ℕ)
    (nodes : List (Node Item)) (ix end : ℕ) → PutsText tables tables' number bytes
    → ReadsFor source rules tables nodes ix
    (one_item source tables' (item_to nodes ix end (body.OwnedInlineHtml number))) (html_markup end (Some bytes))
owned_trees source rules tables tables' number bytes nodes ix end put =
    ap (λ (xs : List ℕ). markup_trees (setting_of source rules) tt (tree_node_at source tables nodes ix)
    (html_markup end (Some xs))) put.found

no_titles : (kind : AutolinkKind) (origin : Origin) → titles_for (link_type kind) origin ≡ []
no_titles Uri origin = refl
no_titles Email origin = refl

pub autolink_trees : (source : List ℕ) (rules : Rules) (tables tables' : Tables) (number : LinkIndex)
    (kind : AutolinkKind) (bytes : List ℕ) (nodes : List (Node Item)) (ix end : ℕ)
    → PutsLink source (item_at nodes ix).start end tables tables' number (address kind bytes)
    → ReadsFor source rules tables nodes ix
    (parent source tables' (item_to nodes ix end (body.Link number)) (address_to nodes ix end))
    (autolink kind end bytes)
autolink_trees source rules tables tables' number kind bytes nodes ix end put =
    rw (put.found, no_titles kind (link_origins_at tables'.links number.0).title) refl

-- one tree replaces it
one_markup : (source : List ℕ) (rules : Rules) (m : Markup) (a : Plain) (below : Forest Plain)
    → length (roots (standing_for source rules m a below)) ≡ 1
one_markup source rules (autolink kind end bytes) a below = refl
one_markup source rules (html_markup end None) a below = refl
one_markup source rules (html_markup end (Some bytes)) a below = refl

-- so what was put in place replaces it
pub puts_standing : (source : List ℕ) (rules : Rules) (m : Markup) (ix : ℕ) (trees : Standing) (goes_on : Option ℕ)
    (rest : Continuation) (old new : List (Node Item)) (tables tables' : Tables)
    → CanResolve source tables old (Some ix) → ReadsFor source rules tables old ix trees m
    → Puts source ix trees goes_on rest old new tables tables'
    → Puts source ix (standing_for source rules m) goes_on rest old new tables tables'
puts_standing source rules m ix trees goes_on rest old new tables tables' ready same p = record {
  whole = λ rule nodes later r.
      let w = p.whole rule nodes later r in
      record { changes = w.changes; runs = w.runs; rewritten = w.rewritten ∙ alike rule };
  leaves = p.leaves;
  passes = p.passes;
  leads = p.leads;
  standing = p.standing;
  numbers = p.numbers;
  as_many = λ a below.
      one_markup source rules m a below ∙ sym (one_markup source rules m (tree_node_at source tables old ix)
      (trees_from source tables old (child_of old ix)))
      ∙ ap (λ (f : Forest Plain). length (roots f)) (sym same) ∙ p.as_many (tree_node_at source tables old ix)
      (trees_from source tables old (child_of old ix));
}
  where
    alike : (rule : Forest Plain → Forest Plain) → replaced trees goes_on rule (trees_from source tables old (Some ix))
        ≡ replaced (standing_for source rules m) goes_on rule (trees_from source tables old (Some ix))
    alike rule =
        let after = trees_from source tables old (sibling_of old ix) in
        let first = (opens_chain ready).trees in
        ap (replaced trees goes_on rule) first ∙ ap (λ (f : Forest Plain). joined_chains f (rule (past goes_on after)))
        same ∙ ap (replaced (standing_for source rules m) goes_on rule) (sym first)

-- what was found lies in the text
pub lies_to : (source : List ℕ) (tables : Tables) (nodes : List (Node Item)) (ix last end : ℕ)
    → CanResolve source tables nodes (Some ix) → IsCharBoundary source last
    → (item_at nodes ix).start < end → IsCharBoundary (take last source) end
    → LiesIn source (item_to nodes ix end (body.Text false))
lies_to source tables nodes ix last end ready boundary after at =
    let lies = lies_at ready in
    record { ordered = omega (arith, after); start = lies.start; end = boundary_after source last end boundary at }

-- the text of an autolink too
pub address_lies : (source : List ℕ) (tables : Tables) (nodes : List (Node Item)) (ix last end : ℕ)
    → CanResolve source tables nodes (Some ix)
    → EndsClosed (take last source) (item_at nodes ix).end end → LiesIn source (address_to nodes ix end)
address_lies source tables nodes ix last end ready ends =
    let lies = lies_at ready in
    let inside : end - 1 < last = omega (arith, ends.within, ends.after, length-take last source) in
    let within : end - 1 < length source = omega (arith, ends.within, ends.after, length-take last source) in
    let byte : get_or source (end - 1) 0 ≡ 62 = sym (get_or-take last source (end - 1) 0 inside) ∙ ends.closed in
    record {
      ordered = omega (arith, ends.after);
      start = lies.end;
      end = IsCharBoundary-before_ascii source (end - 1) within (omega (arith, byte));
    }

-- the byte before its end is `>` in the whole text
pub closed_in : (source : List ℕ) (last start end : ℕ) → EndsClosed (take last source) start end
    → get_or source (end - 1) 0 ≡ 62
closed_in source last start end ends =
    let inside : end - 1 < last = omega (arith, ends.within, ends.after, length-take last source) in
    sym (get_or-take last source (end - 1) 0 inside) ∙ ends.closed
