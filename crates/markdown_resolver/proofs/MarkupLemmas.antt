-- A `<` is read in place: what a scan finds from there on, in the text up to the block's end, is what pass one finds,
-- and what is put in place is what pass one makes of it.
use Rattle.std.specs.Option.{option_map_or}
use Rattle.std.specs.Prelude.{IfOk, slice_range}
use Rattle.std.specs.declared.result.Result.{Result}
use Rattle.std.proofs.Common.{Bool, Err, IsUtf8, List, None, Ok, Option, Some, ap, arith, false, length, refl, subst}
use Rattle.std.proofs.Common.{sym, take, true, ℕ, ◌+◌, ◌<◌, ◌==◌, ◌∙◌, ◌≡◌, ◌≤◌}
use Rattle.std.proofs.Math.Path.{fun_ext}
use Rattle.std.proofs.lemmas.List.{length-take}
use Rattle.markdown_base.specs.Arena.{Arena, child_of, sibling_of}
use Rattle.markdown_base.specs.ArenaForest.{Spells, forest_at, links_of}
use Rattle.markdown_base.specs.BlockTree.{item_at}
use Rattle.markdown_base.specs.Forest.{Forest, nil, node, relabelled}
use Rattle.markdown_base.specs.declared.item.Item.{Item}
use Rattle.markdown_base.specs.declared.item.ItemBody.TheVariants as body
use Rattle.markdown_base.specs.declared.node.Node.{Node}
use Rattle.markdown_base.proofs.ArenaForestLemmas.{opens}
use Rattle.markdown_document.specs.EnclosingBlocks.{EnclosingBlocks}
use Rattle.markdown_document.specs.ResolverStates.{above_cursor}
use Rattle.markdown_document.specs.ChainRest.{next_starts_at, past}
use Rattle.markdown_document.specs.Document.{no_notes}
use Rattle.markdown_document.specs.Origins.{IsSliceWithin}
use Rattle.markdown_document.specs.Places.{tree_node_at, trees_from}
use Rattle.markdown_document.specs.PlacedNodes.{IsPlaced}
use Rattle.markdown_document.specs.Setting.{Rules, Setting, setting_of}
use Rattle.markdown_document.specs.Tables.{Tables, tables_of}
use Rattle.markdown_spans.specs.AfterLess.{Markup, autolink, html_markup, markup_at}
use Rattle.markdown_base.specs.Syntax.{gfm_footnotes}
use Rattle.markdown_base.specs.declared.syntax.Syntax.{Syntax}
use Rattle.markdown_spans.specs.Finds.{Find, Passed, end_of_markup, markup, markup_found, nothing, passed, prefix_below}
use Rattle.markdown_spans.specs.PrefixView.{length_by}
use Rattle.markdown_spans.specs.declared.prefixes.ContainerPrefix.{ContainerPrefix}
use Rattle.markdown_spans.proofs.AfterLessLemmas.{closed_boundary}
use Rattle.markdown_spans.proofs.SliceLemmas.{slice_of_slice}
use Rattle.markdown_document.proofs.OriginLemmas.{slice_wider}
use Rattle.markdown_defs.specs.Allocations.{Allocated}
use Rattle.markdown_brackets.proofs.WrittenLemmas.{boundary_before, whole_range}
use Rattle.markdown_resolver.specs.declared.continuation.Continuation.{Continuation}
use Rattle.markdown_resolver.specs.ChainPlace.{CanReadItem, IsPlaceOf}
use Rattle.markdown_resolver.specs.Chains.{CanResolve}
use Rattle.markdown_resolver.specs.MarkupItems.{HasAddress, IsMarkupAt, standing_for}
use Rattle.markdown_resolver.specs.Rewritten.{Puts, literal, text_unless}
use Rattle.markdown_resolver.specs.ReadsItem.{ReadsItem}
use Rattle.markdown_document.specs.declared.chain_place.ChainPlace.{ChainPlace}
use Rattle.markdown_resolver.proofs.ChainPlaceLemmas.{prefix_is}
use Rattle.markdown_resolver.proofs.MarkupEndLemmas.{MarkupEnds, found_at, markup_ends}
use Rattle.markdown_resolver.proofs.MarkupItemLemmas.{address_lies, closed_in, lies_at, lies_to}
use Rattle.markdown_resolver.proofs.MarkupItemLemmas.{none_past_end, one_byte_long}
use Rattle.markdown_resolver.proofs.ReadsItemLemmas.{ReadsAs, opener_unquiet, read_opener, reads_item}
use Rattle.markdown_resolver.proofs.FollowersLemmas.{opens_chain}

-- where nothing is found, a `<` is a Text
literal_reads : (s : Setting) (above : EnclosingBlocks) (tables : Tables) (nodes : List (Node Item)) (ix : ℕ)
    → (item_at nodes ix).body ≡ body.MaybeHtml → markup_found s above (tree_node_at s.text tables nodes ix)
    (next_starts_at (item_at nodes ix).end (trees_from s.text tables nodes (sibling_of nodes ix))) ≡ nothing
    → ReadsAs s above tables nodes ix (literal s.text) None
literal_reads s above tables nodes ix is none =
    let a = tree_node_at s.text tables nodes ix in
    let r = read_opener s above tables nodes ix body.MaybeHtml is refl refl ∙ ap (passed s no_notes 0 a) none in
    let waits = opener_unquiet s tables nodes ix body.MaybeHtml is refl refl in
    record {
      standing = ap (λ (p : Passed (Unit {0})). p.trees) r
          ∙ ap (λ (quiet : Bool). text_unless quiet s.text a (trees_from s.text tables nodes (child_of nodes ix)))
          (sym waits);
      ends = ap (λ (p : Passed (Unit {0})). p.goes_on) r;
    }

-- otherwise it becomes the trees of the markup
found_reads : (s : Setting) (above : EnclosingBlocks) (tables : Tables) (nodes : List (Node Item)) (ix : ℕ) (m : Markup)
    → (item_at nodes ix).body ≡ body.MaybeHtml → markup_found s above (tree_node_at s.text tables nodes ix)
    (next_starts_at (item_at nodes ix).end (trees_from s.text tables nodes (sibling_of nodes ix))) ≡ markup m
    → ReadsAs s above tables nodes ix (standing_for s.text s.rules m) (Some (end_of_markup m))
found_reads s above tables nodes ix m is found =
    let r = read_opener s above tables nodes ix body.MaybeHtml is refl refl
    ∙ ap (passed s no_notes 0 (tree_node_at s.text tables nodes ix)) found in
    record { standing = ap (λ (p : Passed (Unit {0})). p.trees) r; ends = ap (λ (p : Passed (Unit {0})). p.goes_on) r }

-- whether the next item starts at a byte
starts_in : (source : List ℕ) (tables : Tables) (nodes : List (Node Item)) (i : ℕ) (l : Option ℕ) (f : Forest ℕ)
    → Spells (links_of nodes) l f → option_map_or (λ ix. (item_at nodes ix).start == i) l false
    ≡ next_starts_at i (relabelled (tree_node_at source tables nodes) f)
starts_in source tables nodes i l nil s = rw s refl
starts_in source tables nodes i l (node ix below after) s = rw s.0 refl

pub next_starts : (source : List ℕ) (tables : Tables) (nodes : List (Node Item)) (i ix : ℕ)
    → CanResolve source tables nodes (Some ix)
    → option_map_or (λ n. (item_at nodes n).start == i) (sibling_of nodes ix) false
    ≡ next_starts_at i (trees_from source tables nodes (sibling_of nodes ix))
next_starts source tables nodes i ix ready =
    let after = (opens (links_of nodes) (IsPlaced source tables nodes) ix ready.reaches).after in
    starts_in source tables nodes i (sibling_of nodes ix) (forest_at (links_of nodes) (sibling_of nodes ix))
    after.spelled

-- what was scanned with the prefix of all nodes that were entered is what is found below the blocks
pub scanned_is : (place : ChainPlace) (prefix : ContainerPrefix) (tree : Arena Item) (rules : Rules) (start at : ℕ)
    (found : Option Markup) → prefix.containers.now ≡ place.containers.now
    → prefix.gfm_footnotes ≡ gfm_footnotes place.syntax → rules.syntax ≡ place.syntax → IsPlaceOf place tree
    → found ≡ markup_at (λ rest. Some (length_by prefix rest)) place.syntax.addresses
    (take place.block_end place.text.now) start at
    → markup_at (λ bytes. Some
    (prefix_below (setting_of place.text.now rules) (above_cursor place.text.now tree) bytes))
    rules.syntax.addresses (take (above_cursor place.text.now tree).block_end place.text.now) start at ≡ found
scanned_is place prefix tree rules start at found here gfm same stands is =
    let s = setting_of place.text.now rules in
    let above = above_cursor place.text.now tree in
    let by : (bytes : List ℕ) → length_by prefix bytes ≡ prefix_below s above bytes =
    prefix_is prefix place tree s here gfm (ap gfm_footnotes same) refl stands in
    let rule : (λ rest. Some (length_by prefix rest)) ≡ (λ rest. Some (prefix_below s above rest)) =
    fun_ext (λ bytes. ap (λ (n : ℕ). Some n) (by bytes)) in
    sym (is ∙ (ap (λ (skipped : List ℕ → Option ℕ). markup_at skipped place.syntax.addresses
    (take place.block_end place.text.now) start at) rule
    ∙ (ap (λ (syntax : Syntax). markup_at (λ bytes. Some (prefix_below s above bytes)) syntax.addresses
    (take place.block_end place.text.now) start at) (sym same)
    ∙ ap (λ (end : ℕ). markup_at (λ bytes. Some (prefix_below s above bytes)) rules.syntax.addresses
    (take end place.text.now) start at) stands.block_end)))

-- a `<` before the block's end that the next item follows was scanned, and this was found
pub record IsScanned (place : ChainPlace) (tree : Arena Item) (held : Allocated) (ix : ℕ) (prefix : ContainerPrefix)
    (found : Option Markup)
    : Type 0 where
  pub can : CanReadItem place tree held ix
  pub opener : (item_at tree.nodes ix).body ≡ body.MaybeHtml
  pub inside : (item_at tree.nodes ix).end ≤ place.block_end
  pub follows : option_map_or (λ n. (item_at tree.nodes n).start == (item_at tree.nodes ix).end)
      (sibling_of tree.nodes ix) false ≡ true
  pub here : prefix.containers.now ≡ place.containers.now
  pub gfm : prefix.gfm_footnotes ≡ gfm_footnotes place.syntax
  pub utf8 : IsUtf8 (take place.block_end place.text.now)
  pub value : found ≡ markup_at (λ rest. Some (length_by prefix rest)) place.syntax.addresses
      (take place.block_end place.text.now) (item_at tree.nodes ix).start (item_at tree.nodes ix).end

-- so it is where the item was copied, and the text cut
pub is_scanned : {place : ChainPlace} {tree : Arena Item} {held : Allocated} {ix : ℕ} {found : Option Markup}
    {item : Item} {next : Option ℕ} {text : List ℕ} {addresses : Bool} (prefix : ContainerPrefix)
    → CanReadItem place tree held ix → (item_at tree.nodes ix).body ≡ body.MaybeHtml → item ≡ item_at tree.nodes ix
    → item.end ≤ place.block_end
    → next ≡ sibling_of tree.nodes ix → true ≡ option_map_or (λ n. (item_at tree.nodes n).start == item.end) next false
    → prefix.containers.now ≡ place.containers.now → prefix.gfm_footnotes ≡ gfm_footnotes place.syntax → text
    ≡ slice_range place.text.now 0 place.block_end → IsUtf8 text → addresses ≡ place.syntax.addresses
    → found ≡ markup_at (λ rest. Some (length_by prefix rest)) addresses text item.start item.end
    → IsScanned place tree held ix prefix found
is_scanned {place} {tree} {held} {ix} {found} {item} {next} {text} {addresses} prefix can opener same inside after
    follows here gfm cut utf8 on value =
    let whole : text ≡ take place.block_end place.text.now = cut ∙ whole_range place.text.now place.block_end in
    record {
      can = can;
      opener = opener;
      inside = rw same at inside;
      follows =
          ap (λ (o : Option ℕ). option_map_or (λ n. (item_at tree.nodes n).start == (item_at tree.nodes ix).end) o
          false) (sym after)
          ∙ (ap (λ (i : Item). option_map_or (λ n. (item_at tree.nodes n).start == i.end) next false) (sym same)
          ∙ sym follows);
      here = here;
      gfm = gfm;
      utf8 = subst IsUtf8 whole utf8;
      value = value
          ∙ (ap (λ (b : Bool). markup_at (λ rest. Some (length_by prefix rest)) b text item.start item.end) on
          ∙ (ap (λ (xs : List ℕ). markup_at (λ rest. Some (length_by prefix rest)) place.syntax.addresses xs
          item.start item.end) whole
          ∙ ap (λ (i : Item). markup_at (λ rest. Some (length_by prefix rest)) place.syntax.addresses
          (take place.block_end place.text.now) i.start i.end) same));
    }

-- the markup that was found, or nothing
abbrev pub markup_or_nothing : Option Markup → Find (Unit {0})
markup_or_nothing found = option_map_or markup found nothing

-- what pass one finds there
abbrev pub found_by : ChainPlace → Arena Item → Allocated → ℕ → Rules → Find (Unit {0})
found_by place tree held ix rules =
    markup_found (setting_of place.text.now rules) (above_cursor place.text.now tree)
    (tree_node_at place.text.now (tables_of held) tree.nodes ix) (next_starts_at (item_at tree.nodes ix).end
    (trees_from place.text.now (tables_of held) tree.nodes (sibling_of tree.nodes ix)))

-- it is what was scanned
pub scan_finds : (place : ChainPlace) (tree : Arena Item) (held : Allocated) (ix : ℕ) (prefix : ContainerPrefix)
    (found : Option Markup) (rules : Rules) → IsScanned place tree held ix prefix found
    → rules.syntax ≡ place.syntax → found_by place tree held ix rules ≡ markup_or_nothing found
scan_finds place tree held ix prefix found rules is same =
    let s = setting_of place.text.now rules in
    let item = item_at tree.nodes ix in
    let after = sym (next_starts place.text.now (tables_of held) tree.nodes item.end ix is.can.ready) ∙ is.follows in
    ap (markup_found s (above_cursor place.text.now tree) (tree_node_at place.text.now (tables_of held) tree.nodes ix))
    after ∙ ap markup_or_nothing
    (scanned_is place prefix tree rules item.start item.end found is.here is.gfm same is.can.stands is.value)

-- nothing is found where no item follows directly
pub none_follows : (place : ChainPlace) (tree : Arena Item) (held : Allocated) (ix : ℕ) (rules : Rules) (item : Item)
    (next : Option ℕ) → CanReadItem place tree held ix → item ≡ item_at tree.nodes ix → next ≡ sibling_of tree.nodes ix
    → false ≡ option_map_or (λ n. (item_at tree.nodes n).start == item.end) next false
    → found_by place tree held ix rules ≡ nothing
none_follows place tree held ix rules item next can same after none =
    let follows =
    sym (next_starts place.text.now (tables_of held) tree.nodes (item_at tree.nodes ix).end ix can.ready)
    ∙ (ap (λ (o : Option ℕ). option_map_or (λ n. (item_at tree.nodes n).start == (item_at tree.nodes ix).end) o false)
    (sym after)
    ∙ (ap (λ (i : Item). option_map_or (λ n. (item_at tree.nodes n).start == i.end) next false) (sym same) ∙ sym none))
    in
    ap (markup_found (setting_of place.text.now rules) (above_cursor place.text.now tree)
    (tree_node_at place.text.now (tables_of held) tree.nodes ix)) follows

-- nor where the `<` is not before the block's end
pub none_past_block : (place : ChainPlace) (tree : Arena Item) (held : Allocated) (ix : ℕ) (rules : Rules) (item : Item)
    → CanReadItem place tree held ix
    → (item_at tree.nodes ix).body ≡ body.MaybeHtml → item ≡ item_at tree.nodes ix → place.block_end < item.end
    → found_by place tree held ix rules ≡ nothing
none_past_block place tree held ix rules item can opener same past =
    by_next (next_starts_at (item_at tree.nodes ix).end
    (trees_from place.text.now (tables_of held) tree.nodes (sibling_of tree.nodes ix)))
  where
    start : ℕ
    start = (item_at tree.nodes ix).start

    none : markup_at (λ bytes. Some
        (prefix_below (setting_of place.text.now rules) (above_cursor place.text.now tree) bytes))
        rules.syntax.addresses (take (above_cursor place.text.now tree).block_end place.text.now) start
        (item_at tree.nodes ix).end ≡ None
    none =
        let last = can.stands.block_end in
        let long = one_byte_long place.text.now (tables_of held) tree.nodes ix can.ready opener in
        let end : item.end ≡ (item_at tree.nodes ix).end = ap (λ (i : Item). i.end) same in
        let beyond : length (take (above_cursor place.text.now tree).block_end place.text.now) ≤ start =
        omega (arith, length-take (above_cursor place.text.now tree).block_end place.text.now, last, long, end, past) in
        none_past_end (λ bytes. Some
        (prefix_below (setting_of place.text.now rules) (above_cursor place.text.now tree) bytes))
        rules.syntax.addresses (take (above_cursor place.text.now tree).block_end place.text.now) start
        (item_at tree.nodes ix).end beyond (omega (arith, long))

    by_next : (follows : Bool) → markup_found (setting_of place.text.now rules) (above_cursor place.text.now tree)
        (tree_node_at place.text.now (tables_of held) tree.nodes ix) follows ≡ nothing
    by_next false = refl
    by_next true = ap markup_or_nothing none

-- what was found ends so
scan_ends : (place : ChainPlace) (tree : Arena Item) (held : Allocated) (ix : ℕ) (prefix : ContainerPrefix) (m : Markup)
    → IsScanned place tree held ix prefix (Some m)
    → MarkupEnds (take place.block_end place.text.now) (item_at tree.nodes ix).start (item_at tree.nodes ix).end m
scan_ends place tree held ix prefix m is =
    let item = item_at tree.nodes ix in
    let long = one_byte_long place.text.now (tables_of held) tree.nodes ix is.can.ready is.opener in
    let lies = lies_at is.can.ready in
    let before : item.end ≤ length (take place.block_end place.text.now)
    = (boundary_before place.text.now place.block_end item.end lies.end is.inside).0 in
    markup_ends (λ rest. Some (length_by prefix rest)) place.syntax.addresses
    (take place.block_end place.text.now) item.start item.end m (omega (arith, long)) before (sym is.value)

-- so it can be put in place
has_address : (place : ChainPlace) (tree : Arena Item) (held : Allocated) (ix : ℕ) (m : Markup)
    → CanReadItem place tree held ix
    → MarkupEnds (take place.block_end place.text.now) (item_at tree.nodes ix).start (item_at tree.nodes ix).end m
    → HasAddress place.text.now tree.nodes ix m
has_address place tree held ix (html_markup end bytes) can ends = tt
has_address place tree held ix (autolink kind end bytes) can ends = record {
  some = ends.address.0;
  lies = address_lies place.text.now (tables_of held) tree.nodes ix place.block_end end can.ready
      (record { after = ends.address.0; within = ends.ends.within; closed = ends.ends.closed });
  slice =
      let item = item_at tree.nodes ix in
      slice_wider place.text.now (0 + item.end) (0 + end) item.start end bytes
      (omega (arith, (opens_chain can.ready).placed.lies.ordered))
      (omega arith) (slice_of_slice place.text.now 0 place.block_end item.end end bytes
      (subst (λ (text : List ℕ). IsSliceWithin text item.end end bytes) (sym (whole_range place.text.now
      place.block_end))
      ends.address.1));
}

pub markup_stands : {place : ChainPlace} {tree : Arena Item} {held : Allocated} {ix : ℕ} {prefix : ContainerPrefix}
    {m : Markup} → IsScanned place tree held ix prefix (Some m)
    → IsMarkupAt place.text.now (tables_of held) tree.nodes ix m
markup_stands {place} {tree} {held} {ix} {prefix} {m} is =
    let at = scan_ends place tree held ix prefix m is in
    let source = place.text.now in
    let end = end_of_markup m in
    record {
      found = found_at source (tables_of held) tree.nodes ix end is.can.ready is.can.unread is.opener
          (closed_in source place.block_end (item_at tree.nodes ix).start end at.ends);
      lies = lies_to source (tables_of held) tree.nodes ix place.block_end end is.can.ready is.can.stands.boundary
          at.ends.after (closed_boundary (take place.block_end source) end is.utf8 at.ends.within at.ends.closed);
      address = has_address place tree held ix m is.can at;
    }

-- where nothing is found the item is read as it becomes literal text
pub reads_text : {place : ChainPlace} {tree : Arena Item} {held : Allocated} {ix : ℕ} {rules : Rules} {rest :
    Continuation}
    {new : List (Node Item)} → CanReadItem place tree held ix
    → (item_at tree.nodes ix).body ≡ body.MaybeHtml → found_by place tree held ix rules ≡ nothing
    → Puts place.text.now ix (literal place.text.now) None rest tree.nodes new (tables_of held) (tables_of held)
    → ReadsItem (setting_of place.text.now rules) (above_cursor place.text.now tree) ix rest tree.nodes new
    (tables_of held) (tables_of held)
reads_text {place} {tree} {held} {ix} {rules} {rest} {new} can opener none p =
    let s = setting_of place.text.now rules in
    let above = above_cursor place.text.now tree in
    reads_item can.ready (literal_reads s above (tables_of held) tree.nodes ix opener none) p

-- where markup is found, the item is read as the trees that replace it
pub reads_found : (place : ChainPlace) (tree : Arena Item) (held : Allocated) (ix : ℕ) (prefix : ContainerPrefix)
    (m : Markup) (rules : Rules) (rest : Continuation) (new : List (Node Item)) (tables' : Tables)
    → IsScanned place tree held ix prefix (Some m) → rules.syntax ≡ place.syntax
    → Puts place.text.now ix (standing_for place.text.now rules m) (Some (end_of_markup m)) rest tree.nodes new
    (tables_of held) tables'
    → ReadsItem (setting_of place.text.now rules) (above_cursor place.text.now tree) ix rest tree.nodes new
    (tables_of held) tables'
reads_found place tree held ix prefix m rules rest new tables' is same p =
    let s = setting_of place.text.now rules in
    let above = above_cursor place.text.now tree in
    let found = scan_finds place tree held ix prefix (Some m) rules is same in
    reads_item is.can.ready (found_reads s above (tables_of held) tree.nodes ix m is.opener found) p

-- what is true of a result where another fact is
pub if_ok : {T E : Type 0} (r : Result T E) (P Q : T → Type 0) → ((x : T) → P x → Q x) → IfOk r P → IfOk r Q
if_ok (Ok x) P Q f h = f x h
if_ok (Err e) P Q f h = tt
