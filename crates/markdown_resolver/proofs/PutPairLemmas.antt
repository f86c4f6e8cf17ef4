-- Two items are put into the nodes of an opener and of what closes it: what is between them leaves the chain.
use Rattle.std.proofs.Common.{◌≡◌, ℕ, suc, ◌<◌, ◌≤◌, true, false, List, [], ◌∷◌, ◌++◌, length, Option, Some, None, refl}
use Rattle.std.proofs.Common.{sym, ap, ◌∙◌, subst, arith, nat_le}
use Rattle.std.proofs.lemmas.Bool.Decides.{nat_tests}
use Rattle.std.specs.Prelude.{IfSome}
use Rattle.std.specs.Option.{option_map}
use Rattle.markdown_base.specs.Arena.{sibling_of}
use Rattle.markdown_base.specs.ArenaForest.{forest_at, links_of}
use Rattle.markdown_base.specs.BlockTree.{Numbered, numbered, item_at}
use Rattle.markdown_base.specs.Forest.{Forest, nil, node, roots}
use Rattle.markdown_base.specs.Item.{is_open}
use Rattle.markdown_base.specs.declared.item.Item.{Item}
use Rattle.markdown_base.specs.declared.item.ItemBody.{ItemBody}
use Rattle.markdown_base.specs.declared.node.Node.{Node}
use Rattle.markdown_base.proofs.ArenaForestLemmas.{opens, forest_at-none}
use Rattle.markdown_document.proofs.PlaceLemmas.{slices-none}
use Rattle.markdown_document.specs.ChainRest.{past_byte}
use Rattle.markdown_document.specs.Document.{Plain, tree_node_of}
use Rattle.markdown_document.specs.ItemRules.{ComesBefore}
use Rattle.markdown_document.specs.Places.{tree_node_at, trees_from}
use Rattle.markdown_document.specs.PlacedNodes.{IsPlaced}
use Rattle.markdown_document.specs.ResolverStates.{times_in}
use Rattle.markdown_document.specs.Tables.{Tables}
use Rattle.markdown_document.specs.NamedEntries.{Named, some_text, some_link, some_alignments, NamesEntries, HasGrown}
use Rattle.markdown_document.specs.NamedEntries.{same_as, times_named}
use Rattle.markdown_document.proofs.FrameLemmas.{label-same}
use Rattle.markdown_document.proofs.TablesLemmas.{same-refl, grown-nothing, grown-longer}
use Rattle.markdown_spans.specs.ChainInArena.{LeadsThrough}
use Rattle.markdown_resolver.specs.Chains.{CanResolve}
use Rattle.markdown_resolver.specs.Rewritten.{Rewrites, Puts, replaced, first_past, pair, IsFoundAt, IsRestPast}
use Rattle.markdown_resolver.specs.Rewritten.{CanPutPair, MayBeCut, numbered_past_byte}
use Rattle.markdown_resolver.specs.declared.continuation.Continuation.{Continuation}
use Rattle.markdown_resolver.specs.LiteralText.{IsWritten, begun_from}
use Rattle.markdown_resolver.proofs.ChainOrderLemmas.{StandsPast, AllPast, rest_past, leads_kept, leads_lower}
use Rattle.markdown_resolver.proofs.ComposeLemmas.{Stands, stands_ready, Moves, changes_move, moves_none, moves_twice}
use Rattle.markdown_resolver.proofs.ComposeLemmas.{first_leaves, HeadWritten, HeadMoved, After, head_moves, head_leaves}
use Rattle.markdown_resolver.proofs.ComposeLemmas.{after_head}
use Rattle.markdown_resolver.proofs.PastByteLemmas.{passes_past, tree_same}
use Rattle.markdown_resolver.proofs.PutLemmas.{leaves_rest, whole_put, ClosesAt, before_closed, runs_closed}
use Rattle.markdown_resolver.proofs.PutLemmas.{no_run_here, first_kept, first_there, rest_same, rest_within, RestPast}
use Rattle.markdown_resolver.proofs.PutLemmas.{rest_past_is, rewrites_none, next_from, over_numbers}
use Rattle.markdown_resolver.proofs.PutFoundLemmas.{closed_head, none_below}

-- of numbers past a number, one that is among them
pub past_at : (nodes : List (Node Item)) (low byte n : ℕ) (before after : List ℕ)
    → AllPast nodes low byte (before ++ n ∷ after) → StandsPast nodes low byte n
past_at nodes low byte n [] after h = h.0
past_at nodes low byte n (m ∷ before) after h = past_at nodes low byte n before after h.1

-- links that lead through a chain lead through what follows a node, of which the same is left past a byte offset
pub record LeadsOn (nodes : List (Node Item)) (i low : ℕ) (l : Option ℕ) (chain : List Numbered) : Type 0 where
  pub rest : List Numbered
  pub leads : LeadsThrough nodes low l rest
  pub same_left : numbered_past_byte i chain ≡ numbered_past_byte i rest

leads_on : (nodes : List (Node Item)) (i ix low : ℕ) (chain : List Numbered) → (item_at nodes ix).end ≤ i
    → LeadsThrough nodes low (Some ix) chain → LeadsOn nodes i low (sibling_of nodes ix) chain
leads_on nodes i ix low [] le h = cc h
leads_on nodes i ix low (a ∷ after) le h =
    let is : ix ≡ a.number = cc (h.0) in
    let least = h.1 in
    let item : item_at nodes ix ≡ a.item = subst (λ (n : ℕ). item_at nodes n ≡ a.item) (sym is) h.3 in
    let ends : a.item.end ≤ i = rw item at le in
    let test : nat_le a.item.end i ≡ true = grind (arith, nat_tests, ends) in
    let go : LeadsThrough nodes (suc a.number) (sibling_of nodes ix) after = subst
    (λ (n : ℕ). LeadsThrough nodes (suc a.number) (sibling_of nodes n) after) (sym is) h.4 in
    record {
      rest = after;
      leads = leads_lower nodes low (suc a.number) (sibling_of nodes ix) after (omega (arith, least)) go;
      same_left = rw test refl;
    }

leads_further : (nodes : List (Node Item)) (i low : ℕ) (l l' : Option ℕ) (chain : List Numbered)
    → (d : LeadsOn nodes i low l chain) → LeadsOn nodes i low l' d.rest → LeadsOn nodes i low l' chain
leads_further nodes i low l l' chain d e = record {
  rest = e.rest;
  leads = e.leads;
  same_left = d.same_left ∙ e.same_left;
}

-- the chain from a link on goes on to an item, past which nothing is left that ended at its end or before
pub record Skips (source : List ℕ) (tables : Tables) (nodes : List (Node Item)) (i : ℕ) (l : Option ℕ) (closer : ℕ)
    : Type 0 where
  pub moves : Moves source l (Some closer) nodes nodes tables tables
  pub ready : CanResolve source tables nodes (Some closer)
  pub first : first_past nodes i (roots (forest_at (links_of nodes) l))
      ≡ first_past nodes i (roots (forest_at (links_of nodes) (sibling_of nodes closer)))
  pub reads : past_byte i (trees_from source tables nodes l)
      ≡ past_byte i (trees_from source tables nodes (sibling_of nodes closer))
  pub leads : (low : ℕ) (chain : List Numbered) → LeadsThrough nodes low l chain
      → LeadsOn nodes i low (sibling_of nodes closer) chain

-- one that ends there or before is skipped
record Skipped (source : List ℕ) (tables : Tables) (nodes : List (Node Item)) (i ix : ℕ) : Type 0 where
  first : first_past nodes i (roots (forest_at (links_of nodes) (Some ix)))
      ≡ first_past nodes i (roots (forest_at (links_of nodes) (sibling_of nodes ix)))
  reads : past_byte i (trees_from source tables nodes (Some ix))
      ≡ past_byte i (trees_from source tables nodes (sibling_of nodes ix))

skipped : (source : List ℕ) (tables : Tables) (nodes : List (Node Item)) (i ix : ℕ)
    → Stands source tables nodes (Some ix) → (item_at nodes ix).end ≤ i → Skipped source tables nodes i ix
skipped source tables nodes i ix s le =
    let o = opens (links_of nodes) (IsPlaced source tables nodes) ix s.reaches in
    let test : nat_le (item_at nodes ix).end i ≡ true = grind (arith, nat_tests, le) in
    record { first = rw (o.here, test) refl; reads = rw (o.here, test) refl }

-- what is left of a chain can be resolved
pub ready_next : (source : List ℕ) (tables : Tables) (nodes : List (Node Item)) (ix : ℕ)
    → CanResolve source tables nodes (Some ix) → CanResolve source tables nodes (sibling_of nodes ix)
ready_next source tables nodes ix ready =
    let o = opens (links_of nodes) (IsPlaced source tables nodes) ix ready.reaches in
    let s = (first_leaves (stands_ready ready)).stands in
    record {
      reaches = s.reaches;
      once = s.once;
      named_once = s.named_once;
      quiet_below = (rw o.here at ready.quiet_below).2;
    }

pub skips : (source : List ℕ) (tables : Tables) (nodes : List (Node Item)) (i closer : ℕ) (before after : List ℕ)
    (l : Option ℕ) → CanResolve source tables nodes l
    → roots (forest_at (links_of nodes) l) ≡ before ++ closer ∷ after → i ≡ (item_at nodes closer).end
    → Skips source tables nodes i l closer
skips source tables nodes i closer before after None ready e end = no_chain before
    (sym (ap (λ (f : Forest ℕ). roots f) (forest_at-none (links_of nodes))) ∙ e)
  where
    no_chain : (xs : List ℕ) → [] ≡ xs ++ closer ∷ after → Skips source tables nodes i None closer
    no_chain [] h = cc h
    no_chain (x ∷ xs) h = cc h
skips source tables nodes i closer [] after (Some ix) ready e end =
    let o = opens (links_of nodes) (IsPlaced source tables nodes) ix ready.reaches in
    let all : ix ∷ roots (forest_at (links_of nodes) (sibling_of nodes ix))
    ≡ closer ∷ after = sym (ap (λ (f : Forest ℕ). roots f) o.here) ∙ e in
    let is : closer ≡ ix = cc all in
    let here = subst (λ (n : ℕ). i ≡ (item_at nodes n).end) is end in
    let s = skipped source tables nodes i ix (stands_ready ready) (omega (arith, here)) in
    subst (λ (n : ℕ). Skips source tables nodes i (Some ix) n) (sym is) (record {
      moves = moves_none (stands_ready ready);
      ready = ready;
      first = s.first;
      reads = s.reads;
      leads = λ low chain h. leads_on nodes i ix low chain (omega (arith, here)) h;
    })
skips source tables nodes i closer (n ∷ before) after (Some ix) ready e end =
    let o = opens (links_of nodes) (IsPlaced source tables nodes) ix ready.reaches in
    let all : ix ∷ roots (forest_at (links_of nodes) (sibling_of nodes ix)) ≡ n ∷ (before ++ closer ∷ after) =
    sym (ap (λ (f : Forest ℕ). roots f) o.here) ∙ e in
    let rest : roots (forest_at (links_of nodes) (sibling_of nodes ix)) ≡ before ++ closer ∷ after = cc all in
    let r = skips source tables nodes i closer before after (sibling_of nodes ix)
    (ready_next source tables nodes ix ready) rest end in
    let past : AllPast nodes ix (item_at nodes ix).end (before ++ closer ∷ after) = rw rest at (rest_past ready) in
    let at = past_at nodes ix (item_at nodes ix).end closer before after past in
    let starts = at.start in
    let ordered = (opens (links_of nodes) (IsPlaced source tables nodes) closer r.ready.reaches).holds.lies.ordered in
    let stands = stands_ready ready in
    let ends : (item_at nodes ix).end ≤ i = omega (arith, end, starts, ordered) in
    let s = skipped source tables nodes i ix stands ends in
    record {
      moves = moves_twice (first_leaves stands) r.moves;
      ready = r.ready;
      first = s.first ∙ r.first;
      reads = s.reads ∙ r.reads;
      leads = λ low chain h.
          let d = leads_on nodes i ix low chain ends h in
          leads_further nodes i low (sibling_of nodes ix) (sibling_of nodes closer) chain d
          (r.leads low d.rest d.leads);
    }

-- what refers to nothing refers to entries of smaller tables too, and reads the same
none_named : (size : ℕ) (o : Option ℕ) → ((n : ℕ) → same_as n o ≡ 0) → IfSome o (λ n. n < size)
none_named size None h = tt
none_named size (Some n) h = let z = h n in let one = same-refl n in absurd (omega arith)

pub entries_of_none : (tables t : Tables) (b : ItemBody) → HasGrown tables t → ((n : Named) → times_named n b ≡ 0)
    → NamesEntries t b → NamesEntries tables b
entries_of_none tables t b grown h e = record {
  text = none_named (length tables.cows) _ (λ n. h (some_text n));
  link = none_named (length tables.links) _ (λ n. h (some_link n));
  alignments = none_named (length tables.alignments) _ (λ n. h (some_alignments n));
  attributes = rw (grown-longer tables t grown).headings at e.attributes;
}

pub tree_node_of_none : (source : List ℕ) (tables t : Tables) (nodes : List (Node Item)) (ix : ℕ) → HasGrown tables t
    → ((n : Named) → times_named n (item_at nodes ix).body ≡ 0)
    → tree_node_at source tables nodes ix ≡ tree_node_at source t nodes ix
tree_node_of_none source tables t nodes ix grown h =
    sym (label-same source tables t nodes nodes ix (record {
      at = record { child = refl; next = refl; item = refl };
      entries = λ n l. absurd (let z = h n in omega (arith, l, z));
      headings = (grown-longer tables t grown).headings;
    }))

-- the first of the pair was written, and is followed by the closer
record PairBegun (source : List ℕ) (ix closer i : ℕ) (old mid : List (Node Item)) (tables : Tables) : Type 0 where
  head : HeadWritten source ix old mid tables tables
  number : ix < closer
  skips : Skips source tables mid i (sibling_of old ix) closer

pair_begun : (source : List ℕ) (ix closer : ℕ) (first second : Item) (old mid : List (Node Item)) (tables t : Tables)
    → HasGrown tables t
    → IsFoundAt source tables old ix second.end → CanPutPair source tables t old ix closer first second
    → IsWritten old mid ix first (Some closer) → PairBegun source ix closer second.end old mid tables
pair_begun source ix closer first second old mid tables t grown finds can v =
    let l = sibling_of old ix in
    let opener = can.puts_first in
    let size = v.size in
    let h = closed_head source ix first old mid tables tables (grown-nothing tables) opener.closed opener.lies
    (entries_of_none tables t first.body grown can.names_nothing opener.named)
    (slices-none source tables first.start first.end first.body can.names_nothing) (λ n k. can.names_nothing n)
    v.item_is (omega (arith, size)) (λ n k d. v.others n d) in
    let a = after_head (stands_ready finds.ready) h in
    let listed : roots (forest_at (links_of mid) l) ≡ can.before ++ closer ∷ can.after = ap (λ (f : Forest ℕ). roots f)
    a.rest.forest ∙ can.follows in
    let past : AllPast old ix (item_at old ix).end (can.before ++ closer ∷ can.after) = rw can.follows at
    (rest_past finds.ready) in
    let number : ix < closer = (past_at old ix (item_at old ix).end closer can.before can.after past).number in
    let same_closer = v.others closer (λ e. absurd (omega (arith, number, e))) in
    let end : second.end ≡ (item_at mid closer).end = can.ends ∙ ap (λ (x : Item). x.end) (sym same_closer.item) in
    let ready : CanResolve source tables mid l =
    record {
      reaches = a.stands.reaches;
      once = a.stands.once;
      named_once = a.stands.named_once;
      quiet_below = rw a.rest.trees (rw a.here at finds.ready.quiet_below).2;
    } in
    record {
      head = h;
      number = number;
      skips = skips source tables mid second.end closer can.before can.after l ready listed end;
    }

-- the closer is written too, and what is left begins at its end
module _ {source : List ℕ} {ix closer : ℕ} {first second : Item} {rest : Continuation} {old mid last : List (Node Item)}
    {tables t : Tables} (grown : HasGrown tables t)
    (finds : IsFoundAt source tables old ix second.end) (can : CanPutPair source tables t old ix closer first second)
    (past : IsRestPast old second.end (sibling_of old ix) rest) (v : IsWritten old mid ix first (Some closer))
    (w : IsWritten mid last closer second rest.next) where
  abbrev next : Option ℕ
  next = rest.next

  abbrev l : Option ℕ
  l = sibling_of old ix

  abbrev place : List (Node Item)
  place = begun_from next second.end last

  begun : PairBegun source ix closer second.end old mid tables
  begun = pair_begun source ix closer first second old mid tables t grown finds can v

  opener_stands : Stands source tables old (Some ix)
  opener_stands = stands_ready finds.ready

  opener_after : After source ix old mid tables tables
  opener_after = after_head opener_stands begun.head

  opener_closed : is_open (item_at mid ix).body ≡ false
  opener_closed = let closed = can.puts_first.closed in rw v.item_is closed

  opener_closes : ClosesAt ix old mid
  opener_closes = record {
    was_open = finds.was_open;
    was_no_run = finds.no_run;
    closed = opener_closed;
    starts = rw v.item_is can.starts;
  }

  closer_stands : Stands source tables mid (Some closer)
  closer_stands = stands_ready begun.skips.ready

  closer_head : HeadWritten source closer mid last tables t
  closer_head =
      let puts = can.puts_second in
      let size = w.size in
      closed_head source closer second mid last tables t grown puts.closed puts.lies puts.named puts.slices
      puts.new_names w.item_is (omega (arith, size)) (λ n k d. w.others n d)

  closer_closed : is_open (item_at last closer).body ≡ false
  closer_closed = let closed = can.puts_second.closed in rw w.item_is closed

  closer_was_open : is_open (item_at mid closer).body ≡ true
  closer_was_open =
      let number = begun.number in
      let same_closer = v.others closer (λ e. absurd (omega (arith, number, e))) in
      rw same_closer.item can.closer_open

  -- no open item has bytes both before and after that end
  items_same : (n : ℕ) → 0 < times_in old l n → item_at mid n ≡ item_at old n
  items_same n z = (rest_same opener_stands begun.head n (rest_within opener_stands begun.head n z) z).item

  link : next ≡ first_past mid second.end (roots (forest_at (links_of mid) (sibling_of mid closer)))
  link =
      past.next_is ∙ sym (first_kept old mid second.end (forest_at (links_of old) l) items_same)
      ∙ ap (λ (f : Forest ℕ). first_past mid second.end (roots f)) (sym opener_after.rest.forest) ∙ begun.skips.first

  between : (n : ℕ) → next ≡ Some n → (item_at mid n).start < second.end → MayBeCut (item_at mid n).body
  between n e = rw (items_same n (first_there old second.end n (forest_at (links_of old) l) (sym past.next_is ∙ e)))
      (finds.between n (sym past.next_is ∙ e))

  left : RestPast source closer second.end mid last tables t next
  left =
      rest_past_is source closer second.end mid last tables t next (item_at mid closer).end closer_stands closer_head
      link (rest_past begun.skips.ready) between can.puts_second.lies.end

  left_reads : trees_from source t place next ≡ past_byte second.end (trees_from source tables old l)
  left_reads = left.reads ∙ sym begun.skips.reads ∙ ap (λ (f : Forest Plain). past_byte second.end f)
      opener_after.rest.trees

  -- once what is left is rewritten, the second of the pair is put before it
  second_moves : (rule : Forest Plain → Forest Plain) (new : List (Node Item)) (later : Tables)
      → Rewrites source rule next place new t later → HeadMoved source closer mid last new tables t later
  second_moves rule new later r =
      let m = moves_twice left.moves (changes_move r.changes) in
      let b = none_below closer_stands closer_head m closer_was_open closer_closed w.child_is in
      let ends : (item_at last closer).end ≤ second.end = rw w.item_is (omega arith) in
      let follows = r.changes.before (numbered last closer) (left.follows (numbered last closer) refl ends) in
      head_moves source closer mid last new tables t later closer_stands closer_head (rw w.next_is m) b.below
      (rw w.next_is follows)
      (no_run_here source (numbered last closer) (option_map (numbered new) (sibling_of last closer)) closer_closed)

  second_reads : (rule : Forest Plain → Forest Plain) (new : List (Node Item)) (later : Tables)
      → Rewrites source rule next place new t later → trees_from source later new (Some closer)
      ≡ node (tree_node_of source t second) nil (rule (past_byte second.end (trees_from source tables old l)))
  second_reads rule new later r =
      let m = moves_twice left.moves (changes_move r.changes) in
      let b = none_below closer_stands closer_head m closer_was_open closer_closed w.child_is in
      let after = ap (λ (x : Option ℕ). trees_from source later new x) w.next_is ∙ r.rewritten ∙ ap rule left_reads in
      (second_moves rule new later r).trees ∙ tree_same (ap (λ x. tree_node_of source t x) w.item_is) b.reads after

  -- and the first before that
  whole_pair : (rule : Forest Plain → Forest Plain) (new : List (Node Item)) (later : Tables)
      → Rewrites source rule next place new t later
      → Rewrites source (replaced (pair source t first second) (Some second.end) rule) (Some ix) old new tables later
  whole_pair rule new later r =
      let second_moved = second_moves rule new later r in
      let m = moves_twice begun.skips.moves second_moved.moves in
      let b = none_below opener_stands begun.head m finds.was_open opener_closed v.child_is in
      let follows : ComesBefore (numbered mid ix) (Some (numbered new closer)) =
      λ x y. record { ends = rw (v.item_is, second_moved.item, w.item_is) can.in_order; numbers = begun.number } in
      let hm = head_moves source ix old mid new tables tables later opener_stands begun.head (rw v.next_is m) b.below
      (rw v.next_is follows)
      (no_run_here source (numbered mid ix) (option_map (numbered new) (sibling_of mid ix)) opener_closed) in
      let after = ap (λ (x : Option ℕ). trees_from source later new x) v.next_is ∙ second_reads rule new later r in
      let label = tree_node_of_none source tables t mid ix grown (rw v.item_is can.names_nothing)
      ∙ ap (λ x. tree_node_of source t x) v.item_is in
      whole_put source ix old mid new tables tables later (pair source t first second) (Some second.end) rule
      finds.ready begun.head hm
      (λ x stands. before_closed ix old mid x opener_closes stands) (runs_closed source ix old mid opener_closes)
      (tree_same label b.reads after)

  -- both are in the chain
  pair_numbers : roots (forest_at (links_of place) (Some ix)) ≡ ix ∷ closer ∷ roots (forest_at (links_of place) next)
  pair_numbers =
      let none = rewrites_none left.moves.stands in
      let all = whole_pair (λ f. f) place t none in
      let second_moved = second_moves (λ f. f) place t none in
      let number = begun.number in
      let opener_next : sibling_of place ix ≡ Some closer = next_from last next second.end ix
      ∙ (w.others ix (λ e. absurd (omega (arith, number, e)))).next ∙ v.next_is in
      over_numbers source ix (Some closer) place t all.changes.reaches opener_next
      ∙ ap (λ (ns : List ℕ). ix ∷ ns) (over_numbers source closer next place t second_moved.moves.stands.reaches
      (next_from last next second.end closer ∙ w.next_is))

  -- so the pair replaces what was found, and the chain continues after it
  pub pair_puts : Puts source ix (pair source t first second) (Some second.end) rest old place tables t
  pair_puts = record {
    whole = whole_pair;
    leaves =
        let m = moves_twice (head_leaves closer_stands closer_head) left.moves in
        leaves_rest source ix old mid place tables tables t next (Some second.end) finds.ready begun.head
        (moves_twice begun.skips.moves m) left_reads;
    passes = passes_past source tables t old place ix second.end rest opener_stands past left_reads;
    leads = λ low chain e.
        let kept = leads_kept old mid l (forest_at (links_of old) l) low chain opener_after.after.spelled
        begun.head.more (λ n x z. rest_same opener_stands begun.head n x z) e in
        let d = begun.skips.leads low chain kept in
        rw d.same_left (left.leads low d.rest d.leads);
    standing = ix ∷ closer ∷ [];
    numbers = pair_numbers;
    as_many = λ a below. refl;
  }
