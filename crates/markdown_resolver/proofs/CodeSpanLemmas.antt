-- A code span that a search finds in a chain is what pass one finds there, and can be put in the place of its opener.
use Rattle.std.proofs.Common.{◌≡◌, ℕ, zero, suc, ◌+◌, ◌-◌, ◌<◌, ◌≤◌, Bool, true, false, ◌==◌, List, [], ◌∷◌, ◌++◌, map}
use Rattle.std.proofs.Common.{length, get_or, take, drop, Option, Some, None, refl, sym, ap, ◌∙◌, arith, subst}
use Rattle.std.proofs.Common.{append-nil, length-append, length-drop}
use Rattle.std.specs.Prelude.{replicate, slice_range, IfOk, IfSome, Result, Ok, Err}
use Rattle.std.specs.Option.{option_map}
use Rattle.std.specs.Str.{IsCharBoundary}
use Rattle.std.proofs.lemmas.List.{get_or-drop, get_or-replicate, get_or-take, length-replicate, length-take}
use Rattle.std.proofs.lemmas.Str.{IsCharBoundary-before_ascii}
use Rattle.markdown_base.specs.Arena.{sibling_of}
use Rattle.markdown_base.specs.ArenaForest.{links_of, forest_at}
use Rattle.markdown_base.specs.BlockTree.{Numbered, numbered, item_at}
use Rattle.markdown_base.specs.CowText.{text_of}
use Rattle.markdown_base.specs.Item.{is_open, LiesIn}
use Rattle.markdown_base.specs.WellFormed.{run_character, StandsOverMarkup}
use Rattle.markdown_base.specs.declared.cow_str.CowStr.{CowStr}
use Rattle.markdown_base.specs.declared.fault.Fault.{Fault}
use Rattle.markdown_base.specs.declared.index.CowIndex.{CowIndex}
use Rattle.markdown_base.specs.declared.item.Item.{Item}
use Rattle.markdown_base.specs.declared.item.ItemBody.{ItemBody}
use Rattle.markdown_base.specs.declared.item.ItemBody.TheVariants as body
use Rattle.markdown_base.specs.declared.node.Node.{Node}
use Rattle.markdown_document.specs.Origins.{Origin, origin_at, origin_of}
use Rattle.markdown_document.specs.PlacedNodes.{IsSlicedOf, IsPlaced}
use Rattle.markdown_document.specs.EnclosingBlocks.{EnclosingBlocks}
use Rattle.markdown_document.specs.ChainRest.{as_item}
use Rattle.markdown_document.specs.Places.{tree_node_at, trees_from}
use Rattle.markdown_document.specs.Setting.{Setting}
use Rattle.markdown_document.specs.Tables.{Tables, text_at, tables_of}
use Rattle.markdown_document.specs.NamedEntries.{Named, some_text, HasGrown, number_of, size_for, times_named}
use Rattle.markdown_document.specs.Totals.{same}
use Rattle.markdown_spans.specs.Closers.{closing_count, code_close, is_code_of}
use Rattle.markdown_spans.specs.Finds.{code_found, find_by, is_escaped}
use Rattle.markdown_spans.specs.SpanClosers.{ClosesCode, item_in}
use Rattle.markdown_spans.specs.declared.span_text.SpanKind.TheVariants.{Code}
use Rattle.markdown_defs.specs.Allocations.{Allocated, LinkParts}
use Rattle.markdown_defs.specs.AllocationCalls.{with_cow}
use Rattle.markdown_spans.proofs.SliceLemmas.{sliced_wider}
use Rattle.markdown_resolver.specs.Rewritten.{CanPut, IsFoundAt, first_past, literal}
use Rattle.markdown_resolver.specs.Chains.{CanResolve}
use Rattle.markdown_resolver.specs.PutCode.{CanPutCode, CanPutSpan, code_standing}
use Rattle.markdown_resolver.specs.StoredText.{CanCut, StoresText, text_between, origin_between}
use Rattle.markdown_resolver.proofs.LiteralTextLemmas.{names_nothing}
use Rattle.markdown_resolver.proofs.PutFoundLemmas.{same_before}
use Rattle.markdown_resolver.proofs.FollowersLemmas.{InOrder, each_root, followers, nothing_around, opens_chain}
use Rattle.markdown_resolver.proofs.FollowersLemmas.{order_around}
use Rattle.markdown_resolver.proofs.ReadsItemLemmas.{ReadsAs, opener_shape, opener_unquiet, read_opener}
use Rattle.markdown_resolver.proofs.SpanFindLemmas.{StandsAmong, code_close_among, code_close_shown, node_alike}
use Rattle.markdown_resolver.proofs.SpanFindLemmas.{number_alike}

-- the number of a numbered item that was found by its number
number_back : (nodes : List (Node Item)) (found : Option ℕ) → option_map (λ (a : Numbered). a.number)
    (option_map (numbered nodes) found) ≡ found
number_back nodes None = refl
number_back nodes (Some x) = refl

-- what closes code among the nodes that follow its opener
pub closes_by_number : {source : List ℕ} {tables : Tables} {nodes : List (Node Item)} {ix count : ℕ} {escaped : Bool}
    {found : Option ℕ}
    → CanResolve source tables nodes (Some ix) → (item_at nodes ix).body ≡ body.MaybeCode count escaped
    → ClosesCode nodes ix found → code_close (item_at nodes) (body.MaybeCode count escaped) (followers nodes ix) ≡ found
closes_by_number {source} {tables} {nodes} {ix} {count} {escaped} {found} ready is closes =
    let o = opens_chain ready in
    let xs = followers nodes ix in
    sym (number_back nodes (code_close (item_at nodes) (body.MaybeCode count escaped) xs))
    ∙ ap (option_map (λ (a : Numbered). a.number))
    (sym (code_close_shown item_in (numbered nodes) nodes (number_alike nodes) count escaped xs))
    ∙ ap (λ (b : ItemBody). option_map (λ (a : Numbered). a.number) (code_close item_in b (map (numbered nodes) xs)))
    (sym is) ∙ closes (suc ix) (map (numbered nodes) xs) o.leads

-- and so what pass one finds there
code_read : (s : Setting) (above : EnclosingBlocks) (tables : Tables) (nodes : List (Node Item)) (ix count : ℕ)
    (escaped : Bool) (found : Option ℕ)
    → CanResolve s.text tables nodes (Some ix) → (item_at nodes ix).body ≡ body.MaybeCode count escaped
    → ClosesCode nodes ix found → find_by s above (body.MaybeCode count escaped) (tree_node_at s.text tables nodes ix)
    (trees_from s.text tables nodes (sibling_of nodes ix))
    ≡ code_found s above (tree_node_at s.text tables nodes ix) (option_map (tree_node_at s.text tables nodes) found)
code_read s above tables nodes ix count escaped found ready is closes =
    let o = opens_chain ready in
    let show = tree_node_at s.text tables nodes in
    let xs = followers nodes ix in
    ap (code_found s above (show ix)) (ap (code_close as_item (body.MaybeCode count escaped)) o.labels
    ∙ code_close_shown as_item show nodes (node_alike s.text tables nodes) count escaped xs
    ∙ ap (option_map show) (closes_by_number ready is closes))

-- where nothing closes it, a Text is read
pub nothing_reads : (s : Setting) (above : EnclosingBlocks) (tables : Tables) (nodes : List (Node Item)) (ix count : ℕ)
    (escaped : Bool) → CanResolve s.text tables nodes (Some ix) → (item_at nodes ix).body ≡ body.MaybeCode count escaped
    → ClosesCode nodes ix None → ReadsAs s above tables nodes ix (literal s.text) None
nothing_reads s above tables nodes ix count escaped ready is closes =
    let b = body.MaybeCode count escaped in
    let a = tree_node_at s.text tables nodes ix in
    let e = read_opener s above tables nodes ix b is refl refl in
    let none = code_read s above tables nodes ix count escaped None ready is closes in
    let quiet = opener_unquiet s tables nodes ix b is refl refl in
    record {
      standing = rw (e, none, quiet) refl;
      ends = rw (e, none) refl;
    }

-- where something does, a code span, with the text between them
pub code_reads : (s : Setting) (above : EnclosingBlocks) (tables tables' : Tables) (nodes : List (Node Item))
    (ix x count : ℕ) (escaped : Bool) (cow : CowIndex)
    → CanResolve s.text tables nodes (Some ix) → (item_at nodes ix).body ≡ body.MaybeCode count escaped
    → ClosesCode nodes ix (Some x)
    → text_at tables'.cows cow.0 ≡ text_between s above Code (item_at nodes ix).end (item_at nodes x).start
    → origin_at tables'.cows cow.0 ≡ origin_between s above (item_at nodes ix).end (item_at nodes x).start
    → ReadsAs s above tables nodes ix
    (code_standing s.text tables' (is_escaped (item_at nodes ix).body) (item_at nodes ix)
    (item_at nodes x) (body.Code cow)) (Some (item_at nodes x).end)
code_reads s above tables tables' nodes ix x count false cow ready is closes text origin =
    let e = read_opener s above tables nodes ix (body.MaybeCode count false) is refl refl in
    let found = code_read s above tables nodes ix count false (Some x) ready is closes in
    let shape = opener_shape s tables nodes ix (body.MaybeCode count false) is refl in
    record { standing = rw (e, found, shape, is, text, origin) refl; ends = rw (e, found) refl }
code_reads s above tables tables' nodes ix x count true cow ready is closes text origin =
    let e = read_opener s above tables nodes ix (body.MaybeCode count true) is refl refl in
    let found = code_read s above tables nodes ix count true (Some x) ready is closes in
    let shape = opener_shape s tables nodes ix (body.MaybeCode count true) is refl in
    record { standing = rw (e, found, shape, is, text, origin) refl; ends = rw (e, found) refl }

-- an item may begin after a backtick, where another one follows
pub next_byte : (text : List ℕ) (start end count byte : ℕ) → slice_range text start end ≡ replicate count byte
    → 2 ≤ count → byte < 128 → start ≤ end → end ≤ length text → (suc start ≤ end) × IsCharBoundary text (start + 1)
next_byte text start end count byte is two low ordered within =
    let size : length (slice_range text start end) ≡ count = ap length is ∙ length-replicate count byte in
    let room : end ≡ start + count = omega
    (arith, size, length-take (end - start) (drop start text), length-drop start text) in
    let read : get_or (take (end - start) (drop start text)) 1 0 ≡ byte = ap (λ (bytes : List ℕ). get_or bytes 1 0) is
    ∙ get_or-replicate count 1 byte 0 (omega (arith, two)) in
    let same : get_or (take (end - start) (drop start text)) 1 0 ≡ get_or text (start + 1) 0 = get_or-take (end - start)
    (drop start text) 1 0 (omega (arith, room, two)) ∙ get_or-drop start text 1 0 in (
      omega (arith, room, two),
      IsCharBoundary-before_ascii text (start + 1) (omega (arith, room, two, within)) (omega (arith, read, same, low)),
    )

-- no open item has bytes both before and after the end of an item of a chain
pub found_at : (source : List ℕ) (tables : Tables) (nodes : List (Node Item)) (ix x : ℕ)
    → CanResolve source tables nodes (Some ix)
    → is_open (item_at nodes ix).body ≡ true → run_character (item_at nodes ix).body ≡ None
    → StandsAmong (followers nodes ix) x → IsFoundAt source tables nodes ix (item_at nodes x).end
found_at source tables nodes ix x ready opens no_run among =
    let o = opens_chain ready in
    let end = (item_at nodes x).end in
    let ordered : InOrder nodes (item_at nodes ix).end (among.before ++ x ∷ among.after) = subst
    (InOrder nodes (item_at nodes ix).end) among.parts o.ordered in
    record {
      ready = ready;
      was_open = opens;
      no_run = no_run;
      between = λ next first around.
          let later = nothing_around nodes (item_at nodes ix).end among.before x among.after next ordered
          (ap (first_past nodes end) (sym among.parts) ∙ first) in
          absurd (omega (arith, later, around));
    }

-- what closes code is in the chain
pub record ClosedCode (source : List ℕ) (tables : Tables) (nodes : List (Node Item)) (ix x : ℕ) : Type 0 where
  pub among : StandsAmong (followers nodes ix) x
  pub closer_open : is_open (item_at nodes x).body ≡ true
  pub closer_no_run : run_character (item_at nodes x).body ≡ None
  pub lies : LiesIn source (item_at nodes x)
  pub after : (item_at nodes ix).end ≤ (item_at nodes x).start
  pub found : IsFoundAt source tables nodes ix (item_at nodes x).end

code_open : (n : ℕ) (b : ItemBody) → is_code_of n b ≡ true → (is_open b ≡ true) × (run_character b ≡ None)
code_open n (body.MaybeCode count escaped) h = (refl, refl)
code_open n other h = cc h

pub closed_code : {source : List ℕ} {tables : Tables} {nodes : List (Node Item)} {ix x count : ℕ} {escaped : Bool}
    → CanResolve source tables nodes (Some ix) → (item_at nodes ix).body ≡ body.MaybeCode count escaped
    → ClosesCode nodes ix (Some x) → ((closing_count count escaped == 0) ≡ false) × ClosedCode source tables nodes ix x
closed_code {source} {tables} {nodes} {ix} {x} {count} {escaped} ready is closes =
    let o = opens_chain ready in
    let there = code_close_among nodes count escaped (followers nodes ix) x (closes_by_number ready is closes) in
    let among = there.1.among in
    let kind = code_open (closing_count count escaped) (item_at nodes x).body there.1.is_code in
    let around = order_around nodes (item_at nodes ix).end among.before x among.after
    (subst (InOrder nodes (item_at nodes ix).end) among.parts o.ordered) in (
      there.0,
      record {
        among = among;
        closer_open = kind.0;
        closer_no_run = kind.1;
        lies = (each_root (IsPlaced source tables nodes) (forest_at (links_of nodes) (sibling_of nodes ix)) among.before
            x among.after o.all_placed among.parts).lies;
        after = around.from;
        found = found_at source tables nodes ix x ready (ap is_open is) (ap run_character is) among;
      },
    )

-- a text that was put into its table is found there, and nothing refers to it so far
text_pushed : (cows : List CowStr) (cow : CowStr) (n : ℕ) → n ≡ length cows → text_at (cows ++ cow ∷ []) n ≡ text_of cow
text_pushed [] cow n e = rw e refl
text_pushed (c ∷ cows) cow zero e = cc e
text_pushed (c ∷ cows) cow (suc n) e = text_pushed cows cow n (omega (arith, e))

pub record PutsText (tables tables' : Tables) (cow : CowIndex) (text : List ℕ) : Type 0 where
  pub grown : HasGrown tables tables'
  pub found : text_at tables'.cows cow.0 ≡ text
  pub within : cow.0 < length tables'.cows
  pub number : cow.0 ≡ length tables.cows

abbrev with_links : (held : Allocated) (cow : CowStr) → List LinkParts → Tables
with_links held cow links = record {
  cows = held.cows ++ cow ∷ [];
  links = links;
  alignments = held.alignments;
  headings = held.headings;
}

pub text_put : (held held' : Allocated) (cow : CowStr) (ix : CowIndex) (text : List ℕ) → held' ≡ with_cow held cow
    → ix.0 ≡ length held.cows → text_of cow ≡ text → PutsText (tables_of held) (tables_of held') ix text
text_put held held' cow ix text put number same =
    let cows : held'.cows ≡ held.cows ++ cow ∷ [] = ap (λ (h : Allocated). h.cows) put in
    record {
      grown = record {
        more_cows = cow ∷ [];
        more_links = [];
        grown = ap tables_of put ∙ ap (with_links held cow) (sym (append-nil held.links));
      };
      found = ap (λ (cows : List CowStr). text_at cows ix.0) cows ∙ text_pushed held.cows cow ix.0 number ∙ same;
      within = omega (arith, number, ap length cows, length-append held.cows (cow ∷ []));
      number = number;
    }

-- and its origin with it
origin_pushed : (cows : List CowStr) (cow : CowStr) (n : ℕ) → n ≡ length cows → origin_at (cows ++ cow ∷ []) n
    ≡ origin_of cow
origin_pushed [] cow n e = rw e refl
origin_pushed (c ∷ cows) cow zero e = cc e
origin_pushed (c ∷ cows) cow (suc n) e = origin_pushed cows cow n (omega (arith, e))

pub origin_put : (held held' : Allocated) (cow : CowStr) (ix : CowIndex) → held' ≡ with_cow held cow → ix.0
    ≡ length held.cows → origin_at (tables_of held').cows ix.0 ≡ origin_of cow
origin_put held held' cow ix put number =
    ap (λ (h : Allocated). origin_at h.cows ix.0) put ∙ origin_pushed held.cows cow ix.0 number

-- the same for the number that putting it in returns
pub cow_stored : (source : List ℕ) (start end : ℕ) (held held' : Allocated) (cow : CowStr) (origin : Origin)
    (r : Result CowIndex Fault) → origin_of cow ≡ origin → IsSlicedOf source start end (origin_of cow) (text_of cow)
    → IfOk r (λ ix. ix.0 ≡ length held.cows) → IfOk r (λ ix. held' ≡ with_cow held cow)
    → IfOk r (λ ix. StoresText source start end (tables_of held) (tables_of held') ix origin)
cow_stored source start end held held' cow origin (Err fault) is slice number put = tt
cow_stored source start end held held' cow origin (Ok ix) is slice number put =
    let stored = text_put held held' cow ix (text_of cow) put number refl in
    let from = origin_put held held' cow ix put number in
    record {
      grown = stored.grown;
      number = number;
      within = stored.within;
      origin_is = from ∙ is;
      slice = rw (from, stored.found) slice;
    }

pub cow_text : (held held' : Allocated) (cow : CowStr) (r : Result CowIndex Fault)
    → IfOk r (λ ix. ix.0 ≡ length held.cows) → IfOk r (λ ix. held' ≡ with_cow held cow)
    → IfOk r (λ ix. text_at held'.cows ix.0 ≡ text_of cow)
cow_text held held' cow (Err fault) number put = tt
cow_text held held' cow (Ok ix) number put = (text_put held held' cow ix (text_of cow) put number refl).found

-- so a body that refers only to it refers to nothing that was there
code_names : (tables : Tables) (cow : CowIndex) (n : Named) → cow.0 ≡ length tables.cows
    → number_of n < size_for tables n → times_named n (body.Code cow) ≡ 0
code_names tables cow (some_text n) e h = same_before n cow.0 (omega (arith, h, e))
code_names tables cow other e h = refl

-- a Text over bytes can be put in place where it lies in the text
abbrev pub text_item_over : (start end : ℕ) → Item
text_item_over start end = record { start = start; end = end; body = body.Text false }

pub can_put_text : (source : List ℕ) (tables tables' : Tables) (start end : ℕ) → start ≤ end
    → IsCharBoundary source start → IsCharBoundary source end → CanPut source tables tables' (text_item_over start end)
can_put_text source tables tables' start end ordered from to = record {
  closed = refl;
  no_block = refl;
  lies = record { ordered = ordered; start = from; end = to };
  named = record { text = tt; link = tt; alignments = tt; attributes = tt };
  slices = tt;
  new_names = λ n h. names_nothing n;
}

-- the code span can be put in the place of its opener
two_at_least : (count : ℕ) → (closing_count count true == 0) ≡ false → 2 ≤ count
two_at_least zero h = cc h
two_at_least (suc zero) h = cc h
two_at_least (suc (suc n)) h = omega arith

can_put_code : (source : List ℕ) (tables tables' : Tables) (nodes : List (Node Item)) (ix x count : ℕ) (escaped : Bool)
    (cow : CowIndex) (origin : Origin)
    → CanResolve source tables nodes (Some ix) → (item_at nodes ix).body ≡ body.MaybeCode count escaped
    → ClosesCode nodes ix (Some x)
    → x < length nodes → StoresText source (item_at nodes ix).end (item_at nodes x).start tables tables' cow origin
    → CanPutCode source tables tables' nodes ix x (body.Code cow)
can_put_code source tables tables' nodes ix x count escaped cow origin ready is closes within puts =
    let o = opens_chain ready in
    let there = closed_code ready is closes in
    record {
      grown = puts.grown;
      found = there.1.found;
      closer_within = within;
      opener_within = o.within;
      span = subst (CanPutSpan source tables tables' nodes ix x (body.Code cow)) (sym (ap is_escaped is))
          (by escaped is there.0);
    }
  where
    by : (e : Bool) → (item_at nodes ix).body ≡ body.MaybeCode count e → (closing_count count e == 0) ≡ false
        → CanPutSpan source tables tables' nodes ix x (body.Code cow) e
    by false e two =
        let o = opens_chain ready in
        let there = (closed_code ready is closes).1 in
        record {
          closed = refl;
          no_block = refl;
          lies = record {
            ordered = omega (arith, o.placed.lies.ordered, there.after, there.lies.ordered);
            start = o.placed.lies.start;
            end = there.lies.end;
          };
          named = record { text = puts.within; link = tt; alignments = tt; attributes = tt };
          slices = sliced_wider source (item_at nodes ix).end (item_at nodes x).start (item_at nodes ix).start
              (item_at nodes x).end
              (origin_at tables'.cows cow.0) (text_at tables'.cows cow.0) o.placed.lies.ordered there.lies.ordered
              puts.slice;
          new_names = λ n old. code_names tables cow n puts.number old;
        }
    by true e two =
        let o = opens_chain ready in
        let there = (closed_code ready is closes).1 in
        let item = item_at nodes ix in
        let markup : StandsOverMarkup (slice_range source item.start item.end) (body.MaybeCode count true) =
        subst (StandsOverMarkup (slice_range source item.start item.end)) e o.placed.keeps.markup_is_there in
        let byte = next_byte source item.start item.end count 96 markup.0 (two_at_least count two) (omega arith)
        o.placed.lies.ordered o.placed.lies.end.0 in
        record {
          puts_first = can_put_text source tables tables' item.start (item.start + 1) (omega arith) o.placed.lies.start
              byte.1;
          puts_second = record {
            closed = refl;
            no_block = refl;
            lies = record {
              ordered = omega (arith, byte.0, there.after, there.lies.ordered);
              start = byte.1;
              end = there.lies.end;
            };
            named = record { text = puts.within; link = tt; alignments = tt; attributes = tt };
            slices = sliced_wider source item.end (item_at nodes x).start (item.start + 1) (item_at nodes x).end
                (origin_at tables'.cows cow.0) (text_at tables'.cows cow.0) (omega (arith, byte.0)) there.lies.ordered
                puts.slice;
            new_names = λ n old. code_names tables cow n puts.number old;
          };
          names_nothing = names_nothing;
          starts = refl;
          in_order = omega arith;
          ends = refl;
          before = there.among.before;
          after = there.among.after;
          follows = there.among.parts;
          closer_open = there.closer_open;
          closer_no_run = there.closer_no_run;
        }

-- the bytes between the opener and what closes it can be cut out
pub code_cut : {source : List ℕ} {tables : Tables} {nodes : List (Node Item)} {ix x count : ℕ} {escaped : Bool}
    {opener closer : Item} {found : Option ℕ}
    → CanResolve source tables nodes (Some ix) → (item_at nodes ix).body ≡ body.MaybeCode count escaped
    → ClosesCode nodes ix found → found ≡ Some x
    → opener ≡ item_at nodes ix → closer ≡ item_at nodes x → CanCut source opener.end closer.start
code_cut {source} {tables} {nodes} {ix} {x} {count} {escaped} {opener} {closer} {found} ready is closes here opens ends
    =
    let o = opens_chain ready in
    let there = (closed_code ready is (subst (ClosesCode nodes ix) here closes)).1 in
    rw (opens, ends) (record { ordered = there.after; from = o.placed.lies.end; to = there.lies.start })

-- all of it, once the text is in its table
pub record FoundCode (source : List ℕ) (tables tables' : Tables) (nodes : List (Node Item)) (ix x : ℕ) (cow : CowIndex)
    : Type 0 where
  pub closes : ClosesCode nodes ix (Some x)
  pub can : CanPutCode source tables tables' nodes ix x (body.Code cow)

pub found_code : {source : List ℕ} {tables tables' : Tables} {nodes : List (Node Item)} {ix x count : ℕ}
    {escaped : Bool} {cow : CowIndex} {origin : Origin} {found : Option ℕ} {opener closer : Item}
    → CanResolve source tables nodes (Some ix) → (item_at nodes ix).body ≡ body.MaybeCode count escaped
    → ClosesCode nodes ix found → found ≡ Some x → IfSome found (λ x. x < length nodes)
    → opener ≡ item_at nodes ix → closer ≡ item_at nodes x → StoresText source opener.end closer.start tables tables'
    cow origin → FoundCode source tables tables' nodes ix x cow
found_code {source} {tables} {tables'} {nodes} {ix} {x} {count} {escaped} {cow} {origin} {found} {opener} {closer} ready
    is closes here within opens ends stored =
    let there : ClosesCode nodes ix (Some x) = subst (ClosesCode nodes ix) here closes in
    record {
      closes = there;
      can = can_put_code source tables tables' nodes ix x count escaped cow origin ready is there (rw here at within)
          (rw (opens, ends) at stored);
    }
