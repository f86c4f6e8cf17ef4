-- A math span that a search finds in a chain is what pass one finds there, and can be put in the place of its opener.
use Rattle.std.proofs.Common.{◌≡◌, ℕ, suc, ◌<◌, ◌≤◌, Bool, true, false, not, ◌&&◌, ◌==◌, List, [], ◌∷◌, ◌++◌, map}
use Rattle.std.proofs.Common.{length, drop, Option, Some, None, refl, sym, ap, ◌∙◌, arith, subst, append_assoc}
use Rattle.std.specs.Prelude.{if◌then◌else◌}
use Rattle.std.specs.Option.{option_map, option_map_or}
use Rattle.std.specs.Str.{IsCharBoundary}
use Rattle.markdown_base.specs.Arena.{sibling_of}
use Rattle.markdown_base.specs.ArenaForest.{links_of, forest_at}
use Rattle.markdown_base.specs.BlockTree.{Numbered, numbered, item_at}
use Rattle.markdown_base.specs.Forest.{Each, Forest, nil, node, roots}
use Rattle.markdown_base.specs.Item.{is_open}
use Rattle.markdown_base.specs.WellFormed.{run_character}
use Rattle.markdown_base.specs.declared.index.CowIndex.{CowIndex}
use Rattle.markdown_base.specs.declared.item.Item.{Item}
use Rattle.markdown_base.specs.declared.item.ItemBody.{ItemBody}
use Rattle.markdown_base.specs.declared.item.ItemBody.TheVariants as body
use Rattle.markdown_base.specs.declared.node.Node.{Node}
use Rattle.markdown_document.specs.Origins.{Origin, origin_at}
use Rattle.markdown_document.specs.EnclosingBlocks.{EnclosingBlocks}
use Rattle.markdown_document.specs.ChainRest.{as_item, end_of, open_body}
use Rattle.markdown_document.specs.Document.{Plain}
use Rattle.markdown_document.specs.Places.{tree_node_at, trees_from}
use Rattle.markdown_document.specs.PlacedNodes.{IsPlaced}
use Rattle.markdown_document.specs.Setting.{Setting}
use Rattle.markdown_document.specs.Tables.{Tables, text_at}
use Rattle.markdown_document.specs.NamedEntries.{Named, number_of, size_for, some_text, times_named}
use Rattle.markdown_spans.specs.ChainInArena.{LeadsThrough}
use Rattle.markdown_spans.specs.Closers.{Dollar, MathClose, can_close, can_open, math_closed_by, context_of}
use Rattle.markdown_spans.specs.Closers.{display_close, dollar_next, first_dollar, inline_close, is_dollar}
use Rattle.markdown_spans.specs.Closers.{is_dollar_of, math_close, math_close_from}
use Rattle.markdown_spans.specs.CloserSearches.{searched_for_math}
use Rattle.markdown_spans.specs.Finds.{find_by, math_found, math_text_start}
use Rattle.markdown_spans.specs.MathOpening.{dollar_at}
use Rattle.markdown_spans.specs.SpanClosers.{ClosesMath, found_math, item_in}
use Rattle.markdown_spans.specs.declared.span_closers.FoundMath.{FoundMath}
use Rattle.markdown_spans.specs.declared.span_text.SpanKind.TheVariants.{Math}
use Rattle.markdown_spans.proofs.SliceLemmas.{sliced_wider}
use Rattle.markdown_resolver.specs.Chains.{CanResolve}
use Rattle.markdown_resolver.specs.Rewritten.{CanPut, IsFoundAt, one_item, literal}
use Rattle.markdown_resolver.specs.StoredText.{CanCut, StoresText, text_between, origin_between}
use Rattle.markdown_resolver.proofs.PutFoundLemmas.{same_before}
use Rattle.markdown_resolver.proofs.FollowersLemmas.{InOrder, OpenedChain, each_root, followers, opens_chain}
use Rattle.markdown_resolver.proofs.FollowersLemmas.{order_around}
use Rattle.markdown_resolver.proofs.CodeSpanLemmas.{found_at}
use Rattle.markdown_resolver.proofs.ReadsItemLemmas.{ReadsAs, opener_shape, opener_unquiet, read_opener}
use Rattle.markdown_resolver.proofs.SpanFindLemmas.{StandsAmong, dollar_next_shown, node_alike, math_from_shown}
use Rattle.markdown_resolver.proofs.SpanFindLemmas.{number_alike, shown_close}

-- a `$` is an item of this kind
pub record DollarBody (b : ItemBody) : Type 0 where
  pub opens : Bool
  pub closes : Bool
  pub context : ℕ
  pub is : b ≡ body.MaybeMath opens closes context

pub dollar_body : (b : ItemBody) → is_dollar b ≡ true → DollarBody b
dollar_body (body.MaybeMath opens closes context) h = record
    { opens = opens; closes = closes; context = context; is = refl }
dollar_body other h = cc h

-- what closes math, by the numbers that were found
abbrev pub close_of : FoundMath → MathClose ℕ
close_of m = record { display = m.display; closer = m.closer; last = m.last }

close_back : (nodes : List (Node Item)) (found : Option (MathClose ℕ))
    → option_map close_of (option_map found_math (option_map (shown_close (numbered nodes)) found)) ≡ found
close_back nodes None = refl
close_back nodes (Some m) = refl

-- what closes math among the nodes that follow its opener
pub math_by_number : {source : List ℕ} {tables : Tables} {nodes : List (Node Item)} {ix : ℕ} {found : Option FoundMath}
    → CanResolve source tables nodes (Some ix) → ClosesMath nodes ix found
    → math_close_from (item_at nodes) (item_at nodes ix) (followers nodes ix) ≡ option_map close_of found
math_by_number {source} {tables} {nodes} {ix} {found} ready closes =
    let o = opens_chain ready in
    let xs = followers nodes ix in
    sym (close_back nodes (math_close_from (item_at nodes) (item_at nodes ix) xs))
    ∙ ap (λ (o : Option (MathClose Numbered)). option_map close_of (option_map found_math o))
    (sym (math_from_shown item_in (numbered nodes) nodes (number_alike nodes) (item_at nodes ix) xs))
    ∙ ap (option_map close_of) (closes (suc ix) (map (numbered nodes) xs) o.leads)

-- where the text of math starts
abbrev pub text_start : List (Node Item) → ℕ → ℕ
text_start nodes ix = option_map_or (λ second. (item_at nodes second).end)
    (dollar_next (item_at nodes) (followers nodes ix)) (item_at nodes ix).end

start_shown : (source : List ℕ) (tables : Tables) (nodes : List (Node Item)) (ix : ℕ) (xs : List ℕ)
    → math_text_start (tree_node_at source tables nodes ix) (map (tree_node_at source tables nodes) xs)
    ≡ option_map_or (λ second. (item_at nodes second).end) (dollar_next (item_at nodes) xs) (item_at nodes ix).end
start_shown source tables nodes ix xs =
    let show = tree_node_at source tables nodes in
    ap (λ (o : Option Plain). option_map_or end_of o (end_of (show ix)))
    (dollar_next_shown as_item show nodes (node_alike source tables nodes) xs) ∙ by (dollar_next (item_at nodes) xs)
  where
    by : (o : Option ℕ) → option_map_or end_of (option_map (tree_node_at source tables nodes) o) (item_at nodes ix).end
        ≡ option_map_or (λ second. (item_at nodes second).end) o (item_at nodes ix).end
    by None = refl
    by (Some second) = refl

-- where the text of math starts, from the next link
pub start_linked : (nodes : List (Node Item)) (low : ℕ) (l : Option ℕ) (xs : List ℕ)
    → LeadsThrough nodes low l (map (numbered nodes) xs) → dollar_at nodes l ≡ dollar_next (item_at nodes) xs
start_linked nodes low l [] h = rw h refl
start_linked nodes low l (x ∷ xs) h = rw h.0 refl

-- so this is what pass one finds there
opener_item : (s : Setting) (tables : Tables) (nodes : List (Node Item)) (ix : ℕ) (b : ItemBody)
    → (item_at nodes ix).body ≡ b → is_open b ≡ true → as_item (tree_node_at s.text tables nodes ix) ≡ item_at nodes ix
opener_item s tables nodes ix b is opens =
    let item = item_at nodes ix in
    ap (λ (b : ItemBody). let i : Item = record { start = item.start; end = item.end; body = b } in i)
    (ap open_body (opener_shape s tables nodes ix b is opens) ∙ sym is)

math_read : (s : Setting) (above : EnclosingBlocks) (tables : Tables) (nodes : List (Node Item)) (ix : ℕ)
    (opens closes : Bool) (context : ℕ) (found : Option FoundMath)
    → CanResolve s.text tables nodes (Some ix) → (item_at nodes ix).body ≡ body.MaybeMath opens closes context
    → ClosesMath nodes ix found
    → find_by s above (body.MaybeMath opens closes context) (tree_node_at s.text tables nodes ix)
    (trees_from s.text tables nodes (sibling_of nodes ix))
    ≡ math_found s above (tree_node_at s.text tables nodes ix) (map (tree_node_at s.text tables nodes)
    (followers nodes ix))
    (option_map (shown_close (tree_node_at s.text tables nodes)) (option_map close_of found))
math_read s above tables nodes ix opens closes context found ready is closed =
    let o = opens_chain ready in
    let show = tree_node_at s.text tables nodes in
    let xs = followers nodes ix in
    ap (λ (l : List Plain). math_found s above (show ix) l (math_close_from as_item (as_item (show ix)) l)) o.labels
    ∙ ap (math_found s above (show ix) (map show xs)) (ap (λ (i : Item). math_close_from as_item i (map show xs))
    (opener_item s tables nodes ix (body.MaybeMath opens closes context) is
    refl) ∙ math_from_shown as_item show nodes (node_alike s.text tables nodes) (item_at nodes ix) xs
    ∙ ap (option_map (shown_close show)) (math_by_number ready closed))

-- where nothing closes it, a Text is read
pub no_math_reads : (s : Setting) (above : EnclosingBlocks) (tables : Tables) (nodes : List (Node Item)) (ix : ℕ)
    (opens closes : Bool) (context : ℕ)
    → CanResolve s.text tables nodes (Some ix) → (item_at nodes ix).body ≡ body.MaybeMath opens closes context
    → ClosesMath nodes ix None → ReadsAs s above tables nodes ix (literal s.text) None
no_math_reads s above tables nodes ix opens closes context ready is closed =
    let b = body.MaybeMath opens closes context in
    let e = read_opener s above tables nodes ix b is refl refl in
    let none = math_read s above tables nodes ix opens closes context None ready is closed in
    let quiet = opener_unquiet s tables nodes ix b is refl refl in
    record { standing = rw (e, none, quiet) refl; ends = rw (e, none) refl }

-- where something does, a math span
abbrev pub math_item : List (Node Item) → ℕ → FoundMath → CowIndex → Item
math_item nodes ix m cow = record {
  start = (item_at nodes ix).start;
  end = (item_at nodes m.last).end;
  body = body.Math cow m.display;
}

pub math_reads : (s : Setting) (above : EnclosingBlocks) (tables tables' : Tables) (nodes : List (Node Item)) (ix : ℕ)
    (m : FoundMath) (opens closes : Bool) (context : ℕ) (cow : CowIndex)
    → CanResolve s.text tables nodes (Some ix) → (item_at nodes ix).body ≡ body.MaybeMath opens closes context
    → ClosesMath nodes ix (Some m)
    → text_at tables'.cows cow.0 ≡ text_between s above Math (text_start nodes ix) (item_at nodes m.closer).start
    → origin_at tables'.cows cow.0 ≡ origin_between s above (text_start nodes ix) (item_at nodes m.closer).start
    → ReadsAs s above tables nodes ix (one_item s.text tables' (math_item nodes ix m cow))
    (Some (item_at nodes m.last).end)
math_reads s above tables tables' nodes ix m opens closes context cow ready is closed text origin =
    let e = read_opener s above tables nodes ix (body.MaybeMath opens closes context) is refl refl in
    let found = math_read s above tables nodes ix opens closes context (Some m) ready is closed in
    let start = start_shown s.text tables nodes ix (followers nodes ix) in
    record { standing = rw (e, found, start, text, origin) refl; ends = rw (e, found) refl }

-- the first `$` of a brace context is among the items that are searched
pub record FirstDollar (nodes : List (Node Item)) (context : ℕ) (xs : List ℕ) (d : Dollar ℕ) : Type 0 where
  pub before : List ℕ
  pub parts : xs ≡ before ++ d.dollar ∷ d.after
  pub is : is_dollar_of context (item_at nodes d.dollar).body ≡ true

first_dollar_among : (nodes : List (Node Item)) (context : ℕ) (xs : List ℕ) (d : Dollar ℕ)
    → first_dollar (item_at nodes) context xs ≡ Some d → FirstDollar nodes context xs d
first_dollar_among nodes context [] d e = cc e
first_dollar_among nodes context (x ∷ xs) d e = by (is_dollar_of context (item_at nodes x).body) refl
    (first_dollar_among nodes context xs d)
  where
    by : (b : Bool) → is_dollar_of context (item_at nodes x).body ≡ b
        → (first_dollar (item_at nodes) context xs ≡ Some d
        → FirstDollar nodes context xs d) → FirstDollar nodes context (x ∷ xs) d
    by true is later =
        let here : Dollar ℕ = record { dollar = x; after = xs } in
        let same : here ≡ d = let found = rw is at e in cc in
        subst (FirstDollar nodes context (x ∷ xs)) same (record { before = []; parts = refl; is = is })
    by false is later =
        let there = later (rw is at e) in
        record { before = x ∷ there.before; parts = ap (λ l. x ∷ l) there.parts; is = there.is }

-- what closes math is among the items after an opener that ends at a byte offset
pub record MathStands (nodes : List (Node Item)) (i context : ℕ) (xs : List ℕ) (m : FoundMath) : Type 0 where
  pub before : List ℕ
  pub after : List ℕ
  pub parts : xs ≡ before ++ m.closer ∷ after
  pub first : first_dollar (item_at nodes) context (searched_for_math (item_at nodes) xs)
      ≡ Some (record { dollar = m.closer; after = after })
  pub last : StandsAmong xs m.last
  pub to_last : (item_at nodes m.closer).end ≤ (item_at nodes m.last).end
  pub from : option_map_or (λ second. (item_at nodes second).end) (dollar_next (item_at nodes) xs) i ≤
      (item_at nodes m.closer).start

inline_stands : (nodes : List (Node Item)) (i context : ℕ) (xs : List ℕ) (m : FoundMath) → InOrder nodes i xs
    → dollar_next (item_at nodes) xs ≡ None
    → inline_close (item_at nodes) i (first_dollar (item_at nodes) context xs) ≡ Some (close_of m)
    → MathStands nodes i context xs m
inline_stands nodes i context xs m ordered none closes = by (first_dollar (item_at nodes) context xs) refl closes
  where
    here : (d : Dollar ℕ) → first_dollar (item_at nodes) context xs ≡ Some d → d.dollar ≡ m.closer → d.dollar ≡ m.last
        → MathStands nodes i context xs m
    here d first closer last =
        let f = first_dollar_among nodes context xs d first in
        let parts : xs ≡ f.before ++ m.closer ∷ d.after = f.parts ∙ ap (λ x. f.before ++ x ∷ d.after) closer in
        let around = order_around nodes i f.before m.closer d.after (subst
        (InOrder nodes i) parts ordered) in
        let same : m.closer ≡ m.last = sym closer ∙ last in
        record {
          before = f.before;
          after = d.after;
          parts = parts;
          first = rw none (first ∙ ap (λ x. let e : Dollar ℕ = record { dollar = x; after = d.after } in Some e)
              closer);
          last = record { before = f.before; after = d.after; parts = parts ∙ ap (λ x. f.before ++ x ∷ d.after) same };
          to_last = rw same (omega arith);
          from = rw none around.from;
        }

    closed : (d : Dollar ℕ) → first_dollar (item_at nodes) context xs ≡ Some d → (b : Bool)
        → (if b then Some (record { display = false; closer = d.dollar; last = d.dollar }) else None)
        ≡ Some (close_of m) → MathStands nodes i context xs m
    closed d first true e =
        let made : MathClose ℕ = record { display = false; closer = d.dollar; last = d.dollar } in
        let same : made ≡ close_of m = cc e in
        here d first (ap (λ (c : MathClose ℕ). c.closer) same) (ap (λ (c : MathClose ℕ). c.last) same)
    closed d first false e = cc e

    by : (o : Option (Dollar ℕ)) → first_dollar (item_at nodes) context xs ≡ o → inline_close (item_at nodes) i o
        ≡ Some (close_of m) → MathStands nodes i context xs m
    by None first e = cc e
    by (Some d) first e = closed d first
        (can_close (item_at nodes d.dollar).body && not (i == (item_at nodes d.dollar).start)) e

-- of display math the items after both of its first `$` are searched
next_is : (nodes : List (Node Item)) (x : ℕ) (xs : List ℕ) (last : ℕ) → dollar_next (item_at nodes) (x ∷ xs) ≡ Some last
    → x ≡ last
next_is nodes x xs last e = by (is_dollar (item_at nodes x).body) e
  where
    by : (b : Bool) → (if b then Some x else None) ≡ Some last → x ≡ last
    by true e = cc e
    by false e = cc e

display_last : (nodes : List (Node Item)) (second context : ℕ) (i : ℕ) (ys : List ℕ) (m : FoundMath) (d : Dollar ℕ)
    → InOrder nodes i (second ∷ ys) → dollar_next (item_at nodes) (second ∷ ys) ≡ Some second
    → first_dollar (item_at nodes) context ys ≡ Some d → d.dollar ≡ m.closer → (zs : List ℕ) → d.after ≡ m.last ∷ zs
    → MathStands nodes i context (second ∷ ys) m
display_last nodes second context i ys m d ordered next first closer zs after =
    let f = first_dollar_among nodes context ys d first in
    let parts : ys ≡ f.before ++ m.closer ∷ d.after = f.parts ∙ ap (λ x. f.before ++ x ∷ d.after) closer in
    let all : ys ≡ f.before ++ m.closer ∷ m.last ∷ zs = parts ∙ ap (λ later. f.before ++ m.closer ∷ later) after in
    let end = (item_at nodes second).end in
    let around = order_around nodes end f.before m.closer d.after (subst
    (InOrder nodes end) parts ordered.2) in
    let later : InOrder nodes (item_at nodes m.closer).end (m.last ∷ zs) = subst
    (InOrder nodes (item_at nodes m.closer).end) after around.later in
    record {
      before = second ∷ f.before;
      after = d.after;
      parts = ap (λ l. second ∷ l) parts;
      first = rw next (first ∙ ap (λ x. let e : Dollar ℕ = record { dollar = x; after = d.after } in Some e) closer);
      last = record {
        before = second ∷ (f.before ++ m.closer ∷ []);
        after = zs;
        parts = ap (λ l. second ∷ l) (all ∙ sym (append_assoc f.before (m.closer ∷ []) (m.last ∷ zs)));
      };
      to_last = omega (arith, later.0, later.1);
      from = rw next around.from;
    }

display_stands : (nodes : List (Node Item)) (i context second : ℕ) (xs : List ℕ) (m : FoundMath) → InOrder nodes i xs
    → dollar_next (item_at nodes) xs ≡ Some second
    → display_close (item_at nodes) (first_dollar (item_at nodes) context (drop 1 xs)) ≡ Some (close_of m)
    → MathStands nodes i context xs m
display_stands nodes i context second [] m ordered next closes = cc next
display_stands nodes i context second (x ∷ ys) m ordered next closes = by (first_dollar (item_at nodes) context ys) refl
    closes
  where
    is : x ≡ second
    is = next_is nodes x ys second next

    here : (d : Dollar ℕ) → first_dollar (item_at nodes) context ys ≡ Some d → (after : List ℕ) → d.after ≡ after
        → (last : Option ℕ) → dollar_next (item_at nodes) after ≡ last
        → math_closed_by d.dollar last ≡ Some (close_of m) → MathStands nodes i context (x ∷ ys) m
    here d first after a None l e = cc e
    here d first [] a (Some last) l e = cc l
    here d first (z ∷ zs) a (Some last) l e =
        let made : MathClose ℕ = record { display = true; closer = d.dollar; last = last } in
        let same : made ≡ close_of m = cc e in
        let ends : z ≡ m.last = next_is nodes z zs last l ∙ ap (λ (c : MathClose ℕ). c.last) same in
        display_last nodes x context i ys m d ordered (next ∙ ap (λ n. Some n) (sym is)) first
        (ap (λ (c : MathClose ℕ). c.closer) same) zs (a ∙ ap (λ z. z ∷ zs) ends)

    by : (o : Option (Dollar ℕ)) → first_dollar (item_at nodes) context ys ≡ o → display_close (item_at nodes) o
        ≡ Some (close_of m) → MathStands nodes i context (x ∷ ys) m
    by None first e = cc e
    by (Some d) first e = here d first d.after refl (dollar_next (item_at nodes) d.after) refl e

pub math_stands : (nodes : List (Node Item)) (opener : Item) (xs : List ℕ) (m : FoundMath) → InOrder nodes opener.end xs
    → math_close_from (item_at nodes) opener xs ≡ Some (close_of m)
    → MathStands nodes opener.end (context_of opener.body) xs m
math_stands nodes opener xs m ordered closes = by (can_open opener.body) closes
  where
    by_next : (o : Option ℕ) → dollar_next (item_at nodes) xs ≡ o → (elim o [
      | Some second ↦ display_close (item_at nodes) (first_dollar (item_at nodes) (context_of opener.body) (drop 1 xs))
      | None ↦ inline_close (item_at nodes) opener.end (first_dollar (item_at nodes) (context_of opener.body) xs)
    ]) ≡ Some (close_of m) → MathStands nodes opener.end (context_of opener.body) xs m
    by_next None next e = inline_stands nodes opener.end (context_of opener.body) xs m ordered next e
    by_next (Some second) next e = display_stands nodes opener.end (context_of opener.body) second xs m ordered next e

    by : (b : Bool) → (if b then math_close (item_at nodes) opener.end (context_of opener.body) xs else None)
        ≡ Some (close_of m) → MathStands nodes opener.end (context_of opener.body) xs m
    by true e = by_next (dollar_next (item_at nodes) xs) refl e
    by false e = cc e

-- a text can begin where an item ends
start_boundary : (source : List ℕ) (tables : Tables) (nodes : List (Node Item)) (ix : ℕ)
    → CanResolve source tables nodes (Some ix) → IsCharBoundary source (text_start nodes ix)
start_boundary source tables nodes ix ready = by (forest_at (links_of nodes) (sibling_of nodes ix)) o.all_placed
  where
    o : OpenedChain source tables nodes ix
    o = opens_chain ready

    by : (f : Forest ℕ) → Each (IsPlaced source tables nodes) f → IsCharBoundary source
        (option_map_or (λ second. (item_at nodes second).end) (dollar_next (item_at nodes) (roots f))
        (item_at nodes ix).end)
    by nil h = o.placed.lies.end
    by (node x below after) h = either (is_dollar (item_at nodes x).body)
      where
        either : (b : Bool) → IsCharBoundary source
            (option_map_or (λ second. (item_at nodes second).end) (if b then Some x else None) (item_at nodes ix).end)
        either true = h.0.lies.end
        either false = o.placed.lies.end

-- what closes the math span of an opener is in the chain
pub stands_of : {source : List ℕ} {tables : Tables} {nodes : List (Node Item)} {ix : ℕ} {m : FoundMath}
    → CanResolve source tables nodes (Some ix) → ClosesMath nodes ix (Some m)
    → MathStands nodes (item_at nodes ix).end (context_of (item_at nodes ix).body) (followers nodes ix) m
stands_of {source} {tables} {nodes} {ix} {m} ready closes =
    math_stands nodes (item_at nodes ix) (followers nodes ix) m (opens_chain ready).ordered
    (math_by_number ready closes)

-- the math span can be put in the place of its opener
math_names : (tables : Tables) (cow : CowIndex) (display : Bool) (n : Named) → cow.0 ≡ length tables.cows
    → number_of n < size_for tables n → times_named n (body.Math cow display) ≡ 0
math_names tables cow display (some_text n) e h = same_before n cow.0 (omega (arith, h, e))
math_names tables cow display other e h = refl

-- all of it, once the text is in its table: the item is made of the opener and of the last `$`
abbrev pub span_of : (opener last : Item) → FoundMath → CowIndex → Item
span_of opener last m cow = record { start = opener.start; end = last.end; body = body.Math cow m.display }

pub record PutsMath (source : List ℕ) (tables tables' : Tables) (nodes : List (Node Item)) (ix : ℕ) (m : FoundMath)
    (cow : CowIndex) (item : Item) : Type 0 where
  pub is : item ≡ math_item nodes ix m cow
  pub closes : ClosesMath nodes ix (Some m)
  pub found : IsFoundAt source tables nodes ix item.end
  pub can : CanPut source tables tables' item

-- the text of math starts after its opener's start
text_later : (source : List ℕ) (tables : Tables) (nodes : List (Node Item)) (ix : ℕ)
    → OpenedChain source tables nodes ix → (item_at nodes ix).start ≤ text_start nodes ix
text_later source tables nodes ix o = by (followers nodes ix) o.ordered
  where
    by_second : (second : Bool) (x : ℕ) → (item_at nodes ix).end ≤ (item_at nodes x).start
        → (item_at nodes x).start ≤ (item_at nodes x).end → (item_at nodes ix).start
        ≤ option_map_or (λ second. (item_at nodes second).end) (if second then Some x else None) (item_at nodes ix).end
    by_second true x after ordered = omega (arith, o.placed.lies.ordered, after, ordered)
    by_second false x after ordered = o.placed.lies.ordered

    by : (xs : List ℕ) → InOrder nodes (item_at nodes ix).end xs → (item_at nodes ix).start
        ≤ option_map_or (λ second. (item_at nodes second).end) (dollar_next (item_at nodes) xs) (item_at nodes ix).end
    by [] ordered = o.placed.lies.ordered
    by (x ∷ xs) ordered = by_second (is_dollar (item_at nodes x).body) x ordered.0 ordered.1

pub puts_math : {source : List ℕ} {tables tables' : Tables} {nodes : List (Node Item)} {ix : ℕ} {m : FoundMath}
    {opener last : Item} {cow : CowIndex} {origin : Origin} {found : Option FoundMath} {start : ℕ} {closer : Item}
    → CanResolve source tables nodes (Some ix) → is_dollar (item_at nodes ix).body ≡ true → ClosesMath nodes ix found
    → found ≡ Some m → opener ≡ item_at nodes ix → last ≡ item_at nodes m.last → closer ≡ item_at nodes m.closer → start
    ≡ text_start nodes ix → StoresText source start closer.start tables tables' cow origin
    → PutsMath source tables tables' nodes ix m cow (span_of opener last m cow)
puts_math {source} {tables} {tables'} {nodes} {ix} {m} {opener} {last} {cow} {origin} {found} {start} {closer =
    closes_at} ready dollar closed here opens ends closer_is start_is_text stored =
    let is = (dollar_body (item_at nodes ix).body dollar).is in
    let o = opens_chain ready in
    let closes : ClosesMath nodes ix (Some m) = subst (ClosesMath nodes ix) here closed in
    let there = stands_of ready closes in
    let rest = forest_at (links_of nodes) (sibling_of nodes ix) in
    let last_placed = each_root (IsPlaced source tables nodes) rest there.last.before m.last there.last.after
    o.all_placed there.last.parts in
    let closer = each_root (IsPlaced source tables nodes) rest there.before m.closer there.after o.all_placed
    there.parts in
    let around = order_around nodes (item_at nodes ix).end there.before m.closer there.after
    (subst (InOrder nodes (item_at nodes ix).end) there.parts o.ordered) in
    let same : span_of opener last m cow ≡ math_item nodes ix m cow = ap (λ (i : Item). span_of i last m cow) opens
    ∙ ap (λ (i : Item). span_of (item_at nodes ix) i m cow) ends in
    record {
      is = same;
      closes = closes;
      found = subst (λ (i : Item). IsFoundAt source tables nodes ix i.end) (sym same)
          (found_at source tables nodes ix m.last ready (ap is_open is) (ap run_character is) there.last);
      can = subst (CanPut source tables tables') (sym same) (record {
        closed = refl;
        no_block = refl;
        lies = record {
          ordered = omega (arith, o.placed.lies.ordered, around.from, closer.lies.ordered, there.to_last);
          start = o.placed.lies.start;
          end = last_placed.lies.end;
        };
        named = record { text = stored.within; link = tt; alignments = tt; attributes = tt };
        slices = sliced_wider source start closes_at.start (item_at nodes ix).start (item_at nodes m.last).end
            (origin_at tables'.cows cow.0) (text_at tables'.cows cow.0)
            (rw start_is_text (text_later source tables nodes ix o))
            (rw closer_is (omega (arith, closer.lies.ordered, there.to_last))) stored.slice;
        new_names = λ n old. math_names tables cow m.display n stored.number old;
      });
    }

-- where its text starts
pub start_is : (source : List ℕ) (tables : Tables) (nodes : List (Node Item)) (ix start : ℕ)
    → CanResolve source tables nodes (Some ix)
    → start ≡ option_map_or (λ second. (item_at nodes second).end) (dollar_at nodes (sibling_of nodes ix))
    (item_at nodes ix).end → start ≡ text_start nodes ix
start_is source tables nodes ix start ready e =
    e ∙ ap (λ (o : Option ℕ). option_map_or (λ second. (item_at nodes second).end) o (item_at nodes ix).end)
    (start_linked nodes (suc ix) (sibling_of nodes ix) (followers nodes ix) (opens_chain ready).leads)

-- the bytes between the delimiters can be cut out
pub math_cut : {source : List ℕ} {tables : Tables} {nodes : List (Node Item)} {ix : ℕ} {m : FoundMath} {start : ℕ}
    {closer : Item} {found : Option FoundMath}
    → CanResolve source tables nodes (Some ix) → ClosesMath nodes ix found → found ≡ Some m
    → start ≡ option_map_or (λ second. (item_at nodes second).end) (dollar_at nodes (sibling_of nodes ix))
    (item_at nodes ix).end → closer ≡ item_at nodes m.closer → CanCut source start closer.start
math_cut {source} {tables} {nodes} {ix} {m} {start} {closer} {found} ready closes here starts ends =
    let o = opens_chain ready in
    let there = stands_of ready (subst (ClosesMath nodes ix) here closes) in
    let placed = each_root (IsPlaced source tables nodes) (forest_at (links_of nodes) (sibling_of nodes ix))
    there.before m.closer there.after o.all_placed there.parts in
    rw (start_is source tables nodes ix start ready starts, ends)
    (record { ordered = there.from; from = start_boundary source tables nodes ix ready; to = placed.lies.start })
