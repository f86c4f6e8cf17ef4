-- The byte offsets at which the chain after a `]` can continue, as its items are in an arena: after the `]` itself,
-- where a later item ends, and after a `)`. Each is between characters, and no open item has bytes on both sides of it:
-- items are one after the other, and an open item covers its markup, in which there is no `)`.
use Rattle.std.proofs.Common.{◌≡◌, ℕ, ◌+◌, ◌-◌, ◌<◌, ◌≤◌, Bool, true, false, ◌==◌, ◌&&◌, List, [], ◌∷◌, ◌++◌, Option}
use Rattle.std.proofs.Common.{Some, None, IsUtf8, length, drop, get_or, refl, sym, ap, ◌∙◌, subst, arith}
use Rattle.std.specs.Prelude.{IfSome, if◌then◌else◌, nat_le, nat_lt, slice_range}
use Rattle.std.specs.Str.{IsCharBoundary}
use Rattle.std.proofs.lemmas.Bool.{eqb-true}
use Rattle.std.proofs.lemmas.Bool.Decides.{nat_tests}
use Rattle.std.proofs.lemmas.List.{get_or-drop, get_or-replicate, get_or-take, length-replicate}
use Rattle.std.proofs.lemmas.Str.{IsCharBoundary-after_ascii}
use Rattle.markdown_base.specs.ArenaRules.{next_at}
use Rattle.markdown_base.specs.BlockTree.{Numbered, numbered, item_at}
use Rattle.std.specs.Option.{option_map}
use Rattle.markdown_base.specs.Forest.{Forest, nil, node, Each, first_root, relabelled, roots}
use Rattle.markdown_base.specs.Item.{is_open}
use Rattle.markdown_base.specs.WellFormed.{RunCharacter, StandsInRun, StandsOverMarkup, run_character}
use Rattle.markdown_base.specs.declared.item.Item.{Item}
use Rattle.markdown_base.specs.declared.item.ItemBody.{ItemBody}
use Rattle.markdown_base.specs.declared.item.ItemBody.TheVariants as body
use Rattle.markdown_base.specs.declared.node.Node.{Node}
use Rattle.markdown_brackets.specs.BracketDecision.{Closing, closer_ends_at, past_second}
use Rattle.markdown_brackets.specs.Reference.{is_closing_bracket, stands_at}
use Rattle.markdown_document.specs.ChainRest.{as_item, end_of, open_body}
use Rattle.markdown_document.specs.Document.{shape_of}
use Rattle.markdown_document.specs.PlacedNodes.{IsPlaced}
use Rattle.markdown_document.specs.Tables.{Tables}
use Rattle.markdown_base.proofs.ByteListLemmas.{part_length}
use Rattle.markdown_delims.proofs.PairingLemmas.{closed_shape}
use Rattle.markdown_resolver.specs.Closes.{CanGoOn, IsNotCut, NoneOpenAround}
use Rattle.markdown_resolver.specs.PutsTrees.{numbered_node}
use Rattle.markdown_resolver.specs.Rewritten.{first_past}
use Rattle.markdown_resolver.proofs.FollowersLemmas.{InOrder, each_root, nothing_around, order_around, starts_past}

-- an open item has no byte like `)` or `>` before its last one
none_open : (byte : ℕ) (bytes : List ℕ) (k : ℕ) (b : ItemBody) → (33 < byte) × (byte < 96) → k + 1 < length bytes
    → get_or bytes k 0 ≡ byte → StandsOverMarkup bytes b → IfSome (run_character b) (λ c. length bytes ≡ 1)
    → is_open b ≡ false
none_open byte bytes k (body.MaybeEmphasis count opens closes) other within closed markup run = absurd
    (omega (arith, run, within))
none_open byte bytes k (body.MaybeMath opens closes context) other within closed markup run = absurd
    (omega (arith, ap length markup, within))
none_open byte bytes k (body.MaybeSmartQuote quote opens closes) other within closed markup run = absurd
    (omega (arith, ap length markup.0, within))
none_open byte bytes k (body.MaybeCode count escaped) other within closed markup run =
    let size : length bytes ≡ count = ap length markup.0 ∙ length-replicate count 96 in
    let here : k < count = omega (arith, size, within) in
    let mark : get_or bytes k 0 ≡ 96 = ap (λ (xs : List ℕ). get_or xs k 0) markup.0 ∙ get_or-replicate count k 96 0 here
    in absurd (omega (arith, closed, mark, other.1))
none_open byte bytes k body.MaybeHtml other within closed markup run = absurd (omega (arith, ap length markup, within))
none_open byte bytes k body.MaybeLinkOpen other within closed markup run = absurd
    (omega (arith, ap length markup, within))
none_open byte bytes k (body.MaybeLinkClose could_be) other within closed markup run = absurd
    (omega (arith, ap length markup, within))
none_open byte bytes k body.MaybeImage other within closed markup run =
    let size : length bytes ≡ 2 = ap length markup in
    let first : k ≡ 0 = omega (arith, size, within) in
    let mark : get_or bytes 0 0 ≡ 33 = ap (λ (xs : List ℕ). get_or xs 0 0) markup in
    absurd (omega (arith, closed, mark, ap (λ i. get_or bytes i 0) first, other.0))
none_open byte bytes k b other within closed markup run = refl

-- a run's character is one byte long
pub one_byte : (source : List ℕ) (a : Numbered) (next : Option Numbered) (c : Option RunCharacter) (bytes : List ℕ)
    → length bytes ≡ a.item.end - a.item.start → IfSome c (StandsInRun source a next) → IfSome c (λ x. length bytes ≡ 1)
one_byte source a next None bytes e h = tt
one_byte source a next (Some c) bytes e h = omega (arith, e, h.one_byte)

-- so no open item has bytes both before and after an offset that follows such a byte
pub none_cut : (source : List ℕ) (tables : Tables) (nodes : List (Node Item)) (n i byte : ℕ)
    → IsPlaced source tables nodes n → (33 < byte) × (byte < 96) → get_or source (i - 1) 0 ≡ byte
    → (item_at nodes n).start < i → i < (item_at nodes n).end → is_open (item_at nodes n).body ≡ false
none_cut source tables nodes n i byte placed other closed starts ends =
    let item = item_at nodes n in
    let bytes = slice_range source item.start item.end in
    let k = i - 1 - item.start in
    let size : length bytes ≡ item.end - item.start = part_length source item.start item.end placed.lies.end.0 in
    let place : item.start + k ≡ i - 1 = omega (arith, starts) in
    let below : k < item.end - item.start = omega (arith, starts, ends) in
    let there : get_or bytes k 0 ≡ byte =
    get_or-take (item.end - item.start) (drop item.start source) k 0 below
    ∙ (get_or-drop item.start source k 0 ∙ (ap (λ j. get_or source j 0) place ∙ closed)) in
    none_open byte bytes k item.body other (omega (arith, size, starts, ends)) there placed.keeps.markup_is_there
    (one_byte source (numbered nodes n) (next_at nodes n) (run_character item.body) bytes size
    placed.keeps.runs_are_whole)

-- the first item that ends past a byte offset is one of the chain
pub first_placed : (source : List ℕ) (tables : Tables) (nodes : List (Node Item)) (i n : ℕ) (f : Forest ℕ)
    → Each (IsPlaced source tables nodes) f
    → first_past nodes i (roots f) ≡ Some n → IsPlaced source tables nodes n × (i < (item_at nodes n).end)
first_placed source tables nodes i n nil p e = cc e
first_placed source tables nodes i n (node ix below after) p e = by (nat_le (item_at nodes ix).end i) refl e
    (first_placed source tables nodes i n after p.2)
  where
    by : (ended : Bool) → nat_le (item_at nodes ix).end i ≡ ended
        → (if ended then first_past nodes i (roots after) else Some ix) ≡ Some n
        → (first_past nodes i (roots after) ≡ Some n → IsPlaced source tables nodes n × (i < (item_at nodes n).end))
        → IsPlaced source tables nodes n × (i < (item_at nodes n).end)
    by true t e later = later e
    by false t e later =
        let same : ix ≡ n = cc e in
        let past : i < (item_at nodes ix).end = grind (arith, nat_tests) in
        (subst (IsPlaced source tables nodes) same p.0, subst (λ (m : ℕ). i < (item_at nodes m).end) same past)

-- what a node shows as a `]` is one
pub shows_closer : (tables : Tables) (bytes : List ℕ) (b : ItemBody)
    → is_closing_bracket (open_body (shape_of tables bytes b)) ≡ is_closing_bracket b
shows_closer tables bytes body.Paragraph = refl
shows_closer tables bytes (body.HardBreak true) = refl
shows_closer tables bytes (body.HardBreak false) = refl
shows_closer tables bytes other = refl

-- and has one byte
closer_long : (bytes : List ℕ) (b : ItemBody) → is_closing_bracket b ≡ true → StandsOverMarkup bytes b
    → length bytes ≡ 1
closer_long bytes (body.MaybeLinkClose could_be) h markup = ap length markup
closer_long bytes other h markup = absurd (cc h)

-- the chain after a `]`: its items follow it, one after the other
pub record StandsAfter (source : List ℕ) (tables : Tables) (nodes : List (Node Item)) (c : Closing ℕ) (f : Forest ℕ)
    : Type 0 where
  pub rest_is : c.rest ≡ relabelled (numbered_node source tables nodes) f
  pub placed : Each (IsPlaced source tables nodes) f
  pub ordered : InOrder nodes (end_of c.node) (roots f)
  pub between : IsCharBoundary source (end_of c.node)

-- an item of a chain that ends at a byte
pub record EndsThere (nodes : List (Node Item)) (i : ℕ) (f : Forest ℕ) : Type 0 where
  pub before : List ℕ
  pub item : ℕ
  pub after : List ℕ
  pub follows : roots f ≡ before ++ item ∷ after
  pub ends : (item_at nodes item).end ≡ i

module _ (source : List ℕ) (tables : Tables) (nodes : List (Node Item)) where
  -- what is required of nodes, by numbers
  pub none_open_around : (i : ℕ) (f : Forest ℕ)
      → ((n : ℕ) → first_past nodes i (roots f) ≡ Some n → (item_at nodes n).start < i
      → is_open (item_at nodes n).body ≡ false) → NoneOpenAround i (relabelled (numbered_node source tables nodes) f)
  none_open_around i nil h = tt
  none_open_around i (node ix below after) h = by (nat_le (item_at nodes ix).end i) h (none_open_around i after)
    where
      by : (ended : Bool) → ((n : ℕ) → (if ended then first_past nodes i (roots after) else Some ix) ≡ Some n
          → (item_at nodes n).start < i → is_open (item_at nodes n).body ≡ false)
          → (((n : ℕ) → first_past nodes i (roots after) ≡ Some n → (item_at nodes n).start < i
          → is_open (item_at nodes n).body ≡ false)
          → NoneOpenAround i (relabelled (numbered_node source tables nodes) after))
          → IsNotCut ended i (numbered_node source tables nodes ix)
          (NoneOpenAround i (relabelled (numbered_node source tables nodes) after))
      by true h later = later h
      by false h later = λ starts. closed_shape tables
          (slice_range source (item_at nodes ix).start (item_at nodes ix).end)
          (item_at nodes ix).body (h ix refl starts)

  -- a `]` that ends there, by nodes
  pub ends_there : (i : ℕ) (f : Forest ℕ) → closer_ends_at i (relabelled (numbered_node source tables nodes) f) ≡ true
      → EndsThere nodes i f
  ends_there i nil h = cc h
  ends_there i (node ix below after) h =
      by (nat_lt (item_at nodes ix).end i) (is_closing_bracket (open_body
      (numbered_node source tables nodes ix).part.shape))
      ((item_at nodes ix).end == i) refl h (ends_there i after)
    where
      by : (before closes here : Bool) → ((item_at nodes ix).end == i) ≡ here
          → (if before then closer_ends_at i (relabelled (numbered_node source tables nodes) after) else closes &&
          here) ≡ true
          → (closer_ends_at i (relabelled (numbered_node source tables nodes) after) ≡ true → EndsThere nodes i after)
          → EndsThere nodes i (node ix below after)
      by true closes here same h later =
          let r = later h in
          record {
            before = ix ∷ r.before;
            item = r.item;
            after = r.after;
            follows = ap (λ (xs : List ℕ). ix ∷ xs) r.follows;
            ends = r.ends;
          }
      by false true true same h later = record {
        before = [];
        item = ix;
        after = roots after;
        follows = refl;
        ends = eqb-true (item_at nodes ix).end i same;
      }
      by false true false same h later = cc h
      by false false here same h later = cc h

  -- the second item, where it is a `]` that starts at a byte
  pub second_ends : (p : ℕ) (f : Forest ℕ) → stands_at p is_closing_bracket
      (option_map as_item (first_root (past_second (relabelled (numbered_node source tables nodes) f)))) ≡ true
      → Each (IsPlaced source tables nodes) f → EndsThere nodes (p + 1) f
  second_ends p nil h placed = cc h
  second_ends p (node ix below nil) h placed = cc h
  second_ends p (node ix below (node n inner after)) h placed =
      by ((item_at nodes n).start == p) (is_closing_bracket (open_body
      (numbered_node source tables nodes n).part.shape)) refl
      refl h
    where
      by : (starts closes : Bool) → ((item_at nodes n).start == p) ≡ starts
          → is_closing_bracket (open_body (numbered_node source tables nodes n).part.shape) ≡ closes →
          (starts && closes) ≡ true
          → EndsThere nodes (p + 1) (node ix below (node n inner after))
      by true true s t h =
          let item = item_at nodes n in
          let bytes = slice_range source item.start item.end in
          let at = placed.2.0 in
          let size = part_length source item.start item.end at.lies.end.0 in
          let long = closer_long bytes item.body (sym (shows_closer tables bytes item.body)
          ∙ t) at.keeps.markup_is_there in
          let starts = eqb-true item.start p s in
          record {
            before = ix ∷ [];
            item = n;
            after = roots after;
            follows = refl;
            ends = omega (arith, size, long, starts);
          }
      by true false s t h = cc h
      by false closes s t h = cc h

  module _ (c : Closing ℕ) (f : Forest ℕ) (k : StandsAfter source tables nodes c f) where
    -- what is true of the numbers is true of the nodes
    around_here : (i : ℕ) → ((n : ℕ) → first_past nodes i (roots f) ≡ Some n → (item_at nodes n).start < i
        → is_open (item_at nodes n).body ≡ false) → NoneOpenAround i c.rest
    around_here i h = subst (NoneOpenAround i) (sym k.rest_is) (none_open_around i f h)

    -- after the `]`
    pub goes_on_here : CanGoOn source c (end_of c.node)
    goes_on_here = record {
      after = omega arith;
      between = k.between;
      none_around = around_here (end_of c.node) (λ n first starts.
          let from = starts_past nodes (end_of c.node) (end_of c.node) n (roots f) (omega arith) k.ordered first in
          absurd (omega (arith, from, starts)));
    }

    -- where a later item ends
    pub goes_on_there : (i : ℕ) → EndsThere nodes i f → CanGoOn source c i
    goes_on_there i there =
        let order : InOrder nodes (end_of c.node) (there.before ++ there.item ∷ there.after) = subst
        (InOrder nodes (end_of c.node)) there.follows k.ordered in
        let o = order_around nodes (end_of c.node) there.before there.item there.after order in
        let placed = each_root (IsPlaced source tables nodes) f there.before there.item there.after k.placed
        there.follows in
        record {
          after = omega (arith, o.from, o.ordered, there.ends);
          between = subst (IsCharBoundary source) there.ends placed.lies.end;
          none_around = around_here i (λ n first starts.
              let e : first_past nodes (item_at nodes there.item).end (there.before ++ there.item ∷ there.after)
              ≡ Some n =
              ap (λ (j : ℕ). first_past nodes j (there.before ++ there.item ∷ there.after)) there.ends
              ∙ ap (first_past nodes i) (sym there.follows) ∙ first in
              let from = nothing_around nodes (end_of c.node) there.before there.item there.after n order e in
              absurd (omega (arith, from, starts, there.ends)));
        }

    -- after a `)`
    pub goes_on_closed : (i : ℕ) → IsUtf8 source → end_of c.node < i → i ≤ length source → get_or source (i - 1) 0 ≡ 41
        → CanGoOn source c i
    goes_on_closed i utf8 after within closed =
        let place : i - 1 + 1 ≡ i = omega (arith, after) in
        let inside_text : i - 1 < length source = omega (arith, after, within) in
        let low : get_or source (i - 1) 0 < 128 = omega (arith, closed) in
        record {
          after = omega (arith, after);
          between = subst (IsCharBoundary source) place
              (IsCharBoundary-after_ascii source (i - 1) utf8 inside_text low);
          none_around = around_here i (λ n first starts.
              let found = first_placed source tables nodes i n f k.placed first in
              none_cut source tables nodes n i 41 found.0 (omega arith, omega arith) closed starts found.1);
        }
