-- An opener of a left list in an arena can be tried at the `]` after that: the chain from it on can be read, it
-- precedes the `]`, and what is read of the text starts and ends between characters.
use Rattle.std.proofs.Common.{◌≡◌, ℕ, ◌<◌, ◌≤◌, Bool, true, false, ◌==◌, List, [], ◌∷◌, ◌++◌, Option, Some, None, refl}
use Rattle.std.proofs.Common.{sym, ap, ◌∙◌, subst, append_assoc, nat_lt, arith}
use Rattle.std.specs.Prelude.{⊤, IfSome, if◌then◌else◌}
use Rattle.std.specs.Option.{option_and_then}
use Rattle.std.specs.Str.{IsCharBoundary}
use Rattle.markdown_base.specs.Arena.{child_of, sibling_of}
use Rattle.markdown_base.specs.ArenaForest.{forest_at, links_of}
use Rattle.markdown_base.specs.BlockTree.{item_at}
use Rattle.markdown_base.specs.Forest.{Each, Forest, nil, node, roots}
use Rattle.markdown_base.specs.declared.item.Item.{Item}
use Rattle.markdown_base.specs.declared.node.Node.{Node}
use Rattle.markdown_brackets.specs.ChainAhead.{IsChain, first_start, numbers_past}
use Rattle.markdown_brackets.specs.ChainHeld.{numbers_of}
use Rattle.markdown_brackets.specs.Decides.{EachOpener, CanTry}
use Rattle.markdown_brackets.specs.LeftList.{Entry, Split, done, trees_onto, waits}
use Rattle.markdown_brackets.specs.Openers.{Waiting}
use Rattle.markdown_brackets.specs.WikilinkNodes.{CanFindWikilink, unless_is}
use Rattle.markdown_document.specs.declared.chain_place.ChainPlace.{ChainPlace}
use Rattle.markdown_document.specs.ChainRest.{joined_chains}
use Rattle.markdown_document.specs.Document.{TreeNode}
use Rattle.markdown_document.specs.PlacedNodes.{IsPlaced}
use Rattle.markdown_document.specs.Tables.{Tables}
use Rattle.markdown_resolver.specs.Chains.{CanResolve}
use Rattle.markdown_brackets.specs.Finish.{IsSplit}
use Rattle.markdown_resolver.specs.PutsTrees.{numbered_from, numbered_node}
use Rattle.markdown_resolver.specs.ReadOn.{EachWaits, IsOpener, StandsTo}
use Rattle.markdown_resolver.proofs.ComposeLemmas.{stands_ready}
use Rattle.markdown_resolver.proofs.FollowersLemmas.{InOrder, opens_chain, order_around}
use Rattle.markdown_resolver.proofs.LeftTreesLemmas.{onto_split, relabelled_joined}
use Rattle.markdown_resolver.proofs.PutPairLemmas.{ready_next}
use Rattle.markdown_resolver.proofs.StandsToLemmas.{AtOpener, numbered_opens, numbers_are, stands_at_opener}
use Rattle.markdown_resolver.proofs.StandsToLemmas.{stands_rest}

-- an opener that precedes a `]`
pub record StandsOpen (source : List ℕ) (tables : Tables) (nodes : List (Node Item)) (closer n : ℕ) : Type 0 where
  pub opener : IsOpener source nodes n
  pub ready : CanResolve source tables nodes (Some n)
  pub order : (item_at nodes n).end ≤ (item_at nodes closer).start

roots_joined : (f g : Forest ℕ) → roots (joined_chains f g) ≡ roots f ++ roots g
roots_joined nil g = refl
roots_joined (node a below after) g = ap (λ (l : List ℕ). a ∷ l) (roots_joined after g)

-- it is there where the left list is at it
at_opener : (source : List ℕ) (tables : Tables) (nodes : List (Node Item)) (first closer : ℕ) (o : Split ℕ)
    → CanResolve source tables nodes (Some closer) → AtOpener source tables nodes first (Some closer) o
    → StandsOpen source tables nodes closer o.opener.note
at_opener source tables nodes first closer o closes at =
    let n = o.opener.note in
    let later = numbered_from source tables nodes (Some closer) in
    let opened = opens_chain at.ready in
    let here : node (numbered_node source tables nodes n) (numbered_from source tables nodes (child_of nodes n))
    (numbered_from source tables nodes (sibling_of nodes n)) ≡ node o.opener nil (trees_onto o.after later) =
    sym (numbered_opens source tables nodes n (stands_ready at.ready)) ∙ at.trees in
    let rest : numbered_from source tables nodes (sibling_of nodes n) ≡ trees_onto o.after later = cc here in
    let f = forest_at (links_of nodes) (sibling_of nodes n) in
    let inside = numbers_of (trees_onto o.after nil) in
    let c = numbered_opens source tables nodes closer (stands_ready closes) in
    let after = numbers_of (numbered_from source tables nodes (sibling_of nodes closer)) in
    let follows : roots f ≡ roots inside ++ closer ∷ roots after =
    ap (λ (g : Forest ℕ). roots g)
    (sym (numbers_are source tables nodes f) ∙ ap (λ (g : Forest (TreeNode ℕ)). numbers_of g) (rest
    ∙ onto_split o.after later) ∙ relabelled_joined (λ a. a.note) (trees_onto o.after nil) later)
    ∙ roots_joined inside (numbers_of later) ∙ ap (λ (g : Forest (TreeNode ℕ)). roots inside ++ roots
    (numbers_of g)) c in
    record {
      opener = at.opener;
      ready = at.ready;
      order = (order_around nodes (item_at nodes n).end (roots inside) closer (roots after)
          (subst (λ (l : List ℕ). InOrder nodes (item_at nodes n).end l) follows opened.ordered)).from;
    }

-- so it is with each opener of a left list
waits_open : (source : List ℕ) (tables : Tables) (nodes : List (Node Item)) (first closer : ℕ)
    (whole after left : List (Entry ℕ)) → CanResolve source tables nodes (Some closer)
    → StandsTo source tables nodes first (Some closer) whole → whole ≡ after ++ left
    → EachWaits (StandsOpen source tables nodes closer) left
waits_open source tables nodes first closer whole after [] closes h e = tt
waits_open source tables nodes first closer whole after (done a below ∷ left) closes h e =
    waits_open source tables nodes first closer whole (after ++ done a below ∷ []) left closes h (e
    ∙ sym (append_assoc after (done a below ∷ []) left))
waits_open source tables nodes first closer whole after (waits m a ∷ left) closes h e =
    let o : Split ℕ = record { state = m; opener = a; after = after; before = left } in
    let split : IsSplit whole o = record { after_then = after; mark_then = m; left_is = e; same_trees = λ later. refl }
    in (
      at_opener source tables nodes first closer o closes (stands_at_opener h split),
      waits_open source tables nodes first closer whole (after ++ waits m a ∷ []) left closes h (e
          ∙ sym (append_assoc after (waits m a ∷ []) left)),
    )

pub each_open : (source : List ℕ) (tables : Tables) (nodes : List (Node Item)) (first closer : ℕ)
    (left : List (Entry ℕ)) → StandsTo source tables nodes first (Some closer) left
    → EachWaits (StandsOpen source tables nodes closer) left
each_open source tables nodes first closer left h =
    waits_open source tables nodes first closer left [] left (stands_rest h) h refl

-- a chain that may be read is one
each_at_all : (p : ℕ → Type 0) (f : Forest ℕ) → Each p f → Each (λ ix. ⊤) f
each_at_all p nil h = tt
each_at_all p (node ix below after) h = (tt, each_at_all p below h.1, each_at_all p after h.2)

pub is_chain : (source : List ℕ) (tables : Tables) (nodes : List (Node Item)) (l : Option ℕ)
    → CanResolve source tables nodes l → IsChain nodes l
is_chain source tables nodes l ready = record {
  spelled = ready.reaches.spelled;
  each = each_at_all (IsPlaced source tables nodes) (forest_at (links_of nodes) l) ready.reaches.each;
}

-- its items start between characters
start_between : (source : List ℕ) (tables : Tables) (nodes : List (Node Item)) (f : Forest ℕ) (n s : ℕ)
    → Each (IsPlaced source tables nodes) f → first_start nodes (numbers_past nodes n f) ≡ Some s
    → IsCharBoundary source s
start_between source tables nodes nil n s h e = cc e
start_between source tables nodes (node ix below after) n s h e = by (nat_lt n (item_at nodes ix).end) e
    (start_between source tables nodes after n s h.2)
  where
    by : (b : Bool) → first_start nodes (if b then node ix below after else numbers_past nodes n after) ≡ Some s
        → (first_start nodes (numbers_past nodes n after) ≡ Some s → IsCharBoundary source s) → IsCharBoundary source s
    by true found later = let here : (item_at nodes ix).start
        ≡ s = cc found in subst (λ (i : ℕ). IsCharBoundary source i) here h.0.lies.start
    by false found later = later found

-- it can be tried
pub can_try : (tables : Tables) (nodes : List (Node Item)) (place : ChainPlace) (closer n : ℕ)
    → CanResolve place.text.now tables nodes (Some closer) → 0 < (item_at nodes closer).end
    → IsCharBoundary place.text.now place.block_end → StandsOpen place.text.now tables nodes closer n
    → CanTry nodes place closer n
can_try tables nodes place closer n closes some block o =
    let source = place.text.now in
    let c = opens_chain closes in
    let next = ready_next source tables nodes closer closes in
    record {
      within = o.opener.within;
      opens = o.opener.opens;
      reads = record {
        within = c.within;
        chain = is_chain source tables nodes (sibling_of nodes closer) next;
        block = block;
        later = λ k s e. start_between source tables nodes (forest_at (links_of nodes) (sibling_of nodes closer)) k s
            next.reaches.each e;
        some = some;
        opens = o.opener.bracket;
        closes = c.placed.lies.end;
        order = omega (arith, o.order, c.placed.lies.ordered);
      };
    }

-- and a wikilink can be looked for
unless_some : (closer : ℕ) (l : Option ℕ) (ix : ℕ) → unless_is closer l ≡ Some ix → l ≡ Some ix
unless_some closer None ix e = cc e
unless_some closer (Some n) ix e = by (n == closer) e
  where
    by : (b : Bool) → (if b then None else Some n) ≡ Some ix → Some n ≡ Some ix
    by true e = cc e
    by false e = e

starts_body : (source : List ℕ) (tables : Tables) (nodes : List (Node Item)) (l : Option ℕ)
    → CanResolve source tables nodes l
    → IfSome l (λ first. IsChain nodes (Some first) × IsCharBoundary source (item_at nodes first).start)
starts_body source tables nodes None ready = tt
starts_body source tables nodes (Some first) ready =
    (is_chain source tables nodes (Some first) ready, (opens_chain ready).placed.lies.start)

unless_ready : (source : List ℕ) (tables : Tables) (nodes : List (Node Item)) (closer : ℕ) (l : Option ℕ)
    → CanResolve source tables nodes l → IfSome (unless_is closer l) (λ ix. CanResolve source tables nodes (Some ix))
unless_ready source tables nodes closer l ready = by (unless_is closer l) refl
  where
    by : (o : Option ℕ) → unless_is closer l ≡ o → IfSome o (λ ix. CanResolve source tables nodes (Some ix))
    by None e = tt
    by (Some ix) e = subst (λ (k : Option ℕ). CanResolve source tables nodes k) (unless_some closer l ix e) ready

body_of_some : (source : List ℕ) (tables : Tables) (nodes : List (Node Item)) (closer : ℕ) (o : Option ℕ)
    → IfSome o (λ ix. CanResolve source tables nodes (Some ix))
    → IfSome o (λ first. IsChain nodes (Some first) × IsCharBoundary source (item_at nodes first).start)
body_of_some source tables nodes closer None h = tt
body_of_some source tables nodes closer (Some ix) h = starts_body source tables nodes (Some ix) h

body_start_some : (source : List ℕ) (tables : Tables) (nodes : List (Node Item)) (closer : ℕ) (o : Option ℕ)
    → IfSome o (λ ix. CanResolve source tables nodes (Some ix))
    → IfSome (option_and_then (λ ix. unless_is closer (sibling_of nodes ix)) o) (λ first. IsChain nodes (Some first)
    × IsCharBoundary source (item_at nodes first).start)
body_start_some source tables nodes closer None h = tt
body_start_some source tables nodes closer (Some ix) h =
    body_of_some source tables nodes closer (unless_is closer (sibling_of nodes ix))
    (unless_ready source tables nodes closer (sibling_of nodes ix) (ready_next source tables nodes ix h))

pub can_find : (source : List ℕ) (tables : Tables) (nodes : List (Node Item)) (closer n : ℕ)
    → CanResolve source tables nodes (Some closer) → StandsOpen source tables nodes closer n
    → CanFindWikilink nodes source n closer
can_find source tables nodes closer n closes o =
    let c = opens_chain closes in
    record {
      opens = o.opener.within;
      closes = c.within;
      starts = body_start_some source tables nodes closer (unless_is closer (sibling_of nodes n))
          (unless_ready source tables nodes closer (sibling_of nodes n) (ready_next source tables nodes n o.ready));
      stops = c.placed.lies.start;
    }

-- what follows from a fact of each opener is a fact of each
pub each_follows : (p q : ℕ → Type 0) (held : List Waiting) → ((n : ℕ) → p n → q n) → EachOpener p held
    → EachOpener q held
each_follows p q [] f h = tt
each_follows p q (t ∷ held) f h = (f t.opener.node h.0, each_follows p q held f h.1)
