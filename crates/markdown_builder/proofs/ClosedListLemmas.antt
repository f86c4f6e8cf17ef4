-- Paragraphs that are made tight, in a chain and in the items of a list, and tight lists, open and closed: what an
-- append, a written item and a closed block make of them.
use Rattle.markdown_builder.proofs.NodeWriteLemmas.{if_some, same_or_not, Writes, same_place, same_item, Grows}
use Rattle.markdown_builder.proofs.NodeWriteLemmas.{item_beyond}
use Rattle.std.proofs.Common.{◌≡◌, ℕ, ◌-◌, ◌<◌, ◌≤◌, List, Option, Some, None, Bool, true, false, length, refl, sym, ap}
use Rattle.std.proofs.Common.{◌∙◌, arith, ◌⊎◌, inl, inr, ⊎_elim, suc, [], ◌∷◌, ◌++◌}
use Rattle.std.specs.Prelude.{IfSome}
use Rattle.markdown_base.specs.declared.item.Item.{Item}
use Rattle.markdown_base.specs.declared.item.ItemBody.{ItemBody}
use Rattle.markdown_base.specs.declared.item.ItemBody.TheVariants as body
use Rattle.markdown_base.specs.declared.node.Node.{Node}
use Rattle.markdown_base.specs.Arena.{Arena, child_of, sibling_of}
use Rattle.markdown_base.specs.ArenaForest.{links_of}
use Rattle.markdown_base.specs.BlockTree.{item_at}
use Rattle.markdown_builder.specs.Rising.{link_of, AreRising, place_down, place_at}
use Rattle.markdown_builder.specs.Tightness.{is_tight_list, IsInChain, first_of, later_in, IsInItemOf}
use Rattle.markdown_builder.specs.Tightness.{TightInTightLists}
use Rattle.markdown_builder.specs.TreeSteps.{Tightened, MadeTight, MakesTight, is_paragraph, tight, Tightens}
use Rattle.markdown_builder.specs.TreeSteps.{none_tight, one_tight, TightensList}
use Rattle.std.specs.List.{AllByRecursion}
use Rattle.std.proofs.lemmas.Bool.{cases_lt}
use Rattle.markdown_base.specs.ArenaChanges.{innermost}
use Rattle.markdown_base.specs.Item.{is_tight_paragraph}
use Rattle.markdown_base.proofs.ArenaLemmas.{All-snoc, All-front, All-last}
use Rattle.markdown_base.proofs.ForestLemmas.{All-weaker}
use Rattle.markdown_builder.specs.ClosedLists.{IsNotOpen, IsClosed, IsInClosedList, ListsAreTight}

-- ---- sets of numbers

-- at first all are left
pub all_left : (S : ℕ → Type 0) (nodes : List (Node Item)) → MadeTight S S nodes nodes
all_left S nodes = search (arith, inl)

-- a body is tight and no paragraph, or the other way round
pub paragraph_or_tight : (b : ItemBody) → b ≡ body.Paragraph → b ≡ body.TightParagraph → ⊥
paragraph_or_tight b e f = let q : body.Paragraph ≡ body.TightParagraph = sym e ∙ f in cc (q)

-- some more of them are made tight, by which fewer are left
pub made_more : (S Left D Fewer : ℕ → Type 0) (a b c : List (Node Item)) → MadeTight S Left a b
    → MadeTight D (λ p. ⊥) b c → ((p : ℕ) → D p → S p) → ((p : ℕ) → Left p → D p ⊎ Fewer p) → MadeTight S Fewer a c
made_more S Left D Fewer a b c h1 h2 h3 h4 = grind (arith, item_at, tight)

-- ---- one paragraph

pub is_a_paragraph : (b : ItemBody) → is_paragraph b ≡ true → b ≡ body.Paragraph
is_a_paragraph b h = grind (arith)

no_paragraph : (b : ItemBody) → is_paragraph b ≡ false → b ≡ body.Paragraph → ⊥
no_paragraph b h e = let p : is_paragraph b ≡ true = ap is_paragraph e in cc (h, p)

-- a paragraph is made tight
pub one_made : (old new : List (Node Item)) (number : ℕ) → Writes old new number (tight (item_at old number))
    → is_paragraph (item_at old number).body ≡ true → MadeTight (λ p. p ≡ number) (λ p. ⊥) old new
one_made old new number w h =
    search (arith, inr, paragraph_or_tight, item_at, is_a_paragraph, tight, inl, same_or_not, w.old_items)

-- what is no paragraph stays
pub none_made : (nodes : List (Node Item)) (number : ℕ)
    → is_paragraph (item_at nodes number).body ≡ false → MadeTight (λ p. p ≡ number) (λ p. ⊥) nodes nodes
none_made nodes number h = search (arith, inr, no_paragraph, item_at, inl)

-- ---- chains

-- a chain is the same where the links are
pub chain_same : (old new : List (Node Item))
    → ((d : Bool) (i : ℕ) → link_of (links_of new) d i ≡ link_of (links_of old) d i)
    → (l : Option ℕ) (p : ℕ) → IsInChain old l p → IsInChain new l p
chain_same old new h l p (first_of _) = first_of p
chain_same old new h l p (later_in q _ c) = later_in q p (rw (h false q) (chain_same old new h (sibling_of old q) p c))

-- what stands in a chain is its first number, or stands after that
pub first_or_later : (nodes : List (Node Item)) (q p : ℕ)
    → IsInChain nodes (Some q) p → (p ≡ q) ⊎ IsInChain nodes (sibling_of nodes q) p
first_or_later nodes q p h1 = grind (arith, first_of, later_in)

-- a chain begins with a number
pub nothing_in : (nodes : List (Node Item)) (l : Option ℕ) (p : ℕ)
    → ((number : ℕ) → l ≡ Some number → ⊥) → IsInChain nodes l p → ⊥
nothing_in nodes l p h1 h2 = grind (arith, first_of, later_in)

-- the same for what stands in the items of a list
pub item_same : (old new : List (Node Item))
    → ((d : Bool) (i : ℕ) → link_of (links_of new) d i ≡ link_of (links_of old) d i)
    → (list p : ℕ) → IsInItemOf old list p → IsInItemOf new list p
item_same old new h list p i = record {
  item = i.item;
  listed = rw (h true list) (chain_same old new h (child_of old list) i.item i.listed);
  inside = rw (h true i.item) (chain_same old new h (child_of old i.item) p i.inside);
}

-- ---- tight lists

-- a list is as tight as it was
pub list_same : (S Left : ℕ → Type 0) (old new : List (Node Item)) (list : ℕ)
    → MadeTight S Left old new → is_tight_list (item_at new list).body ≡ is_tight_list (item_at old list).body
list_same S Left old new list m = search (arith, item_at, is_tight_list, m.kept)

-- ---- what is still to be done

-- how many nodes there are from a link's number on
abbrev pub nodes_from : ℕ → Option ℕ → ℕ
nodes_from size None = 0
nodes_from size (Some number) = size - number

-- a number stands in an item from a link on
pub record IsInItemFrom (nodes : List (Node Item)) (l : Option ℕ) (p : ℕ) : Type 0 where
  pub item : ℕ
  pub listed : IsInChain nodes l item
  pub inside : IsInChain nodes (child_of nodes item) p

-- after a node fewer are left
pub fewer_nodes : (nodes : List (Node Item)) (number : ℕ) → AreRising (links_of nodes)
    → number < length nodes → (nodes_from (length nodes) (sibling_of nodes number) < length nodes - number)
    × IfSome (sibling_of nodes number) (λ j. j < length nodes)
fewer_nodes nodes number r low = of_link (sibling_of nodes number) (λ j e. r.rises false number j e)
  where
    of_link : (o : Option ℕ) → ((j : ℕ) → o ≡ Some j → (number < j) × (j < length nodes))
        → (nodes_from (length nodes) o < length nodes - number) × IfSome o (λ j. j < length nodes)
    of_link None h = (omega (arith, low), tt)
    of_link (Some j) h = let q = h j refl in (omega (arith, q.0, q.1, low), q.1)

-- the siblings from a link on, one of which is made tight
pub sibling_made : (nodes old new : List (Node Item)) (first : Option ℕ) (number : ℕ)
    → MadeTight (λ p. IsInChain nodes first p) (λ p. IsInChain nodes (Some number) p) nodes old
    → MadeTight (λ p. p ≡ number) (λ p. ⊥) old new
    → ((p : ℕ) → IsInChain nodes (Some number) p → IsInChain nodes first p)
    → MadeTight (λ p. IsInChain nodes first p) (λ p. IsInChain nodes (sibling_of nodes number) p) nodes new
sibling_made nodes old new first number h1 h2 h3 = grind (arith, made_more, sibling_of, first_of, first_or_later)

-- the same for one of the items
pub item_made : (nodes old new : List (Node Item)) (list number : ℕ)
    → MadeTight (IsInItemOf nodes list) (IsInItemFrom nodes (Some number)) nodes old
    → MadeTight (λ p. IsInChain old (child_of old number) p) (λ p. ⊥) old new
    → ((p : ℕ) → IsInChain nodes (Some number) p → IsInChain nodes (child_of nodes list) p)
    → MadeTight (IsInItemOf nodes list) (IsInItemFrom nodes (sibling_of nodes number)) nodes new
item_made nodes old new list number m n within = made_more (IsInItemOf nodes list)
    (IsInItemFrom nodes (Some number)) (λ p. IsInChain old (child_of old number) p)
    (IsInItemFrom nodes (sibling_of nodes number)) nodes old new m n (λ p c. record {
      item = number;
      listed = within number (first_of number);
      inside = chain_same old nodes (λ d i. sym (m.links d i)) (child_of nodes number) p (rw (← m.links true number) c);
    }) (λ p i. ⊎_elim (λ (e : i.item ≡ number). inl (rw (m.links true number)
    (chain_same nodes old m.links (child_of nodes number) p (rw e at i.inside))))
    (λ (c : IsInChain nodes (sibling_of nodes number) i.item). inr
    (record { item = i.item; listed = c; inside = i.inside })) (first_or_later nodes number i.item i.listed))

-- ---- a loop over siblings, and one over items

-- the paragraphs that are still to be made tight stand from a link on
pub record SiblingsLeft (nodes now : List (Node Item)) (first link : Option ℕ) : Type 0 where
  pub makes : MadeTight (λ p. IsInChain nodes first p) (λ p. IsInChain nodes link p) nodes now
  pub inside : (p : ℕ) → IsInChain nodes link p → IsInChain nodes first p
  pub within : IfSome link (λ number. number < length nodes)

-- or in the items from a link on
pub record ItemsLeft (nodes now : List (Node Item)) (list : ℕ) (link : Option ℕ) : Type 0 where
  pub makes : MadeTight (IsInItemOf nodes list) (IsInItemFrom nodes link) nodes now
  pub inside : (p : ℕ) → IsInChain nodes link p → IsInChain nodes (child_of nodes list) p
  pub within : IfSome link (λ number. number < length nodes)

-- a link leads to a node
pub leads_to : (nodes now : List (Node Item)) (link : Option ℕ) (number : ℕ)
    → length now ≡ length nodes → IfSome link (λ j. j < length nodes) → link ≡ Some number → number < length now
leads_to nodes now link number size h e = search (arith, length)

pub sibling_step : (nodes old new : List (Node Item)) (first link next : Option ℕ) (number : ℕ)
    → AreRising (links_of nodes) → SiblingsLeft nodes old first link
    → link ≡ Some number → MakesTight (λ p. p ≡ number) old new → next ≡ sibling_of new number
    → SiblingsLeft nodes new first next × (nodes_from (length nodes) next < nodes_from (length nodes) link)
sibling_step nodes old new first link next number r l e n f = let m = rw e at l.makes in
    let here : (p : ℕ) → IsInChain nodes (Some number) p → IsInChain nodes first p = λ p c. l.inside p (rw e c) in
    let after : next ≡ sibling_of nodes number = f ∙ (n.links false number ∙ l.makes.links false number) in
    let fewer = fewer_nodes nodes number r (leads_to nodes nodes link number refl l.within e) in (
      record {
        makes = rw after (sibling_made nodes old new first number m n here);
        inside = λ p c. here p (later_in number p (rw after at c));
        within = rw after fewer.1;
      },
      rw (after, e) fewer.0,
    )

pub item_step : (nodes old new : List (Node Item)) (list : ℕ) (link next first : Option ℕ) (number : ℕ)
    → AreRising (links_of nodes) → ItemsLeft nodes old list link → link ≡ Some number
    → first ≡ child_of old number → MakesTight (λ p. IsInChain old first p) old new → next ≡ sibling_of new number
    → ItemsLeft nodes new list next × (nodes_from (length nodes) next < nodes_from (length nodes) link)
item_step nodes old new list link next first number r l e below n f = let m = rw e at l.makes in
    let d = rw below at n in
    let here : (p : ℕ) → IsInChain nodes (Some number) p → IsInChain nodes (child_of nodes list) p = λ p c. l.inside p
    (rw e c) in
    let after : next ≡ sibling_of nodes number = f ∙ (n.links false number ∙ l.makes.links false number) in
    let fewer = fewer_nodes nodes number r (leads_to nodes nodes link number refl l.within e) in (
      record {
        makes = rw after (item_made nodes old new list number m d here);
        inside = λ p c. here p (later_in number p (rw after at c));
        within = rw after fewer.1;
      },
      rw (after, e) fewer.0,
    )

-- links still rise
pub rising_still : (S Left : ℕ → Type 0) (nodes now : List (Node Item))
    → MadeTight S Left nodes now → AreRising (links_of nodes) → AreRising (links_of now)
rising_still S Left nodes now m r = search (arith, r.rises, m.links, r.once)

-- nothing is left where a chain ends
pub siblings_done : (nodes now : List (Node Item)) (first link : Option ℕ) → SiblingsLeft nodes now first link
    → ((number : ℕ) → link ≡ Some number → ⊥) → MakesTight (λ p. IsInChain nodes first p) nodes now
siblings_done nodes now first link l none = search (arith, nothing_in, item_at, inr, l.makes.made)

pub items_done : (nodes now : List (Node Item)) (list : ℕ) (link : Option ℕ) → ItemsLeft nodes now list link
    → ((number : ℕ) → link ≡ Some number → ⊥) → MakesTight (IsInItemOf nodes list) nodes now
items_done nodes now list link l none = search (arith, nothing_in, inr)

-- at first all of a list's are left
pub items_left : (nodes : List (Node Item)) (list : ℕ) (link : Option ℕ)
    → link ≡ child_of nodes list → IfSome link (λ j. j < length nodes) → ItemsLeft nodes nodes list link
items_left nodes list link e within = search (arith, inl)

-- ---- steps

-- some are made tight, and then some more
pub tightens_on : (from : ℕ) (a b c : Arena Item) → Tightens from a b → Tightens from b c → Tightens from a c
tightens_on from a b c first none_tight = first
tightens_on from a b c first (one_tight tree number before after low p) =
    one_tight tree number (tightens_on from a b tree first before) after low p

-- a link leads after its number
pub next_after : (nodes : List (Node Item)) → AreRising (links_of nodes)
    → (d : Bool) (i low : ℕ) → low ≤ i → IfSome (link_of (links_of nodes) d i) (λ j. low ≤ j)
next_after nodes r d i low h = if_some (link_of (links_of nodes) d i) (λ j. low ≤ j)
    (λ j e. let q = (r.rises d i j e).0 in omega (arith, q, h))

-- ---- tight lists, open and closed

-- ---- bodies

-- a tight paragraph, by its body
is_tight : (b : ItemBody) → is_tight_paragraph b ≡ true → b ≡ body.TightParagraph
is_tight b h = grind (arith)

-- a test has one outcome
pub not_both : {b : Bool} → b ≡ true → b ≡ false → ⊥
not_both t f = let e : true ≡ false = sym t ∙ f in cc (e)

-- ---- chains lead to ever larger numbers

-- a link leads after its number
link_after_item : (nodes : List (Node Item)) → AreRising (links_of nodes)
    → (d : Bool) (i low : ℕ) → low ≤ i → IfSome (link_of (links_of nodes) d i) (λ j. low < j)
link_after_item nodes r d i low h = if_some (link_of (links_of nodes) d i) (λ j. low < j)
    (λ j e. let q = (r.rises d i j e).0 in omega (arith, q, h))

chain_after : (nodes : List (Node Item)) → AreRising (links_of nodes)
    → (low : ℕ) (l : Option ℕ) (p : ℕ) → IfSome l (λ j. low < j) → IsInChain nodes l p → low < p
chain_after nodes r low l p h (first_of _) = h
chain_after nodes r low l p h (later_in q _ c) =
    chain_after nodes r low (sibling_of nodes q) p (link_after_item nodes r false q low (omega (arith, h))) c

-- the items of a list stand after it, and what is in them after these
items_after_item : (nodes : List (Node Item))
    → AreRising (links_of nodes) → (list item : ℕ) → IsInChain nodes (child_of nodes list) item → list < item
items_after_item nodes r list item c =
    chain_after nodes r list (child_of nodes list) item (link_after_item nodes r true list list (omega arith)) c

pub inside_after : (nodes : List (Node Item))
    → AreRising (links_of nodes) → (list p : ℕ) → IsInItemOf nodes list p → list < p
inside_after nodes r list p i = search (arith, items_after_item, i.item, i.listed, i.inside)

-- what a link leads to is a node
link_within : (nodes : List (Node Item))
    → AreRising (links_of nodes) → (d : Bool) (i : ℕ) → IfSome (link_of (links_of nodes) d i) (λ j. j < length nodes)
link_within nodes r d i = if_some (link_of (links_of nodes) d i) (λ j. j < length nodes) (λ j e. (r.rises d i j e).1)

chain_within : (nodes : List (Node Item)) → AreRising (links_of nodes)
    → (l : Option ℕ) (p : ℕ) → IfSome l (λ j. j < length nodes) → IsInChain nodes l p → p < length nodes
chain_within nodes r l p h (first_of _) = h
chain_within nodes r l p h (later_in q _ c) =
    chain_within nodes r (sibling_of nodes q) p (link_within nodes r false q) c

-- ---- nodes that are open

-- no node between a closed list and its end is open
not_open_inside : (list end p : ℕ) (spine : List ℕ)
    → AllByRecursion (λ s. (s < list) ⊎ (end ≤ s)) spine → list ≤ p → p < end → IsNotOpen spine p
not_open_inside list end p spine around low high = search (arith, All-weaker)

-- what holds of 0 and of all numbers of a spine holds of the innermost
innermost_has : (P : ℕ → Type 0) → P 0 → (spine : List ℕ) → AllByRecursion P spine → P (innermost spine)
innermost_has P here [] a = here
innermost_has P here (s ∷ []) a = a.0
innermost_has P here (s ∷ t ∷ spine) a = innermost_has P here (t ∷ spine) a.1

-- nothing is appended inside a closed list
place_outside : (nodes : List (Node Item)) (spine : List ℕ) (cursor : Option ℕ) (list : ℕ)
    → 0 < list → (c : IsClosed nodes spine cursor list) → (d : Bool) (i : ℕ)
    → list ≤ i → i < c.end → (d ≡ false → list < i) → (d ≡ place_down cursor) × (i ≡ place_at spine cursor) → ⊥
place_outside nodes spine cursor list h1 c d i h2 h3 h4 h5 = grind (arith, innermost, innermost_has)

-- ---- an append

-- what is in a chain was in it where nothing was appended after one of its numbers
chain_back : (old new : List (Node Item)) (down : Bool) (at : ℕ) (x : Item)
    → Grows old new down at x → (l now : Option ℕ) (p : ℕ)
    → now ≡ l → ((q : ℕ) → IsInChain old l q → (false ≡ down) × (q ≡ at) → ⊥) → IsInChain new now p → IsInChain old l p
chain_back old new down at x g l now p e away (first_of _) = rw (← e) (first_of p)
chain_back old new down at x g l now p e away (later_in q _ c) =
    let same : sibling_of new q ≡ sibling_of old q = g.other_links false q (away q (rw (← e) (first_of q))) in
    rw (← e) (later_in q p (chain_back old new down at x g (sibling_of old q) (sibling_of new q) p same
    (λ r i. away r (rw (← e) (later_in q r i))) c))

-- a link that leads into a chain stays
link_stays : (old new : List (Node Item)) (down : Bool) (at : ℕ) (x : Item)
    → Grows old new down at x → link_of (links_of old) down at ≡ None → (d : Bool) (i p : ℕ)
    → IsInChain old (link_of (links_of old) d i) p → link_of (links_of new) d i ≡ link_of (links_of old) d i
link_stays old new down at x g free d i p c = search (arith, nothing_in, link_of, links_of, same_place, g.other_links)

-- what was in a chain is in it
chain_on : (old new : List (Node Item)) (down : Bool) (at : ℕ) (x : Item) → Grows old new down at x
    → link_of (links_of old) down at ≡ None → (l : Option ℕ) (p : ℕ) → IsInChain old l p → IsInChain new l p
chain_on old new down at x g free l p (first_of _) = first_of p
chain_on old new down at x g free l p (later_in q _ c) = later_in q p
    (rw (link_stays old new down at x g free false q p c) (chain_on old new down at x g free (sibling_of old q) p c))

item_on : (old new : List (Node Item)) (down : Bool) (at : ℕ) (x : Item) → Grows old new down at x
    → link_of (links_of old) down at ≡ None → (list p : ℕ) → IsInItemOf old list p → IsInItemOf new list p
item_on old new down at x g free list p i = record {
  item = i.item;
  listed = rw (link_stays old new down at x g free true list i.item i.listed)
      (chain_on old new down at x g free (child_of old list) i.item i.listed);
  inside = rw (link_stays old new down at x g free true i.item p i.inside)
      (chain_on old new down at x g free (child_of old i.item) p i.inside);
}

-- a closed list holds what it held
record HoldsNoMore (old new : List (Node Item)) (list : ℕ) : Type 0 where
  pub items : (item : ℕ) → IsInChain new (child_of new list) item → IsInChain old (child_of old list) item
  pub inside : (p : ℕ) → IsInItemOf new list p → IsInItemOf old list p

holds_no_more : (old new : List (Node Item)) (spine : List ℕ) (cursor : Option ℕ) (x : Item) (list : ℕ)
    → AreRising (links_of old) → Grows old new (place_down cursor) (place_at spine cursor) x
    → 0 < list → IsClosed old spine cursor list → HoldsNoMore old new list
holds_no_more old new spine cursor x list r g positive c = record {
  items = items;
  inside = λ p i. let listed = items i.item i.listed in
      let low = items_after_item old r list i.item listed in
      let high = c.items i.item listed in
      let same : child_of new i.item ≡ child_of old i.item = g.other_links true i.item
      (place_outside old spine cursor list positive c true i.item (omega (arith, low)) high (λ e. low)) in
      record {
        item = i.item;
        listed = listed;
        inside = chain_back old new
            (place_down cursor) (place_at spine cursor) x g (child_of old i.item) (child_of new i.item) p same
            (λ q k e. let inside : IsInItemOf old list q = record { item = i.item; listed = listed; inside = k } in
            let after = inside_after old r list q inside in
            place_outside old spine cursor list positive c false q (omega (arith, after)) (c.inside q inside)
            (λ z. after) e) i.inside;
      };
}
  where
    items : (item : ℕ) → IsInChain new (child_of new list) item → IsInChain old (child_of old list) item
    items item k = let low = c.low in
        let same : child_of new list ≡ child_of old list = g.other_links true list
        (place_outside old spine cursor list positive c true list (omega arith) low (λ e. cc (e))) in
        chain_back old new (place_down cursor) (place_at spine cursor) x g
        (child_of old list) (child_of new list) item same (λ q i e. let after = items_after_item old r list q i in
        place_outside old spine cursor list positive c false q (omega (arith, after)) (c.items q i) (λ z. after) e) k

-- a number after all nodes holds no tight list
tight_within : (nodes : List (Node Item)) (list : ℕ)
    → is_tight_list (item_at nodes list).body ≡ true → list < length nodes
tight_within nodes list t = search (arith, not_both, item_beyond, cases_lt)

-- nor does the root
tight_positive : (nodes : List (Node Item)) (list : ℕ)
    → (item_at nodes 0).body ≡ body.Root → is_tight_list (item_at nodes list).body ≡ true → 0 < list
tight_positive nodes list h1 h2 = grind (arith, not_both)

-- the numbers that were closed stay so where the new node is the only one that may be open or in focus now
record OpensOnly (n : ℕ) (few many : List ℕ) (cursor : Option ℕ) : Type 0 where
  pub was : (list : ℕ) → IsNotOpen many list → IsNotOpen few list
  pub is : (list : ℕ) → list < n → IsNotOpen few list → IsNotOpen many list
  pub around : (list end : ℕ)
      → end ≤ n → AllByRecursion (λ s. (s < list) ⊎ (end ≤ s)) few → AllByRecursion (λ s. (s < list) ⊎ (end ≤ s)) many
  pub focus : (list end : ℕ) → end ≤ n → IfSome cursor (λ c. (c ≤ list) ⊎ (end ≤ c))

-- with a new item that is no tight paragraph
lists_more : (old new : List (Node Item)) (spine many : List ℕ) (cursor now : Option ℕ) (x : Item)
    → AreRising (links_of old)
    → (item_at old 0).body ≡ body.Root → Grows old new (place_down cursor) (place_at spine cursor) x
    → link_of (links_of old) (place_down cursor) (place_at spine cursor) ≡ None
    → ListsAreTight (record { nodes = old; spine = spine; cursor = cursor }) → is_tight_paragraph x.body ≡ false
    → OpensOnly (length old) spine many now → (IsNotOpen many (length old) → IsClosed new many now (length old))
    → ListsAreTight (record { nodes = new; spine = many; cursor = now })
lists_more old new spine many cursor now x r root g free k loose opens last = record {
  lists = λ list t o. ⊎_elim (λ (e : list ≡ n). rw e (last (rw e at o)))
      (λ (e : list ≡ n → ⊥). let c = k.lists list (rw (same list e) at t) (opens.was list o) in
      let no_more = holds_no_more old new spine cursor x list r g
      (tight_positive old list root (rw (same list e) at t)) c in
      let high : c.end ≤ length new = omega (arith, c.high, g.size) in
      record {
        end = c.end;
        low = c.low;
        high = high;
        around = opens.around list c.end c.high c.around;
        focus = opens.focus list c.end c.high;
        items = λ item i. c.items item (no_more.items item i);
        inside = λ p i. c.inside p (no_more.inside p i);
        tight = search (arith, same, c.inside, no_more.inside, c.tight, c.high);
      }) (same_or_not list n);
  only = λ p q. ⊎_elim (λ (e : p ≡ n). absurd (not_both (ap is_tight_paragraph q) (rw (e, g.new_item) loose)))
      (λ (e : p ≡ n → ⊥). let w = k.only p (rw (same p e) at q) in
      let low = tight_within old w.list w.tight in
      record {
        list = w.list;
        tight = rw (same w.list (λ z. omega (arith, z, low))) w.tight;
        closed = opens.is w.list low w.closed;
        inside = item_on old new (place_down cursor) (place_at spine cursor) x g free w.list p w.inside;
      }) (same_or_not p n);
}
  where
    n : ℕ
    n = length old

    same : (i : ℕ) → (i ≡ n → ⊥) → item_at new i ≡ item_at old i
    same i e = same_item old new (place_down cursor) (place_at spine cursor) x g i e

-- the new node has no links
new_alone : (old new : List (Node Item)) (down : Bool) (at : ℕ) (x : Item) → Grows old new down at x
    → AreRising (links_of new) → (l : Option ℕ) (p : ℕ) → l ≡ child_of new (length old) → IsInChain new l p → ⊥
new_alone old new down at x g r l p e c = let low = items_after_item new r (length old) p (rw e at c) in
    let high = chain_within new r l p (rw e (link_within new r true (length old))) c in
    omega (arith, low, high, g.size)

-- an item is appended
pub lists_appended : (old new : List (Node Item)) (spine : List ℕ) (cursor : Option ℕ) (x : Item)
    → AreRising (links_of old) → AreRising (links_of new) → (item_at old 0).body ≡ body.Root
    → AllByRecursion (λ s. s < length old) spine → Grows old new (place_down cursor) (place_at spine cursor) x
    → link_of (links_of old) (place_down cursor) (place_at spine cursor) ≡ None
    → ListsAreTight (record { nodes = old; spine = spine; cursor = cursor }) → is_tight_paragraph x.body ≡ false
    → ListsAreTight (record { nodes = new; spine = spine; cursor = Some (length old) })
lists_appended old new spine cursor x r s root below g free k loose = let n = length old in
    let none : (p : ℕ) → IsInChain new (child_of new n) p → ⊥ = λ p c.
    new_alone old new (place_down cursor) (place_at spine cursor) x g s (child_of new n) p refl c in
    lists_more old new spine spine cursor (Some n) x r root g free k loose (record {
      was = λ list o. o;
      is = λ list l o. o;
      around = λ list end h a. a;
      focus = λ list end h. inr h;
    }) (λ o. record {
      end = suc n;
      low = omega arith;
      high = omega (arith, g.size);
      around = All-weaker (λ t. t < n) (λ t. (t < n) ⊎ (suc n ≤ t)) (λ t h. inl h) spine below;
      focus = inl (omega arith);
      items = λ item c. absurd (none item c);
      inside = λ p i. absurd (none i.item i.listed);
      tight = λ p i q. none i.item i.listed;
    })

-- a block is appended and entered
pub lists_entered : (old new : List (Node Item)) (spine : List ℕ) (cursor : Option ℕ) (x : Item)
    → AreRising (links_of old)
    → (item_at old 0).body ≡ body.Root → Grows old new (place_down cursor) (place_at spine cursor) x
    → link_of (links_of old) (place_down cursor) (place_at spine cursor) ≡ None
    → ListsAreTight (record { nodes = old; spine = spine; cursor = cursor }) → is_tight_paragraph x.body ≡ false
    → ListsAreTight (record { nodes = new; spine = spine ++ length old ∷ []; cursor = None })
lists_entered old new spine cursor x r root g free k loose = let n = length old in
    lists_more old new spine (spine ++ n ∷ []) cursor None x r root g free k loose (record {
      was = λ list o. All-front (λ s. s ≡ list → ⊥) spine n o;
      is = λ list l o. All-snoc (λ s. s ≡ list → ⊥) spine n o (λ e. omega (arith, e, l));
      around = λ list end h a. All-snoc (λ s. (s < list) ⊎ (end ≤ s)) spine n a (inr h);
      focus = λ list end h. tt;
    }) (λ o. absurd (All-last (λ s. s ≡ n → ⊥) spine n o refl))

-- ---- a written item

-- an item is written that is no tight paragraph: into an open node, or where no list or paragraph stands or stood
pub lists_written : (old new : List (Node Item)) (spine : List ℕ) (cursor : Option ℕ) (at : ℕ) (x : Item)
    → AreRising (links_of old)
    → Writes old new at x → ListsAreTight (record { nodes = old; spine = spine; cursor = cursor })
    → is_tight_paragraph x.body ≡ false → (IsNotOpen spine at
    → (is_tight_list (item_at old at).body ≡ false) × (is_tight_list x.body ≡ false) × (x.body ≡ body.Paragraph → ⊥))
    → ListsAreTight (record { nodes = new; spine = spine; cursor = cursor })
lists_written old new spine cursor at x r w k loose plain = record {
  lists = λ list t o. ⊎_elim (λ (e : list ≡ at). absurd (not_both t (rw (e, w.new_item) (plain (rw e at o)).1)))
      (λ (e : list ≡ at → ⊥). let c = k.lists list (rw (w.old_items list e) at t) o in
      let high : c.end ≤ length new = omega (arith, c.high, w.size) in
      record {
        end = c.end;
        low = c.low;
        high = high;
        around = c.around;
        focus = c.focus;
        items = λ item i. c.items item (items list item i);
        inside = λ p i. c.inside p (inside list p i);
        tight = search (arith, inside_after, inside, not_open_inside, plain, same_or_not);
      }) (same_or_not list at);
  only = λ p q. ⊎_elim (λ (e : p ≡ at). absurd (not_both (ap is_tight_paragraph q) (rw (e, w.new_item) loose)))
      (λ (e : p ≡ at → ⊥). let o = k.only p (rw (w.old_items p e) at q) in
      record {
        list = o.list;
        tight = ⊎_elim (λ (z : o.list ≡ at). absurd (not_both o.tight (rw z (plain (rw z at o.closed)).0)))
            (λ (z : o.list ≡ at → ⊥). rw (w.old_items o.list z) o.tight) (same_or_not o.list at);
        closed = o.closed;
        inside = item_same old new w.all_links o.list p o.inside;
      }) (same_or_not p at);
}
  where
    back : (d : Bool) (i : ℕ) → link_of (links_of old) d i ≡ link_of (links_of new) d i
    back d i = sym (w.all_links d i)

    items : (list item : ℕ) → IsInChain new (child_of new list) item → IsInChain old (child_of old list) item
    items list item i = rw (← w.all_links true list) (chain_same new old back (child_of new list) item i)

    inside : (list p : ℕ) → IsInItemOf new list p → IsInItemOf old list p
    inside list p i = item_same new old back list p i

-- an open block is no tight paragraph
pub open_is_loose : (nodes : List (Node Item)) (spine : List ℕ) (cursor : Option ℕ) (n : ℕ)
    → AreRising (links_of nodes) → ListsAreTight (record { nodes = nodes; spine = spine; cursor = cursor })
    → (IsNotOpen spine n → ⊥) → is_tight_paragraph (item_at nodes n).body ≡ false
open_is_loose nodes spine cursor n h1 h2 h3 =
    grind (arith, is_tight_paragraph, item_at, is_tight, inside_after, not_open_inside)

-- ---- a block is closed

-- the same, of all lists but one
pub record OthersAreTight (number : ℕ) (tree : Arena Item) : Type 0 where
  pub lists : (list : ℕ) → (list ≡ number → ⊥) → is_tight_list (item_at tree.nodes list).body ≡ true
      → IsNotOpen tree.spine list → IsClosed tree.nodes tree.spine tree.cursor list
  pub only : (p : ℕ) → (item_at tree.nodes p).body ≡ body.TightParagraph → IsInClosedList tree.nodes tree.spine p

-- the innermost open block is left
pub lists_left : (nodes : List (Node Item)) (spine : List ℕ) (n : ℕ) (cursor : Option ℕ)
    → ListsAreTight (record { nodes = nodes; spine = spine ++ n ∷ []; cursor = cursor })
    → OthersAreTight n (record { nodes = nodes; spine = spine; cursor = Some n })
lists_left nodes spine n cursor k = record {
  lists = λ list e t o. let c = k.lists list t (All-snoc (λ s. s ≡ list → ⊥) spine n o (λ z. e (sym z))) in
      let apart : (n < list) ⊎ (c.end ≤ n) = All-last (λ s. (s < list) ⊎ (c.end ≤ s)) spine n c.around in
      record {
        end = c.end;
        low = c.low;
        high = c.high;
        around = All-front (λ s. (s < list) ⊎ (c.end ≤ s)) spine n c.around;
        focus = grind (arith, apart);
        items = c.items;
        inside = c.inside;
        tight = c.tight;
      };
  only = λ p q. let w = k.only p q in
      record {
        list = w.list;
        tight = w.tight;
        closed = All-front (λ s. s ≡ w.list → ⊥) spine n w.closed;
        inside = w.inside;
      };
}

-- paragraphs are made tight in the same nodes, wherever the arena stands
pub tightens_stays : (from : ℕ) (old new : Arena Item)
    → Tightens from old new → (new.spine ≡ old.spine) × (new.cursor ≡ old.cursor)
tightens_stays from old new none_tight = (refl, refl)
tightens_stays from old new (one_tight tree number before low high p) = tightens_stays from old tree before

-- a list that is made tight is closed
list_closed : (old new : List (Node Item)) (spine : List ℕ) (n : ℕ) → AreRising (links_of old) → n < length old
    → AllByRecursion (λ s. s < n) spine → MakesTight (IsInItemOf old n) old new → IsClosed new spine (Some n) n
list_closed old new spine n r low below m = record {
  end = length old;
  low = low;
  high = omega (arith, m.size);
  around = All-weaker (λ s. s < n) (λ s. (s < n) ⊎ (length old ≤ s)) (λ s h. inl h) spine below;
  focus = inl (omega arith);
  items = λ item i. chain_within old r (child_of old n) item (link_within old r true n)
      (rw (← m.links true n) (chain_same new old (λ d i. sym (m.links d i)) (child_of new n) item i));
  inside = λ p i. let j = back p i in
      chain_within old r (child_of old j.item) p (link_within old r true j.item) j.inside;
  tight = λ p i q. ⊎_elim (λ (no : ⊥). no) (λ (h : (item_at new p).body ≡ body.Paragraph → ⊥). h q)
      (m.made p (back p i));
}
  where
    back : (p : ℕ) → IsInItemOf new n p → IsInItemOf old n p
    back p i = item_same new old (λ d i. sym (m.links d i)) n p i

-- and the other lists are as they were
others_closed : (S : ℕ → Type 0) (old new : List (Node Item)) (spine : List ℕ) (cursor : Option ℕ) (list : ℕ)
    → MakesTight S old new → IsClosed old spine cursor list → IsClosed new spine cursor list
others_closed S old new spine cursor list m c = record {
  end = c.end;
  low = c.low;
  high = let high = c.high in omega (arith, high, m.size);
  around = c.around;
  focus = c.focus;
  items = λ item i. c.items item
      (rw (← m.links true list) (chain_same new old (λ d i. sym (m.links d i)) (child_of new list) item i));
  inside = λ p i. c.inside p (back p i);
  tight = search (arith, back, paragraph_or_tight, c.tight, m.kept);
}
  where
    back : (p : ℕ) → IsInItemOf new list p → IsInItemOf old list p
    back p i = item_same new old (λ d i. sym (m.links d i)) list p i

-- the list that was left is made tight, if it is a tight list
pub lists_closed : (old new : Arena Item) (n : ℕ)
    → AreRising (links_of old.nodes) → n < length old.nodes → AllByRecursion (λ s. s < n) old.spine
    → old.cursor ≡ Some n → OthersAreTight n old → TightensList n old new → ListsAreTight new
lists_closed old new n r low below at k t = of_test (is_tight_list (item_at old.nodes n).body) refl
  where
    kept : is_tight_list (item_at old.nodes n).body ≡ true → MakesTight (IsInItemOf old.nodes n) old.nodes new.nodes
        → ListsAreTight (record { nodes = new.nodes; spine = old.spine; cursor = old.cursor })
    kept e m = record {
      lists = λ list h o. ⊎_elim (search (arith, list_closed, new.nodes, old.spine, old.cursor, old.nodes))
          (λ (z : list ≡ n → ⊥). others_closed (IsInItemOf old.nodes n) old.nodes new.nodes old.spine old.cursor list m
          (k.lists list z (sym (list_same (IsInItemOf old.nodes n) (λ p. ⊥) old.nodes new.nodes list m) ∙ h) o))
          (same_or_not list n);
      only = λ p q. ⊎_elim (λ (z : item_at new.nodes p ≡ item_at old.nodes p). let w = k.only p
          (ap (λ (y : Item). y.body) (sym z) ∙ q) in record {
            list = w.list;
            tight = list_same (IsInItemOf old.nodes n) (λ p. ⊥) old.nodes new.nodes w.list m ∙ w.tight;
            closed = w.closed;
            inside = item_same old.nodes new.nodes m.links w.list p w.inside;
          }) (λ (z : Tightened (IsInItemOf old.nodes n) old.nodes new.nodes p). record {
            list = n;
            tight = list_same (IsInItemOf old.nodes n) (λ p. ⊥) old.nodes new.nodes n m ∙ e;
            closed = All-weaker (λ s. s < n) (λ s. s ≡ n → ⊥) (λ s h y. omega (arith, h, y)) old.spine below;
            inside = item_same old.nodes new.nodes m.links n p z.inside;
          }) (m.kept p);
    }

    of_test : (b : Bool) → is_tight_list (item_at old.nodes n).body ≡ b → ListsAreTight new
    of_test true e = search (arith, tightens_stays, kept, t.steps, new.nodes, new.cursor, old.spine, t.makes)
    of_test false e = search (arith, not_both, t.same, k.lists, old.nodes, k.only)

-- where no block is open, the paragraphs of tight lists are tight, and no others
pub tight_in_tight_lists : (tree : Arena Item) → tree.spine ≡ [] → ListsAreTight tree → TightInTightLists tree.nodes
tight_in_tight_lists tree h1 h2 = grind (arith, tight)
