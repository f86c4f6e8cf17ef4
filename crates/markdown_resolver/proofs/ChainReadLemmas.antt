-- A chain is read in place, from its first node on: what is true of what was read and of what is left, item by item,
-- and that the rules and the blocks above the chain stay the same.
use Rattle.std.proofs.Common.{◌≡◌, ℕ, Bool, List, [], ◌∷◌, Option, Some, None, refl, sym, ap, ap₂, ◌∙◌, map, subst}
use Rattle.std.proofs.Math.Path.{fun_ext}
use Rattle.std.specs.Prelude.{is_some}
use Rattle.markdown_base.specs.Arena.{Arena}
use Rattle.markdown_base.specs.BlockTree.{item_at}
use Rattle.markdown_base.specs.Questions.{Question, Answer}
use Rattle.markdown_base.specs.declared.item.Item.{Item}
use Rattle.markdown_base.specs.declared.node.Node.{Node}
use Rattle.markdown_base.specs.declared.syntax.Syntax.{Syntax}
use Rattle.markdown_brackets.specs.LeftList.{Entry}
use Rattle.markdown_brackets.specs.Openers.{Waiting}
use Rattle.markdown_brackets.specs.declared.spent_ends.SpentEnds.{SpentEnds}
use Rattle.markdown_document.specs.EnclosingBlocks.{EnclosingBlocks, above_at, inside_all, inside_item, no_blocks}
use Rattle.markdown_document.specs.Document.{no_notes}
use Rattle.markdown_document.specs.Setting.{Setting, by_label, rules_from, setting_of}
use Rattle.markdown_document.specs.ResolverStates.{resolver_state, above_cursor}
use Rattle.markdown_document.specs.Tables.{Tables, tables_of}
use Rattle.markdown_document.proofs.CallbackLemmas.{Asks-some}
use Rattle.markdown_base.specs.Syntax.{gfm_footnotes}
use Rattle.markdown_spans.specs.ContainerPrefix.{prefix_length}
use Rattle.markdown_resolver.specs.ChainPlace.{CanReadItem, CanReadOn, IsPlaceOf}
use Rattle.markdown_resolver.specs.Chains.{AreAbove, CanResolve, ChangesChain, ResolvesFrom}
use Rattle.markdown_resolver.specs.PassOne.{pass_one}
use Rattle.markdown_resolver.specs.ReadOn.{AreSpent, ReadsOn, StopsInPassOne, StopsOn}
use Rattle.markdown_document.specs.declared.chain_place.ChainPlace.{ChainPlace}
use Rattle.markdown_resolver.proofs.ReadOnLemmas.{reads_on_all, reads_on_none, reads_on_twice, stops_later}
use Rattle.markdown_resolver.proofs.ReadOnLemmas.{stops_pass_one}
use Rattle.markdown_resolver.proofs.StandsToLemmas.{above_changed, above_rest, stands_rest}
use Rattle.markdown_defs.specs.Allocations.{Allocated}
use Rattle.markdown_defs.specs.Footnotes.{footnote_at}
use Rattle.markdown_resolver.specs.Unread.{IsUnread}
use Rattle.markdown_document.specs.Places.{trees_from}

-- the setting of a chain stays where its text, the syntax, the reference definitions, the names of its footnotes, and
-- whether there is a callback stay
pub same_setting : (text text' : List ℕ) (syntax syntax' : Syntax) (held held' : Allocated) (asks asks' : Bool)
    → text' ≡ text → syntax' ≡ syntax → held'.refdefs ≡ held.refdefs
    → ((name : List ℕ) → is_some (footnote_at held'.footdefs name) ≡ is_some (footnote_at held.footdefs name)) → asks'
    ≡ asks → setting_of text' (rules_from syntax' held' asks') ≡ setting_of text (rules_from syntax held asks)
same_setting text text' syntax syntax' held held' asks asks' of_text of_options definitions footnotes same =
    let names : (λ name. is_some (footnote_at held'.footdefs name)) ≡ (λ name. is_some (footnote_at held.footdefs name))
    = fun_ext footnotes
    in
    rw (of_text, of_options, definitions, same) (ap (λ (names : List ℕ → Bool). let x : Setting =
    record {
      text = text;
      rules = record { syntax = syntax; definitions = by_label held.refdefs; is_footnote = names; asks = asks };
    } in x) names)

-- the items of the nodes above a chain stay where it is changed
pub items_above : {source : List ℕ} {l : Option ℕ} {old new : List (Node Item)} {tables tables' : Tables}
    (spine : List ℕ) → ChangesChain source l old new tables tables' → AreAbove source old l spine
    → map (item_at new) spine ≡ map (item_at old) spine
items_above [] c above = refl
items_above (n ∷ deeper) c above =
    ap₂ (λ item items. item ∷ items) (c.outside n above.0.within above.0.apart).item (items_above deeper c above.1)

inside_changed : (source : List ℕ) (l : Option ℕ) (old new : List (Node Item)) (tables tables' : Tables)
    (spine : List ℕ) (outer : EnclosingBlocks)
    → ChangesChain source l old new tables tables' → AreAbove source old l spine → inside_all new spine outer
    ≡ inside_all old spine outer
inside_changed source l old new tables tables' [] outer c above = refl
inside_changed source l old new tables tables' (n ∷ deeper) outer c above =
    let at = above.0 in
    ap (λ (item : Item). inside_all new deeper (inside_item item outer)) (c.outside n at.within at.apart).item
    ∙ inside_changed source l old new tables tables' deeper (inside_item (item_at old n) outer) c above.1

-- where a chain was read up to an item, that item can be read
pub can_read_item : {place : ChainPlace} {tree : Arena Item} {held : Allocated} {brackets wikilinks : List Waiting}
    {first ix : ℕ} {left : List (Entry ℕ)}
    → CanReadOn place tree held brackets wikilinks first ix left → CanReadItem place tree held ix
can_read_item {place} {tree} {held} {brackets} {wikilinks} {first} {ix} {left} can = record {
  stands = can.stands;
  ready = stands_rest can.so_far;
  unread = can.unread;
  above = above_rest place.text.now (tables_of held) tree.nodes first (Some ix) left tree.spine can.so_far can.above;
}

-- a chain was read in place from the node `first` up to a link
pub record ReadsUpTo {C : Type 0} (step : C → Question → Option Answer → C → Type 0) (s : Setting) (first : ℕ)
    (at : Option ℕ) (old now : Arena Item) (held held' : Allocated) (limit limit' : ℕ)
    (callback callback' : Option C) (spent : SpentEnds) (brackets wikilinks : List Waiting) : Type 0 where
  pub tree : now ≡ record old { nodes = now.nodes }
  pub begun : SpentEnds
  pub none : AreSpent begun []
  pub reads : ReadsOn step s (above_cursor s.text old) first (Some first) at [] (resolver_state old held limit callback)
      (resolver_state now held' limit' callback') begun spent brackets wikilinks
  pub unread : IsUnread (trees_from s.text (tables_of held') now.nodes at)

-- none of it was read yet
pub up_to_none : {C : Type 0} (step : C → Question → Option Answer → C → Type 0) (s : Setting) (first : ℕ)
    (old : Arena Item) (held : Allocated) (limit : ℕ) (callback : Option C) (spent : SpentEnds)
    (brackets wikilinks : List Waiting) → CanResolve s.text (tables_of held) old.nodes (Some first)
    → IsUnread (trees_from s.text (tables_of held) old.nodes (Some first)) → AreSpent spent [] → brackets ≡ []
    → wikilinks ≡ []
    → ReadsUpTo step s first (Some first) old old held held limit limit callback callback spent brackets wikilinks
up_to_none step s first old held limit callback spent brackets wikilinks ready unread none no_brackets no_wikilinks =
    let at = resolver_state old held limit callback in
    let above = above_cursor s.text old in
    record {
      tree = refl;
      begun = spent;
      none = none;
      reads = rw (no_brackets, no_wikilinks) (reads_on_none step s above first at spent ready);
      unread = unread;
    }

module _ {C : Type 0} {step : C → Question → Option Answer → C → Type 0} {s : Setting} {first : ℕ} {at : Option ℕ}
    {old now : Arena Item} {held held' : Allocated} {limit limit' : ℕ}
    {callback callback' : Option C} {spent : SpentEnds} {brackets wikilinks : List Waiting}
    (r : ReadsUpTo step s first at old now held held' limit limit' callback callback' spent brackets wikilinks)
    (is_above : AreAbove s.text old.nodes (Some first) old.spine) where
  same_spine : now.spine ≡ old.spine
  same_spine = ap (λ (t : Arena Item). t.spine) r.tree

  -- the same blocks are above it
  pub still_above : AreAbove s.text now.nodes (Some first) now.spine
  still_above = rw same_spine (above_changed s.text (Some first) old.nodes now.nodes (tables_of held) (tables_of held')
      old.spine r.reads.changes is_above)

  pub same_above : above_cursor s.text now ≡ above_cursor s.text old
  same_above =
      ap (λ (spine : List ℕ). above_at s.text now.nodes spine) same_spine
      ∙ inside_changed s.text (Some first) old.nodes now.nodes (tables_of held) (tables_of held') old.spine
      (no_blocks s.text) r.reads.changes is_above

  -- there is still a callback, or still none
  pub still_asks : is_some callback' ≡ is_some callback
  still_asks = sym (Asks-some step callback callback' r.reads.questions r.reads.answers r.reads.asked)

  -- what is left can be read
  pub can_read_on : (place : ChainPlace) (ix : ℕ) → at ≡ Some ix → place.text.now ≡ s.text → IsPlaceOf place old
      → CanReadOn place now held' brackets wikilinks first ix r.reads.left_then
  can_read_on place ix is text stands =
      let above : above_cursor place.text.now now ≡ above_cursor place.text.now old = rw text same_above in
      record {
        stands = record {
          block_end = stands.block_end ∙ ap (λ (a : EnclosingBlocks). a.block_end) (sym above);
          in_table = stands.in_table ∙ ap (λ (a : EnclosingBlocks). a.in_table) (sym above);
          containers = λ bytes. stands.containers bytes ∙ ap (λ (a : EnclosingBlocks).
              prefix_length (gfm_footnotes place.syntax) a.bodies bytes) (sym above);
          boundary = stands.boundary;
          utf8 = stands.utf8;
        };
        above = rw text still_above;
        so_far = rw (text, ← is) r.reads.stands;
        unread = rw (text, ← is) r.unread;
        openers = r.reads.held;
      }

  -- more was read
  pub up_to_more : (s' : Setting) (ix : ℕ) (next : Option ℕ) (new : Arena Item) (held'' : Allocated) (limit'' : ℕ)
      (callback'' : Option C) (spent'' : SpentEnds) (brackets'' wikilinks'' : List Waiting) → s' ≡ s → at ≡ Some ix
      → new ≡ record now { nodes = new.nodes }
      → ReadsOn step s' (above_cursor s'.text now) first (Some ix) next r.reads.left_then
      (resolver_state now held' limit' callback')
      (resolver_state new held'' limit'' callback'') spent spent'' brackets'' wikilinks''
      → (IsUnread (trees_from s'.text (tables_of held') now.nodes (Some ix))
      → IsUnread (trees_from s'.text (tables_of held'') new.nodes next))
      → ReadsUpTo step s first next old new held held'' limit limit'' callback callback'' spent'' brackets'' wikilinks''
  up_to_more s' ix next new held'' limit'' callback'' spent'' brackets'' wikilinks'' same is e reads unread =
      let before = resolver_state old held limit callback in
      let between = resolver_state now held' limit' callback' in
      let after = resolver_state new held'' limit'' callback'' in
      let from : ReadsOn step s' (above_cursor s'.text now) first at next r.reads.left_then between after spent spent''
      brackets'' wikilinks'' =
      subst (λ (l : Option ℕ). ReadsOn step s' (above_cursor s'.text now) first l next r.reads.left_then between after
      spent spent'' brackets'' wikilinks'') (sym is) reads in
      let here : ReadsOn step s (above_cursor s.text now) first at next r.reads.left_then between after spent spent''
      brackets'' wikilinks'' =
      subst (λ (x : Setting). ReadsOn step x (above_cursor x.text now) first at next r.reads.left_then between after
      spent spent'' brackets'' wikilinks'') same from in
      let there = subst (λ (a : EnclosingBlocks). ReadsOn step s a first at next r.reads.left_then between after spent
      spent''
      brackets'' wikilinks'') same_above here in
      record {
        tree = e ∙ ap (λ (t : Arena Item). let u : Arena Item = record t { nodes = new.nodes } in u) r.tree;
        begun = r.begun;
        none = r.none;
        reads = reads_on_twice step s (above_cursor s.text old) first (Some first) at [] before between r.begun spent
            brackets wikilinks r.reads next after spent'' brackets'' wikilinks'' there;
        unread = subst (λ (x : Setting). IsUnread (trees_from x.text (tables_of held'') new.nodes next)) same
            (unread (rw (same, ← is) r.unread));
      }

  -- it was read to its end
  pub up_to_all : at ≡ None → ResolvesFrom step s.text (pass_one s no_notes (above_cursor s.text old)) (Some first)
      (resolver_state old held limit callback) (resolver_state now held' limit' callback')
  up_to_all none =
      let before = resolver_state old held limit callback in
      let after = resolver_state now held' limit' callback' in
      reads_on_all step s (above_cursor s.text old) first before after r.begun spent brackets wikilinks r.none
      (subst (λ (l : Option ℕ). ReadsOn step s (above_cursor s.text old) first (Some first) l [] before after r.begun
      spent brackets wikilinks) none r.reads)

  -- memory was refused to what follows
  pub up_to_stops : (s' : Setting) (ix : ℕ) (callback'' : Option C) → s' ≡ s → at ≡ Some ix
      → StopsOn step s' (above_cursor s'.text now) (Some ix) r.reads.left_then
      (resolver_state now held' limit' callback') spent
      callback'' → StopsInPassOne step s (above_cursor s.text old) first
      (resolver_state old held limit callback) callback''
  up_to_stops s' ix callback'' same is stops =
      let before = resolver_state old held limit callback in
      let between = resolver_state now held' limit' callback' in
      let from : StopsOn step s' (above_cursor s'.text now) at r.reads.left_then between spent callback'' =
      subst (λ (l : Option ℕ). StopsOn step s' (above_cursor s'.text now) l r.reads.left_then between spent callback'')
      (sym is) stops in
      let here : StopsOn step s (above_cursor s.text now) at r.reads.left_then between spent callback'' =
      subst (λ (x : Setting). StopsOn step x (above_cursor x.text now) at r.reads.left_then between spent callback'')
      same from in
      let there = subst (λ (a : EnclosingBlocks). StopsOn step s a at r.reads.left_then between spent callback'')
      same_above here
      in
      stops_pass_one step s (above_cursor s.text old) first before r.begun callback'' r.none
      (stops_later step s (above_cursor s.text old) first (Some first) at [] before between r.begun spent brackets
      wikilinks r.reads callback'' there)
