-- The moves of a walk, over the tree and the tables of a program.
use Rattle.std.proofs.Common.{◌≡◌, ℕ, ◌+◌, ◌<◌, ◌≤◌, false, List, [], ◌∷◌, ◌++◌, Option, Some, None, length, refl}
use Rattle.std.proofs.Common.{arith, Bool, sym, subst, ap, ap₂, ◌∙◌, map}
use Rattle.std.specs.Prelude.{slice_range}
use Rattle.std.proofs.lemmas.List.{length-map, map-append}
use Rattle.markdown_inline.specs.declared.bodies.Visit.TheVariants as visit
use Rattle.markdown_base.specs.Syntax.{commonmark}
use Rattle.markdown_base.specs.Arena.{Arena, child_of, sibling_of}
use Rattle.markdown_base.specs.ArenaForest.{links_of}
use Rattle.markdown_base.specs.BlockTree.{item_at}
use Rattle.markdown_inline.specs.Elements.{Placed, Reading, nothing_read}
use Rattle.markdown_document.specs.Setting.{Rules, Setting, ReferenceState, setting_of}
use Rattle.markdown_base.specs.Event.{EventView, TagView, start, end}
use Rattle.markdown_base.specs.Item.{range_of}
use Rattle.markdown_base.specs.declared.item.Item.{Item}
use Rattle.markdown_base.specs.declared.node.Node.{Node}
use Rattle.markdown_base.specs.declared.tag.TagEnd.{TagEnd}
use Rattle.markdown_base.proofs.ArenaForestLemmas.{opens}
use Rattle.markdown_defs.specs.Allocations.{Allocated}
use Rattle.markdown_inline.specs.Walk.{ended, left_of, end_of_body, tree_left}
use Rattle.markdown_document.specs.Totals.{same}
use Rattle.markdown_document.specs.NamedEntries.{naming, Named}
use Rattle.markdown_inline.specs.WalkTotals.{tree_steps}
use Rattle.markdown_document.specs.PlacedNodes.{IsPlaced}
use Rattle.markdown_inline.specs.Standing.{Stands, named_left}
use Rattle.markdown_document.specs.Document.{Origin, Shape, leaf, enclosed, plain, backslash_break, unresolved}
use Rattle.markdown_document.specs.Document.{shape_of}
use Rattle.markdown_document.specs.Tables.{Tables, tables_of}
use Rattle.markdown_inline.specs.WalkSteps.{TreeStands, HasEnded, Went, PassedBeginning, CanBegin, IsRefused, TakesOnly}
use Rattle.markdown_inline.specs.WalkSteps.{beginning, visit_at, visit_at_shape, events_first, event_of_shape}
use Rattle.markdown_resolver.specs.BlocksAbove.{Above, IsKnownAt, IsKnownOf}
use Rattle.markdown_resolver.proofs.BlocksAboveLemmas.{known_none}
use Rattle.markdown_inline.proofs.TakingLemmas.{leaf_shape, some_leaf, some_tag, plain_shape, visit-shape}
use Rattle.markdown_inline.proofs.TakingLemmas.{takes_nothing}
use Rattle.markdown_inline.proofs.LeftFrameLemmas.{left_framed}
use Rattle.markdown_inline.proofs.WalkLemmas.{Moves, moves_on, moves_past, moves_in, moves_past_in, moves_in_plain}
use Rattle.markdown_inline.proofs.WalkLemmas.{moves_out, left_of-end, steps-some, steps-end, stands-end, AllReach-last}

-- the bytes of an item's range
abbrev pub over : List ℕ → Item → List ℕ
over source item = slice_range source item.start item.end

-- some rules, for what does not depend on the rules of a chain
any_rules : Rules
any_rules = record {
  syntax = commonmark;
  definitions = λ label. None;
  is_footnote = λ name. false;
  asks = false;
}

-- an entry that is taken after a move, and is no longer referred to, changes nothing of what is left
taken_after : (source : List ℕ) (nodes : List (Node Item)) (ix : ℕ) (held held' : Allocated) (m : Option ℕ)
    (deeper : List ℕ) (rules : Rules)
    → TakesOnly (item_at nodes ix).body held held' → ((n : Named) → naming nodes n ix + named_left nodes m deeper n ≤ 1)
    → Stands source (tables_of held) nodes m deeper
    → Stands source (tables_of held') nodes m deeper
    × (left_of (setting_of source rules) (tables_of held') nodes m deeper
    ≡ left_of (setting_of source rules) (tables_of held) nodes m deeper)
taken_after source nodes ix held held' m deeper rules t past w =
    let f = left_framed (setting_of source rules) (tables_of held) (tables_of held') nodes nodes m deeper (omega arith)
    t.longer w
    (λ n l. record { child = refl; next = refl; item = refl })
    (λ n l. t.others n (let x = past n in omega arith)) in
    (f.stands, f.left)

went : (source : List ℕ) (s t : Arena Item) (held held' : Allocated) (ix : ℕ) (m : Option ℕ) (deeper : List ℕ)
    (given : List Placed)
    → s.cursor ≡ Some ix → t ≡ record s { cursor = m; spine = deeper } → TakesOnly (item_at s.nodes ix).body held held'
    → ((n : Named) → naming s.nodes n ix + named_left s.nodes m deeper n ≤ 1)
    → ((rules : Rules) → Moves (setting_of source rules) (tables_of held) s.nodes (Some ix) s.spine m deeper given)
    → Went source s t held held' given
went source s t held held' ix m deeper given a c k past mv =
    rw (c, a) (record {
      stands = (taken_after source s.nodes ix held held' m deeper any_rules k past (mv any_rules).stands).0;
      tables = k.tables;
      left = λ rules state. rw (taken_after source s.nodes ix held held' m deeper rules k past (mv rules).stands).1
          ((mv rules).left state);
      falls = (mv any_rules).falls;
    })

stands_at : (source : List ℕ) (tables : Tables) (s : Arena Item) (l : Option ℕ) (up : List ℕ) → s.cursor ≡ l → s.spine
    ≡ up
    → TreeStands source tables s
    → Stands source tables s.nodes l up
stands_at source tables s l up a b w = rw (← a, ← b) w

-- the node at the cursor exists, and its item is placed
pub cursor_within : (source : List ℕ) (tables : Tables) (s : Arena Item) (ix : ℕ) → TreeStands source tables s
    → s.cursor ≡ Some ix
    → ix < length s.nodes
cursor_within source tables s ix w e
    = (opens (links_of s.nodes) (IsPlaced source tables s.nodes) ix (rw (← e) w.walk.here)).within

pub cursor_placed : (source : List ℕ) (tables : Tables) (s : Arena Item) (ix : ℕ) → TreeStands source tables s
    → s.cursor ≡ Some ix
    → IsPlaced source tables s.nodes ix
cursor_placed source tables s ix w e
    = (opens (links_of s.nodes) (IsPlaced source tables s.nodes) ix (rw (← e) w.walk.here)).holds

-- so do the nodes that were entered
pub spine_within : (source : List ℕ) (tables : Tables) (s : Arena Item) (ix : ℕ) (up : List ℕ)
    → TreeStands source tables s
    → s.spine ≡ up ++ ix ∷ [] → ix < length s.nodes
spine_within source tables s ix up w e
    = (AllReach-last (links_of s.nodes) (IsPlaced source tables s.nodes) up ix (rw (← e) w.walk.above)).0

-- over a node
pub went_on : (source : List ℕ) (s t : Arena Item) (held held' : Allocated) (ix : ℕ) (item : Item) (e : EventView)
    (origins : List Origin) → TreeStands source (tables_of held) s → s.cursor ≡ Some ix → item ≡ item_at s.nodes ix
    → event_of_shape (shape_of (tables_of held) (over source item) item.body) ≡ Some (e, origins)
    → TakesOnly item.body held held'
    → t ≡ record s { cursor = sibling_of s.nodes ix } → Went source s t held held' ((e, range_of item, origins) ∷ [])
went_on source s t held held' ix item e origins w a h sh k c =
    let st = stands_at source (tables_of held) s (Some ix) s.spine a refl w in
    rw h (went source s t held held' ix (sibling_of s.nodes ix) s.spine
    ((e, range_of (item_at s.nodes ix), origins) ∷ []) a c (rw h at k)
    (λ n. moves_past source (tables_of held) s.nodes ix s.spine n st)
    (λ rules. moves_on (setting_of source rules) (tables_of held) s.nodes ix s.spine e origins st (rw h at sh)))

-- into a node
pub went_in : (source : List ℕ) (s t : Arena Item) (held held' : Allocated) (ix : ℕ) (item : Item) (tag : TagView)
    (origins : List Origin) → TreeStands source (tables_of held) s → s.cursor ≡ Some ix → item ≡ item_at s.nodes ix
    → shape_of (tables_of held) (over source item) item.body ≡ enclosed tag origins → TakesOnly item.body held held'
    → t ≡ record s { spine = s.spine ++ ix ∷ []; cursor = child_of s.nodes ix }
    → Went source s t held held' ((start tag, range_of item, origins) ∷ [])
went_in source s t held held' ix item tag origins w a h sh k c =
    let st = stands_at source (tables_of held) s (Some ix) s.spine a refl w in
    rw h (went source s t held held' ix (child_of s.nodes ix) (s.spine ++ ix ∷ [])
    ((start tag, range_of (item_at s.nodes ix), origins) ∷ []) a c
    (rw h at k) (λ n. moves_past_in source (tables_of held) s.nodes ix s.spine n st)
    (λ rules. moves_in (setting_of source rules) (tables_of held) s.nodes ix s.spine tag origins st (rw h at sh)))

pub went_in_plain : (source : List ℕ) (s t : Arena Item) (held held' : Allocated) (ix : ℕ) (item : Item)
    → TreeStands source (tables_of held) s → s.cursor ≡ Some ix → item ≡ item_at s.nodes ix
    → shape_of (tables_of held) (over source item) item.body ≡ plain → TakesOnly item.body held held'
    → t ≡ record s { spine = s.spine ++ ix ∷ []; cursor = child_of s.nodes ix }
    → Went source s t held held' []
went_in_plain source s t held held' ix item w a h sh k c =
    let st = stands_at source (tables_of held) s (Some ix) s.spine a refl w in
    went source s t held held' ix (child_of s.nodes ix) (s.spine ++ ix ∷ []) [] a c (rw h at k)
    (λ n. moves_past_in source (tables_of held)
    s.nodes ix s.spine n st)
    (λ rules. moves_in_plain (setting_of source rules) (tables_of held) s.nodes ix s.spine st (rw h at sh))

-- the entries that the item at the cursor refers to exist
can_begin : (source : List ℕ) (s : Arena Item) (held : Allocated) (ix : ℕ) (item : Item)
    → TreeStands source (tables_of held) s
    → s.cursor ≡ Some ix → item ≡ item_at s.nodes ix → CanBegin source (tables_of held) item
can_begin source s held ix item w a h =
    let placed = cursor_placed source (tables_of held) s ix w a in
    rw h (record { lies = placed.lies; named = placed.named; slices = placed.slices })

-- past an item that is one event
pub passed_over : (source : List ℕ) (s t : Arena Item) (held : Allocated) (ix : ℕ) (item : Item)
    → TreeStands source (tables_of held) s
    → s.cursor ≡ Some ix → item ≡ item_at s.nodes ix → visit_at item.body ≡ visit.Leaf → t
    ≡ record s { cursor = sibling_of s.nodes ix }
    → PassedBeginning source s t held item
passed_over source s t held ix item w a h goes c =
    let shape = shape_of (tables_of held) (over source item) item.body in
    let is : visit_at_shape shape ≡ visit.Leaf = sym (visit-shape (tables_of held) (over source item) item.body)
    ∙ goes in
    let some = some_leaf shape is in
    let is_event = leaf_shape shape some.event some.origins is some.begins in
    record {
      can = can_begin source s held ix item w a h;
      stays = (went_on source s t held held ix item some.event some.origins w a h is_event
          (takes_nothing item.body held) c).stands;
      stands = λ held' k. (went_on source s t held held' ix item some.event some.origins w a h is_event k c).stands;
      went = λ held' e origins k b. went_on source s t held held' ix item e origins w a h
          (leaf_shape shape e origins is b) k c;
      falls = (went_on source s t held held ix item some.event some.origins w a h is_event
          (takes_nothing item.body held) c).falls;
    }

-- the event that a tree in a tag begins with is the Start
start_begins : (shape : Shape) (tag : TagView) (titles : List Origin) (e : EventView) (origins : List Origin)
    → shape ≡ enclosed tag titles
    → beginning shape ≡ Some (e, origins) → ◌≡◌ {A = EventView × List Origin} (start tag, titles) (e, origins)
start_begins (enclosed own others) tag titles e origins h b = cc (h, b)
start_begins (leaf d others) tag titles e origins h b = cc h
start_begins plain tag titles e origins h b = cc h
start_begins backslash_break tag titles e origins h b = cc h
start_begins (unresolved other) tag titles e origins h b = cc h

-- into an item by a Start
pub passed_in : (source : List ℕ) (s t : Arena Item) (held : Allocated) (ix : ℕ) (item : Item)
    → TreeStands source (tables_of held) s
    → s.cursor ≡ Some ix → item ≡ item_at s.nodes ix → visit_at item.body ≡ visit.Start
    → t ≡ record s { spine = s.spine ++ ix ∷ []; cursor = child_of s.nodes ix } → PassedBeginning source s t held item
passed_in source s t held ix item w a h goes c =
    let shape = shape_of (tables_of held) (over source item) item.body in
    let is : visit_at_shape shape ≡ visit.Start = sym (visit-shape (tables_of held) (over source item) item.body)
    ∙ goes in
    let some = some_tag shape is in
    record {
      can = can_begin source s held ix item w a h;
      stays = (went_in source s t held held ix item some.tag some.origins w a h some.is
          (takes_nothing item.body held) c).stands;
      stands = λ held' k. (went_in source s t held held' ix item some.tag some.origins w a h some.is k c).stands;
      went = λ held' e origins k b.
          subst (λ (x : EventView × List Origin). Went source s t held held' ((x.0, range_of item, x.1) ∷ []))
          (start_begins shape some.tag some.origins e origins some.is b)
          (went_in source s t held held' ix item some.tag some.origins w a h some.is k c);
      falls = (went_in source s t held held ix item some.tag some.origins w a h some.is
          (takes_nothing item.body held) c).falls;
    }

-- into an item without a Start
pub passed_plain : (source : List ℕ) (s t : Arena Item) (held : Allocated) (ix : ℕ) (item : Item)
    → TreeStands source (tables_of held) s
    → s.cursor ≡ Some ix → item ≡ item_at s.nodes ix → visit_at item.body ≡ visit.Plain
    → t ≡ record s { spine = s.spine ++ ix ∷ []; cursor = child_of s.nodes ix } → Went source s t held held []
passed_plain source s t held ix item w a h goes c =
    went_in_plain source s t held held ix item w a h
    (plain_shape _ (sym (visit-shape (tables_of held) (over source item) item.body) ∙ goes))
    (takes_nothing item.body held) c

went_out : (source : List ℕ) (s t : Arena Item) (held : Allocated) (ix : ℕ) (up : List ℕ) (given : List Placed)
    → TreeStands source (tables_of held) s → s.cursor ≡ None → s.spine ≡ up ++ ix ∷ []
    → ((after : Reading) (state : ReferenceState) → ended (end_of_body (item_at s.nodes ix).body) (range_of
    (item_at s.nodes ix))
    after state
    ≡ events_first given (after state))
    → t ≡ record s { spine = up; cursor = sibling_of s.nodes ix } → Went source s t held held given
went_out source s t held ix up given w a sp cl c =
    let st = stands_at source (tables_of held) s None (up ++ ix ∷ []) a sp w in
    let mv = λ (rules : Rules). moves_out (setting_of source rules) (tables_of held) s.nodes ix up given st cl in
    rw (c, a, sp) (record {
      stands = (mv any_rules).stands;
      tables = refl;
      left = λ rules state. (mv rules).left state;
      falls = (mv any_rules).falls;
    })

-- out of a node that gives an End
pub went_out_end : (source : List ℕ) (s t : Arena Item) (held : Allocated) (ix : ℕ) (item : Item) (up : List ℕ)
    (e : TagEnd) → TreeStands source (tables_of held) s → s.cursor ≡ None → s.spine ≡ up ++ ix ∷ []
    → item ≡ item_at s.nodes ix → end_of_body item.body ≡ Some e → t
    ≡ record s { spine = up; cursor = sibling_of s.nodes ix }
    → Went source s t held held ((end e, range_of item, []) ∷ [])
went_out_end source s t held ix item up e w a sp h cl c =
    rw h (went_out source s t held ix up ((end e, range_of (item_at s.nodes ix), []) ∷ []) w a sp
    (λ after state. rw (rw h at cl) refl) c)

-- out of a node that gives no End
pub went_out_plain : (source : List ℕ) (s t : Arena Item) (held : Allocated) (ix : ℕ) (item : Item) (up : List ℕ)
    → TreeStands source (tables_of held) s → s.cursor ≡ None → s.spine ≡ up ++ ix ∷ []
    → item ≡ item_at s.nodes ix → end_of_body item.body ≡ None → t
    ≡ record s { spine = up; cursor = sibling_of s.nodes ix }
    → Went source s t held held []
went_out_plain source s t held ix item up w a sp h cl c =
    went_out source s t held ix up [] w a sp (λ after state. rw (rw h at cl) refl) c

-- a walk that is over has nothing left, and stays over
pub left_of_ended : (s : Setting) (tables : Tables) (t : Arena Item) → HasEnded t → (state : ReferenceState)
    → tree_left s tables t state ≡ nothing_read state
left_of_ended s tables t e state = rw (e.cursor, e.spine) (left_of-end s tables t.nodes state)

pub stands_ended : (source : List ℕ) (tables : Tables) (t : Arena Item) → HasEnded t → TreeStands source tables t
stands_ended source tables t e = rw (e.cursor, e.spine) (stands-end source tables t.nodes)

pub steps_ended : (t : Arena Item) → HasEnded t → tree_steps t ≡ 0
steps_ended t e = rw (e.cursor, e.spine) (steps-end t.nodes)

-- with a node at the cursor there are steps to come
pub steps_at_cursor : (source : List ℕ) (tables : Tables) (s : Arena Item) (ix : ℕ) → TreeStands source tables s
    → s.cursor ≡ Some ix
    → 0 < tree_steps s
steps_at_cursor source tables s ix w e = rw e
    (steps-some source tables s.nodes ix s.spine (stands_at source tables s (Some ix) s.spine e
    refl w))

pub refused_at : (source : List ℕ) (tables : Tables) (s t : Arena Item) (ix : ℕ) → TreeStands source tables s → s.cursor
    ≡ Some ix → t ≡ s
    → IsRefused s t
refused_at source tables s t ix w e same = record { same = same; steps = steps_at_cursor source tables s ix w e }

-- a walk that was stopped is over
pub stopped : (s t : Arena Item) → t ≡ record s { spine = []; cursor = None } → HasEnded t
stopped s t e = rw e (record { cursor = refl; spine = refl })

-- what is known above when a node is entered
pub more_above : (s : Arena Item) (ix : ℕ) {t : Arena Item} {item : Item} {a a' : Above} (gfm : Bool)
    → ((style : Bool) (items : List Item) → IsKnownOf style items a → IsKnownOf style (items ++ item ∷ []) a')
    → item ≡ item_at s.nodes ix → t ≡ record s { spine = s.spine ++ ix ∷ []; cursor = child_of s.nodes ix }
    → IsKnownAt gfm s.nodes s.spine a → IsKnownAt gfm t.nodes t.spine a'
more_above s ix gfm more is_item goes known =
    rw (goes, map-append (item_at s.nodes) s.spine (ix ∷ []), ← is_item)
    (more gfm (map (item_at s.nodes) s.spine) known)

-- and when one is left
pub fewer_above : (s : Arena Item) {p t : Arena Item} {ix : ℕ} {item : Item} {a a' : Above} {count : ℕ} (gfm : Bool)
    (outer : List ℕ)
    → s.spine ≡ outer ++ ix ∷ [] → p ≡ record s { spine = outer; cursor = Some ix } → item ≡ item_at p.nodes ix
    → t ≡ record p { cursor = sibling_of p.nodes ix } → count ≡ length p.spine
    → ((style : Bool) (items : List Item) → length items ≡ count → IsKnownOf style (items ++ item ∷ []) a
    → IsKnownOf style items a')
    → IsKnownAt gfm s.nodes s.spine a → IsKnownAt gfm t.nodes t.spine a'
fewer_above s {p} {t} {ix} {item} gfm outer split popped is_item goes count left known =
    let here : item ≡ item_at s.nodes ix = rw popped at is_item in
    rw (goes, popped) (left gfm (map (item_at s.nodes) outer)
    (length-map outer (item_at s.nodes) ∙ sym (count ∙ ap (λ (t : Arena Item). length t.spine) popped))
    (rw (split, map-append (item_at s.nodes) outer (ix ∷ []), ← here) at known))

-- and after an end of the walk, where none is entered
pub none_above : (s : Arena Item) (b : Above) {a' : Above} (gfm : Bool) → s.spine ≡ [] → b.gfm_footnotes ≡ gfm
    → a' ≡ record b { containers = []; searched = 0; block = 0 } → IsKnownAt gfm s.nodes s.spine a'
none_above s b gfm none style cleared = rw (none, cleared) (known_none gfm b style)
