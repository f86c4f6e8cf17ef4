-- The steps of a parser, and what they give of what was left.
use Rattle.std.proofs.Common.{◌≡◌, ℕ, Bool, ap, ◌<◌, List, [], ◌∷◌, ◌++◌, Option, Some, None, Result, Ok, Err, ◌⊎◌, inl}
use Rattle.std.proofs.Common.{inr, refl, map, sym, subst, ◌∙◌, arith, append_assoc}
use Rattle.std.specs.Prelude.{is_some, MatchResult}
use Rattle.std.specs.Borrow.{Bor}
use Rattle.std.specs.declared.ops.Range.{Range}
use Rattle.std.proofs.lemmas.List.{map-append}
use Rattle.markdown_base.specs.Arena.{Arena}
use Rattle.markdown_base.specs.Questions.{Question, Answer, Answers}
use Rattle.markdown_base.specs.declared.event.Event.{Event}
use Rattle.markdown_base.specs.declared.fault.Fault.{Fault}
use Rattle.markdown_base.specs.declared.fault.Fault.TheVariants.{Memory}
use Rattle.markdown_base.specs.Event.{event_view}
use Rattle.markdown_base.specs.Item.{range_of}
use Rattle.markdown_base.specs.declared.item.Item.{Item}
use Rattle.markdown_defs.specs.Allocations.{Allocated}
use Rattle.markdown_defs.specs.Footnotes.{footnote_at}
use Rattle.std.proofs.Math.Path.{fun_ext}
use Rattle.markdown_document.specs.Counts.{no_counts}
use Rattle.markdown_document.specs.Document.{no_notes}
use Rattle.markdown_document.specs.declared.work.Work.{Work}
use Rattle.markdown_document.specs.Places.{trees_from}
use Rattle.markdown_document.specs.ResolverStates.{resolver_state, state_at, above_cursor}
use Rattle.markdown_resolver.specs.ChainCounts.{chain_counts}
use Rattle.markdown_resolver.specs.BlocksAbove.{Above, IsKnownAt}
use Rattle.markdown_resolver.specs.Chains.{AreAbove, ResolvesChain, CanResolve, StopsIn}
use Rattle.markdown_resolver.proofs.ChainReadLemmas.{items_above}
use Rattle.markdown_inline.specs.Elements.{Placed, Element, Passage, event, question}
use Rattle.markdown_inline.specs.Moves.{Leads, Keeps, Gave, GaveEvent, WentOn, Ended, Failed, BeginsWithEvent, HasGone}
use Rattle.markdown_inline.specs.Moves.{Began, RefusedAt, Took, WentPast, shape_in}
use Rattle.markdown_inline.specs.NextGives.{NextGives, IsEventOf, IsPlacedOf, GivesItem}
use Rattle.markdown_inline.specs.ParserLeft.{parser_state, parser_counts, parser_work, parser_callback, parser_steps}
use Rattle.markdown_inline.specs.ParserLeft.{parser_setting, elements, parser_left, parser_text, IsOver}
use Rattle.markdown_document.specs.Setting.{Setting, by_label, rules_from, setting_of}
use Rattle.markdown_document.specs.Tables.{tables_of}
use Rattle.markdown_inline.specs.Walk.{left_of}
use Rattle.markdown_inline.specs.WalkSteps.{HasEnded, TreeStands, Went, Gives, PassedBeginning, OpensWith, IsRefused}
use Rattle.markdown_inline.specs.WalkSteps.{events_first, IsBeforeChain, visit_at}
use Rattle.markdown_inline.specs.declared.bodies.Visit.{Visit}
use Rattle.markdown_inline.specs.declared.walk.Parser.{Parser}
use Rattle.markdown_document.proofs.CallbackLemmas.{Asks-append, Asks-some}
use Rattle.markdown_inline.proofs.ChainLemmas.{ChainMoves, are_above, chain_left, moves_chain, can_resolve, stops_chain}
use Rattle.markdown_inline.proofs.ChainLemmas.{is_unread}
use Rattle.markdown_inline.proofs.CountLemmas.{part-chain, part-none, rises-none, rises-chain}
use Rattle.markdown_inline.proofs.WalkStepsLemmas.{left_of_ended, steps_ended, steps_at_cursor}
use Rattle.markdown_resolver.specs.Unread.{IsUnread}

-- the elements that are left, by what is left
pub elements-left : {F : Type 0} (p : Parser F) (answers : Answers) → elements p answers
    ≡ (parser_left p answers).elements
unfolding elements
elements-left p answers = refl

-- the elements that were left, where events were given
first-elements : (given : List Placed) (rest : Passage) → (events_first given rest).elements
    ≡ map event given ++ rest.elements
first-elements [] rest = refl
first-elements (e ∷ given) rest = ap (λ (es : List Element). event e ∷ es) (first-elements given rest)

gave-elements : {F : Type 0} (s t : Parser F) (given : List Placed) → Gave s t given → (later : Answers)
    → elements s later ≡ map event given ++ elements t later
unfolding elements
gave-elements s t given g later = ap (λ (x : Passage). x.elements) (g.left later)
    ∙ first-elements given (parser_left t later)

-- what a parser holds but for its tree and its tables
pub record SameBut {F : Type 0} (s t : Parser F) : Type 0 where
  pub text : t.resolver.text ≡ s.resolver.text
  pub syntax : t.resolver.syntax ≡ s.resolver.syntax
  pub callback : t.resolver.lookup.callback ≡ s.resolver.lookup.callback
  pub limit : t.resolver.lookup.limit ≡ s.resolver.lookup.limit
  pub work : t.resolver.work ≡ s.resolver.work

-- a step over the tree gives its events
pub gave_step : {F : Type 0} (s t : Parser F) (given : List Placed) → SameBut s t
    → Went s.resolver.text.now s.tree t.tree s.resolver.lookup.tables t.resolver.lookup.tables given → Gave s t given
gave_step s t given k w = record {
  callback = sym k.callback;
  work = k.work;
  left = λ later.
      rw (k.text, k.syntax, k.callback, k.limit, w.tables)
      (rw w.tables at (w.left
      (rules_from s.resolver.syntax s.resolver.lookup.tables (is_some s.resolver.lookup.callback))
      (parser_state s later)));
}

pub moved_give : {F : Type 0} (s t : Parser F) (e : Event) (range : Range ℕ) → SameBut s t
    → Gives s.resolver.text.now s.tree t.tree s.resolver.lookup.tables t.resolver.lookup.tables e range
    → GaveEvent s t e range × (parser_steps t < parser_steps s)
moved_give s t e range k g = (
  record {
    placed = _;
    is_item = record { is_event = record { view = refl; texts = g.texts; start = g.start }; range = refl };
    gave =
        gave_step s t _ k g.went;
  },
  g.went.falls,
)

-- a step that goes on, and then what an item names is taken
took_same : {F : Type 0} (s t u : Parser F) (item : Item) → SameBut s t → Took t u item → SameBut s u
took_same s t u item k took = record {
  text = took.text ∙ k.text;
  syntax = took.syntax ∙ k.syntax;
  callback = took.callback ∙ k.callback;
  limit = took.limit ∙ k.limit;
  work = took.work ∙ k.work;
}

-- what is given of a step past the beginning of an item
past_gives : {F : Type 0} (s t u : Parser F) (item : Item) (e : Event)
    → PassedBeginning t.resolver.text.now s.tree t.tree t.resolver.lookup.tables item → Took t u item
    → OpensWith (parser_text t) (range_of item) (shape_in t item) e
    → Gives t.resolver.text.now s.tree u.tree t.resolver.lookup.tables u.resolver.lookup.tables e (range_of item)
past_gives s t u item e p took o = record {
  origins = o.origins;
  texts = o.texts;
  start = o.start;
  went = subst (λ (tree : Arena Item). Went t.resolver.text.now s.tree tree t.resolver.lookup.tables
      u.resolver.lookup.tables
      ((event_view e, range_of item, o.origins) ∷ []))
      (sym took.tree) (p.went u.resolver.lookup.tables (event_view e) o.origins took.tables o.begins);
}

-- the same of an equal text and equal tables
same_gives : (x y : List ℕ) (s t : Arena Item) (a b held : Allocated) (e : Event) (range : Range ℕ) → x ≡ y → a ≡ b
    → Gives x s t a held e range → Gives y s t b held e range
same_gives x y s t a b held e range p q g = rw (← p, ← q) g

-- past the beginning of an item
pub moved_past : {F : Type 0} (s t : Parser F) (item : Item) (w : Visit) → SameBut s t → t.resolver.lookup.tables
    ≡ s.resolver.lookup.tables
    → PassedBeginning t.resolver.text.now s.tree t.tree t.resolver.lookup.tables item × (visit_at item.body ≡ w)
    → WentPast s t item w
moved_past s t item w k same p = record {
  ready = record { can = p.0.can; stands = p.0.stands; goes = p.1 };
  gave = λ u e took o. (moved_give s u e (range_of item) (took_same s t u item k took)
      (same_gives t.resolver.text.now s.resolver.text.now s.tree u.tree t.resolver.lookup.tables
      s.resolver.lookup.tables u.resolver.lookup.tables e
      (range_of item) (ap (λ (text : Bor (List ℕ)). text.now) k.text) same (past_gives s t u item e p.0 took o))).0;
  callback = k.callback;
  work = k.work;
  falls = p.0.falls;
}

-- one stretch after another
pub leads_on : {C : Type 0} (step : C → Question → Option Answer → C → Type 0) (c d e : Option C) (x y z : Answers
    → List Element) (given : List Placed)
    → Leads step c d x y [] → Leads step d e y z given → Leads step c e x z given
leads_on step c d e x y z given p q =
    record {
      answers = p.answers ++ q.answers;
      questions = p.questions ++ q.questions;
      asked = Asks-append step c d e p.questions q.questions p.answers q.answers p.asked q.asked;
      left = λ later. rw (append_assoc p.answers q.answers later, p.left (q.answers ++ later), q.left later)
          (simp (map-append, append_assoc));
    }

leads_gave : {F : Type 0} (step : F → Question → Option Answer → F → Type 0) (s t : Parser F) (given : List Placed)
    → Gave s t given
    → Leads step (parser_callback s) (parser_callback t) (elements s) (elements t) given
leads_gave step s t given g = record
    { answers = []; questions = []; asked = g.callback; left = gave-elements s t given g }

pub moved_skip : {F : Type 0} (step : F → Question → Option Answer → F → Type 0) (s t : Parser F) → SameBut s t
    → Went s.resolver.text.now s.tree t.tree s.resolver.lookup.tables t.resolver.lookup.tables [] → WentOn step s t
    × (parser_steps t < parser_steps s)
unfolding leads_gave
moved_skip step s t k w =
    let g = gave_step s t [] k w in (
      record {
        leads = leads_gave step s t [] g;
        asked = inl g;
        counts = λ later work r. rw (ap (λ (x : Passage). x.counts) (g.left later), ← g.work) r;
        part = λ later work r. rw (ap (λ (x : Passage). x.counts) (g.left later), ← g.work) r;
      },
      w.falls,
    )

-- before a chain a resolver may be called
pub before_chain : (source : List ℕ) (s : Arena Item) (held : Allocated) (first : ℕ)
    → TreeStands source (tables_of held) s
    → IsBeforeChain s first → CanResolve source (tables_of held) s.nodes (Some first)
before_chain source s held first w b = can_resolve source (tables_of held) s.nodes first s.spine (rw b.cursor at w)
    b.is_open

pub unread_chain : (source : List ℕ) (s : Arena Item) (held : Allocated) (first : ℕ)
    → TreeStands source (tables_of held) s
    → IsBeforeChain s first → IsUnread (trees_from source (tables_of held) s.nodes (Some first))
unread_chain source s held first w b = is_unread source (tables_of held) s.nodes first s.spine (rw b.cursor at w)
    b.is_open

-- the nodes that were entered stay when it is resolved
pub above_chain : (source : List ℕ) (s : Arena Item) (held : Allocated) (first : ℕ)
    → TreeStands source (tables_of held) s
    → IsBeforeChain s first → AreAbove source s.nodes (Some first) s.spine
above_chain source s held first w b = are_above source (tables_of held) s.nodes first s.spine (rw b.cursor at w)

-- what a resolved chain is for the walk
chain_moves : {C : Type 0} (step : C → Question → Option Answer → C → Type 0) (g : Setting) (s t : Arena Item)
    (held held' : Allocated) (first limit limit' : ℕ) (c d : Option C) (work work' : Work)
    → TreeStands g.text (tables_of held) s → IsBeforeChain s first
    → (r : ResolvesChain step g first s t held held' limit limit' c d work work')
    → ChainMoves g (tables_of held) (tables_of held') s.nodes t.nodes first s.spine (state_at
    (resolver_state s held limit c))
    (state_at (resolver_state t held' limit' d)) r.chain.questions r.chain.answers
chain_moves step g s t held held' first limit limit' c d work work' w b r =
    moves_chain step g first s.spine (resolver_state s held limit c) (resolver_state t held' limit' d)
    (rw b.cursor at w) b.is_open
    r.chain

pub stands_chain : {C : Type 0} (step : C → Question → Option Answer → C → Type 0) (g : Setting) (s t : Arena Item)
    (held held' : Allocated) (first limit limit' : ℕ) (c d : Option C) (work work' : Work)
    → TreeStands g.text (tables_of held) s → IsBeforeChain s first → ResolvesChain step g first s t held held' limit
    limit' c d work work'
    → TreeStands g.text (tables_of held') t
stands_chain step g s t held held' first limit limit' c d work work' w b r =
    rw (r.tree, b.cursor) (chain_moves step g s t held held' first limit limit' c d work work' w b r).stands

-- and the blocks above are the same
pub entered_chain : {C : Type 0} {step : C → Question → Option Answer → C → Type 0} (g : Setting) {s t : Arena Item}
    {held held' : Allocated} {first limit limit' : ℕ} {c d : Option C} {work work' : Work} {a : Above} (gfm : Bool)
    → TreeStands g.text (tables_of held) s → IsBeforeChain s first
    → ResolvesChain step g first s t held held' limit limit' c d work work' → IsKnownAt gfm s.nodes s.spine a
    → IsKnownAt gfm t.nodes t.spine a
entered_chain g {s} {t} {held} {held'} {first} gfm w b r known =
    let spine : t.spine ≡ s.spine = ap (λ (tree : Arena Item). tree.spine) r.tree in
    rw (spine, items_above s.spine r.chain.changes (above_chain g.text s held first w b)) known

-- the rules depend on the names of footnotes, and not on their uses
setting_kept : {F : Type 0} (s t : Parser F) → t.resolver.text ≡ s.resolver.text → t.resolver.syntax
    ≡ s.resolver.syntax
    → is_some s.resolver.lookup.callback ≡ is_some t.resolver.lookup.callback
    → t.resolver.lookup.tables ≡ record s.resolver.lookup.tables {
      cows = t.resolver.lookup.tables.cows;
      links = t.resolver.lookup.tables.links;
      footdefs =
          t.resolver.lookup.tables.footdefs;
    }
    → ((name : List ℕ) → is_some (footnote_at t.resolver.lookup.tables.footdefs name)
    ≡ is_some (footnote_at s.resolver.lookup.tables.footdefs name))
    → parser_setting t ≡ parser_setting s
setting_kept s t x o some tables names =
    let is_name : List ℕ → Bool = λ name. is_some (footnote_at t.resolver.lookup.tables.footdefs name) in
    let was_name : List ℕ → Bool = λ name. is_some (footnote_at s.resolver.lookup.tables.footdefs name) in
    let same : is_name ≡ was_name = fun_ext names in
    let definitions : t.resolver.lookup.tables.refdefs
    ≡ s.resolver.lookup.tables.refdefs = ap (λ (held : Allocated). held.refdefs) tables in
    rw (x, o, ← some, definitions)
    (ap (λ (f : List ℕ → Bool). let g : Setting = setting_of s.resolver.text.now
    (record {
      syntax = s.resolver.syntax;
      definitions = by_label s.resolver.lookup.tables.refdefs;
      is_footnote = f;
      asks = is_some s.resolver.lookup.callback;
    }) in g) same)

-- what is left before a chain, with the cursor at its first open item
left_before : {F : Type 0} (s : Parser F) (first : ℕ) → IsBeforeChain s.tree first → (answers : Answers)
    → parser_left s answers ≡ left_of (parser_setting s) (tables_of s.resolver.lookup.tables) s.tree.nodes (Some first)
    s.tree.spine
    (parser_state s answers)
left_before s first b answers =
    ap (λ (l : Option ℕ). left_of (parser_setting s) (tables_of s.resolver.lookup.tables) s.tree.nodes l s.tree.spine
    (parser_state s answers)) b.cursor

-- the counts then are those of the chain
counts_before : {F : Type 0} (s : Parser F) (first : ℕ)
    → TreeStands s.resolver.text.now (tables_of s.resolver.lookup.tables) s.tree → IsBeforeChain s.tree first
    → (answers : Answers)
    → parser_counts s answers ≡ chain_counts (parser_setting s) no_notes (above_cursor s.resolver.text.now s.tree)
    (trees_from s.resolver.text.now (tables_of s.resolver.lookup.tables) s.tree.nodes (Some first))
    (parser_state s answers)
counts_before s first w b answers =
    ap (λ (x : Passage). x.counts) (left_before s first b answers
    ∙ chain_left (parser_setting s) (tables_of s.resolver.lookup.tables) s.tree.nodes first s.tree.spine
    (parser_state s answers)
    (rw b.cursor at w) b.is_open)

-- a chain that is resolved: its questions, and then an event
pub moved_chain : {F : Type 0} (step : F → Question → Option Answer → F → Type 0) (s t : Parser F) (first : ℕ)
    → t.resolver.text ≡ s.resolver.text → t.resolver.syntax ≡ s.resolver.syntax
    → TreeStands s.resolver.text.now (tables_of s.resolver.lookup.tables) s.tree → IsBeforeChain s.tree first
    → ResolvesChain step (parser_setting s) first s.tree t.tree s.resolver.lookup.tables t.resolver.lookup.tables
    s.resolver.lookup.limit t.resolver.lookup.limit
    s.resolver.lookup.callback t.resolver.lookup.callback
    s.resolver.work t.resolver.work
    → WentOn step s t × (parser_steps t < parser_steps s)
unfolding elements
moved_chain step s t first x o w b q =
    let m = chain_moves step (parser_setting s) s.tree t.tree s.resolver.lookup.tables t.resolver.lookup.tables first
    s.resolver.lookup.limit t.resolver.lookup.limit
    s.resolver.lookup.callback t.resolver.lookup.callback s.resolver.work t.resolver.work w b q in
    let some : is_some s.resolver.lookup.callback ≡ is_some t.resolver.lookup.callback = Asks-some step
    s.resolver.lookup.callback t.resolver.lookup.callback
    q.chain.questions q.chain.answers q.chain.asked in
    let now : (later : Answers) → parser_left t later ≡ left_of (parser_setting s) (tables_of t.resolver.lookup.tables)
    t.tree.nodes
    (Some first) s.tree.spine (parser_state t later) =
    λ later. rw (setting_kept s t x o some q.tables q.footnotes, q.tree, b.cursor) refl in
    let before = λ (later : Answers). counts_before s first w b (q.chain.answers ++ later) in
    let after : (later : Answers) → parser_counts t later ≡ no_counts =
    λ later. ap (λ (x : Passage). x.counts) (now later ∙ (m.begins (parser_state t later)).is) in (
      record {
        leads = record {
          answers = q.chain.answers;
          questions = q.chain.questions;
          asked = q.chain.asked;
          left = λ later.
              ap (λ (x : Passage). x.elements) (left_before s first b (q.chain.answers ++ later)) ∙ m.left later
              ∙ ap (λ (x : Passage). map question q.chain.questions ++ x.elements) (sym (now later));
        };
        asked = inr (λ answers. subst BeginsWithEvent (sym (now answers)) (m.begins (parser_state t answers)));
        counts = λ later work r.
            rw (before later) (rises-chain _ (parser_work s) (parser_work t) work (q.counted later)
            (rw (after later) at r));
        part = λ later work r.
            rw (before later) (part-chain _ (parser_work s) (parser_work t) work (q.counted later)
            (rw (after later) at r));
      },
      rw (q.tree, b.cursor) m.falls,
    )

-- a walk that has ended is over
pub over_ended : {F : Type 0} (t : Parser F) → HasEnded t.tree → IsOver t
over_ended t e = record {
  left = λ answers. elements-left t answers ∙ ap (λ (x : Passage). x.elements)
      (left_of_ended (parser_setting t) (tables_of t.resolver.lookup.tables) t.tree e (parser_state t answers));
  steps = steps_ended t.tree e;
}

pub moved_done : {F : Type 0} (s t : Parser F) → HasEnded s.tree → t.tree ≡ s.tree → t.resolver.lookup.callback
    ≡ s.resolver.lookup.callback
    → t.resolver.work ≡ s.resolver.work → Ended s t
moved_done s t e same c d = record {
  was = over_ended s e;
  is = over_ended t (rw same e);
  callback = sym c;
  ahead = λ answers. ap (λ (x : Passage). x.counts)
      (left_of_ended (parser_setting s) (tables_of s.resolver.lookup.tables) s.tree e (parser_state s answers));
  work = d;
}

-- a step that was refused asked nothing
pub moved_refused : {F : Type 0} (step : F → Question → Option Answer → F → Type 0) (s t : Parser F)
    (after : Arena Item) → t.resolver.lookup.callback ≡ s.resolver.lookup.callback → t.resolver.work ≡ s.resolver.work
    → IsRefused s.tree after → HasEnded t.tree
    → Failed step s t
moved_refused step s t after c k r e = record {
  is = over_ended t e;
  more = r.steps;
  questions = [];
  answers = [];
  asked = sym c;
  begins =
      λ later. (elements s later, refl);
  counts = λ later. part-none (parser_counts s later) (parser_work s) (parser_work t) k;
}

-- a chain at which memory was refused
pub moved_stopped : {F : Type 0} (step : F → Question → Option Answer → F → Type 0) (s t : Parser F) (first : ℕ)
    → TreeStands s.resolver.text.now (tables_of s.resolver.lookup.tables) s.tree → IsBeforeChain s.tree first
    → StopsIn step (parser_setting s) (above_cursor s.resolver.text.now s.tree) first
    (resolver_state s.tree s.resolver.lookup.tables s.resolver.lookup.limit
    s.resolver.lookup.callback) t.resolver.lookup.callback s.resolver.work t.resolver.work → HasEnded t.tree
    → Failed step s t
moved_stopped step s t first w b r e = record {
  is = over_ended t e;
  more = steps_at_cursor s.resolver.text.now (tables_of s.resolver.lookup.tables) s.tree first w b.cursor;
  questions = r.questions;
  answers = r.answers;
  asked = r.asked;
  begins = λ later. rw (elements-left s (r.answers ++ later), b.cursor)
      (stops_chain step (parser_setting s) first s.tree.spine
      (resolver_state s.tree s.resolver.lookup.tables s.resolver.lookup.limit s.resolver.lookup.callback)
      t.resolver.lookup.callback s.resolver.work t.resolver.work (rw b.cursor at w) b.is_open r later);
  counts = λ later. rw (counts_before s first w b (r.answers ++ later)) (r.counts later);
}

-- where a walk is over no step is made
no_step : {F : Type 0} (s t : Parser F) → parser_steps t < parser_steps s → IsOver s → ⊥
no_step s t l over = omega (arith, l, over.steps)

pub gone_nowhere : {F : Type 0} (step : F → Question → Option Answer → F → Type 0) (s : Parser F) → HasGone step s s
gone_nowhere step s = record {
  went = record {
    leads = record { answers = []; questions = []; asked = refl; left = λ later. refl };
    asked =
        inl (record { callback = refl; left = λ later. refl; work = refl });
    counts = λ later work r. r;
    part = λ later work r. r;
  };
  keeps = record { text = refl; definitions = refl };
  over = λ over. over;
  steps = omega arith;
}

keeps_more : {F : Type 0} (r s t : Parser F) → Keeps r s → Keeps s t → Keeps r t
keeps_more r s t a b = record { text = b.text ∙ a.text; definitions = b.definitions ∙ a.definitions }

-- quiet, and then quiet; else an event comes next
asked_more : {F : Type 0} (r s t : Parser F)
    → Gave r s [] ⊎ ((answers : Answers) → BeginsWithEvent (parser_left s answers))
    → Gave s t [] ⊎ ((answers : Answers) → BeginsWithEvent (parser_left t answers))
    → Gave r t [] ⊎ ((answers : Answers) → BeginsWithEvent (parser_left t answers))
asked_more r s t a (inr b) = inr b
asked_more r s t (inl a) (inl b) = inl (record {
  callback = a.callback ∙ b.callback;
  left = λ later. a.left later
      ∙ b.left later;
  work = b.work ∙ a.work;
})
asked_more r s t (inr a) (inl b) = inr (λ answers. rw (← b.left answers) (a answers))

pub gone_on : {F : Type 0} (step : F → Question → Option Answer → F → Type 0) (r s t : Parser F) → HasGone step r s
    → WentOn step s t
    → Keeps s t → parser_steps t < parser_steps s → HasGone step r t
unfolding leads_on
gone_on step r s t g w k l = record {
  went = record {
    leads = leads_on step (parser_callback r) (parser_callback s) (parser_callback t) (elements r) (elements s)
        (elements t) [] g.went.leads
        w.leads;
    asked = asked_more r s t g.went.asked w.asked;
    counts = λ later work x.
        rw (append_assoc g.went.leads.answers w.leads.answers later) (g.went.counts (w.leads.answers ++ later) work
        (w.counts later work x));
    part = λ later work x.
        rw (append_assoc g.went.leads.answers w.leads.answers later) (g.went.part (w.leads.answers ++ later) work
        (w.part later work x));
  };
  keeps = keeps_more r s t g.keeps k;
  over = λ over. absurd (no_step s t l (g.over over));
  steps = omega (arith, l, g.steps);
}

-- nothing is asked where nothing comes
none_quiet : {F : Type 0} (s t : Parser F) → ((answers : Answers) → elements t answers ≡ [])
    → Gave s t [] ⊎ ((answers : Answers) → BeginsWithEvent (parser_left t answers)) → Gave s t []
none_quiet s t n (inl a) = a
none_quiet s t n (inr b) = absurd (cc (n [], elements-left t [], ap (λ (x : Passage). x.elements) (b []).is))

-- what `advance` gives
abbrev pub Advances : {F : Type 0} → (F → Question → Option Answer → F → Type 0) → Parser F
    → Option (Result (Event × Range ℕ) Fault)
    → Parser F → Type 0
Advances {F} step s r t = NextGives {F = F} step IsPlacedOf s r t

pub advances_none : {F I : Type 0} (step : F → Question → Option Answer → F → Type 0)
    (is_of : List ℕ → I → Placed → Type 0) (s t u : Parser F) → HasGone step s t → Ended t u
    → Keeps t u → NextGives step is_of s None u
advances_none step is_of s t u g e k =
    let q = none_quiet s t e.was.left g.went.asked in
    let keeps = keeps_more s t u g.keeps k in
    record {
      gives = record {
        none_left = λ answers. gave-elements s t [] q answers ∙ e.was.left answers;
        callback = sym (q.callback ∙ e.callback);
        over = e.is;
        counts = λ answers. rises-none (parser_counts s answers) (parser_work s) (parser_work u)
            (ap (λ (x : Passage). x.counts) (q.left answers) ∙ e.ahead answers) (e.work ∙ q.work);
      };
      text = keeps.text;
      definitions = keeps.definitions;
      stays = λ over. (refl, e.is);
    }

pub advances_fault : {F I : Type 0} (step : F → Question → Option Answer → F → Type 0)
    (is_of : List ℕ → I → Placed → Type 0) (s t u : Parser F) → HasGone step s t → Failed step t u
    → Keeps t u → NextGives step is_of s (Some (Err Memory)) u
advances_fault step is_of s t u g f k =
    let l = g.went.leads in
    let keeps = keeps_more s t u g.keeps k in
    record {
      gives = record {
        memory = refl;
        questions = l.questions ++ f.questions;
        answers = l.answers ++ f.answers;
        asked = Asks-append step (parser_callback s) (parser_callback t) (parser_callback u) l.questions f.questions
            l.answers f.answers
            l.asked f.asked;
        begins = λ later.
            let b = f.begins later in (
              b.0,
              rw (append_assoc l.answers f.answers later, l.left (f.answers ++ later), b.1)
                  (simp (map-append, append_assoc)),
            );
        over = f.is;
        counts = λ later.
            rw (append_assoc l.answers f.answers later)
            (g.went.part (f.answers ++ later) (parser_work u) (f.counts later));
      };
      text = keeps.text;
      definitions = keeps.definitions;
      stays = λ over. absurd (omega (arith, f.more, (g.over over).steps));
    }

pub advances_event : {F : Type 0} (step : F → Question → Option Answer → F → Type 0) (s t u : Parser F) (e : Event)
    (range : Range ℕ) → HasGone step s t → GaveEvent t u e range → Keeps t u
    → parser_steps u < parser_steps t → Advances step s (Some (Ok (e, range))) u
unfolding leads_on leads_gave
advances_event step s t u e range g w k f =
    let l = leads_on step (parser_callback s) (parser_callback t) (parser_callback u) (elements s) (elements t)
    (elements u) (w.placed ∷ [])
    g.went.leads (leads_gave step t u (w.placed ∷ []) w.gave) in
    let keeps = keeps_more s t u g.keeps k in
    record {
      gives = record {
        questions = l.questions;
        answers = l.answers;
        asked = l.asked;
        placed = w.placed;
        is_item = subst (λ (source : List ℕ). IsPlacedOf source (e, range) w.placed) g.keeps.text w.is_item;
        left = l.left;
        counts = λ later.
            rw (append_assoc g.went.leads.answers [] later)
            (g.went.counts later (parser_work u) (rises-none (parser_counts t later) (parser_work t) (parser_work u)
            (ap (λ (x : Passage). x.counts) (w.gave.left later)) w.gave.work));
      };
      text = keeps.text;
      definitions = keeps.definitions;
      stays = λ over. absurd (no_step t u f (g.over over));
    }

-- an event with its range is an event
pub without_range : {F : Type 0} (step : F → Question → Option Answer → F → Type 0) (s : Parser F) (e : Event × Range ℕ)
    (t : Parser F) → GivesItem step IsPlacedOf s e t → GivesItem step IsEventOf s e.0 t
without_range step s e t g = record {
  questions = g.questions;
  answers = g.answers;
  asked = g.asked;
  placed = g.placed;
  is_item =
      g.is_item.is_event;
  left = g.left;
  counts = g.counts;
}

-- a refusal ends the walk, which was not over
pub steps_failed : {F : Type 0} (step : F → Question → Option Answer → F → Type 0) (s t u : Parser F) → HasGone step s t
    → Failed step t u
    → parser_steps u < parser_steps s
steps_failed step s t u g f = omega (arith, g.steps, f.more, f.is.steps)

-- a text and its definitions stay where what an item refers to is taken
took_keeps : {F : Type 0} (s t : Parser F) (item : Item) → Took s t item → Keeps s t
took_keeps s t item took = record {
  text = ap (λ (text : Bor (List ℕ)). text.now) took.text;
  definitions = ap (λ (held : Allocated). held.refdefs) took.tables.tables;
}

-- as many steps are left then
took_falls : {F : Type 0} (s t u : Parser F) (item : Item) → Took t u item → parser_steps t < parser_steps s
    → parser_steps u < parser_steps s
took_falls s t u item took l = rw took.tree l

-- the event of an item is given once it is made
pub begun_event : {F : Type 0} (step : F → Question → Option Answer → F → Type 0) (s r t u : Parser F) (item : Item)
    (w : Visit) (e : Event) → HasGone step s r → Keeps r t → WentPast r t item w → Began t u item e
    → Advances step s (Some (Ok (e, range_of item))) u
begun_event step s r t u item w e g k past b =
    advances_event step s r u e (range_of item) g (past.gave u e b.took b.opens)
    (keeps_more r t u k (took_keeps t u item b.took))
    (took_falls r t u item b.took past.falls)

-- it may be refused memory
pub failed_past : {F : Type 0} (step : F → Question → Option Answer → F → Type 0) (s t u : Parser F) (item : Item)
    (w : Visit) (fault : Fault) → WentPast s t item w → RefusedAt t u fault → Failed step s u
failed_past step s t u item w fault past r = record {
  is = r.is;
  more = omega (arith, past.falls);
  questions = [];
  answers = [];
  asked = sym (r.callback ∙ past.callback);
  begins =
      λ later. (elements s later, refl);
  counts = λ later. part-none (parser_counts s later) (parser_work s) (parser_work u) (r.work ∙ past.work);
}

pub begun_fault : {F I : Type 0} (step : F → Question → Option Answer → F → Type 0)
    (is_of : List ℕ → I → Placed → Type 0) (s r t u : Parser F) (item : Item) (w : Visit) (fault : Fault)
    → HasGone step s r → Keeps r t → WentPast r t item w → RefusedAt t u fault
    → NextGives step is_of s (Some (Err fault)) u
begun_fault step is_of s r t u item w fault g k past refused =
    rw refused.memory (advances_fault step is_of s r u g (failed_past step r t u item w fault past refused)
    (keeps_more r t u k refused.keeps))

-- an item with its range is given, and so it is without
pub next_event : {F : Type 0} (step : F → Question → Option Answer → F → Type 0) (s t : Parser F) (e : Event)
    (range : Range ℕ) → Advances step s (Some (Ok (e, range))) t → NextGives step IsEventOf s (Some (Ok e)) t
next_event step s t e range n = record {
  gives = without_range step s (e, range) t n.gives;
  text = n.text;
  definitions = n.definitions;
  stays = λ over. absurd (let none = (n.stays over).0 in cc none);
}

-- what comes of a Start
pub begun_start : {F : Type 0} (step : F → Question → Option Answer → F → Type 0) (s r t u : Parser F) (item : Item)
    (w : Visit) (made : Result Event Fault) → HasGone step s r → Keeps r t → WentPast r t item w
    → MatchResult made (Began t u item) (RefusedAt t u)
    → NextGives step IsEventOf s (Some made) u
begun_start step s r t u item w (Ok e) g k past b =
    next_event step s u e (range_of item) (begun_event step s r t u item w e g k past b)
begun_start step s r t u item w (Err fault) g k past b = begun_fault step IsEventOf s r t u item w fault g k past b

-- after a Start there are fewer steps to come
pub start_falls : {F : Type 0} (step : F → Question → Option Answer → F → Type 0) (s r t u : Parser F) (item : Item)
    (w : Visit) (made : Result Event Fault) → HasGone step s r → WentPast r t item w
    → MatchResult made (Began t u item) (RefusedAt t u)
    → parser_steps u < parser_steps s
start_falls step s r t u item w (Ok e) g past b = let l = took_falls r t u item b.took past.falls in omega
    (arith, l, g.steps)
start_falls step s r t u item w (Err fault) g past b = omega (arith, past.falls, b.is.steps, g.steps)

-- after a stop there are fewer steps to come
pub stop_falls : {F : Type 0} (step : F → Question → Option Answer → F → Type 0) (s r t : Parser F) → HasGone step s r
    → parser_steps t < parser_steps r → parser_steps t < parser_steps s
stop_falls step s r t g l = omega (arith, l, g.steps)
