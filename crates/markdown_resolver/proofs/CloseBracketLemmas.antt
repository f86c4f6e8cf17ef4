-- A `]` after a left list in an arena: the rules by which it is decided, that its openers can be tried, and what is put
-- in place.
use Rattle.markdown_base.specs.declared.item.ItemBody.TheVariants as body
use Rattle.std.proofs.Common.{◌≡◌, ℕ, ◌-◌, ◌<◌, Bool, not, ◌&&◌, List, [], ◌++◌, Option, Some, None, length, drop, refl}
use Rattle.std.proofs.Common.{sym, ap, ◌∙◌, subst, arith, true}
use Rattle.std.proofs.Math.Path.{fun_ext}
use Rattle.std.proofs.lemmas.List.{length-drop, length-take}
use Rattle.std.specs.Prelude.{Result, Ok, Err, IfErr, IfOk, is_some, slice_range}
use Rattle.std.specs.Str.{IsUtf8}
use Rattle.markdown_base.specs.Arena.{Arena, sibling_of}
use Rattle.markdown_base.specs.BlockTree.{item_at}
use Rattle.markdown_base.specs.Questions.{Question, Answer}
use Rattle.markdown_base.specs.WellFormed.{StandsOverMarkup}
use Rattle.markdown_base.specs.declared.item.Item.{Item}
use Rattle.markdown_base.specs.declared.item.ItemBody.{ItemBody}
use Rattle.markdown_base.specs.declared.node.Node.{Node}
use Rattle.markdown_base.specs.declared.syntax.Syntax.{Syntax}
use Rattle.markdown_brackets.specs.BracketDecision.{BracketContext, Becomes, Closing, Progress, decided}
use Rattle.markdown_brackets.specs.Decides.{Decides, EachOpener, StandsBefore, CanTry}
use Rattle.markdown_brackets.specs.ClosingBracket.{put}
use Rattle.markdown_brackets.specs.DecisionView.{GoesOnAfter, IsBecome, bracket_context_at}
use Rattle.markdown_brackets.specs.Finish.{LeftRises, SplitsAs}
use Rattle.markdown_brackets.specs.LeftList.{Entry}
use Rattle.markdown_brackets.specs.HeldOpeners.{brackets_of, wikilinks_of}
use Rattle.markdown_brackets.specs.Openers.{Waiting}
use Rattle.markdown_brackets.specs.SpentEnds.{is_spent}
use Rattle.markdown_brackets.specs.WikilinkNodes.{CanFindWikilink}
use Rattle.markdown_brackets.specs.declared.chain_openers.ChainOpeners.{ChainOpeners}
use Rattle.markdown_brackets.specs.declared.closing_bracket.ClosedBracket.{ClosedBracket}
use Rattle.markdown_brackets.specs.declared.spent_ends.SpentEnds.{SpentEnds}
use Rattle.markdown_document.specs.declared.chain_place.ChainPlace.{ChainPlace}
use Rattle.markdown_document.specs.EnclosingBlocks.{EnclosingBlocks}
use Rattle.markdown_document.specs.ResolverStates.{above_cursor}
use Rattle.markdown_document.specs.ChainRest.{end_of}
use Rattle.markdown_document.specs.Setting.{Rules, rules_from, setting_of, uses_of}
use Rattle.markdown_document.specs.Tables.{Tables, tables_of}
use Rattle.markdown_base.specs.Syntax.{gfm_footnotes}
use Rattle.markdown_spans.specs.Finds.{prefix_below}
use Rattle.markdown_spans.specs.PrefixView.{length_by}
use Rattle.markdown_spans.specs.declared.prefixes.ContainerPrefix.{ContainerPrefix}
use Rattle.markdown_resolver.specs.declared.continuation.Continuation.{Continuation}
use Rattle.markdown_resolver.specs.ChainPlace.{CanReadOn, IsPlaceOf}
use Rattle.markdown_resolver.specs.Chains.{CanResolve}
use Rattle.markdown_resolver.specs.Closes.{ClosesAt, PutsClosed, closing_at}
use Rattle.markdown_resolver.specs.PassOne.{bracket_context}
use Rattle.markdown_resolver.specs.ReadOn.{IsOpener, ReadsOn, StandsTo}
use Rattle.markdown_resolver.specs.ReadsBracket.{CanReadNode, DecidesClosing, ReadsBracket, StopsAtNode, WasReadTo}
use Rattle.markdown_resolver.specs.ReadsBracket.{setting_by, resolver_state_by, ChangesForDecision}
use Rattle.markdown_resolver.specs.declared.resolver.Resolver.{Resolver}
use Rattle.markdown_resolver.proofs.ChainPlaceLemmas.{prefix_is}
use Rattle.markdown_resolver.proofs.CloserOnLemmas.{reads_on_closer, stops_at_closer}
use Rattle.markdown_resolver.proofs.DecidedLeftLemmas.{decided_stands}
use Rattle.markdown_resolver.proofs.EndsWellLemmas.{ends_well}
use Rattle.markdown_resolver.proofs.FollowersLemmas.{opens_chain}
use Rattle.markdown_resolver.proofs.LeftRisesLemmas.{left_rises, stands_before}
use Rattle.markdown_resolver.proofs.LeftTreesLemmas.{each_bracket, each_wikilink}
use Rattle.markdown_resolver.proofs.StandsToLemmas.{stands_rest}
use Rattle.markdown_resolver.proofs.WaitingOpenerLemmas.{StandsOpen, can_find, can_try, each_follows, each_open}
use Rattle.markdown_defs.specs.Allocations.{Allocated}
use Rattle.markdown_defs.specs.declared.footnotes.FootnoteDefs.{FootnoteDefs}
use Rattle.markdown_resolver.proofs.UnreadLemmas.{unmade_after, unread_after, unread_past}
use Rattle.markdown_resolver.specs.Unread.{IsUnread}
use Rattle.markdown_document.specs.Places.{trees_from}
use Rattle.markdown_document.specs.Waiting.{waits_for_pairing}
use Rattle.markdown_base.specs.Item.{is_open}
use Rattle.markdown_brackets.specs.Reference.{could_be_reference, is_closing_bracket}
use Rattle.markdown_resolver.proofs.OpenerReadLemmas.{closer_body}

-- a prefix is that of the lines of a chain at a place
pub record IsPrefixOf (place : ChainPlace) (prefix : ContainerPrefix) : Type 0 where
  pub containers : prefix.containers.now ≡ place.containers.now
  pub gfm : prefix.gfm_footnotes ≡ gfm_footnotes place.syntax

-- brackets are decided by the rules of pass one
pub context_is : (place : ChainPlace) (prefix : ContainerPrefix) (tree : Arena Item) (source : List ℕ)
    (syntax : Syntax) (held : Allocated) (asks : Bool)
    → place.text.now ≡ source → place.syntax ≡ syntax → IsPlaceOf place tree → IsPrefixOf place prefix
    → bracket_context_at place (length_by prefix) (above_cursor source tree).bodies held.refdefs held.footdefs asks
    ≡ bracket_context (setting_of source (rules_from syntax held asks)) (above_cursor source tree)
context_is place prefix tree source syntax held asks text options_are stands is =
    let s = setting_of source (rules_from syntax held asks) in
    let above = above_cursor source tree in
    let rule : length_by prefix ≡ prefix_below s above = fun_ext (prefix_is prefix place tree s is.containers is.gfm
    (sym (ap gfm_footnotes options_are)) (sym text) stands) in
    let block_end : place.block_end ≡ above.block_end = stands.block_end
    ∙ ap (λ (t : List ℕ). (above_cursor t tree).block_end) text in
    let in_table : place.in_table ≡ above.in_table = stands.in_table
    ∙ ap (λ (t : List ℕ). (above_cursor t tree).in_table) text in
    rw (text, block_end, in_table, options_are)
    (ap (λ (skipped : List ℕ
    → ℕ). let w : BracketContext = record { setting = s; above = above; skipped = skipped } in w) rule)

-- a `]` has a byte
some_byte : (source : List ℕ) (tables : Tables) (nodes : List (Node Item)) (ix : ℕ) (could_be : Bool)
    → CanResolve source tables nodes (Some ix) → (item_at nodes ix).body ≡ body.MaybeLinkClose could_be
    → 0 < (item_at nodes ix).end
some_byte source tables nodes ix could_be ready is =
    let item = item_at nodes ix in
    let o = opens_chain ready in
    let over : StandsOverMarkup (slice_range source item.start item.end) (body.MaybeLinkClose could_be) =
    subst (StandsOverMarkup (slice_range source item.start item.end)) is o.placed.keeps.markup_is_there in
    let size : length (slice_range source item.start item.end) ≡ 1 = ap length over in
    omega (arith, size, length-take (item.end - item.start) (drop item.start source), length-drop item.start source)

module _ {place : ChainPlace} {tree : Arena Item} {held : Allocated} {brackets wikilinks : List Waiting} {first ix : ℕ}
    {left : List (Entry ℕ)} (can : CanReadOn place tree held brackets wikilinks first ix left) (could_be : Bool)
    (is : (item_at tree.nodes ix).body ≡ body.MaybeLinkClose could_be) where
  here_ready : CanResolve place.text.now (tables_of held) tree.nodes (Some ix)
  here_ready = stands_rest can.so_far

  -- each opener that a stack holds can be tried, and a wikilink looked for
  pub tries_each : EachOpener (CanTry tree.nodes place ix) brackets
  tries_each =
      let source = place.text.now in
      let each = each_bracket (StandsOpen source (tables_of held) tree.nodes ix) left
      (each_open source (tables_of held) tree.nodes first ix left can.so_far) in
      subst (λ (w : List Waiting). EachOpener (CanTry tree.nodes place ix) w) (sym can.openers.brackets_are)
      (each_follows (StandsOpen source (tables_of held) tree.nodes ix) (CanTry tree.nodes place ix) _
      (λ n o. can_try (tables_of held) tree.nodes place ix n here_ready
      (some_byte source (tables_of held) tree.nodes ix could_be here_ready is) can.stands.boundary o) each)

  pub finds_each : EachOpener (λ n. CanFindWikilink tree.nodes place.text.now n ix) wikilinks
  finds_each =
      let source = place.text.now in
      let each = each_wikilink (StandsOpen source (tables_of held) tree.nodes ix) left
      (each_open source (tables_of held) tree.nodes first ix left can.so_far) in
      subst (λ (w : List Waiting). EachOpener (λ n. CanFindWikilink tree.nodes source n ix) w)
      (sym can.openers.wikilinks_are)
      (each_follows (StandsOpen source (tables_of held) tree.nodes ix) (λ n. CanFindWikilink tree.nodes source n ix) _
      (λ n o. can_find source (tables_of held) tree.nodes ix n here_ready o) each)

-- it was decided what becomes of a `]`: the left list that is left is where the first was, its numbers rise, and the
-- result can be put in place
pub record MayClose (source : List ℕ) (tables : Tables) (nodes : List (Node Item)) (first ix : ℕ) (w : BracketContext)
    (c : Closing ℕ) (left_then : List (Entry ℕ)) (becomes : Becomes ℕ) : Type 0 where
  pub stands : StandsTo source tables nodes first (Some ix) left_then
  pub before : StandsBefore nodes ix left_then c
  pub rises : LeftRises left_then
  pub closes : ClosesAt source tables nodes first ix left_then w c becomes

pub may_close : {C : Type 0} (step : C → Question → Option Answer → C → Type 0) (source : List ℕ) (rules : Rules)
    (above : EnclosingBlocks) (tables : Tables) (nodes : List (Node Item)) (first ix : ℕ) (left : List (Entry ℕ))
    (could_be : Bool) (limit limit' : ℕ) (uses uses' : List ℕ → ℕ) (spent spent' : SpentEnds)
    (callback callback' : Option C) (brackets wikilinks : List Waiting) (found : ClosedBracket)
    → IsUtf8 source → StandsTo source tables nodes first (Some ix) left
    → IsUnread (trees_from source tables nodes (Some ix)) → (item_at nodes ix).body ≡ body.MaybeLinkClose could_be
    → (d : Decides step (bracket_context (setting_of source rules) above)
    (closing_at source tables nodes spent could_be ix)
    left limit limit' uses uses' spent spent' callback callback' brackets wikilinks found)
    → MayClose source tables nodes first ix (bracket_context (setting_of source rules) above)
    (closing_at source tables nodes spent could_be ix) d.left_then d.becomes
may_close step source rules above tables nodes first ix left could_be limit limit' uses uses' spent spent' callback
    callback' brackets wikilinks found utf8 h unread is d =
    let w = bracket_context (setting_of source rules) above in
    let c = closing_at source tables nodes spent could_be ix in
    let p : Progress ℕ = record {
      left = left;
      goes_on = None;
      spent = [];
      asked = [];
      state = record {
        limit = limit;
        answers = d.answers ++ [];
        uses = uses;
      };
      made = 0;
    } in
    let q : Progress ℕ = record {
      left = d.left_then;
      goes_on = None;
      spent = d.more ++ [];
      asked = [] ++ d.questions;
      state = record { limit = limit'; answers = []; uses = uses' };
      made = 0;
    } in
    let decides : decided w c p ≡ record { becomes = d.becomes; progress = q } = d.decides p [] in
    let stands = decided_stands source tables nodes first (Some ix) left d.left_then w c d.becomes p q refl refl decides
    h in
    record {
      stands = stands;
      before = stands_before stands refl refl is;
      rises = left_rises source tables nodes first (Some ix) d.left_then stands;
      closes = record {
        stands = stands;
        closes = (could_be, is);
        node_is = refl;
        rest_is = refl;
        text_is = refl;
        unmade = unmade_after (stands_rest h) (ap is_open is) (ap waits_for_pairing is) unread;
        splits = d.splits;
        ends = ends_well source tables nodes first ix left w c p d.becomes q h refl refl refl utf8 refl decides;
      };
    }

-- the decision, as the rules of pass one have it, unless memory was refused
pub decides_here : {C E : Type 0} (step : C → Question → Option Answer → C → Type 0) (place : ChainPlace)
    (prefix : ContainerPrefix) (tree : Arena Item) (old new : Resolver C) (ix : ℕ) (r : Result ClosedBracket E)
    → place.text.now ≡ old.text.now → place.syntax ≡ old.syntax → IsPrefixOf place prefix
    → is_closing_bracket (item_at tree.nodes ix).body ≡ true
    → IfOk r (λ found. (bodies : List ItemBody) (skipped : List ℕ → ℕ) (left : List (Entry ℕ)) (c : Closing ℕ)
    → GoesOnAfter (λ rest. Some (length_by prefix rest)) skipped → StandsBefore tree.nodes ix left c
    → c.could_be_reference
    ≡ (could_be_reference (item_at tree.nodes ix).body && not (is_spent old.waiting.spent (end_of c.node)))
    → old.waiting.openers.brackets ≡ brackets_of left → old.waiting.openers.wikilinks ≡ wikilinks_of left
    → Decides step (bracket_context_at place skipped bodies old.lookup.tables.refdefs old.lookup.tables.footdefs
    (is_some old.lookup.callback)) c
    left old.lookup.limit new.lookup.limit (uses_of old.lookup.tables.footdefs) (uses_of new.lookup.tables.footdefs)
    old.waiting.spent
    new.waiting.spent old.lookup.callback new.lookup.callback new.waiting.openers.brackets new.waiting.openers.wikilinks
    found) → IfOk r (λ found. DecidesClosing step place tree ix old new found)
decides_here step place prefix tree old new ix (Ok found) text options_are prefix_is_its closes decides = record {
  decides = λ first left can.
      let could_be = could_be_reference (item_at tree.nodes ix).body in
      let held = old.lookup.tables in
      let c = closing_at place.text.now (tables_of held) tree.nodes old.waiting.spent could_be ix in
      let before = stands_before can.so_far refl refl (closer_body (item_at tree.nodes ix).body closes) in
      let d = decides (above_cursor place.text.now tree).bodies (length_by prefix) left c (λ rest. refl) before refl
      can.openers.brackets_are can.openers.wikilinks_are in
      let here = subst (λ (w : BracketContext). Decides step w c left old.lookup.limit new.lookup.limit
      (uses_of held.footdefs)
      (uses_of new.lookup.tables.footdefs) old.waiting.spent new.waiting.spent old.lookup.callback new.lookup.callback
      new.waiting.openers.brackets new.waiting.openers.wikilinks found)
      (context_is place prefix tree place.text.now old.syntax held (is_some old.lookup.callback) refl options_are
      can.stands prefix_is_its) d
      in
      subst (λ (t : List ℕ). Decides step
      (bracket_context (setting_of t (rules_from old.syntax held (is_some old.lookup.callback)))
      (above_cursor t tree)) (closing_at t (tables_of held) tree.nodes old.waiting.spent could_be ix) left
      old.lookup.limit
      new.lookup.limit (uses_of held.footdefs) (uses_of new.lookup.tables.footdefs) old.waiting.spent new.waiting.spent
      old.lookup.callback new.lookup.callback new.waiting.openers.brackets new.waiting.openers.wikilinks found) text
      here;
}
decides_here step place prefix tree old new ix (Err fault) text options_are prefix_is_its closes decides = tt

-- what is left after a `]` was not read
unread_closed : (source : List ℕ) (tables tables' : Tables) (old new : List (Node Item)) (first closer : ℕ)
    (rest : Continuation) (left : List (Entry ℕ)) (w : BracketContext) (c : Closing ℕ) (becomes : Becomes ℕ)
    → CanResolve source tables old (Some closer)
    → PutsClosed source first closer rest left w c becomes old new tables tables'
    → IsUnread (trees_from source tables old (Some closer)) → IsUnread (trees_from source tables' new rest.next)
unread_closed source tables tables' old new first closer rest left w c becomes ready puts h =
    let p : Progress ℕ = record {
      left = left;
      goes_on = None;
      spent = [];
      asked = [];
      state = record { limit = 0; answers = []; uses = λ n. 0 };
      made = 0;
    } in
    rw (puts.rest_is p refl)
    (unread_past (put w c becomes p).goes_on (trees_from source tables old (sibling_of old closer))
    (unread_after source tables old closer ready h))

-- a resolver has decided what a `]` becomes
module _ {C : Type 0} (step : C → Question → Option Answer → C → Type 0) (place : ChainPlace) (tree : Arena Item)
    (old mid : Resolver C)
    (found : ClosedBracket) (ix : ℕ) (can : CanReadNode place tree old ix) (text_is : IsUtf8 place.text.now)
    (is_close : is_closing_bracket (item_at tree.nodes ix).body ≡ true) (changes : ChangesForDecision old mid)
    (decision : DecidesClosing step place tree ix old mid found) where
  utf8 : IsUtf8 old.text.now
  utf8 = subst IsUtf8 can.text text_is

  abbrev could_be : Bool
  could_be = could_be_reference (item_at tree.nodes ix).body

  is : (item_at tree.nodes ix).body ≡ body.MaybeLinkClose could_be
  is = closer_body (item_at tree.nodes ix).body is_close

  tables : tables_of mid.lookup.tables ≡ tables_of old.lookup.tables
  tables = ap (λ (r : Resolver C). tables_of r.lookup.tables) changes.kept

  abbrev context_here : BracketContext
  context_here = bracket_context (setting_by old) (above_cursor old.text.now tree)

  abbrev closing_here : Closing ℕ
  closing_here = closing_at old.text.now (tables_of old.lookup.tables) tree.nodes old.waiting.spent could_be ix

  here_stands : (first : ℕ) (left : List (Entry ℕ)) → WasReadTo place tree old first ix left
      → StandsTo old.text.now (tables_of old.lookup.tables) tree.nodes first (Some ix) left
  here_stands first left was_read = rw (← can.text) was_read.so_far

  closes_here : (first : ℕ) (left : List (Entry ℕ)) (was_read : WasReadTo place tree old first ix left)
      → (let d = decision.decides first left was_read in
      MayClose old.text.now (tables_of old.lookup.tables) tree.nodes first ix context_here closing_here d.left_then
      d.becomes)
  closes_here first left was_read =
      may_close step old.text.now (rules_from old.syntax old.lookup.tables (is_some old.lookup.callback))
      (above_cursor old.text.now tree)
      (tables_of old.lookup.tables) tree.nodes first ix left could_be old.lookup.limit mid.lookup.limit
      (uses_of old.lookup.tables.footdefs)
      (uses_of mid.lookup.tables.footdefs) old.waiting.spent mid.waiting.spent old.lookup.callback mid.lookup.callback
      mid.waiting.openers.brackets mid.waiting.openers.wikilinks found utf8
      (here_stands first left was_read) (rw (← can.text) was_read.unread) is (decision.decides first left was_read)

  closes_there : (first : ℕ) (left : List (Entry ℕ)) (was_read : WasReadTo place tree old first ix left)
      → (let d = decision.decides first left was_read in
      ClosesAt old.text.now (tables_of mid.lookup.tables) tree.nodes first ix d.left_then context_here closing_here
      d.becomes)
  closes_there first left was_read =
      let d = decision.decides first left was_read in
      subst (λ (t : Tables). ClosesAt old.text.now t tree.nodes first ix d.left_then context_here closing_here
      d.becomes)
      (sym tables) (closes_here first left was_read).closes

  -- it can be put in place: the openers that are left are nodes
  pub record MayPut : Type 0 where
    pub within : EachOpener (λ n. n < length tree.nodes) mid.waiting.openers.wikilinks
    pub left_then : List (Entry ℕ)
    pub becomes : Becomes ℕ
    pub closes : ClosesAt old.text.now (tables_of mid.lookup.tables) tree.nodes can.first ix left_then context_here
        closing_here becomes
    pub is_become : IsBecome context_here becomes found

  pub may_put : MayPut
  may_put =
      let d = decision.decides can.first can.left can.was_read in
      record {
        within = subst (λ (w : List Waiting). EachOpener (λ n. n < length tree.nodes) w) (sym d.wikilinks_are)
            (each_follows (IsOpener old.text.now tree.nodes) (λ n. n < length tree.nodes) (wikilinks_of d.left_then)
            (λ n o. o.within) (each_wikilink (IsOpener old.text.now tree.nodes) d.left_then
            (closes_here can.first can.left can.was_read).stands.waiting));
        left_then = d.left_then;
        becomes = d.becomes;
        closes = closes_there can.first can.left can.was_read;
        is_become = d.is;
      }

  -- it was put in place, or memory was refused
  module _ (tree' : Arena Item) (held : Allocated) (openers : ChainOpeners) where
    -- what is put in place, whatever was decided
    abbrev pub PutsEach : Continuation → Type 0
    PutsEach rest = (source : List ℕ) (first : ℕ) (left : List (Entry ℕ)) (w : BracketContext) (c : Closing ℕ)
        (becomes : Becomes ℕ)
        → ClosesAt source (tables_of mid.lookup.tables) tree.nodes first ix left w c becomes → IsBecome w becomes found
        → PutsClosed source first ix rest left w c becomes tree.nodes tree'.nodes (tables_of mid.lookup.tables)
        (tables_of held)

    -- and what the stacks hold then
    abbrev pub FinishesEach : Type 0
    FinishesEach = (w : BracketContext) (c : Closing ℕ) (closer : ℕ) (left : List (Entry ℕ)) (becomes : Becomes ℕ)
        (p : Progress ℕ)
        → StandsBefore tree.nodes closer left c → LeftRises left → SplitsAs left becomes → IsBecome w becomes found
        → mid.waiting.openers.brackets ≡ brackets_of left → mid.waiting.openers.wikilinks ≡ wikilinks_of left → p.left
        ≡ left → (openers.brackets ≡ brackets_of (put w c becomes p).left)
        × (openers.wikilinks ≡ wikilinks_of (put w c becomes p).left)

    abbrev pub put_then : Resolver C
    put_then = record mid {
      lookup = record mid.lookup { tables = held };
      waiting = record mid.waiting { openers = openers };
    }

    puts_here : (rest : Continuation) (first : ℕ) (left : List (Entry ℕ))
        (was_read : WasReadTo place tree old first ix left)
        → PutsEach rest → (let d = decision.decides first left was_read in
        PutsClosed old.text.now first ix rest d.left_then context_here closing_here d.becomes tree.nodes tree'.nodes
        (tables_of old.lookup.tables) (tables_of held))
    puts_here rest first left was_read puts =
        let d = decision.decides first left was_read in
        subst (λ (t : Tables). PutsClosed old.text.now first ix rest d.left_then context_here closing_here d.becomes
        tree.nodes tree'.nodes t (tables_of held)) tables
        (puts old.text.now first d.left_then context_here closing_here d.becomes
        (closes_there first left was_read) d.is)

    pub reads_closed : {E : Type 0} (r : Result Continuation E) → held.footdefs ≡ mid.lookup.tables.footdefs
        → FinishesEach
        → IfOk r PutsEach → IfOk r (λ rest. tree' ≡ record tree { nodes = tree'.nodes })
        → IfOk r (λ rest. ReadsBracket step place ix rest tree tree' old put_then)
    reads_closed (Ok rest) footdefs finishes puts place_is =
        let here = puts_here rest can.first can.left can.was_read puts in
        record {
          goes_on = record {
            reads = λ first left was_read.
                let d = decision.decides first left was_read in
                let m = closes_here first left was_read in
                subst (λ (f : FootnoteDefs). ReadsOn step (setting_by old) (above_cursor old.text.now tree) first
                (Some ix) rest.next left
                (resolver_state_by tree old) (record
                (resolver_state_by tree' put_then) { uses = uses_of f }) old.waiting.spent
                mid.waiting.spent openers.brackets openers.wikilinks) (sym footdefs)
                (reads_on_closer step (setting_by old) (above_cursor old.text.now tree) first ix left could_be
                (resolver_state_by tree old)
                (record (resolver_state_by tree' put_then) { uses = uses_of mid.lookup.tables.footdefs })
                old.waiting.spent
                mid.waiting.spent mid.waiting.openers.brackets
                mid.waiting.openers.wikilinks found rest openers.brackets openers.wikilinks d
                (here_stands first left was_read) is (puts_here rest first left was_read puts) (record {
                  holds = λ q e. finishes context_here closing_here ix d.left_then d.becomes q m.before m.rises d.splits
                      d.is d.brackets_are d.wikilinks_are e;
                }));
            passes = here.passes;
            unread = λ h. unread_closed old.text.now (tables_of old.lookup.tables) (tables_of held) tree.nodes
                tree'.nodes can.first ix rest
                (decision.decides can.first can.left can.was_read).left_then context_here closing_here
                (decision.decides can.first can.left can.was_read).becomes
                (stands_rest (here_stands can.first can.left can.was_read)) here h;
            place_is = place_is;
          };
          holds = here.holds;
        }
    reads_closed (Err fault) footdefs finishes puts place_is = tt

  pub stops_decided : {E : Type 0} (r : Result Continuation E)
      → IfErr r (λ fault. StopsAtNode step place ix tree old mid.lookup.callback)
  stops_decided (Ok rest) = tt
  stops_decided (Err fault) = λ first left was_read.
      stops_at_closer step (setting_by old) (above_cursor old.text.now tree) first ix left could_be
      (resolver_state_by tree old)
      (resolver_state_by tree mid) old.waiting.spent mid.waiting.spent mid.waiting.openers.brackets
      mid.waiting.openers.wikilinks
      found (decision.decides first left was_read) (here_stands first left was_read) is
