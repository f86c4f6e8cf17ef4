-- How far a chain in an arena was read: at first none of it, then one stretch after another, and in the end all of it,
-- which resolves it by pass one. Where memory is refused after a stretch, it is refused on the way.
use Rattle.std.proofs.Common.{◌≡◌, ℕ, ◌+◌, ◌||◌, ◌==◌, List, [], ◌∷◌, ◌++◌, Option, Some, None, refl, sym, ap, ◌∙◌}
use Rattle.std.proofs.Common.{arith, append-nil, append_assoc}
use Rattle.std.proofs.Math.Bool.{or_assoc}
use Rattle.markdown_base.specs.ArenaForest.{links_of}
use Rattle.markdown_base.specs.Forest.{Forest, nil}
use Rattle.markdown_base.specs.Questions.{Question, Answer, Answers}
use Rattle.markdown_base.proofs.ArenaForestLemmas.{forest_at-none}
use Rattle.markdown_brackets.specs.BracketDecision.{Progress}
use Rattle.markdown_brackets.specs.LeftList.{Entry, trees_onto}
use Rattle.markdown_brackets.specs.Openers.{Waiting}
use Rattle.markdown_brackets.specs.ReadChain.{among, begun, read_chain}
use Rattle.markdown_brackets.specs.SpentEnds.{is_spent}
use Rattle.markdown_brackets.specs.declared.spent_ends.SpentEnds.{SpentEnds}
use Rattle.markdown_brackets.proofs.BracketNoteLemmas.{onto_annotate}
use Rattle.markdown_document.specs.EnclosingBlocks.{EnclosingBlocks}
use Rattle.markdown_document.specs.Document.{Plain, no_notes}
use Rattle.markdown_document.specs.Setting.{Setting}
use Rattle.markdown_document.specs.ResolverStates.{ResolverState, chain_at, state_at}
use Rattle.markdown_document.proofs.CallbackLemmas.{Asks-append}
use Rattle.markdown_resolver.specs.Chains.{CanResolve, ResolvesFrom}
use Rattle.markdown_resolver.specs.PassOne.{Outcome, outcome, pass_one}
use Rattle.markdown_resolver.specs.PutsTrees.{numbered_from, without_numbers}
use Rattle.markdown_resolver.specs.ReadOn.{AreSpent, ReadsOn, StandsTo, StopsInPassOne, StopsOn, all_read, at_left}
use Rattle.markdown_resolver.specs.ReadOn.{left_without_numbers}
use Rattle.markdown_resolver.proofs.PutsTreesLemmas.{plain_from}
use Rattle.markdown_resolver.proofs.StandsToLemmas.{changes_twice}
use Rattle.markdown_resolver.proofs.ComposeLemmas.{moves_change, moves_none, stands_ready}

-- an end is among those of two lists
among_append : (n : ℕ) (xs ys : List ℕ) → among n (xs ++ ys) ≡ (among n xs || among n ys)
among_append n [] ys = refl
among_append n (m ∷ xs) ys = ap (λ b. (n == m) || b) (among_append n xs ys)
    ∙ sym (or_assoc (n == m) (among n xs) (among n ys))

-- the ends that were used up are still all held
pub spent_more : (spent spent' : SpentEnds) (ends before : List ℕ)
    → ((end : ℕ) → is_spent spent' end ≡ (among end ends || is_spent spent end)) → AreSpent spent before
    → AreSpent spent' (ends ++ before)
spent_more spent spent' ends before spends are end = spends end ∙ ap (λ b. among end ends || b) (are end)
    ∙ sym (among_append end ends before)

-- nothing was read yet
pub reads_on_none : {C : Type 0} (step : C → Question → Option Answer → C → Type 0) (s : Setting)
    (above : EnclosingBlocks)
    (first : ℕ) (old : ResolverState C) (spent : SpentEnds) → CanResolve s.text old.tables old.nodes (Some first)
    → ReadsOn step s above first (Some first) (Some first) [] old old spent spent [] []
reads_on_none step s above first old spent ready = record {
  changes = moves_change (moves_none (stands_ready ready)) (λ a stands. stands);
  left_then = [];
  stands = record { ready = ready; stands = refl; quiet = tt; waiting = tt };
  held = record { brackets_are = refl; wikilinks_are = refl };
  answers = [];
  questions = [];
  asked = refl;
  ends = [];
  spends = λ end. refl;
  made = 0;
  reads = λ p later are.
      ap (λ (asked : List Question). all_read s above (chain_at s.text old (Some first))
      (at_left [] old later (record p { asked = asked }))) (sym (append-nil p.asked))
      ∙ ap (λ (made : ℕ). all_read s above (chain_at s.text old (Some first))
      (at_left [] old later (record p { asked = p.asked ++ []; made = made }))) (omega arith);
}

-- one stretch was read, and then another
module _ {C : Type 0} (step : C → Question → Option Answer → C → Type 0) (s : Setting) (above : EnclosingBlocks)
    (first : ℕ) (at mid : Option ℕ) (left : List (Entry ℕ)) (old now : ResolverState C) (spent spent1 : SpentEnds)
    (brackets wikilinks : List Waiting)
    (r : ReadsOn step s above first at mid left old now spent spent1 brackets wikilinks) where
  abbrev after_first : Progress (Unit {0}) → Progress (Unit {0})
  after_first p = record p { spent = r.ends ++ p.spent; asked = p.asked ++ r.questions; made = p.made + r.made }

  -- what is read with answers for both
  first_reads : (p : Progress (Unit {0})) (answers later : Answers) → AreSpent spent p.spent
      → all_read s above (chain_at s.text old at) (at_left left old ((r.answers ++ answers) ++ later) p)
      ≡ all_read s above (chain_at s.text now mid) (at_left r.left_then now (answers ++ later) (after_first p))
  first_reads p answers later are =
      ap (λ (a : Answers). all_read s above (chain_at s.text old at) (at_left left old a p))
      (append_assoc r.answers answers later) ∙ r.reads p (answers ++ later) are

  pub reads_on_twice : (next : Option ℕ) (new : ResolverState C) (spent2 : SpentEnds)
      (brackets2 wikilinks2 : List Waiting)
      → ReadsOn step s above first mid next r.left_then now new spent1 spent2 brackets2 wikilinks2
      → ReadsOn step s above first at next left old new spent spent2 brackets2 wikilinks2
  reads_on_twice next new spent2 brackets2 wikilinks2 q = record {
    changes = changes_twice s.text (Some first) old.nodes now.nodes new.nodes old.tables now.tables new.tables r.changes
        q.changes;
    left_then = q.left_then;
    stands = q.stands;
    held = q.held;
    answers = r.answers ++ q.answers;
    questions = r.questions ++ q.questions;
    asked = Asks-append step old.callback now.callback new.callback r.questions q.questions r.answers q.answers r.asked
        q.asked;
    ends = q.ends ++ r.ends;
    spends = λ end.
        q.spends end ∙ ap (λ b. among end q.ends || b) (r.spends end)
        ∙ sym (or_assoc (among end q.ends) (among end r.ends) (is_spent spent end))
        ∙ ap (λ b. b || is_spent spent end) (sym (among_append end q.ends r.ends));
    made = r.made + q.made;
    reads = λ p later are.
        first_reads p q.answers later are
        ∙ q.reads (after_first p) later (spent_more spent spent1 r.ends p.spent r.spends are)
        ∙ ap (λ (asked : List Question). all_read s above (chain_at s.text new next) (at_left q.left_then new later
        (record p { spent = q.ends ++ (r.ends ++ p.spent); asked = asked; made = (p.made + r.made) + q.made })))
        (append_assoc p.asked r.questions q.questions)
        ∙ ap (λ (ends : List ℕ). all_read s above (chain_at s.text new next) (at_left q.left_then new later (record p {
          spent = ends;
          asked = p.asked ++ (r.questions ++ q.questions);
          made = (p.made + r.made) + q.made;
        }))) (sym (append_assoc q.ends r.ends p.spent))
        ∙ ap (λ (made : ℕ). all_read s above (chain_at s.text new next) (at_left q.left_then new later (record p {
          spent = (q.ends ++ r.ends) ++ p.spent;
          asked = p.asked ++ (r.questions ++ q.questions);
          made = made;
        }))) (omega arith);
  }

  -- one was read, and memory was refused in the next
  pub stops_later : (callback' : Option C) → StopsOn step s above mid r.left_then now spent1 callback'
      → StopsOn step s above at left old spent callback'
  stops_later callback' q = record {
    answers = r.answers ++ q.answers;
    questions = r.questions ++ q.questions;
    asked = Asks-append step old.callback now.callback callback' r.questions q.questions r.answers q.answers r.asked
        q.asked;
    begins = λ p later are.
        let b = q.begins (after_first p) later (spent_more spent spent1 r.ends p.spent r.spends are) in (
          b.0,
          ap (λ (q : Progress (Unit {0})). q.asked) (first_reads p q.answers later are) ∙ b.1
              ∙ ap (λ (asked : List Question). asked ++ b.0) (append_assoc p.asked r.questions q.questions),
        );
  }

-- a chain that was read to its end was resolved by pass one
read_to_end : {C : Type 0} (s : Setting) (above : EnclosingBlocks) (first : ℕ) (left : List (Entry ℕ))
    (new : ResolverState C)
    (later : Answers) (p : Progress (Unit {0})) → StandsTo s.text new.tables new.nodes first None left
    → outcome (all_read s above (chain_at s.text new None) (at_left left new later p))
    ≡ record { questions = p.asked; forest = chain_at s.text new (Some first); state = state_at new later }
unfolding read_chain
read_to_end s above first left new later p stands =
    let ended : numbered_from s.text new.tables new.nodes None ≡ nil = rw (forest_at-none (links_of new.nodes)) refl in
    let all : chain_at s.text new (Some first) ≡ trees_onto (left_without_numbers left) nil =
    sym (plain_from s.text new.tables new.nodes (Some first))
    ∙ ap without_numbers (stands.stands ∙ ap (trees_onto left) ended) ∙ sym (onto_annotate (λ n. tt) left nil) in
    ap (λ (f : Forest Plain). outcome (all_read s above f (at_left left new later p)))
    (sym (plain_from s.text new.tables new.nodes None) ∙ ap without_numbers ended)
    ∙ ap (λ (f : Forest Plain). let o : Outcome (Unit {0}) = record
    { questions = p.asked; forest = f; state = state_at new later } in o) (sym all)

pub reads_on_all : {C : Type 0} (step : C → Question → Option Answer → C → Type 0) (s : Setting)
    (above : EnclosingBlocks)
    (first : ℕ) (old new : ResolverState C) (spent spent' : SpentEnds) (brackets wikilinks : List Waiting)
    → AreSpent spent [] → ReadsOn step s above first (Some first) None [] old new spent spent' brackets wikilinks
    → ResolvesFrom step s.text (pass_one s no_notes above) (Some first) old new
unfolding pass_one
reads_on_all step s above first old new spent spent' brackets wikilinks none r = record {
  changes = r.changes;
  answers = r.answers;
  questions = r.questions;
  asked = r.asked;
  resolves = λ later.
      let p : Progress (Unit {0}) = begun (state_at old later) in
      ap outcome (r.reads p later none) ∙ read_to_end s above first r.left_then new later
      (record p { spent = r.ends ++ []; asked = r.questions; made = 0 + r.made }) r.stands;
}

-- if an allocation failed on the way, it was in pass one
pub stops_pass_one : {C : Type 0} (step : C → Question → Option Answer → C → Type 0) (s : Setting)
    (above : EnclosingBlocks)
    (first : ℕ) (old : ResolverState C) (spent : SpentEnds) (callback' : Option C) → AreSpent spent []
    → StopsOn step s above (Some first) [] old spent callback' → StopsInPassOne step s above first old callback'
unfolding pass_one
stops_pass_one step s above first old spent callback' none r = record {
  answers = r.answers;
  questions = r.questions;
  asked = r.asked;
  begins = λ later. r.begins (begun (state_at old later)) later none;
}
