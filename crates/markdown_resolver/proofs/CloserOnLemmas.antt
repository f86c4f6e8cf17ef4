-- From what was decided and put in place for a `]` to how far the chain was read: the left list holds what it became,
-- the stacks the openers that still wait, and what is left of the chain is what follows what it became.
use Rattle.markdown_base.specs.declared.item.ItemBody.TheVariants as body
use Rattle.std.proofs.Common.{◌≡◌, ℕ, ◌+◌, Bool, not, ◌&&◌, List, [], ◌++◌, Option, Some, None, refl, sym, ap, ◌∙◌}
use Rattle.std.proofs.Common.{arith}
use Rattle.std.specs.Prelude.{slice_range}
use Rattle.markdown_base.specs.Arena.{child_of, sibling_of}
use Rattle.markdown_base.specs.BlockTree.{item_at}
use Rattle.markdown_base.specs.Forest.{Forest}
use Rattle.markdown_base.specs.Questions.{Question, Answer, Answers}
use Rattle.markdown_brackets.specs.BracketDecision.{BracketContext, Becomes, Closing, Decision, Progress, a_text}
use Rattle.markdown_brackets.specs.BracketNotes.{annotate_progress}
use Rattle.markdown_brackets.specs.ClosingBracket.{closed, put, put_decided}
use Rattle.markdown_brackets.specs.Decides.{Decides}
use Rattle.markdown_brackets.specs.LeftList.{Entry}
use Rattle.markdown_brackets.specs.HeldOpeners.{brackets_of, wikilinks_of}
use Rattle.markdown_brackets.specs.Openers.{Waiting}
use Rattle.markdown_brackets.specs.ReadChain.{closing_of}
use Rattle.markdown_brackets.specs.declared.closing_bracket.ClosedBracket.{ClosedBracket}
use Rattle.markdown_brackets.specs.declared.spent_ends.SpentEnds.{SpentEnds}
use Rattle.markdown_brackets.proofs.BracketNoteLemmas.{closing_annotate}
use Rattle.markdown_document.specs.EnclosingBlocks.{EnclosingBlocks}
use Rattle.markdown_document.specs.ChainRest.{end_of, past}
use Rattle.markdown_document.specs.Document.{Plain, no_notes}
use Rattle.markdown_document.specs.Places.{tree_node_at, trees_from}
use Rattle.markdown_document.specs.Setting.{Setting}
use Rattle.markdown_document.specs.ResolverStates.{ResolverState, chain_at, state_at}
use Rattle.markdown_base.specs.Item.{is_open}
use Rattle.markdown_resolver.specs.declared.continuation.Continuation.{Continuation}
use Rattle.markdown_resolver.specs.Closes.{PutsClosed, closing_at}
use Rattle.markdown_resolver.specs.PassOne.{bracket_context}
use Rattle.markdown_resolver.specs.ReadOn.{AreSpent, ReadsOn, StandsTo, StopsOn, all_read, at_left}
use Rattle.markdown_resolver.specs.ReadOn.{left_without_numbers}
use Rattle.markdown_resolver.proofs.PutsTreesLemmas.{plain_from}
use Rattle.markdown_resolver.proofs.SpanFindLemmas.{body_open}
use Rattle.markdown_resolver.proofs.FollowersLemmas.{opens_chain}
use Rattle.markdown_resolver.proofs.PassOneLemmas.{reads_closer}
use Rattle.markdown_resolver.proofs.StandsToLemmas.{stands_rest}
use Rattle.markdown_resolver.proofs.StopsLemmas.{all_asks}

-- putting changes only the left list, and where the chain continues
put_keeps : {A : Type 0} (w : BracketContext) (c : Closing A) (becomes : Becomes A) (p : Progress A)
    → put w c becomes p ≡ record p { left = (put w c becomes p).left; goes_on = (put w c becomes p).goes_on }
put_keeps w c a_text p = refl
put_keeps w c other p = refl

-- two stacks hold the openers of the left list in which that was put
pub record HoldsPut (w : BracketContext) (c : Closing ℕ) (becomes : Becomes ℕ) (left : List (Entry ℕ))
    (brackets wikilinks : List Waiting) : Type 0
  where
    pub holds : (p : Progress ℕ) → p.left ≡ left → (brackets ≡ brackets_of (put w c becomes p).left)
        × (wikilinks ≡ wikilinks_of (put w c becomes p).left)

module _ {C : Type 0} (step : C → Question → Option Answer → C → Type 0) (s : Setting) (above : EnclosingBlocks)
    (first ix : ℕ) (left : List (Entry ℕ)) (could_be : Bool) (old new : ResolverState C)
    (spent spent' : SpentEnds) (brackets wikilinks : List Waiting) (found : ClosedBracket) where
  abbrev the_closing : Closing ℕ
  the_closing = closing_at s.text old.tables old.nodes spent could_be ix

  -- it was decided what becomes of it
  abbrev pub IsDecided : Type 0
  IsDecided = Decides step (bracket_context s above) the_closing left old.limit new.limit old.uses new.uses spent spent'
      old.callback new.callback brackets wikilinks found

  -- how far the chain was read by numbers, before that and after it
  abbrev numbered : (p : Progress (Unit {0})) → Answers → Progress ℕ
  numbered p answers = record {
    left = left;
    goes_on = None;
    spent = p.spent;
    asked = p.asked;
    state = state_at old answers;
    made = p.made;
  }

  abbrev after_decision : IsDecided → Progress (Unit {0}) → Answers → Progress ℕ
  after_decision d p later = record {
    left = d.left_then;
    goes_on = None;
    spent = d.more ++ p.spent;
    asked = p.asked ++ d.questions;
    state = state_at new later;
    made = p.made;
  }

  abbrev read_to : IsDecided → Progress (Unit {0}) → Answers → List (Entry (Unit {0})) → Progress (Unit {0})
  read_to d p later trees = record p {
    left = trees;
    goes_on = None;
    spent = d.more ++ p.spent;
    asked = p.asked ++ d.questions;
    state = state_at new later;
  }

  -- a `]` is closed as it was decided
  closed_is : (d : IsDecided) → (p : Progress (Unit {0})) (later : Answers)
      → closed (bracket_context s above) the_closing (numbered p (d.answers ++ later))
      ≡ put (bracket_context s above) the_closing d.becomes (after_decision d p later)
  unfolding closed
  closed_is d p later = ap (λ (x : Decision ℕ). put_decided (bracket_context s above) the_closing x)
      (d.decides (numbered p (d.answers ++ later)) later)

  -- so the chain from it on is read: from what was put on
  closer_reads : (d : IsDecided)
      → StandsTo s.text old.tables old.nodes first (Some ix) left → (item_at old.nodes ix).body
      ≡ body.MaybeLinkClose could_be → (p : Progress (Unit {0})) (later : Answers) → AreSpent spent p.spent
      → all_read s above (chain_at s.text old (Some ix)) (at_left left old (d.answers ++ later) p)
      ≡ (let r : Progress ℕ = put (bracket_context s above) the_closing d.becomes (after_decision d p later) in
      all_read s above (past r.goes_on (trees_from s.text old.tables old.nodes (sibling_of old.nodes ix)))
      (read_to d p later (left_without_numbers r.left)))
  closer_reads d stands is p later are =
      let w = bracket_context s above in
      let c = the_closing in
      let ready = stands_rest stands in
      let a = tree_node_at s.text old.tables old.nodes ix in
      let below = trees_from s.text old.tables old.nodes (child_of old.nodes ix) in
      let rest = trees_from s.text old.tables old.nodes (sibling_of old.nodes ix) in
      let from : Progress (Unit {0}) = at_left left old (d.answers ++ later) p in
      let by_number : Progress ℕ = numbered p (d.answers ++ later) in
      let same : closing_of could_be c.node c.rest by_number ≡ c =
      ap (λ (x : Bool). let k : Closing ℕ = record
      { node = c.node; could_be_reference = could_be && not x; rest = c.rest } in k) (sym (are (end_of c.node))) in
      let closes : closed w (closing_of could_be a rest from) from
      ≡ annotate_progress (λ n. tt) (put w c d.becomes (after_decision d p later)) =
      ap (λ (f : Forest Plain). closed w (closing_of could_be a f from) from)
      (sym (plain_from s.text old.tables old.nodes (sibling_of old.nodes ix)))
      ∙ closing_annotate (λ n. tt) w could_be c.node c.rest by_number
      ∙ ap (λ (k : Closing ℕ). annotate_progress (λ n. tt) (closed w k by_number)) same
      ∙ ap (λ (x : Progress ℕ). annotate_progress (λ n. tt) x) (closed_is d p later) in
      ap (λ (f : Forest Plain). all_read s above f from) (opens_chain ready).trees
      ∙ reads_closer s no_notes above could_be a below rest from refl
      (body_open old.tables (slice_range s.text (item_at old.nodes ix).start (item_at old.nodes ix).end)
      (item_at old.nodes ix).body (ap is_open is) ∙ is)
      ∙ ap (λ (x : Progress (Unit {0})). all_read s above (past x.goes_on rest) (record x { goes_on = None })) closes
      ∙ ap (λ (x : Progress ℕ). all_read s above (past x.goes_on rest)
      (record (annotate_progress (λ n. tt) x) { goes_on = None })) (put_keeps w c d.becomes (after_decision d p later))

  -- what it became was put
  pub reads_on_closer : (rest : Continuation) (brackets' wikilinks' : List Waiting) → (d : IsDecided)
      → StandsTo s.text old.tables old.nodes first (Some ix) left → (item_at old.nodes ix).body
      ≡ body.MaybeLinkClose could_be
      → PutsClosed s.text first ix rest d.left_then (bracket_context s above) the_closing d.becomes old.nodes new.nodes
      old.tables new.tables → HoldsPut (bracket_context s above) the_closing d.becomes d.left_then brackets' wikilinks'
      → ReadsOn step s above first (Some ix) rest.next left old new spent spent' brackets' wikilinks'
  reads_on_closer rest brackets' wikilinks' d stands is puts held =
      let next = rest.next in
      let w = bracket_context s above in
      let c = the_closing in
      let some : Progress ℕ = record
      { left = d.left_then; goes_on = None; spent = []; asked = []; state = state_at new []; made = 0 } in
      let holds = held.holds some refl in
      record {
        changes = puts.changes;
        left_then = puts.left_then;
        stands = puts.stands;
        held = record {
          brackets_are = holds.0 ∙ sym (puts.brackets some refl);
          wikilinks_are = holds.1 ∙ sym (puts.wikilinks some refl);
        };
        answers = d.answers;
        questions = d.questions;
        asked = d.asked;
        ends = d.more;
        spends = d.spends;
        made = 0;
        reads = λ p later are.
            let q : Progress ℕ = after_decision d p later in
            let r = put w c d.becomes q in
            let made : p.made ≡ p.made + 0 = omega arith in
            closer_reads d stands is p later are ∙ ap (λ (f : Forest Plain). all_read s above f
            (read_to d p later (left_without_numbers r.left))) (sym (puts.rest_is q refl))
            ∙ ap (λ (l : List (Entry (Unit {0}))). all_read s above (chain_at s.text new next) (read_to d p later l))
            (sym (puts.puts q refl)) ∙ ap (λ (made : ℕ). all_read s above (chain_at s.text new next)
            (at_left puts.left_then new later
            (record p { spent = d.more ++ p.spent; asked = p.asked ++ d.questions; made = made }))) made;
      }

  -- memory was refused before it was put
  pub stops_at_closer : (d : IsDecided)
      → StandsTo s.text old.tables old.nodes first (Some ix) left → (item_at old.nodes ix).body
      ≡ body.MaybeLinkClose could_be → StopsOn step s above (Some ix) left old spent new.callback
  stops_at_closer d stands is = record {
    answers = d.answers;
    questions = d.questions;
    asked = d.asked;
    begins = λ p later are.
        let r : Progress ℕ = put (bracket_context s above) the_closing d.becomes (after_decision d p later) in
        let then_asks = all_asks s above
        (past r.goes_on (trees_from s.text old.tables old.nodes (sibling_of old.nodes ix)))
        (read_to d p later (left_without_numbers r.left)) in (
          then_asks.more,
          ap (λ (q : Progress (Unit {0})). q.asked) (closer_reads d stands is p later are) ∙ then_asks.asked,
        );
  }
