-- Two readings of a text whose first answers agree: they are the same up to and including the question after those
-- answers. While each question has got an answer in which both agree, they differ at most in the answers still to come
-- (`in_step`). From the next question on both have asked the same questions up to and including that one (`apart`), and
-- later ones are only added.
use Rattle.std.proofs.Common.{◌≡◌, ◌∙◌, ◌+◌, ◌++◌, ◌≤◌, ℕ, zero, suc, ◌==◌, Bool, true, false, List, [], ◌∷◌}
use Rattle.std.proofs.Common.{Option, Some, None, ap, arith, cond, length, map, nat_le, refl, sym}
use Rattle.std.proofs.lemmas.List.{append-nil, append_assoc, length-append}
use Rattle.std.specs.declared.ops.Range.{Range}
use Rattle.markdown_base.specs.BlockParts.{DefinitionView}
use Rattle.markdown_base.specs.Event.{end, hard_break, start, tag_end}
use Rattle.markdown_base.specs.Forest.{Forest, nil, node}
use Rattle.markdown_base.specs.Questions.{Answer, Answers, Question}
use Rattle.markdown_base.specs.Source.{Source}
use Rattle.markdown_base.specs.declared.item.ItemBody.{ItemBody}
use Rattle.markdown_base.specs.declared.item.ItemBody.TheVariants as body
use Rattle.markdown_brackets.specs.BracketDecision.{Becomes, BracketContext, Closing, Decision, LinkReference, Progress}
use Rattle.markdown_brackets.specs.BracketDecision.{Step, Written, a_text, carried_out, decided, found, left_for_one}
use Rattle.markdown_brackets.specs.BracketDecision.{link_reference, looked_up, question_at, second_end}
use Rattle.markdown_brackets.specs.ClosingBracket.{closed, put, put_decided}
use Rattle.markdown_brackets.specs.LeftList.{Split, bracket_taken}
use Rattle.markdown_brackets.specs.Lookup.{LookedUp, answered, asked, defined_or_asked, finds_nothing, look_up}
use Rattle.markdown_brackets.specs.ReadChain.{Reader, begun, closing_of, opened, read, read_as, read_chain, read_past}
use Rattle.markdown_document.specs.ChainRest.{begun_at, end_of, open_body}
use Rattle.markdown_document.specs.Document.{Notes, Shape, TreeNode, backslash_break, enclosed, leaf, no_notes, plain}
use Rattle.markdown_document.specs.Document.{unresolved}
use Rattle.markdown_document.specs.EnclosingBlocks.{EnclosingBlocks, inside_node, no_blocks}
use Rattle.markdown_document.specs.Setting.{ReferenceState, Setting, setting_of}
use Rattle.markdown_inline.specs.DocumentOfText.{document_of}
use Rattle.markdown_inline.specs.Elements.{Element, Placed, Reading, event, nothing_read, question, then_reads}
use Rattle.markdown_inline.specs.Reading.{chain_reading, closed_reading, reading, reading_opened, then_resolved}
use Rattle.markdown_inline.specs.ReadingOfText.{reading_of_text, rules_of_text, state_at_start}
use Rattle.markdown_resolver.specs.Laws.{with_answers}
use Rattle.markdown_resolver.specs.PassOne.{bracket_context, outcome, pass_one, read_other}
use Rattle.markdown_resolver.specs.Resolved.{all_paired, resolved, then_paired}
use Rattle.markdown_text_records.specs.AnswersInOrder.{AnswersInOrder, AreNone, NoneAtTheEnd, until_question}

-- the next answer, and those after it; one that is not given is None
abbrev next : Answers → Option Answer
next [] = None
next (a ∷ answers) = a

abbrev after_next : Answers → Answers
after_next [] = []
after_next (a ∷ answers) = answers

-- so many first answers are the same
abbrev Agree : ℕ → Answers → Answers → Type 0
Agree zero answers others = Unit {0}
Agree (suc n) answers others = (next answers ≡ next others) × Agree n (after_next answers) (after_next others)

-- the look-ups for a question by two lists of answers, of which so many first ones agree: either the same is found, and
-- the answers left agree; or none agree, and both ask it
data LooksUp (agreed : ℕ) (q : Question) (one other : LookedUp) : Type 0 where
  alike : (left : ℕ) (answers : Answers) → length one.questions + left ≡ agreed → Agree left one.answers answers
      → other ≡ record one { answers = answers } → LooksUp agreed q one other
  unlike : agreed ≡ 0 → one.questions ≡ q ∷ [] → other.questions ≡ q ∷ [] → LooksUp agreed q one other

asked_next : (limit : ℕ) (answers : Answers) (q : Question)
    → asked limit answers q ≡ answered limit (after_next answers) q (next answers)
asked_next limit [] q = refl
asked_next limit (a ∷ answers) q = refl

answered_asks : (limit : ℕ) (answers : Answers) (q : Question) (a : Option Answer)
    → (answered limit answers q a).questions ≡ q ∷ []
answered_asks limit answers q None = refl
answered_asks limit answers q (Some a) = refl

answered_alike : (agreed limit : ℕ) (answers others : Answers) (q : Question) (a : Option Answer)
    → Agree agreed answers others
    → LooksUp (suc agreed) q (answered limit answers q a) (answered limit others q a)
answered_alike agreed limit answers others q None g = alike agreed others (omega arith) g refl
answered_alike agreed limit answers others q (Some a) g = alike agreed others (omega arith) g refl

asked_alike : (agreed limit : ℕ) (answers others : Answers) (q : Question) → Agree agreed answers others
    → LooksUp agreed q (answered limit (after_next answers) q (next answers))
    (answered limit (after_next others) q (next others))
asked_alike zero limit answers others q g =
    unlike refl (answered_asks limit (after_next answers) q (next answers))
    (answered_asks limit (after_next others) q (next others))
asked_alike (suc agreed) limit answers others q g =
    rw (← g.0) (answered_alike agreed limit (after_next answers) (after_next others) q (next answers) g.1)

look_up_alike : (zero asks : Bool) (limit agreed : ℕ) (answers others : Answers) (q : Question)
    (o : Option DefinitionView) → Agree agreed answers others
    → LooksUp agreed q (cond zero (finds_nothing limit answers []) (defined_or_asked asks limit answers q o))
    (cond zero (finds_nothing limit others []) (defined_or_asked asks limit others q o))
look_up_alike true asks limit agreed answers others q o g = alike agreed others (omega arith) g refl
look_up_alike false asks limit agreed answers others q (Some d) g = alike agreed others (omega arith) g refl
look_up_alike false false limit agreed answers others q None g = alike agreed others (omega arith) g refl
look_up_alike false true limit agreed answers others q None g =
    rw (asked_next limit answers q, asked_next limit others q) (asked_alike agreed limit answers others q g)

-- a list begins with these
record Begins {A : Type 0} (first whole : List A) : Type 0 where
  pub rest : List A
  pub is : whole ≡ first ++ rest

begins_whole : {A : Type 0} {l m : List A} → m ≡ l → Begins l m
begins_whole {A} {l} e = record { rest = []; is = e ∙ sym (append-nil l) }

begins_twice : {A : Type 0} {l m k : List A} → Begins l m → Begins m k → Begins l k
begins_twice {A} {l} a b =
    record { rest = a.rest ++ b.rest; is = b.is ∙ ap (λ m. m ++ b.rest) a.is ∙ append_assoc l a.rest b.rest }

-- the same progress, with other answers to come
abbrev with_others : {A : Type 0} → Answers → Progress A → Progress A
with_others answers p = record p { state = with_answers answers p.state }

-- two progresses through a chain for which so many first answers agreed at its start
data SameUntil {A : Type 0} (agreed : ℕ) (p q : Progress A) : Type 0 where
  in_step : (left : ℕ) (answers : Answers) → length p.asked + left ≡ agreed → Agree left p.state.answers answers
      → q ≡ with_others answers p → SameUntil agreed p q
  apart : (first : List Question) → length first ≡ suc agreed → Begins first p.asked → Begins first q.asked
      → SameUntil agreed p q

-- a step only adds questions, and answers that agree have the same effect on it
record AsksInOrder {A : Type 0} (step : Step A) (p : Progress A) : Type 0 where
  pub grows : Begins p.asked (step p).asked
  pub same : (agreed left : ℕ) (answers : Answers) → length p.asked + left ≡ agreed
      → Agree left p.state.answers answers → SameUntil agreed (step p) (step (with_others answers p))

-- a step that asks nothing
quiet : {A : Type 0} (step : Step A) (p : Progress A) → (step p).asked ≡ p.asked
    → (step p).state.answers ≡ p.state.answers
    → ((answers : Answers) → step (with_others answers p) ≡ with_others answers (step p)) → AsksInOrder step p
quiet step p e f h = record {
  grows = begins_whole e;
  same = λ agreed left answers count g. in_step left answers (rw e count) (rw f g) (h answers);
}

-- a step in both readings
step_both : {A : Type 0} (step : Step A) → ((p : Progress A) → AsksInOrder step p) → (agreed : ℕ) (p q : Progress A)
    → SameUntil agreed p q → SameUntil agreed (step p) (step q)
step_both step h agreed p q (in_step left answers count g same) =
    rw same ((h p).same agreed left answers count g)
step_both step h agreed p q (apart first count here there) =
    apart first count (begins_twice here (h p).grows) (begins_twice there (h q).grows)

module _ {A : Type 0} (w : BracketContext) (c : Closing A) where
  put_keeps : (b : Becomes A) (p : Progress A) → ((put w c b p).asked ≡ p.asked) × ((put w c b p).state ≡ p.state)
  put_keeps a_text p = (refl, refl)
  put_keeps other p = (refl, refl)

  put_with_others : (b : Becomes A) (answers : Answers) (p : Progress A)
      → put w c b (with_others answers p) ≡ with_others answers (put w c b p)
  put_with_others a_text answers p = refl
  put_with_others other answers p = refl

  -- a look-up is carried out
  module _ (o : Split A) (r : LinkReference) where
    abbrev looks : LookedUp → Step A
    looks l p = put_decided w c (looked_up o r l p)

    looks_asked : (l : LookedUp) (p : Progress A) → (looks l p).asked ≡ p.asked ++ l.questions
    looks_asked l p = (put_keeps (looked_up o r l p).becomes (looked_up o r l p).progress).0

    looks_same : (p : Progress A) (agreed left : ℕ) (answers : Answers) (l m : LookedUp)
        → length p.asked + left ≡ agreed → LooksUp left (question_at o r) l m
        → SameUntil agreed (looks l p) (looks m (with_others answers p))
    looks_same p agreed left answers l m sum (alike after others count g same) =
        let d : Decision A = looked_up o r l p in
        let long : length (looks l p).asked ≡ length p.asked + length l.questions =
        ap length (looks_asked l p) ∙ length-append p.asked l.questions in
        in_step after others (omega (arith, long, sum, count)) (rw (put_keeps d.becomes d.progress).1 g)
        (ap (λ (m : LookedUp). looks m (with_others answers p)) same ∙ put_with_others d.becomes others d.progress)
    looks_same p agreed left answers l m sum (unlike none here there) =
        apart (p.asked ++ question_at o r ∷ [])
        (omega (arith, sum, none, length-append p.asked (question_at o r ∷ [])))
        (begins_whole (rw (← here) (looks_asked l p)))
        (begins_whole (rw (← there) (looks_asked m (with_others answers p))))

  carried_asks : (x : Option (Written A)) (p : Progress A) → AsksInOrder (λ q. put_decided w c (carried_out w x q)) p
  carried_asks (Some (link_reference o r)) p =
      let q : Question = question_at o r in
      let rules = w.setting.rules in
      let l : Answers → LookedUp = λ answers. look_up rules.definitions rules.asks p.state.limit answers q in
      record {
        grows = record { rest = (l p.state.answers).questions; is = looks_asked o r (l p.state.answers) p };
        same = λ agreed left answers count g.
            looks_same o r p agreed left answers (l p.state.answers) (l answers) count
            (look_up_alike (p.state.limit == 0) rules.asks p.state.limit left p.state.answers answers q
            (rules.definitions q.reference) g);
      }
  carried_asks x p = quiet (λ q. put_decided w c (carried_out w x q)) p refl refl (λ answers. refl)

closed_asks : {A : Type 0} (w : BracketContext) (c : Closing A) (p : Progress A) → AsksInOrder (closed w c) p
unfolding closed decided
closed_asks w c p =
    let second = second_end w c.rest in
    let r = carried_asks w c (found w c second p.left) (record p { left = bracket_taken (left_for_one second p.left) })
    in
    record { grows = r.grows; same = r.same }

module _ {A : Type 0} (w : BracketContext) (others : Reader A)
    (rule : (a : TreeNode A) (below rest : Forest (TreeNode A)) (p : Progress A)
    → AsksInOrder (others a below rest) p) where
  read_as_asks : (b : ItemBody) (a : TreeNode A) (below rest : Forest (TreeNode A)) (p : Progress A)
      → AsksInOrder (read_as w others b a below rest) p
  read_as_asks body.MaybeLinkOpen a below rest p = quiet (opened w false a rest) p refl refl (λ answers. refl)
  read_as_asks body.MaybeImage a below rest p = quiet (opened w true a rest) p refl refl (λ answers. refl)
  read_as_asks (body.MaybeLinkClose could) a below rest p =
      let r = closed_asks w (closing_of could a rest p) p in
      record { grows = r.grows; same = r.same }
  read_as_asks other a below rest p = rule a below rest p

  read_past_asks : (o : Option ℕ) (a : TreeNode A) (below rest : Forest (TreeNode A)) (p : Progress A)
      → AsksInOrder (read_past w others o a below rest) p
  read_past_asks None a below rest p = read_as_asks (open_body a.part.shape) a below rest p
  read_past_asks (Some i) a below rest p = by (nat_le (end_of a) i)
    where
      by : (b : Bool)
          → AsksInOrder (λ p. cond b p (read w others (begun_at i a) below rest (record p { goes_on = None }))) p
      by true = quiet (λ p. p) p refl refl (λ answers. refl)
      by false =
          let r = read_as_asks (open_body (begun_at i a).part.shape) (begun_at i a) below rest
          (record p { goes_on = None }) in
          record { grows = r.grows; same = r.same }

  chain_asks : (chain : Forest (TreeNode A)) (p : Progress A) → AsksInOrder (read_chain w others chain) p
  unfolding read_chain
  chain_asks nil p = quiet (λ p. p) p refl refl (λ answers. refl)
  chain_asks (node a below rest) p =
      let here = read_past_asks p.goes_on a below rest p in
      record {
        grows = begins_twice here.grows (chain_asks rest (read_past w others p.goes_on a below rest p)).grows;
        same = λ agreed left answers count g.
            step_both (read_chain w others rest) (λ p. chain_asks rest p) agreed _ _
            (here.same agreed left answers count g);
      }

-- a reading is the same up to and including the question after the answers that agree
abbrev InOrder : Reading → Type 0
InOrder r = (agreed : ℕ) (state : ReferenceState) (answers : Answers) → Agree agreed state.answers answers
    → until_question agreed (r state).elements ≡ until_question agreed (r (with_answers answers state)).elements

then_in_order : (e : Placed) (r : Reading) → InOrder r → InOrder (then_reads e r)
then_in_order e r h agreed state answers g = ap (λ (es : List Element). event e ∷ es) (h agreed state answers g)

opened_in_order : (shape : Shape) (range : Range ℕ) (inside : Reading → Reading) (after whole : Reading)
    → ((r : Reading) → InOrder r → InOrder (inside r)) → InOrder after → InOrder whole
    → InOrder (reading_opened shape range inside after whole)
opened_in_order (leaf e origins) range inside after whole i a o = then_in_order (e, range, origins) after a
opened_in_order (enclosed tag origins) range inside after whole i a o =
    let ends : Reading = then_reads (end (tag_end tag), range, []) after in
    then_in_order (start tag, range, origins) (inside ends)
    (i ends (then_in_order (end (tag_end tag), range, []) after a))
opened_in_order plain range inside after whole i a o = i after a
opened_in_order backslash_break range inside after whole i a o = then_in_order (hard_break, range, []) after a
opened_in_order (unresolved b) range inside after whole i a o = o

closed_in_order : {A : Type 0} (f : Forest (TreeNode A)) (after : Reading) → InOrder after
    → InOrder (closed_reading f after)
closed_in_order nil after h = h
closed_in_order (node a below later) after h =
    opened_in_order a.part.shape a.part.range (λ inner. closed_reading below inner) (closed_reading later after)
    (closed_reading later after) (λ r k. closed_in_order below r k) (closed_in_order later after h)
    (closed_in_order later after h)

-- past fewer questions, and within more
until_past : (n left : ℕ) (qs : List Question) (es : List Element) → length qs + left ≡ n
    → until_question n (map question qs ++ es) ≡ map question qs ++ until_question left es
until_past n left [] es e = ap (λ n. until_question n es) (omega (arith, e))
until_past zero left (q ∷ qs) es e = absurd (omega (arith, e))
until_past (suc n) left (q ∷ qs) es e =
    ap (λ (es : List Element). question q ∷ es) (until_past n left qs es (omega (arith, e)))

until_within : (n : ℕ) (first rest : List Question) (es : List Element) → length first ≡ suc n
    → until_question n (map question (first ++ rest) ++ es) ≡ map question first
until_within n [] rest es e = absurd (omega (arith, e))
until_within zero (q ∷ []) rest es e = refl
until_within zero (q ∷ r ∷ first) rest es e = absurd (omega (arith, e))
until_within (suc n) (q ∷ first) rest es e =
    ap (λ (es : List Element). question q ∷ es) (until_within n first rest es (omega (arith, e)))

-- a chain that two progresses read is read in order, with what follows
module _ {A : Type 0} (s : Setting) (after : Reading) (h : InOrder after) where
  abbrev read_to : Progress A → List Element
  read_to p = then_resolved s (then_paired s (outcome p)) after

  same_in_order : (agreed : ℕ) (p q : Progress A) → SameUntil agreed p q
      → until_question agreed (read_to p) ≡ until_question agreed (read_to q)
  same_in_order agreed p q (in_step left answers count g same) =
      let rest = closed_in_order (all_paired s (then_paired s (outcome p)).forest) after h left p.state answers g in
      rw same (until_past agreed left p.asked _ count ∙ ap (λ (es : List Element). map question p.asked ++ es) rest
      ∙ sym (until_past agreed left p.asked _ count))
  same_in_order agreed p q (apart first count here there) = within p here ∙ sym (within q there)
    where
      within : (p : Progress A) → Begins first p.asked → until_question agreed (read_to p) ≡ map question first
      within p b = rw b.is (until_within agreed first b.rest _ count)

chain_in_order : {A : Type 0} (s : Setting) (notes : Notes A) (above : EnclosingBlocks) (chain : Forest (TreeNode A))
    (after : Reading)
    → InOrder after → InOrder (chain_reading s notes above chain after)
unfolding resolved pass_one
chain_in_order s notes above chain after h agreed state answers g =
    same_in_order s after h agreed _ _ ((chain_asks (bracket_context s above) (read_other s notes above)
    (λ a below rest p. quiet (read_other s notes above a below rest) p refl refl (λ answers. refl)) chain
    (begun state)).same agreed agreed answers (omega arith) g)

reading_in_order : {A : Type 0} (s : Setting) (notes : Notes A) (above : EnclosingBlocks) (f : Forest (TreeNode A))
    (after : Reading)
    → InOrder after → InOrder (reading s notes above f after)
reading_in_order s notes above nil after h = h
reading_in_order s notes above (node a below later) after h =
    opened_in_order a.part.shape a.part.range (λ inner. reading s notes (inside_node a above) below inner)
    (reading s notes above later after) (chain_reading s notes above (node a below later) after)
    (λ r k. reading_in_order s notes (inside_node a above) below r k) (reading_in_order s notes above later after h)
    (chain_in_order s notes above (node a below later) after h)

-- a text is read the same up to and including the question after the answers that agree
text_in_order : (s : Source) (asks : Bool) (agreed : ℕ) (answers others : Answers) → Agree agreed answers others
    → until_question agreed (reading_of_text s asks answers) ≡ until_question agreed (reading_of_text s asks others)
text_in_order s asks agreed answers others g =
    reading_in_order (setting_of s.text (rules_of_text s asks)) no_notes (no_blocks s.text) (document_of s) nothing_read
    (λ agreed state answers g. refl) agreed (state_at_start s.text answers) others g

agree_given : (given later other : Answers) → Agree (length given) (given ++ later) (given ++ other)
agree_given [] later other = tt
agree_given (a ∷ given) later other = (refl, agree_given given later other)

pub answers_in_order : AnswersInOrder
answers_in_order s given later other =
    text_in_order s true (length given) (given ++ later) (given ++ other) (agree_given given later other)

-- an answer that is not given agrees with None
agree_none : (n : ℕ) (given none : Answers) → AreNone none → Agree n (given ++ none) given
agree_none zero given none k = tt
agree_none (suc n) [] [] k = (refl, agree_none n [] [] k)
agree_none (suc n) [] (a ∷ none) k = (k.0, agree_none n [] none k.1)
agree_none (suc n) (a ∷ given) none k = (refl, agree_none n given none k)

-- there are no more questions than elements
until_all : (n : ℕ) (es : List Element) → length es ≤ n → until_question n es ≡ es
until_all n [] m = refl
until_all n (event e ∷ es) m = ap (λ (es : List Element). event e ∷ es) (until_all n es (omega (arith, m)))
until_all zero (question q ∷ es) m = absurd (omega (arith, m))
until_all (suc n) (question q ∷ es) m =
    ap (λ (es : List Element). question q ∷ es) (until_all n es (omega (arith, m)))

pub none_at_the_end : NoneAtTheEnd
none_at_the_end s given none k =
    let with_none : List Element = reading_of_text s true (given ++ none) in
    let alone : List Element = reading_of_text s true given in
    let n : ℕ = length with_none + length alone in
    sym (until_all n with_none (omega arith))
    ∙ text_in_order s true n (given ++ none) given (agree_none n given none k)
    ∙ until_all n alone (omega arith)
