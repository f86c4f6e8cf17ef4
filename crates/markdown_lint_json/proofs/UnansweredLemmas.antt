-- Where all answers are None a text is read as where there are none: the same questions and the same events.
use Rattle.std.proofs.Common.{◌≡◌, ◌∙◌, ◌++◌, ℕ, ◌==◌, Bool, true, false, List, [], ◌∷◌, Option, Some, None, ap, cond}
use Rattle.std.proofs.Common.{map, nat_le, refl}
use Rattle.std.specs.declared.ops.Range.{Range}
use Rattle.markdown_base.specs.BlockParts.{DefinitionView}
use Rattle.markdown_base.specs.Event.{end, hard_break, start, tag_end}
use Rattle.markdown_base.specs.Forest.{Forest, nil, node}
use Rattle.markdown_base.specs.Questions.{Answers, Question}
use Rattle.markdown_base.specs.Source.{Source}
use Rattle.markdown_base.specs.declared.item.ItemBody.{ItemBody}
use Rattle.markdown_base.specs.declared.item.ItemBody.TheVariants as body
use Rattle.markdown_brackets.specs.BracketDecision.{Becomes, BracketContext, Closing, Decision, LinkReference, Progress}
use Rattle.markdown_brackets.specs.BracketDecision.{Step, Written, a_text, carried_out, decided, found, left_for_one}
use Rattle.markdown_brackets.specs.BracketDecision.{link_reference, looked_up, question_at, second_end}
use Rattle.markdown_brackets.specs.ClosingBracket.{closed, put, put_decided}
use Rattle.markdown_brackets.specs.LeftList.{Split, bracket_taken}
use Rattle.markdown_brackets.specs.Lookup.{LookedUp, defined_or_asked, finds_nothing, look_up}
use Rattle.markdown_brackets.specs.ReadChain.{Reader, begun, closing_of, opened, read, read_as, read_chain, read_past}
use Rattle.markdown_document.specs.ChainRest.{begun_at, end_of, open_body}
use Rattle.markdown_document.specs.Document.{Notes, Shape, TreeNode, backslash_break, enclosed, leaf, no_notes, plain}
use Rattle.markdown_document.specs.Document.{unresolved}
use Rattle.markdown_document.specs.EnclosingBlocks.{EnclosingBlocks, inside_node, no_blocks}
use Rattle.markdown_document.specs.Setting.{ReferenceState, Setting, setting_of}
use Rattle.markdown_inline.specs.DocumentOfText.{document_of}
use Rattle.markdown_inline.specs.Elements.{Element, Placed, Reading, event, nothing_read, question, then_reads}
use Rattle.markdown_inline.specs.Reading.{chain_reading, closed_reading, reading, reading_opened}
use Rattle.markdown_inline.specs.ReadingOfText.{reading_of_text, rules_of_text, state_at_start}
use Rattle.markdown_resolver.specs.PassOne.{Outcome, bracket_context, outcome, pass_one, read_other}
use Rattle.markdown_resolver.specs.Resolved.{all_paired, resolved, then_paired}

-- all answers are None
abbrev pub AreNone : Answers → Type 0
AreNone [] = Unit {0}
AreNone (a ∷ answers) = (a ≡ None) × AreNone answers

-- what is known, where no answers are to come
abbrev without_answers : ReferenceState → ReferenceState
without_answers state = record state { answers = [] }

abbrev unanswered : {A : Type 0} → Progress A → Progress A
unanswered p = record p { state = without_answers p.state }

-- a look-up where no answers are to come, and the same with answers that are None
record LooksAlike (alone given : LookedUp) : Type 0 where
  pub none : AreNone given.answers
  pub same : alone ≡ record given { answers = [] }

look_up_alike : (zero asks : Bool) (limit : ℕ) (answers : Answers) (q : Question) (o : Option DefinitionView)
    → AreNone answers
    → LooksAlike (cond zero (finds_nothing limit [] []) (defined_or_asked asks limit [] q o))
    (cond zero (finds_nothing limit answers []) (defined_or_asked asks limit answers q o))
look_up_alike true asks limit answers q o n = record { none = n; same = refl }
look_up_alike false asks limit answers q (Some d) n = record { none = n; same = refl }
look_up_alike false false limit answers q None n = record { none = n; same = refl }
look_up_alike false true limit [] q None n = record { none = n; same = refl }
look_up_alike false true limit (None ∷ answers) q None n = record { none = n.1; same = refl }
look_up_alike false true limit (Some a ∷ answers) q None n = cc (n.0)

-- a step is the same without answers, and leaves none but those that are None
record Alike {A : Type 0} (step : Step A) (p : Progress A) : Type 0 where
  pub none : AreNone (step p).state.answers
  pub same : step (unanswered p) ≡ unanswered (step p)

module _ {A : Type 0} (w : BracketContext) (c : Closing A) where
  put_state : (b : Becomes A) (p : Progress A) → (put w c b p).state ≡ p.state
  put_state a_text p = refl
  put_state other p = refl

  put_alike : (b : Becomes A) (p : Progress A) → put w c b (unanswered p) ≡ unanswered (put w c b p)
  put_alike a_text p = refl
  put_alike other p = refl

  carried_alike : (x : Option (Written A)) (p : Progress A) → AreNone p.state.answers
      → Alike (λ q. put_decided w c (carried_out w x q)) p
  carried_alike (Some (link_reference o r)) p n =
      let q : Question = question_at o r in
      let rules = w.setting.rules in
      let l : LookedUp = look_up rules.definitions rules.asks p.state.limit p.state.answers q in
      let here : LooksAlike (look_up rules.definitions rules.asks p.state.limit [] q) l =
      look_up_alike (p.state.limit == 0) rules.asks p.state.limit p.state.answers q (rules.definitions q.reference) n in
      let d : Decision A = looked_up o r l p in
      record {
        none = rw (put_state d.becomes d.progress) here.none;
        same = ap (λ (x : LookedUp). put_decided w c (looked_up o r x (unanswered p))) here.same
            ∙ put_alike d.becomes d.progress;
      }
  carried_alike x p n = record { none = n; same = refl }

closed_alike : {A : Type 0} (w : BracketContext) (c : Closing A) (p : Progress A) → AreNone p.state.answers
    → Alike (closed w c) p
unfolding closed decided
closed_alike w c p n =
    let second = second_end w c.rest in
    let r = carried_alike w c (found w c second p.left) (record p { left = bracket_taken (left_for_one second p.left) })
    n in
    record { none = r.none; same = r.same }

module _ {A : Type 0} (w : BracketContext) (others : Reader A)
    (rule : (a : TreeNode A) (below rest : Forest (TreeNode A)) (p : Progress A) → AreNone p.state.answers
    → Alike (others a below rest) p) where
  read_as_alike : (b : ItemBody) (a : TreeNode A) (below rest : Forest (TreeNode A)) (p : Progress A)
      → AreNone p.state.answers → Alike (read_as w others b a below rest) p
  read_as_alike body.MaybeLinkOpen a below rest p n = record { none = n; same = refl }
  read_as_alike body.MaybeImage a below rest p n = record { none = n; same = refl }
  read_as_alike (body.MaybeLinkClose could) a below rest p n =
      let r = closed_alike w (closing_of could a rest p) p n in
      record { none = r.none; same = r.same }
  read_as_alike other a below rest p n = rule a below rest p n

  read_past_alike : (o : Option ℕ) (a : TreeNode A) (below rest : Forest (TreeNode A)) (p : Progress A)
      → AreNone p.state.answers → Alike (read_past w others o a below rest) p
  read_past_alike None a below rest p n = read_as_alike (open_body a.part.shape) a below rest p n
  read_past_alike (Some i) a below rest p n = by (nat_le (end_of a) i)
    where
      by : (b : Bool) → Alike (λ p. cond b p (read w others (begun_at i a) below rest (record p { goes_on = None }))) p
      by true = record { none = n; same = refl }
      by false =
          let r = read_as_alike (open_body (begun_at i a).part.shape) (begun_at i a) below rest
          (record p { goes_on = None }) n in
          record { none = r.none; same = r.same }

  chain_alike : (chain : Forest (TreeNode A)) (p : Progress A) → AreNone p.state.answers
      → Alike (read_chain w others chain) p
  unfolding read_chain
  chain_alike nil p n = record { none = n; same = refl }
  chain_alike (node a below rest) p n =
      let here = read_past_alike p.goes_on a below rest p n in
      let later = chain_alike rest (read_past w others p.goes_on a below rest p) here.none in
      record { none = later.none; same = ap (read_chain w others rest) here.same ∙ later.same }

-- a chain is resolved to the same without answers
record ResolvesAlike {A : Type 0} (alone given : Outcome A) : Type 0 where
  pub none : AreNone given.state.answers
  pub same : alone ≡ record given { state = without_answers given.state }

resolved_alike : {A : Type 0} (s : Setting) (notes : Notes A) (above : EnclosingBlocks) (chain : Forest (TreeNode A))
    (state : ReferenceState)
    → AreNone state.answers
    → ResolvesAlike (resolved s notes above chain (without_answers state)) (resolved s notes above chain state)
unfolding resolved pass_one
resolved_alike {A} s notes above chain state n =
    let r = chain_alike (bracket_context s above) (read_other s notes above) (λ a below rest p n. record {
      none = n;
      same = refl;
    }) chain (begun state) n in
    record { none = r.none; same = ap (λ (p : Progress A). then_paired s (outcome p)) r.same }

-- a reading has the same elements without answers
abbrev ReadsAlike : Reading → Type 0
ReadsAlike r = (state : ReferenceState) → AreNone state.answers
    → (r (without_answers state)).elements ≡ (r state).elements

then_alike : (e : Placed) (r : Reading) → ReadsAlike r → ReadsAlike (then_reads e r)
then_alike e r h state n = ap (λ (es : List Element). event e ∷ es) (h state n)

opened_alike : (shape : Shape) (range : Range ℕ) (inside : Reading → Reading) (after whole : Reading)
    → ((r : Reading) → ReadsAlike r → ReadsAlike (inside r)) → ReadsAlike after → ReadsAlike whole
    → ReadsAlike (reading_opened shape range inside after whole)
opened_alike (leaf e origins) range inside after whole i a o = then_alike (e, range, origins) after a
opened_alike (enclosed tag origins) range inside after whole i a o =
    let ends : Reading = then_reads (end (tag_end tag), range, []) after in
    then_alike (start tag, range, origins) (inside ends) (i ends (then_alike (end (tag_end tag), range, []) after a))
opened_alike plain range inside after whole i a o = i after a
opened_alike backslash_break range inside after whole i a o = then_alike (hard_break, range, []) after a
opened_alike (unresolved b) range inside after whole i a o = o

closed_reading_alike : {A : Type 0} (f : Forest (TreeNode A)) (after : Reading) → ReadsAlike after
    → ReadsAlike (closed_reading f after)
closed_reading_alike nil after h = h
closed_reading_alike (node a below later) after h =
    opened_alike a.part.shape a.part.range (λ inner. closed_reading below inner) (closed_reading later after)
    (closed_reading later after) (λ r k. closed_reading_alike below r k) (closed_reading_alike later after h)
    (closed_reading_alike later after h)

chain_reading_alike : {A : Type 0} (s : Setting) (notes : Notes A) (above : EnclosingBlocks)
    (chain : Forest (TreeNode A)) (after : Reading)
    → ReadsAlike after → ReadsAlike (chain_reading s notes above chain after)
chain_reading_alike s notes above chain after h state n =
    let r = resolved s notes above chain state in
    let alike = resolved_alike s notes above chain state n in
    let rest = closed_reading_alike (all_paired s r.forest) after h r.state alike.none in
    rw alike.same (ap (λ (es : List Element). map question r.questions ++ es) rest)

reading_alike : {A : Type 0} (s : Setting) (notes : Notes A) (above : EnclosingBlocks) (f : Forest (TreeNode A))
    (after : Reading)
    → ReadsAlike after → ReadsAlike (reading s notes above f after)
reading_alike s notes above nil after h = h
reading_alike s notes above (node a below later) after h =
    opened_alike a.part.shape a.part.range (λ inner. reading s notes (inside_node a above) below inner)
    (reading s notes above later after) (chain_reading s notes above (node a below later) after)
    (λ r k. reading_alike s notes (inside_node a above) below r k) (reading_alike s notes above later after h)
    (chain_reading_alike s notes above (node a below later) after h)

-- a text is read the same
pub reading_unanswered : (s : Source) (asks : Bool) (answers : Answers) → AreNone answers
    → reading_of_text s asks [] ≡ reading_of_text s asks answers
reading_unanswered s asks answers n =
    reading_alike (setting_of s.text (rules_of_text s asks)) no_notes (no_blocks s.text) (document_of s) nothing_read
    (λ state k. refl) (state_at_start s.text answers) n
