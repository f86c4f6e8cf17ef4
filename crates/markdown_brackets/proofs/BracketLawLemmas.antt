-- With one answer for each question, what a bracket makes of a chain is the same whatever answers follow.
use Rattle.std.proofs.Common.{◌≡◌, ℕ, ◌+◌, ◌≤◌, ◌++◌, subst, Bool, true, false, [], Option, Some, None, cond, length}
use Rattle.std.proofs.Common.{refl, sym, ◌∙◌, ap, arith, nat_le}
use Rattle.std.proofs.lemmas.List.{length-append}
use Rattle.markdown_base.specs.Forest.{Forest, nil, node}
use Rattle.markdown_base.specs.Questions.{Question, Answers}
use Rattle.markdown_base.specs.declared.item.ItemBody.{ItemBody}
use Rattle.markdown_base.specs.declared.item.ItemBody.TheVariants as body
use Rattle.markdown_document.specs.Document.{TreeNode}
use Rattle.markdown_document.specs.ChainRest.{begun_at, end_of, open_body}
use Rattle.markdown_brackets.specs.BracketLaws.{with_later, HandsOn, ClosesInOne}
use Rattle.markdown_brackets.specs.BracketDecision.{BracketContext, Becomes, Closing, Decision, Written, LinkReference}
use Rattle.markdown_brackets.specs.BracketDecision.{Progress, a_text, carried_out, decided, found, left_for_one}
use Rattle.markdown_brackets.specs.BracketDecision.{link_reference, looked_up, question_at, second_end}
use Rattle.markdown_brackets.specs.ClosingBracket.{closed, put, put_decided}
use Rattle.markdown_brackets.specs.LeftList.{Split, bracket_taken}
use Rattle.markdown_brackets.specs.Lookup.{LookedUp, look_up}
use Rattle.markdown_document.specs.Setting.{ReferenceState}
use Rattle.markdown_brackets.specs.ReadChain.{Reader, opened, closing_of, read_as, read, read_past, read_chain}
use Rattle.markdown_brackets.proofs.LookupLawsLemmas.{LooksOn, looks_on}

-- a step that asks one question at most
pub record AsksOne {A : Type 0} (step : Progress A → Progress A) (p : Progress A) : Type 0 where
  pub once : length (step p).asked ≤ length p.asked + 1
  pub silent : p.state.limit ≡ 0 → length (step p).asked ≡ length p.asked
  pub hands_on : HandsOn step p

-- one that asks nothing
pub asks_none : {A : Type 0} (step : Progress A → Progress A) (p : Progress A) → (step p).asked ≡ p.asked
    → (step p).state.answers ≡ p.state.answers
    → ((later : Answers) → step (with_later later p) ≡ with_later later (step p)) → AsksOne step p
asks_none step p e f h =
    let n : length (step p).asked ≡ length p.asked = ap length e in
    let m : length (step p).state.answers ≡ length p.state.answers = ap length f in
    record {
      once = omega (arith, n);
      silent = λ z. n;
      hands_on = record { asks = omega (arith, n); takes = omega (arith, n, m); hands_on = λ later l. h later };
    }

module _ {A : Type 0} (w : BracketContext) (c : Closing A) where
  abbrev Asks : (Progress A → Decision A) → Progress A → Type 0
  Asks try p = AsksOne (λ p. put_decided w c (try p)) p

  -- what is put asks nothing and takes no answer
  put_knows : (b : Becomes A) (p : Progress A) → ((put w c b p).asked ≡ p.asked) × ((put w c b p).state ≡ p.state)
  put_knows a_text p = (refl, refl)
  put_knows other p = (refl, refl)

  put_later : (b : Becomes A) (p : Progress A) (later : Answers) → put w c b (with_later later p)
      ≡ with_later later (put w c b p)
  put_later a_text p later = refl
  put_later other p later = refl

  abbrev found_by : ℕ → Answers → Question → LookedUp
  found_by limit answers q = look_up w.setting.rules.definitions w.setting.rules.asks limit answers q

  look_up_law : (o : Split A) (r : LinkReference) (p : Progress A) → Asks (carried_out w (Some (link_reference o r))) p
  look_up_law o r p =
      let q : Question = question_at o r in
      let alone : LookedUp = found_by p.state.limit p.state.answers q in
      let d : Decision A = looked_up o r alone p in
      let here : (later : Answers)
      → LooksOn p.state.answers later alone (found_by p.state.limit (p.state.answers ++ later) q) =
      λ later. looks_on w.setting.rules.definitions w.setting.rules.asks p.state.limit q p.state.answers later in
      let asked : length (put_decided w c d).asked ≡ length p.asked + length alone.questions =
      ap length (put_knows d.becomes d.progress).0 ∙ length-append p.asked alone.questions in
      let left : length (put_decided w c d).state.answers ≡ length alone.answers =
      ap (λ (state : ReferenceState). length state.answers) (put_knows d.becomes d.progress).1 in
      let none = here [] in
      record {
        once = omega (arith, asked, none.once);
        silent = λ z.
            let P : ℕ → Type 0 = λ limit. length (found_by limit p.state.answers q).questions ≡ 0 in
            let nothing : length alone.questions ≡ 0 = subst P (sym z) refl in
            omega (arith, asked, nothing);
        hands_on = record {
          asks = omega (arith, asked);
          takes = omega (arith, asked, left, none.takes);
          hands_on = λ later enough.
              let fits : length alone.questions ≤ length p.state.answers = omega (arith, enough, asked) in
              ap (λ (l : LookedUp). put_decided w c (looked_up o r l (with_later later p))) ((here later).hands_on fits)
              ∙ put_later d.becomes d.progress later;
        };
      }

  carried_law : (x : Option (Written A)) (p : Progress A) → Asks (carried_out w x) p
  carried_law (Some (link_reference o r)) p = look_up_law o r p
  carried_law x p = asks_none (λ p. put_decided w c (carried_out w x p)) p refl refl (λ later. refl)

pub closed_law : {A : Type 0} (w : BracketContext) (c : Closing A) (p : Progress A) → ClosesInOne w c p
unfolding closed decided
closed_law w c p =
    let second = second_end w c.rest in
    let r = carried_law w c (found w c second p.left) (record p { left = bracket_taken (left_for_one second p.left) })
    in
    record {
      once = r.once;
      silent = r.silent;
      hands_on = record { asks = r.hands_on.asks; takes = r.hands_on.takes; hands_on = r.hands_on.hands_on };
    }

-- one step after another
both : {A : Type 0} (f g : Progress A → Progress A) (p : Progress A) → HandsOn f p → HandsOn g (f p)
    → HandsOn (λ q. g (f q)) p
both f g p h k = record {
  asks = omega (arith, h.asks, k.asks);
  takes = omega (arith, h.asks, k.asks, h.takes, k.takes);
  hands_on = λ later enough.
      ap g (h.hands_on later (omega (arith, enough, k.asks)))
      ∙ k.hands_on later (omega (arith, enough, h.asks, h.takes));
}

module _ {A : Type 0} (w : BracketContext) (others : Reader A)
    (rule : (a : TreeNode A) (below rest : Forest (TreeNode A)) (p : Progress A)
    → HandsOn (others a below rest) p) where
  read_as_law : (b : ItemBody) (a : TreeNode A) (below rest : Forest (TreeNode A)) (p : Progress A)
      → HandsOn (read_as w others b a below rest) p
  read_as_law body.MaybeLinkOpen a below rest p
      = (asks_none (opened w false a rest) p refl refl (λ later. refl)).hands_on
  read_as_law body.MaybeImage a below rest p = (asks_none (opened w true a rest) p refl refl (λ later. refl)).hands_on
  read_as_law (body.MaybeLinkClose could) a below rest p =
      let r = (closed_law w (closing_of could a rest p) p).hands_on in
      record { asks = r.asks; takes = r.takes; hands_on = r.hands_on }
  read_as_law other a below rest p = rule a below rest p

  read_past_law : (o : Option ℕ) (a : TreeNode A) (below rest : Forest (TreeNode A)) (p : Progress A)
      → HandsOn (read_past w others o a below rest) p
  read_past_law None a below rest p = read_as_law (open_body a.part.shape) a below rest p
  read_past_law (Some i) a below rest p = by (nat_le (end_of a) i)
    where
      by : (b : Bool) → HandsOn (λ p. cond b p (read w others (begun_at i a) below rest (record p { goes_on = None })))
          p
      by true = (asks_none (λ p. p) p refl refl (λ later. refl)).hands_on
      by false =
          let r = read_as_law (open_body (begun_at i a).part.shape) (begun_at i a) below rest
          (record p { goes_on = None }) in
          record { asks = r.asks; takes = r.takes; hands_on = r.hands_on }

  pub chain_law : (chain : Forest (TreeNode A)) (p : Progress A) → HandsOn (read_chain w others chain) p
  unfolding read_chain
  chain_law nil p = (asks_none (λ p. p) p refl refl (λ later. refl)).hands_on
  chain_law (node a below rest) p =
      let here = read_past_law p.goes_on a below rest p in
      let step : HandsOn (λ q. read_past w others q.goes_on a below rest q) p = record {
        asks = here.asks;
        takes = here.takes;
        hands_on =
            here.hands_on;
      } in
      both (λ q. read_past w others q.goes_on a below rest q) (read_chain w others rest) p step
      (chain_law rest (read_past w others p.goes_on a below rest p))
