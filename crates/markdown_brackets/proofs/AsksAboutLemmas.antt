-- What a `]` asks about: the label that follows it, whose `]` is used up then, or the label that ends with it, if it
-- could be a reference; at most one question, and none at a limit of 0.
use Rattle.std.proofs.Common.{◌≡◌, ◌⊎◌, inl, inr, ⊎_elim, ℕ, ◌+◌, Bool, true, false, ◌&&◌, List, [], ◌∷◌, ◌++◌, Option}
use Rattle.std.proofs.Common.{Some, None, ap, refl, sym, subst, append-nil, drop, if◌then◌else◌}
use Rattle.markdown_base.specs.Forest.{first_root}
use Rattle.std.specs.Option.{option_map}
use Rattle.markdown_base.specs.Questions.{Question, Answers, Answer}
use Rattle.markdown_base.specs.declared.item.Item.{Item}
use Rattle.markdown_document.specs.ChainRest.{as_item, end_of}
use Rattle.markdown_document.specs.Setting.{DefinitionsByLabel}
use Rattle.markdown_brackets.specs.BracketDecision.{BracketContext, Becomes, Closing, Decision, Written, LinkReference}
use Rattle.markdown_brackets.specs.BracketDecision.{Progress, a_text, block_text, carried_out, decided, form_of, found}
use Rattle.markdown_brackets.specs.BracketDecision.{left_for_one, lines, link_reference, past_second, question_at}
use Rattle.markdown_brackets.specs.BracketDecision.{second_end}
use Rattle.markdown_brackets.specs.FootnoteUse.{footnote_style}
use Rattle.markdown_brackets.specs.ClosingBracket.{closed, put}
use Rattle.markdown_brackets.specs.LeftList.{Split, bracket_taken}
use Rattle.markdown_brackets.specs.Lookup.{LookedUp, look_up, answered}
use Rattle.markdown_brackets.specs.Reference.{FoundLabel, collapsed, form_by_label, is_closing_bracket, is_opener}
use Rattle.markdown_brackets.specs.Reference.{bracket_label, reference, shortcut, stands_at}
use Rattle.markdown_brackets.proofs.ClosingBracketLemmas.{IsFull, IsOwn, either, found_cases}
use Rattle.markdown_brackets.proofs.LabelPairLemmas.{IsLabelFrom, label_from}
use Rattle.markdown_brackets.proofs.LookupLawsLemmas.{of_look_up}

-- one question at most, which ends at a byte
abbrev pub AtMostOneTo : ℕ → List Question → Type 0
AtMostOneTo end [] = Unit {0}
AtMostOneTo end (q ∷ []) = q.span.end ≡ end
AtMostOneTo end (q ∷ r ∷ more) = ⊥

-- a look-up asks at most its own question
look_up_asks : (defined : DefinitionsByLabel) (asks : Bool) (limit : ℕ) (answers : Answers) (q : Question)
    → AtMostOneTo q.span.end (look_up defined asks limit answers q).questions
look_up_asks defined asks limit answers q =
    of_look_up limit answers q (λ l. AtMostOneTo q.span.end l.questions) tt (λ d. tt) by defined asks
  where
    by : (a : Option Answer) (later : Answers) → AtMostOneTo q.span.end (answered limit later q a).questions
    by None later = refl
    by (Some a) later = refl

-- what reading asked, which ends it used up, and what is left of the limit
pub record Told : Type 0 where
  pub asked : List Question
  pub spent : List ℕ
  pub limit : ℕ

abbrev pub told_by : {A : Type 0} → Progress A → Told
told_by p = record { asked = p.asked; spent = p.spent; limit = p.state.limit }

module _ {A : Type 0} (w : BracketContext) (c : Closing A) where
  -- the label that follows was asked about, or is defined, and its `]` is used up
  pub record AsksFull (more : List Question) (spent spent' : List ℕ) : Type 0 where
    pub end : ℕ
    pub label : List ℕ
    pub form : form_of w c ≡ reference label end
    pub spends : spent' ≡ end ∷ spent
    pub most : AtMostOneTo end more

  -- or the one that the `]` ends
  pub record AsksOwn (more : List Question) (spent spent' : List ℕ) : Type 0 where
    pub could : c.could_be_reference ≡ true
    pub keeps : spent' ≡ spent
    pub most : AtMostOneTo (end_of c.node) more

  -- or none
  pub record AsksNone (more : List Question) (spent spent' : List ℕ) : Type 0 where
    pub keeps : spent' ≡ spent
    pub none : more ≡ []

  pub record Asks (s t : Told) : Type 0 where
    pub more : List Question
    pub asked : t.asked ≡ s.asked ++ more
    pub silent : s.limit ≡ 0 → (t.limit ≡ 0) × (more ≡ [])
    pub way : AsksFull more s.spent t.spent ⊎ (AsksOwn more s.spent t.spent ⊎ AsksNone more s.spent t.spent)

  asks_none : (s : Told) → Asks s s
  asks_none s = record {
    more = [];
    asked = sym (append-nil s.asked);
    silent = λ z. (z, refl);
    way = inr (inr (record { keeps = refl; none = refl }));
  }

  -- what is looked up
  looked_told : (o : Split A) (r : LinkReference) (p : Progress A) → IsFull w c r ⊎ IsOwn w c r
      → Asks (told_by p) (told_by (carried_out w (Some (link_reference o r)) p).progress)
  looked_told o r p ways =
      let q : Question = question_at o r in
      let at : ℕ → LookedUp = λ (limit : ℕ). look_up w.setting.rules.definitions w.setting.rules.asks limit
      p.state.answers q in
      let found : LookedUp = at p.state.limit in
      let most : AtMostOneTo r.end found.questions =
      look_up_asks w.setting.rules.definitions w.setting.rules.asks p.state.limit p.state.answers q in
      let none : p.state.limit ≡ 0 → (found.limit ≡ 0) × (found.questions ≡ []) =
      λ z. rw z (refl, refl) in
      record {
        more = found.questions;
        asked = refl;
        silent = none;
        way = ⊎_elim
            (λ (h : IsFull w c r).
            inl (record {
              end = r.end;
              label = r.label;
              form = h.form;
              spends = ap (λ (r : LinkReference). r.spends ++ p.spent) h.is;
              most = most;
            }))
            (λ (h : IsOwn w c r). inr (inl (record {
              could = h.could;
              keeps = ap (λ (spends : List ℕ). spends ++ p.spent) h.spends;
              most = subst (λ (n : ℕ). AtMostOneTo n found.questions) h.end most;
            }))) ways;
      }

  decided_told : (p : Progress A) → Asks (told_by p) (told_by (decided w c p).progress)
  unfolding decided
  decided_told p =
      let second = second_end w c.rest in
      let now : Progress A = record p { left = bracket_taken (left_for_one second p.left) } in
      let Told : Option (Written A) → Type 0 = λ x. Asks (told_by p) (told_by (carried_out w x now).progress) in
      either Told (found w c second p.left) (asks_none (told_by p))
      (found_cases w c (λ left. Unit {0}) (record { bracket = λ left h. tt; wikilink = λ left h. tt })
      (λ x. Told (Some x)) second
      (λ left o h e live. record {
        inline = λ t is. asks_none (told_by p);
        refers = λ r way. looked_told o r now way;
        footnote = λ name. asks_none (told_by p);
      })
      (λ left o v end h e live is s. asks_none (told_by p)) p.left tt)

  put_told : (becomes : Becomes A) (p : Progress A) → told_by (put w c becomes p) ≡ told_by p
  put_told a_text p = refl
  put_told other p = refl

  pub closed_told : (p : Progress A) → Asks (told_by p) (told_by (closed w c p))
  unfolding closed
  closed_told p =
      let d : Decision A = decided w c p in
      rw (put_told d.becomes d.progress) (decided_told p)

  -- the label that follows begins where the `]` ends
  pub full_label : (label : List ℕ) (end : ℕ) → form_of w c ≡ reference label end
      → IsLabelFrom (lines w) (block_text w) (end_of c.node) end
  full_label label end e = by (stands_at from is_opener next && stands_at (from + 1) is_closing_bracket after)
      (stands_at from (λ b. true) next) e
    where
      from : ℕ
      from = end_of c.node

      next : Option Item
      next = option_map as_item (first_root c.rest)

      after : Option Item
      after = option_map as_item (first_root (past_second c.rest))

      found : Option FoundLabel
      found = bracket_label (footnote_style w.setting.rules.syntax) (lines w) w.above.in_table
          (drop from (block_text w))

      by_label : (o : Option FoundLabel) → found ≡ o → form_by_label from o ≡ reference label end
          → IsLabelFrom (lines w) (block_text w) from end
      by_label None f e = absurd (cc e)
      by_label (Some l) f e = plain l.is_footnote refl e
        where
          plain : (b : Bool) → l.is_footnote ≡ b → (if b then shortcut else reference l.name (from + l.length))
              ≡ reference label end
              → IsLabelFrom (lines w) (block_text w) from end
          plain true b e = absurd (cc e)
          plain false b e =
              let to : from + l.length ≡ end = cc e in
              subst (IsLabelFrom (lines w) (block_text w) from) to
              (label_from (lines w) w.above.in_table (footnote_style w.setting.rules.syntax) (block_text w) from l f b)

      by : (empty starts : Bool)
          → (if empty then collapsed else if starts then form_by_label from found else shortcut) ≡ reference label end
          → IsLabelFrom (lines w) (block_text w) from end
      by true starts e = absurd (cc e)
      by false true e = by_label found refl e
      by false false e = absurd (cc e)
