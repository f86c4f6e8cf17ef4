-- What is tried for an opener comes to what was found.
use Rattle.std.proofs.Common.{◌≡◌, ℕ, ◌++◌, Bool, true, false, List, [], ◌∷◌, Option, Some, None, is_some, refl, sym}
use Rattle.std.proofs.Common.{◌∙◌, ap, subst, append-nil, arith}
use Rattle.std.specs.Option.{option_map, option_or}
use Rattle.std.proofs.lemmas.Bool.Decides.{nat_tests}
use Rattle.std.specs.Prelude.{IfSome, ◌==◌, ◌||◌, if◌then◌else◌, unwrap_or}
use Rattle.markdown_base.specs.CowText.{text_of}
use Rattle.markdown_base.specs.Event.{LinkView}
use Rattle.markdown_base.specs.Questions.{Question, Answer, Answers}
use Rattle.markdown_base.specs.declared.item.ItemBody.{ItemBody}
use Rattle.markdown_base.specs.declared.tag.LinkType.{LinkType}
use Rattle.markdown_base.specs.declared.tag.LinkType.TheVariants as kind
use Rattle.markdown_document.specs.ChainRest.{start_of}
use Rattle.markdown_document.specs.LinkOrigins.{IsTitleFrom, titles_for}
use Rattle.markdown_document.specs.Origins.{origin_of}
use Rattle.markdown_document.specs.Setting.{DefinitionsByLabel, by_label, uses_of}
use Rattle.markdown_document.specs.declared.chain_place.ChainPlace.{ChainPlace}
use Rattle.markdown_defs.specs.CallbackViews.{question_of}
use Rattle.markdown_defs.specs.declared.callback.BrokenLink.{BrokenLink}
use Rattle.markdown_defs.specs.Folding.{is_match}
use Rattle.markdown_defs.specs.Footnotes.{footnote_at}
use Rattle.markdown_defs.specs.FootnoteCounts as footnotes
use Rattle.markdown_brackets.specs.BracketDecision.{BracketContext, Becomes, Written, LinkReference, Progress, a_text}
use Rattle.markdown_brackets.specs.BracketDecision.{a_link, a_footnote, carried_out, footnote_label, footnote_written}
use Rattle.markdown_brackets.specs.BracketDecision.{inline_link, inline_target, inline_title, link_reference, looked_up}
use Rattle.markdown_brackets.specs.BracketDecision.{names_read, question_at, to_be, uses_once_more}
use Rattle.markdown_brackets.specs.FootnoteUse.{footnote_style, is_reference}
use Rattle.markdown_brackets.specs.DecisionView.{IsBecome, knowing}
use Rattle.markdown_brackets.specs.LeftList.{Split}
use Rattle.markdown_brackets.specs.LinkTail as scanned
use Rattle.markdown_brackets.specs.LinkTailView.{IsTail, ReadsTail}
use Rattle.markdown_brackets.specs.Lookup.{LookedUp, answered, look_up, unknown}
use Rattle.markdown_brackets.specs.LookupView.{LooksUp}
use Rattle.markdown_brackets.specs.StandsAt.{Spends, ComesTo, bracket_context_by, reference_to}
use Rattle.markdown_brackets.specs.SpentEnds.{is_spent}
use Rattle.markdown_brackets.specs.TargetOrigins.{IsLookedUp, IsTargetFrom, titles_of}
use Rattle.markdown_brackets.specs.declared.closing_bracket.ClosedBracket.{ClosedBracket}
use Rattle.markdown_brackets.specs.declared.closing_bracket.ClosedBracket.TheVariants.{Text}
use Rattle.markdown_brackets.specs.declared.footnote.FootnoteStyle.{FootnoteStyle}
use Rattle.markdown_brackets.specs.declared.footnote.FootnoteStyle.TheVariants as style
use Rattle.markdown_brackets.specs.declared.link_tail.LinkTail.{LinkTail}
use Rattle.markdown_brackets.specs.declared.look_up.LabelLookup.{LabelLookup}
use Rattle.markdown_brackets.specs.declared.look_up.Target.{Target}
use Rattle.markdown_brackets.specs.declared.spent_ends.SpentEnds.{SpentEnds}
use Rattle.markdown_brackets.proofs.FootnoteUseLemmas.{uses_grow, uses_stay}
use Rattle.markdown_brackets.proofs.LookupLawsLemmas.{of_look_up}
use Rattle.std.proofs.Math.Bool.{or-false}

-- a link that was looked up is no inline link
unknown_looked_up : (link_type : LinkType) → IsLookedUp link_type → IsLookedUp (unknown link_type)
unknown_looked_up kind.Inline h = h
unknown_looked_up kind.Reference h = tt
unknown_looked_up kind.Collapsed h = tt
unknown_looked_up kind.Shortcut h = tt
unknown_looked_up other h = h

abbrev pub IsNoInline : Option LinkView → Type 0
IsNoInline target = IfSome target (λ t. IsLookedUp t.kind)

none_inline : (defined : DefinitionsByLabel) (asks : Bool) (limit : ℕ) (answers : Answers) (q : Question)
    → IsLookedUp q.link_type
    → IsNoInline (look_up defined asks limit answers q).target
none_inline defined asks limit answers q h =
    of_look_up limit answers q (λ l. IsNoInline l.target) tt (λ d. h) by defined asks
  where
    by : (a : Option Answer) (later : Answers) → IsNoInline (answered limit later q a).target
    by None later = tt
    by (Some a) later = unknown_looked_up q.link_type h

-- so nothing is said of its title
pub no_titles : (target : Target) → IsLookedUp target.link_type → titles_of target ≡ []
no_titles target h = by target.link_type h
  where
    by : (link_type : LinkType) → IsLookedUp link_type → titles_for link_type (origin_of target.title) ≡ []
    by kind.Inline h = absurd h
    by other h = refl

pub none_from : (source : List ℕ) (start end : ℕ) (target : Target) → IsLookedUp target.link_type
    → IsTargetFrom source start end target
none_from source start end target h = by target.link_type h
  where
    by : (link_type : LinkType) → IsLookedUp link_type → IsTitleFrom source start end link_type (origin_of target.title)
        (text_of target.title)
    by kind.Inline h = absurd h
    by other h = tt

module _ {C : Type 0} (step : C → Question → Option Answer → C → Type 0) (w : BracketContext) (old : LabelLookup C)
    (spent : SpentEnds) where
  -- where nobody is asked and no end is used up
  comes_unasked : (new : LabelLookup C) (x : Option (Written ℕ)) (becomes : Becomes ℕ) (found : ClosedBracket)
      → new.callback ≡ old.callback
      → ((p : Progress ℕ) (later : Answers)
      → carried_out w x (knowing old.limit later (uses_of old.tables.footdefs) p)
      ≡ to_be becomes (knowing new.limit later (uses_of new.tables.footdefs) p))
      → IsBecome w becomes found → ComesTo step w x old new spent spent found
  comes_unasked new x becomes found callback carried is = record {
    answers = [];
    questions = [];
    asked = sym callback;
    becomes = becomes;
    more = [];
    comes = λ p later.
        let now : Progress ℕ = knowing new.limit later (uses_of new.tables.footdefs) p in
        carried p later
        ∙ ap (λ (asked : List Question). to_be becomes (record now { asked = asked })) (sym (append-nil p.asked));
    spends = λ end. refl;
    is = is;
  }

  -- where nothing is found
  pub comes_to_text : ComesTo step w None old old spent spent Text
  comes_to_text = comes_unasked old None a_text Text refl (λ p later. refl) tt

  -- an inline link
  pub comes_to_tail : (o : Split ℕ) (other : Option (Written ℕ)) (t : Option scanned.LinkTail) (tail : LinkTail)
      (found : ClosedBracket) → ReadsTail (names_read w) w.above.in_table t (Some tail)
      → ((t : scanned.LinkTail) → IsTail (names_read w) w.above.in_table t tail
      → IsBecome w (a_link o (inline_target w t) (inline_title w t ∷ []) t.ends t.ends) found)
      → ComesTo step w (option_or (option_map (inline_link o) t) other) old old spent spent found
  comes_to_tail o other None tail found reads is = absurd reads
  comes_to_tail o other (Some t) tail found reads is = comes_unasked old (Some (inline_link o t))
      (a_link o (inline_target w t) (inline_title w t ∷ []) t.ends t.ends) found refl (λ p later. refl) (is t reads)

-- by another name of what was found
pub found_as : {C : Type 0} {step : C → Question → Option Answer → C
    → Type 0} {w : BracketContext} {old new : LabelLookup C}
    {spent spent' : SpentEnds} {found : ClosedBracket} {x y : Option (Written ℕ)} → x ≡ y
    → ComesTo step w x old new spent spent' found
    → ComesTo step w y old new spent spent' found
found_as e h = rw e at h

-- a full reference uses up the end of its label
pub spends_end : (end : ℕ) (spent spent' : SpentEnds)
    → ((other : ℕ) → is_spent spent' other ≡ ((end == other) || is_spent spent other)) → Spends (end ∷ []) spent spent'
spends_end end spent spent' put other = put other ∙ rw (same_test end other, or-false (other == end)) refl
  where
    same_test : (a b : ℕ) → (a == b) ≡ (b == a)
    same_test a b = grind (arith, nat_tests)

module _ {C : Type 0} (step : C → Question → Option Answer → C → Type 0) (place : ChainPlace) (skipped : List ℕ → ℕ)
    (bodies : List ItemBody) (old new : LabelLookup C) (o : Split ℕ) where
  abbrev w : BracketContext
  w = bracket_context_by place skipped bodies old

  -- a label that was looked up
  abbrev pub link_or_text : (end next : ℕ) → Option LinkView → Becomes ℕ
  link_or_text end next target = unwrap_or (option_map (λ t. a_link o t [] end next) target) a_text

  pub comes_to_reference : (about : BrokenLink) (next : ℕ) (spends : List ℕ) (spent spent' : SpentEnds)
      (target : Option LinkView) (found : ClosedBracket)
      → about.span.start ≡ start_of o.opener → new.tables ≡ old.tables → Spends spends spent spent'
      → IsLookedUp about.link_type → LooksUp step old new (question_of about) target
      → (IsNoInline target → IsBecome w (link_or_text about.span.end next target) found)
      → ComesTo step w (Some (link_reference o (reference_to about next spends))) old new spent spent' found
  comes_to_reference about next spends spent spent' target found start same spent_so kind asks is = record {
    answers = looks.answers;
    questions = looks.questions;
    asked = looks.asked;
    becomes = link_or_text about.span.end next target;
    more = spends;
    comes = λ p later.
        let before : Progress ℕ = knowing old.limit (looks.answers ++ later) (uses_of old.tables.footdefs) p in
        ap (λ (l : LookedUp). looked_up o r l before) (looks.finds later) ∙ rw same refl;
    spends = spent_so;
    is = is (subst (λ (f : LookedUp). IsNoInline f.target) (looks.finds [])
        (none_inline (by_label old.tables.refdefs) (is_some old.callback) old.limit (looks.answers ++ [])
        (question_at o r) kind));
  }
    where
      r : LinkReference
      r = reference_to about next spends

      looks : LooksUp step old new (question_at o r) target
      looks =
          subst (λ n. let q : Question =
          record { span = record { start = n; end = r.end }; link_type = r.link_type; reference = r.label } in LooksUp
          step old new q target)
          start asks

  -- a footnote label
  module _ (name : List ℕ) (spent : SpentEnds) (limit : new.limit ≡ old.limit) (callback : new.callback ≡ old.callback)
      (counted : (other : List ℕ) → footnote_at new.tables.footdefs other
      ≡ (if is_match name other then option_map footnotes.used_once_more (footnote_at old.tables.footdefs name)
      else footnote_at old.tables.footdefs other)) where
    abbrev is_one : Bool
    is_one = is_reference (footnote_style place.syntax) (is_some (footnote_at old.tables.footdefs name))

    -- a use is counted, or nothing has changed
    knows_uses : (d : Bool) → is_some (footnote_at old.tables.footdefs name) ≡ d → (p : Progress ℕ) (later : Answers)
        → knowing old.limit later
        (if d then uses_once_more name (uses_of old.tables.footdefs) else uses_of old.tables.footdefs) p
        ≡ knowing new.limit later (uses_of new.tables.footdefs) p
    knows_uses true e p later = rw (limit, uses_grow old.tables.footdefs new.tables.footdefs name counted e) refl
    knows_uses false e p later = rw (limit, uses_stay old.tables.footdefs new.tables.footdefs name counted e) refl

    pub comes_to_footnote : is_one ≡ true → (found : ClosedBracket) → IsBecome w (a_footnote o name) found
        → ComesTo step w (footnote_written w o name) old new spent spent found
    comes_to_footnote one found is = found_as (rw one refl)
        (comes_unasked step w old spent new (Some (footnote_label o name)) (a_footnote o name) found callback
        (λ p later. ap (to_be (a_footnote o name))
        (knows_uses (is_some (footnote_at old.tables.footdefs name)) refl p later)) is)

    pub comes_to_no_footnote : is_one ≡ false → ComesTo step w (footnote_written w o name) old new spent spent Text
    comes_to_no_footnote none = found_as (rw none refl) (comes_unasked step w old spent new None a_text Text callback
        (λ p later. ap (to_be a_text) (knows_uses false
        (none_defined (footnote_style place.syntax) (is_some (footnote_at old.tables.footdefs name)) none) p later))
        tt)
      where
        none_defined : (how : FootnoteStyle) (d : Bool) → is_reference how d ≡ false → d ≡ false
        none_defined style.Old d e = cc
        none_defined other d e = e
