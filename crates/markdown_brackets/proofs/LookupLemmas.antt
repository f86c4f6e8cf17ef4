-- Look-ups, case by case.
use Rattle.std.proofs.Common.{◌≡◌, ℕ, ◌==◌, false, [], ◌∷◌, Option, Some, None, refl, sym, ◌∙◌, ◌<◌, MatchOption, arith}
use Rattle.std.proofs.lemmas.Bool.Decides.{nat_tests}
use Rattle.markdown_base.specs.BlockParts.{definition_view}
use Rattle.markdown_base.specs.Event.{LinkView}
use Rattle.markdown_base.specs.Questions.{Question, Answer, Answers}
use Rattle.markdown_base.specs.declared.block_parts.LinkDef.{LinkDef}
use Rattle.markdown_defs.specs.Definitions as definitions
use Rattle.markdown_brackets.specs.Lookup.{defined_target, asked}
use Rattle.markdown_brackets.specs.LookupView.{LooksUp, IsAnswered, FindsTarget, target_by, limit_after}
use Rattle.markdown_brackets.specs.declared.look_up.LabelLookup.{LabelLookup}

module _ {C : Type 0} (step : C → Question → Option Answer → C → Type 0) (old : LabelLookup C) (q : Question) where
  -- at a limit of 0
  pub LooksUp-at_zero : old.limit ≡ 0 → LooksUp step old old q None
  LooksUp-at_zero none = record {
    answers = [];
    questions = [];
    asked = refl;
    finds = λ later. rw none refl;
  }

  -- what the label finds: by its definition, or by a question
  pub LooksUp-found : (new : LabelLookup C) (target : Option LinkView) → 0 < old.limit → new.limit
      ≡ limit_after old.limit target
      → FindsTarget step old.tables.refdefs q old.callback new.callback target → LooksUp step old new q target
  LooksUp-found new target some left found = by (definitions.find_definition q.reference old.tables.refdefs) refl found
    where
      not_zero : (n : ℕ) → 0 < n → (n == 0) ≡ false
      not_zero n h = grind (arith, nat_tests)

      by_answer : (a : Option Answer) (later : Answers)
          → asked old.limit (a ∷ later) q ≡ record {
            target = target_by q a;
            questions = q ∷ [];
            limit = limit_after old.limit (target_by q a);
            answers = later;
          }
      by_answer None later = refl
      by_answer (Some a) later = refl

      answered : (callback : Option C) → old.callback ≡ callback
          → definitions.find_definition q.reference old.tables.refdefs ≡ None
          → IsAnswered step q callback new.callback target → LooksUp step old new q target
      answered None e found is = record {
        answers = [];
        questions = [];
        asked = e ∙ sym is.0;
        finds = λ later. rw (not_zero old.limit some, e, found, left, is.1) refl;
      }
      answered (Some callback) e found (then, answer, stepped, now, is) = record {
        answers = answer ∷ [];
        questions = q ∷ [];
        asked = rw e (then, stepped, sym now);
        finds = λ later. rw (not_zero old.limit some, e, found, left, is) (by_answer answer later);
      }

      by : (o : Option LinkDef) → definitions.find_definition q.reference old.tables.refdefs ≡ o
          → MatchOption o (IsAnswered step q old.callback new.callback target) (λ d. (new.callback ≡ old.callback)
          × (target ≡ Some (defined_target q.link_type (definition_view d) q.reference)))
          → LooksUp step old new q target
      by None e is = answered old.callback refl e is
      by (Some d) e is = record {
        answers = [];
        questions = [];
        asked = sym is.0;
        finds = λ later. rw (not_zero old.limit some, e, left, is.1) refl;
      }
