-- Laws of the questions that reading a chain asks: at most one for each `]`, none if references may not expand to any
-- bytes, and no two that end at the same byte offset, if items are in order and their source is their markup.
use Rattle.std.specs.Prelude.{◌≡◌, ℕ, ◌≤◌, ⊤, false, List, Option, IfSome, nat_eq, take}
use Rattle.std.specs.List.{list_any}
use Rattle.markdown_base.specs.Bytes.{open_bracket}
use Rattle.markdown_base.specs.Forest.{Forest, nil, node, first_root, roots}
use Rattle.markdown_base.specs.Item.{LiesIn}
use Rattle.markdown_base.specs.WellFormed.{MarkupIsThere}
use Rattle.markdown_document.specs.ChainRest.{as_item, end_of, start_of}
use Rattle.markdown_document.specs.Document.{TreeNode}
use Rattle.markdown_document.specs.Setting.{ReferenceState}
use Rattle.markdown_brackets.specs.BracketDecision.{BracketContext, Progress}
use Rattle.markdown_brackets.specs.QuestionsAsked.{AsksAtMost, EndApart, closers_among}
use Rattle.markdown_brackets.specs.ReadChain.{Reader, begun, read_chain}

-- an item lies in the text, its source is its markup, and it precedes the next item
pub record StandsInLine {A : Type 0} (source : List ℕ) (a : TreeNode A) (next : Option (TreeNode A)) : Type 0 where
  pub lies : LiesIn source (as_item a)
  pub markup_is_there : MarkupIsThere source (as_item a)
  pub in_order : IfSome next (λ b. end_of a ≤ start_of b)

-- each item of a chain is such an item
abbrev pub StandInLine : {A : Type 0} → List ℕ → Forest (TreeNode A) → Type 0
StandInLine source nil = ⊤
StandInLine source (node a below after) = StandsInLine source a (first_root after) × StandInLine source after

-- no line prefix contains a `[`
abbrev pub HoldsNoOpener : (List ℕ → ℕ) → Type 0
HoldsNoOpener skipped = (bytes : List ℕ) → list_any (nat_eq open_bracket) (take (skipped bytes) bytes) ≡ false

-- a rule for other items asks no questions, does not change the limit, and uses up no `]`
abbrev pub AsksNothing : {A : Type 0} → Reader A → Type 0
AsksNothing {A} others = (a : TreeNode A) (below rest : Forest (TreeNode A)) (p : Progress A)
    → let q : Progress A = others a below rest p in
    q ≡ record p { left = q.left; goes_on = q.goes_on; made = q.made }

-- each `]` asks at most one question, and none is asked at a limit of 0
abbrev pub QuestionCountLaw : Type 0 → Type 0
QuestionCountLaw A = (w : BracketContext) (others : Reader A) → AsksNothing others
    → (chain : Forest (TreeNode A)) (state : ReferenceState)
    → AsksAtMost (closers_among (roots chain)) state.limit (read_chain w others chain (begun state)).asked

-- no two questions end at the same byte offset
abbrev pub QuestionEndsLaw : Type 0 → Type 0
QuestionEndsLaw A = (w : BracketContext) (others : Reader A) → AsksNothing others → HoldsNoOpener w.skipped
    → (chain : Forest (TreeNode A)) (state : ReferenceState) → StandInLine w.setting.text chain
    → EndApart (read_chain w others chain (begun state)).asked
