-- Brackets do not depend on notes: a chain with other notes is read in the same way, with those notes on what is read.
use Rattle.std.specs.Prelude.{◌≡◌, List, map}
use Rattle.markdown_base.specs.Forest.{Forest}
use Rattle.markdown_document.specs.Document.{TreeNode}
use Rattle.markdown_document.specs.TreeNodes.{annotate, annotated}
use Rattle.markdown_brackets.specs.BracketDecision.{BracketContext, Progress}
use Rattle.markdown_brackets.specs.LeftList.{Entry, done, waits}
use Rattle.markdown_brackets.specs.ReadChain.{Reader, read_chain}

-- an entry of a left list with other notes
abbrev pub annotate_entry : {A B : Type 0} → (A → B) → Entry A → Entry B
annotate_entry f (done a below) = done (annotate f a) (annotated f below)
annotate_entry f (waits m a) = waits m (annotate f a)

-- a left list with other notes
abbrev pub annotate_left : {A B : Type 0} → (A → B) → List (Entry A) → List (Entry B)
annotate_left f left = map (annotate_entry f) left

-- how far a chain was read, with other notes
abbrev pub annotate_progress : {A B : Type 0} → (A → B) → Progress A → Progress B
annotate_progress f p = record {
  left = annotate_left f p.left;
  goes_on = p.goes_on;
  spent = p.spent;
  asked = p.asked;
  state = p.state;
  made = p.made;
}

-- two rules for items other than brackets do the same, one of them with other notes
abbrev pub ReaderFollows : {A B : Type 0} → (A → B) → Reader A → Reader B → Type 0
ReaderFollows {A} f others others' = (a : TreeNode A) (below rest : Forest (TreeNode A)) (p : Progress A)
    → others' (annotate f a) (annotated f below) (annotated f rest) (annotate_progress f p)
    ≡ annotate_progress f (others a below rest p)

-- then reading a chain by these rules does the same, with other notes
abbrev pub BracketNoteLaw : Type 0 → Type 0 → Type 0
BracketNoteLaw A B = (f : A → B) (w : BracketContext) (others : Reader A) (others' : Reader B)
    → ReaderFollows f others others'
    → (chain : Forest (TreeNode A)) (p : Progress A)
    → read_chain w others' (annotated f chain) (annotate_progress f p) ≡ annotate_progress f
    (read_chain w others chain p)
