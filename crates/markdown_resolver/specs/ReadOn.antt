-- How far a chain in an arena was read: the arena holds the trees of a left list, and then what is left of the chain.
use Rattle.std.specs.Prelude.{◌≡◌, ℕ, ◌-◌, ◌<◌, ◌+◌, ◌++◌, ◌||◌, ⊤, false, List, [], ◌∷◌, Option, Some, None, length}
use Rattle.std.specs.Str.{IsCharBoundary}
use Rattle.markdown_base.specs.Arena.{child_of}
use Rattle.markdown_base.specs.BlockTree.{item_at}
use Rattle.markdown_base.specs.Forest.{Forest, nil}
use Rattle.markdown_base.specs.Item.{is_open}
use Rattle.markdown_base.specs.Questions.{Question, Answer, Answers}
use Rattle.markdown_base.specs.declared.item.Item.{Item}
use Rattle.markdown_base.specs.declared.node.Node.{Node}
use Rattle.markdown_brackets.specs.BracketDecision.{Progress}
use Rattle.markdown_brackets.specs.BracketNotes.{annotate_left}
use Rattle.markdown_brackets.specs.LeftList.{Entry, done, waits, trees_onto, all_done}
use Rattle.markdown_brackets.specs.HeldOpeners.{brackets_of, wikilinks_of}
use Rattle.markdown_brackets.specs.Openers.{Waiting}
use Rattle.markdown_brackets.specs.ReadChain.{among}
use Rattle.markdown_brackets.specs.SpentEnds.{is_spent}
use Rattle.markdown_brackets.specs.declared.spent_ends.SpentEnds.{SpentEnds}
use Rattle.markdown_document.specs.EnclosingBlocks.{EnclosingBlocks}
use Rattle.markdown_document.specs.Document.{TreeNode, Plain, no_notes}
use Rattle.markdown_document.specs.Places.{trees_from}
use Rattle.markdown_document.specs.Setting.{Setting}
use Rattle.markdown_document.specs.ResolverStates.{ResolverState, chain_at, state_at}
use Rattle.markdown_document.specs.Tables.{Tables}
use Rattle.markdown_resolver.specs.Chains.{CanResolve, ChangesChain}
use Rattle.markdown_resolver.specs.Kept.{IsQuiet}
use Rattle.markdown_resolver.specs.PassOne.{pass_one, read_on}
use Rattle.markdown_resolver.specs.PutsTrees.{numbered_from, without_numbers}
use Rattle.markdown_defs.specs.Callback.{Asks}

-- a left list without the numbers
abbrev pub left_without_numbers : List (Entry ℕ) → List (Entry (Unit {0}))
left_without_numbers left = annotate_left (λ n. tt) left

-- an opener that waits: a Text that begins with a character of one byte, ends with its `[`, and has no children
pub record IsOpener (source : List ℕ) (nodes : List (Node Item)) (ix : ℕ) : Type 0 where
  pub within : ix < length nodes
  pub opens : (item_at nodes ix).start < (item_at nodes ix).end
  pub bracket : IsCharBoundary source ((item_at nodes ix).end - 1)
  pub mark : IsCharBoundary source ((item_at nodes ix).start + 1)
  pub closed : is_open (item_at nodes ix).body ≡ false
  pub childless : child_of nodes ix ≡ None

-- p is true of each opener that waits in a left list
abbrev pub EachWaits : (ℕ → Type 0) → List (Entry ℕ) → Type 0
EachWaits p [] = ⊤
EachWaits p (done a below ∷ left) = EachWaits p left
EachWaits p (waits m a ∷ left) = p a.note × EachWaits p left

-- from the node `first` on is a left list, and after it the chain from a link on
pub record StandsTo (source : List ℕ) (tables : Tables) (nodes : List (Node Item)) (first : ℕ) (at : Option ℕ)
    (left : List (Entry ℕ)) : Type 0 where
  pub ready : CanResolve source tables nodes (Some first)
  pub stands : numbered_from source tables nodes (Some first) ≡ trees_onto left (numbered_from source tables nodes at)
  -- nothing in the left list is open except what waits for pairing
  pub quiet : IsQuiet (trees_onto left nil)
  pub waiting : EachWaits (IsOpener source nodes) left

-- trees were put after a left list, in place of the chain there, and the chain continues at a link with what is left
pub record PutsAfter (source : List ℕ) (first : ℕ) (next : Option ℕ) (before : List (Entry ℕ))
    (trees rest : Forest Plain) (old new : List (Node Item)) (tables tables' : Tables) : Type 0 where
  pub changes : ChangesChain source (Some first) old new tables tables'
  pub standing : Forest (TreeNode ℕ)
  pub stands : StandsTo source tables' new first next (all_done standing before)
  pub reads : without_numbers standing ≡ trees
  pub rest_is : trees_from source tables' new next ≡ rest

-- two stacks hold the openers of a left list
pub record AreHeld (brackets wikilinks : List Waiting) (left : List (Entry ℕ)) : Type 0 where
  pub brackets_are : brackets ≡ brackets_of left
  pub wikilinks_are : wikilinks ≡ wikilinks_of left

-- a set holds exactly these ends of `]`
abbrev pub AreSpent : SpentEnds → List ℕ → Type 0
AreSpent spent ends = (end : ℕ) → is_spent spent end ≡ among end ends

-- a progress with this left list, and with what is known at a stage
abbrev pub at_left : {C : Type 0} → List (Entry ℕ) → ResolverState C → Answers → Progress (Unit {0}) → Progress
    (Unit {0})
at_left left resolver_state answers p =
    record p { left = left_without_numbers left; goes_on = None; state = state_at resolver_state answers }

-- a progress after the whole rest of a chain was read
abbrev pub all_read : Setting → EnclosingBlocks → Forest Plain → Progress (Unit {0}) → Progress (Unit {0})
all_read s above chain p = record (read_on s no_notes above chain p) { goes_on = None }

-- a chain was read in place from one link to another: for all answers that follow, reading on from the second link
-- gives the same as from the first
pub record ReadsOn {C : Type 0} (step : C → Question → Option Answer → C → Type 0) (s : Setting)
    (above : EnclosingBlocks) (first : ℕ)
    (at next : Option ℕ) (left : List (Entry ℕ)) (old new : ResolverState C) (spent spent' : SpentEnds)
    (brackets wikilinks : List Waiting)
    : Type 0 where
  pub changes : ChangesChain s.text (Some first) old.nodes new.nodes old.tables new.tables
  pub left_then : List (Entry ℕ)
  pub stands : StandsTo s.text new.tables new.nodes first next left_then
  pub held : AreHeld brackets wikilinks left_then
  -- the callback returned these answers to these questions
  pub answers : Answers
  pub questions : List Question
  pub asked : Asks step old.callback questions answers new.callback
  pub ends : List ℕ
  pub spends : (end : ℕ) → is_spent spent' end ≡ (among end ends || is_spent spent end)
  pub made : ℕ
  pub reads : (p : Progress (Unit {0})) (later : Answers) → AreSpent spent p.spent
      → all_read s above (chain_at s.text old at) (at_left left old (answers ++ later) p)
      ≡ all_read s above (chain_at s.text new next)
      (at_left left_then new later (record p {
        spent = ends ++ p.spent;
        asked = p.asked ++ questions;
        made = p.made
            + made;
      }))

-- memory was refused on the way: the callback returned these answers to these questions, with which those of the rest
-- begin
pub record StopsOn {C : Type 0} (step : C → Question → Option Answer → C → Type 0) (s : Setting)
    (above : EnclosingBlocks) (at : Option ℕ)
    (left : List (Entry ℕ)) (old : ResolverState C) (spent : SpentEnds) (callback' : Option C) : Type 0 where
  pub answers : Answers
  pub questions : List Question
  pub asked : Asks step old.callback questions answers callback'
  pub begins : (p : Progress (Unit {0})) (later : Answers) → AreSpent spent p.spent → (others : List Question)
      × ((all_read s above (chain_at s.text old at) (at_left left old (answers ++ later) p)).asked ≡ p.asked
      ++ questions ++ others)

-- the same in pass one over the chain from the node `first` on
pub record StopsInPassOne {C : Type 0} (step : C → Question → Option Answer → C → Type 0) (s : Setting)
    (above : EnclosingBlocks) (first : ℕ) (old : ResolverState C) (callback' : Option C) : Type 0 where
  pub answers : Answers
  pub questions : List Question
  pub asked : Asks step old.callback questions answers callback'
  pub begins : (later : Answers) → (others : List Question)
      × ((pass_one s no_notes above (chain_at s.text old (Some first)) (state_at old (answers ++ later))).questions
      ≡ questions ++ others)
