-- The trees of a left list and what follows them are one chain: how often a number occurs in it, what is open in it,
-- and which openers wait. So what is true of a left list is true of the chain that it is in.
use Rattle.std.proofs.Common.{◌≡◌, ℕ, ◌+◌, ◌<◌, Bool, List, [], ◌∷◌, ◌++◌, refl, ap, ◌∙◌, arith}
use Rattle.markdown_base.specs.Forest.{Forest, nil, node, relabelled, roots}
use Rattle.markdown_brackets.specs.ChainHeld.{numbers_of, times_of}
use Rattle.markdown_brackets.specs.Decides.{EachOpener}
use Rattle.markdown_brackets.specs.Finish.{AreNumbersAfter, AreRising}
use Rattle.markdown_brackets.specs.LeftList.{Flag, live, disabled, gone, OpenerState, Entry, done, waits, all_done}
use Rattle.markdown_brackets.specs.LeftList.{on_states, second_folded, trees_onto}
use Rattle.markdown_brackets.specs.HeldOpeners.{brackets_of, wikilinks_of, held_as}
use Rattle.markdown_brackets.specs.Openers.{Waiting}
use Rattle.markdown_brackets.proofs.OpenerHeldLemmas.{onto_joined}
use Rattle.markdown_document.specs.ChainRest.{joined_chains}
use Rattle.markdown_document.specs.Document.{TreeNode}
use Rattle.markdown_document.specs.TreeNodes.{annotated}
use Rattle.markdown_document.specs.Totals.{total, same}
use Rattle.markdown_document.proofs.TablesLemmas.{same-refl}
use Rattle.markdown_resolver.specs.Kept.{IsQuiet, IsQuietBelow}
use Rattle.markdown_resolver.specs.ReadOn.{EachWaits}

-- two chains, one after the other, with other nodes
pub relabelled_joined : {A B : Type 0} (h : A → B) (f g : Forest A) → relabelled h (joined_chains f g)
    ≡ joined_chains (relabelled h f) (relabelled h g)
relabelled_joined h nil g = refl
relabelled_joined h (node a below after) g = ap (λ rest. node (h a) (relabelled h below) rest)
    (relabelled_joined h after g)

total_joined : (count : ℕ → ℕ) (f g : Forest ℕ) → total count (joined_chains f g) ≡ total count f + total count g
total_joined count nil g = omega arith
total_joined count (node ix below after) g = omega (arith, total_joined count after g)

-- the trees of a left list precede those that are put onto it
pub onto_split : (left : List (Entry ℕ)) (later : Forest (TreeNode ℕ)) → trees_onto left later
    ≡ joined_chains (trees_onto left nil) later
onto_split left later = onto_joined left nil later

pub times_joined : (n : ℕ) (f g : Forest (TreeNode ℕ)) → times_of n (joined_chains f g) ≡ times_of n f + times_of n g
times_joined n f g = ap (λ (h : Forest ℕ). total (same n) h) (relabelled_joined (λ a. a.note) f g)
    ∙ total_joined (same n) (numbers_of f) (numbers_of g)

pub times_onto : (n : ℕ) (left : List (Entry ℕ)) (later : Forest (TreeNode ℕ)) → times_of n (trees_onto left later)
    ≡ times_of n (trees_onto left nil) + times_of n later
times_onto n left later = ap (λ (h : Forest (TreeNode ℕ)). times_of n h) (onto_split left later)
    ∙ times_joined n (trees_onto left nil) later

-- trees that are done are put before what is put onto them
pub done_onto : (trees : Forest (TreeNode ℕ)) (left : List (Entry ℕ)) (later : Forest (TreeNode ℕ))
    → trees_onto (all_done trees left) later ≡ trees_onto left (joined_chains trees later)
done_onto nil left later = refl
done_onto (node a below after) left later = done_onto after (done a below ∷ left) later

-- nothing is open in two chains joined, nor in either of them
pub quiet_joined : {A : Type 0} (f g : Forest (TreeNode A)) → IsQuiet f → IsQuiet g → IsQuiet (joined_chains f g)
quiet_joined nil g h k = k
quiet_joined (node a below after) g h k = (h.0, h.1, h.2, quiet_joined after g h.3 k)

pub quiet_first : {A : Type 0} (f g : Forest (TreeNode A)) → IsQuiet (joined_chains f g) → IsQuiet f
quiet_first nil g h = tt
quiet_first (node a below after) g h = (h.0, h.1, h.2, quiet_first after g h.3)

pub quiet_is_below : {A : Type 0} (f : Forest (TreeNode A)) → IsQuiet f → IsQuietBelow f
quiet_is_below nil h = tt
quiet_is_below (node a below after) h = (h.1, h.2, quiet_is_below after h.3)

pub below_joined : {A : Type 0} (f g : Forest (TreeNode A)) → IsQuietBelow f → IsQuietBelow g
    → IsQuietBelow (joined_chains f g)
below_joined nil g h k = k
below_joined (node a below after) g h k = (h.0, h.1, below_joined after g h.2 k)

pub below_second : {A : Type 0} (f g : Forest (TreeNode A)) → IsQuietBelow (joined_chains f g) → IsQuietBelow g
below_second nil g h = h
below_second (node a below after) g h = below_second after g h.2

-- this does not depend on notes
pub quiet_annotated : {A B : Type 0} (f : A → B) (g : Forest (TreeNode A)) → IsQuiet g → IsQuiet (annotated f g)
quiet_annotated f nil h = tt
quiet_annotated f (node a below after) h = (h.0, h.1, quiet_annotated f below h.2, quiet_annotated f after h.3)

pub quiet_unannotated : {A B : Type 0} (f : A → B) (g : Forest (TreeNode A)) → IsQuiet (annotated f g) → IsQuiet g
quiet_unannotated f nil h = tt
quiet_unannotated f (node a below after) h = (h.0, h.1, quiet_unannotated f below h.2, quiet_unannotated f after h.3)

pub below_annotated : {A B : Type 0} (f : A → B) (g : Forest (TreeNode A)) → IsQuietBelow g → IsQuietBelow
    (annotated f g)
below_annotated f nil h = tt
below_annotated f (node a below after) h = (h.0, quiet_annotated f below h.1, below_annotated f after h.2)

pub below_unannotated : {A B : Type 0} (f : A → B) (g : Forest (TreeNode A)) → IsQuietBelow (annotated f g)
    → IsQuietBelow g
below_unannotated f nil h = tt
below_unannotated f (node a below after) h = (h.0, quiet_unannotated f below h.1, below_unannotated f after h.2)

-- trees that are done hold no opener
pub waits_done : (p : ℕ → Type 0) (trees : Forest (TreeNode ℕ)) (left : List (Entry ℕ)) → EachWaits p left
    → EachWaits p (all_done trees left)
waits_done p nil left h = h
waits_done p (node a below after) left h = waits_done p after (done a below ∷ left) h

-- a property of each opener, and of what is in the left list, implies another one
pub waits_mapped : (p q : ℕ → Type 0) (left : List (Entry ℕ))
    → ((n : ℕ) → 0 < times_of n (trees_onto left nil) → p n → q n) → EachWaits p left → EachWaits q left
waits_mapped p q [] h w = tt
waits_mapped p q (done a below ∷ left) h w = waits_mapped p q left
    (λ n l. h n (let e = times_onto n left (node a below nil)
    in omega (arith, e, l))) w
waits_mapped p q (waits m a ∷ left) h w = (
  h a.note (let e = times_onto a.note left (node a nil nil) in let one = same-refl a.note in omega (arith, e, one)) w.0,
  waits_mapped p q left (λ n l. h n (let e = times_onto n left (node a nil nil) in omega (arith, e, l))) w.1,
)

-- an opener, and those before it
pub waits_here : (p : ℕ → Type 0) (after before : List (Entry ℕ)) (m : OpenerState) (a : TreeNode ℕ)
    → EachWaits p (after ++ waits m a ∷ before) → p a.note × EachWaits p before
waits_here p [] before m a h = h
waits_here p (done b below ∷ after) before m a h = waits_here p after before m a h
waits_here p (waits k b ∷ after) before m a h = waits_here p after before m a h.1

pub onto_appended : (after before : List (Entry ℕ)) (m : OpenerState) (a : TreeNode ℕ) (later : Forest (TreeNode ℕ))
    → trees_onto (after ++ waits m a ∷ before) later ≡ trees_onto before (node a nil (trees_onto after later))
onto_appended [] before m a later = refl
onto_appended (done b below ∷ after) before m a later = onto_appended after before m a (node b below later)
onto_appended (waits k b ∷ after) before m a later = onto_appended after before m a (node b nil later)

-- other states: the same trees, and the same openers
pub marked_trees : (f : OpenerState → OpenerState) (left : List (Entry ℕ)) (later : Forest (TreeNode ℕ))
    → trees_onto (on_states f left) later ≡ trees_onto left later
marked_trees f [] later = refl
marked_trees f (done a below ∷ left) later = marked_trees f left (node a below later)
marked_trees f (waits m a ∷ left) later = marked_trees f left (node a nil later)

pub marked_waits : (p : ℕ → Type 0) (f : OpenerState → OpenerState) (left : List (Entry ℕ)) → EachWaits p left
    → EachWaits p (on_states f left)
marked_waits p f [] h = h
marked_waits p f (done a below ∷ left) h = marked_waits p f left h
marked_waits p f (waits m a ∷ left) h = (h.0, marked_waits p f left h.1)

pub folded_trees : (left : List (Entry ℕ)) (later : Forest (TreeNode ℕ)) → trees_onto (second_folded left) later
    ≡ trees_onto left later
folded_trees [] later = refl
folded_trees (done a below ∷ left) later = refl
folded_trees (waits m a ∷ left) later = refl

pub folded_waits : (p : ℕ → Type 0) (left : List (Entry ℕ)) → EachWaits p left → EachWaits p (second_folded left)
folded_waits p [] h = h
folded_waits p (done a below ∷ left) h = h
folded_waits p (waits m a ∷ left) h = h

-- stacks hold no other openers than those that wait
held_where : (p : ℕ → Type 0) (number : ℕ) (is_image : Bool) (flag : Flag) (held : List Waiting) → p number
    → EachOpener p held → EachOpener p (held_as number is_image flag held)
held_where p number is_image live held h k = (h, k)
held_where p number is_image disabled held h k = (h, k)
held_where p number is_image gone held h k = k

pub each_bracket : (p : ℕ → Type 0) (left : List (Entry ℕ)) → EachWaits p left → EachOpener p (brackets_of left)
each_bracket p [] h = tt
each_bracket p (done a below ∷ left) h = each_bracket p left h
each_bracket p (waits m a ∷ left) h = held_where p a.note m.is_image m.bracket (brackets_of left) h.0
    (each_bracket p left h.1)

pub each_wikilink : (p : ℕ → Type 0) (left : List (Entry ℕ)) → EachWaits p left → EachOpener p (wikilinks_of left)
each_wikilink p [] h = tt
each_wikilink p (done a below ∷ left) h = each_wikilink p left h
each_wikilink p (waits m a ∷ left) h = held_where p a.note m.is_image m.wikilink (wikilinks_of left) h.0
    (each_wikilink p left h.1)

-- numbers that come after a number come after a smaller one too, and so do those of a beginning of a chain
pub all_after : (n m : ℕ) (numbers : List ℕ) → n < m → AreNumbersAfter m numbers → AreNumbersAfter n numbers
all_after n m [] l h = tt
all_after n m (k ∷ numbers) l h = (omega (arith, l, h.0), all_after n m numbers l h.1)

first_are_after : (n : ℕ) (f g : Forest ℕ) → AreNumbersAfter n (roots (joined_chains f g)) → AreNumbersAfter n (roots f)
first_are_after n nil g h = tt
first_are_after n (node ix below after) g h = (h.0, first_are_after n after g h.1)

pub rising_first : (f g : Forest ℕ) → AreRising (roots (joined_chains f g)) → AreRising (roots f)
rising_first nil g h = tt
rising_first (node ix below after) g h = (first_are_after ix after g h.0, rising_first after g h.1)
