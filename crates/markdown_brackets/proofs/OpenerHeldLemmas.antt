-- The openers of a left list as stacks hold them: the nearest one is on top; and the trees of a left list at an opener.
use Rattle.std.proofs.Common.{◌≡◌, ℕ, Bool, true, false, List, [], ◌∷◌, Option, Some, None, refl, ap, ◌∙◌}
use Rattle.std.specs.Prelude.{IfSome, if◌then◌else◌, ⊤}
use Rattle.std.specs.Option.{option_map}
use Rattle.markdown_base.specs.Forest.{Forest, nil, node}
use Rattle.markdown_document.specs.ChainRest.{joined_chains}
use Rattle.markdown_document.specs.Document.{TreeNode}
use Rattle.markdown_brackets.specs.DecisionView.{opener_of}
use Rattle.markdown_brackets.specs.LeftList.{Flag, gone, OpenerState, Entry, done, waits, is_live, trees_onto, Split}
use Rattle.markdown_brackets.specs.LeftList.{with_entry, nearest, change_nearest, opens_bracket, opens_wikilink}
use Rattle.markdown_brackets.specs.LeftList.{without_bracket, without_wikilink, bracket_taken, wikilink_taken}
use Rattle.markdown_brackets.specs.HeldOpeners.{brackets_of, wikilinks_of, held_as}
use Rattle.markdown_brackets.proofs.LeftListLemmas.{IsSplitBy, Marked, onto_append, same_change, split_nearest}
use Rattle.markdown_brackets.specs.Openers.{Waiting}

-- the nearest opener for a `]` is on top of the stack, and taking it off is taking it off the stack
abbrev pub for_bracket : OpenerState → Flag
for_bracket m = m.bracket

abbrev pub for_wikilink : OpenerState → Flag
for_wikilink m = m.wikilink

abbrev pub Top : (OpenerState → Flag) → (held rest : List Waiting) → Option (Split ℕ) → Type 0
Top flag held rest None = (held ≡ []) × (rest ≡ [])
Top flag held rest (Some o) = held ≡ record { opener = opener_of o; is_live = is_live (flag o.state) } ∷ rest

abbrev pub TopBracket : List (Entry ℕ) → Option (Split ℕ) → Type 0
TopBracket left = Top for_bracket (brackets_of left) (brackets_of (bracket_taken left))

abbrev pub TopWikilink : List (Entry ℕ) → Option (Split ℕ) → Type 0
TopWikilink left = Top for_wikilink (wikilinks_of left) (wikilinks_of (wikilink_taken left))

top_after : (flag : OpenerState → Flag) (held rest : List Waiting) (e : Entry ℕ) (o : Option (Split ℕ))
    → Top flag held rest o
    → Top flag held rest (option_map (with_entry e) o)
top_after flag held rest e None h = h
top_after flag held rest e (Some o) h = h

pub top_bracket : (left : List (Entry ℕ)) → TopBracket left (nearest opens_bracket left)
top_bracket [] = (refl, refl)
top_bracket (done a below ∷ left) = top_after for_bracket _ _ (done a below) (nearest opens_bracket left)
    (top_bracket left)
top_bracket (waits m a ∷ left) = by m.is_image m.bracket m.wikilink (top_bracket left)
  where
    by : (i : Bool) (b w : Flag) → TopBracket left (nearest opens_bracket left)
        → TopBracket (waits (record { is_image = i; bracket = b; wikilink = w }) a ∷ left)
        (nearest opens_bracket (waits (record { is_image = i; bracket = b; wikilink = w }) a ∷ left))
    by i gone w h = top_after for_bracket _ _ (waits (record { is_image = i; bracket = gone; wikilink = w }) a)
        (nearest opens_bracket left) h
    by i other w h = refl

pub top_wikilink : (left : List (Entry ℕ)) → TopWikilink left (nearest opens_wikilink left)
top_wikilink [] = (refl, refl)
top_wikilink (done a below ∷ left) = top_after for_wikilink _ _ (done a below) (nearest opens_wikilink left)
    (top_wikilink left)
top_wikilink (waits m a ∷ left) = by m.is_image m.bracket m.wikilink (top_wikilink left)
  where
    by : (i : Bool) (b w : Flag) → TopWikilink left (nearest opens_wikilink left)
        → TopWikilink (waits (record { is_image = i; bracket = b; wikilink = w }) a ∷ left)
        (nearest opens_wikilink (waits (record { is_image = i; bracket = b; wikilink = w }) a ∷ left))
    by i b gone h = top_after for_wikilink _ _ (waits (record { is_image = i; bracket = b; wikilink = gone }) a)
        (nearest opens_wikilink left) h
    by i b other h = refl

-- the other stack stays
pub wikilinks_stay : (left : List (Entry ℕ)) → wikilinks_of (bracket_taken left) ≡ wikilinks_of left
wikilinks_stay [] = refl
wikilinks_stay (done a below ∷ left) = wikilinks_stay left
wikilinks_stay (waits m a ∷ left) = by (opens_bracket m) (wikilinks_stay left)
  where
    by : (b : Bool) → wikilinks_of (bracket_taken left) ≡ wikilinks_of left
        → wikilinks_of (if b then waits (without_bracket m) a ∷ left else waits m a ∷ bracket_taken left)
        ≡ wikilinks_of (waits m a ∷ left)
    by true h = refl
    by false h = ap (held_as a.note m.is_image m.wikilink) h

pub brackets_stay : (left : List (Entry ℕ)) → brackets_of (wikilink_taken left) ≡ brackets_of left
brackets_stay [] = refl
brackets_stay (done a below ∷ left) = brackets_stay left
brackets_stay (waits m a ∷ left) = by (opens_wikilink m) (brackets_stay left)
  where
    by : (b : Bool) → brackets_of (wikilink_taken left) ≡ brackets_of left
        → brackets_of (if b then waits (without_wikilink m) a ∷ left else waits m a ∷ wikilink_taken left)
        ≡ brackets_of (waits m a ∷ left)
    by true h = refl
    by false h = ap (held_as a.note m.is_image m.bracket) h

-- what is taken off stays a tree
trees_marked : Marked (λ m n. ⊤)
    (λ left left'. (later : Forest (TreeNode ℕ)) → trees_onto left' later ≡ trees_onto left later)
trees_marked = record {
  equal = λ m. tt;
  bracket = λ m. tt;
  wikilink = λ m. tt;
  disabled = λ m. tt;
  empty = λ later. refl;
  tree = λ a below left left' h later. h (node a below later);
  opener = λ m n a left left' low h later. h (node a nil later);
  twice = λ one two three h k later. k later ∙ h later;
}

pub trees_stay : (test : OpenerState → Bool) (f : OpenerState → OpenerState) (left : List (Entry ℕ))
    (later : Forest (TreeNode ℕ)) → trees_onto (change_nearest test f left) later ≡ trees_onto left later
trees_stay test f left later = same_change trees_marked test f (λ m. tt) left later

-- the trees of a left list at an opener
abbrev pub SplitsAt : List (Entry ℕ) → Split ℕ → Type 0
SplitsAt left o = (later : Forest (TreeNode ℕ)) → trees_onto left later
    ≡ trees_onto o.before (node o.opener nil (trees_onto o.after later))

pub splits_at : (test : OpenerState → Bool) (left : List (Entry ℕ)) → IfSome (nearest test left) (SplitsAt left)
splits_at test left = by (nearest test left) (split_nearest test (λ m. m) left)
  where
    by : (o : Option (Split ℕ)) → IfSome o (IsSplitBy (λ m. m) left (change_nearest test (λ m. m) left))
        → IfSome o (SplitsAt left)
    by None h = tt
    by (Some o) h = λ later.
        ap (λ (l : List (Entry ℕ)). trees_onto l later) h.is
        ∙ onto_append o.after (waits o.state o.opener ∷ o.before) later

pub onto_joined : (left : List (Entry ℕ)) (f g : Forest (TreeNode ℕ)) → trees_onto left (joined_chains f g)
    ≡ joined_chains (trees_onto left f) g
onto_joined [] f g = refl
onto_joined (done a below ∷ left) f g = onto_joined left (node a below f) g
onto_joined (waits m a ∷ left) f g = onto_joined left (node a nil f) g
