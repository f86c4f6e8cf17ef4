-- The openers of a left list, as stacks of an arena hold them: by the numbers of their nodes.
use Rattle.std.specs.Prelude.{ℕ, Bool, true, false, List, [], ◌∷◌}
use Rattle.markdown_brackets.specs.LeftList.{Flag, live, disabled, gone, Entry, done, waits}
use Rattle.markdown_brackets.specs.Openers.{Waiting}

-- an opener of this state is put on a stack, unless it is gone
abbrev pub held_as : ℕ → Bool → Flag → List Waiting → List Waiting
held_as number is_image live held =
    record { opener = record { node = number; is_image = is_image }; is_live = true } ∷ held
held_as number is_image disabled held =
    record { opener = record { node = number; is_image = is_image }; is_live = false } ∷ held
held_as number is_image gone held = held

-- the openers on the stack of brackets, the nearest first
abbrev pub brackets_of : List (Entry ℕ) → List Waiting
brackets_of [] = []
brackets_of (done a below ∷ left) = brackets_of left
brackets_of (waits m a ∷ left) = held_as a.note m.is_image m.bracket (brackets_of left)

-- the openers on the stack of wikilinks, the nearest first
abbrev pub wikilinks_of : List (Entry ℕ) → List Waiting
wikilinks_of [] = []
wikilinks_of (done a below ∷ left) = wikilinks_of left
wikilinks_of (waits m a ∷ left) = held_as a.note m.is_image m.wikilink (wikilinks_of left)
