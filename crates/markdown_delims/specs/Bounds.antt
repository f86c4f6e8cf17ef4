-- The ten lower bounds of a stack of open runs, and what they say about it.
use Rattle.std.specs.Prelude.{◌≡◌, ℕ, ◌+◌, ◌-◌, ◌%◌, ◌≤◌, min, List, length, take, true, false, ◌==◌, if◌then◌else◌}
use Rattle.std.specs.Prelude.{All}
use Rattle.markdown_delims.specs.declared.run.Delimiter.{Delimiter}
use Rattle.markdown_delims.specs.declared.run.Delimiter.TheVariants.{Star, Underscore, Tilde, Caret}
use Rattle.markdown_delims.specs.declared.run.Run.{Run}
use Rattle.markdown_delims.specs.declared.run.Characters.{Characters}
use Rattle.markdown_delims.specs.declared.bounds.CharacterBounds.{CharacterBounds}
use Rattle.markdown_delims.specs.declared.bounds.LowerBounds.{LowerBounds}
use Rattle.markdown_delims.specs.MayPair.{same_delimiter, drops, can_do_both, lengths_agree}

-- the bounds of one character before any search
abbrev pub no_bounds : CharacterBounds
no_bounds = record { cannot_open = 0; remainder_zero = 0; remainder_one = 0; remainder_two = 0 }

-- the bounds of all characters before any search
abbrev pub zero_bounds : LowerBounds
zero_bounds = record { star = no_bounds; underscore = no_bounds; tilde = 0; caret = 0 }

-- the bound for closers whose length has this remainder modulo 3
abbrev pub remainder_bound : ℕ → CharacterBounds → ℕ
remainder_bound r b = if r == 0 then b.remainder_zero else if r == 1 then b.remainder_one else b.remainder_two

-- the bound for a closer, among those of its character
abbrev pub character_bound_for : Run → CharacterBounds → ℕ
character_bound_for closer b =
    if can_do_both closer then remainder_bound (closer.length % 3) b
    else min (remainder_bound (closer.length % 3) b) b.cannot_open

-- the bound for a closer of this character
abbrev pub bound_at : Delimiter → Run → LowerBounds → ℕ
bound_at Star closer b = character_bound_for closer b.star
bound_at Underscore closer b = character_bound_for closer b.underscore
bound_at Tilde closer b = b.tilde
bound_at Caret closer b = b.caret

-- the position of the stack below which no open run pairs with this closer
abbrev pub bound_for : Run → LowerBounds → ℕ
bound_for closer b = bound_at closer.delimiter closer b

-- the bounds of one character after a failed search: those that apply to the closer are raised to the length of the
-- stack
abbrev pub character_raised_for : Run → ℕ → CharacterBounds → CharacterBounds
character_raised_for closer len b =
    record {
      cannot_open = if can_do_both closer then b.cannot_open else len;
      remainder_zero = if closer.length % 3 == 0 then len else b.remainder_zero;
      remainder_one = if closer.length % 3 == 1 then len else b.remainder_one;
      remainder_two = if closer.length % 3 == 2 then len else b.remainder_two;
    }

-- the bounds after a failed search by a closer of this character: no run below the closer's bounds pairs with it, and
-- of the characters that it drops, no run below the bound pairs with any closer
abbrev pub raised_at : Delimiter → Run → ℕ → LowerBounds → LowerBounds
raised_at d closer len b =
    record {
      star = if same_delimiter d Star then character_raised_for closer len b.star else b.star;
      underscore = if same_delimiter d Underscore then character_raised_for closer len b.underscore else b.underscore;
      tilde = if drops d Tilde then len else b.tilde;
      caret = if drops d Caret then len else b.caret;
    }

-- the bounds after a closer's failed search of a stack of this length
abbrev pub raised_for : Run → ℕ → LowerBounds → LowerBounds
raised_for closer len b = raised_at closer.delimiter closer len b

-- the bounds of one character, each at most this length
abbrev pub character_lowered : ℕ → CharacterBounds → CharacterBounds
character_lowered len b =
    record {
      cannot_open = min b.cannot_open len;
      remainder_zero = min b.remainder_zero len;
      remainder_one = min b.remainder_one len;
      remainder_two = min b.remainder_two len;
    }

-- the bounds, each at most the length of a stack
abbrev pub lowered : ℕ → LowerBounds → LowerBounds
lowered len b =
    record {
      star = character_lowered len b.star;
      underscore = character_lowered len b.underscore;
      tilde = min b.tilde len;
      caret = min b.caret len;
    }

-- the position of the stack below which a run of a character is dropped
abbrev pub drop_bound : Delimiter → LowerBounds → ℕ
drop_bound Star b = 0
drop_bound Underscore b = 0
drop_bound Tilde b = b.tilde
drop_bound Caret b = b.caret

-- the numbers of positions of a stack at or above the bounds of one character, added up
abbrev pub character_above : ℕ → CharacterBounds → ℕ
character_above len b =
    (len - b.cannot_open) + (len - b.remainder_zero) + (len - b.remainder_one) + (len - b.remainder_two)

-- the same for all bounds
abbrev pub above_bounds : ℕ → LowerBounds → ℕ
above_bounds len b =
    character_above len b.star + character_above len b.underscore + (len - b.tilde) + (len - b.caret)

-- the lengths of a run of this character and of a closer with this remainder violate the rule of three
abbrev pub IsOutOfStep : Delimiter → ℕ → Characters → Type 0
IsOutOfStep d r c = same_delimiter c.run.delimiter d ≡ true → lengths_agree c.run.length r ≡ false

-- a run can both open and close, if it is of this character
abbrev pub IsOfBoth : Delimiter → Characters → Type 0
IsOfBoth d c = same_delimiter c.run.delimiter d ≡ true → can_do_both c.run ≡ true

-- what the bounds of one character say about the stack
pub record BoundCharacter (d : Delimiter) (stack : List Characters) (b : CharacterBounds) : Type 0 where
  pub cannot_open_within : b.cannot_open ≤ length stack
  pub zero_within : b.remainder_zero ≤ length stack
  pub one_within : b.remainder_one ≤ length stack
  pub two_within : b.remainder_two ≤ length stack
  pub cannot_open : All (IsOfBoth d) (take b.cannot_open stack)
  pub remainder_zero : All (IsOutOfStep d 0) (take b.remainder_zero stack)
  pub remainder_one : All (IsOutOfStep d 1) (take b.remainder_one stack)
  pub remainder_two : All (IsOutOfStep d 2) (take b.remainder_two stack)

-- what the bounds say about the stack; below the last two each run of the character is dropped, so they say nothing
-- about which runs may pair
pub record BoundStack (stack : List Characters) (b : LowerBounds) : Type 0 where
  pub star : BoundCharacter Star stack b.star
  pub underscore : BoundCharacter Underscore stack b.underscore
  pub tilde_within : b.tilde ≤ length stack
  pub caret_within : b.caret ≤ length stack
