-- What one more heading leaves of the open levels.
use Rattle.std.proofs.Common.{◌≡◌, ℕ, ◌+◌, ◌<◌, ◌≤◌, List, [], ◌∷◌, ◌++◌, reverse, length, get_or, take, append_assoc}
use Rattle.std.proofs.Common.{inl, inr, refl, sym, ap, ◌∙◌, subst, arith}
use Rattle.std.proofs.lemmas.Bool.{cases_lt, cond_below, cond_above}
use Rattle.std.proofs.lemmas.List.{reverse-append, take_more, length-reverse, length-take-le}
use Rattle.markdown_outline.specs.Outline.{EntryView}
use Rattle.markdown_contents.specs.Contents.{depth, line_after, lines_after}
use Rattle.markdown_contents.specs.ContentsSoFar.{AreLinesSoFar, AreOpen, IsStair, lower_from}

-- a level is above where it is lower, and otherwise it is not
pub depth-above : (level nearest : ℕ) (others : List ℕ) → nearest < level → depth level (nearest ∷ others)
    ≡ depth nearest others + 1
depth-above level nearest others l = sym (cond_below nearest level (depth nearest others + 1) (depth level others) l)

depth-beside : (level nearest : ℕ) (others : List ℕ) → level ≤ nearest → depth level (nearest ∷ others)
    ≡ depth level others
depth-beside level nearest others l =
    sym (cond_above nearest level (depth nearest others + 1) (depth level others) (depth level others) l refl)

-- the levels from the first on that is lower are all, where the nearest is lower, and else those of the others
lower-all : (level nearest : ℕ) (others : List ℕ) → nearest < level → lower_from level (nearest ∷ others)
    ≡ nearest ∷ others
lower-all level nearest others l = sym (cond_below nearest level (nearest ∷ others) (lower_from level others) l)

lower-others : (level nearest : ℕ) (others : List ℕ) → level ≤ nearest → lower_from level (nearest ∷ others)
    ≡ lower_from level others
lower-others level nearest others l =
    sym (cond_above nearest level (nearest ∷ others) (lower_from level others) (lower_from level others) l refl)

-- they are a stair too
stair-lower : (level : ℕ) (levels : List ℕ) → IsStair levels → IsStair (lower_from level levels)
stair-lower level [] stair = stair
stair-lower level (nearest ∷ others) stair = elim (cases_lt nearest level) [
  | inl l ↦ subst IsStair (sym (lower-all level nearest others l)) stair
  | inr l ↦ subst IsStair (sym (lower-others level nearest others l)) (stair-lower level others stair.1)
]

-- as many as are above the level
depth-lower : (level : ℕ) (levels : List ℕ) → IsStair levels → depth level levels ≡ length (lower_from level levels)
depth-lower level [] stair = refl
depth-lower level (nearest ∷ others) stair = elim (cases_lt nearest level) [
  | inl l ↦ rw (depth-above level nearest others l, lower-all level nearest others l, stair.0) (omega arith)
  | inr l ↦ rw (depth-beside level nearest others l, lower-others level nearest others l)
      (depth-lower level others stair.1)
]

-- and so it is of these alone
stair-top : (level : ℕ) (levels : List ℕ) → IsStair levels → depth level (lower_from level levels)
    ≡ length (lower_from level levels)
stair-top level [] stair = refl
stair-top level (nearest ∷ others) stair = elim (cases_lt nearest level) [
  | inl l ↦ rw (lower-all level nearest others l, depth-above level nearest others l, stair.0) (omega arith)
  | inr l ↦ rw (lower-others level nearest others l) (stair-top level others stair.1)
]

-- after the level a nearer one that is not lower no longer counts
depth-hidden : (any level nearest : ℕ) (others : List ℕ) → level ≤ nearest
    → depth any (level ∷ nearest ∷ others) ≡ depth any (level ∷ others)
depth-hidden any level nearest others l = elim (cases_lt level any) [
  | inl above ↦ rw (
    depth-above any level (nearest ∷ others) above,
    depth-above any level others above,
    depth-beside
        level nearest others l,
  ) refl
  | inr beside ↦ rw (depth-beside any level (nearest ∷ others) beside, depth-beside any level others beside)
      (depth-beside any nearest others (omega (arith, beside, l)))
]

depth-kept : (any level : ℕ) (levels : List ℕ) → depth any (level ∷ lower_from level levels)
    ≡ depth any (level ∷ levels)
depth-kept any level [] = refl
depth-kept any level (nearest ∷ others) = elim (cases_lt nearest level) [
  | inl l ↦ rw (lower-all level nearest others l) refl
  | inr l ↦ rw (lower-others level nearest others l)
      (depth-kept any level others ∙ sym (depth-hidden any level nearest others l))
]

-- so a heading of this level has as many above it, and after it these and its own are open
module _ (level : ℕ) (open_levels levels : List ℕ) (are : AreOpen open_levels levels) where
  pub depth-open : length (lower_from level open_levels) ≡ depth level levels
  depth-open = sym (depth-lower level open_levels are.stair) ∙ are.same level

  same-after : (any : ℕ) → depth any (level ∷ open_levels) ≡ depth any (level ∷ levels)
  same-after any = elim (cases_lt level any) [
    | inl above ↦ rw (depth-above any level open_levels above, depth-above any level levels above, are.same level) refl
    | inr beside ↦ rw (depth-beside any level open_levels beside, depth-beside any level levels beside) (are.same any)
  ]

  pub open-next : AreOpen (level ∷ lower_from level open_levels) (level ∷ levels)
  open-next = record {
    stair = (stair-top level open_levels are.stair, stair-lower level open_levels are.stair);
    same = λ any. depth-kept any level open_levels ∙ same-after any;
  }

-- the nearest level is at the end of the list
pub nearest-last : (levels : List ℕ) (above : ℕ) (nearest : ℕ) → above < length levels → nearest
    ≡ get_or levels above nearest
    → reverse (take (above + 1) levels) ≡ nearest ∷ reverse (take above levels)
nearest-last levels above nearest l is =
    ap reverse (take_more levels above nearest l ∙ ap (λ x. take above levels ++ x ∷ []) (sym is))
    ∙ reverse-append (take above levels) (nearest ∷ [])

-- after a heading whose level is put on where those above end
pub open-made : (level above : ℕ) (open_old open_new : List ℕ) → open_new ≡ take above open_old ++ level ∷ []
    → reverse (take above open_old) ≡ lower_from level (reverse open_old)
    → reverse open_new ≡ level ∷ lower_from level (reverse open_old)
open-made level above open_old open_new is lower =
    ap reverse is ∙ reverse-append (take above open_old) (level ∷ []) ∙ ap (λ ls. level ∷ ls) lower

pub above-made : (above level : ℕ) (open_old : List ℕ) → above ≤ length open_old
    → reverse (take above open_old) ≡ lower_from level (reverse open_old) → above
    ≡ length (lower_from level (reverse open_old))
above-made above level open_old within lower =
    sym (length-take-le above open_old within) ∙ sym (length-reverse (take above open_old)) ∙ ap length lower

-- before the first heading no level is open, and nothing is written
pub lines_first : (file : List ℕ) (entries : List EntryView)
    → AreLinesSoFar file [] [] entries (lines_after file [] entries)
lines_first file entries = record {
  levels = [];
  open_levels_serve = record { stair = tt; same = λ level. refl };
  lines = refl;
}

-- after the line of one more heading
pub lines_next : (file open_old open_new list list' : List ℕ) (e : EntryView) (left : List EntryView) (whole : List ℕ)
    → AreLinesSoFar file open_old list (e ∷ left) whole
    → ((levels : List ℕ) → AreOpen open_old levels → AreOpen open_new (e.level ∷ levels))
    → ((levels : List ℕ) → AreOpen open_old levels → list' ≡ list ++ line_after file levels e)
    → AreLinesSoFar file open_new list' left whole
lines_next file open_old open_new list list' e left whole so_far opened written = record {
  levels = e.level ∷ so_far.levels;
  open_levels_serve = opened so_far.levels so_far.open_levels_serve;
  lines = ap (λ w. w ++ lines_after file (e.level ∷ so_far.levels) left)
      (written so_far.levels so_far.open_levels_serve)
      ∙ append_assoc list (line_after file so_far.levels e) _
      ∙ so_far.lines;
}
