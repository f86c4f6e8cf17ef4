-- The merge of neighbouring Texts: in a list of events and errors, and in the results of an iterator.
use Rattle.std.specs.Prelude.{ℕ, List, [], ◌∷◌, ◌++◌, map, Ok, Result, Option, Some, None}
use Rattle.std.specs.List.{flat_map}
use Rattle.markdown_base.specs.Event.{EventView, text}
use Rattle.markdown_base.specs.declared.fault.Fault.{Fault}

-- an event with its range, or an error
abbrev pub Item : Type 0 → Type 0
Item P = Result (EventView × P) Fault

-- the bytes of a Text, and its range
pub record PlacedText (P : Type 0) : Type 0 where
  pub bytes : List ℕ
  pub range : P

-- a Text, as an item
abbrev pub text_item : {P : Type 0} → PlacedText P → Item P
text_item t = Ok (text t.bytes, t.range)

-- the Text that an item is, if it is one
abbrev pub text_of_item : {P : Type 0} → Item P → Option (PlacedText P)
text_of_item (Ok (text t, range)) = Some (record { bytes = t; range = range })
text_of_item item = None

-- an item that is not a Text, or a maximal run of neighbouring Texts: the first, and those after it
pub data Run (P : Type 0) : Type 0 where
  alone : Item P → Run P
  texts : PlacedText P → List (PlacedText P) → Run P

-- these runs with an item before them: a Text joins a run of Texts that begins directly after it
abbrev pub before_runs : {P : Type 0} → Item P → Option (PlacedText P) → List (Run P) → List (Run P)
before_runs item None rest = alone item ∷ rest
before_runs item (Some t) (texts u us ∷ rest) = texts t (u ∷ us) ∷ rest
before_runs item (Some t) rest = texts t [] ∷ rest

-- a list of items, cut into maximal runs
abbrev pub runs : {P : Type 0} → List (Item P) → List (Run P)
runs [] = []
runs (item ∷ items) = before_runs item (text_of_item item) (runs items)

-- the last of a run of Texts
abbrev pub last_text : {P : Type 0} → PlacedText P → List (PlacedText P) → PlacedText P
last_text t [] = t
last_text t (u ∷ us) = last_text u us

-- one Text of these bytes, or nothing where there are none
abbrev pub unless_empty : {P : Type 0} → List ℕ → P → List (Item P)
unless_empty [] range = []
unless_empty (b ∷ bytes) range = Ok (text (b ∷ bytes), range) ∷ []

module _ {P : Type 0} (through : P → P → P) where
  -- what a run becomes: an item or a single Text stays as it is; two or more Texts become one Text of
  -- their bytes, from the range of the first to that of the last, or nothing where it would be empty
  abbrev pub run_items : Run P → List (Item P)
  run_items (alone item) = item ∷ []
  run_items (texts t []) = text_item t ∷ []
  run_items (texts t (u ∷ us)) =
      unless_empty (flat_map (λ x. x.bytes) (t ∷ u ∷ us)) (through t.range (last_text u us).range)

  -- the merge of a list of items
  abbrev pub merged : List (Item P) → List (Item P)
  merged items = flat_map run_items (runs items)

  -- What a merge returns, for the items that it holds and the results to come. Each stretch of items
  -- between two Nones is merged by itself, and a None is passed on only where its stretch has no item.
  abbrev pub merge_answers : List (Item P) → List (Option (Item P)) → List (Option (Item P))
  merge_answers held [] = map (λ x. Some x) (merged held)
  merge_answers held (Some x ∷ answers) = merge_answers (held ++ x ∷ []) answers
  merge_answers [] (None ∷ answers) = None ∷ merge_answers [] answers
  merge_answers (y ∷ held) (None ∷ answers) =
      map (λ x. Some x) (merged (y ∷ held)) ++ merge_answers [] answers
