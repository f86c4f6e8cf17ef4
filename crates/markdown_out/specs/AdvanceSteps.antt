-- What the loop of a merge has done. Only private clauses cite this.
use Rattle.std.specs.Prelude.{◌≡◌, List, ◌++◌, map, Option}
use Rattle.std.specs.Option.{option_map}
use Rattle.markdown_out.specs.Merge.{Item, merge_answers}
use Rattle.markdown_out.specs.MergeNext.{Gave}

module _ {S T P : Type 0} (through : P → P → P) (view : T → Item P) (steps : S → Option T → S → Type 0) where
  -- the results read from s to t, whatever results follow, turn the merge of the items held at first
  -- into the results given and then the merge of the items held now
  pub record IsMerged (held : List (Item P)) (s : S) (given : List (Option (Item P))) (after : List (Item P)) (t : S)
      : Type 0 where
    pub answers : List (Option T)
    pub read : Gave steps s answers t
    pub leaves : (later : List (Option (Item P))) → merge_answers through held (map (option_map view) answers ++ later)
        ≡ given ++ merge_answers through after later
