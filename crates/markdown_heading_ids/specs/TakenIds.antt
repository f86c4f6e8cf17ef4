-- Which ids a `Taken` stands for, and what it knows of the numbers of their anchors.
use Rattle.std.specs.Prelude.{◌≡◌, ◌<◌, ◌≤◌, ◌^◌, ℕ, true, List, Some, None, bytes_eq, is_some, unwrap_or}
use Rattle.std.specs.BTreeMap.{get_by_text}
use Rattle.std.specs.Map.{update}
use Rattle.markdown_heading_ids.specs.HeadingIds.{Id, anchor_id, is_taken}
use Rattle.markdown_heading_ids.specs.declared.taken.Taken.{Taken}

-- the number that was given last to a taken id as an anchor; 0 where none was
abbrev pub last_number : Taken → Id → ℕ
last_number t anchor = unwrap_or (get_by_text t.numbers anchor) 0

-- these ids are taken, and no others; and of a taken id as an anchor all ids up to the number that was given last are
pub record StandsFor (t : Taken) (taken : List Id) : Type 0 where
  pub held : (id : Id) → is_some (get_by_text t.numbers id) ≡ is_taken taken id
  pub numbers : (anchor : Id) (n : ℕ) → is_taken taken anchor ≡ true → n ≤ last_number t anchor
      → is_taken taken (anchor_id anchor n) ≡ true

-- the number of one id is set, and those of all others stay. Only private clauses cite this and the next.
pub record SetsNumber (old new : Taken) (id : Id) (number : ℕ) : Type 0 where
  pub set : (other : Id) → get_by_text new.numbers other
      ≡ update bytes_eq (get_by_text old.numbers) id (Some number) other

-- of an anchor's ids this is the first after the last number that is not taken
pub record IsNextNumber (t : Taken) (anchor : Id) (last number : ℕ) : Type 0 where
  pub later : last < number
  pub small : number < 2 ^ 64
  pub free : get_by_text t.numbers (anchor_id anchor number) ≡ None
  pub passed : (n : ℕ) → last < n → n < number → is_some (get_by_text t.numbers (anchor_id anchor n)) ≡ true
