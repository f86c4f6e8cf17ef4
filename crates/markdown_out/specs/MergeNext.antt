-- What a call of `next` of a merge returns, over any iterator.
use Rattle.std.specs.Prelude.{◌≡◌, ◌⊎◌, ◌+◌, ◌≤◌, ℕ, Bool, true, false, cond, List, [], ◌∷◌, ◌++◌, map, Ok, Err, Result}
use Rattle.std.specs.Prelude.{Option, Some, None}
use Rattle.std.specs.Bool.{MatchBool}
use Rattle.std.specs.Option.{option_map}
use Rattle.std.specs.Iterator.{Count, IsFinite, size}
use Rattle.markdown_base.specs.Event.{event_view}
use Rattle.markdown_base.specs.declared.event.Event.{Event}
use Rattle.markdown_base.specs.declared.fault.Fault.{Fault}
use Rattle.markdown_base.specs.declared.fault.Fault.TheVariants.{Memory}
use Rattle.markdown_out.specs.Merge.{Item, merge_answers}
use Rattle.markdown_out.specs.TextForms.{Formed, with_forms}

-- an item in the form in which the merge is defined; `parts` gives its event and its range
abbrev pub item_view : {T P : Type 0} → (T → Event × P) → Result T Fault → Item P
item_view parts (Ok x) = Ok (event_view (parts x).0, (parts x).1)
item_view parts (Err fault) = Err fault

-- the same, with the forms of the event's texts beside its range
abbrev pub formed_view : {T P : Type 0} → (T → Event × P) → Result T Fault → Item (Formed P)
formed_view parts = item_view (with_forms parts)

module _ {S A : Type 0} (steps : S → Option A → S → Type 0) where
  -- the calls from state s to state t returned these results
  abbrev pub Gave : S → List (Option A) → S → Type 0
  Gave s [] t = s ≡ t
  Gave s (r ∷ answers) t = (j : S) × steps s r j × Gave j answers t

  -- calls lead from state s to state t, and the last of them returned an item
  pub record ReadsItem (s t : S) : Type 0 where
    pub before : List (Option A)
    pub last : A
    pub read : Gave s (before ++ Some last ∷ []) t

  -- The iterator may be called, and ends. In every state that calls lead to, it may be called again
  -- after it returns None, and has no more items left than before.
  pub record CanMerge (can : S → Type 0) (rest : S → Count) (s : S) : Type 0 where
    pub callable : can s
    pub ends : IsFinite (rest s)
    pub goes_on : (answers : List (Option A)) (t u : S) → Gave s answers t → can t → IsFinite (rest t)
        → steps t None u → can u × (size (rest u) ≤ size (rest t))

-- a merge between calls: its iterator, the items that have been read and not returned yet, and whether
-- an allocation has been refused
pub record MergeState (S P : Type 0) : Type 0 where
  pub iter : S
  pub held : List (Item P)
  pub over : Bool

-- 1 where the list has any element
abbrev pub some_count : {A : Type 0} → List A → ℕ
some_count [] = 0
some_count (x ∷ xs) = 1

-- the most items that a merge has left, from the count of those that its iterator has left
abbrev pub left_count : {S P : Type 0} → (S → Count) → MergeState S P → ℕ
left_count rest s = cond s.over 0 (some_count s.held + size (rest s.iter))

module _ {S T P : Type 0} (through : P → P → P) (view : T → Item P) (steps : S → Option T → S → Type 0) where
  -- results of the iterator were read, and, whatever results follow, what was left of the merge is the
  -- result returned and then what is left now
  pub record PassesOn (s : MergeState S P) (r : Option T) (t : MergeState S P) : Type 0 where
    pub answers : List (Option T)
    pub read : Gave steps s.iter answers t.iter
    pub leaves : (later : List (Option (Item P)))
        → merge_answers through s.held (map (option_map view) answers ++ later)
        ≡ option_map view r ∷ merge_answers through t.held later
    pub goes_on : t.over ≡ false

-- a merge is refused memory when it has read an item: it returns this error, and is over
abbrev pub Refuses : {S T P : Type 0} → (S → Option (Result T Fault) → S → Type 0)
    → MergeState S P → Option (Result T Fault) → MergeState S P → Type 0
Refuses steps s r t = (r ≡ Some (Err Memory)) × (t.over ≡ true) × ReadsItem steps s.iter t.iter

-- one call: the merge returns its next result, or an allocation is refused, which is an error item,
-- followed only by None
abbrev pub MergesNext : {S T P : Type 0} → (P → P → P) → (Result T Fault → Item P)
    → (S → Option (Result T Fault) → S → Type 0)
    → MergeState S P → Option (Result T Fault) → MergeState S P → Type 0
MergesNext through view steps s r t = MatchBool s.over
    ((r ≡ None) × (t.over ≡ true))
    (PassesOn through view steps s r t ⊎ Refuses steps s r t)

-- a call of `next`: it returns this, the merge may be called again, after None too, and it has no more
-- items left than before
pub record CallsMerge {S T P : Type 0} (through : P → P → P) (view : Result T Fault → Item P) (steps : S
    → Option (Result T Fault) → S → Type 0)
    (can : S → Type 0) (rest : S → Count) (s : MergeState S P) (r : Option (Result T Fault)) (t : MergeState S P) : Type
    0 where
  pub gives : MergesNext through view steps s r t
  pub again : CanMerge steps can rest t.iter
  pub fewer : left_count rest t ≤ left_count rest s
