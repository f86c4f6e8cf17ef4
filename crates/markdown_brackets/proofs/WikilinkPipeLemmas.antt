-- The pipe of a wikilink in a block is that of the whole text, if it is before the block's end.
use Rattle.std.proofs.Common.{◌≡◌, ℕ, zero, suc, ◌+◌, ◌-◌, ◌<◌, ◌≤◌, ◌⊎◌, inl, inr, Bool, true, false, not, ◌==◌, List}
use Rattle.std.proofs.Common.{[], ◌∷◌, Option, Some, None, length, take, drop, min, refl, sym, ap, ◌∙◌, arith, cond}
use Rattle.std.proofs.Common.{nat_lt, nat_le}
use Rattle.std.specs.Prelude.{IfSome, if◌then◌else◌}
use Rattle.std.specs.List.{position_or_len}
use Rattle.std.specs.Option.{option_map}
use Rattle.std.proofs.lemmas.Bool.{cases_lt}
use Rattle.std.proofs.lemmas.Bool.Decides.{nat_tests}
use Rattle.std.proofs.lemmas.List.{length-take, take-take}
use Rattle.markdown_scan.specs.WikilinkPipe.{name_before_pipe, wikilink_pipe}
use Rattle.markdown_base.proofs.ListLemmas.{drop_of_take}

-- what was found, if it ends so early
abbrev pub ending_by : ℕ → Option (ℕ × List ℕ) → Option (ℕ × List ℕ)
ending_by n None = None
ending_by n (Some found) = if nat_le found.0 n then Some found else None

-- so it has what was found
if_ending_by : (n : ℕ) (found : Option (ℕ × List ℕ)) (P : ℕ × List ℕ → Type 0) → IfSome found P
    → IfSome (ending_by n found) P
if_ending_by n None P h = tt
if_ending_by n (Some found) P h = by (nat_le found.0 n)
  where
    by : (b : Bool) → IfSome (if b then Some found else None) P
    by true = h
    by false = tt

take_nothing : (n : ℕ) → take {A = ℕ} n [] ≡ []
take_nothing zero = refl
take_nothing (suc n) = refl

-- a beginning of a beginning, and of what follows one
take_swap : (n m : ℕ) (xs : List ℕ) → take n (take m xs) ≡ take m (take n xs)
take_swap zero m xs = sym (take_nothing m)
take_swap (suc n) zero xs = refl
take_swap (suc n) (suc m) [] = refl
take_swap (suc n) (suc m) (x ∷ xs) = ap (λ (ys : List ℕ). x ∷ ys) (take_swap n m xs)

-- the first place in a beginning
place_taken : (p : ℕ → Bool) (m : ℕ) (xs : List ℕ) → position_or_len p (take m xs) ≡ min m (position_or_len p xs)
place_taken p zero xs = omega arith
place_taken p (suc m) [] = omega arith
place_taken p (suc m) (x ∷ xs) = by (not (p x)) (place_taken p m xs)
  where
    by : (b : Bool) → position_or_len p (take m xs) ≡ min m (position_or_len p xs)
        → cond b (1 + position_or_len p (take m xs)) 0 ≡ min (suc m) (cond b (1 + position_or_len p xs) 0)
    by true later = omega (arith, later)
    by false later = omega arith

-- a pipe in a beginning of a body
module _ (start m : ℕ) (body : List ℕ) where
  here : ℕ
  here = position_or_len (λ b. b == 124) body

  abbrev FromTaken : ℕ → Bool → Option (ℕ × List ℕ)
  FromTaken k b = option_map (λ n. (start + n + 1, take n (take m body))) (if b then Some k else None)

  abbrev FromAll : Bool → Option (ℕ × List ℕ)
  FromAll b = ending_by (start + m) (option_map (λ n. (start + n + 1, take n body)) (if b then Some here else None))

  inside : here < m → FromTaken here (nat_lt here (length (take m body))) ≡ FromAll (nat_lt here (length body))
  inside l = ap (FromTaken here) both ∙ same (nat_lt here (length body))
    where
      both : nat_lt here (length (take m body)) ≡ nat_lt here (length body)
      both = let size = length-take m body in grind (arith, nat_tests)

      same : (b : Bool) → FromTaken here b ≡ FromAll b
      same true =
          let ends : nat_le (start + here + 1) (start + m) ≡ true = grind (arith, nat_tests) in
          rw (ends, take-take here m body (omega (arith, l))) refl
      same false = refl

  outside : m ≤ here → FromTaken m (nat_lt m (length (take m body))) ≡ FromAll (nat_lt here (length body))
  outside l = ap (FromTaken m) past ∙ none (nat_lt here (length body))
    where
      past : nat_lt m (length (take m body)) ≡ false
      past = let size = length-take m body in grind (arith, nat_tests)

      none : (b : Bool) → None ≡ FromAll b
      none true =
          let ends : nat_le (start + here + 1) (start + m) ≡ false = grind (arith, nat_tests) in
          rw ends refl
      none false = refl

  name_taken : name_before_pipe start (take m body) ≡ ending_by (start + m) (name_before_pipe start body)
  unfolding here
  name_taken = by (cases_lt here m)
    where
      at : (k : ℕ) → position_or_len (λ b. b == 124) (take m body) ≡ k
          → name_before_pipe start (take m body) ≡ FromTaken k (nat_lt k (length (take m body)))
      at k e = ap (λ k. FromTaken k (nat_lt k (length (take m body)))) e

      place : position_or_len (λ b. b == 124) (take m body) ≡ min m here
      place = place_taken (λ b. b == 124) m body

      by : (here < m) ⊎ (m ≤ here) → name_before_pipe start (take m body)
          ≡ ending_by (start + m) (name_before_pipe start body)
      by (inl l) = at here (omega (arith, place, l)) ∙ inside l
      by (inr l) = at m (omega (arith, place, l)) ∙ outside l

-- after the byte offset where a block ends nothing is found in it
past_block : (start n : ℕ) (body : List ℕ) → n < start
    → ending_by (start + (n - start)) (name_before_pipe start body) ≡ ending_by n (name_before_pipe start body)
past_block start n body l = by (nat_lt place (length body))
  where
    place : ℕ
    place = position_or_len (λ b. b == 124) body

    pipe : ℕ × List ℕ
    pipe = (start + place + 1, take place body)

    by : (b : Bool) → ending_by (start + (n - start))
        (option_map (λ k. (start + k + 1, take k body)) (if b then Some place else None))
        ≡ ending_by n (option_map (λ k. (start + k + 1, take k body)) (if b then Some place else None))
    by true =
        let one : nat_le (start + place + 1) (start + (n - start)) ≡ false = grind (arith, nat_tests) in
        let other : nat_le (start + place + 1) n ≡ false = grind (arith, nat_tests) in
        rw (one, other) refl
    by false = refl

pub pipe_in_block : (text : List ℕ) (block_end start size : ℕ)
    → wikilink_pipe (take block_end text) start size ≡ ending_by block_end (wikilink_pipe text start size)
pipe_in_block text block_end start size =
    let body : List ℕ = take size (drop start text) in
    let taken : take size (drop start (take block_end text)) ≡ take (block_end - start) body =
    ap (take size) (drop_of_take start block_end text) ∙ take_swap size (block_end - start) (drop start text) in
    ap (name_before_pipe start) taken ∙ name_taken start (block_end - start) body ∙ by body (cases_lt block_end start)
  where
    by : (body : List ℕ) → (block_end < start) ⊎ (start ≤ block_end)
        → ending_by (start + (block_end - start)) (name_before_pipe start body)
        ≡ ending_by block_end (name_before_pipe start body)
    by body (inl l) = past_block start block_end body l
    by body (inr l) =
        let ends : start + (block_end - start) ≡ block_end = omega (arith, l) in
        ap (λ n. ending_by n (name_before_pipe start body)) ends

pub no_pipe_in_block : (text : List ℕ) (block_end start size : ℕ) → None ≡ wikilink_pipe text start size
    → None ≡ wikilink_pipe (take block_end text) start size
no_pipe_in_block text block_end start size e = rw (pipe_in_block text block_end start size, ← e) refl

pub pipe_past_block : (text : List ℕ) (block_end start size : ℕ) (found : ℕ × List ℕ) → Some found
    ≡ wikilink_pipe text start size
    → block_end < found.0 → None ≡ wikilink_pipe (take block_end text) start size
pipe_past_block text block_end start size found e l =
    let past : nat_le found.0 block_end ≡ false = grind (arith, nat_tests) in
    rw (pipe_in_block text block_end start size, ← e, past) refl

pub pipe_before_end : (text : List ℕ) (block_end start size : ℕ) (found : ℕ × List ℕ) → Some found
    ≡ wikilink_pipe text start size
    → found.0 ≤ block_end → Some found ≡ wikilink_pipe (take block_end text) start size
pipe_before_end text block_end start size found e l =
    let before : nat_le found.0 block_end ≡ true = grind (arith, nat_tests) in
    rw (pipe_in_block text block_end start size, ← e, before) refl

-- so a pipe in the block has what the pipe of the text has
pub some_in_block : (text : List ℕ) (block_end start size : ℕ) (P : ℕ × List ℕ → Type 0)
    → IfSome (wikilink_pipe text start size) P
    → IfSome (wikilink_pipe (take block_end text) start size) P
some_in_block text block_end start size P h =
    rw (pipe_in_block text block_end start size) (if_ending_by block_end (wikilink_pipe text start size) P h)
