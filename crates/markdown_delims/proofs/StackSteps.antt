-- A push, a search that finds and one that does not, of the stack and its bounds.
use Rattle.std.proofs.Common.{◌≡◌, ℕ, ◌+◌, ◌-◌, ◌<◌, ◌≤◌, true, false, List, [], ◌∷◌, ◌++◌, length, take, get_or, Some}
use Rattle.std.proofs.Common.{◌^◌, None, refl, ap, sym, ◌∙◌, subst, arith}
use Rattle.std.proofs.lemmas.List.{length-take-le, length_push}
use Rattle.std.proofs.lemmas.List.Elements.{All-push, All-take}
use Rattle.markdown_document.specs.Counts.{comparisons_per_delimiter}
use Rattle.markdown_delims.specs.declared.run.Run.{Run}
use Rattle.markdown_delims.specs.declared.run.Characters.{Characters}
use Rattle.markdown_delims.specs.declared.bounds.LowerBounds.{LowerBounds}
use Rattle.markdown_delims.specs.MayPair.{may_pair}
use Rattle.markdown_delims.specs.RunSearch.{nearest_run}
use Rattle.markdown_delims.specs.Bounds.{bound_for, raised_for, lowered, above_bounds}
use Rattle.markdown_delims.specs.OpenRuns.{open_runs, openers_of, potential_of, IsSound}
use Rattle.markdown_delims.proofs.BoundLaws.{BoundStack-cut, BoundStack-push, BoundStack-raised, bound_at-within}
use Rattle.markdown_delims.proofs.BoundLaws.{drop_bound-within}
use Rattle.markdown_delims.proofs.Potential.{above_bounds-push, above_bounds-cut, above_bounds-raised}
use Rattle.markdown_delims.proofs.Searches.{open_runs-pushed, open_runs-lowered, nearest-passed, nearest-taken}
use Rattle.markdown_delims.proofs.Searches.{nearest-below, may_take-fails, may_take-holds}

below : (x y z : ℕ) → x ≤ y → y < z → x < z
below x y z p q = omega arith

module _ (stack : List Characters) (examined : ℕ) (b : LowerBounds) (sound : IsSound stack examined b) where
  potential-push : (c : Characters) → potential_of (stack ++ c ∷ []) examined b
      ≡ potential_of stack examined b + comparisons_per_delimiter
  potential-push c =
      rw length_push (let e : above_bounds (length stack + 1) b ≡ above_bounds (length stack) b + 10 = above_bounds-push
      stack b sound.bound
      in one_more _ _ _ _ e)
    where
      one_more : (x n a c : ℕ) → a ≡ c + 10 → x + (n + 1) + a ≡ (x + n + c) + comparisons_per_delimiter
      one_more x n a c e = omega arith

  pub openers_of-push : (c : Characters) → openers_of (stack ++ c ∷ []) examined b
      ≡ record {
        runs = record { dropped = false; opener = c } ∷ open_runs b stack;
        examined = examined;
        potential = potential_of stack examined b + comparisons_per_delimiter;
      }
  openers_of-push c =
      rw (open_runs-pushed b stack c (drop_bound-within c.run.delimiter stack b sound.bound), potential-push c) refl

  pub IsSound-push : (c : Characters) → 0 < c.count
      → potential_of stack examined b + comparisons_per_delimiter < 2 ^ 128
      → IsSound (stack ++ c ∷ []) examined b
  IsSound-push c some room =
      record {
        bound = BoundStack-push stack c b sound.bound;
        counts = All-push (λ d. 0 < d.count) stack c sound.counts some;
        fits = rw (potential-push c) room;
      }

  -- a search that succeeds at a position has paid for its comparisons with the runs that it removes
  pub potential-cut : (i after : ℕ) → i ≤ length stack → after + i ≡ examined + length stack
      → potential_of (take i stack) after (lowered i b) ≤ potential_of stack examined b
  potential-cut i after h e =
      rw length-take-le (paid _ _ _ _ _ _ (above_bounds-cut i (length stack) b h) e)
    where
      paid : (a c i n x y : ℕ) → a ≤ c → y + i ≡ x + n → y + i + a ≤ x + n + c
      paid a c i n x y h e = omega arith

  pub IsSound-cut : (i after : ℕ) → i ≤ length stack → after + i ≡ examined + length stack
      → IsSound (take i stack) after (lowered i b)
  IsSound-cut i after h e =
      record {
        bound = BoundStack-cut stack b i h sound.bound;
        counts = All-take (λ d. 0 < d.count) i stack sound.counts;
        fits = below _ _ _ (potential-cut i after h e) sound.fits;
      }

  -- a search that fails has paid for them with the bounds that it raises
  pub potential-raised : (closer : Run) (after : ℕ) → after + bound_for closer b ≡ examined + length stack
      → potential_of stack after (raised_for closer (length stack) b) ≤ potential_of stack examined b
  potential-raised closer after e =
      paid _ _ _ _ _ _ (above_bounds-raised closer (length stack) b) (bound_at-within closer.delimiter closer stack b
      sound.bound) e
    where
      paid : (a c l n x y : ℕ) → a + (n - l) ≤ c → l ≤ n → y + l ≡ x + n → y + n + a ≤ x + n + c
      paid a c l n x y h w e = omega arith

  pub IsSound-raised : (closer : Run) (after : ℕ) → after + bound_for closer b ≡ examined + length stack
      → ((k : ℕ) (x : Characters) → bound_for closer b ≤ k → k < length stack → may_pair (get_or stack k x).run closer
      ≡ false)
      → IsSound stack after (raised_for closer (length stack) b)
  IsSound-raised closer after e f =
      record {
        bound = BoundStack-raised closer stack b sound.bound f;
        counts = sound.counts;
        fits = below _ _ _ (potential-raised closer after e) sound.fits;
      }

  -- the search from here on is the whole search
  pub found_at : (closer : Run) (i : ℕ) (opener : Characters) → bound_for closer b ≤ i → i < length stack → opener
      ≡ get_or stack i opener
      → may_pair opener.run closer ≡ true
      → nearest_run closer (open_runs b (take (i + 1) stack)) ≡ nearest_run closer (open_runs b stack)
      → nearest_run closer (open_runs b stack)
      ≡ Some (record { opener = opener; before = open_runs (lowered i b) (take i stack) })
  found_at closer i opener l h read pairs same =
      let p : may_pair (get_or stack i opener).run closer ≡ true = subst (λ c. may_pair c.run closer ≡ true) read pairs
      in
      let t : length (take i stack) ≤ i = omega (arith, length-take-le i stack (omega arith)) in
      sym same
      ∙ nearest-taken closer b stack i opener h (may_take-holds closer b i (get_or stack i opener) l p)
      ∙ ap (λ o. Some (record { opener = o; before = open_runs b (take i stack) })) (sym read)
      ∙ ap (λ rs. Some (record { opener = opener; before = rs })) (sym (open_runs-lowered b i (take i stack) t))

  pub passed_at : (closer : Run) (i : ℕ) (x : Characters) → i < length stack → may_pair (get_or stack i x).run closer
      ≡ false
      → nearest_run closer (open_runs b (take (i + 1) stack)) ≡ nearest_run closer (open_runs b stack)
      → nearest_run closer (open_runs b (take i stack)) ≡ nearest_run closer (open_runs b stack)
  passed_at closer i x h fails same =
      sym (nearest-passed closer b stack i x h (may_take-fails closer b i (get_or stack i x) fails)) ∙ same

  pub missed_at : (closer : Run) (i : ℕ) → i ≡ bound_for closer b
      → nearest_run closer (open_runs b (take i stack)) ≡ nearest_run closer (open_runs b stack)
      → nearest_run closer (open_runs b stack) ≡ None
  missed_at closer i e same =
      sym same ∙ ap (λ j. nearest_run closer (open_runs b (take j stack))) e ∙ nearest-below closer stack b sound.bound
