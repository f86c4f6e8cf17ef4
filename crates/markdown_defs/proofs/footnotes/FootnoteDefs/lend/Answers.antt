-- What is written through the reference is found by the folding.
use Rattle.std.proofs.Common.{◌≡◌, Option, Some, None, IsSome, OnSome, ap, refl}
use Rattle.std.specs.BTreeMap.{get_by_text}
use Rattle.std.specs.Option.{option_map}
use Rattle.std.proofs.lemmas.Map.Text.{btree_map_updates_text}
use Rattle.markdown_defs.proofs.footnotes.FootnoteDefs.lend.Goals as goal

-- a fact that follows if there is a value
on_some : {A P : Type 0} (o : Option A) → (IsSome o → P) → OnSome o P
on_some None f = tt
on_some (Some x) f = f refl

some_mapped : {A B : Type 0} (f : A → B) (o : Option A) (p : Option B) → option_map f o ≡ p → IsSome o → IsSome p
some_mapped f None p e there = absurd (cc)
some_mapped f (Some x) p e there = rw (← e)

pub returns : goal.returns
returns c = (
  (
    refl,
    λ w. on_some c.get_mut.result (λ there. λ q. btree_map_updates_text c.args.folded.now c.args.self.now.by_folding
        (c.get_mut.follows.lender w) (Some w)
        ((c.get_mut.follows.holds w).3 (some_mapped (λ x. x.now) c.get_mut.result _
        c.get_mut.ensures.value there)) q),
    λ q. ap (λ m. get_by_text m q) c.get_mut.follows.holds-at-none,
  ),
  c.get_mut.ensures.value,
)
