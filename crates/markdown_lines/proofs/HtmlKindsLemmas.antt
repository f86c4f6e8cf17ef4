-- Where bytes hold others: here, or further on.
use Rattle.std.proofs.Common.{◌≡◌, ℕ, suc, ◌+◌, ◌<◌, List, ◌∷◌, false, length, drop, drop-cons, get_or, refl, sym}
use Rattle.std.proofs.Common.{subst, arith}
use Rattle.markdown_lines.specs.HtmlKinds.{begins_ignoring_case, holds}

not_first : (byte : ℕ) (bytes others : List ℕ) → begins_ignoring_case (byte ∷ bytes) others ≡ false
    → holds (byte ∷ bytes) others ≡ holds bytes others
not_first byte bytes others h = rw h refl

-- where bytes do not begin with others at an offset, they contain them after it, if at all
pub not_here : (bytes others : List ℕ) (at : ℕ) → at < length bytes → begins_ignoring_case (drop at bytes) others
    ≡ false
    → holds (drop at bytes) others ≡ holds (drop (at + 1) bytes) others
not_here bytes others at more none =
    let cut : drop at bytes ≡ get_or bytes at 0 ∷ drop (suc at) bytes = drop-cons bytes at 0 more in
    let next : suc at ≡ at + 1 = omega arith in
    subst (λ k. holds (drop at bytes) others ≡ holds (drop k bytes) others) next
    (subst (λ xs. holds xs others ≡ holds (drop (suc at) bytes) others) (sym cut)
    (not_first (get_or bytes at 0) (drop (suc at) bytes) others
    (subst (λ xs. begins_ignoring_case xs others ≡ false) cut none)))
