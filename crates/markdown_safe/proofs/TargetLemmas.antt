-- The destinations of links: what begins with a `#` and a name, and what does not.
use Rattle.std.proofs.Common.{◌≡◌, ◌++◌, ◌==◌, ℕ, Bool, true, false, not, List, [], ◌∷◌, length, refl, ap, codes}
use Rattle.std.proofs.Common.{inl, inr}
use Rattle.std.specs.Prelude.{nat_eq}
use Rattle.std.specs.List.{starts_with}
use Rattle.std.proofs.lemmas.Bool.{cases_eq, ne_eqb}
use Rattle.markdown_base.specs.Bytes.{number_sign}
use Rattle.markdown_base.specs.declared.tag.LinkType.{LinkType}
use Rattle.markdown_safe.specs.SafeEvents.{id_prefix, is_name, safe_destination, safe_name, safe_target}
use Rattle.markdown_safe.specs.SafeUrl.{link_schemes}

-- a name that is not empty
pub name-some : (name : List ℕ) (starts : Bool) → (length name == 0) ≡ false
    → starts ≡ starts_with nat_eq name id_prefix → not starts ≡ is_name name
name-some [] starts some is = cc some
name-some (b ∷ name) starts some is = ap not is

-- a destination of `#` and what is a name
pub target-named : (prefix : List ℕ) (kind : LinkType) (destination name : List ℕ) → destination ≡ number_sign ∷ name
    → is_name name ≡ true → codes "#" ++ safe_name prefix name ≡ safe_target prefix kind destination
target-named prefix kind destination name are is = rw (are, is) refl

-- of `#` and what is none
pub target-unnamed : (prefix : List ℕ) (kind : LinkType) (destination name : List ℕ) → destination ≡ number_sign ∷ name
    → is_name name ≡ false → safe_destination kind link_schemes destination ≡ safe_target prefix kind destination
target-unnamed prefix kind destination name are is = rw (are, is) refl

-- and one that does not begin with `#`
pub target-other : (prefix : List ℕ) (kind : LinkType) (destination : List ℕ)
    → ((name : List ℕ) → destination ≡ number_sign ∷ name → ⊥)
    → safe_destination kind link_schemes destination ≡ safe_target prefix kind destination
target-other prefix kind [] other = refl
target-other prefix kind (b ∷ name) other = elim (cases_eq b number_sign) [
  | inl e ↦ absurd (other name (ap (λ x. x ∷ name) e))
  | inr n ↦ rw (ne_eqb b number_sign n) refl
]
