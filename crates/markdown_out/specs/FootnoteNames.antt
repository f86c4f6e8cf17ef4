-- The names of footnotes, held in an ordered map from each name to its position. Only private clauses
-- cite this.
use Rattle.std.specs.Prelude.{◌≡◌, ℕ, zero, suc, List, [], ◌∷◌, ◌++◌, ◌==◌, IsTrue, length}
use Rattle.std.specs.Prelude.{if◌then◌else◌, nat_lt}
use Rattle.std.specs.BTreeMap.{is_at}
use Rattle.std.specs.Cmp.Lexicographic.{slice_cmp}
use Rattle.std.specs.List.{list_all, position_from}
use Rattle.std.specs.Map.{lookup}
use Rattle.std.specs.Ordering.{nat_cmp}
use Rattle.std.specs.declared.cmp.Ordering.{Ordering}
use Rattle.markdown_base.specs.CowText.{text_of}
use Rattle.markdown_out.specs.LookBacks.{are_same_names}
use Rattle.markdown_out.specs.declared.html.names.Name.{Name}

-- names are ordered by their bytes
abbrev pub name_cmp : Name → Name → Ordering
name_cmp x y = slice_cmp nat_cmp (text_of x.text) (text_of y.text)

-- the name at this position, or no bytes where there is none
abbrev pub name_at : ℕ → List (Name × ℕ) → List ℕ
name_at i [] = []
name_at i (e ∷ es) = if e.1 == i then text_of e.0.text else name_at i es

-- the names at the first `n` positions, in their order
abbrev pub first_names : ℕ → List (Name × ℕ) → List (List ℕ)
first_names zero es = []
first_names (suc n) es = first_names n es ++ name_at n es ∷ []

-- the names, in the order of their positions
abbrev pub names_in : List (Name × ℕ) → List (List ℕ)
names_in es = first_names (length es) es

-- each name is found at its position, and every position is less than the number of names
pub record IsNumbered (es : List (Name × ℕ)) : Type 0 where
  pub small : IsTrue (list_all (λ e. nat_lt e.1 (length es)) es)
  pub found : (name : Name) → lookup (is_at (name_cmp name)) es
      ≡ position_from (are_same_names (text_of name.text)) 0 (names_in es)
