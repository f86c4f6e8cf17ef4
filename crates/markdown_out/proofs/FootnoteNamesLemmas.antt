-- Names at their places in an ordered map: what is found there, and what one more name makes of it.
use Rattle.std.proofs.Common.{◌≡◌, ◌≤◌, ◌+◌, ◌++◌, ◌||◌, ◌&&◌, ◌==◌, ℕ, zero, suc, Bool, true, false, cond, not, List}
use Rattle.std.proofs.Common.{[], ◌∷◌, length, Option, Some, None, refl, sym, ap, subst, ◌∙◌, arith, nat_lt, nat_eq}
use Rattle.std.specs.Prelude.{IsTrue, if◌then◌else◌}
use Rattle.std.specs.Ordering.{is_eq, match_ordering}
use Rattle.std.specs.declared.cmp.Ordering.{Ordering}
use Rattle.std.specs.declared.cmp.Ordering.TheVariants.{Less, Equal, Greater}
use Rattle.std.specs.BTreeMap.{is_at, insert_entry}
use Rattle.std.specs.Cmp.Lexicographic.{pointwise, nat_list_eq_equiv, same_text}
use Rattle.std.specs.List.{list_all, list_any, position_from, position_or_len, prefix_len}
use Rattle.std.specs.Map.{lookup}
use Rattle.std.proofs.lemmas.Bool.Decides.{nat_tests}
use Rattle.std.proofs.lemmas.Map.Text.{is_eq-slice_cmp}
use Rattle.std.proofs.lemmas.Bool.{and_parts}
use Rattle.markdown_base.specs.CowText.{text_of}
use Rattle.markdown_out.specs.LookBacks.{are_same_names, with_name}
use Rattle.markdown_out.specs.FootnoteNames.{name_cmp, name_at, first_names, names_in, IsNumbered}
use Rattle.markdown_out.specs.declared.html.names.Name.{Name}

abbrev Entries : Type 0
Entries = List (Name × ℕ)

-- ---- a search from a place on

add-none : (i : ℕ) → i ≡ i + 0
add-none i = omega arith

add-one-more : (i m : ℕ) → i + 1 + m ≡ i + (1 + m)
add-one-more i m = omega arith

-- it finds the first place, where anything passes
pub position_from-is : {A : Type 0} (t : A → Bool) (i : ℕ) (xs : List A)
    → position_from t i xs ≡ cond (list_any t xs) (Some (i + position_or_len t xs)) None
position_from-is t i [] = refl
position_from-is t i (x ∷ xs) =
    elim (t x) as (λ b. cond b (Some i) (position_from t (i + 1) xs)
    ≡ cond (b || list_any t xs) (Some (i + cond (not b) (1 + position_or_len t xs) 0)) None) [
      | true ↦ ap Some (add-none i)
      | false ↦ position_from-is t (i + 1) xs
          ∙ ap (λ n. cond (list_any t xs) (Some n) None) (add-one-more i (position_or_len t xs))
    ]

-- where nothing passes, the place is after all
pub position_or_len-none : {A : Type 0} (t : A → Bool) (xs : List A) → list_any t xs ≡ false
    → position_or_len t xs ≡ length xs
position_or_len-none t [] h = refl
position_or_len-none t (x ∷ xs) h = by (t x) (position_or_len-none t xs) h
  where
    by : (b : Bool) → (list_any t xs ≡ false → position_or_len t xs ≡ length xs)
        → (b || list_any t xs) ≡ false
        → cond (not b) (1 + position_or_len t xs) 0 ≡ length (x ∷ xs)
    by true rest k = cc
    by false rest k = let tail = rest k in omega (arith, tail)

-- one more element at the end
position_from-push : {A : Type 0} (t : A → Bool) (i : ℕ) (xs : List A) (y : A)
    → position_from t i (xs ++ y ∷ [])
    ≡ cond (list_any t xs) (position_from t i xs) (cond (t y) (Some (i + length xs)) None)
position_from-push t i [] y = ap (λ n. cond (t y) (Some n) None) (add-none i)
position_from-push t i (x ∷ xs) y =
    elim (t x) as (λ b. cond b (Some i) (position_from t (i + 1) (xs ++ y ∷ []))
    ≡ cond (b || list_any t xs) (cond b (Some i) (position_from t (i + 1) xs))
    (cond (t y) (Some (i + length (x ∷ xs))) None)) [
      | true ↦ refl
      | false ↦ position_from-push t (i + 1) xs y
          ∙ ap (λ n. cond (list_any t xs) (position_from t (i + 1) xs) (cond (t y) (Some n) None))
          (one_more (length xs))
    ]
  where
    one_more : (n : ℕ) → i + 1 + n ≡ i + suc n
    one_more n = omega arith

-- ---- one more name in the map

-- a name that is not there
abbrev IsAbsent : Name → Entries → Type 0
IsAbsent k es = lookup (is_at (name_cmp k)) es ≡ None

-- one entry more
length-inserted : (k : Name) (v : ℕ) (es : Entries) → IsAbsent k es
    → length (insert_entry name_cmp es k v) ≡ suc (length es)
length-inserted k v [] h = refl
length-inserted k v (e ∷ es) h = by (name_cmp k e.0) (length-inserted k v es) h
  where
    by : (o : Ordering)
        → (IsAbsent k es → length (insert_entry name_cmp es k v) ≡ suc (length es))
        → cond (is_eq o) (Some e.1) (lookup (is_at (name_cmp k)) es) ≡ None
        → length (match_ordering o ((k, v) ∷ e ∷ es) ((e.0, v) ∷ es)
        (e ∷ insert_entry name_cmp es k v)) ≡ suc (length (e ∷ es))
    by Less rest n = refl
    by Equal rest n = cc
    by Greater rest n = ap suc (rest n)

-- where the entries are as many as before, the value found for a name, written there again, changes nothing
pub insert_same : (k : Name) (v : ℕ) (es : Entries) → lookup (is_at (name_cmp k)) es ≡ Some v
    → length (insert_entry name_cmp es k v) ≡ length es → insert_entry name_cmp es k v ≡ es
insert_same k v [] f l = cc
insert_same k v (e ∷ es) f l = by (name_cmp k e.0) (insert_same k v es) f l
  where
    by : (o : Ordering)
        → (lookup (is_at (name_cmp k)) es ≡ Some v → length (insert_entry name_cmp es k v) ≡ length es
        → insert_entry name_cmp es k v ≡ es)
        → cond (is_eq o) (Some e.1) (lookup (is_at (name_cmp k)) es) ≡ Some v
        → length (match_ordering o ((k, v) ∷ e ∷ es) ((e.0, v) ∷ es) (e ∷ insert_entry name_cmp es k v))
        ≡ length (e ∷ es)
        → match_ordering o ((k, v) ∷ e ∷ es) ((e.0, v) ∷ es) (e ∷ insert_entry name_cmp es k v) ≡ e ∷ es
    by Less rest f l = absurd (omega (arith, l))
    by Equal rest f l = let q : e.1 ≡ v = cc (f) in ap (λ x. (e.0, x) ∷ es) (sym q)
    by Greater rest f l = ap (λ x. e ∷ x) (rest f (omega (arith, l)))

-- the other names stay at their places
name_at-other : (k : Name) (v i : ℕ) (es : Entries) → IsAbsent k es → (v == i) ≡ false
    → name_at i (insert_entry name_cmp es k v) ≡ name_at i es
name_at-other k v i [] h n = ap (λ b. if b then text_of k.text else []) n
name_at-other k v i (e ∷ es) h n = by (name_cmp k e.0) (λ m. name_at-other k v i es m n) h
  where
    by : (o : Ordering)
        → (IsAbsent k es → name_at i (insert_entry name_cmp es k v) ≡ name_at i es)
        → cond (is_eq o) (Some e.1) (lookup (is_at (name_cmp k)) es) ≡ None
        → name_at i (match_ordering o ((k, v) ∷ e ∷ es) ((e.0, v) ∷ es)
        (e ∷ insert_entry name_cmp es k v)) ≡ name_at i (e ∷ es)
    by Less rest m = ap (λ b. if b then text_of k.text else name_at i (e ∷ es)) n
    by Equal rest m = cc
    by Greater rest m = ap (λ x. if e.1 == i then text_of e.0.text else x) (rest m)

abbrev below : ℕ → Entries → Bool
below n es = list_all (λ e. nat_lt e.1 n) es

is_other : (a n v : ℕ) → IsTrue (nat_lt a n) → n ≤ v → (a == v) ≡ false
is_other a n v h l = grind (arith, nat_tests, h)

both_true : (a b : Bool) → IsTrue a → IsTrue b → IsTrue (a && b)
both_true true b h k = k
both_true false b h k = cc

-- the new name is at its place
name_at-new : (k : Name) (n v : ℕ) (es : Entries) → IsTrue (below n es) → n ≤ v
    → IsAbsent k es → name_at v (insert_entry name_cmp es k v) ≡ text_of k.text
name_at-new k n v [] b l h = ap (λ c. if c then text_of k.text else []) (same v)
  where
    same : (v : ℕ) → (v == v) ≡ true
    same v = grind (arith, nat_tests)
name_at-new k n v (e ∷ es) b l h = by (name_cmp k e.0)
    (name_at-new k n v es (and_parts (nat_lt e.1 n) (below n es) b).1 l) h
  where
    parts : IsTrue (nat_lt e.1 n) × IsTrue (below n es)
    parts = and_parts (nat_lt e.1 n) (below n es) b

    same : (v : ℕ) → (v == v) ≡ true
    same v = grind (arith, nat_tests)

    by : (o : Ordering)
        → (IsAbsent k es → name_at v (insert_entry name_cmp es k v) ≡ text_of k.text)
        → cond (is_eq o) (Some e.1) (lookup (is_at (name_cmp k)) es) ≡ None
        → name_at v (match_ordering o ((k, v) ∷ e ∷ es) ((e.0, v) ∷ es)
        (e ∷ insert_entry name_cmp es k v)) ≡ text_of k.text
    by Less rest m = ap (λ c. if c then text_of k.text else name_at v (e ∷ es)) (same v)
    by Equal rest m = cc
    by Greater rest m = ap (λ c. if c then text_of e.0.text
        else name_at v (insert_entry name_cmp es k v)) (is_other e.1 n v parts.0 l) ∙ rest m

first_names-inserted : (k : Name) (v : ℕ) (es : Entries) → IsAbsent k es → (n : ℕ) → n ≤ v
    → first_names n (insert_entry name_cmp es k v) ≡ first_names n es
first_names-inserted k v es h zero l = refl
first_names-inserted k v es h (suc n) l =
    let other : (v == n) ≡ false = grind (arith, nat_tests, l) in
    ap (λ x. x ++ name_at n (insert_entry name_cmp es k v) ∷ [])
    (first_names-inserted k v es h n (omega arith))
    ∙ ap (λ x. first_names n es ++ x ∷ []) (name_at-other k v n es h other)

-- the names, and the new one after them
pub names_in-inserted : (k : Name) (es : Entries) → IsNumbered es → IsAbsent k es
    → names_in (insert_entry name_cmp es k (length es)) ≡ names_in es ++ text_of k.text ∷ []
names_in-inserted k es s h =
    let v = length es in
    let after = insert_entry name_cmp es k v in
    ap (λ n. first_names n after) (length-inserted k v es h)
    ∙ (ap (λ x. x ++ name_at v after ∷ []) (first_names-inserted k v es h v (omega arith))
    ∙ ap (λ x. names_in es ++ x ∷ []) (name_at-new k v v es s.small (omega arith) h))

lt-more : (a n : ℕ) → IsTrue (nat_lt a n) → IsTrue (nat_lt a (suc n))
lt-more a n h = grind (arith, nat_tests, h)

lt-self : (n : ℕ) → IsTrue (nat_lt n (suc n))
lt-self n = grind (arith, nat_tests)

below-more : (n : ℕ) (es : Entries) → IsTrue (below n es) → IsTrue (below (suc n) es)
below-more n [] b = b
below-more n (e ∷ es) b =
    let parts = and_parts (nat_lt e.1 n) (below n es) b in
    both_true (nat_lt e.1 (suc n)) (below (suc n) es) (lt-more e.1 n parts.0)
    (below-more n es parts.1)

below-inserted : (k : Name) (n : ℕ) (es : Entries) → IsTrue (below n es)
    → IsTrue (below (suc n) (insert_entry name_cmp es k n))
below-inserted k n [] b = both_true (nat_lt n (suc n)) true (lt-self n) b
below-inserted k n (e ∷ es) b = by (name_cmp k e.0)
    (below-inserted k n es (and_parts (nat_lt e.1 n) (below n es) b).1)
  where
    parts : IsTrue (nat_lt e.1 n) × IsTrue (below n es)
    parts = and_parts (nat_lt e.1 n) (below n es) b

    by : (o : Ordering) → IsTrue (below (suc n) (insert_entry name_cmp es k n))
        → IsTrue (below (suc n) (match_ordering o ((k, n) ∷ e ∷ es) ((e.0, n) ∷ es)
        (e ∷ insert_entry name_cmp es k n)))
    by Less rest = both_true (nat_lt n (suc n)) (below (suc n) (e ∷ es)) (lt-self n)
        (below-more n (e ∷ es) b)
    by Equal rest = both_true (nat_lt n (suc n)) (below (suc n) es) (lt-self n)
        (below-more n es parts.1)
    by Greater rest = both_true (nat_lt e.1 (suc n)) (below (suc n) (insert_entry name_cmp es k n))
        (lt-more e.1 n parts.0) rest

length-push : {A : Type 0} (xs : List A) (y : A) → length (xs ++ y ∷ []) ≡ suc (length xs)
length-push [] y = refl
length-push (x ∷ xs) y = ap suc (length-push xs y)

length-first_names : (n : ℕ) (es : Entries) → length (first_names n es) ≡ n
length-first_names zero es = refl
length-first_names (suc n) es =
    length-push (first_names n es) (name_at n es) ∙ ap suc (length-first_names n es)

none-any : (b : Bool) (n : ℕ) → cond b (Some n) None ≡ None → b ≡ false
none-any true n h = cc
none-any false n h = refl

-- a name that the map does not have is not among the names, and one that it has is at its place
pub new_name : (k : Name) (es : Entries) → IsNumbered es → IsAbsent k es
    → list_any (are_same_names (text_of k.text)) (names_in es) ≡ false
new_name k es s h =
    let t = are_same_names (text_of k.text) in
    none-any (list_any t (names_in es)) (0 + position_or_len t (names_in es))
    (sym (position_from-is t 0 (names_in es)) ∙ (sym (s.found k) ∙ h))

-- a name that is not among the names is not in the map
pub absent_name : (k : Name) (es : Entries) → IsNumbered es
    → list_any (are_same_names (text_of k.text)) (names_in es) ≡ false → IsAbsent k es
absent_name k es s h =
    let t = are_same_names (text_of k.text) in
    s.found k ∙ (position_from-is t 0 (names_in es)
    ∙ ap (λ b. cond b (Some (0 + position_or_len t (names_in es))) None) h)

some-any : (b : Bool) (n p : ℕ) → cond b (Some n) None ≡ Some p → (b ≡ true) × (n ≡ p)
some-any true n p h = (refl, cc)
some-any false n p h = cc

prefix_len-≤ : {A : Type 0} (p : A → Bool) (xs : List A) → prefix_len p xs ≤ length xs
prefix_len-≤ p [] = omega arith
prefix_len-≤ p (x ∷ xs) =
    let rest = prefix_len-≤ p xs in
    elim (p x) as (λ b. cond b (1 + prefix_len p xs) 0 ≤ length (x ∷ xs)) [
      | true ↦ omega (arith, rest)
      | false ↦ omega arith
    ]

-- how many names there are
pub length-names_in : (es : Entries) → length (names_in es) ≡ length es
length-names_in es = length-first_names (length es) es

-- a name that is known adds nothing, and a new one is added after all
pub with_known : (name : List ℕ) (names : List (List ℕ)) → list_any (are_same_names name) names ≡ true
    → with_name name names ≡ names
with_known name names e = ap (λ b. if b then names else names ++ name ∷ []) e

pub with_new : (name : List ℕ) (names : List (List ℕ)) → list_any (are_same_names name) names ≡ false
    → with_name name names ≡ names ++ name ∷ []
with_new name names e = ap (λ b. if b then names else names ++ name ∷ []) e

-- a name is among the names, at this place
pub record IsKnown (k : Name) (es : Entries) (p : ℕ) : Type 0 where
  pub known : list_any (are_same_names (text_of k.text)) (names_in es) ≡ true
  pub place : p ≡ position_or_len (are_same_names (text_of k.text)) (names_in es)
  pub small : p ≤ length es

pub known_name : (k : Name) (es : Entries) (p : ℕ) → IsNumbered es
    → lookup (is_at (name_cmp k)) es ≡ Some p → IsKnown k es p
known_name k es p s h =
    let t = are_same_names (text_of k.text) in
    let parts = some-any (list_any t (names_in es)) (0 + position_or_len t (names_in es)) p
    (sym (position_from-is t 0 (names_in es)) ∙ (sym (s.found k) ∙ h)) in
    let plain : 0 + position_or_len t (names_in es) ≡ position_or_len t (names_in es) = omega arith in
    let within = prefix_len-≤ (λ x. not (t x)) (names_in es) in
    let count = length-names_in es in
    record {
      known = parts.0;
      place = sym parts.1 ∙ plain;
      small = omega (arith, within, count, parts.1, plain);
    }

-- a name is new, and its place is after all
pub record IsNew (k : Name) (es : Entries) : Type 0 where
  pub new : list_any (are_same_names (text_of k.text)) (names_in es) ≡ false
  pub place : length es ≡ position_or_len (are_same_names (text_of k.text)) (names_in es)

pub new_place : (k : Name) (es : Entries) → IsNumbered es → IsAbsent k es → IsNew k es
new_place k es s h =
    let new = new_name k es s h in
    record {
      new = new;
      place = sym (length-names_in es)
          ∙ sym (position_or_len-none (are_same_names (text_of k.text)) (names_in es) new);
    }

keeps : (a : Bool) (m : ℕ) (o : Option ℕ) → o ≡ cond a (Some m) None → o ≡ cond a o None
keeps true m o h = refl
keeps false m o h = h

by_case : (b a : Bool) (n l m : ℕ) (o : Option ℕ) → o ≡ cond a (Some m) None → l ≡ n
    → (b ≡ true → a ≡ false) → cond b (Some n) o ≡ cond a o (cond b (Some l) None)
by_case true a n l m o h e f =
    ap Some (sym e) ∙ sym (ap (λ c. cond c o (Some l)) (f refl))
by_case false a n l m o h e f = keeps a m o h

-- what is found, once the name is in the map
found_more : (k q : Name) (es : Entries) → IsNumbered es → IsAbsent k es
    → cond (is_at (name_cmp k) q) (Some (length es)) (lookup (is_at (name_cmp q)) es)
    ≡ position_from (are_same_names (text_of q.text)) 0 (names_in es ++ text_of k.text ∷ [])
found_more k q es s h =
    let tk = text_of k.text in
    let tq = text_of q.text in
    let t = are_same_names tq in
    let names = names_in es in
    let count : 0 + length names ≡ length es = omega (arith, length-names_in es) in
    let test : is_at (name_cmp k) q ≡ pointwise nat_eq tq tk =
    is_eq-slice_cmp tk tq ∙ nat_list_eq_equiv.symm tk tq in
    ap (λ b. cond b (Some (length es)) (lookup (is_at (name_cmp q)) es)) test
    ∙ (ap (λ o. cond (pointwise nat_eq tq tk) (Some (length es)) o) (s.found q)
    ∙ (by_case (pointwise nat_eq tq tk) (list_any t names) (length es) (0 + length names)
    (0 + position_or_len t names) (position_from t 0 names) (position_from-is t 0 names) count
    (λ e. subst (λ x. list_any (are_same_names x) names ≡ false) (sym (same_text tq tk (sym e)))
    (new_name k es s h))
    ∙ sym (position_from-push t 0 names tk)))

-- the map with one more name
pub IsNumbered-inserted : (k : Name) (es after : Entries) → IsNumbered es → IsAbsent k es
    → after ≡ insert_entry name_cmp es k (length es)
    → ((q : Name) → lookup (is_at (name_cmp q)) after
    ≡ cond (is_at (name_cmp k) q) (Some (length es)) (lookup (is_at (name_cmp q)) es))
    → IsNumbered after
IsNumbered-inserted k es after s h e finds = record {
  small = subst (λ xs. IsTrue (below (length xs) xs)) (sym e)
      (subst (λ n. IsTrue (below n (insert_entry name_cmp es k (length es))))
      (sym (length-inserted k (length es) es h)) (below-inserted k (length es) es s.small));
  found = λ q. finds q ∙ (found_more k q es s h
      ∙ ap (position_from (are_same_names (text_of q.text)) 0)
      (sym (ap names_in e ∙ names_in-inserted k es s h)));
}
