-- Bytes of which a prefix was appended, parts that are appended one after another, and the last
-- byte.
use Rattle.std.proofs.Common.{◌≡◌, ◌++◌, ◌<◌, ◌≤◌, ◌+◌, ◌-◌, ◌==◌, ℕ, Bool, List, [], ◌∷◌, length}
use Rattle.std.proofs.Common.{Result, Ok, Err, OnErr, take, drop, get_or, refl, sym, ap, ◌∙◌}
use Rattle.std.proofs.Common.{append_assoc, append-nil, arith, length-append, length-drop}
use Rattle.std.specs.List.{flat_map}
use Rattle.std.proofs.lemmas.List.{take_more, flat_map_more, take-append-drop, take_all}
use Rattle.std.proofs.lemmas.List.Concat.{flat_map-append}
use Rattle.std.proofs.Math.ListN.{drop_of_length-le}
use Rattle.std.proofs.Math.Seq.{drop-append_seam}
use Rattle.markdown_out.specs.ByteLists.{AppendsPrefix, joined, fresh_after_bytes}

-- all of the bytes are a prefix
pub prefix-all : (old new bytes : List ℕ) → new ≡ old ++ bytes → AppendsPrefix old new bytes
prefix-all old new bytes e = record {
  prefix = bytes;
  missing = [];
  stands = e;
  whole = append-nil
      bytes;
}

-- no bytes are a prefix
pub prefix-none : (old new bytes : List ℕ) → new ≡ old → AppendsPrefix old new bytes
prefix-none old new bytes e = record {
  prefix = [];
  missing = bytes;
  stands = e
      ∙ sym (append-nil old);
  whole = refl;
}

append-empty : (prefix missing : List ℕ) → prefix ++ missing ≡ [] → prefix ≡ []
append-empty [] missing e = refl
append-empty (b ∷ prefix) missing e = cc

-- a prefix of nothing is nothing
pub prefix-empty : (old new : List ℕ) → AppendsPrefix old new [] → new ≡ old
prefix-empty old new f = f.stands ∙ (ap (λ x. old ++ x) (append-empty f.prefix f.missing f.whole)
    ∙ append-nil old)

-- a prefix of what comes after bytes that were appended
pub prefix-after : (old mid new first bytes whole rest : List ℕ) → mid ≡ old ++ first
    → AppendsPrefix mid new bytes → first ++ (bytes ++ rest) ≡ whole → AppendsPrefix old new whole
prefix-after old mid new first bytes whole rest e f w = record {
  prefix = first ++ f.prefix;
  missing = f.missing ++ rest;
  stands = f.stands ∙ (ap (λ x. x ++ f.prefix) e ∙ append_assoc old first f.prefix);
  whole = append_assoc first f.prefix (f.missing ++ rest)
      ∙ (ap (λ x. first ++ x) (sym (append_assoc f.prefix f.missing rest)
      ∙ ap (λ x. x ++ rest) f.whole) ∙ w);
}

-- parts put together are their bytes in turn
pub joined-flat_map : (parts : List (List ℕ)) → flat_map (λ part. part) parts ≡ joined parts
joined-flat_map [] = refl
joined-flat_map (part ∷ []) = append-nil part
joined-flat_map (part ∷ next ∷ parts) = ap (λ x. part ++ x) (joined-flat_map (next ∷ parts))

-- the old text is followed by the bytes of the first n of these
pub record StandsTo {A : Type 0} (bytes_of : A → List ℕ) (out old : List ℕ) (xs : List A)
    (n : ℕ) : Type 0 where
  pub is : out ≡ old ++ flat_map bytes_of (take n xs)

pub StandsTo-none : {A : Type 0} (bytes_of : A → List ℕ) (old : List ℕ) (xs : List A)
    → StandsTo bytes_of old old xs 0
StandsTo-none bytes_of old xs = record { is = sym (append-nil old) }

-- one more was appended
pub StandsTo-more : {A : Type 0} (bytes_of : A → List ℕ) (out out' old : List ℕ) (xs : List A)
    (n : ℕ) (d : A) → n < length xs → out' ≡ out ++ bytes_of (get_or xs n d) → StandsTo bytes_of out old xs n
    → StandsTo bytes_of out' old xs (n + 1)
StandsTo-more bytes_of out out' old xs n d h e p = record {
  is =
      e ∙ (ap (λ x. x ++ bytes_of (get_or xs n d)) p.is
      ∙ (flat_map_more bytes_of old (take n xs) (get_or xs n d)
      ∙ ap (λ x. old ++ flat_map bytes_of x) (sym (take_more xs n d h))));
}

-- all were appended
pub StandsTo-all : {A : Type 0} (bytes_of : A → List ℕ) (out old : List ℕ) (xs : List A) (n : ℕ)
    → length xs ≤ n → StandsTo bytes_of out old xs n → out ≡ old ++ flat_map bytes_of xs
StandsTo-all bytes_of out old xs n h p = p.is ∙ ap (λ x. old
    ++ flat_map bytes_of x) (take_all n xs h)

-- a prefix of the next one was appended
pub StandsTo-prefix : {A : Type 0} (bytes_of : A → List ℕ) (out out' old : List ℕ) (xs : List A)
    (n : ℕ) (d : A) → n < length xs → AppendsPrefix out out' (bytes_of (get_or xs n d))
    → StandsTo bytes_of out old xs n → AppendsPrefix old out' (flat_map bytes_of xs)
StandsTo-prefix bytes_of out out' old xs n d h f p =
    let whole : flat_map bytes_of (take n xs) ++ (bytes_of (get_or xs n d)
    ++ flat_map bytes_of (drop (n + 1) xs)) ≡ flat_map bytes_of xs =
    sym (append_assoc (flat_map bytes_of (take n xs)) (bytes_of (get_or xs n d)) (flat_map bytes_of
    (drop (n + 1) xs)))
    ∙ (ap (λ x. x ++ flat_map bytes_of (drop (n + 1) xs)) (flat_map_more bytes_of [] (take n xs)
    (get_or xs n d) ∙ ap (flat_map bytes_of) (sym (take_more xs n d h)))
    ∙ (sym (flat_map-append bytes_of (take (n + 1) xs) (drop (n + 1) xs))
    ∙ ap (flat_map bytes_of) (take-append-drop (n + 1) xs))) in
    prefix-after old out out' (flat_map bytes_of (take n xs)) (bytes_of (get_or xs n d))
    (flat_map bytes_of xs) (flat_map bytes_of (drop (n + 1) xs)) p.is f whole

-- the last byte decides whether a line is ended
pub fresh_after_bytes-last : (before : Bool) (old bytes : List ℕ) → 0 < length bytes
    → fresh_after_bytes before bytes ≡ (get_or (old ++ bytes) (length (old ++ bytes) - 1) 0 == 10)
fresh_after_bytes-last before old [] h = absurd (omega arith)
fresh_after_bytes-last before old (b ∷ []) h =
    let l : length (old ++ b ∷ []) - 1 ≡ length old = omega (arith, length-append old (b ∷ [])) in
    ap (λ x. x == 10) (sym (ap (λ i. get_or (old ++ b ∷ []) i 0) l ∙ get_or-here old b []))
  where
    get_or-here : (xs : List ℕ) (y : ℕ) (ys : List ℕ) → get_or (xs ++ y ∷ ys) (length xs) 0 ≡ y
    get_or-here [] y ys = refl
    get_or-here (x ∷ xs) y ys = get_or-here xs y ys
fresh_after_bytes-last before old (b ∷ c ∷ bytes) h =
    fresh_after_bytes-last (b == 10) (old ++ b ∷ []) (c ∷ bytes) (omega arith)
    ∙ ap (λ x. get_or x (length x - 1) 0 == 10) (append_assoc old (b ∷ []) (c ∷ bytes))

-- bytes in two parts
pub fresh_after_bytes-append : (before : Bool) (xs ys : List ℕ)
    → fresh_after_bytes before (xs ++ ys) ≡ fresh_after_bytes (fresh_after_bytes before xs) ys
fresh_after_bytes-append before [] ys = refl
fresh_after_bytes-append before (x ∷ xs) ys = fresh_after_bytes-append (x == 10) xs ys

-- from a place on there are bytes
pub is_fresh_after-some : (bytes : List ℕ) (start : ℕ) (before : Bool) → start < length bytes
    → (get_or bytes (length bytes - 1) 0 == 10) ≡ fresh_after_bytes before (drop start bytes)
is_fresh_after-some bytes start before h =
    let l : 0 < length (drop start bytes) = omega (arith, length-drop start bytes) in
    sym (fresh_after_bytes-last before (take start bytes) (drop start bytes) l
    ∙ ap (λ x. get_or x (length x - 1) 0 == 10) (take-append-drop start bytes))

-- from a place on there are none
pub is_fresh_after-none : (bytes : List ℕ) (start : ℕ) (before : Bool) → length bytes ≤ start
    → before ≡ fresh_after_bytes before (drop start bytes)
is_fresh_after-none bytes start before h = sym (ap (fresh_after_bytes before) (drop_of_length-le bytes h))

-- what follows the old text is what was appended
pub is_fresh_after-appended : (fresh before : Bool) (first last old out bytes : List ℕ) → first ≡ old → last ≡ out
    → out ≡ old ++ bytes → fresh ≡ fresh_after_bytes before (drop (length first) last) → fresh
    ≡ fresh_after_bytes before bytes
is_fresh_after-appended fresh before first last old out bytes f l e h =
    h ∙ (ap (λ x. fresh_after_bytes before (drop (length x) last)) f
    ∙ (ap (λ x. fresh_after_bytes before (drop (length old) x)) (l ∙ e)
    ∙ ap (fresh_after_bytes before) (drop-append_seam old bytes)))

-- a prefix of the bytes that come first
pub prefix-first : (old new bytes whole rest : List ℕ) → AppendsPrefix old new bytes
    → bytes ++ rest ≡ whole → AppendsPrefix old new whole
prefix-first old new bytes whole rest f w = record {
  prefix = f.prefix;
  missing = f.missing ++ rest;
  stands = f.stands;
  whole = sym (append_assoc f.prefix f.missing rest) ∙ (ap (λ x. x ++ rest) f.whole ∙ w);
}

-- bytes appended after bytes
pub append-more : (old mid new first bytes : List ℕ) → mid ≡ old ++ first → new ≡ mid ++ bytes
    → new ≡ old ++ (first ++ bytes)
append-more old mid new first bytes e n = n ∙ (ap (λ x. x ++ bytes) e
    ∙ append_assoc old first bytes)

-- whatever was refused afterwards, all of the bytes are a prefix
pub prefix-all-err : {T E : Type 0} (r : Result T E) (old new bytes : List ℕ) → new ≡ old ++ bytes
    → OnErr r (AppendsPrefix old new bytes)
prefix-all-err r old new bytes e = elim r as (λ r. OnErr r (AppendsPrefix old new bytes))
    [ Ok v ↦ tt | Err v ↦ prefix-all old new bytes e ]
