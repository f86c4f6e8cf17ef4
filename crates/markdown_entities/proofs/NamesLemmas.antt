-- A name between an ampersand and a semicolon, as the code reads it.
use Rattle.std.proofs.Common.{◌≡◌, ℕ, zero, suc, ◌+◌, ◌≤◌, Bool, true, false, ◌&&◌, nat_eq, List, [], ◌∷◌, ◌++◌, length}
use Rattle.std.proofs.Common.{take, drop, min, codes, cond, refl, sym, ap, ◌∙◌, arith, ap₂, one-add, true≢false}
use Rattle.std.proofs.Common.{take-append-drop, length-append, length-drop, ◌-◌, le_of_suc-le-suc, not-suc-le-zero}
use Rattle.std.proofs.Math.Seq.{take-length}
use Rattle.std.proofs.lemmas.Bool.{and_parts}
use Rattle.std.proofs.lemmas.Bool.Decides.{Decides-eqb}
use Rattle.std.proofs.lemmas.Slice.Eq.{starts_is}
use Rattle.std.specs.Char.{is_ascii_alphanumeric}
use Rattle.std.specs.List.{prefix_len, starts_with}
use Rattle.markdown_entities.specs.EntitySteps.{is_name, BeginsWithName, BeginsWithNoName}

-- bytes that begin with a text are the text and what comes after it
pub begins_split : (text bytes : List ℕ) → starts_with nat_eq bytes text ≡ true
    → bytes ≡ text ++ drop (length text) bytes
begins_split text bytes e = (starts_is Decides-eqb bytes text (starts_with nat_eq bytes text) refl).0 e

pub begins_with : (text tail bytes : List ℕ) → bytes ≡ text ++ tail → starts_with nat_eq bytes text ≡ true
begins_with text tail bytes e = (starts_is Decides-eqb bytes text (starts_with nat_eq bytes text) refl).1 tail e

-- a name is followed through to the semicolon
pub name_prefix : (name tail : List ℕ) (n : ℕ) → is_name name ≡ true → length name ≤ n
    → prefix_len is_ascii_alphanumeric (take n (name ++ (59 ∷ tail))) ≡ length name
name_prefix [] tail zero all le = refl
name_prefix [] tail (suc n) all le = refl
name_prefix (b ∷ name) tail zero all le = absurd (not-suc-le-zero le)
name_prefix (b ∷ name) tail (suc n) all le =
    let parts = and_parts (is_ascii_alphanumeric b) (is_name name) all in
    let rest = name_prefix name tail n parts.1 (le_of_suc-le-suc le) in
    ap (λ t. cond t (1 + prefix_len is_ascii_alphanumeric (take n (name ++ (59 ∷ tail)))) 0) parts.0 ∙ one-add _
    ∙ ap suc rest

pub drop_name : (name tail : List ℕ) → drop (length name) (name ++ tail) ≡ tail
drop_name [] tail = refl
drop_name (b ∷ name) tail = drop_name name tail

-- what is read is a name
cond_name : (t : Bool) (b : ℕ) (bytes : List ℕ) (m : ℕ) → is_ascii_alphanumeric b ≡ t → is_name (take m bytes) ≡ true
    → is_name (take (cond t (1 + m) 0) (b ∷ bytes)) ≡ true
cond_name true b bytes m e rest =
    ap (λ k. is_name (take k (b ∷ bytes))) (one-add m) ∙ ap (λ t. t && is_name (take m bytes)) e ∙ rest
cond_name false b bytes m e rest = refl

pub read_name : (bytes : List ℕ) (n : ℕ)
    → is_name (take (prefix_len is_ascii_alphanumeric (take n bytes)) bytes) ≡ true
read_name [] zero = refl
read_name [] (suc n) = refl
read_name (b ∷ bytes) zero = refl
read_name (b ∷ bytes) (suc n) =
    cond_name (is_ascii_alphanumeric b) b bytes (prefix_len is_ascii_alphanumeric (take n bytes)) refl
    (read_name bytes n)

-- what stands before the first semicolon after a name is the name
name_length : (name tail : List ℕ) → is_name name ≡ true
    → prefix_len is_ascii_alphanumeric (name ++ (59 ∷ tail)) ≡ length name
name_length [] tail all = refl
name_length (b ∷ name) tail all =
    let parts = and_parts (is_ascii_alphanumeric b) (is_name name) all in
    ap (λ t. cond t (1 + prefix_len is_ascii_alphanumeric (name ++ (59 ∷ tail))) 0) parts.0 ∙ one-add _
    ∙ ap suc (name_length name tail parts.1)

take_name : (name tail : List ℕ) → take (length name) (name ++ tail) ≡ name
take_name [] tail = refl
take_name (b ∷ name) tail = ap (λ bs. b ∷ bs) (take_name name tail)

pub same_names : (xs ys s t : List ℕ) → is_name xs ≡ true → is_name ys ≡ true → xs ++ (59 ∷ s) ≡ ys ++ (59 ∷ t)
    → xs ≡ ys
same_names xs ys s t first second e =
    let size : length xs ≡ length ys =
    sym (name_length xs s first) ∙ ap (prefix_len is_ascii_alphanumeric) e ∙ name_length ys t second in
    sym (take_name xs (59 ∷ s)) ∙ ap₂ take size e ∙ take_name ys (59 ∷ t)

-- without an ampersand there is none
pub no_ampersand : (bytes : List ℕ) → starts_with nat_eq bytes (codes "&") ≡ false → BeginsWithNoName bytes
no_ampersand bytes e =
    λ name few has. true≢false (sym (begins_with (codes "&") (name ++ (59 ∷ has.tail)) bytes has.whole) ∙ e)

-- nor without a semicolon after at most 31 letters and digits
pub no_semicolon : (bytes rest after : List ℕ) (m n : ℕ) → rest ≡ drop 1 bytes → m ≡ min (length rest) 31
    → n ≡ prefix_len is_ascii_alphanumeric (take m rest) → after ≡ drop n rest
    → starts_with nat_eq after (codes ";") ≡ false → BeginsWithNoName bytes
no_semicolon bytes rest after m n from most many is e = λ name few has.
    let split : rest ≡ name ++ (59 ∷ has.tail) = from ∙ ap (drop 1) has.whole in
    let size : length rest ≡ length name + suc (length has.tail) = ap length split
    ∙ length-append name (59 ∷ has.tail) in
    let within : length name ≤ m = omega (arith, size, most, few) in
    let same : n ≡ length name =
    many ∙ ap (λ bs. prefix_len is_ascii_alphanumeric (take m bs)) split
    ∙ name_prefix name has.tail m has.letters within in
    let closed : after ≡ 59 ∷ has.tail = is ∙ ap₂ drop same split ∙ drop_name name (59 ∷ has.tail) in
    true≢false (sym (begins_with (codes ";") has.tail after closed) ∙ e)

-- with both there is one
pub name_between : (bytes rest after : List ℕ) (m n : ℕ) → rest ≡ drop 1 bytes
    → n ≡ prefix_len is_ascii_alphanumeric (take m rest) → after ≡ drop n rest
    → starts_with nat_eq bytes (codes "&") ≡ true → starts_with nat_eq after (codes ";") ≡ true
    → BeginsWithName bytes (take n rest)
name_between bytes rest after m n from many is opens closes =
    record {
      tail = drop 1 after;
      whole =
          begins_split (codes "&") bytes opens
          ∙ ap (λ bs. 38 ∷ bs) (sym from ∙ sym (take-append-drop n rest) ∙ ap (λ bs. take n rest ++ bs) (sym is
          ∙ begins_split (codes ";") after closes));
      letters = ap (λ k. is_name (take k rest)) many ∙ read_name rest m;
    }

-- a slice to the end is all that is left
pub to_end : (n : ℕ) (bytes : List ℕ) → take (length bytes - n) (drop n bytes) ≡ drop n bytes
to_end n bytes = ap (λ k. take k (drop n bytes)) (sym (length-drop n bytes)) ∙ take-length (drop n bytes)
