-- Separators are ASCII: the text may be cut after them.
use Rattle.std.proofs.Common.{◌≡◌, ℕ, suc, ◌+◌, ◌≤◌, true, ◌==◌, List, [], ◌∷◌, Option, Some, None, IfSome, length}
use Rattle.std.proofs.Common.{take, drop, cond, arith, refl, subst}
use Rattle.std.specs.List.{list_all, prefix_len}
use Rattle.std.specs.Char.{is_ascii}
use Rattle.std.specs.Str.{IsUtf8, IsCharBoundary}
use Rattle.std.proofs.lemmas.Bool.{and_from, cond_both}
use Rattle.std.proofs.lemmas.Bool.Decides.{nat_tests}
use Rattle.std.proofs.lemmas.Str.{IsUtf8-drop, IsCharBoundary-from_rest}
use Rattle.markdown_base.specs.Bytes.{line_feed, carriage_return}
use Rattle.markdown_scan.specs.LineEnd.{line_ending, begins_line_feed}
use Rattle.markdown_scan.proofs.BoundaryLemmas.{after_ascii_bytes}
use Rattle.markdown_brackets.specs.Separator.{is_blank, blanks}

-- the first n bytes are there, and ASCII
pub record BeginsAscii (bytes : List ℕ) (n : ℕ) : Type 0 where
  pub within : n ≤ length bytes
  pub ascii : list_all is_ascii (take n bytes) ≡ true

pub nothing_ascii : (bytes : List ℕ) → BeginsAscii bytes 0
nothing_ascii bytes = record { within = omega arith; ascii = refl }

one_more : (b : ℕ) (bytes : List ℕ) (n : ℕ) → is_ascii b ≡ true → BeginsAscii bytes n → BeginsAscii (b ∷ bytes) (suc n)
one_more b bytes n e rest = record {
  within = let h = rest.within in omega (arith, h);
  ascii = and_from (is_ascii b) (list_all is_ascii (take n bytes)) e rest.ascii;
}

-- so are blanks
pub blanks_are_ascii : (bytes : List ℕ) → BeginsAscii bytes (blanks bytes)
blanks_are_ascii [] = nothing_ascii []
blanks_are_ascii (b ∷ bytes) =
    let P : ℕ → Type 0 = λ n. BeginsAscii (b ∷ bytes) (length (take n (b ∷ bytes))) in
    let more : suc (prefix_len is_blank bytes) ≡ 1 + prefix_len is_blank bytes = omega arith in
    cond_both (is_blank b) (1 + prefix_len is_blank bytes) 0 P
    (λ e. subst P more (one_more b bytes (blanks bytes) (grind (arith, nat_tests)) (blanks_are_ascii bytes)))
    (λ e. nothing_ascii (b ∷ bytes))

-- and line endings
after_return : (b : ℕ) (bytes : List ℕ) → is_ascii b ≡ true
    → IfSome (cond (begins_line_feed bytes) (Some 2) (Some 1)) (BeginsAscii (b ∷ bytes))
after_return b [] e = one_more b [] 0 e (nothing_ascii [])
after_return b (c ∷ bytes) e =
    cond_both (c == line_feed) (Some 2) (Some 1) (λ r. IfSome r (BeginsAscii (b ∷ c ∷ bytes)))
    (λ f. one_more b (c ∷ bytes) 1 e (one_more c bytes 0 (grind (arith, nat_tests)) (nothing_ascii bytes)))
    (λ f. one_more b (c ∷ bytes) 0 e (nothing_ascii (c ∷ bytes)))

pub line_ending_is_ascii : (bytes : List ℕ) → IfSome (line_ending bytes) (BeginsAscii bytes)
line_ending_is_ascii [] = tt
line_ending_is_ascii (b ∷ bytes) =
    let P = λ (r : Option ℕ). IfSome r (BeginsAscii (b ∷ bytes)) in
    cond_both (b == line_feed) (Some 1)
    (cond (b == carriage_return) (cond (begins_line_feed bytes) (Some 2) (Some 1)) None) P
    (λ e. one_more b bytes 0 (grind (arith, nat_tests)) (nothing_ascii bytes))
    (λ e. cond_both (b == carriage_return) (cond (begins_line_feed bytes) (Some 2) (Some 1)) None P
    (λ f. after_return b bytes (grind (arith, nat_tests))) (λ f. tt))

pub if_some : (o : Option ℕ) (P : ℕ → Type 0) (n : ℕ) → IfSome o P → o ≡ Some n → P n
if_some o P n h e = let Q : Option ℕ → Type 0 = λ p. IfSome p P in subst Q e h

-- the text may be cut after ASCII
pub after_ascii : (text : List ℕ) (n : ℕ) → IsUtf8 text → BeginsAscii text n → IsCharBoundary text n
after_ascii text n utf8 begins = after_ascii_bytes text n utf8 begins.within begins.ascii

-- and after ASCII that follows a place where it may be cut
pub after_more_ascii : (text : List ℕ) (n m : ℕ) → IsUtf8 text → IsCharBoundary text n → m ≤ length (drop n text)
    → list_all is_ascii (take m (drop n text)) ≡ true → IsCharBoundary text (n + m)
after_more_ascii text n m utf8 here within all =
    IsCharBoundary-from_rest text n m here.0
    (after_ascii_bytes (drop n text) m (IsUtf8-drop text n utf8 here) within all)
