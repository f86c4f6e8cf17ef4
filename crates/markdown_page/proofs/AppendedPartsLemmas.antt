-- What is appended part by part, and character by character.
use Rattle.std.proofs.Common.{◌≡◌, ◌∙◌, ℕ, List, ◌++◌, ap, append_assoc}

-- two parts
pub two_parts : (before a b first second : List ℕ) → first ≡ before ++ a → second ≡ first ++ b
    → second ≡ before ++ (a ++ b)
two_parts before a b first second first_is second_is =
    second_is ∙ ap (λ l. l ++ b) first_is ∙ append_assoc before a b

-- three parts
pub three_parts : (before a b c first second third : List ℕ) → first ≡ before ++ a → second ≡ first ++ b
    → third ≡ second ++ c → third ≡ before ++ ((a ++ b) ++ c)
three_parts before a b c first second third first_is second_is third_is =
    two_parts before (a ++ b) c second third (two_parts before a b first second first_is second_is) third_is

-- and one more
pub four_parts : (before a b c d first second third fourth : List ℕ) → first ≡ before ++ a → second ≡ first ++ b
    → third ≡ second ++ c → fourth ≡ third ++ d → fourth ≡ before ++ (((a ++ b) ++ c) ++ d)
four_parts before a b c d first second third fourth first_is second_is third_is fourth_is =
    two_parts before ((a ++ b) ++ c) d third fourth
    (three_parts before a b c first second third first_is second_is third_is) fourth_is
