-- The white space between the parts of a definition, in lines that are joined.
use Rattle.std.proofs.Common.{◌≡◌, ℕ, suc, ◌+◌, ◌<◌, ◌≤◌, List, [], ◌∷◌, ◌++◌, Bool, true, false, ◌==◌, ◌&&◌, get_or}
use Rattle.std.proofs.Common.{length, drop, refl, sym, ap, ◌∙◌, arith, cond, unwrap_or}
use Rattle.std.proofs.lemmas.Bool.Decides.{nat_tests}
use Rattle.std.specs.List.{list_all, prefix_len}
use Rattle.markdown_raw_html.specs.HtmlTag.{all, both, either, is_tag_blank, line_end, one, optional}
use Rattle.markdown_scan.specs.LineStart.{is_line_over}
use Rattle.markdown_lines.specs.DefinitionRules.{ends_its_line, separation}
use Rattle.markdown_lines.specs.Lines.{ending_length, is_line_ending, is_space_or_tab}

-- a space or a tab, however it is asked
blank_is : (b : ℕ) → is_tag_blank b ≡ is_space_or_tab b
blank_is b = decided (b == 32) (b == 9) refl refl
  where
    decided : (space tab : Bool) → (b == 32) ≡ space → (b == 9) ≡ tab → is_tag_blank b ≡ is_space_or_tab b
    decided true tab p q = grind (arith, nat_tests)
    decided false true p q = grind (arith, nat_tests)
    decided false false p q = grind (arith, nat_tests)

blanks_are : (bytes : List ℕ) → prefix_len is_tag_blank bytes ≡ prefix_len is_space_or_tab bytes
blanks_are [] = refl
blanks_are (b ∷ bytes) = ap (λ n. cond (is_tag_blank b) (1 + n) 0) (blanks_are bytes)
    ∙ ap (λ t. cond t (1 + prefix_len is_space_or_tab bytes) 0) (blank_is b)

-- a line ending, as the grammar of tags has it
ending_is : (bytes : List ℕ) → unwrap_or (line_end bytes) 0 ≡ ending_length bytes
unfolding either both optional one
ending_is [] = refl
ending_is (b ∷ []) = decided (b == 10) (b == 13) refl refl
  where
    decided : (feed return : Bool) → (b == 10) ≡ feed → (b == 13) ≡ return
        → unwrap_or (line_end (b ∷ [])) 0 ≡ ending_length (b ∷ [])
    decided true return p q = rw p refl
    decided false true p q = rw (p, q) refl
    decided false false p q = rw (p, q) refl
ending_is (b ∷ c ∷ bytes) = decided (b == 10) (b == 13) (c == 10) refl refl refl
  where
    decided : (feed return both : Bool) → (b == 10) ≡ feed → (b == 13) ≡ return → (c == 10) ≡ both
        → unwrap_or (line_end (b ∷ c ∷ bytes)) 0 ≡ ending_length (b ∷ c ∷ bytes)
    decided true return both p q r = rw p refl
    decided false true true p q r = rw (p, q, r) refl
    decided false true false p q r = rw (p, q, r) refl
    decided false false both p q r = rw (p, q) refl

-- spaces and tabs, a line ending, and spaces and tabs
abbrev pub parts_by : ℕ → List ℕ → ℕ
parts_by white bytes =
    let rest = drop white bytes in
    let ending = ending_length rest in
    white + (ending + prefix_len is_space_or_tab (drop ending rest))

abbrev pub parts : List ℕ → ℕ
parts bytes = parts_by (prefix_len is_space_or_tab bytes) bytes

pub separation_is : (bytes : List ℕ) → separation bytes ≡ parts bytes
unfolding all both optional
separation_is bytes =
    let first = blanks_are bytes in
    ap (λ n. n + (unwrap_or (line_end (drop n bytes)) 0
    + prefix_len is_tag_blank (drop (unwrap_or (line_end (drop n bytes)) 0) (drop n bytes)))) first
    ∙ (ap (λ n. prefix_len is_space_or_tab bytes
    + (n + prefix_len is_tag_blank (drop n (drop (prefix_len is_space_or_tab bytes) bytes))))
    (ending_is (drop (prefix_len is_space_or_tab bytes) bytes))
    ∙ ap (λ n. prefix_len is_space_or_tab bytes
    + (ending_length (drop (prefix_len is_space_or_tab bytes) bytes) + n))
    (blanks_are (drop (ending_length (drop (prefix_len is_space_or_tab bytes) bytes))
    (drop (prefix_len is_space_or_tab bytes) bytes))))

-- what follows the content of a line: its line ending, which takes so many bytes, and no white space after that
pub record IsAfterLine (after : List ℕ) (size : ℕ) : Type 0 where
  pub over : is_line_over after ≡ true
  pub ending : ending_length after ≡ size
  pub white : prefix_len is_space_or_tab (drop size after) ≡ 0

white_more : (b : ℕ) (bytes : List ℕ) → is_space_or_tab b ≡ true
    → prefix_len is_space_or_tab (b ∷ bytes) ≡ 1 + prefix_len is_space_or_tab bytes
white_more b bytes is = rw is refl

white_none : (b : ℕ) (bytes : List ℕ) → is_space_or_tab b ≡ false → prefix_len is_space_or_tab (b ∷ bytes) ≡ 0
white_none b bytes is = rw is refl

parts_more : (b : ℕ) (bytes : List ℕ) → is_space_or_tab b ≡ true → parts (b ∷ bytes) ≡ 1 + parts bytes
parts_more b bytes is =
    let white = prefix_len is_space_or_tab bytes in
    let rest = drop white bytes in
    let more : prefix_len is_space_or_tab (b ∷ bytes) ≡ suc white = white_more b bytes is ∙ (omega arith) in
    ap (λ n. parts_by n (b ∷ bytes)) more
    ∙ (omega arith)

ending_none : (b : ℕ) (bytes : List ℕ) → is_line_ending b ≡ false → ending_length (b ∷ bytes) ≡ 0
ending_none b bytes is =
    let feed : (b == 10) ≡ false = grind (arith, nat_tests) in
    let return : (b == 13) ≡ false = grind (arith, nat_tests) in
    rw (feed, return) refl

over_no_white : (bytes : List ℕ) → is_line_over bytes ≡ true → prefix_len is_space_or_tab bytes ≡ 0
over_no_white [] is = refl
over_no_white (b ∷ bytes) is =
    let other : is_space_or_tab b ≡ false = grind (arith, nat_tests) in white_none b bytes other

-- a byte of content comes after white space
pub parts_here : (content after : List ℕ) → prefix_len is_space_or_tab content < length content
    → is_line_ending (get_or content (prefix_len is_space_or_tab content) 0) ≡ false
    → parts (content ++ after) ≡ prefix_len is_space_or_tab content
parts_here [] after less other = absurd (omega (arith, less))
parts_here (b ∷ content) after less other =
    decided (λ (l : prefix_len is_space_or_tab content < length content)
    (o : is_line_ending (get_or content (prefix_len is_space_or_tab content) 0) ≡ false). parts_here content after l o)
    (is_space_or_tab b) refl
  where
    decided : (prefix_len is_space_or_tab content < length content
        → is_line_ending (get_or content (prefix_len is_space_or_tab content) 0) ≡ false
        → parts (content ++ after) ≡ prefix_len is_space_or_tab content)
        → (test : Bool) → is_space_or_tab b ≡ test
        → parts (b ∷ content ++ after) ≡ prefix_len is_space_or_tab (b ∷ content)
    decided inside true is =
        let more = white_more b content is in
        let next : prefix_len is_space_or_tab (b ∷ content) ≡ suc (prefix_len is_space_or_tab content) =
        more ∙ (omega arith) in
        parts_more b (content ++ after) is
        ∙ (ap (λ n. 1 + n) (inside (omega (arith, more, less))
        (ap (λ n. is_line_ending (get_or (b ∷ content) n 0)) (sym next) ∙ other))
        ∙ sym more)
    decided inside false is =
        let none = white_none b content is in
        let here : is_line_ending b ≡ false =
        ap (λ n. is_line_ending (get_or (b ∷ content) n 0)) (sym none) ∙ other in
        let ending = ending_none b (content ++ after) here in
        let white = white_none b (content ++ after) is in
        let step : ending_length (b ∷ content ++ after)
        + prefix_len is_space_or_tab (drop (ending_length (b ∷ content ++ after)) (b ∷ content ++ after))
        ≡ 0 + prefix_len is_space_or_tab (b ∷ content ++ after) =
        ap (λ n. n + prefix_len is_space_or_tab (drop n (b ∷ content ++ after))) ending in
        ap (λ n. parts_by n (b ∷ content ++ after)) white ∙ (omega (arith, step, white, none))

-- the rest of a line's content is white space
pub parts_over : (content after : List ℕ) (size : ℕ) → length content ≤ prefix_len is_space_or_tab content
    → IsAfterLine after size → parts (content ++ after) ≡ length content + size
parts_over [] after size white line =
    let step : ending_length after + prefix_len is_space_or_tab (drop (ending_length after) after)
    ≡ size + prefix_len is_space_or_tab (drop size after) =
    ap (λ n. n + prefix_len is_space_or_tab (drop n after)) line.ending in
    ap (λ n. parts_by n after) (over_no_white after line.over) ∙ (omega (arith, step, line.white))
parts_over (b ∷ content) after size white line =
    decided (λ (l : length content ≤ prefix_len is_space_or_tab content). parts_over content after size l line)
    (is_space_or_tab b) refl
  where
    decided : (length content ≤ prefix_len is_space_or_tab content → parts (content ++ after) ≡ length content + size)
        → (test : Bool) → is_space_or_tab b ≡ test
        → parts (b ∷ content ++ after) ≡ suc (length content) + size
    decided inside true is =
        let more = white_more b content is in
        let rest = inside (omega (arith, more, white)) in
        parts_more b (content ++ after) is ∙ (omega (arith, rest))
    decided inside false is = absurd (omega (arith, white_none b content is, white))

-- whether the line is over after white space
line_more : (b : ℕ) (bytes : List ℕ) → is_space_or_tab b ≡ true → ends_its_line (b ∷ bytes) ≡ ends_its_line bytes
line_more b bytes is =
    let next : prefix_len is_space_or_tab (b ∷ bytes) ≡ suc (prefix_len is_space_or_tab bytes) =
    white_more b bytes is ∙ (omega arith) in
    ap (λ n. is_line_over (drop n (b ∷ bytes))) next

pub line_is_over : (content after : List ℕ) → is_line_over after ≡ true
    → ((at : ℕ) → at < length content → is_line_ending (get_or content at 0) ≡ false)
    → ends_its_line (content ++ after) ≡ list_all is_space_or_tab content
line_is_over [] after over in_line = ap (λ n. is_line_over (drop n after)) (over_no_white after over) ∙ over
line_is_over (b ∷ content) after over in_line =
    decided (line_is_over content after over
    (λ (at : ℕ) (less : at < length content). in_line (suc at) (omega (arith, less))))
    (is_space_or_tab b) refl
  where
    decided : ends_its_line (content ++ after) ≡ list_all is_space_or_tab content
        → (test : Bool) → is_space_or_tab b ≡ test
        → ends_its_line (b ∷ content ++ after) ≡ list_all is_space_or_tab (b ∷ content)
    decided inside true is =
        line_more b (content ++ after) is
        ∙ (inside ∙ sym (ap (λ t. t && list_all is_space_or_tab content) is))
    decided inside false is =
        let here : is_line_over (b ∷ content ++ after) ≡ false = in_line 0 (omega arith) in
        ap (λ n. is_line_over (drop n (b ∷ content ++ after))) (white_none b (content ++ after) is)
        ∙ (here ∙ sym (ap (λ t. t && list_all is_space_or_tab content) is))
