-- The text of a span, piece by piece.
use Rattle.std.proofs.Common.{◌≡◌, ℕ, suc, zero, ◌+◌, ◌-◌, ◌<◌, ◌≤◌, Bool, true, false, not, ◌&&◌, ◌||◌, ◌==◌, List, []}
use Rattle.std.proofs.Common.{◌∷◌, ◌++◌, Option, Some, None, length, get_or, take, drop, append_assoc, arith, refl, sym}
use Rattle.std.proofs.Common.{ap, ◌∙◌, IsUtf8, IsCharBoundary, subst, append-nil}
use Rattle.std.specs.Prelude.{is_some}
use Rattle.std.specs.List.{list_all}
use Rattle.std.specs.Char.{is_ascii}
use Rattle.std.proofs.lemmas.Bool.Decides.{nat_tests}
use Rattle.std.proofs.lemmas.List.{get_or-take, length-drop, length-take-le, drop_more, take_more, drop-drop}
use Rattle.std.proofs.lemmas.List.{take-append-drop, drop_all, take_all}
use Rattle.std.proofs.Math.Seq.{take-append-add}
use Rattle.std.proofs.lemmas.List.Folds.{list_all-append}
use Rattle.std.proofs.lemmas.Option.{same_Some}
use Rattle.markdown_base.specs.Bytes.{pipe, backslash, line_feed, carriage_return}
use Rattle.markdown_base.proofs.BoolLemmas.{and_second}
use Rattle.markdown_scan.specs.Beginnings.{begins_with}
use Rattle.markdown_scan.specs.LineEnd.{line_ending, begins_line_feed}
use Rattle.markdown_scan.proofs.BoundaryLemmas.{ascii_at, before_ascii_of_rest, after_ascii_of_rest}
use Rattle.markdown_scan.proofs.BeginsWithLemmas.{begins_with-split}
use Rattle.markdown_spans.specs.CodeText.{Piece, piece_at, begins_escaped_pipe, replaced_past, shown_ending, is_sliced}
use Rattle.markdown_spans.specs.CodeText.{has_outer_spaces, is_space}
use Rattle.markdown_spans.specs.PrefixView.{length_by}
use Rattle.markdown_spans.specs.declared.span_text.SpanKind.{SpanKind}
use Rattle.markdown_spans.specs.declared.prefixes.ContainerPrefix.{ContainerPrefix}
use Rattle.markdown_spans.proofs.ContainerPrefixLemmas.{IsAsciiPrefix, length_by_is_ascii}

-- ASCII bytes, and ASCII bytes after them
pub prefix_joined : (bytes : List ℕ) (n m : ℕ) → IsAsciiPrefix bytes n → IsAsciiPrefix (drop n bytes) m
    → IsAsciiPrefix bytes (n + m)
prefix_joined bytes n m first second = record {
  within = omega (arith, first.within, second.within, length-drop n bytes);
  ascii =
      let whole : take (n + m) bytes ≡ take n bytes ++ take m (drop n bytes) =
      ap (λ k. take (k + m) bytes) (sym (length-take-le n bytes first.within))
      ∙ (ap (λ xs. take (length (take n bytes) + m) xs) (sym (take-append-drop n bytes))
      ∙ take-append-add (take n bytes) (drop n bytes) m)
      in
      ap (list_all is_ascii) whole ∙ (list_all-append is_ascii (take n bytes) (take m (drop n bytes))
      ∙ rw (first.ascii, second.ascii) refl);
}

one_ascii : (b : ℕ) (rest : List ℕ) → is_ascii b ≡ true → IsAsciiPrefix (b ∷ rest) 1
one_ascii b rest ascii = record { within = omega arith; ascii = rw ascii refl }

two_ascii : (b : ℕ) (rest : List ℕ) → is_ascii b ≡ true → begins_line_feed rest ≡ true → IsAsciiPrefix (b ∷ rest) 2
two_ascii b [] ascii feed = cc
two_ascii b (c ∷ rest) ascii feed =
    let next : is_ascii c ≡ true = grind (arith, nat_tests) in
    record { within = omega arith; ascii = rw (ascii, next) refl }

-- a line ending is one or two ASCII bytes
pub record IsPiece (bytes : List ℕ) (n : ℕ) : Type 0 where
  pub some : 0 < n
  pub ascii : IsAsciiPrefix bytes n

pub ending_is_ascii : (bytes : List ℕ) (n : ℕ) → line_ending bytes ≡ Some n → IsPiece bytes n
ending_is_ascii [] n e = cc
ending_is_ascii (b ∷ rest) n e = cases (b == line_feed) (b == carriage_return) (begins_line_feed rest) refl refl refl e
  where
    cases : (feed return both : Bool) → (b == line_feed) ≡ feed → (b == carriage_return) ≡ return
        → begins_line_feed rest ≡ both
        → line_ending (b ∷ rest) ≡ Some n → IsPiece (b ∷ rest) n
    cases true return both p q r e =
        let found : Some 1 ≡ Some n = rw p at e in
        let is : 1 ≡ n = cc in
        let ascii : is_ascii b ≡ true = grind (arith, nat_tests) in
        rw (← is) (record { some = omega arith; ascii = one_ascii b rest ascii })
    cases false true true p q r e =
        let found : Some 2 ≡ Some n = rw (p, q, r) at e in
        let is : 2 ≡ n = cc in
        let ascii : is_ascii b ≡ true = grind (arith, nat_tests) in
        rw (← is) (record { some = omega arith; ascii = two_ascii b rest ascii r })
    cases false true false p q r e =
        let found : Some 1 ≡ Some n = rw (p, q, r) at e in
        let is : 1 ≡ n = cc in
        let ascii : is_ascii b ≡ true = grind (arith, nat_tests) in
        rw (← is) (record { some = omega arith; ascii = one_ascii b rest ascii })
    cases false false both p q r e =
        let found = rw (p, q) at e in
        cc

-- what an escaped pipe takes
pipe_is_ascii : (bytes : List ℕ) → begins_with (backslash ∷ pipe ∷ []) bytes ≡ true → IsPiece bytes 2
pipe_is_ascii bytes e =
    let split = begins_with-split (backslash ∷ pipe ∷ []) bytes e in
    record { some = omega arith; ascii = rw split (two (drop 2 bytes)) }
  where
    two : (rest : List ℕ) → IsAsciiPrefix (backslash ∷ pipe ∷ rest) 2
    two rest = record { within = omega arith; ascii = refl }

-- a piece takes ASCII bytes, at least one, and is a change
pub record IsChange (in_table : Bool) (bytes : List ℕ) (p : Piece) : Type 0 where
  pub piece : IsPiece bytes p.taken
  pub changes : (is_some (line_ending bytes) || begins_escaped_pipe in_table bytes) ≡ true

pub piece_is : (kind : SpanKind) (in_table : Bool) (prefix : ContainerPrefix) (bytes : List ℕ) (p : Piece)
    → piece_at kind in_table (length_by prefix) bytes ≡ Some p → IsChange in_table bytes p
piece_is kind in_table prefix bytes p e = cases (line_ending bytes) (begins_escaped_pipe in_table bytes) refl refl e
  where
    cases : (ending : Option ℕ) (escaped : Bool) → line_ending bytes ≡ ending → begins_escaped_pipe in_table bytes
        ≡ escaped
        → piece_at kind in_table (length_by prefix) bytes ≡ Some p → IsChange in_table bytes p
    cases (Some n) escaped f g e =
        let found : Piece = record
        { taken = n + length_by prefix (drop n bytes); shown = shown_ending kind (take n bytes) } in
        let ending = ending_is_ascii bytes n f in
        let is : found ≡ p = same_Some found p (rw f at e) in
        subst (λ (q : Piece). IsChange in_table bytes q) is (record {
          piece = record {
            some = omega (arith, ending.some);
            ascii = prefix_joined bytes n (length_by prefix (drop n bytes)) ending.ascii
                (length_by_is_ascii prefix (drop n bytes));
          };
          changes = rw f refl;
        })
    cases None true f g e =
        let found : Piece = record { taken = 2; shown = pipe ∷ [] } in
        let is : found ≡ p = same_Some found p (rw (f, g) at e) in
        subst (λ (q : Piece). IsChange in_table bytes q) is (record {
          piece = pipe_is_ascii bytes (and_second in_table (begins_with (backslash ∷ pipe ∷ []) bytes) g);
          changes = rw (f, g) refl;
        })
    cases None false f g e = let found = rw (f, g) at e in cc

-- bytes that belong to a piece before them
pub replaced_skips : (piece : List ℕ → Option Piece) (n : ℕ) (bytes : List ℕ)
    → replaced_past piece n bytes ≡ replaced_past piece 0 (drop n bytes)
unfolding replaced_past
replaced_skips piece zero bytes = refl
replaced_skips piece (suc n) [] = refl
replaced_skips piece (suc n) (b ∷ bytes) = replaced_skips piece n bytes

-- a byte that is kept
replaced_byte : (piece : List ℕ → Option Piece) (b : ℕ) (bytes : List ℕ) → piece (b ∷ bytes) ≡ None
    → replaced_past piece 0 (b ∷ bytes) ≡ b ∷ replaced_past piece 0 bytes
unfolding replaced_past
replaced_byte piece b bytes e = rw e refl

-- a piece
replaced_piece : (piece : List ℕ → Option Piece) (bytes : List ℕ) (p : Piece) → piece bytes ≡ Some p → 0 < p.taken
    → p.taken ≤ length bytes
    → replaced_past piece 0 bytes ≡ p.shown ++ replaced_past piece 0 (drop p.taken bytes)
unfolding replaced_past
replaced_piece piece [] p e some within = absurd (omega arith)
replaced_piece piece (b ∷ bytes) p e some within =
    let more : suc (p.taken - 1) ≡ p.taken = omega arith in
    let rest : drop (p.taken - 1) bytes ≡ drop p.taken (b ∷ bytes) = ap (λ n. drop n (b ∷ bytes)) more in
    rw e (ap (λ xs. p.shown ++ xs) (replaced_skips piece (p.taken - 1) bytes
    ∙ ap (λ xs. replaced_past piece 0 xs) rest))

-- the byte at a byte offset is kept
pub replaced_at_byte : (piece : List ℕ → Option Piece) (text : List ℕ) (at : ℕ) → at < length text
    → piece (drop at text) ≡ None
    → replaced_past piece 0 text ≡ take at text ++ replaced_past piece 0 (drop at text)
    → replaced_past piece 0 text ≡ take (at + 1) text ++ replaced_past piece 0 (drop (at + 1) text)
replaced_at_byte piece text at h none was =
    let byte = get_or text at 0 in
    let here = drop_more text at 0 h in
    let step = replaced_byte piece byte (drop (at + 1) text) (rw here at none) in
    was ∙ (ap (λ x. take at text ++ replaced_past piece 0 x) here ∙ (ap (λ x. take at text ++ x) step
    ∙ (sym (append_assoc (take at text) (byte ∷ []) (replaced_past piece 0 (drop (at + 1) text)))
    ∙ ap (λ x. x ++ replaced_past piece 0 (drop (at + 1) text)) (sym (take_more text at 0 h)))))

-- a piece is replaced at a byte offset
pub replaced_at_piece : (piece : List ℕ → Option Piece) (text : List ℕ) (at : ℕ) (p : Piece) → piece (drop at text)
    ≡ Some p
    → 0 < p.taken → p.taken ≤ length (drop at text)
    → replaced_past piece 0 text ≡ take at text ++ replaced_past piece 0 (drop at text)
    → replaced_past piece 0 text ≡ take at text ++ (p.shown ++ replaced_past piece 0 (drop (at + p.taken) text))
replaced_at_piece piece text at p e some within was =
    was ∙ ap (λ x. take at text ++ x) (replaced_piece piece (drop at text) p e some within
    ∙ ap (λ x. p.shown ++ replaced_past piece 0 x) (drop-drop p.taken at text))

-- a text with a change is no slice
pub change_at : (in_table : Bool) (text : List ℕ) (at : ℕ) → at < length text
    → (is_some (line_ending (drop at text)) || begins_escaped_pipe in_table (drop at text)) ≡ true
    → is_sliced in_table text ≡ false
unfolding is_sliced
change_at in_table [] at h e = absurd (omega arith)
change_at in_table (b ∷ text) zero h e = rw e refl
change_at in_table (b ∷ text) (suc at) h e =
    rw (change_at in_table text at (omega arith) e)
    (and_false (not (is_some (line_ending (b ∷ text)) || begins_escaped_pipe in_table (b ∷ text))))
  where
    and_false : (a : Bool) → (a && false) ≡ false
    and_false true = refl
    and_false false = refl

-- bytes that begin with no piece begin with no change
pub no_change : (kind : SpanKind) (in_table : Bool) (prefix : List ℕ → ℕ) (bytes : List ℕ)
    → piece_at kind in_table prefix bytes ≡ None
    → (is_some (line_ending bytes) || begins_escaped_pipe in_table bytes) ≡ false
no_change kind in_table prefix bytes none = cases (line_ending bytes) (begins_escaped_pipe in_table bytes) refl refl
    none
  where
    cases : (ending : Option ℕ) (pipe : Bool) → line_ending bytes ≡ ending → begins_escaped_pipe in_table bytes ≡ pipe
        → piece_at kind in_table prefix bytes ≡ None
        → (is_some (line_ending bytes) || begins_escaped_pipe in_table bytes) ≡ false
    cases (Some n) pipe f g e = let found = rw f at e in cc
    cases None true f g e = let found = rw (f, g) at e in cc
    cases None false f g e = rw (f, g) refl

-- they are a slice where what follows their first byte is
sliced_past : (in_table : Bool) (b : ℕ) (bytes : List ℕ)
    → (is_some (line_ending (b ∷ bytes)) || begins_escaped_pipe in_table (b ∷ bytes))
    ≡ false
    → is_sliced in_table (b ∷ bytes) ≡ is_sliced in_table bytes
unfolding is_sliced
sliced_past in_table b bytes e = rw e refl

pub sliced_on : (in_table : Bool) (text : List ℕ) (at : ℕ) → at < length text
    → (is_some (line_ending (drop at text)) || begins_escaped_pipe in_table (drop at text)) ≡ false
    → is_sliced in_table (drop at text) ≡ is_sliced in_table (drop (at + 1) text)
sliced_on in_table text at h none =
    let here = drop_more text at 0 h in
    ap (is_sliced in_table) here ∙ sliced_past in_table (get_or text at 0) (drop (at + 1) text) (rw here at none)

pub sliced_end : (in_table : Bool) (text : List ℕ) (at : ℕ) → length text ≤ at → is_sliced in_table (drop at text)
    ≡ true
unfolding is_sliced
sliced_end in_table text at past = rw (drop_all at text past) refl

-- each byte of an ASCII prefix
pub ascii_byte : (bytes : List ℕ) (n i : ℕ) → i < n → IsAsciiPrefix bytes n → get_or bytes i 0 < 128
ascii_byte bytes n i h prefix = rw (get_or-take n bytes i 0 h) at (ascii_at (take n bytes) prefix.ascii i)

-- the text may be cut before a piece and after it
pub record IsCutAround (text : List ℕ) (at n : ℕ) : Type 0 where
  pub before : IsCharBoundary text at
  pub after : IsCharBoundary text (at + n)

pub cut_around : (text : List ℕ) (at n : ℕ) → IsUtf8 text → at < length text → IsPiece (drop at text) n
    → IsCutAround text at n
cut_around text at n utf8 h piece =
    let rest = drop at text in
    let some : 0 < length rest = omega (arith, length-drop at text) in
    let within : n - 1 < length rest = omega (arith, piece.some, piece.ascii.within) in
    let first : get_or rest 0 0 < 128 = ascii_byte rest n 0 piece.some piece.ascii in
    let last : get_or rest (n - 1) 0 < 128 = ascii_byte rest n (n - 1) (omega (arith, piece.some)) piece.ascii in
    let end : at + (n - 1) + 1 ≡ at + n = omega (arith, piece.some) in
    let start : at + 0 ≡ at = omega arith in
    record {
      before = rw start at (before_ascii_of_rest text at 0 some first);
      after = rw end at (after_ascii_of_rest text at (n - 1) utf8 within last);
    }

-- at the end of a text whose bytes are all kept
pub replaced_ends : (piece : List ℕ → Option Piece) (text : List ℕ) (at : ℕ) → length text ≤ at
    → replaced_past piece 0 text ≡ take at text ++ replaced_past piece 0 (drop at text) → replaced_past piece 0 text
    ≡ text
unfolding replaced_past
replaced_ends piece text at past was =
    was ∙ rw (drop_all at text past, take_all at text past) (append-nil text)

-- bytes that begin and end with a space, and are not all spaces
pub record IsSpaced (bytes : List ℕ) : Type 0 where
  pub two : 2 ≤ length bytes
  pub first : get_or bytes 0 0 ≡ 32
  pub last : get_or bytes (length bytes - 1) 0 ≡ 32

pub spaced : (bytes : List ℕ) → has_outer_spaces bytes ≡ true → IsSpaced bytes
spaced [] e = cc
spaced (b ∷ []) e = cases (b == 32) refl
  where
    cases : (space : Bool) → (b == 32) ≡ space → IsSpaced (b ∷ [])
    cases true p = let none : has_outer_spaces (b ∷ []) ≡ false = rw p refl in cc
    cases false p = let none : has_outer_spaces (b ∷ []) ≡ false = rw p refl in cc
spaced (b ∷ c ∷ bytes) e =
    let all = b ∷ c ∷ bytes in
    let ends : (is_space b && is_space (get_or all (length all - 1) 0)) ≡ true =
    first_of (is_space b && is_space (get_or all (length all - 1) 0)) (not (list_all is_space all)) e in
    record {
      two = omega arith;
      first = space_is b (first_of (is_space b) (is_space (get_or all (length all - 1) 0)) ends);
      last = space_is (get_or all (length all - 1) 0)
          (and_second (is_space b) (is_space (get_or all (length all - 1) 0)) ends);
    }
  where
    first_of : (a b : Bool) → (a && b) ≡ true → a ≡ true
    first_of true b e = refl
    first_of false b e = cc

    space_is : (b : ℕ) → (b == 32) ≡ true → b ≡ 32
    space_is b e = grind (arith, nat_tests)
