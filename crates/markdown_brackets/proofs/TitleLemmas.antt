-- Steps of the scan of a title: one byte of joined lines, and what it adds.
use Rattle.std.proofs.Common.{◌≡◌, ℕ, suc, zero, ◌+◌, ◌-◌, ◌<◌, ◌≤◌, Bool, true, false, ◌&&◌, ◌||◌, ◌==◌, List, [], ◌∷◌}
use Rattle.std.proofs.Common.{◌++◌, Option, Some, None, if◌then◌else◌, is_some, unwrap_or, length, get_or, take, drop}
use Rattle.std.proofs.Common.{slice_range, refl, sym, ◌∙◌, ap, arith, append_assoc, nat_lt}
use Rattle.std.specs.Option.{option_map}
use Rattle.std.proofs.Math.Bool.{or-false, or_assoc}
use Rattle.std.proofs.lemmas.List.{append-nil, drop_all, drop_more, take_more, get_or-drop, length-drop}
use Rattle.std.proofs.lemmas.Bool.Decides.{nat_tests}
use Rattle.std.proofs.lemmas.Bool.{lt-ltb, le-ltb}
use Rattle.markdown_base.specs.CowText.{text_of}
use Rattle.markdown_base.specs.declared.cow_str.CowStr.{CowStr}
use Rattle.markdown_base.specs.Bytes.{backslash, carriage_return, close_parenthesis, line_feed, open_parenthesis}
use Rattle.markdown_scan.specs.Backslash.{is_bare}
use Rattle.markdown_scan.specs.Unescape.{unescaped}
use Rattle.markdown_scan.specs.declared.entity.EntityNames.{EntityNames}
use Rattle.markdown_document.specs.LinkTitle.{Title, joined_lines, next_line, title_in, title_origin}
use Rattle.markdown_document.specs.Origins.{origin_of}
use Rattle.markdown_brackets.specs.TitleView.{ReadsTitle}

-- the byte that stands for this one
abbrev shown : Option ℕ → ℕ → ℕ
shown line b = if is_some line then line_feed else b

-- it is bare where this one is
shown_bare : (starts : ℕ → Option ℕ) (i : ℕ) (escaped : Bool) (b what : ℕ) → 13 < what
    → is_bare escaped (shown (next_line starts i b) b) what ≡ is_bare escaped b what
shown_bare starts i escaped b what h = by ((b == line_feed) || (b == carriage_return)) refl
  where
    both : (lines : Bool) → ((b == line_feed) || (b == carriage_return)) ≡ true
        → is_bare escaped (if lines then line_feed else b) what ≡ is_bare escaped b what
    both true e = grind (arith, nat_tests)
    both false e = refl

    by : (ends : Bool) → ((b == line_feed) || (b == carriage_return)) ≡ ends
        → is_bare escaped (shown (if ends && nat_lt i (unwrap_or (starts (i + 1)) 0) then starts (i + 1) else None) b)
        what
        ≡ is_bare escaped b what
    by true e = both (is_some (if nat_lt i (unwrap_or (starts (i + 1)) 0) then starts (i + 1) else None)) e
    by false e = refl

-- a title after a text that was read
abbrev pub after : List ℕ → Bool → Title → Title
after so is_joined t = record { ends = t.ends; text = so ++ t.text; is_joined = is_joined || t.is_joined }

abbrev title_on : List ℕ → Bool → ℕ → Bool → List (ℕ × ℕ × Bool) → Option Title
title_on so is_joined closer escaped bytes = option_map (after so is_joined) (title_in closer escaped bytes)

-- bytes before the offset from which lines are joined
pub joined_after : (starts : ℕ → Option ℕ) (from i n at : ℕ) (bytes : List ℕ) → i + n ≡ at → at ≤ from
    → joined_lines starts from i bytes ≡ joined_lines starts from at (drop n bytes)
joined_after starts from i zero at bytes e h = let same : i
    ≡ at = omega (arith, e) in ap (λ (k : ℕ). joined_lines starts from k bytes) same
joined_after starts from i (suc n) at [] e h = refl
joined_after starts from i (suc n) at (b ∷ bytes) e h =
    rw (lt-ltb i from (omega (arith, e, h))) (joined_after starts from (i + 1) n at bytes (omega (arith, e)) h)

-- what starts later is asked of what ends past the next byte alone
next_line_same : (starts starts' : ℕ → Option ℕ) (i b : ℕ) → starts (i + 1) ≡ starts' (i + 1)
    → next_line starts i b ≡ next_line starts' i b
next_line_same starts starts' i b e =
    ap (λ o. if ((b == line_feed) || (b == carriage_return)) && nat_lt i (unwrap_or o 0) then o else None) e

-- a title has this text up to a byte offset, and then what the rest has
pub record ReadTo (starts : ℕ → Option ℕ) (bytes : List ℕ) (closer : ℕ) (whole : Option Title) (at : ℕ) (escaped : Bool)
    (so : List ℕ)
    (is_joined : Bool) : Type 0 where
  pub mark : 13 < closer
  pub rest : whole ≡ title_on so is_joined closer escaped (joined_lines starts at 0 bytes)

module _ {starts : ℕ → Option ℕ} {bytes : List ℕ} {closer : ℕ} {whole : Option Title} {at : ℕ} {escaped : Bool}
    {so : List ℕ} {is_joined : Bool}
    (read : ReadTo starts bytes closer whole at escaped so is_joined) where
  -- nothing is left
  pub past_end : length bytes ≤ at → whole ≡ None
  past_end past =
      read.rest ∙ ap (title_on so is_joined closer escaped)
      (joined_after starts at 0 (length bytes) (length bytes) bytes (omega arith) past
      ∙ ap (joined_lines starts at (length bytes)) (drop_all (length bytes) bytes (omega arith)))

  module _ (here : at < length bytes) where
    abbrev byte : ℕ
    byte = get_or bytes at 0

    -- the byte at the offset comes next
    now : (line : Option ℕ) → next_line starts at byte ≡ line
        → whole ≡ title_on so is_joined closer escaped ((at, shown line byte, is_some line)
        ∷ joined_lines starts (unwrap_or line (at + 1)) (at + 1) (drop (at + 1) bytes))
    now line is =
        let first : joined_lines starts at at (byte ∷ drop (at + 1) bytes) ≡ (at, shown line byte, is_some line)
        ∷ joined_lines starts (unwrap_or line (at + 1)) (at + 1) (drop (at + 1) bytes) = rw
        (le-ltb at at (omega arith), is) refl in
        read.rest ∙ ap (title_on so is_joined closer escaped)
        (joined_after starts at 0 at at bytes (omega arith) (omega arith)
        ∙ ap (joined_lines starts at at) (drop_more bytes at 0 here) ∙ first)

    bare : (line : Option ℕ) (what : ℕ) (b : Bool) → next_line starts at byte ≡ line → 13 < what
        → is_bare escaped byte what ≡ b
        → is_bare escaped (shown line byte) what ≡ b
    bare line what b is h e = ap (λ l. is_bare escaped (shown l byte) what) (sym is)
        ∙ shown_bare starts at escaped byte what h ∙ e

    -- it is the closing mark
    pub closes : is_bare escaped (get_or bytes at 0) closer ≡ true → whole
        ≡ Some (record { ends = at + 1; text = so; is_joined = is_joined })
    closes e = now (next_line starts at byte) refl
        ∙ rw (bare (next_line starts at byte) closer true refl read.mark e, append-nil so, or-false is_joined) refl

    -- it is an open parenthesis that is not allowed
    pub refused : is_bare escaped (get_or bytes at 0) closer ≡ false
        → ((closer == close_parenthesis) && is_bare escaped (get_or bytes at 0) open_parenthesis) ≡ true → whole ≡ None
    refused e r = now (next_line starts at byte) refl
        ∙ rw (
          bare (next_line starts at byte) closer false refl read.mark e,
          bare (next_line starts at byte) open_parenthesis (is_bare escaped byte open_parenthesis) refl (omega arith)
              refl,
          r,
        ) refl

    -- it is another byte
    pub goes_on : (starts' : ℕ → Option ℕ) (line : Option ℕ) (next : ℕ) (so' : List ℕ) (is_joined' escaped' : Bool)
        → is_bare escaped (get_or bytes at 0) closer ≡ false
        → ((closer == close_parenthesis) && is_bare escaped (get_or bytes at 0) open_parenthesis) ≡ false
        → starts' (at + 1) ≡ starts (at + 1) → line ≡ next_line starts' at (get_or bytes at 0) → unwrap_or line (at + 1)
        ≡ next → at < next
        → so' ≡ so ++ (if is_some line then line_feed else get_or bytes at 0) ∷ [] → is_joined'
        ≡ (is_joined || is_some line)
        → escaped' ≡ is_bare escaped (get_or bytes at 0) backslash
        → ReadTo starts bytes closer whole next escaped' so' is_joined'
    goes_on starts' line next so' is_joined' escaped' e r same lined to later text joins escapes =
        let is : next_line starts at byte ≡ line = sym (lined ∙ next_line_same starts' starts at byte same) in
        record {
          mark = read.mark;
          rest =
              now line is
              ∙ rw (
                bare line closer false is read.mark e,
                bare line open_parenthesis (is_bare escaped byte open_parenthesis) is (omega arith) refl,
                r,
                bare line backslash (is_bare escaped byte backslash) is (omega arith) refl,
                to,
                text,
                joins,
                escapes,
                joined_after starts next 0 (at + 1) (at + 1) bytes (omega arith) (omega (arith, later)),
              )
              (by (title_in closer (is_bare escaped byte backslash)
              (joined_lines starts next (at + 1) (drop (at + 1) bytes))));
        }
      where
        by : (o : Option Title)
            → option_map (after so is_joined) (option_map (after (shown line byte ∷ []) (is_some line)) o)
            ≡ option_map (after (so ++ shown line byte ∷ []) (is_joined || is_some line)) o
        by None = refl
        by (Some t) = rw (append_assoc so (shown line byte ∷ []) t.text, or_assoc is_joined (is_some line) t.is_joined)
            refl

pub ReadsTitle-none : (names : EntityNames) (in_table : Bool) (whole : Option Title) → whole ≡ None
    → ReadsTitle names in_table whole None
ReadsTitle-none names in_table whole e = rw e tt

-- a slice with one byte more
pub slice_more : (text : List ℕ) (start at : ℕ) → start ≤ at → at < length text
    → slice_range text start (at + 1) ≡ slice_range text start at ++ get_or text at 0 ∷ []
slice_more text start at order here =
    let n : at + 1 - start ≡ at - start + 1 = omega arith in
    let inside : at - start < length (drop start text) = omega (arith, length-drop start text) in
    let place : start + (at - start) ≡ at = omega arith in
    ap (λ (k : ℕ). take k (drop start text)) n ∙ take_more (drop start text) (at - start) 0 inside
    ∙ ap (λ (b : ℕ). take (at - start) (drop start text) ++ b ∷ []) (get_or-drop start text (at - start) 0
    ∙ ap (λ (k : ℕ). get_or text k 0) place)

pub slice_empty : (text : List ℕ) (at : ℕ) → slice_range text at at ≡ []
slice_empty text at = let n : at - at ≡ 0 = omega arith in ap (λ (k : ℕ). take k (drop at text)) n

-- a bare byte is that byte
pub bare_is : (escaped : Bool) (b what : ℕ) → is_bare escaped b what ≡ true → b ≡ what
bare_is escaped b what e = grind (arith, nat_tests)

-- what is returned at the closing mark
pub ReadsTitle-closed : (names : EntityNames) (in_table : Bool) (whole : Option Title) (so : List ℕ) (joined : Bool)
    (at : ℕ) (found : CowStr) → whole ≡ Some (record { ends = at + 1; text = so; is_joined = joined })
    → text_of found ≡ unescaped names in_table so
    → origin_of found ≡ title_origin names in_table so joined → ReadsTitle names in_table whole (Some (at + 1, found))
ReadsTitle-closed names in_table whole so joined at found is text origin = rw is (refl, text, origin)
