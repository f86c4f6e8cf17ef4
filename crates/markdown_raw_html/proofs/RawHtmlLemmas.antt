-- The first occurrence of closing bytes.
use Rattle.std.proofs.Common.{◌≡◌, ℕ, suc, zero, ◌+◌, ◌-◌, ◌<◌, ◌≤◌, List, [], ◌∷◌, Bool, true, false, cond, Option}
use Rattle.std.proofs.Common.{Some, None, IfSome, length, drop, get_or, codes, refl, arith, ◌∙◌, sym, ap, lit≤}
use Rattle.std.proofs.lemmas.Bool.{cond_both, cond-true}
use Rattle.std.proofs.lemmas.List.{drop-drop, length-drop, get_or-drop}
use Rattle.std.specs.List.{slice_index}
use Rattle.std.specs.Option.{option_map}
use Rattle.markdown_scan.specs.Beginnings.{begins_with, begins_with_letter}
use Rattle.markdown_raw_html.specs.RawHtml.{cdata_section, comment, declaration, end_from, processing_instruction}
use Rattle.markdown_raw_html.specs.RawHtml.{through_first, through_first_after}
use Rattle.markdown_scan.proofs.BeginsWithLemmas.{begins_with-fits, begins_with-reads}
use Rattle.markdown_base.proofs.OptionLemmas.{added_twice}

-- bytes that do not contain them do not contain them from a later offset on
pub none_later : (closing : List ℕ) (n : ℕ) (bytes : List ℕ) → through_first closing bytes ≡ None
    → through_first closing (drop n bytes) ≡ None
none_later closing zero bytes h = h
none_later closing (suc n) [] h = refl
none_later closing (suc n) (b ∷ bytes) h =
    none_later closing n bytes
    (tail_has_none (begins_with closing (b ∷ bytes)) (length closing) (through_first closing bytes) h)
  where
    tail_has_none : (t : Bool) (m : ℕ) (o : Option ℕ)
        → cond t (Some m) (option_map (λ n. 1 + n) o) ≡ None → o ≡ None
    tail_has_none true m o e = cc
    tail_has_none false m None e = refl
    tail_has_none false m (Some x) e = cc

-- nothing is found from a later offset on
pub none_past : (closing text : List ℕ) (from start : ℕ)
    → through_first closing (drop from text) ≡ None → from ≤ start
    → None ≡ end_from (through_first closing) text start
none_past closing text from start none after =
    let past = none_later closing (start - from) (drop from text) none in
    let whole : from + (start - from) ≡ start = omega arith in
    sym (ap (option_map (λ n. start + n)) (rw (drop-drop, whole) at past))

-- what is found after the first n bytes is found from that offset on
pub end_after : (closing text : List ℕ) (start n : ℕ)
    → end_from (through_first closing) text (start + n)
    ≡ end_from (through_first_after n closing) text start
end_after closing text start n =
    sym (added_twice start n (through_first closing (drop n (drop start text)))
    ∙ ap (λ bytes. option_map (λ k. start + n + k) (through_first closing bytes))
    (drop-drop n start text))

-- the same, where the bytes begin as they have to
pub end_if : (closing text : List ℕ) (start n : ℕ) (begins : Bool) → begins ≡ true
    → end_from (through_first closing) text (start + n)
    ≡ option_map (λ k. start + k)
    (cond begins (through_first_after n closing (drop start text)) None)
end_if closing text start n begins e =
    end_after closing text start n
    ∙ ap (option_map (λ k. start + k))
    (sym (cond-true begins (through_first_after n closing (drop start text)) None e))

-- the first n bytes end with `mark`
pub record EndsWith (mark : ℕ) (bytes : List ℕ) (n : ℕ) : Type 0 where
  pub some : 1 ≤ n
  pub within : n ≤ length bytes
  pub last : get_or bytes (n - 1) 0 ≡ mark

-- a text that the bytes begin with
EndsWith-text : (mark : ℕ) (text bytes : List ℕ) → begins_with text bytes ≡ true
    → EndsWith mark text (length text) → EndsWith mark bytes (length text)
EndsWith-text mark text bytes e is = record {
  some = is.some;
  within = begins_with-fits text bytes e;
  last =
      let inside : length text - 1 < length text = omega (arith, is.some) in
      begins_with-reads text bytes (length text - 1) e inside ∙ is.last;
}

-- the same, n bytes later
pub EndsWith-after : (mark n : ℕ) (bytes : List ℕ) (found : Option ℕ)
    → IfSome found (EndsWith mark (drop n bytes))
    → IfSome (option_map (λ m. n + m) found) (EndsWith mark bytes)
EndsWith-after mark n bytes None is = tt
EndsWith-after mark n bytes (Some m) is = record {
  some = omega (arith, is.some);
  within = omega (arith, is.within, is.some, length-drop n bytes);
  last =
      let place : n + (m - 1) ≡ n + m - 1 = omega (arith, is.some) in
      ap (λ i. get_or bytes i 0) (sym place) ∙ (sym (get_or-drop n bytes (m - 1) 0) ∙ is.last);
}

-- the closing bytes are the last
pub through_first-ends : (mark : ℕ) (closing bytes : List ℕ) → EndsWith mark closing (length closing)
    → IfSome (through_first closing bytes) (EndsWith mark bytes)
through_first-ends mark closing [] is = tt
through_first-ends mark closing (b ∷ bytes) is =
    cond_both (begins_with closing (b ∷ bytes)) (Some (length closing))
    (option_map (λ n. 1 + n) (through_first closing bytes))
    (λ r. IfSome r (EndsWith mark (b ∷ bytes)))
    (λ e. EndsWith-text mark closing (b ∷ bytes) e is)
    (λ e. EndsWith-after mark 1 (b ∷ bytes) (through_first closing bytes)
    (through_first-ends mark closing bytes is))

through_first_after-ends : (mark n : ℕ) (closing bytes : List ℕ)
    → EndsWith mark closing (length closing)
    → IfSome (through_first_after n closing bytes) (EndsWith mark bytes)
through_first_after-ends mark n closing bytes is =
    EndsWith-after mark n bytes (through_first closing (drop n bytes))
    (through_first-ends mark closing (drop n bytes) is)

-- bytes that are read at a place of a text end in it
pub opening_fits : (opening text : List ℕ) (start : ℕ) → start ≤ length text
    → begins_with opening (drop start text) ≡ true → start + length opening ≤ length text
opening_fits opening text start h begins =
    omega (arith, begins_with-fits opening (drop start text) begins, length-drop start text, h)

-- the last byte of each family is `>`
pub comment-ends : (bytes : List ℕ) → IfSome (comment bytes) (EndsWith 62 bytes)
comment-ends bytes =
    let P = λ (r : Option ℕ). IfSome r (EndsWith 62 bytes) in
    cond_both (begins_with (codes "-->") bytes) (Some 3)
    (cond (begins_with (codes "--->") bytes) (Some 4)
    (cond (begins_with (codes "--") bytes) (through_first_after 2 (codes "-->") bytes) None)) P
    (λ e. EndsWith-text 62 (codes "-->") bytes e three)
    (λ e. cond_both (begins_with (codes "--->") bytes) (Some 4)
    (cond (begins_with (codes "--") bytes) (through_first_after 2 (codes "-->") bytes) None) P
    (λ e. EndsWith-text 62 (codes "--->") bytes e four)
    (λ e. cond_both (begins_with (codes "--") bytes) (through_first_after 2 (codes "-->") bytes) None P
    (λ e. through_first_after-ends 62 2 (codes "-->") bytes three) (λ e. tt)))
  where
    three : EndsWith 62 (codes "-->") 3
    three = record { some = lit≤ tt; within = lit≤ tt; last = refl }

    four : EndsWith 62 (codes "--->") 4
    four = record { some = lit≤ tt; within = lit≤ tt; last = refl }

pub cdata_section-ends : (bytes : List ℕ) → IfSome (cdata_section bytes) (EndsWith 62 bytes)
cdata_section-ends bytes =
    cond_both (begins_with (codes "[CDATA[") bytes) (through_first_after 7 (codes "]]>") bytes) None
    (λ r. IfSome r (EndsWith 62 bytes))
    (λ e. through_first_after-ends 62 7 (codes "]]>") bytes
    (record { some = lit≤ tt; within = lit≤ tt; last = refl }))
    (λ e. tt)

pub declaration-ends : (bytes : List ℕ) → IfSome (declaration bytes) (EndsWith 62 bytes)
declaration-ends bytes =
    cond_both (begins_with_letter bytes) (through_first_after 1 (codes ">") bytes) None
    (λ r. IfSome r (EndsWith 62 bytes))
    (λ e. through_first_after-ends 62 1 (codes ">") bytes
    (record { some = lit≤ tt; within = lit≤ tt; last = refl }))
    (λ e. tt)

pub processing_instruction-ends : (bytes : List ℕ)
    → IfSome (processing_instruction bytes) (EndsWith 62 bytes)
processing_instruction-ends bytes =
    through_first-ends 62 (codes "?>") bytes
    (record { some = lit≤ tt; within = lit≤ tt; last = refl })

-- what ends at a place of a text ends with `>` there
pub closed_by : (scan : List ℕ → Option ℕ) (text : List ℕ) (start : ℕ) (result : Option ℕ)
    → ((bytes : List ℕ) → IfSome (scan bytes) (EndsWith 62 bytes))
    → result ≡ end_from scan text start → IfSome result (λ end. slice_index text (end - 1) ≡ 62)
closed_by scan text start result ends e =
    rw e (last_of (end_from scan text start)
    (EndsWith-after 62 start text (scan (drop start text)) (ends (drop start text))))
  where
    last_of : (found : Option ℕ) → IfSome found (EndsWith 62 text)
        → IfSome found (λ end. slice_index text (end - 1) ≡ 62)
    last_of None is = tt
    last_of (Some n) is = is.last
