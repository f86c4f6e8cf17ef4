-- Labels, forms of references and look-ups, as the definitions read them.
use Rattle.std.proofs.Common.{◌≡◌, ℕ, true, false, List, [], ◌∷◌, Option, Some, None, codes, refl, take}
use Rattle.markdown_base.specs.Questions.{Question}
use Rattle.markdown_base.specs.declared.item.Item.{Item}
use Rattle.markdown_base.specs.declared.item.ItemBody.TheVariants.{MaybeLinkOpen, MaybeLinkClose}
use Rattle.markdown_base.specs.declared.tag.LinkType.TheVariants.{Shortcut, ShortcutUnknown}
use Rattle.markdown_brackets.specs.Lookup as lookup
use Rattle.markdown_brackets.specs.Reference.{bracket_label, own_label, form_at, reference, collapsed, shortcut}
use Rattle.markdown_brackets.specs.declared.footnote.FootnoteStyle.TheVariants.{Off, Gfm, Old}

abbrev no_prefix : List ℕ → Option ℕ
no_prefix rest = Some 0

-- the bytes from the opener to the `]` are exactly one label
own : own_label Off no_prefix false (codes "x [a b] y") 2 7
    ≡ Some (record { is_footnote = false; length = 5; name = codes "a b" })
own = refl

two_labels : own_label Off no_prefix false (codes "[a] [b]") 0 7 ≡ None
two_labels = refl

-- in a block that ends before its `]` it is none
past_block : own_label Off no_prefix false (take 2 (codes "[a]")) 0 3 ≡ None
past_block = refl

-- footnotes, on one line as GitHub writes them
no_footnotes : bracket_label Off no_prefix false (codes "[^a]")
    ≡ Some (record { is_footnote = false; length = 4; name = codes "^a" })
no_footnotes = refl

footnote : bracket_label Gfm no_prefix false (codes "[^a]")
    ≡ Some (record { is_footnote = true; length = 4; name = codes "a" })
footnote = refl

blank_name : bracket_label Gfm no_prefix false (codes "[^ ]")
    ≡ Some (record { is_footnote = false; length = 4; name = codes "^" })
blank_name = refl

empty_name : bracket_label Old no_prefix false (codes "[^]")
    ≡ Some (record { is_footnote = false; length = 3; name = codes "^" })
empty_name = refl

name_of_two_lines : bracket_label Gfm no_prefix false (codes "[^a\nb]")
    ≡ Some (record { is_footnote = false; length = 6; name = codes "^a b" })
name_of_two_lines = refl

name_of_two_lines_old : bracket_label Old no_prefix false (codes "[^a\nb]")
    ≡ Some (record { is_footnote = true; length = 6; name = codes "a b" })
name_of_two_lines_old = refl

abbrev opener_at : ℕ → Option Item
opener_at at = Some (record { start = at; end = at; body = MaybeLinkOpen })

abbrev closer_at : ℕ → Option Item
closer_at at = Some (record { start = at; end = at; body = MaybeLinkClose true })

-- forms
empty_brackets : form_at Off no_prefix false (codes "[foo][]") 5 (opener_at 5) (closer_at 6) ≡ collapsed
empty_brackets = refl

label_follows : form_at Off no_prefix false (codes "[testing][Some reference]") 9 (opener_at 9) None
    ≡ reference (codes "Some reference") 25
label_follows = refl

-- an escaped bracket begins no label: no item starts there
escaped_bracket : form_at Off no_prefix false (codes "[a]\\[b]") 3 (opener_at 4) None ≡ shortcut
escaped_bracket = refl

footnote_follows : form_at Gfm no_prefix false (codes "[a][^b]") 3 (opener_at 3) None ≡ shortcut
footnote_follows = refl

nothing_follows : form_at Off no_prefix false (codes "[a]") 3 None None ≡ shortcut
nothing_follows = refl

-- look-ups where nothing is defined
abbrev about : List ℕ → Question
about label = record { span = record { start = 0; end = 3 }; link_type = Shortcut; reference = label }

-- nobody is asked at a limit of 0
at_zero : lookup.look_up (λ label. None) true 0 (None ∷ []) (about (codes "a"))
    ≡ record { target = None; questions = []; limit = 0; answers = None ∷ [] }
at_zero = refl

nobody_to_ask : lookup.look_up (λ label. None) false 9 [] (about (codes "a"))
    ≡ record { target = None; questions = []; limit = 9; answers = [] }
nobody_to_ask = refl

-- an answer may be longer than what is left of the limit
long_answer : lookup.look_up (λ label. None) true 4
    (Some (record { destination = codes "http"; title = codes "t" }) ∷ None ∷ []) (about (codes "a"))
    ≡ record {
      target = Some (record {
        kind = ShortcutUnknown;
        destination = codes "http";
        title = codes "t";
        label = codes "a";
      });
      questions = about (codes "a") ∷ [];
      limit = 0;
      answers = None ∷ [];
    }
long_answer = refl

no_answer : lookup.look_up (λ label. None) true 4 (None ∷ []) (about (codes "a"))
    ≡ record { target = None; questions = about (codes "a") ∷ []; limit = 4; answers = [] }
no_answer = refl
