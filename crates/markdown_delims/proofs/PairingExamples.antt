-- What becomes of small chains by the definitions.
use Rattle.std.proofs.Common.{◌≡◌, ℕ, zero, suc, ◌+◌, Bool, true, false, List, [], ◌∷◌, ◌++◌, Option, Some, None, refl}
use Rattle.std.proofs.Common.{map}
use Rattle.std.specs.Prelude.{codes, encode_utf8, slice_range, option_map}
use Rattle.markdown_base.specs.Syntax.{commonmark}
use Rattle.markdown_base.specs.declared.syntax.Syntax.{Syntax}
use Rattle.markdown_base.specs.Event.{TagView, EventView, text, strong, emphasis, strikethrough, superscript, subscript}
use Rattle.markdown_base.specs.Forest.{Forest, nil, node, preorder}
use Rattle.markdown_base.specs.declared.item.ItemBody.TheVariants as body
use Rattle.markdown_document.specs.Document.{Shape, leaf, enclosed, plain, backslash_break, unresolved, TreeNode, Plain}
use Rattle.markdown_document.specs.Document.{text_over}
use Rattle.markdown_document.specs.Setting.{Setting, Rules}
use Rattle.markdown_delims.specs.Pairing.{closed_by, reads_from, runs_paired, paired}
use Rattle.markdown_delims.specs.PairingFinds.{closer_finds, finds_from, finds_in}
use Rattle.markdown_delims.specs.PairingLaws.{RunAt, with_runs, kept_run}
use Rattle.markdown_delims.specs.Quotes.{with_quotes}

-- a node over bytes i up to j
abbrev over : ℕ → ℕ → Shape → Plain
over i j shape = record {
  note = tt;
  part = record { shape = shape; range = record { start = i; end = j }; block = None };
}

-- a chain with a run, with a word, with a quote
abbrev run : ℕ → ℕ → Bool → Bool → Forest Plain → Forest Plain
run i zero o c rest = rest
run i (suc n) o c rest = node (over i (i + 1) (unresolved (body.MaybeEmphasis (suc n) o c))) nil
    (run (suc i) n o c rest)

abbrev word : List ℕ → ℕ → ℕ → Forest Plain → Forest Plain
word source i n rest = node (over i (i + n) (text_over (slice_range source i (i + n)))) nil rest

abbrev quote : ℕ → ℕ → Bool → Bool → Forest Plain → Forest Plain
quote i byte o c rest = node (over i (i + 1) (unresolved (body.MaybeSmartQuote byte o c))) nil rest

-- `[..]` emphasis, `{..}` strong, `<..>` strikethrough, `/../` superscript, `(..)` subscript
abbrev around : TagView → List ℕ → List ℕ
around emphasis inside = codes "[" ++ inside ++ codes "]"
around strong inside = codes "{" ++ inside ++ codes "}"
around strikethrough inside = codes "<" ++ inside ++ codes ">"
around superscript inside = codes "/" ++ inside ++ codes "/"
around subscript inside = codes "(" ++ inside ++ codes ")"
around other inside = inside

abbrev bytes : EventView → List ℕ
bytes (text t) = t
bytes other = codes "!"

abbrev seen_as : Shape → List ℕ → List ℕ
seen_as (leaf e origins) inside = bytes e
seen_as (enclosed tag origins) inside = around tag inside
seen_as plain inside = inside
seen_as backslash_break inside = codes "#"
seen_as (unresolved b) inside = codes "?"

abbrev shown : Forest Plain → List ℕ
shown nil = []
shown (node a below after) = seen_as a.part.shape (shown below) ++ shown after

-- CommonMark with one kind of marks, and with all
abbrev with_strikethrough : Syntax
with_strikethrough = record commonmark { strikethrough = true }

abbrev with_subscript : Syntax
with_subscript = record commonmark { subscript = true }

abbrev with_all_marks : Syntax
with_all_marks = record commonmark { strikethrough = true; superscript = true; subscript = true }

-- a text that is read so; the other rules say nothing here
abbrev under : Rules → List ℕ → Syntax → Setting
under rules source syntax = record { text = source; rules = record rules { syntax = syntax } }

-- `*hello* world`
row_1 : (rules : Rules) → shown (paired (under rules (codes "*hello* world") commonmark)
    (run 0 1 true false (word (codes "*hello* world") 1 5 (run 6 1 false true (word (codes "*hello* world") 7 6 nil)))))
    ≡ codes "[hello] world"
unfolding paired runs_paired reads_from closed_by with_quotes
row_1 rules = refl

-- two layers around one text
row_2 : (rules : Rules)
    → shown (paired (under rules (codes "***a***") commonmark)
    (run 0 3 true false (word (codes "***a***") 3 1 (run 4 3 false true nil))))
    ≡ codes "[{a}]"
unfolding paired runs_paired reads_from closed_by with_quotes
row_2 rules = refl

-- the rule of three
row_3 : (rules : Rules)
    → shown (paired (under rules (codes "*foo**bar*") commonmark)
    (run 0 1 true false (word (codes "*foo**bar*") 1 3
    (run 4 2 true true (word (codes "*foo**bar*") 6 3 (run 9 1 false true nil))))))
    ≡ codes "[foo**bar]"
unfolding paired runs_paired reads_from closed_by with_quotes
row_3 rules = refl

-- the opener keeps what the closer does not take
row_4 : (rules : Rules)
    → shown (paired (under rules (codes "**a*") commonmark)
    (run 0 2 true false (word (codes "**a*") 2 1 (run 3 1 false true nil)))) ≡ codes "*[a]"
unfolding paired runs_paired reads_from closed_by with_quotes
row_4 rules = refl

-- open runs inside a pair are text
row_5 : (rules : Rules)
    → shown (paired (under rules (codes "*a _b* c_") commonmark)
    (run 0 1 true false (word (codes "*a _b* c_") 1 2
    (run 3 1 true false (word (codes "*a _b* c_") 4 1
    (run 5 1 false true (word (codes "*a _b* c_") 6 2 (run 8 1 false true nil))))))))
    ≡ codes "[a _b] c_"
unfolding paired runs_paired reads_from closed_by with_quotes
row_5 rules = refl

-- by twos, and then a one
row_6 : (rules : Rules)
    → shown (paired (under rules (codes "*****a*****") commonmark)
    (run 0 5 true false (word (codes "*****a*****") 5 1 (run 6 5 false true nil))))
    ≡ codes "[{{a}}]"
unfolding paired runs_paired reads_from closed_by with_quotes
row_6 rules = refl

-- a closer with characters left searches again
row_7 : (rules : Rules)
    → shown (paired (under rules (codes "*a **b***") commonmark)
    (run 0 1 true false (word (codes "*a **b***") 1 2
    (run 3 2 true false (word (codes "*a **b***") 5 1 (run 6 3 false true nil))))))
    ≡ codes "[a {b}]"
unfolding paired runs_paired reads_from closed_by with_quotes
row_7 rules = refl

-- `~` pairs by equal lengths alone
row_8 : (rules : Rules)
    → shown (paired (under rules (codes "~~a~~~b~") with_all_marks)
    (run 0 2 true false (word (codes "~~a~~~b~") 2 1
    (run 3 2 false true (run 5 1 true false (word (codes "~~a~~~b~") 6 1 (run 7 1 false true nil))))))) ≡ codes "<a>(b)"
unfolding paired runs_paired reads_from closed_by with_quotes
row_8 rules = refl

-- a failed search by `^` drops no open `~`
row_9 : (rules : Rules)
    → shown (paired (under rules (codes "~a b^ c~") with_all_marks)
    (run 0 1 true false (word (codes "~a b^ c~") 1 3
    (run 4 1 false true (word (codes "~a b^ c~") 5 2 (run 7 1 false true nil))))))
    ≡ codes "(a b^ c)"
unfolding paired runs_paired reads_from closed_by with_quotes
row_9 rules = refl

-- a failed search by `~` drops runs of every length
row_10 : (rules : Rules)
    → shown (paired (under rules (codes "~a~~b~") with_subscript)
    (run 0 1 true false (word (codes "~a~~b~") 1 1
    (run 2 2 false true (word (codes "~a~~b~") 4 1 (run 5 1 false true nil))))))
    ≡ codes "~a~~b~"
unfolding paired runs_paired reads_from closed_by with_quotes
row_10 rules = refl

-- a mark that is off is text over all of its range
row_11 : (rules : Rules) → shown (paired (under rules (codes "~~a *b* c~~") with_subscript)
    (run 0 2 true false (word (codes "~~a *b* c~~") 2 2
    (run 4 1 true false (word (codes "~~a *b* c~~") 5 1
    (run 6 1 false true (word (codes "~~a *b* c~~") 7 2 (run 9 2 false true nil))))))))
    ≡ codes "~~a *b* c~~"
unfolding paired runs_paired reads_from closed_by with_quotes
row_11 rules = refl

-- a mark that is on
row_12 : (rules : Rules)
    → shown (paired (under rules (codes "hi ~~no~~") with_strikethrough)
    (word (codes "hi ~~no~~") 0 3 (run 3 2 true false (word (codes "hi ~~no~~") 5 2 (run 7 2 false true nil)))))
    ≡ codes "hi <no>"
unfolding paired runs_paired reads_from closed_by with_quotes
row_12 rules = refl

-- subscript off, strikethrough on: one `~` is a strikethrough
row_13 : (rules : Rules)
    → shown (paired (under rules (codes "~a~") with_strikethrough)
    (run 0 1 true false (word (codes "~a~") 1 1 (run 2 1 false true nil)))) ≡ codes "<a>"
unfolding paired runs_paired reads_from closed_by with_quotes
row_13 rules = refl

-- quotes: one that closes and one that opens; a double one that is open
row_quotes : (rules : Rules)
    → shown (paired (under rules (codes "'a' \"b\"") commonmark)
    (quote 0 39 true false (word (codes "'a' \"b\"") 1 1
    (quote 2 39 false true (word (codes "'a' \"b\"") 3 1
    (quote 4 34 true false (word (codes "'a' \"b\"") 5 1 (quote 6 34 false true nil))))))))
    ≡ encode_utf8 8216 ++ 97 ∷ (encode_utf8 8217 ++ 32 ∷ (encode_utf8 8220 ++ 98 ∷ (encode_utf8 8221 ++ [])))
unfolding paired runs_paired reads_from closed_by with_quotes
row_quotes rules = refl

-- a `"` that finds none open is a left quote, also where it can only close
row_closing_quote : (rules : Rules)
    → shown (paired (under rules (codes "a\"") commonmark) (word (codes "a\"") 0 1 (quote 1 34 false true nil)))
    ≡ codes "a" ++ encode_utf8 8220 ++ []
unfolding paired runs_paired reads_from closed_by with_quotes
row_closing_quote rules = refl

-- a hard break by a backslash, at the end of a chain and before it
row_last_break : (rules : Rules)
    → shown (paired (under rules (codes "*a*\\") commonmark)
    (run 0 1 true false (word (codes "*a*\\") 1 1 (run 2 1 false true (node (over 3 4 backslash_break) nil nil)))))
    ≡ codes "[a]"
    ++ encode_utf8 92 ++ []
unfolding paired runs_paired reads_from closed_by with_quotes
row_last_break rules = refl

-- where the run starts of which each tree is a character, and of which it is one that stayed text, in preorder
abbrev start_of : Option RunAt → Option ℕ
start_of r = option_map (λ (p : RunAt). p.start) r

abbrev starts : Forest (TreeNode (Option RunAt)) → List (Option ℕ)
starts chain = map (λ (a : TreeNode (Option RunAt)). start_of a.note) (preorder chain)

abbrev kept_starts : Forest (TreeNode (Option RunAt)) → List (Option ℕ)
kept_starts chain = map (λ (a : TreeNode (Option RunAt)). start_of (kept_run a)) (preorder chain)

-- each character of a run is told of which it is, and of what the opener keeps it is known
told_4 : (rules : Rules) → starts (with_runs (under rules (codes "**a*") commonmark) 0 None
    (run 0 2 true false (word (codes "**a*") 2 1 (run 3 1 false true nil)))) ≡ Some 0 ∷ Some 0 ∷ None ∷ Some 3 ∷ []
told_4 rules = refl

kept_4 : (rules : Rules)
    → kept_starts (paired (under rules (codes "**a*") commonmark)
    (with_runs (under rules (codes "**a*") commonmark) 0 None
    (run 0 2 true false (word (codes "**a*") 2 1 (run 3 1 false true nil))))) ≡ Some 0 ∷ None ∷ None ∷ []
unfolding paired runs_paired reads_from closed_by with_quotes
kept_4 rules = refl

-- two runs that may pair, of which a pair encloses one
kept_5 : (rules : Rules)
    → kept_starts (paired (under rules (codes "*a _b* c_") commonmark)
    (with_runs (under rules (codes "*a _b* c_") commonmark) 0 None
    (run 0 1 true false (word (codes "*a _b* c_") 1 2
    (run 3 1 true false (word (codes "*a _b* c_") 4 1
    (run 5 1 false true (word (codes "*a _b* c_") 6 2 (run 8 1 false true nil)))))))))
    ≡ None ∷ None ∷ Some 3 ∷ None ∷ None ∷ Some 8 ∷ []
unfolding paired runs_paired reads_from closed_by with_quotes
kept_5 rules = refl

-- one pair: `*a*`
finds_pair : (rules : Rules)
    → finds_in (under rules (codes "*a*") commonmark)
    (run 0 1 true false (word (codes "*a*") 1 1 (run 2 1 false true nil)))
    ≡ 1
unfolding finds_in finds_from closer_finds reads_from closed_by with_quotes
finds_pair rules = refl

-- two layers of one opener, by one search: `***a***`
finds_layers : (rules : Rules) → finds_in (under rules (codes "***a***") commonmark)
    (run 0 3 true false (word (codes "***a***") 3 1 (run 4 3 false true nil))) ≡ 1
unfolding finds_in finds_from closer_finds reads_from closed_by with_quotes
finds_layers rules = refl

-- no closer: `*a`
finds_none : (rules : Rules) → finds_in (under rules (codes "*a") commonmark)
    (run 0 1 true false (word (codes "*a") 1 1 nil))
    ≡ 0
unfolding finds_in finds_from closer_finds reads_from closed_by with_quotes
finds_none rules = refl

-- two pairs: `*a* *b*`
finds_pairs : (rules : Rules) → finds_in (under rules (codes "*a* *b*") commonmark)
    (run 0 1 true false (word (codes "*a* *b*") 1 1
    (run 2 1 false true (word (codes "*a* *b*") 3 1
    (run 4 1 true false (word (codes "*a* *b*") 5 1 (run 6 1 false true nil))))))) ≡ 2
unfolding finds_in finds_from closer_finds reads_from closed_by with_quotes
finds_pairs rules = refl

-- a closer with characters left finds again: `*a **b***`
finds_again : (rules : Rules) → finds_in (under rules (codes "*a **b***") commonmark)
    (run 0 1 true false (word (codes "*a **b***") 1 2
    (run 3 2 true false (word (codes "*a **b***") 5 1 (run 6 3 false true nil))))) ≡ 2
unfolding finds_in finds_from closer_finds reads_from closed_by with_quotes
finds_again rules = refl

-- one that finds no opener of its character: `*a_`
finds_open : (rules : Rules)
    → finds_in (under rules (codes "*a_") commonmark)
    (run 0 1 true false (word (codes "*a_") 1 1 (run 2 1 false true nil)))
    ≡ 0
unfolding finds_in finds_from closer_finds reads_from closed_by with_quotes
finds_open rules = refl
