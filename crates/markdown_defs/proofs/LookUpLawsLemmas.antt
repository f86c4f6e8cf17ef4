-- What a look-up finds, by caseless matching.
use Rattle.std.proofs.Common.{◌≡◌, ℕ, List, [], ◌∷◌, true, false, Some, None, refl, sym, ap, ◌∙◌, inl, inr}
use Rattle.std.proofs.Common.{encode_utf8_all}
use Rattle.std.specs.Prelude.{Any, MatchOption}
use Rattle.std.specs.BTreeMap.{get_by_text}
use Rattle.std.specs.List.{list_any}
use Rattle.std.specs.Option.{option_map}
use Rattle.std.proofs.lemmas.Bool.{cases_Bool}
use Rattle.std.proofs.lemmas.List.Folds.{Any-from_list_any, list_any-from_Any}
use Rattle.std.proofs.lemmas.Slice.Eq.{bytes_eq-Decides}
use Rattle.markdown_base.specs.CowText.{text_of}
use Rattle.markdown_defs.specs.Definitions.{Labelled, has_folding, first_at, find_definition}
use Rattle.markdown_defs.specs.Folding.{case_folding, is_match}
use Rattle.markdown_defs.specs.FootnoteCounts.{unused, unused_at}
use Rattle.markdown_defs.specs.LookUpLaws.{NoneMatches, IsFirstMatch, FindsFirstMatch, MatchingKeysAgree, TestsMatching}
use Rattle.markdown_defs.specs.LookUpLaws.{IsAmongNames, FindsNamed, MatchingNamesAgree, Matches}

-- foldings are equal where texts match
pub folding_of_match : (a b : List ℕ) → Matches a b → case_folding a ≡ case_folding b
unfolding case_folding
folding_of_match a b same = same

pub match_of_folding : (a b : List ℕ) → case_folding a ≡ case_folding b → Matches a b
unfolding case_folding
match_of_folding a b same = same

pub matching_keys_agree : MatchingKeysAgree
matching_keys_agree a b definitions same = ap (λ folded. option_map (λ d. d.1) (first_at folded definitions))
    (folding_of_match a b same)

-- the first match of a list that begins with a label that does not match
later_match : (key : List ℕ) (d : Labelled) (ds : List Labelled) → (Matches key (text_of d.0) → ⊥)
    → MatchOption (find_definition key ds) (NoneMatches key ds) (IsFirstMatch key ds)
    → MatchOption (find_definition key ds) (NoneMatches key (d ∷ ds)) (IsFirstMatch key (d ∷ ds))
later_match key d ds other found =
    elim (find_definition key ds) as (λ o. MatchOption o (NoneMatches key ds) (IsFirstMatch key ds)
    → MatchOption o (NoneMatches key (d ∷ ds)) (IsFirstMatch key (d ∷ ds))) [
      | None ↦ λ none. (other, none)
      | Some x ↦ λ m. record {
        before = d ∷ m.before;
        label = m.label;
        after = m.after;
        stands = ap (λ l. d ∷ l) m.stands;
        matches =
            m.matches;
        first = (other, m.first);
      }
    ] found

pub finds_first_match : FindsFirstMatch
finds_first_match key [] = tt
finds_first_match key (d ∷ ds) =
    elim (cases_Bool (has_folding (case_folding key) d)) as
    (λ _. MatchOption (find_definition key (d ∷ ds)) (NoneMatches key (d ∷ ds))
    (IsFirstMatch key (d ∷ ds))) [
      | inl hit ↦ rw hit (record {
        before = [];
        label = d.0;
        after = ds;
        stands = refl;
        matches = match_of_folding key (text_of d.0)
            ((bytes_eq-Decides _ _).0 hit);
        first = tt;
      })
      | inr miss ↦ rw miss (later_match key d ds (λ same. let clash : true
          ≡ false = sym ((bytes_eq-Decides _ _).1 (folding_of_match key (text_of d.0) same)) ∙ miss in cc)
          (finds_first_match key ds))
    ]

-- the test returns whether two texts match
pub tests_matching : TestsMatching
tests_matching a b = (
  λ passes. match_of_folding a b ((bytes_eq-Decides _ _).0 passes),
  λ same. (bytes_eq-Decides _ _).1 (folding_of_match a b same),
)

-- a fact about one of the elements, weakened
any_map : {X : Type 0} (P Q : X → Type 0) (xs : List X) → ((x : X) → P x → Q x) → Any P xs → Any Q xs
any_map P Q xs f here = (here.0, here.1, here.2, here.3, f here.1 here.4)

pub finds_named : FindsNamed
finds_named names name =
    elim (cases_Bool (list_any (λ n. is_match (text_of n) name) names)) as
    (λ _. MatchOption (unused_at names name) (IsAmongNames names name
    → ⊥) (λ found. (found ≡ unused) × IsAmongNames names name)) [
      | inl there ↦ rw there
          (refl, any_map _ _ names (λ n. (tests_matching (text_of n) name).0) (Any-from_list_any _ names there))
      | inr absent ↦
          rw absent (λ among.
          let there = list_any-from_Any (λ n. is_match (text_of n) name) names
          (any_map _ _ names (λ n. (tests_matching (text_of n) name).1)
          among) in
          let clash : true ≡ false = sym there ∙ absent in
          cc)
    ]

pub matching_names_agree : MatchingNamesAgree
matching_names_agree a b footnotes same =
    ap (λ folded. get_by_text footnotes.by_folding (encode_utf8_all folded)) (folding_of_match a b same)
