-- What the groups of bytes say, one after another.
use Rattle.std.proofs.Common.{◌≡◌, ℕ, suc, arith, true, false, ◌==◌, if◌then◌else◌, List, [], ◌∷◌, length, refl, sym}
use Rattle.std.proofs.Common.{ap, ◌∙◌, inl, inr, ⊎_elim, Option, None, Some, is_some}
use Rattle.std.proofs.lemmas.Bool.{false≢true, ne_eqb}
use Rattle.std.specs.Option.{option_map}
use Rattle.markdown_records.specs.Decoded as whole
use Rattle.markdown_records.specs.Decoded.{each_of, grouped, said_by, then_option}
use Rattle.markdown_records.specs.GroupOf.{IsFirstGroup, IsWhole, group_view, groups_of}
use Rattle.markdown_records.specs.RecordView.{RecordView, records_in}
use Rattle.markdown_records.specs.RecordEntry.{Contents, RecordEntry, LabelledView}
use Rattle.markdown_records.specs.ReadResult.{IsNotRead}
use Rattle.markdown_records.specs.SaidBy.{contents_or_none, said_contents, said_definitions, said_entries}
use Rattle.markdown_records.specs.declared.fault.RecordFault.{RecordFault}
use Rattle.markdown_records.specs.declared.groups.Group.{Group}

-- nothing is there
pub none_there : {A : Type 0} (o : Option A) → is_some o ≡ false → o ≡ None
none_there None e = refl
none_there (Some a) e = absurd (cc)

pub is_none_there : {A : Type 0} (o : Option A) → o ≡ None → is_some o ≡ false
is_none_there o e = rw e refl

module _ {A : Type 0} (source pool : List ℕ) (read : whole.Group → Option A) where
  -- bytes that do not begin with a part say what their groups say
  said_groups : (bytes : List ℕ) → IsWhole bytes
      → said_by source pool read (records_in bytes) ≡ each_of read (groups_of bytes)
  said_groups bytes is = rw is refl

  -- bytes that say something do not begin with a part
  pub said_whole : (bytes : List ℕ) → is_some (said_by source pool read (records_in bytes)) ≡ true → IsWhole bytes
  said_whole bytes is = first (grouped (records_in bytes)) is
    where
      first : (g : List RecordView × List whole.Group)
          → is_some (if length g.0 == 0 then each_of read g.1 else None) ≡ true → g.0 ≡ []
      first ([], groups) e = refl
      first (r ∷ rs, groups) e = absurd (false≢true (rw (ne_eqb (suc (length rs)) 0 (omega arith)) at e))

  pub said_not_whole : (bytes : List ℕ) → (length (grouped (records_in bytes)).0 == 0) ≡ false
      → said_by source pool read (records_in bytes) ≡ None
  said_not_whole bytes is = rw is refl

  pub said_end : (bytes : List ℕ) → IsWhole bytes → groups_of bytes ≡ []
      → said_by source pool read (records_in bytes) ≡ Some []
  said_end bytes is none = said_groups bytes is ∙ rw none refl

  pub said_first : {bytes rest : List ℕ} {g : Group} (v : A) → IsWhole bytes → IsFirstGroup bytes g rest
      → read (group_view g) ≡ Some v
      → said_by source pool read (records_in bytes) ≡ option_map (λ vs. v ∷ vs)
      (said_by source pool read (records_in rest))
  said_first {bytes} {rest} {g} v is first e =
      said_groups bytes is ∙ rw (first.groups, e, said_groups rest first.whole) refl

  pub said_wrong : {bytes rest : List ℕ} {g : Group} → IsWhole bytes → IsFirstGroup bytes g rest
      → read (group_view g) ≡ None → said_by source pool read (records_in bytes) ≡ None
  said_wrong {bytes} {rest} {g} is first e = said_groups bytes is ∙ rw (first.groups, e) refl

  pub said_more : {bytes rest : List ℕ} {g : Group} → IsWhole bytes → IsFirstGroup bytes g rest
      → is_some (read (group_view g)) ≡ true
      → is_some (said_by source pool read (records_in bytes)) ≡ is_some (said_by source pool read (records_in rest))
  said_more {bytes} {rest} {g} is first e = by_value (read (group_view g)) refl e
    where
      kept : (v : A) (vs : Option (List A)) → is_some (option_map (λ (l : List A). v ∷ l) vs) ≡ is_some vs
      kept v None = refl
      kept v (Some l) = refl

      by_value : (o : Option A) → read (group_view g) ≡ o → is_some o ≡ true
          → is_some (said_by source pool read (records_in bytes)) ≡ is_some (said_by source pool read (records_in rest))
      by_value None is_that there = absurd (cc)
      by_value (Some v) is_that there =
          ap (λ (o : Option (List A)). is_some o) (said_first v is first is_that)
          ∙ kept v (said_by source pool read (records_in rest))

  -- where a group cannot be read, nothing is said
  pub said_refused : (all : List ℕ) {bytes rest : List ℕ} {g : Group} {fault : RecordFault}
      → is_some (said_by source pool read (records_in all)) ≡ is_some (said_by source pool read (records_in bytes))
      → IsWhole bytes → IsFirstGroup bytes g rest → IsNotRead (read (group_view g)) fault
      → IsNotRead (said_by source pool read (records_in all)) fault
  said_refused all same is first why =
      ⊎_elim (λ no. inl (no.0, none_there _ (same ∙ is_none_there _ (said_wrong is first no.1)))) (λ memory. inr memory)
      why

  -- what the first group says, and the others
  pub record FirstSaid (bytes rest : List ℕ) (g : Group) : Type 0 where
    pub first : A
    pub is : read (group_view g) ≡ Some first
    pub all : said_by source pool read (records_in bytes)
        ≡ option_map (λ vs. first ∷ vs) (said_by source pool read (records_in rest))
    pub on : is_some (said_by source pool read (records_in rest)) ≡ true

  pub first_said : {bytes rest : List ℕ} {g : Group} → is_some (said_by source pool read (records_in bytes)) ≡ true
      → IsFirstGroup bytes g rest → FirstSaid bytes rest g
  first_said {bytes} {rest} {g} there first = by_value (read (group_view g)) refl
    where
      by_value : (o : Option A) → read (group_view g) ≡ o → FirstSaid bytes rest g
      by_value None is =
          absurd (false≢true (sym (is_none_there _ (said_wrong (said_whole bytes there) first is)) ∙ there))
      by_value (Some v) is = record {
        first = v;
        is = is;
        all = said_first v (said_whole bytes there) first is;
        on = sym (said_more (said_whole bytes there) first (ap (λ (o : Option A). is_some o) is)) ∙ there;
      }

-- contents of which one part says nothing
pub contents_without_entries : (source pool entries definitions : List ℕ) → said_entries source pool entries ≡ None
    → said_contents source pool entries definitions ≡ None
contents_without_entries source pool entries definitions none = rw none refl

pub contents_without_definitions : (source pool entries definitions : List ℕ)
    → said_definitions source pool definitions ≡ None → said_contents source pool entries definitions ≡ None
contents_without_definitions source pool entries definitions none =
    rw none (by_entries (said_entries source pool entries))
  where
    by_entries : (es : Option (List RecordEntry))
        → then_option {B = Contents} es (λ e. None) ≡ None
    by_entries None = refl
    by_entries (Some es) = refl

-- contents of which both parts say something
pub contents_with_both : (source pool entries definitions : List ℕ) → is_some (said_entries source pool entries) ≡ true
    → is_some (said_definitions source pool definitions) ≡ true
    → is_some (said_contents source pool entries definitions) ≡ true
contents_with_both source pool entries definitions first last =
    by_both (said_entries source pool entries) (said_definitions source pool definitions) first last
  where
    by_both : (es : Option (List RecordEntry)) (ds : Option (List LabelledView)) → is_some es ≡ true → is_some ds ≡ true
        → is_some {T = Contents} (then_option es (λ (e : List RecordEntry). option_map
        (λ (d : List LabelledView). record { entries = e; definitions = d }) ds)) ≡ true
    by_both None ds e d = absurd (cc)
    by_both (Some es) None e d = absurd (cc)
    by_both (Some es) (Some ds) e d = refl

pub contents_there : (o : Option Contents) → is_some o ≡ true → o ≡ Some (contents_or_none o)
contents_there None e = absurd (cc)
contents_there (Some c) e = refl
