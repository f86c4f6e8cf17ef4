-- What the adapter has read of a heading. Only private clauses cite this.
use Rattle.std.specs.Prelude.{◌≡◌, ℕ, Bool, true, false, List, [], ◌∷◌, ◌++◌, Ok, Err, map, Option}
use Rattle.markdown_heading_ids.specs.HeadingIds.{Id, with_given}
use Rattle.markdown_heading_ids.specs.HeadingIdsNext.{CallsSource, IdsState, SourceItem, items_to_come, item_seen}
use Rattle.markdown_heading_ids.specs.HeadingIdsNext.{unless_over}
use Rattle.markdown_heading_ids.specs.HeadingItems.{RangedItem, items_with_ids, until_error}
use Rattle.markdown_heading_ids.specs.TakenIds.{StandsFor}
use Rattle.markdown_outline.specs.Outline.{Ranged, ends_heading, joined_text, text_added, up_to_end}

-- whether a heading ends with an item
abbrev pub ends_with : RangedItem → Bool
ends_with (Ok e) = ends_heading e.0
ends_with (Err fault) = true

-- what an item adds to the text of a heading
abbrev pub words_added : RangedItem → List ℕ
words_added (Ok e) = text_added e.0
words_added (Err fault) = []

-- the text of a heading, from the items after its Start
abbrev pub heading_words : List RangedItem → List ℕ
heading_words items = joined_text (up_to_end (until_error items))

module _ {S : Type 0} (steps : S → Option SourceItem → S → Type 0) where
  -- these items were read after the Start of a heading, up to its end; whatever follows, this is its text, and the next
  -- item is outside
  pub record HeadingIsRead (s : S) (items : List SourceItem) (words : List ℕ) (over : Bool) (t : S) : Type 0 where
    pub read : CallsSource steps false over s items t
    pub words_are : (later : List RangedItem) → heading_words (map item_seen items ++ unless_over over later) ≡ words
    pub passes : (taken : List Id) (later : List RangedItem)
        → items_with_ids true taken (map item_seen items ++ unless_over over later)
        ≡ map item_seen items ++ items_with_ids false taken (unless_over over later)

  -- where these ids are taken, and whatever items follow, this event is to be given these ids, and then comes what is
  -- to come now
  pub record GivesIdsTo (s : IdsState S) (e : Ranged) (ids : List Id) (read : List SourceItem) (t : IdsState S)
      (taken : List Id) : Type 0 where
    pub after : List Id
    pub stands : StandsFor t.taken after
    pub gives : (later : List RangedItem)
        → items_with_ids s.inside taken (Ok e ∷ (map item_seen read ++ unless_over t.over later))
        ≡ Ok (with_given ids e) ∷ items_to_come t after later

  -- an event was read, and the items that its id depends on
  pub record TakesEvent (s : IdsState S) (e : Ranged) (ids : List Id) (t : IdsState S) : Type 0 where
    pub items : List SourceItem
    pub read : CallsSource steps false t.over s.iter items t.iter
    pub leaves : (taken : List Id) → StandsFor s.taken taken → GivesIdsTo s e ids items t taken
