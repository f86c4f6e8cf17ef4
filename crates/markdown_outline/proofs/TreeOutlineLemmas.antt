-- The outline of the events of trees has the entries of their headings, where none of these contains another.
use Rattle.std.proofs.Common.{◌≡◌, ℕ, Bool, true, false, List, [], ◌∷◌, ◌++◌, map, Option, Some, None, refl, sym, ap}
use Rattle.std.proofs.Common.{◌∙◌, append_assoc, append-nil}
use Rattle.std.specs.Prelude.{IsTrue, is_some, not, if◌then◌else◌}
use Rattle.std.specs.declared.ops.Range.{Range}
use Rattle.std.proofs.lemmas.List.{map-append}
use Rattle.markdown_base.specs.Event.{EventView, HeadingView, start, end, tag_end, TagView, heading}
use Rattle.markdown_base.specs.Forest.{Forest, nil, node, Throughout, Each}
use Rattle.markdown_document.specs.Document.{Origin, Shape, leaf, enclosed, plain, backslash_break, unresolved}
use Rattle.markdown_document.specs.Document.{TreeNode}
use Rattle.markdown_inline.specs.Balanced.{ranged}
use Rattle.markdown_inline.specs.Elements.{Placed}
use Rattle.markdown_inline.specs.TreeReading.{GivesBoth, IsLone, events_in, tree_events}
use Rattle.markdown_outline.specs.Outline.{Ranged, EntryView, tag_heading, opened_heading, is_heading, ends_heading}
use Rattle.markdown_outline.specs.Outline.{joined_text, up_to_end, opened_entry, entries_from, entries_of}
use Rattle.markdown_outline.specs.TreeOutline.{tree_heading, own_entry, tree_entries}

-- a tree is no heading
abbrev pub not_heading : Shape → Bool
not_heading shape = not (is_some (tree_heading shape))

-- none of these trees is a heading, at any depth
abbrev pub NoHeading : {A : Type 0} → Forest (TreeNode A) → Type 0
NoHeading {A} f = Each (λ (a : TreeNode A). not_heading a.part.shape ≡ true) f

-- what is below a tree is read
abbrev pub reads_below : Shape → Bool
reads_below (enclosed tag origins) = true
reads_below plain = true
reads_below other = false

-- a heading contains no other, nor is there one where it is not read
pub record Apart {A : Type 0} (a : TreeNode A) (below : Forest (TreeNode A)) : Type 0 where
  pub in_heading : not_heading a.part.shape ≡ false → NoHeading below
  pub unread : reads_below a.part.shape ≡ false → NoHeading below

abbrev pub AllApart : {A : Type 0} → Forest (TreeNode A) → Type 0
AllApart {A} f = Throughout (λ (a : TreeNode A) (below after : Forest (TreeNode A)). Apart a below) f

-- each Start and its End are of one tree
abbrev pub AllGiveBoth : {A : Type 0} → Forest (TreeNode A) → Type 0
AllGiveBoth {A} f = Each (λ (a : TreeNode A). GivesBoth a.part.shape) f

-- what is not a heading is none
none_there : (o : Option HeadingView) → not (is_some o) ≡ true → o ≡ None
none_there None h = refl
none_there (Some l) h = cc h

-- the End of a heading ends one, and no other End does
ends_one : (tag : TagView) (l : HeadingView) → tag_heading tag ≡ Some l → is_heading (tag_end tag) ≡ true
ends_one (heading h) l e = refl
ends_one other l e = cc e

ends_none : (tag : TagView) → tag_heading tag ≡ None → is_heading (tag_end tag) ≡ false
ends_none (heading h) e = cc e
ends_none other e = refl

-- an event that is neither a Start nor an End begins and ends no heading
lone_ends_none : (e : EventView) → IsLone e → ends_heading e ≡ false
lone_ends_none (start tag) h = absurd h
lone_ends_none (end tag) h = absurd h
lone_ends_none other h = refl

lone_opens_none : (e : EventView) → IsLone e → opened_heading e ≡ None
lone_opens_none (start tag) h = absurd h
lone_opens_none (end tag) h = absurd h
lone_opens_none other h = refl

-- events after others, and then more
parted : (first others : List Placed) (rest : List Ranged) → ranged (first ++ others) ++ rest
    ≡ ranged first ++ (ranged others ++ rest)
parted first others rest =
    ap (λ (es : List Ranged). es ++ rest) (map-append (λ (e : Placed). (e.0, e.1)) first others)
    ∙ append_assoc (ranged first) (ranged others) rest

-- what is read up to the first End of a heading continues after these events
abbrev Stays : List Placed → Type 0
Stays events = (rest : List Ranged) → up_to_end (ranged events ++ rest) ≡ ranged events ++ up_to_end rest

-- and nothing among them opens an entry inside a heading, or leaves it
abbrev Silent : List Placed → Type 0
Silent events = (rest : List Ranged) → entries_from true (ranged events ++ rest) ≡ entries_from true rest

tree_stays : (shape : Shape) (range : Range ℕ) (inside after : List Placed) → not_heading shape ≡ true → GivesBoth shape
    → Stays inside → Stays after → Stays (tree_events shape range inside after)
tree_stays (leaf e origins) range inside after n g i l rest = rw (lone_ends_none e g, l rest) refl
tree_stays (enclosed tag origins) range inside after n g i l rest =
    let close : Placed = (end (tag_end tag), range, []) in
    let none = ends_none tag (none_there (tag_heading tag) n) in
    let goes_on : up_to_end ((end (tag_end tag), range) ∷ (ranged after ++ rest))
    ≡ (end (tag_end tag), range) ∷ (ranged after ++ up_to_end rest) = rw (none, l rest) refl in
    ap (λ (es : List Ranged). (start tag, range) ∷ es)
    (ap up_to_end (parted inside (close ∷ after) rest) ∙ i ((end (tag_end tag), range) ∷ (ranged after ++ rest))
    ∙ ap (λ (es : List Ranged). ranged inside ++ es) goes_on ∙ sym (parted inside (close ∷ after) (up_to_end rest)))
tree_stays plain range inside after n g i l rest =
    ap up_to_end (parted inside after rest) ∙ i (ranged after ++ rest) ∙ ap (λ (es : List Ranged). ranged inside ++ es)
    (l rest)
    ∙ sym (parted inside after (up_to_end rest))
tree_stays backslash_break range inside after n g i l rest = rw (l rest) refl
tree_stays (unresolved b) range inside after n g i l rest = l rest

tree_silent : (shape : Shape) (range : Range ℕ) (inside after : List Placed) → not_heading shape ≡ true
    → GivesBoth shape
    → Silent inside → Silent after → Silent (tree_events shape range inside after)
tree_silent (leaf e origins) range inside after n g i l rest = rw (entries_from, lone_ends_none e g) (l rest)
tree_silent (enclosed tag origins) range inside after n g i l rest =
    let close : Placed = (end (tag_end tag), range, []) in
    let none = ends_none tag (none_there (tag_heading tag) n) in
    let goes_on : entries_from true ((end (tag_end tag), range) ∷ (ranged after ++ rest))
    ≡ entries_from true rest = rw (entries_from, none) (l rest) in
    ap (entries_from true) (parted inside (close ∷ after) rest)
    ∙ i ((end (tag_end tag), range) ∷ (ranged after ++ rest)) ∙ goes_on
tree_silent plain range inside after n g i l rest =
    ap (entries_from true) (parted inside after rest) ∙ i (ranged after ++ rest) ∙ l rest
tree_silent backslash_break range inside after n g i l rest = l rest
tree_silent (unresolved b) range inside after n g i l rest = l rest

-- so it is of trees among which no heading is
trees_stay : {A : Type 0} (f : Forest (TreeNode A)) → NoHeading f → AllGiveBoth f → Stays (events_in f)
trees_stay nil n g rest = refl
trees_stay (node a below after) n g rest =
    tree_stays a.part.shape a.part.range (events_in below) (events_in after) n.0 g.0 (trees_stay below n.1 g.1)
    (trees_stay after n.2 g.2)
    rest

trees_silent : {A : Type 0} (f : Forest (TreeNode A)) → NoHeading f → AllGiveBoth f → Silent (events_in f)
trees_silent nil n g rest = refl
trees_silent (node a below after) n g rest =
    tree_silent a.part.shape a.part.range (events_in below) (events_in after) n.0 g.0 (trees_silent below n.1 g.1)
    (trees_silent after n.2 g.2) rest

-- and they have no entries
no_entries : {A : Type 0} (f : Forest (TreeNode A)) → NoHeading f → tree_entries f ≡ []
no_entries nil n = refl
no_entries (node a below after) n =
    rw (none_there (tree_heading a.part.shape) n.0, no_entries below n.1, no_entries after n.2) refl

-- outside of headings these events have these entries
abbrev Have : List Placed → List EntryView → Type 0
Have events entries = (rest : List Ranged) → entries_from false (ranged events ++ rest)
    ≡ entries ++ entries_from false rest

-- what is below a tree has its entries, and where no heading is below it its events are within one
record BelowHas {A : Type 0} (below : Forest (TreeNode A)) : Type 0 where
  entries : Have (events_in below) (tree_entries below)
  stays : NoHeading below → Stays (events_in below)
  silent : NoHeading below → Silent (events_in below)

-- a Start and an End with what is between them, by the heading that they are, if they are one
enclosed_has : {A : Type 0} (tag : TagView) (origins : List Origin) (o : Option HeadingView) (range : Range ℕ)
    (below : Forest (TreeNode A)) (after : List Placed)
    (others : List EntryView) → tag_heading tag ≡ o → (is_some o ≡ true → NoHeading below) → BelowHas below
    → Have after others
    → Have (tree_events (enclosed tag origins) range (events_in below) after)
    (own_entry o range below ++ (tree_entries below ++ others))
enclosed_has tag origins None range below after others t n b l rest =
    let close : Placed = (end (tag_end tag), range, []) in
    let outside : entries_from false (ranged (events_in below ++ close ∷ after) ++ rest)
    ≡ (tree_entries below ++ others) ++ entries_from false rest =
    ap (entries_from false) (parted (events_in below) (close ∷ after) rest)
    ∙ b.entries ((end (tag_end tag), range) ∷ (ranged after ++ rest))
    ∙ ap (λ (es : List EntryView). tree_entries below ++ es) (l rest)
    ∙ sym (append_assoc (tree_entries below) others (entries_from false rest)) in
    rw t outside
enclosed_has tag origins (Some h) range below after others t n b l rest =
    let close : Placed = (end (tag_end tag), range, []) in
    let later : List Ranged = ranged after ++ rest in
    let one = ends_one tag h t in
    let stops : up_to_end ((end (tag_end tag), range) ∷ later) ≡ [] = rw one refl in
    let leaves : entries_from true ((end (tag_end tag), range) ∷ later)
    ≡ entries_from false later = rw (entries_from, one) refl in
    let within : up_to_end (ranged (events_in below ++ close ∷ after) ++ rest) ≡ ranged (events_in below) =
    ap up_to_end (parted (events_in below) (close ∷ after) rest) ∙ b.stays (n refl) ((end (tag_end tag), range) ∷ later)
    ∙ ap (λ (es : List Ranged). ranged (events_in below) ++ es) stops ∙ append-nil (ranged (events_in below)) in
    let beyond : entries_from true (ranged (events_in below ++ close ∷ after) ++ rest)
    ≡ others ++ entries_from false rest =
    ap (entries_from true) (parted (events_in below) (close ∷ after) rest)
    ∙ b.silent (n refl) ((end (tag_end tag), range) ∷ later)
    ∙ leaves ∙ l rest in
    rw (t, within, beyond, no_entries below (n refl)) refl

-- a tree of whatever shape
tree_has : {A : Type 0} (shape : Shape) (range : Range ℕ) (below : Forest (TreeNode A)) (after : List Placed)
    (others : List EntryView)
    → GivesBoth shape → (not_heading shape ≡ false → NoHeading below) → (reads_below shape ≡ false → NoHeading below)
    → BelowHas below
    → Have after others
    → Have (tree_events shape range (events_in below) after)
    (own_entry (tree_heading shape) range below ++ (tree_entries below ++ others))
tree_has (leaf e origins) range below after others g n u b l rest = rw (lone_opens_none e g, no_entries below (u refl))
    (l rest)
tree_has (enclosed tag origins) range below after others g n u b l rest =
    enclosed_has tag origins (tag_heading tag) range below after others refl (λ h. n (rw h refl)) b l rest
tree_has plain range below after others g n u b l rest =
    ap (entries_from false) (parted (events_in below) after rest) ∙ b.entries (ranged after ++ rest)
    ∙ ap (λ (es : List EntryView). tree_entries below ++ es) (l rest)
    ∙ sym (append_assoc (tree_entries below) others (entries_from false rest))
tree_has backslash_break range below after others g n u b l rest = rw (no_entries below (u refl)) (l rest)
tree_has (unresolved b') range below after others g n u b l rest = rw (no_entries below (u refl)) (l rest)

-- trees whose headings are apart
trees_have : {A : Type 0} (f : Forest (TreeNode A)) → AllApart f → AllGiveBoth f → Have (events_in f) (tree_entries f)
trees_have nil p g rest = refl
trees_have (node a below after) p g rest =
    tree_has a.part.shape a.part.range below (events_in after) (tree_entries after) g.0 p.0.in_heading p.0.unread
    (record {
      entries = trees_have below p.1 g.1;
      stays = λ n. trees_stay below n g.1;
      silent = λ n. trees_silent below n g.1;
    }) (trees_have after p.2 g.2) rest

-- all of their events
pub outline_of_trees : {A : Type 0} (f : Forest (TreeNode A)) → AllApart f → AllGiveBoth f
    → entries_of (ranged (events_in f)) ≡ tree_entries f
outline_of_trees f p g =
    ap (entries_from false) (sym (append-nil (ranged (events_in f))))
    ∙ (trees_have f p g [] ∙ append-nil (tree_entries f))
