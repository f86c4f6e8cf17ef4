-- After a `[` that can still become a link there is no link: so no link is enclosed in one.
use Rattle.std.proofs.Common.{◌≡◌, ℕ, ◌-◌, Bool, true, false, not, ◌&&◌, ◌||◌, List, [], ◌∷◌, ◌++◌, Option, Some, None}
use Rattle.std.proofs.Common.{refl, sym, subst, ⊎_elim, nat_le}
use Rattle.std.specs.Prelude.{⊤, IfSome, if◌then◌else◌}
use Rattle.std.specs.Option.{option_map, option_and_then}
use Rattle.markdown_base.specs.Event.{LinkView, link, image}
use Rattle.markdown_base.specs.Forest.{Forest, nil, node}
use Rattle.markdown_document.specs.Document.{Origin, Shape, enclosed, TreeNode}
use Rattle.markdown_document.specs.Setting.{ReferenceState}
use Rattle.markdown_document.specs.ChainRest.{begun_at, past_byte, cut_shape, start_of}
use Rattle.markdown_brackets.specs.BracketDecision.{BracketContext, Closing, Progress, Wikilink, over, text_from}
use Rattle.markdown_brackets.specs.BracketDecision.{wikilink_in, wikilink_by, shown_children, if_some, past_second}
use Rattle.markdown_brackets.specs.ClosingBracket.{footnote_onto, wikilink_target, closed}
use Rattle.markdown_brackets.specs.LeftList.{Flag, gone, OpenerState, Entry, done, waits, is_live, trees_onto, Split}
use Rattle.markdown_brackets.specs.LeftList.{inside, nearest, opens_bracket, opens_wikilink, without_bracket}
use Rattle.markdown_brackets.specs.LeftList.{without_wikilink, on_states, disabled_flag, disabled_state, second_folded}
use Rattle.markdown_brackets.specs.LeftList.{before_link, before_wikilink, before_footnote}
use Rattle.markdown_brackets.proofs.ClosingBracketLemmas.{Cases, in_each_case, some_of}
use Rattle.markdown_brackets.specs.NoLinkInLink.{IsNoLink, IsFreeOfLinks, ClosesOverNone, HasNoneBelow, HasNoLinkInLink}
use Rattle.markdown_brackets.specs.NoLinkInLink.{AreFreeTrees, HasMoreTrees}
use Rattle.markdown_brackets.specs.ReadChain.{Reader, begun, closing_of, read_chain}
use Rattle.markdown_brackets.specs.Wikilink.{WikilinkBody, Shows, shows_name, shows_nothing, shows_from, has_pothole}
use Rattle.markdown_brackets.specs.Wikilink.{wikilink_body}
use Rattle.markdown_brackets.proofs.LeftListLemmas.{Marked, same_change, same_marks, same_before_link}
use Rattle.markdown_brackets.proofs.LeftListLemmas.{same_before_wikilink, same_before_footnote, split_at}
use Rattle.markdown_brackets.proofs.ReadChainLemmas.{Reads, chain_keeps}
use Rattle.std.proofs.lemmas.Bool.{or_cases, or_left, or_right}

-- a `[` that may still become a link
abbrev is_live_link : OpenerState → Bool
is_live_link m = not m.is_image && (is_live m.bracket || is_live m.wikilink)

abbrev any_live : {A : Type 0} → List (Entry A) → Bool
any_live [] = false
any_live (done a below ∷ left) = any_live left
any_live (waits m a ∷ left) = is_live_link m || any_live left

-- a change of openers that makes none live
abbrev Lowers : (OpenerState → OpenerState) → Type 0
Lowers f = (m : OpenerState) → is_live_link (f m) ≡ true → is_live_link m ≡ true

lowers_flags : (i b w b' w' : Bool) → (b' ≡ true → b ≡ true) → (w' ≡ true → w ≡ true) → (not i && (b' || w')) ≡ true
    → (not i && (b || w)) ≡ true
lowers_flags true b w b' w' p q h = h
lowers_flags false b w b' w' p q h = ⊎_elim (λ e. or_left b w (p e)) (λ e. or_right b w (q e)) (or_cases b' w' h)

lowers_bracket : Lowers without_bracket
lowers_bracket m h = lowers_flags m.is_image (is_live m.bracket) (is_live m.wikilink) false (is_live m.wikilink)
    (λ e. cc) (λ e. e) h

lowers_wikilink : Lowers without_wikilink
lowers_wikilink m h = lowers_flags m.is_image (is_live m.bracket) (is_live m.wikilink) (is_live m.bracket) false
    (λ e. e) (λ e. cc) h

disabled_is_dead : (f : Flag) → is_live (disabled_flag f) ≡ false
disabled_is_dead gone = refl
disabled_is_dead other = refl

mark_is_dead : (m : OpenerState) → is_live_link (disabled_state m) ≡ false
mark_is_dead m = by m.is_image m.bracket m.wikilink
  where
    flags : (b w : Flag) → (is_live (disabled_flag b) || is_live (disabled_flag w)) ≡ false
    flags gone w = disabled_is_dead w
    flags other w = disabled_is_dead w

    by : (i : Bool) (b w : Flag) → is_live_link (disabled_state (record { is_image = i; bracket = b; wikilink = w }))
        ≡ false
    by true b w = refl
    by false b w = flags b w

none_live : {A : Type 0} (left : List (Entry A)) → any_live (on_states disabled_state left) ≡ false
none_live [] = refl
none_live (done a below ∷ left) = none_live left
none_live (waits m a ∷ left) = rw (mark_is_dead m) (none_live left)

lowers_disabled : Lowers disabled_state
lowers_disabled m h = let e = mark_is_dead m in cc

-- an opener that may become a link is live
live_if : (i b w : Bool) → i ≡ false → b ≡ true → (not i && (b || w)) ≡ true
live_if i b w e h = rw (e, h) refl

live_wikilink_if : (i b w : Bool) → i ≡ false → w ≡ true → (not i && (b || w)) ≡ true
live_wikilink_if i b w e h = rw (e, h) (or_right b true refl)

-- trees from a byte on
pub from_keeps : {A : Type 0} (p : Forest (TreeNode A) → Type 0)
    → ((i : ℕ) (a : TreeNode A) (below after : Forest (TreeNode A)) → p (node a below after)
    → p (node (begun_at i a) below after) × p after)
    → (i : ℕ) (f : Forest (TreeNode A)) → p f → p (past_byte i f)
from_keeps p on i nil h = h
from_keeps p on i (node a below after) h =
    let r = on i a below after h in by (nat_le a.part.range.end i) r.0 (from_keeps p on i after r.1)
  where
    by : (b : Bool) → p (node (begun_at i a) below after) → p (past_byte i after)
        → p (if b then past_byte i after else node (begun_at i a) below after)
    by true here more = more
    by false here more = here

-- a fact of the trees that a wikilink shows: it holds of one Text, and of the trees from a byte on
if_some_keeps : {A : Type 0} (p : Forest (TreeNode A) → Type 0) (f : Forest (TreeNode A)) → p f → IfSome (if_some f) p
if_some_keeps p nil h = tt
if_some_keeps p (node a below after) h = h

module _ {A : Type 0} (w : BracketContext) (p : Forest (TreeNode A) → Type 0)
    (texts : (a : TreeNode A) (i j : ℕ) → p (node (text_from w a i j) nil nil))
    (from : (i : ℕ) (f : Forest (TreeNode A)) → p f → p (past_byte i f)) where
  shown_keeps : (first : TreeNode A) (trees : Forest (TreeNode A)) (end : ℕ) (shows : Shows) → p trees
      → IfSome (shown_children w first trees end shows) p
  shown_keeps first trees end shows_name h = texts first (start_of first) end
  shown_keeps first trees end (shows_nothing at) h = texts first at at
  shown_keeps first trees end (shows_from at) h = if_some_keeps p (past_byte at trees) (from at trees h)

  named_keeps : (first : TreeNode A) (trees : Forest (TreeNode A)) (end : ℕ) (b : WikilinkBody) → p trees
      → IfSome (wikilink_by w first trees end b) (λ found. p found.children)
  named_keeps first trees end b h = by (shown_children w first trees end b.shows)
      (shown_keeps first trees end b.shows h)
    where
      by : (o : Option (Forest (TreeNode A))) → IfSome o p
          → IfSome (option_map (λ children. record
          { name = b.name; has_pothole = has_pothole b.shows; children = children }) o)
          (λ (found : Wikilink A). p found.children)
      by None k = tt
      by (Some f) k = k

  pub wikilink_keeps : (trees : Forest (TreeNode A)) (end : ℕ) → p trees
      → IfSome (wikilink_in w trees end) (λ found. p found.children)
  wikilink_keeps nil end h = tt
  wikilink_keeps (node first below after) end h = by
      (wikilink_body w.setting.text w.above.block_end (start_of first) end)
    where
      by : (o : Option WikilinkBody) → IfSome (option_and_then (wikilink_by w first (node first below after) end) o)
          (λ found. p found.children)
      by None = tt
      by (Some b) = named_keeps first (node first below after) end b h

-- the same with or without addresses
module _ (addresses : Bool) where
  abbrev IsFree : {A : Type 0} → Entry A → Type 0
  IsFree (done a below) = IsNoLink addresses a.part.shape × IsFreeOfLinks addresses below
  IsFree (waits m a) = IsNoLink addresses a.part.shape

  abbrev IsWell : {A : Type 0} → Entry A → Type 0
  IsWell (done a below) = HasNoneBelow addresses a.part.shape below × HasNoLinkInLink addresses below
  IsWell {A} (waits m a) = HasNoneBelow {A = A} addresses a.part.shape nil

  abbrev AllFree : {A : Type 0} → List (Entry A) → Type 0
  AllFree [] = ⊤
  AllFree (e ∷ left) = IsFree e × AllFree left

  abbrev AllWell : {A : Type 0} → List (Entry A) → Type 0
  AllWell [] = ⊤
  AllWell (e ∷ left) = IsWell e × AllWell left

  -- what follows a live `[` contains no links
  abbrev IsSound : {A : Type 0} → List (Entry A) → Type 0
  IsSound [] = ⊤
  IsSound (e ∷ left) = (any_live left ≡ true → IsFree e) × IsWell e × IsSound left

  free_onto : {A : Type 0} (left : List (Entry A)) (later : Forest (TreeNode A)) → AllFree left
      → IsFreeOfLinks addresses later
      → IsFreeOfLinks addresses (trees_onto left later)
  free_onto [] later h k = k
  free_onto (done a below ∷ left) later h k = free_onto left (node a below later) h.1 (h.0.0, h.0.1, k)
  free_onto (waits m a ∷ left) later h k = free_onto left (node a nil later) h.1 (h.0, tt, k)

  well_onto : {A : Type 0} (left : List (Entry A)) (later : Forest (TreeNode A)) → AllWell left
      → HasNoLinkInLink addresses later
      → HasNoLinkInLink addresses (trees_onto left later)
  well_onto [] later h k = k
  well_onto (done a below ∷ left) later h k = well_onto left (node a below later) h.1 (h.0.0, h.0.1, k)
  well_onto (waits m a ∷ left) later h k = well_onto left (node a nil later) h.1 (h.0, tt, k)

  all_well : {A : Type 0} (left : List (Entry A)) → IsSound left → AllWell left
  all_well [] s = tt
  all_well (e ∷ left) s = (s.1, all_well left s.2)

  -- what is free of links has none in a link
  shape_well : {A : Type 0} (shape : Shape) (below : Forest (TreeNode A)) → IsFreeOfLinks addresses below
      → HasNoneBelow addresses shape below
  shape_well (enclosed (link v) origins) below h = h
  shape_well other below h = tt

  free_well : {A : Type 0} (f : Forest (TreeNode A)) → IsFreeOfLinks addresses f → HasNoLinkInLink addresses f
  free_well nil h = tt
  free_well (node a below after) h = (shape_well a.part.shape below h.1, free_well below h.1, free_well after h.2)

  -- an opener, in a sound left list
  record SoundAt {A : Type 0} (m : OpenerState) (a : TreeNode A) (after before : List (Entry A)) : Type 0 where
    sound : IsSound before
    live : (is_live_link m || any_live before) ≡ true → any_live (after ++ waits m a ∷ before) ≡ true
    free : (is_live_link m || any_live before) ≡ true → AllFree after
    well : AllWell after

  sound_split : {A : Type 0} (after before : List (Entry A)) (m : OpenerState) (a : TreeNode A)
      → IsSound (after ++ waits m a ∷ before) → SoundAt m a after before
  sound_split [] before m a s = record { sound = s.2; live = λ q. q; free = λ q. tt; well = tt }
  sound_split (done b below ∷ after) before m a s =
      let r = sound_split after before m a s.2 in
      record { sound = r.sound; live = r.live; free = λ q. (s.0 (r.live q), r.free q); well = (s.1, r.well) }
  sound_split (waits n b ∷ after) before m a s =
      let r = sound_split after before m a s.2 in
      record {
        sound = r.sound;
        live = λ q. or_right (is_live_link n) (any_live (after ++ waits m a ∷ before)) (r.live q);
        free = λ q. (s.0 (r.live q), r.free q);
        well = (s.1, r.well);
      }

  sound_nearest : {A : Type 0} (test : OpenerState → Bool) (left : List (Entry A)) (o : Split A)
      → nearest test left ≡ Some o
      → IsSound left → SoundAt o.state o.opener o.after o.before
  sound_nearest test left o e s =
      sound_split o.after o.before o.state o.opener (subst IsSound (split_at test left o e) s)

  -- what is sound stays sound
  sounds_marked : {A : Type 0} → Marked {A = A} (λ m n. is_live_link n ≡ true → is_live_link m ≡ true)
      (λ left left'. (any_live left' ≡ true → any_live left ≡ true) × (IsSound left → IsSound left'))
  sounds_marked = record {
    equal = λ m h. h;
    bracket = lowers_bracket;
    wikilink = lowers_wikilink;
    disabled = lowers_disabled;
    empty = (λ q. q, λ s. s);
    tree = λ a below left left' h. (h.0, λ s. (λ q. s.0 (h.0 q), s.1, h.1 s.2));
    opener = λ m n a left left' low h. (
      λ q. ⊎_elim (λ e. or_left (is_live_link m) (any_live left) (low e))
          (λ e. or_right (is_live_link m) (any_live left) (h.0 e)) (or_cases (is_live_link n) (any_live left') q),
      λ s. (λ q. s.0 (h.0 q), s.1, h.1 s.2),
    );
    twice = λ one two three h k. (λ q. h.0 (k.0 q), λ s. k.1 (h.1 s));
  }

  -- a link or an image that was found
  link_entry : {A : Type 0} (i : Bool) (a : TreeNode A) (target : LinkView) (titles : List Origin) (start end : ℕ)
      (below : Forest (TreeNode A)) (before : List (Entry A))
      → IsSound before → (i ≡ false → IsFreeOfLinks addresses below)
      → (any_live before ≡ true → IsFreeOfLinks addresses below) → HasNoLinkInLink addresses below
      → IsSound (done (over a (enclosed (if i then image target else link target) titles) start end) below
      ∷ before_link i before)
  link_entry true a target titles start end below before s f g h =
      let marked = same_before_link sounds_marked true before in
      (λ q. (tt, g (marked.0 q)), (tt, h), marked.1 s)
  link_entry false a target titles start end below before s f g h = (
    λ q. absurd (let e = none_live (second_folded before) in cc),
    (f refl, h),
    (same_before_link sounds_marked false before).1 s,
  )

  wikilink_entry : {A : Type 0} (i : Bool) (a : TreeNode A) (target : LinkView) (titles : List Origin) (start end : ℕ)
      (below : Forest (TreeNode A)) (before : List (Entry A))
      → IsSound before → (i ≡ false → IsFreeOfLinks addresses below) → HasNoLinkInLink addresses below
      → IsSound (done (over a (enclosed (if i then image target else link target) titles) start end) below
      ∷ before_wikilink before)
  wikilink_entry i a target titles start end below before s f h = (
    λ q. absurd (let e = none_live before in let d = (same_marks sounds_marked without_wikilink lowers_wikilink
        (on_states disabled_state before)).0 q in cc),
    (well i f, h),
    (same_before_wikilink sounds_marked before).1 s,
  )
    where
      well : (i : Bool) → (i ≡ false → IsFreeOfLinks addresses below)
          → ClosesOverNone addresses (if i then image target else link target) below
      well true f = tt
      well false f = f refl

  -- trees from a byte on
  begun_free : {A : Type 0} (i : ℕ) (a : TreeNode A) → IsNoLink addresses a.part.shape
      → IsNoLink addresses (begun_at i a).part.shape
  begun_free i a h = by (i - a.part.range.start) a.part.shape h
    where
      by : (n : ℕ) (shape : Shape) → IsNoLink addresses shape → IsNoLink addresses (cut_shape n shape)
      by n (enclosed tag origins) h = h
      by n other h = tt

  begun_well : {A : Type 0} (i : ℕ) (a : TreeNode A) (below : Forest (TreeNode A))
      → HasNoneBelow addresses a.part.shape below
      → HasNoneBelow addresses (begun_at i a).part.shape below
  begun_well i a below h = by (i - a.part.range.start) a.part.shape h
    where
      by : (n : ℕ) (shape : Shape) → HasNoneBelow addresses shape below
          → HasNoneBelow addresses (cut_shape n shape) below
      by n (enclosed tag origins) h = h
      by n other h = tt

  free_from : {A : Type 0} (i : ℕ) (f : Forest (TreeNode A)) → IsFreeOfLinks addresses f
      → IsFreeOfLinks addresses (past_byte i f)
  free_from = from_keeps (IsFreeOfLinks addresses) (λ i a below after h. ((begun_free i a h.0, h.1, h.2), h.2))

  well_from : {A : Type 0} (i : ℕ) (f : Forest (TreeNode A)) → HasNoLinkInLink addresses f
      → HasNoLinkInLink addresses (past_byte i f)
  well_from = from_keeps (HasNoLinkInLink addresses) (λ i a below after h. ((begun_well i a below h.0, h.1, h.2), h.2))

  free_past : {A : Type 0} (f : Forest (TreeNode A)) → IsFreeOfLinks addresses f
      → IsFreeOfLinks addresses (past_second f)
  free_past nil h = tt
  free_past (node a below after) h = h.2

  well_past : {A : Type 0} (f : Forest (TreeNode A)) → HasNoLinkInLink addresses f
      → HasNoLinkInLink addresses (past_second f)
  well_past nil h = tt
  well_past (node a below after) h = h.2

  module _ {A : Type 0} (w : BracketContext) (c : Closing A) where
    footnote_entry : (i : Bool) (a : TreeNode A) (name : List ℕ) (before : List (Entry A)) → IsSound before
        → IsSound (footnote_onto w c i a name before)
    footnote_entry true a name before s = (λ q. (tt, tt), (tt, tt), (λ q. (tt, tt), (tt, tt), s))
    footnote_entry false a name before s = (λ q. (tt, tt), (tt, tt), s)

    sound_cases : Cases w c IsSound IsSound
    sound_cases = record {
      bracket_goes = λ left. (same_change sounds_marked opens_bracket without_bracket lowers_bracket left).1;
      wikilink_goes = λ left. (same_change sounds_marked opens_wikilink without_wikilink lowers_wikilink left).1;
      text = λ left s. (λ q. (tt, tt), (tt, tt), s);
      link = λ left o target titles end s found live.
          let at = sound_nearest opens_bracket left o found s in
          link_entry o.state.is_image o.opener target titles (start_of o.opener) end (inside o) o.before at.sound
          (λ e. free_onto o.after nil (at.free (or_left (is_live_link o.state) (any_live o.before)
          (live_if o.state.is_image (is_live o.state.bracket) (is_live o.state.wikilink) e live))) tt)
          (λ q. free_onto o.after nil (at.free (or_right (is_live_link o.state) (any_live o.before) q)) tt)
          (well_onto o.after nil at.well tt);
      footnote = λ left o name s found live.
          let at = sound_nearest opens_bracket left o found s in
          footnote_entry o.state.is_image o.opener name (before_footnote o.before)
          ((same_before_footnote sounds_marked o.before).1 at.sound);
      wikilink = λ left o v end s found live is.
          let at = sound_nearest opens_wikilink left o found s in
          let shown = wikilink_in w (past_second (inside o)) (start_of c.node) in
          wikilink_entry o.state.is_image o.opener (wikilink_target v) [] (start_of o.opener) end v.children o.before
          at.sound
          (λ i. some_of shown v (λ v. IsFreeOfLinks addresses v.children) is
          (wikilink_keeps w (IsFreeOfLinks addresses) (λ a x y. (tt, tt, tt)) free_from (past_second (inside o))
          (start_of c.node)
          (free_past (inside o) (free_onto o.after nil
          (at.free (or_left (is_live_link o.state) (any_live o.before)
          (live_wikilink_if o.state.is_image (is_live o.state.bracket)
          (is_live o.state.wikilink) i live))) tt))))
          (some_of shown v (λ v. HasNoLinkInLink addresses v.children) is
          (wikilink_keeps w (HasNoLinkInLink addresses) (λ a x y. (tt, tt, tt)) well_from (past_second (inside o))
          (start_of c.node)
          (well_past (inside o) (well_onto o.after nil at.well tt))));
    }

  closed_sound : {A : Type 0} (w : BracketContext) (c : Closing A) (p : Progress A) → IsSound p.left → IsSound
      (closed w c p).left
  closed_sound w c p s = in_each_case w c IsSound IsSound (sound_cases w c) p s

  -- trees that are put at the right
  sound_more : {A : Type 0} (more left : List (Entry A)) → AreFreeTrees addresses more → IsSound left
      → IsSound (more ++ left)
  sound_more [] left f s = s
  sound_more (done a below ∷ more) left f s = (
    λ q. (f.0, f.1),
    (shape_well a.part.shape below f.1, free_well below f.1),
    sound_more more left
        f.2 s,
  )
  sound_more (waits m a ∷ more) left f s = absurd f

  module _ {A : Type 0} (w : BracketContext) (others : Reader A)
      (rule : (a : TreeNode A) (below rest : Forest (TreeNode A)) (p : Progress A) → IsNoLink addresses a.part.shape
      → IsFreeOfLinks addresses below
      → HasMoreTrees addresses p.left (others a below rest p).left) where
    sound_reads : Reads w others (λ chain p. IsFreeOfLinks addresses chain × IsSound p.left)
    sound_reads = record {
      opens = λ i a below rest p h. (h.0.2, (λ q. tt, tt, h.1));
      closes = λ could a below rest p e h. (h.0.2, closed_sound w (closing_of could a rest p) p h.1);
      other = λ a below rest p h.
          let more = rule a below rest p h.0.0 h.0.1 in
          (h.0.2, subst IsSound (sym more.grown) (sound_more more.more p.left more.free h.1));
      passes = λ a below rest p h. (h.0.2, h.1);
      cuts = λ i a below rest p h. ((begun_free i a h.0.0, h.0.1, h.0.2), h.1);
    }

    pub no_link_in_link : (chain : Forest (TreeNode A)) (state : ReferenceState) → IsFreeOfLinks addresses chain
        → HasNoLinkInLink addresses (trees_onto (read_chain w others chain (begun state)).left nil)
    no_link_in_link chain state f =
        let left = (read_chain w others chain (begun state)).left in
        well_onto left nil (all_well left (chain_keeps sound_reads chain (begun state) (f, tt)).1) tt
