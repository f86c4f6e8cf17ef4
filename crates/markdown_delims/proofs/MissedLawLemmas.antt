-- Of two runs of `*` or `_` that may pair, some pair encloses what is left of one and not of the other: no two such
-- runs have characters left in the same chain, at any depth, once a chain is read.
use Rattle.std.proofs.Common.{◌≡◌, ℕ, zero, suc, ◌-◌, ◌<◌, Bool, true, false, List, [], ◌∷◌, length, Option, Some, None}
use Rattle.std.proofs.Common.{refl, ap, sym, ◌∙◌, subst, arith, inl, inr, map, min, ◌+◌, ◌≤◌}
use Rattle.std.specs.Prelude.{⊤, ◌⊎◌, IfSome, IfNone, not, ◌&&◌, ◌||◌, slice_range, slice_index}
use Rattle.std.specs.List.{AllByRecursion}
use Rattle.std.proofs.lemmas.Bool.{true≢false}
use Rattle.markdown_base.specs.Forest.{Forest, nil, node}
use Rattle.markdown_base.proofs.ForestLemmas.{relabelled-relabelled}
use Rattle.markdown_document.specs.Document.{Shape, leaf, backslash_break, unresolved, TreeNode, is_unresolved, shaped}
use Rattle.markdown_document.specs.TreeNodes.{annotate, annotated}
use Rattle.markdown_document.specs.Setting.{Setting}
use Rattle.markdown_document.specs.Waiting.{text_if, as_closed}
use Rattle.markdown_delims.specs.declared.run.Delimiter.{Delimiter}
use Rattle.markdown_delims.specs.declared.run.Delimiter.TheVariants.{Star, Underscore, Tilde, Caret}
use Rattle.markdown_delims.specs.declared.run.Run.{Run}
use Rattle.markdown_delims.specs.Layers.{extensions_of, layer_of_one, layer_of_two, run_of_shape, run_of, spanned}
use Rattle.markdown_delims.specs.MayPair.{delimiter_of, drops, may_pair}
use Rattle.markdown_delims.specs.Pairing.{paired, Read, done_read, waiting, texts_before, characters_done, read_trees}
use Rattle.markdown_delims.specs.Pairing.{FoundOpener, nearest_opener, drop_read, Layers, layers, trees_done}
use Rattle.markdown_delims.specs.Pairing.{still_waiting, last_first, opened_if, left_over, after_layers, after_search}
use Rattle.markdown_delims.specs.Pairing.{closed_by, run_read, first_texts, after_tree, reads_from, runs_paired}
use Rattle.markdown_delims.specs.Quotes.{kind_of_shape, closes_later, is_closed_later, is_end, QuoteTurn, turn_by}
use Rattle.markdown_delims.specs.Quotes.{first_turn, quotes_after, with_quotes}
use Rattle.markdown_delims.specs.declared.quotes.Kind.TheVariants as kind
use Rattle.markdown_base.specs.declared.item.ItemBody.TheVariants as body
use Rattle.markdown_delims.specs.PairingLaws.{is_tilde_or_caret, NonePairs, RunAt, run_at, further, no_run, with_runs}
use Rattle.markdown_delims.specs.PairingLaws.{run_if_text, kept_run, DoNotPair, NonePairsLater, NoneMissed}
use Rattle.markdown_delims.specs.PairingLaws.{without_notes, NoneMissedLaw}
use Rattle.markdown_delims.proofs.KeepLemmas.{turned-all}
use Rattle.markdown_delims.proofs.LawLemmas.{misses-law, tag-law}
use Rattle.markdown_delims.proofs.LayerLawLemmas.{turn-made}
use Rattle.markdown_delims.proofs.StepLawLemmas.{found-if, some-long}

-- the run of a character, or none
abbrev MaybeRun : Type 0
MaybeRun = Option RunAt

abbrev Character : Type 0
Character = TreeNode MaybeRun

-- a chain whose first tree belongs to this run, as do the next `more` trees
abbrev with_run : {A : Type 0} → Setting → MaybeRun → ℕ → TreeNode A → Forest (TreeNode A) → Forest (TreeNode A)
    → Forest Character
with_run s r more a below after = node (annotate (λ _. r) a) (annotated no_run below) (with_runs s more r after)

none_later : (r : MaybeRun) → DoNotPair r None
none_later None = tt
none_later (Some p) = tt

same_run : (p : RunAt) → DoNotPair (Some p) (Some p)
same_run p n star opens closes = absurd (n refl)

cannot_close : (p : RunAt) → p.run.can_close ≡ false → (r : MaybeRun) → DoNotPair r (Some p)
cannot_close p e None = tt
cannot_close p e (Some q) = λ n star opens closes. absurd (true≢false (sym closes ∙ e))

text_first : (shape : Shape) (r k : MaybeRun) → DoNotPair r k → DoNotPair (run_if_text shape r) k
text_first (leaf e origins) r k h = h
text_first other r k h = tt

text_later : (shape : Shape) (k r : MaybeRun) → DoNotPair k r → DoNotPair k (run_if_text shape r)
text_later (leaf e origins) k r h = h
text_later other k r h = none_later k

-- a run of which no opener is left, or that is no `*` or `_`
abbrev Shut : MaybeRun → Type 0
Shut None = ⊤
Shut (Some p) = is_tilde_or_caret p.run.delimiter ≡ false → p.run.can_open ≡ true → ⊥

shut_apart : (r k : MaybeRun) → Shut r → DoNotPair r k
shut_apart None k h = tt
shut_apart (Some p) None h = tt
shut_apart (Some p) (Some q) h = λ n star opens closes. absurd (h star opens)

shut_text : (shape : Shape) (r : MaybeRun) → Shut r → Shut (run_if_text shape r)
shut_text (leaf e origins) r h = h
shut_text other r h = tt

tilde_shut : (p : RunAt) → is_tilde_or_caret p.run.delimiter ≡ true → Shut (Some p)
tilde_shut p e star opens = true≢false (sym e ∙ star)

-- a run that is later than what was read
abbrev NoneEarlier : MaybeRun → List (Read MaybeRun) → Type 0
NoneEarlier k [] = ⊤
NoneEarlier k (done_read a below ∷ rs) = DoNotPair (kept_run a) k × NoneEarlier k rs
NoneEarlier k (waiting dropped run xs ∷ rs) = AllByRecursion (λ (x : Character). DoNotPair x.note k) xs
    × NoneEarlier k rs

-- characters of one run, and that there are some
abbrev AreOf : RunAt → List Character → Type 0
AreOf p xs = AllByRecursion (λ (x : Character). x.note ≡ Some p) xs

abbrev HasSome : List Character → Type 0
HasSome [] = ⊥
HasSome (x ∷ xs) = ⊤

-- characters that were left of a run, and what was read before it
record IsLeft (run : Run) (xs : List Character) (before : List (Read MaybeRun)) : Type 0 where
  at : RunAt
  same : at.run ≡ run
  all : AreOf at xs
  some : HasSome xs
  earlier : NoneEarlier (Some at) before

-- what was read: only runs that are open may pair with one that comes
abbrev Fine : List (Read MaybeRun) → Type 0
Fine [] = ⊤
Fine (done_read a below ∷ rs) = Shut (kept_run a) × NoneEarlier (kept_run a) rs × NoneMissed below × Fine rs
Fine (waiting dropped run xs ∷ rs) = (dropped ≡ true → is_tilde_or_caret run.delimiter ≡ true) × IsLeft run xs rs
    × Fine rs

each_apart : (k : MaybeRun) → ((r : MaybeRun) → DoNotPair r k) → (xs : List Character)
    → AllByRecursion (λ (x : Character). DoNotPair x.note k) xs
each_apart k h [] = tt
each_apart k h (x ∷ xs) = (h x.note, each_apart k h xs)

all_earlier : (k : MaybeRun) → ((r : MaybeRun) → DoNotPair r k) → (rs : List (Read MaybeRun)) → NoneEarlier k rs
all_earlier k h [] = tt
all_earlier k h (done_read a below ∷ rs) = (h (kept_run a), all_earlier k h rs)
all_earlier k h (waiting dropped run xs ∷ rs) = (each_apart k h xs, all_earlier k h rs)

text_earlier : (shape : Shape) (r : MaybeRun) (rs : List (Read MaybeRun)) → NoneEarlier r rs
    → NoneEarlier (run_if_text shape r) rs
text_earlier (leaf e origins) r rs h = h
text_earlier other r rs h = all_earlier None none_later rs

no_later : (f : Forest Character) → NonePairsLater None f
no_later nil = tt
no_later (node a below after) = (tt, no_later after)

text_pairs_later : (shape : Shape) (r : MaybeRun) (f : Forest Character) → NonePairsLater r f
    → NonePairsLater (run_if_text shape r) f
text_pairs_later (leaf e origins) r f h = h
text_pairs_later other r f h = no_later f

-- of a character of a run p
module _ (p : RunAt) (x : Character) (e : x.note ≡ Some p) where
  is_shut : Shut (Some p) → Shut (kept_run x)
  is_shut h = shut_text x.part.shape x.note (subst Shut (sym e) h)

  is_earlier : (rs : List (Read MaybeRun)) → NoneEarlier (Some p) rs → NoneEarlier (kept_run x) rs
  is_earlier rs h = text_earlier x.part.shape x.note rs (subst (λ r. NoneEarlier r rs) (sym e) h)

  is_first : (k : MaybeRun) → DoNotPair (Some p) k → DoNotPair (kept_run x) k
  is_first k h = text_first x.part.shape x.note k (subst (λ r. DoNotPair r k) (sym e) h)

  is_later : (k : MaybeRun) → DoNotPair k (Some p) → DoNotPair k (kept_run x)
  is_later k h = text_later x.part.shape k x.note (subst (λ r. DoNotPair k r) (sym e) h)

  pairs_later : (f : Forest Character) → NonePairsLater (Some p) f → NonePairsLater (kept_run x) f
  pairs_later f h = text_pairs_later x.part.shape x.note f (subst (λ r. NonePairsLater r f) (sym e) h)

all_first : (p : RunAt) (k : MaybeRun) (xs : List Character) → AreOf p xs → DoNotPair (Some p) k
    → AllByRecursion (λ (x : Character). DoNotPair x.note k) xs
all_first p k [] a h = tt
all_first p k (x ∷ xs) a h = (subst (λ r. DoNotPair r k) (sym a.0) h, all_first p k xs a.1 h)

first_of_all : (p : RunAt) (k : MaybeRun) (xs : List Character) → HasSome xs → AreOf p xs
    → AllByRecursion (λ (x : Character). DoNotPair x.note k) xs → DoNotPair (Some p) k
first_of_all p k [] s a h = absurd s
first_of_all p k (x ∷ xs) s a h = subst (λ r. DoNotPair r k) a.0 h.0

-- what was read, and then a chain
abbrev AllLater : List (Read MaybeRun) → Forest Character → Type 0
AllLater rs nil = ⊤
AllLater rs (node a below after) = NoneEarlier (kept_run a) rs × AllLater rs after

after_done : (a : Character) (below : Forest Character) (rs : List (Read MaybeRun)) (f : Forest Character)
    → AllLater (done_read a below ∷ rs) f
    → NonePairsLater (kept_run a) f × AllLater rs f
after_done a below rs nil h = (tt, tt)
after_done a below rs (node b under after) h =
    let k = after_done a below rs after h.1 in ((h.0.0, k.0), (h.0.1, k.1))

after_waiting : (dropped : Bool) (run : Run) (xs : List Character) (rs : List (Read MaybeRun)) (l : IsLeft run xs rs)
    (f : Forest Character) → AllLater (waiting dropped run xs ∷ rs) f
    → NonePairsLater (Some l.at) f × AllLater rs f
after_waiting dropped run xs rs l nil h = (tt, tt)
after_waiting dropped run xs rs l (node b under after) h =
    let k = after_waiting dropped run xs rs l after h.1 in
    ((first_of_all l.at (kept_run b) xs l.some l.all h.0.0, k.0), (h.0.1, k.1))

texts_fine : (p : RunAt) (rs : List (Read MaybeRun)) (xs : List Character) (f : Forest Character) → AreOf p xs
    → NoneEarlier (Some p) rs
    → NoneMissed f → NonePairsLater (Some p) f → AllLater rs f
    → NoneMissed (texts_before xs f) × AllLater rs (texts_before xs f)
texts_fine p rs [] f a e m n l = (m, l)
texts_fine p rs (x ∷ xs) f a e m n l =
    texts_fine p rs xs (node x nil f) a.1 e (pairs_later p x a.0 f n, tt, m) (is_later p x a.0 (Some p) (same_run p), n)
    (is_earlier p x a.0 rs e, l)

trees_fine : (rs : List (Read MaybeRun)) (f : Forest Character) → Fine rs → NoneMissed f → AllLater rs f
    → NoneMissed (read_trees rs f)
trees_fine [] f h m l = m
trees_fine (done_read a below ∷ rs) f h m l =
    let k = after_done a below rs f l in trees_fine rs (node a below f) h.3 (k.0, h.2, m) (h.1, k.1)
trees_fine (waiting dropped run xs ∷ rs) f h m l =
    let k = after_waiting dropped run xs rs h.1 f l in
    let t = texts_fine h.1.at rs xs f h.1.all h.1.earlier m k.0 k.1 in trees_fine rs (texts_before xs f) h.2 t.0 t.1

-- an opener that was found
abbrev FoundFine : FoundOpener MaybeRun → Type 0
FoundFine f = IsLeft f.run f.characters f.before × Fine f.before × NoneMissed f.inside

nearest_fine : (closer : Run) (rs : List (Read MaybeRun)) (inside : Forest Character) → Fine rs → NoneMissed inside
    → AllLater rs inside
    → IfSome (nearest_opener closer rs inside) FoundFine
nearest_fine closer [] inside h m l = tt
nearest_fine closer (done_read a below ∷ rs) inside h m l =
    let k = after_done a below rs inside l in nearest_fine closer rs (node a below inside) h.3 (k.0, h.2, m) (h.1, k.1)
nearest_fine closer (waiting dropped run xs ∷ rs) inside h m l =
    let k = after_waiting dropped run xs rs h.1 inside l in
    let t = texts_fine h.1.at rs xs inside h.1.all h.1.earlier m k.0 k.1 in
    found-if FoundFine (not dropped && may_pair run closer)
    (record { inside = inside; run = run; characters = xs; before = rs })
    (nearest_opener closer rs (texts_before xs inside)) (h.1, h.2, m)
    (nearest_fine closer rs (texts_before xs inside) h.2 t.0 t.1)

-- none was found
open_apart : (dropped : Bool) (run closer : Run) (q p : RunAt) → q.run ≡ run → p.run ≡ closer
    → (dropped ≡ true → is_tilde_or_caret run.delimiter ≡ true)
    → (dropped ≡ false → may_pair run closer ≡ false) → DoNotPair (Some q) (Some p)
open_apart true run closer q p e g d m n star opens closes =
    absurd (true≢false (sym (d refl) ∙ ap (λ (r : Run). is_tilde_or_caret r.delimiter) (sym e) ∙ star))
open_apart false run closer q p e g d m n star opens closes = ap (λ r. may_pair r p.run) e ∙ ap (may_pair run) g
    ∙ m refl

none_found : (closer : Run) (p : RunAt) → p.run ≡ closer → (rs : List (Read MaybeRun)) → Fine rs → NonePairs closer rs
    → NoneEarlier (Some p) rs
none_found closer p e [] h m = tt
none_found closer p e (done_read a below ∷ rs) h m
    = (shut_apart (kept_run a) (Some p) h.0, none_found closer p e rs h.3 m)
none_found closer p e (waiting dropped run xs ∷ rs) h m = (
  all_first h.1.at (Some p) xs h.1.all (open_apart dropped run closer h.1.at p h.1.same e h.0 m.0),
  none_found closer
      p e rs h.2 m.1,
)

-- runs are dropped
drop_earlier : (d : Delimiter) (k : MaybeRun) (rs : List (Read MaybeRun)) → NoneEarlier k rs
    → NoneEarlier k (map (drop_read d) rs)
drop_earlier d k [] h = tt
drop_earlier d k (done_read a below ∷ rs) h = (h.0, drop_earlier d k rs h.1)
drop_earlier d k (waiting dropped run xs ∷ rs) h = (h.0, drop_earlier d k rs h.1)

-- no `*` and no `_` is dropped
drops_tilde : (d e : Delimiter) → drops d e ≡ true → is_tilde_or_caret e ≡ true
drops_tilde Tilde Tilde h = refl
drops_tilde Caret Caret h = refl
drops_tilde d e h = cc

drop_tilde : (dropped : Bool) (d e : Delimiter) → (dropped ≡ true → is_tilde_or_caret e ≡ true) → (dropped || drops d e)
    ≡ true
    → is_tilde_or_caret e ≡ true
drop_tilde true d e h k = h refl
drop_tilde false d e h k = drops_tilde d e k

drop_fine : (d : Delimiter) (rs : List (Read MaybeRun)) → Fine rs → Fine (map (drop_read d) rs)
drop_fine d [] h = tt
drop_fine d (done_read a below ∷ rs) h = (h.0, drop_earlier d (kept_run a) rs h.1, h.2, drop_fine d rs h.3)
drop_fine d (waiting dropped run xs ∷ rs) h = (
  drop_tilde dropped d run.delimiter h.0,
  record {
    at = h.1.at;
    same = h.1.same;
    all = h.1.all;
    some = h.1.some;
    earlier = drop_earlier d (Some h.1.at) rs h.1.earlier;
  },
  drop_fine d rs h.2,
)

-- characters that do not pair, of a run p
module _ (p : RunAt) where
  done_fine : (xs : List Character) (rs : List (Read MaybeRun)) → AreOf p xs → Shut (Some p) → Fine rs
      → NoneEarlier (Some p) rs
      → Fine (characters_done xs rs) × NoneEarlier (Some p) (characters_done xs rs)
  done_fine [] rs a s h e = (h, e)
  done_fine (x ∷ xs) rs a s h e =
      let k = done_fine xs rs a.1 s h e in (
        (is_shut p x a.0 s, is_earlier p x a.0 (characters_done xs rs) k.1, tt, k.0),
        (is_first p x a.0 (Some p) (same_run p), k.1),
      )

  some_turned : (xs ys : List Character) → HasSome ys → HasSome (last_first xs ys)
  some_turned [] ys h = h
  some_turned (x ∷ xs) ys h = some_turned xs (x ∷ ys) tt

  still_open : (run : Run) (xs : List Character) (rs : List (Read MaybeRun)) → p.run ≡ run → AreOf p xs → HasSome xs
      → Fine rs
      → NoneEarlier (Some p) rs → Fine (waiting false run xs ∷ rs)
  still_open run xs rs g a s h e
      = (λ d. absurd (true≢false (sym d)), record { at = p; same = g; all = a; some = s; earlier = e }, h)

  opened_fine : (b : Bool) (run : Run) (xs : List Character) (rs : List (Read MaybeRun)) → run.can_open ≡ b → p.run
      ≡ run → AreOf p xs
      → HasSome xs → Fine rs → NoneEarlier (Some p) rs
      → Fine (opened_if b run xs rs)
  opened_fine true run xs rs c g a s h e = still_open run xs rs g a s h e
  opened_fine false run xs rs c g a s h e
      = (done_fine xs rs a (λ star opens. true≢false (sym opens ∙ ap (λ (r : Run). r.can_open) g ∙ c)) h
      e).0

  left_fine : (run : Run) (vs : List Character) (rs : List (Read MaybeRun)) → p.run ≡ run → AreOf p vs → HasSome vs
      → Fine rs
      → NoneEarlier (Some p) rs → Fine (left_over run vs rs)
  left_fine run [] rs g a s h e = absurd s
  left_fine run (v ∷ vs) rs g a s h e = opened_fine run.can_open run (last_first (v ∷ vs) []) rs refl g
      (turned-all (λ (x : Character). x.note ≡ Some p) (v ∷ vs) [] a tt)
      (some_turned vs (v ∷ []) tt) h e

  still_fine : (run : Run) (xs : List Character) (rs : List (Read MaybeRun)) → p.run ≡ run → AreOf p xs → Fine rs
      → NoneEarlier (Some p) rs
      → Fine (still_waiting run xs rs) × NoneEarlier (Some p) (still_waiting run xs rs)
  still_fine run [] rs g a h e = (h, e)
  still_fine run (x ∷ xs) rs g a h e
      = (still_open run (x ∷ xs) rs g a tt h e, (all_first p (Some p) (x ∷ xs) a (same_run p), e))

  -- a layer of p
  abbrev IsLayer : Forest Character → Type 0
  IsLayer nil = ⊥
  IsLayer (node a below nil) = (a.note ≡ Some p) × Shut (kept_run a) × NoneMissed below
  IsLayer (node a below (node b under after)) = ⊥

  layer_missed : (f : Forest Character) → IsLayer f → NoneMissed f
  layer_missed nil h = absurd h
  layer_missed (node a below nil) h = (tt, h.2, tt)
  layer_missed (node a below (node b under after)) h = absurd h

  layer_fine : (f : Forest Character) (rs : List (Read MaybeRun)) → IsLayer f → Fine rs → NoneEarlier (Some p) rs
      → Fine (trees_done f rs)
  layer_fine nil rs l h e = absurd l
  layer_fine (node a below nil) rs l h e = (l.1, is_earlier p a l.0 rs e, l.2, h)
  layer_fine (node a below (node b under after)) rs l h e = absurd l

  module _ (s : Setting) where
    made_layer : (shape : Delimiter → List ℕ → Shape)
        → ((source : List ℕ) → Shut (run_if_text (shape Star source) (Some p)))
        → ((source : List ℕ) → Shut (run_if_text (shape Underscore source) (Some p))) → (d : Delimiter)
        (x v : Character) (inside : Forest Character) → p.run.delimiter ≡ d → x.note ≡ Some p → NoneMissed inside
        → IsLayer (node (spanned s.text (shape d) x v) inside nil)
    made_layer shape star underscore d x v inside e t m =
        (t, subst (λ r. Shut (run_if_text (shape d source) r)) (sym t) (by_delimiter d e), m)
      where
        source : List ℕ
        source = slice_range s.text x.part.range.start v.part.range.end

        by_delimiter : (d : Delimiter) → p.run.delimiter ≡ d → Shut (run_if_text (shape d source) (Some p))
        by_delimiter Star e = star source
        by_delimiter Underscore e = underscore source
        by_delimiter Tilde e = shut_text (shape Tilde source) (Some p) (tilde_shut p (ap is_tilde_or_caret e))
        by_delimiter Caret e = shut_text (shape Caret source) (Some p) (tilde_shut p (ap is_tilde_or_caret e))

    one_layer : (d : Delimiter) (x v : Character) (inside : Forest Character) → p.run.delimiter ≡ d → x.note ≡ Some p
        → NoneMissed inside → IsLayer (node (spanned s.text (layer_of_one
        (extensions_of s.rules.syntax) d) x v) inside nil)
    one_layer = made_layer (layer_of_one (extensions_of s.rules.syntax)) (λ _. tt) (λ _. tt)

    abbrev AreMade : RunAt → Layers MaybeRun → Type 0
    AreMade q l = IsLayer l.whole × AreOf p l.opening × AreOf q l.closing

    -- there are characters on both sides, or the chain is a layer already
    layers_made : (q : RunAt) (d : Delimiter) (xs vs : List Character) (inside : Forest Character) → p.run.delimiter ≡ d
        → AreOf p xs → AreOf q vs → NoneMissed inside → (HasSome xs × HasSome vs) ⊎ IsLayer inside
        → AreMade q (layers s d xs vs inside)
    layers_made q d [] vs inside e a b m (inl i) = absurd i.0
    layers_made q d [] vs inside e a b m (inr l) = (l, tt, b)
    layers_made q d (x ∷ xs) [] inside e a b m (inl i) = absurd i.1
    layers_made q d (x ∷ xs) [] inside e a b m (inr l) = (l, a, tt)
    layers_made q d (x ∷ []) (v ∷ vs) inside e a b m i = (one_layer d x v inside e a.0 m, tt, b.1)
    layers_made q d (x ∷ y ∷ xs) (v ∷ []) inside e a b m i = (one_layer d x v inside e a.0 m, a.1, tt)
    layers_made q d (x ∷ y ∷ xs) (v ∷ w ∷ vs) inside e a b m i =
        let whole : Forest Character = (layers s d (x ∷ y ∷ []) (v ∷ w ∷ []) inside).whole in
        let l : IsLayer whole = made_layer (layer_of_two (extensions_of s.rules.syntax)) (λ _. tt)
        (λ _. tt) d y w inside e
        a.1.0 m in
        layers_made q d xs vs whole e a.1.1 b.1.1 (layer_missed whole l) (inr l)

-- a closer pairs: fewer of its characters are left
module _ (s : Setting) where
  closing_left : (d : Delimiter) (xs vs : List Character) (inside : Forest Character)
      → length (layers s d xs vs inside).closing + min (length xs) (length vs) ≡ length vs
  closing_left d [] vs inside = omega arith
  closing_left d (x ∷ xs) [] inside = omega arith
  closing_left d (x ∷ []) (v ∷ vs) inside = omega arith
  closing_left d (x ∷ y ∷ xs) (v ∷ []) inside = omega arith
  closing_left d (x ∷ y ∷ xs) (v ∷ w ∷ vs) inside =
      omega (arith, closing_left d xs vs (layers s d (x ∷ y ∷ []) (v ∷ w ∷ []) inside).whole)

  fewer_left : (d : Delimiter) (xs vs : List Character) (inside : Forest Character) → HasSome xs → HasSome vs
      → length (layers s d xs vs inside).closing < length vs
  fewer_left d [] vs inside i j = absurd i
  fewer_left d (x ∷ xs) [] inside i j = absurd j
  fewer_left d (x ∷ xs) (v ∷ vs) inside i j = omega (arith, closing_left d (x ∷ xs) (v ∷ vs) inside)

  pair_fine : (q : RunAt) (vs : List Character) (f : FoundOpener MaybeRun) → HasSome vs → AreOf q vs → FoundFine f
      → AreOf q (layers s f.run.delimiter f.characters vs f.inside).closing
      × Fine (after_layers f (layers s f.run.delimiter f.characters vs f.inside))
  pair_fine q vs f i a g =
      let p : RunAt = g.0.at in
      let made : Layers MaybeRun = layers s f.run.delimiter f.characters vs f.inside in
      let l = layers_made p s q f.run.delimiter f.characters vs f.inside (ap (λ (r : Run). r.delimiter) g.0.same)
      g.0.all a g.2 (inl (g.0.some, i)) in
      let k = still_fine p f.run made.opening f.before g.0.same l.1 g.1 g.0.earlier in
      (l.2, layer_fine p made.whole (still_waiting f.run made.opening f.before) l.0 k.0 k.1)

  searched_fine : (again : List Character → List (Read MaybeRun) → List (Read MaybeRun)) (closer : Run) (p : RunAt)
      (vs : List Character) (rs : List (Read MaybeRun)) (o : Option (FoundOpener MaybeRun))
      → ((left : List Character) (others : List (Read MaybeRun)) → length left < length vs → AreOf p left → Fine others
      → Fine (again left others)) → p.run ≡ closer
      → AreOf p vs → HasSome vs → Fine rs
      → IfSome o FoundFine → IfNone o (NonePairs closer rs) → Fine (after_search s again closer vs rs o)
  searched_fine again closer p vs rs None go e a i h f m =
      left_fine p closer vs (map (drop_read closer.delimiter) rs) e a i (drop_fine closer.delimiter rs h)
      (drop_earlier closer.delimiter (Some p) rs (none_found closer p e rs h m))
  searched_fine again closer p vs rs (Some f) go e a i h g m =
      let k = pair_fine p vs f i a g in
      go (layers s f.run.delimiter f.characters vs f.inside).closing
      (after_layers f (layers s f.run.delimiter f.characters vs f.inside))
      (fewer_left f.run.delimiter f.characters vs f.inside g.0.some i) k.0 k.1

  closed_fine : (turns : ℕ) (closer : Run) (p : RunAt) (vs : List Character) (rs : List (Read MaybeRun)) → p.run
      ≡ closer → AreOf p vs
      → length vs ≤ turns → Fine rs → Fine (closed_by s turns closer vs rs)
  unfolding closed_by
  closed_fine zero closer p [] rs e a l h = h
  closed_fine (suc turns) closer p [] rs e a l h = h
  closed_fine zero closer p (v ∷ vs) rs e a l h = absurd (omega (arith, l))
  closed_fine (suc turns) closer p (v ∷ vs) rs e a l h =
      searched_fine (λ left others. closed_by s turns closer left others) closer p (v ∷ vs) rs
      (nearest_opener closer rs nil)
      (λ left others fewer b k. closed_fine turns closer p left others e b (omega (arith, fewer, l)) k) e a tt h
      (nearest_fine closer rs nil h tt tt)
      (misses-law closer rs nil)

  run_fine : (closes : Bool) (p : RunAt) (vs : List Character) (rs : List (Read MaybeRun)) → p.run.can_close ≡ closes
      → AreOf p vs
      → HasSome vs → Fine rs → Fine (run_read s closes p.run vs rs)
  run_fine true p vs rs c a i h = closed_fine (length vs) p.run p vs rs refl a (omega arith) h
  run_fine false p vs rs c a i h = left_fine p p.run vs rs refl a i h (all_earlier (Some p) (cannot_close p c) rs)

  closed_tag : (b : Bool) (a : Character) → (text_if b s.text a).note ≡ a.note
  closed_tag true a = refl
  closed_tag false a = refl

  of_none : (a : Character) (rs : List (Read MaybeRun)) → a.note ≡ None → Shut (kept_run a) × NoneEarlier
      (kept_run a) rs
  of_none a rs e = (
    shut_text a.part.shape a.note (subst Shut (sym e) tt),
    text_earlier a.part.shape a.note rs (subst (λ r. NoneEarlier r rs) (sym e) (all_earlier None none_later rs)),
  )

  -- a chain with its runs told is read
  module _ {A : Type 0} where
    firsts_of : (p : RunAt) (n : ℕ) (chain : Forest (TreeNode A))
        → AreOf p (first_texts s.text n (with_runs s n (Some p) chain))
    firsts_of p zero chain = tt
    firsts_of p (suc n) nil = tt
    firsts_of p (suc n) (node a below after) = (refl, firsts_of p n after)

    run_of_length : (p : RunAt) (n : ℕ) (a : TreeNode A) (below after : Forest (TreeNode A)) → 0 < n
        → AreOf p (first_texts s.text n (with_run s (Some p) (n - 1) a below after))
        × HasSome (first_texts s.text n (with_run s (Some p) (n - 1) a below after))
    run_of_length p zero a below after h = absurd (omega arith)
    run_of_length p (suc n) a below after h = (
      (
        refl,
        rw (← (let e : n ≡ suc n - 1 = omega arith in e)) (firsts_of p n after),
      ),
      tt,
    )

    below_fine : (f : Forest (TreeNode A)) → NoneMissed (annotated no_run f)
    below_fine nil = tt
    below_fine (node a below after)
        = (pairs_none a.part.shape (annotated no_run after), below_fine below, below_fine after)
      where
        pairs_none : (shape : Shape) (f : Forest Character) → NonePairsLater (run_if_text shape None) f
        pairs_none shape f = text_pairs_later shape None f (no_later f)

    tree_fine : (go_on : MaybeRun → ℕ → List (Read MaybeRun) → List (Read MaybeRun)) (start : ℕ) (a : TreeNode A)
        (below after : Forest (TreeNode A)) (rs : List (Read MaybeRun)) (o : Option Run)
        → IfSome o (λ run. 0 < run.length) → ((r : MaybeRun) (others : List (Read MaybeRun)) → Fine others
        → Fine (go_on r (further r) others)) → Fine rs
        → Fine (after_tree s (go_on (run_at start o)) (annotate (λ _. run_at start o) a) (annotated no_run below)
        (with_runs s (further (run_at start o)) (run_at start o) after) rs o)
    tree_fine go_on start a below after rs None n h k =
        let label : Character = as_closed s.text (annotate (λ _. None) a) in
        let none = of_none label rs (closed_tag (is_unresolved a.part.shape) (annotate (λ _. None) a)) in
        h None (done_read label (annotated no_run below) ∷ rs) (none.0, none.1, below_fine below, k)
    tree_fine go_on start a below after rs (Some run) n h k =
        let p : RunAt = record { start = start; run = run } in
        let vs : List Character = first_texts s.text run.length (with_run s (Some p) (run.length - 1) a below after) in
        let of = run_of_length p run.length a below after n in
        h (Some p) (run_read s run.can_close run vs rs) (run_fine run.can_close p vs rs refl of.0 of.1 k)

    reads_fine : (more : ℕ) (before : MaybeRun) (chain : Forest (TreeNode A)) (rs : List (Read MaybeRun)) → Fine rs
        → Fine (reads_from s more (with_runs s more before chain) rs)
    unfolding reads_from
    reads_fine more before nil rs h = h
    reads_fine (suc more) before (node a below after) rs h = reads_fine more before after rs h
    reads_fine zero before (node a below after) rs h =
        tree_fine (λ r skip others. reads_from s skip (with_runs s (further r) r after) others) a.part.range.start a
        below after rs
        (run_of s.text a.part)
        (some-long a.part.shape (delimiter_of (slice_index s.text a.part.range.start)))
        (λ r others k. reads_fine (further r) r after others
        k) h

    pub runs-missed : (chain : Forest (TreeNode A)) → NoneMissed (runs_paired s (with_runs s 0 None chain))
    unfolding runs_paired
    runs-missed chain = trees_fine (reads_from s 0 (with_runs s 0 None chain) []) nil (reads_fine 0 None chain [] tt) tt
        tt

-- quotes leave runs as they are
turned_run : (shape : Shape) (d : Option Delimiter) (single double later last : Bool)
    → run_of_shape (turn_by (kind_of_shape shape) shape single double later last).made d ≡ run_of_shape shape d
turned_run backslash_break d single double later last = turn-made (λ shape. run_of_shape shape d ≡ None) (λ c. refl)
    kind.Break
    backslash_break single double later last refl
turned_run (unresolved (body.MaybeSmartQuote quote opens closes)) d single double later last =
    let shape : Shape = unresolved (body.MaybeSmartQuote quote opens closes) in
    turn-made (λ shape. run_of_shape shape d ≡ None) (λ c. refl) (kind_of_shape shape) shape single double later last
    refl
turned_run other d single double later last = refl

module _ {A : Type 0} (s : Setting) where
  told_end : (more : ℕ) (before : MaybeRun) (chain : Forest (TreeNode A)) → is_end (with_runs s more before chain)
      ≡ is_end chain
  told_end more before nil = refl
  told_end zero before (node a below after) = refl
  told_end (suc more) before (node a below after) = refl

  told_later : (more : ℕ) (before : MaybeRun) (chain : Forest (TreeNode A))
      → is_closed_later (with_runs s more before chain)
      ≡ is_closed_later chain
  told_later more before nil = refl
  told_later zero before (node a below after) =
      let here : MaybeRun = run_at a.part.range.start (run_of s.text a.part) in ap
      (closes_later (kind_of_shape a.part.shape))
      (told_later (further here) here after)
  told_later (suc more) before (node a below after) = ap (closes_later (kind_of_shape a.part.shape))
      (told_later more before after)

  quotes_node : (single double : Bool) (r : MaybeRun) (more : ℕ) (a : TreeNode A) (below after : Forest (TreeNode A))
      → ((i j : Bool) → quotes_after i j (with_runs s more r after) ≡ with_runs s more r (quotes_after i j after))
      → quotes_after single double (with_run s r more a below after)
      ≡ with_run s r more (shaped (first_turn a after single double).made a) below
      (quotes_after (first_turn a after single double).single
      (first_turn a after single double).double after)
  quotes_node single double r more a below after h =
      rw (
        told_later more r after,
        told_end more r after,
        h (first_turn a after single double).single (first_turn a after single double).double,
      ) refl

  unannotated_node : (r : MaybeRun) (more : ℕ) (a : TreeNode A) (below after : Forest (TreeNode A))
      → without_notes (with_runs s more r after)
      ≡ without_notes after
      → without_notes (with_run s r more a below after) ≡ without_notes (node a below after)
  unannotated_node r more a below after h =
      rw (relabelled-relabelled (annotate no_run) (annotate (λ _. tt {0})) below, h) refl

  pub quotes_told : (more : ℕ) (before : MaybeRun) (chain : Forest (TreeNode A)) (single double : Bool)
      → quotes_after single double (with_runs s more before chain)
      ≡ with_runs s more before (quotes_after single double chain)
  quotes_told more before nil single double = refl
  quotes_told (suc more) before (node a below after) single double = quotes_node single double before more a below after
      (λ i j. quotes_told more before after i j)
  quotes_told zero before (node a below after) single double =
      let here : MaybeRun = run_at a.part.range.start (run_of s.text a.part) in
      let t : QuoteTurn = first_turn a after single double in
      rw (turned_run a.part.shape (delimiter_of (slice_index s.text a.part.range.start)) single double
      (is_closed_later after) (is_end after))
      (quotes_node single double here (further here) a below after (λ i j. quotes_told (further here) here after i j))

-- runs in the notes change nothing else
told_unannotated : {A : Type 0} (s : Setting) (more : ℕ) (before : MaybeRun) (chain : Forest (TreeNode A))
    → without_notes (with_runs s more before chain) ≡ without_notes chain
told_unannotated s more before nil = refl
told_unannotated {A} s (suc more) before (node a below after) = unannotated_node s before more a below after
    (told_unannotated s more before after)
told_unannotated {A} s zero before (node a below after) =
    let here : MaybeRun = run_at a.part.range.start (run_of s.text a.part) in unannotated_node s here (further here) a
    below after
    (told_unannotated s (further here) here after)

pub missed-law : {A : Type 0} → NoneMissedLaw A
unfolding paired with_quotes
missed-law {A} s chain =
    let told : Forest Character = with_runs s 0 None chain in (
      rw (quotes_told s 0 None chain false false) (runs-missed s (quotes_after false false chain)),
      sym (tag-law (λ (r : MaybeRun). tt) s told) ∙ ap (paired s) (told_unannotated s 0 None chain)
          ∙ tag-law (λ (a : A). tt) s chain,
    )
