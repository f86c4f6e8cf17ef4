-- What is added to a left list takes openers off the stacks: numbers rise along the list, so that an opener and all
-- after it are removed, and those before it stay; only the one just before it leads to it.
use Rattle.std.proofs.Common.{◌≡◌, ℕ, ◌<◌, ◌≤◌, Bool, true, false, List, [], ◌∷◌, ◌++◌, Option, Some, map, nat_le, refl}
use Rattle.std.proofs.Common.{sym, ◌∙◌, ap, subst, arith}
use Rattle.std.specs.Prelude.{if◌then◌else◌, ⊤}
use Rattle.std.proofs.lemmas.Bool.{lt-leb, le-leb}
use Rattle.markdown_base.specs.Arena.{sibling_of}
use Rattle.markdown_base.specs.Forest.{Forest, nil, node, roots}
use Rattle.markdown_base.specs.declared.item.Item.{Item}
use Rattle.markdown_base.specs.declared.node.Node.{Node}
use Rattle.markdown_base.proofs.BoolLemmas.{less_is_other, is_itself}
use Rattle.markdown_document.specs.Document.{TreeNode}
use Rattle.markdown_document.specs.Tables.{Tables}
use Rattle.markdown_brackets.specs.BracketDecision.{BracketContext, Becomes, Closing, Progress, a_footnote, a_link}
use Rattle.markdown_brackets.specs.BracketDecision.{a_text, a_wikilink}
use Rattle.markdown_brackets.specs.ChainHeld.{Holds, numbers_of}
use Rattle.markdown_brackets.specs.ClosingBracket.{footnote_onto, put}
use Rattle.markdown_brackets.specs.DecisionView.{IsBecome}
use Rattle.markdown_brackets.specs.Decides.{EachOpener, StandsBefore}
use Rattle.markdown_brackets.specs.Finish.{AreNumbersAfter, AreRising, IsSplit, LeftRises, SplitsAs}
use Rattle.markdown_brackets.specs.LeftList.{Entry, Flag, OpenerState, Split, before_footnote, before_link}
use Rattle.markdown_brackets.specs.LeftList.{before_wikilink, disabled, disabled_flag, disabled_state, done, gone}
use Rattle.markdown_brackets.specs.LeftList.{on_states, second_folded, trees_onto, waits, without_bracket}
use Rattle.markdown_brackets.specs.LeftList.{without_wikilink}
use Rattle.markdown_brackets.specs.HeldOpeners.{brackets_of, held_as, wikilinks_of}
use Rattle.markdown_brackets.specs.Openers.{Waiting, before}
use Rattle.markdown_brackets.specs.Openers as openers
use Rattle.markdown_brackets.specs.SecondBracket.{without_second}
use Rattle.markdown_brackets.specs.declared.closing_bracket.ClosedBracket.{ClosedBracket}
use Rattle.markdown_brackets.specs.declared.closing_bracket.ClosedBracket.TheVariants.{Text, Link, Footnote, Wikilinked}
use Rattle.markdown_brackets.specs.declared.openers.Opener.{Opener}
use Rattle.markdown_brackets.proofs.HeldTreesLemmas.{Holds-from}
use Rattle.markdown_brackets.proofs.LeftListLemmas.{onto_append}
use Rattle.markdown_brackets.proofs.OpenerHeldLemmas.{for_bracket, for_wikilink}

-- a fact of each opener that is left
pub each_before : (P : ℕ → Type 0) (n : ℕ) (held : List Waiting) → EachOpener P held → EachOpener P (before n held)
each_before P n [] h = tt
each_before P n (t ∷ held) h = by (nat_le n t.opener.node) (each_before P n held h.1)
  where
    by : (b : Bool) → EachOpener P (before n held) → EachOpener P (if b then before n held else t ∷ held)
    by true rest = rest
    by false rest = h

pub first_each : (P : ℕ → Type 0) (held : List Waiting) (opener : Opener) → openers.first_opener held ≡ Some opener
    → EachOpener P held
    → P opener.node
first_each P [] opener e h = let none = e in cc
first_each P (t ∷ held) opener e h = let same : t.opener ≡ opener = cc in subst (λ (o : Opener). P o.node) same h.0

-- the openers of a left list by one of their flags
abbrev held_by : (OpenerState → Flag) → List (Entry ℕ) → List Waiting
held_by flag [] = []
held_by flag (done a below ∷ left) = held_by flag left
held_by flag (waits m a ∷ left) = held_as a.note m.is_image (flag m) (held_by flag left)

brackets_by : (left : List (Entry ℕ)) → brackets_of left ≡ held_by for_bracket left
brackets_by [] = refl
brackets_by (done a below ∷ left) = brackets_by left
brackets_by (waits m a ∷ left) = ap (held_as a.note m.is_image m.bracket) (brackets_by left)

wikilinks_by : (left : List (Entry ℕ)) → wikilinks_of left ≡ held_by for_wikilink left
wikilinks_by [] = refl
wikilinks_by (done a below ∷ left) = wikilinks_by left
wikilinks_by (waits m a ∷ left) = ap (held_as a.note m.is_image m.wikilink) (wikilinks_by left)

-- the number of an entry
abbrev number_of : Entry ℕ → ℕ
number_of (done a below) = a.note
number_of (waits m a) = a.note

-- all numbers are greater than this one
abbrev AreAfter : ℕ → List (Entry ℕ) → Type 0
AreAfter n [] = ⊤
AreAfter n (e ∷ left) = (n < number_of e) × AreAfter n left

-- each entry leads to the next one, which has a greater number, and the nearest to this one
abbrev LinksOn : List (Node Item) → ℕ → List (Entry ℕ) → Type 0
LinksOn nodes n [] = ⊤
LinksOn nodes n (e ∷ left) = (number_of e < n) × (sibling_of nodes (number_of e) ≡ Some n)
    × LinksOn nodes (number_of e) left

-- numbers that rise
-- a fact of the numbers of all trees is one of those that are later
numbers_from : (P : List ℕ → Type 0) → ((m : ℕ) (numbers : List ℕ) → P (m ∷ numbers) → P numbers)
    → (left : List (Entry ℕ)) (f : Forest (TreeNode ℕ)) → P (roots (numbers_of (trees_onto left f)))
    → P (roots (numbers_of f))
numbers_from P later [] f h = h
numbers_from P later (done a below ∷ left) f h = later _ _ (numbers_from P later left (node a below f) h)
numbers_from P later (waits m a ∷ left) f h = later _ _ (numbers_from P later left (node a nil f) h)

rising_from : (left : List (Entry ℕ)) (f : Forest (TreeNode ℕ)) → AreRising (roots (numbers_of (trees_onto left f)))
    → AreRising (roots (numbers_of f))
rising_from = numbers_from AreRising (λ m numbers h. h.1)

after : (n : ℕ) (left : List (Entry ℕ)) (f : Forest (TreeNode ℕ)) → AreNumbersAfter n (roots (numbers_of
    (trees_onto left f)))
    → AreNumbersAfter n (roots (numbers_of f))
after n = numbers_from (AreNumbersAfter n) (λ m numbers h. h.1)

after_all : (n : ℕ) (left : List (Entry ℕ)) (f : Forest (TreeNode ℕ))
    → AreNumbersAfter n (roots (numbers_of (trees_onto left f))) → AreAfter n left
after_all n [] f h = tt
after_all n (done a below ∷ left) f h = ((after n left (node a below f) h).0, after_all n left (node a below f) h)
after_all n (waits m a ∷ left) f h = ((after n left (node a nil f) h).0, after_all n left (node a nil f) h)

-- each node of the left list leads to the next
links_on : (source : List ℕ) (tables : Tables) (nodes : List (Node Item)) (first : Option ℕ) (left : List (Entry ℕ))
    (a : TreeNode ℕ) (below later below' later' : Forest (TreeNode ℕ))
    → Holds source tables nodes first (trees_onto left (node a below later))
    → AreRising (roots (numbers_of (trees_onto left (node a below' later')))) → LinksOn nodes a.note left
links_on source tables nodes first [] a below later below' later' h r = tt
links_on source tables nodes first (done b under ∷ left) a below later below' later' h r =
    let at = Holds-from source tables nodes first left (node b under (node a below later)) h in
    let rises = rising_from left (node b under (node a below' later')) r in
    (rises.0.0, at.1.4.0, links_on source tables nodes first left b under _ under _ h r)
links_on source tables nodes first (waits m b ∷ left) a below later below' later' h r =
    let at = Holds-from source tables nodes first left (node b nil (node a below later)) h in
    let rises = rising_from left (node b nil (node a below' later')) r in
    (rises.0.0, at.1.4.0, links_on source tables nodes first left b nil _ nil _ h r)

links_folded : (nodes : List (Node Item)) (n : ℕ) (left : List (Entry ℕ)) → LinksOn nodes n left
    → LinksOn nodes n (second_folded left)
links_folded nodes n [] h = tt
links_folded nodes n (done a below ∷ left) h = h
links_folded nodes n (waits m a ∷ left) h = h

-- an opener of a greater number goes, one of a smaller number stays
goes : (n number : ℕ) (is_image : Bool) (f : Flag) (held : List Waiting) → n ≤ number
    → before n (held_as number is_image f held)
    ≡ before n held
goes n number is_image gone held le = refl
goes n number is_image other held le = rw (le-leb n number le) refl

stays : (n number : ℕ) (is_image : Bool) (f : Flag) (held : List Waiting) → number < n → before n held ≡ held
    → before n (held_as number is_image f held) ≡ held_as number is_image f held
stays n number is_image gone held lt e = e
stays n number is_image other held lt e = rw (lt-leb n number lt) refl

goes_all : (flag : OpenerState → Flag) (n : ℕ) (after left : List (Entry ℕ)) → AreAfter n after
    → before n (held_by flag (after ++ left))
    ≡ before n (held_by flag left)
goes_all flag n [] left h = refl
goes_all flag n (done a below ∷ after) left h = goes_all flag n after left h.1
goes_all flag n (waits m a ∷ after) left h =
    goes n a.note m.is_image (flag m) (held_by flag (after ++ left)) (omega (arith, h.0))
    ∙ goes_all flag n after left h.1

stays_all : (flag : OpenerState → Flag) (nodes : List (Node Item)) (n next : ℕ) (left : List (Entry ℕ))
    → LinksOn nodes next left → next ≤ n
    → before n (held_by flag left) ≡ held_by flag left
stays_all flag nodes n next [] h le = refl
stays_all flag nodes n next (done a below ∷ left) h le = stays_all flag nodes n a.note left h.2 (omega (arith, h.0, le))
stays_all flag nodes n next (waits m a ∷ left) h le =
    stays n a.note m.is_image (flag m) (held_by flag left) (omega (arith, h.0, le))
    (stays_all flag nodes n a.note left h.2 (omega (arith, h.0, le)))

before_opener : (flag : OpenerState → Flag) (nodes : List (Node Item)) (m : OpenerState) (a : TreeNode ℕ)
    (after left : List (Entry ℕ)) → AreAfter a.note after → LinksOn nodes a.note left
    → before a.note (held_by flag (after ++ waits m a ∷ left)) ≡ held_by flag left
before_opener flag nodes m a after left h links =
    goes_all flag a.note after (waits m a ∷ left) h
    ∙ goes a.note a.note m.is_image (flag m) (held_by flag left) (omega arith)
    ∙ stays_all flag nodes a.note a.note left links (omega arith)

far_one : (nodes : List (Node Item)) (n next number : ℕ) (is_image : Bool) (f : Flag) (held : List Waiting)
    → sibling_of nodes number ≡ Some next → next < n
    → without_second nodes n held ≡ held → without_second nodes n (held_as number is_image f held)
    ≡ held_as number is_image f held
far_one nodes n next number is_image gone held e lt rest = rest
far_one nodes n next number is_image other held e lt rest = rw (e, less_is_other next n lt) refl

far : (flag : OpenerState → Flag) (nodes : List (Node Item)) (n next : ℕ) (left : List (Entry ℕ))
    → LinksOn nodes next left
    → next < n
    → without_second nodes n (held_by flag left) ≡ held_by flag left
far flag nodes n next [] h lt = refl
far flag nodes n next (done a below ∷ left) h lt = far flag nodes n a.note left h.2 (omega (arith, h.0, lt))
far flag nodes n next (waits m a ∷ left) h lt =
    far_one nodes n next a.note m.is_image (flag m) (held_by flag left) h.1 lt
    (far flag nodes n a.note left h.2 (omega (arith, h.0, lt)))

-- the last one before it does
near_one : (nodes : List (Node Item)) (n number : ℕ) (is_image : Bool) (f : Flag) (held : List Waiting)
    → sibling_of nodes number ≡ Some n
    → before number held ≡ held → without_second nodes n held ≡ held
    → without_second nodes n (held_as number is_image f held) ≡ held
near_one nodes n number is_image gone held e rest none = none
near_one nodes n number is_image f held e rest none =
    rw (e, is_itself n) (goes number number is_image f held (omega arith) ∙ rest)

second_gone : (nodes : List (Node Item)) (n : ℕ) (left : List (Entry ℕ)) → LinksOn nodes n left
    → without_second nodes n (held_by for_wikilink left) ≡ held_by for_wikilink (second_folded left)
second_gone nodes n [] h = refl
second_gone nodes n (done a below ∷ left) h = far for_wikilink nodes n a.note left h.2 h.0
second_gone nodes n (waits m a ∷ left) h =
    near_one nodes n a.note m.is_image m.wikilink (held_by for_wikilink left) h.1
    (stays_all for_wikilink nodes a.note a.note left h.2
    (omega arith))
    (far for_wikilink nodes n a.note left h.2 h.0)

-- openers with other flags
disabled_held : (number : ℕ) (is_image : Bool) (f : Flag) (held held' : List Waiting) → held'
    ≡ map openers.disabled_opener held
    → held_as number is_image (if is_image then f else disabled_flag f) held'
    ≡ map openers.disabled_opener (held_as number is_image f held)
disabled_held number true gone held held' e = e
disabled_held number true f held held' e = ap (held_as number true f) e
disabled_held number false gone held held' e = e
disabled_held number false f held held' e = ap (held_as number false disabled) e

abbrev Disabled : List (Entry ℕ) → Type 0
Disabled left = (brackets_of (on_states disabled_state left) ≡ map openers.disabled_opener (brackets_of left))
    × (wikilinks_of (on_states disabled_state left) ≡ map openers.disabled_opener (wikilinks_of left))

all_disabled : (left : List (Entry ℕ)) → Disabled left
all_disabled [] = (refl, refl)
all_disabled (done a below ∷ left) = all_disabled left
all_disabled (waits m a ∷ left) = by m.is_image m.bracket m.wikilink (all_disabled left)
  where
    by : (i : Bool) (b w : Flag) → Disabled left
        → Disabled (waits (record { is_image = i; bracket = b; wikilink = w }) a ∷ left)
    by true b w e = (disabled_held a.note true b _ _ e.0, disabled_held a.note true w _ _ e.1)
    by false b w e = (disabled_held a.note false b _ _ e.0, disabled_held a.note false w _ _ e.1)

brackets_folded : (left : List (Entry ℕ)) → brackets_of (second_folded left) ≡ brackets_of left
brackets_folded [] = refl
brackets_folded (done a below ∷ left) = refl
brackets_folded (waits m a ∷ left) = refl

no_brackets : (left : List (Entry ℕ)) → (brackets_of (on_states without_bracket left) ≡ [])
    × (wikilinks_of (on_states without_bracket left) ≡ wikilinks_of left)
no_brackets [] = (refl, refl)
no_brackets (done a below ∷ left) = no_brackets left
no_brackets (waits m a ∷ left) =
    let r = no_brackets left in (r.0, ap (held_as a.note m.is_image m.wikilink) r.1)

no_wikilinks : (left : List (Entry ℕ)) → (wikilinks_of (on_states without_wikilink left) ≡ [])
    × (brackets_of (on_states without_wikilink left) ≡ brackets_of left)
no_wikilinks [] = (refl, refl)
no_wikilinks (done a below ∷ left) = no_wikilinks left
no_wikilinks (waits m a ∷ left) =
    let r = no_wikilinks left in (r.0, ap (held_as a.note m.is_image m.bracket) r.1)

-- the stacks at an opener of the left list
module _ (nodes : List (Node Item)) (closer : ℕ) (left : List (Entry ℕ)) (c : Closing ℕ)
    (s : StandsBefore nodes closer left c) (rises : LeftRises left) (o : Split ℕ) (h : IsSplit left o) where
  abbrev n : ℕ
  n = o.opener.note

  onto : (f : Forest (TreeNode ℕ)) → trees_onto left f
      ≡ trees_onto o.before (node o.opener nil (trees_onto h.after_then f))
  onto f =
      ap (λ (l : List (Entry ℕ)). trees_onto l f) h.left_is
      ∙ onto_append h.after_then (waits h.mark_then o.opener ∷ o.before) f

  rising : AreRising (roots (numbers_of (trees_onto o.before (node o.opener nil (trees_onto h.after_then nil)))))
  rising = subst (λ (f : Forest (TreeNode ℕ)). AreRising (roots (numbers_of f))) (onto nil) rises

  links : LinksOn nodes n o.before
  links =
      links_on s.source s.tables nodes s.first o.before o.opener nil (trees_onto h.after_then (node c.node nil c.rest))
      nil
      (trees_onto h.after_then nil)
      (rw (onto (node c.node nil c.rest)) at s.holds) rising

  later : AreAfter n h.after_then
  later = after_all n h.after_then nil (rising_from o.before (node o.opener nil (trees_onto h.after_then nil)) rising).0

  before_by : (flag : OpenerState → Flag) → before n (held_by flag left) ≡ held_by flag o.before
  before_by flag =
      rw h.left_is (before_opener flag nodes h.mark_then o.opener h.after_then o.before later links)

  brackets_before : before n (brackets_of left) ≡ brackets_of o.before
  brackets_before = ap (before n) (brackets_by left) ∙ before_by for_bracket ∙ sym (brackets_by o.before)

  wikilinks_second : without_second nodes n (before n (wikilinks_of left)) ≡ wikilinks_of (second_folded o.before)
  wikilinks_second =
      rw (wikilinks_by left, before_by for_wikilink, wikilinks_by (second_folded o.before))
      (second_gone nodes n o.before links)

  -- they stay
  wikilinks_left : before n (without_second nodes n (before n (wikilinks_of left)))
      ≡ wikilinks_of (second_folded o.before)
  wikilinks_left =
      rw (wikilinks_second, wikilinks_by (second_folded o.before))
      (stays_all for_wikilink nodes n n (second_folded o.before) (links_folded nodes n o.before links) (omega arith))

  -- before a link or an image
  link_brackets : (i : Bool)
      → (if i then before n (brackets_of left) else map openers.disabled_opener (before n (brackets_of left)))
      ≡ brackets_of (before_link i o.before)
  link_brackets true = brackets_before ∙ sym (brackets_folded o.before)
  link_brackets false =
      ap (map openers.disabled_opener) (brackets_before ∙ sym (brackets_folded o.before))
      ∙ sym (all_disabled (second_folded o.before)).0

  link_wikilinks : (i : Bool)
      → (let held = without_second nodes n (before n (wikilinks_of left)) in if i then before n held
      else map openers.disabled_opener (before n held))
      ≡ wikilinks_of (before_link i o.before)
  link_wikilinks true = wikilinks_left
  link_wikilinks false = ap (map openers.disabled_opener) wikilinks_left
      ∙ sym (all_disabled (second_folded o.before)).1

  -- before a footnote reference
  footnote_stacks : (w : BracketContext) (i : Bool) (name : List ℕ)
      → let to = footnote_onto w c i o.opener name (before_footnote o.before) in
      ([] ≡ brackets_of to) × (before n (without_second nodes n (before n (wikilinks_of left))) ≡ wikilinks_of to)
  footnote_stacks w true name =
      let none = no_brackets (second_folded o.before) in (sym none.0, wikilinks_left ∙ sym none.1)
  footnote_stacks w false name =
      let none = no_brackets (second_folded o.before) in (sym none.0, wikilinks_left ∙ sym none.1)

  -- before a wikilink
  wikilink_brackets : map openers.disabled_opener (before n (brackets_of left)) ≡ brackets_of (before_wikilink o.before)
  wikilink_brackets =
      ap (map openers.disabled_opener) brackets_before ∙ sym (all_disabled o.before).0
      ∙ sym (no_wikilinks (on_states disabled_state o.before)).1

  wikilink_wikilinks : [] ≡ wikilinks_of (before_wikilink o.before)
  wikilink_wikilinks = sym (no_wikilinks (on_states disabled_state o.before)).0

-- what each kind leaves of the stacks
abbrev pub Finishes : List (Node Item) → ClosedBracket → (brackets wikilinks brackets' wikilinks' : List Waiting)
    → Type 0
Finishes nodes Text brackets wikilinks brackets' wikilinks' = (brackets' ≡ brackets) × (wikilinks' ≡ wikilinks)
Finishes nodes (Link opener target end next) brackets wikilinks brackets' wikilinks' =
    (brackets' ≡ openers.waiting_before_link opener brackets)
    × (wikilinks' ≡ openers.waiting_before_link opener
    (without_second nodes opener.node (before opener.node wikilinks)))
Finishes nodes (Footnote opener name) brackets wikilinks brackets' wikilinks' =
    (brackets' ≡ []) × (wikilinks'
    ≡ before opener.node (without_second nodes opener.node (before opener.node wikilinks)))
Finishes nodes (Wikilinked opener name has_pothole shown end) brackets wikilinks brackets' wikilinks' =
    (brackets' ≡ openers.waiting_before_wikilink opener.node brackets) × (wikilinks' ≡ [])

-- so they hold what is left
pub finished : (nodes : List (Node Item)) (found : ClosedBracket)
    (brackets wikilinks brackets' wikilinks' : List Waiting)
    → Finishes nodes found brackets wikilinks brackets' wikilinks'
    → (w : BracketContext) (c : Closing ℕ) (closer : ℕ) (left : List (Entry ℕ)) (becomes : Becomes ℕ) (p : Progress ℕ)
    → StandsBefore nodes closer left c → LeftRises left → SplitsAs left becomes → IsBecome w becomes found
    → brackets ≡ brackets_of left → wikilinks ≡ wikilinks_of left → p.left ≡ left
    → (brackets' ≡ brackets_of (put w c becomes p).left) × (wikilinks' ≡ wikilinks_of (put w c becomes p).left)
finished nodes Text brackets wikilinks brackets' wikilinks' f w c closer left a_text p s rises split is eb ew ep =
    (f.0 ∙ eb ∙ ap brackets_of (sym ep), f.1 ∙ ew ∙ ap wikilinks_of (sym ep))
finished nodes (Link opener target end next) brackets wikilinks brackets' wikilinks' f w c closer left
    (a_link o view titles to on) p s rises split is eb ew ep =
    let left_then = rw (is.0, eb, ew) at f in (
      left_then.0 ∙ link_brackets nodes closer left c s rises o split o.state.is_image,
      left_then.1 ∙ link_wikilinks nodes closer left c s rises o split o.state.is_image,
    )
finished nodes (Footnote opener label) brackets wikilinks brackets' wikilinks' f w c closer left (a_footnote o name) p s
    rises split is eb ew ep =
    let stacks = footnote_stacks nodes closer left c s rises o split w o.state.is_image name in
    let left_then = rw (is.0, ew) at f in (left_then.0 ∙ stacks.0, left_then.1 ∙ stacks.1)
finished nodes (Wikilinked opener label has_pothole shown end) brackets wikilinks brackets' wikilinks' f w c closer left
    (a_wikilink o found to) p s rises split is eb ew ep =
    let left_then = rw (is.0, eb) at f in (
      left_then.0 ∙ wikilink_brackets nodes closer left c s rises o split,
      left_then.1 ∙ wikilink_wikilinks nodes closer left c s rises o split,
    )
finished nodes found brackets wikilinks brackets' wikilinks' f w c closer left becomes p s rises split is eb ew ep
    = absurd is
