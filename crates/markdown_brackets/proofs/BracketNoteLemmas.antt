-- Brackets do not depend on notes: what a `]` becomes is decided by the parts of nodes only, and its effect on a left
-- list with other notes is its effect on the list, with those notes.
use Rattle.std.proofs.Common.{◌≡◌, ℕ, Bool, true, false, List, [], ◌∷◌, Option, Some, None, refl, ap, ◌∙◌, nat_le}
use Rattle.std.proofs.Math.Path.{fun_ext}
use Rattle.std.specs.Prelude.{if◌then◌else◌, unwrap_or, ◌+◌}
use Rattle.std.specs.Option.{option_map, option_and_then, option_or}
use Rattle.markdown_base.specs.Event.{LinkView}
use Rattle.markdown_base.specs.Forest.{Forest, first_root, nil, node}
use Rattle.markdown_base.specs.declared.item.ItemBody.{ItemBody}
use Rattle.markdown_base.specs.declared.item.ItemBody.TheVariants as body
use Rattle.markdown_base.specs.declared.tag.LinkType.{LinkType}
use Rattle.markdown_base.specs.declared.tag.LinkType.TheVariants as kind
use Rattle.markdown_document.specs.Document.{TreeNode}
use Rattle.markdown_document.specs.TreeNodes.{annotate, annotated}
use Rattle.markdown_document.specs.ChainRest.{as_item, begun_at, past_byte, start_of, end_of, open_body}
use Rattle.markdown_brackets.specs.BracketDecision.{BracketContext, Becomes, Closing, Decision, Written, LinkReference}
use Rattle.markdown_brackets.specs.BracketDecision.{Progress, Wikilink, a_footnote, a_link, a_text, a_wikilink}
use Rattle.markdown_brackets.specs.BracketDecision.{block_text, bracket_found, carried_out, closer_ends_at, decided}
use Rattle.markdown_brackets.specs.BracketDecision.{footnote_label, form_of, found, full, if_some, inline_link}
use Rattle.markdown_brackets.specs.BracketDecision.{label_of_opener, left_for_one, lines, link_reference, looked_up}
use Rattle.markdown_brackets.specs.BracketDecision.{own_written, past_second, question_at, reference_written}
use Rattle.markdown_brackets.specs.BracketDecision.{second_end, shown_children, start_of_first_past, to_be, wikilink}
use Rattle.markdown_brackets.specs.BracketDecision.{wikilink_by, wikilink_found, wikilink_in, written}
use Rattle.markdown_brackets.specs.FootnoteUse.{footnote_style, is_reference}
use Rattle.markdown_brackets.specs.BracketNotes.{ReaderFollows, BracketNoteLaw, annotate_entry, annotate_left}
use Rattle.markdown_brackets.specs.BracketNotes.{annotate_progress}
use Rattle.markdown_brackets.specs.ClosingBracket.{closed, footnote_onto, put, put_decided}
use Rattle.markdown_brackets.specs.LeftList.{Entry, OpenerState, Split, before_footnote, before_link, before_wikilink}
use Rattle.markdown_brackets.specs.LeftList.{with_entry, bracket_taken, change_nearest, disabled_state, done, inside}
use Rattle.markdown_brackets.specs.LeftList.{is_live, nearest, on_state, on_states, opens_bracket, opens_wikilink}
use Rattle.markdown_brackets.specs.LeftList.{second_folded, trees_onto, waits, wikilink_taken, without_bracket}
use Rattle.markdown_brackets.specs.LeftList.{without_wikilink}
use Rattle.markdown_brackets.specs.LinkTail.{LinkTail, link_tail}
use Rattle.markdown_brackets.specs.Lookup.{LookedUp, look_up}
use Rattle.markdown_brackets.specs.ReadChain.{Reader, closing_of, is_next, opened, read, read_as, read_chain, read_past}
use Rattle.markdown_brackets.specs.Reference.{FoundLabel, Form, collapsed, is_opener, reference, shortcut}
use Rattle.markdown_brackets.specs.Wikilink.{Shows, WikilinkBody, has_pothole, shows_from, shows_name, shows_nothing}
use Rattle.markdown_brackets.specs.Wikilink.{wikilink_body}

abbrev shown_as : {A : Type 0} → WikilinkBody → Forest (TreeNode A) → Wikilink A
shown_as b children = record { name = b.name; has_pothole = has_pothole b.shows; children = children }

module _ {A B : Type 0} (f : A → B) where
  -- the same with other notes
  abbrev pub annotate_split : Split A → Split B
  annotate_split o = record {
    state = o.state;
    opener = annotate f o.opener;
    after = annotate_left f o.after;
    before = annotate_left f
        o.before;
  }

  abbrev pub annotate_closing : Closing A → Closing B
  annotate_closing c = record
      { node = annotate f c.node; could_be_reference = c.could_be_reference; rest = annotated f c.rest }

  abbrev pub annotate_wikilink : Wikilink A → Wikilink B
  annotate_wikilink found = record
      { name = found.name; has_pothole = found.has_pothole; children = annotated f found.children }

  abbrev pub annotate_becomes : Becomes A → Becomes B
  annotate_becomes a_text = a_text
  annotate_becomes (a_link o target titles end next) = a_link (annotate_split o) target titles end next
  annotate_becomes (a_footnote o name) = a_footnote (annotate_split o) name
  annotate_becomes (a_wikilink o found end) = a_wikilink (annotate_split o) (annotate_wikilink found) end

  abbrev pub annotate_found : Written A → Written B
  annotate_found (inline_link o t) = inline_link (annotate_split o) t
  annotate_found (link_reference o r) = link_reference (annotate_split o) r
  annotate_found (footnote_label o name) = footnote_label (annotate_split o) name
  annotate_found (wikilink o v end) = wikilink (annotate_split o) (annotate_wikilink v) end

  abbrev pub annotate_decision : Decision A → Decision B
  annotate_decision d = record { becomes = annotate_becomes d.becomes; progress = annotate_progress f d.progress }

  -- states are changed by states alone
  pub change_annotate : (test : OpenerState → Bool) (g : OpenerState → OpenerState) (left : List (Entry A))
      → change_nearest test g (annotate_left f left)
      ≡ annotate_left f (change_nearest test g left)
  change_annotate test g [] = refl
  change_annotate test g (done a below ∷ left) = rw (change_annotate test g left) refl
  change_annotate test g (waits m a ∷ left) = by (test m) (change_annotate test g left)
    where
      by : (b : Bool) → change_nearest test g (annotate_left f left) ≡ annotate_left f (change_nearest test g left)
          → (if b then waits (g m) (annotate f a) ∷ annotate_left f left else waits m (annotate f a)
          ∷ change_nearest test g
          (annotate_left f left))
          ≡ annotate_left f (if b then waits (g m) a ∷ left else waits m a ∷ change_nearest test g left)
      by true e = refl
      by false e = ap (λ l. waits m (annotate f a) ∷ l) e

  pub on_mark_annotate : (g : OpenerState → OpenerState) (e : Entry A) → on_state g
      (annotate_entry f e) ≡ annotate_entry f (on_state g e)
  on_mark_annotate g (done a below) = refl
  on_mark_annotate g (waits m a) = refl

  pub on_marks_annotate : (g : OpenerState → OpenerState) (left : List (Entry A)) → on_states g (annotate_left f left)
      ≡ annotate_left f (on_states g left)
  on_marks_annotate g [] = refl
  on_marks_annotate g (e ∷ left) = rw (on_mark_annotate g e, on_marks_annotate g left) refl

  pub second_annotate : (left : List (Entry A)) → second_folded (annotate_left f left) ≡ annotate_left f
      (second_folded left)
  second_annotate [] = refl
  second_annotate (e ∷ left) = ap (λ x. x ∷ annotate_left f left) (on_mark_annotate without_wikilink e)

  pub before_link_annotate : (is_image : Bool) (left : List (Entry A)) → before_link is_image (annotate_left f left)
      ≡ annotate_left f (before_link is_image left)
  before_link_annotate true left = second_annotate left
  before_link_annotate false left = ap (on_states disabled_state) (second_annotate left)
      ∙ on_marks_annotate disabled_state (second_folded left)

  pub before_wikilink_annotate : (left : List (Entry A)) → before_wikilink (annotate_left f left)
      ≡ annotate_left f (before_wikilink left)
  before_wikilink_annotate left =
      ap (on_states without_wikilink) (on_marks_annotate disabled_state left)
      ∙ on_marks_annotate without_wikilink (on_states disabled_state left)

  pub before_footnote_annotate : (left : List (Entry A)) → before_footnote (annotate_left f left)
      ≡ annotate_left f (before_footnote left)
  before_footnote_annotate left = ap (on_states without_bracket) (second_annotate left)
      ∙ on_marks_annotate without_bracket (second_folded left)

  -- an option is mapped in two ways
  mapped : {X Y Z V : Type 0} (g : Y → Z) (h : X → Y) (g' : V → Z) (h' : X → V) → ((x : X) → g (h x) ≡ g' (h' x))
      → (o : Option X) → option_map g (option_map h o) ≡ option_map g' (option_map h' o)
  mapped g h g' h' same None = refl
  mapped g h g' h' same (Some x) = ap Some (same x)

  -- the same opener is nearest
  pub nearest_annotate : (test : OpenerState → Bool) (left : List (Entry A))
      → nearest test (annotate_left f left) ≡ option_map annotate_split (nearest test left)
  nearest_annotate test [] = refl
  nearest_annotate test (done a below ∷ left) =
      rw (nearest_annotate test left) (mapped (with_entry (done (annotate f a)
      (annotated f below))) annotate_split annotate_split
      (with_entry (done a below)) (λ o. refl) (nearest test left))
  nearest_annotate test (waits m a ∷ left) = by (test m) (nearest_annotate test left)
    where
      by : (b : Bool) → nearest test (annotate_left f left) ≡ option_map annotate_split (nearest test left)
          → (if b then Some (record { state = m; opener = annotate f a; after = []; before = annotate_left f left })
          else option_map (with_entry (waits m (annotate f a))) (nearest test (annotate_left f left)))
          ≡ option_map annotate_split (if b then Some (record { state = m; opener = a; after = []; before = left })
          else option_map (with_entry (waits m a)) (nearest test left))
      by true e = refl
      by false e = ap (option_map (with_entry (waits m (annotate f a)))) e
          ∙ mapped (with_entry (waits m (annotate f a))) annotate_split annotate_split (with_entry (waits m a))
          (λ o. refl)
          (nearest test left)

  -- the trees of a left list
  pub onto_annotate : (left : List (Entry A)) (later : Forest (TreeNode A))
      → trees_onto (annotate_left f left) (annotated f later)
      ≡ annotated f (trees_onto left later)
  onto_annotate [] later = refl
  onto_annotate (done a below ∷ left) later = onto_annotate left (node a below later)
  onto_annotate (waits m a ∷ left) later = onto_annotate left (node a nil later)

  pub inside_annotate : (o : Split A) → inside (annotate_split o) ≡ annotated f (inside o)
  inside_annotate o = onto_annotate o.after nil

  -- the chain after a `]` is read by its parts
  pub first_annotate : (rest : Forest (TreeNode A)) → option_map as_item (first_root (annotated f rest))
      ≡ option_map as_item (first_root rest)
  first_annotate nil = refl
  first_annotate (node a below after) = refl

  pub past_second_annotate : (trees : Forest (TreeNode A)) → past_second (annotated f trees) ≡ annotated f
      (past_second trees)
  past_second_annotate nil = refl
  past_second_annotate (node a below after) = refl

  pub is_next_annotate : (test : ItemBody → Bool) (rest : Forest (TreeNode A)) → is_next test (annotated f rest)
      ≡ is_next test rest
  is_next_annotate test nil = refl
  is_next_annotate test (node a below after) = refl

  pub start_annotate : (rest : Forest (TreeNode A)) (i : ℕ) → start_of_first_past (annotated f rest) i
      ≡ start_of_first_past rest i
  start_annotate nil i = refl
  start_annotate (node a below after) i = rw (start_annotate after i) refl

  pub ends_at_annotate : (i : ℕ) (rest : Forest (TreeNode A)) → closer_ends_at i
      (annotated f rest) ≡ closer_ends_at i rest
  ends_at_annotate i nil = refl
  ends_at_annotate i (node a below after) = rw (ends_at_annotate i after) refl

  pub past_byte_annotate : (i : ℕ) (chain : Forest (TreeNode A)) → past_byte i (annotated f chain)
      ≡ annotated f (past_byte i chain)
  past_byte_annotate i nil = refl
  past_byte_annotate i (node a below after) = by (nat_le (end_of a) i) (past_byte_annotate i after)
    where
      by : (b : Bool) → past_byte i (annotated f after) ≡ annotated f (past_byte i after)
          → (if b then past_byte i (annotated f after) else node (begun_at i (annotate f a)) (annotated f below)
          (annotated f after))
          ≡ annotated f (if b then past_byte i after else node (begun_at i a) below after)
      by true e = e
      by false e = refl

  module _ (w : BracketContext) where
    -- what is written at an opener and its `]`
    form_annotate : (c : Closing A) → form_of w (annotate_closing c) ≡ form_of w c
    form_annotate c =
        rw (first_annotate c.rest, past_second_annotate c.rest, first_annotate (past_second c.rest)) refl

    own_annotate : (o : Split A) (link_type : LinkType) (end next : ℕ) (own : Option FoundLabel)
        → option_and_then (own_written w (annotate_split o) link_type end next) own
        ≡ option_map annotate_found (option_and_then (own_written w o link_type end next) own)
    own_annotate o link_type end next None = refl
    own_annotate o link_type end next (Some l) = by l.is_footnote
        (is_reference (footnote_style w.setting.rules.syntax) (w.setting.rules.is_footnote l.name))
      where
        link : LinkReference
        link = record { link_type = link_type; label = l.name; end = end; next = next; spends = [] }

        by : (is_footnote is : Bool)
            → (if is_footnote then if is then Some (footnote_label (annotate_split o) l.name) else None
            else Some (link_reference (annotate_split o) link))
            ≡ option_map annotate_found (if is_footnote then if is then Some (footnote_label o l.name) else None
            else Some (link_reference o link))
        by true true = refl
        by true false = refl
        by false is = refl

    if_annotate : (b : Bool) (x : Option (Written B)) (y : Option (Written A)) → x ≡ option_map annotate_found y
        → (if b then x else None) ≡ option_map annotate_found (if b then y else None)
    if_annotate true x y e = e
    if_annotate false x y e = refl

    reference_annotate : (o : Split A) (end : ℕ) (closes : ℕ → Bool) (own : Option FoundLabel) (form : Form)
        → reference_written w (annotate_split o) end closes own form
        ≡ option_map annotate_found (reference_written w o end closes own form)
    reference_annotate o end closes own (reference label to) =
        if_annotate (closes to) _ (Some (link_reference o (full label to))) refl
    reference_annotate o end closes own collapsed = own_annotate o kind.Collapsed end (end + 2) own
    reference_annotate o end closes own shortcut = own_annotate o kind.Shortcut end end own

    tail_annotate : (o : Split A) (t : Option LinkTail) (other : Option (Written A))
        → option_or (option_map (inline_link (annotate_split o)) t) (option_map annotate_found other)
        ≡ option_map annotate_found (option_or (option_map (inline_link o) t) other)
    tail_annotate o None other = refl
    tail_annotate o (Some t) other = refl

    written_annotate : (c : Closing A) (o : Split A) → written w (annotate_closing c) (annotate_split o)
        ≡ option_map annotate_found (written w c o)
    written_annotate c o =
        let own : Option FoundLabel = label_of_opener w c o in
        let closes : ℕ → Bool = λ i. closer_ends_at i c.rest in
        let tail = link_tail (lines w) (start_of_first_past c.rest) (block_text w) (end_of c.node) in
        rw (
          fun_ext (start_annotate c.rest),
          fun_ext (λ i. ends_at_annotate i c.rest),
          form_annotate c,
          reference_annotate o (end_of c.node) closes own (form_of w c),
        ) (tail_annotate o tail (reference_written w o (end_of c.node) closes own (form_of w c)))

    -- what was found is carried out
    carried_annotate : (x : Option (Written A)) (p : Progress A)
        → carried_out w (option_map annotate_found x) (annotate_progress f p) ≡ annotate_decision (carried_out w x p)
    carried_annotate None p = refl
    carried_annotate (Some (inline_link o t)) p = refl
    carried_annotate (Some (link_reference o r)) p =
        let rules = w.setting.rules in
        by (look_up rules.definitions rules.asks p.state.limit p.state.answers (question_at o r))
      where
        target : (t : Option LinkView)
            → unwrap_or (option_map (λ t. a_link (annotate_split o) t [] r.end r.next) t) a_text
            ≡ annotate_becomes (unwrap_or (option_map (λ t. a_link o t [] r.end r.next) t) a_text)
        target None = refl
        target (Some t) = refl

        by : (result : LookedUp) → looked_up (annotate_split o) r result (annotate_progress f p)
            ≡ annotate_decision (looked_up o r result p)
        by result = ap (λ becomes. to_be becomes (annotate_progress f (looked_up o r result p).progress))
            (target result.target)
    carried_annotate (Some (footnote_label o name)) p = refl
    carried_annotate (Some (wikilink o v end)) p = refl

    -- a wikilink
    if_some_annotate : (trees : Forest (TreeNode A)) → if_some (annotated f trees) ≡ option_map (annotated f)
        (if_some trees)
    if_some_annotate nil = refl
    if_some_annotate (node a below after) = refl

    children_annotate : (first : TreeNode A) (trees : Forest (TreeNode A)) (end : ℕ) (shows : Shows)
        → shown_children w (annotate f first) (annotated f trees) end shows
        ≡ option_map (annotated f) (shown_children w first trees end shows)
    children_annotate first trees end shows_name = refl
    children_annotate first trees end (shows_nothing at) = refl
    children_annotate first trees end (shows_from at) = ap if_some (past_byte_annotate at trees)
        ∙ if_some_annotate (past_byte at trees)

    body_annotate : (first : TreeNode A) (trees : Forest (TreeNode A)) (end : ℕ) (b : Option WikilinkBody)
        → option_and_then (wikilink_by w (annotate f first) (annotated f trees) end) b
        ≡ option_map annotate_wikilink (option_and_then (wikilink_by w first trees end) b)
    body_annotate first trees end None = refl
    body_annotate first trees end (Some b) =
        ap (option_map (shown_as b)) (children_annotate first trees end b.shows)
        ∙ mapped (shown_as b) (annotated f) annotate_wikilink (shown_as b) (λ g. refl)
        (shown_children w first trees end b.shows)

    pub wikilink_in_annotate : (trees : Forest (TreeNode A)) (end : ℕ) → wikilink_in w (annotated f trees) end
        ≡ option_map annotate_wikilink (wikilink_in w trees end)
    wikilink_in_annotate nil end = refl
    wikilink_in_annotate (node first below after) end = body_annotate first (node first below after) end
        (wikilink_body w.setting.text w.above.block_end (start_of first) end)

    -- what is found at a `]`, step by step
    either_annotate : (x y : Option (Written A)) → option_or (option_map annotate_found x) (option_map annotate_found y)
        ≡ option_map annotate_found (option_or x y)
    either_annotate None y = refl
    either_annotate (Some x) y = refl

    opener_annotate : (g : Split B → Option (Written B)) (h : Split A → Option (Written A))
        → ((o : Split A) → g (annotate_split o) ≡ option_map annotate_found (h o)) → (o : Option (Split A))
        → option_and_then g (option_map annotate_split o) ≡ option_map annotate_found (option_and_then h o)
    opener_annotate g h same None = refl
    opener_annotate g h same (Some o) = same o

    bracket_annotate : (c : Closing A) (o : Split A) → bracket_found w (annotate_closing c) (annotate_split o)
        ≡ option_map annotate_found (bracket_found w c o)
    bracket_annotate c o = if_annotate (is_live o.state.bracket) (written w (annotate_closing c) (annotate_split o))
        (written w c o)
        (written_annotate c o)

    wikilink_annotate : (c : Closing A) (end : ℕ) (o : Split A) → wikilink_found w (annotate_closing c) end
        (annotate_split o)
        ≡ option_map annotate_found (wikilink_found w c end o)
    wikilink_annotate c end o =
        let found = wikilink_in w (past_second (inside o)) (start_of c.node) in
        if_annotate (is_live o.state.wikilink) _ (option_map (λ v. wikilink o v end) found)
        (rw (inside_annotate o, past_second_annotate (inside o), wikilink_in_annotate (past_second (inside o)) _)
        (mapped (λ v. wikilink (annotate_split o) v end) annotate_wikilink annotate_found (λ v. wikilink o v end)
        (λ v. refl)
        found))

    second_annotate_end : (rest : Forest (TreeNode A)) → second_end w (annotated f rest) ≡ second_end w rest
    second_annotate_end nil = refl
    second_annotate_end (node a below after) = refl

    one_left_annotate : (second : Option ℕ) (left : List (Entry A)) → left_for_one second (annotate_left f left)
        ≡ annotate_left f (left_for_one second left)
    one_left_annotate None left = refl
    one_left_annotate (Some end) left = change_annotate opens_wikilink without_wikilink left

    one_found_annotate : (c : Closing A) (second : Option ℕ) (left : List (Entry A))
        → option_and_then (bracket_found w (annotate_closing c))
        (nearest opens_bracket (left_for_one second (annotate_left f left)))
        ≡ option_map annotate_found
        (option_and_then (bracket_found w c) (nearest opens_bracket (left_for_one second left)))
    one_found_annotate c second left =
        rw (one_left_annotate second left, nearest_annotate opens_bracket (left_for_one second left))
        (opener_annotate (bracket_found w (annotate_closing c)) (bracket_found w c) (bracket_annotate c)
        (nearest opens_bracket (left_for_one second left)))

    two_found_annotate : (c : Closing A) (end : ℕ) (left : List (Entry A))
        → option_and_then (wikilink_found w (annotate_closing c) end)
        (nearest opens_wikilink (bracket_taken (annotate_left f left)))
        ≡ option_map annotate_found
        (option_and_then (wikilink_found w c end) (nearest opens_wikilink (bracket_taken left)))
    two_found_annotate c end left =
        rw (change_annotate opens_bracket without_bracket left, nearest_annotate opens_wikilink (bracket_taken left))
        (opener_annotate (wikilink_found w (annotate_closing c) end) (wikilink_found w c end) (wikilink_annotate c end)
        (nearest opens_wikilink (bracket_taken left)))

    found_annotate : (c : Closing A) (second : Option ℕ) (left : List (Entry A))
        → found w (annotate_closing c) second (annotate_left f left) ≡ option_map annotate_found (found w c second left)
    found_annotate c None left = one_found_annotate c None left
    found_annotate c (Some end) left =
        rw (two_found_annotate c end left, one_found_annotate c (Some end) left)
        (either_annotate (option_and_then (wikilink_found w c end) (nearest opens_wikilink (bracket_taken left)))
        (option_and_then (bracket_found w c) (nearest opens_bracket (wikilink_taken left))))

    -- what a `]` becomes
    pub decided_annotate : (c : Closing A) (p : Progress A) → decided w (annotate_closing c) (annotate_progress f p)
        ≡ annotate_decision (decided w c p)
    unfolding decided
    decided_annotate c p =
        let second = second_end w c.rest in
        let left = left_for_one second p.left in
        rw (
          second_annotate_end c.rest,
          found_annotate c second p.left,
          one_left_annotate second p.left,
          change_annotate opens_bracket without_bracket left,
        ) (carried_annotate (found w c second p.left) (record p { left = bracket_taken left }))

    pub footnote_onto_annotate : (c : Closing A) (is_image : Bool) (opener : TreeNode A) (name : List ℕ)
        (left : List (Entry A))
        → footnote_onto w (annotate_closing c) is_image (annotate f opener) name (annotate_left f left)
        ≡ annotate_left f (footnote_onto w c is_image opener name left)
    footnote_onto_annotate c true opener name left = refl
    footnote_onto_annotate c false opener name left = refl

    -- what is put for it
    pub put_annotate : (c : Closing A) (becomes : Becomes A) (p : Progress A)
        → put w (annotate_closing c) (annotate_becomes becomes) (annotate_progress f p) ≡ annotate_progress f
        (put w c becomes p)
    put_annotate c a_text p = refl
    put_annotate c (a_link o target titles end next) p = rw
        (inside_annotate o, before_link_annotate o.state.is_image o.before) refl
    put_annotate c (a_footnote o name) p =
        rw (before_footnote_annotate o.before)
        (ap (λ l. record (annotate_progress f p) { left = l; goes_on = Some (end_of c.node) })
        (footnote_onto_annotate c o.state.is_image o.opener name (before_footnote o.before)))
    put_annotate c (a_wikilink o found end) p = rw (before_wikilink_annotate o.before) refl

    pub closed_annotate : (c : Closing A) (p : Progress A) → closed w (annotate_closing c) (annotate_progress f p)
        ≡ annotate_progress f (closed w c p)
    unfolding closed
    closed_annotate c p = ap (put_decided w (annotate_closing c)) (decided_annotate c p)
        ∙ put_annotate c (decided w c p).becomes (decided w c p).progress

    -- a `]` of a chain
    pub closing_annotate : (could : Bool) (a : TreeNode A) (rest : Forest (TreeNode A)) (p : Progress A)
        → closed w (closing_of could (annotate f a) (annotated f rest) (annotate_progress f p)) (annotate_progress f p)
        ≡ annotate_progress f (closed w (closing_of could a rest p) p)
    closing_annotate could a rest p = closed_annotate (closing_of could a rest p) p

    pub opened_annotate : (is_image : Bool) (a : TreeNode A) (rest : Forest (TreeNode A)) (p : Progress A)
        → opened w is_image (annotate f a) (annotated f rest) (annotate_progress f p)
        ≡ annotate_progress f (opened w is_image a rest p)
    opened_annotate is_image a rest p = rw (is_next_annotate is_opener rest) refl

    -- a chain
    module _ (others : Reader A) (others' : Reader B) (follows : ReaderFollows f others others') where
      pub read_as_annotate : (b : ItemBody) (a : TreeNode A) (below rest : Forest (TreeNode A)) (p : Progress A)
          → read_as w others' b (annotate f a) (annotated f below) (annotated f rest) (annotate_progress f p)
          ≡ annotate_progress f (read_as w others b a below rest p)
      read_as_annotate body.MaybeLinkOpen a below rest p = opened_annotate false a rest p
      read_as_annotate body.MaybeImage a below rest p = opened_annotate true a rest p
      read_as_annotate (body.MaybeLinkClose could) a below rest p = closed_annotate (closing_of could a rest p) p
      read_as_annotate other a below rest p = follows a below rest p

      pub read_past_annotate : (goes_on : Option ℕ) (a : TreeNode A) (below rest : Forest (TreeNode A)) (p : Progress A)
          → read_past w others' goes_on (annotate f a) (annotated f below) (annotated f rest) (annotate_progress f p)
          ≡ annotate_progress f (read_past w others goes_on a below rest p)
      read_past_annotate None a below rest p = read_as_annotate (open_body a.part.shape) a below rest p
      read_past_annotate (Some i) a below rest p = by (nat_le (end_of a) i)
        where
          by : (b : Bool) → (if b then annotate_progress f p else read w others' (annotate f (begun_at i a))
              (annotated f below) (annotated f rest)
              (record (annotate_progress f p) { goes_on = None }))
              ≡ annotate_progress f (if b then p else read w others (begun_at i a) below rest
              (record p { goes_on = None }))
          by true = refl
          by false = read_as_annotate (open_body (begun_at i a).part.shape) (begun_at i a) below rest
              (record p { goes_on = None })

      pub read_chain_annotate : (chain : Forest (TreeNode A)) (p : Progress A)
          → read_chain w others' (annotated f chain) (annotate_progress f p)
          ≡ annotate_progress f (read_chain w others chain p)
      unfolding read_chain
      read_chain_annotate nil p = refl
      read_chain_annotate (node a below rest) p =
          ap (read_chain w others' (annotated f rest)) (read_past_annotate p.goes_on a below rest p)
          ∙ read_chain_annotate rest (read_past w others p.goes_on a below rest p)

pub note_law : {A B : Type 0} → BracketNoteLaw A B
note_law f w others others' follows chain p = read_chain_annotate f w others others' follows chain p
