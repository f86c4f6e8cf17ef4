-- Runs stay whole in pass one: what waits for pairing stays as it is, what replaces a find or an opener is not a run's
-- character, and what is left of a chain past a byte offset begins with a whole character of a run or with none.
use Rattle.markdown_resolver.proofs.EncloseLemmas.{run_none}
use Rattle.markdown_resolver.proofs.PutLemmas.{run_closed}
use Rattle.std.proofs.Common.{◌≡◌, ℕ, suc, ◌+◌, ◌-◌, ◌<◌, Bool, true, false, List, Option, Some, None, max, refl, sym}
use Rattle.std.proofs.Common.{ap, subst, ◌∙◌, nat_le, arith}
use Rattle.std.proofs.lemmas.Bool.{leb-false}
use Rattle.std.specs.Prelude.{IfSome, if◌then◌else◌, [], ◌∷◌, ⊤}
use Rattle.std.specs.Option.{option_map}
use Rattle.markdown_base.specs.BlockTree.{Numbered}
use Rattle.markdown_base.specs.Forest.{Forest, nil, node, first_root}
use Rattle.markdown_base.specs.WellFormed.{RunCharacter, run_character, StandsInRun, RunsAreWhole}
use Rattle.markdown_base.specs.declared.item.ItemBody.{ItemBody}
use Rattle.markdown_base.specs.declared.item.ItemBody.TheVariants as body
use Rattle.markdown_base.specs.Event.{LinkView}
use Rattle.markdown_brackets.specs.BracketDecision.{BracketContext, Closing, Progress, Wikilink, past_second, text_from}
use Rattle.markdown_brackets.specs.BracketDecision.{wikilink_in}
use Rattle.markdown_brackets.specs.ClosingBracket.{closed, footnote_from, footnote_onto, linked, tag_for}
use Rattle.markdown_brackets.specs.ClosingBracket.{wikilink_target}
use Rattle.markdown_brackets.specs.LeftList.{Entry, OpenerState, Split, before_footnote, before_link, with_entry}
use Rattle.markdown_brackets.specs.LeftList.{change_nearest, disabled_state, done, inside, nearest, on_states}
use Rattle.markdown_brackets.specs.LeftList.{opens_bracket, opens_wikilink, second_folded, trees_onto, waits}
use Rattle.markdown_brackets.specs.LeftList.{without_bracket, without_wikilink, all_done}
use Rattle.markdown_brackets.specs.ReadChain.{begun, closing_of, opened, read, read_as, read_chain, read_past}
use Rattle.markdown_brackets.proofs.ClosingBracketLemmas.{Cases, in_each_case, some_of}
use Rattle.markdown_brackets.proofs.NoLinkLemmas.{wikilink_keeps}
use Rattle.markdown_brackets.proofs.QuestionEndsLemmas.{cut_body}
use Rattle.markdown_document.specs.EnclosingBlocks.{EnclosingBlocks}
use Rattle.markdown_document.specs.ChainRest.{begun_at, cut_shape, end_of, joined_chains, open_body, past, past_byte}
use Rattle.markdown_document.specs.ChainRest.{start_of}
use Rattle.markdown_document.specs.Document.{Notes, Origin, Shape, enclosed, unresolved, TreeNode, as_text}
use Rattle.markdown_document.specs.Document.{is_unresolved}
use Rattle.markdown_document.specs.TreeNodes.{Begins}
use Rattle.markdown_document.specs.Setting.{Setting, ReferenceState}
use Rattle.markdown_document.specs.Waiting.{is_quiet, waits_for_pairing}
use Rattle.markdown_spans.specs.Finds.{end_of_find, find, read_tree, read_unless, trees_for}
use Rattle.markdown_spans.proofs.FindsLemmas.{AllClosed, begins_trees, closed_trees}
use Rattle.markdown_resolver.specs.Laws.{RunsStandWhole, by_place}
use Rattle.markdown_resolver.specs.PassOne.{bracket_context, pass_one, put_passed, read_on, read_other}

-- what does not wait for pairing is not a run's character, nor is what is not open
body_no_run : (b : ItemBody) → waits_for_pairing b ≡ false → run_character b ≡ None
body_no_run (body.MaybeEmphasis count opens closes) h = cc h
body_no_run other h = refl

quiet_no_run : (shape : Shape) → is_quiet shape ≡ false → run_character (open_body shape) ≡ None
quiet_no_run (unresolved b) h = body_no_run b h
quiet_no_run other h = refl

closed_no_run : (shape : Shape) → is_unresolved shape ≡ false → run_character (open_body shape) ≡ None
closed_no_run (unresolved b) h = cc h
closed_no_run other h = refl

-- an item that begins where it did
same_start : (start end i : ℕ) → end ≡ suc start → i < end → max start i ≡ start
same_start start end i one past = omega (arith, one, past)

module _ {A : Type 0} where
  -- runs are whole at a node, by what follows it
  abbrev IsWholeAt : List ℕ → TreeNode A → Forest (TreeNode A) → Type 0
  IsWholeAt source a after = RunsAreWhole source (by_place a) (option_map by_place (first_root after))

  -- so it is where the node is not a run's character
  whole_other : (source : List ℕ) (a : TreeNode A) (after : Forest (TreeNode A)) → run_character
      (open_body a.part.shape)
      ≡ None → IsWholeAt source a after
  whole_other source a after none = rw none tt

  -- trees of which nothing is open, and then a chain in which runs are whole
  closed_whole : (source : List ℕ) (trees : Forest (TreeNode A)) → AllClosed trees → RunsStandWhole source trees
  closed_whole source nil closed = tt
  closed_whole source (node a below others) closed = (
    whole_other source a others (closed_no_run a.part.shape closed.0),
    closed_whole source below closed.1,
    closed_whole source others closed.2,
  )

  joined_whole : (source : List ℕ) (trees after : Forest (TreeNode A)) → AllClosed trees → RunsStandWhole source after
      → RunsStandWhole source (joined_chains trees after)
  joined_whole source nil after closed w = w
  joined_whole source (node a below others) after closed w = (
    whole_other source a (joined_chains others after) (closed_no_run a.part.shape closed.0),
    closed_whole source below closed.1,
    joined_whole source others after closed.2 w,
  )

  -- a run's character that ends past a byte offset begins there or later, so it stays whole in what is left past that
  -- offset
  begun_place : (i : ℕ) (a : TreeNode A) → max (start_of a) i ≡ start_of a → by_place (begun_at i a) ≡ by_place a
  begun_place i a same =
      ap (λ (n : ℕ). let p : Numbered = record {
        number = n;
        item = record {
          start = n;
          end = end_of a;
          body = open_body (cut_shape (i - start_of a) a.part.shape);
        };
      } in p) same ∙ ap (λ (b : ItemBody). let p : Numbered = record {
        number = start_of a;
        item = record {
          start = start_of a;
          end = end_of a;
          body = b;
        };
      } in p) (cut_body (i - start_of a) a.part.shape)

  begun_whole : (source : List ℕ) (i : ℕ) (a : TreeNode A) (after : Forest (TreeNode A)) → i < end_of a
      → (o : Option RunCharacter) → run_character (open_body a.part.shape) ≡ o
      → IsWholeAt source a after → IsWholeAt source (begun_at i a) after
  begun_whole source i a after past None e w = whole_other source (begun_at i a) after
      (ap run_character (cut_body (i - start_of a) a.part.shape) ∙ e)
  begun_whole source i a after past (Some c) e w =
      let whole : StandsInRun source (by_place a) (option_map by_place (first_root after)) c =
      subst (λ o. IfSome o (StandsInRun source (by_place a) (option_map by_place (first_root after)))) e w in
      subst (λ p. RunsAreWhole source p (option_map by_place (first_root after)))
      (sym (begun_place i a (same_start (start_of a) (end_of a) i whole.one_byte past))) w

  -- what is left of a chain past a byte offset is whole
  past_byte_whole : (source : List ℕ) (i : ℕ) (f : Forest (TreeNode A)) → RunsStandWhole source f
      → RunsStandWhole source (past_byte i f)
  past_byte_whole source i nil w = tt
  past_byte_whole source i (node a below after) w = by (nat_le (end_of a) i) refl (past_byte_whole source i after w.2)
    where
      by : (ends : Bool) → nat_le (end_of a) i ≡ ends → RunsStandWhole source (past_byte i after)
          → RunsStandWhole source (if ends then past_byte i after else node (begun_at i a) below after)
      by true e later = later
      by false e later = (
        begun_whole source i a after (leb-false (end_of a) i e) (run_character (open_body a.part.shape)) refl w.0,
        w.1,
        w.2,
      )

  past_whole : (source : List ℕ) (goes_on : Option ℕ) (f : Forest (TreeNode A)) → RunsStandWhole source f
      → RunsStandWhole source (past goes_on f)
  past_whole source None f w = w
  past_whole source (Some i) f w = past_byte_whole source i f w

  -- an item that is not a run's character can be replaced by another such item, or by none
  before_other : (source : List ℕ) (b d : TreeNode A) (x y f g : Forest (TreeNode A)) → run_character
      (open_body b.part.shape)
      ≡ None → run_character (open_body d.part.shape) ≡ None
      → (a : TreeNode A) → IsWholeAt source a (node b x f) → IsWholeAt source a (node d y g)
  before_other source b d x y f g was is a h = run_closed source (by_place a) (by_place b) (by_place d)
      (run_character (open_body a.part.shape)) was is h

  before_none : (source : List ℕ) (b : TreeNode A) (x f : Forest (TreeNode A)) → run_character
      (open_body b.part.shape) ≡ None
      → (a : TreeNode A) → IsWholeAt source a (node b x f) → IsWholeAt source a nil
  before_none source b x f was a h = run_none source (by_place a) (by_place b) (run_character (open_body a.part.shape))
      was h

  before_closed : (source : List ℕ) (b : TreeNode A) (below rest trees others : Forest (TreeNode A)) → Begins trees
      → AllClosed trees → run_character (open_body b.part.shape) ≡ None
      → (a : TreeNode A) → IsWholeAt source a (node b below rest) → IsWholeAt source a (joined_chains trees others)
  before_closed source b below rest nil others begins closed none a w = absurd begins
  before_closed source b below rest (node d inner after) others begins closed none a w =
      before_other source b d below inner rest (joined_chains after others) none (closed_no_run d.part.shape closed.0) a
      w

  -- something else can follow a left list, if runs are whole in it and continue as they did
  after_whole : (source : List ℕ) (left : List (Entry A)) (f : Forest (TreeNode A))
      → RunsStandWhole source (trees_onto left f) → RunsStandWhole source f
  after_whole source [] f w = w
  after_whole source (done a below ∷ left) f w = (after_whole source left (node a below f) w).2
  after_whole source (waits m a ∷ left) f w = (after_whole source left (node a nil f) w).2

  other_whole : (source : List ℕ) (left : List (Entry A)) (f g : Forest (TreeNode A))
      → RunsStandWhole source (trees_onto left f) → RunsStandWhole source g
      → ((a : TreeNode A) → IsWholeAt source a f → IsWholeAt source a g) → RunsStandWhole source (trees_onto left g)
  other_whole source [] f g w whole goes = whole
  other_whole source (done a below ∷ left) f g w whole goes =
      let here = after_whole source left (node a below f) w in
      other_whole source left (node a below f) (node a below g) w (goes a here.0, here.1, whole) (λ b h. h)
  other_whole source (waits m a ∷ left) f g w whole goes =
      let here = after_whole source left (node a nil f) w in
      other_whole source left (node a nil f) (node a nil g) w (goes a here.0, tt, whole) (λ b h. h)

  -- the openers of a left list are not open
  abbrev WaitsClosed : List (Entry A) → Type 0
  WaitsClosed [] = ⊤
  WaitsClosed (done a below ∷ left) = WaitsClosed left
  WaitsClosed (waits m a ∷ left) = (is_unresolved a.part.shape ≡ false) × WaitsClosed left

  -- states do not change the trees
  pub same_change : (opens : OpenerState → Bool) (f : OpenerState → OpenerState) (left : List (Entry A))
      (later : Forest (TreeNode A)) → trees_onto (change_nearest opens f left) later ≡ trees_onto left later
  same_change opens f [] later = refl
  same_change opens f (done a below ∷ left) later = same_change opens f left (node a below later)
  same_change opens f (waits m a ∷ left) later = by (opens m) (same_change opens f left (node a nil later))
    where
      by : (b : Bool) → trees_onto (change_nearest opens f left) (node a nil later) ≡ trees_onto left (node a nil later)
          → trees_onto (if b then waits (f m) a ∷ left else waits m a ∷ change_nearest opens f left) later
          ≡ trees_onto left (node a nil later)
      by true h = refl
      by false h = h

  closed_change : (opens : OpenerState → Bool) (f : OpenerState → OpenerState) (left : List (Entry A))
      → WaitsClosed left
      → WaitsClosed (change_nearest opens f left)
  closed_change opens f [] h = tt
  closed_change opens f (done a below ∷ left) h = closed_change opens f left h
  closed_change opens f (waits m a ∷ left) h = by (opens m) (closed_change opens f left h.1)
    where
      by : (b : Bool) → WaitsClosed (change_nearest opens f left)
          → WaitsClosed (if b then waits (f m) a ∷ left else waits m a ∷ change_nearest opens f left)
      by true k = h
      by false k = (h.0, k)

  pub same_marks : (f : OpenerState → OpenerState) (left : List (Entry A)) (later : Forest (TreeNode A)) → trees_onto
      (on_states f left) later
      ≡ trees_onto left later
  same_marks f [] later = refl
  same_marks f (done a below ∷ left) later = same_marks f left (node a below later)
  same_marks f (waits m a ∷ left) later = same_marks f left (node a nil later)

  closed_marks : (f : OpenerState → OpenerState) (left : List (Entry A)) → WaitsClosed left → WaitsClosed
      (on_states f left)
  closed_marks f [] h = tt
  closed_marks f (done a below ∷ left) h = closed_marks f left h
  closed_marks f (waits m a ∷ left) h = (h.0, closed_marks f left h.1)

  pub same_second : (left : List (Entry A)) (later : Forest (TreeNode A)) → trees_onto (second_folded left) later
      ≡ trees_onto left later
  same_second [] later = refl
  same_second (done a below ∷ left) later = refl
  same_second (waits m a ∷ left) later = refl

  closed_second : (left : List (Entry A)) → WaitsClosed left → WaitsClosed (second_folded left)
  closed_second [] h = tt
  closed_second (done a below ∷ left) h = h
  closed_second (waits m a ∷ left) h = h

  pub same_link : (is_image : Bool) (left : List (Entry A)) (later : Forest (TreeNode A))
      → trees_onto (before_link is_image left) later ≡ trees_onto left later
  same_link true left later = same_second left later
  same_link false left later = same_marks disabled_state (second_folded left) later ∙ same_second left later

  closed_link : (is_image : Bool) (left : List (Entry A)) → WaitsClosed left → WaitsClosed (before_link is_image left)
  closed_link true left h = closed_second left h
  closed_link false left h = closed_marks disabled_state (second_folded left) (closed_second left h)

  -- a left list at an opener
  record SplitWhole (left : List (Entry A)) (o : Split A) : Type 0 where
    splits : (later : Forest (TreeNode A)) → trees_onto left later
        ≡ trees_onto o.before (node o.opener nil (trees_onto o.after later))
    closed : is_unresolved o.opener.part.shape ≡ false
    before : WaitsClosed o.before

  split_after : (e : Entry A) (left : List (Entry A)) (x : Option (Split A)) → IfSome x (SplitWhole left)
      → IfSome (option_map (with_entry e) x) (SplitWhole (e ∷ left))
  split_after e left None h = tt
  split_after (done a below) left (Some o) h = record {
    splits = λ later. h.splits (node a below later);
    closed = h.closed;
    before = h.before;
  }
  split_after (waits m a) left (Some o) h = record
      { splits = λ later. h.splits (node a nil later); closed = h.closed; before = h.before }

  split_at : (opens : OpenerState → Bool) (left : List (Entry A)) → WaitsClosed left
      → IfSome (nearest opens left) (SplitWhole left)
  split_at opens [] h = tt
  split_at opens (done a below ∷ left) h = split_after (done a below) left (nearest opens left) (split_at opens left h)
  split_at opens (waits m a ∷ left) h = by (opens m) (split_at opens left h.1)
    where
      by : (b : Bool) → IfSome (nearest opens left) (SplitWhole left)
          → IfSome (if b then Some (record { state = m; opener = a; after = []; before = left })
          else option_map (with_entry (waits m a)) (nearest opens left)) (SplitWhole (waits m a ∷ left))
      by true k = record { splits = λ later. refl; closed = h.0; before = h.1 }
      by false k = split_after (waits m a) left (nearest opens left) k

  past_second_whole : (source : List ℕ) (f : Forest (TreeNode A)) → RunsStandWhole source f
      → RunsStandWhole source (past_second f)
  past_second_whole source nil w = tt
  past_second_whole source (node a below after) w = w.2

  -- a left list before a `]`, and one that any chain can follow
  record WholeBefore (source : List ℕ) (b : TreeNode A) (rest : Forest (TreeNode A))
      (left : List (Entry A)) : Type 0 where
    whole : RunsStandWhole source (trees_onto left (node b nil rest))
    waiting : WaitsClosed left

  record WholeAfter (source : List ℕ) (left : List (Entry A)) : Type 0 where
    whole : (later : Forest (TreeNode A)) → RunsStandWhole source later → RunsStandWhole source (trees_onto left later)
    waiting : WaitsClosed left

  module _ (w : BracketContext) (c : Closing A) (rest : Forest (TreeNode A)) (closer : run_character
      (open_body c.node.part.shape)
      ≡ None) where
    abbrev source : List ℕ
    source = w.setting.text

    -- an opener at which something is put, which is not open, over what is inside
    module _ (left : List (Entry A)) (o : Split A) (q : WholeBefore source c.node rest left) (s : SplitWhole left o)
      where
        around_opener : RunsStandWhole source
            (trees_onto o.before (node o.opener nil (trees_onto o.after (node c.node nil rest))))
        around_opener = subst (RunsStandWhole source) (s.splits (node c.node nil rest)) q.whole

        inside_whole : RunsStandWhole source (inside o)
        inside_whole =
            let here = after_whole source o.before (node o.opener nil (trees_onto o.after (node c.node nil rest)))
            around_opener in
            other_whole source o.after (node c.node nil rest) nil here.2 tt
            (before_none source c.node nil rest closer)

        put_whole : (d : TreeNode A) (below later : Forest (TreeNode A)) → run_character (open_body d.part.shape) ≡ None
            → RunsStandWhole source below → RunsStandWhole source later
            → RunsStandWhole source (trees_onto o.before (node d below later))
        put_whole d below later none inner outer =
            other_whole source o.before (node o.opener nil (trees_onto o.after (node c.node nil rest)))
            (node d below later) around_opener (whole_other source d later none, inner, outer)
            (before_other source o.opener d nil below (trees_onto o.after (node c.node nil rest)) later
            (closed_no_run o.opener.part.shape s.closed) none)

    footnote_whole : (i : Bool) (left : List (Entry A)) (o : Split A) (name : List ℕ)
        → WholeBefore source c.node rest left → SplitWhole left o
        → WholeAfter source (footnote_onto w c i o.opener name (before_footnote o.before))
    footnote_whole false left o name q s = record {
      whole = λ later k. subst (RunsStandWhole source)
          (sym (same_marks without_bracket (second_folded o.before) _ ∙ same_second o.before _))
          (put_whole left o q s (footnote_from o.opener name (start_of o.opener) (end_of c.node)) nil later refl tt k);
      waiting = closed_marks without_bracket (second_folded o.before) (closed_second o.before s.before);
    }
    footnote_whole true left o name q s = record {
      whole = λ later k. subst (RunsStandWhole source)
          (sym (same_marks without_bracket (second_folded o.before) _ ∙ same_second o.before _))
          (put_whole left o q s (text_from w o.opener (start_of o.opener) (start_of o.opener + 1)) nil
          (node (footnote_from c.node name (start_of o.opener + 1) (end_of c.node)) nil later) refl tt (tt, tt, k));
      waiting = closed_marks without_bracket (second_folded o.before) (closed_second o.before s.before);
    }

    tag_no_run : (m : OpenerState) (target : LinkView) (titles : List Origin)
        → run_character (open_body (enclosed (tag_for m target) titles)) ≡ None
    tag_no_run m target titles = refl

    whole_cases : Cases w c (WholeBefore source c.node rest) (WholeAfter source)
    whole_cases = record {
      bracket_goes = λ left q. record {
        whole = subst (RunsStandWhole source)
            (sym (same_change opens_bracket without_bracket left (node c.node nil rest))) q.whole;
        waiting = closed_change opens_bracket without_bracket left q.waiting;
      };
      wikilink_goes = λ left q. record {
        whole = subst (RunsStandWhole source)
            (sym (same_change opens_wikilink without_wikilink left (node c.node nil rest))) q.whole;
        waiting = closed_change opens_wikilink without_wikilink left q.waiting;
      };
      text = λ left q. record {
        whole = λ later k. other_whole source left (node c.node nil rest) (node (as_text source c.node) nil later)
            q.whole (tt, tt, k) (before_other source c.node (as_text source c.node) nil nil rest later closer refl);
        waiting = q.waiting;
      };
      link = λ left o target titles end q found live.
          let s = some_of (nearest opens_bracket left) o (SplitWhole left) found (split_at opens_bracket left q.waiting)
          in
          record {
            whole = λ later k. subst (RunsStandWhole source)
                (sym (same_link o.state.is_image o.before (node (linked o target titles end) (inside o) later)))
                (put_whole left o q s (linked o target titles end) (inside o) later refl (inside_whole left o q s) k);
            waiting = closed_link o.state.is_image o.before s.before;
          };
      footnote = λ left o name q found live.
          footnote_whole o.state.is_image left o name q (some_of (nearest opens_bracket left) o (SplitWhole left) found
          (split_at opens_bracket left q.waiting));
      wikilink = λ left o v end q found live is.
          let s = some_of (nearest opens_wikilink left) o (SplitWhole left) found
          (split_at opens_wikilink left q.waiting) in
          let children = some_of (wikilink_in w (past_second (inside o)) (start_of c.node)) v
          (λ (v : Wikilink A). RunsStandWhole source v.children) is
          (wikilink_keeps w (RunsStandWhole source) (λ a x y. (tt, tt, tt)) (λ i f h. past_byte_whole source i f h)
          (past_second (inside o)) (start_of c.node)
          (past_second_whole source (inside o) (inside_whole left o q s))) in
          record {
            whole = λ later k. subst (RunsStandWhole source)
                (sym (same_marks without_wikilink (on_states disabled_state o.before) _
                ∙ same_marks disabled_state o.before _))
                (put_whole left o q s (linked o (wikilink_target v) [] end) v.children later refl children k);
            waiting = closed_marks without_wikilink (on_states disabled_state o.before)
                (closed_marks disabled_state o.before s.before);
          };
    }

  -- trees put onto a left list
  pub onto_done : (trees : Forest (TreeNode A)) (left : List (Entry A)) (later : Forest (TreeNode A))
      → trees_onto (all_done trees left) later ≡ trees_onto left (joined_chains trees later)
  onto_done nil left later = refl
  onto_done (node a below after) left later = onto_done after (done a below ∷ left) later

  closed_done : (trees : Forest (TreeNode A)) (left : List (Entry A)) → WaitsClosed left
      → WaitsClosed (all_done trees left)
  closed_done nil left h = h
  closed_done (node a below after) left h = closed_done after (done a below ∷ left) h

  -- how far a chain was read: runs are whole in the left list with what is left after it
  record WholeSoFar (source : List ℕ) (p : Progress A) (rest : Forest (TreeNode A)) : Type 0 where
    whole : RunsStandWhole source (trees_onto p.left (past p.goes_on rest))
    waiting : WaitsClosed p.left

  module _ (s : Setting) (notes : Notes A) (above : EnclosingBlocks) where
    other_step : (a : TreeNode A) (below rest : Forest (TreeNode A)) (p : Progress A)
        → RunsStandWhole s.text (trees_onto p.left (node a below rest)) → WaitsClosed p.left
        → WholeSoFar s.text (read_other s notes above a below rest p) rest
    unfolding read_tree
    other_step a below rest p w waiting = by (is_quiet a.part.shape) refl
      where
        by : (quiet : Bool) → is_quiet a.part.shape ≡ quiet
            → WholeSoFar s.text (put_passed (read_unless quiet s notes above p.made a below rest) p) rest
        by true q = record { whole = w; waiting = waiting }
        by false q =
            let found = find s above a rest in
            let fresh = notes.of_made p.made in
            let trees = trees_for s fresh a found in
            let later = past (end_of_find found) rest in
            let here = after_whole s.text p.left (node a below rest) w in
            record {
              whole = subst (RunsStandWhole s.text) (sym (onto_done trees p.left later))
                  (other_whole s.text p.left (node a below rest) (joined_chains trees later) w
                  (joined_whole s.text trees later (closed_trees s fresh a found)
                  (past_whole s.text (end_of_find found) rest here.2))
                  (before_closed s.text a below rest trees later (begins_trees s fresh a found)
                  (closed_trees s fresh a found) (quiet_no_run a.part.shape q)));
              waiting = closed_done trees p.left waiting;
            }

    opened_step : (i : Bool) (a : TreeNode A) (below rest : Forest (TreeNode A)) (p : Progress A) → p.goes_on ≡ None
        → run_character (open_body a.part.shape) ≡ None
        → RunsStandWhole s.text (trees_onto p.left (node a below rest)) → WaitsClosed p.left
        → WholeSoFar s.text (opened (bracket_context s above) i a rest p) rest
    opened_step i a below rest p none no_run w waiting =
        let here = after_whole s.text p.left (node a below rest) w in
        record {
          whole = subst (λ (goes_on : Option ℕ). RunsStandWhole s.text
              (trees_onto p.left (node (as_text s.text a) nil (past goes_on rest)))) (sym none)
              (other_whole s.text p.left (node a below rest) (node (as_text s.text a) nil rest) w (tt, tt, here.2)
              (before_other s.text a (as_text s.text a) below nil rest rest no_run refl));
          waiting = (refl, waiting);
        }

    closed_step : (could : Bool) (a : TreeNode A) (below rest : Forest (TreeNode A)) (p : Progress A)
        → run_character (open_body a.part.shape) ≡ None
        → RunsStandWhole s.text (trees_onto p.left (node a below rest)) → WaitsClosed p.left
        → WholeSoFar s.text (closed (bracket_context s above) (closing_of could a rest p) p) rest
    closed_step could a below rest p no_run w waiting =
        let here = after_whole s.text p.left (node a below rest) w in
        let before : WholeBefore s.text a rest p.left = record {
          whole = other_whole s.text p.left (node a below rest) (node a nil rest) w (here.0, tt, here.2) (λ b h. h);
          waiting = waiting;
        } in
        let c = closing_of could a rest p in
        let after = in_each_case (bracket_context s above) c (WholeBefore s.text a rest) (WholeAfter s.text)
        (whole_cases (bracket_context s above) c rest no_run) p before in
        record {
          whole = after.whole (past (closed (bracket_context s above) c p).goes_on rest)
              (past_whole s.text (closed (bracket_context s above) c p).goes_on rest here.2);
          waiting = after.waiting;
        }

    step : (b : ItemBody) (a : TreeNode A) (below rest : Forest (TreeNode A)) (p : Progress A)
        → open_body a.part.shape ≡ b
        → p.goes_on ≡ None → RunsStandWhole s.text (trees_onto p.left (node a below rest)) → WaitsClosed p.left
        → WholeSoFar s.text (read_as (bracket_context s above) (read_other s notes above) b a below rest p) rest
    step body.MaybeLinkOpen a below rest p is none w waiting = opened_step false a below rest p none
        (ap run_character is) w waiting
    step body.MaybeImage a below rest p is none w waiting = opened_step true a below rest p none (ap run_character is) w
        waiting
    step (body.MaybeLinkClose could) a below rest p is none w waiting = closed_step could a below rest p
        (ap run_character is) w waiting
    step other a below rest p is none w waiting = other_step a below rest p w waiting

    past_step : (goes_on : Option ℕ) (a : TreeNode A) (below rest : Forest (TreeNode A)) (p : Progress A) → p.goes_on
        ≡ goes_on → WholeSoFar s.text p (node a below rest)
        → WholeSoFar s.text (read_past (bracket_context s above) (read_other s notes above) goes_on a below rest p) rest
    past_step None a below rest p is so =
        step (open_body a.part.shape) a below rest p refl is
        (subst (λ (o : Option ℕ). RunsStandWhole s.text (trees_onto p.left (past o (node a below rest)))) is so.whole)
        so.waiting
    past_step (Some i) a below rest p is so =
        by (nat_le (end_of a) i)
        (subst (λ (o : Option ℕ). RunsStandWhole s.text (trees_onto p.left (past o (node a below rest)))) is so.whole)
      where
        by : (ends : Bool) → RunsStandWhole s.text
            (trees_onto p.left (if ends then past_byte i rest else node (begun_at i a) below rest))
            → WholeSoFar s.text (if ends then p else read (bracket_context s above) (read_other s notes above)
            (begun_at i a)
            below rest (record p { goes_on = None })) rest
        by true w = record {
          whole = subst (λ (o : Option ℕ). RunsStandWhole s.text (trees_onto p.left (past o rest))) (sym is) w;
          waiting = so.waiting;
        }
        by false w = step (open_body (begun_at i a).part.shape) (begun_at i a) below rest (record p { goes_on = None })
            refl refl w so.waiting

    chain_whole : (chain : Forest (TreeNode A)) (p : Progress A) → WholeSoFar s.text p chain
        → WholeSoFar s.text (read_on s notes above chain p) nil
    unfolding read_chain
    chain_whole nil p so = so
    chain_whole (node a below rest) p so =
        chain_whole rest (read_past (bracket_context s above) (read_other s notes above) p.goes_on a below rest p)
        (past_step p.goes_on a below rest p refl so)

    nothing_left : (left : List (Entry A)) (goes_on : Option ℕ)
        → RunsStandWhole s.text (trees_onto left (past goes_on nil)) → RunsStandWhole s.text (trees_onto left nil)
    nothing_left left None w = w
    nothing_left left (Some i) w = w

  pub pass_one-whole : (s : Setting) (notes : Notes A) (above : EnclosingBlocks) (chain : Forest (TreeNode A))
      (state : ReferenceState)
      → RunsStandWhole s.text chain → RunsStandWhole s.text (pass_one s notes above chain state).forest
  unfolding pass_one
  pass_one-whole s notes above chain state w =
      let read = read_on s notes above chain (begun state) in
      nothing_left s notes above read.left read.goes_on (chain_whole s notes above chain (begun state)
      (record { whole = w; waiting = tt })).whole
