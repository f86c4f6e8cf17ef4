-- What pass one makes of a chain: it is read from its first tree on, and after a find what is left is read. A quiet
-- chain stays, what is left of any chain is no heavier, it begins with what its first open item became, later answers
-- are passed on, and tags do not matter: each by the law of brackets, where the rule for what is not a bracket keeps
-- that law.
use Rattle.std.proofs.Common.{◌≡◌, ℕ, ◌+◌, ◌≤◌, Bool, true, false, not, List, [], ◌∷◌, Option, Some, None, refl, sym}
use Rattle.std.proofs.Common.{ap, ◌∙◌, subst, nat_le, arith}
use Rattle.std.specs.Prelude.{if◌then◌else◌}
use Rattle.std.proofs.lemmas.Bool.{not-true}
use Rattle.markdown_base.specs.Forest.{Forest, nil, node}
use Rattle.markdown_base.specs.declared.item.ItemBody.{ItemBody}
use Rattle.markdown_base.specs.declared.item.ItemBody.TheVariants as body
use Rattle.markdown_brackets.specs.BracketDecision.{BracketContext, Progress}
use Rattle.markdown_brackets.specs.BracketLaws.{HandsOn}
use Rattle.markdown_brackets.specs.BracketNotes.{ReaderFollows as AnnotatesTo, annotate_left, annotate_progress}
use Rattle.markdown_brackets.specs.BracketWeight.{node_weight, weight_left}
use Rattle.markdown_brackets.specs.ChainBegins.{BeginsSo, BeginsWith}
use Rattle.markdown_brackets.specs.ClosingBracket.{closed}
use Rattle.markdown_brackets.specs.LeftList.{Entry, done, trees_onto, all_done}
use Rattle.markdown_brackets.specs.QuietItems.{LeavesQuiet, WaitsAtMost}
use Rattle.markdown_brackets.specs.ReadChain.{Reader, begun, closing_of, opened, read, read_as, read_chain, read_past}
use Rattle.markdown_brackets.proofs.BracketLawLemmas.{asks_none, chain_law}
use Rattle.markdown_brackets.proofs.BracketNoteLemmas.{onto_annotate, read_chain_annotate}
use Rattle.markdown_brackets.proofs.BracketWeightLemmas.{no_heavier}
use Rattle.markdown_brackets.proofs.ChainBeginsLemmas.{begins_law, begins_onto}
use Rattle.markdown_brackets.proofs.QuietItemsLemmas.{all_done_trees, quiet_items_law}
use Rattle.markdown_document.specs.EnclosingBlocks.{EnclosingBlocks}
use Rattle.markdown_document.specs.ChainRest.{begun_at, end_of, open_body, past, past_byte}
use Rattle.markdown_document.specs.Document.{Notes, Shape, plain, unresolved, TreeNode, Plain, no_notes, is_unresolved}
use Rattle.markdown_document.specs.TreeNodes.{Begins, GivesFirst, is_plain, weight, annotated}
use Rattle.markdown_document.specs.Setting.{Setting, ReferenceState}
use Rattle.markdown_document.specs.Waiting.{is_quiet}
use Rattle.markdown_spans.specs.Finds.{Passed, find, passed, read_tree, read_unless}
use Rattle.markdown_spans.proofs.FindsLemmas.{begins_trees, read_weight}
use Rattle.markdown_spans.proofs.FindsNoteLemmas.{read_annotate}
use Rattle.markdown_resolver.specs.Kept.{IsQuiet}
use Rattle.markdown_resolver.specs.Laws.{Follows}
use Rattle.markdown_resolver.specs.PassOne.{Outcome, bracket_context, outcome, pass_one, put_passed, read_on}
use Rattle.markdown_resolver.specs.PassOne.{read_other}
use Rattle.markdown_resolver.specs.ReadOn.{all_read}

-- a `[`, a `![` or a `]`
abbrev pub is_bracket : ItemBody → Bool
is_bracket body.MaybeLinkOpen = true
is_bracket body.MaybeImage = true
is_bracket (body.MaybeLinkClose could_be_reference) = true
is_bracket other = false

-- another item
abbrev pub NoBracket : ItemBody → Type 0
NoBracket b = is_bracket b ≡ false

-- an opener
abbrev pub opener_body : (is_image : Bool) → ItemBody
opener_body true = body.MaybeImage
opener_body false = body.MaybeLinkOpen

-- what is not open is not a bracket, nor is what waits for pairing
pub closed_no_bracket : (shape : Shape) → is_unresolved shape ≡ false → NoBracket (open_body shape)
closed_no_bracket (unresolved b) h = cc h
closed_no_bracket other h = refl

-- it is read by the rule for what is not a bracket
pub read_elsewhere : {A : Type 0} (w : BracketContext) (others : Reader A) (b : ItemBody) (a : TreeNode A)
    (below rest : Forest (TreeNode A)) (p : Progress A) → NoBracket b
    → read_as w others b a below rest p ≡ others a below rest p
read_elsewhere w others body.MaybeLinkOpen a below rest p h = cc h
read_elsewhere w others body.MaybeImage a below rest p h = cc h
read_elsewhere w others (body.MaybeLinkClose could) a below rest p h = cc h
read_elsewhere w others other a below rest p h = refl

module _ {A : Type 0} (s : Setting) (notes : Notes A) (above : EnclosingBlocks) where
  -- a chain that was read whole
  abbrev pub whole_read : Forest (TreeNode A) → Progress A → Progress A
  whole_read chain p = record (read_on s notes above chain p) { goes_on = None }

  -- what was read of a tree after a find that ends at a byte: nothing, if it ends there or before
  abbrev read_if : (ends : Bool) (i : ℕ) → Reader A
  read_if ends i a below rest p =
      if ends then record p { goes_on = Some i }
      else read (bracket_context s above) (read_other s notes above) (begun_at i a) below rest
      (record p { goes_on = None })

  past_if : (ends : Bool) (i : ℕ) (a : TreeNode A) (below rest : Forest (TreeNode A)) (p : Progress A)
      → whole_read rest (record p { goes_on = Some i }) ≡ whole_read (past_byte i rest) (record p { goes_on = None })
      → whole_read rest (read_if ends i a below rest p)
      ≡ whole_read (if ends then past_byte i rest else node (begun_at i a) below rest) (record p { goes_on = None })
  unfolding read_chain
  past_if true i a below rest p e = e
  past_if false i a below rest p e = refl

  -- to go on past a byte is to read what is left past it
  pub reads_past : (i : ℕ) (chain : Forest (TreeNode A)) (p : Progress A)
      → whole_read chain (record p { goes_on = Some i }) ≡ whole_read (past_byte i chain) (record p { goes_on = None })
  unfolding read_chain
  reads_past i nil p = refl
  reads_past i (node a below rest) p = past_if (nat_le (end_of a) i) i a below rest p (reads_past i rest p)

  pub reads_past_all : (goes_on : Option ℕ) (chain : Forest (TreeNode A)) (p : Progress A)
      → whole_read chain (record p { goes_on = goes_on })
      ≡ whole_read (past goes_on chain) (record p { goes_on = None })
  reads_past_all None chain p = refl
  reads_past_all (Some i) chain p = reads_past i chain p

  -- where no find goes on, the first tree is read as it is
  reads_first : (a : TreeNode A) (below rest : Forest (TreeNode A)) (p : Progress A) → p.goes_on ≡ None
      → read_on s notes above (node a below rest) p
      ≡ read_on s notes above rest (read (bracket_context s above) (read_other s notes above) a below rest p)
  unfolding read_chain
  reads_first a below rest p none = ap
      (λ goes_on. read_on s notes above rest (read_past (bracket_context s above) (read_other s notes above) goes_on a
      below rest p)) none

  reads_as : (b : ItemBody) (a : TreeNode A) (below rest : Forest (TreeNode A)) (p : Progress A) → p.goes_on ≡ None
      → open_body a.part.shape ≡ b → read_on s notes above (node a below rest) p
      ≡ read_on s notes above rest (read_as (bracket_context s above) (read_other s notes above) b a below rest p)
  reads_as b a below rest p none e =
      reads_first a below rest p none
      ∙ ap (λ b. read_on s notes above rest (read_as (bracket_context s above)
      (read_other s notes above) b a below rest p)) e

  -- an opener is put into the left list
  pub reads_opener : (is_image : Bool) (a : TreeNode A) (below rest : Forest (TreeNode A)) (p : Progress A)
      → p.goes_on ≡ None
      → open_body a.part.shape ≡ opener_body is_image
      → whole_read (node a below rest) p ≡ whole_read rest (opened (bracket_context s above) is_image a rest p)
  reads_opener true a below rest p none e = ap (λ (q : Progress A). record q { goes_on = None })
      (reads_as body.MaybeImage a below rest p none e)
  reads_opener false a below rest p none e = ap (λ (q : Progress A). record q { goes_on = None })
      (reads_as body.MaybeLinkOpen a below rest p none e)

  -- a `]` is closed, and the chain goes on where what it became ends
  pub reads_closer : (could_be : Bool) (a : TreeNode A) (below rest : Forest (TreeNode A)) (p : Progress A)
      → p.goes_on ≡ None
      → open_body a.part.shape ≡ body.MaybeLinkClose could_be → whole_read (node a below rest) p
      ≡ (let q : Progress A = closed (bracket_context s above) (closing_of could_be a rest p) p
      in whole_read (past q.goes_on rest) (record q { goes_on = None }))
  reads_closer could_be a below rest p none e =
      let q : Progress A = closed (bracket_context s above) (closing_of could_be a rest p) p in
      ap (λ (q : Progress A). record q { goes_on = None })
      (reads_as (body.MaybeLinkClose could_be) a below rest p none e) ∙ reads_past_all q.goes_on rest q

  -- what is not a bracket is read, and the chain continues where what was found ends
  pub reads_elsewhere : (a : TreeNode A) (below rest : Forest (TreeNode A)) (p : Progress A) → p.goes_on ≡ None
      → NoBracket (open_body a.part.shape) → whole_read (node a below rest) p
      ≡ (let r : Passed A = read_tree s notes above p.made a below rest
      in whole_read (past r.goes_on rest) (record p { left = all_done r.trees p.left; goes_on = None; made = r.made }))
  reads_elsewhere a below rest p none other =
      let r : Passed A = read_tree s notes above p.made a below rest in
      ap (λ (q : Progress A). record q { goes_on = None }) (reads_first a below rest p none
      ∙ ap (read_on s notes above rest) (read_elsewhere (bracket_context s above) (read_other s notes above)
      (open_body a.part.shape) a below rest p other)) ∙ reads_past_all r.goes_on rest (put_passed r p)

-- where all notes are the same, the trees do not depend on how many were made
abbrev from_made : (n : ℕ) → Passed (Unit {0}) → Passed (Unit {0})
from_made n r = record { trees = r.trees; goes_on = r.goes_on; made = n + r.made }

unless_made : (s : Setting) (above : EnclosingBlocks) (n : ℕ) (a : Plain) (below rest : Forest Plain) (quiet : Bool)
    → read_unless quiet s no_notes above n a below rest
    ≡ from_made n (read_unless quiet s no_notes above 0 a below rest)
unless_made s above n a below rest true = ap
    (λ m. let r : Passed (Unit {0}) = record { trees = node a below nil; goes_on = None; made = m }
    in r) (omega arith)
unless_made s above n a below rest false =
    let found = find s above a rest in
    let r : Passed (Unit {0}) = passed s no_notes n a found in
    ap (λ m. record r { made = m }) (omega arith)

pub tree_made : (s : Setting) (above : EnclosingBlocks) (n : ℕ) (a : Plain) (below rest : Forest Plain)
    → read_tree s no_notes above n a below rest ≡ from_made n (read_tree s no_notes above 0 a below rest)
unfolding read_tree
tree_made s above n a below rest = unless_made s above n a below rest (is_quiet a.part.shape)

-- so what is not a bracket is read the same wherever it is
pub reads_other : (s : Setting) (above : EnclosingBlocks) (a : Plain) (below rest : Forest Plain)
    (p : Progress (Unit {0}))
    → p.goes_on ≡ None → NoBracket (open_body a.part.shape) → all_read s above (node a below rest) p
    ≡ (let r : Passed (Unit {0}) = read_tree s no_notes above 0 a below rest in
    all_read s above (past r.goes_on rest)
    (record p { left = all_done r.trees p.left; goes_on = None; made = p.made + r.made }))
reads_other s above a below rest p none other =
    reads_elsewhere s no_notes above a below rest p none other
    ∙ ap (λ (r : Passed (Unit {0})). all_read s above (past r.goes_on rest)
    (record p { left = all_done r.trees p.left; goes_on = None; made = r.made }))
    (tree_made s above p.made a below rest)

-- what is open does not read as what is below it alone
open_not_plain : (shape : Shape) → is_unresolved shape ≡ true → not (is_plain shape) ≡ true
open_not_plain plain h = cc h
open_not_plain other h = refl

-- nor does what gives an event first
first_not_plain : (shape : Shape) → GivesFirst shape → not (is_plain shape) ≡ true
first_not_plain plain h = absurd h
first_not_plain other h = refl

abbrev is_not_plain : Shape → Bool
is_not_plain shape = not (is_plain shape)

module _ {A : Type 0} where
  -- a quiet chain stays
  waits_at_most : (chain : Forest (TreeNode A)) → IsQuiet chain → WaitsAtMost chain
  waits_at_most nil q = tt
  waits_at_most (node a below after) q = (q.0, waits_at_most after q.3)

  -- the weight of all trees of a list
  all_done_weight : (trees : Forest (TreeNode A)) (left : List (Entry A)) → weight_left (all_done trees left)
      ≡ weight trees + weight_left left
  all_done_weight nil left = omega arith
  all_done_weight (node a below after) left = omega (arith, all_done_weight after (done a below ∷ left))

  -- a forest that begins with a tree that does not read as what is below it alone
  begins_as : (f : Forest (TreeNode A)) → Begins f → BeginsWith is_not_plain f
  begins_as nil h = absurd h
  begins_as (node a below after) h = first_not_plain a.part.shape h

  begun_by : (P : Forest (TreeNode A) → Type 0) (f : Forest (TreeNode A)) → ((a : TreeNode A)
      (below after : Forest (TreeNode A))
      → is_plain a.part.shape ≡ false → P (node a below after)) → BeginsWith is_not_plain f → P f
  begun_by P nil holds h = absurd h
  begun_by P (node a below after) holds h = holds a below after (not-true (is_plain a.part.shape) h)

  module _ (s : Setting) (notes : Notes A) (above : EnclosingBlocks) where
    quiet_tree : (n : ℕ) (a : TreeNode A) (below rest : Forest (TreeNode A)) → is_quiet a.part.shape ≡ true
        → read_tree s notes above n a below rest ≡ record { trees = node a below nil; goes_on = None; made = n }
    unfolding read_tree
    quiet_tree n a below rest q = ap (λ quiet. read_unless quiet s notes above n a below rest) q

    leaves_quiet : LeavesQuiet (read_other s notes above)
    leaves_quiet a below rest p q none =
        ap (λ (r : Passed A). put_passed r p) (quiet_tree p.made a below rest q)
        ∙ ap (λ goes_on. record p { left = done a below ∷ p.left; goes_on = goes_on }) (sym none)

    pub pass_one-stays : (chain : Forest (TreeNode A)) (state : ReferenceState) → IsQuiet chain
        → pass_one s notes above chain state
        ≡ record { questions = []; forest = chain; state = state }
    unfolding pass_one
    pass_one-stays chain state q =
        let alone = quiet_items_law (bracket_context s above) (read_other s notes above) leaves_quiet chain state
        (waits_at_most chain q) in
        ap outcome alone.reads
        ∙ ap (λ (f : Forest (TreeNode A)). let o : Outcome A = record { questions = []; forest = f; state = state }
        in o) alone.trees

    -- what is left of a chain is no heavier
    other_weight : (a : TreeNode A) (below rest : Forest (TreeNode A)) (p : Progress A)
        → weight_left (read_other s notes above a below rest p).left ≤ weight_left p.left +
        (node_weight a + weight below)
    other_weight a below rest p =
        let put = all_done_weight (read_tree s notes above p.made a below rest).trees p.left in
        let read = read_weight s notes above p.made a below rest in
        omega (arith, put, read)

    pub pass_one-weight : (chain : Forest (TreeNode A)) (state : ReferenceState) → weight
        (pass_one s notes above chain state).forest
        ≤ weight chain
    unfolding pass_one
    pass_one-weight chain state = no_heavier (bracket_context s above)
        (read_other s notes above) other_weight chain state

    -- what was open gives an event first, or waits for pairing and so does not read as what is below it alone
    unless_begins : (n : ℕ) (a : TreeNode A) (below rest : Forest (TreeNode A)) (quiet : Bool)
        → is_unresolved a.part.shape
        ≡ true → BeginsWith is_not_plain (read_unless quiet s notes above n a below rest).trees
    unless_begins n a below rest true h = open_not_plain a.part.shape h
    unless_begins n a below rest false h =
        let found = find s above a rest in
        begins_as (passed s notes n a found).trees (begins_trees s (notes.of_made n) a found)

    tree_begins : (n : ℕ) (a : TreeNode A) (below rest : Forest (TreeNode A)) → is_unresolved a.part.shape ≡ true
        → BeginsWith is_not_plain (read_tree s notes above n a below rest).trees
    unfolding read_tree
    tree_begins n a below rest h = unless_begins n a below rest (is_quiet a.part.shape) h

    other_begins : BeginsSo is_not_plain (read_other s notes above)
    other_begins = record {
      puts = λ a below rest state h.
          let r : Passed A = read_tree s notes above 0 a below rest in
          subst (BeginsWith is_not_plain) (sym (all_done_trees r.trees [])) (tree_begins 0 a below rest h);
      keeps = λ a below rest p h.
          let r : Passed A = read_tree s notes above p.made a below rest in
          subst (BeginsWith is_not_plain) (sym (all_done_trees r.trees p.left))
          (begins_onto is_not_plain p.left nil r.trees (λ none. absurd none) h);
    }

    pub pass_one-first : (P : Forest (TreeNode A) → Type 0) (a : TreeNode A) (below after : Forest (TreeNode A))
        (state : ReferenceState)
        → ((a : TreeNode A) (below after : Forest (TreeNode A)) → is_plain a.part.shape ≡ false → P
        (node a below after))
        → is_unresolved a.part.shape ≡ true → P (pass_one s notes above (node a below after) state).forest
    unfolding pass_one
    pass_one-first P a below after state holds h =
        begun_by P (trees_onto (read_on s notes above (node a below after) (begun state)).left nil) holds
        (begins_law (bracket_context s above) (read_other s notes above) is_not_plain (λ e origins. refl)
        (λ tag origins. refl) other_begins a below after state h)

    -- what is not a bracket asks nothing, and brackets pass later answers on
    other_hands_on : (a : TreeNode A) (below rest : Forest (TreeNode A)) (p : Progress A)
        → HandsOn (read_other s notes above a below rest) p
    other_hands_on a below rest p
        = (asks_none (read_other s notes above a below rest) p refl refl (λ later. refl)).hands_on

    pub read_hands_on : (chain : Forest (TreeNode A)) (p : Progress A) → HandsOn (read_on s notes above chain) p
    read_hands_on chain p = chain_law (bracket_context s above) (read_other s notes above) other_hands_on chain p

-- notes do not matter
module _ {A B : Type 0} (f : A → B) where
  all_done_annotate : (trees : Forest (TreeNode A)) (left : List (Entry A)) → all_done (annotated f trees)
      (annotate_left f left)
      ≡ annotate_left f (all_done trees left)
  all_done_annotate nil left = refl
  all_done_annotate (node a below after) left = all_done_annotate after (done a below ∷ left)

  module _ (s : Setting) (notes : Notes A) (notes' : Notes B) (follows : Follows f notes notes')
      (above : EnclosingBlocks) where
    pub other_annotate : AnnotatesTo f (read_other s notes above) (read_other s notes' above)
    other_annotate a below rest p =
        let r : Passed A = read_tree s notes above p.made a below rest in
        ap (λ (r : Passed B). put_passed r (annotate_progress f p))
        (read_annotate f s notes notes' above p.made (follows.makes p.made) a below
        rest) ∙ ap (λ (left : List (Entry B)). record (annotate_progress f p)
        { left = left; goes_on = r.goes_on; made = r.made }) (all_done_annotate r.trees p.left)

    pub read_on_annotate : (chain : Forest (TreeNode A)) (p : Progress A) → read_on s notes' above (annotated f chain)
        (annotate_progress f p) ≡ annotate_progress f (read_on s notes above chain p)
    read_on_annotate chain p = read_chain_annotate f (bracket_context s above) (read_other s notes above)
        (read_other s notes' above)
        other_annotate chain p

    pub pass_one-annotate : (chain : Forest (TreeNode A)) (state : ReferenceState) → pass_one s notes' above
        (annotated f chain) state
        ≡ (let r : Outcome A = pass_one s notes above chain state in record {
          questions = r.questions;
          forest = annotated f r.forest;
          state = r.state;
        })
    unfolding pass_one
    pass_one-annotate chain state =
        let q : Progress A = read_on s notes above chain (begun state) in
        ap outcome (read_on_annotate chain (begun state))
        ∙ ap (λ (g : Forest (TreeNode B)). let o : Outcome B = record {
          questions = q.asked;
          forest = g;
          state =
              q.state;
        }
        in o) (onto_annotate f q.left nil)
