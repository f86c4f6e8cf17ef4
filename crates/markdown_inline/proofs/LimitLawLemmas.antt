-- What the events of a forest list at their Ends are the numbers of its nodes, in the order in which its trees end;
-- and where the sums before each are below a limit, all but the last sum to less than the limit.
use Rattle.std.proofs.Common.{◌≡◌, ℕ, ◌+◌, ◌<◌, ◌≤◌, List, [], ◌∷◌, ◌++◌, refl, sym, subst, append_assoc, append-nil}
use Rattle.std.proofs.Common.{arith, map}
use Rattle.std.specs.declared.ops.Range.{Range}
use Rattle.markdown_base.specs.Event.{EventView, start, end, tag_end}
use Rattle.markdown_base.specs.Forest.{Forest, nil, node}
use Rattle.markdown_blocks.specs.Blocks.{text_of_blocks}
use Rattle.markdown_document.specs.Document.{Shape, leaf, enclosed, plain, backslash_break, unresolved, TreeNode}
use Rattle.markdown_delims.proofs.SumLemmas.{sum_of}
use Rattle.markdown_brackets.specs.Lookup.{size_of}
use Rattle.markdown_inline.specs.Balanced.{Ranged}
use Rattle.markdown_inline.specs.LimitLaw.{ExpandsBelow, LimitLaw, LookUpLaw, expansions, expansions_from}
use Rattle.markdown_inline.specs.LimitLaw.{listed_at_ends, sum_but_last, tag_expansion}
use Rattle.markdown_inline.specs.ParserLeft.{expansion_limit}
use Rattle.markdown_inline.specs.ResolvedDocument.{resolved_blocks}
use Rattle.markdown_inline.proofs.EndOrderLemmas.{Fits, IsWithin, ends_drop, ends_mono, ends_onto, keep_list, total}
use Rattle.markdown_inline.proofs.EndOrderLemmas.{within_same, within_trans}
use Rattle.markdown_inline.proofs.WholeReadingLemmas.{alone, alone_at, alone_event, ranged_in, expansion_at}
use Rattle.markdown_inline.proofs.WholeReadingLemmas.{opened_events, whole_events, whole_such}

-- an event that is neither a Start nor an End lists nothing
lone_lists : (e : EventView) (opened : List (List ℕ)) (rest : List (List ℕ) → List ℕ) → total (alone_event e) ≡ 0
    → listed_at_ends e opened rest ≡ rest opened
lone_lists (start tag) opened rest e = cc e
lone_lists (end x) opened rest e = cc e
lone_lists other opened rest e = refl

-- events list no more than these numbers before those of what follows
abbrev Lists : List Ranged → (List ℕ → List ℕ) → Type 0
Lists es onto = (opened : List (List ℕ)) (rest : List Ranged)
    → IsWithin (expansions_from opened (es ++ rest)) (onto (expansions_from opened rest))

module _ {A : Type 0} where
  abbrev ends : Forest (TreeNode A) → List ℕ → List ℕ
  ends f ns = ends_onto expansion_at f ns

  -- a tree before others, and a forest
  tree_lists : (shape : Shape) (range : Range ℕ) (below later : Forest (TreeNode A)) (es fs : List Ranged)
      → total (alone_at shape) ≡ 0
      → Lists es (ends below) → Lists fs (ends later)
      → Lists (opened_events shape range es fs) (λ ns. ends below (expansion_at shape ++ ends later ns))
  tree_lists (leaf e origins) range below later es fs lone i h opened rest =
      subst (λ (l : List ℕ). IsWithin l (ends below (ends later (expansions_from opened rest))))
      (sym (lone_lists e opened (λ opened. expansions_from opened (fs ++ rest)) lone))
      (ends_drop expansion_at below (expansions_from opened (fs ++ rest)) (ends later (expansions_from opened rest))
      (h opened rest))
  tree_lists (enclosed tag origins) range below later es fs lone i h opened rest =
      let last : List ℕ = tag_expansion tag ++ ends later (expansions_from opened rest) in
      let after : List ℕ = tag_expansion tag ++ expansions_from opened (fs ++ rest) in
      subst (λ (events : List Ranged). IsWithin (expansions_from (tag_expansion tag ∷ opened) events) (ends below last))
      (sym (append_assoc es ((end (tag_end tag), range) ∷ fs) rest))
      (within_trans (expansions_from (tag_expansion tag ∷ opened) (es ++ (end (tag_end tag), range) ∷ (fs ++ rest)))
      (ends below after)
      (ends below last) (i (tag_expansion tag ∷ opened) ((end (tag_end tag), range) ∷ (fs ++ rest)))
      (ends_mono expansion_at below after last (keep_list (tag_expansion tag) (expansions_from opened (fs ++ rest))
      (ends later (expansions_from opened rest)) (h opened rest))))
  tree_lists plain range below later es fs lone i h opened rest =
      subst (λ (events : List Ranged). IsWithin (expansions_from opened events)
      (ends below (ends later (expansions_from opened rest))))
      (sym (append_assoc es fs rest))
      (within_trans (expansions_from opened (es ++ (fs ++ rest))) (ends below (expansions_from opened (fs ++ rest)))
      (ends below (ends later (expansions_from opened rest))) (i opened (fs ++ rest))
      (ends_mono expansion_at below (expansions_from opened (fs ++ rest)) (ends later (expansions_from opened rest))
      (h opened rest)))
  tree_lists backslash_break range below later es fs lone i h opened rest =
      ends_drop expansion_at below (expansions_from opened (fs ++ rest)) (ends later (expansions_from opened rest))
      (h opened rest)
  tree_lists (unresolved b) range below later es fs lone i h opened rest =
      ends_drop expansion_at below (expansions_from opened (fs ++ rest)) (ends later (expansions_from opened rest))
      (h opened rest)

  lists_in : (f : Forest (TreeNode A)) → sum_of alone f ≡ 0 → Lists (ranged_in f) (ends f)
  lists_in nil lone opened rest = within_same (expansions_from opened rest)
  lists_in (node a below later) lone opened rest =
      tree_lists a.part.shape a.part.range below later (ranged_in below) (ranged_in later) (omega (arith, lone))
      (lists_in below (omega (arith, lone))) (lists_in later (omega (arith, lone))) opened rest

-- the sum before the last number is that of all but the last
last_fits : (limit before n : ℕ) (ns : List ℕ) → Fits limit before (n ∷ ns) → before + sum_but_last (n ∷ ns) < limit
last_fits limit before n [] f = omega (arith, f.0)
last_fits limit before n (m ∷ ns) f = omega (arith, last_fits limit (before + n) m ns f.1)

below_limit : (limit : ℕ) (ns : List ℕ) → 1 ≤ limit → Fits limit 0 ns → sum_but_last ns < limit
below_limit limit [] some f = some
below_limit limit (n ∷ ns) some f = omega (arith, last_fits limit 0 n ns f)

pub limit-law : LimitLaw
limit-law blocks asks answers =
    let r = whole_such blocks asks answers in
    let trees = (resolved_blocks blocks asks answers).trees in
    let limit : ℕ = expansion_limit (text_of_blocks blocks) in
    let within = lists_in trees r.lone [] [] in
    let below : ExpandsBelow limit (ranged_in trees ++ []) = below_limit limit (expansions (ranged_in trees ++ []))
    (omega arith)
    (within.fits limit 0 0 (omega arith) r.spent.fits) in
    subst (ExpandsBelow limit) (sym (whole_events blocks asks answers))
    (subst (ExpandsBelow limit) (append-nil (ranged_in trees)) below)

-- of all that look-ups found
pub look_up-law : LookUpLaw
look_up-law blocks asks answers =
    let limit : ℕ = expansion_limit (text_of_blocks blocks) in
    below_limit limit (map size_of (resolved_blocks blocks asks answers).found) (omega arith)
    (whole_such blocks asks answers).found.fits
