-- The quotes of a whole chain, and the number of its delimiter characters.
use Rattle.std.proofs.Common.{◌≡◌, ℕ, suc, ◌+◌, ◌-◌, ◌<◌, ◌≤◌, Bool, true, false, List, Option, Some, None, length}
use Rattle.std.proofs.Common.{refl, ap, sym, ◌∙◌, subst, arith}
use Rattle.std.specs.Prelude.{is_none, slice_range}
use Rattle.markdown_base.specs.declared.item.Item.{Item}
use Rattle.markdown_base.specs.declared.item.ItemBody.{ItemBody}
use Rattle.markdown_base.specs.declared.item.ItemBody.TheVariants as body
use Rattle.markdown_base.specs.declared.node.Node.{Node}
use Rattle.markdown_base.specs.Arena.{Arena, sibling_of}
use Rattle.markdown_base.specs.ArenaForest.{links_of, Spells}
use Rattle.markdown_base.specs.BlockTree.{numbered, item_at}
use Rattle.markdown_base.specs.Forest.{Forest, nil, node, roots, relabelled}
use Rattle.markdown_base.specs.WellFormed.{run_character}
use Rattle.markdown_document.specs.Document.{Shape, unresolved, Part, TreeNode, shape_of}
use Rattle.markdown_document.specs.Counts.{counts_shape, delimiters_in}
use Rattle.markdown_document.specs.Setting.{Setting}
use Rattle.markdown_document.specs.Tables.{Tables}
use Rattle.markdown_delims.specs.declared.quotes.Kind.{Kind}
use Rattle.markdown_delims.specs.declared.quotes.OpenQuotes.{OpenQuotes}
use Rattle.markdown_delims.specs.ChainReading.{is_among, labels, IsSpelled}
use Rattle.markdown_delims.specs.ChainStanding.{Chain, view, read_back}
use Rattle.markdown_delims.specs.Quotes.{kind_of_shape, is_end, first_turn, quotes_after, with_quotes}
use Rattle.markdown_delims.specs.Quoting.{remembered_as, quoted_from, QuotesOn, QuotesTree, CanQuote, IsQuoted}
use Rattle.markdown_delims.specs.RunReading.{counts_one, delimiters_of}
use Rattle.markdown_delims.specs.Views.{View, Holds, Rises}
use Rattle.markdown_delims.proofs.ChainLemmas.{numbers_of, numbers_of-labels, whole_chain, chain_cut, chain_touched}
use Rattle.markdown_delims.proofs.ChainLemmas.{AllRead, chain_read, numbers_left, fewer_left}
use Rattle.markdown_delims.proofs.WriteLemmas.{kept_none, kept_both}

-- a shape counts as its body does, at most once
counts_as : (tables : Tables) (source : List ℕ) (b : ItemBody) → counts_shape (shape_of tables source b)
    ≡ counts_one (run_character b)
counts_as tables source (body.HardBreak true) = refl
counts_as tables source (body.HardBreak false) = refl
counts_as tables source other = refl

one_at_most : (shape : Shape) → counts_shape shape ≤ 1
one_at_most (unresolved (body.MaybeEmphasis n opens closes)) = omega arith
one_at_most other = omega arith

delimiters_are : (s : Setting) (tables : Tables) (nodes : List (Node Item)) (f : Forest ℕ)
    → delimiters_in (labels s tables nodes f)
    ≡ delimiters_of (relabelled (numbered nodes) f)
delimiters_are s tables nodes nil = refl
delimiters_are s tables nodes (node ix below after) =
    let shown = counts_as tables (slice_range s.text (item_at nodes ix).start (item_at nodes ix).end)
    (item_at nodes ix).body in
    omega (arith, delimiters_are s tables nodes after, shown)

-- there are no more of them than numbers
few_in : (own : ℕ → Bool) (lo : ℕ) (f : Forest (TreeNode ℕ)) (hi : ℕ) → Rises own lo f hi → delimiters_in f + lo ≤ hi
few_in own lo nil hi r = omega (arith, r)
few_in own lo (node a below after) hi r = omega (
  arith,
  r.0,
  one_at_most a.part.shape,
  few_in own (suc a.note) after hi r.2,
)

numbers_of-quotes : (single double : Bool) (f : Forest (TreeNode ℕ)) → numbers_of (quotes_after single double f)
    ≡ numbers_of f
numbers_of-quotes single double nil = refl
numbers_of-quotes single double (node a below after) =
    ap (node a.note (numbers_of below))
    (numbers_of-quotes (first_turn a after single double).single (first_turn a after single double).double
    after)

none_at_end : (k : View Part) (l : Option ℕ) (f : Forest (TreeNode ℕ)) → Holds k l f → is_none l ≡ is_end f
none_at_end k None nil h = refl
none_at_end k (Some x) nil h = cc
none_at_end k None (node a below after) h = let no : None ≡ Some a.note = h.0 in cc
none_at_end k (Some x) (node a below after) h = refl

never_closed : (single : Option ℕ) (read : Forest (TreeNode ℕ)) → remembered_as single false read ≡ read
never_closed None read = refl
never_closed (Some x) read = refl

module _ (s : Setting) (tables : Tables) (old : Arena Item) (first : ℕ) (f : Forest ℕ) (c : IsSpelled old.nodes first f)
  where
    abbrev h : Chain
    h = whole_chain s tables old first f c

    abbrev whole : Forest (TreeNode ℕ)
    whole = labels s tables old.nodes f

    -- the chain is read up to a link
    pub record QuotesSoFar (t : Arena Item) (opened : OpenQuotes) (count : ℕ) (l : Option ℕ) : Type 0 where
      pub rest : Forest (TreeNode ℕ)
      pub on : QuotesOn h old t nil whole None false opened.single opened.double l rest
      pub counted : count + delimiters_in rest ≡ delimiters_in whole

    pub quotes_begin : QuotesSoFar old (record { single = None; double = false }) 0 (Some first)
    unfolding whole_chain
    quotes_begin =
        record {
          rest = whole;
          on = record {
            read = nil;
            stands = record {
              cut = chain_cut s tables old first f c;
              remembered = tt;
              left_touched = tt;
              rest_touched = chain_touched s tables old first f c;
            };
            kept = kept_none (is_among (roots f)) old;
            same = refl;
          };
          counted = omega arith;
        }

    pub few_counted : delimiters_in whole ≤ length old.nodes
    few_counted = omega (
      arith,
      few_in (is_among (roots f)) 0 whole (length old.nodes) (chain_cut s tables old first f c).rises_right,
    )

    module _ (t : Arena Item) (opened : OpenQuotes) (count ix : ℕ) (a : QuotesSoFar t opened count (Some ix)) where
      pub quote_here : CanQuote ix t opened.single
      quote_here = record { chain = h; begun = a.on.read; rest = a.rest; stands = a.on.stands }

      -- the next tree
      module _ (u : Arena Item) (opened' : OpenQuotes) (k : Kind) (last : Bool) (more : ℕ)
          (kinds : (tables : Tables) (source : List ℕ) → k
          ≡ kind_of_shape (shape_of tables source (item_at t.nodes ix).body))
          (ends : last ≡ is_none (sibling_of t.nodes ix))
          (counts : more ≡ counts_one (run_character (item_at t.nodes ix).body)) where
        step_if : (rest : Forest (TreeNode ℕ)) → QuotesOn h old t nil whole None false opened.single opened.double
            (Some ix) rest
            → count + delimiters_in rest ≡ delimiters_in whole → QuotesTree k ix last t u opened opened'
            → QuotesSoFar u opened' (count + more) (sibling_of t.nodes ix)
        unfolding whole_chain
        step_if nil on e q = let no : Some ix ≡ None = on.stands.cut.right in cc
        step_if (node b below after) on e q =
            let here : Some ix ≡ Some b.note = on.stands.cut.right.0 in
            let is : ix ≡ b.note = cc in
            let part = ap (view h t).item is ∙ on.stands.cut.right.2 in
            let kind : k ≡ kind_of_shape b.part.shape =
            kinds tables _ ∙ ap (λ (p : Part). kind_of_shape p.shape) part in
            let end : last ≡ is_end after = ends ∙ ap (λ i. is_none (sibling_of t.nodes i)) is
            ∙ none_at_end (view h t) (sibling_of t.nodes b.note) after on.stands.cut.right.4 in
            let one : more ≡ counts_shape b.part.shape = counts ∙ sym (counts_as tables _ (item_at t.nodes ix).body)
            ∙ ap (λ (p : Part). counts_shape p.shape) part in
            let r = q h on.read b below after on.stands kind end in
            record {
              rest = after;
              on = record {
                read = r.read;
                stands = r.stands;
                kept = kept_both h.touched old t u on.kept r.kept;
                same = r.same ∙ on.same;
              };
              counted = omega (arith, e, one);
            }

        pub quotes_step : QuotesTree k ix last t u opened opened'
            → QuotesSoFar u opened' (count + more) (sibling_of t.nodes ix)
        quotes_step q = step_if a.rest a.on a.counted q

      down_if : (rest : Forest (TreeNode ℕ)) → QuotesOn h old t nil whole None false opened.single opened.double
          (Some ix)
          rest
          → numbers_left (length t.nodes) (sibling_of t.nodes ix) < length t.nodes - ix
      down_if nil on = let no : Some ix ≡ None = on.stands.cut.right in cc
      down_if (node b below after) on =
          let here : Some ix ≡ Some b.note = on.stands.cut.right.0 in
          let is : ix ≡ b.note = cc in
          rw is (fewer_left h.touched (view h t) (sibling_of t.nodes b.note) after b.note h.bound on.stands.cut.right.1
          on.stands.cut.right.4
          on.stands.cut.rises_right.2)

      pub quotes_down : numbers_left (length t.nodes) (sibling_of t.nodes ix) < length t.nodes - ix
      quotes_down = down_if a.rest a.on

    module _ (t : Arena Item) (opened : OpenQuotes) (count : ℕ) (l : Option ℕ) (a : QuotesSoFar t opened count l) where
      pub quotes_size : length t.nodes ≡ length old.nodes
      quotes_size = a.on.kept.size

      pub few_so_far : count ≤ length old.nodes
      few_so_far = omega (arith, a.counted, few_counted)

      module _ (none : l ≡ None) where
        all : AllRead s tables old first f c t (read_back a.on.read nil) × (a.rest ≡ nil)
        unfolding whole_chain
        all = chain_read s tables old first f c t a.on.read a.rest l none a.on.stands.cut

        pub quotes_done : IsQuoted s tables old t first f
        unfolding whole_chain with_quotes
        quotes_done =
            let is : read_back a.on.read nil ≡ quotes_after false false whole =
            ap (λ g. read_back g nil) (sym (never_closed opened.single a.on.read))
            ∙ sym (ap (quoted_from opened.single opened.double a.on.read) all.1) ∙ a.on.same in
            let numbers : numbers_of (read_back a.on.read nil) ≡ f = ap numbers_of is
            ∙ numbers_of-quotes false false whole
            ∙ numbers_of-labels s tables old.nodes f in
            record {
              spelled = subst (λ g. Spells (links_of t.nodes) (Some first) g) numbers all.0.spelled;
              quotes = ap (labels s tables t.nodes) (sym numbers) ∙ all.0.nodes_are ∙ is;
              kept = a.on.kept;
            }

        pub all_counted : count ≡ delimiters_of (relabelled (numbered old.nodes) f)
        all_counted = omega (arith, a.counted, ap delimiters_in all.1, delimiters_are s tables old.nodes f)
