-- What is put after a left list changes the whole chain: the nodes of the left list stay, and read as they did.
use Rattle.std.proofs.Common.{◌≡◌, ℕ, ◌<◌, ◌≤◌, List, length, Option, Some, None, ⊎_elim, refl, sym, ap, ◌∙◌, subst}
use Rattle.std.proofs.Common.{arith}
use Rattle.std.proofs.lemmas.Bool.{cases_lt}
use Rattle.markdown_base.specs.Arena.{child_of, sibling_of}
use Rattle.markdown_base.specs.ArenaForest.{links_of, forest_at}
use Rattle.markdown_base.specs.BlockTree.{numbered, item_at}
use Rattle.markdown_base.specs.Forest.{Forest, nil, node, Each, relabelled}
use Rattle.markdown_base.specs.declared.item.Item.{Item}
use Rattle.markdown_base.specs.declared.node.Node.{Node}
use Rattle.markdown_base.proofs.ArenaForestLemmas.{opens}
use Rattle.markdown_brackets.specs.ChainHeld.{times_of}
use Rattle.markdown_brackets.specs.LeftList.{Entry, trees_onto}
use Rattle.markdown_document.specs.ChainRest.{joined_chains}
use Rattle.markdown_document.specs.Document.{TreeNode, Plain}
use Rattle.markdown_document.specs.PlacedNodes.{IsPlaced, IsSameAt}
use Rattle.markdown_document.specs.ResolverStates.{times_in}
use Rattle.markdown_document.specs.Tables.{Tables}
use Rattle.markdown_document.specs.NamedEntries.{number_of, size_for}
use Rattle.markdown_document.specs.Totals.{total, same}
use Rattle.markdown_document.proofs.FrameLemmas.{Stays, label-same, stay_throughout, framed}
use Rattle.markdown_document.proofs.PlaceLemmas.{times-past, named-past}
use Rattle.markdown_document.proofs.TablesLemmas.{named-apart, grown-nothing, grown-same, grown-longer}
use Rattle.markdown_resolver.specs.Chains.{ChangesChain}
use Rattle.markdown_resolver.specs.Kept.{IsQuiet, IsQuietBelow}
use Rattle.markdown_resolver.specs.PutsTrees.{PutsTrees, numbered_from, numbered_node}
use Rattle.markdown_resolver.specs.ReadOn.{EachWaits, IsOpener, PutsAfter, StandsTo}
use Rattle.markdown_resolver.specs.Rewritten.{RunsGoOn}
use Rattle.markdown_resolver.proofs.ComposeLemmas.{Stands, changes_move, moves_change, first_leaves, HeadWritten}
use Rattle.markdown_resolver.proofs.ComposeLemmas.{after_head, below_kept, head_moves}
use Rattle.markdown_resolver.proofs.LeftTreesLemmas.{onto_split, times_onto, done_onto, quiet_joined, quiet_unannotated}
use Rattle.markdown_resolver.proofs.LeftTreesLemmas.{quiet_is_below, below_joined, waits_done, waits_mapped}
use Rattle.markdown_resolver.proofs.StandsToLemmas.{numbers_are, same_link, numbered_opens, numbered_none}
use Rattle.markdown_resolver.proofs.StandsToLemmas.{quiet_numbered, quiet_plain, rest_of, stands_from, some_nodes}

module _ (source : List ℕ) (old new : List (Node Item)) (tables tables' : Tables) where
  -- nodes that stay read as the same tree nodes
  numbered_stays : (f : Forest ℕ) → Each (Stays tables tables' old new) f
      → relabelled (numbered_node source tables' new) f ≡ relabelled (numbered_node source tables old) f
  numbered_stays nil h = refl
  numbered_stays (node n below after) h =
      let same : numbered_node source tables' new n ≡ numbered_node source tables old n =
      ap (λ (a : Plain). let b : TreeNode ℕ = record { note = n; part = a.part } in b)
      (label-same source tables tables' old new n h.0) in
      rw (same, numbered_stays below h.1, numbered_stays after h.2) refl

  -- what follows a first node was changed, and so the chain from that node on was changed: the node stays, with what is
  -- below it
  record Further (ix : ℕ) : Type 0 where
    changes : ChangesChain source (Some ix) old new tables tables'
    runs : RunsGoOn source old new (Some ix)
    trees : numbered_from source tables' new (Some ix)
        ≡ node (numbered_node source tables old ix) (numbered_from source tables old (child_of old ix))
        (numbered_from source tables' new (sibling_of old ix))

  unwritten : (ix : ℕ) → IsPlaced source tables old ix → HeadWritten source ix old old tables tables
  unwritten ix placed = record {
    others = λ n l e. record { child = refl; next = refl; item = refl };
    more = omega arith;
    grown = grown-nothing tables;
    lies = placed.lies;
    entries = placed.named;
    slices = placed.slices;
    markup = placed.keeps.markup_is_there;
    childless = placed.keeps.childless;
    named = λ n l. omega arith;
  }

  further : (ix : ℕ) → Stands source tables old (Some ix) → ChangesChain source (sibling_of old ix) old new tables
      tables' → RunsGoOn source old new (sibling_of old ix) → Further ix
  further ix s c runs =
      let o = opens (links_of old) (IsPlaced source tables old) ix s.reaches in
      let h = unwritten ix o.holds in
      let a = after_head s h in
      let m = changes_move c in
      let kept = below_kept (sibling_of old ix) s h m refl (omega arith) in
      let hm = head_moves source ix old old new tables tables tables' s h m kept.below
      (c.before (numbered old ix) o.holds.keeps.in_order) (runs (numbered old ix) o.holds.keeps.runs_are_whole) in
      let here : IsSameAt old new ix = c.outside ix a.within a.not_after in
      let longer = grown-longer tables tables' c.grown in
      let f = forest_at (links_of old) (child_of old ix) in
      let stay : Each (Stays tables tables' old new) f = stay_throughout tables tables' old new f longer.headings
      (λ n l.
      let once = rw o.here at (s.once n) in
      let within : n < length old = ⊎_elim (λ x. x)
      (λ x. absurd (omega (arith, times-past (links_of old) (child_of old ix) f n o.below.spelled x, l)))
      (cases_lt n (length old)) in
      c.outside n within (omega (arith, once, l))) (λ n l. grown-same tables tables' n c.grown
      (⊎_elim (λ x. x) (λ x. absurd (omega (arith, named-past source tables old f n o.below.each x, l)))
      (cases_lt (number_of n) (size_for tables n)))) in
      let b = framed source tables tables' old new (child_of old ix) c.more_nodes longer o.below stay in
      let below : numbered_from source tables' new (child_of old ix) ≡ numbered_from source tables old (child_of old ix)
      = rw b.forest (numbered_stays f stay) in
      let plain = label-same source tables tables' old new ix (record {
        at = here;
        entries = λ n l. grown-same tables tables' n c.grown (⊎_elim (λ x. x) (λ x. absurd
            (omega (arith, named-apart n tables (item_at old ix).body o.holds.named x, l)))
            (cases_lt (number_of n) (size_for tables n)));
        headings = longer.headings;
      }) in
      let label : numbered_node source tables' new ix ≡ numbered_node source tables old ix =
      ap (λ (p : Plain). let q : TreeNode ℕ = record { note = ix; part = p.part } in q) plain in
      record {
        changes = moves_change hm.moves (λ x stands. rw hm.item stands);
        runs = λ x whole. rw hm.item whole;
        trees = numbered_opens source tables' new ix hm.moves.stands ∙ rw (here.child, here.next, label, below) refl;
      }

  -- the same for all trees that precede what was changed
  pub record Follows (ix : ℕ) (head : Forest (TreeNode ℕ)) (l : Option ℕ) : Type 0 where
    pub changes : ChangesChain source l old new tables tables'
    pub runs : RunsGoOn source old new l
    pub trees : numbered_from source tables' new l ≡ joined_chains head (numbered_from source tables' new (Some ix))

  pub follows_so : (ix : ℕ) (head : Forest (TreeNode ℕ)) (l : Option ℕ) → 0 < length old
      → ChangesChain source (Some ix) old new tables tables' → RunsGoOn source old new (Some ix)
      → Stands source tables old l → numbered_from source tables old l
      ≡ joined_chains head (numbered_from source tables old (Some ix)) → Follows ix head l
  follows_so ix nil l some c runs s e =
      let here : Some ix ≡ l = sym (same_link source tables old l (Some ix) some e) in
      subst (λ (k : Option ℕ). Follows ix nil k) here (record { changes = c; runs = runs; trees = refl })
  follows_so ix (node a below after) None some c runs s e =
      let q : nil ≡ node a below (joined_chains after (numbered_from source tables old (Some ix))) = sym
      (numbered_none source tables old) ∙ e in
      absurd (cc q)
  follows_so ix (node a below after) (Some n) some c runs s e =
      let q : node (numbered_node source tables old n) (numbered_from source tables old (child_of old n))
      (numbered_from source tables old (sibling_of old n))
      ≡ node a below (joined_chains after (numbered_from source tables old (Some ix))) = sym
      (numbered_opens source tables old n s) ∙ e in
      let is_node : numbered_node source tables old n ≡ a = cc q in
      let is_below : numbered_from source tables old (child_of old n) ≡ below = cc q in
      let is_after : numbered_from source tables old (sibling_of old n)
      ≡ joined_chains after (numbered_from source tables old (Some ix)) = cc q in
      let r = follows_so ix after (sibling_of old n) some c runs (first_leaves s).stands is_after in
      let more = further n s r.changes r.runs in
      record {
        changes = more.changes;
        runs = more.runs;
        trees = more.trees ∙ rw (is_node, is_below, r.trees) refl;
      }

-- an opener of a left list stays where what follows the left list is changed
pub openers_stay : (source : List ℕ) (tables tables' : Tables) (old new : List (Node Item)) (first ix : ℕ)
    (before : List (Entry ℕ)) → StandsTo source tables old first (Some ix) before
    → ChangesChain source (Some ix) old new tables tables' → EachWaits (IsOpener source new) before
openers_stay source tables tables' old new first ix before h c =
    waits_mapped (IsOpener source old) (IsOpener source new) before (λ n there o.
    let once : times_in old (Some first) n ≤ 1 = h.ready.once n in
    let e : forest_at (links_of old) (Some first)
    ≡ relabelled (λ a. a.note) (trees_onto before (numbered_from source tables old (Some ix))) =
    sym (numbers_are source tables old (forest_at (links_of old) (Some first)))
    ∙ ap (λ (g : Forest (TreeNode ℕ)). relabelled (λ a. a.note) g) h.stands in
    let whole : times_in old (Some first) n ≡ times_of n (trees_onto before (numbered_from source tables old (Some ix)))
    = ap (λ (g : Forest ℕ). total (same n) g) e in
    let parts = times_onto n before (numbered_from source tables old (Some ix)) in
    let later : times_of n (numbered_from source tables old (Some ix)) ≡ times_in old (Some ix) n =
    ap (λ (g : Forest ℕ). total (same n) g) (numbers_are source tables old (forest_at (links_of old) (Some ix))) in
    let stays = c.outside n o.within (omega (arith, once, whole, parts, later, there)) in
    record {
      within = omega (arith, o.within, c.more_nodes);
      opens = rw stays.item o.opens;
      bracket = rw stays.item o.bracket;
      mark = rw stays.item o.mark;
      closed = rw stays.item o.closed;
      childless = rw stays.child o.childless;
    }) h.waiting

-- trees were put after a left list where they were put in place of what was there
pub puts_after : {source : List ℕ} {first ix : ℕ} {next : Option ℕ} {before : List (Entry ℕ)}
    {trees rest : Forest Plain} {old new : List (Node Item)} {tables tables' : Tables}
    → StandsTo source tables old first (Some ix) before → PutsTrees source ix next trees rest old new tables tables'
    → PutsAfter source first next before trees rest old new tables tables'
puts_after {source} {first} {ix} {next} {before} {trees} {rest} {old} {new} {tables} {tables'} h p =
    let head = trees_onto before nil in
    let later = numbered_from source tables' new next in
    let r = rest_of source tables old first (Some ix) before h in
    let b = follows_so source old new tables tables' ix head (Some first)
    (some_nodes source tables old first (Some ix) before h) p.changes p.runs
    (stands_from source tables old first (Some ix) before h) r.whole in
    let whole : numbered_from source tables' new (Some first) ≡ joined_chains head (joined_chains p.standing later)
    = b.trees ∙ ap (λ (g : Forest (TreeNode ℕ)). joined_chains head g) p.stands in
    let quiet : IsQuiet p.standing = quiet_unannotated (λ n. tt) p.standing
    (subst (λ (g : Forest Plain). IsQuiet g) (sym p.reads) p.quiet) in
    let all : IsQuietBelow (joined_chains head (joined_chains p.standing later)) =
    below_joined head (joined_chains p.standing later) (quiet_is_below head h.quiet)
    (below_joined p.standing later (quiet_is_below p.standing quiet)
    (quiet_numbered source tables' new next p.ready.quiet_below)) in
    record {
      changes = b.changes;
      standing = p.standing;
      stands = record {
        ready = record {
          reaches = b.changes.reaches;
          once = b.changes.once;
          named_once = b.changes.named_once;
          quiet_below = quiet_plain source tables' new (Some first)
              (subst (λ (g : Forest (TreeNode ℕ)). IsQuietBelow g) (sym whole) all);
        };
        stands = whole ∙ sym (onto_split before (joined_chains p.standing later))
            ∙ sym (done_onto p.standing before later);
        quiet = subst (λ (g : Forest (TreeNode ℕ)). IsQuiet g)
            (sym (done_onto p.standing before nil ∙ onto_split before (joined_chains p.standing nil)))
            (quiet_joined head (joined_chains p.standing nil) h.quiet (quiet_joined p.standing nil quiet tt));
        waiting = waits_done (IsOpener source new) p.standing before
            (openers_stay source tables tables' old new first ix before h p.changes);
      };
      reads = p.reads;
      rest_is = p.rest_is;
    }
