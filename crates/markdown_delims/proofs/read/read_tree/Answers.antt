-- A run is turned into Texts and read; any other tree is kept.
use Rattle.std.proofs.Common.{◌+◌, ◌*◌, ◌^◌, ◌<◌, arith, ap, Ok, Err, Some, None}
use Rattle.std.specs.Prelude.{IfErr, IfOk, Result}
use Rattle.markdown_base.specs.BlockTree.{no_item}
use Rattle.markdown_document.specs.Counts.{comparisons_per_delimiter}
use Rattle.markdown_delims.specs.ChainReading.{runs_in}
use Rattle.markdown_delims.proofs.ReadLemmas.{shown_run, head_within, head_count, read_none, run_here, read_some}
use Rattle.markdown_delims.proofs.ReadLemmas.{met_here}
use Rattle.markdown_delims.proofs.read.read_tree.Goals as goal

pub item-item-requires : goal.item-item-requires
item-item-requires c =
    let p = c.requires.stands in
    head_within _ _ _ _ _ _ _ p.stands

pub make_run_literal-requires : goal.make_run_literal-requires
make_run_literal-requires c =
    let p = c.requires.stands in
    let r = met_here _ _ _ _ _ _ p c.item-item.result.now c.in-Some.run' (c.item-item.ensures no_item)
    c.in-Some.ensures in
    record {
      stands = record {
        chain = p.chain;
        rs = p.rs;
        last = c.args.last;
        rest = p.rest;
        stands = p.stands.stands;
        begins = r.begins;
        some = r.some;
      };
    }

pub read_run-requires : goal.read_run-requires
read_run-requires c =
    let p = c.requires.stands in
    let r = met_here _ _ _ _ _ _ p c.item-item.result.now c.in-Some.run' (c.item-item.ensures no_item)
    c.in-Some.ensures in
    let room : c.args.openers.now.potential + comparisons_per_delimiter * runs_in c.args.source.text.now p.rest < 2 ^
    128 = p.room in
    record {
      some = r.some;
      room = omega (arith, r.fewer, room, ap (λ t. runs_in t p.rest) p.text_is);
      stands = record {
        chain = p.chain;
        extensions_are = p.extensions_are;
        rs = p.rs;
        vs = _;
        after = _;
        stands = (c.make_run_literal.ensures p.chain p.rs c.args.last p.rest p.stands.stands r.begins).0;
        are = p.stands.are;
      };
    }

pub returns-in-None-clause-ok : goal.returns-in-None-clause-ok
returns-in-None-clause-ok c h rs chain m t st =
    rw c.next.ensures.value (read_none _ _ _ _ _ _ _ st (shown_run c.args.source.text.now h.setting.text h.tables
    c.item-item.result.now _ None t (c.item-item.ensures no_item) (head_count _ _ _ _ _ _ _ st) c.in-None.ensures))

if_ok : {A E : Type 0} (P Q : A → Type 0) (r : Result A E) → ((x : A) → P x → Q x) → IfOk r P → IfOk r Q
if_ok P Q (Ok x) h i = h x i
if_ok P Q (Err e) h i = tt

if_err : {A E : Type 0} {P : Type 0} (r : Result A E) → P → IfErr r (λ e. P)
if_err (Ok x) p = tt
if_err (Err e) p = p

pub returns-in-Some-clause-ok : goal.returns-in-Some-clause-ok
returns-in-Some-clause-ok c =
    if_ok _ _ c.read_run.result
    (λ x on h rs chain m t st.
    let r = run_here _ _ _ _ _ _ c.in-Some.run' _ st (shown_run c.args.source.text.now h.setting.text h.tables
    c.item-item.result.now _ (Some c.in-Some.run') t (c.item-item.ensures no_item) (head_count _ _ _ _ _ _ _ st)
    c.in-Some.ensures) in
    read_some h c.args.tree.now rs c.args.last c.args.ix c.args.openers.now c.in-Some.run' chain c.read_run.new.openers
    x.0 x.1
    c.make_run_literal.new.tree c.read_run.new.tree st r c.make_run_literal.ensures c.read_run.ensures.paid
    (on h rs _ _ m (c.make_run_literal.ensures h rs c.args.last chain st.stands r.begins).0 st.are))
    c.read_run.ensures.ok

pub returns-in-Some-clause-paid : goal.returns-in-Some-clause-paid
returns-in-Some-clause-paid c =
    if_err c.read_run.result
    (λ h rs chain t st.
    let r = run_here _ _ _ _ _ _ c.in-Some.run' _ st (shown_run c.args.source.text.now h.setting.text h.tables
    c.item-item.result.now _ (Some c.in-Some.run') t (c.item-item.ensures no_item) (head_count _ _ _ _ _ _ _ st)
    c.in-Some.ensures) in
    omega (arith, r.fewer, c.read_run.ensures.paid, ap (λ x. runs_in x chain) t))
