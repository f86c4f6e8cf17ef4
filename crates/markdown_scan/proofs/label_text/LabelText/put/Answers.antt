use Rattle.std.proofs.Common.{sym, ◌∙◌, ◌++◌, subst, encode_utf8, false, ◌≡◌}
use Rattle.markdown_scan.specs.AsciiKinds.{is_white_space}
use Rattle.markdown_scan.specs.LabelScan.{IsNoBeginning}
use Rattle.markdown_scan.specs.LabelText.{so_far}
use Rattle.markdown_scan.proofs.LabelTextLemmas.{on_err, put_text, gap_differs, put_differs}
use Rattle.markdown_scan.proofs.label_text.LabelText.put.Goals as goal

pub returns-in_err-put_gap-clause-differs : goal.returns-in_err-put_gap-clause-differs
returns-in_err-put_gap-clause-differs c =
    let label = c.args.self.now in
    let solid : is_white_space c.args.c ≡ false = sym c.is_white_space.ensures ∙ c.if-is_white_space.false in
    on_err c.from_residual.result _
    (gap_differs (so_far label) label.source.now label.begun label.waiting c.args.c solid
    c.in_err-put_gap.ensures.differs)

pub returns-in_err-push-clause-differs : goal.returns-in_err-push-clause-differs
returns-in_err-push-clause-differs c =
    let label = c.args.self.now in
    let gapped = c.put_gap.new.self in
    let solid : is_white_space c.args.c ≡ false = sym c.is_white_space.ensures ∙ c.if-is_white_space.false in
    let differs = subst (λ source. IsNoBeginning (so_far gapped ++ encode_utf8 c.args.c) source.now)
    c.in_ok-put_gap.ensures.source
    c.in_err-push.ensures.differs in
    on_err c.from_residual-in_err-push.result _
    (put_differs (so_far label) (so_far gapped) label.source.now label.begun label.waiting
    c.args.c solid c.in_ok-put_gap.ensures.text differs)

pub returns-clause-text : goal.returns-clause-text
returns-clause-text c =
    let label = c.args.self.now in
    let solid : is_white_space c.args.c ≡ false = sym c.is_white_space.ensures ∙ c.if-is_white_space.false in
    put_text (so_far label) (so_far c.put_gap.new.self) (so_far c.push.new.self) label.begun label.waiting c.args.c
    solid
    c.in_ok-put_gap.ensures.text c.in_ok-push.ensures.text
