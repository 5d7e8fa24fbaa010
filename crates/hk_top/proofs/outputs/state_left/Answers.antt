use Rattle.hk_top.specs.Outputs.{TellsState}
use Rattle.hk_top.proofs.TakenBack.{legal_lines, made_few, not_legal, told_illegal, told_legal}
use Rattle.hk_top.proofs.outputs.state_left.Goals as goal

pub laws-requires : goal.laws-requires
laws-requires c =
    (legal_lines c.args.audit.now c.args.past.now c.makes_again.new.past c.world-world.result.now c.lines-lines.result.now c.end-end.result c.in_ok-makes_again.field-0 c.requires
    c.world-world.ensures c.lines-lines.ensures c.end-end.ensures c.in_ok-makes_again.ensures.legal c.if-branch.true).steps

pub text_before-requires : goal.text_before-requires
text_before-requires c =
    made_few c.args.audit.now c.args.past.now c.makes_again.new.past c.world-world.result.now c.lines-lines.result.now c.end-end.result c.in_ok-makes_again.field-0 c.requires
    c.world-world.ensures c.lines-lines.ensures c.end-end.ensures c.in_ok-makes_again.ensures.legal c.limit-limit.ensures.valid c.if-branch.true
    (c.in_ok-makes_again.ensures.made c.if-branch.true)

pub returns-then-branch : goal.returns-then-branch
returns-then-branch c =
    told_legal c.args.audit.now c.args.past.now c.makes_again.new.past c.world-world.result.now c.lines-lines.result.now c.end-end.result c.in_ok-makes_again.field-0 c.requires
    c.world-world.ensures c.lines-lines.ensures c.end-end.ensures c.in_ok-makes_again.ensures.legal c.args.count c.in_ok-text_before.field-0 c.if-branch.true
    (c.in_ok-makes_again.ensures.made c.if-branch.true) c.laws.ensures c.in_ok-text_before.ensures

pub returns : goal.returns
returns c =
    told_illegal c.args.audit.now (TellsState c.args.count) c.world-world.result.now c.lines-lines.result.now c.end-end.result c.in_ok-found.found c.told.result
    c.world-world.ensures c.lines-lines.ensures c.end-end.ensures c.in_ok-found.ensures
    (not_legal c.args.audit.now c.args.past.now c.makes_again.new.past c.world-world.result.now c.lines-lines.result.now c.end-end.result c.in_ok-makes_again.field-0 c.requires
    c.world-world.ensures c.lines-lines.ensures c.end-end.ensures c.in_ok-makes_again.ensures.legal c.if-branch.false)
    c.told.ensures
