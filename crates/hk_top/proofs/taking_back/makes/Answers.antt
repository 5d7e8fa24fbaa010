use Rattle.std.proofs.Common.{sym, ◌∙◌}
use Rattle.hk_top.proofs.TakenBack.{found_same, made_same}
use Rattle.hk_top.proofs.taking_back.makes.Goals as goal

pub returns-in-Some-clause-same : goal.returns-in-Some-clause-same
returns-in-Some-clause-same c = found_same _ c.in-Some.made c.args.line.now c.is_same.result (sym c.in_ok-made.ensures.made ∙ c.in-Some.is) c.is_same.ensures

pub returns-in-Some-clause-made : goal.returns-in-Some-clause-made
returns-in-Some-clause-made c same =
    made_same c.args.past.now c.forward.new.self c.in_ok-made.field-0 c.in-Some.made c.args.line.now c.in-Some.is c.in_ok-made.ensures.some (c.is_same.ensures.0 same)
