use Rattle.hk_check.proofs.checking.check_on.Goals as goal

pub returns-in-Some : goal.returns-in-Some
returns-in-Some g c = rw c.in-Some.is at (c.in_ok-line.ensures.some c.args.end)
