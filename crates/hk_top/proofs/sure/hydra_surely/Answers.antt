use Rattle.hk_top.proofs.NoFaults.{never_fails, is_served}
use Rattle.hk_top.proofs.sure.hydra_surely.Goals as goal

pub returns-clause-answer : goal.returns-clause-answer
returns-clause-answer g c = c.hydra.ensures.answer

pub returns-clause-read : goal.returns-clause-read
returns-clause-read g c = (never_fails c.hydra.ensures.answer).0

pub returns-clause-written : goal.returns-clause-written
returns-clause-written g c = (never_fails c.hydra.ensures.answer).1

pub returns-clause-served : goal.returns-clause-served
returns-clause-served g c = is_served c.hydra.ensures.answer
