use Rattle.hk_audit.proofs.LineCuts.{stripped_some, stripped_only, stripped_none, parts_none}
use Rattle.hk_audit.proofs.reading.halves.Goals as goal

pub returns-in-Some-clause-some : goal.returns-in-Some-clause-some
returns-in-Some-clause-some c =
    stripped_some (λ f. f.0.now) (λ f. f.1.now) c.stripped.result c.args.body.now c.in-Some.first.now c.in-Some.second.now c.in-Some.ensures.some c.stripped.ensures.some

pub returns-in-Some-clause-only : goal.returns-in-Some-clause-only
returns-in-Some-clause-only c =
    stripped_only (λ f. f.0.now) (λ f. f.1.now) c.stripped.result c.args.body.now c.in-Some.first.now c.in-Some.second.now c.in-Some.ensures.some c.stripped.ensures.some

pub returns-in-Some-clause-none : goal.returns-in-Some-clause-none
returns-in-Some-clause-none c = stripped_none c.stripped.result c.args.body.now c.in-Some.first.now c.in-Some.second.now c.in-Some.ensures.some c.stripped.ensures.none

pub returns-in-None-clause-none : goal.returns-in-None-clause-none
returns-in-None-clause-none c = λ a b ha hb e. parts_none c.args.body.now a b c.in-None.ensures.none ha hb e
