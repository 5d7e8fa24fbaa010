use Rattle.std.proofs.Common.{refl, sym, ◌∙◌}
use Rattle.hk_report.proofs.MomentLemmas.{told_one}
use Rattle.hk_report.proofs.reachable.Moments.tell.Goals as goal

pub returns-clause-earlier : goal.returns-clause-earlier
returns-clause-earlier c = told_one c.args.self.now _ c.args.name c.args.moment (sym c.is_by.ensures ∙ c.if-is_by.false) refl c.in_ok-push.ensures.permutation
