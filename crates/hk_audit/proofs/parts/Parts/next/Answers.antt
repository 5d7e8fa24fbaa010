use Rattle.std.proofs.lemmas.Bool.{le-ltb}
use Rattle.hk_audit.proofs.Cuts.{left_next}
use Rattle.hk_audit.proofs.parts.Parts.next.Goals as goal

pub returns-clause-next : goal.returns-clause-next
returns-clause-next c =
    left_next c.args.self.now.text.now c.args.self.now.separator c.args.self.now.at c.first_of-len.result (le-ltb _ _ c.if-self.false) c.first_of-len.ensures.place
