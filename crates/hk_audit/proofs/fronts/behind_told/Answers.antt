use Rattle.hk_audit.proofs.TextsBehind.{whole_end}
use Rattle.hk_audit.proofs.fronts.behind_told.Goals as goal

pub returns : goal.returns
returns c =
    whole_end c.args.reply.now c.args.bytes.now c.in_ok-told.told.now c.in_ok-end.end.now c.in_ok-rest.rest.now c.in_ok-told.ensures.some c.in_ok-end.ensures c.in_ok-rest.ensures.some
