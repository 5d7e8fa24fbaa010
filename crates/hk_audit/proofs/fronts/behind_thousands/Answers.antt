use Rattle.hk_audit.proofs.TextsBehind.{long_number}
use Rattle.hk_audit.proofs.fronts.behind_thousands.Goals as goal

pub returns : goal.returns
returns c =
    long_number c.args.n c.args.bytes.now c.in_ok-last.last.now c.in_ok-rest.rest.now c.requires.more c.ranges.n.fits c.in_ok-last.ensures c.in_ok-rest.ensures
