use Rattle.std.proofs.Common.{sym}
use Rattle.hk_walk.proofs.Found.{found_entries}
use Rattle.hk_walk.proofs.hops.list_of.Goals as goal

pub returns-in-Some-clause-value : goal.returns-in-Some-clause-value
returns-in-Some-clause-value g c =
    sym (found_entries c.args.objects.now.slots c.in-Some.slot.0 c.args.name c.entries.result.now c.in-Some.ensures.found c.find.ensures.apart c.entries.ensures.entries)
