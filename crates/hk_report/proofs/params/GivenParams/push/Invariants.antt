-- The parameters so far are kept.
use Rattle.std.proofs.Common.{◌≡◌, map, take}
use Rattle.hk_model.specs.Places.{cap_of}
use Rattle.hk_report.proofs.params.GivenParams.push.Given as goal

abbrev pub invariant-loop-index : goal.invariant-loop-index
invariant-loop-index l = take l.index l.params ≡ map cap_of (take l.index l.slots)
