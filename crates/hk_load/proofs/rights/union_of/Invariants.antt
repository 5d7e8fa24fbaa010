use Rattle.std.proofs.Common.{◌≡◌, drop, length}
use Rattle.hk_format.specs.RightsTexts.{union_of}
use Rattle.hk_load.specs.Texts.{names_in, united}
use Rattle.hk_load.proofs.rights.union_of.Given as goal

abbrev pub invariant-loop-name : goal.invariant-loop-name
invariant-loop-name l = united l.rights (union_of (drop (length l.yielded) (names_in l.names))) ≡ union_of (names_in l.names)
