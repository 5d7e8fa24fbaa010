use Rattle.std.proofs.Common.{◌≡◌, ◌+◌, drop, map, true}
use Rattle.hk_model.specs.Merging.{inherited}
use Rattle.hk_merge.specs.NameSpaces.{overwritten}
use Rattle.hk_merge.proofs.name_space.set_confined.Given as goal

-- writing the entries that are left gives what writing all of them gives
abbrev pub invariant-loop-i : goal.invariant-loop-i
invariant-loop-i l =
    overwritten l.space (l.start + l.i) (map (inherited true) (drop l.i l.entries)) ≡ overwritten l.initial.space l.start (map (inherited true) l.entries)
