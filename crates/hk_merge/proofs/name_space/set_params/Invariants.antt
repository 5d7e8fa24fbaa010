use Rattle.std.proofs.Common.{◌≡◌, ◌+◌, drop}
use Rattle.hk_merge.specs.NameSpaces.{merged_all, with_caps}
use Rattle.hk_merge.proofs.name_space.set_params.Given as goal

-- writing the arguments that are left gives what writing all of them gives
abbrev pub invariant-loop-i : goal.invariant-loop-i
invariant-loop-i l =
    with_caps l.space l.i (merged_all (drop l.i l.args) (drop l.i l.params) (l.first_step + l.i)) ≡ with_caps l.initial.space 0 (merged_all l.args l.params l.first_step)
