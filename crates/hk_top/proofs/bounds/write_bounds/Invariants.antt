use Rattle.std.proofs.Common.{◌≡◌, ◌≤◌, ◌++◌, length, map, take, string_bytes}
use Rattle.hk_top.specs.BoundTexts.{bounds_from, pair_count}
use Rattle.hk_top.proofs.bounds.write_bounds.Given as goal

abbrev pub invariant-loop-process : goal.invariant-loop-process
invariant-loop-process l =
    (string_bytes l.out ≡ string_bytes l.initial.out ++ bounds_from 0 (map (λ names. names.items) (take l.process l.bounds)))
    × (l.count ≡ pair_count (map (λ names. names.items) (take l.process l.bounds)))
    × (l.count ≤ length (string_bytes l.out))
