use Rattle.std.proofs.Common.{◌≡◌, ◌≤◌, ◌+◌, ◌++◌, length, take, string_bytes}
use Rattle.std.specs.List.{flat_map}
use Rattle.hk_top.specs.BoundTexts.{pair_text}
use Rattle.hk_top.proofs.bounds.write_pairs.Given as goal

abbrev pub invariant-loop-name : goal.invariant-loop-name
invariant-loop-name l =
    (string_bytes l.out ≡ string_bytes l.initial.out ++ flat_map (pair_text l.process) (take l.name-index l.names))
    × (length (string_bytes l.initial.out) + l.name-index ≤ length (string_bytes l.out))
