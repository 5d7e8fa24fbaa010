use Rattle.std.proofs.Common.{◌≡◌, ◌++◌, ◌∷◌, take}
use Rattle.std.specs.Prelude.{slice_index}
use Rattle.std.specs.List.{flat_map}
use Rattle.std.specs.Fmt.{decimal}
use Rattle.hk_audit.proofs.fronts.behind_path.Given as goal

abbrev pub invariant-loop-index : goal.invariant-loop-index
invariant-loop-index l = (decimal (slice_index l.path 0) ++ flat_map (λ index. 46 ∷ decimal index) (take l.index-index l.index-items)) ++ l.left ≡ l.bytes
