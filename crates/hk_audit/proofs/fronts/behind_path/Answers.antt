use Rattle.std.proofs.Common.{◌≡◌, ◌-◌, ◌++◌, ◌∷◌, List, ℕ, length, take, drop, ap, subst, arith}
use Rattle.std.specs.Prelude.{slice_index}
use Rattle.std.specs.List.{flat_map}
use Rattle.std.specs.Fmt.{decimal}
use Rattle.hk_audit.proofs.TextsBehind.{whole_path}
use Rattle.hk_audit.proofs.fronts.behind_path.Goals as goal

pub returns : goal.returns
returns c =
    let same = c.as_slice-indices.ensures in
    let left = c.loop-index.left.now in
    let k = c.loop-index.index-index in
    let told = subst (λ (ix : List ℕ). (decimal (slice_index c.args.path.now 0) ++ flat_map (λ index. 46 ∷ decimal index) (take k (take (length ix - 1) (drop 1 ix)))) ++ left
    ≡ c.args.bytes.now) same c.loop-index.invariant in
    whole_path c.args.path.now left c.args.bytes.now k c.requires.0 (omega (arith, c.loop-index-test.false, ap length same)) told
