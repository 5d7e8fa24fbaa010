-- What is so of the hops from this place on is so of all.
use Rattle.std.proofs.Common.{◌≡◌, [], ◌∷◌, ◌++◌, true}
use Rattle.std.specs.Prelude.{drop}
use Rattle.std.specs.List.{flat_map}
use Rattle.hk_model.specs.Changes.{hop_key, is_at_most}
use Rattle.hk_report.proofs.ways.are_at_most.Given as goal

abbrev pub invariant-loop-place : goal.invariant-loop-place
invariant-loop-place l =
    is_at_most (flat_map hop_key (drop l.place l.hops)) (flat_map hop_key (drop l.place l.others ++ l.last ∷ [])) ≡ true
    → is_at_most (flat_map hop_key l.hops) (flat_map hop_key (l.others ++ l.last ∷ [])) ≡ true
