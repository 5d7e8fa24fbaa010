-- The fields of a path can be told from its indices.
use Rattle.std.specs.Prelude.{◌≡◌, ◌<◌, length, take, List, ℕ}
use Rattle.std.proofs.Common.{ap, ◌∙◌}
use Rattle.hk_model.specs.Padded.{IsPadded, padded}
use Rattle.hk_model.specs.PaddedLemmas.{length-used, padded-used}
use Rattle.hk_model.specs.declared.paths.Path.TheInside.{Inside}

-- the fields that a list of indices is kept in
abbrev pub path_fields : List ℕ → Inside
path_fields xs = record { indices = padded 0 xs; count = length xs }

-- one place at least is used
abbrev pub IsPath : Inside → Type 0
IsPath p = (0 < p.count) × IsPadded 0 p.count p.indices

pub path_fields-take : (p : Inside) → IsPath p → path_fields (take p.count p.indices) ≡ p
path_fields-take p h =
    ap (λ places. let q : Inside = record { indices = places; count = length (take p.count p.indices) } in q) (padded-used 0 p.count p.indices h.1)
    ∙ ap (λ n. let q : Inside = record { indices = p.indices; count = n } in q) (length-used 0 p.count p.indices h.1)
