-- The fields of a list of arguments can be told from its slots.
use Rattle.std.specs.Prelude.{◌≡◌, length, take, List, ℕ}
use Rattle.std.proofs.Common.{ap, ◌∙◌}
use Rattle.hk_model.specs.Padded.{IsPadded, padded}
use Rattle.hk_model.specs.PaddedLemmas.{length-used, padded-used}
use Rattle.hk_model.specs.declared.paths.Args.TheInside.{Inside}

-- the fields that a list of slots is kept in
abbrev pub args_fields : List ℕ → Inside
args_fields xs = record { slots = padded 0 xs; count = length xs }

-- the places that are used stand first
abbrev pub IsArgs : Inside → Type 0
IsArgs p = IsPadded 0 p.count p.slots

pub args_fields-take : (p : Inside) → IsArgs p → args_fields (take p.count p.slots) ≡ p
args_fields-take p h =
    ap (λ places. let q : Inside = record { slots = places; count = length (take p.count p.slots) } in q) (padded-used 0 p.count p.slots h)
    ∙ ap (λ n. let q : Inside = record { slots = p.slots; count = n } in q) (length-used 0 p.count p.slots h)
