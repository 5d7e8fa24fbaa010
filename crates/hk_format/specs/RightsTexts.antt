-- How a set of rights is spelled, and what a spelling means. docs/FORMATS.md, "Rights".
use Rattle.std.specs.Prelude.{ℕ, ◌^◌, ◌==◌, List, [], ◌∷◌, Option, Some, None, if◌then◌else◌, map, option_map, codes, bit_or}
use Rattle.std.specs.List.{filter, join_with_byte, slice_split}
use Rattle.hk_rights.specs.Rights.{has, all_rights, right_numbers, name_of, number_named}
use Rattle.hk_model.specs.Labels.{same_text}

-- `-` for no right, `ALL` for all, and else the names in rising order of their numbers, joined by `+`
unfoldable pub rights_text : ℕ → List ℕ
rights_text rights =
    if rights == 0 then codes "-"
    else if rights == all_rights then codes "ALL"
    else join_with_byte 43 (map name_of (filter (has rights) right_numbers))

-- the set of the one right of this name
abbrev pub right_of : List ℕ → Option ℕ
right_of t = option_map (λ number. 2 ^ number) (number_named t)

-- the union of two sets, if both names are names of rights
abbrev pub both : Option ℕ → Option ℕ → Option ℕ
both (Some x) (Some y) = Some (bit_or x y)
both (Some x) None = None
both None y = None

-- the set of the rights of these names
abbrev pub union_of : List (List ℕ) → Option ℕ
union_of [] = Some 0
union_of (t ∷ ts) = both (right_of t) (union_of ts)

-- the set that a text means: its names may stand in any order and repeat, and `ALL` stands alone; None where some name is no right's
unfoldable pub rights_spelled : List ℕ → Option ℕ
rights_spelled t =
    if same_text t (codes "-") then Some 0
    else if same_text t (codes "ALL") then Some all_rights
    else union_of (slice_split (λ b. b == 43) t)
