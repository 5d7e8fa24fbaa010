-- The lists of what went, as contracts see them. docs/RULES.md, "Lines taken back".
use Rattle.std.specs.Prelude.{◌-◌, true, false, [], Option, Some, None, vec_len, vec_capacity}
use Rattle.hk_plain.specs.declared.removed.Kept.{Kept}
use Rattle.hk_plain.specs.Removing.{Removal}

-- nothing is kept, or what these lists have, with room in them for more
abbrev pub removal : Option Kept → Removal
removal None = record { keeps = false; gone = []; left = []; objects_room = 0; incarnations_room = 0 }
removal (Some kept) = record {
  keeps = true;
  gone = kept.gone.items;
  left = kept.left.items;
  objects_room = vec_capacity kept.gone - vec_len kept.gone;
  incarnations_room = vec_capacity kept.left - vec_len kept.left;
}
