-- That each process which waits at no opening object is counted where it waits. docs/RULES.md, "Objects that vanish".
use Rattle.std.specs.Prelude.{◌≡◌, ℕ, ◌≤◌, List, Option, Some, slice_index}
use Rattle.hk_model.specs.declared.names.Name.{Name}
use Rattle.hk_model.specs.declared.objects.Process.{Process}
use Rattle.hk_objects.specs.declared.body.Body.{Body}
use Rattle.hk_objects.specs.Slots.{name_at}
use Rattle.hk_reclaim.specs.Tally.{Tally}
use Rattle.hk_table.specs.Settled.{wait_namings}

abbrev pub AreWaitsCounted : List (Option (Name × Body)) → List Process → Tally → Type 0
AreWaitsCounted slots ps t = (k : ℕ) (n : Name) → name_at slots k ≡ Some n → t.first_new.0 ≤ n.0 → wait_namings n ps ≤ slice_index t.outside k
