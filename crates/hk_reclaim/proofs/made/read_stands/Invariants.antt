use Rattle.std.proofs.Common.{◌≡◌, ℕ, ◌<◌, false, length, get_or}
use Rattle.hk_objects.specs.Slots.{name_at}
use Rattle.hk_reclaim.specs.Made.{is_made}
use Rattle.hk_reclaim.proofs.made.read_stands.Given as goal

abbrev pub invariant-loop-i : goal.invariant-loop-i
invariant-loop-i l = record {
  size : length l.stands ≡ l.size;
  read : (k : ℕ) → k < l.i → get_or l.stands k false ≡ is_made l.first_new (name_at l.objects.slots k);
}
