use Rattle.std.proofs.Common.{◌≡◌, ◌<◌, ◌≤◌, ℕ, Some, ◌%◌, IfSome, length}
use Rattle.std.specs.Prelude.{slice_get}
use Rattle.hk_links.specs.Chained.{listed}
use Rattle.hk_objects.specs.Indexed.{named_at}
use Rattle.hk_objects.proofs.name_index.find_listed.Given as goal

abbrev pub invariant-loop-k : goal.invariant-loop-k
invariant-loop-k l = record {
  at : l.cell ≡ slice_get (listed l.chains.lists (l.name.0 % 65536)) l._k;
  cell : IfSome l.cell (λ c. c < 65536);
  few : length (listed l.chains.lists (l.name.0 % 65536)) ≤ 65536;
  none : (k s : ℕ) → k < l._k → slice_get (listed l.chains.lists (l.name.0 % 65536)) k ≡ Some s → named_at l.names s ≡ Some l.name → ⊥;
}
