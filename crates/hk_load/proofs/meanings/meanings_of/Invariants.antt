use Rattle.std.proofs.Common.{◌≡◌, ◌+◌, ◌≤◌, ◌++◌, map, drop}
use Rattle.hk_format.specs.declared.syntax.Item.{Item}
use Rattle.hk_load.specs.Meanings.{meanings_from}
use Rattle.hk_load.proofs.meanings.meanings_of.Given as goal

abbrev pub invariant-loop-item : goal.invariant-loop-item
invariant-loop-item l = record {
  all :
      l.meanings.items ++ meanings_from l.next.object l.next.code (map (λ (i : Item). i.head) (drop l.item-index l.items))
      ≡ meanings_from 7 0 (map (λ (i : Item). i.head) l.items);
  object : l.next.object ≤ l.item-index + 7;
  code : l.next.code ≤ l.item-index;
}
