use Rattle.std.proofs.Common.{◌≡◌, ◌-◌, ◌<◌, ◌≤◌, length, get_or, Option, Some, None, MatchOption, Bor}
use Rattle.std.specs.Prelude.{ℕ}
use Rattle.hk_model.specs.declared.world.Born.{Born}
use Rattle.hk_model.specs.WorldValue.{WorldValue}
use Rattle.hk_model.specs.State.{no_object}
use Rattle.hk_model.specs.Opening.{object_of}
use Rattle.hk_bound.specs.Columns.{opening_object}
use Rattle.hk_bound.proofs.OpeningObjects.{kernel_object, born_there, born_gone}
use Rattle.hk_bound.proofs.opening.born.Goals as goal

pub returns-then-name-lt-KERNEL_TYPES : goal.returns-then-name-lt-KERNEL_TYPES
returns-then-name-lt-KERNEL_TYPES c = kernel_object c.args.world.now c.args.name c.if-name-lt-KERNEL_TYPES.true

pub returns-else-name-lt-KERNEL_TYPES : goal.returns-else-name-lt-KERNEL_TYPES
returns-else-name-lt-KERNEL_TYPES c =
    let l = c.get.ensures.lookup in
    let o = c.objects.ensures.value in
    by c.args.world.now c.args.name c.if-name-lt-KERNEL_TYPES.false c.get.result (rw o at l.3)
  where
    by : (w : WorldValue) (n : ℕ) → 7 ≤ n → (r : Option (Bor Born))
        → MatchOption r (length w.objects ≤ n - 7) (λ x. (n - 7 < length w.objects) × ((d : Born) → x.now ≡ get_or w.objects (n - 7) d))
        → MatchOption r (opening_object w n ≡ no_object) (λ b. opening_object w n ≡ object_of b.now.kind)
    by w n h None b = born_gone w n h b
    by w n h (Some x) b = born_there w n x.now h b.0 (b.1 x.now)
