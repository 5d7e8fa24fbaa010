use Rattle.std.proofs.Common.{◌≡◌, ◌⊎◌, ◌-◌, ◌∷◌, subst, slice_get, take, Some, None}
use Rattle.std.specs.Map.{lookup}
use Rattle.hk_walk.specs.contracts.trail.TrailPartialEq.TheImpl.{eq-value}
use Rattle.hk_walk.specs.Remembered.{Remembered}
use Rattle.hk_walk.specs.Walks.{JoinsAtMost}
use Rattle.hk_walk.proofs.Pairs.{held_in, tried-joins, tried-first, tried-pushes}
use Rattle.hk_walk.proofs.walker.Walker.keep.Goals as goal

pub returns-clause-joins : goal.returns-clause-joins
returns-clause-joins c =
    subst (λ (old : Remembered). JoinsAtMost (c.args.key, c.args.entry.now) old.pairs c.put.new.self.entries) c.self.view_is
    (tried-joins c.self.inside.cache c.args.key c.args.entry.now c.put.new.self c.put.result c.put.ensures.entries c.put.ensures.err)

pub returns-clause-first : goal.returns-clause-first
returns-clause-first c =
    subst (λ (old : Remembered). (slice_get c.put.new.self.entries 0 ≡ Some (c.args.key, c.args.entry.now)) ⊎ (held_in c.put.new.self ≡ old)) c.self.view_is
    (tried-first c.self.inside.cache c.args.key c.args.entry.now c.put.new.self c.put.result c.put.ensures.entries c.put.ensures.err)

pub returns-clause-pushes : goal.returns-clause-pushes
returns-clause-pushes c =
    subst (λ (old : Remembered). lookup ((eq-value).it c.args.key) old.pairs ≡ None → (c.put.new.self.entries ≡ (c.args.key, c.args.entry.now) ∷ take (old.capacity - 1) old.pairs)
    ⊎ (held_in c.put.new.self ≡ old)) c.self.view_is
    (tried-pushes c.self.inside.cache c.args.key c.args.entry.now c.put.new.self c.put.result c.put.ensures.entries c.put.ensures.err)
