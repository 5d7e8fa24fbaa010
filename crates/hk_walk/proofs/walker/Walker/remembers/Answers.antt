use Rattle.std.proofs.Common.{sym, ap, subst, ◌∙◌, is_some}
use Rattle.std.specs.Map.{lookup}
use Rattle.hk_walk.specs.Remembered.{Remembered}
use Rattle.hk_walk.specs.Walks.{trail, Remembers}
use Rattle.hk_walk.specs.contracts.trail.TrailPartialEq.TheImpl.{eq-value}
use Rattle.hk_walk.proofs.Pairs.{remembers-pair, standing}
use Rattle.hk_walk.proofs.walker.Walker.remembers.Goals as goal

pub returns : goal.returns
returns c =
    let key = trail c.args.from c.args.rest.now in
    let pairs = c.self.inside.cache.entries in
    let same = ap (λ k. is_some (lookup ((eq-value).it k) pairs)) c.new.ensures in (
      (λ yes. subst (λ (m : Remembered). Remembers m.pairs c.args.from c.args.rest.now) c.self.view_is (remembers-pair key pairs (sym same ∙ sym c.contains.ensures ∙ yes))),
      (λ there.
          let was = subst (λ (m : Remembered). Remembers m.pairs c.args.from c.args.rest.now) (sym c.self.view_is) there in
          c.contains.ensures ∙ same ∙ standing key pairs was.0 was.1),
    )
