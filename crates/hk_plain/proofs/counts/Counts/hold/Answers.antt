-- Another number is as before.
use Rattle.std.proofs.Common.{◌-◌, ap, arith}
use Rattle.hk_plain.specs.Counts.{Tally}
use Rattle.hk_plain.proofs.CountLemmas.{held_opening, held_in}
use Rattle.hk_plain.proofs.counts.Counts.hold.Goals as goal

pub returns-then-name-self : goal.returns-then-name-self
returns-then-name-self c = held_opening c.args.self.now c.args.name (omega (arith, c.if-name-self.true, ap (λ (t : Tally). t.first_new.0) c.self.view_is))

pub returns-then-index-lt4294967295 : goal.returns-then-index-lt4294967295
returns-then-index-lt4294967295 c =
    held_in c.self.inside.first_new c.self.inside.numbers.items c.self.inside.lost.items c.self.inside.exact c.args.name (c.args.name.0 - c.self.inside.first_new.0)
    c.index_mut.result.now (omega (arith, c.if-name-self.false)) (omega (arith, c.if-at-len.true, c.len.ensures, c.self.inside.numbers.ok.0)) c.index_mut.ensures.value
    c.args.self.now c.self.view_is
