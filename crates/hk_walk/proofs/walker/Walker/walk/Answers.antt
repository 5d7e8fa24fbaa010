use Rattle.std.proofs.Common.{sym, inl}
use Rattle.hk_walk.specs.Walks.{seen, trail}
use Rattle.hk_walk.proofs.Pairs.{hit-value, hit-right, hit-first, hit-joins, hit-stays, hit-remembered, miss-hit, miss-same, miss-right, miss-joins, miss-first, miss-pushes}
use Rattle.hk_walk.proofs.Pairs.{joined-right, on_err}
use Rattle.hk_walk.proofs.walker.Walker.walk.Goals as goal

pub returns-in-Some-clause-value : goal.returns-in-Some-clause-value
returns-in-Some-clause-value g c =
    hit-value c.new-key.result c.args.from c.args.rest.now c.new-key.ensures (seen c.args.objects.now.slots) c.args.self.now.pairs c.in-Some.entry
    c.in-Some.ensures.value c.requires.right

pub returns-in-Some-clause-right : goal.returns-in-Some-clause-right
returns-in-Some-clause-right g c =
    hit-right c.new-key.result c.args.from c.args.rest.now c.new-key.ensures c.args.self.now c.recall.new.self c.recall.ensures.pairs
    (seen c.args.objects.now.slots) c.requires.right

pub returns-in-Some-clause-first : goal.returns-in-Some-clause-first
returns-in-Some-clause-first g c =
    λ some. inl (hit-first c.new-key.result c.args.from c.args.rest.now c.new-key.ensures c.args.self.now c.recall.new.self c.recall.ensures.pairs
    c.in-Some.entry c.in-Some.ensures.value)

pub returns-in-Some-clause-joins : goal.returns-in-Some-clause-joins
returns-in-Some-clause-joins g c =
    hit-joins c.new-key.result c.args.from c.args.rest.now c.new-key.ensures c.args.self.now c.recall.new.self c.recall.ensures.pairs
    (trail c.args.from c.args.rest.now, c.in-Some.entry)

pub returns-in_err-entry-in-None-clause-right : goal.returns-in_err-entry-in-None-clause-right
returns-in_err-entry-in-None-clause-right g c =
    miss-right c.new-key.result c.args.from c.args.rest.now c.new-key.ensures c.args.self.now c.recall.new.self c.recall.ensures.pairs c.in-None.ensures.value
    (seen c.args.objects.now.slots) c.requires.right

pub returns-in_err-entry-in-None-clause-hit : goal.returns-in_err-entry-in-None-clause-hit
returns-in_err-entry-in-None-clause-hit g c = λ there. miss-hit c.new-key.result c.args.from c.args.rest.now c.new-key.ensures c.args.self.now.pairs c.in-None.ensures.value there

pub returns-in_err-entry-in-None-clause-refused : goal.returns-in_err-entry-in-None-clause-refused
returns-in_err-entry-in-None-clause-refused g c =
    on_err c.from_residual.result (miss-same c.new-key.result c.args.from c.args.rest.now c.new-key.ensures c.args.self.now c.recall.new.self
    c.recall.ensures.pairs c.in-None.ensures.value)

pub returns-in_ok-entry-in-None-clause-right : goal.returns-in_ok-entry-in-None-clause-right
returns-in_ok-entry-in-None-clause-right g c =
    joined-right (seen c.args.objects.now.slots) c.args.from c.args.rest.now c.in_ok-entry-in-None.entry c.args.self.now.pairs c.keep.new.self.pairs
    (miss-joins c.new-key.result c.args.from c.args.rest.now c.new-key.ensures c.args.self.now c.recall.new.self c.recall.ensures.pairs c.in-None.ensures.value c.keep.new.self
    c.in_ok-entry-in-None.entry c.keep.ensures.joins) (sym c.in_ok-entry-in-None.ensures.value) c.requires.right

pub returns-in_ok-entry-in-None-clause-hit : goal.returns-in_ok-entry-in-None-clause-hit
returns-in_ok-entry-in-None-clause-hit g c = λ there. miss-hit c.new-key.result c.args.from c.args.rest.now c.new-key.ensures c.args.self.now.pairs c.in-None.ensures.value there

pub returns-in_ok-entry-in-None-clause-first : goal.returns-in_ok-entry-in-None-clause-first
returns-in_ok-entry-in-None-clause-first g c =
    λ some. miss-first c.new-key.result c.args.from c.args.rest.now c.new-key.ensures c.args.self.now c.recall.new.self c.recall.ensures.pairs c.in-None.ensures.value
    c.keep.new.self c.in_ok-entry-in-None.entry c.keep.ensures.first

pub returns-in_ok-entry-in-None-clause-joins : goal.returns-in_ok-entry-in-None-clause-joins
returns-in_ok-entry-in-None-clause-joins g c =
    miss-joins c.new-key.result c.args.from c.args.rest.now c.new-key.ensures c.args.self.now c.recall.new.self c.recall.ensures.pairs c.in-None.ensures.value c.keep.new.self
    c.in_ok-entry-in-None.entry c.keep.ensures.joins

pub returns-in-Some-clause-first_again : goal.returns-in-Some-clause-first_again
returns-in-Some-clause-first_again g c =
    λ there some. hit-first c.new-key.result c.args.from c.args.rest.now c.new-key.ensures c.args.self.now c.recall.new.self c.recall.ensures.pairs
    c.in-Some.entry c.in-Some.ensures.value

pub returns-in_ok-entry-in-None-clause-first_again : goal.returns-in_ok-entry-in-None-clause-first_again
returns-in_ok-entry-in-None-clause-first_again g c =
    λ there. miss-hit c.new-key.result c.args.from c.args.rest.now c.new-key.ensures c.args.self.now.pairs c.in-None.ensures.value there

pub returns-in-Some-clause-stays : goal.returns-in-Some-clause-stays
returns-in-Some-clause-stays g c = λ there. hit-stays c.new-key.result c.args.from c.args.rest.now c.new-key.ensures c.args.self.now c.recall.new.self c.recall.ensures.pairs

pub returns-in-Some-clause-pushes : goal.returns-in-Some-clause-pushes
returns-in-Some-clause-pushes g c =
    λ fresh some. absurd (fresh (hit-remembered c.new-key.result c.args.from c.args.rest.now c.new-key.ensures c.args.self.now.pairs c.in-Some.entry c.in-Some.ensures.value))

pub returns-in_err-entry-in-None-clause-stays : goal.returns-in_err-entry-in-None-clause-stays
returns-in_err-entry-in-None-clause-stays g c = λ there. miss-hit c.new-key.result c.args.from c.args.rest.now c.new-key.ensures c.args.self.now.pairs c.in-None.ensures.value there

pub returns-in_ok-entry-in-None-clause-stays : goal.returns-in_ok-entry-in-None-clause-stays
returns-in_ok-entry-in-None-clause-stays g c = λ there. miss-hit c.new-key.result c.args.from c.args.rest.now c.new-key.ensures c.args.self.now.pairs c.in-None.ensures.value there

pub returns-in_ok-entry-in-None-clause-pushes : goal.returns-in_ok-entry-in-None-clause-pushes
returns-in_ok-entry-in-None-clause-pushes g c =
    λ fresh some. miss-pushes c.new-key.result c.args.from c.args.rest.now c.new-key.ensures c.args.self.now c.recall.new.self c.recall.ensures.pairs c.in-None.ensures.value
    c.keep.new.self c.in_ok-entry-in-None.entry c.keep.ensures.pushes
