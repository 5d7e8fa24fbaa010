use Rattle.std.proofs.Common.{◌%◌, sym, ◌∙◌, arith}
use Rattle.hk_links.specs.Chained.{listed}
use Rattle.hk_objects.proofs.Indexing.{none_below, past_end}
use Rattle.hk_objects.proofs.name_index.find_listed.Goals as goal

pub returns-in-None-clause-none : goal.returns-in-None-clause-none
returns-in-None-clause-none c =
    none_below c.args.names.now (listed c.args.chains.now.lists (c.args.name.0 % 65536)) c.args.name c.loop-k._k
    (past_end (listed c.args.chains.now.lists (c.args.name.0 % 65536)) c.loop-k._k (sym c.in-None.is ∙ c.loop-k.invariant.at))
    c.loop-k.invariant.none

pub returns-clause-none : goal.returns-clause-none
returns-clause-none c =
    none_below c.args.names.now (listed c.args.chains.now.lists (c.args.name.0 % 65536)) c.args.name c.loop-k._k
    (omega (arith, c.loop-k.invariant.few))
    c.loop-k.invariant.none
