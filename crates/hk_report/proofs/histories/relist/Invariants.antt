-- The indices to come give what is left.
use Rattle.std.proofs.Common.{◌≡◌, ◌++◌, length}
use Rattle.std.specs.Prelude.{drop, take}
use Rattle.hk_report.specs.Histories.{sinces, ended}
use Rattle.hk_report.proofs.HistoryLemmas.{Relisting}
use Rattle.hk_report.proofs.histories.relist.Given as goal

abbrev pub invariant-loop-index : goal.invariant-loop-index
invariant-loop-index l = Relisting (l.history.maker ≡ l.initial.history.maker) (length l.now.items ≡ length l.initial.now.items)
    (take l.index l.now.items ++ sinces l.moment l.entries l.index (drop l.index l.now.items) ≡ sinces l.moment l.entries 0 l.initial.now.items)
    (l.history.spans ++ ended l.moment l.entries l.index (drop l.index l.now.items) ≡ l.initial.history.spans ++ ended l.moment l.entries 0 l.initial.now.items)
