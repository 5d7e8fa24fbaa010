-- The process is written twice.
use Rattle.std.proofs.Common.{◌∙◌, ap, sym, List, Option}
use Rattle.hk_model.specs.declared.names.Proc.{Proc}
use Rattle.hk_model.specs.declared.objects.Process.{Process}
use Rattle.hk_model.specs.State.{State, process, put_process}
use Rattle.hk_plain.specs.Changes.{processes_back}
use Rattle.hk_plain.proofs.UndoLemmas.{run_and_current}
use Rattle.hk_plain.proofs.tables.Tables.processes_back.Goals as goal

pub returns-in-Some : goal.returns-in-Some
returns-in-Some c =
    let s : State = c.args.self.now in
    let proc : Proc = c.in-Some.proc in
    c.set_current.ensures ∙ ap (λ (t : State). put_process t proc (record (process t proc) { current = c.in-Some.old.current })) c.run_back.ensures
    ∙ ap (λ (ps : List Process). record s { processes = ps }) (run_and_current s.processes proc.0 c.in-Some.old)
    ∙ ap (λ (p : Option (Proc × Process)). record s { processes = processes_back p s.processes }) (sym c.in-Some.is)
