use Rattle.hk_top.proofs.ServedLemmas.{serves_speaks, taken_words_due, untaken_due, untaken_failed}
use Rattle.hk_top.proofs.commands.due_alone.Goals as goal

pub returns-in_ok-serve_alone-in-Ok-clause-due : goal.returns-in_ok-serve_alone-in-Ok-clause-due
returns-in_ok-serve_alone-in-Ok-clause-due g c =
    taken_words_due g.M.Made.Kernel.state c.args.command c.in_ok-serve_alone-in-Ok.field-0 c.requires.words c.requires.range c.in-Ok.ensures.bytes c.deref.ensures.value
    c.in_ok-serve_alone-in-Ok.ensures

pub returns-in_ok-serve_alone-in-Ok-clause-status : goal.returns-in_ok-serve_alone-in-Ok-clause-status
returns-in_ok-serve_alone-in-Ok-clause-status g c = serves_speaks c.in_ok-serve_alone-in-Ok.ensures

pub returns-in-Err-clause-due : goal.returns-in-Err-clause-due
returns-in-Err-clause-due g c =
    untaken_due g.M.Made.Kernel.state c.args.command _ c.in-Err.error c.unread.result c.requires.range c.in-Err.ensures.error c.unread.ensures.long

pub returns-in-Err-clause-fault : goal.returns-in-Err-clause-fault
returns-in-Err-clause-fault g c = untaken_failed c.args.command _ c.in-Err.error c.unread.result c.requires.range c.in-Err.ensures.error c.unread.ensures.fault
