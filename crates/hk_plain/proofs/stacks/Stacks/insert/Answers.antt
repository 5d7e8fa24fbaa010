-- The stack that is there has one more number.
use Rattle.std.proofs.Common.{◌∙◌, ap, refl, List, cond, ◌==◌}
use Rattle.std.specs.Map.{lookup}
use Rattle.hk_model.specs.declared.names.Inc.{Inc}
use Rattle.hk_model.specs.declared.names.Proc.{Proc}
use Rattle.hk_plain.specs.Stacks.{stack, same_proc, placed}
use Rattle.hk_plain.proofs.StackLemmas.{stack_written, present}
use Rattle.hk_plain.proofs.stacks.Stacks.insert.Goals as goal

pub returns-clause-ok : goal.returns-clause-ok
returns-clause-ok c = λ q.
    ap (λ (stacks : List (Proc × List Inc)). stack stacks q) c.in_ok-insert_on.ensures.ok
    ∙ stack_written c.open.new.self c.args.proc (placed c.args.inc (stack c.open.new.self c.args.proc)) (λ (xs : List Inc). placed c.args.inc xs)
    (λ missing. absurd (present (lookup (same_proc c.args.proc) c.open.new.self) c.in_ok-open.ensures.there missing)) refl q
    ∙ ap (λ (xs : List Inc). cond (c.args.proc.0 == q.0) (placed c.args.inc xs) xs) (c.in_ok-open.ensures.same q)
