use Rattle.std.proofs.Common.{arith, sym, ◌∙◌}
use Rattle.hk_audit.specs.Left.{texts}
use Rattle.hk_audit.proofs.RecordEvents.{behind_few}
use Rattle.hk_audit.proofs.record_lines.read_events.Goals as goal

pub overflow_add-number : goal.overflow_add-number
overflow_add-number c =
    let few = behind_few (λ t. t.now) c.next.result c.args.bytes.now (texts c.new-left.result) (texts c.next.new.self) (sym c.is_empty.ensures ∙ c.if-is_empty.false)
    (sym c.is_err.ensures.value ∙ c.if-is_err.false) c.new-left.ensures c.next.ensures.next in
    omega (arith, few, c.requires.few)

pub read_lines-requires : goal.read_lines-requires
read_lines-requires c = record {
  few =
      let few = behind_few (λ t. t.now) c.next.result c.args.bytes.now (texts c.new-left.result) (texts c.next.new.self) (sym c.is_empty.ensures ∙ c.if-is_empty.false)
      (sym c.is_err.ensures.value ∙ c.if-is_err.false) c.new-left.ensures c.next.ensures.next in
      omega (arith, few, c.requires.few);
}
