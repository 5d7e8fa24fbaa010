use Rattle.std.proofs.Common.{sym, ◌∙◌}
use Rattle.hk_audit.proofs.ReadOn.{read_more, text_taken}
use Rattle.hk_audit.proofs.reader.Reader.take.Goals as goal

pub returns-in-Some-clause-reads : goal.returns-in-Some-clause-reads
returns-in-Some-clause-reads c = λ taken bytes w lines r.
    read_more bytes w lines c.args.line.now c.args.self.now c.in-Some.left.now c.requires (sym c.self.view_is ∙ sym c.in-Some.ensures) r

pub returns-in-Some-behind-clause-reads : goal.returns-in-Some-behind-clause-reads
returns-in-Some-behind-clause-reads c = λ taken bytes w lines r.
    let whole = text_taken c.args.line.now _ c.in-Some-behind.left.now _ _ _ c.in-Some-behind.ensures.some c.as_bytes.ensures.value c.in_ok-write_line.ensures c.clear.ensures.bytes in
    read_more bytes w lines c.args.line.now c.args.self.now c.in-Some-behind.left.now c.requires (sym c.self.view_is ∙ whole) r
