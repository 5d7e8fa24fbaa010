use Rattle.std.proofs.Common.{sym, ◌∙◌}
use Rattle.hk_audit.proofs.ReadOn.{read_whole}
use Rattle.hk_model.specs.declared.lines.End.TheVariants as end
use Rattle.hk_audit.proofs.reader.Reader.end.Goals as goal

pub returns-then-is_end_line-clause-whole : goal.returns-then-is_end_line-clause-whole
returns-then-is_end_line-clause-whole c = λ bytes w lines r. read_whole bytes w lines end.Done _ (sym c.self.view_is ∙ c.is_end_line.ensures.0 c.if-is_end_line.true) r

pub returns-then-is_end_line-2-clause-whole : goal.returns-then-is_end_line-2-clause-whole
returns-then-is_end_line-2-clause-whole c = λ bytes w lines r. read_whole bytes w lines end.Stuck _ (sym c.self.view_is ∙ c.is_end_line-2.ensures.0 c.if-is_end_line-2.true) r

pub returns-then-is_end_line-3-clause-whole : goal.returns-then-is_end_line-3-clause-whole
returns-then-is_end_line-3-clause-whole c = λ bytes w lines r. read_whole bytes w lines end.Limit _ (sym c.self.view_is ∙ c.is_end_line-3.ensures.0 c.if-is_end_line-3.true) r
