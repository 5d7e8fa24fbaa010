use Rattle.std.proofs.Common.{arith, refl, length}
use Rattle.std.specs.List.{slice_range}
use Rattle.hk_text.specs.Outcomes.{first_line}
use Rattle.hk_text.proofs.PiecesGood.{line_spelled}
use Rattle.hk_text.proofs.Cleans.{read_from, bad_ahead}
use Rattle.hk_text.proofs.Turns.{ahead_read, line_count}
use Rattle.hk_text.proofs.reader.LineReader.read_line.Goals as goal

pub returns-in-Err-clause-refused : goal.returns-in-Err-clause-refused
returns-in-Err-clause-refused c line cause h =
    let old = c.args.self.now in
    bad_ahead old.source.now old.start old.number c.in-Err.error (omega arith) c.in-Err.ensures.value line cause (cc (c.on_line.ensures, h))

pub overflow_add-self : goal.overflow_add-self
overflow_add-self c =
    let old = c.args.self.now in
    let count = line_count old.source.now old.start old.number c.in-Ok.len _ (omega arith) c.in-Ok.ensures.line refl in
    omega (arith, count, c.requires.numbers)

pub returns-clause-ok : goal.returns-clause-ok
returns-clause-ok c =
    let old = c.args.self.now in
    ahead_read old.source.now old.start old.number c.in-Ok.len _ (omega arith) c.in-Ok.ensures.line
    (read_from old.source.now old.start c.in-Ok.len _ (omega arith) c.in-Ok.ensures.line c.in-Ok.ensures.value)

pub returns-clause-spelled : goal.returns-clause-spelled
returns-clause-spelled c =
    let old = c.args.self.now in
    line_spelled (first_line (slice_range old.source.now old.start (length old.source.now))) _ c.in-Ok.ensures.value

pub returns-clause-numbers : goal.returns-clause-numbers
returns-clause-numbers c =
    let old = c.args.self.now in
    let count = line_count old.source.now old.start old.number c.in-Ok.len _ (omega arith) c.in-Ok.ensures.line refl in
    omega (arith, count, c.requires.numbers)
