use Rattle.std.proofs.Common.{◌<◌, ◌-◌, length, arith, sym, ◌∙◌, refl}
use Rattle.std.proofs.lemmas.Option.{slice_get_read, slice_get_past}
use Rattle.hk_trace.proofs.ChainLemmas.{traced_line, traced_none, first_lines}
use Rattle.hk_trace.proofs.tracing.trace.Goals as goal

pub trace_line-requires-clause-steps : goal.trace_line-requires-clause-steps
trace_line-requires-clause-steps c = first_lines c.args.world.now c.args.lines.now (c.args.number - 1) c.requires

pub returns-in-Some-clause-traced : goal.returns-in-Some-clause-traced
returns-in-Some-clause-traced c =
    let some : 0 < c.args.number = omega arith in
    let l = c.in-Some.ensures.lookup in
    let e = slice_get_read c.args.lines.now (length c.args.lines.now) (c.args.number - 1) c.in-Some.line.now refl l.3.0 l.1 in
    rw (traced_line c.args.world.now c.args.lines.now c.args.number c.in-Some.line.now some e) c.trace_line.ensures

pub returns-in-None-clause-traced : goal.returns-in-None-clause-traced
returns-in-None-clause-traced c =
    let some : 0 < c.args.number = omega arith in
    let l = c.in-None.ensures.lookup in
    c.new-in-None.ensures.items ∙ sym (traced_none c.args.world.now c.args.lines.now c.args.number some (slice_get_past c.args.lines.now (c.args.number - 1) l.3))
