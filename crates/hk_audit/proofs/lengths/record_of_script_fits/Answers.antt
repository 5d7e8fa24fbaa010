use Rattle.hk_audit.proofs.RecordLengths.{record_fits}
use Rattle.hk_audit.proofs.lengths.record_of_script_fits.Goals as goal

pub returns : goal.returns
returns c =
    record_fits c.args.source.now c.args.loaded.now c.args.lines.now c.args.end c.limit-limit.ensures.valid c.requires.script c.requires.short c.requires.steps
