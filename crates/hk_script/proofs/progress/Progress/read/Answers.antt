use Rattle.std.proofs.Common.{map}
use Rattle.hk_text.specs.Views.{seen}
use Rattle.hk_script.specs.Readings.{read_of}
use Rattle.hk_script.proofs.NamesKept.{line_names}
use Rattle.hk_script.proofs.progress.Progress.read.Goals as goal

pub returns-then-self-clause-names : goal.returns-then-self-clause-names
returns-then-self-clause-names c =
    line_names c.line.result c.args.self.now.refused (read_of c.args.self.now.reading) (read_of c.line.new.self) c.args.number (map (seen c.args.source.now) c.args.pieces.now) c.line.ensures
