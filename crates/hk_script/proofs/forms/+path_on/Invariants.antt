use Rattle.std.proofs.Common.{length}
use Rattle.hk_script.proofs.forms.+path_on.Given as goal

abbrev pub decreases-path_on : goal.decreases-path_on
decreases-path_on l = length l.text.now
