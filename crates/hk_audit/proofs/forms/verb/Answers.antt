use Rattle.std.proofs.Common.{ap, ◌∙◌}
use Rattle.hk_format.specs.Forms.{verb_found}
use Rattle.hk_audit.proofs.SeenForms.{verb_by_word}
use Rattle.hk_audit.proofs.forms.verb.Goals as goal

pub returns-in-Some : goal.returns-in-Some
returns-in-Some c = verb_by_word _ c.in_ok-word.field-0.now _ c.in_ok-word.ensures.ok c.verb_of.ensures ∙ ap verb_found c.in-Some.is

pub returns-in-None : goal.returns-in-None
returns-in-None c = verb_by_word _ c.in_ok-word.field-0.now _ c.in_ok-word.ensures.ok c.verb_of.ensures ∙ ap verb_found c.in-None.is
