use Rattle.std.proofs.Common.{List, sym, ap, ◌∙◌}
use Rattle.std.specs.List.{find}
use Rattle.hk_format.specs.declared.syntax.Verb.{Verb}
use Rattle.hk_model.specs.Labels.{same_text}
use Rattle.hk_format.specs.Verbs.{verb_word}
use Rattle.hk_script.proofs.VerbLetters.{of_letter, of_nothing}
use Rattle.hk_script.proofs.verbs.verb_of.Goals as goal

pub returns-then-is_empty : goal.returns-then-is_empty
returns-then-is_empty c = of_nothing c.args.word.now (sym c.is_empty.ensures ∙ c.if-is_empty.true)

pub returns : goal.returns
returns c =
    c.verb_in.ensures ∙ ap (λ (vs : List Verb). find (λ v. same_text c.args.word.now (verb_word v)) vs) c.verbs_with.ensures
    ∙ sym (of_letter c.args.word.now)
