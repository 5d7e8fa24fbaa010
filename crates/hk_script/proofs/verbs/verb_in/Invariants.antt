use Rattle.std.proofs.Common.{◌≡◌, drop}
use Rattle.std.specs.List.{find}
use Rattle.hk_model.specs.Labels.{same_text}
use Rattle.hk_format.specs.Verbs.{verb_word}
use Rattle.hk_script.proofs.verbs.verb_in.Given as goal

abbrev pub invariant-loop-verb : goal.invariant-loop-verb
invariant-loop-verb l = find (λ v. same_text l.word (verb_word v)) (drop l.verb-index l.verbs) ≡ find (λ v. same_text l.word (verb_word v)) l.verbs
