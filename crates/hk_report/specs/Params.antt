-- The merged parameters of calls: the capability that each holds, if it holds one. docs/RULES.md, "Changes and their reasons".
use Rattle.std.specs.Prelude.{◌≤◌, List, length, Option}
use Rattle.std.specs.List.{AllByRecursion}
use Rattle.hk_model.specs.declared.entries.Cap.{Cap}

-- each has as many as a call can have
abbrev pub AreFewEach : List (List (Option Cap)) → Type 0
AreFewEach all = AllByRecursion (λ params. length params ≤ 8) all
