-- Under which confined calls each incarnation is, by number, and what is changed under them. docs/RULES.md, "Changes and
-- their reasons".
use Rattle.std.specs.Prelude.{ℕ, ◌+◌, true, false, List, [], ◌∷◌, ◌++◌, map, slice_index_or, Option, Some, None}
use Rattle.hk_model.specs.declared.names.Name.{Name}
use Rattle.hk_model.specs.Changes as changes
use Rattle.hk_report.specs.declared.doings.Entered.{Entered}
use Rattle.hk_report.specs.declared.doings.Doing.{Doing}
use Rattle.hk_report.specs.declared.families.Begun.{Begun}
use Rattle.hk_report.specs.declared.families.BareChange.{BareChange}

-- a beginning and a change of the definitions, as they are told
abbrev pub told_call : changes.Beginning → Begun
told_call b = record { call = b.call; moment = b.moment }

abbrev pub told_change : changes.BareChange → BareChange
told_change c = record { moment = c.moment; under = told_call c.under; object = c.object }

-- the confined calls that an incarnation is under which is entered by one that is under these: the same ones, and itself
-- where it is confined
abbrev pub calls_entered : ℕ → Entered → List Begun → List Begun
calls_entered moment new above = elim new.confined [ true ↦ above ++ record { call = new.inc; moment = moment + 1 } ∷ [] | false ↦ above ]

-- the confined calls that each incarnation is under, by number, after one line more
abbrev pub families_by : ℕ → Doing → List (List Begun) → List (List Begun)
families_by moment doing families = elim doing.entered [
  | None ↦ families
  | Some new ↦ families ++ calls_entered moment new (slice_index_or families doing.inc.0 []) ∷ []
]

-- the change of an object by the line at a moment, under a call
abbrev pub change_under : ℕ → Name → Begun → BareChange
change_under moment name call = record { moment = moment; under = call; object = name }

-- what a line changes under each of the calls that it is under
abbrev pub changes_by : ℕ → Option Name → List Begun → List BareChange
changes_by moment changed calls = elim changed [ None ↦ [] | Some name ↦ map (change_under moment name) calls ]

-- the changes by the lines from a moment on
abbrev pub changes_from : ℕ → List (List Begun) → List Doing → List BareChange
changes_from moment families [] = []
changes_from moment families (doing ∷ doings) =
    changes_by moment doing.changed (slice_index_or families doing.inc.0 []) ++ changes_from (moment + 1) (families_by moment doing families) doings

-- the confined calls that each incarnation is under, by number, after the lines from a moment on
abbrev pub families_after : ℕ → List Doing → List (List Begun) → List (List Begun)
families_after moment [] families = families
families_after moment (doing ∷ doings) families = families_after (moment + 1) doings (families_by moment doing families)
