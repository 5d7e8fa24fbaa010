-- What each line did that the changes under confined calls are told by. docs/RULES.md, "Under a call".
use Rattle.std.specs.Prelude.{true, false, List, [], ◌∷◌, ◌++◌, map, take, Option, Some, None, is_some, option_map, slice_index_or}
use Rattle.std.specs.Option.{unwrap_or}
use Rattle.hk_model.specs.declared.calls.Call.{Call}
use Rattle.hk_model.specs.declared.entries.Cap.{Cap}
use Rattle.hk_model.specs.declared.entries.Entry.{Entry}
use Rattle.hk_model.specs.declared.lines.Line.{Line}
use Rattle.hk_model.specs.declared.names.Name.{Name}
use Rattle.hk_model.specs.declared.names.Inc.{Inc}
use Rattle.hk_model.specs.WorldValue.{WorldValue}
use Rattle.hk_model.specs.State.{State, incarnation}
use Rattle.hk_model.specs.Places.{cap_of}
use Rattle.hk_model.specs.Running.{Machine, moved}
use Rattle.hk_model.specs.Lines.{done_call, makes_object, enters_call, param_count}
use Rattle.hk_report.specs.declared.doings.Before.{Before}
use Rattle.hk_report.specs.declared.doings.Doing.{Doing}
use Rattle.hk_report.specs.declared.doings.Entered.{Entered}
use Rattle.hk_report.specs.declared.doings.Known.{Known}
use Rattle.hk_report.specs.declared.families.Begun.{Begun}
use Rattle.hk_report.specs.Named.{named_change, named_list}

-- what is known of a call, or of none, before it is done: what it makes takes the next name, or the next number
abbrev pub before_call : State → Inc → Option Call → Before
before_call s inc c = record {
  inc = inc;
  changed = named_change s inc c;
  listed = named_list s inc c;
  made = elim (makes_object c) [ true ↦ Some s.next_name | false ↦ None ];
  enters = elim (enters_call c) [ true ↦ Some s.next_inc | false ↦ None ];
}

-- what is known of a line before it
abbrev pub before_line : State → Line → Before
before_line s line = before_call s line.inc (done_call line)

-- the same before a line that does no call
abbrev pub before_none : Inc → Before
before_none inc = record { inc = inc; changed = None; listed = None; made = None; enters = None }

-- the object that is asked for which a call changes of an incarnation under these calls: where it is under none, only one whose list it changes
abbrev pub asked_change : List Begun → State → Inc → Call → Option Name
asked_change [] s inc c = named_list s inc (Some c)
asked_change (call ∷ calls) s inc c = named_change s inc (Some c)

-- what is known once a call is shown that an incarnation makes in this state
abbrev pub known_of : Known → State → Inc → Call → Known
known_of known s inc c =
    record known { before = Some (record (before_call s inc (Some c)) { changed = asked_change (slice_index_or known.calls.now inc.0 []) s inc c }) }

-- what is known of a line, where this was known of its processor's next call before it
abbrev pub before_by : Option Before → Line → Before
before_by next line = elim (is_some (done_call line)) [ true ↦ unwrap_or next (before_none line.inc) | false ↦ before_none line.inc ]

-- what a line did of which this was known, from the state behind it
abbrev pub doing_behind : Before → State → Doing
doing_behind before t = record {
  inc = before.inc;
  changed = before.changed;
  listed = before.listed;
  made = before.made;
  entered = option_map (λ (inc : Inc). record { inc = inc; confined = (incarnation t inc).confined }) before.enters;
}

-- what a line did, from the states before and behind it
abbrev pub doing : State → Line → State → Doing
doing s line t = doing_behind (before_line s line) t

-- what the lines of a history did, from a machine on
abbrev pub doings : WorldValue → Machine → List Line → List Doing
doings w m [] = []
doings w m (line ∷ lines) = doing m.state line (moved w m line.cpu).state ∷ doings w (moved w m line.cpu) lines

-- the slots that the merged parameters of the call are in that a line has begun, from the state behind it
abbrev pub given_slots : Line → Before → State → List Entry
given_slots line before t = elim before.enters [ None ↦ [] | Some inc ↦ take (param_count (done_call line)) (incarnation t inc).slots ]

-- of each parameter the capability, if it holds one
abbrev pub given_params : Line → Before → State → List (Option Cap)
given_params line before t = map cap_of (given_slots line before t)

-- they are kept where the line has begun a call
abbrev pub kept_params : Option Entered → List (Option Cap) → List (List (Option Cap))
kept_params None params = []
kept_params (Some entered) params = params ∷ []

-- those of the calls that lines have begun, in the order of their incarnations
abbrev pub params_given : WorldValue → Machine → List Line → List (List (Option Cap))
params_given w m [] = []
params_given w m (line ∷ lines) =
    kept_params (doing m.state line (moved w m line.cpu).state).entered (given_params line (before_line m.state line) (moved w m line.cpu).state)
    ++ params_given w (moved w m line.cpu) lines
