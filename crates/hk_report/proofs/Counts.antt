-- What is counted as lines come is how many changes there are.
use Rattle.std.proofs.Common.{◌≡◌, ℕ, zero, suc, ◌+◌, List, [], ◌∷◌, ◌++◌, length, map, Bool, true, false, Option, Some, None, Ok, Err, refl, sym, ◌∙◌, ap, arith, cond}
use Rattle.std.specs.Prelude.{IfOk, is_some, option_map, replicate, slice_get, slice_set, slice_index_or}
use Rattle.std.specs.Option.{unwrap_or}
use Rattle.std.proofs.Math.ListN.{get_or-map}
use Rattle.std.proofs.lemmas.Bool.{true≢false}
use Rattle.std.proofs.lemmas.List.{length-append, length-map, map-append}
use Rattle.hk_model.specs.declared.names.Inc.{Inc}
use Rattle.hk_model.specs.declared.names.Proc.{Proc}
use Rattle.hk_model.specs.declared.names.Cpu.{Cpu}
use Rattle.hk_model.specs.declared.calls.Call.{Call}
use Rattle.hk_model.specs.declared.calls.Call.TheVariants as call
use Rattle.hk_model.specs.declared.calls.Reply.{Reply}
use Rattle.hk_model.specs.declared.calls.Reply.TheVariants as reply
use Rattle.hk_model.specs.declared.lines.What.TheVariants as what
use Rattle.hk_model.specs.declared.lines.Line.{Line}
use Rattle.hk_model.specs.declared.objects.Incarnation.{Incarnation}
use Rattle.hk_model.specs.declared.objects.Process.{Process}
use Rattle.hk_model.specs.declared.objects.ProcessState.{ProcessState}
use Rattle.hk_model.specs.declared.objects.ProcessState.TheVariants.{Ended}
use Rattle.hk_model.specs.WorldValue.{WorldValue}
use Rattle.hk_model.specs.Opening.{opening}
use Rattle.hk_model.specs.Places.{named_by}
use Rattle.hk_model.specs.State.{State, incarnation, process}
use Rattle.hk_model.specs.Rule.{Outcome, rule, settled, enter, enter_procedure}
use Rattle.hk_model.specs.Processors.{is_on, runner, runner_from, running_on}
use Rattle.hk_model.specs.Running.{Machine, AreSteps, AreStepsOf, after_lines, line_of, moved, opened, state_after}
use Rattle.hk_model.specs.Lines.{done_by, done_call, enters_call, changes_path, told}
use Rattle.hk_model.specs.Changes.{bare_changes}
use Rattle.hk_model.proofs.Steps.{EachStep, moved_holds, proc_line}
use Rattle.hk_model.proofs.Activations.{Activation, currents_in}
use Rattle.hk_model.proofs.Turns.{EntersBy, enters_by, runs_current}
use Rattle.hk_report.specs.declared.doings.Entered.{Entered}
use Rattle.hk_report.specs.declared.families.Begun.{Begun}
use Rattle.hk_report.specs.declared.families.BareChange.{BareChange}
use Rattle.hk_report.specs.Named.{named_change}
use Rattle.hk_report.specs.Doings.{doing, doings}
use Rattle.hk_report.specs.Families.{told_change, calls_entered, families_by, change_under, changes_by, changes_from}
use Rattle.hk_report.specs.Counts.{Counted, confined_on, counted, counted_by, counted_none, depth_entered, changes_more}
use Rattle.hk_report.proofs.Listed.{changes_found}

-- ---- what a processor runs behind an Enter

-- a process that goes on where it ran is run by the same processor
runner_stays : (ps : List Process) (j : ℕ) (new d : Process) (cpu : Cpu) (n : ℕ) → new.run ≡ (unwrap_or (slice_get ps j) d).run
    → runner_from (slice_set ps j new) cpu n ≡ runner_from ps cpu n
runner_stays [] j new d cpu n h = refl
runner_stays (p ∷ ps) zero new d cpu n h =
    ap (λ (r : ProcessState). cond (is_on cpu r) (let first : Option Proc = Some (record { 0 = n }) in first) (runner_from ps cpu (n + 1))) h
runner_stays (p ∷ ps) (suc j) new d cpu n h =
    ap (λ (o : Option Proc). cond (is_on cpu p.run) (let first : Option Proc = Some (record { 0 = n }) in first) o) (runner_stays ps j new d cpu (n + 1) h)

-- and is in the incarnation that was written
current_written : (ps : List Process) (j : ℕ) (new d : Process) (old : Inc) → slice_get (currents_in ps) j ≡ Some old
    → (unwrap_or (slice_get (slice_set ps j new) j) d).current ≡ new.current
current_written [] j new d old h = absurd (cc)
current_written (p ∷ ps) zero new d old h = refl
current_written (p ∷ ps) (suc j) new d old h = current_written ps j new d old h

-- the processor runs the incarnation that a line has made
abbrev pub RunsNew : State → Line → State → Type 0
RunsNew s line t = enters_call (done_call line) ≡ true → running_on t line.cpu ≡ Some (line.proc, s.next_inc)

module _ (s : State) (cpu : Cpu) (proc : Proc) (runs : runner s cpu ≡ Some proc) where
  -- what the processor runs, by the processes
  abbrev run_among : List Process → Option (Proc × Inc)
  run_among ps = option_map (λ (p : Proc). (p, (unwrap_or (slice_get ps p.0) (record { run = Ended; current = record { 0 = 0 } })).current)) (runner_from ps cpu 0)

  entered_among : run_among (slice_set s.processes proc.0 (record (process s proc) { current = s.next_inc })) ≡ Some (proc, s.next_inc)
  entered_among =
      ap (option_map (λ (p : Proc). (
        p,
        (unwrap_or (slice_get (slice_set s.processes proc.0 (record (process s proc) { current = s.next_inc })) p.0)
            (record { run = Ended; current = record { 0 = 0 } })).current,
      )))
      (runner_stays s.processes proc.0 (record (process s proc) { current = s.next_inc }) (record { run = Ended; current = record { 0 = 0 } }) cpu 0 refl ∙ runs)
      ∙ ap (λ (i : Inc). let o : Option (Proc × Inc) = Some (proc, i) in o)
      (current_written s.processes proc.0 (record (process s proc) { current = s.next_inc }) (record { run = Ended; current = record { 0 = 0 } }) (process s proc).current
      (runs_current s cpu proc runs))

  entered_runs : (new : Incarnation) → new.proc ≡ proc → running_on (enter s new) cpu ≡ Some (proc, s.next_inc)
  entered_runs new same =
      ap (λ (q : Proc). run_among (slice_set s.processes q.0 (record (process s q) { current = s.next_inc }))) same ∙ entered_among

-- a call that is no Enter enters nothing, whatever its reply
enters_not : (c : Call) (r : Reply) → enters_call (Some c) ≡ false → enters_call (done_by (what.Call c) r) ≡ false
enters_not c reply.Done h = h
enters_not c (reply.Word n) h = h
enters_not c reply.Waits h = h
enters_not c (reply.No refusal) h = refl

call_runs : (s : State) (cpu : Cpu) (proc : Proc) (c : Call) → runner s cpu ≡ Some proc
    → RunsNew s (proc_line s cpu proc (what.Call c) (rule s proc c).0) (rule s proc c).1
call_runs s cpu proc (call.Enter path args into) r =
    by (enter_procedure s proc (process s proc).current path args into) (enters_by s proc (process s proc).current path args into)
  where
    by : (o : Outcome) → IfOk o (EntersBy s proc (process s proc).current)
        → RunsNew s (proc_line s cpu proc (what.Call (call.Enter path args into)) (settled s o).0) (settled s o).1
    by (Ok f) h e = ap (λ (u : State). running_on u cpu) h.after ∙ entered_runs s cpu proc r h.new (ap (λ (a : Activation). a.proc) h.activation)
    by (Err refusal) h e = absurd (true≢false (sym e))
call_runs s cpu proc c r = λ e. absurd (true≢false (sym e ∙ enters_not c (rule s proc c).0 refl))

pub runs_each : EachStep RunsNew
runs_each = record {
  calls = call_runs;
  halts = λ s cpu proc r e. absurd (true≢false (sym e));
  dispatches = λ s cpu first rest r e. absurd (true≢false (sym e));
}

-- so that the call is confined where the incarnation is that a line has made
entered_confined : (w : WorldValue) (m : Machine) (line : Line) → line_of w m line.cpu ≡ Some line → enters_call (done_call line) ≡ true
    → confined_on (moved w m line.cpu).state line.cpu ≡ (incarnation (moved w m line.cpu).state m.state.next_inc).confined
entered_confined w m line h e =
    ap (λ (o : Option (Proc × Inc)). unwrap_or (option_map (λ (x : Proc × Inc). (incarnation (moved w m line.cpu).state x.1).confined) o) false)
    (moved_holds RunsNew runs_each w m line h e)

-- ---- what a line counts

-- how many calls are over an incarnation
depth_is : (depths : List ℕ) (families : List (List Begun)) (i : ℕ) → depths ≡ map (length {A = Begun}) families → slice_index_or depths i 0 ≡ length (slice_index_or families i [])
depth_is depths families i e = ap (λ (ds : List ℕ). slice_index_or ds i 0) e ∙ get_or-map (length {A = Begun}) families i []

changes_are : (s : State) (inc : Inc) (k : ℕ) (calls : List Begun) (depth : ℕ) (path : Option (List ℕ)) → depth ≡ length calls
    → elim (is_some path) [ true ↦ depth | false ↦ 0 ] ≡ length (changes_by k (option_map (named_by s inc) path) calls)
changes_are s inc k calls depth None e = refl
changes_are s inc k calls depth (Some path) e = e ∙ sym (length-map calls (change_under k (named_by s inc path)))

entered_depth : (k : ℕ) (new : Inc) (confined : Bool) (calls : List Begun)
    → depth_entered confined (length calls) ≡ length (calls_entered k (record { inc = new; confined = confined }) calls)
entered_depth k new true calls = sym (length-append calls (record { call = new; moment = k + 1 } ∷ []))
entered_depth k new false calls = refl

abbrev entered_by : State → Bool → Inc → Option Entered
entered_by t enters new =
    option_map (λ (inc : Inc). record { inc = inc; confined = (incarnation t inc).confined })
    (elim enters [ true ↦ (let found : Option Inc = Some new in found) | false ↦ None ])

depths_are : (t : State) (new : Inc) (k i : ℕ) (enters confined : Bool) (depths : List ℕ) (families : List (List Begun)) → depths ≡ map (length {A = Begun}) families
    → (enters ≡ true → confined ≡ (incarnation t new).confined)
    → elim enters [ true ↦ depths ++ depth_entered confined (slice_index_or depths i 0) ∷ [] | false ↦ depths ]
    ≡ map (length {A = Begun}) (elim (entered_by t enters new) [ None ↦ families | Some entered ↦ families ++ calls_entered k entered (slice_index_or families i []) ∷ [] ])
depths_are t new k i false confined depths families e h = e
depths_are t new k i true confined depths families e h =
    ap (λ (ds : List ℕ). ds ++ depth_entered confined (slice_index_or depths i 0) ∷ []) e
    ∙ ap (λ (n : ℕ). map (length {A = Begun}) families ++ n ∷ [])
    (ap (λ (b : Bool). depth_entered b (slice_index_or depths i 0)) (h refl)
    ∙ ap (λ (n : ℕ). depth_entered (incarnation t new).confined n) (depth_is depths families i e)
    ∙ entered_depth k new (incarnation t new).confined (slice_index_or families i []))
    ∙ sym (map-append (length {A = Begun}) families
    (calls_entered k (record { inc = new; confined = (incarnation t new).confined }) (slice_index_or families i []) ∷ []))

-- ---- what all lines count

abbrev count_line : State → Line → State → Counted → Counted
count_line s line t c = counted_by line (confined_on t line.cpu) c

counts_from : (w : WorldValue) (m : Machine) (lines : List Line) (families : List (List Begun)) (c : Counted) (k : ℕ) → AreSteps w m lines
    → c.depths ≡ map (length {A = Begun}) families
    → (told count_line w m lines c).changes ≡ c.changes + length (changes_from k families (doings w m lines))
counts_from w m [] families c k steps e = omega arith
counts_from w m (line ∷ lines) families c k steps e =
    let t : State = (moved w m line.cpu).state in
    let rest = counts_from w (moved w m line.cpu) lines (families_by k (doing m.state line t) families) (counted_by line (confined_on t line.cpu) c) (k + 1) steps.1
    (depths_are t m.state.next_inc k line.inc.0 (enters_call (done_call line)) (confined_on t line.cpu) c.depths families e (entered_confined w m line steps.0)) in
    let one : changes_more line c.depths ≡ length (changes_by k (named_change m.state line.inc (done_call line)) (slice_index_or families line.inc.0 []))
    = changes_are m.state line.inc k (slice_index_or families line.inc.0 []) (slice_index_or c.depths line.inc.0 0) (changes_path (done_call line))
    (depth_is c.depths families line.inc.0 e) in
    let both = length-append (changes_by k (named_change m.state line.inc (done_call line)) (slice_index_or families line.inc.0 []))
    (changes_from (k + 1) (families_by k (doing m.state line t) families) (doings w (moved w m line.cpu) lines)) in
    omega (arith, rest, one, both)

none_over : (n : ℕ) → replicate n 0 ≡ map (length {A = Begun}) (replicate n [])
none_over zero = refl
none_over (suc n) = ap (λ (ds : List ℕ). 0 ∷ ds) (none_over n)

opened_depths : (w : WorldValue) → (counted_none w).depths ≡ map (length {A = Begun}) (replicate (opened w).state.next_inc.0 [])
unfolding opened opening
opened_depths w = none_over (length w.tasks)

-- where all lines of a history were counted, the count is that of all changes
pub counted_changes : (w : WorldValue) (lines : List Line) (c : Counted) → AreStepsOf w lines → c ≡ counted w lines → c.changes ≡ length (bare_changes w lines)
counted_changes w lines c steps e =
    let all : List BareChange = changes_from 0 (replicate (opened w).state.next_inc.0 []) (doings w (opened w) lines) in
    let sum = counts_from w (opened w) lines (replicate (opened w).state.next_inc.0 []) (counted_none w) 0 steps (opened_depths w) in
    let found = ap (length {A = BareChange}) (changes_found w lines all steps refl)
    ∙ length-map (bare_changes w lines) told_change in
    let same = ap (λ (x : Counted). x.changes) e in
    omega (arith, sum, found, same)

-- ---- one line more

told_one : {G : Type 0} (f : State → Line → State → G → G) (w : WorldValue) (m : Machine) (lines : List Line) (line : Line) (g : G)
    → told f w m (lines ++ line ∷ []) g ≡ f (after_lines w m lines).state line (after_lines w m (lines ++ line ∷ [])).state (told f w m lines g)
told_one f w m [] line g = refl
told_one f w m (x ∷ lines) line g = told_one f w (moved w m x.cpu) lines line (f m.state x (moved w m x.cpu).state g)

pub counted_more : (w : WorldValue) (lines : List Line) (line : Line) (t : State) (confined : Bool) (c new : Counted) → state_after w (lines ++ line ∷ []) ≡ t
    → c ≡ counted w lines → confined ≡ confined_on t line.cpu → new ≡ counted_by line confined c → new ≡ counted w (lines ++ line ∷ [])
counted_more w lines line t confined c new there e b h =
    rw (h, b, e, ← there) (sym (told_one count_line w (opened w) lines line (counted_none w)))
