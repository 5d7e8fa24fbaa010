-- How often frames and processes name an object, as they come, change and go.
use Rattle.std.proofs.Common.{◌≡◌, ℕ, zero, suc, ◌+◌, ◌-◌, ◌<◌, List, [], ◌∷◌, ◌++◌, length, get_or, set, Option, Some, None, refl, sym, ap, ◌∙◌, subst, arith}
use Rattle.std.specs.Prelude.{slice_get, slice_index_or}
use Rattle.std.specs.List.{flat_map, sum_by}
use Rattle.std.specs.Option.{unwrap_or}
use Rattle.std.proofs.lemmas.List.{length-append}
use Rattle.std.proofs.lemmas.List.Sums.{sum_by-cons, sum_by-set, sum_by_push}
use Rattle.hk_model.specs.declared.names.Name.{Name}
use Rattle.hk_model.specs.declared.names.Inc.{Inc}
use Rattle.hk_model.specs.declared.names.Proc.{Proc}
use Rattle.hk_model.specs.declared.names.Slot.{Slot}
use Rattle.hk_model.specs.declared.entries.Entry.{Entry}
use Rattle.hk_model.specs.declared.entries.Entry.TheVariants.{Empty}
use Rattle.hk_model.specs.declared.objects.Incarnation.{Incarnation}
use Rattle.hk_model.specs.declared.objects.Process.{Process}
use Rattle.hk_model.specs.declared.objects.ProcessState.{ProcessState}
use Rattle.hk_model.specs.State.{State}
use Rattle.hk_model.specs.Keeping.{entry_names, run_names, outer_names}
use Rattle.hk_reclaim.specs.Naming.{times, named_in}
use Rattle.hk_reclaim.proofs.Counting.{times_none}
use Rattle.hk_running.specs.Runners.{process_at, with_run, with_current}
use Rattle.hk_spaces.specs.declared.stack.StackFrame.{StackFrame}
use Rattle.hk_spaces.specs.Slots.{with_slot, with_changed, with_top}
use Rattle.hk_table.specs.Stacked.{live_from, top_of, slots_of, with_top_of, AreNumbered, Pops}
use Rattle.hk_table.specs.Settled.{frame_namings, stack_namings, wait_namings, outside_namings}
use Rattle.hk_table.proofs.FrameNames.{times-append, frames_named, space_times}

abbrev entry_times : Name → Entry → ℕ
entry_times n e = times n (entry_names e)

entries_sum : (n : Name) (es : List Entry) → times n (named_in es) ≡ sum_by (entry_times n) es
entries_sum n [] = times_none n
entries_sum n (e ∷ es) =
    times-append n (entry_names e) (named_in es) ∙ ap (λ (k : ℕ). times n (entry_names e) + k) (entries_sum n es) ∙ sym (sum_by-cons (entry_times n) e es)

-- an entry in place of another
pub space_written : (n : Name) (es : List Entry) (slot : ℕ) (entry : Entry) → slot < length es
    → times n (named_in (set es slot entry)) + times n (entry_names (get_or es slot Empty)) ≡ times n (named_in es) + times n (entry_names entry)
space_written n es slot entry low = omega (arith, entries_sum n es, entries_sum n (set es slot entry), sum_by-set (entry_times n) es slot entry Empty low)

found : (fs : List StackFrame) (k : ℕ) (f : StackFrame) → slice_get fs k ≡ Some f → (k < length fs) × (get_or fs k f ≡ f)
found [] k f e = absurd (cc)
found (g ∷ fs) zero f e = (omega arith, cc)
found (g ∷ fs) (suc k) f e = let w = found fs k f e in (omega (arith, w.0), w.1)

top_written : (n : Name) (fs : List StackFrame) (slot : ℕ) (entry : Entry) → slot < length (slots_of (top_of fs))
    → stack_namings n (with_top fs slot entry) + times n (entry_names (get_or (slots_of (top_of fs)) slot Empty)) ≡ stack_namings n fs + times n (entry_names entry)
top_written n fs slot entry low = by (top_of fs) refl low where
  by : (o : Option StackFrame) → top_of fs ≡ o → slot < length (slots_of o)
      → stack_namings n (with_changed fs (length fs - 1) o slot entry) + times n (entry_names (get_or (slots_of o) slot Empty)) ≡ stack_namings n fs + times n (entry_names entry)
  by None e low = absurd (omega arith)
  by (Some f) e low =
      let w = found fs (length fs - 1) f e in
      let same : space_times n (get_or fs (length fs - 1) f) ≡ space_times n f = ap (space_times n) w.1 in
      omega (arith, same, space_written n f.space slot entry low, sum_by-set (space_times n) fs (length fs - 1) (with_slot f slot entry) f w.0)

some_stack : (stacks : List (List StackFrame)) (q : ℕ) → 0 < length (slice_index_or stacks q []) → q < length stacks
some_stack [] q some = absurd (omega arith)
some_stack (fs ∷ rest) zero some = omega arith
some_stack (fs ∷ rest) (suc q) some = let low = some_stack rest q some in omega (arith, low)

some_top : (fs : List StackFrame) (slot : ℕ) → slot < length (slots_of (top_of fs)) → 0 < length fs
some_top [] slot low = absurd (omega arith)
some_top (f ∷ fs) slot low = omega arith

-- an entry in a slot of the top frame of a process
pub slot_written : (n : Name) (stacks : List (List StackFrame)) (q slot : ℕ) (entry : Entry) → slot < length (slots_of (top_of (slice_index_or stacks q [])))
    → frame_namings n (with_top_of stacks q slot entry) + times n (entry_names (slice_index_or (slots_of (top_of (slice_index_or stacks q []))) slot Empty))
    ≡ frame_namings n stacks + times n (entry_names entry)
slot_written n stacks q slot entry low =
    let there : q < length stacks = some_stack stacks q (some_top (slice_index_or stacks q []) slot low) in
    omega (
      arith,
      top_written n (slice_index_or stacks q []) slot entry low,
      sum_by-set (stack_namings n) stacks q (with_top (slice_index_or stacks q []) slot entry) [] there,
    )

-- one more frame
pub frame_pushed : (n : Name) (stacks : List (List StackFrame)) (q : ℕ) (f : StackFrame) → q < length stacks
    → frame_namings n (set stacks q (slice_index_or stacks q [] ++ f ∷ [])) ≡ frame_namings n stacks + times n (named_in f.space)
frame_pushed n stacks q f low =
    omega (
      arith,
      sum_by_push (space_times n) (slice_index_or stacks q []) f,
      sum_by-set (stack_namings n) stacks q (slice_index_or stacks q [] ++ f ∷ []) [] low,
    )

last_frame : (fs : List StackFrame) (f : StackFrame) → slice_get (fs ++ f ∷ []) (length fs) ≡ Some f
last_frame [] f = refl
last_frame (g ∷ fs) f = last_frame fs f

pushed_top : (fs : List StackFrame) (f : StackFrame) → top_of (fs ++ f ∷ []) ≡ Some f
pushed_top fs f =
    let many : length (fs ++ f ∷ []) ≡ length fs + 1 = length-append fs (f ∷ []) in
    let k : length (fs ++ f ∷ []) - 1 ≡ length fs = omega (arith, many) in
    ap (slice_get (fs ++ f ∷ [])) k ∙ last_frame fs f

-- one frame fewer
pub frame_popped : (n : Name) (old new : List (List StackFrame)) (q : ℕ) (into : Option Slot) → Pops old q into new
    → frame_namings n new + times n (named_in (slots_of (top_of (slice_index_or old q [])))) ≡ frame_namings n old
frame_popped n old new q None p =
    let none : times n (named_in (slots_of (top_of (slice_index_or old q [])))) ≡ 0 = ap (λ (fs : List StackFrame). times n (named_in (slots_of (top_of fs)))) p.0 ∙ times_none n in
    let same : frame_namings n new ≡ frame_namings n old = ap (frame_namings n) p.1 in omega (arith, none, same)
frame_popped n old new q (Some into) p =
    let fs : List StackFrame = p.0 in
    let f : StackFrame = p.1 in
    let here : slice_index_or old q [] ≡ fs ++ f ∷ [] = p.2 in
    let many : length (fs ++ f ∷ []) ≡ length fs + 1 = length-append fs (f ∷ []) in
    let some : 0 < length (slice_index_or old q []) = subst (λ (gs : List StackFrame). 0 < length gs) (sym here) (omega (arith, many)) in
    let low : q < length old = some_stack old q some in
    let of_top : times n (named_in (slots_of (top_of (slice_index_or old q [])))) ≡ times n (named_in f.space)
    = ap (λ (gs : List StackFrame). times n (named_in (slots_of (top_of gs)))) here ∙ ap (λ (o : Option StackFrame). times n (named_in (slots_of o))) (pushed_top fs f) in
    let of_all : stack_namings n (slice_index_or old q []) ≡ stack_namings n fs + times n (named_in f.space) = ap (stack_namings n) here ∙ sum_by_push (space_times n) fs f in
    let now : frame_namings n new ≡ frame_namings n (set old q fs) = ap (frame_namings n) p.4 in
    omega (arith, of_top, of_all, now, sum_by-set (stack_namings n) old q fs [] low)

-- no frame is left
pub frames_cleared : (n : Name) (stacks : List (List StackFrame)) (q : ℕ)
    → frame_namings n (set stacks q []) + stack_namings n (slice_index_or stacks q []) ≡ frame_namings n stacks
frames_cleared n [] q = refl
frames_cleared n (fs ∷ rest) zero = omega (arith, sum_by-cons (stack_namings n) [] rest, sum_by-cons (stack_namings n) fs rest)
frames_cleared n (fs ∷ rest) (suc q) =
    omega (arith, sum_by-cons (stack_namings n) fs (set rest q []), sum_by-cons (stack_namings n) fs rest, frames_cleared n rest q)

abbrev run_times : Name → Process → ℕ
run_times n p = times n (run_names p.run)

at_process : (ps : List Process) (q : ℕ) (d : Process) → unwrap_or (slice_get ps q) d ≡ get_or ps q d
at_process [] q d = refl
at_process (p ∷ ps) zero d = refl
at_process (p ∷ ps) (suc q) d = at_process ps q d

process_changed : (n : Name) (ps : List Process) (q : ℕ) (p : Process) → q < length ps
    → wait_namings n (set ps q p) + times n (run_names (process_at ps q).run) ≡ wait_namings n ps + times n (run_names p.run)
process_changed n ps q p low =
    let d : Process = process_at [] q in
    let same : times n (run_names (process_at ps q).run) ≡ times n (run_names (get_or ps q d).run) = ap (run_times n) (at_process ps q d) in
    omega (arith, same, sum_by-set (run_times n) ps q p d low)

-- a process does something else
pub run_changed : (n : Name) (ps : List Process) (proc : Proc) (run : ProcessState) → proc.0 < length ps
    → wait_namings n (with_run ps proc run) + times n (run_names (process_at ps proc.0).run) ≡ wait_namings n ps + times n (run_names run)
run_changed n ps proc run low = process_changed n ps proc.0 (record (process_at ps proc.0) { run = run }) low

-- a process is in another incarnation
pub current_changed : (n : Name) (ps : List Process) (proc : Proc) (inc : Inc) → proc.0 < length ps → wait_namings n (with_current ps proc inc) ≡ wait_namings n ps
current_changed n ps proc inc low = let h = process_changed n ps proc.0 (record (process_at ps proc.0) { current = inc }) low in omega (arith, h)

runs_sum : (n : Name) (ps : List Process) → times n (flat_map (λ (p : Process). run_names p.run) ps) ≡ wait_namings n ps
runs_sum n [] = times_none n
runs_sum n (p ∷ ps) =
    times-append n (run_names p.run) (flat_map (λ (p : Process). run_names p.run) ps) ∙ ap (λ (k : ℕ). times n (run_names p.run) + k) (runs_sum n ps)
    ∙ sym (sum_by-cons (run_times n) p ps)

-- all that is named from outside
pub outside_named : (n : Name) (s : State) (stacks : List (List StackFrame)) (next : Inc) → AreNumbered stacks next → s.incarnations ≡ live_from 0 stacks
    → times n (outer_names s) ≡ outside_namings n stacks s.processes
outside_named n s stacks next numbered live =
    times-append n (flat_map (λ (e : Inc × Incarnation). flat_map entry_names e.1.slots) s.incarnations) (flat_map (λ (p : Process). run_names p.run) s.processes)
    ∙ omega (
      arith,
      runs_sum n s.processes,
      frames_named n stacks next numbered,
      ap (λ (es : List (Inc × Incarnation)). times n (flat_map (λ (e : Inc × Incarnation). flat_map entry_names e.1.slots) es)) live,
    )
