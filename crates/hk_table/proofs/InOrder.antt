-- The objects and incarnations, put in by rising number from the last on.
use Rattle.std.proofs.Common.{◌≡◌, ℕ, zero, suc, ◌-◌, ◌<◌, ◌≤◌, true, List, [], ◌∷◌, length, drop, Option, Some, None, IfSome, refl, sym, ap, ◌∙◌, arith}
use Rattle.std.proofs.Common.{option_map}
use Rattle.std.specs.Prelude.{slice_get, slice_index_or}
use Rattle.std.specs.BTreeMap.{insert_entry}
use Rattle.hk_model.specs.declared.names.Name.{Name}
use Rattle.hk_model.specs.declared.names.Inc.{Inc}
use Rattle.hk_model.specs.declared.names.Proc.{Proc}
use Rattle.hk_model.specs.declared.objects.Object.{Object}
use Rattle.hk_model.specs.declared.objects.Incarnation.{Incarnation}
use Rattle.hk_model.specs.declared.objects.Process.{Process}
use Rattle.hk_model.specs.declared.objects.ProcessState.TheVariants.{Ready}
use Rattle.hk_model.specs.State.{name_cmp, inc_cmp}
use Rattle.hk_objects.specs.declared.body.Body.{Body}
use Rattle.hk_objects.specs.Slots.{standing, place, name_at}
use Rattle.hk_queues.specs.Queued.{Queued, is_queued}
use Rattle.hk_running.specs.Runners.{process_at}
use Rattle.hk_spaces.specs.declared.stack.StackFrame.{StackFrame}
use Rattle.hk_table.specs.Whole.{whole, whole_object, with_waiters}
use Rattle.hk_table.specs.Stacked.{caller_at, incarnation_of, live_with}
use Rattle.hk_table.specs.Joined.{AreQueued}
use Rattle.hk_table.proofs.Whole.{place-whole}

-- what stands in a slot, with who waits there
nothing : (p : Option (Name × Body)) (procs : List Proc) → None ≡ option_map (λ (e : Name × Body). e.0) p → None ≡ with_waiters p procs
nothing None procs e = refl
nothing (Some p) procs e = absurd (cc)

pub nothing_placed : (ps : List (Option (Name × Body))) (ws : List (List Proc)) (s : ℕ) → None ≡ name_at ps s → None ≡ place (whole ps ws) s
nothing_placed ps ws s e = nothing (place ps s) (slice_index_or ws s []) e ∙ sym (place-whole ps ws s)

something : (p : Option (Name × Body)) (procs waiters : List Proc) (n : Name) (o : Object) → Some n ≡ option_map (λ (e : Name × Body). e.0) p
    → IfSome p (λ e. o ≡ whole_object e.1 procs) → procs ≡ waiters → Some (n, o) ≡ with_waiters p waiters
something None procs waiters n o e is same = absurd (cc)
something (Some p) procs waiters n o e is same =
    let name : n ≡ p.0 = cc in
    let object : o ≡ whole_object p.1 waiters = is ∙ ap (whole_object p.1) same in
    λ i. Some (name i, object i)

pub something_placed : (ps : List (Option (Name × Body))) (ws : List (List Proc)) (s : ℕ) (procs : List Proc) (n : Name) (o : Object) → Some n ≡ name_at ps s
    → IfSome (place ps s) (λ e. o ≡ whole_object e.1 procs) → procs ≡ slice_index_or ws s []
    → Some (n, o) ≡ place (whole ps ws) s
something_placed ps ws s procs n o e is same = something (place ps s) procs (slice_index_or ws s []) n o e is same ∙ sym (place-whole ps ws s)

-- behind the last slot there is none
pub none_left : (ps : List (Option (Name × Body))) (ws : List (List Proc)) (k : ℕ) → length ps ≤ k → drop k (whole ps ws) ≡ []
none_left [] ws zero past = refl
none_left [] ws (suc k) past = refl
none_left (p ∷ ps) ws zero past = absurd (omega arith)
none_left (p ∷ ps) [] (suc k) past = none_left ps [] k (omega arith)
none_left (p ∷ ps) (x ∷ ws) (suc k) past = none_left ps ws k (omega arith)

pub objects_none : (ps : List (Option (Name × Body))) (ws : List (List Proc)) (k : ℕ) (es : List (Name × Object)) → length ps ≡ k → es ≡ [] → es ≡ standing (drop k (whole ps ws))
objects_none ps ws k es room none = none ∙ sym (ap standing (none_left ps ws k (omega arith)))

-- one slot more
drop-place : (os : List (Option (Name × Object))) (j : ℕ) (n : Name) (o : Object) → Some (n, o) ≡ place os j → drop j os ≡ Some (n, o) ∷ drop (suc j) os
drop-place [] j n o e = absurd (cc)
drop-place (p ∷ os) zero n o e = ap (λ (q : Option (Name × Object)). q ∷ os) (sym e)
drop-place (p ∷ os) (suc j) n o e = drop-place os j n o e

pub objects_more : (os : List (Option (Name × Object))) (k : ℕ) (n : Name) (o : Object) (es new : List (Name × Object)) → 0 < k → Some (n, o) ≡ place os (k - 1)
    → es ≡ standing (drop k os) → new ≡ insert_entry name_cmp es n o
    → new ≡ standing (drop (k - 1) os)
objects_more os zero n o es new some e before inserted = absurd (omega arith)
objects_more os (suc j) n o es new some e before inserted =
    let same : suc j - 1 ≡ j = omega arith in
    let here : Some (n, o) ≡ place os j = e ∙ ap (place os) same in
    inserted ∙ ap (λ (v : List (Name × Object)). insert_entry name_cmp v n o) before
    ∙ sym (ap standing (ap (λ (m : ℕ). drop m os) same ∙ drop-place os j n o here))

-- the caller of a frame
pub caller_below : (caller : Option Inc) (fs : List StackFrame) (k : ℕ) (f : StackFrame) → slice_get fs k ≡ Some f → caller_at caller fs (suc k) ≡ Some f.inc
caller_below caller [] k f e = absurd (cc)
caller_below caller (g ∷ fs) zero f e = let same : g ≡ f = cc in ap (λ (x : StackFrame). Some x.inc) same
caller_below caller (g ∷ fs) (suc k) f e = caller_below (Some g.inc) fs k f e

pub caller_found : (fs : List StackFrame) (at : ℕ) (f : StackFrame) → 0 < at → slice_get fs (at - 1) ≡ Some f → Some f.inc ≡ caller_at None fs at
caller_found fs zero f some e = absurd (omega arith)
caller_found fs (suc k) f some e = let same : suc k - 1 ≡ k = omega arith in sym (caller_below None fs k f (ap (slice_get fs) (sym same) ∙ e))

drop-frame : (fs : List StackFrame) (j : ℕ) (f : StackFrame) → slice_get fs j ≡ Some f → drop j fs ≡ f ∷ drop (suc j) fs
drop-frame [] j f e = absurd (cc)
drop-frame (g ∷ fs) zero f e = let same : g ≡ f = cc in ap (λ (x : StackFrame). x ∷ fs) same
drop-frame (g ∷ fs) (suc j) f e = drop-frame fs j f e

-- one frame more
pub frames_more : (proc : Proc) (fs : List StackFrame) (k : ℕ) (f : StackFrame) (caller : Option Inc) (i : Incarnation) (base all new : List (Inc × Incarnation)) → 0 < k
    → slice_get fs (k - 1) ≡ Some f → caller ≡ caller_at None fs (k - 1)
    → i ≡ incarnation_of proc caller f → all ≡ live_with proc (caller_at None fs k) (drop k fs) base → new ≡ insert_entry inc_cmp all f.inc i
    → new ≡ live_with proc (caller_at None fs (k - 1)) (drop (k - 1) fs) base
frames_more proc fs zero f caller i base all new some here calls is before inserted = absurd (omega arith)
frames_more proc fs (suc j) f caller i base all new some here calls is before inserted =
    let same : suc j - 1 ≡ j = omega arith in
    let there : slice_get fs j ≡ Some f = ap (slice_get fs) (sym same) ∙ here in
    inserted
    ∙ ap (λ (v : List (Inc × Incarnation)). insert_entry inc_cmp v f.inc i)
    (before ∙ ap (λ (c : Option Inc). live_with proc c (drop (suc j) fs) base) (caller_below None fs j f there))
    ∙ ap (λ (v : Incarnation). insert_entry inc_cmp (live_with proc (Some f.inc) (drop (suc j) fs) base) f.inc v)
    (is ∙ ap (λ (c : Option Inc). incarnation_of proc c f) (calls ∙ ap (caller_at None fs) same))
    ∙ ap (λ (v : List StackFrame). live_with proc (caller_at None fs j) v base) (sym (drop-frame fs j f there))
    ∙ ap (λ (m : ℕ). live_with proc (caller_at None fs m) (drop m fs) base) (sym same)

-- who is ready is a process
within : (ps : List Process) (k : ℕ) → (process_at ps k).run ≡ Ready → k < length ps
within [] k e = absurd (cc)
within (p ∷ ps) zero e = omega arith
within (p ∷ ps) (suc k) e = let h = within ps k e in omega (arith, h)

pub ready_known : (slots : List (Option (Name × Body))) (q : Queued) (ps : List Process) → AreQueued slots q ps → (proc : Proc) → is_queued proc q.ready ≡ true
    → proc.0 < q.processes
ready_known slots q ps h proc in' = let k = within ps proc.0 (h.ready proc in') in omega (arith, k, h.all)
