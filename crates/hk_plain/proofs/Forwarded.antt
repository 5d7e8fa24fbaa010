-- What an event saved and what went by it are changes that lead back, and that can be taken back.
use Rattle.std.proofs.Common.{◌≡◌, ◌∙◌, ℕ, zero, suc, ◌+◌, ◌<◌, ◌≤◌, List, [], ◌∷◌, Option, Some, None, Ok, Err, refl, sym, ap, arith, subst}
use Rattle.std.specs.Prelude.{slice_get}
use Rattle.std.specs.Option.{unwrap_or}
use Rattle.hk_model.specs.declared.names.Inc.{Inc}
use Rattle.hk_model.specs.declared.names.Proc.{Proc}
use Rattle.hk_model.specs.declared.names.Cpu.{Cpu}
use Rattle.hk_model.specs.declared.calls.Call.{Call}
use Rattle.hk_model.specs.declared.calls.Reply.{Reply}
use Rattle.hk_model.specs.declared.objects.Incarnation.{Incarnation}
use Rattle.hk_model.specs.State.{State, process}
use Rattle.hk_model.specs.Keeping.{restricted}
use Rattle.hk_model.specs.Rule.{Outcome, outcome, rule, settled, counted}
use Rattle.hk_model.specs.Processors.{dispatched, dispatched_from, halted}
use Rattle.hk_plain.specs.declared.changes.Saved.{Saved}
use Rattle.hk_plain.specs.Stacks.{Rises}
use Rattle.hk_plain.specs.Changes.{Changes, IsWhole, taken_back, call_saved, dispatch_saved, halt_saved}
use Rattle.hk_plain.specs.Removing.{Removal, AreBelow, IsOrderly, LeadsBack, IsFresh, IsUndone, saved_by}
use Rattle.hk_plain.specs.Forward.{IsInverse, IsLaidOut}
use Rattle.hk_plain.proofs.PutBack.{rises_sorted}
use Rattle.hk_plain.proofs.GoingTakenBack.{taken_back_with, dispatch_back}
use Rattle.hk_plain.proofs.RunningAgain.{RunAlone, SavedRuns, runs_same, call_runs, dispatch_runs, halt_runs}
use Rattle.hk_plain.proofs.Undone.{nothing_gone, saved_answered}

-- ---- a state is laid out

rises_below : (low : ℕ) (live : List (Inc × Incarnation)) (next : Inc) → Rises low live next.0 → (low ≤ next.0) × AreBelow next live
rises_below low [] next rises = (rises, tt)
rises_below low (e ∷ live) next rises =
    let rest = rises_below (e.0.0 + 1) live next rises.1 in (omega (arith, rises.0, rest.0), (omega (arith, rest.0), rest.1))

pub orderly : (s : State) → IsWhole s → IsLaidOut s → IsOrderly s
orderly s whole laid_out = record {
  objects = laid_out.objects;
  given = whole.given;
  incarnations = rises_sorted 0 s.incarnations s.next_inc.0 laid_out.incarnations;
  entered = (rises_below 0 s.incarnations s.next_inc laid_out.incarnations).1;
}

pub run_alone : (s : State) → IsLaidOut s → RunAlone s.processes
run_alone s laid_out = record { alone = laid_out.alone; few = laid_out.few }

-- ---- changes that lead back

below_at : (next : Inc) (left : List (Inc × Incarnation)) → AreBelow next left → (e : Inc × Incarnation) (k : ℕ) → slice_get left k ≡ Some e → e.0.0 < next.0
below_at next [] all e k there = absurd (cc)
below_at next (x ∷ left) all e zero there =
    let same : x ≡ e = ap (λ (o : Option (Inc × Incarnation)). unwrap_or o e) there in subst (λ (y : Inc × Incarnation). y.0.0 < next.0) same all.0
below_at next (x ∷ left) all e (suc k) there = below_at next left all.1 e k there

abbrev pub changes : Saved → Removal → Changes
changes v r = record { saved = v; gone = r.gone; left = r.left }

pub inverse_from : (v : Saved) (s after : State) (r : Removal) → IsWhole s → after.events ≡ s.events + 1 → LeadsBack v s after r → SavedRuns v after
    → IsInverse (changes v r) s after
inverse_from v s after r whole one leads runs =
    let back : taken_back (changes v r) after ≡ s = taken_back_with (changes v r) s after leads.back one in record {
      back = back;
      behind = record {
        whole = subst IsWhole (sym back) whole;
        objects = leads.objects;
        incarnations = leads.incarnations;
        below = below_at after.next_inc r.left leads.below;
        process = runs;
      };
    }

-- ---- calls

rule_events : (s : State) (o : Outcome) → (settled s o).1.events ≡ s.events + 1
rule_events s (Ok f) = refl
rule_events s (Err refusal) = refl

settled_runs : (s : State) (proc : Proc) (inc : Inc) (c : Call) → RunAlone s.processes → (o : Outcome) → outcome s proc inc c ≡ o
    → SavedRuns (saved_by (settled s o).0 (call_saved s proc inc c)) (settled s o).1
settled_runs s proc inc c alone (Ok found) is =
    subst (λ (v : Saved). SavedRuns v (counted (s.events + 1) (restricted found.1))) (sym (saved_answered found.0 (call_saved s proc inc c)))
    (runs_same (call_saved s proc inc c) found.1 (counted (s.events + 1) (restricted found.1)) refl (call_runs s alone proc inc c found.0 found.1 is))
settled_runs s proc inc c alone (Err refusal) is = tt

pub call_inverse : (s : State) (proc : Proc) (c : Call) (reply : Reply) (after : State) (fresh r : Removal) → IsWhole s → IsLaidOut s → IsFresh fresh
    → rule s proc c ≡ (reply, after) → IsUndone (saved_by reply (call_saved s proc (process s proc).current c)) s after fresh r
    → IsInverse (changes (saved_by reply (call_saved s proc (process s proc).current c)) r) s after
call_inverse s proc c reply after fresh r whole laid_out is_fresh is undone =
    inverse_from v s after r whole one (undone (orderly s whole laid_out) is_fresh) runs
  where
    v : Saved
    v = saved_by reply (call_saved s proc (process s proc).current c)

    one : after.events ≡ s.events + 1
    one = sym (ap (λ (p : Reply × State). p.1.events) is) ∙ rule_events s (outcome s proc (process s proc).current c)

    runs : SavedRuns v after
    runs =
        subst (λ (p : Reply × State). SavedRuns (saved_by p.0 (call_saved s proc (process s proc).current c)) p.1) is
        (settled_runs s proc (process s proc).current c (run_alone s laid_out) (outcome s proc (process s proc).current c) refl)

-- ---- a dispatch

dispatched_events : (s : State) (cpu : Cpu) (first : Proc) (after : State) → dispatched s cpu ≡ Some (first, after) → after.events ≡ s.events + 1
dispatched_events s cpu first after is = by s.ready is
  where
    by : (ready : List Proc) → dispatched_from s cpu ready ≡ Some (first, after) → after.events ≡ s.events + 1
    by [] found = absurd (cc)
    by (head ∷ rest) found = sym (ap (λ (o : Option (Proc × State)). (unwrap_or o (first, after)).1.events) found)

pub none_first : (ready : List Proc) → slice_get ready 0 ≡ None → ready ≡ []
none_first [] none = refl
none_first (first ∷ rest) none = absurd (cc)

pub first_is : (s : State) (cpu : Cpu) (first head : Proc) (after : State) → dispatched s cpu ≡ Some (first, after) → Some head ≡ slice_get s.ready 0 → head ≡ first
first_is s cpu first head after is there = by s.ready is there
  where
    by : (ready : List Proc) → dispatched_from s cpu ready ≡ Some (first, after) → Some head ≡ slice_get ready 0 → head ≡ first
    by [] found none = absurd (cc)
    by (h ∷ rest) found at =
        ap (λ (o : Option Proc). unwrap_or o head) at ∙ ap (λ (o : Option (Proc × State)). (unwrap_or o (first, after)).0) found

pub dispatch_inverse : (s : State) (cpu : Cpu) (first : Proc) (after : State) (r : Removal) → IsWhole s → IsLaidOut s → r.gone ≡ [] → r.left ≡ []
    → dispatched s cpu ≡ Some (first, after) → IsInverse (changes (dispatch_saved s first) r) s after
dispatch_inverse s cpu first after r whole laid_out none_gone none_left is =
    inverse_from (dispatch_saved s first) s after r whole (dispatched_events s cpu first after is)
    (counted_again (nothing_gone (dispatch_saved s first) s (counted s.events after) r none_gone none_left (dispatch_back s cpu first after is)))
    (dispatch_runs s (run_alone s laid_out) cpu first after is)
  where
    counted_again : LeadsBack (dispatch_saved s first) s (counted s.events after) r → LeadsBack (dispatch_saved s first) s after r
    counted_again b = record { back = b.back; objects = b.objects; incarnations = b.incarnations; below = b.below }

-- ---- a halt

pub halt_inverse : (s : State) (proc : Proc) (after : State) (fresh r : Removal) → IsWhole s → IsLaidOut s → IsFresh fresh → after ≡ halted s proc
    → IsUndone (halt_saved s proc) s after fresh r → IsInverse (changes (halt_saved s proc) r) s after
halt_inverse s proc after fresh r whole laid_out is_fresh is undone =
    inverse_from (halt_saved s proc) s after r whole (ap (λ (t : State). t.events) is) (undone (orderly s whole laid_out) is_fresh)
    (subst (SavedRuns (halt_saved s proc)) (sym is) (halt_runs s (run_alone s laid_out) proc))
