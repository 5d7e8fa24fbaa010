-- How often an object can be named at most.
use Rattle.std.proofs.Common.{◌≡◌, ℕ, zero, suc, ◌+◌, ◌*◌, ◌≤◌, ◌==◌, Bool, true, false, cond, List, [], ◌∷◌, length, Option, Some, None, refl, sym, ap, ◌∙◌, subst, arith}
use Rattle.std.specs.Prelude.{slice_get, slice_index_or}
use Rattle.std.specs.List.{sum_by}
use Rattle.std.proofs.lemmas.List.Sums.{sum_by-cons}
use Rattle.hk_model.specs.declared.names.Name.{Name}
use Rattle.hk_model.specs.declared.entries.Entry.{Entry}
use Rattle.hk_model.specs.declared.entries.Entry.TheVariants.{Empty, Held, Form}
use Rattle.hk_model.specs.declared.entries.Template.TheVariants as template
use Rattle.hk_model.specs.declared.objects.Process.{Process}
use Rattle.hk_model.specs.declared.objects.ProcessState.{ProcessState}
use Rattle.hk_model.specs.declared.objects.ProcessState.TheVariants.{Ready, Running, Waiting, Ended}
use Rattle.hk_model.specs.Keeping.{entry_names, run_names}
use Rattle.hk_objects.specs.declared.body.Body.{Body}
use Rattle.hk_objects.specs.Slots.{place}
use Rattle.hk_reclaim.specs.Naming.{times, names_in, named_in, namings}
use Rattle.hk_reclaim.proofs.Counting.{times_none, times-cons}
use Rattle.hk_spaces.specs.declared.stack.StackFrame.{StackFrame}
use Rattle.hk_table.specs.Settled.{stack_namings, frame_namings, wait_namings, outside_namings}
use Rattle.hk_table.specs.Small.{AreSmall}
use Rattle.hk_table.proofs.FrameNames.{times-append}

module _ {X : Type 0} (f : X → ℕ) (m : ℕ) where
  sum_within : (xs : List X) → ((k : ℕ) (x : X) → slice_get xs k ≡ Some x → f x ≤ m) → sum_by f xs ≤ length xs * m
  sum_within [] h = omega arith
  sum_within (x ∷ xs) h =
      let one : f x ≤ m = h 0 x refl in
      let rest : sum_by f xs ≤ length xs * m = sum_within xs (λ k y e. h (suc k) y e) in
      subst (λ (n : ℕ). n ≤ suc (length xs) * m) (sym (sum_by-cons f x xs)) (omega arith)

once : (b : Bool) → cond b 1 0 ≤ 1
once true = omega arith
once false = omega arith

pub one_name : (n x : Name) → times n (x ∷ []) ≤ 1
one_name n x = let z : times n [] ≡ 0 = times_none n in let w : cond (n.0 == x.0) 1 0 ≤ 1 = once (n.0 == x.0) in omega (arith, times-cons n x [], z, w)

no_name : (n : Name) → times n [] ≤ 1
no_name n = let z : times n [] ≡ 0 = times_none n in omega arith

pub entry_within : (n : Name) (e : Entry) → times n (entry_names e) ≤ 1
entry_within n Empty = no_name n
entry_within n (Held cap) = one_name n cap.name
entry_within n (Form (template.Amplify None check give)) = no_name n
entry_within n (Form (template.Amplify (Some of) check give)) = one_name n of
entry_within n (Form (template.Create of give)) = one_name n of

run_within : (n : Name) (run : ProcessState) → times n (run_names run) ≤ 1
run_within n Ready = no_name n
run_within n (Running cpu) = no_name n
run_within n (Waiting at) = one_name n at
run_within n Ended = no_name n

pub entries_within : (n : Name) (es : List Entry) → times n (named_in es) ≤ length es
entries_within n [] = let z : times n [] ≡ 0 = times_none n in omega arith
entries_within n (e ∷ es) = omega (arith, times-append n (entry_names e) (named_in es), entry_within n e, entries_within n es)

place_some : (ps : List (Option (Name × Body))) (k : ℕ) (p : Option (Name × Body)) → slice_get ps k ≡ Some p → place ps k ≡ p
place_some [] k p e = absurd (cc)
place_some (q ∷ ps) zero p e = cc
place_some (q ∷ ps) (suc k) p e = place_some ps k p e

stack_some : (stacks : List (List StackFrame)) (q : ℕ) (fs : List StackFrame) → slice_get stacks q ≡ Some fs → slice_index_or stacks q [] ≡ fs
stack_some [] q fs e = absurd (cc)
stack_some (gs ∷ rest) zero fs e = cc
stack_some (gs ∷ rest) (suc q) fs e = stack_some rest q fs e

names_within : (n : Name) (p : Option (Name × Body)) → ((e : Name × Body) → p ≡ Some e → length e.1.entries ≤ 256) → times n (names_in p) ≤ 257
names_within n None h = let z : times n [] ≡ 0 = times_none n in omega arith
names_within n (Some e) h =
    let few : length e.1.entries ≤ 256 = h e refl in
    let w : cond (n.0 == e.1.of.0) 1 0 ≤ 1 = once (n.0 == e.1.of.0) in
    omega (arith, few, w, times-cons n e.1.of (named_in e.1.entries), entries_within n e.1.entries)

pub objects_within : (n : Name) (slots : List (Option (Name × Body))) → ((k : ℕ) (e : Name × Body) → place slots k ≡ Some e → length e.1.entries ≤ 256)
    → namings slots n ≤ length slots * 257
unfolding namings
objects_within n slots few =
    sum_within (λ p. times n (names_in p)) 257 slots (λ k p here. names_within n p (λ e is. few k e (place_some slots k p here ∙ is)))

stack_within : (n : Name) (fs : List StackFrame) → length fs ≤ 64 → ((k : ℕ) (f : StackFrame) → slice_get fs k ≡ Some f → length f.space ≤ 64) → stack_namings n fs ≤ 4096
stack_within n fs few spaces =
    let all : stack_namings n fs ≤ length fs * 64 = sum_within (λ (f : StackFrame). times n (named_in f.space)) 64 fs
    (λ k f here. let w : length f.space ≤ 64 = spaces k f here in omega (arith, w, entries_within n f.space)) in
    omega (arith, all, few)

pub names_are_few : (n : Name) (slots : List (Option (Name × Body))) (stacks : List (List StackFrame)) (ps : List Process) → AreSmall slots stacks ps
    → outside_namings n stacks ps + namings slots n ≤ 17891584
names_are_few n slots stacks ps h =
    let objects : namings slots n ≤ length slots * 257 = objects_within n slots h.entries in
    let frames : frame_namings n stacks ≤ length stacks * 4096 = sum_within (λ (fs : List StackFrame). stack_namings n fs) 4096 stacks
    (λ q fs here.
    let e : slice_index_or stacks q [] ≡ fs = stack_some stacks q fs here in
    stack_within n fs (subst (λ (gs : List StackFrame). length gs ≤ 64) e (h.frames q)) (λ k f there. h.spaces q k f (ap (λ (gs : List StackFrame). slice_get gs k) e ∙ there))) in
    let waits : wait_namings n ps ≤ length ps * 1 = sum_within (λ (p : Process). times n (run_names p.run)) 1 ps (λ k p here. run_within n p.run) in
    omega (arith, objects, frames, waits, h.room, h.many, h.processes)
