-- What the state tells after a process waits, is woken or yields.
use Rattle.std.proofs.Common.{◌≡◌, ℕ, ◌<◌, List, [], ◌∷◌, ◌++◌, length, drop, Some, None, refl, sym, ap, ◌∙◌, subst, Ok}
use Rattle.std.specs.Prelude.{slice_get, slice_set}
use Rattle.hk_model.specs.declared.names.Name.{Name}
use Rattle.hk_model.specs.declared.names.Proc.{Proc}
use Rattle.hk_model.specs.declared.calls.Answer.TheVariants.{Done}
use Rattle.hk_model.specs.declared.objects.Object.{Object}
use Rattle.hk_model.specs.declared.objects.Process.{Process}
use Rattle.hk_model.specs.declared.objects.ProcessState.TheVariants.{Ready, Waiting}
use Rattle.hk_model.specs.State.{State, object, process, put_object, put_process}
use Rattle.hk_model.specs.Rule.{Outcome, token_given, yielded}
use Rattle.hk_objects.specs.Shelf.{Shelf}
use Rattle.hk_objects.specs.Slots.{name_at, AreApart}
use Rattle.hk_queues.specs.Queued.{Queued, waiters}
use Rattle.hk_running.specs.Runners.{with_run}
use Rattle.hk_table.specs.Stacked.{Stacked}
use Rattle.hk_table.proofs.Opens.{told}
use Rattle.hk_table.proofs.Whole.{list_written, waiters_read}
use Rattle.hk_table.proofs.PartReads.{missing_told}

module _ (objects : Shelf) (q : Queued) (ps : List Process) (st : Stacked) (first_new : Name) (events limit : ℕ) where
  before : State
  before = told objects q ps st first_new events limit

  -- the list of a slot was written
  pub list_told : (s : ℕ) (n : Name) (procs : List Proc) → AreApart objects.slots → name_at objects.slots s ≡ Some n → s < length q.waiting
      → told objects (record q { waiting = slice_set q.waiting s procs }) ps st first_new events limit
      ≡ put_object (told objects q ps st first_new events limit) n (record (object (told objects q ps st first_new events limit) n) { waiters = procs })
  list_told s n procs apart named low =
      λ i. record (told objects q ps st first_new events limit) { objects = list_written objects.slots q.waiting s n apart named procs low i }

  pub wait_told : (r : Queued) (new : List Process) (proc : Proc) (s : ℕ) (n : Name) → AreApart objects.slots → name_at objects.slots s ≡ Some n → s < length q.waiting
      → r ≡ record q { waiting = slice_set q.waiting s (waiters q s ++ proc ∷ []) } → new ≡ with_run ps proc (Waiting n)
      → told objects r new st first_new events limit
      ≡ put_process (put_object (told objects q ps st first_new events limit) n
      (record (object (told objects q ps st first_new events limit) n) { waiters = (object (told objects q ps st first_new events limit) n).waiters ++ proc ∷ [] })) proc
      (record (process (told objects q ps st first_new events limit) proc) { run = Waiting n })
  wait_told r new proc s n apart named low e f =
      (λ i. told objects (e i) (f i) st first_new events limit)
      ∙ ap (λ (v : State). record v { processes = with_run ps proc (Waiting n) }) (list_told s n (waiters q s ++ proc ∷ []) apart named low)
      ∙ ap (λ (procs : List Proc).
      put_process (put_object (told objects q ps st first_new events limit) n (record (object (told objects q ps st first_new events limit) n)
      { waiters = procs ++ proc ∷ [] })) proc
      (record (process (told objects q ps st first_new events limit) proc) { run = Waiting n })) (waiters_read objects.slots q.waiting s n apart named)

  pub missing_wait : (new : List Process) (proc : Proc) (n : Name) (o : Object) → ((k : ℕ) → name_at objects.slots k ≡ Some n → ⊥) → new ≡ with_run ps proc (Waiting n)
      → told objects q new st first_new events limit
      ≡ put_process (put_object (told objects q ps st first_new events limit) n o) proc (record (process (told objects q ps st first_new events limit) proc) { run = Waiting n })
  missing_wait new proc n o none f =
      ap (λ (v : List Process). told objects q v st first_new events limit) f
      ∙ ap (λ (v : State). record v { processes = with_run ps proc (Waiting n) }) (missing_told objects q ps st first_new events limit n o none)

  pub yield_told : (r : Queued) (new : List Process) (proc : Proc) → r ≡ record q { ready = q.ready ++ proc ∷ [] } → new ≡ with_run ps proc Ready
      → told objects r new st first_new events limit ≡ yielded (told objects q ps st first_new events limit) proc
  yield_told r new proc e f = λ i. told objects (e i) (f i) st first_new events limit

  pub wake_told : (m r : Queued) (new : List Process) (first : Proc) (s : ℕ) (n : Name) → AreApart objects.slots → name_at objects.slots s ≡ Some n → s < length q.waiting
      → waiters q s ≡ first ∷ drop 1 (waiters q s)
      → m ≡ record q { waiting = slice_set q.waiting s (drop 1 (waiters q s)) } → r ≡ record m { ready = m.ready ++ first ∷ [] } → new ≡ with_run ps first Ready
      → token_given (told objects q ps st first_new events limit) n (object (told objects q ps st first_new events limit) n)
      (object (told objects q ps st first_new events limit) n).waiters
      ≡ Ok (Done, told objects r new st first_new events limit)
  wake_told m r new first s n apart named low split e f g =
      let is : r ≡ record q { waiting = slice_set q.waiting s (drop 1 (waiters q s)); ready = q.ready ++ first ∷ [] } =
      f ∙ ap (λ (v : Queued). record v { ready = v.ready ++ first ∷ [] }) e in
      ap (λ (procs : List Proc).
      token_given (told objects q ps st first_new events limit) n (object (told objects q ps st first_new events limit) n) procs)
      (sym (waiters_read objects.slots q.waiting s n apart named) ∙ split)
      ∙ sym (ap (λ (v : State). let o : Outcome = Ok (Done, record v { processes = with_run ps first Ready; ready = q.ready ++ first ∷ [] }) in o)
      (list_told s n (drop 1 (waiters q s)) apart named low))
      ∙ sym (λ i. let o : Outcome = Ok (Done, told objects (is i) (g i) st first_new events limit) in o)

  pub woken_told : (v : State) (m r : Queued) (new : List Process) (first : Proc) (s : ℕ) (n : Name) → told objects q ps st first_new events limit ≡ v
      → AreApart objects.slots → name_at objects.slots s ≡ Some n → s < length q.waiting → waiters q s ≡ first ∷ drop 1 (waiters q s)
      → m ≡ record q { waiting = slice_set q.waiting s (drop 1 (waiters q s)) } → r ≡ record m { ready = m.ready ++ first ∷ [] } → new ≡ with_run ps first Ready
      → token_given v n (object v n) (object v n).waiters ≡ Ok (Done, told objects r new st first_new events limit)
  woken_told v m r new first s n is apart named low split e f g =
      subst (λ (v : State). let o : Outcome = Ok (Done, told objects r new st first_new events limit) in token_given v n (object v n) (object v n).waiters ≡ o) is
      (wake_told m r new first s n apart named low split e f g)

  pub nobody_waits : (s : ℕ) (n : Name) → AreApart objects.slots → name_at objects.slots s ≡ Some n → None ≡ slice_get (waiters q s) 0
      → (object (told objects q ps st first_new events limit) n).waiters ≡ []
  nobody_waits s n apart named none = sym (waiters_read objects.slots q.waiting s n apart named) ∙ empty (waiters q s) none where
    empty : (procs : List Proc) → None ≡ slice_get procs 0 → procs ≡ []
    empty [] e = refl
    empty (p ∷ procs) e = absurd (cc)
