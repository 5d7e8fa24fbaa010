-- What the lines of processor 0 keep: the limit, that each ready process stands in the list of the ready ones, and that no
-- process runs on another processor. Each line is one event more.
use Rattle.std.proofs.Common.{◌≡◌, ◌≢◌, ℕ, zero, suc, ◌+◌, ◌-◌, ◌<◌, List, [], ◌∷◌, ◌++◌, Bool, true, false, Option, Some, None, Ok, Err, refl, sym, ◌∙◌, ap, subst, arith, inl}
use Rattle.std.proofs.Common.{inr}
use Rattle.std.specs.Prelude.{◌⊎◌, IfOk, slice_set, slice_get, nat_lt, not, ◌==◌, length, filter}
use Rattle.std.specs.Option.{unwrap_or}
use Rattle.hk_model.specs.declared.names.Inc.{Inc}
use Rattle.hk_model.specs.declared.names.Name.{Name}
use Rattle.hk_model.specs.declared.names.Proc.{Proc}
use Rattle.hk_model.specs.declared.names.Cpu.{Cpu}
use Rattle.hk_model.specs.declared.names.Slot.{Slot}
use Rattle.hk_model.specs.declared.entries.Cap.{Cap}
use Rattle.hk_model.specs.declared.entries.Entry.{Entry}
use Rattle.hk_model.specs.declared.calls.Call.{Call}
use Rattle.hk_model.specs.declared.calls.Call.TheVariants as call
use Rattle.hk_model.specs.declared.calls.Answer.{Answer}
use Rattle.hk_model.specs.declared.calls.Answer.TheVariants.{Done, Waits}
use Rattle.hk_model.specs.declared.calls.Refusal.TheVariants as refused
use Rattle.hk_model.specs.declared.calls.What8.TheVariants as full
use Rattle.hk_model.specs.declared.lines.Line.{Line}
use Rattle.hk_model.specs.declared.objects.Object.{Object}
use Rattle.hk_model.specs.declared.objects.Incarnation.{Incarnation}
use Rattle.hk_model.specs.declared.objects.Process.{Process}
use Rattle.hk_model.specs.declared.objects.ProcessState.{ProcessState}
use Rattle.hk_model.specs.declared.objects.ProcessState.TheVariants.{Ready, Running, Waiting, Ended}
use Rattle.hk_model.specs.declared.world.Task.{Task}
use Rattle.hk_model.specs.Limits.{token_limit}
use Rattle.hk_model.specs.WorldValue.{WorldValue}
use Rattle.hk_model.specs.Opening.{opening, all_ready, proc_numbers}
use Rattle.hk_model.specs.State.{State, object, process, put_object, put_slot, put_process, add_object}
use Rattle.hk_model.specs.Refusing.{unless}
use Rattle.hk_model.specs.Targets.{SEMAPHORE, MODIFY+A0, is_of_type, target}
use Rattle.hk_model.specs.Keeping.{restricted}
use Rattle.hk_model.specs.Rule.{Outcome, outcome, settled, counted, enter, give_to, leave_to, leave, enter_procedure, token_given, take_token, give_token, get_word, put_word}
use Rattle.hk_model.specs.Rule.{add_word, word_count, load_entry, store_entry, append_entry, erase_entry, drop_slot, restrict_slot, look, make_template, create_object, merge_cap}
use Rattle.hk_model.specs.Rule.{copy_object}
use Rattle.hk_model.proofs.TestLemmas.{then_is, and_is}
use Rattle.hk_model.proofs.Steps.{EachStep, given_to}

-- the list has the process of this number
abbrev pub Has : List Proc → ℕ → Type 0
Has [] n = ⊥
Has (q ∷ qs) n = (q.0 ≡ n) ⊎ Has qs n

-- a process of this number that does this is in its place: one that is ready stands in the list, and one that runs is on processor 0
abbrev pub IsPlaced : List Proc → ℕ → ProcessState → Type 0
IsPlaced ready n Ready = Has ready n
IsPlaced ready n (Running cpu) = cpu.0 ≡ 0
IsPlaced ready n (Waiting at) = Unit {0}
IsPlaced ready n Ended = Unit {0}

-- the processes from number n on are in their places
abbrev pub ArePlaced : List Proc → ℕ → List Process → Type 0
ArePlaced ready n [] = Unit {0}
ArePlaced ready n (p ∷ ps) = IsPlaced ready n p.run × ArePlaced ready (n + 1) ps

-- all processes of a state are
abbrev pub Placed : State → Type 0
Placed s = ArePlaced s.ready 0 s.processes

-- a list that has all of another but this number
abbrev HasOthers : ℕ → List Proc → List Proc → Type 0
HasOthers t ready after = (n : ℕ) → n ≢ t → Has ready n → Has after n

has_push : (ready : List Proc) (p : Proc) → Has (ready ++ p ∷ []) p.0
has_push [] p = inl refl
has_push (q ∷ qs) p = inr (has_push qs p)

has_more : (ready : List Proc) (p : Proc) (n : ℕ) → Has ready n → Has (ready ++ p ∷ []) n
has_more [] p n h = absurd h
has_more (q ∷ qs) p n (inl h) = inl h
has_more (q ∷ qs) p n (inr h) = inr (has_more qs p n h)

has_rest : (first : Proc) (rest : List Proc) (n : ℕ) → n ≢ first.0 → Has (first ∷ rest) n → Has rest n
has_rest first rest n apart (inl h) = absurd (apart (sym h))
has_rest first rest n apart (inr h) = h

placed_more : (ready after : List Proc) (n : ℕ) (run : ProcessState) → (Has ready n → Has after n) → IsPlaced ready n run → IsPlaced after n run
placed_more ready after n Ready f h = f h
placed_more ready after n (Running cpu) f h = h
placed_more ready after n (Waiting at) f h = tt
placed_more ready after n Ended f h = tt

placed_above : (t : ℕ) (ready after : List Proc) (n : ℕ) (ps : List Process) → t < n → HasOthers t ready after → ArePlaced ready n ps → ArePlaced after n ps
placed_above t ready after n [] low f h = tt
placed_above t ready after n (p ∷ ps) low f h =
    (placed_more ready after n p.run (f n (λ e. omega (arith, low, e))) h.0, placed_above t ready after (n + 1) ps (omega (arith, low)) f h.1)

-- one process changes
placed_set : (t : ℕ) (ready after : List Proc) (n : ℕ) (ps : List Process) (k : ℕ) (new : Process) → n + k ≡ t → HasOthers t ready after → IsPlaced after t new.run
    → ArePlaced ready n ps → ArePlaced after n (slice_set ps k new)
placed_set t ready after n [] k new e f g h = tt
placed_set t ready after n (p ∷ ps) zero new e f g h =
    let same : n ≡ t = omega (arith, e) in
    (rw same g, placed_above t ready after (n + 1) ps (omega (arith, e)) f h.1)
placed_set t ready after n (p ∷ ps) (suc k) new e f g h =
    (placed_more ready after n p.run (f n (λ x. omega (arith, e, x))) h.0, placed_set t ready after (n + 1) ps k new (omega (arith, e)) f g h.1)

-- one process is in another incarnation
placed_current : (ready : List Proc) (n : ℕ) (ps : List Process) (k : ℕ) (d : Process) (current : Inc) → ArePlaced ready n ps
    → ArePlaced ready n (slice_set ps k (record (unwrap_or (slice_get ps k) d) { current = current }))
placed_current ready n [] k d current h = tt
placed_current ready n (p ∷ ps) zero d current h = (h.0, h.1)
placed_current ready n (p ∷ ps) (suc k) d current h = (h.0, placed_current ready (n + 1) ps k d current h.1)

-- a change that keeps the limit and the places
pub record Kept (s t : State) : Type 0 where
  pub limit : t.limit ≡ s.limit
  pub placed : Placed s → Placed t

kept_self : (s : State) → Kept s s
kept_self s = record { limit = refl; placed = λ h. h }

kept_object : (s u : State) (name : Name) (o : Object) → Kept s u → Kept s (put_object u name o)
kept_object s u name o h = record { limit = h.limit; placed = h.placed }

kept_added : (s u : State) (o : Object) → Kept s u → Kept s (add_object u o)
kept_added s u o h = record { limit = h.limit; placed = h.placed }

kept_slot : (s u : State) (inc : Inc) (slot : ℕ) (e : Entry) → Kept s u → Kept s (put_slot u inc slot e)
kept_slot s u inc slot e h = record { limit = h.limit; placed = h.placed }

kept_incarnations : (s : State) (incarnations : List (Inc × Incarnation)) → Kept s (record s { incarnations = incarnations })
kept_incarnations s incarnations = record { limit = refl; placed = λ h. h }

-- a process that ends or waits
kept_stops : (s u : State) (proc : Proc) (new : Process) → ((ready : List Proc) (n : ℕ) → IsPlaced ready n new.run) → Kept s u → Kept s (put_process u proc new)
kept_stops s u proc new stops h = record {
  limit = h.limit;
  placed = λ p. placed_set proc.0 u.ready u.ready 0 u.processes proc.0 new (omega arith) (λ n apart x. x) (stops u.ready proc.0) (h.placed p);
}

-- a process that becomes ready
kept_ready : (s u : State) (proc : Proc) (current : Inc) → Kept s u
    → Kept s (record (put_process u proc (record { run = Ready; current = current })) { ready = u.ready ++ proc ∷ [] })
kept_ready s u proc current h = record {
  limit = h.limit;
  placed =
      λ p. placed_set proc.0 u.ready (u.ready ++ proc ∷ []) 0 u.processes proc.0 (record { run = Ready; current = current }) (omega arith) (λ n apart x. has_more u.ready proc n x)
      (has_push u.ready proc) (h.placed p);
}

abbrev IsKept : State → Outcome → Type 0
IsKept s o = IfOk o (λ f. Kept s f.1)

token_kept : (s : State) (name : Name) (o : Object) (waiters : List Proc) → IsKept s (token_given s name o waiters)
token_kept s name o [] =
    and_is (λ f. Kept s f.1) (unless (nat_lt o.count token_limit) (refused.Full full.Tokens)) (Ok (Done, put_object s name (record o { count = o.count + 1 })))
    (λ u g. kept_object s s name (record o { count = o.count + 1 }) (kept_self s))
token_kept s name o (first ∷ rest) =
    kept_ready s (put_object s name (record o { waiters = rest })) first (process s first).current (kept_object s s name (record o { waiters = rest }) (kept_self s))

take_kept : (s : State) (proc : Proc) (inc : Inc) (path : List ℕ) → IsKept s (take_token s proc inc path)
unfolding take_token
take_kept s proc inc path =
    then_is (λ f. Kept s f.1) (target s inc path (is_of_type SEMAPHORE) MODIFY+A0) (λ c. Ok (elim (nat_lt 0 (object s c.name).count) [
      | true ↦ (Done, put_object s c.name (record (object s c.name) { count = (object s c.name).count - 1 }))
      | false ↦ (
        Waits,
        put_process (put_object s c.name (record (object s c.name) { waiters = (object s c.name).waiters ++ proc ∷ [] })) proc
            (record (process s proc) { run = Waiting c.name }),
      )
    ])) (λ c g. by c (nat_lt 0 (object s c.name).count))
  where
    by : (c : Cap) (b : Bool) → Kept s (elim b as (λ x. Answer × State) [
      | true ↦ (Done, put_object s c.name (record (object s c.name) { count = (object s c.name).count - 1 }))
      | false ↦ (
        Waits,
        put_process (put_object s c.name (record (object s c.name) { waiters = (object s c.name).waiters ++ proc ∷ [] })) proc
            (record (process s proc) { run = Waiting c.name }),
      )
    ]).1
    by c true = kept_object s s c.name (record (object s c.name) { count = (object s c.name).count - 1 }) (kept_self s)
    by c false =
        kept_stops s (put_object s c.name (record (object s c.name) { waiters = (object s c.name).waiters ++ proc ∷ [] })) proc (record (process s proc) { run = Waiting c.name })
        (λ ready n. tt) (kept_object s s c.name (record (object s c.name) { waiters = (object s c.name).waiters ++ proc ∷ [] }) (kept_self s))

entered_kept : (s : State) (new : Incarnation) → Kept s (enter s new)
entered_kept s new = record {
  limit = refl;
  placed = λ p. placed_current s.ready 0 s.processes new.proc.0 (record { run = Ended; current = record { 0 = 0 } }) s.next_inc p;
}

enter_kept : (s : State) (proc : Proc) (inc : Inc) (path args : List ℕ) (into : Slot) → IsKept s (enter_procedure s proc inc path args into)
unfolding enter_procedure
enter_kept s proc inc path args into = search (then_is, and_is, entered_kept) depth 12

gave_kept : (s u : State) (inc : Inc) (slot : ℕ) (c : Option Cap) → Kept s u → Kept s (give_to u inc slot c)
gave_kept s u inc slot None h = h
gave_kept s u inc slot (Some c) h = record { limit = h.limit; placed = h.placed }

left_kept : (s : State) (proc : Proc) (incarnations : List (Inc × Incarnation)) (caller : Option Inc) (slot : ℕ) (c : Option Cap)
    → Kept s (leave_to (record s { incarnations = incarnations }) proc caller slot c)
left_kept s proc incarnations None slot c =
    kept_stops s (record s { incarnations = incarnations }) proc (record (process s proc) { run = Ended }) (λ ready n. tt) (kept_incarnations s incarnations)
left_kept s proc incarnations (Some k) slot c =
    gave_kept s (put_process (record s { incarnations = incarnations }) proc (record (process s proc) { current = k })) k slot c
    (record { limit = refl; placed = λ p. placed_current s.ready 0 s.processes proc.0 (record { run = Ended; current = record { 0 = 0 } }) k p })

leave_kept : (s : State) (proc : Proc) (inc : Inc) (give : Option Slot) → IsKept s (leave s proc inc give)
unfolding leave
leave_kept s proc inc give = search (then_is, left_kept)

-- every call
outcome_kept : (s : State) (proc : Proc) (inc : Inc) (c : Call) → IsKept s (outcome s proc inc c)
unfolding get_word put_word add_word word_count load_entry store_entry append_entry erase_entry drop_slot restrict_slot look make_template create_object
    merge_cap copy_object give_token
outcome_kept s proc inc (call.Get of at) = search (then_is, kept_self)
outcome_kept s proc inc (call.Put of at word) = search (then_is, and_is, kept_self, kept_object)
outcome_kept s proc inc (call.Add of word) = search (then_is, and_is, kept_self, kept_object)
outcome_kept s proc inc (call.Length of) = search (then_is, kept_self)
outcome_kept s proc inc (call.Load from into) = search (then_is, kept_self, kept_slot)
outcome_kept s proc inc (call.Store list at from) = search (then_is, and_is, kept_self, kept_object) depth 8
outcome_kept s proc inc (call.Append list from) = search (then_is, and_is, kept_self, kept_object) depth 8
outcome_kept s proc inc (call.Erase list at) = search (then_is, and_is, kept_self, kept_object)
outcome_kept s proc inc (call.Drop slot) = search (then_is, kept_self, kept_slot)
outcome_kept s proc inc (call.Restrict slot keep) = search (then_is, kept_self, kept_slot)
outcome_kept s proc inc (call.Look of) = search (then_is, kept_self)
outcome_kept s proc inc (call.MakeTemplate of kind into) = search (then_is, kept_self, kept_slot)
outcome_kept s proc inc (call.Create by into) = search (then_is, and_is, kept_self, kept_added, kept_slot) depth 9
outcome_kept s proc inc (call.Merge with c into) = search (then_is, kept_self, kept_slot) depth 10
outcome_kept s proc inc (call.Copy of into) = search (then_is, and_is, kept_self, kept_added, kept_slot) depth 9
outcome_kept s proc inc (call.Enter path args into) = enter_kept s proc inc path args into
outcome_kept s proc inc (call.Leave give) = leave_kept s proc inc give
outcome_kept s proc inc (call.P of) = take_kept s proc inc of
outcome_kept s proc inc (call.V of) = search (then_is, token_kept)
outcome_kept s proc inc call.Yield = kept_ready s s proc (process s proc).current (kept_self s)

-- a line keeps the limit, and where it is of processor 0 the places
pub record GoesOn (s : State) (line : Line) (t : State) : Type 0 where
  pub limit : t.limit ≡ s.limit
  pub placed : line.cpu.0 ≡ 0 → Placed s → Placed t

goes_on : (s : State) (line : Line) (u : State) → Kept s u → GoesOn s line (counted (s.events + 1) u)
goes_on s line u h = record { limit = h.limit; placed = λ e p. h.placed p }

-- what vanishes is no process
goes_restricted : (s : State) (line : Line) (u : State) → Kept s u → GoesOn s line (counted (s.events + 1) (restricted u))
goes_restricted s line u h = record { limit = h.limit; placed = λ e p. h.placed p }

call_goes : (s : State) (line : Line) (o : Outcome) → IsKept s o → GoesOn s line (settled s o).1
call_goes s line (Ok f) h = goes_restricted s line f.1 h
call_goes s line (Err r) h = goes_on s line s (kept_self s)

dispatch_goes : (s : State) (line : Line) (cpu : Cpu) (first : Proc) (rest : List Proc) → line.cpu ≡ cpu → s.ready ≡ first ∷ rest → GoesOn s line (given_to s cpu first rest)
dispatch_goes s line cpu first rest c r = record {
  limit = refl;
  placed =
      λ e p. placed_set first.0 s.ready rest 0 s.processes first.0 (record (process s first) { run = Running cpu }) (omega arith)
      (λ n apart h. has_rest first rest n apart (subst (λ ready. Has ready n) r h)) (ap (λ (x : Cpu). x.0) (sym c) ∙ e) p;
}

pub each_goes : EachStep GoesOn
each_goes = record {
  calls = λ s cpu proc c r. call_goes s _ (outcome s proc (process s proc).current c) (outcome_kept s proc (process s proc).current c);
  halts =
      λ s cpu proc r. goes_restricted s _ (put_process (record s { incarnations = filter (λ e. not (e.1.proc.0 == proc.0)) s.incarnations }) proc
      (record (process s proc) { run = Ended })) (kept_stops s (record s { incarnations = filter (λ e. not (e.1.proc.0 == proc.0)) s.incarnations }) proc
      (record (process s proc) { run = Ended }) (λ ready n. tt) (kept_incarnations s (filter (λ e. not (e.1.proc.0 == proc.0)) s.incarnations)));
  dispatches = λ s cpu first rest r. dispatch_goes s _ cpu first rest refl r;
}

-- in the opening all processes are ready

all_in : (n k : ℕ) (ts : List Task) → k < length ts → Has (proc_numbers n ts) (n + k)
all_in n k [] h = absurd (omega (arith, h))
all_in n zero (t ∷ ts) h = inl (omega arith)
all_in n (suc k) (t ∷ ts) h = let e : n + suc k ≡ n + 1 + k = omega arith in inr (rw e (all_in (n + 1) k ts (omega (arith, h))))

all_placed : (ready : List Proc) (n : ℕ) (ts : List Task) → ((k : ℕ) → k < length ts → Has ready (n + k)) → ArePlaced ready n (all_ready n ts)
all_placed ready n [] h = tt
all_placed ready n (t ∷ ts) h =
    let here : n + 0 ≡ n = omega arith in (
      subst (Has ready) here (h 0 (omega arith)),
      all_placed ready (n + 1) ts
          (λ k b. let e : n + suc k ≡ n + 1 + k = omega arith in subst (Has ready) e (h (suc k) (omega (arith, b)))),
    )

pub opening_placed : (w : WorldValue) → Placed (opening w)
unfolding opening
opening_placed w = all_placed (proc_numbers 0 w.tasks) 0 w.tasks (λ k b. all_in 0 k w.tasks b)
