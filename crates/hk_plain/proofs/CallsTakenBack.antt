-- What a call saves leads back over it, for the calls by which nothing goes of itself.
use Rattle.std.proofs.Common.{◌≡◌, ℕ, ◌+◌, ◌-◌, List, [], ◌∷◌, ◌++◌, Bool, true, false, Some, None, Result, Ok, Err, refl, sym, ap, if◌then◌else◌, not}
use Rattle.std.specs.Prelude.{IfOk, nat_lt, slice_set, slice_index_or, ⊤}
use Rattle.std.specs.Map.{lookup}
use Rattle.hk_model.specs.declared.names.Name.{Name}
use Rattle.hk_model.specs.declared.names.Inc.{Inc}
use Rattle.hk_model.specs.declared.names.Proc.{Proc}
use Rattle.hk_model.specs.declared.names.Slot.{Slot}
use Rattle.hk_model.specs.declared.entries.Cap.{Cap}
use Rattle.hk_model.specs.declared.entries.Entry.{Entry}
use Rattle.hk_model.specs.declared.entries.Entry.TheVariants.{Empty}
use Rattle.hk_model.specs.declared.calls.Call.{Call}
use Rattle.hk_model.specs.declared.calls.Call.TheVariants as call
use Rattle.hk_model.specs.declared.calls.Refusal.{Refusal}
use Rattle.hk_model.specs.declared.calls.Refusal.TheVariants as refused
use Rattle.hk_model.specs.declared.calls.What8.TheVariants as full
use Rattle.hk_model.specs.declared.calls.Answer.{Answer}
use Rattle.hk_model.specs.declared.calls.Answer.TheVariants.{Done, Waits}
use Rattle.hk_model.specs.declared.objects.Object.{Object}
use Rattle.hk_model.specs.declared.objects.ProcessState.TheVariants.{Ready, Waiting}
use Rattle.hk_rights.specs.Rights.{has, unconf_right}
use Rattle.hk_model.specs.Limits.{token_limit}
use Rattle.hk_model.specs.State.{State, object, process, put_object, put_process, same_inc}
use Rattle.hk_model.specs.Refusing.{◌>>=◌, unless}
use Rattle.hk_model.specs.Targets.{SEMAPHORE, is_of_type, MODIFY+A0, MODIFY+A1, target}
use Rattle.hk_model.specs.Rule.{Outcome, outcome, token_given, yielded, called_incarnation, enter, get_word, put_word, add_word, word_count, load_entry, store_entry}
use Rattle.hk_model.specs.Rule.{append_entry}
use Rattle.hk_model.specs.Rule.{erase_entry, drop_slot, restrict_slot, look, make_template, merge_cap, enter_procedure, take_token, give_token}
use Rattle.hk_model.proofs.TestLemmas.{then_is, and_is, if_ok}
use Rattle.hk_plain.specs.declared.changes.Part.{Part}
use Rattle.hk_plain.specs.declared.changes.Part.TheVariants.{Word, Item, NewWord, NewItem, Tokens, NewWaiter, FirstWaiter}
use Rattle.hk_plain.specs.declared.changes.Turn.TheVariants.{Joined}
use Rattle.hk_plain.specs.declared.changes.Saved.{Saved}
use Rattle.hk_plain.specs.Changes.{unsaved, call_saved, part_saved, wait_saved, token_saved, give_saved, nothing_saved, process_saved, parts_back, processes_back}
use Rattle.hk_plain.specs.Changes.{ready_back}
use Rattle.hk_plain.proofs.WritesTakenBack.{set_read, last_off, rebuilt, part_put, object_back, slot_back, process_put, entered_back_to}

-- what an outcome leaves leads back, where there is one
abbrev pub LeadsBack : State → Saved → Outcome → Type 0
LeadsBack s v o = IfOk o (λ f. unsaved v f.1 ≡ s)

part_leads : (s : State) (r : Result Cap Refusal) (part : Object → Part) (next : Cap → Outcome)
    → ((cap : Cap) → IfOk (next cap) (λ f. unsaved (part_saved s (Ok cap) part) f.1 ≡ s)) → IfOk (r >>= next) (λ f. unsaved (part_saved s r part) f.1 ≡ s)
part_leads s (Ok cap) part next h = h cap
part_leads s (Err e) part next h = tt

-- ---- the writes of objects

module _ (s : State) (cap : Cap) where
  abbrev was : Object
  was = object s cap.name

  word_written : (at word : ℕ)
      → unsaved (part_saved s (Ok cap) (λ (o : Object). Word at (slice_index_or o.words at 0))) (put_object s cap.name (record was { words = slice_set was.words at word })) ≡ s
  word_written at word =
      object_back s cap.name (Word at (slice_index_or was.words at 0)) (record was { words = slice_set was.words at word })
      (ap (λ (words : List ℕ). record was { words = words }) (set_read was.words at word 0))

  word_added : (word : ℕ) → unsaved (part_saved s (Ok cap) (λ (o : Object). NewWord)) (put_object s cap.name (record was { words = was.words ++ word ∷ [] })) ≡ s
  word_added word =
      object_back s cap.name NewWord (record was { words = was.words ++ word ∷ [] }) (ap (λ (words : List ℕ). record was { words = words }) (last_off was.words word))

  item_written : (at : ℕ) (entry : Entry)
      → unsaved (part_saved s (Ok cap) (λ (o : Object). Item at (slice_index_or o.entries at Empty)))
      (put_object s cap.name (record was { entries = slice_set was.entries at entry })) ≡ s
  item_written at entry =
      object_back s cap.name (Item at (slice_index_or was.entries at Empty)) (record was { entries = slice_set was.entries at entry })
      (ap (λ (entries : List Entry). record was { entries = entries }) (set_read was.entries at entry Empty))

  item_added : (entry : Entry) → unsaved (part_saved s (Ok cap) (λ (o : Object). NewItem)) (put_object s cap.name (record was { entries = was.entries ++ entry ∷ [] })) ≡ s
  item_added entry =
      object_back s cap.name NewItem (record was { entries = was.entries ++ entry ∷ [] })
      (ap (λ (entries : List Entry). record was { entries = entries }) (last_off was.entries entry))

-- ---- P and V

-- a token is taken, or one more waits
module _ (s : State) (proc : Proc) (cap : Cap) where
  abbrev pub taken : Bool → Answer × State
  taken b = elim b as (λ _. Answer × State) [
    | true ↦ (Done, put_object s cap.name (record (object s cap.name) { count = (object s cap.name).count - 1 }))
    | false ↦ (
      Waits,
      put_process (put_object s cap.name (record (object s cap.name) { waiters = (object s cap.name).waiters ++ proc ∷ [] })) proc
          (record (process s proc) { run = Waiting cap.name }),
    )
  ]

  abbrev pub wait_part : Bool → Saved
  wait_part b =
      if b then record nothing_saved { part = Some (cap.name, Tokens (object s cap.name).count) } else record (process_saved s proc) { part = Some (cap.name, NewWaiter) }

  token_taken : (b : Bool) → unsaved (wait_part b) (taken b).1 ≡ s
  token_taken true =
      object_back s cap.name (Tokens (object s cap.name).count) (record (object s cap.name) { count = (object s cap.name).count - 1 }) refl
  token_taken false =
      let o : Object = record (object s cap.name) { waiters = (object s cap.name).waiters ++ proc ∷ [] } in
      rebuilt s (parts_back (Some (cap.name, NewWaiter)) (put_object s cap.name o).objects) s.incarnations
      (processes_back (Some (proc, process s proc)) (put_process s proc (record (process s proc) { run = Waiting cap.name })).processes) s.ready s.next_name s.next_inc
      (part_put s cap.name NewWaiter o (ap (λ (waiters : List Proc). record (object s cap.name) { waiters = waiters }) (last_off (object s cap.name).waiters proc)))
      refl (process_put s proc (record (process s proc) { run = Waiting cap.name })) refl refl refl

take_leads : (s : State) (proc : Proc) (r : Result Cap Refusal) → LeadsBack s (wait_saved s proc r) (r >>= (λ cap. Ok (taken s proc cap (nat_lt 0 (object s cap.name).count))))
take_leads s proc (Ok cap) = token_taken s proc cap (nat_lt 0 (object s cap.name).count)
take_leads s proc (Err e) = tt

-- a token is given, or the first that waits goes on
token_back : (s : State) (name : Name) (waiters : List Proc) → (object s name).waiters ≡ waiters
    → LeadsBack s (token_saved s name waiters) (token_given s name (object s name) waiters)
token_back s name [] none =
    let o : Object = object s name in
    and_is (λ f. unsaved (token_saved s name []) f.1 ≡ s) (unless (nat_lt o.count token_limit) (refused.Full full.Tokens))
    (Ok (Done, put_object s name (record o { count = o.count + 1 }))) (λ u h. object_back s name (Tokens o.count) (record o { count = o.count + 1 }) refl)
token_back s name (first ∷ rest) waiting =
    let o : Object = record (object s name) { waiters = rest } in
    rebuilt s (parts_back (Some (name, FirstWaiter first)) (put_object s name o).objects) s.incarnations
    (processes_back (Some (first, process s first)) (put_process s first (record (process s first) { run = Ready })).processes) (ready_back Joined (s.ready ++ first ∷ []))
    s.next_name s.next_inc
    (part_put s name (FirstWaiter first) o (ap (λ (waiters : List Proc). record (object s name) { waiters = waiters }) (sym waiting)))
    refl (process_put s first (record (process s first) { run = Ready })) (last_off s.ready first) refl refl

give_leads : (s : State) (r : Result Cap Refusal) → LeadsBack s (give_saved s r) (r >>= (λ cap. token_given s cap.name (object s cap.name) (object s cap.name).waiters))
give_leads s (Ok cap) = token_back s cap.name (object s cap.name).waiters refl
give_leads s (Err e) = tt

yield_back : (s : State) (proc : Proc) → unsaved (record (process_saved s proc) { turn = Joined }) (yielded s proc) ≡ s
yield_back s proc =
    rebuilt s s.objects s.incarnations (processes_back (Some (proc, process s proc)) (put_process s proc (record (process s proc) { run = Ready })).processes)
    (ready_back Joined (s.ready ++ proc ∷ [])) s.next_name s.next_inc refl refl (process_put s proc (record (process s proc) { run = Ready })) (last_off s.ready proc) refl refl

-- ---- every call by which nothing goes of itself

abbrev pub NothingGoes : Call → Type 0
NothingGoes (call.Create by into) = ⊥
NothingGoes (call.Copy of into) = ⊥
NothingGoes (call.Leave give) = ⊥
NothingGoes c = ⊤

-- no live incarnation has the number that the next one takes
abbrev pub IsNewInc : State → Type 0
IsNewInc s = lookup (same_inc s.next_inc) s.incarnations ≡ None

enter_leads : (s : State) (proc : Proc) (inc : Inc) (path args : List ℕ) (into : Slot) → IsNewInc s
    → LeadsBack s (record (process_saved s proc) { entered = true }) (enter_procedure s proc inc path args into)
unfolding enter_procedure
enter_leads s proc inc path args into new = search (and_is, then_is, left) depth 12
  where
    left : (cap : Cap) (slots : List Entry)
        → unsaved (record (process_saved s proc) { entered = true }) (enter s (called_incarnation proc cap.name inc into (not (has cap.rights unconf_right)) slots)) ≡ s
    left cap slots = entered_back_to s (called_incarnation proc cap.name inc into (not (has cap.rights unconf_right)) slots) new

pub call_leads : (s : State) (proc : Proc) (inc : Inc) (c : Call) → NothingGoes c → IsNewInc s → LeadsBack s (call_saved s proc inc c) (outcome s proc inc c)
unfolding get_word put_word add_word word_count load_entry store_entry append_entry erase_entry drop_slot restrict_slot look make_template merge_cap take_token give_token
call_leads s proc inc (call.Get of at) goes new = search (then_is)
call_leads s proc inc (call.Put of at word) goes new = search (part_leads, and_is, word_written)
call_leads s proc inc (call.Add of word) goes new = search (part_leads, and_is, word_added)
call_leads s proc inc (call.Length of) goes new = search (then_is)
call_leads s proc inc (call.Load from into) goes new = search (then_is, slot_back)
call_leads s proc inc (call.Store list at from) goes new = search (then_is, part_leads, and_is, item_written)
call_leads s proc inc (call.Append list from) goes new = search (then_is, part_leads, and_is, item_added)
call_leads s proc inc (call.Erase list at) goes new = search (part_leads, and_is, item_written)
call_leads s proc inc (call.Drop slot) goes new = search (then_is, slot_back)
call_leads s proc inc (call.Restrict slot keep) goes new = search (then_is, slot_back)
call_leads s proc inc (call.Look of) goes new = search (then_is)
call_leads s proc inc (call.MakeTemplate of kind into) goes new = search (then_is, slot_back)
call_leads s proc inc (call.Create by into) goes new = absurd goes
call_leads s proc inc (call.Merge with cap into) goes new = search (then_is, slot_back) depth 10
call_leads s proc inc (call.Copy of into) goes new = absurd goes
call_leads s proc inc (call.Enter path args into) goes new = enter_leads s proc inc path args into new
call_leads s proc inc (call.Leave give) goes new = absurd goes
call_leads s proc inc (call.P of) goes new = take_leads s proc (target s inc of (is_of_type SEMAPHORE) MODIFY+A0)
call_leads s proc inc (call.V of) goes new = give_leads s (target s inc of (is_of_type SEMAPHORE) MODIFY+A1)
call_leads s proc inc call.Yield goes new = yield_back s proc

pub call_back : (s : State) (proc : Proc) (inc : Inc) (c : Call) (answer : Answer) (after : State) → NothingGoes c → IsNewInc s
    → outcome s proc inc c ≡ Ok (answer, after) → unsaved (call_saved s proc inc c) after ≡ s
call_back s proc inc c answer after goes new is =
    if_ok (λ (f : Answer × State). unsaved (call_saved s proc inc c) f.1 ≡ s) (outcome s proc inc c) (answer, after) (call_leads s proc inc c goes new) is
