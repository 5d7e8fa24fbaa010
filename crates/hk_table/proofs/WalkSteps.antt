-- The steps of a walk in a table.
use Rattle.std.proofs.Common.{◌≡◌, ℕ, zero, suc, ◌<◌, ◌≤◌, List, [], ◌∷◌, length, get_or, refl, ap, ◌∙◌, sym, Result, Ok, Err, arith}
use Rattle.std.specs.Prelude.{slice_index_or}
use Rattle.hk_model.specs.declared.names.Proc.{Proc}
use Rattle.hk_model.specs.declared.names.Name.{Name}
use Rattle.hk_model.specs.declared.entries.Cap.{Cap}
use Rattle.hk_model.specs.declared.entries.Entry.{Entry}
use Rattle.hk_model.specs.declared.entries.Entry.TheVariants.{Empty, Held, Form}
use Rattle.hk_model.specs.declared.calls.Refusal.{Refusal}
use Rattle.hk_model.specs.declared.calls.Refusal.TheVariants as refused
use Rattle.hk_model.specs.declared.objects.Process.{Process}
use Rattle.hk_model.specs.State.{State, incarnation, process}
use Rattle.hk_model.specs.Refusing.{item_at}
use Rattle.hk_model.specs.Walking.{walk_on, held}
use Rattle.hk_objects.specs.Shelf.{Shelf}
use Rattle.hk_queues.specs.Queued.{Queued}
use Rattle.hk_running.specs.Runners.{process_at}
use Rattle.hk_walk.specs.Walks.{seen}
use Rattle.hk_walk.proofs.Kept.{walk_same}
use Rattle.hk_table.specs.Stacked.{Stacked, top_of, slots_of, AreNumbered}
use Rattle.hk_table.specs.Joined.{IsCurrent}
use Rattle.hk_table.proofs.Opens.{told}
use Rattle.hk_table.proofs.Live.{current_slots}
use Rattle.hk_table.proofs.EntryLists.{lists_same}

-- a walk goes on from a capability alone
pub held_is : (first : Entry) (cap : Cap) → Ok cap ≡ held first 0 → first ≡ Held cap
held_is Empty cap e = absurd (cc)
held_is (Form form) cap e = absurd (cc)
held_is (Held other) cap e = let same : other ≡ cap = cc in ap (λ (c : Cap). Held c) same

pub walk_refused : (s : State) (first : Entry) (rest : List ℕ) (e : Refusal) → 0 < length rest → Err e ≡ held first 0 → Err e ≡ walk_on s first rest 0
walk_refused s first [] e some h = absurd (omega arith)
walk_refused s Empty (at ∷ rest) e some h = let same : e ≡ refused.Empty 0 = cc in ap (λ (r : Refusal). let v : Result Entry Refusal = Err r in v) same
walk_refused s (Form form) (at ∷ rest) e some h = let same : e ≡ refused.NotCap 0 = cc in ap (λ (r : Refusal). let v : Result Entry Refusal = Err r in v) same
walk_refused s (Held cap) (at ∷ rest) e some h = absurd (cc)

-- over the slots it goes as over the state
pub walk_told : (objects : Shelf) (q : Queued) (ps : List Process) (st : Stacked) (first_new : Name) (events limit : ℕ) (first : Entry) (cap : Cap) (rest : List ℕ)
    (r : Result Entry Refusal)
    → Ok cap ≡ held first 0 → r ≡ walk_on (seen objects.slots) (Held cap) rest 0 → r ≡ walk_on (told objects q ps st first_new events limit) first rest 0
walk_told objects q ps st first_new events limit first cap rest r h e =
    e ∙ walk_same (seen objects.slots) (told objects q ps st first_new events limit) (lists_same objects.slots q.waiting) (Held cap) rest 0
    ∙ ap (λ (x : Entry). walk_on (told objects q ps st first_new events limit) x rest 0) (sym (held_is first cap h))

-- what stands in a slot
pub item_some : (es : List Entry) (at step : ℕ) (e : Entry) → at < length es → e ≡ get_or es at e → Ok e ≡ item_at es at step
item_some [] at step e low h = absurd (omega arith)
item_some (x ∷ es) zero step e low h = ap (λ (y : Entry). let r : Result Entry Refusal = Ok y in r) h
item_some (x ∷ es) (suc at) step e low h = item_some es at step e (omega arith) h

pub item_none : (es : List Entry) (at step : ℕ) → length es ≤ at → Err (refused.Range step) ≡ item_at es at step
item_none [] at step past = refl
item_none (x ∷ es) zero step past = absurd (omega arith)
item_none (x ∷ es) (suc at) step past = item_none es at step (omega arith)

pub slots_told : (objects : Shelf) (q : Queued) (ps : List Process) (st : Stacked) (first_new : Name) (events limit : ℕ) (proc : Proc) (slots : List Entry)
    → AreNumbered st.stacks st.next
    → IsCurrent st.stacks (process_at ps proc.0).current proc.0 → slots ≡ slots_of (top_of (slice_index_or st.stacks proc.0 []))
    → slots ≡ (incarnation (told objects q ps st first_new events limit) (process (told objects q ps st first_new events limit) proc).current).slots
slots_told objects q ps st first_new events limit proc slots numbered current e =
    e ∙ sym (current_slots st.stacks st.next proc.0 (process_at ps proc.0).current numbered current)
