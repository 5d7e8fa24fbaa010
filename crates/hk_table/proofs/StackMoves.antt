-- What a change of a stack is to the parts of a table, and to the state that they tell.
use Rattle.std.proofs.Common.{◌≡◌, ℕ, zero, suc, ◌<◌, ◌≤◌, List, [], ◌∷◌, length, get_or, refl, sym, ap, ◌∙◌, subst, arith}
use Rattle.std.specs.Prelude.{slice_index_or}
use Rattle.std.proofs.lemmas.List.{length-set}
use Rattle.hk_model.specs.declared.names.Name.{Name}
use Rattle.hk_model.specs.declared.names.Proc.{Proc}
use Rattle.hk_model.specs.declared.names.Inc.{Inc}
use Rattle.hk_model.specs.declared.entries.Entry.{Entry}
use Rattle.hk_model.specs.declared.entries.Entry.TheVariants.{Empty}
use Rattle.hk_model.specs.declared.objects.Process.{Process}
use Rattle.hk_model.specs.State.{process, put_slot}
use Rattle.hk_objects.specs.Shelf.{Shelf}
use Rattle.hk_queues.specs.Queued.{Queued}
use Rattle.hk_running.specs.Runners.{process_at}
use Rattle.hk_walk.specs.Remembered.{Remembered}
use Rattle.hk_spaces.specs.Slots.{with_top}
use Rattle.hk_table.specs.Stacked.{Stacked, with_top_of, AreNumbered}
use Rattle.hk_table.specs.Joined.{IsCurrent, IsJoined}
use Rattle.hk_table.proofs.Opens.{told}
use Rattle.hk_table.proofs.SlotWrites.{SameFrames, current_same, top_same, top_put}

-- what stands in a slot
pub slot_some : (es : List Entry) (at : ℕ) (e : Entry) → at < length es → e ≡ get_or es at e → e ≡ slice_index_or es at Empty
slot_some [] at e low h = absurd (omega arith)
slot_some (x ∷ es) zero e low h = h
slot_some (x ∷ es) (suc at) e low h = slot_some es at e (omega arith) h

pub slot_none : (es : List Entry) (at : ℕ) → length es ≤ at → Empty ≡ slice_index_or es at Empty
slot_none [] at past = refl
slot_none (x ∷ es) zero past = absurd (omega arith)
slot_none (x ∷ es) (suc at) past = slot_none es at (omega arith)

pub stacks_joined : (objects : Shelf) (q : Queued) (ps : List Process) (st new : Stacked) (w : Remembered) → SameFrames st.stacks new.stacks → length new.stacks ≡ length st.stacks
    → new.next ≡ st.next → IsJoined objects q ps st w → IsJoined objects q ps new w
stacks_joined objects q ps st new w same many next h = record {
  queued = h.queued;
  stacked = many ∙ h.stacked;
  current = λ n low. current_same st.stacks new.stacks (process_at ps n).current n same (h.current n low);
  known = λ n low. subst (λ (inc : Inc). (process_at ps n).current.0 < inc.0) (sym next) (h.known n low);
  right = h.right;
}

pub slot_joined : (objects : Shelf) (q : Queued) (ps : List Process) (st new : Stacked) (w : Remembered) (proc : Proc) (slot : ℕ) (entry : Entry) → IsJoined objects q ps st w
    → new ≡ record st { stacks = with_top_of st.stacks proc.0 slot entry } → IsJoined objects q ps new w
slot_joined objects q ps st new w proc slot entry h e =
    subst (λ (v : Stacked). IsJoined objects q ps v w) (sym e)
    (stacks_joined objects q ps st (record st { stacks = with_top_of st.stacks proc.0 slot entry }) w (top_same st.stacks proc.0 slot entry)
    (length-set st.stacks proc.0 (with_top (slice_index_or st.stacks proc.0 []) slot entry)) refl h)

pub slot_told : (objects : Shelf) (q : Queued) (ps : List Process) (st new : Stacked) (first_new : Name) (events limit : ℕ) (proc : Proc) (slot : ℕ) (entry : Entry)
    → AreNumbered st.stacks st.next → IsCurrent st.stacks (process_at ps proc.0).current proc.0
    → new ≡ record st { stacks = with_top_of st.stacks proc.0 slot entry }
    → told objects q ps new first_new events limit
    ≡ put_slot (told objects q ps st first_new events limit) (process (told objects q ps st first_new events limit) proc).current slot entry
slot_told objects q ps st new first_new events limit proc slot entry numbered current e =
    ap (λ (v : Stacked). told objects q ps v first_new events limit) e
    ∙ (λ i. record (told objects q ps st first_new events limit) { incarnations = top_put st.stacks st.next proc.0 (process_at ps proc.0).current slot entry numbered current i })
