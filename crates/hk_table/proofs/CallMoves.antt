-- What a call and a return are to the parts of a table, and to the state that they tell.
use Rattle.std.proofs.Common.{◌≡◌, ℕ, ◌-◌, ◌<◌, ◌≤◌, Bool, true, false, cond, List, [], ◌∷◌, ◌++◌}
use Rattle.std.proofs.Common.{length, set, Option, Some, None, refl, sym, ap, ◌∙◌, subst, arith, ⊎_elim, option_map}
use Rattle.std.specs.Prelude.{slice_set, slice_index_or}
use Rattle.std.specs.Map.{lookup, remove_entry}
use Rattle.std.specs.Option.{unwrap_or}
use Rattle.std.specs.BTreeMap.{insert_entry}
use Rattle.std.proofs.lemmas.List.{length-set}
use Rattle.std.proofs.lemmas.Bool.{cases_eq}
use Rattle.hk_model.specs.declared.names.Name.{Name}
use Rattle.hk_model.specs.declared.names.Inc.{Inc}
use Rattle.hk_model.specs.declared.names.Proc.{Proc}
use Rattle.hk_model.specs.declared.names.Slot.{Slot}
use Rattle.hk_model.specs.declared.entries.Entry.{Entry}
use Rattle.hk_model.specs.declared.objects.Incarnation.{Incarnation}
use Rattle.hk_model.specs.declared.objects.Process.{Process}
use Rattle.hk_model.specs.declared.objects.ProcessState.TheVariants.{Ended}
use Rattle.hk_model.specs.State.{State, inc_cmp, same_inc, no_incarnation, incarnation, process}
use Rattle.hk_model.specs.Processors.{is_running}
use Rattle.hk_model.specs.Rule.{enter, called_incarnation}
use Rattle.hk_objects.specs.Shelf.{Shelf}
use Rattle.hk_queues.specs.Queued.{Queued}
use Rattle.hk_running.specs.Runners.{process_at, with_run, with_current}
use Rattle.hk_running.proofs.RunnerLemmas.{set_same, set_other}
use Rattle.hk_spaces.specs.declared.stack.StackFrame.{StackFrame}
use Rattle.hk_walk.specs.Remembered.{Remembered}
use Rattle.hk_table.specs.Stacked.{Stacked, caller_at, incarnation_of, live_from, frame_at, top_of, slots_of, with_frame, AreNumbered}
use Rattle.hk_table.specs.Joined.{IsCurrentOf, IsCurrent, IsJoined}
use Rattle.hk_table.specs.Returns.{GoesBack}
use Rattle.hk_table.proofs.Opens.{told}
use Rattle.hk_table.proofs.Live.{live_one, current_slots, no_frame}
use Rattle.hk_table.proofs.FramePushes.{pushed, last_caller}
use Rattle.hk_table.proofs.FrameMoves.{push_current_other, push_current, free_number, pop_live, pop_found}
use Rattle.hk_table.proofs.FrameMoves.{pop_was_current, pop_current_other, pop_current, pop_none, pop_below, pop_numbered}
use Rattle.hk_table.proofs.FrameMoves.{caller_none, caller_some}
use Rattle.hk_table.proofs.QueueMoves.{ended}
use Rattle.hk_table.proofs.QueueSteps.{idle_running, run_joined, stray_move}

-- what another current incarnation leaves
run_kept : (ps : List Process) (proc : Proc) (inc : Inc) (n : ℕ) → proc.0 < length ps → (process_at (with_current ps proc inc) n).run ≡ (process_at ps n).run
run_kept ps proc inc n low =
    ⊎_elim
    (λ (same : n ≡ proc.0).
    ap (λ (k : ℕ). (process_at (with_current ps proc inc) k).run) same ∙ ap (λ (p : Process). p.run)
    (set_same ended ps proc.0 (record (process_at ps proc.0) { current = inc }) low)
    ∙ ap (λ (k : ℕ). (process_at ps k).run) (sym same))
    (λ (other : n ≡ proc.0 → ⊥). ap (λ (p : Process). p.run) (set_other ended ps proc.0 n (record (process_at ps proc.0) { current = inc }) other))
    (cases_eq n proc.0)

current_here : (ps : List Process) (proc : Proc) (inc : Inc) (n : ℕ) → proc.0 < length ps → n ≡ proc.0 → (process_at (with_current ps proc inc) n).current ≡ inc
current_here ps proc inc n low same =
    ap (λ (k : ℕ). (process_at (with_current ps proc inc) k).current) same
    ∙ ap (λ (p : Process). p.current) (set_same ended ps proc.0 (record (process_at ps proc.0) { current = inc }) low)

current_there : (ps : List Process) (proc : Proc) (inc : Inc) (n : ℕ) → (n ≡ proc.0 → ⊥) → (process_at (with_current ps proc inc) n).current ≡ (process_at ps n).current
current_there ps proc inc n other = ap (λ (p : Process). p.current) (set_other ended ps proc.0 n (record (process_at ps proc.0) { current = inc }) other)

-- a process in another incarnation
current_joined : (objects : Shelf) (q : Queued) (ps : List Process) (st new : Stacked) (w : Remembered) (proc : Proc) (inc : Inc) → proc.0 < length ps → IsJoined objects q ps st w
    → length new.stacks ≡ length st.stacks → ((n : ℕ) → n < length ps → (n ≡ proc.0 → ⊥) → IsCurrent new.stacks (process_at ps n).current n)
    → IsCurrent new.stacks inc proc.0 → st.next.0 ≤ new.next.0 → inc.0 < new.next.0 → IsJoined objects q (with_current ps proc inc) new w
current_joined objects q ps st new w proc inc low h many others here next known =
    let size : length (with_current ps proc inc) ≡ length ps = length-set ps proc.0 (record (process_at ps proc.0) { current = inc }) in
    record {
      queued = record {
        lists = h.queued.lists;
        all = h.queued.all ∙ sym size;
        ready = λ p in'. run_kept ps proc inc p.0 low ∙ h.queued.ready p in';
        waiting = λ s p in'. let v = h.queued.waiting s p in' in (v.0, v.1, run_kept ps proc inc p.0 low ∙ v.2);
        ready_once = h.queued.ready_once;
        waiting_once = h.queued.waiting_once;
      };
      stacked = many ∙ h.stacked ∙ sym size;
      current = λ n inside'.
          let inside : n < length ps = omega (arith, size) in
          ⊎_elim
          (λ (same : n ≡ proc.0).
          subst (λ (i : Inc). IsCurrent new.stacks i n) (sym (current_here ps proc inc n low same)) (subst (λ (k : ℕ). IsCurrent new.stacks inc k) (sym same) here))
          (λ (other : n ≡ proc.0 → ⊥). subst (λ (i : Inc). IsCurrent new.stacks i n) (sym (current_there ps proc inc n other)) (others n inside other)) (cases_eq n proc.0);
      known = λ n inside'.
          let inside : n < length ps = omega (arith, size) in
          ⊎_elim (λ (same : n ≡ proc.0). subst (λ (i : Inc). i.0 < new.next.0) (sym (current_here ps proc inc n low same)) known)
          (λ (other : n ≡ proc.0 → ⊥).
          let old : (process_at ps n).current.0 < st.next.0 = h.known n inside in
          subst (λ (i : Inc). i.0 < new.next.0) (sym (current_there ps proc inc n other)) (omega arith)) (cases_eq n proc.0);
      right = h.right;
    }

-- a call
pub call_joined : (objects : Shelf) (q : Queued) (ps new : List Process) (st now : Stacked) (w : Remembered) (proc : Proc) (f : StackFrame) (inc : Inc) → proc.0 < length ps
    → IsJoined objects q ps st w → AreNumbered st.stacks st.next → inc ≡ st.next → f.inc ≡ st.next → now ≡ with_frame st proc.0 f → new ≡ with_current ps proc inc
    → IsJoined objects q new now w
call_joined objects q ps new st now w proc f inc low h numbered number frame e g =
    let inside : proc.0 < length st.stacks = (let m = h.stacked in omega (arith, m, low)) in
    subst (λ (v : List Process). IsJoined objects q v now w) (sym g) (subst (λ (v : Stacked). IsJoined objects q (with_current ps proc inc) v w) (sym e)
    (current_joined objects q ps st (with_frame st proc.0 f) w proc inc low h (length-set st.stacks proc.0 (slice_index_or st.stacks proc.0 [] ++ f ∷ []))
    (λ n there other. push_current_other st.stacks st.next proc.0 f inside numbered frame n (process_at ps n).current other (h.known n there) (h.current n there))
    (subst (λ (i : Inc). IsCurrent (set st.stacks proc.0 (slice_index_or st.stacks proc.0 [] ++ f ∷ [])) i proc.0) (sym number)
    (push_current st.stacks st.next proc.0 f inside numbered frame))
    (omega arith) (let n : inc.0 ≡ st.next.0 = ap (λ (i : Inc). i.0) number in omega (arith, n))))

top_caller : (stacks : List (List StackFrame)) (next : Inc) (q : ℕ) (inc : Inc) → AreNumbered stacks next → IsCurrent stacks inc q
    → 0 < length (live_one (live_from 0 stacks) inc).slots → caller_at None (slice_index_or stacks q []) (length (slice_index_or stacks q [])) ≡ Some inc
top_caller stacks next q inc h current lives =
    by (top_of (slice_index_or stacks q [])) refl current (subst (λ (es : List Entry). 0 < length es) (current_slots stacks next q inc h current) lives) where
      by : (o : Option StackFrame) → top_of (slice_index_or stacks q []) ≡ o → IsCurrentOf stacks inc o → 0 < length (slots_of o)
          → caller_at None (slice_index_or stacks q []) (length (slice_index_or stacks q [])) ≡ Some inc
      by None e none some = absurd (omega arith)
      by (Some g) e same some = last_caller None (slice_index_or stacks q []) g e ∙ ap (λ (i : Inc). Some i) (sym same)

pub call_told : (objects : Shelf) (q : Queued) (ps new : List Process) (st now : Stacked) (first_new : Name) (events limit : ℕ) (v : State) (proc : Proc) (procedure : Name)
    (into : Slot) (confined : Bool) (space : List Entry) (inc : Inc) → told objects q ps st first_new events limit ≡ v
    → proc.0 < length st.stacks → AreNumbered st.stacks st.next → IsCurrent st.stacks (process_at ps proc.0).current proc.0
    → 0 < length (incarnation v (process v proc).current).slots → inc ≡ st.next
    → now ≡ with_frame st proc.0 (record { space = space; inc = inc; into = into; confined = confined; procedure = Some procedure }) → new ≡ with_current ps proc inc
    → told objects q new now first_new events limit ≡ enter v (called_incarnation proc procedure (process v proc).current into confined space)
call_told objects q ps new st now first_new events limit v proc procedure into confined space inc is low numbered current lives number e g =
    subst (λ (v : State). told objects q new now first_new events limit ≡ enter v (called_incarnation proc procedure (process v proc).current into confined space)) is
    (let frame : StackFrame = record { space = space; inc = st.next; into = into; confined = confined; procedure = Some procedure } in
    let calls : caller_at None (slice_index_or st.stacks proc.0 []) (length (slice_index_or st.stacks proc.0 [])) ≡ Some (process_at ps proc.0).current =
    top_caller st.stacks st.next proc.0 (process_at ps proc.0).current numbered current
    (subst (λ (v : State). 0 < length (incarnation v (process v proc).current).slots) (sym is) lives) in
    let live : live_from 0 (set st.stacks proc.0 (slice_index_or st.stacks proc.0 [] ++ frame ∷ []))
    ≡ insert_entry inc_cmp (live_from 0 st.stacks) st.next (called_incarnation proc procedure (process_at ps proc.0).current into confined space) =
    pushed st.stacks proc.0 frame low (free_number st.stacks st.next proc.0 frame low numbered refl)
    ∙ ap (λ (c : Option Inc). insert_entry inc_cmp (live_from 0 st.stacks) st.next (incarnation_of proc c frame)) calls in
    (λ i. told objects q (g i) (e i) first_new events limit)
    ∙ (λ i.
    told objects q (with_current ps proc (number i)) (with_frame st proc.0 (record { space = space; inc = number i; into = into; confined = confined; procedure = Some procedure }))
    first_new events limit)
    ∙ (λ i. record (told objects q (with_current ps proc st.next) (with_frame st proc.0 frame) first_new events limit) { incarnations = live i }))

-- a return: the stacks, where the top frame of a process has gone
module _ (objects : Shelf) (q : Queued) (ps : List Process) (st : Stacked) (w : Remembered) (proc : Proc) (low : proc.0 < length ps) (h : IsJoined objects q ps st w)
    (numbered : AreNumbered st.stacks st.next) (now : Stacked) (next : now.next ≡ st.next) (fs : List StackFrame) (f : StackFrame)
    (split : slice_index_or st.stacks proc.0 [] ≡ fs ++ f ∷ []) (gone : now.stacks ≡ slice_set st.stacks proc.0 fs) where
  was : (process_at ps proc.0).current ≡ f.inc
  was = pop_was_current st.stacks st.next proc.0 fs f numbered split (process_at ps proc.0).current (h.current proc.0 low)

  many : length now.stacks ≡ length st.stacks
  many = ap (λ (s : List (List StackFrame)). length s) gone ∙ length-set st.stacks proc.0 fs

  others : (n : ℕ) → n < length ps → (n ≡ proc.0 → ⊥) → IsCurrent now.stacks (process_at ps n).current n
  others n inside other =
      subst (λ (s : List (List StackFrame)). IsCurrent s (process_at ps n).current n) (sym gone)
      (pop_current_other st.stacks st.next proc.0 fs f numbered split n (process_at ps n).current other (h.current n inside))

  given : (inc : Inc) → IsCurrent now.stacks inc proc.0 → Some inc ≡ option_map (λ (g : StackFrame). g.inc) (top_of (slice_index_or now.stacks proc.0 [])) → inc.0 < st.next.0
  given inc here e = by (top_of (slice_index_or now.stacks proc.0 [])) refl e where
    still : AreNumbered now.stacks st.next
    still = subst (λ (s : List (List StackFrame)). AreNumbered s st.next) (sym gone) (pop_numbered st.stacks st.next proc.0 fs f numbered split)

    by : (o : Option StackFrame) → top_of (slice_index_or now.stacks proc.0 []) ≡ o → Some inc ≡ option_map (λ (g : StackFrame). g.inc) o → inc.0 < st.next.0
    by None is e = absurd (cc)
    by (Some g) is e =
        let same : g.inc ≡ inc = cc in
        subst (λ (i : Inc). i.0 < st.next.0) same (still.below proc.0 (length (slice_index_or now.stacks proc.0 []) - 1) g is)

  pub back_joined : (new : List Process) (caller : Inc) → Some caller ≡ option_map (λ (g : StackFrame). g.inc) (top_of (slice_index_or now.stacks proc.0 []))
      → new ≡ with_current ps proc caller → IsJoined objects q new now w
  back_joined new caller e g =
      let here : IsCurrent now.stacks caller proc.0 =
      subst (λ (s : List (List StackFrame)). IsCurrent s caller proc.0) (sym gone) (pop_current st.stacks st.next proc.0 fs f numbered split caller
      (subst (λ (s : List (List StackFrame)). Some caller ≡ option_map (λ (g : StackFrame). g.inc) (top_of (slice_index_or s proc.0 []))) gone e)) in
      let n : now.next.0 ≡ st.next.0 = ap (λ (i : Inc). i.0) next in
      let low' : caller.0 < st.next.0 = given caller here e in
      subst (λ (v : List Process). IsJoined objects q v now w) (sym g)
      (current_joined objects q ps st now w proc caller low h many others here (omega (arith, n)) (omega (arith, n, low')))

  pub end_joined : (new : List Process) → is_running (process_at ps proc.0).run ≡ true
      → None ≡ option_map (λ (g : StackFrame). g.inc) (top_of (slice_index_or now.stacks proc.0 []))
      → new ≡ with_run ps proc Ended → IsJoined objects q new now w
  end_joined new runs e g =
      let mid : IsJoined objects q ps now w = record {
        queued = h.queued;
        stacked = many ∙ h.stacked;
        current = λ n inside.
            ⊎_elim
            (λ (same : n ≡ proc.0).
            subst (λ (k : ℕ). IsCurrent now.stacks (process_at ps k).current k) (sym same)
            (subst (λ (i : Inc). IsCurrent now.stacks i proc.0) (sym was) (subst (λ (s : List (List StackFrame)). IsCurrent s f.inc proc.0) (sym gone)
            (pop_none st.stacks st.next proc.0 fs f numbered split
            (subst (λ (s : List (List StackFrame)). None ≡ option_map (λ (g : StackFrame). g.inc) (top_of (slice_index_or s proc.0 []))) gone e)))))
            (λ (other : n ≡ proc.0 → ⊥). others n inside other) (cases_eq n proc.0);
        known = λ n inside. subst (λ (i : Inc). (process_at ps n).current.0 < i.0) (sym next) (h.known n inside);
        right = h.right;
      } in
      subst (λ (v : List Process). IsJoined objects q v now w) (sym g)
      (run_joined objects q q ps now w proc Ended low mid (stray_move objects.slots q ps proc Ended h.queued (idle_running objects.slots q ps proc h.queued runs)))

  left_is : live_one (live_from 0 st.stacks) (process_at ps proc.0).current ≡ incarnation_of proc (caller_at None fs (length fs)) f
  left_is =
      ap (λ (i : Inc). live_one (live_from 0 st.stacks) i) was
      ∙ ap (λ (o : Option Incarnation). unwrap_or o no_incarnation) (pop_found st.stacks st.next proc.0 fs f numbered split)

  below : option_map (λ (g : StackFrame). g.inc) (top_of (slice_index_or now.stacks proc.0 [])) ≡ option_map (λ (g : StackFrame). g.inc) (top_of fs)
  below =
      ap (λ (s : List (List StackFrame)). option_map (λ (g : StackFrame). g.inc) (top_of (slice_index_or s proc.0 []))) gone
      ∙ ap (λ (o : Option StackFrame). option_map (λ (g : StackFrame). g.inc) o) (pop_below st.stacks st.next proc.0 fs f numbered split)

  live : live_from 0 now.stacks ≡ remove_entry (same_inc (process_at ps proc.0).current) (live_from 0 st.stacks)
  live =
      ap (live_from 0) gone ∙ sym (pop_live st.stacks st.next proc.0 fs f numbered split)
      ∙ ap (λ (i : Inc). remove_entry (same_inc i) (live_from 0 st.stacks)) (sym was)

  module _ (first_new : Name) (events limit : ℕ) (v : State) (is : told objects q ps st first_new events limit ≡ v) where
    pub back_told : (new : List Process) (caller : Inc) (into : Slot) → f.into ≡ into
        → Some caller ≡ option_map (λ (g : StackFrame). g.inc) (top_of (slice_index_or now.stacks proc.0 []))
        → new ≡ with_current ps proc caller → GoesBack v proc (process v proc).current (Some into) (told objects q new now first_new events limit)
    back_told new caller into place e g =
        subst (λ (v : State). GoesBack v proc (process v proc).current (Some into) (told objects q new now first_new events limit)) is (
          caller,
          ap (λ (i : Incarnation). i.caller) left_is ∙ caller_some fs caller (e ∙ below),
          ap (λ (i : Incarnation). i.into) left_is ∙ place,
          (λ i. record (told objects q (g i) now first_new events limit) { incarnations = live i; next_inc = next i }),
        )

    pub end_told : (new : List Process) → None ≡ option_map (λ (g : StackFrame). g.inc) (top_of (slice_index_or now.stacks proc.0 []))
        → new ≡ with_run ps proc Ended → GoesBack v proc (process v proc).current None (told objects q new now first_new events limit)
    end_told new e g =
        subst (λ (v : State). GoesBack v proc (process v proc).current None (told objects q new now first_new events limit)) is (
          ap (λ (i : Incarnation). i.caller) left_is ∙ caller_none fs (e ∙ below),
          (λ i. record (told objects q (g i) now first_new events limit) { incarnations = live i; next_inc = next i }),
        )

-- a process without a frame
by_test : (test : Inc → Bool) (e : Inc × Incarnation) (es : List (Inc × Incarnation)) (b : Bool) → cond b (Some e.1) (lookup test es) ≡ None
    → (lookup test es ≡ None → remove_entry test es ≡ es) → cond b es (e ∷ remove_entry test es) ≡ e ∷ es
by_test test e es true absent later = absurd (cc)
by_test test e es false absent later = ap (λ rest. e ∷ rest) (later absent)

remove_absent : (test : Inc → Bool) (es : List (Inc × Incarnation)) → lookup test es ≡ None → remove_entry test es ≡ es
remove_absent test [] absent = refl
remove_absent test (e ∷ es) absent = by_test test e es (test e.0) absent (λ rest. remove_absent test es rest)

pub stray_told : (objects : Shelf) (q : Queued) (ps new : List Process) (st now : Stacked) (first_new : Name) (events limit : ℕ) (v : State) (proc : Proc)
    → told objects q ps st first_new events limit ≡ v → IsCurrent st.stacks (process_at ps proc.0).current proc.0 → slice_index_or st.stacks proc.0 [] ≡ []
    → now.stacks ≡ st.stacks → now.next ≡ st.next → new ≡ with_run ps proc Ended → GoesBack v proc (process v proc).current None (told objects q new now first_new events limit)
stray_told objects q ps new st now first_new events limit v proc is current none same next g =
    let none' : (p k : ℕ) (f : StackFrame) → frame_at st.stacks p k ≡ Some f → f.inc.0 ≡ (process_at ps proc.0).current.0 → ⊥ =
    subst (λ (fs : List StackFrame). IsCurrentOf st.stacks (process_at ps proc.0).current (top_of fs)) none current in
    let absent : lookup (same_inc (process_at ps proc.0).current) (live_from 0 st.stacks) ≡ None = no_frame 0 st.stacks (process_at ps proc.0).current none' in
    let live : live_from 0 now.stacks ≡ remove_entry (same_inc (process_at ps proc.0).current) (live_from 0 st.stacks) =
    ap (live_from 0) same ∙ sym (remove_absent (same_inc (process_at ps proc.0).current) (live_from 0 st.stacks) absent) in
    subst (λ (v : State). GoesBack v proc (process v proc).current None (told objects q new now first_new events limit)) is (
      ap (λ (o : Option Incarnation). (unwrap_or o no_incarnation).caller) absent,
      (λ i. record (told objects q (g i) now first_new events limit) { incarnations = live i; next_inc = next i }),
    )
