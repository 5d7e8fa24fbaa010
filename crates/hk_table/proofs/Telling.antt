-- The counts of a table, as its frames and processes change.
use Rattle.std.proofs.Common.{◌≡◌, ℕ, zero, suc, ◌+◌, ◌-◌, ◌<◌, ◌≤◌, true, List, [], ◌∷◌, ◌++◌, length, set, Option, Some, None, refl, sym, ap, ◌∙◌, subst, arith}
use Rattle.std.proofs.Common.{⊎_elim, length-set}
use Rattle.std.specs.Prelude.{slice_get, slice_index_or, drop}
use Rattle.std.proofs.lemmas.Bool.{cases_lt}
use Rattle.std.proofs.lemmas.List.{length-append, get_or_past}
use Rattle.std.proofs.lemmas.List.Sums.{sum_by-cons, get_or-le-sum_by}
use Rattle.hk_model.specs.declared.names.Name.{Name}
use Rattle.hk_model.specs.declared.names.Inc.{Inc}
use Rattle.hk_model.specs.declared.names.Proc.{Proc}
use Rattle.hk_model.specs.declared.names.Slot.{Slot}
use Rattle.hk_model.specs.declared.entries.Entry.{Entry}
use Rattle.hk_model.specs.declared.entries.Entry.TheVariants.{Empty}
use Rattle.hk_model.specs.declared.objects.Process.{Process}
use Rattle.hk_model.specs.declared.objects.ProcessState.{ProcessState}
use Rattle.hk_model.specs.declared.objects.ProcessState.TheVariants.{Ready, Running, Waiting, Ended}
use Rattle.hk_model.specs.Keeping.{entry_names, run_names}
use Rattle.hk_model.specs.Processors.{is_running}
use Rattle.hk_objects.specs.Shelf.{Shelf}
use Rattle.hk_objects.specs.Slots.{name_at}
use Rattle.hk_queues.specs.Queued.{Queued, waiters, is_queued}
use Rattle.hk_reclaim.specs.Naming.{times, named_in, namings}
use Rattle.hk_reclaim.specs.Tally.{Tally, owing}
use Rattle.hk_reclaim.proofs.Counting.{times_none}
use Rattle.hk_running.specs.Runners.{process_at, with_run, with_current}
use Rattle.hk_spaces.specs.declared.stack.StackFrame.{StackFrame}
use Rattle.hk_spaces.specs.Slots.{with_slot, with_changed, with_top}
use Rattle.hk_table.specs.Held.{AreHeld, CanHold, CanRelease, Holds, Releases}
use Rattle.hk_table.specs.Settled.{stack_names, stack_namings, frame_namings, outside_namings}
use Rattle.hk_table.specs.Small.{AreSmall}
use Rattle.hk_table.specs.Stacked.{Stacked, top_of, slots_of, with_top_of, with_frame, Pops}
use Rattle.hk_table.specs.Joined.{AreQueued}
use Rattle.hk_table.specs.Told.{AreTold}
use Rattle.hk_table.proofs.QueueMoves.{split_first, first_queued}
use Rattle.hk_table.proofs.FrameMoves.{top_last, stack_here}
use Rattle.hk_table.proofs.FrameNames.{times-append}
use Rattle.hk_table.proofs.FrameSums.{slot_written, frame_pushed, frame_popped, frames_cleared, run_changed, current_changed}
use Rattle.hk_table.proofs.Holding.{Slots, held_same}
use Rattle.hk_table.proofs.NameBounds.{names_are_few, entry_within, entries_within}
use Rattle.hk_table.proofs.SlotWrites.{top_many}

-- some names more can be counted
pub can_hold : (o : Shelf) (stacks : List (List StackFrame)) (ps : List Process) (first : Name) (t : Tally) (names : List Name) → AreTold o stacks ps first t
    → ((n : Name) → times n names ≤ 257) → CanHold o.slots names t
can_hold o stacks ps first t names h few = (
  λ n. outside_namings n stacks ps,
  namings o.slots,
  h.held,
  λ n. let a = names_are_few n o.slots stacks ps h.small in let b : times n names ≤ 257 = few n in omega (arith, a, b),
)

pub can_hold_entry : (o : Shelf) (stacks : List (List StackFrame)) (ps : List Process) (first : Name) (t : Tally) (entry : Entry) → AreTold o stacks ps first t
    → CanHold o.slots (entry_names entry) t
can_hold_entry o stacks ps first t entry h = can_hold o stacks ps first t (entry_names entry) h (λ n. let w = entry_within n entry in omega (arith, w))

pub can_hold_entries : (o : Shelf) (stacks : List (List StackFrame)) (ps : List Process) (first : Name) (t : Tally) (entries : List Entry) → AreTold o stacks ps first t
    → length entries ≤ 256 → CanHold o.slots (named_in entries) t
can_hold_entries o stacks ps first t entries h low =
    can_hold o stacks ps first t (named_in entries) h (λ n. let w = entries_within n entries in omega (arith, w, low))

-- ---- stacks that are no larger than they may be

abbrev pub IsSmallStack : List StackFrame → Type 0
IsSmallStack fs = (length fs ≤ 64) × ((k : ℕ) (f : StackFrame) → slice_get fs k ≡ Some f → length f.space ≤ 64)

each_set : (P : List StackFrame → Type 0) (stacks : List (List StackFrame)) (q : ℕ) (fs : List StackFrame) → P fs → ((p : ℕ) → P (slice_index_or stacks p [])) → (p : ℕ)
    → P (slice_index_or (set stacks q fs) p [])
each_set P [] q fs h all p = all p
each_set P (x ∷ xs) zero fs h all zero = h
each_set P (x ∷ xs) zero fs h all (suc p) = all (suc p)
each_set P (x ∷ xs) (suc q) fs h all zero = all 0
each_set P (x ∷ xs) (suc q) fs h all (suc p) = each_set P xs q fs h (λ k. all (suc k)) p

module _ (o : Shelf) (stacks : List (List StackFrame)) (ps : List Process) (h : AreSmall o.slots stacks ps) where
  small_stack : (p : ℕ) → IsSmallStack (slice_index_or stacks p [])
  small_stack p = (h.frames p, λ k f here. h.spaces p k f here)

  small_set : (q : ℕ) (fs : List StackFrame) → IsSmallStack fs → AreSmall o.slots (set stacks q fs) ps
  small_set q fs small = record {
    room = h.room;
    entries = h.entries;
    many = let e = length-set stacks q fs in omega (arith, e, h.many);
    frames = λ p. (each_set IsSmallStack stacks q fs small small_stack p).0;
    spaces = λ p k f here. (each_set IsSmallStack stacks q fs small small_stack p).1 k f here;
    processes = h.processes;
  }

  pub small_processes : (new : List Process) → length new ≡ length ps → AreSmall o.slots stacks new
  small_processes new same = record {
    room = h.room;
    entries = h.entries;
    many = h.many;
    frames = h.frames;
    spaces = h.spaces;
    processes = omega (arith, same, h.processes);
  }

space_put : (fs : List StackFrame) (k : ℕ) (f g : StackFrame) → slice_get fs k ≡ Some f → length g.space ≡ length f.space
    → ((j : ℕ) (x : StackFrame) → slice_get fs j ≡ Some x → length x.space ≤ 64) → (j : ℕ) (x : StackFrame) → slice_get (set fs k g) j ≡ Some x → length x.space ≤ 64
space_put [] k f g here same all j x there = all j x there
space_put (y ∷ fs) zero f g here same all zero x there =
    let e : g ≡ x = cc in let w : length f.space ≤ 64 = all 0 f here in let l : length x.space ≡ length g.space = ap (λ (z : StackFrame). length z.space) (sym e) in
    omega (arith, w, l, same)
space_put (y ∷ fs) zero f g here same all (suc j) x there = all (suc j) x there
space_put (y ∷ fs) (suc k) f g here same all zero x there = all 0 x there
space_put (y ∷ fs) (suc k) f g here same all (suc j) x there = space_put fs k f g here same (λ i z w. all (suc i) z w) j x there

small_top : (fs : List StackFrame) (slot : ℕ) (entry : Entry) → IsSmallStack fs → IsSmallStack (with_top fs slot entry)
small_top fs slot entry h = (let e = top_many fs slot entry in omega (arith, e, h.0), by (top_of fs) refl) where
  by : (o : Option StackFrame) → top_of fs ≡ o → (k : ℕ) (x : StackFrame) → slice_get (with_top fs slot entry) k ≡ Some x → length x.space ≤ 64
  by None e k x there = h.1 k x (ap (λ (o : Option StackFrame). slice_get (with_changed fs (length fs - 1) o slot entry) k) (sym e) ∙ there)
  by (Some f) e k x there =
      space_put fs (length fs - 1) f (with_slot f slot entry) e (length-set f.space slot entry) h.1 k x
      (ap (λ (o : Option StackFrame). slice_get (with_changed fs (length fs - 1) o slot entry) k) (sym e) ∙ there)

front_get : (fs : List StackFrame) (f : StackFrame) (k : ℕ) (x : StackFrame) → slice_get fs k ≡ Some x → slice_get (fs ++ f ∷ []) k ≡ Some x
front_get [] f k x there = absurd (cc)
front_get (y ∷ fs) f zero x there = there
front_get (y ∷ fs) f (suc k) x there = front_get fs f k x there

pushed_space : (fs : List StackFrame) (f : StackFrame) → length f.space ≤ 64 → ((k : ℕ) (x : StackFrame) → slice_get fs k ≡ Some x → length x.space ≤ 64) → (k : ℕ) (x : StackFrame)
    → slice_get (fs ++ f ∷ []) k ≡ Some x → length x.space ≤ 64
pushed_space [] f low all zero x there = let e : f ≡ x = cc in let l : length x.space ≡ length f.space = ap (λ (z : StackFrame). length z.space) (sym e) in omega (arith, l, low)
pushed_space [] f low all (suc k) x there = absurd (cc)
pushed_space (y ∷ fs) f low all zero x there = all 0 x there
pushed_space (y ∷ fs) f low all (suc k) x there = pushed_space fs f low (λ i z w. all (suc i) z w) k x there

small_push : (fs : List StackFrame) (f : StackFrame) → length fs < 64 → length f.space ≤ 64 → IsSmallStack fs → IsSmallStack (fs ++ f ∷ [])
small_push fs f room low h = (let e : length (fs ++ f ∷ []) ≡ length fs + 1 = length-append fs (f ∷ []) in omega (arith, e, room), pushed_space fs f low h.1)

small_front : (fs : List StackFrame) (f : StackFrame) → IsSmallStack (fs ++ f ∷ []) → IsSmallStack fs
small_front fs f h = (
  let e : length (fs ++ f ∷ []) ≡ length fs + 1 = length-append fs (f ∷ []) in omega (arith, e, h.0),
  λ k x there. h.1 k x (front_get fs f k x there),
)

small_none : IsSmallStack []
small_none = (omega arith, λ k f here. absurd (cc))

-- ---- an entry in a slot of the top frame of a process

module _ (o : Shelf) (stacks : List (List StackFrame)) (ps : List Process) (first : Name) (u : Tally) (q slot : ℕ) (entry old : Entry)
    (low : slot < length (slots_of (top_of (slice_index_or stacks q [])))) (is : old ≡ slice_index_or (slots_of (top_of (slice_index_or stacks q []))) slot Empty)
    (held : AreHeld o.slots (owing (λ n. outside_namings n stacks ps) (entry_names entry)) (namings o.slots) u) where
  slot_halfway : AreHeld o.slots (owing (λ n. outside_namings n (with_top_of stacks q slot entry) ps) (entry_names old)) (namings o.slots) u
  slot_halfway =
      held_same o.slots (owing (λ n. outside_namings n stacks ps) (entry_names entry)) (owing (λ n. outside_namings n (with_top_of stacks q slot entry) ps) (entry_names old))
      (namings o.slots) u (λ n.
      let w = slot_written n stacks q slot entry low in
      let e : times n (entry_names old) ≡ times n (entry_names (slice_index_or (slots_of (top_of (slice_index_or stacks q []))) slot Empty)) = ap
      (λ (x : Entry). times n (entry_names x)) is in
      omega (arith, w, e)) held

  pub slot_can : CanRelease o.slots (entry_names old) u
  slot_can = (λ n. outside_namings n (with_top_of stacks q slot entry) ps, namings o.slots, slot_halfway)

  pub slot_counted : u.first_new ≡ first → AreSmall o.slots stacks ps → (v : Tally) (new : List (List StackFrame)) → Releases o.slots (entry_names old) u v
      → new ≡ with_top_of stacks q slot entry → AreTold o new ps first v
  slot_counted begins small v new g e =
      subst (λ (s : List (List StackFrame)). AreTold o s ps first v) (sym e) (record {
        held = g.1 (λ n. outside_namings n (with_top_of stacks q slot entry) ps) (namings o.slots) slot_halfway;
        begins = g.0 ∙ begins;
        small = small_set o stacks ps small q (with_top (slice_index_or stacks q []) slot entry)
            (small_top (slice_index_or stacks q []) slot entry (small_stack o stacks ps small q));
      })

-- what is to come is counted
pub slot_held : (o : Shelf) (stacks : List (List StackFrame)) (ps : List Process) (first : Name) (t u : Tally) (names : List Name) → AreTold o stacks ps first t
    → Holds o.slots names t u → AreHeld o.slots (owing (λ n. outside_namings n stacks ps) names) (namings o.slots) u
slot_held o stacks ps first t u names h f = f.1 (λ n. outside_namings n stacks ps) (namings o.slots) h.held

-- ---- a frame more

pub top_pushed : (st new : Stacked) (q : ℕ) (f : StackFrame) → q < length st.stacks → new ≡ with_frame st q f → slots_of (top_of (slice_index_or new.stacks q [])) ≡ f.space
top_pushed st new q f low e =
    ap (λ (s : Stacked). slots_of (top_of (slice_index_or s.stacks q []))) e
    ∙ ap (λ (fs : List StackFrame). slots_of (top_of fs)) (stack_here st.stacks q q (slice_index_or st.stacks q [] ++ f ∷ []) low refl)
    ∙ ap slots_of (top_last (slice_index_or st.stacks q []) f)

pub frame_counted : (o : Shelf) (st new : Stacked) (ps : List Process) (first : Name) (t u : Tally) (q : ℕ) (f : StackFrame) (slots : List Entry) → q < length st.stacks
    → length (slice_index_or st.stacks q []) < 64 → length f.space ≤ 64 → AreTold o st.stacks ps first t → new ≡ with_frame st q f
    → slots ≡ slots_of (top_of (slice_index_or new.stacks q [])) → Holds o.slots (named_in slots) t u → AreTold o new.stacks ps first u
frame_counted o st new ps first t u q f slots low room few h e is g =
    let es : slots ≡ f.space = is ∙ top_pushed st new q f low e in
    subst (λ (s : Stacked). AreTold o s.stacks ps first u) (sym e) (record {
      held = held_same o.slots (owing (λ n. outside_namings n st.stacks ps) (named_in slots)) (λ n. outside_namings n (with_frame st q f).stacks ps) (namings o.slots) u (λ n.
          let w = frame_pushed n st.stacks q f low in
          let k : times n (named_in slots) ≡ times n (named_in f.space) = ap (λ (xs : List Entry). times n (named_in xs)) es in
          omega (arith, w, k)) (g.1 (λ n. outside_namings n st.stacks ps) (namings o.slots) h.held);
      begins = g.0 ∙ h.begins;
      small = small_set o st.stacks ps h.small q (slice_index_or st.stacks q [] ++ f ∷ [])
          (small_push (slice_index_or st.stacks q []) f room few (small_stack o st.stacks ps h.small q));
    })

-- ---- frames that go

stack_within : (n : Name) (stacks : List (List StackFrame)) (q : ℕ) → stack_namings n (slice_index_or stacks q []) ≤ frame_namings n stacks
stack_within n stacks q =
    ⊎_elim
    (λ (low : q < length stacks). get_or-le-sum_by (stack_namings n) stacks q [] low)
    (λ (high : length stacks ≤ q). let e : stack_namings n (slice_index_or stacks q []) ≡ stack_namings n [] = ap (stack_namings n) (get_or_past stacks q [] high) in
    omega (arith, e))
    (cases_lt q (length stacks))

top_within : (n : Name) (fs : List StackFrame) → times n (named_in (slots_of (top_of fs))) ≤ stack_namings n fs
top_within n fs = by (top_of fs) refl where
  here : (xs : List StackFrame) (k : ℕ) (f : StackFrame) → slice_get xs k ≡ Some f → times n (named_in f.space) ≤ stack_namings n xs
  here [] k f e = absurd (cc)
  here (x ∷ xs) zero f e =
      let same : x ≡ f = cc in
      let w : times n (named_in f.space) ≡ times n (named_in x.space) = ap (λ (g : StackFrame). times n (named_in g.space)) (sym same) in
      omega (arith, w, sum_by-cons (λ (g : StackFrame). times n (named_in g.space)) x xs)
  here (x ∷ xs) (suc k) f e = let w = here xs k f e in omega (arith, w, sum_by-cons (λ (g : StackFrame). times n (named_in g.space)) x xs)

  by : (o : Option StackFrame) → top_of fs ≡ o → times n (named_in (slots_of o)) ≤ stack_namings n fs
  by None e = let z : times n (named_in []) ≡ 0 = times_none n in omega (arith, z)
  by (Some f) e = here fs (length fs - 1) f e

pub can_release_top : (o : Shelf) (stacks : List (List StackFrame)) (ps : List Process) (first : Name) (t : Tally) (q : ℕ) (slots : List Entry) → AreTold o stacks ps first t
    → slots ≡ slots_of (top_of (slice_index_or stacks q [])) → CanRelease o.slots (named_in slots) t
can_release_top o stacks ps first t q slots h is = (
  λ n. outside_namings n stacks ps - times n (named_in slots),
  namings o.slots,
  held_same o.slots (λ n. outside_namings n stacks ps) (owing (λ n. outside_namings n stacks ps - times n (named_in slots)) (named_in slots)) (namings o.slots) t (λ n.
      let a = stack_within n stacks q in
      let b = top_within n (slice_index_or stacks q []) in
      let k : times n (named_in slots) ≡ times n (named_in (slots_of (top_of (slice_index_or stacks q [])))) = ap (λ (xs : List Entry). times n (named_in xs)) is in
      omega (arith, a, b, k)) h.held,
)

small_popped : (o : Shelf) (old new : List (List StackFrame)) (ps : List Process) (q : ℕ) (into : Option Slot) → Pops old q into new → AreSmall o.slots old ps
    → AreSmall o.slots new ps
small_popped o old new ps q None p h = subst (λ (s : List (List StackFrame)). AreSmall o.slots s ps) (sym p.1) h
small_popped o old new ps q (Some into) p h =
    subst (λ (s : List (List StackFrame)). AreSmall o.slots s ps) (sym p.4)
    (small_set o old ps h q p.0 (small_front p.0 p.1 (subst IsSmallStack p.2 (small_stack o old ps h q))))

pub popped_counted : (o : Shelf) (old new : List (List StackFrame)) (ps : List Process) (first : Name) (t u : Tally) (q : ℕ) (into : Option Slot) (slots : List Entry)
    → AreTold o old ps first t → slots ≡ slots_of (top_of (slice_index_or old q [])) → Releases o.slots (named_in slots) t u → Pops old q into new → AreTold o new ps first u
popped_counted o old new ps first t u q into slots h is g p = record {
  held = g.1 (λ n. outside_namings n new ps) (namings o.slots)
      (held_same o.slots (λ n. outside_namings n old ps) (owing (λ n. outside_namings n new ps) (named_in slots)) (namings o.slots) t (λ n.
      let w = frame_popped n old new q into p in
      let k : times n (named_in slots) ≡ times n (named_in (slots_of (top_of (slice_index_or old q [])))) = ap (λ (xs : List Entry). times n (named_in xs)) is in
      omega (arith, w, k)) h.held);
  begins = g.0 ∙ h.begins;
  small = small_popped o old new ps q into p h.small;
}

pub stack_names_sum : (n : Name) (fs : List StackFrame) → times n (stack_names fs) ≡ stack_namings n fs
stack_names_sum n [] = times_none n
stack_names_sum n (f ∷ fs) =
    omega (
      arith,
      times-append n (named_in f.space) (stack_names fs),
      stack_names_sum n fs,
      sum_by-cons (λ (g : StackFrame). times n (named_in g.space)) f fs,
    )

module _ (o : Shelf) (stacks : List (List StackFrame)) (ps : List Process) (first : Name) (t : Tally) (q : ℕ) (h : AreTold o stacks ps first t) where
  all_owed : AreHeld o.slots (owing (λ n. outside_namings n (set stacks q []) ps) (stack_names (slice_index_or stacks q []))) (namings o.slots) t
  all_owed =
      held_same o.slots (λ n. outside_namings n stacks ps) (owing (λ n. outside_namings n (set stacks q []) ps) (stack_names (slice_index_or stacks q []))) (namings o.slots) t
      (λ n. omega (arith, frames_cleared n stacks q, stack_names_sum n (slice_index_or stacks q []))) h.held

  pub can_release_all : CanRelease o.slots (stack_names (slice_index_or stacks q [])) t
  can_release_all = (λ n. outside_namings n (set stacks q []) ps, namings o.slots, all_owed)

  pub cleared_counted : (u : Tally) (new : List (List StackFrame)) → Releases o.slots (stack_names (slice_index_or stacks q [])) t u → new ≡ set stacks q []
      → AreTold o new ps first u
  cleared_counted u new g e =
      subst (λ (s : List (List StackFrame)). AreTold o s ps first u) (sym e) (record {
        held = g.1 (λ n. outside_namings n (set stacks q []) ps) (namings o.slots) all_owed;
        begins = g.0 ∙ h.begins;
        small = small_set o stacks ps h.small q [] small_none;
      })

-- ---- a process does something else

pub runs_unnamed : (run : ProcessState) → is_running run ≡ true → run_names run ≡ []
runs_unnamed Ready e = absurd (cc)
runs_unnamed (Running cpu) e = refl
runs_unnamed (Waiting at) e = absurd (cc)
runs_unnamed Ended e = absurd (cc)

module _ (o : Shelf) (stacks : List (List StackFrame)) (ps new : List Process) (first : Name) (t u : Tally) (proc : Proc) (run : ProcessState) (low : proc.0 < length ps)
    (h : AreTold o stacks ps first t) (e : new ≡ with_run ps proc run) where
  run_closed : u.first_new ≡ t.first_new → AreHeld o.slots (λ n. outside_namings n stacks (with_run ps proc run)) (namings o.slots) u → AreTold o stacks new first u
  run_closed same g =
      subst (λ (v : List Process). AreTold o stacks v first u) (sym e) (record {
        held = g;
        begins = same ∙ h.begins;
        small = small_processes o stacks ps h.small (with_run ps proc run) (length-set ps proc.0 (record (process_at ps proc.0) { run = run }));
      })

  -- that names as much as before
  pub run_quiet : t ≡ u → run_names (process_at ps proc.0).run ≡ run_names run → AreTold o stacks new first u
  run_quiet same names =
      run_closed (ap (λ (v : Tally). v.first_new) (sym same))
      (subst (λ (v : Tally). AreHeld o.slots (λ n. outside_namings n stacks (with_run ps proc run)) (namings o.slots) v) same
      (held_same o.slots (λ n. outside_namings n stacks ps) (λ n. outside_namings n stacks (with_run ps proc run)) (namings o.slots) t (λ n.
      let w = run_changed n ps proc run low in
      let k : times n (run_names (process_at ps proc.0).run) ≡ times n (run_names run) = ap (times n) names in
      omega (arith, w, k)) h.held))

  -- that names something more
  pub run_held : (names : List Name) → run_names (process_at ps proc.0).run ≡ [] → run_names run ≡ names → Holds o.slots names t u → AreTold o stacks new first u
  run_held names none is g =
      run_closed g.0
      (held_same o.slots (owing (λ n. outside_namings n stacks ps) names) (λ n. outside_namings n stacks (with_run ps proc run)) (namings o.slots) u (λ n.
      let w = run_changed n ps proc run low in
      let a : times n (run_names (process_at ps proc.0).run) ≡ 0 = ap (times n) none ∙ times_none n in
      let b : times n (run_names run) ≡ times n names = ap (times n) is in
      omega (arith, w, a, b)) (g.1 (λ n. outside_namings n stacks ps) (namings o.slots) h.held))

  run_owed : (names : List Name) → run_names (process_at ps proc.0).run ≡ names → run_names run ≡ []
      → AreHeld o.slots (owing (λ n. outside_namings n stacks (with_run ps proc run)) names) (namings o.slots) t
  run_owed names is none =
      held_same o.slots (λ n. outside_namings n stacks ps) (owing (λ n. outside_namings n stacks (with_run ps proc run)) names) (namings o.slots) t (λ n.
      let w = run_changed n ps proc run low in
      let a : times n (run_names run) ≡ 0 = ap (times n) none ∙ times_none n in
      let b : times n (run_names (process_at ps proc.0).run) ≡ times n names = ap (times n) is in
      omega (arith, w, a, b)) h.held

  -- that names something no longer
  pub run_can : (names : List Name) → run_names (process_at ps proc.0).run ≡ names → run_names run ≡ [] → CanRelease o.slots names t
  run_can names is none = (λ n. outside_namings n stacks (with_run ps proc run), namings o.slots, run_owed names is none)

  pub run_released : (names : List Name) → run_names (process_at ps proc.0).run ≡ names → run_names run ≡ [] → Releases o.slots names t u → AreTold o stacks new first u
  run_released names is none g = run_closed g.0 (g.1 (λ n. outside_namings n stacks (with_run ps proc run)) (namings o.slots) (run_owed names is none))

-- a process is in another incarnation
pub current_counted : (o : Shelf) (stacks : List (List StackFrame)) (ps new : List Process) (first : Name) (t : Tally) (proc : Proc) (inc : Inc) → proc.0 < length ps
    → AreTold o stacks ps first t → new ≡ with_current ps proc inc → AreTold o stacks new first t
current_counted o stacks ps new first t proc inc low h e =
    subst (λ (v : List Process). AreTold o stacks v first t) (sym e) (record {
      held = held_same o.slots (λ n. outside_namings n stacks ps) (λ n. outside_namings n stacks (with_current ps proc inc)) (namings o.slots) t
          (λ n. let w = current_changed n ps proc inc low in omega (arith, w)) h.held;
      begins = h.begins;
      small = small_processes o stacks ps h.small (with_current ps proc inc) (length-set ps proc.0 (record (process_at ps proc.0) { current = inc }));
    })

-- ---- who is ready, or waits

pub within_run : (ps : List Process) (q : ℕ) (run : ProcessState) → (process_at ps q).run ≡ run → (Ended ≡ run → ⊥) → q < length ps
within_run [] q run e other = absurd (other e)
within_run (p ∷ ps) zero run e other = omega arith
within_run (p ∷ ps) (suc q) run e other = let w = within_run ps q run e other in omega (arith, w)

pub woken_waits : (slots : Slots) (q : Queued) (ps : List Process) (s : ℕ) (name : Name) (first : Proc) → AreQueued slots q ps → name_at slots s ≡ Some name
    → Some first ≡ slice_get (waiters q s) 0 → (process_at ps first.0).run ≡ Waiting name
woken_waits slots q ps s name first h named is_first =
    let w = h.waiting s first (ap (is_queued first) (split_first (waiters q s) first is_first) ∙ first_queued first (drop 1 (waiters q s))) in
    let e : Some w.0 ≡ Some name = sym w.1 ∙ named in
    let f : w.0 ≡ name = cc in
    w.2 ∙ ap (λ (n : Name). Waiting n) f

pub waiting_within : (ps : List Process) (q : ℕ) (name : Name) → (process_at ps q).run ≡ Waiting name → q < length ps
waiting_within ps q name e = within_run ps q (Waiting name) e (λ x. absurd (cc))

pub ready_first : (slots : Slots) (q : Queued) (ps : List Process) (first : Proc) → AreQueued slots q ps → Some first ≡ slice_get q.ready 0 → (process_at ps first.0).run ≡ Ready
ready_first slots q ps first h is_first = h.ready first (ap (is_queued first) (split_first q.ready first is_first) ∙ first_queued first (drop 1 q.ready))

pub ready_within : (ps : List Process) (q : ℕ) → (process_at ps q).run ≡ Ready → q < length ps
ready_within ps q e = within_run ps q Ready e (λ x. absurd (cc))
