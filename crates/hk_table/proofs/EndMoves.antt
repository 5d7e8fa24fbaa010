-- All incarnations of a process go.
use Rattle.std.proofs.Common.{◌≡◌, ℕ, zero, suc, ◌+◌, ◌-◌, ◌<◌, ◌==◌, Bool, true, false, not, List, []}
use Rattle.std.proofs.Common.{◌∷◌, ◌++◌, length, set, Option, Some, None, refl, sym, ap, ◌∙◌, subst, arith, ⊎_elim}
use Rattle.std.specs.Prelude.{slice_index_or, filter}
use Rattle.std.specs.Ordering.{match_ordering, nat_cmp}
use Rattle.std.specs.declared.cmp.Ordering.{Ordering}
use Rattle.std.specs.declared.cmp.Ordering.TheVariants.{Less, Equal, Greater}
use Rattle.std.specs.BTreeMap.{insert_entry}
use Rattle.std.proofs.lemmas.List.{length-set, set-set, set-get_or}
use Rattle.std.proofs.lemmas.Bool.{cases_eq}
use Rattle.std.proofs.lemmas.Bool.Decides.{nat_tests}
use Rattle.hk_model.specs.declared.names.Name.{Name}
use Rattle.hk_model.specs.declared.names.Inc.{Inc}
use Rattle.hk_model.specs.declared.names.Proc.{Proc}
use Rattle.hk_model.specs.declared.objects.Incarnation.{Incarnation}
use Rattle.hk_model.specs.declared.objects.Process.{Process}
use Rattle.hk_model.specs.declared.objects.ProcessState.TheVariants.{Ended}
use Rattle.hk_model.specs.State.{inc_cmp}
use Rattle.hk_model.specs.Processors.{is_running, ended}
use Rattle.hk_objects.specs.Shelf.{Shelf}
use Rattle.hk_queues.specs.Queued.{Queued}
use Rattle.hk_running.specs.Runners.{process_at, with_run}
use Rattle.hk_spaces.specs.declared.stack.StackFrame.{StackFrame}
use Rattle.hk_walk.specs.Remembered.{Remembered}
use Rattle.hk_table.specs.Stacked.{Stacked, incarnation_of, live_with, live_from, frame_at, top_of, caller_at, AreNumbered}
use Rattle.hk_table.specs.Joined.{IsCurrentOf, IsCurrent, IsJoined}
use Rattle.hk_table.proofs.Opens.{told}
use Rattle.hk_table.proofs.Live.{no_frame}
use Rattle.hk_table.proofs.FramePushes.{filter-insert}
use Rattle.hk_table.proofs.FrameMoves.{stack_here, stack_there, split_low, pop_numbered, were, gone_number}
use Rattle.hk_table.proofs.QueueSteps.{idle_running, runs_within, run_joined, stray_move}

abbrev Ones : Type 0
Ones = List (Inc × Incarnation)

-- the incarnations of other processes
abbrev pub is_other : ℕ → Inc × Incarnation → Bool
is_other q e = not (e.1.proc.0 == q)

abbrev Others : ℕ → Ones → Type 0
Others q [] = Unit {0}
Others q (e ∷ es) = (is_other q e ≡ true) × Others q es

filter_others : (q : ℕ) (es : Ones) → Others q es → filter (is_other q) es ≡ es
filter_others q [] h = refl
filter_others q (e ∷ es) h = rw h.0 (ap (λ (rest : Ones). e ∷ rest) (filter_others q es h.1))

others_insert : (q : ℕ) (n : Inc) (o : Incarnation) (es : Ones) → Others q es → not (o.proc.0 == q) ≡ true → Others q (insert_entry inc_cmp es n o)
others_insert q n o [] h out = (out, tt)
others_insert q n o (e ∷ es) h out = by (nat_cmp n.0 e.0.0) (others_insert q n o es h.1 out) where
  by : (c : Ordering) → Others q (insert_entry inc_cmp es n o) → Others q (match_ordering c ((n, o) ∷ e ∷ es) ((e.0, o) ∷ es) (e ∷ insert_entry inc_cmp es n o))
  by Less rest = (out, h)
  by Equal rest = (out, h.1)
  by Greater rest = (h.0, rest)

others_with : (q : ℕ) (proc : Proc) (caller : Option Inc) (fs : List StackFrame) (es : Ones) → Others q es → not (proc.0 == q) ≡ true → Others q (live_with proc caller fs es)
others_with q proc caller [] es h out = h
others_with q proc caller (f ∷ fs) es h out =
    others_insert q f.inc (incarnation_of proc caller f) (live_with proc (Some f.inc) fs es) (others_with q proc (Some f.inc) fs es h out) out

not_same : (m n : ℕ) → (m ≡ n → ⊥) → not (m == n) ≡ true
not_same m n h = let e : (m == n) ≡ false = grind (arith, nat_tests) in rw e refl

others_above : (n q : ℕ) (stacks : List (List StackFrame)) → q < n → Others q (live_from n stacks)
others_above n q [] less = tt
others_above n q (fs ∷ rest) less =
    others_with q (record { 0 = n }) None fs (live_from (n + 1) rest) (others_above (n + 1) q rest (omega arith)) (not_same n q (λ e. omega (arith, e, less)))

others_left : (n k q : ℕ) (stacks : List (List StackFrame)) → q ≡ n + k → Others q (live_from n (set stacks k []))
others_left n k q [] is = tt
others_left n zero q (fs ∷ rest) is = others_above (n + 1) q rest (omega arith)
others_left n (suc k) q (fs ∷ rest) is =
    others_with q (record { 0 = n }) None fs (live_from (n + 1) (set rest k [])) (others_left (n + 1) k q rest (omega arith)) (not_same n q (λ e. omega (arith, e, is)))

-- a stack with frames has a last one
pub last_split : (fs : List StackFrame) (n : ℕ) → length fs ≡ suc n → (rest : List StackFrame) × (f : StackFrame) × (fs ≡ rest ++ f ∷ []) × (length rest ≡ n)
last_split [] n e = absurd (omega (arith, e))
last_split (x ∷ []) n e = ([], x, refl, omega (arith, e))
last_split (x ∷ y ∷ fs) zero e = absurd (omega (arith, e))
last_split (x ∷ y ∷ fs) (suc n) e =
    let w = last_split (y ∷ fs) n (omega (arith, e)) in
    (x ∷ w.0, w.1, ap (λ (rest : List StackFrame). x ∷ rest) w.2, (let k = w.3 in omega (arith, k)))

all_gone : (n : ℕ) (stacks : List (List StackFrame)) (next : Inc) (q : ℕ) → length (slice_index_or stacks q []) ≡ n → AreNumbered stacks next
    → filter (is_other q) (live_from 0 stacks) ≡ filter (is_other q) (live_from 0 (set stacks q []))
all_gone zero stacks next q size h =
    ap (λ (s : List (List StackFrame)). filter (is_other q) (live_from 0 s))
    (sym (ap (set stacks q) (empty (slice_index_or stacks q []) size) ∙ set-get_or stacks q [])) where
      empty : (fs : List StackFrame) → length fs ≡ 0 → let none : List StackFrame = [] in none ≡ fs
      empty [] e = refl
      empty (x ∷ fs) e = absurd (omega (arith, e))
all_gone (suc n) stacks next q size h =
    let w = last_split (slice_index_or stacks q []) n size in
    let same : (q == q) ≡ true = grind (arith, nat_tests) in
    let left : filter (is_other q) (live_from 0 (set stacks q w.0)) ≡ filter (is_other q) (live_from 0 (set (set stacks q w.0) q [])) =
    all_gone n (set stacks q w.0) next q (ap (λ (fs : List StackFrame). length fs) (stack_here stacks q q w.0 (split_low stacks next q w.0 w.1 h w.2) refl) ∙ w.3)
    (pop_numbered stacks next q w.0 w.1 h w.2) in
    ap (filter (is_other q)) (were stacks next q w.0 w.1 h w.2)
    ∙ filter-insert (is_other q) w.1.inc (incarnation_of (record { 0 = q }) (caller_at None w.0 (length w.0)) w.1) (live_from 0 (set stacks q w.0))
    (no_frame 0 (set stacks q w.0) w.1.inc (gone_number stacks next q w.0 w.1 h w.2)) (ap not same)
    ∙ left ∙ ap (λ (s : List (List StackFrame)). filter (is_other q) (live_from 0 s)) (set-set stacks q w.0 [])

-- so the incarnations of other processes are those that are left
pub ended_live : (stacks : List (List StackFrame)) (next : Inc) (q : ℕ) → AreNumbered stacks next → live_from 0 (set stacks q []) ≡ filter (is_other q) (live_from 0 stacks)
ended_live stacks next q h =
    sym (all_gone (length (slice_index_or stacks q [])) stacks next q refl h ∙ filter_others q (live_from 0 (set stacks q [])) (others_left 0 q q stacks (omega arith)))

was_there : (old : List (List StackFrame)) (q p k : ℕ) (h : StackFrame) → frame_at (set old q []) p k ≡ Some h → (frame_at old p k ≡ Some h) × (p ≡ q → ⊥)
was_there [] q p k h e = absurd (cc)
was_there (x ∷ old) zero zero k h e = absurd (cc)
was_there (x ∷ old) zero (suc p) k h e = (e, λ same. omega (arith, same))
was_there (x ∷ old) (suc q) zero k h e = (e, λ same. omega (arith, same))
was_there (x ∷ old) (suc q) (suc p) k h e = let w = was_there old q p k h e in (w.0, λ same. w.1 (omega (arith, same)))

pub cleared_numbered : (old new : List (List StackFrame)) (next : Inc) (q : ℕ) → AreNumbered old next → new ≡ set old q [] → AreNumbered new next
cleared_numbered old new next q h e = subst (λ (v : List (List StackFrame)). AreNumbered v next) (sym e) (record {
  apart = λ p r i j f g a b same. h.apart p r i j f g (was_there old q p i f a).0 (was_there old q r j g b).0 same;
  below = λ p k f a. h.below p k f (was_there old q p k f a).0;
})

none_top : (old : List (List StackFrame)) (q : ℕ) → top_of (slice_index_or (set old q []) q []) ≡ let none : Option StackFrame = None in none
none_top [] q = refl
none_top (x ∷ old) zero = refl
none_top (x ∷ old) (suc q) = none_top old q

cleared_current : (old : List (List StackFrame)) (next : Inc) (q p : ℕ) (inc : Inc) → AreNumbered old next → IsCurrent old inc p → IsCurrent (set old q []) inc p
cleared_current old next q p inc h current =
    ⊎_elim
    (λ (same : p ≡ q).
    subst (λ (m : ℕ). IsCurrent (set old q []) inc m) (sym same)
    (subst (λ (o : Option StackFrame). IsCurrentOf (set old q []) inc o) (sym (none_top old q))
    (here (top_of (slice_index_or old q [])) refl (subst (λ (m : ℕ). IsCurrent old inc m) same current))))
    (λ (other : p ≡ q → ⊥).
    subst (λ (fs : List StackFrame). IsCurrentOf (set old q []) inc (top_of fs)) (sym (stack_there old q p [] other)) (by (top_of (slice_index_or old p [])) current))
    (cases_eq p q) where
      by : (o : Option StackFrame) → IsCurrentOf old inc o → IsCurrentOf (set old q []) inc o
      by None none = λ r k g e same. none r k g (was_there old q r k g e).0 same
      by (Some g) same = same

      here : (o : Option StackFrame) → top_of (slice_index_or old q []) ≡ o → IsCurrentOf old inc o → (r k : ℕ) (g : StackFrame) → frame_at (set old q []) r k ≡ Some g
          → g.inc.0 ≡ inc.0 → ⊥
      here None e none = λ r k g there same. none r k g (was_there old q r k g there).0 same
      here (Some f) e is = λ r k g there same.
          let w = was_there old q r k g there in
          w.1 (h.apart r q k (length (slice_index_or old q []) - 1) g f w.0 e (same ∙ ap (λ (i : Inc). i.0) is)).0

pub ended_joined : (objects : Shelf) (q : Queued) (ps new : List Process) (st now : Stacked) (w : Remembered) (proc : Proc) → is_running (process_at ps proc.0).run ≡ true
    → IsJoined objects q ps st w → AreNumbered st.stacks st.next → now ≡ record st { stacks = set st.stacks proc.0 [] } → new ≡ with_run ps proc Ended
    → IsJoined objects q new now w
ended_joined objects q ps new st now w proc runs h numbered e g =
    let low : proc.0 < length ps = runs_within ps proc runs in
    let mid : IsJoined objects q ps (record st { stacks = set st.stacks proc.0 [] }) w = record {
      queued = h.queued;
      stacked = length-set st.stacks proc.0 [] ∙ h.stacked;
      current = λ n inside. cleared_current st.stacks st.next proc.0 n (process_at ps n).current numbered (h.current n inside);
      known = h.known;
      right = h.right;
    } in
    subst (λ (v : List Process). IsJoined objects q v now w) (sym g)
    (subst (λ (v : Stacked). IsJoined objects q (with_run ps proc Ended) v w) (sym e)
    (run_joined objects q q ps (record st { stacks = set st.stacks proc.0 [] }) w proc Ended low mid
    (stray_move objects.slots q ps proc Ended h.queued (idle_running objects.slots q ps proc h.queued runs))))

pub ended_told : (objects : Shelf) (q : Queued) (ps new : List Process) (st now : Stacked) (first_new : Name) (events limit : ℕ) (proc : Proc) → AreNumbered st.stacks st.next
    → now ≡ record st { stacks = set st.stacks proc.0 [] } → new ≡ with_run ps proc Ended
    → told objects q new now first_new events limit ≡ ended (told objects q ps st first_new events limit) proc
ended_told objects q ps new st now first_new events limit proc numbered e g =
    (λ i. told objects q (g i) (e i) first_new events limit)
    ∙ (λ i.
    record (told objects q (with_run ps proc Ended) (record st { stacks = set st.stacks proc.0 [] }) first_new events limit) {
      incarnations = ended_live st.stacks st.next proc.0 numbered i;
    })
