-- The counts of a world that opens.
use Rattle.std.proofs.Common.{◌≡◌, ℕ, zero, suc, ◌+◌, ◌-◌, ◌*◌, ◌<◌, ◌≤◌, List, [], ◌∷◌, ◌++◌, length, get_or, take, replicate, Option, Some, None, IfSome, IsSome, refl, sym, ap, ◌∙◌, subst, arith, ◌≢◌, ⊎_elim, option_map}
use Rattle.std.proofs.lemmas.Bool.{cases_eq}
use Rattle.hk_model.specs.declared.objects.ProcessState.TheVariants.{Ready}
use Rattle.std.specs.Prelude.{slice_index_or}
use Rattle.std.proofs.lemmas.List.{take_all, take_more, length-take-le, length-append, length-replicate}
use Rattle.std.proofs.lemmas.List.Sums.{sum_by-cons}
use Rattle.hk_model.specs.declared.names.Name.{Name}
use Rattle.hk_model.specs.declared.entries.Entry.{Entry}
use Rattle.hk_model.specs.declared.entries.Entry.TheVariants.{Empty}
use Rattle.hk_model.specs.declared.objects.Process.{Process}
use Rattle.hk_model.specs.declared.world.Task.{Task}
use Rattle.hk_model.specs.Opening.{all_ready}
use Rattle.hk_model.specs.WorldValue.{WorldValue, IsWorld, IsTask}
use Rattle.std.specs.List.{AllByRecursion}
use Rattle.hk_model.specs.Keeping.{run_names}
use Rattle.hk_objects.specs.declared.body.Body.{Body}
use Rattle.hk_objects.specs.Shelf.{Shelf}
use Rattle.hk_objects.specs.Slots.{place, name_at}
use Rattle.hk_objects.proofs.Standing.{within_some}
use Rattle.hk_reclaim.specs.Naming.{times, named_in, names_of, names_in, namings}
use Rattle.hk_reclaim.specs.Tally.{Tally, due, owing}
use Rattle.hk_reclaim.proofs.Counting.{times_none, times-cons, namings-cons, namings_none}
use Rattle.hk_spaces.specs.declared.stack.StackFrame.{StackFrame}
use Rattle.hk_table.specs.Held.{AreHeld, CanHold, HasPlace, Holds, HoldsInside}
use Rattle.hk_table.specs.Settled.{stack_names, all_names, stack_namings, frame_namings, wait_namings, outside_namings}
use Rattle.hk_table.specs.Small.{AreSmall, AreSmallStacks}
use Rattle.hk_table.specs.Stacked.{frame_at, base_stacks, base_frame}
use Rattle.hk_table.specs.Told.{AreTold}
use Rattle.hk_table.proofs.FrameNames.{times-append}
use Rattle.hk_table.proofs.Holding.{Slots, held_same, owed_same}
use Rattle.hk_table.proofs.NameBounds.{one_name, entries_within, objects_within, names_are_few}
use Rattle.hk_table.proofs.Opens.{as_many_stacks}
use Rattle.hk_table.proofs.Telling.{stack_names_sum}

-- ---- the names of one object

module _ (ps : Slots) (t : Tally) (h : HasPlace ps t) where
  pub type_can : (of : Name) → CanHold ps (of ∷ []) t
  type_can of = (h.0, h.1, h.2, λ n. let a : h.0 n + h.1 n ≤ 257 * 65536 = h.3 n in let b = one_name n of in omega (arith, a, b))

  pub entries_can : (of : Name) (u : Tally) (entries : List Entry) → length entries ≤ 256 → HoldsInside ps (of ∷ []) t u → CanHold ps (named_in entries) u
  entries_can of u entries few f = (
    h.0,
    owing h.1 (of ∷ []),
    f.1 h.0 h.1 h.2,
    λ n. let a : h.0 n + h.1 n ≤ 257 * 65536 = h.3 n in let b = one_name n of in let c = entries_within n entries in omega (arith, a, b, c, few),
  )

pub object_held : (ps : Slots) (t u v : Tally) (e : Name × Body) (of : Name) (entries : List Entry) → of ≡ e.1.of → entries ≡ e.1.entries → HoldsInside ps (of ∷ []) t u
    → HoldsInside ps (named_in entries) u v → HoldsInside ps (names_of e.1) t v
object_held ps t u v e of entries same all f g = (
  g.0 ∙ f.0,
  λ outer owed h. owed_same ps outer (owing (owing owed (of ∷ [])) (named_in entries)) (owing owed (names_of e.1)) v
      (λ n.
      let a = times-cons n of [] in
      let b = times-cons n e.1.of (named_in e.1.entries) in
      let z : times n [] ≡ 0 = times_none n in
      let c : times n (of ∷ []) ≡ times n (e.1.of ∷ []) = ap (λ (x : Name). times n (x ∷ [])) same in
      let d = times-cons n e.1.of [] in
      let k : times n (named_in entries) ≡ times n (named_in e.1.entries) = ap (λ (es : List Entry). times n (named_in es)) all in
      omega (arith, b, c, d, k, z)) (g.1 outer (owing owed (of ∷ [])) (f.1 outer owed h)),
)

pub nothing_held : (ps : Slots) (t : Tally) → HoldsInside ps [] t t
nothing_held ps t = (refl, λ outer owed h. owed_same ps outer owed (owing owed []) t (λ n. let z = times_none n in omega (arith, z)) h)

-- ---- the names of the first objects

namings_end : (ps : Slots) (p : Option (Name × Body)) (n : Name) → namings (ps ++ p ∷ []) n ≡ namings ps n + times n (names_in p)
namings_end [] p n = let a = namings-cons p [] n in let b = namings_none n in omega (arith, a, b)
namings_end (q ∷ ps) p n = let a = namings-cons q (ps ++ p ∷ []) n in let b = namings-cons q ps n in let c = namings_end ps p n in omega (arith, a, b, c)

pub namings_next : (ps : Slots) (i : ℕ) (n : Name) → i < length ps → namings (take (i + 1) ps) n ≡ namings (take i ps) n + times n (names_in (place ps i))
namings_next ps i n low = ap (λ (qs : Slots). namings qs n) (take_more ps i None low) ∙ namings_end (take i ps) (place ps i) n

place_take : (ps : Slots) (i k : ℕ) (e : Name × Body) → place (take i ps) k ≡ Some e → (k < i) × (place ps k ≡ Some e)
place_take [] zero k e here = absurd (cc)
place_take [] (suc i) k e here = absurd (cc)
place_take (p ∷ ps) zero k e here = absurd (cc)
place_take (p ∷ ps) (suc i) zero e here = (omega arith, here)
place_take (p ∷ ps) (suc i) (suc k) e here = let w = place_take ps i k e here in ((let a = w.0 in omega (arith, a)), w.1)

-- the first objects are counted, and have no more entries than they may
pub record AreFirstHeld (ps : Slots) (i : ℕ) (start t : Tally) : Type 0 where
  pub held : AreHeld ps (λ n. 0) (namings (take i ps)) t
  pub few : (k : ℕ) (e : Name × Body) → k < i → place ps k ≡ Some e → length e.1.entries ≤ 256
  pub first : t.first_new ≡ start.first_new

pub first_none : (ps : Slots) (t : Tally) → AreHeld ps (λ n. 0) (λ n. 0) t → AreFirstHeld ps 0 t t
first_none ps t h = record {
  held = owed_same ps (λ n. 0) (λ n. 0) (namings (take 0 ps)) t (λ n. sym (namings_none n)) h;
  few = λ k e low here. absurd (omega (arith, low));
  first = refl;
}

module _ (ps : Slots) (room : length ps ≡ 65536) (i : ℕ) (start t : Tally) (low : i < 65536) (h : AreFirstHeld ps i start t) where
  pub first_place : HasPlace ps t
  first_place = (
    λ n. 0,
    namings (take i ps),
    h.held,
    λ n.
        let a : namings (take i ps) n ≤ length (take i ps) * 257 = objects_within n (take i ps) (λ k e here. let w = place_take ps i k e here in h.few k e w.0 w.1) in
        let b : length (take i ps) ≡ i = length-take-le i ps (omega (arith, low, room)) in
        let c : 0 + namings (take i ps) n ≤ 257 * 65536 = omega (arith, a, b, low) in
        c,
  )

  pub first_more : (u : Tally) → HoldsInside ps (names_in (place ps i)) t u → IfSome (place ps i) (λ e. length e.1.entries ≤ 256) → AreFirstHeld ps (i + 1) start u
  first_more u f few = record {
    held = owed_same ps (λ n. 0) (owing (namings (take i ps)) (names_in (place ps i))) (namings (take (i + 1) ps)) u
        (λ n. sym (namings_next ps i n (omega (arith, low, room)))) (f.1 (λ n. 0) (namings (take i ps)) h.held);
    few = λ k e lower here. ⊎_elim
        (λ (same : k ≡ i). subst (λ (p : Option (Name × Body)). IfSome p (λ x. length x.1.entries ≤ 256)) (ap (place ps) (sym same) ∙ here) few)
        (λ (ne : k ≢ i). h.few k e (omega (arith, lower, ne)) here)
        (cases_eq k i);
    first = f.0 ∙ h.first;
  }

pub first_all : (ps : Slots) (room : length ps ≡ 65536) (i : ℕ) (start t : Tally) → 65536 ≤ i → AreFirstHeld ps i start t → AreHeld ps (λ n. 0) (namings ps) t
first_all ps room i start t high h =
    owed_same ps (λ n. 0) (namings (take i ps)) (namings ps) t (λ n. ap (λ (qs : Slots). namings qs n) (take_all i ps (omega (arith, room, high)))) h.held

pub first_few : (ps : Slots) (room : length ps ≡ 65536) (i : ℕ) (start t : Tally) → 65536 ≤ i → AreFirstHeld ps i start t → (k : ℕ) (e : Name × Body) → place ps k ≡ Some e
    → length e.1.entries ≤ 256
first_few ps room i start t high h k e here =
    let low : k < length ps = within_some ps k (subst (λ (p : Option (Name × Body)). IsSome p) (sym here) refl) in h.few k e (omega (arith, low, room, high)) here

-- ---- nothing is counted yet

zero_at : (m k : ℕ) → get_or {A = ℕ} (replicate m 0) k 0 ≡ 0
zero_at zero k = refl
zero_at (suc m) zero = refl
zero_at (suc m) (suc k) = zero_at m k

pub nothing_counted : (ps : Slots) (first : Name) (t : Tally) → length ps ≡ 65536 → ((k : ℕ) (n : Name) → name_at ps k ≡ Some n → n.0 < first.0)
    → t ≡ record { first_new = first; outside = replicate 65536 0; total = replicate 65536 0; pending = [] } → AreHeld ps (λ n. 0) (λ n. 0) t
nothing_counted ps first t room above e = by 65536 room e where
  due_none : (p : Option Name) → due (λ n. 0) p ≡ 0
  due_none None = refl
  due_none (Some n) = refl

  by : (m : ℕ) → length ps ≡ m → t ≡ record { first_new = first; outside = replicate m 0; total = replicate m 0; pending = [] } → AreHeld ps (λ n. 0) (λ n. 0) t
  by m many is = subst (λ (u : Tally). AreHeld ps (λ n. 0) (λ n. 0) u) (sym is) (record {
    counted = record {
      sizes = refl;
      room = λ k some. let low = within_some ps k some in let l = length-replicate {A = ℕ} m 0 in omega (arith, low, l, many);
      totals = λ k. let z = due_none (name_at ps k) in let a = zero_at m k in omega (arith, z, a);
      pending = λ k. (λ h. absurd (cc), λ w. absurd (let a = above k w.0 w.1 in let b = w.2 in omega (arith, a, b)));
    };
    outside = λ k n named made. zero_at m k;
    opening = λ k n named opens. zero_at m k;
    free = λ k none. zero_at m k;
    room = length-replicate {A = ℕ} m 0 ∙ sym many ∙ room;
  })

-- ---- the names of frames

pub all_names_sum : (n : Name) (stacks : List (List StackFrame)) → times n (all_names stacks) ≡ frame_namings n stacks
all_names_sum n [] = times_none n
all_names_sum n (fs ∷ rest) =
    omega (
      arith,
      times-append n (stack_names fs) (all_names rest),
      stack_names_sum n fs,
      all_names_sum n rest,
      sum_by-cons (λ (gs : List StackFrame). stack_namings n gs) fs rest,
    )

module _ (o : Shelf) (stacks : List (List StackFrame)) (room : length o.slots ≡ 65536)
    (few : (k : ℕ) (e : Name × Body) → place o.slots k ≡ Some e → length e.1.entries ≤ 256) (small : AreSmallStacks stacks) where
  small_with : (ps : List Process) → length ps ≤ 256 → AreSmall o.slots stacks ps
  small_with ps low = record { room = room; entries = few; many = small.many; frames = small.frames; spaces = small.spaces; processes = low }

  pub stacks_can : (t : Tally) → AreHeld o.slots (λ n. 0) (namings o.slots) t → CanHold o.slots (all_names stacks) t
  stacks_can t h = (
    λ n. 0,
    namings o.slots,
    h,
    λ n.
        let a = names_are_few n o.slots stacks [] (small_with [] (omega arith)) in
        let b = all_names_sum n stacks in
        omega (arith, a, b),
  )

  pub counted_told : (t u : Tally) (first : Name) → AreHeld o.slots (λ n. 0) (namings o.slots) t → t.first_new ≡ first → Holds o.slots (all_names stacks) t u → (ps : List Process)
      → length ps ≤ 256 → ((n : Name) → wait_namings n ps ≡ 0) → AreTold o stacks ps first u
  counted_told t u first h begins f ps low none = record {
    held = held_same o.slots (owing (λ n. 0) (all_names stacks)) (λ n. outside_namings n stacks ps) (namings o.slots) u
        (λ n. let a = all_names_sum n stacks in let b = none n in omega (arith, a, b)) (f.1 (λ n. 0) (namings o.slots) h);
    begins = f.0 ∙ begins;
    small = small_with ps low;
  }

-- nobody waits as a world opens
pub ready_unnamed : (n : Name) (k : ℕ) (tasks : List Task) → wait_namings n (all_ready k tasks) ≡ 0
ready_unnamed n k [] = refl
ready_unnamed n k (t ∷ ts) =
    let a = ready_unnamed n (k + 1) ts in
    let b = sum_by-cons (λ (p : Process). times n (run_names p.run)) (record { run = Ready; current = record { 0 = k } }) (all_ready (k + 1) ts) in
    let z = times_none n in
    omega (arith, a, b, z)

-- ---- the stacks of a world that opens

base_frames : (n : ℕ) (tasks : List Task) (q : ℕ) → length (slice_index_or (base_stacks n tasks) q []) ≤ 64
base_frames n [] q = omega arith
base_frames n (t ∷ ts) zero = omega arith
base_frames n (t ∷ ts) (suc q) = base_frames (n + 1) ts q

base_space : (es : List Entry) → length es ≤ 64 → length (es ++ replicate (64 - length es) Empty) ≤ 64
base_space es few =
    let a = length-append es (replicate (64 - length es) Empty) in let b = length-replicate {A = Entry} (64 - length es) Empty in omega (arith, a, b, few)

base_spaces : (w : WorldValue) (n : ℕ) (tasks : List Task) → AllByRecursion (IsTask w) tasks → (q k : ℕ) (f : StackFrame) → frame_at (base_stacks n tasks) q k ≡ Some f
    → length f.space ≤ 64
base_spaces w n [] all q k f here = absurd (cc)
base_spaces w n (t ∷ ts) all zero zero f here =
    let e : base_frame n t.slots ≡ f = cc in
    let l : length f.space ≡ length (base_frame n t.slots).space = ap (λ (g : StackFrame). length g.space) (sym e) in
    let m = base_space t.slots all.0.1 in omega (arith, l, m)
base_spaces w n (t ∷ ts) all zero (suc k) f here = absurd (cc)
base_spaces w n (t ∷ ts) all (suc q) k f here = base_spaces w (n + 1) ts all.1 q k f here

pub base_small : (w : WorldValue) (tasks : List Task) (i : ℕ) (stacks : List (List StackFrame)) → IsWorld w → tasks ≡ w.tasks → length tasks ≤ i
    → stacks ≡ base_stacks 0 (take i tasks) → AreSmallStacks stacks
base_small w tasks i stacks world same all is =
    let e : stacks ≡ base_stacks 0 w.tasks = is ∙ ap (base_stacks 0) (take_all i tasks all ∙ same) in
    subst (λ (ss : List (List StackFrame)). AreSmallStacks ss) (sym e) (record {
      many = let a = as_many_stacks 0 w.tasks in let b = world.few_tasks in omega (arith, a, b);
      frames = λ q. base_frames 0 w.tasks q;
      spaces = λ q k f here. base_spaces w 0 w.tasks world.tasks_are q k f here;
    })

-- a slot in which nothing stands, and one with an object
pub free_held : (ps : Slots) (s : ℕ) (t : Tally) → None ≡ name_at ps s → HoldsInside ps (names_in (place ps s)) t t
free_held ps s t none = by (place ps s) none where
  by : (p : Option (Name × Body)) → None ≡ option_map (λ (e : Name × Body). e.0) p → HoldsInside ps (names_in p) t t
  by None e = nothing_held ps t
  by (Some q) e = absurd (cc)

pub place_held : (ps : Slots) (s : ℕ) (n : Name) (t u v : Tally) (of : Name) (entries : List Entry) → Some n ≡ name_at ps s → IfSome (place ps s) (λ e. of ≡ e.1.of)
    → IfSome (place ps s) (λ e. entries ≡ e.1.entries) → HoldsInside ps (of ∷ []) t u → HoldsInside ps (named_in entries) u v → HoldsInside ps (names_in (place ps s)) t v
place_held ps s n t u v of entries named type all f g = by (place ps s) named type all where
  by : (p : Option (Name × Body)) → Some n ≡ option_map (λ (e : Name × Body). e.0) p → IfSome p (λ e. of ≡ e.1.of) → IfSome p (λ e. entries ≡ e.1.entries)
      → HoldsInside ps (names_in p) t v
  by None e a b = absurd (cc)
  by (Some q) e a b = object_held ps t u v q of entries a b f g
