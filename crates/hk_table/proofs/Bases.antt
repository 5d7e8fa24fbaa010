-- The stacks as a world opens.
use Rattle.std.proofs.Common.{◌≡◌, ℕ, zero, suc, ◌+◌, ◌-◌, ◌<◌, ◌≤◌, List, [], ◌∷◌, ◌++◌, length, get_or, set, take, replicate, Some, refl, sym, ap, ◌∙◌, subst}
use Rattle.std.proofs.Common.{arith, append_assoc}
use Rattle.std.specs.Ordering.{nat_cmp}
use Rattle.std.specs.declared.cmp.Ordering.TheVariants.{Less}
use Rattle.std.specs.BTreeMap.{insert_entry}
use Rattle.std.proofs.lemmas.List.{set_at, take_all, take_more, length-take-le}
use Rattle.std.proofs.lemmas.Bool.Decides.{nat_tests}
use Rattle.hk_model.specs.declared.names.Inc.{Inc}
use Rattle.hk_model.specs.declared.entries.Entry.{Entry}
use Rattle.hk_model.specs.declared.entries.Entry.TheVariants.{Empty}
use Rattle.hk_model.specs.declared.objects.Incarnation.{Incarnation}
use Rattle.hk_model.specs.declared.world.Task.{Task}
use Rattle.hk_model.specs.State.{inc_cmp}
use Rattle.hk_model.specs.Opening.{bases, base_of}
use Rattle.hk_spaces.specs.Spaces.{empty_slots}
use Rattle.hk_spaces.specs.declared.stack.StackFrame.{StackFrame}
use Rattle.hk_table.specs.Stacked.{live_from, frame_at, AreNumbered, base_frame, base_stacks}

-- the first entries of a name space, and nothing behind them
pub begun : (space : List Entry) → space ≡ empty_slots → space ≡ take 0 [] ++ replicate (64 - 0) Empty
unfolding empty_slots
begun space e = e

one_more : (es : List Entry) (i : ℕ) (d : Entry) (space : List Entry) → i < length es → length es ≤ 64 → space ≡ take i es ++ replicate (64 - i) Empty
    → set space i (get_or es i d) ≡ take (i + 1) es ++ replicate (64 - (i + 1)) Empty
one_more es i d space there few e =
    let size : length (take i es) ≡ i = length-take-le i es (omega arith) in
    let left : 64 - i ≡ suc (64 - (i + 1)) = omega arith in
    let more : take (i + 1) es ≡ take i es ++ get_or es i d ∷ [] = take_more es i d there in
    ap (λ s. set s i (get_or es i d)) (e ∙ ap (λ n. take i es ++ replicate n Empty) left)
    ∙ set_at (take i es) Empty (replicate (64 - (i + 1)) Empty) (get_or es i d) i size
    ∙ sym (append_assoc (take i es) (get_or es i d ∷ []) (replicate (64 - (i + 1)) Empty))
    ∙ ap (λ s. s ++ replicate (64 - (i + 1)) Empty) (sym more)

pub one_more_read : (es : List Entry) (i : ℕ) (d : Entry) (space next : List Entry) → i < length es → length es ≤ 64 → d ≡ get_or es i d
    → space ≡ take i es ++ replicate (64 - i) Empty → next ≡ set space i d
    → next ≡ take (i + 1) es ++ replicate (64 - (i + 1)) Empty
one_more_read es i d space next there few read e n = n ∙ ap (set space i) read ∙ one_more es i d space there few e

-- one more stack at the end
last_stack : (n : ℕ) (tasks : List Task) (t : Task) → base_stacks n tasks ++ (base_frame (n + length tasks) t.slots ∷ []) ∷ [] ≡ base_stacks n (tasks ++ t ∷ [])
last_stack n [] t = let same : n + 0 ≡ n = omega arith in rw same refl
last_stack n (first ∷ rest) t =
    let same : n + suc (length rest) ≡ n + 1 + length rest = omega arith in
    rw same (ap (λ (stacks : List (List StackFrame)). (base_frame n first.slots ∷ []) ∷ stacks) (last_stack (n + 1) rest t))

pub next_stack : (tasks : List Task) (i : ℕ) (t : Task) (so_far : List (List StackFrame)) (stack : List StackFrame) → i < length tasks → t ≡ get_or tasks i t
    → so_far ≡ base_stacks 0 (take i tasks) → stack ≡ base_frame i t.slots ∷ []
    → so_far ++ stack ∷ [] ≡ base_stacks 0 (take (i + 1) tasks)
next_stack tasks i t so_far stack there read before is =
    let many : i ≡ 0 + length (take i tasks) = omega (arith, length-take-le i tasks (omega arith)) in
    ap (λ (stacks : List (List StackFrame)). stacks ++ stack ∷ []) before
    ∙ ap (λ (fs : List StackFrame). base_stacks 0 (take i tasks) ++ fs ∷ []) is
    ∙ ap (λ (x : Task). base_stacks 0 (take i tasks) ++ (base_frame i x.slots ∷ []) ∷ []) read
    ∙ ap (λ (k : ℕ). base_stacks 0 (take i tasks) ++ (base_frame k (get_or tasks i t).slots ∷ []) ∷ []) many
    ∙ last_stack 0 (take i tasks) (get_or tasks i t)
    ∙ ap (base_stacks 0) (sym (take_more tasks i t there))

-- a frame of these stacks is the base of its process
base_at : (n : ℕ) (tasks : List Task) (q k : ℕ) (f : StackFrame) → frame_at (base_stacks n tasks) q k ≡ Some f → (f.inc.0 ≡ n + q) × (k ≡ 0) × (q < length tasks)
base_at n [] q k f e = absurd (cc)
base_at n (t ∷ ts) zero zero f e =
    let same : base_frame n t.slots ≡ f = cc in
    let number : f.inc.0 ≡ n = ap (λ (x : StackFrame). x.inc.0) (sym same) in
    (omega arith, refl, omega arith)
base_at n (t ∷ ts) zero (suc k) f e = absurd (cc)
base_at n (t ∷ ts) (suc q) k f e = let h = base_at (n + 1) ts q k f e in (omega (arith, h.0), h.1, omega (arith, h.2))

pub base_numbered : (tasks : List Task) (i : ℕ) (stacks : List (List StackFrame)) → length tasks ≤ i → stacks ≡ base_stacks 0 (take i tasks)
    → AreNumbered stacks (record { 0 = length tasks })
base_numbered tasks i stacks past e =
    subst (λ (s : List (List StackFrame)). AreNumbered s (record { 0 = length tasks })) (sym (e ∙ ap (base_stacks 0) (take_all i tasks past))) (record {
      apart = λ p q i j f g a b same. let h = base_at 0 tasks p i f a in let k = base_at 0 tasks q j g b in (omega (arith, h.0, k.0), h.1 ∙ sym k.1);
      below = λ q k f a. let h = base_at 0 tasks q k f a in omega (arith, h.0, h.2);
    })

-- the base incarnations stand by rising number
first_base : (n : ℕ) (tasks : List Task) (base : Incarnation) → insert_entry inc_cmp (bases (n + 1) tasks) (record { 0 = n }) base ≡ (record { 0 = n }, base) ∷ bases (n + 1) tasks
first_base n [] base = refl
first_base n (t ∷ ts) base = let less : nat_cmp n (n + 1) ≡ Less = grind (arith, nat_tests) in rw less refl

pub live_bases : (n : ℕ) (tasks : List Task) → live_from n (base_stacks n tasks) ≡ bases n tasks
live_bases n [] = refl
live_bases n (t ∷ ts) =
    ap (λ (es : List (Inc × Incarnation)). insert_entry inc_cmp es (record { 0 = n }) (base_of (record { 0 = n }) t.slots)) (live_bases (n + 1) ts)
    ∙ first_base n ts (base_of (record { 0 = n }) t.slots)
