use Rattle.std.proofs.Common.{◌≡◌, sym, ◌∙◌, ◌+◌, ◌++◌, [], ap, map, replicate, length, List, subst, ◌≤◌, Ok, arith}
use Rattle.hk_model.specs.declared.world.Born.{Born}
use Rattle.hk_model.specs.declared.world.Task.{Task}
use Rattle.hk_model.specs.Opening.{all_ready, proc_numbers, object_of, opening}
use Rattle.hk_model.specs.declared.names.Name.{Name}
use Rattle.hk_model.specs.declared.objects.Process.{Process}
use Rattle.hk_model.specs.State.{State, no_object}
use Rattle.hk_objects.specs.Shelf.{Shelf}
use Rattle.hk_objects.specs.Slots.{standing}
use Rattle.hk_queues.specs.Queued.{Queued}
use Rattle.hk_reclaim.specs.Tally.{Tally}
use Rattle.hk_walk.specs.Remembered.{Remembered}
use Rattle.hk_walk.specs.Walks.{shown_at}
use Rattle.hk_table.specs.Settled.{wait_namings}
use Rattle.hk_table.specs.Stacked.{Stacked, base_stacks}
use Rattle.hk_table.specs.Told.{AreTold, AllNamedStand}
use Rattle.hk_table.proofs.Gathered.{fact_of}
use Rattle.hk_table.proofs.OpenCounts.{ready_unnamed}
use Rattle.hk_table.proofs.Named.{opened_named}
use Rattle.hk_table.specs.Born.{named}
use Rattle.hk_table.proofs.Opens.{opened_queues, opened_joined, opened_state, told}
use Rattle.hk_table.proofs.parts.Parts.open.Goals as goal

-- what was made before the walker, the stacks, the queues: the same values

first_four : (c : goal.After-limit) → (((c.in_ok-objects-2.objects, c.in_ok-objects-2.processes), c.in_ok-objects-2.queues), c.in_ok-objects-2.stacks) ≡ c.in_ok-made-3.made
first_four c = ap (λ m. m.0) c.in_ok-objects-2.ensures.0 ∙ c.in_ok-made-4.ensures.0

first_three : (c : goal.After-limit) → ((c.in_ok-objects-2.objects, c.in_ok-objects-2.processes), c.in_ok-objects-2.queues) ≡ c.in_ok-made-2.made
first_three c = ap (λ m. m.0) (first_four c) ∙ c.in_ok-made-3.ensures.0

first_two : (c : goal.After-limit) → (c.in_ok-objects-2.objects, c.in_ok-objects-2.processes) ≡ c.in_ok-made.made
first_two c = ap (λ m. m.0) (first_three c) ∙ c.in_ok-made-2.ensures.0

first : (c : goal.After-limit) → c.in_ok-objects-2.objects ≡ c.in_ok-objects.objects
first c = ap (λ m. m.0) (first_two c) ∙ c.in_ok-made.ensures.0

-- what each answer was

processes_made : (c : goal.After-limit) → c.all_ready.result ≡ Ok c.in_ok-objects-2.processes
processes_made c = c.in_ok-made.ensures.1 ∙ ap (λ m. Ok m.1) (sym (first_two c))

queues_made : (c : goal.After-limit) → c.all_queued.result ≡ Ok c.in_ok-objects-2.queues
queues_made c = c.in_ok-made-2.ensures.1 ∙ ap (λ m. Ok m.1) (sym (first_three c))

stacks_made : (c : goal.After-limit) → c.open.result ≡ Ok c.in_ok-objects-2.stacks
stacks_made c = c.in_ok-made-3.ensures.1 ∙ ap (λ m. Ok m.1) (sym (first_four c))

walker_made : (c : goal.After-limit) → c.with-4.result ≡ Ok c.in_ok-objects-2.walker
walker_made c = c.in_ok-made-4.ensures.1 ∙ ap (λ m. Ok m.1) (sym c.in_ok-objects-2.ensures.0)

-- and so what holds of each

objects_named : (c : goal.After-limit) → standing (map shown_at c.in_ok-objects-2.objects.slots) ≡ named (replicate 7 no_object ++ map (λ (b : Born). object_of b.kind) c.args.world.now.objects)
objects_named c = ap (λ (o : Shelf). standing (map shown_at o.slots)) (first c) ∙ c.in_ok-objects.ensures.objects
    ∙ ap (λ (bs : List Born). named (replicate 7 no_object ++ map (λ (b : Born). object_of b.kind) bs)) c.born_of-born.ensures.value

next_object : (c : goal.After-limit) → c.in_ok-objects-2.objects.next.0 ≡ 7 + length c.args.world.now.objects
next_object c = ap (λ (o : Shelf). o.next.0) (first c) ∙ c.in_ok-objects.ensures.next ∙ ap (λ (bs : List Born). 7 + length bs) c.born_of-born.ensures.value

processes_ready : (c : goal.After-limit) → c.in_ok-objects-2.processes ≡ all_ready 0 c.args.world.now.tasks
processes_ready c = fact_of (λ (ps : List Process). ps ≡ all_ready 0 c.tasks_of-tasks.result.now) c.all_ready.ensures.state (processes_made c) ∙ ap (all_ready 0) c.tasks_of-tasks.ensures.value

many_processes : (c : goal.After-limit) → length c.in_ok-objects-2.processes ≡ length c.tasks_of-tasks.result.now
many_processes c = fact_of (λ (ps : List Process). length ps ≡ length c.tasks_of-tasks.result.now) c.all_ready.ensures.many (processes_made c)

all_queued_are : (c : goal.After-limit) → c.in_ok-objects-2.queues.processes ≡ length c.args.world.now.tasks
all_queued_are c = fact_of (λ (q : Queued). q.processes ≡ length c.tasks_of-tasks.result.now) c.all_queued.ensures.all (queues_made c)
    ∙ ap (λ (ts : List Task). length ts) c.tasks_of-tasks.ensures.value

queues_ready : (c : goal.After-limit) → c.in_ok-objects-2.queues.ready ≡ proc_numbers 0 c.args.world.now.tasks
queues_ready c = fact_of (λ (q : Queued). q.ready ≡ proc_numbers 0 c.tasks_of-tasks.result.now) c.all_queued.ensures.ready (queues_made c)
    ∙ ap (proc_numbers 0) c.tasks_of-tasks.ensures.value

nobody_waits : (c : goal.After-limit) → c.in_ok-objects-2.queues.waiting ≡ replicate 65536 []
nobody_waits c = fact_of (λ (q : Queued). q.waiting ≡ replicate 65536 []) c.all_queued.ensures.waiting (queues_made c)

stacks_based : (c : goal.After-limit) → c.in_ok-objects-2.stacks.stacks ≡ base_stacks 0 c.args.world.now.tasks
stacks_based c = fact_of (λ (st : Stacked). st.stacks ≡ base_stacks 0 c.args.world.now.tasks) c.open.ensures.stacks (stacks_made c)

next_incarnation : (c : goal.After-limit) → c.in_ok-objects-2.stacks.next.0 ≡ length c.args.world.now.tasks
next_incarnation c = fact_of (λ (st : Stacked). st.next.0 ≡ length c.args.world.now.tasks) c.open.ensures.next (stacks_made c)

nothing_remembered : (c : goal.After-limit) → c.in_ok-objects-2.walker ≡ record { capacity = 256; pairs = [] }
nothing_remembered c = fact_of (λ (w : Remembered). w ≡ record { capacity = 256; pairs = [] }) c.with-4.ensures (walker_made c)

first_new_is : (c : goal.After-limit) → c.next_name-first_new.result.0 ≡ 7 + length c.args.world.now.objects
first_new_is c = ap (λ (m : Name). m.0) c.next_name-first_new.ensures.name ∙ next_object c

opened_as : (c : goal.After-limit) → told c.in_ok-objects-2.objects c.in_ok-objects-2.queues c.in_ok-objects-2.processes c.in_ok-objects-2.stacks c.next_name-first_new.result 0 c.limit.result ≡ opening c.args.world.now
opened_as c = opened_state c.args.world.now c.in_ok-objects-2.objects c.in_ok-objects-2.queues c.in_ok-objects-2.processes c.in_ok-objects-2.stacks
    c.next_name-first_new.result c.limit.result (objects_named c) (next_object c) (queues_ready c) (nobody_waits c) (processes_ready c) (stacks_based c)
    (next_incarnation c) (first_new_is c) c.limit.ensures.value

all_told : (c : goal.After-limit) → AreTold c.in_ok-objects-2.objects c.in_ok-objects-2.stacks.stacks c.in_ok-objects-2.processes c.next_name-first_new.result c.in_ok-objects-2.counts
all_told c =
    let few : length c.in_ok-objects-2.processes ≤ 256 = omega (arith, many_processes c, c.tasks_of-tasks.ensures.few) in
    let found : AreTold c.in_ok-made-4.made.0.0.0.0 c.in_ok-made-4.made.0.1.stacks c.in_ok-objects-2.processes c.in_ok-made-4.made.0.0.0.0.next c.in_ok-objects-2.counts =
    fact_of (λ (t : Tally). (ps : List Process) → length ps ≤ 256 → ((n : Name) → wait_namings n ps ≡ 0)
    → AreTold c.in_ok-made-4.made.0.0.0.0 c.in_ok-made-4.made.0.1.stacks ps c.in_ok-made-4.made.0.0.0.0.next t)
    c.counted-counts.ensures c.in_ok-objects-2.ensures.1 c.in_ok-objects-2.processes few
    (λ n. ap (λ (ps : List Process). wait_namings n ps) (processes_ready c) ∙ ready_unnamed n 0 c.args.world.now.tasks) in
    subst (λ (new : Name). AreTold c.in_ok-objects-2.objects c.in_ok-objects-2.stacks.stacks c.in_ok-objects-2.processes new c.in_ok-objects-2.counts)
    (sym c.next_name-first_new.ensures.name)
    (subst (λ m. AreTold m.0.0.0.0 m.0.1.stacks c.in_ok-objects-2.processes m.0.0.0.0.next c.in_ok-objects-2.counts) (sym c.in_ok-objects-2.ensures.0) found)

pub invariant_of-result : goal.invariant_of-result
invariant_of-result c = record {
  joined = opened_joined c.in_ok-objects-2.objects c.in_ok-objects-2.queues c.in_ok-objects-2.processes c.in_ok-objects-2.stacks c.in_ok-objects-2.walker c.args.world.now.tasks
      (opened_queues c.in_ok-objects-2.objects.slots c.in_ok-objects-2.queues c.in_ok-objects-2.processes c.args.world.now.tasks
      (all_queued_are c) (queues_ready c) (nobody_waits c) (processes_ready c))
      (processes_ready c) (stacks_based c) (next_incarnation c) (nothing_remembered c);
  told = all_told c;
}

pub returns-clause-numbers : goal.returns-clause-numbers
returns-clause-numbers c = (
  omega (arith, ap (λ (o : Shelf). o.next.0) (first c), c.in_ok-objects.ensures.next, c.born_of-born.ensures.few),
  omega
      (arith, next_incarnation c, subst (λ (ts : List Task). length ts ≤ 256) c.tasks_of-tasks.ensures.value c.tasks_of-tasks.ensures.few),
)

pub returns-clause-state : goal.returns-clause-state
returns-clause-state c = opened_as c

pub returns-clause-named : goal.returns-clause-named
returns-clause-named c = subst (λ (s : State). AllNamedStand s) (sym (opened_as c)) (opened_named c.args.world.now c.limit.ensures.valid)
