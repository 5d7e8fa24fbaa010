-- The parts of an object of the state, read and written in its slot.
use Rattle.std.proofs.Common.{◌≡◌, ℕ, List, [], Option, Some, IfSome, ap, ◌∙◌, sym, subst}
use Rattle.hk_model.specs.declared.names.Name.{Name}
use Rattle.hk_model.specs.declared.names.Proc.{Proc}
use Rattle.hk_model.specs.declared.objects.Object.{Object}
use Rattle.hk_model.specs.declared.objects.Process.{Process}
use Rattle.hk_model.specs.State.{object, put_object, no_object}
use Rattle.hk_objects.specs.declared.body.Body.{Body}
use Rattle.hk_objects.specs.Shelf.{Shelf}
use Rattle.hk_objects.specs.Slots.{standing, place, name_at, AreApart, change}
use Rattle.hk_objects.proofs.Standing.{name_at_change}
use Rattle.hk_queues.specs.Queued.{Queued}
use Rattle.hk_walk.specs.Remembered.{Remembered}
use Rattle.hk_walk.specs.Walks.{seen, AreRight}
use Rattle.hk_walk.proofs.Kept.{right_same, right_none}
use Rattle.hk_table.specs.Whole.{whole, whole_object}
use Rattle.hk_table.specs.Stacked.{Stacked}
use Rattle.hk_table.specs.Joined.{IsJoined}
use Rattle.hk_table.proofs.Opens.{told}
use Rattle.hk_table.proofs.Whole.{object_in, part_read, part_written, missing_read, missing_stays}
use Rattle.hk_table.proofs.EntryLists.{lists_stay}

module _ (ps : List (Option (Name × Body))) (ws : List (List Proc)) (s : ℕ) (n : Name) (apart : AreApart ps) (named : name_at ps s ≡ Some n) where
  -- a part that was read in the slot
  pub read_is : {Y : Type 0} (f : Body → Y) (g : Object → Y) → ((b : Body) (procs : List Proc) → g (whole_object b procs) ≡ f b) → (y : Y) → IfSome (place ps s) (λ e. y ≡ f e.1)
      → y ≡ g (object_in (standing (whole ps ws)) n)
  read_is f g same y read = part_read ps ws s n apart named f g same y (λ b here. subst (λ (p : Option (Name × Body)). IfSome p (λ e. y ≡ f e.1)) here read)

pub missing_is : {Y : Type 0} (ps : List (Option (Name × Body))) (ws : List (List Proc)) (n : Name) (g : Object → Y) → ((k : ℕ) → name_at ps k ≡ Some n → ⊥)
    → g no_object ≡ g (object_in (standing (whole ps ws)) n)
missing_is ps ws n g none = sym (ap g (missing_read ps ws n none))

-- a part that was written there
pub part_joined : (objects new : Shelf) (q : Queued) (ps : List Process) (st : Stacked) (w : Remembered) (s : ℕ) (f : Body → Body) → ((b : Body) → (f b).entries ≡ b.entries)
    → IsJoined objects q ps st w
    → new ≡ record objects { slots = change objects.slots s f } → IsJoined new q ps st w
part_joined objects new q ps st w s f same h e = subst (λ (v : Shelf). IsJoined v q ps st w) (sym e) (record {
  queued = record {
    lists = h.queued.lists;
    all = h.queued.all;
    ready = h.queued.ready;
    waiting = λ k proc in'. let v = h.queued.waiting k proc in' in (v.0, name_at_change objects.slots s f k ∙ v.1, v.2);
    ready_once = h.queued.ready_once;
    waiting_once = h.queued.waiting_once;
  };
  stacked = h.stacked;
  current = h.current;
  known = h.known;
  right = right_same (seen objects.slots) (seen (change objects.slots s f)) (lists_stay objects.slots s f same) w.pairs h.right;
})

-- the same of a part that walks go by, where none is remembered
pub part_forgot : (objects new : Shelf) (q : Queued) (ps : List Process) (st : Stacked) (w forgot : Remembered) (s : ℕ) (f : Body → Body) → IsJoined objects q ps st w
    → new ≡ record objects { slots = change objects.slots s f } → forgot ≡ record w { pairs = [] } → IsJoined new q ps st forgot
part_forgot objects new q ps st w forgot s f h e none = subst (λ (v : Shelf). IsJoined v q ps st forgot) (sym e) (record {
  queued = record {
    lists = h.queued.lists;
    all = h.queued.all;
    ready = h.queued.ready;
    waiting = λ k proc in'. let v = h.queued.waiting k proc in' in (v.0, name_at_change objects.slots s f k ∙ v.1, v.2);
    ready_once = h.queued.ready_once;
    waiting_once = h.queued.waiting_once;
  };
  stacked = h.stacked;
  current = h.current;
  known = h.known;
  right = subst (λ (v : Remembered). AreRight (seen (change objects.slots s f)) v.pairs) (sym none) (right_none (seen (change objects.slots s f)));
})

pub part_told : (objects new : Shelf) (q : Queued) (ps : List Process) (st : Stacked) (first_new : Name) (events limit s : ℕ) (n : Name) (f : Body → Body) (g : Object → Object)
    → AreApart objects.slots → name_at objects.slots s ≡ Some n → ((b : Body) (procs : List Proc) → whole_object (f b) procs ≡ g (whole_object b procs))
    → new ≡ record objects { slots = change objects.slots s f }
    → told new q ps st first_new events limit ≡ put_object (told objects q ps st first_new events limit) n (g (object (told objects q ps st first_new events limit) n))
part_told objects new q ps st first_new events limit s n f g apart named same e =
    ap (λ (v : Shelf). told v q ps st first_new events limit) e
    ∙ (λ i. record (told objects q ps st first_new events limit) { objects = part_written objects.slots q.waiting s n apart named f g same i })

pub missing_told : (objects : Shelf) (q : Queued) (ps : List Process) (st : Stacked) (first_new : Name) (events limit : ℕ) (n : Name) (o : Object)
    → ((k : ℕ) → name_at objects.slots k ≡ Some n → ⊥)
    → told objects q ps st first_new events limit ≡ put_object (told objects q ps st first_new events limit) n o
missing_told objects q ps st first_new events limit n o none =
    λ i. record (told objects q ps st first_new events limit) { objects = sym (missing_stays objects.slots q.waiting n none o) i }
