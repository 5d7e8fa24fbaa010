-- What is named stands: each call, halt and dispatch keeps it.
use Rattle.std.proofs.Common.{◌≡◌, ℕ, zero, suc, List, [], ◌∷◌, ◌++◌, Bool, true, false, Option, Some, None, refl, sym, ◌∙◌, ap, cond, map, replicate, slice_get}
use Rattle.std.specs.Prelude.{◌||◌, not, slice_set, slice_index_or, filter, is_some, ◌==◌}
use Rattle.std.specs.Option.{unwrap_or}
use Rattle.std.specs.List.{AllByRecursion, flat_map}
use Rattle.std.specs.Map.{lookup, set_value, remove_entry}
use Rattle.std.specs.BTreeMap.{insert_entry}
use Rattle.std.specs.Ordering.{is_eq}
use Rattle.std.specs.declared.cmp.Ordering.{Ordering}
use Rattle.std.proofs.lemmas.Bool.{or_left, or_right, false≢true, true≢false}
use Rattle.std.proofs.lemmas.Map.Entries.{lookup-filter-keys}
use Rattle.hk_model.specs.declared.names.Name.{Name}
use Rattle.hk_model.specs.declared.names.Inc.{Inc}
use Rattle.hk_model.specs.declared.names.Proc.{Proc}
use Rattle.hk_model.specs.declared.entries.Entry.{Entry}
use Rattle.hk_model.specs.declared.entries.Entry.TheVariants.{Empty}
use Rattle.hk_model.specs.declared.objects.Object.{Object}
use Rattle.hk_model.specs.declared.objects.Incarnation.{Incarnation}
use Rattle.hk_model.specs.declared.objects.Process.{Process}
use Rattle.hk_model.specs.declared.objects.ProcessState.TheVariants.{Ended}
use Rattle.hk_model.specs.State.{State, object, incarnation, process, put_object, put_slot, put_process, add_object, same_name, same_inc, name_cmp, inc_cmp, no_object}
use Rattle.hk_model.specs.State.{no_incarnation}
use Rattle.hk_model.specs.Keeping.{entry_names, object_names, run_names, outer_names, is_among, stands, is_opening, are_supporting, supports}
use Rattle.hk_model.specs.Rule.{enter}
use Rattle.hk_model.specs.Processors.{ended}
use Rattle.hk_model.specs.Places.{Place, SlotOf, EntryOf, standing}
use Rattle.hk_model.proofs.Standing.{name_same, name_laws, on_cond, on_ordering}
use Rattle.hk_model.proofs.Keeping.{inner, of_all, below_all, supports_more, Vanish}

-- ---- what holds of all of a list

abbrev pub All : {X : Type 0} → (X → Type 0) → List X → Type 0
All R xs = AllByRecursion R xs

pub all_more : {X : Type 0} (R Q : X → Type 0) → ((x : X) → R x → Q x) → (xs : List X) → All R xs → All Q xs
all_more R Q f [] h = tt
all_more R Q f (x ∷ xs) h = (f x h.0, all_more R Q f xs h.1)

pub all_each : {X : Type 0} (R : X → Type 0) → ((x : X) → R x) → (xs : List X) → All R xs
all_each R f [] = tt
all_each R f (x ∷ xs) = (f x, all_each R f xs)

pub all_append : {X : Type 0} (R : X → Type 0) (xs ys : List X) → All R xs → All R ys → All R (xs ++ ys)
all_append R [] ys h g = g
all_append R (x ∷ xs) ys h g = (h.0, all_append R xs ys h.1 g)

all_first : {X : Type 0} (R : X → Type 0) (xs ys : List X) → All R (xs ++ ys) → All R xs
all_first R [] ys h = tt
all_first R (x ∷ xs) ys h = (h.0, all_first R xs ys h.1)

all_last : {X : Type 0} (R : X → Type 0) (xs ys : List X) → All R (xs ++ ys) → All R ys
all_last R [] ys h = h
all_last R (x ∷ xs) ys h = all_last R xs ys h.1

all_flat : {X : Type 0} (R : Name → Type 0) (f : X → List Name) (xs : List X) → All (λ x. All R (f x)) xs → All R (flat_map f xs)
all_flat R f [] h = tt
all_flat R f (x ∷ xs) h = all_append R (f x) (flat_map f xs) h.0 (all_flat R f xs h.1)

flat_all : {X : Type 0} (R : Name → Type 0) (f : X → List Name) (xs : List X) → All R (flat_map f xs) → All (λ x. All R (f x)) xs
flat_all R f [] h = tt
flat_all R f (x ∷ xs) h = (all_first R (f x) (flat_map f xs) h, flat_all R f xs (all_last R (f x) (flat_map f xs) h))

pub all_map : {X Y : Type 0} (R : Y → Type 0) (f : X → Y) (xs : List X) → All (λ x. R (f x)) xs → All R (map f xs)
all_map R f [] h = tt
all_map R f (x ∷ xs) h = (h.0, all_map R f xs h.1)

pub all_replicate : {X : Type 0} (R : X → Type 0) (n : ℕ) (x : X) → R x → All R (replicate n x)
all_replicate R zero x h = tt
all_replicate R (suc n) x h = (h, all_replicate R n x h)

pub all_set : {X : Type 0} (R : X → Type 0) (xs : List X) (n : ℕ) (x : X) → All R xs → R x → All R (slice_set xs n x)
all_set R [] n x h g = tt
all_set R (y ∷ ys) zero x h g = (g, h.1)
all_set R (y ∷ ys) (suc n) x h g = (h.0, all_set R ys n x h.1 g)

pub all_at : (R : Entry → Type 0) → R Empty → (xs : List Entry) (n : ℕ) → All R xs → R (slice_index_or xs n Empty)
all_at R none [] n h = none
all_at R none (x ∷ xs) zero h = h.0
all_at R none (x ∷ xs) (suc n) h = all_at R none xs n h.1

all_got : {X : Type 0} (R : X → Type 0) (none : X) → R none → (xs : List X) (n : ℕ) → All R xs → R (unwrap_or (slice_get xs n) none)
all_got R none h [] n g = h
all_got R none h (x ∷ xs) zero g = g.0
all_got R none h (x ∷ xs) (suc n) g = all_got R none h xs n g.1

pub all_filter : {X : Type 0} (R : X → Type 0) (p : X → Bool) (xs : List X) → All R xs → All R (filter p xs)
all_filter R p [] h = tt
all_filter R p (x ∷ xs) h = on_cond (All R) (p x) (x ∷ filter p xs) (filter p xs) (λ e. (h.0, all_filter R p xs h.1)) (λ e. all_filter R p xs h.1)

module _ {K X : Type 0} (R : X → Type 0) where
  abbrev pub Values : List (K × X) → Type 0
  Values es = All (λ (e : K × X). R e.1) es

  all_found : (test : K → Bool) (none : X) → R none → (es : List (K × X)) → Values es → R (unwrap_or (lookup test es) none)
  all_found test none h [] g = h
  all_found test none h (e ∷ es) g = on_cond (λ (o : Option X). R (unwrap_or o none)) (test e.0) (Some e.1) (lookup test es) (λ k. g.0) (λ k. all_found test none h es g.1)

  all_put : (test : K → Bool) (es : List (K × X)) (x : X) → Values es → R x → Values (set_value test es x)
  all_put test [] x h g = tt
  all_put test (e ∷ es) x h g = on_cond Values (test e.0) ((e.0, x) ∷ es) (e ∷ set_value test es x) (λ k. (g, h.1)) (λ k. (h.0, all_put test es x h.1 g))

  all_insert : (cmp : K → K → Ordering) (k : K) (es : List (K × X)) (x : X) → Values es → R x → Values (insert_entry cmp es k x)
  all_insert cmp k [] x h g = (g, tt)
  all_insert cmp k (e ∷ es) x h g =
      on_ordering Values (cmp k e.0) ((k, x) ∷ e ∷ es) ((e.0, x) ∷ es) (e ∷ insert_entry cmp es k x)
      (λ o. (g, h)) (λ o. (g, h.1)) (λ o. (h.0, all_insert cmp k es x h.1 g))

  all_remove : (test : K → Bool) (es : List (K × X)) → Values es → Values (remove_entry test es)
  all_remove test [] h = tt
  all_remove test (e ∷ es) h = on_cond Values (test e.0) es (e ∷ remove_entry test es) (λ k. h.1) (λ k. (h.0, all_remove test es h.1))

-- what holds of all names holds of each that is among them, and the other way round
among_all : (R : Name → Type 0) (xs : List Name) → All R xs → (n : Name) → is_among n xs ≡ true → R n
among_all R [] h n g = absurd (false≢true g)
among_all R (x ∷ xs) h n g = by (among_all R xs h.1 n) (same_name n x) refl g
  where
    by : (is_among n xs ≡ true → R n) → (b : Bool) → same_name n x ≡ b → (b || is_among n xs) ≡ true → R n
    by later true e k = let same = name_same n x e in rw same h.0
    by later false e k = later k

all_among : (R : Name → Type 0) (xs : List Name) → ((n : Name) → is_among n xs ≡ true → R n) → All R xs
all_among R [] f = tt
all_among R (x ∷ xs) f = (f x (or_left (same_name x x) (is_among x xs) (name_laws.refl x)), all_among R xs (λ n h. f n (or_right (same_name n x) (is_among n xs) h)))

-- ---- what holds of all names of a state

module _ (R : Name → Type 0) where
  -- of those that an entry, an object or a process names
  abbrev pub InEntry : Entry → Type 0
  InEntry x = All R (entry_names x)

  abbrev pub InList : List Entry → Type 0
  InList xs = All InEntry xs

  abbrev pub InObject : Object → Type 0
  InObject o = R o.of × InList o.entries

  abbrev pub InSlots : Incarnation → Type 0
  InSlots x = InList x.slots

  abbrev pub InRun : Process → Type 0
  InRun p = All R (run_names p.run)

  pub record Within (s : State) : Type 0 where
    pub opening : (n : Name) → is_opening s n ≡ true → R n
    pub slots : All (λ (e : Inc × Incarnation). InSlots e.1) s.incarnations
    pub runs : All InRun s.processes
    pub objects : All (λ (e : Name × Object). InObject e.1) s.objects

  pub within_names : (s : State) → Within s → (n : Name) → are_supporting s s.objects n ≡ true → R n
  within_names s h n g = by (is_opening s n) refl g
    where
      outer : All R (outer_names s)
      outer = all_append R (flat_map (λ (e : Inc × Incarnation). flat_map entry_names e.1.slots) s.incarnations) (flat_map (λ (p : Process). run_names p.run) s.processes)
          (all_flat R (λ (e : Inc × Incarnation). flat_map entry_names e.1.slots) s.incarnations
          (all_more (λ (e : Inc × Incarnation). InSlots e.1) (λ e. All R (flat_map entry_names e.1.slots)) (λ e k. all_flat R entry_names e.1.slots k) s.incarnations h.slots))
          (all_flat R (λ (p : Process). run_names p.run) s.processes h.runs)

      listed : All R (inner s.objects)
      listed = all_flat R (λ (e : Name × Object). object_names e.1) s.objects
          (all_more (λ (e : Name × Object). InObject e.1) (λ e. All R (object_names e.1)) (λ e k. (k.0, all_flat R entry_names e.1.entries k.1)) s.objects h.objects)

      by : (b : Bool) → is_opening s n ≡ b → (b || is_among n (outer_names s ++ inner s.objects)) ≡ true → R n
      by true e k = h.opening n e
      by false e k = among_all R (outer_names s ++ inner s.objects) (all_append R (outer_names s) (inner s.objects) outer listed) n k

  names_within : (s : State) → ((n : Name) → are_supporting s s.objects n ≡ true → R n) → Within s
  names_within s f =
      let named = all_among R (outer_names s ++ inner s.objects) (λ n h. f n (or_right (is_opening s n) (is_among n (outer_names s ++ inner s.objects)) h)) in
      let outer = all_first R (outer_names s) (inner s.objects) named in
      record {
        opening = λ n h. f n (or_left (is_opening s n) (is_among n (outer_names s ++ inner s.objects)) h);
        slots = all_more (λ (e : Inc × Incarnation). All R (flat_map entry_names e.1.slots)) (λ e. InSlots e.1) (λ e k. flat_all R entry_names e.1.slots k) s.incarnations
            (flat_all R (λ (e : Inc × Incarnation). flat_map entry_names e.1.slots) s.incarnations
            (all_first R (flat_map (λ (e : Inc × Incarnation). flat_map entry_names e.1.slots) s.incarnations) (flat_map (λ (p : Process). run_names p.run) s.processes) outer));
        runs = flat_all R (λ (p : Process). run_names p.run) s.processes
            (all_last R (flat_map (λ (e : Inc × Incarnation). flat_map entry_names e.1.slots) s.incarnations) (flat_map (λ (p : Process). run_names p.run) s.processes) outer);
        objects = all_more (λ (e : Name × Object). All R (object_names e.1)) (λ e. InObject e.1) (λ e k. (k.0, flat_all R entry_names e.1.entries k.1)) s.objects
            (flat_all R (λ (e : Name × Object). object_names e.1) s.objects (all_last R (outer_names s) (inner s.objects) named));
      }

  -- what an object's list holds, what stands at a place, and what a process does
  pub list_in : (s : State) → Within s → (name : Name) → InList (object s name).entries
  list_in s h name =
      all_found (λ o. InList o.entries) (same_name name) no_object tt s.objects
      (all_more (λ (e : Name × Object). InObject e.1) (λ e. InList e.1.entries) (λ e k. k.1) s.objects h.objects)

  pub standing_in : (s : State) → Within s → (p : Place) → InEntry (standing s p)
  standing_in s h (SlotOf inc n) = all_at InEntry tt (incarnation s inc).slots n (all_found InSlots (same_inc inc) no_incarnation tt s.incarnations h.slots)
  standing_in s h (EntryOf name n) = all_at InEntry tt (object s name).entries n (list_in s h name)

  pub type_in : (s : State) → Within s → (name : Name) → stands s name ≡ true → R (object s name).of
  type_in s h name there = by s.objects h.objects there
    where
      by : (es : List (Name × Object)) → All (λ (e : Name × Object). InObject e.1) es → is_some (lookup (same_name name) es) ≡ true
          → R (unwrap_or (lookup (same_name name) es) no_object).of
      by [] h k = absurd (false≢true k)
      by (e ∷ es) h k =
          on_cond (λ (o : Option Object). is_some o ≡ true → R (unwrap_or o no_object).of) (same_name name e.0) (Some e.1) (lookup (same_name name) es) (λ q r. h.0.0)
          (λ q r. by es h.1 r) k

  pub run_in : (s : State) → Within s → (proc : Proc) → InRun (process s proc)
  run_in s h proc = all_got InRun (record { run = Ended; current = record { 0 = 0 } }) tt s.processes proc.0 h.runs

  -- one change of the state
  pub put_slot_in : (s : State) (inc : Inc) (n : ℕ) (x : Entry) → Within s → InEntry x → Within (put_slot s inc n x)
  put_slot_in s inc n x h g = record {
    opening = h.opening;
    slots = all_put InSlots (same_inc inc) s.incarnations (record (incarnation s inc) { slots = slice_set (incarnation s inc).slots n x }) h.slots
        (all_set InEntry (incarnation s inc).slots n x (all_found InSlots (same_inc inc) no_incarnation tt s.incarnations h.slots) g);
    runs = h.runs;
    objects = h.objects;
  }

  pub put_object_in : (s : State) (name : Name) (o : Object) → Within s → InObject o → Within (put_object s name o)
  put_object_in s name o h g = record { opening = h.opening; slots = h.slots; runs = h.runs; objects = all_put InObject (same_name name) s.objects o h.objects g }

  pub add_object_in : (s : State) (o : Object) → Within s → InObject o → Within (add_object s o)
  add_object_in s o h g = record { opening = h.opening; slots = h.slots; runs = h.runs; objects = all_insert InObject name_cmp s.next_name s.objects o h.objects g }

  pub put_process_in : (s : State) (proc : Proc) (new : Process) → Within s → InRun new → Within (put_process s proc new)
  put_process_in s proc new h g = record { opening = h.opening; slots = h.slots; runs = all_set InRun s.processes proc.0 new h.runs g; objects = h.objects }

  pub enter_in : (s : State) (new : Incarnation) → Within s → InSlots new → Within (enter s new)
  enter_in s new h g = record {
    opening = h.opening;
    slots = all_insert InSlots inc_cmp s.next_inc s.incarnations new h.slots g;
    runs = all_set InRun s.processes new.proc.0 (record (process s new.proc) { current = s.next_inc }) h.runs (run_in s h new.proc);
    objects = h.objects;
  }

  pub left_in : (s : State) (inc : Inc) → Within s → Within (record s { incarnations = remove_entry (same_inc inc) s.incarnations })
  left_in s inc h = record { opening = h.opening; slots = all_remove InSlots (same_inc inc) s.incarnations h.slots; runs = h.runs; objects = h.objects }

  pub ended_in : (s : State) (proc : Proc) → Within s → Within (ended s proc)
  ended_in s proc h = record {
    opening = h.opening;
    slots = all_filter (λ (e : Inc × Incarnation). InSlots e.1) (λ e. not (e.1.proc.0 == proc.0)) s.incarnations h.slots;
    runs = all_set InRun s.processes proc.0 (record (process s proc) { run = Ended }) h.runs tt;
    objects = h.objects;
  }

-- more holds of the same names
pub within_more : (R Q : Name → Type 0) → ((n : Name) → R n → Q n) → (s : State) → Within R s → Within Q s
within_more R Q f s h = record {
  opening = λ n e. f n (h.opening n e);
  slots = all_more (λ (e : Inc × Incarnation). InSlots R e.1) (λ e. InSlots Q e.1) (λ e k. list e.1.slots k) s.incarnations h.slots;
  runs = all_more (InRun R) (InRun Q) (λ p k. all_more R Q f (run_names p.run) k) s.processes h.runs;
  objects = all_more (λ (e : Name × Object). InObject R e.1) (λ e. InObject Q e.1) (λ e k. (f e.1.of k.0, list e.1.entries k.1)) s.objects h.objects;
}
  where
    list : (xs : List Entry) → InList R xs → InList Q xs
    list xs k = all_more (InEntry R) (InEntry Q) (λ x g. all_more R Q f (entry_names x) g) xs k

-- ---- what is named stands

-- each opening object stands, and each that is named by a slot, a waiting process or an object that stands
pub record NamedStand (s : State) : Type 0 where
  pub each : (n : Name) → are_supporting s s.objects n ≡ true → stands s n ≡ true

abbrev pub Stands : State → Name → Type 0
Stands s n = stands s n ≡ true

pub named_within : (s : State) → NamedStand s → Within (Stands s) s
named_within s h = names_within (Stands s) s h.each

-- a state after which no object has gone
pub within_named : (s t : State) → ((n : Name) → Stands s n → Stands t n) → Within (Stands s) t → NamedStand t
within_named s t more h = record { each = within_names (Stands t) t (within_more (Stands s) (Stands t) more t h) }

-- an object that is set stands where one stood, and one that is new stands beside the others
still_put : (name : Name) (o : Object) (n : Name) (es : List (Name × Object)) → is_some (lookup (same_name n) es) ≡ true
    → is_some (lookup (same_name n) (set_value (same_name name) es o)) ≡ true
still_put name o n [] k = k
still_put name o n (e ∷ es) k =
    on_cond (λ (l : List (Name × Object)). is_some (lookup (same_name n) l) ≡ true) (same_name name e.0) ((e.0, o) ∷ es) (e ∷ set_value (same_name name) es o)
    (λ q. instead (same_name n e.0) k)
    (λ q. further (still_put name o n es) (same_name n e.0) k)
  where
    instead : (b : Bool) → is_some (cond b (Some e.1) (lookup (same_name n) es)) ≡ true → is_some (cond b (Some o) (lookup (same_name n) es)) ≡ true
    instead true r = refl
    instead false r = r

    further : (is_some (lookup (same_name n) es) ≡ true → is_some (lookup (same_name n) (set_value (same_name name) es o)) ≡ true) → (b : Bool)
        → is_some (cond b (Some e.1) (lookup (same_name n) es)) ≡ true → is_some (cond b (Some e.1) (lookup (same_name n) (set_value (same_name name) es o))) ≡ true
    further later true r = refl
    further later false r = later r

pub stands_put : (s : State) (name : Name) (o : Object) (n : Name) → Stands s n → Stands (put_object s name o) n
stands_put s name o n h = still_put name o n s.objects h

still_added : (new : Name) (o : Object) (n : Name) (es : List (Name × Object)) → is_some (lookup (same_name n) es) ≡ true
    → is_some (lookup (same_name n) (insert_entry name_cmp es new o)) ≡ true
still_added new o n [] k = absurd (false≢true k)
still_added new o n (e ∷ es) k =
    on_ordering (λ (l : List (Name × Object)). is_some (lookup (same_name n) l) ≡ true) (name_cmp new e.0) ((new, o) ∷ e ∷ es) ((e.0, o) ∷ es) (e ∷ insert_entry name_cmp es new o)
    (λ q. first (same_name n new))
    (λ q. instead (same_name n e.0) k)
    (λ q. further (still_added new o n es) (same_name n e.0) k)
  where
    first : (b : Bool) → is_some (cond b (Some o) (lookup (same_name n) (e ∷ es))) ≡ true
    first true = refl
    first false = k

    instead : (b : Bool) → is_some (cond b (Some e.1) (lookup (same_name n) es)) ≡ true → is_some (cond b (Some o) (lookup (same_name n) es)) ≡ true
    instead true r = refl
    instead false r = r

    further : (is_some (lookup (same_name n) es) ≡ true → is_some (lookup (same_name n) (insert_entry name_cmp es new o)) ≡ true) → (b : Bool)
        → is_some (cond b (Some e.1) (lookup (same_name n) es)) ≡ true → is_some (cond b (Some e.1) (lookup (same_name n) (insert_entry name_cmp es new o))) ≡ true
    further later true r = refl
    further later false r = later r

pub stands_added : (s : State) (o : Object) (n : Name) → Stands s n → Stands (add_object s o) n
stands_added s o n h = still_added s.next_name o n s.objects h

found_new : (new : Name) (o : Object) (es : List (Name × Object)) → is_some (lookup (same_name new) (insert_entry name_cmp es new o)) ≡ true
found_new new o [] = on_cond (λ (f : Option Object). is_some f ≡ true) (same_name new new) (Some o) None (λ e. refl) (λ e. absurd (true≢false (sym (name_laws.refl new) ∙ e)))
found_new new o (e ∷ es) =
    on_ordering (λ (l : List (Name × Object)). is_some (lookup (same_name new) l) ≡ true) (name_cmp new e.0) ((new, o) ∷ e ∷ es) ((e.0, o) ∷ es)
    (e ∷ insert_entry name_cmp es new o)
    (λ q. first (same_name new new) (name_laws.refl new))
    (λ q. instead (same_name new e.0) (ap is_eq q))
    (λ q. further (found_new new o es) (same_name new e.0))
  where
    first : (b : Bool) → b ≡ true → is_some (cond b (Some o) (lookup (same_name new) (e ∷ es))) ≡ true
    first true k = refl
    first false k = absurd (false≢true k)

    instead : (b : Bool) → b ≡ true → is_some (cond b (Some o) (lookup (same_name new) es)) ≡ true
    instead true k = refl
    instead false k = absurd (false≢true k)

    further : is_some (lookup (same_name new) (insert_entry name_cmp es new o)) ≡ true → (b : Bool)
        → is_some (cond b (Some e.1) (lookup (same_name new) (insert_entry name_cmp es new o))) ≡ true
    further later true = refl
    further later false = later

pub stands_new : (s : State) (o : Object) → Stands (add_object s o) s.next_name
stands_new s o = found_new s.next_name o s.objects

-- where objects vanish, what is named still stands
pub vanish_named : (s : State) (objects : List (Name × Object)) → Vanish s objects → NamedStand s → NamedStand (record s { objects = objects })
vanish_named s objects v h = record {
  each = λ n g.
      let named : supports s v.set n ≡ true = ap (λ (os : List (Name × Object)). are_supporting s os n) (sym v.is) ∙ g in
      let more : supports s (λ m. true) n ≡ true = supports_more s v.set (λ m. true) (below_all v.set (λ m. true) s.objects (λ m e. refl)) n named in
      let there : stands s n ≡ true = h.each n (ap (λ (os : List (Name × Object)). are_supporting s os n) (sym (of_all s.objects)) ∙ more) in
      let kept : v.set n ≡ true = v.closed n there named in
      ap (λ (os : List (Name × Object)). is_some (lookup (same_name n) os)) v.is
      ∙ (ap is_some (lookup-filter-keys (same_name n) v.set true (λ k e. ap v.set (sym (name_same n k e)) ∙ kept) s.objects) ∙ there);
}
