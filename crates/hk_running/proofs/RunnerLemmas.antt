-- The places of processors, as processes run and rest.
use Rattle.std.proofs.Common.{◌≡◌, ℕ, zero, suc, ◌+◌, ◌<◌, ◌≤◌, ◌==◌, ◌||◌, Bool, true, false, cond, List, [], ◌∷◌, length, get_or, replicate, Option, Some, None, refl, ap, sym}
use Rattle.std.proofs.Common.{subst, ◌∙◌, arith, nat_lt}
use Rattle.std.specs.Prelude.{slice_get, slice_set, count_by}
use Rattle.std.specs.Option.{unwrap_or}
use Rattle.std.specs.List.{list_any}
use Rattle.std.proofs.lemmas.List.{length-set}
use Rattle.std.proofs.lemmas.List.Sums.{sum_by-set, sum_by-cons, get_or-le-sum_by}
use Rattle.std.proofs.lemmas.Option.{unwrap_or-slice_get, slice_get_read}
use Rattle.std.proofs.lemmas.Bool.{false≢true}
use Rattle.std.proofs.lemmas.Bool.Decides.{nat_tests}
use Rattle.hk_model.specs.declared.names.Inc.{Inc}
use Rattle.hk_model.specs.declared.names.Proc.{Proc}
use Rattle.hk_model.specs.declared.names.Cpu.{Cpu}
use Rattle.hk_model.specs.declared.objects.Process.{Process}
use Rattle.hk_model.specs.declared.objects.ProcessState.{ProcessState}
use Rattle.hk_model.specs.declared.objects.ProcessState.TheVariants.{Ready, Running, Waiting, Ended}
use Rattle.hk_model.specs.Processors.{is_on, is_running, runner_from}
use Rattle.hk_running.specs.Runners.{process_at, with_run, with_current, runner_lives, weight, has_place, place_of, freed, IsPlaced}

-- numbers and their tests

is_same : (m n : ℕ) → (m == n) ≡ true → m ≡ n
is_same m n h = grind (arith, nat_tests)

is_other : (m n : ℕ) → (m == n) ≡ false → m ≡ n → ⊥
is_other m n h e = grind (arith, nat_tests)

same_is : (m n : ℕ) → m ≡ n → (m == n) ≡ true
same_is m n e = grind (arith, nat_tests)

turned : (m n : ℕ) → (m == n) ≡ (n == m)
turned m n = grind (arith, nat_tests)

-- what stands in a list after a write
module _ {A : Type 0} (d : A) where
  pub set_same : (xs : List A) (n : ℕ) (x : A) → n < length xs → unwrap_or (slice_get (slice_set xs n x) n) d ≡ x
  set_same [] n x there = absurd (omega arith)
  set_same (y ∷ xs) zero x there = refl
  set_same (y ∷ xs) (suc n) x there = set_same xs n x (omega arith)

  pub set_other : (xs : List A) (n m : ℕ) (x : A) → (m ≡ n → ⊥) → unwrap_or (slice_get (slice_set xs n x) m) d ≡ unwrap_or (slice_get xs m) d
  set_other [] n m x apart = refl
  set_other (y ∷ xs) zero zero x apart = absurd (apart refl)
  set_other (y ∷ xs) zero (suc m) x apart = refl
  set_other (y ∷ xs) (suc n) zero x apart = refl
  set_other (y ∷ xs) (suc n) (suc m) x apart = set_other xs n m x (λ e. apart (ap suc e))

  pub set_default : (xs : List A) (n : ℕ) → unwrap_or (slice_get (slice_set xs n d) n) d ≡ d
  set_default [] n = refl
  set_default (y ∷ xs) zero = refl
  set_default (y ∷ xs) (suc n) = set_default xs n

  pub all_default : (k n : ℕ) → unwrap_or (slice_get (replicate k d) n) d ≡ d
  all_default zero n = refl
  all_default (suc k) zero = refl
  all_default (suc k) (suc n) = all_default k n

-- the places show what runs, where `run` tells what each process does
abbrev pub Shows : (ℕ → ProcessState) → List (Option Proc) → Type 0
Shows run places = (q : ℕ) (cpu : Cpu) → is_on cpu (run q) ≡ has_place (place_of places cpu) q

-- a place that has one process has no other
alone : (place : Option Proc) (n q : ℕ) → has_place place n ≡ true → (q ≡ n → ⊥) → has_place place q ≡ false
alone None n q has apart = refl
alone (Some proc) n q has apart = grind (arith, nat_tests)

-- after a process is taken from its processor, the places show what runs besides
pub gone : (run : ℕ → ProcessState) (places : List (Option Proc)) (n : ℕ) → Shows run places → (q : ℕ) (cpu : Cpu)
    → has_place (place_of (freed places (run n)) cpu) q ≡ cond (q == n) false (is_on cpu (run q))
gone run places n shows q cpu = by (run n) refl
  where
    -- where it did not run on this processor
    elsewhere : (place : Option Proc) → place ≡ place_of places cpu → is_on cpu (run n) ≡ false → (b : Bool) → (q == n) ≡ b → has_place place q ≡ cond b false (is_on cpu (run q))
    elsewhere place is rests true e = let same : q ≡ n = is_same q n e in rw is (sym (shows q cpu) ∙ rw same rests)
    elsewhere place is rests false e = rw is (sym (shows q cpu))

    -- where it ran on this processor
    here : is_on cpu (run n) ≡ true → (b : Bool) → (q == n) ≡ b → false ≡ cond b false (is_on cpu (run q))
    here ran true e = refl
    here ran false e = sym (shows q cpu ∙ alone (place_of places cpu) n q (sym (shows n cpu) ∙ ran) (is_other q n e))

    on : (c : Cpu) → run n ≡ Running c → (b : Bool) → (c.0 == cpu.0) ≡ b → has_place (place_of (slice_set places c.0 None) cpu) q ≡ cond (q == n) false (is_on cpu (run q))
    on c runs true e =
        let same : c.0 ≡ cpu.0 = is_same c.0 cpu.0 e in
        let empty : place_of (slice_set places c.0 None) cpu ≡ None = rw same (set_default None places cpu.0) in
        ap (λ (place : Option Proc). has_place place q) empty ∙ here (ap (is_on cpu) runs ∙ e) (q == n) refl
    on c runs false e =
        let other : cpu.0 ≡ c.0 → ⊥ = λ f. is_other c.0 cpu.0 e (sym f) in
        elsewhere (place_of (slice_set places c.0 None) cpu) (set_other None places c.0 cpu.0 None other) (ap (is_on cpu) runs ∙ e) (q == n) refl

    by : (r : ProcessState) → run n ≡ r → has_place (place_of (freed places r) cpu) q ≡ cond (q == n) false (is_on cpu (run q))
    by Ready runs = elsewhere (place_of places cpu) refl (ap (is_on cpu) runs) (q == n) refl
    by (Running c) runs = on c runs (c.0 == cpu.0) refl
    by (Waiting at) runs = elsewhere (place_of places cpu) refl (ap (is_on cpu) runs) (q == n) refl
    by Ended runs = elsewhere (place_of places cpu) refl (ap (is_on cpu) runs) (q == n) refl

abbrev runs_of : List Process → ℕ → ProcessState
runs_of ps q = (process_at ps q).run

resting : (cpu : Cpu) (run : ProcessState) → is_running run ≡ false → is_on cpu run ≡ false
resting cpu Ready h = refl
resting cpu (Running c) h = absurd (cc)
resting cpu (Waiting at) h = refl
resting cpu Ended h = refl

-- a process rests
pub rested : (ps : List Process) (places : List (Option Proc)) (n : ℕ) (x : Process) → n < length ps → is_running x.run ≡ false → Shows (runs_of ps) places
    → Shows (runs_of (slice_set ps n x)) (freed places (process_at ps n).run)
rested ps places n x there rests shows q cpu = by (q == n) refl (gone (runs_of ps) places n shows q cpu)
  where
    by : (b : Bool) → (q == n) ≡ b → has_place (place_of (freed places (process_at ps n).run) cpu) q ≡ cond b false (is_on cpu (process_at ps q).run)
        → is_on cpu (process_at (slice_set ps n x) q).run ≡ has_place (place_of (freed places (process_at ps n).run) cpu) q
    by true e left =
        let same : q ≡ n = is_same q n e in
        let new : process_at (slice_set ps n x) q ≡ x = rw same (set_same (record { run = Ended; current = record { 0 = 0 } }) ps n x there) in
        ap (λ (p : Process). is_on cpu p.run) new ∙ resting cpu x.run rests ∙ sym left
    by false e left =
        ap (λ (p : Process). is_on cpu p.run) (set_other (record { run = Ended; current = record { 0 = 0 } }) ps n q x (is_other q n e)) ∙ sym left

-- where a processor runs nothing, no process is on it
none_runs : (ps : List Process) (cpu : Cpu) (n : ℕ) → runner_from ps cpu n ≡ None → (q : ℕ) → is_on cpu (process_at ps q).run ≡ false
none_runs [] cpu n idle q = refl
none_runs (p ∷ ps) cpu n idle q = by (is_on cpu p.run) refl q idle (λ m later. none_runs ps cpu (n + 1) later m)
  where
    by : (b : Bool) → is_on cpu p.run ≡ b → (m : ℕ) → cond b (Some (record { 0 = n })) (runner_from ps cpu (n + 1)) ≡ None
        → ((k : ℕ) → runner_from ps cpu (n + 1) ≡ None → is_on cpu (process_at ps k).run ≡ false) → is_on cpu (process_at (p ∷ ps) m).run ≡ false
    by true e m f rest = absurd (cc)
    by false e zero f rest = e
    by false e (suc m) f rest = rest m f

on_same : (run : ProcessState) (c cpu : Cpu) → c.0 ≡ cpu.0 → is_on c run ≡ is_on cpu run
on_same Ready c cpu same = refl
on_same (Running other) c cpu same = ap (λ (n : ℕ). other.0 == n) same
on_same (Waiting at) c cpu same = refl
on_same Ended c cpu same = refl

-- a process runs on a processor that ran nothing
pub started : (ps : List Process) (places : List (Option Proc)) (n : ℕ) (x : Process) (cpu : Cpu) (proc : Proc) → n < length ps
    → cpu.0 < length (freed places (process_at ps n).run) → x.run ≡ Running cpu → proc.0 ≡ n → runner_from ps cpu 0 ≡ None → Shows (runs_of ps) places
    → Shows (runs_of (slice_set ps n x)) (slice_set (freed places (process_at ps n).run) cpu.0 (Some proc))
started ps places n x cpu proc there room runs is idle shows q c = by (c.0 == cpu.0) refl (q == n) refl
  where
    here : c.0 ≡ cpu.0 → place_of (slice_set (freed places (process_at ps n).run) cpu.0 (Some proc)) c ≡ Some proc
    here same = rw same (set_same None (freed places (process_at ps n).run) cpu.0 (Some proc) room)

    new : q ≡ n → process_at (slice_set ps n x) q ≡ x
    new same = rw same (set_same (record { run = Ended; current = record { 0 = 0 } }) ps n x there)

    old : (q ≡ n → ⊥) → process_at (slice_set ps n x) q ≡ process_at ps q
    old other = set_other (record { run = Ended; current = record { 0 = 0 } }) ps n q x other

    by : (a : Bool) → (c.0 == cpu.0) ≡ a → (b : Bool) → (q == n) ≡ b
        → is_on c (process_at (slice_set ps n x) q).run ≡ has_place (place_of (slice_set (freed places (process_at ps n).run) cpu.0 (Some proc)) c) q
    by true e true f =
        let same : c.0 ≡ cpu.0 = is_same c.0 cpu.0 e in
        let at : q ≡ n = is_same q n f in
        ap (λ (p : Process). is_on c p.run) (new at) ∙ ap (is_on c) runs ∙ same_is cpu.0 c.0 (sym same)
        ∙ sym (ap (λ (place : Option Proc). has_place place q) (here same) ∙ same_is proc.0 q (is ∙ sym at))
    by true e false f =
        let same : c.0 ≡ cpu.0 = is_same c.0 cpu.0 e in
        let other : q ≡ n → ⊥ = is_other q n f in
        let unlike : (proc.0 == q) ≡ false = grind (arith, nat_tests) in
        ap (λ (p : Process). is_on c p.run) (old other) ∙ on_same (process_at ps q).run c cpu same ∙ none_runs ps cpu 0 idle q
        ∙ sym (ap (λ (place : Option Proc). has_place place q) (here same) ∙ unlike)
    by false e b f =
        let other : c.0 ≡ cpu.0 → ⊥ = is_other c.0 cpu.0 e in
        elsewhere b f ∙ sym (ap (λ (place : Option Proc). has_place place q) (set_other None (freed places (process_at ps n).run) cpu.0 c.0 (Some proc) other) ∙ gone
        (runs_of ps) places n shows q c)
      where
        elsewhere : (b : Bool) → (q == n) ≡ b → is_on c (process_at (slice_set ps n x) q).run ≡ cond (q == n) false (is_on c (process_at ps q).run)
        elsewhere true f =
            ap (λ (p : Process). is_on c p.run) (new (is_same q n f)) ∙ ap (is_on c) runs ∙ turned cpu.0 c.0 ∙ e ∙ sym
            (ap (λ (t : Bool). cond t false (is_on c (process_at ps q).run)) f)
        elsewhere false f = ap (λ (p : Process). is_on c p.run) (old (is_other q n f)) ∙ sym (ap (λ (t : Bool). cond t false (is_on c (process_at ps q).run)) f)

-- the places show who runs where
first_on : (ps : List Process) (cpu : Cpu) (n k : ℕ) → is_on cpu (process_at ps k).run ≡ true → ((q : ℕ) → q < k → is_on cpu (process_at ps q).run ≡ false)
    → runner_from ps cpu n ≡ Some (record { 0 = n + k })
first_on [] cpu n k on before = absurd (cc)
first_on (p ∷ ps) cpu n zero on before = let same : n + 0 ≡ n = omega arith in rw (on, same) refl
first_on (p ∷ ps) cpu n (suc k) on before =
    let first : is_on cpu p.run ≡ false = before 0 (omega arith) in
    let same : n + suc k ≡ n + 1 + k = omega arith in
    rw (first, same) (first_on ps cpu (n + 1) k on (λ q less. before (suc q) (omega arith)))

none_on : (ps : List Process) (cpu : Cpu) (n : ℕ) → ((q : ℕ) → is_on cpu (process_at ps q).run ≡ false) → runner_from ps cpu n ≡ None
none_on [] cpu n all = refl
none_on (p ∷ ps) cpu n all = rw (all 0) (none_on ps cpu (n + 1) (λ q. all (suc q)))

abbrev numbered : ℕ → Option Proc
numbered n = Some (record { 0 = n })

unlike : (q n : ℕ) → q < n → (n == q) ≡ false
unlike q n less = grind (arith, nat_tests)

pub runner_is : (ps : List Process) (places : List (Option Proc)) (cpu : Cpu) → Shows (runs_of ps) places → place_of places cpu ≡ runner_from ps cpu 0
runner_is ps places cpu shows = by (place_of places cpu) (λ q. shows q cpu)
  where
    by : (place : Option Proc) → ((q : ℕ) → is_on cpu (process_at ps q).run ≡ has_place place q) → place ≡ runner_from ps cpu 0
    by None on = sym (none_on ps cpu 0 on)
    by (Some proc) on =
        let number : 0 + proc.0 ≡ proc.0 = omega arith in
        sym (first_on ps cpu 0 proc.0 (on proc.0 ∙ same_is proc.0 proc.0 refl) (λ q less. on q ∙ unlike q proc.0 less) ∙ ap numbered number)

-- where no process runs, all places are empty
rests : (ps : List Process) (q : ℕ) → list_any (λ (p : Process). is_running p.run) ps ≡ false → is_running (process_at ps q).run ≡ false
rests [] q h = refl
rests (p ∷ ps) q h = by (is_running p.run) refl q h (λ m later. rests ps m later)
  where
    by : (b : Bool) → is_running p.run ≡ b → (m : ℕ) → (b || list_any (λ (x : Process). is_running x.run) ps) ≡ false
        → ((k : ℕ) → list_any (λ (x : Process). is_running x.run) ps ≡ false → is_running (process_at ps k).run ≡ false) → is_running (process_at (p ∷ ps) m).run ≡ false
    by true e m f rest = absurd (cc)
    by false e zero f rest = e
    by false e (suc m) f rest = rest m f

pub none_placed : (ps : List Process) → list_any (λ (p : Process). is_running p.run) ps ≡ false → Shows (runs_of ps) (replicate 16 None)
none_placed ps rest q cpu = resting cpu (process_at ps q).run (rests ps q rest) ∙ sym (ap (λ (place : Option Proc). has_place place q) (all_default None 16 cpu.0))

-- what is kept for another current incarnation
pub same_shows : (ps : List Process) (places : List (Option Proc)) (n : ℕ) (x : Process) → n < length ps → x.run ≡ (process_at ps n).run → Shows (runs_of ps) places
    → Shows (runs_of (slice_set ps n x)) places
same_shows ps places n x there is shows q cpu = by (q == n) refl
  where
    by : (b : Bool) → (q == n) ≡ b → is_on cpu (process_at (slice_set ps n x) q).run ≡ has_place (place_of places cpu) q
    by true e =
        let same : q ≡ n = is_same q n e in
        let new : process_at (slice_set ps n x) q ≡ x = rw same (set_same (record { run = Ended; current = record { 0 = 0 } }) ps n x there) in
        ap (λ (p : Process). is_on cpu p.run) new ∙ ap (is_on cpu) is ∙ rw (← same) (shows q cpu)
    by false e =
        ap (λ (p : Process). is_on cpu p.run) (set_other (record { run = Ended; current = record { 0 = 0 } }) ps n q x (is_other q n e)) ∙ shows q cpu

-- how many are live after one changes
pub recount : (ps : List Process) (n : ℕ) (x : Process) → n < length ps
    → count_by (λ (p : Process). runner_lives p.run) (slice_set ps n x) + weight (process_at ps n).run ≡ count_by (λ (p : Process). runner_lives p.run) ps + weight x.run
recount ps n x there =
    let d : Process = record { run = Ended; current = record { 0 = 0 } } in
    ap (λ (p : Process). count_by (λ (y : Process). runner_lives y.run) (slice_set ps n x) + weight p.run) (unwrap_or-slice_get ps n d)
    ∙ sum_by-set (λ (p : Process). weight p.run) ps n x d there

pub weight_within : (ps : List Process) (n : ℕ) → n < length ps → weight (process_at ps n).run ≤ count_by (λ (p : Process). runner_lives p.run) ps
weight_within ps n there =
    let d : Process = record { run = Ended; current = record { 0 = 0 } } in
    let read : process_at ps n ≡ get_or ps n d = unwrap_or-slice_get ps n d in
    rw read (get_or-le-sum_by (λ (p : Process). weight p.run) ps n d there)

-- whether some are live
pub any_counted : (ps : List Process) → nat_lt 0 (count_by (λ (p : Process). runner_lives p.run) ps) ≡ list_any (λ (p : Process). runner_lives p.run) ps
any_counted [] = refl
any_counted (p ∷ ps) = by (runner_lives p.run) (sum_by-cons (λ (x : Process). weight x.run) p ps) (any_counted ps)
  where
    by : (b : Bool) → count_by (λ (x : Process). runner_lives x.run) (p ∷ ps) ≡ cond b 1 0 + count_by (λ (x : Process). runner_lives x.run) ps
        → nat_lt 0 (count_by (λ (x : Process). runner_lives x.run) ps) ≡ list_any (λ (x : Process). runner_lives x.run) ps
        → nat_lt 0 (count_by (λ (x : Process). runner_lives x.run) (p ∷ ps)) ≡ (b || list_any (λ (x : Process). runner_lives x.run) ps)
    by true more rest = grind (arith, nat_tests)
    by false more rest =
        let same : count_by (λ (x : Process). runner_lives x.run) (p ∷ ps) ≡ count_by (λ (x : Process). runner_lives x.run) ps = omega (arith, more) in
        ap (nat_lt 0) same ∙ rest

-- the processes as they stand, where one was read
pub read_at : (ps : List Process) (n : ℕ) (y : Process) → n < length ps → y ≡ get_or ps n y → process_at ps n ≡ y
read_at ps n y there read =
    ap (λ (o : Option Process). unwrap_or o (record { run = Ended; current = record { 0 = 0 } })) (slice_get_read ps (length ps) n y refl there read)

pub run_written : (ps : List Process) (proc : Proc) (run : ProcessState) (y : Process) → proc.0 < length ps → y ≡ get_or ps proc.0 y
    → slice_set ps proc.0 (record { run = run; current = y.current }) ≡ with_run ps proc run
run_written ps proc run y there read =
    ap (λ (p : Process). slice_set ps proc.0 (record { run = run; current = p.current })) (sym (read_at ps proc.0 y there read))

pub current_written : (ps : List Process) (proc : Proc) (inc : Inc) (y : Process) → proc.0 < length ps → y ≡ get_or ps proc.0 y
    → slice_set ps proc.0 (record { run = y.run; current = inc }) ≡ with_current ps proc inc
current_written ps proc inc y there read =
    ap (λ (p : Process). slice_set ps proc.0 (record { run = p.run; current = inc })) (sym (read_at ps proc.0 y there read))

-- what is kept beside the processes, as one of them changes

pub placed_rested : (ps : List Process) (places left : List (Option Proc)) (live later : ℕ) (n : ℕ) (x y : Process) → IsPlaced ps places live → n < length ps → y ≡ get_or ps n y
    → left ≡ freed places y.run → is_running x.run ≡ false → later + weight y.run ≡ live + weight x.run → IsPlaced (slice_set ps n x) left later
placed_rested ps places left live later n x y h there read free rests count =
    let was : process_at ps n ≡ y = read_at ps n y there read in
    let freed_is : freed places (process_at ps n).run ≡ left = ap (λ (p : Process). freed places p.run) was ∙ sym free in
    let kept : weight (process_at ps n).run ≡ weight y.run = ap (λ (p : Process). weight p.run) was in
    record {
      few = omega (arith, h.few, length-set ps n x);
      placed = subst (λ (all : List (Option Proc)). Shows (runs_of (slice_set ps n x)) all) freed_is (rested ps places n x there rests h.placed);
      counted = omega (arith, h.counted, recount ps n x there, kept, count);
    }

pub placed_started : (ps : List Process) (places left : List (Option Proc)) (live later : ℕ) (n : ℕ) (x y : Process) (cpu : Cpu) (proc : Proc) → IsPlaced ps places live
    → n < length ps → y ≡ get_or ps n y → left ≡ freed places y.run → cpu.0 < length left → x.run ≡ Running cpu → proc.0 ≡ n → runner_from ps cpu 0 ≡ None
    → later + weight y.run ≡ live + weight x.run → IsPlaced (slice_set ps n x) (slice_set left cpu.0 (Some proc)) later
placed_started ps places left live later n x y cpu proc h there read free room runs is idle count =
    let was : process_at ps n ≡ y = read_at ps n y there read in
    let freed_is : freed places (process_at ps n).run ≡ left = ap (λ (p : Process). freed places p.run) was ∙ sym free in
    let kept : weight (process_at ps n).run ≡ weight y.run = ap (λ (p : Process). weight p.run) was in
    let room_for : cpu.0 < length (freed places (process_at ps n).run) = omega (arith, room, ap (λ (all : List (Option Proc)). length all) freed_is) in
    record {
      few = omega (arith, h.few, length-set ps n x);
      placed =
          subst (λ (all : List (Option Proc)). Shows (runs_of (slice_set ps n x)) (slice_set all cpu.0 (Some proc))) freed_is
          (started ps places n x cpu proc there room_for runs is idle h.placed);
      counted = omega (arith, h.counted, recount ps n x there, kept, count);
    }

pub placed_current : (ps : List Process) (places : List (Option Proc)) (live : ℕ) (n : ℕ) (x y : Process) → IsPlaced ps places live → n < length ps → y ≡ get_or ps n y
    → x.run ≡ y.run → IsPlaced (slice_set ps n x) places live
placed_current ps places live n x y h there read is =
    let was : process_at ps n ≡ y = read_at ps n y there read in
    let same : x.run ≡ (process_at ps n).run = is ∙ ap (λ (p : Process). p.run) (sym was) in
    record {
      few = omega (arith, h.few, length-set ps n x);
      placed = same_shows ps places n x there same h.placed;
      counted = omega (arith, h.counted, recount ps n x there, ap weight same);
    }

-- a process has a place among as many as there are processors
pub place_below : (places : List (Option Proc)) (n q : ℕ) → has_place (unwrap_or (slice_get places n) None) q ≡ true → n < length places
place_below [] n q has = absurd (false≢true has)
place_below (x ∷ places) zero q has = omega arith
place_below (x ∷ places) (suc n) q has = let below : n < length places = place_below places n q has in omega arith

-- it is on its own processor
on_itself : (cpu : Cpu) → is_on cpu (Running cpu) ≡ true
on_itself cpu = same_is cpu.0 cpu.0 refl

pub runs_below : (ps : List Process) (places : List (Option Proc)) (live : ℕ) → IsPlaced ps places live → length places ≡ 16
    → (q : ℕ) (cpu : Cpu) → (process_at ps q).run ≡ Running cpu → cpu.0 < 16
runs_below ps places live placed many q cpu runs =
    let has : has_place (place_of places cpu) q ≡ true = sym (placed.placed q cpu) ∙ (ap (is_on cpu) runs ∙ on_itself cpu) in
    let below : cpu.0 < length places = place_below places cpu.0 q has in omega (arith, below, many)
