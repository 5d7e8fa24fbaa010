-- Lists of processes and lists of cells.
use Rattle.std.proofs.Common.{◌≡◌, ℕ, zero, suc, ◌+◌, ◌<◌, false, ◌||◌, List, [], ◌∷◌, ◌++◌, length, map, drop, set, replicate, Option, Some, option_map, refl, ap, ◌∙◌, sym, subst}
use Rattle.std.proofs.Common.{arith}
use Rattle.std.specs.Prelude.{slice_get, slice_index_or, ◌==◌}
use Rattle.std.specs.List.{list_any}
use Rattle.std.proofs.lemmas.List.{length-map, length-set}
use Rattle.hk_model.specs.declared.names.Proc.{Proc}
use Rattle.hk_links.specs.Chained.{Chained, listed, in_list}
use Rattle.hk_queues.specs.Queued.{Queued, IsIdle, IsQueueing, waiters, is_queued, proc_of, procs_of, queued}

get-procs : (cells : List ℕ) (k : ℕ) → option_map proc_of (slice_get cells k) ≡ slice_get (procs_of cells) k
get-procs [] k = refl
get-procs (c ∷ cells) zero = refl
get-procs (c ∷ cells) (suc k) = get-procs cells k

get-found : (cells : List ℕ) (k : ℕ) (proc : Proc) → slice_get (procs_of cells) k ≡ Some proc → slice_get cells k ≡ Some proc.0
get-found [] k proc e = absurd (cc)
get-found (c ∷ cells) zero proc e = ap (option_map (λ (p : Proc). p.0)) e
get-found (c ∷ cells) (suc k) proc e = get-found cells k proc e

drop-procs : (cells : List ℕ) → drop 1 (procs_of cells) ≡ procs_of (drop 1 cells)
drop-procs [] = refl
drop-procs (c ∷ cells) = refl

push-procs : (cells : List ℕ) (c : ℕ) → procs_of (cells ++ c ∷ []) ≡ procs_of cells ++ proc_of c ∷ []
push-procs [] c = refl
push-procs (d ∷ cells) c = ap (λ procs. proc_of d ∷ procs) (push-procs cells c)

any-procs : (cells : List ℕ) (proc : Proc) → is_queued proc (procs_of cells) ≡ list_any (λ x. proc.0 == x) cells
any-procs [] proc = refl
any-procs (c ∷ cells) proc = ap (λ b. (proc.0 == c) || b) (any-procs cells proc)

-- the waiters of a semaphore
waiters-of : (rest : List (List ℕ)) (s : ℕ) → slice_index_or (map procs_of rest) s [] ≡ procs_of (slice_index_or rest s [])
waiters-of [] s = refl
waiters-of (cells ∷ rest) zero = refl
waiters-of (cells ∷ rest) (suc s) = waiters-of rest s

drop-listed : (lists : List (List ℕ)) (s : ℕ) → listed (drop 1 lists) s ≡ listed lists (s + 1)
drop-listed [] s = refl
drop-listed (cells ∷ rest) s = let e : s + 1 ≡ suc s = omega arith in rw e refl

pub waiters-listed : (c : Chained) (n s : ℕ) → waiters (queued c n) s ≡ procs_of (listed c.lists (s + 1))
waiters-listed c n s = waiters-of (drop 1 c.lists) s ∙ ap procs_of (drop-listed c.lists s)

drop-length : (lists : List (List ℕ)) → 0 < length lists → length (map procs_of (drop 1 lists)) + 1 ≡ length lists
drop-length [] some = absurd (omega arith)
drop-length (cells ∷ rest) some = let e : length (map procs_of rest) ≡ length rest = length-map rest procs_of in omega (arith, e)

pub semaphore_in : (c : Chained) (n s : ℕ) → IsQueueing c n → s < length (queued c n).waiting → s + 1 < length c.lists
semaphore_in c n s h inside = let e = drop-length c.lists h.some in omega (arith, e)

-- a process of no list is a cell of no list
pub lone_cell : (c : Chained) (n : ℕ) (proc : Proc) → IsQueueing c n → IsIdle (queued c n) proc → (l : ℕ) → l < length c.lists → in_list c.lists l proc.0 ≡ false
lone_cell c n proc h idle zero low = sym (any-procs (listed c.lists 0) proc) ∙ idle.unready
lone_cell c n proc h idle (suc s) low =
    let e : s + 1 ≡ suc s = omega arith in
    let k = drop-length c.lists h.some in
    let inside : s < length (queued c n).waiting = omega (arith, k) in
    rw (← e) (sym (any-procs (listed c.lists (s + 1)) proc) ∙ ap (is_queued proc) (sym (waiters-listed c n s)) ∙ idle.awake s inside)

-- a list written anew
set-rest : (rest : List (List ℕ)) (s : ℕ) (cells : List ℕ) → map procs_of (set rest s cells) ≡ set (map procs_of rest) s (procs_of cells)
set-rest [] s cells = refl
set-rest (first ∷ rest) zero cells = refl
set-rest (first ∷ rest) (suc s) cells = ap (λ more. procs_of first ∷ more) (set-rest rest s cells)

set-behind : (lists : List (List ℕ)) (s : ℕ) (cells : List ℕ) → 0 < length lists
    → map procs_of (drop 1 (set lists (s + 1) cells)) ≡ set (map procs_of (drop 1 lists)) s (procs_of cells)
set-behind [] s cells some = absurd (omega arith)
set-behind (first ∷ rest) s cells some = let e : s + 1 ≡ suc s = omega arith in rw e (set-rest rest s cells)

set-first : (lists : List (List ℕ)) (s : ℕ) (cells : List ℕ) → listed (set lists (s + 1) cells) 0 ≡ listed lists 0
set-first [] s cells = refl
set-first (first ∷ rest) s cells = let e : s + 1 ≡ suc s = omega arith in rw e refl

pub queueing_set : (c d : Chained) (n l : ℕ) (cells : List ℕ) → IsQueueing c n → d ≡ record c { lists = set c.lists l cells } → IsQueueing d n
queueing_set c d n l cells h e =
    let size : length d.lists ≡ length c.lists = ap (λ (v : Chained). length v.lists) e ∙ length-set c.lists l cells in
    let same : d.cells ≡ c.cells = ap (λ (v : Chained). v.cells) e in
    record {
      some = omega (arith, size, h.some);
      low = rw size h.low;
      few = omega (arith, same, h.few);
      enough = λ proc small known. let k = h.enough proc small known in omega (arith, same, k);
    }

pub queued_set : (c d : Chained) (n s : ℕ) (cells : List ℕ) → IsQueueing c n → d ≡ record c { lists = set c.lists (s + 1) cells }
    → queued d n ≡ record (queued c n) { waiting = set (queued c n).waiting s (procs_of cells) }
queued_set c d n s cells h e =
    ap (λ (v : Chained). queued v n) e
    ∙ ap (λ (procs : List Proc). let q : Queued = record { processes = n; ready = procs; waiting = map procs_of (drop 1 (set c.lists (s + 1) cells)) } in q)
    (ap procs_of (set-first c.lists s cells))
    ∙ ap (λ (waiting : List (List Proc)). let q : Queued = record { processes = n; ready = procs_of (listed c.lists 0); waiting = waiting } in q)
    (set-behind c.lists s cells h.some)

pub pushed : (c d : Chained) (n s : ℕ) (proc : Proc) → IsQueueing c n → d ≡ record c { lists = set c.lists (s + 1) (listed c.lists (s + 1) ++ proc.0 ∷ []) }
    → queued d n ≡ record (queued c n) { waiting = set (queued c n).waiting s (waiters (queued c n) s ++ proc ∷ []) }
pushed c d n s proc h e =
    queued_set c d n s _ h e
    ∙ ap (λ (procs : List Proc). let q : Queued = record (queued c n) { waiting = set (queued c n).waiting s procs } in q)
    (push-procs (listed c.lists (s + 1)) proc.0 ∙ ap (λ (procs : List Proc). procs ++ proc ∷ []) (sym (waiters-listed c n s)))

pub popped : (c d : Chained) (n s : ℕ) → IsQueueing c n → d ≡ record c { lists = set c.lists (s + 1) (drop 1 (listed c.lists (s + 1))) }
    → queued d n ≡ record (queued c n) { waiting = set (queued c n).waiting s (drop 1 (waiters (queued c n) s)) }
popped c d n s h e =
    queued_set c d n s _ h e
    ∙ ap (λ (procs : List Proc). let q : Queued = record (queued c n) { waiting = set (queued c n).waiting s procs } in q)
    (sym (drop-procs (listed c.lists (s + 1))) ∙ ap (λ (procs : List Proc). drop 1 procs) (sym (waiters-listed c n s)))

-- empty lists
drop-replicate : (k : ℕ) → map procs_of (drop 1 (replicate (k + 1) [])) ≡ replicate k []
drop-replicate k = let e : k + 1 ≡ suc k = omega arith in rw e (map-empty k) where
  map-empty : (k : ℕ) → map procs_of (replicate k []) ≡ replicate k []
  map-empty zero = refl
  map-empty (suc k) = ap (λ more. [] ∷ more) (map-empty k)

first-empty : (k : ℕ) → listed (replicate k []) 0 ≡ []
first-empty zero = refl
first-empty (suc k) = refl

pub queued_empty : (c : Chained) (n m k : ℕ) → c ≡ record { cells = m; lists = replicate (k + 1) [] } → queued c n ≡ record { processes = n; ready = []; waiting = replicate k [] }
queued_empty c n m k e =
    ap (λ (v : Chained). queued v n) e
    ∙ ap (λ (procs : List Proc). let q : Queued = record { processes = n; ready = procs; waiting = map procs_of (drop 1 (replicate (k + 1) [])) } in q)
    (ap procs_of (first-empty (k + 1)))
    ∙ ap (λ (waiting : List (List Proc)). let q : Queued = record { processes = n; ready = []; waiting = waiting } in q) (drop-replicate k)

-- what is behind a process
pub behind_ready : (c : Chained) (n k : ℕ) (proc : Proc) (next : Option ℕ) → IsQueueing c n
    → ((l k : ℕ) → l < length c.lists → slice_get (listed c.lists l) k ≡ Some proc.0 → next ≡ slice_get (listed c.lists l) (k + 1))
    → slice_get (queued c n).ready k ≡ Some proc → option_map proc_of next ≡ slice_get (queued c n).ready (k + 1)
behind_ready c n k proc next h is here =
    ap (option_map proc_of) (is 0 k h.some (get-found (listed c.lists 0) k proc here)) ∙ get-procs (listed c.lists 0) (k + 1)

pub behind_waiter : (c : Chained) (n s k : ℕ) (proc : Proc) (next : Option ℕ) → IsQueueing c n
    → ((l k : ℕ) → l < length c.lists → slice_get (listed c.lists l) k ≡ Some proc.0 → next ≡ slice_get (listed c.lists l) (k + 1))
    → s < length (queued c n).waiting → slice_get (waiters (queued c n) s) k ≡ Some proc → option_map proc_of next ≡ slice_get (waiters (queued c n) s) (k + 1)
behind_waiter c n s k proc next h is inside here =
    let e = waiters-listed c n s in
    let found = get-found (listed c.lists (s + 1)) k proc (subst (λ (procs : List Proc). slice_get procs k ≡ Some proc) e here) in
    ap (option_map proc_of) (is (s + 1) k (semaphore_in c n s h inside) found) ∙ get-procs (listed c.lists (s + 1)) (k + 1) ∙ ap
    (λ (procs : List Proc). slice_get procs (k + 1)) (sym e)

pub first_waiter : (c : Chained) (n s : ℕ) → option_map proc_of (slice_get (listed c.lists (s + 1)) 0) ≡ slice_get (waiters (queued c n) s) 0
first_waiter c n s = get-procs (listed c.lists (s + 1)) 0 ∙ ap (λ (procs : List Proc). slice_get procs 0) (sym (waiters-listed c n s))
