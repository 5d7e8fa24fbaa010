-- The lists behind the nodes, when one cell is taken out or put in.
use Rattle.std.proofs.Common.{◌≡◌, ◌≢◌, ℕ, zero, suc, ◌+◌, ◌<◌, ◌≤◌, Bool, true, false, cond, List, [], ◌∷◌, ◌++◌, length, get_or, set, map, refl, ap, ◌∙◌, sym, subst, arith}
use Rattle.std.proofs.Common.{⊎_elim, get_or-set_same, get_or-set_other, length-set, Option, Some, None, not, slice_get, nat_lt, drop, IfSome, IfNone}
use Rattle.std.proofs.lemmas.Bool.Decides.{nat_tests}
use Rattle.std.proofs.lemmas.Bool.{cases_eq}
use Rattle.std.proofs.lemmas.List.{length-map, ext_get_or}
use Rattle.std.proofs.lemmas.Map.Steps.{length-le_from_distinct_below}
use Rattle.std.proofs.lemmas.Map.Keys.{IsDistinct-push}
use Rattle.std.proofs.lemmas.List.Folds.{list_any-append}
use Rattle.std.specs.Cmp.{nat_eq_equiv}
use Rattle.std.specs.Bool.{◌==◌}
use Rattle.std.specs.List.{list_any, IsDistinct, AllByRecursion}
use Rattle.hk_links.specs.Chained.{Chained, without, listed, in_list}
use Rattle.hk_links.specs.Linked.{at, IsNode, IsPath, IsHome, IsLinked, chain, chains}
use Rattle.hk_links.proofs.Nodes.{get_or_set, at_set_set, nodes_out, in_there, in_in, turned}

-- a path past the cell c, where each node before it now leads past it
path_out : (f f' : List ℕ) (o o' : List (Option ℕ)) (n l z c : ℕ) → c < n → n ≤ z
    → ((x : ℕ) → x < n → x ≢ c → at f' x ≡ cond (at f x == c) (at f c) (at f x))
    → ((x : ℕ) → x ≢ c → get_or o' x None ≡ get_or o x None)
    → (xs : List ℕ) (a b : ℕ) → at f' a ≡ cond (at f b == c) (at f c) (at f b)
    → IsPath f o n l z b xs → IsPath f' o' n l z a (without c xs)
path_out f f' o o' n l z c low high past kept [] a b start path =
    start ∙ ap (λ k. cond (k == c) (at f c) k) path ∙ grind (arith, nat_tests)
path_out f f' o o' n l z c low high past kept (x ∷ xs) a b start path =
    ⊎_elim
    (λ (same : c ≡ x).
    let t : (c == x) ≡ true = grind (arith, nat_tests) in
    let s : at f' a ≡ cond (at f c == c) (at f c) (at f c) = start ∙ ap (λ k. cond (k == c) (at f c) k) path.0 ∙ grind (arith, nat_tests) in
    subst (λ (b : Bool). IsPath f' o' n l z a (cond (not b) (x ∷ without c xs) (without c xs))) (sym t)
    (path_out f f' o o' n l z c low high past kept xs a c s (subst (λ (y : ℕ). IsPath f o n l z y xs) (sym same) path.3)))
    (λ (other : c ≢ x).
    let t : (c == x) ≡ false = grind (arith, nat_tests) in
    let ne : x ≢ c = λ h. other (sym h) in
    let s : at f' a ≡ x = start ∙ ap (λ k. cond (k == c) (at f c) k) path.0 ∙ grind (arith, nat_tests) in
    subst (λ (b : Bool). IsPath f' o' n l z a (cond (not b) (x ∷ without c xs) (without c xs))) (sym t)
    (s, path.1, kept x ne ∙ path.2, path_out f f' o o' n l z c low high past kept xs x x (past x path.1 ne) path.3))
    (cases_eq c x)

-- what is in a list without c
pub any-without : (c d : ℕ) (xs : List ℕ) → list_any (λ x. d == x) (without c xs) ≡ cond (d == c) false (list_any (λ x. d == x) xs)
any-without c d [] = grind (arith, nat_tests)
any-without c d (x ∷ xs) = grind (arith, nat_tests, any-without c d xs)

pub listed-map : (g : List ℕ → List ℕ) → g [] ≡ [] → (ls : List (List ℕ)) (l : ℕ) → listed (map g ls) l ≡ g (listed ls l)
listed-map g h [] l = sym h
listed-map g h (xs ∷ ls) zero = refl
listed-map g h (xs ∷ ls) (suc l) = listed-map g h ls l

all-without : (P : ℕ → Type 0) (c : ℕ) (xs : List ℕ) → AllByRecursion P xs → AllByRecursion P (without c xs)
all-without P c [] h = tt
all-without P c (x ∷ xs) h = with (c == x) (all-without P c xs h.1) where
  with : (b : Bool) → AllByRecursion P (without c xs) → AllByRecursion P (cond (not b) (x ∷ without c xs) (without c xs))
  with true rest = rest
  with false rest = (h.0, rest)

distinct-without : (c : ℕ) (xs : List ℕ) → IsDistinct (λ x y. x == y) xs → IsDistinct (λ x y. x == y) (without c xs)
unfolding IsDistinct
distinct-without c [] h = tt
distinct-without c (x ∷ xs) h =
    let rest : IsDistinct (λ x y. x == y) (without c xs) = distinct-without c xs h.1 in
    elim (c == x) as (λ (b : Bool). IsDistinct (λ x y. x == y) (cond (not b) (x ∷ without c xs) (without c xs)))
    [ true ↦ rest | false ↦ (all-without (λ y. (x == y) ≡ false) c xs h.0, rest) ]

-- the cells of a path are cells
path_below : (f : List ℕ) (o : List (Option ℕ)) (n l z a : ℕ) (xs : List ℕ) → IsPath f o n l z a xs → (q : ℕ) → list_any (λ x. q == x) xs ≡ true → q < n
path_below f o n l z a [] path q h = absurd (cc)
path_below f o n l z a (x ∷ xs) path q h =
    ⊎_elim
    (λ (same : q ≡ x). rw same path.1)
    (λ (other : q ≢ x). path_below f o n l z x xs path.3 q (grind (arith, nat_tests)))
    (cases_eq q x)

path_owner : (f : List ℕ) (o : List (Option ℕ)) (n l z a : ℕ) (xs : List ℕ) → IsPath f o n l z a xs → (q : ℕ) → list_any (λ x. q == x) xs ≡ true → get_or o q None ≡ Some l
path_owner f o n l z a [] path q h = absurd (cc)
path_owner f o n l z a (x ∷ xs) path q h =
    ⊎_elim
    (λ (same : q ≡ x). rw same path.2)
    (λ (other : q ≢ x). path_owner f o n l z x xs path.3 q (grind (arith, nat_tests)))
    (cases_eq q x)

-- a path read from the arrays
chain-path : (f : List ℕ) (o : List (Option ℕ)) (n l z : ℕ) → n ≤ z → (xs : List ℕ) (k a : ℕ) → length xs ≤ k → IsPath f o n l z a xs → chain f n k a ≡ xs
chain-path f o n l z high [] zero a few path = refl
chain-path f o n l z high [] (suc k) a few path = rw path (grind (arith, nat_tests))
chain-path f o n l z high (x ∷ xs) zero a few path = absurd (omega arith)
chain-path f o n l z high (x ∷ xs) (suc k) a few path =
    let low : x < n = path.1 in
    rw path.0 (grind (arith, nat_tests, chain-path f o n l z high xs k x (omega arith) path.3))

chains-each : (f : List ℕ) (n : ℕ) (ls : List (List ℕ)) (a : ℕ) → ((l : ℕ) → l < length ls → chain f n n (a + l) ≡ listed ls l) → chains f n a (length ls) ≡ ls
chains-each f n [] a each = refl
chains-each f n (xs ∷ ls) a each =
    let first : chain f n n (a + 0) ≡ xs = each zero (omega arith) in
    let here : chain f n n a ≡ xs = ap (chain f n n) (omega arith) ∙ first in
    let more : chains f n (a + 1) (length ls) ≡ ls = chains-each f n ls (a + 1)
    (λ l low. let e : (a + 1) + l ≡ a + suc l = omega arith in ap (chain f n n) e ∙ each (suc l) (omega arith)) in
    cc

pub length-chains : (f : List ℕ) (n a k : ℕ) → length (chains f n a k) ≡ k
length-chains f n a zero = refl
length-chains f n a (suc k) = ap (λ m. suc m) (length-chains f n (a + 1) k)

by_values : (x c p m fx : ℕ) → x ≢ c → (x ≡ p → fx ≡ c) → (fx ≡ c → x ≡ p) → cond (x == c) c (cond (x == p) m fx) ≡ cond (fx == c) m fx
by_values x c p m fx other a b = grind (arith, nat_tests)

home_kept : (f f' : List ℕ) (ls : List (List ℕ)) (n c d : ℕ) (v : Option ℕ) → d ≢ c → at f' d ≡ cond (at f d == c) (at f c) (at f d) → length (map (without c) ls) ≡ length ls
    → IsHome f ls d v → IsHome f' (map (without c) ls) d v
home_kept f f' ls n c d None other step size home = step ∙ grind (arith, nat_tests)
home_kept f f' ls n c d (Some l) other step size home =
    (omega (arith, size, home.0), ap (list_any (λ x. d == x)) (listed-map (without c) refl ls l) ∙ any-without c d (listed ls l) ∙ grind (arith, nat_tests, home.1))

module _ (f g : List ℕ) (o : List (Option ℕ)) (n : ℕ) (ls : List (List ℕ)) (h : IsLinked f g o n ls) where
  pub list_length : (l : ℕ) → l < length ls → length (listed ls l) ≤ n
  list_length l low = length-le_from_distinct_below (listed ls l) n (h.apart l low) (path_below f o n l (n + l) (n + l) (listed ls l) (h.paths l low))

  -- the lists are what the arrays show
  pub chains-linked : (k : ℕ) → k ≡ length ls → chains f n n k ≡ ls
  chains-linked k e = rw e (chains-each f n ls n (λ l low. chain-path f o n l (n + l) (omega arith) (listed ls l) n (n + l) (list_length l low) (h.paths l low)))

  pub shown : (k : ℕ) → k ≡ length ls → IsLinked f g o n (chains f n n k)
  shown k e = subst (IsLinked f g o n) (sym (chains-linked k e)) h

  -- a cell taken out
  module _ (c : ℕ) (low : c < n) where
    step_out : (x : ℕ) → x < n + length ls → x ≢ c → at (set (set f (at g c) (at f c)) c c) x ≡ cond (at f x == c) (at f c) (at f x)
    step_out x within other =
        let nc : IsNode f g (n + length ls) c = h.nodes c (omega arith) in
        let nx : IsNode f g (n + length ls) x = h.nodes x within in
        let i1 : at g c < length f = omega (arith, nc.prev_in, h.nexts) in
        let i2 : c < length f = omega (arith, h.nexts) in
        at_set_set f (at g c) c (at f c) c x i1 i2
        ∙ by_values x c (at g c) (at f c) (at f x) other (λ e. ap (at f) e ∙ nc.back) (λ e. sym nx.there ∙ ap (at g) e)

    pub out : IsLinked (set (set f (at g c) (at f c)) c c) (set (set g (at f c) (at g c)) c c) (set o c None) n (map (without c) ls)
    out =
        let size : length (map (without c) ls) ≡ length ls = length-map ls (without c) in
        let f' : List ℕ = set (set f (at g c) (at f c)) c c in
        let o' : List (Option ℕ) = set o c None in
        let lf : length f' ≡ n + length ls = length-set (set f (at g c) (at f c)) c c ∙ length-set f (at g c) (at f c) ∙ h.nexts in
        let lg : length (set (set g (at f c) (at g c)) c c) ≡ n + length ls = length-set (set g (at f c) (at g c)) c c ∙ length-set g (at f c) (at g c) ∙ h.prevs in
        let kept : (x : ℕ) → x ≢ c → get_or o' x None ≡ get_or o x None = λ x other. get_or-set_other o c x None None other in
        record {
          nexts = lf ∙ ap (λ k. n + k) (sym size);
          prevs = lg ∙ ap (λ k. n + k) (sym size);
          owners = length-set o c None ∙ h.owners;
          nodes = λ x within. rw size (nodes_out f g (n + length ls) c h.nexts h.prevs (omega arith) h.nodes x (omega (arith, size)));
          paths = λ l within.
              let inside : l < length ls = omega (arith, size) in
              rw (listed-map (without c) refl ls l)
              (path_out f f' o o' n l (n + l) c low (omega arith) (λ x small other. step_out x (omega arith) other) kept (listed ls l) (n + l) (n + l)
              (step_out (n + l) (omega arith) (omega arith)) (h.paths l inside));
          homes = λ d within.
              ⊎_elim
              (λ (same : d ≡ c).
              let i2 : c < length (set f (at g c) (at f c)) = omega (arith, h.nexts, length-set f (at g c) (at f c)) in
              let e : get_or o' d None ≡ None = rw same (get_or-set_same o c None None (omega (arith, h.owners))) in
              let k : at f' d ≡ d = rw same (get_or-set_same (set f (at g c) (at f c)) c c 0 i2) in
              subst (IsHome f' (map (without c) ls) d) (sym e) k)
              (λ (other : d ≢ c).
              subst (IsHome f' (map (without c) ls) d) (sym (kept d other))
              (home_kept f f' ls n c d (get_or o d None) other (step_out d (omega arith) other) size (h.homes d within)))
              (cases_eq d c);
          apart = λ l within. rw (listed-map (without c) refl ls l) (distinct-without c (listed ls l) (h.apart l (omega (arith, size))));
        }

-- a path that the new cell does not touch
path_kept : (f f' : List ℕ) (o o' : List (Option ℕ)) (n m z c s : ℕ) → n ≤ s → z ≢ s → get_or o c None ≡ None
    → ((x : ℕ) → x ≢ c → at f x ≢ s → at f' x ≡ at f x)
    → ((x : ℕ) → x ≢ c → get_or o' x None ≡ get_or o x None)
    → (xs : List ℕ) (a : ℕ) → a ≢ c → IsPath f o n m z a xs → IsPath f' o' n m z a xs
path_kept f f' o o' n m z c s high other lone past kept [] a ne path = past a ne (λ e. other (sym path ∙ e)) ∙ path
path_kept f f' o o' n m z c s high other lone past kept (x ∷ xs) a ne path =
    let nx : x ≢ c = λ e. absurd (let k : get_or o x None ≡ None = rw e lone in cc (k, path.2)) in
    let below : x < n = path.1 in
    let ns : at f a ≢ s = λ e. let k : x ≡ s = sym path.0 ∙ e in omega arith in
    (past a ne ns ∙ path.0, path.1, kept x nx ∙ path.2, path_kept f f' o o' n m z c s high other lone past kept xs x nx path.3)

-- the path that takes the new cell at its end
path_more : (f f' : List ℕ) (o o' : List (Option ℕ)) (n l size c s : ℕ) → n ≤ s → n ≤ size → c < n → get_or o c None ≡ None
    → ((x : ℕ) → x ≢ c → at f x ≢ s → at f' x ≡ at f x)
    → ((x : ℕ) → x < size → x ≢ c → at f x ≡ s → at f' x ≡ c)
    → at f' c ≡ s → get_or o' c None ≡ Some l
    → ((x : ℕ) → x ≢ c → get_or o' x None ≡ get_or o x None)
    → (xs : List ℕ) (a : ℕ) → a < size → a ≢ c → IsPath f o n l s a xs → IsPath f' o' n l s a (xs ++ c ∷ [])
path_more f f' o o' n l size c s high big low lone past last end own kept [] a within ne path = (last a within ne path, low, own, end)
path_more f f' o o' n l size c s high big low lone past last end own kept (x ∷ xs) a within ne path =
    let nx : x ≢ c = λ e. absurd (let k : get_or o x None ≡ None = rw e lone in cc (k, path.2)) in
    let below : x < n = path.1 in
    let ns : at f a ≢ s = λ e. let k : x ≡ s = sym path.0 ∙ e in omega arith in
    (past a ne ns ∙ path.0, path.1, kept x nx ∙ path.2, path_more f f' o o' n l size c s high big low lone past last end own kept xs x (omega arith) nx path.3)

-- the first cell, and the one behind a cell
first-path : (f : List ℕ) (o : List (Option ℕ)) (n l z a : ℕ) (xs : List ℕ) → n ≤ z → IsPath f o n l z a xs → cond (nat_lt (at f a) n) (Some (at f a)) None ≡ slice_get xs 0
first-path f o n l z a [] high path = rw path (grind (arith, nat_tests))
first-path f o n l z a (x ∷ xs) high path = let low : x < n = path.1 in rw path.0 (grind (arith, nat_tests))

next-path : (f : List ℕ) (o : List (Option ℕ)) (n l z a : ℕ) (xs : List ℕ) → n ≤ z → IsPath f o n l z a xs → (k c : ℕ) → slice_get xs k ≡ Some c
    → cond (nat_lt (at f c) n) (Some (at f c)) None ≡ slice_get xs (k + 1)
next-path f o n l z a [] high path k c here = absurd (cc)
next-path f o n l z a (x ∷ xs) high path zero c here = let e : x ≡ c = cc in rw (← e) (first-path f o n l z x xs high path.3)
next-path f o n l z a (x ∷ xs) high path (suc k) c here = let e : suc k + 1 ≡ suc (k + 1) = omega arith in rw e (next-path f o n l z x xs high path.3 k c here)

lone_list : (c : ℕ) (xs : List ℕ) → list_any (λ x. c == x) xs ≡ false → without c xs ≡ xs
lone_list c [] h = refl
lone_list c (x ∷ xs) h = grind (arith, nat_tests, lone_list c xs)

any_none : (c : ℕ) (xs : List ℕ) → AllByRecursion (λ y. (c == y) ≡ false) xs → list_any (λ x. c == x) xs ≡ false
any_none c [] h = refl
any_none c (x ∷ xs) h = rw h.0 (any_none c xs h.1)

first_out : (c : ℕ) (xs : List ℕ) → IsDistinct (λ x y. x == y) (c ∷ xs) → without c (c ∷ xs) ≡ xs
unfolding IsDistinct
first_out c xs h =
    let t : (c == c) ≡ true = grind (arith, nat_tests) in
    rw t (lone_list c xs (any_none c xs h.0))

past_values : (x c s t fx : ℕ) → x ≢ c → x ≢ t → cond (x == c) s (cond (x == t) c fx) ≡ fx
past_values x c s t fx a b = grind (arith, nat_tests)

last_values : (x c s t fx : ℕ) → x ≢ c → x ≡ t → cond (x == c) s (cond (x == t) c fx) ≡ c
last_values x c s t fx a b = grind (arith, nat_tests)

any_end : (l c d : ℕ) (xs : List ℕ) → d ≡ c → list_any (λ x. d == x) (cond (l == l) (xs ++ c ∷ []) xs) ≡ true
any_end l c d xs same =
    let t : (l == l) ≡ true = grind (arith, nat_tests) in
    rw t (list_any-append (λ x. d == x) xs (c ∷ []) ∙ grind (arith, nat_tests))

home_more : (f f' : List ℕ) (ls : List (List ℕ)) (l c d : ℕ) (v : Option ℕ) → (at f d ≡ d → at f' d ≡ d) → length (set ls l (listed ls l ++ c ∷ [])) ≡ length ls
    → ((m : ℕ) → listed (set ls l (listed ls l ++ c ∷ [])) m ≡ cond (m == l) (listed ls l ++ c ∷ []) (listed ls m))
    → IsHome f ls d v → IsHome f' (set ls l (listed ls l ++ c ∷ [])) d v
home_more f f' ls l c d None step size new home = step home
home_more f f' ls l c d (Some m) step size new home = (
  omega (arith, size, home.0),
  ap (list_any (λ x. d == x)) (new m) ∙
      ⊎_elim
      (λ (same : m ≡ l).
      let t : (m == l) ≡ true = grind (arith, nat_tests) in
      let e : list_any (λ x. d == x) (listed ls l) ≡ true = rw (← same) home.1 in
      rw t (list_any-append (λ x. d == x) (listed ls l) (c ∷ []) ∙ grind (arith, nat_tests)))
      (λ (other : m ≢ l).
      let t : (m == l) ≡ false = grind (arith, nat_tests) in
      rw t home.1)
      (cases_eq m l),
)

module _ (f g : List ℕ) (o : List (Option ℕ)) (n : ℕ) (ls : List (List ℕ)) (h : IsLinked f g o n ls) where
  pub front_is : (l : ℕ) → l < length ls → cond (nat_lt (at f (n + l)) n) (Some (at f (n + l))) None ≡ slice_get (listed ls l) 0
  front_is l low = first-path f o n l (n + l) (n + l) (listed ls l) (omega arith) (h.paths l low)

  pub next_is : (l k c : ℕ) → l < length ls → slice_get (listed ls l) k ≡ Some c → cond (nat_lt (at f c) n) (Some (at f c)) None ≡ slice_get (listed ls l) (k + 1)
  next_is l k c low here = next-path f o n l (n + l) (n + l) (listed ls l) (omega arith) (h.paths l low) k c here

  pub owner_is : (l c : ℕ) → l < length ls → in_list ls l c ≡ true → get_or o c None ≡ Some l
  owner_is l c low here = path_owner f o n l (n + l) (n + l) (listed ls l) (h.paths l low) c here

  pub owned_in : (l c : ℕ) → c < n → get_or o c None ≡ Some l → in_list ls l c ≡ true
  owned_in l c low e = let home : IsHome f ls c (Some l) = subst (IsHome f ls c) e (h.homes c low) in home.1

  pub lone_owner : (c : ℕ) → c < n → ((l : ℕ) → l < length ls → in_list ls l c ≡ false) → get_or o c None ≡ None
  lone_owner c low none = with (get_or o c None) (h.homes c low) where
    with : (v : Option ℕ) → IsHome f ls c v → v ≡ None
    with None home = refl
    with (Some l) home = absurd (let e : in_list ls l c ≡ false = none l home.0 in let k : in_list ls l c ≡ true = home.1 in cc (e, k))

  absent : (l c : ℕ) → l < length ls → get_or o c None ≢ Some l → in_list ls l c ≡ false
  absent l c low other = with (in_list ls l c) (owner_is l c low) where
    with : (b : Bool) → (b ≡ true → get_or o c None ≡ Some l) → b ≡ false
    with true own = absurd (other (own refl))
    with false own = refl

  pub owner_in_range : (c : ℕ) (v : Option ℕ) → c < n → get_or o c None ≡ v → IfSome v (λ l. l < length ls)
  owner_in_range c None low e = tt
  owner_in_range c (Some l) low e = let home : IsHome f ls c (Some l) = subst (IsHome f ls c) e (h.homes c low) in home.0

  pub unowned : (c : ℕ) (v : Option ℕ) → get_or o c None ≡ v → IfNone v ((l : ℕ) → l < length ls → in_list ls l c ≡ false)
  unowned c None e = λ l low. absent l c low (λ own. absurd (cc (e, own)))
  unowned c (Some l) e = tt

  -- a lone cell put at the end of a list
  module _ (l c : ℕ) (inside : l < length ls) (low : c < n) (lone : get_or o c None ≡ None) where
    pub put_in : IsLinked (set (set f (at g (n + l)) c) c (n + l)) (set (set g (n + l) c) c (at g (n + l))) (set o c (Some l)) n (set ls l (listed ls l ++ c ∷ []))
    put_in =
        let s : ℕ = n + l in
        let t : ℕ = at g s in
        let size : ℕ = n + length ls in
        let ns : IsNode f g size s = h.nodes s (omega arith) in
        let tin : t < size = ns.prev_in in
        let lonef : at f c ≡ c = subst (IsHome f ls c) lone (h.homes c low) in
        let nc : IsNode f g size c = h.nodes c (omega arith) in
        let loneg : at g c ≡ c = ap (at g) (sym lonef) ∙ nc.there in
        let apart : s ≢ c = λ e. omega arith in
        let apart' : t ≢ c = λ e. let k : s ≡ c = sym ns.back ∙ ap (at f) e ∙ lonef in omega arith in
        let f' : List ℕ = set (set f t c) c s in
        let o' : List (Option ℕ) = set o c (Some l) in
        let more : length (set ls l (listed ls l ++ c ∷ [])) ≡ length ls = length-set ls l (listed ls l ++ c ∷ []) in
        let i1 : t < length f = omega (arith, h.nexts, tin) in
        let i2 : c < length f = omega (arith, h.nexts) in
        let at_f' : (x : ℕ) → at f' x ≡ cond (x == c) s (cond (x == t) c (at f x)) = λ x. at_set_set f t c c s x i1 i2 in
        let past : (x : ℕ) → x ≢ c → at f x ≢ s → at f' x ≡ at f x = λ x ne no. at_f' x ∙ past_values x c s t (at f x) ne (λ e. no (ap (at f) e ∙ ns.back)) in
        let last : (x : ℕ) → x < size → x ≢ c → at f x ≡ s → at f' x ≡ c =
        λ x within ne e. let nx : IsNode f g size x = h.nodes x within in at_f' x ∙ last_values x c s t (at f x) ne (sym nx.there ∙ ap (at g) e) in
        let end : at f' c ≡ s = at_f' c ∙ grind (arith, nat_tests) in
        let own : get_or o' c None ≡ Some l = get_or-set_same o c (Some l) None (omega (arith, h.owners)) in
        let kept : (x : ℕ) → x ≢ c → get_or o' x None ≡ get_or o x None = λ x other. get_or-set_other o c x (Some l) None other in
        let new : (m : ℕ) → listed (set ls l (listed ls l ++ c ∷ [])) m ≡ cond (m == l) (listed ls l ++ c ∷ []) (listed ls m) = λ m. get_or_set ls l m
        (listed ls l ++ c ∷ []) [] inside in
        let out : list_any (λ x. c == x) (listed ls l) ≡ false = absent l c inside (λ e. absurd (cc (e, lone))) in
        record {
          nexts = length-set (set f t c) c s ∙ length-set f t c ∙ h.nexts ∙ ap (λ k. n + k) (sym more);
          prevs = length-set (set g s c) c t ∙ length-set g s c ∙ h.prevs ∙ ap (λ k. n + k) (sym more);
          owners = length-set o c (Some l) ∙ h.owners;
          nodes = λ x within. rw more (
              let w : x < size = omega (arith, more) in
              let back : (k : ℕ) → k < size → IsNode g f size k = turned f g size h.nodes in
              record {
                next_in = in_in f g size c s t x h.nexts (omega arith) (omega arith) tin w h.nodes;
                prev_in = in_in g f size c t s x h.prevs (omega arith) tin (omega arith) w back;
                there = in_there f g size c s t x h.nexts h.prevs (omega arith) (omega arith) tin w h.nodes lonef ns.back apart;
                back = in_there g f size c t s x h.prevs h.nexts (omega arith) tin (omega arith) w back loneg refl apart';
              });
          paths = λ m within. rw (new m) (
              let w : m < length ls = omega (arith, more) in
              ⊎_elim
              (λ (same : m ≡ l).
              let t : (m == l) ≡ true = grind (arith, nat_tests) in
              rw (t, same) (path_more f f' o o' n l size c s (omega arith) (omega arith) low lone past last end own kept (listed ls l) s (omega arith) apart (h.paths l inside)))
              (λ (other : m ≢ l).
              let t : (m == l) ≡ false = grind (arith, nat_tests) in
              rw t (path_kept f f' o o' n m (n + m) c s (omega arith) (λ e. other (omega arith)) lone past kept (listed ls m) (n + m) (omega arith) (h.paths m w)))
              (cases_eq m l));
          homes = λ d within.
              ⊎_elim
              (λ (same : d ≡ c).
              let e : get_or o' d None ≡ Some l = rw same own in
              subst (IsHome f' (set ls l (listed ls l ++ c ∷ [])) d) (sym e)
              (omega (arith, more), ap (list_any (λ x. d == x)) (new l) ∙ any_end l c d (listed ls l) same))
              (λ (other : d ≢ c).
              subst (IsHome f' (set ls l (listed ls l ++ c ∷ [])) d) (sym (kept d other))
              (home_more f f' ls l c d (get_or o d None) (λ e. past d other (λ k. omega (arith, e, k)) ∙ e) more new (h.homes d within)))
              (cases_eq d c);
          apart = λ m within. rw (new m) (
              ⊎_elim
              (λ (same : m ≡ l).
              let t : (m == l) ≡ true = grind (arith, nat_tests) in
              rw t (IsDistinct-push nat_eq_equiv (listed ls l) c (h.apart l inside) out))
              (λ (other : m ≢ l).
              let t : (m == l) ≡ false = grind (arith, nat_tests) in
              rw t (h.apart m (omega (arith, more))))
              (cases_eq m l));
        }

  -- the first cell of a list taken out
  pub popped : (l c : ℕ) (xs : List ℕ) → l < length ls → listed ls l ≡ c ∷ xs → map (without c) ls ≡ set ls l xs
  popped l c xs inside first =
      let own : get_or o c None ≡ Some l = owner_is l c inside (rw first (grind (arith, nat_tests))) in
      let apart : IsDistinct (λ x y. x == y) (c ∷ xs) = subst (IsDistinct (λ x y. x == y)) first (h.apart l inside) in
      ext_get_or [] (map (without c) ls) (set ls l xs) (length-map ls (without c) ∙ sym (length-set ls l xs))
      (λ m low.
      let w : m < length ls = omega (arith, length-map ls (without c)) in
      listed-map (without c) refl ls m ∙
      ⊎_elim
      (λ (same : m ≡ l). rw same (ap (without c) first ∙ first_out c xs apart ∙ sym (get_or-set_same ls l xs [] inside)))
      (λ (other : m ≢ l). lone_list c (listed ls m) (absent m c w (λ e. let k : l ≡ m = cc (e, own) in other (sym k))) ∙ sym (get_or-set_other ls l m xs [] other))
      (cases_eq m l))

-- what the calls do, at what they read
pub unlinked : (f g : List ℕ) (o : List (Option ℕ)) (n k c p m : ℕ) → IsLinked f g o n (chains f n n k) → c < n → p ≡ at g c → m ≡ at f c
    → IsLinked (set (set f p m) c c) (set (set g m p) c c) (set o c None) n (chains (set (set f p m) c c) n n k)
    × (chains (set (set f p m) c c) n n k ≡ map (without c) (chains f n n k))
unlinked f g o n k c p m h low readp readm =
    let ls : List (List ℕ) = chains f n n k in
    let e : length ls ≡ k = length-chains f n n k in
    let new : IsLinked (set (set f p m) c c) (set (set g m p) c c) (set o c None) n (map (without c) ls) =
    subst (λ (q : ℕ). IsLinked (set (set f q m) c c) (set (set g m q) c c) (set o c None) n (map (without c) ls)) (sym readp)
    (subst (λ (r : ℕ). IsLinked (set (set f (at g c) r) c c) (set (set g r (at g c)) c c) (set o c None) n (map (without c) ls)) (sym readm) (out f g o n ls h c low)) in
    let size : k ≡ length (map (without c) ls) = sym (length-map ls (without c) ∙ e) in
    (shown _ _ _ _ _ new k size, chains-linked _ _ _ _ _ new k size)

pub pushed : (f g : List ℕ) (o : List (Option ℕ)) (n k l c t : ℕ) → IsLinked f g o n (chains f n n k) → l < k → c < n → t ≡ at g (n + l)
    → ((m : ℕ) → m < length (chains f n n k) → in_list (chains f n n k) m c ≡ false)
    → IsLinked (set (set f t c) c (n + l)) (set (set g (n + l) c) c t) (set o c (Some l)) n (chains (set (set f t c) c (n + l)) n n k)
    × (chains (set (set f t c) c (n + l)) n n k ≡ set (chains f n n k) l (listed (chains f n n k) l ++ c ∷ []))
pushed f g o n k l c t h inside low read lone =
    let ls : List (List ℕ) = chains f n n k in
    let e : length ls ≡ k = length-chains f n n k in
    let new : IsLinked (set (set f t c) c (n + l)) (set (set g (n + l) c) c t) (set o c (Some l)) n (set ls l (listed ls l ++ c ∷ [])) =
    subst (λ (q : ℕ). IsLinked (set (set f q c) c (n + l)) (set (set g (n + l) c) c q) (set o c (Some l)) n (set ls l (listed ls l ++ c ∷ []))) (sym read)
    (put_in f g o n ls h l c (omega (arith, e)) low (lone_owner f g o n ls h c low lone)) in
    let size : k ≡ length (set ls l (listed ls l ++ c ∷ [])) = sym (length-set ls l _ ∙ e) in
    (shown _ _ _ _ _ new k size, chains-linked _ _ _ _ _ new k size)

-- what a node leads to, at what was read
pub leads_in : (f : List ℕ) (n i b : ℕ) (r : Option ℕ) → b ≡ at f i → b < n → cond (nat_lt (at f i) n) (Some (at f i)) None ≡ r → Some b ≡ r
leads_in f n i b r read in' e = let k : at f i ≡ b = sym read in sym (rw k (grind (arith, nat_tests))) ∙ e

pub leads_out : (f : List ℕ) (n i b : ℕ) (r : Option ℕ) → b ≡ at f i → n ≤ b → cond (nat_lt (at f i) n) (Some (at f i)) None ≡ r → None ≡ r
leads_out f n i b r read out' e = let k : at f i ≡ b = sym read in sym (rw k (grind (arith, nat_tests))) ∙ e

pub first_of : (xs : List ℕ) (c : ℕ) → Some c ≡ slice_get xs 0 → xs ≡ c ∷ drop 1 xs
first_of [] c e = absurd (cc)
first_of (x ∷ xs) c e = cc

pub same_chained : (a : Chained) (n : ℕ) (ls : List (List ℕ)) → a.cells ≡ n → a.lists ≡ ls → a ≡ record { cells = n; lists = ls }
same_chained a n ls e f =
    ap (λ (m : ℕ). let v : Chained = record { cells = m; lists = a.lists } in v) e ∙ ap (λ (k : List (List ℕ)). let v : Chained = record { cells = n; lists = k } in v) f
