-- What a splice does to the nodes of the rings.
use Rattle.std.proofs.Common.{◌≡◌, ◌≢◌, ℕ, ◌<◌, cond, List, length, get_or, set, ap, ◌∙◌, sym, arith, ⊎_elim, get_or-set_same, get_or-set_other, length-set}
use Rattle.std.proofs.lemmas.Bool.Decides.{nat_tests}
use Rattle.std.proofs.lemmas.Bool.{cases_eq}
use Rattle.std.specs.Bool.{◌==◌}
use Rattle.hk_links.specs.Linked.{at, IsNode}

pub get_or_set : {X : Type 0} (xs : List X) (i k : ℕ) (v d : X) → i < length xs → get_or (set xs i v) k d ≡ cond (k == i) v (get_or xs k d)
get_or_set xs i k v d low =
    ⊎_elim
    (λ (same : k ≡ i). rw same (get_or-set_same xs i v d low ∙ grind (arith, nat_tests)))
    (λ (other : k ≢ i). get_or-set_other xs i k v d other ∙ grind (arith, nat_tests))
    (cases_eq k i)

-- two writes
pub at_set_set : (xs : List ℕ) (i j u v k : ℕ) → i < length xs → j < length xs → at (set (set xs i u) j v) k ≡ cond (k == j) v (cond (k == i) u (at xs k))
at_set_set xs i j u v k low high =
    let more : j < length (set xs i u) = omega (arith, length-set xs i u) in
    get_or_set (set xs i u) j k v 0 more ∙ ap (cond (k == j) v) (get_or_set xs i k u 0 low)

-- a node taken out: the way there and back, by values
out_values : (c x y z p m fx gy : ℕ) → y ≡ cond (x == c) c (cond (x == p) m fx) → z ≡ cond (y == c) c (cond (y == m) p gy)
    → (fx ≡ c → x ≡ p) → (fx ≡ m → x ≡ c) → (y ≡ fx → gy ≡ x) → (m ≡ c → p ≡ c) → z ≡ x
out_values c x y z p m fx gy hy hz a b d e = grind (arith, nat_tests)

pub out_there : (f g : List ℕ) (size c x : ℕ) → length f ≡ size → length g ≡ size → c < size → x < size → ((k : ℕ) → k < size → IsNode f g size k)
    → at (set (set g (at f c) (at g c)) c c) (at (set (set f (at g c) (at f c)) c c) x) ≡ x
out_there f g size c x lf lg low within nodes =
    let nc : IsNode f g size c = nodes c low in
    let nx : IsNode f g size x = nodes x within in
    let y : ℕ = at (set (set f (at g c) (at f c)) c c) x in
    let i1 : at g c < length f = omega (arith, nc.prev_in) in
    let i2 : c < length f = omega arith in
    let i3 : at f c < length g = omega (arith, nc.next_in) in
    let i4 : c < length g = omega arith in
    out_values c x y (at (set (set g (at f c) (at g c)) c c) y) (at g c) (at f c) (at f x) (at g y)
    (at_set_set f (at g c) c (at f c) c x i1 i2)
    (at_set_set g (at f c) c (at g c) c y i3 i4)
    (λ h. sym nx.there ∙ ap (at g) h)
    (λ h. sym nx.there ∙ ap (at g) h ∙ nc.there)
    (λ h. ap (at g) h ∙ nx.there)
    (λ h. ap (at g) (sym h) ∙ nc.there)

pub out_in : (f g : List ℕ) (size c x : ℕ) → length f ≡ size → c < size → x < size → ((k : ℕ) → k < size → IsNode f g size k)
    → at (set (set f (at g c) (at f c)) c c) x < size
out_in f g size c x lf low within nodes =
    let nc : IsNode f g size c = nodes c low in
    let nx : IsNode f g size x = nodes x within in
    let i1 : at g c < length f = omega (arith, nc.prev_in) in
    let i2 : c < length f = omega arith in
    let e : at (set (set f (at g c) (at f c)) c c) x ≡ cond (x == c) c (cond (x == at g c) (at f c) (at f x)) = at_set_set f (at g c) c (at f c) c x i1 i2 in
    let j1 : at f c < size = nc.next_in in
    let j2 : at f x < size = nx.next_in in
    rw e (grind (arith, nat_tests))

-- the two arrays may change their parts
pub turned : (f g : List ℕ) (size : ℕ) → ((k : ℕ) → k < size → IsNode f g size k) → (k : ℕ) → k < size → IsNode g f size k
turned f g size nodes k low = let n : IsNode f g size k = nodes k low in record { next_in = n.prev_in; prev_in = n.next_in; there = n.back; back = n.there }

pub nodes_out : (f g : List ℕ) (size c : ℕ) → length f ≡ size → length g ≡ size → c < size → ((k : ℕ) → k < size → IsNode f g size k)
    → (x : ℕ) → x < size → IsNode (set (set f (at g c) (at f c)) c c) (set (set g (at f c) (at g c)) c c) size x
nodes_out f g size c lf lg low nodes x within = record {
  next_in = out_in f g size c x lf low within nodes;
  prev_in = out_in g f size c x lg low within (turned f g size nodes);
  there = out_there f g size c x lf lg low within nodes;
  back = out_there g f size c x lg lf low within (turned f g size nodes);
}

-- a lone node put in before the node s
in_values : (c x y z s t fx gy : ℕ) → y ≡ cond (x == c) s (cond (x == t) c fx) → z ≡ cond (y == c) t (cond (y == s) c gy)
    → (fx ≡ c → x ≡ c) → (fx ≡ s → x ≡ t) → (y ≡ fx → gy ≡ x) → s ≢ c → z ≡ x
in_values c x y z s t fx gy hy hz a b d e = grind (arith, nat_tests)

pub in_there : (f g : List ℕ) (size c s t x : ℕ) → length f ≡ size → length g ≡ size → c < size → s < size → t < size → x < size → ((k : ℕ) → k < size → IsNode f g size k)
    → at f c ≡ c → at f t ≡ s → s ≢ c
    → at (set (set g s c) c t) (at (set (set f t c) c s) x) ≡ x
in_there f g size c s t x lf lg low sin tin within nodes lone link other =
    let nc : IsNode f g size c = nodes c low in
    let nx : IsNode f g size x = nodes x within in
    let nt : IsNode f g size t = nodes t tin in
    let y : ℕ = at (set (set f t c) c s) x in
    let i1 : t < length f = omega arith in
    let i2 : c < length f = omega arith in
    let i3 : s < length g = omega arith in
    let i4 : c < length g = omega arith in
    in_values c x y (at (set (set g s c) c t) y) s t (at f x) (at g y)
    (at_set_set f t c c s x i1 i2)
    (at_set_set g s c c t y i3 i4)
    (λ h. sym nx.there ∙ ap (at g) (h ∙ sym lone) ∙ nc.there)
    (λ h. sym nx.there ∙ ap (at g) (h ∙ sym link) ∙ nt.there)
    (λ h. ap (at g) h ∙ nx.there)
    other

pub in_in : (f g : List ℕ) (size c s t x : ℕ) → length f ≡ size → c < size → s < size → t < size → x < size → ((k : ℕ) → k < size → IsNode f g size k)
    → at (set (set f t c) c s) x < size
in_in f g size c s t x lf low sin tin within nodes =
    let nx : IsNode f g size x = nodes x within in
    let i1 : t < length f = omega arith in
    let i2 : c < length f = omega arith in
    let e : at (set (set f t c) c s) x ≡ cond (x == c) s (cond (x == t) c (at f x)) = at_set_set f t c c s x i1 i2 in
    let j2 : at f x < size = nx.next_in in
    rw e (grind (arith, nat_tests))
