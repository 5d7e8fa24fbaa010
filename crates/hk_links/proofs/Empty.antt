-- Lists with nothing in them.
use Rattle.std.proofs.Common.{◌≡◌, ℕ, zero, suc, ◌+◌, ◌<◌, List, [], length, get_or, replicate, refl, ap, ◌∙◌, sym, subst, arith, Option, None}
use Rattle.std.proofs.lemmas.List.{length-replicate}
use Rattle.std.specs.List.{IsDistinct}
use Rattle.hk_links.specs.Chained.{listed}
use Rattle.hk_links.specs.Linked.{at, IsHome, IsLinked, chains}
use Rattle.hk_links.proofs.Paths.{shown, chains-linked}

listed-replicate : (k l : ℕ) → listed (replicate k []) l ≡ []
listed-replicate zero l = refl
listed-replicate (suc k) zero = refl
listed-replicate (suc k) (suc l) = listed-replicate k l

pub empty_linked : (f g : List ℕ) (o : List (Option ℕ)) (n k : ℕ) → length f ≡ n + k → length g ≡ n + k → length o ≡ n
    → ((x : ℕ) → x < n + k → at f x ≡ x) → ((x : ℕ) → x < n + k → at g x ≡ x) → ((x : ℕ) → get_or o x None ≡ None)
    → IsLinked f g o n (replicate k [])
unfolding IsDistinct
empty_linked f g o n k lf lg lo af ag ao =
    let e : length (replicate k []) ≡ k = length-replicate k [] in
    record {
      nexts = lf ∙ ap (λ m. n + m) (sym e);
      prevs = lg ∙ ap (λ m. n + m) (sym e);
      owners = lo;
      nodes = λ x within. rw e (let w : x < n + k = omega (arith, e) in record {
        next_in = rw (af x w) w;
        prev_in = rw (ag x w) w;
        there = ap (at g) (af x w) ∙ ag x w;
        back = ap (at f) (ag x w) ∙ af x w;
      });
      paths = λ l low. rw (listed-replicate k l) (af (n + l) (omega (arith, e)));
      homes = λ c low. subst (IsHome f (replicate k []) c) (sym (ao c)) (af c (omega arith));
      apart = λ l low. rw (listed-replicate k l) tt;
    }

pub empty_shown : (f g : List ℕ) (o : List (Option ℕ)) (n k : ℕ) → IsLinked f g o n (replicate k []) → IsLinked f g o n (chains f n n k) × (chains f n n k ≡ replicate k [])
empty_shown f g o n k h = let e : length (replicate k []) ≡ k = length-replicate k [] in (shown _ _ _ _ _ h k (sym e), chains-linked _ _ _ _ _ h k (sym e))
