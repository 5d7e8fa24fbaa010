-- A list of processes read from its first on.
use Rattle.std.proofs.Common.{◌≡◌, ℕ, zero, suc, ◌+◌, ◌-◌, ◌<◌, ◌==◌, ◌||◌, Bool, true, false, List, [], ◌∷◌, ◌++◌, length, take, Option, Some, None, refl, sym, ap, ◌∙◌}
use Rattle.std.proofs.Common.{subst, arith}
use Rattle.std.specs.Prelude.{slice_get}
use Rattle.std.proofs.lemmas.List.{length-append}
use Rattle.std.proofs.lemmas.Bool.Decides.{nat_tests}
use Rattle.hk_model.specs.declared.names.Proc.{Proc}
use Rattle.hk_queues.specs.Queued.{is_queued}

inside : (w : List Proc) (k : ℕ) (p : Proc) → Some p ≡ slice_get w k → k < length w
inside [] k p e = absurd (cc)
inside (x ∷ w) zero p e = omega arith
inside (x ∷ w) (suc k) p e = let h = inside w k p e in omega (arith, h)

take-next : (w : List Proc) (k : ℕ) (p : Proc) → Some p ≡ slice_get w k → take k w ++ p ∷ [] ≡ take (suc k) w
take-next [] k p e = absurd (cc)
take-next (x ∷ w) zero p e = let same : p ≡ x = cc in ap (λ (q : Proc). q ∷ []) same
take-next (x ∷ w) (suc k) p e = ap (λ (rest : List Proc). x ∷ rest) (take-next w k p e)

take-end : (w : List Proc) (k : ℕ) → None ≡ slice_get w k → take k w ≡ w
take-end [] zero e = refl
take-end [] (suc k) e = refl
take-end (x ∷ w) zero e = absurd (cc)
take-end (x ∷ w) (suc k) e = ap (λ (rest : List Proc). x ∷ rest) (take-end w k e)

queued_at : (w : List Proc) (k : ℕ) (p : Proc) → Some p ≡ slice_get w k → is_queued p w ≡ true
queued_at [] k p e = absurd (cc)
queued_at (x ∷ w) zero p e = let same : (p.0 == x.0) ≡ true = (let n : p.0 ≡ x.0 = (let s : p ≡ x = cc in ap (λ (q : Proc). q.0) s) in grind (arith, nat_tests)) in rw same refl
queued_at (x ∷ w) (suc k) p e = rw (queued_at w k p e) (either (p.0 == x.0)) where
  either : (b : Bool) → (b || true) ≡ true
  either true = refl
  either false = refl

-- the first processes of a list were read, and the next one is known
pub record IsRead (w all : List Proc) (next : Option Proc) : Type 0 where
  pub first : all ≡ take (length all) w
  pub behind : next ≡ slice_get w (length all)

pub read_none : (w all : List Proc) (next : Option Proc) → all ≡ [] → next ≡ slice_get w 0 → IsRead w all next
read_none w all next none first = subst (λ (v : List Proc). IsRead w v next) (sym none) (record { first = refl; behind = first })

pub read_proc : (w all : List Proc) (p : Proc) → IsRead w all (Some p) → is_queued p w ≡ true
read_proc w all p h = queued_at w (length all) p h.behind

pub read_less : (w all : List Proc) (p : Proc) → IsRead w all (Some p) → length all < length w
read_less w all p h = inside w (length all) p h.behind

pub read_more : (w all more : List Proc) (p : Proc) (next : Option Proc) → IsRead w all (Some p) → more ≡ all ++ p ∷ [] → next ≡ slice_get w (length all + 1) → IsRead w more next
read_more w all more p next h e n =
    let size : length more ≡ suc (length all) = ap (λ (v : List Proc). length v) e ∙ grown all in
    record {
      first = e ∙ ap (λ (v : List Proc). v ++ p ∷ []) h.first ∙ take-next w (length all) p h.behind ∙ ap (λ (k : ℕ). take k w) (sym size);
      behind = n ∙ (let same : length all + 1 ≡ length more = omega (arith, size) in ap (slice_get w) same);
    } where
      grown : (v : List Proc) → length (v ++ p ∷ []) ≡ suc (length v)
      grown [] = refl
      grown (x ∷ v) = ap suc (grown v)

pub read_smaller : (w all more : List Proc) (p : Proc) → IsRead w all (Some p) → more ≡ all ++ p ∷ [] → length w - length more < length w - length all
read_smaller w all more p h e =
    let less = read_less w all p h in
    let size : length more ≡ length all + 1 = ap (λ (v : List Proc). length v) e ∙ length-append all (p ∷ []) in
    omega arith

pub read_all : (w all : List Proc) (o : Option Proc) → IsRead w all o → ((p : Proc) → o ≡ Some p → ⊥) → all ≡ w
read_all w all None h none = h.first ∙ take-end w (length all) h.behind
read_all w all (Some p) h none = absurd (none p refl)
