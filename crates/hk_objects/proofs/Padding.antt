-- What a list has of which only the front is kept.
use Rattle.std.proofs.Common.{◌≡◌, ℕ, zero, suc, ◌-◌, ◌<◌, ◌≤◌, List, [], ◌∷◌, ◌++◌, length, set, Option, Some, None, replicate, refl, ap, sym, ◌∙◌, arith, ⊎_elim}
use Rattle.std.proofs.Common.{append_assoc, get_or, length-append, length-set, subst, IsSome, IfSome, option_map}
use Rattle.std.proofs.lemmas.Bool.{cases_lt}
use Rattle.std.proofs.lemmas.List.{get_or_append_left, get_or_default, get_or-append_right, get_or_past, length-replicate, set-append_left, set-get_or}
use Rattle.std.specs.Prelude.{vec_len}
use Rattle.std.specs.Global.{Vec}
use Rattle.hk_model.specs.declared.names.Name.{Name}
use Rattle.hk_objects.specs.Padded.{padded}
use Rattle.hk_objects.specs.Slots.{place, change}
use Rattle.hk_objects.proofs.Standing.{within_some}

module _ {X : Type 0} where
  nothing_at : (n i : ℕ) → get_or (replicate n (let o : Option X = None in o)) i None ≡ None
  nothing_at zero i = refl
  nothing_at (suc n) zero = refl
  nothing_at (suc n) (suc i) = nothing_at n i

  -- what stands in a slot stands in the front
  pub get_or-padded : (front : List (Option X)) (i : ℕ) → get_or (padded front) i None ≡ get_or front i None
  unfolding padded
  get_or-padded front i =
      ⊎_elim
      (λ (low : i < length front). get_or_append_left front (replicate (65536 - length front) None) None i low)
      (λ (high : length front ≤ i).
      get_or-append_right front (replicate (65536 - length front) None) (length front) i None refl high
      ∙ nothing_at (65536 - length front) (i - length front) ∙ sym (get_or_past front i None high))
      (cases_lt i (length front))

  pub length-padded : (front : List (Option X)) → length front ≤ 65536 → length (padded front) ≡ 65536
  unfolding padded
  length-padded front few =
      let n : ℕ = 65536 - length front in
      omega (arith, few, length-append front (replicate n None), length-replicate n (let o : Option X = None in o))

  -- a write in the front
  pub set-padded : (front : List (Option X)) (i : ℕ) (item : Option X) → i < length front → set (padded front) i item ≡ padded (set front i item)
  unfolding padded
  set-padded front i item low =
      set-append_left front (replicate (65536 - length front) None) i item low
      ∙ ap (λ (n : ℕ). set front i item ++ replicate (65536 - n) None) (sym (length-set front i item))

  -- behind the front nothing can be taken away
  pub clear_behind : (front : List (Option X)) (i : ℕ) → length front ≤ i → set (padded front) i None ≡ padded front
  clear_behind front i high =
      ap (λ (o : Option X). set (padded front) i o) (sym (get_or-padded front i ∙ get_or_past front i None high)) ∙ set-get_or (padded front) i None

  -- a longer front
  pub padded_more : (front : List (Option X)) → length front < 65536 → padded (front ++ None ∷ []) ≡ padded front
  unfolding padded
  padded_more front low =
      let n : ℕ = 65536 - length (front ++ None ∷ []) in
      let more : 65536 - length front ≡ suc n = omega (arith, length-append front (None ∷ [])) in
      append_assoc front (None ∷ []) (replicate n None) ∙ ap (λ (m : ℕ). front ++ replicate m None) (sym more)

  -- an empty front
  pub size_first : (front : List (Option X)) → front ≡ [] → length (padded front) ≡ 65536
  size_first front none = length-padded front (let few = ap (λ (xs : List (Option X)). length xs) none in omega (arith, few))

  pub nothing_first : (front : List (Option X)) → front ≡ [] → (i : ℕ) → get_or (padded front) i None ≡ None
  nothing_first front none i = get_or-padded front i ∙ ap (λ (xs : List (Option X)). get_or xs i None) none

module _ {X : Type 0} where
  -- what stands somewhere stands in the front
  pub in_front : (front : Vec (Option (Name × X))) (ps : List (Option (Name × X))) (i : ℕ) → padded front.items ≡ ps → IsSome (place ps i) → i < vec_len front
  in_front front ps i view some =
      let same : place ps i ≡ place front.items i = ap (λ (qs : List (Option (Name × X))). place qs i) (sym view) ∙ get_or-padded front.items i in
      let low : i < length front.items = within_some front.items i (subst (λ (o : Option (Name × X)). IsSome o) same some) in
      let ok = front.ok in
      omega (arith, ok, low)

  -- what is read from the front stands there
  pub read_in : (front : Vec (Option (Name × X))) (ps : List (Option (Name × X))) (i : ℕ) (r : Option (Name × X)) (e : Name × X) (P : Name × X → Type 0)
      → padded front.items ≡ ps → IsSome (place ps i) → r ≡ get_or front.items i r → r ≡ Some e → IfSome (place ps i) P → P e
  read_in front ps i r e P view some read is h =
      let low : i < length front.items = (let h = in_front front ps i view some in let ok = front.ok in omega (arith, ok, h)) in
      let same : place ps i ≡ Some e =
      ap (λ (qs : List (Option (Name × X))). place qs i) (sym view) ∙ get_or-padded front.items i ∙ get_or_default front.items i None r low ∙ sym read ∙ is in
      subst (λ (o : Option (Name × X)). IfSome o P) same h

  -- a change in the front
  pub change_in : (front : Vec (Option (Name × X))) (new ps : List (Option (Name × X))) (i : ℕ) (f : X → X) → padded front.items ≡ ps → IsSome (place ps i)
      → new ≡ change front.items i f → padded new ≡ change ps i f
  change_in front new ps i f view some e =
      let low : i < length front.items = (let h = in_front front ps i view some in let ok = front.ok in omega (arith, ok, h)) in
      let part : Option (Name × X) → Option (Name × X) = option_map (λ (e : Name × X). let r : Name × X = (e.0, f e.1) in r) in
      ap padded e ∙ sym (set-padded front.items i (part (place front.items i)) low)
      ∙ ap (λ (o : Option (Name × X)). set (padded front.items) i (part o)) (sym (get_or-padded front.items i))
      ∙ ap (λ (qs : List (Option (Name × X))). change qs i f) view
