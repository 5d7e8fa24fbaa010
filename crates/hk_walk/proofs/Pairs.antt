-- Remembered pairs.
use Rattle.std.proofs.Common.{◌≡◌, ◌⊎◌, ℕ, ◌-◌, ◌&&◌, ◌==◌, Bool, true, false, List, [], ◌∷◌, length, take, Contains, Option, Some, None, is_some, Result, Ok, Err, OnOk, OnErr}
use Rattle.std.proofs.Common.{refl, sym, ap, subst, ◌∙◌, inl, inr, nat_eq}
use Rattle.std.proofs.lemmas.Bool.Decides.{Decides-eqb}
use Rattle.std.proofs.lemmas.List.{take_at}
use Rattle.std.proofs.lemmas.Option.{none-some, same_Some}
use Rattle.std.specs.Cmp.Lexicographic.{pointwise, same_text}
use Rattle.std.specs.List.{slice_get}
use Rattle.std.specs.Map.{lookup, lookup_entry, remove_entry}
use Rattle.std.specs.Option.{option_map_or}
use Rattle.lru.specs.LruCache.{LruCache, lru_cache, promoted, put_entries}
use Rattle.lru.proofs.Splits.{Contains-head, Contains-tail, Contains-cons, Contains-nil}
use Rattle.std.proofs.lemmas.Bool.{false≢true}
use Rattle.std.proofs.lemmas.Cmp.{nat_list_eq_equiv}
use Rattle.lru.proofs.CallerLemmas.{Contains-lookup, Contains-lookup_entry, Contains-promoted, Contains-put_entries}
use Rattle.hk_model.specs.declared.entries.Cap.{Cap}
use Rattle.hk_model.specs.declared.entries.Entry.{Entry}
use Rattle.hk_model.specs.declared.entries.Entry.TheVariants.{Held}
use Rattle.hk_model.specs.State.{State}
use Rattle.hk_model.specs.Walking.{walk_on}
use Rattle.hk_walk.specs.declared.trail.Trail.{Trail}
use Rattle.hk_walk.specs.contracts.trail.TrailPartialEq.TheImpl.{eq-value}
use Rattle.hk_walk.specs.Remembered.{Remembered}
use Rattle.hk_walk.specs.Walks.{trail, AreRight, Remembers, JoinsAtMost, NoneGoes}

left_of : (x y : Bool) → (x && y) ≡ true → x ≡ true
left_of true y h = refl
left_of false y h = h

right_of : (x y : Bool) → (x && y) ≡ true → y ≡ true
right_of true y h = h
right_of false true h = refl
right_of false false h = h

-- the derived `==` is equality
pub same_trail : (a b : Trail) → (eq-value).it a b ≡ true → a ≡ b
same_trail a b h =
    let e : ((a.name == b.name) && ((a.rights == b.rights) && ((a.len == b.len) && pointwise nat_eq a.rest b.rest))) ≡ true = h in
    let f : a.name ≡ b.name = (Decides-eqb a.name b.name).0 (left_of (a.name == b.name) _ e) in
    let after = right_of (a.name == b.name) _ e in
    let g : a.rights ≡ b.rights = (Decides-eqb a.rights b.rights).0 (left_of (a.rights == b.rights) _ after) in
    let more = right_of (a.rights == b.rights) _ after in
    let l : a.len ≡ b.len = (Decides-eqb a.len b.len).0 (left_of (a.len == b.len) _ more) in
    let r : a.rest ≡ b.rest = same_text a.rest b.rest (sym (right_of (a.len == b.len) _ more)) in
    λ i. record { name = f i; rights = g i; len = l i; rest = r i }

both : (x y : Bool) → x ≡ true → y ≡ true → (x && y) ≡ true
both true y p q = q
both false y p q = p

pub trail_refl : (a : Trail) → (eq-value).it a a ≡ true
trail_refl a =
    both (a.name == a.name) _ ((Decides-eqb a.name a.name).1 refl)
    (both (a.rights == a.rights) _ ((Decides-eqb a.rights a.rights).1 refl)
    (both (a.len == a.len) _ ((Decides-eqb a.len a.len).1 refl) (nat_list_eq_equiv.refl a.rest)))

-- a key has one start and one path
pub one_start : (a b : Cap) (p q : List ℕ) → trail a p ≡ trail b q → a ≡ b
one_start a b p q h = λ i. record { name = record { 0 = (h i).name }; rights = (h i).rights }

pub one_path : (a b : Cap) (p q : List ℕ) → trail a p ≡ trail b q → p ≡ q
one_path a b p q h = sym (take_at p _ (length p) refl) ∙ ap (λ (t : Trail). take t.len t.rest) h ∙ take_at q _ (length q) refl

-- a pair that stands there is found
pub standing : (key : Trail) (es : List (Trail × Entry)) (v : Entry) → Contains es (key, v) → is_some (lookup ((eq-value).it key) es) ≡ true
standing key [] v c = absurd (Contains-nil (key, v) c)
standing key (e ∷ es) v c = at (λ k. standing key es v k) ((eq-value).it key e.0) refl
  where
    at : (Contains es (key, v) → is_some (lookup ((eq-value).it key) es) ≡ true) → (b : Bool) → (eq-value).it key e.0 ≡ b → is_some (lookup ((eq-value).it key) (e ∷ es)) ≡ true
    at rest true t = rw t refl
    at rest false t = rw t (elim (Contains-cons e es (key, v) c) [
      | inl same ↦ absurd (false≢true (sym t ∙ ap (λ p. (eq-value).it key p.0) same ∙ trail_refl key))
      | inr later ↦ rest later
    ])

-- what a look-up found stands under the key itself
pub found : (key : Trail) (es : List (Trail × Entry)) (v : Entry) → lookup ((eq-value).it key) es ≡ Some v → Contains es (key, v)
found key es v h =
    let there = Contains-lookup ((eq-value).it key) es v h in
    let same : there.0 ≡ key = sym (same_trail key there.0 there.2) in
    subst (λ k. Contains es (k, v)) same there.1

pub remembers-pair : (key : Trail) (es : List (Trail × Entry)) → is_some (lookup ((eq-value).it key) es) ≡ true → (v : Entry) × Contains es (key, v)
remembers-pair key es h = at (lookup ((eq-value).it key) es) refl h
  where
    at : (o : Option Entry) → lookup ((eq-value).it key) es ≡ o → is_some (lookup ((eq-value).it key) es) ≡ true → (v : Entry) × Contains es (key, v)
    at None e g = absurd (false≢true (ap is_some (sym e) ∙ g))
    at (Some v) e g = (v, found key es v e)

-- a start and path that were not found are not remembered
pub not_remembered : (from : Cap) (rest : List ℕ) (es : List (Trail × Entry)) → lookup ((eq-value).it (trail from rest)) es ≡ None → Remembers es from rest → ⊥
not_remembered from rest es h there = false≢true (ap is_some (sym h) ∙ standing (trail from rest) es there.0 there.1)

-- and the entry that goes first is that pair
pub found_entry : (key : Trail) (es : List (Trail × Entry)) (v : Entry) → lookup ((eq-value).it key) es ≡ Some v → lookup_entry ((eq-value).it key) es ≡ Some (key, v)
found_entry key [] v h = absurd (none-some v h)
found_entry key (e ∷ es) v h = at (λ k. found_entry key es v k) ((eq-value).it key e.0) refl
  where
    at : (lookup ((eq-value).it key) es ≡ Some v → lookup_entry ((eq-value).it key) es ≡ Some (key, v)) → (b : Bool) → (eq-value).it key e.0 ≡ b
        → lookup_entry ((eq-value).it key) (e ∷ es) ≡ Some (key, v)
    at rest true t = let same : e.0 ≡ key = sym (same_trail key e.0 t) in let value : e.1 ≡ v = same_Some e.1 v (rw t at h) in rw t (λ i. Some (same i, value i))
    at rest false t = rw t (rest (rw t at h))

pub promoted-first : (key : Trail) (es : List (Trail × Entry)) (v : Entry) → lookup ((eq-value).it key) es ≡ Some v → slice_get (promoted ((eq-value).it key) es) 0 ≡ Some (key, v)
promoted-first key es v h = rw (found_entry key es v h) refl

-- a pair goes first or stays behind it
apart_from : (test : Trail → Bool) (es : List (Trail × Entry)) (f e : Trail × Entry) → lookup_entry test es ≡ Some f → Contains es e → (f ≡ e) ⊎ Contains (remove_entry test es) e
apart_from test [] f e h c = absurd (Contains-nil e c)
apart_from test (g ∷ es) f e h c = at (λ k d. apart_from test es f e k d) (test g.0) refl
  where
    at : (lookup_entry test es ≡ Some f → Contains es e → (f ≡ e) ⊎ Contains (remove_entry test es) e) → (b : Bool) → test g.0 ≡ b
        → (f ≡ e) ⊎ Contains (remove_entry test (g ∷ es)) e
    at rest true t = let first : g ≡ f = same_Some g f (rw t at h) in rw t (elim (Contains-cons g es e c) [
      | inl same ↦ inl (sym first ∙ same)
      | inr later ↦ inr later
    ])
    at rest false t = rw t (elim (Contains-cons g es e c) [
      | inl same ↦ inr (subst (Contains (g ∷ remove_entry test es)) same (Contains-head g (remove_entry test es)))
      | inr later ↦ elim (rest (rw t at h) later) [
        | inl same ↦ inl same
        | inr behind ↦ inr (Contains-tail g (remove_entry test es) e behind)
      ]
    ])

-- so none goes
pub promoted-keeps : (test : Trail → Bool) (es : List (Trail × Entry)) → NoneGoes es (promoted test es)
promoted-keeps test es e c = at (lookup_entry test es) refl
  where
    at : (o : Option (Trail × Entry)) → lookup_entry test es ≡ o → Contains (promoted test es) e
    at None h = rw h c
    at (Some f) h = rw h (elim (apart_from test es f e h c) [
      | inl same ↦ subst (Contains (f ∷ remove_entry test es)) same (Contains-head f (remove_entry test es))
      | inr behind ↦ Contains-tail f (remove_entry test es) e behind
    ])

-- where nothing is found nothing goes first
pub promoted-none : (key : Trail) (es : List (Trail × Entry)) → lookup ((eq-value).it key) es ≡ None → promoted ((eq-value).it key) es ≡ es
promoted-none key es h = at (lookup_entry ((eq-value).it key) es) refl
  where
    at : (o : Option (Trail × Entry)) → lookup_entry ((eq-value).it key) es ≡ o → promoted ((eq-value).it key) es ≡ es
    at None e = rw e refl
    at (Some f) e = let on = Contains-lookup_entry ((eq-value).it key) es f e in
        let same : f.0 ≡ key = sym (same_trail key f.0 on.1) in
        absurd (false≢true (ap is_some (sym h) ∙ standing key es f.1 (subst (λ k. Contains es (k, f.1)) same on.0)))

-- what a walker with this cache remembers
abbrev pub held_in : LruCache Trail Entry → Remembered
held_in c = record { capacity = c.cap; pairs = c.entries }

module _ (old : LruCache Trail Entry) (key : Trail) (v : Entry) where
  -- each pair after a put was there, or is the pair that was put
  pub put-joins : JoinsAtMost (key, v) old.entries (put_entries (eq-value).it old key v)
  put-joins e c = elim (Contains-put_entries (eq-value).it old key v e c) [
    | inl was ↦ inl was
    | inr new ↦ elim new.1 [
      | inl same ↦ inr (λ i. (same i, new.0 i))
      | inr other ↦ inr (λ i. (sym (same_trail key e.0 other.2) i, new.0 i))
    ]
  ]

  pub put-pushes : lookup ((eq-value).it key) old.entries ≡ None → put_entries (eq-value).it old key v ≡ (key, v) ∷ take (old.cap - 1) old.entries
  put-pushes none = at (lookup_entry ((eq-value).it key) old.entries) refl
    where
      at : (o : Option (Trail × Entry)) → lookup_entry ((eq-value).it key) old.entries ≡ o → put_entries (eq-value).it old key v ≡ (key, v) ∷ take (old.cap - 1) old.entries
      at None e = rw e refl
      at (Some f) e = let on = Contains-lookup_entry ((eq-value).it key) old.entries f e in
          let same : f.0 ≡ key = sym (same_trail key f.0 on.1) in
          absurd (false≢true (ap is_some (sym none) ∙ standing key old.entries f.1 (subst (λ k. Contains old.entries (k, f.1)) same on.0)))

  first_of : (o : Option (Trail × Entry)) → lookup_entry ((eq-value).it key) old.entries ≡ o
      → slice_get (option_map_or (λ e. (e.0, v) ∷ remove_entry ((eq-value).it key) old.entries) o ((key, v) ∷ take (old.cap - 1) old.entries)) 0 ≡ Some (key, v)
  first_of None h = refl
  first_of (Some f) h = let same : f.0 ≡ key = sym (same_trail key f.0 (Contains-lookup_entry ((eq-value).it key) old.entries f h).1) in λ i. Some (same i, v)

  pub put-first : slice_get (put_entries (eq-value).it old key v) 0 ≡ Some (key, v)
  put-first = first_of (lookup_entry ((eq-value).it key) old.entries) refl

  module _ {T E : Type 0} (new : LruCache Trail Entry) where
    -- the same where the put may have found no memory
    pub tried-joins : (r : Result T E) → OnOk r (new ≡ lru_cache (put_entries (eq-value).it old key v) old.cap) → OnErr r (new ≡ old) → JoinsAtMost (key, v) old.entries new.entries
    tried-joins (Ok t) ok err = λ e c. put-joins e (subst (λ n. Contains n.entries e) ok c)
    tried-joins (Err t) ok err = λ e c. inl (subst (λ n. Contains n.entries e) err c)

    pub tried-first : (r : Result T E) → OnOk r (new ≡ lru_cache (put_entries (eq-value).it old key v) old.cap) → OnErr r (new ≡ old)
        → (slice_get new.entries 0 ≡ Some (key, v)) ⊎ (held_in new ≡ held_in old)
    tried-first (Ok t) ok err = inl (ap (λ n. slice_get n.entries 0) ok ∙ put-first)
    tried-first (Err t) ok err = inr (ap held_in err)

    pub tried-pushes : (r : Result T E) → OnOk r (new ≡ lru_cache (put_entries (eq-value).it old key v) old.cap) → OnErr r (new ≡ old)
        → lookup ((eq-value).it key) old.entries ≡ None → (new.entries ≡ (key, v) ∷ take (old.cap - 1) old.entries) ⊎ (held_in new ≡ held_in old)
    tried-pushes (Ok t) ok err none = inl (ap (λ n. n.entries) ok ∙ put-pushes none)
    tried-pushes (Err t) ok err none = inr (ap held_in err)

-- what joins is right, so all stays right
pub joined-right : (s : State) (from : Cap) (rest : List ℕ) (v : Entry) (old new : List (Trail × Entry)) → JoinsAtMost (trail from rest, v) old new
    → walk_on s (Held from) rest 0 ≡ Ok v → AreRight s old → AreRight s new
joined-right s from rest v old new joins value right = λ a p w there. elim (joins (trail a p, w) there) [
  | inl was ↦ right a p w was
  | inr same ↦
      let key : trail a p ≡ trail from rest = ap (λ (e : Trail × Entry). e.0) same in
      let start : a ≡ from = one_start a from p rest key in
      let path : p ≡ rest = one_path a from p rest key in
      let entry : w ≡ v = ap (λ (e : Trail × Entry). e.1) same in
      (λ i. walk_on s (Held (start i)) (path i) 0) ∙ value ∙ (λ i. Ok (sym entry i))
]

-- fewer pairs are right too
pub fewer-right : (s : State) (old new : List (Trail × Entry)) → ((e : Trail × Entry) → Contains new e → Contains old e) → AreRight s old → AreRight s new
fewer-right s old new within right = λ a p w there. right a p w (within (trail a p, w) there)

pub on_err : {A B : Type 0} {X : Type 0} (r : Result A B) → X → OnErr r X
on_err (Ok a) x = tt
on_err (Err b) x = x

module _ (k : Trail) (from : Cap) (rest : List ℕ) (key : k ≡ trail from rest) where
  hit_at : (es : List (Trail × Entry)) (v : Entry) → Some v ≡ lookup ((eq-value).it k) es → lookup ((eq-value).it (trail from rest)) es ≡ Some v
  hit_at es v h = ap (λ j. lookup ((eq-value).it j) es) (sym key) ∙ sym h

  -- what was found is the walk
  pub hit-value : (s : State) (es : List (Trail × Entry)) (v : Entry) → Some v ≡ lookup ((eq-value).it k) es → AreRight s es → Ok v ≡ walk_on s (Held from) rest 0
  hit-value s es v h right = sym (right from rest v (found (trail from rest) es v (hit_at es v h)))

  pub hit-remembered : (es : List (Trail × Entry)) (v : Entry) → Some v ≡ lookup ((eq-value).it k) es → Remembers es from rest
  hit-remembered es v h = (v, found (trail from rest) es v (hit_at es v h))

  -- where nothing was found it is not remembered
  pub miss-hit : {A : Type 0} (es : List (Trail × Entry)) → None ≡ lookup ((eq-value).it k) es → Remembers es from rest → A
  miss-hit es h there = absurd (not_remembered from rest es (ap (λ j. lookup ((eq-value).it j) es) (sym key) ∙ sym h) there)

  module _ (old new : Remembered) (moved : new ≡ record old { pairs = promoted ((eq-value).it k) old.pairs }) where
    within : (e : Trail × Entry) → Contains new.pairs e → Contains old.pairs e
    within e there = Contains-promoted ((eq-value).it k) old.pairs e (subst (λ n. Contains n.pairs e) moved there)

    pub hit-right : (s : State) → AreRight s old.pairs → AreRight s new.pairs
    hit-right s right = fewer-right s old.pairs new.pairs within right

    pub hit-joins : (p : Trail × Entry) → JoinsAtMost p old.pairs new.pairs
    hit-joins p = λ e there. inl (within e there)

    pub hit-first : (v : Entry) → Some v ≡ lookup ((eq-value).it k) old.pairs → slice_get new.pairs 0 ≡ Some (trail from rest, v)
    hit-first v h = ap (λ n. slice_get n.pairs 0) moved ∙ promoted-first k old.pairs v (sym h) ∙ (λ i. Some (key i, v))

    pub hit-stays : NoneGoes old.pairs new.pairs
    hit-stays = λ e there. subst (λ (n : Remembered). Contains n.pairs e) (sym moved) (promoted-keeps ((eq-value).it k) old.pairs e there)

    -- a look-up that finds nothing changes nothing
    pub miss-same : None ≡ lookup ((eq-value).it k) old.pairs → new ≡ old
    miss-same h = moved ∙ (λ i. record old { pairs = promoted-none k old.pairs (sym h) i })

    module _ (none : None ≡ lookup ((eq-value).it k) old.pairs) where
      pub miss-right : (s : State) → AreRight s old.pairs → AreRight s new.pairs
      miss-right s right = subst (λ (n : Remembered). AreRight s n.pairs) (sym (miss-same none)) right

      module _ (last : Remembered) (v : Entry) where
        pub miss-joins : JoinsAtMost (k, v) new.pairs last.pairs → JoinsAtMost (trail from rest, v) old.pairs last.pairs
        miss-joins joins = λ e there. elim (joins e there) [
          | inl was ↦ inl (subst (λ (n : Remembered). Contains n.pairs e) (miss-same none) was)
          | inr same ↦ inr (same ∙ (λ i. (key i, v)))
        ]

        pub miss-first : (slice_get last.pairs 0 ≡ Some (k, v)) ⊎ (last ≡ new) → (slice_get last.pairs 0 ≡ Some (trail from rest, v)) ⊎ (last ≡ old)
        miss-first (inl h) = inl (h ∙ (λ i. Some (key i, v)))
        miss-first (inr h) = inr (h ∙ miss-same none)

        pub miss-pushes : (lookup ((eq-value).it k) new.pairs ≡ None → (last.pairs ≡ (k, v) ∷ take (new.capacity - 1) new.pairs) ⊎ (last ≡ new))
            → (last.pairs ≡ (trail from rest, v) ∷ take (old.capacity - 1) old.pairs) ⊎ (last ≡ old)
        miss-pushes pushes = elim (pushes (ap (λ (n : Remembered). lookup ((eq-value).it k) n.pairs) (miss-same none) ∙ sym none)) [
          | inl h ↦ inl (h ∙ (λ i. (key i, v) ∷ take ((miss-same none i).capacity - 1) (miss-same none i).pairs))
          | inr h ↦ inr (h ∙ miss-same none)
        ]

-- a pair that stands first is found, and stays where it is
pub latest-found : (key : Trail) (es : List (Trail × Entry)) (v : Entry) → slice_get es 0 ≡ Some (key, v) → lookup ((eq-value).it key) es ≡ Some v
latest-found key [] v h = absurd (cc)
latest-found key (e ∷ es) v h = let same : e ≡ (key, v) = same_Some e (key, v) h in rw same (rw (trail_refl key) refl)

pub latest-stays : (key : Trail) (es : List (Trail × Entry)) (v : Entry) → slice_get es 0 ≡ Some (key, v) → promoted ((eq-value).it key) es ≡ es
latest-stays key [] v h = absurd (cc)
latest-stays key (e ∷ es) v h = let same : e ≡ (key, v) = same_Some e (key, v) h in rw same (rw (trail_refl key) refl)
