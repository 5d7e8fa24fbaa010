-- Who sits at the table, after a view changed, was split or took in another.
use Rattle.std.proofs.Common.{◌≡◌, ◌≢◌, ℕ, ◌+◌, ◌<◌, List, [], ◌∷◌, ◌++◌, length, set, max, sym, refl, ap, ◌∙◌, subst, ⊎_elim, arith}
use mathlib.Core.Logic.{dite}
use mathlib.Core.Option.{some}
use native.Mathlib.Decide.{ℕ_discrete}
use lib.ListN.{get_elem?}
use Rattle.atomic_table.proofs.Lists.{at_set, set_here, set_else, at_longer}
use Rattle.hk_turn.specs.declared.view.View.{View}
use Rattle.hk_turn.specs.Views.{maker_after_split, split_view, spent_view}
use Rattle.hk_turn.specs.Rule.{Seated}
use Rattle.hk_turn.proofs.Places.{total_set, total_snoc, total_two, one_there, within, at_new, each_set}

module _ {E : Type 0} where
  -- the number of passes that a view stands for
  abbrev weight : View E → ℕ
  weight v = v.weight

  -- each pair of views that are not spent has two numbers
  abbrev pub Apart : List (View E) → Type 0
  Apart vs = (i j : ℕ) (v w : View E) → get_elem? vs i ≡ some v → get_elem? vs j ≡ some w → 0 < v.weight → 0 < w.weight → v.number ≡ w.number → i ≡ j

  -- a view that was not spent is replaced by one of the same number
  pub apart_set : (vs : List (View E)) (id : ℕ) (v w : View E) → get_elem? vs id ≡ some v → w.number ≡ v.number → 0 < v.weight → Apart vs → Apart (set vs id w)
  apart_set vs id v w at same some_weight apart i j a b ea eb pa pb is =
      ⊎_elim
      (λ (x : (i ≡ id) × (w ≡ a)). ⊎_elim
      (λ (y : (j ≡ id) × (w ≡ b)). x.0 ∙ sym y.0)
      (λ (y : (j ≢ id) × (get_elem? vs j ≡ some b)). x.0 ∙ apart id j v b at y.1 some_weight pb (sym same ∙ (ap (λ (u : View E). u.number) x.1 ∙ is)))
      (at_set vs id j w b eb))
      (λ (x : (i ≢ id) × (get_elem? vs i ≡ some a)). ⊎_elim
      (λ (y : (j ≡ id) × (w ≡ b)). apart i id a v x.1 at pa some_weight (is ∙ (sym (ap (λ (u : View E). u.number) y.1) ∙ same)) ∙ sym y.0)
      (λ (y : (j ≢ id) × (get_elem? vs j ≡ some b)). apart i j a b x.1 y.1 pa pb is)
      (at_set vs id j w b eb))
      (at_set vs id i w a ea)

  -- a view changes, and keeps its number, its weight and its count of passes made
  pub seated_set : (seats top maker : ℕ) (vs : List (View E)) (id : ℕ) (v w : View E) → get_elem? vs id ≡ some v → w.number ≡ v.number → w.weight ≡ v.weight → w.made ≡ v.made
      → 0 < v.weight → Seated seats top maker vs → Seated seats top maker (set vs id w)
  seated_set seats top maker vs id v w at number weighs made some_weight h = record {
    makes = dite (ℕ_discrete maker id)
        (λ is. let same : v ≡ h.makes.0 = one_there vs id maker v h.makes.0 (sym is) at h.makes.1 in (
          w,
          subst (λ (k : ℕ). get_elem? (set vs id w) k ≡ some w) (sym is) (set_here vs id w (within vs id v at)),
          made ∙ (ap (λ (u : View E). u.made) same ∙ h.makes.2),
          (let few = some_weight in omega arith),
        ))
        (λ apart. (h.makes.0, set_else vs id maker w apart ∙ h.makes.1, h.makes.2, h.makes.3));
    no_other = each_set (λ i u. 0 < u.weight → 0 < u.made → i ≡ maker) vs id w (λ p q. h.no_other id v at some_weight (omega arith)) (λ j u _ e. h.no_other j u e);
    apart = apart_set vs id v w at number some_weight h.apart;
    sum = (let t = total_set weight vs id v w at in let s = h.sum in omega arith);
    room = h.room;
  }

  -- the maker makes one pass more
  pub seated_split : (seats top maker : ℕ) (vs : List (View E)) (id : ℕ) (v : View E) → get_elem? vs id ≡ some v → 0 < v.made → v.made < seats → 1 < v.weight → v.seats ≡ seats
      → ((i : ℕ) (u : View E) → get_elem? vs i ≡ some u → 0 < u.weight → u.number < top) → Seated seats top maker vs
      → Seated seats (top + 1) maker (set vs id (maker_after_split v) ++ split_view v ∷ [])
  seated_split seats top maker vs id v at makes few some_weight seats_are below h =
      let is : id ≡ maker = h.no_other id v at (omega arith) makes in
      let same : v ≡ h.makes.0 = one_there vs id maker v h.makes.0 is at h.makes.1 in
      let top_is : v.made ≡ top = ap (λ (u : View E). u.made) same ∙ h.makes.2 in
      let cut : List (View E) = set vs id (maker_after_split v) in
      let was : (i : ℕ) (u : View E) → get_elem? cut i ≡ some u → 0 < u.weight → u.number < top = each_set (λ i u. 0 < u.weight → u.number < top) vs id (maker_after_split v)
      (λ p. below id v at (omega arith)) (λ j u _ e. below j u e) in
      let apart_cut : Apart cut = apart_set vs id v (maker_after_split v) at refl (omega arith) h.apart in record {
        makes = (
          maker_after_split v,
          at_longer cut (split_view v ∷ []) maker (maker_after_split v)
              (subst (λ (k : ℕ). get_elem? cut k ≡ some (maker_after_split v)) is (set_here vs id (maker_after_split v) (within vs id v at))),
          ap
              (λ (n : ℕ). n + 1) top_is,
          omega arith,
        );
        no_other = λ i u e p q. ⊎_elim
            (λ (old : get_elem? cut i ≡ some u). each_set (λ j z. 0 < z.weight → 0 < z.made → j ≡ maker) vs id (maker_after_split v) (λ _ _. is)
            (λ j z _ f. h.no_other j z f) i u old p q)
            (λ (new : (i ≡ length cut) × (split_view v ≡ u)). let none : u.made ≡ 0 = sym (ap (λ (z : View E). z.made) new.1) in absurd (omega arith))
            (at_new cut (split_view v) u i e);
        apart = λ i j a b ea eb pa pb number. ⊎_elim
            (λ (x : get_elem? cut i ≡ some a). ⊎_elim
            (λ (y : get_elem? cut j ≡ some b). apart_cut i j a b x y pa pb number)
            (λ (y : (j ≡ length cut) × (split_view v ≡ b)). let mine : b.number ≡ v.made = sym (ap (λ (z : View E). z.number) y.1) in let low = was i a x
            pa in absurd (omega arith))
            (at_new cut (split_view v) b j eb))
            (λ (x : (i ≡ length cut) × (split_view v ≡ a)). ⊎_elim
            (λ (y : get_elem? cut j ≡ some b). let mine : a.number ≡ v.made = sym (ap (λ (z : View E). z.number) x.1) in let low = was j b y pb in absurd (omega arith))
            (λ (y : (j ≡ length cut) × (split_view v ≡ b)). x.0 ∙ sym y.0)
            (at_new cut (split_view v) b j eb))
            (at_new cut (split_view v) a i ea);
        sum = (let t = total_set weight vs id v (maker_after_split v) at in let n = total_snoc weight cut (split_view v) in let s = h.sum in omega arith);
        room = (omega arith, omega arith);
      }

  -- the view at id takes in that at another place, where it is known who makes passes after that
  seated_joined : (seats top maker maker' : ℕ) (vs : List (View E)) (id other : ℕ) (v u w : View E) → get_elem? vs id ≡ some v → get_elem? vs other ≡ some u → other ≢ id
      → w.number ≡ v.number → w.weight ≡ v.weight + u.weight → 0 < v.weight → 0 < u.weight
      → ((m : View E) × (get_elem? (set (set vs id w) other spent_view) maker' ≡ some m) × (m.made ≡ top) × (0 < m.weight))
      → (0 < w.made → id ≡ maker')
      → ((j : ℕ) (y : View E) → j ≢ id → j ≢ other → get_elem? vs j ≡ some y → 0 < y.weight → 0 < y.made → j ≡ maker')
      → Seated seats top maker vs → Seated seats top maker' (set (set vs id w) other spent_view)
  seated_joined seats top maker maker' vs id other v u w at there two number weighs some_weight some_other makes mine others h =
      let mid : List (View E) = set vs id w in
      let there' : get_elem? mid other ≡ some u = set_else vs id other w two ∙ there in
      let apart_mid : Apart mid = apart_set vs id v w at number some_weight h.apart in
      record {
        makes = makes;
        no_other = each_set (λ i z. 0 < z.weight → 0 < z.made → i ≡ maker') mid other spent_view (λ p. absurd (omega arith))
            (λ j z apart e. each_set (λ i y. i ≢ other → 0 < y.weight → 0 < y.made → i ≡ maker') vs id w (λ _ _ q. mine q)
            (λ k y out f apart' p q. others k y out apart' f p q) j z e apart);
        apart = λ i j a b ea eb pa pb is. ⊎_elim
            (λ (x : (i ≡ other) × (spent_view ≡ a)). let none : a.weight ≡ 0 = sym (ap (λ (z : View E). z.weight) x.1) in absurd (omega arith))
            (λ (x : (i ≢ other) × (get_elem? mid i ≡ some a)). ⊎_elim
            (λ (y : (j ≡ other) × (spent_view ≡ b)). let none : b.weight ≡ 0 = sym (ap (λ (z : View E). z.weight) y.1) in absurd (omega arith))
            (λ (y : (j ≢ other) × (get_elem? mid j ≡ some b)). apart_mid i j a b x.1 y.1 pa pb is)
            (at_set mid other j spent_view b eb))
            (at_set mid other i spent_view a ea);
        sum = (let t = total_set weight vs id v w at in let t' = total_set weight mid other u spent_view there' in let s = h.sum in omega arith);
        room = h.room;
      }

  -- the view at id takes in that at another place; it makes passes from then on where the other did
  pub seated_join : (seats top maker : ℕ) (vs : List (View E)) (id other : ℕ) (v u w : View E) → get_elem? vs id ≡ some v → get_elem? vs other ≡ some u → other ≢ id
      → w.number ≡ v.number → w.weight ≡ v.weight + u.weight → 0 < v.weight → 0 < u.weight → w.made ≡ max v.made u.made → Seated seats top maker vs
      → (maker' : ℕ) × Seated seats top maker' (set (set vs id w) other spent_view)
  seated_join seats top maker vs id other v u w at there two number weighs some_weight some_other made h =
      let mid : List (View E) = set vs id w in
      let here : get_elem? (set mid other spent_view) id ≡ some w = set_else mid other id spent_view (λ e. two (sym e)) ∙ set_here vs id w (within vs id v at) in
      let r = h.room in
      dite (ℕ_discrete maker other)
      (λ is.
      let same : u ≡ h.makes.0 = one_there vs other maker u h.makes.0 (sym is) there h.makes.1 in
      let top_is : u.made ≡ top = ap (λ (z : View E). z.made) same ∙ h.makes.2 in
      let no : ¬ (0 < v.made) = λ p. two (sym (h.no_other id v at some_weight p ∙ is)) in
      let none : v.made ≡ 0 = omega arith in (
        id,
        seated_joined seats top maker id vs id other v u w at there two number weighs some_weight some_other (w, here, omega arith, omega arith) (λ _. refl)
            (λ j y out apart e p q. absurd (apart (h.no_other j y e p q ∙ is))) h,
      ))
      (λ not_it.
      let no : ¬ (0 < u.made) = λ p. not_it (sym (h.no_other other u there some_other p)) in
      let none : u.made ≡ 0 = omega arith in (
        maker,
        seated_joined seats top maker maker vs id other v u w at there two number weighs some_weight some_other
            (dite (ℕ_discrete maker id)
            (λ is. let same : v ≡ h.makes.0 = one_there vs id maker v h.makes.0 (sym is) at h.makes.1 in
            let top_is : v.made ≡ top = ap (λ (z : View E). z.made) same ∙ h.makes.2 in
            (w, subst (λ (k : ℕ). get_elem? (set mid other spent_view) k ≡ some w) (sym is) here, omega arith, omega arith))
            (λ apart. (h.makes.0, set_else mid other maker spent_view not_it ∙ (set_else vs id maker w apart ∙ h.makes.1), h.makes.2, h.makes.3)))
            (λ p. h.no_other id v at some_weight (omega arith))
            (λ j y out apart e p q. h.no_other j y e p q) h,
      ))

  -- a view that stands for all seats is the only one that is not spent
  pub alone : (seats top maker : ℕ) (vs : List (View E)) (id j : ℕ) (v u : View E) → Seated seats top maker vs → get_elem? vs id ≡ some v → v.weight ≡ seats
      → get_elem? vs j ≡ some u → 0 < u.weight → j ≡ id
  alone seats top maker vs id j v u h at all there some_weight =
      dite (ℕ_discrete j id) (λ is. is) (λ two. let t = total_two weight vs id j v u (λ e. two (sym e)) at there in let s = h.sum in absurd (omega arith))
