-- Lists that stand at places among the items of one list.
use Rattle.std.proofs.Common.{◌≡◌, ℕ, zero, suc, ◌+◌, ◌-◌, ◌<◌, ◌≤◌, List, [], ◌∷◌, ◌++◌, length, take, drop, refl, sym, ap, ◌∙◌, arith, append_assoc, Result, Ok, Err}
use Rattle.std.specs.Prelude.{Option, slice_index_or}
use Rattle.std.specs.Prelude.{OnErr}
use Rattle.std.specs.List.{slice_range}
use Rattle.std.proofs.lemmas.List.{map-append, length-take-le, take-append-le, take_more, length-append, length-drop, get_or_append_left, get_or-drop}
use Rattle.std.proofs.Math.Seq.{drop-append_seam, take-length}
use Rattle.hk_model.specs.declared.entries.Cap.{Cap}
use Rattle.hk_report.specs.declared.lists.Place.{Place}
use Rattle.hk_report.specs.Lists.{items_at, lists_at, no_place, IsPlace, ArePlaces}
use Rattle.hk_report.specs.Params.{AreFewEach}

-- ---- places

pub place_within : (places : List Place) (n count : ℕ) → ArePlaces count places → IsPlace count (slice_index_or places n no_place)
place_within [] n count h = (omega arith, omega arith)
place_within (x ∷ places) zero count h = h.0
place_within (x ∷ places) (suc n) count h = place_within places n count h.1

-- among more items they are places still
pub places_kept : (places : List Place) (count more : ℕ) → count ≤ more → ArePlaces count places → ArePlaces more places
places_kept [] count more l h = tt
places_kept (x ∷ places) count more l h = ((h.0.0, (let a = h.0.1 in omega (arith, a, l))), places_kept places count more l h.1)

pub places_more : (places : List Place) (place : Place) (count : ℕ) → ArePlaces count places → IsPlace count place → ArePlaces count (places ++ place ∷ [])
places_more [] place count h p = (p, tt)
places_more (x ∷ places) place count h p = (h.0, places_more places place count h.1 p)

-- ---- lists

module _ {X : Type 0} where
  -- as many items stand at a place as it has room for
  pub length_range : (items : List X) (place : Place) → IsPlace (length items) place → length (slice_range items place.start place.end) ≡ place.end - place.start
  length_range items place h =
      let low = h.0 in
      let high = h.1 in
      let c = length-drop place.start items in
      length-take-le (place.end - place.start) (drop place.start items) (omega (arith, low, high, c))

  none_at : (items : List X) → items_at items no_place ≡ []
  none_at [] = refl
  none_at (x ∷ items) = refl

  -- the list of a number is at the place of that number
  list_is : (items : List X) (places : List Place) (n : ℕ) → items_at items (slice_index_or places n no_place) ≡ slice_index_or (lists_at items places) n []
  list_is items [] n = none_at items
  list_is items (x ∷ places) zero = refl
  list_is items (x ∷ places) (suc n) = list_is items places n

  -- items behind the others change no list
  drop_kept : (items more : List X) (n : ℕ) → n ≤ length items → drop n (items ++ more) ≡ drop n items ++ more
  drop_kept items more zero l = refl
  drop_kept [] more (suc n) l = absurd (omega (arith, l))
  drop_kept (x ∷ items) more (suc n) l = drop_kept items more n (omega (arith, l))

  list_kept : (items more : List X) (place : Place) → IsPlace (length items) place → items_at (items ++ more) place ≡ items_at items place
  list_kept items more place h =
      let a = h.0 in
      let b = h.1 in
      let c = length-drop place.start items in
      ap (take (place.end - place.start)) (drop_kept items more place.start (omega (arith, a, b)))
      ∙ take-append-le (place.end - place.start) (drop place.start items) more (omega (arith, a, b, c))

  kept : (items more : List X) (places : List Place) → ArePlaces (length items) places → lists_at (items ++ more) places ≡ lists_at items places
  kept items more [] h = refl
  kept items more (x ∷ places) h =
      ap (λ (l : List X). l ∷ lists_at (items ++ more) places) (list_kept items more x h.0)
      ∙ ap (λ (ls : List (List X)). items_at items x ∷ ls) (kept items more places h.1)

  pub lists_kept : (items more all : List X) (places new : List Place) → ArePlaces (length items) places → all ≡ items ++ more → new ≡ places
      → lists_at all new ≡ lists_at items places
  lists_kept items more all places new h same e =
      ap (λ (xs : List X). lists_at xs new) same ∙ ap (lists_at (items ++ more)) e ∙ kept items more places h

  behind : (items more : List X) (place : Place) → place.start ≡ length items → place.end ≡ length (items ++ more) → items_at (items ++ more) place ≡ more
  behind items more place s e =
      let a = length-append items more in
      let n : place.end - place.start ≡ length more = omega (arith, s, e, a) in
      ap (λ (k : ℕ). take (place.end - place.start) (drop k (items ++ more))) s
      ∙ ap (take (place.end - place.start)) (drop-append_seam items more)
      ∙ ap (λ (k : ℕ). take k more) n
      ∙ take-length more

  more_seen : (items more all : List X) (places new : List Place) (place : Place) → ArePlaces (length items) places → all ≡ items ++ more
      → new ≡ places ++ place ∷ [] → place.start ≡ length items → place.end ≡ length all → lists_at all new ≡ lists_at items places ++ more ∷ []
  more_seen items more all places new place h same one s e =
      ap (lists_at all) one
      ∙ map-append (items_at all) places (place ∷ [])
      ∙ ap (λ (ls : List (List X)). ls ++ items_at all place ∷ []) (lists_kept items more all places places h same refl)
      ∙ ap (λ (l : List X). lists_at items places ++ l ∷ [])
      (ap (λ (xs : List X). items_at xs place) same ∙ behind items more place s (e ∙ ap (length {A = X}) same))

  -- with items behind the others, and their place
  pub lists_more : (old : List (List X)) (items more all : List X) (places new : List Place) (place : Place) → lists_at items places ≡ old
      → ArePlaces (length items) places → all ≡ items ++ more → new ≡ places ++ place ∷ [] → place.start ≡ length items → place.end ≡ length all
      → lists_at all new ≡ old ++ more ∷ []
  lists_more old items more all places new place seen h same one s e =
      more_seen items more all places new place h same one s e ∙ ap (λ (ls : List (List X)). ls ++ more ∷ []) seen

  -- with the items of a number and one more behind the others, and their place
  pub lists_longer : (old : List (List X)) (n : ℕ) (item : X) (items all : List X) (places new : List Place) (at place : Place) → lists_at items places ≡ old
      → ArePlaces (length items) places → at ≡ slice_index_or places n no_place → all ≡ items ++ (slice_range items at.start at.end ++ item ∷ [])
      → new ≡ places ++ place ∷ [] → place.start ≡ length items → place.end ≡ length all → lists_at all new ≡ old ++ (slice_index_or old n [] ++ item ∷ []) ∷ []
  lists_longer old n item items all places new at place seen h is same one s e =
      lists_more old items (items_at items at ++ item ∷ []) all places new place seen h same one s e
      ∙ ap (λ (xs : List X). old ++ (xs ++ item ∷ []) ∷ [])
      (ap (items_at items) is ∙ list_is items places n ∙ ap (λ (ls : List (List X)). slice_index_or ls n []) seen)

  -- one item more is copied
  copied_more : (items : List X) (start at : ℕ) (d : X) → start ≤ at → at < length items
      → slice_range items start (at + 1) ≡ slice_range items start at ++ slice_index_or items at d ∷ []
  copied_more items start at d l m =
      let n : ℕ = at - start in
      let a : (at + 1) - start ≡ n + 1 = omega (arith, l) in
      let b : start + n ≡ at = omega (arith, l) in
      let c = length-drop start items in
      ap (λ (k : ℕ). take k (drop start items)) a
      ∙ take_more (drop start items) n d (omega (arith, l, m, c))
      ∙ ap (λ (x : X). take n (drop start items) ++ x ∷ []) (get_or-drop start items n d ∙ ap (λ (k : ℕ). slice_index_or items k d) b)

  pub copied : (items now next : List X) (start at end : ℕ) (x : X) → start ≤ at → at < end → end ≤ length items → now ≡ items ++ slice_range items start at
      → x ≡ slice_index_or now at x → next ≡ now ++ x ∷ [] → next ≡ items ++ slice_range items start (at + 1)
  copied items now next start at end x l m n e there more =
      let within : at < length items = omega (arith, m, n) in
      let is : x ≡ slice_index_or items at x =
      there ∙ ap (λ (xs : List X). slice_index_or xs at x) e ∙ get_or_append_left items (slice_range items start at) x at within in
      more
      ∙ ap (λ (xs : List X). xs ++ x ∷ []) e
      ∙ append_assoc items (slice_range items start at) (x ∷ [])
      ∙ ap (λ (y : X). items ++ (slice_range items start at ++ y ∷ [])) is
      ∙ sym (ap (λ (xs : List X). items ++ xs) (copied_more items start at x l within))

-- what holds holds of a failure
pub on_err : {T E P : Type 0} (r : Result T E) → P → OnErr r P
on_err (Ok x) p = tt
on_err (Err e) p = p

-- ---- parameters

pub few_each_at : (all : List (List (Option Cap))) (n : ℕ) → AreFewEach all → length (slice_index_or all n []) ≤ 8
few_each_at [] n h = omega arith
few_each_at (x ∷ all) zero h = h.0
few_each_at (x ∷ all) (suc n) h = few_each_at all n h.1

pub few_each_more : (all : List (List (Option Cap))) (params : List (Option Cap)) → AreFewEach all → length params ≤ 8 → AreFewEach (all ++ params ∷ [])
few_each_more [] params h l = (l, tt)
few_each_more (x ∷ all) params h l = (h.0, few_each_more all params h.1 l)
