-- What taking off the namings by made objects keeps.
use Rattle.std.proofs.Common.{◌≡◌, ◌≢◌, ℕ, ◌+◌, ◌-◌, ◌<◌, ◌≤◌, Bool, true, false, cond, List, [], ◌∷◌, length, get_or, set, drop, refl, ap, ◌∙◌, sym, subst, arith, ⊎_elim}
use Rattle.std.proofs.Common.{get_or-set_same, get_or-set_other, length-set, Option, Some, None, IsSome, IfSome, option_map, ◌&&◌, nat_lt}
use Rattle.std.proofs.lemmas.Bool.Decides.{nat_tests}
use Rattle.std.proofs.lemmas.Bool.{cases_eq, cases_lt}
use Rattle.std.proofs.lemmas.List.{drop_all, get_or_past}
use Rattle.hk_model.specs.declared.names.Name.{Name}
use Rattle.hk_objects.specs.declared.body.Body.{Body}
use Rattle.hk_model.specs.declared.entries.Entry.{Entry}
use Rattle.hk_model.specs.declared.entries.Entry.TheVariants.{Empty}
use Rattle.hk_objects.specs.Slots.{place, name_at, AreApart}
use Rattle.hk_objects.proofs.Standing.{within_some}
use Rattle.hk_reclaim.specs.Made.{is_made, IsMadeAt, IsSweptTo, AreLeft, IsHalfLeft, IsTakeable, IsTakenOff}
use Rattle.hk_reclaim.specs.Naming.{names_in, named_in, named, with_name, times, namings}
use Rattle.hk_reclaim.specs.Tally.{Tally, lowered, owing, AreCounted}
use Rattle.hk_reclaim.proofs.Counting.{times_none, times_same, times_other, namings_gone}
use Rattle.hk_reclaim.proofs.Settling.{name_of_some, named_counts}
use Rattle.hk_reclaim.proofs.Releasing.{slot_names, next_names, first_name}

-- the same namings left, for an equal debt
pub left_same : (first : Name) (ps : List (Option (Name × Body))) (outside : List ℕ) (f g : Name → ℕ) (left : List ℕ) → ((n : Name) → f n ≡ g n)
    → AreLeft first ps outside f left → AreLeft first ps outside g left
left_same first ps outside f g left e h = record {
  room = h.room;
  namings = λ k n at made. h.namings k n at made ∙ ap (λ (m : ℕ). get_or outside k 0 + m) (e n);
}

-- a naming of a made object is left to be taken off
pub takeable : (first : Name) (ps : List (Option (Name × Body))) (name : Option Name) (rest : List Name) (outside : List ℕ) (owed : Name → ℕ) (left : List ℕ)
    → AreLeft first ps outside (owing owed (with_name name rest)) left → IsTakeable first ps name left
takeable first ps None rest outside owed left h = λ k w. absurd (let e : None ≡ Some w.0 = w.1 in cc)
takeable first ps (Some x) rest outside owed left h = λ k w.
    let xn : x ≡ w.0 = (let e : Some x ≡ Some w.0 = w.1 in cc) in
    let l : get_or left k 0 ≡ get_or outside k 0 + (owed w.0 + times w.0 (x ∷ rest)) = h.namings k w.0 w.3 w.2 in
    let t : times w.0 (x ∷ rest) ≡ 1 + times w.0 rest = rw xn (times_same w.0 rest) in
    (h.room k (name_of_some (place ps k) w.0 w.3), omega arith)

off_one : (first : Name) (ps : List (Option (Name × Body))) (x : Name) (rest : List Name) (outside : List ℕ) (owed : Name → ℕ) (left : List ℕ) (s : ℕ) → AreApart ps
    → first.0 ≤ x.0 → name_at ps s ≡ Some x → AreLeft first ps outside (owing owed (x ∷ rest)) left → AreLeft first ps outside (owing owed rest) (lowered left s)
off_one first ps x rest outside owed left s apart made here h =
    let low : s < length left = h.room s (name_of_some (place ps s) x here) in
    let l : get_or left s 0 ≡ get_or outside s 0 + (owed x + times x (x ∷ rest)) = h.namings s x here made in
    let t : times x (x ∷ rest) ≡ 1 + times x rest = times_same x rest in
    let now : get_or (lowered left s) s 0 ≡ get_or left s 0 - 1 = get_or-set_same left s (get_or left s 0 - 1) 0 low in
    record {
      room = λ k some. rw (length-set left s (get_or left s 0 - 1)) (h.room k some);
      namings = λ k n at m. ⊎_elim
          (λ (same : k ≡ s).
          let xn : n ≡ x = (let e : Some n ≡ Some x = sym at ∙ ap (name_at ps) same ∙ here in cc) in
          rw (same, xn) (now ∙ omega arith))
          (λ (ne : k ≢ s).
          let nx : n ≢ x = λ e. ne (apart k s x (at ∙ ap (λ (m : Name). Some m) e) here) in
          get_or-set_other left s k (get_or left s 0 - 1) 0 ne ∙ h.namings k n at m ∙ ap (λ (m : ℕ). get_or outside k 0 + (owed n + m)) (times_other n x rest nx))
          (cases_eq k s);
    }

off_none : (first : Name) (ps : List (Option (Name × Body))) (x : Name) (rest : List Name) (outside : List ℕ) (owed : Name → ℕ) (left : List ℕ)
    → ((k : ℕ) → IsMadeAt first ps (Some x) k → ⊥) → AreLeft first ps outside (owing owed (x ∷ rest)) left → AreLeft first ps outside (owing owed rest) left
off_none first ps x rest outside owed left none h = record {
  room = h.room;
  namings = λ k n at m. h.namings k n at m ∙ ap (λ (m : ℕ). get_or outside k 0 + (owed n + m))
      (times_other n x rest (λ e. none k (n, ap (λ (m : Name). Some m) (sym e), m, at)));
}

pub off_name : (first : Name) (ps : List (Option (Name × Body))) (name : Option Name) (rest : List Name) (outside : List ℕ) (owed : Name → ℕ) (old new : List ℕ) → AreApart ps
    → IsTakenOff first ps name old new → AreLeft first ps outside (owing owed (with_name name rest)) old → AreLeft first ps outside (owing owed rest) new
off_name first ps None rest outside owed old new apart r h = ⊎_elim
    (λ (w : (k : ℕ) × IsMadeAt first ps None k × (new ≡ lowered old k)). absurd (let e : None ≡ Some w.1.0 = w.1.1 in cc))
    (λ (w : ((k : ℕ) → IsMadeAt first ps None k → ⊥) × (new ≡ old)). rw w.1 h)
    r
off_name first ps (Some x) rest outside owed old new apart r h = ⊎_elim
    (λ (w : (k : ℕ) × IsMadeAt first ps (Some x) k × (new ≡ lowered old k)).
    let nx : w.1.0 ≡ x = (let e : Some x ≡ Some w.1.0 = w.1.1 in cc) in
    rw w.2 (off_one first ps x rest outside owed old w.0 apart (rw (← nx) w.1.2) (rw (← nx) w.1.3) h))
    (λ (w : ((k : ℕ) → IsMadeAt first ps (Some x) k → ⊥) × (new ≡ old)). rw w.1 (off_none first ps x rest outside owed old w.0 h))
    r

pub off_size : (first : Name) (ps : List (Option (Name × Body))) (name : Option Name) (old new : List ℕ) → IsTakenOff first ps name old new → length new ≡ length old
off_size first ps name old new r = ⊎_elim
    (λ (w : (k : ℕ) × IsMadeAt first ps name k × (new ≡ lowered old k)). rw w.2 (length-set old w.0 (get_or old w.0 0 - 1)))
    (λ (w : ((k : ℕ) → IsMadeAt first ps name k → ⊥) × (new ≡ old)). rw w.1 refl)
    r

-- all that an object names is taken off, one after the other
abbrev pub IsLeftFor : Name → List (Option (Name × Body)) → List Name → List ℕ → List Name → List ℕ → Type 0
IsLeftFor first ps all old rest now = (outside : List ℕ) (owed : Name → ℕ) → AreLeft first ps outside (owing owed all) old → AreLeft first ps outside (owing owed rest) now

pub type_takeable : (first : Name) (ps : List (Option (Name × Body))) (s : ℕ) (of : Name) (left : List ℕ) → IsSome (place ps s) → IfSome (place ps s) (λ e. of ≡ e.1.of)
    → (outside : List ℕ) × (owed : Name → ℕ) × AreLeft first ps outside (owing owed (names_in (place ps s))) left → IsTakeable first ps (Some of) left
type_takeable first ps s of left some h w =
    let f : (rest : List Name) × (names_in (place ps s) ≡ of ∷ rest) = first_name (place ps s) of some h in
    takeable first ps (Some of) f.0 w.0 w.1 left (subst (λ (ns : List Name). AreLeft first ps w.0 (owing w.1 ns) left) f.1 w.2)

pub type_off : (first : Name) (ps : List (Option (Name × Body))) (s : ℕ) (of : Name) (es : List Entry) (old now : List ℕ) → AreApart ps → IsSome (place ps s)
    → IfSome (place ps s) (λ e. of ≡ e.1.of) → IfSome (place ps s) (λ e. es ≡ e.1.entries) → IsTakenOff first ps (Some of) old now
    → IsLeftFor first ps (names_in (place ps s)) old (named_in es) now
type_off first ps s of es old now apart some h g r = λ outside owed a.
    off_name first ps (Some of) (named_in es) outside owed old now apart r
    (subst (λ (ns : List Name). AreLeft first ps outside (owing owed ns) old) (slot_names (place ps s) of es some h g) a)

pub entry_takeable : (first : Name) (ps : List (Option (Name × Body))) (all : List Name) (es : List Entry) (i : ℕ) (name : Option Name) (old now : List ℕ) → i < length es
    → name ≡ named (get_or es i Empty)
    → (outside : List ℕ) × (owed : Name → ℕ) × AreLeft first ps outside (owing owed all) old
    → IsLeftFor first ps all old (named_in (drop i es)) now → IsTakeable first ps name now
entry_takeable first ps all es i name old now low read w h =
    rw read (takeable first ps (named (get_or es i Empty)) (named_in (drop (i + 1) es)) w.0 w.1 now
    (subst (λ (ns : List Name). AreLeft first ps w.0 (owing w.1 ns) now) (next_names es i low) (h w.0 w.1 w.2)))

pub entry_off : (first : Name) (ps : List (Option (Name × Body))) (all : List Name) (es : List Entry) (i : ℕ) (name : Option Name) (old now new : List ℕ) → AreApart ps
    → i < length es → name ≡ named (get_or es i Empty) → IsTakenOff first ps name now new
    → IsLeftFor first ps all old (named_in (drop i es)) now → IsLeftFor first ps all old (named_in (drop (i + 1) es)) new
entry_off first ps all es i name old now new apart low read r h = λ outside owed a.
    off_name first ps (named (get_or es i Empty)) (named_in (drop (i + 1) es)) outside owed now new apart (subst (λ (n : Option Name). IsTakenOff first ps n now new) read r)
    (subst (λ (ns : List Name). AreLeft first ps outside (owing owed ns) now) (next_names es i low) (h outside owed a))

pub all_off : (first : Name) (ps : List (Option (Name × Body))) (all : List Name) (es : List Entry) (i : ℕ) (old now : List ℕ) → length es ≤ i
    → IsLeftFor first ps all old (named_in (drop i es)) now
    → (outside : List ℕ) (owed : Name → ℕ) → AreLeft first ps outside (owing owed all) old → AreLeft first ps outside owed now
all_off first ps all es i old now high h outside owed a =
    left_same first ps outside (owing owed []) owed now (λ n. let z : times n [] ≡ 0 = times_none n in omega arith)
    (subst (λ (xs : List Entry). AreLeft first ps outside (owing owed (named_in xs)) now) (drop_all i es high) (h outside owed a))

-- sweeping slot by slot: nothing is swept yet, where no flag is up so far
pub swept_none : (ps : List (Option (Name × Body))) (flag : ℕ → Bool) (from : ℕ) → ((k : ℕ) → k < from → flag k ≡ false) → IsSweptTo ps flag from ps
swept_none ps flag from down = record {
  room = refl;
  places = λ k. ⊎_elim
      (λ (low : k < from). rw (down k low) (stays (nat_lt k from) (place ps k)))
      (λ (high : from ≤ k). let f : nat_lt k from ≡ false = grind (arith, nat_tests) in rw f refl)
      (cases_lt k from);
} where
  stays : (b : Bool) (p : Option (Name × Body)) → p ≡ cond (b && false) None p
  stays true p = refl
  stays false p = refl

-- a slot whose flag is down
pub swept_keeps : (ps qs : List (Option (Name × Body))) (flag : ℕ → Bool) (i : ℕ) → flag i ≡ false → IsSweptTo ps flag i qs → IsSweptTo ps flag (i + 1) qs
swept_keeps ps qs flag i down h = record {
  room = h.room;
  places = λ k. h.places k ∙ ⊎_elim
      (λ (same : k ≡ i). rw (same, down) (both (nat_lt i i) (nat_lt i (i + 1)) (place ps i)))
      (λ (ne : k ≢ i). let f : nat_lt k i ≡ nat_lt k (i + 1) = lt_more k i ne in rw f refl)
      (cases_eq k i);
} where
  lt_more : (k i : ℕ) → k ≢ i → nat_lt k i ≡ nat_lt k (i + 1)
  lt_more k i ne = grind (arith, nat_tests)

  both : (a b : Bool) (p : Option (Name × Body)) → cond (a && false) None p ≡ cond (b && false) None p
  both true true p = refl
  both true false p = refl
  both false true p = refl
  both false false p = refl

-- a slot whose flag is up
pub swept_loses : (ps qs : List (Option (Name × Body))) (flag : ℕ → Bool) (i : ℕ) → flag i ≡ true → IsSome (place ps i) → IsSweptTo ps flag i qs
    → IsSweptTo ps flag (i + 1) (set qs i None)
swept_loses ps qs flag i up some h =
    let low : i < length qs = rw h.room (within_some ps i some) in
    record {
      room = length-set qs i None ∙ h.room;
      places = λ k. ⊎_elim
          (λ (same : k ≡ i). let g : nat_lt i (i + 1) ≡ true = grind (arith, nat_tests) in rw (same, g, up) (get_or-set_same qs i None None low))
          (λ (ne : k ≢ i). let f : nat_lt k (i + 1) ≡ nat_lt k i = lt_more k i ne in rw f (get_or-set_other qs i k None None ne ∙ h.places k))
          (cases_eq k i);
    } where
      lt_more : (k i : ℕ) → k ≢ i → nat_lt k (i + 1) ≡ nat_lt k i
      lt_more k i ne = grind (arith, nat_tests)

-- before a slot is swept, what stands there is owed
pub swept_owed : (ps qs : List (Option (Name × Body))) (flag : ℕ → Bool) (i : ℕ) → IsSome (place ps i) → IsSweptTo ps flag i qs → (n : Name)
    → namings qs n ≡ owing (namings (set qs i None)) (names_in (place ps i)) n
swept_owed ps qs flag i some h n =
    let low : i < length qs = rw h.room (within_some ps i some) in
    let f : nat_lt i i ≡ false = grind (arith, nat_tests) in
    let e : place qs i ≡ place ps i = h.places i ∙ (rw f refl) in
    namings_gone qs i n low ∙ ap (λ (p : Option (Name × Body)). namings (set qs i None) n + times n (names_in p)) e

made_some : (first : Name) (p : Option (Name × Body)) → is_made first (option_map (λ (e : Name × Body). e.0) p) ≡ true → IsSome p
made_some first None h = absurd (cc)
made_some first (Some q) h = refl

pub made_stands : (first : Name) (ps : List (Option (Name × Body))) (k : ℕ) → is_made first (name_at ps k) ≡ true → IsSome (place ps k)
made_stands first ps k h = made_some first (place ps k) h

-- what the made objects name is taken off slot by slot
pub leaving_starts : (first : Name) (ps : List (Option (Name × Body))) (outside total left : List ℕ) (from : ℕ) → length left ≡ length total
    → ((k : ℕ) → from ≤ k → get_or left k 0 ≡ get_or total k 0) → ((k : ℕ) → k < from → is_made first (name_at ps k) ≡ false)
    → AreLeft first ps outside (namings ps) total → IsHalfLeft first ps outside from left
leaving_starts first ps outside total left from size same opening h = (
  ps,
  swept_none ps (λ k. is_made first (name_at ps k)) from opening,
  record {
    room = λ k some. rw size (h.room k some);
    namings = λ k n at made. ⊎_elim
        (λ (low : k < from). absurd (
        let up : is_made first (Some n) ≡ true = grind (arith, nat_tests) in
        let down : is_made first (Some n) ≡ false = sym (ap (is_made first) at) ∙ opening k low in
        cc (up, down)))
        (λ (high : from ≤ k). same k high ∙ h.namings k n at made)
        (cases_lt k from);
  },
)

pub left_of_counted : (first : Name) (ps : List (Option (Name × Body))) (owed : Name → ℕ) (t : Tally) → AreCounted ps owed t → AreLeft first ps t.outside owed t.total
left_of_counted first ps owed t h = record { room = h.room; namings = λ k n at made. named_counts ps owed t k n h at }

pub leaving_keeps : (first : Name) (ps : List (Option (Name × Body))) (outside left : List ℕ) (i : ℕ) → is_made first (name_at ps i) ≡ false
    → IsHalfLeft first ps outside i left → IsHalfLeft first ps outside (i + 1) left
leaving_keeps first ps outside left i down h = (h.0, swept_keeps ps h.0 (λ k. is_made first (name_at ps k)) i down h.1, h.2)

left_owed : (first : Name) (ps : List (Option (Name × Body))) (outside left : List ℕ) (i : ℕ) → is_made first (name_at ps i) ≡ true → (h : IsHalfLeft first ps outside i left)
    → AreLeft first ps outside (owing (namings (set h.0 i None)) (names_in (place ps i))) left
left_owed first ps outside left i up h =
    left_same first ps outside (namings h.0) (owing (namings (set h.0 i None)) (names_in (place ps i))) left
    (swept_owed ps h.0 (λ k. is_made first (name_at ps k)) i (made_stands first ps i up) h.1) h.2

pub leaving_owed : (first : Name) (ps : List (Option (Name × Body))) (left : List ℕ) (i : ℕ) → is_made first (name_at ps i) ≡ true
    → (outside : List ℕ) × IsHalfLeft first ps outside i left
    → (outside : List ℕ) × (owed : Name → ℕ) × AreLeft first ps outside (owing owed (names_in (place ps i))) left
leaving_owed first ps left i up w = (w.0, namings (set w.1.0 i None), left_owed first ps w.0 left i up w.1)

pub leaving_takes : (first : Name) (ps : List (Option (Name × Body))) (outside old new : List ℕ) (i : ℕ) → is_made first (name_at ps i) ≡ true
    → ((outside : List ℕ) (owed : Name → ℕ) → AreLeft first ps outside (owing owed (names_in (place ps i))) old → AreLeft first ps outside owed new)
    → IsHalfLeft first ps outside i old → IsHalfLeft first ps outside (i + 1) new
leaving_takes first ps outside old new i up off h = (
  set h.0 i None,
  swept_loses ps h.0 (λ k. is_made first (name_at ps k)) i up (made_stands first ps i up) h.1,
  off outside (namings (set h.0 i None)) (left_owed first ps outside old i up h),
)

-- the flags of all slots are right once those of the room are
pub made_all : (first : Name) (ps : List (Option (Name × Body))) (flags : List Bool) (size : ℕ) → length flags ≡ size → ((k : ℕ) → IsSome (place ps k) → k < size)
    → ((k : ℕ) → k < size → get_or flags k false ≡ is_made first (name_at ps k)) → (k : ℕ) → get_or flags k false ≡ is_made first (name_at ps k)
made_all first ps flags size len room h k = ⊎_elim
    (λ (low : k < size). h k low)
    (λ (high : size ≤ k). get_or_past flags k false (omega arith) ∙ sym (none_made (place ps k) (λ s. let l : k < size = room k s in omega arith)))
    (cases_lt k size) where
      none_made : (p : Option (Name × Body)) → (IsSome p → ⊥) → is_made first (option_map (λ (e : Name × Body). e.0) p) ≡ false
      none_made None n = refl
      none_made (Some q) n = absurd (n refl)
