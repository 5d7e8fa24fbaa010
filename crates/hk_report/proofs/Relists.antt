-- What the history of a list tells, as the list gets its entries at one moment after another.
use Rattle.std.proofs.Common.{◌≡◌, ℕ, zero, suc, ◌+◌, ◌-◌, ◌<◌, ◌≤◌, List, [], ◌∷◌, ◌++◌, length, replicate, Bool, true, false, Option, Some, None}
use Rattle.std.proofs.Common.{refl, sym, ◌∙◌, ap, arith, subst, slice_get, option_and_then, option_map}
use Rattle.std.specs.Prelude.{◌==◌, ◌⊎◌, slice_index_or, is_some}
use mathlib.Core.Logic.{inl, inr}
use Rattle.std.specs.Map.{lookup}
use Rattle.std.specs.Option.{unwrap_or}
use Rattle.std.specs.Cmp.{first_so, second_so}
use Rattle.std.proofs.lemmas.Bool.{true≢false, eqb-true, cases_lt}
use Rattle.std.proofs.lemmas.List.{length-append, length-replicate}
use Rattle.hk_model.specs.declared.names.Name.{Name}
use Rattle.hk_model.specs.declared.names.Inc.{Inc}
use Rattle.hk_model.specs.declared.entries.Cap.{Cap}
use Rattle.hk_model.specs.declared.entries.Entry.{Entry}
use Rattle.hk_model.specs.declared.objects.Object.{Object}
use Rattle.hk_model.specs.State.{State, object, no_object, same_name}
use Rattle.hk_model.specs.Keeping.{stands}
use Rattle.hk_model.specs.Places.{cap_of}
use Rattle.hk_model.specs.Reaches.{listed_cap}
use Rattle.hk_model.proofs.Members.{Has, has_left, has_right, has_cases}
use Rattle.hk_report.specs.declared.histories.Since.{Since}
use Rattle.hk_report.specs.declared.histories.Span.{Span}
use Rattle.hk_report.specs.declared.histories.History.{History}
use Rattle.hk_report.specs.Histories.{cap_at, same_cap, stays, from_now, since_by, up_to, ended_by, added, padded, sinces, ended, relisted, no_history}
use Rattle.hk_report.proofs.Spans.{has_all, Stood, SpanAt, SpansTell}

-- ---- index by index

abbrev pub now_at : History → ℕ → Option Since
now_at h i = slice_index_or h.now i None

plus_zero : (i : ℕ) → i + 0 ≡ i
plus_zero i = omega arith

plus_suc : (i j : ℕ) → i + suc j ≡ i + 1 + j
plus_suc i j = omega arith

nothing_since : (moment : ℕ) (o : Option Cap) → o ≡ None → None ≡ since_by moment None o
nothing_since moment o h = rw h refl

since_at : (moment : ℕ) (entries : List Entry) (index : ℕ) (olds : List (Option Since)) (i : ℕ) → ((j : ℕ) → length olds ≤ j → cap_at entries (index + j) ≡ None)
    → slice_index_or (sinces moment entries index olds) i None ≡ since_by moment (slice_index_or olds i None) (cap_at entries (index + i))
since_at moment entries index [] i h = nothing_since moment (cap_at entries (index + i)) (h i (omega arith))
since_at moment entries index (old ∷ olds) zero h = ap (λ (n : ℕ). since_by moment old (cap_at entries n)) (sym (plus_zero index))
since_at moment entries index (old ∷ olds) (suc i) h =
    since_at moment entries (index + 1) olds i (λ j l. ap (cap_at entries) (sym (plus_suc index j)) ∙ h (suc j) (omega (arith, l)))
    ∙ ap (λ (n : ℕ). since_by moment (slice_index_or olds i None) (cap_at entries n)) (sym (plus_suc index i))

replicated : (n i : ℕ) → ◌≡◌ {A = Option Since} (slice_index_or (replicate n None) i None) None
replicated zero i = refl
replicated (suc n) zero = refl
replicated (suc n) (suc i) = replicated n i

padded_at : (now : List (Option Since)) (n i : ℕ) → slice_index_or (now ++ replicate n None) i None ≡ slice_index_or now i None
padded_at [] n i = replicated n i
padded_at (x ∷ now) n zero = refl
padded_at (x ∷ now) n (suc i) = padded_at now n i

beyond : (entries : List Entry) (j : ℕ) → length entries ≤ j → cap_at entries j ≡ None
beyond [] j h = refl
beyond (x ∷ entries) zero h = absurd (omega (arith, h))
beyond (x ∷ entries) (suc j) h = beyond entries j (omega (arith, h))

beyond_padded : (now : List (Option Since)) (entries : List Entry) (j : ℕ) → length (padded now (length entries)) ≤ j → cap_at entries (0 + j) ≡ None
beyond_padded now entries j h =
    let a : length (padded now (length entries)) ≡ length now + length (replicate (length entries - length now) (let n : Option Since = None in n)) =
    length-append now (replicate (length entries - length now) None) in
    let b : length (replicate (length entries - length now) (let n : Option Since = None in n)) ≡ length entries - length now =
    length-replicate (length entries - length now) None in
    let c : 0 + j ≡ j = omega arith in
    ap (cap_at entries) c ∙ beyond entries j (omega (arith, h, a, b))

pub relisted_now : (moment : ℕ) (maker : Option Inc) (entries : List Entry) (h : History) (i : ℕ)
    → now_at (relisted moment maker entries h) i ≡ since_by moment (now_at h i) (cap_at entries i)
relisted_now moment maker entries h i =
    let c : 0 + i ≡ i = omega arith in
    since_at moment entries 0 (padded h.now (length entries)) i (beyond_padded h.now entries)
    ∙ rw (padded_at h.now (length entries - length h.now) i, c) refl

-- what has ended
record EndedAt (moment : ℕ) (entries : List Entry) (index : ℕ) (olds : List (Option Since)) (span : Span) : Type 0 where
  at : ℕ
  is : ended_by moment (index + at) (slice_index_or olds at None) (cap_at entries (index + at)) ≡ Some span

added_is : (o : Option Span) (span : Span) → Has (added o) span → o ≡ Some span
added_is None span h = absurd h
added_is (Some x) span (inl e) = ap Some e
added_is (Some x) span (inr h) = absurd h

is_added : (o : Option Span) (span : Span) → o ≡ Some span → Has (added o) span
is_added None span h = absurd (cc)
is_added (Some x) span h = inl (some_same h)
  where
    some_same : {x y : Span} → Some x ≡ Some y → x ≡ y
    some_same h = cc

ended_at : (moment : ℕ) (entries : List Entry) (index : ℕ) (olds : List (Option Since)) (span : Span) → Has (ended moment entries index olds) span
    → EndedAt moment entries index olds span
ended_at moment entries index [] span h = absurd h
ended_at moment entries index (old ∷ olds) span h =
    by (λ g. ended_at moment entries (index + 1) olds span g)
    (has_cases (added (ended_by moment index old (cap_at entries index))) (ended moment entries (index + 1) olds) span h)
  where
    by : (Has (ended moment entries (index + 1) olds) span → EndedAt moment entries (index + 1) olds span)
        → Has (added (ended_by moment index old (cap_at entries index))) span ⊎ Has (ended moment entries (index + 1) olds) span → EndedAt moment entries index (old ∷ olds) span
    by later (inl g) = record {
      at = 0;
      is = ap (λ (n : ℕ). ended_by moment n old (cap_at entries n)) (plus_zero index) ∙ added_is (ended_by moment index old (cap_at entries index)) span g;
    }
    by later (inr g) =
        let rest = later g in
        record { at = suc rest.at; is = ap (λ (n : ℕ). ended_by moment n (slice_index_or olds rest.at None) (cap_at entries n)) (plus_suc index rest.at) ∙ rest.is }

at_ended : (moment : ℕ) (entries : List Entry) (index : ℕ) (olds : List (Option Since)) (i : ℕ) (span : Span)
    → ended_by moment (index + i) (slice_index_or olds i None) (cap_at entries (index + i)) ≡ Some span → Has (ended moment entries index olds) span
at_ended moment entries index [] i span h = absurd (cc)
at_ended moment entries index (old ∷ olds) zero span h =
    has_left (added (ended_by moment index old (cap_at entries index))) (ended moment entries (index + 1) olds) span
    (is_added (ended_by moment index old (cap_at entries index)) span (ap (λ (n : ℕ). ended_by moment n old (cap_at entries n)) (sym (plus_zero index)) ∙ h))
at_ended moment entries index (old ∷ olds) (suc i) span h =
    has_right (added (ended_by moment index old (cap_at entries index))) (ended moment entries (index + 1) olds) span
    (at_ended moment entries (index + 1) olds i span
    (ap (λ (n : ℕ). ended_by moment n (slice_index_or olds i None) (cap_at entries n)) (sym (plus_suc index i)) ∙ h))

-- a span of a list that has got entries was one before, or has ended
record HasEnded (moment : ℕ) (entries : List Entry) (h : History) (span : Span) : Type 0 where
  at : ℕ
  is : ended_by moment at (now_at h at) (cap_at entries at) ≡ Some span

relisted_spans : (moment : ℕ) (maker : Option Inc) (entries : List Entry) (h : History) (span : Span) → Has (relisted moment maker entries h).spans span
    → Has h.spans span ⊎ HasEnded moment entries h span
relisted_spans moment maker entries h span g = by (has_cases h.spans (ended moment entries 0 (padded h.now (length entries))) span g)
  where
    by : Has h.spans span ⊎ Has (ended moment entries 0 (padded h.now (length entries))) span → Has h.spans span ⊎ HasEnded moment entries h span
    by (inl a) = inl a
    by (inr b) =
        let e = ended_at moment entries 0 (padded h.now (length entries)) span b in
        let c : 0 + e.at ≡ e.at = omega arith in
        inr (record { at = e.at; is = sym (rw (padded_at h.now (length entries - length h.now) e.at, c) refl) ∙ e.is })

spans_relisted : (moment : ℕ) (maker : Option Inc) (entries : List Entry) (h : History) (i : ℕ) (span : Span) → ended_by moment i (now_at h i) (cap_at entries i) ≡ Some span
    → Has (relisted moment maker entries h).spans span
spans_relisted moment maker entries h i span g =
    let c : 0 + i ≡ i = omega arith in
    has_right h.spans (ended moment entries 0 (padded h.now (length entries))) span
    (at_ended moment entries 0 (padded h.now (length entries)) i span (rw (padded_at h.now (length entries - length h.now) i, c) g))

-- ---- what stands and what has ended

pub cap_is : (a b : Cap) → same_cap a b ≡ true → a ≡ b
cap_is a b h =
    let names = eqb-true a.name.0 b.name.0 (first_so (a.name.0 == b.name.0) (a.rights == b.rights) h) in
    let rights = eqb-true a.rights b.rights (second_so (a.name.0 == b.name.0) (a.rights == b.rights) h) in
    λ i. record { name = record { 0 = names i }; rights = rights i }

-- what stands at an index stood there before, or stands there now for the first time
data IsSince (moment : ℕ) (o : Option Since) (c : Option Cap) (s : Since) : Type 0 where
  Still : o ≡ Some s → c ≡ Some s.cap → IsSince moment o c s
  Newly : s.from ≡ moment → c ≡ Some s.cap → IsSince moment o c s

since_is : (moment : ℕ) (o : Option Since) (c : Option Cap) (s : Since) → since_by moment o c ≡ Some s → IsSince moment o c s
since_is moment None None s h = absurd (cc)
since_is moment None (Some cap) s h = let e = since_same h in Newly (sym (ap (λ (x : Since). x.from) e)) (ap (λ (x : Since). Some x.cap) e)
  where
    since_same : {x y : Since} → Some x ≡ Some y → x ≡ y
    since_same h = cc
since_is moment (Some old) None s h = absurd (cc)
since_is moment (Some old) (Some cap) s h = by (same_cap old.cap cap) refl h
  where
    since_same : {x y : Since} → Some x ≡ Some y → x ≡ y
    since_same h = cc

    by : (b : Bool) → same_cap old.cap cap ≡ b → elim b as (λ x. Option Since) [ true ↦ Some old | false ↦ Some (from_now moment cap) ] ≡ Some s
        → IsSince moment (Some old) (Some cap) s
    by true e g = let f = since_same g in Still (ap Some f) (ap Some (sym (cap_is old.cap cap e)) ∙ ap (λ (x : Since). Some x.cap) f)
    by false e g = let f = since_same g in Newly (sym (ap (λ (x : Since). x.from) f)) (ap (λ (x : Since). Some x.cap) f)

-- where a capability stands its since is there
record SinceOf (o : Option Since) (cap : Cap) : Type 0 where
  since : Since
  is : o ≡ Some since
  cap_same : since.cap ≡ cap

since_there : (moment : ℕ) (o : Option Since) (cap : Cap) → SinceOf (since_by moment o (Some cap)) cap
since_there moment None cap = record { since = from_now moment cap; is = refl; cap_same = refl }
since_there moment (Some old) cap = by (same_cap old.cap cap) refl
  where
    by : (b : Bool) → same_cap old.cap cap ≡ b → SinceOf (elim b as (λ x. Option Since) [ true ↦ Some old | false ↦ Some (from_now moment cap) ]) cap
    by true e = record { since = old; is = refl; cap_same = cap_is old.cap cap e }
    by false e = record { since = from_now moment cap; is = refl; cap_same = refl }

since_cap : (moment : ℕ) (o : Option Since) (c : Option Cap) → option_map (λ (s : Since). s.cap) (since_by moment o c) ≡ c
since_cap moment None None = refl
since_cap moment None (Some cap) = refl
since_cap moment (Some old) None = refl
since_cap moment (Some old) (Some cap) = let f = since_there moment (Some old) cap in ap (option_map (λ (s : Since). s.cap)) f.is ∙ ap Some f.cap_same

-- what stood at an index stays, or has ended
data StaysOrEnds (moment index : ℕ) (s : Since) (c : Option Cap) : Type 0 where
  StaysThere : since_by moment (Some s) c ≡ Some s → StaysOrEnds moment index s c
  Ends : ended_by moment index (Some s) c ≡ Some (up_to moment index s) → StaysOrEnds moment index s c

stays_or_ends : (moment index : ℕ) (s : Since) (c : Option Cap) → StaysOrEnds moment index s c
stays_or_ends moment index s None = Ends refl
stays_or_ends moment index s (Some cap) = by (same_cap s.cap cap) refl
  where
    by : (b : Bool) → same_cap s.cap cap ≡ b → StaysOrEnds moment index s (Some cap)
    by true e = StaysThere (ap (λ (x : Bool). elim x as (λ y. Option Since) [ true ↦ Some s | false ↦ Some (from_now moment cap) ]) e)
    by false e = Ends (ap (λ (x : Bool). elim x as (λ y. Option Span) [ true ↦ None | false ↦ Some (up_to moment index s) ]) e)

-- what has ended stood there
record EndedShown (moment index : ℕ) (o : Option Since) (span : Span) : Type 0 where
  since : Since
  was : o ≡ Some since
  is : up_to moment index since ≡ span

ended_shown : (moment index : ℕ) (o : Option Since) (c : Option Cap) (span : Span) → ended_by moment index o c ≡ Some span → EndedShown moment index o span
ended_shown moment index None c span h = absurd (cc)
ended_shown moment index (Some s) c span h = by (stays (Some s) c) h
  where
    span_same : {x y : Span} → Some x ≡ Some y → x ≡ y
    span_same h = cc

    by : (b : Bool) → elim b as (λ x. Option Span) [ true ↦ None | false ↦ Some (up_to moment index s) ] ≡ Some span → EndedShown moment index (Some s) span
    by true g = absurd (cc)
    by false g = record { since = s; was = refl; is = span_same g }

-- ---- what a history tells

listed_stands : (s : State) (x : Name) (index : ℕ) (cap : Cap) → listed_cap s x index ≡ Some cap → stands s x ≡ true
listed_stands s x index cap h = by (lookup (same_name x) s.objects) h
  where
    by : (o : Option Object) → option_and_then cap_of (slice_get (unwrap_or o no_object).entries index) ≡ Some cap → is_some o ≡ true
    by None g = absurd (cc)
    by (Some o) g = refl

module _ (at : ℕ → State) (x : Name) where
  -- what stands at an index stands there since, at the moments below one
  pub record Opens (n index : ℕ) (s : Since) : Type 0 where
    pub before : s.from < n
    pub begins : stands (at s.from) x ≡ true
    pub holds : (m : ℕ) → s.from ≤ m → m < n → stands (at m) x ≡ true → listed_cap (at m) x index ≡ Some s.cap

  pub record Closed (n : ℕ) (span : Span) : Type 0 where
    pub before : span.from < n
    pub ends : span.until ≤ n
    pub begins : stands (at span.from) x ≡ true
    pub holds : (m : ℕ) → span.from ≤ m → m < span.until → m < n → stands (at m) x ≡ true → listed_cap (at m) x span.index ≡ Some span.cap

  pub record IsSinceAt (h : History) (m index : ℕ) (cap : Cap) : Type 0 where
    pub since : Since
    pub is : now_at h index ≡ Some since
    pub cap_same : since.cap ≡ cap
    pub from : since.from ≤ m

  -- what a history tells of the moments below one
  pub record Past (n : ℕ) (h : History) : Type 0 where
    pub standing : (index : ℕ) (s : Since) → now_at h index ≡ Some s → Opens n index s
    pub closed : (span : Span) → Has h.spans span → Closed n span
    pub told : (m index : ℕ) (cap : Cap) → m < n → listed_cap (at m) x index ≡ Some cap → IsSinceAt h m index cap ⊎ SpanAt h.spans m index cap

  -- and what it tells of a moment
  pub record Listed (n : ℕ) (h : History) : Type 0 where
    pub past : Past (n + 1) h
    pub now : stands (at n) x ≡ true → (index : ℕ) → option_map (λ (s : Since). s.cap) (now_at h index) ≡ listed_cap (at n) x index

  -- nothing is told of no moment, and of an object that does not stand
  pub past_none : Past 0 no_history
  past_none = record { standing = λ index s e. absurd (cc); closed = λ span h. absurd h; told = λ m index cap l e. absurd (omega (arith, l)) }

  pub never : stands (at 0) x ≡ false → Listed 0 no_history
  never h = record {
    past = record {
      standing = λ index s e. absurd (cc);
      closed = λ span h. absurd h;
      told = λ m index cap l e. let z : m ≡ 0 = omega (arith, l) in absurd (true≢false (sym (listed_stands (at m) x index cap e) ∙ ap (λ (n : ℕ). stands (at n) x) z ∙ h));
    };
    now = λ there index. absurd (true≢false (sym there ∙ h));
  }

  below_next : (m n : ℕ) → m < n + 1 → (m < n) ⊎ (m ≡ n)
  below_next m n h = elim (cases_lt m n) [ inl l ↦ inl l | inr l ↦ inr (omega (arith, h, l)) ]

  -- the list gets its entries at the next moment
  module _ (n : ℕ) (maker : Option Inc) (h : History) (past : Past n h) where
    abbrev entries : List Entry
    entries = (object (at n) x).entries

    abbrev next : History
    next = relisted n maker entries h

    next_open : (index : ℕ) (s : Since) → now_at next index ≡ Some s → Opens (n + 1) index s
    next_open index s e = by (since_is n (now_at h index) (listed_cap (at n) x index) s (sym (relisted_now n maker entries h index) ∙ e))
      where
        by : IsSince n (now_at h index) (listed_cap (at n) x index) s → Opens (n + 1) index s
        by (Still was c) =
            let o = past.standing index s was in
            record {
              before = (let b = o.before in omega (arith, b));
              begins = o.begins;
              holds = λ m late l there. elim (below_next m n l) [ inl g ↦ o.holds m late g there | inr g ↦ ap (λ (k : ℕ). listed_cap (at k) x index) g ∙ c ];
            }
        by (Newly f c) = record {
          before = omega (arith, f);
          begins = ap (λ (k : ℕ). stands (at k) x) f ∙ listed_stands (at n) x index s.cap c;
          holds = λ m late l there. let g : m ≡ n = omega (arith, f, late, l) in ap (λ (k : ℕ). listed_cap (at k) x index) g ∙ c;
        }

    next_closed : (span : Span) → Has next.spans span → Closed (n + 1) span
    next_closed span g = by (relisted_spans n maker entries h span g)
      where
        by : Has h.spans span ⊎ HasEnded n entries h span → Closed (n + 1) span
        by (inl a) =
            let c = past.closed span a in
            record {
              before = (let b = c.before in omega (arith, b));
              ends = (let b = c.ends in omega (arith, b));
              begins = c.begins;
              holds = λ m late until l there. c.holds m late until (let b = c.ends in omega (arith, b, until)) there;
            }
        by (inr b) =
            let s = ended_shown n b.at (now_at h b.at) (listed_cap (at n) x b.at) span b.is in
            let o = past.standing b.at s.since s.was in
            subst (Closed (n + 1)) s.is (record {
              before = (let c = o.before in omega (arith, c));
              ends = omega arith;
              begins = o.begins;
              holds = λ m late until l there. o.holds m late until there;
            })

    next_told : (m index : ℕ) (cap : Cap) → m < n + 1 → listed_cap (at m) x index ≡ Some cap → IsSinceAt next m index cap ⊎ SpanAt next.spans m index cap
    next_told m index cap l e = elim (below_next m n l) [ inl g ↦ earlier_told (past.told m index cap g e) g | inr g ↦ inl (here g) ]
      where
        here : m ≡ n → IsSinceAt next m index cap
        here g =
            let listed : listed_cap (at n) x index ≡ Some cap = ap (λ (k : ℕ). listed_cap (at k) x index) (sym g) ∙ e in
            let f = since_there n (now_at h index) cap in
            let is : now_at next index ≡ Some f.since = relisted_now n maker entries h index ∙ ap (since_by n (now_at h index)) listed ∙ f.is in
            let before = (next_open index f.since is).before in
            record { since = f.since; is = is; cap_same = f.cap_same; from = omega (arith, before, g) }

        earlier_told : IsSinceAt h m index cap ⊎ SpanAt h.spans m index cap → m < n → IsSinceAt next m index cap ⊎ SpanAt next.spans m index cap
        earlier_told (inr s) g = inr (record {
          span = s.span;
          is = has_left h.spans (ended n entries 0 (padded h.now (length entries))) s.span s.is;
          index_is = s.index_is;
          cap_is = s.cap_is;
          from = s.from;
          until = s.until;
        })
        earlier_told (inl s) g = by (stays_or_ends n index s.since (listed_cap (at n) x index))
          where
            by : StaysOrEnds n index s.since (listed_cap (at n) x index) → IsSinceAt next m index cap ⊎ SpanAt next.spans m index cap
            by (StaysThere k) = inl (record {
              since = s.since;
              is = relisted_now n maker entries h index ∙ ap (λ (o : Option Since). since_by n o (listed_cap (at n) x index)) s.is ∙ k;
              cap_same = s.cap_same;
              from = s.from;
            })
            by (Ends k) = inr (record {
              span = up_to n index s.since;
              is = spans_relisted n maker entries h index (up_to n index s.since) (ap (λ (o : Option Since). ended_by n index o (listed_cap (at n) x index)) s.is ∙ k);
              index_is = refl;
              cap_is = s.cap_same;
              from = s.from;
              until = g;
            })

    pub touches : Listed n (relisted n maker (object (at n) x).entries h)
    touches = record {
      past = record { standing = next_open; closed = next_closed; told = next_told };
      now = λ there index. ap (option_map (λ (s : Since). s.cap)) (relisted_now n maker entries h index) ∙ since_cap n (now_at h index) (listed_cap (at n) x index);
    }

  -- an object that stands has the list that it had
  pub record IsSame (n : ℕ) : Type 0 where
    pub stood : stands (at n) x ≡ true
    pub lists : (index : ℕ) → listed_cap (at (n + 1)) x index ≡ listed_cap (at n) x index

  module _ (n : ℕ) (h : History) (listed : Listed n h) (same : stands (at (n + 1)) x ≡ true → IsSame n) where
    at_next : (index : ℕ) → stands (at (n + 1)) x ≡ true → option_map (λ (s : Since). s.cap) (now_at h index) ≡ listed_cap (at (n + 1)) x index
    at_next index there = let e = same there in listed.now e.stood index ∙ sym (e.lists index)

    kept_open : (index : ℕ) (s : Since) → now_at h index ≡ Some s → Opens (n + 1 + 1) index s
    kept_open index s e =
        let o = listed.past.standing index s e in
        record {
          before = (let b = o.before in omega (arith, b));
          begins = o.begins;
          holds = λ m late l there. elim (below_next m (n + 1) l) [
            | inl g ↦ o.holds m late g there
            | inr g ↦ ap (λ (k : ℕ). listed_cap (at k) x index) g ∙ sym (at_next index (ap (λ (k : ℕ). stands (at k) x) (sym g) ∙ there))
                ∙ ap (option_map (λ (s : Since). s.cap)) e
          ];
        }

    kept_closed : (span : Span) → Has h.spans span → Closed (n + 1 + 1) span
    kept_closed span g =
        let c = listed.past.closed span g in
        record {
          before = (let b = c.before in omega (arith, b));
          ends = (let b = c.ends in omega (arith, b));
          begins = c.begins;
          holds = λ m late until l there. c.holds m late until (let b = c.ends in omega (arith, b, until)) there;
        }

    kept_told : (m index : ℕ) (cap : Cap) → m < n + 1 + 1 → listed_cap (at m) x index ≡ Some cap → IsSinceAt h m index cap ⊎ SpanAt h.spans m index cap
    kept_told m index cap l e = elim (below_next m (n + 1) l) [ inl g ↦ listed.past.told m index cap g e | inr g ↦ here g ]
      where
        here : m ≡ n + 1 → IsSinceAt h m index cap ⊎ SpanAt h.spans m index cap
        here g = by (now_at h index) refl (at_next index there ∙ listed_now)
          where
            listed_now : listed_cap (at (n + 1)) x index ≡ Some cap
            listed_now = ap (λ (k : ℕ). listed_cap (at k) x index) (sym g) ∙ e

            there : stands (at (n + 1)) x ≡ true
            there = listed_stands (at (n + 1)) x index cap listed_now

            cap_same : {a b : Cap} → Some a ≡ Some b → a ≡ b
            cap_same h = cc

            by : (o : Option Since) → now_at h index ≡ o → option_map (λ (s : Since). s.cap) o ≡ Some cap → IsSinceAt h m index cap ⊎ SpanAt h.spans m index cap
            by None f k = absurd (cc)
            by (Some s) f k = let b = (listed.past.standing index s f).before in inl (record { since = s; is = f; cap_same = cap_same k; from = omega (arith, b, g) })

    pub keeps : Listed (n + 1) h
    keeps = record { past = record { standing = kept_open; closed = kept_closed; told = kept_told }; now = λ there index. at_next index there }

  -- where all that stands ends, the spans tell all
  module _ (n : ℕ) (h : History) (listed : Listed n h) where
    abbrev ending : History
    ending = relisted (n + 1) None [] h

    ending_stood : (span : Span) → Has ending.spans span → Stood at n x span
    ending_stood span g = by (relisted_spans (n + 1) None [] h span g)
      where
        by : Has h.spans span ⊎ HasEnded (n + 1) [] h span → Stood at n x span
        by (inl a) =
            let c = listed.past.closed span a in
            record {
              begins = c.begins;
              by_end = (let b = c.before in omega (arith, b));
              holds = λ m late until l there. c.holds m late until (omega (arith, l)) there;
            }
        by (inr b) =
            let s = ended_shown (n + 1) b.at (now_at h b.at) (cap_at [] b.at) span b.is in
            let o = listed.past.standing b.at s.since s.was in
            subst (Stood at n x) s.is (record {
              begins = o.begins;
              by_end = (let c = o.before in omega (arith, c));
              holds = λ m late until l there. o.holds m late until there;
            })

    ending_told : (m index : ℕ) (cap : Cap) → m ≤ n → listed_cap (at m) x index ≡ Some cap → SpanAt ending.spans m index cap
    ending_told m index cap l e = by (listed.past.told m index cap (omega (arith, l)) e)
      where
        by : IsSinceAt h m index cap ⊎ SpanAt h.spans m index cap → SpanAt ending.spans m index cap
        by (inr s) = record {
          span = s.span;
          is = has_left h.spans (ended (n + 1) [] 0 (padded h.now 0)) s.span s.is;
          index_is = s.index_is;
          cap_is = s.cap_is;
          from = s.from;
          until = s.until;
        }
        by (inl s) = record {
          span = up_to (n + 1) index s.since;
          is = spans_relisted (n + 1) None [] h index (up_to (n + 1) index s.since) (ap (λ (o : Option Since). ended_by (n + 1) index o None) s.is);
          index_is = refl;
          cap_is = s.cap_same;
          from = s.from;
          until = omega (arith, l);
        }

    pub tells_all : SpansTell at n x (relisted (n + 1) None [] h).spans
    tells_all = record { sound = has_all (Stood at n x) (relisted (n + 1) None [] h).spans ending_stood; complete = ending_told }
