-- The level of one hop more, by those that hold what a level has.
use Rattle.std.proofs.Common.{◌≡◌, ℕ, suc, ◌-◌, ◌<◌, ◌≤◌, List, [], ◌∷◌, Bool, true, false, Option, Some, None, refl, sym, ◌∙◌, ap, arith, cond, subst}
use Rattle.std.specs.Prelude.{◌==◌, ◌&&◌, ◌||◌, filter, nat_lt}
use mathlib.Core.Logic.{inl, inr}
use Rattle.std.specs.List.{All, AllByRecursion, between}
use Rattle.std.specs.Cmp.{ranked}
use Rattle.std.specs.Ordering.{nat_cmp, is_eq, MatchOrdering}
use Rattle.std.specs.declared.cmp.Ordering.{Ordering}
use Rattle.std.specs.declared.cmp.Ordering.TheVariants.{Less, Equal, Greater}
use Rattle.std.specs.Option.{unwrap_or}
use Rattle.std.specs.Map.{lookup}
use Rattle.std.proofs.lemmas.Bool.{true≢false, eqb-true, eq-eqb, ne_eqb, ltb-true, ltb-false, le-ltb}
use Rattle.hk_model.specs.declared.names.Name.{Name}
use Rattle.hk_model.specs.declared.reaches.Hop.TheVariants as hop_by
use Rattle.hk_model.specs.State.{same_name}
use Rattle.hk_model.specs.declared.entries.Cap.{Cap}
use Rattle.hk_model.proofs.Members.{Has}
use Rattle.hk_report.specs.declared.histories.Span.{Span}
use Rattle.hk_report.specs.declared.histories.History.{History}
use Rattle.hk_report.specs.declared.holders.Stretch.{Stretch}
use Rattle.hk_report.specs.declared.hops.Arrived.{Arrived}
use Rattle.hk_report.specs.declared.hops.Latest.{Latest}
use Rattle.hk_report.specs.declared.hops.Onward.{Onward}
use Rattle.hk_report.specs.Histories.{history_of}
use Rattle.hk_report.specs.Hops.{later, arrived_by, arrived_whole, is_good, entry_onward, handed_onward, earlier, onward_over}
use Rattle.hk_report.specs.Hops.{greater, lesser, from_on, entry_bound, handed_bound, no_latest, ends_before, latest_end, latest_from, next_latest}
use Rattle.hk_report.specs.Runs.{AreRuns}
use Rattle.hk_report.specs.Holders.{spans_in, held_at, live_at, HoldsAlone, AreHolders, joined, latest_over, latest_within, entry_most, handed_most, most_on, raised_at, raised_over}
use Rattle.hk_report.proofs.HistoryLemmas.{name_is}
use Rattle.hk_report.proofs.Stretches.{all_each, alone_each, held_one, has_place, got_has, between_get, has_between}

-- ---- what all that a level keeps gives

abbrev pub raised_by : (Name → Bool) → List History → (Name → List Stretch) → (Name → Latest) → List (Name × Latest) → Name → Latest
raised_by made histories holders level [] = level
raised_by made histories holders level (kept ∷ more) = raised_by made histories holders (raised_over histories kept.1 (made kept.0) level (holders kept.0)) more

-- ---- bounds that are at most others

pub record AtMost (a b : Latest) : Type 0 where
  pub modify : a.modify ≤ b.modify
  pub unconf : a.unconf ≤ b.unconf

at_most_same : (a : Latest) → AtMost a a
at_most_same a = record { modify = omega arith; unconf = omega arith }

at_most_through : (a b c : Latest) → AtMost a b → AtMost b c → AtMost a c
at_most_through a b c f g =
    let m = f.modify in
    let n = g.modify in
    let u = f.unconf in
    let v = g.unconf in
    record { modify = omega (arith, m, n); unconf = omega (arith, u, v) }

both_ways : (a b : Latest) → AtMost a b → AtMost b a → a ≡ b
both_ways a b f g =
    let m = f.modify in
    let n = g.modify in
    let u = f.unconf in
    let v = g.unconf in
    let x : a.modify ≡ b.modify = omega (arith, m, n) in
    let y : a.unconf ≡ b.unconf = omega (arith, u, v) in
    ap (λ (k : ℕ). let l : Latest = record { modify = k; unconf = a.unconf } in l) x ∙ ap (λ (k : ℕ). let l : Latest = record { modify = b.modify; unconf = k } in l) y

pub none_at_most : (a : Latest) → AtMost no_latest a
none_at_most a = record { modify = omega arith; unconf = omega arith }

-- two numbers that compare the same
pub same_number : (a b : ℕ) → is_eq (nat_cmp a b) ≡ true → a ≡ b
same_number a b h = by (nat_cmp a b) (ranked a b (nat_cmp a b) refl) h
  where
    by : (o : Ordering) → MatchOrdering o (a < b) (a ≡ b) (b < a) → is_eq o ≡ true → a ≡ b
    by Less l g = absurd (true≢false (sym g))
    by Equal e g = e
    by Greater l g = absurd (true≢false (sym g))

pub left_within : (a b : ℕ) → a ≤ greater a b
left_within a b = by (nat_lt a b) refl
  where
    by : (o : Bool) → nat_lt a b ≡ o → a ≤ cond o b a
    by true e = let l = ltb-true a b e in omega (arith, l)
    by false e = omega arith

pub right_within : (a b : ℕ) → b ≤ greater a b
right_within a b = by (nat_lt a b) refl
  where
    by : (o : Bool) → nat_lt a b ≡ o → b ≤ cond o b a
    by true e = omega arith
    by false e = let l = ltb-false a b e in omega (arith, l)

pub both_within : (a b c : ℕ) → a ≤ c → b ≤ c → greater a b ≤ c
both_within a b c f g = by (nat_lt a b)
  where
    by : (o : Bool) → cond o b a ≤ c
    by true = g
    by false = f

left_joined : (a b : Latest) → AtMost a (joined a b)
left_joined a b = record { modify = left_within a.modify b.modify; unconf = left_within a.unconf b.unconf }

right_joined : (a b : Latest) → AtMost b (joined a b)
right_joined a b = record { modify = right_within a.modify b.modify; unconf = right_within a.unconf b.unconf }

both_joined : (a b c : Latest) → AtMost a c → AtMost b c → AtMost (joined a b) c
both_joined a b c f g = record { modify = both_within a.modify b.modify c.modify f.modify g.modify; unconf = both_within a.unconf b.unconf c.unconf f.unconf g.unconf }

-- where the rest cannot be made, no hop leads
none_over : (span : Span) (made : Bool) → latest_over span no_latest made ≡ no_latest
none_over span made =
    ap (λ (k : ℕ). let l : Latest = record { modify = k; unconf = entry_bound span no_latest } in l) (handed made)
    ∙ ap (λ (k : ℕ). let l : Latest = record { modify = 0; unconf = k } in l) entry
  where
    on : (n : ℕ) → n ≡ 0 → from_on span n ≡ 0
    on n e = ap (from_on span) e ∙ at (nat_lt span.until 0) refl
      where
        at : (o : Bool) → nat_lt span.until 0 ≡ o → cond (nat_lt span.from (cond o span.until 0)) (cond o span.until 0) 0 ≡ 0
        at true e = absurd (let l = ltb-true span.until 0 e in omega (arith, l))
        at false e = ap (λ (b : Bool). cond b 0 0) (le-ltb span.from 0 (omega arith))

    handed : (m : Bool) → handed_bound span no_latest m ≡ 0
    handed true = on (greater 0 0) refl
    handed false = refl

    either : (a b : Bool) → greater (cond a 0 0) (cond b 0 0) ≡ 0
    either true true = refl
    either true false = refl
    either false true = refl
    either false false = refl

    entry : entry_bound span no_latest ≡ 0
    entry = on _ (either _ _)

-- ---- of all spans of a run, by the bounds that they share

on_none : (span : Span) → from_on span 0 ≡ 0
on_none span = by (nat_lt span.until 0) refl
  where
    by : (o : Bool) → nat_lt span.until 0 ≡ o → cond (nat_lt span.from (cond o span.until 0)) (cond o span.until 0) 0 ≡ 0
    by true e = absurd (let l = ltb-true span.until 0 e in omega (arith, l))
    by false e = ap (λ (b : Bool). cond b 0 0) (le-ltb span.from 0 (omega arith))

handed_on : (span : Span) (latest : Latest) (made : Bool) → handed_bound span latest made ≡ from_on span (handed_most made latest)
handed_on span latest true = refl
handed_on span latest false = sym (on_none span)

entry_on : (span : Span) (cap : Cap) (latest : Latest) → span.cap ≡ cap → entry_bound span latest ≡ from_on span (entry_most cap latest)
entry_on span cap latest e = ap (λ (c : Cap). from_on span (entry_most c latest)) e

abbrev pub bounds : ℕ → ℕ → Latest
bounds modify unconf = record { modify = modify; unconf = unconf }

pub latest_run : (run : List Span) (cap : Cap) (latest : Latest) (made : Bool) → AllByRecursion (λ (s : Span). s.cap ≡ cap) run
    → bounds (most_on run (handed_most made latest)) (most_on run (entry_most cap latest)) ≡ latest_within run latest made
latest_run [] cap latest made h = refl
latest_run (s ∷ run) cap latest made h =
    ap (λ (n : ℕ). bounds (greater n (most_on run (handed_most made latest))) (greater (from_on s (entry_most cap latest)) (most_on run (entry_most cap latest))))
    (sym (handed_on s latest made))
    ∙ ap (λ (n : ℕ). bounds (greater (handed_bound s latest made) (most_on run (handed_most made latest))) (greater n (most_on run (entry_most cap latest))))
    (sym (entry_on s cap latest h.0))
    ∙ ap (joined (latest_over s latest made)) (latest_run run cap latest made h.1)

pub over_on : (run whole : List Span) (most : Latest) (by_modify by_unconf : ℕ) → run ≡ whole → by_modify ≡ most_on run most.modify → by_unconf ≡ most_on run most.unconf
    → bounds by_modify by_unconf ≡ bounds (most_on whole most.modify) (most_on whole most.unconf)
over_on run whole most by_modify by_unconf e x y =
    ap (λ (n : ℕ). bounds n by_unconf) (x ∙ ap (λ (xs : List Span). most_on xs most.modify) e)
    ∙ ap (λ (n : ℕ). bounds (most_on whole most.modify) n) (y ∙ ap (λ (xs : List Span). most_on xs most.unconf) e)

-- none can be gone over below no moment
most_none : (run : List Span) → most_on run 0 ≡ 0
most_none [] = refl
most_none (s ∷ run) = ap (λ (n : ℕ). greater n (most_on run 0)) (on_none s) ∙ ap (λ (n : ℕ). greater 0 n) (most_none run)

pub over_off : (run : List Span) (most : Latest) → most.modify ≡ 0 → most.unconf ≡ 0 → most ≡ bounds (most_on run most.modify) (most_on run most.unconf)
over_off run most x y =
    ap (λ (n : ℕ). bounds n most.unconf) (x ∙ sym (most_none run) ∙ ap (most_on run) (sym x))
    ∙ ap (λ (n : ℕ). bounds (most_on run most.modify) n) (y ∙ sym (most_none run) ∙ ap (most_on run) (sym y))

-- none can be gone over below more than a bound
pub on_within : (span : Span) (bound : ℕ) → from_on span bound ≤ bound
on_within span bound = by (nat_lt span.until bound) refl
  where
    kept : (k : ℕ) → k ≤ bound → (o : Bool) → cond o k 0 ≤ bound
    kept k l true = l
    kept k l false = omega arith

    by : (o : Bool) → nat_lt span.until bound ≡ o → cond (nat_lt span.from (cond o span.until bound)) (cond o span.until bound) 0 ≤ bound
    by true e = kept span.until (let l = ltb-true span.until bound e in omega (arith, l)) (nat_lt span.from span.until)
    by false e = kept bound (omega arith) (nat_lt span.from bound)

most_within : (run : List Span) (bound : ℕ) → most_on run bound ≤ bound
most_within [] bound = omega arith
most_within (s ∷ run) bound = both_within (from_on s bound) (most_on run bound) bound (on_within s bound) (most_within run bound)

-- ---- of all spans of a list

module _ (made : Name → Bool) (level : Name → Latest) where
  abbrev over : Span → Latest
  over span = latest_over span (level span.cap.name) (made span.cap.name)

  from_keeps : (spans : List Span) (all : Latest) → AtMost all (latest_from made level all spans)
  from_keeps [] all = at_most_same all
  from_keeps (span ∷ spans) all =
      at_most_through all (joined all (over span)) (latest_from made level (joined all (over span)) spans) (left_joined all (over span)) (from_keeps spans (joined all (over span)))

  from_has : (spans : List Span) (all : Latest) (span : Span) → Has spans span → AtMost (over span) (latest_from made level all spans)
  from_has [] all span h = absurd h
  from_has (first ∷ spans) all span (inl e) =
      subst (λ (s : Span). AtMost (over s) (latest_from made level (joined all (over first)) spans)) e
      (at_most_through (over first) (joined all (over first)) (latest_from made level (joined all (over first)) spans) (right_joined all (over first))
      (from_keeps spans (joined all (over first))))
  from_has (first ∷ spans) all span (inr h) = from_has spans (joined all (over first)) span h

  pub from_least : (spans : List Span) (all most : Latest) → AtMost all most → ((span : Span) → Has spans span → AtMost (over span) most)
      → AtMost (latest_from made level all spans) most
  from_least [] all most h each = h
  from_least (span ∷ spans) all most h each =
      from_least spans (joined all (over span)) most (both_joined all (over span) most h (each span (inl refl))) (λ s g. each s (inr g))

-- ---- of all that hold one object

at_other : (level : Name → Latest) (name : Name) (latest : Latest) (x : Name) → AtMost (level x) (raised_at level name latest x)
at_other level name latest x = by (name.0 == x.0)
  where
    by : (b : Bool) → AtMost (level x) (cond b (joined (level x) latest) (level x))
    by true = left_joined (level x) latest
    by false = at_most_same (level x)

at_same : (level : Name → Latest) (name : Name) (latest : Latest) → AtMost latest (raised_at level name latest name)
at_same level name latest = by (name.0 == name.0) (eq-eqb name.0 name.0 refl)
  where
    by : (b : Bool) → b ≡ true → AtMost latest (cond b (joined (level name) latest) (level name))
    by true e = right_joined (level name) latest
    by false e = absurd (true≢false (sym e))

at_least : (level : Name → Latest) (name : Name) (latest : Latest) (x : Name) (most : Latest) → AtMost (level x) most → (name ≡ x → AtMost latest most)
    → AtMost (raised_at level name latest x) most
at_least level name latest x most h g = by (name.0 == x.0) refl
  where
    by : (b : Bool) → (name.0 == x.0) ≡ b → AtMost (cond b (joined (level x) latest) (level x)) most
    by true e = both_joined (level x) latest most h (g (name_is name x (eqb-true name.0 x.0 e)))
    by false e = h

module _ (histories : List History) (latest : Latest) (made : Bool) where
  abbrev given : Stretch → Latest
  given held = latest_within (spans_in histories held) latest made

  abbrev after : (Name → Latest) → Stretch → Name → Latest
  after level held = raised_at level held.by (given held)

  over_keeps : (helds : List Stretch) (level : Name → Latest) (x : Name) → AtMost (level x) (raised_over histories latest made level helds x)
  over_keeps [] level x = at_most_same (level x)
  over_keeps (held ∷ helds) level x =
      at_most_through (level x) (after level held x) (raised_over histories latest made (after level held) helds x) (at_other level held.by (given held) x)
      (over_keeps helds (after level held) x)

  over_has : (helds : List Stretch) (level : Name → Latest) (held : Stretch) → Has helds held → AtMost (given held) (raised_over histories latest made level helds held.by)
  over_has [] level held h = absurd h
  over_has (first ∷ helds) level held (inl e) =
      subst (λ (g : Stretch). AtMost (given g) (raised_over histories latest made (after level first) helds g.by)) e
      (at_most_through (given first) (after level first first.by) (raised_over histories latest made (after level first) helds first.by) (at_same level first.by (given first))
      (over_keeps helds (after level first) first.by))
  over_has (first ∷ helds) level held (inr h) = over_has helds (after level first) held h

  over_least : (helds : List Stretch) (level : Name → Latest) (x : Name) (most : Latest) → AtMost (level x) most
      → ((held : Stretch) → Has helds held → held.by ≡ x → AtMost (given held) most) → AtMost (raised_over histories latest made level helds x) most
  over_least [] level x most h each = h
  over_least (held ∷ helds) level x most h each =
      over_least helds (after level held) x most (at_least level held.by (given held) x most h (each held (inl refl))) (λ other g. each other (inr g))

-- ---- of all that a level keeps

module _ (made : Name → Bool) (histories : List History) (holders : Name → List Stretch) where
  abbrev next : (Name → Latest) → Name × Latest → Name → Latest
  next level kept = raised_over histories kept.1 (made kept.0) level (holders kept.0)

  by_keeps : (all : List (Name × Latest)) (level : Name → Latest) (x : Name) → AtMost (level x) (raised_by made histories holders level all x)
  by_keeps [] level x = at_most_same (level x)
  by_keeps (kept ∷ all) level x =
      at_most_through (level x) (next level kept x) (raised_by made histories holders (next level kept) all x) (over_keeps histories kept.1 (made kept.0) (holders kept.0) level x)
      (by_keeps all (next level kept) x)

  by_has : (all : List (Name × Latest)) (level : Name → Latest) (kept : Name × Latest) (held : Stretch) → Has all kept → Has (holders kept.0) held
      → AtMost (latest_within (spans_in histories held) kept.1 (made kept.0)) (raised_by made histories holders level all held.by)
  by_has [] level kept held h g = absurd h
  by_has (first ∷ all) level kept held (inl e) g =
      at_most_through (latest_within (spans_in histories held) kept.1 (made kept.0)) (next level first held.by) (raised_by made histories holders (next level first) all held.by)
      (subst (λ (k : Name × Latest). AtMost (latest_within (spans_in histories held) kept.1 (made kept.0)) (next level k held.by)) (sym e)
      (over_has histories kept.1 (made kept.0) (holders kept.0) level held g))
      (by_keeps all (next level first) held.by)
  by_has (first ∷ all) level kept held (inr h) g = by_has all (next level first) kept held h g

  by_least : (all : List (Name × Latest)) (level : Name → Latest) (x : Name) (most : Latest) → AtMost (level x) most
      → ((kept : Name × Latest) (held : Stretch) → Has all kept → Has (holders kept.0) held → held.by ≡ x → AtMost (latest_within (spans_in histories held) kept.1 (made kept.0)) most)
      → AtMost (raised_by made histories holders level all x) most
  by_least [] level x most h each = h
  by_least (kept ∷ all) level x most h each =
      by_least all (next level kept) x most
      (over_least histories kept.1 (made kept.0) (holders kept.0) level x most h (λ held g e. each kept held (inl refl) g e))
      (λ other held g. each other held (inr g))

-- ---- of all spans of a run

within_has : (spans : List Span) (latest : Latest) (made : Bool) (span : Span) → Has spans span → AtMost (latest_over span latest made) (latest_within spans latest made)
within_has [] latest made span h = absurd h
within_has (s ∷ spans) latest made span (inl e) =
    subst (λ (x : Span). AtMost (latest_over x latest made) (latest_within (s ∷ spans) latest made)) e (left_joined (latest_over s latest made) (latest_within spans latest made))
within_has (s ∷ spans) latest made span (inr h) =
    at_most_through (latest_over span latest made) (latest_within spans latest made) (latest_within (s ∷ spans) latest made) (within_has spans latest made span h)
    (right_joined (latest_over s latest made) (latest_within spans latest made))

within_least : (spans : List Span) (latest : Latest) (made : Bool) (most : Latest) → ((span : Span) → Has spans span → AtMost (latest_over span latest made) most)
    → AtMost (latest_within spans latest made) most
within_least [] latest made most f = none_at_most most
within_least (s ∷ spans) latest made most f =
    both_joined (latest_over s latest made) (latest_within spans latest made) most (f s (inl refl)) (within_least spans latest made most (λ x h. f x (inr h)))

-- ---- the level of one hop more

-- what is looked up is kept
looked_up : (test : Name → Bool) (all : List (Name × Latest)) (latest : Latest) → lookup test all ≡ Some latest → (k : Name) × (Has all (k, latest) × (test k ≡ true))
looked_up test [] latest h = absurd (cc)
looked_up test (first ∷ all) latest h = by (λ g. looked_up test all latest g) (test first.0) refl h
  where
    by : (lookup test all ≡ Some latest → (k : Name) × (Has all (k, latest) × (test k ≡ true))) → (b : Bool)
        → test first.0 ≡ b → cond b (Some first.1) (lookup test all) ≡ Some latest → (k : Name) × (Has (first ∷ all) (k, latest) × (test k ≡ true))
    by later true e g =
        let same : first.1 ≡ latest = cc in
        (first.0, (inl (ap (λ (l : Latest). (first.0, l)) same), e))
    by later false e g = let rest = later g in (rest.0, (inr rest.1.0, rest.1.1))

all_has : {X : Type 0} (P : X → Type 0) (xs : List X) (x : X) → Has xs x → All P xs → P x
all_has P [] x h all = absurd h
all_has P (y ∷ xs) x (inl e) all = subst P e (all 0 y (omega arith))
all_has P (y ∷ xs) x (inr h) all = all_has P xs x h (λ k d l. all (suc k) d (omega (arith, l)))

module _ (made : Name → Bool) (histories : List History) (runs : List (List ℕ)) (cut : AreRuns histories runs) (holders : List (List Stretch))
    (are : AreHolders histories runs holders) (all : List (Name × Latest)) (kept_at : (kept : Name × Latest) → Has all kept → lookup (same_name kept.0) all ≡ Some kept.1) where
  abbrev level : Name → Latest
  level name = unwrap_or (lookup (same_name name) all) no_latest

  abbrev raised_all : Name → Latest
  raised_all = raised_by made histories (held_at holders) (λ name. no_latest) all

  above : (x : Name) → AtMost (raised_all x) (next_latest made histories level x)
  above x = by_least made histories (held_at holders) all (λ name. no_latest) x (next_latest made histories level x) (none_at_most (next_latest made histories level x)) each
    where
      each : (kept : Name × Latest) (held : Stretch) → Has all kept → Has (held_at holders kept.0) held → held.by ≡ x
          → AtMost (latest_within (spans_in histories held) kept.1 (made kept.0)) (next_latest made histories level x)
      each kept held h g e = within_least (spans_in histories held) kept.1 (made kept.0) (next_latest made histories level x) span
        where
          alone : HoldsAlone histories kept.0 held
          alone = alone_each histories runs cut holders are kept.0 held g

          span : (s : Span) → Has (spans_in histories held) s → AtMost (latest_over s kept.1 (made kept.0)) (next_latest made histories level x)
          span s f =
              let cap = all_each (λ (y : Span). y.cap ≡ held.cap) (spans_in histories held) s alone.alike f in
              let same : s.cap.name ≡ kept.0 = ap (λ (c : Cap). c.name) cap ∙ alone.name_is in
              let there : Has (history_of histories x).spans s =
              subst (λ (y : Name). Has (history_of histories y).spans s) e (has_between (history_of histories held.by).spans held.first held.end s f) in
              let is : level kept.0 ≡ kept.1 = ap (λ (o : Option Latest). unwrap_or o no_latest) (kept_at kept h) in
              subst (λ (l : Latest). AtMost (latest_over s l (made kept.0)) (next_latest made histories level x)) is
              (subst (λ (y : Name). AtMost (latest_over s (level y) (made y)) (next_latest made histories level x)) same
              (from_has made level (history_of histories x).spans no_latest s there))

  below : (x : Name) → AtMost (next_latest made histories level x) (raised_all x)
  below x = from_least made level (history_of histories x).spans no_latest (raised_all x) (none_at_most (raised_all x)) each
    where
      each : (span : Span) → Has (history_of histories x).spans span → AtMost (latest_over span (level span.cap.name) (made span.cap.name)) (raised_all x)
      each span h = by (lookup (same_name span.cap.name) all) refl
        where
          by : (o : Option Latest) → lookup (same_name span.cap.name) all ≡ o → AtMost (latest_over span (unwrap_or o no_latest) (made span.cap.name)) (raised_all x)
          by None e = subst (λ (l : Latest). AtMost l (raised_all x)) (sym (none_over span (made span.cap.name))) (none_at_most (raised_all x))
          by (Some latest) e =
              let found = looked_up (same_name span.cap.name) all latest e in
              let same : span.cap.name ≡ found.0 = name_is span.cap.name found.0 (same_number span.cap.name.0 found.0.0 found.1.1) in
              let there : Has all (span.cap.name, latest) = subst (λ (y : Name). Has all (y, latest)) (sym same) found.1.0 in
              let place = has_place (history_of histories x).spans span h in
              let held = held_one histories runs cut holders are x place.0 span place.1 in
              let here : Has (spans_in histories held.stretch) span =
              subst (λ (y : Name). Has (between held.stretch.first held.stretch.end (history_of histories y).spans) span) (sym held.by_is)
              (got_has (between held.stretch.first held.stretch.end (history_of histories x).spans) (place.0 - held.stretch.first) span
              (between_get (history_of histories x).spans held.stretch.first held.stretch.end place.0 span held.from held.until place.1)) in
              at_most_through (latest_over span latest (made span.cap.name)) (latest_within (spans_in histories held.stretch) latest (made span.cap.name)) (raised_all x)
              (within_has (spans_in histories held.stretch) latest (made span.cap.name) span here)
              (subst (λ (y : Name). AtMost (latest_within (spans_in histories held.stretch) latest (made span.cap.name)) (raised_all y)) held.by_is
              (by_has made histories (held_at holders) all (λ name. no_latest) (span.cap.name, latest) held.stretch there held.kept))

  level_is : raised_all ≡ next_latest made histories level
  level_is = λ i x. both_ways (raised_all x) (next_latest made histories level x) (above x) (below x) i

pub level_next : (made : Name → Bool) (histories : List History) (runs : List (List ℕ)) (holders : List (List Stretch)) (all : List (Name × Latest)) → AreRuns histories runs
    → AreHolders histories runs holders → All (λ kept. lookup (same_name kept.0) all ≡ Some kept.1) all
    → raised_by made histories (held_at holders) (λ name. no_latest) all ≡ next_latest made histories (λ name. unwrap_or (lookup (same_name name) all) no_latest)
level_next made histories runs holders all cut are found =
    level_is made histories runs cut holders are all (λ kept h. all_has (λ (k : Name × Latest). lookup (same_name k.0) all ≡ Some k.1) all kept h found)

-- ---- a level that is raised at one object

pub same_equal : (a b : ℕ) → is_eq (nat_cmp a b) ≡ (a == b)
same_equal a b = by (nat_cmp a b) (ranked a b (nat_cmp a b) refl)
  where
    by : (o : Ordering) → MatchOrdering o (a < b) (a ≡ b) (b < a) → is_eq o ≡ (a == b)
    by Less l = sym (ne_eqb a b (λ e. omega (arith, l, e)))
    by Equal e = sym (eq-eqb a b e)
    by Greater l = sym (ne_eqb a b (λ e. omega (arith, l, e)))

pub raise_is : (old new : Name → Option Latest) (name : Name) (all latest : Latest) → ((x : Name) → new x ≡ cond (same_name name x) (Some all) (old x))
    → all ≡ joined (unwrap_or (old name) no_latest) latest → (λ x. unwrap_or (new x) no_latest) ≡ raised_at (λ x. unwrap_or (old x) no_latest) name latest
raise_is old new name all latest is e = λ i x. at x i
  where
    at : (x : Name) → unwrap_or (new x) no_latest ≡ raised_at (λ y. unwrap_or (old y) no_latest) name latest x
    at x =
        ap (λ (o : Option Latest). unwrap_or o no_latest) (is x ∙ ap (λ (b : Bool). cond b (Some all) (old x)) (same_equal name.0 x.0)) ∙ by (name.0 == x.0) refl
      where
        by : (b : Bool) → (name.0 == x.0) ≡ b
            → unwrap_or (cond b (Some all) (old x)) no_latest ≡ cond b (joined (unwrap_or (old x) no_latest) latest) (unwrap_or (old x) no_latest)
        by true f = e ∙ ap (λ (y : Name). joined (unwrap_or (old y) no_latest) latest) (name_is name x (eqb-true name.0 x.0 f))
        by false f = refl

stays_is : (level : Name → Latest) (name : Name) (latest : Latest) → joined (level name) latest ≡ level name → level ≡ raised_at level name latest
stays_is level name latest e = λ i x. at x i
  where
    at : (x : Name) → level x ≡ raised_at level name latest x
    at x = by (name.0 == x.0) refl
      where
        by : (b : Bool) → (name.0 == x.0) ≡ b → level x ≡ cond b (joined (level x) latest) (level x)
        by true f = subst (λ (y : Name). level y ≡ joined (level y) latest) (name_is name x (eqb-true name.0 x.0 f)) (sym e)
        by false f = refl

-- bounds of 0 are those of no moment
never : (moment : ℕ) → nat_lt moment 0 ≡ false
never moment = le-ltb moment 0 (omega arith)

pub latest_none : (latest : Latest) → latest.modify ≡ 0 → latest.unconf ≡ 0 → latest ≡ no_latest
latest_none latest m u =
    ap (λ (k : ℕ). let l : Latest = record { modify = k; unconf = latest.unconf } in l) m ∙ ap (λ (k : ℕ). let l : Latest = record { modify = 0; unconf = k } in l) u

joined_none : (a : Latest) → joined a no_latest ≡ a
joined_none a =
    ap (λ (b : Bool). let l : Latest = record { modify = cond b 0 a.modify; unconf = greater a.unconf 0 } in l) (never a.modify)
    ∙ ap (λ (b : Bool). let l : Latest = record { modify = a.modify; unconf = cond b 0 a.unconf } in l) (never a.unconf)

pub none_raised : (level : Name → Latest) (name : Name) (latest : Latest) → latest.modify ≡ 0 → latest.unconf ≡ 0 → level ≡ raised_at level name latest
none_raised level name latest m u = stays_is level name latest (ap (joined (level name)) (latest_none latest m u) ∙ joined_none (level name))

pub nothing_raised : (level : Name → Latest) (name : Name) → raised_at level name no_latest ≡ level
nothing_raised level name = sym (none_raised level name no_latest refl refl)

-- a level that is raised twice at one object
joined_more : (a b c : Latest) → joined (joined a b) c ≡ joined a (joined b c)
joined_more a b c =
    both_ways (joined (joined a b) c) (joined a (joined b c))
    (both_joined (joined a b) c (joined a (joined b c))
    (both_joined a b (joined a (joined b c)) (left_joined a (joined b c)) (at_most_through b (joined b c) (joined a (joined b c)) (left_joined b c) (right_joined a (joined b c))))
    (at_most_through c (joined b c) (joined a (joined b c)) (right_joined b c) (right_joined a (joined b c))))
    (both_joined a (joined b c) (joined (joined a b) c)
    (at_most_through a (joined a b) (joined (joined a b) c) (left_joined a b) (left_joined (joined a b) c))
    (both_joined b c (joined (joined a b) c) (at_most_through b (joined a b) (joined (joined a b) c) (right_joined a b) (left_joined (joined a b) c)) (right_joined (joined a b) c)))

pub raised_twice : (level : Name → Latest) (first second : Name) (a b : Latest) → first.0 ≡ second.0
    → raised_at level first (joined a b) ≡ raised_at (raised_at level first a) second b
raised_twice level first second a b e = subst (λ (y : Name). raised_at level first (joined a b) ≡ raised_at (raised_at level first a) y b) (name_is first second e) (λ i x. at x i)
  where
    at : (x : Name) → raised_at level first (joined a b) x ≡ raised_at (raised_at level first a) first b x
    at x = by (first.0 == x.0)
      where
        by : (o : Bool) → cond o (joined (level x) (joined a b)) (level x) ≡ cond o (joined (cond o (joined (level x) a) (level x)) b) (cond o (joined (level x) a) (level x))
        by true = sym (joined_more (level x) a b)
        by false = refl

-- what is raised as far already is not raised by a run
pub within_all : (all most : Latest) (run : List Span) (cap : Cap) (latest : Latest) (made : Bool) → AllByRecursion (λ (s : Span). s.cap ≡ cap) run
    → most ≡ bounds (handed_most made latest) (entry_most cap latest) → most.modify ≤ all.modify → most.unconf ≤ all.unconf → all ≡ joined all (latest_within run latest made)
within_all all most run cap latest made alike e m u =
    both_ways all (joined all (latest_within run latest made)) (left_joined all (latest_within run latest made))
    (both_joined all (latest_within run latest made) all (at_most_same all) within)
  where
    within : AtMost (latest_within run latest made) all
    within = subst (λ (l : Latest). AtMost l all) (latest_run run cap latest made alike) (record {
      modify = let a = most_within run (handed_most made latest) in let b : most.modify ≡ handed_most made latest = ap (λ (l : Latest). l.modify) e in omega (arith, a, b, m);
      unconf = let a = most_within run (entry_most cap latest) in let b : most.unconf ≡ entry_most cap latest = ap (λ (l : Latest). l.unconf) e in omega (arith, a, b, u);
    })

pub covered : (level : Name → Latest) (name by : Name) (wait most : Latest) (run : List Span) (cap : Cap) (latest : Latest) (made : Bool)
    → AllByRecursion (λ (s : Span). s.cap ≡ cap) run → most ≡ bounds (handed_most made latest) (entry_most cap latest)
    → name.0 ≡ by.0 → most.modify ≤ wait.modify → most.unconf ≤ wait.unconf
    → raised_at level name wait ≡ raised_at (raised_at level name wait) by (latest_within run latest made)
covered level name by wait most run cap latest made alike e same m u =
    ap (raised_at level name) (within_all wait most run cap latest made alike e m u) ∙ raised_twice level name by wait (latest_within run latest made) same

-- what a run gives below these bounds
pub over_run : (run : List Span) (cap : Cap) (latest : Latest) (made : Bool) (most over : Latest) → AllByRecursion (λ (s : Span). s.cap ≡ cap) run
    → most ≡ bounds (handed_most made latest) (entry_most cap latest) → over ≡ bounds (most_on run most.modify) (most_on run most.unconf)
    → over ≡ latest_within run latest made
over_run run cap latest made most over alike e f =
    f ∙ ap (λ (l : Latest). bounds (most_on run l.modify) (most_on run l.unconf)) e ∙ latest_run run cap latest made alike

-- a run that begins when a hop over it has to have been made gives nothing
late_on : (run : List Span) (from bound : ℕ) → AllByRecursion (λ (s : Span). from ≤ s.from) run → bound ≤ from → most_on run bound ≡ 0
late_on [] from bound h l = refl
late_on (s ∷ run) from bound h l = rw (none, late_on run from bound h.1 l) refl
  where
    within : lesser s.until bound ≤ bound
    within = by (nat_lt s.until bound) refl
      where
        by : (b : Bool) → nat_lt s.until bound ≡ b → cond b s.until bound ≤ bound
        by true e = let m = ltb-true s.until bound e in omega (arith, m)
        by false e = omega arith

    none : from_on s bound ≡ 0
    none =
        let begun = h.0 in
        let less = within in
        ap (λ (b : Bool). cond b (lesser s.until bound) 0) (le-ltb s.from (lesser s.until bound) (omega (arith, begun, l, less)))

pub late : (level : Name → Latest) (by : Name) (from : ℕ) (most : Latest) (run : List Span) (cap : Cap) (latest : Latest) (made : Bool)
    → AllByRecursion (λ (s : Span). s.cap ≡ cap) run → AllByRecursion (λ (s : Span). from ≤ s.from) run → most ≡ bounds (handed_most made latest) (entry_most cap latest)
    → most.modify ≤ from → most.unconf ≤ from → level ≡ raised_at level by (latest_within run latest made)
late level by from most run cap latest made alike begun e m u =
    sym (nothing_raised level by)
    ∙ ap (raised_at level by)
    (ap (λ (x : ℕ). bounds x 0) (sym (late_on run from most.modify begun m)) ∙ ap (bounds (most_on run most.modify)) (sym (late_on run from most.unconf begun u))
    ∙ over_run run cap latest made most (bounds (most_on run most.modify) (most_on run most.unconf)) alike e refl)

-- the level of no hop, as it is kept for one object
pub end_kept : (name x : Name) (before : ℕ) → unwrap_or (lookup (same_name x) ((name, ends_before before) ∷ [])) no_latest ≡ latest_end name before x
end_kept name x before = ap (λ (b : Bool). unwrap_or (cond b (Some (ends_before before)) None) no_latest) (same_equal x.0 name.0) ∙ by (x.0 == name.0)
  where
    by : (b : Bool) → unwrap_or (cond b (Some (ends_before before)) None) no_latest ≡ cond b (ends_before before) no_latest
    by true = refl
    by false = refl

pub end_next : (made : Name → Bool) (histories : List History) (runs : List (List ℕ)) (holders : List (List Stretch)) (name : Name) (before : ℕ) → AreRuns histories runs
    → AreHolders histories runs holders
    → raised_over histories (ends_before before) (made name) (λ x. no_latest) (held_at holders name) ≡ next_latest made histories (latest_end name before)
end_next made histories runs holders name before cut are =
    level_is made histories runs cut holders are ((name, ends_before before) ∷ []) kept
    ∙ ap (next_latest made histories) (λ i x. end_kept name x before i)
  where
    alone : (b : Bool) → b ≡ true → cond b (Some (ends_before before)) None ≡ Some (ends_before before)
    alone true e = refl
    alone false e = absurd (true≢false (sym e))

    kept : (k : Name × Latest) → Has ((name, ends_before before) ∷ []) k → lookup (same_name k.0) ((name, ends_before before) ∷ []) ≡ Some k.1
    kept k (inl e) =
        subst (λ (y : Name × Latest). lookup (same_name y.0) ((name, ends_before before) ∷ []) ≡ Some y.1) e
        (alone (same_name name name) (same_equal name.0 name.0 ∙ eq-eqb name.0 name.0 refl))
    kept k (inr h) = absurd h

-- ---- at the objects of which a test is true

module _ (live : Name → Bool) (histories : List History) (latest : Latest) (made : Bool) (x : Name) (lives : live x ≡ true) where
  abbrev living : List Stretch → List Stretch
  living held = filter (λ (stretch : Stretch). live stretch.by) held

  raised_same : (l n : Name → Latest) (by : Name) (more : Latest) → l x ≡ n x → raised_at l by more x ≡ raised_at n by more x
  raised_same l n by more e = ap (λ (y : Latest). cond (by.0 == x.0) (joined y more) y) e

  raised_apart : (n : Name → Latest) (by : Name) (more : Latest) → live by ≡ false → n x ≡ raised_at n by more x
  raised_apart n by more off = other (by.0 == x.0) refl
    where
      other : (b : Bool) → (by.0 == x.0) ≡ b → n x ≡ cond b (joined (n x) more) (n x)
      other true e = absurd (true≢false (sym lives ∙ ap live (sym (name_is by x (eqb-true by.0 x.0 e))) ∙ off))
      other false e = refl

  over_living : (held : List Stretch) (l n : Name → Latest) → l x ≡ n x
      → raised_over histories latest made l (living held) x ≡ raised_over histories latest made n held x
  over_living [] l n e = e
  over_living (s ∷ held) l n e = one (live s.by) refl (λ l' n' e'. over_living held l' n' e')
    where
      one : (b : Bool) → live s.by ≡ b
          → ((l' n' : Name → Latest) → l' x ≡ n' x → raised_over histories latest made l' (living held) x ≡ raised_over histories latest made n' held x)
          → raised_over histories latest made l (cond b (s ∷ living held) (living held)) x
          ≡ raised_over histories latest made (raised_at n s.by (latest_within (spans_in histories s) latest made)) held x
      one true f later =
          later (raised_at l s.by (latest_within (spans_in histories s) latest made)) (raised_at n s.by (latest_within (spans_in histories s) latest made))
          (raised_same l n s.by (latest_within (spans_in histories s) latest made) e)
      one false f later =
          later l (raised_at n s.by (latest_within (spans_in histories s) latest made)) (e ∙ raised_apart n s.by (latest_within (spans_in histories s) latest made) f)

module _ (live : Name → Bool) (made : Name → Bool) (histories : List History) (holders : List (List Stretch)) (x : Name) (lives : live x ≡ true) where
  by_living : (all : List (Name × Latest)) (l n : Name → Latest) → l x ≡ n x
      → raised_by made histories (live_at live holders) l all x ≡ raised_by made histories (held_at holders) n all x
  by_living [] l n e = e
  by_living (kept ∷ all) l n e =
      by_living all (raised_over histories kept.1 (made kept.0) l (live_at live holders kept.0)) (raised_over histories kept.1 (made kept.0) n (held_at holders kept.0))
      (over_living live histories kept.1 (made kept.0) x lives (held_at holders kept.0) l n e)

  pub level_live : (runs : List (List ℕ)) (all : List (Name × Latest)) → AreRuns histories runs → AreHolders histories runs holders
      → All (λ kept. lookup (same_name kept.0) all ≡ Some kept.1) all
      → raised_by made histories (live_at live holders) (λ name. no_latest) all x ≡ next_latest made histories (λ name. unwrap_or (lookup (same_name name) all) no_latest) x
  level_live runs all cut are found =
      by_living all (λ name. no_latest) (λ name. no_latest) refl ∙ ap (λ (level : Name → Latest). level x) (level_next made histories runs holders all cut are found)

  pub end_live : (runs : List (List ℕ)) (name : Name) (before : ℕ) → AreRuns histories runs → AreHolders histories runs holders
      → raised_over histories (ends_before before) (made name) (λ y. no_latest) (live_at live holders name) x ≡ next_latest made histories (latest_end name before) x
  end_live runs name before cut are =
      over_living live histories (ends_before before) (made name) x lives (held_at holders name) (λ y. no_latest) (λ y. no_latest) refl
      ∙ ap (λ (level : Name → Latest). level x) (end_next made histories runs holders name before cut are)

-- ---- where the rest cannot be made

never_good : (to : Arrived) → is_good to no_latest ≡ false
never_good to = ap (λ (b : Bool). (to.modify && b) || (to.unconf && b)) (never to.moment) ∙ by to.modify to.unconf
  where
    by : (a b : Bool) → ((a && false) || (b && false)) ≡ false
    by true true = refl
    by true false = refl
    by false true = refl
    by false false = refl

no_entry : (from : Arrived) (span : Span) → entry_onward from span no_latest ≡ None
no_entry from span =
    ap (λ (b : Bool). cond (from.unconf && (nat_lt (later from.moment span.from) span.until && b)) (Some made) None)
    (never_good (arrived_by (later from.moment span.from) span.cap))
    ∙ by from.unconf (nat_lt (later from.moment span.from) span.until)
  where
    made : Onward
    made = record { hop = hop_by.Entry span.index (later from.moment span.from); to = arrived_by (later from.moment span.from) span.cap }

    by : (a b : Bool) → cond (a && (b && false)) (Some made) None ≡ None
    by true true = refl
    by true false = refl
    by false b = refl

no_handed : (from : Arrived) (span : Span) (made_so : Bool) → handed_onward from span no_latest made_so ≡ None
no_handed from span made_so =
    ap (λ (b : Bool). cond (from.modify && (made_so && (nat_lt (later from.moment span.from) span.until && b))) (Some made) None)
    (never_good (arrived_whole (later from.moment span.from) span.cap))
    ∙ by from.modify made_so (nat_lt (later from.moment span.from) span.until)
  where
    made : Onward
    made = record { hop = hop_by.Handed span.index (later from.moment span.from); to = arrived_whole (later from.moment span.from) span.cap }

    by : (a b c : Bool) → cond (a && (b && (c && false))) (Some made) None ≡ None
    by true true true = refl
    by true true false = refl
    by true false c = refl
    by false b c = refl

pub none_onward : (made : Name → Bool) (level : Name → Latest) (from : Arrived) (span : Span) (latest : Latest) → latest ≡ level span.cap.name → latest.modify ≡ 0
    → latest.unconf ≡ 0 → None ≡ onward_over made level from span
none_onward made level from span latest e m u =
    sym
    (ap (λ (l : Latest). earlier (entry_onward from span l) (handed_onward from span l (made span.cap.name))) (sym e ∙ latest_none latest m u)
    ∙ ap (λ (o : Option Onward). earlier o (handed_onward from span no_latest (made span.cap.name))) (no_entry from span)
    ∙ ap (λ (o : Option Onward). earlier None o) (no_handed from span (made span.cap.name)))
