-- No hop is gone over that would be made when the way has to have come.
use Rattle.std.proofs.Common.{◌≡◌, ℕ, ◌≤◌, List, [], ◌∷◌, Bool, true, false, Option, Some, None, refl, sym, ◌∙◌, ap, arith, cond, slice_get}
use Rattle.std.specs.Prelude.{◌==◌, ◌&&◌, ◌||◌, nat_lt}
use Rattle.std.specs.List.{AllByRecursion}
use Rattle.std.proofs.lemmas.Bool.{le-ltb}
use Rattle.hk_rights.specs.Rights.{has, modify_right, unconf_right}
use Rattle.hk_model.specs.declared.names.Name.{Name}
use Rattle.hk_model.specs.declared.reaches.Hop.TheVariants as hop_by
use Rattle.hk_report.specs.declared.histories.Span.{Span}
use Rattle.hk_report.specs.declared.histories.History.{History}
use Rattle.hk_report.specs.declared.hops.Arrived.{Arrived}
use Rattle.hk_report.specs.declared.hops.Latest.{Latest}
use Rattle.hk_report.specs.declared.hops.Onward.{Onward}
use Rattle.hk_report.specs.Histories.{history_of}
use Rattle.hk_report.specs.Hops.{later, greater, arrived_by, arrived_whole, is_good, entry_onward, handed_onward, earlier, onward_over, IsBy, first_from, handed_bound, ends_before, no_latest, latest_end, next_latest}
use Rattle.hk_report.specs.Holders.{latest_over}
use Rattle.hk_report.specs.Runs.{precedes, IsRun}
use Rattle.hk_report.proofs.Onwards.{later_second}
use Rattle.hk_report.proofs.Raising.{AtMost, none_at_most, both_within, on_within, from_least}
use Rattle.hk_report.proofs.RunHops.{earlier_none}
use Rattle.hk_report.proofs.RunLemmas.{precedes_so}

-- ---- of a level of no hop, and of one

end_by : (end name : Name) (before : ℕ) → IsBy before (latest_end end before name)
end_by end name before = by (name.0 == end.0)
  where
    by : (b : Bool) → IsBy before (cond b (ends_before before) no_latest)
    by true = (omega arith, omega arith)
    by false = (omega arith, omega arith)

over_by : (span : Span) (latest : Latest) (made : Bool) (before : ℕ) → IsBy before latest
    → AtMost (latest_over span latest made) (let l : Latest = record { modify = before; unconf = before } in l)
over_by span latest made before h = record {
  modify = handed made;
  unconf = let a = on_within span (greater either_modify either_unconf) in let b = both_within either_modify either_unconf before (kept _ latest.modify h.0) (kept _ latest.unconf h.1) in omega (arith, a, b);
}
  where
    kept : (b : Bool) (n : ℕ) → n ≤ before → cond b n 0 ≤ before
    kept true n l = l
    kept false n l = omega arith

    either_modify : ℕ
    either_modify = cond (has span.cap.rights modify_right) latest.modify 0

    either_unconf : ℕ
    either_unconf = cond (has span.cap.rights unconf_right) latest.unconf 0

    handed : (m : Bool) → handed_bound span latest m ≤ before
    handed true = let a = on_within span (greater latest.modify latest.unconf) in let b = both_within latest.modify latest.unconf before h.0 h.1 in omega (arith, a, b)
    handed false = omega arith

pub near_by : (made : Name → Bool) (histories : List History) (end : Name) (before : ℕ) (name : Name) → IsBy before (next_latest made histories (latest_end end before) name)
near_by made histories end before name =
    let most =
    from_least made (latest_end end before) (history_of histories name).spans no_latest (record { modify = before; unconf = before })
    (none_at_most (record { modify = before; unconf = before }))
    (λ span g. over_by span (latest_end end before span.cap.name) (made span.cap.name) before (end_by end span.cap.name before)) in
    (most.modify, most.unconf)

pub end_is_by : (end : Name) (before moment : ℕ) (name : Name) → before ≤ moment → IsBy moment (latest_end end before name)
end_is_by end before moment name l =
    let h = end_by end name before in
    let a = h.0 in
    let b = h.1 in
    (omega (arith, a, l), omega (arith, b, l))

pub near_is_by : (made : Name → Bool) (histories : List History) (end : Name) (before moment : ℕ) (name : Name) → before ≤ moment
    → IsBy moment (next_latest made histories (latest_end end before) name)
near_is_by made histories end before moment name l =
    let h = near_by made histories end before name in
    let a = h.0 in
    let b = h.1 in
    (omega (arith, a, l), omega (arith, b, l))

-- ---- of a run

module _ (made : Name → Bool) (level : Name → Latest) (from : Arrived) (moment : ℕ) (low : (name : Name) → IsBy moment (level name)) where
  never : (to : Arrived) (name : Name) → moment ≤ to.moment → is_good to (level name) ≡ false
  never to name l =
      let m = (low name).0 in
      let u = (low name).1 in
      by to.modify to.unconf (nat_lt to.moment (level name).modify) (nat_lt to.moment (level name).unconf) (le-ltb to.moment (level name).modify (omega (arith, l, m)))
      (le-ltb to.moment (level name).unconf (omega (arith, l, u)))
    where
      by : (a b c d : Bool) → c ≡ false → d ≡ false → ((a && c) || (b && d)) ≡ false
      by a b c d e f = ap (λ (x : Bool). (a && x) || (b && d)) e ∙ ap (λ (x : Bool). (a && false) || (b && x)) f ∙ neither a b
        where
          neither : (x y : Bool) → ((x && false) || (y && false)) ≡ false
          neither true true = refl
          neither true false = refl
          neither false true = refl
          neither false false = refl

  pub over_late : (span : Span) → moment ≤ span.from → onward_over made level from span ≡ None
  over_late span l =
      ap (λ (o : Option Onward). earlier o (handed_onward from span (level span.cap.name) (made span.cap.name))) entry
      ∙ hand
    where
      time : ℕ
      time = later from.moment span.from

      late : moment ≤ time
      late = let k = later_second from.moment span.from in omega (arith, k, l)

      here : Onward
      here = record { hop = hop_by.Entry span.index time; to = arrived_by time span.cap }

      there : Onward
      there = record { hop = hop_by.Handed span.index time; to = arrived_whole time span.cap }

      entry : entry_onward from span (level span.cap.name) ≡ None
      entry =
          ap (λ (b : Bool). cond (from.unconf && (nat_lt time span.until && b)) (Some here) None) (never (arrived_by time span.cap) span.cap.name late)
          ∙ by from.unconf (nat_lt time span.until)
        where
          by : (a b : Bool) → cond (a && (b && false)) (Some here) None ≡ None
          by true true = refl
          by true false = refl
          by false b = refl

      hand : handed_onward from span (level span.cap.name) (made span.cap.name) ≡ None
      hand =
          ap (λ (b : Bool). cond (from.modify && (made span.cap.name && (nat_lt time span.until && b))) (Some there) None) (never (arrived_whole time span.cap) span.cap.name late)
          ∙ by from.modify (made span.cap.name) (nat_lt time span.until)
        where
          by : (a b c : Bool) → cond (a && (b && (c && false))) (Some there) None ≡ None
          by true true true = refl
          by true true false = refl
          by true false c = refl
          by false b c = refl

  all_late : (first : Option Onward) (s : Span) (run : List Span) → moment ≤ s.from → AllByRecursion (λ (r : Span). precedes s r ≡ true) run
      → first_from made level from first run ≡ first
  all_late first s [] l h = refl
  all_late first s (r ∷ run) l h =
      let p = precedes_so s r h.0 in
      let a = p.stood in
      let b = p.gone in
      ap (λ (o : Option Onward). first_from made level from (earlier first o) run) (over_late r (omega (arith, a, b, l)))
      ∙ ap (λ (o : Option Onward). first_from made level from o run) (earlier_none first) ∙ all_late first s run l h.1

  pub run_late : (first : Option Onward) (run : List Span) (span : Span) → IsRun run → Some span ≡ slice_get run 0 → moment ≤ span.from → first ≡ first_from made level from first run
  run_late first [] span h e l = absurd (cc)
  run_late first (s ∷ run) span h e l =
      let same : span ≡ s = cc in
      let begins : moment ≤ s.from = let k = ap (λ (x : Span). x.from) same in omega (arith, k, l) in
      sym
      (ap (λ (o : Option Onward). first_from made level from (earlier first o) run) (over_late s begins)
      ∙ ap (λ (o : Option Onward). first_from made level from o run) (earlier_none first) ∙ all_late first s run begins h.0)
