-- The histories that a replay has noted tell what has stood in each list.
use Rattle.std.proofs.Common.{◌≡◌, ℕ, suc, ◌+◌, ◌≤◌, List, [], ◌∷◌, length, Bool, true, false, Option, Some, None, refl, sym, ◌∙◌, ap, arith, subst, drop, slice_get}
use Rattle.std.proofs.Common.{option_and_then, option_map}
use Rattle.std.specs.Prelude.{◌==◌, ◌⊎◌, is_some}
use mathlib.Core.Logic.{inl, inr}
use Rattle.std.specs.Option.{unwrap_or}
use Rattle.std.proofs.lemmas.Bool.{true≢false, eqb-true, eq-eqb, cases_lt}
use Rattle.hk_model.specs.declared.names.Name.{Name}
use Rattle.hk_model.specs.declared.entries.Entry.{Entry}
use Rattle.hk_model.specs.declared.calls.Call.{Call}
use Rattle.hk_model.specs.declared.calls.Call.TheVariants as call
use Rattle.hk_model.specs.declared.lines.Line.{Line}
use Rattle.hk_model.specs.declared.objects.Object.{Object}
use Rattle.hk_model.specs.WorldValue.{WorldValue}
use Rattle.hk_model.specs.State.{State, object, no_object}
use Rattle.hk_model.specs.Keeping.{stands}
use Rattle.hk_model.specs.Places.{cap_of, named_by}
use Rattle.hk_model.specs.Running.{Machine, opened, moved, after_lines, machine_at, state_at, AreStepsOf}
use Rattle.hk_model.specs.Lines.{done_call, makes_object, changes_path}
use Rattle.hk_model.specs.Effects.{there, Becomes, Stays, Goes, Changes, IsNew}
use Rattle.hk_model.specs.Reaches.{listed_cap}
use Rattle.hk_model.proofs.Steps.{moved_holds, after_next, line_steps}
use Rattle.hk_model.proofs.CallShown.{ShownIf, shown_each}
use Rattle.hk_model.proofs.KindsStay.{leaves_others, objects_given_at}
use Rattle.hk_report.specs.declared.histories.History.{History}
use Rattle.hk_report.specs.Doings.{doing}
use Rattle.hk_report.specs.Named.{lists_path}
use Rattle.hk_report.specs.Histories.{relisted, no_history, history_of, touched, touched_name, maker_of, noted, opened_below, histories_after, histories_at_end, told_histories}
use Rattle.hk_report.proofs.ListsKept.{KeepsLists, lists_each}
use Rattle.hk_report.proofs.Listed.{changed_named, drop_get, drop_next, take_zero, drop_zero}
use Rattle.hk_report.proofs.HistoryLemmas.{name_is, touched_same, touched_other, opened_beyond, opened_within, ended_history}
use Rattle.hk_report.proofs.Spans.{SpansTell}
use Rattle.hk_report.proofs.Relists.{Listed, past_none, never, touches, IsSame, keeps, tells_all}

-- ---- what a line touches

-- what makes an object changes no list
makes_only : (c : Option Call) → makes_object c ≡ true → lists_path c ≡ None
makes_only (Some (call.Create by into)) h = refl
makes_only (Some (call.Copy of into)) h = refl
makes_only c h = absurd (true≢false (sym h))

pub made_name : (s : State) (line : Line) (t : State) → makes_object (done_call line) ≡ true → touched_name (doing s line t) ≡ Some s.next_name
made_name s line t h =
    ap (λ (o : Option Name). elim o as (λ x. Option Name) [ Some name ↦ Some name | None ↦ (doing s line t).made ])
    (ap (option_map (named_by s line.inc)) (makes_only (done_call line) h))
    ∙ ap (λ (b : Bool). elim b as (λ x. Option Name) [ true ↦ Some s.next_name | false ↦ None ]) h

-- what changes a list is told to change the object
lists_only : (c : Option Call) (path : List ℕ) → lists_path c ≡ Some path → changes_path c ≡ Some path
lists_only (Some (call.Store list at from)) path h = h
lists_only (Some (call.Append list from)) path h = h
lists_only (Some (call.Erase list at)) path h = h
lists_only c path h = absurd (cc)

-- an object is touched, or it stands with the list that it had
touched_or_same : (s : State) (line : Line) (t : State) → ShownIf s line.inc (done_call line) → KeepsLists s line t → (x : Name) → Becomes s line t.objects x
    → (touched_name (doing s line t) ≡ Some x) ⊎ (stands t x ≡ true → (stands s x ≡ true) × ((index : ℕ) → listed_cap t x index ≡ listed_cap s x index))
touched_or_same s line t shown kept x (Stays e) =
    inr (λ standing. (
      ap (λ (o : Option Object). is_some o) (sym e) ∙ standing,
      λ index. ap (λ (o : Option Object). option_and_then cap_of (slice_get (unwrap_or o no_object).entries index)) e,
    ))
touched_or_same s line t shown kept x (Goes before lets opening was gone) = inr (λ standing. absurd (true≢false (sym standing ∙ ap (λ (o : Option Object). is_some o) gone)))
touched_or_same s line t shown kept x (Changes before after change was is kind) = by (lists_path (done_call line)) refl
  where
    by : (o : Option (List ℕ)) → lists_path (done_call line) ≡ o
        → (touched_name (doing s line t) ≡ Some x) ⊎ (stands t x ≡ true → (stands s x ≡ true) × ((index : ℕ) → listed_cap t x index ≡ listed_cap s x index))
    by (Some path) e =
        let named : Some (named_by s line.inc path) ≡ Some x =
        sym (ap (option_map (named_by s line.inc)) (lists_only (done_call line) path e)) ∙ sym (changed_named s line.inc (done_call line) shown) ∙ change in
        inl (ap (λ (o : Option (List ℕ)). elim (option_map (named_by s line.inc) o) as (λ y. Option Name) [ Some name ↦ Some name | None ↦ (doing s line t).made ]) e ∙ named)
    by None e =
        inr (λ standing. (
          ap (λ (o : Option Object). is_some o) was,
          λ index. ap (λ (o : Option Object). option_and_then cap_of (slice_get (unwrap_or o no_object).entries index)) is
              ∙ ap (λ (es : List Entry). option_and_then cap_of (slice_get es index)) (kept e x change before after was is)
              ∙ sym (ap (λ (o : Option Object). option_and_then cap_of (slice_get (unwrap_or o no_object).entries index)) was),
        ))
touched_or_same s line t shown kept x (IsNew new makes is none at kind how) = inl (made_name s line t makes ∙ ap Some (sym is))

module _ (w : WorldValue) (lines : List Line) (steps : AreStepsOf w lines) where
  abbrev at : ℕ → State
  at = state_at w lines

  -- these lines are those from a moment on
  pub record From (n : ℕ) (m : Machine) (rest : List Line) : Type 0 where
    pub machine : machine_at w lines n ≡ m
    pub left : drop n lines ≡ rest

  one_more : (n : ℕ) → n + 1 ≡ suc n
  one_more n = omega arith

  next_machine : (n : ℕ) (m : Machine) (line : Line) (rest : List Line) → From n m (line ∷ rest) → machine_at w lines (n + 1) ≡ moved w m line.cpu
  next_machine n m line rest from =
      ap (machine_at w lines) (one_more n) ∙ after_next w (opened w) lines n line (drop_get n lines line rest from.left) ∙ ap (λ (k : Machine). moved w k line.cpu) from.machine

  pub from_next : (n : ℕ) (m : Machine) (line : Line) (rest : List Line) → From n m (line ∷ rest) → From (n + 1) (moved w m line.cpu) rest
  from_next n m line rest from = record {
    machine = next_machine n m line rest from;
    left = ap (λ (k : ℕ). drop k lines) (one_more n) ∙ drop_next n lines line rest from.left;
  }

  pub from_first : From 0 (opened w) lines
  from_first = record { machine = ap (after_lines w (opened w)) (take_zero lines); left = drop_zero lines }

  module _ (n : ℕ) (m : Machine) (line : Line) (rest : List Line) (from : From n m (line ∷ rest)) where
    is : slice_get lines n ≡ Some line
    is = drop_get n lines line rest from.left

    abbrev t : State
    t = (moved w m line.cpu).state

    behind : at (n + 1) ≡ t
    behind = ap (λ (k : Machine). k.state) (next_machine n m line rest from)

    before : at n ≡ m.state
    before = ap (λ (k : Machine). k.state) from.machine

    shown : ShownIf m.state line.inc (done_call line)
    shown =
        subst (λ (s : State). ShownIf s line.inc (done_call line)) before
        (moved_holds (λ s l u. ShownIf s l.inc (done_call l)) shown_each w (machine_at w lines n) line (line_steps w (opened w) lines n line steps is))

    kept : KeepsLists m.state line t
    kept =
        subst (λ (k : Machine). KeepsLists k.state line (moved w k line.cpu).state) from.machine
        (moved_holds KeepsLists lists_each w (machine_at w lines n) line (line_steps w (opened w) lines n line steps is))

    becomes : (x : Name) → Becomes m.state line t.objects x
    becomes x =
        subst (λ (s : State). Becomes s line t.objects x) before
        (subst (λ (s : State). Becomes (at n) line s.objects x) behind
        (subst (λ (k : ℕ). Becomes (at n) line (at k).objects x) (sym (one_more n)) (leaves_others w lines steps n line is x)))

    same_then : (x : Name) → (touched_name (doing m.state line t) ≡ Some x → ⊥) → stands (at (n + 1)) x ≡ true → IsSame at x n
    same_then x apart standing = by (touched_or_same m.state line t shown kept x (becomes x))
      where
        by : (touched_name (doing m.state line t) ≡ Some x) ⊎ (stands t x ≡ true → (stands m.state x ≡ true) × ((index : ℕ) → listed_cap t x index ≡ listed_cap m.state x index))
            → IsSame at x n
        by (inl e) = absurd (apart e)
        by (inr f) =
            let g = f (ap (λ (s : State). stands s x) (sym behind) ∙ standing) in
            record {
              stood = ap (λ (s : State). stands s x) before ∙ g.0;
              lists = λ index. ap (λ (s : State). listed_cap s x index) behind ∙ g.1 index ∙ ap (λ (s : State). listed_cap s x index) (sym before);
            }

    name_same : {x y : Name} → Some x ≡ Some y → x ≡ y
    name_same h = cc

    line_noted : (hs : List History) (x : Name) → Listed at x n (history_of hs x) → Listed at x (n + 1) (history_of (noted (n + 1) (doing m.state line t) t hs) x)
    line_noted hs x listed = by (touched_name (doing m.state line t)) refl
      where
        by : (o : Option Name) → touched_name (doing m.state line t) ≡ o
            → Listed at x (n + 1) (history_of (elim o as (λ y. List History) [
              | None ↦ hs
              | Some name ↦ touched (n + 1) (maker_of (doing m.state line t)) (object t name).entries name hs
            ]) x)
        by None e = keeps at x n (history_of hs x) listed (same_then x (λ f. none_some (sym e ∙ f)))
          where
            none_some : None ≡ Some x → ⊥
            none_some h = cc
        by (Some name) e = on (x.0 == name.0) refl
          where
            on : (b : Bool) → (x.0 == name.0) ≡ b → Listed at x (n + 1) (history_of (touched (n + 1) (maker_of (doing m.state line t)) (object t name).entries name hs) x)
            on true f =
                let same = name_is x name (eqb-true x.0 name.0 f) in
                subst (λ (y : Name). Listed at x (n + 1) (history_of (touched (n + 1) (maker_of (doing m.state line t)) (object t y).entries y hs) x)) same
                (subst (λ (h : History). Listed at x (n + 1) h) (sym (touched_same (n + 1) (maker_of (doing m.state line t)) (object t x).entries x hs))
                (subst (λ (s : State). Listed at x (n + 1) (relisted (n + 1) (maker_of (doing m.state line t)) (object s x).entries (history_of hs x))) behind
                (touches at x (n + 1) (maker_of (doing m.state line t)) (history_of hs x) listed.past)))
            on false f =
                subst (λ (h : History). Listed at x (n + 1) h) (sym (touched_other (n + 1) (maker_of (doing m.state line t)) (object t name).entries name hs x f))
                (keeps at x n (history_of hs x) listed
                (same_then x (λ g. true≢false (sym (eq-eqb x.0 name.0 (ap (λ (y : Name). y.0) (name_same (sym g ∙ e)))) ∙ f))))

  all_noted : (m : Machine) (rest : List Line) (n : ℕ) (hs : List History) → From n m rest → ((x : Name) → Listed at x n (history_of hs x)) → (x : Name)
      → Listed at x (n + length rest) (history_of (histories_after w n m rest hs) x)
  all_noted m [] n hs from listed x = subst (λ (k : ℕ). Listed at x k (history_of hs x)) (omega arith) (listed x)
  all_noted m (line ∷ rest) n hs from listed x =
      subst (λ (k : ℕ). Listed at x k
      (history_of (histories_after w (n + 1) (moved w m line.cpu) rest (noted (n + 1) (doing m.state line (moved w m line.cpu).state) (moved w m line.cpu).state hs)) x))
      (omega arith)
      (all_noted (moved w m line.cpu) rest (n + 1) (noted (n + 1) (doing m.state line (moved w m line.cpu).state) (moved w m line.cpu).state hs) (from_next n m line rest from)
      (λ y. line_noted n m line rest from hs y (listed y)) x)

  first_state : at 0 ≡ (opened w).state
  first_state = ap (λ (m : Machine). m.state) from_first.machine

  none_beyond : (x : Name) → (opened w).state.next_name.0 ≤ x.0 → stands (at 0) x ≡ false
  none_beyond x l = by (there (at 0).objects x) refl
    where
      by : (o : Option Object) → there (at 0).objects x ≡ o → is_some o ≡ false
      by None e = refl
      by (Some o) e =
          let given = objects_given_at w lines 0 steps x o e in
          let number = ap (λ (s : State). s.next_name.0) first_state in
          absurd (omega (arith, l, given, number))

  opening_noted : (x : Name) → Listed at x 0 (history_of (opened_below (opened w).state (opened w).state.next_name.0) x)
  opening_noted x = elim (cases_lt x.0 (opened w).state.next_name.0) [
    | inl l ↦ subst (λ (h : History). Listed at x 0 h) (sym (opened_within (opened w).state (opened w).state.next_name.0 x l))
        (subst (λ (s : State). Listed at x 0 (relisted 0 None (object s x).entries no_history)) first_state (touches at x 0 None no_history (past_none at x)))
    | inr l ↦ subst (λ (h : History). Listed at x 0 h) (sym (opened_beyond (opened w).state (opened w).state.next_name.0 x l)) (never at x (none_beyond x l))
  ]

  listed_at_end : (x : Name) → Listed at x (length lines) (history_of (histories_at_end w lines) x)
  listed_at_end x =
      subst (λ (k : ℕ). Listed at x k (history_of (histories_at_end w lines) x)) (omega arith)
      (all_noted (opened w) lines 0 (opened_below (opened w).state (opened w).state.next_name.0) from_first opening_noted x)

  pub spans_told : (x : Name) → SpansTell at (length lines) x (history_of (told_histories w lines) x).spans
  spans_told x = elim (ended_history (length lines + 1) (histories_at_end w lines) x) [
    | inl e ↦ subst (λ (h : History). SpansTell at (length lines) x h.spans) (sym e) (tells_all at x (length lines) (history_of (histories_at_end w lines) x) (listed_at_end x))
    | inr e ↦ subst (λ (h : History). SpansTell at (length lines) x h.spans) (sym e.1)
        (tells_all at x (length lines) no_history (subst (λ (h : History). Listed at x (length lines) h) e.0 (listed_at_end x)))
  ]
