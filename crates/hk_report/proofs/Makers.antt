-- Who made each object: it was made under a call exactly where its maker is under the call.
use Rattle.std.proofs.Common.{◌≡◌, ℕ, zero, suc, ◌+◌, ◌<◌, ◌≤◌, List, [], ◌∷◌, ◌++◌, length, map, Bool, true, false, Option, Some, None}
use Rattle.std.proofs.Common.{refl, sym, ◌∙◌, ap, arith, cond, subst, take, drop}
use Rattle.std.specs.Prelude.{◌==◌, ◌&&◌, ◌||◌, ◌⊎◌, IsTrue, filter, slice_index_or, replicate}
use mathlib.Core.Logic.{inl, inr}
use Rattle.std.specs.Cmp.{first_so, second_so}
use Rattle.std.proofs.lemmas.Bool.{true≢false, false≢true, false_from_ne_true, eqb-true, eqb-false, eq-eqb}
use Rattle.hk_model.specs.declared.names.Name.{Name}
use Rattle.hk_model.specs.declared.names.Inc.{Inc}
use Rattle.hk_model.specs.declared.entries.Entry.{Entry}
use Rattle.hk_model.specs.declared.entries.Entry.TheVariants.{Form}
use Rattle.hk_model.specs.declared.entries.Template.TheVariants as template
use Rattle.hk_model.specs.declared.calls.Call.{Call}
use Rattle.hk_model.specs.declared.calls.Call.TheVariants as call
use Rattle.hk_model.specs.declared.lines.Line.{Line}
use Rattle.hk_model.specs.WorldValue.{WorldValue}
use Rattle.hk_model.specs.State.{State, object, same_name}
use Rattle.hk_model.specs.Running.{Machine, opened, moved, after_lines, machine_at, state_at, AreSteps, AreStepsOf}
use Rattle.hk_model.specs.Lines.{done_call, makes_object, enters_call, told}
use Rattle.hk_model.specs.Under.{is_one_of, is_live, is_under, made_by, is_made_under, IsCall}
use Rattle.hk_model.specs.Changes.{Beginning, confined_calls}
use Rattle.hk_model.proofs.Standing.{name_same, name_laws}
use Rattle.hk_model.proofs.Steps.{moved_holds, told_last, first_steps}
use Rattle.hk_model.proofs.NextNames.{next_up, next_made}
use Rattle.hk_model.proofs.CallShown.{ShownIf, shown_each}
use Rattle.hk_model.proofs.Turns.{walks_live}
use Rattle.hk_model.proofs.Members.{Has}
use Rattle.hk_model.proofs.NamesStand.{All}
use Rattle.hk_model.proofs.Histories.{Sound, LineKnown, known_each}
use Rattle.hk_confine.proofs.Settling.{is_among, turn_up}
use Rattle.hk_confine.proofs.Begins.{earlier_out}
use Rattle.hk_report.specs.declared.families.Begun.{Begun}
use Rattle.hk_report.specs.declared.histories.History.{History}
use Rattle.hk_report.specs.Doings.{doing, doings}
use Rattle.hk_report.specs.Families.{told_call, families_after}
use Rattle.hk_report.specs.Histories.{history_of, touched, touched_name, maker_of, noted, opened_below, finished_below, histories_after, histories_at_end, told_histories}
use Rattle.hk_report.specs.Hops.{same_begun, has_begun, is_made}
use Rattle.hk_report.proofs.Followed.{Followed, calls_of, calls_with}
use Rattle.hk_report.proofs.Listed.{live_numbered, opened_sound, families_end}
use Rattle.hk_report.proofs.HistoryLemmas.{name_is, touched_same, touched_other}
use Rattle.hk_report.proofs.Replays.{made_name}

-- ---- who is noted as the maker

abbrev pub maker_in : List History → Name → Option Inc
maker_in hs x = (history_of hs x).maker

-- a line that makes none leaves all makers
maker_left : (n : ℕ) (entries : List Entry) (name : Name) (hs : List History) (x : Name) → maker_in (touched n None entries name hs) x ≡ maker_in hs x
maker_left n entries name hs x = by (x.0 == name.0) refl
  where
    by : (b : Bool) → (x.0 == name.0) ≡ b → maker_in (touched n None entries name hs) x ≡ maker_in hs x
    by true e =
        let same = name_is x name (eqb-true x.0 name.0 e) in
        subst (λ (y : Name). maker_in (touched n None entries name hs) y ≡ maker_in hs y) (sym same) (ap (λ (h : History). h.maker) (touched_same n None entries name hs))
    by false e = ap (λ (h : History). h.maker) (touched_other n None entries name hs x e)

-- one that makes an object is its maker
maker_new : (n : ℕ) (inc : Inc) (entries : List Entry) (name : Name) (hs : List History) (x : Name)
    → maker_in (touched n (Some inc) entries name hs) x ≡ elim (x.0 == name.0) [ true ↦ Some inc | false ↦ maker_in hs x ]
maker_new n inc entries name hs x = by (x.0 == name.0) refl
  where
    by : (b : Bool) → (x.0 == name.0) ≡ b → maker_in (touched n (Some inc) entries name hs) x ≡ elim b [ true ↦ Some inc | false ↦ maker_in hs x ]
    by true e =
        let same = name_is x name (eqb-true x.0 name.0 e) in
        ap (maker_in (touched n (Some inc) entries name hs)) same ∙ ap (λ (h : History). h.maker) (touched_same n (Some inc) entries name hs)
    by false e = ap (λ (h : History). h.maker) (touched_other n (Some inc) entries name hs x e)

module _ (s : State) (line : Line) (t : State) (n : ℕ) (hs : List History) where
  abbrev next_noted : List History
  next_noted = noted n (doing s line t) t hs

  noted_none : makes_object (done_call line) ≡ false → (x : Name) → maker_in next_noted x ≡ maker_in hs x
  noted_none e x = ap (λ (m : Option Inc). maker_in (by_maker (touched_name (doing s line t)) m) x) none ∙ by (touched_name (doing s line t))
    where
      by_maker : Option Name → Option Inc → List History
      by_maker o m = elim o [ None ↦ hs | Some name ↦ touched n m (object t name).entries name hs ]

      none : maker_of (doing s line t) ≡ None
      none =
          ap (λ (b : Bool). elim (elim b as (λ y. Option Name) [ true ↦ Some s.next_name | false ↦ None ]) as (λ y. Option Inc) [ Some name ↦ Some line.inc | None ↦ None ]) e

      by : (o : Option Name) → maker_in (elim o as (λ y. List History) [ None ↦ hs | Some name ↦ touched n None (object t name).entries name hs ]) x ≡ maker_in hs x
      by None = refl
      by (Some name) = maker_left n (object t name).entries name hs x

  noted_made : makes_object (done_call line) ≡ true → (x : Name) → maker_in next_noted x ≡ elim (x.0 == s.next_name.0) [ true ↦ Some line.inc | false ↦ maker_in hs x ]
  noted_made e x =
      ap (λ (m : Option Inc). maker_in (by_maker (touched_name (doing s line t)) m) x) some
      ∙ ap (λ (o : Option Name). maker_in (by_maker o (Some line.inc)) x) (made_name s line t e)
      ∙ maker_new n line.inc (object t s.next_name).entries s.next_name hs x
    where
      by_maker : Option Name → Option Inc → List History
      by_maker o m = elim o [ None ↦ hs | Some name ↦ touched n m (object t name).entries name hs ]

      some : maker_of (doing s line t) ≡ Some line.inc
      some =
          ap (λ (b : Bool). elim (elim b as (λ y. Option Name) [ true ↦ Some s.next_name | false ↦ None ]) as (λ y. Option Inc) [ Some name ↦ Some line.inc | None ↦ None ]) e

-- ---- makers have numbers

maker_lives : (s : State) (inc : Inc) (c : Option Call) → ShownIf s inc c → makes_object c ≡ true → IsTrue (is_live s inc)
maker_lives s inc (Some (call.Create by into)) h e = walks_live s inc by (Form (template.Create h.of h.give)) h.leads
maker_lives s inc (Some (call.Copy of into)) h e = walks_live s inc of _ h.is.leads
maker_lives s inc c h e = absurd (true≢false (sym e))

abbrev AreNumbered : State → List History → Type 0
AreNumbered s hs = (x : Name) (inc : Inc) → maker_in hs x ≡ Some inc → inc.0 < s.next_inc.0

inc_same : {a b : Inc} → Some a ≡ Some b → a ≡ b
inc_same h = cc

numbered_line : (s : State) (line : Line) (t : State) (n : ℕ) (hs : List History) → ShownIf s line.inc (done_call line) → Sound s → LineKnown s line t → AreNumbered s hs
    → AreNumbered t (noted n (doing s line t) t hs)
numbered_line s line t n hs shown sound known numbered x inc h = by (makes_object (done_call line)) refl
  where
    up : s.next_inc.0 ≤ t.next_inc.0
    up = turn_up s line t known.turn

    old : maker_in hs x ≡ Some inc → inc.0 < t.next_inc.0
    old g = let a = numbered x inc g in let b = up in omega (arith, a, b)

    by : (b : Bool) → makes_object (done_call line) ≡ b → inc.0 < t.next_inc.0
    by false e = old (sym (noted_none s line t n hs e x) ∙ h)
    by true e = on (x.0 == s.next_name.0) (sym (noted_made s line t n hs e x) ∙ h)
      where
        on : (b : Bool) → elim b as (λ y. Option Inc) [ true ↦ Some line.inc | false ↦ maker_in hs x ] ≡ Some inc → inc.0 < t.next_inc.0
        on false g = old g
        on true g =
            let a = live_numbered s line.inc sound (maker_lives s line.inc (done_call line) shown e) in
            let b = up in
            let c = ap (λ (i : Inc). i.0) (inc_same g) in
            omega (arith, a, b, c)

shown_now : (w : WorldValue) (m : Machine) (line : Line) (rest : List Line) → AreSteps w m (line ∷ rest) → ShownIf m.state line.inc (done_call line)
shown_now w m line rest steps = moved_holds (λ s l t. ShownIf s l.inc (done_call l)) shown_each w m line steps.0

known_now : (w : WorldValue) (m : Machine) (line : Line) (rest : List Line) → AreSteps w m (line ∷ rest) → Sound m.state → LineKnown m.state line (moved w m line.cpu).state
known_now w m line rest steps sound = moved_holds (λ s l t. Sound s → LineKnown s l t) known_each w m line steps.0 sound

numbered_all : (w : WorldValue) (m : Machine) (rest : List Line) (n : ℕ) (hs : List History) → AreSteps w m rest → Sound m.state → AreNumbered m.state hs
    → AreNumbered (after_lines w m rest).state (histories_after w n m rest hs)
numbered_all w m [] n hs steps sound numbered = numbered
numbered_all w m (line ∷ rest) n hs steps sound numbered =
    let known = known_now w m line rest steps sound in
    numbered_all w (moved w m line.cpu) rest (n + 1) (noted (n + 1) (doing m.state line (moved w m line.cpu).state) (moved w m line.cpu).state hs) steps.1 known.after
    (numbered_line m.state line (moved w m line.cpu).state (n + 1) hs (shown_now w m line rest steps) sound known numbered)

-- no maker is noted of what stands at the opening
opened_makers : (s : State) (n : ℕ) (x : Name) → maker_in (opened_below s n) x ≡ None
opened_makers s zero x = refl
opened_makers s (suc n) x = maker_left 0 (object s (record { 0 = n })).entries (record { 0 = n }) (opened_below s n) x ∙ opened_makers s n x

ended_makers : (moment : ℕ) (hs : List History) (x : Name) (o : Option Inc) → maker_in (finished_below moment (length hs) hs) x ≡ o → maker_in hs x ≡ o
ended_makers moment hs x o h = left moment (length hs) x ∙ h
  where
    left : (moment n : ℕ) (x : Name) → maker_in hs x ≡ maker_in (finished_below moment n hs) x
    left moment zero x = refl
    left moment (suc n) x = left moment n x ∙ sym (maker_left moment [] (record { 0 = n }) (finished_below moment n hs) x)

-- ---- what was made under a call

module _ (under : Inc → Bool) where
  abbrev made_so : Option Inc → Bool
  made_so o = elim o [ None ↦ false | Some inc ↦ under inc ]

  record AreMade (s : State) (hs : List History) (names : List Name) : Type 0 where
    same : (x : Name) → is_among x names ≡ made_so (maker_in hs x)
    named : (x : Name) → is_among x names ≡ true → x.0 < s.next_name.0

  any_other : (names : List Name) (x n : Name) → same_name x n ≡ false → is_among x (names ++ n ∷ []) ≡ is_among x names
  any_other [] x n h = ap (λ (b : Bool). b || false) h
  any_other (y ∷ names) x n h = ap (λ (b : Bool). same_name x y || b) (any_other names x n h)

  any_new : (names : List Name) (n : Name) → is_among n (names ++ n ∷ []) ≡ true
  any_new [] n = ap (λ (b : Bool). b || false) (name_laws.refl n)
  any_new (y ∷ names) n = by (same_name n y) (any_new names n)
    where
      by : (b : Bool) → is_among n (names ++ n ∷ []) ≡ true → (b || is_among n (names ++ n ∷ [])) ≡ true
      by true g = refl
      by false g = g

  apart : (x n : Name) → (x.0 == n.0) ≡ false → same_name x n ≡ false
  apart x n e = false_from_ne_true (same_name x n) (λ g. eqb-false x.0 n.0 e (ap (λ (y : Name). y.0) (name_same x n g)))

  made_line : (s : State) (line : Line) (t : State) (n : ℕ) (hs : List History) (names : List Name) → LineKnown s line t → AreMade s hs names
      → AreMade t (noted n (doing s line t) t hs) (made_by under s line t names)
  made_line s line t n hs names known so = record { same = same; named = named }
    where
      up : s.next_name.0 ≤ t.next_name.0
      up = next_up s (done_call line) t known.next

      same_if : (e : Bool) → makes_object (done_call line) ≡ e → (x : Name)
          → is_among x (elim e as (λ y. List Name) [ true ↦ elim (under line.inc) [ true ↦ names ++ s.next_name ∷ [] | false ↦ names ] | false ↦ names ])
          ≡ made_so (maker_in (noted n (doing s line t) t hs) x)
      same_if false e x = so.same x ∙ ap made_so (sym (noted_none s line t n hs e x))
      same_if true e x = by (x.0 == s.next_name.0) refl ∙ ap made_so (sym (noted_made s line t n hs e x))
        where
          new : (b : Bool) → under line.inc ≡ b → is_among s.next_name (elim b as (λ y. List Name) [ true ↦ names ++ s.next_name ∷ [] | false ↦ names ]) ≡ b
          new true f = any_new names s.next_name
          new false f = false_from_ne_true (is_among s.next_name names) (λ g. let low = so.named s.next_name g in omega (arith, low))

          old : (b : Bool) → (x.0 == s.next_name.0) ≡ false → is_among x (elim b as (λ y. List Name) [ true ↦ names ++ s.next_name ∷ [] | false ↦ names ]) ≡ is_among x names
          old true f = any_other names x s.next_name (apart x s.next_name f)
          old false f = refl

          by : (b : Bool) → (x.0 == s.next_name.0) ≡ b
              → is_among x (elim (under line.inc) as (λ y. List Name) [ true ↦ names ++ s.next_name ∷ [] | false ↦ names ])
              ≡ made_so (elim b as (λ y. Option Inc) [ true ↦ Some line.inc | false ↦ maker_in hs x ])
          by true f =
              let here = name_is x s.next_name (eqb-true x.0 s.next_name.0 f) in
              ap (λ (y : Name). is_among y (elim (under line.inc) as (λ z. List Name) [ true ↦ names ++ s.next_name ∷ [] | false ↦ names ])) here ∙ new (under line.inc) refl
          by false f = old (under line.inc) f ∙ so.same x

      same : (x : Name) → is_among x (made_by under s line t names) ≡ made_so (maker_in (noted n (doing s line t) t hs) x)
      same x = same_if (makes_object (done_call line)) refl x

      named_if : (e : Bool) → makes_object (done_call line) ≡ e → (b : Bool) (x : Name)
          → is_among x (elim e as (λ y. List Name) [ true ↦ elim b [ true ↦ names ++ s.next_name ∷ [] | false ↦ names ] | false ↦ names ]) ≡ true → x.0 < t.next_name.0
      named_if false e b x h = let low = so.named x h in let g = up in omega (arith, low, g)
      named_if true e false x h = let low = so.named x h in let g = up in omega (arith, low, g)
      named_if true e true x h = by (x.0 == s.next_name.0) refl
        where
          by : (b : Bool) → (x.0 == s.next_name.0) ≡ b → x.0 < t.next_name.0
          by true f = let more = next_made s (done_call line) t known.next e in let here = eqb-true x.0 s.next_name.0 f in omega (arith, more, here)
          by false f = let low = so.named x (sym (any_other names x s.next_name (apart x s.next_name f)) ∙ h) in let g = up in omega (arith, low, g)

      named : (x : Name) → is_among x (made_by under s line t names) ≡ true → x.0 < t.next_name.0
      named x h = named_if (makes_object (done_call line)) refl (under line.inc) x h

  made_all : (w : WorldValue) (m : Machine) (rest : List Line) (n : ℕ) (hs : List History) (names : List Name) → AreSteps w m rest → Sound m.state → AreMade m.state hs names
      → AreMade (after_lines w m rest).state (histories_after w n m rest hs) (told (made_by under) w m rest names)
  made_all w m [] n hs names steps sound so = so
  made_all w m (line ∷ rest) n hs names steps sound so =
      let known = known_now w m line rest steps sound in
      made_all w (moved w m line.cpu) rest (n + 1) (noted (n + 1) (doing m.state line (moved w m line.cpu).state) (moved w m line.cpu).state hs)
      (made_by under m.state line (moved w m line.cpu).state names) steps.1 known.after (made_line m.state line (moved w m line.cpu).state (n + 1) hs names known so)

  -- nothing is made under a call by those who are not under it
  numbers_up : (w : WorldValue) (m : Machine) (rest : List Line) → AreSteps w m rest → Sound m.state → m.state.next_inc.0 ≤ (after_lines w m rest).state.next_inc.0
  numbers_up w m [] steps sound = omega arith
  numbers_up w m (line ∷ rest) steps sound =
      let known = known_now w m line rest steps sound in
      let a = turn_up m.state line (moved w m line.cpu).state known.turn in
      let b = numbers_up w (moved w m line.cpu) rest steps.1 known.after in
      omega (arith, a, b)

  none_made : (w : WorldValue) (m : Machine) (rest : List Line) (low : ℕ) → AreSteps w m rest → Sound m.state → (after_lines w m rest).state.next_inc.0 ≤ low
      → ((i : Inc) → i.0 < low → under i ≡ false) → told (made_by under) w m rest [] ≡ []
  none_made w m [] low steps sound up out = refl
  none_made w m (line ∷ rest) low steps sound up out =
      ap (told (made_by under) w (moved w m line.cpu) rest) (by (makes_object (done_call line)) refl) ∙ none_made w (moved w m line.cpu) rest low steps.1 known.after up out
    where
      known : LineKnown m.state line (moved w m line.cpu).state
      known = known_now w m line rest steps sound

      by : (e : Bool) → makes_object (done_call line) ≡ e
          → ◌≡◌ {A = List Name} (elim e [ true ↦ elim (under line.inc) [ true ↦ [] ++ m.state.next_name ∷ [] | false ↦ [] ] | false ↦ [] ]) []
      by false e = refl
      by true e =
          let a = live_numbered m.state line.inc sound (maker_lives m.state line.inc (done_call line) (shown_now w m line rest steps) e) in
          let b = numbers_up w m (line ∷ rest) steps sound in
          let c : line.inc.0 < low = omega (arith, a, b, up) in
          ap (λ (x : Bool). elim x as (λ y. List Name) [ true ↦ [] ++ m.state.next_name ∷ [] | false ↦ [] ]) (out line.inc c)

told_parts : {G : Type 0} (f : State → Line → State → G → G) (w : WorldValue) (m : Machine) (lines : List Line) (k : ℕ) (g : G)
    → told f w m lines g ≡ told f w (after_lines w m (take k lines)) (drop k lines) (told f w m (take k lines) g)
told_parts f w m [] zero g = refl
told_parts f w m [] (suc k) g = refl
told_parts f w m (line ∷ lines) zero g = refl
told_parts f w m (line ∷ lines) (suc k) g = told_parts f w (moved w m line.cpu) lines k (f m.state line (moved w m line.cpu).state g)

-- what enters a procedure makes no object
enters_only : (c : Option Call) → enters_call c ≡ true → makes_object c ≡ false
enters_only (Some (call.Enter path args into)) h = refl
enters_only c h = absurd (true≢false (sym h))

module _ (w : WorldValue) (lines : List Line) (steps : AreStepsOf w lines) where
  abbrev at_end : List History
  at_end = histories_at_end w lines

  -- what was made under a call, by makers
  pub made_under_is : (k : ℕ) (top : Inc) (c : IsCall w lines k top) (x : Name) → is_made_under w lines k top x ≡ made_so (is_under w lines k top) (maker_in at_end x)
  made_under_is k top c x =
      ap (λ (names : List Name). is_among x names)
      (ap (told (made_by under) w (machine_at w lines k) (drop k lines)) (sym before_none) ∙ sym (told_parts (made_by under) w (opened w) lines k []))
      ∙ (made_all under w (opened w) lines 0 (opened_below (opened w).state (opened w).state.next_name.0) [] steps (opened_sound w) first).same x
    where
      under : Inc → Bool
      under = is_under w lines k top

      first : AreMade under (opened w).state (opened_below (opened w).state (opened w).state.next_name.0) []
      first = record {
        same = λ y. ap (made_so under) (sym (opened_makers (opened w).state (opened w).state.next_name.0 y));
        named = λ y h. absurd (false≢true h);
      }

      earlier_none : told (made_by under) w (opened w) (take c.earlier lines) [] ≡ []
      earlier_none =
          none_made under w (opened w) (take c.earlier lines) top.0 (first_steps w (opened w) lines c.earlier steps) (opened_sound w)
          (let same = ap (λ (i : Inc). i.0) c.made in omega (arith, same)) (earlier_out w lines steps k top c)

      before_none : told (made_by under) w (opened w) (take k lines) [] ≡ []
      before_none =
          ap (λ (n : ℕ). told (made_by under) w (opened w) (take n lines) []) c.moment
          ∙ told_last (made_by under) w (opened w) lines c.earlier c.line [] c.is
          ∙ ap (λ (b : Bool). elim b as (λ y. List Name) [
            | true ↦ elim (under c.line.inc) [
              | true ↦ told (made_by under) w (opened w) (take c.earlier lines) [] ++ (state_at w lines c.earlier).next_name ∷ []
              | false ↦ told (made_by under) w (opened w) (take c.earlier lines) []
            ]
            | false ↦ told (made_by under) w (opened w) (take c.earlier lines) []
          ]) (enters_only (done_call c.line) c.enters)
          ∙ earlier_none

  -- ---- who is under a call, by families

  begun_is : (a b : Beginning) → same_begun (told_call a) (told_call b) ≡ true → a ≡ b
  begun_is a b h =
      let calls = eqb-true a.call.0 b.call.0 (first_so (a.call.0 == b.call.0) (a.moment == b.moment) h) in
      let moments = eqb-true a.moment b.moment (second_so (a.call.0 == b.call.0) (a.moment == b.moment) h) in
      λ i. record { call = record { 0 = calls i }; moment = moments i }

  itself : (b : Beginning) → same_begun (told_call b) (told_call b) ≡ true
  itself b = both (b.call.0 == b.call.0) (b.moment == b.moment) (eq-eqb b.call.0 b.call.0 refl) (eq-eqb b.moment b.moment refl)
    where
      both : (p q : Bool) → p ≡ true → q ≡ true → (p && q) ≡ true
      both true true h g = refl
      both true false h g = absurd (true≢false (sym g))
      both false q h g = absurd (true≢false (sym h))

  module _ (inc : Inc) (b : Beginning) where
    abbrev Links : Followed → Type 0
    Links p = (i : Inc) → is_under w lines p.of.moment p.of.call i ≡ is_one_of i p.under

    shows_under : (ps : List Followed) → All Links ps → has_begun (told_call b) (map told_call (calls_with inc ps)) ≡ true → is_under w lines b.moment b.call inc ≡ true
    shows_under [] all h = absurd (false≢true h)
    shows_under (p ∷ ps) all h = by (λ g. shows_under ps all.1 g) (is_one_of inc p.under) refl h
      where
        by : (has_begun (told_call b) (map told_call (calls_with inc ps)) ≡ true → is_under w lines b.moment b.call inc ≡ true) → (x : Bool) → is_one_of inc p.under ≡ x
            → has_begun (told_call b)
            (map told_call (calls_of (cond x (p ∷ filter (λ (q : Followed). is_one_of inc q.under) ps) (filter (λ (q : Followed). is_one_of inc q.under) ps)))) ≡ true
            → is_under w lines b.moment b.call inc ≡ true
        by later false e g = later g
        by later true e g = on (same_begun (told_call b) (told_call p.of)) refl g
          where
            on : (y : Bool) → same_begun (told_call b) (told_call p.of) ≡ y → (y || has_begun (told_call b) (map told_call (calls_with inc ps))) ≡ true
                → is_under w lines b.moment b.call inc ≡ true
            on true f k = subst (λ (c : Beginning). is_under w lines c.moment c.call inc ≡ true) (sym (begun_is b p.of f)) (all.0 inc ∙ e)
            on false f k = later k

    under_shown : (ps : List Followed) → All Links ps → Has (calls_of ps) b → is_under w lines b.moment b.call inc ≡ true
        → has_begun (told_call b) (map told_call (calls_with inc ps)) ≡ true
    under_shown [] all h g = absurd h
    under_shown (p ∷ ps) all h g = by (λ f. under_shown ps all.1 f g) (is_one_of inc p.under) refl h
      where
        more : (y : Bool) → has_begun (told_call b) (map told_call (calls_with inc ps)) ≡ true → (y || has_begun (told_call b) (map told_call (calls_with inc ps))) ≡ true
        more true k = refl
        more false k = k

        by : (Has (calls_of ps) b → has_begun (told_call b) (map told_call (calls_with inc ps)) ≡ true) → (x : Bool) → is_one_of inc p.under ≡ x → (p.of ≡ b) ⊎ Has (calls_of ps) b
            → has_begun (told_call b)
            (map told_call (calls_of (cond x (p ∷ filter (λ (q : Followed). is_one_of inc q.under) ps) (filter (λ (q : Followed). is_one_of inc q.under) ps)))) ≡ true
        by later true e (inl f) =
            ap (λ (y : Bool). y || has_begun (told_call b) (map told_call (calls_with inc ps)))
            (subst (λ (c : Beginning). same_begun (told_call b) (told_call c) ≡ true) (sym f) (itself b))
        by later true e (inr f) = more (same_begun (told_call b) (told_call p.of)) (later f)
        by later false e (inl f) = absurd (true≢false (sym (sym (all.0 inc) ∙ subst (λ (c : Beginning). is_under w lines c.moment c.call inc ≡ true) (sym f) g) ∙ e))
        by later false e (inr f) = later f

  abbrev families : List (List Begun)
  families = families_after 0 (doings w (opened w) lines) (replicate (opened w).state.next_inc.0 [])

  both_ways : (p q : Bool) → (p ≡ true → q ≡ true) → (q ≡ true → p ≡ true) → p ≡ q
  both_ways true true f g = refl
  both_ways false false f g = refl
  both_ways true false f g = absurd (true≢false (sym (f refl)))
  both_ways false true f g = absurd (true≢false (sym (g refl)))

  under_is : (b : Beginning) → Has (confined_calls w lines) b → (inc : Inc) → inc.0 < (after_lines w (opened w) lines).state.next_inc.0
      → has_begun (told_call b) (slice_index_or families inc.0 []) ≡ is_under w lines b.moment b.call inc
  under_is b h inc numbered =
      let end = families_end w lines steps in
      ap (has_begun (told_call b)) (end.fits.same inc numbered)
      ∙ both_ways (has_begun (told_call b) (map told_call (calls_with inc end.followed))) (is_under w lines b.moment b.call inc) (shows_under inc b end.followed end.linked)
      (under_shown inc b end.followed end.linked (subst (λ (calls : List Beginning). Has calls b) (sym end.all) h))

  -- the test of the search is that of the definitions
  pub made_is : (b : Beginning) → Has (confined_calls w lines) b → IsCall w lines b.moment b.call → (x : Name)
      → is_made families (told_call b) (told_histories w lines) x ≡ is_made_under w lines b.moment b.call x
  made_is b h c x = by (maker_in (told_histories w lines) x) refl ∙ sym (made_under_is b.moment b.call c x)
    where
      end_maker : (o : Option Inc) → maker_in (told_histories w lines) x ≡ o → maker_in at_end x ≡ o
      end_maker o e = ended_makers (length lines + 1) at_end x o e

      numbered : AreNumbered (after_lines w (opened w) lines).state at_end
      numbered =
          numbered_all w (opened w) lines 0 (opened_below (opened w).state (opened w).state.next_name.0) steps (opened_sound w)
          (λ y inc g. absurd (none_some inc (sym (opened_makers (opened w).state (opened w).state.next_name.0 y) ∙ g)))
        where
          none_some : (inc : Inc) → None ≡ Some inc → ⊥
          none_some inc h = cc

      by : (o : Option Inc) → maker_in (told_histories w lines) x ≡ o
          → elim o as (λ y. Bool) [ None ↦ false | Some inc ↦ has_begun (told_call b) (slice_index_or families inc.0 []) ]
          ≡ made_so (is_under w lines b.moment b.call) (maker_in at_end x)
      by None e = ap (made_so (is_under w lines b.moment b.call)) (sym (end_maker None e))
      by (Some inc) e =
          under_is b h inc (numbered x inc (end_maker (Some inc) e)) ∙ ap (made_so (is_under w lines b.moment b.call)) (sym (end_maker (Some inc) e))
