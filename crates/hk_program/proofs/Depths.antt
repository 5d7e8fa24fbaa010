-- How many incarnations each process has after a line.
use Rattle.std.specs.Prelude.{◌≡◌, ℕ, zero, suc, ◌+◌, ◌≤◌, ◌==◌, List, [], ◌∷◌, ◌++◌, length, Bool, true, false, Option, Some, None, not, filter, refl, ◌≢◌, slice_get, slice_set}
use Rattle.std.specs.Map.{remove_entry}
use Rattle.std.proofs.Common.{arith, ap, sym, ◌∙◌, cond}
use Rattle.std.proofs.lemmas.Bool.Decides.{nat_tests}
use Rattle.std.proofs.lemmas.Bool.{true≢false}
use Rattle.std.proofs.lemmas.List.Recursion.{is_count_by}
use Rattle.hk_model.specs.declared.names.Inc.{Inc}
use Rattle.hk_model.specs.declared.lines.Line.{Line}
use Rattle.hk_model.specs.declared.objects.Incarnation.{Incarnation}
use Rattle.hk_model.specs.declared.objects.Process.{Process}
use Rattle.hk_model.specs.State.{State, incarnation, same_inc}
use Rattle.hk_model.specs.Rule.{depth}
use Rattle.hk_model.specs.Lines.{done_call, enters_call, leaves_call}
use Rattle.hk_model.proofs.Activations.{Activation, activations_in, currents_in, look_up}
use Rattle.hk_model.proofs.Turns.{Turn, Still, Enter, Leave, Halt, CurrentAfter}
use Rattle.hk_model.proofs.Standing.{on_cond}
use Rattle.hk_model.proofs.Histories.{Sound}

-- how many of these are of process p
abbrev pub amount : ℕ → List (Inc × Activation) → ℕ
amount p [] = 0
amount p (e ∷ es) = cond (e.1.proc.0 == p) (1 + amount p es) (amount p es)

pub depth_is : (s : State) (p : ℕ) → amount p (activations_in s.incarnations) ≡ depth s (record { 0 = p })
depth_is s p = is_count_by (λ (es : List (Inc × Incarnation)). amount p (activations_in es)) (λ e. e.1.proc.0 == p) refl (λ x xs. refl) s.incarnations

-- one more
pub amount_added : (p : ℕ) (es : List (Inc × Activation)) (n : Inc) (x : Activation) → amount p (es ++ (n, x) ∷ []) ≡ cond (x.proc.0 == p) (1 + amount p es) (amount p es)
amount_added p [] n x = refl
amount_added p (e ∷ es) n x = by (e.1.proc.0 == p) (x.proc.0 == p) (amount_added p es n x)
  where
    by : (b c : Bool) → amount p (es ++ (n, x) ∷ []) ≡ cond c (1 + amount p es) (amount p es)
        → cond b (1 + amount p (es ++ (n, x) ∷ [])) (amount p (es ++ (n, x) ∷ [])) ≡ cond c (1 + cond b (1 + amount p es) (amount p es)) (cond b (1 + amount p es) (amount p es))
    by true true h = ap (λ (k : ℕ). 1 + k) h
    by true false h = ap (λ (k : ℕ). 1 + k) h
    by false true h = h
    by false false h = h

-- one less, or as many
counted_too : (b : Bool) (m n k : ℕ) → m ≤ n + k → cond b (1 + m) m ≤ cond b (1 + n) n + k
counted_too true m n k h = omega arith
counted_too false m n k h = h

counted_once : (b : Bool) (m : ℕ) → cond b (1 + m) m ≤ m + 1
counted_once true m = omega arith
counted_once false m = omega arith

amount_left : (p : ℕ) (k : Inc) (es : List (Inc × Activation)) → amount p es ≤ amount p (remove_entry (same_inc k) es) + 1
amount_left p k [] = omega arith
amount_left p k (e ∷ es) =
    on_cond (λ l. amount p (e ∷ es) ≤ amount p l + 1) (same_inc k e.0) es (e ∷ remove_entry (same_inc k) es)
    (λ h. counted_once (e.1.proc.0 == p) (amount p es))
    (λ h. counted_too (e.1.proc.0 == p) (amount p es) (amount p (remove_entry (same_inc k) es)) 1 (amount_left p k es))

-- as many where what goes is of another process
not_counted : (q p m : ℕ) → (q ≡ p → ⊥) → cond (q == p) (1 + m) m ≡ m
not_counted q p m h = rw (no q p h) refl
  where
    no : (q p : ℕ) → (q ≡ p → ⊥) → (q == p) ≡ false
    no q p h = grind (arith, nat_tests, h)

amount_kept : (p : ℕ) (k : Inc) (es : List (Inc × Activation)) → ((x : Activation) → look_up k es ≡ Some x → x.proc.0 ≡ p → ⊥)
    → amount p es ≤ amount p (remove_entry (same_inc k) es)
amount_kept p k [] h = omega arith
amount_kept p k (e ∷ es) h =
    on_cond (λ l. amount p (e ∷ es) ≤ amount p l) (same_inc k e.0) es (e ∷ remove_entry (same_inc k) es)
    (λ g. let other = h e.1 (rw g refl) in let same = not_counted e.1.proc.0 p (amount p es) other in omega (arith, same))
    (λ g. let rest = amount_kept p k es (λ x f. h x (rw g f)) in
    let more = counted_too (e.1.proc.0 == p) (amount p es) (amount p (remove_entry (same_inc k) es)) 0 (omega (arith, rest)) in omega (arith, more))

-- as many where all of another process go
amount_halted : (p r : ℕ) (es : List (Inc × Activation)) → (p ≡ r → ⊥) → amount p es ≤ amount p (filter (λ (e : Inc × Activation). not (e.1.proc.0 == r)) es)
amount_halted p r [] h = omega arith
amount_halted p r (e ∷ es) h = by (e.1.proc.0 == r) refl (amount_halted p r es h)
  where
    of_it : (q p r : ℕ) → (q == r) ≡ true → (p ≡ r → ⊥) → q ≡ p → ⊥
    of_it q p r e h g = let a : q ≡ r = grind (arith, nat_tests, e) in h (omega arith)

    by : (b : Bool) → (e.1.proc.0 == r) ≡ b → amount p es ≤ amount p (filter (λ (x : Inc × Activation). not (x.1.proc.0 == r)) es)
        → amount p (e ∷ es) ≤ amount p (cond (not b) (e ∷ filter (λ (x : Inc × Activation). not (x.1.proc.0 == r)) es)
        (filter (λ (x : Inc × Activation). not (x.1.proc.0 == r)) es))
    by true g a = let same = not_counted e.1.proc.0 p (amount p es) (of_it e.1.proc.0 p r g h) in omega (arith, same, a)
    by false g a =
        let more = counted_too (e.1.proc.0 == p) (amount p es) (amount p (filter (λ (x : Inc × Activation). not (x.1.proc.0 == r)) es)) 0 (omega (arith, a)) in omega (arith, more)

-- ---- the turn of a line

module _ (s : State) (line : Line) (t : State) (sound : Sound s) where
  now_own : (x : Activation) → slice_get (currents_in s.processes) line.proc.0 ≡ Some line.inc → look_up line.inc (activations_in s.incarnations) ≡ Some x → x.proc.0 ≡ line.proc.0
  now_own x now h = sound.stacked.own line.proc.0 line.inc x now h

  of_lists : (p : ℕ) (k : ℕ) → amount p (activations_in s.incarnations) ≤ amount p (activations_in t.incarnations) + k → depth s (record { 0 = p }) ≤ depth t (record { 0 = p }) + k
  of_lists p k h = let a = depth_is s p in let b = depth_is t p in omega (arith, a, b, h)

  -- every other process has as many as before, at least
  pub others_stand : Turn s line t → (p : ℕ) → (p ≡ line.proc.0 → ⊥) → depth s (record { 0 = p }) ≤ depth t (record { 0 = p }) + 0
  others_stand (Still q e) p other = of_lists p 0 (rw q.activations (omega arith))
  others_stand (Enter e) p other =
      of_lists p 0 (rw (e.activations, amount_added p (activations_in s.incarnations) s.next_inc (record { proc = line.proc; caller = Some line.inc })) (more (line.proc.0 == p)))
    where
      more : (b : Bool) → amount p (activations_in s.incarnations) ≤ cond b (1 + amount p (activations_in s.incarnations)) (amount p (activations_in s.incarnations)) + 0
      more true = omega arith
      more false = omega arith
  others_stand (Leave e) p other =
      of_lists p 0 (rw e.activations (let a = amount_kept p line.inc (activations_in s.incarnations) (λ x h g. other (sym g ∙ now_own x e.now h)) in omega (arith, a)))
  others_stand (Halt e) p other = of_lists p 0 (rw e.activations (let a = amount_halted p line.proc.0 (activations_in s.incarnations) other in omega (arith, a)))

  -- its own has as many where nothing is entered or left
  pub still_stands : Turn s line t → done_call line ≢ None → leaves_call (done_call line) ≡ false → depth s line.proc ≤ depth t line.proc
  still_stands (Still q e) some h = let a = of_lists line.proc.0 0 (rw q.activations (omega arith)) in omega (arith, a)
  still_stands (Enter e) some h =
      let a = of_lists line.proc.0 0 (rw (e.activations, amount_added line.proc.0 (activations_in s.incarnations) s.next_inc (record { proc = line.proc; caller = Some line.inc }))
      (more (line.proc.0 == line.proc.0))) in omega (arith, a)
    where
      more : (b : Bool)
          → amount line.proc.0 (activations_in s.incarnations) ≤ cond b (1 + amount line.proc.0 (activations_in s.incarnations))
          (amount line.proc.0 (activations_in s.incarnations)) + 0
      more true = omega arith
      more false = omega arith
  still_stands (Leave e) some h = absurd (true≢false (sym e.leaves ∙ h))
  still_stands (Halt e) some h = absurd (some e.is)

  -- one more where a procedure is entered
  pub one_entered : Turn s line t → enters_call (done_call line) ≡ true → depth s line.proc + 1 ≤ depth t line.proc
  one_entered (Still q e) h = absurd (true≢false (sym h ∙ e))
  one_entered (Enter e) h =
      let added = amount_added line.proc.0 (activations_in s.incarnations) s.next_inc (record { proc = line.proc; caller = Some line.inc }) in
      let here = rw (self line.proc.0) at added in
      let there : amount line.proc.0 (activations_in t.incarnations) ≡ 1 + amount line.proc.0 (activations_in s.incarnations) = rw e.activations here in
      let a = depth_is s line.proc.0 in let b = depth_is t line.proc.0 in omega (arith, a, b, there)
    where
      self : (n : ℕ) → (n == n) ≡ true
      self n = grind (arith, nat_tests)
  one_entered (Leave e) h = absurd (true≢false (sym h ∙ e.is))
  one_entered (Halt e) h = absurd (true≢false (sym h ∙ ap enters_call e.is))

  -- one less, or as many, where one is left
  pub one_left : Turn s line t → done_call line ≢ None → depth s line.proc ≤ depth t line.proc + 1
  one_left (Still q e) some = let a = of_lists line.proc.0 0 (rw q.activations (omega arith)) in omega (arith, a)
  one_left (Enter e) some = let a = one_entered (Enter e) e.is in omega (arith, a)
  one_left (Leave e) some = of_lists line.proc.0 1 (rw e.activations (amount_left line.proc.0 line.inc (activations_in s.incarnations)))
  one_left (Halt e) some = absurd (some e.is)

-- a turn keeps how many processes there are
pub processes_stand : (s : State) (line : Line) (t : State) → Turn s line t → length t.processes ≡ length s.processes
processes_stand s line t turn = sym (many t.processes) ∙ by turn ∙ many s.processes
  where
    many : (ps : List Process) → length (currents_in ps) ≡ length ps
    many [] = refl
    many (p ∷ ps) = let rest = many ps in omega (arith, rest)

    set : (xs : List Inc) (n : ℕ) (k : Inc) → length (slice_set xs n k) ≡ length xs
    set [] n k = refl
    set (x ∷ xs) zero k = refl
    set (x ∷ xs) (suc n) k = let rest = set xs n k in omega (arith, rest)

    after : (o : Option Inc) → CurrentAfter s line.proc.0 o t.processes → length (currents_in t.processes) ≡ length (currents_in s.processes)
    after None h = ap (λ (l : List Inc). length l) h
    after (Some k) h = ap (λ (l : List Inc). length l) h ∙ set (currents_in s.processes) line.proc.0 k

    by : Turn s line t → length (currents_in t.processes) ≡ length (currents_in s.processes)
    by (Still q e) = ap (λ (l : List Inc). length l) q.currents
    by (Enter e) = ap (λ (l : List Inc). length l) e.currents ∙ set (currents_in s.processes) line.proc.0 s.next_inc
    by (Leave e) = after (incarnation s line.inc).caller e.currents
    by (Halt e) = ap (λ (l : List Inc). length l) e.currents
