-- The columns for which the list of an object has ENV, found entry by entry and process by process.
use Rattle.std.proofs.Common.{◌≡◌, ◌∙◌, ℕ, zero, suc, ◌+◌, ◌<◌, ◌≤◌, List, [], ◌∷◌, ◌++◌, length, Bool, true, false, Option, Some, None, refl, sym, ap, subst, arith}
use Rattle.std.specs.Prelude.{IsTrue, slice_get, if◌then◌else◌}
use mathlib.Core.Logic.{inl, inr}
use Rattle.std.proofs.lemmas.Bool.{true≢false}
use Rattle.hk_rights.specs.Rights.{has, env_right}
use Rattle.hk_model.specs.WorldValue.{WorldValue}
use Rattle.hk_model.specs.declared.entries.Entry.{Entry}
use Rattle.hk_bound.specs.declared.forms.Form.{Form}
use Rattle.hk_bound.specs.Taking.{type_of}
use Rattle.hk_bound.specs.Each.{Each, EachBelow, Among}
use Rattle.hk_bound.specs.Columns.{name_at, cell, opening_entries}
use Rattle.hk_bound.specs.Rules.{IsHeld, OpensWithEnv, StoredWithEnv, stores_in}
use Rattle.hk_bound.specs.Copies.{added, IsEnvColumn, AreOpened, storer_in, AreStorers, SomeHasEnv}
use Rattle.hk_bound.proofs.EachLemmas.{each_more, each_none, each_all, each_weaker, below_or_last}
use Rattle.hk_bound.proofs.Exact.{push_keeps, push_last}
use Rattle.hk_bound.proofs.Filling.{last_or}

nowhere : (k x : ℕ) → slice_get [] k ≡ Some x → ⊥
nowhere zero x at = absurd (cc)
nowhere (suc k) x at = absurd (cc)

among_more : (xs : List ℕ) (y x : ℕ) → Among xs x → Among (xs ++ y ∷ []) x
among_more xs y x a = record { place = a.place; is = push_keeps xs y x a.place a.is }

among_last : (xs : List ℕ) (y : ℕ) → Among (xs ++ y ∷ []) y
among_last xs y = record { place = length xs; is = push_last xs y }

all_and_last : (P : ℕ → Type 0) (xs : List ℕ) (y : ℕ) → Each P xs → P y → Each P (xs ++ y ∷ [])
all_and_last P xs y all here k x at = elim (last_or xs y x k at) [ inl before ↦ all k x before | inr same ↦ subst P same here ]

module _ (w : WorldValue) (forms : List Form) (name : ℕ) where
  -- what an entry has with ENV is among these columns
  abbrev pub Finds : List ℕ → Entry → Type 0
  Finds columns e = (column rights : ℕ) → IsHeld w forms e column rights → IsTrue (has rights env_right) → Among columns column

  -- the columns of the first entries
  pub record Opening (entries : List Entry) (n : ℕ) (columns : List ℕ) : Type 0 where
    pub sound : Each (OpensWithEnv w forms name) columns
    pub all : EachBelow n (Finds columns) entries

  pub opening_none : (entries : List Entry) (columns : List ℕ) → columns ≡ [] → Opening entries 0 columns
  opening_none entries columns e = subst (Opening entries 0) (sym e) (record { sound = λ k x at. absurd (nowhere k x at); all = each_none (Finds []) entries })

  pub opening_more : (entries : List Entry) (n : ℕ) (e : Entry) (found : Option ℕ) (columns after : List ℕ) → entries ≡ opening_entries w name → slice_get entries n ≡ Some e
      → IsEnvColumn w forms e found → after ≡ added columns found → Opening entries n columns → Opening entries (n + 1) after
  opening_more entries n e None columns after same at is more h = subst (Opening entries (n + 1)) (sym more) (record {
    sound = h.sound;
    all = each_more (Finds columns) entries n e h.all at (λ column rights held env. absurd (is column rights held env));
  })
  opening_more entries n e (Some new) columns after same at is more h = subst (Opening entries (n + 1)) (sym more) (record {
    sound = all_and_last (OpensWithEnv w forms name) columns new h.sound
        (record { index = n; item = e; rights = is.0.0; at = subst (λ (es : List Entry). slice_get es n ≡ Some e) same at; held = is.0.1; env = is.0.2 });
    all = each_more (Finds (columns ++ new ∷ [])) entries n e
        (each_weaker (Finds columns) (Finds (columns ++ new ∷ [])) entries n (λ f finds column rights held env. among_more columns new column (finds column rights held env)) h.all)
        at (λ column rights held env. subst (Among (columns ++ new ∷ [])) (sym (is.1 column rights held env)) (among_last columns new));
  })

  pub opening_all : (entries : List Entry) (n : ℕ) (columns : List ℕ) → entries ≡ opening_entries w name → length entries ≤ n → Opening entries n columns
      → AreOpened w forms name columns
  opening_all entries n columns same end h = record {
    sound = h.sound;
    all = subst (λ (es : List Entry). Each (Finds columns) es) same (each_all (Finds columns) entries n h.all end);
  }

module _ (w : WorldValue) (rows : List (List (Option ℕ))) (name : ℕ) where
  -- the process stores into the list
  abbrev pub Stores : ℕ → Type 0
  Stores q = stores_in (type_of w (name_at name)) (cell rows q name) ≡ true

  -- those of the first processes that do
  pub record Storers (n : ℕ) (processes : List ℕ) : Type 0 where
    pub sound : Each (λ q. (q < length w.tasks) × Stores q) processes
    pub all : (q : ℕ) → q < n → Stores q → Among processes q

  pub storers_none : (processes : List ℕ) → processes ≡ [] → Storers 0 processes
  storers_none processes e =
      subst (Storers 0) (sym e) (record { sound = λ k x at. absurd (nowhere k x at); all = λ q low is. absurd (omega (arith, low)) })

  pub storers_more : (n : ℕ) (processes after : List ℕ) → n < length w.tasks → after ≡ added processes (storer_in (type_of w (name_at name)) rows name n) → Storers n processes
      → Storers (n + 1) after
  storers_more n processes after runs more h = by (stores_in (type_of w (name_at name)) (cell rows n name)) refl more
    where
      by : (b : Bool) → stores_in (type_of w (name_at name)) (cell rows n name) ≡ b → after ≡ added processes (if b then Some n else None) → Storers (n + 1) after
      by false is e = subst (Storers (n + 1)) (sym e) (record {
        sound = h.sound;
        all = λ q low stores. elim (below_or_last q n low) [
          | inl less ↦ h.all q less stores
          | inr same ↦ absurd (true≢false (sym stores ∙ (ap (λ (k : ℕ). stores_in (type_of w (name_at name)) (cell rows k name)) same ∙ is)))
        ];
      })
      by true is e = subst (Storers (n + 1)) (sym e) (record {
        sound = all_and_last (λ q. (q < length w.tasks) × Stores q) processes n h.sound (runs, is);
        all = λ q low stores. elim (below_or_last q n low) [
          | inl less ↦ among_more processes n q (h.all q less stores)
          | inr same ↦ subst (Among (processes ++ n ∷ [])) (sym same) (among_last processes n)
        ];
      })

  pub storers_all : (n : ℕ) (processes : List ℕ) → length w.tasks ≤ n → Storers n processes → AreStorers w rows name processes
  storers_all n processes end h = record { sound = h.sound; all = λ q low stores. h.all q (omega (arith, low, end)) stores }

module _ (w : WorldValue) (forms : List Form) (rows : List (List (Option ℕ))) (name column : ℕ) (opened storers : List ℕ) where
  pub opens : AreOpened w forms name opened → Among opened column → OpensWithEnv w forms name column
  opens are a = are.sound a.place column a.is

  pub opened_among : AreOpened w forms name opened → OpensWithEnv w forms name column → Among opened column
  opened_among are o = are.all o.index o.item o.at column o.rights o.held o.env

  pub stored : AreStorers w rows name storers → SomeHasEnv rows storers column → StoredWithEnv w rows name column
  stored are s = let q = are.sound s.among.place s.process s.among.is in record { process = s.process; runs = q.0; stores = q.1; env = s.env }

  pub stored_has : AreStorers w rows name storers → StoredWithEnv w rows name column → SomeHasEnv rows storers column
  stored_has are s = record { process = s.process; among = are.all s.process s.runs s.stores; env = s.env }
