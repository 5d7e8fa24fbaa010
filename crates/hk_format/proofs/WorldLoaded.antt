-- What is loaded from the items of a script is a world that can be run.
use Rattle.std.proofs.Common.{◌≡◌, ℕ, ◌+◌, ◌<◌, ◌≤◌, false, leb, ltb, List, [], ◌∷◌, ◌++◌, length, refl, sym, ap, ◌∙◌, subst, arith, Ok, Err, Result}
use Rattle.std.specs.List.{AllByRecursion}
use Rattle.std.proofs.lemmas.Bool.{ltb-true, leb-true, false≢true}
use Rattle.std.proofs.lemmas.List.{length-append}
use Rattle.hk_format.specs.declared.syntax.Head.{Head}
use Rattle.hk_format.specs.declared.syntax.Head.TheVariants.{LimitIs, TypeIs, ObjectIs, SemaphoreIs, ProcedureIs, CodeIs, ProcessIs}
use Rattle.hk_format.specs.declared.syntax.Body.{Body}
use Rattle.hk_format.specs.declared.syntax.Body.TheVariants.{WordsAre, EmptyEntry, CapEntry, AmplifyEntry, CreateEntry, ParamIs, LabelIs, StepIs}
use Rattle.hk_format.specs.declared.syntax.Part.{Part}
use Rattle.hk_format.specs.declared.causes.LoadCause.{LoadCause}
use Rattle.hk_model.specs.WorldValue.{WorldValue, IsEntry, IsParam, IsWord32}
use Rattle.hk_format.specs.Syntax.{Belongs, AreParts, IsWordsLine}
use Rattle.hk_format.specs.Grammar.{noted_label}
use Rattle.hk_format.specs.Names.{Names}
use Rattle.hk_format.specs.Loading.{Refused, limited, permitted, onto, entry_meant, param_of, Contents, contents, more_words, one_param, one_entry, Used, used, Room, contents_of}
use Rattle.hk_format.specs.Loading.{content_onto, at_line}
use Rattle.hk_format.proofs.LoadGood.{onto_ok, limited_ok, permitted_ok, moved, NamesFit, entry_loaded, param_loaded}

-- the lines of an object, a procedure or a process

all_both : {X : Type 0} (P : X → Type 0) (xs ys : List X) → AllByRecursion P xs → AllByRecursion P ys → AllByRecursion P (xs ++ ys)
all_both P [] ys h k = k
all_both P (x ∷ xs) ys h k = (h.0, all_both P xs ys h.1 k)

-- the words of a line, if it is one of words, have 32 bits
pub WordsIn : Body → Type 0
WordsIn (WordsAre words) = AllByRecursion IsWord32 words
WordsIn _ = Unit {0}

-- what lines give within this room, behind lines that have given so many
pub record ContentsLoaded (w : WorldValue) (r : Room) (u : Used) (c : Contents) : Type 0 where
  pub few_words : u.words + length c.words ≤ 4096
  pub words : AllByRecursion IsWord32 c.words
  pub few_params : u.params + length c.params ≤ 8
  pub params : AllByRecursion (IsParam w) c.params
  pub few_entries : u.entries + length c.entries ≤ r.entries
  pub entries : AllByRecursion (IsEntry w) c.entries
  pub none : r.listed ≡ false → c.entries ≡ []

-- no more than the limits yet
pub record WithinLimits (r : Room) (u : Used) : Type 0 where
  pub words : u.words ≤ 4096
  pub params : u.params ≤ 8
  pub entries : u.entries ≤ r.entries

entry_more : {w : WorldValue} {names : Names} → NamesFit w names → (r : Room) (u : Used) (line : ℕ) (b : Body) (rest : Result Contents Refused) (c : Contents)
    → onto one_entry line (limited (ltb u.entries r.entries) (permitted r.listed (entry_meant names b))) rest ≡ Ok c
    → ((d : Contents) → u.entries < r.entries → rest ≡ Ok d → ContentsLoaded w r (used u.words u.params (u.entries + 1)) d) → ContentsLoaded w r u c
entry_more {w} {names} fit r u line b rest c e more =
    let a = onto_ok one_entry line (limited (ltb u.entries r.entries) (permitted r.listed (entry_meant names b))) rest c e in
    let l = limited_ok (ltb u.entries r.entries) (permitted r.listed (entry_meant names b)) a.0 a.2 in
    let p = permitted_ok r.listed (entry_meant names b) a.0 l.0 in
    let below = ltb-true u.entries r.entries l.1 in
    let d = more a.1 below a.3 in
    let few = d.few_entries in
    subst (ContentsLoaded w r u) a.4 (record {
      few_words = d.few_words;
      words = d.words;
      few_params = d.few_params;
      params = d.params;
      few_entries = omega arith;
      entries =
          (entry_loaded fit b a.0 p.0, d.entries);
      none = λ off. absurd (false≢true (sym off ∙ p.1));
    })

pub contents_loaded : {w : WorldValue} {names : Names} → NamesFit w names → (r : Room) (u : Used) (ps : List Part) (c : Contents) → WithinLimits r u
    → AllByRecursion (λ (p : Part). WordsIn p.body) ps → contents_of names r u ps ≡ Ok c → ContentsLoaded w r u c
unfolding WordsIn
contents_loaded {w} fit r u [] c within h e = moved (ContentsLoaded w r u) (contents [] [] []) c e
    (let a = within.words in let b = within.params in let d = within.entries in record {
      few_words = omega arith;
      words = tt;
      few_params = omega arith;
      params = tt;
      few_entries =
          omega arith;
      entries = tt;
      none = λ off. refl;
    })
contents_loaded {w} {names} fit r u (p ∷ ps) c within h e = go p.body h.0 e (λ v d l f. contents_loaded fit r v ps d l h.1 f)
  where
    counted_on : (d : Contents) → u.entries < r.entries → ((v : Used) (x : Contents) → WithinLimits r v → contents_of names r v ps ≡ Ok x → ContentsLoaded w r v x)
        → contents_of names r (used u.words u.params (u.entries + 1)) ps ≡ Ok d → ContentsLoaded w r (used u.words u.params (u.entries + 1)) d
    counted_on d below rest f = rest (used u.words u.params (u.entries + 1)) d (record { words = within.words; params = within.params; entries = omega arith }) f

    go : (b : Body) → WordsIn b → content_onto names r u p.line b (λ next. contents_of names r next ps) ≡ Ok c
        → ((v : Used) (d : Contents) → WithinLimits r v → contents_of names r v ps ≡ Ok d → ContentsLoaded w r v d) → ContentsLoaded w r u c
    go (WordsAre words) k f rest =
        let a = onto_ok more_words p.line (limited (leb (u.words + length words) 4096) (Ok words))
        (contents_of names r (used (u.words + length words) u.params u.entries) ps) c f in
        let l = limited_ok (leb (u.words + length words) 4096) (Ok words) a.0 a.2 in
        let below = leb-true (u.words + length words) 4096 l.1 in
        let same : words ≡ a.0 = (let eq = l.0 in cc) in
        let d = rest (used (u.words + length words) u.params u.entries) a.1 (record { words = below; params = within.params; entries = within.entries }) a.3 in
        let few = d.few_words in
        let size = length-append a.0 a.1.words in
        let len = ap length same in
        subst (ContentsLoaded w r u) a.4 (record {
          few_words = omega arith;
          words = all_both IsWord32 a.0 a.1.words (subst (AllByRecursion IsWord32) same k) d.words;
          few_params =
              d.few_params;
          params = d.params;
          few_entries = d.few_entries;
          entries = d.entries;
          none = d.none;
        })
    go (ParamIs kind check give) k f rest =
        let a = onto_ok one_param p.line (limited (ltb u.params 8) (param_of names kind check give)) (contents_of names r (used u.words (u.params + 1) u.entries) ps) c f in
        let l = limited_ok (ltb u.params 8) (param_of names kind check give) a.0 a.2 in
        let below = ltb-true u.params 8 l.1 in
        let d = rest (used u.words (u.params + 1) u.entries) a.1 (record { words = within.words; params = omega arith; entries = within.entries }) a.3 in
        let few = d.few_params in
        subst (ContentsLoaded w r u) a.4 (record {
          few_words = d.few_words;
          words = d.words;
          few_params = omega arith;
          params =
              (param_loaded fit kind check give a.0 l.0, d.params);
          few_entries = d.few_entries;
          entries = d.entries;
          none = d.none;
        })
    go EmptyEntry k f rest = entry_more fit r u p.line EmptyEntry (contents_of names r (used u.words u.params (u.entries + 1)) ps) c f (λ d below g. counted_on d below rest g)
    go (CapEntry object rights) k f rest =
        entry_more fit r u p.line (CapEntry object rights) (contents_of names r (used u.words u.params (u.entries + 1)) ps) c f (λ d below g. counted_on d below rest g)
    go (AmplifyEntry kind check give) k f rest =
        entry_more fit r u p.line (AmplifyEntry kind check give) (contents_of names r (used u.words u.params (u.entries + 1)) ps) c f (λ d below g. counted_on d below rest g)
    go (CreateEntry of give) k f rest =
        entry_more fit r u p.line (CreateEntry of give) (contents_of names r (used u.words u.params (u.entries + 1)) ps) c f (λ d below g. counted_on d below rest g)
    go (LabelIs label) k f rest =
        entry_more fit r u p.line (LabelIs label) (contents_of names r (used u.words u.params (u.entries + 1)) ps) c f (λ d below g. counted_on d below rest g)
    go (StepIs step) k f rest =
        entry_more fit r u p.line (StepIs step) (contents_of names r (used u.words u.params (u.entries + 1)) ps) c f (λ d below g. counted_on d below rest g)

pub words_in : (head : Head) (seen : List (List ℕ)) (ps : List Part) → AreParts head seen ps → AllByRecursion (λ (p : Part). WordsIn p.body) ps
unfolding WordsIn
words_in head seen [] h = tt
words_in head seen (p ∷ ps) h = (one head p.body h.0, words_in head (noted_label seen p.body) ps h.2)
  where
    line : (ws : List ℕ) → IsWordsLine ws → AllByRecursion IsWord32 ws
    line [] k = absurd k
    line (x ∷ xs) k = k

    one : (head : Head) (b : Body) → Belongs head b → WordsIn b
    one (ObjectIs name of) (WordsAre words) k = line words k
    one (ProcedureIs name code) (WordsAre words) k = absurd k
    one (CodeIs name) (WordsAre words) k = absurd k
    one (ProcessIs name code) (WordsAre words) k = absurd k
    one (LimitIs n) (WordsAre words) k = absurd k
    one (TypeIs name) (WordsAre words) k = absurd k
    one (SemaphoreIs name count) (WordsAre words) k = absurd k
    one head EmptyEntry k = tt
    one head (CapEntry object rights) k = tt
    one head (AmplifyEntry kind check give) k = tt
    one head (CreateEntry of give) k = tt
    one head (ParamIs kind check give) k = tt
    one head (LabelIs label) k = tt
    one head (StepIs step) k = tt

pub within_none : (r : Room) → WithinLimits r (used 0 0 0)
within_none r = record { words = omega arith; params = omega arith; entries = omega arith }

pub at_line_ok : {A : Type 0} (line : ℕ) (r : Result A LoadCause) (x : A) → at_line line r ≡ Ok x → r ≡ Ok x
at_line_ok line (Ok y) x h = let same : y ≡ x = cc in ap Ok same
at_line_ok line (Err c) x h = absurd (let k : Err (line, c) ≡ Ok x = h in cc)
