-- The value of a world has no float, and is not deep.
use Rattle.std.proofs.Common.{◌≡◌, ◌≤◌, ℕ, false, List, [], ◌∷◌, map, refl, arith}
use Rattle.serde_json.specs.Data.{Data, depth, items_depth}
use Rattle.serde_json.specs.Read.{max_depth}
use Rattle.serde_json.specs.View.{items_of}
use Rattle.serde_json.specs.Written.{has_float, items_have_float}
use Rattle.hk_model.specs.declared.world.Code.{Code}
use Rattle.hk_model.specs.declared.world.Kind.{Kind}
use Rattle.hk_model.specs.declared.world.Kind.TheVariants as kind
use Rattle.hk_model.specs.declared.world.Task.{Task}
use Rattle.hk_model.specs.WorldValue.{WorldValue}
use Rattle.hk_format.specs.declared.syntax.Body.{Body}
use Rattle.hk_format.specs.declared.syntax.Body.TheVariants.{WordsAre, EmptyEntry, CapEntry, AmplifyEntry, CreateEntry, ParamIs, LabelIs, StepIs}
use Rattle.hk_format.specs.Names.{Names, spoken}
use Rattle.hk_format.specs.Canonical.{entry_body, param_body}
use Rattle.hk_json.specs.Values.{number_value, body_value, entry_value, param_value, step_value, object_value, kind_value, code_value, task_value, value}

-- no float

items_whole : {A : Type 0} (f : A → Data) → ((x : A) → has_float (f x) ≡ false) → (xs : List A) → items_have_float (items_of (map f xs)) ≡ false
items_whole f h [] = refl
items_whole f h (x ∷ xs) = rw (h x, items_whole f h xs) refl

body_whole : (b : Body) → has_float (body_value b) ≡ false
body_whole (WordsAre words) = refl
body_whole EmptyEntry = refl
body_whole (CapEntry object rights) = refl
body_whole (AmplifyEntry kind check give) = refl
body_whole (CreateEntry of give) = refl
body_whole (ParamIs kind check give) = refl
body_whole (LabelIs label) = refl
body_whole (StepIs step) = refl

kind_whole : (names : Names) (label : List ℕ) (k : Kind) → has_float (kind_value names label k) ≡ false
kind_whole names label kind.TypeObject = refl
kind_whole names label (kind.Plain of words entries) =
    rw (items_whole (entry_value names) (λ e. body_whole (entry_body names e)) entries, items_whole number_value (λ n. refl) words) refl
kind_whole names label (kind.Semaphore count) = refl
kind_whole names label (kind.Procedure code params entries) =
    rw (items_whole (entry_value names) (λ e. body_whole (entry_body names e)) entries, items_whole (param_value names) (λ p. body_whole (param_body names p)) params) refl

code_whole : (code : Code) → has_float (code_value code) ≡ false
code_whole code = rw (items_whole step_value (λ i. refl) code.steps) refl

task_whole : (names : Names) (task : Task) → has_float (task_value names task) ≡ false
task_whole names task = rw (items_whole (entry_value names) (λ e. body_whole (entry_body names e)) task.slots) refl

pub value_whole : (w : WorldValue) → has_float (value w) ≡ false
value_whole w =
    rw (
      items_whole code_value code_whole w.codes,
      items_whole (object_value (spoken w)) (λ o. kind_whole (spoken w) o.label o.kind) w.objects,
      items_whole (task_value (spoken w)) (task_whole (spoken w)) w.tasks,
    ) refl

-- not deep

items_flat : {A : Type 0} (f : A → Data) (n : ℕ) → ((x : A) → depth (f x) ≤ n) → (xs : List A) → items_depth (items_of (map f xs)) ≤ n
items_flat f n h [] = omega arith
items_flat f n h (x ∷ xs) = omega (arith, h x, items_flat f n h xs)

body_flat : (b : Body) → depth (body_value b) ≤ 1
body_flat (WordsAre words) = omega arith
body_flat EmptyEntry = omega arith
body_flat (CapEntry object rights) = omega arith
body_flat (AmplifyEntry kind check give) = omega arith
body_flat (CreateEntry of give) = omega arith
body_flat (ParamIs kind check give) = omega arith
body_flat (LabelIs label) = omega arith
body_flat (StepIs step) = omega arith

kind_flat : (names : Names) (label : List ℕ) (k : Kind) → depth (kind_value names label k) ≤ 3
kind_flat names label kind.TypeObject = omega arith
kind_flat names label (kind.Plain of words entries) =
    omega (arith, items_flat (entry_value names) 1 (λ e. body_flat (entry_body names e)) entries, items_flat number_value 1 (λ n. omega arith) words)
kind_flat names label (kind.Semaphore count) = omega arith
kind_flat names label (kind.Procedure code params entries) =
    omega (arith, items_flat (entry_value names) 1 (λ e. body_flat (entry_body names e)) entries, items_flat (param_value names) 1 (λ p. body_flat (param_body names p)) params)

code_flat : (code : Code) → depth (code_value code) ≤ 3
code_flat code = omega (arith, items_flat step_value 1 (λ i. omega arith) code.steps)

task_flat : (names : Names) (task : Task) → depth (task_value names task) ≤ 3
task_flat names task = omega (arith, items_flat (entry_value names) 1 (λ e. body_flat (entry_body names e)) task.slots)

pub value_flat : (w : WorldValue) → depth (value w) ≤ max_depth
value_flat w =
    omega (
      arith,
      items_flat code_value 3 code_flat w.codes,
      items_flat (object_value (spoken w)) 3 (λ o. kind_flat (spoken w) o.label o.kind) w.objects,
      items_flat (task_value (spoken w)) 3 (task_flat (spoken w)) w.tasks,
    )
