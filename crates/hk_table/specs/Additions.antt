-- One more word or entry of an object, and one more object. docs/RULES.md, "What each call does".
use Rattle.std.specs.Prelude.{ℕ, List, [], ◌∷◌, ◌++◌, length, Ok, nat_lt}
use Rattle.hk_model.specs.declared.names.Name.{Name}
use Rattle.hk_model.specs.declared.names.Inc.{Inc}
use Rattle.hk_model.specs.declared.entries.Entry.{Entry}
use Rattle.hk_model.specs.declared.entries.Entry.TheVariants.{Held}
use Rattle.hk_model.specs.declared.objects.Object.{Object}
use Rattle.hk_model.specs.declared.calls.Refusal.TheVariants as refused
use Rattle.hk_model.specs.declared.calls.What8.TheVariants as full
use Rattle.hk_model.specs.declared.calls.Answer.TheVariants.{Done}
use Rattle.hk_model.specs.Limits.{word_limit, entry_limit}
use Rattle.hk_model.specs.State.{State, object, put_object, put_slot}
use Rattle.hk_model.specs.Refusing.{◌>>◌, unless}
use Rattle.hk_model.specs.Rule.{Outcome, add_beside}

-- a word after the last of an object, if there is room
abbrev pub word_added : State → Name → ℕ → Outcome
word_added s name word = do
  let o = object s name
  unless (nat_lt (length o.words) word_limit) (refused.Full full.Words)
  Ok (Done, put_object s name (record o { words = o.words ++ word ∷ [] }))

-- an entry after the last of an object, if there is room
abbrev pub entry_added : State → Name → Entry → Outcome
entry_added s name entry = do
  let o = object s name
  unless (nat_lt (length o.entries) entry_limit) (refused.Full full.Entries)
  Ok (Done, put_object s name (record o { entries = o.entries ++ entry ∷ [] }))

-- one more object beside those that stay, and a capability for it in a slot
abbrev pub object_made : State → List (Name × Object) → Inc → ℕ → Object → ℕ → Outcome
object_made s stay inc slot new rights =
    Ok (Done, put_slot (add_beside s stay new) inc slot (Held (record { name = s.next_name; rights = rights })))
