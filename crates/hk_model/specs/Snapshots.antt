-- The state as plain data. docs/RULES.md, "Objects, incarnations, processes".
use Rattle.std.specs.Prelude.{map}
use Rattle.hk_model.specs.declared.names.Name.{Name}
use Rattle.hk_model.specs.declared.names.Inc.{Inc}
use Rattle.hk_model.specs.declared.objects.Object.{Object}
use Rattle.hk_model.specs.declared.objects.Incarnation.{Incarnation}
use Rattle.hk_model.specs.declared.objects.Process.{Process}
use Rattle.hk_model.specs.declared.snapshot.Seen.{Seen}
use Rattle.hk_model.specs.declared.snapshot.Live.{Live}
use Rattle.hk_model.specs.declared.snapshot.Snapshot.{Snapshot}
use Rattle.hk_model.specs.State.{State}

-- an object with its name
abbrev pub seen : Name × Object → Seen
seen e = record { name = e.0; of = e.1.of; words = e.1.words; entries = e.1.entries; count = e.1.count; waiters = e.1.waiters; code = e.1.code; params = e.1.params }

-- an incarnation with its number
abbrev pub live : Inc × Incarnation → Live
live e = record { inc = e.0; proc = e.1.proc; procedure = e.1.procedure; caller = e.1.caller; into = e.1.into; confined = e.1.confined; slots = e.1.slots }

-- the state, but for the current incarnations, which it shows by the callers, and the first name that was not given at the opening
abbrev pub shown : State → Snapshot
shown s = record {
  objects = map seen s.objects;
  incarnations = map live s.incarnations;
  processes = map (λ (p : Process). p.run) s.processes;
  ready = s.ready;
  next_name = s.next_name;
  next_inc = s.next_inc;
  events = s.events;
  limit = s.limit;
}
