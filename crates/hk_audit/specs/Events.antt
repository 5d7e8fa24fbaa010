-- An event with a reply as a line. docs/FORMATS.md, "Audit lines and records".
use Rattle.hk_model.specs.declared.calls.Reply.{Reply}
use Rattle.hk_model.specs.declared.lines.Line.{Line}
use Rattle.hk_format.specs.LineReading.{line_with}
use Rattle.hk_audit.specs.declared.events.Event.{Event}

-- the line of this event with a reply
abbrev pub line_of : Event → Reply → Line
line_of event = line_with event.cpu.0 event.proc.0 event.inc.0 event.what
