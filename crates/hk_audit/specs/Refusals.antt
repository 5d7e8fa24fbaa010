-- Refusals that have no step. docs/FORMATS.md, "Audit lines and records".
use Rattle.std.specs.Prelude.{ℕ, List, codes, if◌then◌else◌}
use Rattle.hk_model.specs.declared.calls.Refusal.TheVariants as refused
use Rattle.hk_model.specs.declared.calls.Reply.{Reply}
use Rattle.hk_model.specs.declared.calls.Reply.TheVariants as reply
use Rattle.hk_model.specs.Labels.{same_text}
use Rattle.hk_format.specs.Reading.{Reads, end, unknown}
use Rattle.hk_format.specs.LineReading.{full_reply}

-- a refusal without a step, by its first word
abbrev pub without_step : List ℕ → Reads Reply
without_step word =
    if same_text word (codes "count") then end (reply.No refused.Count)
    else if same_text word (codes "full") then full_reply
    else if same_text word (codes "deep") then end (reply.No refused.Deep)
    else unknown
