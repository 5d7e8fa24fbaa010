-- What an item holds, one line after another. docs/FORMATS.md, "Loading".
use Rattle.std.specs.Prelude.{ℕ, ◌+◌, List, [], ◌∷◌, ◌++◌, length, Result, Ok, Err, nat_lt, nat_le}
use Rattle.hk_format.specs.declared.causes.LoadCause.{LoadCause}
use Rattle.hk_model.specs.declared.entries.Param.{Param}
use Rattle.hk_format.specs.declared.syntax.Body.{Body}
use Rattle.hk_format.specs.declared.syntax.Body.TheVariants.{WordsAre, ParamIs}
use Rattle.hk_model.specs.Limits.{word_limit, param_limit}
use Rattle.hk_format.specs.Loading as loading
use Rattle.hk_format.specs.Names.{Names}
use Rattle.hk_format.specs.Loading.{Refused, contents, room, used, limited, permitted, entry_meant, param_of}
use Rattle.hk_model.specs.Refusing.{◌>>=◌}
use Rattle.hk_load.specs.declared.contents.Contents.{Contents}
use Rattle.hk_load.specs.declared.contents.Room.{Room}

-- what the lines have given
abbrev pub contents_seen : Contents → loading.Contents
contents_seen c = contents c.words c.params c.entries

-- what there is room for
abbrev pub room_seen : Room → loading.Room
room_seen r = room r.listed r.entries

-- how many that are
abbrev pub used_by : loading.Contents → loading.Used
used_by c = used (length c.words) (length c.params) (length c.entries)

-- words at the end, or TooMany
abbrev pub words_added : loading.Contents → List ℕ → Result loading.Contents LoadCause
words_added c words = do
  ws ← limited (nat_le (length c.words + length words) word_limit) (Ok words)
  Ok (contents (c.words ++ ws) c.params c.entries)

-- a parameter at the end, or TooMany
abbrev pub param_added : loading.Contents → Param → Result loading.Contents LoadCause
param_added c param = do
  p ← limited (nat_lt (length c.params) param_limit) (Ok param)
  Ok (contents c.words (c.params ++ p ∷ []) c.entries)

-- the entry of a line at the end, or the line's cause
abbrev pub entry_added : Names → loading.Room → loading.Contents → Body → Result loading.Contents LoadCause
entry_added names r c body = do
  e ← limited (nat_lt (length c.entries) r.entries) (permitted r.listed (entry_meant names body))
  Ok (contents c.words c.params (c.entries ++ e ∷ []))

-- what a line gives at the end, or the line's cause
abbrev pub added : Names → loading.Room → loading.Contents → Body → Result loading.Contents LoadCause
added names r c (WordsAre words) = words_added c words
added names r c (ParamIs kind check give) = param_of names kind check give >>= param_added c
added names r c body = entry_added names r c body

-- what earlier lines gave, before what later ones give
abbrev pub after : loading.Contents → Result loading.Contents Refused → Result loading.Contents Refused
after c (Ok d) = Ok (contents (c.words ++ d.words) (c.params ++ d.params) (c.entries ++ d.entries))
after c (Err refused) = Err refused
