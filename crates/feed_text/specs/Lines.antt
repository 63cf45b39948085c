-- What a line says, the bytes that it adds to the feed, and the text of it.
use Rattle.std.specs.Prelude.{ℕ, ◌<◌, ◌^◌, List, [], ◌∷◌, length}
use Rattle.std.specs.List.{flat_map, AllByRecursion}
use Rattle.adg_model.specs.Records.{record_bytes, IsRecord}
use Rattle.adg_model.specs.Feed.{frame, redo_tag, command_tag, schedule_tag, opening_bytes, end_bytes, stop_bytes}
use Rattle.feed_text.specs.declared.line.Line.{Line}
use Rattle.feed_text.specs.declared.line.Line.TheVariants.{Nothing, Opening, Records, Redo, Command, Schedule, End, Stop, Raw}

-- the bytes that a line adds to the feed
abbrev pub line_bytes : Line → List ℕ
line_bytes Nothing = []
line_bytes (Opening threads sessions) = opening_bytes threads sessions
line_bytes (Records thread records) = frame redo_tag (thread ∷ flat_map record_bytes records)
line_bytes (Redo thread bytes) = frame redo_tag (thread ∷ bytes)
line_bytes (Command session text) = frame command_tag (session ∷ text)
line_bytes (Schedule bytes) = frame schedule_tag bytes
line_bytes End = end_bytes
line_bytes Stop = stop_bytes
line_bytes (Raw bytes) = bytes

-- the length of a payload has four bytes
abbrev pub Fits : List ℕ → Type 0
Fits payload = length payload < 2 ^ 32

-- what stands for bytes: each record has a spelling, and the payload is not too long
abbrev pub IsGood : Line → Type 0
IsGood Nothing = Unit {0}
IsGood (Opening threads sessions) = Unit {0}
IsGood (Records thread records) = AllByRecursion IsRecord records × Fits (thread ∷ flat_map record_bytes records)
IsGood (Redo thread bytes) = Fits (thread ∷ bytes)
IsGood (Command session text) = Fits (session ∷ text)
IsGood (Schedule bytes) = Fits bytes
IsGood End = Unit {0}
IsGood Stop = Unit {0}
IsGood (Raw bytes) = Unit {0}
