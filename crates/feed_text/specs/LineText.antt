-- The text of a line.
use Rattle.std.specs.Prelude.{ℕ, List, [], ◌++◌, codes}
use Rattle.std.specs.Fmt.{decimal}
use Rattle.feed_text.specs.declared.line.Line.{Line}
use Rattle.feed_text.specs.declared.line.Line.TheVariants.{Nothing, Opening, Records, Redo, Command, Schedule, End, Stop, Raw}
use Rattle.feed_text.specs.Words.{records_text}
use Rattle.feed_text.specs.Hex.{hex_text}

-- one text for each thing that a line says
abbrev pub line_text : Line → List ℕ
line_text Nothing = []
line_text (Opening threads sessions) = codes "threads " ++ decimal threads ++ codes " sessions " ++ decimal sessions
line_text (Records thread records) = decimal thread ++ codes "@" ++ records_text records
line_text (Redo thread bytes) = codes "redo " ++ decimal thread ++ codes ":" ++ hex_text bytes
line_text (Command session text) = codes "session " ++ decimal session ++ codes ": " ++ text
line_text (Schedule bytes) = codes "schedule" ++ hex_text bytes
line_text End = codes "end"
line_text Stop = codes "stop"
line_text (Raw bytes) = codes "bytes" ++ hex_text bytes
