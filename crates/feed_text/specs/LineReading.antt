-- What a line of the text says.
use Rattle.std.specs.Prelude.{ℕ, ◌+◌, ◌-◌, ◌*◌, ◌^◌, List, [], ◌∷◌, ◌++◌, length, replicate, Option, Some, None, Result, Ok, Err, nat_le, ◌==◌, ◌&&◌, if◌then◌else◌, codes}
use Rattle.feed_text.specs.declared.line.Line.{Line}
use Rattle.feed_text.specs.declared.line.Line.TheVariants.{Nothing, Opening, Records, Redo, Command, Schedule, End, Stop, Raw}
use Rattle.feed_text.specs.declared.reason.Reason.{Reason}
use Rattle.feed_text.specs.declared.reason.Reason.TheVariants.{NoLine, NoOpening, NoCommand, NoBytes, NoRecords}
use Rattle.change_vectors.specs.Reading.{◌>>=◌}
use Rattle.feed_text.specs.Reading.{behind, number_at, byte_at, has_digit, record_at, list_at}

-- the parts of a text between separators
abbrev pub onto_first : ℕ → List (List ℕ) → List (List ℕ)
onto_first c [] = (c ∷ []) ∷ []
onto_first c (part ∷ parts) = (c ∷ part) ∷ parts

abbrev pub split : ℕ → List ℕ → List (List ℕ)
split sep [] = [] ∷ []
split sep (c ∷ text) = if c == sep then [] ∷ split sep text else onto_first c (split sep text)

-- the value of a digit in hexadecimal
abbrev pub hex_value : ℕ → Option ℕ
hex_value c = if nat_le 48 c && nat_le c 57 then Some (c - 48) else if nat_le 97 c && nat_le c 102 then Some (c - 87) else None

-- a value, where nothing is left behind it
abbrev pub whole : {X : Type 0} → Option (X × List ℕ) → Option X
whole None = None
whole (Some (x, [])) = Some x
whole (Some (x, c ∷ text)) = None

-- how often a byte stands: once, or as the number behind a star says
abbrev pub times_of : List ℕ → Option ℕ
times_of [] = Some 1
times_of (c ∷ text) = if c == 42 then whole (number_at (2 ^ 64 - 1) text) else None

-- a word of hexadecimal: two digits, and how often
unfoldable pub run_of : List ℕ → Option (ℕ × ℕ)
run_of [] = None
run_of (high ∷ []) = None
run_of (high ∷ low ∷ text) = do
  h ← hex_value high
  l ← hex_value low
  n ← times_of text
  Some (h * 16 + l, n)

unfoldable pub runs_of : List (List ℕ) → Option (List ℕ)
runs_of [] = Some []
runs_of (word ∷ words) = do
  run ← run_of word
  more ← runs_of words
  Some (replicate run.1 run.0 ++ more)

-- bytes in hexadecimal, each word behind a blank
unfoldable pub hex_of : List ℕ → Option (List ℕ)
hex_of [] = Some []
hex_of (c ∷ text) = if c == 32 then runs_of (split 32 text) else None

-- The kinds of lines, each behind its first word.
unfoldable pub opening_of : List ℕ → Option Line
opening_of text = do
  threads ← byte_at text
  word ← behind (codes " sessions ") threads.1
  sessions ← whole (byte_at word)
  Some (Opening threads.0 sessions)

unfoldable pub command_of : List ℕ → Option Line
command_of text = do
  session ← byte_at text
  command ← behind (codes ": ") session.1
  Some (Command session.0 command)

unfoldable pub redo_of : List ℕ → Option Line
redo_of text = do
  thread ← byte_at text
  hex ← behind (codes ":") thread.1
  bytes ← hex_of hex
  Some (Redo thread.0 bytes)

unfoldable pub schedule_of : List ℕ → Option Line
schedule_of text = do
  bytes ← hex_of text
  Some (Schedule bytes)

unfoldable pub raw_of : List ℕ → Option Line
raw_of text = do
  bytes ← hex_of text
  Some (Raw bytes)

unfoldable pub records_of : List ℕ → Option Line
records_of text = do
  thread ← byte_at text
  first ← behind (codes "@") thread.1
  records ← whole (list_at record_at (codes " | @") (length first) first)
  Some (Records thread.0 records)

-- a word alone
abbrev pub alone : List ℕ → Line → Result Line Reason
alone [] line = Ok line
alone (c ∷ text) line = Err NoLine

-- what is read, or why it is not
abbrev pub or_reason : Option Line → Reason → Result Line Reason
or_reason (Some line) reason = Ok line
or_reason None reason = Err reason

-- where a word was in front, what is behind it is read so; else what comes later is
abbrev pub either : Option (List ℕ) → (List ℕ → Result Line Reason) → Result Line Reason → Result Line Reason
either (Some rest) read later = read rest
either None read later = later

-- a line that begins with a digit has records
abbrev pub other_line : List ℕ → Result Line Reason
other_line text = if has_digit text then or_reason (records_of text) NoRecords else Err NoLine

unfoldable pub worded_line : List ℕ → Result Line Reason
worded_line text =
    either (behind (codes "threads ") text) (λ rest. or_reason (opening_of rest) NoOpening)
    (either (behind (codes "session ") text) (λ rest. or_reason (command_of rest) NoCommand)
    (either (behind (codes "redo ") text) (λ rest. or_reason (redo_of rest) NoBytes)
    (either (behind (codes "schedule") text) (λ rest. or_reason (schedule_of rest) NoBytes)
    (either (behind (codes "bytes") text) (λ rest. or_reason (raw_of rest) NoBytes)
    (either (behind (codes "end") text) (λ rest. alone rest End)
    (either (behind (codes "stop") text) (λ rest. alone rest Stop)
    (other_line text)))))))

-- what a line says
unfoldable pub line_of : List ℕ → Result Line Reason
line_of [] = Ok Nothing
line_of (c ∷ text) = if c == 35 then Ok Nothing else worded_line (c ∷ text)
