-- What a run of the program promises.
use Rattle.std.specs.Prelude.{◌≡◌, ◌≢◌, ◌⊎◌, ℕ, if◌then◌else◌, List, [], ◌∷◌, ◌++◌, Option, Some, None, codes}
use Rattle.std.specs.Fmt.{decimal}
use Rattle.std.specs.Str.{bytes_eq}
use Rattle.std.specs.Io.KnownBytes.{Appends, Consumes, IsAtEnd}
use Rattle.adg_io.specs.Faults.{Rose}
use Rattle.adg_model.specs.Reply.{newline}
use Rattle.feed_text.specs.declared.reason.Reason.{Reason}
use Rattle.feed_text.specs.declared.reason.Reason.TheVariants.{NoLine, NoOpening, NoCommand, NoBytes, NoRecords, NoSpelling}
use Rattle.feed_text.specs.declared.top.Turn.{Turn}
use Rattle.feed_text.specs.declared.top.Turn.TheVariants.{Assemble, Show}
use Rattle.feed_text.specs.declared.top.Ended.{Ended}
use Rattle.feed_text.specs.declared.top.Ended.TheVariants.{Done, Refused, SourceFailed, SinkFailed, NoMemory}
use Rattle.feed_text.specs.LineReading.{split}
use Rattle.feed_text.specs.Meaning.{Assembles, BreaksAt}

-- what one word asks for
abbrev pub turn_of_word : List ℕ → Option Turn
turn_of_word word = if bytes_eq word (codes "assemble") then Some Assemble else if bytes_eq word (codes "show") then Some Show else None

-- the accepted lines of words: `assemble` and `show`
abbrev pub turn_of : List (List ℕ) → Option Turn
turn_of [] = None
turn_of (word ∷ []) = turn_of_word word
turn_of (word ∷ other ∷ more) = None

abbrev pub code_of : Ended → ℕ
code_of Done = 0
code_of Refused = 1
code_of SourceFailed = 4
code_of SinkFailed = 5
code_of NoMemory = 6

abbrev pub reason_text : Reason → List ℕ
reason_text NoLine = codes "no line of the notation"
reason_text NoOpening = codes "no numbers of threads and sessions"
reason_text NoCommand = codes "no session and command"
reason_text NoBytes = codes "no bytes in hexadecimal"
reason_text NoRecords = codes "no records"
reason_text NoSpelling = codes "no bytes for a record or a frame"

-- the line that is written where the words are no accepted line
abbrev pub usage_text : List ℕ
usage_text = codes "usage: imadg_feed assemble|show" ++ newline

-- the line that tells which line of a text is refused, and why
abbrev pub refusal_text : ℕ → Reason → List ℕ
refusal_text number reason = codes "line " ++ decimal number ++ codes ": " ++ reason_text reason ++ newline

-- a sink: the bytes that it holds, where it tells them, and its count of faults
pub record SinkView : Type 0 where
  pub held : Option (List ℕ)
  pub faults : ℕ

abbrev pub sink_view : Option (List ℕ) → ℕ → SinkView
sink_view held faults = record { held = held; faults = faults }

-- the two sinks of a run: for what an input is turned into, and for the line that tells why something is refused
pub record Sinks : Type 0 where
  pub output : SinkView
  pub errors : SinkView

abbrev pub sinks_view : SinkView → SinkView → Sinks
sinks_view output errors = record { output = output; errors = errors }

-- a text was written whole
abbrev pub WroteAll : (sink sink_now : SinkView) → List ℕ → Type 0
WroteAll sink sink_now text = Appends sink.held sink_now.held text

-- the sink failed before a text was written whole: a front of it was
pub record WroteFront (sink sink_now : SinkView) (text : List ℕ) : Type 0 where
  pub front : List ℕ
  pub cut : List ℕ
  pub joined : front ++ cut ≡ text
  pub some : cut ≢ []
  pub written : Appends sink.held sink_now.held front
  pub failed : Rose sink.faults sink_now.faults

-- how the writing of a text ends, where it ends in the given way once all of it is written
abbrev pub WriteEnds : (sink sink_now : SinkView) → List ℕ → (all ended : Ended) → Type 0
WriteEnds sink sink_now text all ended = ((ended ≡ all) × WroteAll sink sink_now text) ⊎ ((ended ≡ SinkFailed) × WroteFront sink sink_now text)

-- a feed is what its text stands for
abbrev pub Turned : Turn → (input output : List ℕ) → Type 0
Turned Assemble text feed = Assembles text feed
Turned Show feed text = Assembles text feed

-- an input is turned into an output that was written so
pub record HasOutput (turn : Turn) (input : List ℕ) (IsWritten : List ℕ → Type 0) : Type 0 where
  pub output : List ℕ
  pub turned : Turned turn input output
  pub written : IsWritten output

-- a text breaks the notation, and the line that tells where it does first was written so
pub record IsBroken (text : List ℕ) (IsWritten : List ℕ → Type 0) : Type 0 where
  pub number : ℕ
  pub reason : Reason
  pub breaks : BreaksAt 1 (split 10 text) number reason
  pub written : IsWritten (refusal_text number reason)

-- an input that is refused: a text that breaks the notation; a feed never is, whatever its bytes are
abbrev pub IsRefused : Turn → (input : List ℕ) → (List ℕ → Type 0) → Type 0
IsRefused Assemble text IsWritten = IsBroken text IsWritten
IsRefused Show feed IsWritten = ⊥

-- a sink failed: the one for the output, or the one for the line of a refusal
abbrev pub IsCut : Turn → (input : List ℕ) → (sinks now : Sinks) → Type 0
IsCut turn input sinks now =
    (HasOutput turn input (WroteFront sinks.output now.output) × (now.errors ≡ sinks.errors))
    ⊎ (IsRefused turn input (WroteFront sinks.errors now.errors) × (now.output ≡ sinks.output))

-- how the turning of an input ends
abbrev pub TurnEnds : Turn → (input : List ℕ) → (sinks now : Sinks) → Ended → Type 0
TurnEnds turn input sinks now Done = HasOutput turn input (WroteAll sinks.output now.output) × (now.errors ≡ sinks.errors)
TurnEnds turn input sinks now Refused = IsRefused turn input (WroteAll sinks.errors now.errors) × (now.output ≡ sinks.output)
TurnEnds turn input sinks now SourceFailed = ⊥
TurnEnds turn input sinks now SinkFailed = IsCut turn input sinks now
TurnEnds turn input sinks now NoMemory = now ≡ sinks

-- the source was read to its end, and the turning of what it had ended so
pub record ReadAndTurned (turn : Turn) (left left_now : Option (List ℕ)) (sinks now : Sinks) (ended : Ended) : Type 0 where
  pub input : List ℕ
  pub read : Consumes left left_now input
  pub at_end : IsAtEnd left_now
  pub turned : TurnEnds turn input sinks now ended

-- How a run ends. Words that are no accepted line are refused, and nothing is read; a run that ends with no
-- memory or a failed source has written nothing.
abbrev pub RunEnds : Option Turn → (left left_now : Option (List ℕ)) → (sinks now : Sinks) → Ended → Type 0
RunEnds (Some turn) left left_now sinks now SourceFailed = now ≡ sinks
RunEnds (Some turn) left left_now sinks now NoMemory = now ≡ sinks
RunEnds (Some turn) left left_now sinks now ended = ReadAndTurned turn left left_now sinks now ended
RunEnds None left left_now sinks now ended =
    WriteEnds sinks.errors now.errors usage_text Refused ended × (now.output ≡ sinks.output) × (left_now ≡ left)
