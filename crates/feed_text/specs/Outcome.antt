-- What a function says of a line.
use Rattle.std.specs.Prelude.{◌≡◌, Result, Ok, Err}
use Rattle.feed_text.specs.declared.line.Line.{Line}
use Rattle.feed_text.specs.declared.reason.Reason.{Reason}
use Rattle.feed_text.specs.declared.refused.LineRefused.{LineRefused}
use Rattle.feed_text.specs.declared.refused.LineRefused.TheVariants.{Broken, Memory}

abbrev pub Refuses : LineRefused → Result Line Reason → Type 0
Refuses (Broken reason) read = read ≡ Err reason
Refuses Memory read = Unit {0}

-- the line that was read, or the reason why there is none, unless memory ran out
abbrev pub Says : Result Line LineRefused → Result Line Reason → Type 0
Says (Ok line) read = read ≡ Ok line
Says (Err refused) read = Refuses refused read
