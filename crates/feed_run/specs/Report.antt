-- The lines that end a run before its feed does.
use Rattle.std.specs.Prelude.{ℕ, List, ◌++◌, codes}
use Rattle.std.specs.Fmt.{decimal}
use Rattle.adg_model.specs.declared.fault.FeedKind.{FeedKind}
use Rattle.adg_model.specs.declared.fault.FeedKind.TheVariants as feed
use Rattle.adg_model.specs.declared.fault.FrameKind.{FrameKind}
use Rattle.adg_model.specs.declared.fault.FrameKind.TheVariants as frame
use Rattle.adg_model.specs.declared.fault.CheckKind.{CheckKind}
use Rattle.adg_model.specs.declared.fault.CheckKind.TheVariants as check
use Rattle.adg_model.specs.declared.fault.RedoKind.{RedoKind}
use Rattle.adg_model.specs.declared.fault.RedoKind.TheVariants.{Frame, BadVector, Unsound}
use Rattle.adg_model.specs.declared.fault.RedoFault.{RedoFault}
use Rattle.adg_model.specs.Reply.{newline}

-- the name of a fault of the feed; the last two are never printed
abbrev pub feed_name : FeedKind → List ℕ
feed_name feed.BadMagic = codes "BadMagic"
feed_name feed.BadTag = codes "BadTag"
feed_name feed.BadOrder = codes "BadOrder"
feed_name feed.BadLength = codes "BadLength"
feed_name feed.TooLarge = codes "TooLarge"
feed_name feed.TooManyDeliveries = codes "TooManyDeliveries"
feed_name feed.BadThread = codes "BadThread"
feed_name feed.BadSession = codes "BadSession"
feed_name feed.TooManyCommands = codes "TooManyCommands"
feed_name feed.Truncated = codes "Truncated"
feed_name feed.Read = codes "Read"
feed_name feed.Memory = codes "Memory"

abbrev pub frame_name : FrameKind → List ℕ
frame_name frame.BadLength = codes "BadLength"
frame_name frame.BadTrailer = codes "BadTrailer"
frame_name frame.ScnRange = codes "ScnRange"
frame_name frame.ScnOrder = codes "ScnOrder"
frame_name frame.AfterEnd = codes "AfterEnd"

abbrev pub check_name : CheckKind → List ℕ
check_name check.TxnTwice = codes "TxnTwice"
check_name check.TxnUnknown = codes "TxnUnknown"
check_name check.ObjectTwice = codes "ObjectTwice"
check_name check.NoObject = codes "NoObject"
check_name check.BadAddress = codes "BadAddress"
check_name check.BadRow = codes "BadRow"
check_name check.NothingToUndo = codes "NothingToUndo"
check_name check.BadFlag = codes "BadFlag"

abbrev pub feed_line : FeedKind → ℕ → List ℕ
feed_line kind byte = codes "feed refused: " ++ feed_name kind ++ codes " at byte " ++ decimal byte ++ newline

-- the record, and what is wrong there
abbrev pub redo_head : ℕ → ℕ → List ℕ
redo_head thread number = codes "redo refused: thread " ++ decimal thread ++ codes " record " ++ decimal number

abbrev pub redo_tail : RedoKind → List ℕ
redo_tail (Frame kind) = codes " " ++ frame_name kind ++ newline
redo_tail (BadVector index) = codes " vector " ++ decimal index ++ codes " BadVector" ++ newline
redo_tail (Unsound index kind) = codes " vector " ++ decimal index ++ codes " " ++ check_name kind ++ newline

abbrev pub redo_line : RedoFault → List ℕ
redo_line fault = redo_head fault.thread fault.number ++ redo_tail fault.kind

-- the line that is written where the words are no accepted line
abbrev pub usage_line : List ℕ
usage_line = codes "usage: imadg step|run|soak|audit [--workers N] [--seed N] [--txns N]" ++ newline
