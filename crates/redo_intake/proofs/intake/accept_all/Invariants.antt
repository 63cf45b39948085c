use Rattle.std.proofs.Common.{◌≡◌, ◌≤◌, ◌+◌, List, length, take}
use Rattle.adg_base.specs.declared.log.LogEntry.{LogEntry}
use Rattle.adg_model.specs.declared.delivery.RawDelivery.{RawDelivery}
use Rattle.log_merger.specs.Merger.{StandsFor, highest_number, texts_of, texts_with}
use Rattle.redo_intake.specs.Intake.{bytes_of}
use Rattle.redo_intake.proofs.intake.accept_all.Given as goal

abbrev pub invariant-loop-piece : goal.invariant-loop-piece
invariant-loop-piece l = record {
  stands : (deliveries : List RawDelivery) (given : List LogEntry) → StandsFor l.fn.merger (texts_of deliveries) given
      → StandsFor l.merger (texts_with deliveries (take l.piece-index l.pieces)) given;
  number : highest_number l.merger ≤ highest_number l.fn.merger + length (bytes_of (take l.piece-index l.pieces));
  threads : length l.merger.threads ≡ length l.fn.merger.threads;
  refused : l.merger.refused ≡ l.fn.merger.refused;
}
