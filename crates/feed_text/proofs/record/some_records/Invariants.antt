use Rattle.std.proofs.Common.{◌≡◌, ◌-◌, codes, length}
use Rattle.feed_text.specs.Reading.{more_at, list_at, record_at}
use Rattle.feed_text.proofs.Many.{with_front}
use Rattle.feed_text.proofs.record.some_records.Given as goal

abbrev pub invariant-loop : goal.invariant-loop
invariant-loop l = with_front l.records.items (more_at record_at (codes " | @") ((length l.text) - l.counter) l.rest) ≡ list_at record_at (codes " | @") (length l.text) l.text
