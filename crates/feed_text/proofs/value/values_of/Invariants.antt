use Rattle.std.proofs.Common.{◌≡◌, ◌-◌, codes}
use Rattle.feed_text.specs.Reading.{more_at, list_at, value_at}
use Rattle.feed_text.proofs.Many.{with_front}
use Rattle.feed_text.proofs.value.values_of.Given as goal

abbrev pub invariant-loop : goal.invariant-loop
invariant-loop l = with_front l.values.items (more_at value_at (codes ", ") (15 - l.counter) l.rest) ≡ list_at value_at (codes ", ") 15 l.text
