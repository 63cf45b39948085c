use Rattle.std.proofs.Common.{◌≡◌}
use Rattle.std.specs.Io.KnownBytes.{Consumes}
use Rattle.feed_text.proofs.top.read_whole.Given as goal

abbrev pub invariant-loop : goal.invariant-loop
invariant-loop g l = record {
  taken : Consumes (g.R.Source.left l.initial.source) (g.R.Source.left l.source) l.bytes.items;
  cause : g.R.Source.faults l.source ≡ g.R.Source.faults l.initial.source;
}
