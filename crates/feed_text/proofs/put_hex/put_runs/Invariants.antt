use Rattle.std.proofs.Common.{◌≡◌, ◌++◌, ◌∷◌, ◌+◌, ◌≤◌, drop}
use Rattle.feed_text.specs.Hex.{hex_text, runs_text, runs_from, run}
use Rattle.feed_text.proofs.put_hex.put_runs.Given as goal

abbrev pub invariant-loop-next : goal.invariant-loop-next
invariant-loop-next l = record {
  written : l.out.items ++ runs_text (runs_from (run l.byte l.count) (drop l.next-index l.bytes)) ≡ l.initial.out.items ++ hex_text (l.first ∷ l.bytes);
  few : l.count ≤ l.next-index + 1;
}
