use Rattle.std.proofs.Common.{◌≡◌, ◌-◌, ◌≤◌}
use Rattle.feed_frames.specs.Intake.{TookOnto}
use Rattle.feed_frames.proofs.intake.take_payload.Given as goal

-- what is not missing was taken
abbrev pub invariant-loop-missing : goal.invariant-loop-missing
invariant-loop-missing g l = record {
  within : l.missing ≤ l.len;
  took : TookOnto (g.R.Source.left l.initial.source) (g.R.Source.left l.source) l.initial.taken l.taken l.initial.into.items l.into.items (l.len - l.missing);
  cause : g.R.Source.faults l.source ≡ g.R.Source.faults l.initial.source;
}

abbrev pub decreases-loop-missing : goal.decreases-loop-missing
decreases-loop-missing g l = l.missing
