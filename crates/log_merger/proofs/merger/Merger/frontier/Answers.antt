use Rattle.std.proofs.Common.{ap, ◌∙◌}
use Rattle.adg_model.specs.Log.{frontier}
use Rattle.log_merger.specs.Merge.{marks_of, frontier_of}
use Rattle.log_merger.specs.Merger.{Merging, shown_of}
use Rattle.log_merger.specs.Thread.{Receiving}
use Rattle.std.proofs.Common.{List}
use Rattle.log_merger.proofs.Determined.{frontier_same}
use Rattle.log_merger.proofs.merger.Merger.frontier.Goals as goal

pub returns : goal.returns
returns c texts given records s many received =
    c.frontier.ensures ∙ ap (λ (ts : List Receiving). frontier_of (marks_of ts)) (c.deref.ensures.value ∙ ap (λ (m : Merging). m.threads) c.self.view_is)
    ∙ frontier_same (frontier (shown_of s.parts)) texts c.args.self.now.threads s.parts records s.threads many received
