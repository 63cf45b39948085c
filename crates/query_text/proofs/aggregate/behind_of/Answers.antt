use Rattle.std.proofs.Common.{ℕ, List, Bor}
use Rattle.query_text.proofs.Aggregates.{behind_reads}
use Rattle.query_text.proofs.aggregate.behind_of.Goals as goal

pub returns : goal.returns
returns c =
    behind_reads {W = Bor (List ℕ)} (λ w. w.now) c.as_slice.result c.as_slice-2.result c.as_slice.ensures c.as_slice-2.ensures
    (λ x. x.0) (λ x. x.1.now) c.args.bytes.now c.word_of.result c.word_of.ensures
