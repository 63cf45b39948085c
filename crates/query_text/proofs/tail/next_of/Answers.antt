use Rattle.std.proofs.Common.{ℕ, List, Bor}
use Rattle.query_text.proofs.Tails.{both_reads, one_reads}
use Rattle.query_text.proofs.tail.next_of.Goals as goal

pub returns-then-grouped : goal.returns-then-grouped
returns-then-grouped c =
    rw c.if-grouped.true (both_reads {W = Bor (List ℕ)} (λ w. w.now) c.args.test c.as_slice.result c.as_slice.ensures (λ x. x.0) (λ x. x.1.now) c.args.bytes.now c.word_of.result c.word_of.ensures)

pub returns-else-grouped : goal.returns-else-grouped
returns-else-grouped c =
    rw c.if-grouped.false (one_reads {W = Bor (List ℕ)} (λ w. w.now) c.args.test (λ x. x.0) (λ x. x.1.now) c.args.bytes.now c.word_of-else-grouped.result c.word_of-else-grouped.ensures)
