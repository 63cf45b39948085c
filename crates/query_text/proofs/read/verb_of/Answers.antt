use Rattle.std.proofs.Common.{ℕ, List, Bor}
use Rattle.query_text.proofs.Commands.{verb_reads}
use Rattle.query_text.proofs.read.verb_of.Goals as goal

pub returns : goal.returns
returns c =
    verb_reads {W = Bor (List ℕ)} (λ w. w.now) c.as_slice.result c.as_slice-2.result c.as_slice-3.result c.as_slice-4.result c.as_slice-5.result
    c.as_slice.ensures c.as_slice-2.ensures c.as_slice-3.ensures c.as_slice-4.ensures c.as_slice-5.ensures
    (λ x. x.0) (λ x. x.1.now) c.args.bytes.now c.word_of.result c.word_of.ensures
