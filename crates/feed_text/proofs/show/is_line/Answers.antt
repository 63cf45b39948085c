use Rattle.std.proofs.Common.{List, ℕ, subst, arith}
use Rattle.std.proofs.lemmas.List.{take_all}
use Rattle.feed_text.specs.Shown.{IsLine}
use Rattle.feed_text.proofs.show.is_line.Goals as goal

pub returns : goal.returns
returns c = λ is. subst (λ (l : List ℕ). IsLine l) (take_all c.loop-byte.byte-index c.args.text.now (omega arith)) c.loop-byte.invariant
