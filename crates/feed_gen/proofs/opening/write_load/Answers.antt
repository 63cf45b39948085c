use Rattle.std.proofs.Common.{◌∙◌, [], ◌∷◌, ap₂}
use Rattle.feed_gen.specs.Written.{with_writings}
use Rattle.feed_gen.proofs.Loops.{written_then}
use Rattle.feed_gen.proofs.opening.write_load.Goals as goal

pub returns : goal.returns
returns c =
    written_then c.args.feed.now c.write.new.self c.write-2.new.self (c.in_ok-first.first ∷ []) (c.in_ok-second.second ∷ []) c.in_ok-write.ensures c.in_ok-write-2.ensures
    ∙ ap₂ (λ a b. with_writings c.args.feed.now (a ∷ b ∷ [])) c.in_ok-first.ensures c.in_ok-second.ensures
