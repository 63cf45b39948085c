use Rattle.std.proofs.Common.{◌∙◌, [], ◌∷◌, ap}
use Rattle.feed_gen.specs.Written.{with_writings}
use Rattle.feed_gen.proofs.left_over.write_second.Goals as goal

pub returns : goal.returns
returns c = c.in_ok-write.ensures ∙ ap (λ a. with_writings c.args.feed.now (a ∷ [])) c.in_ok-record.ensures
