use Rattle.std.proofs.Common.{ℕ, List, Bor, arith, ◌≤◌, length}
use Rattle.query_text.proofs.Words.{found_at, none_found}
use Rattle.query_text.proofs.word.word_of.Goals as goal

pub returns-in-Ok : goal.returns-in-Ok
returns-in-Ok g c = found_at {W = Bor (List ℕ)} (λ w. w.now) c.args.words.now c.args.bytes.now c.in-Ok.rest.now c.loop-word.left c.loop-word.word-index c.loop-word-item.result c.loop-word-test.true c.loop-word-item.is c.in-Ok.ensures c.loop-word.invariant

pub returns : goal.returns
returns g c =
    let ended : length c.args.words.now ≤ c.loop-word.word-index = omega (arith, c.loop-word-test.false) in
    none_found {W = Bor (List ℕ)} (λ w. w.now) c.args.words.now c.args.bytes.now c.loop-word.left c.loop-word.word-index ended c.loop-word.invariant
