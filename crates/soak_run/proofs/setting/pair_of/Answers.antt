use Rattle.std.proofs.Common.{false}
use Rattle.std.specs.Prelude.{IsTrue}
use Rattle.soak_run.proofs.Numbers.{refused}
use Rattle.soak_run.proofs.setting.pair_of.Goals as goal

not_true : IsTrue false → ⊥
not_true e = absurd cc

pub returns-else-allows : goal.returns-else-allows
returns-else-allows c n k allowed named digits =
    refused c.in_ok-name.name n c.in_ok-number.number k c.args.name.now c.args.digits.now c.in_ok-name.ensures c.in_ok-number.ensures.1 c.in_ok-number.ensures.0 (λ h. not_true (c.if-allows.ensures.1 h)) allowed named digits
