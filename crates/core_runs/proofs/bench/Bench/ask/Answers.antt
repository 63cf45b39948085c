use Rattle.core_runs.proofs.Benches.{answers, answered}
use Rattle.core_runs.proofs.bench.Bench.ask.Goals as goal

pub returns-clause-ok : goal.returns-clause-ok
returns-clause-ok c = answers c.args.self.now c.step.new.self c.args.event c.dictionary.result.now c.dictionary.ensures c.step.result c.step.ensures.steps

pub returns-clause-in_step : goal.returns-clause-in_step
returns-clause-in_step c = answered c.args.self.now c.requires c.step.new.self c.args.event c.dictionary.result.now c.dictionary.ensures c.step.result c.step.ensures.steps c.step.ensures.err
