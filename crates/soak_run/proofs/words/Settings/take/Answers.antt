use Rattle.soak_run.proofs.OptionsRead.{took_seed, took_txns, took_workers}
use Rattle.soak_run.proofs.words.Settings.take.Goals as goal

pub returns-in-Seed : goal.returns-in-Seed
returns-in-Seed c = took_seed c.args.self.now c.args.name c.args.number c.replace.new.self c.replace.result c.is_none.result c.in-Seed.is c.replace.ensures.value c.replace.ensures.after c.is_none.ensures

pub returns-in-Txns : goal.returns-in-Txns
returns-in-Txns c = took_txns c.args.self.now c.args.name c.args.number c.replace-in-Txns.new.self c.replace-in-Txns.result c.is_none-in-Txns.result c.in-Txns.is c.replace-in-Txns.ensures.value c.replace-in-Txns.ensures.after c.is_none-in-Txns.ensures

pub returns-in-Workers : goal.returns-in-Workers
returns-in-Workers c = took_workers c.args.self.now c.args.name c.args.number c.replace-in-Workers.new.self c.replace-in-Workers.result c.is_none-in-Workers.result c.in-Workers.is c.replace-in-Workers.ensures.value c.replace-in-Workers.ensures.after c.is_none-in-Workers.ensures
