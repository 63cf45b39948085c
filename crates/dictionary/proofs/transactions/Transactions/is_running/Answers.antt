use Rattle.std.proofs.Common.{sym, subst, ◌∙◌}
use Rattle.dictionary.specs.Transactions.{Held, TracksIn}
use Rattle.dictionary.proofs.transactions.Transactions.is_running.Goals as goal

pub returns : goal.returns
returns c db h =
    let old : Held = record { ended = c.self.inside.ended.keys; running = c.self.inside.running.entries; pending = c.self.inside.pending } in
    let t : TracksIn old db = subst (λ (x : Held). TracksIn x db) (sym c.self.view_is) h in
    c.contains_key.ensures ∙ t.running c.args.txn
