use Rattle.std.proofs.Common.{Option, sym, ap, subst, is_some, ◌∙◌}
use Rattle.dictionary.specs.Transactions.{Held, TracksIn, IsNoted}
use Rattle.std.proofs.lemmas.Bool.{false≢true}
use Rattle.dictionary.specs.declared.change.Running.{Running}
use Rattle.dictionary.proofs.transactions.Transactions.is_noted.Goals as goal

pub returns-in-Some : goal.returns-in-Some
returns-in-Some c db h run =
    let old : Held = record { ended = c.self.inside.ended.keys; running = c.self.inside.running.entries; pending = c.self.inside.pending } in
    let t : TracksIn old db = subst (λ (x : Held). TracksIn x db) (sym c.self.view_is) h in
    subst (λ (o : Option Running). IsNoted o (db.noted c.args.txn)) (sym c.in-Some.ensures.value) (t.noted c.args.txn)

pub returns-in-None : goal.returns-in-None
returns-in-None c db h run =
    let old : Held = record { ended = c.self.inside.ended.keys; running = c.self.inside.running.entries; pending = c.self.inside.pending } in
    let t : TracksIn old db = subst (λ (x : Held). TracksIn x db) (sym c.self.view_is) h in
    absurd (false≢true (ap is_some c.in-None.ensures.value ∙ t.running c.args.txn ∙ run))
