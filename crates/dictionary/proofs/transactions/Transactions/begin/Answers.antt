use Rattle.std.proofs.Common.{refl, sym, subst}
use Rattle.dictionary.specs.Transactions.{Held, TracksIn}
use Rattle.dictionary.proofs.Tracking.{Tracks_begin}
use Rattle.dictionary.proofs.transactions.Transactions.begin.Goals as goal

pub returns-clause-ok : goal.returns-clause-ok
returns-clause-ok c db h fresh =
    let old : Held = record { ended = c.self.inside.ended.keys; running = c.self.inside.running.entries; pending = c.self.inside.pending } in
    let t : TracksIn old db = subst (λ (x : Held). TracksIn x db) (sym c.self.view_is) h in
    let new : Held = record old { running = c.insert.new.self.entries } in
    Tracks_begin db.begun db.ended db.noted db.pending c.args.txn old new refl refl c.in_ok-insert.ensures.updates.0 t fresh
