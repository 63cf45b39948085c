use Rattle.std.proofs.Common.{refl, sym, subst}
use Rattle.dictionary.specs.Transactions.{Held, TracksIn}
use Rattle.dictionary.proofs.Tracking.{Tracks_undo}
use Rattle.dictionary.proofs.transactions.Transactions.undo.Goals as goal

pub returns : goal.returns
returns c db h has =
    let old : Held = record { ended = c.self.inside.ended.keys; running = c.self.inside.running.entries; pending = c.self.inside.pending } in
    let t : TracksIn old db = subst (λ (x : Held). TracksIn x db) (sym c.self.view_is) h in
    let new : Held = record old { pending = c.strike.new.self } in
    Tracks_undo db.begun db.ended db.noted db.pending c.args.txn old new c.args.addr refl refl c.strike.ensures t
