use Rattle.std.proofs.Common.{◌≡◌, Option, Some, None, is_some, ap, sym, subst, ◌∙◌}
use Rattle.dictionary.specs.Transactions.{Held, TracksIn, running_at, latest_of}
use Rattle.std.proofs.lemmas.Bool.{and_parts, false≢true}
use Rattle.dictionary.specs.declared.change.Running.{Running}
use Rattle.dictionary.specs.Pending.{earlier_at, HasChain}
use Rattle.dictionary.proofs.Tracking.{Tracks_end}
use Rattle.dictionary.proofs.transactions.Transactions.end.Goals as goal

pub returns-in-Some-clause-ok : goal.returns-in-Some-clause-ok
returns-in-Some-clause-ok c db h run =
    let old : Held = record { ended = c.self.inside.ended.keys; running = c.self.inside.running.entries; pending = c.self.inside.pending } in
    let t : TracksIn old db = subst (λ (x : Held). TracksIn x db) (sym c.self.view_is) h in
    let new : Held = record { ended = c.insert.new.self.keys; running = c.remove.new.self.entries; pending = c.forget.new.self } in
    let had : running_at old c.args.txn ≡ Some c.in-Some.running = sym c.remove.ensures.value ∙ c.in-Some.is in
    let chain = subst (λ (o : Option Running). HasChain (earlier_at old.pending c.args.txn) (latest_of o)) had (t.chains c.args.txn) in
    Tracks_end db.begun db.ended db.noted db.pending c.args.txn old new c.in_ok-insert.ensures.updates.0 c.remove.ensures.updates.0 (c.forget.ensures chain) t (and_parts _ _ run).0

pub returns-in_default-clause-ok : goal.returns-in_default-clause-ok
returns-in_default-clause-ok c db h run =
    let old : Held = record { ended = c.self.inside.ended.keys; running = c.self.inside.running.entries; pending = c.self.inside.pending } in
    let t : TracksIn old db = subst (λ (x : Held). TracksIn x db) (sym c.self.view_is) h in
    let none : running_at old c.args.txn ≡ None = sym c.remove.ensures.value ∙ c.in_default.is in
    absurd (false≢true (ap is_some (sym none) ∙ t.running c.args.txn ∙ run))
