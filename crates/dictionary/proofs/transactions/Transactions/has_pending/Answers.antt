use Rattle.std.proofs.Common.{◌≡◌, List, nat_lt, ap, sym, ◌∙◌}
use Rattle.dictionary.specs.declared.change.Change.{Change}
use Rattle.dictionary.specs.declared.change.Pending.{Pending}
use Rattle.dictionary.specs.Pending.{kept_at, change_of, count_of}
use Rattle.dictionary.specs.Transactions.{Held}
use Rattle.dictionary.proofs.Tracking.{has_change_count}
use Rattle.dictionary.proofs.transactions.Transactions.has_pending.Goals as goal

pub returns : goal.returns
returns c db h =
    let shown : c.self.inside.pending ≡ c.args.self.now.pending = ap (λ (held : Held). held.pending) c.self.view_is in
    c.has.ensures
    ∙ ap (λ (l : List (Change × Pending)). nat_lt 0 (count_of (kept_at l (change_of c.args.txn c.args.addr)))) shown
    ∙ ap (nat_lt 0) (h.counts c.args.txn c.args.addr)
    ∙ sym (has_change_count c.args.addr (db.pending c.args.txn))
