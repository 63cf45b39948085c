use Rattle.std.proofs.Common.{Bool, ◌||◌, sym, ap, subst, ◌∙◌}
use Rattle.dictionary.specs.Transactions.{Held, TracksIn, is_ended}
use Rattle.dictionary.proofs.transactions.Transactions.is_begun.Goals as goal

pub returns-then-contains_key : goal.returns-then-contains_key
returns-then-contains_key c db h =
    let old : Held = record { ended = c.self.inside.ended.keys; running = c.self.inside.running.entries; pending = c.self.inside.pending } in
    let t : TracksIn old db = subst (λ (x : Held). TracksIn x db) (sym c.self.view_is) h in
    c.if-contains_key.true ∙ sym (t.begun c.args.txn ∙ ap (λ (b : Bool). b || is_ended old c.args.txn) (sym c.contains_key.ensures ∙ c.if-contains_key.true))

pub returns-else-contains_key : goal.returns-else-contains_key
returns-else-contains_key c db h =
    let old : Held = record { ended = c.self.inside.ended.keys; running = c.self.inside.running.entries; pending = c.self.inside.pending } in
    let t : TracksIn old db = subst (λ (x : Held). TracksIn x db) (sym c.self.view_is) h in
    c.contains.ensures ∙ sym (t.begun c.args.txn ∙ ap (λ (b : Bool). b || is_ended old c.args.txn) (sym c.contains_key.ensures ∙ c.if-contains_key.false))
