use Rattle.std.proofs.Common.{◌≡◌, ℕ, Bool, ◌||◌, cond, nat_eq, Option, Some, is_some, List, refl, ap, ap₂, sym, subst, ◌∙◌}
use Rattle.std.proofs.lemmas.Map.Steps.{set_value_same}
use Rattle.dictionary.specs.Transactions.{Held, TracksIn, running_at}
use Rattle.adg_base.specs.Address.{Place}
use Rattle.adg_model.specs.Database.{Change as Played, is_in_memory}
use Rattle.dictionary.specs.declared.change.Change.{Change}
use Rattle.dictionary.specs.declared.change.Pending.{Pending}
use Rattle.dictionary.specs.declared.change.Running.{Running}
use Rattle.dictionary.proofs.Catalogs.{on_err_always}
use Rattle.dictionary.proofs.Tracking.{Tracks_change}
use Rattle.dictionary.proofs.transactions.Transactions.change.Goals as goal
use Rattle.dictionary.proofs.transactions.Transactions.change.Goals.{then-running, else-running, then-is_new, else-is_new}

pub returns-in_err-is_new-clause-err : goal.returns-in_err-is_new-clause-err
returns-in_err-is_new-clause-err c =
    let inside = c.self.inside.running.entries in
    let was = c.in-Some.running.now in
    let lent = c.get_mut.follows.holds was in
    let kept : (c.get_mut.follows.lender was).entries ≡ inside = lent.0 ∙ set_value_same (nat_eq c.args.txn) inside was (sym c.in-Some.ensures.value) in
    on_err_always c.from_residual.result _ (ap₂ (λ (r : List (ℕ × Running)) (p : List (Change × Pending)). let h : Held = record { ended = c.self.inside.ended.keys; running = r; pending = p } in h) kept c.in_err-is_new.ensures.err ∙ c.self.view_is)

pub returns-in_default-clause-running : goal.returns-in_default-clause-running
returns-in_default-clause-running c db h =
    let t : TracksIn (record { ended = c.self.inside.ended.keys; running = c.self.inside.running.entries; pending = c.self.inside.pending }) db = subst (λ (x : Held). TracksIn x db) (sym c.self.view_is) h in
    ap is_some c.in_default.ensures.value ∙ t.running c.args.txn

pub returns-clause-running : goal.returns-clause-running
returns-clause-running c db h =
    let t : TracksIn (record { ended = c.self.inside.ended.keys; running = c.self.inside.running.entries; pending = c.self.inside.pending }) db = subst (λ (x : Held). TracksIn x db) (sym c.self.view_is) h in
    ap is_some c.in-Some.ensures.value ∙ t.running c.args.txn

pub returns-clause-ok : goal.returns-clause-ok
returns-clause-ok c db row h run in_memory =
    let old : Held = record { ended = c.self.inside.ended.keys; running = c.self.inside.running.entries; pending = c.self.inside.pending } in
    let t : TracksIn old db = subst (λ (x : Held). TracksIn x db) (sym c.self.view_is) h in
    let was = c.in-Some.running.now in
    let place = c.args.addr in
    let change : Played = record { at = place; row = row } in
    let memory : Bool = is_in_memory (db.tables place.obj) in
    let is_new = c.in_ok-is_new.is_new in
    let next : Running = record { noted = was.noted || memory; latest = cond is_new (Some place) was.latest } in
    let had : running_at old c.args.txn ≡ Some was = sym c.in-Some.ensures.value in
    let noted : c.if-running.running ≡ (was.noted || memory) =
    elim c.if-running.branch [
      | then-running w ↦ w.running-is ∙ w.if-running.true ∙ sym (ap (λ (b : Bool). b || memory) w.if-running.true)
      | else-running w ↦ w.running-is ∙ in_memory ∙ sym (ap (λ (b : Bool). b || memory) w.if-running.false)
    ] in
    let kept : (made : Running) → Held = λ made. record old { running = (c.get_mut.follows.lender made).entries; pending = c.add.new.self } in
    let tracks = λ (made : Running) (is : made ≡ next).
    Tracks_change db.begun db.ended db.noted db.pending c.args.txn old (kept made) change memory is_new was refl had c.in_ok-is_new.ensures.is_new c.in_ok-is_new.ensures.ok
    (λ q. ((c.get_mut.follows.holds made).3 (ap is_some had)).0 q ∙ ap (λ (r : Running). cond (nat_eq c.args.txn q) (Some r) (running_at old q)) is) t in
    elim c.if-is_new.branch [
      | then-is_new w ↦ rw w.self-inside-is (tracks _ (ap₂ (λ (b : Bool) (p : Option Place). let r : Running = record { noted = b; latest = p } in r) noted (sym (ap (λ (b : Bool). cond b (Some place) was.latest) w.if-is_new.true))))
      | else-is_new w ↦ rw w.self-inside-is (tracks _ (ap₂ (λ (b : Bool) (p : Option Place). let r : Running = record { noted = b; latest = p } in r) noted (sym (ap (λ (b : Bool). cond b (Some place) was.latest) w.if-is_new.false))))
    ]
