use Rattle.std.proofs.Common.{◌≡◌, ◌++◌, ◌∷◌, [], List, length, ap, sym, subst, ◌∙◌, arith, ℕ}
use Rattle.adg_base.specs.declared.log.LogEntry.{LogEntry}
use Rattle.log_merger.specs.Merge.{count_all}
use Rattle.log_merger.proofs.Queues.{Giving, keeps_same, keeps_trans, giving_start, giving_next, giving_end, giving_all}
use Rattle.log_merger.proofs.merge.merge.Goals.{else-loop-place-test, then-loop-place-test+in_default}
use Rattle.log_merger.proofs.merge.merge.Goals as goal

pub returns-in_err-count-clause-rest : goal.returns-in_err-count-clause-rest
returns-in_err-count-clause-rest c = keeps_same c.args.threads.now

pub returns-in_err-ok_or-clause-rest : goal.returns-in_err-ok_or-clause-rest
returns-in_err-ok_or-clause-rest c = keeps_same c.args.threads.now

pub returns-in_err-entries-clause-rest : goal.returns-in_err-entries-clause-rest
returns-in_err-entries-clause-rest c = keeps_same c.args.threads.now

pub loop-place-init : goal.loop-place-init
loop-place-init c = record {
  rest = keeps_same c.args.threads.now;
  len = c.in_ok-entries.ensures.len;
  room = omega (arith, c.in_ok-entries.ensures.exact);
  giving = λ h. subst (λ (l : List LogEntry). Giving c.args.through c.args.first c.args.threads.now c.args.threads.now l) (sym c.in_ok-entries.ensures.items) (giving_start c.args.through c.args.first c.args.threads.now h);
}

pub loop-place-preserved : goal.loop-place-preserved
loop-place-preserved c =
    let inv = c.loop-place.invariant in
    let e = c.in-Some.entry in
    let many : length c.loop-place.entries.items ≡ c.loop-place.place = omega (arith, inv.len, c.loop-place.entries.ok.0) in
    record {
      rest = keeps_trans c.args.threads.now c.loop-place.threads c.next_entry.new.threads inv.rest c.in-Some.ensures.rest;
      len = omega (arith, c.push_reserved.ensures.len, inv.len);
      room = omega (arith, c.push_reserved.ensures.capacity, inv.room);
      giving = λ h.
          let g = inv.giving h in
          giving_next c.args.through c.args.first c.loop-place.place c.args.threads.now c.loop-place.threads c.next_entry.new.threads c.loop-place.entries.items c.push_reserved.new.self.items e
          g (c.in-Some.ensures.takes g.queues) many (c.push_reserved.ensures.items ∙ ap (λ (n : ℕ). c.loop-place.entries.items ++ (record e { pos = n }) ∷ []) c.new-entry.ensures);
    }

pub returns-clause-merges : goal.returns-clause-merges
returns-clause-merges c h =
    let old = c.args.threads.now in
    let now = c.loop-place.threads in
    let all = c.loop-place.entries.items in
    let g = c.loop-place.invariant.giving h in
    let count : c.in_ok-count.count ≡ count_all c.args.through old = grind (arith, c.in_ok-count.ensures.ok_part, c.count_waiting.ensures) in
    elim c.loop-place-test.branch [
      | else-loop-place-test w ↦ (let many : length all ≡ count_all c.args.through old = omega (arith, count, c.loop-place.invariant.len, c.loop-place.entries.ok.0, w.loop-place-test.false, c.loop-place.auto.place-end) in
          rw w.threads-is (giving_end c.args.through c.args.first old now all g (giving_all c.args.through c.args.first old now all g h many)))
      | then-loop-place-test+in_default w ↦ (let none = w.in_default.ensures.takes g.queues in
          rw (w.threads-is, none.0) (giving_end c.args.through c.args.first old now all g none.1))
    ]

pub returns-clause-rest : goal.returns-clause-rest
returns-clause-rest c =
    elim c.loop-place-test.branch [
      | else-loop-place-test w ↦ rw w.threads-is c.loop-place.invariant.rest
      | then-loop-place-test+in_default w ↦ rw w.threads-is (keeps_trans c.args.threads.now c.loop-place.threads w.next_entry.new.threads c.loop-place.invariant.rest w.in_default.ensures.rest)
    ]
