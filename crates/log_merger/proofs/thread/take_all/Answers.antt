use Rattle.std.proofs.Common.{◌∙◌, arith}
use Rattle.log_merger.proofs.ThreadLaws.{taking_next}
use Rattle.log_merger.proofs.thread.take_all.Goals as goal

pub loop-record-preserved : goal.loop-record-preserved
loop-record-preserved c =
    let inv = c.loop-record.invariant in
    record {
      taking = taking_next c.args.assembler.now c.loop-record.assembler c.take.new.self c.args.mark.now c.loop-record.mark c.after.result c.args.unread.now.items c.loop-record.unread.items c.push_back.new.self.items c.in-Some.record
          inv.taking c.in-Some.ensures.record.0 c.in-Some.ensures.record.1 c.in-Some.ensures.rest c.after.ensures c.in_ok-push_back.ensures.items;
      capacity = omega (arith, inv.capacity, c.in_ok-push_back.ensures.capacity);
      number = c.in-Some.ensures.number ∙ inv.number;
    }
