use Rattle.adg_model.specs.Records.{record_bytes, IsRecord}
use Rattle.feed_text.proofs.ListSteps.{flat_more, all_more}
use Rattle.feed_text.proofs.bytes.records_bytes.Goals as goal

pub loop-redo-preserved : goal.loop-redo-preserved
loop-redo-preserved c = record {
  written = flat_more record_bytes c.args.records.now c.loop-redo.redo-index c.redo-item.result c.loop-redo.bytes.items c.put_record.new.out.items c.loop-redo-test.true c.redo-item.is c.loop-redo.invariant.written c.in_ok-put_record.ensures.written;
  good = all_more IsRecord c.args.records.now c.loop-redo.redo-index c.redo-item.result c.loop-redo-test.true c.redo-item.is c.loop-redo.invariant.good c.in_ok-put_record.ensures.good;
}
