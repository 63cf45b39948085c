use Rattle.std.proofs.Common.{arith}
use Rattle.feed_text.proofs.HexLaws.{bytes_all}
use Rattle.feed_text.proofs.ShownLaws.{raw_text, raw_is_line, raw_adds_again}
use Rattle.feed_text.proofs.show.put_raw_line.Goals as goal

pub put_ended-requires : goal.put_ended-requires
put_ended-requires c =
    let same = raw_text c.args.bytes.now c.in_ok-text.text.items c.put_raw.new.out.items c.as_slice.result.now c.as_slice.ensures.value c.in_ok-put_raw.ensures c.in_ok-text.ensures.items in
    raw_is_line c.args.bytes.now c.as_slice.result.now (omega arith) (bytes_all c.args.bytes.now (λ i. omega (arith, c.type_inv.bytes i))) same

pub returns : goal.returns
returns c =
    let same = raw_text c.args.bytes.now c.in_ok-text.text.items c.put_raw.new.out.items c.as_slice.result.now c.as_slice.ensures.value c.in_ok-put_raw.ensures c.in_ok-text.ensures.items in
    c.in_ok-put_ended.ensures c.args.bytes.now (raw_adds_again c.args.bytes.now c.as_slice.result.now (omega arith) (bytes_all c.args.bytes.now (λ i. omega (arith, c.type_inv.bytes i))) same)
