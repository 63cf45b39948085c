use Rattle.query_text.proofs.Literals.{text_stops}
use Rattle.query_text.proofs.literal.text_of.Goals as goal

pub returns-in_default : goal.returns-in_default
returns-in_default c =
    rw c.split_at.ensures.back (text_stops c.args.bytes.now c.text_len.result c.text_len.ensures (rw c.split_at.ensures.back at c.in_default.ensures))
