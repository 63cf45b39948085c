use Rattle.std.proofs.Common.{◌∙◌, ap, ap₂, sym, subst, arith}
use Rattle.std.proofs.lemmas.List.{length-append}
use Rattle.feed_gen.specs.Tables.{creates, loads}
use Rattle.feed_gen.specs.Generated.{opening, portions, transfer_drafts, drafts, generated_deliveries, generated}
use Rattle.feed_gen.specs.Written.{Written, with_draft, with_drafts, with_stop}
use Rattle.feed_gen.specs.Bounds.{IsGood}
use Rattle.feed_gen.proofs.Written.{all_bytes}
use Rattle.feed_gen.proofs.Good.{opened_good}
use Rattle.feed_gen.proofs.Loops.{all_created_len, all_loaded_len}
use Rattle.feed_gen.proofs.generate.generate.Goals as goal

pub write_portions-requires-clause-good : goal.write_portions-requires-clause-good
write_portions-requires-clause-good c = subst IsGood (sym c.in_ok-bank.ensures) (opened_good c.args.seed)

pub write_portions-requires-clause-room : goal.write_portions-requires-clause-room
write_portions-requires-clause-room c =
    omega (arith, ap (λ (w : Written). w.records) c.in_ok-write_first.ensures, ap (λ (w : Written). w.records) c.in_ok-feed.ensures, all_created_len, all_loaded_len, length-append creates loads)

pub returns : goal.returns
unfolding generated generated_deliveries drafts
returns c =
    c.in_ok-bytes.ensures
    ∙ ap with_stop (c.in_ok-write_portions.ensures
    ∙ ap₂ (λ w b. with_drafts w (transfer_drafts 2 (portions c.args.txns) b)) (c.in_ok-write_first.ensures ∙ ap (λ w. with_draft w opening) c.in_ok-feed.ensures) c.in_ok-bank.ensures)
    ∙ all_bytes (drafts c.args.seed c.args.txns)
