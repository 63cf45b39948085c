use Rattle.std.proofs.Common.{◌≡◌, ◌+◌, get_or, ap, sym, ◌∙◌, arith}
use Rattle.std.proofs.lemmas.List.{get_or-map, length-map}
use Rattle.log_merger.specs.Thread.{Receiving}
use Rattle.log_merger.specs.Merge.{first_scn, first_scns}
use Rattle.log_merger.proofs.Queues.{searching_start, searching_less, searching_more, searching_end}
use Rattle.log_merger.proofs.merge.next_thread.Goals.{then-scn-least, else-scn-least}
use Rattle.log_merger.proofs.merge.next_thread.Goals as goal

pub loop-index-init : goal.loop-index-init
loop-index-init c = searching_start _ _

pub loop-index-preserved : goal.loop-index-preserved
loop-index-preserved c =
    let none = c.get-none.result + 1 in
    let ts = c.args.threads.now in
    let i = c.loop-index.index in
    let t = c.index-threads-index.result in
    let at : c.first_scn-scn.result ≡ get_or (first_scns none ts) i 0 =
    c.first_scn-scn.ensures ∙ ap (λ (r : Receiving). first_scn none r.waiting) c.index-threads-index.is ∙ sym (get_or-map (λ (r : Receiving). first_scn none r.waiting) ts i t 0 c.loop-index-test.true) in
    elim c.if-scn-least.branch [
      | then-scn-least w ↦ rw (w.least-is, w.next-is) (searching_less none (first_scns none ts) i c.loop-index.least c.first_scn-scn.result c.loop-index.next c.loop-index.invariant at w.if-scn-least.true)
      | else-scn-least w ↦ rw (w.least-is, w.next-is) (searching_more none (first_scns none ts) i c.loop-index.least c.first_scn-scn.result c.loop-index.next c.loop-index.invariant at w.if-scn-least.false)
    ]

pub returns : goal.returns
returns c =
    let none = c.get-none.result + 1 in
    let ts = c.args.threads.now in
    let end = searching_end none (first_scns none ts) c.loop-index.index c.loop-index.least c.loop-index.next c.loop-index.invariant (omega (arith, length-map ts (λ (r : Receiving). first_scn none r.waiting))) in
    rw (← c.get-none.ensures.value) end
