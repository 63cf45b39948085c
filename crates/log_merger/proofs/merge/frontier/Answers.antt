use Rattle.std.proofs.Common.{◌≡◌, ◌+◌, ◌++◌, ◌∷◌, [], List, max, take, get_or, ap, ap₂, sym, subst, ◌∙◌, filter}
use Rattle.std.proofs.lemmas.List.{take_more, map-append}
use Rattle.adg_model.specs.Records.{Mark}
use Rattle.adg_model.specs.Log.{greatest, is_open, scns_of}
use Rattle.log_merger.specs.Thread.{Receiving}
use Rattle.log_merger.specs.Merge.{marks_of, least_with}
use Rattle.log_merger.proofs.Frontiers.{IsLeast, greatest_next, ended_next, open_more}
use Rattle.log_merger.proofs.merge.frontier.Goals.{then-not-has_ended, else-not-has_ended}
use Rattle.log_merger.proofs.merge.frontier.Goals as goal

pub loop-thread-preserved : goal.loop-thread-preserved
loop-thread-preserved c =
    let ts = c.args.threads.now in
    let i = c.loop-thread.thread-index in
    let t = get_or ts i c.thread-item.result in
    let ms = marks_of (take i ts) in
    let inv = c.loop-thread.invariant in
    let m = c.mark-mark.result in
    let mark : m ≡ t.mark = c.mark-mark.ensures ∙ ap (λ (r : Receiving). r.mark) c.thread-item.is in
    let more : marks_of (take (i + 1) ts) ≡ ms ++ m ∷ [] =
    ap marks_of (take_more ts i c.thread-item.result c.loop-thread-test.true) ∙ map-append (λ (r : Receiving). r.mark) (take i ts) (t ∷ []) ∙ ap (λ (x : Mark). ms ++ x ∷ []) (sym mark) in
    record {
      top = c.later-greatest.ensures ∙ ap₂ max inv.top c.scn.ensures ∙ sym (ap (λ (l : List Mark). greatest (scns_of l)) more ∙ greatest_next ms m);
      low = subst (λ (l : List Mark). IsLeast c.if-not-has_ended.least (scns_of (filter is_open l))) (sym more)
          (elim c.if-not-has_ended.branch [
            | then-not-has_ended w ↦ (let scn = w.least_with.ensures ∙ ap (least_with c.loop-thread.least) w.scn-then-not-has_ended.ensures in
                rw (w.least-is, scn) (open_more c.loop-thread.least ms m (sym c.has_ended.ensures ∙ w.if-not-has_ended.true) inv.low))
            | else-not-has_ended w ↦ rw w.least-is (ended_next c.loop-thread.least ms m (sym c.has_ended.ensures ∙ w.if-not-has_ended.false) inv.low)
          ]);
    }
