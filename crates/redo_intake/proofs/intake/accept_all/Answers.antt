use Rattle.std.proofs.Common.{ℕ, ◌+◌, List, length, take, arith, ap, ◌∙◌}
use Rattle.adg_model.specs.declared.delivery.RedoPiece.{RedoPiece}
use Rattle.log_merger.specs.Merger.{texts_with}
use Rattle.redo_intake.proofs.PieceLaws.{bytes_more, bytes_within, accept_one}
use Rattle.redo_intake.proofs.intake.accept_all.Goals as goal

pub accept-requires-clause-room : goal.accept-requires-clause-room
accept-requires-clause-room c =
    let ps = c.args.pieces.now in
    let i = c.loop-piece.piece-index in
    let more = bytes_more ps i c.piece-item.result c.loop-piece-test.true in
    let within = bytes_within (i + 1) ps in
    let bytes = ap (λ (l : List ℕ). length l) (c.as_slice.ensures ∙ ap (λ (p : RedoPiece). p.bytes) c.piece-item.is) in
    omega (arith, c.loop-piece.invariant.number, c.requires.room, more, within, bytes)

pub loop-piece-preserved : goal.loop-piece-preserved
loop-piece-preserved c =
    let ps = c.args.pieces.now in
    let i = c.loop-piece.piece-index in
    let inv = c.loop-piece.invariant in
    let p = c.piece-item.result in
    let more = bytes_more ps i p c.loop-piece-test.true in
    let bytes = ap (λ (l : List ℕ). length l) (c.as_slice.ensures ∙ ap (λ (q : RedoPiece). q.bytes) c.piece-item.is) in
    record {
      stands = λ ds given s. accept_one c.accept.new.self ds ps i p c.as_slice.result.now given c.loop-piece-test.true c.piece-item.is c.as_slice.ensures
          (c.in_ok-accept.ensures.ok (texts_with ds (take i ps)) given (inv.stands ds given s));
      number = omega (arith, inv.number, c.in_ok-accept.ensures.number, more, bytes);
      threads = c.in_ok-accept.ensures.threads ∙ inv.threads;
      refused = c.in_ok-accept.ensures.refused ∙ inv.refused;
    }

pub returns-in_err-accept-clause-number : goal.returns-in_err-accept-clause-number
returns-in_err-accept-clause-number c =
    let ps = c.args.pieces.now in
    let i = c.loop-piece.piece-index in
    let more = bytes_more ps i c.piece-item.result c.loop-piece-test.true in
    let within = bytes_within (i + 1) ps in
    let bytes = ap (λ (l : List ℕ). length l) (c.as_slice.ensures ∙ ap (λ (p : RedoPiece). p.bytes) c.piece-item.is) in
    omega (arith, c.loop-piece.invariant.number, c.in_err-accept.ensures.number, more, within, bytes)
