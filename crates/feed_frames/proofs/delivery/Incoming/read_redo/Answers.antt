use Rattle.std.proofs.Common.{◌≡◌, ◌≤◌, ◌+◌, ℕ, List, [], ◌∷◌, ◌++◌, length, None, arith, ◌∙◌, refl, ap}
use Rattle.std.proofs.lemmas.Result.{err_from_is_err_and}
use Rattle.adg_model.specs.Feed.{length_fault, payload_fault, redo_tag, piece_of, command_of}
use Rattle.adg_model.specs.Feed.Item.{Redo}
use Rattle.adg_model.specs.declared.delivery.RedoPiece.{RedoPiece}
use Rattle.feed_frames.specs.Counts.{standing_of}
use Rattle.feed_frames.proofs.Items.{redo_item, gives_one, gives_none, bytes_none}
use Rattle.feed_frames.proofs.Stages.{no_payload, at_first, in_payload, no_memory}
use Rattle.feed_frames.proofs.IntakeLaws.{took_both}
use Rattle.feed_frames.proofs.delivery.Incoming.read_redo.Goals as goal

pub returns-in_err-thread-clause-item : goal.returns-in_err-thread-clause-item
returns-in_err-thread-clause-item g c = λ before holds good.
    let p = err_from_is_err_and c.from_residual.result c.from_residual.ensures.1 in
    rw (p.1, p.2) (no_payload (record { good_tag = good.tag; good_length = good.length; small = omega arith }) c.in_err-thread.ensures.took (c.requires.room.some (rw c.requires.tag refl)))

pub returns-in_err-check_thread-clause-item : goal.returns-in_err-check_thread-clause-item
returns-in_err-check_thread-clause-item g c = λ before holds good.
    let p = err_from_is_err_and c.from_residual-in_err-check_thread.result c.from_residual-in_err-check_thread.ensures.1 in
    rw (p.1, p.2) (at_first (record { good_tag = good.tag; good_length = good.length; small = omega arith }) (c.requires.room.some (rw c.requires.tag refl)) c.in_ok-thread.ensures.took
    (rw c.requires.tag (c.in_err-check_thread.ensures.fault before [])) c.in_err-check_thread.ensures.shown)

pub returns-in_err-take_payload-clause-item : goal.returns-in_err-take_payload-clause-item
returns-in_err-take_payload-clause-item g c = λ before holds good.
    let p = err_from_is_err_and c.from_residual-in_err-take_payload.result c.from_residual-in_err-take_payload.ensures.1 in
    let t = c.in_err-take_payload.ensures.took in
    let some : 1 ≤ c.args.head.len = c.requires.room.some (rw c.requires.tag refl) in
    rw (p.1, p.2) (in_payload (c.in_ok-thread.thread ∷ []) (record { good_tag = good.tag; good_length = good.length; small = omega arith }) c.in_ok-thread.ensures.took t (omega (arith, some))
    (rw c.requires.tag (c.in_ok-check_thread.ensures.fault before t.bytes)))

pub returns-in_err-push-clause-item : goal.returns-in_err-push-clause-item
returns-in_err-push-clause-item g c = λ before holds good.
    let p = err_from_is_err_and c.from_residual-in_err-push.result c.from_residual-in_err-push.ensures.1 in
    let t = c.in_ok-take_payload.ensures.took in
    let some : 1 ≤ c.args.head.len = c.requires.room.some (rw c.requires.tag refl) in
    rw (p.1, p.2) (no_memory (c.in_ok-thread.thread ∷ t.bytes) (record { good_tag = good.tag; good_length = good.length; small = omega arith })
    (took_both _ _ _ _ _ _ (c.in_ok-thread.thread ∷ []) t.bytes c.in_ok-thread.ensures.took t.took)
    (omega (arith, t.whole, some))
    (rw c.requires.tag (c.in_ok-check_thread.ensures.fault before t.bytes)))

pub returns-clause-item : goal.returns-clause-item
returns-clause-item g c = λ before holds good.
    let t = c.in_ok-take_payload.ensures.took in
    let st = standing_of c.args.self.now.counts.standing in
    let some : 1 ≤ c.args.head.len = c.requires.room.some (rw c.requires.tag refl) in
    let whole : c.args.head.len ≡ 1 + length t.bytes = omega (arith, t.whole, some) in
    let good_length : length_fault st before redo_tag c.args.head.len ≡ None = rw c.requires.tag at good.length in
    let good_thread : payload_fault st before redo_tag (c.in_ok-thread.thread ∷ []) ≡ None = c.in_ok-check_thread.ensures.fault before [] in
    let bytes : c.from_vec-bytes.result ≡ t.bytes = c.from_vec-bytes.ensures ∙ t.appended ∙ ap (λ l. l ++ t.bytes) c.new-bytes.ensures.items in
    let pushed : c.push.new.self ≡ c.args.self.now.pieces ++ record { thread = c.in_ok-thread.thread; bytes = t.bytes } ∷ [] =
    c.in_ok-push.ensures.ok
    ∙ ap {B = List RedoPiece} (λ (b : List ℕ). c.args.self.now.pieces ++ record { thread = c.in_ok-thread.thread; bytes = b } ∷ []) bytes in
    let item = Redo c.in_ok-thread.thread t.bytes in
    record {
      item = item;
      took = took_both _ _ _ _ _ _ (c.in_ok-thread.thread ∷ []) t.bytes c.in_ok-thread.ensures.took t.took;
      tag = rw c.requires.tag refl;
      whole = omega (arith, whole);
      follows = redo_item st before c.args.head.len c.in_ok-thread.thread t.bytes good_length good_thread whole;
      holds = record {
        counts = c.count_redo.ensures.counts before c.in_ok-thread.thread t.bytes holds.counts whole;
        pieces = pushed ∙ gives_one piece_of before item _ (record { thread = c.in_ok-thread.thread; bytes = t.bytes }) holds.pieces refl;
        commands = gives_none command_of before item _ holds.commands refl;
        schedule = bytes_none before item _ holds.schedule refl;
      };
    }
