use Rattle.std.proofs.Common.{◌≡◌, ◌≤◌, ◌+◌, ℕ, List, [], ◌∷◌, ◌++◌, length, None, arith, ◌∙◌, refl, ap}
use Rattle.std.proofs.lemmas.Result.{err_from_is_err_and}
use Rattle.adg_model.specs.Feed.{length_fault, payload_fault, command_tag, piece_of, command_of}
use Rattle.adg_model.specs.Feed.Item.{Asks}
use Rattle.adg_base.specs.declared.command.CommandText.{CommandText}
use Rattle.feed_frames.specs.Counts.{standing_of}
use Rattle.feed_frames.proofs.Items.{command_item, gives_one, gives_none, bytes_none}
use Rattle.feed_frames.proofs.Stages.{no_payload, at_first, in_payload, no_memory}
use Rattle.feed_frames.proofs.IntakeLaws.{took_both}
use Rattle.feed_frames.proofs.delivery.Incoming.read_command.Goals as goal

pub returns-in_err-session-clause-item : goal.returns-in_err-session-clause-item
returns-in_err-session-clause-item g c = λ before holds good.
    let p = err_from_is_err_and c.from_residual.result c.from_residual.ensures.1 in
    rw (p.1, p.2) (no_payload (record { good_tag = good.tag; good_length = good.length; small = omega arith }) c.in_err-session.ensures.took (c.requires.room.some (rw c.requires.tag refl)))

pub returns-in_err-check_session-clause-item : goal.returns-in_err-check_session-clause-item
returns-in_err-check_session-clause-item g c = λ before holds good.
    let p = err_from_is_err_and c.from_residual-in_err-check_session.result c.from_residual-in_err-check_session.ensures.1 in
    rw (p.1, p.2) (at_first (record { good_tag = good.tag; good_length = good.length; small = omega arith }) (c.requires.room.some (rw c.requires.tag refl)) c.in_ok-session.ensures.took
    (rw c.requires.tag (c.in_err-check_session.ensures.fault before [] holds.counts)) c.in_err-check_session.ensures.shown)

pub returns-in_err-take_payload-clause-item : goal.returns-in_err-take_payload-clause-item
returns-in_err-take_payload-clause-item g c = λ before holds good.
    let p = err_from_is_err_and c.from_residual-in_err-take_payload.result c.from_residual-in_err-take_payload.ensures.1 in
    let t = c.in_err-take_payload.ensures.took in
    let some : 1 ≤ c.args.head.len = c.requires.room.some (rw c.requires.tag refl) in
    rw (p.1, p.2) (in_payload (c.in_ok-session.session ∷ []) (record { good_tag = good.tag; good_length = good.length; small = omega arith }) c.in_ok-session.ensures.took t (omega (arith, some))
    (rw c.requires.tag (c.in_ok-check_session.ensures.fault before t.bytes holds.counts)))

pub returns-in_err-push-clause-item : goal.returns-in_err-push-clause-item
returns-in_err-push-clause-item g c = λ before holds good.
    let p = err_from_is_err_and c.from_residual-in_err-push.result c.from_residual-in_err-push.ensures.1 in
    let t = c.in_ok-take_payload.ensures.took in
    let some : 1 ≤ c.args.head.len = c.requires.room.some (rw c.requires.tag refl) in
    rw (p.1, p.2) (no_memory (c.in_ok-session.session ∷ t.bytes) (record { good_tag = good.tag; good_length = good.length; small = omega arith })
    (took_both _ _ _ _ _ _ (c.in_ok-session.session ∷ []) t.bytes c.in_ok-session.ensures.took t.took)
    (omega (arith, t.whole, some))
    (rw c.requires.tag (c.in_ok-check_session.ensures.fault before t.bytes holds.counts)))

pub returns-clause-item : goal.returns-clause-item
returns-clause-item g c = λ before holds good.
    let t = c.in_ok-take_payload.ensures.took in
    let st = standing_of c.args.self.now.counts.standing in
    let some : 1 ≤ c.args.head.len = c.requires.room.some (rw c.requires.tag refl) in
    let whole : c.args.head.len ≡ 1 + length t.bytes = omega (arith, t.whole, some) in
    let good_length : length_fault st before command_tag c.args.head.len ≡ None = rw c.requires.tag at good.length in
    let good_session : payload_fault st before command_tag (c.in_ok-session.session ∷ []) ≡ None = c.in_ok-check_session.ensures.fault before [] holds.counts in
    let bytes : c.from_vec-text.result ≡ t.bytes = c.from_vec-text.ensures ∙ t.appended ∙ ap (λ l. l ++ t.bytes) c.new-text.ensures.items in
    let pushed : c.push.new.self ≡ c.args.self.now.commands ++ record { session = c.in_ok-session.session; text = t.bytes } ∷ [] =
    c.in_ok-push.ensures.ok
    ∙ ap {B = List CommandText} (λ (b : List ℕ). c.args.self.now.commands ++ record { session = c.in_ok-session.session; text = b } ∷ []) bytes in
    let item = Asks c.in_ok-session.session t.bytes in
    record {
      item = item;
      took = took_both _ _ _ _ _ _ (c.in_ok-session.session ∷ []) t.bytes c.in_ok-session.ensures.took t.took;
      tag = rw c.requires.tag refl;
      whole = omega (arith, whole);
      follows = command_item st before c.args.head.len c.in_ok-session.session t.bytes good_length good_session whole (omega (arith, c.args.self.now.counts.within.1, holds.counts.redo));
      holds = record {
        counts = c.count_command.ensures.counts before t.bytes holds.counts whole;
        pieces = gives_none piece_of before item _ holds.pieces refl;
        commands = pushed ∙ gives_one command_of before item _ (record { session = c.in_ok-session.session; text = t.bytes }) holds.commands refl;
        schedule = bytes_none before item _ holds.schedule refl;
      };
    }
