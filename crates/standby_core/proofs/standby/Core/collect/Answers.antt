use Rattle.std.proofs.Common.{◌≡◌, ◌<◌, length, refl, sym, true≢false, arith}
use Rattle.std.specs.Prelude.{slice_get, None}
use Rattle.core_rules.specs.State.{At}
use Rattle.standby_core.proofs.Cursor.{number_within, is_held}
use Rattle.standby_core.proofs.Collected.{not_ready_collect, none_to_collect, collect_bars, no_area, collect_area, collect_room, collect_moves}
use Rattle.standby_core.proofs.Places.{at_read, none_read}
use Rattle.standby_core.proofs.standby.Core.collect.Goals as goal

pub returns-in_default : goal.returns-in_default
returns-in_default c c' h = not_ready_collect c.args.self.now c' h c.args.actor (none_to_collect c.args.self.now c' h c.args.actor c.in_default.ensures)

pub index_mut-link-requires : goal.index_mut-link-requires
index_mut-link-requires c =
    let within = number_within c.args.self.now c.requires.state c.requires.is c.args.actor c.in-Some.number c.in-Some.ensures in
    omega (arith, within, c.args.self.now.flush.links.ok.0)

pub returns-in_default-stage : goal.returns-in_default-stage
returns-in_default-stage c c' h =
    let core = c.args.self.now in
    let own = c.index_mut-link.result.now in
    let at : At core.flush.links.items c.in-Some.number own = at_read core.flush.links.items c.in-Some.number own (number_within core c' h c.args.actor c.in-Some.number c.in-Some.ensures) c.index_mut-link.ensures.value in
    let r = is_held core c' h c.args.actor c.in-Some.number c.in-Some.ensures own at in
    absurd (c.in_default-stage.not-Claimed c.args.actor r.0 r.1)

pub returns-in_default-get_mut : goal.returns-in_default-get_mut
returns-in_default-get_mut c c' h =
    let core = c.args.self.now in
    let own = c.index_mut-link.result.now in
    let at : At core.flush.links.items c.in-Some.number own = at_read core.flush.links.items c.in-Some.number own (number_within core c' h c.args.actor c.in-Some.number c.in-Some.ensures) c.index_mut-link.ensures.value in
    let none : slice_get core.workers.items c.in-Claimed.cursor ≡ None = none_read core.workers.items c.in-Claimed.cursor (λ l. true≢false (sym (c.in_default-get_mut.ensures.variant.1 (omega (arith, l, core.workers.ok.0))))) in
    collect_bars core c' h c.args.actor c.in-Some.number c.in-Some.ensures own at _ c.in-Claimed.cursor c.in-Claimed.is
    (no_area core c' h c.args.actor c.in-Some.number c.in-Some.ensures own at _ c.in-Claimed.cursor c.in-Claimed.is none) _ refl

pub collect-requires-clause-area : goal.collect-requires-clause-area
collect-requires-clause-area c =
    let core = c.args.self.now in
    let own = c.index_mut-link.result.now in
    let at : At core.flush.links.items c.in-Some.number own = at_read core.flush.links.items c.in-Some.number own (number_within core c.requires.state c.requires.is c.args.actor c.in-Some.number c.in-Some.ensures) c.index_mut-link.ensures.value in
    let x = c.in-Some-get_mut.worker.now in
    let few : c.in-Claimed.cursor < length core.workers.items = omega (arith, c.in-Some-get_mut.ensures.variant.0 refl, core.workers.ok.0) in
    let at_x : At core.workers.items c.in-Claimed.cursor x = at_read core.workers.items c.in-Claimed.cursor x few c.in-Some-get_mut.ensures.value in
    collect_area core c.requires.state c.requires.is c.args.actor c.in-Some.number c.in-Some.ensures own at _ c.in-Claimed.cursor c.in-Claimed.is x at_x

pub collect-requires-clause-room : goal.collect-requires-clause-room
collect-requires-clause-room c =
    let core = c.args.self.now in
    let own = c.index_mut-link.result.now in
    let at : At core.flush.links.items c.in-Some.number own = at_read core.flush.links.items c.in-Some.number own (number_within core c.requires.state c.requires.is c.args.actor c.in-Some.number c.in-Some.ensures) c.index_mut-link.ensures.value in
    let x = c.in-Some-get_mut.worker.now in
    let few : c.in-Claimed.cursor < length core.workers.items = omega (arith, c.in-Some-get_mut.ensures.variant.0 refl, core.workers.ok.0) in
    let at_x : At core.workers.items c.in-Claimed.cursor x = at_read core.workers.items c.in-Claimed.cursor x few c.in-Some-get_mut.ensures.value in
    collect_room core c.requires.state c.requires.is c.args.actor c.in-Some.number c.in-Some.ensures own at _ c.in-Claimed.cursor c.in-Claimed.is x at_x

pub returns : goal.returns
returns c c' h =
    let core = c.args.self.now in
    let own = c.index_mut-link.result.now in
    let at : At core.flush.links.items c.in-Some.number own = at_read core.flush.links.items c.in-Some.number own (number_within core c' h c.args.actor c.in-Some.number c.in-Some.ensures) c.index_mut-link.ensures.value in
    let x = c.in-Some-get_mut.worker.now in
    let few : c.in-Claimed.cursor < length core.workers.items = omega (arith, c.in-Some-get_mut.ensures.variant.0 refl, core.workers.ok.0) in
    let at_x : At core.workers.items c.in-Claimed.cursor x = at_read core.workers.items c.in-Claimed.cursor x few c.in-Some-get_mut.ensures.value in
    collect_moves core c' h c.args.actor c.in-Some.number c.in-Some.ensures own at _ c.in-Claimed.cursor c.in-Claimed.is x at_x c.collect.new.self c.collect.new.area _ _ c.collect.ensures refl refl
