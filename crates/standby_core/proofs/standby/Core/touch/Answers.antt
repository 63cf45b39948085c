use Rattle.std.proofs.Common.{◌≡◌, ◌+◌, ◌<◌, length, rules, refl, sym, true≢false, arith}
use Rattle.std.specs.Prelude.{slice_get, None}
use Rattle.core_rules.specs.State.{At}
use Rattle.standby_core.proofs.Cursor.{number_within, is_held}
use Rattle.standby_core.proofs.Touched.{not_ready_touch, none_to_touch, touch_bars, not_behind_areas, no_shard, touch_lists, touch_moves}
use Rattle.standby_core.proofs.Places.{at_read, none_read}
use Rattle.standby_core.proofs.standby.Core.touch.Goals as goal

pub returns-in_default : goal.returns-in_default
returns-in_default c c' h = not_ready_touch c.args.self.now c' h c.args.actor (none_to_touch c.args.self.now c' h c.args.actor c.in_default.ensures)

pub index_mut-link-requires : goal.index_mut-link-requires
index_mut-link-requires c =
    let within = number_within c.args.self.now c.requires.state c.requires.is c.args.actor c.in-Some.number c.in-Some.ensures in
    omega (arith, within, c.args.self.now.flush.links.ok.0)

pub returns-in_default-stage : goal.returns-in_default-stage
returns-in_default-stage c c' h =
    let core = c.args.self.now in
    let own = c.index_mut-link.result.now in
    let at : At core.flush.links.items c.in-Some.number own = at_read core.flush.links.items c.in-Some.number own (number_within core c' h c.args.actor c.in-Some.number c.in-Some.ensures) c.index_mut-link.ensures.value in
    let r = is_held core c' h c.args.actor c.in-Some.number c.in-Some.ensures own at in
    absurd (c.in_default-stage.not-Claimed c.args.actor r.0 r.1)

pub returns-in_default-checked_sub : goal.returns-in_default-checked_sub
returns-in_default-checked_sub c c' h =
    let core = c.args.self.now in
    let own = c.index_mut-link.result.now in
    let at : At core.flush.links.items c.in-Some.number own = at_read core.flush.links.items c.in-Some.number own (number_within core c' h c.args.actor c.in-Some.number c.in-Some.ensures) c.index_mut-link.ensures.value in
    let below : c.in-Claimed.cursor < length core.workers.items = search rules in
    touch_bars core c' h c.args.actor c.in-Some.number c.in-Some.ensures own at _ c.in-Claimed.cursor c.in-Claimed.is
    (not_behind_areas core c' h c.args.actor c.in-Some.number c.in-Some.ensures own at _ c.in-Claimed.cursor c.in-Claimed.is below) _ refl

pub returns-in_default-get_mut : goal.returns-in_default-get_mut
returns-in_default-get_mut c c' h =
    let core = c.args.self.now in
    let own = c.index_mut-link.result.now in
    let at : At core.flush.links.items c.in-Some.number own = at_read core.flush.links.items c.in-Some.number own (number_within core c' h c.args.actor c.in-Some.number c.in-Some.ensures) c.index_mut-link.ensures.value in
    let shard = c.in-Some-checked_sub.shard in
    let is : c.in-Claimed.cursor ≡ length core.workers.items + shard = search rules in
    let none : slice_get core.units.items shard ≡ None = none_read core.units.items shard (λ l. true≢false (sym (c.in_default-get_mut.ensures.variant.1 (omega (arith, l, core.units.ok.0))))) in
    touch_bars core c' h c.args.actor c.in-Some.number c.in-Some.ensures own at _ c.in-Claimed.cursor c.in-Claimed.is
    (no_shard core c' h c.args.actor c.in-Some.number c.in-Some.ensures own at _ c.in-Claimed.cursor c.in-Claimed.is shard is none) _ refl

pub touch-requires : goal.touch-requires
touch-requires c =
    let core = c.args.self.now in
    let own = c.index_mut-link.result.now in
    let at : At core.flush.links.items c.in-Some.number own = at_read core.flush.links.items c.in-Some.number own (number_within core c.requires.state c.requires.is c.args.actor c.in-Some.number c.in-Some.ensures) c.index_mut-link.ensures.value in
    touch_lists core c.requires.state c.requires.is c.args.actor c.in-Some.number c.in-Some.ensures own at _ c.in-Claimed.cursor c.in-Claimed.is

pub returns : goal.returns
returns c c' h =
    let core = c.args.self.now in
    let own = c.index_mut-link.result.now in
    let at : At core.flush.links.items c.in-Some.number own = at_read core.flush.links.items c.in-Some.number own (number_within core c' h c.args.actor c.in-Some.number c.in-Some.ensures) c.index_mut-link.ensures.value in
    let shard = c.in-Some-checked_sub.shard in
    let is : c.in-Claimed.cursor ≡ length core.workers.items + shard = search rules in
    let t = c.in-Some-get_mut.units.now in
    let few : shard < length core.units.items = omega (arith, c.in-Some-get_mut.ensures.variant.0 refl, core.units.ok.0) in
    let at_t : At core.units.items shard t = at_read core.units.items shard t few c.in-Some-get_mut.ensures.value in
    touch_moves core c' h c.args.actor c.in-Some.number c.in-Some.ensures own at _ c.in-Claimed.cursor c.in-Claimed.is shard t c.touch.new.units _ _ is at_t c.touch.ensures refl refl
