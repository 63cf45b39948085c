use Rattle.std.proofs.Common.{◌≡◌, ◌<◌, List, length, sym, subst, arith}
use Rattle.std.specs.Prelude.{MatchBool}
use Rattle.core_rules.specs.State.{At}
use Rattle.column_units.specs.Shard.{Units}
use Rattle.row_blocks.specs.declared.shard.Shard.{Shard}
use Rattle.standby_core.specs.NextExtent.{CanGather, GathersIn, HasNoneLeft}
use Rattle.standby_core.proofs.NextExtent.{can_gather, scan_gathers, none_to_gather}
use Rattle.standby_core.proofs.Scanned.{seat_at}
use Rattle.standby_core.proofs.standby.Core.scan_extent.Goals as goal

pub gather_next-requires : goal.gather_next-requires
gather_next-requires c = λ x is left.
    let within : c.in-Some.place < length c.args.self.now.sessions.items = omega (arith, c.if-place-len.false, c.len.ensures) in
    let at = seat_at c.args.self.now.sessions.items c.in-Some.place c.index_mut-session.result.now within c.index_mut-session.ensures.value in
    subst (λ (l : List Units). CanGather x l c.deref-2.result.now) (sym c.deref.ensures.value)
    (subst (λ (l : List Shard). CanGather x c.args.self.now.units.items l) (sym c.deref-2.ensures.value)
    (can_gather c.args.self.now c.requires.state c.requires.is c.in-Some.place x (subst (At c.args.self.now.sessions.items c.in-Some.place) is at) left))

pub returns-then-branch-clause-ok : goal.returns-then-branch-clause-ok
returns-then-branch-clause-ok c = λ c' h.
    let within : c.in-Some.place < length c.args.self.now.sessions.items = omega (arith, c.if-place-len.false, c.len.ensures) in
    let at = seat_at c.args.self.now.sessions.items c.in-Some.place c.index_mut-session.result.now within c.index_mut-session.ensures.value in
    scan_gathers c.args.self.now c' h c.args.session c.in-Some.place c.index_mut-session.result.now c.gather_next.new.session c.deref.result.now c.deref-2.result.now c.in-Some.ensures at c.deref.ensures.value c.deref-2.ensures.value
    (subst (λ b. MatchBool b (GathersIn c.index_mut-session.result.now c.deref.result.now c.deref-2.result.now c.gather_next.new.session) (HasNoneLeft c.index_mut-session.result.now × (c.gather_next.new.session ≡ c.index_mut-session.result.now))) c.if-branch.true c.in_ok-gather_next.ensures.ok)

pub returns-else-branch-clause-ok : goal.returns-else-branch-clause-ok
returns-else-branch-clause-ok c = λ c' h.
    let within : c.in-Some.place < length c.args.self.now.sessions.items = omega (arith, c.if-place-len.false, c.len.ensures) in
    let at = seat_at c.args.self.now.sessions.items c.in-Some.place c.index_mut-session.result.now within c.index_mut-session.ensures.value in
    let none = subst (λ b. MatchBool b (GathersIn c.index_mut-session.result.now c.deref.result.now c.deref-2.result.now c.gather_next.new.session) (HasNoneLeft c.index_mut-session.result.now × (c.gather_next.new.session ≡ c.index_mut-session.result.now))) c.if-branch.false c.in_ok-gather_next.ensures.ok in
    none_to_gather c.args.self.now c' h c.args.session c.in-Some.place c.index_mut-session.result.now c.gather_next.new.session c.in-Some.ensures at none.0 none.1
