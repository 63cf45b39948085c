-- Apply, Mine, Raise and the events of a flush have an outcome exactly where their guards hold.
use Rattle.std.proofs.Common.{◌≡◌, ℕ, ◌+◌, ◌<◌, length, refl, arith}
use Rattle.core_rules.specs.declared.event.Event.TheVariants as event
use Rattle.core_rules.specs.declared.event.CoreAnswer.TheVariants.{NotReady, Moved}
use Rattle.core_rules.specs.State.{CoreState, share_of}
use Rattle.core_rules.specs.Invariant.{Invariant}
use Rattle.core_rules.specs.Laws.{IsExact}
use Rattle.core_rules.proofs.Lists.{at_within}
use Rattle.core_rules.proofs.ExactWorkers.{possible_apply, possible_mine, possible_raise}
use Rattle.core_rules.proofs.ExactFlush.{possible_begin_flush, possible_claim, possible_collect}
use Rattle.core_rules.proofs.ExactTouch.{possible_touch, possible_finish, possible_publish}

moved : NotReady ≡ Moved → ⊥
moved e = cc

pub apply_exact : (c : CoreState) (worker : ℕ) → Invariant c → IsExact c (event.Apply worker)
apply_exact c worker v = record {
  possible = λ can. let r = possible_apply c worker v can in (Moved, r.0, (refl, r.1));
  guarded = λ answer new h. record { was = h.1.was; found = h.1.found; left = at_within (share_of c worker) h.1.was.applied h.1.entry h.1.next };
  ready = λ new h. moved h.0;
}

pub mine_exact : (c : CoreState) (worker : ℕ) → Invariant c → IsExact c (event.Mine worker)
mine_exact c worker v = record {
  possible = λ can. let r = possible_mine c worker v can in (Moved, r.0, (refl, r.1));
  guarded = λ answer new h. record { was = h.1.was; found = h.1.found; behind = h.1.behind };
  ready = λ new h. moved h.0;
}

pub raise_exact : (c : CoreState) (worker through : ℕ) → IsExact c (event.Raise worker through)
raise_exact c worker through = record {
  possible = λ can. let r = possible_raise c worker through can in (Moved, r.0, (refl, r.1));
  guarded = λ answer new h. record { was = h.1.was; found = h.1.found; above = h.1.above; received = h.1.received; mined = h.1.mined };
  ready = λ new h. moved h.0;
}

pub begin_flush_exact : (c : CoreState) (through : ℕ) → IsExact c (event.BeginFlush through)
begin_flush_exact c through = record {
  possible = λ can. let r = possible_begin_flush c through can in (Moved, r.0, (refl, r.1));
  guarded = λ answer new h. h.1.can;
  ready = λ new h. moved h.0;
}

pub claim_exact : (c : CoreState) (actor : ℕ) → IsExact c (event.Claim actor)
claim_exact c actor = record {
  possible = λ can. let r = possible_claim c actor can in (Moved, r.0, (refl, r.1));
  guarded = λ answer new h. h.1.can;
  ready = λ new h. moved h.0;
}

pub collect_exact : (c : CoreState) (actor : ℕ) → IsExact c (event.Collect actor)
collect_exact c actor = record {
  possible = λ can. let r = possible_collect c actor can in (Moved, r.0, (refl, r.1));
  guarded = λ answer new h. record { number = h.1.number; link = h.1.link; cursor = h.1.cursor; collected = h.1.collected; has = h.1.has; area = at_within c.workers h.1.cursor h.1.was h.1.at };
  ready = λ new h. moved h.0;
}

pub touch_exact : (c : CoreState) (actor : ℕ) → IsExact c (event.Touch actor)
touch_exact c actor = record {
  possible = λ can. let r = possible_touch c actor can in (Moved, r.0, (refl, r.1));
  guarded = λ answer new h. record {
    number = h.1.number;
    link = h.1.link;
    cursor = h.1.cursor;
    collected = h.1.collected;
    has = h.1.has;
    from = let e : h.1.cursor ≡ length c.workers + h.1.shard = h.1.at in omega arith;
    below = let e : h.1.cursor ≡ length c.workers + h.1.shard = h.1.at in let l : h.1.shard < 32 = h.1.is_shard in omega arith;
  };
  ready = λ new h. moved h.0;
}

pub finish_exact : (c : CoreState) (actor : ℕ) → IsExact c (event.Done actor)
finish_exact c actor = record {
  possible = λ can. let r = possible_finish c actor can in (Moved, r.0, (refl, r.1));
  guarded = λ answer new h. record { number = h.1.number; link = h.1.link; cursor = h.1.cursor; collected = h.1.collected; has = h.1.has; end = h.1.end };
  ready = λ new h. moved h.0;
}

pub publish_exact : (c : CoreState) → IsExact c event.Publish
publish_exact c = record {
  possible = λ can. let r = possible_publish c can in (Moved, r.0, (refl, r.1));
  guarded = λ answer new h. record { through = h.1.through; flushing = h.1.flushing; done = h.1.done };
  ready = λ new h. moved h.0;
}
