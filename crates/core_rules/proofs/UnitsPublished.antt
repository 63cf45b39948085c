-- The publication keeps what holds of the units: what was cut is flushed at every unit shard.
use Rattle.std.proofs.Common.{◌≡◌, ℕ, ◌<◌, ◌≤◌, true, false, [], Some, None, ◌⊎◌, inl, inr, refl, sym, ap, subst, arith}
use Rattle.std.specs.Prelude.{nat_lt}
use Rattle.std.proofs.lemmas.Bool.{ltb-true, ltb-false}
use Rattle.core_rules.specs.Share.{EndedWithin, CommitsAt, NotRedefined}
use Rattle.core_rules.specs.State.{CoreState, Stage, Unclaimed, Claimed, Finished, Link, ColumnUnit, At, cut_through, limit, is_past, is_finished, PassesDrop}
use Rattle.core_rules.specs.Flush.{Publishes}
use Rattle.core_rules.specs.UnitParts.{Counts, UnitIs}
use Rattle.core_rules.specs.Invariant.{Invariant, unit_place, AllUnits}
use Rattle.core_rules.proofs.Keeps.{KeepsPart, EndsHaveItems, RedefinitionsHaveItems}
use Rattle.core_rules.proofs.Lists.{each_at, is_true}
use Rattle.core_rules.proofs.UnitsTouched.{commit_is_end}

-- A worklink that is done is past every place.
done_past : (place : ℕ) (stage : Stage) → is_finished stage ≡ true → is_past place stage ≡ true
done_past place Unclaimed h = h
done_past place (Claimed actor cursor collected) h = let e : false ≡ true = h in absurd cc
done_past place Finished h = refl

-- A commit at an SCN above one and at most at another ends its transaction between them.
pub commit_cut : (c : CoreState) (t scn low high : ℕ) → CommitsAt c.log t scn → low < scn → scn ≤ high → EndedWithin c.log low high t
commit_cut c t scn low high commit above upto = record {
  entry = commit.entry;
  within = commit.within;
  above = subst (λ (n : ℕ). low < n) (sym commit.at) above;
  upto = subst (λ (n : ℕ). n ≤ high) (sym commit.at) upto;
  end = commit_is_end t commit.flag commit.entry.vector commit.commits;
}

-- Of a publication:
module _ (c new : CoreState) (r : Publishes c new) (i : Invariant c) where
  is_cut : limit c ≡ r.through
  is_cut = ap (cut_through c.query) r.flushing

  forward : c.query ≤ r.through
  forward = subst (λ (n : ℕ). c.query ≤ n) is_cut i.numbers.published

  past_all : (number place : ℕ) (link : Link) → At c.links number link → is_past place link.stage ≡ true
  past_all number place link found = done_past place link.stage (each_at (λ (l : Link). is_finished l.stage ≡ true) c.links number link r.done found)

  -- a transaction that committed up to the SCN counts already
  commit_counts : EndsHaveItems → (place t scn : ℕ) → CommitsAt c.log t scn → scn ≤ r.through → Counts c.query c.links place t scn
  commit_counts have place t scn commit upto = by_order (is_true (nat_lt c.query scn))
    where
      by_order : (nat_lt c.query scn ≡ true) ⊎ (nat_lt c.query scn ≡ false) → Counts c.query c.links place t scn
      by_order (inr e) = inl (ltb-false c.query scn e)
      by_order (inl e) =
          let cut : EndedWithin c.log c.query (limit c) t = commit_cut c t scn c.query (limit c) commit (ltb-true c.query scn e) (subst (λ (n : ℕ). scn ≤ n) (sym is_cut) upto) in
          let item = have c i t cut in
          inr (record { number = item.number; link = item.link; found = item.found; past = past_all item.number place item.link item.found; of = item.has })

  -- and the definition of a unit's object did not change up to it
  published_same : RedefinitionsHaveItems → (place obj snapshot : ℕ) → NotRedefined c.log obj snapshot c.query → (PassesDrop c.links place obj → ⊥)
      → NotRedefined c.log obj snapshot r.through
  published_same have place obj snapshot same kept e within change above upto = by_order (is_true (nat_lt c.query e.scn))
    where
      by_order : (nat_lt c.query e.scn ≡ true) ⊎ (nat_lt c.query e.scn ≡ false) → ⊥
      by_order (inr low) = same e within change above (ltb-false c.query e.scn low)
      by_order (inl high) =
          let item = have c i obj e within change (ltb-true c.query e.scn high) (subst (λ (n : ℕ). e.scn ≤ n) (sym is_cut) upto) in
          kept (record { number = item.number; link = item.link; found = item.found; past = past_all item.number place item.link item.found; of = item.has })

  unit_published : EndsHaveItems → RedefinitionsHaveItems → (place obj extent : ℕ) (u : ColumnUnit) → UnitIs c.log c.query c.ticket c.links place obj extent u
      → UnitIs c.log r.through c.ticket [] place obj extent u
  unit_published ends_have changes_have place obj extent u is = record {
    snapshot = up is.snapshot forward;
    ticket = is.ticket;
    built = is.built;
    covered = λ t scn commit above counts same. is.covered t scn commit above (commit_counts ends_have place t scn commit (upto t scn counts)) same;
    stands = record { same = published_same changes_have place obj u.snapshot is.stands.same is.stands.kept; kept = λ p. no_element_at p.number p.link p.found };
  }
    where
      up : u.snapshot ≤ c.query → c.query ≤ r.through → u.snapshot ≤ r.through
      up low high = omega arith

      no_element_at : (number : ℕ) (link : Link) → At [] number link → ⊥
      no_element_at number link found = let e : None ≡ Some link = found in absurd cc

      upto : (t scn : ℕ) → Counts r.through [] place t scn → scn ≤ r.through
      upto t scn (inl l) = l
      upto t scn (inr p) = absurd (no_element_at p.number p.link p.found)

pub publish_units : EndsHaveItems → RedefinitionsHaveItems → KeepsPart AllUnits Publishes
publish_units ends_have changes_have facts c new r i = subst AllUnits (sym r.effect) (λ obj extent u h.
    unit_published c new r i ends_have changes_have (unit_place c obj extent) obj extent u (i.units obj extent u h))
