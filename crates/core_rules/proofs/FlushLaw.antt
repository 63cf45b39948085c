-- Flush before publish, and what a look at a unit covers.
use Rattle.std.proofs.Common.{◌≡◌, ℕ, ◌<◌, ◌≤◌, true, List, ◌⊎◌, inl, inr, sym, ap, ◌∙◌, subst, arith}
use Rattle.std.specs.List.{Contains}
use Rattle.adg_base.specs.Address.{Place}
use Rattle.adg_base.specs.declared.log.LogEntry.{LogEntry}
use Rattle.adg_model.specs.Database.{touched}
use Rattle.core_rules.specs.Share.{EndedWithin, CommitsAt, NotRedefined}
use Rattle.core_rules.specs.Extents.{IsInExtent}
use Rattle.core_rules.specs.State.{CoreState, ColumnUnit}
use Rattle.core_rules.specs.Flush.{Publishes}
use Rattle.core_rules.specs.LogFacts.{LogHasFacts}
use Rattle.core_rules.specs.UnitParts.{IsCovered}
use Rattle.core_rules.specs.Invariant.{Invariant}
use Rattle.core_rules.specs.Laws.{FlushBeforePublish, IsFlushed, UnitsCover}
use Rattle.core_rules.proofs.Keeps.{Keeps}
use Rattle.core_rules.proofs.UnitsPublished.{commit_cut}
use Rattle.core_rules.proofs.PreciseMarks.{noted_touches}

-- A definition that stays up to an SCN stays up to an earlier one.
same_earlier : (log : List LogEntry) (obj low high scn : ℕ) → scn ≤ high → NotRedefined log obj low high → NotRedefined log obj low scn
same_earlier log obj low high scn earlier same e within change above upto = same e within change above (omega arith)

-- What a transaction touched in an extent and a unit that covers it.
covered_mark : (log : List LogEntry) (t obj extent : ℕ) (u : ColumnUnit) (a : Place) → Contains (touched t log) a → IsInExtent obj extent a → IsCovered log t obj extent u
    → (u.all ≡ true) ⊎ (u.marked a ≡ true)
covered_mark log t obj extent u a touches within (inl whole) = inl whole
covered_mark log t obj extent u a touches within (inr each) = inr (each a touches within)

-- Of the state after a publication, in which nothing else changed: a transaction that committed up to the QuerySCN.
flushed_after : (c after : CoreState) (t scn : ℕ) → after.log ≡ c.log → after.born ≡ c.born → after.units ≡ c.units → Invariant c → Invariant after
    → CommitsAt c.log t scn → c.query < scn → scn ≤ after.query → IsFlushed c after t
flushed_after c after t scn log_is born_is units_are i j commit above upto = record {
  marked = λ a e extent u within notes stands in_extent.
      let is = j.units a.obj extent u stands in
      let was = i.units a.obj extent u (ap (λ us. us a.obj extent) (sym units_are) ∙ stands) in
      let low : u.snapshot ≤ c.query = was.snapshot in
      let since : u.snapshot < scn = omega arith in
      let covered = is.covered t scn commit_after since (inl upto) (same_earlier after.log a.obj u.snapshot after.query scn upto is.stands.same) in
      covered_mark after.log t a.obj extent u a
      (subst (λ (l : List LogEntry). Contains (touched t l) a) (sym log_is) (noted_touches c.log t a e within notes)) in_extent covered;
  no_places = λ worker w a found holds. (j.workers worker w found).area.stays t a holds (inl ended);
  no_begins = λ worker w found holds. (j.workers worker w found).area.begin_stays t holds (inl ended);
}
  where
    commit_after : CommitsAt after.log t scn
    commit_after = subst (λ (l : List LogEntry). CommitsAt l t scn) (sym log_is) commit

    since_restart : after.born < scn
    since_restart =
        let e : after.born ≡ c.born = born_is in
        let l : c.born ≤ c.query = i.numbers.restarted in
        omega arith

    ended : EndedWithin after.log after.born after.query t
    ended = commit_cut after t scn after.born after.query commit_after since_restart upto

pub flush_before_publish : Keeps Publishes → LogHasFacts → FlushBeforePublish
flush_before_publish keeps facts c new t scn i r commit above upto =
    flushed_after c new t scn (ap (λ (s : CoreState). s.log) r.effect) (ap (λ (s : CoreState). s.born) r.effect) (ap (λ (s : CoreState). s.units) r.effect)
    i (keeps facts c new r i) commit above upto

pub units_cover : UnitsCover
units_cover c obj extent scn u i stands low high =
    let is = i.units obj extent u stands in
    record {
      built = is.built;
      snapshot = low;
      same = same_earlier c.log obj u.snapshot c.query scn high is.stands.same;
      marked = λ t commit at above upto. is.covered t commit at above (inl (order commit upto)) (same_earlier c.log obj u.snapshot c.query commit (order commit upto) is.stands.same);
    }
  where
    order : (commit : ℕ) → commit ≤ scn → commit ≤ c.query
    order commit upto = omega arith
