-- What a session does for a request, by what the look at it tells.
use Rattle.std.proofs.Common.{◌≡◌, ℕ, Bool, true, false, cond, Some, ◌⊎◌, inl, inr, refl, sym, ap, ◌∙◌}
use Rattle.std.specs.Prelude.{nat_lt}
use Rattle.adg_base.specs.declared.command.Select.{Select}
use Rattle.core_rules.specs.declared.event.Event.TheVariants as event
use Rattle.core_rules.specs.State.{CoreState, Session, Free, Populating, Scanning, is_flushing}
use Rattle.standby_core.specs.declared.duties.Duty.{Duty}
use Rattle.standby_core.specs.declared.duties.Duty.TheVariants as duty
use Rattle.standby_core.specs.Duty.{duty_of}
use Rattle.turn_rules.specs.Picks.{Act, Rests, Makes, populate_act, select_act}

-- what is done for a POPULATE, and for a SELECT, by what comes next of what the session has begun
abbrev pub populate_by : (flushing : Bool) (session obj : ℕ) → Duty → Act
populate_by flushing session obj duty.Free = cond flushing Rests (Makes (event.PopBegin session obj))
populate_by flushing session obj duty.Register = Makes (event.PopRegister session)
populate_by flushing session obj duty.Release = Makes (event.PopRelease session)
populate_by flushing session obj duty.Read = Makes (event.PopRead session)
populate_by flushing session obj duty.Install = Makes (event.PopEnd session)
populate_by flushing session obj duty.Gather = Rests
populate_by flushing session obj duty.Answer = Rests

abbrev pub select_by : (session : ℕ) → Select → Duty → Act
select_by session select duty.Free = Makes (event.ScanBegin session select)
select_by session select duty.Gather = Makes (event.ScanExtent session)
select_by session select duty.Answer = Makes (event.ScanEnd session)
select_by session select other = Rests

-- the four things that a population does
by_phase : (flushing : Bool) (session obj : ℕ) (holds left unread : Bool)
    → populate_by flushing session obj (cond holds (cond left duty.Register duty.Release) (cond unread duty.Read duty.Install))
    ≡ Makes (cond holds (cond left (event.PopRegister session) (event.PopRelease session)) (cond unread (event.PopRead session) (event.PopEnd session)))
by_phase flushing session obj true true unread = refl
by_phase flushing session obj true false unread = refl
by_phase flushing session obj false left true = refl
by_phase flushing session obj false left false = refl

pub populates : (c : CoreState) (session obj : ℕ) (s : Session) → populate_by (is_flushing c.quiesce) session obj (duty_of s) ≡ populate_act c session obj (Some s)
populates c session obj Free = refl
populates c session obj (Populating p) = by_phase (is_flushing c.quiesce) session obj p.holds (nat_lt p.registered p.table.extents) (nat_lt p.blocks 16)
populates c session obj (Scanning s) = by_left (nat_lt s.extents s.table.extents)
  where
    by_left : (b : Bool) → populate_by (is_flushing c.quiesce) session obj (cond b duty.Gather duty.Answer) ≡ Rests
    by_left true = refl
    by_left false = refl

-- nothing is done for it while the session scans
pub populates_nothing : (c : CoreState) (session obj : ℕ) (s : Session) (d : Duty) → d ≡ duty_of s → (d ≡ duty.Gather) ⊎ (d ≡ duty.Answer) → Rests ≡ populate_act c session obj (Some s)
populates_nothing c session obj s d is (inl e) = ap (populate_by (is_flushing c.quiesce) session obj) (sym e ∙ is) ∙ populates c session obj s
populates_nothing c session obj s d is (inr e) = ap (populate_by (is_flushing c.quiesce) session obj) (sym e ∙ is) ∙ populates c session obj s

-- and what a scan does
pub selects : (session : ℕ) (select : Select) (s : Session) → select_by session select (duty_of s) ≡ select_act session select (Some s)
selects session select Free = refl
selects session select (Scanning s) = by_left (nat_lt s.extents s.table.extents)
  where
    by_left : (b : Bool) → select_by session select (cond b duty.Gather duty.Answer) ≡ Makes (cond b (event.ScanExtent session) (event.ScanEnd session))
    by_left true = refl
    by_left false = refl
selects session select (Populating p) = by_phases p.holds (nat_lt p.registered p.table.extents) (nat_lt p.blocks 16)
  where
    by_phases : (holds left unread : Bool) → select_by session select (cond holds (cond left duty.Register duty.Release) (cond unread duty.Read duty.Install)) ≡ Rests
    by_phases true true unread = refl
    by_phases true false unread = refl
    by_phases false left true = refl
    by_phases false left false = refl

-- nothing is done for a SELECT while the session populates
pub selects_nothing : (session : ℕ) (select : Select) (s : Session) (d : Duty) → d ≡ duty_of s → (d ≡ duty.Register) ⊎ ((d ≡ duty.Release) ⊎ ((d ≡ duty.Read) ⊎ (d ≡ duty.Install))) → Rests ≡ select_act session select (Some s)
selects_nothing session select s d is (inl e) = ap (select_by session select) (sym e ∙ is) ∙ selects session select s
selects_nothing session select s d is (inr (inl e)) = ap (select_by session select) (sym e ∙ is) ∙ selects session select s
selects_nothing session select s d is (inr (inr (inl e))) = ap (select_by session select) (sym e ∙ is) ∙ selects session select s
selects_nothing session select s d is (inr (inr (inr e))) = ap (select_by session select) (sym e ∙ is) ∙ selects session select s
