-- The worklink that an actor holds, in the core and in the state that it shows, and what stays where it goes on.
use Rattle.std.proofs.Common.{◌≡◌, ℕ, List, Some, sym, ap, ◌∙◌}
use Rattle.core_rules.specs.State.{Collected, Stage, Link, Quiesce, At}
use Rattle.core_rules.specs.State as rules
use Rattle.standby_core.specs.declared.link.Stage.{Stage as OwnStage}
use Rattle.standby_core.specs.declared.link.Stage.TheVariants.{Unclaimed, Claimed, Finished}
use Rattle.standby_core.specs.declared.link.Link.{Link as OwnLink}
use Rattle.standby_core.specs.declared.flush.Flush.{Flush}
use Rattle.standby_core.specs.Links.{stage_with, ShowsLink, ShowsFlush}
use Rattle.standby_core.proofs.Each.{each_left, each_right}

-- a worklink that an actor holds, on both sides
pub record HeldLink (workers : ℕ) (flush : Flush) (links : List Link) (actor number : ℕ) : Type 0 where
  pub own : OwnLink
  pub link : Link
  pub cursor : ℕ
  pub at : At flush.links.items number own
  pub found : At links number link
  pub own_stage : own.stage ≡ Claimed actor cursor
  pub shows : ShowsLink workers own link
  pub stage : link.stage ≡ rules.Claimed actor cursor shows.collected

module _ (workers : ℕ) (flush : Flush) (quiesce : Quiesce) (links : List Link) (h : ShowsFlush workers flush quiesce links) where
  -- where the core has the number of an actor's worklink, the actor holds it
  pub held_link : (actor number : ℕ) → At flush.held.items actor (Some number) → HeldLink workers flush links actor number
  held_link actor number k =
      let r = h.numbers.holds actor number k in
      let l = each_right (λ n. ShowsLink workers) flush.links.items links h.links number r.0 r.2 in
      record {
        own = r.0;
        link = l.0;
        cursor = r.1;
        at = r.2;
        found = l.1;
        own_stage = r.3;
        shows = l.2;
        stage = l.2.stage ∙ ap (stage_with l.2.collected) r.3;
      }

  -- and where an actor of the state holds a worklink, the core has its number
  claimed_stage : (x : OwnStage) (actor cursor : ℕ) (collected more : List Collected) → rules.Claimed actor cursor collected ≡ stage_with more x → (x ≡ Claimed actor cursor) × (collected ≡ more)
  claimed_stage Unclaimed actor cursor collected more e = absurd cc
  claimed_stage (Claimed a k) actor cursor collected more e = (cc, cc)
  claimed_stage Finished actor cursor collected more e = absurd cc

  pub held_number : (actor number cursor : ℕ) (link : Link) (collected : List Collected) → At links number link → link.stage ≡ rules.Claimed actor cursor collected → At flush.held.items actor (Some number)
  held_number actor number cursor link collected at stage =
      let r = each_left (λ n. ShowsLink workers) flush.links.items links h.links number link at in
      let s = claimed_stage r.0.stage actor cursor collected r.2.collected (sym stage ∙ r.2.stage) in
      h.numbers.held actor number cursor r.0 r.1 s.0
