use Rattle.std.proofs.Common.{ap}
use Rattle.std.specs.Prelude.{slice_set}
use Rattle.std.proofs.lemmas.Option.{get_or_from_slice_get}
use Rattle.std.proofs.lemmas.Result.{IfOk-weaker}
use Rattle.standby_core.specs.declared.session.Session.TheVariants.{Populating}
use Rattle.standby_core.proofs.Seating.{item_at}
use Rattle.standby_core.proofs.fill.read_next.Goals as goal

pub read_next-requires : goal.read_next-requires
read_next-requires c = λ p e. c.requires.can p (item_at c.args.sessions.now c.args.place (Populating p) c.index-sessions-place.result c.requires.within e)

pub returns-clause-ok : goal.returns-clause-ok
returns-clause-ok c =
    let sessions = c.args.sessions.now in
    IfOk-weaker c.read_next.result _ _ (λ _ f p at. ap (slice_set sessions c.args.place) (f p (get_or_from_slice_get sessions c.args.place (Populating p) c.index-sessions-place.result at))) c.read_next.ensures.ok
