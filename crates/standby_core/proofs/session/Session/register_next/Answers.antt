use Rattle.standby_core.proofs.session.Session.register_next.Goals as goal

pub next_extent-population-requires : goal.next_extent-population-requires
next_extent-population-requires c = c.requires.left c.in-Populating.population c.in-Populating.is
