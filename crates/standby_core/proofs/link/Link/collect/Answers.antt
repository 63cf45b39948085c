use Rattle.std.proofs.Common.{refl}
use Rattle.standby_core.proofs.Gathering.{link_takes}
use Rattle.standby_core.proofs.link.Link.collect.Goals as goal

pub returns : goal.returns
returns c =
    link_takes c.args.self.now _ c.as_slice.result.now c.as_slice-2.result.now c.args.area.now c.gather.new.area c.forget.new.area
    c.as_slice.ensures c.as_slice-2.ensures c.gather.ensures c.forget.ensures.area c.forget.ensures.gives refl refl
