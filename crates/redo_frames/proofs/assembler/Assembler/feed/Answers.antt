use Rattle.std.proofs.Common.{◌∙◌, Option, refl, sym, ap, subst}
use Rattle.std.specs.Prelude.{IsSome}
use Rattle.adg_model.specs.declared.fault.FrameKind.{FrameKind}
use Rattle.redo_frames.specs.Assembly.{Assembly, Holds}
use Rattle.redo_frames.proofs.AssemblyLaws.{Holds_again, Holds_gains}
use Rattle.redo_frames.proofs.assembler.Assembler.feed.Goals as goal

pub returns-in-Some-clause-holds : goal.returns-in-Some-clause-holds
returns-in-Some-clause-holds c =
    let refused = sym c.in-Some.is ∙ ap (λ (a : Assembly). a.refused) c.self.view_is in
    λ ended text records h. Holds_again c.args.self.now text c.args.piece.now records (subst (λ (o : Option FrameKind). IsSome o) refused refl) h

pub returns-in-None-clause-holds : goal.returns-in-None-clause-holds
returns-in-None-clause-holds c =
    λ ended text records h. Holds_gains _ _ text c.args.piece.now records c.in_default.is refl c.in-Ok.ensures.gains (subst (λ (a : Assembly). Holds a text records) (sym c.self.view_is) h)

pub returns-in-Some-fault-clause-holds : goal.returns-in-Some-fault-clause-holds
returns-in-Some-fault-clause-holds c =
    λ ended text records h. Holds_gains _ _ text c.args.piece.now records c.in_default.is refl c.in-Ok.ensures.gains (subst (λ (a : Assembly). Holds a text records) (sym c.self.view_is) h)
