use Rattle.std.proofs.Common.{◌≡◌, refl}
use Rattle.std.specs.Prelude.{Result, Ok, Err, MatchResult}
use Rattle.feed_frames.proofs.OpeningLaws.{no_header}
use Rattle.feed_frames.proofs.opening.read_opening.Goals as goal

no_err : {T E P : Type 0} (Q : E → Type 0) (r : Result T E) → ((e : E) → r ≡ Err e → ⊥) → MatchResult r (λ _. P) Q → P
no_err Q (Ok x) n h = h
no_err Q (Err e) n h = absurd (n e refl)

pub returns-in-Err-read_first_frame-clause-opening :
    goal.returns-in-Err-read_first_frame-clause-opening
returns-in-Err-read_first_frame-clause-opening g c =
    no_header c.requires (no_err _ c.read_magic.result c.in_default.not-Err c.read_magic.ensures.magic) c.in-Err-read_first_frame.ensures.header c.new-in-Err-read_first_frame.ensures
