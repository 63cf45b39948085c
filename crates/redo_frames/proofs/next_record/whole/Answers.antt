use Rattle.std.proofs.Common.{◌≤◌, ◌<◌, ◌^◌, ap, arith, refl}
use Rattle.adg_model.specs.Records.{Mark, stated_scn}
use Rattle.adg_model.proofs.RecordsFault.{fault_whole, whole_range, whole_order}
use Rattle.redo_frames.proofs.NextRecordLaws.{PassesChecks, Begins_where_checked}
use Rattle.redo_frames.proofs.next_record.whole.Goals as goal

pub returns-in_default : goal.returns-in_default
returns-in_default c =
    let far = c.in_default.ensures.range.1 in
    let bad : (1 ≤ stated_scn c.args.bytes.now) × (stated_scn c.args.bytes.now < 2 ^ 48) → ⊥ = λ r. absurd (cc (far (omega (arith, r.1)))) in
    grind (arith, fault_whole, whole_range, bad)

pub returns-then-number-mark : goal.returns-then-number-mark
returns-then-number-mark c =
    let same = ap (λ (m : Mark). m.scn) c.mark.view_is in
    grind (arith, fault_whole, whole_order, same)

pub returns : goal.returns
returns c =
    let same = ap (λ (m : Mark). m.scn) c.mark.view_is in
    let passes : PassesChecks c.args.mark c.args.bytes.now = record {
      open_thread = c.requires.open_thread;
      long = omega arith;
      whole = omega arith;
      trailer = rw (← c.requires.stated) (omega arith);
      from = omega arith;
      to = omega (arith, c.in-Some.ensures.range.0 refl);
      rises = omega (arith, same);
    } in
    (Begins_where_checked c.args.mark c.args.bytes.now (λ i. omega (arith, c.type_inv.bytes i)) passes, c.requires.stated, grind arith)
