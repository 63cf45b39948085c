use Rattle.std.proofs.Common.{◌≡◌, ◌≤◌, [], ◌∷◌, length, sym, ap, subst, ◌∙◌, arith}
use Rattle.adg_base.specs.Address.{place, block_places}
use Rattle.population.specs.Building.{AreRowsOf, Fit}
use Rattle.population.proofs.Blocks.{all_append}
use Rattle.storage_tests.proofs.Slots.{first_slots, slot_more, all_rows, unwrapped}
use Rattle.storage_tests.proofs.builds.full_block.Goals as goal

pub loop-slot-preserved : goal.loop-slot-preserved
loop-slot-preserved c =
    let n = c.loop-slot.slot in
    let at = unwrapped c.new.result c.unwrap-addr.result (place c.args.obj c.args.block n) c.new.ensures.value c.unwrap-addr.ensures in
    record {
      places = slot_more c.args.obj c.args.block n c.loop-slot.rows.items c.push.new.self.items (record { addr = c.unwrap-addr.result; row = c.in_ok-row.row }) c.loop-slot.invariant.places c.in_ok-push.ensures.items at;
      fit = subst (Fit 3) (sym c.in_ok-push.ensures.items)
          (all_append (λ r. length r.row ≤ 3) c.loop-slot.rows.items (record { addr = c.unwrap-addr.result; row = c.in_ok-row.row } ∷ []) c.loop-slot.invariant.fit (c.in_ok-row.ensures, tt));
    }

pub returns-clause-places : goal.returns-clause-places
returns-clause-places c =
    let whole : c.loop-slot.slot ≡ 64 = omega (arith, c.loop-slot-test.false, c.loop-slot.auto.slot-end) in
    subst (AreRowsOf (block_places c.args.obj c.args.block)) (sym c.from_vec.ensures)
    (all_rows c.args.obj c.args.block c.loop-slot.rows.items (c.loop-slot.invariant.places ∙ ap (first_slots c.args.obj c.args.block) whole))
