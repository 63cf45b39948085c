use Rattle.std.proofs.Common.{◌≡◌, ◌<◌, true, cond, None, Some, length, w64, to_z, of_z, sym, ap, ap₂, ◌∙◌, arith}
use Rattle.std.specs.Ordering.{int_eq}
use Rattle.std.specs.HashMap.{get}
use Rattle.std.specs.List.{slice_index_or}
use Rattle.std.proofs.lemmas.Int.{to_z-of_z}
use Rattle.std.proofs.lemmas.List.{get_or_default}
use Rattle.scan_eval.specs.Places.{is_number_open, number_slot}
use Rattle.scan_eval.proofs.NearPlaces.{near_numbers}
use Rattle.scan_eval.proofs.number_index.NumberIndex.insert.Goals as goal

pub returns-then-is_open : goal.returns-then-is_open
returns-then-is_open c = λ n.
    let index = c.make_slots.new.self in
    let slot = c.slot_of-slot.result in
    let number : to_z w64 (of_z w64 c.args.number) ≡ c.args.number = to_z-of_z w64 c.args.number c.ranges.number in
    let within : slot < length index.near.items = omega (arith, c.if-slot-len.true) in
    let entry : c.index.result.now ≡ slice_index_or index.near.items slot None = c.index.ensures ∙ get_or_default index.near.items slot c.index.result.now None within in
    let vacant : is_number_open (slice_index_or index.near.items slot None) c.args.number ≡ true = sym (ap₂ is_number_open entry number) ∙ sym c.is_open.ensures ∙ c.if-is_open.true in
    near_numbers index.near.items slot c.args.number (to_z w64 (of_z w64 c.args.number)) c.args.place n (get int_eq index.far n) (c.slot_of-slot.ensures ∙ ap number_slot number) number within vacant
    ∙ ap (λ o. cond (int_eq n c.args.number) (Some c.args.place) o) (c.in_ok-make_slots.ensures n)
