use Rattle.std.proofs.Common.{◌≡◌, ℕ, List, [], ◌∷◌, ◌++◌, map, sym, ap, ◌∙◌, arith, append-nil}
use Rattle.std.specs.List.{filter_map, range_with_len}
use Rattle.adg_base.specs.declared.value.Value.{Value}
use Rattle.adg_model.specs.Database.{played}
use Rattle.adg_base.specs.Address.{place}
use Rattle.adg_model.specs.Query.{padded}
use Rattle.adg_model.specs.Plain.{no_rows}
use Rattle.adg_model.proofs.PlainMeaning.{slot_more}
use Rattle.adg_model.proofs.plain.meaning.add_rows.Goals as goal

pub loop-slot-init : goal.loop-slot-init
loop-slot-init c = sym (append-nil c.args.rows.now)

pub loop-slot-preserved : goal.loop-slot-preserved
loop-slot-preserved c =
    let one = map (padded c.args.width) (filter_map (played c.args.changes.now no_rows) (place c.args.obj c.args.block c.loop-slot.slot ∷ [])) in
    c.in_ok-add_row.ensures
    ∙ ap (λ (rs : List (List Value)). rs ++ one) c.loop-slot.invariant
    ∙ sym (slot_more (played c.args.changes.now no_rows) c.args.width c.args.obj c.args.block c.loop-slot.slot c.args.rows.now)

pub returns : goal.returns
returns c =
    let all : c.loop-slot.slot ≡ 64 = omega arith in
    c.loop-slot.invariant
    ∙ ap (λ (n : ℕ). c.args.rows.now ++ map (padded c.args.width) (filter_map (played c.args.changes.now no_rows) (map (place c.args.obj c.args.block) (range_with_len 0 n)))) all
