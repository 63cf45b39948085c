use Rattle.std.proofs.Common.{◌≡◌, ◌<◌, ℕ, true, nat_eq, cond, None, Some, List, length, sym, ap, ◌∙◌, subst, arith}
use Rattle.std.specs.Cmp.Lexicographic.{pointwise}
use Rattle.std.specs.HashMap.{UpdatesBy, get_by}
use Rattle.std.specs.List.{slice_index_or}
use Rattle.std.proofs.lemmas.List.{get_or_default}
use Rattle.scan_eval.specs.Places.{is_text_open, near_text, text_slot}
use Rattle.scan_eval.proofs.NearPlaces.{past, near_texts, far_texts, taken_text}
use Rattle.scan_eval.proofs.TextKeys.{has_bytes, same_bytes, after_change, equal_bytes}
use Rattle.scan_eval.proofs.text_index.TextIndex.insert.Goals as goal
use Rattle.scan_eval.proofs.text_index.TextIndex.insert.Goals.{else-slot-len-via-then-slot-len+else-is_open, else-slot-len-via-else-slot-len}

pub returns-in_ok-text : goal.returns-in_ok-text
returns-in_ok-text c = λ t.
    let index = c.make_slots.new.self in
    let slot = c.slot_of-slot.result in
    let text = c.args.text.now in
    let within : slot < length index.near.items = omega (arith, c.if-slot-len.true) in
    let entry : c.index.result.now ≡ slice_index_or index.near.items slot None = c.index.ensures ∙ get_or_default index.near.items slot c.index.result.now None within in
    let vacant : is_text_open (slice_index_or index.near.items slot None) text ≡ true = ap (λ o. is_text_open o text) (sym entry) ∙ sym c.is_open.ensures ∙ c.if-is_open.true in
    near_texts index.near.items slot text c.in_ok-text.text c.args.place t (get_by (has_bytes t) index.far) (c.slot_of-slot.ensures ∙ ap text_slot c.as_bytes.ensures.value) c.in_ok-text.ensures within vacant
    ∙ ap (λ o. cond (pointwise nat_eq t text) (Some c.args.place) o) (c.in_ok-make_slots.ensures t)

pub returns-in_ok-insert : goal.returns-in_ok-insert
returns-in_ok-insert c = λ t.
    let index = c.make_slots.new.self in
    let slots = index.near.items in
    let slot = c.slot_of-slot.result in
    let text = c.args.text.now in
    let at : slot ≡ text_slot text = c.slot_of-slot.ensures ∙ ap text_slot c.as_bytes.ensures.value in
    let absent : near_text (slice_index_or slots slot None) text ≡ None = elim c.else-slot-len.branch [
      | else-slot-len-via-then-slot-len+else-is_open w ↦
          let within : slot < length slots = omega (arith, w.if-slot-len.true) in
          let entry : w.index.result.now ≡ slice_index_or slots slot None = w.index.ensures ∙ get_or_default slots slot w.index.result.now None within in
          taken_text (slice_index_or slots slot None) text (ap (λ o. is_text_open o text) (sym entry) ∙ sym w.is_open.ensures ∙ w.if-is_open.false)
      | else-slot-len-via-else-slot-len w ↦ ap (λ o. near_text o text) (past slots slot (omega (arith, w.if-slot-len.false)))
    ] in
    let bytes : c.in_ok-bytes.bytes.items ≡ text = c.in_ok-bytes.ensures.items ∙ c.as_bytes-else-slot-len.ensures.value in
    let changed = subst (λ (l : List ℕ). UpdatesBy same_bytes (has_bytes l) index.far c.insert.new.self (Some c.args.place)) bytes c.in_ok-insert.ensures.updates in
    let far = get_by (has_bytes t) index.far in
    far_texts slots text c.args.place t far (get_by (has_bytes t) c.insert.new.self) (ap (λ i. near_text (slice_index_or slots i None) text) (sym at) ∙ absent) (after_change text index.far c.insert.new.self (Some c.args.place) changed t ∙ ap (λ b. cond b (Some c.args.place) far) (sym (equal_bytes t text)))
    ∙ ap (λ o. cond (pointwise nat_eq t text) (Some c.args.place) o) (c.in_ok-make_slots.ensures t)
