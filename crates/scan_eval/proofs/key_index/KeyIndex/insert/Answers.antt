use Rattle.std.proofs.Common.{◌≡◌, ℕ, cond, List, Some, refl, sym, ap, ◌∙◌}
use Rattle.adg_base.specs.declared.value.Value.{Value}
use Rattle.adg_base.specs.declared.value.Value.TheVariants.{Null, Int, Text}
use Rattle.scan_eval.specs.declared.key_index.KeyIndex.{KeyIndex}
use Rattle.adg_base.specs.Values.{shown, same}
use Rattle.scan_eval.specs.KeyIndex.{place_at}
use Rattle.scan_eval.specs.Places.{number_place, text_place}
use Rattle.scan_eval.proofs.TextKeys.{equal_bytes}
use Rattle.scan_eval.proofs.key_index.KeyIndex.insert.Goals as goal

-- in an index with a new place for a text, the place of each key
by_kind : (old new : KeyIndex) (text : List ℕ) (place : ℕ) → new.null ≡ old.null → new.numbers ≡ old.numbers → ((t : List ℕ) → place_at new (Text t) ≡ cond (same (Text t) (Text text)) (Some place) (place_at old (Text t))) → (k : Value) → place_at new k ≡ cond (same k (Text text)) (Some place) (place_at old k)
by_kind old new text place n i t Null = n
by_kind old new text place n i t (Int a) = ap (λ m. number_place m a) i
by_kind old new text place n i t (Text b) = t b

pub returns-in_ok-insert-in-Text : goal.returns-in_ok-insert-in-Text
returns-in_ok-insert-in-Text c = λ k.
    let index = c.args.self.now in
    let text = c.in-Text.text.now in
    let key : shown c.args.key ≡ Text text = ap shown c.in-Text.is in
    by_kind index (record { null = index.null; numbers = index.numbers; texts = c.insert-in-Text.new.self }) text c.args.place refl refl (λ t. c.in_ok-insert-in-Text.ensures t ∙ ap (λ b. cond b (Some c.args.place) (text_place index.texts t)) (equal_bytes t text)) k
    ∙ ap (λ (v : Value). cond (same k v) (Some c.args.place) (place_at index k)) (sym key)
