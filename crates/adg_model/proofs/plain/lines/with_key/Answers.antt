use Rattle.std.proofs.Common.{◌≡◌, List, insert, sym, ap, ◌∙◌, arith}
use Rattle.adg_base.specs.declared.value.Value.{Value}
use Rattle.adg_model.specs.Plain.{key_place}
use Rattle.adg_model.proofs.PlainLines.{place_fits, no_place}
use Rattle.adg_model.proofs.plain.lines.with_key.Goals as goal

pub insert-requires : goal.insert-requires
insert-requires c =
    let keys : c.as_slice.result.now ≡ c.into_vec-more.result.items = c.as_slice.ensures.value in
    let found = sym c.in-Some.is ∙ c.place_of.ensures in
    let fits = place_fits c.args.key c.as_slice.result.now c.in-Some.place (sym found) in
    omega (arith, fits.within, c.as_slice.ensures.len)

pub returns-in_ok-insert-in-Some : goal.returns-in_ok-insert-in-Some
returns-in_ok-insert-in-Some c =
    let keys : c.as_slice.result.now ≡ c.args.keys = c.as_slice.ensures.value ∙ c.into_vec-more.ensures in
    let found = ap (key_place c.args.key) (sym keys) ∙ sym c.place_of.ensures ∙ c.in-Some.is in
    let fits = place_fits c.args.key c.args.keys c.in-Some.place found in
    c.from_vec.ensures ∙ c.in_ok-insert-in-Some.ensures.items ∙ ap (λ (l : List Value). insert l c.in-Some.place c.args.key) c.into_vec-more.ensures ∙ fits.put

pub returns-in-None : goal.returns-in-None
returns-in-None c =
    let keys : c.as_slice.result.now ≡ c.args.keys = c.as_slice.ensures.value ∙ c.into_vec-more.ensures in
    let none = ap (key_place c.args.key) (sym keys) ∙ sym c.place_of.ensures ∙ c.in-None.is in
    c.from_vec-in-None.ensures ∙ c.into_vec-more.ensures ∙ no_place c.args.key c.args.keys none
