-- What the tests scan.
use Rattle.std.proofs.Common.{◌≡◌, ℕ, ◌==◌, ◌&&◌, ◌||◌, Bool, List, [], ◌∷◌, length, filter, refl, sym, ap, ap₂, subst, ◌∙◌, arith}
use Rattle.std.specs.List.{AllByRecursion}
use Rattle.adg_base.specs.Address.{Place, place, extent_places}
use Rattle.adg_base.specs.declared.value.Value.{Value}
use Rattle.column_codec.specs.Extent.{PlacedColumns, AreColumns}
use Rattle.row_blocks.specs.declared.shard.Shard.{Shard}
use Rattle.adg_model.specs.Sound.{IsLog}
use Rattle.row_blocks.specs.Shards.{StandAtStart, shards_in}
use Rattle.row_blocks.specs.Settled.{AreEachSettled}
use Rattle.hybrid_scan.specs.Reader.{AreServing}

abbrev second_and_last : Place → Bool
second_and_last a = ((a.block == 0) && (a.slot == 1)) || ((a.block == 15) && (a.slot == 63))

are_kept : filter second_and_last (extent_places 1 0) ≡ place 1 0 1 ∷ place 1 15 63 ∷ []
are_kept = refl

pub wide_are_columns : (obj : ℕ) (c : PlacedColumns) (a b : Place) (values nulls : List Value) → obj ≡ 1 → c.addresses ≡ a ∷ b ∷ [] → a ≡ place obj 0 1 → b ≡ place obj 15 63 → c.columns ≡ values ∷ nulls ∷ [] → length values ≡ 2 → length nulls ≡ 2 → AreColumns obj 0 c
wide_are_columns obj c a b values nulls one two first last columns count nulls_count =
    let here : c.addresses ≡ place 1 0 1 ∷ place 1 15 63 ∷ [] = two ∙ ap₂ (λ x y. x ∷ y ∷ []) (first ∙ ap (λ o. place o 0 1) one) (last ∙ ap (λ o. place o 15 63) one) in
    subst (λ o. AreColumns o 0 c) (sym one) (record {
      kept = second_and_last;
      order = here ∙ sym are_kept;
      values = subst (AllByRecursion (λ column. length column ≡ length c.addresses)) (sym columns) (count ∙ sym (ap length here), (nulls_count ∙ sym (ap length here), tt));
    })

no_log : IsLog [] 0
no_log = record { sound = tt; places = refl; scns = tt }

-- shards to which nothing was applied serve each SCN
pub new_serving : (shards : List Shard) (q : ℕ) → length shards ≡ 64 → StandAtStart (shards_in shards) → AreEachSettled [] shards → AreServing shards q
new_serving shards q count start settled =
    let stand = start [] 0 no_log in
    record {
      count = count;
      log = [];
      frontier = 0;
      floor = 0;
      is_log = no_log;
      from_floor = omega arith;
      serve = λ n k. record { number = stand.numbers n k; stands = stand.each n k; applied = tt };
      settled = settled;
    }
