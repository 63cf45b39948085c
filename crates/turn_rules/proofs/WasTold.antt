-- Where an object was populated last, by what a session was told.
use Rattle.std.proofs.Common.{◌≡◌, ℕ, List, [], ◌∷◌, ◌++◌, Option, Some, None, refl, sym, ap, ◌∙◌, cond, Bool, true, false}
use Rattle.adg_base.specs.declared.answer.Reply.{Reply}
use Rattle.core_rules.specs.ColumnUse.{Told, Before, WasPopulated, populates, populated_scn, populated_by, or_earlier, last_populated}

pub was_none : (b : Before) (obj scn : ℕ) (told : List Told) → last_populated obj told ≡ None → WasPopulated b obj scn told → b.populated obj scn
was_none b obj scn told e h = rw e at h

pub was_some : (b : Before) (obj scn last : ℕ) (told : List Told) → last_populated obj told ≡ Some last → WasPopulated b obj scn told → last ≡ scn
was_some b obj scn last told e h = rw e at h

pub from_none : (b : Before) (obj scn : ℕ) (told : List Told) → last_populated obj told ≡ None → b.populated obj scn → WasPopulated b obj scn told
from_none b obj scn told e h = rw e h

pub from_some : (b : Before) (obj scn last : ℕ) (told : List Told) → last_populated obj told ≡ Some last → last ≡ scn → WasPopulated b obj scn told
from_some b obj scn last told e h = rw e h

-- one reply more
or_none : (o : Option ℕ) → or_earlier o None ≡ o
or_none None = refl
or_none (Some n) = refl

or_assoc : (a b c : Option ℕ) → or_earlier (or_earlier a b) c ≡ or_earlier a (or_earlier b c)
or_assoc None b c = refl
or_assoc (Some n) b c = refl

pub last_more : (obj : ℕ) (told : List Told) (t : Told) → last_populated obj (told ++ t ∷ []) ≡ or_earlier (populated_by obj t) (last_populated obj told)
last_more obj [] t = sym (or_none (populated_by obj t))
last_more obj (s ∷ told) t = ap (λ o. or_earlier o (populated_by obj s)) (last_more obj told t) ∙ or_assoc (populated_by obj t) (last_populated obj told) (populated_by obj s)

-- a reply that does not say Populated leaves it
pub last_left : (obj : ℕ) (told : List Told) (text : List ℕ) (said : Reply) → populated_scn said ≡ None → last_populated obj (told ++ (text, said) ∷ []) ≡ last_populated obj told
last_left obj told text said h = last_more obj told (text, said) ∙ ap (λ o. or_earlier o (last_populated obj told)) (silent (populates obj text))
  where
    silent : (b : Bool) → cond b (populated_scn said) None ≡ None
    silent true = h
    silent false = refl

pub was_same : (b : Before) (obj scn : ℕ) (told more : List Told) → last_populated obj more ≡ last_populated obj told → WasPopulated b obj scn more → WasPopulated b obj scn told
was_same b obj scn told more e h = by_last (last_populated obj told) refl
  where
    by_last : (o : Option ℕ) → last_populated obj told ≡ o → WasPopulated b obj scn told
    by_last None k = from_none b obj scn told k (was_none b obj scn more (e ∙ k) h)
    by_last (Some last) k = from_some b obj scn last told k (was_some b obj scn last more (e ∙ k) h)
