-- Takings one after the other.
use Rattle.std.proofs.Common.{◌≡◌, ℕ, ◌+◌, ◌≤◌, List, [], ◌++◌, Option, refl, sym, ap, ◌∙◌, arith, append_assoc, append-nil, length-append}
use Rattle.std.proofs.KnownBytes.{Consumes-nil, Consumes-trans}
use Rattle.adg_model.specs.declared.fault.FeedKind.{FeedKind}
use Rattle.feed_frames.specs.Intake.{Took, TookOnto, Misses}

pub took_none : (a : Option (List ℕ)) (n : ℕ) → Took a a n n []
took_none a n = record { consumed = Consumes-nil a; counted = omega arith }

pub took_both : (a b c : Option (List ℕ)) (k m n : ℕ) (first second : List ℕ) → Took a b k m first → Took b c m n second → Took a c k n (first ++ second)
took_both a b c k m n first second p q = record {
  consumed = Consumes-trans a b c first second p.consumed q.consumed;
  counted = omega (arith, length-append first second, p.counted, q.counted);
}

pub onto_none : (a : Option (List ℕ)) (n : ℕ) (items : List ℕ) → TookOnto a a n n items items 0
onto_none a n items = record { bytes = []; took = took_none a n; whole = refl; appended = sym (append-nil items) }

pub onto_both : (a b c : Option (List ℕ)) (k m n : ℕ) (old mid new : List ℕ) (i j w : ℕ) → TookOnto a b k m old mid i → TookOnto b c m n mid new j → w ≡ i + j
    → TookOnto a c k n old new w
onto_both a b c k m n old mid new i j w p q e = record {
  bytes = p.bytes ++ q.bytes;
  took = took_both a b c k m n p.bytes q.bytes p.took q.took;
  whole = omega (arith, length-append p.bytes q.bytes, p.whole, q.whole, e);
  appended = q.appended ∙ ap (λ l. l ++ q.bytes) p.appended ∙ append_assoc old p.bytes q.bytes;
}

-- what was missing after a taking is missing of the whole
pub misses_after : (a b c : Option (List ℕ)) (k m n : ℕ) (old mid : List ℕ) (i j w : ℕ) (kind : FeedKind) → TookOnto a b k m old mid i → Misses b c m n j kind → i + j ≤ w
    → Misses a c k n w kind
misses_after a b c k m n old mid i j w kind p q e = record {
  bytes = p.bytes ++ q.bytes;
  took = took_both a b c k m n p.bytes q.bytes p.took q.took;
  fewer = omega (arith, length-append p.bytes q.bytes, p.whole, q.fewer, e);
  missing = q.missing;
}
