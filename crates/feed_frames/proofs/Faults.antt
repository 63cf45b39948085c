-- What the definitions of a frame's faults say of its bytes, as they come.
use Rattle.std.proofs.Common.{◌≡◌, ℕ, ◌-◌, ◌^◌, ◌<◌, Bool, true, false, List, [], ◌∷◌, ◌++◌, length, take, Option, Some, None, inl, inr, refl, sym, subst, arith}
use Rattle.std.specs.Ffi.{without_last}
use Rattle.std.specs.Int.{w32, to_be_bytes}
use Rattle.std.proofs.lemmas.List.{length-take}
use Rattle.std.proofs.lemmas.Nat.{from_be_bytes-to_be_bytes_4}
use Rattle.std.proofs.lemmas.Grind.{common_steps}
use Rattle.adg_model.specs.Feed.{Item, Standing, IsCut, fails, ◌else_check◌, frame_fault, tag_fault, length_fault, payload_fault, has_length, stated}
use Rattle.adg_model.specs.declared.fault.FeedKind.{FeedKind}
use Rattle.adg_model.specs.declared.fault.FeedKind.TheVariants as kind
use Rattle.feed_frames.specs.Intake.{IsMissing}
use Rattle.feed_frames.specs.Counts.{IsShown}
use Rattle.feed_frames.specs.Frames.{FrameStops}

-- ---- checks one after the other

pub first_none : (a b : Option FeedKind) → a else_check b ≡ None → a ≡ None
first_none None b h = refl
first_none (Some x) b h = h

pub second_none : (a b : Option FeedKind) → a else_check b ≡ None → b ≡ None
second_none None b h = h
second_none (Some x) b h = cc

pub none_first : (a b : Option FeedKind) → a ≡ None → a else_check b ≡ b
none_first None b h = refl
none_first (Some x) b h = cc

pub then_none : (a : Option FeedKind) → a else_check None ≡ a
then_none None = refl
then_none (Some x) = refl

pub fails_none : (b : Bool) (k : FeedKind) → fails b k ≡ None → b ≡ false
fails_none false k h = refl
fails_none true k h = cc

-- ---- why a frame stops

-- what is cut short is so without its last byte too
pub but_last : (x : ℕ) (xs : List ℕ) → length (x ∷ xs) - 1 ≡ length xs
but_last x xs = omega arith

cut_front : (tag : ℕ) (rest : List ℕ) → IsCut (tag ∷ rest) → IsCut (take (length rest) (tag ∷ rest))
cut_front tag [] c = tt
cut_front tag (a ∷ []) c = inl (omega arith)
cut_front tag (a ∷ b ∷ []) c = inl (omega arith)
cut_front tag (a ∷ b ∷ d ∷ []) c = inl (omega arith)
cut_front tag (a ∷ b ∷ d ∷ e ∷ []) c = inl (omega arith)
cut_front tag (a ∷ b ∷ d ∷ e ∷ f ∷ rest) (inl few) = absurd (omega (arith, few))
cut_front tag (a ∷ b ∷ d ∷ e ∷ f ∷ rest) (inr few) = inr (omega (arith, few, length-take (length rest) (f ∷ rest)))

pub still_cut : (bytes : List ℕ) → IsCut bytes → IsCut (without_last bytes)
still_cut [] c = tt
still_cut (tag ∷ rest) c = subst (λ (n : ℕ). IsCut (take n (tag ∷ rest))) (sym (but_last tag rest)) (cut_front tag rest c)

pub missing_stops : (k : FeedKind) (check : List ℕ → Option FeedKind) (left : Option (List ℕ)) (bytes : List ℕ) → IsMissing k left → check bytes ≡ None → IsCut bytes → FrameStops k check left bytes
missing_stops kind.Truncated check left bytes m n c = (n, c, m)
missing_stops kind.Read check left bytes m n c = (n, c)
missing_stops kind.Memory check left bytes m n c = (n, still_cut bytes c)
missing_stops kind.BadMagic check left bytes m n c = absurd m
missing_stops kind.BadTag check left bytes m n c = absurd m
missing_stops kind.BadOrder check left bytes m n c = absurd m
missing_stops kind.BadLength check left bytes m n c = absurd m
missing_stops kind.TooLarge check left bytes m n c = absurd m
missing_stops kind.TooManyDeliveries check left bytes m n c = absurd m
missing_stops kind.BadThread check left bytes m n c = absurd m
missing_stops kind.BadSession check left bytes m n c = absurd m
missing_stops kind.TooManyCommands check left bytes m n c = absurd m

pub shown_stops : (k : FeedKind) (check : List ℕ → Option FeedKind) (left : Option (List ℕ)) (bytes : List ℕ) → IsShown k → check bytes ≡ Some k → check (without_last bytes) ≡ None → IsCut (without_last bytes) → FrameStops k check left bytes
shown_stops kind.Truncated check left bytes s f n c = absurd s
shown_stops kind.Read check left bytes s f n c = absurd s
shown_stops kind.Memory check left bytes s f n c = absurd s
shown_stops kind.BadMagic check left bytes s f n c = (f, n, c)
shown_stops kind.BadTag check left bytes s f n c = (f, n, c)
shown_stops kind.BadOrder check left bytes s f n c = (f, n, c)
shown_stops kind.BadLength check left bytes s f n c = (f, n, c)
shown_stops kind.TooLarge check left bytes s f n c = (f, n, c)
shown_stops kind.TooManyDeliveries check left bytes s f n c = (f, n, c)
shown_stops kind.BadThread check left bytes s f n c = (f, n, c)
shown_stops kind.BadSession check left bytes s f n c = (f, n, c)
shown_stops kind.TooManyCommands check left bytes s f n c = (f, n, c)

-- ---- the fault of a frame whose bytes are there in part

pub no_bytes : (st : Standing) (before : List Item) → frame_fault st before [] ≡ None
unfolding frame_fault
no_bytes st before = refl

pub short_fault : (st : Standing) (before : List Item) (tag : ℕ) (rest : List ℕ) → length rest < 4 → frame_fault st before (tag ∷ rest) ≡ tag_fault before tag
unfolding frame_fault
short_fault st before tag rest short =
    let none : has_length rest ≡ false = grind (arith, common_steps) in
    rw none (then_none (tag_fault before tag))

pub head_fault : (st : Standing) (before : List Item) (tag n : ℕ) (payload : List ℕ) → n < 2 ^ 32
    → frame_fault st before (tag ∷ to_be_bytes w32 n ++ payload) ≡ tag_fault before tag else_check (length_fault st before tag n else_check payload_fault st before tag payload)
unfolding frame_fault
head_fault st before tag n payload small =
    let there : has_length (to_be_bytes w32 n ++ payload) ≡ true = grind (arith, common_steps) in
    let same : stated (to_be_bytes w32 n ++ payload) ≡ n = from_be_bytes-to_be_bytes_4 n small in
    rw (there, same) refl
