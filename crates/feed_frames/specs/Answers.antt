-- What the reader answers: the header, a delivery, the end, or the first fault.
use Rattle.std.specs.Prelude.{◌≡◌, ◌≢◌, ℕ, ◌+◌, ◌<◌, List, [], ◌++◌, length, Option, Result, Ok, Err, IfSome, ◌⊎◌}
use Rattle.std.specs.Io.KnownBytes.{IsAtEnd}
use Rattle.adg_model.specs.Feed.{Item, AreItems, IsDelivery, IsHeader, MagicFails, HeaderFails, DeliveryFails, magic, opening_bytes, items_bytes, delivery_bytes, stop_bytes, delivery_of, start, after_delivery, first_frame_fault, frame_fault}
use Rattle.adg_model.specs.declared.delivery.RawDelivery.{RawDelivery}
use Rattle.adg_model.specs.declared.fault.FeedKind.{FeedKind}
use Rattle.adg_model.specs.declared.fault.FeedKind.TheVariants.{Truncated, Read, Memory, BadMagic}
use Rattle.feed_frames.specs.declared.fault.FeedFault.{FeedFault}
use Rattle.feed_frames.specs.declared.phase.Phase.{Phase}
use Rattle.feed_frames.specs.declared.phase.Phase.TheVariants.{Fresh, Open, Ended, Failed}
use Rattle.feed_frames.specs.declared.reader.Step.{Step}
use Rattle.feed_frames.specs.declared.reader.Step.TheVariants.{Delivery, End}
use Rattle.feed_frames.specs.Intake.{Took, fault_byte, HasFeedCause}
use Rattle.feed_frames.specs.Frames.{FrameStops}
use Rattle.feed_frames.specs.State.{FeedState}

-- a fault of the bytes, and not of the source or the memory
abbrev pub IsOfBytes : FeedKind → Type 0
IsOfBytes Read = ⊥
IsOfBytes Memory = ⊥
IsOfBytes _ = Unit {0}

-- the reading of the magic stopped after these of its bytes
abbrev pub MagicStops : FeedKind → Option (List ℕ) → List ℕ → Type 0
MagicStops Truncated left bytes = (length bytes < length magic) × IsAtEnd left
MagicStops Read left bytes = length bytes < length magic
MagicStops Memory left bytes = length bytes < length magic
MagicStops BadMagic left bytes = (length bytes ≡ length magic) × (bytes ≢ magic)
MagicStops _ left bytes = ⊥

-- in a magic, or after it in the header
abbrev pub OpeningStops : FeedFault → Option (List ℕ) → List ℕ → Type 0
OpeningStops fault left bytes =
    (MagicStops fault.kind left bytes × (fault.byte ≡ fault_byte fault.kind 0 (length bytes)))
    ⊎ ((rest : List ℕ) × (bytes ≡ magic ++ rest) × FrameStops fault.kind first_frame_fault left rest × (fault.byte ≡ fault_byte fault.kind (length magic) (length bytes)))

-- the bytes that the source told have this first fault before a delivery
abbrev pub OpeningFails : List ℕ → FeedKind → ℕ → Type 0
OpeningFails left kind byte = MagicFails left kind byte ⊎ HeaderFails left kind byte

-- the reader took so many bytes and has failed
abbrev pub failed : FeedState → FeedFault → ℕ → FeedState
failed state fault taken = record state { phase = Failed fault; taken = taken }

-- the magic and a header were read
pub record ReadHeader (old new : FeedState) (from to : Option (List ℕ)) : Type 0 where
  pub threads : ℕ
  pub sessions : ℕ
  pub header : IsHeader threads sessions
  pub took : Took from to old.taken new.taken (opening_bytes threads sessions)
  pub state : new ≡ record { phase = Open; standing = start threads sessions; taken = new.taken }

-- the reading stopped before the first delivery
pub record NoHeader (old new : FeedState) (from to : Option (List ℕ)) (fault : FeedFault) : Type 0 where
  pub bytes : List ℕ
  pub took : Took from to old.taken new.taken bytes
  pub stops : OpeningStops fault to bytes
  pub first : IsOfBytes fault.kind → IfSome from (λ left. OpeningFails left fault.kind fault.byte)
  pub state : new ≡ failed old fault new.taken

abbrev pub AnswersHeader : FeedState → FeedState → Option (List ℕ) → Option (List ℕ) → Result (Unit {0}) FeedFault → Type 0
AnswersHeader old new from to (Ok x) = ReadHeader old new from to
AnswersHeader old new from to (Err fault) = NoHeader old new from to fault

-- the frames of a delivery were read
pub record ReadDelivery (old new : FeedState) (from to : Option (List ℕ)) (delivery : RawDelivery) : Type 0 where
  pub items : List Item
  pub is_delivery : IsDelivery old.standing items
  pub took : Took from to old.taken new.taken (delivery_bytes items)
  pub brings : delivery ≡ delivery_of items
  pub state : new ≡ record { phase = Open; standing = after_delivery old.standing items; taken = new.taken }

-- the frame that ends the feed was read
pub record ReadEnd (old new : FeedState) (from to : Option (List ℕ)) : Type 0 where
  pub took : Took from to old.taken new.taken stop_bytes
  pub state : new ≡ record old { phase = Ended; taken = new.taken }

-- the reading stopped in a frame, after these items of a delivery
pub record NoDelivery (old new : FeedState) (from to : Option (List ℕ)) (fault : FeedFault) : Type 0 where
  pub before : List Item
  pub rest : List ℕ
  pub items : AreItems old.standing [] before
  pub took : Took from to old.taken new.taken (items_bytes before ++ rest)
  pub stops : FrameStops fault.kind (frame_fault old.standing before) to rest
  pub byte : fault.byte ≡ fault_byte fault.kind (old.taken + length (items_bytes before)) new.taken
  pub first : IsOfBytes fault.kind → IfSome from (λ left. DeliveryFails old.standing old.taken left fault.kind fault.byte)
  pub state : new ≡ failed old fault new.taken

abbrev pub AnswersDelivery : FeedState → FeedState → Option (List ℕ) → Option (List ℕ) → Result Step FeedFault → Type 0
AnswersDelivery old new from to (Ok (Delivery delivery)) = ReadDelivery old new from to delivery
AnswersDelivery old new from to (Ok End) = ReadEnd old new from to
AnswersDelivery old new from to (Err fault) = NoDelivery old new from to fault

-- the next delivery of a fresh reader comes after the header
pub record AnswersFirst (old new : FeedState) (from to : Option (List ℕ)) (result : Result Step FeedFault) : Type 0 where
  pub opened : FeedState
  pub between : Option (List ℕ)
  pub header : ReadHeader old opened from between
  pub delivery : AnswersDelivery opened new between to result

abbrev pub AnswersFresh : FeedState → FeedState → Option (List ℕ) → Option (List ℕ) → Result Step FeedFault → Type 0
AnswersFresh old new from to (Ok step) = AnswersFirst old new from to (Ok step)
AnswersFresh old new from to (Err fault) = NoHeader old new from to fault ⊎ AnswersFirst old new from to (Err fault)

-- what a call answers that reads the header where it is not read yet
abbrev pub HeaderAnswer : Phase → FeedState → FeedState → Option (List ℕ) → Option (List ℕ) → Result (Unit {0}) FeedFault → Type 0
HeaderAnswer Fresh old new from to result = AnswersHeader old new from to result
HeaderAnswer Open old new from to result = (result ≡ Ok tt) × (new ≡ old)
HeaderAnswer Ended old new from to result = (result ≡ Ok tt) × (new ≡ old)
HeaderAnswer (Failed fault) old new from to result = (result ≡ Err fault) × (new ≡ old)

-- what a call answers that reads the next delivery
abbrev pub StepAnswer : Phase → FeedState → FeedState → Option (List ℕ) → Option (List ℕ) → Result Step FeedFault → Type 0
StepAnswer Fresh old new from to result = AnswersFresh old new from to result
StepAnswer Open old new from to result = AnswersDelivery old new from to result
StepAnswer Ended old new from to result = (result ≡ Ok End) × (new ≡ old)
StepAnswer (Failed fault) old new from to result = (result ≡ Err fault) × (new ≡ old)

-- a call reads on: neither the end nor a fault was met; the header may still be unread
abbrev pub IsReading : Phase → Type 0
IsReading Fresh = Unit {0}
IsReading Open = Unit {0}
IsReading Ended = ⊥
IsReading (Failed fault) = ⊥

-- a call that reads answers a fault of the source only where its count of faults rose; the count
-- is as before at each other answer
abbrev pub IsCausedBy : {X : Type 0} → Result X FeedFault → ℕ → ℕ → Type 0
IsCausedBy (Ok x) before after = after ≡ before
IsCausedBy (Err fault) before after = HasFeedCause fault.kind before after
