-- Before the first delivery.
use Rattle.std.proofs.Common.{◌≡◌, ℕ, zero, suc, ◌+◌, List, [], ◌∷◌, length, None, inl, refl, sym, ap, subst, arith, ◌∙◌}
use Rattle.adg_base.specs.declared.vector.RedoRecord.{RedoRecord}
use Rattle.adg_base.specs.declared.log.LogEntry.{LogEntry}
use Rattle.adg_model.specs.Records.{first_mark, record_fault, HasRecords}
use Rattle.adg_model.specs.Log.{frontier, entries_from, in_order, numbered, upto, merged_log, ReceivedFrom}
use Rattle.adg_model.proofs.DeliveryLaws.{records_are_determined}
use Rattle.log_merger.specs.Merger.{Merging, StandsFor as Merges, no_texts}
use Rattle.dictionary.specs.Standing.{Known, StandsFor}
use Rattle.redo_intake.specs.Intake.{Taking, HasTaken}

-- so many threads without a record
silent : ℕ → List (List RedoRecord)
silent zero = []
silent (suc n) = [] ∷ silent n

length_silent : (n : ℕ) → length (silent n) ≡ n
unfolding silent
length_silent zero = refl
length_silent (suc n) = ap suc (length_silent n)

no_fault : record_fault first_mark [] ≡ None
unfolding record_fault
no_fault = refl

no_records : HasRecords [] []
no_records = record { rest = []; raws = record { spelled = refl; follow = tt; part = inl (omega arith); good = no_fault }; vectors = tt }

received_silent : (thread n : ℕ) → ReceivedFrom thread [] (silent n)
unfolding silent
received_silent thread zero = tt
received_silent thread (suc n) = (no_records, received_silent (thread + 1) n)

entries_silent : (thread n : ℕ) → entries_from thread (silent n) ≡ []
unfolding silent
entries_silent thread zero = refl
entries_silent thread (suc n) = entries_silent (thread + 1) n

log_silent : (n : ℕ) → merged_log (silent n) ≡ []
unfolding merged_log
log_silent n = ap (λ (l : List LogEntry). numbered 0 (in_order (upto (frontier (silent n)) l))) (entries_silent 1 n)

frontier_silent : (n : ℕ) → frontier (silent n) ≡ 0
unfolding frontier silent
frontier_silent zero = refl
frontier_silent (suc zero) = refl
frontier_silent (suc (suc n)) = omega arith

pub nothing_taken : (m : Merging) (k : Known) (threads : ℕ) → length m.threads ≡ threads → Merges m no_texts [] → m.refused ≡ None → StandsFor k [] → HasTaken (record { merger = m; dictionary = k }) threads []
nothing_taken m k threads many stands good known = record {
  records = silent threads;
  all = length_silent threads;
  received = received_silent 1 threads;
  merged = subst (Merges m no_texts) (sym (log_silent threads)) stands;
  known = subst (StandsFor k) (sym (log_silent threads)) known;
  many = many;
  good = good;
}

-- the records of so many threads before the first delivery, whose merged log is empty
pub record Nothing (threads : ℕ) : Type 0 where
  pub records : List (List RedoRecord)
  pub all : length records ≡ threads
  pub received : ReceivedFrom 1 [] records
  pub none : merged_log records ≡ []

pub nothing : (threads : ℕ) → Nothing threads
nothing threads = record { records = silent threads; all = length_silent threads; received = received_silent 1 threads; none = log_silent threads }

-- there are no other records
pub nothing-logged : (t : Taking) (threads : ℕ) (h : HasTaken t threads []) → merged_log h.records ≡ []
nothing-logged t threads h =
    ap (λ (r : List (List RedoRecord)). merged_log r) (records_are_determined [] h.records (silent threads) (h.all ∙ sym (length_silent threads)) h.received (received_silent 1 threads))
    ∙ log_silent threads

pub nothing-frontier : (t : Taking) (threads : ℕ) (h : HasTaken t threads []) → frontier h.records ≡ 0
nothing-frontier t threads h =
    ap (λ (r : List (List RedoRecord)). frontier r) (records_are_determined [] h.records (silent threads) (h.all ∙ sym (length_silent threads)) h.received (received_silent 1 threads))
    ∙ frontier_silent threads
