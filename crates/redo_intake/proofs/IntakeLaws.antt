-- What one delivery more gives.
use Rattle.std.proofs.Common.{◌≡◌, ℕ, List, [], ◌∷◌, ◌++◌, length, None, Err, refl, sym, ap, subst, ◌∙◌}
use Rattle.std.proofs.lemmas.List.{append_cancel_left}
use Rattle.adg_base.specs.declared.log.LogEntry.{LogEntry}
use Rattle.adg_base.specs.declared.vector.RedoRecord.{RedoRecord}
use Rattle.adg_model.specs.declared.delivery.RedoPiece.{RedoPiece}
use Rattle.adg_model.specs.declared.delivery.RawDelivery.{RawDelivery}
use Rattle.adg_model.specs.declared.delivery.CheckedDelivery.{CheckedDelivery}
use Rattle.adg_model.specs.declared.fault.RedoFault.{RedoFault}
use Rattle.adg_model.specs.declared.fault.RedoKind.{RedoKind}
use Rattle.adg_model.specs.declared.fault.RedoKind.TheVariants as kinds
use Rattle.adg_model.specs.Log.{frontier, merged_log, ReceivedFrom}
use Rattle.adg_model.specs.Sound.{IsContinuation, IsFirstBadRecord, IsFirstUnsoundEntry, IsFirstUnsound, IsRedoFault, IsSound}
use Rattle.adg_model.proofs.ContinuationLaws.{log_continues}
use Rattle.log_merger.specs.declared.refused.MergeRefused.{MergeRefused}
use Rattle.log_merger.specs.declared.refused.MergeRefused.TheVariants as merge
use Rattle.log_merger.specs.Merger.{Merging, StandsFor as Merges, Merges as MergesOn, Drains, IsFirstBad, IsMerged, RecordsFrom, texts_of, texts_with}
use Rattle.log_merger.proofs.Deliveries.{received_from, first_bad_record, stands_same, texts_all}
use Rattle.dictionary.specs.Standing.{StandsFor}
use Rattle.redo_intake.specs.declared.refused.IntakeRefused.{IntakeRefused}
use Rattle.redo_intake.specs.declared.refused.IntakeRefused.TheVariants.{Redo, Memory}
use Rattle.redo_intake.specs.Intake.{Taking, HasTaken, Checks, TakesOne, FollowOn, IsUnsoundAt, of_merge}
use Rattle.redo_intake.proofs.FollowLaws.{follow_append, log_follows}

-- a first bad record is the redo fault
bad_is_fault : (threads : ℕ) (ds : List RawDelivery) (thread number : ℕ) (kind : RedoKind) → IsFirstBadRecord threads ds (record { thread = thread; number = number; kind = kind }) → IsRedoFault threads ds (record { thread = thread; number = number; kind = kind })
bad_is_fault threads ds thread number (kinds.Frame f) h = h
bad_is_fault threads ds thread number (kinds.BadVector i) h = h
bad_is_fault threads ds thread number (kinds.Unsound i check) h = absurd h.bad

module _ (old : Taking) (threads : ℕ) (ds : List RawDelivery) (d : RawDelivery) (before : HasTaken old threads ds) where
  -- all pieces of the delivery were accepted
  pub record Accepted (m : Merging) : Type 0 where
    pub stands : Merges m (texts_of (ds ++ d ∷ [])) (merged_log before.records)
    pub many : length m.threads ≡ threads
    pub good : m.refused ≡ None

  pub accepted : (was m : Merging) (pieces : List RedoPiece) → was ≡ old.merger → pieces ≡ d.pieces
      → ((deliveries : List RawDelivery) (given : List LogEntry) → Merges was (texts_of deliveries) given → Merges m (texts_with deliveries pieces) given)
      → length m.threads ≡ length was.threads → m.refused ≡ was.refused → Accepted m
  accepted was m pieces is all stands many good =
      let has = stands ds (merged_log before.records) (subst (λ (k : Merging). Merges k (texts_of ds) (merged_log before.records)) (sym is) before.merged) in
      let whole = subst (λ (ps : List RedoPiece). Merges m (texts_with ds ps) (merged_log before.records)) all has in
      record {
        stands = stands_same m (texts_with ds d.pieces) (texts_of (ds ++ d ∷ [])) (merged_log before.records) (texts_all ds d) whole;
        many = many ∙ ap (λ (k : Merging). length k.threads) is ∙ before.many;
        good = good ∙ ap (λ (k : Merging). k.refused) is ∙ before.good;
      }

  -- a bad record
  pub bad_so : (m n : Merging) (new : Taking) (why : MergeRefused) → Accepted m → Drains m n (texts_of (ds ++ d ∷ [])) (merged_log before.records) (Err why) → TakesOne before new d (Err (of_merge why))
  bad_so m n new (merge.Redo fault) a h =
      let bad = subst (λ (k : ℕ). IsFirstBad k (texts_of (ds ++ d ∷ [])) fault) a.many (h.1 a.good) in
      bad_is_fault threads (ds ++ d ∷ []) fault.thread fault.number fault.kind (first_bad_record threads (ds ++ d ∷ []) fault bad)
  bad_so m n new merge.Memory a h = tt

  pub merged_so : (m n : Merging) (entries : List LogEntry) → Accepted m → MergesOn m n (texts_of (ds ++ d ∷ [])) (merged_log before.records) entries → IsMerged threads (texts_of (ds ++ d ∷ [])) (merged_log before.records ++ entries)
  merged_so m n entries a h = subst (λ (k : ℕ). IsMerged k (texts_of (ds ++ d ∷ [])) (merged_log before.records ++ entries)) a.many h.merged

  module _ (entries : List LogEntry) (merged : IsMerged threads (texts_of (ds ++ d ∷ [])) (merged_log before.records ++ entries)) where
    received : ReceivedFrom 1 (ds ++ d ∷ []) merged.records
    received = received_from 1 (ds ++ d ∷ []) merged.records merged.received

    pub entries_follow : FollowOn (merged_log before.records) entries
    entries_follow = follow_append [] (merged_log before.records) entries (subst (FollowOn []) (sym merged.log) (log_follows (ds ++ d ∷ []) merged.records received))

    -- an unsound entry
    unsound_entry : (fault : RedoFault) → IsUnsoundAt (merged_log before.records) entries fault → IsFirstUnsoundEntry threads (ds ++ d ∷ []) fault
    unsound_entry fault h = record {
      records = merged.records;
      received = received;
      all = merged.all;
      entry = h.entry;
      check = h.check;
      unsound = subst (λ (l : List LogEntry). IsFirstUnsound l h.entry h.check) merged.log h.unsound;
      thread = ap (λ (f : RedoFault). f.thread) h.fault_is;
      number = ap (λ (f : RedoFault). f.number) h.fault_is;
      kind = ap (λ (f : RedoFault). f.kind) h.fault_is;
    }

    pub unsound_so : (new : Taking) (why : IntakeRefused) → ((fault : RedoFault) → why ≡ Redo fault → IsUnsoundAt (merged_log before.records) entries fault) → TakesOne before new d (Err why)
    unsound_so new (Redo fault) h =
        let bad = h fault refl in
        subst (λ (f : RedoFault). IsRedoFault threads (ds ++ d ∷ []) f) (sym bad.fault_is)
        (subst (λ (f : RedoFault). IsFirstUnsoundEntry threads (ds ++ d ∷ []) f) bad.fault_is (unsound_entry fault bad))
    unsound_so new Memory h = tt

    -- all entries are sound
    pub checked_so : (new : Taking) (checked : CheckedDelivery) → checked.entries ≡ entries → checked.commands ≡ d.commands → checked.schedule ≡ d.schedule
        → length new.merger.threads ≡ threads → new.merger.refused ≡ None → Merges new.merger (texts_of (ds ++ d ∷ [])) (merged_log before.records ++ entries)
        → StandsFor new.dictionary (merged_log before.records ++ entries)
        → ((records : List (List RedoRecord)) → length records ≡ length new.merger.threads → RecordsFrom 1 (texts_of (ds ++ d ∷ [])) records → checked.frontier ≡ frontier records)
        → Checks before new d checked
    checked_so new checked same commands schedule many good stands known at =
        let goes = log_continues ds (d ∷ []) before.records merged.records (before.all ∙ sym merged.all) before.received received (subst IsSound merged.log known.sound) in
        let rest : goes.0 ≡ entries = append_cancel_left (merged_log before.records) goes.0 entries (sym goes.1 ∙ sym merged.log) in
        record {
          taken = record {
            records = merged.records;
            all = merged.all;
            received = received;
            merged = subst (Merges new.merger (texts_of (ds ++ d ∷ []))) merged.log stands;
            known = subst (StandsFor new.dictionary) merged.log known;
            many = many;
            good = good;
          };
          log = sym merged.log ∙ ap (λ (l : List LogEntry). merged_log before.records ++ l) (sym same);
          continues = subst (λ (l : List LogEntry). IsContinuation (merged_log before.records) (frontier before.records) l (frontier merged.records)) (rest ∙ sym same) goes.2;
          frontier_is = at merged.records (merged.all ∙ sym many) merged.received;
          commands = commands;
          schedule = schedule;
        }
