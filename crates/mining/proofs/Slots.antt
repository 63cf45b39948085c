-- In a sound log each change has an address: a slot below 64.
use Rattle.std.proofs.Common.{◌≡◌, ℕ, ◌<◌, Bool, true, false, nat_lt, slice_index_or, List, [], ◌∷◌, length, zero, suc, Option, Some, None, refl, arith, subst}
use Rattle.std.proofs.lemmas.Bool.{and_parts, ltb-true}
use Rattle.std.specs.List.{Contains}
use Rattle.adg_base.specs.declared.vector.Vector.{Vector}
use Rattle.adg_base.specs.declared.vector.Vector.TheVariants.{Begin, Put, Delete, Undo, Commit, Abort, Create, DropObject, AddColumn, NoInMemory, EndThread}
use Rattle.adg_base.specs.declared.log.LogEntry.{LogEntry}
use Rattle.adg_model.specs.declared.fault.CheckKind.{CheckKind}
use Rattle.adg_model.specs.Database.{Database, Table, after}
use Rattle.adg_model.specs.Sound.{SoundFrom, demand, on_table, on_change, is_running, has_address, refusal}

-- a change has a slot of a block
abbrev pub HasSlot : Vector → Type 0
HasSlot (Begin txn) = Unit {0}
HasSlot (Put txn o b s row) = s < 64
HasSlot (Delete txn o b s) = s < 64
HasSlot (Undo txn o b s) = s < 64
HasSlot (Commit txn flag) = Unit {0}
HasSlot (Abort txn) = Unit {0}
HasSlot (Create o e f columns) = Unit {0}
HasSlot (DropObject o) = Unit {0}
HasSlot (AddColumn o k) = Unit {0}
HasSlot (NoInMemory o) = Unit {0}
HasSlot EndThread = Unit {0}

demanded : (b : Bool) (check : CheckKind) (later : Option CheckKind) → demand b check later ≡ None → (b ≡ true) × (later ≡ None)
demanded true check later h = (refl, h)
demanded false check later h = cc

slot_there : (table : Table) (block slot : ℕ) → has_address table block slot ≡ true → slot < 64
slot_there table block slot h = ltb-true slot 64 (and_parts (nat_lt slot 64) _ h).0

on_table-slot : (found : Option Table) (block slot : ℕ) (check : CheckKind) (later : Table → Option CheckKind) → on_table found (λ table. demand (has_address table block slot) check (later table)) ≡ None → slot < 64
on_table-slot None block slot check later h = cc
on_table-slot (Some table) block slot check later h = slot_there table block slot (demanded (has_address table block slot) check (later table) h).0

on_change-slot : (db : Database) (txn o b s : ℕ) (later : Table → Option CheckKind) → on_change db txn o b s later ≡ None → s < 64
on_change-slot db txn o b s later h = on_table-slot (db.tables o) b s _ later (demanded (is_running db txn) _ _ h).1

accepted-slot : (db : Database) (v : Vector) → refusal db v ≡ None → HasSlot v
accepted-slot db (Begin txn) h = tt
accepted-slot db (Put txn o b s row) h = on_change-slot db txn o b s _ h
accepted-slot db (Delete txn o b s) h = on_change-slot db txn o b s _ h
accepted-slot db (Undo txn o b s) h = on_change-slot db txn o b s _ h
accepted-slot db (Commit txn flag) h = tt
accepted-slot db (Abort txn) h = tt
accepted-slot db (Create o e f columns) h = tt
accepted-slot db (DropObject o) h = tt
accepted-slot db (AddColumn o k) h = tt
accepted-slot db (NoInMemory o) h = tt
accepted-slot db EndThread h = tt

-- an entry of a sound log
pub sound-slot : (db : Database) (log : List LogEntry) (entry : LogEntry) → SoundFrom db log → Contains log entry → HasSlot entry.vector
sound-slot db log entry sound within = at db log within.0 sound within.1 within.2
  where
    at : (db : Database) (log : List LogEntry) (k : ℕ) → SoundFrom db log → k < length log → slice_index_or log k entry ≡ entry → HasSlot entry.vector
    at db [] k s lt is = absurd (omega arith)
    at db (e ∷ es) zero s lt is = subst (λ (x : LogEntry). HasSlot x.vector) is (accepted-slot db e.vector s.1)
    at db (e ∷ es) (suc k) s lt is = at (after db e.vector) es k s.2 (omega arith) is
