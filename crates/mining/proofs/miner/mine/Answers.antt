use Rattle.std.proofs.Common.{◌≡◌, List, Option, sym, ap, ◌∙◌, subst, ⊎_elim}
use Rattle.std.specs.List.{Contains}
use Rattle.adg_base.specs.declared.vector.Vector.{Vector}
use Rattle.adg_base.specs.declared.vector.Vector.TheVariants.{Put, Delete, Undo}
use Rattle.adg_base.specs.declared.log.LogEntry.{LogEntry}
use Rattle.adg_model.specs.declared.mined.Mined.{Mined}
use Rattle.adg_model.specs.Database.{no_database}
use Rattle.adg_model.specs.Sound.{IsSound}
use Rattle.adg_model.specs.Mined.{mined_of, mined_by}
use Rattle.mining.proofs.Slots.{HasSlot, sound-slot}
use Rattle.mining.proofs.miner.mine.Goals as goal

-- what is noted of a vector that has a slot is what the entry of a sound log notes
noted : (log : List LogEntry) (e : LogEntry) (v : Vector) (result : Option Mined) → IsSound log → Contains log e → e.vector ≡ v
    → (HasSlot v → result ≡ mined_by log e.scn v) → result ≡ mined_of log e
noted log e v result sound within is gives =
    gives (subst HasSlot is (sound-slot no_database log e sound within)) ∙ sym (ap (λ (x : Vector). mined_by log e.scn x) is)

pub returns-in-Put : goal.returns-in-Put
returns-in-Put c log stands within =
    let at = c.in-Put in
    let gives = c.touched.ensures log stands in
    ⊎_elim
    (λ put. noted log c.args.entry.now (Put at.txn at.obj at.block at.slot put.0) c.touched.result stands.sound within put.1 gives)
    (⊎_elim
    (λ is. noted log c.args.entry.now (Delete at.txn at.obj at.block at.slot) c.touched.result stands.sound within is gives)
    (λ is. noted log c.args.entry.now (Undo at.txn at.obj at.block at.slot) c.touched.result stands.sound within is gives))
    at.is
