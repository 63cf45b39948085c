-- The law of replies: what a command asks, and the SCN at which it is answered, leave only the counts open.
use Rattle.std.proofs.Common.{◌≡◌, ℕ, ◌+◌, ◌<◌, Bool, true, false, List, Option, Some, None, ◌⊎◌, inl, inr, refl, sym, ap, ap₂, ◌∙◌, arith}
use Rattle.adg_base.specs.declared.log.LogEntry.{LogEntry}
use Rattle.adg_base.specs.declared.command.Command.{Command}
use Rattle.adg_base.specs.declared.command.Command.TheVariants as command
use Rattle.adg_base.specs.declared.command.Select.{Select}
use Rattle.adg_base.specs.declared.answer.Reply.{Reply}
use Rattle.adg_base.specs.declared.answer.Reply.TheVariants.{Rows, Populated, Synced, Shown, Aborted, BadQuery, NoTable, NotInMemory, NoColumn, WrongType, Down}
use Rattle.adg_model.specs.Database.{Table, rows_at, table_at}
use Rattle.adg_model.specs.Query.{answer_of, row_count, has_columns, has_types}
use Rattle.adg_model.specs.Command.{Spells, IsBadQuery}
use Rattle.adg_model.specs.Reply.{IsQuery, Names, IsReply}
use Rattle.adg_model.specs.Transcript.{scn_of}
use Rattle.adg_model.specs.Laws.{SameButCounts, OneReply}
use Rattle.adg_model.proofs.CommandLaws.{one_command}

-- a reply with its counts added up, and without its units
abbrev summed : Reply → Reply
summed (Rows scn answer col row) = Rows scn answer (col + row) 0
summed (Populated scn units) = Populated scn 0
summed r = r

same_from_summed : (r s : Reply) → summed r ≡ summed s → SameButCounts r s
same_from_summed (Rows scn answer col row) (Rows scn' answer' col' row') e = (cc, cc, cc)
same_from_summed (Populated scn units) (Populated scn' units') e = cc
same_from_summed r (Rows scn answer col row) e = cc
same_from_summed r (Populated scn units) e = cc
same_from_summed r s e = cc

-- The reply to each command, with its counts added up: by its object, then by its columns and their kinds.
abbrev reply_of_columns : List LogEntry → ℕ → Select → Table → Bool → Bool → Reply
reply_of_columns log scn s t false types = NoColumn scn
reply_of_columns log scn s t true false = WrongType scn
reply_of_columns log scn s t true true = Rows scn (answer_of (rows_at log scn) s t) (row_count (rows_at log scn) s.obj t) 0

abbrev reply_of_query : List LogEntry → ℕ → Select → Option Table → Reply
reply_of_query log scn s None = NoTable scn
reply_of_query log scn s (Some t) = reply_of_columns log scn s t (has_columns s t) (has_types s t)

abbrev reply_of_flag : ℕ → Bool → Reply
reply_of_flag scn false = NotInMemory scn
reply_of_flag scn true = Populated scn 0

abbrev reply_of_populate : ℕ → Option Table → Reply
reply_of_populate scn None = NoTable scn
reply_of_populate scn (Some t) = reply_of_flag scn t.flag

abbrev reply_to : List LogEntry → ℕ → Command → Reply
reply_to log scn (command.Select s) = reply_of_query log scn s (table_at log scn s.obj)
reply_to log scn (command.Populate obj) = reply_of_populate scn (table_at log scn obj)
reply_to log scn command.Sync = Synced scn
reply_to log scn command.ShowScn = Shown scn
reply_to log scn command.Abort = Aborted scn

-- a reply is the one to the command that the text spells
record Replies (log : List LogEntry) (text : List ℕ) (r : Reply) : Type 0 where
  scn : ℕ
  at : scn_of r ≡ Some scn
  asked : Command
  spells : Spells text asked
  same : summed r ≡ reply_to log scn asked

-- or it says that the text spells none
record Refuses (text : List ℕ) (r : Reply) : Type 0 where
  scn : ℕ
  byte : ℕ
  is : r ≡ BadQuery scn byte
  bad : IsBadQuery text byte

of_columns : (log : List LogEntry) (text : List ℕ) (scn : ℕ) (s : Select) (t : Table) (columns types : Bool) → IsQuery log text scn s t → has_columns s t ≡ columns → has_types s t ≡ types → reply_to log scn (command.Select s) ≡ reply_of_columns log scn s t columns types
of_columns log text scn s t columns types q hc ht =
    ap (reply_of_query log scn s) q.defined ∙ ap (λ b. reply_of_columns log scn s t b (has_types s t)) hc ∙ ap (reply_of_columns log scn s t columns) ht

no_table : (log : List LogEntry) (text : List ℕ) (scn obj : ℕ) → table_at log scn obj ≡ None → Names text obj → Replies log text (NoTable scn)
no_table log text scn obj none (inl (s, spells, is)) =
    record { scn = scn; at = refl; asked = command.Select s; spells = spells; same = sym (ap (λ o. reply_of_query log scn s (table_at log scn o)) is ∙ ap (reply_of_query log scn s) none) }
no_table log text scn obj none (inr spells) =
    record { scn = scn; at = refl; asked = command.Populate obj; spells = spells; same = sym (ap (reply_of_populate scn) none) }

replies : (log : List LogEntry) (f : ℕ) (text : List ℕ) (r : Reply) → IsReply log f text r → Replies log text r ⊎ Refuses text r
replies log f text (Rows scn answer col row) h =
    let e = of_columns log text scn h.select h.table true true h.query h.columns h.types in
    inl (record { scn = scn; at = refl; asked = command.Select h.select; spells = h.query.spells; same = ap₂ (λ a n. Rows scn a n 0) h.meaning h.split ∙ sym e })
replies log f text (Populated scn units) h =
    inl (record { scn = scn; at = refl; asked = command.Populate h.obj; spells = h.spells; same = sym (ap (reply_of_populate scn) h.defined ∙ ap (reply_of_flag scn) h.in_memory) })
replies log f text (Synced scn) h = inl (record { scn = scn; at = refl; asked = command.Sync; spells = h.0; same = refl })
replies log f text (Shown scn) h = inl (record { scn = scn; at = refl; asked = command.ShowScn; spells = h; same = refl })
replies log f text (Aborted scn) h = inl (record { scn = scn; at = refl; asked = command.Abort; spells = h; same = refl })
replies log f text (BadQuery scn byte) h = inr (record { scn = scn; byte = byte; is = refl; bad = h })
replies log f text (NoTable scn) h = inl (no_table log text scn h.obj h.undefined h.names)
replies log f text (NotInMemory scn) h =
    inl (record { scn = scn; at = refl; asked = command.Populate h.obj; spells = h.spells; same = sym (ap (reply_of_populate scn) h.defined ∙ ap (reply_of_flag scn) h.plain) })
replies log f text (NoColumn scn) h =
    let e = of_columns log text scn h.select h.table false (has_types h.select h.table) h.query h.columns refl in
    inl (record { scn = scn; at = refl; asked = command.Select h.select; spells = h.query.spells; same = sym e })
replies log f text (WrongType scn) h =
    let e = of_columns log text scn h.select h.table true false h.query h.columns h.types in
    inl (record { scn = scn; at = refl; asked = command.Select h.select; spells = h.query.spells; same = sym e })
replies log f text Down h = absurd h

one_byte : (text : List ℕ) (a b : ℕ) → IsBadQuery text a → IsBadQuery text b → a ≡ b
one_byte text a b h k =
    let up : a < b → ⊥ = λ l. h.longest b l k.within k.begins in
    let down : b < a → ⊥ = λ l. k.longest a l h.within h.begins in
    omega (arith, up, down)

both : (log : List LogEntry) (text : List ℕ) (r s : Reply) → scn_of r ≡ scn_of s → Replies log text r ⊎ Refuses text r → Replies log text s ⊎ Refuses text s → summed r ≡ summed s
both log text r s e (inl h) (inl k) =
    let asked = one_command h.asked k.asked h.spells.0 k.spells.0 (sym h.spells.1 ∙ k.spells.1) in
    let found : Some h.scn ≡ Some k.scn = sym h.at ∙ e ∙ k.at in
    let scn : h.scn ≡ k.scn = cc in
    h.same ∙ ap₂ (reply_to log) scn asked ∙ sym k.same
both log text r s e (inl h) (inr k) = absurd (k.bad.none h.asked h.spells)
both log text r s e (inr h) (inl k) = absurd (h.bad.none k.asked k.spells)
both log text r s e (inr h) (inr k) =
    let found : Some h.scn ≡ Some k.scn = ap scn_of (sym h.is) ∙ e ∙ ap scn_of k.is in
    let scn : h.scn ≡ k.scn = cc in
    ap summed (h.is ∙ ap₂ BadQuery scn (one_byte text h.byte k.byte h.bad k.bad) ∙ sym k.is)

pub one_reply : OneReply
one_reply log f text r s h k e = same_from_summed r s (both log text r s e (replies log f text r h) (replies log f text s k))
