-- How the reply to a question about a table is printed, and what it answers.
use Rattle.std.proofs.Common.{◌≡◌, ℕ, Bool, true, false, ◌&&◌, cond, List, [], ◌∷◌, ◌++◌, length, Some, None, inl, inr, refl, sym, ap, ap₂, ◌∙◌, subst, arith, append_assoc}
use Rattle.std.specs.Prelude.{codes, decimal}
use Rattle.std.specs.List.{flat_map}
use Rattle.adg_base.specs.declared.answer.Cell.{Cell}
use Rattle.adg_base.specs.declared.answer.Reply.{Reply}
use Rattle.adg_base.specs.declared.answer.Reply.TheVariants.{Rows, Populated, Synced, Shown, Aborted, BadQuery, NoTable, NotInMemory, NoColumn, WrongType, Down}
use Rattle.adg_base.specs.declared.command.Command.{Command}
use Rattle.adg_base.specs.declared.command.Command.TheVariants as command
use Rattle.adg_base.specs.declared.command.Select.{Select}
use Rattle.adg_base.specs.declared.log.LogEntry.{LogEntry}
use Rattle.adg_model.specs.Command.{command_bytes, IsCommand, Spells}
use Rattle.adg_model.specs.Database.{Table, rows_at, table_at}
use Rattle.adg_model.specs.Query.{answer_of, has_columns, has_types}
use Rattle.adg_model.specs.Reply.{IsReply, Names, reply_bytes, result_line_bytes, at_scn, newline}
use Rattle.adg_model.specs.Transcript.{scn_of}
use Rattle.adg_model.proofs.CommandLaws.{one_command}
use Rattle.soak_run.specs.Summary.{balances_of, answer_over, answer_at}
use Rattle.soak_run.proofs.Lines.{IsPlain, plain_append, plain_text, decimal_plain, EndsOtherwise, decimal_ends, ends_append}

-- ---- the text of a reply: a plain line, and the lines of the answer

pub record Prints (r : Reply) (answer : List (List Cell)) : Type 0 where
  pub tail : List ℕ
  pub plain : IsPlain tail
  pub ends : EndsOtherwise tail
  pub text : reply_bytes r ≡ tail ++ 10 ∷ flat_map result_line_bytes answer

scn_plain : (scn : ℕ) → IsPlain (at_scn scn)
scn_plain scn = plain_append (codes " scn=") (decimal scn) (plain_text (codes " scn=") refl) (decimal_plain scn)

-- a text and a number behind others
with_number : (front text : List ℕ) (n : ℕ) → IsPlain front → IsPlain text → IsPlain (front ++ text ++ decimal n)
with_number front text n h k = plain_append (front ++ text) (decimal n) (plain_append front text h k) (decimal_plain n)

prints_rows : (scn : ℕ) (answer : List (List Cell)) (col row : ℕ) → Prints (Rows scn answer col row) answer
prints_rows scn answer col row =
    let first = at_scn scn ++ codes " rows=" ++ decimal (length answer) in
    let second = first ++ codes " col=" ++ decimal col in
    let third = second ++ codes " row=" ++ decimal row in
    record {
      tail = third;
      plain = with_number second (codes " row=") row
          (with_number first (codes " col=") col (with_number (at_scn scn) (codes " rows=") (length answer) (scn_plain scn) (plain_text (codes " rows=") refl)) (plain_text (codes " col=") refl))
          (plain_text (codes " row=") refl);
      ends = ends_append (second ++ codes " row=") (decimal row) (decimal_ends row);
      text = append_assoc third newline (flat_map result_line_bytes answer);
    }

-- a refusal
prints_words : (r : Reply) (scn : ℕ) (words front : List ℕ) (last : ℕ) → reply_bytes r ≡ at_scn scn ++ words ++ newline → IsPlain words → words ≡ front ++ last ∷ [] → (last ≡ 100 → ⊥) → Prints r []
prints_words r scn words front last text plain split other = record {
  tail = at_scn scn ++ words;
  plain = plain_append (at_scn scn) words (scn_plain scn) plain;
  ends = ends_append (at_scn scn) words (record { front = front; last = last; split = split; other = other });
  text = text;
}

prints_no_table : (scn : ℕ) → Prints (NoTable scn) []
prints_no_table scn = prints_words (NoTable scn) scn (codes " refused NoTable") (codes " refused NoTabl") 101 refl (plain_text (codes " refused NoTable") refl) refl (λ e. omega (arith, e))

prints_no_column : (scn : ℕ) → Prints (NoColumn scn) []
prints_no_column scn = prints_words (NoColumn scn) scn (codes " refused NoColumn") (codes " refused NoColum") 110 refl (plain_text (codes " refused NoColumn") refl) refl (λ e. omega (arith, e))

prints_wrong_type : (scn : ℕ) → Prints (WrongType scn) []
prints_wrong_type scn = prints_words (WrongType scn) scn (codes " refused WrongType") (codes " refused WrongTyp") 101 refl (plain_text (codes " refused WrongType") refl) refl (λ e. omega (arith, e))

-- ---- the reply to a SYNC

pub sync_reply : (log : List LogEntry) (f : ℕ) (r : Reply) → IsReply log f (command_bytes command.Sync) r → r ≡ Synced f
sync_reply log f (Rows scn answer col row) h = absurd (not_select h.select h.query.spells)
  where
    not_select : (s : Select) → Spells (command_bytes command.Sync) (command.Select s) → ⊥
    not_select s k = let c : command.Sync ≡ command.Select s = one_command command.Sync (command.Select s) tt k.0 k.1 in absurd cc
sync_reply log f (Populated scn units) h = let c : command.Sync ≡ command.Populate h.obj = one_command command.Sync (command.Populate h.obj) tt h.spells.0 h.spells.1 in absurd cc
sync_reply log f (Synced scn) h = ap Synced h.1
sync_reply log f (Shown scn) h = let c : command.Sync ≡ command.ShowScn = one_command command.Sync command.ShowScn tt tt h.1 in absurd cc
sync_reply log f (Aborted scn) h = let c : command.Sync ≡ command.Abort = one_command command.Sync command.Abort tt tt h.1 in absurd cc
sync_reply log f (BadQuery scn byte) h = absurd (h.none command.Sync (tt, refl))
sync_reply log f (NoTable scn) h = by_name h.names
  where
    by_name : Names (command_bytes command.Sync) h.obj → NoTable scn ≡ Synced f
    by_name (inl (s, spells, is)) = let c : command.Sync ≡ command.Select s = one_command command.Sync (command.Select s) tt spells.0 spells.1 in absurd cc
    by_name (inr spells) = let c : command.Sync ≡ command.Populate h.obj = one_command command.Sync (command.Populate h.obj) tt spells.0 spells.1 in absurd cc
sync_reply log f (NotInMemory scn) h = let c : command.Sync ≡ command.Populate h.obj = one_command command.Sync (command.Populate h.obj) tt h.spells.0 h.spells.1 in absurd cc
sync_reply log f (NoColumn scn) h = let c : command.Sync ≡ command.Select h.select = one_command command.Sync (command.Select h.select) tt h.query.spells.0 h.query.spells.1 in absurd cc
sync_reply log f (WrongType scn) h = let c : command.Sync ≡ command.Select h.select = one_command command.Sync (command.Select h.select) tt h.query.spells.0 h.query.spells.1 in absurd cc
sync_reply log f Down h = absurd h

-- ---- the reply to a question about a table

module _ (log : List LogEntry) (f k : ℕ) (good : IsCommand (command.Select (balances_of k))) where
  asked : List ℕ
  asked = command_bytes (command.Select (balances_of k))

  mine : (s : Select) → Spells (command_bytes (command.Select (balances_of k))) (command.Select s) → s ≡ balances_of k
  mine s h = by_command (one_command (command.Select (balances_of k)) (command.Select s) good h.0 h.1)
    where
      by_command : command.Select (balances_of k) ≡ command.Select s → s ≡ balances_of k
      by_command e = cc

  no_other : (c : Command) → Spells (command_bytes (command.Select (balances_of k))) c → command.Select (balances_of k) ≡ c
  no_other c h = one_command (command.Select (balances_of k)) c good h.0 h.1

  -- what is answered where the table is defined
  defined_answer : (s : Select) (t : Table) (columns types : Bool) → s ≡ balances_of k → table_at log f s.obj ≡ Some t → has_columns s t ≡ columns → has_types s t ≡ types
      → answer_at log f (balances_of k) ≡ cond (columns && types) (answer_of (rows_at log f) (balances_of k) t) []
  defined_answer s t columns types is d hc ht =
      let found : table_at log f k ≡ Some t = ap (λ (q : Select). table_at log f q.obj) (sym is) ∙ d in
      let c : has_columns (balances_of k) t ≡ columns = ap (λ (q : Select). has_columns q t) (sym is) ∙ hc in
      let y : has_types (balances_of k) t ≡ types = ap (λ (q : Select). has_types q t) (sym is) ∙ ht in
      ap (answer_over (rows_at log f) (balances_of k)) found
      ∙ ap₂ (λ (a b : Bool). cond (a && b) (answer_of (rows_at log f) (balances_of k) t) []) c y

  pub table_reply : (r : Reply) → scn_of r ≡ Some f → IsReply log f (command_bytes (command.Select (balances_of k))) r → Prints r (answer_at log f (balances_of k))
  table_reply r at h = by_reply r (same_scn r at) h
    where
      AtScn : Reply → Type 0
      AtScn r = (scn : ℕ) → scn_of r ≡ Some scn → scn ≡ f

      same_scn : (r : Reply) → scn_of r ≡ Some f → (scn : ℕ) → scn_of r ≡ Some scn → scn ≡ f
      same_scn r a scn e = let both : Some f ≡ Some scn = sym a ∙ e in cc

      by_reply : (r : Reply) → ((scn : ℕ) → scn_of r ≡ Some scn → scn ≡ f) → IsReply log f (command_bytes (command.Select (balances_of k))) r → Prints r (answer_at log f (balances_of k))
      by_reply (Rows scn answer col row) a h =
          let is = mine h.select h.query.spells in
          let scn_is = a scn refl in
          let found = defined_answer h.select h.table true true is (subst (λ q. table_at log q h.select.obj ≡ Some h.table) scn_is h.query.defined) h.columns h.types in
          let meaning : answer ≡ answer_of (rows_at log f) (balances_of k) h.table = h.meaning ∙ ap₂ (λ q s. answer_of (rows_at log q) s h.table) scn_is is in
          subst (Prints (Rows scn answer col row)) (meaning ∙ sym found) (prints_rows scn answer col row)
      by_reply (NoTable scn) a h = by_name h.names
        where
          by_name : Names (command_bytes (command.Select (balances_of k))) h.obj → Prints (NoTable scn) (answer_at log f (balances_of k))
          by_name (inl (s, spells, is)) =
              let obj : h.obj ≡ k = sym is ∙ ap (λ (q : Select). q.obj) (mine s spells) in
              let none : table_at log f k ≡ None = ap₂ (λ q o. table_at log q o) (sym (a scn refl)) (sym obj) ∙ h.undefined in
              subst (Prints (NoTable scn)) (sym (ap (answer_over (rows_at log f) (balances_of k)) none)) (prints_no_table scn)
          by_name (inr spells) = let c : command.Select (balances_of k) ≡ command.Populate h.obj = no_other (command.Populate h.obj) spells in absurd cc
      by_reply (NoColumn scn) a h =
          let found = defined_answer h.select h.table false (has_types h.select h.table) (mine h.select h.query.spells) (subst (λ q. table_at log q h.select.obj ≡ Some h.table) (a scn refl) h.query.defined) h.columns refl in
          subst (Prints (NoColumn scn)) (sym found) (prints_no_column scn)
      by_reply (WrongType scn) a h =
          let found = defined_answer h.select h.table true false (mine h.select h.query.spells) (subst (λ q. table_at log q h.select.obj ≡ Some h.table) (a scn refl) h.query.defined) h.columns h.types in
          subst (Prints (WrongType scn)) (sym found) (prints_wrong_type scn)
      by_reply (Populated scn units) a h = let c : command.Select (balances_of k) ≡ command.Populate h.obj = no_other (command.Populate h.obj) h.spells in absurd cc
      by_reply (Synced scn) a h = let c : command.Select (balances_of k) ≡ command.Sync = no_other command.Sync h.0 in absurd cc
      by_reply (Shown scn) a h = let c : command.Select (balances_of k) ≡ command.ShowScn = no_other command.ShowScn h in absurd cc
      by_reply (Aborted scn) a h = let c : command.Select (balances_of k) ≡ command.Abort = no_other command.Abort h in absurd cc
      by_reply (BadQuery scn byte) a h = absurd (h.none (command.Select (balances_of k)) (good, refl))
      by_reply (NotInMemory scn) a h = let c : command.Select (balances_of k) ≡ command.Populate h.obj = no_other (command.Populate h.obj) h.spells in absurd cc
      by_reply Down a h = absurd h
