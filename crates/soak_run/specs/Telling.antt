-- What is read of a transcript, line by line.
use Rattle.std.specs.Prelude.{ℕ, ◌+◌, ◌-◌, ◌==◌, nat_eq, nat_lt, if◌then◌else◌, List, [], ◌∷◌, ◌++◌, length, take, drop, codes, decimal}
use Rattle.std.specs.List.{starts_with, ends_with, slice_split}
use Rattle.adg_model.specs.Reply.{newline}

-- the SCN in digits at which the session that asks for the summary was synced, how many tables were told since, and
-- what of the summary is written
pub record Told : Type 0 where
  pub scn : List ℕ
  pub tables : ℕ
  pub text : List ℕ

abbrev pub nothing_told : Told
nothing_told = record { scn = []; tables = 0; text = [] }

-- a line of an answer begins so, and the line of a SYNC ends so
abbrev pub answer_mark : List ℕ
answer_mark = codes "= "

abbrev pub synced_mark : List ℕ
synced_mark = codes " synced"

-- what stands behind the first equals sign
abbrev pub behind_equals : List ℕ → List ℕ
behind_equals [] = []
behind_equals (b ∷ more) = if b == 61 then more else behind_equals more

-- a SYNC: what was told before is of no interest
abbrev pub synced : List ℕ → Told
synced front = record { scn = behind_equals front; tables = 0; text = [] }

abbrev pub with_cells : Told → List ℕ → Told
with_cells t cells = record t { text = t.text ++ codes " " ++ cells }

-- the reply of the next table, in a line of its own
abbrev pub between : ℕ → List ℕ
between tables = if tables == 0 then [] else newline

abbrev pub with_table : Told → Told
with_table t = record t {
  tables = t.tables + 1;
  text = t.text ++ between t.tables ++ codes "t" ++ decimal (t.tables + 1) ++ codes " scn=" ++ t.scn;
}

-- behind the last table comes the end of the delivery
abbrev pub after_line : Told → List ℕ → Told
after_line t line =
    if starts_with nat_eq line answer_mark then with_cells t (drop 2 line)
    else if ends_with nat_eq line synced_mark then synced (take (length line - 7) line)
    else if nat_lt t.tables 20 then with_table t
    else t

abbrev pub after_lines : Told → List (List ℕ) → Told
after_lines t [] = t
after_lines t (line ∷ lines) = after_lines (after_line t line) lines

abbrev pub lines_in : List ℕ → List (List ℕ)
lines_in text = slice_split (λ b. b == 10) text

-- and at the end what was run
abbrev pub run_head : (seed txns : ℕ) → List ℕ
run_head seed txns = codes "soak seed=" ++ decimal seed ++ codes " txns=" ++ decimal txns ++ codes " scn="

abbrev pub with_run : (seed txns : ℕ) → Told → List ℕ
with_run seed txns t = t.text ++ newline ++ run_head seed txns ++ t.scn ++ newline

abbrev pub told_of : (seed txns : ℕ) → List ℕ → List ℕ
told_of seed txns transcript = with_run seed txns (after_lines nothing_told (lines_in transcript))
