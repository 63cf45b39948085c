-- What is asked in the last delivery of the generated feed.
use Rattle.std.proofs.Common.{◌≡◌, ℕ, ◌+◌, ◌≤◌, ◌==◌, Bool, false, cond, List, [], ◌∷◌, ◌++◌, length, map, Some, None, refl, ap, ap₂, ◌∙◌, arith, append-nil}
use Rattle.std.specs.List.{filter_map, cons_option, list_any, range_with_len}
use Rattle.adg_base.specs.declared.command.Command.TheVariants as command
use Rattle.adg_base.specs.declared.command.CommandText.{CommandText}
use Rattle.adg_model.specs.declared.delivery.RawDelivery.{RawDelivery}
use Rattle.adg_model.specs.Command.{command_bytes, IsCommand}
use Rattle.adg_model.specs.Feed.{Item, delivery_of, command_of}
use Rattle.adg_model.specs.Transcript.{texts_of, asked_from, all_asked, is_abort}
use Rattle.feed_gen.specs.declared.writing.Writing.{Writing}
use Rattle.feed_gen.specs.declared.second.Kept.{Kept}
use Rattle.feed_gen.specs.declared.bank.Bank.{Bank}
use Rattle.feed_gen.specs.Commands.{Asking, ask, all_tables, closing_asked, counts_and_sums}
use Rattle.feed_gen.specs.Generated.{redo_items, ask_item, draft_items, drafts_items, last_draft, transfer_draft, transfer_drafts, opening, portions, drafts, generated_deliveries}
use Rattle.feed_gen.specs.Transfers.{opened, after_transfers}
use Rattle.soak_run.specs.Summary.{balances_of, soaked}

-- the texts of the questions about tables from one on
abbrev pub table_question : ℕ → List ℕ
table_question k = command_bytes (command.Select (balances_of k))

abbrev pub questions : List ℕ → List (List ℕ)
questions tables = map table_question tables

abbrev pub sync_text : List ℕ
sync_text = command_bytes command.Sync

-- a command of the first session
abbrev first_asks : List ℕ → CommandText
first_asks text = record { session = 1; text = text }

-- ---- the commands of a delivery

command_texts : List Asking → List CommandText
command_texts asked = map (λ (a : Asking). record { session = a.session; text = command_bytes a.command }) asked

no_commands : (scn : ℕ) (ws : List Writing) (more : List Item) → filter_map command_of (redo_items scn ws ++ more) ≡ filter_map command_of more
no_commands scn [] more = refl
no_commands scn (w ∷ ws) more = no_commands (scn + 1) ws more

item_commands : (asked : List Asking) → filter_map command_of (map ask_item asked) ≡ command_texts asked
unfolding command_texts
item_commands [] = refl
item_commands (a ∷ asked) = ap (λ l. record { session = a.session; text = command_bytes a.command } ∷ l) (item_commands asked)

table_commands : (tables : List ℕ) → command_texts (map (λ k. ask 1 (counts_and_sums k)) tables) ≡ map first_asks (questions tables)
unfolding command_texts
table_commands [] = refl
table_commands (k ∷ tables) = ap (λ l. first_asks (table_question k) ∷ l) (table_commands tables)

pub last_commands : List CommandText
last_commands = first_asks sync_text ∷ map first_asks (questions (range_with_len 1 20))

draft_commands : (scn : ℕ) (kept : Kept) → (delivery_of (draft_items scn (last_draft kept))).commands ≡ last_commands
unfolding closing_asked all_tables command_texts last_commands
draft_commands scn kept =
    no_commands scn (last_draft kept).written (map ask_item closing_asked)
    ∙ item_commands closing_asked
    ∙ ap (λ l. first_asks sync_text ∷ l) (table_commands (range_with_len 1 20))

-- ---- the last delivery

pub record HasLast (deliveries : List RawDelivery) : Type 0 where
  pub before : List RawDelivery
  pub last : RawDelivery
  pub split : deliveries ≡ before ++ last ∷ []
  pub commands : last.commands ≡ last_commands

last_of : (ns : List ℕ) (scn delivery : ℕ) (bank : Bank) → HasLast (map delivery_of (drafts_items scn (transfer_drafts delivery ns bank)))
last_of [] scn delivery bank = record {
  before = [];
  last = delivery_of (draft_items scn (last_draft bank.kept));
  split = refl;
  commands = draft_commands scn bank.kept;
}
last_of (n ∷ ns) scn delivery bank =
    let d = transfer_draft delivery n bank in
    let later = last_of ns (scn + length d.written) (delivery + 1) (after_transfers n bank) in
    record { before = delivery_of (draft_items scn d) ∷ later.before; last = later.last; split = ap (λ l. delivery_of (draft_items scn d) ∷ l) later.split; commands = later.commands }

pub soaked_last : (seed txns : ℕ) → HasLast (soaked seed txns)
unfolding generated_deliveries drafts
soaked_last seed txns =
    let later = last_of (portions txns) (1 + length opening.written) 2 (opened seed) in
    record { before = delivery_of (draft_items 1 opening) ∷ later.before; last = later.last; split = ap (λ l. delivery_of (draft_items 1 opening) ∷ l) later.split; commands = later.commands }

-- ---- all is asked by the first session

own_texts : (texts : List (List ℕ)) → texts_of 1 (map first_asks texts) ≡ texts
own_texts [] = refl
own_texts (t ∷ texts) = ap (λ l. t ∷ l) (own_texts texts)

other_texts : (s : ℕ) (texts : List (List ℕ)) → (1 == s) ≡ false → texts_of s (map first_asks texts) ≡ []
other_texts s [] e = refl
other_texts s (t ∷ texts) e = ap₂ (λ (b : Bool) (l : List (List ℕ)). cons_option (cond b (Some t) None) l) e (other_texts s texts e)

pub asked_last : all_asked 4 last_commands ≡ asked_from 1 1 (sync_text ∷ questions (range_with_len 1 20))
unfolding last_commands
asked_last =
    let texts = sync_text ∷ questions (range_with_len 1 20) in
    ap₂ (λ x y. asked_from 1 1 x ++ y) (own_texts texts)
    (ap₂ (λ x y. asked_from 2 1 x ++ y) (other_texts 2 texts refl)
    (ap₂ (λ x y. asked_from 3 1 x ++ y) (other_texts 3 texts refl)
    (ap (λ x. asked_from 4 1 x ++ []) (other_texts 4 texts refl))))
    ∙ append-nil (asked_from 1 1 texts)

no_abort : (tables : List ℕ) → list_any is_abort (map first_asks (questions tables)) ≡ false
no_abort [] = refl
no_abort (k ∷ tables) = no_abort tables

pub none_aborts : list_any is_abort last_commands ≡ false
unfolding last_commands
none_aborts = no_abort (range_with_len 1 20)

pub is_question : (k : ℕ) → 1 ≤ k → k ≤ 20 → IsCommand (command.Select (balances_of k))
is_question k low high = record { object = (low, omega arith); asks = (omega arith, (tt, ((omega arith, omega arith), tt)), (omega arith, omega arith)); tests = tt }
