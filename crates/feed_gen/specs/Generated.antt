-- The generated feed: its deliveries, and their bytes.
use Rattle.std.specs.Prelude.{ℕ, ◌+◌, ◌-◌, ◌*◌, List, [], ◌∷◌, ◌++◌, map, length, min}
use Rattle.std.specs.List.{range_with_len}
use Rattle.std.specs.Int.{div_ceil}
use Rattle.adg_model.specs.Feed.{Item, feed_bytes}
use Rattle.adg_model.specs.Feed.Item.{Redo, Asks}
use Rattle.adg_model.specs.Records.{record_bytes}
use Rattle.adg_model.specs.Command.{command_bytes}
use Rattle.feed_gen.specs.declared.writing.Writing.{Writing}
use Rattle.feed_gen.specs.declared.second.Kept.{Kept}
use Rattle.feed_gen.specs.declared.bank.Bank.{Bank}
use Rattle.feed_gen.specs.Tables.{creates, loads}
use Rattle.feed_gen.specs.Transfers.{opened, transfers, after_transfers, closing}
use Rattle.feed_gen.specs.Commands.{Asking, opening_asked, transfer_asked, closing_asked, of_sessions}

abbrev pub threads : ℕ
threads = 3

abbrev pub sessions : ℕ
sessions = 4

-- a delivery: what the threads write, in this order, and then what the sessions ask
pub record Draft : Type 0 where
  pub written : List Writing
  pub asked : List Asking

-- a record has the SCN that is its number over all threads, and a frame of its own
abbrev pub redo_item : ℕ → Writing → Item
redo_item scn w = Redo w.thread (record_bytes (record { scn = scn; vectors = w.vectors }))

abbrev pub redo_items : ℕ → List Writing → List Item
redo_items scn [] = []
redo_items scn (w ∷ ws) = redo_item scn w ∷ redo_items (scn + 1) ws

abbrev pub ask_item : Asking → Item
ask_item a = Asks a.session (command_bytes a.command)

-- the items of deliveries, of which the first record has this SCN
abbrev pub draft_items : ℕ → Draft → List Item
draft_items scn d = redo_items scn d.written ++ map ask_item d.asked

abbrev pub drafts_items : ℕ → List Draft → List (List Item)
drafts_items scn [] = []
drafts_items scn (d ∷ ds) = draft_items scn d ∷ drafts_items (scn + length d.written) ds

-- the transfers come in portions of 500, the last of them what is left
abbrev pub portion : ℕ
portion = 500

abbrev pub portion_of : ℕ → ℕ → ℕ
portion_of txns i = min portion (txns - portion * i)

abbrev pub portions : ℕ → List ℕ
portions txns = map (portion_of txns) (range_with_len 0 (div_ceil txns portion))

-- the tables made and loaded
abbrev pub opening : Draft
opening = record { written = creates ++ loads; asked = of_sessions opening_asked }

-- a portion of transfers, and the end of the threads
abbrev pub transfer_draft : ℕ → ℕ → Bank → Draft
transfer_draft delivery count bank = record { written = transfers count bank; asked = of_sessions (transfer_asked delivery) }

abbrev pub last_draft : Kept → Draft
last_draft kept = record { written = closing kept; asked = closing_asked }

-- the portions, each a delivery, from this one on, and behind them the last one
abbrev pub transfer_drafts : ℕ → List ℕ → Bank → List Draft
transfer_drafts delivery [] bank = last_draft bank.kept ∷ []
transfer_drafts delivery (n ∷ ns) bank = transfer_draft delivery n bank ∷ transfer_drafts (delivery + 1) ns (after_transfers n bank)

unfoldable pub drafts : ℕ → ℕ → List Draft
drafts seed txns = opening ∷ transfer_drafts 2 (portions txns) (opened seed)

-- the deliveries of the feed, and its bytes
unfoldable pub generated_deliveries : ℕ → ℕ → List (List Item)
generated_deliveries seed txns = drafts_items 1 (drafts seed txns)

unfoldable pub generated : ℕ → ℕ → List ℕ
generated seed txns = feed_bytes threads sessions (generated_deliveries seed txns)
