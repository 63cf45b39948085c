-- A feed as far as it is written, and what each part adds to it.
use Rattle.std.specs.Prelude.{ℕ, ◌+◌, List, [], ◌∷◌, ◌++◌, map, length}
use Rattle.adg_model.specs.Feed.{items_bytes, item_bytes, end_bytes, stop_bytes, opening_bytes, Asks}
use Rattle.feed_gen.specs.declared.writing.Writing.{Writing}
use Rattle.feed_gen.specs.Commands.{Asking}
use Rattle.feed_gen.specs.Generated.{threads, sessions, redo_items, ask_item, Draft}

-- its bytes, and how many records they have
pub record Written : Type 0 where
  pub bytes : List ℕ
  pub records : ℕ

abbrev pub opened_feed : Written
opened_feed = record { bytes = opening_bytes threads sessions; records = 0 }

abbrev pub with_bytes : List ℕ → Written → Written
with_bytes bytes w = record w { bytes = w.bytes ++ bytes }

-- records, each with the next SCN
abbrev pub with_writings : Written → List Writing → Written
with_writings w ws = record { bytes = w.bytes ++ items_bytes (redo_items (w.records + 1) ws); records = w.records + length ws }

-- commands
abbrev pub with_text : ℕ → List ℕ → Written → Written
with_text session text w = with_bytes (item_bytes (Asks session text)) w

abbrev pub with_asked : Written → List Asking → Written
with_asked w asked = with_bytes (items_bytes (map ask_item asked)) w

-- the end of a delivery, a delivery, and deliveries
abbrev pub with_end : Written → Written
with_end w = with_bytes end_bytes w

abbrev pub with_draft : Written → Draft → Written
with_draft w d = with_end (with_asked (with_writings w d.written) d.asked)

abbrev pub with_drafts : Written → List Draft → Written
with_drafts w [] = w
with_drafts w (d ∷ ds) = with_drafts (with_draft w d) ds

-- the bytes with the end of the feed
abbrev pub with_stop : Written → List ℕ
with_stop w = w.bytes ++ stop_bytes
