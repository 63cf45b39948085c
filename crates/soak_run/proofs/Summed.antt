-- What is read of a legal transcript of the generated feed is the summary of its run.
use Rattle.std.proofs.Common.{◌≡◌, ℕ, ◌+◌, ◌≤◌, ◌==◌, Bool, true, false, cond, List, [], ◌∷◌, ◌++◌, length, map, Some, None, ◌⊎◌, inl, inr, refl, sym, ap, ap₂, ◌∙◌, subst, arith, append_assoc, append-nil}
use Rattle.std.specs.Prelude.{codes, decimal}
use Rattle.std.specs.List.{flat_map, filter_map, cons_option, list_any, range_with_len, AllByRecursion, AllZip}
use Rattle.std.proofs.lemmas.List.Sums.{sum_by-cons}
use Rattle.adg_base.specs.declared.answer.Line.{Line}
use Rattle.adg_base.specs.declared.answer.Lines.{Lines}
use Rattle.adg_base.specs.declared.answer.Reply.{Reply}
use Rattle.adg_base.specs.declared.answer.Reply.TheVariants.{Rows, Populated, Synced, Shown, Aborted, BadQuery, NoTable, NotInMemory, NoColumn, WrongType, Down}
use Rattle.adg_base.specs.declared.log.LogEntry.{LogEntry}
use Rattle.adg_base.specs.declared.vector.RedoRecord.{RedoRecord}
use Rattle.adg_model.specs.Database.{no_database}
use Rattle.adg_model.specs.Log.{frontier, merged_log, ReceivedFrom}
use Rattle.adg_model.specs.Reply.{IsReply, line_bytes, lines_bytes, end_line_bytes, at_scn, newline}
use Rattle.adg_model.specs.Sound.{SoundFrom, IsSound}
use Rattle.adg_model.specs.Transcript.{Answers, asked_from, all_asked, scn_of, replies_to, is_abort, is_down, AllAre, SyncHolds, replies_that, LegalFrom, IsTranscript, printed}
use Rattle.adg_model.proofs.DeliveryLaws.{records_are_determined}
use Rattle.feed_gen.specs.Generated.{generated_deliveries}
use Rattle.feed_gen.proofs.Lawful.{each_is_read}
use Rattle.soak_run.specs.Summary.{soaked, run_text, summary_text, IsSummary}
use Rattle.soak_run.specs.Telling.{Told, nothing_told, synced, after_lines, lines_in, with_run, told_of, synced_mark, behind_equals}
use Rattle.soak_run.proofs.Asked.{sync_text, questions, HasLast, soaked_last, asked_last, none_aborts}
use Rattle.soak_run.proofs.LastLines.{LastLines, last_lines, printed_last}
use Rattle.soak_run.proofs.Lines.{IsPlain, plain_append, plain_text, decimal_plain, EndsOtherwise, decimal_ends, ends_append, behind_number}
use Rattle.soak_run.proofs.Reading.{read_line, read_some, after_sync, after_end}
use Rattle.soak_run.proofs.Replies.{sync_reply}
use Rattle.soak_run.proofs.Tables.{AnswersAt, piece, told, read_tables, all_pieces}

-- ---- the replies of the last delivery are at the frontier

-- none of the replies is Down
one_if : Bool → ℕ
one_if b = cond b 1 0

none_down : (ls : List Line) → replies_that is_down ls ≡ 0 → AllByRecursion (λ (l : Line). is_down l.reply ≡ false) ls
unfolding one_if
none_down [] e = tt
none_down (l ∷ ls) e =
    let parts = sum_by-cons (λ (x : Line). one_if (is_down x.reply)) l ls in
    let here : one_if (is_down l.reply) ≡ 0 = omega (arith, parts, e) in
    (first (is_down l.reply) here, none_down ls (omega (arith, parts, e)))
  where
    first : (b : Bool) → one_if b ≡ 0 → b ≡ false
    first false n = refl
    first true n = absurd (omega (arith, n))

scn_there : (r : Reply) → is_down r ≡ false → (q : ℕ) × (scn_of r ≡ Some q)
scn_there (Rows scn answer col row) h = (scn, refl)
scn_there (Populated scn units) h = (scn, refl)
scn_there (Synced scn) h = (scn, refl)
scn_there (Shown scn) h = (scn, refl)
scn_there (Aborted scn) h = (scn, refl)
scn_there (BadQuery scn byte) h = (scn, refl)
scn_there (NoTable scn) h = (scn, refl)
scn_there (NotInMemory scn) h = (scn, refl)
scn_there (NoColumn scn) h = (scn, refl)
scn_there (WrongType scn) h = (scn, refl)
scn_there Down h = absurd cc

at_frontier : (f : ℕ) (ls : List Line) → AllByRecursion (λ (l : Line). is_down l.reply ≡ false) ls → AllAre f (filter_map scn_of (map (λ (l : Line). l.reply) ls)) → AllByRecursion (AnswersAt f) ls
at_frontier f [] up all = tt
at_frontier f (l ∷ ls) up all =
    let there = scn_there l.reply up.0 in
    let parts : AllAre f (cons_option (Some there.0) (filter_map scn_of (map (λ (x : Line). x.reply) ls))) = subst (λ o. AllAre f (cons_option o (filter_map scn_of (map (λ (x : Line). x.reply) ls)))) there.1 all in
    (record { up = up.0; scn = there.1 ∙ ap Some parts.0 }, at_frontier f ls up.1 parts.1)

-- all lines are of the first session
own_replies : (log : List LogEntry) (f number : ℕ) (texts : List (List ℕ)) (ls : List Line) → AllZip (Answers log f) (asked_from 1 number texts) ls → replies_to 1 ls ≡ map (λ (l : Line). l.reply) ls
own_replies log f number [] [] zip = refl
own_replies log f number [] (l ∷ ls) zip = absurd zip
own_replies log f number (t ∷ texts) [] zip = absurd zip
own_replies log f number (t ∷ texts) (l ∷ ls) zip =
    ap₂ (λ (s : ℕ) (rs : List Reply). cons_option (cond (s == 1) (Some l.reply) None) rs) (sym zip.0.0) (own_replies log f (number + 1) texts ls zip.1)

-- ---- the text of the last delivery

module _ (log : List LogEntry) (f : ℕ) (sound : SoundFrom no_database log) (delivery : ℕ) where
  -- the line of the SYNC
  read_sync : (t : Told) (session number : ℕ) (rest : List ℕ)
      → after_lines t (lines_in (line_bytes delivery (record { session = session; number = number; reply = Synced f }) ++ rest)) ≡ after_lines (told f 0 []) (lines_in rest)
  read_sync t session number rest =
      let front = decimal delivery ++ codes " s" ++ decimal session ++ codes " c" ++ decimal number in
      let mid = front ++ at_scn f in
      let front_plain : IsPlain front =
      plain_append _ (decimal number) (plain_append _ (codes " c") (plain_append _ (decimal session) (plain_append (decimal delivery) (codes " s") (decimal_plain delivery) (refl, (refl, tt))) (decimal_plain session)) (refl, (refl, tt))) (decimal_plain number) in
      let scn_plain : IsPlain (at_scn f) = plain_append (codes " scn=") (decimal f) (plain_text (codes " scn=") refl) (decimal_plain f) in
      let plain : IsPlain (100 ∷ (mid ++ synced_mark)) = (refl, plain_append mid synced_mark (plain_append front (at_scn f) front_plain scn_plain) (plain_text synced_mark refl)) in
      let scn : behind_equals mid ≡ decimal f = ap behind_equals (turned (decimal delivery) (codes " s") (decimal session) (codes " c") (decimal number) (at_scn f))
      ∙ behind_number delivery (codes " s" ++ (decimal session ++ (codes " c" ++ (decimal number ++ at_scn f))))
      ∙ behind_number session (codes " c" ++ (decimal number ++ at_scn f))
      ∙ behind_number number (at_scn f) in
      ap (λ x. after_lines t (lines_in x)) (whole (100 ∷ front) (at_scn f) synced_mark rest)
      ∙ read_line t (100 ∷ (mid ++ synced_mark)) rest plain
      ∙ ap (λ u. after_lines u (lines_in rest)) (after_sync t mid ∙ ap (λ s. record { scn = s; tables = 0; text = [] }) scn)
    where
      whole : (front scn mark rest : List ℕ) → (front ++ (scn ++ mark ++ newline)) ++ rest ≡ ((front ++ scn) ++ mark) ++ 10 ∷ rest
      whole front scn mark rest = simp append_assoc refl

      turned : (a b c d e g : List ℕ) → a ++ b ++ c ++ d ++ e ++ g ≡ a ++ (b ++ (c ++ (d ++ (e ++ g))))
      turned a b c d e g = simp append_assoc refl

  -- the line of the end, and what is behind it
  read_end : (text : List ℕ) → after_lines (told f 20 text) (lines_in (end_line_bytes delivery f)) ≡ told f 20 text
  read_end text =
      let mid = decimal delivery ++ codes " end" ++ at_scn f in
      let plain : IsPlain (100 ∷ mid) =
      (refl, plain_append _ (at_scn f) (plain_append (decimal delivery) (codes " end") (decimal_plain delivery) (plain_text (codes " end") refl)) (plain_append (codes " scn=") (decimal f) (plain_text (codes " scn=") refl) (decimal_plain f))) in
      let ends : EndsOtherwise (100 ∷ mid) = ends_append (100 ∷ (decimal delivery ++ codes " end")) (at_scn f) (ends_append (codes " scn=") (decimal f) (decimal_ends f)) in
      read_line (told f 20 text) (100 ∷ mid) [] plain
      ∙ ap (λ t. after_lines t ([] ∷ [])) (after_end (told f 20 text) mid ends refl)

  read_delivery : (t : Told) (ls : List Line) → AllZip (Answers log f) (asked_from 1 1 (sync_text ∷ questions (range_with_len 1 20))) ls → AllByRecursion (λ (l : Line). is_down l.reply ≡ false) ls
      → SyncHolds f f (replies_to 1 ls)
      → after_lines t (lines_in (lines_bytes delivery (record { list = ls; end = f }))) ≡ told f 20 (flat_map (piece log f) (range_with_len 0 20))
  read_delivery t [] zip up synced = absurd zip
  read_delivery t (l ∷ ls) zip up synced =
      let reply = sync_reply log f l.reply (not_down zip.0.2) in
      let line : l ≡ record { session = l.session; number = l.number; reply = Synced f } = ap (λ r. record l { reply = r }) reply in
      let own : replies_to 1 (l ∷ ls) ≡ Synced f ∷ map (λ (x : Line). x.reply) ls = own_replies log f 1 (sync_text ∷ questions (range_with_len 1 20)) (l ∷ ls) zip ∙ ap (λ r. r ∷ map (λ (x : Line). x.reply) ls) reply in
      let at = at_frontier f ls up.1 (subst (SyncHolds f f) own synced).0 in
      let tables = flat_map (line_bytes delivery) ls in
      let end = end_line_bytes delivery f in
      ap (λ x. after_lines t (lines_in x)) (append_assoc (line_bytes delivery l) tables end)
      ∙ ap (λ x. after_lines t (lines_in (line_bytes delivery x ++ (tables ++ end)))) line
      ∙ read_sync t l.session l.number (tables ++ end)
      ∙ read_tables log f sound delivery 20 0 2 [] end ls refl zip.1 at
      ∙ read_end (flat_map (piece log f) (range_with_len 0 20))
    where
      not_down : ((l.reply ≡ Down) ⊎ IsReply log f sync_text l.reply) → IsReply log f sync_text l.reply
      not_down (inl is) = let clash : true ≡ false = sym (ap is_down is) ∙ up.0 in absurd cc
      not_down (inr h) = h

-- ---- the whole

with_run_text : (seed txns f : ℕ) (log : List LogEntry) → with_run seed txns (told f 20 (flat_map (piece log f) (range_with_len 0 20))) ≡ summary_text seed txns log f
with_run_text seed txns f log =
    let pieces = flat_map (piece log f) (range_with_len 0 20) in
    turned pieces newline (codes "soak seed=" ++ decimal seed ++ codes " txns=" ++ decimal txns) (codes " scn=") (decimal f) newline
    ∙ ap (λ x. x ++ run_text seed txns f) (all_pieces log f 19)
  where
    turned : (p nl head scn digits end : List ℕ) → p ++ nl ++ (head ++ scn) ++ digits ++ end ≡ (p ++ nl) ++ (head ++ (scn ++ digits) ++ end)
    turned p nl head scn digits end = simp append_assoc refl

-- the log of the whole feed is sound
soaked_sound : (seed txns : ℕ) → txns ≤ 100000 → (records : List (List RedoRecord)) → length records ≡ 3 → ReceivedFrom 1 (soaked seed txns) records → IsSound (merged_log records)
soaked_sound seed txns few records all received =
    let read = each_is_read seed txns few (generated_deliveries seed txns) [] (sym (append-nil (generated_deliveries seed txns))) in
    let same = records_are_determined (soaked seed txns) records read.records (all ∙ sym read.all) received read.received in
    subst (λ (r : List (List RedoRecord)). IsSound (merged_log r)) (sym same) read.sound

-- the lines of the last delivery
module _ (seed txns : ℕ) (few : txns ≤ 100000) (has : HasLast (soaked seed txns)) (lines : List Lines) (last : LastLines 3 4 (soaked seed txns) has.last lines) where
  told_last : (t : Told) (delivery : ℕ) → after_lines t (lines_in (lines_bytes delivery last.end)) ≡ told (frontier last.records) 20 (flat_map (piece (merged_log last.records) (frontier last.records)) (range_with_len 0 20))
  told_last t delivery =
      let log = merged_log last.records in
      let f = frontier last.records in
      let calm = last.legal.calm (ap (λ cs. list_any is_abort cs) has.commands ∙ none_aborts) in
      let zip : AllZip (Answers log f) (asked_from 1 1 (sync_text ∷ questions (range_with_len 1 20))) last.end.list =
      subst (λ asked. AllZip (Answers log f) asked last.end.list) (ap (all_asked 4) has.commands ∙ asked_last) last.legal.answered in
      let synced : SyncHolds f f (replies_to 1 last.end.list) = subst (λ e. SyncHolds f e (replies_to 1 last.end.list)) calm.reached (last.legal.synced 1) in
      ap (λ e. after_lines t (lines_in (lines_bytes delivery (record { list = last.end.list; end = e })))) calm.reached
      ∙ read_delivery log f (soaked_sound seed txns few last.records last.all last.received) delivery t last.end.list zip (none_down last.end.list calm.up) synced

pub summed : (seed txns : ℕ) → txns ≤ 100000 → (transcript : List ℕ) → IsTranscript 3 4 (soaked seed txns) transcript → IsSummary seed txns (told_of seed txns transcript)
summed seed txns few transcript h =
    let has = soaked_last seed txns in
    let lasts = last_lines 3 4 0 [] has.before has.last h.lines (subst (λ ds. LegalFrom 3 4 [] 0 ds h.lines) has.split h.legal) in
    let last : LastLines 3 4 (soaked seed txns) has.last h.lines = subst (λ ds. LastLines 3 4 ds has.last h.lines) (sym has.split) lasts in
    let text = printed_last 1 last.front last.end in
    let lines = lines_bytes (1 + length last.front) last.end in
    let parts : transcript ≡ text.0 ++ lines = h.print ∙ ap (printed 1) last.split ∙ text.2 in
    let before = read_some nothing_told text.0 lines text.1 in
    let read = ap (λ x. after_lines nothing_told (lines_in x)) parts ∙ before.1 ∙ told_last seed txns few has h.lines last before.0 (1 + length last.front) in
    record {
      records = last.records;
      all = last.all;
      received = last.received;
      is_text = ap (with_run seed txns) read ∙ with_run_text seed txns (frontier last.records) (merged_log last.records);
    }
