-- Commands are read as they are spelled, and a text goes wrong where its longest part that begins one ends.
use Rattle.std.proofs.Common.{◌≡◌, ◌≢◌, ℕ, ◌+◌, ◌-◌, ◌<◌, ◌≤◌, suc, List, [], ◌∷◌, ◌++◌, length, get_or, take, drop, Option, Some, None, Result, Ok, Err, ◌⊎◌, inl, inr, refl, sym, ap, ap₂, ◌∙◌, subst, arith, append_assoc, codes}
use Rattle.std.specs.Fmt.{decimal}
use Rattle.std.proofs.lemmas.List.{append-nil, append_cancel_left, length-append, take_at}
use Rattle.std.proofs.Math.Seq.{take-append-add}
use Rattle.adg_base.specs.declared.command.Command.{Command}
use Rattle.adg_base.specs.declared.command.Command.TheVariants as command
use Rattle.adg_base.specs.declared.command.Select.{Select}
use Rattle.adg_model.specs.Spelling.{IsObj}
use Rattle.adg_model.specs.Command.{select_bytes, command_bytes, IsSelect, IsCommand, Spells, BeginsCommand, IsBadQuery}
use Rattle.adg_model.proofs.CommandLaws.{one_command}
use Rattle.query_text.specs.declared.read.Verb.{Verb}
use Rattle.query_text.specs.declared.read.Verb.TheVariants.{Populate, Sync, ShowScn, Abort}
use Rattle.query_text.specs.declared.read.Verb.TheVariants as verb
use Rattle.query_text.specs.declared.fault.Fault.{Fault}
use Rattle.query_text.specs.declared.refused.TextFault.{TextFault}
use Rattle.query_text.specs.declared.refused.TextFault.TheVariants.{BadQuery, Memory}
use Rattle.query_text.specs.Stopping.{Stops, Refuses, Spelled, Front, Takes, Reads, ReadsAll, Anything}
use Rattle.query_text.specs.Words.{IsMeant, Finds}
use Rattle.query_text.specs.Parts.{query_bytes, IsVerb, verb_bytes, IsWhole}
use Rattle.query_text.proofs.Stopping.{stops_in, stops_as, refuses}
use Rattle.query_text.proofs.Tables.{table_reads}
use Rattle.query_text.proofs.Selects.{select_is, one_query, one_query_good}

-- ---- how a command begins

verb_meant : {W : Type 0} (a b c d e : W) (t : Verb) → IsMeant ((a, verb.Select) ∷ (b, Populate) ∷ (c, Sync) ∷ (d, ShowScn) ∷ (e, Abort) ∷ []) t
verb_meant a b c d e verb.Select = inl refl
verb_meant a b c d e Populate = inr (inl refl)
verb_meant a b c d e Sync = inr (inr (inl refl))
verb_meant a b c d e ShowScn = inr (inr (inr (inl refl)))
verb_meant a b c d e Abort = inr (inr (inr (inr (inl refl))))

pub verb_reads : {W Y : Type 0} (now : W → List ℕ) (a b c d e : W) → now a ≡ codes "SELECT " → now b ≡ codes "POPULATE t" → now c ≡ codes "SYNC" → now d ≡ codes "SHOW SCN" → now e ≡ codes "ABORT" → (meaning : Y → Verb) (rest : Y → List ℕ) (text : List ℕ) (r : Result Y Fault) → Finds now ((a, verb.Select) ∷ (b, Populate) ∷ (c, Sync) ∷ (d, ShowScn) ∷ (e, Abort) ∷ []) meaning rest text r → Reads meaning rest Anything IsVerb verb_bytes text r
verb_reads now a b c d e ha hb hc hd he meaning rest text r h =
    table_reads now IsVerb verb_bytes ((a, verb.Select) ∷ (b, Populate) ∷ (c, Sync) ∷ (d, ShowScn) ∷ (e, Abort) ∷ [])
    (record { sound = ((tt, ha), ((tt, hb), ((tt, hc), ((tt, hd), ((tt, he), tt))))); whole = λ t good. verb_meant a b c d e t; one = Sync; one_good = tt })
    meaning rest text r h

abbrev pub CommandStops : List ℕ → ℕ → Type 0
CommandStops text left = Stops (Spelled IsCommand command_bytes) (Spelled IsCommand command_bytes) text left

verb_stops : (text : List ℕ) (left : ℕ) → Stops (Spelled IsVerb verb_bytes) (Front Anything IsVerb verb_bytes) text left → CommandStops text left
verb_stops text left s =
    stops_as (Spelled IsVerb verb_bytes) (Front Anything IsVerb verb_bytes) (Spelled IsCommand command_bytes) (Spelled IsCommand command_bytes) text left
    (λ x h. goes_on x h.value h.is)
    (λ x e h. of_verb x h.value h.is)
    s
  where
    goes_on : (x : List ℕ) (v : Verb) → x ≡ verb_bytes v → (k : List ℕ) × Spelled IsCommand command_bytes (x ++ k)
    goes_on x verb.Select e = (query_bytes one_query, record { value = command.Select one_query; good = one_query_good; is = ap (λ l. l ++ query_bytes one_query) e ∙ select_is one_query })
    goes_on x Populate e = (decimal 1, record { value = command.Populate 1; good = (omega arith, omega arith); is = ap (λ l. l ++ decimal 1) e })
    goes_on x Sync e = ([], record { value = command.Sync; good = tt; is = append-nil x ∙ e })
    goes_on x ShowScn e = ([], record { value = command.ShowScn; good = tt; is = append-nil x ∙ e })
    goes_on x Abort e = ([], record { value = command.Abort; good = tt; is = append-nil x ∙ e })

    of_verb : (x : List ℕ) (c : Command) → x ≡ command_bytes c → Front Anything IsVerb verb_bytes x
    of_verb x (command.Select s) e = record { value = verb.Select; rest = query_bytes s; good = tt; ends = tt; is = e ∙ sym (select_is s) }
    of_verb x (command.Populate o) e = record { value = Populate; rest = decimal o; good = tt; ends = tt; is = e }
    of_verb x command.Sync e = record { value = Sync; rest = []; good = tt; ends = tt; is = e }
    of_verb x command.ShowScn e = record { value = ShowScn; rest = []; good = tt; ends = tt; is = e }
    of_verb x command.Abort e = record { value = Abort; rest = []; good = tt; ends = tt; is = e }

-- ---- behind the first word

of_select : (x : List ℕ) (c : Command) → IsCommand c → codes "SELECT " ++ x ≡ command_bytes c → Spelled IsSelect query_bytes x
of_select x (command.Select s) good e = record { value = s; good = good; is = append_cancel_left (codes "SELECT ") x (query_bytes s) (e ∙ sym (select_is s)) }
of_select x c good e = absurd (omega (arith, ap (λ l. get_or l 0 0) e, ap (λ l. get_or l 1 0) e))

of_populate : (x : List ℕ) (c : Command) → IsCommand c → codes "POPULATE t" ++ x ≡ command_bytes c → Spelled IsObj decimal x
of_populate x (command.Populate o) good e = record { value = o; good = good; is = ap (drop 10) e }
of_populate x c good e = absurd (omega (arith, ap (λ l. get_or l 0 0) e))

query_stops : (text : List ℕ) (left : ℕ) → Stops (Spelled IsSelect query_bytes) (Spelled IsSelect query_bytes) text left → CommandStops (codes "SELECT " ++ text) left
query_stops text left s =
    stops_in (Spelled IsSelect query_bytes) (Spelled IsSelect query_bytes) (Spelled IsCommand command_bytes) (Spelled IsCommand command_bytes) (codes "SELECT ") text left
    (λ x h. ([], record { value = command.Select h.value; good = h.good; is = ap (λ l. codes "SELECT " ++ l) (append-nil x ∙ h.is) ∙ select_is h.value }))
    (λ x e h. of_select x h.value h.good h.is)
    s

populate_stops : (text : List ℕ) (left : ℕ) → Stops (Spelled IsObj decimal) (Spelled IsObj decimal) text left → CommandStops (codes "POPULATE t" ++ text) left
populate_stops text left s =
    stops_in (Spelled IsObj decimal) (Spelled IsObj decimal) (Spelled IsCommand command_bytes) (Spelled IsCommand command_bytes) (codes "POPULATE t") text left
    (λ x h. ([], record { value = command.Populate h.value; good = h.good; is = ap (λ l. codes "POPULATE t" ++ l) (append-nil x ∙ h.is) }))
    (λ x e h. of_populate x h.value h.good h.is)
    s

-- a command that is one word
abbrev pub word_command : Verb → Option Command
word_command verb.Select = None
word_command Populate = None
word_command Sync = Some command.Sync
word_command ShowScn = Some command.ShowScn
word_command Abort = Some command.Abort

nothing_behind : (x : List ℕ) (v : Verb) (c d : Command) → word_command v ≡ Some c → verb_bytes v ++ x ≡ command_bytes d → x ≡ []
nothing_behind x Sync c command.Sync w e = ap (drop 4) e
nothing_behind x ShowScn c command.ShowScn w e = ap (drop 8) e
nothing_behind x Abort c command.Abort w e = ap (drop 5) e
nothing_behind x verb.Select c d w e = absurd cc
nothing_behind x Populate c d w e = absurd cc
nothing_behind x v c d w e = absurd (omega (arith, ap (λ l. get_or l 0 0) e, ap (λ l. get_or l 1 0) e))

some_is : (c d : Command) → (let o : Option Command = Some c in o) ≡ Some d → c ≡ d
some_is c d e = cc

word_is : (v : Verb) (c : Command) → word_command v ≡ Some c → IsCommand c × (verb_bytes v ≡ command_bytes c)
word_is verb.Select c w = absurd cc
word_is Populate c w = absurd cc
word_is Sync c w = subst (λ d. IsCommand d × (verb_bytes Sync ≡ command_bytes d)) (some_is command.Sync c w) (tt, refl)
word_is ShowScn c w = subst (λ d. IsCommand d × (verb_bytes ShowScn ≡ command_bytes d)) (some_is command.ShowScn c w) (tt, refl)
word_is Abort c w = subst (λ d. IsCommand d × (verb_bytes Abort ≡ command_bytes d)) (some_is command.Abort c w) (tt, refl)

word_stops : (v : Verb) (c : Command) (rest : List ℕ) → word_command v ≡ Some c → rest ≢ [] → CommandStops (verb_bytes v ++ rest) (length rest)
word_stops v c rest w some =
    let p = word_is v c w in
    record {
      before = verb_bytes v;
      behind = rest;
      parts = refl;
      len = refl;
      more = [];
      begins = record { value = c; good = p.0; is = append-nil (verb_bytes v) ∙ p.1 };
      none = λ h. some (nothing_behind rest v c h.value w h.is);
      longest = λ b cs later is h. omega (arith, ap length (nothing_behind (b ∷ later) v c h.value w h.is));
    }

-- ---- what a call gave

abbrev pub CommandRefused : List ℕ → Fault → Type 0
CommandRefused text fault = Refuses (Spelled IsCommand command_bytes) (Spelled IsCommand command_bytes) text fault

pub verb_refused : (all : List ℕ) (fault : Fault) → Refuses (Spelled IsVerb verb_bytes) (Front Anything IsVerb verb_bytes) all fault → CommandRefused all fault
verb_refused all fault r = refuses _ _ _ _ all all fault (λ left s. verb_stops all left s) r

pub query_refused : (all text : List ℕ) (fault : Fault) → Takes Anything IsVerb verb_bytes all verb.Select text → Refuses (Spelled IsSelect query_bytes) (Spelled IsSelect query_bytes) text fault → CommandRefused all fault
query_refused all text fault t r = refuses _ _ _ _ text all fault (λ left s. subst (λ l. CommandStops l left) (sym t.is) (query_stops text left s)) r

pub query_is : (all text : List ℕ) (s : Select) → Takes Anything IsVerb verb_bytes all verb.Select text → IsSelect s × (text ≡ query_bytes s) → IsSelect s × (all ≡ select_bytes s)
query_is all text s t h = (h.0, t.is ∙ ap (λ l. codes "SELECT " ++ l) h.1 ∙ select_is s)

pub populate_refused : (all text : List ℕ) (fault : Fault) → Takes Anything IsVerb verb_bytes all Populate text → Refuses (Spelled IsObj decimal) (Spelled IsObj decimal) text fault → CommandRefused all fault
populate_refused all text fault t r = refuses _ _ _ _ text all fault (λ left s. subst (λ l. CommandStops l left) (sym t.is) (populate_stops text left s)) r

pub word_reads : (v : Verb) (c : Command) (all rest : List ℕ) (r : Result Command Fault) → word_command v ≡ Some c → Takes Anything IsVerb verb_bytes all v rest → IsWhole c rest r → ReadsAll (λ d. d) IsCommand command_bytes all r
word_reads v c all rest (Ok d) w t h =
    let p = word_is v c w in
    (subst IsCommand (sym h.0) p.0, t.is ∙ ap (λ l. verb_bytes v ++ l) h.1 ∙ append-nil (verb_bytes v) ∙ p.1 ∙ ap command_bytes (sym h.0))
word_reads v c all rest (Err fault) w t h =
    subst (λ f. CommandRefused all f) (sym h.0) (subst (λ l. CommandStops l (length rest)) (sym t.is) (word_stops v c rest w h.1))

-- ---- the byte

begins_more : (before more : List ℕ) (c : ℕ) → BeginsCommand (before ++ c ∷ more) → (later : List ℕ) × Spelled IsCommand command_bytes (before ++ c ∷ later)
begins_more before more c b = (more ++ b.rest, record { value = b.command; good = b.good; is = sym (b.begins ∙ append_assoc before (c ∷ more) b.rest) })

pub bad_query : (text : List ℕ) (left : ℕ) → CommandStops text left → IsBadQuery text (length text - left)
bad_query text left s =
    let s-len = s.len in
    let len : length text ≡ length s.before + length s.behind = ap length s.parts ∙ length-append s.before s.behind in
    let byte : length s.before ≡ length text - left = omega arith in
    let front : take (length text - left) text ≡ s.before = ap₂ (λ n l. take n l) (sym byte) s.parts ∙ take_at s.before s.behind (length s.before) refl in
    record {
      none = λ c spells. s.none (record { value = c; good = spells.0; is = spells.1 });
      within = omega arith;
      begins = subst BeginsCommand {x = s.before} (sym front) (record { command = s.begins.value; rest = s.more; good = s.begins.good; begins = sym s.begins.is });
      longest = λ longer lt le b. longer_begins s.before s.behind s.longest longer (omega arith) (omega arith) (subst (λ l. BeginsCommand (take longer l)) s.parts b);
    }
  where
    longer_begins : (before behind : List ℕ) → ((c : ℕ) (cs later : List ℕ) → behind ≡ c ∷ cs → Spelled IsCommand command_bytes (before ++ c ∷ later) → ⊥) → (longer : ℕ) → length before < longer → longer ≤ length before + length behind → BeginsCommand (take longer (before ++ behind)) → ⊥
    longer_begins before [] longest longer lt le b = omega arith
    longer_begins before (c ∷ cs) longest longer lt le b =
        let more : longer ≡ length before + suc (longer - length before - 1) = omega arith in
        let is : take longer (before ++ c ∷ cs) ≡ before ++ c ∷ take (longer - length before - 1) cs = ap (λ n. take n (before ++ c ∷ cs)) more ∙ take-append-add before (c ∷ cs) (suc (longer - length before - 1)) in
        let h = begins_more before (take (longer - length before - 1) cs) c (subst BeginsCommand is b) in
        longest c cs h.0 refl h.1

abbrev refused : TextFault → Result Command TextFault
refused e = Err e

abbrev answered : Command → Result Command TextFault
answered c = Ok c

pub only_one : (text : List ℕ) (c : Command) → IsCommand c × (text ≡ command_bytes c) → (other : Command) → Spells text other → other ≡ c
only_one text c h other spells = one_command other c spells.0 h.0 (sym spells.1 ∙ h.1)

pub shows_byte : (text : List ℕ) (left byte : ℕ) → CommandStops text left → refused (BadQuery (length text - left)) ≡ refused (BadQuery byte) → IsBadQuery text byte
shows_byte text left byte s e = subst (λ n. IsBadQuery text n) (let same : length text - left ≡ byte = cc in same) (bad_query text left s)

pub is_the_one : (text : List ℕ) (c : Command) → IsCommand c × (text ≡ command_bytes c) → (other : Command) → Spells text other → (answered c ≡ answered other) ⊎ (answered c ≡ refused Memory)
is_the_one text c h other spells = inl (ap (λ d. answered d) (sym (only_one text c h other spells)))
