-- What is carried of each seat for the legality of lines, and how a reply more keeps it.
use Rattle.std.proofs.Common.{◌≡◌, ℕ, zero, suc, ◌+◌, ◌≤◌, true, false, List, [], ◌∷◌, ◌++◌, length, replicate, Some, None, inl, inr, refl, sym, ap, ◌∙◌, subst, arith, true≢false}
use Rattle.std.specs.List.{AllByRecursion, AllZip, filter_map, cons_option}
use Rattle.std.proofs.lemmas.List.Elements.{filter_map-append}
use Rattle.adg_base.specs.declared.log.LogEntry.{LogEntry}
use Rattle.adg_base.specs.declared.command.Command.{Command}
use Rattle.adg_base.specs.declared.command.Command.TheVariants as command
use Rattle.adg_base.specs.declared.answer.Reply.{Reply}
use Rattle.adg_base.specs.declared.answer.Reply.TheVariants.{Rows, Populated, Synced, Shown, Aborted, BadQuery, NoTable, NotInMemory, NoColumn, WrongType, Down}
use Rattle.adg_model.specs.Command.{Spells}
use Rattle.adg_model.specs.Reply.{IsReply, Names}
use Rattle.adg_model.specs.Transcript.{scn_of, is_down, is_aborted, Rises, AllAre, SyncHolds, AllDown, DownStays}
use Rattle.adg_model.proofs.CommandLaws.{one_command}
use Rattle.core_rules.specs.State.{Session, Free, Populating, Scanning, At}
use Rattle.core_rules.proofs.Lists.{each_append}
use Rattle.turn_rules.specs.Round.{Reads, Seat}
use Rattle.turn_rules.specs.Turns.{with_reply}
use Rattle.turn_rules.proofs.LinesOf.{HasReply}

-- the SCN of which a session would say something now
abbrev pub stands_at : (query : ℕ) → Session → ℕ
stands_at query Free = query
stands_at query (Populating p) = p.snapshot
stands_at query (Scanning s) = s.scn

-- the replies so far have the meaning of their texts
abbrev pub AreMeant : List LogEntry → (frontier : ℕ) → List (List ℕ) → List Reply → Type 0
AreMeant log f texts [] = Unit {0}
AreMeant log f [] (r ∷ rs) = ⊥
AreMeant log f (t ∷ ts) (r ∷ rs) = IsReply log f t r × AreMeant log f ts rs

-- Of a seat with its texts, whose session stands at an SCN.
pub record SeatIs (log : List LogEntry) (frontier floor stand : ℕ) (texts : List (List ℕ)) (seat : Seat) : Type 0 where
  pub reads : AllZip Reads texts seat.requests
  pub meant : AreMeant log frontier texts seat.replies
  pub rises : Rises floor stand (filter_map scn_of seat.replies)
  pub synced : SyncHolds frontier stand seat.replies

-- no reply is Aborted
abbrev pub NoneAborted : List Reply → Type 0
NoneAborted replies = AllByRecursion (λ r. is_aborted r ≡ false) replies

-- meanings
pub meant_more : (log : List LogEntry) (f : ℕ) (texts : List (List ℕ)) (rs : List Reply) (t : List ℕ) (r : Reply) → AreMeant log f texts rs → At texts (length rs) t → IsReply log f t r → AreMeant log f texts (rs ++ r ∷ [])
meant_more log f [] [] t r h a m = let e : None ≡ Some t = a in absurd cc
meant_more log f (x ∷ xs) [] t r h a m = let e : Some x ≡ Some t = a in let g : t ≡ x = cc in (subst (λ y. IsReply log f y r) g m, tt)
meant_more log f [] (s ∷ rs) t r h a m = absurd h
meant_more log f (x ∷ xs) (s ∷ rs) t r h a m = (h.0, meant_more log f xs rs t r h.1 a m)

pub meant_within : (log : List LogEntry) (f : ℕ) (texts : List (List ℕ)) (rs : List Reply) → AreMeant log f texts rs → length rs ≤ length texts
meant_within log f texts [] h = omega arith
meant_within log f [] (r ∷ rs) h = absurd h
meant_within log f (t ∷ ts) (r ∷ rs) h = let ih = meant_within log f ts rs h.1 in omega arith

pub meant_zip : (log : List LogEntry) (f : ℕ) (texts : List (List ℕ)) (rs : List Reply) (k : ℕ) → AreMeant log f texts rs → length texts ≡ length rs + k → AllZip (HasReply log f) texts (rs ++ replicate k Down)
meant_zip log f [] [] zero h e = tt
meant_zip log f [] [] (suc k) h e = absurd (omega arith)
meant_zip log f (t ∷ ts) [] zero h e = absurd (omega arith)
meant_zip log f (t ∷ ts) [] (suc k) h e = (inl refl, meant_zip log f ts [] k tt (omega arith))
meant_zip log f [] (r ∷ rs) k h e = absurd h
meant_zip log f (t ∷ ts) (r ∷ rs) k h e = (inr h.0, meant_zip log f ts rs k h.1 (omega arith))

pub meant_at : (log : List LogEntry) (f : ℕ) (texts : List (List ℕ)) (rs : List Reply) (n : ℕ) (t : List ℕ) (r : Reply) → AreMeant log f texts rs → At texts n t → At rs n r → IsReply log f t r
meant_at log f texts [] n t r h a b = let e : None ≡ Some r = b in absurd cc
meant_at log f [] (s ∷ rs) n t r h a b = absurd h
meant_at log f (x ∷ xs) (s ∷ rs) zero t r h a b =
    let e : Some x ≡ Some t = a in
    let g : x ≡ t = cc in
    let i : Some s ≡ Some r = b in
    let j : s ≡ r = cc in
    subst (λ y. IsReply log f y r) g (subst (λ y. IsReply log f x y) j h.0)
meant_at log f (x ∷ xs) (s ∷ rs) (suc n) t r h a b = meant_at log f xs rs n t r h.1 a b

pub zip_at : {X Y : Type 0} (R : X → Y → Type 0) (xs : List X) (ys : List Y) (n : ℕ) (y : Y) → AllZip R xs ys → At ys n y → (x : X) × At xs n x × R x y
zip_at R [] [] n y h a = let e : None ≡ Some y = a in absurd cc
zip_at R [] (z ∷ ys) n y h a = absurd h
zip_at R (x ∷ xs) [] n y h a = absurd h
zip_at R (x ∷ xs) (z ∷ ys) zero y h a = let e : Some z ≡ Some y = a in let g : z ≡ y = cc in (x, refl, subst (R x) g h.0)
zip_at R (x ∷ xs) (z ∷ ys) (suc n) y h a = zip_at R xs ys n y h.1 a

pub zip_length : {X Y : Type 0} (R : X → Y → Type 0) (xs : List X) (ys : List Y) → AllZip R xs ys → length xs ≡ length ys
zip_length R [] [] h = refl
zip_length R [] (y ∷ ys) h = absurd h
zip_length R (x ∷ xs) [] h = absurd h
zip_length R (x ∷ xs) (y ∷ ys) h = ap suc (zip_length R xs ys h.1)

-- SCNs that do not fall
pub rises_on : (low old new : ℕ) (qs : List ℕ) → old ≤ new → Rises low old qs → Rises low new qs
rises_on low old new [] l h = let k : low ≤ old = h in omega arith
rises_on low old new (q ∷ qs) l h = (h.0, rises_on q old new qs l h.1)

pub rises_more : (low stand : ℕ) (qs : List ℕ) → Rises low stand qs → Rises low stand (qs ++ stand ∷ [])
rises_more low stand [] h = (h, omega arith)
rises_more low stand (q ∷ qs) h = (h.0, rises_more q stand qs h.1)

-- after SYNC
are_more : (f stand : ℕ) (qs : List ℕ) → AllAre f qs → stand ≡ f → AllAre f (qs ++ stand ∷ [])
are_more f stand qs h e = each_append (λ q. q ≡ f) qs (stand ∷ []) h (e, tt)

pub sync_on : (f old new : ℕ) (rs : List Reply) → old ≤ new → new ≤ f → SyncHolds f old rs → SyncHolds f new rs
sync_on f old new [] l m h = tt
sync_on f old new (Synced scn ∷ rs) l m h = let e : old ≡ f = h.1 in (h.0, omega arith, sync_on f old new rs l m h.2)
sync_on f old new (Rows scn answer col row ∷ rs) l m h = sync_on f old new rs l m h
sync_on f old new (Populated scn units ∷ rs) l m h = sync_on f old new rs l m h
sync_on f old new (Shown scn ∷ rs) l m h = sync_on f old new rs l m h
sync_on f old new (Aborted scn ∷ rs) l m h = sync_on f old new rs l m h
sync_on f old new (BadQuery scn byte ∷ rs) l m h = sync_on f old new rs l m h
sync_on f old new (NoTable scn ∷ rs) l m h = sync_on f old new rs l m h
sync_on f old new (NotInMemory scn ∷ rs) l m h = sync_on f old new rs l m h
sync_on f old new (NoColumn scn ∷ rs) l m h = sync_on f old new rs l m h
sync_on f old new (WrongType scn ∷ rs) l m h = sync_on f old new rs l m h
sync_on f old new (Down ∷ rs) l m h = sync_on f old new rs l m h

-- a reply names the SCN, and is Synced at the frontier alone
pub record SaysAt (frontier stand : ℕ) (said : Reply) : Type 0 where
  pub scn : scn_of said ≡ Some stand
  pub synced : SyncHolds frontier stand (said ∷ [])

scn_more : (rs : List Reply) (said : Reply) (stand : ℕ) → scn_of said ≡ Some stand → filter_map scn_of (rs ++ said ∷ []) ≡ filter_map scn_of rs ++ stand ∷ []
scn_more rs said stand h = filter_map-append scn_of rs (said ∷ []) ∙ ap (λ o. filter_map scn_of rs ++ cons_option o []) h

pub sync_more : (f stand : ℕ) (rs : List Reply) (said : Reply) → SaysAt f stand said → SyncHolds f stand rs → SyncHolds f stand (rs ++ said ∷ [])
sync_more f stand [] said s h = s.synced
sync_more f stand (Synced scn ∷ rs) said s h = (subst (AllAre f) (sym (scn_more rs said stand s.scn)) (are_more f stand (filter_map scn_of rs) h.0 h.1), h.1, sync_more f stand rs said s h.2)
sync_more f stand (Rows scn answer col row ∷ rs) said s h = sync_more f stand rs said s h
sync_more f stand (Populated scn units ∷ rs) said s h = sync_more f stand rs said s h
sync_more f stand (Shown scn ∷ rs) said s h = sync_more f stand rs said s h
sync_more f stand (Aborted scn ∷ rs) said s h = sync_more f stand rs said s h
sync_more f stand (BadQuery scn byte ∷ rs) said s h = sync_more f stand rs said s h
sync_more f stand (NoTable scn ∷ rs) said s h = sync_more f stand rs said s h
sync_more f stand (NotInMemory scn ∷ rs) said s h = sync_more f stand rs said s h
sync_more f stand (NoColumn scn ∷ rs) said s h = sync_more f stand rs said s h
sync_more f stand (WrongType scn ∷ rs) said s h = sync_more f stand rs said s h
sync_more f stand (Down ∷ rs) said s h = sync_more f stand rs said s h

-- Down behind replies has no SCN
pub downs_scns : (rs : List Reply) (k : ℕ) → filter_map scn_of (rs ++ replicate k Down) ≡ filter_map scn_of rs
downs_scns rs k = filter_map-append scn_of rs (replicate k Down) ∙ ap (λ xs. filter_map scn_of rs ++ xs) (none k) ∙ append_none (filter_map scn_of rs)
  where
    none : (k : ℕ) → filter_map scn_of (replicate k Down) ≡ []
    none zero = refl
    none (suc k) = none k

    append_none : (xs : List ℕ) → xs ++ [] ≡ xs
    append_none [] = refl
    append_none (x ∷ xs) = ap (λ ys. x ∷ ys) (append_none xs)

sync_none : (f e k : ℕ) → SyncHolds f e (replicate k Down)
sync_none f e zero = tt
sync_none f e (suc k) = sync_none f e k

pub sync_downs : (f e : ℕ) (rs : List Reply) (k : ℕ) → SyncHolds f e rs → SyncHolds f e (rs ++ replicate k Down)
sync_downs f e [] k h = sync_none f e k
sync_downs f e (Synced scn ∷ rs) k h = (subst (AllAre f) (sym (downs_scns rs k)) h.0, h.1, sync_downs f e rs k h.2)
sync_downs f e (Rows scn answer col row ∷ rs) k h = sync_downs f e rs k h
sync_downs f e (Populated scn units ∷ rs) k h = sync_downs f e rs k h
sync_downs f e (Shown scn ∷ rs) k h = sync_downs f e rs k h
sync_downs f e (Aborted scn ∷ rs) k h = sync_downs f e rs k h
sync_downs f e (BadQuery scn byte ∷ rs) k h = sync_downs f e rs k h
sync_downs f e (NoTable scn ∷ rs) k h = sync_downs f e rs k h
sync_downs f e (NotInMemory scn ∷ rs) k h = sync_downs f e rs k h
sync_downs f e (NoColumn scn ∷ rs) k h = sync_downs f e rs k h
sync_downs f e (WrongType scn ∷ rs) k h = sync_downs f e rs k h
sync_downs f e (Down ∷ rs) k h = sync_downs f e rs k h

-- A seat keeps this where its session stands later, and with one reply more.
pub seat_on : (log : List LogEntry) (f floor old new : ℕ) (texts : List (List ℕ)) (seat : Seat) → old ≤ new → new ≤ f → SeatIs log f floor old texts seat → SeatIs log f floor new texts seat
seat_on log f floor old new texts seat l m is = record {
  reads = is.reads;
  meant = is.meant;
  rises = rises_on floor old new (filter_map scn_of seat.replies) l is.rises;
  synced = sync_on f old new seat.replies l m is.synced;
}

pub seat_more : (log : List LogEntry) (f floor stand : ℕ) (texts : List (List ℕ)) (seat : Seat) (said : Reply) (t : List ℕ) → SeatIs log f floor stand texts seat → At texts (length seat.replies) t
    → IsReply log f t said → SaysAt f stand said → SeatIs log f floor stand texts (with_reply said seat)
seat_more log f floor stand texts seat said t is a m s = record {
  reads = is.reads;
  meant = meant_more log f texts seat.replies t said is.meant a m;
  rises = subst (Rises floor stand) (sym (scn_more seat.replies said stand s.scn)) (rises_more floor stand (filter_map scn_of seat.replies) is.rises);
  synced = sync_more f stand seat.replies said s is.synced;
}

-- The reply to ABORT, where it has its meaning, is Aborted; and only the text of ABORT is answered so.
spells_one : (text : List ℕ) (a b : Command) → Spells text a → Spells text b → a ≡ b
spells_one text a b h k = one_command a b h.0 k.0 (sym h.1 ∙ k.1)

abort_names : (text : List ℕ) (obj : ℕ) → Spells text command.Abort → Names text obj → ⊥
abort_names text obj h (inl n) = let e : command.Abort ≡ command.Select n.0 = spells_one text command.Abort (command.Select n.0) h n.1 in cc
abort_names text obj h (inr n) = let e : command.Abort ≡ command.Populate obj = spells_one text command.Abort (command.Populate obj) h n in cc

pub abort_answered : (log : List LogEntry) (f : ℕ) (text : List ℕ) (r : Reply) → Spells text command.Abort → IsReply log f text r → is_aborted r ≡ true
abort_answered log f text (Rows scn answer col row) h m = let e : command.Abort ≡ command.Select m.select = spells_one text command.Abort (command.Select m.select) h m.query.spells in absurd cc
abort_answered log f text (Populated scn units) h m = let e : command.Abort ≡ command.Populate m.obj = spells_one text command.Abort (command.Populate m.obj) h m.spells in absurd cc
abort_answered log f text (Synced scn) h m = let e : command.Abort ≡ command.Sync = spells_one text command.Abort command.Sync h m.0 in absurd cc
abort_answered log f text (Shown scn) h m = let e : command.Abort ≡ command.ShowScn = spells_one text command.Abort command.ShowScn h m in absurd cc
abort_answered log f text (Aborted scn) h m = refl
abort_answered log f text (BadQuery scn byte) h m = absurd (m.none command.Abort h)
abort_answered log f text (NoTable scn) h m = absurd (abort_names text m.obj h m.names)
abort_answered log f text (NotInMemory scn) h m = let e : command.Abort ≡ command.Populate m.obj = spells_one text command.Abort (command.Populate m.obj) h m.spells in absurd cc
abort_answered log f text (NoColumn scn) h m = let e : command.Abort ≡ command.Select m.select = spells_one text command.Abort (command.Select m.select) h m.query.spells in absurd cc
abort_answered log f text (WrongType scn) h m = let e : command.Abort ≡ command.Select m.select = spells_one text command.Abort (command.Select m.select) h m.query.spells in absurd cc
abort_answered log f text Down h m = absurd m

-- none of the replies that have a meaning is Down
pub meant_up : (log : List LogEntry) (f : ℕ) (texts : List (List ℕ)) (rs : List Reply) → AreMeant log f texts rs → AllByRecursion (λ r. is_down r ≡ false) rs
meant_up log f texts [] h = tt
meant_up log f [] (r ∷ rs) h = absurd h
meant_up log f (t ∷ ts) (r ∷ rs) h = (up r h.0, meant_up log f ts rs h.1)
  where
    up : (r : Reply) → IsReply log f t r → is_down r ≡ false
    up (Rows scn answer col row) m = refl
    up (Populated scn units) m = refl
    up (Synced scn) m = refl
    up (Shown scn) m = refl
    up (Aborted scn) m = refl
    up (BadQuery scn byte) m = refl
    up (NoTable scn) m = refl
    up (NotInMemory scn) m = refl
    up (NoColumn scn) m = refl
    up (WrongType scn) m = refl
    up Down m = absurd m

-- after Aborted all is Down
downs_down : (k : ℕ) → AllDown (replicate k Down)
downs_down zero = tt
downs_down (suc k) = (refl, downs_down k)

downs_stay : (k : ℕ) → DownStays (replicate k Down)
downs_stay zero = tt
downs_stay (suc k) = ((λ e. absurd (true≢false (sym e))), (λ e. downs_down k), downs_stay k)

pub stays_open : (rs : List Reply) (k : ℕ) → NoneAborted rs → AllByRecursion (λ r. is_down r ≡ false) rs → DownStays (rs ++ replicate k Down)
stays_open [] k h u = downs_stay k
stays_open (r ∷ rs) k h u = ((λ e. absurd (true≢false (sym e ∙ h.0))), (λ e. absurd (true≢false (sym e ∙ u.0))), stays_open rs k h.1 u.1)

pub stays_aborted : (rs : List Reply) (scn k : ℕ) → NoneAborted rs → AllByRecursion (λ r. is_down r ≡ false) (rs ++ Aborted scn ∷ []) → DownStays ((rs ++ Aborted scn ∷ []) ++ replicate k Down)
stays_aborted [] scn k h u = ((λ e. downs_down k), (λ e. absurd (true≢false (sym e))), downs_stay k)
stays_aborted (r ∷ rs) scn k h u = ((λ e. absurd (true≢false (sym e ∙ h.0))), (λ e. absurd (true≢false (sym e ∙ u.0))), stays_aborted rs scn k h.1 u.1)
