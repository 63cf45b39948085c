-- What receiving and reading the records of one thread keeps.
use Rattle.std.proofs.Common.{◌≡◌, ℕ, ◌+◌, ◌*◌, ◌<◌, ◌≤◌, List, [], ◌∷◌, ◌++◌, length, get_or, take, drop, map, Option, Some, None, append_assoc, append-nil, length-append, take-append-drop, inl, inr, ◌∙◌, ap, ap₂, sym, subst, refl, arith}
use Rattle.std.specs.Prelude.{IsSome}
use Rattle.std.specs.List.{flat_map}
use Rattle.std.proofs.lemmas.Bool.{cases_lt}
use Rattle.std.proofs.lemmas.List.{length-map, map-append, take_at, take-append-le, append_cancel_left}
use Rattle.std.proofs.lemmas.Grind.{flat_map-append}
use Rattle.adg_base.specs.declared.vector.Vector.{Vector}
use Rattle.adg_base.specs.declared.vector.RedoRecord.{RedoRecord}
use Rattle.adg_base.specs.declared.log.LogEntry.{LogEntry}
use Rattle.adg_model.specs.declared.fault.FrameKind.{FrameKind}
use Rattle.adg_model.specs.declared.fault.RedoFault.{RedoFault}
use Rattle.adg_model.specs.Records.{Raw, raw_bytes, Mark, first_mark, mark_of, mark_after, raw_of, IsRaw, AreRaws, IsPart, HasBadRecord, HasRecords}
use Rattle.adg_model.specs.Spelling.{AreVectors}
use Rattle.adg_model.specs.Log.{record_entries, thread_entries}
use Rattle.adg_model.proofs.LogLaws.{each_append, mark_after_append, thread_entries_append}
use Rattle.adg_model.proofs.RecordsSpelled.{length_raw_bytes, raw_no_part}
use Rattle.redo_frames.specs.declared.record.RawRecord.{RawRecord}
use Rattle.redo_frames.specs.Assembly.{Assembly, Holds, raw_of_record}
use Rattle.redo_frames.specs.Reading.{Stands}
use Rattle.log_merger.specs.Thread.{Receiving, raws, NumberedFrom, HasRead, Takes, ReadsOne, BadNext, ReadsOn, IsRead, IsBadRecord, IsFaultOf}

-- ---- numbers that count up

pub numbered_more : (n m : ℕ) (rs ss : List RawRecord) → NumberedFrom n rs → NumberedFrom m ss → m ≡ n + length rs → NumberedFrom n (rs ++ ss)
numbered_more n m [] ss h k e = let same : m ≡ n = omega arith in subst (λ (i : ℕ). NumberedFrom i ss) same k
numbered_more n m (r ∷ rs) ss h k e = (h.0, numbered_more (n + 1) m rs ss h.1 k (omega arith))

-- ---- taking what an assembler holds

-- some of the records were taken, and the others are held
pub record Taking (a b : Assembly) (from now : Mark) (before after : List RawRecord) : Type 0 where
  pub more : List RawRecord
  pub added : after ≡ before ++ more
  pub held : a.held ≡ raws more ++ b.held
  pub numbers : NumberedFrom (a.taken + 1) more
  pub mark : now ≡ mark_after from (raws more)
  pub rest : b ≡ record a { taken = a.taken + length more; held = b.held }

pub taking_start : (a : Assembly) (m : Mark) (before : List RawRecord) → Taking a a m m before before
taking_start a m before =
    let none : a.taken ≡ a.taken + 0 = omega arith in
    record {
      more = [];
      added = sym (append-nil before);
      held = refl;
      numbers = tt;
      mark = refl;
      rest = ap (λ (n : ℕ). record a { taken = n }) none;
    }

raws_push : (rs : List RawRecord) (r : RawRecord) → raws (rs ++ r ∷ []) ≡ raws rs ++ raw_of_record r ∷ []
raws_push rs r = map-append raw_of_record rs (r ∷ [])

pub taking_next : (a b c : Assembly) (from now next : Mark) (before after all : List RawRecord) (r : RawRecord) → Taking a b from now before after → b.held ≡ raw_of_record r ∷ c.held → r.number ≡ b.taken + 1
    → c ≡ record b { taken = b.taken + 1; held = c.held } → next ≡ mark_of (raw_of_record r) → all ≡ after ++ r ∷ [] → Taking a c from next before all
taking_next a b c from now next before after all r t first number rest mark push =
    let more = t.more in
    let taken : b.taken ≡ a.taken + length more = ap (λ (x : Assembly). x.taken) t.rest in
    let many : length (more ++ r ∷ []) ≡ length more + 1 = length-append more (r ∷ []) in
    let count : b.taken + 1 ≡ a.taken + length (more ++ r ∷ []) = omega arith in
    record {
      more = more ++ r ∷ [];
      added = push ∙ ap (λ (l : List RawRecord). l ++ r ∷ []) t.added ∙ append_assoc before more (r ∷ []);
      held = t.held ∙ ap (λ (l : List Raw). raws more ++ l) first ∙ sym (append_assoc (raws more) (raw_of_record r ∷ []) c.held) ∙ ap (λ (l : List Raw). l ++ c.held) (sym (raws_push more r));
      numbers = numbered_more (a.taken + 1) (b.taken + 1) more (r ∷ []) t.numbers (number, tt) (omega arith);
      mark = mark ∙ sym (mark_after_append from (raws more) (raw_of_record r ∷ [])) ∙ ap (mark_after from) (sym (raws_push more r));
      rest = rest ∙ ap (λ (x : Assembly). record x { taken = b.taken + 1; held = c.held }) t.rest ∙ ap (λ (n : ℕ). record a { taken = n; held = c.held }) count;
    }

pub taking_end : (a b : Assembly) (from now : Mark) (before after : List RawRecord) → Taking a b from now before after → b.held ≡ [] → Takes a b from now before after
taking_end a b from now before after t none =
    let all : a.held ≡ raws t.more = t.held ∙ ap (λ (l : List Raw). raws t.more ++ l) none ∙ append-nil (raws t.more) in
    record {
      more = t.more;
      added = t.added;
      held = all;
      numbers = t.numbers;
      mark = t.mark ∙ ap (mark_after from) (sym all);
      rest = t.rest ∙ ap (λ (l : List Raw). record a { taken = a.taken + length t.more; held = l }) none;
    }

-- ---- room for the records of a piece

pub bytes_many : (m : Mark) (rs : List Raw) → AreRaws m rs → 13 * length rs ≤ length (flat_map raw_bytes rs)
bytes_many m [] h = omega arith
bytes_many m (r ∷ rs) h =
    omega (arith, bytes_many (mark_of r) rs h.3, length_raw_bytes r, length-append (raw_bytes r) (flat_map raw_bytes rs))

-- a part of a record is shorter than the record that it begins
part_shorter : (r : Raw) (rest piece more : List ℕ) → IsRaw r → IsPart rest → rest ++ piece ≡ raw_bytes r ++ more → length rest < length (raw_bytes r)
part_shorter r rest piece more good part e =
    let n = length (raw_bytes r) in
    elim (cases_lt (length rest) n) [
      | inl less ↦ less
      | inr whole ↦ (let front : take n rest ≡ raw_bytes r = sym (take-append-le n rest piece whole) ∙ ap (λ (t : List ℕ). take n t) e ∙ take_at (raw_bytes r) more n refl in
          let all : rest ≡ raw_bytes r ++ drop n rest = sym (take-append-drop n rest) ∙ ap (λ (t : List ℕ). t ++ drop n rest) front in
          absurd (raw_no_part r (drop n rest) good (subst IsPart all part)))
    ]

-- a piece completes so many records at most
room_many : (m : Mark) (rs : List Raw) (rest piece last : List ℕ) → AreRaws m rs → IsPart rest → rest ++ piece ≡ flat_map raw_bytes rs ++ last → 13 * length rs ≤ length piece + 12
room_many m [] rest piece last h part e = omega arith
room_many m (r ∷ rs) rest piece last h part e =
    let later = flat_map raw_bytes rs in
    let parts : rest ++ piece ≡ raw_bytes r ++ (later ++ last) = e ∙ append_assoc (raw_bytes r) later last in
    let less = part_shorter r rest piece (later ++ last) h.0 part parts in
    let many = bytes_many (mark_of r) rs h.3 in
    let lengths = ap (λ (t : List ℕ). length t) parts in
    omega (arith, less, many, lengths, length-append rest piece, length-append (raw_bytes r) (later ++ last), length-append later last)

pub record Front (m : Mark) (text : List ℕ) (xs : List Raw) : Type 0 where
  pub tail : List ℕ
  pub spelled : text ≡ flat_map raw_bytes xs ++ tail
  pub follow : AreRaws m xs

pub front_of : (o : Option FrameKind) (m : Mark) (text : List ℕ) (xs : List Raw) (rest : List ℕ) → Stands o m text xs rest → Front m text xs
front_of None m text xs rest s = record { tail = rest; spelled = s.spelled; follow = s.follow }
front_of (Some k) m text xs rest s = record { tail = s.rest; spelled = s.spelled; follow = s.follow }

regrouped : (xs ys : List Raw) (text rest : List ℕ) → text ≡ flat_map raw_bytes (xs ++ ys) ++ rest → text ≡ flat_map raw_bytes xs ++ (flat_map raw_bytes ys ++ rest)
regrouped xs ys text rest e = e ∙ ap (λ (t : List ℕ). t ++ rest) (flat_map-append raw_bytes xs ys) ∙ append_assoc (flat_map raw_bytes xs) (flat_map raw_bytes ys) rest

pub raws_front : (m : Mark) (xs ys : List Raw) → AreRaws m (xs ++ ys) → AreRaws m xs
raws_front m [] ys h = tt
raws_front m (x ∷ xs) ys h = (h.0, h.1, h.2, raws_front (mark_of x) xs ys h.3)

pub raws_back : (m : Mark) (xs ys : List Raw) → AreRaws m (xs ++ ys) → AreRaws (mark_after m xs) ys
raws_back m [] ys h = h
raws_back m (x ∷ xs) ys h = raws_back (mark_of x) xs ys h.3

-- behind what had nothing wrong with it, a piece completes so many records at most
room_good : (a : Assembly) (text piece rest : List ℕ) (taken : List Raw) → Stands None first_mark text taken rest → Stands a.refused first_mark (text ++ piece) (taken ++ a.held) a.rest → 13 * length a.held ≤ length piece + 12
room_good a text piece rest taken before now =
    let front = front_of a.refused first_mark (text ++ piece) (taken ++ a.held) a.rest now in
    let spelled = regrouped taken a.held (text ++ piece) front.tail front.spelled in
    let bytes = flat_map raw_bytes taken in
    let same : bytes ++ (rest ++ piece) ≡ bytes ++ (flat_map raw_bytes a.held ++ front.tail) =
    sym (append_assoc bytes rest piece) ∙ ap (λ (t : List ℕ). t ++ piece) (sym before.spelled) ∙ spelled in
    room_many (mark_after first_mark taken) a.held rest piece front.tail (raws_back first_mark taken a.held front.follow) before.part (append_cancel_left bytes _ _ same)

pub room_for : (old : Receiving) (a : Assembly) (text piece : List ℕ) (records : List RedoRecord) → HasRead old text records → Holds a (text ++ piece) (map raw_of records ++ raws old.unread) → (IsSome old.assembly.refused → a ≡ old.assembly) → 13 * length a.held ≤ length piece + 12
room_for old a text piece records h now again = by_fault old.assembly.refused refl
  where
    taken : List Raw
    taken = map raw_of records ++ raws old.unread

    by_fault : (o : Option FrameKind) → old.assembly.refused ≡ o → 13 * length a.held ≤ length piece + 12
    by_fault None e =
        let all : taken ++ old.assembly.held ≡ taken = ap (λ (l : List Raw). taken ++ l) h.none_held ∙ append-nil taken in
        room_good a text piece old.assembly.rest taken
        (subst (λ (l : List Raw). Stands None first_mark text l old.assembly.rest) all (subst (λ (o : Option FrameKind). Stands o first_mark text (taken ++ old.assembly.held) old.assembly.rest) e h.holds.stands)) now.stands
    by_fault (Some k) e =
        let same = again (subst IsSome (sym e) refl) in
        let none : length a.held ≡ 0 = ap (λ (x : Assembly). length x.held) same ∙ ap (λ (l : List Raw). length l) h.none_held in
        omega arith

-- ---- receiving

pub received : (old new : Receiving) (a : Assembly) (text piece : List ℕ) (records : List RedoRecord) → HasRead old text records → Holds a (text ++ piece) (map raw_of records ++ raws old.unread)
    → Takes a new.assembly old.mark new.mark old.unread new.unread → HasRead new (text ++ piece) records
received old new a text piece records h now takes =
    let rs = map raw_of records in
    let b = new.assembly in
    let more = takes.more in
    let before = rs ++ raws old.unread in
    let none : b.held ≡ [] = ap (λ (x : Assembly). x.held) takes.rest in
    let refused : b.refused ≡ a.refused = ap (λ (x : Assembly). x.refused) takes.rest in
    let rest : b.rest ≡ a.rest = ap (λ (x : Assembly). x.rest) takes.rest in
    let marks : b.mark ≡ a.mark = ap (λ (x : Assembly). x.mark) takes.rest in
    let taken : b.taken ≡ a.taken + length more = ap (λ (x : Assembly). x.taken) takes.rest in
    let unread : raws new.unread ≡ raws old.unread ++ raws more = ap raws takes.added ∙ map-append raw_of_record old.unread more in
    let all : before ++ a.held ≡ rs ++ raws new.unread =
    ap (λ (l : List Raw). before ++ l) takes.held ∙ append_assoc rs (raws old.unread) (raws more) ∙ ap (λ (l : List Raw). rs ++ l) (sym unread) in
    let whole : rs ++ raws new.unread ≡ (rs ++ raws new.unread) ++ b.held = sym (ap (λ (l : List Raw). (rs ++ raws new.unread) ++ l) none ∙ append-nil (rs ++ raws new.unread)) in
    let start : old.mark ≡ mark_after first_mark before =
    h.mark ∙ h.holds.mark ∙ ap (λ (l : List Raw). mark_after first_mark (before ++ l)) h.none_held ∙ ap (mark_after first_mark) (append-nil before) in
    record {
      holds = record {
        count = ap (λ (l : List Raw). length l) (sym all) ∙ length-append before a.held ∙ ap₂ (λ (n m : ℕ). n + m) now.count (ap (λ (l : List Raw). length l) takes.held ∙ length-map more raw_of_record) ∙ sym taken;
        mark = marks ∙ now.mark ∙ ap (mark_after first_mark) (all ∙ whole);
        stands = subst (λ (o : Option FrameKind). Stands o first_mark (text ++ piece) ((rs ++ raws new.unread) ++ b.held) b.rest) (sym refused)
            (subst (λ (t : List ℕ). Stands a.refused first_mark (text ++ piece) ((rs ++ raws new.unread) ++ b.held) t) (sym rest)
            (subst (λ (l : List Raw). Stands a.refused first_mark (text ++ piece) l a.rest) (all ∙ whole) now.stands));
      };
      none_held = none;
      readable = h.readable;
      numbers = subst (NumberedFrom (length records + 1)) (sym takes.added)
          (numbered_more (length records + 1) (a.taken + 1) old.unread more h.numbers takes.numbers
          (omega (arith, now.count, length-append rs (raws old.unread), length-map records raw_of, length-map old.unread raw_of_record)));
      mark = takes.mark ∙ ap (λ (m : Mark). mark_after m a.held) start ∙ sym (mark_after_append first_mark before a.held) ∙ sym now.mark ∙ sym marks;
    }

-- ---- reading

pub reads_none : (t : Receiving) → ReadsOn t t
reads_none t = record {
  number = refl;
  assembly = refl;
  reads = λ text records h. record {
    more = [];
    read = subst (HasRead t text) (sym (append-nil records)) h;
    entries = sym (append-nil t.waiting);
  };
}

push_record : (records : List RedoRecord) (r : RedoRecord) (raw : RawRecord) (later : List RawRecord) → raw_of r ≡ raw_of_record raw → map raw_of records ++ raws (raw ∷ later) ≡ map raw_of (records ++ r ∷ []) ++ raws later
push_record records r raw later same =
    sym (append_assoc (map raw_of records) (raw_of_record raw ∷ []) (raws later)) ∙ ap (λ (x : Raw). (map raw_of records ++ x ∷ []) ++ raws later) (sym same) ∙ ap (λ (l : List Raw). l ++ raws later) (sym (map-append raw_of records (r ∷ [])))

-- one record more is read
one_read : (b c : Receiving) (text : List ℕ) (records : List RedoRecord) (one : ReadsOne b c) → HasRead b text records → HasRead c text (records ++ one.read ∷ [])
one_read b c text records one h =
    let assembly : c.assembly ≡ b.assembly = ap (λ (t : Receiving). t.assembly) one.rest in
    let mark : c.mark ≡ b.mark = ap (λ (t : Receiving). t.mark) one.rest in
    let list : map raw_of records ++ raws b.unread ≡ map raw_of (records ++ one.read ∷ []) ++ raws c.unread =
    ap (λ (l : List RawRecord). map raw_of records ++ raws l) one.first ∙ push_record records one.read one.raw c.unread one.same in
    let numbers : NumberedFrom (length records + 1) (one.raw ∷ c.unread) = subst (NumberedFrom (length records + 1)) one.first h.numbers in
    let many : length records + 1 + 1 ≡ length (records ++ one.read ∷ []) + 1 = omega (arith, length-append records (one.read ∷ [])) in
    record {
      holds = subst (λ (a : Assembly). Holds a text (map raw_of (records ++ one.read ∷ []) ++ raws c.unread)) (sym assembly) (subst (Holds b.assembly text) list h.holds);
      none_held = ap (λ (a : Assembly). a.held) assembly ∙ h.none_held;
      readable = each_append (λ (r : RedoRecord). AreVectors (length r.vectors) r.vectors) records (one.read ∷ []) h.readable (one.readable, tt);
      numbers = subst (λ (n : ℕ). NumberedFrom n c.unread) many numbers.1;
      mark = mark ∙ h.mark ∙ ap (λ (a : Assembly). a.mark) (sym assembly);
    }

first_number : (b : Receiving) (text : List ℕ) (records : List RedoRecord) (raw : RawRecord) (later : List RawRecord) → HasRead b text records → b.unread ≡ raw ∷ later → raw.number ≡ length records + 1
first_number b text records raw later h first = (subst (NumberedFrom (length records + 1)) first h.numbers).0

entries_push : (thread number : ℕ) (more : List RedoRecord) (r : RedoRecord) → thread_entries thread number (more ++ r ∷ []) ≡ thread_entries thread number more ++ record_entries thread (number + length more) r.scn 1 r.vectors
entries_push thread number more r =
    thread_entries_append thread number more (r ∷ []) ∙ ap (λ (l : List LogEntry). thread_entries thread number more ++ l) (append-nil (record_entries thread (number + length more) r.scn 1 r.vectors))

pub reads_next : (a b c : Receiving) → ReadsOn a b → ReadsOne b c → ReadsOn a c
reads_next a b c some one = record {
  number = ap (λ (t : Receiving). t.number) one.rest ∙ some.number;
  assembly = ap (λ (t : Receiving). t.assembly) one.rest ∙ some.assembly;
  reads = λ text records h.
      let s = some.reads text records h in
      let more = s.more in
      let r = one.read in
      let list : (records ++ more) ++ r ∷ [] ≡ records ++ (more ++ r ∷ []) = append_assoc records more (r ∷ []) in
      let number : one.raw.number ≡ length records + 1 + length more = omega (arith, first_number b text (records ++ more) one.raw c.unread s.read one.first, length-append records more) in
      let last : record_entries b.number one.raw.number r.scn 1 r.vectors ≡ record_entries a.number (length records + 1 + length more) r.scn 1 r.vectors =
      ap₂ (λ (t n : ℕ). record_entries t n r.scn 1 r.vectors) some.number number in
      let front = thread_entries a.number (length records + 1) more in
      record {
        more = more ++ r ∷ [];
        read = subst (HasRead c text) list (one_read b c text (records ++ more) one s.read);
        entries = one.entries ∙ ap₂ (λ (x y : List LogEntry). x ++ y) s.entries last ∙ append_assoc a.waiting front _ ∙ ap (λ (l : List LogEntry). a.waiting ++ l) (sym (entries_push a.number (length records + 1) more r));
      };
}

-- ---- faults

-- a fault found after some reading was there before
pub fault_before : (a b : Receiving) (fault : RedoFault) → ReadsOn a b → IsFaultOf b fault → IsFaultOf a fault
fault_before a b fault some bad =
    λ text records h. subst (λ (n : ℕ). IsBadRecord n text fault) some.number (bad text (records ++ (some.reads text records h).more) (some.reads text records h).read)

pub bad_next : (b : Receiving) (fault : RedoFault) → BadNext b fault → IsFaultOf b fault
bad_next b fault bad = λ text records h.
    let all : map raw_of records ++ raws b.unread ≡ (map raw_of records ++ raw_of_record bad.raw ∷ []) ++ raws bad.later =
    ap (λ (l : List RawRecord). map raw_of records ++ raws l) bad.first ∙ sym (append_assoc (map raw_of records) (raw_of_record bad.raw ∷ []) (raws bad.later)) in
    let front = front_of b.assembly.refused first_mark text _ b.assembly.rest h.holds.stands in
    let upto = map raw_of records ++ raw_of_record bad.raw ∷ [] in
    let whole : (map raw_of records ++ raws b.unread) ++ b.assembly.held ≡ upto ++ (raws bad.later ++ b.assembly.held) =
    ap (λ (l : List Raw). l ++ b.assembly.held) all ∙ append_assoc upto (raws bad.later) b.assembly.held in
    let spelled = regrouped upto (raws bad.later ++ b.assembly.held) text front.tail (front.spelled ∙ ap (λ (l : List Raw). flat_map raw_bytes l ++ front.tail) whole) in
    record {
      records = records;
      thread_is = ap (λ (f : RedoFault). f.thread) bad.fault_is;
      number = ap (λ (f : RedoFault). f.number) bad.fault_is ∙ first_number b text records bad.raw bad.later h bad.first;
      bad = subst (HasBadRecord text records) (sym (ap (λ (f : RedoFault). f.kind) bad.fault_is))
          (record { bad = raw_of_record bad.raw; rest = flat_map raw_bytes (raws bad.later ++ b.assembly.held) ++ front.tail; spelled = spelled; follow = raws_front first_mark upto (raws bad.later ++ b.assembly.held) (subst (AreRaws first_mark) whole front.follow); vectors = h.readable; shown = bad.bad });
    }

-- what is read whole are the records of the text
pub all_read : (t : Receiving) (text : List ℕ) (records : List RedoRecord) → HasRead t text records → IsRead t → HasRecords text records
all_read t text records h whole =
    let none : (map raw_of records ++ raws t.unread) ++ t.assembly.held ≡ map raw_of records =
    ap₂ (λ (l : List RawRecord) (k : List Raw). (map raw_of records ++ raws l) ++ k) whole.unread h.none_held ∙ append-nil (map raw_of records ++ []) ∙ append-nil (map raw_of records) in
    record {
      rest = t.assembly.rest;
      raws = subst (λ (o : Option FrameKind). Stands o first_mark text (map raw_of records) t.assembly.rest) whole.good (subst (λ (l : List Raw). Stands t.assembly.refused first_mark text l t.assembly.rest) none h.holds.stands);
      vectors = h.readable;
    }

-- ---- entries, and the front of a queue

pub record_entries_push : (thread number scn index : ℕ) (vs : List Vector) (v : Vector) → record_entries thread number scn index (vs ++ v ∷ []) ≡ record_entries thread number scn index vs ++ (record { pos = 0; scn = scn; thread = thread; number = number; index = index + length vs; vector = v }) ∷ []
record_entries_push thread number scn index [] v = let e : index ≡ index + 0 = omega arith in ap (λ (i : ℕ). record_entries thread number scn i (v ∷ [])) e
record_entries_push thread number scn index (u ∷ vs) v =
    let e : index + 1 + length vs ≡ index + length (u ∷ vs) = omega arith in
    let first : LogEntry = record { pos = 0; scn = scn; thread = thread; number = number; index = index; vector = u } in
    ap (λ (l : List LogEntry). first ∷ l) (record_entries_push thread number scn (index + 1) vs v ∙ ap (λ (i : ℕ). record_entries thread number scn (index + 1) vs ++ (record { pos = 0; scn = scn; thread = thread; number = number; index = i; vector = v }) ∷ []) e)

pub first_is : {X : Type 0} (xs : List X) (x : X) → 0 < length xs → x ≡ get_or xs 0 x → xs ≡ x ∷ drop 1 xs
first_is [] x some e = absurd (omega (arith, some))
first_is (y ∷ ys) x some e = ap (λ z. z ∷ ys) (sym e)
