use Rattle.std.proofs.Common.{◌≡◌, ℕ, ◌<◌, ◌∷◌, List, Err, length, drop, refl, ap, subst, sym, ◌∙◌, arith}
use Rattle.adg_model.specs.declared.fault.RedoKind.TheVariants.{BadVector}
use Rattle.adg_model.specs.Spelling.{AreVectors, IsBadVector}
use Rattle.adg_model.proofs.RecordsSpelled.{raw_same}
use Rattle.change_vectors.specs.declared.refused.VectorsRefused.{VectorsRefused}
use Rattle.redo_frames.specs.declared.record.RawRecord.{RawRecord}
use Rattle.log_merger.specs.Thread.{Receiving, ReadsOne}
use Rattle.log_merger.proofs.ThreadLaws.{first_is}
use Rattle.log_merger.proofs.thread.RedoThread.read_next.Goals as goal

pub returns-in-Err-BadVector : goal.returns-in-Err-BadVector
returns-in-Err-BadVector c =
    let xs = c.self.inside.unread.items in
    let r = c.in-Some.record.now in
    let i = c.in-Err-BadVector.index in
    let some : 0 < length xs = omega (arith, c.in-Some.ensures.variant.0 refl, c.self.inside.unread.ok.0) in
    let first : xs ≡ r ∷ drop 1 xs = first_is xs r some c.in-Some.ensures.lookup in
    let number : c.self.inside.number ≡ c.args.self.now.number = ap (λ (t : Receiving). t.number) c.self.view_is in
    let found : IsBadVector r.count c.as_slice.result.now i = c.in-Err-BadVector.ensures.bad i (ap (λ (x : VectorsRefused). Err x) c.in-Err-BadVector.field-0-is) in (
      refl,
      record {
        raw = r;
        later = drop 1 xs;
        first = ap (λ (t : Receiving). t.unread) (sym c.self.view_is) ∙ first;
        index = i;
        fault_is = ap (λ (n : ℕ). record { thread = n; number = r.number; kind = BadVector i }) number;
        bad = subst (λ (t : List ℕ). IsBadVector r.count t i) c.as_slice.ensures found;
      },
    )

pub returns-in_ok-push_entries-in-Ok : goal.returns-in_ok-push_entries-in-Ok
returns-in_ok-push_entries-in-Ok c =
    let xs = c.self.inside.unread.items in
    let r = c.in-Some.record.now in
    let vs = c.in-Ok.vectors in
    let found = c.in-Ok.ensures.found in
    let some : 0 < length xs = omega (arith, c.in-Some.ensures.variant.0 refl, c.self.inside.unread.ok.0) in
    let first : xs ≡ r ∷ drop 1 xs = first_is xs r some c.in-Some.ensures.lookup in
    let new : Receiving = record { number = c.self.inside.number; assembly = c.self.inside.assembler; mark = c.self.inside.mark; unread = c.pop_front.new.self.items; waiting = c.push_entries.new.waiting.items } in
    subst (λ (t : Receiving). ReadsOne t new) c.self.view_is
    (record {
      raw = r;
      read = record { scn = r.scn; vectors = vs };
      first = first ∙ ap (λ (l : List RawRecord). r ∷ l) (sym c.pop_front.ensures.rest);
      same = raw_same _ _ refl found.1 (sym found.2 ∙ c.as_slice.ensures);
      readable = subst (λ (n : ℕ). AreVectors n vs) (sym found.1) found.0;
      entries = c.in_ok-push_entries-in-Ok.ensures.ok;
      rest = refl;
    })
