-- Entries checked one after another, and the first that fails a check.
use Rattle.std.proofs.Common.{◌≡◌, ℕ, ◌+◌, ◌<◌, List, [], ◌∷◌, ◌++◌, length, get_or, take, drop, sym, ap, subst, ◌∙◌, add-one, append_assoc, drop-cons}
use Rattle.std.proofs.lemmas.List.{take_more, take-append-drop}
use Rattle.adg_base.specs.declared.log.LogEntry.{LogEntry}
use Rattle.adg_model.specs.declared.fault.CheckKind.{CheckKind}
use Rattle.adg_model.specs.declared.fault.RedoFault.{RedoFault}
use Rattle.adg_model.specs.Sound.{IsFirstUnsound}
use Rattle.redo_intake.specs.Intake.{FollowOn, IsUnsoundAt}
use Rattle.redo_intake.proofs.FollowLaws.{follow_append}

-- more entries change nothing of what is first
unsound_longer : (log more : List LogEntry) (entry : LogEntry) (check : CheckKind) → IsFirstUnsound log entry check → IsFirstUnsound (log ++ more) entry check
unsound_longer log more entry check h = record {
  before = h.before;
  later = h.later ++ more;
  split = ap (λ (l : List LogEntry). l ++ more) h.split ∙ append_assoc h.before (entry ∷ h.later) more;
  sound = h.sound;
  fails = h.fails;
}

module _ (log es : List LogEntry) (i : ℕ) (e : LogEntry) (lt : i < length es) (is : e ≡ get_or es i e) where
  -- one entry more
  pub one_more : (log ++ take i es) ++ e ∷ [] ≡ log ++ take (i + 1) es
  one_more = append_assoc log (take i es) (e ∷ []) ∙ ap (λ (l : List LogEntry). log ++ l) (ap (λ (x : LogEntry). take i es ++ x ∷ []) is ∙ sym (take_more es i e lt))

  -- it may follow those before it
  pub follow_one : FollowOn log es → FollowOn (log ++ take i es) (e ∷ [])
  follow_one h =
      let rest : FollowOn (log ++ take i es) (drop i es) = follow_append log (take i es) (drop i es) (subst (FollowOn log) (sym (take-append-drop i es)) h) in
      let cut : drop i es ≡ get_or es i e ∷ drop (i + 1) es = rw add-one (drop-cons es i e lt) in
      let first : FollowOn (log ++ take i es) (get_or es i e ∷ drop (i + 1) es) = subst (FollowOn (log ++ take i es)) cut rest in
      subst (λ (x : LogEntry). FollowOn (log ++ take i es) (x ∷ [])) (sym is) (first.0, tt)

  -- where it fails a check it is the first of all
  pub unsound_one : (fault : RedoFault) → IsUnsoundAt (log ++ take i es) (e ∷ []) fault → IsUnsoundAt log es fault
  unsound_one fault h =
      let rest = drop (i + 1) es in
      let whole : ((log ++ take i es) ++ e ∷ []) ++ rest ≡ log ++ es =
      ap (λ (l : List LogEntry). l ++ rest) one_more ∙ append_assoc log (take (i + 1) es) rest ∙ ap (λ (l : List LogEntry). log ++ l) (take-append-drop (i + 1) es)
      in
      record {
        entry = h.entry;
        check = h.check;
        unsound = subst (λ (l : List LogEntry). IsFirstUnsound l h.entry h.check) whole (unsound_longer ((log ++ take i es) ++ e ∷ []) rest h.entry h.check h.unsound);
        fault_is = h.fault_is;
      }
