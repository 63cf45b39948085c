-- Lemmas on the walks of the plain program.
use Rattle.std.proofs.Common.{◌≡◌, ℕ, suc, ◌+◌, ◌<◌, Bool, true, false, cond, not, nat_lt, List, [], ◌∷◌, ◌++◌, length, take, get_or, Option, Some, None, refl, sym, ap, ap₂, ◌∙◌, arith, append-nil}
use Rattle.std.proofs.lemmas.List.{take_more, take_all, drop_all}
use Rattle.std.proofs.lemmas.Bool.{ltb-false}
use Rattle.std.specs.List.{position, position_or_len, remove}
use Rattle.adg_base.specs.Address.{Place, same_place}
use Rattle.adg_base.specs.declared.log.LogEntry.{LogEntry}
use Rattle.adg_model.specs.Database.{Rows, Change, struck, played, changed, no_database, after, walked, database}
use Rattle.adg_model.proofs.RowLaws.{walked_append}

-- one entry more
pub database_nil : database [] ≡ no_database
unfolding database
database_nil = refl

pub database_more : (es : List LogEntry) (i : ℕ) (e : LogEntry) → i < length es → e ≡ get_or es i e → database (take (i + 1) es) ≡ after (database (take i es)) e.vector
unfolding database
database_more es i e h is =
    ap (walked no_database) (take_more es i e h)
    ∙ walked_append no_database (take i es) (get_or es i e ∷ [])
    ∙ ap (λ (x : LogEntry). after (walked no_database (take i es)) x.vector) (sym is)

-- changes before others
pub played_append : (cs earlier : List Change) (rows : Rows) → played (cs ++ earlier) rows ≡ played cs (played earlier rows)
played_append [] earlier rows = refl
played_append (c ∷ cs) earlier rows = ap (changed c) (played_append cs earlier rows)

-- to strike a change is to remove the first at its address
abbrev pub removed : List Change → Option ℕ → List Change
removed cs None = cs
removed cs (Some i) = remove cs i

struck_first : (a : Place) (cs : List Change) → struck a cs ≡ remove cs (position_or_len (λ c. same_place a c.at) cs)
struck_first a [] = refl
struck_first a (c ∷ cs) = by_test (same_place a c.at) (struck_first a cs)
  where
    by_test : (b : Bool) → struck a cs ≡ remove cs (position_or_len (λ x. same_place a x.at) cs) → cond b cs (c ∷ struck a cs) ≡ remove (c ∷ cs) (cond (not b) (1 + position_or_len (λ x. same_place a x.at) cs) 0)
    by_test true ih = refl
    by_test false ih =
        let e : 1 + position_or_len (λ x. same_place a x.at) cs ≡ suc (position_or_len (λ x. same_place a x.at) cs) = omega arith in
        rw e (ap (λ l. c ∷ l) ih)

remove_at : (cs : List Change) (k : ℕ) (b : Bool) → nat_lt k (length cs) ≡ b → remove cs k ≡ removed cs (cond b (Some k) None)
remove_at cs k true e = refl
remove_at cs k false e =
    let past = ltb-false k (length cs) e in
    ap₂ (λ (l m : List Change). l ++ m) (take_all k cs past) (drop_all (suc k) cs (omega arith)) ∙ append-nil cs

pub struck_removed : (a : Place) (cs : List Change) → struck a cs ≡ removed cs (position (λ c. same_place a c.at) cs)
struck_removed a cs = struck_first a cs ∙ remove_at cs (position_or_len (λ c. same_place a c.at) cs) (nat_lt (position_or_len (λ c. same_place a c.at) cs) (length cs)) refl
