use Rattle.std.proofs.Common.{◌≡◌, ℕ, List, ◌∷◌, Bool, true, false, not, map, string_bytes, length, take, drop, ◌-◌, sym, ap, ◌∙◌, subst, refl}
use Rattle.std.specs.Prelude.{MatchOption, codes}
use Rattle.std.specs.Str.{bytes_eq}
use Rattle.std.proofs.lemmas.Slice.Eq.{bytes_eq-Decides}
use Rattle.soak_run.specs.declared.words.Job.{Job}
use Rattle.soak_run.specs.Words.{IsSoakLine, HasOptions}
use Rattle.soak_run.proofs.OptionsRead.{line_of, first_rest}
use Rattle.soak_run.proofs.words.job_of.Goals as goal

options_in : (mode : List ℕ) (rest words : List (List ℕ)) (job : Job) → words ≡ mode ∷ rest → IsSoakLine words job → HasOptions rest job
options_in mode rest words job e h = by_parts (subst (λ (ws : List (List ℕ)). IsSoakLine ws job) e h)
  where
    by_parts : IsSoakLine (mode ∷ rest) job → HasOptions rest job
    by_parts k = k.1

pub returns-in_default-settings_of : goal.returns-in_default-settings_of
returns-in_default-settings_of c job h =
    c.in_default-settings_of.ensures job
    (options_in _ (map (λ w. string_bytes w) (take (length c.args.words.now - 1) (drop 1 c.args.words.now))) _ job (first_rest (λ w. string_bytes w) c.args.words.now c.mode-item.result c.in-len1-up.len_at_least) h)

is_mode : (word : List ℕ) → false ≡ not (bytes_eq word (codes "soak")) → word ≡ codes "soak"
is_mode word e = (bytes_eq-Decides word (codes "soak")).0 (by_test (bytes_eq word (codes "soak")) e)
  where
    by_test : (b : Bool) → false ≡ not b → b ≡ true
    by_test true h = refl
    by_test false h = absurd cc

pub returns : goal.returns
returns c =
    let parts = first_rest (λ w. string_bytes w) c.args.words.now c.mode-item.result c.in-len1-up.len_at_least in
    let first = ap (λ w. string_bytes w) (sym c.mode-item.is) in
    let mode = first ∙ sym c.as_str.ensures.value ∙ is_mode c.as_str.result.now c.if-ne.ensures in
    subst (λ (ws : List (List ℕ)). MatchOption c.into_job.result ((job : Job) → IsSoakLine ws job → ⊥) (IsSoakLine ws)) (sym parts)
    (line_of _ (map (λ w. string_bytes w) (take (length c.args.words.now - 1) (drop 1 c.args.words.now))) c.in-Some.settings c.into_job.result mode c.in-Some.ensures c.into_job.ensures)
