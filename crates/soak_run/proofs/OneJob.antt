-- A line of the mode asks for one job only.
use Rattle.std.proofs.Common.{◌≡◌, ℕ, List, [], ◌∷◌, ◌++◌, sym, ap, ◌∙◌, append-nil}
use Rattle.std.specs.List.{flat_map}
use Rattle.soak_run.specs.declared.setting.OptionName.{OptionName}
use Rattle.soak_run.specs.declared.setting.OptionName.TheVariants.{Seed, Txns, Workers}
use Rattle.soak_run.specs.declared.words.Job.{Job}
use Rattle.soak_run.specs.Words.{Setting, setting_words, numbers_for, HasOptions, IsSoakLine}
use Rattle.soak_run.proofs.Options.{GoesOn, goes_on, words_some}

module _ (options : List (List ℕ)) (j k : Job) (h : HasOptions options j) (i : HasOptions options k) where
  behind : GoesOn h.settings i.settings []
  behind = goes_on h.settings i.settings [] h.good i.good (sym i.spelled ∙ h.spelled ∙ sym (append-nil (flat_map setting_words h.settings)))

  -- each option has the same numbers in both readings
  same_numbers : (n : OptionName) → numbers_for n i.settings ≡ numbers_for n h.settings
  same_numbers n = by_more behind.more behind.spelled (behind.numbers n)
    where
      by_more : (more : List Setting) → [] ≡ flat_map setting_words more → numbers_for n i.settings ≡ numbers_for n h.settings ++ numbers_for n more → numbers_for n i.settings ≡ numbers_for n h.settings
      by_more [] e numbers = numbers ∙ append-nil (numbers_for n h.settings)
      by_more (m ∷ more) e numbers = absurd (words_some m (flat_map setting_words more) e)

  one_number : (x y : ℕ) (n : OptionName) → numbers_for n h.settings ≡ x ∷ [] → numbers_for n i.settings ≡ y ∷ [] → x ≡ y
  one_number x y n f g =
      let both : x ∷ [] ≡ y ∷ [] = sym f ∙ sym (same_numbers n) ∙ g in
      cc

  same_job : j ≡ k
  same_job =
      let seed = one_number j.seed k.seed Seed h.seed i.seed in
      let txns = one_number j.txns k.txns Txns h.txns i.txns in
      let workers = one_number j.workers k.workers Workers h.workers i.workers in
      ap (λ (n : ℕ). record j { seed = n }) seed ∙ ap (λ (n : ℕ). record j { seed = k.seed; txns = n }) txns ∙ ap (λ (n : ℕ). record k { workers = n }) workers

pub one_job : (words : List (List ℕ)) (j k : Job) → IsSoakLine words j → IsSoakLine words k → j ≡ k
one_job [] j k h i = absurd h
one_job (mode ∷ options) j k h i = same_job options j k h.1 i.1
