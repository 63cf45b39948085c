-- What is known of words as far as their options are read.
use Rattle.std.proofs.Common.{◌≡◌, ℕ, ◌-◌, ◌≤◌, ◌==◌, Bool, true, false, not, cond, List, [], ◌∷◌, ◌++◌, length, map, take, drop, get_or, Option, Some, None, refl, sym, ap, ap₂, ◌∙◌, subst, arith, append_assoc, append-nil}
use Rattle.std.specs.Prelude.{codes, is_some, option_to_list, MatchBool, MatchOption}
use Rattle.std.specs.List.{flat_map, cons_option, AllByRecursion}
use Rattle.std.proofs.lemmas.List.{take_all}
use Rattle.std.proofs.lemmas.Grind.{flat_map-append}
use Rattle.soak_run.specs.declared.setting.OptionName.{OptionName}
use Rattle.soak_run.specs.declared.setting.OptionName.TheVariants.{Seed, Txns, Workers}
use Rattle.soak_run.specs.declared.words.Job.{Job}
use Rattle.soak_run.specs.declared.words.Settings.{Settings}
use Rattle.soak_run.specs.Words.{IsNumber, Setting, setting_words, IsSetting, same_name, number_for, numbers_for, HasOptions, IsSoakLine, IsNoSetting, BeginsWith, given, AddsSetting, AreRead, IsShort, IsFull}
use Rattle.soak_run.proofs.Options.{one_front, words_some, GoesOn, goes_on, number_small}

-- ---- names

same_itself : (n : OptionName) → same_name n n ≡ true
same_itself Seed = refl
same_itself Txns = refl
same_itself Workers = refl

same_is : (m n : OptionName) → same_name m n ≡ true → m ≡ n
same_is Seed Seed e = refl
same_is Seed Txns e = absurd cc
same_is Seed Workers e = absurd cc
same_is Txns Seed e = absurd cc
same_is Txns Txns e = refl
same_is Txns Workers e = absurd cc
same_is Workers Seed e = absurd cc
same_is Workers Txns e = absurd cc
same_is Workers Workers e = refl

-- ---- each option once

module _ (words : List (List ℕ)) (job : Job) (h : HasOptions words job) where
  asked_number : OptionName → ℕ
  asked_number Seed = job.seed
  asked_number Txns = job.txns
  asked_number Workers = job.workers

  each_once : (n : OptionName) → (v : ℕ) × (numbers_for n h.settings ≡ v ∷ [])
  each_once Seed = (job.seed, h.seed)
  each_once Txns = (job.txns, h.txns)
  each_once Workers = (job.workers, h.workers)

-- ---- options behind those that were read

module _ (words rest : List (List ℕ)) (s : Settings) (job : Job) (h : AreRead words rest s) (k : HasOptions words job) where
  others : GoesOn h.settings k.settings rest
  others = goes_on h.settings k.settings rest h.good k.good (sym k.spelled ∙ h.spelled)

  -- some option stands there
  pub none_follows : IsNoSetting rest → (rest ≡ [] → ⊥) → ⊥
  none_follows none some = by_more others.more others.good others.spelled
    where
      by_more : (more : List Setting) → AllByRecursion IsSetting more → rest ≡ flat_map setting_words more → ⊥
      by_more [] g e = some e
      by_more (m ∷ more) g e = none m (flat_map setting_words more) g.0 e

  -- none stands there that was there before
  pub none_again : (n : OptionName) (v before : ℕ) (behind : List (List ℕ)) → BeginsWith rest n v behind → given s n ≡ before ∷ [] → ⊥
  none_again n v before behind b was = by_more others.more others.good others.spelled (others.numbers n)
    where
      once : (x : ℕ) × (numbers_for n k.settings ≡ x ∷ [])
      once = each_once words job k n

      by_more : (more : List Setting) → AllByRecursion IsSetting more → rest ≡ flat_map setting_words more → numbers_for n k.settings ≡ numbers_for n h.settings ++ numbers_for n more → ⊥
      by_more [] g e numbers = words_some (record { name = n; number = v; joined = b.joined }) behind (sym e ∙ b.spelled)
      by_more (m ∷ more) g e numbers =
          let front = one_front m.name n m.number v m.joined b.joined (flat_map setting_words more) behind (number_small m.name m.number g.0) (number_small n v b.allowed) (sym e ∙ b.spelled) in
          let here : numbers_for n (m ∷ more) ≡ m.number ∷ numbers_for n more = ap (λ (t : Bool). cons_option (cond t (Some m.number) None) (numbers_for n more)) (ap (same_name n) front.name ∙ same_itself n) in
          let all : once.0 ∷ [] ≡ before ∷ m.number ∷ numbers_for n more = sym once.1 ∙ numbers ∙ ap₂ (λ x y. x ++ y) (h.numbers n ∙ was) here in
          let len : 1 ≡ length (before ∷ m.number ∷ numbers_for n more) = ap length all in
          omega (arith, len)

  -- nothing stands there at the end
  all_numbers : rest ≡ [] → (n : OptionName) → numbers_for n k.settings ≡ given s n
  all_numbers e n = by_more others.more others.spelled (others.numbers n)
    where
      by_more : (more : List Setting) → rest ≡ flat_map setting_words more → numbers_for n k.settings ≡ numbers_for n h.settings ++ numbers_for n more → numbers_for n k.settings ≡ given s n
      by_more [] f numbers = numbers ∙ append-nil (numbers_for n h.settings) ∙ h.numbers n
      by_more (m ∷ more) f numbers = absurd (words_some m (flat_map setting_words more) (sym e ∙ f))

-- ---- one option more

each_append : (xs ys : List Setting) → AllByRecursion IsSetting xs → AllByRecursion IsSetting ys → AllByRecursion IsSetting (xs ++ ys)
each_append [] ys h k = k
each_append (x ∷ xs) ys h k = (h.0, each_append xs ys h.1 k)

numbers_append : (n : OptionName) (xs ys : List Setting) → numbers_for n (xs ++ ys) ≡ numbers_for n xs ++ numbers_for n ys
numbers_append n [] ys = refl
numbers_append n (x ∷ xs) ys = ap (cons_option (number_for n x)) (numbers_append n xs ys) ∙ moved (number_for n x)
  where
    moved : (o : Option ℕ) → cons_option o (numbers_for n xs ++ numbers_for n ys) ≡ cons_option o (numbers_for n xs) ++ numbers_for n ys
    moved None = refl
    moved (Some v) = refl

pub read_more : (words rest behind : List (List ℕ)) (s t : Settings) (n : OptionName) (v : ℕ) → AreRead words rest s → BeginsWith rest n v behind → AddsSetting s t n v → AreRead words behind t
read_more words rest behind s t n v h b a =
    let x : Setting = record { name = n; number = v; joined = b.joined } in
    record {
      settings = h.settings ++ x ∷ [];
      good = each_append h.settings (x ∷ []) h.good (b.allowed, tt);
      spelled = h.spelled ∙ ap (λ r. flat_map setting_words h.settings ++ r) (b.spelled ∙ ap (λ r. r ++ behind) (sym (append-nil (setting_words x))))
          ∙ sym (append_assoc (flat_map setting_words h.settings) (setting_words x ++ []) behind)
          ∙ ap (λ r. r ++ behind) (sym (flat_map-append setting_words h.settings (x ∷ [])));
      numbers = λ m. numbers_append m h.settings (x ∷ []) ∙ ap (λ l. l ++ numbers_for m (x ∷ [])) (h.numbers m) ∙ by_name m (same_name m n) refl;
    }
  where
    by_name : (m : OptionName) (same : Bool) → same_name m n ≡ same → given s m ++ cons_option (cond (same_name m n) (Some v) None) [] ≡ given t m
    by_name m true e =
        let is : m ≡ n = same_is m n e in
        ap (λ (b : Bool). given s m ++ cons_option (cond b (Some v) None) []) e
        ∙ ap (λ (i : OptionName). given s i ++ v ∷ []) is ∙ ap (λ l. l ++ v ∷ []) a.first ∙ sym a.now ∙ ap (given t) (sym is)
    by_name m false e =
        ap (λ (b : Bool). given s m ++ cons_option (cond b (Some v) None) []) e ∙ append-nil (given s m) ∙ sym (a.others m e)

-- ---- all were read

pub line_of : (mode : List ℕ) (options : List (List ℕ)) (s : Settings) (r : Option Job) → mode ≡ codes "soak" → AreRead options [] s → MatchOption r (IsShort s) (IsFull s)
    → MatchOption r ((job : Job) → IsSoakLine (mode ∷ options) job → ⊥) (IsSoakLine (mode ∷ options))
line_of mode options s None m h short = λ job line.
    let once = each_once options job line.1 short.name in
    let clash : once.0 ∷ [] ≡ [] = sym once.1 ∙ all_numbers options [] s job h line.1 refl short.name ∙ short.none in
    absurd cc
line_of mode options s (Some job) m h full = (
  m,
  record {
    settings = h.settings;
    good = h.good;
    spelled = h.spelled ∙ append-nil (flat_map setting_words h.settings);
    seed = h.numbers Seed ∙ full.seed;
    txns = h.numbers Txns ∙ full.txns;
    workers = h.numbers Workers ∙ full.workers;
  },
)

-- ---- words

pub some_words : {X Y : Type 0} (f : X → Y) (xs : List X) → false ≡ (length xs == 0) → map f xs ≡ [] → ⊥
some_words f [] some e = absurd cc
some_words f (x ∷ xs) some e = absurd cc

pub first_rest : {X Y : Type 0} (f : X → Y) (xs : List X) (d : X) → 1 ≤ length xs → map f xs ≡ f (get_or xs 0 d) ∷ map f (take (length xs - 1) (drop 1 xs))
first_rest f [] d h = absurd (omega (arith, h))
first_rest f (x ∷ xs) d h = ap (λ l. f x ∷ map f l) (sym (take_all (length (x ∷ xs) - 1) xs (omega arith)))

-- ---- the numbers of an accepted line

numbers_good : (n : OptionName) (xs : List Setting) → AllByRecursion IsSetting xs → AllByRecursion (IsNumber n) (numbers_for n xs)
numbers_good n [] h = tt
numbers_good n (x ∷ xs) h = by_test (same_name n x.name) refl (numbers_good n xs h.1)
  where
    by_test : (b : Bool) → same_name n x.name ≡ b → AllByRecursion (IsNumber n) (numbers_for n xs) → AllByRecursion (IsNumber n) (cons_option (cond b (Some x.number) None) (numbers_for n xs))
    by_test true e k = (subst (λ (i : OptionName). IsNumber i x.number) (sym (same_is n x.name e)) h.0, k)
    by_test false e k = k

pub line_within : (words : List (List ℕ)) (job : Job) → IsSoakLine words job → (job.txns ≤ 100000) × (1 ≤ job.workers) × (job.workers ≤ 8)
line_within [] job h = absurd h
line_within (mode ∷ options) job h =
    let txns = subst (AllByRecursion (IsNumber Txns)) h.1.txns (numbers_good Txns h.1.settings h.1.good) in
    let workers = subst (AllByRecursion (IsNumber Workers)) h.1.workers (numbers_good Workers h.1.settings h.1.good) in
    (txns.0, workers.0.0, workers.0.1)

-- ---- an option is taken

nothing_there : (o : Option ℕ) → is_some o ≡ not true → option_to_list o ≡ []
nothing_there None e = refl
nothing_there (Some v) e = absurd cc

something_there : (o : Option ℕ) → is_some o ≡ not false → (before : ℕ) × (option_to_list o ≡ before ∷ [])
something_there None e = absurd cc
something_there (Some v) e = (v, refl)

-- whether it is new: `was` stood in its place, and now its number stands there
module _ (old new : Settings) (name own : OptionName) (number : ℕ) (slot was : Option ℕ) (is : name ≡ own) (put : slot ≡ Some number)
    (here : option_to_list was ≡ given old own) (there : option_to_list slot ≡ given new own) (others : (m : OptionName) → same_name m own ≡ false → given new m ≡ given old m) where
  took : (r : Bool) → is_some was ≡ not r → MatchBool r (AddsSetting old new name number) ((before : ℕ) × (given old name ≡ before ∷ []))
  took true e = record {
    first = ap (given old) is ∙ sym here ∙ nothing_there was e;
    now = ap (given new) is ∙ sym there ∙ ap option_to_list put;
    others = λ m apart. others m (ap (same_name m) (sym is) ∙ apart);
  }
  took false e =
      let some = something_there was e in
      (some.0, ap (given old) is ∙ sym here ∙ some.1)

pub took_seed : (old : Settings) (name : OptionName) (number : ℕ) (slot was : Option ℕ) (r : Bool) → name ≡ Seed → was ≡ old.seed → slot ≡ Some number → is_some was ≡ not r
    → MatchBool r (AddsSetting old (record old { seed = slot }) name number) ((before : ℕ) × (given old name ≡ before ∷ []))
took_seed old name number slot was r is w put e = took old (record old { seed = slot }) name Seed number slot was is put (ap option_to_list w) refl apart r e
  where
    apart : (m : OptionName) → same_name m Seed ≡ false → given (record old { seed = slot }) m ≡ given old m
    apart Seed a = absurd cc
    apart Txns a = refl
    apart Workers a = refl

pub took_txns : (old : Settings) (name : OptionName) (number : ℕ) (slot was : Option ℕ) (r : Bool) → name ≡ Txns → was ≡ old.txns → slot ≡ Some number → is_some was ≡ not r
    → MatchBool r (AddsSetting old (record old { txns = slot }) name number) ((before : ℕ) × (given old name ≡ before ∷ []))
took_txns old name number slot was r is w put e = took old (record old { txns = slot }) name Txns number slot was is put (ap option_to_list w) refl apart r e
  where
    apart : (m : OptionName) → same_name m Txns ≡ false → given (record old { txns = slot }) m ≡ given old m
    apart Seed a = refl
    apart Txns a = absurd cc
    apart Workers a = refl

pub took_workers : (old : Settings) (name : OptionName) (number : ℕ) (slot was : Option ℕ) (r : Bool) → name ≡ Workers → was ≡ old.workers → slot ≡ Some number → is_some was ≡ not r
    → MatchBool r (AddsSetting old (record old { workers = slot }) name number) ((before : ℕ) × (given old name ≡ before ∷ []))
took_workers old name number slot was r is w put e = took old (record old { workers = slot }) name Workers number slot was is put (ap option_to_list w) refl apart r e
  where
    apart : (m : OptionName) → same_name m Workers ≡ false → given (record old { workers = slot }) m ≡ given old m
    apart Seed a = refl
    apart Txns a = refl
    apart Workers a = absurd cc
