-- The accepted lines of words of the mode.
use Rattle.std.specs.Prelude.{◌≡◌, ℕ, ◌<◌, ◌≤◌, ◌^◌, Bool, true, false, ◌==◌, ◌||◌, if◌then◌else◌, List, [], ◌∷◌, ◌++◌, Option, Some, None, option_to_list, codes, decimal}
use Rattle.std.specs.List.{flat_map, filter_map, AllByRecursion}
use Rattle.soak_run.specs.declared.setting.OptionName.{OptionName}
use Rattle.soak_run.specs.declared.setting.OptionName.TheVariants.{Seed, Txns, Workers}
use Rattle.soak_run.specs.declared.words.Job.{Job}
use Rattle.soak_run.specs.declared.words.Settings.{Settings}

abbrev pub name_text : OptionName → List ℕ
name_text Seed = codes "--seed"
name_text Txns = codes "--txns"
name_text Workers = codes "--workers"

-- the numbers that an option may have
abbrev pub IsNumber : OptionName → ℕ → Type 0
IsNumber Seed n = n < 2 ^ 64
IsNumber Txns n = n ≤ 100000
IsNumber Workers n = (1 ≤ n) × (n ≤ 8)

-- an option with its number, and whether they stand in one word
pub record Setting : Type 0 where
  pub name : OptionName
  pub number : ℕ
  pub joined : Bool

-- `--name=number`, or `--name number`; a number is written in decimal digits, without a zero in front
abbrev pub words_of : (name number : List ℕ) → (joined : Bool) → List (List ℕ)
words_of name number true = (name ++ (codes "=" ++ number)) ∷ []
words_of name number false = name ∷ number ∷ []

abbrev pub setting_words : Setting → List (List ℕ)
setting_words s = words_of (name_text s.name) (decimal s.number) s.joined

abbrev pub IsSetting : Setting → Type 0
IsSetting s = IsNumber s.name s.number

abbrev pub same_name : OptionName → OptionName → Bool
same_name Seed Seed = true
same_name Seed Txns = false
same_name Seed Workers = false
same_name Txns Seed = false
same_name Txns Txns = true
same_name Txns Workers = false
same_name Workers Seed = false
same_name Workers Txns = false
same_name Workers Workers = true

-- the numbers that an option is given, in their order
abbrev pub number_for : OptionName → Setting → Option ℕ
number_for name s = if same_name name s.name then Some s.number else None

abbrev pub numbers_for : OptionName → List Setting → List ℕ
numbers_for name settings = filter_map (number_for name) settings

-- words that give each of the three options once, in some order and each in one of its forms
pub record HasOptions (words : List (List ℕ)) (job : Job) : Type 0 where
  pub settings : List Setting
  pub good : AllByRecursion IsSetting settings
  pub spelled : words ≡ flat_map setting_words settings
  pub seed : numbers_for Seed settings ≡ job.seed ∷ []
  pub txns : numbers_for Txns settings ≡ job.txns ∷ []
  pub workers : numbers_for Workers settings ≡ job.workers ∷ []

-- an accepted line: the mode, and behind it its options
abbrev pub IsSoakLine : List (List ℕ) → Job → Type 0
IsSoakLine [] job = ⊥
IsSoakLine (mode ∷ options) job = (mode ≡ codes "soak") × HasOptions options job

-- ---- the reading of one option

-- a plus stands in front, or a zero in front of more
abbrev pub is_padded : List ℕ → Bool
is_padded [] = false
is_padded (byte ∷ []) = byte == 43
is_padded (byte ∷ other ∷ more) = (byte == 43) || (byte == 48)

abbrev pub IsNoPair : (name number : List ℕ) → Type 0
IsNoPair name number = (n : OptionName) (k : ℕ) → IsNumber n k → name ≡ name_text n → number ≡ decimal k → ⊥

pub record IsPair (name number : List ℕ) (n : OptionName) (k : ℕ) : Type 0 where
  pub allowed : IsNumber n k
  pub named : name ≡ name_text n
  pub digits : number ≡ decimal k

-- no option stands in front of these words
abbrev pub IsNoSetting : List (List ℕ) → Type 0
IsNoSetting words = (s : Setting) (rest : List (List ℕ)) → IsSetting s → words ≡ setting_words s ++ rest → ⊥

-- an option stands in front, with its number, and these words are behind it
pub record BeginsWith (words : List (List ℕ)) (n : OptionName) (k : ℕ) (rest : List (List ℕ)) : Type 0 where
  pub joined : Bool
  pub allowed : IsNumber n k
  pub spelled : words ≡ words_of (name_text n) (decimal k) joined ++ rest

-- what was read of an option
abbrev pub given : Settings → OptionName → List ℕ
given s Seed = option_to_list s.seed
given s Txns = option_to_list s.txns
given s Workers = option_to_list s.workers

-- one option more was read, that was not there before
pub record AddsSetting (old new : Settings) (n : OptionName) (k : ℕ) : Type 0 where
  pub first : given old n ≡ []
  pub now : given new n ≡ k ∷ []
  pub others : (m : OptionName) → same_name m n ≡ false → given new m ≡ given old m

-- some words were read up to these that are left
pub record AreRead (words rest : List (List ℕ)) (s : Settings) : Type 0 where
  pub settings : List Setting
  pub good : AllByRecursion IsSetting settings
  pub spelled : words ≡ flat_map setting_words settings ++ rest
  pub numbers : (n : OptionName) → numbers_for n settings ≡ given s n

-- some option was not there; or all were, with these numbers
pub record IsShort (s : Settings) : Type 0 where
  pub name : OptionName
  pub none : given s name ≡ []

pub record IsFull (s : Settings) (job : Job) : Type 0 where
  pub seed : given s Seed ≡ job.seed ∷ []
  pub txns : given s Txns ≡ job.txns ∷ []
  pub workers : given s Workers ≡ job.workers ∷ []
