-- The parts of a command: what has a spelling, the spelling, and what may follow it.
use Rattle.std.specs.Prelude.{◌≡◌, ◌≢◌, ℕ, ℤ, pos, ◌≤◌, Bool, true, false, List, [], ◌∷◌, ◌++◌, length, Option, None, Result, Ok, Err, codes}
use Rattle.std.specs.List.{AllByRecursion}
use Rattle.std.specs.Fmt.{decimal}
use Rattle.adg_base.specs.declared.value.Value.{Value}
use Rattle.adg_base.specs.declared.value.Value.TheVariants.{Null, Int, Text}
use Rattle.adg_base.specs.declared.command.Select.{Select}
use Rattle.adg_base.specs.declared.command.Condition.{Condition}
use Rattle.adg_base.specs.declared.command.Op.{Op}
use Rattle.adg_base.specs.declared.command.What.TheVariants.{All}
use Rattle.adg_base.specs.declared.command.Aggregate.{Aggregate}
use Rattle.adg_base.specs.declared.command.Command.{Command}
use Rattle.query_text.specs.declared.fault.Fault.{Fault}
use Rattle.query_text.specs.declared.fault.Fault.TheVariants.{Stopped}
use Rattle.query_text.specs.declared.tail.Next.{Next}
use Rattle.query_text.specs.declared.tail.Next.TheVariants.{Test, Group}
use Rattle.query_text.specs.declared.aggregate.Function.{Function}
use Rattle.query_text.specs.declared.aggregate.Function.TheVariants.{Count, Sum, Min, Max}
use Rattle.query_text.specs.declared.aggregate.Behind.{Behind}
use Rattle.query_text.specs.declared.aggregate.Behind.TheVariants as behind
use Rattle.query_text.specs.declared.read.Verb.{Verb}
use Rattle.query_text.specs.declared.read.Verb.TheVariants as verb
use Rattle.adg_model.specs.Spelling.{IsObj, IsValue}
use Rattle.adg_model.specs.Command.{literal_bytes, op_bytes, aggregates_bytes, group_bytes, what_bytes, IsAggregate, IsCondition, IsGroup, IsSelect}

abbrev pub IsDigit : ℕ → Type 0
IsDigit c = (48 ≤ c) × (c ≤ 57)

-- a text does not begin with a byte of a sort
abbrev pub BeginsElse : (ℕ → Type 0) → List ℕ → Type 0
BeginsElse Is [] = Unit {0}
BeginsElse Is (c ∷ text) = Is c → ⊥

-- no digit goes on here
abbrev pub EndsNumber : List ℕ → Type 0
EndsNumber rest = BeginsElse IsDigit rest

abbrev pub Ended : {X : Type 0} → X → List ℕ → Type 0
Ended x rest = EndsNumber rest

-- a number from 1 to a limit
abbrev pub IsNumber : ℕ → ℕ → Type 0
IsNumber limit n = (1 ≤ n) × (n ≤ limit)

abbrev pub IsZero : ℤ → Type 0
IsZero z = z ≡ pos 0

-- a literal is a value, and not Null
abbrev pub IsLiteral : Value → Type 0
IsLiteral v = IsValue v × (v ≢ Null)

-- what may follow a literal: the digits of an integer have to end
abbrev pub EndsLiteral : Value → List ℕ → Type 0
EndsLiteral Null rest = Unit {0}
EndsLiteral (Int n) rest = EndsNumber rest
EndsLiteral (Text text) rest = Unit {0}

-- a text behind its first quotation mark
abbrev pub closed : List ℕ → List ℕ
closed text = text ++ codes "'"

abbrev pub IsOp : Op → Type 0
IsOp op = Unit {0}

-- between blanks
abbrev pub spaced_op : Op → List ℕ
spaced_op op = codes " " ++ op_bytes op ++ codes " "

-- a test, from the number of its column on
abbrev pub test_bytes : Condition → List ℕ
test_bytes c = decimal c.column ++ (spaced_op c.op ++ literal_bytes c.literal)

abbrev pub EndsTest : Condition → List ℕ → Type 0
EndsTest c rest = EndsLiteral c.literal rest

-- tests, the first behind a word, the others behind AND
abbrev pub tests_bytes : List ℕ → List Condition → List ℕ
tests_bytes word [] = []
tests_bytes word (c ∷ more) = word ++ (test_bytes c ++ tests_bytes (codes " AND c") more)

-- what stands behind a table: tests, and the column of a group
abbrev pub Tail : Type 0
Tail = List Condition × Option ℕ

abbrev pub tail_bytes : List ℕ → Tail → List ℕ
tail_bytes word t = tests_bytes word t.0 ++ group_bytes t.1

-- only a query of aggregates is grouped
abbrev pub IsGroupIn : Bool → Option ℕ → Type 0
IsGroupIn true group = IsGroup group
IsGroupIn false group = group ≡ None

abbrev pub IsTail : Bool → Tail → Type 0
IsTail grouped t = AllByRecursion IsCondition t.0 × IsGroupIn grouped t.1

-- a table, from its number on
abbrev pub table_tail_bytes : (ℕ × Tail) → List ℕ
table_tail_bytes t = decimal t.0 ++ tail_bytes (codes " WHERE c") t.1

abbrev pub IsTable : Bool → (ℕ × Tail) → Type 0
IsTable grouped t = IsObj t.0 × IsTail grouped t.1

-- aggregates, up to the number of the table
abbrev pub asked_bytes : List Aggregate → List ℕ
asked_bytes aggregates = aggregates_bytes aggregates ++ codes " FROM t"

abbrev pub AreAsked : List Aggregate → Type 0
AreAsked aggregates = (1 ≤ length aggregates) × AllByRecursion IsAggregate aggregates

-- a query, from what it asks for on
abbrev pub query_bytes : Select → List ℕ
query_bytes s = what_bytes s.what ++ (codes " FROM t" ++ table_tail_bytes (s.obj, (s.conditions, s.group)))

-- a query of rows, and one of aggregates
abbrev pub AsksRows : Select → Type 0
AsksRows s = IsSelect s × (s.what ≡ All)

abbrev pub AsksSums : Select → Type 0
AsksSums s = IsSelect s × (s.what ≢ All)

-- how the tests and the group behind a table begin, where the next test begins with this word
abbrev pub next_bytes : List ℕ → Next → List ℕ
next_bytes word Test = word
next_bytes word Group = codes " GROUP BY c"

abbrev pub IsNext : Bool → Next → Type 0
IsNext grouped Test = Unit {0}
IsNext grouped Group = grouped ≡ true

-- how an aggregate begins, and a column up to a bracket
abbrev pub function_bytes : Function → List ℕ
function_bytes Count = codes "COUNT"
function_bytes Sum = codes "SUM(c"
function_bytes Min = codes "MIN(c"
function_bytes Max = codes "MAX(c"

abbrev pub IsFunction : Function → Type 0
IsFunction f = Unit {0}

abbrev pub argument_bytes : ℕ → List ℕ
argument_bytes column = decimal column ++ codes ")"

-- what stands behind an aggregate
abbrev pub behind_bytes : Behind → List ℕ
behind_bytes behind.Aggregate = codes ", "
behind_bytes behind.Table = codes " FROM t"

abbrev pub IsBehind : Behind → Type 0
IsBehind b = Unit {0}

-- how a command begins
abbrev pub verb_bytes : Verb → List ℕ
verb_bytes verb.Select = codes "SELECT "
verb_bytes verb.Populate = codes "POPULATE t"
verb_bytes verb.Sync = codes "SYNC"
verb_bytes verb.ShowScn = codes "SHOW SCN"
verb_bytes verb.Abort = codes "ABORT"

abbrev pub IsVerb : Verb → Type 0
IsVerb v = Unit {0}

-- a command and no bytes behind it, or the fault that bytes are left
abbrev pub IsWhole : Command → List ℕ → Result Command Fault → Type 0
IsWhole c rest (Ok d) = (d ≡ c) × (rest ≡ [])
IsWhole c rest (Err fault) = (fault ≡ Stopped (length rest)) × (rest ≢ [])
