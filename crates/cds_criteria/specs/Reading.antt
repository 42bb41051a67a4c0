-- How criteria are read, token by token, from the left (this project's profile of UPnP ContentDirectory:4 on SearchCriteria). A
-- text that is criteria gives them. Any other gives the place at which the grammar refuses it.
use Rattle.std.specs.Prelude.{ℕ, zero, suc, cond, nat_lt, List, [], ◌∷◌, length, Option, Some, None, Result, Ok, Err}
use Rattle.cds_criteria.specs.Criteria.{AnyOf, AllOf, Factor, Criteria, Token}
use Rattle.cds_criteria.specs.Criteria.{First, Or, Single, And, Compare, Exists, Group, Everything, Where}
use Rattle.cds_criteria.specs.Criteria.{Star, Open, Close, AndWord, OrWord, Existence, Truth, Name, Sign, Value, CutSign, CutValue}
use Rattle.cds_criteria.specs.Tokens.{Placed, tokens_of}
pub use Rattle.cds_criteria.specs.declared.course.Level.{Level}
pub use Rattle.cds_criteria.specs.declared.course.Stage.{Stage}
pub use Rattle.cds_criteria.specs.declared.course.Stage.TheVariants.{Term, Test, Argument, Answer, Joint}

-- how far the reading of a text has come
pub data Reading : Type 0 where
  Start : Reading
  All : Reading
  -- within criteria: what is awaited, how many more parentheses may open, the innermost level, and the levels around it from the
  -- inside
  Inside : Stage → ℕ → Level → List Level → Reading
  -- the text ends within a token
  Cut : Reading

abbrev pub no_level : Level
no_level = record { before = None; factors = None }

abbrev pub with_factor : Option AllOf → Factor → AllOf
with_factor None factor = Single factor
with_factor (Some all) factor = And all factor

abbrev pub with_all : Option AnyOf → AllOf → AnyOf
with_all None all = First all
with_all (Some any) all = Or any all

-- a level with one more factor
abbrev pub put_factor : Factor → Level → Level
put_factor factor level = record { before = level.before; factors = Some (with_factor level.factors factor) }

abbrev pub after_factor : Factor → ℕ → Level → List Level → Reading
after_factor factor room level outer = Inside Joint room (put_factor factor level) outer

abbrev pub all_behind : Option AnyOf → Option AllOf → Option AnyOf
all_behind before None = None
all_behind before (Some all) = Some (with_all before all)

-- the criteria of a level, if a factor stands after its last `or`
abbrev pub level_any : Level → Option AnyOf
level_any level = all_behind level.before level.factors

abbrev pub and_level : Option AllOf → ℕ → Level → List Level → Option Reading
and_level None room level outer = None
and_level (Some all) room level outer = Some (Inside Term room (record { before = level.before; factors = Some all }) outer)

abbrev pub or_level : Option AnyOf → ℕ → List Level → Option Reading
or_level None room outer = None
or_level (Some any) room outer = Some (Inside Term room (record { before = Some any; factors = None }) outer)

abbrev pub close_level : Option AnyOf → ℕ → List Level → Option Reading
close_level None room outer = None
close_level (Some any) room [] = None
close_level (Some any) room (level ∷ outer) = Some (after_factor (Group any) (suc room) level outer)

abbrev pub open_level : ℕ → Level → List Level → Option Reading
open_level zero level outer = None
open_level (suc room) level outer = Some (Inside Term room no_level (level ∷ outer))

-- what follows a token within criteria; `None` if the token cannot stand there
abbrev pub within : Stage → ℕ → Level → List Level → Token → Option Reading
within Term room level outer Open = open_level room level outer
within Term room level outer (Name property) = Some (Inside (Test property) room level outer)
within Term room level outer token = None
within (Test property) room level outer Existence = Some (Inside (Answer property) room level outer)
within (Test property) room level outer (Sign operator) = Some (Inside (Argument property operator) room level outer)
within (Test property) room level outer CutSign = Some Cut
within (Test property) room level outer token = None
within (Argument property operator) room level outer (Value value) = Some (after_factor (Compare property operator value) room level outer)
within (Argument property operator) room level outer CutValue = Some Cut
within (Argument property operator) room level outer token = None
within (Answer property) room level outer (Truth there) = Some (after_factor (Exists property there) room level outer)
within (Answer property) room level outer token = None
within Joint room level outer AndWord = and_level level.factors room level outer
within Joint room level outer OrWord = or_level (level_any level) room outer
within Joint room level outer Close = close_level (level_any level) room outer
within Joint room level outer token = None

abbrev pub at_start : Token → Option Reading
at_start Star = Some All
at_start token = within Term 16 no_level [] token

abbrev pub next : Reading → Token → Option Reading
next Start token = at_start token
next All token = None
next (Inside stage room level outer) token = within stage room level outer token
next Cut token = None

-- the criteria that were read, if they are whole
abbrev pub whole_of : Option AnyOf → Option Criteria
whole_of None = None
whole_of (Some any) = Some (Where any)

abbrev pub ended : Reading → Option Criteria
ended Start = None
ended All = Some Everything
ended (Inside Joint room level []) = whole_of (level_any level)
ended (Inside stage room level outer) = None
ended Cut = None

-- ---- a text's outcome: criteria, or the place of the fault

abbrev pub end_outcome : ℕ → Option Criteria → Result Criteria ℕ
end_outcome size None = Err size
end_outcome size (Some criteria) = Ok criteria

abbrev pub read_on : ℕ → Reading → List Placed → Result Criteria ℕ
read_on size reading [] = end_outcome size (ended reading)
read_on size reading (placed ∷ others) =
    elim (next reading placed.token) [ None ↦ Err placed.at | Some further ↦ read_on size further others ]

abbrev pub criteria_read : List ℕ → Result Criteria ℕ
criteria_read text = cond (nat_lt 4096 (length text)) (Err 4096) (read_on (length text) Start (tokens_of text))
