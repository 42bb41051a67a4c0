-- What a reading has read are tokens of what it holds.
use Rattle.std.proofs.Common.{◌≡◌, ◌++◌, ℕ, suc, zero, List, [], ◌∷◌, Option, Some, None, refl, sym, ap, subst, ◌∙◌, append_assoc}
use Rattle.cds_criteria.specs.Criteria.{AnyOf, AllOf, Factor, Criteria, Token}
use Rattle.cds_criteria.specs.Criteria.{Compare, Exists, Group}
use Rattle.cds_criteria.specs.Criteria.{Star, Open, Close, AndWord, OrWord, Existence, Truth, Name, Sign, Value, CutSign, CutValue}
use Rattle.cds_criteria.specs.Criteria.{any_tokens, all_tokens, factor_tokens, criteria_tokens}
use Rattle.cds_criteria.specs.Reading.{Reading, Level, Stage, Start, All, Inside, Cut, Term, Test, Argument, Answer, Joint, with_factor, with_all, put_factor, all_behind, and_level, or_level, close_level, open_level, within, at_start, next, whole_of, ended}

-- the tokens of criteria with `or` behind them, and of factors with `and` behind them
abbrev pub before_tokens : Option AnyOf → List Token
before_tokens None = []
before_tokens (Some any) = any_tokens any ++ OrWord ∷ []

abbrev pub factors_tokens : Option AllOf → List Token
factors_tokens None = []
factors_tokens (Some all) = all_tokens all ++ AndWord ∷ []

abbrev pub closed_factors : Option AllOf → List Token
closed_factors None = []
closed_factors (Some all) = all_tokens all

-- the tokens of the levels that are open
abbrev pub outer_tokens : List Level → List Token
outer_tokens [] = []
outer_tokens (level ∷ outer) = outer_tokens outer ++ before_tokens level.before ++ factors_tokens level.factors ++ Open ∷ []

abbrev pub stage_tokens : Stage → Option AllOf → List Token
stage_tokens Term factors = factors_tokens factors
stage_tokens (Test property) factors = factors_tokens factors ++ Name property ∷ []
stage_tokens (Argument property operator) factors = factors_tokens factors ++ Name property ∷ Sign operator ∷ []
stage_tokens (Answer property) factors = factors_tokens factors ++ Name property ∷ Existence ∷ []
stage_tokens Joint factors = closed_factors factors

abbrev pub inside_tokens : Stage → Level → List Level → List Token
inside_tokens stage level outer = outer_tokens outer ++ before_tokens level.before ++ stage_tokens stage level.factors

-- that a reading holds what these tokens say; nothing is said of one that a cut token ended
abbrev pub Holding : Reading → List Token → Type 0
Holding Start tokens = tokens ≡ []
Holding All tokens = tokens ≡ Star ∷ []
Holding (Inside stage room level outer) tokens = tokens ≡ inside_tokens stage level outer
Holding Cut tokens = Unit {0}

abbrev pub IfNext : Option Reading → (Reading → Type 0) → Type 0
IfNext None P = Unit {0}
IfNext (Some r) P = P r

pub end : (stage : Stage) (level : Level) (outer : List Level) (more : List Token)
    → inside_tokens stage level outer ++ more ≡ (outer_tokens outer ++ before_tokens level.before) ++ (stage_tokens stage level.factors ++ more)
end stage level outer more = append_assoc (outer_tokens outer ++ before_tokens level.before) (stage_tokens stage level.factors) more

pub step : (outer : List Level) (level : Level) {a b : List Token} → a ≡ b → (outer_tokens outer ++ before_tokens level.before) ++ a ≡ (outer_tokens outer ++ before_tokens level.before) ++ b
step outer level e = ap (λ x. (outer_tokens outer ++ before_tokens level.before) ++ x) e

pub nil : (xs : List Token) → xs ≡ xs ++ []
nil [] = refl
nil (x ∷ xs) = ap (λ ys. x ∷ ys) (nil xs)

pub factor_put : (factors : Option AllOf) (factor : Factor) → factors_tokens factors ++ factor_tokens factor ≡ closed_factors (Some (with_factor factors factor))
factor_put None factor = refl
factor_put (Some all) factor = append_assoc (all_tokens all) (AndWord ∷ []) (factor_tokens factor)

all_put : (before : Option AnyOf) (all : AllOf) → before_tokens before ++ all_tokens all ≡ any_tokens (with_all before all)
all_put None all = refl
all_put (Some any) all = append_assoc (any_tokens any) (OrWord ∷ []) (all_tokens all)

-- what stands at the end of a level with a factor is its criteria
pub joined : (before : Option AnyOf) (all : AllOf) (outer : List Level)
    → inside_tokens Joint (record { before = before; factors = Some all }) outer ≡ outer_tokens outer ++ any_tokens (with_all before all)
joined before all outer =
    append_assoc (outer_tokens outer) (before_tokens before) (all_tokens all) ∙ ap (λ x. outer_tokens outer ++ x) (all_put before all)

at_joint : (room : ℕ) (before : Option AnyOf) (factors : Option AllOf) (outer : List Level)
    → IfNext (or_level (all_behind before factors) room outer) (λ r. Holding r (inside_tokens Joint (record { before = before; factors = factors }) outer ++ OrWord ∷ []))
at_joint room before None outer = tt
at_joint room before (Some all) outer =
    ap (λ x. x ++ OrWord ∷ []) (joined before all outer)
    ∙ (append_assoc (outer_tokens outer) (any_tokens (with_all before all)) (OrWord ∷ [])
    ∙ nil (outer_tokens outer ++ (any_tokens (with_all before all) ++ OrWord ∷ [])))

at_and : (room : ℕ) (before : Option AnyOf) (factors : Option AllOf) (outer : List Level)
    → IfNext (and_level factors room (record { before = before; factors = factors }) outer) (λ r. Holding r (inside_tokens Joint (record { before = before; factors = factors }) outer ++ AndWord ∷ []))
at_and room before None outer = tt
at_and room before (Some all) outer = end Joint (record { before = before; factors = Some all }) outer (AndWord ∷ [])

pub closed : (level : Level) (outer : List Level) (any : AnyOf)
    → (outer_tokens (level ∷ outer) ++ any_tokens any) ++ Close ∷ [] ≡ inside_tokens Joint (put_factor (Group any) level) outer
closed level outer any =
    append_assoc (outer_tokens (level ∷ outer)) (any_tokens any) (Close ∷ [])
    ∙ (append_assoc (inside_tokens Term level outer) (Open ∷ []) (any_tokens any ++ Close ∷ [])
    ∙ (end Term level outer (Open ∷ (any_tokens any ++ Close ∷ [])) ∙ step outer level (factor_put level.factors (Group any))))

at_close : (room : ℕ) (before : Option AnyOf) (factors : Option AllOf) (outer : List Level)
    → IfNext (close_level (all_behind before factors) room outer) (λ r. Holding r (inside_tokens Joint (record { before = before; factors = factors }) outer ++ Close ∷ []))
at_close room before None outer = tt
at_close room before (Some all) [] = tt
at_close room before (Some all) (level ∷ outer) =
    ap (λ x. x ++ Close ∷ []) (joined before all (level ∷ outer)) ∙ closed level outer (with_all before all)

at_open : (room : ℕ) (level : Level) (outer : List Level)
    → IfNext (open_level room level outer) (λ r. Holding r (inside_tokens Term level outer ++ Open ∷ []))
at_open zero level outer = tt
at_open (suc room) level outer = nil (outer_tokens (level ∷ outer)) ∙ nil (outer_tokens (level ∷ outer) ++ [])

-- a token that can stand leads on to a reading that holds it too
within-holds : (stage : Stage) (room : ℕ) (level : Level) (outer : List Level) (token : Token)
    → IfNext (within stage room level outer token) (λ r. Holding r (inside_tokens stage level outer ++ token ∷ []))
within-holds Term room level outer Open = at_open room level outer
within-holds Term room level outer (Name property) = end Term level outer (Name property ∷ [])
within-holds Term room level outer token = tt
within-holds (Test property) room level outer Existence =
    end (Test property) level outer (Existence ∷ []) ∙ step outer level (append_assoc (factors_tokens level.factors) (Name property ∷ []) (Existence ∷ []))
within-holds (Test property) room level outer (Sign operator) =
    end (Test property) level outer (Sign operator ∷ []) ∙ step outer level (append_assoc (factors_tokens level.factors) (Name property ∷ []) (Sign operator ∷ []))
within-holds (Test property) room level outer CutSign = tt
within-holds (Test property) room level outer token = tt
within-holds (Argument property operator) room level outer (Value value) =
    end (Argument property operator) level outer (Value value ∷ [])
    ∙ step outer level (append_assoc (factors_tokens level.factors) (Name property ∷ Sign operator ∷ []) (Value value ∷ []) ∙ factor_put level.factors (Compare property operator value))
within-holds (Argument property operator) room level outer CutValue = tt
within-holds (Argument property operator) room level outer token = tt
within-holds (Answer property) room level outer (Truth there) =
    end (Answer property) level outer (Truth there ∷ [])
    ∙ step outer level (append_assoc (factors_tokens level.factors) (Name property ∷ Existence ∷ []) (Truth there ∷ []) ∙ factor_put level.factors (Exists property there))
within-holds (Answer property) room level outer token = tt
within-holds Joint room level outer AndWord = at_and room level.before level.factors outer
within-holds Joint room level outer OrWord = at_joint room level.before level.factors outer
within-holds Joint room level outer Close = at_close room level.before level.factors outer
within-holds Joint room level outer token = tt

start-holds : (token : Token) → IfNext (at_start token) (λ r. Holding r (token ∷ []))
start-holds Star = refl
start-holds Open = refl
start-holds (Name property) = refl
start-holds token = tt

-- the same of what was read before
pub next-holds : (r : Reading) (before : List Token) → Holding r before → (token : Token) → IfNext (next r token) (λ s. Holding s (before ++ token ∷ []))
next-holds Start before h token = subst (λ b. IfNext (at_start token) (λ s. Holding s (b ++ token ∷ []))) (sym h) (start-holds token)
next-holds All before h token = tt
next-holds (Inside stage room level outer) before h token =
    subst (λ b. IfNext (within stage room level outer token) (λ s. Holding s (b ++ token ∷ []))) (sym h) (within-holds stage room level outer token)
next-holds Cut before h token = tt

abbrev pub IfEnded : Reading → List Token → Option Criteria → Type 0
IfEnded r before None = Unit {0}
IfEnded r before (Some criteria) = criteria_tokens criteria ≡ before

any-ended : (before : Option AnyOf) (factors : Option AllOf) (tokens : List Token) → tokens ≡ inside_tokens Joint (record { before = before; factors = factors }) []
    → IfEnded Start tokens (whole_of (all_behind before factors))
any-ended before None tokens h = tt
any-ended before (Some all) tokens h = sym (h ∙ joined before all [])

-- and what is whole is spelled by what was read
pub ended-holds : (r : Reading) (before : List Token) → Holding r before → IfEnded r before (ended r)
ended-holds Start before h = tt
ended-holds All before h = sym h
ended-holds (Inside Joint room level []) before h = any-ended level.before level.factors before h
ended-holds (Inside Joint room level (other ∷ outer)) before h = tt
ended-holds (Inside Term room level outer) before h = tt
ended-holds (Inside (Test property) room level outer) before h = tt
ended-holds (Inside (Argument property operator) room level outer) before h = tt
ended-holds (Inside (Answer property) room level outer) before h = tt
ended-holds Cut before h = tt
