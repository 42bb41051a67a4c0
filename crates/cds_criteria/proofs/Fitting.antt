-- A reading keeps to its room, and what it has read may begin criteria.
use Rattle.std.proofs.Common.{◌≡◌, ◌++◌, ℕ, suc, zero, List, [], ◌∷◌, Option, Some, None, true, refl, sym, ap, subst, ◌∙◌, append_assoc}
use Rattle.cds_criteria.specs.Criteria.{AnyOf, AllOf, Factor, Criteria, Token, Begins, Id}
use Rattle.cds_criteria.specs.Criteria.{Compare, Exists, Group, Everything, Where}
use Rattle.cds_criteria.specs.Criteria.{Star, Open, Close, AndWord, OrWord, Existence, Truth, Name, Sign, Value, CutSign, CutValue}
use Rattle.cds_criteria.specs.Criteria.{any_tokens, factor_tokens, AnyFits, AllFits, FactorFits, CriteriaFit}
use Rattle.cds_criteria.specs.Reading.{Reading, Level, Stage, Start, All, Inside, Cut, Term, Test, Argument, Answer, Joint, with_factor, with_all, after_factor, all_behind, and_level, or_level, close_level, open_level, within, at_start, next, whole_of, ended}
use Rattle.cds_criteria.proofs.Sound.{before_tokens, factors_tokens, outer_tokens, inside_tokens, Holding, IfNext, end, step, nil, factor_put, joined, closed}

abbrev pub BeforeFits : ℕ → Option AnyOf → Type 0
BeforeFits room None = Unit {0}
BeforeFits room (Some any) = AnyFits room any

abbrev pub FactorsFit : ℕ → Option AllOf → Type 0
FactorsFit room None = Unit {0}
FactorsFit room (Some all) = AllFits room all

abbrev pub LevelFits : ℕ → Level → Type 0
LevelFits room level = BeforeFits room level.before × FactorsFit room level.factors

-- the levels outside one with so much room
abbrev pub OuterFits : ℕ → List Level → Type 0
OuterFits room [] = room ≡ 16
OuterFits room (level ∷ outer) = LevelFits (suc room) level × OuterFits (suc room) outer

abbrev pub IsThere : Option AllOf → Type 0
IsThere None = ⊥
IsThere (Some all) = Unit {0}

abbrev pub StageFits : Stage → Level → Type 0
StageFits Joint level = IsThere level.factors
StageFits stage level = Unit {0}

abbrev pub Fits : Reading → Type 0
Fits (Inside stage room level outer) = StageFits stage level × LevelFits room level × OuterFits room outer
Fits reading = Unit {0}

factor-fits : (room : ℕ) (factors : Option AllOf) (factor : Factor) → FactorsFit room factors → FactorFits room factor → AllFits room (with_factor factors factor)
factor-fits room None factor f g = g
factor-fits room (Some all) factor f g = (f, g)

all-fits : (room : ℕ) (before : Option AnyOf) (all : AllOf) → BeforeFits room before → AllFits room all → AnyFits room (with_all before all)
all-fits room None all f g = g
all-fits room (Some any) all f g = (f, g)

after-fits : (room : ℕ) (level : Level) (outer : List Level) (factor : Factor) → LevelFits room level → OuterFits room outer → FactorFits room factor
    → Fits (after_factor factor room level outer)
after-fits room level outer factor f o g = (tt, (f.0, factor-fits room level.factors factor f.1 g), o)

or-fits : (room : ℕ) (before : Option AnyOf) (factors : Option AllOf) (outer : List Level) → BeforeFits room before → FactorsFit room factors → OuterFits room outer
    → IfNext (or_level (all_behind before factors) room outer) Fits
or-fits room before None outer f g o = tt
or-fits room before (Some all) outer f g o = (tt, (all-fits room before all f g, tt), o)

and-fits : (room : ℕ) (before : Option AnyOf) (factors : Option AllOf) (outer : List Level) → BeforeFits room before → FactorsFit room factors → OuterFits room outer
    → IfNext (and_level factors room (record { before = before; factors = factors }) outer) Fits
and-fits room before None outer f g o = tt
and-fits room before (Some all) outer f g o = (tt, (f, g), o)

close-fits : (room : ℕ) (before : Option AnyOf) (factors : Option AllOf) (outer : List Level) → BeforeFits room before → FactorsFit room factors → OuterFits room outer
    → IfNext (close_level (all_behind before factors) room outer) Fits
close-fits room before None outer f g o = tt
close-fits room before (Some all) [] f g o = tt
close-fits room before (Some all) (level ∷ outer) f g o =
    after-fits (suc room) level outer (Group (with_all before all)) o.0 o.1 (all-fits room before all f g)

open-fits : (room : ℕ) (level : Level) (outer : List Level) → LevelFits room level → OuterFits room outer → IfNext (open_level room level outer) Fits
open-fits zero level outer f o = tt
open-fits (suc room) level outer f o = (tt, (tt, tt), (f, o))

within-fits : (stage : Stage) (room : ℕ) (level : Level) (outer : List Level) (token : Token) → LevelFits room level → OuterFits room outer
    → IfNext (within stage room level outer token) Fits
within-fits Term room level outer Open f o = open-fits room level outer f o
within-fits Term room level outer (Name property) f o = (tt, f, o)
within-fits Term room level outer token f o = tt
within-fits (Test property) room level outer Existence f o = (tt, f, o)
within-fits (Test property) room level outer (Sign operator) f o = (tt, f, o)
within-fits (Test property) room level outer CutSign f o = tt
within-fits (Test property) room level outer token f o = tt
within-fits (Argument property operator) room level outer (Value value) f o = after-fits room level outer (Compare property operator value) f o tt
within-fits (Argument property operator) room level outer CutValue f o = tt
within-fits (Argument property operator) room level outer token f o = tt
within-fits (Answer property) room level outer (Truth there) f o = after-fits room level outer (Exists property there) f o tt
within-fits (Answer property) room level outer token f o = tt
within-fits Joint room level outer AndWord f o = and-fits room level.before level.factors outer f.0 f.1 o
within-fits Joint room level outer OrWord f o = or-fits room level.before level.factors outer f.0 f.1 o
within-fits Joint room level outer Close f o = close-fits room level.before level.factors outer f.0 f.1 o
within-fits Joint room level outer token f o = tt

start-fits : (token : Token) → IfNext (at_start token) Fits
start-fits Star = tt
start-fits Open = (tt, (tt, tt), ((tt, tt), refl))
start-fits (Name property) = (tt, (tt, tt), refl)
start-fits token = tt

pub next-fits : (r : Reading) → Fits r → (token : Token) → IfNext (next r token) Fits
next-fits Start f token = start-fits token
next-fits All f token = tt
next-fits (Inside stage room level outer) f token = within-fits stage room level outer token f.1 f.2
next-fits Cut f token = tt

abbrev pub IfFits : Option Criteria → Type 0
IfFits None = Unit {0}
IfFits (Some criteria) = CriteriaFit 16 criteria

any-ended-fits : (room : ℕ) (before : Option AnyOf) (factors : Option AllOf) → BeforeFits room before → FactorsFit room factors → room ≡ 16
    → IfFits (whole_of (all_behind before factors))
any-ended-fits room before None f g e = tt
any-ended-fits room before (Some all) f g e = subst (λ n. AnyFits n (with_all before all)) e (all-fits room before all f g)

pub ended-fits : (r : Reading) → Fits r → IfFits (ended r)
ended-fits Start f = tt
ended-fits All f = tt
ended-fits (Inside Joint room level []) f = any-ended-fits room level.before level.factors f.1.0 f.1.1 f.2
ended-fits (Inside Joint room level (other ∷ outer)) f = tt
ended-fits (Inside Term room level outer) f = tt
ended-fits (Inside (Test property) room level outer) f = tt
ended-fits (Inside (Argument property operator) room level outer) f = tt
ended-fits (Inside (Answer property) room level outer) f = tt
ended-fits Cut f = tt

-- ---- what was read may begin criteria

record Closed (tokens : List Token) : Type 0 where
  any : AnyOf
  rest : List Token
  fits : AnyFits 16 any
  same : any_tokens any ≡ tokens ++ rest

close-up : (outer : List Level) (room : ℕ) (any : AnyOf) → AnyFits room any → OuterFits room outer → Closed (outer_tokens outer ++ any_tokens any)
close-up [] room any f o = record { any = any; rest = []; fits = subst (λ n. AnyFits n any) o f; same = nil (any_tokens any) }
close-up (level ∷ outer) room any f o =
    let wide : AnyOf = with_all level.before (with_factor level.factors (Group any)) in
    let c : Closed (outer_tokens outer ++ any_tokens wide) =
    close-up outer (suc room) wide (all-fits (suc room) level.before (with_factor level.factors (Group any)) o.0.0 (factor-fits (suc room) level.factors (Group any) o.0.1 f)) o.1 in
    record {
      any = c.any;
      rest = Close ∷ c.rest;
      fits = c.fits;
      same = c.same
          ∙ (ap (λ x. x ++ c.rest) (sym (joined level.before (with_factor level.factors (Group any)) outer) ∙ sym (closed level outer any))
          ∙ append_assoc (outer_tokens (level ∷ outer) ++ any_tokens any) (Close ∷ []) c.rest);
    }

-- with some tokens more a factor is whole
with-more : (room : ℕ) (level : Level) (outer : List Level) → LevelFits room level → OuterFits room outer → (all : AllOf) → AllFits room all → (tokens more : List Token)
    → tokens ++ more ≡ inside_tokens Joint (record { before = level.before; factors = Some all }) outer → Begins tokens
with-more room level outer f o all g tokens more e =
    let c : Closed (outer_tokens outer ++ any_tokens (with_all level.before all)) =
    close-up outer room (with_all level.before all) (all-fits room level.before all f.0 g) o in
    record {
      criteria = Where c.any;
      rest = more ++ c.rest;
      shallow = c.fits;
      begins = c.same ∙ (ap (λ x. x ++ c.rest) (sym (joined level.before all outer) ∙ sym e) ∙ append_assoc tokens more c.rest);
    }

stage-more : (room : ℕ) (level : Level) (outer : List Level) → LevelFits room level → OuterFits room outer → (stage : Stage) (factor : Factor) → FactorFits room factor → (more : List Token)
    → inside_tokens stage level outer ++ more ≡ inside_tokens Term level outer ++ factor_tokens factor → Begins (inside_tokens stage level outer)
stage-more room level outer f o stage factor g more e =
    with-more room level outer f o (with_factor level.factors factor) (factor-fits room level.factors factor f.1 g) (inside_tokens stage level outer) more
    (e ∙ (end Term level outer (factor_tokens factor) ∙ step outer level (factor_put level.factors factor)))

joint-begins : (room : ℕ) (before : Option AnyOf) (factors : Option AllOf) (outer : List Level) → IsThere factors → BeforeFits room before → FactorsFit room factors → OuterFits room outer
    → Begins (inside_tokens Joint (record { before = before; factors = factors }) outer)
joint-begins room before None outer t f g o = absurd t
joint-begins room before (Some all) outer t f g o =
    with-more room (record { before = before; factors = Some all }) outer (f, g) o all g (inside_tokens Joint (record { before = before; factors = Some all }) outer) []
    (sym (nil (inside_tokens Joint (record { before = before; factors = Some all }) outer)))

behind : (front factors a b : List Token) → (front ++ (factors ++ a)) ++ b ≡ (front ++ factors) ++ (a ++ b)
behind front factors a b = ap (λ x. x ++ b) (sym (append_assoc front factors a)) ∙ append_assoc (front ++ factors) a b

abbrev pub IsUncut : Reading → Type 0
IsUncut Cut = ⊥
IsUncut reading = Unit {0}

pub holding-begins : (r : Reading) (before : List Token) → IsUncut r → Fits r → Holding r before → Begins before
holding-begins Start before u f h = record { criteria = Everything; rest = Star ∷ []; shallow = tt; begins = ap (λ x. x ++ Star ∷ []) (sym h) }
holding-begins All before u f h = record { criteria = Everything; rest = []; shallow = tt; begins = ap (λ x. x ++ []) (sym h) }
holding-begins (Inside Term room level outer) before u f h =
    subst Begins (sym h) (stage-more room level outer f.1 f.2 Term (Exists Id true) tt (factor_tokens (Exists Id true)) refl)
holding-begins (Inside (Test property) room level outer) before u f h =
    subst Begins (sym h) (stage-more room level outer f.1 f.2 (Test property) (Exists property true) tt (Existence ∷ Truth true ∷ [])
    (behind (outer_tokens outer ++ before_tokens level.before) (factors_tokens level.factors) (Name property ∷ []) (Existence ∷ Truth true ∷ [])))
holding-begins (Inside (Argument property operator) room level outer) before u f h =
    subst Begins (sym h) (stage-more room level outer f.1 f.2 (Argument property operator) (Compare property operator []) tt (Value [] ∷ [])
    (behind (outer_tokens outer ++ before_tokens level.before) (factors_tokens level.factors) (Name property ∷ Sign operator ∷ []) (Value [] ∷ [])))
holding-begins (Inside (Answer property) room level outer) before u f h =
    subst Begins (sym h) (stage-more room level outer f.1 f.2 (Answer property) (Exists property true) tt (Truth true ∷ [])
    (behind (outer_tokens outer ++ before_tokens level.before) (factors_tokens level.factors) (Name property ∷ Existence ∷ []) (Truth true ∷ [])))
holding-begins (Inside Joint room level outer) before u f h = subst Begins (sym h) (joint-begins room level.before level.factors outer f.0 f.1.0 f.1.1 f.2)
holding-begins Cut before u f h = absurd u
