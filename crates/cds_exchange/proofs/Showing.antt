-- Steps of the reading of replies.
use Rattle.std.proofs.Common.{◌≡◌, ℕ, Option, Some, None, Result, Ok, Err, IfOk, List, sym, subst}
use Rattle.cds_base.specs.declared.mem.Mem.{Mem}
use Rattle.cds_object.specs.Object.{ObjectRow}
use Rattle.cds_soap.specs.declared.action.Action.{Action}
use Rattle.cds_soap.specs.declared.answer.Answer.{Answer}
use Rattle.cds_soap.specs.declared.answer.Answer.TheVariants as answer
use Rattle.cds_soap.specs.Answered.{AnsweredIn}
use Rattle.cds_load.specs.declared.exchange.Ask.{Ask}
use Rattle.cds_load.specs.declared.exchange.Shown.{Shown}
use Rattle.cds_load.specs.declared.exchange.Shown.TheVariants.{Text, Number, Page, Fault}
use Rattle.cds_exchange.specs.Asking.{action_of}
use Rattle.cds_exchange.specs.Readings.{ShowsAs, IsReading, IsFound, IsShown, IsSaid}
use Rattle.cds_exchange.proofs.OneReading.{answer-one}

-- an answer that was found, and what it shows
read-by : (ask : Ask) (bytes : List ℕ) (asked : Action) (given : Answer) (shown : Option Shown) → asked ≡ action_of ask
    → IsFound bytes asked (Some given) → IsShown given shown → IsReading ask bytes shown
read-by ask bytes asked given (Some shown) e found shows = (given, subst (λ x. AnsweredIn bytes x given) e found, shows)
read-by ask bytes asked given None e found shows = λ shown (other, answered, says).
    let same : other ≡ given = answer-one bytes (action_of ask) other given answered (subst (λ x. AnsweredIn bytes x given) e found) in
    shows shown (subst (λ x. ShowsAs x shown) same says)

pub read-if : (ask : Ask) (bytes : List ℕ) (asked : Action) (found : Option Answer) (given : Answer) (r : Result (Option Shown) Mem) → asked ≡ action_of ask
    → IsFound bytes asked found → found ≡ Some given → IfOk r (λ shown. IsShown given shown) → IfOk r (λ shown. IsReading ask bytes shown)
read-if ask bytes asked found given (Ok shown) e is same shows = read-by ask bytes asked given shown e (subst (λ x. IsFound bytes asked x) same is) shows
read-if ask bytes asked found given (Err refusal) e is same shows = tt

pub read-none : (ask : Ask) (bytes : List ℕ) (asked : Action) (found : Option Answer) → asked ≡ action_of ask → IsFound bytes asked found → found ≡ None → IsReading ask bytes None
read-none ask bytes asked found e is same = λ shown (given, answered, says).
    (subst (λ x. IsFound bytes asked x) same is) given (subst (λ x. AnsweredIn bytes x given) (sym e) answered)

-- a page without rows shows nothing
pub page-none : (page : List ℕ) (returned total update : ℕ) (said : Option (List ObjectRow)) → IsSaid page said → said ≡ None → IsShown (answer.Page page returned total update) None
page-none page returned total update said is same = λ shown shows. by (subst (λ x. IsSaid page x) same is) shown shows where
  by : IsSaid page None → (shown : Shown) → ShowsAs (answer.Page page returned total update) shown → ⊥
  by none (Text token) shows = shows
  by none (Number n) shows = shows
  by none (Page rows all number) shows = none rows shows.0
  by none (Fault code) shows = shows

-- what a page shows, its answer shows
pub shown-if : (given : Answer) (page : List ℕ) (returned total update : ℕ) (r : Result (Option Shown) Mem) → given ≡ answer.Page page returned total update
    → IfOk r (λ shown. IsShown (answer.Page page returned total update) shown) → IfOk r (λ shown. IsShown given shown)
shown-if given page returned total update r e is = subst (λ x. IfOk r (λ shown. IsShown x shown)) (sym e) is
