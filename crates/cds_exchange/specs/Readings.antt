-- What the bytes of a reply show to an ask (UPnP Device Architecture 2.0 on control; UPnP ContentDirectory:4 on the
-- results of actions). Whether a load can go on with what is shown is no part of this.
use Rattle.std.specs.Prelude.{◌≡◌, ℕ, Option, Some, None, Ok, List}
use Rattle.cds_object.specs.Object.{ObjectRow}
use Rattle.cds_soap.specs.declared.action.Action.{Action}
use Rattle.cds_soap.specs.declared.answer.Answer.{Answer}
use Rattle.cds_soap.specs.declared.answer.Answer.TheVariants as answer
use Rattle.cds_soap.specs.Answered.{AnsweredIn}
use Rattle.cds_didl.specs.Didl.{Answers}
use Rattle.cds_load.specs.declared.exchange.Ask.{Ask}
use Rattle.cds_load.specs.declared.exchange.Shown.{Shown}
use Rattle.cds_load.specs.declared.exchange.Shown.TheVariants.{Text, Number, Page, Fault}
use Rattle.cds_exchange.specs.Asking.{action_of}

-- An answer shows its text, its number or its code. A page shows the rows that its result says, and the two numbers
-- beside it. The result must be a DIDL-Lite document. The number of rows that the answer claims to return is passed
-- over.
abbrev pub ShowsAs : Answer → Shown → Type 0
ShowsAs (answer.Page result returned matches number) (Page rows total update) = Answers result (Ok rows) × (total ≡ matches) × (update ≡ number)
ShowsAs (answer.Number number) (Number n) = n ≡ number
ShowsAs (answer.Text text) (Text token) = token ≡ text
ShowsAs (answer.Fault code) (Fault c) = c ≡ code
ShowsAs given shown = ⊥

-- The bytes are a reply that answers the ask and shows this, and after it anything.
abbrev pub ReadsAs : Ask → List ℕ → Shown → Type 0
ReadsAs ask bytes shown = (given : Answer) × AnsweredIn bytes (action_of ask) given × ShowsAs given shown

-- What is read of the bytes: what they show, or that they show nothing.
abbrev pub IsReading : Ask → List ℕ → Option Shown → Type 0
IsReading ask bytes (Some shown) = ReadsAs ask bytes shown
IsReading ask bytes None = (shown : Shown) → ¬ (ReadsAs ask bytes shown)

-- The same of each step: the answer of the bytes, what it shows, and the rows of a page.
abbrev pub IsFound : List ℕ → Action → Option Answer → Type 0
IsFound bytes action (Some given) = AnsweredIn bytes action given
IsFound bytes action None = (given : Answer) → ¬ (AnsweredIn bytes action given)

abbrev pub IsShown : Answer → Option Shown → Type 0
IsShown given (Some shown) = ShowsAs given shown
IsShown given None = (shown : Shown) → ¬ (ShowsAs given shown)

abbrev pub IsSaid : List ℕ → Option (List ObjectRow) → Type 0
IsSaid page (Some rows) = Answers page (Ok rows)
IsSaid page None = (rows : List ObjectRow) → ¬ (Answers page (Ok rows))
