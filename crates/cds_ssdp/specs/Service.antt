-- The description of the service names what control requests and their answers name (UPnP ContentDirectory:4 on actions).
use Rattle.std.specs.Prelude.{◌≡◌, ℕ, Bool, true, false, List, [], ◌∷◌, ◌++◌, codes, map}
use Rattle.cds_object.specs.Writing.{number_element, text_element}
use Rattle.cds_soap.specs.declared.action.ActionName.{ActionName}
use Rattle.cds_soap.specs.declared.action.ActionName.TheVariants as name
use Rattle.cds_soap.specs.declared.answer.Answer.{Answer}
use Rattle.cds_soap.specs.declared.answer.Answer.TheVariants as answer
use Rattle.cds_soap.specs.Given.{arguments_of}
use Rattle.cds_soap.specs.Names.{named_as, response_to}
use Rattle.cds_soap.specs.Names.{service_type as service_in_control}
use Rattle.cds_soap.specs.Written.{answer_inside, in_service}
use Rattle.cds_ssdp.specs.Description.{Described, described_actions}
use Rattle.cds_ssdp.specs.Targets.{service_type}

-- The actions in the order in which they are described.
abbrev pub served_actions : List ActionName
served_actions =
    name.Browse ∷ name.Search ∷ name.GetSystemUpdateId ∷ name.GetServiceResetToken ∷ name.GetSearchCapabilities
    ∷ name.GetSortCapabilities ∷ []

-- The results that are described of an action.
abbrev pub results_of : ActionName → List (List ℕ)
results_of name.Browse = codes "Result" ∷ codes "NumberReturned" ∷ codes "TotalMatches" ∷ codes "UpdateID" ∷ []
results_of name.Search = codes "Result" ∷ codes "NumberReturned" ∷ codes "TotalMatches" ∷ codes "UpdateID" ∷ []
results_of name.GetSystemUpdateId = codes "Id" ∷ []
results_of name.GetServiceResetToken = codes "ResetToken" ∷ []
results_of name.GetSearchCapabilities = codes "SearchCaps" ∷ []
results_of name.GetSortCapabilities = codes "SortCaps" ∷ []

-- An action is described by its name and by the names of its arguments as control requests have them, and by its results.
abbrev pub described_as : ActionName → Described
described_as action = record { action = named_as action; inputs = arguments_of action; outputs = results_of action }

-- The elements of an answer under these names. A fault has none.
abbrev pub results_text : List (List ℕ) → Answer → List ℕ
results_text (a ∷ b ∷ c ∷ d ∷ []) (answer.Page result returned total update) =
    text_element a result ++ number_element b returned ++ number_element c total ++ number_element d update
results_text (a ∷ []) (answer.Number number) = number_element a number
results_text (a ∷ []) (answer.Text text) = text_element a text
results_text names other = []

-- The answer has the results of an action.
abbrev pub is_result : ActionName → Answer → Bool
is_result name.Browse (answer.Page result returned total update) = true
is_result name.Search (answer.Page result returned total update) = true
is_result name.GetSystemUpdateId (answer.Number number) = true
is_result name.GetServiceResetToken (answer.Text text) = true
is_result name.GetSearchCapabilities (answer.Text text) = true
is_result name.GetSortCapabilities (answer.Text text) = true
is_result action other = false

-- The actions that are described are those of control, in this order, and the type of the service is the same. The results in an
-- answer to an action stand under the names that are described, in their order.
pub record IsDescribed : Type 0 where
  pub actions : described_actions ≡ map described_as served_actions
  pub same_type : (version : ℕ) → service_type version ≡ service_in_control version
  pub results : (action : ActionName) (version : ℕ) (given : Answer) → is_result action given ≡ true
      → answer_inside action version given ≡ in_service version (response_to action) (results_text (results_of action) given)
