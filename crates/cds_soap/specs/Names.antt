-- The actions of a ContentDirectory service that are served here, their names, and how a request names one in
-- SOAPACTION (UPnP ContentDirectory:4 on actions; UPnP Device Architecture 2.0 on control).
use Rattle.std.specs.Prelude.{◌≡◌, ◌≤◌, ◌⊎◌, ◌++◌, ℕ, List, codes}
use Rattle.std.specs.Fmt.{decimal}
use Rattle.cds_soap.specs.declared.action.ActionName.{ActionName}
use Rattle.cds_soap.specs.declared.action.ActionName.TheVariants as name
use Rattle.cds_soap.specs.declared.action.Action.{Action}
use Rattle.cds_soap.specs.declared.action.Action.TheVariants as action

-- The name of an action.
abbrev pub name_of_action : Action → ActionName
name_of_action (action.Browse request) = name.Browse
name_of_action (action.Search request) = name.Search
name_of_action action.GetSystemUpdateId = name.GetSystemUpdateId
name_of_action action.GetServiceResetToken = name.GetServiceResetToken
name_of_action action.GetSearchCapabilities = name.GetSearchCapabilities
name_of_action action.GetSortCapabilities = name.GetSortCapabilities

-- The text of each name.
abbrev pub named_as : ActionName → List ℕ
named_as name.Browse = codes "Browse"
named_as name.Search = codes "Search"
named_as name.GetSystemUpdateId = codes "GetSystemUpdateID"
named_as name.GetServiceResetToken = codes "GetServiceResetToken"
named_as name.GetSearchCapabilities = codes "GetSearchCapabilities"
named_as name.GetSortCapabilities = codes "GetSortCapabilities"

-- The name of the element that answers it.
abbrev pub response_to : ActionName → List ℕ
response_to action_name = named_as action_name ++ codes "Response"

-- The versions of the service that are served here, and its type in a version. That type is the namespace of actions
-- and answers.
abbrev pub IsVersion : ℕ → Type 0
IsVersion version = (1 ≤ version) × (version ≤ 4)

unfoldable pub service_front : List ℕ
service_front = codes "urn:schemas-upnp-org:service:ContentDirectory:"

unfoldable pub service_type : ℕ → List ℕ
service_type version = service_front ++ decimal version

-- What SOAPACTION says of an action in a version, with or without the quotes around it.
unfoldable pub soap_action : ℕ → ActionName → List ℕ
soap_action version action_name = service_type version ++ codes "#" ++ named_as action_name

abbrev pub in_quotes : List ℕ → List ℕ
in_quotes text = codes "\"" ++ text ++ codes "\""

abbrev pub IsSoapAction : List ℕ → ℕ → ActionName → Type 0
IsSoapAction text version action_name = (text ≡ soap_action version action_name) ⊎ (text ≡ in_quotes (soap_action version action_name))
