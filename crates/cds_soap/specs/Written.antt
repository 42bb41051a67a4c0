-- Control requests and their answers as they are written (UPnP Device Architecture 2.0 on control; SOAP 1.1).
use Rattle.std.specs.Prelude.{◌≡◌, ◌==◌, ◌≤◌, ℕ, Bool, true, false, ◌&&◌, nat_le, IsTrue, if◌then◌else◌, Option, Some, None, List, [], ◌∷◌, ◌++◌, length, codes, ⊤}
use Rattle.std.specs.List.{list_all}
use Rattle.std.specs.Fmt.{decimal}
use Rattle.cds_object.specs.Writing.{text_element, number_element}
use Rattle.url.specs.declared.slicing.Position.TheVariants.{BeforeHost, AfterPort, BeforePath, AfterQuery}
use Rattle.url.specs.Parts.{Parts, text_between}
use Rattle.cds_http.specs.declared.fields.Field.{Field}
use Rattle.cds_http.specs.Written.{written_request, written_reply}
use Rattle.cds_soap.specs.declared.action.ActionName.{ActionName}
use Rattle.cds_soap.specs.declared.action.ActionName.TheVariants as name
use Rattle.cds_soap.specs.declared.action.BrowseRequest.{BrowseRequest}
use Rattle.cds_soap.specs.declared.action.SearchRequest.{SearchRequest}
use Rattle.cds_soap.specs.declared.action.Action.{Action}
use Rattle.cds_soap.specs.declared.action.Action.TheVariants as action
use Rattle.cds_soap.specs.declared.answer.Answer.{Answer}
use Rattle.cds_soap.specs.declared.answer.Answer.TheVariants as answer
use Rattle.cds_soap.specs.Names.{name_of_action, named_as, response_to, service_type, soap_action, in_quotes}

-- ---- the envelope

unfoldable pub envelope_start : List ℕ
envelope_start =
    codes "<?xml version=\"1.0\"?><s:Envelope xmlns:s=\"http://schemas.xmlsoap.org/soap/envelope/\" "
    ++ codes "s:encodingStyle=\"http://schemas.xmlsoap.org/soap/encoding/\"><s:Body>"

unfoldable pub envelope_end : List ℕ
envelope_end = codes "</s:Body></s:Envelope>"

abbrev pub enveloped : List ℕ → List ℕ
enveloped inside = envelope_start ++ inside ++ envelope_end

-- The tags of an element in the namespace of a version of the service.
unfoldable pub service_start : ℕ → List ℕ → List ℕ
service_start version local = codes "<u:" ++ local ++ codes " xmlns:u=\"" ++ service_type version ++ codes "\">"

unfoldable pub service_end : List ℕ → List ℕ
service_end local = codes "</u:" ++ local ++ codes ">"

abbrev pub in_service : ℕ → List ℕ → List ℕ → List ℕ
in_service version local inside = service_start version local ++ inside ++ service_end local

-- ---- requests

-- The arguments that Browse and Search have in common.
unfoldable pub slice_text : List ℕ → ℕ → ℕ → List ℕ → List ℕ
slice_text filter start count sort =
    text_element (codes "Filter") filter ++ number_element (codes "StartingIndex") start ++ number_element (codes "RequestedCount") count
    ++ text_element (codes "SortCriteria") sort

unfoldable pub browse_text : BrowseRequest → List ℕ
browse_text request =
    text_element (codes "ObjectID") request.object ++ text_element (codes "BrowseFlag") request.flag
    ++ slice_text request.filter request.start request.count request.sort

unfoldable pub search_text : SearchRequest → List ℕ
search_text request =
    text_element (codes "ContainerID") request.container ++ text_element (codes "SearchCriteria") request.criteria
    ++ slice_text request.filter request.start request.count request.sort

abbrev pub arguments_text : Action → List ℕ
arguments_text (action.Browse request) = browse_text request
arguments_text (action.Search request) = search_text request
arguments_text other = []

-- The body of a request in a version.
abbrev pub request_body : ℕ → Action → List ℕ
request_body version asked = enveloped (in_service version (named_as (name_of_action asked)) (arguments_text asked))

abbrev pub content_type : Field
content_type = record { name = codes "CONTENT-TYPE"; value = codes "text/xml; charset=\"utf-8\"" }

-- The host of an address with its port, and its path with its query. The port of an `http` address is kept unless it is
-- 80. So a port stands after the host exactly then.
abbrev pub host_in : Parts → List ℕ
host_in url = text_between url BeforeHost AfterPort

abbrev pub target_in : Parts → List ℕ
target_in url = text_between url BeforePath AfterQuery

abbrev pub request_fields : ℕ → ActionName → Parts → List Field
request_fields version action_name url =
    record { name = codes "HOST"; value = host_in url } ∷ content_type
    ∷ record { name = codes "SOAPACTION"; value = in_quotes (soap_action version action_name) } ∷ []

-- A request in version 4 of the service.
abbrev pub written_action : Action → Parts → List ℕ
written_action asked url =
    written_request (codes "POST") (target_in url) (request_fields 4 (name_of_action asked) url) (request_body 4 asked)

-- ---- answers

-- What the code of a fault means.
abbrev pub description : ℕ → List ℕ
description code =
    if code == 401 then codes "Invalid Action"
    else if code == 402 then codes "Invalid Args"
    else if code == 603 then codes "Out of Memory"
    else if code == 701 then codes "No such object"
    else if code == 708 then codes "Unsupported or invalid search criteria"
    else if code == 709 then codes "Unsupported or invalid sort criteria"
    else if code == 710 then codes "No such container"
    else []

unfoldable pub fault_front : List ℕ
fault_front =
    codes "<s:Fault><faultcode>s:Client</faultcode><faultstring>UPnPError</faultstring><detail>"
    ++ codes "<UPnPError xmlns=\"urn:schemas-upnp-org:control-1-0\">"

unfoldable pub fault_end : List ℕ
fault_end = codes "</UPnPError></detail></s:Fault>"

unfoldable pub fault_text : ℕ → List ℕ
fault_text code =
    fault_front ++ number_element (codes "errorCode") code ++ text_element (codes "errorDescription") (description code)
    ++ fault_end

-- The name of the result that is a text.
abbrev pub text_result : ActionName → List ℕ
text_result name.GetServiceResetToken = codes "ResetToken"
text_result name.GetSearchCapabilities = codes "SearchCaps"
text_result name.GetSortCapabilities = codes "SortCaps"
text_result other = []

-- What stands in the Body.
abbrev pub answer_inside : ActionName → ℕ → Answer → List ℕ
answer_inside action_name version (answer.Page result returned total update) =
    in_service version (response_to action_name)
    (text_element (codes "Result") result ++ number_element (codes "NumberReturned") returned
    ++ number_element (codes "TotalMatches") total ++ number_element (codes "UpdateID") update)
answer_inside action_name version (answer.Number number) =
    in_service version (response_to action_name) (number_element (codes "Id") number)
answer_inside action_name version (answer.Text text) =
    in_service version (response_to action_name) (text_element (text_result action_name) text)
answer_inside action_name version (answer.Fault code) = fault_text code

abbrev pub answer_body : ActionName → ℕ → Answer → List ℕ
answer_body action_name version given = enveloped (answer_inside action_name version given)

abbrev pub answer_status : Answer → ℕ
answer_status (answer.Page result returned total update) = 200
answer_status (answer.Number number) = 200
answer_status (answer.Text text) = 200
answer_status (answer.Fault code) = 500

-- The token stands after the other given fields, if there is one.
abbrev pub answer_fields : Option (List ℕ) → List Field
answer_fields None = content_type ∷ []
answer_fields (Some token) = content_type ∷ record { name = codes "CDS-RESET-TOKEN"; value = token } ∷ []

abbrev pub written_answer : Action → ℕ → Answer → Option (List ℕ) → List ℕ
written_answer asked version given token =
    written_reply (answer_status given) (answer_fields token) (answer_body (name_of_action asked) version given)

-- ---- conditions

-- The answer is one to such an action: of its kind, or a fault of the table.
abbrev pub is_known_code : ℕ → Bool
is_known_code code = nat_le 1 (length (description code))

abbrev pub fits : ActionName → Answer → Bool
fits name.Browse (answer.Page result returned total update) = true
fits name.Search (answer.Page result returned total update) = true
fits name.GetSystemUpdateId (answer.Number number) = true
fits name.GetServiceResetToken (answer.Text text) = true
fits name.GetSearchCapabilities (answer.Text text) = true
fits name.GetSortCapabilities (answer.Text text) = true
fits action_name (answer.Fault code) = is_known_code code
fits action_name other = false

abbrev pub Fits : ActionName → Answer → Type 0
Fits action_name given = IsTrue (fits action_name given)

-- A token is 1 to 255 visible bytes of ASCII.
abbrev pub is_token_byte : ℕ → Bool
is_token_byte b = nat_le 33 b && nat_le b 126

abbrev pub is_reset_token : List ℕ → Bool
is_reset_token token = list_all is_token_byte token && nat_le 1 (length token) && nat_le (length token) 255

abbrev pub CanBeToken : Option (List ℕ) → Type 0
CanBeToken None = ⊤
CanBeToken (Some token) = IsTrue (is_reset_token token)
