-- Small texts and elements evaluated by the definitions.
use Rattle.std.specs.Prelude.{◌≡◌, ◌^◌, ℕ, Option, Some, None, List, [], ◌∷◌, ◌++◌, length, codes}
use Rattle.cds_markup.specs.declared.name.Name.{Name}
use Rattle.cds_markup.specs.Document.{Meaning, Meanings, Element, End, TextThen, ChildThen}
use Rattle.cds_soap.specs.declared.action.ActionName.TheVariants as name
use Rattle.cds_soap.specs.declared.action.Action.TheVariants as action
use Rattle.cds_soap.specs.declared.answer.Answer.TheVariants as answer
use Rattle.cds_soap.specs.Names.{soap_action, service_type, in_quotes}
use Rattle.cds_soap.specs.Envelope.{envelope_space, in_envelope}
use Rattle.cds_soap.specs.Given.{number_in, action_given, results_given}
use Rattle.cds_soap.specs.Answered.{control_space, code_in}
use Rattle.cds_soap.specs.Written.{request_body, answer_body}

-- ---- elements

abbrev element_of : List ℕ → List ℕ → Meanings → Meaning
element_of space local inside = Element (record { space = space; local = local }) [] inside

abbrev with_text : List ℕ → List ℕ → Meaning
with_text local text = element_of [] local (TextThen text End)

abbrev inside_of : List Meaning → Meanings
inside_of [] = End
inside_of (child ∷ more) = ChildThen child (inside_of more)

abbrev in_space : List ℕ → List Meaning → Meaning
in_space local inside = element_of envelope_space local (inside_of inside)

abbrev call_of : List ℕ → List Meaning → Meaning
call_of local inside = element_of (service_type 1) local (inside_of inside)

-- ---- texts

abbrev pub NamesAreSaid : Type 0
NamesAreSaid =
    (soap_action 1 name.Browse ≡ codes "urn:schemas-upnp-org:service:ContentDirectory:1#Browse")
    × (in_quotes (soap_action 4 name.GetSystemUpdateId) ≡ codes "\"urn:schemas-upnp-org:service:ContentDirectory:4#GetSystemUpdateID\"")

abbrev pub NumbersAreRead : Type 0
NumbersAreRead =
    (number_in (2 ^ 32) (codes "0") ≡ Some 0)
    × (number_in (2 ^ 32) (codes " \t\n07\r ") ≡ Some 7)
    × (number_in (2 ^ 32) (codes "4294967295") ≡ Some 4294967295)
    × (number_in (2 ^ 32) (codes "4294967296") ≡ None)
    × (number_in (2 ^ 32) (codes "") ≡ None)
    × (number_in (2 ^ 32) (codes "  ") ≡ None)
    × (number_in (2 ^ 32) (codes "1 2") ≡ None)
    × (number_in (2 ^ 32) (codes "+5") ≡ None)
    × (number_in (2 ^ 32) (codes "-1") ≡ None)
    × (number_in (2 ^ 16) (codes "65535") ≡ Some 65535)
    × (number_in (2 ^ 16) (codes "65536") ≡ None)

-- ---- envelopes

abbrev some_call : Meaning
some_call = call_of (codes "GetSystemUpdateID") []

abbrev with_body : List Meaning → Meaning
with_body inside = in_space (codes "Body") inside

abbrev in_whole : List Meaning → Meaning
in_whole inside = in_space (codes "Envelope") inside

-- An envelope with and without Header. Then with no Body, with the Header after the Body, with the Body or the Header
-- twice, with two elements in the Body, and with none. Then a root of another name, and one of another namespace. Text
-- beside elements is passed over.
abbrev pub EnvelopesAreOpened : Type 0
EnvelopesAreOpened =
    (in_envelope (in_whole (with_body (some_call ∷ []) ∷ [])) ≡ Some some_call)
    × (in_envelope (in_whole (in_space (codes "Header") [] ∷ with_body (some_call ∷ []) ∷ [])) ≡ Some some_call)
    × (in_envelope (in_space (codes "Envelope") []) ≡ None)
    × (in_envelope (in_whole (with_body (some_call ∷ []) ∷ in_space (codes "Header") [] ∷ [])) ≡ None)
    × (in_envelope (in_whole (with_body (some_call ∷ []) ∷ with_body (some_call ∷ []) ∷ [])) ≡ None)
    × (in_envelope (in_whole (in_space (codes "Header") [] ∷ in_space (codes "Header") [] ∷ with_body (some_call ∷ []) ∷ [])) ≡ None)
    × (in_envelope (in_whole (with_body (some_call ∷ some_call ∷ []) ∷ [])) ≡ None)
    × (in_envelope (in_whole (with_body [] ∷ [])) ≡ None)
    × (in_envelope (in_space (codes "envelope") (with_body (some_call ∷ []) ∷ [])) ≡ None)
    × (in_envelope (element_of [] (codes "Envelope") (inside_of (with_body (some_call ∷ []) ∷ []))) ≡ None)
    × (in_envelope (element_of envelope_space (codes "Envelope") (TextThen (codes "x") (ChildThen (element_of envelope_space (codes "Body")
    (TextThen (codes "\n") (ChildThen some_call (TextThen (codes " ") End)))) End)))
    ≡ Some some_call)

-- ---- arguments

abbrev browse_asked : List Meaning
browse_asked =
    with_text (codes "BrowseFlag") (codes "BrowseDirectChildren") ∷ with_text (codes "ObjectID") (codes "0")
    ∷ element_of (codes "x") (codes "Filter") (TextThen (codes "*") End) ∷ with_text (codes "StartingIndex") (codes " 5 ")
    ∷ with_text (codes "RequestedCount") (codes "10") ∷ []

abbrev sorted : List ℕ → Meaning
sorted text = element_of [] (codes "SortCriteria") (TextThen text End)

-- Arguments in any order and namespace. One missing, one twice, one of another action. An argument for an action
-- without any. An empty argument.
abbrev pub ArgumentsAreTaken : Type 0
ArgumentsAreTaken =
    (action_given name.Browse (call_of (codes "Browse") (element_of [] (codes "SortCriteria") End ∷ browse_asked))
    ≡ Some (action.Browse (record {
      object = codes "0";
      flag = codes "BrowseDirectChildren";
      filter = codes "*";
      start = 5;
      count = 10;
      sort = [];
    })))
    × (action_given name.Browse (call_of (codes "Browse") browse_asked) ≡ None)
    × (action_given name.Browse (call_of (codes "Browse") (sorted (codes "a") ∷ sorted (codes "b") ∷ browse_asked)) ≡ None)
    × (action_given name.Browse (call_of (codes "Browse") (with_text (codes "ContainerID") (codes "0") ∷ sorted [] ∷ browse_asked)) ≡ None)
    × (action_given name.Search (call_of (codes "Search") (sorted [] ∷ browse_asked)) ≡ None)
    × (action_given name.GetSystemUpdateId (call_of (codes "GetSystemUpdateID") []) ≡ Some action.GetSystemUpdateId)
    × (action_given name.GetSystemUpdateId (call_of (codes "GetSystemUpdateID") (with_text (codes "Id") (codes "0") ∷ [])) ≡ None)

-- ---- answers

abbrev fault_with : List Meaning → Meaning
fault_with inside =
    in_space (codes "Fault")
    (with_text (codes "faultcode") (codes "s:Client")
    ∷ element_of [] (codes "detail") (inside_of (element_of control_space (codes "UPnPError") (inside_of inside) ∷ [])) ∷ [])

abbrev code_with : List ℕ → Meaning
code_with text = element_of control_space (codes "errorCode") (TextThen text End)

-- Results in any order with another element beside them. One missing and one twice. A fault with its code alone,
-- without its code, with it twice, and with a code above the limit.
abbrev pub AnswersAreTaken : Type 0
AnswersAreTaken =
    (results_given name.Browse (call_of (codes "BrowseResponse")
    (with_text (codes "UpdateID") (codes "9") ∷ with_text (codes "Other") [] ∷ with_text (codes "TotalMatches") (codes "3")
    ∷ with_text (codes "NumberReturned") (codes "2") ∷ with_text (codes "Result") (codes "<a/>") ∷ []))
    ≡ Some (answer.Page (codes "<a/>") 2 3 9))
    × (results_given name.GetSystemUpdateId (call_of (codes "GetSystemUpdateIDResponse") (with_text (codes "Id") (codes "2") ∷ []))
    ≡ Some (answer.Number 2))
    × (results_given name.GetSortCapabilities (call_of (codes "GetSortCapabilitiesResponse") (element_of [] (codes "SortCaps") End ∷ []))
    ≡ Some (answer.Text []))
    × (results_given name.GetSystemUpdateId (call_of (codes "GetSystemUpdateIDResponse") []) ≡ None)
    × (results_given name.GetServiceResetToken (call_of (codes "GetServiceResetTokenResponse")
    (with_text (codes "ResetToken") (codes "a") ∷ with_text (codes "ResetToken") (codes "a") ∷ []))
    ≡ None)
    × (code_in (fault_with (code_with (codes "701") ∷ [])) ≡ Some 701)
    × (code_in (fault_with []) ≡ None)
    × (code_in (fault_with (code_with (codes "701") ∷ code_with (codes "701") ∷ [])) ≡ None)
    × (code_in (fault_with (code_with (codes "65536") ∷ [])) ≡ None)
    × (code_in (fault_with (with_text (codes "errorCode") (codes "701") ∷ [])) ≡ None)

-- ---- bodies

abbrev number_answered : List ℕ
number_answered =
    codes "<?xml version=\"1.0\"?><s:Envelope xmlns:s=\"http://schemas.xmlsoap.org/soap/envelope/\" "
    ++ codes "s:encodingStyle=\"http://schemas.xmlsoap.org/soap/encoding/\"><s:Body><u:GetSystemUpdateIDResponse "
    ++ codes "xmlns:u=\"urn:schemas-upnp-org:service:ContentDirectory:4\"><Id>2</Id></u:GetSystemUpdateIDResponse></s:Body></s:Envelope>"

-- The answer to GetSystemUpdateID in version 4. A page in version 1, whose result is escaped once. A fault. A request.
abbrev pub BodiesAreWritten : Type 0
BodiesAreWritten =
    (answer_body name.GetSystemUpdateId 4 (answer.Number 2) ≡ number_answered)
    × (length number_answered ≡ 302)
    × (answer_body name.Browse 1 (answer.Page (codes "<a b=\"1\"/>") 1 2 3)
    ≡ codes "<?xml version=\"1.0\"?><s:Envelope xmlns:s=\"http://schemas.xmlsoap.org/soap/envelope/\" "
    ++ codes "s:encodingStyle=\"http://schemas.xmlsoap.org/soap/encoding/\"><s:Body><u:BrowseResponse "
    ++ codes "xmlns:u=\"urn:schemas-upnp-org:service:ContentDirectory:1\"><Result>&lt;a b=&quot;1&quot;/&gt;</Result>"
    ++ codes "<NumberReturned>1</NumberReturned><TotalMatches>2</TotalMatches><UpdateID>3</UpdateID></u:BrowseResponse></s:Body></s:Envelope>")
    × (answer_body name.Search 4 (answer.Fault 708)
    ≡ codes "<?xml version=\"1.0\"?><s:Envelope xmlns:s=\"http://schemas.xmlsoap.org/soap/envelope/\" "
    ++ codes "s:encodingStyle=\"http://schemas.xmlsoap.org/soap/encoding/\"><s:Body><s:Fault><faultcode>s:Client</faultcode>"
    ++ codes "<faultstring>UPnPError</faultstring><detail><UPnPError xmlns=\"urn:schemas-upnp-org:control-1-0\"><errorCode>708</errorCode>"
    ++ codes "<errorDescription>Unsupported or invalid search criteria</errorDescription></UPnPError></detail></s:Fault></s:Body></s:Envelope>")
    × (request_body 4 (action.Browse (record {
      object = codes "0";
      flag = codes "BrowseMetadata";
      filter = codes "*";
      start = 0;
      count = 0;
      sort = [];
    }))
    ≡ codes "<?xml version=\"1.0\"?><s:Envelope xmlns:s=\"http://schemas.xmlsoap.org/soap/envelope/\" "
    ++ codes "s:encodingStyle=\"http://schemas.xmlsoap.org/soap/encoding/\"><s:Body><u:Browse xmlns:u=\"urn:schemas-upnp-org:service:ContentDirectory:4\">"
    ++ codes "<ObjectID>0</ObjectID><BrowseFlag>BrowseMetadata</BrowseFlag><Filter>*</Filter><StartingIndex>0</StartingIndex>"
    ++ codes "<RequestedCount>0</RequestedCount><SortCriteria></SortCriteria></u:Browse></s:Body></s:Envelope>")
