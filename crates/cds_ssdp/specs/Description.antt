-- The descriptions of the device and of its service as they are written (UPnP Device Architecture 2.0 on the device
-- description and the service description). Names and addresses are this project's profile. So is that the table of state
-- variables is empty and no argument is related to one.
use Rattle.std.specs.Prelude.{ℕ, List, [], ◌∷◌, ◌++◌, codes}
use Rattle.std.specs.List.{flat_map}
use Rattle.cds_ssdp.specs.Targets.{device_name, device_type, service_type}

-- An element around what stands in it.
abbrev pub element : List ℕ → List ℕ → List ℕ
element name inside = codes "<" ++ name ++ codes ">" ++ inside ++ codes "</" ++ name ++ codes ">"

-- The declaration and the start tag of the root element with its namespace, and the version of the architecture.
abbrev pub document_start : List ℕ → List ℕ → List ℕ
document_start name space =
    codes "<?xml version=\"1.0\"?><" ++ name ++ codes " xmlns=\"" ++ space ++ codes "\">"
    ++ element (codes "specVersion") (element (codes "major") (codes "2") ++ element (codes "minor") (codes "0"))

-- ---- the device

-- The text before the name of the device.
unfoldable pub device_front : List ℕ
device_front =
    document_start (codes "root") (codes "urn:schemas-upnp-org:device-1-0")
    ++ codes "<device>" ++ element (codes "deviceType") (device_type 4) ++ element (codes "friendlyName") (codes "cds")
    ++ element (codes "manufacturer") (codes "cds") ++ element (codes "modelName") (codes "cds") ++ codes "<UDN>"

-- The text after the name, with the service.
unfoldable pub device_back : List ℕ
device_back =
    codes "</UDN>"
    ++ element (codes "serviceList") (element (codes "service") (
    element (codes "serviceType") (service_type 4)
    ++ element (codes "serviceId") (codes "urn:upnp-org:serviceId:ContentDirectory")
    ++ element (codes "SCPDURL") (codes "/cds.xml")
    ++ element (codes "controlURL") (codes "/control")
    ++ element (codes "eventSubURL") (codes "/event")
    ))
    ++ codes "</device></root>"

-- The description of the device with a UUID.
unfoldable pub device_text : List ℕ → List ℕ
device_text id = device_front ++ device_name id ++ device_back

-- ---- the service

-- An action: its name, and the names of its arguments and of its results.
pub record Described : Type 0 where
  pub action : List ℕ
  pub inputs : List (List ℕ)
  pub outputs : List (List ℕ)

-- The arguments that Browse and Search have in common, and their results.
abbrev pub slice_names : List (List ℕ)
slice_names = codes "Filter" ∷ codes "StartingIndex" ∷ codes "RequestedCount" ∷ codes "SortCriteria" ∷ []

abbrev pub page_names : List (List ℕ)
page_names = codes "Result" ∷ codes "NumberReturned" ∷ codes "TotalMatches" ∷ codes "UpdateID" ∷ []

-- The actions that are served.
abbrev pub described_actions : List Described
described_actions =
    record { action = codes "Browse"; inputs = codes "ObjectID" ∷ codes "BrowseFlag" ∷ slice_names; outputs = page_names }
    ∷ record { action = codes "Search"; inputs = codes "ContainerID" ∷ codes "SearchCriteria" ∷ slice_names; outputs = page_names }
    ∷ record { action = codes "GetSystemUpdateID"; inputs = []; outputs = codes "Id" ∷ [] }
    ∷ record { action = codes "GetServiceResetToken"; inputs = []; outputs = codes "ResetToken" ∷ [] }
    ∷ record { action = codes "GetSearchCapabilities"; inputs = []; outputs = codes "SearchCaps" ∷ [] }
    ∷ record { action = codes "GetSortCapabilities"; inputs = []; outputs = codes "SortCaps" ∷ [] }
    ∷ []

-- An argument or a result, by its direction.
abbrev pub argument_text : List ℕ → List ℕ → List ℕ
argument_text direction name =
    element (codes "argument") (element (codes "name") name ++ element (codes "direction") direction)

abbrev pub action_text : Described → List ℕ
action_text described =
    element (codes "action") (element (codes "name") described.action ++ element (codes "argumentList") (
    flat_map (argument_text (codes "in")) described.inputs ++ flat_map (argument_text (codes "out")) described.outputs
    ))

-- The description of the service. Its table of state variables is empty.
unfoldable pub service_text : List ℕ
service_text =
    document_start (codes "scpd") (codes "urn:schemas-upnp-org:service-1-0")
    ++ element (codes "actionList") (flat_map action_text described_actions)
    ++ element (codes "serviceStateTable") [] ++ codes "</scpd>"
