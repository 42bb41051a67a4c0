-- What the descriptions say as documents of XML: their elements, all in the namespace of the root and without attributes.
use Rattle.std.specs.Prelude.{ℕ, List, [], ◌∷◌, codes}
use Rattle.cds_markup.specs.Document.{Meaning, Meanings, Element, End, TextThen, ChildThen}
use Rattle.cds_ssdp.specs.Targets.{device_name, device_type, service_type}
use Rattle.cds_ssdp.specs.Description.{Described, described_actions}

abbrev pub said : List ℕ → List ℕ → Meanings → Meaning
said space local inside = Element (record { space = space; local = local }) [] inside

abbrev pub text_said : List ℕ → List ℕ → List ℕ → Meaning
text_said space local text = said space local (TextThen text End)

abbrev pub version_said : List ℕ → Meaning
version_said space =
    said space (codes "specVersion") (ChildThen (text_said space (codes "major") (codes "2")) (ChildThen (text_said space (codes "minor") (codes "0")) End))

-- ---- the device

abbrev pub device_space : List ℕ
device_space = codes "urn:schemas-upnp-org:device-1-0"

abbrev pub of_device : List ℕ → List ℕ → Meanings → Meanings
of_device local text more = ChildThen (text_said device_space local text) more

abbrev pub device_said : List ℕ → Meaning
device_said id =
    said device_space (codes "root") (ChildThen (version_said device_space) (ChildThen (said device_space (codes "device")
    (of_device (codes "deviceType") (device_type 4)
    (of_device (codes "friendlyName") (codes "cds")
    (of_device (codes "manufacturer") (codes "cds")
    (of_device (codes "modelName") (codes "cds")
    (of_device (codes "UDN") (device_name id)
    (ChildThen (said device_space (codes "serviceList") (ChildThen (said device_space (codes "service")
    (of_device (codes "serviceType") (service_type 4)
    (of_device (codes "serviceId") (codes "urn:upnp-org:serviceId:ContentDirectory")
    (of_device (codes "SCPDURL") (codes "/cds.xml")
    (of_device (codes "controlURL") (codes "/control")
    (of_device (codes "eventSubURL") (codes "/event") End)))))) End)) End))))))) End))

-- ---- the service

abbrev pub service_space : List ℕ
service_space = codes "urn:schemas-upnp-org:service-1-0"

abbrev pub of_service : List ℕ → List ℕ → Meanings → Meanings
of_service local text more = ChildThen (text_said service_space local text) more

abbrev pub arguments_said : List ℕ → List (List ℕ) → Meanings → Meanings
arguments_said direction [] more = more
arguments_said direction (name ∷ names) more =
    ChildThen (said service_space (codes "argument") (of_service (codes "name") name (of_service (codes "direction") direction End))) (arguments_said direction names more)

abbrev pub actions_said : List Described → Meanings
actions_said [] = End
actions_said (described ∷ more) =
    ChildThen (said service_space (codes "action") (of_service (codes "name") described.action (ChildThen (said service_space (codes "argumentList")
    (arguments_said (codes "in") described.inputs (arguments_said (codes "out") described.outputs End))) End))) (actions_said more)

abbrev pub service_said : Meaning
service_said =
    said service_space (codes "scpd") (ChildThen (version_said service_space) (ChildThen (said service_space (codes "actionList") (actions_said described_actions))
    (ChildThen (said service_space (codes "serviceStateTable") End) End)))
