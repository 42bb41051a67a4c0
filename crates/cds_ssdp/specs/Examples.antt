-- Small searches, replies and descriptions, evaluated by the definitions.
use Rattle.std.specs.Prelude.{◌≡◌, ℕ, zero, suc, List, [], ◌∷◌, ◌++◌, codes, length, Some, None, Option, option_map, true, false}
use Rattle.cds_http.specs.declared.message.Start.TheVariants.{Request, Reply}
use Rattle.cds_http.specs.declared.message.Message.{Message}
use Rattle.cds_http.specs.Head.{kept_fields}
use Rattle.cds_ssdp.specs.declared.device.Device.{Device}
use Rattle.url.specs.Parts.{serialize}
use Rattle.cds_ssdp.specs.Location.{is_location}
use Rattle.cds_ssdp.specs.Targets.{targets_of, usn_of}
use Rattle.cds_ssdp.specs.Replies.{reply_text}
use Rattle.cds_ssdp.specs.Search.{asked_by, Searches, AnswersSearch}
use Rattle.cds_ssdp.specs.Finding.{found_in}
use Rattle.cds_ssdp.specs.Description.{device_text, service_text}

-- The UUID 00000000-0000-8000-8000-000000000000, and abcdef01-2345-6789-abcd-ef0123456789.
abbrev plain_id : List ℕ
plain_id = 0 ∷ 0 ∷ 0 ∷ 0 ∷ 0 ∷ 0 ∷ 128 ∷ 0 ∷ 128 ∷ 0 ∷ 0 ∷ 0 ∷ 0 ∷ 0 ∷ 0 ∷ 0 ∷ []

abbrev lettered_id : List ℕ
lettered_id = 171 ∷ 205 ∷ 239 ∷ 1 ∷ 35 ∷ 69 ∷ 103 ∷ 137 ∷ 171 ∷ 205 ∷ 239 ∷ 1 ∷ 35 ∷ 69 ∷ 103 ∷ 137 ∷ []

-- The root device. The UUID in letters of either case, and another UUID. Types in version 2 and 1, and in versions that
-- are not served or are written in another form. All. Other letters and nothing.
abbrev pub TargetsAreFound : Type 0
TargetsAreFound =
    (targets_of plain_id (codes "upnp:rootdevice") ≡ codes "upnp:rootdevice" ∷ [])
    × (targets_of lettered_id (codes "uuid:abcdef01-2345-6789-abcd-ef0123456789") ≡ codes "uuid:abcdef01-2345-6789-abcd-ef0123456789" ∷ [])
    × (targets_of lettered_id (codes "UUID:ABCDEF01-2345-6789-aBCD-EF0123456789") ≡ codes "uuid:abcdef01-2345-6789-abcd-ef0123456789" ∷ [])
    × (targets_of lettered_id (codes "uuid:00000000-0000-8000-8000-000000000000") ≡ [])
    × (targets_of plain_id (codes "urn:schemas-upnp-org:service:ContentDirectory:2") ≡ codes "urn:schemas-upnp-org:service:ContentDirectory:2" ∷ [])
    × (targets_of plain_id (codes "urn:schemas-upnp-org:device:MediaServer:1") ≡ codes "urn:schemas-upnp-org:device:MediaServer:1" ∷ [])
    × (targets_of plain_id (codes "urn:schemas-upnp-org:service:ContentDirectory:5") ≡ [])
    × (targets_of plain_id (codes "urn:schemas-upnp-org:service:ContentDirectory:0") ≡ [])
    × (targets_of plain_id (codes "urn:schemas-upnp-org:device:MediaServer:5") ≡ [])
    × (targets_of plain_id (codes "urn:schemas-upnp-org:device:MediaServer:0") ≡ [])
    × (targets_of plain_id (codes "urn:schemas-upnp-org:device:MediaServer:04") ≡ [])
    × (targets_of plain_id (codes "urn:schemas-upnp-org:device:MediaServer:") ≡ [])
    × (targets_of plain_id (codes "ssdp:all")
    ≡ codes "upnp:rootdevice" ∷ codes "uuid:00000000-0000-8000-8000-000000000000" ∷ codes "urn:schemas-upnp-org:device:MediaServer:4"
    ∷ codes "urn:schemas-upnp-org:service:ContentDirectory:4" ∷ [])
    × (targets_of plain_id (codes "ssdp:All") ≡ [])
    × (targets_of plain_id (codes "upnp:RootDevice") ≡ [])
    × (targets_of plain_id [] ≡ [])

-- The names of the targets.
abbrev pub TargetsAreNamed : Type 0
TargetsAreNamed =
    (usn_of plain_id (codes "upnp:rootdevice") ≡ codes "uuid:00000000-0000-8000-8000-000000000000::upnp:rootdevice")
    × (usn_of plain_id (codes "uuid:00000000-0000-8000-8000-000000000000") ≡ codes "uuid:00000000-0000-8000-8000-000000000000")
    × (usn_of plain_id (codes "urn:schemas-upnp-org:device:MediaServer:3") ≡ codes "uuid:00000000-0000-8000-8000-000000000000::urn:schemas-upnp-org:device:MediaServer:3")
    × (usn_of plain_id (codes "urn:schemas-upnp-org:service:ContentDirectory:2")
    ≡ codes "uuid:00000000-0000-8000-8000-000000000000::urn:schemas-upnp-org:service:ContentDirectory:2")

abbrev device_of : ℕ → Device
device_of boot = record { uuid = plain_id; location = codes "http://10.0.0.1:8200/device.xml"; boot = boot }

abbrev service_reply : List ℕ
service_reply =
    codes "HTTP/1.1 200 OK\r\nCACHE-CONTROL: max-age=1800\r\nEXT:\r\nLOCATION: http://10.0.0.1:8200/device.xml\r\n"
    ++ codes "SERVER: unix/1.0 UPnP/2.0 cds/1.0\r\nST: urn:schemas-upnp-org:service:ContentDirectory:2\r\n"
    ++ codes "USN: uuid:00000000-0000-8000-8000-000000000000::urn:schemas-upnp-org:service:ContentDirectory:2\r\n"
    ++ codes "BOOTID.UPNP.ORG: 1\r\n\r\n"

abbrev name_reply : List ℕ
name_reply =
    codes "HTTP/1.1 200 OK\r\nCACHE-CONTROL: max-age=1800\r\nEXT:\r\nLOCATION: http://10.0.0.1:8200/device.xml\r\n"
    ++ codes "SERVER: unix/1.0 UPnP/2.0 cds/1.0\r\nST: uuid:00000000-0000-8000-8000-000000000000\r\n"
    ++ codes "USN: uuid:00000000-0000-8000-8000-000000000000\r\nBOOTID.UPNP.ORG: 4294967295\r\n\r\n"

-- Two replies, byte for byte: of the service, and of the UUID after the last start that has a number.
abbrev pub RepliesAreWritten : Type 0
RepliesAreWritten =
    (reply_text (device_of 1) (codes "urn:schemas-upnp-org:service:ContentDirectory:2") ≡ service_reply)
    × (reply_text (device_of 4294967295) (codes "uuid:00000000-0000-8000-8000-000000000000") ≡ name_reply)

-- A search by its bytes, for the service in a version.
abbrev pub service_search : List ℕ → List ℕ
service_search version =
    codes "M-SEARCH * HTTP/1.1\r\nHOST: 239.255.255.250:1900\r\nMAN: \"ssdp:discover\"\r\nMX: 1\r\n"
    ++ codes "ST: urn:schemas-upnp-org:service:ContentDirectory:" ++ version ++ codes "\r\n\r\n"

-- A search for version 2 is one, also if more bytes come after it. Its answer is the reply above. A search for version 5
-- is one too, and has no reply.
abbrev pub SearchesAreAnswered : Type 0
SearchesAreAnswered =
    Searches (service_search (codes "2")) (codes "urn:schemas-upnp-org:service:ContentDirectory:2")
    × AnswersSearch (device_of 1) (service_search (codes "2")) [] (service_reply ∷ [])
    × AnswersSearch (device_of 1) (service_search (codes "2") ++ codes "more") [] (service_reply ∷ [])
    × Searches (service_search (codes "5")) (codes "urn:schemas-upnp-org:service:ContentDirectory:5")
    × AnswersSearch (device_of 1) (service_search (codes "5")) [] []

-- ---- messages

abbrev host : List ℕ × List ℕ
host = (codes "HOST", codes "239.255.255.250:1900")

abbrev discover : List ℕ × List ℕ
discover = (codes "Man", codes "\"ssdp:discover\"")

abbrev all_asked : List ℕ × List ℕ
all_asked = (codes "St", codes "ssdp:all")

abbrev search_of : List ℕ → List ℕ → List (List ℕ × List ℕ) → Message
search_of method target pairs = record { start = Request method target; fields = kept_fields pairs; body = [] }

-- A search without MX, one with MX, and one without HOST. Another method, this one in other letters, and another target.
-- MAN missing, twice, without its quotes, in other letters. ST missing, twice. A reply with such fields.
abbrev pub SearchesAreRead : Type 0
SearchesAreRead =
    (asked_by (search_of (codes "M-SEARCH") (codes "*") (host ∷ discover ∷ all_asked ∷ [])) ≡ Some (codes "ssdp:all"))
    × (asked_by (search_of (codes "M-SEARCH") (codes "*") (host ∷ discover ∷ (codes "MX", codes "1") ∷ all_asked ∷ [])) ≡ Some (codes "ssdp:all"))
    × (asked_by (search_of (codes "M-SEARCH") (codes "*") (discover ∷ all_asked ∷ [])) ≡ Some (codes "ssdp:all"))
    × (asked_by (search_of (codes "NOTIFY") (codes "*") (host ∷ discover ∷ all_asked ∷ [])) ≡ None)
    × (asked_by (search_of (codes "m-search") (codes "*") (host ∷ discover ∷ all_asked ∷ [])) ≡ None)
    × (asked_by (search_of (codes "M-SEARCH") (codes "/") (host ∷ discover ∷ all_asked ∷ [])) ≡ None)
    × (asked_by (search_of (codes "M-SEARCH") (codes "*") (host ∷ all_asked ∷ [])) ≡ None)
    × (asked_by (search_of (codes "M-SEARCH") (codes "*") (discover ∷ discover ∷ all_asked ∷ [])) ≡ None)
    × (asked_by (search_of (codes "M-SEARCH") (codes "*") ((codes "MAN", codes "ssdp:discover") ∷ all_asked ∷ [])) ≡ None)
    × (asked_by (search_of (codes "M-SEARCH") (codes "*") ((codes "MAN", codes "\"SSDP:Discover\"") ∷ all_asked ∷ [])) ≡ None)
    × (asked_by (search_of (codes "M-SEARCH") (codes "*") (host ∷ discover ∷ [])) ≡ None)
    × (asked_by (search_of (codes "M-SEARCH") (codes "*") (all_asked ∷ discover ∷ (codes "ST", codes "upnp:rootdevice") ∷ [])) ≡ None)
    × (asked_by (record { start = Reply 200; fields = kept_fields (discover ∷ all_asked ∷ []); body = [] }) ≡ None)

abbrev root_found : List ℕ × List ℕ
root_found = (codes "ST", codes "upnp:rootdevice")

abbrev name_found : List ℕ × List ℕ
name_found = (codes "USN", codes "uuid:a")

abbrev place_found : List ℕ × List ℕ
place_found = (codes "LOCATION", codes "http://10.0.0.1:8200/device.xml")

abbrev reply_of : ℕ → List (List ℕ × List ℕ) → Message
reply_of status pairs = record { start = Reply status; fields = kept_fields pairs; body = [] }

-- What a reply tells of, with the text of its location.
abbrev told_in : Message → Option (List ℕ × List ℕ × List ℕ)
told_in message = option_map (λ found. (found.target, found.usn, serialize found.location)) (found_in message)

-- Replies that tell of something, with their fields in any order and others beside them. A location is read as a URL is.
abbrev pub RepliesTell : Type 0
RepliesTell =
    (told_in (reply_of 200 (root_found ∷ name_found ∷ place_found ∷ []))
    ≡ Some (codes "upnp:rootdevice", codes "uuid:a", codes "http://10.0.0.1:8200/device.xml"))
    × (told_in (reply_of 200 ((codes "Location", codes "HTTP://10.0.0.1:80") ∷ (codes "EXT", []) ∷ (codes "usn", codes "uuid:b::x") ∷ (codes "st", codes "x") ∷ []))
    ≡ Some (codes "x", codes "uuid:b::x", codes "http://10.0.0.1/"))
    × (told_in (reply_of 200 (root_found ∷ name_found ∷ (codes "LOCATION", codes "https://10.0.0.1/device.xml") ∷ [])) ≡ None)
    × (told_in (reply_of 200 (root_found ∷ name_found ∷ (codes "LOCATION", codes "/device.xml") ∷ [])) ≡ None)

-- The letter `a` this many times.
abbrev letters : ℕ → List ℕ
letters zero = []
letters (suc n) = 97 ∷ letters n

-- Texts that may be a location: also with the first and the last visible byte, and of 4,096 bytes. Texts that may not:
-- another scheme, no address, no host, a blank, nothing, a control byte, bytes beyond ASCII, 4,097 bytes.
abbrev pub LocationsAreAddresses : Type 0
LocationsAreAddresses =
    (is_location (codes "http://10.0.0.1:8200/device.xml") ≡ true)
    × (is_location (codes "http://[fe80::1]:8200/device.xml") ≡ true)
    × (is_location (codes "http://10.0.0.1/!~") ≡ true)
    × (is_location (codes "http://10.0.0.1/" ++ letters 4080) ≡ true)
    × (is_location (codes "https://10.0.0.1:8200/device.xml") ≡ false)
    × (is_location (codes "/device.xml") ≡ false)
    × (is_location (codes "http://") ≡ false)
    × (is_location (codes "http://10.0.0.1:8200/a b") ≡ false)
    × (is_location [] ≡ false)
    × (is_location (codes "http://10.0.0.1/" ++ 127 ∷ []) ≡ false)
    × (is_location (codes "http://10.0.0.1/" ++ 195 ∷ 169 ∷ []) ≡ false)
    × (is_location (codes "http://10.0.0.1/" ++ letters 4081) ≡ false)

-- Replies that tell of nothing: another status, a field that is missing, comes twice or is no UTF-8.
abbrev pub OthersTellNothing : Type 0
OthersTellNothing =
    (found_in (reply_of 404 (root_found ∷ name_found ∷ place_found ∷ [])) ≡ None)
    × (found_in (reply_of 200 (name_found ∷ place_found ∷ [])) ≡ None)
    × (found_in (reply_of 200 (root_found ∷ root_found ∷ name_found ∷ place_found ∷ [])) ≡ None)
    × (found_in (reply_of 200 (root_found ∷ place_found ∷ [])) ≡ None)
    × (found_in (reply_of 200 (root_found ∷ name_found ∷ name_found ∷ place_found ∷ [])) ≡ None)
    × (found_in (reply_of 200 ((codes "ST", 255 ∷ []) ∷ name_found ∷ place_found ∷ [])) ≡ None)
    × (found_in (reply_of 200 (root_found ∷ (codes "USN", 255 ∷ []) ∷ place_found ∷ [])) ≡ None)
    × (found_in (reply_of 200 (root_found ∷ name_found ∷ (codes "LOCATION", 255 ∷ []) ∷ [])) ≡ None)
    × (found_in (reply_of 200 (root_found ∷ name_found ∷ [])) ≡ None)
    × (found_in (reply_of 200 (root_found ∷ name_found ∷ place_found ∷ place_found ∷ [])) ≡ None)
    × (found_in (search_of (codes "M-SEARCH") (codes "*") (root_found ∷ name_found ∷ place_found ∷ [])) ≡ None)

-- The description of a device, byte for byte, and the length of that of the service, whose bytes `write_service` has.
abbrev pub DescriptionsAreWritten : Type 0
DescriptionsAreWritten =
    (device_text plain_id
    ≡ codes "<?xml version=\"1.0\"?><root xmlns=\"urn:schemas-upnp-org:device-1-0\"><specVersion><major>2</major><minor>0</minor></specVersion>"
    ++ codes "<device><deviceType>urn:schemas-upnp-org:device:MediaServer:4</deviceType><friendlyName>cds</friendlyName>"
    ++ codes "<manufacturer>cds</manufacturer><modelName>cds</modelName><UDN>uuid:00000000-0000-8000-8000-000000000000</UDN><serviceList>"
    ++ codes "<service><serviceType>urn:schemas-upnp-org:service:ContentDirectory:4</serviceType>"
    ++ codes "<serviceId>urn:upnp-org:serviceId:ContentDirectory</serviceId><SCPDURL>/cds.xml</SCPDURL><controlURL>/control</controlURL>"
    ++ codes "<eventSubURL>/event</eventSubURL></service></serviceList></device></root>")
    × (length service_text ≡ 2312)
