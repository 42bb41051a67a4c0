-- What a search finds, and under which names (UPnP Device Architecture 2.0 on ST and USN). The versions, and letters of a
-- UUID in either case, are this project's profile. A UUID is given by its bytes.
use Rattle.std.specs.Prelude.{ℕ, Bool, ◌||◌, if◌then◌else◌, List, [], ◌∷◌, ◌++◌, codes, bytes_eq, map}
use Rattle.std.specs.Fmt.{decimal}
use Rattle.std.specs.Char.{to_ascii_lowercase}
use Rattle.uuid.specs.Text.{hyphenated_text, lower}

-- The name of a device: `uuid:` and its UUID, hyphenated, in lower case.
unfoldable pub device_name : List ℕ → List ℕ
device_name id = codes "uuid:" ++ hyphenated_text lower id

-- The root device, and the types of the device and of its service in a version.
unfoldable pub root_device : List ℕ
root_device = codes "upnp:rootdevice"

unfoldable pub device_type : ℕ → List ℕ
device_type version = codes "urn:schemas-upnp-org:device:MediaServer:" ++ decimal version

unfoldable pub service_type : ℕ → List ℕ
service_type version = codes "urn:schemas-upnp-org:service:ContentDirectory:" ++ decimal version

-- The text is such a type in a version from 1 to 4.
abbrev pub is_in_version : (ℕ → List ℕ) → List ℕ → Bool
is_in_version type_in text =
    bytes_eq text (type_in 1) || bytes_eq text (type_in 2) || bytes_eq text (type_in 3) || bytes_eq text (type_in 4)

-- Targets that are answered as they are asked for.
abbrev pub is_itself : List ℕ → Bool
is_itself asked = bytes_eq asked root_device || is_in_version device_type asked || is_in_version service_type asked

-- Two texts of the same letters, each in either case.
abbrev pub are_same_letters : List ℕ → List ℕ → Bool
are_same_letters a b = bytes_eq (map to_ascii_lowercase a) (map to_ascii_lowercase b)

-- Every target: the root device, the UUID, the type of the device and the type of the service, both types in version 4, in this
-- order.
abbrev pub every_target : List ℕ → List (List ℕ)
every_target id = root_device ∷ device_name id ∷ device_type 4 ∷ service_type 4 ∷ []

-- What a search for a text finds, in order. The name of the device is found by its letters in either case.
abbrev pub targets_of : List ℕ → List ℕ → List (List ℕ)
targets_of id asked =
    if is_itself asked then asked ∷ []
    else if are_same_letters asked (device_name id) then device_name id ∷ []
    else if bytes_eq asked (codes "ssdp:all") then every_target id
    else []

-- The USN of a target: the name of the device, and after it the target, unless that is this name.
abbrev pub usn_of : List ℕ → List ℕ → List ℕ
usn_of id asked =
    if bytes_eq asked (device_name id) then device_name id else device_name id ++ codes "::" ++ asked
