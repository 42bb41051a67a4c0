-- How replies to searches are written (UPnP Device Architecture 2.0 on the response to M-SEARCH). A reply holds for half
-- an hour, which is this project's profile.
use Rattle.std.specs.Prelude.{ℕ, if◌then◌else◌, List, ◌++◌, Option, Some, None, codes}
use Rattle.std.specs.Fmt.{decimal}
use Rattle.cds_http.specs.Written.{line_break, field_line}
use Rattle.cds_ssdp.specs.declared.device.Device.{Device}
use Rattle.cds_ssdp.specs.Location.{is_location}
use Rattle.cds_ssdp.specs.Targets.{usn_of}

-- The device of a UUID whose description is at a location, if the text is one.
abbrev pub device_at : List ℕ → List ℕ → ℕ → Option Device
device_at id address number = if is_location address then Some (record { uuid = id; location = address; boot = number }) else None

-- The first lines of all replies.
unfoldable pub first_lines : List ℕ
first_lines =
    codes "HTTP/1.1 200 OK" ++ line_break ++ field_line (codes "CACHE-CONTROL") (codes "max-age=1800") ++ codes "EXT:" ++ line_break

-- The lines before ST, with the address of the description.
unfoldable pub start_lines : List ℕ → List ℕ
start_lines address =
    first_lines ++ field_line (codes "LOCATION") address ++ field_line (codes "SERVER") (codes "unix/1.0 UPnP/2.0 cds/1.0")

-- The lines after USN, with the number of the device's start, and the empty line.
unfoldable pub last_lines : ℕ → List ℕ
last_lines number = field_line (codes "BOOTID.UPNP.ORG") (decimal number) ++ line_break

-- The reply that tells of a target of a device.
unfoldable pub reply_text : Device → List ℕ → List ℕ
reply_text device asked =
    start_lines device.location ++ field_line (codes "ST") asked ++ field_line (codes "USN") (usn_of device.uuid asked)
    ++ last_lines device.boot
