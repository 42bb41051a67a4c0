-- The names that DIDL-Lite is written with (UPnP ContentDirectory:4 on DIDL-Lite).
use Rattle.std.specs.Prelude.{ℕ, List, codes}

-- The three namespaces.
unfoldable pub didl_space : List ℕ
didl_space = codes "urn:schemas-upnp-org:metadata-1-0/DIDL-Lite/"

unfoldable pub dc_space : List ℕ
dc_space = codes "http://purl.org/dc/elements/1.1/"

unfoldable pub upnp_space : List ℕ
upnp_space = codes "urn:schemas-upnp-org:metadata-1-0/upnp/"

-- The two classes of objects.
unfoldable pub container_class : List ℕ
container_class = codes "object.container"

unfoldable pub track_class : List ℕ
track_class = codes "object.item.audioItem.musicTrack"
