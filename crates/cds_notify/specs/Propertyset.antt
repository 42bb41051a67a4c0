-- The one text of the body of a note: the properties SystemUpdateID, ContainerUpdateIDs and LastChange (UPnP Device
-- Architecture 2.0 on event messages; UPnP ContentDirectory:4 on these variables). The order and the spacing are this
-- project's profile.
use Rattle.std.specs.Prelude.{ℕ, List, [], ◌∷◌, ◌++◌, codes}
use Rattle.std.specs.List.{flat_map}
use Rattle.std.specs.Fmt.{decimal}
use Rattle.cds_base.specs.Escape.{escaped}
use Rattle.cds_object.specs.declared.event.Event.{Event}
use Rattle.cds_lastchange.specs.Spelled.{spelled}

-- the name of a variable, its text and its name again, in their tags, without the first `<` and the last `>`
unfoldable pub named : List ℕ → List ℕ → List ℕ
named name text = name ++ codes ">" ++ text ++ codes "</" ++ name

-- a property around the text of one variable
unfoldable pub property : List ℕ → List ℕ → List ℕ
property name text = codes "<e:property><" ++ named name text ++ codes "></e:property>"

-- a container and its update number
abbrev pub pair_text : (ℕ × ℕ) → List ℕ
pair_text pair = decimal pair.0 ++ codes "," ++ decimal pair.1

-- a further pair, after a comma
abbrev pub further_text : (ℕ × ℕ) → List ℕ
further_text pair = codes "," ++ pair_text pair

-- the pairs, separated by commas
abbrev pub pairs_text : List (ℕ × ℕ) → List ℕ
pairs_text [] = []
pairs_text (first ∷ rest) = pair_text first ++ flat_map further_text rest

abbrev pub set_opening : List ℕ
set_opening = codes "<?xml version=\"1.0\"?><e:propertyset xmlns:e=\"urn:schemas-upnp-org:event-1-0\">"

-- the number of the last change, the containers with their numbers, and the changes as an escaped StateEvent
abbrev pub propertyset_text : ℕ → List (ℕ × ℕ) → List Event → List ℕ
propertyset_text number containers events =
    set_opening ++ property (codes "SystemUpdateID") (decimal number) ++ property (codes "ContainerUpdateIDs") (pairs_text containers)
    ++ property (codes "LastChange") (escaped (spelled events)) ++ codes "</e:propertyset>"
