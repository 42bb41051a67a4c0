-- Pages of small catalogs, evaluated from the definitions.
use Rattle.std.specs.Prelude.{◌≡◌, ℕ, List, [], ◌∷◌, codes, Option, Some, None, Ok, Err}
use Rattle.cds_object.specs.Object.{ObjectRow}
use Rattle.cds_object.specs.declared.content.Content.TheVariants.{Folder, Track}
use Rattle.cds_soap.specs.declared.action.BrowseRequest.{BrowseRequest}
use Rattle.cds_soap.specs.declared.action.SearchRequest.{SearchRequest}
use Rattle.cds_browse.specs.declared.error.BrowseError.TheVariants.{InvalidArgs, NoObject, NoContainer, BadCriteria, BadSort}
use Rattle.cds_browse.specs.Browsing.{browse_answer}
use Rattle.cds_browse.specs.Searching.{search_answer}

abbrev folder : ℕ → Option ℕ → List ℕ → ℕ → ℕ → ℕ → ObjectRow
folder id parent title update container_update child_count = record {
  id = id;
  parent = parent;
  content = Folder title;
  object_update = update;
  trackers = Some (record { container_update = container_update; child_count = child_count; deleted = 0 });
}

abbrev track : ℕ → ℕ → List ℕ → ℕ → ObjectRow
track id parent title update = record {
  id = id;
  parent = Some parent;
  content = Track (record {
    title = title;
    artist = None;
    album = None;
    genre = None;
    number = None;
    size = 1000;
    duration = Some 10000;
    rate = 44100;
    channels = 2;
    bits = 16;
  });
  object_update = update;
  trackers = None;
}

-- the root, a folder in it, and a track in the folder
abbrev small : List ObjectRow
small = folder 0 None (codes "root") 0 1 1 ∷ folder 1 (Some 0) (codes "Rock") 1 2 1 ∷ track 2 1 (codes "a") 2 ∷ []

-- a track and a folder beside each other
abbrev beside : List ObjectRow
beside = folder 0 None (codes "root") 0 4 2 ∷ track 2 0 (codes "y") 2 ∷ folder 3 (Some 0) (codes "x.flac") 4 4 0 ∷ []

-- a copy in which the folder of a track has no row
abbrev torn : List ObjectRow
torn = folder 0 None (codes "root") 0 4 2 ∷ track 2 1 (codes "a") 2 ∷ track 3 0 (codes "b") 4 ∷ []

abbrev asked : List ℕ → List ℕ → ℕ → ℕ → List ℕ → BrowseRequest
asked object flag start count sort = record { object = object; flag = flag; filter = codes "*"; start = start; count = count; sort = sort }

abbrev pub PagesAreCounted : Type 0
PagesAreCounted =
    (browse_answer 2 small (asked (codes "0") (codes "BrowseDirectChildren") 5 0 []) ≡ Ok (record { ids = []; total = 1; update = 2 }))
    × (browse_answer 2 small (asked (codes "0") (codes "BrowseDirectChildren") 0 0 []) ≡ Ok (record { ids = 1 ∷ []; total = 1; update = 2 }))
    × (browse_answer 2 small (asked (codes "1") (codes "BrowseDirectChildren") 0 1 []) ≡ Ok (record { ids = 2 ∷ []; total = 1; update = 2 }))
    × (browse_answer 2 small (asked (codes "2") (codes "BrowseMetadata") 0 0 []) ≡ Ok (record { ids = 2 ∷ []; total = 1; update = 2 }))
    × (browse_answer 2 small (asked (codes "0") (codes "Browse") 0 0 []) ≡ Err InvalidArgs)
    × (browse_answer 2 small (asked (codes "0") (codes "BrowseMetadata") 1 0 []) ≡ Err InvalidArgs)
    × (browse_answer 2 small (asked (codes "x") (codes "BrowseMetadata") 0 0 []) ≡ Err NoObject)
    × (browse_answer 2 small (asked (codes "01") (codes "BrowseMetadata") 0 0 []) ≡ Err NoObject)
    × (browse_answer 2 small (asked (codes "3") (codes "BrowseDirectChildren") 0 0 []) ≡ Err NoObject)
    × (browse_answer 2 small (asked (codes "2") (codes "BrowseDirectChildren") 0 0 []) ≡ Err NoContainer)
    × (browse_answer 2 small (asked (codes "0") (codes "BrowseDirectChildren") 0 0 (codes "dc:title")) ≡ Err (BadSort 0))

abbrev children_by : List ℕ → BrowseRequest
children_by sort = asked (codes "0") (codes "BrowseDirectChildren") 0 0 sort

abbrev pub PagesAreSorted : Type 0
PagesAreSorted =
    (browse_answer 4 beside (children_by (codes "-dc:title")) ≡ Ok (record { ids = 2 ∷ 3 ∷ []; total = 2; update = 4 }))
    × (browse_answer 4 beside (children_by (codes "+dc:title")) ≡ Ok (record { ids = 3 ∷ 2 ∷ []; total = 2; update = 4 }))
    × (browse_answer 4 beside (children_by []) ≡ Ok (record { ids = 2 ∷ 3 ∷ []; total = 2; update = 4 }))
    -- the page is cut after the rows are in their order
    × (browse_answer 4 beside (asked (codes "0") (codes "BrowseDirectChildren") 1 1 (codes "+dc:title"))
    ≡ Ok (record { ids = 2 ∷ []; total = 2; update = 4 }))
    -- both lack an artist, so ids decide, also if the key falls
    × (browse_answer 4 beside (children_by (codes "-upnp:artist,+upnp:genre")) ≡ Ok (record { ids = 2 ∷ 3 ∷ []; total = 2; update = 4 }))
    × (browse_answer 4 beside (children_by (codes "+dc:title,dc:title")) ≡ Err (BadSort 10))
    -- the sort criteria of one row are read, too
    × (browse_answer 4 beside (asked (codes "2") (codes "BrowseMetadata") 0 0 (codes "dc:title")) ≡ Err (BadSort 0))
    × (browse_answer 4 beside (asked (codes "2") (codes "BrowseMetadata") 0 0 (codes "-dc:title"))
    ≡ Ok (record { ids = 2 ∷ []; total = 1; update = 4 }))

abbrev wanted : List ℕ → List ℕ → ℕ → ℕ → List ℕ → SearchRequest
wanted container criteria start count sort =
    record { container = container; criteria = criteria; filter = codes "*"; start = start; count = count; sort = sort }

abbrev pub SearchesAreAnswered : Type 0
SearchesAreAnswered =
    (search_answer 2 small (wanted (codes "0") (codes "upnp:class derivedfrom \"object.item\" and dc:title contains \"A\"") 0 0 [])
    ≡ Ok (record { ids = 2 ∷ []; total = 1; update = 2 }))
    × (search_answer 2 small (wanted (codes "9") (codes "*") 0 0 []) ≡ Err NoContainer)
    × (search_answer 2 small (wanted (codes "2") (codes "*") 0 0 []) ≡ Err NoContainer)
    × (search_answer 2 small (wanted (codes "0") (codes "dc:title = Rock") 0 0 []) ≡ Err (BadCriteria 11))
    × (search_answer 2 small (wanted (codes "0") (codes "*") 0 0 (codes "dc:title")) ≡ Err (BadSort 0))
    -- the first check that fails decides
    × (search_answer 2 small (wanted (codes "2") (codes "dc:title = Rock") 0 0 (codes "dc:title")) ≡ Err NoContainer)
    × (search_answer 2 small (wanted (codes "0") (codes "dc:title = Rock") 0 0 (codes "dc:title")) ≡ Err (BadCriteria 11))
    -- all descendants, but not the container itself; the update number is that of the container
    × (search_answer 2 small (wanted (codes "0") (codes "*") 0 0 []) ≡ Ok (record { ids = 1 ∷ 2 ∷ []; total = 2; update = 2 }))
    × (search_answer 5 small (wanted (codes "0") (codes "*") 0 1 (codes "+dc:title")) ≡ Ok (record { ids = 1 ∷ []; total = 2; update = 5 }))
    × (search_answer 5 small (wanted (codes "0") (codes "*") 0 0 (codes "-dc:title")) ≡ Ok (record { ids = 2 ∷ 1 ∷ []; total = 2; update = 5 }))
    × (search_answer 5 small (wanted (codes "1") (codes "*") 0 0 []) ≡ Ok (record { ids = 2 ∷ []; total = 1; update = 2 }))
    -- a place after the last match
    × (search_answer 2 small (wanted (codes "0") (codes "*") 5 0 []) ≡ Ok (record { ids = []; total = 2; update = 2 }))
    -- a folder lacks an artist, so no comparison of it is true
    × (search_answer 2 small (wanted (codes "0") (codes "upnp:artist != \"x\"") 0 0 []) ≡ Ok (record { ids = []; total = 0; update = 2 }))

abbrev pub LackingParents : Type 0
LackingParents =
    (browse_answer 4 torn (asked (codes "2") (codes "BrowseMetadata") 0 0 []) ≡ Ok (record { ids = 2 ∷ []; total = 1; update = 0 }))
    × (browse_answer 4 torn (asked (codes "3") (codes "BrowseMetadata") 0 0 []) ≡ Ok (record { ids = 3 ∷ []; total = 1; update = 4 }))
    × (browse_answer 4 torn (asked (codes "1") (codes "BrowseDirectChildren") 0 0 []) ≡ Err NoObject)
    × (search_answer 4 torn (wanted (codes "0") (codes "*") 0 0 []) ≡ Ok (record { ids = 3 ∷ []; total = 1; update = 4 }))
