-- Rows in the order of sort keys, criteria against rows, and descendants, evaluated from the definitions.
use Rattle.std.specs.Prelude.{◌≡◌, ℕ, Bool, true, false, List, [], ◌∷◌, map, codes, Some, None, Option, Result, Ok, Err}
use Rattle.cds_object.specs.Object.{ObjectRow}
use Rattle.cds_object.specs.Tree.{children_of}
use Rattle.cds_object.specs.declared.content.Content.TheVariants.{Folder, Track}
use Rattle.cds_criteria.specs.Criteria.{Criteria}
use Rattle.cds_criteria.specs.Meaning.{meets}
use Rattle.cds_criteria.specs.Reading.{criteria_read}
use Rattle.cds_criteria.specs.Sorting.{SortKey, keys_read, ordered}
use Rattle.cds_criteria.specs.Descendants.{descendants}

abbrev folder : ℕ → Option ℕ → List ℕ → ℕ → ℕ → ObjectRow
folder id parent title update container_update = record {
  id = id;
  parent = parent;
  content = Folder title;
  object_update = update;
  trackers = Some (record { container_update = container_update; child_count = 1; deleted = 0 });
}

abbrev track : ℕ → ℕ → List ℕ → ℕ → ObjectRow
track id parent title update = record {
  id = id;
  parent = Some parent;
  content = Track (record {
    title = title;
    artist = None;
    album = Some (codes "Blue");
    genre = None;
    number = Some 7;
    size = 1000;
    duration = Some 10000;
    rate = 44100;
    channels = 2;
    bits = 16;
  });
  object_update = update;
  trackers = None;
}

-- a folder and a track in it
abbrev third : List ObjectRow
third = folder 0 None (codes "root") 0 1 ∷ folder 1 (Some 0) (codes "Rock") 1 2 ∷ track 2 1 (codes "a") 2 ∷ []

-- a track and a folder beside each other
abbrev tenth : List ObjectRow
tenth = folder 0 None (codes "root") 0 4 ∷ track 2 0 (codes "y") 2 ∷ folder 3 (Some 0) (codes "x.flac") 4 4 ∷ []

abbrev sorted_ids : Result (List SortKey) ℕ → List ObjectRow → Option (List ℕ)
sorted_ids (Err at) rows = None
sorted_ids (Ok keys) rows = Some (map (λ (r : ObjectRow). r.id) (ordered keys rows))

abbrev pub RowsAreSorted : Type 0
RowsAreSorted =
    (sorted_ids (keys_read (codes "-dc:title")) (children_of 0 tenth) ≡ Some (2 ∷ 3 ∷ []))
    × (sorted_ids (keys_read (codes "+dc:title")) (children_of 0 tenth) ≡ Some (3 ∷ 2 ∷ []))
    × (sorted_ids (keys_read []) (children_of 0 tenth) ≡ Some (2 ∷ 3 ∷ []))
    -- the folder lacks an album: it is first, and last if the key falls
    × (sorted_ids (keys_read (codes "+upnp:album")) (children_of 0 tenth) ≡ Some (3 ∷ 2 ∷ []))
    × (sorted_ids (keys_read (codes "-upnp:album")) (children_of 0 tenth) ≡ Some (2 ∷ 3 ∷ []))
    -- both lack an artist: by ids, whether the key rises or falls
    × (sorted_ids (keys_read (codes "-upnp:artist")) (children_of 0 tenth) ≡ Some (2 ∷ 3 ∷ []))
    -- sorting does not fold
    × (sorted_ids (keys_read (codes "+dc:title")) (track 1 0 (codes "b") 1 ∷ track 2 0 (codes "B") 2 ∷ []) ≡ Some (2 ∷ 1 ∷ []))

-- ---- criteria against a row

abbrev met_by : Result Criteria ℕ → ObjectRow → Option Bool
met_by (Err at) row = None
met_by (Ok criteria) row = Some (meets criteria row)

abbrev of_item : List ℕ → Option Bool
of_item text = met_by (criteria_read text) (track 2 1 (codes "aB.c") 12)

abbrev of_root : List ℕ → Option Bool
of_root text = met_by (criteria_read text) (folder 0 None (codes "root") 0 1)

abbrev pub CriteriaAreMet : Type 0
CriteriaAreMet =
    (of_item (codes "dc:title = \"Ab.C\"") ≡ Some true)
    × (of_item (codes "dc:title != \"Ab.C\"") ≡ Some false)
    × (of_item (codes "dc:title < \"AC\"") ≡ Some true)
    × (of_item (codes "dc:title contains \"B.\"") ≡ Some true)
    × (of_item (codes "dc:title contains \"\"") ≡ Some true)
    × (of_item (codes "dc:title doesNotContain \"x\"") ≡ Some true)
    × (of_item (codes "dc:title derivedfrom \"AB\"") ≡ Some true)
    × (of_item (codes "dc:title derivedfrom \"A\"") ≡ Some false)
    × (of_item (codes "upnp:class derivedfrom \"object.ITEM.audioItem\"") ≡ Some true)
    × (of_item (codes "upnp:artist doesNotContain \"x\"") ≡ Some false)
    × (of_item (codes "upnp:artist exists false") ≡ Some true)
    × (of_item (codes "upnp:artist != \"x\"") ≡ Some false)
    × (of_item (codes "res@size > \"999\"") ≡ Some true)
    × (of_item (codes "res@size > \"99x\"") ≡ Some false)
    × (of_item (codes "res@size != \"99x\"") ≡ Some false)
    × (of_item (codes "res@size = \"01000\"") ≡ Some true)
    × (of_item (codes "res@size < \"18446744073709551615\"") ≡ Some true)
    × (of_item (codes "res@size < \"18446744073709551616\"") ≡ Some false)
    × (of_item (codes "res@size contains \"00\"") ≡ Some true)
    × (of_item (codes "res@size doesNotContain \"x\"") ≡ Some true)
    × (of_item (codes "upnp:originalTrackNumber derivedfrom \"7\"") ≡ Some true)
    × (of_item (codes "upnp:objectUpdateID >= \"12\"") ≡ Some true)
    × (of_item (codes "upnp:containerUpdateID exists true") ≡ Some false)
    × (of_item (codes "res@duration = \"0:00:10.000\"") ≡ Some true)
    × (of_item (codes "@id = \"2\" and @parentID = \"1\"") ≡ Some true)
    × (of_item (codes "@id = \"02\"") ≡ Some false)
    × (of_root (codes "@parentID = \"-1\"") ≡ Some true)
    × (of_root (codes "res@size exists true or upnp:containerUpdateID = \"1\"") ≡ Some true)
    × (of_root (codes "dc:title = \"x\" and dc:title = \"root\" or dc:title = \"ROOT\"") ≡ Some true)
    × (of_root (codes "dc:title = \"x\" and (dc:title = \"root\" or dc:title = \"ROOT\")") ≡ Some false)

-- ---- rows that are no tree

abbrev ids_of : List ObjectRow → List ℕ
ids_of rows = map (λ (r : ObjectRow). r.id) rows

abbrev pub DescendantsAreFound : Type 0
DescendantsAreFound =
    (ids_of (descendants 0 third) ≡ 1 ∷ 2 ∷ [])
    × (ids_of (descendants 1 third) ≡ 2 ∷ [])
    -- a row whose parent has a greater id, one whose parent has no row, and one under a track
    × (ids_of (descendants 0 (folder 0 None [] 0 1 ∷ track 1 5 [] 1 ∷ track 2 9 [] 1 ∷ folder 5 (Some 0) [] 1 1 ∷ track 7 1 [] 1 ∷ []))
    ≡ 1 ∷ 5 ∷ 7 ∷ [])
    -- two rows in a circle: no parents lead out of it
    × (ids_of (descendants 0 (folder 0 None [] 0 1 ∷ folder 1 (Some 2) [] 1 1 ∷ folder 2 (Some 1) [] 1 1 ∷ [])) ≡ [])
    -- a container in a circle is not its own descendant, the other row is
    × (ids_of (descendants 1 (folder 0 None [] 0 1 ∷ folder 1 (Some 2) [] 1 1 ∷ folder 2 (Some 1) [] 1 1 ∷ [])) ≡ 2 ∷ [])
