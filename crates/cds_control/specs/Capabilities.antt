-- What can be searched for and sorted by, as it is told (UPnP ContentDirectory:4 on SearchCapabilities and SortCapabilities).
use Rattle.std.specs.Prelude.{◌≡◌, ◌⊎◌, ℕ, List, [], ◌∷◌, map}
use Rattle.cds_criteria.specs.Criteria.{property_text}
use Rattle.cds_criteria.specs.Sorting.{parted, property_of, sortable}
use Rattle.cds_criteria.specs.declared.property.Property.{Property}
use Rattle.cds_criteria.specs.declared.property.Property.TheVariants as property
use Rattle.cds_criteria.specs.declared.sort.SortProperty.{SortProperty}

-- all properties that criteria may name
abbrev pub searchable : List Property
searchable =
    property.Id ∷ property.ParentId ∷ property.Title ∷ property.Class ∷ property.Artist ∷ property.Album ∷ property.Genre
    ∷ property.TrackNumber ∷ property.ObjectUpdate ∷ property.ContainerUpdate ∷ property.Size ∷ property.Duration ∷ []

-- their names, with a comma between each and the next
abbrev pub search_capabilities : List ℕ
search_capabilities = parted (map property_text searchable)

abbrev pub sort_name : SortProperty → List ℕ
sort_name sorted = property_text (property_of sorted)

abbrev pub sort_capabilities : List ℕ
sort_capabilities = parted (map sort_name sortable)

-- whether a list has an item
abbrev pub Has : {Item : Type 0} → Item → List Item → Type 0
Has item [] = ⊥
Has item (first ∷ others) = (item ≡ first) ⊎ Has item others
