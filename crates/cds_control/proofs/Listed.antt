-- Every property is listed.
use Rattle.std.proofs.Common.{inl, inr, refl}
use Rattle.cds_criteria.specs.Sorting.{sortable}
use Rattle.cds_criteria.specs.declared.property.Property.{Property}
use Rattle.cds_criteria.specs.declared.property.Property.TheVariants as named
use Rattle.cds_criteria.specs.declared.sort.SortProperty.{SortProperty}
use Rattle.cds_criteria.specs.declared.sort.SortProperty.TheVariants as sorted
use Rattle.cds_control.specs.Capabilities.{Has, searchable}
use Rattle.cds_control.specs.Laws.{capabilities_are_whole}

searched : (property : Property) → Has property searchable
searched named.Id = inl refl
searched named.ParentId = inr (inl refl)
searched named.Title = inr (inr (inl refl))
searched named.Class = inr (inr (inr (inl refl)))
searched named.Artist = inr (inr (inr (inr (inl refl))))
searched named.Album = inr (inr (inr (inr (inr (inl refl)))))
searched named.Genre = inr (inr (inr (inr (inr (inr (inl refl))))))
searched named.TrackNumber = inr (inr (inr (inr (inr (inr (inr (inl refl)))))))
searched named.ObjectUpdate = inr (inr (inr (inr (inr (inr (inr (inr (inl refl))))))))
searched named.ContainerUpdate = inr (inr (inr (inr (inr (inr (inr (inr (inr (inl refl)))))))))
searched named.Size = inr (inr (inr (inr (inr (inr (inr (inr (inr (inr (inl refl))))))))))
searched named.Duration = inr (inr (inr (inr (inr (inr (inr (inr (inr (inr (inr (inl refl)))))))))))

by-sort : (property : SortProperty) → Has property sortable
by-sort sorted.Title = inl refl
by-sort sorted.Artist = inr (inl refl)
by-sort sorted.Album = inr (inr (inl refl))
by-sort sorted.Genre = inr (inr (inr (inl refl)))
by-sort sorted.TrackNumber = inr (inr (inr (inr (inl refl))))
by-sort sorted.ObjectUpdate = inr (inr (inr (inr (inr (inl refl)))))

pub listed : capabilities_are_whole
listed = (searched, by-sort)
