-- The events of a span lead from the rows at its beginning to those at its end: definitions and laws.
use Rattle.std.specs.Prelude.{◌≡◌, ◌≤◌, ℕ, List, [], ◌∷◌, ◌++◌, filter, None}
use Rattle.cds_object.specs.Object.{ObjectRow, is_folder}
use Rattle.cds_object.specs.declared.event.Event.{Event}
use Rattle.cds_catalog.specs.Library.{FolderMap}
use Rattle.cds_catalog.specs.History.{end_of}
use Rattle.cds_catalog.specs.Catalog.{catalog}
use Rattle.cds_catalog.specs.Laws.{AreLibraries}
use Rattle.cds_changes.specs.Events.{events_between}
use Rattle.cds_follow.specs.Copy.{KnownRow, changed}
use Rattle.cds_follow.specs.Follow.{first_torn}
use Rattle.cds_object.specs.Events.{is_change}

-- a known row is like a row: it has its id, its parent, its kind and its trackers, whatever is known of what the object says
pub record IsLike (known : KnownRow) (row : ObjectRow) : Type 0 where
  pub id : known.id ≡ row.id
  pub parent : known.parent ≡ row.parent
  pub folder : known.folder ≡ is_folder row.content
  pub trackers : known.trackers ≡ row.trackers

abbrev pub AreLike : List KnownRow → List ObjectRow → Type 0
AreLike [] [] = Unit {0}
AreLike [] (row ∷ rows) = ⊥
AreLike (known ∷ knowns) [] = ⊥
AreLike (known ∷ knowns) (row ∷ rows) = IsLike known row × AreLike knowns rows

-- the rows after changes, the first of which is the oldest
abbrev pub changed_by : List KnownRow → List Event → List KnownRow
changed_by rows [] = rows
changed_by rows (event ∷ events) = changed_by (changed rows event) events

-- the changes of a span can all be, one by one, and lead to rows like those at its end
abbrev pub spans_lead_to_the_rows : Type 0
spans_lead_to_the_rows = (first : ℕ) (newer older : List FolderMap) (known : List KnownRow) → AreLibraries (newer ++ older) →
    end_of (record { first = first; maps = newer ++ older }) ≤ 4294967295 →
    AreLike known (catalog (record { first = first; maps = older })) →
    (first_torn known (filter is_change (events_between (record { first = first; maps = newer ++ older }) (end_of (record { first = first; maps = older })) (end_of (record { first = first; maps = newer ++ older })))) ≡ None)
    × AreLike (changed_by known (filter is_change (events_between (record { first = first; maps = newer ++ older }) (end_of (record { first = first; maps = older })) (end_of (record { first = first; maps = newer ++ older })))))
    (catalog (record { first = first; maps = newer ++ older }))
