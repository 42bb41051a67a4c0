-- The row in which a ContentDirectory shows an object (UPnP ContentDirectory:4 on the properties of objects and on the
-- tracking of changes): plain numbers, with the two facts that every row keeps.
use Rattle.std.specs.Prelude.{◌≡◌, ◌==◌, ℕ, Bool, true, false, Option, is_none, is_some}
use Rattle.cds_object.specs.declared.content.Content.{Content}
use Rattle.cds_object.specs.declared.content.Content.TheVariants.{Folder, Track}
use Rattle.cds_object.specs.declared.row.Trackers.{Trackers}

-- an object as it is shown
pub record ObjectRow : Type 0 where
  pub id : ℕ
  pub parent : Option ℕ
  pub content : Content
  pub object_update : ℕ
  pub trackers : Option Trackers

-- whether an object holds others
abbrev pub is_folder : Content → Bool
is_folder (Folder title) = true
is_folder (Track track) = false

-- only the root has no parent, and exactly the folders track their children
pub record IsRow (row : ObjectRow) : Type 0 where
  pub rooted : is_none row.parent ≡ (row.id == 0)
  pub tracked : is_some row.trackers ≡ is_folder row.content
