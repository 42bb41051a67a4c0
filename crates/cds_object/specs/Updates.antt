-- The update number of an object (UPnP ContentDirectory:4 on UpdateID, SystemUpdateID and containerUpdateID).
use Rattle.std.specs.Prelude.{ℕ, cond, nat_eq, List, Option, Some, None}
use Rattle.cds_object.specs.Object.{ObjectRow, is_folder}
use Rattle.cds_object.specs.Tree.{row_of}
use Rattle.cds_object.specs.declared.row.Trackers.{Trackers}

-- the row of a parent
abbrev pub holder_of : Option ℕ → List ObjectRow → Option ObjectRow
holder_of None rows = None
holder_of (Some parent) rows = row_of parent rows

-- The container whose changes an object's update number tells of: a container itself, and the parent of a track.
abbrev pub told_of : ObjectRow → List ObjectRow → Option ObjectRow
told_of row rows = cond (is_folder row.content) (Some row) (holder_of row.parent rows)

abbrev pub container_update_in : Option Trackers → ℕ
container_update_in None = 0
container_update_in (Some trackers) = trackers.container_update

abbrev pub container_update_of : Option ObjectRow → ℕ
container_update_of None = 0
container_update_of (Some row) = container_update_in row.trackers

-- The update number of an object. For the root it is the server's number, for another container its containerUpdateID, and for a
-- track that of its parent. It is 0 if the parent has no row of a container.
abbrev pub update_of : ℕ → ObjectRow → List ObjectRow → ℕ
update_of number row rows = cond (nat_eq row.id 0) number (container_update_of (told_of row rows))
