-- A folder map whose places and contents others own.
use Rattle.std.specs.Prelude.{ℕ, List, map}
use Rattle.std.specs.Map.Iter.{deref_pair}
use denote.Ref.{Bor}
use Rattle.cds_object.specs.declared.content.Content.{Content}
use Rattle.cds_catalog.specs.Library.{FolderMap}

-- what stands at each place, as it is lent
abbrev pub LentMap : Type 0
LentMap = List (Bor (List (List ℕ)) × Bor Content)

-- the folder map that it shows
abbrev pub shown : LentMap → FolderMap
shown library = map deref_pair library
