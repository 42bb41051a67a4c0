-- What is published: all that a control request can ask for (UPnP ContentDirectory:4).
use Rattle.std.specs.Prelude.{ℕ, List}
use Rattle.cds_object.specs.Object.{ObjectRow}

-- the reset token (UPnP ContentDirectory:4 on ServiceResetToken), the number of the last change (UPnP ContentDirectory:4 on
-- SystemUpdateID), and the rows of all objects in ascending order of ids
pub record Published : Type 0 where
  pub token : List ℕ
  pub number : ℕ
  pub rows : List ObjectRow
