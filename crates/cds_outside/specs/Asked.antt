-- The words of the outside: what it is asked for, and how its calls end.
use Rattle.std.specs.Prelude.{◌≡◌, ℕ, Bool, true, false, Result, Ok, Err, List}
use Rattle.cds_outside.specs.declared.exterior.OutsideFault.{OutsideFault}
use Rattle.cds_outside.specs.declared.exterior.OutsideFault.TheVariants.{Failed, Mem}
use Rattle.cds_outside.specs.Outside.{Rose}

-- What the outside was asked for: a folder at a path, a link, a clock, a door at a port, a spawner, or the datagrams of a port.
pub data Asked : Type 0 where
  ForFolder : List ℕ → Asked
  ForLink : Asked
  ForClock : Asked
  ForDoor : ℕ → Asked
  ForSpawner : Asked
  ForDatagrams : ℕ → Asked

-- A count of faults after a call. If the call failed, the count rose; otherwise it stays.
abbrev pub OutsideRose : {A : Type 0} → Result A OutsideFault → ℕ → ℕ → Type 0
OutsideRose (Ok value) old new = new ≡ old
OutsideRose (Err Failed) old new = Rose old new
OutsideRose (Err Mem) old new = new ≡ old

-- Whether a call of the outside failed.
abbrev pub gave_nothing : {A : Type 0} → Result A OutsideFault → Bool
gave_nothing (Ok value) = false
gave_nothing (Err Failed) = true
gave_nothing (Err Mem) = false
