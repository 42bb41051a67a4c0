-- Which rows a replica was shown, whatever server replied and whoever sent notes.
use Rattle.std.specs.Prelude.{◌≡◌, ◌↔◌, ◌⊎◌, ℕ, true, false, List, [], ◌∷◌, ◌++◌, Some, Contains}
use Rattle.std.specs.List.{AllByRecursion}
use Rattle.cds_object.specs.Object.{ObjectRow}
use Rattle.cds_load.specs.Seen.{rows_shown, HasVersion}
use Rattle.cds_load.specs.declared.exchange.Shown.TheVariants.{Page}
use Rattle.cds_follow.specs.Copy.{Version, Reads, least_unread}
use Rattle.cds_follow.specs.Inbox.{ReplicaTurn, Begins, Shows, Requests, Accepts, Refuses, Delivers}
use Rattle.cds_follow.specs.Follow.{known_by, is_refused, copied}
use Rattle.cds_follow.specs.KnownLaws.{has_copy}

-- one reply among the turns showed an object of a row's id with its content and its objectUpdateID
abbrev pub WasShown : ObjectRow → List ReplicaTurn → Type 0
WasShown row [] = ⊥
WasShown row (Begins ∷ older) = WasShown row older
WasShown row (Shows shown ∷ older) = HasVersion row (rows_shown shown) ⊎ WasShown row older
WasShown row (Requests ∷ older) = WasShown row older
WasShown row (Accepts name ∷ older) = WasShown row older
WasShown row (Refuses ∷ older) = WasShown row older
WasShown row (Delivers note ∷ older) = WasShown row older

-- each row of a copy has the content and the objectUpdateID that one reply showed for its id: no note changes these
abbrev pub copied_rows_were_shown : Type 0
copied_rows_were_shown = (turns : List ReplicaTurn) → AllByRecursion (λ row. WasShown row turns) (copied (known_by turns))

-- a copy stands before some turns and after each of them
abbrev pub StandsThrough : List ReplicaTurn → List ReplicaTurn → Type 0
StandsThrough [] older = has_copy (known_by older).held ≡ true
StandsThrough (turn ∷ newer) older = (has_copy (known_by (turn ∷ newer ++ older)).held ≡ true) × StandsThrough newer older

-- a reply showed a version of the least object that was unread, its own row alone, and was not refused; and the copy that
-- stood before it still stands
pub record WasRead (turns : List ReplicaTurn) (id : ℕ) (version : Version) : Type 0 where
  pub newer : List ReplicaTurn
  pub older : List ReplicaTurn
  pub row : ObjectRow
  pub total : ℕ
  pub update : ℕ
  pub are : turns ≡ newer ++ Shows (Page (row ∷ []) total update) ∷ older
  pub asked : least_unread (known_by older).happenings ≡ Some id
  pub taken : is_refused (Shows (Page (row ∷ []) total update)) older ≡ false
  pub stands : StandsThrough newer (Shows (Page (row ∷ []) total update) ∷ older) × (has_copy (known_by older).held ≡ true)
  pub content : row.content ≡ version.content
  pub object_update : row.object_update ≡ version.object_update

-- what was read of a copy's objects is exactly what replies showed so since its load ended
abbrev pub reads_are_replies : Type 0
reads_are_replies = (turns : List ReplicaTurn) (id : ℕ) (version : Version) → has_copy (known_by turns).held ≡ true →
    (Contains (known_by turns).happenings (Reads id version)) ↔ WasRead turns id version
