-- Which events are marked as parts of a subtree update, and after which of them its end is told (this project's profile of UPnP
-- ContentDirectory:4 on LastChange). It is said of the folders that a scan adds or deletes with something below them.
use Rattle.std.specs.Prelude.{◌≡◌, ◌&&◌, ℕ, Bool, true, false, cond, List, [], ◌∷◌, ◌++◌}
use Rattle.std.specs.List.{AllByRecursion, list_any}
use Rattle.cds_object.specs.declared.event.Event.TheVariants.{StDone}
use Rattle.cds_catalog.specs.Library.{FolderMap, found}
use Rattle.cds_catalog.specs.History.{place_of}
use Rattle.cds_catalog.specs.Catalog.{id_of}
use Rattle.cds_catalog.specs.Laws.{IsLibrary}
use Rattle.cds_catalog.specs.declared.change.Change.{Change}
use Rattle.cds_changes.specs.Events.{gathers, heads, is_within, is_in_subtree, heads_done, done_events}

-- whether a change lies at or below a folder that the scan added (or deleted, as the change does) with something below it
abbrev pub lies_under_folder : List Change → Change → Bool
lies_under_folder scan change = list_any (λ folder. gathers scan folder && is_within folder change) scan

-- a change is marked if and only if it is such a change
abbrev pub marks_lie_under_folders : Type 0
marks_lie_under_folders = (old new : FolderMap) → IsLibrary old → IsLibrary new →
    AllByRecursion (λ change. is_in_subtree (found old new) change ≡ lies_under_folder (found old new) change) (found old new)

-- what is told directly after a change of a scan, if the changes after it are the later ones. If the change is not marked,
-- nothing is told. If it belongs to the subtree update of a head and no later change does, the end of the update is told, and
-- otherwise not
pub record TellsEnd (scan later : List Change) (change : Change) : Type 0 where
  pub none : is_in_subtree scan change ≡ false → (number : ℕ) (changes : List Change) → done_events number changes (heads_done scan change) ≡ []
  pub one : AllByRecursion (λ head. heads scan head ≡ true → is_within head change ≡ true → (number : ℕ) (changes : List Change) →
      done_events number changes (heads_done scan change)
      ≡ cond (list_any (is_within head) later) [] (StDone (id_of changes (place_of head)) number ∷ [])) scan

-- so each head has one such event, directly after its last marked event, and nothing else has one
abbrev pub ends_are_told_once : Type 0
ends_are_told_once = (old new : FolderMap) → IsLibrary old → IsLibrary new → (later earlier : List Change) (change : Change) →
    found old new ≡ later ++ change ∷ earlier → TellsEnd (found old new) later change
