-- What a scan finds, place by place, and in which order (this project's profile of the changes of a scan).
use Rattle.std.specs.Prelude.{◌≡◌, ℕ, true, false, cond, List, [], ◌∷◌, ◌++◌, filter, map, reverse, Option, Some, None, IsTrue}
use Rattle.std.specs.List.{AllByRecursion}
use Rattle.std.specs.Ordering.{is_lt}
use Rattle.cds_object.specs.Path.{path_cmp, same_path}
use Rattle.cds_object.specs.Content.{same_content, same_kind}
use Rattle.cds_object.specs.declared.content.Content.{Content}
use Rattle.cds_catalog.specs.Library.{FolderMap, content_at, found}
use Rattle.cds_catalog.specs.History.{place_of, is_deletion}
use Rattle.cds_catalog.specs.Laws.{IsLibrary}
use Rattle.cds_catalog.specs.declared.change.Change.{Change}
use Rattle.cds_catalog.specs.declared.change.Change.TheVariants.{Deletion, Addition, Modification}

-- the changes that a place is owed by what stood there and what stands there now, the newest first. What is there no more is
-- deleted, and what is new is added. What stays of its kind is modified if and only if it says something else. A track that
-- becomes a folder, or the other way, is deleted and added
abbrev pub owed_at : List (List ℕ) → Option Content → Option Content → List Change
owed_at path None None = []
owed_at path None (Some now) = Addition path now ∷ []
owed_at path (Some before) None = Deletion path ∷ []
owed_at path (Some before) (Some now) =
    cond (same_kind before now)
    (cond (same_content before now) [] (Modification path now ∷ []))
    (Addition path now ∷ Deletion path ∷ [])

-- the changes at a place
abbrev pub changes_at : List (List ℕ) → List Change → List Change
changes_at path changes = filter (λ change. same_path path (place_of change)) changes

-- a scan finds at each place exactly the changes that it is owed
abbrev pub scans_find_what_changed : Type 0
scans_find_what_changed = (old new : FolderMap) → IsLibrary old → IsLibrary new → (path : List (List ℕ)) →
    changes_at path (found old new) ≡ owed_at path (content_at old path) (content_at new path)

-- places rise strictly
abbrev pub PlacesRise : List (List (List ℕ)) → Type 0
PlacesRise [] = Unit {0}
PlacesRise (path ∷ []) = Unit {0}
PlacesRise (path ∷ next ∷ others) = IsTrue (is_lt (path_cmp path next)) × PlacesRise (next ∷ others)

-- the changes of a scan in the order in which they are made: first the deletions, whose places fall strictly, and then the
-- others, whose places rise strictly
pub record AreInOrder (changes : List Change) : Type 0 where
  pub deletions : List Change
  pub others : List Change
  pub parts : changes ≡ deletions ++ others
  pub gone : AllByRecursion (λ change. is_deletion change ≡ true) deletions
  pub come : AllByRecursion (λ change. is_deletion change ≡ false) others
  pub fall : PlacesRise (reverse (map place_of deletions))
  pub rise : PlacesRise (map place_of others)

abbrev pub scans_find_in_order : Type 0
scans_find_in_order = (old new : FolderMap) → IsLibrary old → IsLibrary new → AreInOrder (reverse (found old new))
