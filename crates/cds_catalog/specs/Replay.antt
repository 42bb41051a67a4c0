-- What stands after changes that are read one by one, and which changes may follow others: definitions that the laws use.
use Rattle.std.specs.Prelude.{◌≡◌, ℕ, Bool, true, false, cond, List, [], ◌∷◌, Option, Some, None}
use Rattle.cds_object.specs.Path.{same_path, parent_of}
use Rattle.cds_object.specs.Content.{same_kind}
use Rattle.cds_object.specs.Object.{is_folder}
use Rattle.cds_object.specs.declared.content.Content.{Content}
use Rattle.cds_catalog.specs.declared.change.Change.{Change}
use Rattle.cds_catalog.specs.declared.change.Change.TheVariants.{Deletion, Addition, Modification}

-- what stands at a place after changes, by the last one that names it
abbrev pub stands : List Change → List (List ℕ) → Option Content
stands [] path = None
stands (Deletion at ∷ older) path = cond (same_path path at) None (stands older path)
stands (Addition at content ∷ older) path = cond (same_path path at) (Some content) (stands older path)
stands (Modification at content ∷ older) path = cond (same_path path at) (Some content) (stands older path)

-- whether something that holds others stands at a place after changes; the root always does
abbrev pub holds_after : List Change → List (List ℕ) → Bool
holds_after changes [] = true
holds_after changes (name ∷ names) = folder_there (stands changes (name ∷ names))
  where
    folder_there : Option Content → Bool
    folder_there None = false
    folder_there (Some content) = is_folder content

-- whether a change may follow others. What is added did not stand, and is below what holds it. What is deleted stood, with
-- nothing below it. What is modified stood and is of the same kind
abbrev pub MayFollow : List Change → Change → Type 0
MayFollow older (Deletion at) =
    (content : Content) × (stands older at ≡ Some content)
    × ((path : List (List ℕ)) → same_path path [] ≡ false → same_path at (parent_of path) ≡ true → stands older path ≡ None)
MayFollow older (Addition at content) =
    (same_path at [] ≡ false) × (stands older at ≡ None) × (holds_after older (parent_of at) ≡ true)
MayFollow older (Modification at content) =
    (before : Content) × (stands older at ≡ Some before) × (same_kind before content ≡ true)

-- changes each of which may follow those before it, the newest first
abbrev pub IsLegal : List Change → Type 0
IsLegal [] = Unit {0}
IsLegal (change ∷ older) = IsLegal older × MayFollow older change
