-- What is known of the additions, or of the deletions, of a scan while its changes are looked at, the newest first.
use Rattle.std.specs.Prelude.{◌≡◌, ◌++◌, ℕ, Bool, true, false, List, [], ◌∷◌, Option, Some, None}
use Rattle.std.specs.BTreeSet.{contains}
use Rattle.cds_object.specs.Path.{path_cmp, same_path, parent_of}
use Rattle.cds_catalog.specs.History.{place_of, is_addition, is_deletion}
use Rattle.cds_catalog.specs.declared.change.Change.{Change}
use Rattle.cds_changes.specs.Events.{is_below}
use Rattle.cds_changes.specs.Subtrees.{some_of, is_over, IsTop, IsClosed, IsOrderly, IsMarked}
use Rattle.cds_store.specs.ChangeEvents.{changes_in}
use Rattle.cds_store.specs.declared.subtrees.Kind.{Kind}
use Rattle.cds_store.specs.declared.subtrees.Kind.TheVariants.{Added, Deleted}
use Rattle.cds_store.specs.declared.subtrees.SubtreeIndex.{SubtreeIndex}
use Rattle.cds_store.specs.declared.subtrees.MarkedChange.{MarkedChange}

abbrev pub is_kind : Kind → Change → Bool
is_kind Added change = is_addition change
is_kind Deleted change = is_deletion change

-- whether a place is the outermost one at or above another, among some places
pub record IsOutermost (there : List (List ℕ) → Bool) (path top : List (List ℕ)) : Type 0 where
  pub over : is_over top path ≡ true
  pub member : there path ≡ true → there top ≡ true
  pub outer : there (parent_of top) ≡ false

-- the places of the changes of a kind in a scan; the places of the folders that hold one; and the heads of the subtree
-- updates to which the later changes belong
pub record Indexes (kind : Change → Bool) (scan later : List Change) (index : SubtreeIndex) : Type 0 where
  pub places : (path : List (List ℕ)) → contains path_cmp index.places path ≡ some_of kind (same_path path) scan
  pub folders : (path : List (List ℕ)) → contains path_cmp index.folders path ≡ some_of kind (λ place. same_path path (parent_of place)) scan
  pub seen : (top : List (List ℕ)) → IsTop kind scan top → some_of kind (is_below top) scan ≡ true →
      contains path_cmp index.seen top ≡ some_of kind (is_over top) later

-- the outermost place over the place of a change, and whether it has some other place below it
pub record HasTop (kind : Change → Bool) (scan : List Change) (path : List (List ℕ)) (gathers : Bool) (top : List (List ℕ)) : Type 0 where
  pub is_top : IsTop kind scan top
  pub over : is_over top path ≡ true
  pub has_below : some_of kind (is_below top) scan ≡ gathers

-- the head of the subtree update to which a change belongs, or none if its outermost place has no other below it
abbrev pub IsHeadOf : (Change → Bool) → List Change → List (List ℕ) → Option (List (List ℕ)) → Type 0
IsHeadOf kind scan path None = (top : List (List ℕ)) × HasTop kind scan path false top
IsHeadOf kind scan path (Some head) = HasTop kind scan path true head

-- what is said of the changes of a plan, the newest first, if others were made before
abbrev pub AreMarked : List Change → List MarkedChange → List Change → Type 0
AreMarked scan [] before = Unit {0}
AreMarked scan (p ∷ older) before = AreMarked scan older before × IsMarked scan p.change (changes_in older ++ before) p.st p.done

-- whether some change of a kind has this folder as the parent of its place
abbrev pub holds_one : (Change → Bool) → List Change → List (List ℕ) → Bool
holds_one kind scan folder = some_of kind (λ place. same_path folder (parent_of place)) scan

-- what is found at the place of a change: the head of its subtree update
abbrev pub FindsHead : SubtreeIndex → List (List ℕ) → Option (List (List ℕ)) → Type 0
FindsHead index path head = (kind : Kind) (scan later : List Change) → Indexes (is_kind kind) scan later index → IsClosed (is_kind kind) scan →
    some_of (is_kind kind) (same_path path) scan ≡ true → IsHeadOf (is_kind kind) scan path head

-- what is said of a change of the kind after all later ones, and that it is among the later ones from then on
abbrev pub Marks : SubtreeIndex → SubtreeIndex → List (List ℕ) → Bool × Option (List (List ℕ)) → Type 0
Marks before now path found = (kind : Kind) (scan later earlier : List Change) (change : Change) →
    Indexes (is_kind kind) scan later before → IsOrderly scan → scan ≡ later ++ change ∷ earlier → is_kind kind change ≡ true → path ≡ place_of change →
    Indexes (is_kind kind) scan (later ++ change ∷ []) now × IsMarked scan change earlier found.0 found.1

-- what is said of any change after all later ones, and that it is among the later ones from then on
abbrev pub SaysNext : SubtreeIndex → SubtreeIndex → SubtreeIndex → SubtreeIndex → Change → Bool × Option (List (List ℕ)) → Type 0
SaysNext gone come gone_now come_now change said = (scan later earlier : List Change) →
    Indexes is_deletion scan later gone → Indexes is_addition scan later come → IsOrderly scan → scan ≡ later ++ change ∷ earlier →
    Indexes is_deletion scan (later ++ change ∷ []) gone_now × Indexes is_addition scan (later ++ change ∷ []) come_now
    × IsMarked scan change earlier said.0 said.1

abbrev pub MarksNext : SubtreeIndex → SubtreeIndex → SubtreeIndex → SubtreeIndex → Change → MarkedChange → Type 0
MarksNext gone come gone_now come_now change marked = SaysNext gone come gone_now come_now change (marked.st, marked.done)
