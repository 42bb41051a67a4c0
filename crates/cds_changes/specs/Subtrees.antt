-- Subtree updates, told apart by the changes of one kind: the additions or the deletions of a scan. The proofs of stores that
-- mark them use these definitions.
use Rattle.std.specs.Prelude.{◌≡◌, ◌&&◌, ◌||◌, ℕ, Bool, true, false, List, [], ◌∷◌, map, Option, MatchOption}
use Rattle.std.specs.List.{AllByRecursion, list_any}
use Rattle.std.specs.Option.{option_to_list}
use Rattle.std.specs.declared.cmp.Ordering.TheVariants.{Less}
use Rattle.cds_object.specs.Path.{path_cmp, same_path, parent_of}
use Rattle.cds_catalog.specs.History.{place_of, is_addition, is_deletion}
use Rattle.cds_catalog.specs.declared.change.Change.{Change}
use Rattle.cds_catalog.specs.declared.change.Change.TheVariants.{Deletion, Addition, Modification}
use Rattle.cds_changes.specs.Events.{is_below, is_in_subtree, heads_done}

-- whether a change of a kind has a place that passes a test
abbrev pub some_of : (Change → Bool) → (List (List ℕ) → Bool) → List Change → Bool
some_of kind test scan = list_any (λ change. kind change && test (place_of change)) scan

-- whether a place is another one, or lies above it
abbrev pub is_over : List (List ℕ) → List (List ℕ) → Bool
is_over above path = same_path above path || is_below above path

-- a place of such a change whose parent's is none
pub record IsTop (kind : Change → Bool) (scan : List Change) (top : List (List ℕ)) : Type 0 where
  pub member : some_of kind (same_path top) scan ≡ true
  pub outermost : some_of kind (same_path (parent_of top)) scan ≡ false

-- what the changes of a kind are to be for this: none is the root's. Between two of them, one above the other, no place is
-- missing
pub record IsClosed (kind : Change → Bool) (scan : List Change) : Type 0 where
  pub rootless : some_of kind (same_path []) scan ≡ false
  pub closed : (above path : List (List ℕ)) → some_of kind (same_path above) scan ≡ true → some_of kind (same_path path) scan ≡ true →
      is_below above path ≡ true → some_of kind (same_path (parent_of path)) scan ≡ true

-- how a change stands to the older ones of its scan: deletions come first, in descending order of places, and additions
-- are in ascending order
abbrev pub Follows : Change → List Change → Type 0
Follows (Deletion path) older = AllByRecursion (λ change. (is_deletion change ≡ true) × (path_cmp path (place_of change) ≡ Less)) older
Follows (Addition path content) older = AllByRecursion (λ change. is_addition change ≡ true → path_cmp (place_of change) path ≡ Less) older
Follows (Modification path content) older = Unit {0}

abbrev pub InOrder : List Change → Type 0
InOrder [] = Unit {0}
InOrder (change ∷ older) = InOrder older × Follows change older

-- the changes of a scan, the newest first, in order and closed for both kinds
pub record IsOrderly (scan : List Change) : Type 0 where
  pub in_order : InOrder scan
  pub come : IsClosed is_addition scan
  pub gone : IsClosed is_deletion scan

-- the place of the head of the subtree update that is done with a change: a deletion's is its own, an addition's is another one
-- that was added earlier in the scan
abbrev pub StoodAt : Change → List Change → List (List ℕ) → Type 0
StoodAt (Deletion path) earlier head = head ≡ path
StoodAt (Addition path content) earlier head = (same_path head path ≡ false) × (some_of is_addition (same_path head) earlier ≡ true)
StoodAt (Modification path content) earlier head = ⊥

-- what is said of a change of a scan, after the earlier ones: whether it belongs to a subtree update, and the place of the head
-- of the one that is done with it
pub record IsMarked (scan : List Change) (change : Change) (earlier : List Change) (st : Bool) (done : Option (List (List ℕ))) : Type 0 where
  pub belongs : st ≡ is_in_subtree scan change
  pub head : option_to_list done ≡ map place_of (heads_done scan change)
  pub stood : MatchOption done (Unit {0}) (StoodAt change earlier)
