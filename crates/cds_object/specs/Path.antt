-- The places of objects in the library: lists of names, each a list of bytes (this project's profile).
use Rattle.std.specs.Prelude.{◌+◌, ◌||◌, ℕ, Bool, nat_eq, nat_lt, nat_le, cond, List, [], ◌∷◌, length, Option, Some, None, Result, Ok, Err, codes}
use Rattle.std.specs.List.{slice_split, list_any}
use Rattle.std.specs.Ordering.{nat_cmp}
use Rattle.std.specs.declared.cmp.Ordering.{Ordering}
use Rattle.std.specs.Cmp.Lexicographic.{slice_cmp, pointwise}

-- places in order: name by name, each name by its bytes, and a place before the places under it
abbrev pub path_cmp : List (List ℕ) → List (List ℕ) → Ordering
path_cmp = slice_cmp (slice_cmp nat_cmp)

-- whether two places are one
abbrev pub same_path : List (List ℕ) → List (List ℕ) → Bool
same_path = pointwise (pointwise nat_eq)

-- the place of the folder in which an object stands; for the root it is the root again
abbrev pub parent_of : List (List ℕ) → List (List ℕ)
parent_of [] = []
parent_of (name ∷ []) = []
parent_of (name ∷ next ∷ names) = name ∷ parent_of (next ∷ names)

-- the object's own name; the root has none
abbrev pub name_of : List (List ℕ) → List ℕ
name_of [] = []
name_of (name ∷ []) = name
name_of (name ∷ next ∷ names) = name_of (next ∷ names)

-- whether a name cannot stand in a path: it is empty, over 255 bytes long, `.` or `..`, or has a NUL
abbrev pub is_bad_name : List ℕ → Bool
is_bad_name name =
    nat_eq (length name) 0 || nat_lt 255 (length name) || pointwise nat_eq name (codes ".") || pointwise nat_eq name (codes "..")
    || list_any (λ b. nat_eq b 0) name

-- the place in the text of the first bad name, and the 17th name is bad; the first of these names has the given number
-- and the given place, both counted from 0
abbrev pub bad_name_at : ℕ → ℕ → List (List ℕ) → Option ℕ
bad_name_at number at [] = None
bad_name_at number at (name ∷ names) =
    cond (nat_le 16 number || is_bad_name name) (Some at) (bad_name_at (number + 1) (at + length name + 1) names)

-- what the text of a path says: its names, which are separated by `/`, or the place at which it is no path
abbrev pub path_read : List ℕ → Result (List (List ℕ)) ℕ
path_read text = checked (bad_name_at 0 0 (slice_split (λ b. nat_eq b 47) text))
  where
    checked : Option ℕ → Result (List (List ℕ)) ℕ
    checked (Some at) = Err at
    checked None = cond (nat_lt 1024 (length text)) (Err 1024) (Ok (slice_split (λ b. nat_eq b 47) text))
