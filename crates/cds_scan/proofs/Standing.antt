-- The records of a scan of a whole tree can all stand.
use Rattle.std.proofs.Common.{◌≡◌, ℕ, Bool, true, false, cond, nat_eq, nat_lt, List, [], ◌∷◌, ◌++◌, length, take, drop, Option, Some, None, Result, Ok, Err, refl, sym, ap, ◌∙◌, true≢false}
use Rattle.std.specs.List.{list_any, onto_first, slice_split, join_with_byte}
use Rattle.std.specs.Str.{bytes_eq}
use Rattle.std.proofs.lemmas.Bool.{and_parts, or_parts, not-true, eqb-true, cond-true, cond-false}
use Rattle.std.proofs.lemmas.List.{take-append-drop}
use Rattle.std.proofs.lemmas.List.Splits.{join_with_byte-slice_split}
use Rattle.std.proofs.lemmas.Slice.Eq.{bytes_eq-Decides}
use Rattle.cds_outside.specs.Entries.{is_in, is_name, is_slash_and_name}
use Rattle.cds_object.specs.Path.{bad_name_at, parent_of, path_read}

-- ---- paths and their names

abbrev pub names : List ℕ → List (List ℕ)
names text = slice_split (λ b. nat_eq b 47) text

abbrev checked : List ℕ → Option ℕ → Result (List (List ℕ)) ℕ
checked text (Some at) = Err at
checked text None = cond (nat_lt 1024 (length text)) (Err 1024) (Ok (names text))

same_place : (a b : List (List ℕ)) → ◌≡◌ {A = Result (List (List ℕ)) ℕ} (Ok a) (Ok b) → b ≡ a
same_place a b e = cc

read_by : (text : List ℕ) (bad : Option ℕ) (long : Bool) (place : List (List ℕ)) → ◌≡◌ {A = Result (List (List ℕ)) ℕ} (elim bad [ Some at ↦ Err at | None ↦ cond long (Err 1024) (Ok (names text)) ]) (Ok place) → place ≡ names text
read_by text (Some at) long place e = absurd (cc)
read_by text None true place e = absurd (cc)
read_by text None false place e = same_place (names text) place e

-- a path that is read is its names
pub read_is_names : (text : List ℕ) (place : List (List ℕ)) → path_read text ≡ Ok place → place ≡ names text
read_is_names text place e = read_by text (bad_name_at 0 0 (names text)) (nat_lt 1024 (length text)) place e

no_slash : (text : List ℕ) → list_any (λ b. nat_eq b 47) text ≡ false → names text ≡ text ∷ []
no_slash [] none = refl
no_slash (x ∷ xs) none =
    let parts = or_parts (nat_eq x 47) (list_any (λ b. nat_eq b 47) xs) none in
    cond-false (nat_eq x 47) ([] ∷ names xs) (onto_first x (names xs)) parts.0 ∙ ap (onto_first x) (no_slash xs parts.1)

pub one_name : (text : List ℕ) → is_name text ≡ true → names text ≡ text ∷ []
one_name text one = no_slash text (not-true (list_any (λ b. nat_eq b 47) text) one)

onto_more : (x : ℕ) (first : List ℕ) (parts more : List (List ℕ)) → onto_first x ((first ∷ parts) ++ more) ≡ onto_first x (first ∷ parts) ++ more
onto_more x first parts more = refl

-- a text has a first name
pub first_name : (text : List ℕ) → (first : List ℕ) × (parts : List (List ℕ)) × (names text ≡ first ∷ parts)
first_name [] = ([], [], refl)
first_name (x ∷ xs) = by (nat_eq x 47) refl (first_name xs)
  where
    by : (b : Bool) → nat_eq x 47 ≡ b → ((first : List ℕ) × (parts : List (List ℕ)) × (names xs ≡ first ∷ parts)) → (first : List ℕ) × (parts : List (List ℕ)) × (names (x ∷ xs) ≡ first ∷ parts)
    by true is behind = ([], names xs, cond-true (nat_eq x 47) ([] ∷ names xs) (onto_first x (names xs)) is)
    by false is behind =
        (x ∷ behind.0, behind.1, cond-false (nat_eq x 47) ([] ∷ names xs) (onto_first x (names xs)) is ∙ ap (onto_first x) behind.2)

-- the names of what stands in a folder: the folder's and its own
names_in : (folder name : List ℕ) → names name ≡ name ∷ [] → names (folder ++ 47 ∷ name) ≡ names folder ++ name ∷ []
names_in [] name one = ap (λ ns. [] ∷ ns) one
names_in (x ∷ xs) name one = by (nat_eq x 47) refl (names_in xs name one)
  where
    by : (b : Bool) → nat_eq x 47 ≡ b → names (xs ++ 47 ∷ name) ≡ names xs ++ name ∷ [] → names ((x ∷ xs) ++ 47 ∷ name) ≡ names (x ∷ xs) ++ name ∷ []
    by true is behind =
        cond-true (nat_eq x 47) ([] ∷ names (xs ++ 47 ∷ name)) (onto_first x (names (xs ++ 47 ∷ name))) is
        ∙ ap (λ ns. [] ∷ ns) behind
        ∙ sym (ap (λ ns. ns ++ name ∷ []) (cond-true (nat_eq x 47) ([] ∷ names xs) (onto_first x (names xs)) is))
    by false is behind =
        let first = first_name xs in
        cond-false (nat_eq x 47) ([] ∷ names (xs ++ 47 ∷ name)) (onto_first x (names (xs ++ 47 ∷ name))) is
        ∙ ap (onto_first x) (behind ∙ ap (λ ns. ns ++ name ∷ []) first.2)
        ∙ onto_more x first.0 first.1 (name ∷ [])
        ∙ ap (λ ns. onto_first x ns ++ name ∷ []) (sym first.2)
        ∙ sym (ap (λ ns. ns ++ name ∷ []) (cond-false (nat_eq x 47) ([] ∷ names xs) (onto_first x (names xs)) is))

parent_of_more : (ns : List (List ℕ)) (name : List ℕ) → parent_of (ns ++ name ∷ []) ≡ ns
parent_of_more [] name = refl
parent_of_more (x ∷ []) name = refl
parent_of_more (x ∷ y ∷ ns) name = ap (λ p. x ∷ p) (parent_of_more (y ∷ ns) name)

slash_and_name : (rest : List ℕ) → is_slash_and_name rest ≡ true → (name : List ℕ) × (rest ≡ 47 ∷ name) × (is_name name ≡ true)
slash_and_name [] is = absurd (true≢false (sym is))
slash_and_name (b ∷ name) is =
    let parts = and_parts (nat_eq b 47) (is_name name) is in
    (name, ap (λ x. x ∷ name) (eqb-true b 47 parts.0), parts.1)

-- the parent of a path in a folder is the folder's place
pub parent_in : (folder path : List ℕ) → is_in folder path ≡ true → parent_of (names path) ≡ names folder
parent_in folder path is =
    let parts = and_parts (bytes_eq (take (length folder) path) folder) (is_slash_and_name (drop (length folder) path)) is in
    let front : take (length folder) path ≡ folder = (bytes_eq-Decides (take (length folder) path) folder).0 parts.0 in
    let behind = slash_and_name (drop (length folder) path) parts.1 in
    let spelled : path ≡ folder ++ 47 ∷ behind.0 =
    sym (take-append-drop (length folder) path) ∙ ap (λ xs. xs ++ drop (length folder) path) front ∙ ap (λ xs. folder ++ xs) behind.1 in
    ap (λ p. parent_of (names p)) spelled
    ∙ ap parent_of (names_in folder behind.0 (one_name behind.0 behind.2))
    ∙ parent_of_more (names folder) behind.0

-- texts of the same names are one
pub same_names : (a b : List ℕ) → names a ≡ names b → a ≡ b
same_names a b e = sym (join_with_byte-slice_split 47 a) ∙ ap (join_with_byte 47) e ∙ join_with_byte-slice_split 47 b
