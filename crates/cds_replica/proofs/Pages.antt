-- Rows that were shown before.
use Rattle.std.proofs.Common.{◌≡◌, ℕ, ◌+◌, ◌<◌, Bool, true, false, cond, ◌&&◌, ◌||◌, not, List, [], ◌∷◌, ◌++◌, map, length, take, drop, get_or, ap, sym, ◌∙◌, refl}
use Rattle.std.specs.Prelude.{nat_eq}
use Rattle.std.specs.List.{list_any}
use Rattle.std.proofs.lemmas.List.{take_more, drop_more}
use Rattle.std.proofs.lemmas.List.Folds.{list_any-append}
use Rattle.cds_object.specs.Object.{ObjectRow}
use Rattle.cds_load.specs.Stages.{all_new}
use Rattle.cds_replica.specs.Known.{has_id, was_shown}

-- the ids that are known after these rows, too
abbrev pub ids_after : List ObjectRow → List ℕ → List ℕ
ids_after [] known = known
ids_after (row ∷ rows) known = ids_after rows (row.id ∷ known)

-- the ids of rows
abbrev pub ids_of : List ObjectRow → List ℕ
ids_of rows = map (λ (row : ObjectRow). row.id) rows

or_swap : (a b c : Bool) → (a || (b || c)) ≡ ((b || a) || c)
or_swap true true c = refl
or_swap true false c = refl
or_swap false true c = refl
or_swap false false c = refl

-- an id is known after some rows if one of them has it or it was known
pub known_after : (id : ℕ) (rows : List ObjectRow) (known : List ℕ) → list_any (nat_eq id) (ids_after rows known) ≡ (list_any (has_id id) rows || list_any (nat_eq id) known)
known_after id [] known = refl
known_after id (row ∷ rows) known =
    known_after id rows (row.id ∷ known) ∙ or_swap (list_any (has_id id) rows) (nat_eq id row.id) (list_any (nat_eq id) known)

-- rows have the ids that they have
pub any_of_ids : (id : ℕ) (rows : List ObjectRow) → list_any (nat_eq id) (ids_of rows) ≡ list_any (has_id id) rows
any_of_ids id [] = refl
any_of_ids id (row ∷ rows) = ap (λ b. nat_eq id row.id || b) (any_of_ids id rows)

pub ids_after-append : (xs ys : List ObjectRow) (known : List ℕ) → ids_after (xs ++ ys) known ≡ ids_after ys (ids_after xs known)
ids_after-append [] ys known = refl
ids_after-append (x ∷ xs) ys known = ids_after-append xs ys (x.id ∷ known)

or_turn : (a b c : Bool) → (c || (a || b)) ≡ (a || b || c)
or_turn true true true = refl
or_turn true true false = refl
or_turn true false true = refl
or_turn true false false = refl
or_turn false true true = refl
or_turn false true false = refl
or_turn false false true = refl
or_turn false false false = refl

-- what is known of an id when a page was gone through up to a place
pub known_at : (id : ℕ) (rows part earlier : List ObjectRow) → list_any (nat_eq id) (ids_after earlier (ids_of (rows ++ part))) ≡ was_shown id rows part earlier
known_at id rows part earlier =
    known_after id earlier (ids_of (rows ++ part))
    ∙ ap (λ b. list_any (has_id id) earlier || b) (any_of_ids id (rows ++ part) ∙ list_any-append (has_id id) rows part)
    ∙ or_turn (list_any (has_id id) rows) (list_any (has_id id) part) (list_any (has_id id) earlier)

not_and : (b c : Bool) → (not b && c) ≡ cond b false c
not_and true c = refl
not_and false c = refl

-- one more row of a page
new_step : (rows part page : List ObjectRow) (i : ℕ) (row : ObjectRow) → i < length page → row ≡ get_or page i row → all_new (ids_after (take i page) (ids_of (rows ++ part))) (drop i page) ≡ cond (was_shown row.id rows part (take i page)) false (all_new (ids_after (take (i + 1) page) (ids_of (rows ++ part))) (drop (i + 1) page))
new_step rows part page i row within is =
    let rest = drop (i + 1) page in
    let known = ids_after (take i page) (ids_of (rows ++ part)) in
    ap (all_new known) (drop_more page i row within ∙ ap (λ z. z ∷ rest) (sym is))
    ∙ not_and (list_any (nat_eq row.id) known) (all_new (row.id ∷ known) rest)
    ∙ ap (λ b. cond b false (all_new (row.id ∷ known) rest)) (known_at row.id rows part (take i page))
    ∙ ap (λ k. cond (was_shown row.id rows part (take i page)) false (all_new k rest)) (sym (ap (λ l. ids_after l (ids_of (rows ++ part))) (take_more page i row within ∙ ap (λ z. take i page ++ z ∷ []) (sym is)) ∙ ids_after-append (take i page) (row ∷ []) (ids_of (rows ++ part))))

-- what was asked of a row's id and the rows before it
asked : (rows part page : List ObjectRow) (i id row_id : ℕ) (earlier : List ObjectRow) (b : Bool) → id ≡ row_id → earlier ≡ take i page → b ≡ was_shown id rows part earlier → was_shown row_id rows part (take i page) ≡ b
asked rows part page i id row_id earlier b id_is earlier_is answer =
    sym (answer ∙ ap (λ n. was_shown n rows part earlier) id_is ∙ ap (was_shown row_id rows part) earlier_is)

-- a row that was shown before ends it
pub shown_before : (rows part page : List ObjectRow) (i : ℕ) (row : ObjectRow) (id : ℕ) (earlier : List ObjectRow) (b : Bool) → i < length page → row ≡ get_or page i row → id ≡ row.id → earlier ≡ take i page → b ≡ was_shown id rows part earlier → b ≡ true → all_new (ids_after (take i page) (ids_of (rows ++ part))) (drop i page) ≡ false
shown_before rows part page i row id earlier b within is id_is earlier_is answer is_true =
    new_step rows part page i row within is
    ∙ ap (λ b. cond b false (all_new (ids_after (take (i + 1) page) (ids_of (rows ++ part))) (drop (i + 1) page))) (asked rows part page i id row.id earlier b id_is earlier_is answer ∙ is_true)

-- a row that was not goes on
pub not_shown_before : (rows part page : List ObjectRow) (i : ℕ) (row : ObjectRow) (id : ℕ) (earlier : List ObjectRow) (b : Bool) → i < length page → row ≡ get_or page i row → id ≡ row.id → earlier ≡ take i page → b ≡ was_shown id rows part earlier → b ≡ false → all_new (ids_after (take i page) (ids_of (rows ++ part))) (drop i page) ≡ all_new (ids_after (take (i + 1) page) (ids_of (rows ++ part))) (drop (i + 1) page)
not_shown_before rows part page i row id earlier b within is id_is earlier_is answer is_false =
    new_step rows part page i row within is
    ∙ ap (λ b. cond b false (all_new (ids_after (take (i + 1) page) (ids_of (rows ++ part))) (drop (i + 1) page))) (asked rows part page i id row.id earlier b id_is earlier_is answer ∙ is_false)
