-- The one row of an object.
use Rattle.std.proofs.Common.{◌≡◌, ◌<◌, ℕ, zero, suc, Bool, true, false, cond, nat_eq, List, [], ◌∷◌, Some, None, take, drop, filter, refl, sym, ◌∙◌, ap, arith}
use Rattle.std.specs.List.{AllByRecursion}
use Rattle.std.proofs.lemmas.Bool.Decides.{nat_tests}
use Rattle.cds_object.specs.Object.{ObjectRow}
use Rattle.cds_object.specs.Tree.{IdsAscend}
use Rattle.cds_browse.specs.declared.page.Page.{Page}
use Rattle.cds_browse.specs.declared.page.Target.{Target}
use Rattle.cds_browse.specs.declared.page.Target.TheVariants.{Itself, Children}
use Rattle.cds_criteria.specs.declared.sort.SortKey.{SortKey}
use Rattle.cds_object.specs.Updates.{update_of}
use Rattle.cds_browse.specs.Paging.{has_id_text, row_named, ids_of, most_rows, page_of}
use Rattle.cds_browse.specs.Browsing.{target_at, matches}
use Rattle.cds_browse.proofs.Named.{same_as, are_same, other_id}

abbrev pub AllAbove : ℕ → List ObjectRow → Type 0
AllAbove n = AllByRecursion (λ (row : ObjectRow). n < row.id)

raised : (n m : ℕ) (rows : List ObjectRow) → n < m → AllAbove m rows → AllAbove n rows
raised n m [] below above = tt
raised n m (row ∷ rows) below above = (let first = above.0 in omega (arith, below, first), raised n m rows below above.1)

pub above_head : (row : ObjectRow) (rows : List ObjectRow) → IdsAscend (row ∷ rows) → AllAbove row.id rows
above_head row [] ascend = tt
above_head row (next ∷ rows) ascend = (ascend.0, raised row.id next.id rows ascend.0 (above_head next rows ascend.1))

pub tail_ascends : (row : ObjectRow) (rows : List ObjectRow) → IdsAscend (row ∷ rows) → IdsAscend rows
tail_ascends row [] ascend = tt
tail_ascends row (next ∷ rows) ascend = ascend.1

differs : (a b : ℕ) → b < a → nat_eq a b ≡ false
differs a b below = grind (arith, nat_tests)

pub none_above : (n : ℕ) (rows : List ObjectRow) → AllAbove n rows → filter (λ (other : ObjectRow). nat_eq other.id n) rows ≡ []
none_above n [] above = refl
none_above n (row ∷ rows) above =
    ap (λ b. cond b (row ∷ filter (λ (other : ObjectRow). nat_eq other.id n) rows) (filter (λ (other : ObjectRow). nat_eq other.id n) rows))
    (differs row.id n above.0) ∙ none_above n rows above.1

abbrev of_id : ℕ → List ObjectRow → List ObjectRow
of_id n rows = filter (λ (other : ObjectRow). nat_eq other.id n) rows

-- the row that a text names is the only one of its id
pub alone : (text : List ℕ) (row : ObjectRow) (rows : List ObjectRow) → IdsAscend rows → row_named text rows ≡ Some row
    → filter (λ (other : ObjectRow). nat_eq other.id row.id) rows ≡ row ∷ []
alone text row [] ascend found = absurd (cc)
alone text row (other ∷ rows) ascend found = by (has_id_text text other) refl found (alone text row rows (tail_ascends other rows ascend))
  where
    by : (b : Bool) → has_id_text text other ≡ b → cond b (Some other) (row_named text rows) ≡ Some row → (row_named text rows ≡ Some row → of_id row.id rows ≡ row ∷ [])
        → cond (nat_eq other.id row.id) (other ∷ of_id row.id rows) (of_id row.id rows) ≡ row ∷ []
    by true test is further =
        let same : other ≡ row = cc in
        let id : other.id ≡ row.id = ap (λ (r : ObjectRow). r.id) same in
        let none : of_id row.id rows ≡ [] = ap (λ n. of_id n rows) (sym id) ∙ none_above other.id rows (above_head other rows ascend) in
        ap (λ b. cond b (other ∷ of_id row.id rows) (of_id row.id rows)) (same_as other.id row.id id) ∙ ap (λ (o : ObjectRow). o ∷ of_id row.id rows) same ∙ ap (λ (os : List ObjectRow). row ∷ os) none
    by false test is further = ap (λ b. cond b (other ∷ of_id row.id rows) (of_id row.id rows)) (other_id text row other rows is test) ∙ further is

pub some_rows : (count : ℕ) → 0 < most_rows count
some_rows count = grind (arith, nat_tests)

take_one : (n : ℕ) (row : ObjectRow) → 0 < n → take n (row ∷ []) ≡ row ∷ []
take_one zero row some = absurd (omega (arith, some))
take_one (suc n) row some = by n
  where
    by : (n : ℕ) → take (suc n) (row ∷ []) ≡ row ∷ []
    by zero = refl
    by (suc n) = refl

pub from_start : (start : ℕ) → nat_eq start 0 ≡ true → (count : ℕ) (row : ObjectRow) → take (most_rows count) (drop start (row ∷ [])) ≡ row ∷ []
from_start start is count row = ap (λ s. take (most_rows count) (drop s (row ∷ []))) (are_same start 0 is) ∙ take_one (most_rows count) row (some_rows count)

-- ---- the page that is made

abbrev pub made : List ℕ → ℕ → ℕ → Page
made ids total update = record { ids = ids; total = total; update = update }

pub same_page : (ids others : List ℕ) (total more update newer : ℕ) → ids ≡ others → total ≡ more → update ≡ newer → made ids total update ≡ made others more newer
same_page ids others total more update newer i t u =
    ap (λ (l : List ℕ). made l total update) i ∙ ap (λ n. made others n update) t ∙ ap (λ n. made others more n) u

one_left : (start : ℕ) (b : Bool) → nat_eq start 0 ≡ b → cond b (Some Itself) None ≡ Some Itself → (count : ℕ) (row : ObjectRow)
    → take (most_rows count) (drop start (row ∷ [])) ≡ row ∷ []
one_left start true is at count row = from_start start is count row
one_left start false is at count row = absurd (cc)

itself_page : (number : ℕ) (rows : List ObjectRow) (row : ObjectRow) (keys : List SortKey) (text : List ℕ) (start count update : ℕ) → IdsAscend rows → row_named text rows ≡ Some row
    → target_at start (Some Itself) ≡ Some Itself → update ≡ update_of number row rows
    → made (row.id ∷ []) 1 update ≡ page_of number rows row keys start count (matches Itself row rows)
itself_page number rows row keys text start count update ascend found at is =
    same_page (row.id ∷ []) (ids_of (take (most_rows count) (drop start (row ∷ [])))) 1 1 update (update_of number row rows)
    (sym (ap ids_of (one_left start (nat_eq start 0) refl at count row))) refl is
    ∙ sym (ap (λ (l : List ObjectRow). page_of number rows row keys start count l) (alone text row rows ascend found))

pub itself_made : (number : ℕ) (rows : List ObjectRow) (row : ObjectRow) (keys : List SortKey) (text : List ℕ) (start count update : ℕ) (target : Target) (id : ℕ) → IdsAscend rows
    → row_named text rows ≡ Some row → target ≡ Itself → target_at start (Some target) ≡ Some target → update ≡ update_of number row rows → id ≡ row.id
    → made (id ∷ []) 1 update ≡ page_of number rows row keys start count (matches target row rows)
itself_made number rows row keys text start count update Itself id ascend found is at told same =
    ap (λ n. made (n ∷ []) 1 update) same ∙ itself_page number rows row keys text start count update ascend found at told
itself_made number rows row keys text start count update Children id ascend found is at told same = absurd (cc)
