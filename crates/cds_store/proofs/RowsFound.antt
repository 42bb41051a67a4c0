-- Rows in ascending order of ids, looked through by halving.
use Rattle.std.proofs.Common.{◌≡◌, ◌+◌, ◌<◌, ◌≤◌, ℕ, zero, suc, true, false, cond, nat_eq, List, [], ◌∷◌, ◌++◌, length, take, drop, get_or, Some, None, refl, sym, ◌∙◌, ap, subst, arith}
use Rattle.std.specs.List.{AllByRecursion}
use Rattle.std.proofs.lemmas.Bool.Decides.{nat_tests}
use Rattle.std.proofs.lemmas.List.{take_more, length-take-le, take-append-drop}
use Rattle.std.proofs.Math.Seq.{drop-cons}
use Rattle.cds_object.specs.Tree.{IdsAscend, row_of}
use Rattle.cds_catalog.specs.Catalog.{PlacedRow}
use Rattle.cds_catalog.proofs.StepsFind.{each-append, each-weaker}
use Rattle.cds_store.specs.Rows.{rows_of}
use Rattle.cds_store.specs.Found.{HasNone, IsPlaceOf}

-- ids below a number, and above it
abbrev pub AllBelow : ℕ → List PlacedRow → Type 0
AllBelow id rows = AllByRecursion (λ placed. placed.1.id < id) rows

abbrev pub AllAbove : ℕ → List PlacedRow → Type 0
AllAbove id rows = AllByRecursion (λ placed. id < placed.1.id) rows

ascend_tail : (p : PlacedRow) (rows : List PlacedRow) → IdsAscend (rows_of (p ∷ rows)) → IdsAscend (rows_of rows)
ascend_tail p [] a = tt
ascend_tail p (q ∷ rows) a = a.1

ascend_head : (p : PlacedRow) (rows : List PlacedRow) → IdsAscend (rows_of (p ∷ rows)) → AllAbove p.1.id rows
ascend_head p [] a = tt
ascend_head p (q ∷ rows) a =
    (a.0, each-weaker (λ placed. q.1.id < placed.1.id) (λ placed. p.1.id < placed.1.id) (λ r h. let k = a.0 in omega (arith, h, k)) rows (ascend_head q rows a.1))

each_at : (P : PlacedRow → Type 0) (rows : List PlacedRow) (i : ℕ) (x : PlacedRow) → AllByRecursion P rows → i < length rows → x ≡ get_or rows i x → P x
each_at P [] i x all within is = absurd (omega arith)
each_at P (p ∷ rows) zero x all within is = subst P (sym is) all.0
each_at P (p ∷ rows) (suc i) x all within is = each_at P rows i x all.1 (omega arith) is

pub before_at : (rows : List PlacedRow) (i : ℕ) (x : PlacedRow) → IdsAscend (rows_of rows) → i < length rows → x ≡ get_or rows i x → AllBelow x.1.id (take i rows)
before_at [] i x a within is = absurd (omega arith)
before_at (p ∷ rows) zero x a within is = tt
before_at (p ∷ rows) (suc i) x a within is = (
  each_at (λ placed. p.1.id < placed.1.id) rows i x (ascend_head p rows a) (omega arith) is,
  before_at rows i x (ascend_tail p rows a) (omega arith) is,
)

pub behind_at : (rows : List PlacedRow) (i : ℕ) (x : PlacedRow) → IdsAscend (rows_of rows) → i < length rows → x ≡ get_or rows i x → AllAbove x.1.id (drop (suc i) rows)
behind_at [] i x a within is = absurd (omega arith)
behind_at (p ∷ rows) zero x a within is = subst (λ (q : PlacedRow). AllAbove q.1.id rows) (sym is) (ascend_head p rows a)
behind_at (p ∷ rows) (suc i) x a within is = behind_at rows i x (ascend_tail p rows a) (omega arith) is

-- the lower end goes behind a row whose id is too small
pub low_moves : (rows : List PlacedRow) (i id : ℕ) (x : PlacedRow) → IdsAscend (rows_of rows) → i < length rows → x ≡ get_or rows i x → x.1.id < id
    → AllBelow id (take (i + 1) rows)
low_moves rows i id x a within is less =
    subst (AllBelow id) (sym (take_more rows i x within))
    (each-append (λ placed. placed.1.id < id) (take i rows) (get_or rows i x ∷ [])
    (each-weaker (λ placed. placed.1.id < x.1.id) (λ placed. placed.1.id < id) (λ r h. omega (arith, h, less)) (take i rows) (before_at rows i x a within is))
    (subst (λ (q : PlacedRow). q.1.id < id) is less, tt))

-- the upper end goes to a row whose id is too great
pub high_moves : (rows : List PlacedRow) (i id : ℕ) (x : PlacedRow) → IdsAscend (rows_of rows) → i < length rows → x ≡ get_or rows i x → id < x.1.id
    → AllAbove id (drop i rows)
high_moves rows i id x a within is more =
    subst (AllAbove id) (sym (drop-cons rows i x within)) (
      subst (λ (q : PlacedRow). id < q.1.id) is more,
      each-weaker (λ placed. x.1.id < placed.1.id) (λ placed. id < placed.1.id) (λ r h. omega (arith, h, more)) (drop (suc i) rows) (behind_at rows i x a within is),
    )

below_differs : (a id : ℕ) → a < id → nat_eq a id ≡ false
below_differs a id h = grind (arith, nat_tests)

above_differs : (a id : ℕ) → id < a → nat_eq a id ≡ false
above_differs a id h = grind (arith, nat_tests)

none_below : (id : ℕ) (rows : List PlacedRow) → AllBelow id rows → HasNone id rows
none_below id rows all = each-weaker (λ placed. placed.1.id < id) (λ placed. nat_eq placed.1.id id ≡ false) (λ r h. below_differs r.1.id id h) rows all

none_above : (id : ℕ) (rows : List PlacedRow) → AllAbove id rows → HasNone id rows
none_above id rows all = each-weaker (λ placed. id < placed.1.id) (λ placed. nat_eq placed.1.id id ≡ false) (λ r h. above_differs r.1.id id h) rows all

-- where both ends meet there is no row
pub none_between : (rows : List PlacedRow) (low high id : ℕ) → high ≤ low → low ≤ high → AllBelow id (take low rows) → AllAbove id (drop high rows) → HasNone id rows
none_between rows low high id less more below above =
    let same : high ≡ low = omega arith in
    subst (HasNone id) (take-append-drop low rows)
    (each-append (λ placed. nat_eq placed.1.id id ≡ false) (take low rows) (drop low rows) (none_below id (take low rows) below)
    (none_above id (drop low rows) (subst (λ n. AllAbove id (drop n rows)) same above)))

pub found_at : (rows : List PlacedRow) (i id : ℕ) (x : PlacedRow) → IdsAscend (rows_of rows) → i < length rows → x ≡ get_or rows i x → x.1.id ≡ id
    → IsPlaceOf id rows i
found_at rows i id x a within is same = record {
  front = take i rows;
  here = x;
  back = drop (suc i) rows;
  parts = sym (take-append-drop i rows) ∙ ap (λ l. take i rows ++ l) (drop-cons rows i x within ∙ ap (λ (q : PlacedRow). q ∷ drop (suc i) rows) (sym is));
  place = length-take-le i rows (omega arith);
  within = within;
  is = same;
  before = none_below id (take i rows) (subst (λ n. AllBelow n (take i rows)) same (before_at rows i x a within is));
  behind = none_above id (drop (suc i) rows) (subst (λ n. AllAbove n (drop (suc i) rows)) same (behind_at rows i x a within is));
}

-- ---- the row of an id

pub none_found : (id : ℕ) (rows : List PlacedRow) → HasNone id rows → row_of id (rows_of rows) ≡ None
none_found id [] none = refl
none_found id (p ∷ rows) none = (λ i. cond (none.0 i) (Some p.1) (row_of id (rows_of rows))) ∙ none_found id rows none.1

past_front : (id : ℕ) (front : List PlacedRow) (here : PlacedRow) (back : List PlacedRow) → HasNone id front → here.1.id ≡ id
    → row_of id (rows_of (front ++ here ∷ back)) ≡ Some here.1
past_front id [] here back none is = ap (λ b. cond b (Some here.1) (row_of id (rows_of back))) (itself here.1.id id is)
  where
    itself : (a b : ℕ) → a ≡ b → nat_eq a b ≡ true
    itself a b e = grind (arith, nat_tests)
past_front id (p ∷ front) here back none is =
    (λ i. cond (none.0 i) (Some p.1) (row_of id (rows_of (front ++ here ∷ back)))) ∙ past_front id front here back none.1 is

at_front : (front : List PlacedRow) (here d : PlacedRow) (back : List PlacedRow) → get_or (front ++ here ∷ back) (length front) d ≡ here
at_front [] here d back = refl
at_front (p ∷ front) here d back = at_front front here d back

-- the row that stands there
pub is_here : (id at : ℕ) (rows : List PlacedRow) (x : PlacedRow) (place : IsPlaceOf id rows at) → x ≡ get_or rows at x → x ≡ place.here
is_here id at rows x place is =
    is ∙ ap (λ l. get_or l at x) place.parts ∙ ap (λ n. get_or (place.front ++ place.here ∷ place.back) n x) (sym place.place)
    ∙ at_front place.front place.here x place.back

pub row_found : (id at : ℕ) (rows : List PlacedRow) (x : PlacedRow) → IsPlaceOf id rows at → x ≡ get_or rows at x → Some x.1 ≡ row_of id (rows_of rows)
row_found id at rows x place is =
    ap (λ (q : PlacedRow). Some q.1) (is_here id at rows x place is)
    ∙ sym (ap (λ l. row_of id (rows_of l)) place.parts ∙ past_front id place.front place.here place.back place.before place.is)
