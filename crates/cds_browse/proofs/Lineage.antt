-- Where parents lead, from row to row, and what is known of it.
use Rattle.std.proofs.Common.{◌≡◌, ◌+◌, ◌<◌, ◌≤◌, ℕ, zero, suc, Bool, true, false, cond, nat_eq, List, [], ◌∷◌, map, length, get_or, set, Option, Some, None, refl, sym, ap, subst, ◌∙◌, ◌⊎◌, inl, inr, arith}
use Rattle.std.specs.Prelude.{◌&&◌, slice_get, filter, replicate}
use Rattle.std.proofs.lemmas.Bool.{cases_eq}
use Rattle.std.proofs.lemmas.Bool.Decides.{nat_tests}
use Rattle.std.proofs.lemmas.List.{get_or-set_same, get_or-set_other, length-set, length-replicate, get_or-replicate}
use Rattle.std.proofs.lemmas.Option.{same_Some, none-some}
use Rattle.cds_object.specs.Object.{ObjectRow}
use Rattle.cds_criteria.specs.Criteria.{Criteria}
use Rattle.cds_criteria.specs.Descendants.{parent_in, leads_within, is_below}
use Rattle.cds_criteria.specs.Meaning.{meets}
use Rattle.cds_criteria.proofs.Ways.{none_leads, arrives, goes_on, far_more, same_at}
use Rattle.cds_browse.specs.Lineage.{leads_from, leads, Knows, AreKnown, IsLast, last_of, is_found}
use Rattle.cds_browse.specs.Places.{place_in, ArePlaces}
use Rattle.cds_browse.specs.Searching.{found_in}
use Rattle.cds_browse.specs.declared.descendants.Last.{Last}
use Rattle.cds_browse.proofs.Placing.{at_place, past_end}

abbrev No : Bool → Type 0
No true = ⊥
No false = Unit {0}

-- ---- one row

-- one more step finds no more from a row that is there
pub same_place : (rows : List ObjectRow) (container place : ℕ) → place < length rows → leads rows container place ≡ leads_from (suc (length rows)) rows container place
same_place rows container place within = by (slice_get rows place) refl
  where
    by : (o : Option ObjectRow) → slice_get rows place ≡ o → leads rows container place ≡ leads_from (suc (length rows)) rows container place
    by None e = absurd (past_end rows place within e)
    by (Some row) e =
        ap (λ (o : Option ObjectRow). leads_within (length rows) rows container (parent_in o)) e ∙ same_at rows container place row e
        ∙ sym (ap (λ (o : Option ObjectRow). leads_within (suc (length rows)) rows container (parent_in o)) e)

-- a row without a parent
pub no_parent : (rows : List ObjectRow) (container place : ℕ) → parent_in (slice_get rows place) ≡ None → leads rows container place ≡ false
no_parent rows container place e = ap (leads_within (length rows) rows container) e ∙ none_leads rows container (length rows)

-- the parent is the container
pub arrived : (rows : List ObjectRow) (container place id : ℕ) → place < length rows → parent_in (slice_get rows place) ≡ Some id → id ≡ container
    → leads rows container place ≡ true
arrived rows container place id within e is =
    same_place rows container place within ∙ ap (leads_within (suc (length rows)) rows container) e ∙ arrives rows container (length rows) id (itself id container is)
  where
    itself : (a b : ℕ) → a ≡ b → nat_eq a b ≡ true
    itself a b e = grind (arith, nat_tests)

differs : (a b : ℕ) → (a ≡ b → ⊥) → nat_eq a b ≡ false
differs a b no_equal = grind (arith, nat_tests)

-- the way goes on from the row of the parent
pub further : (rows : List ObjectRow) (container place id steps : ℕ) → parent_in (slice_get rows place) ≡ Some id → (id ≡ container → ⊥)
    → leads_from (suc steps) rows container place ≡ leads_from steps rows container (place_in id rows)
further rows container place id steps e other =
    ap (leads_within (suc steps) rows container) e ∙ goes_on rows container steps id (differs id container other)
    ∙ ap (λ (o : Option ObjectRow). leads_within steps rows container (parent_in o)) (sym (at_place id rows))

past_is : (rows : List ObjectRow) (place : ℕ) → length rows ≤ place → slice_get rows place ≡ None
past_is [] place l = refl
past_is (x ∷ rows) zero l = absurd (omega (arith, l))
past_is (x ∷ rows) (suc place) l = past_is rows place (omega (arith, l))

-- the parent has no row
pub gone : (rows : List ObjectRow) (container place id : ℕ) → place < length rows → parent_in (slice_get rows place) ≡ Some id → (id ≡ container → ⊥)
    → length rows ≤ place_in id rows → leads rows container place ≡ false
gone rows container place id within e other past =
    same_place rows container place within ∙ further rows container place id (length rows) e other
    ∙ no_parent rows container (place_in id rows) (ap parent_in (past_is rows (place_in id rows) past))

-- the answer of a row is that of its parent's
pub same_next : (rows : List ObjectRow) (container place next : ℕ) → place < length rows
    → ((steps : ℕ) → leads_from (suc steps) rows container place ≡ leads_from steps rows container next) → leads rows container place ≡ leads rows container next
same_next rows container place next within on = same_place rows container place within ∙ on (length rows)

-- ---- a walk

-- one more step of a walk
pub walked : (rows : List ObjectRow) (container from steps at next : ℕ) → ((m : ℕ) → leads_from (m + steps) rows container from ≡ leads_from m rows container at)
    → ((m : ℕ) → leads_from (suc m) rows container at ≡ leads_from m rows container next) → (m : ℕ) → leads_from (m + (steps + 1)) rows container from ≡ leads_from m rows container next
walked rows container from steps at next so on m =
    let e : m + (steps + 1) ≡ suc m + steps = omega arith in
    ap (λ n. leads_from n rows container from) e ∙ so (suc m) ∙ on m

-- a walk begins where it is
pub begun : (rows : List ObjectRow) (container from m : ℕ) → leads_from (m + 0) rows container from ≡ leads_from m rows container from
begun rows container from m = let e : m + 0 ≡ m = omega arith in ap (λ n. leads_from n rows container from) e

-- a walk that comes back to a row leads nowhere
circle_by : (rows : List ObjectRow) (container from steps m : ℕ) → ((n : ℕ) → leads_from (n + (steps + 1)) rows container from ≡ leads_from n rows container from)
    → leads_from m rows container from ≡ false → (v : Bool) → leads_from (suc m) rows container from ≡ v → v ≡ false
circle_by rows container from steps m so e false f = refl
circle_by rows container from steps m so e true f =
    let same : suc m + steps ≡ m + (steps + 1) = omega arith in
    let long : leads_from (m + (steps + 1)) rows container from ≡ true = subst (λ n. leads_from n rows container from ≡ true) same (far_more rows container steps (suc m) (parent_in (slice_get rows from)) f) in
    absurd (subst No (sym (so m ∙ e) ∙ long) tt)

pub circle : (rows : List ObjectRow) (container from steps : ℕ) → ((n : ℕ) → leads_from (n + (steps + 1)) rows container from ≡ leads_from n rows container from)
    → (m : ℕ) → leads_from m rows container from ≡ false
circle rows container from steps so zero = refl
circle rows container from steps so (suc m) = circle_by rows container from steps m so (circle rows container from steps so m) (leads_from (suc m) rows container from) refl

-- a walk of as many steps as there are rows leads nowhere
pub far : (rows : List ObjectRow) (container from steps at : ℕ) → ((m : ℕ) → leads_from (m + steps) rows container from ≡ leads_from m rows container at)
    → steps ≡ length rows → leads rows container from ≡ false
far rows container from steps at so e =
    let same : length rows ≡ 0 + steps = omega (arith, e) in
    ap (λ n. leads_from n rows container from) same ∙ so 0

-- ---- what is known

pub nothing_known : (rows : List ObjectRow) (container n : ℕ) (known : List (Option Bool)) → n ≡ length rows → known ≡ replicate n None → AreKnown rows container known
nothing_known rows container n known e is = subst (AreKnown rows container) (sym is) (record {
  long = length-replicate n None ∙ e;
  right = λ place d within. subst (Knows rows container place) (sym (get_or-replicate n place None d (omega (arith, e, within)))) tt;
})

pub is_known : (rows : List ObjectRow) (container place : ℕ) (known : List (Option Bool)) (o : Option Bool) (below : Bool) → AreKnown rows container known → place < length rows
    → o ≡ get_or known place o → o ≡ Some below → leads rows container place ≡ below
is_known rows container place known o below are within is e = subst (Knows rows container place) (sym is ∙ e) (are.right place o within)

pub one_more : (rows : List ObjectRow) (container place : ℕ) (known : List (Option Bool)) (below : Bool) → AreKnown rows container known → place < length rows
    → leads rows container place ≡ below → AreKnown rows container (set known place (Some below))
one_more rows container place known below are within e = record {
  long = length-set known place (Some below) ∙ are.long;
  right = λ at d inside. by at d inside (cases_eq at place);
}
  where
    by : (at : ℕ) (d : Option Bool) → at < length rows → (at ≡ place) ⊎ (at ≡ place → ⊥) → Knows rows container at (get_or (set known place (Some below)) at d)
    by at d inside (inl same) =
        let long = are.long in
        let here : get_or (set known place (Some below)) at d ≡ Some below = ap (λ n. get_or (set known place (Some below)) n d) same ∙ get_or-set_same known place (Some below) d (omega (arith, within, long)) in
        subst (Knows rows container at) (sym here) (ap (leads rows container) same ∙ e)
    by at d inside (inr other) = subst (Knows rows container at) (sym (get_or-set_other known place at (Some below) d other)) (are.right at d inside)

-- the last answer
pub last_is : (rows : List ObjectRow) (container place parent : ℕ) (last : Option Last) (below : Bool) → IsLast rows container last → parent_in (slice_get rows place) ≡ Some parent
    → last_of parent last ≡ Some below → below ≡ leads rows container place
last_is rows container place parent None below is e f = absurd (none-some below f)
last_is rows container place parent (Some last) below is e f = by (nat_eq last.parent parent) refl f
  where
    by : (v : Bool) → nat_eq last.parent parent ≡ v → cond v (Some last.below) None ≡ Some below → below ≡ leads rows container place
    by false q f = absurd (none-some below f)
    by true q f =
        let same : last.parent ≡ parent = equals last.parent parent q in
        sym (same_Some last.below below f) ∙ sym is ∙ ap (λ n. leads_within (length rows) rows container (Some n)) same ∙ sym (ap (leads_within (length rows) rows container) e)
      where
        equals : (a b : ℕ) → nat_eq a b ≡ true → a ≡ b
        equals a b q = grind (arith, nat_tests)

-- ---- rows that are found

both_by : (criteria : Criteria) (row : ObjectRow) (one two : List ObjectRow) → two ≡ filter (meets criteria) one → (u v : Bool) → meets criteria row ≡ u
    → cond (u && v) (row ∷ two) two ≡ filter (meets criteria) (cond v (row ∷ one) one)
both_by criteria row one two e true true f =
    ap (λ l. row ∷ l) e ∙ sym (ap (λ (b : Bool). cond b (row ∷ filter (meets criteria) one) (filter (meets criteria) one)) f)
both_by criteria row one two e true false f = e
both_by criteria row one two e false true f =
    e ∙ sym (ap (λ (b : Bool). cond b (row ∷ filter (meets criteria) one) (filter (meets criteria) one)) f)
both_by criteria row one two e false false f = e

found_both : (criteria : Criteria) (container : ℕ) (all rows : List ObjectRow) → filter (is_found criteria container all) rows ≡ filter (meets criteria) (filter (is_below all container) rows)
found_both criteria container all [] = refl
found_both criteria container all (row ∷ rows) =
    both_by criteria row (filter (is_below all container) rows) (filter (is_found criteria container all) rows) (found_both criteria container all rows)
    (meets criteria row) (is_below all container row) refl

pub all_found : (criteria : Criteria) (container : ℕ) (rows : List ObjectRow) (places : List ℕ) → ArePlaces rows places (filter (is_found criteria container rows) rows)
    → ArePlaces rows places (found_in criteria container rows)
all_found criteria container rows places are = are ∙ ap (map (λ (row : ObjectRow). Some row)) (found_both criteria container rows rows)
