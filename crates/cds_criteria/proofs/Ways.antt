-- As many steps as there are rows find every way from a row to a container: each further step finds a further row, until one finds
-- none, and from then on none is found.
use Rattle.std.proofs.Common.{◌≡◌, ◌+◌, ◌<◌, ◌≤◌, cond, ℕ, suc, zero, nat_eq, List, [], ◌∷◌, length, Bool, true, false, Option, Some, None, refl, sym, ap, subst, ◌∙◌, ◌⊎◌, inl, inr, arith}
use Rattle.std.specs.Prelude.{slice_get}
use Rattle.std.specs.List.{AllByRecursion}
use Rattle.std.proofs.lemmas.Bool.{cases_lt}
use Rattle.std.proofs.lemmas.Bool.Decides.{nat_tests}
use Rattle.std.proofs.lemmas.Option.{same_Some, none-some, slice_get-get_or}
use Rattle.cds_object.specs.Object.{ObjectRow}
use Rattle.cds_object.specs.Tree.{row_of}
use Rattle.cds_criteria.specs.Descendants.{Under, child, deeper, parent_in, leads_within}
use Rattle.cds_criteria.specs.SortLaws as laws

abbrev No : Bool → Type 0
No true = ⊥
No false = Unit {0}

each : (P : ObjectRow → Type 0) → ((row : ObjectRow) → P row) → (rows : List ObjectRow) → AllByRecursion P rows
each P f [] = tt
each P f (row ∷ rows) = (f row, each P f rows)

-- what holds of each row holds of the row of an id, and of the row at a place
of_id : (P : ObjectRow → Type 0) (rows : List ObjectRow) (id : ℕ) (next : ObjectRow) → AllByRecursion P rows → row_of id rows ≡ Some next → P next
of_id P [] id next all e = absurd (none-some next e)
of_id P (row ∷ rows) id next all e = by (nat_eq row.id id) e (λ f. of_id P rows id next all.1 f)
  where
    by : (v : Bool) → cond v (Some row) (row_of id rows) ≡ Some next → (row_of id rows ≡ Some next → P next) → P next
    by true e go = subst P (same_Some row next e) all.0
    by false e go = go e

at_place : (P : ObjectRow → Type 0) (rows : List ObjectRow) (place : ℕ) (row : ObjectRow) → AllByRecursion P rows → slice_get rows place ≡ Some row → P row
at_place P [] place row all e = absurd (none-some row e)
at_place P (x ∷ rows) zero row all e = subst P (same_Some x row e) all.0
at_place P (x ∷ rows) (suc place) row all e = at_place P rows place row all.1 e

rise_by : (u v : Bool) (a b : ℕ) → (u ≡ true → v ≡ true) → a ≤ b → cond u (suc a) a ≤ cond v (suc b) b
rise_by true true a b go h = omega (arith, h)
rise_by true false a b go h = absurd (subst No (go refl) tt)
rise_by false true a b go h = omega (arith, h)
rise_by false false a b go h = h

same_by : (u v : Bool) (a b : ℕ) → (u ≡ true → v ≡ true) → a ≤ b → cond v (suc b) b ≤ cond u (suc a) a → (u ≡ v) × (b ≤ a)
same_by true true a b go h k = (refl, omega (arith, k))
same_by true false a b go h k = absurd (subst No (go refl) tt)
same_by false true a b go h k = absurd (omega (arith, h, k))
same_by false false a b go h k = (refl, k)

few_by : (u : Bool) (a n : ℕ) → a ≤ n → cond u (suc a) a ≤ suc n
few_by true a n h = omega (arith, h)
few_by false a n h = omega (arith, h)

module _ (rows : List ObjectRow) (container : ℕ) where
  -- ---- one step

  pub none_leads : (steps : ℕ) → leads_within steps rows container None ≡ false
  none_leads zero = refl
  none_leads (suc steps) = refl

  pub arrives : (steps id : ℕ) → nat_eq id container ≡ true → leads_within (suc steps) rows container (Some id) ≡ true
  arrives steps id e = ap (λ (v : Bool). elim v [ true ↦ true | false ↦ leads_within steps rows container (parent_in (row_of id rows)) ]) e

  pub goes_on : (steps id : ℕ) → nat_eq id container ≡ false → leads_within (suc steps) rows container (Some id) ≡ leads_within steps rows container (parent_in (row_of id rows))
  goes_on steps id e = ap (λ (v : Bool). elim v [ true ↦ true | false ↦ leads_within steps rows container (parent_in (row_of id rows)) ]) e

  -- ---- more steps find no less

  more_by : (v : Bool) (steps : ℕ) (next : Option ℕ) → (leads_within steps rows container next ≡ true → leads_within (suc steps) rows container next ≡ true)
      → (elim v [ true ↦ true | false ↦ leads_within steps rows container next ]) ≡ true → (elim v [ true ↦ true | false ↦ leads_within (suc steps) rows container next ]) ≡ true
  more_by true steps next go e = refl
  more_by false steps next go e = go e

  pub more : (steps : ℕ) (parent : Option ℕ) → leads_within steps rows container parent ≡ true → leads_within (suc steps) rows container parent ≡ true
  more zero parent e = absurd (subst No e tt)
  more (suc steps) None e = absurd (subst No e tt)
  more (suc steps) (Some id) e = more_by (nat_eq id container) steps (parent_in (row_of id rows)) (more steps (parent_in (row_of id rows))) e

  pub far_more : (further steps : ℕ) (parent : Option ℕ) → leads_within steps rows container parent ≡ true → leads_within (steps + further) rows container parent ≡ true
  far_more zero steps parent e = let same : steps ≡ steps + 0 = omega arith in subst (λ n. leads_within n rows container parent ≡ true) same e
  far_more (suc further) steps parent e =
      let same : suc steps + further ≡ steps + suc further = omega arith in
      subst (λ n. leads_within n rows container parent ≡ true) same (far_more further (suc steps) parent (more steps parent e))

  -- ---- how many rows are found

  abbrev leads : ℕ → ObjectRow → Bool
  leads steps row = leads_within steps rows container row.parent

  abbrev found : ℕ → List ObjectRow → ℕ
  found steps [] = 0
  found steps (row ∷ others) = cond (leads steps row) (suc (found steps others)) (found steps others)

  few : (steps : ℕ) (others : List ObjectRow) → found steps others ≤ length others
  few steps [] = omega arith
  few steps (row ∷ others) = few_by (leads steps row) (found steps others) (length others) (few steps others)

  rise : (steps : ℕ) (others : List ObjectRow) → found steps others ≤ found (suc steps) others
  rise steps [] = omega arith
  rise steps (row ∷ others) =
      rise_by (leads steps row) (leads (suc steps) row) (found steps others) (found (suc steps) others) (more steps row.parent) (rise steps others)

  -- one more step finds no further row
  abbrev Still : ℕ → List ObjectRow → Type 0
  Still steps others = AllByRecursion (λ (row : ObjectRow). leads steps row ≡ leads (suc steps) row) others

  same : (steps : ℕ) (others : List ObjectRow) → found (suc steps) others ≤ found steps others → Still steps others
  same steps [] k = tt
  same steps (row ∷ others) k =
      let s = same_by (leads steps row) (leads (suc steps) row) (found steps others) (found (suc steps) others) (more steps row.parent) (rise steps others) k in
      (s.0, same steps others s.1)

  -- then no further step does
  next_same : (steps : ℕ) → Still steps rows → (id : ℕ) (o : Option ObjectRow) → row_of id rows ≡ o
      → leads_within steps rows container (parent_in o) ≡ leads_within (suc steps) rows container (parent_in o)
  next_same steps still id None e = none_leads steps
  next_same steps still id (Some next) e = of_id (λ (row : ObjectRow). leads steps row ≡ leads (suc steps) row) rows id next still e

  stays_at : (steps : ℕ) → Still steps rows → (parent : Option ℕ) → leads_within (suc steps) rows container parent ≡ leads_within (suc (suc steps)) rows container parent
  stays_at steps still None = refl
  stays_at steps still (Some id) = ap (λ (w : Bool). elim (nat_eq id container) [ true ↦ true | false ↦ w ]) (next_same steps still id (row_of id rows) refl)

  stays : (steps : ℕ) → Still steps rows → Still (suc steps) rows
  stays steps still = each (λ (row : ObjectRow). leads (suc steps) row ≡ leads (suc (suc steps)) row) (λ row. stays_at steps still row.parent) rows

  grows_by : (steps : ℕ) → steps ≤ found steps rows → (found steps rows < found (suc steps) rows) ⊎ (found (suc steps) rows ≤ found steps rows)
      → Still (suc steps) rows ⊎ (suc steps ≤ found (suc steps) rows)
  grows_by steps h (inl l) = inr (omega (arith, l, h))
  grows_by steps h (inr k) = inl (stays steps (same steps rows k))

  grows_from : (steps : ℕ) → Still steps rows ⊎ (steps ≤ found steps rows) → Still (suc steps) rows ⊎ (suc steps ≤ found (suc steps) rows)
  grows_from steps (inl still) = inl (stays steps still)
  grows_from steps (inr h) = grows_by steps h (cases_lt (found steps rows) (found (suc steps) rows))

  grows : (steps : ℕ) → Still steps rows ⊎ (steps ≤ found steps rows)
  grows zero = inr (omega arith)
  grows (suc steps) = grows_from steps (grows steps)

  settled_by : Still (length rows) rows ⊎ (length rows ≤ found (length rows) rows) → Still (length rows) rows
  settled_by (inl still) = still
  settled_by (inr h) = same (length rows) rows (let k = few (suc (length rows)) rows in omega (arith, h, k))

  settled : Still (length rows) rows
  settled = settled_by (grows (length rows))

  pub same_at : (place : ℕ) (row : ObjectRow) → slice_get rows place ≡ Some row
      → leads_within (length rows) rows container row.parent ≡ leads_within (suc (length rows)) rows container row.parent
  same_at place row e = at_place (λ (r : ObjectRow). leads (length rows) r ≡ leads (suc (length rows)) r) rows place row settled e

  -- ---- ways of any length

  still_on : (further : ℕ) → Still (length rows + further) rows
  still_on zero = let e : length rows ≡ length rows + 0 = omega arith in subst (λ n. Still n rows) e settled
  still_on (suc further) = let e : suc (length rows + further) ≡ length rows + suc further = omega arith in subst (λ n. Still n rows) e (stays (length rows + further) (still_on further))

  same_on : (further place : ℕ) (row : ObjectRow) → slice_get rows place ≡ Some row → leads (length rows + further) row ≡ leads (length rows) row
  same_on zero place row e = let same : length rows + 0 ≡ length rows = omega arith in ap (λ n. leads n row) same
  same_on (suc further) place row e =
      let same : length rows + suc further ≡ suc (length rows + further) = omega arith in
      ap (λ n. leads n row) same
      ∙ sym (at_place (λ (r : ObjectRow). leads (length rows + further) r ≡ leads (suc (length rows + further)) r) rows place row (still_on further) e)
      ∙ same_on further place row e

itself : (id : ℕ) → nat_eq id id ≡ true
itself id = grind (arith, nat_tests)

way_by : (rows : List ObjectRow) (container steps id : ℕ) (parent : ObjectRow) → row_of id rows ≡ Some parent → leads_within steps rows container parent.parent ≡ true
    → (v : Bool) → nat_eq id container ≡ v → leads_within (suc steps) rows container (Some id) ≡ true
way_by rows container steps id parent f e true q = arrives rows container steps id q
way_by rows container steps id parent f e false q =
    goes_on rows container steps id q ∙ ap (λ (o : Option ObjectRow). leads_within steps rows container (parent_in o)) f ∙ e

under_leads : (rows : List ObjectRow) (container n : ℕ) (row : ObjectRow) → Under rows container n row → leads_within (suc n) rows container row.parent ≡ true
under_leads rows container _ _ (child row e) = ap (leads_within 1 rows container) e ∙ arrives rows container 0 container (itself container)
under_leads rows container _ _ (deeper m row parent id e f under) =
    ap (leads_within (suc (suc m)) rows container) e
    ∙ way_by rows container (suc m) id parent f (under_leads rows container m parent under) (nat_eq id container) refl

pub ways_found : laws.ways_are_found
ways_found rows container n row here under =
    let at : slice_get rows here.0 ≡ Some row = slice_get-get_or rows here.0 row here.1 ∙ ap (λ (r : ObjectRow). Some r) here.2 in
    let long : suc n + length rows ≡ length rows + suc n = omega arith in
    let e = far_more rows container (length rows) (suc n) row.parent (under_leads rows container n row under) in
    sym (same_on rows container (suc n) here.0 row at) ∙ subst (λ m. leads_within m rows container row.parent ≡ true) long e
