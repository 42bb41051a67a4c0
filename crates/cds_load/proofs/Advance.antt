-- How a load goes on through a tree: where nothing waits all is known, else the first that waits is listed next; and
-- a whole listing leads to what is known one id further.
use Rattle.std.proofs.Common.{◌≡◌, ℕ, ◌+◌, ◌<◌, ◌≤◌, List, [], ◌∷◌, length, Bool, true, false, cond, ◌&&◌, nat_lt, refl, ap, sym, subst, ◌∙◌, arith, Option, Some, None, inl, inr}
use Rattle.std.specs.Prelude.{MatchOption, nat_le, is_some, ◌⊎◌}
use Rattle.std.proofs.lemmas.Bool.{ltb-false, le-leb, lt-leb, leb-true, leb-false, and_parts}
use Rattle.std.proofs.lemmas.List.Sums.{length-filter}
use Rattle.std.specs.List.{AllByRecursion, filter, filter_map, cons_option, count_by}
use Rattle.std.specs.Option.{option_map}
use Rattle.cds_object.specs.Object.{ObjectRow, IsRow, is_folder}
use Rattle.cds_object.specs.Tree.{row_of, is_child_of, children_of, is_container_row, IsHeld, CountsChildren, IsTree}
use Rattle.cds_object.specs.declared.row.Trackers.{Trackers}
use Rattle.cds_load.specs.Stages.{Waiting, waiting_of}
use Rattle.cds_load.proofs.Merge.{Rises, KeepsKey, filter-all, made-above}
use Rattle.cds_load.proofs.Trees.{id_of, all-map, all-map_two, ascend-rises, each-found, found-id, folder-found}
use Rattle.cds_load.proofs.Frontier.{below, known, waits, waiting_at, filter_map-same, filter-same, filter-everything, track-waits_not, descends, all-descend, all-known_alike}

abbrev pub waiting_id : Waiting → ℕ
waiting_id w = w.id

-- what waits has its row's id
pub waiting-keeps : KeepsKey waiting_of id_of waiting_id
waiting-keeps row w made = by row.trackers made
  where
    by : (o : Option Trackers) → option_map (λ (t : Trackers). let v : Waiting = record { id = row.id; children = t.child_count } in v) o ≡ Some w → w.id ≡ row.id
    by None e = absurd (cc)
    by (Some t) e = let same : (record { id = row.id; children = t.child_count }) ≡ w = cc in ap waiting_id (sym same)

-- what holds of all that rows that pass are made into
pub made-all : (P : Waiting → Type 0) (test : ObjectRow → Bool) (rows : List ObjectRow) →
    AllByRecursion (λ row. test row ≡ true → (w : Waiting) → waiting_of row ≡ Some w → P w) rows → AllByRecursion P (filter_map waiting_of (filter test rows))
made-all P test [] all = tt
made-all P test (row ∷ rows) all = by (test row) refl (made-all P test rows all.1)
  where
    of_option : (o : Option Waiting) → waiting_of row ≡ o → test row ≡ true → AllByRecursion P (filter_map waiting_of (filter test rows)) →
        AllByRecursion P (cons_option o (filter_map waiting_of (filter test rows)))
    of_option None e passes rest = rest
    of_option (Some w) e passes rest = (all.0 passes w e, rest)

    by : (b : Bool) → test row ≡ b → AllByRecursion P (filter_map waiting_of (filter test rows)) →
        AllByRecursion P (filter_map waiting_of (cond b (row ∷ filter test rows) (filter test rows)))
    by true e rest = of_option (waiting_of row) refl e rest
    by false e rest = rest

-- what waits rises
pub waiting-rises : (test : ObjectRow → Bool) (rows : List ObjectRow) → Rises id_of rows → Rises waiting_id (filter_map waiting_of (filter test rows))
waiting-rises test [] rises = tt
waiting-rises test (row ∷ rows) rises = by (test row) (waiting-rises test rows rises.1)
  where
    of_option : (o : Option Waiting) → waiting_of row ≡ o → Rises waiting_id (filter_map waiting_of (filter test rows)) →
        Rises waiting_id (cons_option o (filter_map waiting_of (filter test rows)))
    of_option None e rest = rest
    of_option (Some w) e rest = (
      subst (λ k. AllByRecursion (λ (v : Waiting). k < v.id) (filter_map waiting_of (filter test rows))) (sym (waiting-keeps row w e))
          (made-above waiting_of id_of waiting_id waiting-keeps row.id (filter test rows) (filter-all _ test rows rises.0)),
      rest,
    )

    by : (b : Bool) → Rises waiting_id (filter_map waiting_of (filter test rows)) →
        Rises waiting_id (filter_map waiting_of (cond b (row ∷ filter test rows) (filter test rows)))
    by true rest = of_option (waiting_of row) refl rest
    by false rest = rest

-- what stands of one that waits: it is not below the id, and it is a folder's row that counts its children
pub record Stands (at : ℕ) (rows : List ObjectRow) (w : Waiting) : Type 0 where
  pub past : at ≤ w.id
  pub row : ObjectRow
  pub found : row_of w.id rows ≡ Some row
  pub folder : is_folder row.content ≡ true
  pub counts : w.children ≡ length (children_of w.id rows)

module _ (rows : List ObjectRow) (tree : IsTree rows) where
  stands-row : (at : ℕ) (row : ObjectRow) → row_of row.id rows ≡ Some row → IsRow row × CountsChildren rows row →
      waits at row ≡ true → (w : Waiting) → waiting_of row ≡ Some w → Stands at rows w
  stands-row at row found facts passes w made = by row.trackers refl made facts.1
    where
      by : (o : Option Trackers) → row.trackers ≡ o →
          option_map (λ (t : Trackers). let v : Waiting = record { id = row.id; children = t.child_count } in v) o ≡ Some w →
          MatchOption o (Unit {0}) (λ t. t.child_count ≡ count_by (is_child_of row.id) rows) → Stands at rows w
      by None e made counts = absurd (cc)
      by (Some t) e made counts =
          let v : Waiting = record { id = row.id; children = t.child_count } in
          let same : v ≡ w = cc in
          subst (Stands at rows) same (record {
            past = leb-true at row.id (and_parts _ _ passes).1;
            row = row;
            found = found;
            folder = sym facts.0.tracked ∙ ap is_some e;
            counts = counts ∙ sym (length-filter (is_child_of row.id) rows);
          })

  pub all-stand : (at : ℕ) → AllByRecursion (Stands at rows) (waiting_at at rows)
  all-stand at = made-all (Stands at rows) (waits at) rows
      (all-map_two (λ row found facts. stands-row at row found facts) rows (each-found rows (ascend-rises rows tree.ascending))
      (all-map_two (λ row is counts. (is, counts)) rows tree.each tree.counted))

  -- where nothing waits, every row is known
  pub nothing-waits : (at : ℕ) → waiting_at at rows ≡ [] → filter (known at) rows ≡ rows
  nothing-waits at none = filter-everything (known at) rows (all-map is_known rows tree.held)
    where
      is_known : (row : ObjectRow) → IsHeld rows row → known at row ≡ true
      is_known row held = of_parent row.parent held
        where
          of_parent : (o : Option ℕ) → MatchOption o (row.id ≡ 0) (λ parent. (parent < row.id) × (is_container_row (row_of parent rows) ≡ true)) →
              below at o ≡ true
          of_parent None h = refl
          of_parent (Some parent) h = by (nat_lt parent at) refl
            where
              by : (b : Bool) → nat_lt parent at ≡ b → nat_lt parent at ≡ true
              by true e = e
              by false e =
                  let q = folder-found (row_of parent rows) h.1 in
                  let id : q.0.id ≡ parent = found-id parent rows q.0 q.1 in
                  let past : at ≤ parent = ltb-false parent at e in
                  let nobody : AllByRecursion (λ (w : Waiting). parent + 1 ≤ w.id) (waiting_at at rows) =
                  subst (λ ws. AllByRecursion (λ (w : Waiting). parent + 1 ≤ w.id) ws) (sym none) tt in
                  let low : parent + 1 ≤ q.0.id =
                  descends rows tree at (parent + 1) nobody q.0.id q.0 (omega arith) (ap (λ k. row_of k rows) id ∙ q.1) q.2 (omega (arith, id, past)) in
                  absurd (omega (arith, id, low))

  -- the first that waits is the least, so that what is known and what waits is the same at its own id
  pub first-is_least : (at : ℕ) (w : Waiting) (ws : List Waiting) → waiting_at at rows ≡ w ∷ ws →
      AllByRecursion (λ (v : Waiting). w.id ≤ v.id) (waiting_at at rows)
  first-is_least at w ws is =
      let rises : Rises waiting_id (w ∷ ws) = subst (Rises waiting_id) is (waiting-rises (waits at) rows (ascend-rises rows tree.ascending)) in
      let all : AllByRecursion (λ (v : Waiting). w.id ≤ v.id) (w ∷ ws) = (omega arith, all-map (λ v above. omega (arith, above)) ws rises.0) in
      subst (AllByRecursion (λ (v : Waiting). w.id ≤ v.id)) (sym is) all

  pub first-stands : (at : ℕ) (w : Waiting) (ws : List Waiting) → waiting_at at rows ≡ w ∷ ws → Stands at rows w
  first-stands at w ws is = let P : List Waiting → Type 0 = AllByRecursion (Stands at rows) in (subst P is (all-stand at)).0

  pub known-first : (at : ℕ) (w : Waiting) (ws : List Waiting) → waiting_at at rows ≡ w ∷ ws →
      filter (known at) rows ≡ filter (known w.id) rows
  known-first at w ws is =
      filter-same (known at) (known w.id) rows (all-known_alike rows tree at w.id (first-is_least at w ws is) (first-stands at w ws is).past)

  pub waiting-first : (at : ℕ) (w : Waiting) (ws : List Waiting) → waiting_at at rows ≡ w ∷ ws → waiting_at at rows ≡ waiting_at w.id rows
  waiting-first at w ws is = filter_map-same waiting_of (waits at) (waits w.id) rows
      (all-map_two (λ row a b. one row a b) rows
      (all-map_two (λ row same descent. (same, descent)) rows
      (all-known_alike rows tree at w.id least past) (all-descend rows tree at w.id least))
      tree.each)
    where
      least : AllByRecursion (λ (v : Waiting). w.id ≤ v.id) (waiting_at at rows)
      least = first-is_least at w ws is

      past : at ≤ w.id
      past = (first-stands at w ws is).past

      one : (row : ObjectRow) → (known at row ≡ known w.id row) × (is_folder row.content ≡ true → at ≤ row.id → w.id ≤ row.id) → IsRow row →
          (waiting_of row ≡ None) ⊎ (waits at row ≡ waits w.id row)
      one row facts isrow = by (is_folder row.content) refl
        where
          level : is_folder row.content ≡ true → (b : Bool) → nat_le at row.id ≡ b → nat_le at row.id ≡ nat_le w.id row.id
          level folder true e = e ∙ sym (le-leb w.id row.id (facts.1 folder (leb-true at row.id e)))
          level folder false e = e ∙ sym (lt-leb w.id row.id (let l : row.id < at = leb-false at row.id e in omega (arith, l, past)))

          by : (b : Bool) → is_folder row.content ≡ b → (waiting_of row ≡ None) ⊎ (waits at row ≡ waits w.id row)
          by true folder = inr (λ i. facts.0 i && level folder (nat_le at row.id) refl i)
          by false track = inl (track-waits_not row isrow track)
