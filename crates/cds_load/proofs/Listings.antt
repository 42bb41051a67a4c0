-- A listing of a tree: what a load under one catalog holds, and what each page of that catalog makes of it.
use Rattle.std.proofs.Common.{◌≡◌, ℕ, ◌+◌, ◌-◌, ◌<◌, nat_eq, min, List, [], ◌∷◌, ◌++◌, length, take, drop, map, Bool, true, false, cond, refl, ap, sym, subst, ◌∙◌, arith, inl, inr}
use Rattle.std.specs.Prelude.{◌⊎◌}
use Rattle.std.proofs.lemmas.List.{length-take, length-drop}
use Rattle.std.proofs.lemmas.Bool.{eq-eqb, eqb-true, eqb-false, and_from, cases_lt}
use Rattle.std.specs.List.{AllByRecursion, filter, list_all}
use Rattle.cds_object.specs.Object.{ObjectRow}
use Rattle.cds_object.specs.Tree.{is_child_of, children_of, IsTree}
use Rattle.cds_load.specs.Server.{page_size}
use Rattle.cds_load.specs.Stages.{Waiting, Listing, Held, Idle, Begun, HasToken, HasNumber, HasRoot, Lists, HasPage, HasCopy, put_rows, put_containers, listed_id, listed_children, others_waiting, known_ids, all_new, fits, listed, after_page, Loads}
use Rattle.cds_load.proofs.Merge.{Rises}
use Rattle.cds_load.proofs.Trees.{id_of, all-map, all-map_two, ascend-rises}
use Rattle.cds_load.proofs.Frontier.{known, waiting_at}
use Rattle.cds_load.proofs.Advance.{nothing-waits, known-first, waiting-first}
use Rattle.cds_load.proofs.Whole.{rows-after, waiting-after, apart-child, all-of}
use Rattle.cds_load.proofs.Pages.{take-all, drop-all, take-rises, drop-rises, filter-rises, front-below, passes-all, all-list_all, rising-new, ids-all, tests-part, front-and-page, front-whole}

-- a listing of a tree at the first container that waits
pub record IsListing (rows : List ObjectRow) (l : Listing) : Type 0 where
  pub first : Waiting
  pub others : List Waiting
  pub shown : l.rows ≡ filter (known first.id) rows
  pub waiting : l.waiting ≡ first ∷ others
  pub wait : waiting_at first.id rows ≡ first ∷ others
  pub front : l.part ≡ take (length l.part) (children_of first.id rows)
  pub room : (length l.part ≡ 0) ⊎ (length l.part < length (children_of first.id rows))

-- what is held follows a catalog: a listing of it, or its copy
abbrev pub Follows : List ObjectRow → ℕ → Held → Type 0
Follows rows number Idle = ⊥
Follows rows number (Loads Begun) = ⊥
Follows rows number (Loads HasToken) = ⊥
Follows rows number (Loads (HasNumber n)) = ⊥
Follows rows number (Loads (HasRoot n root)) = ⊥
Follows rows number (Loads (Lists n l)) = (n ≡ number) × IsListing rows l
Follows rows number (Loads (HasPage n l page)) = ⊥
Follows rows number (HasCopy n copy) = (n ≡ number) × (copy ≡ rows)

module _ (rows : List ObjectRow) (tree : IsTree rows) where
  -- once every container below an id is listed, the first that waits is next, or the copy is whole
  pub listed-follows : (number at : ℕ) → Follows rows number (listed number (filter (known at) rows) (waiting_at at rows))
  listed-follows number at = by (waiting_at at rows) refl
    where
      by : (ws : List Waiting) → waiting_at at rows ≡ ws → Follows rows number (listed number (filter (known at) rows) ws)
      by [] none = (refl, nothing-waits rows tree at none)
      by (w ∷ ws) is = (
        refl,
        record {
          first = w;
          others = ws;
          shown = known-first rows tree at w ws is;
          waiting = refl;
          wait = sym (waiting-first rows tree at w ws is) ∙ is;
          front = refl;
          room = inl refl;
        },
      )

  -- the page that is next fits
  pub page-fits : (at k : ℕ) (l : Listing) (w : Waiting) (ws : List Waiting) → l.rows ≡ filter (known at) rows → l.waiting ≡ w ∷ ws → w.id ≡ at →
      w.children ≡ length (children_of at rows) → l.part ≡ take k (children_of at rows) → length l.part ≡ k →
      fits l (take page_size (drop k (children_of at rows))) ≡ true
  page-fits at k l w ws shown waiting id counts front long =
      and_from _ _ (and_from _ _ children new) size
    where
      page : List ObjectRow
      page = take page_size (drop k (children_of at rows))

      kids_rise : Rises id_of (children_of at rows)
      kids_rise = filter-rises id_of (is_child_of at) rows (ascend-rises rows tree.ascending)

      own_id : listed_id l ≡ at
      own_id = ap (λ v. listed_id (record l { waiting = v })) waiting ∙ id

      own_count : listed_children l ≡ length (children_of at rows)
      own_count = ap (λ v. listed_children (record l { waiting = v })) waiting ∙ counts

      children : list_all (is_child_of (listed_id l)) page ≡ true
      children = ap (λ v. list_all (is_child_of v) page) own_id
          ∙ all-list_all (is_child_of at) page (take-all _ page_size _ (drop-all _ k _ (passes-all (is_child_of at) rows)))

      of_rows : AllByRecursion (λ (row : ObjectRow). AllByRecursion (λ (other : ObjectRow). row.id ≡ other.id → ⊥) (filter (known at) rows)) page
      of_rows = take-all _ page_size _ (drop-all _ k _
          (tests-part (known at) (is_child_of at) rows (ascend-rises rows tree.ascending) (all-of _ (apart-child at) rows)))

      above_part : (ys zs : List ObjectRow) → AllByRecursion (λ (x : ObjectRow). AllByRecursion (λ (y : ObjectRow). x.id < y.id) ys) zs →
          AllByRecursion (λ (y : ObjectRow). AllByRecursion (λ (x : ObjectRow). y.id ≡ x.id → ⊥) zs) ys
      above_part [] zs all = tt
      above_part (y ∷ ys) zs all = (
        all-map {Q = λ (x : ObjectRow). y.id ≡ x.id → ⊥} (λ (x : ObjectRow) lows e. absurd (omega (arith, lows.0, e))) zs all,
        above_part ys zs (all-map (λ (x : ObjectRow) lows. lows.1) zs all),
      )

      of_part : AllByRecursion (λ (row : ObjectRow). AllByRecursion (λ (other : ObjectRow). row.id ≡ other.id → ⊥) (take k (children_of at rows))) page
      of_part = take-all _ page_size _ (above_part (drop k (children_of at rows)) (take k (children_of at rows)) (front-below id_of k _ kids_rise))

      ids : known_ids l ≡ map (λ (row : ObjectRow). row.id) (filter (known at) rows ++ take k (children_of at rows))
      ids = λ i. map (λ (row : ObjectRow). row.id) (shown i ++ front i)

      new : all_new (known_ids l) page ≡ true
      new = ap (λ v. all_new v page) ids
          ∙ rising-new _ page (take-rises id_of page_size _ (drop-rises id_of k _ kids_rise))
          (all-map_two (λ (row : ObjectRow) a b. ids-all (λ other. row.id ≡ other → ⊥) (filter (known at) rows) (take k (children_of at rows)) a b) page of_rows of_part)

      size : nat_eq (length page) (min page_size (listed_children l - length l.part)) ≡ true
      size = eq-eqb _ _ (length-take page_size (drop k (children_of at rows)) ∙ ap (min page_size) (length-drop k (children_of at rows))
          ∙ sym (ap (min page_size) (λ i. own_count i - long i)))

  -- what is held after the page that is next follows the catalog again
  pub page-follows : (number at k : ℕ) (l : Listing) (w : Waiting) (ws : List Waiting) → l.rows ≡ filter (known at) rows → l.waiting ≡ w ∷ ws → w.id ≡ at →
      waiting_at at rows ≡ w ∷ ws → w.children ≡ length (children_of at rows) → l.part ≡ take k (children_of at rows) →
      Follows rows number (after_page number l (take page_size (drop k (children_of at rows))))
  page-follows number at k l w ws shown waiting id wait counts front =
      subst (λ b. Follows rows number (cond b whole partly)) (sym test) (by (nat_eq (length more) (length (children_of at rows))) refl)
    where
      page : List ObjectRow
      page = take page_size (drop k (children_of at rows))

      more : List ObjectRow
      more = take (k + page_size) (children_of at rows)

      joined : l.part ++ page ≡ more
      joined = ap (λ v. v ++ page) front ∙ front-and-page k page_size (children_of at rows)

      own_count : listed_children l ≡ length (children_of at rows)
      own_count = ap (λ v. listed_children (record l { waiting = v })) waiting ∙ counts

      others : others_waiting l ≡ ws
      others = ap (λ v. others_waiting (record l { waiting = v })) waiting

      whole : Held
      whole = listed number (put_rows (l.part ++ page) l.rows) (put_containers (l.part ++ page) (others_waiting l))

      partly : Held
      partly = Loads (Lists number (record { rows = l.rows; waiting = l.waiting; part = l.part ++ page }))

      test : nat_eq (length (l.part ++ page)) (listed_children l) ≡ nat_eq (length more) (length (children_of at rows))
      test = λ i. nat_eq (length (joined i)) (own_count i)

      all_of_it : length more ≡ length (children_of at rows) → more ≡ children_of at rows
      all_of_it e = front-whole (k + page_size) (children_of at rows) (omega (arith, e, length-take (k + page_size) (children_of at rows)))

      short : nat_eq (length more) (length (children_of at rows)) ≡ false → k + page_size < length (children_of at rows)
      short e = let apart = eqb-false (length more) (length (children_of at rows)) e in
          let size : length more ≡ min (k + page_size) (length (children_of at rows)) = length-take (k + page_size) (children_of at rows) in
          elim (cases_lt (k + page_size) (length (children_of at rows))) as (λ _. k + page_size < length (children_of at rows)) [
            | inl h ↦ h
            | inr h ↦ absurd (apart (omega (arith, size, h)))
          ]

      long : nat_eq (length more) (length (children_of at rows)) ≡ false → length (l.part ++ page) ≡ k + page_size
      long e = ap length joined ∙ omega (arith, short e, length-take (k + page_size) (children_of at rows))

      by : (b : Bool) → nat_eq (length more) (length (children_of at rows)) ≡ b → Follows rows number (cond b whole partly)
      by true e =
          let full : l.part ++ page ≡ children_of at rows = joined ∙ all_of_it (eqb-true _ _ e) in
          subst (λ (h : Held). Follows rows number h)
          (sym ((λ i. listed number (put_rows (full i) (shown i)) (put_containers (full i) (others i)))
          ∙ (λ i. listed number (rows-after rows tree at i) (waiting-after rows tree at w ws wait id i))))
          (listed-follows number (at + 1))
      by false e = (
        refl,
        record {
          first = w;
          others = ws;
          shown = shown ∙ sym (ap (λ v. filter (known v) rows) id);
          waiting = waiting;
          wait = ap (λ v. waiting_at v rows) id ∙ wait;
          front = joined ∙ sym (λ i. take (long e i) (children_of (id i) rows));
          room = inr (subst (λ v. length (l.part ++ page) < length (children_of v rows)) (sym id) (omega (arith, long e, short e)));
        },
      )
