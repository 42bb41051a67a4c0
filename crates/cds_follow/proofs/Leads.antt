-- The event of one change can be, and leads from rows like those before it to rows like those after it.
use Rattle.std.proofs.Common.{◌≡◌, ◌+◌, ◌-◌, ◌<◌, ◌≤◌, ℕ, Bool, true, false, cond, not, ◌&&◌, ◌||◌, nat_eq, List, [], ◌∷◌, ◌++◌, filter, length, Option, Some, None, MatchOption, refl, sym, ap, ◌∙◌, subst, arith, true≢false, eq-eqb, ne_eqb}
use Rattle.std.specs.List.{AllByRecursion, count_by}
use Rattle.std.specs.Option.{option_eq}
use Rattle.std.proofs.lemmas.Bool.{false_from_ne_true}
use Rattle.std.proofs.lemmas.List.Sums.{count_by-le-length}
use Rattle.cds_object.specs.Path.{same_path, parent_of}
use Rattle.cds_object.specs.Object.{is_folder}
use Rattle.cds_object.specs.Events.{class_of}
use Rattle.cds_object.specs.declared.content.Content.{Content}
use Rattle.cds_object.specs.declared.row.Trackers.{Trackers}
use Rattle.cds_object.specs.declared.event.Event.{Event}
use Rattle.cds_catalog.specs.History.{is_addition}
use Rattle.cds_catalog.specs.Catalog.{PlacedRow, id_of, parent_id_of}
use Rattle.cds_catalog.specs.Laws.{IsWithin}
use Rattle.cds_catalog.specs.Replay.{stands, IsLegal, MayFollow}
use Rattle.cds_catalog.specs.Steps.{Standing, touched, touch, id_at, child_added, child_modified, child_deleted, modified, new_row}
use Rattle.cds_catalog.specs.declared.change.Change.{Change}
use Rattle.cds_catalog.specs.declared.change.Change.TheVariants.{Deletion, Addition, Modification}
use Rattle.cds_catalog.proofs.Paths.{same_path_is, same_path_itself}
use Rattle.cds_catalog.proofs.StepsPaths.{Place}
use Rattle.cds_catalog.proofs.StepsFind.{Entry, find_in, each-all, each-map, each-both, each-weaker, each-filter, each_from_found, found_holds, none≢some, Apart_from_Rising}
use Rattle.cds_catalog.proofs.StepsLive.{shown, shown_holder, find_live, stands_named, holds_is}
use Rattle.cds_catalog.proofs.StepsIds.{ids_rise, id_new}
use Rattle.cds_catalog.proofs.StepsRows.{row_over, rows_over, standing_over, step_over}
use Rattle.cds_catalog.proofs.StepsScan.{rows_over_within, children_within}
use Rattle.cds_changes.specs.Events.{event_of}
use Rattle.cds_follow.specs.Copy.{KnownRow, knows, knows_container, knows_child, raised_count, counts_addition, counts_modification, counts_deletion, counted, parent_in, put_known, added_row, cannot_be, changed}
use Rattle.cds_follow.specs.StepLaws.{IsLike, AreLike}
use Rattle.cds_follow.proofs.Like.{unplaced, like-filter, like-any, like-push}
use Rattle.cds_follow.proofs.Told.{kinds, numbers-tell, any-found, any-none, id_at-found, parent-is, shown-is, parent-shown, rows-tell, above-root}
use Rattle.cds_follow.proofs.Counted.{agree, Counts, like-counted, like-kept, each-known, each-counted, put-last, new-like, parent-found}
use Rattle.cds_catalog.proofs.Live.{live}

-- what an event does: it can be on the rows that are known, and leads to rows like others
abbrev pub Leads : List KnownRow → Event → List PlacedRow → Type 0
Leads knowns event rows = (cannot_be knowns event ≡ false) × AreLike (changed knowns event) (unplaced rows)

either-none : (a b : Bool) → a ≡ false → b ≡ false → a || b ≡ false
either-none a b p q = λ i. p i || q i

-- counts that rise below the last number
raised : (n : ℕ) → n + 1 ≤ 4294967295 → raised_count n ≡ n + 1
raised n l = omega (arith, l)

module _ (first : ℕ) (older : List Change) (legal : IsLegal older) (room : first + length older + 1 ≤ 4294967295) where
  -- the number of the next change
  abbrev number : ℕ
  number = first + length older + 1

  abbrev rows : List PlacedRow
  rows = rows_over first older

  -- no count of a row stands at its end
  Low : PlacedRow → Type 0
  Low placed = MatchOption placed.1.trackers (Unit {0}) (λ (t : Trackers). (t.child_count + 1 ≤ 4294967295) × (t.deleted + 1 ≤ 4294967295))

  all-low : AllByRecursion Low rows
  unfolding Low
  all-low =
      each-weaker (λ (placed : PlacedRow). MatchOption placed.1.trackers (Unit {0}) (λ (t : Trackers). t.child_count ≤ count_by is_addition older)
      × IsWithin (standing_over first older) placed.1) Low one rows
      (each-both (λ (placed : PlacedRow). MatchOption placed.1.trackers (Unit {0}) (λ (t : Trackers). t.child_count ≤ count_by is_addition older))
      (λ (placed : PlacedRow). IsWithin (standing_over first older) placed.1) rows (children_within first older) (rows_over_within first older))
    where
      on : (o : Option Trackers) → MatchOption o (Unit {0}) (λ (t : Trackers). t.child_count ≤ count_by is_addition older)
          → MatchOption o (Unit {0}) (λ (t : Trackers). (t.container_update ≤ first + length older) × (t.deleted ≤ first + length older))
          → MatchOption o (Unit {0}) (λ (t : Trackers). (t.child_count + 1 ≤ 4294967295) × (t.deleted + 1 ≤ 4294967295))
      on None c d = tt
      on (Some t) c d = (
        let added = count_by-le-length is_addition older in omega (arith, c, added, room),
        let most = d.1 in omega (arith, most, room),
      )

      one : (placed : PlacedRow) → MatchOption placed.1.trackers (Unit {0}) (λ (t : Trackers). t.child_count ≤ count_by is_addition older)
          × IsWithin (standing_over first older) placed.1 → Low placed
      one placed h = on placed.1.trackers h.0 h.1.trackers

  -- a place that is shown, whose row's trackers are counted anew
  module _ (q : Place) (content : Content) (there : find_in (shown older) q ≡ Some content) (f g : Trackers → Trackers)
      (same : (t : Trackers) → (t.child_count + 1 ≤ 4294967295) × (t.deleted + 1 ≤ 4294967295) → f t ≡ g t) where
    all-count : AllByRecursion (Counts f g (id_of older q) q) rows
    unfolding Low
    all-count =
        each-weaker (λ (placed : PlacedRow). (nat_eq placed.1.id (id_of older q) ≡ same_path q placed.0) × Low placed) (Counts f g (id_of older q) q)
        (λ placed h. (h.0, agree f g (λ (t : Trackers). (t.child_count + 1 ≤ 4294967295) × (t.deleted + 1 ≤ 4294967295)) same placed.1.trackers h.1)) rows
        (each-both (λ (placed : PlacedRow). nat_eq placed.1.id (id_of older q) ≡ same_path q placed.0) Low rows
        (rows-tell first older legal q content there) all-low)

  -- ---- which rows are known

  knows-it : (knowns : List KnownRow) → AreLike knowns (unplaced rows) → (p : Place) (content : Content) → find_in (shown older) p ≡ Some content
      → knows (id_of older p) knowns ≡ true
  knows-it knowns like p content there =
      like-any (λ (row : KnownRow). nat_eq row.id (id_of older p)) (λ (placed : PlacedRow). nat_eq placed.1.id (id_of older p)) (λ placed. Unit {0})
      (λ known placed u l. ap (λ (n : ℕ). nat_eq n (id_of older p)) l.id) knowns rows (each-all (λ placed. Unit {0}) (λ placed. tt) rows) like
      ∙ any-found (λ (placed : PlacedRow). nat_eq placed.1.id (id_of older p)) first older (shown older) p content there
      (eq-eqb (id_of older p) (id_of older p) refl)

  -- ---- an addition

  module _ (at : Place) (added : Content) (may : MayFollow older (Addition at added)) where
    abbrev new : ℕ
    new = id_of (Addition at added ∷ older) at

    above : AllByRecursion (λ (placed : PlacedRow). placed.1.id < new) rows
    above =
        each-weaker (λ (placed : PlacedRow). IsWithin (standing_over first older) placed.1) (λ (placed : PlacedRow). placed.1.id < new)
        (λ placed within. let most = within.id in let drawn = id_new at added older at (same_path_itself at) in omega (arith, most, drawn)) rows (rows_over_within first older)

    holder : (content : Content) × (find_in (shown older) (parent_of at) ≡ Some content) × (is_folder content ≡ true)
    holder = shown_holder older legal (parent_of at) (sym (holds_is older (parent_of at)) ∙ may.2)

    knows-none : (knowns : List KnownRow) → AreLike knowns (unplaced rows) → knows new knowns ≡ false
    knows-none knowns like =
        like-any (λ (row : KnownRow). nat_eq row.id new) (λ (placed : PlacedRow). nat_eq placed.1.id new) (λ placed. Unit {0})
        (λ known placed u l. ap (λ (n : ℕ). nat_eq n new) l.id) knowns rows (each-all (λ placed. Unit {0}) (λ placed. tt) rows) like
        ∙ any-none (λ (placed : PlacedRow). nat_eq placed.1.id new) rows
        (each-weaker (λ (placed : PlacedRow). placed.1.id < new) (λ (placed : PlacedRow). nat_eq placed.1.id new ≡ false)
        (λ placed l. ne_eqb placed.1.id new (λ q. omega (arith, l, q))) rows above)

    knows-holder : (knowns : List KnownRow) → AreLike knowns (unplaced rows) → knows_container (id_of older (parent_of at)) knowns ≡ true
    knows-holder knowns like =
        like-any (λ (row : KnownRow). nat_eq row.id (id_of older (parent_of at)) && row.folder)
        (λ (placed : PlacedRow). nat_eq placed.1.id (id_of older (parent_of at)) && is_folder placed.1.content) (λ placed. Unit {0})
        (λ known placed u l. (λ i. nat_eq (l.id i) (id_of older (parent_of at)) && l.folder i)) knowns rows (each-all (λ placed. Unit {0}) (λ placed. tt) rows) like
        ∙ any-found (λ (placed : PlacedRow). nat_eq placed.1.id (id_of older (parent_of at)) && is_folder placed.1.content) first older (shown older) (parent_of at) holder.0 holder.1
        ((λ i. eq-eqb (id_of older (parent_of at)) (id_of older (parent_of at)) refl i && is_folder holder.0) ∙ holder.2)

    counts : Trackers → Trackers
    counts t = record t { container_update = number; child_count = t.child_count + 1 }

    counts-same : (t : Trackers) → (t.child_count + 1 ≤ 4294967295) × (t.deleted + 1 ≤ 4294967295) → counts_addition number t ≡ counts t
    unfolding counts
    counts-same t h = λ i. record t { container_update = number; child_count = raised t.child_count h.0 i }

    beside : (knowns : List KnownRow) → AreLike knowns (unplaced rows)
        → AreLike (counted (counts_addition number) (Some (id_of older (parent_of at))) knowns) (unplaced (touch (parent_of at) (child_added number) rows))
    unfolding counts
    beside knowns like =
        like-counted (counts_addition number) counts (id_of older (parent_of at)) (parent_of at) knowns rows
        (all-count (parent_of at) holder.0 holder.1 (counts_addition number) counts counts-same) like

    pub added-leads : (st : Bool) (knowns : List KnownRow) → AreLike knowns (unplaced rows)
        → Leads knowns (event_of number older (Addition at added) st) (rows_over first (Addition at added ∷ older))
    added-leads st knowns like = (
      either-none (knows new knowns) (not (knows_container (id_of older (parent_of at)) knowns)) (knows-none knowns like) (ap not (knows-holder knowns like)),
      subst (λ (others : List PlacedRow). AreLike (put_known row others-known) (unplaced others)) (sym (ap (λ (s : Standing). s.rows) (step_over first (Addition at added) older (legal, may))))
          (subst (λ (all : List KnownRow). AreLike all (unplaced (touch (parent_of at) (child_added number) rows ++ placed ∷ [])))
          (sym (put-last row others-known (each-counted (λ (id : ℕ). id < new) (counts_addition number) (id_of older (parent_of at)) knowns (each-known (λ (id : ℕ). id < new) knowns rows above like))))
          (like-push others-known (touch (parent_of at) (child_added number) rows) row placed (beside knowns like)
          (new-like new (count_by is_addition older + 1) number (id_of older (parent_of at)) (id_at (parent_of at) rows) added
          (let drawn = id_new at added older at (same_path_itself at) in omega (arith, drawn))
          (sym (id_at-found first older (shown older) (parent_of at) holder.0 holder.1))))),
    )
      where
        row : KnownRow
        row = added_row new number (id_of older (parent_of at)) (class_of added)

        others-known : List KnownRow
        others-known = counted (counts_addition number) (Some (id_of older (parent_of at))) knowns

        placed : PlacedRow
        placed = (at, new_row (count_by is_addition older + 1) (id_at (parent_of at) rows) number added)

  -- ---- a deletion

  module _ (at : Place) (may : MayFollow older (Deletion at)) where
    holds : (c : Content) × (find_in (shown older) (parent_of at) ≡ Some c) × (is_folder c ≡ true)
    holds = parent-shown first older legal at may.0 may.1

    here : find_in (shown older) at ≡ Some may.0
    here = shown-is first older legal at may.0 may.1

    childless : AllByRecursion (λ (placed : PlacedRow). option_eq nat_eq placed.1.parent (Some (id_of older at)) ≡ false) rows
    childless = (
      refl,
      each-map (λ (placed : PlacedRow). option_eq nat_eq placed.1.parent (Some (id_of older at)) ≡ false) (row_over first older) (live older)
          (each_from_found (λ (e : Entry). option_eq nat_eq (parent_id_of older e.0) (Some (id_of older at)) ≡ false) (live older)
          (Apart_from_Rising (id_of older) (live older) (ids_rise older legal).1) one),
    )
      where
        one : (p : Place) (content : Content) → find_in (live older) p ≡ Some content → option_eq nat_eq (parent_id_of older p) (Some (id_of older at)) ≡ false
        one p content f =
            ap (λ (o : Option ℕ). option_eq nat_eq o (Some (id_of older at))) (parent-is older p named)
            ∙ found_holds (λ (e : Entry). nat_eq (id_of older e.0) (id_of older at) ≡ same_path at e.0) (shown older) (parent_of p) above-it.0
            (numbers-tell (id_of older) (shown older) at may.0 (ids_rise older legal) here) above-it.1
            ∙ false_from_ne_true (same_path at (parent_of p)) (λ s. none≢some (stands older p) content (may.2 p named s) there)
          where
            there : stands older p ≡ Some content
            there = sym (find_live older legal p) ∙ f

            named : same_path p [] ≡ false
            named = stands_named older p content legal there

            above-it : (c : Content) × (find_in (shown older) (parent_of p) ≡ Some c) × (is_folder c ≡ true)
            above-it = parent-shown first older legal p content there

    knows-no-child : (knowns : List KnownRow) → AreLike knowns (unplaced rows) → knows_child (id_of older at) knowns ≡ false
    knows-no-child knowns like =
        like-any (λ (row : KnownRow). option_eq nat_eq row.parent (Some (id_of older at))) (λ (placed : PlacedRow). option_eq nat_eq placed.1.parent (Some (id_of older at))) (λ placed. Unit {0})
        (λ known placed u l. ap (λ (o : Option ℕ). option_eq nat_eq o (Some (id_of older at))) l.parent) knowns rows (each-all (λ placed. Unit {0}) (λ placed. tt) rows) like
        ∙ any-none (λ (placed : PlacedRow). option_eq nat_eq placed.1.parent (Some (id_of older at))) rows childless

    fewer : Trackers → Trackers
    fewer t = record t { container_update = number; child_count = t.child_count - 1; deleted = t.deleted + 1 }

    fewer-same : (t : Trackers) → (t.child_count + 1 ≤ 4294967295) × (t.deleted + 1 ≤ 4294967295) → counts_deletion number t ≡ fewer t
    unfolding fewer
    fewer-same t h = λ i. record t { container_update = number; child_count = t.child_count - 1; deleted = raised t.deleted h.1 i }

    parent-known : (knowns : List KnownRow) → AreLike knowns (unplaced rows) → parent_in (id_of older at) knowns ≡ Some (id_of older (parent_of at))
    parent-known knowns like =
        parent-found first older (shown older) knowns at may.0 here (rows-tell first older legal at may.0 here) like
        ∙ parent-is older at (stands_named older at may.0 legal may.1)

    remain : (knowns : List KnownRow) → AreLike knowns (unplaced rows)
        → AreLike (filter (λ (row : KnownRow). not (nat_eq row.id (id_of older at))) knowns) (unplaced (filter (λ (placed : PlacedRow). not (same_path at placed.0)) rows))
    remain knowns like =
        like-filter (λ (row : KnownRow). not (nat_eq row.id (id_of older at))) (λ (placed : PlacedRow). not (same_path at placed.0))
        (λ (placed : PlacedRow). nat_eq placed.1.id (id_of older at) ≡ same_path at placed.0)
        (λ known placed tells l. ap not (ap (λ (n : ℕ). nat_eq n (id_of older at)) l.id ∙ tells)) knowns rows
        (rows-tell first older legal at may.0 here) like

    below : (knowns : List KnownRow) → AreLike knowns (unplaced rows)
        → AreLike (counted (counts_deletion number) (Some (id_of older (parent_of at))) (filter (λ (row : KnownRow). not (nat_eq row.id (id_of older at))) knowns))
        (unplaced (touch (parent_of at) (child_deleted number) (filter (λ (placed : PlacedRow). not (same_path at placed.0)) rows)))
    unfolding fewer
    below knowns like =
        like-counted (counts_deletion number) fewer (id_of older (parent_of at)) (parent_of at) (filter (λ (row : KnownRow). not (nat_eq row.id (id_of older at))) knowns)
        (filter (λ (placed : PlacedRow). not (same_path at placed.0)) rows)
        (each-filter (Counts (counts_deletion number) fewer (id_of older (parent_of at)) (parent_of at)) (λ (placed : PlacedRow). not (same_path at placed.0)) rows
        (all-count (parent_of at) holds.0 holds.1 (counts_deletion number) fewer fewer-same))
        (remain knowns like)

    pub deleted-leads : (st : Bool) (knowns : List KnownRow) → AreLike knowns (unplaced rows)
        → Leads knowns (event_of number older (Deletion at) st) (rows_over first (Deletion at ∷ older))
    deleted-leads st knowns like = (
      (λ i. above-root first older legal at may.0 may.1 i || not (knows-it knowns like at may.0 here i) || knows-no-child knowns like i),
      subst (λ (others : List PlacedRow). AreLike (changed knowns (event_of number older (Deletion at) st)) (unplaced others))
          (sym (ap (λ (s : Standing). s.rows) (step_over first (Deletion at) older (legal, may))))
          (subst (λ (o : Option ℕ). AreLike (counted (counts_deletion number) o (filter (λ (row : KnownRow). not (nat_eq row.id (id_of older at))) knowns))
          (unplaced (touch (parent_of at) (child_deleted number) (filter (λ (placed : PlacedRow). not (same_path at placed.0)) rows))))
          (sym (parent-known knowns like)) (below knowns like)),
    )

  -- ---- a modification

  module _ (at : Place) (written : Content) (may : MayFollow older (Modification at written)) where
    Fits : PlacedRow → Type 0
    Fits placed = same_path at placed.0 ≡ true → is_folder placed.1.content ≡ is_folder written

    stood : find_in (shown older) at ≡ Some may.0
    stood = shown-is first older legal at may.0 may.1

    over : (c : Content) × (find_in (shown older) (parent_of at) ≡ Some c) × (is_folder c ≡ true)
    over = parent-shown first older legal at may.0 may.1

    fits : AllByRecursion Fits rows
    unfolding Fits
    fits = (
      (λ x. absurd (true≢false (sym x ∙ stands_named older at may.0 legal may.1))),
      each-map Fits (row_over first older) (live older)
          (each_from_found (λ (e : Entry). same_path at e.0 ≡ true → is_folder e.1 ≡ is_folder written) (live older)
          (Apart_from_Rising (id_of older) (live older) (ids_rise older legal).1) one),
    )
      where
        one : (p : Place) (content : Content) → find_in (live older) p ≡ Some content → same_path at p ≡ true → is_folder content ≡ is_folder written
        one p content f x =
            let e : Some content ≡ Some may.0 = sym f ∙ find_live older legal p ∙ ap (stands older) (sym (same_path_is at p x)) ∙ may.1 in
            let same : content ≡ may.0 = cc in
            ap is_folder same ∙ kinds may.0 written may.2

    rewrite-one : (known : KnownRow) (placed : PlacedRow) → Fits placed → IsLike known placed.1 → IsLike known (touched at (modified number written) placed).1
    unfolding Fits
    rewrite-one known placed fit like = by (same_path at placed.0) refl
      where
        by : (b : Bool) → same_path at placed.0 ≡ b → IsLike known (cond b (placed.0, modified number written placed.1) placed).1
        by true x = record { id = like.id; parent = like.parent; folder = like.folder ∙ fit x; trackers = like.trackers }
        by false x = like

    -- the modified row is counted as the one before it
    still-counts : AllByRecursion (Counts (counts_modification number) (counts_modification number) (id_of older (parent_of at)) (parent_of at))
        (touch at (modified number written) rows)
    still-counts =
        each-map (Counts (counts_modification number) (counts_modification number) (id_of older (parent_of at)) (parent_of at)) (touched at (modified number written)) rows
        (each-weaker (Counts (counts_modification number) (counts_modification number) (id_of older (parent_of at)) (parent_of at))
        (λ (placed : PlacedRow). Counts (counts_modification number) (counts_modification number) (id_of older (parent_of at)) (parent_of at) (touched at (modified number written) placed))
        one rows (all-count (parent_of at) over.0 over.1 (counts_modification number) (counts_modification number) (λ t h. refl)))
      where
        one : (placed : PlacedRow) → Counts (counts_modification number) (counts_modification number) (id_of older (parent_of at)) (parent_of at) placed
            → Counts (counts_modification number) (counts_modification number) (id_of older (parent_of at)) (parent_of at) (touched at (modified number written) placed)
        one placed counts = by (same_path at placed.0)
          where
            by : (b : Bool) → Counts (counts_modification number) (counts_modification number) (id_of older (parent_of at)) (parent_of at) (cond b (placed.0, modified number written placed.1) placed)
            by true = counts
            by false = counts

    above-known : (knowns : List KnownRow) → AreLike knowns (unplaced rows) → parent_in (id_of older at) knowns ≡ Some (id_of older (parent_of at))
    above-known knowns like =
        parent-found first older (shown older) knowns at may.0 stood (rows-tell first older legal at may.0 stood) like
        ∙ parent-is older at (stands_named older at may.0 legal may.1)

    around : (knowns : List KnownRow) → AreLike knowns (unplaced rows)
        → AreLike (counted (counts_modification number) (Some (id_of older (parent_of at))) knowns)
        (unplaced (touch (parent_of at) (child_modified number) (touch at (modified number written) rows)))
    around knowns like =
        like-counted (counts_modification number) (counts_modification number) (id_of older (parent_of at)) (parent_of at) knowns (touch at (modified number written) rows)
        still-counts (like-kept (touched at (modified number written)) Fits rewrite-one knowns rows fits like)

    pub modified-leads : (st : Bool) (knowns : List KnownRow) → AreLike knowns (unplaced rows)
        → Leads knowns (event_of number older (Modification at written) st) (rows_over first (Modification at written ∷ older))
    modified-leads st knowns like = (
      (λ i. above-root first older legal at may.0 may.1 i || not (knows-it knowns like at may.0 stood i)),
      subst (λ (others : List PlacedRow). AreLike (changed knowns (event_of number older (Modification at written) st)) (unplaced others))
          (sym (ap (λ (s : Standing). s.rows) (step_over first (Modification at written) older (legal, may))))
          (subst (λ (o : Option ℕ). AreLike (counted (counts_modification number) o knowns)
          (unplaced (touch (parent_of at) (child_modified number) (touch at (modified number written) rows))))
          (sym (above-known knowns like)) (around knowns like)),
    )

-- the event of any legal change with its number
pub change-leads : (first : ℕ) (change : Change) (older : List Change) → IsLegal (change ∷ older) → first + length (change ∷ older) ≤ 4294967295
    → (st : Bool) (knowns : List KnownRow) → AreLike knowns (unplaced (rows_over first older))
    → Leads knowns (event_of (first + length (change ∷ older)) older change st) (rows_over first (change ∷ older))
change-leads first change older legal room st knowns like =
    let same : first + length older + 1 ≡ first + length (change ∷ older) = omega arith in
    let low : first + length older + 1 ≤ 4294967295 = omega (arith, room) in
    subst (λ (n : ℕ). Leads knowns (event_of n older change st) (rows_over first (change ∷ older))) same (by change legal.1 low)
  where
    by : (change : Change) → MayFollow older change → first + length older + 1 ≤ 4294967295
        → Leads knowns (event_of (first + length older + 1) older change st) (rows_over first (change ∷ older))
    by (Deletion at) may low = deleted-leads first older legal.0 low at may st knowns like
    by (Addition at added) may low = added-leads first older legal.0 low at added may st knowns like
    by (Modification at written) may low = modified-leads first older legal.0 low at written may st knowns like
