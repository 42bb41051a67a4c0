-- The containers of a span are those whose containerUpdateID is above its beginning.
use Rattle.std.proofs.Common.{◌≡◌, ◌⊎◌, inl, inr, ◌+◌, ◌<◌, ◌≤◌, ℕ, zero, suc, max, Bool, true, false, cond, not, ◌&&◌, nat_eq, nat_lt, nat_le, List, [], ◌∷◌, ◌++◌, map, length, Option, Some, None, refl, sym, ap, ◌∙◌, subst, arith, true≢false, eq-eqb, ne_eqb, eqb-true, leb-false, leb-true, le-leb, lt-ltb, le-ltb, length-append}
use Rattle.std.specs.List.{AllByRecursion, count_by, filter_map, cons_option, range_with_len}
use Rattle.std.specs.Option.{option_map}
use Rattle.std.proofs.lemmas.Bool.{cases_lt, eqb-false}
use Rattle.cds_object.specs.Path.{same_path, parent_of}
use Rattle.cds_object.specs.Content.{same_kind}
use Rattle.cds_object.specs.Object.{is_folder}
use Rattle.cds_object.specs.declared.content.Content.{Content}
use Rattle.cds_object.specs.declared.content.Content.TheVariants.{Folder, Track}
use Rattle.cds_catalog.specs.Library.{FolderMap}
use Rattle.cds_catalog.specs.History.{changes_of, place_of, is_addition, adds, is_under, up_to}
use Rattle.cds_catalog.specs.Catalog.{PlacedRow, id_of, row_at, container_update_of, root_entry}
use Rattle.cds_catalog.specs.Replay.{stands, IsLegal}
use Rattle.cds_catalog.specs.declared.change.Change.{Change}
use Rattle.cds_catalog.specs.declared.change.Change.TheVariants.{Deletion, Addition, Modification}
use Rattle.cds_catalog.proofs.Paths.{same_path_is, same_path_itself}
use Rattle.cds_catalog.proofs.Maps.{older_are_libraries}
use Rattle.cds_catalog.proofs.Found.{history_is_legal}
use Rattle.cds_catalog.proofs.Numbers.{changes_since, changes_of_more}
use Rattle.cds_catalog.proofs.StepsPaths.{Place, swapped}
use Rattle.cds_catalog.proofs.StepsFind.{Entry, find_in, Rising, removed, each-weaker, each-append, each-both, away_from_none, found_holds, count_by-cons}
use Rattle.cds_catalog.proofs.StepsLive.{shown, shown_holder, rewritten, find_live, stands_named, holds_is, held}
use Rattle.cds_catalog.proofs.StepsIds.{length-up_to, id_drawn, id_kept, id_new, ids_rise}
use Rattle.cds_catalog.proofs.StepsRows.{row_over, rows_over}
use Rattle.cds_catalog.proofs.StepsCatalog.{placed_rows_over}
use Rattle.cds_changes.specs.Containers.{adds_container, is_in_container, deletes_id, last_touch, was_deleted, changes_to, touched_containers}
use Rattle.cds_changes.specs.ContainerLaws.{changed_container, containers_have_their_numbers}
use Rattle.cds_changes.proofs.Ids.{numbers-tell}
use Rattle.cds_catalog.proofs.Live.{live}

nat-swap : (a b : ℕ) → nat_eq a b ≡ nat_eq b a
nat-swap a b = by (nat_eq b a) refl
  where
    by : (t : Bool) → nat_eq b a ≡ t → nat_eq a b ≡ t
    by true e = eq-eqb a b (sym (eqb-true b a e))
    by false e = ne_eqb a b (λ s. eqb-false b a e (sym s))

kinds : (a b : Content) → same_kind a b ≡ true → is_folder a ≡ is_folder b
kinds (Folder title) (Folder other) e = refl
kinds (Folder title) (Track track) e = absurd (true≢false (sym e))
kinds (Track track) (Folder title) e = absurd (true≢false (sym e))
kinds (Track track) (Track other) e = refl

and-false : (b : Bool) → b && false ≡ false
and-false true = refl
and-false false = refl

module _ (first from : ℕ) (after-first : first ≤ from) where
  abbrev number_of : List Change → ℕ
  number_of changes = first + length changes

  abbrev updated : List Change → Place → ℕ
  updated changes p = container_update_of first changes p

  -- the number of a container that changed, where it is one and did
  abbrev Number : List Change → Place → Bool → Option ℕ
  Number changes p folder = cond (folder && nat_lt from (updated changes p)) (Some (updated changes p)) None

  -- what the span tells of the id of a place that stands
  abbrev Tells : List Change → Place → Bool → Type 0
  Tells changes p folder =
      (was_deleted first from (id_of changes p) changes ≡ false) × (last_touch first from (id_of changes p) changes ≡ Number changes p folder)

  -- of an id that does not stand it tells nothing
  abbrev IsNone : List Change → ℕ → Type 0
  IsNone changes id = (was_deleted first from id changes ≡ true) ⊎ (last_touch first from id changes ≡ None)

  most-updated : (changes : List Change) (p : Place) → updated changes p ≤ number_of changes
  most-updated changes p =
      let a = length-up_to (adds p) changes in
      let b = length-up_to (is_under p) changes in
      omega (arith, a, b)

  low-number : (changes : List Change) (p : Place) (folder : Bool) → number_of changes ≤ from → Number changes p folder ≡ None
  low-number changes p folder l =
      let most = most-updated changes p in
      (λ i. cond (folder && le-ltb from (updated changes p) (omega (arith, l, most)) i) (Some (updated changes p)) None)
      ∙ (λ i. cond (and-false folder i) (Some (updated changes p)) None)

  -- ---- one change more

  module _ (change : Change) (older : List Change) where
    now : ℕ
    now = number_of (change ∷ older)

    abbrev is-low : Bool
    is-low = nat_le (number_of (change ∷ older)) from

    low : is-low ≡ true → number_of (change ∷ older) ≤ from
    low e = leb-true (number_of (change ∷ older)) from e

    high : is-low ≡ false → from < number_of (change ∷ older)
    high e = leb-false (number_of (change ∷ older)) from e

    -- of a place that stood before and still does
    tells-more : (p : Place) (folder under : Bool) → id_of (change ∷ older) p ≡ id_of older p → deletes_id (id_of older p) older change ≡ false
        → adds_container (id_of older p) older change ≡ false → is_in_container (id_of older p) older change ≡ under → is_under p change ≡ under
        → adds p change ≡ false → (under ≡ true → folder ≡ true) → Tells older p folder → Tells (change ∷ older) p folder
    tells-more p folder under id kept other inside is known folders told =
        subst (λ (n : ℕ). (was_deleted first from n (change ∷ older) ≡ false) × (last_touch first from n (change ∷ older) ≡ Number (change ∷ older) p folder)) (sym id)
        (by is-low refl)
      where
        deleted : Bool → Bool
        deleted b = cond b false (cond (deletes_id (id_of older p) older change) true (was_deleted first from (id_of older p) older))

        touch : Bool → Option ℕ
        touch b = cond b None
            (cond (adds_container (id_of older p) older change) (Some (number_of (change ∷ older)))
            (cond (is_in_container (id_of older p) older change) (Some (number_of (change ∷ older))) (last_touch first from (id_of older p) older)))

        same-adds : up_to (adds p) (change ∷ older) ≡ up_to (adds p) older
        same-adds = λ i. cond (known i) (change ∷ older) (up_to (adds p) older)

        on : is-low ≡ false → (u : Bool) → under ≡ u → last_touch first from (id_of older p) (change ∷ older) ≡ Number (change ∷ older) p folder
        on l true u =
            let above = high l in
            let least = length-up_to (adds p) older in
            let with_adds = ap length same-adds in
            let with_under = ap length (λ i. cond ((is ∙ u) i) (change ∷ older) (up_to (is_under p) older)) in
            let all : updated (change ∷ older) p ≡ number_of (change ∷ older) = omega (arith, least, with_adds, with_under) in
            (λ i. cond (l i) None
            (cond (other i) (Some (number_of (change ∷ older)))
            (cond ((inside ∙ u) i) (Some (number_of (change ∷ older))) (last_touch first from (id_of older p) older))))
            ∙ ap Some (sym all)
            ∙ sym (λ i. cond (folders u i && lt-ltb from (updated (change ∷ older) p) (omega (arith, above, all)) i) (Some (updated (change ∷ older) p)) None)
        on l false u =
            let with_under : up_to (is_under p) (change ∷ older) ≡ up_to (is_under p) older = λ i. cond ((is ∙ u) i) (change ∷ older) (up_to (is_under p) older) in
            let same : updated (change ∷ older) p ≡ updated older p = λ i. first + max (length (same-adds i)) (length (with_under i)) in
            (λ i. cond (l i) None
            (cond (other i) (Some (number_of (change ∷ older)))
            (cond ((inside ∙ u) i) (Some (number_of (change ∷ older))) (last_touch first from (id_of older p) older))))
            ∙ told.1 ∙ ap (λ (n : ℕ). cond (folder && nat_lt from n) (Some n) None) (sym same)

        by : (b : Bool) → is-low ≡ b
            → (was_deleted first from (id_of older p) (change ∷ older) ≡ false) × (last_touch first from (id_of older p) (change ∷ older) ≡ Number (change ∷ older) p folder)
        by true e = (ap deleted e, ap touch e ∙ sym (low-number (change ∷ older) p folder (low e)))
        by false e = (ap deleted e ∙ (λ i. cond (kept i) true (was_deleted first from (id_of older p) older)) ∙ told.0, on e under refl)

    -- of an id that does not stand, before or after
    none-more : (id : ℕ) → adds_container id older change ≡ false → is_in_container id older change ≡ false → IsNone older id → IsNone (change ∷ older) id
    none-more id other outside before = by is-low refl before
      where
        either : (b : Bool) → cond b true true ≡ true
        either true = refl
        either false = refl

        by : (b : Bool) → is-low ≡ b → IsNone older id → IsNone (change ∷ older) id
        by true e r = inr (λ i. cond (e i) None
            (cond (adds_container id older change) (Some (number_of (change ∷ older)))
            (cond (is_in_container id older change) (Some (number_of (change ∷ older))) (last_touch first from id older))))
        by false e (inl w) = inl ((λ i. cond (e i) false (cond (deletes_id id older change) true (w i))) ∙ either (deletes_id id older change))
        by false e (inr t) = inr ((λ i. cond (e i) None
            (cond (other i) (Some (number_of (change ∷ older)))
            (cond (outside i) (Some (number_of (change ∷ older))) (last_touch first from id older)))) ∙ t)

    -- of one that the change deletes
    none-deleted : (id : ℕ) → deletes_id id older change ≡ true → IsNone (change ∷ older) id
    none-deleted id gone = by is-low refl
      where
        by : (b : Bool) → is-low ≡ b → IsNone (change ∷ older) id
        by true e = inr (λ i. cond (e i) None
            (cond (adds_container id older change) (Some (number_of (change ∷ older)))
            (cond (is_in_container id older change) (Some (number_of (change ∷ older))) (last_touch first from id older))))
        by false e = inl (λ i. cond (e i) false (cond (gone i) true (was_deleted first from id older)))

  -- ---- an id that was not drawn yet

  drawn-more : (change : Change) (older : List Change) → count_by is_addition older ≤ count_by is_addition (change ∷ older)
  drawn-more change older = let one = count_by-cons is_addition change older in omega (arith, one)

  undrawn-deleted : (changes : List Change) (id : ℕ) → count_by is_addition changes < id → was_deleted first from id changes ≡ false
  undrawn-deleted [] id l = refl
  undrawn-deleted (change ∷ older) id l =
      let more = drawn-more change older in
      by (nat_le (number_of (change ∷ older)) from) (undrawn-deleted older id (omega (arith, l, more)))
    where
      not-it : deletes_id id older change ≡ false
      not-it = on change refl
        where
          on : (c : Change) → change ≡ c → deletes_id id older c ≡ false
          on (Deletion at) e =
              let most = id_drawn older at in
              let more = drawn-more change older in
              ne_eqb (id_of older at) id (λ s. omega (arith, most, more, l, s))
          on (Addition at added) e = refl
          on (Modification at written) e = refl

      by : (b : Bool) → was_deleted first from id older ≡ false → cond b false (cond (deletes_id id older change) true (was_deleted first from id older)) ≡ false
      by true r = refl
      by false r = (λ i. cond (not-it i) true (was_deleted first from id older)) ∙ r

  undrawn-touched : (changes : List Change) (id : ℕ) → count_by is_addition changes < id → last_touch first from id changes ≡ None
  undrawn-touched [] id l = refl
  undrawn-touched (change ∷ older) id l =
      let more = drawn-more change older in
      by (nat_le (number_of (change ∷ older)) from) (undrawn-touched older id (omega (arith, l, more)))
    where
      not-added : adds_container id older change ≡ false
      not-added = on change refl
        where
          on : (c : Change) → change ≡ c → adds_container id older c ≡ false
          on (Deletion at) e = refl
          on (Addition at added) e =
              let most = id_drawn (Addition at added ∷ older) at in
              let same = ap (λ (c : Change). count_by is_addition (c ∷ older)) e in
              (λ i. is_folder added && ne_eqb (id_of (Addition at added ∷ older) at) id (λ s. omega (arith, most, same, l, s)) i) ∙ and-false (is_folder added)
          on (Modification at written) e = refl

      not-in : is_in_container id older change ≡ false
      not-in =
          let most = id_drawn older (parent_of (place_of change)) in
          let more = drawn-more change older in
          ne_eqb (id_of older (parent_of (place_of change))) id (λ s. omega (arith, most, more, l, s))

      by : (b : Bool) → last_touch first from id older ≡ None
          → cond b None (cond (adds_container id older change) (Some (number_of (change ∷ older)))
          (cond (is_in_container id older change) (Some (number_of (change ∷ older))) (last_touch first from id older))) ≡ None
      by true r = refl
      by false r =
          (λ i. cond (not-added i) (Some (number_of (change ∷ older))) (cond (not-in i) (Some (number_of (change ∷ older))) (last_touch first from id older))) ∙ r

  -- ---- all that stands

  abbrev TellsOf : List Change → Entry → Type 0
  TellsOf changes e = Tells changes e.0 (is_folder e.1)

  -- a place whose folder the change names as parent, or not
  abbrev Beside : List Change → Place → Entry → Type 0
  Beside older q e = (nat_eq (id_of older q) (id_of older e.0) ≡ same_path e.0 q) × (same_path e.0 q ≡ true → is_folder e.1 ≡ true)

  beside : (older : List Change) → IsLegal older → (q : Place) (content : Content) → find_in (shown older) q ≡ Some content → is_folder content ≡ true
      → AllByRecursion (Beside older q) (shown older)
  beside older legal q content f folder =
      each-both (λ (e : Entry). nat_eq (id_of older q) (id_of older e.0) ≡ same_path e.0 q) (λ (e : Entry). same_path e.0 q ≡ true → is_folder e.1 ≡ true) (shown older)
      (each-weaker (λ (e : Entry). nat_eq (id_of older e.0) (id_of older q) ≡ same_path q e.0) (λ (e : Entry). nat_eq (id_of older q) (id_of older e.0) ≡ same_path e.0 q)
      (λ e n. nat-swap (id_of older q) (id_of older e.0) ∙ n ∙ sym (swapped q e.0 (same_path q e.0) refl)) (shown older)
      (numbers-tell (id_of older) (shown older) q content (ids_rise older legal) f))
      (folders (shown older) (ids_rise older legal) f)
    where
      folders : (es : FolderMap) → Rising (id_of older) es → find_in es q ≡ Some content → AllByRecursion (λ (e : Entry). same_path e.0 q ≡ true → is_folder e.1 ≡ true) es
      folders [] rise f = tt
      folders (e ∷ es) rise f = by (same_path q e.0) refl f (λ k. folders es rise.1 k)
        where
          by : (b : Bool) → same_path q e.0 ≡ b → cond b (Some e.1) (find_in es q) ≡ Some content
              → (find_in es q ≡ Some content → AllByRecursion (λ (o : Entry). same_path o.0 q ≡ true → is_folder o.1 ≡ true) es)
              → AllByRecursion (λ (o : Entry). same_path o.0 q ≡ true → is_folder o.1 ≡ true) (e ∷ es)
          by true x k r =
              let same : e.1 ≡ content = cc in (
                (λ s. ap is_folder same ∙ folder),
                each-weaker (λ (o : Entry). id_of older e.0 < id_of older o.0) (λ (o : Entry). same_path o.0 q ≡ true → is_folder o.1 ≡ true)
                    (λ o l s.
                    let one : id_of older q ≡ id_of older e.0 = ap (id_of older) (same_path_is q e.0 x) in
                    let two : id_of older o.0 ≡ id_of older q = ap (id_of older) (same_path_is o.0 q s) in
                    let no : ⊥ = omega (arith, l, one, two) in
                    absurd no) es rise.0,
              )
          by false x k r = ((λ s. absurd (true≢false (sym (swapped e.0 q true s) ∙ x))), r k)

  -- the folder of a place that a change names stands before it
  parent-shown : (older : List Change) → IsLegal older → (p : Place) (content : Content) → stands older p ≡ Some content
      → (c : Content) × (find_in (shown older) (parent_of p) ≡ Some c) × (is_folder c ≡ true)
  parent-shown older legal p content e = shown_holder older legal (parent_of p) (held older p content legal e)

  holder-shown : (older : List Change) (at : Place) (added : Content) → IsLegal (Addition at added ∷ older)
      → (c : Content) × (find_in (shown older) (parent_of at) ≡ Some c) × (is_folder c ≡ true)
  holder-shown older at added l = shown_holder older l.0 (parent_of at) (sym (holds_is older (parent_of at)) ∙ l.1.2)

  shown-is : (older : List Change) → IsLegal older → (p : Place) (content : Content) → stands older p ≡ Some content → find_in (shown older) p ≡ Some content
  shown-is older legal p content e =
      (λ i. cond (stands_named older p content legal e i) (Some root_entry.1) (find_in (live older) p)) ∙ find_live older legal p ∙ e

  each-rewrote : (P : Place → Bool → Type 0) (at : Place) (written : Content) (es : FolderMap)
      → AllByRecursion (λ (e : Entry). same_path at e.0 ≡ true → is_folder e.1 ≡ is_folder written) es
      → AllByRecursion (λ (e : Entry). P e.0 (is_folder e.1)) es → AllByRecursion (λ (e : Entry). P e.0 (is_folder e.1)) (rewritten at written es)
  each-rewrote P at written [] same all = tt
  each-rewrote P at written (e ∷ es) same all = (by (same_path at e.0) refl, each-rewrote P at written es same.1 all.1)
    where
      by : (b : Bool) → same_path at e.0 ≡ b → P (cond b (e.0, written) e).0 (is_folder (cond b (e.0, written) e).1)
      by true x = subst (P e.0) (same.0 x) all.0
      by false x = all.0

  -- of rising places a found one has the content
  found-kinds : (older : List Change) (at : Place) (before : Content) (folder : Bool) → is_folder before ≡ folder → (es : FolderMap) → Rising (id_of older) es
      → find_in es at ≡ Some before → AllByRecursion (λ (e : Entry). same_path at e.0 ≡ true → is_folder e.1 ≡ folder) es
  found-kinds older at before folder is [] rise f = tt
  found-kinds older at before folder is (e ∷ es) rise f = by (same_path at e.0) refl f (λ k. found-kinds older at before folder is es rise.1 k)
    where
      by : (b : Bool) → same_path at e.0 ≡ b → cond b (Some e.1) (find_in es at) ≡ Some before
          → (find_in es at ≡ Some before → AllByRecursion (λ (o : Entry). same_path at o.0 ≡ true → is_folder o.1 ≡ folder) es)
          → (b ≡ true → is_folder e.1 ≡ folder) × AllByRecursion (λ (o : Entry). same_path at o.0 ≡ true → is_folder o.1 ≡ folder) es
      by true x k r =
          let same : e.1 ≡ before = cc in (
            (λ s. ap is_folder same ∙ is),
            each-weaker (λ (o : Entry). id_of older e.0 < id_of older o.0) (λ (o : Entry). same_path at o.0 ≡ true → is_folder o.1 ≡ folder)
                (λ o l s.
                let one : id_of older at ≡ id_of older e.0 = ap (id_of older) (same_path_is at e.0 x) in
                let two : id_of older at ≡ id_of older o.0 = ap (id_of older) (same_path_is at o.0 s) in
                let no : ⊥ = omega (arith, l, one, two) in
                absurd no) es rise.0,
          )
      by false x k r = ((λ s. absurd (true≢false (sym s))), r k)

  tell-deleted : (older : List Change) (at : Place) → IsLegal (Deletion at ∷ older) → AllByRecursion (TellsOf older) (shown older)
      → AllByRecursion (TellsOf (Deletion at ∷ older)) (shown (Deletion at ∷ older))
  tell-deleted older at legal before =
      each-weaker (λ (e : Entry). TellsOf older e × (Beside older (parent_of at) e × (nat_eq (id_of older e.0) (id_of older at) ≡ false))) (TellsOf (Deletion at ∷ older)) one
      (root_entry ∷ removed at (live older)) kept
    where
      parent : (c : Content) × (find_in (shown older) (parent_of at) ≡ Some c) × (is_folder c ≡ true)
      parent = parent-shown older legal.0 at legal.1.0 legal.1.1

      here : find_in (shown older) at ≡ Some legal.1.0
      here = shown-is older legal.0 at legal.1.0 legal.1.1

      all : AllByRecursion (λ (e : Entry). TellsOf older e × (Beside older (parent_of at) e × (nat_eq (id_of older e.0) (id_of older at) ≡ same_path at e.0))) (shown older)
      all =
          each-both (TellsOf older) (λ (e : Entry). Beside older (parent_of at) e × (nat_eq (id_of older e.0) (id_of older at) ≡ same_path at e.0)) (shown older) before
          (each-both (Beside older (parent_of at)) (λ (e : Entry). nat_eq (id_of older e.0) (id_of older at) ≡ same_path at e.0) (shown older)
          (beside older legal.0 (parent_of at) parent.0 parent.1 parent.2)
          (numbers-tell (id_of older) (shown older) at legal.1.0 (ids_rise older legal.0) here))

      left : (es : FolderMap)
          → AllByRecursion (λ (e : Entry). TellsOf older e × (Beside older (parent_of at) e × (nat_eq (id_of older e.0) (id_of older at) ≡ same_path at e.0))) es
          → AllByRecursion (λ (e : Entry). TellsOf older e × (Beside older (parent_of at) e × (nat_eq (id_of older e.0) (id_of older at) ≡ false))) (removed at es)
      left [] every = tt
      left (e ∷ es) every = by (same_path at e.0) refl (left es every.1)
        where
          by : (b : Bool) → same_path at e.0 ≡ b
              → AllByRecursion (λ (e : Entry). TellsOf older e × (Beside older (parent_of at) e × (nat_eq (id_of older e.0) (id_of older at) ≡ false))) (removed at es)
              → AllByRecursion (λ (e : Entry). TellsOf older e × (Beside older (parent_of at) e × (nat_eq (id_of older e.0) (id_of older at) ≡ false))) (cond (not b) (e ∷ removed at es) (removed at es))
          by true x r = r
          by false x r = ((every.0.0, (every.0.1.0, every.0.1.1 ∙ x)), r)

      kept : AllByRecursion (λ (e : Entry). TellsOf older e × (Beside older (parent_of at) e × (nat_eq (id_of older e.0) (id_of older at) ≡ false))) (root_entry ∷ removed at (live older))
      kept = ((all.0.0, (all.0.1.0, all.0.1.1 ∙ stands_named older at legal.1.0 legal.0 legal.1.1)), left (live older) all.1)

      one : (e : Entry) → TellsOf older e × (Beside older (parent_of at) e × (nat_eq (id_of older e.0) (id_of older at) ≡ false)) → TellsOf (Deletion at ∷ older) e
      one e k =
          tells-more (Deletion at) older e.0 (is_folder e.1) (same_path e.0 (parent_of at)) refl (nat-swap (id_of older at) (id_of older e.0) ∙ k.1.1) refl k.1.0.0 refl refl k.1.0.1 k.0

  tell-modified : (older : List Change) (at : Place) (written : Content) → IsLegal (Modification at written ∷ older) → AllByRecursion (TellsOf older) (shown older)
      → AllByRecursion (TellsOf (Modification at written ∷ older)) (shown (Modification at written ∷ older))
  tell-modified older at written legal before =
      each-weaker (λ (e : Entry). Tells older e.0 (is_folder e.1) × Under e.0 (is_folder e.1)) (TellsOf (Modification at written ∷ older)) one
      (shown (Modification at written ∷ older)) (all.0, each-rewrote (λ p folder. Tells older p folder × Under p folder) at written (live older) same all.1)
    where
      Under : Place → Bool → Type 0
      Under p folder = (nat_eq (id_of older (parent_of at)) (id_of older p) ≡ same_path p (parent_of at)) × (same_path p (parent_of at) ≡ true → folder ≡ true)

      parent : (c : Content) × (find_in (shown older) (parent_of at) ≡ Some c) × (is_folder c ≡ true)
      parent = parent-shown older legal.0 at legal.1.0 legal.1.1

      same : AllByRecursion (λ (e : Entry). same_path at e.0 ≡ true → is_folder e.1 ≡ is_folder written) (live older)
      same =
          found-kinds older at legal.1.0 (is_folder written) (kinds legal.1.0 written legal.1.2) (live older) (ids_rise older legal.0).1
          (find_live older legal.0 at ∙ legal.1.1)

      all : AllByRecursion (λ (e : Entry). Tells older e.0 (is_folder e.1) × Under e.0 (is_folder e.1)) (shown older)
      all = each-both (TellsOf older) (Beside older (parent_of at)) (shown older) before (beside older legal.0 (parent_of at) parent.0 parent.1 parent.2)

      one : (e : Entry) → Tells older e.0 (is_folder e.1) × Under e.0 (is_folder e.1) → TellsOf (Modification at written ∷ older) e
      one e k = tells-more (Modification at written) older e.0 (is_folder e.1) (same_path e.0 (parent_of at)) refl refl refl k.1.0 refl refl k.1.1 k.0

  tell-added : (older : List Change) (at : Place) (added : Content) → IsLegal (Addition at added ∷ older) → AllByRecursion (TellsOf older) (shown older)
      → AllByRecursion (TellsOf (Addition at added ∷ older)) (shown (Addition at added ∷ older))
  tell-added older at added legal before =
      each-append (TellsOf (Addition at added ∷ older)) (shown older) ((at, added) ∷ [])
      (each-weaker (λ (e : Entry). TellsOf older e × (Beside older (parent_of at) e × (same_path at e.0 ≡ false))) (TellsOf (Addition at added ∷ older)) one (shown older) all)
      (new, tt)
    where
      parent : (c : Content) × (find_in (shown older) (parent_of at) ≡ Some c) × (is_folder c ≡ true)
      parent = holder-shown older at added legal

      all : AllByRecursion (λ (e : Entry). TellsOf older e × (Beside older (parent_of at) e × (same_path at e.0 ≡ false))) (shown older)
      all =
          each-both (TellsOf older) (λ (e : Entry). Beside older (parent_of at) e × (same_path at e.0 ≡ false)) (shown older) before
          (each-both (Beside older (parent_of at)) (λ (e : Entry). same_path at e.0 ≡ false) (shown older) (beside older legal.0 (parent_of at) parent.0 parent.1 parent.2)
          (legal.1.0, away_from_none (live older) at (find_live older legal.0 at ∙ legal.1.1)))

      drawn : id_of (Addition at added ∷ older) at ≡ 1 + count_by is_addition older
      drawn = id_new at added older at (same_path_itself at)

      one : (e : Entry) → TellsOf older e × (Beside older (parent_of at) e × (same_path at e.0 ≡ false)) → TellsOf (Addition at added ∷ older) e
      one e k =
          let apart = swapped at e.0 false k.1.1 in
          let most = id_drawn older e.0 in
          tells-more (Addition at added) older e.0 (is_folder e.1) (same_path e.0 (parent_of at)) (id_kept at added older e.0 apart) refl
          ((λ i. is_folder added && ne_eqb (id_of (Addition at added ∷ older) at) (id_of older e.0) (λ s. omega (arith, most, drawn, s)) i) ∙ and-false (is_folder added))
          k.1.0.0 refl apart k.1.0.1 k.0

      new : TellsOf (Addition at added ∷ older) (at, added)
      new =
          subst (λ (n : ℕ). (was_deleted first from n (Addition at added ∷ older) ≡ false)
          × (last_touch first from n (Addition at added ∷ older) ≡ Number (Addition at added ∷ older) at (is_folder added))) (sym drawn) (gone, touched)
        where
          id : ℕ
          id = 1 + count_by is_addition older

          gone : was_deleted first from id (Addition at added ∷ older) ≡ false
          gone = by (nat_le (number_of (Addition at added ∷ older)) from)
            where
              by : (b : Bool) → cond b false (was_deleted first from id older) ≡ false
              by true = refl
              by false = undrawn-deleted older id (omega arith)

          all-of : up_to (adds at) (Addition at added ∷ older) ≡ Addition at added ∷ older
          all-of = λ i. cond (same_path_itself at i) (Addition at added ∷ older) (up_to (adds at) older)

          updated-is : updated (Addition at added ∷ older) at ≡ number_of (Addition at added ∷ older)
          updated-is =
              let most = length-up_to (is_under at) (Addition at added ∷ older) in
              let whole = ap length all-of in
              omega (arith, most, whole)

          touched : last_touch first from id (Addition at added ∷ older) ≡ Number (Addition at added ∷ older) at (is_folder added)
          touched = by (nat_le (number_of (Addition at added ∷ older)) from) refl
            where
              rest : Bool → Option ℕ
              rest b = cond b None
                  (cond (is_folder added && nat_eq (id_of (Addition at added ∷ older) at) id) (Some (number_of (Addition at added ∷ older)))
                  (cond (nat_eq (id_of older (parent_of at)) id) (Some (number_of (Addition at added ∷ older))) (last_touch first from id older)))

              outside : nat_eq (id_of older (parent_of at)) id ≡ false
              outside = let most = id_drawn older (parent_of at) in ne_eqb (id_of older (parent_of at)) id (λ s. omega (arith, most, s))

              on : (folder : Bool) → from < number_of (Addition at added ∷ older)
                  → cond (folder && nat_eq (id_of (Addition at added ∷ older) at) id) (Some (number_of (Addition at added ∷ older)))
                  (cond (nat_eq (id_of older (parent_of at)) id) (Some (number_of (Addition at added ∷ older))) (last_touch first from id older))
                  ≡ Number (Addition at added ∷ older) at folder
              on true l =
                  (λ i. cond (eq-eqb (id_of (Addition at added ∷ older) at) id drawn i) (Some (number_of (Addition at added ∷ older)))
                  (cond (nat_eq (id_of older (parent_of at)) id) (Some (number_of (Addition at added ∷ older))) (last_touch first from id older)))
                  ∙ ap Some (sym updated-is)
                  ∙ sym (λ i. cond (lt-ltb from (updated (Addition at added ∷ older) at) (let is = updated-is in omega (arith, l, is)) i) (Some (updated (Addition at added ∷ older) at)) None)
              on false l =
                  (λ i. cond (outside i) (Some (number_of (Addition at added ∷ older))) (last_touch first from id older)) ∙ undrawn-touched older id (omega arith)

              by : (b : Bool) → nat_le (number_of (Addition at added ∷ older)) from ≡ b → last_touch first from id (Addition at added ∷ older) ≡ Number (Addition at added ∷ older) at (is_folder added)
              by true e = ap rest e ∙ sym (low-number (Addition at added ∷ older) at (is_folder added) (leb-true (number_of (Addition at added ∷ older)) from e))
              by false e = ap rest e ∙ on (is_folder added) (leb-false (number_of (Addition at added ∷ older)) from e)

  all-tell : (changes : List Change) → IsLegal changes → AllByRecursion (TellsOf changes) (shown changes)
  all-tell [] legal = (
    (refl, sym (low-number [] [] true (omega (arith, after-first)))),
    tt,
  )
  all-tell (Deletion at ∷ older) legal = tell-deleted older at legal (all-tell older legal.0)
  all-tell (Modification at written ∷ older) legal = tell-modified older at written legal (all-tell older legal.0)
  all-tell (Addition at added ∷ older) legal = tell-added older at added legal (all-tell older legal.0)

  -- ---- all that does not stand

  abbrev Away : List Change → ℕ → Type 0
  Away changes id = AllByRecursion (λ (e : Entry). nat_eq (id_of changes e.0) id ≡ false) (shown changes)

  abbrev Apart_of : (Place → ℕ) → ℕ → Entry → Type 0
  Apart_of f id e = nat_eq (f e.0) id ≡ false

  un-removed : (f : Place → ℕ) (id : ℕ) (at : Place) (es : FolderMap) → nat_eq (f at) id ≡ false → AllByRecursion (Apart_of f id) (removed at es) → AllByRecursion (Apart_of f id) es
  un-removed f id at [] n all = tt
  un-removed f id at (e ∷ es) n all = by (same_path at e.0) refl all (λ rest. un-removed f id at es n rest)
    where
      by : (b : Bool) → same_path at e.0 ≡ b → AllByRecursion (Apart_of f id) (cond (not b) (e ∷ removed at es) (removed at es))
          → (AllByRecursion (Apart_of f id) (removed at es) → AllByRecursion (Apart_of f id) es) → AllByRecursion (Apart_of f id) (e ∷ es)
      by true x all r = (ap (λ (q : Place). nat_eq (f q) id) (sym (same_path_is at e.0 x)) ∙ n, r all)
      by false x all r = (all.0, r all.1)

  un-rewritten : (f : Place → ℕ) (id : ℕ) (at : Place) (written : Content) (es : FolderMap) → AllByRecursion (Apart_of f id) (rewritten at written es) → AllByRecursion (Apart_of f id) es
  un-rewritten f id at written [] all = tt
  un-rewritten f id at written (e ∷ es) all = (by (same_path at e.0) all.0, un-rewritten f id at written es all.1)
    where
      by : (b : Bool) → nat_eq (f (cond b (e.0, written) e).0) id ≡ false → nat_eq (f e.0) id ≡ false
      by true n = n
      by false n = n

  front : (P : Entry → Type 0) (es fs : FolderMap) → AllByRecursion P (es ++ fs) → AllByRecursion P es × AllByRecursion P fs
  front P [] fs all = (tt, all)
  front P (e ∷ es) fs all = let rest = front P es fs all.1 in ((all.0, rest.0), rest.1)

  all-none : (changes : List Change) → IsLegal changes → (id : ℕ) → Away changes id → IsNone changes id
  all-none [] legal id away = inr refl
  all-none (Deletion at ∷ older) legal id away = by (nat_eq (id_of older at) id) refl (λ n. all-none older legal.0 id (before n))
    where
      before : nat_eq (id_of older at) id ≡ false → Away older id
      before n = (away.0, un-removed (id_of older) id at (live older) n away.1)

      by : (b : Bool) → nat_eq (id_of older at) id ≡ b → (nat_eq (id_of older at) id ≡ false → IsNone older id) → IsNone (Deletion at ∷ older) id
      by true e r = none-deleted (Deletion at) older id e
      by false e r =
          let parent = parent-shown older legal.0 at legal.1.0 legal.1.1 in
          none-more (Deletion at) older id refl (found_holds (Apart_of (id_of older) id) (shown older) (parent_of at) parent.0 (before e) parent.1) (r e)
  all-none (Modification at written ∷ older) legal id away =
      let before : Away older id = (away.0, un-rewritten (id_of older) id at written (live older) away.1) in
      let parent = parent-shown older legal.0 at legal.1.0 legal.1.1 in
      none-more (Modification at written) older id refl (found_holds (Apart_of (id_of older) id) (shown older) (parent_of at) parent.0 before parent.1) (all-none older legal.0 id before)
  all-none (Addition at added ∷ older) legal id away =
      let parts = front (Apart_of (id_of (Addition at added ∷ older)) id) (shown older) ((at, added) ∷ []) away in
      let apart : AllByRecursion (λ (e : Entry). same_path at e.0 ≡ false) (shown older) = (legal.1.0, away_from_none (live older) at (find_live older legal.0 at ∙ legal.1.1)) in
      let before : Away older id =
      each-weaker (λ (e : Entry). Apart_of (id_of (Addition at added ∷ older)) id e × (same_path at e.0 ≡ false)) (Apart_of (id_of older) id)
      (λ e k. ap (λ (n : ℕ). nat_eq n id) (sym (id_kept at added older e.0 (swapped at e.0 false k.1))) ∙ k.0) (shown older)
      (each-both (Apart_of (id_of (Addition at added ∷ older)) id) (λ (e : Entry). same_path at e.0 ≡ false) (shown older) parts.0 apart) in
      let parent = holder-shown older at added legal in
      none-more (Addition at added) older id ((λ i. is_folder added && parts.1.0 i) ∙ and-false (is_folder added))
      (found_holds (Apart_of (id_of older) id) (shown older) (parent_of at) parent.0 before parent.1) (all-none older legal.0 id before)

  -- ---- ids one by one

  abbrev told_of : List Change → ℕ → Option (ℕ × ℕ)
  told_of changes id = cond (was_deleted first from id changes) None (option_map (λ (number : ℕ). (id, number)) (last_touch first from id changes))

  none-told : (changes : List Change) (id : ℕ) → IsNone changes id → told_of changes id ≡ None
  none-told changes id (inl w) = λ i. cond (w i) None (option_map (λ (number : ℕ). (id, number)) (last_touch first from id changes))
  none-told changes id (inr t) = (λ i. cond (was_deleted first from id changes) None (option_map (λ (number : ℕ). (id, number)) (t i))) ∙ either (was_deleted first from id changes)
    where
      either : (b : Bool) → cond {A = Option (ℕ × ℕ)} b None None ≡ None
      either true = refl
      either false = refl

  entry-told : (changes : List Change) (e : Entry) → TellsOf changes e → told_of changes (id_of changes e.0) ≡ changed_container from (row_at first changes (live changes) e)
  entry-told changes e t =
      (λ i. cond (t.0 i) None (option_map {U = ℕ × ℕ} (λ (number : ℕ). (id_of changes e.0, number)) (t.1 i))) ∙ by e.1
    where
      by : (content : Content) → option_map {U = ℕ × ℕ} (λ (number : ℕ). (id_of changes e.0, number)) (Number changes e.0 (is_folder content))
          ≡ changed_container from (row_at first changes (live changes) (e.0, content))
      by (Folder title) = on (nat_lt from (updated changes e.0))
        where
          on : (b : Bool) → option_map {U = ℕ × ℕ} (λ (number : ℕ). (id_of changes e.0, number)) (cond b (Some (updated changes e.0)) None)
              ≡ cond b (Some (id_of changes e.0, updated changes e.0)) None
          on true = refl
          on false = refl
      by (Track track) = refl

  -- ids in a row and the entries that have them
  in-row : (f : Place → ℕ) (g : ℕ → Option (ℕ × ℕ)) (h : Entry → Option (ℕ × ℕ)) (n a : ℕ) (es : FolderMap) → Rising f es
      → AllByRecursion (λ (e : Entry). (a ≤ f e.0) × (f e.0 < a + n)) es → AllByRecursion (λ (e : Entry). g (f e.0) ≡ h e) es
      → ((id : ℕ) → a ≤ id → AllByRecursion (Apart_of f id) es → g id ≡ None)
      → filter_map g (range_with_len a n) ≡ filter_map h es
  in-row f g h zero a [] rise within same none = refl
  in-row f g h zero a (e ∷ es) rise within same none =
      let low = within.0.0 in
      let high = within.0.1 in
      let no : ⊥ = omega (arith, low, high) in
      absurd no
  in-row f g h (suc n) a [] rise within same none =
      (λ i. cons_option (none a (omega arith) tt i) (filter_map g (range_with_len (a + 1) n)))
      ∙ in-row f g h n (a + 1) [] tt tt tt (λ id l away. none id (omega (arith, l)) away)
  in-row f g h (suc n) a (e ∷ es) rise within same none =
      by (cases_lt a (f e.0)) (λ is. in-row f g h n (a + 1) es rise.1 (rest is) same.1 (later is))
      (λ l. in-row f g h n (a + 1) (e ∷ es) rise ((above l, all-above l)) same (λ id m away. none id (omega (arith, m)) away))
    where
      above : a < f e.0 → (a + 1 ≤ f e.0) × (f e.0 < a + 1 + n)
      above l = let high = within.0.1 in (omega (arith, l), omega (arith, high))

      all-above : a < f e.0 → AllByRecursion (λ (o : Entry). (a + 1 ≤ f o.0) × (f o.0 < a + 1 + n)) es
      all-above l =
          each-weaker (λ (o : Entry). (f e.0 < f o.0) × ((a ≤ f o.0) × (f o.0 < a + suc n))) (λ (o : Entry). (a + 1 ≤ f o.0) × (f o.0 < a + 1 + n))
          (λ o k. let up = k.0 in let high = k.1.1 in (omega (arith, l, up), omega (arith, high))) es
          (each-both (λ (o : Entry). f e.0 < f o.0) (λ (o : Entry). (a ≤ f o.0) × (f o.0 < a + suc n)) es rise.0 within.1)

      rest : f e.0 ≡ a → AllByRecursion (λ (o : Entry). (a + 1 ≤ f o.0) × (f o.0 < a + 1 + n)) es
      rest is =
          each-weaker (λ (o : Entry). (f e.0 < f o.0) × ((a ≤ f o.0) × (f o.0 < a + suc n))) (λ (o : Entry). (a + 1 ≤ f o.0) × (f o.0 < a + 1 + n))
          (λ o k. let up = k.0 in let high = k.1.1 in (omega (arith, is, up), omega (arith, high))) es
          (each-both (λ (o : Entry). f e.0 < f o.0) (λ (o : Entry). (a ≤ f o.0) × (f o.0 < a + suc n)) es rise.0 within.1)

      later : f e.0 ≡ a → (id : ℕ) → a + 1 ≤ id → AllByRecursion (Apart_of f id) es → g id ≡ None
      later is id l away = none id (omega (arith, l)) (ne_eqb (f e.0) id (λ s. omega (arith, is, l, s)), away)

      by : (a < f e.0) ⊎ (f e.0 ≤ a) → (f e.0 ≡ a → filter_map g (range_with_len (a + 1) n) ≡ filter_map h es)
          → (a < f e.0 → filter_map g (range_with_len (a + 1) n) ≡ filter_map h (e ∷ es)) → filter_map g (range_with_len a (suc n)) ≡ filter_map h (e ∷ es)
      by (inl l) here past =
          (λ i. cons_option (none a (omega arith) (
            ne_eqb (f e.0) a (λ s. omega (arith, l, s)),
            each-weaker (λ (o : Entry). f e.0 < f o.0) (Apart_of f a) (λ o up. ne_eqb (f o.0) a (λ s. omega (arith, l, up, s))) es rise.0,
          ) i) (filter_map g (range_with_len (a + 1) n)))
          ∙ past l
      by (inr l) here past =
          let low = within.0.0 in
          let is : f e.0 ≡ a = omega (arith, l, low) in
          (λ i. cons_option ((ap g (sym is) ∙ same.0) i) (here is i))

  all-containers : (changes : List Change) → IsLegal changes
      → touched_containers first from changes ≡ filter_map (λ (e : Entry). changed_container from (row_at first changes (live changes) e)) (shown changes)
  all-containers changes legal =
      in-row (id_of changes) (told_of changes) (λ (e : Entry). changed_container from (row_at first changes (live changes) e)) (count_by is_addition changes + 1) 0 (shown changes)
      (ids_rise changes legal)
      (drawn (shown changes))
      (each-weaker (TellsOf changes) (λ (e : Entry). told_of changes (id_of changes e.0) ≡ changed_container from (row_at first changes (live changes) e)) (entry-told changes) (shown changes) (all-tell changes legal))
      (λ id l away. none-told changes id (all-none changes legal id away))
    where
      drawn : (es : FolderMap) → AllByRecursion (λ (e : Entry). (0 ≤ id_of changes e.0) × (id_of changes e.0 < 0 + (count_by is_addition changes + 1))) es
      drawn [] = tt
      drawn (e ∷ es) = (let most = id_drawn changes e.0 in (omega arith, omega (arith, most)), drawn es)

-- ---- the span

-- the changes up to the end of the older ones are the older ones
older-changes : (first : ℕ) (newer older : List Change) → changes_to first (first + length older) (newer ++ older) ≡ older
older-changes first [] [] = refl
older-changes first [] (change ∷ older) =
    λ i. cond (le-leb (first + length (change ∷ older)) (first + length (change ∷ older)) (omega arith) i) (change ∷ older) (changes_to first (first + length (change ∷ older)) older)
older-changes first (change ∷ newer) older = by (nat_le (first + length (change ∷ newer ++ older)) (first + length older)) refl (older-changes first newer older)
  where
    by : (b : Bool) → nat_le (first + length (change ∷ newer ++ older)) (first + length older) ≡ b → changes_to first (first + length older) (newer ++ older) ≡ older
        → cond b (change ∷ newer ++ older) (changes_to first (first + length older) (newer ++ older)) ≡ older
    by true e r =
        let low = leb-true (first + length (change ∷ newer ++ older)) (first + length older) e in
        let both = length-append newer older in
        let no : ⊥ = omega (arith, low, both) in
        absurd no
    by false e r = r

map-filter : {X Y Z : Type 0} (f : Y → Option Z) (g : X → Y) (xs : List X) → filter_map f (map g xs) ≡ filter_map (λ (x : X). f (g x)) xs
map-filter f g [] = refl
map-filter f g (x ∷ xs) = ap (cons_option (f (g x))) (map-filter f g xs)

pub containers-numbered : containers_have_their_numbers
containers-numbered first newer older from all l =
    let libraries : _ = older_are_libraries newer older all in
    ap (λ (changes : List Change). touched_containers first from (changes_to first (first + length (changes_of older)) changes)) (changes_of_more newer older)
    ∙ ap (touched_containers first from) (older-changes first (changes_since newer older) (changes_of older))
    ∙ all-containers first from l (changes_of older) (history_is_legal older libraries).0
    ∙ sym (map-filter (λ (placed : PlacedRow). changed_container from placed.1) (row_over first (changes_of older)) (shown (changes_of older)))
    ∙ sym (map-filter (changed_container from) (λ (placed : PlacedRow). placed.1) (rows_over first (changes_of older)))
    ∙ sym (ap (λ (rows : List PlacedRow). filter_map (changed_container from) (map (λ (placed : PlacedRow). placed.1) rows)) (placed_rows_over first older libraries))
