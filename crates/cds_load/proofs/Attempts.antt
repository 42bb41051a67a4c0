-- What is held after any turns, as the attempt that runs shows it.
use Rattle.std.proofs.Common.{◌≡◌, ℕ, zero, suc, ◌+◌, ◌-◌, ◌*◌, ◌<◌, ◌≤◌, List, [], ◌∷◌, ◌++◌, length, map, min, Bool, true, false, cond, not, ◌&&◌, ◌||◌, nat_lt, nat_eq, refl, ap, sym, subst, ◌∙◌, arith, Some, ◌⊎◌, inl, inr, length-append, append_assoc}
use Rattle.std.specs.Prelude.{unwrap_or}
use Rattle.std.specs.List.{AllByRecursion, filter_map, cons_option, list_any, list_all, sum_by, count_by}
use Rattle.std.specs.Option.{option_map}
use Rattle.std.proofs.lemmas.Bool.{eqb-true, ne_eqb, lt-ltb, le-ltb, and_parts, true≢false}
use Rattle.std.proofs.lemmas.List.{append-nil, map-append}
use Rattle.std.proofs.lemmas.List.Sums.{sum_by-cons, sum_by-append}
use Rattle.std.proofs.lemmas.List.Folds.{list_any-append}
use Rattle.cds_object.specs.Object.{ObjectRow}
use Rattle.cds_object.specs.Tree.{is_child_of}
use Rattle.cds_load.specs.declared.exchange.Ask.TheVariants.{Token, Number as AskNumber, Metadata, Children}
use Rattle.cds_load.specs.declared.exchange.Shown.{Shown}
use Rattle.cds_load.specs.declared.exchange.Shown.TheVariants.{Number, Page}
use Rattle.cds_load.specs.Server.{page_size}
use Rattle.cds_load.specs.Stages.{Waiting, Listing, waiting_of, puts_by, put_rows, put_containers, listed_id, listed_children, others_waiting, known_ids, all_new, fits}
use Rattle.cds_load.specs.Attempts.{rows_in, number_in, is_odd, children_among, unasked, first_of, least_unasked, container_after, asked_in, next_container, ask_in, can_be, EvenAre}
use Rattle.cds_load.proofs.Merge.{Rises}
use Rattle.cds_load.proofs.Trees.{id_of, all-map}
use Rattle.cds_load.proofs.Advance.{waiting_id}
use Rattle.cds_load.proofs.Placed.{is_among, or-none, or-right, puts-append, any-puts, new-same, new-each, puts-rises, make-puts, sum-puts, count-none, count-all}
use Rattle.cds_load.proofs.Unasked.{was_asked, times, times-length, times-all, unasked-keeps, first-unasked, others-unasked, new-unasked, not-asked, Under, under-times, under-no_child, child-under, own_pages, row_pages, pages-made}

-- all children of the container of the newest page were shown
abbrev pub IsWhole : List ObjectRow → List Waiting → Type 0
IsWhole rows [] = Unit {0}
IsWhole rows (w ∷ asked) = nat_lt (children_among rows w) w.children ≡ false

-- an attempt between two listings: these rows are known in whole, and these containers wait
pub record Between (number : ℕ) (attempt : List Shown) (rows : List ObjectRow) (waiting : List Waiting) : Type 0 where
  pub numbered : number_in attempt ≡ Some number
  pub evens : EvenAre number attempt
  pub even : is_odd attempt ≡ false
  pub long : length attempt ≡ 4 + 2 * length (asked_in attempt)
  pub placed : rows ≡ put_rows (rows_in attempt) []
  pub rises : Rises id_of rows
  pub waits : waiting ≡ filter_map (unasked (asked_in attempt)) rows
  pub parents : AllByRecursion (Under (asked_in attempt)) (rows_in attempt)
  pub known : AllByRecursion (λ (w : Waiting). is_among w.id (map id_of rows) ≡ true) (asked_in attempt)
  pub whole : IsWhole (rows_in attempt) (asked_in attempt)
  pub counted : length (asked_in attempt) + sum_by own_pages waiting ≡ sum_by row_pages (rows_in attempt)

-- an attempt in a listing, which began with an attempt between two: so many whole pages of its container were shown
pub record Within (number : ℕ) (attempt : List Shown) (l : Listing) : Type 0 where
  pub start : List Shown
  pub at : Between number start l.rows l.waiting
  pub first : Waiting
  pub others : List Waiting
  pub waiting : l.waiting ≡ first ∷ others
  pub pages : ℕ
  pub numbered : number_in attempt ≡ Some number
  pub evens : EvenAre number attempt
  pub even : is_odd attempt ≡ false
  pub long : length attempt ≡ length start + 2 * pages
  pub shown : rows_in attempt ≡ rows_in start ++ l.part
  pub asked : asked_in attempt ≡ times pages first (asked_in start)
  pub rises : Rises id_of (put_rows l.part l.rows)
  pub fresh : AllByRecursion (λ (row : ObjectRow). is_among row.id (map id_of l.rows) ≡ false) l.part
  pub part : AllByRecursion (λ (row : ObjectRow). is_child_of first.id row ≡ true) l.part
  pub size : length l.part ≡ 256 * pages
  pub room : (pages ≡ 0) ⊎ (length l.part < first.children)

nil-from_length : {X : Type 0} (xs : List X) → length xs ≡ 0 → xs ≡ []
nil-from_length [] e = refl
nil-from_length (x ∷ xs) e = absurd (omega (arith, e))

all-append : (P : ObjectRow → Type 0) (xs ys : List ObjectRow) → AllByRecursion P xs → AllByRecursion P ys → AllByRecursion P (xs ++ ys)
all-append P [] ys these those = those
all-append P (x ∷ xs) ys these those = (these.0, all-append P xs ys these.1 those)

listed-all : (test : ObjectRow → Bool) (xs : List ObjectRow) → list_all test xs ≡ true → AllByRecursion (λ row. test row ≡ true) xs
listed-all test [] all = tt
listed-all test (x ∷ xs) all = ((and_parts _ _ all).0, listed-all test xs (and_parts _ _ all).1)

-- between two listings the first container that waits is next
pub between-next : (number : ℕ) (attempt : List Shown) (rows : List ObjectRow) (waiting : List Waiting) → Between number attempt rows waiting →
    next_container attempt ≡ first_of waiting
between-next number attempt rows waiting b =
    by (asked_in attempt) b.whole ∙ ap first_of (ap (filter_map (unasked (asked_in attempt))) (sym b.placed) ∙ sym b.waits)
  where
    by : (asked : List Waiting) → IsWhole (rows_in attempt) asked → container_after (rows_in attempt) asked ≡ least_unasked (rows_in attempt) asked
    by [] whole = refl
    by (w ∷ asked) whole = ap (λ c. cond c (Some w) (least_unasked (rows_in attempt) (w ∷ asked))) whole

-- a listing begins between two
pub within-begins : (number : ℕ) (attempt : List Shown) (rows : List ObjectRow) (w : Waiting) (ws : List Waiting) → Between number attempt rows (w ∷ ws) →
    Within number attempt (record { rows = rows; waiting = w ∷ ws; part = [] })
within-begins number attempt rows w ws b = record {
  start = attempt;
  at = b;
  first = w;
  others = ws;
  waiting = refl;
  pages = 0;
  numbered = b.numbered;
  evens = b.evens;
  even = b.even;
  long = omega arith;
  shown = sym (append-nil (rows_in attempt));
  asked = refl;
  rises = b.rises;
  fresh = tt;
  part = tt;
  size = refl;
  room = inl refl;
}

module _ (number : ℕ) (attempt : List Shown) (l : Listing) (within : Within number attempt l) where
  -- no page was asked of its container before, which is known
  first-new : (was_asked within.first.id (asked_in within.start) ≡ false) × (is_among within.first.id (map id_of l.rows) ≡ true)
  first-new = first-unasked (asked_in within.start) l.rows within.first within.others (sym within.at.waits ∙ within.waiting)

  -- of its children the part was shown
  before-none : count_by (is_child_of within.first.id) (rows_in within.start) ≡ 0
  before-none = count-none (is_child_of within.first.id) (rows_in within.start)
      (all-map (λ row under. under-no_child (asked_in within.start) within.first row first-new.0 under) (rows_in within.start) within.at.parents)

  pub children-shown : children_among (rows_in attempt) within.first ≡ length l.part
  children-shown =
      ap (count_by (is_child_of within.first.id)) within.shown
      ∙ sum_by-append (λ row. cond (is_child_of within.first.id row) 1 0) (rows_in within.start) l.part
      ∙ (λ i. before-none i + count-all (is_child_of within.first.id) l.part within.part i)
      ∙ (let e : 0 + length l.part ≡ length l.part = omega arith in e)

  -- it is next
  pub within-next : next_container attempt ≡ Some within.first
  within-next = by within.pages refl
    where
      by : (pages : ℕ) → within.pages ≡ pages → container_after (rows_in attempt) (asked_in attempt) ≡ Some within.first
      by zero e =
          let none : l.part ≡ [] = nil-from_length l.part (omega (arith, within.size, e)) in
          (λ i. container_after
          ((within.shown ∙ ap (λ v. rows_in within.start ++ v) none ∙ append-nil (rows_in within.start)) i)
          ((within.asked ∙ ap (λ n. times n within.first (asked_in within.start)) e) i))
          ∙ between-next number within.start l.rows l.waiting within.at
          ∙ ap first_of within.waiting
      by (suc n) e =
          ap (container_after (rows_in attempt)) (within.asked ∙ ap (λ k. times k within.first (asked_in within.start)) e)
          ∙ ap (λ b. cond b (Some within.first) (least_unasked (rows_in attempt) (within.first ∷ times n within.first (asked_in within.start))))
          (ap (λ k. nat_lt k within.first.children) children-shown ∙ lt-ltb (length l.part) within.first.children (less within.room))
        where
          less : (within.pages ≡ 0) ⊎ (length l.part < within.first.children) → length l.part < within.first.children
          less (inl none) = absurd (omega (arith, none, e))
          less (inr some) = some

  pub within-id : listed_id l ≡ within.first.id
  within-id = ap (λ v. listed_id (record l { waiting = v })) within.waiting

  pub within-children : listed_children l ≡ within.first.children
  within-children = ap (λ v. listed_children (record l { waiting = v })) within.waiting

  -- the next ask is for its next children
  pub within-ask : ask_in attempt ≡ Some (Children (listed_id l) (length l.part))
  within-ask =
      (λ i. cond (within.even i) (Some AskNumber) (cond (some i) (Some Token) (cond (more i) (Some (Metadata 0))
      (option_map (λ (w : Waiting). Children w.id (children_among (rows_in attempt) w)) (within-next i)))))
      ∙ (λ i. Some (Children (sym within-id i) (children-shown i)))
    where
      size : 4 ≤ length attempt
      size = omega (arith, within.long, within.at.long)

      some : nat_eq (length attempt) 0 ≡ false
      some = ne_eqb (length attempt) 0 (λ e. absurd (omega (arith, size, e)))

      more : nat_eq (length attempt) 2 ≡ false
      more = ne_eqb (length attempt) 2 (λ e. absurd (omega (arith, size, e)))

  -- a page fits by the attempt as by the listing
  pub fits-same : (page : List ObjectRow) → fits l page ≡ can_be (rows_in attempt) within.first page
  fits-same page =
      λ i. list_all (is_child_of (within-id i)) page && ids i && nat_eq (length page) (min page_size (within-children i - sym children-shown i))
    where
      known : (q : ℕ → Bool) → list_any q (known_ids l) ≡ list_any q (map id_of (rows_in attempt))
      known q =
          ap (list_any q) (map-append id_of l.rows l.part)
          ∙ list_any-append q (map id_of l.rows) (map id_of l.part)
          ∙ ap (λ b. b || list_any q (map id_of l.part))
          (ap (λ v. list_any q (map id_of v)) within.at.placed ∙ any-puts id_of q (rows_in within.start) [] ∙ or-false (list_any q (map id_of (rows_in within.start))))
          ∙ sym (list_any-append q (map id_of (rows_in within.start)) (map id_of l.part))
          ∙ ap (list_any q) (sym (map-append id_of (rows_in within.start) l.part))
          ∙ ap (λ v. list_any q (map id_of v)) (sym within.shown)
        where
          or-false : (b : Bool) → (b || false) ≡ b
          or-false true = refl
          or-false false = refl

      ids : all_new (known_ids l) page ≡ all_new (map id_of (rows_in attempt)) page
      ids = new-same (known_ids l) (map id_of (rows_in attempt)) page (λ n. known (λ id. nat_eq n id))

  -- a page that fits is next, and the number after it was N
  module _ (page : List ObjectRow) (total update : ℕ) (fit : fits l page ≡ true) where
    abbrev now : List Shown
    now = Number number ∷ Page page total update ∷ attempt

    fit_parts : (list_all (is_child_of within.first.id) page ≡ true) × (all_new (known_ids l) page ≡ true)
        × (length page ≡ min page_size (within.first.children - length l.part))
    fit_parts =
        let outer = and_parts _ _ fit in
        let inner = and_parts _ _ outer.0 in (
          ap (λ v. list_all (is_child_of v) page) (sym within-id) ∙ inner.0,
          inner.1,
          eqb-true _ _ outer.1 ∙ ap (λ v. min page_size (v - length l.part)) within-children,
        )

    numbered : number_in now ≡ Some number
    numbered = ap (λ o. Some (unwrap_or o number)) within.numbered

    evens : EvenAre number now
    evens = (λ odd. refl, (λ odd. absurd (true≢false (sym odd ∙ within.even)), within.evens))

    even : is_odd now ≡ false
    even = ap (λ b. not (not b)) within.even

    now_shown : rows_in now ≡ rows_in within.start ++ (l.part ++ page)
    now_shown = ap (λ v. v ++ page) within.shown ∙ append_assoc (rows_in within.start) l.part page

    now_asked : asked_in now ≡ times (suc within.pages) within.first (asked_in within.start)
    now_asked = (λ i. cons_option (within-next i) (within.asked i))

    abbrev kids : List ObjectRow
    kids = l.part ++ page

    abbrev asked_now : List Waiting
    asked_now = times (suc within.pages) within.first (asked_in within.start)

    all_children : AllByRecursion (λ (row : ObjectRow). is_child_of within.first.id row ≡ true) kids
    all_children = all-append (λ (row : ObjectRow). is_child_of within.first.id row ≡ true) l.part page within.part
        (listed-all (is_child_of within.first.id) page fit_parts.0)

    -- none of them has the id of a row that is known
    known-parts : (n : ℕ) → is_among n (known_ids l) ≡ false → (is_among n (map id_of l.rows) ≡ false) × (is_among n (map id_of l.part) ≡ false)
    known-parts n none =
        or-none (is_among n (map id_of l.rows)) (is_among n (map id_of l.part))
        (sym (list_any-append (λ id. nat_eq n id) (map id_of l.rows) (map id_of l.part))
        ∙ ap (list_any (λ id. nat_eq n id)) (sym (map-append id_of l.rows l.part)) ∙ none)

    all_fresh : AllByRecursion (λ (row : ObjectRow). is_among row.id (map id_of l.rows) ≡ false) kids
    all_fresh = all-append (λ (row : ObjectRow). is_among row.id (map id_of l.rows) ≡ false) l.part page within.fresh
        (all-map (λ (row : ObjectRow) none. (known-parts row.id none).0) page (new-each (known_ids l) page fit_parts.1))

    all_rise : Rises id_of (put_rows kids l.rows)
    all_rise = subst (Rises id_of) (sym (puts-append id_of l.part page l.rows))
        (puts-rises (known_ids l) page (put_rows l.part l.rows) within.rises fit_parts.1
        (λ n none. any-puts id_of (λ id. nat_eq n id) l.part l.rows ∙ (let parts = known-parts n none in λ i. parts.1 i || parts.0 i)))

    kids_long : length kids ≡ length l.part + length page
    kids_long = length-append l.part page

    -- a listing that is not whole yet goes on
    pub goes-on : (length kids ≡ within.first.children → ⊥) → Within number now (record { rows = l.rows; waiting = l.waiting; part = kids })
    goes-on apart = record {
      start = within.start;
      at = within.at;
      first = within.first;
      others = within.others;
      waiting = within.waiting;
      pages = suc within.pages;
      numbered = numbered;
      evens = evens;
      even = even;
      long = omega (arith, within.long);
      shown = now_shown;
      asked = now_asked;
      rises = all_rise;
      fresh = all_fresh;
      part = all_children;
      size = full within.room;
      room = inr (more within.room);
    }
      where
        full : (within.pages ≡ 0) ⊎ (length l.part < within.first.children) → length kids ≡ 256 * suc within.pages
        full (inl none) = omega (arith, none, apart, kids_long, fit_parts.2, within.size)
        full (inr some) = omega (arith, some, apart, kids_long, fit_parts.2, within.size)

        more : (within.pages ≡ 0) ⊎ (length l.part < within.first.children) → length kids < within.first.children
        more (inl none) = omega (arith, none, apart, kids_long, fit_parts.2, within.size)
        more (inr some) = omega (arith, some, apart, kids_long, fit_parts.2, within.size)

    -- a whole listing leads to what lies between two
    pub ends : length kids ≡ within.first.children → Between number now (put_rows kids l.rows) (put_containers kids (others_waiting l))
    ends whole = record {
      numbered = numbered;
      evens = evens;
      even = even;
      long =
          let asked : length (asked_in now) ≡ length asked_now = ap length now_asked in
          let size : length asked_now ≡ suc within.pages + length (asked_in within.start) = times-length (suc within.pages) within.first (asked_in within.start) in
          omega (arith, within.long, within.at.long, asked, size);
      placed =
          ap (put_rows kids) within.at.placed
          ∙ sym (puts-append id_of (rows_in within.start) kids [])
          ∙ ap (λ v. put_rows v []) (sym now_shown);
      rises = all_rise;
      waits = waits ∙ ap (λ v. filter_map (unasked v) (put_rows kids l.rows)) (sym now_asked);
      parents =
          subst (λ v. AllByRecursion (Under v) (rows_in now)) (sym now_asked)
          (subst (AllByRecursion (Under asked_now)) (sym now_shown)
          (all-append (Under asked_now) (rows_in within.start) kids
          (all-map (λ row under. under-times (suc within.pages) within.first (asked_in within.start) row under) (rows_in within.start) within.at.parents)
          (all-map (λ row child. child-under within.pages within.first (asked_in within.start) row child) kids all_children)));
      known =
          subst (AllByRecursion (λ (w : Waiting). is_among w.id (map id_of (put_rows kids l.rows)) ≡ true)) (sym now_asked)
          (all-map (λ (w : Waiting) is.
          any-puts id_of (λ id. nat_eq w.id id) kids l.rows ∙ or-right (is_among w.id (map id_of kids)) (is_among w.id (map id_of l.rows)) is) asked_now all_known);
      whole = subst (IsWhole (rows_in now)) (sym now_asked)
          (ap (λ n. nat_lt n within.first.children) shown_all ∙ le-ltb (length kids) within.first.children (omega (arith, whole)));
      counted = counted;
    }
      where
        own : own_pages within.first ≡ suc within.pages
        own = by within.room
          where
            by : (within.pages ≡ 0) ⊎ (length l.part < within.first.children) → own_pages within.first ≡ suc within.pages
            by (inl none) = omega (arith, none, whole, kids_long, fit_parts.2, within.size)
            by (inr some) = omega (arith, some, whole, kids_long, fit_parts.2, within.size)

        all_known : AllByRecursion (λ (w : Waiting). is_among w.id (map id_of l.rows) ≡ true) asked_now
        all_known = times-all (λ w. is_among w.id (map id_of l.rows) ≡ true) (suc within.pages) within.first (asked_in within.start) first-new.1 within.at.known

        shown_all : children_among (rows_in now) within.first ≡ length kids
        shown_all =
            ap (count_by (is_child_of within.first.id)) now_shown
            ∙ sum_by-append (λ row. cond (is_child_of within.first.id row) 1 0) (rows_in within.start) kids
            ∙ (λ i. before-none i + count-all (is_child_of within.first.id) kids all_children i)
            ∙ (let e : 0 + length kids ≡ length kids = omega arith in e)

        others : others_waiting l ≡ within.others
        others = ap (λ v. others_waiting (record l { waiting = v })) within.waiting

        waits : put_containers kids (others_waiting l) ≡ filter_map (unasked asked_now) (put_rows kids l.rows)
        waits =
            ap (put_containers kids) others
            ∙ sym (make-puts (unasked asked_now) id_of waiting_id (unasked-keeps asked_now) kids l.rows all_rise
            ∙ (λ i. puts_by waiting_id
            (new-unasked asked_now kids (all-map (λ (row : ObjectRow) new. not-asked row.id (map id_of l.rows) asked_now new all_known) kids all_fresh) i)
            (others-unasked within.pages (asked_in within.start) l.rows within.first within.others within.at.rises (sym within.at.waits ∙ within.waiting) i)))

        counted : length (asked_in now) + sum_by own_pages (put_containers kids (others_waiting l)) ≡ sum_by row_pages (rows_in now)
        counted =
            let asked : length (asked_in now) ≡ length asked_now = ap length now_asked in
            let size : length asked_now ≡ suc within.pages + length (asked_in within.start) = times-length (suc within.pages) within.first (asked_in within.start) in
            let put : sum_by own_pages (put_containers kids (others_waiting l)) ≡ sum_by own_pages (filter_map waiting_of kids) + sum_by own_pages (others_waiting l) =
            sum-puts own_pages waiting_id (filter_map waiting_of kids) (others_waiting l) in
            let made : sum_by own_pages (filter_map waiting_of kids) ≡ sum_by row_pages kids = pages-made kids in
            let rest : sum_by own_pages (others_waiting l) ≡ sum_by own_pages within.others = ap (sum_by own_pages) others in
            let split : sum_by own_pages l.waiting ≡ own_pages within.first + sum_by own_pages within.others =
            ap (sum_by own_pages) within.waiting ∙ sum_by-cons own_pages within.first within.others in
            let rows : sum_by row_pages (rows_in now) ≡ sum_by row_pages (rows_in within.start) + sum_by row_pages kids =
            ap (sum_by row_pages) now_shown ∙ sum_by-append row_pages (rows_in within.start) kids in
            let before = within.at.counted in
            omega (arith, asked, size, put, made, rest, split, rows, before, own)
