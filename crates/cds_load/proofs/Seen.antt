-- After any turns of a replica each row that it holds was shown.
use Rattle.std.proofs.Common.{ℕ, List, [], ◌∷◌, ◌++◌, length, Bool, true, false, cond, ◌&&◌, nat_lt, refl, inl, inr, Option, Some, None}
use Rattle.std.specs.Prelude.{nat_eq}
use Rattle.std.specs.List.{AllByRecursion}
use Rattle.cds_object.specs.Object.{ObjectRow, is_folder}
use Rattle.cds_load.specs.declared.exchange.Shown.{Shown}
use Rattle.cds_load.specs.declared.exchange.Shown.TheVariants.{Text, Number, Page, Fault}
use Rattle.cds_load.specs.Stages.{Waiting, Listing, Held, Idle, Begun, HasToken, HasNumber, HasRoot, Lists, HasPage, HasCopy, put_by, puts_by, put_rows, put_containers, others_waiting, listing_of, listed_children, fits, listed, after_page, root_taken, page_taken, taken, ReplicaTurn, Begins, Shows, held_by, copied, Loads}
use Rattle.cds_load.specs.Seen.{rows_shown, HasVersion, WasShown, copied_rows_were_shown}
use Rattle.cds_load.proofs.Trees.{id_of, all-map}
use Rattle.cds_load.specs.Outcome.{Outcome, Goes, Tears, after_outcome}

module _ (P : ObjectRow → Type 0) where
  all-append : (xs ys : List ObjectRow) → AllByRecursion P xs → AllByRecursion P ys → AllByRecursion P (xs ++ ys)
  all-append [] ys these those = those
  all-append (x ∷ xs) ys these those = (these.0, all-append xs ys these.1 those)

  put-all : (x : ObjectRow) (ys : List ObjectRow) → P x → AllByRecursion P ys → AllByRecursion P (put_by id_of x ys)
  put-all x [] this those = (this, tt)
  put-all x (y ∷ ys) this those = by (nat_lt (id_of x) (id_of y)) (put-all x ys this those.1)
    where
      by : (b : Bool) → AllByRecursion P (put_by id_of x ys) → AllByRecursion P (cond b (x ∷ y ∷ ys) (y ∷ put_by id_of x ys))
      by true rest = (this, those)
      by false rest = (those.0, rest)

  puts-all : (xs ys : List ObjectRow) → AllByRecursion P xs → AllByRecursion P ys → AllByRecursion P (puts_by id_of xs ys)
  puts-all [] ys these those = those
  puts-all (x ∷ xs) ys these those = puts-all xs (put_by id_of x ys) these.1 (put-all x ys these.0 those)

  -- it holds of each row of a page, where there is one
  abbrev InPage : Option (List ObjectRow) → Type 0
  InPage None = Unit {0}
  InPage (Some page) = AllByRecursion P page

  -- it holds of each row that is held
  abbrev InHeld : Held → Type 0
  InHeld Idle = Unit {0}
  InHeld (Loads Begun) = Unit {0}
  InHeld (Loads HasToken) = Unit {0}
  InHeld (Loads (HasNumber number)) = Unit {0}
  InHeld (Loads (HasRoot number root)) = P root
  InHeld (Loads (Lists number l)) = AllByRecursion P l.rows × AllByRecursion P l.part
  InHeld (Loads (HasPage number l page)) = AllByRecursion P l.rows × AllByRecursion P l.part × InPage page
  InHeld (HasCopy number rows) = AllByRecursion P rows

  -- and so of what is taken
  abbrev InTaken : Held → Outcome Held → Type 0
  InTaken held becomes = InHeld (after_outcome held becomes)

  in-listed : (number : ℕ) (rows : List ObjectRow) (ws : List Waiting) → AllByRecursion P rows → InHeld (listed number rows ws)
  in-listed number rows [] all = all
  in-listed number rows (w ∷ ws) all = (all, tt)

  in-after_page : (number : ℕ) (l : Listing) (page : List ObjectRow) → AllByRecursion P l.rows → AllByRecursion P l.part → AllByRecursion P page →
      InHeld (after_page number l page)
  in-after_page number l page rows part new = by (nat_eq (length (l.part ++ page)) (listed_children l))
    where
      whole : AllByRecursion P (l.part ++ page)
      whole = all-append l.part page part new

      by : (b : Bool) → InHeld (cond b (listed number (put_rows (l.part ++ page) l.rows) (put_containers (l.part ++ page) (others_waiting l)))
          (Loads (Lists number (record { rows = l.rows; waiting = l.waiting; part = l.part ++ page }))))
      by true = in-listed number (put_rows (l.part ++ page) l.rows) (put_containers (l.part ++ page) (others_waiting l))
          (puts-all (l.part ++ page) l.rows whole rows)
      by false = (rows, whole)

  in-root : (number : ℕ) (rows : List ObjectRow) → AllByRecursion P rows → InTaken (Loads (HasNumber number)) (root_taken number rows)
  in-root number [] all = tt
  in-root number (row ∷ []) all = by (nat_eq row.id 0 && is_folder row.content)
    where
      by : (b : Bool) → InTaken (Loads (HasNumber number)) (cond b (Goes (Loads (HasRoot number row))) (Tears 0))
      by true = all.0
      by false = tt
  in-root number (row ∷ next ∷ rows) all = tt

  in-page : (number : ℕ) (l : Listing) (page : Option (List ObjectRow)) → InHeld (Loads (HasPage number l page)) →
      InTaken (Loads (HasPage number l page)) (page_taken number l page)
  in-page number l None all = all
  in-page number l (Some page) all = by (fits l page)
    where
      by : (b : Bool) → InTaken (Loads (HasPage number l (Some page))) (cond b (Goes (after_page number l page)) (page_taken number l None))
      by true = in-after_page number l page all.0 all.1 all.2
      by false = all

  in-taken : (held : Held) (shown : Shown) → InHeld held → AllByRecursion P (rows_shown shown) → InTaken held (taken held shown)
  in-taken Idle shown all new = tt
  in-taken (Loads Begun) (Text token) all new = tt
  in-taken (Loads Begun) (Number n) all new = tt
  in-taken (Loads Begun) (Page rows total update) all new = tt
  in-taken (Loads Begun) (Fault code) all new = tt
  in-taken (Loads HasToken) (Text token) all new = tt
  in-taken (Loads HasToken) (Number n) all new = tt
  in-taken (Loads HasToken) (Page rows total update) all new = tt
  in-taken (Loads HasToken) (Fault code) all new = tt
  in-taken (Loads (HasNumber number)) (Text token) all new = tt
  in-taken (Loads (HasNumber number)) (Number n) all new = tt
  in-taken (Loads (HasNumber number)) (Page rows total update) all new = in-root number rows new
  in-taken (Loads (HasNumber number)) (Fault code) all new = tt
  in-taken (Loads (HasRoot number root)) (Text token) all new = all
  in-taken (Loads (HasRoot number root)) (Number n) all new = by (nat_eq n number)
    where
      by : (b : Bool) → InHeld (cond b (Loads (Lists number (listing_of root))) (Loads Begun))
      by true = ((all, tt), tt)
      by false = tt
  in-taken (Loads (HasRoot number root)) (Page rows total update) all new = all
  in-taken (Loads (HasRoot number root)) (Fault code) all new = all
  in-taken (Loads (Lists number l)) (Text token) all new = all
  in-taken (Loads (Lists number l)) (Number n) all new = all
  in-taken (Loads (Lists number l)) (Page rows total update) all new = (all.0, all.1, new)
  in-taken (Loads (Lists number l)) (Fault code) all new = (all.0, all.1, tt)
  in-taken (Loads (HasPage number l page)) (Text token) all new = all
  in-taken (Loads (HasPage number l page)) (Number n) all new = by (nat_eq n number)
    where
      by : (b : Bool) → InTaken (Loads (HasPage number l page)) (cond b (page_taken number l page) (Goes (Loads Begun)))
      by true = in-page number l page all
      by false = tt
  in-taken (Loads (HasPage number l page)) (Page rows total update) all new = all
  in-taken (Loads (HasPage number l page)) (Fault code) all new = all
  in-taken (HasCopy number rows) shown all new = all

  in-copied : (held : Held) → InHeld held → AllByRecursion P (copied held)
  in-copied Idle all = tt
  in-copied (Loads stage) all = tt
  in-copied (HasCopy number rows) all = all

-- what holds of each row that is held leads to what holds of each
held-map : (P Q : ObjectRow → Type 0) → ((row : ObjectRow) → P row → Q row) → (held : Held) → InHeld P held → InHeld Q held
held-map P Q f Idle all = tt
held-map P Q f (Loads Begun) all = tt
held-map P Q f (Loads HasToken) all = tt
held-map P Q f (Loads (HasNumber number)) all = tt
held-map P Q f (Loads (HasRoot number root)) all = f root all
held-map P Q f (Loads (Lists number l)) all = (all-map f l.rows all.0, all-map f l.part all.1)
held-map P Q f (Loads (HasPage number l page)) all = (all-map f l.rows all.0, all-map f l.part all.1, by page all.2)
  where
    by : (o : Option (List ObjectRow)) → InPage P o → InPage Q o
    by None in_page = tt
    by (Some rows) in_page = all-map f rows in_page
held-map P Q f (HasCopy number rows) all = all-map f rows all

-- each of some rows has its own version among them
each-has : (rows : List ObjectRow) → AllByRecursion (λ (row : ObjectRow). HasVersion row rows) rows
each-has [] = tt
each-has (row ∷ rows) = (inl (refl, refl, refl), all-map (λ r has. inr has) rows (each-has rows))

held-shown : (turns : List ReplicaTurn) → InHeld (λ (row : ObjectRow). WasShown row turns) (held_by turns)
held-shown [] = tt
held-shown (Begins ∷ older) = tt
held-shown (Shows shown ∷ older) =
    in-taken (λ (row : ObjectRow). WasShown row (Shows shown ∷ older)) (held_by older) shown
    (held-map (λ (row : ObjectRow). WasShown row older) (λ (row : ObjectRow). WasShown row (Shows shown ∷ older)) (λ row was. inr was)
    (held_by older) (held-shown older))
    (all-map (λ row has. inl has) (rows_shown shown) (each-has (rows_shown shown)))

pub copied-shown : copied_rows_were_shown
copied-shown turns = in-copied (λ (row : ObjectRow). WasShown row turns) (held_by turns) (held-shown turns)
