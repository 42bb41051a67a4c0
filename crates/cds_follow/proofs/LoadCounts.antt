-- The rows of a copy that a load ended with: no id twice, none under what does not stand, and each container counts its
-- children, whatever server replied with rows.
use Rattle.std.proofs.Common.{◌≡◌, ◌⊎◌, inl, inr, ◌+◌, ℕ, Bool, true, false, cond, not, ◌&&◌, ◌||◌, nat_eq, nat_lt, List, [], ◌∷◌, ◌++◌, map, length, Option, Some, None, is_some, is_none, refl, sym, ap, ◌∙◌, subst, arith, true≢false, eq-eqb, ne_eqb, eqb-true}
use Rattle.std.specs.List.{AllByRecursion, count_by, list_any, list_all, filter_map, cons_option}
use Rattle.std.specs.Option.{option_eq, option_map}
use Rattle.std.proofs.lemmas.Bool.{eqb-false}
use Rattle.cds_object.specs.Object.{ObjectRow, IsRow, is_folder}
use Rattle.cds_object.specs.Tree.{row_of, is_child_of}
use Rattle.cds_object.specs.declared.row.Trackers.{Trackers}
use Rattle.cds_catalog.proofs.StepsFind.{none≢some, count_by-cons}
use Rattle.cds_load.specs.declared.exchange.Shown.{Shown}
use Rattle.cds_load.specs.declared.exchange.Shown.TheVariants.{Text, Number, Page, Fault}
use Rattle.cds_load.specs.Seen.{rows_shown}
use Rattle.cds_load.specs.Attempts.{ShowsRows}
use Rattle.cds_load.specs.Stages.{Waiting, Held, Idle, Begun, HasToken, HasNumber, HasRoot, Lists, HasPage, HasCopy, put_by, puts_by, put_rows, waiting_of, put_containers, listing_of, listed_id, all_new, fits, listed, after_page, root_taken, page_taken, taken, ReplicaTurn as LoadTurn, Begins as LoadBegins, Shows as LoadShows, held_by, Loads}
use Rattle.cds_load.proofs.Placed.{sum-puts, count-none, count-all}
use Rattle.cds_follow.specs.Copy.{known_row, knows}
use Rattle.cds_commands.proofs.Among.{Among, all-among, among-left, among-right, among-append}
use Rattle.cds_follow.proofs.Tracked.{AreDistinct, is_kid, kids, AreCounted}
use Rattle.cds_load.specs.Outcome.{Goes, Tears, after_outcome}

-- ---- items with keys that differ

abbrev Apart : {X : Type 0} → (X → ℕ) → List X → Type 0
Apart key [] = Unit {0}
Apart {X} key (x ∷ xs) = ((y : X) → Among y xs → key x ≡ key y → ⊥) × Apart key xs

among-put : {X : Type 0} (key : X → ℕ) (x : X) (ys : List X) (z : X) → Among z (put_by key x ys) → (z ≡ x) ⊎ Among z ys
among-put key x [] z a = a
among-put {X} key x (y ∷ ys) z a = by (nat_lt (key x) (key y)) a (λ b. among-put key x ys z b)
  where
    on : (z ≡ x) ⊎ Among z ys → (z ≡ x) ⊎ Among z (y ∷ ys)
    on (inl e) = inl e
    on (inr b) = inr (inr b)

    by : (b : Bool) → Among z (cond b (x ∷ y ∷ ys) (y ∷ put_by key x ys)) → (Among z (put_by key x ys) → (z ≡ x) ⊎ Among z ys) → (z ≡ x) ⊎ Among z (y ∷ ys)
    by true a r = a
    by false (inl e) r = inr (inl e)
    by false (inr b) r = on (r b)

put-among : {X : Type 0} (key : X → ℕ) (x : X) (ys : List X) (z : X) → (z ≡ x) ⊎ Among z ys → Among z (put_by key x ys)
put-among key x [] z a = a
put-among {X} key x (y ∷ ys) z a = by (nat_lt (key x) (key y)) a (λ b. put-among key x ys z b)
  where
    by : (b : Bool) → (z ≡ x) ⊎ Among z (y ∷ ys) → ((z ≡ x) ⊎ Among z ys → Among z (put_by key x ys)) → Among z (cond b (x ∷ y ∷ ys) (y ∷ put_by key x ys))
    by true a r = a
    by false (inl e) r = inr (r (inl e))
    by false (inr (inl e)) r = inl e
    by false (inr (inr b)) r = inr (r (inr b))

among-puts : {X : Type 0} (key : X → ℕ) (xs ys : List X) (z : X) → Among z (puts_by key xs ys) → Among z xs ⊎ Among z ys
among-puts key [] ys z a = inr a
among-puts {X} key (x ∷ xs) ys z a = on (among-puts key xs (put_by key x ys) z a)
  where
    from : (z ≡ x) ⊎ Among z ys → Among z (x ∷ xs) ⊎ Among z ys
    from (inl e) = inl (inl e)
    from (inr b) = inr b

    on : Among z xs ⊎ Among z (put_by key x ys) → Among z (x ∷ xs) ⊎ Among z ys
    on (inl b) = inl (inr b)
    on (inr b) = from (among-put key x ys z b)

puts-among : {X : Type 0} (key : X → ℕ) (xs ys : List X) (z : X) → Among z xs ⊎ Among z ys → Among z (puts_by key xs ys)
puts-among key [] ys z (inl a) = absurd a
puts-among key [] ys z (inr a) = a
puts-among key (x ∷ xs) ys z (inl (inl e)) = puts-among key xs (put_by key x ys) z (inr (put-among key x ys z (inl e)))
puts-among key (x ∷ xs) ys z (inl (inr a)) = puts-among key xs (put_by key x ys) z (inl a)
puts-among key (x ∷ xs) ys z (inr a) = puts-among key xs (put_by key x ys) z (inr (put-among key x ys z (inr a)))

put-apart : {X : Type 0} (key : X → ℕ) (x : X) (ys : List X) → Apart key ys → ((y : X) → Among y ys → key x ≡ key y → ⊥) → Apart key (put_by key x ys)
put-apart key x [] d n = (n, d)
put-apart {X} key x (y ∷ ys) d n = by (nat_lt (key x) (key y)) (put-apart key x ys d.1 (λ z a. n z (inr a)))
  where
    late : (z : X) → Among z (put_by key x ys) → key y ≡ key z → ⊥
    late z a e = on (among-put key x ys z a)
      where
        on : (z ≡ x) ⊎ Among z ys → ⊥
        on (inl s) = n y (inl refl) (ap key (sym s) ∙ sym e)
        on (inr b) = d.0 z b e

    by : (b : Bool) → Apart key (put_by key x ys) → Apart key (cond b (x ∷ y ∷ ys) (y ∷ put_by key x ys))
    by true r = (n, d)
    by false r = (late, r)

puts-apart : {X : Type 0} (key : X → ℕ) (xs ys : List X) → Apart key xs → Apart key ys → ((x y : X) → Among x xs → Among y ys → key x ≡ key y → ⊥) → Apart key (puts_by key xs ys)
puts-apart key [] ys d f n = f
puts-apart {X} key (x ∷ xs) ys d f n = puts-apart key xs (put_by key x ys) d.1 (put-apart key x ys f (λ y a. n x y (inl refl) a)) cross
  where
    cross : (z y : X) → Among z xs → Among y (put_by key x ys) → key z ≡ key y → ⊥
    cross z y a b e = on (among-put key x ys y b)
      where
        on : (y ≡ x) ⊎ Among y ys → ⊥
        on (inl s) = d.0 z a (ap key (sym s) ∙ sym e)
        on (inr c) = n z y (inr a) c e

append-apart : {X : Type 0} (key : X → ℕ) (xs ys : List X) → Apart key xs → Apart key ys → ((x y : X) → Among x xs → Among y ys → key x ≡ key y → ⊥) → Apart key (xs ++ ys)
append-apart key [] ys d f n = f
append-apart {X} key (x ∷ xs) ys d f n = (here, append-apart key xs ys d.1 f (λ z y a b e. n z y (inr a) b e))
  where
    here : (y : X) → Among y (xs ++ ys) → key x ≡ key y → ⊥
    here y a e = on (among-append xs ys y a)
      where
        on : Among y xs ⊎ Among y ys → ⊥
        on (inl b) = d.0 y b e
        on (inr b) = n x y (inl refl) b e

same-item : {X : Type 0} (key : X → ℕ) (xs : List X) (a b : X) → Apart key xs → Among a xs → Among b xs → key a ≡ key b → a ≡ b
same-item key [] a b d i j e = absurd i
same-item key (x ∷ xs) a b d (inl s) (inl t) e = s ∙ sym t
same-item key (x ∷ xs) a b d (inl s) (inr j) e = absurd (d.0 b j (ap key (sym s) ∙ e))
same-item key (x ∷ xs) a b d (inr i) (inl t) e = absurd (d.0 a i (ap key (sym t) ∙ sym e))
same-item key (x ∷ xs) a b d (inr i) (inr j) e = same-item key xs a b d.1 i j e

-- ---- rows that are new

abbrev id_of : ObjectRow → ℕ
id_of row = row.id

abbrev known : ℕ → List ℕ → Bool
known id ids = list_any (λ (other : ℕ). nat_eq id other) ids

both-hold : (a b : Bool) → a && b ≡ true → (a ≡ true) × (b ≡ true)
both-hold true b e = (refl, e)
both-hold false b e = absurd (true≢false (sym e))

not-true : (a : Bool) → not a ≡ true → a ≡ false
not-true true e = absurd (true≢false (sym e))
not-true false e = refl

either-none : (a b : Bool) → a || b ≡ false → (a ≡ false) × (b ≡ false)
either-none true b e = absurd (true≢false e)
either-none false b e = (refl, e)

-- an id that is not known is none of theirs
unknown-apart : (id : ℕ) (rows : List ObjectRow) → known id (map id_of rows) ≡ false → (row : ObjectRow) → Among row rows → id ≡ row.id → ⊥
unknown-apart id [] n row a e = a
unknown-apart id (next ∷ rows) n row (inl s) e =
    true≢false (sym (eq-eqb id next.id (e ∙ ap id_of s)) ∙ (either-none (nat_eq id next.id) (known id (map id_of rows)) n).0)
unknown-apart id (next ∷ rows) n row (inr b) e = unknown-apart id rows (either-none (nat_eq id next.id) (known id (map id_of rows)) n).1 row b e

new-unknown : (ids : List ℕ) (rows : List ObjectRow) → all_new ids rows ≡ true → (row : ObjectRow) → Among row rows → known row.id ids ≡ false
new-unknown ids [] n row a = absurd a
new-unknown ids (next ∷ rows) n row (inl s) =
    ap (λ (r : ObjectRow). known r.id ids) s ∙ not-true (known next.id ids) (both-hold (not (known next.id ids)) (all_new (next.id ∷ ids) rows) n).0
new-unknown ids (next ∷ rows) n row (inr b) =
    (either-none (nat_eq row.id next.id) (known row.id ids)
    (new-unknown (next.id ∷ ids) rows (both-hold (not (known next.id ids)) (all_new (next.id ∷ ids) rows) n).1 row b)).1

new-apart : (ids : List ℕ) (rows : List ObjectRow) → all_new ids rows ≡ true → Apart id_of rows
new-apart ids [] n = tt
new-apart ids (next ∷ rows) n =
    let rest = (both-hold (not (known next.id ids)) (all_new (next.id ∷ ids) rows) n).1 in (
      (λ row a e. true≢false (sym (eq-eqb row.id next.id (sym e)) ∙ (either-none (nat_eq row.id next.id) (known row.id ids) (new-unknown (next.id ∷ ids) rows rest row a)).0)),
      new-apart (next.id ∷ ids) rows rest,
    )

-- ---- children

abbrev children : ℕ → List ObjectRow → ℕ
children id rows = count_by (is_child_of id) rows

children-put : (id : ℕ) (rows others : List ObjectRow) → children id (put_rows rows others) ≡ children id rows + children id others
children-put id rows others = sum-puts (λ (row : ObjectRow). cond (is_child_of id row) 1 0) id_of rows others

parent-is : (id : ℕ) (row : ObjectRow) → is_child_of id row ≡ true → row.parent ≡ Some id
parent-is id row e = by row.parent e
  where
    by : (o : Option ℕ) → option_eq nat_eq o (Some id) ≡ true → o ≡ Some id
    by None k = absurd (true≢false (sym k))
    by (Some parent) k = ap Some (eqb-true parent id k)

children-all : (id : ℕ) (rows : List ObjectRow) → ((row : ObjectRow) → Among row rows → is_child_of id row ≡ true) → children id rows ≡ length rows
children-all id rows all = count-all (is_child_of id) rows (all-among (λ (row : ObjectRow). is_child_of id row ≡ true) rows all)

children-none : (id other : ℕ) (rows : List ObjectRow) → (id ≡ other → ⊥) → ((row : ObjectRow) → Among row rows → is_child_of id row ≡ true) → children other rows ≡ 0
children-none id other rows apart all =
    count-none (is_child_of other) rows (all-among (λ (row : ObjectRow). is_child_of other row ≡ false) rows (λ row a.
    ap (λ (o : Option ℕ). option_eq nat_eq o (Some other)) (parent-is id row (all row a)) ∙ ne_eqb id other apart))

-- ---- a listing

made-waits : (rows : List ObjectRow) (v : Waiting) → Among v (filter_map waiting_of rows) → (row : ObjectRow) × Among row rows × (waiting_of row ≡ Some v)
made-waits [] v a = absurd a
made-waits (row ∷ rows) v a = by (waiting_of row) refl a (λ b. made-waits rows v b)
  where
    by : (o : Option Waiting) → waiting_of row ≡ o → Among v (cons_option o (filter_map waiting_of rows))
        → (Among v (filter_map waiting_of rows) → (r : ObjectRow) × Among r rows × (waiting_of r ≡ Some v)) → (r : ObjectRow) × Among r (row ∷ rows) × (waiting_of r ≡ Some v)
    by None e b r = let rest = r b in (rest.0, inr rest.1, rest.2)
    by (Some w) e (inl s) r = (row, inl refl, e ∙ ap Some (sym s))
    by (Some w) e (inr b) r = let rest = r b in (rest.0, inr rest.1, rest.2)

waits-made : (rows : List ObjectRow) (row : ObjectRow) (v : Waiting) → Among row rows → waiting_of row ≡ Some v → Among v (filter_map waiting_of rows)
waits-made [] row v a e = absurd a
waits-made (next ∷ rows) row v a e = by (waiting_of next) refl a (λ b. waits-made rows row v b e)
  where
    by : (o : Option Waiting) → waiting_of next ≡ o → (row ≡ next) ⊎ Among row rows → (Among row rows → Among v (filter_map waiting_of rows)) → Among v (cons_option o (filter_map waiting_of rows))
    by None f (inl s) r = none≢some (waiting_of next) v f (ap waiting_of (sym s) ∙ e)
    by None f (inr b) r = r b
    by (Some w) f (inl s) r =
        let both : Some w ≡ Some v = sym f ∙ ap waiting_of (sym s) ∙ e in
        let same : w ≡ v = cc in
        inl (sym same)
    by (Some w) f (inr b) r = inr (r b)

-- what waits for a row has its id, and the children that it counts
waits-id : (row : ObjectRow) (v : Waiting) → waiting_of row ≡ Some v → v.id ≡ row.id
waits-id row v e = by row.trackers e
  where
    by : (o : Option Trackers) → option_map (λ (t : Trackers). record { id = row.id; children = t.child_count }) o ≡ Some v → v.id ≡ row.id
    by None k = none≢some None v refl k
    by (Some t) k = let same : record { id = row.id; children = t.child_count } ≡ v = cc in ap (λ (w : Waiting). w.id) (sym same)

waits-of : (row : ObjectRow) (t : Trackers) → row.trackers ≡ Some t → waiting_of row ≡ Some (record { id = row.id; children = t.child_count })
waits-of row t e = ap (option_map (λ (t : Trackers). record { id = row.id; children = t.child_count })) e

apart-made : (rows : List ObjectRow) → Apart id_of rows → Apart (λ (v : Waiting). v.id) (filter_map waiting_of rows)
apart-made [] d = tt
apart-made (row ∷ rows) d = by (waiting_of row) refl (apart-made rows d.1)
  where
    by : (o : Option Waiting) → waiting_of row ≡ o → Apart (λ (v : Waiting). v.id) (filter_map waiting_of rows) → Apart (λ (v : Waiting). v.id) (cons_option o (filter_map waiting_of rows))
    by None e r = r
    by (Some w) e r = ((λ v a s. let from = made-waits rows v a in d.0 from.0 from.1 (sym (waits-id row w e) ∙ s ∙ waits-id from.0 v from.2)), r)

-- what holds of rows of whole listings, the containers that wait, and the part of a listing
record IsListing (rows : List ObjectRow) (waiting : List Waiting) : Type 0 where
  pub apart : Apart id_of rows
  pub none : (id : ℕ) → ((row : ObjectRow) → Among row rows → row.id ≡ id → ⊥) → children id rows ≡ 0
  pub waits : (v : Waiting) → Among v waiting → (row : ObjectRow) × Among row rows × (waiting_of row ≡ Some v) × (children v.id rows ≡ 0)
  pub waits-apart : Apart (λ (v : Waiting). v.id) waiting
  pub settled : (row : ObjectRow) → Among row rows → (t : Trackers) → row.trackers ≡ Some t
      → (t.child_count ≡ children row.id rows) ⊎ ((v : Waiting) × Among v waiting × (waiting_of row ≡ Some v))

record IsPart (rows : List ObjectRow) (id : ℕ) (part : List ObjectRow) : Type 0 where
  pub apart : Apart id_of part
  pub beside : (row other : ObjectRow) → Among row part → Among other rows → row.id ≡ other.id → ⊥
  pub under : (row : ObjectRow) → Among row part → is_child_of id row ≡ true

no-part : (rows : List ObjectRow) (id : ℕ) → IsPart rows id []
no-part rows id = record { apart = tt; beside = λ row other a b e. a; under = λ row a. absurd a }

-- a whole listing is put among the rows
module _ (rows : List ObjectRow) (w : Waiting) (ws : List Waiting) (l : IsListing rows (w ∷ ws)) (part : List ObjectRow) (p : IsPart rows w.id part) (whole : length part ≡ w.children) where
  holder : (row : ObjectRow) × Among row rows × (waiting_of row ≡ Some w) × (children w.id rows ≡ 0)
  holder = l.waits w (inl refl)

  holder-id : w.id ≡ holder.0.id
  holder-id = waits-id holder.0 w holder.2

  abbrev now : List ObjectRow
  now = put_rows part rows

  abbrev waiting-now : List Waiting
  waiting-now = put_containers part ws

  here-now : children w.id now ≡ length part
  here-now =
      let both = children-put w.id part rows in
      let all = children-all w.id part p.under in
      let old = holder.3 in
      omega (arith, both, all, old)

  other-now : (id : ℕ) → (w.id ≡ id → ⊥) → children id now ≡ children id rows
  other-now id apart =
      let both = children-put id part rows in
      let new = children-none w.id id part apart p.under in
      omega (arith, both, new)

  -- a row of the part is none of those that are listed
  new-none : (row : ObjectRow) → Among row part → children row.id now ≡ 0
  new-none row a =
      other-now row.id (λ e. p.beside row holder.0 a holder.1 (sym e ∙ holder-id))
      ∙ l.none row.id (λ other b e. p.beside row other a b (sym e))

  listed-whole : IsListing now waiting-now
  listed-whole = record {
    apart = puts-apart id_of part rows p.apart l.apart p.beside;
    none = none;
    waits = λ v a. waits v (among-puts (λ (v : Waiting). v.id) (filter_map waiting_of part) ws v a);
    waits-apart = puts-apart (λ (v : Waiting). v.id) (filter_map waiting_of part) ws (apart-made part p.apart) l.waits-apart.1 cross;
    settled = λ row a t e. settled row (among-puts id_of part rows row a) t e;
  }
    where
      none : (id : ℕ) → ((row : ObjectRow) → Among row now → row.id ≡ id → ⊥) → children id now ≡ 0
      none id away =
          other-now id (λ e. away holder.0 (puts-among id_of part rows holder.0 (inr holder.1)) (sym holder-id ∙ e))
          ∙ l.none id (λ row a e. away row (puts-among id_of part rows row (inr a)) e)

      cross : (v u : Waiting) → Among v (filter_map waiting_of part) → Among u ws → v.id ≡ u.id → ⊥
      cross v u a b e =
          let one = made-waits part v a in
          let two = l.waits u (inr b) in
          p.beside one.0 two.0 one.1 two.1 (sym (waits-id one.0 v one.2) ∙ e ∙ waits-id two.0 u two.2)

      waits : (v : Waiting) → Among v (filter_map waiting_of part) ⊎ Among v ws → (row : ObjectRow) × Among row now × (waiting_of row ≡ Some v) × (children v.id now ≡ 0)
      waits v (inl a) =
          let from = made-waits part v a in
          (from.0, puts-among id_of part rows from.0 (inl from.1), from.2, ap (λ (n : ℕ). children n now) (waits-id from.0 v from.2) ∙ new-none from.0 from.1)
      waits v (inr a) =
          let from = l.waits v (inr a) in
          (from.0, puts-among id_of part rows from.0 (inr from.1), from.2, other-now v.id (l.waits-apart.0 v a) ∙ from.3)

      counts-it : (row : ObjectRow) → Among row rows → (t : Trackers) → row.trackers ≡ Some t → w.id ≡ row.id → t.child_count ≡ children row.id now
      counts-it row a t e same =
          let is : row ≡ holder.0 = same-item id_of rows row holder.0 l.apart a holder.1 (sym same ∙ holder-id) in
          let both : Some (record { id = row.id; children = t.child_count }) ≡ Some w = sym (waits-of row t e) ∙ ap waiting_of is ∙ holder.2 in
          let count : t.child_count ≡ w.children = cc in
          count ∙ sym whole ∙ sym here-now ∙ ap (λ (n : ℕ). children n now) same

      settled : (row : ObjectRow) → Among row part ⊎ Among row rows → (t : Trackers) → row.trackers ≡ Some t
          → (t.child_count ≡ children row.id now) ⊎ ((v : Waiting) × Among v waiting-now × (waiting_of row ≡ Some v))
      settled row (inl a) t e =
          inr (
            record { id = row.id; children = t.child_count },
            puts-among (λ (v : Waiting). v.id) (filter_map waiting_of part) ws (record { id = row.id; children = t.child_count })
                (inl (waits-made part row (record { id = row.id; children = t.child_count }) a (waits-of row t e))),
            waits-of row t e,
          )
      settled row (inr a) t e = by (nat_eq w.id row.id) refl
        where
          on : (w.id ≡ row.id → ⊥) → (t.child_count ≡ children row.id rows) ⊎ ((v : Waiting) × Among v (w ∷ ws) × (waiting_of row ≡ Some v))
              → (t.child_count ≡ children row.id now) ⊎ ((v : Waiting) × Among v waiting-now × (waiting_of row ≡ Some v))
          on apart (inl c) = inl (c ∙ sym (other-now row.id apart))
          on apart (inr (v, inl s, is)) = absurd (apart (ap (λ (u : Waiting). u.id) (sym s) ∙ waits-id row v is))
          on apart (inr (v, inr b, is)) = inr (v, puts-among (λ (u : Waiting). u.id) (filter_map waiting_of part) ws v (inr b), is)

          by : (b : Bool) → nat_eq w.id row.id ≡ b → (t.child_count ≡ children row.id now) ⊎ ((v : Waiting) × Among v waiting-now × (waiting_of row ≡ Some v))
          by true x = inl (counts-it row a t e (eqb-true w.id row.id x))
          by false x = on (eqb-false w.id row.id x) (l.settled row a t e)

-- a page that fits goes on with the part
page-part : (rows : List ObjectRow) (w : Waiting) (ws : List Waiting) (part page : List ObjectRow) → IsPart rows w.id part
    → fits (record { rows = rows; waiting = w ∷ ws; part = part }) page ≡ true → IsPart rows w.id (part ++ page)
page-part rows w ws part page p e = record {
  apart = append-apart id_of part page p.apart (new-apart (map id_of (rows ++ part)) page new) (λ row other a b s. old other b row (among-right rows part row a) (sym s));
  beside = λ row other a b s. beside row other (among-append part page row a) b s;
  under = λ row a. under row (among-append part page row a);
}
  where
    first : (list_all (is_child_of w.id) page && all_new (map id_of (rows ++ part)) page ≡ true)
    first = by (list_all (is_child_of w.id) page && all_new (map id_of (rows ++ part)) page) _ e
      where
        by : (a b : Bool) → a && b ≡ true → a ≡ true
        by true b k = refl
        by false b k = absurd (true≢false (sym k))

    child : list_all (is_child_of w.id) page ≡ true
    child = (both-hold (list_all (is_child_of w.id) page) (all_new (map id_of (rows ++ part)) page) first).0

    new : all_new (map id_of (rows ++ part)) page ≡ true
    new = (both-hold (list_all (is_child_of w.id) page) (all_new (map id_of (rows ++ part)) page) first).1

    old : (row : ObjectRow) → Among row page → (other : ObjectRow) → Among other (rows ++ part) → row.id ≡ other.id → ⊥
    old row a other b s = unknown-apart row.id (rows ++ part) (new-unknown (map id_of (rows ++ part)) page new row a) other b s

    beside : (row other : ObjectRow) → Among row part ⊎ Among row page → Among other rows → row.id ≡ other.id → ⊥
    beside row other (inl a) b s = p.beside row other a b s
    beside row other (inr a) b s = old row a other (among-left rows part other b) s

    each : (xs : List ObjectRow) → list_all (is_child_of w.id) xs ≡ true → (row : ObjectRow) → Among row xs → is_child_of w.id row ≡ true
    each [] k row a = absurd a
    each (x ∷ xs) k row (inl s) = ap (is_child_of w.id) s ∙ (both-hold (is_child_of w.id x) (list_all (is_child_of w.id) xs) k).0
    each (x ∷ xs) k row (inr b) = each xs (both-hold (is_child_of w.id x) (list_all (is_child_of w.id) xs) k).1 row b

    under : (row : ObjectRow) → Among row part ⊎ Among row page → is_child_of w.id row ≡ true
    under row (inl a) = p.under row a
    under row (inr a) = each page child row a

-- ---- the stages

InList : List ObjectRow → List Waiting → List ObjectRow → Type 0
InList rows [] part = ⊥
InList rows (w ∷ ws) part = IsListing rows (w ∷ ws) × IsPart rows w.id part

abbrev InHeld : Held → Type 0
InHeld Idle = Unit {0}
InHeld (Loads Begun) = Unit {0}
InHeld (Loads HasToken) = Unit {0}
InHeld (Loads (HasNumber number)) = Unit {0}
InHeld (Loads (HasRoot number root)) = IsRow root × (root.id ≡ 0) × (is_folder root.content ≡ true)
InHeld (Loads (Lists number l)) = InList l.rows l.waiting l.part
InHeld (Loads (HasPage number l page)) = InList l.rows l.waiting l.part
InHeld (HasCopy number rows) = IsListing rows []

in-listed : (number : ℕ) (rows : List ObjectRow) (ws : List Waiting) → IsListing rows ws → InHeld (listed number rows ws)
unfolding InList
in-listed number rows [] l = l
in-listed number rows (w ∷ ws) l = (l, no-part rows w.id)

in-page : (number : ℕ) (rows : List ObjectRow) (waiting : List Waiting) (part page : List ObjectRow) → InList rows waiting part
    → fits (record { rows = rows; waiting = waiting; part = part }) page ≡ true → InHeld (after_page number (record { rows = rows; waiting = waiting; part = part }) page)
unfolding InList
in-page number rows [] part page l e = absurd l
in-page number rows (w ∷ ws) part page l e = by (nat_eq (length (part ++ page)) w.children) refl
  where
    more : IsPart rows w.id (part ++ page)
    more = page-part rows w ws part page l.1 e

    by : (b : Bool) → nat_eq (length (part ++ page)) w.children ≡ b
        → InHeld (cond b (listed number (put_rows (part ++ page) rows) (put_containers (part ++ page) ws)) (Loads (Lists number (record { rows = rows; waiting = w ∷ ws; part = part ++ page }))))
    by true x = in-listed number (put_rows (part ++ page) rows) (put_containers (part ++ page) ws)
        (listed-whole rows w ws l.0 (part ++ page) more (eqb-true (length (part ++ page)) w.children x))
    by false x = (l.0, more)

in-root : (root : ObjectRow) → IsRow root × (root.id ≡ 0) × (is_folder root.content ≡ true) → InList (root ∷ []) (put_containers (root ∷ []) []) []
unfolding InList
in-root root r = by root.trackers refl
  where
    parentless : root.parent ≡ None
    parentless = on root.parent (r.0.rooted ∙ eq-eqb root.id 0 r.1)
      where
        on : (o : Option ℕ) → is_none o ≡ true → o ≡ None
        on None k = refl
        on (Some parent) k = absurd (true≢false (sym k))

    childless : (id : ℕ) → children id (root ∷ []) ≡ 0
    childless id = count_by-cons (is_child_of id) root [] ∙ ap {B = ℕ} (λ (o : Option ℕ). cond (option_eq nat_eq o (Some id)) 1 0 + 0) parentless

    by : (o : Option Trackers) → root.trackers ≡ o
        → InList (root ∷ []) (puts_by (λ (v : Waiting). v.id) (cons_option (option_map (λ (t : Trackers). record { id = root.id; children = t.child_count }) o) []) []) []
    by None e = absurd (true≢false (sym (r.0.tracked ∙ r.2) ∙ ap is_some e))
    by (Some t) e = (
      record {
        apart = ((λ row a s. a), tt);
        none = λ id away. childless id;
        waits = λ v a. only v a;
        waits-apart = ((λ v a s. a), tt);
        settled = λ row a u f. inr (record { id = root.id; children = t.child_count }, inl refl, settles row a);
      },
      no-part (root ∷ []) root.id,
    )
      where
        only : (v : Waiting) → (v ≡ record { id = root.id; children = t.child_count }) ⊎ ⊥
            → (row : ObjectRow) × Among row (root ∷ []) × (waiting_of row ≡ Some v) × (children v.id (root ∷ []) ≡ 0)
        only v (inl s) = (root, inl refl, waits-of root t e ∙ ap Some (sym s), childless v.id)
        only v (inr a) = absurd a

        settles : (row : ObjectRow) → (row ≡ root) ⊎ ⊥ → waiting_of row ≡ Some (record { id = root.id; children = t.child_count })
        settles row (inl s) = ap waiting_of s ∙ waits-of root t e
        settles row (inr a) = absurd a

in-taken : (held : Held) (shown : Shown) → InHeld held → AllByRecursion IsRow (rows_shown shown) → InHeld (after_outcome held (taken held shown))
in-taken Idle shown h r = tt
in-taken (Loads Begun) (Text token) h r = tt
in-taken (Loads Begun) (Number n) h r = tt
in-taken (Loads Begun) (Page rows total update) h r = tt
in-taken (Loads Begun) (Fault code) h r = tt
in-taken (Loads HasToken) (Text token) h r = tt
in-taken (Loads HasToken) (Number n) h r = tt
in-taken (Loads HasToken) (Page rows total update) h r = tt
in-taken (Loads HasToken) (Fault code) h r = tt
in-taken (Loads (HasNumber number)) (Text token) h r = tt
in-taken (Loads (HasNumber number)) (Number n) h r = tt
in-taken (Loads (HasNumber number)) (Page rows total update) h r = on rows r
  where
    on : (rows : List ObjectRow) → AllByRecursion IsRow rows → InHeld (after_outcome (Loads (HasNumber number)) (root_taken number rows))
    on [] all = tt
    on (row ∷ next ∷ rows) all = tt
    on (row ∷ []) all = by (nat_eq row.id 0) (is_folder row.content) refl refl
      where
        by : (a b : Bool) → nat_eq row.id 0 ≡ a → is_folder row.content ≡ b → InHeld (after_outcome (Loads (HasNumber number)) (cond (a && b) (Goes (Loads (HasRoot number row))) (Tears 0)))
        by true true e f = (all.0, eqb-true row.id 0 e, f)
        by true false e f = tt
        by false b e f = tt
in-taken (Loads (HasNumber number)) (Fault code) h r = tt
in-taken (Loads (HasRoot number root)) (Text token) h r = h
in-taken (Loads (HasRoot number root)) (Number n) h r = by (nat_eq n number)
  where
    by : (b : Bool) → InHeld (cond b (Loads (Lists number (listing_of root))) (Loads Begun))
    by true = in-root root h
    by false = tt
in-taken (Loads (HasRoot number root)) (Page rows total update) h r = h
in-taken (Loads (HasRoot number root)) (Fault code) h r = h
in-taken (Loads (Lists number l)) (Text token) h r = h
in-taken (Loads (Lists number l)) (Number n) h r = h
in-taken (Loads (Lists number l)) (Page rows total update) h r = h
in-taken (Loads (Lists number l)) (Fault code) h r = h
in-taken (Loads (HasPage number l page)) (Text token) h r = h
in-taken (Loads (HasPage number l page)) (Number n) h r = by (nat_eq n number)
  where
    judged : (page : Option (List ObjectRow)) → InHeld (after_outcome (Loads (HasPage number l page)) (page_taken number l page))
    judged None = h
    judged (Some rows) = on (fits l rows) refl
      where
        on : (b : Bool) → fits l rows ≡ b → InHeld (after_outcome (Loads (HasPage number l (Some rows))) (cond b (Goes (after_page number l rows)) (Tears (listed_id l))))
        on true e = in-page number l.rows l.waiting l.part rows h e
        on false e = h

    by : (b : Bool) → InHeld (after_outcome (Loads (HasPage number l page)) (cond b (page_taken number l page) (Goes (Loads Begun))))
    by true = judged page
    by false = tt
in-taken (Loads (HasPage number l page)) (Page rows total update) h r = h
in-taken (Loads (HasPage number l page)) (Fault code) h r = h
in-taken (HasCopy number rows) shown h r = h

in-load : (turns : List LoadTurn) → ShowsRows turns → InHeld (held_by turns)
in-load [] shows = tt
in-load (LoadBegins ∷ older) shows = tt
in-load (LoadShows shown ∷ older) shows = in-taken (held_by older) shown (in-load older shows.1) shows.0

-- ---- the rows of a copy

nat-swap : (a b : ℕ) → nat_eq a b ≡ nat_eq b a
nat-swap a b = by (nat_eq b a) refl
  where
    by : (t : Bool) → nat_eq b a ≡ t → nat_eq a b ≡ t
    by true e = eq-eqb a b (sym (eqb-true b a e))
    by false e = ne_eqb a b (λ s. eqb-false b a e (sym s))

knows-none : (id : ℕ) (rows : List ObjectRow) → ((row : ObjectRow) → Among row rows → row.id ≡ id → ⊥) → knows id (map known_row rows) ≡ false
knows-none id [] away = refl
knows-none id (row ∷ rows) away = λ i. ne_eqb row.id id (away row (inl refl)) i || knows-none id rows (λ r a e. away r (inr a) e) i

knows-away : (id : ℕ) (rows : List ObjectRow) → knows id (map known_row rows) ≡ false → (row : ObjectRow) → Among row rows → row.id ≡ id → ⊥
knows-away id [] n row a e = a
knows-away id (next ∷ rows) n row (inl s) e =
    true≢false (sym (eq-eqb next.id id (ap id_of (sym s) ∙ e)) ∙ (either-none (nat_eq next.id id) (knows id (map known_row rows)) n).0)
knows-away id (next ∷ rows) n row (inr b) e = knows-away id rows (either-none (nat_eq next.id id) (knows id (map known_row rows)) n).1 row b e

distinct-rows : (rows : List ObjectRow) → Apart id_of rows → AreDistinct (map known_row rows)
unfolding AreDistinct
distinct-rows [] d = tt
distinct-rows (row ∷ rows) d = (knows-none row.id rows (λ other a e. d.0 other a (sym e)), distinct-rows rows d.1)

kids-are : (id : ℕ) (rows : List ObjectRow) → kids id (map known_row rows) ≡ children id rows
kids-are id [] = refl
kids-are id (row ∷ rows) =
    count_by-cons (is_kid id) (known_row row) (map known_row rows)
    ∙ ap (λ (n : ℕ). cond (is_child_of id row) 1 0 + n) (kids-are id rows)
    ∙ sym (count_by-cons (is_child_of id) row rows)

row-among : (id : ℕ) (rows : List ObjectRow) (row : ObjectRow) → row_of id rows ≡ Some row → Among row rows × (row.id ≡ id)
row-among id [] row e = none≢some None row refl e
row-among id (next ∷ rows) row e = by (nat_eq next.id id) refl e (λ k. row-among id rows row k)
  where
    by : (b : Bool) → nat_eq next.id id ≡ b → cond b (Some next) (row_of id rows) ≡ Some row → (row_of id rows ≡ Some row → Among row rows × (row.id ≡ id))
        → Among row (next ∷ rows) × (row.id ≡ id)
    by true x k r =
        let same : next ≡ row = cc in
        (inl (sym same), ap id_of (sym same) ∙ eqb-true next.id id x)
    by false x k r = let rest = r k in (inr rest.0, rest.1)

pub copies-counted : (turns : List LoadTurn) (number : ℕ) (rows : List ObjectRow) → ShowsRows turns → held_by turns ≡ HasCopy number rows → AreCounted rows
copies-counted turns number rows shows is = record {
  distinct = distinct-rows rows l.apart;
  none = λ id n. kids-are id rows ∙ l.none id (knows-away id rows n);
  counts = λ id row t f e. let a = row-among id rows row f in settled id row t a e (l.settled row a.0 t e);
}
  where
    l : IsListing rows []
    l = subst InHeld is (in-load turns shows)

    settled : (id : ℕ) (row : ObjectRow) (t : Trackers) → Among row rows × (row.id ≡ id) → row.trackers ≡ Some t
        → (t.child_count ≡ children row.id rows) ⊎ ((v : Waiting) × Among v [] × (waiting_of row ≡ Some v)) → t.child_count ≡ kids id (map known_row rows)
    settled id row t a e (inl c) = c ∙ ap (λ (n : ℕ). children n rows) a.1 ∙ sym (kids-are id rows)
    settled id row t a e (inr v) = absurd v.1
