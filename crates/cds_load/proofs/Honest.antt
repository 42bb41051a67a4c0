-- A replica whose replies are those of a server at moments that stood: no reply is refused, and a copy is the catalog of
-- a moment that had its number.
use Rattle.std.proofs.Common.{◌≡◌, ℕ, ◌<◌, ◌≤◌, nat_eq, List, [], ◌∷◌, length, Bool, true, false, cond, ◌&&◌, refl, ap, sym, ◌∙◌, arith, Option, Some, None, inl}
use Rattle.std.specs.Prelude.{nat_le, is_none}
use Rattle.std.proofs.lemmas.Bool.{ne_eqb, le-ltb, le-leb}
use Rattle.std.specs.List.{AllByRecursion, filter, filter_map, cons_option}
use Rattle.cds_object.specs.Object.{ObjectRow, IsRow, is_folder}
use Rattle.cds_object.specs.Tree.{row_of, is_container_row, IsTree}
use Rattle.cds_load.specs.declared.exchange.Ask.TheVariants.{Children}
use Rattle.cds_load.specs.Server.{Moment, reply_to}
use Rattle.cds_load.specs.Stages.{Waiting, Held, Idle, Begun, HasToken, HasNumber, HasRoot, Lists, HasPage, HasCopy, waiting_of, puts_by, put_containers, listing_of, listed_id, taken, Loads}
use Rattle.cds_load.proofs.Merge.{Rises}
use Rattle.cds_load.proofs.Trees.{id_of, all-map, all-map_two, ascend-rises, found-id, all-at}
use Rattle.cds_load.proofs.Frontier.{below, known, waits, waiting_at, filter-same, folder-waits}
use Rattle.cds_load.proofs.Listings.{IsListing, Follows}
use Rattle.cds_load.specs.Outcome.{Goes}

-- the root stands first, and is the only one that is known before any listing
root-alone : (rows : List ObjectRow) (root : ObjectRow) → Rises id_of rows → AllByRecursion IsRow rows → row_of 0 rows ≡ Some root →
    filter (known 0) rows ≡ root ∷ []
root-alone [] root rises each found = absurd (cc)
root-alone (row ∷ rows) root rises each found = by (nat_eq row.id 0) refl found
  where
    parent_none : (o : Option ℕ) → is_none o ≡ true → below 0 o ≡ true
    parent_none None e = refl
    parent_none (Some p) e = absurd (cc)

    parent_some : (o : Option ℕ) → is_none o ≡ false → below 0 o ≡ false
    parent_some None e = absurd (cc)
    parent_some (Some p) e = le-ltb p 0 (omega arith)

    nobody : (xs : List ObjectRow) → AllByRecursion (λ (x : ObjectRow). known 0 x ≡ false) xs → filter (known 0) xs ≡ []
    nobody [] all = refl
    nobody (x ∷ xs) all = ap (λ b. cond b (x ∷ filter (known 0) xs) (filter (known 0) xs)) all.0 ∙ nobody xs all.1

    by : (b : Bool) → nat_eq row.id 0 ≡ b → cond b (Some row) (row_of 0 rows) ≡ Some root → filter (known 0) (row ∷ rows) ≡ root ∷ []
    by true e is =
        let same : row ≡ root = cc in
        ap (λ b. cond b (row ∷ filter (known 0) rows) (filter (known 0) rows)) (parent_none row.parent (each.0.rooted ∙ e))
        ∙ ap (λ xs. row ∷ xs) (nobody rows (all-map_two (λ (x : ObjectRow) above isrow.
        parent_some x.parent (isrow.rooted ∙ ne_eqb x.id 0 (λ z. absurd (omega (arith, above, z))))) rows rises.0 each.1))
        ∙ ap (λ x. x ∷ []) same
    by false e is =
        let low : 0 < root.id = all-at (λ (x : ObjectRow). row.id < x.id → 0 < x.id) 0 rows root
        (all-map {P = λ (x : ObjectRow). row.id < x.id} (λ x a b. omega (arith, a)) rows rises.0) is
        (all-at (λ (x : ObjectRow). row.id < x.id) 0 rows root rises.0 is) in
        let none : root.id ≡ 0 = found-id 0 rows root is in
        absurd (omega (arith, low, none))

-- the listing that a load begins with is one of the tree
pub root-lists : (rows : List ObjectRow) → IsTree rows → (root : ObjectRow) → row_of 0 rows ≡ Some root → IsListing rows (listing_of root)
root-lists rows tree root found = record {
  first = w;
  others = [];
  shown = sym alone ∙ sym (ap (λ v. filter (known v) rows) id);
  waiting = put;
  wait = ap (λ v. waiting_at v rows) id ∙ waits_alone;
  front = refl;
  room = inl refl;
}
  where
    rises : Rises id_of rows
    rises = ascend-rises rows tree.ascending

    isrow : IsRow root
    isrow = all-at IsRow 0 rows root tree.each found

    id : root.id ≡ 0
    id = found-id 0 rows root found

    folder : is_folder root.content ≡ true
    folder = sym (ap is_container_row found) ∙ tree.rooted

    w : Waiting
    w = record { id = root.id; children = (folder-waits rows root isrow folder).0.child_count }

    made : waiting_of root ≡ Some w
    made = (folder-waits rows root isrow folder).2

    alone : filter (known 0) rows ≡ root ∷ []
    alone = root-alone rows root rises tree.each found

    put : put_containers (root ∷ []) [] ≡ w ∷ []
    put = ap (λ o. puts_by (λ (v : Waiting). v.id) (cons_option o []) []) made

    both : (row : ObjectRow) → waits 0 row ≡ known 0 row
    both row = by (known 0 row)
      where
        by : (b : Bool) → (b && nat_le 0 row.id) ≡ b
        by true = le-leb 0 row.id (omega arith)
        by false = refl

    all-both : (xs : List ObjectRow) → AllByRecursion (λ (row : ObjectRow). waits 0 row ≡ known 0 row) xs
    all-both [] = tt
    all-both (x ∷ xs) = (both x, all-both xs)

    waits_alone : waiting_at 0 rows ≡ w ∷ []
    waits_alone = ap (filter_map waiting_of) (filter-same (waits 0) (known 0) rows (all-both rows) ∙ alone) ∙ ap (λ o. cons_option o []) made

-- its first container is the root
pub root-first : (rows : List ObjectRow) (tree : IsTree rows) (root : ObjectRow) (found : row_of 0 rows ≡ Some root) → (root-lists rows tree root found).first.id ≡ 0
unfolding root-lists
root-first rows tree root found = found-id 0 rows root found

-- moments that stood, each with a tree; none has a higher number than the last, and equal numbers had equal rows
pub record IsServed (Stood : Moment → Type 0) (now : Moment) : Type 0 where
  pub stood : Stood now
  pub trees : (m : Moment) → Stood m → IsTree m.rows
  pub rising : (m : Moment) → Stood m → m.number ≤ now.number
  pub same : (m k : Moment) → Stood m → Stood k → m.number ≡ k.number → m.rows ≡ k.rows

-- a moment that stood and had a number
pub record Had (Stood : Moment → Type 0) (number : ℕ) : Type 0 where
  pub moment : Moment
  pub stood : Stood moment
  pub numbered : number ≡ moment.number

-- and one that stood later, at which more was read
pub record HadTwo (Stood : Moment → Type 0) (number : ℕ) : Type 0 where
  pub had : Had Stood number
  pub moment : Moment
  pub stood : Stood moment
  pub past : number ≤ moment.number

-- what is held, where all replies were those of moments that stood
abbrev pub IsGiven : (Moment → Type 0) → Held → Type 0
IsGiven Stood Idle = Unit {0}
IsGiven Stood (Loads Begun) = Unit {0}
IsGiven Stood (Loads HasToken) = Unit {0}
IsGiven Stood (Loads (HasNumber number)) = Had Stood number
IsGiven Stood (Loads (HasRoot number root)) = (two : HadTwo Stood number) × (row_of 0 two.moment.rows ≡ Some root)
IsGiven Stood (Loads (Lists number l)) = (had : Had Stood number) × IsListing had.moment.rows l
IsGiven Stood (Loads (HasPage number l page)) =
    (two : HadTwo Stood number) × IsListing two.had.moment.rows l
    × (taken (Loads (Lists number l)) (reply_to two.moment (Children (listed_id l) (length l.part))) ≡ Goes (Loads (HasPage number l page)))
IsGiven Stood (HasCopy number rows) = (had : Had Stood number) × (rows ≡ had.moment.rows)

-- what is held stays given when more moments have stood
pub given-more : (Stood More : Moment → Type 0) → ((m : Moment) → Stood m → More m) → (held : Held) → IsGiven Stood held → IsGiven More held
given-more Stood More more held given = by held given
  where
    had : (number : ℕ) → Had Stood number → Had More number
    had number h = record { moment = h.moment; stood = more h.moment h.stood; numbered = h.numbered }

    two : (number : ℕ) → HadTwo Stood number → HadTwo More number
    two number t = record { had = had number t.had; moment = t.moment; stood = more t.moment t.stood; past = t.past }

    by : (h : Held) → IsGiven Stood h → IsGiven More h
    by Idle g = tt
    by (Loads Begun) g = tt
    by (Loads HasToken) g = tt
    by (Loads (HasNumber number)) g = had number g
    by (Loads (HasRoot number root)) g = (two number g.0, g.1)
    by (Loads (Lists number l)) g = (had number g.0, g.1)
    by (Loads (HasPage number l page)) g = (two number g.0, g.1, g.2)
    by (HasCopy number rows) g = (had number g.0, g.1)

-- what follows the catalog of a moment is given
pub follows-given : (Stood : Moment → Type 0) (number : ℕ) (had : Had Stood number) (held : Held) → Follows had.moment.rows number held → IsGiven Stood held
follows-given Stood number had held follows = by held follows
  where
    by : (h : Held) → Follows had.moment.rows number h → IsGiven Stood h
    by Idle f = absurd f
    by (Loads Begun) f = absurd f
    by (Loads HasToken) f = absurd f
    by (Loads (HasNumber n)) f = absurd f
    by (Loads (HasRoot n root)) f = absurd f
    by (Loads (Lists n l)) f = (record { moment = had.moment; stood = had.stood; numbered = f.0 ∙ had.numbered }, f.1)
    by (Loads (HasPage n l page)) f = absurd f
    by (HasCopy n rows) f = (record { moment = had.moment; stood = had.stood; numbered = f.0 ∙ had.numbered }, f.1)
