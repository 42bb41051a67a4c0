-- Rows stay like others when an event counts a change on the one and the step makes it on the other.
use Rattle.std.proofs.Common.{◌≡◌, ◌<◌, ℕ, Bool, true, false, cond, nat_eq, List, [], ◌∷◌, ◌++◌, map, Option, Some, None, MatchOption, refl, sym, ap, ◌∙◌, subst, arith, le-ltb}
use Rattle.std.specs.List.{AllByRecursion}
use Rattle.std.specs.Option.{option_map}
use Rattle.cds_object.specs.Path.{same_path}
use Rattle.cds_object.specs.Object.{ObjectRow}
use Rattle.cds_object.specs.Events.{class_of}
use Rattle.cds_object.specs.declared.content.Content.{Content}
use Rattle.cds_object.specs.declared.content.Content.TheVariants.{Folder, Track}
use Rattle.cds_object.specs.declared.row.Trackers.{Trackers}
use Rattle.cds_catalog.specs.Library.{FolderMap}
use Rattle.cds_catalog.specs.Catalog.{PlacedRow, id_of, parent_id_of}
use Rattle.cds_catalog.specs.Steps.{touched, new_row}
use Rattle.cds_catalog.specs.declared.change.Change.{Change}
use Rattle.cds_catalog.proofs.Paths.{same_path_is}
use Rattle.cds_catalog.proofs.StepsPaths.{Place}
use Rattle.cds_catalog.proofs.StepsFind.{Entry, find_in, none≢some}
use Rattle.cds_catalog.proofs.StepsRows.{row_over}
use Rattle.cds_follow.specs.Copy.{KnownRow, counted, known_of, parent_in, put_known, added_row}
use Rattle.cds_follow.specs.StepLaws.{IsLike, AreLike}
use Rattle.cds_follow.proofs.Like.{unplaced, like-map}

-- a row whose trackers are counted anew
abbrev pub tracked : (Trackers → Trackers) → ObjectRow → ObjectRow
tracked g row = record row { trackers = option_map g row.trackers }

pub agree : (f g : Trackers → Trackers) (Q : Trackers → Type 0) → ((t : Trackers) → Q t → f t ≡ g t) → (o : Option Trackers)
    → MatchOption o (Unit {0}) Q → option_map f o ≡ option_map g o
agree f g Q same None h = refl
agree f g Q same (Some t) h = ap Some (same t h)

-- what is asked of a placed row whose trackers are to be counted anew: its id tells the place, and the counts agree on it
abbrev pub Counts : (Trackers → Trackers) → (Trackers → Trackers) → ℕ → Place → PlacedRow → Type 0
Counts f g id q placed = (nat_eq placed.1.id id ≡ same_path q placed.0) × (option_map f placed.1.trackers ≡ option_map g placed.1.trackers)

count-one : (f g : Trackers → Trackers) (id : ℕ) (q : Place) (known : KnownRow) (placed : PlacedRow) → Counts f g id q placed → IsLike known placed.1
    → IsLike (cond (nat_eq known.id id) (record known { trackers = option_map f known.trackers }) known) (touched q (tracked g) placed).1
count-one f g id q known placed counts like =
    subst (λ (b : Bool). IsLike (cond b (record known { trackers = option_map f known.trackers }) known) (touched q (tracked g) placed).1)
    (sym (ap (λ (n : ℕ). nat_eq n id) like.id ∙ counts.0)) (by (same_path q placed.0))
  where
    by : (b : Bool) → IsLike (cond b (record known { trackers = option_map f known.trackers }) known) (cond b (placed.0, tracked g placed.1) placed).1
    by true = record { id = like.id; parent = like.parent; folder = like.folder; trackers = ap (option_map f) like.trackers ∙ counts.1 }
    by false = like

-- counted on rows that are like others, with the trackers of the place touched on these
pub like-counted : (f g : Trackers → Trackers) (id : ℕ) (q : Place) (knowns : List KnownRow) (rows : List PlacedRow)
    → AllByRecursion (Counts f g id q) rows → AreLike knowns (unplaced rows)
    → AreLike (counted f (Some id) knowns) (unplaced (map (touched q (tracked g)) rows))
like-counted f g id q knowns rows all like =
    like-map (λ (row : KnownRow). cond (nat_eq row.id id) (record row { trackers = option_map f row.trackers }) row) (touched q (tracked g))
    (Counts f g id q) (count-one f g id q) knowns rows all like

-- rows that are like others stay so where a change of these keeps the likeness
pub like-kept : (g : PlacedRow → PlacedRow) (P : PlacedRow → Type 0)
    → ((known : KnownRow) (placed : PlacedRow) → P placed → IsLike known placed.1 → IsLike known (g placed).1)
    → (knowns : List KnownRow) (rows : List PlacedRow) → AllByRecursion P rows → AreLike knowns (unplaced rows) → AreLike knowns (unplaced (map g rows))
like-kept g P step [] [] all like = tt
like-kept g P step [] (row ∷ rows) all like = absurd like
like-kept g P step (known ∷ knowns) [] all like = absurd like
like-kept g P step (known ∷ knowns) (row ∷ rows) all like = (step known row all.0 like.0, like-kept g P step knowns rows all.1 like.1)

-- ---- the row of an addition goes last

pub each-known : (P : ℕ → Type 0) (knowns : List KnownRow) (rows : List PlacedRow) → AllByRecursion (λ (placed : PlacedRow). P placed.1.id) rows
    → AreLike knowns (unplaced rows) → AllByRecursion (λ (known : KnownRow). P known.id) knowns
each-known P [] [] all like = tt
each-known P [] (row ∷ rows) all like = absurd like
each-known P (known ∷ knowns) [] all like = absurd like
each-known P (known ∷ knowns) (row ∷ rows) all like = (subst P (sym like.0.id) all.0, each-known P knowns rows all.1 like.1)

pub each-counted : (P : ℕ → Type 0) (f : Trackers → Trackers) (id : ℕ) (knowns : List KnownRow) → AllByRecursion (λ (known : KnownRow). P known.id) knowns
    → AllByRecursion (λ (known : KnownRow). P known.id) (counted f (Some id) knowns)
each-counted P f id [] all = tt
each-counted P f id (known ∷ knowns) all = (by (nat_eq known.id id), each-counted P f id knowns all.1)
  where
    by : (b : Bool) → P (cond b (record known { trackers = option_map f known.trackers }) known).id
    by true = all.0
    by false = all.0

pub put-last : (row : KnownRow) (knowns : List KnownRow) → AllByRecursion (λ (known : KnownRow). known.id < row.id) knowns
    → put_known row knowns ≡ knowns ++ row ∷ []
put-last row [] all = refl
put-last row (known ∷ knowns) all =
    let l = all.0 in
    (λ i. cond (le-ltb row.id known.id (omega (arith, l)) i) (row ∷ known ∷ knowns) (known ∷ put_known row knowns))
    ∙ ap (λ (rest : List KnownRow). known ∷ rest) (put-last row knowns all.1)

pub new-like : (id other number parent holder : ℕ) (content : Content) → id ≡ other → parent ≡ holder
    → IsLike (added_row id number parent (class_of content)) (new_row other holder number content)
new-like id other number parent holder (Folder title) e p = record { id = e; parent = ap Some p; folder = refl; trackers = refl }
new-like id other number parent holder (Track track) e p = record { id = e; parent = ap Some p; folder = refl; trackers = refl }

-- ---- the parent of a row that is found

-- the known row of a place that is shown
pub known-found : (first : ℕ) (changes : List Change) (es : FolderMap) (knowns : List KnownRow) (p : Place) (content : Content) → find_in es p ≡ Some content
    → AllByRecursion (λ (placed : PlacedRow). nat_eq placed.1.id (id_of changes p) ≡ same_path p placed.0) (map (row_over first changes) es)
    → AreLike knowns (unplaced (map (row_over first changes) es))
    → (known : KnownRow) × (known_of (id_of changes p) knowns ≡ Some known) × IsLike known (row_over first changes (p, content)).1
known-found first changes [] knowns p content f all like = none≢some None content refl f
known-found first changes (e ∷ es) [] p content f all like = absurd like
known-found first changes (e ∷ es) (known ∷ knowns) p content f all like =
    by (same_path p e.0) refl f (ap (λ (n : ℕ). nat_eq n (id_of changes p)) like.0.id ∙ all.0) (λ k. known-found first changes es knowns p content k all.1 like.1)
  where
    by : (b : Bool) → same_path p e.0 ≡ b → cond b (Some e.1) (find_in es p) ≡ Some content → nat_eq known.id (id_of changes p) ≡ same_path p e.0
        → (find_in es p ≡ Some content → (row : KnownRow) × (known_of (id_of changes p) knowns ≡ Some row) × IsLike row (row_over first changes (p, content)).1)
        → (row : KnownRow) × (cond (nat_eq known.id (id_of changes p)) (Some known) (known_of (id_of changes p) knowns) ≡ Some row)
        × IsLike row (row_over first changes (p, content)).1
    by true x k t r =
        let a : e.0 ≡ p = sym (same_path_is p e.0 x) in
        let d : e.1 ≡ content = cc in (
          known,
          (λ i. cond ((t ∙ x) i) (Some known) (known_of (id_of changes p) knowns)),
          subst (λ (o : Entry). IsLike known (row_over first changes o).1) (λ i. (a i, d i)) like.0,
        )
    by false x k t r =
        let rest = r k in
        (rest.0, (λ i. cond ((t ∙ x) i) (Some known) (known_of (id_of changes p) knowns)) ∙ rest.1, rest.2)

parent-of-known : (id : ℕ) (knowns : List KnownRow) (known : KnownRow) → known_of id knowns ≡ Some known → parent_in id knowns ≡ known.parent
parent-of-known id knowns known e = rw e refl

pub parent-found : (first : ℕ) (changes : List Change) (es : FolderMap) (knowns : List KnownRow) (p : Place) (content : Content) → find_in es p ≡ Some content
    → AllByRecursion (λ (placed : PlacedRow). nat_eq placed.1.id (id_of changes p) ≡ same_path p placed.0) (map (row_over first changes) es)
    → AreLike knowns (unplaced (map (row_over first changes) es)) → parent_in (id_of changes p) knowns ≡ parent_id_of changes p
parent-found first changes es knowns p content f all like =
    let found = known-found first changes es knowns p content f all like in
    parent-of-known (id_of changes p) knowns found.0 found.1 ∙ found.2.parent
