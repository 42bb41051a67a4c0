-- What the ids of rows tell of the places that stand after legal changes, and which rows are found by them.
use Rattle.std.proofs.Common.{◌≡◌, ◌<◌, ℕ, Bool, true, false, cond, ◌||◌, nat_eq, List, [], ◌∷◌, map, Some, None, refl, sym, ap, ◌∙◌, arith, true≢false, ne_eqb}
use Rattle.std.specs.List.{AllByRecursion, list_any}
use Rattle.cds_object.specs.Path.{same_path, parent_of}
use Rattle.cds_object.specs.Content.{same_kind}
use Rattle.cds_object.specs.Object.{is_folder}
use Rattle.cds_object.specs.declared.content.Content.{Content}
use Rattle.cds_object.specs.declared.content.Content.TheVariants.{Folder, Track}
use Rattle.cds_catalog.specs.Library.{FolderMap}
use Rattle.cds_catalog.specs.Catalog.{PlacedRow, id_of, parent_id_of, root_entry}
use Rattle.cds_catalog.specs.Replay.{stands, IsLegal}
use Rattle.cds_catalog.specs.Steps.{id_at}
use Rattle.cds_catalog.specs.declared.change.Change.{Change}
use Rattle.cds_catalog.proofs.Paths.{same_path_is}
use Rattle.cds_catalog.proofs.StepsPaths.{Place}
use Rattle.cds_catalog.proofs.StepsFind.{Entry, find_in, each-map, none≢some, found_holds}
use Rattle.cds_catalog.proofs.StepsLive.{shown, shown_holder, find_live, stands_named, held}
use Rattle.cds_catalog.proofs.StepsIds.{ids_rise}
use Rattle.cds_catalog.proofs.StepsRows.{row_over, rows_over}
pub use Rattle.cds_changes.proofs.Ids.{numbers-tell}
use Rattle.cds_catalog.proofs.Live.{live}

-- ---- tests of rows

either-left : (a b : Bool) → a ≡ true → a || b ≡ true
either-left a b e = λ i. e i || b

either-right : (a b : Bool) → b ≡ true → a || b ≡ true
either-right true b e = refl
either-right false b e = e

-- a row that is found passes where the row of its place does
pub any-found : (q : PlacedRow → Bool) (first : ℕ) (changes : List Change) (es : FolderMap) (p : Place) (content : Content) → find_in es p ≡ Some content
    → q (row_over first changes (p, content)) ≡ true → list_any q (map (row_over first changes) es) ≡ true
any-found q first changes [] p content f h = none≢some None content refl f
any-found q first changes (e ∷ es) p content f h = by (same_path p e.0) refl f (any-found q first changes es p content)
  where
    by : (b : Bool) → same_path p e.0 ≡ b → cond b (Some e.1) (find_in es p) ≡ Some content
        → (find_in es p ≡ Some content → q (row_over first changes (p, content)) ≡ true → list_any q (map (row_over first changes) es) ≡ true)
        → q (row_over first changes e) || list_any q (map (row_over first changes) es) ≡ true
    by true x k r =
        let a : e.0 ≡ p = sym (same_path_is p e.0 x) in
        let d : e.1 ≡ content = cc in
        either-left (q (row_over first changes e)) (list_any q (map (row_over first changes) es))
        (ap (λ (o : Entry). q (row_over first changes o)) (λ i. (a i, d i)) ∙ h)
    by false x k r = either-right (q (row_over first changes e)) (list_any q (map (row_over first changes) es)) (r k h)

pub any-none : {X : Type 0} (q : X → Bool) (xs : List X) → AllByRecursion (λ x. q x ≡ false) xs → list_any q xs ≡ false
any-none q [] h = refl
any-none q (x ∷ xs) h = (λ i. h.0 i || list_any q xs) ∙ any-none q xs h.1

-- the id of the row at a place that is shown
pub id_at-found : (first : ℕ) (changes : List Change) (es : FolderMap) (p : Place) (content : Content) → find_in es p ≡ Some content
    → id_at p (map (row_over first changes) es) ≡ id_of changes p
id_at-found first changes [] p content f = none≢some None content refl f
id_at-found first changes (e ∷ es) p content f = by (same_path p e.0) refl f (id_at-found first changes es p content)
  where
    by : (b : Bool) → same_path p e.0 ≡ b → cond b (Some e.1) (find_in es p) ≡ Some content
        → (find_in es p ≡ Some content → id_at p (map (row_over first changes) es) ≡ id_of changes p)
        → cond b (id_of changes e.0) (id_at p (map (row_over first changes) es)) ≡ id_of changes p
    by true x k r = ap (id_of changes) (sym (same_path_is p e.0 x))
    by false x k r = r k

-- ---- what stands

pub kinds : (a b : Content) → same_kind a b ≡ true → is_folder a ≡ is_folder b
kinds (Folder title) (Folder other) e = refl
kinds (Folder title) (Track track) e = absurd (true≢false (sym e))
kinds (Track track) (Folder title) e = absurd (true≢false (sym e))
kinds (Track track) (Track other) e = refl

pub parent-is : (changes : List Change) (p : Place) → same_path p [] ≡ false → parent_id_of changes p ≡ Some (id_of changes (parent_of p))
parent-is changes [] n = absurd (true≢false n)
parent-is changes (name ∷ names) n = refl

module _ (first : ℕ) (changes : List Change) (legal : IsLegal changes) where
  pub shown-is : (p : Place) (content : Content) → stands changes p ≡ Some content → find_in (shown changes) p ≡ Some content
  shown-is p content e =
      (λ i. cond (stands_named changes p content legal e i) (Some root_entry.1) (find_in (live changes) p)) ∙ find_live changes legal p ∙ e

  pub parent-shown : (p : Place) (content : Content) → stands changes p ≡ Some content
      → (c : Content) × (find_in (shown changes) (parent_of p) ≡ Some c) × (is_folder c ≡ true)
  parent-shown p content e = shown_holder changes legal (parent_of p) (held changes p content legal e)

  -- the rows tell a place by its id
  pub rows-tell : (p : Place) (content : Content) → find_in (shown changes) p ≡ Some content
      → AllByRecursion (λ (placed : PlacedRow). nat_eq placed.1.id (id_of changes p) ≡ same_path p placed.0) (rows_over first changes)
  rows-tell p content f =
      each-map (λ (placed : PlacedRow). nat_eq placed.1.id (id_of changes p) ≡ same_path p placed.0) (row_over first changes) (shown changes)
      (numbers-tell (id_of changes) (shown changes) p content (ids_rise changes legal) f)

  -- what stands is not the root
  pub above-root : (p : Place) (content : Content) → stands changes p ≡ Some content → nat_eq (id_of changes p) 0 ≡ false
  above-root p content e =
      let l : id_of changes [] < id_of changes p = found_holds (λ (o : Entry). id_of changes [] < id_of changes o.0) (live changes) p content
      (ids_rise changes legal).0 (find_live changes legal p ∙ e) in
      ne_eqb (id_of changes p) 0 (λ q. omega (arith, l, q))
