-- The ids of what stands after legal changes: they rise in the order of additions, and above the parent's.
use Rattle.std.proofs.Common.{◌≡◌, ◌+◌, ◌<◌, ◌≤◌, ℕ, Bool, true, false, cond, not, List, [], ◌∷◌, ◌++◌, length, Some, None, refl, sym, ◌∙◌, ap, subst, arith}
use Rattle.std.specs.List.{AllByRecursion, count_by}
use Rattle.cds_object.specs.Path.{same_path, parent_of}
use Rattle.cds_object.specs.declared.content.Content.{Content}
use Rattle.cds_catalog.specs.Library.{FolderMap}
use Rattle.cds_catalog.specs.History.{is_addition, adds, up_to}
use Rattle.cds_catalog.specs.Catalog.{id_of, root_entry}
use Rattle.cds_catalog.specs.Replay.{stands, IsLegal}
use Rattle.cds_catalog.specs.declared.change.Change.{Change}
use Rattle.cds_catalog.specs.declared.change.Change.TheVariants.{Deletion, Addition, Modification}
use Rattle.cds_catalog.proofs.Paths.{same_path_is, same_path_itself}
use Rattle.cds_catalog.proofs.StepsPaths.{Place, swapped, parent_differs}
use Rattle.cds_catalog.proofs.StepsFind.{Entry, Rising, each-weaker, each-append, each-filter, each-both, count_by-cons, none≢some, Rising-removed, away_from_none}
use Rattle.cds_catalog.proofs.StepsLive.{shown, rewritten, find_live, parent_not_added}
use Rattle.cds_catalog.proofs.Live.{live}

-- ---- parts of a list of changes

pub length-up_to : (test : Change → Bool) (changes : List Change) → length (up_to test changes) ≤ length changes
length-up_to test [] = omega arith
length-up_to test (change ∷ older) = by (test change) (length-up_to test older)
  where
    by : (b : Bool) → length (up_to test older) ≤ length older → length (cond b (change ∷ older) (up_to test older)) ≤ length (change ∷ older)
    by true r = omega arith
    by false r = omega arith

pub count_up_to : (counted test : Change → Bool) (changes : List Change) → count_by counted (up_to test changes) ≤ count_by counted changes
count_up_to counted test [] = omega arith
count_up_to counted test (change ∷ older) = by (test change) (count_up_to counted test older)
  where
    by : (b : Bool) → count_by counted (up_to test older) ≤ count_by counted older
        → count_by counted (cond b (change ∷ older) (up_to test older)) ≤ count_by counted (change ∷ older)
    by true r = omega arith
    by false r = let one = count_by-cons counted change older in omega arith

-- ---- ids

pub id_drawn : (changes : List Change) (p : Place) → id_of changes p ≤ count_by is_addition changes
id_drawn changes p = count_up_to is_addition (adds p) changes

pub id_kept : (at : Place) (added : Content) (older : List Change) (p : Place) → same_path p at ≡ false → id_of (Addition at added ∷ older) p ≡ id_of older p
id_kept at added older p x = λ i. count_by is_addition (cond (x i) (Addition at added ∷ older) (up_to (adds p) older))

pub id_new : (at : Place) (added : Content) (older : List Change) (p : Place) → same_path p at ≡ true
    → id_of (Addition at added ∷ older) p ≡ 1 + count_by is_addition older
id_new at added older p x =
    (λ i. count_by is_addition (cond (x i) (Addition at added ∷ older) (up_to (adds p) older))) ∙ count_by-cons is_addition (Addition at added) older

pub id_root : (changes : List Change) → IsLegal changes → id_of changes [] ≡ 0
id_root [] l = refl
id_root (Deletion at ∷ older) l = id_root older l.0
id_root (Addition at added ∷ older) l = id_kept at added older [] (swapped at [] false l.1.0) ∙ id_root older l.0
id_root (Modification at written ∷ older) l = id_root older l.0

-- ---- rising

Rising-push : (f g : Place → ℕ) (es : FolderMap) (e : Entry) → Rising f es → AllByRecursion (λ o. (g o.0 ≡ f o.0) × (g o.0 < g e.0)) es → Rising g (es ++ e ∷ [])
Rising-push f g [] e h k = (tt, tt)
Rising-push f g (x ∷ es) e h k = (
  each-append (λ o. g x.0 < g o.0) es (e ∷ [])
      (each-weaker (λ o. (f x.0 < f o.0) × ((g o.0 ≡ f o.0) × (g o.0 < g e.0))) (λ o. g x.0 < g o.0) (λ o r. omega arith) es
      (each-both (λ o. f x.0 < f o.0) (λ o. (g o.0 ≡ f o.0) × (g o.0 < g e.0)) es h.0 k.1))
      (k.0.1, tt),
  Rising-push f g es e h.1 k.1,
)

pub each-rewritten : (P : Place → Type 0) (at : Place) (content : Content) (es : FolderMap) → AllByRecursion (λ o. P o.0) es
    → AllByRecursion (λ o. P o.0) (rewritten at content es)
each-rewritten P at content [] h = tt
each-rewritten P at content (e ∷ es) h = (by (same_path at e.0), each-rewritten P at content es h.1)
  where
    by : (b : Bool) → P (cond b (e.0, content) e).0
    by true = h.0
    by false = h.0

Rising-rewritten : (f : Place → ℕ) (at : Place) (content : Content) (es : FolderMap) → Rising f es → Rising f (rewritten at content es)
Rising-rewritten f at content [] h = tt
Rising-rewritten f at content (e ∷ es) h = (by (same_path at e.0), Rising-rewritten f at content es h.1)
  where
    by : (b : Bool) → AllByRecursion (λ o. f (cond b (e.0, content) e).0 < f o.0) (rewritten at content es)
    by true = each-rewritten (λ q. f e.0 < f q) at content es h.0
    by false = each-rewritten (λ q. f e.0 < f q) at content es h.0

below_new : (a b c d : ℕ) → a ≡ b → c ≡ 1 + d → b ≤ d → a < c
below_new a b c d p q r = omega arith

-- the ids of the root and of all that stands rise in the order of additions
pub ids_rise : (changes : List Change) → IsLegal changes → Rising (id_of changes) (shown changes)
ids_rise [] l = (tt, tt)
ids_rise (Deletion at ∷ older) l =
    let r = ids_rise older l.0 in
    (each-filter (λ o. id_of older [] < id_of older o.0) (λ o. not (same_path at o.0)) (live older) r.0, Rising-removed (id_of older) at (live older) r.1)
ids_rise (Addition at added ∷ older) l =
    Rising-push (id_of older) (id_of (Addition at added ∷ older)) (shown older) (at, added) (ids_rise older l.0)
    (earlier root_entry l.1.0, each-weaker (λ o. same_path at o.0 ≡ false) (λ o. (id_of (Addition at added ∷ older) o.0 ≡ id_of older o.0) × (id_of (Addition at added ∷ older) o.0 < id_of (Addition at added ∷ older) at)) earlier (live older) (away_from_none (live older) at (find_live older l.0 at ∙ l.1.1)))
  where
    earlier : (o : Entry) → same_path at o.0 ≡ false
        → (id_of (Addition at added ∷ older) o.0 ≡ id_of older o.0) × (id_of (Addition at added ∷ older) o.0 < id_of (Addition at added ∷ older) at)
    earlier o x =
        let kept = id_kept at added older o.0 (swapped at o.0 false x) in
        (kept, below_new _ _ _ _ kept (id_new at added older at (same_path_itself at)) (id_drawn older o.0))
ids_rise (Modification at written ∷ older) l =
    let r = ids_rise older l.0 in
    (each-rewritten (λ q. id_of older [] < id_of older q) at written (live older) r.0, Rising-rewritten (id_of older) at written (live older) r.1)

-- the id of the parent of what stands is below its own
pub parent_lower : (changes : List Change) (p : Place) (content : Content) → IsLegal changes → stands changes p ≡ Some content
    → id_of changes (parent_of p) < id_of changes p
parent_lower [] p content l e = none≢some None content refl e
parent_lower (Deletion at ∷ older) p content l e = by (same_path p at) e (parent_lower older p content l.0)
  where
    by : (b : Bool) → cond b None (stands older p) ≡ Some content → (stands older p ≡ Some content → id_of older (parent_of p) < id_of older p)
        → id_of older (parent_of p) < id_of older p
    by true k r = none≢some None content refl k
    by false k r = r k
parent_lower (Addition at added ∷ older) p content l e = by (same_path p at) refl e (parent_lower older p content l.0)
  where
    by : (b : Bool) → same_path p at ≡ b → cond b (Some added) (stands older p) ≡ Some content
        → (stands older p ≡ Some content → id_of older (parent_of p) < id_of older p)
        → id_of (Addition at added ∷ older) (parent_of p) < id_of (Addition at added ∷ older) p
    by true x k r =
        let differs : same_path (parent_of p) at ≡ false = subst (λ q. same_path (parent_of q) at ≡ false) (sym (same_path_is p at x)) (parent_differs at l.1.0) in
        below_new _ _ _ _ (id_kept at added older (parent_of p) differs) (id_new at added older p x) (id_drawn older (parent_of p))
    by false x k r = between _ _ _ _ (id_kept at added older (parent_of p) (parent_not_added older at added l p content k)) (id_kept at added older p x) (r k)
      where
        between : (a b c d : ℕ) → a ≡ b → c ≡ d → b < d → a < c
        between a b c d p q r = omega arith
parent_lower (Modification at written ∷ older) p content l e = by (same_path p at) refl e (parent_lower older p)
  where
    by : (b : Bool) → same_path p at ≡ b → cond b (Some written) (stands older p) ≡ Some content
        → ((c : Content) → IsLegal older → stands older p ≡ Some c → id_of older (parent_of p) < id_of older p)
        → id_of older (parent_of p) < id_of older p
    by true x k r = r l.1.0 l.0 (ap (stands older) (same_path_is p at x) ∙ l.1.1)
    by false x k r = r content l.0 k
