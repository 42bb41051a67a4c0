-- What stands after legal changes: looking it up, the root, and what holds each place.
use Rattle.std.proofs.Common.{◌≡◌, Bool, true, false, cond, map, List, [], ◌∷◌, ◌++◌, Option, Some, None, refl, sym, ◌∙◌, ap, subst, true≢false}
use Rattle.std.specs.List.{AllByRecursion}
use Rattle.std.proofs.lemmas.Bool.{false_from_ne_true}
use Rattle.cds_object.specs.Path.{same_path, parent_of}
use Rattle.cds_object.specs.Content.{same_kind}
use Rattle.cds_object.specs.Object.{is_folder}
use Rattle.cds_object.specs.declared.content.Content.{Content}
use Rattle.cds_object.specs.declared.content.Content.TheVariants.{Folder, Track}
use Rattle.cds_catalog.specs.Library.{FolderMap}
use Rattle.cds_catalog.specs.Catalog.{root_entry}
use Rattle.cds_catalog.specs.Replay.{stands, holds_after, IsLegal}
use Rattle.cds_catalog.specs.declared.change.Change.{Change}
use Rattle.cds_catalog.specs.declared.change.Change.TheVariants.{Deletion, Addition, Modification}
use Rattle.cds_catalog.proofs.Paths.{same_path_is}
use Rattle.cds_catalog.proofs.StepsPaths.{Place, swapped, parent_differs}
use Rattle.cds_catalog.proofs.StepsFind.{find_in, none≢some, find_removed, away_from_none}
use Rattle.cds_catalog.proofs.Live.{live}

-- the root and all that stands
abbrev pub shown : List Change → FolderMap
shown changes = root_entry ∷ live changes

-- entries with other words at one place
abbrev pub rewritten : Place → Content → FolderMap → FolderMap
rewritten at content es = map (λ entry. cond (same_path at entry.0) (entry.0, content) entry) es

-- ---- looking up

find_push : (es : FolderMap) (at : Place) (content : Content) (p : Place) → AllByRecursion (λ o. same_path at o.0 ≡ false) es
    → find_in (es ++ (at, content) ∷ []) p ≡ cond (same_path p at) (Some content) (find_in es p)
find_push [] at content p h = refl
find_push (e ∷ es) at content p h = by (same_path p at) (same_path p e.0) refl refl (find_push es at content p h.1)
  where
    by : (b c : Bool) → same_path p at ≡ b → same_path p e.0 ≡ c
        → find_in (es ++ (at, content) ∷ []) p ≡ cond (same_path p at) (Some content) (find_in es p)
        → cond c (Some e.1) (find_in (es ++ (at, content) ∷ []) p) ≡ cond b (Some content) (cond c (Some e.1) (find_in es p))
    by true true x y r = absurd (true≢false (sym y ∙ ap (λ q. same_path q e.0) (same_path_is p at x) ∙ h.0))
    by false true x y r = refl
    by true false x y r = r ∙ (λ i. cond (x i) (Some content) (find_in es p))
    by false false x y r = r ∙ (λ i. cond (x i) (Some content) (find_in es p))

abbrev said : Content → Option Content → Option Content
said content None = None
said content (Some before) = Some content

find_rewritten : (es : FolderMap) (at : Place) (content : Content) (p : Place)
    → find_in (rewritten at content es) p ≡ cond (same_path p at) (said content (find_in es p)) (find_in es p)
find_rewritten [] at content p = by (same_path p at)
  where
    by : (b : Bool) → find_in [] p ≡ cond b (said content (find_in [] p)) (find_in [] p)
    by true = refl
    by false = refl
find_rewritten (e ∷ es) at content p = by (same_path at e.0) (same_path p at) (same_path p e.0) refl refl refl (find_rewritten es at content p)
  where
    by : (b c d : Bool) → same_path at e.0 ≡ b → same_path p at ≡ c → same_path p e.0 ≡ d
        → find_in (rewritten at content es) p ≡ cond (same_path p at) (said content (find_in es p)) (find_in es p)
        → find_in (cond b (e.0, content) e ∷ rewritten at content es) p
        ≡ cond c (said content (cond d (Some e.1) (find_in es p))) (cond d (Some e.1) (find_in es p))
    by true true true x y z r = λ i. cond (z i) (Some content) (find_in (rewritten at content es) p)
    by true true false x y z r =
        (λ i. cond (z i) (Some content) (find_in (rewritten at content es) p)) ∙ r ∙ (λ i. cond (y i) (said content (find_in es p)) (find_in es p))
    by true false true x y z r = absurd (true≢false (sym z ∙ sym (ap (same_path p) (same_path_is at e.0 x)) ∙ y))
    by true false false x y z r =
        (λ i. cond (z i) (Some content) (find_in (rewritten at content es) p)) ∙ r ∙ (λ i. cond (y i) (said content (find_in es p)) (find_in es p))
    by false true true x y z r = absurd (true≢false (sym z ∙ ap (λ q. same_path q e.0) (same_path_is p at y) ∙ x))
    by false true false x y z r =
        (λ i. cond (z i) (Some e.1) (find_in (rewritten at content es) p)) ∙ r ∙ (λ i. cond (y i) (said content (find_in es p)) (find_in es p))
    by false false true x y z r = λ i. cond (z i) (Some e.1) (find_in (rewritten at content es) p)
    by false false false x y z r =
        (λ i. cond (z i) (Some e.1) (find_in (rewritten at content es) p)) ∙ r ∙ (λ i. cond (y i) (said content (find_in es p)) (find_in es p))

-- what is looked up among all that is live is what stands
pub find_live : (changes : List Change) → IsLegal changes → (p : Place) → find_in (live changes) p ≡ stands changes p
find_live [] l p = refl
find_live (Deletion at ∷ older) l p =
    find_removed (live older) at p ∙ ap (λ o. cond (same_path p at) None o) (find_live older l.0 p)
find_live (Addition at content ∷ older) l p =
    find_push (live older) at content p (away_from_none (live older) at (find_live older l.0 at ∙ l.1.1))
    ∙ ap (λ o. cond (same_path p at) (Some content) o) (find_live older l.0 p)
find_live (Modification at content ∷ older) l p =
    find_rewritten (live older) at content p
    ∙ ap (λ o. cond (same_path p at) (said content o) o) (find_live older l.0 p)
    ∙ by (same_path p at) refl
  where
    by : (b : Bool) → same_path p at ≡ b → cond b (said content (stands older p)) (stands older p) ≡ cond b (Some content) (stands older p)
    by true x = ap (said content) (ap (stands older) (same_path_is p at x) ∙ l.1.1)
    by false x = refl

-- ---- the root, and what holds each place

-- nothing is said to stand at the root's place
pub rootless : (changes : List Change) → IsLegal changes → stands changes [] ≡ None
rootless [] l = refl
rootless (Deletion at ∷ older) l = by (same_path [] at) (rootless older l.0)
  where
    by : (b : Bool) → stands older [] ≡ None → cond b None (stands older []) ≡ None
    by true r = refl
    by false r = r
rootless (Addition at content ∷ older) l =
    (λ i. cond (swapped at [] false l.1.0 i) (Some content) (stands older [])) ∙ rootless older l.0
rootless (Modification at content ∷ older) l = by (same_path [] at) refl (rootless older l.0)
  where
    by : (b : Bool) → same_path [] at ≡ b → stands older [] ≡ None → cond b (Some content) (stands older []) ≡ None
    by true x r = none≢some (stands older []) l.1.0 r (ap (stands older) (same_path_is [] at x) ∙ l.1.1)
    by false x r = r

pub stands_named : (changes : List Change) (p : Place) (content : Content) → IsLegal changes → stands changes p ≡ Some content → same_path p [] ≡ false
stands_named changes p content l e =
    false_from_ne_true _ (λ s. none≢some (stands changes p) content (ap (stands changes) (same_path_is p [] s) ∙ rootless changes l) e)

-- whether what stands at a place holds others
abbrev pub holder : Place → Option Content → Bool
holder [] found = true
holder (name ∷ names) None = false
holder (name ∷ names) (Some content) = is_folder content

pub holds_is : (changes : List Change) (p : Place) → holds_after changes p ≡ holder p (stands changes p)
holds_is changes [] = refl
holds_is changes (name ∷ names) = by (stands changes (name ∷ names)) refl
  where
    by : (o : Option Content) → stands changes (name ∷ names) ≡ o → holds_after changes (name ∷ names) ≡ holder (name ∷ names) (stands changes (name ∷ names))
    by None e = rw e refl
    by (Some content) e = rw e refl

pub holder_none : (p : Place) → holder p None ≡ true → same_path p [] ≡ true
holder_none [] h = refl
holder_none (name ∷ names) h = h

holder_kind : (p : Place) (before content : Content) → same_kind before content ≡ true → holder p (Some before) ≡ true → holder p (Some content) ≡ true
holder_kind [] before content k h = refl
holder_kind (name ∷ names) (Folder t) (Folder u) k h = refl
holder_kind (name ∷ names) (Folder t) (Track u) k h = k
holder_kind (name ∷ names) (Track t) content k h = absurd (true≢false (sym h))

-- a place that nothing stands at is not the parent of one that something does
parent_other : (older : List Change) (at p : Place) → same_path at [] ≡ false → stands older at ≡ None
    → holder (parent_of p) (stands older (parent_of p)) ≡ true → same_path (parent_of p) at ≡ false
parent_other older at p n e h = false_from_ne_true _ (λ s. true≢false (sym (holder_none at (moved s)) ∙ n))
  where
    moved : same_path (parent_of p) at ≡ true → holder at None ≡ true
    moved s = ap (holder at) (sym e) ∙ subst (λ q. holder q (stands older q) ≡ true) (same_path_is (parent_of p) at s) h

pub held : (changes : List Change) (p : Place) (content : Content) → IsLegal changes → stands changes p ≡ Some content
    → holder (parent_of p) (stands changes (parent_of p)) ≡ true
held [] p content l e = none≢some None content refl e
held (Deletion at ∷ older) p content l e = by (same_path p at) (same_path (parent_of p) at) refl refl e (held older p content l.0)
  where
    by : (b c : Bool) → same_path p at ≡ b → same_path (parent_of p) at ≡ c → cond b None (stands older p) ≡ Some content
        → (stands older p ≡ Some content → holder (parent_of p) (stands older (parent_of p)) ≡ true)
        → holder (parent_of p) (cond c None (stands older (parent_of p))) ≡ true
    by true c x y k r = none≢some None content refl k
    by false true x y k r =
        none≢some (stands older p) content (l.1.2 p (stands_named older p content l.0 k) (swapped (parent_of p) at true y)) k
    by false false x y k r = r k
held (Addition at added ∷ older) p content l e = by (same_path p at) refl e (held older p content l.0)
  where
    kept : (q : Place) → same_path q at ≡ false → holder q (stands older q) ≡ true → holder q (cond (same_path q at) (Some added) (stands older q)) ≡ true
    kept q x h = (λ i. holder q (cond (x i) (Some added) (stands older q))) ∙ h

    by : (b : Bool) → same_path p at ≡ b → cond b (Some added) (stands older p) ≡ Some content
        → (stands older p ≡ Some content → holder (parent_of p) (stands older (parent_of p)) ≡ true)
        → holder (parent_of p) (cond (same_path (parent_of p) at) (Some added) (stands older (parent_of p))) ≡ true
    by true x k r =
        subst (λ q. holder (parent_of q) (cond (same_path (parent_of q) at) (Some added) (stands older (parent_of q))) ≡ true) (sym (same_path_is p at x))
        (kept (parent_of at) (parent_differs at l.1.0) (sym (holds_is older (parent_of at)) ∙ l.1.2))
    by false x k r = kept (parent_of p) (parent_other older at p l.1.0 l.1.1 (r k)) (r k)
held (Modification at written ∷ older) p content l e = by (same_path p at) refl e (held older p)
  where
    kept : (c : Bool) → same_path (parent_of p) at ≡ c → holder (parent_of p) (stands older (parent_of p)) ≡ true
        → holder (parent_of p) (cond c (Some written) (stands older (parent_of p))) ≡ true
    kept true y h =
        holder_kind (parent_of p) l.1.0 written l.1.2
        (ap (holder (parent_of p)) (sym (ap (stands older) (same_path_is (parent_of p) at y) ∙ l.1.1)) ∙ h)
    kept false y h = h

    by : (b : Bool) → same_path p at ≡ b → cond b (Some written) (stands older p) ≡ Some content
        → ((c : Content) → IsLegal older → stands older p ≡ Some c → holder (parent_of p) (stands older (parent_of p)) ≡ true)
        → holder (parent_of p) (cond (same_path (parent_of p) at) (Some written) (stands older (parent_of p))) ≡ true
    by true x k r = kept (same_path (parent_of p) at) refl (r l.1.0 l.0 (ap (stands older) (same_path_is p at x) ∙ l.1.1))
    by false x k r = kept (same_path (parent_of p) at) refl (r content l.0 k)

-- the parent of what stands is not where the next addition goes
pub parent_not_added : (older : List Change) (at : Place) (added : Content) → IsLegal (Addition at added ∷ older) → (p : Place) (content : Content)
    → stands older p ≡ Some content → same_path (parent_of p) at ≡ false
parent_not_added older at added l p content e = parent_other older at p l.1.0 l.1.1 (held older p content l.0 e)

-- what holds others is shown as a folder
pub shown_holder : (changes : List Change) → IsLegal changes → (p : Place) → holder p (stands changes p) ≡ true
    → (content : Content) × (find_in (shown changes) p ≡ Some content) × (is_folder content ≡ true)
shown_holder changes l [] h = (root_entry.1, refl, refl)
shown_holder changes l (name ∷ names) h = by (stands changes (name ∷ names)) refl h
  where
    by : (o : Option Content) → stands changes (name ∷ names) ≡ o → holder (name ∷ names) o ≡ true
        → (content : Content) × (find_in (shown changes) (name ∷ names) ≡ Some content) × (is_folder content ≡ true)
    by None e k = absurd (true≢false (sym k))
    by (Some content) e k = (content, find_live changes l (name ∷ names) ∙ e, k)
