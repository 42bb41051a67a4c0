-- How one more change alters the parts of a row.
use Rattle.std.proofs.Common.{◌≡◌, ◌+◌, ◌≤◌, ℕ, suc, max, Bool, true, false, cond, List, [], ◌∷◌, ◌++◌, length, Option, Some, None, refl, sym, ◌∙◌, ap, arith, true≢false}
use Rattle.std.specs.List.{count_by}
use Rattle.std.specs.Option.{option_map}
use Rattle.std.proofs.lemmas.List.Sums.{sum_by_push}
use Rattle.cds_object.specs.Path.{same_path, parent_of}
use Rattle.cds_object.specs.Content.{same_kind}
use Rattle.cds_object.specs.Object.{ObjectRow}
use Rattle.cds_object.specs.declared.content.Content.{Content}
use Rattle.cds_object.specs.declared.content.Content.TheVariants.{Folder, Track}
use Rattle.cds_object.specs.declared.row.Trackers.{Trackers}
use Rattle.cds_catalog.specs.Library.{FolderMap}
use Rattle.cds_catalog.specs.History.{is_addition, adds, sets, is_under, deletes_under, up_to, after}
use Rattle.cds_catalog.specs.Catalog.{id_of, parent_id_of, object_update_of, container_update_of, deleted_of, child_count_of, trackers_of}
use Rattle.cds_catalog.specs.declared.change.Change.{Change}
use Rattle.cds_catalog.proofs.StepsPaths.{Place}
use Rattle.cds_catalog.proofs.StepsFind.{Entry, count_by-cons}
use Rattle.cds_catalog.proofs.StepsLive.{rewritten}
use Rattle.cds_catalog.proofs.StepsIds.{length-up_to}

-- ---- numbers

past : (first n : ℕ) → first + suc n ≡ first + n + 1
past first n = omega arith

raised : (first a b n : ℕ) → a ≤ suc n → b ≡ suc n → first + max a b ≡ first + n + 1
raised first a b n h e = omega arith

raised_left : (first a b n : ℕ) → b ≤ suc n → a ≡ suc n → first + max a b ≡ first + n + 1
raised_left first a b n h e = omega arith

-- ---- the parts of a row that one more change leaves or sets

pub id_left : (change : Change) (older : List Change) (p : Place) → adds p change ≡ false → id_of (change ∷ older) p ≡ id_of older p
id_left change older p x = λ i. count_by is_addition (cond (x i) (change ∷ older) (up_to (adds p) older))

pub parent_left : (change : Change) (older : List Change) (p : Place) → adds (parent_of p) change ≡ false → parent_id_of (change ∷ older) p ≡ parent_id_of older p
parent_left change older [] x = refl
parent_left change older (name ∷ names) x = ap Some (id_left change older (parent_of (name ∷ names)) x)

pub update_left : (first : ℕ) (change : Change) (older : List Change) (p : Place) → sets p change ≡ false
    → object_update_of first (change ∷ older) p ≡ object_update_of first older p
update_left first change older p x = λ i. first + length (cond (x i) (change ∷ older) (up_to (sets p) older))

pub update_set : (first : ℕ) (change : Change) (older : List Change) (p : Place) → sets p change ≡ true
    → object_update_of first (change ∷ older) p ≡ first + length older + 1
update_set first change older p x = (λ i. first + length (cond (x i) (change ∷ older) (up_to (sets p) older))) ∙ past first (length older)

pub container_left : (first : ℕ) (change : Change) (older : List Change) (p : Place) → adds p change ≡ false → is_under p change ≡ false
    → container_update_of first (change ∷ older) p ≡ container_update_of first older p
container_left first change older p x y =
    λ i. first + max (length (cond (x i) (change ∷ older) (up_to (adds p) older))) (length (cond (y i) (change ∷ older) (up_to (is_under p) older)))

pub container_set : (first : ℕ) (change : Change) (older : List Change) (p : Place) → is_under p change ≡ true
    → container_update_of first (change ∷ older) p ≡ first + length older + 1
container_set first change older p y =
    raised first (length (up_to (adds p) (change ∷ older))) (length (up_to (is_under p) (change ∷ older))) (length older)
    (length-up_to (adds p) (change ∷ older)) (λ i. length (cond (y i) (change ∷ older) (up_to (is_under p) older)))

pub container_new : (first : ℕ) (change : Change) (older : List Change) (p : Place) → adds p change ≡ true
    → container_update_of first (change ∷ older) p ≡ first + length older + 1
container_new first change older p x =
    raised_left first (length (up_to (adds p) (change ∷ older))) (length (up_to (is_under p) (change ∷ older))) (length older)
    (length-up_to (is_under p) (change ∷ older)) (λ i. length (cond (x i) (change ∷ older) (up_to (adds p) older)))

pub deleted_more : (change : Change) (older : List Change) (p : Place) → adds p change ≡ false
    → deleted_of (change ∷ older) p ≡ cond (deletes_under p change) 1 0 + deleted_of older p
deleted_more change older p x =
    (λ i. count_by (deletes_under p) (cond (x i) [] (change ∷ after (adds p) older)))
    ∙ count_by-cons (deletes_under p) change (after (adds p) older)

pub deleted_new : (change : Change) (older : List Change) (p : Place) → adds p change ≡ true → deleted_of (change ∷ older) p ≡ 0
deleted_new change older p x = λ i. count_by (deletes_under p) (cond (x i) [] (change ∷ after (adds p) older))

-- ---- children

pub children_pushed : (es : FolderMap) (at : Place) (content : Content) (p : Place)
    → child_count_of (es ++ (at, content) ∷ []) p ≡ child_count_of es p + cond (same_path p (parent_of at)) 1 0
children_pushed es at content p = sum_by_push (λ (e : Entry). cond (same_path p (parent_of e.0)) 1 0) es (at, content)

pub children_rewritten : (es : FolderMap) (at : Place) (content : Content) (p : Place) → child_count_of (rewritten at content es) p ≡ child_count_of es p
children_rewritten [] at content p = refl
children_rewritten (e ∷ es) at content p =
    count_by-cons (λ (o : Entry). same_path p (parent_of o.0)) (cond (same_path at e.0) (e.0, content) e) (rewritten at content es)
    ∙ by (same_path at e.0)
    ∙ ap (λ n. cond (same_path p (parent_of e.0)) 1 0 + n) (children_rewritten es at content p)
    ∙ sym (count_by-cons (λ (o : Entry). same_path p (parent_of o.0)) e es)
  where
    by : (b : Bool) → cond (same_path p (parent_of (cond b (e.0, content) e).0)) 1 0 + child_count_of (rewritten at content es) p
        ≡ cond (same_path p (parent_of e.0)) 1 0 + child_count_of (rewritten at content es) p
    by true = refl
    by false = refl

-- ---- rows and trackers by their parts

pub same_row : (a b : ObjectRow) → a.id ≡ b.id → a.parent ≡ b.parent → a.content ≡ b.content → a.object_update ≡ b.object_update → a.trackers ≡ b.trackers → a ≡ b
same_row a b p q r s t = λ i. record { id = p i; parent = q i; content = r i; object_update = s i; trackers = t i }

pub same_trackers : (a b : Trackers) → a.container_update ≡ b.container_update → a.child_count ≡ b.child_count → a.deleted ≡ b.deleted → a ≡ b
same_trackers a b p q r = λ i. record { container_update = p i; child_count = q i; deleted = r i }

-- what a folder at a place tracks
abbrev pub tracking : ℕ → List Change → FolderMap → Place → Trackers
tracking first changes library p = record {
  container_update = container_update_of first changes p;
  child_count = child_count_of library p;
  deleted = deleted_of changes p;
}

abbrev pub for_folder : Content → Trackers → Option Trackers
for_folder (Folder title) t = Some t
for_folder (Track track) t = None

pub trackers_are : (first : ℕ) (changes : List Change) (library : FolderMap) (p : Place) (content : Content)
    → trackers_of first changes library p content ≡ for_folder content (tracking first changes library p)
trackers_are first changes library p (Folder title) = refl
trackers_are first changes library p (Track track) = refl

pub mapped_for_folder : (content : Content) (f : Trackers → Trackers) (t : Trackers) → for_folder content (f t) ≡ option_map f (for_folder content t)
mapped_for_folder (Folder title) f t = refl
mapped_for_folder (Track track) f t = refl

pub for_same_kind : (a b : Content) (t : Trackers) → same_kind a b ≡ true → for_folder b t ≡ for_folder a t
for_same_kind (Folder x) (Folder y) t h = refl
for_same_kind (Folder x) (Track y) t h = absurd (true≢false (sym h))
for_same_kind (Track x) (Folder y) t h = absurd (true≢false (sym h))
for_same_kind (Track x) (Track y) t h = refl

-- trackers that one more change alters by a function
pub trackers_altered : (first : ℕ) (newer older : List Change) (library before : FolderMap) (p : Place) (content : Content) (f : Trackers → Trackers)
    → tracking first newer library p ≡ f (tracking first older before p)
    → trackers_of first newer library p content ≡ option_map f (trackers_of first older before p content)
trackers_altered first newer older library before p content f e =
    trackers_are first newer library p content
    ∙ ap (for_folder content) e
    ∙ mapped_for_folder content f (tracking first older before p)
    ∙ ap (option_map f) (sym (trackers_are first older before p content))

pub trackers_left : (first : ℕ) (newer older : List Change) (library before : FolderMap) (p : Place) (content : Content)
    → tracking first newer library p ≡ tracking first older before p
    → trackers_of first newer library p content ≡ trackers_of first older before p content
trackers_left first newer older library before p content e =
    trackers_are first newer library p content ∙ ap (for_folder content) e ∙ sym (trackers_are first older before p content)
