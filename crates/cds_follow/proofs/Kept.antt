-- What a change leaves of what it does not set, and what later changes leave of the objects of earlier ones.
use Rattle.std.proofs.Common.{◌≡◌, ◌+◌, ◌≤◌, ℕ, Bool, true, false, cond, nat_eq, List, [], ◌∷◌, ◌++◌, length, Option, Some, None, refl, sym, ap, ◌∙◌, arith, true≢false, length-append}
use Rattle.std.specs.List.{count_by}
use Rattle.cds_object.specs.Path.{same_path, parent_of}
use Rattle.cds_object.specs.Object.{is_folder}
use Rattle.cds_object.specs.declared.content.Content.{Content}
use Rattle.cds_catalog.specs.History.{is_addition, adds, sets, up_to}
use Rattle.cds_catalog.specs.Catalog.{id_of, parent_id_of, root_entry}
use Rattle.cds_catalog.specs.Replay.{stands, IsLegal}
use Rattle.cds_catalog.specs.declared.change.Change.{Change}
use Rattle.cds_catalog.specs.declared.change.Change.TheVariants.{Deletion, Addition, Modification}
use Rattle.cds_catalog.proofs.Paths.{same_path_is}
use Rattle.cds_catalog.proofs.StepsPaths.{Place, swapped}
use Rattle.cds_catalog.proofs.StepsFind.{Entry, find_in, none≢some, found_holds, count_by-cons}
use Rattle.cds_catalog.proofs.StepsLive.{shown, find_live, stands_named, parent_not_added}
use Rattle.cds_catalog.proofs.StepsIds.{ids_rise, id_new}
use Rattle.cds_catalog.proofs.StepsRow.{id_left, parent_left}
use Rattle.cds_changes.specs.Events.{event_of}
use Rattle.cds_follow.specs.Copy.{Changes, deletes}
use Rattle.cds_follow.proofs.Told.{kinds, numbers-tell, shown-is}

-- what is shown is the root and what stands
shown-by : (changes : List Change) → IsLegal changes → (p : Place) → find_in (shown changes) p ≡ cond (same_path p []) (Some root_entry.1) (stands changes p)
shown-by changes legal p = ap (λ (o : Option Content). cond (same_path p []) (Some root_entry.1) o) (find_live changes legal p)

-- a change does not delete the object at a place
abbrev pub Deletes-not : Change → List Change → Place → Type 0
Deletes-not (Deletion at) older p = nat_eq (id_of older at) (id_of older p) ≡ false
Deletes-not (Addition at added) older p = Unit {0}
Deletes-not (Modification at written) older p = Unit {0}

-- what was shown before a change that does not set it
pub record Kept (change : Change) (older : List Change) (p : Place) (content : Content) : Type 0 where
  pub before : find_in (shown older) p ≡ Some content
  pub id : id_of (change ∷ older) p ≡ id_of older p
  pub set-by : up_to (sets p) (change ∷ older) ≡ up_to (sets p) older
  pub stays : Deletes-not change older p

-- that it does not delete it is what its event tells
pub not-deleted : (number : ℕ) (change : Change) (older : List Change) (p : Place) (st : Bool) → Deletes-not change older p
    → deletes (id_of older p) (Changes (event_of number older change st)) ≡ false
not-deleted number (Deletion at) older p st h = h
not-deleted number (Addition at added) older p st h = refl
not-deleted number (Modification at written) older p st h = refl

pub kept-one : (change : Change) (older : List Change) → IsLegal (change ∷ older) → (p : Place) (content : Content)
    → find_in (shown (change ∷ older)) p ≡ Some content → sets p change ≡ false → Kept change older p content
kept-one (Deletion at) older legal p content f x = record {
  before = shown-by older legal.0 p ∙ both.1;
  id = refl;
  set-by = refl;
  stays = found_holds (λ (e : Entry). nat_eq (id_of older e.0) (id_of older p) ≡ same_path p e.0) (shown older) at legal.1.0
      (numbers-tell (id_of older) (shown older) p content (ids_rise older legal.0) (shown-by older legal.0 p ∙ both.1))
      (shown-is 0 older legal.0 at legal.1.0 legal.1.1) ∙ both.0;
}
  where
    by : (b c : Bool) → same_path p [] ≡ b → same_path p at ≡ c → cond b (Some root_entry.1) (cond c None (stands older p)) ≡ Some content
        → (c ≡ false) × (cond b (Some root_entry.1) (stands older p) ≡ Some content)
    by true true r d k =
        absurd (true≢false (sym d ∙ ap (λ (q : Place). same_path q at) (same_path_is p [] r) ∙ swapped at [] false (stands_named older at legal.1.0 legal.0 legal.1.1)))
    by true false r d k = (refl, k)
    by false true r d k = none≢some None content refl k
    by false false r d k = (refl, k)

    both : (same_path p at ≡ false) × (cond (same_path p []) (Some root_entry.1) (stands older p) ≡ Some content)
    both = by (same_path p []) (same_path p at) refl refl (sym (shown-by (Deletion at ∷ older) legal p) ∙ f)
kept-one (Addition at added) older legal p content f x = record {
  before = shown-by older legal.0 p
      ∙ (λ i. cond (same_path p []) (Some root_entry.1) (cond (sym x i) (Some added) (stands older p)))
      ∙ sym (shown-by (Addition at added ∷ older) legal p) ∙ f;
  id = id_left (Addition at added) older p x;
  set-by = (λ i. cond (x i) (Addition at added ∷ older) (up_to (sets p) older));
  stays = tt;
}
kept-one (Modification at written) older legal p content f x = record {
  before = shown-by older legal.0 p
      ∙ (λ i. cond (same_path p []) (Some root_entry.1) (cond (sym x i) (Some written) (stands older p)))
      ∙ sym (shown-by (Modification at written ∷ older) legal p) ∙ f;
  id = refl;
  set-by = (λ i. cond (x i) (Modification at written ∷ older) (up_to (sets p) older));
  stays = tt;
}

-- ---- what no later change set

pub settled-place : (newer older : List Change) → IsLegal (newer ++ older) → (p : Place) (content : Content) → find_in (shown (newer ++ older)) p ≡ Some content
    → length (up_to (sets p) (newer ++ older)) ≤ length older
    → (find_in (shown older) p ≡ Some content) × (id_of (newer ++ older) p ≡ id_of older p) × (up_to (sets p) (newer ++ older) ≡ up_to (sets p) older)
settled-place [] older legal p content f l = (f, refl, refl)
settled-place (change ∷ newer) older legal p content f l = by (sets p change) refl l (settled-place newer older legal.0 p content)
  where
    by : (b : Bool) → sets p change ≡ b → length (cond b (change ∷ newer ++ older) (up_to (sets p) (newer ++ older))) ≤ length older
        → (find_in (shown (newer ++ older)) p ≡ Some content → length (up_to (sets p) (newer ++ older)) ≤ length older
        → (find_in (shown older) p ≡ Some content) × (id_of (newer ++ older) p ≡ id_of older p) × (up_to (sets p) (newer ++ older) ≡ up_to (sets p) older))
        → (find_in (shown older) p ≡ Some content) × (id_of (change ∷ newer ++ older) p ≡ id_of older p) × (up_to (sets p) (change ∷ newer ++ older) ≡ up_to (sets p) older)
    by true x l r =
        let sum = length-append newer older in
        let no : ⊥ = omega (arith, l, sum) in
        absurd no
    by false x l r =
        let kept = kept-one change (newer ++ older) legal p content f x in
        let rest = r kept.before l in
        (rest.0, kept.id ∙ rest.1, kept.set-by ∙ rest.2)

-- ---- what is of one id

drawn-more : (newer older : List Change) → count_by is_addition older ≤ count_by is_addition (newer ++ older)
drawn-more [] older = omega arith
drawn-more (change ∷ newer) older =
    let one = count_by-cons is_addition change (newer ++ older) in
    let rest = drawn-more newer older in
    omega (arith, one, rest)

-- what stood before a change that does not add it, of the same kind and under the same parent
before-one : (change : Change) (older : List Change) → IsLegal (change ∷ older) → (p : Place) (content : Content)
    → find_in (shown (change ∷ older)) p ≡ Some content → adds p change ≡ false
    → (said : Content) × (find_in (shown older) p ≡ Some said) × (is_folder said ≡ is_folder content) × (id_of (change ∷ older) p ≡ id_of older p)
    × (parent_id_of (change ∷ older) p ≡ parent_id_of older p)
before-one (Deletion at) older legal p content f x =
    let kept = kept-one (Deletion at) older legal p content f refl in
    (content, kept.before, refl, kept.id, parent_left (Deletion at) older p refl)
before-one (Addition at added) older legal p content f x =
    let kept = kept-one (Addition at added) older legal p content f x in
    (content, kept.before, refl, kept.id, parent_left (Addition at added) older p (by (same_path p []) refl (sym (shown-by older legal.0 p) ∙ kept.before)))
  where
    by : (b : Bool) → same_path p [] ≡ b → cond b (Some root_entry.1) (stands older p) ≡ Some content → same_path (parent_of p) at ≡ false
    by true r k = ap (λ (q : Place). same_path (parent_of q) at) (same_path_is p [] r) ∙ swapped at [] false legal.1.0
    by false r k = parent_not_added older at added legal p content k
before-one (Modification at written) older legal p content f x = by (same_path p at) refl
  where
    by : (b : Bool) → same_path p at ≡ b
        → (said : Content) × (find_in (shown older) p ≡ Some said) × (is_folder said ≡ is_folder content) × (id_of older p ≡ id_of older p)
        × (parent_id_of (Modification at written ∷ older) p ≡ parent_id_of older p)
    by true d =
        let is : p ≡ at = same_path_is p at d in
        let here : stands older p ≡ Some legal.1.0 = ap (stands older) is ∙ legal.1.1 in
        let named : same_path p [] ≡ false = stands_named older p legal.1.0 legal.0 here in
        let now : Some written ≡ Some content =
        (λ i. cond (sym named i) (Some root_entry.1) (cond (sym d i) (Some written) (stands older p)))
        ∙ sym (shown-by (Modification at written ∷ older) legal p) ∙ f in
        let same : written ≡ content = cc in
        (legal.1.0, shown-is 0 older legal.0 p legal.1.0 here, kinds legal.1.0 written legal.1.2 ∙ ap is_folder same, refl, parent_left (Modification at written) older p refl)
    by false d =
        let kept = kept-one (Modification at written) older legal p content f d in
        (content, kept.before, refl, refl, parent_left (Modification at written) older p refl)

added-id : (change : Change) (older : List Change) (p : Place) → adds p change ≡ true → id_of (change ∷ older) p ≡ 1 + count_by is_addition older
added-id (Deletion at) older p x = absurd (true≢false (sym x))
added-id (Addition at added) older p x = id_new at added older p x
added-id (Modification at written) older p x = absurd (true≢false (sym x))

-- what has an id that was drawn before stood then, of the same kind and under the same parent
pub of-one-id : (newer older : List Change) → IsLegal (newer ++ older) → (p : Place) (content : Content) → find_in (shown (newer ++ older)) p ≡ Some content
    → id_of (newer ++ older) p ≤ count_by is_addition older
    → (said : Content) × (find_in (shown older) p ≡ Some said) × (is_folder said ≡ is_folder content) × (id_of (newer ++ older) p ≡ id_of older p)
    × (parent_id_of (newer ++ older) p ≡ parent_id_of older p)
of-one-id [] older legal p content f l = (content, f, refl, refl, refl)
of-one-id (change ∷ newer) older legal p content f l = by (adds p change) refl (λ said g m. of-one-id newer older legal.0 p said g m)
  where
    by : (b : Bool) → adds p change ≡ b
        → ((said : Content) → find_in (shown (newer ++ older)) p ≡ Some said → id_of (newer ++ older) p ≤ count_by is_addition older
        → (c : Content) × (find_in (shown older) p ≡ Some c) × (is_folder c ≡ is_folder said) × (id_of (newer ++ older) p ≡ id_of older p)
        × (parent_id_of (newer ++ older) p ≡ parent_id_of older p))
        → (c : Content) × (find_in (shown older) p ≡ Some c) × (is_folder c ≡ is_folder content) × (id_of (change ∷ newer ++ older) p ≡ id_of older p)
        × (parent_id_of (change ∷ newer ++ older) p ≡ parent_id_of older p)
    by true x r =
        let id = added-id change (newer ++ older) p x in
        let more = drawn-more newer older in
        let no : ⊥ = omega (arith, l, id, more) in
        absurd no
    by false x r =
        let one = before-one change (newer ++ older) legal p content f x in
        let same = one.3 in
        let rest = r one.0 one.1 (omega (arith, l, same)) in
        (rest.0, rest.1, rest.2 ∙ one.2, one.3 ∙ rest.3, one.4 ∙ rest.4)
