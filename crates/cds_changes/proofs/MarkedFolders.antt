-- The marks of subtree updates, by the folders that have something below them among the changes of their kind.
use Rattle.std.proofs.Common.{◌≡◌, ◌⊎◌, inl, inr, ◌&&◌, ◌||◌, ◌≤◌, ℕ, zero, suc, Bool, true, false, not, cond, map, filter, List, [], ◌∷◌, ◌++◌, length, refl, sym, ap, ◌∙◌, subst, true≢false, append_assoc, arith}
use Rattle.std.specs.List.{AllByRecursion, list_any}
use Rattle.cds_object.specs.Path.{same_path, parent_of}
use Rattle.cds_object.specs.declared.content.Content.{Content}
use Rattle.cds_object.specs.declared.event.Event.{Event}
use Rattle.cds_object.specs.declared.event.Event.TheVariants.{StDone}
use Rattle.cds_catalog.specs.Library.{found}
use Rattle.cds_catalog.specs.History.{place_of, is_addition, is_deletion}
use Rattle.cds_catalog.specs.Catalog.{id_of}
use Rattle.cds_catalog.specs.declared.change.Change.{Change}
use Rattle.cds_catalog.specs.declared.change.Change.TheVariants.{Deletion, Addition, Modification}
use Rattle.cds_catalog.proofs.Paths.{same_path_is, same_path_itself}
use Rattle.cds_catalog.proofs.StepsPaths.{Place, length-parent}
use Rattle.cds_changes.specs.Events.{is_below, is_alike, gathers, heads, is_within, is_in_subtree, is_last_within, heads_done, done_events}
use Rattle.cds_changes.specs.Subtrees.{some_of, is_over, IsTop, IsClosed, IsOrderly}
use Rattle.cds_changes.specs.MarkLaws.{lies_under_folder, marks_lie_under_folders, ends_are_told_once}
use Rattle.cds_changes.proofs.Places.{both-parts, both-true, over-itself, over-from-below, below-from-over, below-over, comparable, below-parent}
use Rattle.cds_changes.proofs.Subtrees.{any-same, some-given, some-member, gathers_at, heads_at, head-top, top-heads, IsKind, gathers-is, heads-is, in-subtree}
use Rattle.cds_changes.proofs.Marks.{additions-alike, deletions-alike, some-append}
use Rattle.cds_changes.proofs.Done.{AreApart, deletions-apart, additions-apart, last-outside, heads-done}
use Rattle.cds_changes.proofs.Orderly.{found-orderly}

-- ---- the outermost place over another

over-below : (t q p : Place) → is_over t q ≡ true → is_below q p ≡ true → is_over t p ≡ true
over-below t q p over below = by (same_path t q) refl
  where
    by : (b : Bool) → same_path t q ≡ b → is_over t p ≡ true
    by true x = over-from-below t p (ap (λ r. is_below r p) (same_path_is t q x) ∙ below)
    by false x = over-from-below t p (below-over t q p (below-from-over t q over x) (over-from-below q p below))

record HasOver (kind : Change → Bool) (scan : List Change) (p : Place) : Type 0 where
  top : Place
  is_top : IsTop kind scan top
  over : is_over top p ≡ true

-- above each place of a change of a kind is an outermost one
top-over : (kind : Change → Bool) (scan : List Change) → IsClosed kind scan → (n : ℕ) (p : Place) → length p ≤ n → some_of kind (same_path p) scan ≡ true → HasOver kind scan p
top-over kind scan closed n [] l m = absurd (true≢false (sym m ∙ closed.rootless))
top-over kind scan closed zero (name ∷ names) l m = absurd (omega arith)
top-over kind scan closed (suc n) (name ∷ names) l m =
    by (some_of kind (same_path (parent_of (name ∷ names))) scan) refl
    (top-over kind scan closed n (parent_of (name ∷ names)) (let k = length-parent name names in omega (arith, k, l)))
  where
    by : (b : Bool) → some_of kind (same_path (parent_of (name ∷ names))) scan ≡ b
        → (some_of kind (same_path (parent_of (name ∷ names))) scan ≡ true → HasOver kind scan (parent_of (name ∷ names))) → HasOver kind scan (name ∷ names)
    by true x r = let h = r x in record {
      top = h.top;
      is_top = h.is_top;
      over = over-below h.top (parent_of (name ∷ names)) (name ∷ names) h.over (below-parent (name ∷ names) refl);
    }
    by false x r = record { top = name ∷ names; is_top = record { member = m; outermost = x }; over = over-itself (name ∷ names) }

-- ---- marked exactly under a folder

both-ways : (a b : Bool) → (a ≡ true → b ≡ true) → (b ≡ true → a ≡ true) → a ≡ b
both-ways true b f g = sym (f refl)
both-ways false true f g = g refl
both-ways false false f g = refl

swap-guard : (x a y : Bool) → (a ≡ true → x ≡ y) → (z : Bool) → x && (a && z) ≡ a && (y && z)
swap-guard x true y e z = λ i. e refl i && z
swap-guard true false y e z = refl
swap-guard false false y e z = refl

-- a folder that has something below it, over a place: so has the outermost one
under-folder : (kind : Change → Bool) → IsKind kind → (scan : List Change) → IsClosed kind scan → (c : Change) (t : Place) → kind c ≡ true
    → IsTop kind scan t → is_over t (place_of c) ≡ true → lies_under_folder scan c ≡ gathers_at kind scan t
under-folder kind is scan closed c t k top over =
    any-same (λ folder. gathers scan folder && is_within folder c) (λ folder. kind folder && (gathers_at kind scan (place_of folder) && is_over (place_of folder) (place_of c)))
    (λ folder. ap (λ (b : Bool). gathers scan folder && (b && is_over (place_of folder) (place_of c))) (is.second c folder k)
    ∙ swap-guard (gathers scan folder) (kind folder) (gathers_at kind scan (place_of folder)) (gathers-is kind is scan folder) (is_over (place_of folder) (place_of c))) scan
    ∙ both-ways (some_of kind test scan) (gathers_at kind scan t)
    (λ e. some-given kind test scan (gathers_at kind scan t ≡ true) e (λ p m b.
    let parts = both-parts _ _ b in by p m parts.0 (comparable t p (place_of c) over parts.1)))
    (λ e. some-member kind test scan t top.member (both-true _ _ e over))
  where
    test : Place → Bool
    test q = gathers_at kind scan q && is_over q (place_of c)

    by : (p : Place) → some_of kind (same_path p) scan ≡ true → gathers_at kind scan p ≡ true → (t ≡ p) ⊎ ((is_below t p ≡ true) ⊎ (is_below p t ≡ true)) → gathers_at kind scan t ≡ true
    by p m g (inl e) = ap (gathers_at kind scan) e ∙ g
    by p m g (inr (inl e)) = some-member kind (is_below t) scan p m e
    by p m g (inr (inr e)) = absurd (true≢false (sym (closed.closed p t m top.member e) ∙ top.outermost))

marked-under : (kind : Change → Bool) → IsKind kind → (scan : List Change) → IsClosed kind scan → (c : Change) → kind c ≡ true
    → some_of kind (same_path (place_of c)) scan ≡ true → is_in_subtree scan c ≡ lies_under_folder scan c
marked-under kind is scan closed c k m =
    let h = top-over kind scan closed (length (place_of c)) (place_of c) (omega arith) m in
    in-subtree kind is scan closed c h.top k h.is_top h.over ∙ sym (under-folder kind is scan closed c h.top k h.is_top h.over)

nothing-alike : (test : Change → Bool) (scan : List Change) (path : Place) (content : Content)
    → list_any (λ folder. test folder && is_within folder (Modification path content)) scan ≡ false
nothing-alike test [] path content = refl
nothing-alike test (c ∷ scan) path content = by c (test c) (nothing-alike test scan path content)
  where
    by : (c : Change) (b : Bool) → list_any (λ folder. test folder && is_within folder (Modification path content)) scan ≡ false
        → (b && is_within c (Modification path content)) || list_any (λ folder. test folder && is_within folder (Modification path content)) scan ≡ false
    by (Deletion at) true r = r
    by (Deletion at) false r = r
    by (Addition at said) true r = r
    by (Addition at said) false r = r
    by (Modification at said) true r = r
    by (Modification at said) false r = r

-- ---- each change of a scan

member : (kind : Change → Bool) (later earlier : List Change) (c : Change) → kind c ≡ true → some_of kind (same_path (place_of c)) (later ++ c ∷ earlier) ≡ true
member kind later earlier c k =
    some-append kind (same_path (place_of c)) later (c ∷ earlier)
    ∙ ap (λ (b : Bool). some_of kind (same_path (place_of c)) later || (b || some_of kind (same_path (place_of c)) earlier)) (both-true _ _ k (same_path_itself (place_of c)))
    ∙ or-true (some_of kind (same_path (place_of c)) later)
  where
    or-true : (b : Bool) → b || true ≡ true
    or-true true = refl
    or-true false = refl

each-parted : (P : Change → Type 0) (whole later part : List Change) → whole ≡ later ++ part
    → ((before after : List Change) (c : Change) → whole ≡ before ++ c ∷ after → P c) → AllByRecursion P part
each-parted P whole later [] e one = tt
each-parted P whole later (c ∷ part) e one =
    (one later part c e, each-parted P whole (later ++ c ∷ []) part (e ∙ sym (append_assoc later (c ∷ []) part)) one)

marked : (scan : List Change) → IsOrderly scan → (later earlier : List Change) (c : Change) → scan ≡ later ++ c ∷ earlier → is_in_subtree scan c ≡ lies_under_folder scan c
marked scan orderly later earlier (Deletion path) e =
    marked-under is_deletion deletions-alike scan orderly.gone (Deletion path) refl
    (ap (some_of is_deletion (same_path path)) e ∙ member is_deletion later earlier (Deletion path) refl)
marked scan orderly later earlier (Addition path content) e =
    marked-under is_addition additions-alike scan orderly.come (Addition path content) refl
    (ap (some_of is_addition (same_path path)) e ∙ member is_addition later earlier (Addition path content) refl)
marked scan orderly later earlier (Modification path content) e =
    nothing-alike (heads scan) scan path content ∙ sym (nothing-alike (gathers scan) scan path content)

pub marks_lie_under_folders-proof : marks_lie_under_folders
marks_lie_under_folders-proof old new is_old is_new =
    let orderly = found-orderly old new is_old is_new in
    each-parted (λ change. is_in_subtree (found old new) change ≡ lies_under_folder (found old new) change) (found old new) [] (found old new) refl
    (marked (found old new) orderly)

-- ---- where the end is told

-- the events of ends, by the places of the heads
done-by-places : (number : ℕ) (changes ends : List Change) → done_events number changes ends ≡ map (λ p. StDone (id_of changes p) number) (map place_of ends)
done-by-places number changes [] = refl
done-by-places number changes (head ∷ ends) = ap (λ (l : List Event). StDone (id_of changes (place_of head)) number ∷ l) (done-by-places number changes ends)

filtered-none : (f g : Change → Bool) → ((c : Change) → f c ≡ false → g c ≡ false) → (xs : List Change) → list_any f xs ≡ false → filter g xs ≡ []
filtered-none f g less [] e = refl
filtered-none f g less (x ∷ xs) e = by (f x) (g x) (less x) e (filtered-none f g less xs)
  where
    by : (a b : Bool) → (a ≡ false → b ≡ false) → a || list_any f xs ≡ false → (list_any f xs ≡ false → filter g xs ≡ []) → cond b (x ∷ filter g xs) (filter g xs) ≡ []
    by true b h e r = absurd (true≢false e)
    by false true h e r = absurd (true≢false (h refl))
    by false false h e r = r e

none-done : (scan : List Change) (c : Change) → is_in_subtree scan c ≡ false → heads_done scan c ≡ []
none-done scan c out =
    filtered-none (λ head. heads scan head && is_within head c) (λ head. heads scan head && is_last_within scan head c)
    (λ head e. by head (heads scan head) (is_within head c) refl e) scan out
  where
    by : (head : Change) (a b : Bool) → is_within head c ≡ b → a && b ≡ false → a && is_last_within scan head c ≡ false
    by head true true x e = absurd (true≢false e)
    by head true false x e = last-outside scan head c x
    by head false b x e = refl

turned : (b : Bool) (t : Place) → cond (not b) (t ∷ []) [] ≡ cond b [] (t ∷ [])
turned true t = refl
turned false t = refl

-- the end of a head's subtree update, behind a change that belongs to it
one-done : (kind : Change → Bool) → IsKind kind → (scan later earlier : List Change) (c head : Change) → scan ≡ later ++ c ∷ earlier → IsClosed kind scan → AreApart kind scan
    → kind c ≡ true → kind head ≡ true → some_of kind (same_path (place_of head)) scan ≡ true → heads scan head ≡ true → is_within head c ≡ true
    → map place_of (heads_done scan c) ≡ cond (list_any (is_within head) later) [] (place_of head ∷ [])
one-done kind is scan later earlier c head parted closed apart k l m h within =
    ap (λ (s : List Change). map place_of (heads_done s c)) parted
    ∙ heads-done kind is later earlier c t (subst (IsClosed kind) parted closed) (subst (AreApart kind) parted apart) k (subst (λ s. IsTop kind s t) parted top) over
    ∙ ap (λ (s : List Change). cond (gathers_at kind s t && not (some_of kind (is_over t) later)) (t ∷ []) []) (sym parted)
    ∙ ap (λ (b : Bool). cond (b && not (some_of kind (is_over t) later)) (t ∷ []) []) (sym (top-heads kind scan t top) ∙ at_head)
    ∙ turned (some_of kind (is_over t) later) t
    ∙ ap (λ (b : Bool). cond b [] (t ∷ []))
    (any-same (λ o. kind o && is_over t (place_of o)) (is_within head) (λ o. sym (ap (λ (b : Bool). b && is_over t (place_of o)) (is.first head o l))) later)
  where
    t : Place
    t = place_of head

    at_head : heads_at kind scan t ≡ true
    at_head = sym (heads-is kind is scan head l) ∙ h

    top : IsTop kind scan t
    top = head-top kind scan closed t m at_head

    over : is_over t (place_of c) ≡ true
    over = (both-parts (is_alike head c) (is_over (place_of head) (place_of c)) within).1

told-one : (scan later earlier : List Change) (c : Change) → IsOrderly scan → scan ≡ later ++ c ∷ earlier → (before after : List Change) (head : Change) → scan ≡ before ++ head ∷ after
    → heads scan head ≡ true → is_within head c ≡ true → map place_of (heads_done scan c) ≡ cond (list_any (is_within head) later) [] (place_of head ∷ [])
told-one scan later earlier (Deletion path) orderly parted before after (Deletion at) there h within =
    one-done is_deletion deletions-alike scan later earlier (Deletion path) (Deletion at) parted orderly.gone (deletions-apart scan orderly.in_order) refl refl
    (ap (some_of is_deletion (same_path at)) there ∙ member is_deletion before after (Deletion at) refl) h within
told-one scan later earlier (Addition path content) orderly parted before after (Addition at said) there h within =
    one-done is_addition additions-alike scan later earlier (Addition path content) (Addition at said) parted orderly.come (additions-apart scan orderly.in_order) refl refl
    (ap (some_of is_addition (same_path at)) there ∙ member is_addition before after (Addition at said) refl) h within
told-one scan later earlier (Deletion path) orderly parted before after (Addition at said) there h within = absurd (true≢false (sym within))
told-one scan later earlier (Deletion path) orderly parted before after (Modification at said) there h within = absurd (true≢false (sym within))
told-one scan later earlier (Addition path content) orderly parted before after (Deletion at) there h within = absurd (true≢false (sym within))
told-one scan later earlier (Addition path content) orderly parted before after (Modification at said) there h within = absurd (true≢false (sym within))
told-one scan later earlier (Modification path content) orderly parted before after (Deletion at) there h within = absurd (true≢false (sym within))
told-one scan later earlier (Modification path content) orderly parted before after (Addition at said) there h within = absurd (true≢false (sym within))
told-one scan later earlier (Modification path content) orderly parted before after (Modification at said) there h within = absurd (true≢false (sym within))

as-told : (b : Bool) (number : ℕ) (changes : List Change) (t : Place)
    → map (λ p. StDone (id_of changes p) number) (cond b [] (t ∷ [])) ≡ cond b [] (StDone (id_of changes t) number ∷ [])
as-told true number changes t = refl
as-told false number changes t = refl

pub ends_are_told_once-proof : ends_are_told_once
ends_are_told_once-proof old new is_old is_new later earlier change parted =
    let scan : List Change = found old new in
    let orderly = found-orderly old new is_old is_new in
    record {
      none = λ out number changes. ap (done_events number changes) (none-done scan change out);
      one = each-parted (λ head. heads scan head ≡ true → is_within head change ≡ true → (number : ℕ) (changes : List Change) →
          done_events number changes (heads_done scan change)
          ≡ cond (list_any (is_within head) later) [] (StDone (id_of changes (place_of head)) number ∷ [])) scan [] scan refl
          (λ before after head there h within number changes.
          done-by-places number changes (heads_done scan change)
          ∙ ap (map (λ p. StDone (id_of changes p) number)) (told-one scan later earlier change orderly parted before after head there h within)
          ∙ as-told (list_any (is_within head) later) number changes (place_of head));
    }
