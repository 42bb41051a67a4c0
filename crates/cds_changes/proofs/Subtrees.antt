-- The subtree updates of a scan, by the outermost places of its changes.
use Rattle.std.proofs.Common.{◌≡◌, ◌⊎◌, inl, inr, ◌&&◌, ◌||◌, ◌≤◌, ℕ, zero, suc, Bool, true, false, not, List, [], ◌∷◌, length, refl, sym, ap, ◌∙◌, true≢false, arith}
use Rattle.std.specs.List.{list_any}
use Rattle.std.proofs.lemmas.Bool.{false_from_ne_true}
use Rattle.cds_object.specs.Path.{same_path, parent_of}
use Rattle.cds_catalog.specs.History.{place_of}
use Rattle.cds_catalog.specs.declared.change.Change.{Change}
use Rattle.cds_catalog.proofs.Paths.{same_path_is, same_path_itself}
use Rattle.cds_catalog.proofs.StepsPaths.{Place, length-parent}
use Rattle.cds_changes.specs.Events.{is_below, is_alike, gathers, heads, is_within, is_in_subtree}
use Rattle.cds_changes.specs.Subtrees.{some_of, is_over, IsTop, IsClosed}
use Rattle.cds_changes.proofs.Places.{both-parts, both-true, below-from-over, comparable, below-parent, over-parent}

-- ---- some change that passes a test

pub any-same : (f g : Change → Bool) → ((c : Change) → f c ≡ g c) → (scan : List Change) → list_any f scan ≡ list_any g scan
any-same f g same [] = refl
any-same f g same (c ∷ scan) = λ i. same c i || any-same f g same scan i

-- a change that is given by a test
pub some-given : (kind : Change → Bool) (test : Place → Bool) (scan : List Change) (P : Type 0) → some_of kind test scan ≡ true
    → ((p : Place) → some_of kind (same_path p) scan ≡ true → test p ≡ true → P) → P
some-given kind test [] P e k = absurd (true≢false (sym e))
some-given kind test (c ∷ scan) P e k = by (kind c) (test (place_of c)) refl refl e (some-given kind test scan P)
  where
    later : (p : Place) → some_of kind (same_path p) scan ≡ true → some_of kind (same_path p) (c ∷ scan) ≡ true
    later p m = or-right (kind c && same_path p (place_of c)) (some_of kind (same_path p) scan) m
      where
        or-right : (a b : Bool) → b ≡ true → a || b ≡ true
        or-right true b e = refl
        or-right false b e = e

    by : (a b : Bool) → kind c ≡ a → test (place_of c) ≡ b → (a && b) || some_of kind test scan ≡ true
        → (some_of kind test scan ≡ true → ((p : Place) → some_of kind (same_path p) scan ≡ true → test p ≡ true → P) → P) → P
    by true true x y e r = k (place_of c) (λ i. (x i && same_path_itself (place_of c) i) || some_of kind (same_path (place_of c)) scan) y
    by true false x y e r = r e (λ p m t. k p (later p m) t)
    by false b x y e r = r e (λ p m t. k p (later p m) t)

-- what is so of a place is so of some change
pub some-member : (kind : Change → Bool) (test : Place → Bool) (scan : List Change) (p : Place)
    → some_of kind (same_path p) scan ≡ true → test p ≡ true → some_of kind test scan ≡ true
some-member kind test [] p m t = absurd (true≢false (sym m))
some-member kind test (c ∷ scan) p m t = by (kind c) (same_path p (place_of c)) refl m (some-member kind test scan p)
  where
    or-right : (a b : Bool) → b ≡ true → a || b ≡ true
    or-right true b e = refl
    or-right false b e = e

    by : (a b : Bool) → same_path p (place_of c) ≡ b → (a && b) || some_of kind (same_path p) scan ≡ true
        → (some_of kind (same_path p) scan ≡ true → test p ≡ true → some_of kind test scan ≡ true)
        → (a && test (place_of c)) || some_of kind test scan ≡ true
    by true true x e r = λ i. (ap test (sym (same_path_is p (place_of c) x)) ∙ t) i || some_of kind test scan
    by true false x e r = or-right (test (place_of c)) _ (r e t)
    by false b x e r = r e t

-- no change passes a test that none can
pub some-none : (kind : Change → Bool) (test : Place → Bool) (scan : List Change)
    → ((p : Place) → some_of kind (same_path p) scan ≡ true → test p ≡ true → ⊥) → some_of kind test scan ≡ false
some-none kind test scan never = false_from_ne_true (some_of kind test scan) (λ e. some-given kind test scan ⊥ e never)

pub none-some : (kind : Change → Bool) (test : Place → Bool) (scan : List Change) (p : Place)
    → some_of kind test scan ≡ false → some_of kind (same_path p) scan ≡ true → test p ≡ true → ⊥
none-some kind test scan p none m t = true≢false (sym (some-member kind test scan p m t) ∙ none)

-- ---- heads, by places

abbrev pub gathers_at : (Change → Bool) → List Change → Place → Bool
gathers_at kind scan t = some_of kind (is_below t) scan

abbrev pub heads_at : (Change → Bool) → List Change → Place → Bool
heads_at kind scan t = gathers_at kind scan t && not (some_of kind (λ q. gathers_at kind scan q && same_path q (parent_of t)) scan)

not-root : (kind : Change → Bool) (scan : List Change) → IsClosed kind scan → (p : Place) → some_of kind (same_path p) scan ≡ true → same_path p [] ≡ false
not-root kind scan closed p m =
    false_from_ne_true (same_path p [])
    (λ e. true≢false (sym m ∙ ap (λ q. some_of kind (same_path q) scan) (same_path_is p [] e) ∙ closed.rootless))

-- the place of a head is outermost
pub head-top : (kind : Change → Bool) (scan : List Change) → IsClosed kind scan → (h : Place) → some_of kind (same_path h) scan ≡ true
    → heads_at kind scan h ≡ true → IsTop kind scan h
head-top kind scan closed h m e = record {
  member = m;
  outermost = false_from_ne_true (some_of kind (same_path (parent_of h)) scan) (λ p.
      true≢false (sym (some-member kind (λ q. gathers_at kind scan q && same_path q (parent_of h)) scan (parent_of h) p
      (both-true _ _ (some-member kind (is_below (parent_of h)) scan h m (below-parent h (not-root kind scan closed h m))) (same_path_itself (parent_of h))))
      ∙ not-true _ (both-parts _ _ e).1));
}
  where
    not-true : (b : Bool) → not b ≡ true → b ≡ false
    not-true true e = absurd (true≢false (sym e))
    not-true false e = refl

-- an outermost place is a head's exactly where it has some other below it
pub top-heads : (kind : Change → Bool) (scan : List Change) (t : Place) → IsTop kind scan t → heads_at kind scan t ≡ gathers_at kind scan t
top-heads kind scan t top =
    ap (λ (b : Bool). gathers_at kind scan t && not b)
    (some-none kind (λ q. gathers_at kind scan q && same_path q (parent_of t)) scan
    (λ p m e. true≢false (sym (ap (λ q. some_of kind (same_path q) scan) (sym (same_path_is p (parent_of t) (both-parts _ _ e).1)) ∙ m) ∙ top.outermost)))
    ∙ and-true (gathers_at kind scan t)
  where
    and-true : (b : Bool) → b && true ≡ b
    and-true true = refl
    and-true false = refl

-- above one place there is one outermost place
pub one-top : (kind : Change → Bool) (scan : List Change) → IsClosed kind scan → (h t p : Place) → IsTop kind scan h → IsTop kind scan t
    → is_over h p ≡ true → is_over t p ≡ true → h ≡ t
one-top kind scan closed h t p a b over above = by (comparable h t p over above)
  where
    by : (h ≡ t) ⊎ ((is_below h t ≡ true) ⊎ (is_below t h ≡ true)) → h ≡ t
    by (inl e) = e
    by (inr (inl e)) = absurd (true≢false (sym (closed.closed h t a.member b.member e) ∙ b.outermost))
    by (inr (inr e)) = absurd (true≢false (sym (closed.closed t h b.member a.member e) ∙ a.outermost))

-- ---- some other below, by the folders that hold a change

climb : (kind : Change → Bool) (scan : List Change) → IsClosed kind scan → (t : Place) → some_of kind (same_path t) scan ≡ true
    → (n : ℕ) (p : Place) → length p ≤ n → some_of kind (same_path p) scan ≡ true → is_below t p ≡ true
    → some_of kind (λ q. same_path t (parent_of q)) scan ≡ true
climb kind scan closed t top n [] l m e = absurd (none t e)
  where
    none : (t : Place) → is_below t [] ≡ true → ⊥
    none [] e = true≢false (sym e)
    none (k ∷ t) e = true≢false (sym e)
climb kind scan closed t top zero (name ∷ names) l m e = absurd (omega arith)
climb kind scan closed t top (suc n) (name ∷ names) l m e =
    by (same_path t (parent_of (name ∷ names))) refl
    (climb kind scan closed t top n (parent_of (name ∷ names)) (let k = length-parent name names in omega (arith, k, l)))
  where
    by : (b : Bool) → same_path t (parent_of (name ∷ names)) ≡ b
        → (some_of kind (same_path (parent_of (name ∷ names))) scan ≡ true → is_below t (parent_of (name ∷ names)) ≡ true
        → some_of kind (λ q. same_path t (parent_of q)) scan ≡ true)
        → some_of kind (λ q. same_path t (parent_of q)) scan ≡ true
    by true x r = some-member kind (λ q. same_path t (parent_of q)) scan (name ∷ names) m x
    by false x r = r (closed.closed t (name ∷ names) top m e) (below-from-over t (parent_of (name ∷ names)) (over-parent t (name ∷ names) e) x)

both-ways : (a b : Bool) → (a ≡ true → b ≡ true) → (b ≡ true → a ≡ true) → a ≡ b
both-ways true b f g = sym (f refl)
both-ways false true f g = g refl
both-ways false false f g = refl

pub gathers-folders : (kind : Change → Bool) (scan : List Change) → IsClosed kind scan → (t : Place) → some_of kind (same_path t) scan ≡ true
    → gathers_at kind scan t ≡ some_of kind (λ q. same_path t (parent_of q)) scan
gathers-folders kind scan closed t top =
    both-ways _ _
    (λ e. some-given kind (is_below t) scan (some_of kind (λ q. same_path t (parent_of q)) scan ≡ true) e
    (λ p m b. climb kind scan closed t top (length p) p (omega arith) m b))
    (λ e. some-given kind (λ q. same_path t (parent_of q)) scan (gathers_at kind scan t ≡ true) e
    (λ p m b. some-member kind (is_below t) scan p m
    (ap (λ q. is_below q p) (same_path_is t (parent_of p) b) ∙ below-parent p (not-root kind scan closed p m))))

-- ---- by changes

-- changes of a kind are alike, and no others are alike them
pub record IsKind (kind : Change → Bool) : Type 0 where
  pub first : (c o : Change) → kind c ≡ true → is_alike c o ≡ kind o
  pub second : (c o : Change) → kind c ≡ true → is_alike o c ≡ kind o

pub gathers-is : (kind : Change → Bool) → IsKind kind → (scan : List Change) (c : Change) → kind c ≡ true → gathers scan c ≡ gathers_at kind scan (place_of c)
gathers-is kind is scan c k = any-same _ _ (λ o. ap (λ (b : Bool). b && is_below (place_of c) (place_of o)) (is.first c o k)) scan

guarded : (a x y z : Bool) → (a ≡ true → x ≡ y) → a && x && z ≡ a && (y && z)
guarded true x y z e = λ i. e refl i && z
guarded false x y z e = refl

pub heads-is : (kind : Change → Bool) → IsKind kind → (scan : List Change) (c : Change) → kind c ≡ true → heads scan c ≡ heads_at kind scan (place_of c)
heads-is kind is scan c k = λ i. gathers-is kind is scan c k i
    && not (any-same (λ o. is_alike c o && gathers scan o && same_path (place_of o) (parent_of (place_of c)))
    (λ o. kind o && (gathers_at kind scan (place_of o) && same_path (place_of o) (parent_of (place_of c))))
    (λ o. ap (λ (b : Bool). b && gathers scan o && same_path (place_of o) (parent_of (place_of c))) (is.first c o k)
    ∙ guarded (kind o) (gathers scan o) (gathers_at kind scan (place_of o)) (same_path (place_of o) (parent_of (place_of c))) (gathers-is kind is scan o)) scan i)

swap-guard : (x a y : Bool) → (a ≡ true → x ≡ y) → (z : Bool) → x && (a && z) ≡ a && (y && z)
swap-guard x true y e z = λ i. e refl i && z
swap-guard true false y e z = refl
swap-guard false false y e z = refl

-- a change of a kind is in a subtree exactly where its outermost place has some other below it
pub in-subtree : (kind : Change → Bool) → IsKind kind → (scan : List Change) → IsClosed kind scan → (c : Change) (t : Place) → kind c ≡ true
    → IsTop kind scan t → is_over t (place_of c) ≡ true → is_in_subtree scan c ≡ gathers_at kind scan t
in-subtree kind is scan closed c t k top over =
    any-same (λ head. heads scan head && is_within head c) (λ head. kind head && (heads_at kind scan (place_of head) && is_over (place_of head) (place_of c)))
    (λ head. ap (λ (b : Bool). heads scan head && (b && is_over (place_of head) (place_of c))) (is.second c head k)
    ∙ swap-guard (heads scan head) (kind head) (heads_at kind scan (place_of head)) (heads-is kind is scan head) (is_over (place_of head) (place_of c))) scan
    ∙ both-ways (some_of kind test scan) (gathers_at kind scan t)
    (λ e. some-given kind test scan (gathers_at kind scan t ≡ true) e (λ p m b.
    let parts = both-parts _ _ b in
    let h = head-top kind scan closed p m parts.0 in
    ap (gathers_at kind scan) (one-top kind scan closed t p (place_of c) top h over parts.1) ∙ sym (top-heads kind scan p h) ∙ parts.0))
    (λ e. some-member kind test scan t top.member (both-true _ _ (top-heads kind scan t top ∙ e) over))
  where
    test : Place → Bool
    test q = heads_at kind scan q && is_over q (place_of c)
