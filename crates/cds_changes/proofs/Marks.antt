-- What is said of a change of a scan, by its outermost place and the newer changes below that.
use Rattle.std.proofs.Common.{◌≡◌, ◌&&◌, ◌||◌, Bool, true, false, not, cond, List, [], ◌∷◌, ◌++◌, map, filter, reverse, Option, Some, None, MatchOption, Less, refl, sym, ap, ◌∙◌, true≢false}
use Rattle.std.specs.List.{AllByRecursion, list_any}
use mathlib.Core.List.{reverse-cons}
use Rattle.std.proofs.lemmas.Bool.{false_from_ne_true}
use Rattle.std.proofs.lemmas.List.Folds.{list_any-append}
use Rattle.cds_object.specs.Path.{path_cmp, same_path}
use Rattle.cds_object.specs.declared.content.Content.{Content}
use Rattle.cds_catalog.specs.History.{place_of, is_addition, is_deletion}
use Rattle.cds_catalog.specs.Replay.{stands}
use Rattle.cds_catalog.specs.declared.change.Change.{Change}
use Rattle.cds_catalog.specs.declared.change.Change.TheVariants.{Deletion, Addition, Modification}
use Rattle.std.specs.Option.{option_to_list}
use Rattle.cds_catalog.proofs.Paths.{same_path_is, same_path_itself, same_path_Less, paths_total}
use Rattle.cds_catalog.proofs.StepsPaths.{Place}
use Rattle.cds_changes.specs.Events.{is_below, is_alike, is_within, is_last_within, heads}
use Rattle.cds_changes.specs.Subtrees.{some_of, is_over, IsTop, InOrder, IsOrderly, StoodAt, IsMarked}
use Rattle.cds_changes.proofs.Places.{over-itself, over-from-below, below-from-over, below-before, not-below-itself}
use Rattle.cds_changes.proofs.Subtrees.{IsKind, gathers_at, some-given, none-some, in-subtree}
use Rattle.cds_changes.proofs.Done.{deletions-apart, additions-apart, heads-done, last-outside}

pub additions-alike : IsKind is_addition
additions-alike = record { first = one; second = other }
  where
    one : (c o : Change) → is_addition c ≡ true → is_alike c o ≡ is_addition o
    one (Addition path content) (Deletion at) k = refl
    one (Addition path content) (Addition at said) k = refl
    one (Addition path content) (Modification at said) k = refl
    one (Deletion path) o k = absurd (true≢false (sym k))
    one (Modification path content) o k = absurd (true≢false (sym k))

    other : (c o : Change) → is_addition c ≡ true → is_alike o c ≡ is_addition o
    other (Addition path content) (Deletion at) k = refl
    other (Addition path content) (Addition at said) k = refl
    other (Addition path content) (Modification at said) k = refl
    other (Deletion path) o k = absurd (true≢false (sym k))
    other (Modification path content) o k = absurd (true≢false (sym k))

pub deletions-alike : IsKind is_deletion
deletions-alike = record { first = one; second = other }
  where
    one : (c o : Change) → is_deletion c ≡ true → is_alike c o ≡ is_deletion o
    one (Deletion path) (Deletion at) k = refl
    one (Deletion path) (Addition at said) k = refl
    one (Deletion path) (Modification at said) k = refl
    one (Addition path content) o k = absurd (true≢false (sym k))
    one (Modification path content) o k = absurd (true≢false (sym k))

    other : (c o : Change) → is_deletion c ≡ true → is_alike o c ≡ is_deletion o
    other (Deletion path) (Deletion at) k = refl
    other (Deletion path) (Addition at said) k = refl
    other (Deletion path) (Modification at said) k = refl
    other (Addition path content) o k = absurd (true≢false (sym k))
    other (Modification path content) o k = absurd (true≢false (sym k))

pub some-append : (kind : Change → Bool) (test : Place → Bool) (later earlier : List Change)
    → some_of kind test (later ++ earlier) ≡ some_of kind test later || some_of kind test earlier
some-append kind test later earlier = list_any-append (λ c. kind c && test (place_of c)) later earlier

pub some-reversed : (kind : Change → Bool) (test : Place → Bool) (changes : List Change) → some_of kind test (reverse changes) ≡ some_of kind test changes
some-reversed kind test [] = refl
some-reversed kind test (c ∷ changes) =
    ap (some_of kind test) (reverse-cons c changes) ∙ some-append kind test (reverse changes) (c ∷ [])
    ∙ ap (λ (b : Bool). b || (kind c && test (place_of c) || false)) (some-reversed kind test changes)
    ∙ swap (some_of kind test changes) (kind c && test (place_of c))
  where
    swap : (a b : Bool) → a || (b || false) ≡ b || a
    swap true true = refl
    swap true false = refl
    swap false true = refl
    swap false false = refl

pub order-behind : (later earlier : List Change) → InOrder (later ++ earlier) → InOrder earlier
order-behind [] earlier all = all
order-behind (c ∷ later) earlier all = order-behind later earlier all.0

or-cases : {P : Type 0} (a b : Bool) → a || b ≡ true → (a ≡ true → P) → (b ≡ true → P) → P
or-cases true b e f g = f refl
or-cases false b e f g = g e

-- a place of the scan that is in none of the later changes is the change's own, or one of the earlier changes
behind : {P : Type 0} (kind : Change → Bool) (later earlier : List Change) (c : Change) (q : Place)
    → some_of kind (same_path q) (later ++ c ∷ earlier) ≡ true → (some_of kind (same_path q) later ≡ true → ⊥)
    → (same_path q (place_of c) ≡ true → P) → (some_of kind (same_path q) earlier ≡ true → P) → P
behind {P} kind later earlier c q m never here there =
    or-cases {P = P} (some_of kind (same_path q) later) (some_of kind (same_path q) (c ∷ earlier))
    (sym (some-append kind (same_path q) later (c ∷ earlier)) ∙ m) (λ e. absurd (never e))
    (λ e. or-cases {P = P} (kind c && same_path q (place_of c)) (some_of kind (same_path q) earlier) e (λ k. here (second (kind c) (same_path q (place_of c)) k)) there)
  where
    second : (a b : Bool) → a && b ≡ true → b ≡ true
    second true b e = e
    second false b e = absurd (true≢false (sym e))

each-deleted : (path q : Place) (older : List Change) → AllByRecursion (λ change. (is_deletion change ≡ true) × (path_cmp path (place_of change) ≡ Less)) older
    → some_of is_deletion (same_path q) older ≡ true → path_cmp path q ≡ Less
each-deleted path q [] all m = absurd (true≢false (sym m))
each-deleted path q (c ∷ older) all m = by (is_deletion c) (same_path q (place_of c)) refl m (each-deleted path q older all.1)
  where
    by : (a b : Bool) → same_path q (place_of c) ≡ b → (a && b) || some_of is_deletion (same_path q) older ≡ true
        → (some_of is_deletion (same_path q) older ≡ true → path_cmp path q ≡ Less) → path_cmp path q ≡ Less
    by true true x m r = ap (path_cmp path) (same_path_is q (place_of c) x) ∙ all.0.1
    by true false x m r = r m
    by false b x m r = r m

each-added : (path q : Place) (older : List Change) → AllByRecursion (λ change. is_addition change ≡ true → path_cmp (place_of change) path ≡ Less) older
    → some_of is_addition (same_path q) older ≡ true → path_cmp q path ≡ Less
each-added path q [] all m = absurd (true≢false (sym m))
each-added path q (c ∷ older) all m = by (is_addition c) (same_path q (place_of c)) refl refl m (each-added path q older all.1)
  where
    by : (a b : Bool) → is_addition c ≡ a → same_path q (place_of c) ≡ b → (a && b) || some_of is_addition (same_path q) older ≡ true
        → (some_of is_addition (same_path q) older ≡ true → path_cmp q path ≡ Less) → path_cmp q path ≡ Less
    by true true k x m r = ap (λ p. path_cmp p path) (same_path_is q (place_of c) x) ∙ all.0 k
    by true false k x m r = r m
    by false b k x m r = r m

before-not : (p q : Place) → path_cmp p q ≡ Less → is_below q p ≡ true → ⊥
before-not p q l b = true≢false (sym (same_path_itself p) ∙ same_path_Less p p (paths_total.trans p q p l (below-before q p b)))

-- where a change is the last within a subtree, its head stood before it
pub gone-stood : (later earlier : List Change) (path t : Place) → InOrder (later ++ Deletion path ∷ earlier)
    → IsTop is_deletion (later ++ Deletion path ∷ earlier) t → is_over t path ≡ true → some_of is_deletion (is_over t) later ≡ false → t ≡ path
gone-stood later earlier path t order top over last =
    behind {P = t ≡ path} is_deletion later earlier (Deletion path) t top.member (λ m. none-some is_deletion (is_over t) later t last m (over-itself t))
    (λ s. same_path_is t path s)
    (λ m. by (same_path t path) refl m)
  where
    by : (b : Bool) → same_path t path ≡ b → some_of is_deletion (same_path t) earlier ≡ true → t ≡ path
    by true s m = same_path_is t path s
    by false s m = absurd (before-not path t (each-deleted path t earlier (order-behind later (Deletion path ∷ earlier) order).1 m) (below-from-over t path over s))

pub come-stood : (later earlier : List Change) (path : Place) (content : Content) (t : Place) → InOrder (later ++ Addition path content ∷ earlier)
    → IsTop is_addition (later ++ Addition path content ∷ earlier) t → some_of is_addition (is_over t) later ≡ false
    → gathers_at is_addition (later ++ Addition path content ∷ earlier) t ≡ true
    → (same_path t path ≡ false) × (some_of is_addition (same_path t) earlier ≡ true)
come-stood later earlier path content t order top last gathers = (
  other,
  behind {P = some_of is_addition (same_path t) earlier ≡ true} is_addition later earlier (Addition path content) t top.member
      (λ m. none-some is_addition (is_over t) later t last m (over-itself t))
      (λ s. absurd (true≢false (sym s ∙ other))) (λ m. m),
)
  where
    other : same_path t path ≡ false
    other = false_from_ne_true (same_path t path) (λ s.
        some-given is_addition (is_below t) (later ++ Addition path content ∷ earlier) ⊥ gathers (λ q m b.
        behind {P = ⊥} is_addition later earlier (Addition path content) q m
        (λ l. none-some is_addition (is_over t) later q last l (over-from-below t q b))
        (λ here. true≢false (sym b ∙ (λ i. is_below (same_path_is t path s i) (same_path_is q path here i)) ∙ not-below-itself path))
        (λ l. before-not q path (each-added path q earlier (order-behind later (Addition path content ∷ earlier) order).1 l)
        (ap (λ p. is_below p q) (sym (same_path_is t path s)) ∙ b))))

-- the head that is done with a change, where it is the last within
abbrev pub done_at : Bool → Place → Option Place
done_at b t = cond b (Some t) None

done-list : (b : Bool) (t : Place) → option_to_list (done_at b t) ≡ cond b (t ∷ []) []
done-list true t = refl
done-list false t = refl

both-parts : (a b : Bool) → a && not b ≡ true → (a ≡ true) × (b ≡ false)
both-parts true true e = absurd (true≢false (sym e))
both-parts true false e = (refl, refl)
both-parts false b e = absurd (true≢false (sym e))

pub gone-marked : (later earlier : List Change) (path t : Place) → IsOrderly (later ++ Deletion path ∷ earlier)
    → IsTop is_deletion (later ++ Deletion path ∷ earlier) t → is_over t path ≡ true
    → IsMarked (later ++ Deletion path ∷ earlier) (Deletion path) earlier (gathers_at is_deletion (later ++ Deletion path ∷ earlier) t)
    (done_at (gathers_at is_deletion (later ++ Deletion path ∷ earlier) t && not (some_of is_deletion (is_over t) later)) t)
gone-marked later earlier path t orderly top over = record {
  belongs = sym (in-subtree is_deletion deletions-alike scan orderly.gone (Deletion path) t refl top over);
  head = done-list flag t ∙ sym (heads-done is_deletion deletions-alike later earlier (Deletion path) t orderly.gone
      (deletions-apart scan orderly.in_order) refl top over);
  stood = by flag refl;
}
  where
    scan : List Change
    scan = later ++ Deletion path ∷ earlier

    flag : Bool
    flag = gathers_at is_deletion scan t && not (some_of is_deletion (is_over t) later)

    by : (b : Bool) → flag ≡ b → MatchOption (done_at b t) (Unit {0}) (StoodAt (Deletion path) earlier)
    by false e = tt
    by true e = gone-stood later earlier path t orderly.in_order top over (both-parts _ _ e).1

pub come-marked : (later earlier : List Change) (path : Place) (content : Content) (t : Place) → IsOrderly (later ++ Addition path content ∷ earlier)
    → IsTop is_addition (later ++ Addition path content ∷ earlier) t → is_over t path ≡ true
    → IsMarked (later ++ Addition path content ∷ earlier) (Addition path content) earlier (gathers_at is_addition (later ++ Addition path content ∷ earlier) t)
    (done_at (gathers_at is_addition (later ++ Addition path content ∷ earlier) t && not (some_of is_addition (is_over t) later)) t)
come-marked later earlier path content t orderly top over = record {
  belongs = sym (in-subtree is_addition additions-alike scan orderly.come (Addition path content) t refl top over);
  head = done-list flag t ∙ sym (heads-done is_addition additions-alike later earlier (Addition path content) t orderly.come
      (additions-apart scan orderly.in_order) refl top over);
  stood = by flag refl;
}
  where
    scan : List Change
    scan = later ++ Addition path content ∷ earlier

    flag : Bool
    flag = gathers_at is_addition scan t && not (some_of is_addition (is_over t) later)

    by : (b : Bool) → flag ≡ b → MatchOption (done_at b t) (Unit {0}) (StoodAt (Addition path content) earlier)
    by false e = tt
    by true e =
        let parts = both-parts (gathers_at is_addition scan t) (some_of is_addition (is_over t) later) e in
        come-stood later earlier path content t orderly.in_order top parts.1 parts.0

-- a modification belongs to no subtree
pub modified-marked : (scan earlier : List Change) (path : Place) (content : Content)
    → IsMarked scan (Modification path content) earlier false None
modified-marked scan earlier path content = record {
  belongs = sym (none (λ head. heads scan head) scan);
  head = sym (ap (map place_of) (no-head scan scan));
  stood = tt;
}
  where
    none : (f : Change → Bool) (xs : List Change) → list_any (λ head. f head && is_within head (Modification path content)) xs ≡ false
    none f [] = refl
    none f (x ∷ xs) = λ i. alone (f x) x i || none f xs i
      where
        alone : (b : Bool) (x : Change) → b && is_within x (Modification path content) ≡ false
        alone true (Deletion at) = refl
        alone true (Addition at said) = refl
        alone true (Modification at said) = refl
        alone false x = refl

    no-head : (scan xs : List Change) → filter (λ head. heads scan head && is_last_within scan head (Modification path content)) xs ≡ []
    no-head scan [] = refl
    no-head scan (x ∷ xs) = (λ i. cond (alone (heads scan x) x i) (x ∷ filter (λ head. heads scan head && is_last_within scan head (Modification path content)) xs)
        (filter (λ head. heads scan head && is_last_within scan head (Modification path content)) xs)) ∙ no-head scan xs
      where
        outside : (x : Change) → is_within x (Modification path content) ≡ false
        outside (Deletion at) = refl
        outside (Addition at said) = refl
        outside (Modification at said) = refl

        alone : (b : Bool) (x : Change) → b && is_last_within scan x (Modification path content) ≡ false
        alone true x = last-outside scan x (Modification path content) (outside x)
        alone false x = refl

-- what was added earlier in a scan stands
pub added-stands : (earlier past : List Change) (q : Place) → InOrder earlier → some_of is_addition (same_path q) earlier ≡ true
    → (content : Content) × (stands (earlier ++ past) q ≡ Some content)
added-stands [] past q order m = absurd (true≢false (sym m))
added-stands (Deletion path ∷ earlier) past q order m = absurd (true≢false (sym m ∙ none earlier order.1))
  where
    none : (cs : List Change) → AllByRecursion (λ change. (is_deletion change ≡ true) × (path_cmp path (place_of change) ≡ Less)) cs
        → some_of is_addition (same_path q) cs ≡ false
    none [] all = refl
    none (Deletion at ∷ cs) all = none cs all.1
    none (Addition at content ∷ cs) all = absurd (true≢false (sym all.0.0))
    none (Modification at content ∷ cs) all = absurd (true≢false (sym all.0.0))
added-stands (Addition path content ∷ earlier) past q order m =
    by (same_path q path) m (added-stands earlier past q order.0)
  where
    by : (b : Bool) → b || some_of is_addition (same_path q) earlier ≡ true
        → (some_of is_addition (same_path q) earlier ≡ true → (content : Content) × (stands (earlier ++ past) q ≡ Some content))
        → (said : Content) × (cond b (Some content) (stands (earlier ++ past) q) ≡ Some said)
    by true m r = (content, refl)
    by false m r = r m
added-stands (Modification path content ∷ earlier) past q order m =
    by (same_path q path) (added-stands earlier past q order.0 m)
  where
    by : (b : Bool) → (said : Content) × (stands (earlier ++ past) q ≡ Some said)
        → (said : Content) × (cond b (Some content) (stands (earlier ++ past) q) ≡ Some said)
    by true r = (content, refl)
    by false r = r
