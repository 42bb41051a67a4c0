-- With which change of a scan a subtree update is done.
use Rattle.std.proofs.Common.{◌≡◌, ◌&&◌, ◌||◌, Bool, true, false, not, cond, List, [], ◌∷◌, ◌++◌, map, filter, Less, refl, sym, ap, ◌∙◌, true≢false}
use Rattle.std.specs.List.{AllByRecursion, list_any}
use Rattle.std.proofs.lemmas.Bool.{false_from_ne_true}
use Rattle.std.proofs.lemmas.List.Folds.{list_any-append}
use Rattle.std.proofs.lemmas.List.Elements.{filter-append}
use Rattle.cds_object.specs.Path.{path_cmp, same_path}
use Rattle.cds_catalog.specs.History.{place_of, is_addition, is_deletion}
use Rattle.cds_catalog.specs.declared.change.Change.{Change}
use Rattle.cds_catalog.specs.declared.change.Change.TheVariants.{Deletion, Addition, Modification}
use Rattle.cds_catalog.proofs.Paths.{same_path_is, same_path_itself, same_path_swap, same_path_Less, same_path_Greater}
use Rattle.cds_catalog.proofs.StepsPaths.{Place}
use Rattle.cds_changes.specs.Events.{is_alike, heads, is_within, is_last_within, heads_done}
use Rattle.cds_changes.specs.Subtrees.{some_of, is_over, IsTop, IsClosed, InOrder}
use Rattle.cds_changes.proofs.Places.{both-true}
use Rattle.cds_changes.proofs.Subtrees.{IsKind, gathers_at, heads_at, heads-is, head-top, top-heads, one-top}

or-right : (a b : Bool) → b ≡ true → a || b ≡ true
or-right true b e = refl
or-right false b e = e

or-none : (a b : Bool) → a || b ≡ false → (a ≡ false) × (b ≡ false)
or-none true b e = absurd (true≢false e)
or-none false b e = (refl, e)

-- ---- lists

filter-same : (f g : Change → Bool) → ((c : Change) → f c ≡ g c) → (scan : List Change) → filter f scan ≡ filter g scan
filter-same f g same [] = refl
filter-same f g same (c ∷ scan) = λ i. cond (same c i) (c ∷ filter-same f g same scan i) (filter-same f g same scan i)

filter-none : (f : Change → Bool) (scan : List Change) → list_any f scan ≡ false → filter f scan ≡ []
filter-none f [] e = refl
filter-none f (c ∷ scan) e =
    let parts = or-none (f c) (list_any f scan) e in
    (λ i. cond (parts.0 i) (c ∷ filter f scan) (filter f scan)) ∙ filter-none f scan parts.1

-- the first that passes a test is a change of the list
record First (kind : Change → Bool) (test : Place → Bool) (scan : List Change) : Type 0 where
  newest : Change
  others : List Change
  are : filter (λ c. kind c && test (place_of c)) scan ≡ newest ∷ others
  member : some_of kind (same_path (place_of newest)) scan ≡ true

first-given : (kind : Change → Bool) (test : Place → Bool) (scan : List Change) → some_of kind test scan ≡ true → First kind test scan
first-given kind test [] e = absurd (true≢false (sym e))
first-given kind test (c ∷ scan) e = by (kind c) (test (place_of c)) refl refl e (first-given kind test scan)
  where
    by : (a b : Bool) → kind c ≡ a → test (place_of c) ≡ b → (a && b) || some_of kind test scan ≡ true
        → (some_of kind test scan ≡ true → First kind test scan) → First kind test (c ∷ scan)
    by true true x y e r = record {
      newest = c;
      others = filter (λ c. kind c && test (place_of c)) scan;
      are = λ i. cond (x i && y i) (c ∷ filter (λ c. kind c && test (place_of c)) scan) (filter (λ c. kind c && test (place_of c)) scan);
      member = λ i. (x i && same_path_itself (place_of c) i) || some_of kind (same_path (place_of c)) scan;
    }
    by true false x y e r = let f = r e in record {
      newest = f.newest;
      others = f.others;
      are = (λ i. cond (x i && y i) (c ∷ filter (λ c. kind c && test (place_of c)) scan) (filter (λ c. kind c && test (place_of c)) scan)) ∙ f.are;
      member = or-right (kind c && same_path (place_of f.newest) (place_of c)) _ f.member;
    }
    by false b x y e r = let f = r e in record {
      newest = f.newest;
      others = f.others;
      are = (λ i. cond (x i && y i) (c ∷ filter (λ c. kind c && test (place_of c)) scan) (filter (λ c. kind c && test (place_of c)) scan)) ∙ f.are;
      member = or-right (kind c && same_path (place_of f.newest) (place_of c)) _ f.member;
    }

-- ---- places of one kind are apart

abbrev pub AreApart : (Change → Bool) → List Change → Type 0
AreApart kind [] = Unit {0}
AreApart kind (c ∷ older) = (kind c ≡ true → some_of kind (same_path (place_of c)) older ≡ false) × AreApart kind older

gone-apart : (path : Place) (older : List Change) → AllByRecursion (λ change. (is_deletion change ≡ true) × (path_cmp path (place_of change) ≡ Less)) older
    → some_of is_deletion (same_path path) older ≡ false
gone-apart path [] all = refl
gone-apart path (c ∷ older) all = λ i. (all.0.0 i && same_path_Less path (place_of c) all.0.1 i) || gone-apart path older all.1 i

come-apart : (path : Place) (older : List Change) → AllByRecursion (λ change. is_addition change ≡ true → path_cmp (place_of change) path ≡ Less) older
    → some_of is_addition (same_path path) older ≡ false
come-apart path [] all = refl
come-apart path (c ∷ older) all = λ i. by (is_addition c) all.0 i || come-apart path older all.1 i
  where
    by : (b : Bool) → (b ≡ true → path_cmp (place_of c) path ≡ Less) → b && same_path path (place_of c) ≡ false
    by true l = same_path_Greater (place_of c) path (l refl)
    by false l = refl

pub deletions-apart : (scan : List Change) → InOrder scan → AreApart is_deletion scan
deletions-apart [] all = tt
deletions-apart (Deletion path ∷ older) all = (λ k. gone-apart path older all.1, deletions-apart older all.0)
deletions-apart (Addition path content ∷ older) all = (λ k. absurd (true≢false (sym k)), deletions-apart older all.0)
deletions-apart (Modification path content ∷ older) all = (λ k. absurd (true≢false (sym k)), deletions-apart older all.0)

pub additions-apart : (scan : List Change) → InOrder scan → AreApart is_addition scan
additions-apart [] all = tt
additions-apart (Deletion path ∷ older) all = (λ k. absurd (true≢false (sym k)), additions-apart older all.0)
additions-apart (Addition path content ∷ older) all = (λ k. come-apart path older all.1, additions-apart older all.0)
additions-apart (Modification path content ∷ older) all = (λ k. absurd (true≢false (sym k)), additions-apart older all.0)

some-append : (kind : Change → Bool) (test : Place → Bool) (later earlier : List Change)
    → some_of kind test (later ++ earlier) ≡ some_of kind test later || some_of kind test earlier
some-append kind test later earlier = list_any-append (λ c. kind c && test (place_of c)) later earlier

pub later-apart : (kind : Change → Bool) (later earlier : List Change) (c : Change) → kind c ≡ true → AreApart kind (later ++ c ∷ earlier)
    → some_of kind (same_path (place_of c)) later ≡ false
later-apart kind [] earlier c k all = refl
later-apart kind (x ∷ later) earlier c k all = λ i. by (kind x) refl i || later-apart kind later earlier c k all.1 i
  where
    by : (b : Bool) → kind x ≡ b → b && same_path (place_of c) (place_of x) ≡ false
    by true e =
        let parts = or-none _ _ (sym (some-append kind (same_path (place_of x)) later (c ∷ earlier)) ∙ all.0 e) in
        same_path_swap (place_of c) (place_of x) ∙ sym (ap (λ (b : Bool). b && same_path (place_of x) (place_of c)) k) ∙ (or-none _ _ parts.1).0
    by false e = refl

-- one change stands at each place
unique : (kind : Change → Bool) (scan : List Change) (t : Place) → AreApart kind scan → some_of kind (same_path t) scan ≡ true
    → map place_of (filter (λ c. kind c && same_path t (place_of c)) scan) ≡ t ∷ []
unique kind [] t all m = absurd (true≢false (sym m))
unique kind (c ∷ scan) t all m = by (kind c) (same_path t (place_of c)) refl refl m (unique kind scan t all.1)
  where
    by : (a b : Bool) → kind c ≡ a → same_path t (place_of c) ≡ b → (a && b) || some_of kind (same_path t) scan ≡ true
        → (some_of kind (same_path t) scan ≡ true → map place_of (filter (λ c. kind c && same_path t (place_of c)) scan) ≡ t ∷ [])
        → map place_of (cond (a && b) (c ∷ filter (λ c. kind c && same_path t (place_of c)) scan) (filter (λ c. kind c && same_path t (place_of c)) scan)) ≡ t ∷ []
    by true true x y m r =
        (λ i. sym (same_path_is t (place_of c) y) i ∷ map place_of (filter-none (λ c. kind c && same_path t (place_of c)) scan
        (ap (λ q. some_of kind (same_path q) scan) (same_path_is t (place_of c) y) ∙ all.0 x) i))
    by true false x y m r = r m
    by false b x y m r = r m

-- ---- the last change of a subtree

last-none : (scan : List Change) (head c : Change) → filter (is_within head) scan ≡ [] → is_last_within scan head c ≡ false
last-none scan head c e = rw e refl

last-first : (scan : List Change) (head c newest : Change) (others : List Change) → filter (is_within head) scan ≡ newest ∷ others
    → is_last_within scan head c ≡ is_within head c && same_path (place_of newest) (place_of c)
last-first scan head c newest others e = rw e refl

-- whether the change is the last of a head's subtree, where it stands between later changes and earlier ones
last-within : (kind : Change → Bool) → IsKind kind → (later earlier : List Change) (head c : Change) → kind head ≡ true → kind c ≡ true
    → some_of kind (same_path (place_of c)) later ≡ false → is_over (place_of head) (place_of c) ≡ true
    → is_last_within (later ++ c ∷ earlier) head c ≡ not (some_of kind (is_over (place_of head)) later)
last-within kind is later earlier head c k l apart over = by (some_of kind test later) refl
  where
    test : Place → Bool
    test q = is_over (place_of head) q

    here : is_within head c ≡ true
    here = (λ i. is.first head c k i && is_over (place_of head) (place_of c)) ∙ both-true _ _ l over

    parts : (scan : List Change) → filter (is_within head) scan ≡ filter (λ x. kind x && test (place_of x)) scan
    parts = filter-same (is_within head) (λ x. kind x && test (place_of x)) (λ x. ap (λ (b : Bool). b && test (place_of x)) (is.first head x k))

    all : filter (is_within head) (later ++ c ∷ earlier) ≡ filter (λ x. kind x && test (place_of x)) later ++ filter (is_within head) (c ∷ earlier)
    all = filter-append (is_within head) later (c ∷ earlier) ∙ ap (λ (xs : List Change). xs ++ filter (is_within head) (c ∷ earlier)) (parts later)

    by : (b : Bool) → some_of kind test later ≡ b → is_last_within (later ++ c ∷ earlier) head c ≡ not b
    by false e =
        last-first (later ++ c ∷ earlier) head c c (filter (is_within head) earlier)
        (all ∙ ap (λ (xs : List Change). xs ++ filter (is_within head) (c ∷ earlier)) (filter-none (λ x. kind x && test (place_of x)) later e)
        ∙ (λ i. cond (here i) (c ∷ filter (is_within head) earlier) (filter (is_within head) earlier)))
        ∙ both-true _ _ here (same_path_itself (place_of c))
    by true e =
        let f = first-given kind test later e in
        last-first (later ++ c ∷ earlier) head c f.newest (f.others ++ filter (is_within head) (c ∷ earlier))
        (all ∙ ap (λ (xs : List Change). xs ++ filter (is_within head) (c ∷ earlier)) f.are)
        ∙ ap (λ (b : Bool). b && same_path (place_of f.newest) (place_of c)) here
        ∙ false_from_ne_true (same_path (place_of f.newest) (place_of c))
        (λ x. true≢false (sym f.member ∙ ap (λ q. some_of kind (same_path q) later) (same_path_is _ _ x) ∙ apart))

-- a change is within the subtree of no head that is of another kind, or not above it
pub last-outside : (scan : List Change) (head c : Change) → is_within head c ≡ false → is_last_within scan head c ≡ false
last-outside scan head c out = by (filter (is_within head) scan) refl
  where
    by : (xs : List Change) → filter (is_within head) scan ≡ xs → is_last_within scan head c ≡ false
    by [] e = last-none scan head c e
    by (x ∷ xs) e = last-first scan head c x xs e ∙ ap (λ (b : Bool). b && same_path (place_of x) (place_of c)) out

filter-agree : (kind : Change → Bool) (f g : Change → Bool) (scan part : List Change)
    → ((p : Place) → some_of kind (same_path p) part ≡ true → some_of kind (same_path p) scan ≡ true)
    → ((c : Change) → kind c ≡ true → some_of kind (same_path (place_of c)) scan ≡ true → f c ≡ g c)
    → ((c : Change) → kind c ≡ false → f c ≡ g c) → filter f part ≡ filter g part
filter-agree kind f g scan [] up same other = refl
filter-agree kind f g scan (c ∷ part) up same other =
    (λ i. cond (by (kind c) refl i) (c ∷ filter f part) (filter f part))
    ∙ ap (λ (xs : List Change). cond (g c) (c ∷ xs) xs)
    (filter-agree kind f g scan part (λ p m. up p (or-right (kind c && same_path p (place_of c)) _ m)) same other)
  where
    by : (b : Bool) → kind c ≡ b → f c ≡ g c
    by true k = same c k (up (place_of c) (λ i. (k i && same_path_itself (place_of c) i) || some_of kind (same_path (place_of c)) part))
    by false k = other c k

and-false : (b : Bool) → b && false ≡ false
and-false true = refl
and-false false = refl

-- the head whose subtree is done with a change is that of its outermost place, where the change is the last within
pub heads-done : (kind : Change → Bool) → IsKind kind → (later earlier : List Change) (c : Change) (t : Place)
    → IsClosed kind (later ++ c ∷ earlier) → AreApart kind (later ++ c ∷ earlier) → kind c ≡ true
    → IsTop kind (later ++ c ∷ earlier) t → is_over t (place_of c) ≡ true
    → map place_of (heads_done (later ++ c ∷ earlier) c)
    ≡ cond (gathers_at kind (later ++ c ∷ earlier) t && not (some_of kind (is_over t) later)) (t ∷ []) []
heads-done kind is later earlier c t closed apart l top over =
    ap (map place_of) (filter-agree kind (λ head. heads scan head && is_last_within scan head c) (λ head. kind head && (same_path t (place_of head) && flag)) scan scan
    (λ p m. m) of-kind (λ head k.
    ap (λ (b : Bool). heads scan head && b) (last-outside scan head c (ap (λ (b : Bool). b && is_over (place_of head) (place_of c)) (is.second c head l ∙ k)))
    ∙ and-false (heads scan head) ∙ ap (λ (b : Bool). b && (same_path t (place_of head) && flag)) (sym k)))
    ∙ by flag
  where
    scan : List Change
    scan = later ++ c ∷ earlier

    flag : Bool
    flag = gathers_at kind scan t && not (some_of kind (is_over t) later)

    here : (head : Change) → kind head ≡ true → t ≡ place_of head → heads scan head && is_last_within scan head c ≡ flag
    here head k e = λ i. (heads-is kind is scan head k ∙ ap (heads_at kind scan) (sym e) ∙ top-heads kind scan t top) i
        && (last-within kind is later earlier head c k l (later-apart kind later earlier c l apart) (ap (λ q. is_over q (place_of c)) (sym e) ∙ over)
        ∙ ap (λ q. not (some_of kind (is_over q) later)) (sym e)) i

    elsewhere : (head : Change) → kind head ≡ true → some_of kind (same_path (place_of head)) scan ≡ true → same_path t (place_of head) ≡ false
        → heads scan head && is_last_within scan head c ≡ false
    elsewhere head k m d = by (heads scan head) (is_over (place_of head) (place_of c)) refl refl
      where
        by : (a b : Bool) → heads scan head ≡ a → is_over (place_of head) (place_of c) ≡ b → a && is_last_within scan head c ≡ false
        by false b x y = refl
        by true false x y = last-outside scan head c (ap (λ (b : Bool). is_alike head c && b) y ∙ and-false (is_alike head c))
        by true true x y = absurd (true≢false (sym (same_path_itself t)
            ∙ ap (same_path t) (one-top kind scan closed t (place_of head) (place_of c) top
            (head-top kind scan closed (place_of head) m (sym (heads-is kind is scan head k) ∙ x)) over y) ∙ d))

    of-kind : (head : Change) → kind head ≡ true → some_of kind (same_path (place_of head)) scan ≡ true
        → heads scan head && is_last_within scan head c ≡ kind head && (same_path t (place_of head) && flag)
    of-kind head k m = by (same_path t (place_of head)) refl ∙ ap (λ (b : Bool). b && (same_path t (place_of head) && flag)) (sym k)
      where
        by : (b : Bool) → same_path t (place_of head) ≡ b → heads scan head && is_last_within scan head c ≡ same_path t (place_of head) && flag
        by true e = here head k (same_path_is _ _ e) ∙ ap (λ (b : Bool). b && flag) (sym e)
        by false e = elsewhere head k m e ∙ ap (λ (b : Bool). b && flag) (sym e)

    by : (b : Bool) → map place_of (filter (λ head. kind head && (same_path t (place_of head) && b)) scan) ≡ cond b (t ∷ []) []
    by true = ap (map place_of) (filter-same _ (λ head. kind head && same_path t (place_of head))
        (λ head. ap (λ (b : Bool). kind head && b) (and-true (same_path t (place_of head)))) scan)
        ∙ unique kind scan t apart top.member
      where
        and-true : (b : Bool) → b && true ≡ b
        and-true true = refl
        and-true false = refl
    by false = ap (map place_of) (filter-none _ scan (none scan))
      where
        none : (xs : List Change) → list_any (λ head. kind head && (same_path t (place_of head) && false)) xs ≡ false
        none [] = refl
        none (x ∷ xs) = λ i. (ap (λ (b : Bool). kind x && b) (and-false (same_path t (place_of x))) ∙ and-false (kind x)) i || none xs i
