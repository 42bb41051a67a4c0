-- The changes of one kind in a scan, as they are looked at from the newest on.
use Rattle.std.proofs.Common.{◌≡◌, ◌&&◌, ◌||◌, ◌+◌, ◌<◌, ℕ, Bool, true, false, not, cond, List, [], ◌∷◌, ◌++◌, length, take, get_or, reverse, None, refl, sym, ap, ◌∙◌, subst, true≢false, append_assoc, arith}
use Rattle.std.specs.List.{list_any}
use Rattle.std.specs.BTreeMap.{is_at}
use Rattle.std.specs.BTreeSet.{BTreeSet, contains}
use Rattle.std.proofs.lemmas.Bool.{false_from_ne_true}
use Rattle.std.proofs.lemmas.List.{take_more, map-append, reverse-append}
use Rattle.std.proofs.lemmas.List.Folds.{list_any-append}
use Rattle.cds_object.specs.Path.{path_cmp, same_path, parent_of}
use Rattle.cds_object.specs.declared.path.Path.{Path}
use Rattle.cds_object.specs.declared.content.Content.{Content}
use Rattle.cds_catalog.specs.History.{place_of}
use Rattle.cds_catalog.specs.declared.change.Change.{Change}
use Rattle.cds_catalog.specs.declared.change.Change.TheVariants.{Deletion, Addition, Modification}
use Rattle.cds_catalog.proofs.Paths.{same_path_is, same_path_itself}
use Rattle.cds_catalog.proofs.StepsPaths.{Place, length-parent}
use Rattle.cds_changes.specs.Events.{is_below}
use Rattle.cds_changes.specs.Subtrees.{some_of, is_over, IsTop, IsClosed, IsOrderly, IsMarked}
use Rattle.cds_changes.proofs.Places.{below-parent, below-over, over-from-below}
use Rattle.cds_changes.proofs.Subtrees.{gathers_at, one-top, gathers-folders}
use Rattle.cds_changes.proofs.Marks.{some-append, some-reversed, done_at, gone-marked, come-marked, modified-marked}
use Rattle.cds_store.specs.ChangeEvents.{changes_in}
use Rattle.cds_store.specs.SubtreeIndex.{is_kind, IsOutermost, Indexes, HasTop, IsHeadOf, AreMarked}
use Rattle.cds_store.specs.declared.subtrees.Kind.{Kind}
use Rattle.cds_store.specs.declared.subtrees.Kind.TheVariants.{Added, Deleted}
use Rattle.cds_store.specs.declared.subtrees.SubtreeIndex.{SubtreeIndex}
use Rattle.cds_store.specs.declared.subtrees.MarkedChange.{MarkedChange}
use Rattle.cds_store.proofs.Bad.{put_in}

or_false : (b : Bool) → b || false ≡ b
or_false true = refl
or_false false = refl

-- ---- the places of some changes

more_seen : (test : Change → Bool) (changes : List Change) (i : ℕ) (c : Change) → i < length changes → c ≡ get_or changes i c →
    list_any test (take (i + 1) changes) ≡ list_any test (take i changes) || test c
more_seen test changes i c within is =
    ap (list_any test) (take_more changes i c within) ∙ list_any-append test (take i changes) (get_or changes i c ∷ [])
    ∙ ap (λ x. list_any test (take i changes) || (test x || false)) (sym is)
    ∙ ap (λ b. list_any test (take i changes) || b) (or_false (test c))

pub place-seen : (kind : Change → Bool) (test : Place → Bool) (changes : List Change) (i : ℕ) (c : Change) (old new : Bool) → i < length changes →
    c ≡ get_or changes i c → kind c ≡ true → old ≡ some_of kind test (take i changes) → new ≡ old || test (place_of c) →
    new ≡ some_of kind test (take (i + 1) changes)
place-seen kind test changes i c old new within is of so_far e =
    e ∙ ap (λ b. b || test (place_of c)) so_far
    ∙ ap (λ b. some_of kind test (take i changes) || (b && test (place_of c))) (sym of)
    ∙ sym (more_seen (λ x. kind x && test (place_of x)) changes i c within is)

pub other-seen : (kind : Change → Bool) (test : Place → Bool) (changes : List Change) (i : ℕ) (c : Change) (old : Bool) → i < length changes →
    c ≡ get_or changes i c → kind c ≡ false → old ≡ some_of kind test (take i changes) → old ≡ some_of kind test (take (i + 1) changes)
other-seen kind test changes i c old within is of so_far =
    so_far ∙ sym (or_false (some_of kind test (take i changes)))
    ∙ ap (λ b. some_of kind test (take i changes) || (b && test (place_of c))) (sym of)
    ∙ sym (more_seen (λ x. kind x && test (place_of x)) changes i c within is)

-- ---- upwards

not-root : (there : Place → Bool) (p : Place) → there [] ≡ false → there p ≡ true → same_path p [] ≡ false
not-root there p root is = false_from_ne_true (same_path p []) (λ e. true≢false (sym is ∙ ap there (same_path_is p [] e) ∙ root))

named-child : (p : Place) → same_path (parent_of p) [] ≡ false → same_path p [] ≡ false
named-child [] d = absurd (true≢false d)
named-child (name ∷ names) d = refl

-- the parent of a place that is over another is over it too
pub over-up : (top path : Place) → same_path (parent_of top) [] ≡ false → is_over top path ≡ true → is_over (parent_of top) path ≡ true
over-up top path named over =
    over-from-below (parent_of top) path (below-over (parent_of top) top path (below-parent top (named-child top named)) over)

pub parent-named : (there : Place → Bool) (top parent : Place) → there [] ≡ false → there parent ≡ true → parent ≡ parent_of top → same_path (parent_of top) [] ≡ false
parent-named there top parent root is e = ap (λ p. same_path p []) (sym e) ∙ not-root there parent root is

pub shorter : (there : Place → Bool) (parent above : Place) → there [] ≡ false → there parent ≡ true → above ≡ parent_of parent → length above < length parent
shorter there [] above root is e = absurd (true≢false (sym is ∙ root))
shorter there (name ∷ names) above root is e = let l = ap length e ∙ length-parent name names in omega (arith, l)

-- ---- what is known

pub knows-first : (kind : Change → Bool) (changes : List Change) (index : SubtreeIndex) →
    ((path : Place) → contains path_cmp index.places path ≡ some_of kind (same_path path) changes) →
    ((path : Place) → contains path_cmp index.folders path ≡ some_of kind (λ place. same_path path (parent_of place)) changes) →
    ((path : Place) → contains path_cmp index.seen path ≡ false) → Indexes kind (reverse changes) [] index
knows-first kind changes index places folders none = record {
  places = λ path. places path ∙ sym (some-reversed kind (same_path path) changes);
  folders = λ path. folders path ∙ sym (some-reversed kind (λ place. same_path path (parent_of place)) changes);
  seen = λ top is below. none top;
}

pub head-of : (kind : Change → Bool) (scan later : List Change) (index : SubtreeIndex) (path top : Place) → Indexes kind scan later index → IsClosed kind scan →
    some_of kind (same_path path) scan ≡ true → IsOutermost (contains path_cmp index.places) path top →
    HasTop kind scan path (contains path_cmp index.folders top) top
head-of kind scan later index path top knows closed member out =
    let there : some_of kind (same_path top) scan ≡ true = sym (knows.places top) ∙ out.member (knows.places path ∙ member) in
    record {
      is_top = record { member = there; outermost = sym (knows.places (parent_of top)) ∙ out.outer };
      over = out.over;
      has_below = gathers-folders kind scan closed top there ∙ sym (knows.folders top);
    }

-- a change more that belongs to no subtree
none-more : (kind : Change → Bool) (scan later : List Change) (c : Change) (index : SubtreeIndex) (top : Place) → Indexes kind scan later index → IsClosed kind scan →
    HasTop kind scan (place_of c) false top → Indexes kind scan (later ++ c ∷ []) index
none-more kind scan later c index top knows closed has = record {
  places = knows.places;
  folders = knows.folders;
  seen = λ u is below. knows.seen u is below ∙ sym (
      some-append kind (is_over u) later (c ∷ [])
      ∙ ap (λ (b : Bool). some_of kind (is_over u) later || (kind c && b || false)) (apart u is below)
      ∙ ap (λ (b : Bool). some_of kind (is_over u) later || b) (ap (λ (b : Bool). b || false) (and-false (kind c)))
      ∙ or_false (some_of kind (is_over u) later));
}
  where
    and-false : (b : Bool) → b && false ≡ false
    and-false true = refl
    and-false false = refl

    apart : (u : Place) → IsTop kind scan u → some_of kind (is_below u) scan ≡ true → is_over u (place_of c) ≡ false
    apart u is below = false_from_ne_true (is_over u (place_of c)) (λ over.
        true≢false (sym below ∙ ap (gathers_at kind scan) (one-top kind scan closed u top (place_of c) is has.is_top over has.over) ∙ has.has_below))

-- a change more that belongs to a subtree
one-more : (kind : Change → Bool) (scan later : List Change) (c : Change) (old new : SubtreeIndex) (head : Place) → Indexes kind scan later old → IsClosed kind scan →
    kind c ≡ true → HasTop kind scan (place_of c) true head → new.places ≡ old.places → new.folders ≡ old.folders →
    ((q : Place) → contains path_cmp new.seen q ≡ cond (is_at (path_cmp head) q) true (contains path_cmp old.seen q)) →
    Indexes kind scan (later ++ c ∷ []) new
one-more kind scan later c old new head knows closed of has places folders updates = record {
  places = λ path. ap (λ (s : BTreeSet Path). contains path_cmp s path) places ∙ knows.places path;
  folders = λ path. ap (λ (s : BTreeSet Path). contains path_cmp s path) folders ∙ knows.folders path;
  seen = λ u is below.
      put_in head head u (contains path_cmp old.seen u) (contains path_cmp new.seen u) refl (updates u)
      ∙ ap (λ (b : Bool). b || same_path u head) (knows.seen u is below)
      ∙ ap (λ (b : Bool). some_of kind (is_over u) later || b) (here u is below)
      ∙ sym (some-append kind (is_over u) later (c ∷ [])
      ∙ ap (λ (b : Bool). some_of kind (is_over u) later || (b && is_over u (place_of c) || false)) of
      ∙ ap (λ (b : Bool). some_of kind (is_over u) later || b) (or_false (is_over u (place_of c))));
}
  where
    both-ways : (a b : Bool) → (a ≡ true → b ≡ true) → (b ≡ true → a ≡ true) → a ≡ b
    both-ways true b f g = sym (f refl)
    both-ways false true f g = g refl
    both-ways false false f g = refl

    here : (u : Place) → IsTop kind scan u → some_of kind (is_below u) scan ≡ true → same_path u head ≡ is_over u (place_of c)
    here u is below = both-ways (same_path u head) (is_over u (place_of c))
        (λ e. ap (λ q. is_over q (place_of c)) (same_path_is u head e) ∙ has.over)
        (λ e. ap (same_path u) (sym (one-top kind scan closed u head (place_of c) is has.is_top e has.over)) ∙ same_path_itself u)

closed-of : (kind : Kind) (scan : List Change) → IsOrderly scan → IsClosed (is_kind kind) scan
closed-of Added scan orderly = orderly.come
closed-of Deleted scan orderly = orderly.gone

pub closed-kind : (kind : Kind) (scan : List Change) → IsOrderly scan → IsClosed (is_kind kind) scan
closed-kind = closed-of

-- what is said of a change of a kind
marked : (kind : Kind) (later earlier : List Change) (c : Change) (t : Place) → IsOrderly (later ++ c ∷ earlier) → is_kind kind c ≡ true
    → IsTop (is_kind kind) (later ++ c ∷ earlier) t → is_over t (place_of c) ≡ true
    → IsMarked (later ++ c ∷ earlier) c earlier (gathers_at (is_kind kind) (later ++ c ∷ earlier) t)
    (done_at (gathers_at (is_kind kind) (later ++ c ∷ earlier) t && not (some_of (is_kind kind) (is_over t) later)) t)
marked Added later earlier (Deletion path) t orderly of top over = absurd (true≢false (sym of))
marked Added later earlier (Addition path content) t orderly of top over = come-marked later earlier path content t orderly top over
marked Added later earlier (Modification path content) t orderly of top over = absurd (true≢false (sym of))
marked Deleted later earlier (Deletion path) t orderly of top over = gone-marked later earlier path t orderly top over
marked Deleted later earlier (Addition path content) t orderly of top over = absurd (true≢false (sym of))
marked Deleted later earlier (Modification path content) t orderly of top over = absurd (true≢false (sym of))

pub said-none : (kind : Kind) (scan later earlier : List Change) (c : Change) (index : SubtreeIndex) (path : Place) → Indexes (is_kind kind) scan later index → IsOrderly scan →
    scan ≡ later ++ c ∷ earlier → is_kind kind c ≡ true → path ≡ place_of c → IsHeadOf (is_kind kind) scan path None →
    Indexes (is_kind kind) scan (later ++ c ∷ []) index × IsMarked scan c earlier false None
said-none kind scan later earlier c index path knows orderly parted of at head =
    let has : HasTop (is_kind kind) scan (place_of c) false head.0 = subst (λ (p : Place). HasTop (is_kind kind) scan p false head.0) at head.1 in (
      none-more (is_kind kind) scan later c index head.0 knows (closed-of kind scan orderly) has,
      by scan parted orderly has,
    )
  where
    by : (scan : List Change) → scan ≡ later ++ c ∷ earlier → IsOrderly scan → HasTop (is_kind kind) scan (place_of c) false head.0
        → IsMarked scan c earlier false None
    by scan parted orderly has =
        subst (λ (s : List Change). IsMarked s c earlier false None) (sym parted)
        (let whole : HasTop (is_kind kind) (later ++ c ∷ earlier) (place_of c) false head.0 =
        subst (λ (s : List Change). HasTop (is_kind kind) s (place_of c) false head.0) parted has in
        subst (λ (b : Bool). IsMarked (later ++ c ∷ earlier) c earlier b (done_at (b && not (some_of (is_kind kind) (is_over head.0) later)) head.0)) whole.has_below
        (marked kind later earlier c head.0 (subst IsOrderly parted orderly) of whole.is_top whole.over))

pub said-some : (kind : Kind) (scan later earlier : List Change) (c : Change) (old new : SubtreeIndex) (path head : Place) (added : Bool) →
    Indexes (is_kind kind) scan later old → IsOrderly scan →
    scan ≡ later ++ c ∷ earlier → is_kind kind c ≡ true → path ≡ place_of c → HasTop (is_kind kind) scan path true head →
    new.places ≡ old.places → new.folders ≡ old.folders →
    ((q : Place) → contains path_cmp new.seen q ≡ cond (is_at (path_cmp head) q) true (contains path_cmp old.seen q)) →
    added ≡ not (contains path_cmp old.seen head) →
    Indexes (is_kind kind) scan (later ++ c ∷ []) new × IsMarked scan c earlier true (done_at added head)
said-some kind scan later earlier c old new path head added knows orderly parted of at head_is places folders updates new_one =
    let has : HasTop (is_kind kind) scan (place_of c) true head = subst (λ (p : Place). HasTop (is_kind kind) scan p true head) at head_is in (
      one-more (is_kind kind) scan later c old new head knows (closed-of kind scan orderly) of has places folders updates,
      by scan parted orderly has (new_one ∙ ap not (knows.seen head has.is_top has.has_below)),
    )
  where
    by : (scan : List Change) → scan ≡ later ++ c ∷ earlier → IsOrderly scan → HasTop (is_kind kind) scan (place_of c) true head
        → added ≡ not (some_of (is_kind kind) (is_over head) later) → IsMarked scan c earlier true (done_at added head)
    by scan parted orderly has last =
        subst (λ (s : List Change). IsMarked s c earlier true (done_at added head)) (sym parted)
        (let whole : HasTop (is_kind kind) (later ++ c ∷ earlier) (place_of c) true head =
        subst (λ (s : List Change). HasTop (is_kind kind) s (place_of c) true head) parted has in
        subst (λ (b : Bool). IsMarked (later ++ c ∷ earlier) c earlier true (done_at b head)) (sym last)
        (subst (λ (b : Bool). IsMarked (later ++ c ∷ earlier) c earlier b (done_at (b && not (some_of (is_kind kind) (is_over head) later)) head)) whole.has_below
        (marked kind later earlier c head (subst IsOrderly parted orderly) of whole.is_top whole.over)))

-- a change more of another kind
pub other-more : (kind : Change → Bool) (scan later : List Change) (c : Change) (index : SubtreeIndex) → Indexes kind scan later index → kind c ≡ false → Indexes kind scan (later ++ c ∷ []) index
other-more kind scan later c index knows of = record {
  places = knows.places;
  folders = knows.folders;
  seen = λ u is below. knows.seen u is below ∙ sym (
      some-append kind (is_over u) later (c ∷ [])
      ∙ ap (λ (b : Bool). some_of kind (is_over u) later || (b && is_over u (place_of c) || false)) of
      ∙ or_false (some_of kind (is_over u) later));
}

-- ---- a plan

-- one change more, in front of those that are still to be looked at
pub marked-more : (scan : List Change) (plan : List MarkedChange) (p : MarkedChange) (earlier : List Change) → AreMarked scan plan (p.change ∷ earlier) →
    IsMarked scan p.change earlier p.st p.done → AreMarked scan (plan ++ p ∷ []) earlier
marked-more scan [] p earlier all one = (tt, one)
marked-more scan (x ∷ plan) p earlier all one = (
  marked-more scan plan p earlier all.0 one,
  subst (λ (before : List Change). IsMarked scan x.change before x.st x.done)
      (sym (ap (λ (l : List Change). l ++ earlier) (map-append (λ (q : MarkedChange). q.change) plan (p ∷ [])) ∙ append_assoc (changes_in plan) (p.change ∷ []) earlier))
      all.1,
)

-- a change of a scan is one of its kind there
pub is-member : (kind : Change → Bool) (scan later earlier : List Change) (c : Change) (path : Place) → scan ≡ later ++ c ∷ earlier → kind c ≡ true →
    path ≡ place_of c → some_of kind (same_path path) scan ≡ true
is-member kind scan later earlier c path parted of at =
    ap (some_of kind (same_path path)) parted ∙ some-append kind (same_path path) later (c ∷ earlier)
    ∙ ap (λ (b : Bool). some_of kind (same_path path) later || (b || some_of kind (same_path path) earlier)) here
    ∙ or-true (some_of kind (same_path path) later)
  where
    here : kind c && same_path path (place_of c) ≡ true
    here = (λ i. of i && same_path (at i) (place_of c)) ∙ same_path_itself (place_of c)

    or-true : (b : Bool) → b || true ≡ true
    or-true true = refl
    or-true false = refl

pub said-modified : (scan earlier : List Change) (c : Change) (path : Place) (content : Content) → c ≡ Modification path content → IsMarked scan c earlier false None
said-modified scan earlier c path content is =
    subst (λ (x : Change). IsMarked scan x earlier false None) (sym is) (modified-marked scan earlier path content)

-- the newest of the changes that are left
pub popped : (left rest : List Change) (c : Change) → left ≡ rest ++ c ∷ [] → reverse left ≡ c ∷ reverse rest
popped left rest c is = ap reverse is ∙ reverse-append rest (c ∷ [])

pub more-marked_change : (plan new : List MarkedChange) (p : MarkedChange) (c : Change) → new ≡ plan ++ p ∷ [] → p.change ≡ c → changes_in new ≡ changes_in plan ++ c ∷ []
more-marked_change plan new p c is same =
    ap changes_in is ∙ map-append (λ (q : MarkedChange). q.change) plan (p ∷ []) ∙ ap (λ (x : Change). changes_in plan ++ x ∷ []) same

pub more-marked : (scan : List Change) (plan new : List MarkedChange) (p : MarkedChange) (c : Change) (left rest : List Change) → new ≡ plan ++ p ∷ [] → p.change ≡ c →
    left ≡ rest ++ c ∷ [] → AreMarked scan plan (reverse left) → IsMarked scan c (reverse rest) p.st p.done → AreMarked scan new (reverse rest)
more-marked scan plan new p c left rest is same parts all one =
    subst (λ (l : List MarkedChange). AreMarked scan l (reverse rest)) (sym is)
    (marked-more scan plan p (reverse rest)
    (subst (AreMarked scan plan) (popped left rest c parts ∙ ap (λ (x : Change). x ∷ reverse rest) (sym same)) all)
    (subst (λ (x : Change). IsMarked scan x (reverse rest) p.st p.done) (sym same) one))
