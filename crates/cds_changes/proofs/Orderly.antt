-- The changes that a scan found are in order, and closed for its additions and for its deletions.
use Rattle.std.proofs.Common.{◌≡◌, ◌&&◌, ◌||◌, ◌≤◌, ℕ, zero, suc, Bool, true, false, not, cond, List, [], ◌∷◌, ◌++◌, length, reverse, Option, Some, None, Less, refl, sym, ap, ◌∙◌, subst, true≢false, append_assoc, arith}
use Rattle.std.specs.List.{AllByRecursion, filter_map, cons_option}
use mathlib.Core.List.{reverse-cons}
use Rattle.std.proofs.lemmas.Bool.{false_from_ne_true}
use Rattle.std.proofs.lemmas.List.Folds.{list_any-append}
use Rattle.cds_object.specs.Path.{path_cmp, same_path, parent_of}
use Rattle.cds_object.specs.Content.{same_content, same_kind}
use Rattle.cds_object.specs.Object.{is_folder}
use Rattle.cds_object.specs.declared.content.Content.{Content}
use Rattle.cds_object.specs.declared.content.Content.TheVariants.{Folder, Track}
use Rattle.cds_catalog.specs.Library.{FolderMap, content_at, departure, arrival, found}
use Rattle.cds_catalog.specs.Laws.{Ascends, IsLibrary}
use Rattle.cds_catalog.specs.History.{place_of, is_addition, is_deletion}
use Rattle.cds_catalog.specs.declared.change.Change.{Change}
use Rattle.cds_catalog.specs.declared.change.Change.TheVariants.{Deletion, Addition, Modification}
use Rattle.cds_catalog.proofs.Paths.{same_path_is}
use Rattle.cds_catalog.proofs.StepsPaths.{Place, length-parent}
use Rattle.cds_catalog.proofs.Maps.{Entry, IsBefore, folder_there, content_at_here, content_at_past, absent_before, absent_root, ascends_head, ascends_tail, parent_is_folder}
use Rattle.cds_catalog.proofs.Found.{departs, arrives}
use Rattle.cds_changes.specs.Events.{is_below}
use Rattle.cds_changes.specs.Subtrees.{some_of, is_over, IsClosed, Follows, InOrder, IsOrderly}
use Rattle.cds_changes.proofs.Places.{below-from-over, over-parent}

-- ---- what was added, by what stands at its place in two maps

abbrev is_added : Option Content → Option Content → Bool
is_added before None = false
is_added None (Some now) = true
is_added (Some before) (Some now) = not (same_kind before now)

kind-swap : (a b : Content) → same_kind a b ≡ same_kind b a
kind-swap (Folder a) (Folder b) = refl
kind-swap (Folder a) (Track b) = refl
kind-swap (Track a) (Folder b) = refl
kind-swap (Track a) (Track b) = refl

abbrev Test : Type 0
Test = Change → Bool

-- whether a change that may be is one of a kind at a place
abbrev is_there : Test → Place → Option Change → Bool
is_there kind p None = false
is_there kind p (Some c) = kind c && same_path p (place_of c)

some-cons : (kind : Test) (p : Place) (o : Option Change) (cs : List Change)
    → some_of kind (same_path p) (cons_option o cs) ≡ is_there kind p o || some_of kind (same_path p) cs
some-cons kind p None cs = refl
some-cons kind p (Some c) cs = refl

and-true : (b : Bool) → b && true ≡ b
and-true true = refl
and-true false = refl

and-false : (b : Bool) → b && false ≡ false
and-false true = refl
and-false false = refl

or-false : (b : Bool) → b || false ≡ b
or-false true = refl
or-false false = refl

arrives-here : (e : Entry) (o : Option Content) (p : Place) → same_path p e.0 ≡ true → is_there is_addition p (arrives e o) ≡ is_added o (Some e.1)
arrives-here e None p s = s
arrives-here e (Some before) p s = by (same_kind before e.1) (same_content before e.1)
  where
    by : (a b : Bool) → is_there is_addition p (cond a (cond b None (Some (Modification e.0 e.1))) (Some (Addition e.0 e.1))) ≡ not a
    by true true = refl
    by true false = refl
    by false b = s

arrives-past : (e : Entry) (o : Option Content) (p : Place) → same_path p e.0 ≡ false → is_there is_addition p (arrives e o) ≡ false
arrives-past e None p s = s
arrives-past e (Some before) p s = by (same_kind before e.1) (same_content before e.1)
  where
    by : (a b : Bool) → is_there is_addition p (cond a (cond b None (Some (Modification e.0 e.1))) (Some (Addition e.0 e.1))) ≡ false
    by true true = refl
    by true false = refl
    by false b = s

departs-here : (e : Entry) (o : Option Content) (p : Place) → same_path p e.0 ≡ true → is_there is_deletion p (departs e o) ≡ is_added o (Some e.1)
departs-here e None p s = s
departs-here e (Some now) p s = by (same_kind e.1 now) ∙ ap not (kind-swap e.1 now)
  where
    by : (a : Bool) → is_there is_deletion p (cond a None (Some (Deletion e.0))) ≡ not a
    by true = refl
    by false = s

departs-past : (e : Entry) (o : Option Content) (p : Place) → same_path p e.0 ≡ false → is_there is_deletion p (departs e o) ≡ false
departs-past e None p s = s
departs-past e (Some now) p s = by (same_kind e.1 now)
  where
    by : (a : Bool) → is_there is_deletion p (cond a None (Some (Deletion e.0))) ≡ false
    by true = refl
    by false = s

added-none : (o : Option Content) → is_added o None ≡ false
added-none None = refl
added-none (Some before) = refl

-- a change of each entry of a map, by what stands at its place in another
some-changed : (kind : Test) (change : Entry → Option Content → Option Change) (other : FolderMap)
    → ((e : Entry) (o : Option Content) (p : Place) → same_path p e.0 ≡ true → is_there kind p (change e o) ≡ is_added o (Some e.1))
    → ((e : Entry) (o : Option Content) (p : Place) → same_path p e.0 ≡ false → is_there kind p (change e o) ≡ false)
    → (es : FolderMap) → Ascends es → (p : Place)
    → some_of kind (same_path p) (filter_map (λ e. change e (content_at other e.0)) es) ≡ is_added (content_at other p) (content_at es p)
some-changed kind change other here past [] ascends p = sym (added-none (content_at other p))
some-changed kind change other here past (e ∷ es) ascends p =
    some-cons kind p (change e (content_at other e.0)) (filter_map (λ e. change e (content_at other e.0)) es)
    ∙ ap (λ (b : Bool). is_there kind p (change e (content_at other e.0)) || b) (some-changed kind change other here past es (ascends_tail e es ascends) p)
    ∙ by (same_path p e.0) refl
  where
    by : (b : Bool) → same_path p e.0 ≡ b
        → is_there kind p (change e (content_at other e.0)) || is_added (content_at other p) (content_at es p) ≡ is_added (content_at other p) (content_at (e ∷ es) p)
    by true s =
        let place : p ≡ e.0 = same_path_is p e.0 s in
        let gone : content_at es p ≡ None = ap (content_at es) place ∙ absent_before e.0 es (ascends_head e es ascends) in
        (λ i. (here e (content_at other e.0) p s ∙ ap (λ q. is_added (content_at other q) (Some e.1)) (sym place)) i || is_added (content_at other p) (gone i))
        ∙ ap (λ (b : Bool). is_added (content_at other p) (Some e.1) || b) (added-none (content_at other p))
        ∙ or-false (is_added (content_at other p) (Some e.1))
        ∙ ap (is_added (content_at other p)) (sym (content_at_here e es p s))
    by false s =
        ap (λ (b : Bool). b || is_added (content_at other p) (content_at es p)) (past e (content_at other e.0) p s)
        ∙ ap (is_added (content_at other p)) (sym (content_at_past e es p s))

some-reverse : (kind : Test) (p : Place) (cs : List Change) → some_of kind (same_path p) (reverse cs) ≡ some_of kind (same_path p) cs
some-reverse kind p [] = refl
some-reverse kind p (c ∷ cs) =
    ap (some_of kind (same_path p)) (reverse-cons c cs)
    ∙ list_any-append (λ x. kind x && same_path p (place_of x)) (reverse cs) (c ∷ [])
    ∙ ap (λ (b : Bool). b || (kind c && same_path p (place_of c) || false)) (some-reverse kind p cs)
    ∙ swap (some_of kind (same_path p) cs) (kind c && same_path p (place_of c))
  where
    swap : (a b : Bool) → a || (b || false) ≡ b || a
    swap true true = refl
    swap true false = refl
    swap false true = refl
    swap false false = refl

none-changed : (kind : Test) (change : Entry → Option Change) (p : Place) → ((e : Entry) → is_there kind p (change e) ≡ false)
    → (es : FolderMap) → some_of kind (same_path p) (filter_map change es) ≡ false
none-changed kind change p no-one [] = refl
none-changed kind change p no-one (e ∷ es) =
    some-cons kind p (change e) (filter_map change es) ∙ (λ i. no-one e i || none-changed kind change p no-one es i)

no-addition : (p : Place) (new : FolderMap) (e : Entry) → is_there is_addition p (departure new e) ≡ false
no-addition p new e = by (content_at new e.0)
  where
    one : (b : Bool) → is_there is_addition p (cond b None (Some (Deletion e.0))) ≡ false
    one true = refl
    one false = refl

    by : (o : Option Content) → is_there is_addition p (departs e o) ≡ false
    by None = refl
    by (Some now) = one (same_kind e.1 now)

no-deletion : (p : Place) (old : FolderMap) (e : Entry) → is_there is_deletion p (arrival old e) ≡ false
no-deletion p old e = by (content_at old e.0)
  where
    one : (a b : Bool) → is_there is_deletion p (cond a (cond b None (Some (Modification e.0 e.1))) (Some (Addition e.0 e.1))) ≡ false
    one true true = refl
    one true false = refl
    one false b = refl

    by : (o : Option Content) → is_there is_deletion p (arrives e o) ≡ false
    by None = refl
    by (Some before) = one (same_kind before e.1) (same_content before e.1)

come-at : (old new : FolderMap) → IsLibrary new → (p : Place)
    → some_of is_addition (same_path p) (found old new) ≡ is_added (content_at old p) (content_at new p)
come-at old new is p =
    list_any-append (λ x. is_addition x && same_path p (place_of x)) (reverse (filter_map (arrival old) new)) (filter_map (departure new) old)
    ∙ (λ i. (some-reverse is_addition p (filter_map (arrival old) new) ∙ some-changed is_addition arrives old arrives-here arrives-past new is.ascending p) i
    || none-changed is_addition (departure new) p (no-addition p new) old i)
    ∙ or-false (is_added (content_at old p) (content_at new p))

gone-at : (old new : FolderMap) → IsLibrary old → (p : Place)
    → some_of is_deletion (same_path p) (found old new) ≡ is_added (content_at new p) (content_at old p)
gone-at old new is p =
    list_any-append (λ x. is_deletion x && same_path p (place_of x)) (reverse (filter_map (arrival old) new)) (filter_map (departure new) old)
    ∙ (λ i. (some-reverse is_deletion p (filter_map (arrival old) new) ∙ none-changed is_deletion (arrival old) p (no-deletion p old) new) i
    || some-changed is_deletion departs new departs-here departs-past old is.ascending p i)

-- ---- closed

some-there : (o : Option Content) → folder_there o ≡ true → (x : Content) × (o ≡ Some x) × (is_folder x ≡ true)
some-there None e = absurd (true≢false (sym e))
some-there (Some x) e = (x, refl, e)

named-over : (t q : Place) → same_path t [] ≡ false → is_over t q ≡ true → same_path q [] ≡ false
named-over [] q d o = absurd (true≢false d)
named-over (n ∷ t) [] d o = absurd (true≢false (sym o))
named-over (n ∷ t) (m ∷ q) d o = refl

above-folder : (library : FolderMap) → IsLibrary library → (t : Place) → same_path t [] ≡ false → (n : ℕ) (p : Place) → length p ≤ n
    → (x : Content) → content_at library p ≡ Some x → is_below t p ≡ true → folder_there (content_at library t) ≡ true
above-folder library is t named n [] l x e b = absurd (none t b)
  where
    none : (t : Place) → is_below t [] ≡ true → ⊥
    none [] e = true≢false (sym e)
    none (k ∷ t) e = true≢false (sym e)
above-folder library is t named zero (name ∷ names) l x e b = absurd (omega arith)
above-folder library is t named (suc n) (name ∷ names) l x e b =
    let parent : Place = parent_of (name ∷ names) in
    let over : is_over t (parent_of (name ∷ names)) ≡ true = over-parent t (name ∷ names) b in
    let holds = parent_is_folder library is (name ∷ names) x e (named-over t (parent_of (name ∷ names)) named over) in
    let y = some-there (content_at library (parent_of (name ∷ names))) holds in
    by (same_path t (parent_of (name ∷ names))) refl over holds
    (above-folder library is t named n (parent_of (name ∷ names)) (let k = length-parent name names in omega (arith, k, l)) y.0 y.1)
  where
    by : (c : Bool) → same_path t (parent_of (name ∷ names)) ≡ c → is_over t (parent_of (name ∷ names)) ≡ true
        → folder_there (content_at library (parent_of (name ∷ names))) ≡ true
        → (is_below t (parent_of (name ∷ names)) ≡ true → folder_there (content_at library t) ≡ true) → folder_there (content_at library t) ≡ true
    by true s over holds r = ap (λ q. folder_there (content_at library q)) (same_path_is t (parent_of (name ∷ names)) s) ∙ holds
    by false s over holds r = r (below-from-over t (parent_of (name ∷ names)) over s)

added-some : (before now : Option Content) → is_added before now ≡ true → (x : Content) × (now ≡ Some x)
added-some before None e = absurd (true≢false (sym (sym (added-none before) ∙ e)))
added-some before (Some x) e = (x, refl)

same-folders : (a b : Option Content) → folder_there a ≡ true → folder_there b ≡ true → is_added a b ≡ false
same-folders None b f g = absurd (true≢false (sym f))
same-folders (Some a) None f g = refl
same-folders (Some (Folder a)) (Some (Folder b)) f g = refl
same-folders (Some (Folder a)) (Some (Track b)) f g = absurd (true≢false (sym g))
same-folders (Some (Track a)) (Some b) f g = absurd (true≢false (sym f))

new-folder : (a b : Option Content) → folder_there b ≡ true → (folder_there a ≡ true → ⊥) → is_added a b ≡ true
new-folder None None g n = absurd (true≢false (sym g))
new-folder None (Some b) g n = refl
new-folder (Some a) None g n = absurd (true≢false (sym g))
new-folder (Some (Folder a)) (Some b) g n = absurd (n refl)
new-folder (Some (Track a)) (Some (Folder b)) g n = refl
new-folder (Some (Track a)) (Some (Track b)) g n = absurd (true≢false (sym g))

-- what was added between two that were, one above the other
added-between : (old new : FolderMap) → IsLibrary old → IsLibrary new → (t p : Place)
    → is_added (content_at old t) (content_at new t) ≡ true → is_added (content_at old p) (content_at new p) ≡ true → is_below t p ≡ true
    → is_added (content_at old (parent_of p)) (content_at new (parent_of p)) ≡ true
added-between old new is_old is_new t p a b below =
    new-folder (content_at old (parent_of p)) (content_at new (parent_of p)) there
    (λ f. true≢false (sym a ∙ same-folders (content_at old t) (content_at new t) (before f) now))
  where
    x : (x : Content) × (content_at new p ≡ Some x)
    x = added-some (content_at old p) (content_at new p) b

    named : same_path t [] ≡ false
    named = false_from_ne_true (same_path t []) (λ s. true≢false
        (sym a ∙ ap (λ q. is_added (content_at old q) (content_at new q)) (same_path_is t [] s)
        ∙ ap (is_added (content_at old [])) (absent_root new is_new) ∙ added-none (content_at old [])))

    over : is_over t (parent_of p) ≡ true
    over = over-parent t p below

    there : folder_there (content_at new (parent_of p)) ≡ true
    there = parent_is_folder new is_new p x.0 x.1 (named-over t (parent_of p) named over)

    now : folder_there (content_at new t) ≡ true
    now = above-folder new is_new t named (length p) p (omega arith) x.0 x.1 below

    before : folder_there (content_at old (parent_of p)) ≡ true → folder_there (content_at old t) ≡ true
    before f = by (same_path t (parent_of p)) refl
      where
        by : (c : Bool) → same_path t (parent_of p) ≡ c → folder_there (content_at old t) ≡ true
        by true s = ap (λ q. folder_there (content_at old q)) (same_path_is t (parent_of p) s) ∙ f
        by false s =
            let y = some-there (content_at old (parent_of p)) f in
            above-folder old is_old t named (length (parent_of p)) (parent_of p) (omega arith) y.0 y.1 (below-from-over t (parent_of p) over s)

closed-by : (kind : Test) (scan : List Change) (old new : FolderMap) → IsLibrary old → IsLibrary new
    → ((p : Place) → some_of kind (same_path p) scan ≡ is_added (content_at old p) (content_at new p)) → IsClosed kind scan
closed-by kind scan old new is_old is_new at = record {
  rootless = at [] ∙ ap (is_added (content_at old [])) (absent_root new is_new) ∙ added-none (content_at old []);
  closed = λ t p a b below. at (parent_of p) ∙ added-between old new is_old is_new t p (sym (at t) ∙ a) (sym (at p) ∙ b) below;
}

-- ---- in order

gone-after : (new : FolderMap) (q : Place) (es : FolderMap) → IsBefore q es
    → AllByRecursion (λ change. (is_deletion change ≡ true) × (path_cmp q (place_of change) ≡ Less)) (filter_map (departure new) es)
gone-after new q [] before = tt
gone-after new q (e ∷ es) before = by (content_at new e.0) (gone-after new q es before.1)
  where
    rest : List Change
    rest = filter_map (departure new) es

    Later : List Change → Type 0
    Later = AllByRecursion (λ change. (is_deletion change ≡ true) × (path_cmp q (place_of change) ≡ Less))

    one : (b : Bool) → Later rest → Later (cons_option (cond b None (Some (Deletion e.0))) rest)
    one true r = r
    one false r = ((refl, before.0), r)

    by : (o : Option Content) → Later rest → Later (cons_option (departs e o) rest)
    by None r = ((refl, before.0), r)
    by (Some now) r = one (same_kind e.1 now) r

gone-in-order : (new es : FolderMap) → Ascends es → InOrder (filter_map (departure new) es)
gone-in-order new [] ascends = tt
gone-in-order new (e ∷ es) ascends =
    by (content_at new e.0) (gone-in-order new es (ascends_tail e es ascends)) (gone-after new e.0 es (ascends_head e es ascends))
  where
    rest : List Change
    rest = filter_map (departure new) es

    one : (b : Bool) → InOrder rest → Follows (Deletion e.0) rest → InOrder (cons_option (cond b None (Some (Deletion e.0))) rest)
    one true r f = r
    one false r f = (r, f)

    by : (o : Option Content) → InOrder rest → Follows (Deletion e.0) rest → InOrder (cons_option (departs e o) rest)
    by None r f = (r, f)
    by (Some now) r f = one (same_kind e.1 now) r f

-- additions before each of some entries
abbrev Before : List Change → FolderMap → Type 0
Before changes es = AllByRecursion (λ (e : Entry). AllByRecursion (λ d. is_addition d ≡ true → path_cmp (place_of d) e.0 ≡ Less) changes) es

before-more : (e : Entry) (o : Option Content) (changes : List Change) (es : FolderMap) → IsBefore e.0 es → Before changes es
    → Before (cons_option (arrives e o) changes) es
before-more e o changes [] before all = tt
before-more e o changes (f ∷ fs) before all = (by o, before-more e o changes fs before.1 all.1)
  where
    Each : List Change → Type 0
    Each = AllByRecursion (λ d. is_addition d ≡ true → path_cmp (place_of d) f.0 ≡ Less)

    one : (a b : Bool) → Each (cons_option (cond a (cond b None (Some (Modification e.0 e.1))) (Some (Addition e.0 e.1))) changes)
    one true true = all.0
    one true false = (λ k. absurd (true≢false (sym k)), all.0)
    one false b = (λ k. before.0, all.0)

    by : (o : Option Content) → Each (cons_option (arrives e o) changes)
    by None = (λ k. before.0, all.0)
    by (Some was) = one (same_kind was e.1) (same_content was e.1)

order-more : (e : Entry) (o : Option Content) (changes : List Change) → InOrder changes → Follows (Addition e.0 e.1) changes
    → InOrder (cons_option (arrives e o) changes)
order-more e None changes r f = (r, f)
order-more e (Some was) changes r f = one (same_kind was e.1) (same_content was e.1)
  where
    one : (a b : Bool) → InOrder (cons_option (cond a (cond b None (Some (Modification e.0 e.1))) (Some (Addition e.0 e.1))) changes)
    one true true = r
    one true false = (r, tt)
    one false b = (r, f)

reverse-more : (change : Option Change) (changes older : List Change) → reverse (cons_option change changes) ++ older ≡ reverse changes ++ cons_option change older
reverse-more None changes older = refl
reverse-more (Some change) changes older =
    ap (λ (l : List Change). l ++ older) (reverse-cons change changes) ∙ append_assoc (reverse changes) (change ∷ []) older

come-in-order : (old es : FolderMap) (changes : List Change) → Ascends es → InOrder changes → Before changes es
    → InOrder (reverse (filter_map (arrival old) es) ++ changes)
come-in-order old [] changes ascends r all = r
come-in-order old (e ∷ es) changes ascends r all =
    subst InOrder (sym (reverse-more (arrival old e) (filter_map (arrival old) es) changes))
    (come-in-order old es (cons_option (arrival old e) changes) (ascends_tail e es ascends)
    (order-more e (content_at old e.0) changes r all.0)
    (before-more e (content_at old e.0) changes es (ascends_head e es ascends) all.1))

none-before : (new es fs : FolderMap) → Before (filter_map (departure new) es) fs
none-before new es [] = tt
none-before new es (f ∷ fs) = (none es, none-before new es fs)
  where
    Each : List Change → Type 0
    Each = AllByRecursion (λ d. is_addition d ≡ true → path_cmp (place_of d) f.0 ≡ Less)

    one : (e : Entry) (cs : List Change) (b : Bool) → Each cs → Each (cons_option (cond b None (Some (Deletion e.0))) cs)
    one e cs true r = r
    one e cs false r = (λ k. absurd (true≢false (sym k)), r)

    by : (e : Entry) (cs : List Change) (o : Option Content) → Each cs → Each (cons_option (departs e o) cs)
    by e cs None r = (λ k. absurd (true≢false (sym k)), r)
    by e cs (Some now) r = one e cs (same_kind e.1 now) r

    none : (es : FolderMap) → Each (filter_map (departure new) es)
    none [] = tt
    none (e ∷ es) = by e (filter_map (departure new) es) (content_at new e.0) (none es)

pub found-orderly : (old new : FolderMap) → IsLibrary old → IsLibrary new → IsOrderly (found old new)
found-orderly old new is_old is_new = record {
  in_order = come-in-order old new (filter_map (departure new) old) is_new.ascending (gone-in-order new old is_old.ascending) (none-before new old new);
  come = closed-by is_addition (found old new) old new is_old is_new (come-at old new is_new);
  gone = closed-by is_deletion (found old new) new old is_new is_old (gone-at old new is_old);
}
