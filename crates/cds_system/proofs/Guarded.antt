-- Entries that are given one after another are a tree.
use Rattle.std.proofs.Common.{◌≡◌, ℕ, Bool, true, false, not, cond, ◌&&◌, ◌||◌, List, [], ◌∷◌, ◌++◌, Option, Some, None, is_some, IsTrue, refl, sym, ap, ◌∙◌, subst, true≢false}
use Rattle.std.specs.List.{list_any, list_all}
use Rattle.std.specs.Ordering.{nat_cmp}
use Rattle.std.specs.Cmp.Lexicographic.{slice_cmp}
use Rattle.std.specs.BTreeMap.{BTreeMap, get, is_at as is_at_key}
use Rattle.std.specs.Str.{bytes_eq}
use Rattle.std.proofs.lemmas.Bool.{and_parts}
use Rattle.std.proofs.lemmas.Map.Text.{is_eq-slice_cmp}
use Rattle.std.proofs.lemmas.Slice.Eq.{bytes_eq-Decides}
use Rattle.cds_outside.specs.declared.folder.Entry.{Entry}
use Rattle.cds_outside.specs.declared.folder.Entry.TheVariants.{Folder, File, End}
use Rattle.cds_outside.specs.Entries.{all_differ, is_at, is_folder_at, is_held, is_in, is_name, is_new, is_parent_of, is_path_held, is_tree}
use Rattle.cds_system.specs.Given.{Fits, GivesEntry, IsEntryAt, IsKind, Knows, is_folder_entry}

-- ---- tests

or-left : (a b : Bool) → a ≡ true → (a || b) ≡ true
or-left true b is = refl
or-left false b is = absurd (true≢false (sym is))

or-right : (a b : Bool) → b ≡ true → (a || b) ≡ true
or-right true b is = refl
or-right false b is = is

or-more : (a b c : Bool) → (b ≡ true → c ≡ true) → (a || b) ≡ true → (a || c) ≡ true
or-more true b c f is = refl
or-more false b c f is = f is

and-both : (a b : Bool) → a ≡ true → b ≡ true → (a && b) ≡ true
and-both true b is other = other
and-both false b is other = is

not-true : (b : Bool) → not b ≡ true → b ≡ false
not-true true is = absurd (true≢false (sym is))
not-true false is = refl

-- ---- one more entry

any-more : (test : Entry → Bool) (xs : List Entry) (y : Entry) → list_any test (xs ++ y ∷ []) ≡ (list_any test xs || test y)
any-more test [] y = or-false (test y)
  where
    or-false : (b : Bool) → (b || false) ≡ b
    or-false true = refl
    or-false false = refl
any-more test (x ∷ xs) y = ap (λ b. test x || b) (any-more test xs y) ∙ regroup (test x) (list_any test xs) (test y)
  where
    regroup : (a b c : Bool) → (a || (b || c)) ≡ ((a || b) || c)
    regroup true b c = refl
    regroup false b c = refl

any-kept : (test : Entry → Bool) (xs : List Entry) (y : Entry) → list_any test xs ≡ true → list_any test (xs ++ y ∷ []) ≡ true
any-kept test xs y is = any-more test xs y ∙ or-left (list_any test xs) (test y) is

any-last : (test : Entry → Bool) (xs : List Entry) (y : Entry) → test y ≡ true → list_any test (xs ++ y ∷ []) ≡ true
any-last test xs y is = any-more test xs y ∙ or-right (list_any test xs) (test y) is

none-more : (test : Entry → Bool) (xs : List Entry) (y : Entry) → list_any test xs ≡ false → test y ≡ false → list_any test (xs ++ y ∷ []) ≡ false
none-more test xs y none other = any-more test xs y ∙ ap (λ b. b || test y) none ∙ other

all-more : (test : Entry → Bool) (xs : List Entry) (y : Entry) → list_all test xs ≡ true → test y ≡ true → list_all test (xs ++ y ∷ []) ≡ true
all-more test [] y all one = and-both (test y) true one refl
all-more test (x ∷ xs) y all one =
    let parts = and_parts (test x) (list_all test xs) all in
    and-both (test x) (list_all test (xs ++ y ∷ [])) parts.0 (all-more test xs y parts.1 one)

-- ---- paths

same-bytes : (xs ys : List ℕ) → bytes_eq xs ys ≡ true → xs ≡ ys
same-bytes xs ys is = (bytes_eq-Decides xs ys).0 is

itself : (xs : List ℕ) → bytes_eq xs xs ≡ true
itself xs = (bytes_eq-Decides xs xs).1 refl

other-way : (xs ys : List ℕ) → bytes_eq xs ys ≡ false → bytes_eq ys xs ≡ false
other-way xs ys differ =
    elim (bytes_eq ys xs) as (λ b. bytes_eq ys xs ≡ b → b ≡ false) [
      | true ↦ λ is. absurd (true≢false (sym (itself xs) ∙ ap (λ zs. bytes_eq xs zs) (sym (same-bytes ys xs is)) ∙ differ))
      | false ↦ λ is. refl
    ] refl

elsewhere : (at path : List ℕ) (e : Entry) → IsEntryAt path e → bytes_eq path at ≡ false → is_at at e ≡ false
elsewhere at path (Folder own) is differ = ap (λ p. bytes_eq p at) is ∙ differ
elsewhere at path (File own size) is differ = ap (λ p. bytes_eq p at) is ∙ differ
elsewhere at path End is differ = absurd is

-- ---- a tree and an entry that fits

new-still : (gs : List Entry) (g e : Entry) (path : List ℕ) → IsEntryAt path e → is_new gs g ≡ true → is_at path g ≡ false → is_new (gs ++ e ∷ []) g ≡ true
new-still gs (Folder own) e path at new other =
    ap not (none-more (is_at own) gs e (not-true (list_any (is_at own) gs) new) (elsewhere own path e at (other-way own path other)))
new-still gs (File own size) e path at new other =
    ap not (none-more (is_at own) gs e (not-true (list_any (is_at own) gs) new) (elsewhere own path e at (other-way own path other)))
new-still gs End e path at new other = absurd (true≢false (sym new))

new-alone : (e : Entry) (path : List ℕ) → IsEntryAt path e → is_new [] e ≡ true
new-alone (Folder own) path at = refl
new-alone (File own size) path at = refl
new-alone End path at = absurd at

none-parts : (a b : Bool) → (a || b) ≡ false → (a ≡ false) × (b ≡ false)
none-parts true b is = absurd (true≢false is)
none-parts false b is = (refl, is)

differ-more : (given : List Entry) (e : Entry) (path : List ℕ) → IsEntryAt path e → all_differ given ≡ true → list_any (is_at path) given ≡ false →
    all_differ (given ++ e ∷ []) ≡ true
differ-more [] e path at differ new = and-both (is_new [] e) true (new-alone e path at) refl
differ-more (g ∷ gs) e path at differ new =
    let parts = and_parts (is_new gs g) (all_differ gs) differ in
    let none = none-parts (is_at path g) (list_any (is_at path) gs) new in
    and-both (is_new (gs ++ e ∷ []) g) (all_differ (gs ++ e ∷ [])) (new-still gs g e path at parts.0 none.0) (differ-more gs e path at parts.1 none.1)

path-held : (given : List Entry) (e : Entry) (path : List ℕ) → is_path_held given path ≡ true → is_path_held (given ++ e ∷ []) path ≡ true
path-held given e path held = or-more (is_name path) (list_any (is_parent_of path) given) (list_any (is_parent_of path) (given ++ e ∷ [])) (any-kept (is_parent_of path) given e) held

held-still : (given : List Entry) (e g : Entry) → is_held given g ≡ true → is_held (given ++ e ∷ []) g ≡ true
held-still given e (Folder path) held = path-held given e path held
held-still given e (File path size) held = path-held given e path held
held-still given e End held = absurd (true≢false (sym held))

held-itself : (given : List Entry) (e : Entry) (path : List ℕ) → IsEntryAt path e → is_path_held given path ≡ true → is_held (given ++ e ∷ []) e ≡ true
held-itself given (Folder own) path at held = path-held given (Folder own) own (ap (is_path_held given) at ∙ held)
held-itself given (File own size) path at held = path-held given (File own size) own (ap (is_path_held given) at ∙ held)
held-itself given End path at held = absurd at

all-held : (given : List Entry) (e : Entry) (xs : List Entry) → list_all (is_held given) xs ≡ true → list_all (is_held (given ++ e ∷ [])) xs ≡ true
all-held given e [] held = refl
all-held given e (x ∷ xs) held =
    let parts = and_parts (is_held given x) (list_all (is_held given) xs) held in
    and-both (is_held (given ++ e ∷ []) x) (list_all (is_held (given ++ e ∷ [])) xs) (held-still given e x parts.0) (all-held given e xs parts.1)

pub tree-more : (given : List Entry) (e : Entry) (path : List ℕ) → is_tree given ≡ true → Fits given path → IsEntryAt path e → is_tree (given ++ e ∷ []) ≡ true
tree-more given e path tree fits at =
    let parts = and_parts (all_differ given) (list_all (is_held given) given) tree in
    and-both (all_differ (given ++ e ∷ [])) (list_all (is_held (given ++ e ∷ [])) (given ++ e ∷ []))
    (differ-more given e path at parts.0 fits.0)
    (all-more (is_held (given ++ e ∷ [])) given e (all-held given e given parts.1) (held-itself given e path at fits.1))

-- ---- what the map knows

kind-still : (given : List Entry) (e : Entry) (path at : List ℕ) → IsEntryAt path e → bytes_eq path at ≡ false → (kind : Option Bool) →
    IsKind at given kind → IsKind at (given ++ e ∷ []) kind
kind-still given e path at is differ None known = none-more (is_at at) given e known (elsewhere at path e is differ)
kind-still given e path at is differ (Some true) known = any-kept (is_folder_at at) given e known
kind-still given e path at is differ (Some false) known = tt

kind-last : (given : List Entry) (e : Entry) (path at : List ℕ) → IsEntryAt path e → bytes_eq path at ≡ true → IsKind at (given ++ e ∷ []) (Some (is_folder_entry e))
kind-last given (Folder own) path at is same = any-last (is_folder_at at) given (Folder own) (ap (λ p. bytes_eq p at) is ∙ same)
kind-last given (File own size) path at is same = tt
kind-last given End path at is same = absurd is

pub knows-more : (before after : BTreeMap (List ℕ) Bool) (given : List Entry) (e : Entry) (path : List ℕ) → Knows before given → IsEntryAt path e →
    ((q : List ℕ) → get (slice_cmp nat_cmp) after q ≡ cond (is_at_key (slice_cmp nat_cmp path) q) (Some (is_folder_entry e)) (get (slice_cmp nat_cmp) before q)) →
    Knows after (given ++ e ∷ [])
knows-more before after given e path knows at puts q = subst (λ kind. IsKind q (given ++ e ∷ []) kind) (sym (puts q)) (by (is_at_key (slice_cmp nat_cmp path) q) (sym (is_eq-slice_cmp path q)))
  where
    by : (b : Bool) → bytes_eq path q ≡ b → IsKind q (given ++ e ∷ []) (cond b (Some (is_folder_entry e)) (get (slice_cmp nat_cmp) before q))
    by true same = kind-last given e path q at same
    by false other = kind-still given e path q at other (get (slice_cmp nat_cmp) before q) (knows q)

pub knows-nothing : (places : BTreeMap (List ℕ) Bool) → ((q : List ℕ) → get (slice_cmp nat_cmp) places q ≡ None) → Knows places []
knows-nothing places none q = subst (λ kind. IsKind q [] kind) (sym (none q)) refl

-- ---- what it says

pub new-there : (places : BTreeMap (List ℕ) Bool) (given : List Entry) (path : List ℕ) → Knows places given →
    not (is_some (get (slice_cmp nat_cmp) places path)) ≡ true → list_any (is_at path) given ≡ false
new-there places given path knows absent = by (get (slice_cmp nat_cmp) places path) absent (knows path)
  where
    by : (kind : Option Bool) → not (is_some kind) ≡ true → IsKind path given kind → list_any (is_at path) given ≡ false
    by None absent known = known
    by (Some b) absent known = absurd (true≢false (sym absent))

pub folder-there : (places : BTreeMap (List ℕ) Bool) (given : List Entry) (path : List ℕ) → Knows places given →
    get (slice_cmp nat_cmp) places path ≡ Some true → list_any (is_folder_at path) given ≡ true
folder-there places given path knows is = subst (λ kind. IsKind path given kind) is (knows path)

pub parent-there : (given : List Entry) (holder path : List ℕ) → is_in holder path ≡ true → list_any (is_folder_at holder) given ≡ true →
    list_any (is_parent_of path) given ≡ true
parent-there [] holder path inside there = absurd (true≢false (sym there))
parent-there (g ∷ gs) holder path inside there = by (is_folder_at holder g) refl there (parent-there gs holder path inside)
  where
    here : (g : Entry) → is_folder_at holder g ≡ true → is_parent_of path g ≡ true
    here (Folder own) is = ap (λ p. is_in p path) (same-bytes own holder is) ∙ inside
    here (File own size) is = absurd (true≢false (sym is))
    here End is = absurd (true≢false (sym is))

    by : (b : Bool) → is_folder_at holder g ≡ b → (b || list_any (is_folder_at holder) gs) ≡ true →
        (list_any (is_folder_at holder) gs ≡ true → list_any (is_parent_of path) gs ≡ true) →
        (is_parent_of path g || list_any (is_parent_of path) gs) ≡ true
    by true is there rest = or-left (is_parent_of path g) (list_any (is_parent_of path) gs) (here g is)
    by false is there rest = or-right (is_parent_of path g) (list_any (is_parent_of path) gs) (rest there)

pub held_there : (given : List Entry) (holder path : List ℕ) → is_in holder path ≡ true → list_any (is_folder_at holder) given ≡ true →
    is_path_held given path ≡ true
held_there given holder path inside there =
    or-right (is_name path) (list_any (is_parent_of path) given) (parent-there given holder path inside there)

-- ---- one entry more

pub one_given : (before after : BTreeMap (List ℕ) Bool) (given now : List Entry) (e : Entry) (path : List ℕ) (is_folder : Bool) →
    now ≡ given ++ e ∷ [] → IsTrue (is_tree given) × Knows before given → Fits given path → IsEntryAt path e → is_folder ≡ is_folder_entry e →
    ((q : List ℕ) → get (slice_cmp nat_cmp) after q ≡ cond (is_at_key (slice_cmp nat_cmp path) q) (Some is_folder) (get (slice_cmp nat_cmp) before q)) →
    IsTrue (is_tree now) × Knows after now
one_given before after given now e path is_folder is known fits at kind puts =
    subst (λ entries. IsTrue (is_tree entries) × Knows after entries) (sym is) (
      tree-more given e path known.0 fits at,
      knows-more before after given e path known.1 at
          (λ q. puts q ∙ ap (λ b. cond (is_at_key (slice_cmp nat_cmp path) q) (Some b) (get (slice_cmp nat_cmp) before q)) kind),
    )

pub gives_entry : (before now : List Entry) (e : Entry) (path : List ℕ) → IsEntryAt path e → Fits before path → now ≡ before ++ e ∷ [] → GivesEntry before e now
gives_entry before now (Folder own) path at fits is = (is, ap (λ p. not (list_any (is_at p) before)) at ∙ ap not fits.0)
gives_entry before now (File own size) path at fits is = (is, ap (λ p. not (list_any (is_at p) before)) at ∙ ap not fits.0)
gives_entry before now End path at fits is = absurd at
