-- If each name is looked up among those before it, it is found exactly if two of them are the same.
use Rattle.std.proofs.Common.{◌≡◌, ◌<◌, ◌+◌, ◌==◌, ◌&&◌, ◌||◌, ℕ, suc, Bool, true, false, not, List, [], ◌∷◌, length, drop, get_or, refl, sym, ◌∙◌, ap, add-one, drop-cons, arith}
use Rattle.std.specs.List.{list_any}
use Rattle.std.specs.Str.{bytes_eq}
use Rattle.std.specs.BTreeMap.{is_at}
use Rattle.std.specs.BTreeSet.{BTreeSet, insert_key}
use Rattle.std.specs.Ordering.{nat_cmp, is_eq, ordering_then, match_ordering}
use Rattle.std.specs.Cmp.{nat_eq_equiv}
use Rattle.std.specs.Cmp.Lexicographic.{slice_cmp, nat_list_eq_equiv}
use Rattle.std.specs.declared.cmp.Ordering.{Ordering}
use Rattle.std.specs.declared.cmp.Ordering.TheVariants.{Less, Equal, Greater}
use Rattle.std.proofs.lemmas.Bool.{and_parts}
use Rattle.std.proofs.lemmas.Slice.Eq.{bytes_eq-Decides}
use Rattle.std.proofs.lemmas.Map.Text.{is_eq-slice_cmp}
use Rattle.cds_markup.specs.NamesSeen.{SeenName, is_hashed, is_among, has_seen, Sees}
use Rattle.cds_markup.specs.Shared.{hash_of}
use Rattle.cds_markup.specs.Namespaces.{same_name, no_attr_twice, no_name_twice}
use Rattle.cds_markup.proofs.Terms.{cases}
use Rattle.cds_markup.specs.declared.name.Attr.{Attr}
use Rattle.cds_markup.specs.declared.tag.TagAttr.{TagAttr}

-- tests

and_swap : (a b : Bool) → (a && b) ≡ (b && a)
and_swap true true = refl
and_swap true false = refl
and_swap false true = refl
and_swap false false = refl

or_turn : (a b c : Bool) → (a || (b || c)) ≡ (b || (a || c))
or_turn true true c = refl
or_turn true false c = refl
or_turn false true c = refl
or_turn false false c = refl

or_again : (a b c : Bool) → a ≡ b → (b || c) ≡ (a || (b || c))
or_again true b c e = ap (λ x. x || c) (sym e)
or_again false b c e = refl

or_four : (a b c d : Bool) → ((a || b) || (c || d)) ≡ ((a || c) || (b || d))
or_four true b c d = refl
or_four false true true d = refl
or_four false true false d = refl
or_four false false c d = refl

apart : (h s t o : Bool) → (not h && (not (s || t) && o)) ≡ (not (h || t) && (not s && o))
apart true s t o = refl
apart false true true o = refl
apart false true false o = refl
apart false false t o = refl

any_same : {X : Type 0} (f g : X → Bool) → ((x : X) → f x ≡ g x) → (xs : List X) → list_any f xs ≡ list_any g xs
any_same f g h [] = refl
any_same f g h (x ∷ xs) = ap (λ b. b || list_any f xs) (h x) ∙ ap (λ b. g x || b) (any_same f g h xs)

any_either : {X : Type 0} (f g : X → Bool) (xs : List X) → list_any (λ x. f x || g x) xs ≡ (list_any f xs || list_any g xs)
any_either f g [] = refl
any_either f g (x ∷ xs) = ap (λ b. (f x || g x) || b) (any_either f g xs) ∙ or_four (f x) (g x) (list_any f xs) (list_any g xs)

any_never : {X : Type 0} (xs : List X) → list_any (λ (x : X). false) xs ≡ false
any_never [] = refl
any_never (x ∷ xs) = any_never xs

-- the order of the set

abbrev order : SeenName → SeenName → Ordering
order x y =
    ordering_then (slice_cmp nat_cmp x.0.now y.0.now)
    (ordering_then (nat_cmp x.1.0 y.1.0) (slice_cmp nat_cmp x.1.1.now y.1.1.now))

abbrev is_name : SeenName → ℕ → List ℕ → List ℕ → Bool
is_name name h s l = is_hashed name.1.0 name.1.1.now h s && bytes_eq name.0.now l

both_equal : (o p : Ordering) → is_eq (ordering_then o p) ≡ (is_eq o && is_eq p)
both_equal Less p = refl
both_equal Equal p = refl
both_equal Greater p = refl

text_equal : (a b : List ℕ) → is_eq (slice_cmp nat_cmp a b) ≡ bytes_eq b a
text_equal a b = is_eq-slice_cmp a b ∙ nat_list_eq_equiv.symm a b

number_equal : (a b : ℕ) → is_eq (nat_cmp a b) ≡ (b == a)
number_equal a b = grind arith

equal_is : (k x : SeenName) → is_eq (order k x) ≡ is_name x k.1.0 k.1.1.now k.0.now
equal_is k x =
    let numbers = nat_cmp k.1.0 x.1.0 in
    let spaces = slice_cmp nat_cmp k.1.1.now x.1.1.now in
    both_equal (slice_cmp nat_cmp k.0.now x.0.now) (ordering_then numbers spaces)
    ∙ ap (λ b. b && is_eq (ordering_then numbers spaces)) (text_equal k.0.now x.0.now)
    ∙ ap (λ b. bytes_eq x.0.now k.0.now && b) (both_equal numbers spaces)
    ∙ ap (λ b. bytes_eq x.0.now k.0.now && (b && is_eq spaces)) (number_equal k.1.0 x.1.0)
    ∙ ap (λ b. bytes_eq x.0.now k.0.now && ((x.1.0 == k.1.0) && b)) (text_equal k.1.1.now x.1.1.now)
    ∙ and_swap (bytes_eq x.0.now k.0.now) (is_hashed x.1.0 x.1.1.now k.1.0 k.1.1.now)

equal_name : (k x : SeenName) (h : ℕ) (s l : List ℕ) → order k x ≡ Equal → is_name k h s l ≡ is_name x h s l
equal_name k x h s l e =
    let same = is_hashed x.1.0 x.1.1.now k.1.0 k.1.1.now in
    let both = and_parts same (bytes_eq x.0.now k.0.now) (sym (equal_is k x) ∙ ap is_eq e) in
    let space = and_parts (x.1.0 == k.1.0) (bytes_eq x.1.1.now k.1.1.now) both.0 in
    sym (ap (λ b. (b && bytes_eq x.1.1.now s) && bytes_eq x.0.now l) (nat_eq_equiv.congr x.1.0 k.1.0 h space.0)
    ∙ ap (λ b. ((k.1.0 == h) && b) && bytes_eq x.0.now l) (nat_list_eq_equiv.congr x.1.1.now k.1.1.now s space.1)
    ∙ ap (λ b. is_hashed k.1.0 k.1.1.now h s && b) (nat_list_eq_equiv.congr x.0.now k.0.now l both.1))

-- what an insertion finds, and what it leaves

pub is_found : (names : List SeenName) (k : SeenName) → list_any (is_at (order k)) names ≡ is_among names k.1.0 k.1.1.now k.0.now
is_found names k = any_same (is_at (order k)) (λ name. is_name name k.1.0 k.1.1.now k.0.now) (equal_is k) names

pub is_added : (names : List SeenName) (k : SeenName) (h : ℕ) (s l : List ℕ) → is_among (insert_key order names k) h s l ≡ (is_name k h s l || is_among names h s l)
is_added [] k h s l = refl
is_added (x ∷ xs) k h s l = by (order k x) refl (is_added xs k h s l) where
  by : (o : Ordering) → order k x ≡ o → is_among (insert_key order xs k) h s l ≡ (is_name k h s l || is_among xs h s l)
      → is_among (match_ordering o (k ∷ x ∷ xs) (x ∷ xs) (x ∷ insert_key order xs k)) h s l ≡ (is_name k h s l || (is_name x h s l || is_among xs h s l))
  by Less e more = refl
  by Equal e more = or_again (is_name k h s l) (is_name x h s l) (is_among xs h s l) (equal_name k x h s l e)
  by Greater e more = ap (λ b. is_name x h s l || b) more ∙ or_turn (is_name x h s l) (is_name k h s l) (is_among xs h s l)

-- the same of equal hashes and texts

pub new_of : (seen : BTreeSet SeenName) (h k : ℕ) (s t l : List ℕ) (new : Bool) → h ≡ k → s ≡ t → new ≡ not (has_seen seen h s l) → new ≡ not (has_seen seen k t l)
new_of seen h k s t l new hashes texts e = e ∙ ap (λ x. not (has_seen seen x s l)) hashes ∙ ap (λ x. not (has_seen seen k x l)) texts

pub sees_of : (old new : BTreeSet SeenName) (h k : ℕ) (s t l : List ℕ) → h ≡ k → s ≡ t → Sees old new h s l → Sees old new k t l
sees_of old new h k s t l hashes texts e i u m =
    e i u m ∙ ap (λ x. (is_hashed x s i u && bytes_eq l m) || has_seen old i u m) hashes
    ∙ ap (λ x. (is_hashed k x i u && bytes_eq l m) || has_seen old i u m) texts

-- Whether each of these is new, if `had` says what was there before.
module _ {A : Type 0} (hash : A → ℕ) (space local : A → List ℕ) where
  abbrev same : A → A → Bool
  same a b = is_hashed (hash a) (space a) (hash b) (space b) && bytes_eq (local a) (local b)

  abbrev pub with_one : A → (ℕ → List ℕ → List ℕ → Bool) → ℕ → List ℕ → List ℕ → Bool
  with_one a had h s l = (is_hashed (hash a) (space a) h s && bytes_eq (local a) l) || had h s l

  abbrev pub are_new : (ℕ → List ℕ → List ℕ → Bool) → List A → Bool
  are_new had [] = true
  are_new had (a ∷ more) = not (had (hash a) (space a) (local a)) && are_new (with_one a had) more

  abbrev differ : List A → Bool
  differ [] = true
  differ (a ∷ more) = not (list_any (same a) more) && differ more

  pub new_alike : (f g : ℕ → List ℕ → List ℕ → Bool) → ((h : ℕ) (s l : List ℕ) → f h s l ≡ g h s l) → (items : List A) → are_new f items ≡ are_new g items
  new_alike f g e [] = refl
  new_alike f g e (a ∷ more) =
      ap (λ b. not b && are_new (with_one a f) more) (e (hash a) (space a) (local a))
      ∙ ap (λ b. not (g (hash a) (space a) (local a)) && b) (new_alike (with_one a f) (with_one a g) (λ h s l. ap (λ b. (is_hashed (hash a) (space a) h s && bytes_eq (local a) l) || b) (e h s l)) more)

  new_differ : (had : ℕ → List ℕ → List ℕ → Bool) (items : List A) → are_new had items ≡ (not (list_any (λ a. had (hash a) (space a) (local a)) items) && differ items)
  new_differ had [] = refl
  new_differ had (a ∷ more) =
      let one : A → Bool = λ b. had (hash b) (space b) (local b) in
      ap (λ b. not (one a) && b) (new_differ (with_one a had) more ∙ ap (λ b. not b && differ more) (any_either (same a) one more))
      ∙ apart (one a) (list_any (same a) more) (list_any one more) (differ more)

  -- at first nothing was seen
  pub none_seen : (had : ℕ → List ℕ → List ℕ → Bool) → ((h : ℕ) (s l : List ℕ) → had h s l ≡ false) → (items : List A) → are_new had items ≡ differ items
  none_seen had none items =
      new_alike had (λ h s l. false) none items ∙ new_differ (λ h s l. false) items ∙ ap (λ b. not b && differ items) (any_never items)

  here : (items : List A) (i : ℕ) (a : A) (had : ℕ → List ℕ → List ℕ → Bool) → i < length items → a ≡ get_or items i a
      → are_new had (drop i items) ≡ (not (had (hash a) (space a) (local a)) && are_new (with_one a had) (drop (i + 1) items))
  here items i a had less is =
      ap (are_new had) (drop-cons items i a less ∙ ap (λ x. x ∷ drop (suc i) items) (sym is) ∙ ap (λ n. a ∷ drop n items) (sym (add-one i)))

  -- one that was seen
  pub seen_again : (items : List A) (i : ℕ) (a : A) (had : ℕ → List ℕ → List ℕ → Bool) (new : Bool) → i < length items → a ≡ get_or items i a
      → new ≡ not (had (hash a) (space a) (local a)) → new ≡ false → false ≡ are_new had (drop i items)
  seen_again items i a had new less is e fails =
      sym (here items i a had less is ∙ ap (λ b. b && are_new (with_one a had) (drop (i + 1) items)) (sym e ∙ fails))

  -- one that is new
  pub seen_first : (items : List A) (i : ℕ) (a : A) (had now : ℕ → List ℕ → List ℕ → Bool) (new : Bool) → i < length items → a ≡ get_or items i a
      → new ≡ not (had (hash a) (space a) (local a)) → new ≡ true → ((h : ℕ) (s l : List ℕ) → now h s l ≡ with_one a had h s l)
      → are_new now (drop (i + 1) items) ≡ are_new had (drop i items)
  seen_first items i a had now new less is e holds adds =
      new_alike now (with_one a had) adds (drop (i + 1) items)
      ∙ sym (here items i a had less is ∙ ap (λ b. b && are_new (with_one a had) (drop (i + 1) items)) (sym e ∙ holds))

-- the two kinds of names

abbrev pub attr_hash : TagAttr → ℕ
attr_hash a = 0

abbrev pub attr_prefix : TagAttr → List ℕ
attr_prefix a = a.name.prefix

abbrev pub attr_local : TagAttr → List ℕ
attr_local a = a.name.local

abbrev pub name_hash : Attr → ℕ
name_hash a = hash_of a.name.space

abbrev pub name_space : Attr → List ℕ
name_space a = a.name.space

abbrev pub name_local : Attr → List ℕ
name_local a = a.name.local

attrs_differ : (items : List TagAttr) → differ attr_hash attr_prefix attr_local items ≡ no_attr_twice items
attrs_differ [] = refl
attrs_differ (a ∷ more) = ap (λ b. not (list_any (same attr_hash attr_prefix attr_local a) more) && b) (attrs_differ more)

-- texts that are the same have one hash
pub hashed_alike : (s t : List ℕ) → is_hashed (hash_of s) s (hash_of t) t ≡ bytes_eq s t
hashed_alike s t = cases (bytes_eq s t)
    (λ e. rw e (ap (λ b. b && true) (ap (λ x. hash_of s == hash_of x) (sym ((bytes_eq-Decides s t).0 e)) ∙ nat_eq_equiv.refl (hash_of s))))
    (λ e. rw e (and_swap (hash_of s == hash_of t) false))

named_alike : (a b : Attr) → same name_hash name_space name_local a b ≡ same_name a.name b.name
named_alike a b = ap (λ c. c && bytes_eq a.name.local b.name.local) (hashed_alike a.name.space b.name.space)

names_differ : (items : List Attr) → differ name_hash name_space name_local items ≡ no_name_twice items
names_differ [] = refl
names_differ (a ∷ more) =
    ap (λ b. not b && differ name_hash name_space name_local more) (any_same (same name_hash name_space name_local a) (λ b. same_name a.name b.name) (named_alike a) more)
    ∙ ap (λ b. not (list_any (λ b. same_name a.name b.name) more) && b) (names_differ more)

none_among : (seen : BTreeSet SeenName) → seen.keys ≡ [] → (h : ℕ) (s l : List ℕ) → has_seen seen h s l ≡ false
none_among seen none h s l = ap (λ names. is_among names h s l) none

pub attrs_begin : (seen : BTreeSet SeenName) (items : List TagAttr) → seen.keys ≡ [] → are_new attr_hash attr_prefix attr_local (has_seen seen) items ≡ no_attr_twice items
attrs_begin seen items none = none_seen attr_hash attr_prefix attr_local (has_seen seen) (none_among seen none) items ∙ attrs_differ items

pub names_begin : (seen : BTreeSet SeenName) (items : List Attr) → seen.keys ≡ [] → are_new name_hash name_space name_local (has_seen seen) items ≡ no_name_twice items
names_begin seen items none = none_seen name_hash name_space name_local (has_seen seen) (none_among seen none) items ∙ names_differ items
