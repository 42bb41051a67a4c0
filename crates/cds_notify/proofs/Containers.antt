-- A span of changes has at most two containers for each change.
use Rattle.std.proofs.Common.{◌≡◌, ℕ, zero, suc, ◌+◌, ◌-◌, ◌*◌, ◌<◌, ◌≤◌, Bool, true, false, cond, ◌&&◌, nat_eq, nat_le, Option, Some, None, is_some, max, List, [], ◌∷◌, length, filter, refl, ◌∙◌, arith, true≢false, eqb-true, ne_eqb}
use Rattle.std.specs.List.{count_by, filter_map, cons_option, range_with_len}
use Rattle.std.specs.Option.{option_map}
use Rattle.std.proofs.lemmas.Bool.Decides.{nat_tests}
use Rattle.cds_object.specs.Path.{parent_of}
use Rattle.cds_object.specs.Object.{is_folder}
use Rattle.cds_catalog.specs.History.{History, changes_of, place_of, is_addition}
use Rattle.cds_catalog.specs.Catalog.{id_of}
use Rattle.cds_catalog.specs.declared.change.Change.{Change}
use Rattle.cds_catalog.specs.declared.change.Change.TheVariants.{Deletion, Addition, Modification}
use Rattle.cds_changes.specs.Containers.{adds_container, is_in_container, last_touch, was_deleted, changes_to}
use Rattle.cds_commands.specs.Releases.{Release, released_containers}
use Rattle.cds_object.specs.declared.event.Event.{Event}
use Rattle.cds_notify.specs.Propertyset.{propertyset_text}
use Rattle.cds_notify.specs.Laws.{AreNumbers}
use Rattle.cds_notify.proofs.Lengths.{bodies-short}

abbrev count : (ℕ → Bool) → List ℕ → ℕ
count p xs = length (filter p xs)

-- ---- one number stands once at most in a row

none-above : (v a n : ℕ) → v < a → count (nat_eq v) (range_with_len a n) ≡ 0
none-above v a zero l = refl
none-above v a (suc n) l =
    let apart : nat_eq v a ≡ false = ne_eqb v a (λ e. omega (arith, e, l)) in
    (λ i. length (cond (apart i) (a ∷ filter (nat_eq v) (range_with_len (a + 1) n)) (filter (nat_eq v) (range_with_len (a + 1) n)))) ∙ none-above v (a + 1) n (omega (arith, l))

once : (v a n : ℕ) → count (nat_eq v) (range_with_len a n) ≤ 1
once v a zero = omega arith
once v a (suc n) = by (nat_eq v a) refl (once v (a + 1) n)
  where
    by : (b : Bool) → nat_eq v a ≡ b → count (nat_eq v) (range_with_len (a + 1) n) ≤ 1
        → length (cond b (a ∷ filter (nat_eq v) (range_with_len (a + 1) n)) (filter (nat_eq v) (range_with_len (a + 1) n))) ≤ 1
    by true e l = let same = eqb-true v a e in let none = none-above v (a + 1) n (omega (arith, same)) in omega (arith, none)
    by false e l = l

none : (xs : List ℕ) → count (λ x. false) xs ≡ 0
none [] = refl
none (x ∷ xs) = none xs

-- what passes one test of three is counted by them
three : (p q r s : ℕ → Bool) (xs : List ℕ) → ((x : ℕ) → s x ≡ cond (p x) true (cond (q x) true (r x))) → count s xs ≤ count p xs + count q xs + count r xs
three p q r s [] h = omega arith
three p q r s (x ∷ xs) h = by (p x) (q x) (r x) (s x) (h x) (three p q r s xs h)
  where
    by : (a b c d : Bool) → d ≡ cond a true (cond b true c) → count s xs ≤ count p xs + count q xs + count r xs
        → length (cond d (x ∷ filter s xs) (filter s xs))
        ≤ length (cond a (x ∷ filter p xs) (filter p xs)) + length (cond b (x ∷ filter q xs) (filter q xs)) + length (cond c (x ∷ filter r xs) (filter r xs))
    by true true true d e l = at d l where
      at : (d : Bool) → count s xs ≤ count p xs + count q xs + count r xs → length (cond d (x ∷ filter s xs) (filter s xs)) ≤ suc (count p xs) + suc (count q xs) + suc (count r xs)
      at true l = omega (arith, l)
      at false l = omega (arith, l)
    by true true false d e l = at d l where
      at : (d : Bool) → count s xs ≤ count p xs + count q xs + count r xs → length (cond d (x ∷ filter s xs) (filter s xs)) ≤ suc (count p xs) + suc (count q xs) + count r xs
      at true l = omega (arith, l)
      at false l = omega (arith, l)
    by true false true d e l = at d l where
      at : (d : Bool) → count s xs ≤ count p xs + count q xs + count r xs → length (cond d (x ∷ filter s xs) (filter s xs)) ≤ suc (count p xs) + count q xs + suc (count r xs)
      at true l = omega (arith, l)
      at false l = omega (arith, l)
    by true false false d e l = at d l where
      at : (d : Bool) → count s xs ≤ count p xs + count q xs + count r xs → length (cond d (x ∷ filter s xs) (filter s xs)) ≤ suc (count p xs) + count q xs + count r xs
      at true l = omega (arith, l)
      at false l = omega (arith, l)
    by false true true d e l = at d l where
      at : (d : Bool) → count s xs ≤ count p xs + count q xs + count r xs → length (cond d (x ∷ filter s xs) (filter s xs)) ≤ count p xs + suc (count q xs) + suc (count r xs)
      at true l = omega (arith, l)
      at false l = omega (arith, l)
    by false true false d e l = at d l where
      at : (d : Bool) → count s xs ≤ count p xs + count q xs + count r xs → length (cond d (x ∷ filter s xs) (filter s xs)) ≤ count p xs + suc (count q xs) + count r xs
      at true l = omega (arith, l)
      at false l = omega (arith, l)
    by false false true d e l = at d l where
      at : (d : Bool) → count s xs ≤ count p xs + count q xs + count r xs → length (cond d (x ∷ filter s xs) (filter s xs)) ≤ count p xs + count q xs + suc (count r xs)
      at true l = omega (arith, l)
      at false l = omega (arith, l)
    by false false false true e l = absurd (true≢false e)
    by false false false false e l = l

-- ---- what changes touch

module _ (first from a n : ℕ) where
  abbrev row : List ℕ
  row = range_with_len a n

  abbrev touched : List Change → ℕ → Bool
  touched changes id = is_some (last_touch first from id changes)

  adds-once : (older : List Change) (change : Change) → count (λ id. adds_container id older change) row ≤ 1
  adds-once older (Addition path content) = by (is_folder content)
    where
      by : (b : Bool) → count (λ id. b && nat_eq (id_of (Addition path content ∷ older) path) id) row ≤ 1
      by true = once (id_of (Addition path content ∷ older) path) a n
      by false = let zero_ = none row in omega (arith, zero_)
  adds-once older (Deletion path) = let zero_ = none row in omega (arith, zero_)
  adds-once older (Modification path content) = let zero_ = none row in omega (arith, zero_)

  few : (changes : List Change) → count (touched changes) row ≤ 2 * (first + length changes - max first from)
  few [] = let zero_ = none row in omega (arith, zero_)
  few (change ∷ older) = by (nat_le (first + length (change ∷ older)) from) refl (few older)
    where
      Goal : (ℕ → Bool) → Type 0
      Goal p = count p row ≤ 2 * (first + length (change ∷ older) - max first from)

      later : Bool → ℕ → Option ℕ
      later b id =
          cond b None
          (cond (adds_container id older change) (Some (first + length (change ∷ older)))
          (cond (is_in_container id older change) (Some (first + length (change ∷ older))) (last_touch first from id older)))

      which : (id : ℕ) → is_some (later false id) ≡ cond (adds_container id older change) true (cond (is_in_container id older change) true (touched older id))
      which id = pick (adds_container id older change) (is_in_container id older change)
        where
          pick : (s t : Bool)
              → is_some (cond s (Some (first + length (change ∷ older))) (cond t (Some (first + length (change ∷ older))) (last_touch first from id older)))
              ≡ cond s true (cond t true (touched older id))
          pick true t = refl
          pick false true = refl
          pick false false = refl

      above : (a b : ℕ) → nat_le a b ≡ false → b < a
      above a b e = grind (arith, nat_tests)

      by : (b : Bool) → nat_le (first + length (change ∷ older)) from ≡ b → count (touched older) row ≤ 2 * (first + length older - max first from)
          → Goal (λ id. is_some (later b id))
      by true e rest = let zero_ = none row in omega (arith, zero_)
      by false e rest =
          let high : from < first + suc (length older) = above (first + suc (length older)) from e in
          let all = three (λ id. adds_container id older change) (λ id. is_in_container id older change) (touched older) (λ id. is_some (later false id)) row which in
          let one = adds-once older change in
          let two = once (id_of older (parent_of (place_of change))) a n in
          omega (arith, high, all, one, two, rest)

-- the pairs are among what was touched
abbrev pair : ℕ → Option ℕ → Option (ℕ × ℕ)
pair id o = option_map (λ number. (id, number)) o

abbrev pair_of : ℕ → ℕ → List Change → ℕ → Option (ℕ × ℕ)
pair_of first from changes id = cond (was_deleted first from id changes) None (pair id (last_touch first from id changes))

fewer-pairs : (first from : ℕ) (changes : List Change) (xs : List ℕ)
    → length (filter_map (pair_of first from changes) xs) ≤ count (λ id. is_some (last_touch first from id changes)) xs
fewer-pairs first from changes [] = omega arith
fewer-pairs first from changes (x ∷ xs) = by (was_deleted first from x changes) (last_touch first from x changes) (fewer-pairs first from changes xs)
  where
    others : List (ℕ × ℕ)
    others = filter_map (pair_of first from changes) xs

    counted : List ℕ
    counted = filter (λ id. is_some (last_touch first from id changes)) xs

    by : (b : Bool) (o : Option ℕ) → length others ≤ length counted
        → length (cons_option (cond b None (pair x o)) others) ≤ length (cond (is_some o) (x ∷ counted) counted)
    by true None l = l
    by true (Some n) l = omega (arith, l)
    by false None l = l
    by false (Some n) l = omega (arith, l)

-- the changes up to a number
up-to : (first to : ℕ) (changes : List Change) (from : ℕ) → first + length (changes_to first to changes) - max first from ≤ to - from
up-to first to [] from = omega arith
up-to first to (change ∷ older) from = by (nat_le (first + length (change ∷ older)) to) refl (up-to first to older from)
  where
    below : (a b : ℕ) → nat_le a b ≡ true → a ≤ b
    below a b e = grind (arith, nat_tests)

    by : (b : Bool) → nat_le (first + length (change ∷ older)) to ≡ b → first + length (changes_to first to older) - max first from ≤ to - from
        → first + length (cond b (change ∷ older) (changes_to first to older)) - max first from ≤ to - from
    by true e l = let low = below (first + suc (length older)) to e in omega (arith, low)
    by false e l = l

pub containers-few : (history : History) (release : Release) → length (released_containers history release) ≤ 2 * (release.to - release.from)
containers-few history release =
    let pairs = fewer-pairs history.first release.from changes (range_with_len 0 (count_by is_addition changes + 1)) in
    let some = few history.first release.from 0 (count_by is_addition changes + 1) changes in
    let most = up-to history.first release.to (changes_of history.maps) release.from in
    omega (arith, pairs, some, most)
  where
    changes : List Change
    changes = changes_to history.first release.to (changes_of history.maps)

pub released-short : (history : History) (release : Release) (events : List Event) → AreNumbers release.to (released_containers history release) events
    → length events ≤ 262144 → release.to - release.from ≤ 262144
    → length (propertyset_text release.to (released_containers history release) events) < 66000000
released-short history release events fit many size =
    let some = containers-few history release in
    bodies-short release.to (released_containers history release) events fit many (omega (arith, some, size))
