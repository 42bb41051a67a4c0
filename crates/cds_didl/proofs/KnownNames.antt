-- The known ones among names.
use Rattle.std.proofs.Common.{◌≡◌, ◌≤◌, ◌<◌, ◌+◌, ℕ, Bool, true, false, not, cond, ◌&&◌, ◌||◌, Option, Some, None, List, [], ◌∷◌, ◌++◌, length, map, take, get_or, Bor, refl, ap, sym, subst, ◌∙◌, arith}
use Rattle.std.specs.List.{filter_map, cons_option}
use Rattle.std.specs.Str.{bytes_eq}
use Rattle.std.proofs.lemmas.Bool.{or_right}
use Rattle.std.proofs.lemmas.List.{take_more, map-append}
use Rattle.std.proofs.lemmas.List.Elements.{filter_map-append}
use Rattle.std.proofs.lemmas.List.Folds.{list_any-append}
use Rattle.std.proofs.lemmas.Slice.Eq.{bytes_eq-Decides}
use Rattle.cds_didl.specs.Filter.{has_name, is_known, known, name_in, known_in, HaveTheKnown}
use Rattle.cds_didl.proofs.RowRead.{same-bytes}

bytes-same : (xs ys : List ℕ) → bytes_eq xs ys ≡ true → xs ≡ ys
bytes-same xs ys e = (bytes_eq-Decides xs ys).0 e

or-false : (t : Bool) → (t || false) ≡ t
or-false true = refl
or-false false = refl

and-false : (t : Bool) → (t && false) ≡ false
and-false true = refl
and-false false = refl

is-there : (a b : Bool) → a ≡ true → (a && not b) ≡ false → b ≡ true
is-there true true e f = refl
is-there true false e f = absurd (cc)
is-there false b e f = absurd (cc)

has-one-more : (names : List (List ℕ)) (one name : List ℕ) → has_name (names ++ one ∷ []) name ≡ (has_name names name || (bytes_eq one name || false))
has-one-more names one name = list_any-append (λ n. bytes_eq n name) names (one ∷ [])

-- ---- names found one by one

pub none-found : HaveTheKnown [] []
none-found = record { same = λ name is. refl }

pub same-names : (names : List (List ℕ)) → HaveTheKnown names names
same-names names = record { same = λ name is. refl }

-- a name that is unknown, or there already, adds nothing
pub not-new : (found : List (List ℕ)) (one : List ℕ) → (is_known one && not (has_name found one)) ≡ false → HaveTheKnown found (found ++ one ∷ [])
not-new found one e = record { same = λ name is. by name is (bytes_eq one name) refl } where
  by : (name : List ℕ) → is_known name ≡ true → (t : Bool) → bytes_eq one name ≡ t → has_name found name ≡ has_name (found ++ one ∷ []) name
  by name is true s =
      let old : (is_known name && not (has_name found name)) ≡ false = subst (λ n. (is_known n && not (has_name found n)) ≡ false) (bytes-same one name s) e in
      let there : has_name found name ≡ true = is-there (is_known name) (has_name found name) is old in
      there ∙ sym (has-one-more found one name ∙ ap (λ t. t || (bytes_eq one name || false)) there)
  by name is false s =
      sym (has-one-more found one name ∙ ap (λ t. has_name found name || (t || false)) s ∙ or-false (has_name found name))

pub one-more : (found next names : List (List ℕ)) (one : List ℕ) → HaveTheKnown found names → HaveTheKnown next (found ++ one ∷ []) → HaveTheKnown next (names ++ one ∷ [])
one-more found next names one before now = record {
  same = λ name is.
      now.same name is ∙ has-one-more found one name ∙ ap (λ t. t || (bytes_eq one name || false)) (before.same name is)
      ∙ sym (has-one-more names one name);
}

-- ---- in the order of the known names

each-same : (h g : List ℕ → Option (List ℕ)) (names : List (List ℕ)) → ((name : List ℕ) → has_name names name ≡ true → h name ≡ g name) → filter_map h names ≡ filter_map g names
each-same h g [] e = refl
each-same h g (one ∷ names) e =
    ap (λ o. cons_option o (filter_map h names)) (e one (ap (λ t. t || has_name names one) (same-bytes one)))
    ∙ ap (λ l. cons_option (g one) l) (each-same h g names (λ name there. e name (or_right (bytes_eq one name) (has_name names name) there)))

pub same-known : (these others : List (List ℕ)) → HaveTheKnown these others → known_in these ≡ known_in others
unfolding is_known
same-known these others same =
    each-same (name_in these) (name_in others) known (λ name there. ap (λ t. cond t (Some name) None) (same.same name there))

pub one-in-order : (h : List ℕ → Option (List ℕ)) (order : List (Bor (List ℕ))) (i : ℕ) (d : Bor (List ℕ)) → i < length order
    → filter_map h (map (λ n. n.now) (take (i + 1) order)) ≡ filter_map h (map (λ n. n.now) (take i order)) ++ filter_map h ((get_or order i d).now ∷ [])
one-in-order h order i d there =
    ap (λ l. filter_map h (map (λ n. n.now) l)) (take_more order i d there)
    ∙ ap (filter_map h) (map-append (λ n. n.now) (take i order) (get_or order i d ∷ []))
    ∙ filter_map-append h (map (λ n. n.now) (take i order)) ((get_or order i d).now ∷ [])

-- ---- what is kept of names

kept-among : (names all : List (List ℕ)) (name : List ℕ) → has_name (filter_map (name_in names) all) name ≡ (has_name all name && has_name names name)
kept-among names [] name = refl
kept-among names (one ∷ all) name = by (has_name names one) refl (bytes_eq one name) refl (kept-among names all name) where
  rest : List (List ℕ)
  rest = filter_map (name_in names) all

  that : bytes_eq one name ≡ true → has_name names name ≡ has_name names one
  that s = ap (has_name names) (sym (bytes-same one name s))

  by : (a : Bool) → has_name names one ≡ a → (b : Bool) → bytes_eq one name ≡ b → has_name rest name ≡ (has_name all name && has_name names name)
      → has_name (cons_option (cond a (Some one) None) rest) name ≡ ((bytes_eq one name || has_name all name) && has_name names name)
  by true e true s r =
      ap (λ t. t || has_name rest name) s ∙ sym (ap (λ t. (t || has_name all name) && has_name names name) s ∙ that s ∙ e)
  by true e false s r = ap (λ t. t || has_name rest name) s ∙ r ∙ sym (ap (λ t. (t || has_name all name) && has_name names name) s)
  by false e true s r =
      let none : has_name names name ≡ false = that s ∙ e in
      r ∙ ap (λ t. has_name all name && t) none ∙ and-false (has_name all name)
      ∙ sym (ap (λ t. (t || has_name all name) && has_name names name) s ∙ none)
  by false e false s r = r ∙ sym (ap (λ t. (t || has_name all name) && has_name names name) s)

pub kept : (names : List (List ℕ)) (name : List ℕ) → is_known name ≡ true → has_name (known_in names) name ≡ has_name names name
unfolding is_known
kept names name is = kept-among names known name ∙ ap (λ t. t && has_name names name) is

few-among : (names all : List (List ℕ)) → length (filter_map (name_in names) all) ≤ length all
few-among names [] = omega arith
few-among names (one ∷ all) = by (has_name names one) (few-among names all) where
  by : (a : Bool) → length (filter_map (name_in names) all) ≤ length all → length (cons_option (cond a (Some one) None) (filter_map (name_in names) all)) ≤ length (one ∷ all)
  by true h = omega arith
  by false h = omega arith

pub few : (names : List (List ℕ)) → length (known_in names) ≤ 18
few names = few-among names known
