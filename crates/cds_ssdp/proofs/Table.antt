-- What is found is the table of targets.
use Rattle.std.proofs.Common.{◌≡◌, ◌≢◌, ℕ, zero, suc, ◌≤◌, Bool, true, false, cond, ◌||◌, List, [], ◌∷◌, ◌++◌, map, codes, bytes_eq, refl, sym, ap, ◌∙◌, arith, true≢false}
use Rattle.std.specs.Fmt.{digits}
use Rattle.std.specs.Char.{to_ascii_lowercase}
use Rattle.std.proofs.lemmas.Slice.Eq.{bytes_eq-Decides}
use Rattle.cds_ssdp.specs.Targets.{are_same_letters, device_name, device_type, every_target, is_in_version, is_itself, root_device, service_type, targets_of, usn_of}
use Rattle.cds_ssdp.specs.Laws.{TargetsAreTheTable}

root : (id : List ℕ) → targets_of id root_device ≡ root_device ∷ []
unfolding root_device
root id = refl

devices : (id : List ℕ) (version : ℕ) → 1 ≤ version → version ≤ 4 → targets_of id (device_type version) ≡ device_type version ∷ []
unfolding digits root_device device_type service_type
devices id zero low high = absurd (omega (arith, low))
devices id (suc zero) low high = refl
devices id (suc (suc zero)) low high = refl
devices id (suc (suc (suc zero))) low high = refl
devices id (suc (suc (suc (suc zero)))) low high = refl
devices id (suc (suc (suc (suc (suc n))))) low high = absurd (omega (arith, high))

services : (id : List ℕ) (version : ℕ) → 1 ≤ version → version ≤ 4 → targets_of id (service_type version) ≡ service_type version ∷ []
unfolding digits root_device device_type service_type
services id zero low high = absurd (omega (arith, low))
services id (suc zero) low high = refl
services id (suc (suc zero)) low high = refl
services id (suc (suc (suc zero))) low high = refl
services id (suc (suc (suc (suc zero)))) low high = refl
services id (suc (suc (suc (suc (suc n))))) low high = absurd (omega (arith, high))

-- a target that is answered as it is asked for has not the letters of a name
equal : (a b : List ℕ) → bytes_eq a b ≡ true → a ≡ b
equal a b e = (bytes_eq-Decides a b).0 e

apart : (id asked text : List ℕ) → bytes_eq asked text ≡ true → are_same_letters text (device_name id) ≡ false → are_same_letters asked (device_name id) ≡ false
apart id asked text e differ = ap (λ t. are_same_letters t (device_name id)) (equal asked text e) ∙ differ

either : (P : Type 0) (a b : Bool) → (a ≡ true → P) → (b ≡ true → P) → (a || b) ≡ true → P
either P true b f g e = f refl
either P false b f g e = g e

version : (id asked : List ℕ) (type_in : ℕ → List ℕ) → ((n : ℕ) → are_same_letters (type_in n) (device_name id) ≡ false) → is_in_version type_in asked ≡ true
    → are_same_letters asked (device_name id) ≡ false
version id asked type_in differ =
    let P = are_same_letters asked (device_name id) ≡ false in
    either P (bytes_eq asked (type_in 1) || bytes_eq asked (type_in 2) || bytes_eq asked (type_in 3)) (bytes_eq asked (type_in 4))
    (either P (bytes_eq asked (type_in 1) || bytes_eq asked (type_in 2)) (bytes_eq asked (type_in 3))
    (either P (bytes_eq asked (type_in 1)) (bytes_eq asked (type_in 2))
    (λ e. apart id asked (type_in 1) e (differ 1)) (λ e. apart id asked (type_in 2) e (differ 2)))
    (λ e. apart id asked (type_in 3) e (differ 3)))
    (λ e. apart id asked (type_in 4) e (differ 4))

no-device : (id : List ℕ) (n : ℕ) → are_same_letters (device_type n) (device_name id) ≡ false
unfolding device_type device_name
no-device id n = refl

no-service : (id : List ℕ) (n : ℕ) → are_same_letters (service_type n) (device_name id) ≡ false
unfolding service_type device_name
no-service id n = refl

no-root : (id : List ℕ) → are_same_letters root_device (device_name id) ≡ false
unfolding root_device device_name
no-root id = refl

no-letters : (id asked : List ℕ) → is_itself asked ≡ true → are_same_letters asked (device_name id) ≡ false
no-letters id asked =
    let P = are_same_letters asked (device_name id) ≡ false in
    either P (bytes_eq asked root_device || is_in_version device_type asked) (is_in_version service_type asked)
    (either P (bytes_eq asked root_device) (is_in_version device_type asked)
    (λ e. apart id asked root_device e (no-root id)) (version id asked device_type (no-device id)))
    (version id asked service_type (no-service id))

not-both : (a b : Bool) → a ≡ true → (b ≡ true → a ≡ false) → b ≡ false
not-both a true is never = absurd (true≢false (sym is ∙ never refl))
not-both a false is never = refl

own : (id asked : List ℕ) → are_same_letters asked (device_name id) ≡ true → targets_of id asked ≡ device_name id ∷ []
own id asked is =
    let rest = cond (bytes_eq asked (codes "ssdp:all")) (every_target id) [] in
    ap (λ t. cond t (asked ∷ []) (cond (are_same_letters asked (device_name id)) (device_name id ∷ []) rest))
    (not-both (are_same_letters asked (device_name id)) (is_itself asked) is (no-letters id asked))
    ∙ ap (λ t. cond t (device_name id ∷ []) rest) is

all : (id : List ℕ) → targets_of id (codes "ssdp:all") ≡ root_device ∷ device_name id ∷ device_type 4 ∷ service_type 4 ∷ []
unfolding digits root_device device_type service_type device_name
all id = refl

others : (id asked : List ℕ) → is_itself asked ≡ false → are_same_letters asked (device_name id) ≡ false → bytes_eq asked (codes "ssdp:all") ≡ false
    → targets_of id asked ≡ []
others id asked itself letters every =
    ap (λ t. cond t (asked ∷ []) (cond (are_same_letters asked (device_name id)) (device_name id ∷ []) (cond (bytes_eq asked (codes "ssdp:all")) (every_target id) []))) itself
    ∙ ap (λ t. cond t (device_name id ∷ []) (cond (bytes_eq asked (codes "ssdp:all")) (every_target id) [])) letters
    ∙ ap (λ t. cond t (every_target id) []) every

-- and what is no row is found by nothing
differ : (a b : List ℕ) → a ≢ b → bytes_eq a b ≡ false
differ a b apart = by (bytes_eq a b) refl
  where
    by : (t : Bool) → bytes_eq a b ≡ t → t ≡ false
    by true e = absurd (apart (equal a b e))
    by false e = refl

in-none : (type_in : ℕ → List ℕ) (asked : List ℕ) → ((n : ℕ) → 1 ≤ n → n ≤ 4 → asked ≢ type_in n) → is_in_version type_in asked ≡ false
in-none type_in asked apart =
    let a = differ asked (type_in 1) (apart 1 (omega arith) (omega arith)) in
    let b = differ asked (type_in 2) (apart 2 (omega arith) (omega arith)) in
    let c = differ asked (type_in 3) (apart 3 (omega arith) (omega arith)) in
    let d = differ asked (type_in 4) (apart 4 (omega arith) (omega arith)) in
    λ i. a i || b i || c i || d i

no-row : (asked : List ℕ) → asked ≢ root_device → ((n : ℕ) → 1 ≤ n → n ≤ 4 → (asked ≢ device_type n) × (asked ≢ service_type n)) → is_itself asked ≡ false
no-row asked no_root apart =
    let a = differ asked root_device no_root in
    let b = in-none device_type asked (λ n low high. (apart n low high).0) in
    let c = in-none service_type asked (λ n low high. (apart n low high).1) in
    λ i. a i || b i || c i

-- ---- names of targets

same : (a b : List ℕ) → a ≡ b → bytes_eq a b ≡ true
same a b e = (bytes_eq-Decides a b).1 e

own-usn : (id : List ℕ) → usn_of id (device_name id) ≡ device_name id
own-usn id = ap (λ t. cond t (device_name id) (device_name id ++ codes "::" ++ device_name id)) (same (device_name id) (device_name id) refl)

itself-usn : (id asked : List ℕ) → is_itself asked ≡ true → usn_of id asked ≡ device_name id ++ codes "::" ++ asked
itself-usn id asked is = ap (λ t. cond t (device_name id) (device_name id ++ codes "::" ++ asked)) (by (bytes_eq asked (device_name id)) refl)
  where
    letters : bytes_eq asked (device_name id) ≡ true → are_same_letters asked (device_name id) ≡ true
    letters e = same (map to_ascii_lowercase asked) (map to_ascii_lowercase (device_name id)) (ap (map to_ascii_lowercase) (equal asked (device_name id) e))

    by : (t : Bool) → bytes_eq asked (device_name id) ≡ t → t ≡ false
    by true e = absurd (true≢false (sym (letters e) ∙ no-letters id asked is))
    by false e = refl

-- the types are rows
is-device : (version : ℕ) → 1 ≤ version → version ≤ 4 → is_itself (device_type version) ≡ true
unfolding digits root_device device_type service_type
is-device zero low high = absurd (omega (arith, low))
is-device (suc zero) low high = refl
is-device (suc (suc zero)) low high = refl
is-device (suc (suc (suc zero))) low high = refl
is-device (suc (suc (suc (suc zero)))) low high = refl
is-device (suc (suc (suc (suc (suc n))))) low high = absurd (omega (arith, high))

is-service : (version : ℕ) → 1 ≤ version → version ≤ 4 → is_itself (service_type version) ≡ true
unfolding digits root_device device_type service_type
is-service zero low high = absurd (omega (arith, low))
is-service (suc zero) low high = refl
is-service (suc (suc zero)) low high = refl
is-service (suc (suc (suc zero))) low high = refl
is-service (suc (suc (suc (suc zero)))) low high = refl
is-service (suc (suc (suc (suc (suc n))))) low high = absurd (omega (arith, high))

is-root : is_itself root_device ≡ true
unfolding root_device
is-root = refl

pub targets-are-the-table : TargetsAreTheTable
targets-are-the-table id = record {
  root = root id;
  devices = devices id;
  services = services id;
  own = own id;
  all = all id;
  others = λ asked no_root apart letters no_all. others id asked (no-row asked no_root apart) letters (differ asked (codes "ssdp:all") no_all);
  own_usn = own-usn id;
  root_usn = itself-usn id root_device is-root;
  device_usn = λ version low high. itself-usn id (device_type version) (is-device version low high);
  service_usn = λ version low high. itself-usn id (service_type version) (is-service version low high);
}
