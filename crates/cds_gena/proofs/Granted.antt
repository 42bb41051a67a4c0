-- The numbers of those that live are among those that were granted, whatever is dropped, changed or added.
use Rattle.std.proofs.Common.{◌≡◌, ◌+◌, ◌<◌, ◌≤◌, ℕ, suc, Bool, true, false, cond, nat_eq, nat_lt, List, [], ◌∷◌, ◌++◌, map, filter, length, length-append, Some, None, refl, sym, ap, ◌∙◌, subst, arith, ne_eqb}
use Rattle.std.specs.List.{AllByRecursion}
use Rattle.std.specs.Map.{lookup}
use Rattle.cds_catalog.proofs.StepsFind.{each-append, each-weaker, each-filter, each-map}
use Rattle.cds_gena.specs.declared.book.Subscription.{Subscription}
use Rattle.cds_gena.specs.Subscribed.{AreGranted, alive, raised, until}

abbrev Entry : Type 0
Entry = ℕ × Subscription

fewer : (p : Entry → Bool) (es : List Entry) → length (filter p es) ≤ length es
fewer p [] = omega arith
fewer p (e ∷ es) = by (p e) (fewer p es)
  where
    by : (b : Bool) → length (filter p es) ≤ length es → length (cond b (e ∷ filter p es) (filter p es)) ≤ suc (length es)
    by true l = omega (arith, l)
    by false l = omega (arith, l)

pub granted-filter : (granted : ℕ) (p : Entry → Bool) (es : List Entry) → AreGranted granted es → AreGranted granted (filter p es)
granted-filter granted p es are = let few = fewer p es in let all = are.0 in (omega (arith, few, all), each-filter (λ (e : Entry). e.0 ≤ granted) p es are.1)

as-many : (f : Entry → Entry) (es : List Entry) → length (map f es) ≡ length es
as-many f [] = refl
as-many f (e ∷ es) = ap suc (as-many f es)

pub granted-map : (granted : ℕ) (f : Entry → Entry) (es : List Entry) → ((e : Entry) → (f e).0 ≡ e.0) → AreGranted granted es → AreGranted granted (map f es)
granted-map granted f es same are =
    let many = as-many f es in let all = are.0 in (
      omega (arith, many, all),
      each-map (λ (e : Entry). e.0 ≤ granted) f es (each-weaker (λ (e : Entry). e.0 ≤ granted) (λ (e : Entry). (f e).0 ≤ granted) (λ e l. subst (λ n. n ≤ granted) (sym (same e)) l) es are.1),
    )

until-key : (number end : ℕ) (e : Entry) → (until number end e).0 ≡ e.0
until-key number end e = by (nat_eq e.0 number)
  where
    by : (b : Bool) → (cond b (e.0, record { callback = e.1.callback; end = end; next_seq = e.1.next_seq }) e).0 ≡ e.0
    by true = refl
    by false = refl

pub granted-until : (granted number end : ℕ) (es : List Entry) → AreGranted granted es → AreGranted granted (map (until number end) es)
granted-until granted number end es are = granted-map granted (until number end) es (until-key number end) are

pub granted-raised : (wrap granted now : ℕ) (es : List Entry) → AreGranted granted es → AreGranted granted (map (raised wrap) (alive now es))
granted-raised wrap granted now es are =
    granted-map granted (raised wrap) (alive now es) (λ e. refl)
    (granted-filter granted (λ (e : Entry). nat_lt now e.1.end) es are)

pub granted-more : (granted : ℕ) (s : Subscription) (es : List Entry) → AreGranted granted es → AreGranted (granted + 1) (es ++ (granted + 1, s) ∷ [])
granted-more granted s es are =
    let many = length-append es ((granted + 1, s) ∷ []) in let all = are.0 in (
      omega (arith, many, all),
      each-append (λ (e : Entry). e.0 ≤ granted + 1) es ((granted + 1, s) ∷ [])
          (each-weaker (λ (e : Entry). e.0 ≤ granted) (λ (e : Entry). e.0 ≤ granted + 1) (λ e l. omega (arith, l)) es are.1) (omega arith, tt),
    )

pub none-numbered : (granted number : ℕ) (es : List Entry) → granted < number → AreGranted granted es → lookup (nat_eq number) es ≡ None
none-numbered granted number es high are = by es are.1
  where
    by : (xs : List Entry) → AllByRecursion (λ (e : Entry). e.0 ≤ granted) xs → lookup (nat_eq number) xs ≡ None
    by [] all = refl
    by (x ∷ xs) all = let low = all.0 in (λ i. cond (ne_eqb number x.0 (λ e. omega (arith, e, low, high)) i) (Some x.1) (lookup (nat_eq number) xs)) ∙ by xs all.1

pub few-alive : (granted now : ℕ) (es : List Entry) → AreGranted granted es → length (alive now es) ≤ granted
few-alive granted now es are = let few = fewer (λ (e : Entry). nat_lt now e.1.end) es in let all = are.0 in omega (arith, few, all)
