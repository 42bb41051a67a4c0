-- Lemmas on the front and the rest of a list.
use Rattle.std.proofs.Common.{◌≡◌, ℕ, ◌+◌, ◌≤◌, List, ◌++◌, take, drop, sym, ap, ◌∙◌, arith, append_assoc}
use Rattle.std.proofs.lemmas.List.{take-append-drop, take-take, drop-take}

-- the first i, and then the first n of the rest, are the first i + n
pub take_on : {X : Type 0} (xs : List X) (i n : ℕ) → take i xs ++ take n (drop i xs) ≡ take (i + n) xs
take_on xs i n =
    let le : i ≤ i + n = omega arith in
    ap (λ x. x ++ take n (drop i xs)) (sym (take-take i (i + n) xs le))
    ∙ ap (λ x. take i (take (i + n) xs) ++ x) (sym (drop-take i n xs))
    ∙ take-append-drop i (take (i + n) xs)

-- the same behind some other list
pub append_on : {X : Type 0} (front xs : List X) (i n : ℕ) → (front ++ take i xs) ++ take n (drop i xs) ≡ front ++ take (i + n) xs
append_on front xs i n = append_assoc front (take i xs) (take n (drop i xs)) ∙ ap (λ x. front ++ x) (take_on xs i n)
