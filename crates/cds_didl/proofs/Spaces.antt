-- Texts without the spaces at their end.
use Rattle.std.proofs.Common.{◌≡◌, ◌≢◌, ◌==◌, ◌-◌, ◌+◌, ◌<◌, ◌≤◌, ℕ, false, cond, List, [], ◌∷◌, ◌++◌, length, take, get_or, refl, sym, ap, ◌∙◌, arith}
use Rattle.std.proofs.lemmas.Bool.Decides.{nat_tests}
use Rattle.std.proofs.lemmas.List.{take_more}
use Rattle.cds_didl.specs.Filter.{or_none, without_back}

a-space : (xs : List ℕ) → without_back (xs ++ 32 ∷ []) ≡ without_back xs
a-space [] = refl
a-space (x ∷ xs) = ap (or_none x) (a-space xs)

no-space : (xs : List ℕ) (b : ℕ) → (b == 32) ≡ false → without_back (xs ++ b ∷ []) ≡ xs ++ b ∷ []
no-space [] b e = ap (λ t. cond t [] (b ∷ [])) e
no-space (x ∷ []) b e = ap (or_none x) (no-space [] b e)
no-space (x ∷ y ∷ xs) b e = ap (or_none x) (no-space (y ∷ xs) b e)

last-of : (text : List ℕ) (end : ℕ) → 0 < end → end ≤ length text → take end text ≡ take (end - 1) text ++ get_or text (end - 1) 0 ∷ []
last-of text end some within =
    let one : end ≡ end - 1 + 1 = omega arith in
    ap (λ n. take n text) one ∙ take_more text (end - 1) 0 (omega arith)

pub one-less : (text : List ℕ) (end : ℕ) → 0 < end → end ≤ length text → get_or text (end - 1) 0 ≡ 32 → without_back (take (end - 1) text) ≡ without_back (take end text)
one-less text end some within e =
    sym (ap without_back (last-of text end some within ∙ ap (λ x. take (end - 1) text ++ x ∷ []) e) ∙ a-space (take (end - 1) text))

pub none-less : (text : List ℕ) (end : ℕ) → 0 < end → end ≤ length text → get_or text (end - 1) 0 ≢ 32 → without_back (take end text) ≡ take end text
none-less text end some within e =
    let no : (get_or text (end - 1) 0 == 32) ≡ false = grind (arith, nat_tests) in
    let last = last-of text end some within in
    ap without_back last ∙ no-space (take (end - 1) text) (get_or text (end - 1) 0) no ∙ sym last

pub none-left : (text : List ℕ) (end : ℕ) → end ≤ 0 → without_back (take end text) ≡ take end text
none-left text end h =
    let none : end ≡ 0 = omega arith in
    ap (λ n. without_back (take n text)) none ∙ sym (ap (λ n. take n text) none)
