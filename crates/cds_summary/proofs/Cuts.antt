-- The first byte of a kind among bytes parts them: an LF ends the first line, and a space the first word.
use Rattle.std.proofs.Common.{◌≡◌, ℕ, zero, suc, ◌<◌, List, [], ◌∷◌, ◌++◌, length, take, drop, get_or, true, cond, nat_eq, ◌==◌, refl, ap, sym, ◌∙◌, arith}
use Rattle.std.proofs.lemmas.Bool.{and_from, and_parts, not_from_false, false_from_ne_true, eqb-true}
use Rattle.cds_script.specs.Lines.{is_unbroken}
use Rattle.cds_summary.specs.Summary.{first_word}

-- ---- lines

-- bytes none of which is an LF
pub unbroken-none : (bytes : List ℕ) → ((k : ℕ) → k < length bytes → (get_or bytes k 0 == 10) ≡ true → ⊥) → is_unbroken bytes ≡ true
unbroken-none [] none = refl
unbroken-none (b ∷ bytes) none =
    and_from _ _ (not_from_false _ (false_from_ne_true _ (none 0 (omega arith))))
    (unbroken-none bytes (λ k low. none (suc k) (omega (arith, low))))

-- the bytes before a place, none of which is an LF
pub unbroken-before : (bytes : List ℕ) (n : ℕ) → n < length bytes → ((k : ℕ) → k < n → (get_or bytes k 0 == 10) ≡ true → ⊥) → is_unbroken (take n bytes) ≡ true
unbroken-before [] n low none = absurd (omega (arith, low))
unbroken-before (b ∷ bytes) zero low none = refl
unbroken-before (b ∷ bytes) (suc n) low none =
    and_from _ _ (not_from_false _ (false_from_ne_true _ (none 0 (omega arith))))
    (unbroken-before bytes n (omega (arith, low)) (λ k lower. none (suc k) (omega (arith, lower))))

-- bytes around the one at a place
pub cut-at : (bytes : List ℕ) (n : ℕ) → n < length bytes → (get_or bytes n 0 == 10) ≡ true → bytes ≡ take n bytes ++ 10 ∷ drop 1 (drop n bytes)
cut-at [] n low is = absurd (omega (arith, low))
cut-at (b ∷ bytes) zero low is = ap (λ x. x ∷ bytes) (eqb-true b 10 is)
cut-at (b ∷ bytes) (suc n) low is = ap (λ more. b ∷ more) (cut-at bytes n (omega (arith, low)) is)

-- bytes after others, none of which is an LF
pub unbroken-append : (front rest : List ℕ) → is_unbroken front ≡ true → is_unbroken rest ≡ true → is_unbroken (front ++ rest) ≡ true
unbroken-append [] rest one two = two
unbroken-append (b ∷ front) rest one two = and_from _ _ (and_parts _ _ one).0 (unbroken-append front rest (and_parts _ _ one).1 two)

-- ---- words

-- a line without a space is its first word
pub first-none : (line : List ℕ) → ((k : ℕ) → k < length line → (get_or line k 0 == 32) ≡ true → ⊥) → line ≡ first_word line
first-none [] none = refl
first-none (b ∷ line) none =
    ap (λ rest. b ∷ rest) (first-none line (λ k low. none (suc k) (omega (arith, low))))
    ∙ ap (λ c. cond c [] (b ∷ first_word line)) (sym (false_from_ne_true (nat_eq b 32) (none 0 (omega arith))))

-- the first space of a line ends its first word
pub first-at : (line : List ℕ) (n : ℕ) → n < length line → ((k : ℕ) → k < n → (get_or line k 0 == 32) ≡ true → ⊥) → (get_or line n 0 == 32) ≡ true →
    take n line ≡ first_word line
first-at [] n low none is = absurd (omega (arith, low))
first-at (b ∷ line) zero low none is = ap (λ c. cond c [] (b ∷ first_word line)) (sym is)
first-at (b ∷ line) (suc n) low none is =
    ap (λ rest. b ∷ rest) (first-at line n (omega (arith, low)) (λ k lower. none (suc k) (omega (arith, lower))) is)
    ∙ ap (λ c. cond c [] (b ∷ first_word line)) (sym (false_from_ne_true (nat_eq b 32) (none 0 (omega arith))))
