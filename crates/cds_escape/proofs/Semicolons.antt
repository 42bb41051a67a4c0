-- A reference ends at its first `;`, so the bytes at the front of a text are one reference at most.
use Rattle.std.proofs.Common.{◌≡◌, ◌≢◌, ℕ, suc, ◌<◌, ◌≤◌, Bool, true, false, not, cond, ◌&&◌, nat_eq, List, [], ◌∷◌, ◌++◌, length, get_or, take, drop, Option, Some, None, refl, sym, ap, ◌∙◌, arith, append_assoc, codes, subst, lit<, Bor}
use Rattle.std.proofs.lemmas.Bool.{eqb-true}
use Rattle.std.proofs.lemmas.Bool.Decides.{nat_tests}
use Rattle.std.proofs.lemmas.Slice.Eq.{bytes_eq-Decides}
use Rattle.std.proofs.lemmas.List.{take-append-drop}
use Rattle.std.proofs.lemmas.List.Folds.{list_all-append}
use Rattle.std.proofs.lemmas.Str.Pattern.{IsSplitOnceResult, split_parts}
use Rattle.std.specs.List.{list_all}
use Rattle.std.specs.Option.{option_and_then}
use Rattle.std.specs.Str.{bytes_eq}
use Rattle.std.specs.Char.{is_digit}
use Rattle.cds_base.specs.Number.{value_in, is_number_in, number_in}
use Rattle.cds_base.specs.Reference.{IsReference, BeginsNoReference, named, numbered, number_after_sign, code_of, where_allowed}

-- no byte is a `;`
abbrev pub is_clean : List ℕ → Bool
is_clean name = list_all (λ b. not (nat_eq b 59)) name

pub and_parts : (a b : Bool) → (a && b) ≡ true → (a ≡ true) × (b ≡ true)
and_parts true b e = (refl, e)
and_parts false b e = absurd (cc)

digit_clean : (x base : ℕ) → base ≤ 36 → is_digit x base ≡ true → not (nat_eq x 59) ≡ true
digit_clean x base small e = by (nat_eq x 59) refl where
  by : (b : Bool) → nat_eq x 59 ≡ b → not b ≡ true
  by false is = refl
  by true is = absurd (above base small (ap (λ y. is_digit y base) (sym (eqb-true x 59 is)) ∙ e)) where
    above : (b : ℕ) → b ≤ 36 → is_digit 59 b ≡ true → ⊥
    above b small e = grind (arith, nat_tests)

digits_clean : (base : ℕ) (xs : List ℕ) → base ≤ 36 → list_all (λ byte. is_digit byte base) xs ≡ true → is_clean xs ≡ true
digits_clean base [] small e = refl
digits_clean base (x ∷ xs) small e =
    let parts = and_parts (is_digit x base) (list_all (λ byte. is_digit byte base) xs) e in
    both (not (nat_eq x 59)) (is_clean xs) (digit_clean x base small parts.0) (digits_clean base xs small parts.1)
  where
    both : (a b : Bool) → a ≡ true → b ≡ true → (a && b) ≡ true
    both a b p q = rw (p, q) refl

number_clean : (base : ℕ) (xs : List ℕ) (d : ℕ) → base ≤ 36 → number_in base xs ≡ Some d → is_clean xs ≡ true
number_clean base [] d small e = refl
number_clean base (x ∷ xs) d small e = by (is_number_in base (x ∷ xs)) refl e where
  by : (b : Bool) → is_number_in base (x ∷ xs) ≡ b → cond b (Some (value_in base (x ∷ xs))) None ≡ Some d → is_clean (x ∷ xs) ≡ true
  by true is e = digits_clean base (x ∷ xs) small is
  by false is e = absurd (cc)

sign_clean : (xs : List ℕ) (d : ℕ) → number_after_sign xs ≡ Some d → is_clean xs ≡ true
sign_clean [] d e = refl
sign_clean (x ∷ xs) d e = by (nat_eq x 120) refl e where
  by : (b : Bool) → nat_eq x 120 ≡ b → cond b (number_in 16 xs) (number_in 10 (x ∷ xs)) ≡ Some d → is_clean (x ∷ xs) ≡ true
  by true is e = ap (λ y. not (nat_eq y 59) && is_clean xs) (eqb-true x 120 is) ∙ number_clean 16 xs d (omega arith) e
  by false is e = number_clean 10 (x ∷ xs) d (omega arith) e

numbered_clean : (xs : List ℕ) (d : ℕ) → numbered xs ≡ Some d → is_clean xs ≡ true
numbered_clean [] d e = refl
numbered_clean (x ∷ xs) d e = by (nat_eq x 35) refl e where
  by : (b : Bool) → nat_eq x 35 ≡ b → cond b (number_after_sign xs) None ≡ Some d → is_clean (x ∷ xs) ≡ true
  by true is e = ap (λ y. not (nat_eq y 59) && is_clean xs) (eqb-true x 35 is) ∙ sign_clean xs d e
  by false is e = absurd (cc)

code_clean : (name : List ℕ) (d : ℕ) → code_of name ≡ Some d → is_clean name ≡ true
code_clean name d e =
    by (bytes_eq name (codes "amp")) (bytes_eq name (codes "lt")) (bytes_eq name (codes "gt")) (bytes_eq name (codes "quot")) (bytes_eq name (codes "apos")) refl refl refl refl refl e
  where
    same : (word : List ℕ) → is_clean word ≡ true → bytes_eq name word ≡ true → is_clean name ≡ true
    same word clean is = ap is_clean ((bytes_eq-Decides name word).0 is) ∙ clean

    by : (p q r s t : Bool) → bytes_eq name (codes "amp") ≡ p → bytes_eq name (codes "lt") ≡ q → bytes_eq name (codes "gt") ≡ r → bytes_eq name (codes "quot") ≡ s → bytes_eq name (codes "apos") ≡ t → cond p (Some 38) (cond q (Some 60) (cond r (Some 62) (cond s (Some 34) (cond t (Some 39) (numbered name))))) ≡ Some d → is_clean name ≡ true
    by true q r s t is_p is_q is_r is_s is_t e = same (codes "amp") refl is_p
    by false true r s t is_p is_q is_r is_s is_t e = same (codes "lt") refl is_q
    by false false true s t is_p is_q is_r is_s is_t e = same (codes "gt") refl is_r
    by false false false true t is_p is_q is_r is_s is_t e = same (codes "quot") refl is_s
    by false false false false true is_p is_q is_r is_s is_t e = same (codes "apos") refl is_t
    by false false false false false is_p is_q is_r is_s is_t e = numbered_clean name d e

pub named_clean : (name : List ℕ) (c : ℕ) → named name ≡ Some c → is_clean name ≡ true
named_clean name c e = by (code_of name) refl e where
  by : (o : Option ℕ) → code_of name ≡ o → option_and_then where_allowed o ≡ Some c → is_clean name ≡ true
  by None is e = absurd (cc)
  by (Some d) is e = code_clean name d is

-- what stands before the first `;`, and what stands behind it
pub same_split : (xs ys r t : List ℕ) → is_clean xs ≡ true → is_clean ys ≡ true → xs ++ 59 ∷ r ≡ ys ++ 59 ∷ t → (xs ≡ ys) × (r ≡ t)
same_split [] [] r t p q e = (refl, cc)
same_split [] (y ∷ ys) r t p q e =
    let first : 59 ≡ y = cc in
    absurd (dirty y (is_clean ys) (sym first) q)
  where
    dirty : (y : ℕ) (b : Bool) → y ≡ 59 → (not (nat_eq y 59) && b) ≡ true → ⊥
    dirty y b is e = grind (arith, nat_tests)
same_split (x ∷ xs) [] r t p q e =
    let first : x ≡ 59 = cc in
    absurd (dirty x (is_clean xs) first p)
  where
    dirty : (y : ℕ) (b : Bool) → y ≡ 59 → (not (nat_eq y 59) && b) ≡ true → ⊥
    dirty y b is e = grind (arith, nat_tests)
same_split (x ∷ xs) (y ∷ ys) r t p q e =
    let first : x ≡ y = cc in
    let rest : xs ++ 59 ∷ r ≡ ys ++ 59 ∷ t = cc in
    let more = same_split xs ys r t (and_parts (not (nat_eq x 59)) (is_clean xs) p).1 (and_parts (not (nat_eq y 59)) (is_clean ys) q).1 rest in
    let same = more.0 in
    let after = more.1 in
    (cc, after)

-- two references at the front of a text are the same
pub same_reference : (w v r t : List ℕ) (c d : ℕ) → IsReference w c → IsReference v d → w ++ r ≡ v ++ t → (w ≡ v) × (c ≡ d) × (r ≡ t)
same_reference w v r t c d one two e =
    let long_one : w ++ r ≡ 38 ∷ (one.name ++ 59 ∷ r) = ap (λ x. x ++ r) one.form ∙ ap (λ x. 38 ∷ x) (append_assoc one.name (59 ∷ []) r) in
    let long_two : v ++ t ≡ 38 ∷ (two.name ++ 59 ∷ t) = ap (λ x. x ++ t) two.form ∙ ap (λ x. 38 ∷ x) (append_assoc two.name (59 ∷ []) t) in
    let both : one.name ++ 59 ∷ r ≡ two.name ++ 59 ∷ t = cc in
    let split = same_split one.name two.name r t (named_clean one.name c one.names) (named_clean two.name d two.names) both in
    let name : one.name ≡ two.name = split.0 in
    let rest : r ≡ t = split.1 in
    let says : Some c ≡ Some d = sym one.names ∙ ap named name ∙ two.names in
    (one.form ∙ ap (λ x. 38 ∷ (x ++ 59 ∷ [])) name ∙ sym two.form, cc, rest)

-- a reference at the front of a text that begins with `&`
front : (text : List ℕ) (n c : ℕ) (is : IsReference (take n (38 ∷ text)) c) → is.name ++ 59 ∷ drop n (38 ∷ text) ≡ text
front text n c is =
    let whole : take n (38 ∷ text) ++ drop n (38 ∷ text) ≡ 38 ∷ text = take-append-drop n (38 ∷ text) in
    let long : take n (38 ∷ text) ++ drop n (38 ∷ text) ≡ 38 ∷ (is.name ++ 59 ∷ drop n (38 ∷ text)) =
    ap (λ x. x ++ drop n (38 ∷ text)) is.form ∙ ap (λ x. 38 ∷ x) (append_assoc is.name (59 ∷ []) (drop n (38 ∷ text))) in
    cc

-- where no `;` follows, no reference begins
pub none_without_end : (text : List ℕ) → is_clean text ≡ true → BeginsNoReference (38 ∷ text)
none_without_end text clean n c is =
    dirty (is_clean is.name) (sym (list_all-append (λ b. not (nat_eq b 59)) is.name (59 ∷ drop n (38 ∷ text))) ∙ ap is_clean (front text n c is) ∙ clean)
  where
    dirty : (b : Bool) → (b && false) ≡ true → ⊥
    dirty true e = cc
    dirty false e = cc

-- the name before the first `;` decides
pub none_with_name : (name rest : List ℕ) → is_clean name ≡ true → named name ≡ None → BeginsNoReference (38 ∷ (name ++ 59 ∷ rest))
none_with_name name rest clean none n c is =
    let same : is.name ≡ name = (same_split is.name name (drop n (38 ∷ (name ++ 59 ∷ rest))) rest (named_clean is.name c is.names) clean (front (name ++ 59 ∷ rest) n c is)).0 in
    let says : Some c ≡ None = sym is.names ∙ ap named same ∙ none in
    cc

pub clean_from : (xs : List ℕ) → ((i : ℕ) → i < length xs → get_or xs i 0 ≢ 59) → is_clean xs ≡ true
clean_from [] none = refl
clean_from (x ∷ xs) none =
    let first : x ≢ 59 = none 0 (omega arith) in
    both (not (nat_eq x 59)) (is_clean xs) (grind (arith, nat_tests)) (clean_from xs (λ i h. none (suc i) (omega arith)))
  where
    both : (a b : Bool) → a ≡ true → b ≡ true → (a && b) ≡ true
    both a b p q = rw (p, q) refl

-- what `split_once` says where it finds no `;`, and where it finds one
pub no_end : (text : List ℕ) (r : Option (Bor (List ℕ) × Bor (List ℕ))) → IsSplitOnceResult 59 text r → r ≡ None → BeginsNoReference (38 ∷ text)
no_end text r is none =
    let parts = split_parts 59 text r is (lit< tt) in
    none_without_end text (clean_from text (rw none at parts))

pub ended : (text : List ℕ) (r : Option (Bor (List ℕ) × Bor (List ℕ))) (name after : Bor (List ℕ)) → IsSplitOnceResult 59 text r → r ≡ Some (name, after) → (text ≡ name.now ++ 59 ∷ after.now) × (is_clean name.now ≡ true)
ended text r name after is some =
    let parts = split_parts 59 text r is (lit< tt) in
    let found = rw some at parts in
    (found.0, clean_from name.now found.1)

pub no_name : (text : List ℕ) (r : Option (Bor (List ℕ) × Bor (List ℕ))) (name after : Bor (List ℕ)) → IsSplitOnceResult 59 text r → r ≡ Some (name, after) → named name.now ≡ None → BeginsNoReference (38 ∷ text)
no_name text r name after is some none =
    let found = ended text r name after is some in
    let text_is : name.now ++ 59 ∷ after.now ≡ text = sym found.0 in
    subst (λ (x : List ℕ). BeginsNoReference (38 ∷ x)) text_is (none_with_name name.now after.now found.1 none)

pub read_reference : (text : List ℕ) (r : Option (Bor (List ℕ) × Bor (List ℕ))) (name after : Bor (List ℕ)) (c : ℕ) → IsSplitOnceResult 59 text r → r ≡ Some (name, after) → named name.now ≡ Some c
    → (written : List ℕ) × (38 ∷ text ≡ written ++ after.now) × IsReference written c
read_reference text r name after c is some says =
    let found = ended text r name after is some in
    (38 ∷ (name.now ++ 59 ∷ []), ap (λ x. 38 ∷ x) (found.0 ∙ sym (append_assoc name.now (59 ∷ []) after.now)), record { name = name.now; form = refl; names = says })
