-- Texts of allowed characters, and how long they are once they are escaped: that is what they take inside another text.
use Rattle.std.proofs.Common.{◌≡◌, ◌==◌, ℕ, ◌+◌, ◌*◌, ◌<◌, ◌≤◌, ◌^◌, nat_lt, nat_le, Bool, true, false, ◌&&◌, Option, Some, None, List, [], ◌∷◌, ◌++◌, length, codes, encode_utf8, encode_utf8_all, refl, sym, ap, subst, ◌∙◌, arith, length-append}
use Rattle.std.specs.Prelude.{IfSome}
use Rattle.std.specs.List.{list_all}
use Rattle.std.specs.Fmt.{decimal}
use Rattle.std.proofs.lemmas.Bool.Decides.{nat_tests}
use Rattle.std.proofs.lemmas.Fmt.{length-decimal-le}
use Rattle.std.proofs.lemmas.Grind.{flat_map-append}
use Rattle.std.proofs.lemmas.List.{append-nil}
use Rattle.std.proofs.lemmas.Str.{encode_ascii}
use Rattle.cds_base.specs.Characters.{is_allowed, AreAllowed}
use Rattle.cds_base.specs.Escape.{escaped, escaped_byte}
use Rattle.cds_object.specs.Writing.{number_attribute, text_element, number_element}
use Rattle.cds_base.proofs.Escapes.{kept_char}
use Rattle.cds_object.specs.Fragment.{if_there}
use Rattle.cds_didl.specs.Plain.{IsPlainText}
use Rattle.cds_base.proofs.Plain.{ArePlain, allowed-plain, allowed-append, escaped-plain, and-first, and-second}
use Rattle.cds_didl.proofs.RowDrafts.{decimal-plain}

within : (n m : ℕ) → nat_le n m ≡ true → n ≤ m
within n m e = grind (arith, nat_tests)

-- a text in ASCII that is written out
abbrev is_ascii : ℕ → Bool
is_ascii b = nat_lt b 128

all-ascii : (text : List ℕ) → list_all is_ascii text ≡ true → encode_utf8_all text ≡ text
all-ascii [] e = refl
all-ascii (b ∷ rest) e =
    ap (λ x. x ++ encode_utf8_all rest) (encode_ascii b (low b (and-first (is_ascii b) (list_all is_ascii rest) e)))
    ∙ ap (λ x. b ∷ x) (all-ascii rest (and-second (is_ascii b) (list_all is_ascii rest) e))
  where
    low : (b : ℕ) → is_ascii b ≡ true → b < 128
    low b e = grind (arith, nat_tests)

spelled : (text : List ℕ) → list_all is_allowed text ≡ true → list_all is_ascii text ≡ true → AreAllowed text
spelled text all ascii = (text, all, all-ascii text ascii)

abbrev pub wide : List ℕ → ℕ
wide text = length (escaped text)

pub wide-append : (a b : List ℕ) → wide (a ++ b) ≡ wide a + wide b
wide-append a b = ap length (flat_map-append escaped_byte a b) ∙ length-append (escaped a) (escaped b)

-- ---- one byte and one character

pick : (P : ℕ → Type 0) (c k : ℕ) → P k → ((c == k) ≡ false → P c) → P c
pick P c k at other = by (c == k) refl where
  by : (t : Bool) → (c == k) ≡ t → P c
  by true e = let same : k ≡ c = grind (arith, nat_tests) in subst P same at
  by false e = other e

-- what holds of what is replaced, and of what stays, holds of each
each-byte : (P : ℕ → Type 0) → P 38 → P 60 → P 62 → P 34 → P 39 → P 9 → P 10 → P 13 → ((c : ℕ) → escaped_byte c ≡ c ∷ [] → P c) → (c : ℕ) → P c
each-byte P a b d e f g h i stays c =
    pick P c 38 a (λ p. pick P c 60 b (λ q. pick P c 62 d (λ r. pick P c 34 e (λ s. pick P c 39 f (λ t. pick P c 9 g (λ u. pick P c 10 h (λ v. pick P c 13 i (λ w.
    stays c (rw (p, q, r, s, t, u, v, w) refl)))))))))

-- a byte takes at least one byte, and at most ten where it is escaped twice
some-byte : (c : ℕ) → 1 ≤ length (escaped_byte c)
some-byte =
    let P : ℕ → Type 0 = λ c. 1 ≤ length (escaped_byte c) in
    each-byte P (within 1 5 refl) (within 1 4 refl) (within 1 4 refl) (within 1 6 refl) (within 1 6 refl) (within 1 4 refl) (within 1 5 refl) (within 1 5 refl)
    (λ c e. subst (λ (x : List ℕ). 1 ≤ length x) (sym e) (within 1 1 refl))

few-byte : (c : ℕ) → wide (escaped_byte c) ≤ 10
few-byte =
    let P : ℕ → Type 0 = λ c. wide (escaped_byte c) ≤ 10 in
    each-byte P (within 9 10 refl) (within 8 10 refl) (within 8 10 refl) (within 10 10 refl) (within 10 10 refl) (within 8 10 refl) (within 9 10 refl) (within 9 10 refl)
    (λ c e. let once : escaped (escaped_byte c) ≡ c ∷ [] = ap escaped e ∙ append-nil (escaped_byte c) ∙ e in subst (λ (x : List ℕ). length x ≤ 10) (sym once) (within 1 10 refl))

pub no-shorter : (text : List ℕ) → length text ≤ wide text
no-shorter [] = within 0 0 refl
no-shorter (c ∷ text) =
    let one = some-byte c in
    let more = no-shorter text in
    let both = length-append (escaped_byte c) (escaped text) in
    omega (arith, one, more, both)

twice : (text : List ℕ) → wide (escaped text) ≤ 10 * length text
twice [] = within 0 0 refl
twice (c ∷ text) =
    let one = few-byte c in
    let more = twice text in
    let both = wide-append (escaped_byte c) (escaped text) in
    omega (arith, one, more, both)

replaced : (c : ℕ) (text : List ℕ) → c < 128 → escaped_byte c ≡ text → list_all is_allowed text ≡ true → list_all is_ascii text ≡ true → AreAllowed (escaped (encode_utf8 c))
replaced c text low e all ascii =
    let same : escaped (encode_utf8 c) ≡ text = ap escaped (encode_ascii c low) ∙ append-nil (escaped_byte c) ∙ e in
    subst AreAllowed (sym same) (spelled text all ascii)

character-allowed : (c : ℕ) → is_allowed c ≡ true → AreAllowed (escaped (encode_utf8 c))
character-allowed =
    let P : ℕ → Type 0 = λ c. is_allowed c ≡ true → AreAllowed (escaped (encode_utf8 c)) in
    each-byte P (λ a. replaced 38 (codes "&amp;") (omega arith) refl refl refl) (λ a. replaced 60 (codes "&lt;") (omega arith) refl refl refl)
    (λ a. replaced 62 (codes "&gt;") (omega arith) refl refl refl) (λ a. replaced 34 (codes "&quot;") (omega arith) refl refl refl)
    (λ a. replaced 39 (codes "&apos;") (omega arith) refl refl refl) (λ a. replaced 9 (codes "&#9;") (omega arith) refl refl refl)
    (λ a. replaced 10 (codes "&#10;") (omega arith) refl refl refl) (λ a. replaced 13 (codes "&#13;") (omega arith) refl refl refl)
    (λ c e a. subst AreAllowed (sym (kept_char c e)) (c ∷ [], ap (λ t. t && true) a, append-nil (encode_utf8 c)))

characters-allowed : (cs : List ℕ) → list_all is_allowed cs ≡ true → AreAllowed (escaped (encode_utf8_all cs))
characters-allowed [] all = ([], refl, refl)
characters-allowed (c ∷ cs) all =
    subst AreAllowed (sym (flat_map-append escaped_byte (encode_utf8 c) (encode_utf8_all cs)))
    (allowed-append (escaped (encode_utf8 c)) (escaped (encode_utf8_all cs)) (character-allowed c (and-first (is_allowed c) (list_all is_allowed cs) all))
    (characters-allowed cs (and-second (is_allowed c) (list_all is_allowed cs) all)))

escaped-allowed : (text : List ℕ) → AreAllowed text → AreAllowed (escaped text)
escaped-allowed text (cs, all, are) = subst (λ x. AreAllowed (escaped x)) are (characters-allowed cs all)

-- ---- texts that are short once they are escaped

pub record Light (most : ℕ) (text : List ℕ) : Type 0 where
  pub allowed : AreAllowed text
  pub short : wide text ≤ most

pub light-more : (m n : ℕ) (text : List ℕ) → m ≤ n → Light m text → Light n text
light-more m n text h l = let s = l.short in record { allowed = l.allowed; short = omega (arith, h, s) }

pub light-none : Light 0 []
light-none = record { allowed = ([], refl, refl); short = within 0 0 refl }

pub light-append : (m n : ℕ) (a b : List ℕ) → Light m a → Light n b → Light (m + n) (a ++ b)
light-append m n a b l k =
    let e = wide-append a b in
    let s = l.short in
    let t = k.short in
    record { allowed = allowed-append a b l.allowed k.allowed; short = omega (arith, e, s, t) }

-- a text of plain characters, which stand for themselves
pub light-plain : (n : ℕ) (text : List ℕ) → ArePlain text → length text ≤ n → Light n text
light-plain n text plain short =
    let same = ap length (escaped-plain text plain) in
    record { allowed = allowed-plain text plain; short = omega (arith, same, short) }

pub light-decimal : (k n : ℕ) → 0 < k → n < 10 ^ k → n < 2 ^ 64 → Light k (decimal n)
light-decimal k n some h wide = light-plain k (decimal n) (decimal-plain n wide) (length-decimal-le k n some h wide)

pub light-number : (n : ℕ) → n < 2 ^ 32 → Light 10 (decimal n)
light-number n h = light-decimal 10 n (omega arith) (omega (arith, h)) (omega (arith, h))

-- a text that is escaped already
pub light-escaped : (n : ℕ) (text : List ℕ) → AreAllowed text → length text ≤ n → Light (10 * n) (escaped text)
light-escaped n text allowed short =
    let few = twice text in
    record { allowed = escaped-allowed text allowed; short = omega (arith, few, short) }

-- one that may be missing
pub light-there : {X : Type 0} (P : X → Type 0) (piece : X → List ℕ) (n : ℕ) (o : Option X) → IfSome o P → ((x : X) → P x → Light n (piece x)) → Light n (if_there piece o)
light-there P piece n None is each = light-more 0 n [] (omega arith) light-none
light-there P piece n (Some x) is each = each x is

-- a text that is written out
pub light-literal : (n : ℕ) (text : List ℕ) → list_all is_allowed text ≡ true → list_all is_ascii text ≡ true → nat_le (wide text) n ≡ true → Light n text
light-literal n text all ascii short = record { allowed = spelled text all ascii; short = within (wide text) n short }

infixl 10 ◌⊕◌
pub ◌⊕◌ : {m n : ℕ} {a b : List ℕ} → Light m a → Light n b → Light (m + n) (a ++ b)
l ⊕ k = light-append _ _ _ _ l k

-- ---- elements and attributes

around : (k n : ℕ) (name inside : List ℕ) → Light k name → Light n inside → Light (2 * k + n + 17) (codes "<" ++ name ++ codes ">" ++ inside ++ codes "</" ++ name ++ codes ">")
around k n name inside l i =
    light-more (4 + k + 4 + n + 5 + k + 4) (2 * k + n + 17) _ (omega arith)
    (light-literal 4 (codes "<") refl refl refl ⊕ l ⊕ light-literal 4 (codes ">") refl refl refl ⊕ i ⊕ light-literal 5 (codes "</") refl refl refl ⊕ l ⊕ light-literal 4 (codes ">") refl refl refl)

pub number-light : (k : ℕ) (name : List ℕ) (n : ℕ) → Light k name → n < 2 ^ 32 → Light (2 * k + 27) (number_element name n)
unfolding number_element
number-light k name n l h = light-more (2 * k + 10 + 17) (2 * k + 27) _ (omega arith) (around k 10 name (decimal n) l (light-number n h))

pub text-light : (k : ℕ) (name text : List ℕ) → Light k name → IsPlainText text → Light (2 * k + 2567) (text_element name text)
unfolding text_element
text-light k name text l is = light-more (2 * k + 2550 + 17) (2 * k + 2567) _ (omega arith) (around k 2550 name (escaped text) l (light-escaped 255 text is.allowed is.short))

pub value-light : (k m : ℕ) (name : List ℕ) (n : ℕ) → Light k name → 0 < m → n < 10 ^ m → n < 2 ^ 64 → Light (k + m + 14) (number_attribute name n)
unfolding number_attribute
value-light k m name n l some h wide =
    light-more (1 + k + 7 + m + 6) (k + m + 14) _ (omega arith)
    (light-literal 1 (codes " ") refl refl refl ⊕ l ⊕ light-literal 7 (codes "=\"") refl refl refl ⊕ light-decimal m n some h wide ⊕ light-literal 6 (codes "\"") refl refl refl)
