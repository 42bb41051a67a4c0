-- Texts of visible ASCII: they can stand in fields, and they are read back as they are.
use Rattle.std.proofs.Common.{◌≡◌, ◌≢◌, ℕ, ◌<◌, ◌^◌, Bool, true, false, cond, ◌&&◌, nat_lt, IsTrue, List, [], ◌∷◌, ◌++◌, length, reverse, codes, bytes_eq, refl, sym, ap, ◌∙◌, arith, true≢false}
use Rattle.std.specs.List.{list_all}
use Rattle.std.specs.Fmt.{decimal}
use Rattle.std.specs.Char.{is_ascii_digit}
use Rattle.std.proofs.lemmas.Bool.Decides.{nat_tests}
use Rattle.std.proofs.lemmas.List.Elements.{All-append, All-head, All-tail, All-weaker}
use Rattle.std.proofs.lemmas.Slice.Eq.{bytes_eq-Decides}
use Rattle.httparse.specs.Grammar.{AllPass, IsToken, is_token_byte, is_value_byte, is_ows, skip_ows}
use Rattle.httparse.proofs.TrimLemmas.{AllPass-reverse}
use Rattle.http_header.proofs.TokenLemmas.{AllPass-from_test}
use Rattle.http_header.specs.Token.{lowercase}
use Rattle.cds_http.specs.declared.fields.Field.{Field}
use Rattle.cds_http.specs.Written.{can_stand}
use Rattle.cds_http.specs.Returned.{IsReadBack}
use Rattle.cds_http.proofs.Numerals.{decimal-digits}

abbrev pub is_visible : ℕ → Bool
is_visible b = nat_lt 32 b && nat_lt b 127

abbrev pub Seen : ℕ → Type 0
Seen b = IsTrue (is_visible b)

abbrev pub AreVisible : List ℕ → Type 0
AreVisible text = AllPass is_visible text

pub visible-literal : (text : List ℕ) → list_all is_visible text ≡ true → AreVisible text
visible-literal text e = AllPass-from_test is_visible text e

pub visible-append : (a b : List ℕ) → AreVisible a → AreVisible b → AreVisible (a ++ b)
visible-append a b h k = All-append Seen a b h k

visible-digit : (b : ℕ) → IsTrue (is_ascii_digit b) → Seen b
visible-digit b h = grind (arith, nat_tests)

pub visible-decimal : (n : ℕ) → n < 2 ^ 32 → AreVisible (decimal n)
visible-decimal n h = All-weaker (λ b. IsTrue (is_ascii_digit b)) Seen visible-digit (decimal n) (decimal-digits n h).plain

-- ---- they can stand in a field

visible-stands : (b : ℕ) → Seen b → can_stand b ≡ true
visible-stands b h = grind (arith, nat_tests)

pub all-stand : (text : List ℕ) → AreVisible text → list_all can_stand text ≡ true
all-stand [] h = refl
all-stand (b ∷ rest) h =
    ap (λ t. t && list_all can_stand rest) (visible-stands b (All-head Seen b rest h))
    ∙ all-stand rest (All-tail Seen b rest h)

-- ---- and are read back

visible-value : (b : ℕ) → Seen b → IsTrue (is_value_byte b)
visible-value b h = grind (arith, nat_tests)

pub all-values : (text : List ℕ) → AreVisible text → AllPass is_value_byte text
all-values text h = All-weaker Seen (λ b. IsTrue (is_value_byte b)) visible-value text h

visible-no-blank : (b : ℕ) → Seen b → is_ows b ≡ false
visible-no-blank b h = by (is_ows b) refl
  where
    no : (b : ℕ) → Seen b → is_ows b ≡ true → ⊥
    no b h e = grind (arith, nat_tests)

    by : (t : Bool) → is_ows b ≡ t → t ≡ false
    by true e = absurd (no b h e)
    by false e = refl

pub no-front : (text : List ℕ) → AreVisible text → skip_ows text ≡ text
no-front [] h = refl
no-front (b ∷ rest) h = ap (λ t. cond t (skip_ows rest) (b ∷ rest)) (visible-no-blank b (All-head Seen b rest h))

pub no-back : (text : List ℕ) → AreVisible text → skip_ows (reverse text) ≡ reverse text
no-back text h = no-front (reverse text) (AllPass-reverse is_visible text h)

differ : (a b : List ℕ) → bytes_eq a b ≡ false → a ≢ b
differ a b e same = true≢false (sym ((bytes_eq-Decides a b).1 same) ∙ e)

pub token : (word : List ℕ) → 0 < length word → list_all is_token_byte word ≡ true → IsToken word
token word some test = (some, AllPass-from_test is_token_byte word test)

abbrev pub field_of : List ℕ → List ℕ → Field
field_of name value = record { name = name; value = value }

pub back : (name value : List ℕ) → IsToken name → bytes_eq (lowercase name) (codes "content-length") ≡ false → bytes_eq (lowercase name) (codes "transfer-encoding") ≡ false
    → AllPass is_value_byte value → skip_ows value ≡ value → skip_ows (reverse value) ≡ reverse value → IsReadBack (field_of name value)
back name value token length coding bytes front last = record {
  name = token;
  no_length = differ (lowercase name) (codes "content-length") length;
  no_coding = differ (lowercase name) (codes "transfer-encoding") coding;
  value = bytes;
  front = front;
  back = last;
}

-- a field of a visible value is read back
pub visible-back : (name value : List ℕ) → IsToken name → bytes_eq (lowercase name) (codes "content-length") ≡ false → bytes_eq (lowercase name) (codes "transfer-encoding") ≡ false
    → AreVisible value → IsReadBack (field_of name value)
visible-back name value token length coding seen = back name value token length coding (all-values value seen) (no-front value seen) (no-back value seen)
