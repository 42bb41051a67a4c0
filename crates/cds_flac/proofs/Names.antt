-- What makes a comment, and what does not.
use Rattle.std.proofs.Common.{◌≡◌, ℕ, zero, suc, ◌<◌, Bool, true, false, cond, ◌&&◌, not, nat_eq, List, [], ◌∷◌, length, get_or, Option, Some, None, Result, Ok, Err, refl, sym, ap, ◌∙◌, arith}
use Rattle.std.proofs.lemmas.Bool.Decides.{nat_tests}
use Rattle.std.specs.List.{list_all}
use Rattle.std.specs.Result.{is_ok, MatchResult}
use Rattle.std.specs.Str.{IsUtf8, is_utf8}
use Rattle.std.proofs.lemmas.Str.{IsUtf8-from_is_utf8, is_utf8-from_IsUtf8, IsUtf8-from_ascii}
use Rattle.cds_object.specs.declared.info.Comment.{Comment}
use Rattle.cds_flac.specs.Comment.{is_name, is_name_byte, named}

-- bytes that are not UTF-8 fail the test
pub is_utf8-false : (bytes : List ℕ) → ¬ (IsUtf8 bytes) → is_utf8 bytes ≡ false
is_utf8-false bytes h = by (is_utf8 bytes) refl where
  by : (b : Bool) → is_utf8 bytes ≡ b → is_utf8 bytes ≡ false
  by true e = absurd (h (IsUtf8-from_is_utf8 bytes e))
  by false e = e

-- what a reader of UTF-8 answers, by the test
pub text-decided : {T E : Type 0} (r : Result T E) (bytes : List ℕ) (P : T → Type 0) (Q : E → Type 0) → MatchResult r (λ s. P s × IsUtf8 bytes) (λ e. ¬ (IsUtf8 bytes) × Q e) → is_ok r ≡ is_utf8 bytes
text-decided (Ok s) bytes P Q h = sym (is_utf8-from_IsUtf8 bytes h.1)
text-decided (Err e) bytes P Q h = sym (is_utf8-false bytes h.0)

both : (a b : Bool) → (a && b) ≡ true → (a ≡ true) × (b ≡ true)
both true b h = (refl, h)
both false b h = absurd (cc)

printable : (b : ℕ) → is_name_byte b ≡ true → b < 128
printable b h = grind (arith, nat_tests)

ascii : (name : List ℕ) → list_all is_name_byte name ≡ true → (i : ℕ) → get_or name i 0 < 128
ascii [] h i = omega arith
ascii (x ∷ xs) h zero = printable x (both (is_name_byte x) (list_all is_name_byte xs) h).0
ascii (x ∷ xs) h (suc i) = ascii xs (both (is_name_byte x) (list_all is_name_byte xs) h).1 i

-- a name is text
pub name-is_text : (name : List ℕ) → is_name name ≡ true → IsUtf8 name
name-is_text name h = IsUtf8-from_ascii name (ascii name (both (not (nat_eq (length name) 0)) (list_all is_name_byte name) h).1)

made : List ℕ → List ℕ → Option Comment
made name value = Some record { name = name; value = value }

pub named-made : (name value : List ℕ) → is_name name ≡ true → IsUtf8 value → named name value ≡ Some record { name = name; value = value }
unfolding made
named-made name value n v =
    let name_holds : is_name name ≡ true = n in
    let both_hold : (is_name name && is_utf8 value) ≡ true = ap (λ b. b && is_utf8 value) n ∙ is_utf8-from_IsUtf8 value v in
    ap (λ b. cond b (made name value) None) both_hold

pub named-no_text : (name value : List ℕ) → is_name name ≡ true → ¬ (IsUtf8 value) → named name value ≡ None
unfolding made
named-no_text name value n v =
    let fails : (is_name name && is_utf8 value) ≡ false = ap (λ b. b && is_utf8 value) n ∙ is_utf8-false value v in
    ap (λ b. cond b (made name value) None) fails
