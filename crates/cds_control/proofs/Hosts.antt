-- A host in its form is text.
use Rattle.std.proofs.Common.{◌≡◌, ◌<◌, ◌&&◌, ℕ, zero, suc, Bool, true, false, List, [], ◌∷◌, refl, arith}
use Rattle.std.specs.List.{list_all}
use Rattle.std.specs.Str.{IsUtf8, IsAscii}
use Rattle.std.proofs.lemmas.Bool.Decides.{nat_tests}
use Rattle.std.proofs.lemmas.Str.{IsUtf8-from_ascii}
use Rattle.cds_soap.specs.Laws.{is_host_byte, is_host}

host-byte-is-ascii : (b : ℕ) → is_host_byte b ≡ true → b < 128
host-byte-is-ascii b e = grind (arith, nat_tests)

both : (a b : Bool) → (a && b) ≡ true → (a ≡ true) × (b ≡ true)
both true true e = (refl, refl)
both true false e = absurd (cc)
both false b e = absurd (cc)

hosts-are-ascii : (text : List ℕ) → list_all is_host_byte text ≡ true → IsAscii text
hosts-are-ascii [] e i = omega arith
hosts-are-ascii (b ∷ text) e zero = host-byte-is-ascii b (both (is_host_byte b) (list_all is_host_byte text) e).0
hosts-are-ascii (b ∷ text) e (suc i) = hosts-are-ascii text (both (is_host_byte b) (list_all is_host_byte text) e).1 i

pub hosts-are-text : (text : List ℕ) → is_host text ≡ true → IsUtf8 text
hosts-are-text text e = IsUtf8-from_ascii text (hosts-are-ascii text (both (list_all is_host_byte text) _ (both _ _ e).0).0)

pub no-host : (text : List ℕ) → (IsUtf8 text → ⊥) → is_host text ≡ false
no-host text bad = by (is_host text) refl
  where
    by : (b : Bool) → is_host text ≡ b → b ≡ false
    by true e = absurd (bad (hosts-are-text text e))
    by false e = refl
