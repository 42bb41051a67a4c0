-- Tokens and hosts are of visible ASCII.
use Rattle.std.proofs.Common.{◌≡◌, ℕ, ◌≤◌, Bool, true, false, ◌&&◌, nat_le, IsTrue, List, length, refl, sym, arith, true≢false}
use Rattle.std.specs.List.{list_all}
use Rattle.std.proofs.lemmas.Bool.Decides.{nat_tests}
use Rattle.std.proofs.lemmas.List.Elements.{All-weaker}
use Rattle.http_header.proofs.TokenLemmas.{AllPass-from_test}
use Rattle.cds_http.proofs.Visible.{is_visible, AreVisible}
use Rattle.cds_soap.specs.Written.{is_token_byte as is_reset_byte, is_reset_token}
use Rattle.cds_soap.specs.Laws.{is_host_byte, is_host}

visible-of : (test : ℕ → Bool) (text : List ℕ) → ((b : ℕ) → IsTrue (test b) → IsTrue (is_visible b)) → list_all test text ≡ true → AreVisible text
visible-of test text each e = All-weaker (λ b. IsTrue (test b)) (λ b. IsTrue (is_visible b)) each text (AllPass-from_test test text e)

-- ---- tokens and hosts

pub record IsShortText (text : List ℕ) : Type 0 where
  pub visible : AreVisible text
  pub short : length text ≤ 255

parts : (a b c : Bool) → (a && b && c) ≡ true → (a ≡ true) × (c ≡ true)
parts true true c e = (refl, e)
parts true false c e = absurd (true≢false (sym e))
parts false b c e = absurd (true≢false (sym e))

pub within : (n m : ℕ) → nat_le n m ≡ true → n ≤ m
within n m e = grind (arith, nat_tests)

reset-visible : (b : ℕ) → IsTrue (is_reset_byte b) → IsTrue (is_visible b)
reset-visible b h = grind (arith, nat_tests)

host-visible : (b : ℕ) → IsTrue (is_host_byte b) → IsTrue (is_visible b)
host-visible b h = grind (arith, nat_tests)

pub token-visible : (token : List ℕ) → IsTrue (is_reset_token token) → IsShortText token
token-visible token h =
    let p = parts (list_all is_reset_byte token) (nat_le 1 (length token)) (nat_le (length token) 255) h in
    record { visible = visible-of is_reset_byte token reset-visible p.0; short = within (length token) 255 p.1 }

pub host-text-visible : (host : List ℕ) → IsTrue (is_host host) → IsShortText host
host-text-visible host h =
    let p = parts (list_all is_host_byte host) (nat_le 1 (length host)) (nat_le (length host) 255) h in
    record { visible = visible-of is_host_byte host host-visible p.0; short = within (length host) 255 p.1 }
