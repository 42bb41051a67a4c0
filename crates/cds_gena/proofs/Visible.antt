-- The texts of names and of times, which are of visible ASCII.
use Rattle.std.proofs.Common.{ℕ, zero, suc, ◌+◌, ◌-◌, ◌<◌, ◌^◌, Bool, true, false, cond, nat_lt, [], ◌∷◌, ◌≡◌, codes, refl, arith}
use Rattle.std.specs.Fmt.{decimal}
use Rattle.std.specs.Int.{w128, to_be_bytes}
use Rattle.std.proofs.lemmas.Bool.Decides.{nat_tests}
use Rattle.std.proofs.lemmas.List.Elements.{All-nil, All-cons}
use Rattle.uuid.specs.Text.{by_index, hex_digit, hyphen, is_hyphen_place, digit_place, nibble, hyphenated_text, lower}
use Rattle.uuid.proofs.TextLemmas.{nibble_small}
use Rattle.cds_http.proofs.Visible.{Seen, AreVisible, visible-append, visible-decimal, visible-literal}
use Rattle.cds_gena.specs.SidText.{sid_text}
use Rattle.cds_gena.specs.Written.{timeout_text}

pub visible-timeout : (seconds : ℕ) → seconds < 2 ^ 32 → AreVisible (timeout_text seconds)
visible-timeout seconds h = visible-append (codes "Second-") (decimal seconds) (visible-literal (codes "Second-") refl) (visible-decimal seconds h)

visible-index : (n : ℕ) (f : ℕ → ℕ) → ((k : ℕ) → Seen (f k)) → AreVisible (by_index n f)
unfolding by_index
visible-index zero f h = All-nil Seen
visible-index (suc n) f h = visible-append (by_index n f) (f n ∷ []) (visible-index n f h) (All-cons Seen (f n) [] (h n) (All-nil Seen))

hex-visible : (d : ℕ) → d < 16 → Seen (hex_digit lower d)
hex-visible d small = by (nat_lt d 10) refl
  where
    digit : (d : ℕ) → nat_lt d 10 ≡ true → Seen (48 + d)
    digit d h = grind (arith, nat_tests)

    letter : (d : ℕ) → d < 16 → Seen (97 + d - 10)
    letter d h = grind (arith, nat_tests)

    by : (t : Bool) → nat_lt d 10 ≡ t → Seen (cond t (48 + d) (lower + d - 10))
    by true h = digit d h
    by false h = letter d small

pub visible-sid : (name : ℕ) → AreVisible (sid_text name)
visible-sid name =
    visible-append (codes "uuid:") (hyphenated_text lower (to_be_bytes w128 name)) (visible-literal (codes "uuid:") refl)
    (visible-index 36 (λ k. cond (is_hyphen_place k) hyphen (hex_digit lower (nibble (to_be_bytes w128 name) (digit_place k)))) each)
  where
    each : (k : ℕ) → Seen (cond (is_hyphen_place k) hyphen (hex_digit lower (nibble (to_be_bytes w128 name) (digit_place k))))
    each k = by (is_hyphen_place k)
      where
        by : (t : Bool) → Seen (cond t hyphen (hex_digit lower (nibble (to_be_bytes w128 name) (digit_place k))))
        by true = refl
        by false = hex-visible (nibble (to_be_bytes w128 name) (digit_place k)) (nibble_small (to_be_bytes w128 name) (digit_place k))
