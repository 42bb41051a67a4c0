-- What escaping does to one character.
use Rattle.std.proofs.Common.{◌≡◌, ℕ, suc, Bool, true, false, not, refl, ◌<◌, ◌≤◌, List, [], ◌∷◌, ◌++◌, length, get_or, encode_utf8, sym, ap, ◌∙◌, subst, arith, inl, inr, ◌⊎◌}
use Rattle.std.proofs.lemmas.Bool.{cases_lt}
use Rattle.std.proofs.lemmas.Bool.Decides.{nat_tests}
use Rattle.std.proofs.lemmas.Str.{inside_one}
use Rattle.std.proofs.lemmas.List.{append-nil}
use Rattle.std.proofs.lemmas.List.Folds.{length-prefix_len}
use Rattle.std.proofs.lemmas.List.Sums.{prefix_len_passes}
use Rattle.std.proofs.lemmas.Slice.Eq.{bytes_eq-Decides}
use Rattle.std.specs.List.{flat_map, prefix_len}
use Rattle.std.specs.Str.{bytes_eq}
use Rattle.cds_base.specs.Escape.{escaped, escaped_byte, is_replaced, plain_run_of}

-- a byte of a longer character stays
wide_byte : (b : ℕ) → 128 ≤ b → escaped_byte b ≡ b ∷ []
wide_byte b h = grind (arith, nat_tests)

-- bytes that all stay
kept_bytes : (xs : List ℕ) → ((k : ℕ) → k < length xs → escaped_byte (get_or xs k 0) ≡ get_or xs k 0 ∷ []) → flat_map escaped_byte xs ≡ xs
kept_bytes [] each = refl
kept_bytes (x ∷ xs) each =
    ap (λ front. front ++ flat_map escaped_byte xs) (each 0 (omega arith)) ∙ ap (λ rest. x ∷ rest) (kept_bytes xs (λ k h. each (suc k) (omega arith)))

below_or_above : (b : ℕ) → (b < 128) ⊎ (128 ≤ b)
below_or_above b = cases_lt b 128

-- a character whose code stays, stays
pub kept_char : (c : ℕ) → escaped_byte c ≡ c ∷ [] → flat_map escaped_byte (encode_utf8 c) ≡ encode_utf8 c
kept_char c stays = kept_bytes (encode_utf8 c) each where
  each : (k : ℕ) → k < length (encode_utf8 c) → escaped_byte (get_or (encode_utf8 c) k 0) ≡ get_or (encode_utf8 c) k 0 ∷ []
  each k inside = elim (below_or_above (get_or (encode_utf8 c) k 0)) [
    | inl low ↦ (let same : c ≡ get_or (encode_utf8 c) k 0 = inside_one c [] (encode_utf8 c) k (sym (append-nil (encode_utf8 c))) inside low in subst (λ b. escaped_byte b ≡ b ∷ []) same stays)
    | inr high ↦ wide_byte (get_or (encode_utf8 c) k 0) high
  ]

-- a byte that is not replaced stays
kept_byte : (b : ℕ) → not (is_replaced b) ≡ true → escaped_byte b ≡ b ∷ []
kept_byte b stays = (bytes_eq-Decides (escaped_byte b) (b ∷ [])).0 (sym (not-not (bytes_eq (escaped_byte b) (b ∷ []))) ∙ stays)
  where
    not-not : (t : Bool) → not (not t) ≡ t
    not-not true = refl
    not-not false = refl

-- a text without a byte that is replaced stays
pub kept_text : (text : List ℕ) → plain_run_of text ≡ length text → escaped text ≡ text
kept_text text whole = kept_bytes text (λ k inside. kept_byte (get_or text k 0) (prefix_len_passes passes text k 0 (within k inside)))
  where
    passes : ℕ → Bool
    passes b = not (is_replaced b)

    within : (k : ℕ) → k < length text → k < prefix_len passes text
    within k inside = subst (λ n. k < n) (sym whole ∙ length-prefix_len passes text) inside
