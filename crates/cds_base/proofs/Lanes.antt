-- Runs of bytes that are seen 32 at a time.
use Rattle.std.proofs.Common.{◌≡◌, ℕ, ◌+◌, ◌%◌, ◌^◌, ◌<◌, ◌≤◌, Bool, true, not, cond, eqb, List, [], ◌∷◌, map, length, drop, replicate, bit_or, refl, ap, ap₂, ◌∙◌, arith, w8, Fits}
use Rattle.std.proofs.lemmas.Bool.{agree_below, agree_below_at, eq-eqb, ne_eqb}
use Rattle.std.proofs.lemmas.List.{length-map}
use Rattle.std.proofs.lemmas.List.Folds.{prefix_len-append}
use Rattle.std.proofs.lemmas.List.Sums.{prefix_len-le-length}
use Rattle.std.proofs.lemmas.Simd.{map-map, zip2_splat, zip2_of_maps, mask_l-mod, first_set_mask_l, chunk-drop, length-chunk}
use Rattle.std.specs.List.{prefix_len}
use Rattle.cds_base.specs.Runs.{first_set}
use lib.Lanes.{Each1, zip2, chunk, mask_l, top}

-- tests that agree on bytes have the same run
same_run : (p q : ℕ → Bool) → agree_below p q 256 ≡ true → (v : List ℕ) → Each1 (Fits w8) v → prefix_len p v ≡ prefix_len q v
same_run p q agree [] fits = refl
same_run p q agree (x ∷ xs) fits = ap₂ (λ b n. cond b (1 + n) 0) (agree_below_at p q 256 x agree fits.0.fits) (same_run p q agree xs fits.1)

abbrev hit : ℕ → ℕ → ℕ
hit x byte = cond (eqb x byte) 255 0

-- lanes that are set, and those that hold one of these bytes besides
abbrev pub or_any : List ℕ → List ℕ → List ℕ → List ℕ
or_any v z [] = z
or_any v z (byte ∷ bytes) = or_any v (zip2 bit_or z (zip2 hit v (replicate 32 byte))) bytes

abbrev pub is_any : (ℕ → ℕ) → List ℕ → ℕ → ℕ
is_any f [] = f
is_any f (byte ∷ bytes) = is_any (λ x. bit_or (f x) (hit x byte)) bytes

-- the first lane that is set ends the run of bytes that pass p
pub first_lane : (p : ℕ → Bool) (f : ℕ → ℕ) (bytes v z : List ℕ) → (length v ≡ 32) × Each1 (Fits w8) v → z ≡ map f v → agree_below (λ x. not (top 7 (is_any f bytes x))) p 256 ≡ true
    → first_set (mask_l (map (top 7) (or_any v z bytes)) % 2 ^ 64) ≡ prefix_len p v
first_lane p f [] v z fits lanes agree =
    let stops : ℕ → Bool = λ x. top 7 (f x) in
    ap (λ l. first_set (mask_l l % 2 ^ 64)) (ap (map (top 7)) lanes ∙ map-map (top 7) f v) ∙ ap first_set (mask_l-mod (map stops v) 64 (omega (arith, length-map v stops, fits.0)))
    ∙ first_set_mask_l stops v 32 fits.0 (omega arith) ∙ same_run (λ x. not (stops x)) p agree v fits.1
first_lane p f (byte ∷ bytes) v z fits lanes agree =
    first_lane p (λ x. bit_or (f x) (hit x byte)) bytes v _ fits (zip2_of_maps bit_or f (λ x. hit x byte) v lanes (zip2_splat hit v 32 byte fits.0)) agree

-- the run at a load: within it, or over it
pub loaded : (p : ℕ → Bool) (xs : List ℕ) (i : ℕ) → i + 32 ≤ length xs
    → (prefix_len p (chunk i 32 xs) < 32 → prefix_len p (drop i xs) ≡ prefix_len p (chunk i 32 xs)) × (32 ≤ prefix_len p (chunk i 32 xs) → prefix_len p (drop i xs) ≡ 32 + prefix_len p (drop (i + 32) xs))
loaded p xs i room =
    let c = chunk i 32 xs in
    let rest = prefix_len p (drop (i + 32) xs) in
    let long = length-chunk i 32 xs room in
    let split = λ (b : Bool) (e : eqb (prefix_len p c) (length c) ≡ b). ap (prefix_len p) (chunk-drop i 32 xs) ∙ prefix_len-append p c (drop (i + 32) xs) ∙ ap (λ b. cond b (length c + rest) (prefix_len p c)) e in
    (λ h. split _ (ne_eqb _ _ (λ e. omega (arith, long))), λ h. split _ (eq-eqb _ _ (omega (arith, long, prefix_len-le-length p c))) ∙ ap (λ n. n + rest) long)
