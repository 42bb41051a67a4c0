-- A note that is out of reach, but less than a wrap without that reach away, is given no place.
use Rattle.std.proofs.Common.{◌≡◌, ◌⊎◌, inl, inr, ◌+◌, ◌-◌, ◌*◌, ◌/◌, ◌%◌, ◌^◌, ◌<◌, ◌≤◌, ℕ, zero, suc, max, cond, nat_eq, nat_lt, nat_le, Some, None, sym, ap, ◌∙◌, arith, div-add-mod'}
use Rattle.std.proofs.lemmas.Nat.{mod-mul-add, mod_below}
use Rattle.std.proofs.lemmas.Bool.{cases_lt, lt-leb, le-leb}
use Rattle.cds_commands.specs.Places.{seq_at, reach, place_from, within, place_of}
use Rattle.cds_commands.specs.PlaceLaws.{old_places_are_none, new_places_are_none}
use Rattle.cds_commands.proofs.Places.{one-more, found}
use Rattle.cds_commands.proofs.Near.{opened, landed}

again : (w k : ℕ) → 0 < w → (k + w) % w ≡ k % w
again w k pos =
    let e : k + w ≡ (k / w + 1) * w + k % w = omega (arith, div-add-mod' k w, one-more (k / w) w) in
    ap (λ x. x % w) e ∙ mod-mul-add (k / w + 1) w (k % w) (mod_below k w pos)

pub past : (wrap next seq : ℕ) → 2 ^ 63 ≤ next → place_of wrap next seq ≡ None
past wrap next seq h =
    ap (λ b. cond b None (cond (nat_eq seq 0) (cond (nat_le next (reach wrap)) (Some 0) None)
    (cond (nat_lt wrap seq) None (within (next + reach wrap) (place_from wrap (max 1 (next - reach wrap)) seq))))) (le-leb (2 ^ 63) next h)

none : (most place : ℕ) → most < place → within most place ≡ None
none most place h = ap (λ b. cond b (Some place) None) (lt-leb place most h)

old : (wrap next place : ℕ) → 256 ≤ wrap → next < 2 ^ 63 → place + reach wrap < next → next < place + (wrap - reach wrap) → place_of wrap next (seq_at wrap place) ≡ None
old wrap next zero wide lim h1 h2 = opened wrap next 0 lim ∙ ap (λ b. cond b (Some 0) None) (lt-leb next (reach wrap) (omega (arith, h1)))
old wrap next (suc k) wide lim h1 h2 =
    let pos : 0 < wrap = omega (arith, wide) in
    let low : next - reach wrap - 1 ≤ k + wrap = omega (arith, h1, h2, wide) in
    let less : k + wrap - (next - reach wrap - 1) < wrap = omega (arith, h1, h2, wide) in
    let over : next + reach wrap < suc (k + wrap) = omega (arith, h1, h2, wide) in
    landed wrap next k wide lim
    ∙ ap (λ x. within (next + reach wrap) (place_from wrap (suc (next - reach wrap - 1)) (suc x))) (sym (again wrap k pos))
    ∙ ap (λ x. within (next + reach wrap) x) (found wrap (next - reach wrap - 1) (k + wrap) pos low less)
    ∙ none (next + reach wrap) (suc (k + wrap)) over

pub old-none : old_places_are_none
old-none wrap next place wide h1 h2 = by (cases_lt next (2 ^ 63))
  where
    by : (next < 2 ^ 63) ⊎ (2 ^ 63 ≤ next) → place_of wrap next (seq_at wrap place) ≡ None
    by (inl lim) = old wrap next place wide lim h1 h2
    by (inr h) = past wrap next (seq_at wrap place) h

new : (wrap next k : ℕ) → 256 ≤ wrap → next < 2 ^ 63 → next + reach wrap < suc k → suc k < next + (wrap - reach wrap) → place_of wrap next (seq_at wrap (suc k)) ≡ None
new wrap next k wide lim h1 h2 =
    let pos : 0 < wrap = omega (arith, wide) in
    let low : next - reach wrap - 1 ≤ k = omega (arith, h1) in
    let less : k - (next - reach wrap - 1) < wrap = omega (arith, h1, h2, wide) in
    landed wrap next k wide lim
    ∙ ap (λ x. within (next + reach wrap) x) (found wrap (next - reach wrap - 1) k pos low less)
    ∙ none (next + reach wrap) (suc k) h1

pub new-none : new_places_are_none
new-none wrap next zero wide h1 h2 = absurd (omega (arith, h1))
new-none wrap next (suc k) wide h1 h2 = by (cases_lt next (2 ^ 63))
  where
    by : (next < 2 ^ 63) ⊎ (2 ^ 63 ≤ next) → place_of wrap next (seq_at wrap (suc k)) ≡ None
    by (inl lim) = new wrap next k wide lim h1 h2
    by (inr h) = past wrap next (seq_at wrap (suc k)) h
