-- A note within reach is given its true place; with the wrap of the protocol a place is the SEQ.
use Rattle.std.proofs.Common.{◌≡◌, ◌+◌, ◌-◌, ◌%◌, ◌^◌, ◌<◌, ◌≤◌, ℕ, zero, suc, max, false, cond, nat_eq, nat_lt, nat_le, Some, None, refl, sym, ap, ◌∙◌, arith}
use Rattle.std.proofs.lemmas.Nat.{mod_below}
use Rattle.std.proofs.lemmas.Bool.{lt-leb, le-leb, le-ltb, ne_eqb}
use Rattle.cds_commands.specs.Places.{seq_at, reach, place_from, within, place_of}
use Rattle.cds_commands.specs.PlaceLaws.{near_places_are_true, places_are_seqs}
use Rattle.cds_commands.proofs.Places.{found}

pub opened : (wrap next seq : ℕ) → next < 2 ^ 63 →
    place_of wrap next seq ≡ cond (nat_eq seq 0) (cond (nat_le next (reach wrap)) (Some 0) None)
    (cond (nat_lt wrap seq) None (within (next + reach wrap) (place_from wrap (max 1 (next - reach wrap)) seq)))
opened wrap next seq lim =
    ap (λ b. cond b None (cond (nat_eq seq 0) (cond (nat_le next (reach wrap)) (Some 0) None)
    (cond (nat_lt wrap seq) None (within (next + reach wrap) (place_from wrap (max 1 (next - reach wrap)) seq))))) (lt-leb (2 ^ 63) next lim)

pub landed : (wrap next k : ℕ) → 256 ≤ wrap → next < 2 ^ 63 →
    place_of wrap next (seq_at wrap (suc k)) ≡ within (next + reach wrap) (place_from wrap (suc (next - reach wrap - 1)) (suc (k % wrap)))
landed wrap next k wide lim =
    opened wrap next (suc (k % wrap)) lim
    ∙ ap (λ b. cond b (cond (nat_le next (reach wrap)) (Some 0) None)
    (cond (nat_lt wrap (suc (k % wrap))) None (within (next + reach wrap) (place_from wrap (max 1 (next - reach wrap)) (suc (k % wrap)))))) not-zero
    ∙ ap (λ b. cond b None (within (next + reach wrap) (place_from wrap (max 1 (next - reach wrap)) (suc (k % wrap))))) fits
    ∙ ap (λ x. within (next + reach wrap) (place_from wrap x (suc (k % wrap)))) low-is
  where
    pos : 0 < wrap
    pos = omega (arith, wide)

    not-zero : nat_eq (suc (k % wrap)) 0 ≡ false
    not-zero = ne_eqb (suc (k % wrap)) 0 (λ e. omega (arith, e))

    fits : nat_lt wrap (suc (k % wrap)) ≡ false
    fits = le-ltb wrap (suc (k % wrap)) (mod_below k wrap pos)

    low-is : max 1 (next - reach wrap) ≡ suc (next - reach wrap - 1)
    low-is = omega arith

pub near : near_places_are_true
near wrap next zero wide lim h1 h2 = opened wrap next 0 lim ∙ ap (λ b. cond b (Some 0) None) (le-leb next (reach wrap) (omega (arith, h1)))
near wrap next (suc k) wide lim h1 h2 =
    let pos : 0 < wrap = omega (arith, wide) in
    let low : next - reach wrap - 1 ≤ k = omega (arith, h1) in
    let less : k - (next - reach wrap - 1) < wrap = omega (arith, h2, wide) in
    landed wrap next k wide lim
    ∙ ap (λ x. within (next + reach wrap) x) (found wrap (next - reach wrap - 1) k pos low less)
    ∙ ap (λ b. cond b (Some (suc k)) None) (le-leb (suc k) (next + reach wrap) h2)

same-seq : (seq : ℕ) → seq < 2 ^ 30 → seq_at 4294967295 seq ≡ seq
same-seq zero h = refl
same-seq (suc k) h = omega (arith, h)

pub seqs : places_are_seqs
seqs next seq h k =
    ap (λ s. place_of 4294967295 next s) (sym (same-seq seq k))
    ∙ near 4294967295 next seq (omega arith) (omega (arith, h)) (omega (arith, h)) (omega (arith, k))
