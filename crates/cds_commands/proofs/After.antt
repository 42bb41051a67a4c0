-- The SEQ of a next place is the one after that of the place before it.
use Rattle.std.proofs.Common.{◌≡◌, ◌⊎◌, inl, inr, ◌+◌, ◌-◌, ◌*◌, ◌%◌, ◌<◌, ◌≤◌, ℕ, zero, suc, true, false, cond, nat_lt, sym, ap, ◌∙◌, arith, lt-ltb, le-ltb}
use Rattle.std.proofs.lemmas.Nat.{mod-mul-add, mod_below}
use Rattle.std.proofs.lemmas.Bool.{cases_lt}
use Rattle.cds_commands.specs.Places.{seq_after}
use Rattle.cds_commands.specs.PlaceLaws.{next_places_have_next_seqs}
use Rattle.cds_commands.proofs.Places.{stays, turns}

pub nothing : (wrap : ℕ) → 0 < wrap → 0 % wrap ≡ 0
nothing wrap some = let e : 0 ≡ 0 * wrap + 0 = omega arith in ap (λ x. x % wrap) e ∙ mod-mul-add 0 wrap 0 some

pub after : next_places_have_next_seqs
after wrap zero some =
    ap suc (nothing wrap some) ∙ sym (ap (λ b. cond b (0 + 1) 1) (lt-ltb 0 wrap some))
after wrap (suc k) some = by (cases_lt (k % wrap + 1) wrap)
  where
    low : k % wrap < wrap
    low = mod_below k wrap some

    one : suc k % wrap ≡ (k + 1) % wrap
    one = let e : suc k ≡ k + 1 = omega arith in ap (λ n. n % wrap) e

    by : (k % wrap + 1 < wrap) ⊎ (wrap ≤ k % wrap + 1) → suc (suc k % wrap) ≡ seq_after wrap (suc (k % wrap))
    by (inl less) =
        let below : nat_lt (suc (k % wrap)) wrap ≡ true = lt-ltb (suc (k % wrap)) wrap (omega (arith, less)) in
        let next : suc (k % wrap + 1) ≡ suc (k % wrap) + 1 = omega arith in
        ap suc (one ∙ stays wrap k 1 less) ∙ next ∙ sym (ap (λ b. cond b (suc (k % wrap) + 1) 1) below)
    by (inr full) =
        let last : nat_lt (suc (k % wrap)) wrap ≡ false = le-ltb (suc (k % wrap)) wrap (omega (arith, full)) in
        let none : k % wrap + 1 - wrap ≡ 0 = omega (arith, full, low) in
        ap suc (one ∙ turns wrap k 1 full (omega (arith, low, some)) ∙ none) ∙ sym (ap (λ b. cond b (suc (k % wrap) + 1) 1) last)
