-- Places: the least place with a SEQ is the true one, where it is not a whole wrap away.
use Rattle.std.proofs.Common.{◌≡◌, ◌⊎◌, inl, inr, ◌+◌, ◌-◌, ◌*◌, ◌/◌, ◌%◌, ◌<◌, ◌≤◌, ℕ, suc, sym, ap, ◌∙◌, arith, div-add-mod'}
use Rattle.std.proofs.lemmas.Nat.{mod-mul-add, mod_below}
use Rattle.std.proofs.lemmas.Bool.{cases_lt}
use Rattle.cds_commands.specs.Places.{seq_at, place_from}
use Rattle.cds_commands.specs.PlaceLaws.{least_place_is_found}

pub one-more : (q w : ℕ) → (q + 1) * w ≡ q * w + w
one-more q w = grind arith

pub stays : (w l d : ℕ) → l % w + d < w → (l + d) % w ≡ l % w + d
stays w l d h = ap (λ x. x % w) (omega (arith, div-add-mod' l w)) ∙ mod-mul-add (l / w) w (l % w + d) h

pub turns : (w l d : ℕ) → w ≤ l % w + d → l % w + d - w < w → (l + d) % w ≡ l % w + d - w
turns w l d h k = ap (λ x. x % w) (omega (arith, div-add-mod' l w, one-more (l / w) w, h)) ∙ mod-mul-add (l / w + 1) w (l % w + d - w) k

-- from one SEQ to another there are as many places as from one place to the other
between : (w l d : ℕ) → d < w → ((l + d) % w + (w - l % w)) % w ≡ d
between w l d less = by (cases_lt (l % w + d) w)
  where
    low : l % w < w
    low = mod_below l w (omega (arith, less))

    by : (l % w + d < w) ⊎ (w ≤ l % w + d) → ((l + d) % w + (w - l % w)) % w ≡ d
    by (inl h) = ap (λ x. x % w) (omega (arith, stays w l d h, low)) ∙ mod-mul-add 1 w d less
    by (inr h) = ap (λ x. x % w) (omega (arith, turns w l d h (omega (arith, low, less, h)), low, h)) ∙ mod-mul-add 0 w d less

sum-of : (w l d : ℕ) → (suc ((l + d) % w) - 1) + (w - (suc l - 1) % w) ≡ (l + d) % w + (w - l % w)
sum-of w l d =
    let e : suc l - 1 ≡ l = omega arith in
    let f : (suc ((l + d) % w) - 1) + (w - l % w) ≡ (l + d) % w + (w - l % w) = omega arith in
    ap (λ x. (suc ((l + d) % w) - 1) + (w - x % w)) e ∙ f

at-distance : (w l d : ℕ) → d < w → place_from w (suc l) (seq_at w (suc (l + d))) ≡ suc (l + d)
at-distance w l d less =
    let e : suc l + d ≡ suc (l + d) = omega arith in
    ap (λ x. suc l + x % w) (sum-of w l d) ∙ ap (λ x. suc l + x) (between w l d less) ∙ e

pub found : least_place_is_found
found w l p pos le less = ap (λ x. place_from w (suc l) (seq_at w (suc x))) p-is ∙ at-distance w l (p - l) less ∙ ap suc (sym p-is)
  where
    p-is : p ≡ l + (p - l)
    p-is = omega (arith, le)
