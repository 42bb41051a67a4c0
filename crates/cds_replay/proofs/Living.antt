-- A subscription lives where it was granted and has not run out.
use Rattle.std.proofs.Common.{◌≡◌, ◌⊎◌, inl, inr, ◌≤◌, ℕ, Bool, true, false, ◌||◌, nat_eq, List, [], ◌∷◌, filter, Option, Some, None, is_some, refl, sym, ap, ◌∙◌, arith, true≢false, eqb-true, eq-eqb}
use Rattle.std.specs.List.{list_any, range_with_len}
use Rattle.cds_commands.specs.Commands.{Command}
use Rattle.cds_commands.specs.Subscriptions.{granted, unless_past, runs_until, is_alive}
use Rattle.cds_commands.proofs.Among.{Among, among-filter, among-row, filter-among}
use Rattle.cds_gena.proofs.Commands.{runs-named}
use Rattle.cds_script.specs.Report.{lives}

past-runs : (moment : ℕ) (o : Option ℕ) → is_some (unless_past moment o) ≡ true → is_some o ≡ true
past-runs moment None e = e
past-runs moment (Some end) e = refl

any-among : (name : ℕ) (names : List ℕ) → Among name names → list_any (λ other. nat_eq other name) names ≡ true
any-among name [] a = absurd a
any-among name (other ∷ names) a = by a (nat_eq other name) refl (λ b. any-among name names b)
  where
    by : (name ≡ other) ⊎ Among name names → (b : Bool) → nat_eq other name ≡ b → (Among name names → list_any (λ n. nat_eq n name) names ≡ true)
        → b || list_any (λ n. nat_eq n name) names ≡ true
    by a true h r = refl
    by (inl e) false h r = absurd (true≢false (sym (eq-eqb other name (sym e)) ∙ h))
    by (inr b) false h r = r b

any-none : (name : ℕ) (names : List ℕ) → ((other : ℕ) → Among other names → nat_eq other name ≡ false) → list_any (λ other. nat_eq other name) names ≡ false
any-none name [] h = refl
any-none name (other ∷ names) h = λ i. h other (inl refl) i || any-none name names (λ n a. h n (inr a)) i

pub living-alive : (name now : ℕ) (commands : List Command) → lives name now commands ≡ is_alive name now commands
living-alive name now commands = by (passes name) refl
  where
    passes : ℕ → Bool
    passes n = is_alive n now commands

    other-name : passes name ≡ false → (other : ℕ) → passes other ≡ true → (b : Bool) → nat_eq other name ≡ b → b ≡ false
    other-name f other t true h = absurd (true≢false (sym t ∙ ap passes (eqb-true other name h) ∙ f))
    other-name f other t false h = refl

    by : (b : Bool) → passes name ≡ b → list_any (λ other. nat_eq other name) (filter passes (range_with_len 1 (granted commands))) ≡ b
    by true t =
        let named = runs-named name commands (past-runs now (runs_until name commands) t) in
        let low = named.0 in
        let high = named.1 in
        any-among name (filter passes (range_with_len 1 (granted commands)))
        (among-filter passes (range_with_len 1 (granted commands)) name (among-row 1 (granted commands) name low (omega (arith, high))) t)
    by false f = any-none name (filter passes (range_with_len 1 (granted commands)))
        (λ other a. other-name f other (filter-among passes (range_with_len 1 (granted commands)) other a).1 (nat_eq other name) refl)

-- one that lives was granted
pub lives-granted : (name now : ℕ) (commands : List Command) → lives name now commands ≡ true → name ≤ granted commands
lives-granted name now commands living =
    (runs-named name commands (past-runs now (runs_until name commands) (sym (living-alive name now commands) ∙ living))).1
