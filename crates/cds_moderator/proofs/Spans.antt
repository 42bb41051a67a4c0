-- Spans that go on from one another: what is left of them after a release, and how far a release goes.
use Rattle.std.proofs.Common.{◌≡◌, ◌+◌, ◌<◌, ◌≤◌, ℕ, Bool, true, false, cond, nat_lt, nat_le, List, [], ◌∷◌, ◌++◌, Option, Some, None, IfSome, refl, sym, ap, ◌∙◌, subst, arith, ltb-true, lt-ltb, leb-true, le-leb}
use Rattle.cds_store.specs.declared.span.Span.{Span}
use Rattle.cds_commands.specs.Releases.{release_size}
use Rattle.cds_moderator.specs.Moderating.{above, last_within, joined, scan_size, GoOn, AreSpans, last_end, EndsAt}

-- a span behind others
pub on-more : (from : ℕ) (spans : List Span) (span : Span) → GoOn from spans → span.from ≡ last_end from spans → span.from < span.to → span.to ≤ span.from + scan_size → GoOn from (spans ++ span ∷ [])
on-more from [] span on e some few = (e, omega (arith, e, some), omega (arith, e, few), tt)
on-more from (s ∷ spans) span on e some few = (on.0, on.1, on.2, on-more s.to spans span on.3 e some few)

last-more : (from : ℕ) (spans : List Span) (span : Span) → last_end from (spans ++ span ∷ []) ≡ span.to
last-more from [] span = refl
last-more from (s ∷ spans) span = last-more s.to spans span

pub spans-more : (end : Option ℕ) (spans : List Span) (span : Span) → AreSpans spans → EndsAt end spans → ((e : ℕ) → end ≡ Some e → span.from ≡ e) → span.from < span.to → span.to ≤ span.from + scan_size
    → AreSpans (spans ++ span ∷ []) × EndsAt (Some span.to) (spans ++ span ∷ [])
spans-more end [] span are at on some few = ((refl, some, few, tt), refl)
spans-more end (s ∷ spans) span are at on some few =
    (on-more s.from (s ∷ spans) span are (on (last_end s.to spans) at) some few, ap Some (sym (last-more s.to spans span)))

-- all spans behind a number end above it
all-above : (number from : ℕ) (spans : List Span) → GoOn from spans → number ≤ from → above number spans ≡ spans
all-above number from [] on low = refl
all-above number from (s ∷ spans) on low =
    let more = on.1 in
    (λ i. cond (lt-ltb number s.to (omega (arith, low, more)) i) (s ∷ above number spans) (above number spans)) ∙ ap (λ l. s ∷ l) (all-above number s.to spans on.3 (omega (arith, low, more)))

abbrev Left : Option ℕ → List Span → Type 0
Left end spans = AreSpans spans × EndsAt end spans

-- what ends above a number goes on as before
left : (end : Option ℕ) (number from : ℕ) (spans : List Span) → GoOn from spans → end ≡ Some (last_end from spans) → Left end (above number spans)
left end number from [] on at = (tt, tt)
left end number from (s ∷ spans) on at = by (nat_lt number s.to) refl (left end number s.to spans on.3 at)
  where
    by : (b : Bool) → nat_lt number s.to ≡ b → Left end (above number spans) → Left end (cond b (s ∷ above number spans) (above number spans))
    by true e r =
        let low = ltb-true number s.to e in
        let rest = all-above number s.to spans on.3 (omega (arith, low)) in
        subst (λ (l : List Span). Left end (s ∷ l)) (sym rest) ((refl, subst (λ (n : ℕ). n < s.to) (sym on.0) on.1, subst (λ (n : ℕ). s.to ≤ n + scan_size) (sym on.0) on.2, on.3), at)
    by false e r = r

pub left-spans : (end : Option ℕ) (number : ℕ) (spans : List Span) → AreSpans spans → EndsAt end spans → AreSpans (above number spans) × EndsAt end (above number spans)
left-spans end number [] are at = (tt, tt)
left-spans end number (s ∷ spans) are at = left end number s.from (s ∷ spans) are at

-- how far a release goes
within : (most before : ℕ) (spans : List Span) → before ≤ most → last_within most before spans ≤ most
within most before [] l = l
within most before (s ∷ spans) l = within most (cond (nat_le s.to most) s.to before) spans (by (nat_le s.to most) refl)
  where
    by : (b : Bool) → nat_le s.to most ≡ b → cond b s.to before ≤ most
    by true e = leb-true s.to most e
    by false e = l

rises : (most before from : ℕ) (spans : List Span) → GoOn from spans → before ≤ from → before ≤ last_within most before spans
rises most before from [] on l = omega arith
rises most before from (s ∷ spans) on l = let more = on.1 in by (nat_le s.to most) (rises most s.to s.to spans on.3 (omega arith)) (rises most before s.to spans on.3 (omega (arith, l, more)))
  where
    by : (b : Bool) → s.to ≤ last_within most s.to spans → before ≤ last_within most before spans → before ≤ last_within most (cond b s.to before) spans
    by true taken rest = let more = on.1 in omega (arith, l, more, taken)
    by false taken rest = rest

pub joined-size : (spans : List Span) (span : Span) → AreSpans spans → joined spans ≡ Some span → (span.from < span.to) × (span.to ≤ span.from + release_size)
joined-size [] span are e = absurd (cc)
joined-size (s ∷ spans) span are e =
    let most : ℕ = s.from + release_size in
    let far = within most s.from (s ∷ spans) (omega arith) in
    let few = are.2 in
    let more = are.1 in
    let first : cond (nat_le s.to most) s.to s.from ≡ s.to = λ i. cond (le-leb s.to most (omega (arith, few)) i) s.to s.from in
    let rest = rises most s.to s.to spans are.3 (omega arith) in
    let reach : s.to ≤ last_within most s.from (s ∷ spans) = subst (λ (n : ℕ). s.to ≤ last_within most n spans) (sym first) rest in
    let made : Span = record { from = s.from; to = last_within most s.from (s ∷ spans) } in
    let is : made ≡ span = cc in
    subst (λ (z : Span). (z.from < z.to) × (z.to ≤ z.from + release_size)) is (omega (arith, more, reach), far)

pub joined-some : (spans : List Span) (o : Option Span) → AreSpans spans → o ≡ joined spans → IfSome o (λ (span : Span). (span.from < span.to) × (span.to ≤ span.from + release_size))
joined-some spans None are e = tt
joined-some spans (Some span) are e = joined-size spans span are (sym e)
