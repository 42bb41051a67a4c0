-- The spans of a history above one of its scan ends, and the last end among them.
use Rattle.std.proofs.Common.{◌≡◌, ◌⊎◌, inl, inr, ◌<◌, ◌≤◌, ℕ, zero, suc, Bool, true, false, cond, nat_lt, nat_le, List, [], ◌∷◌, ◌++◌, filter, drop, refl, sym, ap, ◌∙◌, subst, arith, true≢false, ltb-true, ltb-false, lt-ltb, le-ltb, le-leb, leb-true}
use Rattle.std.specs.List.{AllByRecursion}
use Rattle.std.proofs.lemmas.List.Elements.{filter-append}
use Rattle.std.proofs.lemmas.List.{append-nil}
use Rattle.cds_catalog.specs.Library.{FolderMap}
use Rattle.cds_catalog.specs.History.{end_of}
use Rattle.cds_catalog.proofs.Numbers.{ends_rise}
use Rattle.cds_catalog.proofs.StepsFind.{each-append, each-weaker}
use Rattle.cds_store.specs.declared.span.Span.{Span}
use Rattle.cds_commands.specs.Commands.{Command, Scans, Grants, Renews, Ends, Ticks, Stops, scans_of}
use Rattle.cds_commands.specs.Releases.{released_to, releases_of, scan_end_within}
use Rattle.cds_commands.proofs.Scanned.{scans-first}
use Rattle.cds_commands.proofs.Sent.{released-stood}
use Rattle.cds_moderator.specs.Moderating.{some_span, spans_of, above, last_within}

-- ---- filters

pub filter-twice : {X : Type 0} (p q : X → Bool) → ((x : X) → p x ≡ true → q x ≡ true) → (xs : List X) → filter p (filter q xs) ≡ filter p xs
filter-twice p q h [] = refl
filter-twice {X} p q h (x ∷ xs) = by (q x) (p x) refl refl (filter-twice p q h xs)
  where
    by : (b d : Bool) → q x ≡ b → p x ≡ d → filter p (filter q xs) ≡ filter p xs
        → filter p (cond b (x ∷ filter q xs) (filter q xs)) ≡ cond d (x ∷ filter p xs) (filter p xs)
    by true true e f r = (λ i. cond (f i) (x ∷ filter p (filter q xs)) (filter p (filter q xs))) ∙ ap (λ l. x ∷ l) r
    by true false e f r = (λ i. cond (f i) (x ∷ filter p (filter q xs)) (filter p (filter q xs))) ∙ r
    by false true e f r = absurd (true≢false (sym (h x f) ∙ e))
    by false false e f r = r

none-pass : {X : Type 0} (p : X → Bool) (xs : List X) → AllByRecursion (λ x. p x ≡ false) xs → filter p xs ≡ []
none-pass p [] all = refl
none-pass p (x ∷ xs) all = (λ i. cond (all.0 i) (x ∷ filter p xs) (filter p xs)) ∙ none-pass p xs all.1

-- ---- scan ends

abbrev end : ℕ → List FolderMap → ℕ
end first maps = end_of (record { first = first; maps = maps })

-- a number that is one of the ends, or the first number
abbrev pub EndOf : ℕ → List FolderMap → ℕ → Type 0
EndOf first [] number = number ≡ first
EndOf first (library ∷ older) number = (number ≡ end first (library ∷ older)) ⊎ EndOf first older number

rises : (first : ℕ) (library : FolderMap) (older : List FolderMap) → end first older ≤ end first (library ∷ older)
rises first library older = ends_rise first (library ∷ []) older

pub end-from : (first : ℕ) (maps : List FolderMap) → first ≤ end first maps
end-from first maps = omega arith

pub end-below : (first number : ℕ) (maps : List FolderMap) → EndOf first maps number → number ≤ end first maps
end-below first number [] e = omega (arith, e)
end-below first number (library ∷ older) e = by e (λ d. end-below first number older d)
  where
    by : (number ≡ end first (library ∷ older)) ⊎ EndOf first older number → (EndOf first older number → number ≤ end first older) → number ≤ end first (library ∷ older)
    by (inl d) r = omega (arith, d)
    by (inr d) r = let low = r d in let rise = rises first library older in omega (arith, low, rise)

stood-end : (first : ℕ) (commands : List Command) (n : ℕ) → EndOf first (scans_of first commands).maps (end_of (scans_of first (drop n commands)))
stood-end first [] zero = omega arith
stood-end first [] (suc n) = omega arith
stood-end first (Scans library ∷ older) zero = inl (ap end_of (scans-first first (Scans library ∷ older)))
stood-end first (Scans library ∷ older) (suc n) = inr (stood-end first older n)
stood-end first (Grants moment callback seconds ∷ older) zero = stood-end first older zero
stood-end first (Grants moment callback seconds ∷ older) (suc n) = stood-end first older n
stood-end first (Renews moment name seconds ∷ older) zero = stood-end first older zero
stood-end first (Renews moment name seconds ∷ older) (suc n) = stood-end first older n
stood-end first (Ends moment name ∷ older) zero = stood-end first older zero
stood-end first (Ends moment name ∷ older) (suc n) = stood-end first older n
stood-end first (Stops ∷ older) zero = stood-end first older zero
stood-end first (Stops ∷ older) (suc n) = stood-end first older n
stood-end first (Ticks moment ∷ older) zero = stood-end first older zero
stood-end first (Ticks moment ∷ older) (suc n) = stood-end first older n

pub released-end : (first : ℕ) (commands : List Command) → EndOf first (scans_of first commands).maps (released_to first (releases_of first commands))
released-end first commands = let s = released-stood first commands in subst (EndOf first (scans_of first commands).maps) (sym s.1) (stood-end first commands s.0)

-- ---- spans

abbrev last : ℕ → FolderMap → List FolderMap → List Span
last first library older = some_span (end first older) (end first (library ∷ older))

all-within : (most from to : ℕ) → to ≤ most → AllByRecursion (λ (s : Span). s.to ≤ most) (some_span from to)
all-within most from to l = by (nat_lt from to)
  where
    by : (b : Bool) → AllByRecursion (λ (s : Span). s.to ≤ most) (cond b (record { from = from; to = to } ∷ []) [])
    by true = (l, tt)
    by false = tt

all-below : (first : ℕ) (maps : List FolderMap) → AllByRecursion (λ (s : Span). s.to ≤ end first maps) (spans_of first maps)
all-below first [] = tt
all-below first (library ∷ older) =
    each-append (λ (s : Span). s.to ≤ end first (library ∷ older)) (spans_of first older) (last first library older)
    (each-weaker (λ (s : Span). s.to ≤ end first older) (λ (s : Span). s.to ≤ end first (library ∷ older)) (λ s l. let rise = rises first library older in omega (arith, l, rise)) (spans_of first older) (all-below first older))
    (all-within (end first (library ∷ older)) (end first older) (end first (library ∷ older)) (omega arith))

none-above : (first number : ℕ) (maps : List FolderMap) → end first maps ≤ number → above number (spans_of first maps) ≡ []
none-above first number maps l =
    none-pass (λ (s : Span). nat_lt number s.to) (spans_of first maps)
    (each-weaker (λ (s : Span). s.to ≤ end first maps) (λ (s : Span). nat_lt number s.to ≡ false) (λ s m. le-ltb number s.to (omega (arith, m, l))) (spans_of first maps) (all-below first maps))

-- a span that ends above the number stays
pub span-above : (number from to : ℕ) → from < to → number < to → above number (some_span from to) ≡ record { from = from; to = to } ∷ []
span-above number from to some l =
    (λ i. above number (cond (lt-ltb from to some i) (record { from = from; to = to } ∷ []) [])) ∙ (λ i. cond (lt-ltb number to l i) (record { from = from; to = to } ∷ []) [])

pub no-span : (from to : ℕ) → to ≤ from → some_span from to ≡ []
no-span from to l = λ i. cond (le-ltb from to l i) (record { from = from; to = to } ∷ []) []

pub above-more : (first number : ℕ) (library : FolderMap) (older : List FolderMap)
    → above number (spans_of first (library ∷ older)) ≡ above number (spans_of first older) ++ above number (last first library older)
above-more first number library older = filter-append (λ (s : Span). nat_lt number s.to) (spans_of first older) (last first library older)

-- no span is above a scan end, or the first one that is begins there
abbrev pub Above : ℕ → List FolderMap → ℕ → Type 0
Above first maps released =
    ((end first maps ≡ released) × (above released (spans_of first maps) ≡ []))
    ⊎ ((released < end first maps) × ((span : Span) × (spans : List Span) × (above released (spans_of first maps) ≡ span ∷ spans) × (span.from ≡ released)))

pub spans-above : (first : ℕ) (maps : List FolderMap) (released : ℕ) → EndOf first maps released → Above first maps released
spans-above first [] released e = inl (omega (arith, e), refl)
spans-above first (library ∷ older) released (inl e) = inl (sym e, none-above first released (library ∷ older) (omega (arith, e)))
spans-above first (library ∷ older) released (inr d) = by (nat_lt (end first older) (end first (library ∷ older))) refl (spans-above first older released d)
  where
    by : (b : Bool) → nat_lt (end first older) (end first (library ∷ older)) ≡ b → Above first older released → Above first (library ∷ older) released
    by b h (inr k) =
        let rise = rises first library older in
        let low = k.0 in
        inr (omega (arith, rise, low), (k.1.0, k.1.1 ++ above released (last first library older), above-more first released library older ∙ ap (λ l. l ++ above released (last first library older)) k.1.2, k.1.3))
    by true h (inl k) =
        let more = ltb-true (end first older) (end first (library ∷ older)) h in
        let at = k.0 in
        let below : released < end first (library ∷ older) = omega (arith, more, at) in
        inr (
          below,
          (
            record { from = end first older; to = end first (library ∷ older) },
            [],
            above-more first released library older ∙ (ap (λ l. l ++ above released (last first library older)) k.1 ∙ span-above released (end first older) (end first (library ∷ older)) more below),
            at,
          ),
        )
    by false h (inl k) =
        let less = ltb-false (end first older) (end first (library ∷ older)) h in
        let rise = rises first library older in
        let at = k.0 in
        let same : end first (library ∷ older) ≡ released = omega (arith, less, rise, at) in
        inl (same, none-above first released (library ∷ older) (omega (arith, same)))

-- ---- the last end within a number

last-append : (most before : ℕ) (spans : List Span) (span : Span) → last_within most before (spans ++ span ∷ []) ≡ cond (nat_le span.to most) span.to (last_within most before spans)
last-append most before [] span = refl
last-append most before (s ∷ spans) span = last-append most (cond (nat_le s.to most) s.to before) spans span

pub last-above : (low most before : ℕ) (spans : List Span) → low ≤ before → low ≤ last_within most before (above low spans)
last-above low most before [] l = l
last-above low most before (s ∷ spans) l = by (nat_lt low s.to) refl (λ b m. last-above low most b spans m)
  where
    on : (b : Bool) → low < s.to → low ≤ cond b s.to before
    on true m = omega (arith, m)
    on false m = l

    by : (b : Bool) → nat_lt low s.to ≡ b → ((n : ℕ) → low ≤ n → low ≤ last_within most n (above low spans)) → low ≤ last_within most before (cond b (s ∷ above low spans) (above low spans))
    by true h r = r (cond (nat_le s.to most) s.to before) (on (nat_le s.to most) (ltb-true low s.to h))
    by false h r = r before l

-- where all scan ends are within it, it is the newest
within-all : (first most : ℕ) (maps : List FolderMap) → end first maps ≤ most → scan_end_within first most maps ≡ end first maps
within-all first most [] l = omega arith
within-all first most (library ∷ older) l = λ i. cond (le-leb (end first (library ∷ older)) most l i) (end first (library ∷ older)) (scan_end_within first most older)

-- a scan without a change has the end of those before it
within-same : (first most : ℕ) (library : FolderMap) (older : List FolderMap) → end first (library ∷ older) ≡ end first older → scan_end_within first most (library ∷ older) ≡ scan_end_within first most older
within-same first most library older same = by (nat_le (end first (library ∷ older)) most) refl
  where
    by : (b : Bool) → nat_le (end first (library ∷ older)) most ≡ b → cond b (end first (library ∷ older)) (scan_end_within first most older) ≡ scan_end_within first most older
    by true h = same ∙ sym (within-all first most older (let l = leb-true (end first (library ∷ older)) most h in omega (arith, l, same)))
    by false h = refl

pub last-is : (first most released : ℕ) (maps : List FolderMap) → EndOf first maps released → released ≤ most →
    scan_end_within first most maps ≡ last_within most released (above released (spans_of first maps))
last-is first most released [] e l = sym e
last-is first most released (library ∷ older) (inl d) l =
    (λ i. cond (le-leb (end first (library ∷ older)) most (omega (arith, d, l)) i) (end first (library ∷ older)) (scan_end_within first most older))
    ∙ (sym d ∙ ap (last_within most released) (sym (none-above first released (library ∷ older) (omega (arith, d)))))
last-is first most released (library ∷ older) (inr d) l = by (nat_lt (end first older) (end first (library ∷ older))) refl (last-is first most released older d l)
  where
    spans : List Span
    spans = above released (spans_of first older)

    by : (b : Bool) → nat_lt (end first older) (end first (library ∷ older)) ≡ b → scan_end_within first most older ≡ last_within most released spans
        → scan_end_within first most (library ∷ older) ≡ last_within most released (above released (spans_of first (library ∷ older)))
    by true h before =
        let more = ltb-true (end first older) (end first (library ∷ older)) h in
        let low = end-below first released older d in
        let newest : Span = record { from = end first older; to = end first (library ∷ older) } in
        ap (λ n. cond (nat_le (end first (library ∷ older)) most) (end first (library ∷ older)) n) before
        ∙ (sym (last-append most released spans newest)
        ∙ ap (last_within most released)
        (ap (λ k. spans ++ k) (sym (span-above released (end first older) (end first (library ∷ older)) more (omega (arith, more, low)))) ∙ sym (above-more first released library older)))
    by false h before =
        let less = ltb-false (end first older) (end first (library ∷ older)) h in
        let rise = rises first library older in
        within-same first most library older (omega (arith, less, rise))
        ∙ (before
        ∙ ap (last_within most released)
        (sym (append-nil spans) ∙ (ap (λ k. spans ++ above released k) (sym (no-span (end first older) (end first (library ∷ older)) less)) ∙ sym (above-more first released library older))))
