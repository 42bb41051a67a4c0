-- How scans of bytes one behind another go together.
use Rattle.std.proofs.Common.{◌≡◌, ℕ, suc, ◌+◌, ◌<◌, ◌≤◌, List, [], ◌∷◌, ◌++◌, length, take, Option, Some, None, refl, sym, ap, ◌∙◌, subst, arith, zero-add, length-append}
use Rattle.cds_http.specs.declared.lines.LinePlace.{LinePlace}
use Rattle.cds_http.specs.declared.lines.Scan.{Scan}
use Rattle.cds_http.specs.declared.lines.Scan.TheVariants.{Ended, Open}
use Rattle.cds_http.specs.Lines.{next_place, further, scan_step, scanned, EndsThere}

pub further-zero : (s : Scan) → further 0 s ≡ s
further-zero (Ended at) = ap (λ (n : ℕ). Ended n) (zero-add at)
further-zero (Open p) = refl

pub further-suc : (n : ℕ) (s : Scan) → further 1 (further n s) ≡ further (suc n) s
further-suc n (Ended at) = ap (λ (n : ℕ). Ended n) (omega arith)
further-suc n (Open p) = refl

further_open : (s : Scan) (q : LinePlace) → further 1 s ≡ Open q → s ≡ Open q
further_open (Ended at) q e = cc
further_open (Open p) q e = e

pub further_ended : (s : Scan) (n : ℕ) → further 1 s ≡ Ended n → (m : ℕ) × (s ≡ Ended m) × (1 + m ≡ n)
further_ended (Ended at) n e = (at, refl, cc)
further_ended (Open p) n e = cc

append_step : (o : Option LinePlace) (a b : List ℕ) (q : LinePlace)
    → ((next : LinePlace) → scanned next a ≡ Open q → scanned next (a ++ b) ≡ further (length a) (scanned q b))
    → scan_step o (λ next. scanned next a) ≡ Open q
    → scan_step o (λ next. scanned next (a ++ b)) ≡ further (suc (length a)) (scanned q b)
append_step None a b q ih e = cc
append_step (Some next) a b q ih e =
    ap (further 1) (ih next (further_open (scanned next a) q e)) ∙ further-suc (length a) (scanned q b)

-- behind bytes that leave it open, the scan goes on
pub scanned-append : (p : LinePlace) (a b : List ℕ) (q : LinePlace) → scanned p a ≡ Open q → scanned p (a ++ b) ≡ further (length a) (scanned q b)
scanned-append p [] b q e =
    let same : p ≡ q = cc in
    ap (λ (r : LinePlace). scanned r b) same ∙ sym (further-zero (scanned q b))
scanned-append p (x ∷ a) b q e = append_step (next_place p x) a b q (λ next h. scanned-append next a b q h) e

ended_step : (o : Option LinePlace) (a b : List ℕ) (n : ℕ)
    → ((next : LinePlace) (m : ℕ) → scanned next a ≡ Ended m → scanned next (a ++ b) ≡ Ended m)
    → scan_step o (λ next. scanned next a) ≡ Ended n
    → scan_step o (λ next. scanned next (a ++ b)) ≡ Ended n
ended_step None a b n ih e = e
ended_step (Some next) a b n ih e =
    let inner = further_ended (scanned next a) n e in
    ap (further 1) (ih next inner.0 inner.1) ∙ ap (λ (n : ℕ). Ended n) inner.2

-- an end stays where it is
pub ended-append : (p : LinePlace) (a b : List ℕ) (n : ℕ) → scanned p a ≡ Ended n → scanned p (a ++ b) ≡ Ended n
ended-append p [] b n e = cc
ended-append p (x ∷ a) b n e = ended_step (next_place p x) a b n (λ next m h. ended-append next a b m h) e

within_step : (o : Option LinePlace) (a : List ℕ) (n : ℕ)
    → ((next : LinePlace) (m : ℕ) → scanned next a ≡ Ended m → (0 < m) × (m ≤ length a))
    → scan_step o (λ next. scanned next a) ≡ Ended n → (0 < n) × (n ≤ suc (length a))
within_step None a n ih e = let one : 1 ≡ n = cc in (omega (arith, one), omega (arith, one))
within_step (Some next) a n ih e =
    let inner = further_ended (scanned next a) n e in
    let there = ih next inner.0 inner.1 in
    (omega (arith, inner.2, there.0, there.1), omega (arith, inner.2, there.0, there.1))

-- an end stands behind at least one of the bytes
pub ended_within : (p : LinePlace) (a : List ℕ) (n : ℕ) → scanned p a ≡ Ended n → (0 < n) × (n ≤ length a)
ended_within p [] n e = cc
ended_within p (x ∷ a) n e = within_step (next_place p x) a n (λ next m h. ended_within next a m h) e

take_step : (o : Option LinePlace) (x : ℕ) (a : List ℕ) (n : ℕ)
    → ((next : LinePlace) (m : ℕ) → scanned next a ≡ Ended m → scanned next (take m a) ≡ Ended m)
    → (p : LinePlace) → next_place p x ≡ o
    → scan_step o (λ next. scanned next a) ≡ Ended n → scanned p (take n (x ∷ a)) ≡ Ended n
take_step None x a n ih p was e =
    let one : 1 ≡ n = cc in
    subst (λ (k : ℕ). scanned p (take k (x ∷ a)) ≡ Ended k) one
    (ap (λ (o : Option LinePlace). scan_step o (λ next. scanned next (take 0 a))) was)
take_step (Some next) x a n ih p was e =
    let inner = further_ended (scanned next a) n e in
    let rest = ih next inner.0 inner.1 in
    let more : suc inner.0 ≡ n = omega (arith, inner.2) in
    subst (λ (k : ℕ). scanned p (take k (x ∷ a)) ≡ Ended k) more
    (ap (λ (o : Option LinePlace). scan_step o (λ next. scanned next (take inner.0 a))) was
    ∙ ap (further 1) rest ∙ ap (λ (n : ℕ). Ended n) (omega arith))

-- the bytes up to the end have it too
pub ended-take : (p : LinePlace) (a : List ℕ) (n : ℕ) → scanned p a ≡ Ended n → scanned p (take n a) ≡ Ended n
ended-take p [] n e = cc
ended-take p (x ∷ a) n e = take_step (next_place p x) x a n (λ next m h. ended-take next a m h) p refl e

-- what came and the bytes up to the end are whole
pub ends_there : (p q : LinePlace) (a b : List ℕ) → scanned p a ≡ Open q → scanned q b ≡ Ended (length b) → EndsThere p (a ++ b)
ends_there p q a b opens ends =
    scanned-append p a b q opens ∙ ap (further (length a)) ends ∙ ap (λ (n : ℕ). Ended n) (sym (length-append a b))

-- what came and bytes that leave it open are open
pub stays_open : (p q r : LinePlace) (a b : List ℕ) → scanned p a ≡ Open q → scanned q b ≡ Open r → scanned p (a ++ b) ≡ Open r
stays_open p q r a b first second = scanned-append p a b q first ∙ ap (further (length a)) second
