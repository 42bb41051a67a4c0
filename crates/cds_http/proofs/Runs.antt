-- Bytes before an LF stay in their line.
use Rattle.std.proofs.Common.{◌≡◌, ◌≢◌, ℕ, zero, suc, ◌<◌, ◌≤◌, ◌==◌, true, List, [], ◌∷◌, length, drop, get_or, Some, sym, ap, ◌∙◌, arith}
use Rattle.cds_http.specs.declared.lines.LinePlace.{LinePlace}
use Rattle.cds_http.specs.declared.lines.LinePlace.TheVariants.{Inside, InLine}
use Rattle.cds_http.specs.Lines.{next_place, further, scanned}
use Rattle.cds_http.proofs.Scans.{further-zero, further-suc}
use Rattle.cds_http.proofs.Ends.{inside_step, in_line_step, scan_first}

other_byte : (b : ℕ) → ¬ ((b == 10) ≡ true) → b ≢ 10
other_byte b none is = none (ap (λ (b : ℕ). b == 10) is)

runs : (p : LinePlace) → ((b : ℕ) → b ≢ 10 → next_place p b ≡ Some p) → (bytes : List ℕ) (n : ℕ) → n ≤ length bytes
    → ((k : ℕ) → k < n → ¬ ((get_or bytes k 0 == 10) ≡ true)) → scanned p bytes ≡ further n (scanned p (drop n bytes))
runs p stays bytes zero within none = sym (further-zero (scanned p bytes))
runs p stays [] (suc n) within none = absurd (omega (arith, within))
runs p stays (b ∷ bytes) (suc n) within none =
    scan_first p p b bytes (stays b (other_byte b (none 0 (omega arith))))
    ∙ ap (further 1) (runs p stays bytes n (omega (arith, within)) (λ k low. none (suc k) (omega (arith, low))))
    ∙ further-suc n (scanned p (drop n bytes))

pub runs_inside : (bytes : List ℕ) (n : ℕ) → n ≤ length bytes → ((k : ℕ) → k < n → ¬ ((get_or bytes k 0 == 10) ≡ true))
    → scanned Inside bytes ≡ further n (scanned Inside (drop n bytes))
runs_inside bytes n within none = runs Inside inside_step bytes n within none

pub runs_in_line : (bytes : List ℕ) (n : ℕ) → n ≤ length bytes → ((k : ℕ) → k < n → ¬ ((get_or bytes k 0 == 10) ≡ true))
    → scanned InLine bytes ≡ further n (scanned InLine (drop n bytes))
runs_in_line bytes n within none = runs InLine in_line_step bytes n within none

pub runs_none : (p : LinePlace) (bytes : List ℕ) → scanned p bytes ≡ further 0 (scanned p bytes)
runs_none p bytes = sym (further-zero (scanned p bytes))
