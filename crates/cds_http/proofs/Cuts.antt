-- What a cut makes of a text and what is behind it.
use Rattle.std.proofs.Common.{◌≡◌, ℕ, ◌+◌, ◌<◌, ◌≤◌, Bool, true, false, nat_le, List, ◌++◌, length, take, drop, if◌then◌else◌, refl, ap, ◌∙◌, arith}
use Rattle.std.proofs.Common.{length-append}
use Rattle.std.proofs.lemmas.Bool.Decides.{nat_tests}
use Rattle.std.proofs.lemmas.List.{take_at, drop_at}
use Rattle.cds_http.specs.declared.error.HttpError.{HttpError}
use Rattle.cds_http.specs.declared.lines.LinePlace.{LinePlace}
use Rattle.cds_http.specs.declared.lines.Scan.{Scan}
use Rattle.cds_http.specs.declared.lines.Scan.TheVariants.{Ended, Open}
use Rattle.cds_http.specs.Known.{Whole, Needs, Refused, cut}
use Rattle.cds_http.specs.Lines.{scanned, further, end_of_scan, cut_at, EndsThere}
use Rattle.cds_http.proofs.Scans.{scanned-append, ended-append, ended_within}

pub le_true : (a b : ℕ) → a ≤ b → nat_le a b ≡ true
le_true a b h = grind (arith, nat_tests)

pub le_false : (a b : ℕ) → b < a → nat_le a b ≡ false
le_false a b h = grind (arith, nat_tests)

-- a text that ends there is cut off whole
pub cut_whole : (start : LinePlace) (e : HttpError) (limit : ℕ) (text more : List ℕ) → EndsThere start text → length text ≤ limit
    → cut_at start e limit (text ++ more) ≡ Whole text more
cut_whole start e limit text more ends short =
    ap (λ (s : Scan). cut e limit (end_of_scan s) (text ++ more)) (ended-append start text more (length text) ends)
    ∙ ap (λ (b : Bool). if b then Whole (take (length text) (text ++ more)) (drop (length text) (text ++ more)) else Refused e) (le_true (length text) limit short)
    ∙ ap (λ (t : List ℕ). Whole t (drop (length text) (text ++ more))) (take_at text more (length text) refl)
    ∙ ap (λ (t : List ℕ). Whole text t) (drop_at text more (length text) refl)

-- an end past the limit is refused
pub cut_past : (start : LinePlace) (e : HttpError) (limit n : ℕ) (bytes : List ℕ) → scanned start bytes ≡ Ended n → limit < n
    → cut_at start e limit bytes ≡ Refused e
cut_past start e limit n bytes ends long =
    ap (λ (s : Scan). cut e limit (end_of_scan s) bytes) ends
    ∙ ap (λ (b : Bool). if b then Whole (take n bytes) (drop n bytes) else Refused e) (le_false n limit long)

-- so is no end at the limit
pub cut_open : (start q : LinePlace) (e : HttpError) (limit : ℕ) (bytes : List ℕ) → scanned start bytes ≡ Open q → limit ≤ length bytes
    → cut_at start e limit bytes ≡ Refused e
cut_open start q e limit bytes opens long =
    ap (λ (s : Scan). cut e limit (end_of_scan s) bytes) opens
    ∙ ap (λ (b : Bool). if b then Refused e else Needs) (le_true limit (length bytes) long)

-- no end before it waits
pub cut_waits : (start q : LinePlace) (e : HttpError) (limit : ℕ) (bytes : List ℕ) → scanned start bytes ≡ Open q → length bytes < limit
    → cut_at start e limit bytes ≡ Needs
cut_waits start q e limit bytes opens short =
    ap (λ (s : Scan). cut e limit (end_of_scan s) bytes) opens
    ∙ ap (λ (b : Bool). if b then Refused e else Needs) (le_false limit (length bytes) short)

-- behind as many bytes as the limit without an end, whatever comes is refused
pub cut_over : (start q : LinePlace) (e : HttpError) (limit : ℕ) (bytes more : List ℕ) → scanned start bytes ≡ Open q → limit ≤ length bytes
    → cut_at start e limit (bytes ++ more) ≡ Refused e
cut_over start q e limit bytes more opens long = by (scanned q more) refl
  where
    by : (s : Scan) → scanned q more ≡ s → cut_at start e limit (bytes ++ more) ≡ Refused e
    by (Ended n) is =
        let some = (ended_within q more n is).0 in
        cut_past start e limit (length bytes + n) (bytes ++ more) (scanned-append start bytes more q opens ∙ ap (further (length bytes)) is) (omega (arith, some))
    by (Open r) is =
        cut_open start r e limit (bytes ++ more) (scanned-append start bytes more q opens ∙ ap (further (length bytes)) is) (omega (arith, length-append bytes more))
