-- Pieces of what is sent.
use Rattle.std.proofs.Common.{◌≡◌, ℕ, ◌+◌, ◌-◌, ◌≤◌, List, [], ◌++◌, length, take, drop, Option, Some, sym, ap, ◌∙◌, arith}
use Rattle.std.proofs.Common.{length-drop, length-take}
use Rattle.std.proofs.lemmas.List.{append-nil, drop-drop, take-take, take_all}
use Rattle.cds_base.proofs.Parts.{append_on}
use Rattle.cds_outside.specs.Outside.{HoldsPart}
use Rattle.cds_media.specs.Sent.{HasRest}

-- A prefix of the first m bytes is one of the first k, if k is not less.
pub part-of-more : (held bytes : List ℕ) (m k : ℕ) (after : Option (List ℕ)) → m ≤ k → HoldsPart held (take m bytes) after → HoldsPart held (take k bytes) after
part-of-more held bytes m k after few (n, fits, is) =
    let less : n ≤ m = omega (arith, fits, length-take m bytes) in
    let inside : n ≤ length (take k bytes) = omega (arith, fits, few, length-take m bytes, length-take k bytes) in (
      n,
      inside,
      is ∙ ap (λ front. Some (held ++ front)) (take-take n m bytes less ∙ sym (take-take n k bytes (omega (arith, less, few)))),
    )

-- A prefix of the piece after the first `at` bytes.
pub part-after : (held bytes : List ℕ) (at left count : ℕ) (after : Option (List ℕ)) → at + left ≡ count → at ≤ length bytes
    → HoldsPart (held ++ take at bytes) (take left (drop at bytes)) after → HoldsPart held (take count bytes) after
part-after held bytes at left count after sum within (n, fits, is) =
    let less : n ≤ left = omega (arith, fits, length-take left (drop at bytes)) in
    let there : at + n ≤ length bytes = omega (arith, fits, within, length-take left (drop at bytes), length-drop at bytes) in (
      at + n,
      omega (arith, there, less, sum, length-take count bytes),
      is
          ∙ ap (λ piece. Some ((held ++ take at bytes) ++ piece)) (take-take n left (drop at bytes) less)
          ∙ ap Some (append_on held bytes at n)
          ∙ ap (λ front. Some (held ++ front)) (sym (take-take (at + n) count bytes (omega (arith, less, sum)))),
    )

-- A source that has no more after the first `at` bytes had exactly these.
pub ended-there : (bytes : List ℕ) (at : ℕ) → at ≤ length bytes → drop at bytes ≡ [] → length bytes ≡ at
ended-there bytes at within none =
    let gone : length bytes - at ≡ 0 = sym (length-drop at bytes) ∙ ap length none in
    omega (arith, within, gone)

pub all-there : (held bytes : List ℕ) (at : ℕ) → length bytes ≡ at → held ++ take at bytes ≡ held ++ bytes
all-there held bytes at long = ap (λ front. held ++ front) (take_all at bytes (omega (arith, long)))

pub more-within : (at n : ℕ) (bytes : List ℕ) → at ≤ length bytes → n ≤ length (drop at bytes) → at + n ≤ length bytes
more-within at n bytes within more = omega (arith, within, more, length-drop at bytes)

-- Nothing more was taken.
pub nothing-more : (held bytes : List ℕ) (n : ℕ) (after : Option (List ℕ)) → n ≡ 0 → after ≡ Some (held ++ take n bytes) → after ≡ Some held
nothing-more held bytes n after none is = is ∙ ap (λ m. Some (held ++ take m bytes)) none ∙ ap Some (append-nil held)

-- The sink holds what came of a source that ended.
pub part-at-end : (held bytes : List ℕ) (at count : ℕ) (after : Option (List ℕ)) → at ≤ count → at ≤ length bytes
    → after ≡ Some (held ++ take at bytes) → HoldsPart held (take count bytes) after
part-at-end held bytes at count after few within is = (
  at,
  omega (arith, few, within, length-take count bytes),
  is ∙ ap (λ front. Some (held ++ front)) (sym (take-take at count bytes few)),
)

-- What is left after the first `at` bytes and a piece.
pub rest-after : (bytes : List ℕ) (at left count : ℕ) (after : Option (List ℕ)) → at + left ≡ count
    → HasRest (drop at bytes) left after → HasRest bytes count after
rest-after bytes at left count after sum (n, few, is) = (at + n, omega (arith, few, sum), is ∙ ap Some (drop-drop n at bytes))

-- What is left after the first `at` bytes, if no more came.
pub rest-at-end : (bytes : List ℕ) (at n count : ℕ) (after : Option (List ℕ)) → at ≤ count → n ≡ 0
    → after ≡ Some (drop n (drop at bytes)) → HasRest bytes count after
rest-at-end bytes at n count after few none is = (at, few, is ∙ ap (λ m. Some (drop m (drop at bytes))) none)
