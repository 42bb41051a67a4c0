-- Which bytes of a file a plan names.
use Rattle.std.proofs.Common.{◌≡◌, ℕ, ◌+◌, ◌<◌, ◌≤◌, zero, suc, List, [], ◌∷◌, length, take, drop, refl, ap, ◌∙◌, arith}
use Rattle.std.proofs.Common.{length-drop, length-take}
use Rattle.std.specs.List.{slice_get}
use Rattle.cds_media.specs.declared.slice.Plan.{Plan}
use Rattle.cds_media.specs.declared.slice.Plan.TheVariants.{Whole, Part, None as Nothing}
use Rattle.cds_media.specs.Plans.{FitsIn, count_of, slice_of, start_of}

get-take : (n : ℕ) (bytes : List ℕ) (at : ℕ) → at < n → slice_get (take n bytes) at ≡ slice_get bytes at
get-take zero bytes at inside = absurd (omega (arith, inside))
get-take (suc n) [] at inside = refl
get-take (suc n) (byte ∷ bytes) zero inside = refl
get-take (suc n) (byte ∷ bytes) (suc at) inside = get-take n bytes at (omega (arith, inside))

get-drop : (n : ℕ) (bytes : List ℕ) (at : ℕ) → slice_get (drop n bytes) at ≡ slice_get bytes (n + at)
get-drop zero bytes at = let same : at ≡ 0 + at = omega arith in ap (λ place. slice_get bytes place) same
get-drop (suc n) [] at = refl
get-drop (suc n) (byte ∷ bytes) at =
    let same : suc (n + at) ≡ suc n + at = omega arith in get-drop n bytes at ∙ ap (λ place. slice_get (byte ∷ bytes) place) same

within : (size : ℕ) (plan : Plan) → FitsIn size plan → start_of plan + count_of size plan ≤ size
within size Whole fits = omega arith
within size (Part from to) fits = omega (arith, fits.0, fits.1)
within size Nothing fits = omega arith

pub named : (size : ℕ) (plan : Plan) (bytes : List ℕ)
    → ((at : ℕ) → at < count_of size plan → slice_get (slice_of size plan bytes) at ≡ slice_get bytes (start_of plan + at))
    × (FitsIn size plan → size ≤ length bytes → length (slice_of size plan bytes) ≡ count_of size plan)
named size plan bytes = (
  λ at inside. get-take (count_of size plan) (drop (start_of plan) bytes) at inside ∙ get-drop (start_of plan) bytes at,
  λ fits long.
      omega (arith, within size plan fits, long, length-take (count_of size plan) (drop (start_of plan) bytes), length-drop (start_of plan) bytes),
)
