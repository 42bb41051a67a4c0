-- What a range cuts out is what it asks for.
use Rattle.std.proofs.Common.{◌≡◌, ◌==◌, ℕ, ◌+◌, ◌-◌, ◌<◌, ◌≤◌, min, nat_lt, Bool, true, false, cond, refl, arith}
use Rattle.std.proofs.lemmas.Bool.Decides.{nat_tests}
use Rattle.cds_media.specs.declared.slice.Plan.{Plan}
use Rattle.cds_media.specs.declared.slice.Plan.TheVariants.{Whole, Part, None as Nothing}
use Rattle.cds_media.specs.declared.range.ByteRange.{ByteRange}
use Rattle.cds_media.specs.declared.range.ByteRange.TheVariants.{Closed, Open, Suffix}
use Rattle.cds_media.specs.Plans.{cut}
use Rattle.cds_media.specs.Laws.{AsksFor, HasEnds, PassedOver, Refused, Names}

-- The plan is what a range cuts out, by the four cases.
abbrev IsCut : ℕ → ByteRange → Plan → Type 0
IsCut size range plan =
    (PassedOver range → plan ≡ Whole)
    × (¬ PassedOver range → Refused size range → plan ≡ Nothing)
    × (¬ PassedOver range → ¬ Refused size range → size ≡ 0 → plan ≡ Whole)
    × (¬ PassedOver range → ¬ Refused size range → 0 < size → (from : ℕ) × (to : ℕ) × (plan ≡ Part from to) × HasEnds size range from to)

closed-cut : (size first last : ℕ) → IsCut size (Closed first last) (cut size (Closed first last))
closed-cut size first last = by (nat_lt last first) refl (nat_lt first size) refl
  where
    by : (t : Bool) → nat_lt last first ≡ t → (s : Bool) → nat_lt first size ≡ s
        → IsCut size (Closed first last) (cond t Whole (cond s (Part first (min (last + 1) size)) Nothing))
    by true e s d =
        let over : last < first = grind (arith, nat_tests) in (
          λ passed. refl,
          λ kept refused. absurd (kept over),
          λ kept taken none. refl,
          λ kept taken some. absurd (kept over),
        )
    by false e true d =
        let order : first ≤ last = grind (arith, nat_tests) in
        let inside : first < size = grind (arith, nat_tests) in (
          λ passed. absurd (omega (arith, passed, order)),
          λ kept refused. absurd (omega (arith, refused, inside)),
          λ kept taken none. absurd (omega (arith, none, inside)),
          λ kept taken some. (first, min (last + 1) size, refl, (refl, refl)),
        )
    by false e false d =
        let order : first ≤ last = grind (arith, nat_tests) in
        let past : size ≤ first = grind (arith, nat_tests) in (
          λ passed. absurd (omega (arith, passed, order)),
          λ kept refused. refl,
          λ kept taken none. absurd (taken past),
          λ kept taken some. absurd (taken past),
        )

open-cut : (size first : ℕ) → IsCut size (Open first) (cut size (Open first))
open-cut size first = by (nat_lt first size) refl
  where
    by : (s : Bool) → nat_lt first size ≡ s → IsCut size (Open first) (cond s (Part first size) Nothing)
    by true d =
        let inside : first < size = grind (arith, nat_tests) in (
          λ passed. absurd passed,
          λ kept refused. absurd (omega (arith, refused, inside)),
          λ kept taken none. absurd (omega (arith, none, inside)),
          λ kept taken some. (first, size, refl, (refl, refl)),
        )
    by false d =
        let past : size ≤ first = grind (arith, nat_tests) in (
          λ passed. absurd passed,
          λ kept refused. refl,
          λ kept taken none. absurd (taken past),
          λ kept taken some. absurd (taken past),
        )

suffix-cut : (size count : ℕ) → IsCut size (Suffix count) (cut size (Suffix count))
suffix-cut size count = by (count == 0) refl (size == 0) refl
  where
    by : (t : Bool) → (count == 0) ≡ t → (s : Bool) → (size == 0) ≡ s
        → IsCut size (Suffix count) (cond t Nothing (cond s Whole (Part (size - count) size)))
    by true e s d =
        let zero : count ≡ 0 = grind (arith, nat_tests) in (
          λ passed. absurd passed,
          λ kept refused. refl,
          λ kept taken none. absurd (taken zero),
          λ kept taken some. absurd (taken zero),
        )
    by false e true d =
        let above : 0 < count = grind (arith, nat_tests) in
        let zero : size ≡ 0 = grind (arith, nat_tests) in (
          λ passed. absurd passed,
          λ kept refused. absurd (omega (arith, refused, above)),
          λ kept taken none. refl,
          λ kept taken some. absurd (omega (arith, some, zero)),
        )
    by false e false d =
        let above : 0 < count = grind (arith, nat_tests) in
        let bytes : 0 < size = grind (arith, nat_tests) in (
          λ passed. absurd passed,
          λ kept refused. absurd (omega (arith, refused, above)),
          λ kept taken none. absurd (omega (arith, none, bytes)),
          λ kept taken some. (size - count, size, refl, (λ few. omega (arith, few), λ more. omega (arith, more), refl)),
        )

pub four-cases : (size : ℕ) (range : ByteRange) → IsCut size range (cut size range)
four-cases size (Closed first last) = closed-cut size first last
four-cases size (Open first) = open-cut size first
four-cases size (Suffix count) = suffix-cut size count

-- The plan names what the range asks for.
abbrev IsExact : ℕ → ByteRange → ℕ → Plan → Type 0
IsExact size range at plan = ¬ PassedOver range → (Names size plan at → AsksFor size range at) × (AsksFor size range at → Names size plan at)

part-exact : (size first last at : ℕ) → first ≤ last → first < size → IsExact size (Closed first last) at (Part first (min (last + 1) size))
part-exact size first last at order inside kept = (
  λ names. (names.0, omega (arith, names.0, names.1, order, inside), omega (arith, names.0, names.1, order, inside)),
  λ asks. (asks.0, omega (arith, asks.0, asks.1, asks.2)),
)

none-named : (size at : ℕ) (P : Type 0) → Names size Nothing at → P
none-named size at P names = absurd (omega (arith, names.0, names.1))

closed-exact : (size first last at : ℕ) → IsExact size (Closed first last) at (cut size (Closed first last))
closed-exact size first last at = by (nat_lt last first) refl (nat_lt first size) refl
  where
    by : (t : Bool) → nat_lt last first ≡ t → (s : Bool) → nat_lt first size ≡ s
        → IsExact size (Closed first last) at (cond t Whole (cond s (Part first (min (last + 1) size)) Nothing))
    by true e s d = λ kept. let over : last < first = grind (arith, nat_tests) in absurd (kept over)
    by false e true d = part-exact size first last at (grind (arith, nat_tests)) (grind (arith, nat_tests))
    by false e false d = λ kept. (
      none-named size at (AsksFor size (Closed first last) at),
      λ asks. let past : size ≤ first = grind (arith, nat_tests) in absurd (omega (arith, asks.0, asks.2, past)),
    )

open-exact : (size first at : ℕ) → IsExact size (Open first) at (cut size (Open first))
open-exact size first at = by (nat_lt first size) refl
  where
    by : (s : Bool) → nat_lt first size ≡ s → IsExact size (Open first) at (cond s (Part first size) Nothing)
    by true d = λ kept.
        let inside : first < size = grind (arith, nat_tests) in (
          λ names. (names.0, omega (arith, names.0, names.1, inside)),
          λ asks. (asks.0, omega (arith, asks.0, asks.1, inside)),
        )
    by false d = λ kept. (
      none-named size at (AsksFor size (Open first) at),
      λ asks. let past : size ≤ first = grind (arith, nat_tests) in absurd (omega (arith, asks.0, asks.1, past)),
    )

suffix-exact : (size count at : ℕ) → IsExact size (Suffix count) at (cut size (Suffix count))
suffix-exact size count at = by (count == 0) refl (size == 0) refl
  where
    by : (t : Bool) → (count == 0) ≡ t → (s : Bool) → (size == 0) ≡ s
        → IsExact size (Suffix count) at (cond t Nothing (cond s Whole (Part (size - count) size)))
    by true e s d = λ kept. (
      none-named size at (AsksFor size (Suffix count) at),
      λ asks. let none : count ≡ 0 = grind (arith, nat_tests) in absurd (omega (arith, asks.0, asks.1, none)),
    )
    by false e true d = λ kept.
        let zero : size ≡ 0 = grind (arith, nat_tests) in (
          λ names. absurd (omega (arith, names.0, names.1, zero)),
          λ asks. absurd (omega (arith, asks.0, asks.1, zero)),
        )
    by false e false d = λ kept. (
      λ names. (omega (arith, names.0, names.1), omega (arith, names.0, names.1)),
      λ asks. (omega (arith, asks.0, asks.1), omega (arith, asks.0, asks.1)),
    )

pub exact : (size : ℕ) (range : ByteRange) (at : ℕ) → ¬ PassedOver range
    → (Names size (cut size range) at → AsksFor size range at) × (AsksFor size range at → Names size (cut size range) at)
exact size (Closed first last) at = closed-exact size first last at
exact size (Open first) at = open-exact size first at
exact size (Suffix count) at = suffix-exact size count at
