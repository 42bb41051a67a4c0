-- What reading a document decides.
use Rattle.std.specs.Prelude.{◌≡◌, ◌≢◌, Result, Ok, Err, List, ℕ, ⊤}
use Rattle.cds_markup.specs.declared.error.MarkupError.{MarkupError}
use Rattle.cds_markup.specs.declared.error.MarkupError.TheVariants.{Mem}
use Rattle.cds_markup.specs.Document.{Meaning, Doc}
use Rattle.cds_markup.specs.Refusal.{IsRefused}

-- An answer to bytes: the one element that they are a document of, or the one refusal that stands against them. `Mem` says
-- nothing of them.
abbrev pub Decides : List ℕ → Result Meaning MarkupError → Type 0
Decides bytes (Ok element) = Doc bytes element × ((other : Meaning) → Doc bytes other → other ≡ element)
Decides bytes (Err Mem) = ⊤
Decides bytes (Err r) =
    IsRefused bytes r × ((other : MarkupError) → IsRefused bytes other → other ≢ Mem → other ≡ r)
    × ((element : Meaning) → Doc bytes element → ⊥)
