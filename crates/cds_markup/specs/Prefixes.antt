-- How a prefix is looked up among many declarations.
use Rattle.std.specs.Prelude.{◌≡◌, ℕ, cond, List, Option, Some, None, slice_get}
use Rattle.std.specs.Str.{bytes_eq}
use Rattle.std.specs.BTreeMap.{BTreeMap, get}
use Rattle.std.specs.Ordering.{nat_cmp}
use Rattle.std.specs.Cmp.Lexicographic.{slice_cmp}
use Rattle.cds_markup.specs.Namespaces.{declared, declared_as}
use Rattle.cds_markup.specs.declared.tag.Declaration.{Declaration}

-- What the declaration at a place says.
abbrev pub said_at : List Declaration → Option ℕ → Option (List ℕ)
said_at listed None = None
said_at listed (Some place) = declared_as (slice_get listed place)

-- The places in `listed` that the index has say what `some` of its declarations say.
abbrev pub Indexes : List Declaration → List Declaration → BTreeMap (List ℕ) ℕ → Type 0
Indexes listed some index = (prefix : List ℕ) → said_at listed (get (slice_cmp nat_cmp) index prefix) ≡ declared some prefix

-- A prefix gets a place.
abbrev pub PutsPlace : BTreeMap (List ℕ) ℕ → BTreeMap (List ℕ) ℕ → List ℕ → ℕ → Type 0
PutsPlace old new prefix place = (p : List ℕ) → get (slice_cmp nat_cmp) new p ≡ cond (bytes_eq prefix p) (Some place) (get (slice_cmp nat_cmp) old p)
