-- Namespaces that names share.
use Rattle.std.specs.Prelude.{ℕ, ◌==◌, if◌then◌else◌, Option, Some, None, List, [], length}
use Rattle.std.specs.declared.rc.Rc.{Rc}
use Rattle.std.specs.Hash.DefaultHasher as sip

-- The number that is kept with a text, so that long texts which differ are told apart without a look at their bytes.
abbrev pub hash_of : List ℕ → ℕ
hash_of text = if length text == 0 then 0 else sip.finish (sip.write sip.initial text)

-- The bytes of a namespace. Names that are in none share nothing.
abbrev pub shared_bytes : {Z : Type 0} → Option (Rc (List ℕ) Z) → List ℕ
shared_bytes None = []
shared_bytes (Some shared) = shared.value
