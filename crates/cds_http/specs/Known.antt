-- What the bytes that came so far say of a thing that they begin with.
use Rattle.std.specs.Prelude.{◌≡◌, ℕ, nat_le, List, length, take, drop, Option, Some, None, if◌then◌else◌}
use Rattle.cds_http.specs.declared.error.HttpError.{HttpError}

-- The thing with the bytes that are left after it, or that more bytes are needed, or why no bytes after these make one.
pub data Known (A : Type 0) : Type 0 where
  Whole : A → List ℕ → Known A
  Needs : Known A
  Refused : HttpError → Known A

-- One thing after another: if the first is whole, what the rest says of the next.
abbrev pub Then : {A B : Type 0} → Known A → (A → List ℕ → Known B → Type 0) → Known B → Type 0
Then (Whole thing rest) next known = next thing rest known
Then Needs next known = known ≡ Needs
Then (Refused e) next known = known ≡ Refused e

-- The same with another thing made of the first.
abbrev pub map_known : {A B : Type 0} → (A → B) → Known A → Known B
map_known f (Whole thing rest) = Whole (f thing) rest
map_known f Needs = Needs
map_known f (Refused e) = Refused e

-- The prefix of the bytes up to a known end, if it has at most `limit` bytes. Without an end, `limit` bytes are
-- refused.
abbrev pub cut : HttpError → ℕ → Option ℕ → List ℕ → Known (List ℕ)
cut e limit (Some n) bytes = if nat_le n limit then Whole (take n bytes) (drop n bytes) else Refused e
cut e limit None bytes = if nat_le limit (length bytes) then Refused e else Needs
