-- What takes parts one by one takes them in their order until it has enough, and none after that.
use Rattle.std.specs.Prelude.{◌≡◌, Bool, true, false, Result, Ok, List, [], ◌∷◌}
use Rattle.cds_markup.specs.declared.error.MarkupError.{MarkupError}
use Rattle.cds_markup.specs.declared.part.Part.{Part}

abbrev pub unless_enough : Bool → Type 0 → Type 0 → Type 0
unless_enough true stays goes = stays
unless_enough false stays goes = goes

-- What the parts make of a taker, one after another. `took` says what one part makes of it.
abbrev pub Takes : {S : Type 0} → (S → Part → S → Type 0) → (S → Bool) → S → List Part → S → Type 0
Takes took enough before [] now = now ≡ before
Takes {S} took enough before (part ∷ more) now =
    unless_enough (enough before) (now ≡ before) ((mid : S) × took before part mid × Takes took enough mid more now)

-- What reading answers. If there is enough, the answer is that nothing is wrong, since the bytes after that are not read.
-- Otherwise it is what the bytes are answered.
abbrev pub Answered : Bool → Result (Unit {0}) MarkupError → Result (Unit {0}) MarkupError → Type 0
Answered true result answer = result ≡ Ok tt
Answered false result answer = result ≡ answer
