-- What becomes of something that a replica is given: a reply, a note, or the changes of notes.
use Rattle.std.specs.Prelude.{ℕ, Bool, true, false}

-- it is taken, and leads to this; or it cannot be read as a reply to the ask; or the first change above the position is not the
-- one after it; or what is told or shown of this object cannot be
pub data Outcome (X : Type 0) : Type 0 where
  Goes : X → Outcome X
  CannotBeRead : Outcome X
  Jumps : ℕ → ℕ → Outcome X
  Tears : ℕ → Outcome X

-- the outcome with what is made of what it leads to
abbrev pub outcome_map : {X Y : Type 0} → (X → Y) → Outcome X → Outcome Y
outcome_map f (Goes now) = Goes (f now)
outcome_map f CannotBeRead = CannotBeRead
outcome_map f (Jumps expected first) = Jumps expected first
outcome_map f (Tears id) = Tears id

-- what becomes of what it leads to; a refusal stays one
abbrev pub outcome_then : {X Y : Type 0} → (X → Outcome Y) → Outcome X → Outcome Y
outcome_then f (Goes now) = f now
outcome_then f CannotBeRead = CannotBeRead
outcome_then f (Jumps expected first) = Jumps expected first
outcome_then f (Tears id) = Tears id

-- what holds after an outcome: a refusal changes nothing
abbrev pub after_outcome : {X : Type 0} → X → Outcome X → X
after_outcome before (Goes now) = now
after_outcome before CannotBeRead = before
after_outcome before (Jumps expected first) = before
after_outcome before (Tears id) = before

-- whether it is a refusal
abbrev pub is_no : {X : Type 0} → Outcome X → Bool
is_no (Goes now) = false
is_no CannotBeRead = true
is_no (Jumps expected first) = true
is_no (Tears id) = true
