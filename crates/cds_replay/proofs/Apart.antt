-- The names of a script's subscriptions on the wire tell them apart, so that a replica under the names knows the same.
use Rattle.std.proofs.Common.{◌≡◌, ℕ, ◌+◌, List, [], ◌∷◌, Option, Some, None, refl, sym, ◌∙◌, arith}
use Rattle.std.specs.Prelude.{option_map}
use Rattle.cds_commands.specs.Names.{names_of}
use Rattle.cds_follow.specs.Inbox.{ReplicaTurn, Begins, Shows, Requests, Accepts, Refuses, Delivers, accepted, is_out}
use Rattle.cds_follow.specs.Named.{named}
use Rattle.cds_follow.proofs.Named.{TellAllApart, SameUnder, names-same}
use Rattle.cds_commands.specs.Places.{last_seq}
use Rattle.cds_replay.specs.Session.{script_start, script_names}

plus-apart : (k m n : ℕ) → k + m ≡ k + n → m ≡ n
plus-apart k m n e = omega (arith, e)

pub names-apart : TellAllApart script_names
names-apart m n e = plus-apart (names_of (script_start last_seq 0)) m n e

pub knows-same : (turns : List ReplicaTurn) → SameUnder script_names turns
knows-same turns = names-same script_names turns names-apart

pub accepted-named : (turns : List ReplicaTurn) → accepted (named script_names turns) ≡ option_map script_names (accepted turns)
accepted-named [] = refl
accepted-named (Begins ∷ older) = accepted-named older
accepted-named (Shows shown ∷ older) = accepted-named older
accepted-named (Requests ∷ older) = accepted-named older
accepted-named (Accepts name ∷ older) = refl
accepted-named (Refuses ∷ older) = accepted-named older
accepted-named (Delivers note ∷ older) = accepted-named older

pub out-named : (turns : List ReplicaTurn) → is_out (named script_names turns) ≡ is_out turns
out-named [] = refl
out-named (Begins ∷ older) = out-named older
out-named (Shows shown ∷ older) = out-named older
out-named (Requests ∷ older) = refl
out-named (Accepts name ∷ older) = refl
out-named (Refuses ∷ older) = refl
out-named (Delivers note ∷ older) = out-named older

-- the accepted name, as it is told by its name on the wire
none-named : (o : Option ℕ) → option_map script_names o ≡ None → o ≡ None
none-named None is = refl
none-named (Some name) is = absurd (cc)

pub none-accepted : (turns : List ReplicaTurn) → accepted (named script_names turns) ≡ None → accepted turns ≡ None
none-accepted turns is = none-named (accepted turns) (sym (accepted-named turns) ∙ is)

some-named : (o : Option ℕ) (sid : ℕ) → option_map script_names o ≡ Some sid → (name : ℕ) × (o ≡ Some name) × (sid ≡ script_names name)
some-named None sid is = absurd (cc)
some-named (Some name) sid is = let same : script_names name ≡ sid = cc in (name, refl, sym same)

pub some-accepted : (turns : List ReplicaTurn) (sid : ℕ) → accepted (named script_names turns) ≡ Some sid → (name : ℕ) × (accepted turns ≡ Some name) × (sid ≡ script_names name)
some-accepted turns sid is = some-named (accepted turns) sid (sym (accepted-named turns) ∙ is)
