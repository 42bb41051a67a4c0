-- Which subscriptions a server granted and how long they run (UPnP Device Architecture 2.0 on subscriptions).
use Rattle.std.specs.Prelude.{◌+◌, ◌*◌, ℕ, Bool, cond, nat_eq, nat_lt, List, [], ◌∷◌, Option, Some, None, is_some}
use Rattle.cds_commands.specs.Commands.{Command, Scans, Grants, Renews, Ends, Ticks, Stops}

-- how many subscriptions were granted; the newest one has this number as its name
abbrev pub granted : List Command → ℕ
granted [] = 0
granted (Grants moment callback seconds ∷ older) = granted older + 1
granted (command ∷ older) = granted older

-- the moment at which what is granted at a moment for this many seconds runs out
abbrev pub end_after : ℕ → ℕ → ℕ
end_after moment seconds = moment + seconds * 1000

-- the end of a subscription that is renewed up to another end: one that has ended stays so
abbrev pub renewed_until : ℕ → Option ℕ → Option ℕ
renewed_until end None = None
renewed_until end (Some before) = Some end

-- the end of a subscription at a moment: at that end and past it the subscription is over
abbrev pub unless_past : ℕ → Option ℕ → Option ℕ
unless_past moment None = None
unless_past moment (Some end) = cond (nat_lt moment end) (Some end) None

-- the moment at which a subscription runs out: that of its grant or its last renewal, and the seconds of it. There is none if it
-- was not granted, was given up, or a tick came at or past that moment.
abbrev pub runs_until : ℕ → List Command → Option ℕ
runs_until name [] = None
runs_until name (Scans library ∷ older) = runs_until name older
runs_until name (Grants moment callback seconds ∷ older) = cond (nat_eq name (granted older + 1)) (Some (end_after moment seconds)) (runs_until name older)
runs_until name (Renews moment other seconds ∷ older) = cond (nat_eq name other) (renewed_until (end_after moment seconds) (runs_until name older)) (runs_until name older)
runs_until name (Ends moment other ∷ older) = cond (nat_eq name other) None (runs_until name older)
runs_until name (Ticks moment ∷ older) = unless_past moment (runs_until name older)
runs_until name (Stops ∷ older) = runs_until name older

-- whether a subscription lives at a moment: it still has time
abbrev pub is_alive : ℕ → ℕ → List Command → Bool
is_alive name now commands = is_some (unless_past now (runs_until name commands))

-- how many subscriptions live at most if moments never fall, and so whether one more is granted
abbrev pub subscription_limit : ℕ
subscription_limit = 64

-- the callback of a subscription, as it was given at its grant
abbrev pub callback_of : ℕ → List Command → Option (List ℕ)
callback_of name [] = None
callback_of name (Grants moment callback seconds ∷ older) = cond (nat_eq name (granted older + 1)) (Some callback) (callback_of name older)
callback_of name (command ∷ older) = callback_of name older
