-- What `check` answers to the bytes of its input (this project's profile).
use Rattle.std.specs.Prelude.{◌≡◌, ◌⊎◌, ℕ, List, ◌++◌, Option, Some, codes, ⊤}
use Rattle.std.specs.Fmt.{decimal}
use Rattle.cds_object.specs.declared.event.Event.{Event}
use Rattle.cds_script.specs.Report.{Ending, limit_ending}
use Rattle.cds_lastchange.specs.declared.error.StateError.{StateError}
use Rattle.cds_lastchange.specs.declared.error.StateError.TheVariants.{Bad, NotStateEvent, TooLong, Failed, Mem as NoMemory}
use Rattle.cds_lastchange.specs.Refusal.{IsRefused}
use Rattle.cds_lastchange.specs.Spelled.{spelled}
use Rattle.cds_lastchange.specs.StateEvent.{IsStateEvent}
use Rattle.cds_subcommands.specs.declared.checking.CheckError.{CheckError}
use Rattle.cds_subcommands.specs.declared.checking.CheckError.TheVariants.{Refused, Limit, ReadFault, Mem}
use Rattle.cds_subcommands.specs.Run.{IsFault}

-- the one written form of the events that the bytes are, and a line feed
abbrev pub events_ending : List Event → Ending
events_ending events = record { status = 0; text = spelled events ++ codes "\n" }

-- the place of the first fault
abbrev pub refused_ending : ℕ → Ending
refused_ending at = record { status = 8; text = codes "refused " ++ decimal at ++ codes "\n" }

-- a refusal with its place, of the document or of what it says
abbrev pub IsRefusedAt : List ℕ → ℕ → Type 0
IsRefusedAt bytes at = IsRefused bytes (Bad at) ⊎ IsRefused bytes (NotStateEvent at)

-- what is owed for the bytes: their events, the place of their first fault, or that they are too long
abbrev pub IsOwed : List ℕ → Ending → Type 0
IsOwed bytes ending =
    ((events : List Event) × IsStateEvent bytes events × (ending ≡ events_ending events))
    ⊎ (((at : ℕ) × IsRefusedAt bytes at × (ending ≡ refused_ending at)) ⊎ (IsRefused bytes TooLong × (ending ≡ limit_ending)))

-- the status is the one that is owed, or a fault
abbrev pub EndsCheck : List ℕ → ℕ → Type 0
EndsCheck bytes status = ((ending : Ending) × IsOwed bytes ending × (status ≡ ending.status)) ⊎ IsFault status

-- what was written is what is owed, or there was a fault
abbrev pub WritesCheck : List ℕ → ℕ → List ℕ → Option (List ℕ) → Type 0
WritesCheck bytes status before after =
    ((ending : Ending) × IsOwed bytes ending × (status ≡ ending.status) × (after ≡ Some (before ++ ending.text))) ⊎ IsFault status

-- why no events were read: a cause in the bytes, or none of theirs
abbrev pub IsCause : List ℕ → CheckError → Type 0
IsCause bytes (Refused at) = IsRefusedAt bytes at
IsCause bytes Limit = IsRefused bytes TooLong
IsCause bytes ReadFault = ⊤
IsCause bytes Mem = ⊤

abbrev pub OnLimit : CheckError → Type 0 → Type 0
OnLimit Limit holds = holds
OnLimit other holds = ⊤

abbrev pub OnReadFault : CheckError → Type 0 → Type 0
OnReadFault ReadFault holds = holds
OnReadFault other holds = ⊤

-- what a refusal of the reader is to `check`
abbrev pub cause_of : StateError → CheckError
cause_of (Bad at) = Refused at
cause_of (NotStateEvent at) = Refused at
cause_of TooLong = Limit
cause_of Failed = Mem
cause_of NoMemory = Mem
