-- A server that threads share in turns: which commands it stands for.
use Rattle.std.specs.Prelude.{◌≡◌, true, List, [], ◌∷◌, Option, Some, None}
use Rattle.cds_commands.specs.Commands.{Command, Start}
use Rattle.cds_server.specs.Taking.{ServerTold}

-- a server, and what it was opened with
pub record Opened (S : Type 0) : Type 0 where
  pub server : S
  pub start : Start

-- It stands for the same commands as its server, and only from what it was opened with.
abbrev pub Stands : {S : Type 0} → (S → Start → List Command → Type 0) → Opened S → Start → List Command → Type 0
Stands stands opened start commands = (opened.start ≡ start) × stands opened.server start commands

-- A server that is closed can stand for these commands. One that keeps nothing outside never can.
abbrev pub CanBeClosed : {S : Type 0} → (S → ServerTold) → (S → Start → List Command → Type 0) → Start → List Command → Type 0
CanBeClosed {S} told stands start commands = (server : S) × ((told server).closed ≡ true) × stands server start commands

-- the commands that a message adds: one, or none
abbrev pub added : Option Command → List Command
added None = []
added (Some command) = command ∷ []
