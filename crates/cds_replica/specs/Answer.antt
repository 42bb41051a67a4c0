-- What a replica answers to a reply.
use Rattle.std.specs.Prelude.{List, [], ◌∷◌, Option, Some, None}
use Rattle.cds_load.specs.declared.exchange.Shown.{Shown}
use Rattle.cds_load.specs.declared.exchange.Shown.TheVariants.{Text, Number, Page, Fault}
use Rattle.cds_load.specs.declared.exchange.Read.{Read}
use Rattle.cds_load.specs.declared.exchange.Read.TheVariants.{Ok as ReadOk, Fault as ReadFault}

-- what was read: a refusal, or something else
abbrev pub read_of : Shown → Read
read_of (Text token) = ReadOk
read_of (Number n) = ReadOk
read_of (Page rows total update) = ReadOk
read_of (Fault code) = ReadFault code

-- the item of a list, if there is only one
abbrev pub only : {X : Type 0} → List X → Option X
only [] = None
only (x ∷ []) = Some x
only (x ∷ next ∷ xs) = None
