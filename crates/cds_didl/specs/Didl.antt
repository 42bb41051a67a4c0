-- What a DIDL-Lite document says: the rows of its children, or the first element that is not as it has to be (UPnP
-- ContentDirectory:4 on DIDL-Lite; places and their order are this project's profile).
use Rattle.std.specs.Prelude.{◌≡◌, ◌≢◌, ◌+◌, ℕ, if◌then◌else◌, Option, Some, None, Result, Ok, Err, List, [], ◌∷◌, codes, ⊤}
use Rattle.cds_markup.specs.declared.error.MarkupError.TheVariants.{Mem as NoMemory}
use Rattle.cds_markup.specs.Document.{Meaning, Doc}
use Rattle.cds_markup.specs.Refusal.{IsRefused}
use Rattle.cds_markup.specs.Children.{nodes_in, elements_in, is_named, IsRootPlace, IsChildPlace}
use Rattle.cds_object.specs.Object.{ObjectRow}
use Rattle.cds_didl.specs.declared.error.Fault.{Fault}
use Rattle.cds_didl.specs.declared.error.Fault.TheVariants.{Root, NotRow, BadRow, OutOfMemory}
use Rattle.cds_didl.specs.declared.error.DidlError.{DidlError}
use Rattle.cds_didl.specs.declared.error.DidlError.TheVariants.{Markup, NotDidl, BadValue, Mem}
use Rattle.cds_didl.specs.Spelled.{didl_space}
use Rattle.cds_didl.specs.Reading.{container_of, item_of}

-- The row of the child that has `number` children before it.
abbrev pub row_or : ℕ → Option ObjectRow → Result ObjectRow Fault
row_or number None = Err (BadRow number)
row_or number (Some row) = Ok row

unfoldable pub row_said : ℕ → Meaning → Result ObjectRow Fault
row_said number element =
    if is_named didl_space (codes "container") element then row_or number (container_of element)
    else if is_named didl_space (codes "item") element then row_or number (item_of element)
    else Err (NotRow number)

-- The rows of children, of which the first has `number` children before it, or the first fault.
abbrev pub and_rows : Result ObjectRow Fault → Result (List ObjectRow) Fault → Result (List ObjectRow) Fault
and_rows (Err fault) more = Err fault
and_rows (Ok row) (Err fault) = Err fault
and_rows (Ok row) (Ok rows) = Ok (row ∷ rows)

abbrev pub rows_from : ℕ → List Meaning → Result (List ObjectRow) Fault
rows_from number [] = Ok []
rows_from number (element ∷ more) = and_rows (row_said number element) (rows_from (number + 1) more)

-- What a document's element says. Text beside its children is passed over.
unfoldable pub rows_said : Meaning → Result (List ObjectRow) Fault
rows_said element =
    if is_named didl_space (codes "DIDL-Lite") element then rows_from 0 (elements_in (nodes_in element)) else Err Root

-- An element says these rows.
abbrev pub Didl : Meaning → List ObjectRow → Type 0
Didl element rows = rows_said element ≡ Ok rows

-- The refusal of a fault: `NotDidl` or `BadValue` with the place of the element.
abbrev pub IsRefusal : List ℕ → Fault → DidlError → Type 0
IsRefusal bytes Root (NotDidl at) = IsRootPlace bytes at
IsRefusal bytes (NotRow number) (NotDidl at) = IsChildPlace bytes number at
IsRefusal bytes (BadRow number) (BadValue at) = IsChildPlace bytes number at
IsRefusal bytes fault refusal = ⊥

-- The same if memory may have run out, and a fault that was found then.
abbrev pub IsRefusalOrMem : List ℕ → Fault → DidlError → Type 0
IsRefusalOrMem bytes fault Mem = ⊤
IsRefusalOrMem bytes fault refusal = IsRefusal bytes fault refusal

abbrev pub IsFaultOf : Result (List ObjectRow) Fault → Fault → Type 0
IsFaultOf said OutOfMemory = ⊤
IsFaultOf said fault = said ≡ Err fault

-- The bytes are a document of an element that has a fault, and this is its refusal.
pub record IsFaulty (bytes : List ℕ) (refusal : DidlError) : Type 0 where
  pub element : Meaning
  pub document : Doc bytes element
  pub fault : Fault
  pub faulty : rows_said element ≡ Err fault
  pub refused : IsRefusal bytes fault refusal

-- What is answered to bytes: the rows that they say, or why they say none. Faults of markup come first. `Mem` says nothing of
-- them.
abbrev pub Answers : List ℕ → Result (List ObjectRow) DidlError → Type 0
Answers bytes (Ok rows) = (element : Meaning) × Doc bytes element × Didl element rows
Answers bytes (Err Mem) = ⊤
Answers bytes (Err (Markup refusal)) = IsRefused bytes refusal × (refusal ≢ NoMemory)
Answers bytes (Err refusal) = IsFaulty bytes refusal

-- What was found so far in an element, if memory may have run out.
abbrev pub FindsRow : Result ObjectRow Fault → Result ObjectRow Fault → Type 0
FindsRow said (Err OutOfMemory) = ⊤
FindsRow said found = found ≡ said

abbrev pub FindsRows : Result (List ObjectRow) Fault → Result (List ObjectRow) Fault → Type 0
FindsRows said (Err OutOfMemory) = ⊤
FindsRows said found = found ≡ said

-- Bytes have one answer, unless memory ran out.
abbrev pub OneAnswer : Type 0
OneAnswer =
    (bytes : List ℕ) (one other : Result (List ObjectRow) DidlError) → Answers bytes one → Answers bytes other
    → one ≢ Err Mem → other ≢ Err Mem → one ≡ other
