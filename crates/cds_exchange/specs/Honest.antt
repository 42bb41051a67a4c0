-- The answers of an honest server to an ask, and how it writes them (UPnP ContentDirectory:4 on the actions and on
-- DIDL-Lite).
use Rattle.std.specs.Prelude.{◌<◌, ◌≤◌, ◌^◌, ℕ, IsTrue, None, List, length}
use Rattle.std.specs.List.{AllByRecursion}
use Rattle.cds_base.specs.Characters.{AreAllowed}
use Rattle.cds_object.specs.Object.{ObjectRow}
use Rattle.cds_object.specs.Tree.{IsTree}
use Rattle.cds_didl.specs.Fragment.{didl_text}
use Rattle.cds_didl.specs.Plain.{IsPlainText, HasPlainTexts}
use Rattle.cds_didl.specs.ReadBack.{HasRanges}
use Rattle.cds_soap.specs.declared.answer.Answer.{Answer}
use Rattle.cds_soap.specs.declared.answer.Answer.TheVariants as answer
use Rattle.cds_soap.specs.Written.{is_known_code}
use Rattle.cds_load.specs.declared.exchange.Ask.{Ask}
use Rattle.cds_load.specs.declared.exchange.Ask.TheVariants.{Token, Number as AskNumber, Metadata, Children}
use Rattle.cds_load.specs.declared.exchange.Shown.{Shown}
use Rattle.cds_load.specs.declared.exchange.Shown.TheVariants.{Text, Number, Page, Fault}
use Rattle.cds_load.specs.Server.{Moment}

-- The answer that says this, if the bytes of tracks are below a base. A page is the document of its rows with every
-- property.
abbrev pub answer_saying : List ℕ → Shown → Answer
answer_saying base (Text token) = answer.Text token
answer_saying base (Number n) = answer.Number n
answer_saying base (Page rows total update) = answer.Page (didl_text None base rows) (length rows) total update
answer_saying base (Fault code) = answer.Fault code

-- A base is `http://` and a HOST, which has at most 255 bytes: allowed characters, 262 bytes at most.
pub record IsBase (base : List ℕ) : Type 0 where
  pub allowed : AreAllowed base
  pub short : length base ≤ 262

-- A row of a plain object. Its texts have allowed characters and at most 255 bytes. Its numbers are in the ranges of
-- their types.
pub record IsPlainRow (row : ObjectRow) : Type 0 where
  pub ranges : HasRanges row
  pub texts : HasPlainTexts row.content

-- A page has at most 4,096 rows, the most that a server gives at once, and all of them are plain.
pub record IsPlainPage (rows : List ObjectRow) (total update : ℕ) : Type 0 where
  pub each : AllByRecursion IsPlainRow rows
  pub few : length rows ≤ 4096
  pub total_fits : total < 2 ^ 32
  pub update_fits : update < 2 ^ 32

-- An honest server may show this to the ask: a reply of the kind of the ask, or a fault of the table.
abbrev pub CanBeShownTo : Ask → Shown → Type 0
CanBeShownTo ask (Fault code) = IsTrue (is_known_code code)
CanBeShownTo Token (Text token) = IsPlainText token
CanBeShownTo AskNumber (Number n) = n < 2 ^ 32
CanBeShownTo (Metadata id) (Page rows total update) = IsPlainPage rows total update
CanBeShownTo (Children id start) (Page rows total update) = IsPlainPage rows total update
CanBeShownTo ask shown = ⊥

-- What a server has at a moment, if its rows are a tree and all of it is plain.
pub record IsPlainMoment (moment : Moment) : Type 0 where
  pub token : IsPlainText moment.token
  pub number : moment.number < 2 ^ 32
  pub tree : IsTree moment.rows
  pub each : AllByRecursion IsPlainRow moment.rows

-- The ids and places of an ask have 32 bits.
abbrev pub IsInRange : Ask → Type 0
IsInRange Token = Unit {0}
IsInRange AskNumber = Unit {0}
IsInRange (Metadata id) = id < 2 ^ 32
IsInRange (Children id start) = (id < 2 ^ 32) × (start < 2 ^ 32)
