-- Elements with the places where they begin.
use Rattle.std.specs.Prelude.{◌≡◌, ℕ, Option, Some, None, Result, Ok, Err, List, [], ◌∷◌, ◌++◌, length, slice_get}
use Rattle.cds_markup.specs.declared.build.Frame.{Frame}
use Rattle.cds_markup.specs.declared.error.MarkupError.{MarkupError}
use Rattle.cds_markup.specs.declared.part.Part.{Part}
use Rattle.cds_markup.specs.declared.part.Part.TheVariants.{Start}
use Rattle.cds_markup.specs.declared.placed.Placed.{Placed}
use Rattle.cds_markup.specs.declared.placed.PlacedBuilder.{PlacedBuilder}
use Rattle.cds_markup.specs.Building.{State, state_of, with_part, nothing_yet, first_element}
use Rattle.cds_markup.specs.Children.{elements_in, nodes_in, IsRootPlace, IsChildPlace}
use Rattle.cds_markup.specs.Decided.{Decides}
use Rattle.cds_markup.specs.Document.{Meaning}

-- What parts say, with the places of the start tags of the root and of its child elements.
pub record Placing : Type 0 where
  pub state : State
  pub at : Option ℕ
  pub children : List ℕ

abbrev pub placing_of : PlacedBuilder → Placing
placing_of b = record { state = state_of b.builder; at = b.at; children = b.children }

abbrev pub no_place : Placing
no_place = record { state = nothing_yet; at = None; children = [] }

-- The place of a start tag, if these elements are open around it. The first start tag is that of the root. Those deeper than the
-- root's children are left out.
abbrev pub first_or : Option ℕ → ℕ → ℕ
first_or None at = at
first_or (Some first) at = first

abbrev pub noted_in : List Frame → ℕ → Placing → Placing
noted_in [] at p = record { state = p.state; at = Some (first_or p.at at); children = p.children }
noted_in (root ∷ []) at p = record { state = p.state; at = p.at; children = p.children ++ at ∷ [] }
noted_in frames at p = p

abbrev pub noted : ℕ → Placing → Placing
noted at p = noted_in p.state.frames at p

abbrev pub note_part : Part → Placing → Placing
note_part (Start at end name attrs) p = noted at p
note_part other p = p

-- The next part, and some parts one after another.
abbrev pub with_state : State → Placing → Placing
with_state state p = record { state = state; at = p.at; children = p.children }

abbrev pub and_part : Placing → Part → Placing
and_part p part = with_state (with_part p.state part) (note_part part p)

abbrev pub placed_by : Placing → List Part → Placing
placed_by p [] = p
placed_by p (part ∷ more) = placed_by (and_part p part) more

abbrev pub places : PlacedBuilder → Part → PlacedBuilder → Type 0
places before part now = placing_of now ≡ and_part (placing_of before) part

-- The element with its places.
abbrev pub with_places : Option Meaning → Option ℕ → List ℕ → Option Placed
with_places None at children = None
with_places (Some element) None children = None
with_places (Some element) (Some at) children = Some (record { element = element; at = at; children = children })

abbrev pub placed_as : Placing → Option Placed
placed_as p = with_places (first_element p.state.nodes) p.at p.children

-- The place where the root of a document begins, and those of its child elements.
pub record ArePlaces (bytes : List ℕ) (placed : Placed) : Type 0 where
  pub root : IsRootPlace bytes placed.at
  pub many : length placed.children ≡ length (elements_in (nodes_in placed.element))
  pub each : (number at : ℕ) → slice_get placed.children number ≡ Some at → IsChildPlace bytes number at

-- An answer to bytes: the element that they are a document of, with its places, or the refusal that stands against them.
abbrev pub DecidesPlaced : List ℕ → Result Placed MarkupError → Type 0
DecidesPlaced bytes (Ok placed) = Decides bytes (Ok placed.element) × ArePlaces bytes placed
DecidesPlaced bytes (Err e) = Decides bytes (Err e)
