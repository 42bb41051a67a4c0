-- What each kind of step tells the seat that makes it: a relation of the seat before, the number found and the seat after.
use Rattle.std.specs.Prelude.{◌≡◌, ◌≢◌, ◌⊎◌, ℕ, ◌+◌, ◌-◌, ◌%◌, ◌^◌, Bool, List, [], ◌∷◌, ◌++◌, length, Option, Some, None, unwrap_or, nat_lt, if◌then◌else◌}
use Rattle.std.specs.List.{count_by}
use mathlib.Core.Option.{some}
use lib.ListN.{get_elem?}
use Rattle.atomic_table.specs.Table.{Me, Step}
use Rattle.atomic_table.specs.Seated.{TableId}
use Rattle.atomic_table.specs.declared.shared.Seat.{Seat}
use Rattle.cds_turn.specs.declared.view.View.{View}
use Rattle.cds_turn.specs.Line.{Extends}

-- a table of the three words and the one slot
abbrev pub IsTurnTable : TableId → Type 0
IsTurnTable z = (z.words ≡ 3) × (z.slots ≡ 1)

-- the longer of two lists
abbrev pub longer : {C : Type 0} → List C → List C → List C
longer xs ys = if nat_lt (length xs) (length ys) then ys else xs

module _ {C T : Type 0} where
  -- the view with this ticket
  abbrev pub waiting : View C T → ℕ → View C T
  waiting v t = record v { ticket = Some t }

  -- the view with the turn, which found this list
  abbrev pub having : View C T → List C → View C T
  having v list = record v { found = Some list }

  -- the view with the turn, which added these commands to the list that it had found
  abbrev pub adding : View C T → List C → List C → View C T
  adding v added list = record v { own = added ++ v.own; found = Some (added ++ list) }

  -- the view after a turn which left this list
  abbrev pub served : View C T → List C → View C T
  served v list = record v { seen = list; turns = v.turns + 1; ticket = None; found = None }

  -- what a seat keeps after one of its passes went to a new seat, and then what the new seat has
  abbrev pub stays : View C T → View C T
  stays v = record v { passes = v.passes - 1 }

  abbrev pub parts : View C T → View C T
  parts v = record v { own = []; passes = 1; turns = 0 }

  -- two seats in one: the longer list, both lists as older ones, what either appended, and the sums of their passes and turns
  abbrev pub both : View C T → View C T → View C T
  both v w = record v { seen = longer v.seen w.seen; own = v.own ++ w.own; older = v.seen ∷ w.seen ∷ []; passes = v.passes + w.passes; turns = v.turns + w.turns }

  -- the view without its older lists
  abbrev pub settled : View C T → View C T
  settled v = record v { older = [] }

  module _ {S : Type 0} where
    -- the seat between two turns
    abbrev pub at_rest : Seat S (View C T) → Seat S (View C T)
    at_rest seat = record seat { me = (record seat.me.0 { older = []; ticket = None; found = None }, []) }

    -- the seat is one of this table, which has three words and one slot
    abbrev pub IsAt : TableId → Seat S (View C T) → Type 0
    IsAt z seat = (seat.table_id ≡ z) × IsTurnTable z

    -- the list that a seat with the turn knows
    abbrev pub found_of : Seat S (View C T) → List C
    found_of seat = unwrap_or seat.me.0.found []

    -- within a turn: it is the same seat of the same table, and what it had seen and its counts are as before
    pub record Continues (before after : Seat S (View C T)) : Type 0 where
      pub table : after.table_id ≡ before.table_id
      pub start : after.me.0.start ≡ before.me.0.start
      pub seen : after.me.0.seen ≡ before.me.0.seen
      pub older : after.me.0.older ≡ before.me.0.older
      pub passes : after.me.0.passes ≡ before.me.0.passes
      pub turns : after.me.0.turns ≡ before.me.0.turns

    -- the seat draws a ticket, and the number found is the ticket modulo 2 ^ 64
    abbrev pub Draws : Step S → Me S (View C T) → ℕ → Me S (View C T) → Type 0
    Draws st m n m' = (t : ℕ) × (n ≡ t % 2 ^ 64) × (m' ≡ (waiting m.0 t, m.1))

    abbrev pub Adds : (List C → List C) → Step S → Me S (View C T) → ℕ → Me S (View C T) → Type 0
    Adds added st m n m' = (l : List C) → m.0.found ≡ Some l → m' ≡ (adding m.0 (added l) l, m.1)

    abbrev pub Passes : Step S → Me S (View C T) → ℕ → Me S (View C T) → Type 0
    Passes st m n m' = (l : List C) → m.0.found ≡ Some l → m' ≡ (served m.0 l, [])

    -- what was seen begins with each older list, and the seat has no older lists afterwards
    abbrev pub Settles : Step S → Me S (View C T) → ℕ → Me S (View C T) → Type 0
    Settles st m n m' = (m' ≡ (settled m.0, m.1)) × ((k : ℕ) (e : List C) → get_elem? m.0.older k ≡ some e → Extends m.0.seen e)

-- for a turn of `seats` seats
module _ {V C T : Type 0} (stands : V → T → List C → Type 0) (seats : ℕ) where
  -- The seat has the turn, with the value. The value stands for a list that begins with all that the seat had seen. A seat with
  -- all passes had seen the whole list, and had appended all of it, counted by any test
  abbrev pub Turns : Me (Option V) (View C T) → Me (Option V) (View C T) → Type 0
  Turns m m' = (found : List C) × (value : V) × (m' ≡ (having m.0 found, (0, Some value) ∷ []))
      × ((start : T) → m.0.start ≡ Some start → stands value start found) × Extends found m.0.seen
      × (m.0.passes ≡ seats → found ≡ m.0.seen)
      × (m.0.passes ≡ seats → (test : C → Bool) → count_by test m.0.own ≡ count_by test m.0.seen)

  -- the turn comes exactly if the number found is the own ticket's modulo 2 ^ 64, and otherwise the seat is as before
  abbrev pub Looks : Step (Option V) → Me (Option V) (View C T) → ℕ → Me (Option V) (View C T) → Type 0
  Looks st m n m' = (t : ℕ) → m.0.ticket ≡ Some t → ((n ≡ t % 2 ^ 64) × Turns m m') ⊎ ((n ≢ t % 2 ^ 64) × (m' ≡ m))
