-- The rule of a turn as plain data: what stands in the three words, in the slot and in the views of all seats between any two
-- steps.
-- Word 0 counts the tickets that were drawn, word 1 those that were served, word 2 the commands of the list. Each counts
-- modulo 2 ^ 64.
-- Lists of commands are newest first. So a list that begins with another in time ends with it in writing.
use Rattle.std.specs.Prelude.{◌≡◌, ◌⊎◌, ℕ, ◌+◌, ◌%◌, ◌^◌, ◌<◌, ◌≤◌, Bool, List, [], ◌∷◌, ◌++◌, length, Option, Some, None}
use Rattle.std.specs.List.{count_by}
use mathlib.Core.Option.{some, none}
use lib.ListN.{get_elem?}
use Rattle.atomic_table.specs.Table.{State}
use Rattle.cds_turn.specs.declared.view.View.{View}

-- the list begins with all that was seen
abbrev pub Extends : {C : Type 0} → List C → List C → Type 0
Extends {C} list seen = (added : List C) × (list ≡ added ++ seen)

-- the sum of the numbers that f gives for the elements
abbrev pub total : {A : Type 0} → (A → ℕ) → List A → ℕ
total f [] = 0
total f (x ∷ xs) = f x + total f xs

-- 1 if there is one, and otherwise 0
abbrev pub one_if : Option ℕ → ℕ
one_if None = 0
one_if (Some t) = 1

module _ {C T : Type 0} where
  -- how many tickets a view holds
  abbrev pub tickets : View C T → ℕ
  tickets v = one_if v.ticket

  abbrev pub passes : View C T → ℕ
  passes v = v.passes

  -- how many of the commands that a view's seat appended pass the test
  abbrev pub own_count : (C → Bool) → View C T → ℕ
  own_count test v = count_by test v.own

  -- the view of the first seat
  abbrev pub newcomer : T → ℕ → View C T
  newcomer start seats = record { start = Some start; seen = []; own = []; older = []; passes = seats; turns = 0; ticket = None; found = None }

  -- what is left of a seat that was joined into another
  abbrev pub spent : View C T
  spent = record { start = None; seen = []; own = []; older = []; passes = 0; turns = 0; ticket = None; found = None }

  -- What a view says is true of the line. Its ticket was drawn and is not passed on yet. The list begins with what it has seen.
  -- If it has the turn, its ticket is the one that is served and it knows the list
  pub record Fits (start : T) (served drawn : ℕ) (list : List C) (v : View C T) : Type 0 where
    pub alive : (v ≡ spent) ⊎ (0 < v.passes)
    pub starts : (t : T) → v.start ≡ Some t → t ≡ start
    pub in_line : (t : ℕ) → v.ticket ≡ Some t → (served ≤ t) × (t < drawn)
    pub begun : Extends list v.seen
    pub older : (k : ℕ) (e : List C) → get_elem? v.older k ≡ some e → Extends list e
    pub turn : (l : List C) → v.found ≡ Some l → (v.ticket ≡ Some served) × (l ≡ list)

  -- each view fits
  abbrev pub AllFit : T → ℕ → ℕ → List C → List (View C T) → Type 0
  AllFit start served drawn list views = (j : ℕ) (v : View C T) → get_elem? views j ≡ some v → Fits start served drawn list v

  -- no two seats hold the same ticket
  abbrev pub AreApart : List (View C T) → Type 0
  AreApart views = (i j : ℕ) (v w : View C T) (t : ℕ) → get_elem? views i ≡ some v → get_elem? views j ≡ some w
      → v.ticket ≡ Some t → w.ticket ≡ Some t → i ≡ j

  -- each ticket that was drawn and is not served yet is in some view
  abbrev pub AreHeld : ℕ → ℕ → List (View C T) → Type 0
  AreHeld served drawn views = (t : ℕ) → served ≤ t → t < drawn → (j : ℕ) × (v : View C T) × (get_elem? views j ≡ some v) × (v.ticket ≡ Some t)

  -- some view has seen the whole list
  abbrev pub IsKnown : List C → List (View C T) → Type 0
  IsKnown list views = (j : ℕ) × (v : View C T) × (get_elem? views j ≡ some v) × (v.seen ≡ list)

  -- no view has the turn
  abbrev pub AreWaiting : List (View C T) → Type 0
  AreWaiting views = (j : ℕ) (v : View C T) → get_elem? views j ≡ some v → v.found ≡ None

module _ {V C T : Type 0} (stands : V → T → List C → Type 0) (start : T) where
  -- the value stands for a list that begins with all that was seen
  pub record StandsBeyond (seen : List C) (value : V) : Type 0 where
    pub list : List C
    pub stands_for : stands value start list
    pub begun : Extends list seen

  -- Either no view has the turn: the value is at home and stands for the list, and some view has seen the whole list. Or the
  -- value is out, with the one seat that has the turn, and that seat knows the list
  abbrev pub Placed : List C → State (Option V) (View C T) → Type 0
  Placed list s =
      ((value : V) × (s.homes ≡ some (Some value) ∷ []) × stands value start list × AreWaiting s.views × IsKnown list s.views)
      ⊎ ((s.homes ≡ none ∷ []) × ((j : ℕ) × (v : View C T) × (get_elem? s.views j ≡ some v) × (v.found ≡ Some list)))

  pub record InLine (seats : ℕ) (s : State (Option V) (View C T)) : Type 0 where
    pub served : ℕ
    pub drawn : ℕ
    pub list : List C
    pub words : s.words ≡ drawn % 2 ^ 64 ∷ served % 2 ^ 64 ∷ length list % 2 ^ 64 ∷ []
    pub count : served + total tickets s.views ≡ drawn
    pub shares : total passes s.views ≡ seats
    -- each command of the list was appended by exactly one seat
    pub owned : (test : C → Bool) → count_by test list ≡ total (own_count test) s.views
    pub each : AllFit start served drawn list s.views
    pub apart : AreApart s.views
    pub held : AreHeld served drawn s.views
    pub placed : Placed list s

  -- the rule: the line is as above with fewer than 2 ^ 32 seats, so fewer than 2 ^ 32 tickets are out at once
  abbrev pub Kept : ℕ → State (Option V) (View C T) → Type 0
  Kept seats s = (seats < 2 ^ 32) × InLine seats s

  -- a state that the rule allows, in which a seat has this view
  pub record Ended (seats id : ℕ) (view : View C T) : Type 0 where
    pub state : State (Option V) (View C T)
    pub few : seats < 2 ^ 32
    pub rule : InLine seats state
    pub has_seat : get_elem? state.views id ≡ some view

  -- it ended with all tickets served and this value at home
  pub record EndsHome (seats id : ℕ) (view : View C T) (value : V) : Type 0 where
    pub last : Ended seats id view
    pub over : last.rule.drawn ≡ last.rule.served
    pub home : last.state.homes ≡ some (Some value) ∷ []

  -- it ended with tickets out, and these are its counts modulo 2 ^ 64. No more are out than the other seats have passes
  pub record EndsOpen (seats id : ℕ) (view : View C T) (ticket serving : ℕ) : Type 0 where
    pub last : Ended seats id view
    pub out : last.rule.served < last.rule.drawn
    pub few : last.rule.drawn + view.passes ≤ last.rule.served + seats
    pub ticket_is : ticket ≡ last.rule.drawn % 2 ^ 64
    pub serving_is : serving ≡ last.rule.served % 2 ^ 64
