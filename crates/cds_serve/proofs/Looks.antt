-- One look of the notifier, put together from its parts.
use Rattle.std.proofs.Common.{◌≡◌, ◌+◌, inl, inr, ℕ, Bool, true, List, [], ◌∷◌, ◌++◌, Option, Result, Ok, Err, IsErrAnd, refl, sym, ap, subst, ◌∙◌, append_assoc}
use Rattle.cds_base.specs.declared.mem.Mem.{Mem}
use Rattle.cds_commands.specs.Commands.{Command, Start, Ticks}
use Rattle.cds_server.specs.declared.notes.Notes.{Notes}
use Rattle.cds_outside.specs.declared.link.LinkRequest.{LinkRequest}
use Rattle.cds_turn.specs.Line.{Extends}
use Rattle.cds_turn.specs.Turn.{SeatTold}
use Rattle.cds_serve.specs.Acts.{IsLook, look_adds}
use Rattle.cds_serve.specs.Jobs.{AddsTicks, EndsNotifying}
use Rattle.cds_serve.specs.Looked.{Beside, Looks, Ticked}
use Rattle.cds_serve.specs.Sent.{GivesEach, GivesFront, release_requests}
use Rattle.cds_serve.specs.Told.{IsAlone, IsMoment}
use Rattle.cds_serve.specs.declared.acts.Look.{Look}

module _ (start : Start) (before now : ℕ) (old new : Beside) (found : List Command) (begun : Extends found old.seat.seen) (alone : IsAlone old.seat found)
    (passes : new.seat.passes ≡ old.seat.passes) (turns : new.seat.turns ≡ old.seat.turns + 1) (moment : IsMoment old.clock new.clock before now) where
  -- the server ticked, and all notes were given
  pub looks-all : (look : Look) → IsLook start found now (Ok look) → new.seat.seen ≡ look_adds now (Ok look) ++ found
      → new.seat.own ≡ look_adds now (Ok look) ++ old.seat.own
      → GivesEach (release_requests look.notes) old.link.requests new.link.requests → Looks start (Ok look.stopped) before now old new
  looks-all look is seen own given = record {
    found = found;
    begun = begun;
    alone = alone;
    added = Ticks now ∷ [];
    seen = seen;
    own = own;
    ticked = (is.1, refl, subst (λ (n : Option Notes). GivesEach (release_requests n) old.link.requests new.link.requests) is.0 given);
    passes = passes;
    turns = turns;
    moment = moment;
  }

  -- a front of them was
  pub looks-front : (look : Look) (memory : Mem) → IsLook start found now (Ok look) → new.seat.seen ≡ look_adds now (Ok look) ++ found
      → new.seat.own ≡ look_adds now (Ok look) ++ old.seat.own
      → GivesFront (release_requests look.notes) old.link.requests new.link.requests → Looks start (Err memory) before now old new
  looks-front look memory is seen own given = record {
    found = found;
    begun = begun;
    alone = alone;
    added = Ticks now ∷ [];
    seen = seen;
    own = own;
    ticked = inr (refl, subst (λ (n : Option Notes). GivesFront (release_requests n) old.link.requests new.link.requests) is.0 given);
    passes = passes;
    turns = turns;
    moment = moment;
  }

  -- the same at the exit
  pub looks-front-exit : (look : Look) (result : Result Bool Mem) (memory : Mem) → IsErrAnd result (λ x. x ≡ memory) → IsLook start found now (Ok look)
      → new.seat.seen ≡ look_adds now (Ok look) ++ found → new.seat.own ≡ look_adds now (Ok look) ++ old.seat.own
      → GivesFront (release_requests look.notes) old.link.requests new.link.requests → Looks start result before now old new
  looks-front-exit look (Ok stopped) memory err is seen own given = absurd err
  looks-front-exit look (Err e) memory err is seen own given = looks-front look e is seen own given

  -- both as the act answered
  pub looks-full : (tick : ℕ) (answer : Result Look Mem) (look : Look) → tick ≡ now → answer ≡ Ok look → IsLook start found tick answer
      → new.seat.seen ≡ look_adds tick answer ++ found → new.seat.own ≡ look_adds tick answer ++ old.seat.own
      → GivesEach (release_requests look.notes) old.link.requests new.link.requests → Looks start (Ok look.stopped) before now old new
  looks-full tick answer look same was is seen own given =
      looks-all look (subst (λ (n : ℕ). IsLook start found n (Ok look)) same (subst (λ (r : Result Look Mem). IsLook start found tick r) was is))
      (seen ∙ ap (λ (r : Result Look Mem). look_adds tick r ++ found) was ∙ ap (λ (n : ℕ). look_adds n (Ok look) ++ found) same)
      (own ∙ ap (λ (r : Result Look Mem). look_adds tick r ++ old.seat.own) was ∙ ap (λ (n : ℕ). look_adds n (Ok look) ++ old.seat.own) same) given

  pub looks-part : (tick : ℕ) (answer : Result Look Mem) (look : Look) (result : Result Bool Mem) (memory : Mem) → IsErrAnd result (λ x. x ≡ memory)
      → tick ≡ now → answer ≡ Ok look → IsLook start found tick answer → new.seat.seen ≡ look_adds tick answer ++ found
      → new.seat.own ≡ look_adds tick answer ++ old.seat.own
      → GivesFront (release_requests look.notes) old.link.requests new.link.requests → Looks start result before now old new
  looks-part tick answer look result memory err same was is seen own given =
      looks-front-exit look result memory err
      (subst (λ (n : ℕ). IsLook start found n (Ok look)) same (subst (λ (r : Result Look Mem). IsLook start found tick r) was is))
      (seen ∙ ap (λ (r : Result Look Mem). look_adds tick r ++ found) was ∙ ap (λ (n : ℕ). look_adds n (Ok look) ++ found) same)
      (own ∙ ap (λ (r : Result Look Mem). look_adds tick r ++ old.seat.own) was ∙ ap (λ (n : ℕ). look_adds n (Ok look) ++ old.seat.own) same) given

  -- it did not tick
  pub looks-none : (memory other : Mem) → new.seat.seen ≡ look_adds now (Err other) ++ found
      → new.seat.own ≡ look_adds now (Err other) ++ old.seat.own → new.link.requests ≡ old.link.requests
      → Looks start (Err memory) before now old new
  looks-none memory other seen own same = record {
    found = found;
    begun = begun;
    alone = alone;
    added = [];
    seen = seen;
    own = own;
    ticked = inl (refl, same);
    passes = passes;
    turns = turns;
    moment = moment;
  }

  -- the same as the act answered
  pub looks-none-exit : (tick : ℕ) (answer : Result Look Mem) (other : Mem) (result : Result Bool Mem) (memory : Mem) → IsErrAnd result (λ x. x ≡ memory)
      → answer ≡ Err other → new.seat.seen ≡ look_adds tick answer ++ found → new.seat.own ≡ look_adds tick answer ++ old.seat.own
      → new.link.requests ≡ old.link.requests → Looks start result before now old new
  looks-none-exit tick answer other (Ok stopped) memory err was seen own same = absurd err
  looks-none-exit tick answer other (Err e) memory err was seen own same =
      looks-none e other (seen ∙ ap (λ (r : Result Look Mem). look_adds tick r ++ found) was)
      (own ∙ ap (λ (r : Result Look Mem). look_adds tick r ++ old.seat.own) was) same

-- ---- looks one after another

pub begun-through : (list mid seen : List Command) → Extends list mid → Extends mid seen → Extends list seen
begun-through list mid seen one other = (one.0 ++ other.0, one.1 ∙ ap (λ l. one.0 ++ l) other.1 ∙ sym (append_assoc one.0 other.0 seen))

-- what the seat had seen before a look, it has seen after it
pub looks-begun : (start : Start) (result : Result Bool Mem) (before now : ℕ) (old new : Beside) → Looks start result before now old new
    → Extends new.seat.seen old.seat.seen
looks-begun start result before now old new l =
    (l.added ++ l.begun.0, l.seen ∙ ap (λ (z : List Command). l.added ++ z) l.begun.1 ∙ sym (append_assoc l.added l.begun.0 old.seat.seen))

-- a tick is added to a list, or nothing
adds-tick : (start : Start) (found : List Command) (now : ℕ) (result : Result Bool Mem) (added : List Command) (before after : Option (List LinkRequest))
    (first list seen : List Command) → Ticked start found now result added before after → seen ≡ added ++ list → AddsTicks first list → AddsTicks first seen
adds-tick start found now (Ok stopped) added before after first list seen t is a =
    (now ∷ a.0, is ∙ ap (λ (z : List Command). z ++ list) t.1 ∙ ap (λ (z : List Command). Ticks now ∷ z) a.1)
adds-tick start found now (Err memory) added before after first list seen (inl none) is a = (a.0, is ∙ ap (λ (z : List Command). z ++ list) none.0 ∙ a.1)
adds-tick start found now (Err memory) added before after first list seen (inr one) is a =
    (now ∷ a.0, is ∙ ap (λ (z : List Command). z ++ list) one.0 ∙ ap (λ (z : List Command). Ticks now ∷ z) a.1)

-- a look of the only seat adds a tick to what it has seen, or nothing
pub looks-ticks : (start : Start) (first : List Command) (result : Result Bool Mem) (before now : ℕ) (old new : Beside) → Looks start result before now old new
    → old.seat.passes ≡ old.seat.seats → AddsTicks first old.seat.seen → AddsTicks first new.seat.seen
looks-ticks start first result before now old new l only t =
    adds-tick start l.found now result l.added old.link.requests new.link.requests first l.found new.seat.seen l.ticked l.seen (t.0, l.alone only ∙ t.1)

-- a look of any seat adds one to its own commands, or nothing
pub looks-own : (start : Start) (first : List Command) (result : Result Bool Mem) (before now : ℕ) (old new : Beside) → Looks start result before now old new
    → AddsTicks first old.seat.own → AddsTicks first new.seat.own
looks-own start first result before now old new l t =
    adds-tick start l.found now result l.added old.link.requests new.link.requests first old.seat.own new.seat.own l.ticked l.own t

-- the last look
module _ (start : Start) (first : SeatTold Command) (before now : ℕ) (old new : Beside) (begun : Extends old.seat.seen first.seen)
    (passes : new.seat.passes ≡ first.passes) (own : AddsTicks first.own new.seat.own) (alone : first.passes ≡ first.seats → AddsTicks first.seen new.seat.seen) where
  ends-notifying : Looks start (Ok true) before now old new → EndsNotifying first new.seat
  ends-notifying l = record {
    moment = now;
    found = l.found;
    last = l.seen ∙ ap (λ (z : List Command). z ++ l.found) l.ticked.1;
    begun = begun-through l.found old.seat.seen first.seen l.begun begun;
    stopped = sym l.ticked.0;
    own = own;
    passes = passes;
    alone = alone;
  }

  pub ends-looking : (result : Result Bool Mem) → Looks start result before now old new → result ≡ Ok true → EndsNotifying first new.seat
  ends-looking result l is = ends-notifying (subst (λ (r : Result Bool Mem). Looks start r before now old new) is l)
