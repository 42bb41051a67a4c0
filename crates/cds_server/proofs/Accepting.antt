-- What is accepted at moments that never fall.
use Rattle.std.proofs.Common.{◌≡◌, ◌≤◌, ℕ, Bool, true, false, cond, nat_eq, nat_lt, List, [], ◌∷◌, length, Option, Some, None, is_some, Result, Ok, Err, refl, sym, ap, subst, arith, true≢false}
use Rattle.std.specs.Prelude.{⊤}
use Rattle.url.specs.Parts.{serialize}
use Rattle.cds_http.specs.declared.message.Message.{Message}
use Rattle.cds_commands.specs.Commands.{Command, Start, Scans, Grants, Renews, Ends, Ticks, Stops}
use Rattle.cds_commands.specs.Names.{names_of}
use Rattle.cds_commands.specs.Subscriptions.{granted, is_alive, subscription_limit}
use Rattle.cds_commands.specs.Notes.{alive_names}
use Rattle.cds_gena.specs.Asked.{gena_of}
use Rattle.cds_gena.specs.Served.{Served}
use Rattle.cds_gena.specs.Subscribed.{last_number, number_of}
use Rattle.cds_gena.specs.declared.error.GenaError.{GenaError}
use Rattle.cds_gena.specs.declared.error.GenaError.TheVariants.{Spent, Full}
use Rattle.cds_gena.specs.declared.gena.Gena.{Gena}
use Rattle.cds_gena.specs.declared.gena.Gena.TheVariants.{Subscribe, Renew, Unsubscribe}
use Rattle.cds_server.specs.Route.{Route, Subscribes, Goes, route}
use Rattle.cds_server.specs.Outcome.{command_of, ending, granting, if_lives, living_number, outcome, outcome_of, refusal_of, renewing}
use Rattle.cds_server.specs.Replies.{command_by}
use Rattle.cds_server.specs.Laws.{accepted_are_served}

-- what was served up to a moment was served up to a later one
later : (before now : ℕ) (commands : List Command) → before ≤ now → Served before commands → Served now commands
later before now [] l s = tt
later before now (Scans library ∷ older) l s = later before now older l s
later before now (Grants moment callback seconds ∷ older) l (low, room, rest) = (omega (arith, low, l), room, rest)
later before now (Renews moment number seconds ∷ older) l (low, lives, rest) = (omega (arith, low, l), lives, rest)
later before now (Ends moment number ∷ older) l (low, rest) = (omega (arith, low, l), rest)
later before now (Ticks moment ∷ older) l (low, rest) = (omega (arith, low, l), rest)
later before now (Stops ∷ older) l s = later before now older l s

none-some : (command : Command) → None ≡ Some command → ⊥
none-some command e = true≢false (sym (ap is_some e))

module _ (start : Start) (older : List Command) (now : ℕ) (served : Served now older) where
  abbrev live : ℕ
  live = length (alive_names now older)

  abbrev Accepts : Option Command → Type 0
  Accepts None = ⊤
  Accepts (Some command) = Served now (command ∷ older)

  by-grant : (callback : List ℕ) (seconds : ℕ) (a b : Bool) → nat_lt live subscription_limit ≡ b
      → Accepts (command_of now (granting (cond a (Some Spent) (cond b None (Some (Full live)))) callback seconds))
  by-grant callback seconds true b room = tt
  by-grant callback seconds false true room = (omega arith, room, served)
  by-grant callback seconds false false room = tt

  by-renewal : (seconds : ℕ) (o : Option ℕ) → Accepts (command_of now (renewing (if_lives now older o) seconds))
  by-renewal seconds None = tt
  by-renewal seconds (Some number) = by (is_alive number now older) refl
    where
      by : (b : Bool) → is_alive number now older ≡ b → Accepts (command_of now (renewing (cond b (Some number) None) seconds))
      by true lives = (omega arith, lives, served)
      by false lives = tt

  by-end : (o : Option ℕ) → Accepts (command_of now (ending o))
  by-end None = tt
  by-end (Some number) = (omega arith, served)

  by-gena : (g : Result Gena GenaError) → Accepts (command_of now (outcome_of (refusal_of now older) (living_number start now older) g))
  by-gena (Ok (Subscribe url seconds)) =
      by-grant (serialize url) seconds (nat_eq (granted older) last_number) (nat_lt live subscription_limit) refl
  by-gena (Ok (Renew sid seconds)) = by-renewal seconds (number_of (names_of start) sid.0)
  by-gena (Ok (Unsubscribe sid)) = by-end (living_number start now older sid.0)
  by-gena (Err cause) = tt

  by-route : (m : Message) (command : Command) (r : Route) → command_by r now (outcome start older now m) ≡ Some command
      → Served now (command ∷ older)
  by-route m command Subscribes e = subst Accepts e (by-gena (gena_of m))
  by-route m command (Goes way) e = absurd (none-some command e)

pub accepted-served : accepted_are_served
accepted-served start older before now m command served low e =
    by-route start older now (later before now older low served) m command (route m) e
