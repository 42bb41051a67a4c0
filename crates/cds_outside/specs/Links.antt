-- The words of links: requests sent, and replies that came.
use Rattle.std.specs.Prelude.{◌≡◌, ◌<◌, ℕ, Bool, true, false, Option, Some, Result, Ok, Err, List, [], ◌∷◌, ◌++◌, length}
use Rattle.cds_outside.specs.declared.link.LinkFault.{LinkFault}
use Rattle.cds_outside.specs.declared.link.LinkFault.TheVariants.{Failed, Mem, Over}
use Rattle.cds_outside.specs.declared.link.LinkRequest.{LinkRequest}
use Rattle.cds_outside.specs.Outside.{Rose}

-- The requests that were sent, after an exchange. The request of the exchange is added, except when memory ran out.
abbrev pub requests_after : {A : Type 0} → Result A LinkFault → LinkRequest → List LinkRequest → List LinkRequest
requests_after (Ok reply) request sent = sent ++ request ∷ []
requests_after (Err Failed) request sent = sent ++ request ∷ []
requests_after (Err Mem) request sent = sent
requests_after (Err Over) request sent = sent ++ request ∷ []

-- A reply is the first of those that were left, and the others are left.
abbrev pub IsFirstReply : List ℕ → List (List ℕ) → Option (List (List ℕ)) → Type 0
IsFirstReply reply replies left = (others : List (List ℕ)) × (replies ≡ reply ∷ others) × (left ≡ Some others)

-- The first of the replies that were left is longer than the limit, and the others are left.
abbrev pub PassesFirst : ℕ → List (List ℕ) → Option (List (List ℕ)) → Type 0
PassesFirst limit replies left = (reply : List ℕ) × (limit < length reply) × IsFirstReply reply replies left

-- This holds if a reply was too long.
abbrev pub WhereOver : {A : Type 0} → Result A LinkFault → Type 0 → Type 0
WhereOver (Ok reply) P = Unit {0}
WhereOver (Err Failed) P = Unit {0}
WhereOver (Err Mem) P = Unit {0}
WhereOver (Err Over) P = P

-- A count of faults after an exchange. If the link failed or the reply was too long, the count rose; otherwise it stays.
abbrev pub LinkRose : {A : Type 0} → Result A LinkFault → ℕ → ℕ → Type 0
LinkRose (Ok reply) old new = new ≡ old
LinkRose (Err Failed) old new = Rose old new
LinkRose (Err Mem) old new = new ≡ old
LinkRose (Err Over) old new = Rose old new

-- Whether a link failed. A reply that is too long is no failure here.
abbrev pub has_no_reply : {A : Type 0} → Result A LinkFault → Bool
has_no_reply (Ok reply) = false
has_no_reply (Err Failed) = true
has_no_reply (Err Mem) = false
has_no_reply (Err Over) = false

-- What a link tells of itself.
pub record LinkTold : Type 0 where
  -- the requests that it sent and the replies that are left, if it tells them
  pub requests : Option (List LinkRequest)
  pub replies : Option (List (List ℕ))
  -- how many faults there were
  pub faults : ℕ
