-- Which replies showed the rows of a copy, if replies come as bytes (UPnP Device Architecture 2.0 on control; UPnP
-- ContentDirectory:4 on the results of actions).
use Rattle.std.specs.Prelude.{◌⊎◌, ℕ, List, [], ◌∷◌}
use Rattle.cds_object.specs.Object.{ObjectRow}
use Rattle.cds_load.specs.Seen.{rows_shown, HasVersion}
use Rattle.cds_load.specs.declared.exchange.Ask.{Ask}
use Rattle.cds_load.specs.declared.exchange.Shown.{Shown}
use Rattle.cds_exchange.specs.Readings.{ReadsAs}
use Rattle.cds_follow.specs.Inbox.{ReplicaTurn, Begins, Shows, Requests, Accepts, Refuses, Delivers}
use Rattle.cds_replica.specs.State.{ReplicaState, StandsFor}

-- one of the replies shows this to some ask
abbrev pub IsShownIn : List (List ℕ) → Shown → Type 0
IsShownIn [] shown = ⊥
IsShownIn (bytes ∷ replies) shown = ((ask : Ask) × ReadsAs ask bytes shown) ⊎ IsShownIn replies shown

-- whatever the turns were shown, one of the replies shows it
abbrev pub AreShownIn : List (List ℕ) → List ReplicaTurn → Type 0
AreShownIn replies [] = Unit {0}
AreShownIn replies (Begins ∷ older) = AreShownIn replies older
AreShownIn replies (Shows shown ∷ older) = IsShownIn replies shown × AreShownIn replies older
AreShownIn replies (Requests ∷ older) = AreShownIn replies older
AreShownIn replies (Accepts name ∷ older) = AreShownIn replies older
AreShownIn replies (Refuses ∷ older) = AreShownIn replies older
AreShownIn replies (Delivers note ∷ older) = AreShownIn replies older

-- a reply shows a row of this id with this content and this objectUpdateID
pub record HasRow (row : ObjectRow) (bytes : List ℕ) : Type 0 where
  pub ask : Ask
  pub shown : Shown
  pub reads : ReadsAs ask bytes shown
  pub has : HasVersion row (rows_shown shown)

abbrev pub WasInReply : ObjectRow → List (List ℕ) → Type 0
WasInReply row [] = ⊥
WasInReply row (bytes ∷ replies) = HasRow row bytes ⊎ WasInReply row replies

-- what stood for turns that were shown in replies stands for turns that were shown in them and this one
abbrev pub GoesOnIn : ReplicaState → List ℕ → ReplicaState → Type 0
GoesOnIn old bytes new = (replies : List (List ℕ)) (wrap : ℕ) (turns : List ReplicaTurn) → StandsFor old wrap turns → AreShownIn replies turns →
    (now : List ReplicaTurn) × StandsFor new wrap now × AreShownIn (bytes ∷ replies) now

-- a row of a copy was in one of the replies that were shown
abbrev pub WasReplied : ReplicaState → ObjectRow → Type 0
WasReplied kept row = (replies : List (List ℕ)) (wrap : ℕ) (turns : List ReplicaTurn) → StandsFor kept wrap turns → AreShownIn replies turns → WasInReply row replies
