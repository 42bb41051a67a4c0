-- Laws of criteria, beside the definition of their reading: every text has exactly one outcome, by the grammar.
use Rattle.std.specs.Prelude.{◌≡◌, ◌+◌, false, ◌≤◌, ◌<◌, ℕ, List, [], ◌∷◌, ◌++◌, map, length, Result, Ok, Err}
use Rattle.std.specs.List.{AllByRecursion}
use Rattle.cds_criteria.specs.Criteria.{Criteria, Token, IsCriteria, LaidOut, CriteriaFit, CanStand, EachStands, criteria_tokens, IsExact, is_space}
use Rattle.cds_criteria.specs.Tokens.{Placed, token_found, tokens_of}
use Rattle.cds_criteria.specs.Reading.{criteria_read}

abbrev pub tokens_in : List Placed → List Token
tokens_in placed = map (λ (p : Placed). p.token) placed

-- why a text is refused, and at which place
pub data IsFault (text : List ℕ) : ℕ → Type 0 where
  -- it is longer than 4,096 bytes
  too_long : 4096 < length text → IsFault text 4096
  -- those before this token can stand, and it cannot
  misplaced : (before after : List Placed) (bad : Placed) → length text ≤ 4096 → tokens_of text ≡ before ++ bad ∷ after → EachStands [] (tokens_in before) → (CanStand (tokens_in before) bad.token → ⊥) → IsFault text bad.at
  -- each token can stand, and they are no criteria
  ends_early : length text ≤ 4096 → EachStands [] (tokens_in (tokens_of text)) → ((criteria : Criteria) → CriteriaFit 16 criteria → criteria_tokens criteria ≡ tokens_in (tokens_of text) → ⊥) → IsFault text (length text)

-- what a text's outcome says
abbrev pub OutcomeHolds : List ℕ → Result Criteria ℕ → Type 0
OutcomeHolds text (Ok criteria) = IsCriteria text criteria
OutcomeHolds text (Err at) = IsFault text at

-- an accepted text spells its criteria, a refused one has the fault
abbrev pub outcomes_hold : Type 0
outcomes_hold = (text : List ℕ) → OutcomeHolds text (criteria_read text)

-- each text that spells criteria is accepted with them, and each fault is the answer
abbrev pub outcomes_are_given : Type 0
outcomes_are_given = (text : List ℕ) (outcome : Result Criteria ℕ) → OutcomeHolds text outcome → criteria_read text ≡ outcome

-- so every text has one outcome and no other
abbrev pub outcomes_are_unique : Type 0
outcomes_are_unique =
    (text : List ℕ) (one other : Result Criteria ℕ) → OutcomeHolds text one → OutcomeHolds text other → one ≡ other

-- what is laid out in a text is found in it
abbrev pub laid_out_is_found : Type 0
laid_out_is_found = (tokens : List Token) (text : List ℕ) → AllByRecursion IsExact tokens → LaidOut tokens text → tokens_in (tokens_of text) ≡ tokens

-- what is found in a text is laid out in it
abbrev pub found_is_laid_out : Type 0
found_is_laid_out = (text : List ℕ) → AllByRecursion IsExact (tokens_in (tokens_of text)) → LaidOut (tokens_in (tokens_of text)) text

-- a token stands at its place: a byte that is no white space begins it there
pub record StandsAt (at : ℕ) (text : List ℕ) (placed : Placed) : Type 0 where
  pub front : List ℕ
  pub first : ℕ
  pub rest : List ℕ
  pub same : text ≡ front ++ first ∷ rest
  pub place : placed.at ≡ at + length front
  pub solid : is_space first ≡ false
  pub begins : placed.token ≡ (token_found first rest).token

abbrev pub tokens_stand_at_their_places : Type 0
tokens_stand_at_their_places = (text : List ℕ) → AllByRecursion (StandsAt 0 text) (tokens_of text)
