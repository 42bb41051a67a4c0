-- Search criteria: what they are, and how they are spelled (UPnP ContentDirectory:4 on SearchCriteria; the properties and the
-- limits are this project's profile). Nothing here reads. A text is criteria if it spells some.
use Rattle.std.specs.Prelude.{◌≡◌, ◌≤◌, ◌==◌, ◌&&◌, ◌||◌, ℕ, zero, suc, Bool, true, false, cond, not, List, [], ◌∷◌, ◌++◌, length, codes}
use Rattle.std.specs.List.{flat_map, AllByRecursion}
pub use Rattle.cds_criteria.specs.declared.property.Property.{Property}
pub use Rattle.cds_criteria.specs.declared.property.Property.TheVariants.{Id, ParentId, Title, Class, Artist, Album, Genre, TrackNumber, ObjectUpdate, ContainerUpdate, Size, Duration}
pub use Rattle.cds_criteria.specs.declared.operator.Operator.{Operator}
pub use Rattle.cds_criteria.specs.declared.operator.Operator.TheVariants.{Equals, Differs, Below, AtMost, Above, AtLeast, Contains, DoesNotContain, DerivedFrom}
pub use Rattle.cds_criteria.specs.declared.token.Token.{Token}
pub use Rattle.cds_criteria.specs.declared.token.Token.TheVariants.{Star, Open, Close, AndWord, OrWord, Existence, Truth, Name, Sign, Value, Stray, CutSign, CutValue}

-- ---- what criteria are

-- `or` of `and` of factors, as they stand from the left. A factor is a comparison, a question for existence, or criteria in
-- parentheses.
mutual
  pub data AnyOf : Type 0 where
    First : AllOf → AnyOf
    Or : AnyOf → AllOf → AnyOf

  pub data AllOf : Type 0 where
    Single : Factor → AllOf
    And : AllOf → Factor → AllOf

  pub data Factor : Type 0 where
    Compare : Property → Operator → List ℕ → Factor
    Exists : Property → Bool → Factor
    Group : AnyOf → Factor

-- every object, or those that meet criteria
pub data Criteria : Type 0 where
  Everything : Criteria
  Where : AnyOf → Criteria

-- ---- tokens

-- the tokens of criteria, which are the grammar
abbrev mutual
  pub any_tokens : AnyOf → List Token
  any_tokens (First all) = all_tokens all
  any_tokens (Or any all) = any_tokens any ++ OrWord ∷ all_tokens all

  pub all_tokens : AllOf → List Token
  all_tokens (Single factor) = factor_tokens factor
  all_tokens (And all factor) = all_tokens all ++ AndWord ∷ factor_tokens factor

  pub factor_tokens : Factor → List Token
  factor_tokens (Compare property operator value) = Name property ∷ Sign operator ∷ Value value ∷ []
  factor_tokens (Exists property there) = Name property ∷ Existence ∷ Truth there ∷ []
  factor_tokens (Group any) = Open ∷ any_tokens any ++ Close ∷ []

abbrev pub criteria_tokens : Criteria → List Token
criteria_tokens Everything = Star ∷ []
criteria_tokens (Where any) = any_tokens any

-- at most this many parentheses are open at once
abbrev mutual
  pub AnyFits : ℕ → AnyOf → Type 0
  AnyFits room (First all) = AllFits room all
  AnyFits room (Or any all) = AnyFits room any × AllFits room all

  pub AllFits : ℕ → AllOf → Type 0
  AllFits room (Single factor) = FactorFits room factor
  AllFits room (And all factor) = AllFits room all × FactorFits room factor

  pub FactorFits : ℕ → Factor → Type 0
  FactorFits room (Compare property operator value) = Unit {0}
  FactorFits room (Exists property there) = Unit {0}
  FactorFits zero (Group any) = ⊥
  FactorFits (suc room) (Group any) = AnyFits room any

abbrev pub CriteriaFit : ℕ → Criteria → Type 0
CriteriaFit room Everything = Unit {0}
CriteriaFit room (Where any) = AnyFits room any

-- ---- how tokens are written

abbrev pub property_text : Property → List ℕ
property_text Id = codes "@id"
property_text ParentId = codes "@parentID"
property_text Title = codes "dc:title"
property_text Class = codes "upnp:class"
property_text Artist = codes "upnp:artist"
property_text Album = codes "upnp:album"
property_text Genre = codes "upnp:genre"
property_text TrackNumber = codes "upnp:originalTrackNumber"
property_text ObjectUpdate = codes "upnp:objectUpdateID"
property_text ContainerUpdate = codes "upnp:containerUpdateID"
property_text Size = codes "res@size"
property_text Duration = codes "res@duration"

abbrev pub operator_text : Operator → List ℕ
operator_text Equals = codes "="
operator_text Differs = codes "!="
operator_text Below = codes "<"
operator_text AtMost = codes "<="
operator_text Above = codes ">"
operator_text AtLeast = codes ">="
operator_text Contains = codes "contains"
operator_text DoesNotContain = codes "doesNotContain"
operator_text DerivedFrom = codes "derivedfrom"

-- a byte of a value: `"` and `\` have a `\` before them
abbrev pub value_byte : ℕ → List ℕ
value_byte b = cond (b == 34 || b == 92) (92 ∷ b ∷ []) (b ∷ [])

abbrev pub value_text : List ℕ → List ℕ
value_text value = 34 ∷ (flat_map value_byte value ++ 34 ∷ [])

-- the text of a token that criteria have
abbrev pub token_text : Token → List ℕ
token_text Star = codes "*"
token_text Open = codes "("
token_text Close = codes ")"
token_text AndWord = codes "and"
token_text OrWord = codes "or"
token_text Existence = codes "exists"
token_text (Truth true) = codes "true"
token_text (Truth false) = codes "false"
token_text (Name property) = property_text property
token_text (Sign operator) = operator_text operator
token_text (Value value) = value_text value
token_text Stray = []
token_text CutSign = []
token_text CutValue = []

-- the tokens that criteria have
abbrev pub IsExact : Token → Type 0
IsExact Stray = ⊥
IsExact CutSign = ⊥
IsExact CutValue = ⊥
IsExact token = Unit {0}

-- white space: space, tab, line feed and carriage return
abbrev pub is_space : ℕ → Bool
is_space b = b == 32 || b == 9 || b == 10 || b == 13

abbrev pub AllSpace : List ℕ → Type 0
AllSpace text = AllByRecursion (λ b. is_space b ≡ true) text

-- bytes that begin a token of their own or end a word: `"` `(` `)` `*` `!` `<` `=` `>`
abbrev pub is_mark : ℕ → Bool
is_mark b = b == 34 || b == 40 || b == 41 || b == 42 || b == 33 || b == 60 || b == 61 || b == 62

-- every other byte belongs to a word
abbrev pub is_word_byte : ℕ → Bool
is_word_byte b = cond (is_space b) false (not (is_mark b))

-- `<` or `>` alone
abbrev pub is_open_sign : ℕ → List ℕ → Bool
is_open_sign b [] = b == 60 || b == 62
is_open_sign b (c ∷ token) = false

-- whether the first byte of a text would belong to the token before it: a byte of a word after a word, and `=` after `<` or `>`
abbrev pub joins : List ℕ → List ℕ → Bool
joins token [] = false
joins [] (b ∷ text) = false
joins (first ∷ token) (b ∷ text) = cond (is_word_byte first) (is_word_byte b) (is_open_sign first token && b == 61)

-- Tokens are laid out in a text. White space may stand before each and at the end. It must stand between two tokens that would
-- otherwise be one.
abbrev pub LaidOut : List Token → List ℕ → Type 0
LaidOut [] text = AllSpace text
LaidOut (token ∷ tokens) text =
    (gap : List ℕ) × (rest : List ℕ) × AllSpace gap × (text ≡ gap ++ token_text token ++ rest)
    × (joins (token_text token) rest ≡ false) × LaidOut tokens rest

-- ---- which texts are criteria

-- a text of at most 4,096 bytes that spells the criteria, which have at most 16 open parentheses
pub record IsCriteria (text : List ℕ) (criteria : Criteria) : Type 0 where
  pub short : length text ≤ 4096
  pub shallow : CriteriaFit 16 criteria
  pub spelled : LaidOut (criteria_tokens criteria) text

-- ---- the place at which another text is refused: by the tokens that may begin criteria

-- tokens begin some criteria
pub record Begins (tokens : List Token) : Type 0 where
  pub criteria : Criteria
  pub rest : List Token
  pub shallow : CriteriaFit 16 criteria
  pub begins : criteria_tokens criteria ≡ tokens ++ rest

-- a token that the end of the text cuts off can stand after others if a whole one can
abbrev pub whole : Token → Token
whole CutSign = Sign Differs
whole CutValue = Value []
whole token = token

-- a token can stand after others
abbrev pub CanStand : List Token → Token → Type 0
CanStand before token = Begins (before ++ whole token ∷ [])

-- each of these can stand after those before it
abbrev pub EachStands : List Token → List Token → Type 0
EachStands before [] = Unit {0}
EachStands before (token ∷ tokens) = CanStand before token × EachStands (before ++ token ∷ []) tokens
