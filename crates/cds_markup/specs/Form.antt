-- Forms: which bytes say which value. The rows of the grammar of documents are put together from these.
use Rattle.std.specs.Prelude.{◌≡◌, ℕ, Bool, true, Option, Some, None, List, [], ◌∷◌, ◌++◌, encode_utf8}
use Rattle.cds_base.specs.Characters.{is_allowed}

-- These bytes.
abbrev pub Word : List ℕ → List ℕ → Unit {0} → Type 0
Word word bytes said = bytes ≡ word

-- One byte that passes a test.
abbrev pub Byte : (ℕ → Bool) → List ℕ → ℕ → Type 0
Byte test bytes b = (bytes ≡ b ∷ []) × (test b ≡ true)

-- One allowed character that passes a test, in UTF-8. It says its code point.
pub record Character (test : ℕ → Bool) (bytes : List ℕ) (c : ℕ) : Type 0 where
  pub spelled : bytes ≡ encode_utf8 c
  pub allowed : is_allowed c ≡ true
  pub passes : test c ≡ true

-- One form and after it another, which may depend on what the first says. They say what the second says.
pub record Then {A B : Type 0} (G : List ℕ → A → Type 0) (H : A → List ℕ → B → Type 0) (bytes : List ℕ) (said : B) : Type 0 where
  pub front : List ℕ
  pub back : List ℕ
  pub what : A
  pub spelled : bytes ≡ front ++ back
  pub first : G front what
  pub second : H what back said

-- No bytes, which say this.
abbrev pub Says : {A : Type 0} → A → List ℕ → A → Type 0
Says value bytes said = (bytes ≡ []) × (said ≡ value)

-- Any number of one form, one after another.
abbrev pub Many : {A : Type 0} → (List ℕ → A → Type 0) → List ℕ → List A → Type 0
Many G bytes [] = bytes ≡ []
Many G bytes (said ∷ more) = (front : List ℕ) × (back : List ℕ) × (bytes ≡ front ++ back) × G front said × Many G back more

-- The form, or nothing.
abbrev pub Maybe : {A : Type 0} → (List ℕ → A → Type 0) → List ℕ → Option A → Type 0
Maybe G bytes None = bytes ≡ []
Maybe G bytes (Some said) = G bytes said

-- The form, which says its bytes.
abbrev pub Raw : {A : Type 0} → (List ℕ → A → Type 0) → List ℕ → List ℕ → Type 0
Raw {A} G bytes text = (text ≡ bytes) × (what : A) × G bytes what
