-- What is laid out in a text is found in it.
use Rattle.std.proofs.Common.{◌≡◌, ◌++◌, ◌+◌, ◌==◌, ◌||◌, ◌&&◌, cond, ℕ, suc, List, [], ◌∷◌, Bool, true, false, length, codes, refl, sym, ap, ◌∙◌, append_assoc}
use Rattle.std.specs.List.{AllByRecursion, flat_map}
use Rattle.cds_criteria.specs.Criteria.{Token, Property, Operator, LaidOut, IsExact, joins, token_text, value_byte, is_space, is_word_byte, is_open_sign, AllSpace}
use Rattle.cds_criteria.specs.Criteria.{Id, ParentId, Title, Class, Artist, Album, Genre, TrackNumber, ObjectUpdate, ContainerUpdate, Size, Duration}
use Rattle.cds_criteria.specs.Criteria.{Equals, Differs, Below, AtMost, Above, AtLeast, Contains, DoesNotContain, DerivedFrom}
use Rattle.cds_criteria.specs.Criteria.{Star, Open, Close, AndWord, OrWord, Existence, Truth, Name, Sign, Value, Stray, CutSign, CutValue}
use Rattle.cds_criteria.specs.Tokens.{found, with_byte, longer, value_found, sign_found, word_prefix, word_found, token_found, token_then, tokens_from}
use Rattle.cds_criteria.specs.Laws.{tokens_in}

abbrev pub Finds : Token → List ℕ → List ℕ → Type 0
Finds token [] rest = ⊥
Finds token (b ∷ text) rest = (is_space b ≡ false) × (token_found b (text ++ rest) ≡ found token (suc (length text)))

-- a word ends where no byte of one follows
word_end : (first : ℕ) (token rest : List ℕ) → is_word_byte first ≡ true → joins (first ∷ token) rest ≡ false → word_prefix rest ≡ []
word_end first token [] w j = refl
word_end first token (b ∷ rest) w j =
    ap (λ c. elim c [ true ↦ b ∷ word_prefix rest | false ↦ [] ])
    (ap (λ c. cond c (is_word_byte b) (is_open_sign first token && b == 61)) (sym w) ∙ j)

value-by : (b : ℕ) (value rest : List ℕ) (quote slash : Bool) → (b == 34) ≡ quote → (b == 92) ≡ slash
    → value_found false ((flat_map value_byte value ++ 34 ∷ []) ++ rest) ≡ found (Value value) (length (flat_map value_byte value ++ 34 ∷ []))
    → value_found false (((cond (quote || slash) (92 ∷ b ∷ []) (b ∷ []) ++ flat_map value_byte value) ++ 34 ∷ []) ++ rest)
    ≡ found (Value (b ∷ value)) (length ((cond (quote || slash) (92 ∷ b ∷ []) (b ∷ []) ++ flat_map value_byte value) ++ 34 ∷ []))
value-by b value rest true slash q s ih =
    ap (λ c. longer (elim c [ true ↦ with_byte b (value_found false ((flat_map value_byte value ++ 34 ∷ []) ++ rest)) | false ↦ found Stray 0 ])) (ap (λ c. c || b == 92) q)
    ∙ ap (λ f. longer (with_byte b f)) ih
value-by b value rest false true q s ih =
    ap (λ c. longer (elim c [ true ↦ with_byte b (value_found false ((flat_map value_byte value ++ 34 ∷ []) ++ rest)) | false ↦ found Stray 0 ])) (ap (λ c. c || b == 92) q ∙ s)
    ∙ ap (λ f. longer (with_byte b f)) ih
value-by b value rest false false q s ih =
    ap (λ c. elim c [
      | true ↦ found (Value []) 1
      | false ↦ elim (b == 92) [ true ↦ longer (value_found true ((flat_map value_byte value ++ 34 ∷ []) ++ rest)) | false ↦ with_byte b (value_found false ((flat_map value_byte value ++ 34 ∷ []) ++ rest)) ]
    ]) q
    ∙ (ap (λ c. elim c [ true ↦ longer (value_found true ((flat_map value_byte value ++ 34 ∷ []) ++ rest)) | false ↦ with_byte b (value_found false ((flat_map value_byte value ++ 34 ∷ []) ++ rest)) ]) s
    ∙ ap (λ f. with_byte b f) ih)

value-finds : (value rest : List ℕ) → value_found false ((flat_map value_byte value ++ 34 ∷ []) ++ rest) ≡ found (Value value) (length (flat_map value_byte value ++ 34 ∷ []))
value-finds [] rest = refl
value-finds (b ∷ value) rest = value-by b value rest (b == 34) (b == 92) refl refl (value-finds value rest)

name_finds : (property : Property) (rest : List ℕ) → joins (token_text (Name property)) rest ≡ false → Finds (Name property) (token_text (Name property)) rest
name_finds Id rest j = (refl, ap (λ x. word_found (codes "@id" ++ x)) (word_end 64 (codes "id") rest refl j))
name_finds ParentId rest j = (refl, ap (λ x. word_found (codes "@parentID" ++ x)) (word_end 64 (codes "parentID") rest refl j))
name_finds Title rest j = (refl, ap (λ x. word_found (codes "dc:title" ++ x)) (word_end 100 (codes "c:title") rest refl j))
name_finds Class rest j = (refl, ap (λ x. word_found (codes "upnp:class" ++ x)) (word_end 117 (codes "pnp:class") rest refl j))
name_finds Artist rest j = (refl, ap (λ x. word_found (codes "upnp:artist" ++ x)) (word_end 117 (codes "pnp:artist") rest refl j))
name_finds Album rest j = (refl, ap (λ x. word_found (codes "upnp:album" ++ x)) (word_end 117 (codes "pnp:album") rest refl j))
name_finds Genre rest j = (refl, ap (λ x. word_found (codes "upnp:genre" ++ x)) (word_end 117 (codes "pnp:genre") rest refl j))
name_finds TrackNumber rest j = (refl, ap (λ x. word_found (codes "upnp:originalTrackNumber" ++ x)) (word_end 117 (codes "pnp:originalTrackNumber") rest refl j))
name_finds ObjectUpdate rest j = (refl, ap (λ x. word_found (codes "upnp:objectUpdateID" ++ x)) (word_end 117 (codes "pnp:objectUpdateID") rest refl j))
name_finds ContainerUpdate rest j = (refl, ap (λ x. word_found (codes "upnp:containerUpdateID" ++ x)) (word_end 117 (codes "pnp:containerUpdateID") rest refl j))
name_finds Size rest j = (refl, ap (λ x. word_found (codes "res@size" ++ x)) (word_end 114 (codes "es@size") rest refl j))
name_finds Duration rest j = (refl, ap (λ x. word_found (codes "res@duration" ++ x)) (word_end 114 (codes "es@duration") rest refl j))

less_finds : (alone equal : Token) (rest : List ℕ) → joins (60 ∷ []) rest ≡ false → sign_found alone equal rest ≡ found alone 1
less_finds alone equal [] j = refl
less_finds alone equal (b ∷ rest) j = ap (λ c. cond c (found equal 2) (found alone 1)) j

greater_finds : (alone equal : Token) (rest : List ℕ) → joins (62 ∷ []) rest ≡ false → sign_found alone equal rest ≡ found alone 1
greater_finds alone equal [] j = refl
greater_finds alone equal (b ∷ rest) j = ap (λ c. cond c (found equal 2) (found alone 1)) j

sign_finds : (operator : Operator) (rest : List ℕ) → joins (token_text (Sign operator)) rest ≡ false → Finds (Sign operator) (token_text (Sign operator)) rest
sign_finds Equals rest j = (refl, refl)
sign_finds Differs rest j = (refl, refl)
sign_finds Below rest j = (refl, less_finds (Sign Below) (Sign AtMost) rest j)
sign_finds AtMost rest j = (refl, refl)
sign_finds Above rest j = (refl, greater_finds (Sign Above) (Sign AtLeast) rest j)
sign_finds AtLeast rest j = (refl, refl)
sign_finds Contains rest j = (refl, ap (λ x. word_found (codes "contains" ++ x)) (word_end 99 (codes "ontains") rest refl j))
sign_finds DoesNotContain rest j = (refl, ap (λ x. word_found (codes "doesNotContain" ++ x)) (word_end 100 (codes "oesNotContain") rest refl j))
sign_finds DerivedFrom rest j = (refl, ap (λ x. word_found (codes "derivedfrom" ++ x)) (word_end 100 (codes "erivedfrom") rest refl j))

pub finds : (token : Token) → IsExact token → (rest : List ℕ) → joins (token_text token) rest ≡ false → Finds token (token_text token) rest
finds Star e rest j = (refl, refl)
finds Open e rest j = (refl, refl)
finds Close e rest j = (refl, refl)
finds AndWord e rest j = (refl, ap (λ x. word_found (codes "and" ++ x)) (word_end 97 (codes "nd") rest refl j))
finds OrWord e rest j = (refl, ap (λ x. word_found (codes "or" ++ x)) (word_end 111 (codes "r") rest refl j))
finds Existence e rest j = (refl, ap (λ x. word_found (codes "exists" ++ x)) (word_end 101 (codes "xists") rest refl j))
finds (Truth true) e rest j = (refl, ap (λ x. word_found (codes "true" ++ x)) (word_end 116 (codes "rue") rest refl j))
finds (Truth false) e rest j = (refl, ap (λ x. word_found (codes "false" ++ x)) (word_end 102 (codes "alse") rest refl j))
finds (Name property) e rest j = name_finds property rest j
finds (Sign operator) e rest j = sign_finds operator rest j
finds (Value value) e rest j = (refl, ap longer (value-finds value rest))
finds Stray e rest j = absurd e
finds CutSign e rest j = absurd e
finds CutValue e rest j = absurd e

-- so many bytes of a text passed over
pass : (text rest : List ℕ) (at : ℕ) → (to : ℕ) × tokens_from (length text) at (text ++ rest) ≡ tokens_from 0 to rest
pass [] rest at = (at, refl)
pass (b ∷ text) rest at = pass text rest (at + 1)

spaces : (gap : List ℕ) (at : ℕ) → AllSpace gap → tokens_from 0 at gap ≡ []
spaces [] at e = refl
spaces (b ∷ gap) at e =
    ap (λ c. elim c [ true ↦ tokens_from 0 (at + 1) gap | false ↦ token_then at (token_found b gap) (λ skip. tokens_from skip (at + 1) gap) ]) e.0
    ∙ spaces gap (at + 1) e.1

gap_over : (gap rest : List ℕ) (at : ℕ) → AllSpace gap → (to : ℕ) × tokens_from 0 at (gap ++ rest) ≡ tokens_from 0 to rest
gap_over [] rest at e = (at, refl)
gap_over (b ∷ gap) rest at e =
    let g : (to : ℕ) × tokens_from 0 (at + 1) (gap ++ rest) ≡ tokens_from 0 to rest = gap_over gap rest (at + 1) e.1 in
    (g.0, ap (λ c. elim c [ true ↦ tokens_from 0 (at + 1) (gap ++ rest) | false ↦ token_then at (token_found b (gap ++ rest)) (λ skip. tokens_from skip (at + 1) (gap ++ rest)) ]) e.0 ∙ g.1)

token_next : (token : Token) (text rest : List ℕ) (at : ℕ) → Finds token text rest
    → (to : ℕ) × tokens_in (tokens_from 0 at (text ++ rest)) ≡ token ∷ tokens_in (tokens_from 0 to rest)
token_next token [] rest at f = absurd f
token_next token (b ∷ text) rest at f =
    let g : (to : ℕ) × tokens_from (length text) (at + 1) (text ++ rest) ≡ tokens_from 0 to rest = pass text rest (at + 1) in (
      g.0,
      ap tokens_in
          (ap (λ c. elim c [ true ↦ tokens_from 0 (at + 1) (text ++ rest) | false ↦ token_then at (token_found b (text ++ rest)) (λ skip. tokens_from skip (at + 1) (text ++ rest)) ]) f.0
          ∙ ap (λ f. token_then at f (λ skip. tokens_from skip (at + 1) (text ++ rest))) f.1)
          ∙ ap (λ others. token ∷ tokens_in others) g.1,
    )

pub laid-found : (tokens : List Token) (text : List ℕ) (at : ℕ) → AllByRecursion IsExact tokens → LaidOut tokens text → tokens_in (tokens_from 0 at text) ≡ tokens
laid-found [] text at e l = ap tokens_in (spaces text at l)
laid-found (token ∷ tokens) text at e (gap, rest, space, is, apart, others) =
    let g : (to : ℕ) × tokens_from 0 at (gap ++ (token_text token ++ rest)) ≡ tokens_from 0 to (token_text token ++ rest) = gap_over gap (token_text token ++ rest) at space in
    let n : (to : ℕ) × tokens_in (tokens_from 0 g.0 (token_text token ++ rest)) ≡ token ∷ tokens_in (tokens_from 0 to rest) = token_next token (token_text token) rest g.0 (finds token e.0 rest apart) in
    ap (λ t. tokens_in (tokens_from 0 at t)) (is ∙ append_assoc gap (token_text token) rest)
    ∙ (ap tokens_in g.1 ∙ (n.1 ∙ ap (λ t. token ∷ t) (laid-found tokens rest n.0 e.1 others)))
