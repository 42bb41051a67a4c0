-- Words and values of a text, byte by byte.
use Rattle.std.proofs.Common.{◌≡◌, ◌++◌, ◌+◌, cond, ℕ, suc, List, [], ◌∷◌, take, drop, Bool, true, false, refl, ap, ◌∙◌, arith}
use Rattle.std.specs.List.{prefix_len}
use Rattle.cds_criteria.specs.Criteria.{Token, is_word_byte}
use Rattle.cds_criteria.specs.Criteria.{Value}
use Rattle.cds_criteria.specs.Tokens.{Found, found, value_found, word_prefix}

-- ---- words

word-by : (v : Bool) (b : ℕ) (text : List ℕ) → word_prefix text ≡ take (prefix_len is_word_byte text) text
    → (elim v [ true ↦ b ∷ word_prefix text | false ↦ [] ]) ≡ take (cond v (1 + prefix_len is_word_byte text) 0) (b ∷ text)
word-by true b text go =
    let one : suc (prefix_len is_word_byte text) ≡ 1 + prefix_len is_word_byte text = omega arith in
    ap (λ t. b ∷ t) go ∙ ap (λ n. take n (b ∷ text)) one
word-by false b text go = refl

pub word_taken : (text : List ℕ) → word_prefix text ≡ take (prefix_len is_word_byte text) text
word_taken [] = refl
word_taken (b ∷ text) = word-by (is_word_byte b) b text (word_taken text)

-- ---- values

-- a token after the bytes of a value that stand before its own
abbrev pub with_front : List ℕ → Token → Token
with_front front (Value value) = Value (front ++ value)
with_front front token = token

abbrev pub after_front : List ℕ → ℕ → Found → Found
after_front front n f = found (with_front front f.token) (n + f.size)

-- what is left of a value after some of its bytes
abbrev pub value_left : List ℕ → Bool → ℕ → List ℕ → Found
value_left front escaped n text = after_front front n (value_found escaped (drop n text))
