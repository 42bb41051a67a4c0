-- What is found in a text is laid out in it.
use Rattle.std.proofs.Common.{◌≡◌, ◌++◌, ◌+◌, ◌==◌, ◌||◌, ◌&&◌, cond, ℕ, zero, suc, List, [], ◌∷◌, Bool, true, false, length, refl, sym, ap, subst, ◌∙◌}
use Rattle.std.specs.List.{AllByRecursion, flat_map}
use Rattle.std.specs.Str.{bytes_eq}
use Rattle.std.proofs.lemmas.Bool.{eqb-true}
use Rattle.cds_criteria.specs.Criteria.{Token, LaidOut, IsExact, joins, token_text, value_byte, is_space, is_word_byte, is_open_sign}
use Rattle.cds_criteria.specs.Criteria.{Equals, Differs, Below, AtMost, Above, AtLeast}
use Rattle.cds_criteria.specs.Criteria.{Star, Open, Close, AndWord, OrWord, Existence, Truth, Name, Sign, Value, Stray, CutSign, CutValue}
use Rattle.cds_criteria.specs.Tokens.{Found, found, with_byte, with_value_byte, longer, value_found, sign_found, not_found, mark_found, word_prefix, word_found, word_token, words, token_among, token_found, token_then, less_one, tokens_from}
use Rattle.cds_criteria.specs.Laws.{tokens_in}
use Rattle.cds_criteria.proofs.Same.{same_bytes}

pub record Shape (b : ℕ) (text : List ℕ) (f : Found) : Type 0 where
  word : List ℕ
  rest : List ℕ
  same : text ≡ word ++ rest
  spelled : token_text f.token ≡ b ∷ word
  size : f.size ≡ suc (length word)
  apart : joins (token_text f.token) rest ≡ false

-- by the two cases of a test
choose : (P : Found → Type 0) (v : Bool) (x y : Found) → (v ≡ true → P x) → (v ≡ false → P y) → P (cond v x y)
choose P true x y yes_then no_then = yes_then refl
choose P false x y yes_then no_then = no_then refl

pick : (P : Found → Type 0) (v : Bool) (x y : Found) → (v ≡ true → P x) → (v ≡ false → P y) → P (elim v [ true ↦ x | false ↦ y ])
pick P true x y yes_then no_then = yes_then refl
pick P false x y yes_then no_then = no_then refl

-- ---- words

among-by : (v : Bool) (text : List ℕ) (token other : Token) → bytes_eq text (token_text token) ≡ v → IsExact (cond v token other)
    → (IsExact other → token_text other ≡ text) → token_text (cond v token other) ≡ text
among-by true text token other is e go = sym (same_bytes text (token_text token) is)
among-by false text token other is e go = go e

among : (tokens : List Token) (text : List ℕ) → IsExact (token_among tokens text) → token_text (token_among tokens text) ≡ text
among [] text e = absurd e
among (token ∷ tokens) text e = among-by (bytes_eq text (token_text token)) text token (token_among tokens text) refl e (among tokens text)

abbrev NoWord : List ℕ → Type 0
NoWord [] = Unit {0}
NoWord (b ∷ text) = is_word_byte b ≡ false

split-by : (v : Bool) (b : ℕ) (text : List ℕ) → is_word_byte b ≡ v → ((rest : List ℕ) × (text ≡ word_prefix text ++ rest) × NoWord rest)
    → (rest : List ℕ) × (b ∷ text ≡ (elim v [ true ↦ b ∷ word_prefix text | false ↦ [] ]) ++ rest) × NoWord rest
split-by true b text w (rest, same, no_word) = (rest, ap (λ x. b ∷ x) same, no_word)
split-by false b text w go = (b ∷ text, refl, w)

word-split : (text : List ℕ) → (rest : List ℕ) × (text ≡ word_prefix text ++ rest) × NoWord rest
word-split [] = ([], refl, tt)
word-split (b ∷ text) = split-by (is_word_byte b) b text refl (word-split text)

word-apart : (b : ℕ) (word rest : List ℕ) → is_word_byte b ≡ true → NoWord rest → joins (b ∷ word) rest ≡ false
word-apart b word [] w n = refl
word-apart b word (c ∷ rest) w n = ap (λ v. cond v (is_word_byte c) (is_open_sign b word && c == 61)) w ∙ n

word-shape : (b : ℕ) (text : List ℕ) → is_word_byte b ≡ true → IsExact (word_found (b ∷ word_prefix text)).token → Shape b text (word_found (b ∷ word_prefix text))
word-shape b text w e =
    let s : (rest : List ℕ) × (text ≡ word_prefix text ++ rest) × NoWord rest = word-split text in
    let spelled : token_text (word_token (b ∷ word_prefix text)) ≡ b ∷ word_prefix text = among words (b ∷ word_prefix text) e in
    record {
      word = word_prefix text;
      rest = s.0;
      same = s.1;
      spelled = spelled;
      size = refl;
      apart = ap (λ t. joins t s.0) spelled ∙ word-apart b (word_prefix text) s.0 w s.2;
    }

-- ---- values

abbrev body : List ℕ → List ℕ
body value = flat_map value_byte value ++ 34 ∷ []

abbrev IsBody : Bool → List ℕ → Found → Type 0
IsBody false text f = (value : List ℕ) × (rest : List ℕ) × (f ≡ found (Value value) (length (body value))) × (text ≡ body value ++ rest)
IsBody true text f =
    (b : ℕ) × (value : List ℕ) × (rest : List ℕ) × (f ≡ found (Value (b ∷ value)) (suc (length (body value)))) × (text ≡ b ∷ (body value ++ rest))
    × ((b == 34 || b == 92) ≡ true)

exact-inside : (b : ℕ) (token : Token) → IsExact (with_value_byte b token) → IsExact token
exact-inside b (Value value) e = tt
exact-inside b Star e = e
exact-inside b Open e = e
exact-inside b Close e = e
exact-inside b AndWord e = e
exact-inside b OrWord e = e
exact-inside b Existence e = e
exact-inside b (Truth there) e = e
exact-inside b (Name property) e = e
exact-inside b (Sign operator) e = e
exact-inside b Stray e = e
exact-inside b CutSign e = e
exact-inside b CutValue e = e

body-escaped : (b : ℕ) (value : List ℕ) → (b == 34 || b == 92) ≡ true → 92 ∷ b ∷ body value ≡ body (b ∷ value)
body-escaped b value is = ap (λ v. (cond v (92 ∷ b ∷ []) (b ∷ []) ++ flat_map value_byte value) ++ 34 ∷ []) (sym is)

body-plain : (b : ℕ) (value : List ℕ) → (b == 34 || b == 92) ≡ false → b ∷ body value ≡ body (b ∷ value)
body-plain b value is = ap (λ v. (cond v (92 ∷ b ∷ []) (b ∷ []) ++ flat_map value_byte value) ++ 34 ∷ []) (sym is)

escaped-body : (b : ℕ) (text : List ℕ) (f : Found) → b ≡ 92 → IsBody true text f → IsBody false (b ∷ text) (longer f)
escaped-body b text f is (c, value, rest, same, spelled, special) = (
  c ∷ value,
  rest,
  ap longer same ∙ ap (λ t. found (Value (c ∷ value)) (length t)) (body-escaped c value special),
  ap (λ x. x ∷ text) is ∙ (ap (λ t. 92 ∷ t) spelled ∙ ap (λ t. t ++ rest) (body-escaped c value special)),
)

plain-body : (b : ℕ) (text : List ℕ) (f : Found) → (b == 34 || b == 92) ≡ false → IsBody false text f → IsBody false (b ∷ text) (with_byte b f)
plain-body b text f is (value, rest, same, spelled) = (
  b ∷ value,
  rest,
  ap (with_byte b) same ∙ ap (λ t. found (Value (b ∷ value)) (length t)) (body-plain b value is),
  ap (λ t. b ∷ t) spelled ∙ ap (λ t. t ++ rest) (body-plain b value is),
)

behind-body : (b : ℕ) (text : List ℕ) (f : Found) → (b == 34 || b == 92) ≡ true → IsBody false text f → IsBody true (b ∷ text) (with_byte b f)
behind-body b text f is (value, rest, same, spelled) = (b, value, rest, ap (with_byte b) same, ap (λ t. b ∷ t) spelled, is)

value-body : (text : List ℕ) (escaped : Bool) → IsExact (value_found escaped text).token → IsBody escaped text (value_found escaped text)
value-body [] false e = absurd e
value-body [] true e = absurd e
value-body (b ∷ text) false e =
    pick (λ f. IsExact f.token → IsBody false (b ∷ text) f) (b == 34) (found (Value []) 1)
    (elim (b == 92) [ true ↦ longer (value_found true text) | false ↦ with_byte b (value_found false text) ])
    (λ q e. ([], text, refl, ap (λ x. x ∷ text) (eqb-true b 34 q)))
    (λ q. pick (λ f. IsExact f.token → IsBody false (b ∷ text) f) (b == 92) (longer (value_found true text)) (with_byte b (value_found false text))
    (λ s e. escaped-body b text (value_found true text) (eqb-true b 92 s) (value-body text true e))
    (λ s e. plain-body b text (value_found false text) (ap (λ v. v || b == 92) q ∙ s) (value-body text false (exact-inside b (value_found false text).token e))))
    e
value-body (b ∷ text) true e =
    pick (λ f. IsExact f.token → IsBody true (b ∷ text) f) (b == 34 || b == 92) (with_byte b (value_found false text)) (found Stray 0)
    (λ s e. behind-body b text (value_found false text) s (value-body text false (exact-inside b (value_found false text).token e)))
    (λ s e. absurd e)
    e

quote-apart : (body rest : List ℕ) → joins (34 ∷ body) rest ≡ false
quote-apart body [] = refl
quote-apart [] (c ∷ rest) = refl
quote-apart (d ∷ body) (c ∷ rest) = refl

value-shape : (b : ℕ) (text : List ℕ) (f : Found) → b ≡ 34 → IsBody false text f → Shape b text (longer f)
value-shape b text f is (value, rest, same, spelled) = record {
  word = body value;
  rest = rest;
  same = spelled;
  spelled = ap (λ f. token_text f.token) same ∙ ap (λ x. x ∷ body value) (sym is);
  size = ap (λ f. suc f.size) same;
  apart = ap (λ f. joins (token_text f.token) rest) same ∙ quote-apart (body value) rest;
}

-- ---- marks

-- a token of one byte behind which nothing would be of it
one-shape : (b mark : ℕ) (text : List ℕ) (token : Token) → b ≡ mark → token_text token ≡ mark ∷ [] → ((rest : List ℕ) → joins (token_text token) rest ≡ false) → Shape b text (found token 1)
one-shape b mark text token is spelled apart = record {
  word = [];
  rest = text;
  same = refl;
  spelled = spelled ∙ ap (λ x. x ∷ []) (sym is);
  size = refl;
  apart = apart text;
}

-- `<` and `>`, with `=` behind them or without
sign-shape : (b mark : ℕ) (text : List ℕ) (alone equal : Token) → b ≡ mark → token_text alone ≡ mark ∷ [] → token_text equal ≡ mark ∷ 61 ∷ []
    → ((c : ℕ) (rest : List ℕ) → joins (mark ∷ []) (c ∷ rest) ≡ (c == 61)) → ((rest : List ℕ) → joins (mark ∷ 61 ∷ []) rest ≡ false) → Shape b text (sign_found alone equal text)
sign-shape b mark [] alone equal is one two follows ends = record {
  word = [];
  rest = [];
  same = refl;
  spelled = one ∙ ap (λ x. x ∷ []) (sym is);
  size = refl;
  apart = ap (λ t. joins t []) one;
}
sign-shape b mark (c ∷ text) alone equal is one two follows ends =
    choose (λ f. Shape b (c ∷ text) f) (c == 61) (found equal 2) (found alone 1)
    (λ q. record {
      word = 61 ∷ [];
      rest = text;
      same = ap (λ x. x ∷ text) (eqb-true c 61 q);
      spelled = two ∙ ap (λ x. x ∷ 61 ∷ []) (sym is);
      size = refl;
      apart = ap (λ t. joins t text) two ∙ ends text;
    })
    (λ q. record {
      word = [];
      rest = c ∷ text;
      same = refl;
      spelled = one ∙ ap (λ x. x ∷ []) (sym is);
      size = refl;
      apart = ap (λ t. joins t (c ∷ text)) one ∙ (follows c text ∙ q);
    })

not-shape : (b : ℕ) (text : List ℕ) → b ≡ 33 → IsExact (not_found text).token → Shape b text (not_found text)
not-shape b [] is e = absurd e
not-shape b (c ∷ text) is e =
    choose (λ f. IsExact f.token → Shape b (c ∷ text) f) (c == 61) (found (Sign Differs) 2) (found Stray 1)
    (λ q e. record {
      word = 61 ∷ [];
      rest = text;
      same = ap (λ x. x ∷ text) (eqb-true c 61 q);
      spelled = ap (λ x. x ∷ 61 ∷ []) (sym is);
      size = refl;
      apart = two_apart text;
    })
    (λ q e. absurd e)
    e
  where
    two_apart : (rest : List ℕ) → joins (33 ∷ 61 ∷ []) rest ≡ false
    two_apart [] = refl
    two_apart (c ∷ rest) = refl

star_apart : (rest : List ℕ) → joins (42 ∷ []) rest ≡ false
star_apart [] = refl
star_apart (c ∷ rest) = refl

open_apart : (rest : List ℕ) → joins (40 ∷ []) rest ≡ false
open_apart [] = refl
open_apart (c ∷ rest) = refl

close_apart : (rest : List ℕ) → joins (41 ∷ []) rest ≡ false
close_apart [] = refl
close_apart (c ∷ rest) = refl

equal_apart : (rest : List ℕ) → joins (61 ∷ []) rest ≡ false
equal_apart [] = refl
equal_apart (c ∷ rest) = refl

at_most_apart : (rest : List ℕ) → joins (60 ∷ 61 ∷ []) rest ≡ false
at_most_apart [] = refl
at_most_apart (c ∷ rest) = refl

at_least_apart : (rest : List ℕ) → joins (62 ∷ 61 ∷ []) rest ≡ false
at_least_apart [] = refl
at_least_apart (c ∷ rest) = refl

mark-shape : (b : ℕ) (text : List ℕ) → IsExact (mark_found b text).token → Shape b text (mark_found b text)
mark-shape b text e =
    let P : Found → Type 0 = λ f. IsExact f.token → Shape b text f in
    let last : Found = cond (b == 33) (not_found text) (found Stray 1) in
    let greater : Found = cond (b == 62) (sign_found (Sign Above) (Sign AtLeast) text) last in
    let less : Found = cond (b == 60) (sign_found (Sign Below) (Sign AtMost) text) greater in
    let equal : Found = cond (b == 61) (found (Sign Equals) 1) less in
    let star : Found = cond (b == 42) (found Star 1) equal in
    let close : Found = cond (b == 41) (found Close 1) star in
    let opens : Found = cond (b == 40) (found Open 1) close in
    choose P (b == 34) (longer (value_found false text)) opens
    (λ q e. value-shape b text (value_found false text) (eqb-true b 34 q) (value-body text false e))
    (λ q. choose P (b == 40) (found Open 1) close
    (λ q e. one-shape b 40 text Open (eqb-true b 40 q) refl open_apart)
    (λ q. choose P (b == 41) (found Close 1) star
    (λ q e. one-shape b 41 text Close (eqb-true b 41 q) refl close_apart)
    (λ q. choose P (b == 42) (found Star 1) equal
    (λ q e. one-shape b 42 text Star (eqb-true b 42 q) refl star_apart)
    (λ q. choose P (b == 61) (found (Sign Equals) 1) less
    (λ q e. one-shape b 61 text (Sign Equals) (eqb-true b 61 q) refl equal_apart)
    (λ q. choose P (b == 60) (sign_found (Sign Below) (Sign AtMost) text) greater
    (λ q e. sign-shape b 60 text (Sign Below) (Sign AtMost) (eqb-true b 60 q) refl refl (λ c rest. refl) at_most_apart)
    (λ q. choose P (b == 62) (sign_found (Sign Above) (Sign AtLeast) text) last
    (λ q e. sign-shape b 62 text (Sign Above) (Sign AtLeast) (eqb-true b 62 q) refl refl (λ c rest. refl) at_least_apart)
    (λ q. choose P (b == 33) (not_found text) (found Stray 1)
    (λ q e. not-shape b text (eqb-true b 33 q) e)
    (λ q e. absurd e))))))))
    e

shape : (b : ℕ) (text : List ℕ) → IsExact (token_found b text).token → Shape b text (token_found b text)
shape b text e =
    choose (λ f. IsExact f.token → Shape b text f) (is_word_byte b) (word_found (word_prefix (b ∷ text))) (mark_found b text)
    (λ w. let is : word_prefix (b ∷ text) ≡ b ∷ word_prefix text = ap (λ v. elim v [ true ↦ b ∷ word_prefix text | false ↦ [] ]) w in
    subst (λ t. IsExact (word_found t).token → Shape b text (word_found t)) (sym is) (word-shape b text w))
    (λ w. mark-shape b text)
    e

-- ---- texts

abbrev pub without : ℕ → List ℕ → List ℕ
without zero text = text
without (suc n) [] = []
without (suc n) (b ∷ text) = without n text

without-all : (word rest : List ℕ) → without (length word) (word ++ rest) ≡ rest
without-all [] rest = refl
without-all (b ∷ word) rest = without-all word rest

lay-space : (b : ℕ) (tokens : List Token) (text : List ℕ) → is_space b ≡ true → LaidOut tokens text → LaidOut tokens (b ∷ text)
lay-space b [] text s l = (s, l)
lay-space b (token ∷ tokens) text s (gap, rest, space, same, apart, others) = (b ∷ gap, rest, (s, space), ap (λ x. b ∷ x) same, apart, others)

lay-token : (b : ℕ) (text : List ℕ) (f : Found) → Shape b text f → (tokens : List Token) → LaidOut tokens (without (less_one f.size) text) → LaidOut (f.token ∷ tokens) (b ∷ text)
lay-token b text f s tokens l = (
  [],
  s.rest,
  tt,
  ap (λ x. b ∷ x) s.same ∙ ap (λ x. x ++ s.rest) (sym s.spelled),
  s.apart,
  subst (LaidOut tokens) (ap (λ n. without (less_one n) text) s.size ∙ (ap (without (length s.word)) s.same ∙ without-all s.word s.rest)) l,
)

lay-by : (v : Bool) (b at : ℕ) (text : List ℕ) → is_space b ≡ v
    → ((skip : ℕ) → AllByRecursion IsExact (tokens_in (tokens_from skip (at + 1) text)) → LaidOut (tokens_in (tokens_from skip (at + 1) text)) (without skip text))
    → AllByRecursion IsExact (tokens_in (elim v [ true ↦ tokens_from 0 (at + 1) text | false ↦ token_then at (token_found b text) (λ skip. tokens_from skip (at + 1) text) ]))
    → LaidOut (tokens_in (elim v [ true ↦ tokens_from 0 (at + 1) text | false ↦ token_then at (token_found b text) (λ skip. tokens_from skip (at + 1) text) ])) (b ∷ text)
lay-by true b at text s go e = lay-space b (tokens_in (tokens_from 0 (at + 1) text)) text s (go 0 e)
lay-by false b at text s go e =
    lay-token b text (token_found b text) (shape b text e.0) (tokens_in (tokens_from (less_one (token_found b text).size) (at + 1) text)) (go (less_one (token_found b text).size) e.1)

pub found-laid : (text : List ℕ) (skip at : ℕ) → AllByRecursion IsExact (tokens_in (tokens_from skip at text)) → LaidOut (tokens_in (tokens_from skip at text)) (without skip text)
found-laid [] zero at e = tt
found-laid [] (suc skip) at e = tt
found-laid (b ∷ text) (suc skip) at e = found-laid text skip (at + 1) e
found-laid (b ∷ text) zero at e = lay-by (is_space b) b at text refl (λ skip. found-laid text skip (at + 1)) e
