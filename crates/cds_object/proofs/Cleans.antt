-- Texts made clean.
use Rattle.std.proofs.Common.{◌≡◌, ℕ, ◌+◌, ◌-◌, ◌<◌, ◌≤◌, ◌&&◌, Bool, true, false, not, cond, nat_le, List, [], ◌∷◌, ◌++◌, length, drop, map, get_or, refl, sym, ap, subst, ◌∙◌, append_assoc, append-nil, arith, length-append, encode_utf8, IsUtf8}
use Rattle.std.specs.Char.{len_utf8}
use Rattle.std.specs.List.{list_all}
use Rattle.std.specs.Str.{chars, encode_utf8_all}
use Rattle.std.proofs.Math.Utf8.{scalar, scalars}
use Rattle.std.proofs.lemmas.Bool.{cond-true, cond-false, and_from, and_parts}
use Rattle.std.proofs.lemmas.Bool.Decides.{nat_tests}
use Rattle.std.proofs.lemmas.List.{at_drop_more, at_drop_all}
use Rattle.std.proofs.lemmas.Str.{length-encode, len_utf8_bounds, chars_from_encodes}
use Rattle.cds_base.specs.Characters.{is_allowed}
use Rattle.cds_object.specs.Clean.{ends_line, clean_character, fitting, cleaned, is_clean_character, IsClean, IsLongestFront}
use Rattle.cds_object.specs.Laws.{texts_are_cleaned}

-- what fits

fits : (room c : ℕ) (cs : List ℕ) → len_utf8 c ≤ room → fitting room (c ∷ cs) ≡ c ∷ fitting (room - len_utf8 c) cs
fits room c cs h = cond-true (nat_le (len_utf8 c) room) (c ∷ fitting (room - len_utf8 c) cs) [] (grind (arith, nat_tests))

full : (room c : ℕ) (cs : List ℕ) → room < len_utf8 c → fitting room (c ∷ cs) ≡ []
full room c cs h = cond-false (nat_le (len_utf8 c) room) (c ∷ fitting (room - len_utf8 c) cs) [] (grind (arith, nat_tests))

-- what is kept, and what fits behind it
abbrev pub left : List ℕ → List ℕ → List ℕ
left kept cs = kept ++ encode_utf8_all (fitting (255 - length kept) (map clean_character cs))

pub nothing_yet : (kept text : List ℕ) → kept ≡ [] → left kept (chars text) ≡ cleaned text
unfolding cleaned
nothing_yet kept text e = ap (λ k. left k (chars text)) e

pub nothing_left : (kept cs : List ℕ) (n : ℕ) → length cs ≤ n → left kept (drop n cs) ≡ kept
nothing_left kept cs n h = at_drop_all (left kept) cs n h ∙ append-nil kept

longer : (kept one : List ℕ) (more : List ℕ) (room : ℕ) → length (kept ++ one) + room ≡ length kept + (length one + room)
longer kept one more room = omega (arith, length-append kept one)

pub one_more : (kept more cs : List ℕ) (n c : ℕ) → (n < length cs) × (c ≡ get_or cs n c) → length kept + len_utf8 (clean_character c) ≤ 255
    → more ≡ kept ++ encode_utf8 (clean_character c) → left more (drop (n + 1) cs) ≡ left kept (drop n cs)
one_more kept more cs n c at short e =
    let d = clean_character c in
    let rest = map clean_character (drop (n + 1) cs) in
    let room : 255 - length kept - len_utf8 d ≡ 255 - length more = omega (arith, ap length e, length-append kept (encode_utf8 d), length-encode d) in
    let here : left kept (drop n cs) ≡ left kept (c ∷ drop (n + 1) cs) = at_drop_more (left kept) cs n c at.0 ∙ ap (λ x. left kept (x ∷ drop (n + 1) cs)) (sym at.1) in
    let fit : left kept (c ∷ drop (n + 1) cs) ≡ kept ++ (encode_utf8 d ++ encode_utf8_all (fitting (255 - length kept - len_utf8 d) rest)) =
    ap (λ l. kept ++ encode_utf8_all l) (fits (255 - length kept) d rest (omega arith)) in
    sym (here ∙ fit ∙ ap (λ r. kept ++ (encode_utf8 d ++ encode_utf8_all (fitting r rest))) room
    ∙ sym (append_assoc kept (encode_utf8 d) (encode_utf8_all (fitting (255 - length more) rest)))
    ∙ ap (λ k. k ++ encode_utf8_all (fitting (255 - length more) rest)) (sym e))

pub no_more : (kept cs : List ℕ) (n c : ℕ) → (n < length cs) × (c ≡ get_or cs n c) → 255 < length kept + len_utf8 (clean_character c) → left kept (drop n cs) ≡ kept
no_more kept cs n c at long =
    let rest = map clean_character (drop (n + 1) cs) in
    at_drop_more (left kept) cs n c at.0 ∙ ap (λ x. left kept (x ∷ drop (n + 1) cs)) (sym at.1)
    ∙ ap (λ l. kept ++ encode_utf8_all l) (full (255 - length kept) (clean_character c) rest (omega (arith, len_utf8_bounds (clean_character c)))) ∙ append-nil kept

-- the front that fits

-- characters are a front that takes at most so many bytes, and others of which none does
abbrev IsFront : ℕ → List ℕ → List ℕ → List ℕ → Type 0
IsFront room cs front rest =
    (cs ≡ front ++ rest) × (length (encode_utf8_all front) ≤ room)
    × ((c : ℕ) (more : List ℕ) → rest ≡ c ∷ more → room < length (encode_utf8_all (front ++ c ∷ [])))

head_of : (c d : ℕ) (cs ds : List ℕ) → c ∷ cs ≡ d ∷ ds → c ≡ d
head_of c d cs ds e = cc

front_fits : (room : ℕ) (cs : List ℕ) → (rest : List ℕ) × IsFront room cs (fitting room cs) rest
front_fits room [] = ([], (refl, omega arith, λ c more e. absurd (cc)))
front_fits room (c ∷ cs) = by (nat_le (len_utf8 c) room) refl (front_fits (room - len_utf8 c) cs) where
  by : (b : Bool) → nat_le (len_utf8 c) room ≡ b → (under : (rest : List ℕ) × IsFront (room - len_utf8 c) cs (fitting (room - len_utf8 c) cs) rest) → (rest : List ℕ) × IsFront room (c ∷ cs) (cond b (c ∷ fitting (room - len_utf8 c) cs) []) rest
  by true is under =
      let fit : len_utf8 c ≤ room = grind (arith, nat_tests) in
      let wide = length-encode c in
      let front = fitting (room - len_utf8 c) cs in (
        under.0,
        (
          ap (λ l. c ∷ l) under.1.0,
          omega (arith, under.1.1, length-append (encode_utf8 c) (encode_utf8_all front)),
          λ d more e. omega (arith, under.1.2 d more e, length-append (encode_utf8 c) (encode_utf8_all (front ++ d ∷ []))),
        ),
      )
  by false is under =
      let long : room < len_utf8 c = grind (arith, nat_tests) in
      (c ∷ cs, (refl, omega arith, λ d more e. subst (λ x. room < length (encode_utf8 x ++ [])) (head_of c d cs more e) (omega (arith, length-encode c, length-append (encode_utf8 c) []))))

-- all that fits stays
all_fit : (room : ℕ) (cs : List ℕ) → length (encode_utf8_all cs) ≤ room → fitting room cs ≡ cs
all_fit room [] h = refl
all_fit room (c ∷ cs) h =
    let wide = length-encode c in
    let both = length-append (encode_utf8 c) (encode_utf8_all cs) in
    fits room c cs (omega arith) ∙ ap (λ l. c ∷ l) (all_fit (room - len_utf8 c) cs (omega arith))

-- clean characters

one_clean : (c : ℕ) → is_clean_character (clean_character c) ≡ true
one_clean c = by (ends_line c) (is_allowed c) refl refl where
  by : (a b : Bool) → ends_line c ≡ a → is_allowed c ≡ b → is_clean_character (cond a 32 (cond b c 65533)) ≡ true
  by true b e f = refl
  by false true e f = and_from (is_allowed c) (not (ends_line c)) f (ap not e)
  by false false e f = refl

kept_as_it_is : (c : ℕ) → is_clean_character c ≡ true → clean_character c ≡ c
kept_as_it_is c h = by (ends_line c) (is_allowed c) h where
  by : (a b : Bool) → (b && not a) ≡ true → cond a 32 (cond b c 65533) ≡ c
  by true true h = absurd (cc)
  by true false h = absurd (cc)
  by false true h = refl
  by false false h = absurd (cc)

all_clean : (cs : List ℕ) → list_all is_clean_character (map clean_character cs) ≡ true
all_clean [] = refl
all_clean (c ∷ cs) = and_from (is_clean_character (clean_character c)) (list_all is_clean_character (map clean_character cs)) (one_clean c) (all_clean cs)

all_kept : (cs : List ℕ) → list_all is_clean_character cs ≡ true → map clean_character cs ≡ cs
all_kept [] h = refl
all_kept (c ∷ cs) h =
    let both = and_parts (is_clean_character c) (list_all is_clean_character cs) h in
    ap (λ x. x ∷ map clean_character cs) (kept_as_it_is c both.0) ∙ ap (λ l. c ∷ l) (all_kept cs both.1)

fitting_clean : (room : ℕ) (cs : List ℕ) → list_all is_clean_character cs ≡ true → list_all is_clean_character (fitting room cs) ≡ true
fitting_clean room [] h = refl
fitting_clean room (c ∷ cs) h =
    let both = and_parts (is_clean_character c) (list_all is_clean_character cs) h in
    by (nat_le (len_utf8 c) room) both.0 (fitting_clean (room - len_utf8 c) cs both.1) where
      by : (b : Bool) → is_clean_character c ≡ true → list_all is_clean_character (fitting (room - len_utf8 c) cs) ≡ true
          → list_all is_clean_character (cond b (c ∷ fitting (room - len_utf8 c) cs) []) ≡ true
      by true one more = and_from (is_clean_character c) (list_all is_clean_character (fitting (room - len_utf8 c) cs)) one more
      by false one more = refl

allowed_scalar : (c : ℕ) → is_allowed c ≡ true → scalar c ≡ true
allowed_scalar c h = grind (arith, nat_tests)

clean_scalars : (cs : List ℕ) → list_all is_clean_character cs ≡ true → scalars cs ≡ true
clean_scalars [] h = refl
clean_scalars (c ∷ cs) h =
    let both = and_parts (is_clean_character c) (list_all is_clean_character cs) h in
    let allowed = and_parts (is_allowed c) (not (ends_line c)) both.0 in
    and_from (scalar c) (scalars cs) (allowed_scalar c allowed.0) (clean_scalars cs both.1)

-- the laws

pub left_is_clean : (text : List ℕ) → IsClean (cleaned text)
unfolding cleaned
left_is_clean text =
    let cs = map clean_character (chars text) in
    record { characters = fitting 255 cs; each = fitting_clean 255 cs (all_clean (chars text)); are = refl; short = (front_fits 255 cs).1.1 }

pub longest_is_left : (text : List ℕ) → IsLongestFront (map clean_character (chars text)) (cleaned text)
unfolding cleaned
longest_is_left text =
    let cs = map clean_character (chars text) in
    let front = front_fits 255 cs in
    record { front = fitting 255 cs; rest = front.0; split = front.1.0; are = refl; short = front.1.1; longest = front.1.2 }

pub clean_stays : (text : List ℕ) → IsClean text → cleaned text ≡ text
unfolding cleaned
clean_stays text is =
    let cs = is.characters in
    let whole : IsUtf8 text = (cs, (clean_scalars cs is.each, is.are)) in
    let these : chars text ≡ cs = sym (chars_from_encodes cs text whole is.are) in
    ap (λ l. encode_utf8_all (fitting 255 (map clean_character l))) these
    ∙ ap (λ l. encode_utf8_all (fitting 255 l)) (all_kept cs is.each)
    ∙ ap encode_utf8_all (all_fit 255 cs (omega (arith, ap length is.are, is.short)))
    ∙ is.are

pub cleaning : texts_are_cleaned
cleaning = (left_is_clean, longest_is_left, clean_stays)
