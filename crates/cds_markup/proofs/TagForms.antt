-- References, values, names, attributes and start tags are what the grammar says.
use Rattle.std.proofs.Common.{◌≡◌, ◌⊎◌, [], arith, cond, if◌then◌else◌, ◌==◌, ◌+◌, ◌*◌, ◌<◌, ◌≤◌, ◌&&◌, ◌∷◌, ◌++◌, ◌∙◌, ◌^◌, Bool, List, None, Option, Some, ap, append_assoc, codes, encode_utf8, false, inl, inr, length, nat_le, nat_lt, refl, subst, suc, sym, true, ℕ}
use Rattle.cds_markup.proofs.Terms.{Ampersand, AttrName, AttrNamed, Attribute, AttributeState, Byte, Character, Done, Entity, EntityA, Equals, IsBlanks, IsInside, IsName, IsQName, IsReference, IsSpace, IsTag, IsTagAttr, IsValue, IsValuePiece, Literal, Many, Maybe, Name, NameState, Next, Number, On, Opened, QName, ReferenceState, Says, Sharp, Spaced, Stuck, Tag, TagAttr, Tagged, StartTagState, Then, Value, ValuePiece, ValueState, Word, and_behind, attr_of, base_of, begins_name, bytes_eq-Decides, code_of, ends_tag, goes_on, is_allowed, is_blank, is_colon, is_in_name, is_in_value, is_number_in, is_quote, is_return, is_whole, name_begun, name_of, named_or, named_step, nat_tests, number_after_sign, number_in, numbered, piece_says, qualified, quote_of, says_behind, step_attr, step_reference, step_tag, step_value, tag_named, tagged_step, value_in, value_says, value_state, where_allowed, with_attr, with_digit, with_line_ends, named, name_state, append-nil, is_digit, digit_value, list_all, flat_map, Referred-piece as Referred, IsEquals, bytes_eq}
use Rattle.cds_markup.proofs.Ways.{taken-if, Takes, and-both, and-first, and-second, cases, clash, either-if, is-byte, only-if, some-is, heads, ascii-bytes, ascii-plain, is_ascii, plain-bytes, then-of, Form, Alike, Or, same, also, or-turned, or-alike, or-assoc, maybe-or, then-alike, assoc, says-alike, none-alike, then-or, blanks-or, Reads, reads-as, reads-if, reads-byte, reads-letter, reads-or, added, reads-many, reads-blanks, reads-space, reads-equals, reads-in, reads-state}
use Rattle.cds_markup.proofs.Decoded.{allowed-at-most, encoded}
use Rattle.std.proofs.Math.Nat.{pow-suc, pow-zero}
use Rattle.std.specs.Option.{option_and_then}

-- which bytes are which
pub end-plain : (b : ℕ) → ends_tag b ≡ true → (b < 128) × (is_allowed b ≡ true)
end-plain b e = (grind (arith, nat_tests), grind (arith, nat_tests))

pub quote-small : (b : ℕ) → is_quote b ≡ true → (b < 128) × (is_allowed b ≡ true)
quote-small b e = (grind (arith, nat_tests), grind (arith, nat_tests))

pub same-small : (quote b : ℕ) → is_quote quote ≡ true → (b == quote) ≡ true → (b < 128) × (is_allowed b ≡ true)
same-small quote b e d = (grind (arith, nat_tests), grind (arith, nat_tests))

-- References.

-- the number that digits behind a value make of it
abbrev add_digit : ℕ → ℕ → ℕ → ℕ
add_digit base value digit = value * base + digit_value digit

abbrev grown : ℕ → ℕ → List ℕ → ℕ
grown base value [] = value
grown base value (d ∷ ds) = grown base (add_digit base value d) ds

named-was : (o : Option ℕ) (c : ℕ) → option_and_then where_allowed o ≡ Some c → (o ≡ Some c) × (is_allowed c ≡ true)
named-was None c e = absurd (cc)
named-was (Some d) c e = let t = taken-if (is_allowed d) (Some d) c e in (t.1, ap is_allowed (sym (some-is t.1)) ∙ t.0)

numbered-was : (name : List ℕ) (c : ℕ) → numbered name ≡ Some c → (rest : List ℕ) × (name ≡ 35 ∷ rest) × (number_after_sign rest ≡ Some c)
numbered-was [] c e = absurd (cc)
numbered-was (first ∷ rest) c e = let t = taken-if (first == 35) (number_after_sign rest) c e in (rest, ap (λ x. x ∷ rest) (is-byte first 35 t.0), t.1)

-- the digits from nothing are a number
grown-in : (base value : ℕ) (ds : List ℕ) → grown base value ds ≡ value * base ^ length ds + value_in base ds
grown-in base value [] =
    omega (arith, ap (λ q. value * q) (pow-zero base))
grown-in base value (d ∷ ds) =
    let more = grown-in base (add_digit base value d) ds in
    let p : ℕ = base ^ length ds in
    let next : base ^ suc (length ds) ≡ base * p = pow-suc base (length ds) ∙ omega arith in
    let sum : (value * base + digit_value d) * p + value_in base ds ≡ value * (base * p) + (digit_value d * p + value_in base ds) = omega arith in
    more ∙ sum ∙ ap (λ q. value * q + (digit_value d * p + value_in base ds)) (sym next)

grown-value : (base : ℕ) (ds : List ℕ) → grown base 0 ds ≡ value_in base ds
grown-value base ds = let e = grown-in base 0 ds in omega (arith, e)

-- digits are a number where there is one at least
number-says : (base c : ℕ) (ds : List ℕ) → list_all (λ b. is_digit b base) ds ≡ true → c ≡ grown base 0 ds → is_allowed c ≡ true → number_in base ds ≡ Some c
number-says base c [] all says ok = clash ok (ap is_allowed says)
number-says base c (d ∷ ds) all says ok = ap (λ t. cond t (Some (value_in base (d ∷ ds))) None) all ∙ ap Some (sym (says ∙ grown-value base (d ∷ ds)))

number-was : (base c : ℕ) (ds : List ℕ) → number_in base ds ≡ Some c → (list_all (λ b. is_digit b base) ds ≡ true) × (c ≡ grown base 0 ds)
number-was base c ds e = let t = taken-if (is_number_in base ds) (Some (value_in base ds)) c e in (all ds t.0, sym (some-is t.1) ∙ sym (grown-value base ds)) where
  all : (ds : List ℕ) → is_number_in base ds ≡ true → list_all (λ b. is_digit b base) ds ≡ true
  all [] e = refl
  all (d ∷ ds) e = e

sign-says : (c : ℕ) (ds : List ℕ) → list_all (λ b. is_digit b 10) ds ≡ true → c ≡ grown 10 0 ds → is_allowed c ≡ true → number_after_sign ds ≡ Some c
sign-says c [] all says ok = clash ok (ap is_allowed says)
sign-says c (d ∷ ds) all says ok =
    let digit = and-first (is_digit d 10) (list_all (λ b. is_digit b 10) ds) all in
    let none : (d == 120) ≡ false = grind (arith, nat_tests) in
    ap (λ t. cond t (number_in 16 ds) (number_in 10 (d ∷ ds))) none ∙ number-says 10 c (d ∷ ds) all says ok

abbrev is_digit_in : Bool → ℕ → Bool
is_digit_in h b = is_digit b (base_of h)

abbrev R : ReferenceState → ℕ → Next ReferenceState ℕ
R = step_reference

-- an entity's name
entity-takes : (left : List ℕ) (code : ℕ) (w : List ℕ) (c : ℕ) → Takes R (Entity left code) w c → (w ≡ left) × (c ≡ code)
entity-takes (b ∷ []) code (x ∷ w) c t = let h = only-if (x == b) _ _ _ t in (ap (λ y. y ∷ w) (is-byte x b h.0) ∙ ap (λ ys. b ∷ ys) h.1.1, sym h.1.0)
entity-takes (b ∷ d ∷ left) code (x ∷ w) c t =
    let h = only-if (x == b) _ _ _ t in
    let r = entity-takes (d ∷ left) code w c h.1 in
    (ap (λ y. y ∷ w) (is-byte x b h.0) ∙ ap (λ ys. b ∷ ys) r.0, r.1)
entity-takes [] code (x ∷ w) c t = absurd t
entity-takes left code [] c t = absurd t

-- digits behind a value, and the `;`, where the whole is an allowed character
number-takes : (w : List ℕ) (h : Bool) (value c : ℕ) → Takes R (Number h value) w c → (digits : List ℕ) × (w ≡ digits ++ 59 ∷ []) × (list_all (is_digit_in h) digits ≡ true) × (c ≡ grown (base_of h) value digits) × (is_allowed c ≡ true)
number-takes [] h value c t = absurd t
number-takes (x ∷ w) h value c t = elim (either-if (is_digit_in h x) _ _ _ _ t) [
  | inl a ↦ let r = number-takes w h (with_digit h value x) c (only-if (nat_le (with_digit h value x) 1114111) _ _ _ a.1).1 in
      (x ∷ r.0, ap (λ xs. x ∷ xs) r.1, and-both (is_digit_in h x) (list_all (is_digit_in h) r.0) a.0 r.2, r.3, r.4)
  | inr a ↦ let b = only-if (x == 59 && is_allowed value) _ _ _ a.1 in
      ([], ap (λ y. y ∷ w) (is-byte x 59 (and-first (x == 59) (is_allowed value) b.0)) ∙ ap (λ ys. 59 ∷ ys) b.1.1, refl, sym b.1.0, ap is_allowed (sym b.1.0) ∙ and-second (x == 59) (is_allowed value) b.0)
]

grown-more : (h : Bool) (value : ℕ) (ds : List ℕ) → value ≤ grown (base_of h) value ds
grown-more h value [] = omega arith
grown-more true value (d ∷ ds) = let more = grown-more true (add_digit 16 value d) ds in omega (arith, more)
grown-more false value (d ∷ ds) = let more = grown-more false (add_digit 10 value d) ds in omega (arith, more)

number-taken : (ds : List ℕ) (h : Bool) (value c : ℕ) → list_all (is_digit_in h) ds ≡ true → c ≡ grown (base_of h) value ds → is_allowed c ≡ true → Takes R (Number h value) (ds ++ 59 ∷ []) c
number-taken [] true value c all says ok = let so = ap is_allowed (sym says) ∙ ok in rw so (sym says, refl)
number-taken [] false value c all says ok = let so = ap is_allowed (sym says) ∙ ok in rw so (sym says, refl)
number-taken (d ∷ ds) h value c all says ok =
    let low : with_digit h value d ≤ 1114111 = omega (arith, grown-more h (with_digit h value d) ds, says, allowed-at-most c ok) in
    let most : nat_le (with_digit h value d) 1114111 ≡ true = grind (arith, nat_tests, low) in
    rw (and-first (is_digit_in h d) (list_all (is_digit_in h) ds) all, most) (number-taken ds h (with_digit h value d) c (and-second (is_digit_in h d) (list_all (is_digit_in h) ds) all) says ok)

digits-ascii : (h : Bool) (ds : List ℕ) → list_all (is_digit_in h) ds ≡ true → is_ascii (ds ++ 59 ∷ []) ≡ true
digits-ascii h [] all = refl
digits-ascii h (d ∷ ds) all = and-both (nat_lt d 128 && is_allowed d) (is_ascii (ds ++ 59 ∷ [])) (one h d (and-first (is_digit_in h d) (list_all (is_digit_in h) ds) all)) (digits-ascii h ds (and-second (is_digit_in h d) (list_all (is_digit_in h) ds) all)) where
  one : (h : Bool) (d : ℕ) → is_digit_in h d ≡ true → (nat_lt d 128 && is_allowed d) ≡ true
  one true d e = grind (arith, nat_tests)
  one false d e = grind (arith, nat_tests)

-- what stands between `&` and `;`
abbrev Referred-to : List ℕ → ℕ → Type 0
Referred-to w c = ((name : List ℕ) × (w ≡ name ++ 59 ∷ []) × (named name ≡ Some c)) × (is_ascii w ≡ true)

entity-named : (pre left name w : List ℕ) (code c : ℕ) → Takes R (Entity left code) w c → pre ++ left ≡ name ++ 59 ∷ [] → named name ≡ Some code → is_ascii (pre ++ left) ≡ true → Referred-to (pre ++ w) c
entity-named pre left name w code c t d n a =
    let r = entity-takes left code w c t in
    let whole : pre ++ w ≡ pre ++ left = ap (λ xs. pre ++ xs) r.0 in
    ((name, whole ∙ d, n ∙ ap Some (sym r.1)), ap is_ascii whole ∙ a)

number-named : (w ds : List ℕ) (c : ℕ) → w ≡ ds ++ 59 ∷ [] → number_after_sign ds ≡ Some c → is_allowed c ≡ true → is_ascii (ds ++ 59 ∷ []) ≡ true → Referred-to (35 ∷ w) c
number-named w ds c e says ok a = ((35 ∷ ds, ap (λ xs. 35 ∷ xs) e, ap (option_and_then where_allowed) says ∙ ap (λ t. cond t (Some c) None) ok), ap (λ xs. is_ascii (35 ∷ xs)) e ∙ a)

sharp-takes : (w : List ℕ) (c : ℕ) → Takes R Sharp w c → Referred-to (35 ∷ w) c
sharp-takes [] c t = absurd t
sharp-takes (x ∷ w) c t = elim (either-if (x == 120) _ _ _ _ t) [
  | inl a ↦ let n = number-takes w true 0 c a.1 in
      number-named (x ∷ w) (120 ∷ n.0) c (ap (λ y. y ∷ w) (is-byte x 120 a.0) ∙ ap (λ xs. 120 ∷ xs) n.1) (number-says 16 c n.0 n.2 n.3 n.4) n.4 (digits-ascii true n.0 n.2)
  | inr a ↦ let n = number-takes (x ∷ w) false 0 c a.1 in number-named (x ∷ w) n.0 c n.1 (sign-says c n.0 n.2 n.3 n.4) n.4 (digits-ascii false n.0 n.2)
]

module _ (c : ℕ) where
  -- where the first byte is known
  at : (r : ReferenceState) (pre w : List ℕ) (x k : ℕ) → Takes R r (x ∷ w) c → (x == k) ≡ true → (Takes R r (k ∷ w) c → Referred-to (pre ++ k ∷ w) c) → Referred-to (pre ++ x ∷ w) c
  at r pre w x k t e f = subst (λ y. Takes R r (y ∷ w) c → Referred-to (pre ++ y ∷ w) c) (sym (is-byte x k e)) f t

  entity-a-takes : (w : List ℕ) → Takes R EntityA w c → Referred-to (97 ∷ w) c
  entity-a-takes [] t = absurd t
  entity-a-takes (x ∷ w) t =
      cases (x == 109) (λ e. at EntityA (codes "a") w x 109 t e (λ t. entity-named (codes "am") (codes "p;") (codes "amp") w 38 c t refl refl refl))
      (λ e. cases (x == 112) (λ d. at EntityA (codes "a") w x 112 t d (λ t. entity-named (codes "ap") (codes "os;") (codes "apos") w 39 c t refl refl refl)) (λ d. absurd (simp (e, d) at t)))

  references-take : (w : List ℕ) → Takes R Ampersand w c → Referred-to w c
  references-take [] t = absurd t
  references-take (x ∷ w) t =
      cases (x == 35) (λ e. at Ampersand [] w x 35 t e (sharp-takes w c)) (λ e1. cases (x == 97) (λ e. at Ampersand [] w x 97 t e (entity-a-takes w))
      (λ e2. cases (x == 103) (λ e. at Ampersand [] w x 103 t e (λ t. entity-named (codes "g") (codes "t;") (codes "gt") w 62 c t refl refl refl))
      (λ e3. cases (x == 108) (λ e. at Ampersand [] w x 108 t e (λ t. entity-named (codes "l") (codes "t;") (codes "lt") w 60 c t refl refl refl))
      (λ e4. cases (x == 113) (λ e. at Ampersand [] w x 113 t e (λ t. entity-named (codes "q") (codes "uot;") (codes "quot") w 34 c t refl refl refl)) (λ e5. absurd (simp (e1, e2, e3, e4, e5) at t))))))

-- and back
module _ (name : List ℕ) (c : ℕ) where
  abbrev Taken : Type 0
  Taken = Takes R Ampersand (name ++ 59 ∷ []) c × (is_ascii (name ++ 59 ∷ []) ≡ true)

  one-taken : (word : List ℕ) (code : ℕ) → bytes_eq name word ≡ true → ◌≡◌ {A = Option ℕ} (Some code) (Some c) → Takes R Ampersand (word ++ 59 ∷ []) code → is_ascii (word ++ 59 ∷ []) ≡ true → Taken
  one-taken word code is says t a =
      let same : word ++ 59 ∷ [] ≡ name ++ 59 ∷ [] = ap (λ xs. xs ++ 59 ∷ []) (sym ((bytes_eq-Decides name word).0 is)) in
      (subst (λ xs. Takes R Ampersand xs c) same (subst (λ x. Takes R Ampersand (word ++ 59 ∷ []) x) (some-is says) t), ap is_ascii (sym same) ∙ a)

  number-by : (ds : List ℕ) → name ≡ 35 ∷ ds → number_after_sign ds ≡ Some c → is_allowed c ≡ true → Taken
  number-by ds e says ok = subst (λ xs. Takes R Ampersand (xs ++ 59 ∷ []) c × (is_ascii (xs ++ 59 ∷ []) ≡ true)) (sym e) (by ds says) where
    by : (ds : List ℕ) → number_after_sign ds ≡ Some c → Takes R Ampersand (35 ∷ (ds ++ 59 ∷ [])) c × (is_ascii (35 ∷ (ds ++ 59 ∷ [])) ≡ true)
    by [] says = absurd (cc)
    by (first ∷ ds) says =
        cases (first == 120) (λ is. let was = number-was 16 c ds (rw is at says) in (rw is (number-taken ds true 0 c was.0 was.1 ok), ap (λ x. is_ascii (x ∷ (ds ++ 59 ∷ []))) (is-byte first 120 is) ∙ digits-ascii true ds was.0))
        (λ is. let was = number-was 10 c (first ∷ ds) (rw is at says) in (rw is (number-taken (first ∷ ds) false 0 c was.0 was.1 ok), digits-ascii false (first ∷ ds) was.0))

  reference-taken : named name ≡ Some c → Taken
  reference-taken n =
      let was = named-was (code_of name) c n in
      cases (bytes_eq name (codes "amp")) (λ e. one-taken (codes "amp") 38 e (rw e at was.0) (refl, refl) refl)
      (λ f1. cases (bytes_eq name (codes "lt")) (λ e. one-taken (codes "lt") 60 e (simp (f1, e) at was.0) (refl, refl) refl)
      (λ f2. cases (bytes_eq name (codes "gt")) (λ e. one-taken (codes "gt") 62 e (simp (f1, f2, e) at was.0) (refl, refl) refl)
      (λ f3. cases (bytes_eq name (codes "quot")) (λ e. one-taken (codes "quot") 34 e (simp (f1, f2, f3, e) at was.0) (refl, refl) refl)
      (λ f4. cases (bytes_eq name (codes "apos")) (λ e. one-taken (codes "apos") 39 e (simp (f1, f2, f3, f4, e) at was.0) (refl, refl) refl)
      (λ f5. let number = numbered-was name c (simp (f1, f2, f3, f4, f5) at was.0) in number-by number.0 number.1 number.2 was.1)))))

pub reference-reads : Alike (Reads R (R Ampersand)) (λ bytes c. IsReference (38 ∷ bytes) c)
reference-reads bytes c = (
  λ r. let n = references-take c r.text r.takes in record { name = n.0.0; form = ap (λ xs. 38 ∷ xs) (r.spelled ∙ ascii-bytes r.text n.1 ∙ n.0.1); names = n.0.2 },
  λ g. let t = reference-taken g.name c g.names in
      let a = ascii-plain (g.name ++ 59 ∷ []) t.1 in
      record { text = g.name ++ 59 ∷ []; spelled = (heads 38 38 bytes (g.name ++ 59 ∷ []) g.form).1 ∙ sym (plain-bytes (g.name ++ 59 ∷ []) a.0); allowed = a.1; takes = t.0 },
)

-- Values.

-- the pieces without a line feed at the front
abbrev without_feed : List ValuePiece → List ValuePiece
without_feed (Literal c ∷ more) = if c == 10 then more else Literal c ∷ more
without_feed pieces = pieces

abbrev says : List ValuePiece → List ℕ
says pieces = flat_map piece_says pieces

and-behind-is : (c : ℕ) (more : List ValuePiece) → and_behind (Literal c) more ≡ Literal c ∷ cond (c == 13) (without_feed more) more
and-behind-is c (Literal d ∷ more) = cases (c == 13) (λ e. cases (d == 10) (λ f. simp (e, f)) (λ f. simp (e, f))) (λ e. simp e)
and-behind-is c other = cases (c == 13) (λ e. simp e) (λ e. simp e)

pub and-behind : (piece : ValuePiece) (more : List ValuePiece) → is_return piece ≡ false → and_behind piece more ≡ piece ∷ more
and-behind piece [] e = refl
and-behind (Literal c) (Literal d ∷ more) e = rw e refl
and-behind piece (second ∷ more) e = refl

-- what pieces say one behind another
abbrev all_say : Bool → List ValuePiece → List ℕ
all_say behind [] = []
all_say behind (piece ∷ more) = says_behind behind piece ++ all_say (is_return piece) more

abbrev Said : List ValuePiece → List ValuePiece → Type 0
Said ps pieces = (says ps ≡ all_say false pieces) × (says (without_feed ps) ≡ all_say true pieces)

all-say : (pieces : List ValuePiece) → Said (with_line_ends pieces) pieces
all-say [] = (refl, refl)
all-say (Referred c ∷ more) = let h = all-say more in rw (and-behind (Referred c) (with_line_ends more) refl) (ap (λ xs. encode_utf8 c ++ xs) h.0, ap (λ xs. encode_utf8 c ++ xs) h.0)
all-say (Literal c ∷ more) = rw (and-behind-is c (with_line_ends more)) (by (c == 13) (c == 10) refl refl (all-say more)) where
  by : (s t : Bool) → (c == 13) ≡ s → (c == 10) ≡ t → Said (with_line_ends more) more → Said (Literal c ∷ cond (c == 13) (without_feed (with_line_ends more)) (with_line_ends more)) (Literal c ∷ more)
  by true t e f h = subst (λ x. Said (Literal x ∷ cond (x == 13) (without_feed (with_line_ends more)) (with_line_ends more)) (Literal x ∷ more)) (sym (is-byte c 13 e)) (ap (λ xs. 32 ∷ xs) h.1, ap (λ xs. 32 ∷ xs) h.1)
  by false true e f h = subst (λ x. Said (Literal x ∷ cond (x == 13) (without_feed (with_line_ends more)) (with_line_ends more)) (Literal x ∷ more)) (sym (is-byte c 10 f)) (ap (λ xs. 32 ∷ xs) h.0, h.0)
  by false false e f h = (simp (e, f, h.0), simp (e, f, h.0))

pub reference-form : {A : Type 0} (K : ℕ → Form A) → Alike (Then (Word (codes "&")) (λ u. Then (λ bytes c. IsReference (38 ∷ bytes) c) K)) (Then IsReference K)
reference-form K bytes a = (
  λ t. let r = t.second in then-of (38 ∷ r.front) r.back r.what (t.spelled ∙ ap (λ xs. xs ++ t.back) t.first ∙ ap (λ xs. 38 ∷ xs) r.spelled) r.first r.second,
  λ t. let g = t.first in
      let rest : List ℕ = g.name ++ 59 ∷ [] in
      then-of (codes "&") (rest ++ t.back) tt (t.spelled ∙ ap (λ xs. xs ++ t.back) g.form) refl (then-of rest t.back t.what refl (record { name = g.name; form = refl; names = g.names }) t.second),
)

-- A value from behind its first quote.
abbrev V : ValueState → ℕ → Next ValueState (List ℕ)
V = step_value

module _ (quote : ℕ) (is_q : is_quote quote ≡ true) where
  -- a state by what is said so far, and whether that ends in a literal carriage return
  abbrev valued : List ℕ × Bool → ValueState
  valued x = value_state (quote == 34) x.0 x.1 None

  abbrev with_piece : List ℕ × Bool → ValuePiece → List ℕ × Bool
  with_piece x p = (x.0 ++ says_behind x.1 p, is_return p)

  abbrev From : List ℕ × Bool → Form (List ℕ)
  From x = Reads V (V (valued x))

  abbrev literal : List ℕ × Bool → ℕ → Next ValueState (List ℕ)
  literal x c = cond (is_in_value quote c) (On (valued (with_piece x (Literal c)))) Stuck

  abbrev piece : List ℕ × Bool → ℕ → Next ValueState (List ℕ)
  piece x c = cond (c == 38) (On (value_state (quote == 34) x.0 x.1 (Some Ampersand))) (literal x c)

  piece-form : (K : ValuePiece → Form (List ℕ)) → Alike (Or (Then IsReference (λ c. K (Referred c))) (Then (Character (is_in_value quote)) (λ c. K (Literal c)))) (Then (IsValuePiece quote) K)
  piece-form K bytes a = (λ s. elim s [ inl t ↦ then-of t.front t.back (Referred t.what) t.spelled t.first t.second | inr t ↦ then-of t.front t.back (Literal t.what) t.spelled t.first t.second ], λ t. by t.what t.front t.back t.spelled t.first t.second) where
    by : (p : ValuePiece) (front back : List ℕ) → bytes ≡ front ++ back → IsValuePiece quote front p → K p back a → Or (Then IsReference (λ c. K (Referred c))) (Then (Character (is_in_value quote)) (λ c. K (Literal c))) bytes a
    by (Literal c) front back e g k = inr (then-of front back c e g k)
    by (Referred c) front back e g k = inl (then-of front back c e g k)

  -- one piece, or the quote
  piece-reads : (x : List ℕ × Bool) → Alike (From x) (Or (Then (IsValuePiece quote) (λ p. From (with_piece x p))) (Then (Byte (λ b. b == quote)) (λ same. Says x.0)))
  piece-reads x = also
      (reads-or V (λ c. c == quote) (V (valued x)) (λ c. Done x.0) (piece x) (Then (Byte (λ b. b == quote)) (λ same. Says x.0)) (Then (IsValuePiece quote) (λ p. From (with_piece x p))) whole (λ c d. let one : (c == 38) ≡ false = grind (arith, nat_tests) in rw (one, d) refl)
      (reads-byte V (λ c. c == quote) (λ c. Done x.0) (λ c. Says x.0) (λ c d. same-small quote c is_q d) (λ c d. same (Says x.0)))
      (also (reads-or V (λ c. c == 38) (piece x) (λ c. On (value_state (quote == 34) x.0 x.1 (Some Ampersand))) (literal x) (Then IsReference (λ c. From (with_piece x (Referred c)))) (Then (Character (is_in_value quote)) (λ c. From (with_piece x (Literal c)))) (λ c. refl) (λ c d. let out : is_in_value quote c ≡ false = grind (arith, nat_tests) in rw out refl)
      (also (reads-letter V 38 (On (value_state (quote == 34) x.0 x.1 (Some Ampersand))) [] (Then (λ bytes c. IsReference (38 ∷ bytes) c) (λ c. From (with_piece x (Referred c)))) (omega arith) refl
      (also (also (reads-state V R (λ s. value_state (quote == 34) x.0 x.1 (Some s)) (λ code. On (value_state (quote == 34) (x.0 ++ encode_utf8 code) false None)) (λ n c. refl) Ampersand) (then-alike reference-reads (λ c. same (From (with_piece x (Referred c)))))) none-alike)) (reference-form (λ c. From (with_piece x (Referred c)))))
      (reads-if V (is_in_value quote) (λ c. On (valued (with_piece x (Literal c)))) (λ c. From (with_piece x (Literal c))) (λ c d. same (From (with_piece x (Literal c))))))
      (piece-form (λ p. From (with_piece x p))))) (or-turned (Then (Byte (λ b. b == quote)) (λ same. Says x.0)) (Then (IsValuePiece quote) (λ p. From (with_piece x p)))) where
        whole : (c : ℕ) → V (valued x) c ≡ cond (c == quote) (Done x.0) (piece x c)
        whole c =
            let is : quote_of (quote == 34) ≡ quote = grind (arith, nat_tests) in
            rw is (cases (c == quote) (λ d. rw d refl) (λ d. cases (c == 38) (λ g. rw (d, g) refl) (λ g. cases (c == 60) (λ f. rw (d, g, f) refl) (λ f. rw (d, g, f) refl))))

  added-says : (ps : List ValuePiece) (x : List ℕ × Bool) → (added V with_piece x ps).0 ≡ x.0 ++ all_say x.1 ps
  added-says [] x = sym (append-nil x.0)
  added-says (p ∷ ps) x = added-says ps (with_piece x p) ∙ append_assoc x.0 (says_behind x.1 p) (all_say (is_return p) ps)

  value-reads : Alike (From ([], false)) (Then (IsInside quote) (λ text. Then (Byte (λ b. b == quote)) (λ same. Says text)))
  value-reads =
      also (reads-many V with_piece (λ x. V (valued x)) (IsValuePiece quote) (λ x. Then (Byte (λ b. b == quote)) (λ same. Says x.0)) some piece-reads ([], false))
      (also (then-alike (same (Many (IsValuePiece quote))) (λ ps. rw (added-says ps ([], false) ∙ sym (all-say ps).0) (says-alike (value_says ps) (λ text. Then (Byte (λ b. b == quote)) (λ same. Says text))))) (assoc (Many (IsValuePiece quote)) (λ ps. Says (value_says ps)) (λ text. Then (Byte (λ b. b == quote)) (λ same. Says text)))) where
        some : (bytes : List ℕ) (p : ValuePiece) → IsValuePiece quote bytes p → 0 < length bytes
        some bytes (Literal c) h = let s = encoded c in omega (arith, ap length (h.spelled ∙ s.2))
        some bytes (Referred c) h = omega (arith, ap length h.form)

-- Names.

added-bytes : {M A : Type 0} (step : M → ℕ → Next M A) (cs bytes text : List ℕ) → Many (Character is_in_name) bytes cs → added step (λ t c. t ++ encode_utf8 c) text cs ≡ text ++ bytes
added-bytes step [] bytes text e = sym (append-nil text) ∙ ap (λ xs. text ++ xs) (sym e)
added-bytes step (c ∷ cs) bytes text (front, back, e, g, more) =
    added-bytes step cs back (text ++ encode_utf8 c) more ∙ append_assoc text (encode_utf8 c) back ∙ ap (λ xs. text ++ (xs ++ back)) (sym g.spelled) ∙ ap (λ xs. text ++ xs) (sym e)

abbrev pub Second : List ℕ → Option (List ℕ) → Type 0
Second = Maybe (Then (Word (codes ":")) (λ colon. IsName))

-- a name inside another machine, and what stands behind it
module _ {M A : Type 0} (step : M → ℕ → Next M A) (to : NameState → M) (behind : QName → ℕ → Next M A) (is : (n : NameState) (c : ℕ) → step (to n) c ≡ named_or (goes_on n c) to (is_whole n.second) (behind (name_of n) c))
    (apart : (q : QName) (c : ℕ) → (is_in_name c ≡ true) ⊎ (is_colon c ≡ true) → behind q c ≡ Stuck) (H : QName → Form A) (next : (q : QName) → Alike (Reads step (behind q)) (H q)) where
  -- the letters of a name from the second on, and those of a name
  letters-read : (set : List ℕ → NameState) (over : List ℕ → ℕ → Next M A) (K : List ℕ → Form A) → ((t : List ℕ) (c : ℕ) → step (to (set t)) c ≡ cond (is_in_name c) (On (to (set (t ++ encode_utf8 c)))) (over t c)) → ((t : List ℕ) (c : ℕ) → is_in_name c ≡ true → over t c ≡ Stuck)
      → ((t : List ℕ) → Alike (Reads step (over t)) (K t)) → (text : List ℕ) → Alike (Reads step (step (to (set text)))) (Then (Many (Character is_in_name)) (λ cs. K (added step (λ t c. t ++ encode_utf8 c) text cs)))
  letters-read set over K goes none e = reads-many step (λ t c. t ++ encode_utf8 c) (λ t. step (to (set t))) (Character is_in_name) K (λ bytes c h. let s = encoded c in omega (arith, ap length (h.spelled ∙ s.2)))
      (λ t. reads-or step is_in_name (step (to (set t))) (λ c. On (to (set (t ++ encode_utf8 c)))) (over t) (Then (Character is_in_name) (λ c. Reads step (step (to (set (t ++ encode_utf8 c)))))) (K t) (goes t) (none t)
      (reads-if step is_in_name (λ c. On (to (set (t ++ encode_utf8 c)))) (λ c. Reads step (step (to (set (t ++ encode_utf8 c))))) (λ c d. same (Reads step (step (to (set (t ++ encode_utf8 c))))))) (e t))

  word-reads : (n : ℕ → M) (K : List ℕ → Form A) → ((c : ℕ) → Alike (Reads step (step (n c))) (Then (Many (Character is_in_name)) (λ cs. K (added step (λ t c. t ++ encode_utf8 c) (encode_utf8 c) cs)))) → Alike (Reads step (λ c. cond (begins_name c) (On (n c)) Stuck)) (Then IsName K)
  word-reads n K e = also (reads-if step begins_name (λ c. On (n c)) (λ c. Then (Many (Character is_in_name)) (λ cs. K (added step (λ t c. t ++ encode_utf8 c) (encode_utf8 c) cs))) (λ c d. e c)) (λ bytes a. (
    λ t. let s = t.second in
        let all : added step (λ t c. t ++ encode_utf8 c) (encode_utf8 t.what) s.what ≡ t.front ++ s.front = added-bytes step s.what s.front (encode_utf8 t.what) s.first ∙ ap (λ xs. xs ++ s.front) (sym t.first.spelled) in
        then-of (t.front ++ s.front) s.back (t.front ++ s.front) (t.spelled ∙ ap (λ xs. t.front ++ xs) s.spelled ∙ sym (append_assoc t.front s.front s.back)) (refl, s.what, then-of t.front s.front t.what refl t.first s.first) (subst (λ xs. K xs s.back a) all s.second),
    λ t. let s = t.first.2 in
        let all : added step (λ t c. t ++ encode_utf8 c) (encode_utf8 s.what) t.first.1 ≡ t.what = added-bytes step t.first.1 s.back (encode_utf8 s.what) s.second ∙ ap (λ xs. xs ++ s.back) (sym s.first.spelled) ∙ sym s.spelled ∙ sym t.first.0 in
        then-of s.front (s.back ++ t.back) s.what (t.spelled ∙ ap (λ xs. xs ++ t.back) s.spelled ∙ append_assoc s.front s.back t.back) s.first (then-of s.back t.back t.first.1 refl s.second (subst (λ xs. K xs t.back a) (sym all) t.second)),
  ))

  second-reads : (first : List ℕ) → Alike (Reads step (step (to (name_state first (Some []))))) (Then IsName (λ second. H (qualified first (Some second))))
  second-reads first = reads-as step (λ c. is (name_state first (Some [])) c ∙ cases (begins_name c) (λ d. rw d refl) (λ d. rw d refl)) (word-reads (λ c. to (name_state first (Some (encode_utf8 c)))) (λ second. H (qualified first (Some second))) from) where
    more : (b : ℕ) (t cs : List ℕ) → added step (λ t c. t ++ encode_utf8 c) (b ∷ t) cs ≡ b ∷ added step (λ t c. t ++ encode_utf8 c) t cs
    more b t [] = refl
    more b t (c ∷ cs) = more b (t ++ encode_utf8 c) cs

    from : (c : ℕ) → Alike (Reads step (step (to (name_state first (Some (encode_utf8 c)))))) (Then (Many (Character is_in_name)) (λ cs. H (qualified first (Some (added step (λ t c. t ++ encode_utf8 c) (encode_utf8 c) cs)))))
    from c =
        let s = encoded c in
        let q : List ℕ → QName = λ t. qualified first (Some (s.0 ∷ t)) in
        rw s.2 (also (letters-read (λ t. name_state first (Some (s.0 ∷ t))) (λ t. behind (q t)) (λ t. H (q t)) (λ t c. is (name_state first (Some (s.0 ∷ t))) c ∙ cases (is_in_name c) (λ d. rw d refl) (λ d. rw d refl)) (λ t c d. apart (q t) c (inl d)) (λ t. next (q t)) s.1)
        (then-alike (same (Many (Character is_in_name))) (λ cs. rw (more s.0 s.1 cs) (same (H (q (added step (λ t c. t ++ encode_utf8 c) s.1 cs)))))))

  pub name-reads : Alike (Reads step (λ c. cond (begins_name c) (On (to (name_begun c))) Stuck)) (Then IsQName H)
  name-reads = also (word-reads (λ c. to (name_begun c)) (λ first. Then Second (λ second. H (qualified first second))) (λ c. letters-read (λ t. name_state t None) over (λ first. Then Second (λ second. H (qualified first second))) goes none rest (encode_utf8 c)))
      (also (then-alike (same IsName) (λ first. also (then-alike (same Second) (λ second. says-alike (qualified first second) H)) (assoc Second (λ second. Says (qualified first second)) H))) (assoc IsName (λ first. Then Second (λ second. Says (qualified first second))) H)) where
        over : List ℕ → ℕ → Next M A
        over t c = cond (is_colon c) (On (to (name_state t (Some [])))) (behind (qualified t None) c)

        goes : (t : List ℕ) (c : ℕ) → step (to (name_state t None)) c ≡ cond (is_in_name c) (On (to (name_state (t ++ encode_utf8 c) None))) (over t c)
        goes t c = is (name_state t None) c ∙ cases (is_in_name c) (λ d. rw d refl) (λ d. cases (is_colon c) (λ e. rw (d, e) refl) (λ e. rw (d, e) refl))

        none : (t : List ℕ) (c : ℕ) → is_in_name c ≡ true → over t c ≡ Stuck
        none t c d = let other : is_colon c ≡ false = grind (arith, nat_tests) in rw other (apart (qualified t None) c (inl d))

        rest : (t : List ℕ) → Alike (Reads step (over t)) (Then Second (λ second. H (qualified t second)))
        rest t = also (reads-or step is_colon (over t) (λ c. On (to (name_state t (Some [])))) (behind (qualified t None)) (Then (Then (Word (codes ":")) (λ colon. IsName)) (λ second. H (qualified t (Some second)))) (H (qualified t None)) (λ c. refl) (λ c d. apart (qualified t None) c (inr d))
            (also (reads-letter step 58 (On (to (name_state t (Some [])))) [] (Then IsName (λ second. H (qualified t (Some second)))) (omega arith) refl (also (second-reads t) none-alike)) (assoc (Word (codes ":")) (λ colon. IsName) (λ second. H (qualified t (Some second))))) (next (qualified t None))) (maybe-or (λ second. H (qualified t second)))

-- Attributes.

abbrev A : AttributeState → ℕ → Next AttributeState TagAttr
A = step_attr

name-apart : (c : ℕ) → (is_in_name c ≡ true) ⊎ (is_colon c ≡ true) → (is_blank c ≡ false) × ((c == 61) ≡ false) × (ends_tag c ≡ false)
name-apart c (inl e) = (grind (arith, nat_tests), grind (arith, nat_tests), grind (arith, nat_tests))
name-apart c (inr e) = (grind (arith, nat_tests), grind (arith, nat_tests), grind (arith, nat_tests))

attr-reads : Alike (Reads A (λ c. cond (begins_name c) (On (AttrName (name_begun c))) Stuck)) IsTagAttr
attr-reads = name-reads A AttrName named_step (λ n c. refl) (λ q c d. let a = name-apart c d in rw (a.0, a.1) refl) (λ q. Then IsEquals (λ sign. Then IsValue (λ v. Says (attr_of q v))))
    (λ q. reads-equals A (AttrNamed q) (Equals q) (λ c. cond (is_quote c) (On (Value q (value_state (c == 34) [] false None))) Stuck) (Then IsValue (λ v. Says (attr_of q v))) refl refl (λ c d. let other : is_quote c ≡ false = grind (arith, nat_tests) in rw other refl)
    (also (reads-byte A is_quote (λ c. On (Value q (value_state (c == 34) [] false None))) (λ quote. Then (Inside quote) (λ v. Says (attr_of q v))) quote-small
    (λ quote d. also (reads-state A V (Value q) (λ text. Done (attr_of q text)) (λ n c. refl) (value_state (quote == 34) [] false None)) (then-alike (value-reads quote d) (λ v. same (Says (attr_of q v)))))) (assoc (Byte is_quote) Inside (λ v. Says (attr_of q v))))) where
      Inside : ℕ → Form (List ℕ)
      Inside quote = Then (IsInside quote) (λ text. Then (Byte (λ b. b == quote)) (λ same. Says text))

-- Start tags.

abbrev G : StartTagState → ℕ → Next StartTagState (Tag × ℕ)
G = step_tag

abbrev IsSpaced : List ℕ → TagAttr → Type 0
IsSpaced = Then IsSpace (λ space. IsTagAttr)

-- the byte behind a tag
abbrev pub IsClosed : Tag → Form (Tag × ℕ)
IsClosed tag = Then (Byte ends_tag) (λ e. Says (tag, e))

module _ (tag : Tag) where
  abbrev attr : ℕ → Next StartTagState (Tag × ℕ)
  attr c = cond (begins_name c) (On (Attribute tag (AttrName (name_begun c)))) Stuck

  abbrev More : Form (Tag × ℕ)
  More = Then IsTagAttr (λ a. Reads G (G (Tagged (with_attr tag a))))

  -- one attribute more, or the end
  tagged-read : Alike (Reads G (G (Tagged tag))) (Or (Then IsSpaced (λ a. Reads G (G (Tagged (with_attr tag a))))) (Then IsBlanks (λ u. IsClosed tag)))
  tagged-read =
      let inside : ℕ → Next StartTagState (Tag × ℕ) = λ c. cond (ends_tag c) (Done (tag, c)) (attr c) in
      let name : ℕ → Next AttributeState TagAttr = λ c. cond (begins_name c) (On (AttrName (name_begun c))) Stuck in
      let ends-read = reads-byte G ends_tag (λ c. Done (tag, c)) (λ e. Says (tag, e)) end-plain (λ c d. same (Says (tag, c))) in
      let attr-read = also (reads-in G A (Attribute tag) (λ a. On (Tagged (with_attr tag a))) (λ n c. refl) attr name (λ c. cases (begins_name c) (λ d. rw d refl) (λ d. rw d refl))) (then-alike attr-reads (λ a. same (Reads G (G (Tagged (with_attr tag a)))))) in
      also (reads-or G is_blank (G (Tagged tag)) (λ c. On (Spaced tag)) (λ c. cond (ends_tag c) (Done (tag, c)) Stuck) (Then IsSpace (λ u. Or (IsClosed tag) More)) (IsClosed tag) (λ c. refl) (λ c d. let other : ends_tag c ≡ false = grind (arith, nat_tests) in rw other refl)
      (reads-space G (Spaced tag) (Or (IsClosed tag) More) (reads-blanks G (Spaced tag) inside (Or (IsClosed tag) More) refl (λ c d. let one : ends_tag c ≡ false = grind (arith, nat_tests) in let two : begins_name c ≡ false = grind (arith, nat_tests) in rw (one, two) refl)
      (reads-or G ends_tag inside (λ c. Done (tag, c)) attr (IsClosed tag) More (λ c. refl) (λ c d. let other : begins_name c ≡ false = grind (arith, nat_tests) in rw other refl) ends-read attr-read))) ends-read)
      (also (or-alike (also then-or (or-turned (Then IsSpace (λ u. IsClosed tag)) (Then IsSpace (λ u. More)))) (same (IsClosed tag)))
      (also (or-assoc (Then IsSpace (λ u. More)) (Then IsSpace (λ u. IsClosed tag)) (IsClosed tag)) (or-alike (assoc IsSpace (λ u. IsTagAttr) (λ a. Reads G (G (Tagged (with_attr tag a))))) blanks-or)))

added-attrs : (as_ : List TagAttr) (tag : Tag) → added G with_attr tag as_ ≡ record { name = tag.name; attrs = tag.attrs ++ as_ }
added-attrs [] tag = ap (λ xs. record { name = tag.name; attrs = xs }) (sym (append-nil tag.attrs))
added-attrs (a ∷ as_) tag = added-attrs as_ (with_attr tag a) ∙ ap (λ xs. record { name = tag.name; attrs = xs }) (append_assoc tag.attrs (a ∷ []) as_)

pub tag-reads : Alike (Reads G (G Opened)) (Then IsTag IsClosed)
tag-reads = also (name-reads G Name (λ q c. tagged_step (tag_named q) c) (λ n c. refl) (λ q c d. let a = name-apart c d in rw (a.0, a.2) refl) (λ q. Then (Many IsSpaced) (λ as_. Then IsBlanks (λ u. IsClosed (with_all q as_))))
    (λ q. also (reads-many G with_attr (λ tag. G (Tagged tag)) IsSpaced (λ tag. Then IsBlanks (λ u. IsClosed tag)) some tagged-read (tag_named q)) (then-alike (same (Many IsSpaced)) (λ as_. rw (added-attrs as_ (tag_named q)) (same (Then IsBlanks (λ u. IsClosed (with_all q as_))))))))
    (also (then-alike (same IsQName) (λ q. also (then-alike (same (Many IsSpaced)) (λ as_. also (then-alike (same IsBlanks) (λ u. says-alike (with_all q as_) IsClosed)) (assoc IsBlanks (λ u. Says (with_all q as_)) IsClosed))) (assoc (Many IsSpaced) (λ as_. Then IsBlanks (λ u. Says (with_all q as_))) IsClosed)))
    (assoc IsQName (λ q. Then (Many IsSpaced) (λ as_. Then IsBlanks (λ u. Says (with_all q as_)))) IsClosed)) where
      with_all : QName → List TagAttr → Tag
      with_all q as_ = record { name = q; attrs = as_ }

      some : (bytes : List ℕ) (a : TagAttr) → IsSpaced bytes a → 0 < length bytes
      some bytes a t = let b = t.first in omega (arith, ap length (t.spelled ∙ ap (λ xs. xs ++ t.back) (b.spelled ∙ ap (λ xs. xs ++ b.back) b.first.0)))
