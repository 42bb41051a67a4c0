-- Reading a character from its bytes, what is decoded, what a byte and a character do, and what methods answer, from what the methods that they call answer.
use Rattle.std.proofs.Common.{◌≡◌, ◌==◌, ℕ, ◌<◌, true, false, inl, inr, Option, Some, None, Result, Ok, Err, List, [], ◌∷◌, ◌++◌, length, refl, sym, ap, ◌∙◌, arith, encode_utf8, ◌≤◌, nat_le, subst, ◌+◌, cond, ◌&&◌, Bool, ◌≢◌, zero, suc, add-one, drop, take, slice_get, ◌-◌, nat_lt, IfSome, append_assoc, codes, ◌⊎◌, ◌*◌, ◌/◌, ◌%◌, ◌||◌}
use Rattle.cds_markup.proofs.Terms.{nat_tests, append-nil, encode_ascii, is_allowed, Whole, More, MachineError, Broken, Deep, Event, Mode, Open, Step, after, begins_character, any_at, step, Reading, reading, moved, may_begin, go_on, byte_step, is_deep, judge, ReadSo, DecodesSo, AsciiSo, ByteSo, WholeSo, JudgedSo, NoCharacter, OutOfMemory, clash, empty-is, no-cons, INPUT_LIMIT, NamespaceRule, TooLong, Token, refusal, MovesSo, TakenSo, Progress, progressed, NextSo, Blanks, RootState, Inside, Epilog, Next, Stuck, On, Done, Given, To, is_content, is_over, landed, inside_move, opens_after, is_last, and-no, RootSo, by-test, NameState, QName, leads, named_or, Agrees, NamedSo, EndTag, begins_with, end_blanks_step, end_name_step, StandsSo, StandsUpTo, is-spent, some-is, written_name, Attr, TagAttr, OutOfScalarRange, slice_get_within, flat_map-append, tag_attrs, with_name, counted, written_attr, written_attrs, is_within, second_low, second_high, third_high, byte_at, behind_first, two_bytes_at, three_bytes_at, four_bytes_at, tail_at, ok-err, cases}
use lib.Utf8.{encode}
use Rattle.cds_markup.specs.declared.mode.NameStep.TheVariants.{Ends, Breaks}

less-is : (a n : ℕ) → a < n → nat_lt a n ≡ true
less-is a n h = grind (arith, nat_tests)

pub more-is : (a n : ℕ) → n ≤ a → nat_lt a n ≡ false
more-is a n h = grind (arith, nat_tests)

pub encode-two : (c : ℕ) → 128 ≤ c → c < 2048 → encode_utf8 c ≡ (192 + c / 64) ∷ (128 + c % 64) ∷ []
unfolding encode
encode-two c low high = rw (more-is c 128 low, less-is c 2048 high) refl

pub encode-three : (c : ℕ) → 2048 ≤ c → c < 65536 → encode_utf8 c ≡ (224 + c / 4096) ∷ (128 + c / 64 % 64) ∷ (128 + c % 64) ∷ []
unfolding encode
encode-three c low high = rw (more-is c 128 (omega arith), more-is c 2048 low, less-is c 65536 high) refl

pub encode-four : (c : ℕ) → 65536 ≤ c → encode_utf8 c ≡ (240 + c / 262144) ∷ (128 + c / 4096 % 64) ∷ (128 + c / 64 % 64) ∷ (128 + c % 64) ∷ []
unfolding encode
encode-four c low = rw (more-is c 128 (omega arith), more-is c 2048 (omega arith), more-is c 65536 low) refl

tail-within : (b : ℕ) → is_within 128 191 b ≡ true → (128 ≤ b) × (b ≤ 191)
tail-within b e = (grind (arith, nat_tests), grind (arith, nat_tests))

-- two bytes of which each is in its range are a character
two-are : (a b n : ℕ) → 194 ≤ a → a < 224 → (128 ≤ b) × (b ≤ 191) → n ≡ (a - 192) * 64 + (b - 128) → (encode_utf8 n ≡ a ∷ b ∷ []) × (is_allowed n ≡ true)
two-are a b n low high g e =
    let first : 192 + n / 64 ≡ a = omega arith in
    let second : 128 + n % 64 ≡ b = omega arith in
    let big : 128 ≤ n = omega arith in
    let small : n < 2048 = omega arith in
    (encode-two n big small ∙ ap (λ x. x ∷ (128 + n % 64) ∷ []) first ∙ ap (λ x. a ∷ x ∷ []) second, grind (arith, nat_tests, big, small))

-- what the table says of a second and a third byte
second-is : (a b : ℕ) → is_within (second_low a) (second_high a) b ≡ true → (128 ≤ b) × (b ≤ 191) × (a ≡ 224 → 160 ≤ b) × (a ≡ 237 → b ≤ 159) × (a ≡ 240 → 144 ≤ b) × (a ≡ 244 → b ≤ 143)
second-is a b e = (grind (arith, nat_tests), grind (arith, nat_tests), λ h. grind (arith, nat_tests), λ h. grind (arith, nat_tests), λ h. grind (arith, nat_tests), λ h. grind (arith, nat_tests))

is-second : (a b : ℕ) → 128 ≤ b → b ≤ 191 → (a ≡ 224 → 160 ≤ b) → (a ≡ 237 → b ≤ 159) → (a ≡ 240 → 144 ≤ b) → (a ≡ 244 → b ≤ 143) → is_within (second_low a) (second_high a) b ≡ true
is-second a b f1 f2 f3 f4 f5 f6 = grind (arith, nat_tests)

pub at-most-or-more : (m n : ℕ) → (m ≤ n) ⊎ (n + 1 ≤ m)
at-most-or-more m n = cases (nat_le m n) (λ e. inl (grind (arith, nat_tests))) (λ e. inr (grind (arith, nat_tests)))

-- what is allowed, by ranges
pub allowed-at-most : (c : ℕ) → is_allowed c ≡ true → c ≤ 1114111
allowed-at-most c e = grind (arith, nat_tests)

pub allowed-no-surrogate : (c : ℕ) → is_allowed c ≡ true → 55296 ≤ c → 57344 ≤ c
allowed-no-surrogate c e low = grind (arith, nat_tests)

three-are : (a b c n : ℕ) → 224 ≤ a → a ≤ 239 → is_within (second_low a) (second_high a) b ≡ true → is_within 128 (third_high a b) c ≡ true → n ≡ (a - 224) * 4096 + (b - 128) * 64 + (c - 128)
    → (encode_utf8 n ≡ a ∷ b ∷ c ∷ []) × (is_allowed n ≡ true)
three-are a b c n low high s t e =
    let f = second-is a b s in
    let g : (128 ≤ c) × (c ≤ 191) × (a ≡ 239 → b ≡ 191 → c ≤ 189) = (grind (arith, nat_tests), grind (arith, nat_tests), λ g h. grind (arith, nat_tests)) in
    let first : 224 + n / 4096 ≡ a = omega arith in
    let mid : n / 64 ≡ (a - 224) * 64 + (b - 128) = omega arith in
    let second : 128 + n / 64 % 64 ≡ b = omega arith in
    let third : 128 + n % 64 ≡ c = omega arith in
    let big : 2048 ≤ n = grind (arith, f, g) in
    let small : n ≤ 65533 = grind (arith, f, g) in
    let apart : (n ≤ 55295) ⊎ (57344 ≤ n) = elim (at-most-or-more a 237) [ inl h ↦ inl (grind (arith, f, g)) | inr h ↦ inr (omega arith) ] in
    (encode-three n big (omega arith) ∙ ap (λ x. x ∷ (128 + n / 64 % 64) ∷ (128 + n % 64) ∷ []) first ∙ ap (λ x. a ∷ x ∷ (128 + n % 64) ∷ []) second ∙ ap (λ x. a ∷ b ∷ x ∷ []) third, grind (arith, nat_tests, big, small, apart))

four-are : (a b c d n : ℕ) → 240 ≤ a → a ≤ 244 → is_within (second_low a) (second_high a) b ≡ true → (128 ≤ c) × (c ≤ 191) → (128 ≤ d) × (d ≤ 191) → n ≡ (a - 240) * 262144 + (b - 128) * 4096 + (c - 128) * 64 + (d - 128)
    → (encode_utf8 n ≡ a ∷ b ∷ c ∷ d ∷ []) × (is_allowed n ≡ true)
four-are a b c d n low high s r q e =
    let f = second-is a b s in
    let first : 240 + n / 262144 ≡ a = omega arith in
    let upper : n / 4096 ≡ (a - 240) * 64 + (b - 128) = omega arith in
    let mid : n / 64 ≡ ((a - 240) * 64 + (b - 128)) * 64 + (c - 128) = omega arith in
    let second : 128 + n / 4096 % 64 ≡ b = omega arith in
    let third : 128 + n / 64 % 64 ≡ c = omega arith in
    let fourth : 128 + n % 64 ≡ d = omega arith in
    let big : 65536 ≤ n = grind (arith, f) in
    let small : n ≤ 1114111 = grind (arith, f) in
    (encode-four n big ∙ ap (λ x. x ∷ (128 + n / 4096 % 64) ∷ (128 + n / 64 % 64) ∷ (128 + n % 64) ∷ []) first ∙ ap (λ x. a ∷ x ∷ (128 + n / 64 % 64) ∷ (128 + n % 64) ∷ []) second ∙ ap (λ x. a ∷ b ∷ x ∷ (128 + n % 64) ∷ []) third ∙ ap (λ x. a ∷ b ∷ c ∷ x ∷ []) fourth, grind (arith, nat_tests, big, small))

-- Reading a character: what is read is one, each one is read, and what is cut off goes on to one.

-- Steps that go by what comes first: what follows changes nothing of their answer, and what is cut off can go on.
abbrev Onto : {A : Type 0} → (List ℕ → Step A) → List ℕ → Step A → Type 0
Onto r left (Ok found) = (more : List ℕ) → r (left ++ more) ≡ Ok (found.0, found.1 ++ more)
Onto {A} r left (Err []) = (more : List ℕ) × (v : A) × (r (left ++ more) ≡ Ok (v, []))
Onto r left (Err (b ∷ x)) = (more : List ℕ) → r (left ++ more) ≡ Err (b ∷ (x ++ more))

record Local {A : Type 0} (r : List ℕ → Step A) : Type 0 where
  pub reads : (left : List ℕ) → Onto r left (r left)
  pub some : (more : List ℕ) × (v : A) × (r more ≡ Ok (v, []))

module _ {A B : Type 0} (r : List ℕ → Step A) (s : A → List ℕ → Step B) (R : Local r) (S : (a : A) → Local (s a)) where
  abbrev both : List ℕ → Step B
  both left = after (r left) s

  goes-on : (left : List ℕ) → Onto r left (Err []) → Onto both left (Err [])
  goes-on left (more, v, e) =
      let h = (S v).some in
      (more ++ h.0, h.1, ap both (sym (append_assoc left more h.0)) ∙ ap (λ x. after x s) (subst (Onto r (left ++ more)) e (R.reads (left ++ more)) h.0) ∙ h.2)

  local-after : Local both
  local-after = record { reads = λ left. by left (r left) (R.reads left); some = goes-on [] R.some } where
    behind : (left : List ℕ) (a : A) (mid : List ℕ) → Onto r left (Ok (a, mid)) → (y : Step B) → Onto (s a) mid y → Onto both left y
    behind left a mid k (Ok found) f = λ more. ap (λ x. after x s) (k more) ∙ f more
    behind left a mid k (Err []) (more, v, e) = (more, v, ap (λ x. after x s) (k more) ∙ e)
    behind left a mid k (Err (b ∷ x)) f = λ more. ap (λ x. after x s) (k more) ∙ f more

    by : (left : List ℕ) (x : Step A) → Onto r left x → Onto both left (after x s)
    by left (Ok (a, mid)) k = behind left a mid k (s a mid) ((S a).reads mid)
    by left (Err []) k = goes-on left k
    by left (Err (b ∷ x)) k = λ more. ap (λ y. after y s) (k more)

local-byte : (test : ℕ → Bool) (b : ℕ) → test b ≡ true → Local (byte_at test)
local-byte test b has = record { reads = reads; some = (b ∷ [], b, rw has refl) } where
  reads : (left : List ℕ) → Onto (byte_at test) left (byte_at test left)
  reads [] = (b ∷ [], b, rw has refl)
  reads (c ∷ left) = cases (test c) (λ e. rw e (λ more. rw e refl)) (λ e. rw e (λ more. rw e refl))

local-value : {A : Type 0} (v : A) → Local (λ left. Ok (v, left))
local-value v = record { reads = λ left more. refl; some = ([], v, refl) }

local-behind : (b : ℕ) → Local (behind_first b)
local-behind b = by (nat_lt b 128) (nat_lt b 224) (nat_lt b 240) where
  tail : Local (tail_at 128 191)
  tail = local-byte (is_within 128 191) 128 refl

  second : Local (tail_at (second_low b) (second_high b))
  second = local-byte (is_within (second_low b) (second_high b)) (second_low b) (grind (arith, nat_tests))

  by : (s t u : Bool) → Local (λ rest. cond s (Ok (b, rest)) (cond t (two_bytes_at b rest) (cond u (three_bytes_at b rest) (four_bytes_at b rest))))
  by true t u = local-value b
  by false true u = search (local-after, local-value, tail)
  by false false true = local-after (tail_at (second_low b) (second_high b)) _ second (λ c. search (local-after, local-value, local-byte (is_within 128 (third_high b c)) 128 (grind (arith, nat_tests))))
  by false false false = search (local-after, local-value, second, tail)

any-local : Local any_at
unfolding any_at
any-local = local-after (byte_at begins_character) behind_first (local-byte begins_character 65 refl) local-behind

pub ranges : (c : ℕ) → (c < 128) ⊎ (((128 ≤ c) × (c < 2048)) ⊎ (((2048 ≤ c) × (c < 65536)) ⊎ (65536 ≤ c)))
ranges c = elim (at-most-or-more 128 c) [
  | inr low ↦ inl (omega (arith, low))
  | inl a ↦ elim (at-most-or-more 2048 c) [ inr low ↦ inr (inl (a, omega (arith, low))) | inl b ↦ elim (at-most-or-more 65536 c) [ inr low ↦ inr (inr (inl (b, omega (arith, low)))) | inl d ↦ inr (inr (inr d)) ] ]
]

pub lead-is-wide : (x : Bool) (b : ℕ) → 194 ≤ b → b ≤ 244 → ((nat_lt b 128 && x) || is_within 194 244 b) ≡ true
lead-is-wide x b low high = grind (arith, nat_tests)

-- what is read is a character
pub ok_same : {A B E : Type 0} (v w : A) (x y : B) → ◌≡◌ {A = Result (A × B) E} (Ok (v, x)) (Ok (w, y)) → (v ≡ w) × (x ≡ y)
ok_same {A} {B} v w x y e = let same : ◌≡◌ {A = A × B} (v, x) (w, y) = cc in (ap (λ p. p.0) same, ap (λ p. p.1) same)

abbrev pub Read : List ℕ → ℕ → List ℕ → Type 0
Read bytes c rest = (bytes ≡ encode_utf8 c ++ rest) × (is_allowed c ≡ true)

-- what is read behind a byte
byte-then : {A : Type 0} (test : ℕ → Bool) (left : List ℕ) (next : ℕ → List ℕ → Step A) (v : A) (rest : List ℕ) → after (byte_at test left) next ≡ Ok (v, rest) → (b : ℕ) × (more : List ℕ) × (left ≡ b ∷ more) × (test b ≡ true) × (next b more ≡ Ok (v, rest))
byte-then test [] next v rest e = ok-err (sym e)
byte-then test (b ∷ more) next v rest e = cases (test b) (λ t. (b, more, refl, t, rw t at e)) (λ t. ok-err (sym (rw t at e)))

pub found : (bytes : List ℕ) (c : ℕ) (rest : List ℕ) → any_at bytes ≡ Ok (c, rest) → Read bytes c rest
unfolding any_at
found bytes c rest e = let f = byte-then begins_character bytes behind_first c rest e in by f.0 f.1 f.2 f.3 (nat_lt f.0 128) (nat_lt f.0 224) (nat_lt f.0 240) refl refl refl f.4 where
  over : (n : ℕ) (front more : List ℕ) → (encode_utf8 n ≡ front) × (is_allowed n ≡ true) → ◌≡◌ {A = Step ℕ} (Ok (n, more)) (Ok (c, rest)) → bytes ≡ front ++ more → Read bytes c rest
  over n front more h e d = let s = ok_same n c more rest e in (d ∙ ap (λ xs. xs ++ more) (sym h.0) ∙ ap (λ x. encode_utf8 x ++ more) s.0 ∙ ap (λ xs. encode_utf8 c ++ xs) s.1, ap is_allowed (sym s.0) ∙ h.1)

  by : (a : ℕ) (left : List ℕ) → bytes ≡ a ∷ left → begins_character a ≡ true → (s t u : Bool) → nat_lt a 128 ≡ s → nat_lt a 224 ≡ t → nat_lt a 240 ≡ u → cond s (Ok (a, left)) (cond t (two_bytes_at a left) (cond u (three_bytes_at a left) (four_bytes_at a left))) ≡ Ok (c, rest) → Read bytes c rest
  by a left d ok true t u f1 f2 f3 e = let low : a < 128 = grind (arith, nat_tests) in over a (a ∷ []) left (encode_ascii a low, grind (arith, nat_tests)) e d
  by a left d ok false true u f1 f2 f3 e =
      let low : 194 ≤ a = grind (arith, nat_tests) in
      let high : a < 224 = grind (arith, nat_tests) in
      let x = byte-then _ left _ c rest e in
      over _ (a ∷ x.0 ∷ []) x.1 (two-are a x.0 _ low high (tail-within x.0 x.3) refl) x.4 (d ∙ ap (λ xs. a ∷ xs) x.2)
  by a left d ok false false true f1 f2 f3 e =
      let x = byte-then _ left _ c rest e in
      let y = byte-then _ x.1 _ c rest x.4 in
      over _ (a ∷ x.0 ∷ y.0 ∷ []) y.1 (three-are a x.0 y.0 _ (grind (arith, nat_tests)) (grind (arith, nat_tests)) x.3 y.3 refl) y.4 (d ∙ ap (λ xs. a ∷ xs) (x.2 ∙ ap (λ xs. x.0 ∷ xs) y.2))
  by a left d ok false false false f1 f2 f3 e =
      let x = byte-then _ left _ c rest e in
      let y = byte-then _ x.1 _ c rest x.4 in
      let z = byte-then _ y.1 _ c rest y.4 in
      over _ (a ∷ x.0 ∷ y.0 ∷ z.0 ∷ []) z.1 (four-are a x.0 y.0 z.0 _ (grind (arith, nat_tests)) (grind (arith, nat_tests)) x.3 (tail-within y.0 y.3) (tail-within z.0 z.3) refl) z.4
      (d ∙ ap (λ xs. a ∷ xs) (x.2 ∙ ap (λ xs. x.0 ∷ xs) (y.2 ∙ ap (λ xs. y.0 ∷ xs) z.2)))

-- each character is read
within-tail : (b : ℕ) → 128 ≤ b → b ≤ 191 → is_within 128 191 b ≡ true
within-tail b low high = grind (arith, nat_tests)

read-plain : (c : ℕ) → is_allowed c ≡ true → any_at (encode_utf8 c) ≡ Ok (c, [])
unfolding any_at
read-plain c ok = elim (ranges c) [
  | inl small ↦
      let lead : ((nat_lt c 128 && is_allowed c) || is_within 194 244 c) ≡ true = rw (less-is c 128 small, ok) refl in
      rw (encode_ascii c small, lead, less-is c 128 small) refl
  | inr (inl two) ↦
      let a : ℕ = 192 + c / 64 in
      let b : ℕ = 128 + c % 64 in
      let is : (a - 192) * 64 + (b - 128) ≡ c = omega arith in
      rw (encode-two c two.0 two.1, lead-is-wide (is_allowed a) a (omega arith) (omega arith), more-is a 128 (omega arith), less-is a 224 (omega arith), within-tail b (omega arith) (omega arith), is) refl
  | inr (inr (inl three)) ↦
      let a : ℕ = 224 + c / 4096 in
      let b : ℕ = 128 + c / 64 % 64 in
      let d : ℕ = 128 + c % 64 in
      let over : c / 64 ≡ c / 4096 * 64 + c / 64 % 64 = omega arith in
      let is : (a - 224) * 4096 + (b - 128) * 64 + (d - 128) ≡ c = omega arith in
      let most : c ≤ 65533 = grind (arith, nat_tests, three.1) in
      let gap : 55296 ≤ c → 57344 ≤ c = allowed-no-surrogate c ok in
      let s = is-second a b (omega arith) (omega arith) (λ h. omega (arith, is, three.0)) (λ h. elim (at-most-or-more b 159) [ inl k ↦ k | inr k ↦ absurd (omega (arith, is, h, k, gap (omega (arith, is, h, k)))) ]) (λ h. absurd (omega arith)) (λ h. absurd (omega arith)) in
      let last : a ≡ 239 → b ≡ 191 → d ≤ 189 = λ h k. omega (arith, is, most) in
      let t : is_within 128 (third_high a b) d ≡ true = grind (arith, nat_tests, last) in
      rw (encode-three c three.0 three.1, lead-is-wide (is_allowed a) a (omega arith) (omega arith), more-is a 128 (omega arith), more-is a 224 (omega arith), less-is a 240 (omega arith), s, t, is) refl
  | inr (inr (inr four)) ↦
      let a : ℕ = 240 + c / 262144 in
      let b : ℕ = 128 + c / 4096 % 64 in
      let d : ℕ = 128 + c / 64 % 64 in
      let e : ℕ = 128 + c % 64 in
      let upper : c / 4096 ≡ c / 262144 * 64 + c / 4096 % 64 = omega arith in
      let over : c / 64 ≡ c / 4096 * 64 + c / 64 % 64 = omega arith in
      let is : (a - 240) * 262144 + (b - 128) * 4096 + (d - 128) * 64 + (e - 128) ≡ c = omega arith in
      let most = allowed-at-most c ok in
      let s = is-second a b (omega arith) (omega arith) (λ h. absurd (omega arith)) (λ h. absurd (omega arith)) (λ h. omega (arith, is, four)) (λ h. omega (arith, is, most)) in
      rw (encode-four c four, lead-is-wide (is_allowed a) a (omega arith) (omega arith), more-is a 128 (omega arith), more-is a 224 (omega arith), more-is a 240 (omega arith), s, within-tail d (omega arith) (omega arith), within-tail e (omega arith) (omega arith), is) refl
]

pub decodes : (c : ℕ) (tail : List ℕ) → is_allowed c ≡ true → any_at (encode_utf8 c ++ tail) ≡ Ok (c, tail)
decodes c tail ok = subst (Onto any_at (encode_utf8 c)) (read-plain c ok) (any-local.reads (encode_utf8 c)) tail

-- what is no character is none whatever follows, and what is cut off goes on to one
pub stuck : (bytes : List ℕ) (x : ℕ) (y more : List ℕ) → any_at bytes ≡ Err (x ∷ y) → any_at (bytes ++ more) ≡ Err (x ∷ (y ++ more))
stuck bytes x y more e = subst (Onto any_at bytes) e (any-local.reads bytes) more

pub viable : (begun : List ℕ) → any_at begun ≡ Err [] → (c : ℕ) × (more : List ℕ) × (encode_utf8 c ≡ begun ++ more) × (is_allowed c ≡ true)
viable begun u =
    let g = subst (Onto any_at begun) u (any-local.reads begun) in
    let f = found (begun ++ g.0) g.1 [] g.2 in
    (g.1, g.0, sym (f.0 ∙ append-nil (encode_utf8 g.1)), f.1)

pub lead-begins : (b : ℕ) → 194 ≤ b → b ≤ 244 → any_at (b ∷ []) ≡ Err []
unfolding any_at
lead-begins b low high =
    rw (lead-is-wide (is_allowed b) b low high, more-is b 128 (omega arith)) (cases (nat_lt b 224) (λ e. rw e refl) (λ e. cases (nat_lt b 240) (λ d. rw (e, d) refl) (λ d. rw (e, d) refl)))

-- The bytes of a character.

-- bytes beyond ASCII
abbrev pub High : List ℕ → Type 0
High [] = Unit {0}
High (b ∷ w) = (128 ≤ b) × High w

pub wide-bytes : (c : ℕ) → 128 ≤ c → (head : ℕ) × (tail : List ℕ) × (encode_utf8 c ≡ head ∷ tail) × High (head ∷ tail)
wide-bytes c h = elim (ranges c) [
  | inl small ↦ absurd (omega (arith, h, small))
  | inr (inl two) ↦ (_, _, encode-two c two.0 two.1, (omega arith, (omega arith, tt)))
  | inr (inr (inl three)) ↦ (_, _, encode-three c three.0 three.1, (omega arith, (omega arith, (omega arith, tt))))
  | inr (inr (inr four)) ↦ (_, _, encode-four c four, (omega arith, (omega arith, (omega arith, (omega arith, tt)))))
]

pub encoded : (c : ℕ) → (head : ℕ) × (tail : List ℕ) × (encode_utf8 c ≡ head ∷ tail)
encoded c = elim (at-most-or-more 128 c) [ inl high ↦ let w = wide-bytes c high in (w.0, w.1, w.2) | inr low ↦ (c, [], encode_ascii c (omega (arith, low))) ]

-- an allowed character is a code point
pub allowed_inside : (c : ℕ) → is_allowed c ≡ true → OutOfScalarRange c → ⊥
allowed_inside c e (inl out) = omega (arith, out.0, out.1, allowed-no-surrogate c e out.0)
allowed_inside c e (inr out) = omega (arith, out, allowed-at-most c e)

-- one thing behind another
pub read_after : {A B : Type 0} (s : Step A) (next : A → List ℕ → Step B) (value : A) (mid : List ℕ) (result : Option B) (left : List ℕ) → ReadSo s (Some value) mid → ReadSo (next value mid) result left → ReadSo (after s next) result left
read_after (Ok found) next value mid result left h g = rw (← h.0, ← h.1) g
read_after (Err rest) next value mid result left h g = absurd h

-- what is read
pub read_allowed : (bytes : List ℕ) (code : ℕ) (left : List ℕ) → ReadSo (any_at bytes) (Some code) left → is_allowed code ≡ true
read_allowed bytes code left h = by (any_at bytes) refl h where
  by : (s : Step ℕ) → any_at bytes ≡ s → ReadSo s (Some code) left → is_allowed code ≡ true
  by (Ok (c, rest)) e h = ap is_allowed h.0 ∙ (found bytes c rest e).1
  by (Err rest) e h = absurd h

pub read_whole : (s : Step ℕ) (code : ℕ) (left : List ℕ) → ReadSo s (Some code) left → DecodesSo s (Whole code)
read_whole (Ok (c, rest)) code left h = h.0
read_whole (Err rest) code left h = absurd h

pub read_more : (s : Step ℕ) (left : List ℕ) → ReadSo s None left → (length left == 0) ≡ true → DecodesSo s More
read_more (Ok (c, rest)) left h e = absurd h
read_more (Err []) left h e = tt
read_more (Err (b ∷ rest)) left h e = no-cons (sym (empty-is (b ∷ rest) (sym (ap (λ xs. length xs == 0) h) ∙ e)))

pub read_broken : (s : Step ℕ) (left : List ℕ) → ReadSo s None left → (length left == 0) ≡ false → DecodesSo s NoCharacter
read_broken (Ok (c, rest)) left h e = absurd h
read_broken (Err []) left h e = clash (ap (λ xs. length xs == 0) h) e
read_broken (Err (b ∷ rest)) left h e = tt

-- a byte below U+0080
pub ascii_whole : (b : ℕ) → b < 128 → is_allowed b ≡ true → any_at (b ∷ []) ≡ Ok (b, [])
ascii_whole b low e = ap any_at (sym (append-nil (encode_utf8 b) ∙ encode_ascii b low)) ∙ decodes b [] e

pub ascii_none : (b : ℕ) → b < 128 → is_allowed b ≡ false → any_at (b ∷ []) ≡ Err (b ∷ [])
unfolding any_at
ascii_none b low e = let none : begins_character b ≡ false = rw e (grind (arith, nat_tests)) in rw none refl

pub plain_byte : (r : Reading) (b : ℕ) (result : Result (Option ℕ) MachineError) → r.begun ≡ [] → AsciiSo b result → ByteSo r b result r
plain_byte r b (Ok (Some c)) e h = (rw (e, h) refl, ap (λ xs. reading xs r.mode r.opens) e)
plain_byte r b (Err Broken) e h = rw (e, h) refl
plain_byte r b other e h = absurd h

-- a byte of a character of more than one
module _ (mode : Mode) (opens : List Open) (begun bytes : List ℕ) (b : ℕ) (is : bytes ≡ begun ++ b ∷ []) where
  pub wide_whole : (c : ℕ) → DecodesSo (any_at bytes) (Whole c) → go_on mode opens (begun ++ b ∷ []) (any_at (begun ++ b ∷ [])) ≡ moved (step mode opens c)
  wide_whole c h = rw (← is) (by (any_at bytes) h) where
    by : (s : Step ℕ) → DecodesSo s (Whole c) → go_on mode opens bytes s ≡ moved (step mode opens c)
    by (Ok (d, rest)) h = rw h refl
    by (Err []) h = absurd h
    by (Err (x ∷ rest)) h = absurd h

  more : (s : Step ℕ) → DecodesSo s More → s ≡ Err []
  more (Err []) h = refl
  more other h = absurd h

  pub wide_more : DecodesSo (any_at bytes) More → may_begin mode opens bytes ≡ true → go_on mode opens (begun ++ b ∷ []) (any_at (begun ++ b ∷ [])) ≡ Some (reading bytes mode opens, [])
  wide_more h e = rw (← is, more (any_at bytes) h, e) refl

  pub wide_stuck : DecodesSo (any_at bytes) More → may_begin mode opens bytes ≡ false → go_on mode opens (begun ++ b ∷ []) (any_at (begun ++ b ∷ [])) ≡ None
  wide_stuck h e = rw (← is, more (any_at bytes) h, e) refl

  pub wide_broken : DecodesSo (any_at bytes) NoCharacter → go_on mode opens (begun ++ b ∷ []) (any_at (begun ++ b ∷ [])) ≡ None
  wide_broken h = rw (← is) (by (any_at bytes) h) where
    by : (s : Step ℕ) → DecodesSo s NoCharacter → go_on mode opens bytes s ≡ None
    by (Err (x ∷ rest)) h = refl
    by other h = absurd h

-- a byte
pub step_deep : (r : Reading) (b : ℕ) → is_deep r b ≡ true → judge r b ≡ Err Deep
step_deep r b e = rw e refl

pub step_none : (r now : Reading) (b : ℕ) → is_deep r b ≡ false → byte_step r b ≡ Some (now, []) → judge r b ≡ Ok (now, [])
step_none r now b e f = rw (e, f) refl

pub step_whole : (r s now : Reading) (b c : ℕ) (result : Result (Option Event) MachineError) → is_deep r b ≡ false → byte_step r b ≡ moved (step r.mode r.opens c) → s ≡ reading [] r.mode r.opens → WholeSo s c result now → JudgedSo r b result now
step_whole r s now b c result e f d h = by result (rw d at h) where
  by : (result : Result (Option Event) MachineError) → WholeSo (reading [] r.mode r.opens) c result now → JudgedSo r b result now
  by (Ok (Some event)) h = (h.0, rw (e, f) h.1, h.2)
  by (Err OutOfMemory) h = h
  by other h = rw (e, f) h

-- a whole character that is refused, or completes nothing
pub whole_refused : (r now : Reading) (c : ℕ) (stop : MachineError) (mode : Mode) → MovesSo r.opens (step r.mode r.opens c) (Err stop) mode → WholeSo r c (Err stop) now
whole_refused r now c Broken mode h = rw h refl
whole_refused r now c OutOfMemory mode h = tt
whole_refused r now c other mode h = absurd h

pub whole_nothing : (r now : Reading) (c : ℕ) (mode : Mode) → MovesSo r.opens (step r.mode r.opens c) (Ok None) mode → now ≡ reading [] mode r.opens → WholeSo r c (Ok None) now
whole_nothing r now c mode h e = rw (h, e) refl

-- a token that is taken
pub whole_token : (r s now : Reading) (c : ℕ) (mode : Mode) (t : Token) (event : Event) → MovesSo r.opens (step r.mode r.opens c) (Ok (Some t)) mode → s ≡ reading [] mode r.opens → TakenSo s t (Ok event) now → WholeSo r c (Ok (Some event)) now
whole_token r s now c mode t event h e g = let k = subst (λ x. TakenSo x t (Ok event) now) e g in (t, rw (h, k.0) refl ∙ ap (λ x. Ok (x, t ∷ [])) (sym k.2), k.1)

pub whole_broken : (r s now later : Reading) (c : ℕ) (mode : Mode) (t : Token) (stop : MachineError) → MovesSo r.opens (step r.mode r.opens c) (Ok (Some t)) mode → s ≡ reading [] mode r.opens → TakenSo s t (Err stop) now → WholeSo r c (Err stop) later
whole_broken r s now later c mode t NamespaceRule h e g = let k = subst (λ x. TakenSo x t (Err NamespaceRule) now) e g in rw (h, k) refl
whole_broken r s now later c mode t OutOfMemory h e g = tt
whole_broken r s now later c mode t other h e g = absurd g

-- a byte that is refused
pub judged_refused : (r now later : Reading) (b : ℕ) (stop : MachineError) → is_deep r b ≡ false → ByteSo r b (Err stop) now → JudgedSo r b (Err stop) later
judged_refused r now later b Broken e h = rw (e, h) refl
judged_refused r now later b OutOfMemory e h = tt
judged_refused r now later b other e h = absurd h

-- a byte at a place, with what it completes
not-full : (most at : ℕ) → at < most → nat_le most at ≡ false
not-full most at h = grind (arith, nat_tests)

pub next_event : (p : Progress) (b : ℕ) (event : Option Event) (now : Reading) → p.at < INPUT_LIMIT → JudgedSo p.read b (Ok event) now → NextSo p b (Ok event) (progressed now (p.at + 1))
next_event p b None now h j = (not-full INPUT_LIMIT p.at h, refl, j)
next_event p b (Some e) now h j = (not-full INPUT_LIMIT p.at h, refl, j)

pub next_stopped : (p q : Progress) (b : ℕ) (stop : MachineError) (now : Reading) → p.at < INPUT_LIMIT → JudgedSo p.read b (Err stop) now → NextSo p b (Err (refusal stop p.at)) q
next_stopped p q b OutOfMemory now h j = tt
next_stopped p q b stop now h j = rw (not-full INPUT_LIMIT p.at h, j) refl

pub next_long : (p q : Progress) (b : ℕ) → INPUT_LIMIT ≤ p.at → NextSo p b (Err TooLong) q
next_long p q b h = let full : nat_le INPUT_LIMIT p.at ≡ true = grind (arith, nat_tests) in rw full refl

-- where a token leads, and whether the root is over
over-is : (opens : List Open) (root_state : RootState) → is_over opens root_state ≡ (is_content root_state && (length opens == 0))
over-is [] root_state = by-test (λ t. t ≡ (t && (0 == 0))) refl refl (is_content root_state)
over-is (o ∷ outer) root_state = grind (arith, nat_tests)

-- a character inside the root, behind which it may be over
inside-so : (opens : List Open) (next : Next RootState Given) (said : Result (Option Token) MachineError) (root_state : RootState) (over : Bool) → RootSo opens next said root_state → (is_content root_state && is_last said opens) ≡ over → MovesSo opens (inside_move opens next) said (cond over (Epilog Blanks) (Inside root_state))
inside-so opens next (Err OutOfMemory) root_state over h e = tt
inside-so opens Stuck (Err Broken) root_state over h e = refl
inside-so opens (On t) (Ok None) root_state over h e = subst (λ o. To (Inside t) opens [] ≡ To (cond o (Epilog Blanks) (Inside root_state)) opens []) (sym (and-no (is_content root_state)) ∙ e) (ap (λ x. To (Inside x) opens []) (sym h))
inside-so opens (Done g) (Ok (Some token)) root_state over h e = ap landed h ∙ ap (λ t. To (cond t (Epilog Blanks) (Inside root_state)) (opens_after token opens) (token ∷ [])) (over-is (opens_after token opens) root_state ∙ e)
inside-so opens next said root_state over h e = absurd h

pub inside_over : (opens : List Open) (next : Next RootState Given) (said : Result (Option Token) MachineError) (root_state : RootState) → RootSo opens next said root_state → (is_content root_state && is_last said opens) ≡ true → MovesSo opens (inside_move opens next) said (Epilog Blanks)
inside_over opens next said root_state h e = inside-so opens next said root_state true h e

pub inside_on : (opens : List Open) (next : Next RootState Given) (said : Result (Option Token) MachineError) (root_state : RootState) → RootSo opens next said root_state → (is_content root_state && is_last said opens) ≡ false → MovesSo opens (inside_move opens next) said (Inside root_state)
inside_on opens next said root_state h e = inside-so opens next said root_state false h e

module _ {M A : Type 0} where
  pub named_ends :
      (next : Option NameState) (on : NameState → M) (whole : Bool) (q p : QName) (behind : QName → Next M A) (now : NameState) (result : Result (Option A) MachineError) (m : M)
      → NamedSo next whole q (Ok (Ends p)) now → Agrees (behind p) result m → Agrees (named_or next on whole (behind q)) result m
  named_ends None on true q p behind now result m h g = subst (λ x. Agrees (behind x) result m) h g
  named_ends next on whole q p behind now result m h g = absurd h

  pub named_breaks :
      (next : Option NameState) (on : NameState → M) (whole : Bool) (q : QName) (behind : Next M A) (now : NameState) (m : M)
      → NamedSo next whole q (Ok Breaks) now → Agrees (named_or next on whole behind) (Err Broken) m
  named_breaks None on false q behind now m h = tt
  named_breaks next on whole q behind now m h = absurd h

-- A machine inside another one.
module _ {M A : Type 0} (opens : List Open) where
  pub root_err : (next : Next M A) (on : M → RootState) (done : A → Next RootState Given) (stop : MachineError) (now : M) (root_state : RootState) → Agrees next (Err stop) now → RootSo opens (leads next on done) (Err stop) root_state
  root_err next on done OutOfMemory now root_state h = tt
  root_err Stuck on done Broken now root_state h = tt
  root_err next on done stop now root_state h = absurd h

  pub root_on : (next : Next M A) (on : M → RootState) (done : A → Next RootState Given) (now : M) → Agrees next (Ok None) now → RootSo opens (leads next on done) (Ok None) (on now)
  root_on (On x) on done now h = ap on h
  root_on next on done now h = absurd h

  pub root_done :
      (next : Next M A) (on : M → RootState) (done : A → Next RootState Given) (now : M) (a : A) (token : Token) (root_state : RootState)
      → Agrees next (Ok (Some a)) now → RootSo opens (done a) (Ok (Some token)) root_state → RootSo opens (leads next on done) (Ok (Some token)) root_state
  root_done (Done b) on done now a token root_state h g = subst (λ x. RootSo opens (done x) (Ok (Some token)) root_state) h g
  root_done next on done now a token root_state h g = absurd h

get-none : (xs : List ℕ) (at : ℕ) → slice_get xs at ≡ None → drop at xs ≡ []
get-none [] zero e = refl
get-none [] (suc at) e = refl
get-none (x ∷ xs) zero e = absurd (cc)
get-none (x ∷ xs) (suc at) e = get-none xs at e

get-some : (xs : List ℕ) (at b : ℕ) → slice_get xs at ≡ Some b → drop at xs ≡ b ∷ drop (suc at) xs
get-some [] at b e = absurd (cc)
get-some (x ∷ xs) zero b e = ap (λ y. y ∷ xs) (some-is e)
get-some (x ∷ xs) (suc at) b e = get-some xs at b e

-- one byte more
pub stands_on : (name : List ℕ) (at first byte : ℕ) (rest : List ℕ) → slice_get name at ≡ Some byte → byte ≡ first → begins_with (drop (at + 1) name) rest ≡ begins_with (drop at name) (first ∷ rest)
stands_on name at first byte rest e f =
    let next : at + 1 ≡ suc at = omega arith in
    let same : (first == byte) ≡ true = grind (arith, nat_tests) in
    rw (next, get-some name at byte e, same) refl

pub stands_other : (name : List ℕ) (at first byte : ℕ) (rest : List ℕ) → slice_get name at ≡ Some byte → byte ≢ first → begins_with (drop at name) (first ∷ rest) ≡ false
stands_other name at first byte rest e n =
    let other : (first == byte) ≡ false = grind (arith, nat_tests) in
    rw (get-some name at byte e, other) refl

pub stands_none : (name : List ℕ) (at first : ℕ) (rest : List ℕ) → slice_get name at ≡ None → begins_with (drop at name) (first ∷ rest) ≡ false
stands_none name at first rest e = rw (get-none name at e) refl

-- as many bytes as stand there
pub stands_here : (name bytes : List ℕ) (at : ℕ) → StandsUpTo name at bytes at
stands_here name bytes at = record { count = 0; within = omega arith; stands = (refl, omega arith) }

pub stands_more : (name rest : List ℕ) (at first byte place : ℕ) → slice_get name at ≡ Some byte → byte ≡ first → StandsUpTo name (at + 1) rest place → StandsUpTo name at (first ∷ rest) place
stands_more name rest at first byte place e f h =
    let front : take (h.count + 1) (first ∷ rest) ≡ first ∷ take h.count rest = rw add-one refl in
    record {
      count = h.count + 1;
      within = omega (arith, h.within);
      stands = subst (λ w. StandsSo name at w (Some place)) (sym front) (sym (stands_on name at first byte (take h.count rest) e f) ∙ h.stands.0, omega (arith, h.stands.1));
    }

-- the end of the name
pub none_over : (name : List ℕ) (at : ℕ) → slice_get name at ≡ None → is-spent (drop at name) ≡ true
none_over name at e = rw (get-none name at e) refl

pub some_over : (name : List ℕ) (at b : ℕ) → slice_get name at ≡ Some b → is-spent (drop at name) ≡ false
some_over name at b e = rw (get-some name at b e) refl

pub end_over : (opens : List Open) (n : ℕ) (left : List ℕ) (outer : List Open) (c : ℕ) (result : Result (Option Token) MachineError) (now : RootState) → is-spent left ≡ true → RootSo opens (end_blanks_step n outer c) result now → RootSo opens (end_name_step n left outer c) result now
end_over opens n [] outer c result now e h = h
end_over opens n (b ∷ left) outer c result now e h = absurd (cc)

name-on : (n : ℕ) (left : List ℕ) (outer : List Open) (c : ℕ) → is-spent left ≡ false → end_name_step n left outer c ≡ cond (begins_with left (encode_utf8 c)) (On (EndTag (n + length (encode_utf8 c)))) Stuck
name-on n [] outer c e = absurd (cc)
name-on n (b ∷ left) outer c e = refl

-- a byte of it
pub end_goes : (opens : List Open) (n behind : ℕ) (name : List ℕ) (outer : List Open) (c : ℕ) → is-spent (drop n name) ≡ false → StandsSo name n (encode_utf8 c) (Some behind) → RootSo opens (end_name_step n (drop n name) outer c) (Ok None) (EndTag behind)
end_goes opens n behind name outer c e h = rw (name-on n (drop n name) outer c e, h.0) (ap (λ m. EndTag m) h.1)

pub end_stuck : (opens : List Open) (n : ℕ) (name : List ℕ) (outer : List Open) (c : ℕ) (now : RootState) → is-spent (drop n name) ≡ false → StandsSo name n (encode_utf8 c) None → RootSo opens (end_name_step n (drop n name) outer c) (Err Broken) now
end_stuck opens n name outer c now e h = rw (name-on n (drop n name) outer c e, h) tt

get-front : (xs ys : List ℕ) (at : ℕ) → at < length xs → slice_get (xs ++ ys) at ≡ slice_get xs at
get-front [] ys at h = absurd (omega (arith, h))
get-front (x ∷ xs) ys zero h = refl
get-front (x ∷ xs) ys (suc at) h = get-front xs ys at (omega (arith, h))

get-seam : (xs ys : List ℕ) (y : ℕ) → slice_get (xs ++ y ∷ ys) (length xs) ≡ Some y
get-seam [] ys y = refl
get-seam (x ∷ xs) ys y = get-seam xs ys y

get-back : (xs ys : List ℕ) (y at : ℕ) → length xs < at → slice_get (xs ++ y ∷ ys) at ≡ slice_get ys (at - length xs - 1)
get-back [] ys y (suc at) h = let e : at ≡ suc at - 0 - 1 = omega arith in ap (slice_get ys) e
get-back (x ∷ xs) ys y (suc at) h =
    let e : at - length xs - 1 ≡ suc at - suc (length xs) - 1 = omega arith in
    get-back xs ys y at (omega (arith, h)) ∙ ap (slice_get ys) e
get-back other ys y zero h = absurd (omega (arith, h))

-- a prefix, the colon and what follows
written : (x : ℕ) (xs local : List ℕ) (at : ℕ) → slice_get (written_name (x ∷ xs) local) at ≡ slice_get ((x ∷ xs) ++ 58 ∷ local) at
written x xs local at = ap (λ w. slice_get w at) (append_assoc (x ∷ xs) (58 ∷ []) local)

pub name_plain : (prefix local : List ℕ) (at : ℕ) → (length prefix == 0) ≡ true → slice_get (written_name prefix local) at ≡ slice_get local at
name_plain [] local at e = refl
name_plain (x ∷ xs) local at e = no-cons (sym (empty-is (x ∷ xs) e))

pub name_front : (prefix local : List ℕ) (at : ℕ) → nat_lt at (length prefix) ≡ true → slice_get (written_name prefix local) at ≡ slice_get prefix at
name_front [] local at e = let none : at < 0 = grind (arith, nat_tests) in absurd (omega (arith, none))
name_front (x ∷ xs) local at e = let less : at < length (x ∷ xs) = grind (arith, nat_tests) in written x xs local at ∙ get-front (x ∷ xs) (58 ∷ local) at less

pub name_colon : (prefix local : List ℕ) (at : ℕ) → (length prefix == 0) ≡ false → (at == length prefix) ≡ true → slice_get (written_name prefix local) at ≡ Some 58
name_colon [] local at e f = absurd (cc)
name_colon (x ∷ xs) local at e f = let same : at ≡ length (x ∷ xs) = grind (arith, nat_tests) in written x xs local at ∙ ap (slice_get ((x ∷ xs) ++ 58 ∷ local)) same ∙ get-seam (x ∷ xs) local 58

pub name_back : (prefix local : List ℕ) (at : ℕ) → (length prefix == 0) ≡ false → nat_lt at (length prefix) ≡ false → (at == length prefix) ≡ false → slice_get (written_name prefix local) at ≡ slice_get local (at - length prefix - 1)
name_back [] local at e f g = absurd (cc)
name_back (x ∷ xs) local at e f g = let more : length (x ∷ xs) < at = grind (arith, nat_tests) in written x xs local at ∙ get-back (x ∷ xs) local 58 at more

-- room for one more
pub get_room : (xs : List ℕ) (most at place : ℕ) → length xs < most → place ≡ at → (result : Option ℕ) → result ≡ slice_get xs at → IfSome result (λ b. place < most)
get_room xs most at place h e None f = tt
get_room xs most at place h e (Some b) f = omega (arith, h, e, slice_get_within xs at b (sym f))

pub name_alone : (prefix local : List ℕ) → length prefix ≡ 0 → written_name prefix local ≡ local
name_alone [] local e = refl
name_alone (x ∷ prefix) local e = absurd (omega arith)

pub name_prefixed : (prefix local : List ℕ) → length prefix ≢ 0 → written_name prefix local ≡ (prefix ++ codes ":") ++ local
name_prefixed [] local e = absurd (e refl)
name_prefixed (x ∷ prefix) local e = refl

pub written_more : (xs ys : List TagAttr) → written_attrs (xs ++ ys) ≡ written_attrs xs ++ written_attrs ys
written_more xs ys = flat_map-append written_attr xs ys

-- one attribute more
pub attr_more : (before : ℕ) (a : Attr) (more : List Attr) → written_attrs (tag_attrs before (a ∷ more)) ≡ written_attrs (with_name before a) ++ written_attrs (tag_attrs (counted before a) more)
attr_more before a more = written_more (with_name before a) (tag_attrs (counted before a) more)

pub counted_most : (before : ℕ) (a : Attr) → counted before a ≤ before + 1
counted_most before a = grind arith
