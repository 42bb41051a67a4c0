-- Characters in bytes, forms that say the same of the same bytes, which form a machine reads, and where its words lead.
use Rattle.std.proofs.Common.{◌≡◌, ◌==◌, ℕ, zero, suc, ◌<◌, ◌≤◌, ◌⊎◌, inl, inr, Bool, true, false, cond, Option, Some, None, List, [], ◌∷◌, ◌++◌, length, refl, sym, ap, subst, ◌∙◌, arith, append_assoc, encode_utf8, codes, nat_lt, ◌&&◌}
use Rattle.cds_markup.proofs.Terms.{nat_tests, append-nil, length-append, encode_ascii, is_allowed, is_blank, is_any, Next, Stuck, On, Done, leads, comes, Byte, Character, Word, Then, Says, Many, Maybe, IsBlanks, IsSpace, IsEquals, Nowhere, begins_name, Open, DeclarationState, Xml, Misc, Blanks, MiscLess, Mode, Begin, Marked, First, Declaration, Prolog, step_declaration, Move, To, misc_step, root_move, prolog_move, marked_move, step, RootState, Inside, Epilog, Given, step_root, is_over, is_behind, byte_order_mark, any_at, no-cons, cases, and-first, and-second, is-byte}
use Rattle.cds_markup.proofs.Decoded.{encode-three, ok_same, decodes, encoded}
pub use Rattle.cds_markup.proofs.Terms.{next-by, cases, Enters, Takes, Steps, steps-then, is-byte, same-byte, taken-if, and-both, and-first, and-second, clash, either-if, only-if, some-is, heads, by-test, takes-then, no-cons, steps-done, and-no, takes-last, holds, holds-if, holds-named, leads-any, Anything, steps-on, none-behind, empty-is, ok-err, holds-leads}

-- Characters in bytes: a text of allowed characters is spelled in one way, and is cut only between characters.

-- the bytes of characters
abbrev pub bytes_of : List ℕ → List ℕ
bytes_of [] = []
bytes_of (c ∷ w) = encode_utf8 c ++ bytes_of w

abbrev pub Allowed : List ℕ → Type 0
Allowed [] = Unit {0}
Allowed (c ∷ w) = (is_allowed c ≡ true) × Allowed w

-- the byte order mark
pub mark-bytes : bytes_of (65279 ∷ []) ≡ byte_order_mark
mark-bytes = rw (encode-three 65279 (omega arith) (omega arith)) refl

pub bytes-append : (v w : List ℕ) → bytes_of (v ++ w) ≡ bytes_of v ++ bytes_of w
bytes-append [] w = refl
bytes-append (c ∷ v) w = ap (λ xs. encode_utf8 c ++ xs) (bytes-append v w) ∙ sym (append_assoc (encode_utf8 c) (bytes_of v) (bytes_of w))

pub allowed-append : (v w : List ℕ) → Allowed v → Allowed w → Allowed (v ++ w)
allowed-append [] w a b = b
allowed-append (c ∷ v) w a b = (a.0, allowed-append v w a.1 b)

pub allowed-apart : (v w : List ℕ) → Allowed (v ++ w) → Allowed v × Allowed w
allowed-apart [] w a = (tt, a)
allowed-apart (c ∷ v) w a = let r = allowed-apart v w a.1 in ((a.0, r.0), r.1)

-- the first character
pub same-first : (c d : ℕ) (x y : List ℕ) → is_allowed c ≡ true → is_allowed d ≡ true → encode_utf8 c ++ x ≡ encode_utf8 d ++ y → (c ≡ d) × (x ≡ y)
same-first c d x y a b e = ok_same c d x y (sym (decodes c x a) ∙ ap any_at e ∙ decodes d y b)

pub none-spelled : (c : ℕ) (x : List ℕ) → [] ≡ encode_utf8 c ++ x → ⊥
none-spelled c x e = let s = encoded c in no-cons {a = s.0} {xs = s.1 ++ x} (e ∙ ap (λ xs. xs ++ x) s.2)

-- characters that begin bytes begin the characters of the bytes
pub cut : (w u tail : List ℕ) → Allowed w → Allowed u → bytes_of w ≡ bytes_of u ++ tail → (left : List ℕ) × (w ≡ u ++ left) × (tail ≡ bytes_of left)
cut w [] tail a b e = (w, refl, sym e)
cut [] (d ∷ u) tail a b e = absurd (none-spelled d (bytes_of u ++ tail) (e ∙ append_assoc (encode_utf8 d) (bytes_of u) tail))
cut (c ∷ w) (d ∷ u) tail a b e =
    let s = same-first c d (bytes_of w) (bytes_of u ++ tail) a.0 b.0 (e ∙ append_assoc (encode_utf8 d) (bytes_of u) tail) in
    let r = cut w u tail a.1 b.1 s.1 in
    (r.0, ap (λ x. x ∷ w) s.0 ∙ ap (λ xs. d ∷ xs) r.1, r.2)

-- one byte each
abbrev pub Plain : List ℕ → Type 0
Plain [] = Unit {0}
Plain (b ∷ w) = (b < 128) × Plain w

pub plain-bytes : (w : List ℕ) → Plain w → bytes_of w ≡ w
plain-bytes [] p = refl
plain-bytes (b ∷ w) p = ap (λ xs. xs ++ bytes_of w) (encode_ascii b p.0) ∙ ap (λ xs. b ∷ xs) (plain-bytes w p.1)

pub less-bytes : (w : List ℕ) → bytes_of (60 ∷ w) ≡ 60 ∷ bytes_of w
less-bytes w = ap (λ xs. xs ++ bytes_of w) (encode_ascii 60 (omega arith))

-- words of ASCII, in allowed characters
abbrev pub is_ascii : List ℕ → Bool
is_ascii [] = true
is_ascii (b ∷ w) = (nat_lt b 128 && is_allowed b) && is_ascii w

pub ascii-first : (b : ℕ) (w : List ℕ) → is_ascii (b ∷ w) ≡ true → (b < 128) × (is_allowed b ≡ true)
ascii-first b w e = let f = and-first (nat_lt b 128 && is_allowed b) (is_ascii w) e in (grind (arith, nat_tests, and-first (nat_lt b 128) (is_allowed b) f), and-second (nat_lt b 128) (is_allowed b) f)

pub ascii-rest : (b : ℕ) (w : List ℕ) → is_ascii (b ∷ w) ≡ true → is_ascii w ≡ true
ascii-rest b w e = and-second (nat_lt b 128 && is_allowed b) (is_ascii w) e

pub ascii-plain : (w : List ℕ) → is_ascii w ≡ true → Plain w × Allowed w
ascii-plain [] e = (tt, tt)
ascii-plain (b ∷ w) e =
    let f = ascii-first b w e in
    let r = ascii-plain w (ascii-rest b w e) in
    ((f.0, r.0), (f.1, r.1))

pub ascii-bytes : (w : List ℕ) → is_ascii w ≡ true → bytes_of w ≡ w
ascii-bytes w e = plain-bytes w (ascii-plain w e).0

-- the bytes of whole characters
pub record Spell (bytes : List ℕ) : Type 0 where
  pub text : List ℕ
  pub spelled : bytes ≡ bytes_of text
  pub allowed : Allowed text

-- one word behind another
pub then-of : {A B : Type 0} {G : List ℕ → A → Type 0} {H : A → List ℕ → B → Type 0} {bytes : List ℕ} {b : B} (front back : List ℕ) (a : A) → bytes ≡ front ++ back → G front a → H a back b → Then G H bytes b
then-of front back a e g h = record { front = front; back = back; what = a; spelled = e; first = g; second = h }

-- what is read in other steps
pub then-says : {A B : Type 0} (G : List ℕ → A → Type 0) (f : A → B) (bytes : List ℕ) (b : B) (a : A) → G bytes a → b ≡ f a → Then G (λ a. Says (f a)) bytes b
then-says G f bytes b a g e = record { front = bytes; back = []; what = a; spelled = sym (append-nil bytes); first = g; second = (refl, e) }

pub says-then : {A B : Type 0} (G : List ℕ → A → Type 0) (f : A → B) (bytes : List ℕ) (b : B) → Then G (λ a. Says (f a)) bytes b → (a : A) × G bytes a × (b ≡ f a)
says-then G f bytes b t =
    (t.what, subst (λ xs. G xs t.what) (sym (t.spelled ∙ ap (λ xs. t.front ++ xs) t.second.0 ∙ append-nil t.front)) t.first, t.second.1)

-- white space
pub no-blanks : IsBlanks [] tt
no-blanks = then-says (Many (Byte is_blank)) (λ bs. tt) [] tt [] refl refl

pub blank-small : (b : ℕ) → is_blank b ≡ true → (b < 128) × (is_allowed b ≡ true)
blank-small b e = (grind (arith, nat_tests), grind (arith, nat_tests))

abbrev pub Form : Type 0 → Type 1
Form A = List ℕ → A → Type 0

-- Forms that say the same of the same bytes.
abbrev pub Alike : {A : Type 0} → Form A → Form A → Type 0
Alike {A} G H = (bytes : List ℕ) (a : A) → (G bytes a → H bytes a) × (H bytes a → G bytes a)

abbrev pub Or : {A : Type 0} → Form A → Form A → Form A
Or G H bytes a = G bytes a ⊎ H bytes a

module _ {A : Type 0} where
  pub same : (G : Form A) → Alike G G
  same G bytes a = (λ g. g, λ g. g)

  pub also : {G H K : Form A} → Alike G H → Alike H K → Alike G K
  also g h bytes a = (λ x. (h bytes a).0 ((g bytes a).0 x), λ z. (g bytes a).1 ((h bytes a).1 z))

  pub turned : {G H : Form A} → Alike G H → Alike H G
  turned g bytes a = ((g bytes a).1, (g bytes a).0)

  pub or-alike : {G H K L : Form A} → Alike G K → Alike H L → Alike (Or G H) (Or K L)
  or-alike g h bytes a = (λ s. elim s [ inl x ↦ inl ((g bytes a).0 x) | inr y ↦ inr ((h bytes a).0 y) ], λ s. elim s [ inl x ↦ inl ((g bytes a).1 x) | inr y ↦ inr ((h bytes a).1 y) ])

  pub or-turned : (G H : Form A) → Alike (Or G H) (Or H G)
  or-turned G H bytes a = (λ s. elim s [ inl g ↦ inr g | inr h ↦ inl h ], λ s. elim s [ inl h ↦ inr h | inr g ↦ inl g ])

  -- one form behind another
  pub then-alike : {B : Type 0} {G K : Form B} {H L : B → Form A} → Alike G K → ((b : B) → Alike (H b) (L b)) → Alike (Then G H) (Then K L)
  then-alike g h bytes a = (
    λ t. then-of t.front t.back t.what t.spelled ((g t.front t.what).0 t.first) ((h t.what t.back a).0 t.second),
    λ t. then-of t.front t.back t.what t.spelled ((g t.front t.what).1 t.first) ((h t.what t.back a).1 t.second),
  )

  pub assoc : {B C : Type 0} (G : Form B) (H : B → Form C) (K : C → Form A) → Alike (Then G (λ b. Then (H b) K)) (Then (Then G H) K)
  assoc G H K bytes a = (
    λ t. let s = t.second in then-of (t.front ++ s.front) s.back s.what (t.spelled ∙ ap (λ xs. t.front ++ xs) s.spelled ∙ sym (append_assoc t.front s.front s.back)) (then-of t.front s.front t.what refl t.first s.first) s.second,
    λ t. let s = t.first in then-of s.front (s.back ++ t.back) s.what (t.spelled ∙ ap (λ xs. xs ++ t.back) s.spelled ∙ append_assoc s.front s.back t.back) s.first (then-of s.back t.back t.what refl s.second t.second),
  )

  pub says-alike : {B : Type 0} (b : B) (K : B → Form A) → Alike (K b) (Then (Says b) K)
  says-alike b K bytes a = (
    λ k. then-of [] bytes b refl (refl, refl) k,
    λ t. subst (λ x. K x bytes a) t.first.1 (subst (λ xs. K t.what xs a) (sym (t.spelled ∙ ap (λ xs. xs ++ t.back) t.first.0)) t.second),
  )

-- no bytes before
pub none-alike : {A : Type 0} {H : Form A} → Alike H (Then (Word []) (λ u. H))
none-alike {H = H} bytes a = (λ h. then-of [] bytes tt refl refl h, λ t. subst (λ xs. H xs a) (sym (t.spelled ∙ ap (λ xs. xs ++ t.back) t.first)) t.second)

pub word-more : {A : Type 0} {H : Form A} (v w : List ℕ) → Alike (Then (Word v) (λ u. Then (Word w) (λ u. H))) (Then (Word (v ++ w)) (λ u. H))
word-more v w bytes a = (
  λ t. let s = t.second in then-of (v ++ w) s.back tt (t.spelled ∙ ap (λ xs. xs ++ t.back) t.first ∙ ap (λ xs. v ++ xs) (s.spelled ∙ ap (λ xs. xs ++ s.back) s.first) ∙ sym (append_assoc v w s.back)) refl s.second,
  λ t. then-of v (w ++ t.back) tt (t.spelled ∙ ap (λ xs. xs ++ t.back) t.first ∙ append_assoc v w t.back) refl (then-of w t.back tt refl refl t.second),
)

pub then-or : {A B : Type 0} {G : Form B} {H K : B → Form A} → Alike (Then G (λ b. Or (H b) (K b))) (Or (Then G H) (Then G K))
then-or bytes a = (
  λ t. elim t.second [ inl h ↦ inl (then-of t.front t.back t.what t.spelled t.first h) | inr k ↦ inr (then-of t.front t.back t.what t.spelled t.first k) ],
  λ s. elim s [ inl t ↦ then-of t.front t.back t.what t.spelled t.first (inl t.second) | inr t ↦ then-of t.front t.back t.what t.spelled t.first (inr t.second) ],
)

pub or-assoc : {A : Type 0} (G H K : Form A) → Alike (Or (Or G H) K) (Or G (Or H K))
or-assoc G H K bytes a = (
  λ s. elim s [ inl x ↦ elim x [ inl g ↦ inl g | inr h ↦ inr (inl h) ] | inr k ↦ inr (inr k) ],
  λ s. elim s [ inl g ↦ inl (inl g) | inr x ↦ elim x [ inl h ↦ inl (inr h) | inr k ↦ inr k ] ],
)

-- what may be missing
pub maybe-or : {A B : Type 0} {G : Form B} (H : Option B → Form A) → Alike (Or (Then G (λ b. H (Some b))) (H None)) (Then (Maybe G) H)
maybe-or {G = G} H bytes a = (λ s. elim s [ inl t ↦ then-of t.front t.back (Some t.what) t.spelled t.first t.second | inr h ↦ then-of [] bytes None refl refl h ], λ t. by t.front t.back t.what t.first t.spelled t.second) where
  by : (front back : List ℕ) (what : Option _) → Maybe G front what → bytes ≡ front ++ back → H what back a → Or (Then G (λ b. H (Some b))) (H None) bytes a
  by front back None d e h = inr (subst (λ xs. H None xs a) (sym (e ∙ ap (λ xs. xs ++ back) d)) h)
  by front back (Some b) g e h = inl (then-of front back b e g h)

-- white space that may be missing
pub blanks-or : {A : Type 0} {H : Form A} → Alike (Or (Then IsSpace (λ u. H)) H) (Then IsBlanks (λ u. H))
blanks-or {H = H} bytes a = (
  λ s. elim s [
    | inl t ↦ let g = t.first in
        let m = g.second in
        then-of t.front t.back tt t.spelled (then-of t.front [] (g.what ∷ m.what) (sym (append-nil t.front)) (g.front, g.back, g.spelled, g.first, subst (λ xs. Many (Byte is_blank) xs m.what) (sym (m.spelled ∙ ap (λ xs. m.front ++ xs) m.second.0 ∙ append-nil m.front)) m.first) (refl, refl)) t.second
    | inr h ↦ then-of [] bytes tt refl no-blanks h
  ],
  λ t. let m = t.first in
      by t.front t.back m.what (subst (λ xs. Many (Byte is_blank) xs m.what) (sym (m.spelled ∙ ap (λ xs. m.front ++ xs) m.second.0 ∙ append-nil m.front)) m.first) t.spelled t.second,
) where
  by : (front back bs : List ℕ) → Many (Byte is_blank) front bs → bytes ≡ front ++ back → H back a → Or (Then IsSpace (λ u. H)) H bytes a
  by front back [] m e h = inr (subst (λ xs. H xs a) (sym (e ∙ ap (λ xs. xs ++ back) m)) h)
  by front back (b ∷ bs) (u, v, d, g, more) e h = inl (then-of front back tt e (then-of u v b d g (then-of v [] bs (sym (append-nil v)) more (refl, refl))) h)

-- What a machine reads to its end.
module _ {M A : Type 0} (step : M → ℕ → Next M A) where
  pub record Reads (f : ℕ → Next M A) (bytes : List ℕ) (a : A) : Type 0 where
    pub text : List ℕ
    pub spelled : bytes ≡ bytes_of text
    pub allowed : Allowed text
    pub takes : Enters step f text a

  -- what it reads behind a character
  abbrev pub Behind : Next M A → Form A
  Behind Stuck bytes a = ⊥
  Behind (On n) bytes a = Reads (step n) bytes a
  Behind (Done d) bytes a = Says d bytes a

  abbrev Onward : Next M A → Form A
  Onward next w a = comes next (λ n. Takes step n w a) (λ d. (d ≡ a) × (w ≡ []))

  onward-is : (next : Next M A) (w : List ℕ) (a : A) → Allowed w → Onward next w a → Behind next (bytes_of w) a
  onward-is Stuck w a ok h = absurd h
  onward-is (On n) w a ok h = record { text = w; spelled = refl; allowed = ok; takes = h }
  onward-is (Done d) w a ok h = (ap bytes_of h.1, sym h.0)

  is-onward : (next : Next M A) (bytes : List ℕ) (a : A) → Behind next bytes a → (w : List ℕ) × (bytes ≡ bytes_of w) × Allowed w × Onward next w a
  is-onward Stuck bytes a h = absurd h
  is-onward (On n) bytes a h = (h.text, h.spelled, h.allowed, h.takes)
  is-onward (Done d) bytes a h = ([], h.0, tt, (sym h.1, refl))

  -- by its first character
  pub reads-first : (f : ℕ → Next M A) → Alike (Reads f) (Then (Character is_any) (λ c. Behind (f c)))
  reads-first f bytes a = (λ r. is r.text r.spelled r.allowed r.takes, back) where
    is : (w : List ℕ) → bytes ≡ bytes_of w → Allowed w → Enters step f w a → Then (Character is_any) (λ c. Behind (f c)) bytes a
    is [] e ok h = absurd h
    is (c ∷ w) e ok h = then-of (encode_utf8 c) (bytes_of w) c e (record { spelled = refl; allowed = ok.0; passes = refl }) (onward-is (f c) w a ok.1 h)

    back : Then (Character is_any) (λ c. Behind (f c)) bytes a → Reads f bytes a
    back t =
        let w = is-onward (f t.what) t.back a t.second in
        record { text = t.what ∷ w.0; spelled = t.spelled ∙ ap (λ xs. xs ++ t.back) t.first.spelled ∙ ap (λ xs. encode_utf8 t.what ++ xs) w.1; allowed = (t.first.allowed, w.2); takes = w.3 }

  pub reads-as : {f g : ℕ → Next M A} {H : Form A} → ((c : ℕ) → f c ≡ g c) → Alike (Reads g) H → Alike (Reads f) H
  reads-as {f} {g} is e = also (reads-first f) (also (then-alike (same (Character is_any)) (λ c. rw (is c) (same (Behind (g c))))) (also (turned (reads-first g)) e))

  pub reads-if : (t : ℕ → Bool) (f : ℕ → Next M A) (H : ℕ → Form A) → ((c : ℕ) → t c ≡ true → Alike (Behind (f c)) (H c)) → Alike (Reads (λ c. cond (t c) (f c) Stuck)) (Then (Character t) H)
  reads-if t f H e = also (reads-first (λ c. cond (t c) (f c) Stuck)) (λ bytes a. (
    λ r. cases (t r.what) (λ d. then-of r.front r.back r.what r.spelled (record { spelled = r.first.spelled; allowed = r.first.allowed; passes = d }) ((e r.what d r.back a).0 (rw d at r.second))) (λ d. absurd (rw d at r.second)),
    λ r. then-of r.front r.back r.what r.spelled (record { spelled = r.first.spelled; allowed = r.first.allowed; passes = refl }) (rw r.first.passes ((e r.what r.first.passes r.back a).1 r.second)),
  ))

  pub reads-byte : (t : ℕ → Bool) (f : ℕ → Next M A) (H : ℕ → Form A) → ((c : ℕ) → t c ≡ true → (c < 128) × (is_allowed c ≡ true)) → ((c : ℕ) → t c ≡ true → Alike (Behind (f c)) (H c)) → Alike (Reads (λ c. cond (t c) (f c) Stuck)) (Then (Byte t) H)
  reads-byte t f H small e = also (reads-if t f H e) (then-alike (λ bytes c. (λ h. (h.spelled ∙ encode_ascii c (small c h.passes).0, h.passes), λ h. record { spelled = h.0 ∙ sym (encode_ascii c (small c h.1).0); allowed = (small c h.1).1; passes = h.1 })) (λ c. same (H c)))

  -- words, letter by letter
  pub reads-letter : (b : ℕ) (x : Next M A) (left : List ℕ) (H : Form A) → b < 128 → is_allowed b ≡ true → Alike (Behind x) (Then (Word left) (λ u. H)) → Alike (Reads (λ c. cond (c == b) x Stuck)) (Then (Word (b ∷ left)) (λ u. H))
  reads-letter b x left H low ok e =
      also (reads-byte (λ c. c == b) (λ c. x) (λ c. Then (Word left) (λ u. H)) (λ c d. let is = is-byte c b d in (subst (λ x. x < 128) (sym is) low, ap is_allowed is ∙ ok)) (λ c d. e))
      (also (λ bytes a. (λ t. then-of t.front t.back tt t.spelled (t.first.0 ∙ ap (λ x. x ∷ []) (is-byte t.what b t.first.1)) t.second, λ t. then-of t.front t.back b t.spelled (t.first, same-byte b) t.second)) (word-more (b ∷ []) left))

  pub reads-word : (S : List ℕ → M) (H : Form A) → ((b : ℕ) (left : List ℕ) → step (S (b ∷ left)) ≡ (λ c. cond (c == b) (On (S left)) Stuck)) → Alike (Reads (step (S []))) H → (left : List ℕ) → is_ascii left ≡ true → Alike (Reads (step (S left))) (Then (Word left) (λ u. H))
  reads-word S H is e [] ok = also e none-alike
  reads-word S H is e (b ∷ left) ok =
      let one = ascii-first b left ok in
      rw (is b left) (reads-letter b (On (S left)) left H one.0 one.1 (reads-word S H is e left (ascii-rest b left ok)))

  pub reads-or : (t : ℕ → Bool) (h f g : ℕ → Next M A) (G H : Form A) → ((c : ℕ) → h c ≡ cond (t c) (f c) (g c)) → ((c : ℕ) → t c ≡ true → g c ≡ Stuck) → Alike (Reads (λ c. cond (t c) (f c) Stuck)) G → Alike (Reads g) H → Alike (Reads h) (Or G H)
  reads-or t h f g G H is apart i j = also (also (reads-first h) (λ bytes a. (
    λ r. cases (t r.what) (λ d. inl (then-of r.front r.back r.what r.spelled r.first (rw d (rw (is r.what, d) at r.second)))) (λ d. inr (then-of r.front r.back r.what r.spelled r.first (rw (is r.what, d) at r.second))),
    λ s. elim s [
      | inl r ↦ then-of r.front r.back r.what r.spelled r.first (rw (is r.what) (cases (t r.what) (λ d. rw d (rw d at r.second)) (λ d. absurd (rw d at r.second))))
      | inr r ↦ then-of r.front r.back r.what r.spelled r.first (rw (is r.what) (cases (t r.what) (λ d. absurd (rw (apart r.what d) at r.second)) (λ d. rw d r.second)))
    ],
  ))) (or-alike (also (turned (reads-first (λ c. cond (t c) (f c) Stuck))) i) (also (turned (reads-first g)) j))

  -- one form any number of times
  module _ {X B : Type 0} (add : X → B → X) where
    abbrev pub added : X → List B → X
    added x [] = x
    added x (b ∷ bs) = added (add x b) bs

    pub reads-many : (L : X → ℕ → Next M A) (G : Form B) (H : X → Form A) → ((bytes : List ℕ) (b : B) → G bytes b → 0 < length bytes)
        → ((x : X) → Alike (Reads (L x)) (Or (Then G (λ b. Reads (L (add x b)))) (H x))) → (x : X) → Alike (Reads (L x)) (Then (Many G) (λ bs. H (added x bs)))
    reads-many L G H some one x bytes a = (λ r. is (length bytes) x bytes (omega arith) r, λ t. back t.what x t.front t.back bytes t.spelled t.first t.second) where
      less : {bytes : List ℕ} {K : B → Form A} (t : Then G K bytes a) → length t.back < length bytes
      less {bytes} t = omega (arith, some t.front t.what t.first, ap length t.spelled, length-append t.front t.back)

      is : (n : ℕ) (x : X) (bytes : List ℕ) → length bytes ≤ n → Reads (L x) bytes a → Then (Many G) (λ bs. H (added x bs)) bytes a
      is zero x bytes few r = elim ((one x bytes a).0 r) [ inl t ↦ absurd (omega (arith, few, less t)) | inr h ↦ then-of [] bytes [] refl refl h ]
      is (suc n) x bytes few r = elim ((one x bytes a).0 r) [
        | inl t ↦ let s = is n (add x t.what) t.back (omega (arith, few, less t)) t.second in
            then-of (t.front ++ s.front) s.back (t.what ∷ s.what) (t.spelled ∙ ap (λ xs. t.front ++ xs) s.spelled ∙ sym (append_assoc t.front s.front s.back)) (t.front, s.front, refl, t.first, s.first) s.second
        | inr h ↦ then-of [] bytes [] refl refl h
      ]

      back : (bs : List B) (x : X) (front rest bytes : List ℕ) → bytes ≡ front ++ rest → Many G front bs → H (added x bs) rest a → Reads (L x) bytes a
      back [] x front rest bytes e m h = (one x bytes a).1 (inr (subst (λ xs. H x xs a) (sym (e ∙ ap (λ xs. xs ++ rest) m)) h))
      back (b ∷ bs) x front rest bytes e (u, v, d, g, more) h =
          (one x bytes a).1 (inl (then-of u (v ++ rest) b (e ∙ ap (λ xs. xs ++ rest) d ∙ append_assoc u v rest) g (back bs (add x b) v rest (v ++ rest) refl more h)))

  -- white space and an equals sign
  pub reads-blanks : (m : M) (next : ℕ → Next M A) (H : Form A) → step m ≡ (λ c. cond (is_blank c) (On m) (next c)) → ((c : ℕ) → is_blank c ≡ true → next c ≡ Stuck) → Alike (Reads next) H → Alike (Reads (step m)) (Then IsBlanks (λ u. H))
  reads-blanks m next H is apart e =
      also (reads-many {X = Unit {0}} {B = ℕ} (λ x b. tt) (λ u. step m) (Byte is_blank) (λ u. H) (λ bytes b g. omega (arith, ap length g.0))
      (λ u. subst (λ f. Alike (Reads f) (Or (Then (Byte is_blank) (λ b. Reads (step m))) H)) (sym is) (reads-or is_blank (λ c. cond (is_blank c) (On m) (next c)) (λ c. On m) next (Then (Byte is_blank) (λ b. Reads (step m))) H (λ c. refl) apart (reads-byte is_blank (λ c. On m) (λ c. Reads (step m)) blank-small (λ c d. same (Reads (step m)))) e)) tt)
      (also (then-alike (same (Many (Byte is_blank))) (λ bs. says-alike tt (λ u. H))) (assoc (Many (Byte is_blank)) (λ bs. Says tt) (λ u. H)))

  pub reads-space : (m : M) (H : Form A) → Alike (Reads (step m)) (Then IsBlanks (λ u. H)) → Alike (Reads (λ c. cond (is_blank c) (On m) Stuck)) (Then IsSpace (λ u. H))
  reads-space m H e = also (reads-byte is_blank (λ c. On m) (λ c. Then IsBlanks (λ u. H)) blank-small (λ c d. e)) (assoc (Byte is_blank) (λ c. IsBlanks) (λ u. H))

  pub reads-equals : (m n : M) (next : ℕ → Next M A) (H : Form A) → step m ≡ (λ c. cond (is_blank c) (On m) (cond (c == 61) (On n) Stuck)) → step n ≡ (λ c. cond (is_blank c) (On n) (next c)) → ((c : ℕ) → is_blank c ≡ true → next c ≡ Stuck)
      → Alike (Reads next) H → Alike (Reads (step m)) (Then IsEquals (λ u. H))
  reads-equals m n next H is so apart e =
      also (reads-blanks m (λ c. cond (c == 61) (On n) Stuck) (Then (Word (61 ∷ [])) (λ u. Then IsBlanks (λ u. H))) is (λ c d. let other : (c == 61) ≡ false = grind (arith, nat_tests) in rw other refl)
      (reads-letter 61 (On n) [] (Then IsBlanks (λ u. H)) (omega arith) refl (also (reads-blanks n next H so apart e) none-alike)))
      (also (then-alike (same IsBlanks) (λ u. assoc (Word (61 ∷ [])) (λ u. IsBlanks) (λ u. H))) (assoc IsBlanks (λ u. Then (Word (61 ∷ [])) (λ u. IsBlanks)) (λ u. H)))

  -- bytes that lead from one state to another one, and to the end of what the machine reads
  pub record Way (m : M) (bytes : List ℕ) (n : M) : Type 0 where
    pub text : List ℕ
    pub spelled : bytes ≡ bytes_of text
    pub allowed : Allowed text
    pub steps : Steps step m text n

  abbrev pub Said : M → List ℕ → A → Type 0
  Said m bytes a = Reads (step m) bytes a

  pub way-then : {m l n : M} {front back : List ℕ} (bytes : List ℕ) → bytes ≡ front ++ back → Way m front l → Way l back n → Way m bytes n
  way-then {m} {l} {n} {front} {back} bytes e v w = record {
    text = v.text ++ w.text;
    spelled = e ∙ ap (λ xs. xs ++ back) v.spelled ∙ ap (λ xs. bytes_of v.text ++ xs) w.spelled ∙ sym (bytes-append v.text w.text);
    allowed = allowed-append v.text w.text v.allowed w.allowed;
    steps = steps-then step v.text w.text m l n v.steps w.steps;
  }

  pub way-none : {m : M} {bytes : List ℕ} → bytes ≡ [] → Way m bytes m
  way-none e = record { text = []; spelled = e; allowed = tt; steps = refl }

  -- one character
  pub way-one : {m n : M} {bytes : List ℕ} (c : ℕ) → bytes ≡ encode_utf8 c → is_allowed c ≡ true → step m c ≡ On n → Way m bytes n
  way-one {m} {n} c e ok d = record { text = c ∷ []; spelled = e ∙ sym (append-nil (encode_utf8 c)); allowed = (ok, tt); steps = subst (λ x. comes x (λ l. l ≡ n) (λ a. ⊥)) (sym d) refl }

  pub way-byte : {m n : M} {bytes : List ℕ} (c : ℕ) → bytes ≡ c ∷ [] → c < 128 → is_allowed c ≡ true → step m c ≡ On n → Way m bytes n
  way-byte c e low ok d = way-one c (e ∙ sym (encode_ascii c low)) ok d

  pub way-text : {m n : M} {bytes : List ℕ} (text : List ℕ) → is_ascii text ≡ true → bytes ≡ text → Steps step m text n → Way m bytes n
  way-text text ok e s = let a = ascii-plain text ok in record { text = text; spelled = e ∙ sym (plain-bytes text a.0); allowed = a.1; steps = s }

  -- one word any number of times
  pub way-many : {B : Type 0} {m : M} (G : List ℕ → B → Type 0) → ((bytes : List ℕ) (b : B) → G bytes b → Way m bytes m) → (bs : List B) (bytes : List ℕ) → Many G bytes bs → Way m bytes m
  way-many G one [] bytes e = way-none e
  way-many G one (b ∷ bs) bytes (front, back, e, g, more) = way-then bytes e (one front b g) (way-many G one bs back more)

-- a machine whose states are some of another one
module _ {M A N B : Type 0} (step : M → ℕ → Next M A) (outer : N → ℕ → Next N B) (to : M → N) (is : (m n : M) (c : ℕ) → step m c ≡ On n → outer (to m) c ≡ On (to n)) where
  pub steps-as : (w : List ℕ) (m n : M) → Steps step m w n → Steps outer (to m) w (to n)
  steps-as [] m n s = ap to s
  steps-as (c ∷ w) m n s = next-by (step m c) (λ e. absurd (rw e at s)) (λ l e. rw (is m l c e) (steps-as w l n (rw e at s))) (λ a e. absurd (rw e at s))

  pub way-as : {m n : M} {bytes : List ℕ} → Way step m bytes n → Way outer (to m) bytes (to n)
  way-as {m} {n} v = record { text = v.text; spelled = v.spelled; allowed = v.allowed; steps = steps-as v.text m n v.steps }

-- a machine inside another one
module _ {M A N B : Type 0} (step : M → ℕ → Next M A) (outer : N → ℕ → Next N B) (to : M → N) (over : A → Next N B) (is : (m : M) (c : ℕ) → outer (to m) c ≡ leads (step m c) to over) where
  pub takes-on : (w : List ℕ) (m : M) (a : A) (n : N) → over a ≡ On n → Takes step m w a → Steps outer (to m) w n
  takes-on [] m a n d t = absurd t
  takes-on (c ∷ w) m a n d t =
      rw (is m c) (next-by (step m c) (λ e. absurd (rw e at t)) (λ l e. rw e (takes-on w l a n d (rw e at t))) (λ b e. let h = rw e at t in rw (e, h.0, d) (rw h.1 refl)))

  pub said-on : {a : A} {bytes : List ℕ} (m : M) (n : N) → over a ≡ On n → Reads step (step m) bytes a → Way outer (to m) bytes n
  said-on {a} m n e s = record { text = s.text; spelled = s.spelled; allowed = s.allowed; steps = takes-on s.text m a n e s.takes }

-- A machine inside another one, and what that reads behind it.
module _ {M A N B : Type 0} (step : M → ℕ → Next M A) (inner : N → ℕ → Next N B) (to : N → M) (over : B → Next M A) (is : (n : N) (c : ℕ) → step (to n) c ≡ leads (inner n c) to over) where
  abbrev Led-as : (ℕ → Next M A) → (ℕ → Next N B) → Type 0
  Led-as f g = (c : ℕ) → f c ≡ leads (g c) to over

  takes-apart : (w : List ℕ) (f : ℕ → Next M A) (g : ℕ → Next N B) → Led-as f g → (a : A) → Enters step f w a → (v u : List ℕ) × (b : B) × (w ≡ v ++ u) × Enters inner g v b × Onward step (over b) u a
  takes-apart [] f g i a h = absurd h
  takes-apart (c ∷ w) f g i a h =
      next-by (g c) (λ e. absurd (rw (i c, e) at h)) (λ n e. let r = takes-apart w (step (to n)) (inner n) (is n) a (rw (i c, e) at h) in (c ∷ r.0, r.1, r.2, ap (λ xs. c ∷ xs) r.3, rw e r.4, r.5)) (λ b e. (c ∷ [], w, b, refl, rw e (refl, refl), rw (i c, e) at h))

  takes-both : (v u : List ℕ) (f : ℕ → Next M A) (g : ℕ → Next N B) → Led-as f g → (b : B) (a : A) → Enters inner g v b → Onward step (over b) u a → Enters step f (v ++ u) a
  takes-both [] u f g i b a t k = absurd t
  takes-both (c ∷ v) u f g i b a t k =
      next-by (g c) (λ e. absurd (rw e at t)) (λ n e. rw (i c, e) (takes-both v u (step (to n)) (inner n) (is n) b a (rw e at t) k)) (λ d e. let h = rw e at t in rw (i c, e, h.0) (rw h.1 k))

  pub reads-in : (f : ℕ → Next M A) (g : ℕ → Next N B) → Led-as f g → Alike (Reads step f) (Then (Reads inner g) (λ b. Behind step (over b)))
  reads-in f g i bytes a = (
    λ r. let t = takes-apart r.text f g i a r.takes in
        let all = allowed-apart t.0 t.1 (subst Allowed t.3 r.allowed) in
        then-of (bytes_of t.0) (bytes_of t.1) t.2 (r.spelled ∙ ap bytes_of t.3 ∙ bytes-append t.0 t.1) (record { text = t.0; spelled = refl; allowed = all.0; takes = t.4 }) (onward-is step (over t.2) t.1 a all.1 t.5),
    λ t. let r = t.first in
        let w = is-onward step (over t.what) t.back a t.second in
        record { text = r.text ++ w.0; spelled = t.spelled ∙ ap (λ xs. xs ++ t.back) r.spelled ∙ ap (λ xs. bytes_of r.text ++ xs) w.1 ∙ sym (bytes-append r.text w.0); allowed = allowed-append r.text w.0 r.allowed w.2; takes = takes-both r.text w.0 f g i t.what a r.takes w.3 },
  )

  -- from one of its states
  pub reads-state : (n : N) → Alike (Reads step (step (to n))) (Then (Reads inner (inner n)) (λ b. Behind step (over b)))
  reads-state n = reads-in (step (to n)) (inner n) (is n)

pub name-no-bang : (c : ℕ) → begins_name c ≡ true → (c == 33) ≡ false
name-no-bang c e = grind (arith, nat_tests)

-- The states before the root.
pub data Early : Type 0 where
  AtBegin : Early
  AtMarked : Early
  AtFirst : Early
  InDeclaration : DeclarationState → Early
  InProlog : Misc → Early

abbrev pub mode_of : Early → Mode
mode_of AtBegin = Begin
mode_of AtMarked = Marked
mode_of AtFirst = First
mode_of (InDeclaration d) = Declaration d
mode_of (InProlog m) = Prolog m

-- where a character leads, or that it is the root's
abbrev pub misc_next : Misc → ℕ → Next Early (Unit {0})
misc_next m c = leads (misc_step m c) InProlog (λ u. cond (begins_name c) (Done tt) Stuck)

abbrev pub marked_next : ℕ → Next Early (Unit {0})
marked_next c = cond (c == 60) (On AtFirst) (misc_next Blanks c)

abbrev pub early_next : Early → ℕ → Next Early (Unit {0})
early_next AtBegin c = cond (c == 65279) (On AtMarked) (marked_next c)
early_next AtMarked c = marked_next c
early_next AtFirst c = cond (c == 63) (On (InDeclaration (Xml (codes "xml")))) (misc_next MiscLess c)
early_next (InDeclaration d) c = leads (step_declaration d c) InDeclaration (λ u. On (InProlog Blanks))
early_next (InProlog m) c = misc_next m c

-- the move
abbrev pub root_or : List Open → Next Early (Unit {0}) → ℕ → Move
root_or opens Stuck c = Nowhere
root_or opens (On e) c = To (mode_of e) opens []
root_or opens (Done u) c = root_move opens c

misc-is : (opens : List Open) (next : Next Misc (Unit {0})) (c : ℕ) → prolog_move opens next c ≡ root_or opens (leads next InProlog (λ u. cond (begins_name c) (Done tt) Stuck)) c
misc-is opens (Done u) c = cases (begins_name c) (λ d. rw d (rw d refl)) (λ d. rw d refl)
misc-is opens other c = refl

marked-is : (opens : List Open) (c : ℕ) → marked_move opens c ≡ root_or opens (marked_next c) c
marked-is opens c = by-test (λ t. cond t (To First opens []) (prolog_move opens (misc_step Blanks c) c) ≡ root_or opens (cond t (On AtFirst) (misc_next Blanks c)) c) refl (misc-is opens (misc_step Blanks c) c) (c == 60)

pub step-is : (e : Early) (opens : List Open) (c : ℕ) → step (mode_of e) opens c ≡ root_or opens (early_next e c) c
step-is AtBegin opens c = by-test (λ t. cond t (To Marked opens []) (marked_move opens c) ≡ root_or opens (cond t (On AtMarked) (marked_next c)) c) refl (marked-is opens c) (c == 65279)
step-is AtMarked opens c = marked-is opens c
step-is AtFirst opens c = by-test (λ t. cond t (To (Declaration (Xml (codes "xml"))) opens []) (prolog_move opens (misc_step MiscLess c) c) ≡ root_or opens (cond t (On (InDeclaration (Xml (codes "xml")))) (misc_next MiscLess c)) c) refl (misc-is opens (misc_step MiscLess c) c) (c == 63)
step-is (InDeclaration d) opens c = next-by (step_declaration d c) (λ e. rw e refl) (λ n e. rw e refl) (λ u e. rw e refl)
step-is (InProlog m) opens c = misc-is opens (misc_step m c) c

-- a mode with what is open in it
abbrev pub Place : Type 0
Place = Mode × List Open

-- where a character leads
abbrev pub place : Move → Next Place (Unit {0})
place Nowhere = Stuck
place (To mode opens us) = On (mode, opens)

abbrev pub P : Place → ℕ → Next Place (Unit {0})
P p c = place (step p.0 p.1 c)

abbrev pub Runs : Mode → List Open → List ℕ → Mode → List Open → Type 0
Runs mode opens w m o = Steps P (mode, opens) w (m, o)

-- the rest of a document
abbrev pub Ends : Mode → List Open → List ℕ → Type 0
Ends mode opens w = (m : Mode) × (o : List Open) × Runs mode opens w m o × (is_behind m ≡ true)

-- what runs behind the first characters
pub steps-behind : {M A : Type 0} (step : M → ℕ → Next M A) (v w : List ℕ) (m l n : M) → Steps step m v l → Steps step m (v ++ w) n → Steps step l w n
steps-behind step [] w m l n s t = subst (λ x. Steps step x w n) s t
steps-behind step (c ∷ v) w m l n s t = next-by (step m c) (λ e. absurd (rw e at s)) (λ k e. steps-behind step v w k l n (rw e at s) (rw e at t)) (λ a e. absurd (rw e at s))

-- a whole token
abbrev pub landing : Given → Mode
landing g = cond (is_over g.opens g.root_state) (Epilog Blanks) (Inside g.root_state)

pub takes-run : (w : List ℕ) (start : RootState) (opens : List Open) (g : Given) → Takes (λ t c. step_root t opens c) start w g → Runs (Inside start) opens w (landing g) g.opens
takes-run w start opens g t = takes-on (λ t c. step_root t opens c) P (λ root_state. (Inside root_state, opens)) (λ g. On (landing g, g.opens)) (λ root_state c. next-by (step_root root_state opens c) (λ e. rw e refl) (λ n e. rw e refl) (λ g e. rw e refl)) w start g (landing g, g.opens) refl t
