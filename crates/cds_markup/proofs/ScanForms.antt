-- Where a word stands in a text, and where its lines end: what is known after each byte.
use Rattle.std.proofs.Common.{◌≡◌, ◌==◌, ℕ, ◌<◌, ◌≤◌, Bool, true, false, cond, not, ◌&&◌, List, [], ◌∷◌, ◌++◌, take, refl, sym, ap, subst, ◌∙◌, arith, codes, encode_utf8, ◌⊎◌, inl, inr, zero, suc, append_assoc, ◌-◌, length, slice_index, map}
use Rattle.cds_markup.proofs.Terms.{nat_tests, encode_ascii, append-nil, length-append, take-append_seam, contains, is_any, Without, brackets_with, closes_section, without_brackets, Word, Character, Then, Says, Many, Next, step_comment, step_section, without_feed, lone_returns, line_ends, line_end_says, is-byte}
use Rattle.cds_markup.proofs.Ways.{by-test, is-byte, and-both, and-first, and-second, cases, clash, Takes, bytes_of, Allowed, bytes-append, allowed-append, allowed-apart, plain-bytes, ascii-bytes, ascii-plain, Alike, Reads, then-of, then-says, says-then}
use Rattle.cds_markup.proofs.Decoded.{High, at-most-or-more, wide-bytes}

-- a function of a text from a state that passes over each byte past ASCII
module _ {A : Type 0} (f : ℕ → List ℕ → A) (skip : (n b : ℕ) (u : List ℕ) → 128 ≤ b → f n (b ∷ u) ≡ f 0 u) where
  skip-all : (ws u : List ℕ) → High ws → f 0 (ws ++ u) ≡ f 0 u
  skip-all [] u h = refl
  skip-all (b ∷ ws) u h = skip 0 b (ws ++ u) h.0 ∙ skip-all ws u h.1

  pub skip-wide : (n c : ℕ) (u : List ℕ) → 128 ≤ c → f n (encode_utf8 c ++ u) ≡ f 0 u
  skip-wide n c u low = let w = wide-bytes c low in ap (λ xs. f n (xs ++ u)) w.2 ∙ skip n w.0 (w.1 ++ u) w.3.0 ∙ skip-all w.1 u w.3.1

pub small-one : {A : Type 0} (f : List ℕ → A) (c : ℕ) (u : List ℕ) → c < 128 → f (encode_utf8 c ++ u) ≡ f (c ∷ u)
small-one f c u low = ap (λ xs. f (xs ++ u)) (encode_ascii c low)

-- `]]>`: no byte closes, and how many brackets stand at the end
abbrev pub clean : ℕ → List ℕ → Bool
clean n [] = true
clean n (b ∷ t) = not (closes_section n b) && clean (brackets_with n b) t

abbrev pub state : ℕ → List ℕ → ℕ
state n [] = n
state n (b ∷ t) = state (brackets_with n b) t

pub wide-open : (n b : ℕ) → 128 ≤ b → closes_section n b ≡ false
wide-open n b h = grind (arith, nat_tests)

clean-skip : (n b : ℕ) (u : List ℕ) → 128 ≤ b → clean n (b ∷ u) ≡ clean 0 u
clean-skip n b u h = ap (λ t. not t && clean (brackets_with n b) u) (wide-open n b h) ∙ ap (λ m. clean m u) (grind (arith, nat_tests))

pub small-or-wide : (c : ℕ) → (c < 128) ⊎ (128 ≤ c)
small-or-wide c = elim (at-most-or-more 128 c) [ inl high ↦ inr high | inr low ↦ inl (omega (arith, low)) ]

-- the bytes that a state stands for
pub other-way : (b c : ℕ) → (b == c) ≡ false → (c == b) ≡ false
other-way b c e = grind (arith, nat_tests)

abbrev Known : List ℕ → Type 0
Known t =
    (contains (codes "]]>") t ≡ not (clean 0 t)) × (contains (codes "]]>") (93 ∷ t) ≡ not (clean 1 t)) × (contains (codes "]]>") (93 ∷ 93 ∷ t) ≡ not (clean 2 t))

known : (t : List ℕ) → Known t
known [] = (refl, refl, refl)
known (b ∷ t) = by (b == 93) (b == 62) refl refl (known t) where
  by : (s u : Bool) → (b == 93) ≡ s → (b == 62) ≡ u → Known t → Known (b ∷ t)
  by true u e d k = subst (λ x. Known (x ∷ t)) (sym (is-byte b 93 e)) (k.1, k.2, k.2)
  by false true e d k = subst (λ x. Known (x ∷ t)) (sym (is-byte b 62 d)) (k.0, k.0, refl)
  by false false e d k = simp (e, d, other-way b 93 e, other-way b 62 d) (k.0, k.0, k.0)

-- a front part of a clean text is clean
pub clean-front : (n : ℕ) (t u : List ℕ) → clean n (t ++ u) ≡ true → clean n t ≡ true
clean-front n [] u h = refl
clean-front n (b ∷ t) u h =
    and-both (not (closes_section n b)) (clean (brackets_with n b) t) (and-first (not (closes_section n b)) (clean (brackets_with n b) (t ++ u)) h)
    (clean-front (brackets_with n b) t u (and-second (not (closes_section n b)) (clean (brackets_with n b) (t ++ u)) h))

-- brackets behind a clean text
pub low-with : (n b : ℕ) → brackets_with n b ≤ 2
low-with n b = grind (arith, nat_tests)

pub clean-brackets : (n : ℕ) (t : List ℕ) → n ≤ 2 → clean n t ≡ true → (clean n (t ++ 93 ∷ 93 ∷ []) ≡ true) × (state n (t ++ 93 ∷ 93 ∷ []) ≡ 2)
clean-brackets n [] l h = by-test (λ s. (clean (cond s 1 2) (93 ∷ []) ≡ true) × (state (cond s 1 2) (93 ∷ []) ≡ 2)) (refl, refl) (refl, refl) (n == 0)
clean-brackets n (b ∷ t) l h =
    let more = clean-brackets (brackets_with n b) t (low-with n b) (and-second (not (closes_section n b)) (clean (brackets_with n b) t) h) in
    (and-both (not (closes_section n b)) (clean (brackets_with n b) (t ++ 93 ∷ 93 ∷ [])) (and-first (not (closes_section n b)) (clean (brackets_with n b) t) h) more.0, more.1)

-- where two brackets stand at the end
abbrev Twice : List ℕ → Type 0
Twice xs = (t : List ℕ) × (xs ≡ t ++ 93 ∷ 93 ∷ [])

abbrev Ends : List ℕ → Type 0
Ends u = (state 0 u ≡ 2 → Twice u) × (state 1 u ≡ 2 → Twice (93 ∷ u)) × (state 2 u ≡ 2 → Twice (93 ∷ 93 ∷ u))

ends : (u : List ℕ) → Ends u
ends [] = (λ h. absurd (omega (arith, h)), λ h. absurd (omega (arith, h)), λ h. ([], refl))
ends (b ∷ u) = by (b == 93) refl (ends u) where
  more : (x : ℕ) (xs : List ℕ) → Twice xs → Twice (x ∷ xs)
  more x xs g = (x ∷ g.0, ap (λ ys. x ∷ ys) g.1)

  by : (s : Bool) → (b == 93) ≡ s → Ends u → Ends (b ∷ u)
  by true e k = subst (λ x. Ends (x ∷ u)) (sym (is-byte b 93 e)) (k.1, k.2, λ h. more 93 (93 ∷ 93 ∷ u) (k.2 h))
  by false e k = simp e (λ h. more b u (k.0 h), λ h. more 93 (b ∷ u) (more b u (k.0 h)), λ h. more 93 (93 ∷ b ∷ u) (more 93 (b ∷ u) (more b u (k.0 h))))

-- Comments and CDATA sections are what the grammar says.

-- characters one behind another
pub characters-are : (test : ℕ → Bool) (bytes cs : List ℕ) → Many (Character test) bytes cs → (bytes ≡ bytes_of cs) × Allowed cs
characters-are test bytes [] g = (g, tt)
characters-are test bytes (c ∷ cs) (front, back, e, g, more) =
    let r = characters-are test back cs more in
    (e ∙ ap (λ xs. xs ++ back) g.spelled ∙ ap (λ xs. encode_utf8 c ++ xs) r.0, (g.allowed, r.1))

pub any-characters : (cs : List ℕ) → Allowed cs → Many (Character is_any) (bytes_of cs) cs
any-characters [] ok = refl
any-characters (c ∷ cs) ok =
    (encode_utf8 c, bytes_of cs, refl, record { spelled = refl; allowed = ok.0; passes = refl }, any-characters cs ok.1)

-- a text in which a word does not stand
without-is : (none_of t : List ℕ) → Allowed t → contains none_of (bytes_of t) ≡ false → Without none_of is_any (bytes_of t) (bytes_of t)
without-is none_of t ok none = record { says = refl; characters = t; each = any-characters t ok; none = none }

-- what `--` does in a text

-- behind a dash, or not
abbrev dashed : ℕ → List ℕ → Bool
dashed zero t = contains (codes "--") t
dashed (suc n) t = contains (codes "--") (45 ∷ t)

dashed-no : (n b : ℕ) (t : List ℕ) → (b == 45) ≡ false → dashed n (b ∷ t) ≡ contains (codes "--") t
dashed-no zero b t e = simp (other-way b 45 e)
dashed-no (suc n) b t e = simp (other-way b 45 e)

dashed-character : (n c : ℕ) (u : List ℕ) → (c == 45) ≡ false → dashed n (encode_utf8 c ++ u) ≡ contains (codes "--") u
dashed-character n c u e = elim (small-or-wide c) [ inl low ↦ small-one (dashed n) c u low ∙ dashed-no n c u e | inr high ↦ skip-wide dashed (λ n b u h. dashed-no n b u (grind (arith, nat_tests))) n c u high ]

abbrev calm : ℕ → List ℕ → Bool
calm n [] = true
calm n (c ∷ t) = cond (c == 45) ((n == 0) && calm 1 t) (calm 0 t)

dashes-are : (t : List ℕ) → (contains (codes "--") (bytes_of t) ≡ not (calm 0 t)) × (contains (codes "--") (45 ∷ bytes_of t) ≡ not (calm 1 t))
dashes-are [] = (refl, refl)
dashes-are (c ∷ t) =
    let k = dashes-are t in
    cases (c == 45) (λ e. let same : bytes_of (c ∷ t) ≡ 45 ∷ bytes_of t = ap (λ x. bytes_of (x ∷ t)) (is-byte c 45 e) ∙ ap (λ xs. xs ++ bytes_of t) (encode_ascii 45 (omega arith)) in rw e (ap (contains (codes "--")) same ∙ k.1, ap (λ xs. contains (codes "--") (45 ∷ xs)) same))
    (λ e. rw e (dashed-character 0 c (bytes_of t) e ∙ k.0, dashed-character 1 c (bytes_of t) e ∙ k.0))

calm-takes : (t : List ℕ) → (calm 0 t ≡ true → Takes step_comment 0 (t ++ codes "-->") tt) × (calm 1 t ≡ true → Takes step_comment 1 (t ++ codes "-->") tt)
calm-takes [] = (λ e. (refl, refl), λ e. (refl, refl))
calm-takes (c ∷ t) = let k = calm-takes t in cases (c == 45) (λ e. rw e (k.1, λ d. absurd (cc))) (λ e. rw e (k.0, k.0))

abbrev Body : List ℕ → Type 0
Body w = (text : List ℕ) × (w ≡ text ++ codes "-->") × (calm 0 text ≡ true)

abbrev Bodies : List ℕ → Type 0
Bodies w = (Takes step_comment 0 w tt → Body w) × (Takes step_comment 1 w tt → Body (45 ∷ w)) × (Takes step_comment 2 w tt → Body (45 ∷ 45 ∷ w)) × (Takes step_comment 3 w tt → w ≡ 62 ∷ [])

bodies : (w : List ℕ) → Bodies w
bodies [] = (λ h. absurd h, λ h. absurd h, λ h. absurd h, λ h. absurd h)
bodies (c ∷ w) = by (c == 45) (c == 62) refl refl (bodies w) where
  more : (c == 45) ≡ false → Body w → Body (c ∷ w)
  more e b = (c ∷ b.0, ap (λ xs. c ∷ xs) b.1, rw e b.2)

  dash-more : (c == 45) ≡ false → Body w → Body (45 ∷ c ∷ w)
  dash-more e b = (45 ∷ c ∷ b.0, ap (λ xs. 45 ∷ c ∷ xs) b.1, rw e b.2)

  close : (c == 62) ≡ true → w ≡ [] → c ∷ w ≡ 62 ∷ []
  close f z = ap (λ x. x ∷ w) (is-byte c 62 f) ∙ ap (λ xs. 62 ∷ xs) z

  by : (s t : Bool) → (c == 45) ≡ s → (c == 62) ≡ t → Bodies w → Bodies (c ∷ w)
  by true t e f k = subst (λ x. Bodies (x ∷ w)) (sym (is-byte c 45 e)) (k.1, k.2, λ h. (45 ∷ [], ap (λ xs. 45 ∷ 45 ∷ 45 ∷ xs) (k.3 h), refl), λ h. absurd h)
  by false true e f k = simp (e, f) (λ h. more e (k.0 h), λ h. dash-more e (k.0 h), λ h. ([], ap (λ xs. 45 ∷ 45 ∷ xs) (close f h.1), refl), λ h. close f h.1)
  by false false e f k = simp (e, f) (λ h. more e (k.0 h), λ h. dash-more e (k.0 h), λ h. absurd h, λ h. absurd h)

pub comment-reads : Alike (Reads step_comment (step_comment 0)) (Then (Without (codes "--") is_any) (λ text. Word (codes "-->")))
comment-reads bytes u = (
  λ r. let b = (bodies r.text).0 r.takes in
      then-of (bytes_of b.0) (codes "-->") (bytes_of b.0) (r.spelled ∙ ap bytes_of b.1 ∙ bytes-append b.0 (codes "-->") ∙ ap (λ xs. bytes_of b.0 ++ xs) (ascii-bytes (codes "-->") refl))
      (without-is (codes "--") b.0 (allowed-apart b.0 (codes "-->") (subst Allowed b.1 r.allowed)).0 ((dashes-are b.0).0 ∙ ap not b.2)) refl,
  λ t. let cs : List ℕ = t.first.characters in
      let c = characters-are is_any t.front cs t.first.each in
      let quiet = cases (calm 0 cs) (λ d. d) (λ d. clash ((dashes-are cs).0 ∙ ap not d) (ap (contains (codes "--")) (sym c.0) ∙ t.first.none)) in
      record {
        text = cs ++ codes "-->";
        spelled = t.spelled ∙ ap (λ xs. xs ++ t.back) c.0 ∙ ap (λ xs. bytes_of cs ++ xs) (t.second ∙ sym (ascii-bytes (codes "-->") refl)) ∙ sym (bytes-append cs (codes "-->"));
        allowed = allowed-append cs (codes "-->") c.1 (ascii-plain (codes "-->") refl).1;
        takes = (calm-takes cs).0 quiet;
      },
)

-- CDATA sections.

-- bytes and characters alike
pub clean-bytes : (n : ℕ) (t : List ℕ) → clean n (bytes_of t) ≡ clean n t
clean-bytes n [] = refl
clean-bytes n (c ∷ t) =
    let u : List ℕ = bytes_of t in
    elim (small-or-wide c) [ inl low ↦ small-one (clean n) c u low | inr high ↦ skip-wide clean clean-skip n c u high ∙ sym (clean-skip n c u high) ] ∙ ap (λ x. not (closes_section n c) && x) (clean-bytes (brackets_with n c) t)

pub without-word : (t : List ℕ) → clean 0 t ≡ true → contains (codes "]]>") (bytes_of t) ≡ false
without-word t e = (known (bytes_of t)).0 ∙ ap not (clean-bytes 0 t ∙ e)

pub word-without : (t : List ℕ) → contains (codes "]]>") (bytes_of t) ≡ false → clean 0 t ≡ true
word-without t e = cases (clean 0 t) (λ d. d) (λ d. clash ((known (bytes_of t)).0 ∙ ap not (clean-bytes 0 t ∙ d)) e)

pub not-so : (b : Bool) → not b ≡ true → b ≡ false
not-so true e = sym e
not-so false e = refl

abbrev pub sec : ℕ × List ℕ → ℕ → Next (ℕ × List ℕ) (List ℕ)
sec s c = step_section s.0 s.1 c

-- what stands in a section behind so many brackets
section-body : (w : List ℕ) (n : ℕ) (text said : List ℕ) → Takes sec (n, text) w said → (inner : List ℕ) × (w ≡ inner ++ 62 ∷ []) × (clean n inner ≡ true) × (state n inner ≡ 2) × (said ≡ without_brackets (text ++ bytes_of inner))
section-body [] n text said h = absurd h
section-body (c ∷ w) n text said h =
    cases (closes_section n c) (λ e. let k = rw e at h in ([], ap (λ x. x ∷ w) (is-byte c 62 (and-first (c == 62) (n == 2) e)) ∙ ap (λ xs. 62 ∷ xs) k.1, refl, is-byte n 2 (and-second (c == 62) (n == 2) e), sym k.0 ∙ ap without_brackets (sym (append-nil text))))
    (λ e. let b = section-body w (brackets_with n c) (text ++ encode_utf8 c) said (rw e at h) in
    (c ∷ b.0, ap (λ xs. c ∷ xs) b.1, and-both (not (closes_section n c)) (clean (brackets_with n c) b.0) (ap not e) b.2, b.3, b.4 ∙ ap without_brackets (append_assoc text (encode_utf8 c) (bytes_of b.0))))

section-takes : (inner : List ℕ) (n : ℕ) (text : List ℕ) → clean n inner ≡ true → state n inner ≡ 2 → Takes sec (n, text) (inner ++ 62 ∷ []) (without_brackets (text ++ bytes_of inner))
section-takes [] n text clear two =
    let closes : closes_section n 62 ≡ true = ap (λ m. closes_section m 62) two in
    rw closes (ap without_brackets (sym (append-nil text)), refl)
section-takes (c ∷ inner) n text clear two =
    let stays : closes_section n c ≡ false = not-so (closes_section n c) (and-first (not (closes_section n c)) (clean (brackets_with n c) inner) clear) in
    let more = section-takes inner (brackets_with n c) (text ++ encode_utf8 c) (and-second (not (closes_section n c)) (clean (brackets_with n c) inner) clear) two in
    rw stays (subst (λ xs. Takes sec (brackets_with n c, text ++ encode_utf8 c) (inner ++ 62 ∷ []) (without_brackets xs)) (append_assoc text (encode_utf8 c) (bytes_of inner)) more)

-- two brackets at the end
off : (x : List ℕ) → without_brackets (x ++ 93 ∷ 93 ∷ []) ≡ x
off x =
    let all = x ++ 93 ∷ 93 ∷ [] in
    let long = length-append x (93 ∷ 93 ∷ []) in
    let same : length all - 2 ≡ length x = omega (arith, long) in
    ap (λ t. cond t (take (length all - 2) all) all) (ap (λ n. slice_index all n == 93) same ∙ ap (λ b. b == 93) (bracket x))
    ∙ ap (λ n. take n all) same ∙ take-append_seam x (93 ∷ 93 ∷ []) where
      bracket : (x : List ℕ) → slice_index (x ++ 93 ∷ 93 ∷ []) (length x) ≡ 93
      bracket [] = refl
      bracket (b ∷ x) = bracket x

brackets-bytes : (text : List ℕ) → bytes_of (text ++ 93 ∷ 93 ∷ []) ≡ bytes_of text ++ 93 ∷ 93 ∷ []
brackets-bytes text = bytes-append text (93 ∷ 93 ∷ []) ∙ ap (λ xs. bytes_of text ++ xs) (plain-bytes (93 ∷ 93 ∷ []) (omega arith, (omega arith, tt)))

pub section-reads : Alike (Reads sec (sec (0, []))) (Then (Without (codes "]]>") is_any) (λ text. Then (Word (codes "]]>")) (λ closing. Says text)))
section-reads bytes said = (
  λ r. let b = section-body r.text 0 [] said r.takes in
      let u = (ends b.0).0 b.3 in
      let whole : r.text ≡ u.0 ++ codes "]]>" = b.1 ∙ ap (λ xs. xs ++ 62 ∷ []) u.1 ∙ append_assoc u.0 (93 ∷ 93 ∷ []) (62 ∷ []) in
      then-of (bytes_of u.0) (codes "]]>") (bytes_of u.0) (r.spelled ∙ ap bytes_of whole ∙ bytes-append u.0 (codes "]]>") ∙ ap (λ xs. bytes_of u.0 ++ xs) (ascii-bytes (codes "]]>") refl))
      (without-is (codes "]]>") u.0 (allowed-apart u.0 (codes "]]>") (subst Allowed whole r.allowed)).0 (without-word u.0 (clean-front 0 u.0 (93 ∷ 93 ∷ []) (ap (clean 0) (sym u.1) ∙ b.2))))
      (then-says (Word (codes "]]>")) (λ closing. bytes_of u.0) (codes "]]>") said tt refl (b.4 ∙ ap (λ xs. without_brackets (bytes_of xs)) u.1 ∙ ap without_brackets (brackets-bytes u.0) ∙ off (bytes_of u.0))),
  λ t. let cs : List ℕ = t.first.characters in
      let c = characters-are is_any t.front cs t.first.each in
      let e = says-then (Word (codes "]]>")) (λ u. t.what) t.back said t.second in
      let inner : List ℕ = cs ++ 93 ∷ 93 ∷ [] in
      let both = clean-brackets 0 cs (omega arith) (word-without cs (ap (contains (codes "]]>")) (sym c.0) ∙ t.first.none)) in
      let said-so : without_brackets (bytes_of inner) ≡ said = ap without_brackets (brackets-bytes cs) ∙ off (bytes_of cs) ∙ sym c.0 ∙ sym t.first.says ∙ sym e.2 in
      record {
        text = cs ++ codes "]]>";
        spelled = t.spelled ∙ ap (λ xs. xs ++ t.back) c.0 ∙ ap (λ xs. bytes_of cs ++ xs) (e.1 ∙ sym (ascii-bytes (codes "]]>") refl)) ∙ sym (bytes-append cs (codes "]]>"));
        allowed = allowed-append cs (codes "]]>") c.1 (ascii-plain (codes "]]>") refl).1;
        takes = subst (λ xs. Takes sec (0, []) xs said) (append_assoc cs (93 ∷ 93 ∷ []) (62 ∷ [])) (subst (Takes sec (0, []) (inner ++ 62 ∷ [])) said-so (section-takes inner 0 [] both.0 both.1));
      },
)

-- line ends byte by byte from the front, behind a carriage return or not
abbrev lines : Bool → List ℕ → List ℕ
lines behind [] = []
lines behind (b ∷ w) = cond {A = List ℕ} ((b == 10) && behind) [] (cond {A = List ℕ} (b == 13) (10 ∷ []) (b ∷ [])) ++ lines (b == 13) w

abbrev fed : ℕ → ℕ
fed b = cond {A = ℕ} (b == 13) 10 b

abbrev Are : List ℕ → Type 0
Are w = (lines false w ≡ map fed (lone_returns w)) × (lines true w ≡ map fed (without_feed (lone_returns w)))

are : (w : List ℕ) → Are w
are [] = (refl, refl)
are (b ∷ w) = by (b == 13) (b == 10) refl refl (are w) where
  by : (s t : Bool) → (b == 13) ≡ s → (b == 10) ≡ t → Are w → Are (b ∷ w)
  by true t e f h = subst (λ x. Are (x ∷ w)) (sym (is-byte b 13 e)) (ap (λ xs. 10 ∷ xs) h.1, ap (λ xs. 10 ∷ xs) h.1)
  by false true e f h = subst (λ x. Are (x ∷ w)) (sym (is-byte b 10 f)) (ap (λ xs. 10 ∷ xs) h.0, h.0)
  by false false e f h = simp (e, f) (ap (λ xs. b ∷ xs) h.0, ap (λ xs. b ∷ xs) h.0)

-- one text behind another
abbrev pub ends_return : Bool → List ℕ → Bool
ends_return behind [] = behind
ends_return behind (b ∷ w) = ends_return (b == 13) w

lines-append : (behind : Bool) (v w : List ℕ) → lines behind (v ++ w) ≡ lines behind v ++ lines (ends_return behind v) w
lines-append behind [] w = refl
lines-append behind (b ∷ v) w =
    let says : List ℕ = cond {A = List ℕ} ((b == 10) && behind) [] (cond {A = List ℕ} (b == 13) (10 ∷ []) (b ∷ [])) in
    ap (λ xs. says ++ xs) (lines-append (b == 13) v w) ∙ sym (append_assoc says (lines (b == 13) v) (lines (ends_return (b == 13) v) w))

ends-append : (behind : Bool) (v w : List ℕ) → ends_return behind (v ++ w) ≡ ends_return (ends_return behind v) w
ends-append behind [] w = refl
ends-append behind (b ∷ v) w = ends-append (b == 13) v w

pub no-sign : (b sign : ℕ) → 128 ≤ b → sign < 128 → (b == sign) ≡ false
no-sign b sign h low = grind (arith, nat_tests)

lines-high : (behind : Bool) (b : ℕ) (w : List ℕ) → High (b ∷ w) → (lines behind (b ∷ w) ≡ b ∷ w) × (ends_return behind (b ∷ w) ≡ false)
lines-high behind b [] h = simp (no-sign b 13 h.0 (omega arith), no-sign b 10 h.0 (omega arith)) (refl, refl)
lines-high behind b (x ∷ w) h = simp (no-sign b 13 h.0 (omega arith), no-sign b 10 h.0 (omega arith)) (let r = lines-high false x w h.1 in (ap (λ xs. b ∷ xs) r.0, r.1))

-- one character
char-lines : (c : ℕ) (behind : Bool) → (lines behind (encode_utf8 c) ≡ line_end_says behind c) × (ends_return behind (encode_utf8 c) ≡ (c == 13))
char-lines c behind = elim (small-or-wide c) [
  | inl low ↦
      let e = encode_ascii c low in
      let said : List ℕ → List ℕ = λ xs. cond {A = List ℕ} ((c == 10) && behind) [] (cond {A = List ℕ} (c == 13) (10 ∷ []) xs) in
      (ap (lines behind) e ∙ append-nil (said (c ∷ [])) ∙ ap said (sym e), ap (ends_return behind) e)
  | inr high ↦
      let b = wide-bytes c high in
      let one = no-sign c 13 high (omega arith) in
      let two = no-sign c 10 high (omega arith) in
      let s = lines-high behind b.0 b.1 b.3 in
      (ap (lines behind) b.2 ∙ s.0 ∙ sym b.2 ∙ simp (one, two), ap (ends_return behind) b.2 ∙ s.1 ∙ sym one)
]

-- one character more
pub line_more : (xs : List ℕ) (c : ℕ) → line_ends (xs ++ encode_utf8 c) ≡ line_ends xs ++ line_end_says (ends_return false xs) c
line_more xs c =
    let behind = ends_return false xs in
    sym (are (xs ++ encode_utf8 c)).0 ∙ lines-append false xs (encode_utf8 c) ∙ ap (λ ys. ys ++ lines behind (encode_utf8 c)) (are xs).0
    ∙ ap (λ ys. line_ends xs ++ ys) (char-lines c behind).0

pub ends_more : (xs : List ℕ) (c : ℕ) → ends_return false (xs ++ encode_utf8 c) ≡ (c == 13)
ends_more xs c = ends-append false xs (encode_utf8 c) ∙ (char-lines c (ends_return false xs)).1
