-- Parts told byte by byte and piece by piece are the parts of the bytes read whole, and a whole character leads the reader of bytes where
-- it leads the machine of characters.
use lib.Seq.{take-nil}
use Rattle.std.proofs.Common.{◌≡◌, ℕ, suc, ◌+◌, ◌<◌, nat_lt, nat_le, true, false, Result, Ok, Err, List, [], ◌∷◌, ◌++◌, take, refl, sym, ap, ◌∙◌, arith, append_assoc, length, zero, zero-add, ◌==◌, ◌-◌, ◌≤◌, Bool, not, ◌&&◌, cond, ◌⊎◌, inl, inr, Some, None, encode_utf8, Option, subst}
use Rattle.cds_markup.proofs.Terms.{nat_tests, INPUT_LIMIT, MachineError, MarkupError, Part, Token, Reading, judge, nothing_read, answer_of, progressed, ended_of, marked, parts_from, parts_of, Telling, telling, begin_telling, last_parts, Told, judged_told, told_byte_within, behind_parts, told_on, told_within, told, answered, run, append-nil, length-append, encode_ascii, is_allowed, begins_name, is_blank, NamespaceRule, Deep, TooLong, Marks, Mode, Open, OpenText, Ampersand, Opened, Name, RootState, Content, Less, Reference, StartTag, Inside, Run, line_ends, Step, any_at, Letter, Given, step_root, To, step, is_content, inside_move, reading, moved, go_on, byte_step, begins_tag, is_deep, breaks_rule, judged, refusal, said_as, is_between, passed_over, completed_as, marks, ended_part, open_text, line_end_says, or_here, text_with, text_or, Next, On, Done, name_begun, closes_section, brackets_with, first_non_blank, Gone, by-test, next-by, either-if, both-no, none-behind, is-byte, Takes, Steps, and-first, and-second, ok-err, cases}
use Rattle.cds_markup.proofs.Ways.{same-first, bytes_of, Allowed, Early, AtBegin, mode_of, root_or, step-is, landing}
use Rattle.cds_markup.proofs.Decoded.{found, ok_same, wide-bytes, stuck, decodes, encoded}
use Rattle.cds_markup.proofs.ScanForms.{ends_return, line_more, ends_more, clean, state, small-or-wide, not-so}
use Rattle.cds_markup.proofs.Placing.{WellMode, is_to, Goes, no-blank, Mid, root_state-mid}
use Rattle.cds_markup.proofs.GoingOn.{Unfinished, no-both, two-or-more, begins-complete, Reached, reached-nothing, result-by, NoneBefore, next as next-reached, none-here, none-more}
use Rattle.cds_markup.proofs.Standing.{Leads-root, InText, letter-step}

-- one piece behind another
behind-on : (ps : List Part) (t : Told) (next : Telling → Told) → behind_parts ps (told_on t next) ≡ told_on (behind_parts ps t) next
behind-on ps (Err found) next = refl
behind-on ps (Ok found) next = result-by (next found.1) (λ x d. rw d (ap (λ xs. Ok (xs, x.1)) (sym (append_assoc ps found.0 x.0)))) (λ x d. rw d (ap (λ xs. Err (xs, x.1)) (sym (append_assoc ps found.0 x.0))))

pub behind-none : (t : Told) → behind_parts [] t ≡ t
behind-none (Err found) = refl
behind-none (Ok found) = refl

pub told-append : (n : ℕ) (v w : List ℕ) (p : Telling) → told_within n p (v ++ w) ≡ told_on (told_within n p v) (λ q. told_within n q w)
told-append n [] w p = sym (behind-none (told_within n p w))
told-append n (b ∷ v) w p = result-by (told_byte_within n p b)
    (λ x d. rw d (ap (behind_parts x.0) (told-append n v w x.1) ∙ behind-on x.0 (told_within n x.1 v) (λ q. told_within n q w))) (λ x d. rw d refl)

-- the parts, with those that are over at the end, and what is answered
abbrev pub parts-at : Told → List Part
parts-at (Err found) = found.0
parts-at (Ok found) = found.0 ++ last_parts found.1

pub parts-behind : (ps : List Part) (t : Told) → parts-at (behind_parts ps t) ≡ ps ++ parts-at t
parts-behind ps (Err found) = refl
parts-behind ps (Ok found) = append_assoc ps found.0 (last_parts found.1)

abbrev pub answer-at : Told → Result (Unit {0}) MarkupError
answer-at (Err found) = Err found.1
answer-at (Ok found) = ended_of (Ok (progressed found.1.read found.1.at))

answer-behind : (ps : List Part) (t : Told) → answer-at (behind_parts ps t) ≡ answer-at t
answer-behind ps (Err found) = refl
answer-behind ps (Ok found) = refl

-- What is told of bytes up to a limit is what is read of as many of them.
abbrev Whole : ℕ → ℕ → Telling → List ℕ → Type 0
Whole n m p w =
    (parts-at (told_within n p w) ≡ parts_from p.read p.marks p.at (take m w))
    × (answer-at (told_within n p w) ≡ answered (p.at + length w) (nat_lt n (p.at + length w)) (run p.read p.at (take m w)))

whole : (n m : ℕ) (w : List ℕ) (p : Telling) → n ≡ p.at + m → Whole n m p w
whole n m [] p e =
    let here : p.at + 0 ≡ p.at = omega arith in
    let under : nat_lt n p.at ≡ false = grind (arith, nat_tests) in
    rw (take-nil m, here, under) (refl, refl)
whole n zero (b ∷ w) p e =
    let over : nat_le n p.at ≡ true = let same : p.at ≡ n = omega (arith, e) in grind (arith, nat_tests) in
    let long : nat_lt n (p.at + suc (length w)) ≡ true = let same : p.at ≡ n = omega (arith, e) in grind (arith, nat_tests) in
    rw (over, long) (refl, refl)
whole n (suc m) (b ∷ w) p e =
    let room : nat_le n p.at ≡ false = let less : p.at < n = omega (arith, e) in grind (arith, nat_tests) in
    rw room (result-by (judge p.read b)
    (λ found d.
    let x = marked p.read p.marks p.at found.0 found.1 in
    let q = telling found.0 x.1 (p.at + 1) in
    let h = whole n m w q (omega (arith, e)) in
    let long : (p.at + 1) + length w ≡ p.at + length (b ∷ w) = omega arith in
    rw d (parts-behind x.0 (told_within n q w) ∙ ap (λ xs. x.0 ++ xs) h.0, answer-behind x.0 (told_within n q w) ∙ h.1 ∙ ap (λ k. answered k (nat_lt n k) (run found.0 (p.at + 1) (take m w))) long)) (λ stop d. rw d (refl, refl)))

pub parts-told : (bytes : List ℕ) → parts-at (told begin_telling bytes) ≡ parts_of bytes
unfolding parts_of
parts-told bytes = (whole INPUT_LIMIT INPUT_LIMIT bytes begin_telling (sym (zero-add INPUT_LIMIT))).0

pub answer-told : (bytes : List ℕ) → answer-at (told begin_telling bytes) ≡ answer_of bytes
unfolding answer_of
answer-told bytes = (whole INPUT_LIMIT INPUT_LIMIT bytes begin_telling (sym (zero-add INPUT_LIMIT))).1 ∙ ap (λ x. answered x (nat_lt INPUT_LIMIT x) (run nothing_read 0 (take INPUT_LIMIT bytes))) (zero-add (length bytes))

-- one byte
pub byte-told : (n : ℕ) (p : Telling) (b : ℕ) (w : List ℕ) (s : Reading) (us : List Token) → p.at < n → judge p.read b ≡ Ok (s, us)
    → told_within n p (b ∷ w) ≡ behind_parts (marked p.read p.marks p.at s us).0 (told_within n (telling s (marked p.read p.marks p.at s us).1 (p.at + 1)) w)
byte-told n p b w s us h e =
    let room : nat_le n p.at ≡ false = grind (arith, nat_tests) in
    ap (λ t. told_on (cond {A = Told} t (Err (last_parts p, TooLong)) (judged_told p (judge p.read b))) (λ q. told_within n q w)) room ∙ ap (λ j. told_on (judged_told p j) (λ q. told_within n q w)) e

-- one piece behind another
pub told-then : (n : ℕ) (v w : List ℕ) (p q : Telling) (ps : List Part) (t : Told) → told_within n p v ≡ Ok (ps, q) → told_within n q w ≡ t → told_within n p (v ++ w) ≡ behind_parts ps t
told-then n v w p q ps t e f = told-append n v w p ∙ ap (λ x. told_on x (λ y. told_within n y w)) e ∙ ap (behind_parts ps) f

pub byte-more : (n : ℕ) (front : List ℕ) (us : List Part) (q : Telling) (b : ℕ) (s : Reading) (ts : List Token) → told_within n begin_telling front ≡ Ok (us, q) → q.at < n → judge q.read b ≡ Ok (s, ts)
    → told_within n begin_telling (front ++ b ∷ []) ≡ Ok (us ++ (marked q.read q.marks q.at s ts).0, telling s (marked q.read q.marks q.at s ts).1 (q.at + 1))
byte-more n front us q b s ts e less f =
    let m = marked q.read q.marks q.at s ts in
    told-then n front (b ∷ []) begin_telling q us _ e (byte-told n q b [] s ts less f) ∙ ap (λ ps. Ok (us ++ ps, telling s m.1 (q.at + 1))) (append-nil m.0)

-- a byte stops the reader, whatever comes behind, or it is taken
abbrev pub CauseOf : ℕ → Telling → ℕ → MarkupError → Type 0
CauseOf n q b e = ((n ≤ q.at) × (e ≡ TooLong)) ⊎ ((q.at < n) × (stop : MachineError) × (judge q.read b ≡ Err stop) × (e ≡ refusal stop q.at))

abbrev pub ByteCases : ℕ → Telling → ℕ → Type 0
ByteCases n q b =
    ((e : MarkupError) × (told_byte_within n q b ≡ Err (last_parts q, e)) × CauseOf n q b e)
    ⊎ ((s : Reading) × (ts : List Token) × (q.at < n) × (judge q.read b ≡ Ok (s, ts)))

pub byte-cases : (n : ℕ) (q : Telling) (b : ℕ) → ByteCases n q b
byte-cases n q b = cases (nat_le n q.at) (λ d. let over : n ≤ q.at = grind (arith, nat_tests) in inl (TooLong, rw d refl, inl (over, refl)))
    (λ d.
    let less : q.at < n = grind (arith, nat_tests) in
    result-by (judge q.read b) (λ x f. inr (x.0, x.1, less, f)) (λ stop f. inl (refusal stop q.at, rw (d, f) refl, inr (less, stop, f, refl))))

behind-ok : (ps us : List Part) (q : Telling) (t : Told) → behind_parts ps t ≡ Ok (us, q) → (vs : List Part) × (t ≡ Ok (vs, q))
behind-ok ps us q (Err found) e = absurd (cc)
behind-ok ps us q (Ok found) e = (found.0, ap (λ x. Ok (found.0, x)) (ok_same _ _ _ _ e).1)

-- what each byte that is taken keeps holds of all that is told
pub told-keeps : (R : List ℕ → Telling → Type 0) (n : ℕ) → ((front : List ℕ) (p : Telling) (b : ℕ) (s : Reading) (us : List Token) → R front p → p.at < n → judge p.read b ≡ Ok (s, us) → R (front ++ b ∷ []) (telling s (marked p.read p.marks p.at s us).1 (p.at + 1)))
    → (w front : List ℕ) (p q : Telling) (us : List Part) → R front p → told_within n p w ≡ Ok (us, q) → R (front ++ w) q
told-keeps R n step [] front p q us h e = subst (λ xs. R xs q) (sym (append-nil front)) (subst (R front) (ok_same _ _ _ _ e).1 h)
told-keeps R n step (b ∷ w) front p q us h e = elim (byte-cases n p b) [
  | inl c ↦ ok-err (sym e ∙ ap (λ t. told_on t (λ y. told_within n y w)) c.1)
  | inr (s, ts, less, f) ↦
      let m = marked p.read p.marks p.at s ts in
      let rest = behind-ok m.0 us q (told_within n (telling s m.1 (p.at + 1)) w) (sym (byte-told n p b w s ts less f) ∙ e) in
      subst (λ xs. R xs q) (append_assoc front (b ∷ []) w) (told-keeps R n step w (front ++ b ∷ []) (telling s m.1 (p.at + 1)) q rest.0 (step front p b s ts h less f) rest.1)
]

-- what is told is read, and nothing refuses it, whatever comes behind
pub record Came (n : ℕ) (came : List ℕ) (q : Telling) : Type 0 where
  pub reached : Reached came q.read
  pub at : q.at ≡ length came
  pub few : length came ≤ n
  pub none : (more : List ℕ) → NoneBefore (came ++ more) (length came)

pub came-so : (n : ℕ) (came : List ℕ) (us : List Part) (q : Telling) → told_within n begin_telling came ≡ Ok (us, q) → Came n came q
came-so n came us q e = told-keeps (Came n) n step came [] begin_telling q us (record { reached = reached-nothing; at = refl; few = omega arith; none = λ more earlier less x. omega (arith, less) }) e where
  step : (front : List ℕ) (p : Telling) (b : ℕ) (s : Reading) (us : List Token) → Came n front p → p.at < n → judge p.read b ≡ Ok (s, us) → Came n (front ++ b ∷ []) (telling s (marked p.read p.marks p.at s us).1 (p.at + 1))
  step front p b s us c less f =
      let long = length-append front (b ∷ []) in
      record {
        reached = next-reached front p.read b [] c.reached s us f;
        at = ap (λ k. k + 1) c.at ∙ sym long;
        few = omega (arith, less, c.at, long);
        none = λ more. subst (λ xs. NoneBefore xs (length (front ++ b ∷ []))) (sym (append_assoc front (b ∷ []) more)) (subst (NoneBefore (front ++ b ∷ more)) (sym long) (none-more (front ++ b ∷ more) (length front) (c.none (b ∷ more)) (none-here front p.read b more c.reached s us f)));
      }

-- where it is stopped, with all that it read before
pub record Stopped (n : ℕ) (p : Telling) (w : List ℕ) (x : List Part × MarkupError) : Type 0 where
  pub front : List ℕ
  pub byte : ℕ
  pub rest : List ℕ
  pub us : List Part
  pub at : Telling
  pub spelled : w ≡ front ++ byte ∷ rest
  pub told : told_within n p front ≡ Ok (us, at)
  pub parts : x.0 ≡ us ++ last_parts at
  pub cause : CauseOf n at byte x.1
  pub stops : (tail : List ℕ) → told_within n p (front ++ byte ∷ tail) ≡ Err x

pub told-ends : (n : ℕ) (w : List ℕ) (p : Telling) → ((us : List Part) × (q : Telling) × (told_within n p w ≡ Ok (us, q))) ⊎ ((x : List Part × MarkupError) × Stopped n p w x)
told-ends n [] p = inl ([], p, refl)
told-ends n (b ∷ w) p = elim (byte-cases n p b) [
  | inl (z, f, c) ↦ inr ((last_parts p, z), record { front = []; byte = b; rest = w; us = []; at = p; spelled = refl; told = refl; parts = refl; cause = c; stops = λ tail. ap (λ t. told_on t (λ y. told_within n y tail)) f })
  | inr (s, ts, less, f) ↦
      let m = marked p.read p.marks p.at s ts in
      elim (told-ends n w (telling s m.1 (p.at + 1))) [
        | inl h ↦ inl (m.0 ++ h.0, h.1, byte-told n p b w s ts less f ∙ ap (behind_parts m.0) h.2)
        | inr (x, r) ↦
            let stopped : Stopped n p (b ∷ w) (m.0 ++ x.0, x.1) = record {
              front = b ∷ r.front;
              byte = r.byte;
              rest = r.rest;
              us = m.0 ++ r.us;
              at = r.at;
              spelled = ap (λ xs. b ∷ xs) r.spelled;
              told = byte-told n p b r.front s ts less f ∙ ap (behind_parts m.0) r.told;
              parts = ap (λ ps. m.0 ++ ps) r.parts ∙ sym (append_assoc m.0 r.us (last_parts r.at));
              cause = r.cause;
              stops = λ tail. byte-told n p b (r.front ++ r.byte ∷ tail) s ts less f ∙ ap (behind_parts m.0) (r.stops tail);
            } in
            inr (_, stopped)
      ]
]

pub judged-ok : (r : Reading) (b : ℕ) (found : Reading × List Token) → is_deep r b ≡ false → byte_step r b ≡ Some found → breaks_rule r.opens found.1 ≡ false → judge r b ≡ Ok found
judged-ok r b found d e k = ap (λ t. cond t (Err Deep) (judged r.opens (byte_step r b))) d ∙ ap (judged r.opens) e ∙ ap (λ t. cond t (Err NamespaceRule) (Ok found)) k

-- where it is not too deep
pub shallow-mode : (mode : Mode) (opens : List Open) (b : ℕ) → begins_tag mode ≡ false → is_deep (reading [] mode opens) b ≡ false
shallow-mode mode opens b e = grind arith

abbrev pub Shallow : Mode → List Open → ℕ → Type 0
Shallow mode opens c = (b : ℕ) (bs : List ℕ) → encode_utf8 c ≡ b ∷ bs → is_deep (reading [] mode opens) b ≡ false

-- the first bytes of a character
pub prefix-unfinished : (c : ℕ) (bytes : List ℕ) (t : ℕ) (tail : List ℕ) → is_allowed c ≡ true → encode_utf8 c ≡ bytes ++ t ∷ tail → Unfinished bytes
prefix-unfinished c bytes t tail ok e = by (any_at bytes) refl where
  by : (s : Step ℕ) → any_at bytes ≡ s → any_at bytes ≡ Err []
  by (Ok (d, left)) f =
      let g = found bytes d left f in
      let all : encode_utf8 c ++ [] ≡ encode_utf8 d ++ (left ++ t ∷ tail) = append-nil (encode_utf8 c) ∙ e ∙ ap (λ xs. xs ++ t ∷ tail) g.0 ∙ append_assoc (encode_utf8 d) left (t ∷ tail) in
      absurd (none-behind left t tail (same-first c d [] (left ++ t ∷ tail) ok g.1 all).1)
  by (Err []) f = f
  by (Err (x ∷ y)) f = no-both (bytes ++ t ∷ tail) c [] (x ∷ (y ++ t ∷ tail)) (ap any_at (sym e ∙ sym (append-nil (encode_utf8 c))) ∙ decodes c [] ok) (stuck bytes x y (t ∷ tail) f)

-- where the bytes of a character that goes on lead, but for the last
part-steps : (mode : Mode) (opens : List Open) (c : ℕ) → is_allowed c ≡ true → WellMode mode opens → Goes (step mode opens c) → (begun : List ℕ) (b t : ℕ) (tail : List ℕ) → encode_utf8 c ≡ (begun ++ b ∷ []) ++ t ∷ tail → byte_step (reading begun mode opens) b ≡ Some (reading (begun ++ b ∷ []) mode opens, [])
part-steps mode opens c ok well goes begun b t tail e =
    ap (go_on mode opens (begun ++ b ∷ [])) (prefix-unfinished c (begun ++ b ∷ []) t tail ok e)
    ∙ ap (λ x. cond {A = Gone} x (Some (reading (begun ++ b ∷ []) mode opens, [])) None) (begins-complete mode opens c (begun ++ b ∷ []) (t ∷ tail) (two-or-more c begun b t tail e) ok e well goes)

-- what a character makes of what is open
abbrev pub char_marks : Mode → List Open → Marks → ℕ → ℕ → Mode → List Token → List Part × Marks
char_marks mode opens m at last next [] = passed_over (is_between mode && not (is_between next)) m last
char_marks mode opens m at last next (t ∷ ts) = completed_as m last at (said_as opens t)

-- the last one of a list
pub last-one : {A : Type 0} (x : A) (xs : List A) → (front : List A) × (b : A) × (x ∷ xs ≡ front ++ b ∷ [])
last-one x [] = ([], x, refl)
last-one x (y ∷ ys) = let r = last-one y ys in (x ∷ r.0, r.1, ap (λ l. x ∷ l) r.2)

some-behind : (rest : List ℕ) (t : ℕ) (tail : List ℕ) → (y : ℕ) × (ys : List ℕ) × (rest ++ t ∷ tail ≡ y ∷ ys)
some-behind [] t tail = (t, tail, refl)
some-behind (y ∷ ys) t tail = (y, ys ++ t ∷ tail, refl)

module _ (n : ℕ) (mode : Mode) (opens : List Open) (m : Marks) (us : List Part) (c : ℕ) (ok : is_allowed c ≡ true) (goes : Goes (step mode opens c)) (shallow : Shallow mode opens c) where
  abbrev Begun : List ℕ → List ℕ → Type 0
  Begun front begun = told_within n begin_telling front ≡ Ok (us, telling (reading begun mode opens) m (length front))

  shallow-at : (begun : List ℕ) (b : ℕ) (more : List ℕ) → encode_utf8 c ≡ begun ++ b ∷ more → is_deep (reading begun mode opens) b ≡ false
  shallow-at [] b more e = shallow b more e
  shallow-at (x ∷ xs) b more e = grind (arith, nat_tests)

  -- bytes that are not the last
  pub front-told : (rest begun front : List ℕ) (t : ℕ) (tail : List ℕ) → Begun front begun → encode_utf8 c ≡ begun ++ (rest ++ t ∷ tail) → length (front ++ rest) ≤ n → Begun (front ++ rest) (begun ++ rest)
  front-told [] begun front t tail r e within = rw (append-nil front, append-nil begun) r
  front-told (b ∷ rest) begun front t tail r e within =
      let all : List ℕ = begun ++ b ∷ [] in
      let q = telling (reading begun mode opens) m (length front) in
      let whole : encode_utf8 c ≡ all ++ (rest ++ t ∷ tail) = e ∙ sym (append_assoc begun (b ∷ []) (rest ++ t ∷ tail)) in
      let y = some-behind rest t tail in
      let goes-so = judged-ok (reading begun mode opens) b (reading all mode opens, []) (shallow-at begun b (rest ++ t ∷ tail) e) (part-steps mode opens c ok (came-so n front us q r).reached.well goes begun b y.0 y.1 (whole ∙ ap (λ xs. all ++ xs) y.2)) refl in
      let one = byte-more n front us q b (reading all mode opens) [] r (omega (arith, within, length-append front (b ∷ rest))) goes-so in
      let next : Begun (front ++ b ∷ []) all = rw (length-append front (b ∷ [])) (rw (both-no (is_between mode), append-nil us) at one) in
      subst (λ xs. Begun xs (begun ++ b ∷ rest)) (append_assoc front (b ∷ []) rest) (subst (Begun ((front ++ b ∷ []) ++ rest)) (append_assoc begun (b ∷ []) rest)
      (front-told rest all (front ++ b ∷ []) t tail next whole (subst (λ xs. length xs ≤ n) (sym (append_assoc front (b ∷ []) rest)) within)))

marked-char : (mode : Mode) (opens : List Open) (m : Marks) (begun : List ℕ) (at first : ℕ) (next : Mode) (os : List Open) (ts : List Token) → at ≡ first + length begun → marked (reading begun mode opens) m at (reading [] next os) ts ≡ char_marks mode opens m first at next ts
marked-char mode opens m begun at first next os [] e = refl
marked-char mode opens m begun at first next os (t ∷ ts) e = ap (λ x. completed_as m at x (said_as opens t)) (omega (arith, e))

-- A token leads the reader of bytes where it leads the machine, and gives its part.

-- states that are not between tokens
mid-calm : (t : RootState) (c : ℕ) (u : RootState) → is_content t ≡ false → Mid t c u → (is_content u ≡ false) × (begins_tag (Inside u) ≡ false)
mid-calm t c (Content n) calm m = absurd m
mid-calm (Content n) c Less calm m = absurd (cc)
mid-calm t c Less calm m = absurd m.1
mid-calm t c other calm m = (refl, refl)

-- a character behind what is told
more-told : (n : ℕ) (front : List ℕ) (us vs : List Part) (mode : Mode) (opens : List Open) (m : Marks) (c : ℕ) (next : Mode) (os : List Open) (ts : List Token) (x : List Part × Marks) → told_within n begin_telling front ≡ Ok (us, telling (reading [] mode opens) m (length front)) → is_allowed c ≡ true → Shallow mode opens c → step mode opens c ≡ To next os ts → breaks_rule opens ts ≡ false
    → length (front ++ encode_utf8 c) ≤ n → char_marks mode opens m (length front) (length (front ++ encode_utf8 c) - 1) next ts ≡ x → us ++ x.0 ≡ vs → told_within n begin_telling (front ++ encode_utf8 c) ≡ Ok (vs, telling (reading [] next os) x.1 (length (front ++ encode_utf8 c)))
more-told n front us vs mode opens m c next os ts x e ok shallow to keeps within made all =
    let s = encoded c in
    let l = last-one s.0 s.1 in
    let whole : encode_utf8 c ≡ l.0 ++ l.1 ∷ [] = s.2 ∙ l.2 in
    let spelled : front ++ encode_utf8 c ≡ (front ++ l.0) ++ l.1 ∷ [] = ap (λ xs. front ++ xs) whole ∙ sym (append_assoc front l.0 (l.1 ∷ [])) in
    let long : length (front ++ encode_utf8 c) ≡ length (front ++ l.0) + 1 = ap length spelled ∙ length-append (front ++ l.0) (l.1 ∷ []) in
    let r = front-told n mode opens m us c ok (ap is_to to) shallow l.0 [] front l.1 [] e whole (omega (arith, within, long)) in
    let goes-so = judged-ok (reading l.0 mode opens) l.1 (reading [] next os, ts) (shallow-at n mode opens m us c ok (ap is_to to) shallow l.0 l.1 [] whole) (ap (go_on mode opens (l.0 ++ l.1 ∷ [])) (ap any_at (sym whole ∙ sym (append-nil (encode_utf8 c))) ∙ decodes c [] ok) ∙ ap moved to) keeps in
    let one = byte-more n (front ++ l.0) us (telling (reading l.0 mode opens) m (length (front ++ l.0))) l.1 (reading [] next os) ts r (omega (arith, within, long)) goes-so in
    let same = marked-char mode opens m l.0 (length (front ++ l.0)) (length front) next os ts (length-append front l.0) ∙ ap (λ k. char_marks mode opens m (length front) k next ts) (omega (arith, long)) ∙ made in
    ap (told_within n begin_telling) spelled ∙ one ∙ ap (λ y. Ok (us ++ y.0, telling (reading [] next os) y.1 (length (front ++ l.0) + 1))) same ∙ ap (λ ps. Ok (ps, telling (reading [] next os) x.1 (length (front ++ l.0) + 1))) all
    ∙ ap (λ k. Ok (vs, telling (reading [] next os) x.1 k)) (sym long)

-- inside a token, up to its end
abbrev pub Landed : ℕ → List ℕ → List Part → Marks → List Open → Given → Type 0
Landed n all us m opens g =
    (first : ℕ) × (told_within n begin_telling all ≡ Ok (us ++ (completed_as m (length all - 1) first (said_as opens g.token)).0, telling (reading [] (landing g) g.opens) (completed_as m (length all - 1) first (said_as opens g.token)).1 (length all)))

-- where a character comes of more
few-of : (n : ℕ) (front bytes rest : List ℕ) → length (front ++ (bytes ++ rest)) ≤ n → (length (front ++ bytes) ≤ n) × (length ((front ++ bytes) ++ rest) ≤ n)
few-of n front bytes rest h = (omega (arith, h, length-append front (bytes ++ rest), length-append bytes rest, length-append front bytes), subst (λ xs. length xs ≤ n) (sym (append_assoc front bytes rest)) h)

pub root_state-told : (n : ℕ) (w front : List ℕ) (us : List Part) (t : RootState) (opens : List Open) (m : Marks) (g : Given) → told_within n begin_telling front ≡ Ok (us, telling (reading [] (Inside t) opens) m (length front)) → Allowed w → is_content t ≡ false → ((c : ℕ) (rest : List ℕ) → w ≡ c ∷ rest → Shallow (Inside t) opens c) → breaks_rule opens (g.token ∷ []) ≡ false → length (front ++ bytes_of w) ≤ n
    → Takes (λ t c. step_root t opens c) t w g → Landed n (front ++ bytes_of w) us m opens g
root_state-told n [] front us t opens m g e ok calm shallow keeps within s = absurd s
root_state-told n (c ∷ w) front us t opens m g e ok calm shallow keeps within s =
    let few = few-of n front (encode_utf8 c) (bytes_of w) within in
    next-by (step_root t opens c) (λ d. absurd (rw d at s))
    (λ u d.
    let next = mid-calm t c u calm (rw d at (root_state-mid t opens c)) in
    let made = ap (λ x. passed_over (x && not (is_content u)) m (length (front ++ encode_utf8 c) - 1)) calm in
    let one = more-told n front us us (Inside t) opens m c (Inside u) opens [] ([], m) e ok.0 (shallow c w refl) (ap (inside_move opens) d) refl few.0 made (append-nil us) in
    subst (λ xs. Landed n xs us m opens g) (append_assoc front (encode_utf8 c) (bytes_of w)) (root_state-told n w (front ++ encode_utf8 c) us u opens m g one ok.1 next.0 (λ x rest f b bs z. shallow-mode (Inside u) opens b next.1) keeps few.1 (rw d at s)))
    (λ b d.
    let h : (b ≡ g) × (w ≡ []) = rw d at s in
    let x : List Part × Marks = completed_as m (length (front ++ encode_utf8 c) - 1) (length front) (said_as opens g.token) in
    subst (λ xs. Landed n xs us m opens g) (sym (append-nil (front ++ encode_utf8 c)) ∙ ap (λ xs. (front ++ encode_utf8 c) ++ bytes_of xs) (sym h.1) ∙ append_assoc front (encode_utf8 c) (bytes_of w))
    (length front, more-told n front us (us ++ x.0) (Inside t) opens m c (landing g) g.opens (g.token ∷ []) x e ok.0 (shallow c w refl) (ap (inside_move opens) (d ∙ ap Done h.0)) keeps few.0 refl refl))

-- a token from between tokens, which is no character of a text
pub token-told : (n k : ℕ) (w front : List ℕ) (us : List Part) (opens : List Open) (begin : ℕ) (text : Option OpenText) (g : Given) → told_within n begin_telling front ≡ Ok (us, telling (reading [] (Inside (Content k)) opens) (marks begin text) (length front)) → Allowed w → ((c : ℕ) → g.token ≡ Letter c → ⊥)
    → ((c : ℕ) (rest : List ℕ) → w ≡ 60 ∷ c ∷ rest → Shallow (Inside Less) opens c) → breaks_rule opens (g.token ∷ []) ≡ false → length (front ++ bytes_of w) ≤ n → Takes (λ t c. step_root t opens c) (Content k) w g → Landed n (front ++ bytes_of w) (us ++ ended_part text) (marks (length front) None) opens g
token-told n k [] front us opens begin text g e ok none shallow keeps within s = absurd s
token-told n k (c ∷ w) front us opens begin text g e ok none shallow keeps within s = elim (either-if (c == 60) _ _ _ _ s) [
  | inl (a, h) ↦ after Less (rw a refl) (omega (arith, is-byte c 60 a)) refl (λ d rest f. shallow d rest (ap (λ t. c ∷ t) f ∙ ap (λ t. t ∷ d ∷ rest) (is-byte c 60 a))) h
  | inr (a, x) ↦ elim (either-if (c == 38) _ _ _ _ x) [
    | inl (b, h) ↦ after (Reference Ampersand) (rw (a, b) refl) (omega (arith, is-byte c 38 b)) refl (λ d rest f b bs z. shallow-mode (Inside (Reference Ampersand)) opens b refl) h
    | inr (b, y) ↦ elim (either-if (closes_section k c) _ _ _ _ y) [ inl h ↦ absurd h.1 | inr h ↦ absurd (none c (ap (λ x. x.token) (sym h.1.0))) ]
  ]
] where
  after : (u : RootState) → step_root (Content k) opens c ≡ On u → c < 128 → is_content u ≡ false → ((d : ℕ) (rest : List ℕ) → w ≡ d ∷ rest → Shallow (Inside u) opens d) → Takes (λ t c. step_root t opens c) u w g
      → Landed n (front ++ bytes_of (c ∷ w)) (us ++ ended_part text) (marks (length front) None) opens g
  after u d low calm first h =
      let few = few-of n front (encode_utf8 c) (bytes_of w) within in
      let made = ap (λ x. passed_over (not x) (marks begin text) (length (front ++ encode_utf8 c) - 1)) calm ∙ ap (λ x. (ended_part text, marks x None)) (omega (arith, length-append front (encode_utf8 c), ap length (encode_ascii c low))) in
      let one = more-told n front us (us ++ ended_part text) (Inside (Content k)) opens (marks begin text) c (Inside u) opens [] (ended_part text, marks (length front) None) e ok.0 (λ b bs z. shallow-mode (Inside (Content k)) opens b refl) (ap (inside_move opens) d) refl few.0 made refl in
      subst (λ xs. Landed n xs (us ++ ended_part text) (marks (length front) None) opens g) (append_assoc front (encode_utf8 c) (bytes_of w)) (root_state-told n w (front ++ encode_utf8 c) (us ++ ended_part text) u opens (marks (length front) None) g one ok.1 calm first keeps few.1 h)

-- before the root and behind it
pub early-less : (e : Early) → begins_tag (mode_of e) ≡ false
early-less AtBegin = refl
early-less other = refl

module _ {M A : Type 0} (next : M → ℕ → Next M A) (mode : M → Mode) (moves : (m l : M) (c : ℕ) → next m c ≡ On l → step (mode m) [] c ≡ To (mode l) [] []) (calm : (m : M) → begins_tag (mode m) ≡ false) where
  abbrev Quiet : ℕ → M → List ℕ → List Part → Type 0
  Quiet n m front us = (x : ℕ) × (told_within n begin_telling front ≡ Ok (us, telling (reading [] (mode m) []) (marks x None) (length front)))

  pub quiet-told : (n : ℕ) (w : List ℕ) (m l : M) (front : List ℕ) (us : List Part) → Quiet n m front us → Allowed w → Steps next m w l → length (front ++ bytes_of w) ≤ n → Quiet n l (front ++ bytes_of w) us
  quiet-told n [] m l front us q ok s within = subst (λ k. Quiet n k (front ++ []) us) s (subst (λ xs. Quiet n m xs us) (sym (append-nil front)) q)
  quiet-told n (c ∷ w) m l front us q ok s within =
      let few = few-of n front (encode_utf8 c) (bytes_of w) within in
      next-by (next m c) (λ d. absurd (rw d at s))
      (λ k d.
      let x = by-test (λ b. (x : ℕ) × (passed_over b (marks q.0 None) (length (front ++ encode_utf8 c) - 1) ≡ ([], marks x None))) (length (front ++ encode_utf8 c) - 1, refl) (q.0, refl) (is_between (mode m) && not (is_between (mode k))) in
      let one = more-told n front us us (mode m) [] (marks q.0 None) c (mode k) [] [] ([], marks x.0 None) q.1 ok.0 (λ b bs z. shallow-mode (mode m) [] b (calm m)) (moves m k c d) refl few.0 x.1 (append-nil us) in
      subst (λ xs. Quiet n l xs us) (append_assoc front (encode_utf8 c) (bytes_of w)) (quiet-told n w k l (front ++ encode_utf8 c) us (x.0, one) ok.1 (rw d at s) few.1)) (λ a d. absurd (rw d at s))

-- the root's start tag
pub root-told : (n : ℕ) (e : Early) (w front : List ℕ) (us : List Part) (begin : ℕ) (g : Given) → Leads-root e → told_within n begin_telling front ≡ Ok (us, telling (reading [] (mode_of e) []) (marks begin None) (length front)) → Allowed w → breaks_rule [] (g.token ∷ []) ≡ false → length (front ++ bytes_of (60 ∷ w)) ≤ n → Takes (λ t c. step_root t [] c) (StartTag Opened) w g
    → Landed n (front ++ bytes_of (60 ∷ w)) us (marks (length front) None) [] g
root-told n e [] front us begin g l t ok keeps within s = absurd s
root-told n e (x ∷ w) front us begin g l t ok keeps within s =
    let u : RootState = StartTag (Name (name_begun x)) in
    let mid : List ℕ = front ++ encode_utf8 60 in
    let few = few-of n front (encode_utf8 60) (bytes_of (x ∷ w)) within in
    let fewer = few-of n mid (encode_utf8 x) (bytes_of w) few.1 in
    let to-less : step (mode_of e) [] 60 ≡ To (mode_of l.next) [] [] = step-is e [] 60 ∙ ap (λ y. root_or [] y 60) l.less in
    let made = ap (λ t. passed_over (t && not (is_between (mode_of l.next))) (marks begin None) (length mid - 1)) l.between ∙ ap (λ t. passed_over (not t) (marks begin None) (length mid - 1)) l.apart ∙ ap (λ k. ([], marks k None)) (omega (arith, length-append front (encode_utf8 60), ap length (encode_ascii 60 (omega arith)))) in
    let made-name = ap (λ t. passed_over (t && true) (marks (length front) None) (length (mid ++ encode_utf8 x) - 1)) l.apart in
    let one = more-told n front us us (mode_of e) [] (marks begin None) 60 (mode_of l.next) [] [] ([], marks (length front) None) t refl (λ b bs z. shallow-mode (mode_of e) [] b (early-less e)) to-less refl few.0 made (append-nil us) in
    cases (begins_name x) (λ name.
    let to : step (mode_of l.next) [] x ≡ To (Inside u) [] [] = step-is l.next [] x ∙ ap (λ y. root_or [] y x) (l.named x name) ∙ (rw name refl) in
    let two = more-told n mid us us (mode_of l.next) [] (marks (length front) None) x (Inside u) [] [] ([], marks (length front) None) one ok.0 (λ b bs z. shallow-mode (mode_of l.next) [] b (early-less l.next)) to refl fewer.0 made-name (append-nil us) in
    subst (λ xs. Landed n xs us (marks (length front) None) [] g) (append_assoc mid (encode_utf8 x) (bytes_of w) ∙ append_assoc front (encode_utf8 60) (bytes_of (x ∷ w)))
    (root_state-told n w (mid ++ encode_utf8 x) us u [] (marks (length front) None) g two ok.1 refl (λ c rest f b bs z. shallow-mode (Inside u) [] b refl) keeps fewer.1 (rw name at s))) (λ name. absurd (rw name at s))

-- The characters of a literal text lead the reader of bytes on, and what it keeps of them is what the text says.

-- the first character that is no blank
pub blank-behind : (text ys : List ℕ) (begin at : ℕ) (blank : Bool) → ((n : ℕ) → first_non_blank n ys ≡ cond {A = Option ℕ} blank None (Some n)) → at ≡ begin + length text → first_non_blank begin (text ++ ys) ≡ or_here (first_non_blank begin text) blank at
blank-behind [] ys begin at blank h e = h begin ∙ ap (λ n. cond {A = Option ℕ} blank None (Some n)) (omega (arith, e))
blank-behind (b ∷ text) ys begin at blank h e = let again = blank-behind text ys (begin + 1) at blank h (omega (arith, e)) in cases (is_blank b) (λ d. rw d again) (λ d. rw d refl)

-- what is kept of a text
pub record IsRead (t : OpenText) (begin : ℕ) (xs : List ℕ) : Type 0 where
  pub at : t.at ≡ begin
  pub non_blank : t.non_blank ≡ first_non_blank begin xs
  pub said : t.said ≡ line_ends xs
  pub behind : t.behind_return ≡ ends_return false xs

read-more : (t : OpenText) (begin at c : ℕ) (xs : List ℕ) → IsRead t begin xs → at ≡ begin + length xs → IsRead (text_with t at c) begin (xs ++ encode_utf8 c)
read-more t begin at c xs r e = record {
  at = r.at;
  non_blank = ap (λ o. or_here o (is_blank c) at) r.non_blank ∙ sym (blank-behind xs (encode_utf8 c) begin at (is_blank c) (λ n. elim (small-or-wide c) [ inl low ↦ rw (encode_ascii c low) refl | inr high ↦ let w = wide-bytes c high in rw (w.2, no-blank w.0 w.3.0, no-blank c high) refl ]) e);
  said = ap (λ ys. ys ++ line_end_says t.behind_return c) r.said ∙ ap (λ b. line_ends xs ++ line_end_says b c) r.behind ∙ sym (line_more xs c);
  behind = sym (ends_more xs c);
}

-- of the text that is open, if there is one
abbrev pub TextSo : Option OpenText → ℕ → List ℕ → Type 0
TextSo None begin xs = xs ≡ []
TextSo (Some t) begin xs = IsRead t begin xs

pub text-so : (text : Option OpenText) (begin at : ℕ) (xs : List ℕ) → TextSo text begin xs → at ≡ begin + length xs → IsRead (text_or at text) begin xs
text-so (Some t) begin at xs r e = r
text-so None begin at xs none e = subst (IsRead (open_text at) begin) (sym none) (record { at = omega (arith, e, ap length none); non_blank = refl; said = refl; behind = refl })

pub text-part : (text : Option OpenText) (begin : ℕ) (xs : List ℕ) → TextSo text begin xs → (xs ≡ [] → ⊥) → ended_part text ≡ Run begin (first_non_blank begin xs) (line_ends xs) ∷ []
text-part None begin xs none some = absurd (some none)
text-part (Some t) begin xs r some = ap (λ n. Run n t.non_blank t.said ∷ []) r.at ∙ ap (λ o. Run begin o t.said ∷ []) r.non_blank ∙ ap (λ s. Run begin (first_non_blank begin xs) s ∷ []) r.said

pub record Lettered (n k : ℕ) (opens : List Open) (before xs : List ℕ) (earlier : List Part) : Type 0 where
  pub begin : ℕ
  pub text : Option OpenText
  pub told : told_within n begin_telling (before ++ xs) ≡ Ok (earlier, telling (reading [] (Inside (Content k)) opens) (marks begin text) (length (before ++ xs)))
  pub so : TextSo text (length before) xs

pub letters-told : (n : ℕ) (cs : List ℕ) (k : ℕ) (o : Open) (outer : List Open) (before xs : List ℕ) (earlier : List Part) → Lettered n k (o ∷ outer) before xs earlier → InText cs → clean k cs ≡ true → length (before ++ (xs ++ bytes_of cs)) ≤ n → Lettered n (state k cs) (o ∷ outer) before (xs ++ bytes_of cs) earlier
letters-told n [] k o outer before xs earlier l a f within = subst (λ ys. Lettered n k (o ∷ outer) before ys earlier) (sym (append-nil xs)) l
letters-told n (c ∷ cs) k o outer before xs earlier l a f within =
    let at = length (before ++ xs) in
    let place = length-append before xs in
    let few = few-of n (before ++ xs) (encode_utf8 c) (bytes_of cs) (subst (λ ys. length ys ≤ n) (sym (append_assoc before xs (bytes_of (c ∷ cs)))) within) in
    let to = letter-step k o outer c a.1 (not-so (closes_section k c) (and-first (not (closes_section k c)) (clean (brackets_with k c) cs) f)) in
    let with : OpenText = text_with (text_or at l.text) at c in
    let one = more-told n (before ++ xs) earlier earlier (Inside (Content k)) (o ∷ outer) (marks l.begin l.text) c (Inside (Content (brackets_with k c))) (o ∷ outer) (Letter c ∷ []) ([], marks l.begin (Some with)) l.told a.0 (λ b bs z. shallow-mode (Inside (Content k)) (o ∷ outer) b refl) to refl few.0 refl (append-nil earlier) in
    let next : Lettered n (brackets_with k c) (o ∷ outer) before (xs ++ encode_utf8 c) earlier = record {
      begin = l.begin;
      text = Some with;
      told = subst (λ ys. told_within n begin_telling ys ≡ Ok (earlier, telling (reading [] (Inside (Content (brackets_with k c))) (o ∷ outer)) (marks l.begin (Some with)) (length ys))) (append_assoc before xs (encode_utf8 c)) one;
      so = read-more (text_or at l.text) (length before) at c xs (text-so l.text (length before) at xs l.so place) place;
    } in
    let same = append_assoc xs (encode_utf8 c) (bytes_of cs) in
    subst (λ ys. Lettered n (state k (c ∷ cs)) (o ∷ outer) before ys earlier) same (letters-told n cs (brackets_with k c) o outer before (xs ++ encode_utf8 c) earlier next a.2 (and-second (not (closes_section k c)) (clean (brackets_with k c) cs) f) (subst (λ ys. length (before ++ ys) ≤ n) (sym same) within))
