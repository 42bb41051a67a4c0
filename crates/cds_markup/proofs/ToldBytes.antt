-- What a byte, a piece and the end are told as, from what the machine and the marks answer.
-- One byte where content is: a character is whole, or a part of one, or the text is over. A text is open only there, and one that
-- goes on behind what was given of it: its runs together are its one run.
use Rattle.std.proofs.Common.{◌≡◌, ◌≢◌, ℕ, ◌+◌, ◌-◌, nat_le, Bool, true, false, cond, Option, Some, None, Result, Ok, Err, List, [], ◌∷◌, length, refl, sym, ap, subst, ◌∙◌, arith, ◌++◌, ◌==◌, ◌<◌, not, ◌&&◌, ◌⊎◌, inl, inr, append_assoc, encode_utf8}
use Rattle.cds_markup.proofs.Terms.{INPUT_LIMIT, MarkupError, TooLong, Mem, Event, Marks, Part, Token, judge, Progress, passed_byte, begins, passed_over, completed, completed_as, marked, EndsSo, MarksSo, NextSo, Telling, telling, told_from, last_parts, Told, moved_on, judged_told, told_byte, told_on, cuts_text, last_part, behind_parts, told, ToldSo, listed, Puts, TakesAll as Takes, begin_telling, cases, ok-err, clash, unless_enough, nat_tests, encode_ascii, is_blank, Opened, Open, RootState, Content, Less, Reference, StartTag, Mode, Epilog, Inside, Misc, Next, On, Done, Step, any_at, Letter, Started, Slash, Given, tag_given, step_tag, start_step, step_root, brackets_with, tag_says, scopes_in, Move, To, is_content, inside_move, epilog_move, misc_step, step, Reading, reading, may_begin, moved, go_on, byte_step, said_as, is_between, is_in_content, length-append, is_empty, told_within, Ampersand, closes_section, Gone, Nowhere, text_or, BeginsText, append-nil, OpenText, Run, refusal, marks, text_with, run_of, begun_text, or_here, rest_of, goes_on_as, ended_part, shown, or_then, InRuns, No-runs, A-part, More-text, Meanings, add_part, nested, RunsSay, and-both, and-no, both-no, empty-is, holds, Anything, is-byte, taken-if, by-test, some-is}
use Rattle.cds_markup.proofs.GoingOn.{next, same-err, result-by, Reached, done, some-same, two-bytes, Unfinished, reached-nothing, taken, option-by, judged-so}
use Rattle.cds_markup.proofs.Placing.{WellMode, no-blank, InMode, Mid, root_state-mid, Quiet, QuietGiven, tag-quiet}
use Rattle.cds_markup.proofs.Standing.{last-same}
use Rattle.cds_markup.proofs.Ways.{Early, early_next, root_or, step-is, leads-any}
use Rattle.cds_markup.proofs.TokenTold.{told-append, behind-none, parts-at, parts-behind, told-keeps}
use Rattle.cds_markup.proofs.NodesForm.{joined-more}

-- what has enough stays as it is
pub stays : {S : Type 0} (took : S → Part → S → Type 0) (enough : S → Bool) (a c : S) (qs : List Part)
    → enough a ≡ true → Takes took enough a qs c → c ≡ a
stays took enough a c [] e t = t
stays {S} took enough a c (q ∷ qs) e t = subst (λ v. unless_enough v (c ≡ a) ((mid : S) × took a q mid × Takes took enough mid qs c)) e t

pub still : {S : Type 0} (took : S → Part → S → Type 0) (enough : S → Bool) (a : S) (qs : List Part) → enough a ≡ true → Takes took enough a qs a
still took enough a [] e = refl
still {S} took enough a (q ∷ qs) e = subst (λ v. unless_enough v (a ≡ a) ((mid : S) × took a q mid × Takes took enough mid qs a)) (sym e) refl

pub takes-more : {S : Type 0} (took : S → Part → S → Type 0) (enough : S → Bool) (a b c : S) (ps qs : List Part)
    → Takes took enough a ps b → Takes took enough b qs c → Takes took enough a (ps ++ qs) c
takes-more took enough a b c [] qs t u = subst (λ x. Takes took enough x qs c) t u
takes-more took enough a b c (p ∷ ps) qs t u =
    cases (enough a) (λ e. rw e (stays took enough a c qs e (subst (λ x. Takes took enough x qs c) (rw e at t) u)))
    (λ e. let h = rw e at t in rw e (h.0, h.1, takes-more took enough h.0 b c ps qs h.2 u))

pub ends-listed : (parts : List Part) (part : Option Part) → EndsSo parts part → listed part ≡ parts
ends-listed parts None e = sym e
ends-listed parts (Some part) e = sym e

-- what is open at the end
pub last_ends : (p : Progress) (m : Marks) (cut : Bool) (first : ℕ) (part : Option Part) → first ≡ p.at - length p.read.begun → cut ≡ cuts_text p.read → EndsSo (last_part cut first m) part → EndsSo (last_parts (told_from p m)) part
last_ends p m cut first part f c e = subst (λ xs. EndsSo xs part) (ap (λ x. last_part cut x m) f ∙ ap (λ t. last_part t (p.at - length p.read.begun) m) c) e

module _ {S : Type 0} (took : S → List Part → S → Type 0) (enough : S → Bool) where
  pub given-so : (t : Told) (before to : S) (parts : List Part) (now next : Telling) (result : Result (Unit {0}) MarkupError) → t ≡ Ok (parts, next) → now ≡ next → Puts took before parts result to → ToldSo took enough before t result to now
  given-so t before to parts now next (Ok done) e d h = subst (λ x. ToldSo took enough before x (Ok tt) to now) (sym e) (h, λ f. d)
  given-so t before to parts now next (Err Mem) e d h = tt
  given-so t before to parts now next (Err other) e d h = absurd h

  -- a byte that is taken
  byte-so : (p q : Progress) (m n : Marks) (b : ℕ) (us : List Token) (x : List Part × Marks) (part : Option Part) (before to : S) (result : Result (Unit {0}) MarkupError) → nat_le INPUT_LIMIT p.at ≡ false → q.at ≡ p.at + 1 → judge p.read b ≡ Ok (q.read, us) → marked p.read m p.at q.read us ≡ x → EndsSo x.0 part → n ≡ x.1
      → Puts took before (listed part) result to → ToldSo took enough before (told_byte (told_from p m) b) result to (told_from q n)
  byte-so p q m n b us x part before to result room at e made parts is h =
      let all : told_byte (told_from p m) b ≡ Ok (x.0, telling q.read x.1 (p.at + 1)) = ap (λ t. cond {A = Told} t (Err (last_parts (told_from p m), TooLong)) (judged_told (told_from p m) (judge p.read b))) room ∙ ap (judged_told (told_from p m)) e ∙ ap (λ y. Ok (moved_on (told_from p m) q.read y)) made in
      given-so (told_byte (told_from p m) b) before to x.0 (told_from q n) (telling q.read x.1 (p.at + 1)) result all (ap (λ y. telling q.read n y) at ∙ ap (λ y. telling q.read y (p.at + 1)) is) (subst (λ xs. Puts took before xs result to) (ends-listed x.0 part parts) h)

  pub byte_event : (p q : Progress) (m n : Marks) (b first : ℕ) (event : Event) (part : Option Part) (before to : S) (result : Result (Unit {0}) MarkupError) → NextSo p b (Ok (Some event)) q → first ≡ p.at - length p.read.begun → MarksSo m p.at first event (Ok part) n → Puts took before (listed part) result to
      → ToldSo took enough before (told_byte (told_from p m) b) result to (told_from q n)
  byte_event p q m n b first event part before to result (room, at, (t, e, said)) f (parts, is) h =
      byte-so p q m n b (t ∷ []) (completed m p.at first event) part before to result room at e (ap (λ x. completed_as m p.at (p.at - length p.read.begun) x) said ∙ ap (λ x. completed m p.at x event) (sym f)) parts is h

  pub byte_none : (p q : Progress) (m n : Marks) (b : ℕ) (over : Bool) (part : Option Part) (before to : S) (result : Result (Unit {0}) MarkupError) → NextSo p b (Ok None) q → over ≡ begins p.read q.read → EndsSo (passed_over over m p.at).0 part → n ≡ (passed_over over m p.at).1 → Puts took before (listed part) result to
      → ToldSo took enough before (told_byte (told_from p m) b) result to (told_from q n)
  byte_none p q m n b over part before to result (room, at, e) f parts is h = byte-so p q m n b [] (passed_over over m p.at) part before to result room at e (ap (λ t. passed_over t m p.at) (sym f)) parts is h

-- a byte that is refused
refused-byte : (p : Progress) (m : Marks) (b : ℕ) (e : MarkupError) → passed_byte p b ≡ Err e → told_byte (told_from p m) b ≡ Err (last_parts (told_from p m), e)
refused-byte p m b e f = cases (nat_le INPUT_LIMIT p.at) (λ d. rw d (ap (λ x. Err (last_parts (told_from p m), x)) (same-err (rw d at f))))
    (λ d. result-by (judge p.read b) (λ x g. ok-err (rw (d, g) at f)) (λ stop g. rw (d, g) (ap (λ x. Err (last_parts (told_from p m), x)) (same-err (rw (d, g) at f)))))

-- the refusal, behind the parts that stand before it
module _ {S : Type 0} (took : S → List Part → S → Type 0) (enough : S → Bool) where
  pub byte_refused : (p q : Progress) (m : Marks) (b : ℕ) (e : MarkupError) (part : Option Part) (before to : S) (now : Telling) (result : Result (Unit {0}) MarkupError) → e ≢ Mem → NextSo p b (Err e) q → EndsSo (last_parts (told_from p m)) part
      → ToldSo took enough before (Err (listed part, e)) result to begin_telling → ToldSo took enough before (told_byte (told_from p m) b) result to now
  byte_refused p q m b e part before to now result other h parts r = subst (λ t. ToldSo took enough before t result to now) (sym (refused-byte p m b e (so e other h))) (by result (subst (λ xs. ToldSo took enough before (Err (xs, e)) result to begin_telling) (ends-listed (last_parts (told_from p m)) part parts) r)) where
    so : (e : MarkupError) → e ≢ Mem → NextSo p b (Err e) q → passed_byte p b ≡ Err e
    so Mem other h = absurd (other refl)
    so e other h = h

    by : (result : Result (Unit {0}) MarkupError) → ToldSo took enough before (Err (last_parts (told_from p m), e)) result to begin_telling → ToldSo took enough before (Err (last_parts (told_from p m), e)) result to now
    by (Err Mem) r = r
    by other r = r

-- One telling behind another, where what takes the parts may have enough.
module _ {S : Type 0} (took : S → Part → S → Type 0) (enough : S → Bool) where
  abbrev So : S → Told → Result (Unit {0}) MarkupError → S → Telling → Type 0
  So before t result to now = ToldSo (Takes took enough) enough before t result to now

  behind-so : (before mid to : S) (ps : List Part) (t : Told) (result : Result (Unit {0}) MarkupError) (now : Telling) → Takes took enough before ps mid → So mid t result to now → So before (behind_parts ps t) result to now
  behind-so before mid to ps t (Err Mem) now h g = tt
  behind-so before mid to ps (Ok found) (Ok done) now h g = (takes-more took enough before mid to ps found.0 h g.0, g.1)
  behind-so before mid to ps (Err found) (Ok done) now h g = (takes-more took enough before mid to ps found.0 h g.0, g.1)
  behind-so before mid to ps (Err found) (Err other) now h g = (takes-more took enough before mid to ps found.0 h g.0, g.1, g.2)
  behind-so before mid to ps (Ok found) (Err other) now h g = absurd g

  pub enough-so : (a : S) (t : Told) (now : Telling) → enough a ≡ true → So a t (Ok tt) a now
  enough-so a (Ok found) now e = (still took enough a found.0 e, λ f. clash e f)
  enough-so a (Err found) now e = (still took enough a found.0 e, e)

  pub on-so : (before mid to : S) (t : Told) (rest : Telling → Told) (q now : Telling) (result : Result (Unit {0}) MarkupError) → So before t (Ok tt) mid q → So mid (rest q) result to now → So before (told_on t rest) result to now
  on-so before mid to t rest q now result h g = cases (enough mid) (λ e. over e (rest q) result g) (λ e. goes t e h) where
    goes : (t : Told) → enough mid ≡ false → So before t (Ok tt) mid q → So before (told_on t rest) result to now
    goes (Err found) e h = clash h.1 e
    goes (Ok found) e h = behind-so before mid to found.0 (rest found.1) result now h.0 (subst (λ x. So mid (rest x) result to now) (h.1 e) g)

    stopped : (t : Told) → enough mid ≡ true → So before t (Ok tt) mid q → So before (told_on t rest) (Ok tt) mid now
    stopped (Err found) e h = h
    stopped (Ok found) e h = behind-so before mid mid found.0 (rest found.1) (Ok tt) now h.0 (enough-so mid (rest found.1) now e)

    over : enough mid ≡ true → (x : Told) (result : Result (Unit {0}) MarkupError) → So mid x result to now → So before (told_on t rest) result to now
    over e x (Err Mem) g = tt
    over e (Ok found) (Ok done) g = subst (λ y. So before (told_on t rest) (Ok tt) y now) (sym (stays took enough mid to found.0 e g.0)) (stopped t e h)
    over e (Err found) (Ok done) g = subst (λ y. So before (told_on t rest) (Ok tt) y now) (sym (stays took enough mid to found.0 e g.0)) (stopped t e h)
    over e (Err found) (Err other) g = clash (ap enough (stays took enough mid to found.0 e g.0) ∙ e) g.1
    over e (Ok found) (Err other) g = absurd g

  pub on-err : (before to : S) (t : Told) (rest : Telling → Told) (q now : Telling) (e : MarkupError) → So before t (Err e) to q → So before (told_on t rest) (Err e) to now
  on-err before to t rest q now Mem h = tt
  on-err before to (Err found) rest q now other h = h
  on-err before to (Ok found) rest q now other h = absurd h

-- A piece, byte by byte: what the rest of it is told as, the whole is told as.
pub record SoFar {S : Type 0} (took : S → Part → S → Type 0) (enough : S → Bool) (before : S) (whole : Told) (to : S) (p : Telling) (left : List ℕ) : Type 0 where
  pub all : (result : Result (Unit {0}) MarkupError) (end : S) (now : Telling) → ToldSo (Takes took enough) enough to (told p left) result end now → ToldSo (Takes took enough) enough before whole result end now

module _ {S : Type 0} (took : S → Part → S → Type 0) (enough : S → Bool) where
  pub byte-more : (before to next : S) (whole : Told) (p q : Telling) (b : ℕ) (w : List ℕ) → SoFar took enough before whole to p (b ∷ w) → ToldSo (Takes took enough) enough to (told_byte p b) (Ok tt) next q → SoFar took enough before whole next q w
  byte-more before to next whole p q b w s h = record { all = λ result end now g. s.all result end now (on-so took enough to next end (told_byte p b) (λ x. told x w) q now result h g) }

  pub byte-refused : (before to next : S) (whole : Told) (p q : Telling) (b : ℕ) (w : List ℕ) (e : MarkupError) → SoFar took enough before whole to p (b ∷ w) → ToldSo (Takes took enough) enough to (told_byte p b) (Err e) next q
      → ToldSo (Takes took enough) enough before whole (Err e) next q
  byte-refused before to next whole p q b w e s h = s.all (Err e) next q (on-err took enough to next (told_byte p b) (λ x. told x w) q q e h)

  pub bytes-over : (before to : S) (whole : Told) (p : Telling) (left : List ℕ) → length left ≡ 0 → SoFar took enough before whole to p left → ToldSo (Takes took enough) enough before whole (Ok tt) to p
  bytes-over before to whole p [] h s = s.all (Ok tt) to p (refl, λ e. refl)
  bytes-over before to whole p (b ∷ w) h s = absurd (omega (arith, h))

-- no letter comes of other turns
abbrev pub Quiets : List Token → Type 0
Quiets [] = Unit {0}
Quiets (t ∷ us) = Quiet t

abbrev QuietMove : Move → Type 0
QuietMove (To mode opens us) = Quiets us
QuietMove other = Unit {0}

quiet-inside : (on : RootState → Type 0) (opens : List Open) (next : Next RootState Given) → holds next on QuietGiven → QuietMove (inside_move opens next)
quiet-inside on opens (Done g) h = h
quiet-inside on opens other h = tt

quiet-step : (mode : Mode) (opens : List Open) (text : List ℕ) (c : ℕ) → InMode mode opens text → is_in_content mode ≡ false → QuietMove (step mode opens c)
quiet-step (Inside (Content n)) opens text c i e = absurd (cc)
quiet-step (Inside other) opens text c i e = quiet-inside (Mid other c) opens (step_root other opens c) (root_state-mid other opens c)
quiet-step (Epilog m) opens text c i e = by (misc_step m c) where
  by : (next : Next Misc (Unit {0})) → QuietMove (epilog_move opens next)
  by (On m) = tt
  by other = tt
quiet-step mode opens text c (o, f, d, s) e = subst (λ os. QuietMove (step mode os c)) (sym o) (subst (λ x. QuietMove (step x [] c)) (sym d) (subst QuietMove (sym (step-is f [] c)) (by (early_next f c)))) where
  by : (next : Next Early (Unit {0})) → QuietMove (root_or [] next c)
  by (Done u) = quiet-inside Anything [] (start_step [] Opened c) (leads-any (step_tag Opened c) StartTag (λ found. Done (tag_given [] found)) Anything QuietGiven (λ m. tt) (tag-quiet []))
  by other = tt

-- where a byte leads that is taken: its character is whole, or it is a part of one
abbrev pub ByteWays : Reading → ℕ → Reading → List Token → Type 0
ByteWays r b s us =
    ((c : ℕ) × (r.begun ++ b ∷ [] ≡ encode_utf8 c) × (moved (step r.mode r.opens c) ≡ Some (s, us)))
    ⊎ ((any_at (r.begun ++ b ∷ []) ≡ Err []) × (us ≡ []) × (s ≡ reading (r.begun ++ b ∷ []) r.mode r.opens))

pub byte-ways : (r : Reading) (b : ℕ) (s : Reading) (us : List Token) → Unfinished r.begun → byte_step r b ≡ Some (s, us) → ByteWays r b s us
byte-ways r b s us u f = by (any_at (r.begun ++ b ∷ [])) refl f where
  by : (x : Step ℕ) → any_at (r.begun ++ b ∷ []) ≡ x → go_on r.mode r.opens (r.begun ++ b ∷ []) x ≡ Some (s, us) → ByteWays r b s us
  by (Ok (c, left)) e d = inl (c, (done r.begun b c left u e).0, d)
  by (Err []) e d =
      let same = some-same (reading (r.begun ++ b ∷ []) r.mode r.opens) s [] us (taken-if (may_begin r.mode r.opens (r.begun ++ b ∷ [])) (Some (reading (r.begun ++ b ∷ []) r.mode r.opens, [])) (s, us) d).1 in
      inr (e, sym same.1, sym same.0)
  by (Err (x ∷ y)) e d = absurd (cc)

pub quiet-byte : (front : List ℕ) (r : Reading) (b : ℕ) (s : Reading) (us : List Token) → Reached front r → is_in_content r.mode ≡ false → byte_step r b ≡ Some (s, us) → Quiets us × (cuts_text s ≡ false)
quiet-byte front r b s us q e f = elim (byte-ways r b s us q.unfinished f) [
  | inl (c, is, d) ↦ move (step r.mode r.opens c) (quiet-step r.mode r.opens q.text c q.words e) d
  | inr (u, d, is) ↦ (subst Quiets (sym d) tt, ap cuts_text is ∙ ap (λ t. t && not (is_empty (r.begun ++ b ∷ []))) e)
] where
  move : (v : Move) → QuietMove v → moved v ≡ Some (s, us) → Quiets us × (cuts_text s ≡ false)
  move Nowhere h d = absurd (cc)
  move (To mode opens xs) h d = let same = some-same (reading [] mode opens) s xs us d in (subst Quiets same.1 h, ap cuts_text (sym same.0) ∙ and-no (is_in_content mode))

-- what content is
pub content-form : (front : List ℕ) (r : Reading) → Reached front r → is_in_content r.mode ≡ true → (k : ℕ) × (o : Open) × (outer : List Open) × (r ≡ reading r.begun (Inside (Content k)) (o ∷ outer))
content-form front r q e = by r.mode r.opens refl refl e q.well where
  by : (mode : Mode) (opens : List Open) → r.mode ≡ mode → r.opens ≡ opens → is_in_content mode ≡ true → WellMode mode opens → (k : ℕ) × (o : Open) × (outer : List Open) × (r ≡ reading r.begun (Inside (Content k)) (o ∷ outer))
  by (Inside (Content k)) (o ∷ outer) d f e w = (k, o, outer, ap (λ m. reading r.begun m r.opens) d ∙ ap (λ os. reading r.begun (Inside (Content k)) os) f)
  by (Inside (Content k)) [] d f e w = absurd w.1.0
  by other opens d f e w = absurd (cc)

-- and where content is
abbrev pub OverCase : Reading → ℕ → Reading → List Token → Type 0
OverCase r b s us = (us ≡ []) × (r.begun ≡ []) × (is_between s.mode ≡ false) × (s.begun ≡ []) × ((b ≡ 60) ⊎ (b ≡ 38))

abbrev pub ContentCases : Reading → ℕ → Reading → List Token → Type 0
ContentCases r b s us =
    ((c : ℕ) × (l : ℕ) × (us ≡ Letter c ∷ []) × (s ≡ reading [] (Inside (Content l)) r.opens) × (r.begun ++ b ∷ [] ≡ encode_utf8 c))
    ⊎ (((us ≡ []) × (s ≡ reading (r.begun ++ b ∷ []) r.mode r.opens) × (any_at (r.begun ++ b ∷ []) ≡ Err [])) ⊎ OverCase r b s us)

pub content-byte : (front begun : List ℕ) (k : ℕ) (o : Open) (outer : List Open) (b : ℕ) (s : Reading) (us : List Token) → Reached front (reading begun (Inside (Content k)) (o ∷ outer)) → byte_step (reading begun (Inside (Content k)) (o ∷ outer)) b ≡ Some (s, us)
    → ContentCases (reading begun (Inside (Content k)) (o ∷ outer)) b s us
content-byte front begun k o outer b s us q f = elim (byte-ways (reading begun (Inside (Content k)) (o ∷ outer)) b s us q.unfinished f) [
  | inl (c, e, d) ↦ cases (c == 60) (λ m. let is = is-byte c 60 m in inr (inr (over c Less refl e (omega (arith, is)) (inl is) (rw m at d))))
      (λ m. cases (c == 38) (λ n. let is = is-byte c 38 n in inr (inr (over c (Reference Ampersand) refl e (omega (arith, is)) (inr is) (rw (m, n) at d))))
      (λ n. cases (closes_section k c) (λ x. absurd (let g = rw (m, n, x) at d in cc))
      (λ x. let same = some-same (reading [] (Inside (Content (brackets_with k c))) (o ∷ outer)) s (Letter c ∷ []) us (rw (m, n, x) at d) in inl (c, brackets_with k c, sym same.1, sym same.0, e))))
  | inr h ↦ inr (inl (h.1, h.2, h.0))
] where
  over : (c : ℕ) (u : RootState) → is_content u ≡ false → begun ++ b ∷ [] ≡ encode_utf8 c → c < 128 → (c ≡ 60) ⊎ (c ≡ 38) → ◌≡◌ {A = Gone} (Some (reading [] (Inside u) (o ∷ outer), [])) (Some (s, us)) → OverCase (reading begun (Inside (Content k)) (o ∷ outer)) b s us
  over c u apart e low sign d =
      let same = some-same (reading [] (Inside u) (o ∷ outer)) s [] us d in
      let one = last-same begun b [] c (e ∙ encode_ascii c low) in
      (sym same.1, one.0, ap (λ x. is_between x.mode) (sym same.0) ∙ apart, ap (λ x. x.begun) (sym same.0), subst (λ x. (x ≡ 60) ⊎ (x ≡ 38)) (sym one.1) sign)

pub content-cases : (front : List ℕ) (r : Reading) (b : ℕ) (s : Reading) (us : List Token) → Reached front r → is_in_content r.mode ≡ true → byte_step r b ≡ Some (s, us) → ContentCases r b s us
content-cases front r b s us q e took =
    let f = content-form front r q e in
    subst (λ x. ContentCases x b s us) (sym f.3) (content-byte front r.begun f.0 f.1 f.2 b s us (subst (Reached front) f.3 q) (subst (λ x. byte_step x b ≡ Some (s, us)) f.3 took))

-- where no character is begun, and where a text is over
pub none-begun : (r : Reading) → r.begun ≡ [] → cuts_text r ≡ false
none-begun r e = ap (λ xs. is_in_content r.mode && not (is_empty xs)) e ∙ and-no (is_in_content r.mode)

content-between : (mode : Mode) → is_in_content mode ≡ true → is_between mode ≡ true
content-between (Inside root_state) e = e
content-between other e = absurd (cc)

over : (r s : Reading) → is_in_content r.mode ≡ true → is_between s.mode ≡ false → begins r s ≡ true
over r s e apart = and-both (is_between r.mode) (not (is_between s.mode)) (content-between r.mode e) (ap not apart)

-- a character of more than one byte is no white space
pub wide-blank : (xs : List ℕ) (b c : ℕ) → xs ++ b ∷ [] ≡ encode_utf8 c → (xs ≡ []) ⊎ (is_blank c ≡ false)
wide-blank [] b c e = inl refl
wide-blank (x ∷ xs) b c e = inr (no-blank c (two-bytes c x b xs [] (sym e)))

-- A literal text is open only where content is, and it began with a byte that is no `<` and no `&`.
abbrev pub Calm : List ℕ → Telling → Type 0
Calm front p = ((p.marks.text ≡ None) × (cuts_text p.read ≡ false)) ⊎ ((is_in_content p.read.mode ≡ true) × BeginsText front (text_or (p.at - length p.read.begun) p.marks.text).at)

pub begins-more : (front more : List ℕ) (at : ℕ) → BeginsText front at → BeginsText (front ++ more) at
begins-more front more at (before, byte, rest, e, place, less, and) = (before, byte, rest ++ more, ap (λ xs. xs ++ more) e ∙ append_assoc before (byte ∷ rest) more, place, less, and)

quiet-marks : (t : Token) (m : Marks) (at first : ℕ) (opens : List Open) → Quiet t → (completed_as m at first (said_as opens t)).1.text ≡ m.text
quiet-marks (Letter c) m at first opens q = absurd q
quiet-marks (Started tag) m at first opens q = option-by (tag_says (scopes_in opens) tag) (λ d. rw d refl) (λ x d. rw d refl)
quiet-marks (Slash tag) m at first opens q = option-by (tag_says (scopes_in opens) tag) (λ d. rw d refl) (λ x d. rw d refl)
quiet-marks other m at first opens q = refl

calm-step : (front : List ℕ) (p : Telling) (b : ℕ) (s : Reading) (ts : List Token) → Reached front p.read → p.at ≡ length front → Calm front p → judge p.read b ≡ Ok (s, ts) → Calm (front ++ b ∷ []) (telling s (marked p.read p.marks p.at s ts).1 (p.at + 1))
unfolding any_at
calm-step front p b s ts q place calm goes = cases (is_in_content p.read.mode) (λ e. content e (content-cases front p.read b s ts q e took)) outside where
  took : byte_step p.read b ≡ Some (s, ts)
  took = (judged-so front p.read b [] q s ts goes).1

  apart : (x : ℕ) (root_state : RootState) → ((k : ℕ) (os : List Open) → byte_step (reading [] (Inside (Content k)) os) x ≡ Some (reading [] (Inside root_state) os, [])) → is_content root_state ≡ false → is_in_content p.read.mode ≡ true → p.read.begun ≡ [] → is_in_content s.mode ≡ true → b ≢ x
  apart x root_state steps none e z h is =
      let f = content-form front p.read q e in
      let leads = sym took ∙ ap (λ r. byte_step r b) f.3 ∙ ap (λ xs. byte_step (reading xs (Inside (Content f.0)) (f.1 ∷ f.2)) b) z ∙ ap (byte_step (reading [] (Inside (Content f.0)) (f.1 ∷ f.2))) is ∙ steps f.0 (f.1 ∷ f.2) in
      clash h (ap (λ x. is_in_content x.mode) (some-same s (reading [] (Inside root_state) (f.1 ∷ f.2)) ts [] leads).0 ∙ none)

  still : Calm front p → is_in_content p.read.mode ≡ true → is_in_content s.mode ≡ true → (text_or (p.at - length p.read.begun) p.marks.text).at ≡ (text_or (p.at + 1 - length s.begun) (marked p.read p.marks p.at s ts).1.text).at → Calm (front ++ b ∷ []) (telling s (marked p.read p.marks p.at s ts).1 (p.at + 1))
  still (inr (d, begun)) e h same = inr (h, subst (BeginsText (front ++ b ∷ [])) same (begins-more front (b ∷ []) (text_or (p.at - length p.read.begun) p.marks.text).at begun))
  still (inl (none, cut)) e h same =
      let z : p.read.begun ≡ [] = empty-is p.read.begun (grind (arith, e, cut)) in
      let here : (text_or (p.at - length p.read.begun) p.marks.text).at ≡ length front = ap (λ t. (text_or (p.at - length p.read.begun) t).at) none ∙ omega (arith, place, ap length z) in
      inr (h, subst (BeginsText (front ++ b ∷ [])) same (front, b, [], refl, here, apart 60 Less (λ k os. refl) refl e z h, apart 38 (Reference Ampersand) (λ k os. refl) refl e z h))

  content : is_in_content p.read.mode ≡ true → ContentCases p.read b s ts → Calm (front ++ b ∷ []) (telling s (marked p.read p.marks p.at s ts).1 (p.at + 1))
  content e (inl (c, l, d, is, x)) = still calm e (ap (λ x. is_in_content x.mode) is) (ap (λ us. (text_or (p.at + 1 - length s.begun) (marked p.read p.marks p.at s us).1.text).at) (sym d))
  content e (inr (inl (d, is, u))) = still calm e (ap (λ x. is_in_content x.mode) is ∙ e) (rw (d, is, both-no (is_between p.read.mode)) (ap (λ n. (text_or n p.marks.text).at) (omega (arith, length-append p.read.begun (b ∷ [])))))
  content e (inr (inr (d, none, apart, rest, sign))) =
      inl (ap (λ us. (marked p.read p.marks p.at s us).1.text) d ∙ ap (λ t. (passed_over t p.marks p.at).1.text) (over p.read s e apart), none-begun s rest)

  outside : is_in_content p.read.mode ≡ false → Calm (front ++ b ∷ []) (telling s (marked p.read p.marks p.at s ts).1 (p.at + 1))
  outside e = let x = quiet-byte front p.read b s ts q e took in inl (by ts x.0 (elim calm [ inl c ↦ c.0 | inr c ↦ clash c.0 e ]), x.1) where
    by : (us : List Token) → Quiets us → p.marks.text ≡ None → (marked p.read p.marks p.at s us).1.text ≡ None
    by [] h none = by-test (λ t. (passed_over t p.marks p.at).1.text ≡ None) refl none (begins p.read s)
    by (t ∷ us) h none = quiet-marks t p.marks p.at _ p.read.opens h ∙ none

pub settled : (n : ℕ) (came : List ℕ) (us : List Part) (q : Telling) → told_within n begin_telling came ≡ Ok (us, q) → Calm came q
settled n came us q e =
    (told-keeps (λ front p. Reached front p.read × (p.at ≡ length front) × Calm front p) n
    (λ front p b s ts h less f. (next front p.read b [] h.0 s ts f, ap (λ k. k + 1) h.1 ∙ sym (length-append front (b ∷ [])), calm-step front p b s ts h.0 h.1 h.2 f)) came [] begin_telling q us (reached-nothing, refl, inl (refl, refl)) e).2

-- the text that is open where what is read ends
abbrev pub text_at : Bool → ℕ → Option OpenText → Option OpenText
text_at cut first text = cond cut (Some (begun_text first (text_or first text))) text

abbrev pub view : Reading → ℕ → Option OpenText → Option OpenText
view r at text = text_at (cuts_text r) (at - length r.begun) text

last-is : (cut : Bool) (first begin : ℕ) (text : Option OpenText) → last_part cut first (marks begin text) ≡ ended_part (text_at cut first text)
last-is true first begin text = refl
last-is false first begin text = refl

abbrev rested : Option OpenText → Option OpenText
rested None = None
rested (Some t) = Some (rest_of t)

goes-on-is : (cut : Bool) (first : ℕ) (text : Option OpenText) → goes_on_as cut first text ≡ rested (text_at cut first text)
goes-on-is true first text = option-by text (λ d. rw d refl) (λ t d. rw d refl)
goes-on-is false first text = option-by text (λ d. rw d refl) (λ t d. rw d refl)

-- what the first bytes of a character and the whole one make of it
begun-same : (cut : Bool) (first : ℕ) (text : Option OpenText) (v : OpenText) → text_at cut first text ≡ Some v → begun_text first (text_or first text) ≡ begun_text first v
begun-same false first text v e = ap (λ t. begun_text first (text_or first t)) e
begun-same true first text v e =
    let t = text_or first text in
    ap (λ place. record { at = t.at; non_blank = place; said = t.said; behind_return = t.behind_return }) (sym (option-by {R = or_here (or_here t.non_blank false first) false first ≡ or_here t.non_blank false first} t.non_blank (λ d. rw d refl) (λ p d. rw d refl))) ∙ ap (λ x. begun_text first (text_or first x)) e

with-same : (cut : Bool) (first c : ℕ) (text : Option OpenText) (v : OpenText) → text_at cut first text ≡ Some v → (cut ≡ false) ⊎ (is_blank c ≡ false) → text_with (text_or first text) first c ≡ text_with v first c
with-same false first c text v e h = ap (λ t. text_with (text_or first t) first c) e
with-same true first c text v e (inl d) = absurd (cc)
with-same true first c text v e (inr d) =
    let t = text_or first text in
    ap (λ o. record { at = t.at; non_blank = o; said = (text_with t first c).said; behind_return = (text_with t first c).behind_return }) (place t.non_blank) ∙ ap (λ t. text_with (text_or first t) first c) e where
      place : (o : Option ℕ) → or_here o (is_blank c) first ≡ or_here (or_here o false first) (is_blank c) first
      place (Some p) = refl
      place None = ap (λ x. cond {A = Option ℕ} x None (Some first)) d

begun-at : (r : Reading) (b at : ℕ) (text : Option OpenText) (v : OpenText) → is_in_content r.mode ≡ true → view r at text ≡ Some v → view (reading (r.begun ++ b ∷ []) r.mode r.opens) (at + 1) text ≡ Some (begun_text (at - length r.begun) v)
begun-at r b at text v c e =
    let place : at + 1 - length (r.begun ++ b ∷ []) ≡ at - length r.begun = omega (arith, length-append r.begun (b ∷ [])) in
    ap (λ t. text_at t (at + 1 - length (r.begun ++ b ∷ [])) text) (and-both (is_in_content r.mode) (not (is_empty (r.begun ++ b ∷ []))) c (grind (arith, nat_tests, length-append r.begun (b ∷ [])))) ∙ ap (λ first. Some (begun_text first (text_or first text))) place
    ∙ ap Some (begun-same (cuts_text r) (at - length r.begun) text v e)

then-here : (nb o : Option ℕ) (blank : Bool) (first : ℕ) → or_here (or_then nb o) blank first ≡ or_then nb (or_here o blank first)
then-here (Some p) o blank first = refl
then-here None o blank first = refl

-- the same answer, and what is open there is the same where it was given
abbrev pub Alike : Told → Told → Type 0
Alike (Err x) (Err y) = x.1 ≡ y.1
Alike (Ok x) (Ok y) = shown x.1 ≡ shown y.1
Alike other more = ⊥

alike-behind : (us : List Part) (t v : Told) → Alike t v → Alike (behind_parts us t) v
alike-behind us (Err x) (Err y) e = e
alike-behind us other more e = e

-- a text of which this was given before
module _ (nb : Option ℕ) (gone : List ℕ) where
  abbrev ahead : OpenText → OpenText
  ahead u = record { at = u.at; non_blank = or_then nb u.non_blank; said = gone ++ u.said; behind_return = u.behind_return }

  ahead-with : (first c : ℕ) (u : OpenText) → text_with (ahead u) first c ≡ ahead (text_with u first c)
  ahead-with first c u =
      ap (λ o. record { at = u.at; non_blank = o; said = (text_with (ahead u) first c).said; behind_return = (text_with u first c).behind_return }) (then-here nb u.non_blank (is_blank c) first)
      ∙ ap (λ xs. record { at = u.at; non_blank = (ahead (text_with u first c)).non_blank; said = xs; behind_return = (text_with u first c).behind_return }) (append_assoc gone u.said _)

  abbrev Joined : ℕ → List Part → List Part → Type 0
  Joined at ps qs = (second : Option ℕ) × (rest : List ℕ) × (more : List Part) × (ps ≡ Run at (or_then nb second) (gone ++ rest) ∷ more) × (qs ≡ Run at second rest ∷ more)

  abbrev Joins : ℕ → Told → Told → Type 0
  Joins at t v = Alike t v × Joined at (parts-at t) (parts-at v)

  none-first : (at : ℕ) (t v : Told) → Joins at t v → Joins at (behind_parts [] t) (behind_parts [] v)
  none-first at t v h = subst (λ x. Joins at x (behind_parts [] v)) (sym (behind-none t)) (subst (Joins at t) (sym (behind-none v)) h)

  run-first : (u : OpenText) (t : Told) → Joins u.at (behind_parts (run_of (ahead u) ∷ []) t) (behind_parts (run_of u ∷ []) t)
  run-first u (Err x) = (refl, (u.non_blank, u.said, x.0, refl, refl))
  run-first u (Ok x) = (refl, (u.non_blank, u.said, x.0 ++ last_parts x.1, refl, refl))

  module _ (n begin : ℕ) where
    abbrev Again : List ℕ → List ℕ → Type 0
    Again front w =
        (r : Reading) (at : ℕ) (full less : Option OpenText) (u : OpenText) → Reached front r → is_in_content r.mode ≡ true → view r at less ≡ Some u → view r at full ≡ Some (ahead u)
        → Joins u.at (told_within n (telling r (marks begin full) at) w) (told_within n (telling r (marks begin less) at) w)

    pub joins : (w front : List ℕ) → Again front w
    joins [] front r at full less u q c g h =
        let first : ℕ = at - length r.begun in (
          ap (λ t. telling r (marks begin t) at) (goes-on-is (cuts_text r) first full ∙ ap rested h ∙ sym (ap rested g) ∙ sym (goes-on-is (cuts_text r) first less)),
          (u.non_blank, u.said, [], last-is (cuts_text r) first begin full ∙ ap ended_part h, last-is (cuts_text r) first begin less ∙ ap ended_part g),
        )
    joins (b ∷ w) front r at full less u q c g h = cases (nat_le n at) (λ d. rw d (refused TooLong))
        (λ d. result-by (judge r b) (λ x e. let steps = (judged-so front r b [] q x.0 x.1 e).1 in rw (d, e) (byte x.0 x.1 (taken front r b q x.0 x.1 steps).reached (content-cases front r b x.0 x.1 q c steps) (joins w (front ++ b ∷ [])))) (λ stop e. rw (d, e) (refused (refusal stop at)))) where
          first : ℕ
          first = at - length r.begun

          refused : (e : MarkupError) → Joins u.at (Err (last_parts (telling r (marks begin full) at), e)) (Err (last_parts (telling r (marks begin less) at), e))
          refused e = (refl, (u.non_blank, u.said, [], last-is (cuts_text r) first begin full ∙ ap ended_part h, last-is (cuts_text r) first begin less ∙ ap ended_part g))

          byte : (s : Reading) (us : List Token) → Reached (front ++ b ∷ []) s → ContentCases r b s us → Again (front ++ b ∷ []) w
              → Joins u.at (behind_parts (marked r (marks begin full) at s us).0 (told_within n (telling s (marked r (marks begin full) at s us).1 (at + 1)) w)) (behind_parts (marked r (marks begin less) at s us).0 (told_within n (telling s (marked r (marks begin less) at s us).1 (at + 1)) w))
          byte s us p (inl (d, l, f, is, e)) again =
              let short : (cuts_text r ≡ false) ⊎ (is_blank d ≡ false) = elim (wide-blank r.begun b d e) [ inl z ↦ inl (none-begun r z) | inr z ↦ inr z ] in
              rw (f, is) (none-first u.at _ _ (again (reading [] (Inside (Content l)) r.opens) (at + 1) (Some (text_with (text_or first full) first d)) (Some (text_with (text_or first less) first d)) (text_with u first d) (subst (Reached (front ++ b ∷ [])) is p) refl
              (ap Some (with-same (cuts_text r) first d less u g short)) (ap Some (with-same (cuts_text r) first d full (ahead u) h short ∙ ahead-with first d u))))
          byte s us p (inr (inl (f, is, x))) again =
              let none = sym (both-no (is_between r.mode)) in
              rw (f, is) (subst (λ o. Joins u.at (behind_parts (passed_over o (marks begin full) at).0 (told_within n (telling (reading (r.begun ++ b ∷ []) r.mode r.opens) (passed_over o (marks begin full) at).1 (at + 1)) w)) (behind_parts (passed_over o (marks begin less) at).0 (told_within n (telling (reading (r.begun ++ b ∷ []) r.mode r.opens) (passed_over o (marks begin less) at).1 (at + 1)) w))) none
              (none-first u.at _ _ (again (reading (r.begun ++ b ∷ []) r.mode r.opens) (at + 1) full less (begun_text first u) (subst (Reached (front ++ b ∷ [])) is p) c (begun-at r b at less u c g)
              (begun-at r b at full (ahead u) c h ∙ ap (λ o. Some (record { at = u.at; non_blank = o; said = gone ++ u.said; behind_return = u.behind_return })) (then-here nb u.non_blank false first)))))
          byte s us p (inr (inr (f, none, apart, rest, sign))) again = rw (f, over r s c apart, alone full (ahead u) h, alone less u g) (run-first u (told_within n (telling s (marks at None) (at + 1)) w)) where
            alone : (t : Option OpenText) (v : OpenText) → view r at t ≡ Some v → t ≡ Some v
            alone t v e = sym (ap (λ x. text_at x first t) (none-begun r none)) ∙ e

-- what is given before and behind a cut
runs-more : (came piece : List ℕ) (parts runs : List Part) → InRuns came parts runs → InRuns (came ++ piece) parts runs
runs-more came piece parts runs No-runs = No-runs
runs-more came piece parts runs (A-part ps rs part r) = A-part ps rs part (runs-more came piece ps rs r)
runs-more came piece parts runs (More-text ps rs at first second text rest b r) = More-text ps rs at first second text rest (begins-more came piece at b) (runs-more came piece (ps ++ Run at first text ∷ []) rs r)

module _ (bytes : List ℕ) where
  runs-behind : (ps : List Part) (parts runs : List Part) → InRuns bytes parts runs → InRuns bytes (parts ++ ps) (runs ++ ps)
  runs-behind [] parts runs r = subst (λ xs. InRuns bytes xs (runs ++ [])) (sym (append-nil parts)) (subst (InRuns bytes parts) (sym (append-nil runs)) r)
  runs-behind (p ∷ ps) parts runs r =
      subst (λ xs. InRuns bytes xs (runs ++ p ∷ ps)) (append_assoc parts (p ∷ []) ps) (subst (InRuns bytes ((parts ++ p ∷ []) ++ ps)) (append_assoc runs (p ∷ []) ps)
      (runs-behind ps (parts ++ p ∷ []) (runs ++ p ∷ []) (A-part parts runs p r)))

  runs-joined : (nb : Option ℕ) (gone : List ℕ) (at : ℕ) (us given ps qs : List Part) → BeginsText bytes at → InRuns bytes (us ++ Run at nb gone ∷ []) given → Joined nb gone at ps qs → InRuns bytes (us ++ ps) (given ++ qs)
  runs-joined nb gone at us given ps qs b r (second, rest, more, e, f) =
      let one : Part = Run at (or_then nb second) (gone ++ rest) in
      let next : Part = Run at second rest in
      subst (λ xs. InRuns bytes (us ++ xs) (given ++ qs)) (sym e) (subst (λ xs. InRuns bytes (us ++ one ∷ more) (given ++ xs)) (sym f)
      (subst (λ xs. InRuns bytes xs (given ++ next ∷ more)) (append_assoc us (one ∷ []) more) (subst (InRuns bytes ((us ++ one ∷ []) ++ more)) (append_assoc given (next ∷ []) more)
      (runs-behind more (us ++ one ∷ []) (given ++ next ∷ []) (More-text us given at nb second gone rest b r)))))

-- where it goes on: what is open there, and that it is the rest of the text
abbrev Onwards : Bool → ℕ → Option OpenText → OpenText → Type 0
Onwards cut first text t = (less : OpenText) × (text_at cut first (goes_on_as cut first text) ≡ Some less) × (ahead t.non_blank t.said less ≡ t) × (less.at ≡ t.at)

ahead-is : (t : OpenText) (o : Option ℕ) → or_then t.non_blank o ≡ t.non_blank → ahead t.non_blank t.said (record { at = t.at; non_blank = o; said = []; behind_return = t.behind_return }) ≡ t
ahead-is t o e = ap (λ o. record { at = t.at; non_blank = o; said = t.said ++ []; behind_return = t.behind_return }) e ∙ ap (λ xs. record { at = t.at; non_blank = t.non_blank; said = xs; behind_return = t.behind_return }) (append-nil t.said)

onwards : (cut : Bool) (first : ℕ) (text : Option OpenText) (t : OpenText) → text_at cut first text ≡ Some t → Onwards cut first text t
onwards false first text t e = (rest_of t, goes-on-is false first text ∙ ap rested e, ahead-is t None (option-by t.non_blank (λ d. rw d refl) (λ p d. rw d refl)), refl)
onwards true first text t e =
    let s = text_or first text in
    subst (Onwards true first text) (some-is e) (begun_text first (rest_of s), ap (text_at true first) (goes-on-is true first text), ahead-is (begun_text first s) (Some first) (option-by s.non_blank (λ d. rw d refl) (λ p d. rw d refl)), refl)

-- What is told behind a text that is open goes on with it as behind what was given of it.
text-joins : (n : ℕ) (w front : List ℕ) (q : Telling) (t : OpenText) → Reached front q.read → is_in_content q.read.mode ≡ true → view q.read q.at q.marks.text ≡ Some t → Joins t.non_blank t.said t.at (told_within n q w) (told_within n (shown q) w)
text-joins n w front q t reached content h =
    let first : ℕ = q.at - length q.read.begun in
    let x = onwards (cuts_text q.read) first q.marks.text t h in
    subst (λ at. Joins t.non_blank t.said at (told_within n q w) (told_within n (shown q) w)) x.3
    (joins t.non_blank t.said n q.marks.begin w front q.read q.at q.marks.text (goes_on_as (cuts_text q.read) first q.marks.text) x.0 reached content x.1 (h ∙ ap Some (sym x.2)))

-- a character of it that is no white space, which was found, is that of its part
pub text-stays : (n : ℕ) (w front : List ℕ) (q : Telling) (t : OpenText) (p : ℕ) → Reached front q.read → is_in_content q.read.mode ≡ true → view q.read q.at q.marks.text ≡ Some t → t.non_blank ≡ Some p → (said : List ℕ) × (later : List Part) × (parts-at (told_within n q w) ≡ Run t.at (Some p) said ∷ later)
text-stays n w front q t p reached content h e =
    let j = (text-joins n w front q t reached content h).1 in
    (t.said ++ j.1, j.2, j.3 ∙ ap (λ o. Run t.at (or_then o j.0) (t.said ++ j.1) ∷ j.2) e)

-- A piece behind bytes that came.
abbrev pub Comes : ℕ → List ℕ → List ℕ → List Part → Told → Type 0
Comes n came piece given t = Alike (told_within n begin_telling (came ++ piece)) t × InRuns (came ++ piece) (parts-at (told_within n begin_telling (came ++ piece))) (given ++ parts-at t)

pub comes : (n : ℕ) (came piece : List ℕ) (given us : List Part) (q : Telling) → told_within n begin_telling came ≡ Ok (us, q) → InRuns came (us ++ last_parts q) given → Reached came q.read → Calm came q → Comes n came piece given (told_within n (shown q) piece)
comes n came piece given us q e r reached calm = rw (told-append n came piece begin_telling ∙ ap (λ x. told_on x (λ y. told_within n y piece)) e) (option-by (view q.read q.at q.marks.text)
    (λ h.
    let same : shown q ≡ q = ap (λ x. telling q.read (marks q.marks.begin x) q.at) (cases (cuts_text q.read) (λ d. absurd (let g = rw d at h in cc)) (λ d. let none : q.marks.text ≡ None = rw d at h in rw (d, none) refl)) in
    subst (λ x. Alike (behind_parts us t) (told_within n x piece) × InRuns (came ++ piece) (parts-at (behind_parts us t)) (given ++ parts-at (told_within n x piece))) (sym same)
    (alike-behind us t t (result-by t (λ x d. rw d refl) (λ x d. rw d refl)), rw (parts-behind us t) (runs-behind (came ++ piece) (parts-at t) us given (subst (λ xs. InRuns (came ++ piece) xs given) (append-nil us) (so-far None h)))))
    (λ v h.
    let x : (is_in_content q.read.mode ≡ true) × BeginsText came v.at = elim calm [
      | inr (e, b) ↦ (e, subst (BeginsText came) (ap (λ y. y.at) (begun-same (cuts_text q.read) (q.at - length q.read.begun) q.marks.text v h)) b)
      | inl (e, none) ↦ clash (taken-if false None v (sym e ∙ ap (λ y. text_at y (q.at - length q.read.begun) q.marks.text) (sym none) ∙ h)).0 refl
    ] in
    let j = text-joins n piece came q v reached x.0 h in
    (alike-behind us t _ j.0, rw (parts-behind us t) (runs-joined (came ++ piece) v.non_blank v.said v.at us given (parts-at t) _ (begins-more came piece v.at x.1) (so-far (Some v) h) j.1)))) where
      t : Told
      t = told_within n q piece

      so-far : (o : Option OpenText) → view q.read q.at q.marks.text ≡ o → InRuns (came ++ piece) (us ++ ended_part o) given
      so-far o h = subst (λ xs. InRuns (came ++ piece) (us ++ xs) given) (last-is (cuts_text q.read) (q.at - length q.read.begun) q.marks.begin q.marks.text ∙ ap ended_part h) (runs-more came piece (us ++ last_parts q) given r)

-- What does not see where a text is cut is the same of parts and of their runs.
pub runs-same : {A : Type 0} (F : List Part → A) → ((ps more : List Part) (at : ℕ) (first second : Option ℕ) (text rest : List ℕ) → F (ps ++ Run at first text ∷ Run at second rest ∷ more) ≡ F (ps ++ Run at (or_then first second) (text ++ rest) ∷ more)) → (bytes : List ℕ) (parts runs : List Part) → InRuns bytes parts runs → (more : List Part) → F (runs ++ more) ≡ F (parts ++ more)
runs-same F twice bytes parts runs No-runs more = refl
runs-same F twice bytes parts runs (A-part ps rs part r) more = ap F (append_assoc rs (part ∷ []) more) ∙ runs-same F twice bytes ps rs r (part ∷ more) ∙ ap F (sym (append_assoc ps (part ∷ []) more))
runs-same F twice bytes parts runs (More-text ps rs at first second text rest b r) more =
    ap F (append_assoc rs (Run at second rest ∷ []) more) ∙ runs-same F twice bytes (ps ++ Run at first text ∷ []) rs r (Run at second rest ∷ more) ∙ ap F (append_assoc ps (Run at first text ∷ []) (Run at second rest ∷ more))
    ∙ twice ps more at first second text rest ∙ ap F (sym (append_assoc ps (Run at (or_then first second) (text ++ rest) ∷ []) more))

-- Runs that are together one run say what it says.
run-twice : (ps more : List Part) (at : ℕ) (first second : Option ℕ) (text rest : List ℕ) → nested (ps ++ Run at first text ∷ Run at second rest ∷ more) ≡ nested (ps ++ Run at (or_then first second) (text ++ rest) ∷ more)
run-twice [] more at first second text rest = by (nested more) where
  by : (open_ : List Meanings) → add_part (Run at first text) (add_part (Run at second rest) open_) ≡ add_part (Run at (or_then first second) (text ++ rest)) open_
  by [] = refl
  by (children ∷ outer) = ap (λ m. m ∷ outer) (joined-more text rest children)
run-twice (p ∷ ps) more at first second text rest = ap (add_part p) (run-twice ps more at first second text rest)

pub runs-say : RunsSay
runs-say bytes parts runs element r says = ap nested (sym (append-nil runs)) ∙ runs-same nested run-twice bytes parts runs r [] ∙ ap nested (append-nil parts) ∙ says
