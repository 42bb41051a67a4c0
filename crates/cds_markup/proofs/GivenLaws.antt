-- The parts of an element, nested and joined, are what the element means; what any bytes are answered; and byte by byte, that what the
-- reader gives is the parts up to a place of the grammar, behind which no others come.
use Rattle.std.proofs.Common.{take, encode_utf8, ◌≡◌, ℕ, ◌+◌, Some, List, [], ◌∷◌, ◌++◌, length, refl, sym, ap, ◌∙◌, append_assoc, ◌==◌, ◌≤◌, Bool, true, false, cond, None, Ok, Err, subst, arith, inl, inr, Result, ◌≢◌, ◌⊎◌, ◌-◌, not, ◌&&◌, ◌<◌}
use Rattle.cds_markup.proofs.Terms.{begins, Grammar-content, append-nil, length-append, nat_tests, INPUT_LIMIT, Part, Start, End, Blanks, Epilog, Inside, MarkupError, Bad, TooDeep, TooLong, Failed, Mem, Less, Tree, EmptyElement, Full, Nothing, LeafThen, TreeThen, IsTree, IsContent, IsDocument, declarations, tag_says, Meaning, Meanings, ChildThen, meaning, meanings, DocOf, Doc, TreeParts, ContentParts, leaf_parts, nested, misc_step, epilog_move, step, Reading, reading, may_begin_name, byte_step, answer_of, marks, Telling, telling, begin_telling, told, told_within, CanGoOn, IsTooDeep, IsBad, Refuses, IsFirst, IsRefused, Verdict, AllAreAnswered, AnswersAreSo, AnswersAreExact, OneAnswer, Broken, Deep, NamespaceRule, MachineError, may_end, refusal, Childless, OutOfMemory, cases_lt, RootState, Content, Slashed, Tag, is_in_text, is_empty, any_at, Token, Letter, given, Given, step_root, judge, is_in_content, ended_text, last_part, passed_over, marked, cuts_text, parts_of, last_parts, IsBegun, PartsTo, Tells, PartsAreGiven, PartsAreOne, PartsStandBefore, PartsAreTold, PartsAreOfRoots, OneTelling, NothingCountsPastTheLimit, LeavesHaveOneEnd, AllIsTold, OneElement, next-by, clash, heads, ok-err, none-behind, Takes, cases, some-is, DocumentParts}
use Rattle.cds_markup.specs.declared.tag.Declaration.{Declaration}
use Rattle.cds_markup.proofs.Built.{TreeTold, tree-told, no-misc}
use Rattle.cds_markup.proofs.Standing.{parts-of, Standing, closed, Stands, leaf_token, Leaf-of, begin, piece-said, misc-way}
use Rattle.cds_markup.proofs.GoingOn.{Reached, taken, refused, document-ends, goes-on, ends-document, Unfinished, longer, no-both, begun-done, option-by, result-by, deep-parts, same-front, front-of, is-deep, NoneBefore, refuses-inside, CauseAt, ends-short, character-name, judged-so}
use Rattle.cds_markup.proofs.TokenTold.{byte-more, parts-at, answer-at, answer-told, parts-told, quiet-told, told-ends, Stopped, came-so, Came, told-keeps}
use Rattle.cds_markup.proofs.Trails.{Front, Outside, At-prolog, tree-trail, trail-means, tree-found, tree-is, trail-told, whole-last, cause-so, read-to, Within, Trail, trail-as, At-more, Cuts, front-less, ends-in, place-in, is-open, tag-found, opens-found, trail-place, gives, chars-plain}
use Rattle.cds_markup.proofs.Ways.{bytes_of, Allowed, same-first, then-of}
use Rattle.cds_markup.proofs.Decoded.{at-most-or-more, decodes, found}
use Rattle.cds_markup.proofs.Placing.{Goes, InMode, TagsOf, content-stands}
use Rattle.cds_markup.specs.Parts.{Says}
use Rattle.cds_markup.specs.GivenParts.{Given as GivenOf}
use Rattle.cds_markup.proofs.ToldBytes.{none-begun, content-form, content-cases, quiet-byte}

-- The parts of an element that means something, and of a document whose root it is.

none-some : {A X : Type 0} {a : A} → None ≡ Some a → X
none-some e = absurd (cc)

mutual
  pub tree-parts : (tree : Tree) (at : ℕ) (scopes : List (List Declaration)) (bytes : List ℕ) (m : Meaning) → IsTree tree bytes → meaning tree scopes ≡ Some m → (parts : List Part) × TreeParts tree at scopes bytes parts
  tree-parts (EmptyElement t) at scopes bytes m h e =
      let r = parts-of (47 ∷ 62 ∷ []) bytes t h in
      let end : ℕ = at + length r.inside + 1 in
      option-by (tag_says scopes t) (λ d. none-some (rw d at e)) (λ s d. (Start at end s.0 s.1 ∷ End end ∷ [], (s.0, s.1, end, h, d, omega (arith, ap length r.spelled, length-append r.inside (47 ∷ 62 ∷ [])), refl)))
  tree-parts (Full t c) at scopes bytes m (start, inside, closing, f, s, cs, z) e =
      let inner = declarations t.attrs ∷ scopes in
      let p = parts-of (62 ∷ []) start t s in
      let end : ℕ = at + length p.inside + 1 in
      option-by (tag_says scopes t) (λ d. none-some (rw d at e))
      (λ said d. option-by (meanings c inner) (λ g. none-some (rw (d, g) at e))
      (λ ms g.
      let r = content-parts c (at + length start) inner inside ms cs g in
      (Start at end said.0 said.1 ∷ (r.0 ++ End (at + length start + length inside) ∷ []), (said.0, said.1, end, start, inside, closing, r.0, f, s, z, d, omega (arith, ap length p.spelled, length-append p.inside (62 ∷ [])), r.1, refl))))

  pub content-parts : (c : Grammar-content) (at : ℕ) (scopes : List (List Declaration)) (bytes : List ℕ) (m : Meanings) → IsContent c bytes → meanings c scopes ≡ Some m → (parts : List Part) × ContentParts c at scopes bytes parts
  content-parts Nothing at scopes bytes m h e = ([], (h, refl))
  content-parts (LeafThen l more) at scopes bytes m (front, back, d, f, g, n) e =
      option-by (meanings more scopes) (λ k. none-some (rw k at e)) (λ ms k. let r = content-parts more (at + length front) scopes back ms g k in (leaf_parts at l ++ r.0, (front, back, r.0, d, f, n, r.1, refl)))
  content-parts (TreeThen t more) at scopes bytes m (front, back, d, f, g) e =
      option-by (meaning t scopes) (λ k. none-some (rw k at e))
      (λ x k. option-by (meanings more scopes) (λ j. none-some (rw (k, j) at e))
      (λ ms j. let p = tree-parts t at scopes front x f k in let r = content-parts more (at + length front) scopes back ms g j in (p.0 ++ r.0, (front, back, p.0, r.0, d, p.1, r.1, refl))))

-- the parts of a document
pub root-told : (n : ℕ) (bytes : List ℕ) (root : Tree) (element : Meaning) (d : DocOf bytes root element) → length bytes ≤ n
    → (parts : List Part) × TreeParts root (length d.document.prolog) [] d.document.element parts × (at : Telling) × (told_within n begin_telling bytes ≡ Ok (parts, at)) × (parts-at (told_within n begin_telling bytes) ≡ parts)
root-told n bytes root element d few =
    let x = d.document in
    let p = tree-parts root (length x.prolog) [] x.element element x.is_element d.means in
    let front : List ℕ = x.prolog ++ x.element in
    let spelled : bytes ≡ front ++ x.epilog = x.spelled ∙ sym (append_assoc x.prolog x.element x.epilog) in
    let t = tree-trail root Outside [] x.prolog x.element [] p.0 tt (At-prolog x.is_prolog) p.1 (let few = d.within in omega (arith, few)) in
    let l = trail-told n t (omega (arith, few, ap length spelled, length-append front x.epilog)) in
    let m = misc-way x.epilog x.is_epilog in
    let all : bytes ≡ front ++ bytes_of m.text = spelled ∙ ap (λ xs. front ++ xs) m.spelled in
    let o = quiet-told misc_step Epilog (λ m l c e. ap (epilog_move []) e) (λ m. refl) n m.text Blanks Blanks front p.0 (l.begin, l.told) m.allowed m.steps (subst (λ xs. length xs ≤ n) all few) in
    let at = telling (reading [] (Epilog Blanks) []) (marks o.0 None) (length bytes) in
    let told : told_within n begin_telling bytes ≡ Ok (p.0, at) = subst (λ xs. told_within n begin_telling xs ≡ Ok (p.0, telling (reading [] (Epilog Blanks) []) (marks o.0 None) (length xs))) (sym all) o.1 in
    (p.0, p.1, at, told, ap parts-at told ∙ ap (λ ps. p.0 ++ ps) (whole-last (Epilog Blanks) [] (marks o.0 None) (length bytes)) ∙ append-nil p.0)

-- A document that means something is read to its end.

-- a refusal that is answered; want of memory is not
abbrev pub Refused : List ℕ → MarkupError → Type 0
Refused bytes e = IsRefused bytes e × (e ≢ Mem)

-- What any bytes are answered.
abbrev pub Answers : List ℕ → Result (Unit {0}) MarkupError → Type 0
Answers bytes (Ok done) = ((tree : Tree) × IsDocument bytes tree) × NoneBefore bytes (length bytes) × (length bytes ≤ INPUT_LIMIT)
Answers bytes (Err e) = Refused bytes e

bad-of : (stop : MachineError) (bytes : List ℕ) (at : ℕ) → CauseAt stop bytes at → IsFirst bytes at → Refused bytes (refusal stop at)
bad-of Broken bytes at c f = ((inl (inl c), f), λ e. absurd (cc))
bad-of NamespaceRule bytes at c f = ((inr c, f), λ e. absurd (cc))
bad-of Deep bytes at c f = ((c, f), λ e. absurd (cc))
bad-of OutOfMemory bytes at c f = absurd c

-- A refusal stands against the bytes; where there is none they are a document that nothing refuses.
pub answers : (bytes : List ℕ) → Answers bytes (answer_of bytes)
answers bytes = subst (Answers bytes) (answer-told bytes) (elim (told-ends INPUT_LIMIT bytes begin_telling) [
  | inl h ↦ subst (λ t. Answers bytes (answer-at t)) (sym h.2) (read h.1 (came-so INPUT_LIMIT bytes h.0 h.1 h.2))
  | inr h ↦ subst (λ t. Answers bytes (answer-at t)) (sym (ap (told_within INPUT_LIMIT begin_telling) h.1.spelled ∙ h.1.stops h.1.rest)) (stopped h.0 h.1)
]) where
  read : (q : Telling) → Came INPUT_LIMIT bytes q → Answers bytes (cond (may_end q.read) (Ok tt) (Err (Bad q.at)))
  read q c =
      let none = subst (λ xs. NoneBefore xs (length bytes)) (append-nil bytes) (c.none []) in
      cases (may_end q.read) (λ f. rw f (ends-document bytes q.read c.reached f, none, c.few))
      (λ f. rw (f, c.at) ((inl (inr (ends-short bytes q.read c.reached f)), record { none_before = none; short = inr c.few }), λ e. absurd (cc)))

  stopped : (x : List Part × MarkupError) → Stopped INPUT_LIMIT begin_telling bytes x → Refused bytes x.1
  stopped x s =
      let none = subst (λ xs. NoneBefore xs (length s.front)) (sym s.spelled) ((came-so INPUT_LIMIT s.front s.us s.at s.told).none (s.byte ∷ s.rest)) in
      let more = ap length s.spelled ∙ length-append s.front (s.byte ∷ s.rest) in
      elim (cause-so INPUT_LIMIT bytes x s s.rest) [
        | inl h ↦ let few = h.0 in subst (Refused bytes) (sym h.1) ((omega (arith, few, more), λ earlier less. none earlier (omega (arith, few, less))), λ e. absurd (cc))
        | inr h ↦ subst (Refused bytes) (sym h.3) (bad-of h.1 bytes (length s.front) (subst (λ xs. CauseAt h.1 xs (length s.front)) (sym s.spelled) h.2) (record { none_before = none; short = inl h.0 }))
      ]

-- Bytes that are answered by no refusal are a document of an element, and the others are refused.
doc-of : (bytes : List ℕ) (tree : Tree) → IsDocument bytes tree → NoneBefore bytes (length bytes) → length bytes ≤ INPUT_LIMIT → (element : Meaning) × Doc bytes element
doc-of bytes tree d none short =
    let all : bytes ≡ (d.prolog ++ d.element) ++ d.epilog = d.spelled ∙ sym (append_assoc d.prolog d.element d.epilog) in
    let front : Front bytes (length bytes) none (d.prolog ++ d.element) = record { rest = d.epilog; spelled = all; few = omega (arith, ap length all, length-append (d.prolog ++ d.element) d.epilog) } in
    let t = tree-found bytes (length bytes) none tree Outside [] d.prolog d.element [] tt (At-prolog d.is_prolog) d.is_element front in
    let x = (trail-means t.1).1 in
    let m = tree-told x.root (length x.prolog) [] x.element t.0 x.is_element in
    let document : IsDocument bytes x.root = record {
      prolog = x.prolog;
      element = x.element;
      epilog = d.epilog;
      spelled = all ∙ ap (λ xs. xs ++ d.epilog) x.spelled ∙ append_assoc x.prolog x.element d.epilog;
      is_prolog = x.is_prolog;
      is_element = tree-is x.root (length x.prolog) [] x.element t.0 x.is_element;
      is_epilog = d.is_epilog;
    } in
    (m.says, (x.root, record { document = document; means = m.means; within = x.within; short = short }))

-- Every answer says what it is to say.
pub verdict : AnswersAreSo
verdict bytes = result-by (answer_of bytes) (λ u e. rw e (let h = subst (Answers bytes) e (answers bytes) in doc-of bytes h.0.0 h.0.1 h.1 h.2)) (λ r e. rw e (subst (Answers bytes) e (answers bytes)).0)

-- A refusal that stands against bytes is what they are answered.

-- No place has two causes of different kinds.
never-both : (bytes : List ℕ) (at : ℕ) → NoneBefore bytes at → IsBad bytes at → IsTooDeep bytes at → ⊥
never-both bytes at none (inl (inl x)) deep = option-by (byte_step r.0 deep.first)
    (λ f.
    let d = deep-parts r.0 deep.first (is-deep front r.0 deep.first deep.rest r.1 (subst (λ xs. IsTooDeep xs (length front)) all (subst (IsTooDeep bytes) place deep))) in
    let c = deep.begins in
    let e = c.2.passes in
    let slash : (c.0 == 47) ≡ false = grind (arith, nat_tests) in
    let bang : (c.0 == 33) ≡ false = grind (arith, nat_tests) in
    let goes : Goes (step (Inside Less) r.0.opens c.0) = rw (slash, bang, e) refl in
    refused r.0 deep.first c.1 r.1.well r.1.unfinished c.0 [] c.2.allowed (ap (λ xs. (xs ++ deep.first ∷ []) ++ c.1) d.2 ∙ c.2.spelled ∙ sym (append-nil (encode_utf8 c.0))) (subst (λ m. Goes (step m r.0.opens c.0)) (sym d.1) goes) f)
    (λ y f. x.here (subst CanGoOn (sym (ap (λ n. take (n + 1) bytes) place ∙ ap (take (length front + 1)) all ∙ front-of front deep.first deep.rest)) (goes-on (front ++ deep.first ∷ []) y.0 (taken front r.0 deep.first r.1 y.0 y.1 f).reached))) where
      front : List ℕ
      front = deep.before ++ 60 ∷ []

      all : bytes ≡ front ++ deep.first ∷ deep.rest
      all = deep.spelled ∙ sym (append_assoc deep.before (60 ∷ []) (deep.first ∷ deep.rest))

      place : at ≡ length front
      place = deep.place ∙ sym (length-append deep.before (60 ∷ []))

      r : (r : Reading) × Reached front r
      r = read-to bytes front (deep.first ∷ deep.rest) all (subst (NoneBefore bytes) place none)
never-both bytes at none (inl (inr x)) deep = omega (arith, x.end, deep.place, ap length deep.spelled, length-append deep.before (60 ∷ deep.first ∷ deep.rest))
never-both bytes at none (inr (tags, begin, tag, x, says)) deep =
    let whole = sym (deep.spelled ∙ sym (append_assoc deep.before (60 ∷ []) (deep.first ∷ deep.rest))) ∙ x.spelled ∙ sym (append_assoc x.before (60 ∷ x.inside) (x.end ∷ x.rest)) in
    let long : length (deep.before ++ 60 ∷ []) ≡ length (x.before ++ 60 ∷ x.inside) = omega (arith, deep.place, x.place, x.begins, length-append deep.before (60 ∷ []), length-append x.before (60 ∷ x.inside)) in
    let first = (heads deep.first x.end deep.rest x.rest (same-front (deep.before ++ 60 ∷ []) (x.before ++ 60 ∷ x.inside) (deep.first ∷ deep.rest) (x.end ∷ x.rest) whole long).1).0 in
    let begins = sym (ap may_begin_name first) ∙ character-name deep.first deep.begins.1 deep.begins.0 deep.begins.2 in
    elim x.ends [ inl e ↦ clash begins (ap may_begin_name e) | inr e ↦ clash begins (ap may_begin_name e) ]

-- The first place is one.
one-place : (bytes : List ℕ) (a b : ℕ) → NoneBefore bytes a → NoneBefore bytes b → Refuses bytes a → Refuses bytes b → a ≡ b
one-place bytes a b first second x y = elim (at-most-or-more b a) [
  | inr h ↦ absurd (second a (omega (arith, h)) x)
  | inl h ↦ elim (at-most-or-more a b) [ inl g ↦ omega (arith, h, g) | inr g ↦ absurd (first b (omega (arith, g)) y) ]
]

not-long : (bytes : List ℕ) (at : ℕ) → Refuses bytes at → IsFirst bytes at → IsRefused bytes TooLong → ⊥
not-long bytes at x first long = elim first.short [ inl less ↦ long.1 at less x | inr short ↦ let over = long.0 in omega (arith, over, short) ]

-- Bytes are refused in one way.
one-refusal : (bytes : List ℕ) (e f : MarkupError) → IsRefused bytes e → IsRefused bytes f → e ≢ Mem → f ≢ Mem → e ≡ f
one-refusal bytes (Bad a) (Bad b) x y m n = ap (λ p. Bad p) (one-place bytes a b x.1.none_before y.1.none_before (inl x.0) (inl y.0))
one-refusal bytes (Bad a) (TooDeep b) x y m n = absurd (never-both bytes a x.1.none_before x.0 (subst (IsTooDeep bytes) (one-place bytes b a y.1.none_before x.1.none_before (inr y.0) (inl x.0)) y.0))
one-refusal bytes (Bad a) TooLong x y m n = absurd (not-long bytes a (inl x.0) x.1 y)
one-refusal bytes (TooDeep a) (Bad b) x y m n = absurd (never-both bytes b y.1.none_before y.0 (subst (IsTooDeep bytes) (one-place bytes a b x.1.none_before y.1.none_before (inr x.0) (inl y.0)) x.0))
one-refusal bytes (TooDeep a) (TooDeep b) x y m n = ap (λ p. TooDeep p) (one-place bytes a b x.1.none_before y.1.none_before (inr x.0) (inr y.0))
one-refusal bytes (TooDeep a) TooLong x y m n = absurd (not-long bytes a (inr x.0) x.1 y)
one-refusal bytes TooLong (Bad b) x y m n = absurd (not-long bytes b (inl y.0) y.1 x)
one-refusal bytes TooLong (TooDeep b) x y m n = absurd (not-long bytes b (inr y.0) y.1 x)
one-refusal bytes TooLong TooLong x y m n = refl
one-refusal bytes Failed f x y m n = absurd x
one-refusal bytes Mem f x y m n = absurd (m refl)
one-refusal bytes other Mem x y m n = absurd (n refl)
one-refusal bytes other Failed x y m n = absurd y

-- What is taken is not refused.
not-refused : (bytes : List ℕ) (e : MarkupError) → Answers bytes (Ok tt) → IsRefused bytes e → e ≢ Mem → ⊥
not-refused bytes (Bad a) h (x, first) m = elim (refuses-inside bytes a (inl x)) [ inl less ↦ h.1 a less (inl x) | inr s ↦ s.here h.0.0 h.0.1 ]
not-refused bytes (TooDeep a) h (x, first) m = elim (refuses-inside bytes a (inr x)) [ inl less ↦ h.1 a less (inr x) | inr s ↦ s.here h.0.0 h.0.1 ]
not-refused bytes TooLong h x m = let over = x.0 in let few = h.2 in omega (arith, over, few)
not-refused bytes Failed h x m = x
not-refused bytes Mem h x m = m refl

pub exact : AnswersAreExact
exact bytes = record {
  whole = λ element d.
      let t = root-told INPUT_LIMIT bytes d.0 element d.1 d.1.short in
      sym (answer-told bytes) ∙ ap answer-at t.3 ∙ ap (λ x. cond {A = Result (Unit {0}) MarkupError} x (Ok tt) (Err (Bad t.2.at))) (document-ends bytes t.2.read d.0 (came-so INPUT_LIMIT bytes t.0 t.2 t.3).reached d.1.document);
  refused = λ e x m.
      result-by (answer_of bytes) (λ u d. absurd (not-refused bytes e (subst (Answers bytes) d (answers bytes)) x m)) (λ f d. let h = subst (Answers bytes) d (answers bytes) in d ∙ ap (λ y. Err y) (one-refusal bytes f e h.0 x h.1 m));
  never = λ e. (subst (Answers bytes) e (answers bytes)).1 refl;
}

pub all-are-answered : AllAreAnswered
all-are-answered bytes = result-by (answer_of bytes) (λ u e. inl (subst (Verdict bytes) e (verdict bytes))) (λ r e. let h = subst (Answers bytes) e (answers bytes) in inr (r, h.0, h.1))

pub one-answer : OneAnswer
one-answer bytes r x m = (λ element d. ok-err (sym ((exact bytes).whole element d) ∙ (exact bytes).refused r x m), λ other y n. one-refusal bytes other r y x n m)

abbrev pub SomePlace : List ℕ → Type 0
SomePlace front = (parts : List Part) × PartsTo front parts

-- behind a token the grammar has a place
module _ (front : List ℕ) (none : NoneBefore front (length front)) where
  all-of : (before bytes : List ℕ) → front ≡ before ++ bytes → Front front (length front) none (before ++ bytes)
  all-of before bytes e = record { rest = []; spelled = e ∙ sym (append-nil (before ++ bytes)); few = omega (arith, ap length e) }

  stands-place : (tags : List Tag) (root_state : RootState) → Stands tags root_state front → SomePlace front
  stands-place [] (Content n) (root, prolog, element, e, p, t) = let r = tree-found front (length front) none root Outside [] prolog element [] tt (At-prolog p) t (all-of prolog element e) in (_, trail-place (trail-as r.1 (sym e) refl))
  stands-place (tag ∷ outer) (Content n) s =
      let e = sym (append-nil front) in
      let r = opens-found front (length front) none (tag ∷ outer) front (closed tag outer n front s) (subst (Front front (length front) none) (sym e) (all-of front [] e)) in
      (r.0, trail-place r.1)
  stands-place tags Slashed (tag, earlier, slash, e, o, t) =
      let r = opens-found front (length front) none tags earlier o (front-less front (length front) none earlier slash (all-of earlier slash e)) in
      let k = tag-found front (length front) none (place-in tags (ends-in tags earlier o)) tags earlier slash r.0 tag true (is-open tags (ends-in tags earlier o)) r.1 (parts-of (47 ∷ []) slash tag t) (all-of earlier slash e) in
      (_, trail-place (trail-as k.2 (sym e) refl))
  stands-place tags other s = absurd s

-- a character of a text that is cut
begun-of : (all : List ℕ) → all ≢ [] → Unfinished all → IsBegun all
begun-of [] some u = absurd (some refl)
begun-of (x ∷ xs) some u =
    let d = begun-done (x ∷ xs) x xs u refl in
    let passes : is_in_text d.0 ≡ true = grind (arith, nat_tests) in
    (some, d.1, d.0, λ z. no-both (x ∷ xs) d.0 [] [] (ap any_at (sym (append-nil (x ∷ xs)) ∙ ap (λ ys. (x ∷ xs) ++ ys) (sym z) ∙ sym d.2 ∙ sym (append-nil (encode_utf8 d.0))) ∙ decodes d.0 [] d.3) u, record { spelled = sym d.2; allowed = d.3; passes = passes })

cut-place : (tag : Tag) (outer : List Tag) (n : ℕ) (before all front : List ℕ) → Standing tag outer n before → front ≡ before ++ all → all ≢ [] → Unfinished all → NoneBefore front (length front) → SomePlace front
cut-place tag outer n before all front s e some u none =
    let text : List ℕ = bytes_of s.text in
    let whole : front ≡ s.front ++ (text ++ all) = e ∙ ap (λ xs. xs ++ all) s.spelled ∙ append_assoc s.front text all in
    let r = opens-found front (length front) none (tag ∷ outer) s.front s.within (front-less front (length front) none s.front (text ++ all) (all-of front none s.front (text ++ all) whole)) in
    (_, trail-place (trail-as (At-more (subst (λ b. Trail (Within b) (tag ∷ outer) s.front r.0) s.no_text r.1) (Cuts text all (chars-plain s.text s.each s.clear) (begun-of all some u))) (sym whole) refl))

-- one byte more
abbrev pub Same-parts : Telling → ℕ → Reading → List Token → Type 0
Same-parts q b s ts = (marked q.read q.marks q.at s ts).0 ++ last_parts (telling s (marked q.read q.marks q.at s ts).1 (q.at + 1)) ≡ last_parts q

abbrev CaseOf : List ℕ → Telling → ℕ → Reading → List Token → Type 0
CaseOf front q b s ts = SomePlace (front ++ b ∷ []) ⊎ Same-parts q b s ts

module _ (front : List ℕ) (q : Telling) (b : ℕ) (s : Reading) (ts : List Token) (r : Reached front q.read) (goes : judge q.read b ≡ Ok (s, ts)) (none : NoneBefore (front ++ b ∷ []) (length (front ++ b ∷ []))) where
  steps : byte_step q.read b ≡ Some (s, ts)
  steps = (judged-so front q.read b [] r s ts goes).1

  token-case : (t : Token) (us : List Token) → ts ≡ t ∷ us → CaseOf front q b s ts
  token-case t us e =
      let w = subst (λ xs. TagsOf q.read.opens xs (front ++ b ∷ [])) e (taken front q.read b r s ts steps).words in
      inl (stands-place (front ++ b ∷ []) none w.2.0 w.1.root_state w.2.2)

  -- no text is cut before it nor behind it
  quiet : ts ≡ [] → cuts_text q.read ≡ false → cuts_text s ≡ false → CaseOf front q b s ts
  quiet e h g = inr (subst (Same-parts q b s) (sym e) (by (begins q.read s) ∙ ap (λ t. last_part t (q.at - length q.read.begun) q.marks) (sym h))) where
    by : (over : Bool) → (passed_over over q.marks q.at).0 ++ last_parts (telling s (passed_over over q.marks q.at).1 (q.at + 1)) ≡ ended_text q.marks
    by true = ap (λ t. ended_text q.marks ++ last_part t (q.at + 1 - length s.begun) (marks q.at None)) g ∙ append-nil (ended_text q.marks)
    by false = ap (λ t. last_part t (q.at + 1 - length s.begun) q.marks) g

  content : is_in_content q.read.mode ≡ true → CaseOf front q b s ts
  content e = elim (content-cases front q.read b s ts r e steps) [
    | inl (c, l, d, is, x) ↦ token-case (Letter c) [] d
    | inr (inl (d, is, u)) ↦
        let f = content-form front q.read r e in
        let p = content-stands q.read.opens r.text f.0 (subst (λ x. InMode x.mode q.read.opens r.text) f.3 r.words) in
        inl (cut-place p.0 p.1 f.0 (bytes_of r.text) (q.read.begun ++ b ∷ []) (front ++ b ∷ []) p.2 (ap (λ xs. xs ++ b ∷ []) r.spelled ∙ append_assoc (bytes_of r.text) q.read.begun (b ∷ [])) (λ z. none-behind q.read.begun b [] (sym z)) u none)
    | inr (inr (d, first, apart, last, sign)) ↦ quiet d (none-begun q.read first) (none-begun s last)
  ]

  outside : (us : List Token) → ts ≡ us → is_in_content q.read.mode ≡ false → CaseOf front q b s ts
  outside (t ∷ us) d e = token-case t us d
  outside [] d e = quiet d (ap (λ t. t && not (is_empty q.read.begun)) e) (quiet-byte front q.read b s ts r e steps).1

  pub case : CaseOf front q b s ts
  case = cases (is_in_content q.read.mode) content (outside ts refl)

-- what is given up to a place
one-list : (front : List ℕ) (us : List Part) (q : Telling) (parts : List Part) → told_within INPUT_LIMIT begin_telling front ≡ Ok (us, q) → length front ≤ INPUT_LIMIT → PartsTo front parts → parts ≡ us ++ last_parts q
one-list front us q parts e h p = let g = gives INPUT_LIMIT front parts p h in g.is ∙ ap parts-at (sym g.told ∙ e)

none-left : (front other back : List ℕ) → front ≡ other ++ back → length front ≤ length other → other ≡ front
none-left front other [] e h = sym (append-nil other) ∙ sym e
none-left front other (x ∷ back) e h = absurd (omega (arith, ap length e, length-append other (x ∷ back), h))

place-given : (front : List ℕ) (us : List Part) (q : Telling) → told_within INPUT_LIMIT begin_telling front ≡ Ok (us, q) → length front ≤ INPUT_LIMIT → SomePlace front → GivenOf front (us ++ last_parts q)
place-given front us q e h (parts, p) = record {
  front = front;
  rest = [];
  spelled = sym (append-nil front);
  within = h;
  stand = subst (PartsTo front) (one-list front us q parts e h p) p;
  last = λ other back others d less few stand. one-list front us q others e h (subst (λ xs. PartsTo xs others) (none-left front other back d less) stand);
}

-- what was given before a byte is given behind it, where places behind it have those parts too
further : (front w : List ℕ) (parts all : List Part) (b : ℕ) → GivenOf front parts → all ≡ parts → ((tail back : List ℕ) (others : List Part) → w ≡ tail ++ back → length (front ++ b ∷ tail) ≤ INPUT_LIMIT → PartsTo (front ++ b ∷ tail) others → others ≡ all) → GivenOf (front ++ b ∷ w) all
further front w parts all b r same behind = record {
  front = r.front;
  rest = r.rest ++ b ∷ w;
  spelled = ap (λ xs. xs ++ b ∷ w) r.spelled ∙ append_assoc r.front r.rest (b ∷ w);
  within = r.within;
  stand = subst (PartsTo r.front) (sym same) r.stand;
  last = λ other back others d less few stand. elim (longer front (b ∷ w) other back d) [
    | inl (z, f) ↦ r.last other z others f less few stand ∙ sym same
    | inr (t, tail, f) ↦
        let parted = same-front front front (b ∷ w) (t ∷ (tail ++ back)) (d ∙ ap (λ xs. xs ++ back) f ∙ append_assoc front (t ∷ tail) back) refl in
        let h = heads b t w (tail ++ back) parted.1 in
        let whole : other ≡ front ++ b ∷ tail = f ∙ ap (λ x. front ++ x ∷ tail) (sym h.0) in
        behind tail back others h.1 (subst (λ xs. length xs ≤ INPUT_LIMIT) whole few) (subst (λ xs. PartsTo xs others) whole stand)
  ];
}

-- of all that is told
abbrev Held : List ℕ → Telling → Type 0
Held front q = (us : List Part) × (told_within INPUT_LIMIT begin_telling front ≡ Ok (us, q)) × GivenOf front (us ++ last_parts q)

held-more : (front : List ℕ) (q : Telling) (b : ℕ) (s : Reading) (ts : List Token) → Held front q → q.at < INPUT_LIMIT → judge q.read b ≡ Ok (s, ts) → Held (front ++ b ∷ []) (telling s (marked q.read q.marks q.at s ts).1 (q.at + 1))
held-more front q b s ts (us, e, r) less f =
    let m = marked q.read q.marks q.at s ts in
    let p = telling s m.1 (q.at + 1) in
    let vs : List Part = us ++ m.0 in
    let one : told_within INPUT_LIMIT begin_telling (front ++ b ∷ []) ≡ Ok (vs, p) = byte-more INPUT_LIMIT front us q b s ts e less f in
    let c = came-so INPUT_LIMIT (front ++ b ∷ []) vs p one in
    let none = subst (λ xs. NoneBefore xs (length (front ++ b ∷ []))) (append-nil (front ++ b ∷ [])) (c.none []) in (
      vs,
      one,
      elim (case front q b s ts (came-so INPUT_LIMIT front us q e).reached f none) [
        | inl place ↦ place-given (front ++ b ∷ []) vs p one c.few place
        | inr same ↦
            further front [] (us ++ last_parts q) (vs ++ last_parts p) b r (append_assoc us m.0 (last_parts p) ∙ ap (λ ps. us ++ ps) same)
            (λ tail back others d few stand. one-list (front ++ b ∷ []) vs p others one c.few (subst (λ xs. PartsTo (front ++ b ∷ xs) others) (none-left [] tail back d (omega arith)) stand))
      ],
    )

held : (front : List ℕ) (us : List Part) (q : Telling) → told_within INPUT_LIMIT begin_telling front ≡ Ok (us, q) → GivenOf front (us ++ last_parts q)
held front us q e =
    let h = told-keeps Held INPUT_LIMIT held-more front [] begin_telling q us ([], refl, place-given [] [] begin_telling refl (came-so INPUT_LIMIT [] [] begin_telling refl).few ([], inl ([], (then-of [] [] None refl refl (then-of [] [] None refl refl no-misc), refl)))) e in
    subst (GivenOf front) (ap parts-at (sym h.1 ∙ e)) h.2

given-all : (bytes : List ℕ) → GivenOf bytes (parts-at (told_within INPUT_LIMIT begin_telling bytes))
given-all bytes = elim (told-ends INPUT_LIMIT bytes begin_telling) [
  | inl h ↦ subst (λ t. GivenOf bytes (parts-at t)) (sym h.2) (held bytes h.0 h.1 h.2)
  | inr h ↦
      let s = h.1 in
      rw s.spelled (subst (λ t. GivenOf (s.front ++ s.byte ∷ s.rest) (parts-at t)) (sym (s.stops s.rest))
      (further s.front s.rest (s.us ++ last_parts s.at) h.0.0 s.byte (held s.front s.us s.at s.told) s.parts (λ tail back others d few stand. let g = gives INPUT_LIMIT (s.front ++ s.byte ∷ tail) others stand few in ok-err (sym g.told ∙ s.stops tail))))
]

-- The parts of bytes by the grammar are those that the reader of bytes gives.

-- The further of two places has the parts of the other one.
pub parts-are-one : PartsAreOne
parts-are-one bytes one other g h =
    elim (cases_lt (length h.front) (length g.front)) [
      | inl less ↦ h.last g.front g.rest one g.spelled (omega (arith, less)) g.within g.stand
      | inr few ↦ sym (g.last h.front h.rest other h.spelled few h.within h.stand)
    ]

pub parts-are-given : PartsAreGiven
parts-are-given bytes = subst (GivenOf bytes) (parts-told bytes) (given-all bytes)

pub parts-stand-before : PartsStandBefore
parts-stand-before front parts few stand = let g = gives INPUT_LIMIT front parts stand few in subst (GivenOf front) (sym g.is) (place-given front g.us g.at g.told few (parts, stand))

pub parts-are-of-roots : PartsAreOfRoots
parts-are-of-roots bytes root element d =
    let x = d.document in
    let t = root-told INPUT_LIMIT bytes root element d d.short in
    let are = subst (TreeParts root (length x.prolog) [] x.element) (sym t.4 ∙ parts-told bytes) t.1 in
    (record { root = root; prolog = x.prolog; element = x.element; epilog = x.epilog; spelled = x.spelled; is_prolog = x.is_prolog; is_element = are; is_epilog = x.is_epilog }, refl)

pub parts-are-told : PartsAreTold
parts-are-told bytes element (root, d) = (parts-are-of-roots bytes root element d).0

pub one-telling : OneTelling
one-telling bytes (Ok u) parts (found, e, given, element, doc, told, says) other = (sym ((exact bytes).whole element doc), e ∙ parts-are-one bytes found (parts_of bytes) given (parts-are-given bytes))
one-telling bytes (Err Mem) parts told other = absurd (other refl)
one-telling bytes (Err Failed) parts (found, e, given, r) other = absurd r
one-telling bytes (Err refusal) parts (found, e, given, r) other = (sym ((exact bytes).refused refusal r (λ d. absurd (cc))), e ∙ parts-are-one bytes found (parts_of bytes) given (parts-are-given bytes))

-- What comes behind more bytes than may be is not told.
pub nothing-counts-past-the-limit : NothingCountsPastTheLimit
nothing-counts-past-the-limit bytes more h = elim (told-ends INPUT_LIMIT bytes begin_telling) [
  | inl (us, q, e) ↦ let few = (came-so INPUT_LIMIT bytes us q e).few in absurd (omega (arith, h, few))
  | inr (x, s) ↦
      let same : told begin_telling (bytes ++ more) ≡ told begin_telling bytes =
      ap (λ xs. told begin_telling (xs ++ more)) s.spelled ∙ ap (told begin_telling) (append_assoc s.front (s.byte ∷ s.rest) more) ∙ s.stops (s.rest ++ more) ∙ sym (s.stops s.rest) ∙ ap (told begin_telling) (sym s.spelled)
      in
      (sym (answer-told (bytes ++ more)) ∙ ap answer-at same ∙ answer-told bytes, sym (parts-told (bytes ++ more)) ∙ ap parts-at same ∙ parts-told bytes)
]

-- A reference or a section that begins at a place ends at one place.

abbrev Takes-from : RootState → List ℕ → Given → Type 0
Takes-from t w g = Takes (λ t c. step_root t [] c) t w g

-- what is taken of the same bytes is the same
takes-one : (w v : List ℕ) (t : RootState) (g h : Given) (x y : List ℕ) → Allowed w → Allowed v → Takes-from t w g → Takes-from t v h → bytes_of w ++ x ≡ bytes_of v ++ y → w ≡ v
takes-one [] v t g h x y a b s u e = absurd s
takes-one (c ∷ w) [] t g h x y a b s u e = absurd u
takes-one (c ∷ w) (d ∷ v) t g h x y a b s u e =
    let same = same-first c d (bytes_of w ++ x) (bytes_of v ++ y) a.0 b.0 (sym (append_assoc (encode_utf8 c) (bytes_of w) x) ∙ e ∙ append_assoc (encode_utf8 d) (bytes_of v) y) in
    let q = subst (λ z. Takes-from t (z ∷ v) h) (sym same.0) u in
    ap (λ z. z ∷ w) same.0 ∙ ap (λ zs. d ∷ zs) (next-by (step_root t [] c) (λ f. absurd (rw f at s)) (λ n f. takes-one w v n g h x y a.1 b.1 (rw f at s) (rw f at q) same.1) (λ z f. (rw f at s).1 ∙ sym (rw f at q).1))

pub leaves-have-one-end : LeavesHaveOneEnd
leaves-have-one-end bytes tags others begin at end leaf other l isn m notext =
    let same = same-front l.before m.before (l.front ++ l.rest) (m.front ++ m.rest) (sym l.spelled ∙ m.spelled) (sym l.begins ∙ m.begins) in
    let g : Given = given (leaf_token leaf) [] (Content 0) in
    let h : Given = given (leaf_token other) [] (Content 0) in
    let p = piece-said 0 [] tt l.front g (Leaf-of leaf l.is_leaf isn refl) in
    let q = piece-said 0 [] tt m.front h (Leaf-of other m.is_leaf notext refl) in
    let e = takes-one p.text q.text (Content 0) g h l.rest m.rest p.allowed q.allowed p.takes q.takes (ap (λ xs. xs ++ l.rest) (sym p.spelled) ∙ same.1 ∙ ap (λ xs. xs ++ m.rest) q.spelled) in
    let long : length l.front ≡ length m.front = ap length (p.spelled ∙ ap bytes_of e ∙ sym q.spelled) in
    omega (arith, l.place, m.place, long)

-- What is given of all bytes is what is told of them.

-- what the parts of a document say, and its root
pub document-told : (bytes : List ℕ) (element : Meaning) → Doc bytes element → (d : DocumentParts bytes (parts_of bytes)) × (t : TreeTold d.root (length d.prolog) [] (parts_of bytes)) × (t.says ≡ element)
document-told bytes element (root, doc) =
    let d = parts-are-of-roots bytes root element doc in
    let t = tree-told d.0.root (length d.0.prolog) [] d.0.element (parts_of bytes) d.0.is_element in
    (d.0, t, some-is (sym t.means ∙ ap (λ tree. meaning tree []) d.1 ∙ doc.means))

pub parts-say : (bytes : List ℕ) (element : Meaning) → Doc bytes element → Says (parts_of bytes) element
parts-say bytes element d =
    let t = document-told bytes element d in
    ap nested (sym (append-nil (parts_of bytes))) ∙ t.1.nests [] Childless [] refl ∙ ap (λ m. ChildThen m Childless ∷ []) t.2

-- Bytes are a document of one element at most.
pub one-element : OneElement
one-element bytes one other d f = let e = sym (parts-say bytes one d) ∙ parts-say bytes other f in cc

tells : (bytes : List ℕ) (a : Result (Unit {0}) MarkupError) → answer_of bytes ≡ a → Tells bytes a [] (parts_of bytes)
tells bytes (Ok u) e = let v = subst (Verdict bytes) e (verdict bytes) in (parts_of bytes, refl, parts-are-given bytes, v.0, v.1, parts-are-told bytes v.0 v.1, parts-say bytes v.0 v.1)
tells bytes (Err Mem) e = absurd ((exact bytes).never e)
tells bytes (Err other) e = (parts_of bytes, refl, parts-are-given bytes, subst (Verdict bytes) e (verdict bytes))

pub all-is-told : AllIsTold
all-is-told bytes = tells bytes (answer_of bytes) refl
