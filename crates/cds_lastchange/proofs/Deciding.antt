-- The answer that is made of a document's parts is the one that stands against its bytes.
use Rattle.std.proofs.Common.{◌≡◌, ◌≢◌, ℕ, ◌+◌, ◌<◌, ◌≤◌, nat_le, Bool, true, false, ◌&&◌, cond, ◌⊎◌, inl, inr, Result, Ok, Err, List, [], ◌∷◌, ◌++◌, codes, length, refl, sym, ap, subst, ◌∙◌, arith, append_assoc, length-append}
use Rattle.std.specs.List.{list_all}
use Rattle.std.proofs.lemmas.Bool.{cases_lt}
use Rattle.std.proofs.lemmas.Bool.Decides.{nat_tests}
use Rattle.cds_base.specs.Characters.{is_blank}
use Rattle.cds_object.specs.declared.event.Event.{Event}
use Rattle.cds_markup.specs.declared.name.Name.{Name}
use Rattle.cds_markup.specs.declared.name.Attr.{Attr}
use Rattle.cds_markup.specs.declared.part.Part.TheVariants.{Start}
use Rattle.cds_markup.specs.declared.tag.Tag.{Tag}
use Rattle.cds_markup.specs.declared.error.MarkupError.{MarkupError}
use Rattle.cds_markup.specs.declared.error.MarkupError.TheVariants.{Bad as BadAt, TooDeep, TooLong as TooManyBytes, Failed as FailedBefore, Mem as OutOfMemory}
use Rattle.cds_markup.specs.Grammar.{IsTag, IsStartTag}
use Rattle.cds_markup.specs.Document.{Meaning, most_bytes, most_open, Doc, DocOf}
use Rattle.cds_markup.specs.Answer.{answer_to, parts_in}
use Rattle.cds_markup.specs.Parts.{TreeParts}
use Rattle.cds_markup.specs.Refusal.{Opens, TagEnds, Refuses, IsRefused as IsRefusedDocument}
use Rattle.cds_markup.specs.PartsFound.{Clear}
use Rattle.cds_markup.proofs.Public.{tree-is, start-parts, tree-first, all-are-answered, documents-are-read, parts-are-found, parts-are-given, parts-are-told, parts-are-of-roots}
use Rattle.cds_lastchange.specs.declared.error.StateError.{StateError}
use Rattle.cds_lastchange.specs.declared.error.StateError.TheVariants.{Bad, NotStateEvent, TooLong, Failed, Mem}
use Rattle.cds_lastchange.specs.declared.judge.Judge.{Judge}
use Rattle.cds_lastchange.specs.StateEvent.{IsDocumentOf, IsEmpty, IsStateEvent}
use Rattle.cds_lastchange.specs.Refusal.{may_stand, Shows, NoneShows, IsBadEvent, IsNoStateEvent, IsRefused, Decides}
use Rattle.cds_lastchange.specs.Judged.{parts_judged, nothing_said, ended_so}
use Rattle.cds_lastchange.specs.Laws.{OneList, OneAnswer, AllAreAnswered}
use Rattle.cds_lastchange.proofs.Spaces.{and-first, and-second}
use Rattle.cds_lastchange.proofs.Judging.{Answer, outside, root-are, root-keeps}
use Rattle.cds_lastchange.proofs.Levels.{strange-start, FirstFault, first-fault}
use Rattle.cds_lastchange.proofs.Meanings.{root-means}
use Rattle.cds_lastchange.proofs.Finding.{leaf-begins, indirect-no-text, caught, falls-front, none-caught, Before, FirstShown, first-shown, nothing-before}

abbrev pub judged : List ℕ → Answer
judged bytes = parts_judged nothing_said (parts_in bytes)

-- places that nothing refuses
abbrev pub Few : ℕ → List ℕ → ℕ → Type 0
Few most bytes n = (n ≤ most) ⊎ (length bytes ≤ most)

pub few-at : (most : ℕ) (bytes : List ℕ) (at : ℕ) → (at < most) ⊎ (length bytes ≤ most) → Few most bytes at
few-at most bytes at (inl less) = inl (omega (arith, less))
few-at most bytes at (inr few) = inr few

at-few : (most : ℕ) (bytes : List ℕ) (n at : ℕ) → at < n → Few most bytes n → (at < most) ⊎ (length bytes ≤ most)
at-few most bytes n at h (inl less) = inl (omega (arith, less, h))
at-few most bytes n at h (inr few) = inr few

clear-of : (bytes : List ℕ) (n : ℕ) → ((earlier : ℕ) → earlier < n → Refuses bytes earlier → ⊥) → Few most_bytes bytes n → (at : ℕ) → at < n → Clear bytes at
clear-of bytes n none few at h = record { none = λ earlier g. none earlier (omega (arith, g, h)); short = at-few most_bytes bytes n at h few }

-- where all parts stand, nothing shows that nothing refuses
pub none-shows : (bytes : List ℕ) (k : Judge) → judged bytes ≡ Ok k → (n : ℕ) → ((earlier : ℕ) → earlier < n → Refuses bytes earlier → ⊥) → Few most_bytes bytes n → NoneShows bytes n
none-shows bytes k ok n none few earlier at h shows =
    none-caught bytes (parts_in bytes) earlier at (caught bytes (parts_in bytes) (parts-are-given bytes) earlier at shows (clear-of bytes n none few earlier h)) k ok

-- a part that does not stand
module _ (bytes : List ℕ) (place : ℕ) (e : judged bytes ≡ Err place) where
  fault : FirstFault (parts_in bytes) place
  fault = first-fault (parts_in bytes) place e

  found : FirstShown bytes fault.part place
  found = first-shown bytes (parts_in bytes) (parts-are-given bytes) place fault

  first-in : (other answer : ℕ) → Shows bytes other answer → Clear bytes other → Before found.shown place other answer
  first-in = nothing-before bytes (parts_in bytes) (parts-are-given bytes) place fault found

  pub sound-event : IsNoStateEvent bytes place
  sound-event = record {
    shown = found.shown;
    shows = found.shows;
    clear = found.clear;
    first = λ earlier at h shows.
        let clear = clear-of bytes found.shown (λ n g. found.clear.none n (omega (arith, g))) (few-at most_bytes bytes found.shown found.clear.short) earlier h in
        let b = first-in earlier at shows clear in
        omega (arith, b.0, h);
  }

-- bytes that are no document
pub sound-bad : (bytes : List ℕ) (at : ℕ) (k : Judge) → (list_all is_blank bytes ≡ true → most_bytes < length bytes) → IsRefusedDocument bytes (BadAt at) → judged bytes ≡ Ok k → IsBadEvent bytes at
sound-bad bytes at k blank r ok = record { blank = blank; refused = r; first = none-shows bytes k ok at r.1.none_before (few-at most_bytes bytes at r.1.short) }

pub no-more : (n : ℕ) → n ≤ n
no-more n = omega arith

pub sound-long : (bytes : List ℕ) (k : Judge) → IsRefusedDocument bytes TooManyBytes → judged bytes ≡ Ok k → IsRefused bytes TooLong
sound-long bytes k r ok = (r, none-shows bytes k ok most_bytes r.1 (inl (no-more most_bytes)))

-- the start tag of an open element ends before what is open in it
start-ends : (bytes rest b0 start inside : List ℕ) (outer : List Tag) (t : Tag) → bytes ≡ (b0 ++ (start ++ inside)) ++ rest → Opens outer b0 → IsStartTag start t → (at : ℕ) × (at < length (b0 ++ (start ++ inside))) × TagEnds bytes outer (length b0) at t
start-ends bytes rest b0 start inside outer t e o g = (
  length b0 + 1 + length p.0,
  omega (arith, length-append b0 (start ++ inside), length-append start inside, ap length p.1, length-append p.0 (62 ∷ [])),
  record { before = b0; inside = p.0; end = 62; rest = inside ++ rest; begins = refl; place = refl; opens = o; is_tag = p.2; ends = inr refl; spelled = e ∙ append_assoc b0 (start ++ inside) rest ∙ ap (λ xs. b0 ++ xs) (append_assoc start inside rest ∙ ap (λ xs. xs ++ (inside ++ rest)) p.1 ∙ behind p.0 (inside ++ rest)) },
) where
  p : (inside : List ℕ) × (start ≡ 60 ∷ (inside ++ 62 ∷ [])) × IsTag inside t
  p = start-parts start t g

  behind : (xs ys : List ℕ) → (60 ∷ (xs ++ 62 ∷ [])) ++ ys ≡ 60 ∷ (xs ++ 62 ∷ ys)
  behind xs ys = ap (λ zs. 60 ∷ zs) (append_assoc xs (62 ∷ []) ys)

third-strange : (outer : List Tag) (name : Name) (attrs : List Attr) → 2 ≤ length outer → may_stand outer name attrs ≡ false
third-strange [] name attrs h = absurd (omega (arith, h))
third-strange (root ∷ []) name attrs h = absurd (omega (arith, h))
third-strange (event ∷ root ∷ outer) name attrs h = refl

-- no document without another fault before is too deep
deep-falls : (bytes rest before : List ℕ) (tags : List Tag) (k : Judge) → bytes ≡ before ++ rest → Opens tags before → length tags ≡ most_open → ((at : ℕ) → at < length before → Clear bytes at) → judged bytes ≡ Ok k → ⊥
deep-falls bytes rest before [] k e o many clear ok = absurd (omega (arith, many))
deep-falls bytes rest before (t ∷ outer) k e (b0, start, inside, content, d, o, g, others) many clear ok =
    let s = start-ends bytes rest b0 start inside outer t (e ∙ ap (λ xs. xs ++ rest) d) o g in
    let given = (parts-are-found bytes (parts_in bytes) (parts-are-given bytes)).starts outer (length b0) s.0 t s.2 (clear s.0 (omega (arith, s.1, ap length d))) in
    falls-front given.earlier given.later (Start (length b0) s.0 given.name given.attrs) outer s.2.before given.opens
    (λ j l. (length b0, strange-start outer j (length b0) s.0 given.name given.attrs l (third-strange outer given.name given.attrs (omega (arith, many)))))
    k (sym (ap (parts_judged nothing_said) given.is) ∙ ok)

pub none-deep : (bytes : List ℕ) (at : ℕ) (k : Judge) → IsRefusedDocument bytes (TooDeep at) → judged bytes ≡ Ok k → ⊥
none-deep bytes at k (d, first) ok =
    deep-falls bytes (codes "<" ++ d.first ∷ d.rest) d.before d.tags k d.spelled d.opens d.many
    (λ n h. clear-of bytes at first.none_before (few-at most_bytes bytes at first.short) n (omega (arith, h, d.place)))
    ok

-- bytes that are events
pub sound-document : (bytes : List ℕ) (element : Meaning) (k : Judge) → Doc bytes element → judged bytes ≡ Ok k → IsStateEvent bytes k.events
sound-document bytes element k d ok =
    let p = parts-are-told bytes element d in
    record {
      is = inr (
        p.root,
        record { prolog = p.prolog; element = p.element; epilog = p.epilog; spelled = p.spelled; is_prolog = p.is_prolog; is_element = tree-is p.root (length p.prolog) [] p.element (parts_in bytes) p.is_element; is_epilog = p.is_epilog },
        root-are p.root (length p.prolog) p.element (parts_in bytes) p.is_element k ok,
      );
      short = d.1.short;
    }

-- the answer to all bytes
abbrev pub is_empty : List ℕ → Bool
is_empty bytes = list_all is_blank bytes && nat_le (length bytes) most_bytes

abbrev pub answer_of : Result (Unit {0}) MarkupError → Answer → Result (List Event) StateError
answer_of read (Err at) = Err (NotStateEvent at)
answer_of read (Ok k) = ended_so read false (Ok k)

abbrev pub answer : List ℕ → Result (List Event) StateError
answer bytes = cond (is_empty bytes) (Ok []) (answer_of (answer_to bytes) (judged bytes))

few-enough : (n : ℕ) → nat_le n most_bytes ≡ true → n ≤ most_bytes
few-enough n e = grind (arith, nat_tests)

le-true : (n : ℕ) → n ≤ most_bytes → nat_le n most_bytes ≡ true
le-true n e = grind (arith, nat_tests)

empty-both : (bytes : List ℕ) → is_empty bytes ≡ true → (list_all is_blank bytes ≡ true) × (length bytes ≤ most_bytes)
empty-both bytes e = (and-first (list_all is_blank bytes) (nat_le (length bytes) most_bytes) e, few-enough (length bytes) (and-second (list_all is_blank bytes) (nat_le (length bytes) most_bytes) e))

blank-many : (bytes : List ℕ) → is_empty bytes ≡ false → list_all is_blank bytes ≡ true → most_bytes < length bytes
blank-many bytes e d = not-too-many (length bytes) (sym (ap (λ t. t && nat_le (length bytes) most_bytes) d) ∙ e) where
  not-too-many : (n : ℕ) → nat_le n most_bytes ≡ false → most_bytes < n
  not-too-many n e = grind (arith, nat_tests)

-- it stands
abbrev pub Stands : List ℕ → Result (List Event) StateError → Type 0
Stands bytes (Ok events) = IsStateEvent bytes events
Stands bytes (Err r) = IsRefused bytes r × (r ≢ Mem)

-- reading that does not run out of memory never answers that it did
never-mem : (bytes : List ℕ) → answer_to bytes ≡ Err OutOfMemory → ⊥
never-mem bytes e = by (all-are-answered bytes) where
  by : ((element : Meaning) × Doc bytes element) ⊎ ((r : MarkupError) × IsRefusedDocument bytes r × (r ≢ OutOfMemory)) → ⊥
  by (inl d) = let bad : ◌≡◌ {A = Result (Unit {0}) MarkupError} (Ok tt) (Err OutOfMemory) = sym ((documents-are-read bytes).whole d.0 d.1).0 ∙ e in cc
  by (inr (r, i, n)) = let same : ◌≡◌ {A = Result (Unit {0}) MarkupError} (Err r) (Err OutOfMemory) = sym ((documents-are-read bytes).refused r i n) ∙ e in n cc

read-stands : (bytes : List ℕ) (k : Judge) → is_empty bytes ≡ false → judged bytes ≡ Ok k → (read : Result (Unit {0}) MarkupError) → answer_to bytes ≡ read → Stands bytes (answer_of read (Ok k))
read-stands bytes k none ok (Ok tt) e = let d = (documents-are-read bytes).document e in sound-document bytes d.0 k d.1 ok
read-stands bytes k none ok (Err (BadAt at)) e = (sound-bad bytes at k (blank-many bytes none) ((documents-are-read bytes).refusal (BadAt at) e) ok, λ d. absurd (cc))
read-stands bytes k none ok (Err (TooDeep at)) e = absurd (none-deep bytes at k ((documents-are-read bytes).refusal (TooDeep at) e) ok)
read-stands bytes k none ok (Err TooManyBytes) e = (sound-long bytes k ((documents-are-read bytes).refusal TooManyBytes e) ok, λ d. absurd (cc))
read-stands bytes k none ok (Err FailedBefore) e = absurd ((documents-are-read bytes).refusal FailedBefore e)
read-stands bytes k none ok (Err OutOfMemory) e = absurd (never-mem bytes e)

pub stands : (bytes : List ℕ) → Stands bytes (answer bytes)
stands bytes = by (is_empty bytes) refl where
  said : is_empty bytes ≡ false → (j : Answer) → judged bytes ≡ j → Stands bytes (answer_of (answer_to bytes) j)
  said none (Err place) e = (sound-event bytes place e, λ d. absurd (cc))
  said none (Ok k) e = read-stands bytes k none e (answer_to bytes) refl

  by : (t : Bool) → is_empty bytes ≡ t → Stands bytes (cond t (Ok []) (answer_of (answer_to bytes) (judged bytes)))
  by true e = let b = empty-both bytes e in record { is = inl (b.0, refl); short = b.1 }
  by false e = said e (judged bytes) refl

-- and it is the only one
answer-is : (bytes : List ℕ) (read : Result (Unit {0}) MarkupError) (j : Answer) → (is_empty bytes ≡ true → ⊥) → answer_to bytes ≡ read → judged bytes ≡ j → answer bytes ≡ answer_of read j
answer-is bytes read j some d f =
    ap (λ t. cond t (Ok []) (answer_of (answer_to bytes) (judged bytes))) (by (is_empty bytes) some) ∙ ap (λ r. answer_of r (judged bytes)) d ∙ ap (answer_of read) f
  where
    by : (t : Bool) → (t ≡ true → ⊥) → t ≡ false
    by true h = absurd (h refl)
    by false h = refl

-- where nothing shows before a refusal all parts stand
judged-ok : (bytes : List ℕ) (n : ℕ) → NoneShows bytes n → ((at : ℕ) → n ≤ at → Clear bytes at → ⊥) → (k : Judge) × (judged bytes ≡ Ok k)
judged-ok bytes n none past = by (judged bytes) refl where
  by : (j : Answer) → judged bytes ≡ j → (k : Judge) × (judged bytes ≡ Ok k)
  by (Ok k) e = (k, e)
  by (Err place) e = let s = sound-event bytes place e in absurd (elim (cases_lt s.shown n) [ inl h ↦ none s.shown place h s.shows | inr h ↦ past s.shown h s.clear ])

complete-bad : (bytes : List ℕ) (at : ℕ) → IsBadEvent bytes at → answer bytes ≡ Err (Bad at)
complete-bad bytes at b =
    let ok = judged-ok bytes at b.first (λ n h clear. clear.none at h (inl b.refused.0)) in
    answer-is bytes (Err (BadAt at)) (Ok ok.0) (λ e. let s = empty-both bytes e in omega (arith, s.1, b.blank s.0)) ((documents-are-read bytes).refused (BadAt at) b.refused (λ d. absurd (cc))) ok.1

past-limit : (most : ℕ) (bytes : List ℕ) (n : ℕ) → most < length bytes → most ≤ n → (n < most) ⊎ (length bytes ≤ most) → ⊥
past-limit most bytes n long h (inl less) = omega (arith, h, less)
past-limit most bytes n long h (inr few) = omega (arith, long, few)

complete-long : (bytes : List ℕ) → IsRefused bytes TooLong → answer bytes ≡ Err TooLong
complete-long bytes (refused, first) =
    let ok = judged-ok bytes most_bytes first (λ n h clear. past-limit most_bytes bytes n refused.0 h clear.short) in
    answer-is bytes (Err TooManyBytes) (Ok ok.0) (λ e. let s = empty-both bytes e in omega (arith, s.1, refused.0)) ((documents-are-read bytes).refused TooManyBytes refused (λ d. absurd (cc))) ok.1

-- what shows is not blank
blank-byte : (v : List ℕ) (b : ℕ) (w : List ℕ) → list_all is_blank (v ++ b ∷ w) ≡ true → is_blank b ≡ true
blank-byte [] b w e = and-first (is_blank b) (list_all is_blank w) e
blank-byte (a ∷ v) b w e = blank-byte v b w (and-second (is_blank a) (list_all is_blank (v ++ b ∷ w)) e)

pub letter-in : (bytes v : List ℕ) (b : ℕ) (w : List ℕ) → list_all is_blank bytes ≡ true → bytes ≡ v ++ b ∷ w → is_blank b ≡ false → ⊥
letter-in bytes v b w e d letter = let bad : true ≡ false = sym (blank-byte v b w (sym (ap (list_all is_blank) d) ∙ e)) ∙ letter in cc

shows-letter : (bytes : List ℕ) (shown at : ℕ) → Shows bytes shown at → list_all is_blank bytes ≡ true → ⊥
shows-letter bytes shown at (inl s) e = letter-in bytes s.ends.before 60 (s.ends.inside ++ s.ends.end ∷ s.ends.rest) e s.ends.spelled refl
shows-letter bytes shown at (inr (inl s)) e =
    let f = leaf-begins s.ends.front s.leaf s.ends.is_leaf (indirect-no-text s.leaf s.indirect) in
    letter-in bytes s.ends.before f.first (f.more ++ s.ends.rest) e (s.ends.spelled ∙ ap (λ xs. s.ends.before ++ (xs ++ s.ends.rest)) f.is) (by f.first f.markup)
  where
    by : (b : ℕ) → (b ≡ 60) ⊎ (b ≡ 38) → is_blank b ≡ false
    by b (inl d) = ap is_blank d
    by b (inr d) = ap is_blank d
shows-letter bytes shown at (inr (inr s)) e = letter-in bytes s.begins.before s.byte s.begins.rest e s.begins.spelled s.begins.no_blank

complete-event : (bytes : List ℕ) (at : ℕ) → IsNoStateEvent bytes at → answer bytes ≡ Err (NotStateEvent at)
complete-event bytes at n = by (judged bytes) refl where
  by : (j : Answer) → judged bytes ≡ j → answer bytes ≡ Err (NotStateEvent at)
  by (Ok k) e = absurd (none-caught bytes (parts_in bytes) n.shown at (caught bytes (parts_in bytes) (parts-are-given bytes) n.shown at n.shows n.clear) k e)
  by (Err place) e =
      let b = first-in bytes place e n.shown at n.shows n.clear in
      answer-is bytes (answer_to bytes) (Err place) (λ d. shows-letter bytes n.shown at n.shows (empty-both bytes d).0) refl e
      ∙ ap (λ m. Err (NotStateEvent m)) (b.1 (same (found bytes place e).shown b.0 (λ h. n.first (found bytes place e).shown place h (found bytes place e).shows)))
    where
      same : (m : ℕ) → m ≤ n.shown → (m < n.shown → ⊥) → m ≡ n.shown
      same m h g = elim (cases_lt m n.shown) [ inl less ↦ absurd (g less) | inr more ↦ omega (arith, h, more) ]

complete-document : (bytes : List ℕ) (events : List Event) → IsDocumentOf bytes events → length bytes ≤ most_bytes → answer bytes ≡ Ok events
complete-document bytes events (root, d, says) short =
    let m = root-means root events says in
    let doc : DocOf bytes root m.0 = record { document = d; means = m.1; within = omega (arith, m.2); short = short } in
    let p = parts-are-of-roots bytes root m.0 doc in
    let tree : TreeParts root (length p.0.prolog) [] p.0.element (parts_in bytes) = subst (λ r. TreeParts r (length p.0.prolog) [] p.0.element (parts_in bytes)) p.1 p.0.is_element in
    let f = tree-first root d.element d.is_element in
    answer-is bytes (Ok tt) (Ok (outside events))
    (λ e. letter-in bytes d.prolog 60 (f.0 ++ d.epilog) (empty-both bytes e).0 (d.spelled ∙ ap (λ xs. d.prolog ++ (xs ++ d.epilog)) f.1) refl)
    ((documents-are-read bytes).whole m.0 (root, doc)).0
    (root-keeps root (length p.0.prolog) p.0.element (parts_in bytes) tree events says)

complete-ok : (bytes : List ℕ) (events : List Event) → IsStateEvent bytes events → answer bytes ≡ Ok events
complete-ok bytes events s = by s.is where
  by : IsEmpty bytes events ⊎ IsDocumentOf bytes events → answer bytes ≡ Ok events
  by (inl (blank, none)) =
      ap (λ t. cond t (Ok []) (answer_of (answer_to bytes) (judged bytes))) (ap (λ t. t && nat_le (length bytes) most_bytes) blank ∙ le-true (length bytes) s.short) ∙ ap Ok (sym none)
  by (inr d) = complete-document bytes events d s.short

complete-err : (bytes : List ℕ) (r : StateError) → IsRefused bytes r → r ≢ Mem → answer bytes ≡ Err r
complete-err bytes (Bad at) i n = complete-bad bytes at i
complete-err bytes (NotStateEvent at) i n = complete-event bytes at i
complete-err bytes TooLong i n = complete-long bytes i
complete-err bytes Failed i n = absurd i
complete-err bytes Mem i n = absurd (n refl)

-- the laws
oks-same : (x y : List Event) → ◌≡◌ {A = Result (List Event) StateError} (Ok x) (Ok y) → x ≡ y
oks-same x y e = cc

errs-same : (x y : StateError) → ◌≡◌ {A = Result (List Event) StateError} (Err x) (Err y) → x ≡ y
errs-same x y e = cc

ok-no-err : (x : List Event) (y : StateError) → ◌≡◌ {A = Result (List Event) StateError} (Ok x) (Err y) → ⊥
ok-no-err x y e = cc

pub one-list : OneList
one-list bytes one other s t = oks-same one other (sym (complete-ok bytes one s) ∙ complete-ok bytes other t)

pub one-answer : OneAnswer
one-answer bytes r i n = (
  λ events s. ok-no-err events r (sym (complete-ok bytes events s) ∙ complete-err bytes r i n),
  λ other j m. errs-same other r (sym (complete-err bytes other j m) ∙ complete-err bytes r i n),
)

pub all-answered : AllAreAnswered
all-answered bytes = by (answer bytes) (stands bytes) where
  by : (a : Result (List Event) StateError) → Stands bytes a → ((events : List Event) × IsStateEvent bytes events) ⊎ ((r : StateError) × IsRefused bytes r × (r ≢ Mem))
  by (Ok events) s = inl (events, s)
  by (Err r) s = inr (r, s.0, s.1)

-- what is so decides
pub decided-ok : (bytes : List ℕ) (events : List Event) → IsStateEvent bytes events → Decides bytes (Ok events)
decided-ok bytes events s = (s, λ other t. one-list bytes other events t s)

pub decided-err : (bytes : List ℕ) (r : StateError) → IsRefused bytes r → Decides bytes (Err r)
decided-err bytes (Bad at) i = let a = one-answer bytes (Bad at) i (λ d. absurd (cc)) in (i, a.1, a.0)
decided-err bytes (NotStateEvent at) i = let a = one-answer bytes (NotStateEvent at) i (λ d. absurd (cc)) in (i, a.1, a.0)
decided-err bytes TooLong i = let a = one-answer bytes TooLong i (λ d. absurd (cc)) in (i, a.1, a.0)
decided-err bytes Failed i = absurd i
decided-err bytes Mem i = tt
