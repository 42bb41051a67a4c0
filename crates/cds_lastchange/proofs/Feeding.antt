-- What a piece and the end are answered stands for the bytes that came, whatever comes behind.
use Rattle.std.proofs.Common.{◌≡◌, ℕ, ◌+◌, ◌<◌, ◌≤◌, Bool, true, false, ◌&&◌, ◌⊎◌, inl, inr, Option, None, Result, Ok, Err, List, [], ◌∷◌, ◌++◌, take, drop, length, refl, sym, ap, subst, ◌∙◌, arith, append_assoc, append-nil, length-append}
use Rattle.std.specs.List.{list_all}
use Rattle.std.proofs.lemmas.Bool.{cases_lt}
use Rattle.std.proofs.lemmas.List.{take-append-drop}
use Rattle.std.proofs.lemmas.List.Folds.{list_all-append}
use Rattle.cds_base.specs.Characters.{is_blank}
use Rattle.cds_object.specs.declared.event.Event.{Event}
use Rattle.cds_markup.specs.declared.error.MarkupError.{MarkupError}
use Rattle.cds_markup.specs.declared.error.MarkupError.TheVariants.{Bad as BadAt, TooDeep, TooLong as TooManyBytes, Failed as FailedBefore, Mem as OutOfMemory}
use Rattle.cds_markup.specs.declared.part.Part.{Part}
use Rattle.cds_markup.specs.Grammar.{MiscPiece, Blank, IsMiscPiece, IsMisc}
use Rattle.cds_markup.specs.Form.{Many}
use Rattle.cds_markup.specs.Document.{most_bytes}
use Rattle.cds_markup.specs.Answer.{parts_in}
use Rattle.cds_markup.specs.Refusal.{CanGoOn, IsBad, Refuses, IsRefused as IsRefusedDocument}
use Rattle.cds_markup.specs.Taking.{Takes}
use Rattle.cds_markup.specs.Tellings.{Telling}
use Rattle.cds_markup.specs.Feeding.{AreGiven, IsClean, IsIn as IsInDocument, IsDecided as IsDecidedDocument, StandsFor, TakesPiece, TakesEnd, No-runs}
use Rattle.cds_markup.specs.Pieces.{Gives, together}
use Rattle.cds_markup.proofs.Public.{no-prolog, parts-are-given, parts-are-one, parts-stand-before}
use Rattle.cds_lastchange.specs.declared.error.StateError.{StateError}
use Rattle.cds_lastchange.specs.declared.error.StateError.TheVariants.{Bad, NotStateEvent, TooLong, Failed, Mem}
use Rattle.cds_lastchange.specs.declared.judge.Judge.{Judge}
use Rattle.cds_lastchange.specs.Refusal.{Shows, NoneShows, IsNoStateEvent, Decides}
use Rattle.cds_lastchange.specs.Judged.{parts_judged, nothing_said, judged_on, is_misplaced, misplaced, as_refusal, refused_so, ended_so}
use Rattle.cds_lastchange.specs.Feeding.{Came, came, IsRead, IsDecided, TakesBytes, Fed, EndsSo, Finished, EveryCutting}
use Rattle.cds_lastchange.proofs.Spaces.{and-first, and-second}
use Rattle.cds_lastchange.proofs.Judging.{Answer, runs-judged, more-judged}
use Rattle.cds_lastchange.proofs.Places.{longer, shorter, refuses-there, shows-there}
use Rattle.cds_lastchange.proofs.Finding.{shown-within}
use Rattle.cds_lastchange.proofs.Deciding.{judged, few-at, no-more, none-shows, sound-event, none-deep, sound-document, letter-in, decided-ok, decided-err}
use Rattle.cds_lastchange.proofs.WrittenRead.{written-document}

-- a document goes on from white space
blanks : (bytes : List ℕ) → list_all is_blank bytes ≡ true → (pieces : List MiscPiece) × Many IsMiscPiece bytes pieces
blanks [] e = ([], refl)
blanks (b ∷ rest) e =
    let more = blanks rest (and-second (is_blank b) (list_all is_blank rest) e) in
    (Blank ∷ more.0, (b ∷ [], rest, refl, (b, (refl, and-first (is_blank b) (list_all is_blank rest) e)), more.1))

blanks-go-on : (bytes : List ℕ) → list_all is_blank bytes ≡ true → CanGoOn bytes
blanks-go-on bytes e =
    let w = written-document [] tt in
    let p = blanks bytes e in
    let misc : IsMisc bytes tt = record { front = bytes; back = []; what = p.0; spelled = sym (append-nil bytes); first = p.1; second = (refl, refl) } in (
      w.1.element ++ w.1.epilog,
      w.0,
      record {
        prolog = bytes;
        element = w.1.element;
        epilog = w.1.epilog;
        spelled = refl;
        is_element = w.1.is_element;
        is_epilog = w.1.is_epilog;
        is_prolog = record { front = []; back = bytes; what = None; spelled = refl; first = refl; second = record { front = []; back = bytes; what = None; spelled = refl; first = refl; second = misc } };
      },
    )

blank-bad : (bytes : List ℕ) (at : ℕ) → at < length bytes → IsBad bytes at → list_all is_blank bytes ≡ true → ⊥
blank-bad bytes at h (inl (inl b)) e =
    b.here (blanks-go-on (take (at + 1) bytes) (and-first (list_all is_blank (take (at + 1) bytes)) (list_all is_blank (drop (at + 1) bytes))
    (sym (list_all-append is_blank (take (at + 1) bytes) (drop (at + 1) bytes)) ∙ ap (list_all is_blank) (take-append-drop (at + 1) bytes) ∙ e)))
blank-bad bytes at h (inl (inr s)) e = omega (arith, s.end, h)
blank-bad bytes at h (inr (tags, begin, tag, t, breaks)) e = letter-in bytes t.before 60 (t.inside ++ t.end ∷ t.rest) e t.spelled refl

-- what shows in the first bytes shows in more of them, and back
few-first : (bytes more : List ℕ) → length bytes ≤ length (bytes ++ more)
few-first bytes more = omega (arith, length-append bytes more)

shows-back : (bytes more : List ℕ) (shown at : ℕ) → Shows (bytes ++ more) shown at → shown < length bytes → Shows bytes shown at
shows-back bytes more = shows-there (length bytes) (bytes ++ more) bytes (few-first bytes more) (shorter bytes more)

none-more : (bytes more : List ℕ) (n : ℕ) → n ≤ length bytes → NoneShows bytes n → NoneShows (bytes ++ more) n
none-more bytes more n h none earlier at less shows = none earlier at less (shows-back bytes more earlier at shows (omega (arith, less, h)))

event-stays : (bytes more : List ℕ) (at : ℕ) → IsNoStateEvent bytes at → IsNoStateEvent (bytes ++ more) at
event-stays bytes more at n =
    let h = shown-within bytes n.shown at n.shows in
    record {
      shown = n.shown;
      shows = shows-there (length bytes) bytes (bytes ++ more) (no-more (length bytes)) (longer bytes more) n.shown at n.shows h;
      clear = record { none = λ earlier g r. n.clear.none earlier g (refuses-there (length bytes) (bytes ++ more) bytes (few-first bytes more) (shorter bytes more) earlier r (omega (arith, g, h))); short = inl (within most_bytes h n.clear.short) };
      first = none-more bytes more n.shown (omega (arith, h)) n.first;
    }
  where
    within : (most : ℕ) → n.shown < length bytes → (n.shown < most) ⊎ (length bytes ≤ most) → n.shown < most
    within most h (inl less) = less
    within most h (inr few) = omega (arith, h, few)

-- what was given is judged as the parts are
pub given-judged : (bytes : List ℕ) (runs : List Part) → AreGiven bytes runs → judged bytes ≡ parts_judged nothing_said runs
given-judged bytes runs (parts, g, r) = ap (parts_judged nothing_said) (parts-are-one bytes (parts_in bytes) parts (parts-are-given bytes) g) ∙ runs-judged bytes parts runs r nothing_said

clean-shows : (bytes : List ℕ) (k : Judge) → IsClean bytes → judged bytes ≡ Ok k → NoneShows bytes (length bytes)
clean-shows bytes k clean ok = none-shows bytes k ok (length bytes) clean.none (inr clean.short)

-- a refusal of the document, before which nothing shows
refused : (bytes piece : List ℕ) (k : Judge) → judged (bytes ++ piece) ≡ Ok k → (r : MarkupError) → IsDecidedDocument bytes piece r → IsDecided bytes piece (as_refusal r)
refused bytes piece k ok r d = by r d.inside d.stands where
  all : List ℕ
  all = bytes ++ piece

  here : (r : MarkupError) → ((more : List ℕ) → IsRefusedDocument (all ++ more) r) → IsRefusedDocument all r
  here r stands = subst (λ xs. IsRefusedDocument xs r) (append-nil all) (stands [])

  by : (r : MarkupError) → IsInDocument bytes piece r → ((more : List ℕ) → IsRefusedDocument (all ++ more) r) → IsDecided bytes piece (as_refusal r)
  by (BadAt at) inside stands =
      let first = (here (BadAt at) stands).1 in
      record {
        inside = inside;
        stands = λ more. record { blank = λ e. absurd (blank-bad (all ++ more) at (omega (arith, inside.1, length-append all more)) (stands more).0 e); refused = stands more; first = none-more all more at (omega (arith, inside.1)) (none-shows all k ok at first.none_before (few-at most_bytes all at first.short)) };
      }
  by (TooDeep at) inside stands = absurd (none-deep all at k (here (TooDeep at) stands) ok)
  by TooManyBytes inside stands = record { inside = inside; stands = λ more. (stands more, none-more all more most_bytes (below most_bytes (length all) inside.1) (none-shows all k ok most_bytes (here TooManyBytes stands).1 (inl (no-more most_bytes)))) } where
    below : (n m : ℕ) → n < m → n ≤ m
    below n m h = omega (arith, h)
  by FailedBefore inside stands = absurd inside
  by OutOfMemory inside stands = absurd inside

-- a part of the piece that does not stand
module _ (bytes : List ℕ) (before : Came) (read : IsRead bytes before) where
  before-ok : judged bytes ≡ Ok read.judge
  before-ok = given-judged bytes read.given read.are ∙ read.judged

  event-refused : (piece : List ℕ) (at : ℕ) → judged (bytes ++ piece) ≡ Err at → IsDecided bytes piece (NotStateEvent at)
  event-refused piece at e =
      let n = sound-event (bytes ++ piece) at e in
      record { inside = (n.shown, n.shows, behind n.shown n.shows (cases_lt n.shown (length bytes)), shown-within (bytes ++ piece) n.shown at n.shows); stands = λ more. event-stays (bytes ++ piece) more at n }
    where
      behind : (m : ℕ) → Shows (bytes ++ piece) m at → (m < length bytes) ⊎ (length bytes ≤ m) → length bytes ≤ m
      behind m shows (inl less) = absurd (clean-shows bytes read.judge read.clean before-ok m at less (shows-back bytes piece m at shows less))
      behind m shows (inr more) = more

  -- a piece
  judged-behind : (piece : List ℕ) (runs : List Part) (to : Answer) → Takes judged_on is_misplaced before.said runs to → parts_judged nothing_said (read.given ++ runs) ≡ to
  judged-behind piece runs to took = more-judged nothing_said read.judge read.given runs to read.judged (subst (λ a. Takes judged_on is_misplaced a runs to) read.said took)

  takes-bytes : (piece : List ℕ) (answer : Result (Unit {0}) MarkupError) (to : Answer) (now : Option Telling) (blank : Bool) → blank ≡ (before.blank && list_all is_blank piece)
      → TakesPiece (Takes judged_on is_misplaced) is_misplaced bytes read.given piece answer before.said to now → TakesBytes bytes piece (refused_so answer (misplaced to)) (came now to blank)
  takes-bytes piece (Ok done) (Ok k) now blank e (runs, took, are, goes) =
      let j = judged-behind piece runs (Ok k) took in (
        goes.0,
        clean-shows (bytes ++ piece) k goes.0 (given-judged (bytes ++ piece) (read.given ++ runs) are ∙ j),
        record { given = read.given ++ runs; stands = goes.1; are = are; clean = goes.0; judge = k; judged = j; said = refl; is_blank = e ∙ ap (λ t. t && list_all is_blank piece) read.is_blank ∙ sym (list_all-append is_blank bytes piece) },
      )
  takes-bytes piece (Ok done) (Err at) now blank e (runs, took, are, goes) =
      (event-refused piece at (given-judged (bytes ++ piece) (read.given ++ runs) are ∙ judged-behind piece runs (Err at) took), goes)
  takes-bytes piece (Err OutOfMemory) to now blank e t = t
  takes-bytes piece (Err FailedBefore) to now blank e (runs, took, are, enough, d, none) = absurd d.inside
  takes-bytes piece (Err (BadAt at)) (Ok k) now blank e (runs, took, are, enough, d, none) =
      (refused bytes piece k (given-judged (bytes ++ piece) (read.given ++ runs) are ∙ judged-behind piece runs (Ok k) took) (BadAt at) d, none)
  takes-bytes piece (Err (TooDeep at)) (Ok k) now blank e (runs, took, are, enough, d, none) =
      (refused bytes piece k (given-judged (bytes ++ piece) (read.given ++ runs) are ∙ judged-behind piece runs (Ok k) took) (TooDeep at) d, none)
  takes-bytes piece (Err TooManyBytes) (Ok k) now blank e (runs, took, are, enough, d, none) =
      (refused bytes piece k (given-judged (bytes ++ piece) (read.given ++ runs) are ∙ judged-behind piece runs (Ok k) took) TooManyBytes d, none)
  takes-bytes piece (Err r) (Err at) now blank e (runs, took, are, enough, d, none) = let no : true ≡ false = enough in absurd (cc)

  -- the end
  ends-blank : before.blank ≡ true → EndsSo bytes (Ok [])
  ends-blank blank = decided-ok bytes [] (record { is = inl (sym read.is_blank ∙ blank, refl); short = read.clean.short })

  ends-bytes : (answer : Result (Unit {0}) MarkupError) (blank : Bool) → before.blank ≡ blank → TakesEnd bytes read.given answer → EndsSo bytes (ended_so answer blank before.said)
  ends-bytes (Ok done) true blank t = ends-blank blank
  ends-bytes (Err (BadAt at)) true blank t = ends-blank blank
  ends-bytes (Ok done) false some (element, doc, parts) =
      subst (λ a. EndsSo bytes (ended_so (Ok done) false a)) (sym read.said) (decided-ok bytes read.judge.events (sound-document bytes element read.judge doc before-ok))
  ends-bytes (Err (BadAt at)) false some (short, are) = (
    decided-err bytes (Bad at) (record { blank = λ e. let no : true ≡ false = sym (read.is_blank ∙ e) ∙ some in absurd (cc); refused = (inl (inr short), record { none_before = clear; short = inr read.clean.short }); first = none-shows bytes read.judge before-ok at clear (inr read.clean.short) }),
    short,
  ) where
    clear : (earlier : ℕ) → earlier < at → Refuses bytes earlier → ⊥
    clear earlier h = read.clean.none earlier (omega (arith, h, short.end))
  ends-bytes (Err (TooDeep at)) blank e t = absurd t
  ends-bytes (Err TooManyBytes) blank e t = absurd t
  ends-bytes (Err FailedBefore) blank e t = absurd t
  ends-bytes (Err OutOfMemory) blank e t = absurd t

-- nothing came yet
pub nothing-read : (parts : Option Telling) (said : Answer) → said ≡ Ok nothing_said → StandsFor parts [] [] → IsRead [] (came parts said true)
nothing-read parts said e stands = record { given = []; stands = stands; judge = nothing_said; judged = refl; said = e; is_blank = refl; are = ([], parts-stand-before [] [] (omega arith) (inl ([], (no-prolog, refl))), No-runs); clean = record { short = omega arith; none = λ at h r. absurd (omega (arith, h)) } }

-- what a call answers
pub feeds : (before : Came) (piece : List ℕ) (answer : Result (Unit {0}) MarkupError) (to : Answer) (now : Option Telling) (blank : Bool) (place : Option ℕ) (result : Result (Unit {0}) StateError)
    → blank ≡ (before.blank && list_all is_blank piece) → place ≡ misplaced to → result ≡ refused_so answer place
    → ((bytes : List ℕ) (given : List Part) → StandsFor before.parts bytes given → TakesPiece (Takes judged_on is_misplaced) is_misplaced bytes given piece answer before.said to now)
    → Fed before piece result (came now to blank)
feeds before piece answer to now blank place result e p r takes bytes read =
    subst (λ answered. TakesBytes bytes piece answered (came now to blank)) (sym (r ∙ ap (refused_so answer) p)) (takes-bytes bytes before read piece answer to now blank e (takes bytes read.given read.stands))

pub finishes : (now : Came) (answer : Result (Unit {0}) MarkupError) (result : Result (List Event) StateError) → result ≡ ended_so answer now.blank now.said
    → ((bytes : List ℕ) (given : List Part) → StandsFor now.parts bytes given → TakesEnd bytes given answer) → Finished now result
finishes now answer result r ends bytes read = subst (EndsSo bytes) (sym r) (ends-bytes bytes now read answer now.blank refl (ends bytes read.given read.stands))

-- however bytes are cut
ended : (bytes : List ℕ) (result : Result (List Event) StateError) → EndsSo bytes result → Decides bytes result
ended bytes (Ok events) d = d
ended bytes (Err (Bad at)) d = d.0
ended bytes (Err (NotStateEvent at)) d = absurd d
ended bytes (Err TooLong) d = absurd d
ended bytes (Err Failed) d = absurd d
ended bytes (Err Mem) d = absurd d

stays-refused : (bytes piece more : List ℕ) (e : StateError) (now : Came) → TakesBytes bytes piece (Err e) now → Decides ((bytes ++ piece) ++ more) (Err e)
stays-refused bytes piece more Mem now t = tt
stays-refused bytes piece more (Bad at) now t = decided-err ((bytes ++ piece) ++ more) (Bad at) (t.0.stands more)
stays-refused bytes piece more (NotStateEvent at) now t = decided-err ((bytes ++ piece) ++ more) (NotStateEvent at) (t.0.stands more)
stays-refused bytes piece more TooLong now t = decided-err ((bytes ++ piece) ++ more) TooLong (t.0.stands more)
stays-refused bytes piece more Failed now t = absurd t.0.inside

cut-so : (bytes : List ℕ) (now : Came) (pieces : List (List ℕ)) (result : Result (List Event) StateError) → IsRead bytes now → Gives Fed Finished now pieces result → Decides (bytes ++ together pieces) result
cut-so bytes now [] result read g = subst (λ b. Decides b result) (sym (append-nil bytes)) (ended bytes result (g bytes read))
cut-so bytes now (piece ∷ more) result read (Ok done, next, fed, g) =
    subst (λ b. Decides b result) (append_assoc bytes piece (together more)) (cut-so (bytes ++ piece) next more result (fed bytes read).2 g)
cut-so bytes now (piece ∷ more) result read (Err e, next, fed, g) =
    subst (λ r. Decides (bytes ++ (piece ++ together more)) r) (sym g)
    (subst (λ b. Decides b (Err e)) (append_assoc bytes piece (together more)) (stays-refused bytes piece (together more) e next (fed bytes read)))

pub every-cutting : EveryCutting
every-cutting new pieces result read g = cut-so [] new pieces result read g
