-- What a piece and the end are answered, over the bytes that came.
-- What readings of documents answer, from what their builders took.
use Rattle.std.proofs.Common.{◌≡◌, ◌==◌, ℕ, ◌<◌, ◌-◌, false, cond, inl, inr, Option, Some, None, Result, Ok, Err, List, [], ◌∷◌, ◌++◌, length, slice_get, refl, sym, ap, subst, ◌∙◌, arith, append_assoc, Bool, true}
use Rattle.cds_markup.specs.declared.build.Builder.{Builder}
use Rattle.cds_markup.specs.declared.placed.Placed.{Placed}
use Rattle.cds_markup.specs.declared.placed.PlacedBuilder.{PlacedBuilder}
use Rattle.cds_markup.specs.Answer.{parts_in, ran_out}
use Rattle.cds_markup.specs.Decided.{Decides}
use Rattle.cds_markup.specs.Pieces.{Gives, together}
use Rattle.cds_markup.specs.Placed.{Placing, placing_of, no_place, noted_in, note_part, with_state, and_part, placed_by, places, placed_as, with_places, ArePlaces, DecidesPlaced}
use Rattle.cds_markup.specs.Reader.{Came, came, IsRead, Fed, EndsSo, Finished, FinishedPlaced, EveryCutting}
use Rattle.cds_markup.proofs.Terms.{meaning, append-nil, Part, Start, End, Run, MarkupError, Bad, Mem, Meaning, Doc, Telling, TakesAll as Takes, Tells, TellsTo, InRuns, No-runs, or_then, StandsFor, TakesPiece, TakesEnd, IsRefused, Verdict, some-is, is_err, OnOk, Frame, State, state, state_of, with_part, builds, built, nothing_yet, built_as, first_element, elements_in, nodes_in, child_at, open_behind, and_place, child_starts, root_start, IsPlace, PlacesAreOfElements, DocumentsAreRead, PartsAreBuilt, length-append, INPUT_LIMIT, MachineError, Marks, judge, refusal, may_end, answer_of, progressed, ended_of, EndsShort, marks, parts_of, cuts_text, last_part, goes_on_as, listed, Puts, shown, telling, begin_telling, last_parts, Told, ToldSo, told_on, told_within, told, AreGiven, IsClean, IsIn, IsDecided, Answered, GoesOn, told_piece, OutOfMemory, cases, clash, ok-err, IsErrAnd, EndsSo as End-so}
use Rattle.cds_markup.proofs.Trails.{tree-is}
use Rattle.cds_markup.proofs.Built.{no-child, stands-there, child-in, takes-all}
use Rattle.cds_markup.proofs.GivenLaws.{one-answer, verdict, exact, one-element, parts-are-given, parts-are-one, parts-say, parts-are-told, all-is-told, document-told}
use Rattle.cds_markup.proofs.TokenTold.{parts-at, parts-told, told-append, answer-at, answer-told, Stopped, told-ends, told-then, Came as CameSo, came-so}
use Rattle.cds_markup.specs.GivenParts.{Given}
use Rattle.cds_markup.proofs.GoingOn.{same-err, ends-short, NoneBefore, judged-cause}
use Rattle.cds_markup.proofs.ToldBytes.{runs-same, settled, Comes, comes, Alike, ends-listed, given-so}

-- what is read is clean, and a refusal is decided by the piece
module _ (came : List ℕ) (us : List Part) (q : Telling) (e : told begin_telling came ≡ Ok (us, q)) where
  so : CameSo INPUT_LIMIT came q
  so = came-so INPUT_LIMIT came us q e

  clean : IsClean came
  clean = record { short = so.few; none = subst (λ xs. NoneBefore xs (length came)) (append-nil came) (so.none []) }

  given : Given came (us ++ last_parts q)
  given = subst (Given came) (sym (parts-told came) ∙ ap parts-at e) (parts-are-given came)

  decided : (piece : List ℕ) (all : List Part) (f : MarkupError) → told begin_telling (came ++ piece) ≡ Err (all, f) → IsDecided came piece f
  decided piece all f h = elim (told-ends INPUT_LIMIT piece q) [
    | inl k ↦ ok-err (sym (told-then INPUT_LIMIT came piece begin_telling q us (Ok (k.0, k.1)) e k.2) ∙ h)
    | inr k ↦
        let x = k.0 in
        let whole : told begin_telling (came ++ piece) ≡ Err (us ++ x.0, x.1) = told-then INPUT_LIMIT came piece begin_telling q us (Err x) e (ap (told_within INPUT_LIMIT q) k.1.spelled ∙ k.1.stops k.1.rest) in
        let same : (us ++ x.0, x.1) ≡ (all, f) = same-err (sym whole ∙ h) in
        record { inside = subst (IsIn came piece) (ap (λ y. y.1) same) (inside x k.1); stands = stands }
  ] where
    inside : (x : List Part × MarkupError) → Stopped INPUT_LIMIT q piece x → IsIn came piece x.1
    inside x s = elim s.cause [ inl g ↦ let over = g.0 in subst (IsIn came piece) (sym g.1) (so.few, omega (arith, over, c.at, long)) | inr g ↦ subst (IsIn came piece) (sym g.3) (by g.1 g.2) ] where
      c : CameSo INPUT_LIMIT (came ++ s.front) s.at
      c = came-so INPUT_LIMIT (came ++ s.front) (us ++ s.us) s.at (told-then INPUT_LIMIT came s.front begin_telling q us _ e s.told)

      long : length (came ++ s.front) < length (came ++ piece)
      long = omega (arith, length-append came s.front, length-append came piece, ap length s.spelled, length-append s.front (s.byte ∷ s.rest))

      by : (stop : MachineError) → judge s.at.read s.byte ≡ Err stop → IsIn came piece (refusal stop s.at.at)
      by OutOfMemory j = absurd (judged-cause (came ++ s.front) s.at.read s.byte [] c.reached OutOfMemory j)
      by other j = (omega (arith, c.at, length-append came s.front), omega (arith, c.at, long))

    stands : (more : List ℕ) → IsRefused ((came ++ piece) ++ more) f
    stands more =
        let answer : answer_of ((came ++ piece) ++ more) ≡ Err f = sym (answer-told ((came ++ piece) ++ more)) ∙ ap answer-at (told-append INPUT_LIMIT (came ++ piece) more begin_telling ∙ ap (λ t. told_on t (λ p. told_within INPUT_LIMIT p more)) h) in
        subst (Verdict ((came ++ piece) ++ more)) answer (verdict ((came ++ piece) ++ more))

-- the contracts of the reader of parts
pub err_is : {A E : Type 0} (P : Result A E → Type 0) (result : Result A E) (e : E) → IsErrAnd result (λ x. x ≡ e) → P (Err e) → P result
err_is P (Ok value) e same p = absurd same
err_is P (Err x) e same p = subst (λ y. P (Err y)) (sym same) p

-- what is left behind a piece, and what is answered at the end
abbrev pub kept : Result (Unit {0}) MarkupError → Bool → Telling → Option Telling
kept (Ok done) v now = cond {A = Option Telling} v None (Some now)
kept (Err e) v now = None

abbrev pub ends : Result (Unit {0}) MarkupError → Bool → Result (Unit {0}) MarkupError → Result (Unit {0}) MarkupError
ends (Ok done) false answer = answer
ends other v answer = other

module _ {S : Type 0} (took : S → List Part → S → Type 0) (enough : S → Bool) where
  pub shown_so : (p : Telling) (cut : Bool) (first : ℕ) (m : Marks) (part : Option Part) (result : Result (Unit {0}) MarkupError) (before to : S) → cut ≡ cuts_text p.read → first ≡ p.at - length p.read.begun → End-so (last_part cut first p.marks) part
      → m ≡ marks p.marks.begin (goes_on_as cut first p.marks.text) → Puts took before (listed part) result to → ToldSo took enough before (Ok (last_parts p, shown p)) result to (telling p.read m p.at)
  shown_so p cut first m part result before to c f ends e puts =
      let after : telling p.read m p.at ≡ shown p = ap (λ x. telling p.read x p.at) (e ∙ ap (λ b. marks p.marks.begin (goes_on_as b first p.marks.text)) c ∙ ap (λ n. marks p.marks.begin (goes_on_as (cuts_text p.read) n p.marks.text)) f) in
      let parts = ends-listed (last_part cut first p.marks) part ends ∙ ap (λ b. last_part b first p.marks) c ∙ ap (λ n. last_part (cuts_text p.read) n p.marks) f in
      given-so took enough (Ok (last_parts p, shown p)) before to (last_parts p) (telling p.read m p.at) (shown p) result refl after (subst (λ xs. Puts took before xs result to) parts puts)

  pub feed_taken : (old : Option Telling) (p now : Telling) (piece : List ℕ) (result : Result (Unit {0}) MarkupError) (before to : S) → Some p ≡ old → ToldSo took enough before (told_piece p piece) result to now
      → (came : List ℕ) (runs : List Part) → StandsFor old came runs → TakesPiece took enough came runs piece result before to (kept result (enough to) now)
  feed_taken old p now piece result before to same h came runs stands = by (told p piece) (told begin_telling (came ++ piece)) result (enough to) refl refl c.3.0 c.3.1 (parts_of (came ++ piece), parts-are-given (came ++ piece), subst (λ xs. InRuns (came ++ piece) xs (runs ++ parts-at (told p piece))) (parts-told (came ++ piece)) c.3.1) h where
    c : (us : List Part) × (q : Telling) × (told begin_telling came ≡ Ok (us, q)) × Comes INPUT_LIMIT came piece runs (told p piece)
    c =
        let s : StandsFor (Some p) came runs = subst (λ x. StandsFor x came runs) (sym same) stands in
        let all = comes INPUT_LIMIT came piece runs s.0 s.1 s.2 s.4 (came-so INPUT_LIMIT came s.0 s.1 s.2).reached (settled INPUT_LIMIT came s.0 s.1 s.2) in
        (s.0, s.1, s.2, subst (λ x. Comes INPUT_LIMIT came piece runs (told x piece)) (sym (some-is s.3)) all)

    by : (t whole : Told) (result : Result (Unit {0}) MarkupError) (v : Bool) → enough to ≡ v → told begin_telling (came ++ piece) ≡ whole → Alike whole t → InRuns (came ++ piece) (parts-at whole) (runs ++ parts-at t) → AreGiven (came ++ piece) (runs ++ parts-at t)
        → ToldSo took enough before (told_on t (λ q. Ok (last_parts q, shown q))) result to now → TakesPiece took enough came runs piece result before to (kept result v now)
    by t whole (Err Mem) v d w a r g h = refl
    by (Err x) (Err y) (Err e) v d w a r g h = (x.0, h.0, g, h.1, subst (IsDecided came piece) (a ∙ sym h.2) (decided came c.0 c.1 c.2 piece y.0 y.1 w), refl)
    by (Err x) whole (Ok done) true d w a r g h = (x.0, h.0, g, subst (λ z. GoesOn z (came ++ piece) (runs ++ x.0) None) (sym d) refl)
    by (Err x) whole (Ok done) false d w a r g h = clash h.1 d
    by (Ok x) whole (Ok done) true d w a r g h = let ps : List Part = x.0 ++ last_parts x.1 in (ps, h.0, g, subst (λ z. GoesOn z (came ++ piece) (runs ++ ps) None) (sym d) refl)
    by (Ok x) (Ok y) (Ok done) false d w a r g h =
        let ps : List Part = x.0 ++ last_parts x.1 in
        (ps, h.0, g, subst (λ z. GoesOn z (came ++ piece) (runs ++ ps) (Some now)) (sym d) (clean (came ++ piece) y.0 y.1 w, (y.0, y.1, w, ap Some (h.1 d ∙ sym a), r)))
    by (Ok x) (Err y) result v d w a r g h = absurd a
    by (Err x) (Ok y) result v d w a r g h = absurd a
    by (Ok x) whole (Err e) v d w a r g h = absurd h

-- the contract of a call that gives all parts
module _ {S : Type 0} (took : S → Part → S → Type 0) (enough : S → Bool) where
  gives-to : (bytes : List ℕ) (result : Result (Unit {0}) MarkupError) (before to : S) → Takes took enough before (parts_of bytes) to → Answered (enough to) result (answer_of bytes) → TellsTo took enough bytes result before to
  gives-to bytes (Err Mem) before to h a = tt
  gives-to bytes other before to h a = (parts_of bytes, answer_of bytes, all-is-told bytes, (exact bytes).never, h, a)

  pub all_taken : (bytes : List ℕ) (result answer : Result (Unit {0}) MarkupError) (before to : S) (now : Telling) → ToldSo (Takes took enough) enough before (told_piece begin_telling bytes) result to now
      → answer ≡ ended_of (Ok (progressed now.read now.at)) → TellsTo took enough bytes (ends result (enough to) answer) before to
  all_taken bytes result answer before to now h e = by (told begin_telling bytes) refl result (enough to) refl h where
    all : (t : Told) → told begin_telling bytes ≡ t → Takes took enough before (parts-at t) to → Takes took enough before (parts_of bytes) to
    all t f = subst (λ ps. Takes took enough before ps to) (sym (ap parts-at f) ∙ parts-told bytes)

    so : (t : Told) → told begin_telling bytes ≡ t → answer-at t ≡ answer_of bytes
    so t f = sym (ap answer-at f) ∙ answer-told bytes

    by : (t : Told) → told begin_telling bytes ≡ t → (result : Result (Unit {0}) MarkupError) (v : Bool) → enough to ≡ v → ToldSo (Takes took enough) enough before (told_on t (λ q. Ok (last_parts q, shown q))) result to now
        → TellsTo took enough bytes (ends result v answer) before to
    by t f (Err Mem) v d h = tt
    by (Err found) f (Err e) v d h = gives-to bytes (Err e) before to (all (Err found) f h.0) (subst (λ x. Answered x (Err e) (answer_of bytes)) (sym h.1) (ap (λ x. Err x) h.2 ∙ so (Err found) f))
    by (Err found) f (Ok done) true d h = gives-to bytes (Ok tt) before to (all (Err found) f h.0) (subst (λ x. Answered x (Ok tt) (answer_of bytes)) (sym d) refl)
    by (Err found) f (Ok done) false d h = clash h.1 d
    by (Ok found) f (Ok done) true d h = gives-to bytes (Ok tt) before to (all (Ok found) f h.0) (subst (λ x. Answered x (Ok tt) (answer_of bytes)) (sym d) refl)
    by (Ok found) f (Ok done) false d h = gives-to bytes answer before to (all (Ok found) f h.0) (subst (λ x. Answered x answer (answer_of bytes)) (sym d) (e ∙ ap (λ p. answer-at (Ok ([], p))) (h.1 d) ∙ so (Ok found) f))
    by (Ok found) f (Err x) v d h = absurd h

pub finish_ends : (p : Telling) (result : Result (Unit {0}) MarkupError) → result ≡ ended_of (Ok (progressed p.read p.at)) → (came : List ℕ) (runs : List Part) → StandsFor (Some p) came runs → TakesEnd came runs result
finish_ends p result f came runs (us, q, e, same, r) =
    let g : result ≡ cond {A = Result (Unit {0}) MarkupError} (may_end q.read) (Ok tt) (Err (Bad q.at)) = f ∙ ap (λ x. ended_of (Ok (progressed x.read x.at))) (some-is same) in
    cases (may_end q.read) (λ d.
    let is : result ≡ Ok tt = rw d at g in
    let v = subst (Verdict came) (sym (answer-told came) ∙ ap answer-at e ∙ sym g ∙ is) (verdict came) in
    let all : us ++ last_parts q ≡ parts_of came = sym (ap parts-at e) ∙ parts-told came in
    rw is (v.0, v.1, (parts_of came, parts-are-told came v.0 v.1, parts-say came v.0 v.1, subst (λ xs. InRuns came xs runs) all r)))
    (λ d. let is : result ≡ Err (Bad q.at) = rw d at g in rw is (subst (EndsShort came) (sym (so came us q e).at) (ends-short came q.read (so came us q e).reached d), (us ++ last_parts q, given came us q e, r)))

pub new_stands : StandsFor (Some begin_telling) [] []
new_stands = ([], begin_telling, refl, refl, No-runs)

-- laws of what the bytes alone are answered
pub documents-are-read : DocumentsAreRead
documents-are-read bytes = record {
  whole = λ element doc. ((exact bytes).whole element doc, parts-say bytes element doc);
  document = λ e. subst (Verdict bytes) e (verdict bytes);
  refused = (exact bytes).refused;
  refusal = λ r e. subst (Verdict bytes) e (verdict bytes);
}

-- what is built of the parts of a document
pub parts-are-built : PartsAreBuilt
parts-are-built bytes element doc =
    let d = document-told bytes element doc in
    ap (built nothing_yet) (sym (append-nil (parts_in bytes))) ∙ d.1.makes nothing_yet [] ∙ ap built_as d.2

-- the parts that a place speaks of are those of the bytes
of-bytes : (bytes : List ℕ) (find : List Part → Option ℕ) (at : ℕ) → IsPlace bytes find at → find (parts_in bytes) ≡ Some at
of-bytes bytes find at is = sym (ap find (parts-are-one bytes is.parts (parts_in bytes) is.given (parts-are-given bytes))) ∙ is.place

pub places-are-of-elements : PlacesAreOfElements
places-are-of-elements bytes element doc =
    let told = document-told bytes element doc in
    let d = told.0 in
    let means : meaning d.root [] ≡ Some element = told.1.means ∙ ap Some told.2 in
    let is = tree-is d.root (length d.prolog) [] d.element (parts_in bytes) d.is_element in
    record {
      of_root = λ at place. record {
        root = d.root;
        prolog = d.prolog;
        stands = stands-there bytes d.prolog d.element d.epilog d.root at d.spelled is (some-is (sym (of-bytes bytes root_start at place) ∙ told.1.root));
        is_prolog = d.is_prolog;
        is_epilog = d.is_epilog;
        means = means;
      };
      of_child = λ number at place.
          child-in bytes d.prolog d.element d.epilog d.root (parts_in bytes) number at element d.is_element d.is_prolog d.spelled means (of-bytes bytes (λ parts. slice_get (child_starts 0 parts) number) at place);
    }

-- the state of a builder with places, its places, and the place of the root
place-behind : (o : Option ℕ) (places : List ℕ) → and_place o places ≡ and_place o [] ++ places
place-behind None places = refl
place-behind (Some at) places = refl

frames-behind : (s : State) (part : Part) → length (with_part s part).frames ≡ open_behind (length s.frames) part
frames-behind s (Start at end name attrs) = omega arith
frames-behind s (Run at non_blank text) = refl
frames-behind s (End at) = by s.frames where
  by : (frames : List Frame) → length (with_part (state frames s.nodes s.text) (End at)).frames ≡ length frames - 1
  by [] = refl
  by (f ∷ outer) = omega arith

noted-so : (part : Part) (p : Placing) → ((note_part part p).children ≡ p.children ++ and_place (child_at (length p.state.frames) part) []) × ((at : ℕ) → p.at ≡ Some at → (note_part part p).at ≡ Some at)
noted-so (Start place end name attrs) p = by p.state.frames where
  by : (frames : List Frame) → ((noted_in frames place p).children ≡ p.children ++ and_place (cond (length frames == 1) (Some place) None) []) × ((at : ℕ) → p.at ≡ Some at → (noted_in frames place p).at ≡ Some at)
  by [] = (sym (append-nil p.children), λ at e. rw e refl)
  by (root ∷ []) = (refl, λ at e. e)
  by (f ∷ g ∷ outer) = (rw (no-child (length (f ∷ g ∷ outer)) place [] (omega arith)) (sym (append-nil p.children)), λ at e. e)
noted-so other p = (sym (append-nil p.children), λ at e. e)

placed-is : (parts : List Part) (p : Placing) → ((placed_by p parts).state ≡ built p.state parts) × ((placed_by p parts).children ≡ p.children ++ child_starts (length p.state.frames) parts) × ((at : ℕ) → p.at ≡ Some at → (placed_by p parts).at ≡ Some at)
placed-is [] p = (refl, sym (append-nil p.children), λ at e. e)
placed-is (part ∷ more) p =
    let r = placed-is more (and_part p part) in
    let n = noted-so part p in
    let here = child_at (length p.state.frames) part in
    let rest = child_starts (open_behind (length p.state.frames) part) more in
    (r.0, r.1 ∙ rw (n.0, frames-behind p.state part, append_assoc p.children (and_place here []) rest, ← (place-behind here rest)) refl, λ at e. r.2 at (n.1 at e))

root-placed : (parts : List Part) (at : ℕ) → root_start parts ≡ Some at → (placed_by no_place parts).at ≡ Some at
root-placed (Start place end name attrs ∷ more) at e = (placed-is more (and_part no_place (Start place end name attrs))).2 at e
root-placed other at e = absurd (cc)

placed-append : (one other : List Part) (p : Placing) → placed_by p (one ++ other) ≡ placed_by (placed_by p one) other
placed-append [] other p = refl
placed-append (part ∷ one) other p = placed-append one other (and_part p part)

-- a literal text in several runs is placed as in one
runs-placed : (bytes : List ℕ) (parts runs : List Part) → InRuns bytes parts runs → (p : Placing) → placed_by p runs ≡ placed_by p parts
runs-placed bytes parts runs r p = ap (placed_by p) (sym (append-nil runs)) ∙ runs-same (placed_by p) twice bytes parts runs r [] ∙ ap (placed_by p) (append-nil parts) where
  twice : (ps more : List Part) (at : ℕ) (first second : Option ℕ) (text rest : List ℕ) → placed_by p (ps ++ Run at first text ∷ Run at second rest ∷ more) ≡ placed_by p (ps ++ Run at (or_then first second) (text ++ rest) ∷ more)
  twice ps more at first second text rest = let q = placed_by p ps in rw (placed-append ps (Run at first text ∷ Run at second rest ∷ more) p, placed-append ps (Run at (or_then first second) (text ++ rest) ∷ more) p, append_assoc q.state.text text rest) refl

-- the places of a document
document-placed : (bytes : List ℕ) (element : Meaning) → Doc bytes element → (placed : Placed) × (placed_as (placed_by no_place (parts_in bytes)) ≡ Some placed) × (placed.element ≡ element) × ArePlaces bytes placed
document-placed bytes element doc =
    let parts = parts_in bytes in
    let d = document-told bytes element doc in
    let p = placed_by no_place parts in
    let is = placed-is parts no_place in
    let placed : Placed = record { element = element; at = length d.0.prolog; children = p.children } in (
      placed,
      ap (λ (s : State). placed_as (with_state s p)) (is.0 ∙ parts-are-built bytes element doc) ∙ ap (λ o. with_places (Some element) o p.children) (root-placed parts placed.at d.1.root),
      refl,
      record {
        root = record { parts = parts; are = d.0; given = parts-are-given bytes; place = d.1.root };
        many = ap length is.1 ∙ d.1.many ∙ ap (λ m. length (elements_in (nodes_in m))) d.2;
        each = λ number at e. record { parts = parts; are = d.0; given = parts-are-given bytes; place = ap (λ xs. slice_get xs number) (sym is.1) ∙ e };
      },
    )

-- what a builder with places takes
takes-placed : (before now : PlacedBuilder) (parts : List Part) → Takes places (λ b. false) before parts now → placing_of now ≡ placed_by (placing_of before) parts
takes-placed = takes-all places placing_of placed_by (λ p. refl) (λ a b part more e. ap (λ p. placed_by p more) e)

-- an answer that is so decides the bytes
pub decides-read : (bytes : List ℕ) (element : Meaning) → Doc bytes element → Decides bytes (Ok element)
decides-read bytes element doc = (doc, λ other d. one-element bytes other element d doc)

decides-refused : (bytes : List ℕ) (e : MarkupError) → IsRefused bytes e → Decides bytes (Err e)
decides-refused bytes Mem is = tt
decides-refused bytes other is = let a = one-answer bytes other is (λ e. cc) in (is, a.1, a.0)

-- a found value is so
abbrev pub IsFound : {X : Type 0} → (X → Type 0) → Option X → Type 0
IsFound P None = ⊥
IsFound P (Some x) = P x

-- the parts were given one by one to what never has enough
module _ {S : Type 0} (took : S → Part → S → Type 0) (bytes : List ℕ) (before now : S) where
  pub told-refused : (e : MarkupError) → TellsTo took (λ s. false) bytes (Err e) before now → Decides bytes (Err e)
  told-refused Mem t = tt
  told-refused other (parts, answer, tells, some, takes, same) = decides-refused bytes other (subst (λ a. Tells bytes a [] parts) (sym same) tells).3

  pub told-read : TellsTo took (λ s. false) bytes (Ok tt) before now → Takes took (λ s. false) before (parts_in bytes) now × (element : Meaning) × Doc bytes element
  told-read (parts, answer, tells, some, takes, same) =
      let t = subst (λ a. Tells bytes a [] parts) (sym same) tells in
      (subst (λ ps. Takes took (λ s. false) before ps now) (t.1 ∙ parts-are-one bytes t.0 (parts_in bytes) t.2 (parts-are-given bytes)) takes, t.3, t.4)

pub document_read : (bytes : List ℕ) (before now : Builder) → TellsTo builds (λ b. false) bytes (Ok tt) before now → state_of before ≡ nothing_yet → IsFound (λ element. Decides bytes (Ok element)) (first_element now.nodes)
document_read bytes before now t fresh =
    let r = told-read builds bytes before now t in
    let state = takes-all builds state_of built (λ s. refl) (λ a b part more e. ap (λ s. built s more) e) before now (parts_in bytes) r.0 ∙ ap (λ s. built s (parts_in bytes)) fresh ∙ parts-are-built bytes r.1 r.2 in
    subst (IsFound (λ element. Decides bytes (Ok element))) (sym (ap (λ (s : State). first_element s.nodes) state)) (decides-read bytes r.1 r.2)

-- what is placed of the parts of a document
placed-so : (bytes : List ℕ) (element : Meaning) (now : Placing) → Doc bytes element → now ≡ placed_by no_place (parts_in bytes) → IsFound (λ placed. DecidesPlaced bytes (Ok placed)) (placed_as now)
placed-so bytes element now doc e =
    let p = document-placed bytes element doc in
    subst (IsFound (λ placed. DecidesPlaced bytes (Ok placed))) (sym (ap placed_as e ∙ p.1)) (subst (λ m. Decides bytes (Ok m)) (sym p.2) (decides-read bytes element doc), p.3)

pub placed_read : (bytes : List ℕ) (before now : PlacedBuilder) → TellsTo places (λ b. false) bytes (Ok tt) before now → placing_of before ≡ no_place → IsFound (λ placed. DecidesPlaced bytes (Ok placed)) (placed_as (placing_of now))
placed_read bytes before now t fresh =
    let r = told-read places bytes before now t in
    placed-so bytes r.1 (placing_of now) r.2 (takes-placed before now (parts_in bytes) r.0 ∙ ap (λ p. placed_by p (parts_in bytes)) fresh)

-- the parts as a list, behind others
takes-listed : (before now parts : List Part) → Takes (λ a part b. b ≡ a ++ part ∷ []) (λ a. false) before parts now → now ≡ before ++ parts
takes-listed = takes-all (λ a part b. b ≡ a ++ part ∷ []) (λ xs. xs) (λ xs ys. xs ++ ys) append-nil (λ a b part more e. ap (λ xs. xs ++ more) e ∙ append_assoc a (part ∷ []) more)

pub listed_told : (bytes : List ℕ) (result : Result (Unit {0}) MarkupError) (found before now new : List Part) → new ≡ [] → TellsTo (λ a part b. b ≡ a ++ part ∷ []) (λ a. false) bytes result new found → ran_out result ≡ false → now ≡ before ++ found → Tells bytes result before now
listed_told bytes (Err Mem) found before now new none t some e = absurd (cc)
listed_told bytes (Err other) found before now new none (parts, answer, tells, n, takes, same) some e =
    let t = subst (λ a. Tells bytes a [] parts) (sym same) tells in
    (t.0, e ∙ ap (λ xs. before ++ xs) (takes-listed new found parts takes ∙ ap (λ xs. xs ++ parts) none ∙ t.1), t.2, t.3)
listed_told bytes (Ok done) found before now new none (parts, answer, tells, n, takes, same) some e =
    let t = subst (λ a. Tells bytes a [] parts) (sym same) tells in
    (t.0, e ∙ ap (λ xs. before ++ xs) (takes-listed new found parts takes ∙ ap (λ xs. xs ++ parts) none ∙ t.1), t.2, t.3, t.4, t.5, t.6)

pub on_ok : {E P : Type 0} (result : Result (Unit {0}) E) → false ≡ is_err result → OnOk result P → P
on_ok (Ok done) e p = p
on_ok (Err x) e p = absurd (cc)

-- a document that comes in pieces, to a reader that is seen so
module _ (now : Came) (parts : Option Telling) (builder : PlacedBuilder) (view : came parts (placing_of builder) ≡ now) where
  seen : (bytes : List ℕ) → IsRead bytes now → IsRead bytes (came parts (placing_of builder))
  seen bytes read = subst (IsRead bytes) (sym view) read

  pub fed_so : (more : Option Telling) (to : PlacedBuilder) (piece : List ℕ) (result : Result (Unit {0}) MarkupError)
      → ((bytes : List ℕ) (given : List Part) → StandsFor parts bytes given → TakesPiece (Takes places (λ b. false)) (λ b. false) bytes given piece result builder to more) → Fed now piece result (came more (placing_of to))
  fed_so more to piece (Ok done) takes bytes read =
      let now = seen bytes read in
      let t = takes bytes now.given now.stands in (
        t.3.0,
        record {
          given = now.given ++ t.0;
          stands = t.3.1;
          clean = t.3.0;
          says = takes-placed builder to t.0 t.1 ∙ ap (λ p. placed_by p t.0) now.says ∙ sym (placed-append now.given t.0 no_place);
        },
      )
  fed_so more to piece (Err Mem) takes bytes read = takes bytes (seen bytes read).given (seen bytes read).stands
  fed_so more to piece (Err other) takes bytes read = let t = takes bytes (seen bytes read).given (seen bytes read).stands in (t.4, t.5)

  pub end_refused : (e : MarkupError) → ((bytes : List ℕ) (given : List Part) → StandsFor parts bytes given → TakesEnd bytes given (Err e)) → FinishedPlaced now (Err e)
  end_refused (Bad at) takes bytes read =
      let now = seen bytes read in
      let t = takes bytes now.given now.stands in
      (decides-refused bytes (Bad at) (inl (inr t.0), record { none_before = λ earlier h. now.clean.none earlier (subst (λ n. earlier < n) t.0.end h); short = inr now.clean.short }), t.0)
  end_refused other takes bytes read = absurd (takes bytes (seen bytes read).given (seen bytes read).stands)

  pub end_read : ((bytes : List ℕ) (given : List Part) → StandsFor parts bytes given → TakesEnd bytes given (Ok tt)) → (bytes : List ℕ) → IsRead bytes now
      → IsFound (λ placed. DecidesPlaced bytes (Ok placed)) (placed_as (placing_of builder))
  end_read takes bytes read =
      let now = seen bytes read in
      let t = takes bytes now.given now.stands in
      let s = now.stands in
      placed-so bytes t.0 (placing_of builder) t.1
      (now.says ∙ runs-placed bytes (parts_in bytes) now.given (subst (λ ps. InRuns bytes ps now.given) (sym (ap parts-at s.2) ∙ parts-told bytes) s.4) no_place)

pub element_refused : (now : Came) (e : MarkupError) → FinishedPlaced now (Err e) → Finished now (Err e)
element_refused now (Bad at) ends bytes read = ends bytes read
element_refused now other ends bytes read = absurd (ends bytes read)

-- however bytes are cut
decides-end : (bytes : List ℕ) (result : Result Meaning MarkupError) → EndsSo Decides bytes result → Decides bytes result
decides-end bytes (Ok element) d = d
decides-end bytes (Err (Bad at)) d = d.0
decides-end bytes (Err other) d = absurd d

cut-decides : (pieces : List (List ℕ)) (bytes : List ℕ) (now : Came) (result : Result Meaning MarkupError) → IsRead bytes now → Gives Fed Finished now pieces result → Decides (bytes ++ together pieces) result
cut-decides [] bytes now result read ends = subst (λ b. Decides b result) (sym (append-nil bytes)) (decides-end bytes result (ends bytes read))
cut-decides (piece ∷ more) bytes now result read (Ok done, next, fed, goes) = subst (λ b. Decides b result) (append_assoc bytes piece (together more)) (cut-decides more (bytes ++ piece) next result (fed bytes read).1 goes)
cut-decides (piece ∷ more) bytes now result read (Err Mem, next, fed, goes) = rw goes tt
cut-decides (piece ∷ more) bytes now result read (Err other, next, fed, goes) = rw goes (subst (λ b. Decides b (Err other)) (append_assoc bytes piece (together more)) (decides-refused ((bytes ++ piece) ++ together more) other ((fed bytes read).0.stands (together more))))

pub every-cutting : EveryCutting
every-cutting new pieces result read gives = cut-decides pieces [] new result read gives
