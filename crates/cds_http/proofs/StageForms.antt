-- What a reader answers to a piece and to the end, and what it stands for then.
use Rattle.std.proofs.Common.{◌≡◌, ◌≢◌, ℕ, ◌+◌, ◌-◌, ◌≤◌, ◌⊎◌, Bool, true, false, List, [], ◌++◌, length, take, drop, Option, Some, None, Result, Ok, Err, IsOkAnd, if◌then◌else◌, refl, sym, ap, ◌∙◌, subst, inl, inr, arith, append_assoc}
use Rattle.std.proofs.Common.{length-drop}
use Rattle.std.proofs.lemmas.List.{append-nil, take-append-drop, take-take, drop-take}
use Rattle.cds_http.specs.declared.error.HttpError.{HttpError}
use Rattle.cds_http.specs.declared.error.HttpError.TheVariants.{BadHead, HeadTooLong, BadLength, TooLong, Truncated, Failed, Mem}
use Rattle.cds_http.specs.declared.message.Side.{Side}
use Rattle.cds_http.specs.declared.message.Message.{Message}
use Rattle.cds_http.specs.declared.message.Fed.{Fed}
use Rattle.cds_http.specs.declared.message.Fed.TheVariants.{More, Whole as WholeFed}
use Rattle.cds_http.specs.declared.lines.LinePlace.TheVariants.{Before}
use Rattle.cds_http.specs.declared.lines.Front.{Front}
use Rattle.cds_http.specs.declared.framing.Framing.{Framing}
use Rattle.cds_http.specs.declared.head.Head.{Head}
use Rattle.cds_http.specs.declared.body.Part.{Part}
use Rattle.cds_http.specs.declared.body.Part.TheVariants.{Counted, ToEnd, Line, Data, Close, Trailer}
use Rattle.cds_http.specs.declared.body.Body.{Body}
use Rattle.cds_http.specs.declared.body.Progress.TheVariants.{More as MoreBody, Whole as WholeBody}
use Rattle.cds_http.specs.declared.reader.Stage.{Stage}
use Rattle.cds_http.specs.declared.reader.Stage.TheVariants.{InHead, InBody, AtEnd, Refused as IsRefused}
use Rattle.cds_http.specs.declared.reader.Taken.{Taken}
use Rattle.cds_http.specs.declared.reader.MessageReader.{MessageReader}
use Rattle.cds_http.specs.Known.{Known, Whole, Needs, Refused, Then}
use Rattle.cds_http.specs.Lines.{cut_at, EndsThere, IsFront}
use Rattle.cds_http.specs.Head.{head_limit, HeadOf, HeadKnown, HeadRead, IsHead}
use Rattle.cds_http.specs.Framing.{framing_of, body_limit}
use Rattle.cds_http.specs.Chunks.{open_body, BodyKnown}
use Rattle.cds_http.specs.Decided.{Decides, with_head, with_body, FramedKnown}
use Rattle.cds_http.specs.Steps.{StillKnown, PartKnown, Fits, Goes, Explains}
use Rattle.cds_http.specs.Reading.{Continues, IsWhole, StageOf, Stands, Answers, StaysWhole, Takes, Finishes, StageTakes}
use Rattle.cds_http.proofs.Cuts.{cut_whole, cut_waits, le_true}
use Rattle.cds_http.proofs.Chunking.{explains_more}
use Rattle.cds_http.proofs.Once.{one_outcome}

pub head_whole : (side : Side) (text more : List ℕ) (head : Head) → IsHead side text head → EndsThere Before text → length text ≤ head_limit
    → HeadKnown side (text ++ more) (Whole head more)
head_whole side text more head is ends short =
    subst (λ (k : Known (List ℕ)). Then {A = List ℕ} {B = Head} k (HeadOf side) (Whole head more)) (sym (cut_whole Before HeadTooLong head_limit text more ends short)) (is, refl)

head_waits : (side : Side) (ended : Bool) (front : Front) → IsFront Before head_limit front → Decides ended side front.text Needs
head_waits side ended front fits = (
  Needs,
  subst (λ (k : Known (List ℕ)). Then {A = List ℕ} {B = Head} k (HeadOf side) Needs) (sym (cut_waits Before front.place HeadTooLong head_limit front.text fits.0 fits.1)) refl,
  refl,
)

-- a head that goes on
pub keeps_head : (side : Side) (came piece : List ℕ) (front : Front) → front.text ≡ came ++ piece → IsFront Before head_limit front
    → StageTakes side came piece (Ok (record { stage = InHead front; fed = More }))
keeps_head side came piece front is fits =
    (came ++ piece, (is, fits), (subst (λ (t : List ℕ). Decides false side t Needs) is (head_waits side false front fits), refl))

pub long_head : (side : Side) (came piece : List ℕ) (e : HttpError)
    → (e ≡ Mem) ⊎ ((e ≡ HeadTooLong) × ((more : List ℕ) → cut_at Before HeadTooLong head_limit ((came ++ piece) ++ more) ≡ Refused HeadTooLong))
    → StageTakes side came piece (Err e)
long_head side came piece e (inl memory) = subst (λ (e : HttpError). StageTakes side came piece (Err e)) (sym memory) tt
long_head side came piece e (inr long) =
    subst (λ (e : HttpError). StageTakes side came piece (Err e)) (sym long.0)
    (λ ended more. (
      Refused HeadTooLong,
      subst (λ (k : Known (List ℕ)). Then {A = List ℕ} {B = Head} k (HeadOf side) (Refused HeadTooLong)) (sym (long.1 more)) refl,
      refl,
    ))

-- a head that is none
pub no_head : (side : Side) (text rest : List ℕ) (e : HttpError) → HeadRead side text (Err e) → EndsThere Before text → length text ≤ head_limit
    → StageTakes side text rest (Err e)
no_head side text rest e (inl memory) ends short = subst (λ (e : HttpError). StageTakes side text rest (Err e)) (sym memory) tt
no_head side text rest e (inr bad) ends short =
    subst (λ (e : HttpError). StageTakes side text rest (Err e)) (sym bad.0)
    (λ ended more. (
      Refused BadHead,
      subst (λ (k : Known (List ℕ)). Then {A = List ℕ} {B = Head} k (HeadOf side) (Refused BadHead))
          (sym (ap (cut_at Before HeadTooLong head_limit) (append_assoc text rest more) ∙ cut_whole Before HeadTooLong head_limit text (rest ++ more) ends short))
          (refl, bad.1),
      refl,
    ))

-- a head whose fields give no rule for the body
pub no_framing : (side : Side) (text rest : List ℕ) (head : Head) (e : HttpError) → IsHead side text head → EndsThere Before text → length text ≤ head_limit
    → framing_of side head.fields ≡ Err e → (e ≡ BadLength) ⊎ (e ≡ TooLong) → StageTakes side text rest (Err e)
no_framing side text rest head e is ends short rule causes = by causes
  where
    stands : (ended : Bool) (more : List ℕ) → Decides ended side ((text ++ rest) ++ more) (Refused e)
    stands ended more =
        subst (λ (t : List ℕ). Decides ended side t (Refused e)) (sym (append_assoc text rest more)) (
          Whole head (rest ++ more),
          head_whole side text (rest ++ more) head is ends short,
          subst (λ (r : Result Framing HttpError). FramedKnown ended r head (rest ++ more) (Refused e)) (sym rule) refl,
        )

    by : (e ≡ BadLength) ⊎ (e ≡ TooLong) → StageTakes side text rest (Err e)
    by (inl length) = subst (λ (x : HttpError). Explains x ((ended : Bool) (more : List ℕ) → Decides ended side ((text ++ rest) ++ more) (Refused e))) (sym length) stands
    by (inr long) = subst (λ (x : HttpError). Explains x ((ended : Bool) (more : List ℕ) → Decides ended side ((text ++ rest) ++ more) (Refused e))) (sym long) stands

-- a head and nothing of its body
pub begins_body : (side : Side) (text : List ℕ) (head : Head) (framing : Framing) (body : Body) → IsHead side text head → EndsThere Before text → length text ≤ head_limit
    → framing_of side head.fields ≡ Ok framing
    → ((ended : Bool) (bytes : List ℕ) (known : Known (List ℕ)) → StillKnown ended body bytes known → BodyKnown ended framing bytes known)
    → Continues side text head body
begins_body side text head framing body is ends short rule known ended more said say = (
  Whole head more,
  head_whole side text more head is ends short,
  subst (λ (r : Result Framing HttpError). FramedKnown ended r head more (with_head head said)) (sym rule) (said, known ended more said say, refl),
)

-- a body that goes on
pub keeps_body : (side : Side) (bytes piece : List ℕ) (head : Head) (before after : Body) (used : ℕ) → Continues side bytes head before → used ≡ length piece
    → Goes before piece (Ok (MoreBody after used)) → take (length piece) piece ≡ piece
    → StageTakes side bytes piece (Ok (record { stage = InBody head after; fed = More }))
keeps_body side bytes piece head before after used so_far all goes full =
    let whole : take used piece ≡ piece = ap (λ (n : ℕ). take n piece) all ∙ full in
    let continues : Continues side (bytes ++ piece) head after =
    λ ended more known say. subst (λ (t : List ℕ). Decides ended side t (with_head head known))
    (ap (λ (p : List ℕ). bytes ++ (p ++ more)) whole ∙ sym (append_assoc bytes piece more))
    (so_far ended (take used piece ++ more) known (goes.3 ended more known say)) in (
      bytes ++ piece,
      (goes.1, goes.2, continues),
      (subst (λ (t : List ℕ). Decides false side t Needs) (append-nil (bytes ++ piece)) (continues false [] Needs goes.2), refl),
    )

-- the end of a body
pub ends_body : (side : Side) (bytes piece body : List ℕ) (head : Head) (before : Body) (used : ℕ) (m : Message) → m ≡ with_body head body
    → Continues side bytes head before → Goes before piece (Ok (WholeBody body used))
    → StageTakes side bytes piece (Ok (record { stage = AtEnd m; fed = WholeFed (length piece - used) }))
ends_body side bytes piece body head before used m is so_far goes =
    let whole : IsWhole side (bytes ++ take used piece) m =
    λ ended more. subst (λ (m : Message). Decides ended side ((bytes ++ take used piece) ++ more) (Whole m more)) (sym is)
    (subst (λ (t : List ℕ). Decides ended side t (Whole (with_body head body) more)) (sym (append_assoc bytes (take used piece) more))
    (so_far ended (take used piece ++ more) (Whole body more) (goes.1 ended more))) in
    (bytes ++ take used piece, whole, (used, goes.0, refl, refl, (m, whole)))

pub refuses_body : (side : Side) (bytes piece : List ℕ) (head : Head) (before : Body) (e : HttpError) → Continues side bytes head before
    → Goes before piece (Err e) → StageTakes side bytes piece (Err e)
refuses_body side bytes piece head before e so_far goes =
    explains_more e _ _
    (λ stands ended more. subst (λ (t : List ℕ). Decides ended side t (Refused e)) (sym (append_assoc bytes piece more))
    (so_far ended (piece ++ more) (Refused e) (stands ended more)))
    goes

-- behind the message nothing is taken
pub stays_whole : (side : Side) (bytes piece : List ℕ) (m : Message) → IsWhole side bytes m
    → StageTakes side bytes piece (Ok (record { stage = AtEnd m; fed = WholeFed (length piece) }))
stays_whole side bytes piece m whole = (
  bytes,
  whole,
  (
    0,
    omega arith,
    omega arith,
    ap (λ (t : List ℕ). Some t) (sym (append-nil bytes)),
    (m, subst (λ (t : List ℕ). IsWhole side t m) (sym (append-nil bytes)) whole),
  ),
)

-- what the reading of a head used, and what was used behind it
pub takes_front : (side : Side) (came piece text : List ℕ) (used : ℕ) (result : Result Taken HttpError) → used ≤ length piece → text ≡ came ++ take used piece
    → StageTakes side text (drop used piece) result → StageTakes side came piece result
takes_front side came piece text used (Ok t) within is takes = (takes.0, takes.1, by t.fed takes.2)
  where
    all : text ++ drop used piece ≡ came ++ piece
    all = ap (λ (t : List ℕ). t ++ drop used piece) is ∙ append_assoc came (take used piece) (drop used piece)
        ∙ ap (λ (t : List ℕ). came ++ t) (take-append-drop used piece)

    part : (more : ℕ) → text ++ take more (drop used piece) ≡ came ++ take (used + more) piece
    part more =
        let both = take (used + more) piece in
        ap (λ (t : List ℕ). t ++ take more (drop used piece)) is
        ∙ append_assoc came (take used piece) (take more (drop used piece))
        ∙ ap (λ (t : List ℕ). came ++ (t ++ take more (drop used piece))) (sym (take-take used (used + more) piece (omega arith)))
        ∙ ap (λ (t : List ℕ). came ++ (take used both ++ t)) (sym (drop-take used more piece))
        ∙ ap (λ (t : List ℕ). came ++ t) (take-append-drop used both)

    by : (fed : Fed) → Answers side text (drop used piece) (Ok fed) (Some takes.0) → Answers side came piece (Ok fed) (Some takes.0)
    by More answers = (subst (λ (t : List ℕ). Decides false side t Needs) all answers.0, answers.1 ∙ ap (λ (t : List ℕ). Some t) all)
    by (WholeFed rest) answers = (
      used + answers.0,
      omega (arith, length-drop used piece, answers.1),
      omega (arith, length-drop used piece, answers.2, answers.1),
      answers.3 ∙ ap (λ (t : List ℕ). Some t) (part answers.0),
      (answers.4.0, subst (λ (t : List ℕ). IsWhole side t answers.4.0) (part answers.0) answers.4.1),
    )
takes_front side came piece text used (Err e) within is takes =
    let all : text ++ drop used piece ≡ came ++ piece =
    ap (λ (t : List ℕ). t ++ drop used piece) is ∙ append_assoc came (take used piece) (drop used piece)
    ∙ ap (λ (t : List ℕ). came ++ t) (take-append-drop used piece) in
    explains_more e _ _ (λ stands ended more. subst (λ (t : List ℕ). Decides ended side (t ++ more) (Refused e)) all (stands ended more)) takes

-- a body that waits waits at the end too, if it is not one that ends there
part_waits : (body : List ℕ) (p : Part) → p ≢ ToEnd → PartKnown false body p [] Needs → PartKnown true body p [] Needs
part_waits body (Counted left) other waits = waits
part_waits body ToEnd other waits = absurd (other refl)
part_waits body (Line front) other waits = waits
part_waits body (Data left) other waits = waits
part_waits body Close other waits = waits
part_waits body (Trailer front) other waits = waits

-- the end of the connection in the middle of a body
pub truncated_body : (side : Side) (bytes : List ℕ) (head : Head) (body : Body) → body.part ≢ ToEnd → StageOf side (InBody head body) bytes
    → Finishes side (Some bytes) (Err Truncated)
truncated_body side bytes head body other stands = (
  Needs,
  subst (λ (t : List ℕ). Decides true side t Needs) (append-nil bytes) (stands.2 true [] Needs (part_waits body.bytes body.part other stands.1)),
  refl,
)

-- and of one that ends there
pub whole_body : (side : Side) (bytes : List ℕ) (head : Head) (body : Body) (m : Message) → body.part ≡ ToEnd → m ≡ with_body head body.bytes
    → StageOf side (InBody head body) bytes → Finishes side (Some bytes) (Ok m)
whole_body side bytes head body m is made stands =
    let short = subst (λ (p : Part). Fits (record { bytes = body.bytes; part = p })) is stands.0 in
    let open_is : open_body true (body.bytes ++ []) ≡ Whole body.bytes [] =
    ap (open_body true) (append-nil body.bytes)
    ∙ ap (λ (b : Bool). if b then Whole body.bytes [] else Refused TooLong) (le_true (length body.bytes) body_limit short) in
    let known : StillKnown true body [] (Whole body.bytes []) =
    subst (λ (p : Part). PartKnown true body.bytes p [] (Whole body.bytes [])) (sym is) (sym open_is) in (
      Whole (with_body head body.bytes) [],
      subst (λ (t : List ℕ). Decides true side t (Whole (with_body head body.bytes) [])) (append-nil bytes) (stands.2 true [] (Whole body.bytes []) known),
      ap (λ (m : Message). Ok m) made,
    )

-- the end of the connection in a head, and behind the message
pub truncated_head : (side : Side) (bytes : List ℕ) (front : Front) → StageOf side (InHead front) bytes → Finishes side (Some bytes) (Err Truncated)
truncated_head side bytes front stands =
    (Needs, subst (λ (t : List ℕ). Decides true side t Needs) stands.0 (head_waits side true front stands.1), refl)

pub finishes_whole : (side : Side) (bytes : List ℕ) (m : Message) → IsWhole side bytes m → Finishes side (Some bytes) (Ok m)
finishes_whole side bytes m whole = (Whole m [], subst (λ (t : List ℕ). Decides true side t (Whole m [])) (append-nil bytes) (whole true []), refl)

-- of bytes that wait no message is whole
waits_not_whole : (side : Side) (bytes : List ℕ) (m : Message) → Decides false side bytes Needs → IsWhole side bytes m → ⊥
waits_not_whole side bytes m waits whole =
    let here = subst (λ (t : List ℕ). Decides false side t (Whole m [])) (append-nil bytes) (whole false []) in
    let both = one_outcome false side bytes Needs (Whole m []) waits here in cc

-- so a stage that stands for a whole message is at its end
pub at_its_end : (side : Side) (stage : Stage) (bytes : List ℕ) (m : Message) → StageOf side stage bytes → IsWhole side bytes m → (other : Message) × (stage ≡ AtEnd other)
at_its_end side (InHead front) bytes m stands whole =
    absurd (waits_not_whole side bytes m (subst (λ (t : List ℕ). Decides false side t Needs) stands.0 (head_waits side false front stands.1)) whole)
at_its_end side (InBody head body) bytes m stands whole =
    absurd (waits_not_whole side bytes m (subst (λ (t : List ℕ). Decides false side t Needs) (append-nil bytes) (stands.2 false [] Needs stands.1)) whole)
at_its_end side (AtEnd other) bytes m stands whole = (other, refl)
at_its_end side IsRefused bytes m stands whole = absurd stands

-- behind as many bytes as the piece has, nothing of it is used
none_used : (bytes piece : List ℕ) (n used : ℕ) (now : Option (List ℕ)) → used ≤ length piece → n ≡ length piece - used → n ≡ length piece
    → now ≡ Some (bytes ++ take used piece) → now ≡ Some bytes
none_used bytes piece n used now within is all now_is =
    let none : used ≡ 0 = omega (arith, within, is, all) in
    now_is ∙ ap (λ (k : ℕ). Some (bytes ++ take k piece)) none ∙ ap (λ (t : List ℕ). Some t) (append-nil bytes)

stays_at_end : (side : Side) (bytes piece : List ℕ) (stage : Stage) (result : Result Taken HttpError) (t : Taken) (now : Option (List ℕ)) → StageOf side stage bytes
    → result ≡ Ok t → ((m : Message) → stage ≡ AtEnd m → IsOkAnd result (λ t. t.fed ≡ WholeFed (length piece)))
    → Answers side bytes piece (Ok t.fed) now → StaysWhole side bytes piece (Ok t.fed) now
stays_at_end side bytes piece stage result t now stands is ends answers m whole =
    let other = at_its_end side stage bytes m stands whole in
    let fed : t.fed ≡ WholeFed (length piece) =
    subst (λ (x : Result Taken HttpError). IsOkAnd x (λ t. t.fed ≡ WholeFed (length piece))) is (ends other.0 other.1) in
    (ap (λ (f : Fed). Ok f) fed, by t.fed answers fed)
  where
    by : (f : Fed) → Answers side bytes piece (Ok f) now → f ≡ WholeFed (length piece) → now ≡ Some bytes
    by More answers is = cc
    by (WholeFed n) answers is =
        let same : n ≡ length piece = cc in
        none_used bytes piece n answers.0 now answers.1 answers.2 same answers.3

-- a reader and the stage that it is at
pub reader_takes : (side : Side) (came : Option (List ℕ)) (r now : MessageReader) (piece : List ℕ) (result : Result Taken HttpError) (t : Taken)
    → now.side ≡ r.side → now.stage ≡ t.stage → result ≡ Ok t → Stands side r came
    → ((bytes : List ℕ) → StageOf r.side r.stage bytes → StageTakes r.side bytes piece result) → (r.stage ≡ IsRefused → result ≡ Err Failed)
    → ((m : Message) → r.stage ≡ AtEnd m → IsOkAnd result (λ t. t.fed ≡ WholeFed (length piece)))
    → (after : Option (List ℕ)) × Stands side now after × Takes side came piece (Ok t.fed) after
reader_takes side None r now piece result t same stage is stands takes refused ends =
    let no : ◌≡◌ {A = Result Taken HttpError} (Ok t) (Err Failed) = sym is ∙ refused stands in cc
reader_takes side (Some bytes) r now piece result t same stage is stands takes refused ends =
    let taken = subst (λ (x : Result Taken HttpError). StageTakes r.side bytes piece x) is (takes bytes (subst (λ (s : Side). StageOf s r.stage bytes) (sym stands.0) stands.1)) in
    let answers = subst (λ (s : Side). Answers s bytes piece (Ok t.fed) (Some taken.0)) stands.0 taken.2 in (
      Some taken.0,
      (same ∙ stands.0, subst (λ (s : Side). StageOf s now.stage taken.0) stands.0 (subst (λ (g : Stage). StageOf r.side g taken.0) (sym stage) taken.1)),
      (answers, stays_at_end side bytes piece r.stage result t (Some taken.0) stands.1 is ends answers),
    )

refused_not_whole : (side : Side) (bytes piece : List ℕ) (stage : Stage) (result : Result Taken HttpError) (e : HttpError) (answer : Result Fed HttpError) (now : Option (List ℕ))
    → StageOf side stage bytes → result ≡ Err e → ((m : Message) → stage ≡ AtEnd m → IsOkAnd result (λ t. t.fed ≡ WholeFed (length piece)))
    → StaysWhole side bytes piece answer now
refused_not_whole side bytes piece stage result e answer now stands is ends m whole =
    let other = at_its_end side stage bytes m stands whole in
    absurd (subst (λ (x : Result Taken HttpError). IsOkAnd x (λ t. t.fed ≡ WholeFed (length piece))) is (ends other.0 other.1))

pub reader_refuses : (side : Side) (came : Option (List ℕ)) (r now : MessageReader) (piece : List ℕ) (result : Result Taken HttpError) (e : HttpError)
    → now.stage ≡ IsRefused → result ≡ Err e → Stands side r came
    → ((bytes : List ℕ) → StageOf r.side r.stage bytes → StageTakes r.side bytes piece result) → (r.stage ≡ IsRefused → result ≡ Err Failed)
    → ((m : Message) → r.stage ≡ AtEnd m → IsOkAnd result (λ t. t.fed ≡ WholeFed (length piece)))
    → (after : Option (List ℕ)) × Stands side now after × Takes side came piece (Err e) after
reader_refuses side None r now piece result e stage is stands takes refused ends =
    let failed : ◌≡◌ {A = Result Taken HttpError} (Err e) (Err Failed) = sym is ∙ refused stands in
    let same : e ≡ Failed = cc in
    (None, stage, (ap (λ (e : HttpError). Err e) same, refl))
reader_refuses side (Some bytes) r now piece result e stage is stands takes refused ends =
    let taken = subst (λ (x : Result Taken HttpError). StageTakes r.side bytes piece x) is (takes bytes (subst (λ (s : Side). StageOf s r.stage bytes) (sym stands.0) stands.1)) in (
      None,
      stage,
      (
        (refl, subst (λ (s : Side). Explains e ((ended : Bool) (more : List ℕ) → Decides ended s ((bytes ++ piece) ++ more) (Refused e))) stands.0 taken),
        refused_not_whole side bytes piece r.stage result e (Err e) None stands.1 is ends,
      ),
    )

pub reader_ends : (side : Side) (came : Option (List ℕ)) (r : MessageReader) (result : Result Message HttpError) → Stands side r came
    → ((side : Side) (bytes : List ℕ) → StageOf side r.stage bytes → Finishes side (Some bytes) result) → (r.stage ≡ IsRefused → result ≡ Err Failed)
    → Finishes side came result
reader_ends side None r result stands ends failed = failed stands
reader_ends side (Some bytes) r result stands ends failed = ends side bytes stands.1
