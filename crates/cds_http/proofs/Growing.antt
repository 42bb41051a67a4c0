-- A piece that only makes longer what is kept.
use Rattle.std.proofs.Common.{◌≡◌, ℕ, Bool, true, false, List, ◌++◌, length, Option, Some, None, Result, Ok, Err, refl, sym, ap, ◌∙◌, subst, arith}
use Rattle.std.proofs.Common.{length-append}
use Rattle.cds_http.specs.declared.error.HttpError.{HttpError}
use Rattle.cds_http.specs.declared.message.Side.{Side}
use Rattle.cds_http.specs.declared.message.Message.{Message}
use Rattle.cds_http.specs.declared.message.Fed.TheVariants.{More}
use Rattle.cds_http.specs.declared.lines.LinePlace.TheVariants.{Before}
use Rattle.cds_http.specs.declared.lines.Front.{Front}
use Rattle.cds_http.specs.declared.head.Head.{Head}
use Rattle.cds_http.specs.declared.body.Part.{Part}
use Rattle.cds_http.specs.declared.body.Part.TheVariants.{Counted, Data}
use Rattle.cds_http.specs.declared.body.Body.{Body}
use Rattle.cds_http.specs.declared.body.Progress.TheVariants.{More as MoreBody}
use Rattle.cds_http.specs.declared.reader.Stage.{Stage}
use Rattle.cds_http.specs.declared.reader.Stage.TheVariants.{InHead, InBody, AtEnd, Refused as IsRefused}
use Rattle.cds_http.specs.declared.reader.MessageReader.{MessageReader}
use Rattle.cds_http.specs.Known.{Whole, Needs, Refused}
use Rattle.cds_http.specs.Lines.{scanned, IsFront, AddsFront}
use Rattle.cds_http.specs.Head.{head_limit}
use Rattle.cds_http.specs.Decided.{Decides}
use Rattle.cds_http.specs.Steps.{Goes, Adds, Lengthens, Explains}
use Rattle.cds_http.specs.Reading.{StageOf, StageGrows, Stands, Takes}
use Rattle.cds_http.proofs.Scans.{stays_open}
use Rattle.cds_http.proofs.Counting.{take_full, goes_counted_more, goes_data}
use Rattle.cds_http.proofs.Once.{one_outcome}
use Rattle.cds_http.proofs.StageForms.{keeps_head, keeps_body, at_its_end}

same_body : (before : Body) (after : List ℕ) (p q : Part) → before.part ≡ p → after ≡ before.bytes → q ≡ p → ◌≡◌ {A = Body} (record { bytes = after; part = q }) before
same_body before after p q is bytes parts =
    ap (λ (t : List ℕ). record { bytes = t; part = q }) bytes ∙ ap (λ (p : Part). record { bytes = before.bytes; part = p }) (parts ∙ sym is)

pub lengthens_counted : (before : Body) (left : ℕ) (piece : List ℕ) (result : Result Bool HttpError) (after : List ℕ) (rest : ℕ) → before.part ≡ Counted left
    → Adds before.bytes left piece result after rest → Lengthens before piece result (record { bytes = after; part = Counted rest })
lengthens_counted before left piece (Ok true) after rest is adds =
    subst (λ (p : Part). Goes (record { bytes = before.bytes; part = p }) piece (Ok (MoreBody (record { bytes = after; part = Counted rest }) (length piece)))) (sym is)
    (goes_counted_more before.bytes after piece left rest adds.0 adds.1 adds.2)
lengthens_counted before left piece (Ok false) after rest is adds =
    same_body before after (Counted left) (Counted rest) is adds.0 (ap (λ (n : ℕ). Counted n) adds.1)
lengthens_counted before left piece (Err e) after rest is adds = adds

pub lengthens_data : (before : Body) (left : ℕ) (piece : List ℕ) (result : Result Bool HttpError) (after : List ℕ) (rest : ℕ) → before.part ≡ Data left
    → Adds before.bytes left piece result after rest → Lengthens before piece result (record { bytes = after; part = Data rest })
lengthens_data before left piece (Ok true) after rest is adds =
    subst (λ (p : Part). Goes (record { bytes = before.bytes; part = p }) piece (Ok (MoreBody (record { bytes = after; part = Data rest }) (length piece)))) (sym is)
    (goes_data before.bytes after piece left rest (length piece) (omega arith) adds.1 (adds.2 ∙ ap (λ (t : List ℕ). before.bytes ++ t) (sym (take_full piece))))
lengthens_data before left piece (Ok false) after rest is adds =
    same_body before after (Data left) (Data rest) is adds.0 (ap (λ (n : ℕ). Data n) adds.1)
lengthens_data before left piece (Err e) after rest is adds = adds

some_is : (a b : List ℕ) → ◌≡◌ {A = Option (List ℕ)} (Some a) (Some b) → a ≡ b
some_is a b is = cc

pub grows_head : (side : Side) (bytes : List ℕ) (stage : Stage) (front after : Front) (piece : List ℕ) (result : Result Bool HttpError) → stage ≡ InHead front
    → AddsFront front head_limit piece result after → StageOf side stage bytes → StageGrows side bytes stage piece result (InHead after)
grows_head side bytes stage front after piece (Ok true) is adds stands =
    let there = subst (λ (s : Stage). StageOf side s bytes) is stands in
    let fits : IsFront Before head_limit after = (
      ap (scanned Before) adds.1 ∙ stays_open Before front.place after.place front.text piece there.1.0 adds.0,
      omega (arith, ap length adds.1, length-append front.text piece, adds.2),
    ) in
    let kept = keeps_head side bytes piece after (adds.1 ∙ ap (λ (t : List ℕ). t ++ piece) there.0) fits in
    (subst (StageOf side (InHead after)) (some_is kept.0 (bytes ++ piece) kept.2.1) kept.1, kept.2.0)
grows_head side bytes stage front after piece (Ok false) is adds stands = ap (λ (f : Front). InHead f) adds ∙ sym is
grows_head side bytes stage front after piece (Err e) is adds stands = adds

pub grows_body : (side : Side) (bytes : List ℕ) (stage : Stage) (head : Head) (body after : Body) (piece : List ℕ) (result : Result Bool HttpError) → stage ≡ InBody head body
    → Lengthens body piece result after → StageOf side stage bytes → StageGrows side bytes stage piece result (InBody head after)
grows_body side bytes stage head body after piece (Ok true) is goes stands =
    let there = subst (λ (s : Stage). StageOf side s bytes) is stands in
    let kept = keeps_body side bytes piece head body after (length piece) there.2 refl goes (take_full piece) in
    (subst (StageOf side (InBody head after)) (some_is kept.0 (bytes ++ piece) kept.2.1) kept.1, kept.2.0)
grows_body side bytes stage head body after piece (Ok false) is same stands = ap (λ (b : Body). InBody head b) same ∙ sym is
grows_body side bytes stage head body after piece (Err e) is memory stands = memory

-- the reader
pub feed_grows : (side : Side) (came : Option (List ℕ)) (r now : MessageReader) (piece : List ℕ) (result : Result Bool HttpError) → result ≡ Ok true → now.side ≡ r.side
    → Stands side r came
    → ((side : Side) (bytes : List ℕ) → StageOf side r.stage bytes → StageGrows side bytes r.stage piece result now.stage)
    → (r.stage ≡ IsRefused → (result ≡ Ok false) × (now.stage ≡ IsRefused))
    → (after : Option (List ℕ)) × Stands side now after × Takes side came piece (Ok More) after
feed_grows side None r now piece result is same stands grows refused =
    let none : ◌≡◌ {A = Result Bool HttpError} (Ok true) (Ok false) = sym is ∙ (refused stands).0 in cc
feed_grows side (Some bytes) r now piece result is same stands grows refused =
    let grown = subst (λ (x : Result Bool HttpError). StageGrows side bytes r.stage piece x now.stage) is (grows side bytes stands.1) in (
      Some (bytes ++ piece),
      (same ∙ stands.0, grown.0),
      (
        (grown.1, refl),
        λ m whole. never m (one_outcome false side (bytes ++ piece) Needs (Whole m piece) grown.1 (whole false piece)),
      ),
    )
  where
    never : {A : Type 0} (m : Message) → Needs ≡ Whole m piece → A
    never m is = cc

pub feed_same : (side : Side) (came : Option (List ℕ)) (r now : MessageReader) (piece : List ℕ) (result : Result Bool HttpError) → result ≡ Ok false → now.side ≡ r.side
    → Stands side r came
    → ((side : Side) (bytes : List ℕ) → StageOf side r.stage bytes → StageGrows side bytes r.stage piece result now.stage)
    → (r.stage ≡ IsRefused → (result ≡ Ok false) × (now.stage ≡ IsRefused)) → Stands side now came
feed_same side None r now piece result is same stands grows refused = (refused stands).1
feed_same side (Some bytes) r now piece result is same stands grows refused =
    let stays = subst (λ (x : Result Bool HttpError). StageGrows side bytes r.stage piece x now.stage) is (grows side bytes stands.1) in
    (same ∙ stands.0, subst (λ (g : Stage). StageOf side g bytes) (sym stays) stands.1)

pub feed_refuses : (side : Side) (came : Option (List ℕ)) (r now : MessageReader) (grown : Stage) (piece : List ℕ) (result : Result Bool HttpError) (e : HttpError) → result ≡ Err e
    → now.stage ≡ IsRefused → Stands side r came
    → ((side : Side) (bytes : List ℕ) → StageOf side r.stage bytes → StageGrows side bytes r.stage piece result grown)
    → ((m : Message) → r.stage ≡ AtEnd m → result ≡ Ok false)
    → (r.stage ≡ IsRefused → (result ≡ Ok false) × (grown ≡ IsRefused))
    → (after : Option (List ℕ)) × Stands side now after × Takes side came piece (Err e) after
feed_refuses side None r now grown piece result e is stage stands grows ends refused =
    let none : ◌≡◌ {A = Result Bool HttpError} (Err e) (Ok false) = sym is ∙ (refused stands).0 in cc
feed_refuses side (Some bytes) r now grown piece result e is stage stands grows ends refused =
    let memory = subst (λ (x : Result Bool HttpError). StageGrows side bytes r.stage piece x grown) is (grows side bytes stands.1) in (
      None,
      stage,
      (
        (refl, subst (λ (e : HttpError). Explains e ((ended : Bool) (more : List ℕ) → Decides ended side ((bytes ++ piece) ++ more) (Refused e))) (sym memory) tt),
        λ m whole.
            let other = at_its_end side r.stage bytes m stands.1 whole in
            never (sym is ∙ ends other.0 other.1),
      ),
    )
  where
    never : {A : Type 0} → ◌≡◌ {A = Result Bool HttpError} (Err e) (Ok false) → A
    never is = cc
