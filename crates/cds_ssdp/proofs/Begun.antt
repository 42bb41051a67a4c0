-- The message with which a datagram begins is the one that is read.
use Rattle.std.proofs.Common.{◌≡◌, ◌≢◌, inl, inr, ℕ, ◌+◌, ◌-◌, true, Option, Some, None, Result, Ok, Err, IfOk, List, [], ◌∷◌, ◌++◌, length, drop, refl, sym, ap, subst, ◌∙◌, append_assoc, arith}
use Rattle.std.proofs.Math.Seq.{drop-append_seam}
use Rattle.std.proofs.lemmas.List.{append-nil, length-append}
use Rattle.cds_base.specs.declared.mem.Mem.{Mem as NoMemory}
use Rattle.cds_http.specs.declared.error.HttpError.{HttpError}
use Rattle.cds_http.specs.declared.error.HttpError.TheVariants.{Mem}
use Rattle.cds_http.specs.declared.message.Side.{Side}
use Rattle.cds_http.specs.declared.message.Message.{Message}
use Rattle.cds_http.specs.declared.message.Fed.{Fed}
use Rattle.cds_http.specs.declared.message.Fed.TheVariants.{More, Whole as WholeFed}
use Rattle.cds_http.specs.Known.{Known, Whole, Needs, Refused}
use Rattle.cds_http.specs.Decided.{Decides}
use Rattle.cds_http.specs.Reading.{Takes, Finishes, at_end}
use Rattle.cds_http.specs.Spelled.{Spelled, IsMessage}
use Rattle.cds_http.specs.Laws.{IsAnswer}
use Rattle.cds_http.proofs.Cuttings.{every_cutting}
use Rattle.cds_http.proofs.Once.{one_outcome}
use Rattle.cds_http.proofs.SpelledForms.{whole_is_spelled}
use Rattle.cds_http.proofs.Backwards.{spelled_is_whole}
use Rattle.cds_ssdp.specs.Messages.{IsMessageIn}

abbrev pub Answer : Side → List ℕ → Result Message HttpError → Type 0
Answer side bytes result = (behind : List ℕ) × IsAnswer side bytes behind result

-- the bytes came as one piece, and then the end
as-one : (side : Side) (bytes : List ℕ) (result : Result Message HttpError) → Answer side (bytes ++ []) result → Answer side bytes result
as-one side bytes result is = subst (λ b. Answer side b result) (append-nil bytes) is

pub fed-ends : (side : Side) (bytes : List ℕ) (fed : Fed) (step : Result Fed HttpError) (now : Option (List ℕ)) (result : Result Message HttpError)
    → step ≡ Ok fed → Takes side (Some []) bytes step now → Finishes side now result → Answer side bytes result
fed-ends side bytes More step now result is takes ends =
    as-one side bytes result ([], every_cutting side (bytes ∷ []) [] result (Ok More, now, subst (λ s. Takes side (Some []) bytes s now) is takes, (ends, refl)))
fed-ends side bytes (WholeFed n) step now result is takes ends =
    as-one side bytes result (
      drop (length bytes - n) bytes ++ [],
      every_cutting side (bytes ∷ []) (drop (length bytes - n) bytes ++ []) result
          (Ok (WholeFed n), now, subst (λ s. Takes side (Some []) bytes s now) is takes, ([], refl, (ends, refl))),
    )

pub refused-ends : (side : Side) (bytes : List ℕ) (e : HttpError) (step : Result Fed HttpError) (now : Option (List ℕ)) → step ≡ Err e
    → Takes side (Some []) bytes step now → Answer side bytes (Err e)
refused-ends side bytes e step now is takes =
    as-one side bytes (Err e) ([], every_cutting side (bytes ∷ []) [] (Err e) (Err e, now, subst (λ s. Takes side (Some []) bytes s now) is takes, (refl, refl)))

-- ---- what is answered is the message that is there

pub of-whole : (side : Side) (bytes : List ℕ) (m : Message) (rest : List ℕ) → Decides true side bytes (Whole m rest) → IsMessageIn side bytes (Some m)
of-whole side bytes m rest decides =
    let s = whole_is_spelled true side bytes m rest decides in
    let front = s.front ++ s.text in
    let all : bytes ≡ front ++ rest = s.bytes_are ∙ sym (append_assoc s.front s.text rest) in
    let left : drop (length front) bytes ≡ rest = ap (drop (length front)) all ∙ drop-append_seam front rest in
    let long : length bytes ≡ length front + length rest = ap length all ∙ length-append front rest in
    (length front, (omega (arith, long), subst (λ r. Spelled true side bytes m r) (sym left) s))

ok-same : (a b : Message) → ◌≡◌ {A = Result Message HttpError} (Ok a) (Ok b) → a ≡ b
ok-same a b e = cc

not-both : (a : Message) (r : HttpError) → ◌≡◌ {A = Result Message HttpError} (Ok a) (Err r) → ⊥
not-both a r e = cc

err-same : (a b : HttpError) → ◌≡◌ {A = Result Message HttpError} (Err a) (Err b) → a ≡ b
err-same a b e = cc

found-at : (side : Side) (bytes : List ℕ) (m : Message) (known : Known Message) → Decides true side bytes known → Ok m ≡ at_end known → IsMessageIn side bytes (Some m)
found-at side bytes m (Whole other rest) decides e = subst (λ x. IsMessageIn side bytes (Some x)) (sym (ok-same m other e)) (of-whole side bytes other rest decides)
found-at side bytes m Needs decides e = absurd (not-both m _ e)
found-at side bytes m (Refused r) decides e = absurd (not-both m r e)

pub message-found : (side : Side) (bytes : List ℕ) (m : Message) → Answer side bytes (Ok m) → IsMessageIn side bytes (Some m)
message-found side bytes m (behind, inl e) = absurd (not-both m Mem e)
message-found side bytes m (behind, inr is) = found-at side bytes m is.0 is.1 is.2

-- a message that is there is the answer
whole-of : (side : Side) (bytes : List ℕ) (m : Message) (n : ℕ) → IsMessage side bytes m n → Decides true side bytes (Whole m (drop n bytes))
whole-of side bytes m n is = spelled_is_whole true side bytes m (drop n bytes) is.1

none-at : (side : Side) (bytes : List ℕ) (r : HttpError) (known : Known Message) → Decides true side bytes known → Err r ≡ at_end known → IsMessageIn side bytes None
none-at side bytes r known decides e = λ m n is.
    let same = one_outcome true side bytes known (Whole m (drop n bytes)) decides (whole-of side bytes m n is) in
    not-both m r (sym (e ∙ ap at_end same))

message-none : (side : Side) (bytes : List ℕ) (r : HttpError) → r ≢ Mem → Answer side bytes (Err r) → IsMessageIn side bytes None
message-none side bytes r not_mem (behind, inl e) = absurd (not_mem (err-same r Mem e))
message-none side bytes r not_mem (behind, inr is) = none-at side bytes r is.0 is.1 is.2

pub message-not-there : (side : Side) (bytes : List ℕ) (refusal : HttpError) (r : Result (Option Message) NoMemory) → IfOk r (λ found. (found ≡ None) × (refusal ≢ Mem))
    → Answer side bytes (Err refusal) → IfOk r (λ found. IsMessageIn side bytes found)
message-not-there side bytes refusal (Ok found) is answer = subst (λ f. IsMessageIn side bytes f) (sym is.0) (message-none side bytes refusal is.1 answer)
message-not-there side bytes refusal (Err e) is answer = tt

-- ---- a datagram begins with one message

whole-same : (a b : Message) (x y : List ℕ) → ◌≡◌ {A = Known Message} (Whole a x) (Whole b y) → a ≡ b
whole-same a b x y e = cc

pub one-message : (side : Side) (bytes : List ℕ) (one other : Message) (n k : ℕ) → IsMessage side bytes one n → IsMessage side bytes other k → one ≡ other
one-message side bytes one other n k a b =
    whole-same one other (drop n bytes) (drop k bytes)
    (one_outcome true side bytes (Whole one (drop n bytes)) (Whole other (drop k bytes)) (whole-of side bytes one n a) (whole-of side bytes other k b))
