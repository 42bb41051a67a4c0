-- The reply at the front of bytes.
use Rattle.std.proofs.Common.{◌≡◌, ◌≢◌, ◌⊎◌, inl, inr, ℕ, ◌+◌, ◌-◌, ◌≤◌, true, Option, Some, None, Result, Ok, Err, IfOk, List, [], ◌∷◌, ◌++◌, length, drop, refl, sym, ap, subst, ◌∙◌, append_assoc, arith}
use Rattle.std.proofs.Math.Seq.{drop-append_seam}
use Rattle.std.proofs.lemmas.List.{append-nil, length-append}
use Rattle.cds_base.specs.declared.mem.Mem.{Mem as NoMemory}
use Rattle.cds_http.specs.declared.error.HttpError.{HttpError}
use Rattle.cds_http.specs.declared.error.HttpError.TheVariants.{Mem}
use Rattle.cds_http.specs.declared.message.Side.TheVariants.{Reply}
use Rattle.cds_http.specs.declared.message.Message.{Message}
use Rattle.cds_http.specs.declared.message.Fed.{Fed}
use Rattle.cds_http.specs.declared.message.Fed.TheVariants.{More, Whole as WholeFed}
use Rattle.cds_http.specs.Known.{Known, Whole, Needs, Refused}
use Rattle.cds_http.specs.Decided.{Decides}
use Rattle.cds_http.specs.Reading.{Takes, Finishes, at_end}
use Rattle.cds_http.specs.Spelled.{Spelled, IsMessage}
use Rattle.cds_http.specs.Laws.{IsAnswer}
use Rattle.cds_http.proofs.Cuttings.{every_cutting}
use Rattle.cds_http.proofs.Once.{one_outcome}
use Rattle.cds_http.proofs.SpelledForms.{whole_is_spelled}
use Rattle.cds_http.proofs.Backwards.{spelled_is_whole}
use Rattle.cds_soap.specs.Found.{IsReplyIn}

abbrev pub Answer : List ℕ → Result Message HttpError → Type 0
Answer bytes result = (behind : List ℕ) × IsAnswer Reply bytes behind result

-- the bytes came as one piece, and then the end
as-one : (bytes : List ℕ) (result : Result Message HttpError) → Answer (bytes ++ []) result → Answer bytes result
as-one bytes result is = subst (λ b. Answer b result) (append-nil bytes) is

pub fed-ends : (bytes : List ℕ) (fed : Fed) (step : Result Fed HttpError) (now : Option (List ℕ)) (result : Result Message HttpError)
    → step ≡ Ok fed → Takes Reply (Some []) bytes step now → Finishes Reply now result → Answer bytes result
fed-ends bytes More step now result is takes ends =
    as-one bytes result ([], every_cutting Reply (bytes ∷ []) [] result (Ok More, now, subst (λ s. Takes Reply (Some []) bytes s now) is takes, (ends, refl)))
fed-ends bytes (WholeFed n) step now result is takes ends =
    as-one bytes result (
      drop (length bytes - n) bytes ++ [],
      every_cutting Reply (bytes ∷ []) (drop (length bytes - n) bytes ++ []) result
          (Ok (WholeFed n), now, subst (λ s. Takes Reply (Some []) bytes s now) is takes, ([], refl, (ends, refl))),
    )

pub refused-ends : (bytes : List ℕ) (e : HttpError) (step : Result Fed HttpError) (now : Option (List ℕ)) → step ≡ Err e → Takes Reply (Some []) bytes step now → Answer bytes (Err e)
refused-ends bytes e step now is takes =
    as-one bytes (Err e) ([], every_cutting Reply (bytes ∷ []) [] (Err e) (Err e, now, subst (λ s. Takes Reply (Some []) bytes s now) is takes, (refl, refl)))

-- ---- what is answered is the reply that is there

of-whole : (bytes : List ℕ) (m : Message) (rest : List ℕ) → Decides true Reply bytes (Whole m rest) → IsReplyIn bytes (Some m)
of-whole bytes m rest decides =
    let s = whole_is_spelled true Reply bytes m rest decides in
    let front = s.front ++ s.text in
    let all : bytes ≡ front ++ rest = s.bytes_are ∙ sym (append_assoc s.front s.text rest) in
    let left : drop (length front) bytes ≡ rest = ap (drop (length front)) all ∙ drop-append_seam front rest in
    let long : length bytes ≡ length front + length rest = ap length all ∙ length-append front rest in
    (length front, (omega (arith, long), subst (λ r. Spelled true Reply bytes m r) (sym left) s))

ok-same : (a b : Message) → ◌≡◌ {A = Result Message HttpError} (Ok a) (Ok b) → a ≡ b
ok-same a b e = cc

not-both : (a : Message) (r : HttpError) → ◌≡◌ {A = Result Message HttpError} (Ok a) (Err r) → ⊥
not-both a r e = cc

err-same : (a b : HttpError) → ◌≡◌ {A = Result Message HttpError} (Err a) (Err b) → a ≡ b
err-same a b e = cc

found-at : (bytes : List ℕ) (m : Message) (known : Known Message) → Decides true Reply bytes known → Ok m ≡ at_end known → IsReplyIn bytes (Some m)
found-at bytes m (Whole other rest) decides e = subst (λ x. IsReplyIn bytes (Some x)) (sym (ok-same m other e)) (of-whole bytes other rest decides)
found-at bytes m Needs decides e = absurd (not-both m _ e)
found-at bytes m (Refused r) decides e = absurd (not-both m r e)

pub reply-found : (bytes : List ℕ) (m : Message) → Answer bytes (Ok m) → IsReplyIn bytes (Some m)
reply-found bytes m (behind, inl e) = absurd (not-both m Mem e)
reply-found bytes m (behind, inr is) = found-at bytes m is.0 is.1 is.2

-- a message that is there is the answer
whole-of : (bytes : List ℕ) (m : Message) (n : ℕ) → IsMessage Reply bytes m n → Decides true Reply bytes (Whole m (drop n bytes))
whole-of bytes m n is = spelled_is_whole true Reply bytes m (drop n bytes) is.1

none-at : (bytes : List ℕ) (r : HttpError) (known : Known Message) → Decides true Reply bytes known → Err r ≡ at_end known → IsReplyIn bytes None
none-at bytes r known decides e = λ m n is.
    let same = one_outcome true Reply bytes known (Whole m (drop n bytes)) decides (whole-of bytes m n is) in
    not-both m r (sym (e ∙ ap at_end same))

pub reply-none : (bytes : List ℕ) (r : HttpError) → r ≢ Mem → Answer bytes (Err r) → IsReplyIn bytes None
reply-none bytes r not_mem (behind, inl e) = absurd (not_mem (err-same r Mem e))
reply-none bytes r not_mem (behind, inr is) = none-at bytes r is.0 is.1 is.2

whole-same : (a b : Message) (x y : List ℕ) → ◌≡◌ {A = Known Message} (Whole a x) (Whole b y) → a ≡ b
whole-same a b x y e = cc

pub one-reply : (bytes : List ℕ) (one other : Message) (n k : ℕ) → IsMessage Reply bytes one n → IsMessage Reply bytes other k → one ≡ other
one-reply bytes one other n k a b =
    whole-same one other (drop n bytes) (drop k bytes)
    (one_outcome true Reply bytes (Whole one (drop n bytes)) (Whole other (drop k bytes)) (whole-of bytes one n a) (whole-of bytes other k b))

pub reply-not-there : (bytes : List ℕ) (refusal : HttpError) (r : Result (Option Message) NoMemory) → IfOk r (λ found. (found ≡ None) × (refusal ≢ Mem)) → Answer bytes (Err refusal) → IfOk r (λ found. IsReplyIn bytes found)
reply-not-there bytes refusal (Ok found) is answer = subst (λ f. IsReplyIn bytes f) (sym is.0) (reply-none bytes refusal is.1 answer)
reply-not-there bytes refusal (Err e) is answer = tt
