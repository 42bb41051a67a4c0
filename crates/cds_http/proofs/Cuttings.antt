-- However bytes are cut, the answer is that of all of them.
use Rattle.std.proofs.Common.{◌≡◌, ℕ, ◌-◌, ◌≤◌, ◌⊎◌, true, false, List, [], ◌∷◌, ◌++◌, length, take, drop, Option, Some, Result, Ok, Err, refl, sym, ap, ◌∙◌, subst, inl, inr, arith, append_assoc}
use Rattle.std.proofs.lemmas.List.{append-nil, take-append-drop}
use Rattle.cds_http.specs.declared.error.HttpError.{HttpError}
use Rattle.cds_http.specs.declared.error.HttpError.TheVariants.{BadHead, HeadTooLong, BadLength, BadChunk, TooLong, Truncated, Failed, Mem}
use Rattle.cds_http.specs.declared.message.Side.{Side}
use Rattle.cds_http.specs.declared.message.Message.{Message}
use Rattle.cds_http.specs.declared.message.Fed.{Fed}
use Rattle.cds_http.specs.declared.message.Fed.TheVariants.{More, Whole as WholeFed}
use Rattle.cds_http.specs.Known.{Whole, Needs, Refused}
use Rattle.cds_http.specs.Decided.{Decides}
use Rattle.cds_http.specs.Steps.{Explains}
use Rattle.cds_http.specs.Reading.{IsWhole, Answers, at_end}
use Rattle.cds_http.specs.Laws.{Gives, GoesOn, together, left_of, IsAnswer, EveryCutting, CuttingsAgree}
use Rattle.cds_http.proofs.Once.{one_outcome}
use Rattle.cds_http.proofs.Sayings.{end_needs}

-- a refusal is for want of memory, or by its cause
caused : (e : HttpError) (C : Type 0) → Explains e C → (e ≡ Mem) ⊎ C
caused Mem C h = inl refl
caused Failed C h = absurd h
caused Truncated C h = absurd h
caused BadHead C h = inr h
caused HeadTooLong C h = inr h
caused BadLength C h = inr h
caused BadChunk C h = inr h
caused TooLong C h = inr h

-- behind a whole message nothing changes, and all is handed back
whole_stays : (side : Side) (front : List ℕ) (m : Message) (pieces : List (List ℕ)) (behind : List ℕ) (result : Result Message HttpError) → IsWhole side front m
    → Gives side (Some front) pieces behind result → (result ≡ Ok m) × (behind ≡ together pieces)
whole_stays side front m [] behind result whole gives =
    let here = subst (λ (t : List ℕ). Decides true side t (Whole m [])) (append-nil front) (whole true []) in
    (gives.0.2 ∙ ap at_end (one_outcome true side front gives.0.0 (Whole m []) gives.0.1 here), gives.1)
whole_stays side front m (piece ∷ more) behind result whole gives =
    let stays = gives.2.1 m whole in
    let onwards = subst (λ (step : Result Fed HttpError). GoesOn piece step behind result (λ later. Gives side gives.1 more later result)) stays.0 gives.3 in
    let there = whole_stays side front m more onwards.0 result whole (subst (λ (n : Option (List ℕ)). Gives side n more onwards.0 result) stays.1 onwards.2) in (
      there.0,
      onwards.1 ∙ ap (λ (k : ℕ). drop k piece ++ onwards.0) (none_left (length piece)) ∙ ap (λ (t : List ℕ). piece ++ t) there.1,
    )
  where
    none_left : (n : ℕ) → n - n ≡ 0
    none_left n = omega arith

cuttings : (side : Side) (bytes : List ℕ) (pieces : List (List ℕ)) (behind : List ℕ) (result : Result Message HttpError) → Decides false side bytes Needs
    → Gives side (Some bytes) pieces behind result → IsAnswer side (bytes ++ together pieces) behind result
cuttings side bytes [] behind result waits gives =
    let known = gives.0.0 in
    inr (
      known,
      subst (λ (t : List ℕ). Decides true side t known) (sym (append-nil bytes)) gives.0.1,
      gives.0.2,
      gives.1 ∙ sym (end_needs side bytes known waits gives.0.1),
    )
cuttings side bytes (piece ∷ more) behind result waits gives = by (λ bytes behind. cuttings side bytes more behind result) gives.0 gives.1 gives.2.0 gives.3
  where
    used_all : (n used : ℕ) → used ≤ length piece → n ≡ length piece - used → length piece - n ≡ used
    used_all n used within is = omega (arith, within, is)

    by : ((bytes behind : List ℕ) → Decides false side bytes Needs → Gives side (Some bytes) more behind result → IsAnswer side (bytes ++ together more) behind result)
        → (step : Result Fed HttpError) (now : Option (List ℕ)) → Answers side bytes piece step now → GoesOn piece step behind result (λ later. Gives side now more later result)
        → IsAnswer side (bytes ++ (piece ++ together more)) behind result
    by later (Ok More) now takes onwards =
        subst (λ (t : List ℕ). IsAnswer side t behind result) (append_assoc bytes piece (together more))
        (later (bytes ++ piece) behind takes.0 (subst (λ (n : Option (List ℕ)). Gives side n more behind result) takes.1 onwards))
    by later (Ok (WholeFed n)) now takes onwards =
        let used = takes.0 in
        let front = bytes ++ take used piece in
        let m = takes.4.0 in
        let rest = drop used piece ++ together more in
        let all : front ++ rest ≡ bytes ++ (piece ++ together more) =
        append_assoc bytes (take used piece) rest
        ∙ ap (λ (t : List ℕ). bytes ++ t)
        (sym (append_assoc (take used piece) (drop used piece) (together more)) ∙ ap (λ (t : List ℕ). t ++ together more) (take-append-drop used piece)) in
        let there = whole_stays side front m more onwards.0 result takes.4.1 (subst (λ (n : Option (List ℕ)). Gives side n more onwards.0 result) takes.3 onwards.2) in
        inr (
          Whole m rest,
          subst (λ (t : List ℕ). Decides true side t (Whole m rest)) all (takes.4.1 true rest),
          there.0,
          onwards.1 ∙ ap (λ (k : ℕ). drop k piece ++ onwards.0) (used_all n used takes.1 takes.2) ∙ ap (λ (t : List ℕ). drop used piece ++ t) there.1,
        )
    by later (Err e) now takes onwards = elim (caused e _ takes.1) [
      | inl memory ↦ inl (onwards.0 ∙ ap (λ (e : HttpError). Err e) memory)
      | inr cause ↦
          inr (
            Refused e,
            subst (λ (t : List ℕ). Decides true side t (Refused e)) (append_assoc bytes piece (together more)) (cause true (together more)),
            onwards.0,
            onwards.1,
          )
    ]

pub every_cutting : EveryCutting
every_cutting side pieces behind result gives = cuttings side [] pieces behind result (Needs, refl, refl) gives

answers_agree : (side : Side) (bytes behind other_behind : List ℕ) (result other_result : Result Message HttpError)
    → IsAnswer side bytes behind result → IsAnswer side bytes other_behind other_result
    → (result ≡ Err Mem) ⊎ (other_result ≡ Err Mem) ⊎ ((result ≡ other_result) × (behind ≡ other_behind))
answers_agree side bytes behind other_behind result other_result (inl memory) second = inl memory
answers_agree side bytes behind other_behind result other_result (inr first) (inl memory) = inr (inl memory)
answers_agree side bytes behind other_behind result other_result (inr first) (inr second) =
    let same = one_outcome true side bytes first.0 second.0 first.1 second.1 in
    inr (inr (first.2 ∙ ap at_end same ∙ sym second.2, first.3 ∙ ap left_of same ∙ sym second.3))

pub cuttings_agree : CuttingsAgree
cuttings_agree side pieces others behind other_behind result other_result same first second =
    answers_agree side (together others) behind other_behind result other_result
    (subst (λ (t : List ℕ). IsAnswer side t behind result) same (every_cutting side pieces behind result first))
    (every_cutting side others other_behind other_result second)
