-- Comments read one after another.
use Rattle.std.proofs.Common.{◌≡◌, ℕ, suc, ◌+◌, ◌-◌, List, [], ◌∷◌, ◌++◌, length, Some, None, Ok, Err, refl, sym, ap, ◌∙◌, append_assoc}
use Rattle.std.proofs.lemmas.List.{append-nil}
use Rattle.cds_flac.specs.declared.error.FlacError.{FlacError}
use Rattle.cds_flac.specs.declared.error.FlacError.TheVariants.{BadComment}
use Rattle.cds_object.specs.declared.info.Comment.{Comment}
use Rattle.cds_flac.specs.Step.{Step, after, taken}
use Rattle.cds_flac.specs.Agree.{Judged}
use Rattle.cds_flac.specs.Comment.{comment_of}
use Rattle.cds_flac.specs.Reading.{comments_from, text_at, in_form}
use Rattle.cds_flac.proofs.Steps.{after-ok, judged-after}

-- a step's comments behind those that were read before
abbrev pub with_front : List Comment → Step (List Comment) → Step (List Comment)
with_front front step = after step (λ others rest. Ok (front ++ others, rest))

pub with_front-none : (step : Step (List Comment)) → with_front [] step ≡ step
with_front-none (Ok found) = refl
with_front-none (Err refusal) = refl

one_more : (front : List Comment) (comment : Comment) (step : Step (List Comment)) → with_front front (after step (λ others rest. Ok (comment ∷ others, rest))) ≡ with_front (front ++ comment ∷ []) step
one_more front comment (Ok found) = ap (λ comments. Ok (comments, found.1)) (sym (append_assoc front (comment ∷ []) found.0))
one_more front comment (Err refusal) = refl

module _ (front : List Comment) (at end m : ℕ) (left : List ℕ) where
  behind_text : List ℕ → List ℕ → Step (List Comment)
  behind_text text rest = in_form at (comment_of text) (λ comment. after (comments_from m (at + 4 + length text) end rest) (λ others rest. Ok (comment ∷ others, rest)))

  pub front-stops : (refusal : FlacError) → Judged (text_at at end left) refusal → Judged (with_front front (comments_from (suc m) at end left)) refusal
  unfolding behind_text
  front-stops refusal h =
      judged-after (comments_from (suc m) at end left) (λ others rest. Ok (front ++ others, rest)) refusal
      (judged-after (text_at at end left) behind_text refusal h)

  at_text : (text rest : List ℕ) → text_at at end left ≡ Ok (text, rest) → with_front front (comments_from (suc m) at end left) ≡ with_front front (behind_text text rest)
  unfolding behind_text
  at_text text rest e = ap (with_front front) (after-ok behind_text e)

  pub front-refused : (text rest : List ℕ) → text_at at end left ≡ Ok (text, rest) → comment_of text ≡ None → with_front front (comments_from (suc m) at end left) ≡ Err (BadComment at)
  unfolding behind_text
  front-refused text rest e none =
      at_text text rest e
      ∙ ap (λ found. with_front front (in_form at found (λ comment. after (comments_from m (at + 4 + length text) end rest) (λ others rest. Ok (comment ∷ others, rest))))) none

  pub front-more : (text rest : List ℕ) (comment : Comment) → text_at at end left ≡ Ok (text, rest) → comment_of text ≡ Some comment → with_front front (comments_from (suc m) at end left) ≡ with_front (front ++ comment ∷ []) (comments_from m (at + 4 + length text) end rest)
  unfolding behind_text
  front-more text rest comment e found =
      at_text text rest e
      ∙ ap (λ found. with_front front (in_form at found (λ comment. after (comments_from m (at + 4 + length text) end rest) (λ others rest. Ok (comment ∷ others, rest))))) found
      ∙ one_more front comment (comments_from m (at + 4 + length text) end rest)

module _ (front : List Comment) (at end : ℕ) (left : List ℕ) where
  over : Step (List Comment)
  over = after (taken at (end - at) left) (λ over rest. Ok ([], rest))

  pub front-over_stops : (refusal : FlacError) → Judged (taken at (end - at) left) refusal → Judged (with_front front (comments_from 0 at end left)) refusal
  unfolding over
  front-over_stops refusal h =
      judged-after over (λ others rest. Ok (front ++ others, rest)) refusal (judged-after (taken at (end - at) left) (λ over rest. Ok ([], rest)) refusal h)

  pub front-whole : (gone rest : List ℕ) → taken at (end - at) left ≡ Ok (gone, rest) → with_front front (comments_from 0 at end left) ≡ Ok (front, rest)
  unfolding over
  front-whole gone rest e =
      let ended : over ≡ Ok ([], rest) = after-ok (λ over rest. Ok ([], rest)) e in
      ap (with_front front) ended ∙ ap (λ comments. Ok (comments, rest)) (append-nil front)
