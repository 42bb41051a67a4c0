-- A body taken step by step.
use Rattle.std.proofs.Common.{◌≡◌, ℕ, ◌+◌, ◌≤◌, List, ◌++◌, length, take, drop, Result, Ok, Err, sym, ap, ◌∙◌, subst, arith, append_assoc}
use Rattle.std.proofs.Common.{length-drop}
use Rattle.std.proofs.lemmas.List.{take-take, drop-take, take-append-drop}
use Rattle.cds_http.specs.declared.error.HttpError.{HttpError}
use Rattle.cds_http.specs.declared.body.Body.{Body}
use Rattle.cds_http.specs.declared.body.Part.{Part}
use Rattle.cds_http.specs.declared.body.Progress.{Progress}
use Rattle.cds_http.specs.declared.body.Progress.TheVariants.{More, Whole as WholeBody}
use Rattle.cds_http.specs.Known.{Whole, Refused}
use Rattle.cds_http.specs.Steps.{StillKnown, Follows, Fits, Goes}
use Rattle.cds_http.proofs.Chunking.{explains_more}

-- so far a body was taken up to a place of the piece
pub record Reached (first : Body) (piece : List ℕ) (here : Body) (at : ℕ) : Type 0 where
  pub fits : Fits here
  pub follows : Follows first (take at piece) here

pub reached_none : (first : Body) (piece : List ℕ) → Fits first → Reached first piece first 0
reached_none first piece fits = record { fits = fits; follows = λ ended more known say. say }

take_further : (piece more : List ℕ) (at used : ℕ) → take at piece ++ (take used (drop at piece) ++ more) ≡ take (at + used) piece ++ more
take_further piece more at used =
    let both = take (at + used) piece in
    sym (append_assoc (take at piece) (take used (drop at piece)) more)
    ∙ ap (λ (t : List ℕ). (t ++ take used (drop at piece)) ++ more) (sym (take-take at (at + used) piece (omega arith)))
    ∙ ap (λ (t : List ℕ). (take at both ++ t) ++ more) (sym (drop-take at used piece))
    ∙ ap (λ (t : List ℕ). t ++ more) (take-append-drop at both)

-- one more step
pub reached_more : (first here after : Body) (piece : List ℕ) (at used : ℕ) → Reached first piece here at
    → Goes here (drop at piece) (Ok (More after used)) → Reached first piece after (at + used)
reached_more first here after piece at used so_far goes = record {
  fits = goes.1;
  follows = λ ended more known say.
      subst (λ (t : List ℕ). StillKnown ended first t known) (take_further piece more at used)
      (so_far.follows ended (take used (drop at piece) ++ more) known (goes.3 ended more known say));
}

-- the step that ends the piece
pub goes_all : (first here after : Body) (piece : List ℕ) (at used : ℕ) → at ≤ length piece → Reached first piece here at
    → Goes here (drop at piece) (Ok (More after used)) → Goes first piece (Ok (More after (at + used)))
goes_all first here after piece at used within so_far goes =
    let next = reached_more first here after piece at used so_far goes in
    (omega (arith, length-drop at piece, goes.0), next.fits, goes.2, next.follows)

-- the step that ends the body
pub goes_whole : (first here : Body) (body piece : List ℕ) (at used : ℕ) → at ≤ length piece → Reached first piece here at
    → Goes here (drop at piece) (Ok (WholeBody body used)) → Goes first piece (Ok (WholeBody body (at + used)))
goes_whole first here body piece at used within so_far goes = (
  omega (arith, length-drop at piece, goes.0),
  λ ended more. subst (λ (t : List ℕ). StillKnown ended first t (Whole body more)) (take_further piece more at used)
      (so_far.follows ended (take used (drop at piece) ++ more) (Whole body more) (goes.1 ended more)),
)

-- the step that refuses
pub goes_refused : (first here : Body) (piece : List ℕ) (at : ℕ) (e : HttpError) → Reached first piece here at
    → Goes here (drop at piece) (Err e) → Goes first piece (Err e)
goes_refused first here piece at e so_far goes =
    explains_more e _ _
    (λ stands ended more. subst (λ (t : List ℕ). StillKnown ended first t (Refused e))
    (sym (append_assoc (take at piece) (drop at piece) more) ∙ ap (λ (t : List ℕ). t ++ more) (take-append-drop at piece))
    (so_far.follows ended (drop at piece ++ more) (Refused e) (stands ended more)))
    goes

-- a body by what comes next of it
pub at_part : (body : Body) (part : Part) (piece : List ℕ) (r : Result Progress HttpError) → body.part ≡ part
    → (Fits (record { bytes = body.bytes; part = part }) → Goes (record { bytes = body.bytes; part = part }) piece r)
    → Fits body → Goes body piece r
at_part body part piece r is goes =
    subst (λ (p : Part). Fits (record { bytes = body.bytes; part = p }) → Goes (record { bytes = body.bytes; part = p }) piece r) (sym is) goes
