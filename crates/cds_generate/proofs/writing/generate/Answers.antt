-- The opening, the steps and the closing are the script.
use Rattle.std.proofs.Common.{◌≡◌, ◌++◌, ℕ, List, Ok, Err, refl, ap, sym, subst, ◌∙◌, arith}
use Rattle.std.proofs.lemmas.Result.{err_from_is_err_and}
use Rattle.cds_generate.specs.Generated.{opening, closing_text, steps_text, script_of, generated}
use Rattle.cds_generate.specs.History.{HistoryState, first_history, after_steps, CanGoOn}
use Rattle.cds_generate.specs.Writing.{Took}
use Rattle.cds_generate.proofs.Pieces.{took_then, took_stops}
use Rattle.cds_generate.proofs.Tracks.{goes_on}
use Rattle.cds_generate.proofs.writing.generate.Goals as goal

whole : (seed count : ℕ) (history later : HistoryState) → history ≡ first_history seed count → later ≡ after_steps 40 history →
    opening ++ steps_text 40 history ++ closing_text later ≡ generated seed count
unfolding generated script_of
whole seed count history later is after = λ i. opening ++ steps_text 40 (is i) ++ closing_text ((after ∙ ap (after_steps 40) is) i)

pub play_steps-requires-clause-goes_on : goal.play_steps-requires-clause-goes_on
play_steps-requires-clause-goes_on g c = λ k low.
    subst (λ (h : HistoryState). CanGoOn (after_steps k h)) (sym c.in_ok-history.ensures) (goes_on k c.args.seed c.args.tracks c.requires.some c.requires.few (omega (arith, low)))

pub write_closing-requires : goal.write_closing-requires
write_closing-requires g c =
    let is : c.play_steps.new.history ≡ after_steps 40 (first_history c.args.seed c.args.tracks) = c.in_ok-play_steps.ensures.after ∙ ap (after_steps 40) c.in_ok-history.ensures in
    let can : CanGoOn c.play_steps.new.history = subst CanGoOn (sym is) (goes_on 40 c.args.seed c.args.tracks c.requires.some c.requires.few (omega arith)) in
    can.few

pub returns-in_err-write_piece-clause-part : goal.returns-in_err-write_piece-clause-part
returns-in_err-write_piece-clause-part g c =
    let error = err_from_is_err_and c.from_residual-in_err-write_piece.result c.from_residual-in_err-write_piece.ensures.1 in
    let took : Took (Err c.in_err-write_piece.field-0.0) (g.K.Sink.told c.args.sink.now) (generated c.args.seed c.args.tracks) (g.K.Sink.told c.write_piece.new.sink) =
    subst (λ (t : List ℕ). Took (Err c.in_err-write_piece.field-0.0) (g.K.Sink.told c.args.sink.now) t (g.K.Sink.told c.write_piece.new.sink))
    (whole c.args.seed c.args.tracks c.in_ok-history.history (after_steps 40 c.in_ok-history.history) c.in_ok-history.ensures refl)
    (took_stops c.in_err-write_piece.field-0.0 (g.K.Sink.told c.args.sink.now) (g.K.Sink.told c.write_piece.new.sink) (opening ++ steps_text 40 c.in_ok-history.history) (closing_text (after_steps 40 c.in_ok-history.history))
    (took_stops c.in_err-write_piece.field-0.0 (g.K.Sink.told c.args.sink.now) (g.K.Sink.told c.write_piece.new.sink) opening (steps_text 40 c.in_ok-history.history) (subst (λ (t : List ℕ). Took (Err c.in_err-write_piece.field-0.0) (g.K.Sink.told c.args.sink.now) t (g.K.Sink.told c.write_piece.new.sink)) c.as_bytes.ensures.value c.in_err-write_piece.ensures))) in
    rw error.1 took.part

pub returns-in_err-play_steps-clause-part : goal.returns-in_err-play_steps-clause-part
returns-in_err-play_steps-clause-part g c =
    let error = err_from_is_err_and c.from_residual-in_err-play_steps.result c.from_residual-in_err-play_steps.ensures.1 in
    let took : Took (Err c.in_err-play_steps.field-0.0) (g.K.Sink.told c.args.sink.now) (generated c.args.seed c.args.tracks) (g.K.Sink.told c.play_steps.new.sink) =
    subst (λ (t : List ℕ). Took (Err c.in_err-play_steps.field-0.0) (g.K.Sink.told c.args.sink.now) t (g.K.Sink.told c.play_steps.new.sink))
    (whole c.args.seed c.args.tracks c.in_ok-history.history (after_steps 40 c.in_ok-history.history) c.in_ok-history.ensures refl)
    (took_stops c.in_err-play_steps.field-0.0 (g.K.Sink.told c.args.sink.now) (g.K.Sink.told c.play_steps.new.sink) (opening ++ steps_text 40 c.in_ok-history.history) (closing_text (after_steps 40 c.in_ok-history.history))
    (took_then (Err c.in_err-play_steps.field-0.0) (g.K.Sink.told c.args.sink.now) (g.K.Sink.told c.write_piece.new.sink) (g.K.Sink.told c.play_steps.new.sink) opening (steps_text 40 c.in_ok-history.history) (subst (λ (t : List ℕ). Took (Ok tt) (g.K.Sink.told c.args.sink.now) t (g.K.Sink.told c.write_piece.new.sink)) c.as_bytes.ensures.value c.in_ok-write_piece.ensures) c.in_err-play_steps.ensures.took)) in
    rw error.1 took.part

pub returns-clause-content : goal.returns-clause-content
returns-clause-content g c =
    let took : Took c.write_closing.result (g.K.Sink.told c.args.sink.now) (generated c.args.seed c.args.tracks) (g.K.Sink.told c.write_closing.new.sink) = (subst (λ (t : List ℕ). Took c.write_closing.result (g.K.Sink.told c.args.sink.now) t (g.K.Sink.told c.write_closing.new.sink))
    (whole c.args.seed c.args.tracks c.in_ok-history.history c.play_steps.new.history c.in_ok-history.ensures c.in_ok-play_steps.ensures.after)
    (took_then c.write_closing.result (g.K.Sink.told c.args.sink.now) (g.K.Sink.told c.play_steps.new.sink) (g.K.Sink.told c.write_closing.new.sink) (opening ++ steps_text 40 c.in_ok-history.history) (closing_text c.play_steps.new.history)
    (took_then (Ok tt) (g.K.Sink.told c.args.sink.now) (g.K.Sink.told c.write_piece.new.sink) (g.K.Sink.told c.play_steps.new.sink) opening (steps_text 40 c.in_ok-history.history) (subst (λ (t : List ℕ). Took (Ok tt) (g.K.Sink.told c.args.sink.now) t (g.K.Sink.told c.write_piece.new.sink)) c.as_bytes.ensures.value c.in_ok-write_piece.ensures) c.in_ok-play_steps.ensures.took) c.write_closing.ensures)) in
    took.whole

pub returns-clause-part : goal.returns-clause-part
returns-clause-part g c =
    let took : Took c.write_closing.result (g.K.Sink.told c.args.sink.now) (generated c.args.seed c.args.tracks) (g.K.Sink.told c.write_closing.new.sink) = (subst (λ (t : List ℕ). Took c.write_closing.result (g.K.Sink.told c.args.sink.now) t (g.K.Sink.told c.write_closing.new.sink))
    (whole c.args.seed c.args.tracks c.in_ok-history.history c.play_steps.new.history c.in_ok-history.ensures c.in_ok-play_steps.ensures.after)
    (took_then c.write_closing.result (g.K.Sink.told c.args.sink.now) (g.K.Sink.told c.play_steps.new.sink) (g.K.Sink.told c.write_closing.new.sink) (opening ++ steps_text 40 c.in_ok-history.history) (closing_text c.play_steps.new.history)
    (took_then (Ok tt) (g.K.Sink.told c.args.sink.now) (g.K.Sink.told c.write_piece.new.sink) (g.K.Sink.told c.play_steps.new.sink) opening (steps_text 40 c.in_ok-history.history) (subst (λ (t : List ℕ). Took (Ok tt) (g.K.Sink.told c.args.sink.now) t (g.K.Sink.told c.write_piece.new.sink)) c.as_bytes.ensures.value c.in_ok-write_piece.ensures) c.in_ok-play_steps.ensures.took) c.write_closing.ensures)) in
    took.part
