-- One connection is served by one of its courses.
use Rattle.std.proofs.Common.{inl, inr, ap, refl}
use Rattle.cds_outside.specs.Outside.{SourceTold}
use Rattle.cds_turn.specs.Turn.{own_by, seat_told, start_of}
use Rattle.cds_serve.proofs.Courses.{asked-given, broken, fetched, freed, of-reply, reads-on, same-seat, starved, turned-at, writes-from, writes-nothing}
use Rattle.cds_serve.proofs.connection.serve_one.Goals as goal

pub returns-in-Ok-clause-served : goal.returns-in-Ok-clause-served
returns-in-Ok-clause-served g c =
    let took = c.with-answered.ensures.found in
    let both =
    asked-given (start_of c.args.turn.now c.args.seat.now) took.0 _ c.in-Needing.message c.in-Ok.asking c.with-answered.result c.reply_of.result
    c.in-Ok.ensures took.3 c.reply_of.ensures in
    turned-at (start_of c.args.turn.now c.args.seat.now) _ _ _ _ _ _ took.0 c.in-Needing.message c.reply_of.result _ c.ask_moment-now.ensures.kept refl
    (λ bytes told known d. c.in-Needing.ensures.request bytes told known d) (reads-on _ _ _ _ _ (λ piece p. tt) (ap (λ (t : SourceTold). t.left) c.answer.ensures.source_stays) c.in-Needing.ensures.read)
    took.1 took.2 both.0 (of-reply _ _ _ took.0 took.4 both.1) (of-reply _ _ _ (own_by c.args.seat.now) took.5 both.1) c.with-answered.ensures.passes c.with-answered.ensures.turns refl
    c.ask_moment-now.ensures.moment
    (writes-from _ _ _ _ c.read_request.ensures.sink_stays c.answer.ensures.written)
    c.answer.ensures.given c.answer.ensures.starved c.answer.ensures.noted

pub returns-in-Err-clause-served : goal.returns-in-Err-clause-served
returns-in-Err-clause-served g c =
    starved _ _ _ _ _ _ _ refl refl refl refl refl (reads-on _ _ _ _ _ (λ piece p. tt) (ap (λ (t : SourceTold). t.left) c.starve.ensures.source_stays) c.in-Needing.ensures.read) c.starve.ensures.starved
    (writes-from _ _ _ _ c.read_request.ensures.sink_stays c.starve.ensures.written)

pub returns-in-Free-clause-served : goal.returns-in-Free-clause-served
returns-in-Free-clause-served g c =
    freed _ _ _ _ _ _ _ refl refl refl refl refl c.in-Free.answer (λ bytes told known d. c.in-Free.ensures.request bytes told known d)
    (reads-on _ _ _ _ _ (λ piece p. tt) (ap (λ (t : SourceTold). t.left) c.answer_free.ensures.source_stays) c.in-Free.ensures.read)
    (writes-from _ _ _ _ c.read_request.ensures.sink_stays c.answer_free.ensures.written)

pub returns-in-Broken-clause-served : goal.returns-in-Broken-clause-served
returns-in-Broken-clause-served g c =
    broken _ _ _ _ _ _ _ refl refl refl refl refl refl c.in-Broken.ensures.read c.in-Broken.ensures.rose (writes-nothing _ _ c.read_request.ensures.sink_stays)

pub returns-in-Starved-clause-served : goal.returns-in-Starved-clause-served
returns-in-Starved-clause-served g c =
    starved _ _ _ _ _ _ _ refl refl refl refl refl (reads-on _ _ _ _ _ (λ piece p. tt) (ap (λ (t : SourceTold). t.left) c.starve-in-Starved.ensures.source_stays) c.in-Starved.ensures.read) c.starve-in-Starved.ensures.starved
    (writes-from _ _ _ _ c.read_request.ensures.sink_stays c.starve-in-Starved.ensures.written)

-- Each course that writes a reply finishes its connection. The other one met a connection that failed.
pub returns-in-Ok-clause-ended : goal.returns-in-Ok-clause-ended
returns-in-Ok-clause-ended g c = inl c.answer.ensures.ended

pub returns-in-Err-clause-ended : goal.returns-in-Err-clause-ended
returns-in-Err-clause-ended g c = inl c.starve.ensures.ended

pub returns-in-Free-clause-ended : goal.returns-in-Free-clause-ended
returns-in-Free-clause-ended g c = inl c.answer_free.ensures.ended

pub returns-in-Broken-clause-ended : goal.returns-in-Broken-clause-ended
returns-in-Broken-clause-ended g c = inr (c.in-Broken.ensures.rose, c.read_request.ensures.sink_stays)

pub returns-in-Starved-clause-ended : goal.returns-in-Starved-clause-ended
returns-in-Starved-clause-ended g c = inl c.starve-in-Starved.ensures.ended

pub returns-in-Fetching-clause-served : goal.returns-in-Fetching-clause-served
returns-in-Fetching-clause-served g c =
    let took = c.with-found.ensures.found in
    let asked = c.in-Fetching.asked in
    fetched (start_of c.args.turn.now c.args.seat.now) _ _ _ _ _ _ took.0 asked.message asked.id c.with-found.result c.answer_found.result _
    c.read_request.ensures.sink_stays (λ bytes told known d. c.in-Fetching.ensures.request bytes told known d)
    (reads-on _ _ _ _ _ (λ piece p. tt) (ap (λ (t : SourceTold). t.left) c.answer_found.ensures.source_stays) c.in-Fetching.ensures.read)
    took.1 took.2 took.3 (same-seat (seat_told c.args.turn.now c.args.seat.now) _ took.0 took.4 took.5 c.with-found.ensures.passes c.with-found.ensures.turns refl)
    c.ask_moment.ensures.moment c.answer_found.ensures.fetched c.answer_found.ensures.starved c.answer_found.ensures.folder_stays c.ended_by.ensures refl

pub returns-in-Fetching-clause-ended : goal.returns-in-Fetching-clause-ended
returns-in-Fetching-clause-ended g c = inl c.answer_found.ensures.ended
