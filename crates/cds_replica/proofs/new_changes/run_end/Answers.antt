use Rattle.std.proofs.Common.{◌≡◌, ◌+◌, ℕ, true, ap, sym, ◌∙◌, subst, arith}
use Rattle.std.specs.Prelude.{is_some}
use Rattle.cds_follow.specs.Inbox.{has_place}
use Rattle.cds_replica.specs.Inboxed.{of_name}
use Rattle.cds_replica.proofs.NewOnes.{AllFound, found-more, found-end, found-all_of, found-none}
use Rattle.cds_replica.proofs.new_changes.run_end.Goals as goal

pub loop-held-init : goal.loop-held-init
loop-held-init c = record {
  found = found-none (of_name c.args.sid.0 c.args.notes.now) c.args.from;
  far = omega arith;
}

pub returns-in-None : goal.returns-in-None
returns-in-None c =
    let far = c.loop-held.invariant.far in
    record {
      end = found-end (of_name c.args.sid.0 c.args.notes.now) c.args.from c.loop-held.place (omega (arith, far)) c.loop-held.invariant.found
          (sym c.note_of.ensures.found ∙ ap is_some c.in-None.is);
    }

pub loop-held-preserved : goal.loop-held-preserved
loop-held-preserved c =
    let far = c.loop-held.invariant.far in
    let same : c.next_place-place.result ≡ c.loop-held.place + 1 = omega (arith, c.in-Some.ensures.place, c.next_place-place.ensures.next) in
    let have : has_place (of_name c.args.sid.0 c.args.notes.now) c.loop-held.place ≡ true = sym c.note_of.ensures.found ∙ ap is_some c.in-Some.is in
    record {
      found = subst (λ (n : ℕ). AllFound (of_name c.args.sid.0 c.args.notes.now) c.args.from n) (sym same)
          (found-more (of_name c.args.sid.0 c.args.notes.now) c.args.from c.loop-held.place c.loop-held.invariant.found have);
      far = omega (arith, far, same);
    }

pub returns : goal.returns
returns c =
    let far = c.loop-held.invariant.far in
    let done = c.loop-held-test.false in
    record { end = found-all_of c.args.sid.0 c.args.notes.now c.args.from c.loop-held.place (omega (arith, far, done)) c.loop-held.invariant.found }
