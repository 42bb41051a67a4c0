use Rattle.std.proofs.Common.{rules, ◌≡◌, ◌≤◌, ℕ, List, length, sym, ap, ◌∙◌, subst}
use Rattle.cds_turn.proofs.Keeps.{joins, settles, joined_shorter, rests_of}
use mathlib.Core.Option.{some}
use lib.ListN.{get_elem?}
use Rattle.cds_turn.proofs.table.merge.Goals as goal

pub join_seat-requires : goal.join_seat-requires
join_seat-requires g c = let mine = c.requires.rests.0 in let other = c.requires.rests.1 in (
  search rules,
  search rules,
  ap (λ z. z.me.1) other,
  search rules,
  joins g.V.StandsFor.stands _ _ _ _ _ _ _ c.requires.starts.0 (ap (λ z. z.me.0.ticket) mine) (ap (λ z. z.me.0.found) mine) (ap (λ z. z.me.0.ticket) other) (ap (λ z. z.me.0.found) other),
)

pub load-requires : goal.load-requires
load-requires g c = let now = c.join_seat.ensures.2 in (
  search rules,
  search rules,
  settles g.V.StandsFor.stands _ _ _ _ _ (ap (λ m. m.0.start) now ∙ c.requires.starts.0) (ap (λ m. m.0.found) now ∙ ap (λ z. z.me.0.found) c.requires.rests.0)
      (subst (λ m. (i : ℕ) (e : List g.row.V-Command.Denot) → get_elem? m.0.older i ≡ some e → length e ≤ length m.0.seen) (sym now) (joined_shorter c.args.place.now.me.0 c.args.other.me.0)),
)

pub returns-clause-seen : goal.returns-clause-seen
returns-clause-seen g c = let now = c.join_seat.ensures.2 in let did = c.load.ensures.2 in let older = ap (λ m. m.0.older) now in let seen = ap (λ m. m.0.seen) did.0 in
    let one = did.1 0 c.args.place.now.me.0.seen (ap (λ l. get_elem? l 0) older) in let two = did.1 1 c.args.other.me.0.seen (ap (λ l. get_elem? l 1) older) in
    ((one.0, seen ∙ one.1), (two.0, seen ∙ two.1))

pub returns-clause-rests : goal.returns-clause-rests
returns-clause-rests g c = let did = c.load.ensures.2.0 in let now = c.join_seat.ensures.2 in let mine = c.requires.rests.0 in rests_of c.load.new.seat
    (ap (λ m. m.1) did ∙ (ap (λ m. m.1) now ∙ ap (λ z. z.me.1) mine)) (ap (λ m. m.0.older) did)
    (ap (λ m. m.0.ticket) did ∙ (ap (λ m. m.0.ticket) now ∙ ap (λ z. z.me.0.ticket) mine)) (ap (λ m. m.0.found) did ∙ (ap (λ m. m.0.found) now ∙ ap (λ z. z.me.0.found) mine))
