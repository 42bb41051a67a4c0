-- The tracks stay as many, and their versions within bounds.
use Rattle.std.proofs.Common.{◌≡◌, ◌+◌, length, ap, sym, subst, ◌∙◌, arith}
use Rattle.cds_generate.specs.Library.{LibraryState, AreBelow, drawn_change, drawn_changes, version_limit}
use Rattle.cds_generate.proofs.Tracks.{below-more, changes-below, changes-length, changes-more, changes-none}
use Rattle.cds_generate.proofs.library.Library.change_often.Goals as goal

pub loop-init : goal.loop-init
loop-init c = sym (changes-none c.args.self.now)

pub loop-preserved : goal.loop-preserved
loop-preserved c = c.change.ensures ∙ ap drawn_change c.loop.invariant ∙ sym (changes-more c.loop.counter c.args.self.now)

pub change-requires-clause-some : goal.change-requires-clause-some
change-requires-clause-some c =
    let same : length c.loop.self.tracks ≡ length c.args.self.now.tracks =
    ap (λ (l : LibraryState). length l.tracks) c.loop.invariant ∙ changes-length c.loop.counter c.args.self.now in
    omega (arith, same, c.requires.some)

pub change-requires-clause-room : goal.change-requires-clause-room
change-requires-clause-room c =
    subst (λ (l : LibraryState). AreBelow version_limit l.tracks) (sym c.loop.invariant)
    (below-more (4294967094 + c.loop.counter) version_limit (drawn_changes c.loop.counter c.args.self.now).tracks (omega (arith, c.requires.few))
    (changes-below c.loop.counter 4294967094 c.args.self.now c.requires.room))
