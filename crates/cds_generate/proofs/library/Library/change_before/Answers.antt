-- What the changes need holds after the first of them too.
use Rattle.std.proofs.Common.{◌≡◌, length, ap, sym, subst, ◌∙◌, arith}
use Rattle.cds_generate.specs.Library.{LibraryState, AreBelow, version_limit}
use Rattle.cds_generate.proofs.Tracks.{below-more, first-below, first-length}
use Rattle.cds_generate.proofs.library.Library.change_before.Goals as goal

pub raise_first-requires-clause-room : goal.raise_first-requires-clause-room
raise_first-requires-clause-room c = below-more 4294967093 version_limit c.args.self.now.tracks (omega arith) c.requires.room

pub change_often-requires-clause-some : goal.change_often-requires-clause-some
change_often-requires-clause-some c =
    let same : length c.raise_first.new.self.tracks ≡ length c.args.self.now.tracks =
    ap (λ (l : LibraryState). length l.tracks) c.raise_first.ensures ∙ first-length c.args.self.now in
    omega (arith, same, c.requires.some)

pub change_often-requires-clause-room : goal.change_often-requires-clause-room
change_often-requires-clause-room c =
    subst (λ (l : LibraryState). AreBelow 4294967094 l.tracks) (sym c.raise_first.ensures) (first-below 4294967093 c.args.self.now c.requires.room)
