-- The first fault is where the pieces stop.
use Rattle.std.proofs.Common.{refl, arith, string_bytes}
use Rattle.std.proofs.lemmas.Bool.Decides.{nat_tests}
use Rattle.cds_escape.specs.Unescape.{IsFault, Says}
use Rattle.cds_escape.proofs.Pieces.{one_reading, only_memory, only_reference, only_character, fault_there, escaped_says, reading_and_reference, reading_and_character, read_more, read_shortens, read_whole, text_behind}
use Rattle.cds_escape.proofs.unescaping.unescape.Goals as goal
use Rattle.cds_escape.proofs.unescaping.unescape.Goals.{After-drop-read, After-loop-rest}

-- the fault of what is left is the text's
refused : (c : After-drop-read) → IsFault c.args.text.now c.in-Err.fault
refused c =
    let so_far = c.loop-rest.invariant.1 in
    fault_there c.args.text.now so_far.0 c.loop-rest.rest.now _ _ c.in-Err.fault so_far.1 so_far.2 refl c.in-Err.ensures.err

pub returns-in-Err-clause-refused : goal.returns-in-Err-clause-refused
returns-in-Err-clause-refused c = refused c

pub returns-in-Err-clause-exact : goal.returns-in-Err-clause-exact
returns-in-Err-clause-exact c value says = only_memory c.args.text.now value c.in-Err.fault says (refused c)

pub returns-in-Err-clause-exact_reference : goal.returns-in-Err-clause-exact_reference
returns-in-Err-clause-exact_reference c at bad = only_reference c.args.text.now at c.in-Err.fault bad (refused c)

pub returns-in-Err-clause-exact_character : goal.returns-in-Err-clause-exact_character
returns-in-Err-clause-exact_character c at bad = only_character c.args.text.now at c.in-Err.fault bad (refused c)

pub returns-in-Err-clause-inverse : goal.returns-in-Err-clause-inverse
returns-in-Err-clause-inverse c plain are e = only_memory c.args.text.now plain c.in-Err.fault (escaped_says c.args.text.now plain are e) (refused c)

pub loop-rest-smaller : goal.loop-rest-smaller
loop-rest-smaller c = read_shortens c.loop-rest.rest.now c.in-Ok.piece.1.now c.in-Ok.piece.0 c.in-Ok.ensures.ok

pub loop-rest-preserved : goal.loop-rest-preserved
loop-rest-preserved c =
    let so_far = c.loop-rest.invariant.1 in (
      text_behind c.loop-rest.rest.now c.in-Ok.piece.1.now c.in-Ok.piece.0 c.in-Ok.ensures.ok c.loop-rest.invariant.0,
      read_more c.args.text.now c.loop-rest.rest.now c.in-Ok.piece.1.now so_far.0 _ _ c.in-Ok.piece.0 so_far.1 so_far.2 c.in-Ok.ensures.ok c.in_ok-push.ensures.bytes,
    )

read : (c : After-loop-rest) → Says c.args.text.now (string_bytes c.loop-rest.read)
read c =
    let so_far = c.loop-rest.invariant.1 in
    read_whole c.args.text.now c.loop-rest.rest.now so_far.0 _ so_far.1 (grind (arith, nat_tests, c.is_empty.ensures, c.loop-rest-test.false)) so_far.2

pub returns-clause-read : goal.returns-clause-read
returns-clause-read c = read c

pub returns-clause-exact : goal.returns-clause-exact
returns-clause-exact c value says = one_reading c.args.text.now _ value (read c) says

pub returns-clause-exact_reference : goal.returns-clause-exact_reference
returns-clause-exact_reference c at bad = reading_and_reference c.args.text.now _ at (read c) bad

pub returns-clause-exact_character : goal.returns-clause-exact_character
returns-clause-exact_character c at bad = reading_and_character c.args.text.now _ at (read c) bad

pub returns-clause-inverse : goal.returns-clause-inverse
returns-clause-inverse c plain are e = one_reading c.args.text.now _ plain (read c) (escaped_says c.args.text.now plain are e)
