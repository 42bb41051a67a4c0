-- If fewer notes were sent than a wrap without a reach, each is recent whenever it is delivered.
use Rattle.std.proofs.Common.{◌≡◌, ℕ, zero, suc, ◌-◌, ◌<◌, ◌≤◌, List, [], ◌∷◌, length, Bool, true, false, cond, not, ◌||◌, nat_eq, nat_lt, refl, sym, subst, arith, Some}
use Rattle.std.specs.Prelude.{filter}
use Rattle.std.proofs.lemmas.Bool.{lt-ltb}
use Rattle.cds_commands.specs.Commands.{Command}
use Rattle.cds_commands.specs.Notes.{Note, next_place_of, notes_of}
use Rattle.cds_commands.specs.Places.{reach}
use Rattle.cds_commands.proofs.Among.{Among, among-contained, among-all}
use Rattle.cds_commands.proofs.Chain.{note-among}
use Rattle.cds_commands.proofs.Sent.{Sound, all-sound}
use Rattle.cds_follow.specs.Inbox.{is_accepted, received, next_place}
use Rattle.cds_follow.specs.Given.{given_by, latest_length}
use Rattle.cds_follow.specs.Wire.{place_near, apart, is_heard, is_recent}
use Rattle.cds_follow.proofs.Honest.{IsServed, served-later, entries-served}
use Rattle.cds_script.specs.Report.{sent_note, Played, script_token}
use Rattle.cds_script.proofs.Given.{Kept, oldest-all, sent-contained}

named-few : (name : ℕ) (notes : List Note) → next_place_of name notes ≤ length notes
named-few name [] = omega arith
named-few name (note ∷ notes) = by (nat_eq note.name name) (named-few name notes)
  where
    others : List Note
    others = filter (λ (n : Note). nat_eq n.name name) notes

    by : (b : Bool) → length others ≤ length notes → length (cond b (note ∷ others) others) ≤ suc (length notes)
    by true rest = omega (arith, rest)
    by false rest = omega (arith, rest)

module _ (first : ℕ) (p : Played) (kept : Kept first p) where
  abbrev notes : List Note
  notes = notes_of first p.commands

  place-low : (note : Note) → Among note notes → note.place < length notes
  place-low note a =
      let counted = (among-all (Sound first p.commands) notes note (all-sound first p.commands) a).counted in
      let few = named-few note.name notes in omega (arith, counted, few)

  served : IsServed script_token first p.commands kept.accepted (length p.commands) p.replica
  served =
      subst (IsServed script_token first p.commands kept.accepted (length p.commands)) (sym kept.are)
      (served-later script_token first p.commands kept.accepted (latest_length kept.entries) (length p.commands) (given_by script_token first p.commands kept.entries) kept.within
      (entries-served script_token first p.commands kept.accepted kept.entries kept.given))

  -- each place that was taken is that of a note that was sent
  pub next-low : next_place p.replica ≤ length notes
  next-low = by (next_place p.replica) refl
    where
      by : (n : ℕ) → next_place p.replica ≡ n → next_place p.replica ≤ length notes
      by zero e = omega (arith, e)
      by (suc n) e =
          let last = served.hearing.last n (omega (arith, e)) in
          let here = note-among n (received p.replica) last.0 last.1 in
          let sent = subst (λ (cs : List Command). Among last.0 (notes_of first cs)) (oldest-all p.commands) (served.hearing.sent last.0 here.0).0 in
          let low = place-low last.0 sent in
          let is = here.1 in omega (arith, e, low, is)

  pub near-low : (name : ℕ) → place_near name p.replica ≤ length notes
  near-low name = by (is_accepted name p.replica) next-low
    where
      by : (b : Bool) → next_place p.replica ≤ length notes → cond b (next_place p.replica) 0 ≤ length notes
      by true l = l
      by false l = omega arith

  pub apart-low : (note : Note) → Among note notes → apart note.place (place_near note.name p.replica) ≤ length notes
  apart-low note a = let low = place-low note a in let near = near-low note.name in omega (arith, low, near)

  pub all-recent : length notes < p.wrap - reach p.wrap → (number : ℕ) (note : Note) → sent_note number notes ≡ Some note → is_recent p.wrap note p.replica ≡ true
  all-recent few number note e =
      let low = apart-low note (among-contained notes note (sent-contained number notes note e)) in
      either (not (is_heard note.name p.replica)) (lt-ltb (apart note.place (place_near note.name p.replica)) (p.wrap - reach p.wrap) (omega (arith, low, few)))
    where
      either : (b : Bool) → nat_lt (apart note.place (place_near note.name p.replica)) (p.wrap - reach p.wrap) ≡ true →
          b || nat_lt (apart note.place (place_near note.name p.replica)) (p.wrap - reach p.wrap) ≡ true
      either true r = refl
      either false r = r
