-- The notes of fewer commands, and the numbers that stood within them.
use Rattle.std.proofs.Common.{◌≡◌, ◌⊎◌, inl, inr, ◌+◌, ◌-◌, ◌<◌, ◌≤◌, ℕ, zero, suc, List, [], ◌∷◌, length, drop, refl, sym, ap, ◌∙◌, subst, arith}
use Rattle.std.proofs.lemmas.Bool.{cases_lt}
use Rattle.std.proofs.lemmas.List.{drop-drop}
use Rattle.cds_catalog.specs.History.{end_of}
use Rattle.cds_commands.specs.Commands.{Command, scans_of, oldest}
use Rattle.cds_commands.specs.Notes.{Note, sent_by, notes_of}
use Rattle.cds_commands.proofs.Among.{Among, among-left}
use Rattle.cds_commands.proofs.Sent.{Stood}

pub notes-grow : (first n : ℕ) (commands : List Command) (note : Note) → Among note (notes_of first (drop n commands)) → Among note (notes_of first commands)
notes-grow first zero commands note a = a
notes-grow first (suc n) [] note a = a
notes-grow first (suc n) (command ∷ older) note a =
    among-left (notes_of first older) (sent_by first older (notes_of first older) command) note (notes-grow first n older note a)

pub notes-later : (first : ℕ) (commands : List Command) (j k : ℕ) (note : Note) → j ≤ k → Among note (notes_of first (oldest j commands)) → Among note (notes_of first (oldest k commands))
notes-later first commands j k note l a =
    let more : length commands - k + (length commands - j - (length commands - k)) ≡ length commands - j = omega (arith, l) in
    notes-grow first (length commands - j - (length commands - k)) (oldest k commands) note
    (subst (λ (cs : List Command). Among note (notes_of first cs))
    (sym (drop-drop (length commands - j - (length commands - k)) (length commands - k) commands ∙ ap (λ (n : ℕ). drop n commands) more)) a)

drop-all : (m : ℕ) (commands : List Command) → length commands ≤ m → drop m commands ≡ []
drop-all zero [] l = refl
drop-all (suc m) [] l = refl
drop-all zero (command ∷ older) l = let no : ⊥ = omega (arith, l) in absurd no
drop-all (suc m) (command ∷ older) l = drop-all m older (omega (arith, l))

-- a number that stood within some of the commands is one that the server had at a length up to theirs
pub stood-served : (first : ℕ) (commands : List Command) (k number : ℕ) → Stood first (oldest k commands) number → (j : ℕ) × (j ≤ k) × (number ≡ end_of (scans_of first (oldest j commands)))
stood-served first commands k number (n, is) = by (cases_lt (length commands) (length commands - k + n))
  where
    here : drop n (oldest k commands) ≡ drop (length commands - k + n) commands
    here = drop-drop n (length commands - k) commands

    by : (length commands < length commands - k + n) ⊎ (length commands - k + n ≤ length commands) → (j : ℕ) × (j ≤ k) × (number ≡ end_of (scans_of first (oldest j commands)))
    by (inl l) = (
      0,
      omega arith,
      is ∙ ap (λ (cs : List Command). end_of (scans_of first cs))
          (here ∙ drop-all (length commands - k + n) commands (omega (arith, l)) ∙ sym (drop-all (length commands - 0) commands (omega arith))),
    )
    by (inr l) =
        let same : length commands - k + n ≡ length commands - (length commands - (length commands - k + n)) = omega (arith, l) in (
          length commands - (length commands - k + n),
          omega (arith, l),
          is ∙ ap (λ (cs : List Command). end_of (scans_of first cs)) (here ∙ ap (λ (m : ℕ). drop m commands) same),
        )
