-- The lines of notes that were sent, from a place on.
use Rattle.std.proofs.Common.{◌≡◌, ℕ, zero, suc, ◌+◌, ◌≤◌, List, [], ◌∷◌, ◌++◌, length, drop, Some, None, refl, ap, sym, ◌∙◌, arith}
use Rattle.std.specs.Prelude.{slice_get, option_map}
use Rattle.cds_replay.specs.Lines.{note_line, sent_lines}
use Rattle.cds_replay.specs.Sending.{SentNote, head_of}
use Rattle.cds_replay.specs.declared.sent.SentHead.{SentHead}

pub next-line : (n k : ℕ) (notes : List SentNote) (head : SentHead) → option_map head_of (slice_get notes n) ≡ Some head →
    sent_lines k (drop n notes) ≡ note_line k head ++ sent_lines (k + 1) (drop (suc n) notes)
next-line zero k [] head e = absurd (cc)
next-line (suc n) k [] head e = absurd (cc)
next-line zero k (note ∷ notes) head e = let is : head_of note ≡ head = cc in ap (λ h. note_line k h ++ sent_lines (k + 1) notes) is
next-line (suc n) k (note ∷ notes) head e = next-line n k notes head e

-- past the last note there is none
pub no-line : (n k : ℕ) (notes : List SentNote) → option_map head_of (slice_get notes n) ≡ None → (sent_lines k (drop n notes) ≡ []) × (sent_lines k (drop (suc n) notes) ≡ [])
no-line zero k [] e = (refl, refl)
no-line (suc n) k [] e = (refl, refl)
no-line zero k (note ∷ notes) e = absurd (cc)
no-line (suc n) k (note ∷ notes) e = no-line n k notes e

pub past-lines : (n k : ℕ) (notes : List SentNote) → length notes ≤ n → sent_lines k (drop n notes) ≡ []
past-lines zero k [] past = refl
past-lines (suc n) k [] past = refl
past-lines zero k (note ∷ notes) past = absurd (omega (arith, past))
past-lines (suc n) k (note ∷ notes) past = past-lines n k notes (omega (arith, past))

-- the same with numbers that rise by one
pub next-line-one : (n : ℕ) (notes : List SentNote) (head : SentHead) → Some head ≡ option_map head_of (slice_get notes n) →
    sent_lines (n + 1) (drop n notes) ≡ note_line (n + 1) head ++ sent_lines (n + 1 + 1) (drop (n + 1) notes)
next-line-one n notes head is =
    next-line n (n + 1) notes head (sym is) ∙ ap (λ m. note_line (n + 1) head ++ sent_lines (n + 1 + 1) (drop m notes)) (let e : suc n ≡ n + 1 = omega arith in e)

pub no-line-one : (n : ℕ) (notes : List SentNote) → None ≡ option_map head_of (slice_get notes n) →
    sent_lines (n + 1 + 1) (drop (n + 1) notes) ≡ sent_lines (n + 1) (drop n notes)
no-line-one n notes is =
    ap (λ m. sent_lines (n + 1 + 1) (drop m notes)) (let e : n + 1 ≡ suc n = omega arith in e)
    ∙ (no-line n (n + 1 + 1) notes (sym is)).1 ∙ sym (no-line n (n + 1) notes (sym is)).0
