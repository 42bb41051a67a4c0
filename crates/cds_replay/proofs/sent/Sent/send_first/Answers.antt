use Rattle.std.proofs.Common.{◌≡◌, ◌++◌, List, [], ◌∷◌, ℕ, map, length, sym, ap, ◌∙◌, subst}
use Rattle.cds_replay.specs.declared.sent.KeptNote.{KeptNote}
use Rattle.cds_replay.specs.Sending.{SentNote, note_at, kept_note, sent_to, AreKept}
use Rattle.cds_replay.proofs.Sending.{all-kept, all-told}
use Rattle.cds_replay.proofs.sent.Sent.send_first.Goals as goal

pub invariant_of-self-2 : goal.invariant_of-self-2
invariant_of-self-2 c =
    let was = c.self.inside in
    let to = c.args.note.to ∷ [] in
    let place : c.len.result ≡ length was.bodies.items = c.len.ensures ∙ was.bodies.ok.0 in
    let notes : c.put_sent.new.notes.items ≡ was.notes.items ++ map (kept_note c.args.number (length was.bodies.items)) to =
    c.in_ok-put_sent.ensures.notes
    ∙ ap (λ (l : List KeptNote). was.notes.items ++ l) (c.in_ok-push.ensures.items ∙ ap (λ (l : List KeptNote). l ++ kept_note c.args.number c.len.result c.args.note.to ∷ []) c.new-added.ensures.items ∙ ap (λ (n : ℕ). kept_note c.args.number n c.args.note.to ∷ []) place) in
    subst (λ (l : List KeptNote). AreKept c.put_sent.new.bodies.items l) (sym notes)
    (subst (λ (r : List (List ℕ)). AreKept r (was.notes.items ++ map (kept_note c.args.number (length was.bodies.items)) to))
    (sym c.in_ok-put_sent.ensures.bodies)
    (all-kept was.bodies.items c.args.note.body c.args.number was.notes.items to c.self.invariant (c.requires.delivered, tt)))

pub returns-clause-sent : goal.returns-clause-sent
returns-clause-sent c =
    let was = c.self.inside in
    let to = c.args.note.to ∷ [] in
    let place : c.len.result ≡ length was.bodies.items = c.len.ensures ∙ was.bodies.ok.0 in
    let notes : c.put_sent.new.notes.items ≡ was.notes.items ++ map (kept_note c.args.number (length was.bodies.items)) to =
    c.in_ok-put_sent.ensures.notes
    ∙ ap (λ (l : List KeptNote). was.notes.items ++ l) (c.in_ok-push.ensures.items ∙ ap (λ (l : List KeptNote). l ++ kept_note c.args.number c.len.result c.args.note.to ∷ []) c.new-added.ensures.items ∙ ap (λ (n : ℕ). kept_note c.args.number n c.args.note.to ∷ []) place) in
    (λ i. map (note_at (c.in_ok-put_sent.ensures.bodies i)) (notes i))
    ∙ all-told was.bodies.items c.args.note.body c.args.number was.notes.items to c.self.invariant
    ∙ ap (λ (l : List SentNote). l ++ sent_to c.args.number c.args.note.body c.args.note.to ∷ []) c.self.view_is
