use lib.Utf8.{encode}
use Rattle.std.proofs.Common.{◌≡◌, ◌⊎◌, inl, inr, ℕ, zero, suc, List, [], ◌∷◌, ◌++◌, take, drop, false, refl, sym, ap, ◌∙◌, subst, Some, None}
use Rattle.std.specs.Str.{is_utf8, chars}
use Rattle.cds_commands.specs.Notes.{Note, first_note, notes_of}
use Rattle.cds_commands.specs.Examples.{added}
use Rattle.cds_commands.specs.Wire.{on_wire}
use Rattle.cds_follow.specs.Wire.{arrival_on_wire}
use Rattle.cds_script.specs.declared.turn.ScriptTurn.{ScriptTurn}
use Rattle.cds_script.specs.declared.turn.ScriptTurn.TheVariants.{Deliver}
use Rattle.cds_script.specs.Report.{sent_note, played}
use Rattle.cds_script.specs.Played.{script_turns}
use Rattle.cds_script.specs.Complete.{is_lost, followed_script}
use Rattle.cds_script.proofs.Given.{sent-place}
use Rattle.cds_script.proofs.laws.scripts_can_be_complete.Goals as goal

-- of two notes the numbers are 1 and 2
two-sent : (a b : Note) (number : ℕ) (note : Note) → sent_note number (a ∷ b ∷ []) ≡ Some note → (number ≡ 1) ⊎ (number ≡ 2)
two-sent a b zero note e = absurd (cc)
two-sent a b (suc zero) note e = inl refl
two-sent a b (suc (suc zero)) note e = inr refl
two-sent a b (suc (suc (suc n))) note e = let none : None ≡ Some note = sym (sent-place (suc (suc n)) (a ∷ b ∷ [])) ∙ e in absurd (cc)

abbrev turns : List ScriptTurn
turns = script_turns followed_script

abbrev Told : ℕ → Note → Type 0
Told number note = (newer : List ScriptTurn) × (older : List ScriptTurn) × (turns ≡ newer ++ Deliver number ∷ older)
    × (is_lost (arrival_on_wire (played older).wrap (on_wire (played older).wrap note) (played older).replica) ≡ false)

some-is : (a b : Note) → Some a ≡ Some b → a ≡ b
some-is a b e = cc

told : (number : ℕ) (note : Note) → sent_note number (notes_of 0 (played turns).commands) ≡ Some note → (number ≡ 1) ⊎ (number ≡ 2) → Told number note
unfolding is_utf8 chars encode
told number note e (inl one) = subst (λ (n : ℕ). Told n note) (sym one) (
  take 6 turns,
  drop 7 turns,
  refl,
  subst (λ (n : Note). is_lost (arrival_on_wire (played (drop 7 turns)).wrap (on_wire (played (drop 7 turns)).wrap n) (played (drop 7 turns)).replica) ≡ false)
      (some-is (first_note 1 0) note (ap (λ (n : ℕ). sent_note n (notes_of 0 (played turns).commands)) (sym one) ∙ e)) refl,
)
told number note e (inr two) = subst (λ (n : ℕ). Told n note) (sym two) (
  take 2 turns,
  drop 3 turns,
  refl,
  subst (λ (n : Note). is_lost (arrival_on_wire (played (drop 3 turns)).wrap (on_wire (played (drop 3 turns)).wrap n) (played (drop 3 turns)).replica) ≡ false)
      (some-is added note (ap (λ (n : ℕ). sent_note n (notes_of 0 (played turns).commands)) (sym two) ∙ e)) refl,
)

pub returns : goal.returns
unfolding is_utf8 chars encode
returns c = record {
  begun = refl;
  named = refl;
  alive = refl;
  delivered = λ number note e is. told number note e (two-sent _ _ number note e);
  released = refl;
  newer = [];
  older = drop 1 turns;
  parts = refl;
  nothing = refl;
  quiet = refl;
}
