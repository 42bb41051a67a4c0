-- What stood of an honest server up to a length serves its replies.
use Rattle.std.proofs.Common.{◌≡◌, ℕ, ◌≤◌, List, [], ◌∷◌, refl, ap, sym, subst, ◌∙◌, arith, Option, Some, None}
use Rattle.cds_object.specs.Tree.{IsTree}
use Rattle.cds_load.specs.Server.{Moment}
use Rattle.cds_load.specs.Loads.{IsServer}
use Rattle.cds_load.proofs.Honest.{IsServed}

-- a moment at which the server stood at a length up to another
pub record StoodAt (server : ℕ → Moment) (k : ℕ) (m : Moment) : Type 0 where
  pub at : ℕ
  pub within : at ≤ k
  pub is : m ≡ server at

pub server-serves : (server : ℕ → Moment) (k : ℕ) → IsServer server → IsServed (StoodAt server k) (server k)
server-serves server k is = record {
  stood = record { at = k; within = omega arith; is = refl };
  trees = λ m s. subst (λ (v : Moment). IsTree v.rows) (sym s.is) (is.trees s.at);
  rising = λ m s. subst (λ (v : Moment). v.number ≤ (server k).number) (sym s.is) (is.rising s.at k s.within);
  same = λ m v s t e. ap (λ (x : Moment). x.rows) s.is
      ∙ is.same s.at t.at (sym (ap (λ (x : Moment). x.number) s.is) ∙ e ∙ ap (λ (x : Moment). x.number) t.is)
      ∙ sym (ap (λ (x : Moment). x.rows) t.is);
}
