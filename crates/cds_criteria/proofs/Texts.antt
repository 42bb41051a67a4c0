-- Every text has exactly one outcome.
use Rattle.std.proofs.Common.{◌≡◌, ◌++◌, ◌≤◌, cond, ℕ, List, [], ◌∷◌, Bool, true, false, length, nat_lt, Result, Ok, Err, refl, sym, ap, subst, ◌∙◌}
use Rattle.std.specs.List.{AllByRecursion}
use Rattle.std.proofs.lemmas.Bool.{ltb-true, ltb-false, lt-ltb, le-ltb}
use Rattle.cds_criteria.specs.Criteria.{AnyOf, AllOf, Factor, Criteria, Token, LaidOut, IsExact, criteria_tokens, any_tokens, all_tokens, factor_tokens}
use Rattle.cds_criteria.specs.Criteria.{First, Or, Single, And, Compare, Exists, Group, Everything, Where, OrWord, AndWord, Close}
use Rattle.cds_criteria.specs.Tokens.{tokens_of}
use Rattle.cds_criteria.specs.Reading.{Start, criteria_read, read_on}
use Rattle.cds_criteria.specs.Laws as laws
use Rattle.cds_criteria.specs.Laws.{IsFault, OutcomeHolds, tokens_in, too_long, misplaced, ends_early}
use Rattle.cds_criteria.proofs.Outcomes as outcomes
use Rattle.cds_criteria.proofs.Outcomes.{Faulty, Outcome, outcome-holds, outcome-given}
use Rattle.cds_criteria.proofs.Found.{laid-found}
use Rattle.cds_criteria.proofs.Laid.{found-laid}

exact-append : (xs ys : List Token) → AllByRecursion IsExact xs → AllByRecursion IsExact ys → AllByRecursion IsExact (xs ++ ys)
exact-append [] ys e f = f
exact-append (x ∷ xs) ys e f = (e.0, exact-append xs ys e.1 f)

mutual
  any-exact : (any : AnyOf) → AllByRecursion IsExact (any_tokens any)
  any-exact (First all) = all-exact all
  any-exact (Or any all) = exact-append (any_tokens any) (OrWord ∷ all_tokens all) (any-exact any) (tt, all-exact all)

  all-exact : (all : AllOf) → AllByRecursion IsExact (all_tokens all)
  all-exact (Single factor) = factor-exact factor
  all-exact (And all factor) = exact-append (all_tokens all) (AndWord ∷ factor_tokens factor) (all-exact all) (tt, factor-exact factor)

  factor-exact : (factor : Factor) → AllByRecursion IsExact (factor_tokens factor)
  factor-exact (Compare property operator value) = (tt, (tt, (tt, tt)))
  factor-exact (Exists property there) = (tt, (tt, (tt, tt)))
  factor-exact (Group any) = (tt, exact-append (any_tokens any) (Close ∷ []) (any-exact any) (tt, tt))

criteria-exact : (criteria : Criteria) → AllByRecursion IsExact (criteria_tokens criteria)
criteria-exact Everything = (tt, tt)
criteria-exact (Where any) = any-exact any

fault : (text : List ℕ) → length text ≤ 4096 → (at : ℕ) → Faulty (length text) (tokens_of text) at → IsFault text at
fault text short at (outcomes.misplaced before after bad same stand cannot) = misplaced before after bad short same stand cannot
fault text short at (outcomes.ends_early stand none) = ends_early short stand none

short-holds : (text : List ℕ) → length text ≤ 4096 → (outcome : Result Criteria ℕ) → Outcome (length text) (tokens_of text) outcome → OutcomeHolds text outcome
short-holds text short (Ok criteria) h = record {
  short = short;
  shallow = h.1;
  spelled = subst (λ ts. LaidOut ts text) (sym h.0) (found-laid text 0 0 (subst (AllByRecursion IsExact) h.0 (criteria-exact criteria)));
}
short-holds text short (Err at) h = fault text short at h

holds-by : (text : List ℕ) (v : Bool) → nat_lt 4096 (length text) ≡ v → OutcomeHolds text (cond v (Err 4096) (read_on (length text) Start (tokens_of text)))
holds-by text true e = too_long (ltb-true 4096 (length text) e)
holds-by text false e = short-holds text (ltb-false 4096 (length text) e) (read_on (length text) Start (tokens_of text)) (outcome-holds (length text) (tokens_of text))

pub hold : laws.outcomes_hold
hold text = holds-by text (nat_lt 4096 (length text)) refl

short-read : (text : List ℕ) → length text ≤ 4096 → criteria_read text ≡ read_on (length text) Start (tokens_of text)
short-read text short = ap (λ v. cond v (Err 4096) (read_on (length text) Start (tokens_of text))) (le-ltb 4096 (length text) short)

given-fault : (text : List ℕ) (at : ℕ) → IsFault text at → criteria_read text ≡ Err at
given-fault text at (too_long long) = ap (λ v. cond v (Err 4096) (read_on (length text) Start (tokens_of text))) (lt-ltb 4096 (length text) long)
given-fault text at (misplaced before after bad short same stand cannot) =
    short-read text short ∙ outcome-given (length text) (tokens_of text) (Err bad.at) (outcomes.misplaced before after bad same stand cannot)
given-fault text at (ends_early short stand none) =
    short-read text short ∙ outcome-given (length text) (tokens_of text) (Err (length text)) (outcomes.ends_early stand none)

pub given : laws.outcomes_are_given
given text (Ok criteria) h =
    short-read text h.short
    ∙ outcome-given (length text) (tokens_of text) (Ok criteria) (sym (laid-found (criteria_tokens criteria) text 0 (criteria-exact criteria) h.spelled), h.shallow)
given text (Err at) h = given-fault text at h

pub unique : laws.outcomes_are_unique
unique text one other h g = sym (given text one h) ∙ given text other g
