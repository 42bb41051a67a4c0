-- The outcome of a reading over placed tokens is what the grammar says.
use Rattle.std.proofs.Common.{◌≡◌, ◌++◌, ℕ, zero, suc, List, [], ◌∷◌, Option, Some, None, Result, Ok, Err, Bool, true, false, refl, sym, ap, subst, ◌∙◌, append_assoc, is_some}
use Rattle.cds_criteria.specs.Criteria.{AnyOf, AllOf, Criteria, Token, Begins, CanStand, EachStands, whole, criteria_tokens, any_tokens, all_tokens, factor_tokens, First, Or, Single, And, Compare, Exists, Group, Factor, Differs, CriteriaFit, Everything, Where}
use Rattle.cds_criteria.specs.Criteria.{Star, Open, Close, AndWord, OrWord, Existence, Truth, Name, Sign, Value, CutSign, CutValue}
use Rattle.cds_criteria.specs.Tokens.{Placed}
use Rattle.cds_criteria.specs.Laws.{tokens_in}
use Rattle.cds_criteria.specs.Reading.{Reading, Level, Stage, Start, All, Inside, Cut, Term, Test, Argument, Answer, Joint, no_level, and_level, or_level, close_level, open_level, all_behind, within, at_start, next, ended, end_outcome, read_on}
use Rattle.cds_criteria.proofs.Running.{run, run-any, level_of}
use Rattle.cds_criteria.proofs.Sound.{Holding, IfNext, next-holds, ended-holds, nil, IfEnded}
use Rattle.cds_criteria.proofs.Fitting.{Fits, next-fits, ended-fits, IfFits, IsUncut, holding-begins}

-- ---- runs

abbrev pub then_run : Option Reading → List Token → Option Reading
then_run None tokens = None
then_run (Some r) tokens = run r tokens

append-by : (o : Option Reading) (xs ys : List Token) → ((s : Reading) → run s (xs ++ ys) ≡ then_run (run s xs) ys)
    → (elim o [ None ↦ None | Some s ↦ run s (xs ++ ys) ]) ≡ then_run (elim o [ None ↦ None | Some s ↦ run s xs ]) ys
append-by None xs ys h = refl
append-by (Some s) xs ys h = h s

pub run-append : (r : Reading) (xs ys : List Token) → run r (xs ++ ys) ≡ then_run (run r xs) ys
run-append r [] ys = refl
run-append r (x ∷ xs) ys = append-by (next r x) xs ys (λ s. run-append s xs ys)

abbrev Yes : Bool → Type 0
Yes true = Unit {0}
Yes false = ⊥

abbrev No : Bool → Type 0
No true = ⊥
No false = Unit {0}

abbrev pub IsOne : Option Reading → Type 0
IsOne None = ⊥
IsOne (Some r) = Unit {0}

-- the criteria at which a run ends
abbrev pub RunsTo : Option Reading → Criteria → Type 0
RunsTo None criteria = ⊥
RunsTo (Some r) criteria = ended r ≡ Some criteria

any-ends : (any : AnyOf) → ended (Inside Joint 16 (level_of any) []) ≡ Some (Where any)
any-ends (First all) = refl
any-ends (Or any all) = refl

first-factor : (factor : Factor) (rest : List Token) → run Start (factor_tokens factor ++ rest) ≡ run (Inside Term 16 no_level []) (factor_tokens factor ++ rest)
first-factor (Compare property operator value) rest = refl
first-factor (Exists property there) rest = refl
first-factor (Group any) rest = refl

first-all : (all : AllOf) (rest : List Token) → run Start (all_tokens all ++ rest) ≡ run (Inside Term 16 no_level []) (all_tokens all ++ rest)
first-all (Single factor) rest = first-factor factor rest
first-all (And all factor) rest =
    ap (run Start) (append_assoc (all_tokens all) (AndWord ∷ factor_tokens factor) rest)
    ∙ (first-all all (AndWord ∷ factor_tokens factor ++ rest) ∙ sym (ap (run (Inside Term 16 no_level [])) (append_assoc (all_tokens all) (AndWord ∷ factor_tokens factor) rest)))

-- a start is the reading within criteria, where what comes is no `*`
first-any : (any : AnyOf) (rest : List Token) → run Start (any_tokens any ++ rest) ≡ run (Inside Term 16 no_level []) (any_tokens any ++ rest)
first-any (First all) rest = first-all all rest
first-any (Or any all) rest =
    ap (run Start) (append_assoc (any_tokens any) (OrWord ∷ all_tokens all) rest)
    ∙ (first-any any (OrWord ∷ all_tokens all ++ rest) ∙ sym (ap (run (Inside Term 16 no_level [])) (append_assoc (any_tokens any) (OrWord ∷ all_tokens all) rest)))

pub criteria-run : (criteria : Criteria) → CriteriaFit 16 criteria → RunsTo (run Start (criteria_tokens criteria)) criteria
criteria-run Everything fits = refl
criteria-run (Where any) fits =
    subst (λ o. RunsTo o (Where any)) (sym (ap (run Start) (nil (any_tokens any)) ∙ (first-any any [] ∙ run-any any 16 fits [] []))) (any-ends any)

-- a token stands where the whole one does
alike_sign : (r : Reading) → is_some (next r CutSign) ≡ is_some (next r (Sign Differs))
alike_sign Start = refl
alike_sign All = refl
alike_sign (Inside Term room level outer) = refl
alike_sign (Inside (Test property) room level outer) = refl
alike_sign (Inside (Argument property operator) room level outer) = refl
alike_sign (Inside (Answer property) room level outer) = refl
alike_sign (Inside Joint room level outer) = refl
alike_sign Cut = refl

alike_value : (r : Reading) → is_some (next r CutValue) ≡ is_some (next r (Value []))
alike_value Start = refl
alike_value All = refl
alike_value (Inside Term room level outer) = refl
alike_value (Inside (Test property) room level outer) = refl
alike_value (Inside (Argument property operator) room level outer) = refl
alike_value (Inside (Answer property) room level outer) = refl
alike_value (Inside Joint room level outer) = refl
alike_value Cut = refl

alike : (r : Reading) (token : Token) → is_some (next r token) ≡ is_some (next r (whole token))
alike r CutSign = alike_sign r
alike r CutValue = alike_value r
alike r token = refl

-- only a cut token cuts
uncut_or : (o : Option AnyOf) (room : ℕ) (outer : List Level) → IfNext (or_level o room outer) IsUncut
uncut_or None room outer = tt
uncut_or (Some any) room outer = tt

uncut_and : (o : Option AllOf) (room : ℕ) (level : Level) (outer : List Level) → IfNext (and_level o room level outer) IsUncut
uncut_and None room level outer = tt
uncut_and (Some all) room level outer = tt

uncut_close : (o : Option AnyOf) (room : ℕ) (outer : List Level) → IfNext (close_level o room outer) IsUncut
uncut_close None room outer = tt
uncut_close (Some any) room [] = tt
uncut_close (Some any) room (level ∷ outer) = tt

uncut_open : (room : ℕ) (level : Level) (outer : List Level) → IfNext (open_level room level outer) IsUncut
uncut_open zero level outer = tt
uncut_open (suc room) level outer = tt

abbrev IsWhole : Token → Type 0
IsWhole CutSign = ⊥
IsWhole CutValue = ⊥
IsWhole token = Unit {0}

uncut : (stage : Stage) (room : ℕ) (level : Level) (outer : List Level) (token : Token) → IsWhole token → IfNext (within stage room level outer token) IsUncut
uncut Term room level outer Open w = uncut_open room level outer
uncut Term room level outer (Name property) w = tt
uncut Term room level outer token w = tt
uncut (Test property) room level outer Existence w = tt
uncut (Test property) room level outer (Sign operator) w = tt
uncut (Test property) room level outer CutSign w = absurd w
uncut (Test property) room level outer token w = tt
uncut (Argument property operator) room level outer (Value value) w = tt
uncut (Argument property operator) room level outer CutValue w = absurd w
uncut (Argument property operator) room level outer token w = tt
uncut (Answer property) room level outer (Truth there) w = tt
uncut (Answer property) room level outer token w = tt
uncut Joint room level outer AndWord w = uncut_and level.factors room level outer
uncut Joint room level outer OrWord w = uncut_or (all_behind level.before level.factors) room outer
uncut Joint room level outer Close w = uncut_close (all_behind level.before level.factors) room outer
uncut Joint room level outer token w = tt

uncut_start : (token : Token) → IfNext (at_start token) IsUncut
uncut_start Star = tt
uncut_start Open = tt
uncut_start (Name property) = tt
uncut_start token = tt

uncut_next : (r : Reading) (token : Token) → IsWhole token → IfNext (next r token) IsUncut
uncut_next Start token w = uncut_start token
uncut_next All token w = tt
uncut_next (Inside stage room level outer) token w = uncut stage room level outer token w
uncut_next Cut token w = tt

whole_is : (token : Token) → IsWhole (whole token)
whole_is CutSign = tt
whole_is CutValue = tt
whole_is token = tt

begins_next : (before : List Token) (o : Option Reading) → is_some o ≡ true → IfNext o (λ s. Holding s before) → IfNext o Fits → IfNext o IsUncut → Begins before
begins_next before None e h f u = absurd (subst No e tt)
begins_next before (Some s) e h f u = holding-begins s before u f h

-- where a reading leads on, the token can stand
pub stands : (r : Reading) (before : List Token) → Holding r before → Fits r → (token : Token) → is_some (next r token) ≡ true → CanStand before token
stands r before h f token e =
    begins_next (before ++ whole token ∷ []) (next r (whole token)) (sym (alike r token) ∙ e) (next-holds r before h (whole token)) (next-fits r f (whole token)) (uncut_next r (whole token) (whole_is token))

-- where it does not, the token cannot stand
pub stands_not : (r : Reading) (before : List Token) → run Start before ≡ Some r → (token : Token) → is_some (next r token) ≡ false → CanStand before token → ⊥
stands_not r before at token e b =
    stuck (next r (whole token)) b.rest (sym (alike r token) ∙ e)
    (subst (λ o. RunsTo o b.criteria) (ap (run Start) (b.begins ∙ append_assoc before (whole token ∷ []) b.rest) ∙ (run-append Start before (whole token ∷ b.rest) ∙ ap (λ o. then_run o (whole token ∷ b.rest)) at)) (criteria-run b.criteria b.shallow))
  where
    stuck : (o : Option Reading) (rest : List Token) → is_some o ≡ false → RunsTo (elim o [ None ↦ None | Some s ↦ run s rest ]) b.criteria → ⊥
    stuck None rest e t = t
    stuck (Some s) rest e t = subst Yes e tt

-- ---- the outcome

pub data Faulty (size : ℕ) (placed : List Placed) : ℕ → Type 0 where
  misplaced : (before after : List Placed) (bad : Placed) → placed ≡ before ++ bad ∷ after → EachStands [] (tokens_in before) → (CanStand (tokens_in before) bad.token → ⊥) → Faulty size placed bad.at
  ends_early : EachStands [] (tokens_in placed) → ((criteria : Criteria) → CriteriaFit 16 criteria → criteria_tokens criteria ≡ tokens_in placed → ⊥) → Faulty size placed size

abbrev pub Outcome : ℕ → List Placed → Result Criteria ℕ → Type 0
Outcome size placed (Ok criteria) = (criteria_tokens criteria ≡ tokens_in placed) × CriteriaFit 16 criteria
Outcome size placed (Err at) = Faulty size placed at

append_nil : (xs : List Placed) → xs ≡ xs ++ []
append_nil [] = refl
append_nil (x ∷ xs) = ap (λ ys. x ∷ ys) (append_nil xs)

each-more : (front xs : List Token) (x : Token) → EachStands front xs → CanStand (front ++ xs) x → EachStands front (xs ++ x ∷ [])
each-more front [] x e c = (subst (λ y. CanStand y x) (sym (nil front)) c, tt)
each-more front (y ∷ ys) x e c = (e.0, each-more (front ++ y ∷ []) ys x e.1 (subst (λ z. CanStand z x) (sym (append_assoc front (y ∷ []) ys)) c))

tokens_in-more : (seen : List Placed) (p : Placed) → tokens_in (seen ++ p ∷ []) ≡ tokens_in seen ++ p.token ∷ []
tokens_in-more [] p = refl
tokens_in-more (q ∷ seen) p = ap (λ x. q.token ∷ x) (tokens_in-more seen p)

-- what is known of what was read
record Known (seen : List Token) (r : Reading) : Type 0 where
  at : run Start seen ≡ Some r
  holds : Holding r seen
  fits : Fits r
  stand : EachStands [] seen

ended_is : (o : Option Reading) (r : Reading) (criteria : Criteria) → o ≡ Some r → ended r ≡ None → RunsTo o criteria → ⊥
ended_is None r criteria at e t = t
ended_is (Some s) r criteria at e t = subst Yes (ap is_some (sym t ∙ (ap (λ o. ended_in o) at ∙ e))) tt
  where
    ended_in : Option Reading → Option Criteria
    ended_in None = None
    ended_in (Some s) = ended s

at_end : (size : ℕ) (placed : List Placed) (r : Reading) → Known (tokens_in placed) r → (o : Option Criteria) → ended r ≡ o → IfEnded r (tokens_in placed) o → IfFits o
    → Outcome size placed (end_outcome size o)
at_end size placed r k None e same fits =
    ends_early k.stand (λ criteria fit is. ended_is (run Start (tokens_in placed)) r criteria k.at e (subst (λ t. RunsTo (run Start t) criteria) is (criteria-run criteria fit)))
at_end size placed r k (Some criteria) e same fits = (same, fits)

abbrev one_run : Option Reading → Option Reading
one_run o = elim o [ None ↦ None | Some s ↦ Some s ]

known-more : (seen : List Token) (r s : Reading) (token : Token) → Known seen r → next r token ≡ Some s → Known (seen ++ token ∷ []) s
known-more seen r s token k e = record {
  at = run-append Start seen (token ∷ []) ∙ (ap (λ o. then_run o (token ∷ [])) k.at ∙ ap one_run e);
  holds = subst (λ o. IfNext o (λ s. Holding s (seen ++ token ∷ []))) e (next-holds r seen k.holds token);
  fits = subst (λ o. IfNext o Fits) e (next-fits r k.fits token);
  stand = each-more [] seen token k.stand (stands r seen k.holds k.fits token (ap is_some e));
}

read-step : (size : ℕ) (seen : List Placed) (p : Placed) (others : List Placed) (r : Reading) → Known (tokens_in seen) r → (o : Option Reading) → next r p.token ≡ o
    → ((s : Reading) → Known (tokens_in (seen ++ p ∷ [])) s → Outcome size ((seen ++ p ∷ []) ++ others) (read_on size s others))
    → Outcome size (seen ++ p ∷ others) (elim o [ None ↦ Err p.at | Some s ↦ read_on size s others ])
read-step size seen p others r k None e go = misplaced seen others p refl k.stand (stands_not r (tokens_in seen) k.at p.token (ap is_some e))
read-step size seen p others r k (Some s) e go =
    subst (λ l. Outcome size l (read_on size s others)) (append_assoc seen (p ∷ []) others)
    (go s (subst (λ t. Known t s) (sym (tokens_in-more seen p)) (known-more (tokens_in seen) r s p.token k e)))

read-on : (size : ℕ) (seen left : List Placed) (r : Reading) → Known (tokens_in seen) r → Outcome size (seen ++ left) (read_on size r left)
read-on size seen [] r k =
    subst (λ l. Outcome size l (end_outcome size (ended r))) (append_nil seen)
    (at_end size seen r k (ended r) refl (ended-holds r (tokens_in seen) k.holds) (ended-fits r k.fits))
read-on size seen (p ∷ others) r k = read-step size seen p others r k (next r p.token) refl (λ s known. read-on size (seen ++ p ∷ []) others s known)

pub outcome-holds : (size : ℕ) (placed : List Placed) → Outcome size placed (read_on size Start placed)
outcome-holds size placed = read-on size [] placed Start (record { at = refl; holds = refl; fits = tt; stand = tt })

-- ---- and no other outcome

-- tokens that stand lead on
record Reached (front : List Token) (r : Reading) (tokens : List Token) : Type 0 where
  to : Reading
  is : run r tokens ≡ Some to
  known : Known (front ++ tokens) to

reach-step : (front : List Token) (r : Reading) (x : Token) (xs : List Token) (o : Option Reading) → next r x ≡ o → (is_some o ≡ false → ⊥)
    → ((s : Reading) → next r x ≡ Some s → Reached (front ++ x ∷ []) s xs) → (s : Reading) × ((elim o [ None ↦ None | Some t ↦ run t xs ]) ≡ Some s) × Known (front ++ x ∷ xs) s
reach-step front r x xs None e must go = absurd (must refl)
reach-step front r x xs (Some s) e must go =
    let g : Reached (front ++ x ∷ []) s xs = go s e in (g.to, g.is, subst (λ t. Known t g.to) (append_assoc front (x ∷ []) xs) g.known)

reach : (front : List Token) (r : Reading) → Known front r → (xs : List Token) → EachStands front xs → Reached front r xs
reach front r k [] e = record { to = r; is = refl; known = subst (λ t. Known t r) (nil front) k }
reach front r k (x ∷ xs) e =
    let g : (s : Reading) × (run r (x ∷ xs) ≡ Some s) × Known (front ++ x ∷ xs) s =
    reach-step front r x xs (next r x) refl (λ none. stands_not r front k.at x none e.0)
    (λ s n. reach (front ++ x ∷ []) s (known-more front r s x k n) xs e.1) in
    record { to = g.0; is = g.1; known = g.2 }

abbrev pub then_read : ℕ → Option Reading → List Placed → Result Criteria ℕ → Result Criteria ℕ
then_read size None left other = other
then_read size (Some r) left other = read_on size r left

read-by : (o : Option Reading) (size at : ℕ) (xs left : List Placed) (s : Reading) → (elim o [ None ↦ None | Some t ↦ run t (tokens_in xs) ]) ≡ Some s
    → ((t : Reading) → run t (tokens_in xs) ≡ Some s → read_on size t (xs ++ left) ≡ read_on size s left)
    → (elim o [ None ↦ Err at | Some t ↦ read_on size t (xs ++ left) ]) ≡ read_on size s left
read-by None size at xs left s e go = absurd (subst No (ap is_some e) tt)
read-by (Some t) size at xs left s e go = go t e

read-append : (size : ℕ) (r : Reading) (xs left : List Placed) (s : Reading) → run r (tokens_in xs) ≡ Some s → read_on size r (xs ++ left) ≡ read_on size s left
read-append size r [] left s e = ap (λ o. then_read size o left (Err 0)) e
read-append size r (x ∷ xs) left s e = read-by (next r x.token) size x.at xs left s e (λ t f. read-append size t xs left s f)

no-further : (size : ℕ) (p : Placed) (after : List Placed) (o : Option Reading) → (is_some o ≡ true → ⊥) → ◌≡◌ {A = Result Criteria ℕ} (elim o [ None ↦ Err p.at | Some s ↦ read_on size s after ]) (Err p.at)
no-further size p after None never = refl
no-further size p after (Some s) never = absurd (never refl)

ends-none : (size : ℕ) (o : Option Criteria) → ((c : Criteria) → o ≡ Some c → ⊥) → end_outcome size o ≡ Err size
ends-none size None never = refl
ends-none size (Some c) never = absurd (never c refl)

runs-end : (size : ℕ) (o : Option Reading) (criteria : Criteria) → RunsTo o criteria → (s : Reading) × (o ≡ Some s) × (ended s ≡ Some criteria)
runs-end size None criteria t = absurd t
runs-end size (Some s) criteria t = (s, refl, t)

known-start : Known [] Start
known-start = record { at = refl; holds = refl; fits = tt; stand = tt }

same-end : (r : Reading) (tokens : List Token) (o : Option Criteria) (criteria : Criteria) → o ≡ Some criteria → IfEnded r tokens o → IfFits o
    → (criteria_tokens criteria ≡ tokens) × CriteriaFit 16 criteria
same-end r tokens o criteria e same fits = (subst (λ x. IfEnded r tokens x) e same, subst IfFits e fits)

faulty-given : (size : ℕ) (placed : List Placed) (at : ℕ) → Faulty size placed at → read_on size Start placed ≡ Err at
faulty-given size placed at (misplaced before after bad same stand cannot) =
    let g : Reached [] Start (tokens_in before) = reach [] Start known-start (tokens_in before) stand in
    ap (read_on size Start) same
    ∙ (read-append size Start before (bad ∷ after) g.to g.is
    ∙ no-further size bad after (next g.to bad.token) (λ yes. cannot (stands g.to (tokens_in before) g.known.holds g.known.fits bad.token yes)))
faulty-given size placed at (ends_early stand none) =
    let g : Reached [] Start (tokens_in placed) = reach [] Start known-start (tokens_in placed) stand in
    ap (read_on size Start) (append_nil placed)
    ∙ (read-append size Start placed [] g.to g.is
    ∙ ends-none size (ended g.to) (λ c e.
    let h : (criteria_tokens c ≡ tokens_in placed) × CriteriaFit 16 c = same-end g.to (tokens_in placed) (ended g.to) c e (ended-holds g.to (tokens_in placed) g.known.holds) (ended-fits g.to g.known.fits) in
    none c h.1 h.0))

pub outcome-given : (size : ℕ) (placed : List Placed) (outcome : Result Criteria ℕ) → Outcome size placed outcome → read_on size Start placed ≡ outcome
outcome-given size placed (Ok criteria) h =
    let g : (s : Reading) × (run Start (criteria_tokens criteria) ≡ Some s) × (ended s ≡ Some criteria) = runs-end size (run Start (criteria_tokens criteria)) criteria (criteria-run criteria h.1) in
    ap (read_on size Start) (append_nil placed)
    ∙ (read-append size Start placed [] g.0 (ap (run Start) (sym h.0) ∙ g.1) ∙ ap (end_outcome size) g.2)
outcome-given size placed (Err at) h = faulty-given size placed at h
