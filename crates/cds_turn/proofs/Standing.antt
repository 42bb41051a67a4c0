-- The rule after a step that changes one view, or that brings one more.
use Rattle.std.proofs.Common.{◌≡◌, ◌≢◌, ℕ, ◌+◌, ◌%◌, ◌^◌, ◌<◌, ◌≤◌, Bool, List, [], ◌∷◌, ◌++◌, length, set, sym, refl, ap, ◌∙◌, subst, ⊎_elim, ◌⊎◌, inl, inr, arith, Option, Some, None}
use mathlib.Core.Logic.{dite}
use mathlib.Core.Option.{none, some}
use mathlib.Core.Option as maybe
use native.Mathlib.Decide.{ℕ_discrete}
use lib.ListN.{get_elem?}
use Rattle.std.specs.List.{count_by}
use Rattle.atomic_table.specs.Table.{State}
use Rattle.atomic_table.proofs.Lists.{at_set, set_else, at_snoc, at_longer}
use Rattle.cds_turn.specs.declared.view.View.{View}
use Rattle.cds_turn.specs.Line.{one_if, tickets, passes, own_count, spent, Fits, AreApart, AreHeld, IsKnown, Placed, InLine}
use Rattle.cds_turn.proofs.Sums.{total_set, total_snoc, total_le, each_set, set_at_own, one_there}

abbrev pub some_of : {A : Type 0} → A → Option A → A
some_of d None = d
some_of d (Some x) = x

-- an answer that is no list is none
pub none_of : {A : Type 0} (o : Option A) → ((x : A) → o ≡ Some x → ⊥) → o ≡ None
none_of None not = refl
none_of (Some x) not = absurd (not x refl)

-- an answer is this number or it is not
is_or : (n : ℕ) (o : Option ℕ) → (o ≡ Some n) ⊎ (o ≢ Some n)
is_or n None = inr (λ (e : None ≡ Some n). cc)
is_or n (Some m) = dite (ℕ_discrete m n) (λ e. inl (ap Some e)) (λ other. inr (λ (e : Some m ≡ Some n). let same : m ≡ n = cc in other same))

module _ {C T : Type 0} where
  -- a seat with a ticket has a pass
  pub ticket_le : (start : T) (served drawn : ℕ) (list : List C) (v : View C T) → Fits start served drawn list v → tickets v ≤ passes v
  ticket_le start served drawn list v f = ⊎_elim (λ (e : v ≡ spent). let n : tickets v ≡ 0 = ap tickets e in omega arith)
      (λ (some_pass : 0 < v.passes). let n = one_at_most v.ticket in omega arith) f.alive
    where
      one_at_most : (o : Option ℕ) → one_if o ≤ 1
      one_at_most None = omega arith
      one_at_most (Some t) = omega arith

  pub has_pass : (start : T) (served drawn : ℕ) (list : List C) (v : View C T) → Fits start served drawn list v → (t : ℕ) → v.ticket ≡ Some t → 0 < v.passes
  has_pass start served drawn list v f t e = ⊎_elim (λ (is : v ≡ spent). let h : None ≡ Some t = sym (ap (λ (z : View C T). z.ticket) is) ∙ e in absurd (cc)) (λ h. h) f.alive

  -- a ticket that is out is the seat's own or another's
  pub own_or : (served drawn : ℕ) (v : View C T) (t : ℕ) → served ≤ t → t < drawn → (v.ticket ≡ Some t) ⊎ ((served ≤ t) × (t < drawn) × (v.ticket ≢ Some t))
  own_or served drawn v t from below = ⊎_elim (λ e. inl e) (λ other. inr (from, below, other)) (is_or t v.ticket)

  -- what another view says stays true where tickets are drawn, or the ticket served is not its own
  pub widened : (start : T) (served drawn served' drawn' : ℕ) (list : List C) (v : View C T) → Fits start served drawn list v → drawn ≤ drawn'
      → ((t : ℕ) → v.ticket ≡ Some t → served' ≤ t) → ((l : List C) → v.found ≡ Some l → v.ticket ≡ Some served') → Fits start served' drawn' list v
  widened start served drawn served' drawn' list v f more later own = record {
    alive = f.alive;
    starts = f.starts;
    in_line = λ t e. let p = f.in_line t e in let q = later t e in (q, omega arith);
    begun = f.begun;
    older = f.older;
    turn = λ l e. (own l e, (f.turn l e).1);
  }

  pub apart_set : (views : List (View C T)) (id : ℕ) (v w : View C T) → get_elem? views id ≡ some v → AreApart views
      → ((t : ℕ) → w.ticket ≡ Some t → (v.ticket ≡ Some t) ⊎ ((j : ℕ) (u : View C T) → get_elem? views j ≡ some u → u.ticket ≢ Some t)) → AreApart (set views id w)
  apart_set views id v w at apart own i j a b t ei ej ta tb = ⊎_elim
      (λ (p : (i ≡ id) × (w ≡ a)). ⊎_elim
      (λ (q : (j ≡ id) × (w ≡ b)). p.0 ∙ sym q.0)
      (λ (q : (j ≢ id) × (get_elem? views j ≡ some b)). p.0 ∙ other j b t q.1 (ap (λ (z : View C T). z.ticket) p.1 ∙ ta) tb)
      (at_set views id j w b ej))
      (λ (p : (i ≢ id) × (get_elem? views i ≡ some a)). ⊎_elim
      (λ (q : (j ≡ id) × (w ≡ b)). sym (other i a t p.1 (ap (λ (z : View C T). z.ticket) q.1 ∙ tb) ta) ∙ sym q.0)
      (λ (q : (j ≢ id) × (get_elem? views j ≡ some b)). apart i j a b t p.1 q.1 ta tb)
      (at_set views id j w b ej))
      (at_set views id i w a ei)
    where
      other : (k : ℕ) (u : View C T) (n : ℕ) → get_elem? views k ≡ some u → w.ticket ≡ Some n → u.ticket ≡ Some n → id ≡ k
      other k u n e tw tu = ⊎_elim (λ (h : v.ticket ≡ Some n). apart id k v u n at e h tu) (λ h. absurd (h k u e tu)) (own n tw)

  -- a ticket that is out is the new view's, or it was out and not the old one's
  pub held_set : (served drawn served' drawn' : ℕ) (views : List (View C T)) (id : ℕ) (v w : View C T) → get_elem? views id ≡ some v → AreHeld served drawn views
      → ((t : ℕ) → served' ≤ t → t < drawn' → (w.ticket ≡ Some t) ⊎ ((served ≤ t) × (t < drawn) × (v.ticket ≢ Some t))) → AreHeld served' drawn' (set views id w)
  held_set served drawn served' drawn' views id v w at was held t from below = ⊎_elim
      (λ (e : w.ticket ≡ Some t). (id, w, set_at_own views id v w at, e))
      (λ h. let k = was t h.0 h.1 in let away : k.0 ≢ id = λ e. h.2 (ap (λ (z : View C T). z.ticket) (sym (one_there views id k.1 v (subst (λ n. get_elem? views n ≡ some k.1) e k.2) at)) ∙ k.3) in
      (k.0, k.1, set_else views id k.0 w away ∙ k.2, k.3))
      (held t from below)

  -- another view is changed, or this one still has seen the whole list
  pub known_set : (list : List C) (views : List (View C T)) (id : ℕ) (v w : View C T) → get_elem? views id ≡ some v → (v.seen ≡ list → w.seen ≡ list) → IsKnown list views → IsKnown list (set views id w)
  known_set list views id v w at still k = dite (ℕ_discrete k.0 id)
      (λ same. let one = one_there views id k.1 v (subst (λ n. get_elem? views n ≡ some k.1) same k.2) at in
      (id, w, set_at_own views id v w at, still (sym (ap (λ (z : View C T). z.seen) one) ∙ k.3)))
      (λ away. (k.0, k.1, set_else views id k.0 w away ∙ k.2, k.3))

  -- one view is spent, and another has seen what it had
  pub known_left : (list : List C) (views : List (View C T)) (id other : ℕ) (z w : View C T) → get_elem? views id ≡ some z → get_elem? views other ≡ some w → other ≢ id
      → (w.seen ≡ list → z.seen ≡ list) → IsKnown list views → IsKnown list (set views other spent)
  known_left list views id other z w at there apart has k = dite (ℕ_discrete k.0 other)
      (λ same. let one = one_there views other k.1 w (subst (λ n. get_elem? views n ≡ some k.1) same k.2) there in
      (id, z, set_else views other id spent (λ e. apart (sym e)) ∙ at, has (sym (ap (λ (y : View C T). y.seen) one) ∙ k.3)))
      (λ away. (k.0, k.1, set_else views other k.0 spent away ∙ k.2, k.3))

module _ {V C T : Type 0} (stands : V → T → List C → Type 0) (start : T) where
  abbrev pub St : Type 0
  St = State (Option V) (View C T)

  abbrev pub Homes : Type 0
  Homes = List (maybe.Option (Option V))

  -- a seat that does not have the turn changes its view, and still does not have it
  pub placed_set : (list : List C) (s : St) (words : List ℕ) (id : ℕ) (v w : View C T) → get_elem? s.views id ≡ some v → v.found ≡ None → w.found ≡ None
      → (IsKnown list s.views → IsKnown list (set s.views id w)) → Placed stands start list s
      → Placed stands start list record { words = words; homes = s.homes; views = set s.views id w }
  placed_set list s words id v w at still after known = ⊎_elim
      (λ p. inl (p.0, p.1, p.2, each_set (λ j u. u.found ≡ None) s.views id w after (λ j u _ e. p.3 j u e), known p.4))
      (λ p. let j : ℕ = p.1.0 in let u : View C T = p.1.1 in let away : j ≢ id = λ e. let same = one_there s.views id u v (subst (λ k. get_elem? s.views k ≡ some u) e p.1.2) at in
      let h : Some list ≡ None = sym p.1.3 ∙ (ap (λ (z : View C T). z.found) same ∙ still) in cc
      in inr (p.0, (j, u, set_else s.views id j w away ∙ p.1.2, p.1.3)))

  pub moved : (seats seats' : ℕ) (s : St) (r : InLine stands start seats s) (id : ℕ) (v w : View C T) → get_elem? s.views id ≡ some v
      → (words : List ℕ) (homes : Homes) (served drawn : ℕ) (list : List C)
      → words ≡ drawn % 2 ^ 64 ∷ served % 2 ^ 64 ∷ length list % 2 ^ 64 ∷ []
      → served + one_if w.ticket + r.drawn ≡ drawn + one_if v.ticket + r.served
      → seats' + v.passes ≡ seats + w.passes
      → ((test : C → Bool) → count_by test list + own_count test v ≡ count_by test r.list + own_count test w)
      → Fits start served drawn list w
      → ((j : ℕ) (u : View C T) → j ≢ id → get_elem? s.views j ≡ some u → Fits start served drawn list u)
      → ((t : ℕ) → w.ticket ≡ Some t → (v.ticket ≡ Some t) ⊎ (r.drawn ≤ t))
      → ((t : ℕ) → served ≤ t → t < drawn → (w.ticket ≡ Some t) ⊎ ((r.served ≤ t) × (t < r.drawn) × (v.ticket ≢ Some t)))
      → Placed stands start list record { words = words; homes = homes; views = set s.views id w }
      → InLine stands start seats' record { words = words; homes = homes; views = set s.views id w }
  moved seats seats' s r id v w at words homes served drawn list is_words counts shares owns mine others own held placed = record {
    served = served;
    drawn = drawn;
    list = list;
    words = is_words;
    count = let a = total_set tickets s.views id v w at in let b = r.count in omega arith;
    shares = let a = total_set passes s.views id v w at in let b = r.shares in omega arith;
    owned = λ test. let a = total_set (own_count test) s.views id v w at in let b = r.owned test in let c = owns test in omega arith;
    each = each_set (λ _ u. Fits start served drawn list u) s.views id w mine others;
    apart = apart_set s.views id v w at r.apart (λ t e. ⊎_elim inl (λ (h : r.drawn ≤ t). inr (λ j u there tu. let p = (r.each j u there).in_line t tu in absurd (omega arith))) (own t e));
    held = held_set r.served r.drawn served drawn s.views id v w at r.held held;
    placed = placed;
  }

  -- one more seat, with no ticket and no commands of its own
  pub arrived : (seats : ℕ) (s : St) (r : InLine stands start seats s) (w : View C T) → w.ticket ≡ None → w.found ≡ None → w.own ≡ [] → Fits start r.served r.drawn r.list w
      → InLine stands start (seats + w.passes) record { words = s.words; homes = s.homes; views = s.views ++ w ∷ [] }
  arrived seats s r w no_ticket no_turn no_own mine = record {
    served = r.served;
    drawn = r.drawn;
    list = r.list;
    words = r.words;
    count = let a = total_snoc tickets s.views w in let n : tickets w ≡ 0 = ap one_if no_ticket in let b = r.count in omega arith;
    shares = let a = total_snoc passes s.views w in let b = r.shares in omega arith;
    owned = λ test. let a = total_snoc (own_count test) s.views w in let n : own_count test w ≡ 0 = ap (count_by test) no_own in let b = r.owned test in omega arith;
    each = λ j u e. ⊎_elim (r.each j u) (λ (same : w ≡ u). subst (Fits start r.served r.drawn r.list) same mine) (at_snoc s.views w u j e);
    apart = λ i j a b t ei ej ta tb. ⊎_elim
        (λ p. ⊎_elim (λ q. r.apart i j a b t p q ta tb) (λ (same : w ≡ b). let h : None ≡ Some t = sym no_ticket ∙ (ap (λ (z : View C T). z.ticket) same ∙ tb) in absurd (cc)) (at_snoc s.views w b j ej))
        (λ (same : w ≡ a). let h : None ≡ Some t = sym no_ticket ∙ (ap (λ (z : View C T). z.ticket) same ∙ ta) in absurd (cc))
        (at_snoc s.views w a i ei);
    held = λ t from below. let k = r.held t from below in (k.0, k.1, at_longer s.views (w ∷ []) k.0 k.1 k.2, k.3);
    placed = ⊎_elim
        (λ p. inl (
          p.0,
          p.1,
          p.2,
          λ j u e. ⊎_elim (p.3 j u) (λ (same : w ≡ u). ap (λ (z : View C T). z.found) (sym same) ∙ no_turn) (at_snoc s.views w u j e),
          (p.4.0, p.4.1, at_longer s.views (w ∷ []) p.4.0 p.4.1 p.4.2, p.4.3),
        ))
        (λ p. inr (p.0, (p.1.0, p.1.1, at_longer s.views (w ∷ []) p.1.0 p.1.1 p.1.2, p.1.3)))
        r.placed;
  }

  -- fewer tickets are out than there are seats
  pub few_out : (seats : ℕ) (s : St) (r : InLine stands start seats s) → r.drawn ≤ r.served + seats
  few_out seats s r = let a = total_le tickets passes s.views (λ j v e. ticket_le start r.served r.drawn r.list v (r.each j v e)) in let b = r.shares in let c = r.count in omega arith
