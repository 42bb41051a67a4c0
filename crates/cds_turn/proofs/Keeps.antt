-- Each kind of step keeps the rule, and tells what it says that it tells.
use Rattle.std.proofs.Common.{◌≡◌, ◌≢◌, ℕ, zero, suc, ◌+◌, ◌-◌, ◌%◌, ◌^◌, ◌<◌, ◌≤◌, Bool, List, [], ◌∷◌, ◌++◌, length, length-append, get_or, set, sym, refl, ap, ◌∙◌, subst, ⊎_elim, inl, inr, arith, rules, Option, Some, None, IsSome, IfSome}
use mathlib.Core.Logic.{dite}
use mathlib.Core.Option.{none, some, some-injective, some-ne-none}
use mathlib.Core.Option as maybe
use native.Mathlib.Decide.{ℕ_discrete}
use lib.ListN.{get_elem?}
use lib.Seq.{set-get_or}
use Rattle.std.specs.List.{count_by}
use Rattle.std.proofs.Math.Nat.{mod-add-mod}
use Rattle.atomic_table.specs.Table.{State, Me, step, keeps, takes, gives, put_back, rest, stepped, Allows, Splits, Joins, opening, Final, Seen}
use Rattle.atomic_table.proofs.Lists.{set_else, set_again, one_turn}
use Rattle.cds_turn.specs.declared.view.View.{View}
use Rattle.cds_turn.specs.Line.{Extends, IsKnown, StandsBeyond, Ended, EndsHome, EndsOpen, one_if, tickets, passes, own_count, newcomer, spent, Fits, InLine, Kept}
use Rattle.atomic_table.specs.declared.shared.Seat.{Seat}
use Rattle.cds_turn.specs.Moves.{at_rest, waiting, having, adding, served, stays, parts, both, settled, Draws, Adds, Passes, Settles, Looks}
use Rattle.cds_turn.proofs.Lists.{extends_more, extends_nothing, begins, longer_is, longer_whole, whole}
use Rattle.cds_turn.proofs.Sums.{total_at, total_set, total_le, total_none, count_append, each_set, set_at_own, one_there}
use Rattle.cds_turn.proofs.Standing.{none_of, ticket_le, has_pass, own_or, widened, apart_set, held_set, known_set, known_left, placed_set, moved, arrived, few_out}

module _ {C T : Type 0} where
  -- both lists of two seats that were joined are no longer than what the one seat has seen
  pub joined_shorter : (v w : View C T) (i : ℕ) (e : List C) → get_elem? (both v w).older i ≡ some e → length e ≤ length (both v w).seen
  joined_shorter v w zero e at = let n = ap length (some-injective v.seen e at) in let long = (longer_is v.seen w.seen).0 in omega arith
  joined_shorter v w (suc zero) e at = let n = ap length (some-injective w.seen e at) in let long = (longer_is v.seen w.seen).1 in omega arith
  joined_shorter v w (suc (suc i)) e at = absurd (some-ne-none e (sym at))

module _ {S C T : Type 0} where
  -- a seat with no slot, ticket, turn or older list is at rest
  pub rests_of : (seat : Seat S (View C T)) → seat.me.1 ≡ [] → seat.me.0.older ≡ [] → seat.me.0.ticket ≡ None → seat.me.0.found ≡ None → seat ≡ at_rest seat
  rests_of seat no_slot no_older no_ticket no_turn = λ i. record seat { me = (record seat.me.0 { older = no_older i; ticket = no_ticket i; found = no_turn i }, no_slot i) }

module _ {V C T : Type 0} (stands : V → T → List C → Type 0) (start : T) (seats : ℕ) where
  abbrev M : Type 0
  M = Me (Option V) (View C T)

  abbrev S : Type 0
  S = State (Option V) (View C T)

  abbrev Rule : S → Type 0
  Rule = Kept stands start seats

  -- a seat that says its start was not joined into another
  not_spent : (s : S) (r : InLine stands start seats s) (id : ℕ) (v : View C T) → get_elem? s.views id ≡ some v → v.start ≡ Some start → 0 < v.passes
  not_spent s r id v at begun = ⊎_elim (λ (e : v ≡ spent). let h : Some start ≡ None = sym begun ∙ ap (λ (z : View C T). z.start) e in absurd (cc)) (λ h. h) (r.each id v at).alive

  pub draws : (slots id : ℕ) (me : M) → me.0.start ≡ Some start → me.0.ticket ≡ None → me.0.found ≡ None
      → Allows Rule slots id me 0 (λ n. (n + 1) % 2 ^ 64) (Draws (step slots 0 1 0 none) me)
  draws slots id me begun no_ticket no_turn s k _ at _ = let r = k.1 in let v : View C T = me.0 in let w : View C T = waiting v r.drawn in let f = r.each id v at in
      let some_pass = not_spent s r id v at begun in let counted = r.count in let none_out : one_if v.ticket ≡ 0 = ap one_if no_ticket in (
        w,
        keeps,
        tt,
        (
          k.0,
          moved stands start seats seats s r id v w at (set s.words 0 ((get_or s.words 0 0 + 1) % 2 ^ 64)) s.homes r.served (r.drawn + 1) r.list
              (ap (λ (ws : List ℕ). set ws 0 ((get_or ws 0 0 + 1) % 2 ^ 64)) r.words ∙ ap (λ (n : ℕ). n ∷ r.served % 2 ^ 64 ∷ length r.list % 2 ^ 64 ∷ []) (mod-add-mod r.drawn (2 ^ 64) 1))
              (omega arith) refl (λ test. refl)
              (record {
                alive = inr some_pass;
                starts = f.starts;
                in_line = λ t e. let same : r.drawn ≡ t = cc in (omega arith, omega arith);
                begun = f.begun;
                older = f.older;
                turn = λ l e. let h : None ≡ Some l = sym no_turn ∙ e in absurd (cc);
              })
              (λ j u _ there. let g = r.each j u there in widened start r.served r.drawn r.served (r.drawn + 1) r.list u g (omega arith) (λ t e. (g.in_line t e).0) (λ l e. (g.turn l e).0))
              (λ t e. let same : r.drawn ≡ t = cc in inr (omega arith))
              (λ t from below. dite (ℕ_discrete r.drawn t) (λ same. inl (ap Some same)) (λ other. inr (from, omega arith, λ e. let h : None ≡ Some t = sym no_ticket ∙ e in absurd (cc))))
              (placed_set stands start r.list s (set s.words 0 ((get_or s.words 0 0 + 1) % 2 ^ 64)) id v w at no_turn no_turn (known_set r.list s.views id v w at (λ e. e)) r.placed),
        ),
        (r.drawn, ap (λ (ws : List ℕ). get_or ws 0 0) r.words, refl),
      )

  -- a load that changes nothing
  unchanged : (s : S) (i id : ℕ) (me : M) → Rule s → get_elem? s.views id ≡ some me.0 → Rule (stepped s i (get_or s.words i 0) id me.1 me.0 keeps)
  unchanged s i id me k at = subst (λ (z : List ℕ × List (View C T)). Rule record { words = z.0; homes = s.homes; views = z.1 }) (λ n. (sym (set-get_or s.words i 0) n, sym (set_again s.views id me.0 at) n)) k

  -- the ticket that is served is the seat's own
  own_ticket : (s : S) (k : Rule s) (id t : ℕ) (v : View C T) → get_elem? s.views id ≡ some v → v.ticket ≡ Some t → get_or s.words 1 0 ≡ t % 2 ^ 64 → k.1.served ≡ t
  own_ticket s k id t v at mine e = let r = k.1 in let p = (r.each id v at).in_line t mine in let few = few_out stands start seats s r in let small = k.0 in
      one_turn r.served t (2 ^ 64) p.0 (omega arith) (sym (ap (λ (ws : List ℕ). get_or ws 1 0) r.words) ∙ e)

  -- where a seat that waits is served, the value is at home
  at_home : (s : S) (r : InLine stands start seats s) (id : ℕ) (v : View C T) → get_elem? s.views id ≡ some v → v.ticket ≡ Some r.served → v.found ≡ None
      → (value : V) × (s.homes ≡ some (Some value) ∷ []) × stands value start r.list × IsKnown r.list s.views
  at_home s r id v at mine no_turn = ⊎_elim (λ p. (p.0, p.1, p.2, p.4))
      (λ p. let j : ℕ = p.1.0 in let u : View C T = p.1.1 in let has = (r.each j u p.1.2).turn r.list p.1.3 in let same : id ≡ j = r.apart id j v u r.served at p.1.2 mine has.0 in
      let one : v ≡ u = one_there s.views id v u at (subst (λ (n : ℕ). get_elem? s.views n ≡ some u) (sym same) p.1.2) in
      let h : None ≡ Some r.list = sym no_turn ∙ (ap (λ (z : View C T). z.found) one ∙ p.1.3) in absurd (cc))
      r.placed

  -- where a seat has all passes, every other one was joined into another
  others_spent : (s : S) (r : InLine stands start seats s) (id : ℕ) (v : View C T) → get_elem? s.views id ≡ some v → v.passes ≡ seats
      → (j : ℕ) (u : View C T) → j ≢ id → get_elem? s.views j ≡ some u → u ≡ spent
  others_spent s r id v at all j u away there = let others = total_set passes s.views id v spent at in let shares = r.shares in
      let one = total_at passes (set s.views id spent) j u (set_else s.views id j spent away ∙ there) in
      ⊎_elim (λ e. e) (λ (more : 0 < u.passes). absurd (omega arith)) (r.each j u there).alive

  -- a seat with all passes has seen the whole list
  lone : (s : S) (r : InLine stands start seats s) (id : ℕ) (v : View C T) → get_elem? s.views id ≡ some v → v.passes ≡ seats → IsKnown r.list s.views → r.list ≡ v.seen
  lone s r id v at all k = dite (ℕ_discrete k.0 id)
      (λ same. let one = one_there s.views id k.1 v (subst (λ n. get_elem? s.views n ≡ some k.1) same k.2) at in sym k.3 ∙ ap (λ (z : View C T). z.seen) one)
      (λ away. let gone = others_spent s r id v at all k.0 k.1 away k.2 in
      let none_seen : length r.list ≡ 0 = ap length (sym k.3 ∙ ap (λ (z : View C T). z.seen) gone) in
      whole r.list v.seen (r.each id v at).begun (omega arith))

  -- and each command of the list is its own
  all_own : (s : S) (r : InLine stands start seats s) (id : ℕ) (v : View C T) → get_elem? s.views id ≡ some v → v.passes ≡ seats → (test : C → Bool) → count_by test r.list ≡ own_count test v
  all_own s r id v at all test = let others = total_set (own_count test) s.views id v spent at in let owned = r.owned test in
      let zeros = total_none (own_count test) (set s.views id spent)
      (each_set (λ _ u. own_count test u ≡ 0) s.views id spent refl (λ j u away there. ap (own_count test) (others_spent s r id v at all j u away there))) in
      omega arith

  pub looks : (slots id : ℕ) (me : M) (all t : ℕ) → all ≡ seats → me.0.ticket ≡ Some t → me.0.found ≡ None → me.1 ≡ [] → Allows Rule slots id me 1 (λ n. n) (Looks stands all (step slots 1 0 0 none) me)
  looks slots id me all t is_all mine no_turn empty s k _ at _ = let r = k.1 in let v : View C T = me.0 in let f = r.each id v at in dite (ℕ_discrete (get_or s.words 1 0) (t % 2 ^ 64))
      (λ hit. let now : r.served ≡ t = own_ticket s k id t v at mine hit in let own : v.ticket ≡ Some r.served = mine ∙ ap Some (sym now) in let home = at_home s r id v at own no_turn in
      let value : V = home.0 in let w : View C T = having v r.list in let still : set s.words 1 (get_or s.words 1 0) ≡ s.words = set-get_or s.words 1 0 in (
        w,
        takes 0 (Some value),
        ap (λ (hs : List (maybe.Option (Option V))). get_elem? hs 0) home.1,
        (
          k.0,
          moved stands start seats seats s r id v w at (set s.words 1 (get_or s.words 1 0)) (set s.homes 0 none) r.served r.drawn r.list (still ∙ r.words) (omega arith) refl (λ test. refl)
              (record {
                alive = inr (has_pass start r.served r.drawn r.list v f t mine);
                starts = f.starts;
                in_line = f.in_line;
                begun = f.begun;
                older = f.older;
                turn = λ l e. let same : r.list ≡ l = cc in (own, sym same);
              })
              (λ j u _ there. r.each j u there) (λ n e. inl e)
              (own_or r.served r.drawn v)
              (inr (ap (λ (hs : List (maybe.Option (Option V))). set hs 0 none) home.1, (id, w, set_at_own s.views id v w at, refl))),
        ),
        λ t' mine'. let same : t ≡ t' = cc in inl (
          hit ∙ ap (λ (n : ℕ). n % 2 ^ 64) same,
          (r.list, value, (λ n. (w, (0, Some value) ∷ empty n)), (λ st e. subst (λ (z : T). stands value z r.list) (sym (f.starts st e)) home.2), f.begun, (λ e. lone s r id v at (e ∙ is_all) home.3), (λ e test. sym (all_own s r id v at (e ∙ is_all) test) ∙ ap (count_by test) (lone s r id v at (e ∙ is_all) home.3))),
        ),
      ))
      (λ miss. (me.0, keeps, tt, unchanged s 1 id me k at, λ t' mine'. let same : t ≡ t' = cc in inr ((λ e. miss (e ∙ ap (λ (n : ℕ). n % 2 ^ 64) (sym same))), refl)))

  -- a seat that has the turn is the only one
  alone : (s : S) (r : InLine stands start seats s) (id : ℕ) (v : View C T) (l : List C) → get_elem? s.views id ≡ some v → v.found ≡ Some l
      → (j : ℕ) (u : View C T) → j ≢ id → get_elem? s.views j ≡ some u → (u.ticket ≢ Some r.served) × ((m : List C) → u.found ≢ Some m)
  alone s r id v l at has j u away there = let own = ((r.each id v at).turn l has).0 in
      let not = λ (e : u.ticket ≡ Some r.served). away (sym (r.apart id j v u r.served at there own e)) in (not, λ m e. not ((r.each j u there).turn m e).0)

  pub adds : (slots id : ℕ) (me : M) (added : List C → List C) (n : ℕ) (l : List C) → me.0.found ≡ Some l → n ≡ length (added l)
      → Allows Rule slots id me 2 (λ k. (k + n) % 2 ^ 64) (Adds added (step slots 2 n 0 none) me)
  adds slots id me added n l has many s k _ at _ = let r = k.1 in let v : View C T = me.0 in let f = r.each id v at in let own = f.turn l has in let longer' : List C = added l ++ l in
      let w : View C T = adding v (added l) l in let sum : length r.list + n ≡ length longer' = let a = length-append (added l) l in let b = ap length own.1 in omega arith in (
        w,
        keeps,
        tt,
        (
          k.0,
          moved stands start seats seats s r id v w at (set s.words 2 ((get_or s.words 2 0 + n) % 2 ^ 64)) s.homes r.served r.drawn longer'
              (ap (λ (ws : List ℕ). set ws 2 ((get_or ws 2 0 + n) % 2 ^ 64)) r.words ∙ ap (λ (z : ℕ). r.drawn % 2 ^ 64 ∷ r.served % 2 ^ 64 ∷ z ∷ []) (mod-add-mod (length r.list) (2 ^ 64) n ∙ ap (λ (z : ℕ). z % 2 ^ 64) sum))
              (omega arith) refl
              (λ test. let a = count_append test (added l) l in let b = count_append test (added l) v.own in let same = ap (count_by test) own.1 in omega arith)
              (record {
                alive = inr (has_pass start r.served r.drawn r.list v f r.served own.0);
                starts = f.starts;
                in_line = f.in_line;
                begun = longer_begins (v.seen) f.begun;
                older = λ i e there. longer_begins e (f.older i e there);
                turn = λ m e. let same : longer' ≡ m = cc in (own.0, sym same);
              })
              (λ j u away there. let g = r.each j u there in record {
                alive = g.alive;
                starts = g.starts;
                in_line = g.in_line;
                begun = longer_begins (u.seen) g.begun;
                older = λ i e at. longer_begins e (g.older i e at);
                turn = λ m e. absurd ((alone s r id v l at has j u away there).1 m e);
              })
              (λ t e. inl e) (own_or r.served r.drawn v)
              (⊎_elim (λ p. let h : None ≡ Some l = sym (p.3 id v at) ∙ has in absurd (cc)) (λ p. inr (p.0, (id, w, set_at_own s.views id v w at, refl))) r.placed),
        ),
        λ m e. let same : l ≡ m = cc in ap (λ (z : List C). (adding v (added z) z, me.1)) same,
      )
    where
      longer_begins : (seen : List C) → Extends k.1.list seen → Extends (added l ++ l) seen
      longer_begins seen e = let own = ((k.1.each id me.0 at).turn l has).1 in extends_more (added l) l seen (subst (λ (z : List C). Extends z seen) (sym own) e)

  pub passes_on : (slots id : ℕ) (me : M) (l : List C) (value : V) → me.0.found ≡ Some l → me.1 ≡ (0, Some value) ∷ [] → stands value start l
      → Allows Rule slots id me 1 (λ n. (n + 1) % 2 ^ 64) (Passes (step slots 1 1 0 none) me)
  passes_on slots id me l value has carried stands_now s k _ at _ = let r = k.1 in let v : View C T = me.0 in let f = r.each id v at in let own = f.turn l has in let w : View C T = served v l in
      let mine = f.in_line r.served own.0 in let one_out : one_if v.ticket ≡ 1 = ap one_if own.0 in let out = home_is_empty s r id v l at has in (
        w,
        gives,
        tt,
        (
          k.0,
          moved stands start seats seats s r id v w at (set s.words 1 ((get_or s.words 1 0 + 1) % 2 ^ 64)) (put_back s.homes me.1) (r.served + 1) r.drawn r.list
              (ap (λ (ws : List ℕ). set ws 1 ((get_or ws 1 0 + 1) % 2 ^ 64)) r.words ∙ ap (λ (n : ℕ). r.drawn % 2 ^ 64 ∷ n ∷ length r.list % 2 ^ 64 ∷ []) (mod-add-mod r.served (2 ^ 64) 1))
              (omega arith) refl (λ test. refl)
              (record {
                alive = inr (has_pass start r.served r.drawn r.list v f r.served own.0);
                starts = f.starts;
                in_line = λ t e. absurd (cc);
                begun = ([], sym own.1);
                older = f.older;
                turn = λ m e. absurd (cc);
              })
              (λ j u away there. let g = r.each j u there in let not = alone s r id v l at has j u away there in
              widened start r.served r.drawn (r.served + 1) r.drawn r.list u g (omega arith)
              (λ t e. let p = g.in_line t e in dite (ℕ_discrete t r.served) (λ same. absurd (not.0 (e ∙ ap Some same))) (λ other. omega arith)) (λ m e. absurd (not.1 m e)))
              (λ t e. absurd (cc))
              (λ t from below. inr (omega arith, below, λ e. let same : Some r.served ≡ Some t = sym own.0 ∙ e in let one : r.served ≡ t = cc in absurd (omega arith)))
              (inl (
                value,
                (λ n. put_back (out n) (carried n)),
                subst (λ (z : List C). stands value start z) own.1 stands_now,
                each_set (λ j u. u.found ≡ None) s.views id w refl (λ j u away there. none_of u.found (λ m e. (alone s r id v l at has j u away there).1 m e)),
                (id, w, set_at_own s.views id v w at, own.1),
              )),
        ),
        λ m e. let same : l ≡ m = cc in λ n. (served v (same n), rest (carried n)),
      )
    where
      home_is_empty : (s : S) (r : InLine stands start seats s) (id : ℕ) (v : View C T) (l : List C) → get_elem? s.views id ≡ some v → v.found ≡ Some l → s.homes ≡ none ∷ []
      home_is_empty s r id v l at has = ⊎_elim (λ p. let h : None ≡ Some l = sym (p.3 id v at) ∙ has in absurd (cc)) (λ p. p.0) r.placed

  pub settles : (slots id : ℕ) (me : M) → me.0.start ≡ Some start → me.0.found ≡ None → ((i : ℕ) (e : List C) → get_elem? me.0.older i ≡ some e → length e ≤ length me.0.seen)
      → Allows Rule slots id me 0 (λ n. n) (Settles (step slots 0 0 0 none) me)
  settles slots id me begun no_turn shorter s k _ at _ = let r = k.1 in let v : View C T = me.0 in let f = r.each id v at in let w : View C T = settled v in let some_pass = not_spent s r id v at begun in
      let still : set s.words 0 (get_or s.words 0 0) ≡ s.words = set-get_or s.words 0 0 in (
        w,
        keeps,
        tt,
        (
          k.0,
          moved stands start seats seats s r id v w at (set s.words 0 (get_or s.words 0 0)) s.homes r.served r.drawn r.list (still ∙ r.words) (omega arith) refl (λ test. refl)
              (record { alive = inr some_pass; starts = f.starts; in_line = f.in_line; begun = f.begun; older = λ i e there. absurd (some-ne-none e (sym there)); turn = f.turn })
              (λ j u _ there. r.each j u there) (λ t e. inl e) (own_or r.served r.drawn v) (placed_set stands start r.list s (set s.words 0 (get_or s.words 0 0)) id v w at no_turn no_turn (known_set r.list s.views id v w at (λ e. e)) r.placed),
        ),
        (refl, λ i e there. begins r.list v.seen e f.begun (f.older i e there) (shorter i e there)),
      )

  pub splits : (id : ℕ) (v : View C T) → v.start ≡ Some start → v.ticket ≡ None → v.found ≡ None → 2 ≤ v.passes → Splits Rule id v (stays v) (parts v)
  splits id v begun no_ticket no_turn two s k at = let r = k.1 in let f = r.each id v at in let all = total_at passes s.views id v at in let shares = r.shares in let w : View C T = stays v in
      let first = moved stands start seats (seats - 1) s r id v w at s.words s.homes r.served r.drawn r.list r.words (omega arith) (omega arith) (λ test. refl)
      (record { alive = inr (omega arith); starts = f.starts; in_line = f.in_line; begun = f.begun; older = f.older; turn = f.turn })
      (λ j u _ there. r.each j u there) (λ t e. inl e) (own_or r.served r.drawn v) (placed_set stands start r.list s s.words id v w at no_turn no_turn (known_set r.list s.views id v w at (λ e. e)) r.placed) in
      let now : S = record { words = s.words; homes = s.homes; views = set s.views id w } in let g = first.each id w (set_at_own s.views id v w at) in
      let second = arrived stands start (seats - 1) now first (parts v) no_ticket no_turn refl (record {
        alive = inr (omega arith);
        starts = g.starts;
        in_line = g.in_line;
        begun = g.begun;
        older = g.older;
        turn = g.turn;
      }) in let same : seats - 1 + 1 ≡ seats = omega arith in
      (k.0, subst (λ n. InLine stands start n record { words = s.words; homes = s.homes; views = set s.views id w ++ parts v ∷ [] }) same second)

  -- the rule says nothing of turns
  pub joins : (id : ℕ) (v : View C T) (other : ℕ) (w : View C T) (turns : ℕ) → v.start ≡ Some start → v.ticket ≡ None → v.found ≡ None → w.ticket ≡ None → w.found ≡ None
      → Joins Rule id v other w (record (both v w) { turns = turns }) spent
  joins id v other w turns begun no_ticket no_turn no_ticket' no_turn' s k at apart there = let r = k.1 in let f = r.each id v at in let some_pass = not_spent s r id v at begun in let z : View C T = record (both v w) { turns = turns } in
      let there' : get_elem? s.views other ≡ some w = sym (set_else s.views id other z apart) ∙ there in let g = r.each other w there' in
      let now : S = record { words = s.words; homes = s.homes; views = set s.views id z } in let none_out : one_if w.ticket ≡ 0 = ap one_if no_ticket' in
      let mine : Fits start r.served r.drawn r.list z = record {
        alive = inr (omega arith);
        starts = f.starts;
        in_line = f.in_line;
        begun = ⊎_elim (λ e. subst (λ (m : List C). Extends r.list m) (sym e) f.begun) (λ e. subst (λ (m : List C). Extends r.list m) (sym e) g.begun) (longer_is v.seen w.seen).2;
        older = one_of r.list v.seen w.seen f.begun g.begun;
        turn = f.turn;
      } in
      let first : (j : ℕ) (u : View C T) → get_elem? now.views j ≡ some u → Fits start r.served r.drawn r.list u = each_set (λ _ u. Fits start r.served r.drawn r.list u) s.views id z mine (λ j u _ at'. r.each j u at') in
      let known = known_left r.list now.views id other z w (set_at_own s.views id v z at) there apart
      (λ e. let n = ap length e in let long = (longer_is v.seen w.seen).1 in sym (whole r.list z.seen mine.begun (omega arith))) in (
        k.0,
        record {
          served = r.served;
          drawn = r.drawn;
          list = r.list;
          words = r.words;
          count = let a = total_set tickets s.views id v z at in let b = total_set tickets now.views other w spent there in let counted = r.count in omega arith;
          shares = let a = total_set passes s.views id v z at in let b = total_set passes now.views other w spent there in let shares = r.shares in omega arith;
          owned = λ test. let a = total_set (own_count test) s.views id v z at in let b = total_set (own_count test) now.views other w spent there in let sum = count_append test v.own w.own in let owned = r.owned test in omega arith;
          each = each_set (λ _ u. Fits start r.served r.drawn r.list u) now.views other spent
              (record {
                alive = inl refl;
                starts = λ t e. absurd (cc);
                in_line = λ t e. absurd (cc);
                begun = extends_nothing r.list;
                older = λ i e at'. absurd (some-ne-none e (sym at'));
                turn = λ l e. absurd (cc);
              })
              (λ j u _ at'. first j u at');
          apart = apart_set now.views other w spent there (apart_set s.views id v z at r.apart (λ t e. inl e)) (λ t e. absurd (cc));
          held = held_set r.served r.drawn r.served r.drawn now.views other w spent there (held_set r.served r.drawn r.served r.drawn s.views id v z at r.held (own_or r.served r.drawn v))
              (λ t from below. inr (from, below, λ e. let h : None ≡ Some t = sym no_ticket' ∙ e in absurd (cc)));
          placed = placed_set stands start r.list now s.words other w spent there no_turn' refl known
              (placed_set stands start r.list s s.words id v z at no_turn no_turn (known_set r.list s.views id v z at (λ e. longer_whole r.list v.seen w.seen f.begun g.begun (inl e))) r.placed);
        },
      )
    where
      one_of : (list a b : List C) → Extends list a → Extends list b → (i : ℕ) (e : List C) → get_elem? (a ∷ b ∷ []) i ≡ some e → Extends list e
      one_of list a b ea eb zero e at = subst (λ (m : List C). Extends list m) (some-injective a e at) ea
      one_of list a b ea eb (suc zero) e at = subst (λ (m : List C). Extends list m) (some-injective b e at) eb
      one_of list a b ea eb (suc (suc i)) e at = absurd (some-ne-none e (sym at))

  pub opens : (value : V) → stands value start [] → 0 < seats → seats < 2 ^ 32 → Rule (opening (0 ∷ 0 ∷ 0 ∷ []) (Some value ∷ []) (newcomer start seats))
  opens value stands_now some_seat few = (
    few,
    record {
      served = 0;
      drawn = 0;
      list = [];
      words = refl;
      count = refl;
      shares = omega arith;
      owned = λ test. refl;
      each = λ j v e. subst (Fits start 0 0 []) (first_alone j v e).1 (record {
        alive = inr some_seat;
        starts = λ t e. let same : start ≡ t = cc in sym same;
        in_line = λ t e. absurd (cc);
        begun = ([], refl);
        older = λ i e at. absurd (some-ne-none e (sym at));
        turn = λ l e. absurd (cc);
      });
      apart = λ i j a b t ei ej ta tb. (first_alone i a ei).0 ∙ sym (first_alone j b ej).0;
      held = λ t from below. absurd (omega arith);
      placed = inl (value, refl, stands_now, (λ j v e. ap (λ (z : View C T). z.found) (sym (first_alone j v e).1)), (0, newcomer start seats, refl, refl));
    },
  )
    where
      first_alone : (j : ℕ) (v : View C T) → get_elem? (newcomer start seats ∷ []) j ≡ some v → (j ≡ 0) × (newcomer start seats ≡ v)
      first_alone zero v e = (refl, some-injective (newcomer start seats) v e)
      first_alone (suc j) v e = absurd (some-ne-none v (sym e))

  -- no ticket is out
  idle_home : (s : S) (r : InLine stands start seats s) → r.served ≡ r.drawn → (value : V) × (s.homes ≡ some (Some value) ∷ []) × stands value start r.list × IsKnown r.list s.views
  idle_home s r same = ⊎_elim (λ p. (p.0, p.1, p.2, p.4))
      (λ p. let f = r.each p.1.0 p.1.1 p.1.2 in let own = f.turn r.list p.1.3 in let in_line = f.in_line r.served own.0 in absurd (omega arith)) r.placed

  -- the state at the end, its two words and its slot
  pub ends : (words : List ℕ) (slots : List (Option V)) (id : ℕ) (v : View C T) (a b : ℕ) (slot : Option V) → Final (Seen Rule id v) words slots → v.ticket ≡ None
      → get_elem? words 0 ≡ some a → get_elem? words 1 ≡ some b → get_elem? slots 0 ≡ some slot
      → (last : Ended stands start seats id v) × (a ≡ last.rule.drawn % 2 ^ 64) × (b ≡ last.rule.served % 2 ^ 64) × (last.rule.served ≤ last.rule.drawn) × (last.rule.drawn + v.passes ≤ last.rule.served + seats)
      × (a ≡ b → (last.rule.drawn ≡ last.rule.served) × ((value : V) × (slot ≡ Some value) × (last.state.homes ≡ some (Some value) ∷ []) × stands value start last.rule.list × IsKnown last.rule.list last.state.views))
  ends words slots id v a b slot final no_ticket drawn_is served_is there = let s = final.0 in let r = final.1.0.1 in let small = final.1.0.0 in let at = final.1.1 in let here : s.words ≡ words = final.2 in
      let none_out : tickets v ≡ 0 = ap one_if no_ticket in let count = r.count in
      let others = total_set tickets s.views id v spent at in let passes_left = total_set passes s.views id v spent at in
      let le = total_le tickets passes (set s.views id spent) (each_set (λ _ u. tickets u ≤ passes u) s.views id spent (omega arith) (λ j u _ e. ticket_le start r.served r.drawn r.list u (r.each j u e))) in
      let shares = r.shares in
      let da : r.drawn % 2 ^ 64 ≡ a = some-injective (r.drawn % 2 ^ 64) a (sym (ap (λ (ws : List ℕ). get_elem? ws 0) (sym here ∙ r.words)) ∙ drawn_is) in
      let sb : r.served % 2 ^ 64 ≡ b = some-injective (r.served % 2 ^ 64) b (sym (ap (λ (ws : List ℕ). get_elem? ws 1) (sym here ∙ r.words)) ∙ served_is) in
      let few = few_out stands start seats s r in
      let idle : a ≡ b → r.served ≡ r.drawn = λ e. one_turn r.served r.drawn (2 ^ 64) (omega arith) (omega arith) (sb ∙ (sym e ∙ sym da)) in (
        record { state = s; few = small; rule = r; has_seat = at },
        sym da,
        sym sb,
        omega arith,
        omega arith,
        λ e. let h = idle_home s r (idle e) in let kept : get_elem? slots 0 ≡ some (Some h.0) = final.4 0 (Some h.0) (ap (λ (hs : List (maybe.Option (Option V))). get_elem? hs 0) h.1) in
            (sym (idle e), (h.0, sym (some-injective (Some h.0) slot (sym kept ∙ there)), h.1, h.2, h.3)),
      )

  -- how the table ends, for whatever stands in its two words and in its slot
  module _ (words : List ℕ) (slots : List (Option V)) (id : ℕ) (v : View C T) (a b : ℕ) (slot : Option V) (final : Final (Seen Rule id v) words slots) (no_ticket : v.ticket ≡ None)
      (drawn_is : get_elem? words 0 ≡ some a) (served_is : get_elem? words 1 ≡ some b) (there : get_elem? slots 0 ≡ some slot) where
    -- with all passes the two words are equal
    pub ends_equal : v.passes ≡ seats → a ≡ b
    ends_equal all = let e = ends words slots id v a b slot final no_ticket drawn_is served_is there in let one = e.4 in let two = e.3 in let same : e.0.rule.drawn ≡ e.0.rule.served = omega arith in
        e.1 ∙ (ap (λ (n : ℕ). n % 2 ^ 64) same ∙ sym e.2)

    pub ends_some : a ≡ b → IsSome slot
    ends_some same = let h = ((ends words slots id v a b slot final no_ticket drawn_is served_is there).5 same).1 in subst IsSome (sym h.1) (search rules)

    pub ends_beyond : a ≡ b → IfSome slot (StandsBeyond stands start v.seen)
    ends_beyond same = let e = ends words slots id v a b slot final no_ticket drawn_is served_is there in let h = (e.5 same).1 in
        subst (λ o. IfSome o (StandsBeyond stands start v.seen)) (sym h.1) (record { list = e.0.rule.list; stands_for = h.3; begun = (e.0.rule.each id v e.0.has_seat).begun })

    pub ends_seen : a ≡ b → v.passes ≡ seats → IfSome slot (λ value. stands value start v.seen)
    ends_seen same all = let e = ends words slots id v a b slot final no_ticket drawn_is served_is there in let h = (e.5 same).1 in
        subst (λ o. IfSome o (λ value. stands value start v.seen)) (sym h.1) (subst (stands h.0 start) (lone e.0.state e.0.rule id v e.0.has_seat all h.4) h.3)

    pub ends_home : a ≡ b → (value : V) → slot ≡ Some value → EndsHome stands start seats id v value
    ends_home same value is = let e = ends words slots id v a b slot final no_ticket drawn_is served_is there in let h = (e.5 same).1 in
        let both_are : Some h.0 ≡ Some value = sym h.1 ∙ is in record { last = e.0; over = (e.5 same).0; home = h.2 ∙ ap (λ o. some o ∷ []) both_are }

    pub ends_own : v.passes ≡ seats → (test : C → Bool) → count_by test v.own ≡ count_by test v.seen
    ends_own all test = let e = ends words slots id v a b slot final no_ticket drawn_is served_is there in let h = (e.5 (ends_equal all)).1 in
        sym (all_own e.0.state e.0.rule id v e.0.has_seat all test) ∙ ap (count_by test) (lone e.0.state e.0.rule id v e.0.has_seat all h.4)

    -- where they differ, tickets are out
    pub ends_open : a ≢ b → EndsOpen stands start seats id v a b
    ends_open differ = let e = ends words slots id v a b slot final no_ticket drawn_is served_is there in let order = e.3 in record {
      last = e.0;
      out = dite (ℕ_discrete e.0.rule.drawn e.0.rule.served) (λ same. absurd (differ (e.1 ∙ (ap (λ (n : ℕ). n % 2 ^ 64) same ∙ sym e.2)))) (λ other. omega arith);
      few = e.4;
      ticket_is = e.1;
      serving_is = e.2;
    }
