-- The life of a server that listens, put together from its parts.
use Rattle.std.proofs.Common.{◌≡◌, ◌≢◌, ◌⊎◌, inl, inr, ℕ, zero, suc, Bool, true, false, true≢false, ◌+◌, ◌-◌, ◌*◌, ◌/◌, ◌%◌, ◌^◌, ◌<◌, ◌≤◌, ◌==◌, min, List, [], ◌∷◌, ◌++◌, length, take, Option, Some, None, Result, Ok, Err, IsErrAnd, IfErr, IfOk, OnOk, refl, sym, ap, subst, ◌∙◌, append_assoc, append-nil, cond, nat_lt, is_some, unwrap_or, sum_by, div-add-mod', mod-lt, IfNone, IfSome, IsTrue, IsFalse, IsNone, arith, le_trans, length-append}
use Rattle.std.proofs.lemmas.Bool.Decides.{nat_tests}
use Rattle.std.proofs.lemmas.List.Sums.{sum_by-cons}
use Rattle.std.specs.Prelude.{⊤}
use Rattle.std.specs.List.{AllByRecursion}
use Rattle.cds_outside.specs.Asked.{Asked, ForClock, ForFolder, ForLink, OutsideRose}
use Rattle.cds_outside.specs.Entries.{FolderTold}
use Rattle.cds_outside.specs.declared.exterior.OutsideFault.{OutsideFault}
use Rattle.cds_outside.specs.declared.exterior.OutsideFault.TheVariants as outside_fault
use Rattle.cds_outside.specs.Outside.{Told, HoldsPart, Rose, raised}
use Rattle.cds_outside.specs.Told.{ClockTold, DoorTold, IsFresh, OutsideTold, and_moment, asked_then}
use Rattle.cds_serve.specs.Told.{IsMoment}
use Rattle.cds_serve.specs.Life.{AllAccepted, AreBootWords, AreCounts, AreFirstWords, Asks, AsksFor, Counts, EndsLife, FoldersBack, GaveOnce, IsCaused, KeepsEnded, OfFirst, Outer, StaysEnded, Stops, Takes, WritesLife, WritesLine, fault_of, life_asks, life_text, doors_back, served_line, serving_line, share_of, status_of, worker_asks}
use Rattle.cds_serve.specs.declared.fault.Fault.{Fault}
use Rattle.cds_serve.specs.declared.fault.Fault.TheVariants as fault
use Rattle.cds_serve.proofs.Rounds.{rose-more, rose-on}

-- ---- fronts of lists

take-front : {A : Type 0} (xs ys : List A) (n : ℕ) → take (length xs + n) (xs ++ ys) ≡ xs ++ take n ys
take-front [] ys n = ap (λ k. take k ys) (zero-plus n)
  where
    zero-plus : (n : ℕ) → 0 + n ≡ n
    zero-plus n = omega arith
take-front (x ∷ xs) ys n = ap (λ k. take k (x ∷ xs ++ ys)) (one-up (length xs) n) ∙ ap (λ l. x ∷ l) (take-front xs ys n)
  where
    one-up : (k n : ℕ) → suc k + n ≡ suc (k + n)
    one-up k n = omega arith

-- a front of a list is one of a longer list
front-more : {A : Type 0} (n : ℕ) (xs ys : List A) → (m : ℕ) × (take m (xs ++ ys) ≡ take n xs)
front-more zero xs ys = (0, refl)
front-more (suc n) [] ys = (0, refl)
front-more (suc n) (x ∷ xs) ys = let r = front-more n xs ys in (suc r.0, ap (λ l. x ∷ l) r.1)

-- ---- what the outside was asked for

pub asks-all : {A B : Type 0} (r : Result B Fault) (v : A) (xs ys : List Asked) (old mid new : Option (List Asked)) → AsksFor {A = A} (Ok v) xs old mid
    → AsksFor r ys mid new → AsksFor r (xs ++ ys) old new
asks-all (Ok w) v xs ys old mid new one other = λ list told. other (list ++ xs) (one list told) ∙ ap Some (append_assoc list xs ys)
asks-all (Err e) v xs ys old mid new one other = λ list told.
    let h = other (list ++ xs) (one list told) in
    (length xs + h.0, h.1 ∙ ap Some (append_assoc list xs (take h.0 ys) ∙ ap (λ l. list ++ l) (sym (take-front xs ys h.0))))

pub asks-front : (e : Fault) (xs ys : List Asked) (old new : Option (List Asked)) → AsksFor {A = ⊤} (Err e) xs old new
    → AsksFor {A = ⊤} (Err e) (xs ++ ys) old new
asks-front e xs ys old new one = λ list told.
    let h = one list told in
    let m = front-more h.0 xs ys in
    (m.0, h.1 ∙ ap (λ l. Some (list ++ l)) (sym m.1))

-- all of these, before an end
pub asks-stopped : {A : Type 0} (e : Fault) (v : A) (xs ys : List Asked) (old new : Option (List Asked)) → AsksFor {A = A} (Ok v) xs old new
    → AsksFor {A = ⊤} (Err e) (xs ++ ys) old new
asks-stopped e v xs ys old new one = λ list told.
    (length xs + 0, one list told ∙ ap (λ l. Some (list ++ l)) (sym (append-nil xs) ∙ sym (take-front xs ys 0)))

-- ---- causes

pub caused-as : (e : Fault) (P Q P' Q' : Type 0) → IsCaused {A = ⊤} (Err e) P Q → (P → P') → (Q → Q') → IsCaused {A = ⊤} (Err e) P' Q'
caused-as fault.Sink P Q P' Q' c f g = f c
caused-as fault.Mem P Q P' Q' c f g = tt
caused-as fault.Outside P Q P' Q' c f g = g c

pub cause-as : {A : Type 0} (r : Result A Fault) (P Q P' Q' : Type 0) → IsCaused r P Q → (P → P') → (Q → Q') → IsCaused r P' Q'
cause-as (Ok v) P Q P' Q' c f g = tt
cause-as {A} (Err e) P Q P' Q' c f g = caused-as e P Q P' Q' c f g

never : {P : Type 0} → ⊥ → P
never n = absurd n

-- at the exit of a `?`
pub exit : {B : Type 0} (P : Result B Fault → Type 0) (result : Result B Fault) (e : Fault) → IsErrAnd result (λ x. x ≡ e) → P (Err e) → P result
exit P (Ok v) e err p = absurd err
exit P (Err x) e err p = subst (λ (z : Fault). P (Err z)) (sym err) p

pub on-ok : {B : Type 0} (result : Result B Fault) (P : Type 0) → P → OnOk result P
on-ok (Ok v) P p = p
on-ok (Err e) P p = tt

-- all of these, whatever comes then
pub asks-over : {A B : Type 0} (result : Result B Fault) (v : A) (xs : List Asked) (old new : Option (List Asked)) → AsksFor {A = A} (Ok v) xs old new
    → AsksFor result xs old new
asks-over (Ok w) v xs old new one = one
asks-over {A} {B} (Err e) v xs old new one = subst (λ l. AsksFor {A = B} (Err e) l old new) (append-nil xs) (asks-stopped e v xs [] old new one)

-- ---- single asks

module _ {A : Type 0} (a : Asked) (old new : OutsideTold) (told : Told old.asked (λ list. new.asked ≡ Some (list ++ a ∷ [])))
    (up : old.faults ≤ new.faults) (others : new ≡ asked_then old new) where
  asks-ok : (v : A) → Asks {A = A} (Ok v) (a ∷ []) old new
  asks-ok v = record { asked = told; cause = tt; others = others; never_falls = up }

  asks-err : (e : OutsideFault) → OutsideRose {A = A} (Err e) old.faults new.faults → Asks {A = A} (Err (fault_of e)) (a ∷ []) old new
  asks-err outside_fault.Failed rose = record { asked = λ list is. (1, told list is); cause = rose; others = others; never_falls = up }
  asks-err outside_fault.Mem rose = record { asked = λ list is. (1, told list is); cause = tt; others = others; never_falls = up }

  pub asks-one : (answer : Result A OutsideFault) (result : Result A Fault) → IfOk answer (λ object. result ≡ Ok object)
      → IfErr answer (λ f. result ≡ Err (fault_of f)) → OutsideRose answer old.faults new.faults → Asks result (a ∷ []) old new
  asks-one (Ok v) result ok err rose = subst (λ r. Asks r (a ∷ []) old new) (sym ok) (asks-ok v)
  asks-one (Err e) result ok err rose = subst (λ r. Asks r (a ∷ []) old new) (sym err) (asks-err e rose)

-- what holds of an object that was given
pub same-fact : {A : Type 0} (answer : Result A OutsideFault) (result : Result A Fault) (P : A → Type 0) → IfOk answer (λ object. result ≡ Ok object)
    → IfErr answer (λ f. result ≡ Err (fault_of f)) → IfOk answer P → IfOk result P
same-fact (Ok v) result P ok err p = subst (λ r. IfOk r P) (sym ok) p
same-fact (Err e) result P ok err p = subst (λ r. IfOk r P) (sym err) tt

-- ---- asks one after another

pub beside-door : {A : Type 0} (r : Result A Fault) (xs : List Asked) (old new : OutsideTold) (door : DoorTold) → Asks r xs old new
    → Takes r xs old new door door
beside-door r xs old new door a = record {
  asked = a.asked;
  cause = cause-as r ⊥ (Rose old.faults new.faults) ⊥ _ a.cause (λ n. n) inl;
  others = a.others;
  never_falls = a.never_falls;
  none_given = refl;
  door_never_falls = omega arith;
}

pub takes-then : {A B : Type 0} (r : Result B Fault) (v : A) (xs ys : List Asked) (old mid new : OutsideTold) (door between after : DoorTold)
    → Takes {A = A} (Ok v) xs old mid door between → Takes r ys mid new between after → Takes r (xs ++ ys) old new door after
takes-then r v xs ys old mid new door between after a b = record {
  asked = asks-all r v xs ys old.asked mid.asked new.asked a.asked b.asked;
  cause = cause-as r ⊥ (Rose mid.faults new.faults ⊎ Rose between.faults after.faults) ⊥ _ b.cause (λ n. n) on;
  others = b.others ∙ ap (λ (t : OutsideTold). record t { faults = new.faults; asked = new.asked }) a.others;
  never_falls = le_trans a.never_falls b.never_falls;
  none_given = b.none_given ∙ a.none_given;
  door_never_falls = le_trans a.door_never_falls b.door_never_falls;
}
  where
    on : Rose mid.faults new.faults ⊎ Rose between.faults after.faults → Rose old.faults new.faults ⊎ Rose door.faults after.faults
    on (inl rose) = inl (rose-on old.faults mid.faults new.faults a.never_falls rose)
    on (inr rose) = inr (rose-on door.faults between.faults after.faults a.door_never_falls rose)

pub takes-front : {A B : Type 0} (e : Fault) (xs ys : List Asked) (old new : OutsideTold) (door after : DoorTold) → Takes {A = A} (Err e) xs old new door after
    → Takes {A = B} (Err e) (xs ++ ys) old new door after
takes-front e xs ys old new door after a = record {
  asked = asks-front e xs ys old.asked new.asked a.asked;
  cause = caused-as e ⊥ _ ⊥ _ a.cause (λ n. n) (λ q. q);
  others = a.others;
  never_falls = a.never_falls;
  none_given = a.none_given;
  door_never_falls = a.door_never_falls;
}

-- at an exit
pub takes-exit : {A B : Type 0} (result : Result B Fault) (e : Fault) (xs ys : List Asked) (old new : OutsideTold) (door after : DoorTold)
    → IsErrAnd result (λ x. x ≡ e) → Takes {A = A} (Err e) xs old new door after → Takes result (xs ++ ys) old new door after
takes-exit {A} {B} (Ok v) e xs ys old new door after err a = absurd err
takes-exit {A} {B} (Err x) e xs ys old new door after err a =
    subst (λ (z : Fault). Takes {A = B} (Err z) (xs ++ ys) old new door after) (sym err) (takes-front e xs ys old new door after a)

-- want of memory at an exit, after all these
pub takes-no-memory : {A B : Type 0} (result : Result B Fault) (v : A) (xs ys : List Asked) (old new : OutsideTold) (door after : DoorTold)
    → IsErrAnd result (λ x. x ≡ fault.Mem) → Takes {A = A} (Ok v) xs old new door after → Takes result (xs ++ ys) old new door after
takes-no-memory {A} {B} (Ok w) v xs ys old new door after err a = absurd err
takes-no-memory {A} {B} (Err x) v xs ys old new door after err a =
    subst (λ (z : Fault). Takes {A = B} (Err z) (xs ++ ys) old new door after) (sym err) (record {
      asked = asks-stopped fault.Mem v xs ys old.asked new.asked a.asked;
      cause = tt;
      others = a.others;
      never_falls = a.never_falls;
      none_given = a.none_given;
      door_never_falls = a.door_never_falls;
    })

-- a handle of the door, after all these
pub takes-handle : {A B : Type 0} (r : Result B Fault) (v : A) (xs : List Asked) (old new : OutsideTold) (door after : DoorTold)
    → Takes {A = A} (Ok v) xs old new door door → IsCaused r ⊥ (Rose door.faults after.faults) → after.connections ≡ door.connections
    → door.faults ≤ after.faults → Takes r xs old new door after
takes-handle (Ok w) v xs old new door after a cause same up = record {
  asked = a.asked;
  cause = tt;
  others = a.others;
  never_falls = a.never_falls;
  none_given = same;
  door_never_falls = up;
}
takes-handle {A} {B} (Err e) v xs old new door after a cause same up = record {
  asked = subst (λ l. AsksFor {A = B} (Err e) l old.asked new.asked) (append-nil xs) (asks-stopped e v xs [] old.asked new.asked a.asked);
  cause = caused-as e ⊥ (Rose door.faults after.faults) ⊥ _ cause (λ n. n) inr;
  others = a.others;
  never_falls = a.never_falls;
  none_given = same;
  door_never_falls = up;
}

pub takes-none : (old : OutsideTold) (door : DoorTold) → Takes {A = ⊤} (Ok tt) [] old old door door
takes-none old door = record {
  asked = λ list told. told ∙ ap Some (sym (append-nil list));
  cause = tt;
  others = refl;
  never_falls = omega arith;
  none_given = refl;
  door_never_falls = omega arith;
}

pub takes-ok : {A B : Type 0} (v : A) (w : B) (xs : List Asked) (old new : OutsideTold) (door after : DoorTold) → Takes {A = A} (Ok v) xs old new door after
    → Takes {A = B} (Ok w) xs old new door after
takes-ok v w xs old new door after a = record {
  asked = a.asked;
  cause = tt;
  others = a.others;
  never_falls = a.never_falls;
  none_given = a.none_given;
  door_never_falls = a.door_never_falls;
}

pub takes-as : {A : Type 0} (r : Result A Fault) (xs ys : List Asked) (old new : OutsideTold) (door after : DoorTold) → xs ≡ ys
    → Takes r xs old new door after → Takes r ys old new door after
takes-as r xs ys old new door after same a = subst (λ l. Takes r l old new door after) same a

-- so many workers, and as many more
pub workers-more : (path : List ℕ) (m n : ℕ) → worker_asks path m ++ worker_asks path n ≡ worker_asks path (m + n)
workers-more path zero n = ap (worker_asks path) (zero-plus n)
  where
    zero-plus : (n : ℕ) → n ≡ 0 + n
    zero-plus n = omega arith
workers-more path (suc m) n = ap (λ l. ForClock ∷ ForLink ∷ ForFolder path ∷ l) (workers-more path m n) ∙ ap (worker_asks path) (one-up m n)
  where
    one-up : (m n : ℕ) → suc (m + n) ≡ suc m + n
    one-up m n = omega arith

-- those of the first so many, of the next one, and of the others
pub worker-next : (path : List ℕ) (k : ℕ) → k < 4 → (worker_asks path k ++ worker_asks path 1) ++ worker_asks path (3 - k) ≡ worker_asks path 4
worker-next path k within =
    ap (λ l. l ++ worker_asks path (3 - k)) (workers-more path k 1) ∙ workers-more path (k + 1) (3 - k) ∙ ap (worker_asks path) (four k within)
  where
    four : (k : ℕ) → k < 4 → (k + 1) + (3 - k) ≡ 4
    four k within = omega (arith, within)

-- one element more, of which the same holds
pub all-more : {A : Type 0} (P : A → Type 0) (xs : List A) (x : A) → AllByRecursion P xs → P x → AllByRecursion P (xs ++ x ∷ [])
all-more P [] x all p = (p, tt)
all-more P (y ∷ ys) x all p = (all.0, all-more P ys x all.1 p)

pub all-front : {A : Type 0} (P : A → Type 0) (n : ℕ) (xs : List A) → AllByRecursion P xs → AllByRecursion P (take n xs)
all-front P zero xs all = tt
all-front P (suc n) [] all = tt
all-front P (suc n) (x ∷ xs) all = (all.0, all-front P n xs all.1)

-- of the first, and of the others
pub all-first : {A : Type 0} (P : A → Type 0) (xs ys : List A) (x : A) → xs ≡ x ∷ ys → AllByRecursion P xs → P x × AllByRecursion P ys
all-first P xs ys x is all = subst (AllByRecursion P) is all

pub all-at : {A : Type 0} (P : A → Type 0) (xs ys : List A) (x : A) → AllByRecursion P (xs ++ x ∷ ys) → P x
all-at P [] ys x all = all.0
all-at P (y ∷ xs) ys x all = all-at P xs ys x all.1

-- of the first, with one element more behind the others; where there was none, it is the first
pub first-more : {A : Type 0} (P Q : A → Type 0) (xs : List A) (x : A) (empty : Bool) → empty ≡ (length xs == 0) → (xs ≡ []) ⊎ OfFirst P xs
    → (IsTrue empty → Q x) → (IsFalse empty → (y : A) → P y → Q y) → OfFirst Q (xs ++ x ∷ [])
first-more P Q [] x empty is so one others = one is
first-more P Q (y ∷ ys) x empty is (inl none) one others = absurd (omega (arith, ap length none))
first-more P Q (y ∷ ys) x empty is (inr p) one others = others (is ∙ some (length ys)) y p
  where
    some : (n : ℕ) → (suc n == 0) ≡ false
    some n = grind (arith, nat_tests)

-- of the first, where there are some
pub first-there : {A : Type 0} (P : A → Type 0) (xs : List A) (n : ℕ) → length xs ≡ n → 0 < n → (xs ≡ []) ⊎ OfFirst P xs → OfFirst P xs
first-there P xs n many some (inl none) = absurd (omega (arith, many, some, ap length none))
first-there P xs n many some (inr p) = p

-- of one among all of which it holds
pub all-from : {A : Type 0} (P : A → Type 0) (all xs ys : List A) (x : A) → xs ++ x ∷ ys ≡ all → AllByRecursion P all → P x
all-from P all xs ys x is h = all-at P xs ys x (subst (AllByRecursion P) (sym is) h)

-- the workers that were taken so far, and one more
pub takes-next : {A : Type 0} (path : List ℕ) (k : ℕ) (n : ℕ) (v : A) (old mid new : OutsideTold) (door between after : DoorTold) → n ≡ k + 1
    → Takes {A = ⊤} (Ok tt) (worker_asks path k) old mid door between → Takes {A = A} (Ok v) (worker_asks path 1) mid new between after
    → Takes {A = ⊤} (Ok tt) (worker_asks path n) old new door after
takes-next path k n v old mid new door between after is one next =
    takes-as (Ok tt) (worker_asks path k ++ worker_asks path 1) (worker_asks path n) old new door after
    (workers-more path k 1 ∙ ap (worker_asks path) (sym is))
    (takes-ok v tt _ old new door after (takes-then (Ok v) tt (worker_asks path k) (worker_asks path 1) old mid new door between after one next))

-- ---- counts that come back

no-rose : {P : Type 0} (before faults : ℕ) → before ≡ 0 → faults ≡ 0 → Rose before faults → P
no-rose before faults none still (inl less) = absurd (omega (arith, none, still, less))
no-rose before faults none still (inr most) = absurd (omega (arith, still, most))

-- an object came back, with no faults or with a count that rose
pub rose-end : (old mid now new before faults : ℕ) → old ≤ mid → mid ≤ now → now ≤ new → before ≡ 0 → (faults ≡ 0) ⊎ Rose now new
    → Rose mid now ⊎ Rose before faults → Rose old new
rose-end old mid now new before faults up on later none back (inl rose) = rose-on old mid new up (rose-more mid now new rose later)
rose-end old mid now new before faults up on later none (inr rose) (inr its) = rose-on old now new (le_trans up on) rose
rose-end old mid now new before faults up on later none (inl still) (inr its) = no-rose before faults none still its

pub back-more : (faults old mid new : ℕ) → (faults ≡ 0) ⊎ Rose old mid → mid ≤ new → (faults ≡ 0) ⊎ Rose old new
back-more faults old mid new (inl none) up = inl none
back-more faults old mid new (inr rose) up = inr (rose-more old mid new rose up)

pub back-on : (faults old mid new : ℕ) → old ≤ mid → (faults ≡ 0) ⊎ Rose mid new → (faults ≡ 0) ⊎ Rose old new
back-on faults old mid new up (inl none) = inl none
back-on faults old mid new up (inr rose) = inr (rose-on old mid new up rose)

pub on-ok-as : {B : Type 0} (result : Result B Fault) (P Q : Type 0) → (P → Q) → OnOk result P → OnOk result Q
on-ok-as (Ok v) P Q f p = f p
on-ok-as (Err e) P Q f p = tt

-- an object with faults came back
pub rose-back : (old mid new before faults : ℕ) → before ≡ 0 → Rose before faults → new ≡ raised mid (min 1 faults) → old ≤ mid → Rose old new
rose-back old mid new before faults none (inl some) is up = once old mid new before faults (2 ^ 64 - 1) none some is up
  where
    once : (old mid new before faults top : ℕ) → before ≡ 0 → before < faults → new ≡ min (mid + min 1 faults) top → old ≤ mid → (old < new) ⊎ (top ≤ new)
    once old mid new before faults top none some is up = grind (arith, none, some, is, up)
rose-back old mid new before faults none (inr most) is up = once old mid new faults (2 ^ 64 - 1) most is up
  where
    once : (old mid new faults top : ℕ) → 2 ^ 64 - 1 ≤ faults → new ≡ min (mid + min 1 faults) top → old ≤ mid → (old < new) ⊎ (top ≤ new)
    once old mid new faults top most is up = grind (arith, most, is, up)

-- by the count of faults of an object that came back
pub came-back : (now new faults : ℕ) → new ≡ raised now (min 1 faults) → (faults ≡ 0) ⊎ Rose now new
came-back now new faults is = once now new faults (2 ^ 64 - 1) is
  where
    once : (now new faults top : ℕ) → new ≡ min (now + min 1 faults) top → (faults ≡ 0) ⊎ ((now < new) ⊎ (top ≤ new))
    once now new faults top is = grind (arith, is)

-- six jobs were started
pub six-started : (old new started none : ℕ) → none ≡ 0 → ((n : ℕ) → raised started n ≡ raised none (6 + n)) → new ≡ raised old started → new ≡ raised old 6
six-started old new started none empty six is = is ∙ ap (raised old) (by started none empty (six 0))
  where
    by : (started none : ℕ) → none ≡ 0 → raised started 0 ≡ raised none (6 + 0) → started ≡ 6
    by started none empty e = omega (arith, empty, e)

-- a door that gave nothing came back
pub gave-none : (old mid new requests given : ℕ) → given ≡ 0 → ((n : ℕ) → raised mid n ≡ raised old (requests + n)) → new ≡ raised mid given
    → new ≡ raised old requests
gave-none old mid new requests given empty all is =
    is ∙ ap (raised mid) empty ∙ all 0 ∙ ap (raised old) (plus-none requests)
  where
    plus-none : (n : ℕ) → n + 0 ≡ n
    plus-none n = omega arith

-- ---- what was written

some-is : {A : Type 0} (a b : List A) → Some a ≡ Some b → a ≡ b
some-is a b e = ap (λ o. unwrap_or o []) e

none-is-no : {A P : Type 0} (b : List A) → None ≡ Some b → P
none-is-no b e = absurd (true≢false (sym (ap is_some e)))

-- ---- the boot words

gave-one : (gave : Option (List ℕ)) → Told gave (λ list. list ≡ []) → (moment : ℕ) (now : Option (List ℕ)) → now ≡ and_moment moment gave
    → Told now (λ list. list ≡ moment ∷ [])
gave-one None none moment now is list told = none-is-no list (sym is ∙ told)
gave-one (Some gave) none moment now is list told =
    some-is list (moment ∷ []) (sym told ∙ is ∙ ap (λ (l : List ℕ). Some (l ++ moment ∷ [])) (none gave refl))

gave-once : (before clock : ClockTold) (moment : ℕ) → IsFresh before → IsMoment before clock 0 moment → GaveOnce clock moment
gave-once before clock moment fresh (inl is) =
    inl (ap (λ (t : ClockTold). t.last) is, gave-one before.gave fresh.1 moment clock.gave (ap (λ (t : ClockTold). t.gave) is))
gave-once before clock moment fresh (inr none) =
    inr (subst (λ (n : ℕ). Rose n clock.faults) fresh.2 none.0, none.1, λ list told. fresh.1 list (sym (ap (λ (t : ClockTold). t.gave) none.2) ∙ told))

pub first-words : (port : ℕ) (before clock : ClockTold) (boot : List ℕ) → IsFresh before → AreBootWords port before clock boot
    → AreFirstWords port clock boot
first-words port before clock boot fresh words = record {
  moment = words.moment;
  once = gave-once before clock words.moment fresh words.asked;
  words = words.words;
}

-- ---- counts

-- counts that are some, where nothing is told
abbrev once : Counts
once = record { accepted = 1; refused = 0; memory = 0 }

once-are : AreCounts once
once-are =
    let some : 1 ≤ 1 + 0 + 0 = omega arith in
    let one : 1 < 2 ^ 64 = omega arith in
    let none : 0 < 2 ^ 64 = omega arith in
    record { some = some; accepted = one; refused = none; memory = none }

module _ (port requests : ℕ) where
  front-counts : (e : Fault) (before after : Option (List ℕ)) → WritesLife {A = ⊤} (Err e) port requests before after
      → (counts : Counts) × AreCounts counts × Told before (λ held. HoldsPart held (life_text port requests counts) after)
  front-counts e None after w = (once, once-are, λ held told. none-is-no held told)
  front-counts e (Some bytes) after w =
      let c = w bytes refl in
      (c.0, c.1, λ held told. subst (λ h. HoldsPart h (life_text port requests c.0) after) (some-is bytes held told) c.2)

  -- nothing
  pub writes-none : (e : Fault) (before : Option (List ℕ)) → WritesLife {A = ⊤} (Err e) port requests before before
  writes-none e before = λ held told. (once, once-are, (0, omega arith, told ∙ ap Some (sym (append-nil held))))

  -- a front of the first line
  pub writes-first : (e : Fault) (before after : Option (List ℕ)) → WritesLine {A = ⊤} (Err e) (serving_line port) before after
      → WritesLife {A = ⊤} (Err e) port requests before after
  writes-first e before after w = λ held told.
      let h = w held told in
      let line = serving_line port in
      let more = served_line requests once in
      (once, once-are, (h.0, omega (arith, h.1, length-append line more), h.2 ∙ ap (λ l. Some (held ++ l)) (sym (take-within h.0 line more h.1))))
    where
      take-within : {A : Type 0} (n : ℕ) (xs ys : List A) → n ≤ length xs → take n (xs ++ ys) ≡ take n xs
      take-within zero xs ys within = refl
      take-within (suc n) [] ys within = absurd (omega (arith, within))
      take-within (suc n) (x ∷ xs) ys within = ap (λ l. x ∷ l) (take-within n xs ys (omega (arith, within)))

  -- the first line
  pub writes-one : {A : Type 0} (e : Fault) (v : A) (before after : Option (List ℕ)) → WritesLine {A = A} (Ok v) (serving_line port) before after
      → WritesLife {A = ⊤} (Err e) port requests before after
  writes-one e v before after w = λ held told.
      let line = serving_line port in
      let more = served_line requests once in (
        once,
        once-are,
        (
          length line + 0,
          omega (arith, length-append line more),
          w held told ∙ ap (λ l. Some (held ++ l)) (sym (append-nil line) ∙ sym (take-front line more 0)),
        ),
      )

  -- both lines, or the first and a front of the second
  pub writes-both : {A B : Type 0} (result : Result B Fault) (v : A) (counts : Counts) (before mid after : Option (List ℕ)) → AreCounts counts
      → AllAccepted port counts.accepted
      → WritesLine {A = A} (Ok v) (serving_line port) before mid → WritesLine result (served_line requests counts) mid after
      → WritesLife result port requests before after
  writes-both (Ok w) v counts before mid after are accepted one other = record {
    counts = counts;
    are_counts = are;
    written = λ held told.
        other (held ++ serving_line port) (one held told) ∙ ap Some (append_assoc held (serving_line port) (served_line requests counts));
    accepted = accepted;
  }
  writes-both (Err e) v counts before mid after are accepted one other = λ held told.
      let h = other (held ++ serving_line port) (one held told) in
      let line = serving_line port in
      let more = served_line requests counts in (
        counts,
        are,
        (
          length line + h.0,
          omega (arith, h.1, length-append line more),
          h.2 ∙ ap Some (append_assoc held line (take h.0 more) ∙ ap (λ l. held ++ l) (sym (take-front line more h.0))),
        ),
      )

-- nothing of a line
pub line-none : (e : Fault) (line : List ℕ) (before : Option (List ℕ)) → WritesLine {A = ⊤} (Err e) line before before
line-none e line before = λ held told. (0, omega arith, told ∙ ap Some (sym (append-nil held)))

pub line-as : {A : Type 0} (result : Result A Fault) (text line : List ℕ) (before after : Option (List ℕ)) → text ≡ line
    → WritesLine result text before after → WritesLine result line before after
line-as result text line before after same w = subst (λ l. WritesLine result l before after) same w

-- ---- the whole

module _ (port requests : ℕ) (path : List ℕ) (old new : Outer) where
  stops : (e : Fault) → WritesLife {A = ⊤} (Err e) port requests old.sink.holds new.sink.holds → AsksFor {A = ⊤} (Err e) (life_asks port path) old.outside.asked new.outside.asked
      → Stops port path requests old new
  stops e w a =
      let c = front-counts port requests e old.sink.holds new.sink.holds w in
      record { counts = c.0; are_counts = c.1; written = c.2; asked = a }

  by-result : (result : Result ⊤ Fault) → IsCaused result (Rose old.sink.faults new.sink.faults) (Rose old.outside.faults new.outside.faults)
      → WritesLife result port requests old.sink.holds new.sink.holds → AsksFor result (life_asks port path) old.outside.asked new.outside.asked
      → OnOk result (new.outside.connections ≡ raised old.outside.connections requests) → OnOk result (new.outside.started ≡ raised old.outside.started 6)
      → EndsLife port path requests (status_of result) old new
  by-result (Ok value) cause w a connections started = inl (
    refl,
    record {
      counts = w.counts;
      are_counts = w.are_counts;
      written = w.written;
      connections = connections;
      started = started;
      asked = a;
      accepted = w.accepted;
    },
  )
  by-result (Err fault.Sink) cause w a connections started = inr (inl (refl, cause, stops fault.Sink w a))
  by-result (Err fault.Mem) cause w a connections started = inr (inr (inl (refl, stops fault.Mem w a)))
  by-result (Err fault.Outside) cause w a connections started = inr (inr (inr (refl, cause, stops fault.Outside w a)))

  pub ends-life : (result : Result ⊤ Fault) (status : ℕ) → status ≡ status_of result
      → IsCaused result (Rose old.sink.faults new.sink.faults) (Rose old.outside.faults new.outside.faults)
      → WritesLife result port requests old.sink.holds new.sink.holds → AsksFor result (life_asks port path) old.outside.asked new.outside.asked
      → OnOk result (new.outside.connections ≡ raised old.outside.connections requests) → OnOk result (new.outside.started ≡ raised old.outside.started 6)
      → EndsLife port path requests status old new
  ends-life result status is cause w a connections started =
      subst (λ n. EndsLife port path requests n old new) (sym is) (by-result result cause w a connections started)

-- ---- the shares

abbrev pub shares_below : ℕ → ℕ → ℕ
shares_below requests zero = 0
shares_below requests (suc n) = shares_below requests n + share_of requests n

shares-by : ℕ → ℕ → ℕ
shares-by q m =
    0 + (q + (cond (nat_lt 0 m) 1 0)) + (q + (cond (nat_lt 1 m) 1 0)) + (q + (cond (nat_lt 2 m) 1 0)) + (q + (cond (nat_lt 3 m) 1 0))

pub all-shares : (requests : ℕ) → shares_below requests 4 ≡ requests
unfolding shares-by
all-shares requests = four (requests / 4) (requests % 4) (mod-lt requests (omega arith)) ∙ whole requests
  where
    whole : (n : ℕ) → (n / 4) * 4 + n % 4 ≡ n
    whole n = div-add-mod' n 4

    four : (q m : ℕ) → m < 4 → shares-by q m ≡ q * 4 + m
    four q zero small = let sum : shares-by q 0 ≡ 0 + (q + 0) + (q + 0) + (q + 0) + (q + 0) = refl in omega (arith, sum)
    four q (suc zero) small = let sum : shares-by q 1 ≡ 0 + (q + 1) + (q + 0) + (q + 0) + (q + 0) = refl in omega (arith, sum)
    four q (suc (suc zero)) small = let sum : shares-by q 2 ≡ 0 + (q + 1) + (q + 1) + (q + 0) + (q + 0) = refl in omega (arith, sum)
    four q (suc (suc (suc zero))) small = let sum : shares-by q 3 ≡ 0 + (q + 1) + (q + 1) + (q + 1) + (q + 0) = refl in omega (arith, sum)
    four q (suc (suc (suc (suc m)))) small = absurd (omega (arith, small))

pub shares-next : (requests n : ℕ) → shares_below requests (n + 1) ≡ shares_below requests n + share_of requests n
shares-next requests n = ap (shares_below requests) (one-up n)
  where
    one-up : (n : ℕ) → n + 1 ≡ suc n
    one-up n = omega arith

-- ---- what came back

pub keeps-on : (old mid new : OutsideTold) → StaysEnded old mid → StaysEnded mid new → StaysEnded old new
keeps-on old mid new one other = (other.0 ∙ one.0, other.1 ∙ one.1)

pub keeps : (old new same : OutsideTold) → new ≡ same → same.ended ≡ old.ended → same.ended_links ≡ old.ended_links → StaysEnded old new
keeps old new same is ended links = (ap (λ (t : OutsideTold). t.ended) is ∙ ended, ap (λ (t : OutsideTold). t.ended_links) is ∙ links)

-- nothing came back where the outside was asked; then a door did
pub keeps-asked : (old new : OutsideTold) → new ≡ asked_then old new → StaysEnded old new
keeps-asked old new is = keeps old new (asked_then old new) is refl refl

pub keeps-door : (old new : OutsideTold) → new ≡ record old { faults = new.faults; connections = new.connections } → StaysEnded old new
keeps-door old new is = keeps old new (record old { faults = new.faults; connections = new.connections }) is refl refl

-- no folder came back
pub no-folders : (n : ℕ) (old new : Option (List FolderTold)) → new ≡ old → FoldersBack n old new
no-folders n old new same list told = ([], omega arith, same ∙ told ∙ ap Some (sym (append-nil list)))

pub more-folders : (n m : ℕ) (old new : Option (List FolderTold)) → n ≤ m → FoldersBack n old new → FoldersBack m old new
more-folders n m old new less back list told =
    let b = back list told in
    (b.0, le_trans b.1 less, b.2)

-- one folder more came back
pub folder-more : (n m : ℕ) (old mid new : Option (List FolderTold)) (folder : FolderTold) → m ≡ n + 1 → FoldersBack n old mid
    → Told mid (λ list. new ≡ Some (list ++ folder ∷ [])) → FoldersBack m old new
folder-more n m old mid new folder is back one list told =
    let b = back list told in
    let longer : length (b.0 ++ folder ∷ []) ≡ length b.0 + 1 = length-append b.0 (folder ∷ []) in (
      b.0 ++ folder ∷ [],
      omega (arith, is, b.1, longer),
      one (list ++ b.0) b.2 ∙ ap Some (append_assoc list b.0 (folder ∷ [])),
    )

-- what came back of the whole: of folders no more than the workers had
pub keeps-all : (o0 o1 o2 o3 : OutsideTold) → StaysEnded o0 o1 → o2 ≡ doors_back o1 o2 → FoldersBack 4 o1.ended o2.ended → StaysEnded o2 o3
    → KeepsEnded o0 o3
keeps-all o0 o1 o2 o3 first doors folders last = (
  (λ list told. let b = folders list (first.0 ∙ told) in (b.0, b.1, last.0 ∙ b.2)),
  last.1 ∙ ap (λ (t : OutsideTold). t.ended_links) doors ∙ first.1,
)

pub keeps-none : (old new : OutsideTold) → StaysEnded old new → KeepsEnded old new
keeps-none old new stays = (no-folders 4 old.ended new.ended stays.0, stays.1)

-- two asks, one after the other
pub asked-twice : (old mid new : OutsideTold) → mid ≡ asked_then old mid → new ≡ asked_then mid new → new ≡ asked_then old new
asked-twice old mid new one other = other ∙ ap (λ (t : OutsideTold). record t { faults = new.faults; asked = new.asked }) one

-- ---- all jobs

-- a job that is what was passed has what that had
pub some-as : {A : Type 0} (o : Option A) (x : A) (P : A → Type 0) → IfSome o (λ r. r ≡ x) → P x → IfSome o P
some-as (Some v) x P same p = subst P (sym same) p
some-as None x P same p = tt

-- one worker more was joined, and its door came back
pub joined-more : (total served sum share whole : ℕ) (old mid new before faults : ℕ) → (total ≡ sum) ⊎ Rose old mid
    → (served ≡ share) ⊎ Rose before faults → before ≡ 0 → new ≡ raised mid (min 1 faults) → old ≤ mid → mid ≤ new → whole ≡ sum + share
    → (total + served ≡ whole) ⊎ Rose old new
joined-more total served sum share whole old mid new before faults (inl all) (inl its) none is up on sums = inl (omega (arith, all, its, sums))
joined-more total served sum share whole old mid new before faults (inl all) (inr rose) none is up on sums = inr (rose-back old mid new before faults none rose is up)
joined-more total served sum share whole old mid new before faults (inr rose) its none is up on sums = inr (rose-more old mid new rose on)

-- as many connections were served, although a folder came back
pub served-still : (total sum old mid new : ℕ) → (total ≡ sum) ⊎ Rose old mid → mid ≤ new → (total ≡ sum) ⊎ Rose old new
served-still total sum old mid new (inl all) on = inl all
served-still total sum old mid new (inr rose) on = inr (rose-more old mid new rose on)

-- doors and folders came back, so that this many folders had
abbrev pub doors-home : OutsideTold → OutsideTold → Option (List FolderTold) → OutsideTold
doors-home old new ended = record old { faults = new.faults; ended = ended; connections = new.connections }

-- the connections of one door more
pub gave-more : (old mid new total served before gave : ℕ) → ((n : ℕ) → raised mid n ≡ raised old (total + n)) → before ≡ 0
    → raised gave 0 ≡ raised before served → new ≡ raised mid gave → (n : ℕ) → raised new n ≡ raised old ((total + served) + n)
gave-more old mid new total served before gave so-far none its is n =
    more mid new served before gave n (2 ^ 64 - 1) none its is ∙ so-far (served + n) ∙ ap (raised old) (regrouped total served n)
  where
    more : (mid new served before gave n top : ℕ) → before ≡ 0 → min (gave + 0) top ≡ min (before + served) top → new ≡ min (mid + gave) top
        → min (new + n) top ≡ min (mid + (served + n)) top
    more mid new served before gave n top none its is = omega (arith, none, its, is)

    regrouped : (a b c : ℕ) → a + (b + c) ≡ (a + b) + c
    regrouped a b c = omega arith

-- a door gave one connection more
pub gave-next : (old mid new served : ℕ) → raised mid 0 ≡ raised old served → new ≡ raised mid 1 → raised new 0 ≡ raised old (served + 1)
gave-next old mid new served so-far one = next old mid new served (2 ^ 64 - 1) so-far one
  where
    next : (old mid new served top : ℕ) → min (mid + 0) top ≡ min (old + served) top → new ≡ min (mid + 1) top → min (new + 0) top ≡ min (old + (served + 1)) top
    next old mid new served top so-far one = omega (arith, so-far, one)

pub front-sum : {A : Type 0} (f : A → ℕ) (n : ℕ) (xs : List A) → sum_by f (take n xs) ≤ sum_by f xs
front-sum f zero xs = let none : sum_by f [] ≡ 0 = refl in omega (arith, none)
front-sum f (suc n) [] = omega arith
front-sum f (suc n) (x ∷ xs) = let h = front-sum f n xs in omega (arith, h, sum_by-cons f x xs, sum_by-cons f x (take n xs))

-- no more than four of four
pub front-few : {A : Type 0} (xs : List A) (n : ℕ) (ys : List A) → ys ≡ take n xs → length xs ≡ 4 → length ys ≤ 4
front-few xs n ys is four = omega (arith, ap length is, length-take-most n xs, four)
  where
    length-take-most : {A : Type 0} (n : ℕ) (xs : List A) → length (take n xs) ≤ length xs
    length-take-most zero xs = omega arith
    length-take-most (suc n) [] = omega arith
    length-take-most (suc n) (x ∷ xs) = let h = length-take-most n xs in omega (arith, h)

pub six-jobs : (k n : ℕ) → k ≡ 4 → k + 2 + n ≡ 6 + n
six-jobs k n four = omega (arith, four)

-- where none is there
pub none-then : {A : Type 0} (o : Option A) (P : Type 0) → is_some o ≡ false → IfNone o P → P
none-then (Some v) P is p = absurd (true≢false is)
none-then None P is p = p

-- fewer connections were served than all the shares
pub served-cut : (served sum requests : ℕ) (P : Type 0) → (served ≡ sum) ⊎ P → sum ≡ requests → served ≢ requests → P
served-cut served sum requests P (inl all) whole few = absurd (few (all ∙ whole))
served-cut served sum requests P (inr p) whole few = p

-- what comes of all jobs
module _ {A : Type 0} (started : Bool) (served requests : ℕ) (counts : Option A) where
  module _ (P Q : Type 0) (off : IsFalse started → Q) (cut : IsTrue started → served ≢ requests → P) (none : IsTrue started → IsNone counts → ⊥) where
    why : (b : Bool) → started ≡ b → IsFalse started ⊎ ((served ≢ requests) ⊎ IsNone counts) → P ⊎ Q
    why false is h = inr (off is)
    why true is (inl not-started) = inr (off not-started)
    why true is (inr (inl few)) = inl (cut is few)
    why true is (inr (inr nothing)) = absurd (none is nothing)

    pub crew-cause : (result : Result A Fault)
        → IfErr result (λ e. (e ≡ fault.Outside) × (IsFalse started ⊎ ((served ≢ requests) ⊎ IsNone counts))) → IsCaused result ⊥ (P ⊎ Q)
    crew-cause (Ok v) h = tt
    crew-cause (Err e) h = subst (λ (z : Fault). IsCaused {A = A} (Err z) ⊥ (P ⊎ Q)) (sym h.0) (why started refl h.1)
