use Rattle.std.proofs.Common.{◌≡◌, ◌∙◌, true, Bool, ap, subst, refl, not, cond, ℕ, List}
use Rattle.std.specs.BTreeMap.{is_at}
use Rattle.std.specs.BTreeSet.{contains}
use Rattle.cds_object.specs.Path.{path_cmp}
use Rattle.cds_changes.specs.Subtrees.{IsMarked}
use Rattle.cds_changes.proofs.Marks.{done_at}
use Rattle.cds_store.specs.declared.subtrees.SubtreeIndex.{SubtreeIndex}
use Rattle.cds_store.specs.SubtreeIndex.{is_kind, IsHeadOf}
use Rattle.cds_store.proofs.SubtreeIndex.{said-none, said-some, closed-kind, is-member}
use Rattle.cds_store.proofs.subtrees.SubtreeIndex.look.Goals as goal

pub returns-in_default : goal.returns-in_default
returns-in_default c = λ kind scan later earlier change knows orderly parted of at.
    said-none kind scan later earlier change c.args.self.now c.args.path.now knows orderly parted of at
    (subst (IsHeadOf (is_kind kind) scan c.args.path.now) c.in_default.is
    (c.in_ok-head.ensures kind scan later knows (closed-kind kind scan orderly) (is-member (is_kind kind) scan later earlier change c.args.path.now parted of at)))

pub returns-then-branch : goal.returns-then-branch
returns-then-branch c = λ kind scan later earlier change knows orderly parted of at.
    let new : SubtreeIndex = record { places = c.args.self.now.places; folders = c.args.self.now.folders; seen = c.insert.new.self } in
    let same = c.in_ok-seen.ensures in
    let found = said-some kind scan later earlier change c.args.self.now new c.args.path.now c.in-Some.head c.in_ok-insert.field-0 knows orderly parted of at
    (subst (IsHeadOf (is_kind kind) scan c.args.path.now) c.in-Some.is
    (c.in_ok-head.ensures kind scan later knows (closed-kind kind scan orderly) (is-member (is_kind kind) scan later earlier change c.args.path.now parted of at)))
    refl refl
    (λ q. subst (λ (k : List (List ℕ)). contains path_cmp c.insert.new.self q ≡ cond (is_at (path_cmp k) q) true (contains path_cmp c.args.self.now.seen q)) c.in_ok-seen.ensures
    (c.in_ok-insert.ensures.updates.0 q))
    (c.in_ok-insert.ensures.added ∙ ap (λ k. not (contains path_cmp c.args.self.now.seen k)) c.in_ok-seen.ensures) in
    (found.0, subst (λ (b : Bool). IsMarked scan change earlier true (done_at b c.in-Some.head)) c.if-branch.true found.1)

pub returns : goal.returns
returns c = λ kind scan later earlier change knows orderly parted of at.
    let new : SubtreeIndex = record { places = c.args.self.now.places; folders = c.args.self.now.folders; seen = c.insert.new.self } in
    let found = said-some kind scan later earlier change c.args.self.now new c.args.path.now c.in-Some.head c.in_ok-insert.field-0 knows orderly parted of at
    (subst (IsHeadOf (is_kind kind) scan c.args.path.now) c.in-Some.is
    (c.in_ok-head.ensures kind scan later knows (closed-kind kind scan orderly) (is-member (is_kind kind) scan later earlier change c.args.path.now parted of at)))
    refl refl
    (λ q. subst (λ (k : List (List ℕ)). contains path_cmp c.insert.new.self q ≡ cond (is_at (path_cmp k) q) true (contains path_cmp c.args.self.now.seen q)) c.in_ok-seen.ensures
    (c.in_ok-insert.ensures.updates.0 q))
    (c.in_ok-insert.ensures.added ∙ ap (λ k. not (contains path_cmp c.args.self.now.seen k)) c.in_ok-seen.ensures) in
    (found.0, subst (λ (b : Bool). IsMarked scan change earlier true (done_at b c.in-Some.head)) c.if-branch.false found.1)
