use Rattle.std.proofs.Common.{◌∙◌, sym, subst, Bool}
use Rattle.cds_store.specs.SubtreeIndex.{is_kind, HasTop}
use Rattle.cds_store.proofs.SubtreeIndex.{head-of}
use Rattle.cds_store.proofs.subtrees.SubtreeIndex.head.Goals as goal

pub returns-then-contains : goal.returns-then-contains
returns-then-contains c = λ kind scan later knows closed member.
    subst (λ (b : Bool). HasTop (is_kind kind) scan c.args.path.now b c.in_ok-top.top) (sym c.contains.ensures ∙ c.if-contains.true)
    (head-of (is_kind kind) scan later c.args.self.now c.args.path.now c.in_ok-top.top knows closed member c.in_ok-top.ensures)

pub returns : goal.returns
returns c = λ kind scan later knows closed member. (
  c.in_ok-top.top,
  subst (λ (b : Bool). HasTop (is_kind kind) scan c.args.path.now b c.in_ok-top.top) (sym c.contains.ensures ∙ c.if-contains.false)
      (head-of (is_kind kind) scan later c.args.self.now c.args.path.now c.in_ok-top.top knows closed member c.in_ok-top.ensures),
)
