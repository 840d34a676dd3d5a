use Rattle.std.proofs.Common.{arith, ◌∙◌}
use Rattle.flow_space.proofs.Items.{first_rest, either_is}
use Rattle.flow_space.proofs.Noded.{apply_is, and_is, or_is, display_is, comprehension_is, over_is, up_is, from_is, attr_is, item_is, parts_is}
use Rattle.flow_space.proofs.narrow.+binds.Goals as goal

pub binds-returns-in-Apply : goal.binds-returns-in-Apply
binds-returns-in-Apply t c =
    λ sites.
    rw (c.in-Apply.is, apply_is) (rw c.as_slice.ensures at c.some_binds.ensures sites)

pub binds-returns-in-And : goal.binds-returns-in-And
binds-returns-in-And t c =
    λ sites.
    rw (c.in-And.is, and_is) (c.either.ensures ∙ either_is (rw c.get.ensures at c.binds-left.ensures sites) (rw c.get-in-And.ensures at c.binds-right.ensures sites))

pub binds-returns-in-Or : goal.binds-returns-in-Or
binds-returns-in-Or t c =
    λ sites.
    rw (c.in-Or.is, or_is) (c.either-in-Or.ensures ∙ either_is (rw c.get-in-Or.ensures at c.binds-left-in-Or.ensures sites) (rw c.get-in-Or-2.ensures at c.binds-right-in-Or.ensures sites))

pub binds-returns-in-Display : goal.binds-returns-in-Display
binds-returns-in-Display t c =
    λ sites.
    rw (c.in-Display.is, display_is) (rw c.as_slice-in-Display.ensures at c.pairs_bind.ensures sites)

pub binds-returns-in-Comprehension : goal.binds-returns-in-Comprehension
binds-returns-in-Comprehension t c =
    λ sites.
    rw (c.in-Comprehension.is, comprehension_is)
    (c.either-in-Comprehension-2.ensures
    ∙ either_is (rw c.get-in-Comprehension.ensures at c.binds-by_item.ensures sites)
    (c.either-in-Comprehension.ensures
    ∙ either_is (rw c.get-in-Comprehension-2.ensures at c.target_binds-by_target.ensures sites)
    (c.either-walk.ensures ∙ either_is (rw c.get-in-Comprehension-3.ensures at c.subject_binds-by_subject.ensures sites) (c.condition_binds-by_condition.ensures sites))))

pub condition_binds-returns-in-Some : goal.condition_binds-returns-in-Some
condition_binds-returns-in-Some t c =
    λ sites.
    rw c.in-Some.is (rw c.get.ensures at c.binds.ensures sites)

pub pairs_bind-returns-in-len1-up : goal.pairs_bind-returns-in-len1-up
pairs_bind-returns-in-len1-up t c =
    let e = first_rest c.args.pairs.now c.pair-item.result (omega arith) c.pair-item.is in
    λ sites.
    rw e (c.either-in-len1-up.ensures ∙ either_is (c.binds-key.ensures sites) (c.either.ensures ∙ either_is (c.binds-value.ensures sites) (c.pairs_bind-others.ensures sites)))

pub parts_bind-returns-in-len1-up : goal.parts_bind-returns-in-len1-up
parts_bind-returns-in-len1-up t c =
    let e = first_rest c.args.parts.now c.part-item.result (omega arith) c.part-item.is in
    λ sites.
    rw e (c.either.ensures ∙ either_is (c.target_binds-first.ensures sites) (c.parts_bind-others.ensures sites))

pub some_binds-returns-in-len1-up : goal.some_binds-returns-in-len1-up
some_binds-returns-in-len1-up t c =
    let e = first_rest c.args.es.now c.e-item.result (omega arith) c.e-item.is in
    λ sites.
    rw e (c.either.ensures ∙ either_is (c.binds-first.ensures sites) (c.some_binds-others.ensures sites))

pub subject_binds-returns-in-Over : goal.subject_binds-returns-in-Over
subject_binds-returns-in-Over t c =
    λ sites.
    rw (c.in-Over.is, over_is) (c.binds.ensures sites)

pub subject_binds-returns-in-UpTo : goal.subject_binds-returns-in-UpTo
subject_binds-returns-in-UpTo t c =
    λ sites.
    rw (c.in-UpTo.is, up_is) (c.binds-in-UpTo.ensures sites)

pub subject_binds-returns-in-FromTo : goal.subject_binds-returns-in-FromTo
subject_binds-returns-in-FromTo t c =
    λ sites.
    rw (c.in-FromTo.is, from_is) (c.either.ensures ∙ either_is (c.binds-left.ensures sites) (c.binds-right.ensures sites))

pub target_binds-returns-in-Attr : goal.target_binds-returns-in-Attr
target_binds-returns-in-Attr t c =
    λ sites.
    rw (c.in-Attr.is, attr_is) (c.binds.ensures sites)

pub target_binds-returns-in-Item : goal.target_binds-returns-in-Item
target_binds-returns-in-Item t c =
    λ sites.
    rw (c.in-Item.is, item_is) (c.either.ensures ∙ either_is (c.binds-left.ensures sites) (c.binds-right.ensures sites))

pub target_binds-returns-in-Parts : goal.target_binds-returns-in-Parts
target_binds-returns-in-Parts t c =
    λ sites.
    rw (c.in-Parts.is, parts_is) (rw c.as_slice.ensures at c.parts_bind.ensures sites)
