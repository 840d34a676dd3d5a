use Rattle.std.proofs.Common.{◌∷◌, [], false, subst, inl, inr}
use Rattle.std.specs.Prelude.{IfOk}
use Rattle.rpy_meaning.specs.declared.row.RowOp.TheVariants as row
use Rattle.flow_space.specs.Placed.{Part, ActsAt}
use Rattle.flow_space.proofs.Items.{none_of, head_rest}
use Rattle.flow_space.proofs.Parts.{either, helps, ok_map, part_map, part_then}
use Rattle.flow_space.proofs.source.+unpacks.Goals as goal

pub returns-in_ok-jump-in-empty : goal.returns-in_ok-jump-in-empty
returns-in_ok-jump-in-empty t c =
    let e = none_of c.args.rest.now c.in-empty.len_below in
    let act = subst (λ j. IfOk c.put_unpack.result (λ b. Part c.args.code.now.blocks c.put_unpack.new.code.blocks (ActsAt c.args.scope.now b c.args.item.node false (row.Unpack c.args.item.count c.args.item.place) (c.args.at ∷ []) c.args.all j))) c.in_ok-jump-in-empty.ensures c.put_unpack.ensures in
    ok_map c.put_unpack.result (λ b. part_map (λ r gs f lo hi h. rw e h) (λ r x g w k. rw e (inl (helps k)))) act

pub returns-in_ok-jump-in-len1-up : goal.returns-in_ok-jump-in-len1-up
returns-in_ok-jump-in-len1-up t c =
    let later = rw c.in_ok-wide-in-len1-up.ensures at c.in_ok-later-in-len1-up.ensures in
    let act = rw c.in_ok-jump-in-len1-up.ensures at c.put_unpack-in-len1-up.ensures in
    let e = head_rest c.args.rest.now (record { node = 0; count = 0; place = 0 }) c.in-len1-up.len_at_least in
    ok_map c.put_unpack-in-len1-up.result (λ b h. part_map (λ r gs f lo hi k. rw e (c.in_ok-later-in-len1-up.later, k.0, k.1, k.2)) (λ r x g w k. rw e (either (λ a. inr a) (λ a. inl (helps a)) k)) (part_then later h)) act
