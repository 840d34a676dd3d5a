use Rattle.std.proofs.Common.{inl, inr}
use Rattle.flow_space.proofs.Noded.{name_is, attr_is, item_is, parts_is}
use Rattle.flow_space.proofs.Parts.{ok_map, part_map}
use Rattle.flow_space.proofs.statement.put_augment.Goals as goal

pub returns-in-Name : goal.returns-in-Name
returns-in-Name c = ok_map c.put_augment_name.result (λ b. part_map (λ r gs f lo hi h. rw (c.in-Name.is, name_is) h) (λ r x g w k. rw (c.in-Name.is, name_is) k)) c.put_augment_name.ensures

pub returns-in-Attr : goal.returns-in-Attr
returns-in-Attr c = ok_map c.put_augment_attr.result (λ b. part_map (λ r gs f lo hi h. rw (c.in-Attr.is, attr_is) h) (λ r x g w k. rw (c.in-Attr.is, attr_is) k)) c.put_augment_attr.ensures

pub returns-in-Item : goal.returns-in-Item
returns-in-Item c = ok_map c.put_augment_item.result (λ b. part_map (λ r gs f lo hi h. rw (c.in-Item.is, item_is) h) (λ r x g w k. rw (c.in-Item.is, item_is) k)) c.put_augment_item.ensures

pub returns-in_ok-jump-in-Parts : goal.returns-in_ok-jump-in-Parts
returns-in_ok-jump-in-Parts c =
    let act = rw (c.op_at.ensures, c.new-none.ensures, c.in_ok-jump-in-Parts.ensures) at c.put_op.ensures in
    ok_map c.put_op.result (λ b. part_map (λ r gs f lo hi h. rw (c.in-Parts.is, parts_is) h) (λ r x g w k. rw (c.in-Parts.is, parts_is) (inr (inr (inl (inl (inl k))))))) act
