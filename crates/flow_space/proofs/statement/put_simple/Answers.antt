use Rattle.std.proofs.Common.{refl, inr}
use Rattle.flow_space.proofs.Noded.{pass_is, break_is, continue_is, return_is, do_is, assign_is, augment_is}
use Rattle.flow_space.proofs.Parts.{ok_map, part_map, part_none}
use Rattle.flow_space.proofs.statement.put_simple.Goals as goal

pub returns-in-Break : goal.returns-in-Break
returns-in-Break c = ok_map c.put_aim.result (λ b. part_map (λ r gs f lo hi h. rw (c.in-Break.is, break_is) h) (λ r x g w k. absurd k)) c.put_aim.ensures

pub returns-in-Continue : goal.returns-in-Continue
returns-in-Continue c = ok_map c.put_aim-in-Continue.result (λ b. part_map (λ r gs f lo hi h. rw (c.in-Continue.is, continue_is) h) (λ r x g w k. absurd k)) c.put_aim-in-Continue.ensures

pub returns-in-Return : goal.returns-in-Return
returns-in-Return c = ok_map c.put_return.result (λ b. part_map (λ r gs f lo hi h. rw (c.in-Return.is, return_is) h) (λ r x g w k. rw (c.in-Return.is, return_is) k)) c.put_return.ensures

pub returns-in-Do : goal.returns-in-Do
returns-in-Do c = ok_map c.put_do.result (λ b. part_map (λ r gs f lo hi h. rw (c.in-Do.is, do_is) h) (λ r x g w k. rw (c.in-Do.is, do_is) (inr k))) c.put_do.ensures

pub returns-in-Assign : goal.returns-in-Assign
returns-in-Assign c =
    let e = rw c.as_slice.ensures at c.put_assign.ensures in
    ok_map c.put_assign.result (λ b. part_map (λ r gs f lo hi h. rw (c.in-Assign.is, assign_is) h) (λ r x g w k. rw (c.in-Assign.is, assign_is) (inr k))) e

pub returns-in-Augment : goal.returns-in-Augment
returns-in-Augment c = ok_map c.put_augment.result (λ b. part_map (λ r gs f lo hi h. rw (c.in-Augment.is, augment_is) h) (λ r x g w k. rw (c.in-Augment.is, augment_is) k)) c.put_augment.ensures

pub returns-in-Pass : goal.returns-in-Pass
returns-in-Pass c = part_none _ (λ r gs f lo. rw (c.in-Pass.is, pass_is) (refl, refl))
