use Rattle.std.proofs.Common.{refl, sym, ◌∙◌}
use Rattle.flow_space.proofs.Items.{none_of, head_rest}
use Rattle.flow_space.proofs.Parts.{ok_map, part_map, part_none}
use Rattle.flow_space.proofs.source.put_there.Goals as goal

pub returns-in-len1-up : goal.returns-in-len1-up
returns-in-len1-up c =
    let e = sym c.as_slice.ensures ∙ head_rest c.as_slice.result.now (record { node = 0; count = 0; place = 0 }) c.in-len1-up.len_at_least in
    ok_map c.put_unpacks.result (λ b. part_map (λ r gs f lo hi h. rw e h) (λ r x g w k. rw e k)) c.put_unpacks.ensures

pub returns-in-empty : goal.returns-in-empty
returns-in-empty c =
    let e = sym c.as_slice.ensures ∙ none_of c.as_slice.result.now c.in-empty.len_below in
    part_none _ (λ r gs f lo. rw e (refl, refl))
