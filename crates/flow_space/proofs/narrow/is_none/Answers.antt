use Rattle.flow_space.proofs.Noded.{constant_is}
use Rattle.flow_space.proofs.narrow.is_none.Goals as goal

pub returns-in-Constant : goal.returns-in-Constant
returns-in-Constant c = λ sites. rw (c.in-Constant.is, constant_is) (c.is_nothing.ensures sites c.in-Constant.field-0 c.in-Constant.value)
